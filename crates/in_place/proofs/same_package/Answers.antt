use Rattle.std.proofs.Common.{rules}
use Rattle.in_place.proofs.Places.{runtime-name, runtime-package}
use Rattle.in_place.proofs.same_package.Goals as goal

pub same_text-requires : goal.same_text-requires
same_text-requires c = search (rules, runtime-name, runtime-package)
