use Rattle.in_place.proofs.Places.{runtime-package}
use Rattle.repeat_search.proofs.hash_package.Goals as goal

pub hash_text-requires : goal.hash_text-requires
hash_text-requires c = runtime-package c.requires c.package_at.ensures
