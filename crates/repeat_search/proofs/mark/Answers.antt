use Rattle.std.proofs.Common.{refl}
use Rattle.repeat_search.proofs.Marks.{mark-alike}
use Rattle.repeat_search.proofs.mark.Goals as goal

pub returns-in-Alike : goal.returns-in-Alike
returns-in-Alike c = mark-alike c.in-Alike.is c.hash_folded.ensures refl
