use Rattle.std.proofs.Common.{refl}
use Rattle.repeat_search.proofs.Marks.{text-mark}
use Rattle.repeat_search.proofs.mark_text.Goals as goal

pub returns : goal.returns
returns c = text-mark c.requires c.word_at-n.ensures c.from.ensures refl
