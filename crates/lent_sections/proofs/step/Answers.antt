use Rattle.std.proofs.Common.{rules}
use Rattle.lent_sections.proofs.Laws.{fits-pack, lent-call}
use Rattle.lent_sections.proofs.step.Goals as goal

pub moved-next-requires : goal.moved-next-requires
moved-next-requires c = fits-pack c.read_section-answer.ensures (search rules)

pub returns : goal.returns
returns c = lent-call c.read_section-answer.ensures c.moved-next.ensures
