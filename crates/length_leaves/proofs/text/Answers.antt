use Rattle.length_leaves.proofs.Texts.{checked-got, checked-not}
use Rattle.length_leaves.proofs.text.Goals as goal

pub returns-in_default : goal.returns-in_default
returns-in_default c = checked-not c.requires c.in_default.is c.scan_at.ensures c.refuse.ensures

pub returns : goal.returns
returns c = checked-got c.requires c.in-Some.is c.scan_at.ensures
