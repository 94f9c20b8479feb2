use Rattle.std.proofs.Common.{sym}
use Rattle.repeat_search.proofs.Marks.{mark-new}
use Rattle.repeat_search.proofs.Tables.{standing-text, standing-exempt, standing-seen}
use Rattle.repeat_search.proofs.repeats_one.Goals as goal
use Rattle.repeat_search.proofs.repeats_one.Goals.{then-marks-m-via-then-marks-m, then-marks-m-via-else-marks-m+then-exempt}

pub exempt-requires : goal.exempt-requires
exempt-requires c = standing-text c.requires.0

pub returns-then-marks-m : goal.returns-then-marks-m
returns-then-marks-m c =
    elim c.then-marks-m.branch [
      | then-marks-m-via-then-marks-m w ↦ mark-new c.requires.0 c.requires.1 c.requires.2 w.if-marks-m.true
      | then-marks-m-via-else-marks-m+then-exempt w ↦ sym (standing-exempt c.requires.0 w.exempt.ensures w.if-exempt.true)
    ]

pub returns : goal.returns
returns c = sym (standing-seen c.requires.0 c.exempt.ensures c.if-exempt.false c.seen.ensures)
