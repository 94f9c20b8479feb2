use Rattle.std.proofs.Common.{◌∙◌}
use Rattle.repeat_search.proofs.Tables.{standing-text, standing-seen}
use Rattle.repeat_search.proofs.Filters.{probed-skips, probed-outside, probed-lacks, probed-new, probed-exempt, probed-unseen}
use Rattle.repeat_search.proofs.probed.Goals as goal
use Rattle.repeat_search.proofs.probed.Goals.{then-exclude-via-then-exclude, then-exclude-via-else-exclude+then-lacks, then-enter-via-then-enter, then-enter-via-else-enter+then-exempt}

pub skips-requires : goal.skips-requires
skips-requires c = (standing-text c.requires.0, c.requires.2)

pub returns-then-skips : goal.returns-then-skips
returns-then-skips c = probed-skips _ c.requires.0 c.requires.1 c.skips.ensures c.if-skips.true

pub returns-then-exclude : goal.returns-then-exclude
returns-then-exclude c =
    elim c.then-exclude.branch [
      | then-exclude-via-then-exclude w ↦ probed-outside _ c.requires.0 c.requires.1 c.hash_key-h.ensures c.exclude.ensures w.if-exclude.true
      | then-exclude-via-else-exclude+then-lacks w ↦ probed-lacks _ c.requires.0 c.requires.1 c.hash_key-h.ensures w.lacks.ensures w.if-lacks.true
    ]

pub exempt-requires : goal.exempt-requires
exempt-requires c = standing-text c.requires.0

pub returns-then-enter : goal.returns-then-enter
returns-then-enter c =
    elim c.then-enter.branch [
      | then-enter-via-then-enter w ↦ probed-new _ c.requires.0 c.requires.1 c.hash_key-h.ensures c.enter.ensures w.if-enter.true
      | then-enter-via-else-enter+then-exempt w ↦ probed-exempt _ c.requires.0 c.requires.1 c.hash_key-h.ensures c.enter.ensures w.exempt.ensures w.if-exempt.true
    ]

pub returns-then-seen : goal.returns-then-seen
returns-then-seen c = standing-seen c.requires.0 c.exempt.ensures c.if-exempt.false c.seen.ensures ∙ c.if-seen.true

pub returns : goal.returns
returns c =
    probed-unseen _ c.requires.0 c.requires.1 c.hash_key-h.ensures c.enter.ensures c.exempt.ensures c.if-exempt.false c.seen.ensures c.if-seen.false
