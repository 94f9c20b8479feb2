-- The laws of the reading contract, as one ruleset: sequence, number, list, variant, optional part, questions with no
-- bytes.
use Rattle.reader.proofs.Laws.{field_then, empty_then, at-step, at-refused, ready_at, number_just, number_lost, got-ready, turns-start, turns_more, turns-refused, turns-done}
use Rattle.reader.proofs.Parts.{part_not, list_done, list-refused, choose_at, optional-none, optional-some, span-ready}
use Rattle.reader.proofs.Asks.{asks_none, asks-deny, asks-poor, asks-paid, behind, follow_then}

pub ruleset reading = (field_then, empty_then, at-step, at-refused, ready_at, number_just, number_lost, got-ready, span-ready, part_not, turns-start, turns_more, turns-refused, turns-done, list_done, list-refused, choose_at, optional-none, optional-some, asks_none, asks-deny, asks-poor, asks-paid, behind, follow_then)
