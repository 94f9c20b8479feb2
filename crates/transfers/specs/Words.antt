-- The questions on transfer words.
use Rattle.std.specs.Prelude.{ℕ, ◌+◌, ◌<◌, List, ◌++◌, length}
use Rattle.format.specs.Format.{Value, Ask}
use Rattle.vob24.specs.Leaves.{packed_ok}
use Rattle.vob24.specs.Questions.{refuse_unless, function_wrong}
use Rattle.vob24.specs.Grammar.{transferred, transfer}
use Rattle.in_place.specs.Contract.{Placed}

-- 20: the words meta and rttid of the entry numbered i; c is the context of the meta word
unfoldable pub transfer_asks : ℕ → ℕ → Value → List Ask
transfer_asks c i v =
    refuse_unless (packed_ok (transferred v).0) (function_wrong c i (transferred v).0)
    ++ refuse_unless (packed_ok (transferred v).1) (function_wrong (c + 1) i (transferred v).1)

abbrev pub transfer_over : ℕ → List Value → Value → List Ask
transfer_over c before v = transfer_asks c (length before) v

-- A transfer entry at p, and the context of its meta word.
pub record TransferAt (s : List ℕ) (context p : ℕ) : Type 0 where
  pub here : Placed transfer s p
  pub low : context < 4
