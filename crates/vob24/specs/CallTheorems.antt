-- What a call answers, by how its charge list ends and by what budget and tape reach: every case, and only these.
use Rattle.std.specs.Prelude.{ℕ, ◌+◌, ◌-◌, ◌≤◌, ◌≡◌, List, ◌++◌, take}
use Rattle.std.proofs.Math.ListN.{length, drop}
use Rattle.format.specs.Trace.{Trace, amounts, sum, total, Ends, spent, settle, Longest, Charge}
use Rattle.format.specs.Format.{Value, Format}
use Rattle.format.specs.Reading.{trace}
use Rattle.format.specs.Record.{words}
use Rattle.vob24.specs.Calls.{Answer, Taken, Refused, closing}

-- The budget left in an answer.
abbrev pub left_of : Answer → ℕ
left_of (Taken w n c l) = l
left_of (Refused w p l) = l

-- Demand 3: "the sum charged plus the budget left is the starting budget. The sum is that of the longest opening part
-- of the file's charge list that the starting budget covers."
pub record Account (ns : List ℕ) (b l : ℕ) : Type 0 where
  pub paid : ℕ
  pub longest : Longest b ns paid
  pub balance : sum (take paid ns) + l ≡ b

-- Taken: the charge list ends with a value, its sum is charged, the record of the value is written, and nothing else.
pub record IsTaken (f : Format) (t : Trace Value) (a b : ℕ) (tape : List ℕ) (w n c l : ℕ) : Type 0 where
  pub value : Value
  pub place : ℕ
  pub ends : Ends t value place
  pub reaches : total t ≤ b
  pub counts : w ≡ length (words f value)
  pub room : w ≤ length tape
  pub bytes : n ≡ place - a
  pub charged : c ≡ total t
  pub leaves : l ≡ b - total t
  pub writes : (closing f a b tape (settle b t)).tape ≡ words f value ++ drop w tape

-- "Refused at a charge is 5 with that charge's context, its amount as d1, and as d2 and left the starting budget less
-- all charges before it": the charge after the longest opening part that the budget covers, the first that can't be
-- paid.
pub record IsBroke (t : Trace Value) (b : ℕ) (q : Answer) : Type 0 where
  pub number : ℕ
  pub context : ℕ
  pub amount : ℕ
  pub place : ℕ
  pub there : Charge t number context amount place
  pub longest : Longest b (amounts t) number
  pub is : q ≡ (let l = b - sum (take number (amounts t)) in Refused (spent context amount l) place l)

-- What a call reads: between its own questions, the format f of the file s from the place a on.
pub record Reads (f : Format) (t : Trace Value) (s : List ℕ) (a : ℕ) : Type 0 where
  pub inner : {v : Value} {q : ℕ} → Ends t v q → Ends (trace f s a) v q × (total t ≡ total (trace f s a))
