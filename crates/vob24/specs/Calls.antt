-- The calls: what each answers, and what it leaves on the tape, for every pack, budget and tape.
use Rattle.std.specs.Prelude.{ℕ, ◌+◌, ◌-◌, List, [], ◌∷◌, ◌++◌, length, drop, leb, eqb}
use Rattle.format.specs.Trace.{Wrong, wrong, Trace, end, bind, guard, pick, Settled, refused, taken, settle}
use Rattle.format.specs.Format.{Value, start, content, Format, entries}
use Rattle.format.specs.Reading.{part, same, trace}
use Rattle.format.specs.Record.{words}
use Rattle.vob24.specs.Refusals
use Rattle.vob24.specs.Settings.{Settings, max_pack_bytes, starting_budget}
use Rattle.vob24.specs.Fields.{artifact_of}
use Rattle.vob24.specs.Grammar.{Section, artifacts, section, pack}
use Rattle.vob24.specs.Cost.{part_of}

-- "An answer is taken (words, bytes taken, charged, left) or refused (number, c, d1, d2, place, left)."
pub data Answer : Type 0 where
  Taken : (words bytes charged left : ℕ) → Answer
  Refused : Wrong → (place left : ℕ) → Answer

-- The answer, and the tape at exit.
pub record Outcome : Type 0 where
  pub answer : Answer
  pub tape : List ℕ

-- "Length at most 134,217,728? 1 (d1 length, d2 maximum)."
abbrev pub too_large : ℕ → Wrong
too_large n = record { number = Refusals.input_too_large; context = 0; detail1 = n; detail2 = max_pack_bytes }

-- "Tape long enough? 26 NoRoom (d1 needed, d2 length)."
abbrev pub no_room_for : ℕ → ℕ → Wrong
no_room_for needed n = record { number = Refusals.no_room; context = 0; detail1 = needed; detail2 = n }

-- The charge list of the call on a whole pack: "Nothing after the end? 24 (d1 bytes left)."
unfoldable pub whole_trace : Settings → List ℕ → Trace Value
whole_trace set s =
    guard (leb (length s) max_pack_bytes) (too_large (length s)) 0
    (bind (trace (pack set) s 0) (λ v q. guard (eqb q (length s)) (wrong Refusals.trailing_bytes (length s - q)) q (end v q)))

-- That of a section call: "question 1 first; then a place past the end gives 2; both show the place and budget as
-- given."
unfoldable pub section_trace : Settings → ℕ → Section → List ℕ → ℕ → Trace Value
section_trace set n x s p =
    guard (leb (length s) max_pack_bytes) (too_large (length s)) p
    (guard (leb p (length s)) (wrong Refusals.unexpected_eof 0) p (trace (section set n x) s p))

-- "The tape is written only after the whole pack, or the section called, has passed": the record from the first word
-- on, and the rest of the tape as it was; or 26, and the tape as it was. Document 01's tape enough is `length ws ≤
-- length t`. Bytes are counted from the place a, the budget was b.
abbrev pub written : ℕ → ℕ → List ℕ → List ℕ → ℕ → ℕ → Outcome
written a b t ws p l =
    pick (leb (length ws) (length t))
    (record { answer = Taken (length ws) (p - a) (b - l) l; tape = ws ++ drop (length ws) t })
    (record { answer = Refused (no_room_for (length ws) (length t)) p l; tape = t })

abbrev pub closing : Format → ℕ → ℕ → List ℕ → Settled Value → Outcome
closing f a b t (refused w p l) = record { answer = Refused w p l; tape = t }
closing f a b t (taken v p l) = written a b t (words f v) p l

-- The call on a whole pack: a pack, a budget, a tape.
unfoldable pub read_outcome : Settings → List ℕ → ℕ → List ℕ → Outcome
read_outcome set s b t = closing (pack set) 0 b t (settle b (whole_trace set s))

-- The call on a section, from a place; the number of functions bounds the inline sources.
unfoldable pub section_outcome : Settings → ℕ → Section → List ℕ → ℕ → ℕ → List ℕ → Outcome
section_outcome set n x s p b t = closing (section set n x) p b t (settle b (section_trace set n x s p))

-- "Place and budget, in one struct lent and advanced, for the section calls."
pub record Position : Type 0 where
  pub place : ℕ
  pub budget : ℕ

-- Past the bytes taken, with what is left. "A refusal leaves it unmoved."
abbrev pub moved : Position → Answer → Position
moved at (Taken w n c l) = record { place = at.place + n; budget = l }
moved at (Refused w p l) = at

-- The answer, the tape at exit, and the position at exit.
pub record LentOutcome : Type 0 where
  pub answer : Answer
  pub tape : List ℕ
  pub position : Position

abbrev pub advancing : Position → Outcome → LentOutcome
advancing at o = record { answer = o.answer; tape = o.tape; position = moved at o.answer }

-- The call on a section that is lent its position: the call from this place under this budget.
unfoldable pub lent_outcome : Settings → ℕ → Section → List ℕ → Position → List ℕ → LentOutcome
lent_outcome set n x s at t = advancing at (section_outcome set n x s at.place at.budget t)

-- The lookup: start and length of the payload, or the refusal.
pub data Found : Type 0 where
  At : (start length : ℕ) → Found
  Not : Wrong → (place left : ℕ) → Found

-- "the payload of the first artifact with exactly these name bytes"; 27 shows the pack's end and the budget left after
-- reading
unfoldable pub look_in : List ℕ → List Value → ℕ → ℕ → Found
look_in name [] p l = Not (wrong Refusals.no_such_artifact 0) p l
look_in name (a ∷ rest) p l =
    let payload = (artifact_of a).payload in
    pick (same (content (artifact_of a).name) name) (At (start payload) (length (content payload))) (look_in name rest p l)

abbrev pub looking : List ℕ → Settled Value → Found
looking name (refused w p l) = Not w p l
looking name (taken v p l) = look_in name (entries (part_of artifacts v)) p l

-- "The lookup rereads it under the Rust's starting budget."
unfoldable pub find_outcome : Settings → List ℕ → List ℕ → Found
find_outcome set s name = looking name (settle starting_budget (whole_trace set s))

-- "as a part of the caller's slice; when refused, an empty part"
abbrev pub found_part : List ℕ → Found → List ℕ
found_part s (At start n) = part s start n
found_part s (Not w p l) = []
