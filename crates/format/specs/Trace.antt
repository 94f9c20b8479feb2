-- A reading without a budget, and the same reading under one.
use Rattle.std.specs.Prelude.{ℕ, suc, zero, ◌+◌, ◌-◌, ◌≤◌, ◌≡◌, List, [], ◌∷◌, Bool, true, false, leb, length, take}

-- What a refusal says, but for its place and the budget left: document 01's number, c, d1, d2.
pub record Wrong : Type 0 where
  pub number : ℕ
  pub context : ℕ
  pub detail1 : ℕ
  pub detail2 : ℕ

-- The refusals that a format gives by itself; a grammar names the others.
abbrev pub unexpected_eof : ℕ
unexpected_eof = 2

abbrev pub allocation_budget_exceeded : ℕ
allocation_budget_exceeded = 5

abbrev pub invalid_utf8 : ℕ
invalid_utf8 = 6

abbrev pub invalid_source_integer : ℕ
invalid_source_integer = 21

-- A refusal with its number and first detail only.
abbrev pub wrong : ℕ → ℕ → Wrong
wrong n d = record { number = n; context = 0; detail1 = d; detail2 = 0 }

-- The questions put in order, as if the budget had no end. The charges are document 01's charge list:
-- it ends where a question is answered no (`stop`) or with what was read (`end`). Each step has its place.
pub data Trace (A : Type 0) : Type 0 where
  stop : Wrong → ℕ → Trace A
  end : A → ℕ → Trace A
  -- context, amount, place: where 5 would stand
  charge : ℕ → ℕ → ℕ → Trace A → Trace A
  -- the pack has so many bytes: passed, where 2 would stand
  needs : ℕ → ℕ → Trace A → Trace A

-- One reading after another: the second from the value and the place of the first.
unfoldable pub bind : {A B : Type 0} → Trace A → (A → ℕ → Trace B) → Trace B
bind (stop w p) k = stop w p
bind (end a p) k = k a p
bind (charge c n p t) k = charge c n p (bind t k)
bind (needs n p t) k = needs n p (bind t k)

-- A question: no is a refusal.
unfoldable pub guard : {A : Type 0} → Bool → Wrong → ℕ → Trace A → Trace A
guard true w p t = t
guard false w p t = stop w p

-- The amounts of the charge list, and their sum.
unfoldable pub amounts : {A : Type 0} → Trace A → List ℕ
amounts (stop w p) = []
amounts (end a p) = []
amounts (charge c n p t) = n ∷ amounts t
amounts (needs n p t) = amounts t

unfoldable pub sum : List ℕ → ℕ
sum [] = 0
sum (n ∷ ns) = n + sum ns

abbrev pub total : {A : Type 0} → Trace A → ℕ
total t = sum (amounts t)

-- How a trace ends.
pub data Out (A : Type 0) : Type 0 where
  stopped : Wrong → ℕ → Out A
  ended : A → ℕ → Out A

unfoldable pub out : {A : Type 0} → Trace A → Out A
out (stop w p) = stopped w p
out (end a p) = ended a p
out (charge c n p t) = out t
out (needs n p t) = out t

abbrev pub Ends : {A : Type 0} → Trace A → A → ℕ → Type 0
Ends t v q = out t ≡ ended v q

-- The answer under a budget, with its place and the budget left.
pub data Settled (A : Type 0) : Type 0 where
  refused : Wrong → ℕ → ℕ → Settled A
  taken : A → ℕ → ℕ → Settled A

unfoldable pub left : {A : Type 0} → Settled A → ℕ
left (refused w p b) = b
left (taken a p b) = b

unfoldable pub pick : {A : Type 0} → Bool → A → A → A
pick true a b = a
pick false a b = b

-- "Refused at a charge is 5 with that charge's context, its amount as d1, and as d2 the starting budget less all
-- charges before it."
abbrev pub spent : ℕ → ℕ → ℕ → Wrong
spent c n b = record { number = allocation_budget_exceeded; context = c; detail1 = n; detail2 = b }

-- The charges are paid in order; the first that can't be paid is the refusal.
unfoldable pub settle : {A : Type 0} → ℕ → Trace A → Settled A
settle b (stop w p) = refused w p b
settle b (end a p) = taken a p b
settle b (charge c n p t) = pick (leb n b) (settle (b - n) t) (refused (spent c n b) p b)
settle b (needs n p t) = settle b t

-- "The starting budget covers an opening part whose sum isn't above it": the length of the longest such part.
unfoldable pub covered : ℕ → List ℕ → ℕ
covered b [] = 0
covered b (n ∷ ns) = pick (leb n b) (suc (covered (b - n) ns)) 0

pub record Longest (b : ℕ) (ns : List ℕ) (k : ℕ) : Type 0 where
  pub there : k ≤ length ns
  pub fits : sum (take k ns) ≤ b
  pub most : (i : ℕ) → i ≤ length ns → sum (take i ns) ≤ b → i ≤ k

-- The charge number i of the list, counted from 0: its context, amount and place.
pub data Charge {A : Type 0} : Trace A → ℕ → ℕ → ℕ → ℕ → Type 0 where
  here : {c n p : ℕ} {t : Trace A} → Charge (charge c n p t) 0 c n p
  later : {c' n' p' i c n p : ℕ} {t : Trace A} → Charge t i c n p → Charge (charge c' n' p' t) (suc i) c n p
  past : {m q i c n p : ℕ} {t : Trace A} → Charge t i c n p → Charge (needs m q t) i c n p

-- The end of a trace whose charges all go through, with so much left.
unfoldable pub finish : {A : Type 0} → ℕ → Trace A → Settled A
finish b (stop w p) = refused w p b
finish b (end a p) = taken a p b
finish b (charge c n p t) = finish b t
finish b (needs n p t) = finish b t

-- The refusal at the charge number i, counted from 0, with so much left before it.
unfoldable pub broke : {A : Type 0} → ℕ → ℕ → Trace A → Settled A
broke i b (stop w p) = refused w p b
broke i b (end a p) = taken a p b
broke zero b (charge c n p t) = refused (spent c n b) p b
broke (suc i) b (charge c n p t) = broke i b t
broke i b (needs n p t) = broke i b t
