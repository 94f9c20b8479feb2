-- The laws of short lists: a count and slot types that are tested first, and kept then.
use Rattle.std.specs.Prelude.{ℕ, ◌+◌, ◌-◌, ◌*◌, ◌≤◌, ◌<◌, ◌≡◌, refl, List, [], ◌∷◌, Ok, length, set}
use Rattle.std.proofs.Common.{sym, ◌∙◌, arith, add_assoc, get_or, mul-le-mul_right}
use Rattle.format.specs.Format.{counted}
use Rattle.format.specs.Reading.{little, part}
use Rattle.vob24.specs.Refusals.{vector, invalid_slot_type}
use Rattle.vob24.specs.Leaves.{free, slot_type, list_of}
use Rattle.reader.specs.Contract.{cursor_at, ReadyAt, NumberOf, Kept}
use Rattle.reader.specs.Leaves.{Fetches, there, past, one_count}
use Rattle.reader.specs.declared.Cursor.{Cursor}
use Rattle.reader.proofs.Laws.{turns-start, comes_then, turns-done}
use Rattle.reader.proofs.Gather.{read_take, bytes_read}
use Rattle.reader.proofs.Paying.{paid-yes}
use Rattle.reader.proofs.Leaves.{past-ready, counted-got, count-then}
use Rattle.reader.proofs.Numbering.{numbered_items}
use Rattle.fields.specs.Kept.{kept_number}
use Rattle.fields.proofs.Keeps.{number-kept}
use Rattle.lists.specs.Runs.{words_at, Low, Copied, CopiedLow}
use Rattle.lists.proofs.Copying.{byte_at}
use Rattle.lists.proofs.Lows.{copied-start, copied_more}
use Rattle.lists.proofs.Items.{runs-low}
use Rattle.slots.specs.Short.{Good, Keeps, kept, other}

-- ---- what `short` keeps

-- the count is its first word
pub count-first : {n : ℕ} {s : List ℕ} {from at : ℕ} {t t₁ : List ℕ} → t₁ ≡ t → CopiedLow n s from 5 t at 0 t₁
count-first e = rw e copied-start

-- the item at p, the k-th, is one word more
pub one_more : {n k v i p : ℕ} {s : List ℕ} {from at : ℕ} {t t₁ t₂ : List ℕ} → k < n → p ≡ from + k → i ≡ at + k
    → p + 1 ≤ length s → v ≡ get_or s p 0 → get_or s p 0 ≤ 5 → t₂ ≡ set t₁ i v → CopiedLow n s from 5 t at k t₁
    → CopiedLow n s from 5 t at (k + 1) t₂
unfolding words_at
one_more {n} {k} {v} {i} {p} {s} {from} {at} {t} {t₁} {t₂} h e j r w m y l = copied_more (omega arith) low copied l
  where
    low : Low s (from + k) (from + k + 1) 5
    low = record { low = λ q x z. let d : q ≡ p = omega arith in rw d m }

    copied : Copied (1 ∷ []) 1 s (from + k) t₁ (at + k) t₂
    copied = record { is = y ∙ rw (j, w, ← byte_at s p r, e) }

-- its count is what stands there
pub good_of : {n m : ℕ} {s : List ℕ} {p at : ℕ} {t t' : List ℕ} → ReadyAt s (cursor_at p 0 at) → 8 ≤ length s - p
    → m ≡ little (get_or s p 0 ∷ get_or s (p + 1) 0 ∷ get_or s (p + 2) 0 ∷ get_or s (p + 3) 0 ∷ [])
    → ((i : ℕ) → get_or s i 0 < 256) → m ≡ n → 0 < n → n ≤ 4 → CopiedLow n s (p + 4) 5 (set t at n) (at + 1) n t'
    → Keeps s p at t n t'
good_of {n} {m} {s} {p} {at} r l e b i h k items =
    let take = read_take 4 s p (omega (arith, r.within)) in
    let is : part s p 4 ≡ get_or s p 0 ∷ get_or s (p + 1) 0 ∷ get_or s (p + 2) 0 ∷ get_or s (p + 3) 0 ∷ [] = take ∙ simp add_assoc in
    kept (record { some = h; few = k; room = omega (arith, r.within); is = sym i ∙ e ∙ rw is; bytes = rw take (bytes_read 4 s p b); items = items })

-- ---- what is known of it

pub keeps-good : {s : List ℕ} {p at : ℕ} {t : List ℕ} {n : ℕ} {t' : List ℕ} → 0 < n → Keeps s p at t n t'
    → Good s p at t n t'
keeps-good h (kept g) = g
keeps-good h other = absurd (omega arith)

pub keeps-other : {s : List ℕ} {p at : ℕ} {t : List ℕ} {n : ℕ} {t' : List ℕ} → n ≤ 0 → Keeps s p at t n t' → t' ≡ t
keeps-other h (kept g) = absurd (omega (arith, g.some))
keeps-other h other = refl

-- the charge of at most four is within that of four
pub few-paid : (n y : ℕ) {l : ℕ} → n ≤ 4 → 4 * y ≤ l → n * y ≤ l
few-paid n y h k = omega (arith, mul-le-mul_right y h)

-- such a list is read
pub good-list : {y z : ℕ} {s : List ℕ} {c g : Cursor} {t t' : List ℕ} {n : ℕ} → ReadyAt s c → y ≡ z → 4 * y ≤ c.left
    → Good s c.place c.at t n t' → g ≡ cursor_at (c.place + 4 + n) (c.left - n * y) (c.at + 1 + n)
    → NumberOf (list_of free z slot_type) counted s c t (Ok (n, g)) t'
good-list {y} {z} {s} {c} {g} {t} {t'} {n} r e l h i =
    let f : Fetches 4 s c (Ok (n, past 4 c)) = there (record { room = omega (arith, h.room); is = h.is; bytes = h.bytes; next = refl }) in
    let d : Cursor = cursor_at (c.place + 4) (c.left - n * z) c.at in
    let a = count-then {m = 1} {k = vector} {z = z} refl f refl (counted-got {n = n} {m = 1} {k = vector} {z = z} (past-ready r refl f) (omega (arith, h.room)) (paid-yes (few-paid n z h.few (rw e at l))) refl) in
    let k : Kept d n t (cursor_at (c.place + 4) (c.left - n * z) (c.at + 1)) (set t c.at n) = record { is = refl; writes = refl } in
    let m = number-kept r one_count a (kept_number k) in
    let u = runs-low invalid_slot_type {n = n} m.ready (omega arith) h.room h.items.low h.items.copied refl in
    rw (i, e) (numbered_items refl m slot_type refl (comes_then u (turns-done (omega arith) (turns-start u.ready))))
