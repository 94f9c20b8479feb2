-- The laws of copies to the tape.
use Prim.Native.Nat.{ℕ, suc, zero, ◌+◌, ◌-◌, ◌*◌, ◌≤◌, ◌<◌}
use mathlib.Core.Path.{◌≡◌, refl, sym, ap, ◌∙◌}
use mathlib.Core.List.{List, [], ◌∷◌, ◌++◌, append_assoc}
use native.Mathlib.Omega.{arith}
use native.Mathlib.Nat.{mul-suc}
use lib.ListN.{length, length-append, get_or}
use lib.Seq.{sets, set_out, length-sets}
use Rattle.format.specs.Reading.{little, part}
use Rattle.reader.proofs.Gather.{read_take}
use Rattle.reader.proofs.Laws.{sets-append}
use Rattle.lists.specs.Runs.{width, numbers_at, words_at, Copied, Fits, ended, room}

-- a number by its bytes
module _ (s : List ℕ) (p : ℕ) where
  pub byte_at : p + 1 ≤ length s → little (part s p 1) ≡ get_or s p 0
  unfolding little
  byte_at h = rw (read_take 1 s p h) (omega arith)

  pub half_at : p + 2 ≤ length s → little (part s p 2) ≡ get_or s p 0 + 256 * get_or s (p + 1) 0
  unfolding little
  half_at h = rw (read_take 2 s p h) (omega arith)

-- ---- copies

-- nothing is stored past the tape's end
sets-out : (t : List ℕ) (at : ℕ) (ws : List ℕ) → length t ≤ at → sets t at ws ≡ t
sets-out t at [] h = refl
sets-out t at (w ∷ ws) h = rw (set_out t at w h) (sets-out t (suc at) ws (omega arith))

pub copied-ended : {ws : List ℕ} {n : ℕ} {s : List ℕ} {from at : ℕ} {t : List ℕ} → length t ≤ at
    → Copied ws n s from t at t
copied-ended {ws} {n} {s} {from} {at} {t} h = record { is = sym (sets-out t at (words_at ws n s from) h) }

fits-room : {j n at l : ℕ} → Fits j n at l → at < l → at + j * n ≤ l
fits-room (ended h) k = absurd (omega arith)
fits-room (room h) k = h

-- the items from p on, k of n, are left for the tape from i on
pub record Copying (ws : List ℕ) (n : ℕ) (s : List ℕ) (from : ℕ) (t : List ℕ) (at : ℕ) (t' : List ℕ) (p i k : ℕ) : Type 0 where
  pub fits : i + length ws * k ≤ length t'
  pub same : length t' ≡ length t
  pub leads : sets t at (words_at ws n s from) ≡ sets t' i (words_at ws k s p)

words_more : (ws : List ℕ) (k : ℕ) (s : List ℕ) (p : ℕ) → 0 < k
    → words_at ws k s p ≡ numbers_at ws s p ++ words_at ws (k - 1) s (p + width ws)
unfolding words_at
words_more ws zero s p h = absurd (omega arith)
words_more ws (suc k) s p h = let e : suc k - 1 ≡ k = omega arith in rw e

words-end : (ws : List ℕ) (k : ℕ) (s : List ℕ) (p : ℕ) → k ≤ 0 → words_at ws k s p ≡ []
unfolding words_at
words-end ws zero s p h = refl
words-end ws (suc k) s p h = absurd (omega arith)

pub numbers-length : (ws s : List ℕ) (p : ℕ) → length (numbers_at ws s p) ≡ length ws
numbers-length [] s p = refl
numbers-length (w ∷ ws) s p = ap suc (numbers-length ws s (p + w))

less : (j k : ℕ) → 0 < k → j * k ≡ j + j * (k - 1)
less j zero h = absurd (omega arith)
less j (suc k) h = let e : suc k - 1 ≡ k = omega arith in rw (e, mul-suc j k) (omega arith)

module _ {ws : List ℕ} {n : ℕ} {s : List ℕ} {from : ℕ} {t : List ℕ} {at : ℕ} where
  pub copying-start : Fits (length ws) n at (length t) → at < length t → Copying ws n s from t at t from at n
  copying-start f h = record { fits = fits-room f h; same = refl; leads = refl }

  module _ {t' : List ℕ} {p i k : ℕ} where
    pub copying-more : {t'' : List ℕ} → 0 < k → t'' ≡ sets t' i (numbers_at ws s p) → Copying ws n s from t at t' p i k
        → Copying ws n s from t at t'' (p + width ws) (i + length ws) (k - 1)
    copying-more h e c =
        record {
          fits = rw (e, length-sets t' i (numbers_at ws s p)) (omega (arith, c.fits, less (length ws) k h));
          same = ap length e ∙ length-sets t' i (numbers_at ws s p) ∙ c.same;
          leads = c.leads ∙ ap (sets t' i) (words_more ws k s p h) ∙ sets-append t' i (numbers_at ws s p) _ ∙ rw (← e, numbers-length ws s p);
        }

    pub copying-done : k ≤ 0 → Copying ws n s from t at t' p i k → Copied ws n s from t at t'
    copying-done h c = record { is = sym (c.leads ∙ ap (sets t' i) (words-end ws k s p h)) }

-- item number i of n
pub left_more : (w p l : ℕ) {n i : ℕ} → i < n → p + w * (n - i) ≤ l → p + w + w * (n - (i + 1)) ≤ l
left_more w p l {n} {i} h k =
    let e : n - i - 1 ≡ n - (i + 1) = omega arith in
    let j : 0 < n - i = omega arith in
    let d : w * (n - i) ≡ w + w * (n - (i + 1)) = less w (n - i) j ∙ rw e in
    omega (arith, d)

module _ {ws : List ℕ} {n : ℕ} {s : List ℕ} {from : ℕ} {t : List ℕ} {at : ℕ} where
  pub copying-next : {t' t'' : List ℕ} {p k i b w : ℕ} → i < n → t'' ≡ sets t' k (numbers_at ws s p) → b ≡ width ws → w ≡ length ws
      → Copying ws n s from t at t' p k (n - i) → Copying ws n s from t at t'' (p + b) (k + w) (n - (i + 1))
  copying-next {i = i} h e u v c =
      let j : 0 < n - i = omega arith in
      let x : n - i - 1 ≡ n - (i + 1) = omega arith in
      rw (u, v) (rw x at (copying-more j e c))

-- items after items
pub words-length : (ws : List ℕ) (m : ℕ) (s : List ℕ) (p : ℕ) → length (words_at ws m s p) ≡ length ws * m
unfolding words_at
words-length ws zero s p = omega arith
words-length ws (suc m) s p = length-append (numbers_at ws s p) _ ∙ rw (numbers-length ws s p, words-length ws m s (p + width ws), mul-suc (length ws) m) (omega arith)

words-join : (ws : List ℕ) (k m : ℕ) (s : List ℕ) (p : ℕ)
    → words_at ws (k + m) s p ≡ words_at ws k s p ++ words_at ws m s (p + width ws * k)
unfolding words_at
words-join ws zero m s p =
    let e₁ : 0 + m ≡ m = omega arith in
    let e₂ : p + width ws * 0 ≡ p = omega arith in
    rw (e₁, e₂)
words-join ws (suc k) m s p =
    let e₁ : suc k + m ≡ suc (k + m) = omega arith in
    let e₂ : p + width ws * suc k ≡ p + width ws + width ws * k = omega (arith, mul-suc (width ws) k) in
    rw (e₁, e₂, append_assoc, words-join ws k m s (p + width ws))

pub copied_none : {ws : List ℕ} {s : List ℕ} {from : ℕ} {t : List ℕ} {at : ℕ} → Copied ws 0 s from t at t
copied_none {ws} {s} {from} {t} {at} = record { is = ap (sets t at) (sym (words-end ws 0 s from (omega arith))) }

pub copied-join : {ws : List ℕ} {k m : ℕ} {s : List ℕ} {from : ℕ} {t t₁ t₂ : List ℕ} {at : ℕ}
    → Copied ws k s from t at t₁ → Copied ws m s (from + width ws * k) t₁ (at + length ws * k) t₂
    → Copied ws (k + m) s from t at t₂
copied-join {ws} {k} {m} {s} {from} {t} {t₁} {t₂} {at} a b =
    record { is = b.is ∙ rw (a.is, words-join ws k m s from, sets-append t at (words_at ws k s from), words-length ws k s from) }
