-- The laws of repeats in a row of keys.
use Rattle.std.proofs.Common.{ℕ, suc, zero, ◌<◌, ◌≡◌, refl, Bool, true, false, arith}
use Rattle.format.specs.Trace.{pick}
use Rattle.format.specs.Reading.{same}
use Rattle.format.proofs.LayoutTheorems.{same-eq}
use Rattle.repeat_search.specs.Keys.{Key, among, repeat_at}

among_none : (x : Key) (n : ℕ) (keys : ℕ → Key)
    → ((k : ℕ) → k < n → x.name ≡ (keys k).name → x.package_name ≡ (keys k).package_name → ⊥) → among x n keys ≡ false
unfolding among pick
among_none x zero keys h = refl
among_none x (suc n) keys h = go (among_none x n (λ k. keys (suc k)) (λ k l. h (suc k) (omega arith))) (same x.name (keys 0).name) (same x.package_name (keys 0).package_name) refl refl
  where
    go : among x n (λ k. keys (suc k)) ≡ false → (b c : Bool) → same x.name (keys 0).name ≡ b
        → same x.package_name (keys 0).package_name ≡ c
        → pick (pick b c false) true (among x n (λ k. keys (suc k))) ≡ false
    go r true true e f = absurd (h 0 (omega arith) (same-eq _ _ (rw e tt)) (same-eq _ _ (rw f tt)))
    go r true false e f = r
    go r false c e f = r

module _ (keys : ℕ → Key) (i : ℕ) where
  -- a key that is the same as none before it repeats none
  pub repeat-none : ((k : ℕ) → k < i → (keys i).name ≡ (keys k).name → (keys i).package_name ≡ (keys k).package_name → ⊥)
      → repeat_at keys i ≡ false
  unfolding repeat_at pick
  repeat-none h = go (keys i).exempt
    where
      go : (b : Bool) → pick b false (among (keys i) i keys) ≡ false
      go true = refl
      go false = among_none (keys i) i keys h

  pub repeat-exempt : (keys i).exempt ≡ true → repeat_at keys i ≡ false
  unfolding repeat_at pick
  repeat-exempt e = rw e

  pub repeat-asked : (keys i).exempt ≡ false → repeat_at keys i ≡ among (keys i) i keys
  unfolding repeat_at pick
  repeat-asked e = rw e
