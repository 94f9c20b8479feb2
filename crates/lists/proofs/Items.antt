-- The law of runs: items that end at no charge may be read at once.
use Rattle.reader.specs.Leaves.{Narrow, narrow_byte, narrow_half, narrow_word}
use Rattle.std.specs.Prelude.{Ok}
use Prim.Native.Nat.{ℕ, suc, zero, ◌+◌, ◌-◌, ◌*◌, ◌/◌, ◌≤◌, ◌<◌}
use mathlib.Core.Path.{◌≡◌, refl, ◌∙◌}
use mathlib.Core.Bool.{true}
use mathlib.Core.List.{List, [], ◌∷◌}
use native.Mathlib.Omega.{arith}
use native.Mathlib.Nat.{add-zero, add_assoc, mul-suc, mul-le-mul_left, mul-le-mul_right, mul-div-le, le_trans}
use lib.ListN.{length, get_or}
use lib.Dec.{leb}
use lib.Seq.{sets}
use borrow.Author.Tests.{le-leb}
use Rattle.format.specs.Trace.{settle, taken}
use Rattle.format.specs.Format.{Value, num, pair, Rule, Width, byte, fixed, Format, leaf, ◌▸◌, chain, times}
use Rattle.format.specs.Reading.{little, part, size, trace, trace_leaf}
use Rattle.format.specs.Record.{words, words_leaf}
use Rattle.format.specs.SettleTheorems.{then_s}
use Rattle.format.proofs.TraceTheorems.{settle-seq}
use Rattle.vob24.specs.Leaves.{free, at_most}
use Rattle.reader.specs.Contract.{ReadyAt, Takes, Reads, Step}
use Rattle.reader.specs.declared.Cursor.{Cursor}
use Rattle.reader.proofs.Settles.{guard-yes, field-yes}
use Rattle.reader.proofs.Laws.{sets-append, takes-ready, then_reads, comes-on, Turns}
use Rattle.lists.specs.Runs.{advanced, Runs, width, numbers_at, words_at, Copied, Low}
use Rattle.lists.specs.Fixed.{Sized, Flat, flat-one, flat-more}
use Rattle.lists.specs.declared.Rest.{Rest}
use Rattle.lists.proofs.Copying.{byte_at, numbers-length}

-- f ends at p, at no charge, past numbers of these widths, and their words are its words
pub record Item (f : Format) (ws : List ℕ) (s : List ℕ) (p : ℕ) : Type 0 where
  pub value : Value
  pub settles : (b : ℕ) → settle b (trace f s p) ≡ taken value (p + width ws) b
  pub shows : words f value ≡ numbers_at ws s p

item-takes : {f : Format} {ws s t : List ℕ} {c : Cursor} (i : Item f ws s c.place)
    → Takes f s c t i.value (advanced c (width ws) (length ws)) (sets t c.at (numbers_at ws s c.place))
item-takes {ws = ws} {s = s} {c = c} i = record { settles = i.settles c.left; moves = rw (i.shows, numbers-length ws s c.place); writes = rw i.shows }

-- a number that passes its rule
module _ (w : Width) (ρ : Rule) (s : List ℕ) (p : ℕ) (o : Narrow w) (h : p + size w ≤ length s) (e : ρ.test (little (part s p (size w))) ≡ true) where
  one-settles : (b : ℕ)
      → settle b (trace (leaf (fixed w ρ)) s p) ≡ taken (num (little (part s p (size w)))) (p + size w) b
  unfolding trace trace_leaf settle
  one-settles b = field-yes b (size w) s p _ h ∙ guard-yes b _ _ _ e

  one-shows : words (leaf (fixed w ρ)) (num (little (part s p (size w)))) ≡ little (part s p (size w)) ∷ []
  unfolding words words_leaf
  one-shows = go o
    where
      go : {n : ℕ} {w : Width} → Narrow w → words_leaf (fixed w ρ) (num n) ≡ n ∷ []
      go narrow_byte = refl
      go narrow_half = refl
      go narrow_word = refl

  item-one : Item (leaf (fixed w ρ)) (size w ∷ []) s p
  item-one = record { value = num (little (part s p (size w))); settles = λ b. one-settles b ∙ rw add-zero; shows = one-shows }

  item-more : {g : Format} {ws : List ℕ} → Item g ws s (p + size w) → Item (leaf (fixed w ρ) ▸ g) (size w ∷ ws) s p
  unfolding words then_s
  item-more {g} i =
      record {
        value = pair (num (little (part s p (size w)))) i.value;
        settles = λ b. settle-seq b (leaf (fixed w ρ)) (λ _. g) s p ∙ rw (one-settles b, i.settles b, add_assoc);
        shows = rw (one-shows, i.shows);
      }

item-flat : {f : Format} {ws : List ℕ} (s : List ℕ) (p : ℕ) → Flat f ws → p + width ws ≤ length s → Item f ws s p
item-flat s p (flat-one {w} o) h = item-one w free s p o (omega arith) refl
item-flat s p (flat-more {w} o k) h = item-more w free s p o (omega arith) refl (item-flat s (p + size w) k (omega arith))

narrow-some : {w : Width} → Narrow w → 1 ≤ size w
narrow-some narrow_byte = omega arith
narrow-some narrow_half = omega arith
narrow-some narrow_word = omega arith

flat-some : {f : Format} {ws : List ℕ} → Flat f ws → length ws ≤ width ws
flat-some (flat-one o) = omega (arith, narrow-some o)
flat-some (flat-more o k) = omega (arith, narrow-some o, flat-some k)

-- so many entries of l bytes are there, and their words are no more
pub run-fits : {f : Format} {ws : List ℕ} {b w k n l : ℕ} → Flat f ws → Sized ws b w → k ≤ n → n ≤ l / b
    → (width ws * k ≤ l) × (length ws * k ≤ l)
run-fits {ws = ws} {b} {w} {k} {n} {l} f z h i =
    let e : b * k ≤ l = le_trans (mul-le-mul_left b (le_trans h i)) (mul-div-le l b) in
    let y : width ws * k ≤ l = rw z.bytes at e in
    (y, le_trans (mul-le-mul_right k (flat-some f)) y)

-- ---- runs

-- m of n items, and the rest
items-lead : {f : Format} {s : List ℕ} (ws : List ℕ) (m n : ℕ) (c : Cursor) (t : List ℕ) → m ≤ n
    → ((p : ℕ) → c.place ≤ p → p + width ws ≤ c.place + width ws * m → Item f ws s p) → {r : Step} {t'' : List ℕ}
    → Reads (times f (n - m)) s (Ok (advanced c (width ws * m) (length ws * m))) (sets t c.at (words_at ws m s c.place)) r t''
    → Reads (times f n) s (Ok c) t r t''
unfolding words_at chain
items-lead ws zero n c t l i h =
    let e₁ : n - 0 ≡ n = omega arith in
    let e₂ : c.place + width ws * 0 ≡ c.place = omega arith in
    let e₃ : c.at + length ws * 0 ≡ c.at = omega arith in
    rw (e₁, e₂, e₃) at h
items-lead ws (suc m) zero c t l i h = absurd (omega arith)
items-lead {f} {s} ws (suc m) (suc n) c t l i h =
    let e₁ : suc n - suc m ≡ n - m = omega arith in
    let e₂ : c.place + width ws * suc m ≡ c.place + width ws + width ws * m = omega (arith, mul-suc (width ws) m) in
    let e₃ : c.at + length ws * suc m ≡ c.at + length ws + length ws * m = omega (arith, mul-suc (length ws) m) in
    let e₄ = sets-append t c.at (numbers_at ws s c.place) (words_at ws m s (c.place + width ws)) in
    let h' = rw (e₁, e₂, e₃, e₄, numbers-length ws s c.place) at h in
    then_reads (item-takes (i c.place (omega arith) (omega (arith, mul-suc (width ws) m))))
    (items-lead ws m n (advanced c (width ws) (length ws)) (sets t c.at (numbers_at ws s c.place)) (omega arith) (λ p x y. i p (omega arith) (omega (arith, mul-suc (width ws) m))) h')

module _ {ws : List ℕ} {m n b x : ℕ} {s : List ℕ} {c : Cursor} {t t' : List ℕ} {q : Rest} where
  -- THE law of runs: m items whose words were copied, in so many bytes and words
  pub runs_of : {f : Format} → ReadyAt s c → m ≤ n → c.place + width ws * m ≤ length s → length ws ≤ width ws
      → ((p : ℕ) → c.place ≤ p → p + width ws ≤ c.place + width ws * m → Item f ws s p)
      → Copied ws m s c.place t c.at t' → b ≡ width ws * m → x ≡ length ws * m
      → q ≡ record { items = n - m; at = advanced c b x } → Runs f s c t n q t'
  runs_of r l h k i a y u e =
      rw (e, y, u, a.is)
      (record {
        rest = λ d. items-lead ws m n c t l i d;
        ready = record { small = r.small; within = h; behind = omega (arith, r.behind, mul-le-mul_right m k) };
      })

  pub runs-flat : {f : Format} → Flat f ws → ReadyAt s c → m ≤ n → c.place + width ws * m ≤ length s
      → Copied ws m s c.place t c.at t' → b ≡ width ws * m → x ≡ length ws * m
      → q ≡ record { items = n - m; at = advanced c b x } → Runs f s c t n q t'
  runs-flat f r l h a y u e = runs_of r l h (flat-some f) (λ p x z. item-flat s p f (omega (arith, h))) a y u e

-- small bytes
pub runs-low : (y : ℕ) {m n most : ℕ} {s : List ℕ} {c : Cursor} {t t' : List ℕ} {q : Rest} → ReadyAt s c → m ≤ n
    → c.place + m ≤ length s → Low s c.place (c.place + m) most → Copied (1 ∷ []) m s c.place t c.at t'
    → q ≡ record { items = n - m; at = advanced c m m } → Runs (leaf (fixed byte (at_most most y))) s c t n q t'
runs-low y {m} {most = most} {s = s} {c = c} r l h k a e = runs_of r l (omega arith) (omega arith) item a (omega arith) (omega arith) e
  where
    passes : (p : ℕ) → p + 1 ≤ length s → get_or s p 0 ≤ most → leb (little (part s p 1)) most ≡ true
    passes p x z = le-leb (little (part s p 1)) most (omega (arith, byte_at s p x))

    item : (p : ℕ) → c.place ≤ p → p + 1 ≤ c.place + 1 * m → Item (leaf (fixed byte (at_most most y))) (1 ∷ []) s p
    item p x z = item-one byte (at_most most y) s p narrow_byte (omega (arith, h)) (passes p (omega (arith, h)) (k.low p x (omega arith)))

-- ---- runs in a loop

-- one item read by itself
one-leads : {f : Format} {s : List ℕ} {c d : Cursor} {t t' t'' : List ℕ} {v : Value} {r : Step} (n : ℕ) → 0 < n
    → Takes f s c t v d t' → Reads (times f (n - 1)) s (Ok d) t' r t'' → Reads (times f n) s (Ok c) t r t''
unfolding chain
one-leads zero h a k = absurd (omega arith)
one-leads (suc n) h a k = let e : suc n - 1 ≡ n = omega arith in then_reads a (rw e at k)

pub runs-one : {f : Format} {s : List ℕ} {c d : Cursor} {t t' : List ℕ} {v : Value} {n : ℕ} {q : Rest} → 0 < n
    → ReadyAt s c → Takes f s c t v d t' → q ≡ record { items = n - 1; at = d } → Runs f s c t n q t'
runs-one {n = n} h r a e = rw e (record { rest = λ k. one-leads n h a k; ready = takes-ready r a })

-- the loop over the items goes on past a run
pub turns-run : {f : Format} {s : List ℕ} {t₀ : List ℕ} {r₀ r : Step} {n k : ℕ} {t t' : List ℕ} {c : Cursor} {q : Rest}
    → r ≡ Ok c → Turns f s t₀ r₀ n t r k → Runs f s c t k q t' → length t' ≡ length t
    → Turns f s t₀ r₀ n t' (Ok q.at) q.items
turns-run e l h i =
    let long = i ∙ l.long in record { chained = record { comes = comes-on (rw e at l.chained.comes) h; long = long }; ready = h.ready; long = long }
