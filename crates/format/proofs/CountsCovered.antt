-- Formats whose counts ask for nothing that their items do not hold: what they ask against the bytes left is implied by
-- the layout.
use Rattle.std.specs.Prelude.{ℕ, suc, zero, ◌+◌, ◌*◌, ◌/◌, ◌%◌, ◌≤◌, ◌≡◌, refl, ◌↔◌, List, [], ◌∷◌, Bool, true, false, length, get_or, ltb}
use Rattle.std.proofs.Common.{ap, sym, ◌∙◌, arith, length-append, length-take, length-drop}
use Rattle.format.specs.Trace.{Wrong, pick, ended, Ends}
use Rattle.format.specs.Format.{Value, number, content, first, second, Rule, Width, byte, half, word, long, option, Ask, fixed, mark, packed, string, payload, count, ask, Format, empty, leaf, seq, chain}
use Rattle.format.specs.Reading.{size, trace}
use Rattle.format.specs.Layout.{groups, Bytes, bytes_leaf, bytes, Valid, ahead_leaf, ahead}
use Rattle.format.specs.LayoutTheorems.{At}
use Rattle.format.proofs.LayoutTheorems.{length_digits, trace-placed, placed-trace}
use Rattle.format.specs.CountsCovered.{AtLeast, Closed, All, done, also}

pub least_at : (k : ℕ) (f : Format) → AtLeast k f → (v : Value) (p : ℕ) → Valid f v p → k ≤ length (bytes f v)
unfolding AtLeast
least_at k f h v p g = h v p g

pub least_zero : (f : Format) → AtLeast 0 f
unfolding AtLeast
least_zero f v p h = omega arith

pub least-fixed : (w : Width) (r : Rule) → AtLeast (size w) (leaf (fixed w r))
unfolding AtLeast bytes bytes_leaf
least-fixed w r v p h = omega (arith, length_digits (size w) (number v))

pub least-string : (r : Rule) (c : ℕ) (ok : List ℕ → Bool) → AtLeast 4 (leaf (string r c ok))
unfolding AtLeast bytes bytes_leaf
least-string r c ok v p h = rw length-append (omega (arith, length_digits 4 (length (content v))))

pub least-count : (r : Rule) (m c z : ℕ) → AtLeast 4 (leaf (count r m c z))
unfolding AtLeast bytes bytes_leaf
least-count r m c z v p h = omega (arith, length_digits 4 (number v))

groups-cons : (k n : ℕ) → (b : ℕ) × (rest : List ℕ) × (groups k n ≡ b ∷ rest)
unfolding groups pick
groups-cons zero n = (n, [], refl)
groups-cons (suc k) n = go (ltb n 128)
  where
    go : (d : Bool) → (b : ℕ) × (rest : List ℕ) × (pick d (n ∷ []) ((128 + n % 128) ∷ groups k (n / 128)) ≡ b ∷ rest)
    go true = (n, [], refl)
    go false = (128 + n % 128, groups k (n / 128), refl)

pub least-packed : AtLeast 1 (leaf packed)
unfolding AtLeast bytes bytes_leaf
least-packed v p h = go (groups-cons 4 (number v))
  where
    go : {bs : List ℕ} → (b : ℕ) × (rest : List ℕ) × (bs ≡ b ∷ rest) → 1 ≤ length bs
    go r = rw r.2 (omega arith)

pub least-seq : (a b : ℕ) (f : Format) (g : Value → Format) → AtLeast a f → ((v : Value) → AtLeast b (g v))
    → AtLeast (a + b) (seq f g)
unfolding AtLeast bytes Valid
least-seq a b f g x y v p h = rw length-append (omega (arith, x (first v) p h.1, y (first v) (second v) _ h.2))

pub least-fore : (a : ℕ) (f : Format) (g : Value → Format) → AtLeast a f → AtLeast a (seq f g)
unfolding AtLeast bytes Valid
least-fore a f g x v p h = rw length-append (omega (arith, x (first v) p h.1))

pub least-down : (a b : ℕ) (f : Format) → AtLeast a f → b ≤ a → AtLeast b f
unfolding AtLeast
least-down a b f h k v p g = omega (arith, h v p g)

pub one-fixed : (w : Width) (r : Rule) → AtLeast 1 (leaf (fixed w r))
one-fixed byte r = least-down _ 1 _ (least-fixed byte r) (omega arith)
one-fixed half r = least-down _ 1 _ (least-fixed half r) (omega arith)
one-fixed word r = least-down _ 1 _ (least-fixed word r) (omega arith)
one-fixed long r = least-down _ 1 _ (least-fixed long r) (omega arith)
one-fixed option r = least-down _ 1 _ (least-fixed option r) (omega arith)

pub one-string : (r : Rule) (c : ℕ) (ok : List ℕ → Bool) → AtLeast 1 (leaf (string r c ok))
one-string r c ok = least-down 4 1 _ (least-string r c ok) (omega arith)

pub one-count : (r : Rule) (m c z : ℕ) → AtLeast 1 (leaf (count r m c z))
one-count r m c z = least-down 4 1 _ (least-count r m c z) (omega arith)

pub closed-empty : Closed empty
unfolding Closed ahead
closed-empty v p h = refl

pub closed-fixed : (w : Width) (r : Rule) → Closed (leaf (fixed w r))
unfolding Closed ahead ahead_leaf
closed-fixed w r v p h = refl

pub closed-mark : (m : List ℕ) (y : ℕ → Wrong) → Closed (leaf (mark m y))
unfolding Closed ahead ahead_leaf
closed-mark m y v p h = refl

pub closed-packed : Closed (leaf packed)
unfolding Closed ahead ahead_leaf
closed-packed v p h = refl

pub closed-string : (r : Rule) (c : ℕ) (ok : List ℕ → Bool) → Closed (leaf (string r c ok))
unfolding Closed ahead ahead_leaf
closed-string r c ok v p h = refl

pub closed-payload : (r : Rule) (c : ℕ) → Closed (leaf (payload r c))
unfolding Closed ahead ahead_leaf
closed-payload r c v p h = refl

pub closed-ask : (l : List Ask) → Closed (leaf (ask l))
unfolding Closed ahead ahead_leaf
closed-ask l v p h = refl

pub closed-seq : (f : Format) (g : Value → Format) → Closed f → ((v : Value) → Closed (g v)) → Closed (seq f g)
unfolding Closed ahead Valid
closed-seq f g x y v p h = omega (arith, x (first v) p h.1, y (first v) (second v) _ h.2)

closed-chain : {S : Type 0} (f : S → Format) (u : S → Value → S) → ((x : S) → Closed (f x)) → (n : ℕ) (x : S)
    → Closed (chain f u x n)
unfolding chain
closed-chain f u h zero x = closed-empty
closed-chain f u h (suc n) x = closed-seq (f x) _ (h x) (λ v. closed-chain f u h n (u x v))

pub least-chain : {S : Type 0} (m : ℕ) (f : S → Format) (u : S → Value → S) → ((x : S) → AtLeast m (f x))
    → (n : ℕ) (x : S) → AtLeast (n * m) (chain f u x n)
unfolding chain
least-chain m f u h zero x = least-down 0 _ _ (least_zero _) (omega arith)
least-chain m f u h (suc n) x = least-down (m + n * m) _ _ (least-seq m (n * m) (f x) _ (h x) (λ v. least-chain m f u h n (u x v))) (omega arith)

-- a list whose items are long enough
pub closed-list : {S : Type 0} (r : Rule) (m c z : ℕ) (f : S → Format) (u : S → Value → S) (x : S)
    → ((x : S) → AtLeast m (f x)) → ((x : S) → Closed (f x))
    → Closed (seq (leaf (count r m c z)) (λ n. chain f u x (number n)))
unfolding Closed ahead ahead_leaf Valid AtLeast
closed-list r m c z f u x l k v p h =
    let a = closed-chain f u k (number (first v)) x (second v) _ h.2 in
    let b = least-chain m f u l (number (first v)) x (second v) _ h.2 in
    omega arith

pub closed-get : {fs : List Format} → All fs → (n : ℕ) → Closed (get_or fs n empty)
closed-get done n = closed-empty
closed-get (also h k) zero = h
closed-get (also h k) (suc n) = closed-get k n

pub ruleset closed = (closed-empty, closed-fixed, closed-mark, closed-packed, closed-string, closed-payload, closed-ask, closed-list, done, also, closed-seq, least-fore, one-fixed, one-string, one-count, least-packed)

at_length : (s : List ℕ) (p : ℕ) (bs : List ℕ) → p ≤ length s → At s p bs → p + length bs ≤ length s
at_length s p bs h a = let e = simp (length-take, length-drop) at (ap length a) in omega arith

-- A closed format is read, from p to q, exactly where the layout of a valid value stands.
pub layout-iff : (f : Format) → Closed f → (s : List ℕ) (p : ℕ) (v : Value) (q : ℕ) → Bytes s → p ≤ length s
    → Ends (trace f s p) v q ↔ Valid f v p × At s p (bytes f v) × (q ≡ p + length (bytes f v))
unfolding Closed
layout-iff f c s p v q b h = (to, from)
  where
    to : Ends (trace f s p) v q → Valid f v p × At s p (bytes f v) × (q ≡ p + length (bytes f v))
    to e = let r = trace-placed f s p b e in (r.0, r.1.there, r.1.next)

    from : Valid f v p × At s p (bytes f v) × (q ≡ p + length (bytes f v)) → Ends (trace f s p) v q
    from r = placed-trace f s p v r.0 r.1 (omega (arith, c v p r.0, at_length s p (bytes f v) h r.1)) ∙ ap (ended v) (sym r.2)
