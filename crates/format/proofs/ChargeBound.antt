-- A bound on the charges of every reading, also of one that stops: so much a byte.
use Rattle.std.specs.Prelude.{ℕ, suc, zero, ◌+◌, ◌-◌, ◌*◌, ◌≤◌, ◌≡◌, refl, List, [], ◌∷◌, map, Bool, true, false, length, T, leb}
use Rattle.std.proofs.Common.{ap, sym, ◌∙◌, arith, mul-add, add-mul, mul_comm, mul-le-mul_left, mul-le-mul_right, length-append, leb→le}
use Rattle.format.specs.Trace.{Wrong, wrong, unexpected_eof, Trace, stop, end, charge, needs, bind, guard, amounts, sum, total, Out, stopped, ended, out, Ends}
use Rattle.format.specs.Format.{Value, num, pair, number, first, second, Rule, Width, Ask, pay, deny, fixed, mark, packed, string, payload, count, ask, Format, empty, leaf, seq, chain, times, items, entries, counted}
use Rattle.format.specs.Reading.{little, part, room, field, trace_ask, trace_leaf, trace}
use Rattle.format.specs.Layout.{Bytes, bytes, Valid}
use Rattle.format.proofs.TraceTheorems.{bind-out, leaf-ends, seq-ends, trace-within}
use Rattle.format.specs.ChargeSums.{charges_ask}
use Rattle.format.proofs.ChargeSums.{free-guard, free-bind, packed-free}
use Rattle.format.proofs.LayoutTheorems.{trace-placed}
use Rattle.format.specs.CountsCovered.{AtLeast}
use Rattle.format.proofs.CountsCovered.{least_at, least-chain}
use Rattle.format.specs.ChargeBound.{Rated}

-- sequences

bind_stopped : {A B : Type 0} (t : Trace A) (k : A → ℕ → Trace B) {w : Wrong} {q : ℕ} → out t ≡ stopped w q
    → total (bind t k) ≡ total t
unfolding out bind amounts sum
bind_stopped (stop w p) k h = refl
bind_stopped (end a p) k h = let z : ◌≡◌ {A = ℕ} 0 1 = cc in absurd (omega arith)
bind_stopped (charge c n p t) k h = omega (arith, bind_stopped t k h)
bind_stopped (needs n p t) k h = bind_stopped t k h

bind-end : {A B : Type 0} (t : Trace A) (h : A → B) → total (bind t (λ a q. end (h a) q)) ≡ total t
unfolding bind amounts sum
bind-end (stop w p) h = refl
bind-end (end a p) h = refl
bind-end (charge c n p t) h = omega (arith, bind-end t h)
bind-end (needs n p t) h = bind-end t h

-- the charges of a sequence: those of its first part, and, where that ends, those of its second
data Sum (f : Format) (g : Value → Format) (s : List ℕ) (p : ℕ) : Type 0 where
  alone : total (trace (seq f g) s p) ≡ total (trace f s p) → Sum f g s p
  both : (v : Value) (m : ℕ) → Ends (trace f s p) v m
      → total (trace (seq f g) s p) ≡ total (trace f s p) + total (trace (g v) s m) → Sum f g s p

seq-sum : (f : Format) (g : Value → Format) (s : List ℕ) (p : ℕ) → Sum f g s p
unfolding trace
seq-sum f g s p = go (out (trace f s p)) refl
  where
    go : (o : Out Value) → out (trace f s p) ≡ o → Sum f g s p
    go (stopped w q) e = alone (bind_stopped (trace f s p) _ e)
    go (ended v m) e = both v m e ((bind-out (trace f s p) _ e).1 ∙ ap (λ n. total (trace f s p) + n) (bind-end (trace (g v) s m) (λ w. pair v w)))

-- with x bytes of the first part and y of the second
join : (a b c j k x y : ℕ) → b ≤ c + j * x → a + k * x + (b + k * y) ≤ a + c + (k + j) * (x + y)
join a b c j k x y h = omega (arith, h, add-mul k j (x + y), mul-add k x y, mul-add j x y)

-- A part, and a rest whose fixed share is covered by the part's bytes.
pub rated-seq : (a c j k : ℕ) (f : Format) (g : Value → Format) (b : Value → ℕ) → Rated a k f
    → ((v : Value) → Rated (b v) k (g v)) → ((v : Value) (p : ℕ) → Valid f v p → b v ≤ c + j * length (bytes f v))
    → Rated (a + c) (k + j) (seq f g)
rated-seq a c j k f g b x y z = record { stops = λ s p u h. stops' s p u h (seq-sum f g s p); ends = ends' }
  where
    stops' : (s : List ℕ) (p : ℕ) → Bytes s → p ≤ length s → Sum f g s p
        → total (trace (seq f g) s p) ≤ a + c + (k + j) * (length s - p)
    stops' s p u h (alone e) = omega (arith, e, x.stops s p u h, add-mul k j (length s - p))
    stops' s p u h (both v m e i) =
        let d = trace-placed f s p u e in
        let w = trace-within f s p e in
        let len : length (bytes f v) ≡ m - p = omega (arith, d.1.next) in
        let split : m - p + (length s - m) ≡ length s - p = omega (arith, w.0, w.1 h) in
        let l = join a (b v) c j k (m - p) (length s - m) (omega (arith, ap (λ n. j * n) len, z v p d.0)) in
        omega (arith, i, l, ap (λ n. (k + j) * n) split, x.ends s p u h e, (y v).stops s m u (w.1 h))

    ends' : (s : List ℕ) (p : ℕ) {v : Value} {q : ℕ} → Bytes s → p ≤ length s → Ends (trace (seq f g) s p) v q
        → total (trace (seq f g) s p) ≤ a + c + (k + j) * (q - p)
    ends' s p {v} {q} u h t =
        let r = seq-ends f g s p t in
        let d = trace-placed f s p u r.fore in
        let w = trace-within f s p r.fore in
        let w' = trace-within (g (first v)) s r.mid r.back in
        let len : length (bytes f (first v)) ≡ r.mid - p = omega (arith, d.1.next) in
        let split : r.mid - p + (q - r.mid) ≡ q - p = omega (arith, w.0, w'.0) in
        let l = join a (b (first v)) c j k (r.mid - p) (q - r.mid) (omega (arith, ap (λ n. j * n) len, z (first v) p d.0)) in
        omega (arith, r.sums, l, ap (λ n. (k + j) * n) split, x.ends s p u h r.fore, (y (first v)).ends s r.mid u (w.1 h) r.back)

pub rated-up : {a k a' k' : ℕ} {f : Format} → a ≤ a' → k ≤ k' → Rated a k f → Rated a' k' f
rated-up {a} {k} {a'} {k'} h i r =
    record {
      stops = λ s p u b. omega (arith, r.stops s p u b, mul-le-mul_right (length s - p) i);
      ends = λ s p {v} {q} u b e. omega (arith, r.ends s p u b e, mul-le-mul_right (q - p) i);
    }

-- questions on charges

pub guard-under : {A : Type 0} (d : Bool) (w : Wrong) (p : ℕ) (t : Trace A) (x : ℕ) → (T d → total t ≤ x)
    → total (guard d w p t) ≤ x
unfolding guard amounts sum
guard-under true w p t x h = h tt
guard-under false w p t x h = omega arith

room-under : {A : Type 0} (n : ℕ) (s : List ℕ) (p : ℕ) (t : Trace A) (x : ℕ) → (n ≤ length s → total t ≤ x)
    → total (room n s p t) ≤ x
unfolding room amounts
room-under n s p t x h = guard-under (leb n (length s)) (wrong unexpected_eof 0) p (needs n p t) x (λ d. h (leb→le n (length s) d))

field-under : {A : Type 0} (n : ℕ) (s : List ℕ) (p : ℕ) (k : List ℕ → Trace A) (x : ℕ)
    → (p + n ≤ length s → total (k (part s p n)) ≤ x) → total (field n s p k) ≤ x
unfolding field
field-under n s p k x h = room-under (p + n) s p (k (part s p n)) x h

free-under : {A : Type 0} (t : Trace A) (x : ℕ) → total t ≡ 0 → total t ≤ x
free-under t x h = omega arith

-- leaves

free-rated : {k : ℕ} {f : Format} → ((s : List ℕ) (p : ℕ) → total (trace f s p) ≡ 0) → Rated 0 k f
free-rated {k} {f} h = record { stops = λ s p _ _. free-under (trace f s p) _ (h s p); ends = λ s p _ _ _. free-under (trace f s p) _ (h s p) }

pub rated-empty : {k : ℕ} → Rated 0 k empty
unfolding trace amounts sum
rated-empty = free-rated (λ s p. refl)

pub rated-fixed : {k : ℕ} {w : Width} {r : Rule} → Rated 0 k (leaf (fixed w r))
unfolding trace trace_leaf field room amounts sum
rated-fixed = free-rated (λ s p. free-guard _ _ _ _ (free-guard _ _ _ _ refl))

pub rated-mark : {k : ℕ} {m : List ℕ} {y : ℕ → Wrong} → Rated 0 k (leaf (mark m y))
unfolding trace trace_leaf field room amounts sum
rated-mark = free-rated (λ s p. free-guard _ _ _ _ (free-guard _ _ _ _ refl))

pub rated-packed : {k : ℕ} → Rated 0 k (leaf packed)
unfolding trace trace_leaf amounts sum
rated-packed = free-rated (λ s p. free-bind _ _ (packed-free 4 0 s p) (λ n q. refl))

pub end-free : {A : Type 0} (a : A) (p : ℕ) → total (end a p) ≡ 0
unfolding amounts sum
end-free a p = refl

once_under : {A : Type 0} (c n p : ℕ) (t : Trace A) (x : ℕ) → n ≤ x → total t ≡ 0 → total (charge c n p t) ≤ x
unfolding amounts sum
once_under c n p t x h e = omega arith

string-under : (r : Rule) (c : ℕ) (ok : List ℕ → Bool) (s : List ℕ) (p x : ℕ)
    → (p + 4 + little (part s p 4) ≤ length s → little (part s p 4) ≤ x) → total (trace_leaf (string r c ok) s p) ≤ x
unfolding trace_leaf
string-under r c ok s p x h = field-under 4 s p _ _ (λ _. guard-under _ _ _ _ _ (λ _. field-under _ s (p + 4) _ _ (λ b. once_under _ _ _ _ _ (h b) (free-guard _ _ _ _ (end-free _ _)))))

payload-under : (r : Rule) (c : ℕ) (s : List ℕ) (p x : ℕ)
    → (p + 4 + little (part s p 4) ≤ length s → little (part s p 4) ≤ x) → total (trace_leaf (payload r c) s p) ≤ x
unfolding trace_leaf
payload-under r c s p x h = field-under 4 s p _ _ (λ _. guard-under _ _ _ _ _ (λ _. field-under _ s (p + 4) _ _ (λ b. once_under _ _ _ _ _ (h b) (end-free _ _))))

-- a text's charge in the bytes up to e, at a rate of one and more
text-join : (k n p e : ℕ) → p + 4 + n ≤ e → n ≤ 0 + suc k * (e - p)
text-join k n p e h = omega (arith, mul-le-mul_right (e - p) (one k))
  where
    one : (k : ℕ) → 1 ≤ suc k
    one k = omega arith

pub rated-string : {k : ℕ} {r : Rule} {c : ℕ} {ok : List ℕ → Bool} → Rated 0 (suc k) (leaf (string r c ok))
unfolding trace
rated-string {k} {r} {c} {ok} =
    record {
      stops = λ s p _ _. string-under r c ok s p _ (λ b. text-join k _ p (length s) b);
      ends = λ s p {v} {q} _ _ e. let h = leaf-ends (string r c ok) s p e in string-under r c ok s p _ (λ b. text-join k _ p q (omega (arith, h.4)));
    }

pub rated-payload : {k : ℕ} {r : Rule} {c : ℕ} → Rated 0 (suc k) (leaf (payload r c))
unfolding trace
rated-payload {k} {r} {c} =
    record {
      stops = λ s p _ _. payload-under r c s p _ (λ b. text-join k _ p (length s) b);
      ends = λ s p {v} {q} _ _ e. let h = leaf-ends (payload r c) s p e in payload-under r c s p _ (λ b. text-join k _ p q (omega (arith, h.3)));
    }

ask-under : (l : List Ask) (p : ℕ) → total (trace_ask l p) ≤ charges_ask l
unfolding trace_ask charges_ask amounts sum
ask-under [] p = omega arith
ask-under (pay c n ∷ l) p = omega (arith, ask-under l p)
ask-under (deny w ∷ l) p = omega arith

pub rated-ask : {k : ℕ} (l : List Ask) → Rated (charges_ask l) k (leaf (ask l))
unfolding trace trace_leaf
rated-ask l = record { stops = λ s p _ _. omega (arith, ask-under l p); ends = λ s p _ _ _. omega (arith, ask-under l p) }

-- lists

pub rated-plain : {k : ℕ} {f : Format} {g : Value → Format} → Rated 0 k f → ((v : Value) → Rated 0 k (g v))
    → Rated 0 k (seq f g)
rated-plain {k} {f} {g} x y = rated-up (omega arith) (omega arith) (rated-seq 0 0 0 k f g (λ _. 0) x y (λ v p h. omega arith))

rated-chain : {S : Type 0} {k : ℕ} {f : S → Format} (u : S → Value → S) → ((x : S) → Rated 0 k (f x)) → (n : ℕ) (x : S)
    → Rated 0 k (chain f u x n)
unfolding chain
rated-chain u h zero x = rated-empty
rated-chain u h (suc n) x = rated-plain (h x) (λ v. rated-chain u h n (u x v))

-- the charge of a count, which its rule and the bytes left have passed
count_under : (r : Rule) (m c z : ℕ) (s : List ℕ) (p x : ℕ)
    → (T (r.test (little (part s p 4))) → p + 4 + little (part s p 4) * m ≤ length s → little (part s p 4) * z ≤ x)
    → total (trace_leaf (count r m c z) s p) ≤ x
unfolding trace_leaf
count_under r m c z s p x h = field-under 4 s p _ _ (λ _. guard-under _ _ _ _ _ (λ t. room-under _ s (p + 4) _ _ (λ b. once_under _ _ _ _ _ (h t b) (end-free _ _))))

-- a count so small, by its rule, that its charge is covered by its own four bytes
four : (k e p : ℕ) → p + 4 ≤ e → 4 * k ≤ 0 + k * (e - p)
four k e p b = let i : 4 ≤ e - p = omega arith in omega (arith, mul-le-mul_left k i, mul_comm 4 k)

rated-count : {r : Rule} {m c z k : ℕ} → ((n : ℕ) → T (r.test n) → n * z ≤ 4 * k)
    → Rated 0 k (leaf (count r m c z))
unfolding trace
rated-count {r} {m} {c} {z} {k} few =
    record {
      stops = λ s p _ _. count_under r m c z s p _ (λ t b. omega (arith, few _ t, four k (length s) p (omega arith)));
      ends = λ s p {v} {q} _ _ e. let h = leaf-ends (count r m c z) s p e in count_under r m c z s p _ (λ t b. omega (arith, few _ t, four k q p (omega (arith, h.3))));
    }

-- with n entries of size z in x bytes
entries-join : (n z k x y : ℕ) → n ≤ x → n * z + k * x ≤ (k + z) * (y + x)
entries-join n z k x y h = omega (arith, mul-le-mul_right z h, mul_comm x z, add-mul k z (y + x), mul-add k y x, mul-add z y x)

-- A list whose count is held against the bytes left, and whose items each take a byte.
pub rated-list : {S : Type 0} {r : Rule} {m c z k : ℕ} {f : S → Format} (u : S → Value → S) (x : S) → 1 ≤ m
    → ((x : S) → AtLeast 1 (f x)) → ((x : S) → Rated 0 k (f x))
    → Rated 0 (k + z) (seq (leaf (count r m c z)) (λ n. chain f u x (number n)))
unfolding trace
rated-list {S} {r} {m} {c} {z} {k} {f} u x one least h = record { stops = λ s p b i. stops' s p b i (seq-sum _ _ s p); ends = ends' }
  where
    many : (s : List ℕ) (p : ℕ) → p + 4 + little (part s p 4) * m ≤ length s → p + 4 + little (part s p 4) ≤ length s
    many s p i = omega (arith, mul-le-mul_left (little (part s p 4)) one)

    stops' : (s : List ℕ) (p : ℕ) → Bytes s → p ≤ length s
        → Sum (leaf (count r m c z)) (λ n. chain f u x (number n)) s p
        → total (trace (seq (leaf (count r m c z)) (λ n. chain f u x (number n))) s p) ≤ 0 + (k + z) * (length s - p)
    stops' s p b i (alone e) =
        omega (arith, e, count_under r m c z s p ((k + z) * (length s - p)) (λ t d. let l = many s p d in omega (arith, entries-join (little (part s p 4)) z k (length s - (p + 4)) 4 (omega arith), ap (λ n. (k + z) * n) (sums (length s) p (omega arith)))))
      where
        sums : (e p : ℕ) → p + 4 ≤ e → 4 + (e - (p + 4)) ≡ e - p
        sums e p h = omega arith
    stops' s p b i (both v q e j) = go v q (leaf-ends (count r m c z) s p e) j
      where
        go : (v : Value) (q : ℕ)
            → (p + 4 + little (part s p 4) * m ≤ length s) × T (r.test (little (part s p 4))) × (v ≡ num (little (part s p 4))) × (q ≡ p + 4)
            → total (trace (seq (leaf (count r m c z)) (λ n. chain f u x (number n))) s p) ≡ total (trace (leaf (count r m c z)) s p) + total (trace (chain f u x (number v)) s q)
            → total (trace (seq (leaf (count r m c z)) (λ n. chain f u x (number n))) s p) ≤ 0 + (k + z) * (length s - p)
        go v q w j =
            let n = little (part s p 4) in
            let l = many s p w.0 in
            let a = count_under r m c z s p (n * z) (λ _ _. omega arith) in
            let y = (rated-chain u h (number v) x).stops s q b (omega arith) in
            let g : 4 + (length s - (p + 4)) ≡ length s - p = omega arith in
            let o : length s - q ≡ length s - (p + 4) = omega arith in
            omega (arith, j, a, y, ap (λ n. k * n) o, entries-join n z k (length s - (p + 4)) 4 (omega arith), ap (λ n. (k + z) * n) g)

    ends' : (s : List ℕ) (p : ℕ) {v : Value} {q : ℕ} → Bytes s → p ≤ length s
        → Ends (trace (seq (leaf (count r m c z)) (λ n. chain f u x (number n))) s p) v q
        → total (trace (seq (leaf (count r m c z)) (λ n. chain f u x (number n))) s p) ≤ 0 + (k + z) * (q - p)
    ends' s p {v} {q} b i e =
        let w = seq-ends (leaf (count r m c z)) (λ n. chain f u x (number n)) s p e in
        go (first v) (second v) w.mid (leaf-ends (count r m c z) s p w.fore) w.back w.sums
      where
        go : (a w : Value) (o : ℕ)
            → (p + 4 + little (part s p 4) * m ≤ length s) × T (r.test (little (part s p 4))) × (a ≡ num (little (part s p 4))) × (o ≡ p + 4)
            → Ends (trace (chain f u x (number a)) s o) w q
            → total (trace (seq (leaf (count r m c z)) (λ n. chain f u x (number n))) s p) ≡ total (trace (leaf (count r m c z)) s p) + total (trace (chain f u x (number a)) s o)
            → total (trace (seq (leaf (count r m c z)) (λ n. chain f u x (number n))) s p) ≤ 0 + (k + z) * (q - p)
        go a w o j t y =
            let n = little (part s p 4) in
            let l = many s p j.0 in
            let d = trace-placed (chain f u x (number a)) s o b t in
            let i : number a ≡ n = ap number j.2 in
            let g = least-bytes (number a) w o d.0 in
            let c' = count_under r m c z s p (n * z) (λ _ _. omega arith) in
            let y' = (rated-chain u h (number a) x).ends s o b (omega arith) t in
            let o' : q - o ≡ q - (p + 4) = omega arith in
            let q' : 4 + (q - (p + 4)) ≡ q - p = omega (arith, d.1.next) in
            omega (arith, y, c', y', ap (λ n. k * n) o', entries-join n z k (q - (p + 4)) 4 (omega (arith, d.1.next)), ap (λ n. (k + z) * n) q')
          where
            least-bytes : (n : ℕ) (w : Value) (o : ℕ) → Valid (chain f u x n) w o → n ≤ length (bytes (chain f u x n) w)
            least-bytes n w o g = at_least n (least-chain 1 f u least n x) w o g
              where
                at_least : (n : ℕ) → AtLeast (n * 1) (chain f u x n) → (w : Value) (o : ℕ) → Valid (chain f u x n) w o
                    → n ≤ length (bytes (chain f u x n) w)
                at_least n l w o g = omega (arith, least_at (n * 1) (chain f u x n) l w o g)

-- A list with such a count.
pub rated-few : {S : Type 0} {r : Rule} {m c z k : ℕ} {f : S → Format} (u : S → Value → S) (x : S)
    → ((n : ℕ) → T (r.test n) → n * z ≤ 4 * k) → ((x : S) → Rated 0 k (f x))
    → Rated 0 k (seq (leaf (count r m c z)) (λ n. chain f u x (number n)))
rated-few u x few h = rated-plain (rated-count few) (λ v. rated-chain u h (number v) x)

-- A count held against the bytes left, and questions that let no count but 0 pass.
pub rated-none : {r : Rule} {m c z : ℕ} {g : Value → Format} → 1 ≤ m → ((v : Value) → Rated 0 0 (g v))
    → ((v w : Value) (p : ℕ) → Valid (g v) w p → number v ≡ 0) → Rated 0 z (seq (leaf (count r m c z)) g)
unfolding trace
rated-none {r} {m} {c} {z} {g} one quiet zero' = record { stops = λ s p b i. stops' s p b i (seq-sum _ _ s p); ends = ends' }
  where
    counted-stops : (s : List ℕ) (p : ℕ) → total (trace (leaf (count r m c z)) s p) ≤ z * (length s - p)
    counted-stops s p = count_under r m c z s p _ (λ _ i. covers (little (part s p 4)) (length s) (omega (arith, mul-le-mul_left (little (part s p 4)) one)))
      where
        covers : (n e : ℕ) → p + 4 + n ≤ e → n * z ≤ z * (e - p)
        covers n e h = let i : n ≤ e - p = omega arith in omega (arith, mul-le-mul_left z i, mul_comm n z)

    stops' : (s : List ℕ) (p : ℕ) → Bytes s → p ≤ length s → Sum (leaf (count r m c z)) g s p
        → total (trace (seq (leaf (count r m c z)) g) s p) ≤ 0 + z * (length s - p)
    stops' s p b i (alone e) = omega (arith, e, counted-stops s p)
    stops' s p b i (both v q e j) = let w = trace-within (leaf (count r m c z)) s p e in omega (arith, j, counted-stops s p, (quiet v).stops s q b (w.1 i))

    ends' : (s : List ℕ) (p : ℕ) {v : Value} {q : ℕ} → Bytes s → p ≤ length s
        → Ends (trace (seq (leaf (count r m c z)) g) s p) v q
        → total (trace (seq (leaf (count r m c z)) g) s p) ≤ 0 + z * (q - p)
    ends' s p {v} {q} b i e =
        let w = seq-ends (leaf (count r m c z)) g s p e in
        let j = leaf-ends (count r m c z) s p w.fore in
        let n : number (first v) ≡ 0 = zero' (first v) (second v) w.mid (trace-placed (g (first v)) s w.mid b w.back).0 in
        let none : little (part s p 4) ≡ 0 = sym (ap number j.2) ∙ n in
        omega (arith, w.sums, count_under r m c z s p 0 (λ _ _. rw none (omega arith)), (quiet (first v)).ends s w.mid b ((trace-within (leaf (count r m c z)) s p w.fore).1 i) w.back)

-- what the items of a list weigh, against the bytes they take

items-under : (f : Format) (w : Value → ℕ) (k : ℕ) → ((v : Value) (p : ℕ) → Valid f v p → w v ≤ k * length (bytes f v))
    → (n : ℕ) (v : Value) (p : ℕ) → Valid (times f n) v p → sum (map w (items n v)) ≤ k * length (bytes (times f n) v)
unfolding chain items sum Valid bytes
items-under f w k h zero v p g = omega arith
items-under f w k h (suc n) v p g =
    omega (arith, h (first v) p g.1, items-under f w k h n (second v) _ g.2, length-append (bytes f (first v)) (bytes (times f n) (second v)), mul-add k (length (bytes f (first v))) (length (bytes (times f n) (second v))), ap (λ i. k * i) (length-append (bytes f (first v)) (bytes (times f n) (second v))))

pub entries-under : (r : Rule) (m c z : ℕ) (f : Format) (w : Value → ℕ) (k : ℕ)
    → ((v : Value) (p : ℕ) → Valid f v p → w v ≤ k * length (bytes f v)) → (v : Value) (p : ℕ)
    → Valid (seq (leaf (count r m c z)) (λ n. times f (number n))) v p
    → sum (map w (entries v)) ≤ k * length (bytes (seq (leaf (count r m c z)) (λ n. times f (number n))) v)
unfolding Valid bytes
entries-under r m c z f w k h v p g =
    omega (arith, items-under f w k h (number (first v)) (second v) _ g.2, ap (λ i. k * i) (length-append (bytes (leaf (count r m c z)) (first v)) (bytes (times f (number (first v))) (second v))), mul-add k (length (bytes (leaf (count r m c z)) (first v))) (length (bytes (times f (number (first v))) (second v))))

pub counted-under : (r : Rule) (m c z : ℕ) (f : Format) → AtLeast 1 f → (v : Value) (p : ℕ)
    → Valid (seq (leaf (count r m c z)) (λ n. times f (number n))) v p
    → counted v ≤ length (bytes (seq (leaf (count r m c z)) (λ n. times f (number n))) v)
unfolding Valid bytes
counted-under r m c z f l v p g =
    omega (arith, least_at (number (first v) * 1) (times f (number (first v))) (least-chain 1 (λ _. f) (λ _ _. tt) (λ _. l) (number (first v)) tt) (second v) _ g.2, length-append (bytes (leaf (count r m c z)) (first v)) (bytes (times f (number (first v))) (second v)))
