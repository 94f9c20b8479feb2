-- A reading that ends, against the layout of its value: both directions.
use Rattle.std.specs.Prelude.{ℕ, suc, zero, ◌+◌, ◌-◌, ◌*◌, ◌^◌, ◌/◌, ◌%◌, ◌≤◌, ◌<◌, ◌≡◌, refl, List, [], ◌∷◌, ◌++◌, Bool, true, false, not, length, take, drop, T, ltb, eqb}
use Rattle.std.proofs.Common.{ap, sym, ◌∙◌, subst, subst₂, arith, length-append, take-add, take-take, drop-drop, leb→le, le→leb, ltb→lt, lt→ltb, nltb→le, eqb→eq}
use Rattle.std.proofs.Math.Nat.{one-le-pow}
use Rattle.std.proofs.Math.Seq.{take-append_seam, drop-append_seam}
use Rattle.std.proofs.Math.Dec.{eqb_refl, not_T}
use Rattle.format.specs.Trace.{Wrong, Trace, needs, guard, pick, out, Ends}
use Rattle.format.specs.Format.{Value, none, number, content, first, second, Ask, pay, Leaf, fixed, mark, packed, string, payload, count, ask, Format, empty, leaf, seq, deny}
use Rattle.format.specs.Reading.{little, part, same, size, room, field, packed_step, trace_packed, trace_ask, trace_leaf, trace}
use Rattle.format.specs.Layout.{digits, groups, Bytes, bytes_leaf, bytes, clear, ValidLeaf, Valid, ahead_leaf, ahead}
use Rattle.format.specs.TraceTheorems.{Passed, Stepped, last, more}
use Rattle.format.proofs.TraceTheorems.{Ends-guard, guard-true, bind-out, part_length, field-ends, leaf-ends, stepped, seq-read, seq-ends}
use Rattle.format.specs.LayoutTheorems.{At, Placed}

pub bytes_drop : (n : ℕ) (s : List ℕ) → Bytes s → Bytes (drop n s)
bytes_drop zero s h = h
bytes_drop (suc n) [] h = tt
bytes_drop (suc n) (b ∷ s) h = bytes_drop n s h.1

pub bytes_take : (n : ℕ) (s : List ℕ) → Bytes s → Bytes (take n s)
bytes_take zero s h = tt
bytes_take (suc n) [] h = tt
bytes_take (suc n) (b ∷ s) h = (h.0, bytes_take n s h.1)

pub length_digits : (k n : ℕ) → length (digits k n) ≡ k
unfolding digits
length_digits zero n = refl
length_digits (suc k) n = ap suc (length_digits k (n / 256))

pub little-digits : (k n : ℕ) → n < 256 ^ k → little (digits k n) ≡ n
unfolding digits little
little-digits zero n h = omega arith
little-digits (suc k) n h = omega (arith, little-digits k (n / 256) (omega arith))

pub digits-little : (bs : List ℕ) → Bytes bs → (digits (length bs) (little bs) ≡ bs) × (little bs < 256 ^ length bs)
unfolding digits little
digits-little [] h = (refl, omega arith)
digits-little (b ∷ bs) h =
    let r = digits-little bs h.1 in
    let x : (b + 256 * little bs) % 256 ≡ b = omega (arith, h.0) in
    let y : (b + 256 * little bs) / 256 ≡ little bs = omega (arith, h.0) in
    let z : b + 256 * little bs < 256 ^ suc (length bs) = omega (arith, h.0) in
    (rw (x, y, r.0), z)

pub at_join : (s : List ℕ) (p : ℕ) (a b : List ℕ) → At s p a → At s (p + length a) b → At s p (a ++ b)
at_join s p a b h k = rw (length-append, take-add, drop-drop, h, k)

pub at-fore : (s : List ℕ) (p : ℕ) (a b : List ℕ) → At s p (a ++ b) → At s p a
at-fore s p a b h = sym (take-take (length a) (length (a ++ b)) (drop p s) (rw length-append (omega arith))) ∙ ap (take (length a)) h ∙ take-append_seam a b

pub at_back : (s : List ℕ) (p : ℕ) (a b : List ℕ) → At s p (a ++ b) → At s (p + length a) b
at_back s p a b h =
    let e : a ++ part s (p + length a) (length b) ≡ a ++ b = rw (length-append, take-add, drop-drop, at-fore s p a b h) at h in
    sym (drop-append_seam a _) ∙ ap (drop (length a)) e ∙ drop-append_seam a b

-- equal lists
pub same-eq : (xs ys : List ℕ) → T (same xs ys) → xs ≡ ys
unfolding same pick
same-eq [] [] h = refl
same-eq (x ∷ xs) (y ∷ ys) h = go (eqb x y) (eqb→eq x y) (same-eq xs ys) h
  where
    go : (d : Bool) → (T d → x ≡ y) → (T (same xs ys) → xs ≡ ys) → T (pick d (same xs ys) false) → x ∷ xs ≡ y ∷ ys
    go true e i t = let a = e tt in let b = i t in cc
    go false e i t = elim t [ ]
same-eq [] (y ∷ ys) h = elim h [ ]
same-eq (x ∷ xs) [] h = elim h [ ]

pub same_refl : (xs : List ℕ) → T (same xs xs)
unfolding same pick
same_refl [] = tt
same_refl (x ∷ xs) = go (eqb x x) (eqb_refl x) (same_refl xs)
  where
    go : (d : Bool) → T d → T (same xs xs) → T (pick d (same xs xs) false)
    go true e i = i
    go false e i = elim e [ ]

-- a fixed-width number and its bytes in the pack
number-there : (s : List ℕ) (p k : ℕ) → Bytes s → p + k ≤ length s
    → (little (part s p k) < 256 ^ k) × (digits k (little (part s p k)) ≡ part s p k) × At s p (part s p k)
number-there s p k b h =
    let len = part_length s p k h in
    let d = digits-little (part s p k) (bytes_take k _ (bytes_drop p s b)) in
    (subst (λ i. little (part s p k) < 256 ^ i) len d.1, subst (λ i. digits i (little (part s p k)) ≡ part s p k) len d.0, ap (part s p) len)

there-number : (s : List ℕ) (p k n : ℕ) → n < 256 ^ k → At s p (digits k n) → little (part s p k) ≡ n
there-number s p k n h a = ap little (rw length_digits at a) ∙ little-digits k n h

guard_out : {A : Type 0} (d : Bool) (w : Wrong) (p : ℕ) (t : Trace A) → T d → out (guard d w p t) ≡ out t
guard_out d w p t h = ap out (guard-true d w p t h)

room_out : {A : Type 0} (n : ℕ) (s : List ℕ) (p : ℕ) (t : Trace A) → n ≤ length s → out (room n s p t) ≡ out t
unfolding room out
room_out n s p t h = guard_out _ _ _ (needs n p t) (le→leb _ _ h)

field_out : {A : Type 0} (n : ℕ) (s : List ℕ) (p : ℕ) (k : List ℕ → Trace A) → p + n ≤ length s
    → out (field n s p k) ≡ out (k (part s p n))
unfolding field
field_out n s p k h = room_out (p + n) s p _ h

ask-read : (l : List Ask) (p : ℕ) → T (clear l) → Ends (trace_ask l p) none p
unfolding trace_ask clear out
ask-read [] p h = refl
ask-read (pay c n ∷ l) p h = ask-read l p h
ask-read (deny _ ∷ l) p h = elim h [ ]

leaf-read : (l : Leaf) (s : List ℕ) (p : ℕ) (v : Value) (q : ℕ) → Passed l s p v q → Ends (trace_leaf l s p) v q
unfolding trace_leaf out
leaf-read (fixed w r) s p v q h = field_out _ s p _ h.0 ∙ guard_out _ _ _ _ h.1 ∙ cc
leaf-read (mark m y) s p v q h = field_out _ s p _ h.0 ∙ guard_out _ _ _ _ h.1 ∙ cc
leaf-read packed s p v q h = (bind-out _ _ h.1).0 ∙ cc
leaf-read (string r c ok) s p v q h = field_out _ s p _ (omega arith) ∙ guard_out _ _ _ _ h.1 ∙ field_out _ s (p + 4) _ h.0 ∙ guard_out _ _ _ _ h.2 ∙ cc
leaf-read (payload r c) s p v q h = field_out _ s p _ (omega arith) ∙ guard_out _ _ _ _ h.1 ∙ field_out _ s (p + 4) _ h.0 ∙ cc
leaf-read (count r m c z) s p v q h = field_out _ s p _ (omega arith) ∙ guard_out _ _ _ _ h.1 ∙ room_out _ s (p + 4) _ h.0 ∙ cc
leaf-read (ask l) s p v q h = ask-read l p h.0 ∙ cc

-- packed numbers
record Grouped (k m : ℕ) (s : List ℕ) (p n q : ℕ) : Type 0 where
  there : At s p (groups k n)
  next : q ≡ p + length (groups k n)
  below : n < 16 * 128 ^ k
  least : m ≤ n
  fits : q ≤ length s

groups-small : (k n : ℕ) → n < 128 → groups (suc k) n ≡ n ∷ []
unfolding groups pick
groups-small k n h = go (ltb n 128) (lt→ltb n 128 h)
  where
    go : (d : Bool) → T d → pick d (n ∷ []) ((128 + n % 128) ∷ groups k (n / 128)) ≡ n ∷ []
    go true t = refl
    go false t = elim t [ ]

groups-large : (k n : ℕ) → 128 ≤ n → groups (suc k) n ≡ (128 + n % 128) ∷ groups k (n / 128)
unfolding groups pick
groups-large k n h = go (ltb n 128) (ltb→lt n 128)
  where
    go : (d : Bool) → (T d → n < 128)
        → pick d (n ∷ []) ((128 + n % 128) ∷ groups k (n / 128)) ≡ (128 + n % 128) ∷ groups k (n / 128)
    go true t = let x = t tt in absurd (omega arith)
    go false t = refl

-- one byte
byte-there : (s : List ℕ) (p : ℕ) → Bytes s → p + 1 ≤ length s
    → (little (part s p 1) < 256) × (part s p 1 ≡ little (part s p 1) ∷ [])
unfolding digits
byte-there s p b h =
    let r = number-there s p 1 b h in
    let x : little (part s p 1) % 256 ≡ little (part s p 1) = omega arith in
    (omega arith, sym r.1 ∙ ap (λ y. y ∷ []) x)

groups-ends : (k m : ℕ) (s : List ℕ) (p : ℕ) {n q : ℕ} → m ≤ 1 → Bytes s → Ends (trace_packed k m s p) n q
    → Grouped k m s p n q
unfolding trace_packed out groups
groups-ends zero m s p {n} {q} m1 b h =
    let a = field-ends _ s p _ h in
    let c = Ends-guard _ _ _ _ a.1 in
    let d = Ends-guard _ _ _ _ c.1 in
    let e = byte-there s p b a.0 in
    let x : n ≡ little (part s p 1) = cc in
    let y : q ≡ p + 1 = cc in
    let g = leb→le (little (part s p 1)) 15 c.0 in
    let g' = leb→le m (little (part s p 1)) d.0 in
    record { there = e.1 ∙ cc; next = omega arith; below = omega arith; least = omega arith; fits = omega (arith, a.0) }
groups-ends (suc k) m s p {n} {q} m1 b h =
    let a = field-ends _ s p _ h in
    let e = byte-there s p b a.0 in
    go (ltb→lt (little (part s p 1)) 128) (nltb→le (little (part s p 1)) 128) a.0 e.0 e.1 (stepped _ _ _ _ _ a.1) (λ x. groups-ends k 1 s (p + 1) (omega arith) b)
  where
    go : {d : Bool} {c : ℕ} → (T d → c < 128) → (T (not d) → 128 ≤ c) → p + 1 ≤ length s → c < 256 → part s p 1 ≡ c ∷ []
        → Stepped d m c (p + 1) (trace_packed k 1 s (p + 1)) n q
        → ((x : ℕ) → Ends (trace_packed k 1 s (p + 1)) x q → Grouped k 1 s (p + 1) x q) → Grouped (suc k) m s p n q
    go {d} {c} i j f e g (last u x y z) r =
        let v = i u in
        let w = groups-small k n (omega arith) in
        let len : length (groups (suc k) n) ≡ 1 = rw w in
        record { there = rw w (g ∙ cc); next = omega arith; below = omega (arith, one-le-pow k 128 (omega arith)); least = omega arith; fits = omega arith }
    go {d} {c} i j f e g (more u x h y) r =
        let v = j u in
        let o = r x h in
        let w = groups-large k n (omega (arith, o.least)) in
        let n1 : 128 + n % 128 ≡ c = omega arith in
        let n2 : n / 128 ≡ x = omega arith in
        let len : length (groups (suc k) n) ≡ suc (length (groups k x)) = rw (w, n2) in
        record { there = rw w (rw (n1, n2) (at_join s p (c ∷ []) (groups k x) g o.there)); next = omega (arith, len, o.next); below = omega (arith, o.below); least = omega arith; fits = o.fits }

byte_of : (s : List ℕ) (p c : ℕ) → At s p (c ∷ []) → little (part s p 1) ≡ c
unfolding little
byte_of s p c h = ap little h ∙ omega arith

step-last : (d : Bool) (m b p : ℕ) (t : Trace ℕ) → T d → m ≤ b → Ends (packed_step d m b p t) b p
unfolding packed_step out
step-last true m b p t u h = guard_out _ _ _ _ (le→leb m b h)
step-last false m b p t u h = elim u [ ]

step-more : (d : Bool) (m b p : ℕ) (t : Trace ℕ) {x q : ℕ} → T (not d) → Ends t x q
    → Ends (packed_step d m b p t) (b - 128 + 128 * x) q
unfolding packed_step out
step-more false m b p t u h = (bind-out t _ h).0
step-more true m b p t {q = q} u h = elim u [ ]

groups-read : (k m : ℕ) (s : List ℕ) (p n : ℕ) → n < 16 * 128 ^ k → m ≤ n → At s p (groups k n)
    → p + length (groups k n) ≤ length s → Ends (trace_packed k m s p) n (p + length (groups k n))
unfolding trace_packed out groups
groups-read zero m s p n below least a fits =
    let e = byte_of s p n a in
    field_out _ s p _ fits ∙ guard_out _ _ _ _ (rw e (le→leb n 15 (omega arith))) ∙ guard_out _ _ _ _ (rw e (le→leb m n least)) ∙ cc
groups-read (suc k) m s p n below least a fits = go (ltb n 128) (ltb→lt n 128) (nltb→le n 128) (groups-read k 1 s (p + 1) (n / 128))
  where
    go : (d : Bool) → (T d → n < 128) → (T (not d) → 128 ≤ n)
        → (n / 128 < 16 * 128 ^ k → 1 ≤ n / 128 → At s (p + 1) (groups k (n / 128)) → p + 1 + length (groups k (n / 128)) ≤ length s → Ends (trace_packed k 1 s (p + 1)) (n / 128) (p + 1 + length (groups k (n / 128))))
        → Ends (trace_packed (suc k) m s p) n (p + length (groups (suc k) n))
    go true i j r =
        let h = i tt in
        let w = groups-small k n h in
        let e = byte_of s p n (rw w at a) in
        let q : p + length (groups (suc k) n) ≡ p + 1 = rw w in
        rw q (field_out _ s p _ (omega arith) ∙ rw e (step-last _ m n (p + 1) _ (lt→ltb n 128 h) least))
    go false i j r =
        let h = j tt in
        let w = groups-large k n h in
        let b : At s p ((128 + n % 128) ∷ groups k (n / 128)) = rw w at a in
        let e = byte_of s p (128 + n % 128) (at-fore s p ((128 + n % 128) ∷ []) (groups k (n / 128)) b) in
        let q : p + length (groups (suc k) n) ≡ p + 1 + length (groups k (n / 128)) = rw w (omega arith) in
        let o = r (omega arith) (omega arith) (at_back s p ((128 + n % 128) ∷ []) (groups k (n / 128)) b) (omega arith) in
        let v : 128 + n % 128 - 128 + 128 * (n / 128) ≡ n = omega arith in
        let o' = rw v at (step-more (ltb (128 + n % 128) 128) m (128 + n % 128) (p + 1) (trace_packed k 1 s (p + 1)) (not_T (ltb (128 + n % 128) 128) (λ t. let z = ltb→lt (128 + n % 128) 128 t in omega arith)) o) in
        rw q (field_out _ s p _ (omega arith) ∙ rw e o')

leaf-placed : (l : Leaf) (s : List ℕ) (p : ℕ) (v : Value) (q : ℕ) → Bytes s → Passed l s p v q
    → ValidLeaf l v p × Placed s p q (bytes_leaf l v) (ahead_leaf l v)
unfolding bytes_leaf ahead_leaf
leaf-placed (fixed w r) s p v q b h =
    let d = number-there s p (size w) b h.0 in
    let len = part_length s p (size w) h.0 in
    rw (h.2, h.3) ((refl, d.0, h.1), rw d.1 record { there = d.2; next = omega arith; room = λ _. omega arith })
leaf-placed (mark m y) s p v q b h = (h.2, record { there = same-eq _ _ h.1; next = h.3; room = λ _. omega arith })
leaf-placed packed s p v q b h =
    let r = groups-ends 4 0 s p (omega arith) b h.1 in
    rw h.2 ((refl, omega (arith, r.below)), record { there = r.there; next = r.next; room = λ _. omega (arith, r.fits) })
leaf-placed (string r c ok) s p v q b h =
    let n = little (part s p 4) in
    let d = number-there s p 4 b (omega arith) in
    let len4 = part_length s p 4 (omega arith) in
    let len = part_length s (p + 4) n h.0 in
    let a : At s (p + 4) (part s (p + 4) n) = ap (part s (p + 4)) len in
    rw (h.3, h.4) ((refl, omega arith, rw len h.1, h.2), rw (len, d.1) record { there = at_join s p (part s p 4) (part s (p + 4) n) d.2 (rw len4 a); next = rw length-append (omega arith); room = λ _. omega arith })
leaf-placed (payload r c) s p v q b h =
    let n = little (part s p 4) in
    let d = number-there s p 4 b (omega arith) in
    let len4 = part_length s p 4 (omega arith) in
    let len = part_length s (p + 4) n h.0 in
    let a : At s (p + 4) (part s (p + 4) n) = ap (part s (p + 4)) len in
    rw (h.2, h.3) ((refl, omega arith, rw len h.1), rw (len, d.1) record { there = at_join s p (part s p 4) (part s (p + 4) n) d.2 (rw len4 a); next = rw length-append (omega arith); room = λ _. omega arith })
leaf-placed (count r m c z) s p v q b h =
    let d = number-there s p 4 b (omega arith) in
    let len = part_length s p 4 (omega arith) in
    rw (h.2, h.3) ((refl, d.0, h.1), rw d.1 record { there = d.2; next = omega arith; room = λ _. h.0 })
leaf-placed (ask l) s p v q b h = ((h.1, h.0), record { there = refl; next = omega arith; room = λ x. omega arith })

-- from the layout to the reading
placed-leaf : (l : Leaf) (s : List ℕ) (p : ℕ) (v : Value) → ValidLeaf l v p → At s p (bytes_leaf l v)
    → p + length (bytes_leaf l v) + ahead_leaf l v ≤ length s → Passed l s p v (p + length (bytes_leaf l v))
unfolding bytes_leaf ahead_leaf
placed-leaf (fixed w r) s p v g a h =
    let e = there-number s p (size w) (number v) g.1 a in
    let len = length_digits (size w) (number v) in
    (omega arith, rw e g.2, g.0 ∙ cc, omega arith)
placed-leaf (mark m y) s p v g a h = (omega arith, rw a (same_refl m), g, refl)
placed-leaf packed s p v g a h = (number v, groups-read 4 0 s p (number v) (omega arith) (omega arith) a (omega arith), g.0)
placed-leaf (string r c ok) s p v g a h =
    let len = length_digits 4 (length (content v)) in
    let app = length-append (digits 4 (length (content v))) (content v) in
    let e = there-number s p 4 (length (content v)) g.1 (at-fore s p _ (content v) a) in
    let b : At s (p + 4) (content v) = rw len at (at_back s p (digits 4 (length (content v))) (content v) a) in
    (omega arith, rw e g.2, rw (e, b) g.3, g.0 ∙ rw (e, b), omega arith)
placed-leaf (payload r c) s p v g a h =
    let len = length_digits 4 (length (content v)) in
    let app = length-append (digits 4 (length (content v))) (content v) in
    let e = there-number s p 4 (length (content v)) g.1 (at-fore s p _ (content v) a) in
    let b : At s (p + 4) (content v) = rw len at (at_back s p (digits 4 (length (content v))) (content v) a) in
    (omega arith, rw e g.2, g.0 ∙ rw (e, b), omega arith)
placed-leaf (count r m c z) s p v g a h =
    let e = there-number s p 4 (number v) g.1 a in
    let len = length_digits 4 (number v) in
    (rw e (omega arith), rw e g.2, g.0 ∙ cc, omega arith)
placed-leaf (ask l) s p v g a h = (g.1, g.0, omega arith)

-- T4
pub trace-placed : (f : Format) (s : List ℕ) (p : ℕ) {v : Value} {q : ℕ} → Bytes s → Ends (trace f s p) v q
    → Valid f v p × Placed s p q (bytes f v) (ahead f v)
unfolding trace out Valid bytes ahead
trace-placed empty s p {v} {q} b h = (cc, record { there = refl; next = let x : q ≡ p = cc in omega arith; room = λ x. let y : q ≡ p = cc in omega arith })
trace-placed (leaf l) s p {v} {q} b h = leaf-placed l s p v q b (leaf-ends l s p h)
trace-placed (seq f g) s p {v} {q} b h =
    let r = seq-ends f g s p h in
    let x = trace-placed f s p b r.fore in
    let y = trace-placed (g (first v)) s r.mid b r.back in
    let e = x.1.next in
    let z : Valid (g (first v)) (second v) (p + length (bytes f (first v))) × Placed s (p + length (bytes f (first v))) q (bytes (g (first v)) (second v)) (ahead (g (first v)) (second v)) = rw e at y in
    let len = length-append (bytes f (first v)) (bytes (g (first v)) (second v)) in
    ((r.whole, x.0, z.0), record { there = at_join s p _ _ x.1.there z.1.there; next = omega (arith, z.1.next); room = λ k. let u = x.1.room k in let w = z.1.room (omega arith) in omega (arith, z.1.next, e) })

pub placed-trace : (f : Format) (s : List ℕ) (p : ℕ) (v : Value) → Valid f v p → At s p (bytes f v)
    → p + length (bytes f v) + ahead f v ≤ length s → Ends (trace f s p) v (p + length (bytes f v))
unfolding trace out Valid bytes ahead
placed-trace empty s p v g a h = let z : p + 0 ≡ p = omega arith in cc
placed-trace (leaf l) s p v g a h = leaf-read l s p v _ (placed-leaf l s p v g a h)
placed-trace (seq f k) s p v g a h =
    let len = length-append (bytes f (first v)) (bytes (k (first v)) (second v)) in
    let x = placed-trace f s p (first v) g.1 (at-fore s p (bytes f (first v)) (bytes (k (first v)) (second v)) a) (omega arith) in
    let y = placed-trace (k (first v)) s (p + length (bytes f (first v))) (second v) g.2 (at_back s p (bytes f (first v)) (bytes (k (first v)) (second v)) a) (omega arith) in
    let e : p + length (bytes f (first v)) + length (bytes (k (first v)) (second v)) ≡ p + length (bytes f (first v) ++ bytes (k (first v)) (second v)) = omega arith in
    subst₂ (λ u q. Ends (trace (seq f k) s p) u q) (sym g.0) e (seq-read f k s p x y).0
