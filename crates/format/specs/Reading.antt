-- The trace of a format: its questions in order, at a place of a file.
use Rattle.std.specs.Prelude.{ℕ, suc, zero, ◌+◌, ◌-◌, ◌*◌, List, [], ◌∷◌, Bool, true, false, length, take, drop, leb, ltb, eqb}
use Rattle.format.specs.Trace.{wrong, unexpected_eof, invalid_utf8, invalid_source_integer, Trace, stop, end, charge, needs, bind, guard, pick}
use Rattle.format.specs.Format.{Value, none, num, text, pair, Width, byte, half, word, long, option, Ask, pay, deny, Leaf, fixed, mark, packed, string, payload, count, ask, Format, empty, leaf, seq}

-- The number that bytes stand for, the low byte first.
unfoldable pub little : List ℕ → ℕ
little [] = 0
little (b ∷ bs) = b + 256 * little bs

-- The n bytes from p on.
abbrev pub part : List ℕ → ℕ → ℕ → List ℕ
part s p n = take n (drop p s)

unfoldable pub same : List ℕ → List ℕ → Bool
same [] [] = true
same [] (y ∷ ys) = false
same (x ∷ xs) [] = false
same (x ∷ xs) (y ∷ ys) = pick (eqb x y) (same xs ys) false

abbrev pub size : Width → ℕ
size byte = 1
size half = 2
size word = 4
size long = 8
size option = 4

-- "Are the bytes there?": the file has n bytes from its start on, or 2.
unfoldable pub room : {A : Type 0} → ℕ → List ℕ → ℕ → Trace A → Trace A
room n s p t = guard (leb n (length s)) (wrong unexpected_eof 0) p (needs n p t)

-- The next n bytes.
unfoldable pub field : {A : Type 0} → ℕ → List ℕ → ℕ → (List ℕ → Trace A) → Trace A
field n s p k = room (p + n) s p (k (part s p n))

-- "A packed number takes seven bits a byte, low group first; the fifth byte is at most 0F, a later byte never 00."
-- The byte b, read before p, is the last one (and at least m), or t reads the groups above it.
unfoldable pub packed_step : Bool → ℕ → ℕ → ℕ → Trace ℕ → Trace ℕ
packed_step true m b p t = guard (leb m b) (wrong invalid_source_integer 0) p (end b p)
packed_step false m b p t = bind t (λ n q. end (b - 128 + 128 * n) q)

-- At most k bytes after this one, which as a last byte is at least m.
unfoldable pub trace_packed : ℕ → ℕ → List ℕ → ℕ → Trace ℕ
trace_packed zero m s p =
    field 1 s p (λ bs. guard (leb (little bs) 15) (wrong invalid_source_integer 0) (p + 1) (guard (leb m (little bs)) (wrong invalid_source_integer 0) (p + 1) (end (little bs) (p + 1))))
trace_packed (suc k) m s p = field 1 s p (λ bs. packed_step (ltb (little bs) 128) m (little bs) (p + 1) (trace_packed k 1 s (p + 1)))

unfoldable pub trace_ask : List Ask → ℕ → Trace Value
trace_ask [] p = end none p
trace_ask (pay c n ∷ l) p = charge c n p (trace_ask l p)
trace_ask (deny w ∷ l) p = stop w p

unfoldable pub trace_leaf : Leaf → List ℕ → ℕ → Trace Value
trace_leaf (fixed w r) s p = field (size w) s p (λ bs. guard (r.test (little bs)) (r.why (little bs)) (p + size w) (end (num (little bs)) (p + size w)))
trace_leaf (mark m y) s p = field (length m) s p (λ bs. guard (same bs m) (y (little bs)) (p + length m) (end none (p + length m)))
trace_leaf packed s p = bind (trace_packed 4 0 s p) (λ n q. end (num n) q)
-- "Text: 4-byte length; bytes there? length affordable? well-formed?"
trace_leaf (string r c ok) s p =
    field 4 s p
    (λ bs. guard (r.test (little bs)) (r.why (little bs)) (p + 4)
    (field (little bs) s (p + 4)
    (λ cs. charge c (little bs) (p + 4 + little bs) (guard (ok cs) (wrong invalid_utf8 0) (p + 4 + little bs) (end (text (p + 4) cs) (p + 4 + little bs))))))
trace_leaf (payload r c) s p =
    field 4 s p
    (λ bs. guard (r.test (little bs)) (r.why (little bs)) (p + 4)
    (field (little bs) s (p + 4)
    (λ cs. charge c (little bs) (p + 4 + little bs) (end (text (p + 4) cs) (p + 4 + little bs)))))
-- "Any list: does its count not exceed the bytes left? Then: is the charge affordable?"
trace_leaf (count r m c z) s p =
    field 4 s p
    (λ bs. guard (r.test (little bs)) (r.why (little bs)) (p + 4)
    (room (p + 4 + little bs * m) s (p + 4) (charge c (little bs * z) (p + 4) (end (num (little bs)) (p + 4)))))
trace_leaf (ask l) s p = trace_ask l p

unfoldable pub trace : Format → List ℕ → ℕ → Trace Value
trace empty s p = end none p
trace (leaf l) s p = trace_leaf l s p
trace (seq f g) s p = bind (trace f s p) (λ v q. bind (trace (g v) s q) (λ w r. end (pair v w) r))
