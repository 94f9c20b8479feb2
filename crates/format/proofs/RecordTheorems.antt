-- The record determines the value: the words, with the bytes of the texts that they point to, decode to what was read.
use Rattle.std.specs.Prelude.{ℕ, suc, zero, ◌+◌, ◌≡◌, refl, List, [], ◌++◌, drop}
use Rattle.std.proofs.Common.{ap, sym, ◌∙◌, subst, append_assoc, append-nil, arith}
use Rattle.std.proofs.Math.Dec.{eqb-suc-zero}
use Rattle.format.specs.Trace.{pick, out, Ends}
use Rattle.format.specs.Format.{Value, none, first, second, Width, byte, half, word, long, option, Leaf, fixed, mark, packed, string, payload, count, ask, Format, empty, leaf, seq}
use Rattle.format.specs.Reading.{little, part, size, trace}
use Rattle.format.specs.Record.{shown, words_leaf, words, unshown, words_of, decode_leaf, decode, Held}
use Rattle.format.specs.TraceTheorems.{Passed}
use Rattle.format.proofs.TraceTheorems.{part_length, leaf-ends, seq-ends}

unshown-shown : (w : Width) (n : ℕ) (ws : List ℕ)
    → (unshown w (shown w n ++ ws) ≡ n) × (drop (words_of w) (shown w n ++ ws) ≡ ws)
unfolding pick
unshown-shown byte n ws = (refl, refl)
unshown-shown half n ws = (refl, refl)
unshown-shown word n ws = (refl, refl)
unshown-shown long n ws = (omega arith, refl)
unshown-shown option zero ws = (refl, refl)
unshown-shown option (suc n) ws = (rw eqb-suc-zero (omega arith), refl)

pub leaf-held : (l : Leaf) (s : List ℕ) (p : ℕ) (v : Value) (q : ℕ) → Passed l s p v q → Held v s
leaf-held (fixed w r) s p v q h = rw h.2 tt
leaf-held (mark m y) s p v q h = rw h.2 tt
leaf-held packed s p v q h = rw h.2 tt
leaf-held (string r c ok) s p v q h = rw h.3 (ap (part s (p + 4)) (part_length s (p + 4) (little (part s p 4)) h.0))
leaf-held (payload r c) s p v q h = rw h.2 (ap (part s (p + 4)) (part_length s (p + 4) (little (part s p 4)) h.0))
leaf-held (count r m c z) s p v q h = rw h.2 tt
leaf-held (ask l) s p v q h = rw h.1 tt

pub trace-held : (f : Format) (s : List ℕ) (p : ℕ) {v : Value} {q : ℕ} → Ends (trace f s p) v q → Held v s
unfolding trace out
trace-held empty s p {v} h = let x : v ≡ none = cc in rw x tt
trace-held (leaf l) s p h = leaf-held l s p _ _ (leaf-ends l s p h)
trace-held (seq f g) s p {v} h = let r = seq-ends f g s p h in rw r.whole (trace-held f s p r.fore, trace-held (g (first v)) s r.mid r.back)

pub decode-leaf : (l : Leaf) (s s' : List ℕ) (p : ℕ) (v : Value) (q : ℕ) (ws : List ℕ) → Passed l s p v q → Held v s'
    → decode_leaf l (words_leaf l v ++ ws) s' ≡ (v, ws)
unfolding decode_leaf words_leaf
decode-leaf (fixed w r) s s' p v q ws h t = rw h.2 (let e = unshown-shown w (little (part s p (size w))) ws in rw (e.0, e.1))
decode-leaf (mark m y) s s' p v q ws h t = rw h.2
decode-leaf packed s s' p v q ws h t = rw h.2
decode-leaf (string r c ok) s s' p v q ws h t = let t' = rw h.3 at t in rw (h.3, t')
decode-leaf (payload r c) s s' p v q ws h t = let t' = rw h.2 at t in rw (h.2, t')
decode-leaf (count r m c z) s s' p v q ws h t = rw h.2
decode-leaf (ask l) s s' p v q ws h t = rw h.1

-- over any bytes that hold the texts
pub trace-decode : (f : Format) (s s' : List ℕ) (p : ℕ) {v : Value} {q : ℕ} (ws : List ℕ) → Ends (trace f s p) v q
    → Held v s' → decode f (words f v ++ ws) s' ≡ (v, ws)
unfolding decode words trace out
trace-decode empty s s' p ws h t = cc
trace-decode (leaf l) s s' p ws h t = decode-leaf l s s' p _ _ ws (leaf-ends l s p h) t
trace-decode (seq f g) s s' p {v} {q} ws h t =
    let r = seq-ends f g s p h in
    let k : Held (first v) s' × Held (second v) s' = subst (λ u. Held u s') r.whole t in
    let a = trace-decode f s s' p (words (g (first v)) (second v) ++ ws) r.fore k.0 in
    let b = trace-decode (g (first v)) s s' r.mid ws r.back k.1 in
    rw (append_assoc, a, b) (ap (λ x. (x, ws)) (sym r.whole))

-- Nothing is left over.
pub record-decode : (f : Format) (s s' : List ℕ) (p : ℕ) {v : Value} {q : ℕ} → Ends (trace f s p) v q → Held v s'
    → decode f (words f v) s' ≡ (v, [])
record-decode f s s' p {v} h t = ap (λ ws. decode f ws s') (sym (append-nil (words f v))) ∙ trace-decode f s s' p [] h t
