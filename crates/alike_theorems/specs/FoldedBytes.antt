-- What is done on bytes is the folding of characters: the folded bytes of a well-formed name are the encodings of its
-- folded characters.
use Rattle.std.specs.Prelude.{ℕ, zero, suc, ◌+◌, ◌-◌, ◌*◌, ◌/◌, ◌%◌, ◌≤◌, ◌<◌, ◌≡◌, refl, ◌⊎◌, Bool, true, false, ◌&&◌, List, [], ◌∷◌, ◌++◌, T, eqb, length, get_or}
use Rattle.std.proofs.Common.{sym, ap, ◌∙◌, inl, inr, ⊎_elim, append-nil, arith, eqb-true}
use Rattle.std.proofs.lemmas.Bool.{eqb-false}
use Rattle.format.specs.Trace.{pick}
use Rattle.format.specs.Reading.{same}
use Rattle.format.proofs.LayoutTheorems.{same-eq}
use Rattle.vob24.specs.Utf8.{well_formed, encode, Encodes, none, more}
use Rattle.vob24.specs.Ranges.{inside, below, above, lt-or-ge}
use Rattle.vob24_theorems.specs.Scalars.{well-formed-iff}
use Rattle.alike.specs.Decompositions.{decompositions, replaced, decomposed, fold, scalars, alike}
use Rattle.alike.proofs.Table.{both, decomposed-outside}
use Rattle.folding.specs.Bytes.{folds, fold_of, head_fold, fold_bytes, Without}
use Rattle.folding.specs.FoldLaws.{fold-nil, fold_stays, fold-letter, head_plain, fold-plain}
use Rattle.alike_theorems.specs.Characters.{encode_all, encode_all-append, Encoded, in1, in2, in3, in4, encoded, scalars-encode, scalars-encode_all, decoded}
use Rattle.alike_theorems.specs.Folds.{same-agree, folded-well-formed}

-- ---- one computed test over U+00C0 to U+017F: an entry of `folds` has the bytes of the decomposition

-- what comes of a letter's bytes x, whose entry is f
abbrev folded : List ℕ → ℕ → List ℕ
folded x f = pick (eqb f 0) x (f / 256 ∷ 0xcc ∷ f % 256 ∷ [])

abbrev folded? : ℕ → List ℕ → Bool
folded? c [] = true
folded? c (f ∷ fs) = same (encode_all (decomposed c)) (folded (encode c) f) && folded? (suc c) fs

entry : (c : ℕ) (fs : List ℕ) → T (folded? c fs) → (i v : ℕ) → v ≡ c + i → i < length fs
    → encode_all (decomposed v) ≡ folded (encode v) (get_or fs i 0)
entry c [] t i v e h = absurd (omega arith)
entry c (f ∷ fs) t zero v e h =
    let r = both (same (encode_all (decomposed c)) (folded (encode c) f)) (folded? (suc c) fs) t in
    let d : v ≡ c = omega arith in
    rw d (same-eq (encode_all (decomposed c)) (folded (encode c) f) r.0)
entry c (f ∷ fs) t (suc i) v e h =
    let r = both (same (encode_all (decomposed c)) (folded (encode c) f)) (folded? (suc c) fs) t in
    entry (suc c) fs r.1 i v (omega arith) (omega arith)

letter-folds : (v : ℕ) → 0xc0 ≤ v → v < 0x180 → encode_all (decomposed v) ≡ folded (encode v) (get_or folds (v - 0xc0) 0)
unfolding pick same encode_all decompositions replaced decomposed folds
letter-folds v h k = entry 0xc0 folds tt (v - 0xc0) v (omega arith) (omega arith)

-- ---- from the front of the bytes

plain : (b : ℕ) (t : List ℕ) → (b < 0xc3) ⊎ (0xc5 < b) → fold_bytes (b ∷ t) ≡ b ∷ fold_bytes t
plain b t h = fold_stays b t (head_plain b t (⊎_elim (λ k. below 0xc3 0xc5 b k) (λ k. above 0xc3 0xc5 b k) h))

-- a character outside U+00C0 to U+017F
other : (v : ℕ) (t : List ℕ) → (v < 0xc0) ⊎ (0x17f < v) → fold_bytes (encode v ++ t) ≡ encode v ++ fold_bytes t
other v t h = go (encoded v)
  where
    go : Encoded v → fold_bytes (encode v ++ t) ≡ encode v ++ fold_bytes t
    go (in1 k e) = rw e (plain v t (inl (omega arith)))
    go (in2 k l e) =
        let b = 0xc0 + v / 64 in
        let c = 0x80 + v % 64 in
        rw e (plain b (c ∷ t) (⊎_elim (λ a. inl (omega arith)) (λ a. inr (omega arith)) h) ∙ ap (◌∷◌ b) (plain c t (inl (omega arith))))
    go (in3 k l e) =
        let b = 0xe0 + v / 4096 in
        let c = 0x80 + v / 64 % 64 in
        let d = 0x80 + v % 64 in
        rw e
        (plain b (c ∷ d ∷ t) (inr (omega arith)) ∙ ap (◌∷◌ b)
        (plain c (d ∷ t) (inl (omega arith)) ∙ ap (◌∷◌ c) (plain d t (inl (omega arith)))))
    go (in4 k e) =
        let b = 0xf0 + v / 262144 in
        let c = 0x80 + v / 4096 % 64 in
        let d = 0x80 + v / 64 % 64 in
        let f = 0x80 + v % 64 in
        rw e
        (plain b (c ∷ d ∷ f ∷ t) (inr (omega arith)) ∙ ap (◌∷◌ b)
        (plain c (d ∷ f ∷ t) (inl (omega arith)) ∙ ap (◌∷◌ c)
        (plain d (f ∷ t) (inl (omega arith)) ∙ ap (◌∷◌ d) (plain f t (inl (omega arith))))))

other-folds : (v : ℕ) → (v < 0xc0) ⊎ (0x17f < v) → encode_all (decomposed v) ≡ encode v
unfolding encode_all
other-folds v h = rw (decomposed-outside v h) (append-nil (encode v))

-- one within
letter-head : (v : ℕ) (t : List ℕ) → 0xc0 ≤ v → v < 0x180
    → head_fold ((0xc0 + v / 64) ∷ (0x80 + v % 64) ∷ t) ≡ get_or folds (v - 0xc0) 0
unfolding head_fold fold_of pick
letter-head v t h k =
    let i : (0xc0 + v / 64 - 0xc3) * 64 + (0x80 + v % 64 - 0x80) ≡ v - 0xc0 = omega arith in
    rw (inside 0xc3 0xc5 (0xc0 + v / 64) (omega arith) (omega arith), inside 0x80 0xbf (0x80 + v % 64) (omega arith) (omega arith), i)

two_bytes : (b c : ℕ) (t : List ℕ) → c < 0xc3
    → fold_bytes (b ∷ c ∷ t) ≡ folded (b ∷ c ∷ []) (head_fold (b ∷ c ∷ t)) ++ fold_bytes t
unfolding pick
two_bytes b c t h = go (eqb (head_fold (b ∷ c ∷ t)) 0) refl
  where
    go : (d : Bool) → eqb (head_fold (b ∷ c ∷ t)) 0 ≡ d
        → fold_bytes (b ∷ c ∷ t) ≡ folded (b ∷ c ∷ []) (head_fold (b ∷ c ∷ t)) ++ fold_bytes t
    go true e = rw e (fold_stays b (c ∷ t) (eqb-true _ _ e) ∙ ap (◌∷◌ b) (plain c t (inl h)))
    go false e = rw e (fold-letter b c t (eqb-false _ _ e))

letter : (v : ℕ) (t : List ℕ) → 0xc0 ≤ v → v < 0x180
    → fold_bytes (encode v ++ t) ≡ folded (encode v) (get_or folds (v - 0xc0) 0) ++ fold_bytes t
letter v t h k = go (encoded v)
  where
    go : Encoded v → fold_bytes (encode v ++ t) ≡ folded (encode v) (get_or folds (v - 0xc0) 0) ++ fold_bytes t
    go (in1 a e) = absurd (omega arith)
    go (in2 a b e) = rw (e, ← letter-head v t h k) (two_bytes (0xc0 + v / 64) (0x80 + v % 64) t (omega arith))
    go (in3 a b e) = absurd (omega arith)
    go (in4 a e) = absurd (omega arith)

front : (v : ℕ) (t : List ℕ) → fold_bytes (encode v ++ t) ≡ encode_all (decomposed v) ++ fold_bytes t
front v t =
    ⊎_elim (λ a. outside (inl a)) (λ a.
    ⊎_elim (λ b. letter v t a b ∙ ap (λ l. l ++ fold_bytes t) (sym (letter-folds v a b))) (λ b. outside (inr (omega arith)))
    (lt-or-ge v 0x180)) (lt-or-ge v 0xc0)
  where
    outside : (v < 0xc0) ⊎ (0x17f < v) → fold_bytes (encode v ++ t) ≡ encode_all (decomposed v) ++ fold_bytes t
    outside h = other v t h ∙ ap (λ l. l ++ fold_bytes t) (sym (other-folds v h))

pub folded-bytes : (x : List ℕ) → well_formed x ≡ true → fold_bytes x ≡ encode_all (fold (scalars x))
unfolding encode_all fold scalars
folded-bytes x h = go ((well-formed-iff x).0 h).1
  where
    go : {n : ℕ} {x : List ℕ} → Encodes n x → fold_bytes x ≡ encode_all (fold (scalars x))
    go none = fold-nil
    go (more v {t = t} s r) =
        front v t ∙ ap (◌++◌ (encode_all (decomposed v))) (go r) ∙ sym (encode_all-append (decomposed v) (fold (scalars t)))
        ∙ ap (λ l. encode_all (fold l)) (sym (scalars-encode v t))

-- ---- names are alike where their folded bytes are the same

encode_all-equal : (x y : List ℕ) → encode_all x ≡ encode_all y → x ≡ y
encode_all-equal x y e = sym (scalars-encode_all x) ∙ ap scalars e ∙ scalars-encode_all y

pub alike-bytes : (x y : List ℕ) → well_formed x ≡ true → well_formed y ≡ true → alike x y ≡ same (fold_bytes x) (fold_bytes y)
unfolding alike
alike-bytes x y h k =
    rw (folded-bytes x h, folded-bytes y k)
    (same-agree (fold (scalars x)) (fold (scalars y)) (encode_all (fold (scalars x))) (encode_all (fold (scalars y))) (ap encode_all)
    (encode_all-equal (fold (scalars x)) (fold (scalars y))))

-- ---- what folding keeps

pub folded-bytes-well-formed : (x : List ℕ) → well_formed x ≡ true → well_formed (fold_bytes x) ≡ true
folded-bytes-well-formed x h = rw (folded-bytes x h) (folded-well-formed x h)

-- a name with no byte from C3 to C5 is its own fold
pub plain-name-folds : (x : List ℕ) → well_formed x ≡ true → Without 0xc3 0xc5 x → fold (scalars x) ≡ scalars x
plain-name-folds x h n =
    encode_all-equal (fold (scalars x)) (scalars x) (sym (folded-bytes x h) ∙ fold-plain x n ∙ sym (decoded x h).back)
