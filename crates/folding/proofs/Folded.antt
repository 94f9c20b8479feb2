-- The laws of folded bytes: what the code reads at a place, and the loops.
use Rattle.std.specs.Prelude.{ℕ, zero, suc, ◌+◌, ◌-◌, ◌*◌, ◌/◌, ◌%◌, ◌≤◌, ◌<◌, ◌≡◌, List, [], ◌∷◌, Bool, true, false, ltb, Option, Some, None, is_some, not, length, get_or}
use Rattle.std.proofs.Common.{refl, ap, sym, ◌∙◌, arith, add-one, drop-cons, eq-eqb, ne_eqb, ltb-true, ltb-false}
use Rattle.format.specs.Trace.{pick}
use Rattle.format.specs.Reading.{part, same}
use Rattle.vob24.specs.Utf8.{in?}
use Rattle.folding.specs.Bytes.{folds, fold_of, head_fold, fold_bytes}
use Rattle.folding.specs.FoldLaws.{fold_stays, fold-letter, head_plain}
use Rattle.folding.specs.Contract.{span, LetterAt, ahead, past, Ready, Taking, NextIs, PrefixIs, RunIs, SameFolded}
use Rattle.folding.specs.declared.Letter.{Letter}
use Rattle.folding.specs.declared.Held.TheVariants.{Nothing, Both}
use Rattle.folding.specs.declared.Rest.{Rest}

-- ---- the bytes from a place on

span-cons : (s : List ℕ) (at end : ℕ) → at < end → end ≤ length s → span s at end ≡ get_or s at 0 ∷ span s (at + 1) end
span-cons s at end h k = go (end - at) refl
  where
    go : (n : ℕ) → end - at ≡ n → span s at end ≡ get_or s at 0 ∷ span s (at + 1) end
    go zero e = absurd (omega arith)
    go (suc n) e =
        let i : at < length s = omega arith in
        let j : end - (at + 1) ≡ n = omega arith in
        rw (e, j, drop-cons s at 0 i, add-one)

span_none : (s : List ℕ) (at end : ℕ) → end ≤ at → span s at end ≡ []
span_none s at end h = let e : end - at ≡ 0 = omega arith in rw e

-- ---- the answers of `fold_at`

none-by-last : (b c : ℕ) → in? 0x80 0xbf c ≡ false → fold_of b c ≡ 0
unfolding fold_of pick
none-by-last b c e = rw e (go (in? 0xc3 0xc5 b))
  where
    go : (t : Bool) → ◌≡◌ {A = ℕ} (pick t 0 0) 0
    go true = refl
    go false = refl

module _ (s : List ℕ) (at end : ℕ) (h : at < end) (k : end ≤ length s) where
  pub no_lead : in? 0xc3 0xc5 (get_or s at 0) ≡ false → head_fold (span s at end) ≡ 0
  no_lead e = ap head_fold (span-cons s at end h k) ∙ head_plain _ _ e

  pub lead-last : end ≤ at + 1 → head_fold (span s at end) ≡ 0
  unfolding head_fold
  lead-last l = ap head_fold (span-cons s at end h k ∙ ap (◌∷◌ (get_or s at 0)) (span_none s (at + 1) end l))

  module _ (m : at + 1 < end) where
    two : span s at end ≡ get_or s at 0 ∷ get_or s (at + 1) 0 ∷ span s (at + 1 + 1) end
    two = span-cons s at end h k ∙ ap (◌∷◌ (get_or s at 0)) (span-cons s (at + 1) end m k)

    pub no_last : in? 0x80 0xbf (get_or s (at + 1) 0) ≡ false → head_fold (span s at end) ≡ 0
    unfolding head_fold
    no_last e = ap head_fold two ∙ none-by-last _ _ e

    pub entry-is : in? 0xc3 0xc5 (get_or s at 0) ≡ true → in? 0x80 0xbf (get_or s (at + 1) 0) ≡ true
        → head_fold (span s at end) ≡ get_or folds ((get_or s at 0 - 195) * 64 + (get_or s (at + 1) 0 - 128)) 0
    unfolding head_fold fold_of pick
    entry-is e f = ap head_fold two ∙ rw (e, f)

-- its entry, where that is not 0
pub letter-is : {s : List ℕ} {at end q f : ℕ} → head_fold (span s at end) ≡ f → q ≡ f → (q ≡ 0 → ⊥)
    → LetterAt s at end (record { base = q / 256; mark = q % 256 })
letter-is e i z = record { some = λ k. z (i ∙ sym e ∙ k); base = rw (e, i); mark = rw (e, i) }

-- ---- the folded bytes from a place on, by what `fold_at` told

module _ (s : List ℕ) (at end : ℕ) (h : at < end) (k : end ≤ length s) where
  pub folded-stays : head_fold (span s at end) ≡ 0 → fold_bytes (span s at end) ≡ get_or s at 0 ∷ fold_bytes (span s (at + 1) end)
  folded-stays z =
      let x = span-cons s at end h k in
      ap fold_bytes x ∙ fold_stays _ _ (sym (ap head_fold x) ∙ z)

  module _ {l : Letter} (w : LetterAt s at end l) where
    -- a letter has two bytes
    pub letter-room : at + 1 < end
    unfolding head_fold
    letter-room = go (ltb (at + 1) end) refl
      where
        go : (t : Bool) → ltb (at + 1) end ≡ t → at + 1 < end
        go true e = ltb-true _ _ e
        go false e = absurd (w.some (lead-last s at end h k (ltb-false _ _ e)))

    pub folded-letter : fold_bytes (span s at end) ≡ l.base ∷ 0xcc ∷ l.mark ∷ fold_bytes (span s (at + 2) end)
    folded-letter =
        let x = two s at end h k letter-room in
        let a = ap head_fold x in
        let i : at + 1 + 1 ≡ at + 2 = omega arith in
        ap fold_bytes x ∙ fold-letter _ _ _ (λ y. w.some (a ∙ y)) ∙ rw (← a, i, ← w.base, ← w.mark)

-- ---- the answers of `next`

pub next_none : (s : List ℕ) {r : Rest} → r.held ≡ Nothing → r.end ≤ r.at → ahead s r ≡ []
unfolding fold_bytes
next_none s {r} e h = rw (e, span_none s r.at r.end h)

module _ {s : List ℕ} {r : Rest} (e : r.held ≡ Nothing) (h : r.at < r.end) (k : r.end ≤ length s) where
  pub next-stays : head_fold (span s r.at r.end) ≡ 0 → Taking s r (get_or s r.at 0) (past r 1)
  next-stays z = record { is = rw (e, folded-stays s r.at r.end h k z); ready = λ y. record { within = omega arith; room = k } }

  pub next-letter : {l : Letter} → LetterAt s r.at r.end l
      → Taking s r l.base (record { held = Both l.mark; at = r.at + 2; end = r.end })
  next-letter w = record { is = rw (e, folded-letter s r.at r.end h k w); ready = λ y. record { within = omega (arith, letter-room s r.at r.end h k w); room = k } }

-- ---- the loop of `same_prefix`

same_head : (x : ℕ) {y : ℕ} (xs ys : List ℕ) → x ≡ y → same (x ∷ xs) (y ∷ ys) ≡ same xs ys
unfolding same pick
same_head x {y} xs ys e = rw (eq-eqb x y e)

pub plain-first : (s : List ℕ) (at end : ℕ) → at < end → end ≤ length s → in? 0xc3 0xc5 (get_or s at 0) ≡ false
    → fold_bytes (span s at end) ≡ get_or s at 0 ∷ fold_bytes (span s (at + 1) end)
plain-first s at end h k e = folded-stays s at end h k (no_lead s at end h k e)

pub prefix-more : {s : List ℕ} {a e b f i : ℕ} → e ≤ length s → f ≤ length s → PrefixIs s a e b f i → a + i < e → b + i < f
    → get_or s (a + i) 0 ≡ get_or s (b + i) 0 → in? 0xc3 0xc5 (get_or s (a + i) 0) ≡ false → PrefixIs s a e b f (i + 1)
prefix-more {s} {a} {e} {b} {f} {i} x y w h k z o =
    let c : a + (i + 1) ≡ a + i + 1 = omega arith in
    let d : b + (i + 1) ≡ b + i + 1 = omega arith in
    let p = plain-first s (a + i) e h x o in
    let q = plain-first s (b + i) f k y (rw z at o) in
    record {
      is = w.is ∙ rw (c, d, p, q) (same_head _ _ _ z);
      fore = omega arith;
      back = omega arith;
      less = rw c (omega (arith, w.less, ap length p));
    }

-- ---- the loop of `same_folded`

-- a and m, b and n: where the two names start, and how many bytes they have
pub record Comparing (s : List ℕ) (a m b n : ℕ) (l r : Rest) : Type 0 where
  pub fore : Ready s l
  pub back : Ready s r
  pub leads : same (fold_bytes (part s a m)) (fold_bytes (part s b n)) ≡ same (ahead s l) (ahead s r)

other-head : (x y : ℕ) (xs ys : List ℕ) → (x ≡ y → ⊥) → same (x ∷ xs) (y ∷ ys) ≡ false
unfolding same pick
other-head x y xs ys e = rw (ne_eqb x y e)

module _ {s : List ℕ} {a m b n : ℕ} where
  module _ {l r : Rest} (c : Comparing s a m b n l r) where
    -- the first is at its end
    pub comparing-end : (o : Option (ℕ × Rest)) (q : Bool) → ahead s l ≡ [] → NextIs s r o → is_some o ≡ not q
        → SameFolded s a m b n q
    unfolding same
    comparing-end None true i w e = record { is = sym (c.leads ∙ rw (i, w)) }
    comparing-end None false i w e = absurd (cc)
    comparing-end (Some x) true i w e = absurd (cc)
    comparing-end (Some x) false i w e = record { is = sym (c.leads ∙ rw (i, w.is)) }

    module _ {x : ℕ} {l' : Rest} (v : Taking s l x l') where
      -- the second is
      pub comparing-short : ahead s r ≡ [] → SameFolded s a m b n false
      unfolding same
      comparing-short i = record { is = sym (c.leads ∙ rw (v.is, i)) }

      module _ {y : ℕ} {r' : Rest} (w : Taking s r y r') where
        pub comparing-other : (x ≡ y → ⊥) → SameFolded s a m b n false
        comparing-other d = record { is = sym (c.leads ∙ rw (v.is, w.is) (other-head _ _ _ _ d)) }

        pub comparing-run : Ready s l' × Ready s r'
        comparing-run = (v.ready c.fore, w.ready c.back)

        pub comparing-more : {k : ℕ} → x ≡ y → RunIs s l' r' k → Comparing s a m b n (past l' k) (past r' k)
        comparing-more d g =
            let i = comparing-run in
            record {
              fore = record { within = g.fore; room = i.0.room };
              back = record { within = g.back; room = i.1.room };
              leads = c.leads ∙ rw (v.is, w.is) (same_head _ _ _ d) ∙ g.is;
            }
