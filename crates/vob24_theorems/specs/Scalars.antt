-- The scan counts n characters exactly where the bytes are the encodings of n scalar values, one after the other.
use Rattle.std.specs.Prelude.{ℕ, zero, suc, ◌+◌, ◌-◌, ◌*◌, ◌/◌, ◌%◌, ◌≤◌, ◌<◌, ◌≡◌, ◌⊎◌, ◌↔◌, Bool, true, false, leb, eqb}
use Rattle.std.proofs.Math.Path.{refl, ap, subst}
use Rattle.std.proofs.Common.{sym, ◌∙◌, inl, inr, ⊎_elim, le_refl, le_trans, lt-ltb, le-ltb, leb-true, length-append}
use mathlib.Core.List.{List, [], ◌∷◌, ◌++◌}
use native.Mathlib.Omega.{arith}
use Rattle.std.proofs.Math.ListN.{length}
use Rattle.format.specs.Trace.{pick}
use Rattle.vob24.specs.Utf8.{want, lead, Scan, ill_formed, characters, scan_from, scan, is_text, well_formed, encode, Scalar, Encodes, none, more}
use Rattle.vob24.specs.Ranges.{inside, lt-or-ge}
use Rattle.vob24.specs.Rows.{Row, r00, r80, rc2, re0, re1, red, ree, rf0, rf1, rf4, rf5}
use Rattle.vob24.proofs.Rows.{row, lead00, leadc2, leade0, leade1, leaded, leadee, leadf0, leadf1, leadf4}

-- The scan where a character begins, after k characters.
abbrev from : ℕ → List ℕ → Scan
from k bs = scan_from k 0 0x80 0xbf bs

-- ---- what the tests do at a whole sequence

module _ (k : ℕ) where
  one : (b : ℕ) (t : List ℕ) → lead b ≡ want 0 0x80 0xbf → from k (b ∷ t) ≡ from (suc k) t
  unfolding pick
  one b t e = rw e

  two : (b c : ℕ) (t : List ℕ) (lo hi : ℕ) → lead b ≡ want 1 lo hi → lo ≤ c → c ≤ hi
      → from k (b ∷ c ∷ t) ≡ from (suc k) t
  unfolding pick
  two b c t lo hi e h j = rw (e, inside lo hi c h j)

  three : (b c d : ℕ) (t : List ℕ) (lo hi : ℕ) → lead b ≡ want 2 lo hi → lo ≤ c → c ≤ hi → 0x80 ≤ d → d ≤ 0xbf
      → from k (b ∷ c ∷ d ∷ t) ≡ from (suc k) t
  unfolding pick
  three b c d t lo hi e h j h' j' = rw (e, inside lo hi c h j, inside 0x80 0xbf d h' j')

  four : (b c d f : ℕ) (t : List ℕ) (lo hi : ℕ) → lead b ≡ want 3 lo hi → lo ≤ c → c ≤ hi → 0x80 ≤ d → d ≤ 0xbf
      → 0x80 ≤ f → f ≤ 0xbf → from k (b ∷ c ∷ d ∷ f ∷ t) ≡ from (suc k) t
  unfolding pick
  four b c d f t lo hi e h j h' j' h'' j'' = rw (e, inside lo hi c h j, inside 0x80 0xbf d h' j', inside 0x80 0xbf f h'' j'')

-- ---- the four lengths of an encoding

encode1 : (v : ℕ) → v < 0x80 → encode v ≡ v ∷ []
encode1 v h = rw (lt-ltb v 0x80 h)

encode2 : (v : ℕ) → 0x80 ≤ v → v < 0x800 → encode v ≡ (0xc0 + v / 64) ∷ (0x80 + v % 64) ∷ []
encode2 v h k = rw (le-ltb v 0x80 h, lt-ltb v 0x800 k)

encode3 : (v : ℕ) → 0x800 ≤ v → v < 0x10000 → encode v ≡ (0xe0 + v / 4096) ∷ (0x80 + v / 64 % 64) ∷ (0x80 + v % 64) ∷ []
encode3 v h k = rw (le-ltb v 0x80 (omega arith), le-ltb v 0x800 h, lt-ltb v 0x10000 k)

encode4 : (v : ℕ) → 0x10000 ≤ v
    → encode v ≡ (0xf0 + v / 262144) ∷ (0x80 + v / 4096 % 64) ∷ (0x80 + v / 64 % 64) ∷ (0x80 + v % 64) ∷ []
encode4 v h = rw (le-ltb v 0x80 (omega arith), le-ltb v 0x800 (omega arith), le-ltb v 0x10000 h)

-- an encoding is passed as a whole
module _ (k v : ℕ) (t : List ℕ) where
  three-passed : 0x800 ≤ v → v < 0x10000 → (v < 0xd800) ⊎ (0xe000 ≤ v) → from k (encode v ++ t) ≡ from (suc k) t
  three-passed h j g =
      rw (encode3 v h j)
      (⊎_elim (λ a. three k (0xe0 + v / 4096) (0x80 + v / 64 % 64) (0x80 + v % 64) t 0xa0 0xbf (leade0 (0xe0 + v / 4096) (omega arith) (omega arith)) (omega arith) (omega arith) (omega arith) (omega arith)) (λ a.
      ⊎_elim (λ b. three k (0xe0 + v / 4096) (0x80 + v / 64 % 64) (0x80 + v % 64) t 0x80 0xbf (leade1 (0xe0 + v / 4096) (omega arith) (omega arith)) (omega arith) (omega arith) (omega arith) (omega arith)) (λ b.
      ⊎_elim (λ d. three k (0xe0 + v / 4096) (0x80 + v / 64 % 64) (0x80 + v % 64) t 0x80 0x9f (leaded (0xe0 + v / 4096) (omega arith) (omega arith)) (omega arith) (omega arith) (omega arith) (omega arith)) (λ d. three k (0xe0 + v / 4096) (0x80 + v / 64 % 64) (0x80 + v % 64) t 0x80 0xbf (leadee (0xe0 + v / 4096) (omega arith) (omega arith)) (omega arith) (omega arith) (omega arith) (omega arith))
      g) (lt-or-ge v 0xd000)) (lt-or-ge v 0x1000))

  four-passed : 0x10000 ≤ v → v < 0x110000 → from k (encode v ++ t) ≡ from (suc k) t
  four-passed h j =
      rw (encode4 v h)
      (⊎_elim (λ a. four k (0xf0 + v / 262144) (0x80 + v / 4096 % 64) (0x80 + v / 64 % 64) (0x80 + v % 64) t 0x90 0xbf (leadf0 (0xf0 + v / 262144) (omega arith) (omega arith)) (omega arith) (omega arith) (omega arith) (omega arith) (omega arith) (omega arith)) (λ a.
      ⊎_elim (λ b. four k (0xf0 + v / 262144) (0x80 + v / 4096 % 64) (0x80 + v / 64 % 64) (0x80 + v % 64) t 0x80 0xbf (leadf1 (0xf0 + v / 262144) (omega arith) (omega arith)) (omega arith) (omega arith) (omega arith) (omega arith) (omega arith) (omega arith)) (λ b. four k (0xf0 + v / 262144) (0x80 + v / 4096 % 64) (0x80 + v / 64 % 64) (0x80 + v % 64) t 0x80 0x8f (leadf4 (0xf0 + v / 262144) (omega arith) (omega arith)) (omega arith) (omega arith) (omega arith) (omega arith) (omega arith) (omega arith))
      (lt-or-ge v 0x100000)) (lt-or-ge v 0x40000))

  passed : Scalar v → from k (encode v ++ t) ≡ from (suc k) t
  passed s =
      ⊎_elim (λ a. rw (encode1 v a) (one k v t (lead00 v (omega arith) (omega arith)))) (λ a.
      ⊎_elim (λ b. rw (encode2 v a b) (two k (0xc0 + v / 64) (0x80 + v % 64) t 0x80 0xbf (leadc2 (0xc0 + v / 64) (omega arith) (omega arith)) (omega arith) (omega arith))) (λ b.
      ⊎_elim (λ d. three-passed b d (⊎_elim (λ e. inl e) (λ e. inr e.0) s)) (λ d. four-passed d (⊎_elim (λ e. omega arith) (λ e. e.1) s))
      (lt-or-ge v 0x10000)) (lt-or-ge v 0x800)) (lt-or-ge v 0x80)

sound : {n : ℕ} {bs : List ℕ} (k : ℕ) → Encodes n bs → from k bs ≡ characters (n + k)
unfolding pick
sound k none = let e : k ≡ 0 + k = omega arith in ap characters e
sound k (more v {n = n} {t = t} s r) =
    let e : n + suc k ≡ suc n + k = omega arith in
    passed k v t s ∙ sound (suc k) r ∙ ap characters e

-- ---- the other way

ill_formed≢characters : {X : Type 0} {n : ℕ} → ill_formed ≡ characters n → X
ill_formed≢characters e = let z : ◌≡◌ {A = ℕ} 0 1 = cc in absurd (let no : ⊥ = omega arith in no)

-- a byte that comes where so many more are due
record Cont (k left lo hi : ℕ) (bs : List ℕ) (m : ℕ) : Type 0 where
  c : ℕ
  t : List ℕ
  here : bs ≡ c ∷ t
  low : lo ≤ c
  high : c ≤ hi
  rest : scan_from (pick (eqb (left - 1) 0) (suc k) k) (left - 1) 0x80 0xbf t ≡ characters m

cont : (k left lo hi : ℕ) → eqb left 0 ≡ false → (bs : List ℕ) {m : ℕ} → scan_from k left lo hi bs ≡ characters m
    → Cont k left lo hi bs m
unfolding pick
cont k left lo hi n [] u = ill_formed≢characters (rw n at u)
cont k left lo hi n (c ∷ t) {m} u = go (leb lo c) (leb c hi) refl refl
  where
    go : (a z : Bool) → leb lo c ≡ a → leb c hi ≡ z → Cont k left lo hi (c ∷ t) m
    go true true p q = record { c = c; t = t; here = refl; low = leb-true lo c p; high = leb-true c hi q; rest = rw (n, p, q) at u }
    go true false p q = ill_formed≢characters (rw (n, p, q) at u)
    go false z p q = ill_formed≢characters (rw (n, p) at u)

-- the characters of these bytes make m with k before them
record Counts (k : ℕ) (bs : List ℕ) (m : ℕ) : Type 0 where
  n : ℕ
  encodes : Encodes n bs
  sum : n + k ≡ m

-- one number more, of which the sequence before them is the encoding
add : {k m : ℕ} {bs t : List ℕ} (v : ℕ) → Scalar v → bs ≡ encode v ++ t → Counts (suc k) t m → Counts k bs m
add {k} {m} v s e r = record { n = suc r.n; encodes = subst (Encodes (suc r.n)) (sym e) (more v s r.encodes); sum = omega (arith, r.sum) }

put3 : {k m : ℕ} (b c d : ℕ) (t : List ℕ) → 0xe0 ≤ b → b ≤ 0xef → 0x80 ≤ c → c ≤ 0xbf
    → 32 ≤ (b - 0xe0) * 64 + (c - 0x80) → ((b - 0xe0) * 64 + (c - 0x80) < 864) ⊎ (896 ≤ (b - 0xe0) * 64 + (c - 0x80))
    → 0x80 ≤ d → d ≤ 0xbf → Counts (suc k) t m → Counts k (b ∷ c ∷ d ∷ t) m
put3 {k} {m} b c d t hb kb hc kc lo g hd kd r = go ((b - 0xe0) * 64 + (c - 0x80)) refl
  where
    go : (w : ℕ) → w ≡ (b - 0xe0) * 64 + (c - 0x80) → Counts k (b ∷ c ∷ d ∷ t) m
    go w e = last (w * 64 + (d - 0x80)) refl
      where
        last : (v : ℕ) → v ≡ w * 64 + (d - 0x80) → Counts k (b ∷ c ∷ d ∷ t) m
        last v o =
            let q : v / 64 ≡ w = omega arith in
            let b' : 0xe0 + v / 4096 ≡ b = omega arith in
            let c' : 0x80 + v / 64 % 64 ≡ c = rw q (omega arith) in
            let d' : 0x80 + v % 64 ≡ d = omega arith in
            add v (⊎_elim (λ a. inl (omega arith)) (λ a. inr (omega arith, omega arith)) g) (rw (encode3 v (omega arith) (omega arith), b', c', d')) r

put4 : {k m : ℕ} (b c d f : ℕ) (t : List ℕ) → 0xf0 ≤ b → 0x80 ≤ c → c ≤ 0xbf → 16 ≤ (b - 0xf0) * 64 + (c - 0x80)
    → (b - 0xf0) * 64 + (c - 0x80) < 272
    → 0x80 ≤ d → d ≤ 0xbf → 0x80 ≤ f → f ≤ 0xbf → Counts (suc k) t m → Counts k (b ∷ c ∷ d ∷ f ∷ t) m
put4 {k} {m} b c d f t hb hc kc lo hi hd kd hf kf r = go ((b - 0xf0) * 64 + (c - 0x80)) refl
  where
    go : (w : ℕ) → w ≡ (b - 0xf0) * 64 + (c - 0x80) → Counts k (b ∷ c ∷ d ∷ f ∷ t) m
    go w e = last ((w * 64 + (d - 0x80)) * 64 + (f - 0x80)) refl
      where
        last : (v : ℕ) → v ≡ (w * 64 + (d - 0x80)) * 64 + (f - 0x80) → Counts k (b ∷ c ∷ d ∷ f ∷ t) m
        last v o =
            let p : v / 4096 ≡ w = omega arith in
            let q : v / 64 ≡ w * 64 + (d - 0x80) = omega arith in
            let b' : 0xf0 + v / 262144 ≡ b = omega arith in
            let c' : 0x80 + v / 4096 % 64 ≡ c = rw p (omega arith) in
            let d' : 0x80 + v / 64 % 64 ≡ d = rw q (omega arith) in
            let f' : 0x80 + v % 64 ≡ f = omega arith in
            add v (inr (omega arith, omega arith)) (rw (encode4 v (omega arith), b', c', d', f')) r

module _ (b : ℕ) (bs : List ℕ) (k m l : ℕ) (len : length bs ≤ l) (ih : (t : List ℕ) → length t ≤ l → from (suc k) t ≡ characters m → Counts (suc k) t m) where
  is1 : b ≤ 0x7f → lead b ≡ want 0 0x80 0xbf → from k (b ∷ bs) ≡ characters m → Counts k (b ∷ bs) m
  unfolding pick
  is1 h e u = add b (inl (omega arith)) (rw (encode1 b (omega arith))) (ih bs len (rw e at u))

  is2 : 0xc2 ≤ b → b ≤ 0xdf → lead b ≡ want 1 0x80 0xbf → from k (b ∷ bs) ≡ characters m → Counts k (b ∷ bs) m
  unfolding pick
  is2 h j e u =
      let x : Cont k 1 0x80 0xbf bs m = cont k 1 0x80 0xbf refl bs (rw e at u) in
      let v = (b - 0xc0) * 64 + (x.c - 0x80) in
      let p : 0xc0 + v / 64 ≡ b = omega arith in
      let q : 0x80 + v % 64 ≡ x.c = omega arith in
      add v (inl (omega arith)) (ap (◌∷◌ b) x.here ∙ rw (encode2 v (omega arith) (omega arith), p, q)) (ih x.t (omega (arith, ap length x.here)) x.rest)

  is3 : (lo hi : ℕ) → 0xe0 ≤ b → b ≤ 0xef → lead b ≡ want 2 lo hi → 0x80 ≤ lo → hi ≤ 0xbf
      → ((c : ℕ) → lo ≤ c → c ≤ hi → (32 ≤ (b - 0xe0) * 64 + (c - 0x80)) × (((b - 0xe0) * 64 + (c - 0x80) < 864) ⊎ (896 ≤ (b - 0xe0) * 64 + (c - 0x80))))
      → from k (b ∷ bs) ≡ characters m → Counts k (b ∷ bs) m
  unfolding pick
  is3 lo hi h j e p0 q0 f u =
      let x : Cont k 2 lo hi bs m = cont k 2 lo hi refl bs (rw e at u) in
      let y : Cont k 1 0x80 0xbf x.t m = cont k 1 0x80 0xbf refl x.t x.rest in
      let g = f x.c x.low x.high in
      subst (λ (l : List ℕ). Counts k l m) (sym (ap (◌∷◌ b) (x.here ∙ ap (◌∷◌ x.c) y.here)))
      (put3 b x.c y.c y.t h j (le_trans p0 x.low) (le_trans x.high q0) g.0 g.1 y.low y.high (ih y.t (omega (arith, ap length x.here, ap length y.here)) y.rest))

  is4 : (lo hi : ℕ) → 0xf0 ≤ b → b ≤ 0xf4 → lead b ≡ want 3 lo hi → 0x80 ≤ lo → hi ≤ 0xbf
      → ((c : ℕ) → lo ≤ c → c ≤ hi → (16 ≤ (b - 0xf0) * 64 + (c - 0x80)) × ((b - 0xf0) * 64 + (c - 0x80) < 272))
      → from k (b ∷ bs) ≡ characters m → Counts k (b ∷ bs) m
  unfolding pick
  is4 lo hi h j e p0 q0 f u =
      let x : Cont k 3 lo hi bs m = cont k 3 lo hi refl bs (rw e at u) in
      let y : Cont k 2 0x80 0xbf x.t m = cont k 2 0x80 0xbf refl x.t x.rest in
      let z : Cont k 1 0x80 0xbf y.t m = cont k 1 0x80 0xbf refl y.t y.rest in
      let g = f x.c x.low x.high in
      subst (λ (l : List ℕ). Counts k l m) (sym (ap (◌∷◌ b) (x.here ∙ ap (◌∷◌ x.c) (y.here ∙ ap (◌∷◌ y.c) z.here))))
      (put4 b x.c y.c z.c z.t h (le_trans p0 x.low) (le_trans x.high q0) g.0 g.1 y.low y.high z.low z.high
      (ih z.t (omega (arith, ap length x.here, ap length y.here, ap length z.here)) z.rest))

  by_row : Row b → from k (b ∷ bs) ≡ characters m → Counts k (b ∷ bs) m
  by_row (r00 h j e) u = is1 j e u
  by_row (r80 h j e) u = ill_formed≢characters (rw e at u)
  by_row (rc2 h j e) u = is2 h j e u
  by_row (re0 h j e) u = is3 0xa0 0xbf (omega arith) (omega arith) e (omega arith) (omega arith) (λ c p q. (omega arith, inl (omega arith))) u
  by_row (re1 h j e) u = is3 0x80 0xbf (omega arith) (omega arith) e (omega arith) (omega arith) (λ c p q. (omega arith, inl (omega arith))) u
  by_row (red h j e) u = is3 0x80 0x9f (omega arith) (omega arith) e (omega arith) (omega arith) (λ c p q. (omega arith, inl (omega arith))) u
  by_row (ree h j e) u = is3 0x80 0xbf (omega arith) (omega arith) e (omega arith) (omega arith) (λ c p q. (omega arith, inr (omega arith))) u
  by_row (rf0 h j e) u = is4 0x90 0xbf (omega arith) (omega arith) e (omega arith) (omega arith) (λ c p q. omega arith) u
  by_row (rf1 h j e) u = is4 0x80 0xbf (omega arith) (omega arith) e (omega arith) (omega arith) (λ c p q. omega arith) u
  by_row (rf4 h j e) u = is4 0x80 0x8f (omega arith) (omega arith) e (omega arith) (omega arith) (λ c p q. omega arith) u
  by_row (rf5 h e) u = ill_formed≢characters (rw e at u)

complete : (l k m : ℕ) (bs : List ℕ) → length bs ≤ l → from k bs ≡ characters m → Counts k bs m
unfolding pick
complete zero k m [] h u = let e : k ≡ m = cc in record { n = 0; encodes = none; sum = omega arith }
complete zero k m (b ∷ bs) h u = let no : ⊥ = omega arith in absurd no
complete (suc l) k m [] h u = let e : k ≡ m = cc in record { n = 0; encodes = none; sum = omega arith }
complete (suc l) k m (b ∷ bs) h u = by_row b bs k m l (omega arith) (λ t p q. complete l (suc k) m t p q) (row b) u

pub scan-iff : (bs : List ℕ) (n : ℕ) → (scan bs ≡ characters n) ↔ Encodes n bs
scan-iff bs n = (there, λ e. sound 0 e ∙ ap characters (omega arith))
  where
    there : scan bs ≡ characters n → Encodes n bs
    there u =
        let r = complete (length bs) 0 n bs (le_refl _) u in
        let e : r.n ≡ n = omega (arith, r.sum) in
        subst (λ (i : ℕ). Encodes i bs) e r.encodes

pub well-formed-iff : (bs : List ℕ) → (well_formed bs ≡ true) ↔ ((n : ℕ) × Encodes n bs)
well-formed-iff bs = (there (scan bs) refl, λ e. ap is_text ((scan-iff bs e.0).1 e.1))
  where
    there : (r : Scan) → scan bs ≡ r → is_text r ≡ true → (n : ℕ) × Encodes n bs
    there ill_formed e u = absurd (let z : ◌≡◌ {A = ℕ} 0 1 = cc in let no : ⊥ = omega arith in no)
    there (characters n) e u = (n, (scan-iff bs n).0 e)

encode-length : (v : ℕ) → 1 ≤ length (encode v)
encode-length v =
    ⊎_elim (λ a. rw (encode1 v a) (omega arith)) (λ a.
    ⊎_elim (λ b. rw (encode2 v a b) (omega arith)) (λ b.
    ⊎_elim (λ d. rw (encode3 v b d) (omega arith)) (λ d. rw (encode4 v d) (omega arith))
    (lt-or-ge v 0x10000)) (lt-or-ge v 0x800)) (lt-or-ge v 0x80)

-- no more characters than bytes
pub count_most : {n : ℕ} {bs : List ℕ} → Encodes n bs → n ≤ length bs
count_most none = omega arith
count_most (more v {t = t} s r) = omega (arith, length-append (encode v) t, encode-length v, count_most r)
