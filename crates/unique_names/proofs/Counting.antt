-- The laws of the loop that counts the names other than "_", and their bytes.
use Rattle.std.proofs.Common.{ℕ, ◌+◌, ◌-◌, ◌*◌, ◌≤◌, ◌<◌, ◌≡◌, refl, ap, sym, ◌∙◌, List, [], ◌∷◌, map, Bool, true, false, arith, length}
use Rattle.format.specs.Trace.{pick}
use Rattle.format.specs.Reading.{same}
use Rattle.vob24.specs.Questions.{named}
use Rattle.vob24.specs.Grammar.{struct_field}
use Rattle.in_place.specs.declared.Item.TheVariants.{StructField}
use Rattle.in_place.specs.declared.Table.TheVariants.{Fields}
use Rattle.in_place.specs.Walk.{value_at, items_at, items-none}
use Rattle.in_place.specs.Items.{name_of, text_at}
use Rattle.in_place.specs.Contract.{TextAt, WordIs, BlankIs, Placed, Past, Items}
use Rattle.in_place.proofs.Places.{item-name}
use Rattle.in_place.proofs.Keys.{name-content}
use Rattle.in_place.proofs.Texts.{text-length}
use Rattle.in_place.proofs.Walking.{items-here, items-next, items-cons}
use Rattle.unique_names.specs.Asking.{price}
use Rattle.unique_names.specs.Contract.{Tallied}

pub record Counting (s : List ℕ) (from n at k m b : ℕ) : Type 0 where
  pub items : Items struct_field k s at
  pub most : m + k ≤ n
  pub leads : length (named (map (name_of StructField) (items_at struct_field n s from))) ≡ m + length (named (map (name_of StructField) (items_at struct_field k s at)))
  pub bound : b + 4294967295 * k ≤ 4294967295 * n
  pub sums : price Fields (items_at struct_field n s from) ≡ b + price Fields (items_at struct_field k s at)

pick-blank : (n : ℕ) {q : Bool} → q ≡ true → 0 ≡ pick q 0 n
unfolding pick
pick-blank n t = rw t refl

pick-named : (n : ℕ) {q : Bool} → q ≡ false → n ≡ pick q 0 n
unfolding pick
pick-named n t = rw t refl

module _ {s : List ℕ} {from n : ℕ} where
  module _ {at k m b : ℕ} (h : 0 < k) (l : Counting s from n at k m b) where
    counting-here : Placed struct_field s at
    counting-here = items-here h l.items

    counting-text : TextAt s at
    counting-text = item-name StructField counting-here

    counting_more : {z w i j : ℕ} {q : Bool} → BlankIs s at q → i ≡ pick q 0 1 → (q ≡ false → WordIs s at w) → j ≡ pick q 0 w
        → Past struct_field s at z → Counting s from n z (k - 1) (m + i) (b + j)
    unfolding named price pick
    counting_more {z} {w} {i} {j} {q} e x g y p =
        record {
          items = items-next h l.items p;
          most = less q x;
          leads = l.leads ∙ ap (λ vs. m + length (named (map (name_of StructField) vs))) (items-cons h l.items p) ∙ step q e.is x;
          bound = under q refl y;
          sums = l.sums ∙ ap (λ vs. b + price Fields vs) (items-cons h l.items p) ∙ sum q refl e.is y;
        }
      where
        less : (q : Bool) → i ≡ pick q 0 1 → m + i + (k - 1) ≤ n
        less true e = omega (arith, l.most)
        less false e = omega (arith, l.most)

        under : (d : Bool) → q ≡ d → j ≡ pick d 0 w → b + j + 4294967295 * (k - 1) ≤ 4294967295 * n
        under true u e = omega (arith, l.bound)
        under false u e = omega (arith, l.bound, (g u).below)

        step : (q : Bool) → q ≡ same (text_at s at) (95 ∷ []) → i ≡ pick q 0 1
            → m + length (named (name_of StructField (value_at struct_field s at) ∷ map (name_of StructField) (items_at struct_field (k - 1) s z))) ≡ m + i + length (named (map (name_of StructField) (items_at struct_field (k - 1) s z)))
        step true b e = rw (name-content StructField counting-here.stands, ← b) (omega arith)
        step false b e = rw (name-content StructField counting-here.stands, ← b) (omega arith)

        sum : (c : Bool) → q ≡ c → c ≡ same (text_at s at) (95 ∷ []) → j ≡ pick c 0 w
            → b + price Fields (value_at struct_field s at ∷ items_at struct_field (k - 1) s z) ≡ b + j + price Fields (items_at struct_field (k - 1) s z)
        sum true u d e = rw (name-content StructField counting-here.stands, ← d) (omega arith)
        sum false u d e = rw (name-content StructField counting-here.stands, ← d, text-length counting-text (g u)) (omega arith)

  module _ {at i m b : ℕ} (h : i < n) (l : Counting s from n at (n - i) m b) where
    left : 0 < n - i
    left = omega arith

    pub counting-item : Placed struct_field s at
    counting-item = counting-here left l

    pub counting-name : TextAt s at
    counting-name = counting-text left l

    -- "_" is not counted
    pub counting-blank : {z : ℕ} {q : Bool} → q ≡ true → BlankIs s at q → Past struct_field s at z → Counting s from n z (n - (i + 1)) m b
    counting-blank {z} {q} t e p =
        let u : n - i - 1 ≡ n - (i + 1) = omega arith in
        let v : m + 0 ≡ m = omega arith in
        let w : b + 0 ≡ b = omega arith in
        rw (u, v, w) at (counting_more left l {w = 0} e (pick-blank 1 t) (λ f. absurd (cc (f, t))) (pick-blank 0 t) p)

    pub counting-named : {z w : ℕ} {q : Bool} → q ≡ false → BlankIs s at q → WordIs s at w → Past struct_field s at z
        → Counting s from n z (n - (i + 1)) (m + 1) (b + w)
    counting-named {z} {w} {q} t e g p =
        let u : n - i - 1 ≡ n - (i + 1) = omega arith in
        rw u at (counting_more left l e (pick-named 1 t) (λ _. g) (pick-named w t) p)

  pub counting-done : {at k m b : ℕ} → k ≤ 0 → Counting s from n at k m b → Tallied s from n m b
  unfolding named price
  counting-done {at} {k} {m} {b} h l =
      let z = items-none struct_field k s at h in
      record {
        named = record { is = sym (l.leads ∙ ap (λ vs. m + length (named (map (name_of StructField) vs))) z ∙ omega arith); most = omega (arith, l.most) };
        cost = record { is = sym (l.sums ∙ ap (λ vs. b + price Fields vs) z ∙ omega arith) };
      }
