-- The laws of the best entry, of a function's locations, and of the lists of a pack.
use Rattle.std.proofs.Common.{ℕ, suc, zero, ◌+◌, ◌-◌, ◌*◌, ◌≤◌, ◌<◌, ◌≡◌, refl, ap, sym, ◌∙◌, List, map, Bool, true, false, ◌&&◌, arith, add-one, length, get_or, leb, lt-ltb, le-ltb, Option, Some, None, Ok, Err}
use Rattle.std.specs.Option.{MatchOption, option_map}
use Rattle.format.specs.Trace.{pick}
use Rattle.format.specs.Format.{none, number, Format}
use Rattle.format.specs.Reading.{little, part}
use Rattle.vob24.specs.Settings.{Settings}
use Rattle.vob24.specs.Fields.{location_of}
use Rattle.vob24.specs.Grammar.{location}
use Rattle.source.specs.Source as source
use Rattle.reader.specs.Contract.{refusal}
use Rattle.reader.specs.declared.kinds.Kind.TheVariants.{NoSuchFunction}
use Rattle.reader.specs.declared.Cursor.{Cursor}
use Rattle.in_place.specs.Walk.{value_at, next_at, items_at, last_at, items-none, items-length}
use Rattle.in_place.specs.Contract.{WordIs, Placed, Past, Items}
use Rattle.in_place.proofs.Walking.{items-here, items-next, items-cons, Walking, walking_here}
use Rattle.in_place.proofs.Lists.{list-stands}
use Rattle.source_lines.specs.Packed.{Skips, LocationIs}
use Rattle.source_lines.specs.Contract.{answer_of, location_list, best_of, BestIs, ListIs, FunctionsAt, LineFrom}
use Rattle.source_lines.specs.declared.Best.{Best}
use Rattle.source_lines.specs.declared.packed.Packed.{Packed}
use Rattle.source_lines.proofs.Skips.{list-end}

-- ---- the best entry

-- the address that an entry must reach
abbrev pub least_of : Option Best → ℕ
least_of None = 0
least_of (Some b) = b.pc

pub least-is : (b : Option Best) {m : ℕ} → MatchOption b (m ≡ 0) (λ x. m ≡ x.pc) → m ≡ least_of b
least-is None h = h
least-is (Some b) h = h

module _ (b : Option Best) (i a pc : ℕ) {m : ℕ} (e : m ≡ least_of b) where
  -- at or below the address, and not below the best
  pub better-taken : (leb m pc && leb pc a) ≡ true → source.at i pc ≡ source.better a (best_of b) i pc
  unfolding pick
  better-taken h = go b (leb pc a) refl (rw e at h)
    where
      go : (b : Option Best) (d : Bool) → leb pc a ≡ d → (leb (least_of b) pc && d) ≡ true
          → source.at i pc ≡ source.better a (best_of b) i pc
      go None true x f = rw x
      go None false x f = let no : ⊥ = grind arith in absurd no
      go (Some b) true x f = let y : leb b.pc pc ≡ true = grind arith in rw (x, y)
      go (Some b) false x f = let no : ⊥ = grind arith in absurd no

  -- any other
  pub better-left : {d : Option Best} → d ≡ b → (leb m pc && leb pc a) ≡ false → best_of d ≡ source.better a (best_of b) i pc
  unfolding pick
  better-left o h = rw o (go b (leb pc a) refl (rw e at h))
    where
      go : (b : Option Best) (d : Bool) → leb pc a ≡ d → (leb (least_of b) pc && d) ≡ false
          → best_of b ≡ source.better a (best_of b) i pc
      go b false x f = out b x
        where
          out : (b : Option Best) → leb pc a ≡ false → best_of b ≡ source.better a (best_of b) i pc
          out None x = rw x
          out (Some b) x = rw x
      go None true x f = let no : ⊥ = grind arith in absurd no
      go (Some b) true x f = let y : leb b.pc pc ≡ false = grind arith in rw (x, y)

-- ---- the loop of `best_of`

-- the addresses of n locations from p on
abbrev pcs_at : ℕ → List ℕ → ℕ → List ℕ
pcs_at n s p = map (λ v. number (location_of v).pc) (items_at location n s p)

-- After i of n locations from p on, the best of them is b, and those from `at` on are to come.
pub record Going (s : List ℕ) (p n a : ℕ) (b : Option Best) (at i : ℕ) : Type 0 where
  pub items : Items location (n - i) s at
  pub rest : source.best a (pcs_at n s p) ≡ source.best_from a i (best_of b) (pcs_at (n - i) s at)

module _ {s : List ℕ} {p n : ℕ} (a : ℕ) where
  module _ {b : Option Best} {at i : ℕ} (l : Going s p n a b at i) where
    module _ (h : i < n) where
      pub going-here : Placed location s at
      going-here = items-here {k = n - i} (omega arith) l.items

      pub going_more : {x : Packed} {d : Option Best} → LocationIs s at x
          → best_of d ≡ source.better a (best_of b) i x.value → Going s p n a d x.next (i + 1)
      unfolding source.best_from
      going_more {x} {d} w k =
          let f : Past location s at x.next = record { is = w.next } in
          let e : n - i - 1 ≡ n - (i + 1) = omega arith in
          let c = items-cons {k = n - i} (omega arith) l.items f in
          record {
            items = rw e at (items-next {k = n - i} (omega arith) l.items f);
            rest = l.rest ∙ ap (λ vs. source.best_from a i (best_of b) (map (λ v. number (location_of v).pc) vs)) c ∙ rw (k, w.pc, e, add-one i);
          }

    pub going_done : n ≤ i → BestIs s p n a b
    unfolding source.best_from
    going_done h = let e : n - i ≤ 0 = omega arith in record { is = sym (l.rest ∙ rw (items-none location (n - i) s at e)) }

-- ---- a list of locations, and the lists of a pack

module _ (set : Settings) {s : List ℕ} {p : ℕ} (h : Placed (location_list set) s p) where
  pub list-room : p + 4 ≤ length s
  list-room = (list-stands h.stands).room

  module _ {n : ℕ} (w : WordIs s p n) where
    pub list-items : Items location n s (p + 4)
    list-items = rw w.is (record { small = h.small; all = (list-stands h.stands).all })

    pub list-past : {q : ℕ} → Skips s (n * 5) (p + 4) q → Past (location_list set) s p q
    list-past x = record { is = list-end list-items x ∙ (ap (λ m. last_at location m s (p + 4)) w.is ∙ sym (list-stands h.stands).next) }

    list-addresses : source.addresses (value_at (location_list set) s p) ≡ pcs_at n s (p + 4)
    list-addresses = ap (map (λ v. number (location_of v).pc)) (list-stands h.stands).value ∙ rw w.is

-- an item by its number
items-get : (f : Format) (n : ℕ) (s : List ℕ) (p k : ℕ) → k < n → get_or (items_at f n s p) k none ≡ value_at f s (last_at f k s p)
unfolding items_at last_at
items-get f zero s p k h = absurd (omega arith)
items-get f (suc n) s p zero h = refl
items-get f (suc n) s p (suc k) h = items-get f n s (next_at f s p) k (omega arith)

module _ (set : Settings) {s : List ℕ} {p n : ℕ} (h : FunctionsAt set s p) (w : WordIs s p n) where
  lists_length : length (items_at (location_list set) n s (p + 4)) ≡ n
  lists_length = items-length (location_list set) n s (p + 4)

  module _ (f a : ℕ) (c : Cursor) where
    pub line-past : n ≤ f
        → LineFrom set s p f a c (Err (refusal NoSuchFunction 0 f n c))
    unfolding pick
    line-past l = record { is = rw (← w.is, le-ltb f (length (items_at (location_list set) n s (p + 4))) (omega (arith, lists_length)), lists_length) }

    module _ (l : f < n) {q m : ℕ} (k : ListIs set s (p + 4) f q) (u : WordIs s q m) {b : Option Best} (v : BestIs s (q + 4) m a b) where
      line-is : source.line_in f a (items_at (location_list set) (little (part s p 4)) s (p + 4)) c.place c.left ≡ source.shown (best_of b)
      unfolding pick
      line-is =
          rw (← w.is, lt-ltb f (length (items_at (location_list set) n s (p + 4))) (omega (arith, lists_length)), items-get (location_list set) n s (p + 4) f l, ← k.is)
          (ap (λ pcs. source.shown (source.best a pcs)) (list-addresses set k.placed u) ∙ rw v.is)

      pub line-shown : {e : Option ℕ} → e ≡ option_map (λ d. d.entry) b → LineFrom set s p f a c (Ok e)
      line-shown {e} x = record { is = sym (line-is ∙ rw x (go b)) }
        where
          go : (b : Option Best) → source.shown (best_of b) ≡ answer_of (Ok (option_map (λ d. d.entry) b))
          go None = refl
          go (Some d) = refl

pub list-told : {set : Settings} {s : List ℕ} {p n q i k : ℕ} → k < n → i ≡ k → Walking (location_list set) s p n q i → ListIs set s p k q
list-told l e w = rw (← e) (record { is = w.here; placed = walking_here (omega arith) w })
