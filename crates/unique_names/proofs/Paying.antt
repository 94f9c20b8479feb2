-- The laws of a table whose items repeat none and can all be paid: one charge for all of them.
use Rattle.std.proofs.Common.{Ok, ℕ, zero, suc, ◌+◌, ◌-◌, ◌≤◌, ◌<◌, ◌≡◌, refl, sym, ◌∙◌, List, [], ◌∷◌, Bool, true, false, arith, length}
use Rattle.format.specs.Trace.{settle, pick}
use Rattle.format.specs.Format.{Value, content, pay}
use Rattle.format.specs.Reading.{trace_ask}
use Rattle.vob24.specs.Refusals as refusals
use Rattle.vob24.specs.Questions.{blank}
use Rattle.reader.specs.Contract.{Asks, passes}
use Rattle.reader.specs.declared.Cursor.{Cursor}
use Rattle.reader.proofs.Asks.{asks-then}
use Rattle.reader.proofs.Settles.{pay-yes}
use Rattle.in_place.specs.declared.Item.TheVariants.{StructField}
use Rattle.in_place.specs.declared.Table.{Table}
use Rattle.in_place.specs.declared.Table.TheVariants.{Fields, Methods, Identities, Alike}
use Rattle.in_place.specs.Walk.{value_at, next_at, items_at, last_at, items-snoc, items-nil, last_snoc}
use Rattle.in_place.specs.Items.{name_of}
use Rattle.in_place.specs.Tables.{format_in}
use Rattle.in_place.specs.Contract.{over}
use Rattle.repeat_search.specs.Keys.{repeat_at, FirstRepeat}
use Rattle.repeat_search.specs.Tables.{keys_at}
use Rattle.repeat_search.proofs.Tables.{repeats-at}
use Rattle.unique_names.specs.Asking.{charges, price_of, price, table_asks}
use Rattle.unique_names.specs.Contract.{Cost}
use Rattle.unique_names.proofs.Asking.{refuse-no}

-- c after a charge of n
abbrev pub spent_at : Cursor → ℕ → Cursor
spent_at c n = record { place = c.place; left = c.left - n; at = c.at }

nothing-paid : {c : Cursor} → Asks [] c (Ok (spent_at c 0))
unfolding trace_ask settle
nothing-paid {c} = let e : c.left - 0 ≡ c.left = omega arith in passes {d = spent_at c 0} (rw e) refl

one-paid : {k n : ℕ} {c : Cursor} → n ≤ c.left → Asks (pay k n ∷ []) c (Ok (spent_at c n))
unfolding trace_ask settle
one-paid {k} {n} {c} h = passes {d = spent_at c n} (pay-yes c.left k n c.place (trace_ask [] c.place) h) refl

charged : (t : Table) (v : Value) {c : Cursor} → price_of t v ≤ c.left
    → Asks (charges t v) c (Ok (spent_at c (price_of t v)))
unfolding pick
charged Fields v {c} h = go (blank (name_of StructField v)) h
  where
    go : (b : Bool) → pick b 0 (length (content (name_of StructField v))) ≤ c.left
        → Asks (pick b [] (pay refusals.struct_field_key (length (content (name_of StructField v))) ∷ [])) c (Ok (spent_at c (pick b 0 (length (content (name_of StructField v))))))
    go true h = nothing-paid
    go false h = one-paid h
charged (Methods i) v h = nothing-paid
charged Identities v h = nothing-paid
charged (Alike i) v h = nothing-paid

-- the m items after the first i
rest-paid : (t : Table) (s : List ℕ) (from m i : ℕ) (c : Cursor)
    → ((k : ℕ) → k < i + m → repeat_at (keys_at t s from) k ≡ false)
    → price t (items_at (format_in t) m s (last_at (format_in t) i s from)) ≤ c.left
    → Asks (over (table_asks t) (items_at (format_in t) i s from) (items_at (format_in t) m s (last_at (format_in t) i s from))) c (Ok (spent_at c (price t (items_at (format_in t) m s (last_at (format_in t) i s from)))))
unfolding over items_at price table_asks
rest-paid t s from zero i c h l = nothing-paid
rest-paid t s from (suc m) i c h l =
    let f = format_in t in
    let p = last_at f i s from in
    let v = value_at f s p in
    let d = spent_at c (price_of t v) in
    let u = items_at f m s (next_at f s p) in
    let x : Asks (table_asks t (items_at f i s from) v) c (Ok d) = asks-then _ (charged t v (omega arith)) (refuse-no _ (sym (repeats-at t s from i) ∙ h i (omega arith))) in
    let j = rw (last_snoc f i s from) at (rest-paid t s from m (suc i) d (λ k b. h k (omega arith)) (rw (last_snoc f i s from) (omega arith))) in
    let y = rw (items-snoc f i s from) at j in
    let e : c.left - (price_of t v + price t u) ≡ c.left - price_of t v - price t u = omega arith in
    rw e (asks-then _ x y)

pub all_paid : {t : Table} {s : List ℕ} {from n first q : ℕ} {c : Cursor} → FirstRepeat (keys_at t s from) n first
    → n ≤ first → Cost t s from n q → q ≤ c.left
    → Asks (over (table_asks t) [] (items_at (format_in t) n s from)) c (Ok (spent_at c q))
all_paid {t} {s} {from} {n} {first} {q} {c} f h e l =
    let z = items-nil (format_in t) s from in
    rw e.is (rw (z.0, z.2) at (rest-paid t s from n 0 c (λ k d. f.new k (omega arith)) (rw z.2 (rw e.is at l))))

-- keys without a charge
free : (t : Table) (vs : List Value) → ((v : Value) → price_of t v ≡ 0) → price t vs ≡ 0
unfolding price
free t [] h = refl
free t (v ∷ vs) h = omega (arith, h v, free t vs h)

module _ {s : List ℕ} {from n : ℕ} where
  pub free-cost : (t : Table) → ((v : Value) → price_of t v ≡ 0) → Cost t s from n 0
  free-cost t e = record { is = sym (free t (items_at (format_in t) n s from) e) }
