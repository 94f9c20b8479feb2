-- What a reading charges is document 01's cost of what it read.
use Rattle.std.specs.Prelude.{ℕ, suc, zero, ◌+◌, ◌*◌, min, ◌≡◌, refl, Bool, true, false, length, get_or, eqb}
use Rattle.std.proofs.Common.{ap, ap₂, sym, ◌∙◌, mul_assoc}
use mathlib.Core.List.{List, [], ◌∷◌, ◌++◌, map}
use native.Mathlib.Omega.{arith}
use Rattle.format.specs.Trace.{Wrong, wrong, pick, sum}
use Rattle.format.specs.Format.{Value, number, content, first, second, Rule, Width, Ask, fixed, packed, string, count, Format, empty, leaf, seq, ◌▸◌, chain, times, items, entries, counted}
use Rattle.format.specs.ChargeSums.{charges_ask, charges_leaf, charges}
use Rattle.vob24.specs.Refusals
use Rattle.vob24.specs.Settings as of
use Rattle.vob24.specs.Settings.{Settings, size_of}
use Rattle.vob24.specs.Leaves.{packed_ok, free, limit, bool, u16, u32, list_of, choose, optional, str}
use Rattle.vob24.specs.Fields.{variant_of, struct_field_of, struct_of, interface_of, new_method_of, named_type_of, itab_of, func_of, runtime_struct_of, runtime_interface_of, global_of, elem_layout_of, map_get_of, map_layouts_of, slot_layout_of, call_layout_of, iface_assert_layout_of, call_iface_layout_of, function_of, inline_function_of, inline_sources_of}
use Rattle.vob24.specs.Questions
use Rattle.vob24.specs.Grammar as g
use Rattle.vob24.specs.Grammar.{Section, name, structs, interfaces, named_types, itabs, runtime_types, well_known, constants, globals, functions, externs, entry, island_init, artifacts, files, function_locations, inline_sources}
use Rattle.vob24.specs.Cost as cost
use Rattle.vob24.specs.Cost.{text_cost, nothing, list_cost, variant_cost, optional_cost, pack_cost, section_cost, part_of}
use Rattle.vob24.specs.PackCost.{Costs}

chain-costs : {S : Type 0} {f : S → Format} {c : Value → ℕ} (u : S → Value → S) → ((x : S) → Costs (f x) c)
    → (n : ℕ) (x : S) (v : Value) → charges (chain f u x n) v ≡ sum (map c (items n v))
unfolding chain charges items sum
chain-costs u h zero x v = refl
chain-costs u h (suc n) x v = ap₂ ◌+◌ ((h x).is (first v)) (chain-costs u h n (u x (first v)) (second v))

-- a list whose items share a state, and one whose items are alike
chained-costs : {S : Type 0} {r : Rule} {m k z : ℕ} {f : S → Format} {c : Value → ℕ} (u : S → Value → S) (x : S)
    → ((x : S) → Costs (f x) c) → Costs (seq (leaf (count r m k z)) (λ n. chain f u x (number n))) (list_cost z c)
unfolding charges charges_leaf
chained-costs {z = z} u x h = record { is = λ v. ap (λ n. number (first v) * z + n) (chain-costs u h (number (first v)) x (second v)) }

list-costs : {r : Rule} {m k z : ℕ} {f : Format} {c : Value → ℕ} → Costs f c
    → Costs (seq (leaf (count r m k z)) (λ n. times f (number n))) (list_cost z c)
list-costs h = chained-costs (λ _ _. tt) tt (λ _. h)

data Parts : List Format → List (Value → ℕ) → Type 0 where
  done : Parts [] []
  also : {f : Format} {c : Value → ℕ} {fs : List Format} {cs : List (Value → ℕ)} → Costs f c → Parts fs cs
      → Parts (f ∷ fs) (c ∷ cs)

part-costs : {fs : List Format} {cs : List (Value → ℕ)} → Parts fs cs → (n : ℕ) (v : Value)
    → charges (get_or fs n empty) v ≡ get_or cs n nothing v
unfolding charges
part-costs done n v = refl
part-costs (also h k) zero v = h.is v
part-costs (also h k) (suc n) v = part-costs k n v

variant-costs : {r : Rule} {fs : List Format} {cs : List (Value → ℕ)} → Parts fs cs
    → Costs (choose r fs) (variant_cost cs)
unfolding charges charges_leaf
variant-costs h = record { is = λ v. omega (arith, part-costs h (number (variant_of v).tag) (variant_of v).part) }

fixed-costs : {w : Width} {r : Rule} → Costs (leaf (fixed w r)) nothing
unfolding charges charges_leaf
fixed-costs = record { is = λ v. refl }

packed-costs : Costs (leaf packed) nothing
unfolding charges charges_leaf
packed-costs = record { is = λ v. refl }

empty-costs : Costs empty nothing
unfolding charges
empty-costs = record { is = λ v. refl }

text-costs : {r : Rule} {k : ℕ} {ok : List ℕ → Bool} → Costs (leaf (string r k ok)) text_cost
unfolding charges charges_leaf
text-costs = record { is = λ v. refl }

free-seq : {f : Format} {h : Value → Format} → Costs f nothing → ((v : Value) → Costs (h v) nothing)
    → Costs (seq f h) nothing
unfolding charges
free-seq a b = record { is = λ v. omega (arith, a.is (first v), (b (first v)).is (second v)) }

sum-nothing : (vs : List Value) → sum (map nothing vs) ≡ 0
unfolding sum
sum-nothing [] = refl
sum-nothing (v ∷ vs) = omega (arith, sum-nothing vs)

two-fixed : {w w' : Width} {r r' : Rule} → Costs (leaf (fixed w r) ▸ leaf (fixed w' r')) nothing
two-fixed = free-seq fixed-costs (λ _. fixed-costs)

-- a variant of two parts that cost nothing
neither : (n : ℕ) (v : Value) → get_or (nothing ∷ nothing ∷ []) n nothing v ≡ 0
neither zero v = refl
neither (suc zero) v = refl
neither (suc (suc n)) v = refl

free-variant : {r : Rule} {f h : Format} → Costs f nothing → Costs h nothing → Costs (choose r (f ∷ h ∷ [])) nothing
free-variant a b = record { is = λ v. (variant-costs (also a (also b done))).is v ∙ neither (number (first v)) (second v) }

-- the questions

refuse-free : (d : Bool) (w : Wrong) (l : List Ask) → charges_ask (Questions.refuse_if d w ++ l) ≡ charges_ask l
unfolding pick charges_ask
refuse-free true w l = refl
refuse-free false w l = refl

pub if-free : (d : Bool) (w : Wrong) → charges_ask (Questions.refuse_if d w) ≡ 0
unfolding pick charges_ask
if-free true w = refl
if-free false w = refl

unless-free : (d : Bool) (w : Wrong) (l : List Ask) → charges_ask (Questions.refuse_unless d w ++ l) ≡ charges_ask l
unfolding pick charges_ask
unless-free true w l = refl
unless-free false w l = refl

pub agree-free : (d : Bool) (w : Wrong) → charges_ask (Questions.refuse_unless d w) ≡ 0
unfolding pick charges_ask
agree-free true w = refl
agree-free false w = refl

pub host-calls-free : (n : ℕ) → charges_ask (Questions.no_host_calls n) ≡ 0
host-calls-free n = agree-free (eqb n 0) _

pub keys-cost : (seen : List (List ℕ)) (vs : List Value)
    → charges_ask (Questions.field_keys seen vs) ≡ sum (map text_cost vs)
unfolding Questions.field_keys charges_ask sum
keys-cost seen [] = refl
keys-cost seen (v ∷ vs) = ap (λ n. text_cost v + n) (refuse-free _ _ _ ∙ keys-cost (content v ∷ seen) vs)

pub names-free : (seen : List (List ℕ)) (vs : List Value) → charges_ask (Questions.new_names seen vs) ≡ 0
unfolding Questions.new_names charges_ask
names-free seen [] = refl
names-free seen (v ∷ vs) = refuse-free _ _ _ ∙ names-free (content v ∷ seen) vs

pub identities-free : (seen xs : List Questions.Identity) → charges_ask (Questions.new_identities seen xs) ≡ 0
unfolding Questions.new_identities charges_ask
identities-free seen [] = refl
identities-free seen (x ∷ xs) = refuse-free _ _ _ ∙ identities-free (pick (Questions.blank x.1) seen (x ∷ seen)) xs

pub transfers-free : (c i : ℕ) (xs : List (ℕ × ℕ)) → charges_ask (Questions.transfer_words c i xs) ≡ 0
unfolding Questions.transfer_words charges_ask
transfers-free c i [] = refl
transfers-free c i (x ∷ xs) =
    unless-free (packed_ok x.0) (Questions.function_wrong c i x.0) _
    ∙ unless-free (packed_ok x.1) (Questions.function_wrong (c + 1) i x.1) _
    ∙ transfers-free c (i + 1) xs

pub length-map : {A B : Type 0} (f : A → B) (xs : List A) → length (map f xs) ≡ length xs
length-map f [] = refl
length-map f (x ∷ xs) = ap suc (length-map f xs)

pub length-items : (n : ℕ) (v : Value) → length (items n v) ≡ n
unfolding items
length-items zero v = refl
length-items (suc n) v = ap suc (length-items n (second v))

-- the charge of a set of names, from the count of their list
names-cost : (n : ℕ) (v : Value) (m : ℕ) → length (items n v) * (2 * m) ≡ n * 2 * m
names-cost n v m = rw length-items (sym (mul_assoc n 2 m))

set-cost : {A : Type 0} (n : ℕ) (v : Value) (h : Value → A) (m : ℕ) → length (map h (items n v)) * (2 * m) ≡ n * 2 * m
set-cost n v h m = rw length-map (names-cost n v m)

module _ (set : Settings) where
  slot_types-costs : Costs (g.slot_types set) (cost.slot_types_cost set)
  slot_types-costs = list-costs fixed-costs

  struct_field-costs : Costs g.struct_field (cost.struct_field_cost set)
  unfolding charges charges_leaf g.struct_field cost.struct_field_cost
  struct_field-costs =
      let tag : Costs (optional str) (optional_cost text_cost) = variant-costs (also empty-costs (also text-costs done)) in
      record { is = λ v. omega (arith, tag.is (struct_field_of v).tag) }

  struct-costs : Costs (g.struct set) (cost.struct_cost set)
  unfolding charges charges_leaf charges_ask g.struct cost.struct_cost
  struct-costs =
      let fields : Costs (g.list set of.FieldMeta g.struct_field) (list_cost (size_of set of.FieldMeta) (cost.struct_field_cost set)) = list-costs struct_field-costs in
      record { is = λ v. omega (arith, slot_types-costs.is (struct_of v).slot_types, fields.is (struct_of v).fields, keys-cost [] (Questions.named (map g.field_name (entries (struct_of v).fields)))) }

  interface_method-costs : Costs g.interface_method (cost.interface_method_cost set)
  unfolding charges charges_leaf g.interface_method cost.interface_method_cost
  interface_method-costs = record { is = λ v. omega arith }

  interface-costs : Costs (g.interface set) (cost.interface_cost set)
  unfolding charges charges_leaf charges_ask g.interface cost.interface_cost
  interface-costs =
      let names : Costs (g.list set of.String str) (list_cost (size_of set of.String) text_cost) = list-costs text-costs in
      let methods : Costs (g.list set of.InterfaceMethodMeta g.interface_method) (list_cost (size_of set of.InterfaceMethodMeta) (cost.interface_method_cost set)) = list-costs interface_method-costs in
      record {
        is = λ v.
            let a = (interface_of v).method_names in
            let b = (interface_of v).methods in
            omega (arith, names.is a, methods.is b, names-free [] (entries a), names-free [] (map g.method_name (entries b)), names-cost (counted a) (second a) (size_of set of.Str), set-cost (counted b) (second b) g.method_name (size_of set of.Str));
      }

  new_method-costs : (seen : List (List ℕ)) → Costs (g.new_method seen) (cost.method_cost set)
  unfolding charges charges_leaf charges_ask g.new_method g.method cost.method_cost
  new_method-costs seen =
      record {
        is = λ v.
            let name' = g.method_name (new_method_of v).method in
            omega (arith, if-free (Questions.among (content name') seen) (Questions.repeat Refusals.duplicate_named_method 0 name'));
      }

  named_type-costs : Costs (g.named_type set) (cost.named_type_cost set)
  unfolding charges charges_leaf g.named_type g.methods cost.named_type_cost
  named_type-costs =
      let methods : Costs (seq (leaf (count free 14 Refusals.named_method_map (g.method_size set))) (λ n. chain g.new_method g.also_seen [] (number n))) (list_cost (g.method_size set) (cost.method_cost set)) = chained-costs g.also_seen [] new_method-costs in
      record { is = λ v. omega (arith, methods.is (named_type_of v).methods) }

  itab-costs : Costs (g.itab set) (cost.itab_cost set)
  unfolding charges charges_leaf g.itab cost.itab_cost
  itab-costs =
      let methods : Costs (g.list set of.U32 u32) (list_cost (size_of set of.U32) nothing) = list-costs fixed-costs in
      record { is = λ v. omega (arith, methods.is (itab_of v).methods) }

  runtime_field-costs : Costs g.runtime_field (cost.runtime_field_cost set)
  unfolding charges charges_leaf g.runtime_field cost.runtime_field_cost
  runtime_field-costs = record { is = λ v. omega arith }

  runtime_struct-costs : Costs (g.runtime_struct set) (cost.runtime_struct_cost set)
  unfolding charges charges_leaf charges_ask g.runtime_struct cost.runtime_struct_cost
  runtime_struct-costs =
      let fields : Costs (g.list set of.StructField g.runtime_field) (list_cost (size_of set of.StructField) (cost.runtime_field_cost set)) = list-costs runtime_field-costs in
      record {
        is = λ v.
            let a = (runtime_struct_of v).fields in
            omega (arith, fields.is a, identities-free [] (map g.identity (entries a)), set-cost (counted a) (second a) g.identity (size_of set of.StrStr));
      }

  runtime_method-costs : Costs g.runtime_method (cost.runtime_method_cost set)
  unfolding charges charges_leaf g.runtime_method cost.runtime_method_cost
  runtime_method-costs = record { is = λ v. omega arith }

  runtime_interface-costs : Costs (g.runtime_interface set) (cost.runtime_interface_cost set)
  unfolding charges charges_leaf charges_ask g.runtime_interface cost.runtime_interface_cost
  runtime_interface-costs =
      let methods : Costs (g.list set of.InterfaceMethod g.runtime_method) (list_cost (size_of set of.InterfaceMethod) (cost.runtime_method_cost set)) = list-costs runtime_method-costs in
      record {
        is = λ v.
            let a = (runtime_interface_of v).methods in
            omega (arith, methods.is a, names-free [] (map g.method_name (entries a)), set-cost (counted a) (second a) g.method_name (size_of set of.Str));
      }

  rttids-costs : Costs (g.rttids set) (cost.rttids_cost set)
  rttids-costs = list-costs fixed-costs

  func-costs : Costs (bool ▸ g.rttids set ▸ g.rttids set) (cost.func_cost set)
  unfolding charges charges_leaf cost.func_cost
  func-costs = record { is = λ v. omega (arith, rttids-costs.is (func_of v).params, rttids-costs.is (func_of v).results) }

  runtime_type-costs : Costs (g.runtime_type set) (cost.runtime_type_cost set)
  unfolding g.runtime_type cost.runtime_type_cost
  runtime_type-costs =
      variant-costs
      (also fixed-costs (also two-fixed (also fixed-costs (also two-fixed (also fixed-costs (also two-fixed (also two-fixed (also func-costs (also runtime_struct-costs (also runtime_interface-costs
      (also rttids-costs (also two-fixed (also empty-costs done)))))))))))))

  constant-costs : Costs g.constant (cost.constant_cost set)
  unfolding g.constant cost.constant_cost
  constant-costs = variant-costs (also empty-costs (also fixed-costs (also fixed-costs (also fixed-costs (also text-costs done)))))

  global-costs : Costs (g.global set) (cost.global_cost set)
  unfolding charges charges_leaf g.global cost.global_cost
  global-costs = record { is = λ v. omega (arith, slot_types-costs.is (global_of v).slot_types) }

  map_layouts-costs : Costs (g.slot_types set ▸ g.slot_types set) (cost.map_layouts_cost set)
  unfolding charges
  map_layouts-costs = record { is = λ v. omega (arith, slot_types-costs.is (map_layouts_of v).key_layout, slot_types-costs.is (map_layouts_of v).val_layout) }

  call_layout-costs : Costs (g.slot_types set ▸ g.slot_types set) (cost.call_layout_cost set)
  unfolding charges
  call_layout-costs = record { is = λ v. omega (arith, slot_types-costs.is (call_layout_of v).arg_layout, slot_types-costs.is (call_layout_of v).ret_layout) }

  -- the parts of the metadata that are not lists alone
  elem_layout-costs : Costs (u32 ▸ bool ▸ g.slot_types set) (λ v. cost.slot_types_cost set (elem_layout_of v).slot_layout)
  unfolding charges charges_leaf
  elem_layout-costs = record { is = λ v. omega (arith, slot_types-costs.is (elem_layout_of v).slot_layout) }

  map_get-costs : Costs (g.slot_types set ▸ g.slot_types set ▸ bool) (λ v. cost.slot_types_cost set (map_get_of v).key_layout + cost.slot_types_cost set (map_get_of v).val_layout)
  unfolding charges charges_leaf
  map_get-costs = record { is = λ v. omega (arith, slot_types-costs.is (map_get_of v).key_layout, slot_types-costs.is (map_get_of v).val_layout) }

  slot_layout-costs : Costs (u16 ▸ g.slot_types set) (λ v. cost.slot_types_cost set (slot_layout_of v).elem_layout)
  unfolding charges charges_leaf
  slot_layout-costs = record { is = λ v. omega (arith, slot_types-costs.is (slot_layout_of v).elem_layout) }

  iface_assert-costs : Costs (g.assert_kind ▸ u32 ▸ g.slot_types set) (λ v. cost.slot_types_cost set (iface_assert_layout_of v).result_layout)
  unfolding charges charges_leaf
  iface_assert-costs = record { is = λ v. omega (arith, slot_types-costs.is (iface_assert_layout_of v).result_layout) }

  call_iface-costs : Costs (u32 ▸ u32 ▸ g.slot_types set ▸ g.slot_types set) (λ v. cost.slot_types_cost set (call_iface_layout_of v).arg_layout + cost.slot_types_cost set (call_iface_layout_of v).ret_layout)
  unfolding charges charges_leaf
  call_iface-costs = record { is = λ v. omega (arith, slot_types-costs.is (call_iface_layout_of v).arg_layout, slot_types-costs.is (call_iface_layout_of v).ret_layout) }

  select_case-costs : Costs g.select_case nothing
  unfolding g.select_case
  select_case-costs =
      free-variant
      (free-seq fixed-costs (λ _. two-fixed))
      (free-seq fixed-costs (λ _. free-seq fixed-costs (λ _. two-fixed)))

  metadata-costs : Costs (g.metadata set) (cost.metadata_cost set)
  unfolding g.metadata cost.metadata_cost
  metadata-costs =
      let cases : Costs (g.list set of.SelectCaseLayout g.select_case) (list_cost (size_of set of.SelectCaseLayout) nothing) = list-costs select_case-costs in
      variant-costs
      (also empty-costs (also elem_layout-costs (also map_get-costs (also map_layouts-costs (also slot_types-costs (also fixed-costs (also empty-costs (also empty-costs (also empty-costs
      (also slot_types-costs (also slot_layout-costs (also call_layout-costs (also call_layout-costs (also slot_types-costs (also map_layouts-costs (also iface_assert-costs
      (also map_layouts-costs (also call_iface-costs (also cases done)))))))))))))))))))

  instruction-costs : Costs g.instruction nothing
  unfolding g.instruction
  instruction-costs = free-seq fixed-costs (λ _. free-seq fixed-costs (λ _. free-seq fixed-costs (λ _. two-fixed)))

  instructions-costs : Costs (g.list set of.Instruction g.instruction) (list_cost (size_of set of.Instruction) nothing)
  instructions-costs = list-costs instruction-costs

  metadatas-costs : Costs (g.list set of.InstructionMetadata (g.metadata set)) (list_cost (size_of set of.InstructionMetadata) (cost.metadata_cost set))
  metadatas-costs = list-costs metadata-costs

  transfer-costs : Costs g.transfer nothing
  unfolding g.transfer
  transfer-costs = free-seq fixed-costs (λ _. two-fixed)

  transfer_types-costs : Costs (g.list set of.TransferType g.transfer) (cost.transfers_cost set)
  transfer_types-costs = list-costs transfer-costs

  heap_ret_slots-costs : Costs (g.list set of.U16 u16) (list_cost (size_of set of.U16) nothing)
  heap_ret_slots-costs = list-costs fixed-costs

  function-costs : Costs (g.function set) (cost.function_cost set)
  unfolding charges charges_leaf g.function g.function_head g.function_returns g.function_traits g.function_body g.code g.transfers cost.function_cost
  function-costs =
      record {
        is = λ v.
            let f = function_of v in
            omega (
              arith,
              slot_types-costs.is f.ret_slot_types,
              heap_ret_slots-costs.is f.heap_ret_slots,
              slot_types-costs.is f.slot_types,
              instructions-costs.is f.code,
              metadatas-costs.is f.instruction_metadata,
              agree-free (eqb (counted f.instruction_metadata) (counted f.code)) (wrong Refusals.invalid_instruction_metadata 0),
              transfer_types-costs.is f.capture_types,
              transfers-free Refusals.capture_meta 0 (map g.transferred (entries f.capture_types)),
              slot_types-costs.is f.capture_slot_types,
              transfer_types-costs.is f.param_types,
              transfers-free Refusals.parameter_meta 0 (map g.transferred (entries f.param_types)),
              agree-free (eqb (counted f.slot_types) (number f.local_slots)) (Questions.function_wrong Refusals.slot_count (counted f.slot_types) (number f.local_slots)),
            );
      }

  artifact-costs : Costs (g.artifact set) (cost.artifact_cost set)
  unfolding charges charges_leaf g.artifact cost.artifact_cost
  artifact-costs = record { is = λ v. omega arith }

  location-costs : Costs g.location nothing
  unfolding g.location
  location-costs = free-seq packed-costs (λ _. free-seq packed-costs (λ _. free-seq packed-costs (λ _. free-seq packed-costs (λ _. packed-costs))))

  frame-costs : Costs g.frame nothing
  unfolding g.frame g.span
  frame-costs = free-seq fixed-costs (λ _. free-seq fixed-costs (λ _. free-variant empty-costs (free-seq fixed-costs (λ _. free-seq fixed-costs (λ _. two-fixed)))))

  inline_entry-costs : Costs g.inline_entry nothing
  unfolding g.inline_entry
  inline_entry-costs = two-fixed

  inline_function-costs : (left : ℕ) → Costs (g.inline_function set left) (cost.inline_function_cost set)
  unfolding charges charges_leaf g.inline_function cost.inline_function_cost
  inline_function-costs left =
      let inlined : Costs (list_of (limit Refusals.debug_metadata_limit_exceeded Refusals.inline_entries left) (size_of set of.InlineSourceEntry) g.inline_entry) (list_cost (size_of set of.InlineSourceEntry) nothing) = list-costs inline_entry-costs in
      record { is = λ v. omega (arith, inlined.is (inline_function_of v).entries) }

  inline_sources-costs : (n : ℕ) → Costs (g.inline_frames set ▸ g.inline_functions set n) (cost.inline_sources_cost set)
  unfolding charges g.inline_frames g.inline_functions cost.inline_sources_cost
  inline_sources-costs n =
      let frames : Costs (list_of (limit Refusals.debug_metadata_limit_exceeded Refusals.inline_frames set.inline_records) (size_of set of.InlineSourceFrame) g.frame) (list_cost (size_of set of.InlineSourceFrame) nothing) = list-costs frame-costs in
      let functions' : Costs (seq (leaf (count (limit Refusals.debug_metadata_limit_exceeded Refusals.inline_functions (min n set.inline_records)) 1 Refusals.vector (size_of set of.InlineFunctionSources))) (λ n. chain (g.inline_function set) g.still_left set.inline_records (number n))) (list_cost (size_of set of.InlineFunctionSources) (cost.inline_function_cost set)) = chained-costs g.still_left set.inline_records inline_function-costs in
      record { is = λ v. omega (arith, frames.is (inline_sources_of v).frames, functions'.is (inline_sources_of v).functions) }

  externs-costs : (n : ℕ) → Costs (g.section set n externs) (section_cost set externs)
  unfolding charges charges_leaf g.section section_cost
  externs-costs n = record { is = λ v. omega (arith, host-calls-free (counted v), sum-nothing (entries v)) }

  well_known-costs : Costs (g.error_types ▸ g.object_interfaces) nothing
  unfolding g.error_types g.object_interfaces
  well_known-costs =
      free-seq
      (free-seq fixed-costs (λ _. free-seq fixed-costs (λ _. free-seq fixed-costs (λ _. free-seq fixed-costs (λ _. free-variant empty-costs two-fixed)))))
      (λ _. free-seq fixed-costs (λ _. free-seq fixed-costs (λ _. free-seq fixed-costs (λ _. two-fixed))))

  -- "the sum equals the cost": of a section
  pub section-costs : (n : ℕ) (x : Section) → Costs (g.section set n x) (section_cost set x)
  unfolding g.section section_cost
  section-costs n name = text-costs
  section-costs n structs = list-costs struct-costs
  section-costs n interfaces = list-costs interface-costs
  section-costs n named_types = list-costs named_type-costs
  section-costs n itabs = list-costs itab-costs
  section-costs n runtime_types = list-costs runtime_type-costs
  section-costs n well_known = well_known-costs
  section-costs n constants = list-costs constant-costs
  section-costs n globals = list-costs global-costs
  section-costs n functions = list-costs function-costs
  section-costs n externs = externs-costs n
  section-costs n entry = fixed-costs
  section-costs n island_init = fixed-costs
  section-costs n artifacts = list-costs artifact-costs
  section-costs n files = list-costs text-costs
  section-costs n function_locations = list-costs (list-costs location-costs)
  section-costs n inline_sources = inline_sources-costs n

  -- of the whole pack
  pub pack-costs : Costs (g.pack set) (pack_cost set)
  unfolding charges charges_leaf g.pack g.sections g.after_functions pack_cost part_of sum
  pack-costs =
      record {
        is = λ v.
            let n = counted (part_of functions v) in
            omega (
              arith,
              (section-costs 0 name).is (part_of name v),
              (section-costs 0 structs).is (part_of structs v),
              (section-costs 0 interfaces).is (part_of interfaces v),
              (section-costs 0 named_types).is (part_of named_types v),
              (section-costs 0 itabs).is (part_of itabs v),
              (section-costs 0 runtime_types).is (part_of runtime_types v),
              (section-costs 0 well_known).is (part_of well_known v),
              (section-costs 0 constants).is (part_of constants v),
              (section-costs 0 globals).is (part_of globals v),
              (section-costs 0 functions).is (part_of functions v),
              (section-costs n externs).is (part_of externs v),
              (section-costs n entry).is (part_of entry v),
              (section-costs n island_init).is (part_of island_init v),
              (section-costs n artifacts).is (part_of artifacts v),
              (section-costs n files).is (part_of files v),
              (section-costs n function_locations).is (part_of function_locations v),
              (section-costs n inline_sources).is (part_of inline_sources v),
            );
      }
