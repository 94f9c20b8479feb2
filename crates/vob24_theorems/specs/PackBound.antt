-- The charges of every file fit 64 bits, under every licensed settings, also those of a file that is refused.
use Prim.Native.Nat.{ℕ, suc, zero, ◌+◌, ◌*◌, ◌^◌, ◌≤◌, ◌<◌}
use Rattle.std.specs.Prelude.{◌≡◌, refl, Bool, true, false, get_or, T, leb}
use Rattle.std.proofs.Common.{ap, arith, mul-le-mul_left, length-append, leb→le}
use mathlib.Core.List.{List, [], ◌∷◌, ◌++◌, map}
use Rattle.std.proofs.Math.ListN.{length}
use Rattle.format.specs.Trace.{Wrong, pick, sum, total}
use Rattle.format.specs.Format.{Value, number, content, first, second, Rule, Width, Ask, fixed, mark, packed, string, payload, count, ask, Format, empty, leaf, seq, ◌▸◌, chain, times, entries, counted}
use Rattle.format.specs.Reading.{trace}
use Rattle.format.specs.Layout.{digits, Bytes, bytes_leaf, bytes, Valid}
use Rattle.format.proofs.LayoutTheorems.{length_digits}
use Rattle.format.specs.ChargeSums.{charges_ask}
use Rattle.format.specs.CountsCovered.{AtLeast}
use Rattle.format.proofs.CountsCovered.{least-fore, least-packed, one-fixed, one-string, one-count}
use Rattle.format.specs.ChargeBound.{Rated}
use Rattle.format.proofs.ChargeBound.{rated-up, rated-seq, rated-plain, rated-empty, rated-fixed, rated-mark, rated-packed, rated-string, rated-payload, rated-ask, rated-list, rated-few, rated-none, entries-under, counted-under}
use Rattle.vob24.specs.Refusals
use Rattle.vob24.specs.Settings as of
use Rattle.vob24.specs.Settings.{Settings, Licensed, size_of, max_pack_bytes}
use Rattle.vob24.specs.SizeTable.{size-most}
use Rattle.vob24.specs.Leaves.{free, choose, str}
use Rattle.vob24.specs.Questions
use Rattle.vob24.specs.Grammar as g
use Rattle.vob24.specs.Grammar.{Section, name, structs, interfaces, named_types, itabs, runtime_types, well_known, constants, globals, functions, externs, entry, island_init, artifacts, files, function_locations, inline_sources}
use Rattle.vob24.specs.Cost.{text_cost}
use Rattle.vob24_theorems.specs.PackLayout.{no-externs}
use Rattle.vob24.proofs.PackCost.{keys-cost, names-free, identities-free, transfers-free, agree-free, if-free, host-calls-free, length-map, length-items}

-- At most 65,536 a byte for each of d levels of lists.
pub record Level (d : ℕ) (f : Format) : Type 0 where
  pub rated : Rated 0 (d * 65536) f

level-empty : {d : ℕ} → Level d empty
level-empty = record { rated = rated-empty }

level-fixed : {d : ℕ} {w : Width} {r : Rule} → Level d (leaf (fixed w r))
level-fixed = record { rated = rated-fixed }

level-mark : {d : ℕ} {m : List ℕ} {y : ℕ → Wrong} → Level d (leaf (mark m y))
level-mark = record { rated = rated-mark }

level-packed : {d : ℕ} → Level d (leaf packed)
level-packed = record { rated = rated-packed }

level-string : {d : ℕ} {r : Rule} {c : ℕ} {ok : List ℕ → Bool} → Level (suc d) (leaf (string r c ok))
level-string = record { rated = rated-up (omega arith) (omega arith) (rated-string {k = 0}) }

level-payload : {d : ℕ} {r : Rule} {c : ℕ} → Level (suc d) (leaf (payload r c))
level-payload = record { rated = rated-up (omega arith) (omega arith) (rated-payload {k = 0}) }

level-seq : {d : ℕ} {f : Format} {h : Value → Format} → Level d f → ((v : Value) → Level d (h v)) → Level d (seq f h)
level-seq x y = record { rated = rated-plain x.rated (λ v. (y v).rated) }

-- questions with no charge
level-quiet : {d : ℕ} {l : List Ask} → charges_ask l ≡ 0 → Level d (leaf (ask l))
level-quiet {d} {l} h = record { rated = rated-up (omega arith) (omega arith) (rated-ask {k = d * 65536} l) }

level-chained : {S : Type 0} {d : ℕ} {r : Rule} {m c z : ℕ} {f : S → Format} (u : S → Value → S) (x : S) → 1 ≤ m
    → z ≤ 65536 → ((x : S) → AtLeast 1 (f x)) → ((x : S) → Level d (f x))
    → Level (suc d) (seq (leaf (count r m c z)) (λ n. chain f u x (number n)))
level-chained {d = d} {z = z} u x one small least h = record { rated = rated-up (omega arith) (omega arith) (rated-list {z = z} {k = d * 65536} u x one least (λ x. (h x).rated)) }

level-list : {d : ℕ} {r : Rule} {c z : ℕ} {f : Format} → z ≤ 65536 → AtLeast 1 f → Level d f
    → Level (suc d) (seq (leaf (count r 1 c z)) (λ n. times f (number n)))
level-list small least h = level-chained (λ _ _. tt) tt (omega arith) small (λ _. least) (λ _. h)

-- questions on a part, whose charges the part's bytes cover
level-follow : {d : ℕ} {f : Format} (l : Value → List Ask) → Level d f
    → ((v : Value) (p : ℕ) → Valid f v p → charges_ask (l v) ≤ 65536 * length (bytes f v))
    → Level (suc d) (seq f (λ v. leaf (ask (l v))))
level-follow {d} {f} l h under =
    record { rated = rated-up (omega arith) (omega arith) (rated-seq 0 0 65536 (d * 65536) f (λ v. leaf (ask (l v))) (λ v. charges_ask (l v)) h.rated (λ v. rated-ask (l v)) (λ v p g. omega (arith, under v p g))) }

data All (d : ℕ) : List Format → Type 0 where
  done : All d []
  also : {f : Format} {fs : List Format} → Level d f → All d fs → All d (f ∷ fs)

level-get : {d : ℕ} {fs : List Format} → All d fs → (n : ℕ) → Level d (get_or fs n empty)
level-get done n = level-empty
level-get (also h k) zero = h
level-get (also h k) (suc n) = level-get k n

level-choose : {d : ℕ} {r : Rule} {fs : List Format} → All d fs → Level d (choose r fs)
level-choose h = level-seq level-fixed (λ v. level-get h (number v))

ruleset levels = (level-empty, level-fixed, level-mark, level-packed, level-string, level-payload, level-list, level-choose, done, also, level-seq, least-fore, one-fixed, one-string, one-count, least-packed)

-- the names that are charged weigh no more than all names
named-under : (z : ℕ) (vs : List Value)
    → length (Questions.named vs) * z + sum (map text_cost (Questions.named vs)) ≤ sum (map (λ v. z + text_cost v) vs)
unfolding Questions.named sum pick
named-under z [] = omega arith
named-under z (v ∷ vs) = go (Questions.blank v) (named-under z vs)
  where
    go : (d : Bool)
        → length (Questions.named vs) * z + sum (map text_cost (Questions.named vs)) ≤ sum (map (λ v. z + text_cost v) vs)
        → length (pick d (Questions.named vs) (v ∷ Questions.named vs)) * z + sum (map text_cost (pick d (Questions.named vs) (v ∷ Questions.named vs))) ≤ z + text_cost v + sum (map (λ v. z + text_cost v) vs)
    go true h = omega arith
    go false h = omega arith

sum-map : (w : Value → ℕ) (h : Value → Value) (vs : List Value) → sum (map w (map h vs)) ≡ sum (map (λ v. w (h v)) vs)
unfolding sum
sum-map w h [] = refl
sum-map w h (v ∷ vs) = ap (λ n. w (h v) + n) (sum-map w h vs)

-- a record that opens with a text
name-under : (r : Rule) (c : ℕ) (ok : List ℕ → Bool) (h : Value → Format) (v : Value)
    → 4 + text_cost (first v) ≤ length (bytes (seq (leaf (string r c ok)) h) v)
unfolding bytes bytes_leaf
name-under r c ok h v =
    omega (arith, length-append (digits 4 (length (content (first v))) ++ content (first v)) (bytes (h (first v)) (second v)), length-append (digits 4 (length (content (first v)))) (content (first v)), length_digits 4 (length (content (first v))))

weight-under : (z n b : ℕ) → z ≤ 4096 → 4 + n ≤ b → z + n ≤ 65536 * b
weight-under z n b h i = omega arith

index-under : (z : ℕ) (vs : List Value) (b : ℕ) → sum (map (λ v. z + text_cost v) vs) ≤ b
    → length (Questions.named vs) * z + charges_ask (Questions.field_keys [] (Questions.named vs)) ≤ b
index-under z vs b h = omega (arith, named-under z vs, keys-cost [] (Questions.named vs))

-- n names of at most 4,096 each, twice
set-under : (n z b : ℕ) → z ≤ 4096 → n ≤ b → n * (2 * z) ≤ 65536 * b
set-under n z b h i = let j : 2 * z ≤ 8192 = omega arith in omega (arith, mul-le-mul_left n j)

module _ (set : Settings) (licensed : Licensed set) where
  small : (i : ℕ) → size_of set i ≤ 65536
  small i = omega (arith, size-most licensed i)

  level-slot_types : {d : ℕ} → Level (suc d) (g.slot_types set)
  level-slot_types = search (levels, small)

  level-field : {d : ℕ} → Level (suc d) g.struct_field
  unfolding g.struct_field
  level-field = search levels depth 20

  least-field : AtLeast 1 g.struct_field
  unfolding g.struct_field
  least-field = search levels

  field-weight : (v : Value) (p : ℕ) → Valid g.struct_field v p
      → size_of set of.StringUsize + text_cost (first v) ≤ 65536 * length (bytes g.struct_field v)
  unfolding g.struct_field
  field-weight v p h = weight-under _ (text_cost (first v)) _ (size-most licensed of.StringUsize) (name-under _ _ _ _ v)

  level-struct : {d : ℕ} → Level (suc (suc (suc d))) (g.struct set)
  unfolding g.struct charges_ask
  level-struct = level-seq level-slot_types (λ _. level-follow (λ v. g.field_index set (map first (entries v))) (level-list (small of.FieldMeta) least-field level-field) under)
    where
      under : (v : Value) (p : ℕ) → Valid (g.list set of.FieldMeta g.struct_field) v p
          → charges_ask (g.field_index set (map first (entries v))) ≤ 65536 * length (bytes (g.list set of.FieldMeta g.struct_field) v)
      under v p h = index-under (size_of set of.StringUsize) (map first (entries v)) _ (omega (arith, sum-map (λ v. size_of set of.StringUsize + text_cost v) first (entries v), entries-under free 1 Refusals.vector (size_of set of.FieldMeta) g.struct_field (λ v. size_of set of.StringUsize + text_cost (first v)) 65536 field-weight v p h))

  level-interface_method : {d : ℕ} → Level (suc d) g.interface_method
  unfolding g.interface_method
  level-interface_method = search levels depth 20

  least-interface_method : AtLeast 1 g.interface_method
  unfolding g.interface_method
  least-interface_method = search levels

  -- the set of the methods of a list
  methods-under : (i : ℕ) (f : Format) → AtLeast 1 f → (h : Value → Value) (v : Value) (p : ℕ)
      → Valid (g.list set i f) v p
      → charges_ask (g.method_set set (map h (entries v))) ≤ 65536 * length (bytes (g.list set i f) v)
  unfolding charges_ask
  methods-under i f l h v p w =
      omega (arith, names-free [] (map h (entries v)), set-under (length (map h (entries v))) (size_of set of.Str) (length (bytes (g.list set i f) v)) (size-most licensed of.Str) (omega (arith, length-map h (entries v), length-items (counted v) (second v), counted-under free 1 Refusals.vector (size_of set i) f l v p w)))

  names-under : (i : ℕ) (f : Format) → AtLeast 1 f → (v : Value) (p : ℕ) → Valid (g.list set i f) v p
      → charges_ask (g.method_set set (entries v)) ≤ 65536 * length (bytes (g.list set i f) v)
  unfolding charges_ask
  names-under i f l v p w =
      omega (arith, names-free [] (entries v), set-under (length (entries v)) (size_of set of.Str) (length (bytes (g.list set i f) v)) (size-most licensed of.Str) (omega (arith, length-items (counted v) (second v), counted-under free 1 Refusals.vector (size_of set i) f l v p w)))

  level-interface : {d : ℕ} → Level (suc (suc (suc (suc d)))) (g.interface set)
  unfolding g.interface
  level-interface {d} =
      level-seq level-string (λ _. record {
        rated = rated-up (omega arith) (omega arith)
            (rated-seq 0 0 65536 (suc (suc (suc d)) * 65536) (g.list set of.String str) _ (λ a. charges_ask (g.method_set set (entries a))) (names {d = suc d}).rated (λ a. inner a) (λ v p h. omega (arith, names-under of.String str (one-string _ _ _) v p h)));
      })
    where
      names : {d : ℕ} → Level (suc (suc d)) (g.list set of.String str)
      names = level-list (small of.String) (one-string _ _ _) level-string

      least : AtLeast 1 g.interface_method
      least = least-interface_method

      methods : {d : ℕ} → Level (suc (suc d)) (g.list set of.InterfaceMethodMeta g.interface_method)
      methods = level-list (small of.InterfaceMethodMeta) least level-interface_method

      both : (a b : Value)
          → Rated (charges_ask (g.method_set set (entries a)) + charges_ask (g.method_set set (map first (entries b)))) (suc (suc d) * 65536) (g.asking (g.method_set set (entries a)) ▸ g.asking (g.method_set set (map first (entries b))))
      both a b = rated-up (omega arith) (omega arith) (rated-seq (charges_ask (g.method_set set (entries a))) (charges_ask (g.method_set set (map first (entries b)))) 0 (suc (suc d) * 65536) _ _ (λ _. charges_ask (g.method_set set (map first (entries b)))) (rated-ask _) (λ _. rated-ask _) (λ _ _ _. omega arith))

      inner : (a : Value)
          → Rated (charges_ask (g.method_set set (entries a))) (suc (suc (suc d)) * 65536) (seq (g.list set of.InterfaceMethodMeta g.interface_method) (λ b. g.asking (g.method_set set (entries a)) ▸ g.asking (g.method_set set (map first (entries b)))))
      inner a = rated-up (omega arith) (omega arith) (rated-seq 0 (charges_ask (g.method_set set (entries a))) 65536 (suc (suc d) * 65536) (g.list set of.InterfaceMethodMeta g.interface_method) _ (λ b. charges_ask (g.method_set set (entries a)) + charges_ask (g.method_set set (map first (entries b)))) (methods {d = d}).rated (both a) (λ v p h. omega (arith, methods-under of.InterfaceMethodMeta g.interface_method least first v p h)))

  level-new_method : {d : ℕ} (seen : List (List ℕ)) → Level (suc d) (g.new_method seen)
  unfolding g.new_method g.method
  level-new_method seen = level-seq (search levels depth 20) (λ v. level-quiet (if-free _ _))

  least-new_method : (seen : List (List ℕ)) → AtLeast 1 (g.new_method seen)
  unfolding g.new_method g.method
  least-new_method seen = search levels depth 20

  level-named_type : {d : ℕ} → Level (suc (suc d)) (g.named_type set)
  unfolding g.named_type g.methods
  level-named_type =
      level-seq level-string (λ _. level-seq level-fixed (λ _. level-seq level-fixed (λ _.
      level-chained g.also_seen [] (omega arith) (omega (arith, size-most licensed of.StringMethodInfo, size-most licensed of.Usize)) least-new_method level-new_method)))

  level-itab : {d : ℕ} → Level (suc d) (g.itab set)
  unfolding g.itab
  level-itab = search (levels, small) depth 20

  level-runtime_field : {d : ℕ} → Level (suc d) g.runtime_field
  unfolding g.runtime_field
  level-runtime_field = search levels depth 20

  least-runtime_field : AtLeast 1 g.runtime_field
  unfolding g.runtime_field
  least-runtime_field = search levels

  level-runtime_struct : {d : ℕ} → Level (suc (suc (suc d))) (g.runtime_struct set)
  unfolding g.runtime_struct charges_ask
  level-runtime_struct = level-seq level-fixed (λ _. level-follow (λ v. g.field_set set (map g.identity (entries v))) (level-list (small of.StructField) least-runtime_field level-runtime_field) under)
    where
      under : (v : Value) (p : ℕ) → Valid (g.list set of.StructField g.runtime_field) v p
          → charges_ask (g.field_set set (map g.identity (entries v))) ≤ 65536 * length (bytes (g.list set of.StructField g.runtime_field) v)
      under v p w =
          omega (arith, identities-free [] (map g.identity (entries v)), set-under (length (map g.identity (entries v))) (size_of set of.StrStr) (length (bytes (g.list set of.StructField g.runtime_field) v)) (size-most licensed of.StrStr) (omega (arith, length-map g.identity (entries v), length-items (counted v) (second v), counted-under free 1 Refusals.vector (size_of set of.StructField) g.runtime_field least-runtime_field v p w)))

  level-runtime_method : {d : ℕ} → Level (suc d) g.runtime_method
  unfolding g.runtime_method
  level-runtime_method = search levels depth 20

  least-runtime_method : AtLeast 1 g.runtime_method
  unfolding g.runtime_method
  least-runtime_method = search levels

  level-runtime_interface : {d : ℕ} → Level (suc (suc (suc d))) (g.runtime_interface set)
  unfolding g.runtime_interface
  level-runtime_interface = level-seq level-fixed (λ _. level-follow (λ v. g.method_set set (map first (entries v))) (level-list (small of.InterfaceMethod) least-runtime_method level-runtime_method) (methods-under of.InterfaceMethod g.runtime_method least-runtime_method first))

  level-runtime_type : {d : ℕ} → Level (suc (suc (suc d))) (g.runtime_type set)
  unfolding g.runtime_type
  level-runtime_type = search (level-runtime_struct, level-runtime_interface, levels, small) depth 40 fits 3000

  least-runtime_type : AtLeast 1 (g.runtime_type set)
  unfolding g.runtime_type
  least-runtime_type = search levels

  level-constant : {d : ℕ} → Level (suc d) g.constant
  unfolding g.constant
  level-constant = search levels depth 20

  level-global : {d : ℕ} → Level (suc (suc d)) (g.global set)
  unfolding g.global
  level-global = search (level-slot_types, levels) depth 20

  level-metadata : {d : ℕ} → Level (suc (suc d)) (g.metadata set)
  unfolding g.metadata g.select_case
  level-metadata = search (level-slot_types, levels, small) depth 40 fits 3000

  least-metadata : AtLeast 1 (g.metadata set)
  unfolding g.metadata
  least-metadata = search levels

  level-code : {d : ℕ} → Level (suc (suc (suc d))) (g.code set)
  unfolding g.code g.instruction
  level-code =
      level-seq (search (levels, small) depth 20) (λ c. level-seq (level-list (small of.InstructionMetadata) least-metadata level-metadata) (λ m. level-quiet (agree-free _ _)))

  level-transfers : {d : ℕ} (c : ℕ) → Level (suc d) (g.transfers set c)
  unfolding g.transfers g.transfer
  level-transfers c = level-seq (search (levels, small) depth 20) (λ v. level-quiet (transfers-free c 0 _))

  level-body : {d : ℕ} (types locals : ℕ) → Level (suc (suc (suc d))) (g.function_body set types locals)
  unfolding g.function_body
  level-body types locals = level-seq level-code (λ _. level-seq (level-transfers Refusals.capture_meta) (λ _. level-seq level-slot_types (λ _. level-seq (level-transfers Refusals.parameter_meta) (λ _. level-quiet (agree-free _ _)))))

  level-function : {d : ℕ} → Level (suc (suc (suc d))) (g.function set)
  unfolding g.function g.function_head g.function_returns g.function_traits
  level-function = search (level-body, level-slot_types, levels, small) depth 40

  least-function : AtLeast 1 (g.function set)
  unfolding g.function g.function_head
  least-function = search levels

  level-inline_function : {d : ℕ} (left : ℕ) → Level (suc d) (g.inline_function set left)
  unfolding g.inline_function g.inline_entry
  level-inline_function left = search (levels, small) depth 20

  least-inline_function : (left : ℕ) → AtLeast 1 (g.inline_function set left)
  unfolding g.inline_function
  least-inline_function left = search levels

  level-inline_sources : {d : ℕ} (n : ℕ) → Level (suc (suc d)) (g.inline_frames set ▸ g.inline_functions set n)
  unfolding g.inline_frames g.inline_functions g.frame g.span
  level-inline_sources n =
      level-seq (search (levels, small) depth 30) (λ _. level-chained g.still_left set.inline_records (omega arith) (small of.InlineFunctionSources) least-inline_function level-inline_function)

  level-artifact : {d : ℕ} → Level (suc d) (g.artifact set)
  unfolding g.artifact
  level-artifact = search levels depth 20

  -- at most 64 artifacts of at most 4,096 each
  few : (n : ℕ) → T (leb n set.artifacts) → n * size_of set of.ModuleArtifact ≤ 4 * (suc zero * 65536)
  few n t = let h = leb→le n set.artifacts t in omega (arith, mul-le-mul_left n (size-most licensed of.ModuleArtifact), licensed.artifacts)

  least-location : AtLeast 1 g.location
  unfolding g.location
  least-location = search levels

  level-location : {d : ℕ} → Level d g.location
  unfolding g.location
  level-location = search levels depth 20

  level-well_known : {d : ℕ} → Level d (g.error_types ▸ g.object_interfaces)
  unfolding g.error_types g.object_interfaces
  level-well_known = search levels depth 20

  level-artifacts : {d : ℕ} → Level (suc d) (g.section set 0 artifacts)
  unfolding g.section
  level-artifacts {d} = record { rated = rated-few (λ _ _. tt) tt (λ n t. omega (arith, few n t)) (λ _. level-artifact.rated) }

  level-externs : {d : ℕ} (n : ℕ) → Level (suc d) (g.section set n externs)
  unfolding g.section Valid
  level-externs {d} n = record { rated = rated-up (omega arith) (omega (arith, small of.ExternDef)) (rated-none {z = size_of set of.ExternDef} (omega arith) (λ v. quiet v) (λ v w p h. no-externs (number v) h.1)) }
    where
      quiet : (v : Value) → Rated 0 0 (leaf (ask (Questions.no_host_calls (number v))))
      quiet v = rated-up (omega (arith, host-calls-free (number v))) (omega arith) (rated-ask {k = 0} (Questions.no_host_calls (number v)))

  level-section : (n : ℕ) (x : Section) → Level 5 (g.section set n x)
  unfolding g.section g.struct g.interface g.named_type g.itab g.constant g.global
  level-section n name = level-string
  level-section n structs = level-list (small of.StructMeta) (search levels depth 20) level-struct
  level-section n interfaces = level-list (small of.InterfaceMeta) (search levels depth 20) level-interface
  level-section n named_types = level-list (small of.NamedTypeMeta) (search levels depth 20) level-named_type
  level-section n itabs = level-list (small of.Itab) (search levels depth 20) level-itab
  level-section n runtime_types = level-list (small of.RuntimeType) least-runtime_type level-runtime_type
  level-section n well_known = level-well_known
  level-section n constants = level-list (small of.Constant) (search levels depth 20) level-constant
  level-section n globals = level-list (small of.GlobalDef) (search levels depth 20) level-global
  level-section n functions = level-list (small of.FunctionDef) least-function level-function
  level-section n externs = level-externs n
  level-section n entry = level-fixed
  level-section n island_init = level-fixed
  level-section n artifacts = level-artifacts
  level-section n files = level-list (small of.String) (one-string _ _ _) level-string
  level-section n function_locations = level-list (small of.FuncDebugInfo) (search levels) (level-list (small of.DebugLoc) least-location level-location)
  level-section n inline_sources = level-inline_sources n

  level-pack : Level 5 (g.pack set)
  unfolding g.pack g.sections g.after_functions
  level-pack = search (level-section, levels) depth 40

  -- The charges of a section call, and those of the call on a whole pack, sum up to less than 2 ^ 64.
  pub section-bound : (n : ℕ) (x : Section) (s : List ℕ) (p : ℕ) → Bytes s → length s ≤ max_pack_bytes → p ≤ length s
      → total (trace (g.section set n x) s p) < 2 ^ 64
  section-bound n x s p b h i = omega (arith, (level-section n x).rated.stops s p b i)

  pub pack-bound : (s : List ℕ) → Bytes s → length s ≤ max_pack_bytes → total (trace (g.pack set) s 0) < 2 ^ 64
  pack-bound s b h = omega (arith, level-pack.rated.stops s 0 b (omega arith))
