-- No count of the pack asks for bytes that its items do not take: a section, or a pack, is read to its end exactly
-- where it is the layout of a valid value.
use Rattle.std.specs.Prelude.{ℕ, ◌≡◌, List, Bool, true, T, eqb}
use Rattle.std.proofs.Common.{arith, eqb→eq}
use Rattle.format.specs.Trace.{wrong, pick}
use Rattle.format.specs.Format.{number, Rule, byte, word, Format, ◌▸◌, counted}
use Rattle.format.specs.Layout.{bytes_leaf, bytes, clear, Valid, ahead_leaf, ahead}
use Rattle.format.specs.CountsCovered.{AtLeast, Closed, All}
use Rattle.format.proofs.CountsCovered.{least_zero, least-fixed, least-string, least-seq, least-fore, closed-seq, closed-fixed, closed-get, closed}
use Rattle.vob24.specs.Refusals
use Rattle.vob24.specs.Settings.{Settings}
use Rattle.vob24.specs.Leaves.{choose}
use Rattle.vob24.specs.Questions
use Rattle.vob24.specs.Grammar as g
use Rattle.vob24.specs.Grammar.{Section, name, structs, interfaces, named_types, itabs, runtime_types, well_known, constants, globals, functions, externs, entry, island_init, artifacts, files, function_locations, inline_sources}

-- a part for each tag
closed-choose : (r : Rule) (fs : List Format) → All fs → Closed (choose r fs)
closed-choose r fs h = closed-seq _ _ (closed-fixed byte r) (λ v. closed-get h (number v))

-- only a count of 0 passes
pub no-externs : (n : ℕ) → T (clear (Questions.no_host_calls n)) → n ≡ 0
unfolding pick clear
no-externs n h = go (eqb n 0) (eqb→eq n 0) h
  where
    go : (d : Bool) → (T d → n ≡ 0) → T (clear (Questions.refuse_unless d (wrong Refusals.host_calls n))) → n ≡ 0
    go true y h = y tt
    go mathlib.Core.Bool.false y h = elim h [ ]

module _ (set : Settings) where
  -- a named method takes 14 bytes at the least
  least-method : (seen : List (List ℕ)) → AtLeast 14 (g.new_method seen)
  unfolding g.new_method g.method
  least-method seen =
      least-fore 14 _ _
      (least-seq 4 10 _ _ (least-string _ _ _) (λ _. least-seq 4 6 _ _ (least-fixed word _) (λ _. least-seq 1 5 _ _ (least-fixed byte _) (λ _. least-seq 1 4 _ _ (least-fixed byte _) (λ _. least-fixed word _)))))

  closed-slot_types : Closed (g.slot_types set)
  closed-slot_types = search closed

  closed-struct : Closed (g.struct set)
  unfolding g.struct g.struct_field
  closed-struct = search (closed, closed-choose) depth 20

  closed-interface : Closed (g.interface set)
  unfolding g.interface g.interface_method
  closed-interface = search closed depth 20

  closed-named_type : Closed (g.named_type set)
  unfolding g.named_type g.methods g.new_method g.method
  closed-named_type = search (closed, least-method) depth 20

  closed-itab : Closed (g.itab set)
  unfolding g.itab
  closed-itab = search closed depth 20

  closed-runtime_struct : Closed (g.runtime_struct set)
  unfolding g.runtime_struct g.runtime_field
  closed-runtime_struct = search closed depth 20

  closed-runtime_interface : Closed (g.runtime_interface set)
  unfolding g.runtime_interface g.runtime_method
  closed-runtime_interface = search closed depth 20

  closed-runtime_type : Closed (g.runtime_type set)
  unfolding g.runtime_type
  closed-runtime_type = search (closed-runtime_struct, closed-runtime_interface, closed, closed-choose) depth 40 fits 3000

  closed-well_known : Closed (g.error_types ▸ g.object_interfaces)
  unfolding g.error_types g.object_interfaces
  closed-well_known = search (closed, closed-choose) depth 20

  closed-constant : Closed g.constant
  unfolding g.constant
  closed-constant = search (closed, closed-choose) depth 20

  closed-global : Closed (g.global set)
  unfolding g.global
  closed-global = search (closed-slot_types, closed) depth 20

  closed-metadata : Closed (g.metadata set)
  unfolding g.metadata g.select_case
  closed-metadata = search (closed-slot_types, closed, closed-choose) depth 40 fits 3000

  closed-code : Closed (g.code set)
  unfolding g.code g.instruction g.metadata
  closed-code = search (closed-metadata, closed) depth 40

  closed-transfers : (c : ℕ) → Closed (g.transfers set c)
  unfolding g.transfers g.transfer
  closed-transfers c = search closed depth 40

  closed-body : (types locals : ℕ) → Closed (g.function_body set types locals)
  unfolding g.function_body
  closed-body types locals = search (closed-code, closed-transfers, closed-slot_types, closed) depth 20

  closed-function : Closed (g.function set)
  unfolding g.function g.function_head g.function_returns g.function_traits
  closed-function = search (closed-body, closed-slot_types, closed) depth 40

  closed-externs : (n : ℕ) → Closed (g.section set n externs)
  unfolding Closed ahead ahead_leaf Valid g.section bytes bytes_leaf
  closed-externs n v p h = omega (arith, no-externs (counted v) h.2.1)

  closed-artifact : Closed (g.artifact set)
  unfolding g.artifact
  closed-artifact = search closed depth 20

  closed-location : Closed g.location
  unfolding g.location
  closed-location = search closed depth 20

  closed-inline_sources : (n : ℕ) → Closed (g.inline_frames set ▸ g.inline_functions set n)
  unfolding g.inline_frames g.inline_functions g.frame g.span g.inline_function g.inline_entry
  closed-inline_sources n = search (closed, closed-choose) depth 30

  pub closed-section : (n : ℕ) (x : Section) → Closed (g.section set n x)
  unfolding g.section g.struct g.interface g.named_type g.itab g.runtime_type g.constant g.global g.function g.function_head g.location
  closed-section n name = search closed
  closed-section n structs = search (closed-struct, closed)
  closed-section n interfaces = search (closed-interface, closed)
  closed-section n named_types = search (closed-named_type, closed)
  closed-section n itabs = search (closed-itab, closed)
  closed-section n runtime_types = search (closed-runtime_type, closed)
  closed-section n well_known = closed-well_known
  closed-section n constants = search (closed-constant, closed)
  closed-section n globals = search (closed-global, closed)
  closed-section n functions = search (closed-function, closed)
  closed-section n externs = closed-externs n
  closed-section n entry = search closed
  closed-section n island_init = search closed
  closed-section n artifacts = search (closed-artifact, closed, least_zero)
  closed-section n files = search closed
  closed-section n function_locations = search (closed-location, closed)
  closed-section n inline_sources = closed-inline_sources n

  pub closed-pack : Closed (g.pack set)
  unfolding g.pack g.sections g.after_functions
  closed-pack = search (closed-section, closed) depth 40
