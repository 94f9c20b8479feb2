-- Demand 1: every refusal of a call has one of document 01's numbers, 1 to 27.
use Rattle.std.specs.Prelude.{ℕ, suc, zero, ◌+◌, ◌-◌, ◌%◌, ◌≤◌, ◌≡◌, List, [], ◌∷◌, ◌++◌, Bool, true, false, length, drop, get_or, leb}
use Rattle.std.proofs.Math.Path.{refl}
use Rattle.std.proofs.Common.{arith, leb→le}
use Rattle.format.specs.Trace.{Wrong, wrong, Trace, stop, end, charge, needs, bind, guard, pick, Settled, spent, settle}
use Rattle.format.specs.Trace as of
use Rattle.format.specs.Format.{Value, number, start, content, Rule, Width, Ask, pay, deny, fixed, mark, packed, string, payload, count, ask, Format, empty, leaf, seq, ◌▸◌, chain, entries}
use Rattle.format.specs.Reading.{little, same, room, field, packed_step, trace_packed, trace_ask, trace_leaf, trace}
use Rattle.format.specs.Record.{words}
use Rattle.vob24.specs.Refusals
use Rattle.vob24.specs.Settings.{Settings, starting_budget}
use Rattle.vob24.specs.Leaves.{free, kind_ok, packed_word, choose}
use Rattle.vob24.specs.Fields.{artifact_of}
use Rattle.vob24.specs.Questions
use Rattle.vob24.specs.Grammar as g
use Rattle.vob24.specs.Grammar.{Section, name, structs, interfaces, named_types, itabs, runtime_types, well_known, constants, globals, functions, externs, entry, island_init, artifacts, files, function_locations, inline_sources}
use Rattle.vob24.specs.Calls as vob
use Rattle.vob24.specs.Cost.{part_of}

-- The numbers of the questions that are put to a file, the charges' 5 among them: 1 to 25. 26 and 27 are the calls'
-- own.
abbrev last_number : ℕ
last_number = 25

pub record Listed (w : Wrong) : Type 0 where
  pub least : 1 ≤ w.number
  pub most : w.number ≤ last_number

-- The numbers of document 01.
pub record Given (w : Wrong) : Type 0 where
  pub least : 1 ≤ w.number
  pub most : w.number ≤ 27

listed : {w : Wrong} → leb 1 w.number ≡ true → leb w.number last_number ≡ true → Listed w
listed a b = record { least = leb→le _ _ (rw a tt); most = leb→le _ _ (rw b tt) }

-- A trace whose stops are listed.
data Numbered {A : Type 0} : Trace A → Type 0 where
  stops : {w : Wrong} {p : ℕ} → Listed w → Numbered (stop w p)
  ends : {a : A} {p : ℕ} → Numbered (end a p)
  pays : {c n p : ℕ} {t : Trace A} → Numbered t → Numbered (charge c n p t)
  passes : {n p : ℕ} {t : Trace A} → Numbered t → Numbered (needs n p t)

numbered-bind : {A B : Type 0} {t : Trace A} {k : A → ℕ → Trace B} → Numbered t → ((a : A) (q : ℕ) → Numbered (k a q))
    → Numbered (bind t k)
unfolding bind
numbered-bind (stops h) k = stops h
numbered-bind (ends {a = a} {p = p}) k = k a p
numbered-bind (pays h) k = pays (numbered-bind h k)
numbered-bind (passes h) k = passes (numbered-bind h k)

numbered-guard : {A : Type 0} (d : Bool) (w : Wrong) (p : ℕ) (t : Trace A) → (d ≡ false → Listed w) → Numbered t
    → Numbered (guard d w p t)
unfolding guard
numbered-guard true w p t h k = k
numbered-guard false w p t h k = stops (h refl)

numbered-room : {A : Type 0} (n : ℕ) (s : List ℕ) (p : ℕ) (t : Trace A) → Numbered t → Numbered (room n s p t)
unfolding room
numbered-room n s p t h = numbered-guard _ _ _ _ (λ _. listed refl refl) (passes h)

numbered-field : {A : Type 0} (n : ℕ) (s : List ℕ) (p : ℕ) (k : List ℕ → Trace A) → ((bs : List ℕ) → Numbered (k bs))
    → Numbered (field n s p k)
unfolding field
numbered-field n s p k h = numbered-room _ _ _ _ (h _)

numbered_step : (d : Bool) (m b p : ℕ) (t : Trace ℕ) → Numbered t → Numbered (packed_step d m b p t)
unfolding packed_step
numbered_step true m b p t h = numbered-guard _ _ _ _ (λ _. listed refl refl) ends
numbered_step false m b p t h = numbered-bind h (λ _ _. ends)

numbered-packed : (k m : ℕ) (s : List ℕ) (p : ℕ) → Numbered (trace_packed k m s p)
unfolding trace_packed
numbered-packed zero m s p = numbered-field _ _ _ _ (λ _. numbered-guard _ _ _ _ (λ _. listed refl refl) (numbered-guard _ _ _ _ (λ _. listed refl refl) ends))
numbered-packed (suc k) m s p = numbered-field _ _ _ _ (λ _. numbered_step _ _ _ _ _ (numbered-packed k 1 s (p + 1)))

-- A rule whose refusals are listed.
record Ruled (r : Rule) : Type 0 where
  why : (n : ℕ) → r.test n ≡ false → Listed (r.why n)

ruled-free : Ruled free
ruled-free = record { why = λ n e. let no : ◌≡◌ {A = ℕ} 0 1 = cc in absurd (omega arith) }

ruled : {r : Rule} → ((n : ℕ) → Listed (r.why n)) → Ruled r
ruled h = record { why = λ n _. h n }

ruled-packed : (e : ℕ) → leb 1 e ≡ true → leb e last_number ≡ true → Ruled (packed_word e)
unfolding pick
ruled-packed e h k = record { why = λ n _. go n (kind_ok n) }
  where
    go : (n : ℕ) (d : Bool) → Listed (pick d (wrong e n) (wrong Refusals.invalid_value_kind (n % 256)))
    go n true = listed h k
    go n false = listed refl refl

-- Questions whose refusals are listed.
data Asking : List Ask → Type 0 where
  nothing : Asking []
  paying : {c n : ℕ} {l : List Ask} → Asking l → Asking (pay c n ∷ l)
  denying : {w : Wrong} {l : List Ask} → Listed w → Asking (deny w ∷ l)

numbered-ask : {l : List Ask} → Asking l → (p : ℕ) → Numbered (trace_ask l p)
unfolding trace_ask
numbered-ask nothing p = ends
numbered-ask (paying h) p = pays (numbered-ask h p)
numbered-ask (denying h) p = stops h

-- A format whose refusals are listed.
data Sound : Format → Type 0 where
  sound_empty : Sound empty
  sound-fixed : {w : Width} {r : Rule} → Ruled r → Sound (leaf (fixed w r))
  sound-mark : {m : List ℕ} {y : ℕ → Wrong} → ((n : ℕ) → Listed (y n)) → Sound (leaf (mark m y))
  sound-packed : Sound (leaf packed)
  sound-string : {r : Rule} {c : ℕ} {ok : List ℕ → Bool} → Ruled r → Sound (leaf (string r c ok))
  sound-payload : {r : Rule} {c : ℕ} → Ruled r → Sound (leaf (payload r c))
  sound-count : {r : Rule} {m c z : ℕ} → Ruled r → Sound (leaf (count r m c z))
  sound-ask : {l : List Ask} → Asking l → Sound (leaf (ask l))
  sound-seq : {f : Format} {h : Value → Format} → Sound f → ((v : Value) → Sound (h v)) → Sound (seq f h)

numbered-trace : {f : Format} → Sound f → (s : List ℕ) (p : ℕ) → Numbered (trace f s p)
unfolding trace trace_leaf
numbered-trace sound_empty s p = ends
numbered-trace (sound-fixed h) s p = numbered-field _ _ _ _ (λ bs. numbered-guard _ _ _ _ (h.why (little bs)) ends)
numbered-trace (sound-mark h) s p = numbered-field _ _ _ _ (λ bs. numbered-guard _ _ _ _ (λ _. h (little bs)) ends)
numbered-trace sound-packed s p = numbered-bind (numbered-packed 4 0 s p) (λ _ _. ends)
numbered-trace (sound-string h) s p = numbered-field _ _ _ _ (λ bs. numbered-guard _ _ _ _ (h.why (little bs)) (numbered-field _ _ _ _ (λ _. pays (numbered-guard _ _ _ _ (λ _. listed refl refl) ends))))
numbered-trace (sound-payload h) s p = numbered-field _ _ _ _ (λ bs. numbered-guard _ _ _ _ (h.why (little bs)) (numbered-field _ _ _ _ (λ _. pays ends)))
numbered-trace (sound-count h) s p = numbered-field _ _ _ _ (λ bs. numbered-guard _ _ _ _ (h.why (little bs)) (numbered-room _ _ _ _ (pays ends)))
numbered-trace (sound-ask h) s p = numbered-ask h p
numbered-trace (sound-seq h k) s p = numbered-bind (numbered-trace h s p) (λ v q. numbered-bind (numbered-trace (k v) s q) (λ _ _. ends))

sound-chain : {S : Type 0} (f : S → Format) (u : S → Value → S) → ((x : S) → Sound (f x)) → (n : ℕ) (x : S)
    → Sound (chain f u x n)
unfolding chain
sound-chain f u h zero x = sound_empty
sound-chain f u h (suc n) x = sound-seq (h x) (λ v. sound-chain f u h n (u x v))

sound-list : {S : Type 0} (r : Rule) (m c z : ℕ) (f : S → Format) (u : S → Value → S) (x : S) → Ruled r
    → ((x : S) → Sound (f x)) → Sound (seq (leaf (count r m c z)) (λ n. chain f u x (number n)))
sound-list r m c z f u x h k = sound-seq (sound-count h) (λ n. sound-chain f u k (number n) x)

data All : List Format → Type 0 where
  done : All []
  also : {f : Format} {fs : List Format} → Sound f → All fs → All (f ∷ fs)

sound-get : {fs : List Format} → All fs → (n : ℕ) → Sound (get_or fs n empty)
sound-get done n = sound_empty
sound-get (also h k) zero = h
sound-get (also h k) (suc n) = sound-get k n

sound-choose : {r : Rule} {fs : List Format} → Ruled r → All fs → Sound (choose r fs)
sound-choose h k = sound-seq (sound-fixed h) (λ v. sound-get k (number v))

ruleset sound = (sound_empty, sound-fixed, sound-mark, sound-packed, sound-string, sound-payload, sound-list, sound-choose, sound-seq, done, also, ruled-free, ruled, ruled-packed, listed)

-- The questions on what was read.
asking-append : {l m : List Ask} → Asking l → Asking m → Asking (l ++ m)
asking-append nothing k = k
asking-append (paying h) k = paying (asking-append h k)
asking-append (denying h) k = denying h

asking-if : (d : Bool) {w : Wrong} → Listed w → Asking (Questions.refuse_if d w)
unfolding pick
asking-if true h = denying h
asking-if false h = nothing

asking-unless : (d : Bool) {w : Wrong} → Listed w → Asking (Questions.refuse_unless d w)
unfolding pick
asking-unless true h = nothing
asking-unless false h = denying h

asking-keys : (seen : List (List ℕ)) (vs : List Value) → Asking (Questions.field_keys seen vs)
unfolding Questions.field_keys
asking-keys seen [] = nothing
asking-keys seen (v ∷ vs) = paying (asking-append (asking-if _ (listed refl refl)) (asking-keys _ vs))

asking-names : (seen : List (List ℕ)) (vs : List Value) → Asking (Questions.new_names seen vs)
unfolding Questions.new_names
asking-names seen [] = nothing
asking-names seen (v ∷ vs) = asking-append (asking-if _ (listed refl refl)) (asking-names _ vs)

asking-identities : (seen xs : List Questions.Identity) → Asking (Questions.new_identities seen xs)
unfolding Questions.new_identities
asking-identities seen [] = nothing
asking-identities seen (x ∷ xs) = asking-append (asking-if _ (listed refl refl)) (asking-identities (pick (Questions.blank x.1) seen (x ∷ seen)) xs)

asking-transfers : (c i : ℕ) (xs : List (ℕ × ℕ)) → Asking (Questions.transfer_words c i xs)
unfolding Questions.transfer_words
asking-transfers c i [] = nothing
asking-transfers c i (x ∷ xs) = asking-append (asking-unless _ (listed refl refl)) (asking-append (asking-unless _ (listed refl refl)) (asking-transfers c (i + 1) xs))

ruleset asking = (sound-ask, paying, asking-if, asking-unless, asking-keys, asking-names, asking-identities, asking-transfers)

module _ (set : Settings) where
  sound-slot_types : Sound (g.slot_types set)
  sound-slot_types = search sound

  sound-struct : Sound (g.struct set)
  unfolding g.struct g.struct_field
  sound-struct = search (sound, asking) depth 20

  sound-interface : Sound (g.interface set)
  unfolding g.interface g.interface_method
  sound-interface = search (sound, asking) depth 20

  sound-new_method : (seen : List (List ℕ)) → Sound (g.new_method seen)
  unfolding g.new_method g.method
  sound-new_method seen = search (sound, asking) depth 20

  sound-named_type : Sound (g.named_type set)
  unfolding g.named_type g.methods
  sound-named_type = search (sound-new_method, sound) depth 20

  sound-itab : Sound (g.itab set)
  unfolding g.itab
  sound-itab = search sound depth 20

  sound-runtime_struct : Sound (g.runtime_struct set)
  unfolding g.runtime_struct g.runtime_field
  sound-runtime_struct = search (sound, asking) depth 20

  sound-runtime_interface : Sound (g.runtime_interface set)
  unfolding g.runtime_interface g.runtime_method
  sound-runtime_interface = search (sound, asking) depth 20

  sound-runtime_type : Sound (g.runtime_type set)
  unfolding g.runtime_type
  sound-runtime_type = search (sound-runtime_struct, sound-runtime_interface, sound) depth 40 fits 3000

  sound-well_known : Sound (g.error_types ▸ g.object_interfaces)
  unfolding g.error_types g.object_interfaces
  sound-well_known = search sound depth 20

  sound-constant : Sound g.constant
  unfolding g.constant
  sound-constant = search sound depth 20

  sound-global : Sound (g.global set)
  unfolding g.global
  sound-global = search sound depth 20

  sound-select_case : Sound g.select_case
  unfolding g.select_case
  sound-select_case = search sound depth 20

  sound-metadata : Sound (g.metadata set)
  unfolding g.metadata
  sound-metadata = search (sound-slot_types, sound-select_case, sound) depth 40 fits 3000

  sound-code : Sound (g.code set)
  unfolding g.code g.instruction
  sound-code = search (sound-metadata, sound, asking) depth 20

  sound-transfers : (c : ℕ) → Sound (g.transfers set c)
  unfolding g.transfers g.transfer
  sound-transfers c = search (sound, asking) depth 20

  sound-body : (types locals : ℕ) → Sound (g.function_body set types locals)
  unfolding g.function_body
  sound-body types locals = search (sound-code, sound-transfers, sound, asking) depth 20

  sound-function : Sound (g.function set)
  unfolding g.function g.function_head g.function_returns g.function_traits
  sound-function = search (sound-body, sound) depth 40

  sound-artifact : Sound (g.artifact set)
  unfolding g.artifact
  sound-artifact = search sound depth 20

  sound-inline_sources : (n : ℕ) → Sound (g.inline_frames set ▸ g.inline_functions set n)
  unfolding g.inline_frames g.inline_functions g.frame g.span g.inline_function g.inline_entry
  sound-inline_sources n = search sound depth 30

  sound-section : (n : ℕ) (x : Section) → Sound (g.section set n x)
  unfolding g.section g.location
  sound-section n name = search sound
  sound-section n structs = search (sound-struct, sound)
  sound-section n interfaces = search (sound-interface, sound)
  sound-section n named_types = search (sound-named_type, sound)
  sound-section n itabs = search (sound-itab, sound)
  sound-section n runtime_types = search (sound-runtime_type, sound)
  sound-section n well_known = sound-well_known
  sound-section n constants = search (sound-constant, sound)
  sound-section n globals = search (sound-global, sound)
  sound-section n functions = search (sound-function, sound)
  sound-section n externs = search (sound, sound-count, asking)
  sound-section n entry = search sound
  sound-section n island_init = search sound
  sound-section n artifacts = search (sound-artifact, sound)
  sound-section n files = search sound
  sound-section n function_locations = search sound depth 20
  sound-section n inline_sources = sound-inline_sources n

  sound-sections : Sound (g.sections set)
  unfolding g.sections g.after_functions
  sound-sections = search (sound-section, sound) depth 40

  sound-pack : Sound (g.pack set)
  unfolding g.pack
  sound-pack = search (sound-sections, sound) depth 40

-- Under a budget: 5 is listed too.
data Settles : Settled Value → Type 0 where
  refuses : {w : Wrong} {p l : ℕ} → Listed w → Settles (of.refused w p l)
  takes : {v : Value} {p l : ℕ} → Settles (of.taken v p l)

settles : {t : Trace Value} → Numbered t → (b : ℕ) → Settles (settle b t)
unfolding settle pick
settles (stops h) b = refuses h
settles ends b = takes
settles (pays {c = c} {n = n} {p = p} {t = t} h) b = go (leb n b) (settles h (b - n))
  where
    go : (d : Bool) → Settles (settle (b - n) t) → Settles (pick d (settle (b - n) t) (of.refused (spent c n b) p b))
    go true k = k
    go false k = refuses (listed refl refl)
settles (passes h) b = settles h b

refusal-listed : {r : Settled Value} → Settles r → {w : Wrong} {p l : ℕ} → r ≡ of.refused w p l → Listed w
refusal-listed (refuses {w = x} h) {w} e = let same : x ≡ w = cc in rw same at h
refusal-listed takes e = let no : ◌≡◌ {A = ℕ} 0 1 = cc in absurd (omega arith)

-- An answer is taken, or refused with a number of document 01.
pub data Answered : vob.Answer → Type 0 where
  taken : {w n c l : ℕ} → Answered (vob.Taken w n c l)
  refused : {w : Wrong} {p l : ℕ} → Given w → Answered (vob.Refused w p l)

pub data Looked : vob.Found → Type 0 where
  found : {p n : ℕ} → Looked (vob.At p n)
  missed : {w : Wrong} {p l : ℕ} → Given w → Looked (vob.Not w p l)

given : {w : Wrong} → Listed w → Given w
given h = record { least = h.least; most = omega (arith, h.most) }

-- 26 and 27
own : {w : Wrong} → leb 1 w.number ≡ true → leb w.number 27 ≡ true → Given w
own a b = record { least = leb→le _ _ (rw a tt); most = leb→le _ _ (rw b tt) }

closes : (f : Format) (a b : ℕ) (t : List ℕ) {r : Settled Value} → Settles r → Answered (vob.closing f a b t r).answer
unfolding pick
closes f a b t (refuses h) = refused (given h)
closes f a b t (takes {v = v} {p = p} {l = l}) = go (leb (length (words f v)) (length t))
  where
    go : (d : Bool)
        → Answered (pick {A = vob.Outcome} d (record { answer = vob.Taken (length (words f v)) (p - a) (b - l) l; tape = words f v ++ drop (length (words f v)) t }) (record { answer = vob.Refused (vob.no_room_for (length (words f v)) (length t)) p l; tape = t })).answer
    go true = taken
    go false = refused (own refl refl)

looks : (x : List ℕ) (vs : List Value) (p l : ℕ) → Looked (vob.look_in x vs p l)
unfolding vob.look_in pick
looks x [] p l = missed (own refl refl)
looks x (v ∷ vs) p l = go (same (content (artifact_of v).name) x) (looks x vs p l)
  where
    go : (d : Bool) → Looked (vob.look_in x vs p l)
        → Looked (pick d (vob.At (start (artifact_of v).payload) (length (content (artifact_of v).payload))) (vob.look_in x vs p l))
    go true h = found
    go false h = h

module _ (set : Settings) where
  whole : (s : List ℕ) → Numbered (vob.whole_trace set s)
  unfolding vob.whole_trace
  whole s = numbered-guard _ _ _ _ (λ _. listed refl refl) (numbered-bind (numbered-trace (sound-pack set) s 0) (λ _ _. numbered-guard _ _ _ _ (λ _. listed refl refl) ends))

  part : (n : ℕ) (x : Section) (s : List ℕ) (p : ℕ) → Numbered (vob.section_trace set n x s p)
  unfolding vob.section_trace
  part n x s p = numbered-guard _ _ _ _ (λ _. listed refl refl) (numbered-guard _ _ _ _ (λ _. listed refl refl) (numbered-trace (sound-section set n x) s p))

  -- Neither 26 nor 27 is the answer to a question that is put to the file.
  pub whole-listed : (s : List ℕ) (b : ℕ) {w : Wrong} {p l : ℕ} → settle b (vob.whole_trace set s) ≡ of.refused w p l
      → Listed w
  whole-listed s b = refusal-listed (settles (whole s) b)

  -- The same of all sections, and of a named type's methods.
  pub sections-listed : (s : List ℕ) (p b : ℕ) {w : Wrong} {q l : ℕ}
      → settle b (trace (g.sections set) s p) ≡ of.refused w q l → Listed w
  sections-listed s p b = refusal-listed (settles (numbered-trace (sound-sections set) s p) b)

  pub methods-listed : (n : ℕ) (s : List ℕ) (p b : ℕ) {w : Wrong} {q l : ℕ}
      → settle b (trace (chain g.new_method g.also_seen [] n) s p) ≡ of.refused w q l → Listed w
  methods-listed n s p b = refusal-listed (settles (numbered-trace (sound-chain g.new_method g.also_seen (sound-new_method set) n []) s p) b)

  pub section-listed : (n : ℕ) (x : Section) (s : List ℕ) (p b : ℕ) {w : Wrong} {q l : ℕ}
      → settle b (vob.section_trace set n x s p) ≡ of.refused w q l → Listed w
  section-listed n x s p b = refusal-listed (settles (part n x s p) b)

  pub read-numbered : (s : List ℕ) (b : ℕ) (t : List ℕ) → Answered (vob.read_outcome set s b t).answer
  unfolding vob.read_outcome
  read-numbered s b t = closes (g.pack set) 0 b t (settles (whole s) b)

  pub section-numbered : (n : ℕ) (x : Section) (s : List ℕ) (p b : ℕ) (t : List ℕ)
      → Answered (vob.section_outcome set n x s p b t).answer
  unfolding vob.section_outcome
  section-numbered n x s p b t = closes (g.section set n x) p b t (settles (part n x s p) b)

  pub find-numbered : (s x : List ℕ) → Looked (vob.find_outcome set s x)
  unfolding vob.find_outcome
  find-numbered s x = go (settles (whole s) starting_budget)
    where
      go : {r : Settled Value} → Settles r → Looked (vob.looking x r)
      go (refuses h) = missed (given h)
      go (takes {v = v} {p = p} {l = l}) = looks x (entries (part_of artifacts v)) p l
