-- The lent calls on the sections one after the other: they give the whole pack's answer up to 24 and 26.
use Rattle.std.specs.Prelude.{ℕ, ◌+◌, ◌-◌, ◌≤◌, ◌≡◌, Bool, get_or, take, eqb}
use Rattle.std.proofs.Math.Path.{refl, ap, sym}
use Rattle.std.proofs.Common.{◌∙◌, length-append, length-drop}
use mathlib.Core.List.{List, [], ◌∷◌, ◌++◌, append_assoc}
use Rattle.std.proofs.Math.Bool.{true, false}
use native.Mathlib.Omega.{arith}
use Rattle.std.proofs.Math.ListN.{length, drop}
use Rattle.std.proofs.Math.Seq.{take-append_seam}
use Rattle.format.specs.Trace.{Wrong, wrong, Trace, end, guard, pick, Settled, refused, taken, settle}
use Rattle.format.specs.Format.{Value, pair, mark, Format, leaf, seq, ◌▸◌, counted}
use Rattle.format.specs.Reading.{trace}
use Rattle.format.specs.Record.{words_leaf, words}
use Rattle.format.specs.SettleTheorems.{then_s, settle-taken}
use Rattle.format.proofs.TraceTheorems.{leaf-ends, trace-within, slim, settle-seq}
use Rattle.format.specs.ChargeSums.{charges_leaf, charges}
use Rattle.format.proofs.ChargeSums.{trace-charges}
use Rattle.vob24.specs.Refusals
use Rattle.vob24.specs.Settings.{Settings, max_pack_bytes}
use Rattle.vob24.specs.Grammar.{Section, name, structs, interfaces, named_types, itabs, runtime_types, well_known, constants, globals, functions, externs, entry, island_init, artifacts, files, function_locations, inline_sources, section, after_functions, sections, magic, version, pack}
use Rattle.vob24.specs.Cost.{all_sections}
use Rattle.vob24.specs.Calls.{Answer, Taken, Refused, Outcome, written, closing, read_outcome, section_outcome, Position, LentOutcome, advancing, lent_outcome}
use Rattle.vob24.proofs.CallTheorems.{taken-when}
use Rattle.vob24_theorems.specs.Theorems.{whole-settled, section-alone}

-- The number of functions that the sections after this one go by, from this one's words: a list opens with its count.
abbrev pub functions_after : ℕ → Section → List ℕ → ℕ
functions_after n name ws = n
functions_after n structs ws = n
functions_after n interfaces ws = n
functions_after n named_types ws = n
functions_after n itabs ws = n
functions_after n runtime_types ws = n
functions_after n well_known ws = n
functions_after n constants ws = n
functions_after n globals ws = n
functions_after n functions ws = get_or ws 0 0
functions_after n externs ws = n
functions_after n entry ws = n
functions_after n island_init ws = n
functions_after n artifacts ws = n
functions_after n files ws = n
functions_after n function_locations ws = n
functions_after n inline_sources ws = n

-- After a section: on from the words that were taken; a refusal ends the reading.
abbrev pub read_on : Answer → (ℕ → Settled (List ℕ)) → Settled (List ℕ)
read_on (Taken w n c l) next = next w
read_on (Refused w p l) next = refused w p l

-- The lent calls on these sections, each with position and tape as the last one left them: the words joined, or the
-- first refusal.
abbrev pub in_turn : Settings → List ℕ → ℕ → List Section → List ℕ → Position → List ℕ → Settled (List ℕ)
in_turn set s n [] ws at t = taken ws at.place at.budget
in_turn set s n (x ∷ xs) ws at t =
    let o = lent_outcome set n x s at t in
    read_on o.answer (λ w. let read = take w o.tape in in_turn set s (functions_after n x read) xs (ws ++ read) o.position o.tape)

-- What the call on a whole pack, with this tape, makes of its sections: 24, then 26.
abbrev pub concluded : List ℕ → ℕ → List ℕ → Settled (List ℕ) → Outcome
concluded s b t (refused w p l) = record { answer = Refused w p l; tape = t }
concluded s b t (taken ws p l) = pick (eqb p (length s)) (written 0 b t ws p l) (record { answer = Refused (wrong Refusals.trailing_bytes (length s - p)) p l; tape = t })

-- ---- settled readings, with words in place of the value, after those of the parts before it

abbrev in_words : Format → List ℕ → Settled Value → Settled (List ℕ)
in_words f ws (refused w p l) = refused w p l
in_words f ws (taken v p l) = taken (ws ++ words f v) p l

words-seq : (b : ℕ) (f : Format) (g : Value → Format) (s : List ℕ) (p : ℕ) (ws : List ℕ)
    → in_words (seq f g) ws (settle b (trace (seq f g) s p)) ≡ then_s (settle b (trace f s p)) (λ v q l. in_words (g v) (ws ++ words f v) (settle l (trace (g v) s q)))
unfolding then_s words
words-seq b f g s p ws = ap (in_words (seq f g) ws) (settle-seq b f g s p) ∙ outer (settle b (trace f s p))
  where
    inner : (v : Value) (t : Settled Value)
        → in_words (seq f g) ws (then_s t (λ w r m. taken (pair v w) r m)) ≡ in_words (g v) (ws ++ words f v) t
    inner v (refused w r m) = refl
    inner v (taken w r m) = ap (λ x. taken x r m) (sym (append_assoc ws (words f v) (words (g v) w)))

    outer : (t : Settled Value)
        → in_words (seq f g) ws (then_s t (λ v q l. then_s (settle l (trace (g v) s q)) (λ w r m. taken (pair v w) r m))) ≡ then_s t (λ v q l. in_words (g v) (ws ++ words f v) (settle l (trace (g v) s q)))
    outer (refused w r m) = refl
    outer (taken v q l) = inner v (settle l (trace (g v) s q))

-- going on alike from what was taken
then-alike : {A B : Type 0} (t : Settled A) (k k' : A → ℕ → ℕ → Settled B)
    → ((v : A) (q l : ℕ) → t ≡ taken v q l → k v q l ≡ k' v q l) → then_s t k ≡ then_s t k'
unfolding then_s
then-alike (refused w p l) k k' h = refl
then-alike (taken v p l) k k' h = h v p l refl

-- ---- one section

abbrev on : (List ℕ → Position → List ℕ → Settled (List ℕ)) → LentOutcome → Settled (List ℕ)
on next o = read_on o.answer (λ w. next (take w o.tape) o.position o.tape)

module _ (set : Settings) (n : ℕ) (x : Section) (s : List ℕ) (at : Position) (t : List ℕ) (small : length s ≤ max_pack_bytes) (within : at.place ≤ length s) where
  abbrev reading : Trace Value
  reading = trace (section set n x) s at.place

  lent-so : (o : Outcome) → closing (section set n x) at.place at.budget t (settle at.budget reading) ≡ o
      → lent_outcome set n x s at t ≡ advancing at o
  unfolding lent_outcome section_outcome
  lent-so o e = ap (λ r. advancing at (closing (section set n x) at.place at.budget t (settle at.budget r))) (section-alone set n x s at.place small within) ∙ ap (advancing at) e

  -- what reading on from this call comes to, with tape enough
  read-on : length s ≤ length t
      → (next : List ℕ → Position → List ℕ → Settled (List ℕ)) (k : Value → ℕ → ℕ → Settled (List ℕ))
      → ((v : Value) (q l : ℕ) (t' : List ℕ) → q ≤ length s → length s ≤ length t' → next (words (section set n x) v) (record { place = q; budget = l }) t' ≡ k v q l)
      → on next (lent_outcome set n x s at t) ≡ then_s (settle at.budget reading) k
  unfolding then_s
  read-on room next k h = go (settle at.budget reading) refl
    where
      go : (r : Settled Value) → settle at.budget reading ≡ r → on next (lent_outcome set n x s at t) ≡ then_s r k
      go (refused w q l) e = ap (on next) (lent-so (record { answer = Refused w q l; tape = t }) (ap (closing (section set n x) at.place at.budget t) e))
      go (taken v q l) e =
          let ws = words (section set n x) v in
          let r = (settle-taken at.budget reading v q l).0 e in
          let i = trace-within (section set n x) s at.place r.0 in
          let j = i.1 within in
          let fits : length ws ≤ length t = omega (arith, (slim (section set n x)).most s at.place r.0) in
          let past : at.place + (q - at.place) ≡ q = omega arith in
          let t' = ws ++ drop (length ws) t in
          let same : length t' ≡ length t = simp (length-append, length-drop) (omega arith) in
          ap (on next) (lent-so _ (taken-when (section set n x) at.place at.budget t reading r.0 r.1 fits))
          ∙ rw (past, ← r.2, take-append_seam ws (drop (length ws) t)) (h v q l t' j (omega arith))

-- ---- the sections

module _ (set : Settings) where
  -- The format is these sections in turn.
  data Spells : Format → ℕ → List Section → Type 0 where
    last : {n : ℕ} {x : Section} → Spells (section set n x) n (x ∷ [])
    more : {n : ℕ} {x : Section} {xs : List Section} {g : Value → Format}
        → ((v : Value) → Spells (g v) (functions_after n x (words (section set n x) v)) xs)
        → Spells (seq (section set n x) g) n (x ∷ xs)

  spelled : {f : Format} {n : ℕ} {xs : List Section} → Spells f n xs → (s ws : List ℕ) (p b : ℕ) (t : List ℕ)
      → length s ≤ max_pack_bytes → p ≤ length s → length s ≤ length t
      → in_turn set s n xs ws (record { place = p; budget = b }) t ≡ in_words f ws (settle b (trace f s p))
  unfolding then_s
  spelled (last {n} {x}) s ws p b t h i room =
      read-on set n x s (record { place = p; budget = b }) t h i room (λ read at t'. taken (ws ++ read) at.place at.budget) (λ v q l. taken (ws ++ words (section set n x) v) q l) (λ v q l t' _ _. refl)
      ∙ only (settle b (trace (section set n x) s p))
    where
      only : (r : Settled Value)
          → then_s r (λ v q l. taken (ws ++ words (section set n x) v) q l) ≡ in_words (section set n x) ws r
      only (refused w q l) = refl
      only (taken v q l) = refl
  spelled (more {n} {x} {xs} {g} k) s ws p b t h i room =
      read-on set n x s (record { place = p; budget = b }) t h i room (λ read at t'. in_turn set s (functions_after n x read) xs (ws ++ read) at t') (λ v q l. in_words (g v) (ws ++ words (section set n x) v) (settle l (trace (g v) s q)))
      (λ v q l t' j room'. spelled (k v) s (ws ++ words (section set n x) v) q l t' h j room')
      ∙ sym (words-seq b (section set n x) g s p ws)

  after-spelled : (n : ℕ)
      → Spells (after_functions set n) n (externs ∷ entry ∷ island_init ∷ artifacts ∷ files ∷ function_locations ∷ inline_sources ∷ [])
  unfolding after_functions
  after-spelled n = more (λ _. more (λ _. more (λ _. more (λ _. more (λ _. more (λ _. last))))))

  functions-spelled : Spells (seq (section set 0 functions) (λ v. after_functions set (counted v))) 0 (functions ∷ externs ∷ entry ∷ island_init ∷ artifacts ∷ files ∷ function_locations ∷ inline_sources ∷ [])
  unfolding section words words_leaf
  functions-spelled = more (λ v. after-spelled (counted v))

  sections-spelled : Spells (sections set) 0 all_sections
  unfolding sections
  sections-spelled = more (λ _. more (λ _. more (λ _. more (λ _. more (λ _. more (λ _. more (λ _. more (λ _. more (λ _. functions-spelled)))))))))

  -- ---- the whole pack

  -- these bytes charge nothing
  mark-settled : (b : ℕ) (m : List ℕ) (y : ℕ → Wrong) (s : List ℕ) (p : ℕ) {v : Value} {q l : ℕ}
      → settle b (trace (leaf (mark m y)) s p) ≡ taken v q l → (q ≡ p + length m) × (p + length m ≤ length s) × (l ≡ b)
  unfolding trace charges charges_leaf
  mark-settled b m y s p {v} {q} {l} e =
      let r = (settle-taken b (trace (leaf (mark m y)) s p) v q l).0 e in
      let i = leaf-ends (mark m y) s p r.0 in
      (i.3, i.0, omega (arith, r.2, trace-charges (leaf (mark m y)) s p r.0))

  concludes : (s : List ℕ) (b : ℕ) (t : List ℕ) (r : Settled Value)
      → closing (pack set) 0 b t (then_s r (λ v q l. settle l (guard (eqb q (length s)) (wrong Refusals.trailing_bytes (length s - q)) q (end v q)))) ≡ concluded s b t (in_words (pack set) [] r)
  unfolding then_s settle guard pick
  concludes s b t (refused w p l) = refl
  concludes s b t (taken v q l) = go (eqb q (length s))
    where
      go : (d : Bool)
          → closing (pack set) 0 b t (settle l (guard d (wrong Refusals.trailing_bytes (length s - q)) q (end v q))) ≡ pick d (written 0 b t (words (pack set) v) q l) (record { answer = Refused (wrong Refusals.trailing_bytes (length s - q)) q l; tape = t })
      go true = refl
      go false = refl

  -- The call on a whole pack: magic, version, then the lent calls on the seventeen sections from place 7 on under the
  -- starting budget; a lent tape as long as the pack is enough. The same words, place and budget left, or the same
  -- refusal.
  pub read-in-turn : (s : List ℕ) (b : ℕ) (t lent : List ℕ) → length s ≤ max_pack_bytes → length s ≤ length lent
      → read_outcome set s b t ≡ concluded s b t (then_s (settle b (trace magic s 0)) (λ _ p l. then_s (settle l (trace version s p)) (λ _ _ _. in_turn set s 0 all_sections [] (record { place = 7; budget = b }) lent)))
  unfolding read_outcome pack words words_leaf
  read-in-turn s b t lent h room =
      ap (closing (pack set) 0 b t) (whole-settled set s b h) ∙ concludes s b t (settle b (trace (pack set) s 0)) ∙ ap (concluded s b t) whole
    where
      whole : in_words (pack set) [] (settle b (trace (pack set) s 0)) ≡ then_s (settle b (trace magic s 0)) (λ _ p l. then_s (settle l (trace version s p)) (λ _ _ _. in_turn set s 0 all_sections [] (record { place = 7; budget = b }) lent))
      whole =
          words-seq b magic (λ _. version ▸ sections set) s 0 []
          ∙ then-alike (settle b (trace magic s 0)) _ _ (λ v p l e.
          words-seq l version (λ _. sections set) s p []
          ∙ then-alike (settle l (trace version s p)) _ _ (λ w q m e'.
          let i = mark-settled b _ _ s 0 e in
          let j = mark-settled l _ _ s p e' in
          let at7 : q ≡ 7 = omega arith in
          let same : m ≡ b = omega arith in
          rw (at7, same) (sym (spelled sections-spelled s [] 7 b lent h (omega arith) room))))
