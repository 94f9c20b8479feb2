-- The next metadata of a list, by the byte that is its tag.
use Rattle.std.specs.Prelude.{ℕ, ◌≡◌, refl, List, Ok}
use Rattle.std.proofs.Common.{ap, ◌∙◌, get_or}
use Rattle.format.specs.Format.{number, Rule, byte, fixed, leaf}
use Rattle.format.specs.Reading.{trace}
use Rattle.format.proofs.TraceTheorems.{leaf-ends}
use Rattle.vob24.specs.Settings.{Settings}
use Rattle.vob24.specs.Grammar.{metadata, metadata_variants}
use Rattle.fields.specs.Fields.{metadata_tagged}
use Rattle.reader.specs.Contract.{Reader, NumberOf, Step, Read}
use Rattle.reader.specs.declared.Cursor.{Cursor}
use Rattle.reader.proofs.Laws.{takes-ends, got_of, got-ready, empty_then}
use Rattle.reader.proofs.Parts.{choose_at}
use Rattle.lists.proofs.Copying.{byte_at}
use Rattle.metadata.specs.Records.{two_layouts}

-- the tag that was read is that byte
tag_is : {ρ : Rule} {k : ℕ} {s : List ℕ} {c d : Cursor} {q : Read ℕ} {n : ℕ} {t t₁ : List ℕ} → get_or s c.place 0 ≡ k
    → q ≡ Ok (n, d) → NumberOf (leaf (fixed byte ρ)) number s c t q t₁ → n ≡ k
unfolding trace
tag_is {ρ} {s = s} {c = c} a e h =
    let g = got_of e h in
    let p = leaf-ends (fixed byte ρ) s c.place (takes-ends g.takes) in
    g.is ∙ ap number p.2 ∙ byte_at s c.place p.0 ∙ a

module _ (set : Settings) {s : List ℕ} {c d : Cursor} {q : Read ℕ} {n : ℕ} {t t₁ : List ℕ} (e : q ≡ Ok (n, d)) (h : NumberOf metadata_tagged number s c t q t₁) where
  -- None: nothing follows the tag
  pub none_next : get_or s c.place 0 ≡ 0 → Reader (metadata set) s (Ok c) t (Ok d) t₁
  unfolding metadata
  none_next a = choose_at (metadata_variants set) 0 refl e (tag_is a e h) h (empty_then (got-ready e h))

  -- CallLayout: two lists
  pub call_next : {r : Step} {t₂ : List ℕ} → get_or s c.place 0 ≡ 11 → Reader (two_layouts set) s (Ok d) t₁ r t₂
      → Reader (metadata set) s (Ok c) t r t₂
  unfolding metadata
  call_next a k = choose_at (metadata_variants set) 11 refl e (tag_is a e h) h k
