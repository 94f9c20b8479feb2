-- The laws of keeping: from a leaf's answer, and its words on the tape, to the contract of a reader.
use Rattle.std.specs.Prelude.{ℕ, ◌≡◌, List, Ok, Err}
use Rattle.std.specs.Result.{IsErrAnd}
use Rattle.std.proofs.Common.{refl}
use Rattle.format.specs.Format.{number, Leaf, Format, leaf}
use Rattle.reader.specs.Contract.{Step, Read, ReadyAt, Reader, NumberOf, SpanOf, ReadsSpan, lost_span, takes, refuses}
use Rattle.reader.specs.Leaves.{Answered, Denied, Answers, answered, denied, Spanned, Spans, spanned, unspanned, OneWord}
use Rattle.reader.specs.declared.Cursor.{Cursor}
use Rattle.reader.specs.declared.Refusal.{Refusal}
use Rattle.reader.specs.declared.Span.{Span}
use Rattle.reader.proofs.Errors.{handed}
use Rattle.reader.proofs.Parts.{span_of}
use Rattle.reader.proofs.Keeping.{denied-refuses, answered-takes, takes_number, refuses_number, takes_span, refuses_span, span-takes, span-wordy, wordy, TwoWords}
use Rattle.fields.specs.Kept.{WordyRead, KeptRead, kept_number, unkept, SpanRead, KeptSpan, kept_part, unkept_part}

module _ {l : Leaf} {s : List ℕ} {c : Cursor} (r : ReadyAt s c) where
  pub number-wordy : {q : Read ℕ} → Answers l s c q → WordyRead q
  number-wordy (answered a) = wordy r refl (answered a)
  number-wordy (denied a) = tt

  pub number-kept : {q p : Read ℕ} {t t₁ : List ℕ} → OneWord l → Answers l s c q → KeptRead q t p t₁
      → NumberOf (leaf l) number s c t p t₁
  number-kept o (answered a) k = go a k
    where
      go : {n : ℕ} {d : Cursor} {p : Read ℕ} {t t₁ : List ℕ} → Answered l s c n d → KeptRead (Ok (n, d)) t p t₁
          → NumberOf (leaf l) number s c t p t₁
      go a (kept_number k) = takes_number r (answered-takes o a k)
  number-kept o (denied a) k = go a k
    where
      go : {x : Refusal} {p : Read ℕ} {t t₁ : List ℕ} → Denied l s c x → KeptRead (Err x) t p t₁
          → NumberOf (leaf l) number s c t p t₁
      go a unkept = refuses_number (denied-refuses a)

  pub part-wordy : {q : Read Span} → Spans l s c q → SpanRead q
  part-wordy (spanned a) = span-wordy r a
  part-wordy (unspanned a) = tt

  pub part-kept : {q p : Read Span} {t t₁ : List ℕ} → TwoWords l → Spans l s c q → KeptSpan q t p t₁
      → SpanOf (leaf l) s c t p t₁
  part-kept o (spanned a) k = go a k
    where
      go : {p : Span} {d : Cursor} {w : Read Span} {t t₁ : List ℕ} → Spanned l s c p.start p.length d → KeptSpan (Ok (p, d)) t w t₁
          → SpanOf (leaf l) s c t w t₁
      go a (kept_part k) = takes_span r a.room (span-takes o a k)
  part-kept o (unspanned a) k = go a k
    where
      go : {x : Refusal} {w : Read Span} {t t₁ : List ℕ} → Denied l s c x → KeptSpan (Err x) t w t₁
          → SpanOf (leaf l) s c t w t₁
      go a unkept_part = refuses_span (denied-refuses a)

-- a part of the pack that is not kept
module _ {f : Format} {s : List ℕ} {c : Cursor} {t t₁ : List ℕ} {q : Read Span} where
  pub part-just : {p : Span} {d : Cursor} → q ≡ Ok (p, d) → SpanOf f s c t q t₁ → Reader f s (Ok c) t (Ok d) t₁
  part-just e h = let g = span_of e h in record { reads = takes g.takes; ready = g.ready }

  pub part-lost : {x : Refusal} {r : Step} → q ≡ Err x → IsErrAnd r (λ y. y ≡ x) → SpanOf f s c t q t₁
      → Reader f s (Ok c) t r t₁
  part-lost {x} {r} e i h = rw (handed r i) (go (rw e at h.reads))
    where
      go : ReadsSpan f s c t (Err x) t₁ → Reader f s (Ok c) t (Err x) t₁
      go (lost_span a) = record { reads = refuses a; ready = tt }
