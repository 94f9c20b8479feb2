-- The laws of texts: a text is a payload whose bytes are well-formed.
use Rattle.std.specs.Prelude.{Ok, Err, Option, Some, None}
use Rattle.std.specs.Result.{IsErrAnd}
use Prim.Native.Nat.{ℕ, ◌+◌, ◌-◌, ◌≤◌}
use lib.Seq.{take-add, take-take, drop_at, length-take-le}
use mathlib.Core.Path.{◌≡◌, refl, ap, sym, ◌∙◌}
use mathlib.Core.List.{List}
use mathlib.Core.Bool.{Bool, true, false}
use native.Mathlib.Omega.{arith}
use lib.Dec.{leb}
use lib.ListN.{length, take, drop}
use Rattle.format.specs.Trace.{wrong, refused, unexpected_eof, invalid_utf8, Trace, end, charge, needs, bind, guard, settle}
use Rattle.format.specs.Format.{Value, text, content, Rule, string, payload}
use Rattle.format.specs.Reading.{little, part, room, field, trace_leaf}
use Rattle.format.specs.SettleTheorems.{then_s, settle-bind}
use Rattle.vob24.specs.Utf8.{ill_formed, characters, scan, well_formed, is_text}
use Rattle.utf8.specs.Answers.{scan_of, Tries}
use Rattle.reader.specs.Contract.{told, Read, span_at, text_at}
use Rattle.reader.specs.Leaves.{Denied, Spanned, Spans, spanned, unspanned, Texts, written, unwritten, Checked, formed, malformed}
use Rattle.reader.specs.declared.Cursor.{Cursor}
use Rattle.reader.specs.declared.Refusal.{Refusal}
use Rattle.reader.specs.declared.Span.{Span}
use Rattle.reader.specs.declared.Text.{Text}
use Rattle.reader.proofs.Settles.{guard-yes, guard-no}
use Rattle.reader.proofs.Errors.{handed}

-- the questions of a text are those of the payload, then its own
string-after : (ρ : Rule) (k : ℕ) (ok : List ℕ → Bool) (s : List ℕ) (p : ℕ)
    → trace_leaf (string ρ k ok) s p ≡ bind (trace_leaf (payload ρ k) s p) (λ v q. guard (ok (content v)) (wrong invalid_utf8 0) q (end v q))
unfolding trace_leaf field room bind guard
string-after ρ k ok s p = go (leb (p + 4) (length s)) (ρ.test n) (leb (p + 4 + n) (length s))
  where
    n : ℕ
    n = little (part s p 4)

    last : Trace Value
    last = end (text (p + 4) (part s (p + 4) n)) (p + 4 + n)

    go : (a b c : Bool)
        → guard a (wrong unexpected_eof 0) p (needs (p + 4) p (guard b (ρ.why n) (p + 4) (guard c (wrong unexpected_eof 0) (p + 4) (needs (p + 4 + n) (p + 4) (charge k n (p + 4 + n) (guard (ok (part s (p + 4) n)) (wrong invalid_utf8 0) (p + 4 + n) last))))))
        ≡ bind (guard a (wrong unexpected_eof 0) p (needs (p + 4) p (guard b (ρ.why n) (p + 4) (guard c (wrong unexpected_eof 0) (p + 4) (needs (p + 4 + n) (p + 4) (charge k n (p + 4 + n) last)))))) (λ v q. guard (ok (content v)) (wrong invalid_utf8 0) q (end v q))
    go true true true = refl
    go true true false = refl
    go true false c = refl
    go false b c = refl

string-settles : (ρ : Rule) (k : ℕ) (s : List ℕ) (p b : ℕ)
    → settle b (trace_leaf (string ρ k well_formed) s p) ≡ then_s (settle b (trace_leaf (payload ρ k) s p)) (λ v q l. settle l (guard (well_formed (content v)) (wrong invalid_utf8 0) q (end v q)))
string-settles ρ k s p b = ap (settle b) (string-after ρ k well_formed s p) ∙ settle-bind b (trace_leaf (payload ρ k) s p) _

module _ (ρ : Rule) (k : ℕ) {s : List ℕ} {c : Cursor} where
  text-denied : {x : Refusal} → Denied (payload ρ k) s c x → Denied (string ρ k well_formed) s c x
  unfolding then_s
  text-denied h = record { settles = string-settles ρ k s c.place c.left ∙ rw h.settles }

  module _ {p n : ℕ} {d : Cursor} (h : Spanned (payload ρ k) s c p n d) where
    text-leads : settle c.left (trace_leaf (string ρ k well_formed) s c.place) ≡ settle d.left (guard (well_formed (part s p n)) (wrong invalid_utf8 0) d.place (end (text p (part s p n)) d.place))
    unfolding then_s
    text-leads = string-settles ρ k s c.place c.left ∙ rw h.settles

    text-formed : {m : ℕ} → scan (part s p n) ≡ characters m → Spanned (string ρ k well_formed) s c p n d
    unfolding settle
    text-formed e = record { settles = text-leads ∙ guard-yes d.left _ _ _ (ap is_text e); room = h.room; stays = h.stays }

    text-malformed : scan (part s p n) ≡ ill_formed
        → {x : Refusal} → told x ≡ refused (wrong invalid_utf8 0) d.place d.left → Denied (string ρ k well_formed) s c x
    text-malformed e i = record { settles = text-leads ∙ guard-no d.left _ _ _ (ap is_text e) ∙ sym i }

pub text-then : {ρ : Rule} {k : ℕ} {s : List ℕ} {c : Cursor} {q : Read Span} {t : Read Text} → Spans (payload ρ k) s c q
    → Checked s q t → Texts (string ρ k well_formed) s c t
text-then {ρ} {k} {s} {c} (spanned h) y = go h y
  where
    go : {p n : ℕ} {d : Cursor} {t : Read Text} → Spanned (payload ρ k) s c p n d → Checked s (Ok (span_at p n, d)) t
        → Texts (string ρ k well_formed) s c t
    go h (formed e) = written (text-formed ρ k h e) e
    go h (malformed e w) = unwritten (text-malformed ρ k h e w)
text-then {ρ} {k} {s} {c} (unspanned h) y = elim y [ ]

pub text-not : {ρ : Rule} {k : ℕ} {s : List ℕ} {c : Cursor} {q : Read Span} {t : Read Text} {x : Refusal} → q ≡ Err x
    → IsErrAnd t (λ y. y ≡ x) → Spans (payload ρ k) s c q → Texts (string ρ k well_formed) s c t
text-not {ρ} {k} {s} {c} {q} {t} {x} e i h = rw (handed t i) (go (rw e at h))
  where
    go : Spans (payload ρ k) s c (Err x) → Texts (string ρ k well_formed) s c (Err x)
    go (unspanned a) = unwritten (text-denied ρ k a)

pub text-up : {ρ : Rule} {k : ℕ} {s : List ℕ} {c : Cursor} {q t : Read Text} {x : Refusal} → q ≡ Err x
    → IsErrAnd t (λ y. y ≡ x) → Texts (string ρ k well_formed) s c q → Texts (string ρ k well_formed) s c t
text-up {t = t} e i h = rw (handed t i ∙ sym e) h

-- the bytes of a payload are there
pub spans-room : {ρ : Rule} {k : ℕ} {s : List ℕ} {c : Cursor} {q : Read Span} {p n : ℕ} {d : Cursor}
    → q ≡ Ok (span_at p n, d) → Spans (payload ρ k) s c q → p + n ≤ length s
spans-room {ρ} {k} {s} {c} {q} {p} {n} {d} e h = go (rw e at h)
  where
    go : Spans (payload ρ k) s c (Ok (span_at p n, d)) → p + n ≤ length s
    go (spanned h) = h.room

-- a payload's bytes, of those up to its end: the code hands on no more of the pack
abbrev up_to : List ℕ → ℕ → ℕ → List ℕ
up_to s p n = take n (drop p (take (p + n - 0) (drop 0 s)))

up-to : (s : List ℕ) (p n : ℕ) → p + n ≤ length s → up_to s p n ≡ take n (drop p s)
up-to s p n h =
    let z : p + n - 0 ≡ p + n = omega arith in
    ap (λ k. take n (drop p (take k s))) z
    ∙ ap (λ l. take n (drop p l)) (take-add p n s)
    ∙ ap (take n) (drop_at (take p s) (take n (drop p s)) p (length-take-le p s (omega arith)))
    ∙ take-take n n (drop p s) (omega arith)

-- a payload as a text
module _ {s : List ℕ} {p : Span} {d : Cursor} (j : p.start + p.length ≤ length s) where
  pub checked-got : {w : Option ℕ} {m : ℕ} → w ≡ Some m → scan_of w ≡ scan (up_to s p.start p.length)
      → Checked s (Ok (p, d)) (Ok (text_at p m, d))
  checked-got i h = formed (ap scan (sym (up-to s p.start p.length j)) ∙ sym h ∙ ap scan_of i)

  pub checked-not : {w : Option ℕ} {x : Refusal} → w ≡ None → scan_of w ≡ scan (up_to s p.start p.length)
      → told x ≡ refused (wrong invalid_utf8 0) d.place d.left → Checked s (Ok (p, d)) (Err x)
  checked-not i h y = malformed (ap scan (sym (up-to s p.start p.length j)) ∙ sym h ∙ ap scan_of i) y

  pub checked-tried : {w : Option ℕ} {m : ℕ} → w ≡ Some m → Tries (up_to s p.start p.length) w
      → Checked s (Ok (p, d)) (Ok (text_at p m, d))
  checked-tried i h = formed (ap scan (sym (up-to s p.start p.length j)) ∙ (rw i at h))

pub ruleset texts = (checked-got, checked-not)
