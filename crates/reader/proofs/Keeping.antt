-- The laws of keeping: from a leaf's answer, and its words on the tape, to the contract of a reader.
use Rattle.std.specs.Prelude.{Ok, Err}
use Rattle.std.specs.Result.{IsErrAnd}
use Prim.Native.Nat.{ℕ, ◌+◌, ◌-◌, ◌/◌, ◌%◌, ◌≤◌, ◌<◌}
use mathlib.Core.Path.{◌≡◌, refl, ap, ◌∙◌}
use mathlib.Core.List.{List, [], ◌∷◌}
use mathlib.Core.Bool.{Bool}
use native.Mathlib.Omega.{arith}
use lib.ListN.{length}
use borrow.Author.Tests.{ne_eqb}
use Rattle.format.specs.Trace.{Wrong, settle, taken, pick}
use Rattle.format.specs.Format.{Value, none, num, text, number, Rule, Width, long, option, Leaf, fixed, mark, string, payload, Format, leaf}
use Rattle.format.specs.Reading.{part, size, trace, trace_leaf}
use Rattle.format.specs.Record.{shown, words, words_leaf}
use Rattle.format.proofs.TraceTheorems.{part_length}
use Rattle.vob24.specs.Leaves.{free}
use Rattle.reader.specs.Contract.{ReadyAt, Takes, Refuses, takes, refuses, Reader, got, lost, NumberOf, got_span, lost_span, SpanOf, Wordy, Kept, WordyPair, KeptPair, Step, Read, span_at}
use Rattle.reader.specs.Leaves.{Fetched, Fetches, Answered, Denied, Answers, answered, denied, Spanned, Spans, spanned, Marks, marked, unmarked, Texts, written, unwritten, Narrow, narrow_byte, narrow_half, narrow_word, OneWord, one_fixed, one_packed, one_count}
use Rattle.reader.specs.declared.Cursor.{Cursor}
use Rattle.reader.specs.declared.Refusal.{Refusal}
use Rattle.reader.specs.declared.Span.{Span}
use Rattle.reader.specs.declared.Text.{Text}
use Rattle.reader.proofs.Laws.{takes-ready}
use Rattle.reader.proofs.Settles.{guard-yes, field-yes}
use Rattle.reader.proofs.Errors.{handed}
use Rattle.reader.proofs.Leaves.{fetched, below, fixed-not, fixed-got}

-- ---- from the reading to the reader

module _ {f : Format} {s : List ℕ} {c : Cursor} {t t₁ : List ℕ} where
  refuses_reader : {x : Refusal} → Refuses f s c x → Reader f s (Ok c) t (Err x) t₁
  refuses_reader h = record { reads = refuses h; ready = tt }

  pub takes_reader : {v : Value} {d : Cursor} → ReadyAt s c → Takes f s c t v d t₁ → Reader f s (Ok c) t (Ok d) t₁
  takes_reader r h = record { reads = takes h; ready = takes-ready r h }

  pub refuses_number : {of : Value → ℕ} {x : Refusal} → Refuses f s c x → NumberOf f of s c t (Err x) t₁
  refuses_number h = record { reads = lost h; ready = tt }

  pub takes_number : {n : ℕ} {d : Cursor} → ReadyAt s c → Takes f s c t (num n) d t₁ → NumberOf f number s c t (Ok (n, d)) t₁
  takes_number r h = record { reads = got refl h; ready = takes-ready r h }

  pub refuses_span : {x : Refusal} → Refuses f s c x → SpanOf f s c t (Err x) t₁
  refuses_span h = record { reads = lost_span h; ready = tt }

  pub takes_span : {p n : ℕ} {d : Cursor} → ReadyAt s c → p + n ≤ length s → Takes f s c t (text p (part s p n)) d t₁
      → SpanOf f s c t (Ok (span_at p n, d)) t₁
  takes_span r i h = record { reads = got_span i h; ready = takes-ready r h }

pub denied-refuses : {l : Leaf} {s : List ℕ} {c : Cursor} {x : Refusal} → Denied l s c x → Refuses (leaf l) s c x
unfolding trace
denied-refuses h = record { settles = h.settles }

-- ---- numbers of one word

one_word : {l : Leaf} (n : ℕ) → OneWord l → words_leaf l (num n) ≡ n ∷ []
unfolding words_leaf
one_word n (one_fixed narrow_byte) = refl
one_word n (one_fixed narrow_half) = refl
one_word n (one_fixed narrow_word) = refl
one_word n one_packed = refl
one_word n one_count = refl

pub answered-takes : {l : Leaf} {s : List ℕ} {c : Cursor} {t t₁ : List ℕ} {n : ℕ} {d g : Cursor} → OneWord l
    → Answered l s c n d → Kept d n t g t₁ → Takes (leaf l) s c t (num n) g t₁
unfolding trace words
answered-takes {n = n} o a k =
    rw k.is
    (record {
      settles = a.settles;
      moves = rw (one_word n o) (omega (arith, a.stays));
      writes = k.writes ∙ rw (one_word n o, a.stays);
    })

module _ {l : Leaf} {s : List ℕ} {c : Cursor} {q : Read ℕ} where
  pub answers-got : {n : ℕ} {d : Cursor} → q ≡ Ok (n, d) → Answers l s c q → Answered l s c n d
  answers-got {n} {d} e h = go (rw e at h)
    where
      go : Answers l s c (Ok (n, d)) → Answered l s c n d
      go (answered a) = a

  pub answers-not : {x : Refusal} → q ≡ Err x → Answers l s c q → Denied l s c x
  answers-not {x} e h = go (rw e at h)
    where
      go : Answers l s c (Err x) → Denied l s c x
      go (denied a) = a

  pub wordy : {n : ℕ} {d : Cursor} → ReadyAt s c → q ≡ Ok (n, d) → Answers l s c q → Wordy d n
  wordy r e h = let a = answers-got e h in record { word = a.word; place = omega (arith, a.stays, r.small, r.within, r.behind) }

-- numbers of a fixed width and no rule
pub fetches-answers : {w : Width} {s : List ℕ} {c : Cursor} {q : Read ℕ} → Narrow w → Fetches (size w) s c q
    → Answers (fixed w free) s c q
fetches-answers {w} {s} {c} {q} m h = go q refl
  where
    go : (o : Read ℕ) → q ≡ o → Answers (fixed w free) s c q
    go (Ok (n, d)) e = rw e (fixed-got e h m refl)
    go (Err x) e = fixed-not e h

module _ {s : List ℕ} {c d : Cursor} {q : Read ℕ} {n : ℕ} (r : ReadyAt s c) (e : q ≡ Ok (n, d)) where
  at_small : {k : ℕ} → Fetched k s c n d → d.at + 1 < 4294967296
  at_small h = rw h.next (omega (arith, r.small, r.within, r.behind))

  pub wordy8 : Fetches 8 s c q → WordyPair d (n % 4294967296) (n / 4294967296)
  wordy8 h = let f = fetched e h in record { low = omega arith; high = omega (arith, below f); place = omega (arith, at_small f) }

  pub wordy-absent : Fetches 4 s c q → WordyPair d 0 0
  wordy-absent h = record { low = omega arith; high = omega arith; place = omega (arith, at_small (fetched e h)) }

  pub wordy-id : Fetches 4 s c q → WordyPair d 1 (n - 1)
  wordy-id h = let f = fetched e h in record { low = omega arith; high = omega (arith, below f); place = omega (arith, at_small f) }

-- ---- what stands on the tape as two words

pair-takes : {l : Leaf} {s : List ℕ} {c d g : Cursor} {v : Value} {a b : ℕ} {t t₁ : List ℕ}
    → settle c.left (trace_leaf l s c.place) ≡ taken v d.place d.left → d.at ≡ c.at
    → words_leaf l v ≡ a ∷ b ∷ [] → KeptPair d a b t g t₁ → Takes (leaf l) s c t v g t₁
unfolding trace words
pair-takes h i w k =
    rw k.is
    (record {
      settles = h;
      moves = rw w (omega (arith, i));
      writes = k.writes ∙ rw (w, i);
    })

-- any number of a fixed width and no rule
fixed-settles : (w : Width) {s : List ℕ} {c d : Cursor} {n : ℕ} → Fetched (size w) s c n d
    → settle c.left (trace_leaf (fixed w free) s c.place) ≡ taken (num n) d.place d.left
unfolding trace_leaf settle
fixed-settles w {s} {c} f = rw f.next (field-yes c.left (size w) s c.place _ f.room ∙ rw (← f.is) (guard-yes c.left _ _ _ refl))

fixed-pair : (w : Width) {s : List ℕ} {c d g : Cursor} {n a b : ℕ} {t t₁ : List ℕ} → Fetched (size w) s c n d
    → shown w n ≡ a ∷ b ∷ [] → KeptPair d a b t g t₁ → Takes (leaf (fixed w free)) s c t (num n) g t₁
unfolding words_leaf
fixed-pair w f i k = pair-takes (fixed-settles w f) (ap (λ (x : Cursor). x.at) f.next) i k

option-none : (n : ℕ) → n ≡ 0 → shown option n ≡ 0 ∷ 0 ∷ []
unfolding pick
option-none n i = rw i

option-some : (n : ℕ) → (n ≡ 0 → ⊥) → shown option n ≡ 1 ∷ (n - 1) ∷ []
unfolding pick
option-some n i = rw (ne_eqb _ _ i)

module _ {s : List ℕ} {c : Cursor} {q : Read ℕ} {t t₁ : List ℕ} where
  -- a number of a fixed width and no rule that is not there
  pub fixed-lost : (w : Width) {of : Value → ℕ} {p : Read ℕ} {x : Refusal} → q ≡ Err x → IsErrAnd p (λ y. y ≡ x)
      → Fetches (size w) s c q → NumberOf (leaf (fixed w free)) of s c t p t₁
  fixed-lost w {p = p} e i h = let a = denied-refuses (answers-not e (fixed-not e h)) in rw (handed p i) (refuses_number a)

  module _ {n : ℕ} {d g : Cursor} (r : ReadyAt s c) (e : q ≡ Ok (n, d)) where
    pub long_kept : Fetches 8 s c q → KeptPair d (n % 4294967296) (n / 4294967296) t g t₁
        → NumberOf (leaf (fixed long free)) number s c t (Ok (n, g)) t₁
    long_kept h k = takes_number r (fixed-pair long (fetched e h) refl k)

    pub option-absent : n ≡ 0 → Fetches 4 s c q → KeptPair d 0 0 t g t₁
        → NumberOf (leaf (fixed option free)) number s c t (Ok (n, g)) t₁
    option-absent i h k = takes_number r (fixed-pair option (fetched e h) (option-none n i) k)

    pub option-id : (n ≡ 0 → ⊥) → Fetches 4 s c q → KeptPair d 1 (n - 1) t g t₁
        → NumberOf (leaf (fixed option free)) number s c t (Ok (n, g)) t₁
    option-id i h k = takes_number r (fixed-pair option (fetched e h) (option-some n i) k)

-- texts and payloads
pub data TwoWords : Leaf → Type 0 where
  two-string : {r : Rule} {k : ℕ} {ok : List ℕ → Bool} → TwoWords (string r k ok)
  two-payload : {r : Rule} {k : ℕ} → TwoWords (payload r k)

two-words : {l : Leaf} (p : ℕ) (bs : List ℕ) → TwoWords l → words_leaf l (text p bs) ≡ p ∷ length bs ∷ []
unfolding words_leaf
two-words p bs two-string = refl
two-words p bs two-payload = refl

module _ {l : Leaf} {s : List ℕ} {c : Cursor} {p n : ℕ} {d : Cursor} where
  pub span-takes : {t t₁ : List ℕ} {g : Cursor} → TwoWords l → Spanned l s c p n d → KeptPair d p n t g t₁
      → Takes (leaf l) s c t (text p (part s p n)) g t₁
  span-takes o h k = pair-takes h.settles h.stays (two-words p (part s p n) o ∙ rw (part_length s p n h.room)) k

  pub span-wordy : ReadyAt s c → Spanned l s c p n d → WordyPair d p n
  span-wordy r h =
      record {
        low = omega (arith, h.room, r.small);
        high = omega (arith, h.room, r.small);
        place = omega (arith, h.stays, r.small, r.within, r.behind);
      }

module _ {l : Leaf} {s : List ℕ} {c : Cursor} {q : Read Text} where
  texts-got : {p : Text} {d : Cursor} → q ≡ Ok (p, d) → Texts l s c q → Spanned l s c p.span.start p.span.length d
  texts-got {p} {d} e h = go (rw e at h)
    where
      go : Texts l s c (Ok (p, d)) → Spanned l s c p.span.start p.span.length d
      go (written a i) = a

  texts-not : {x : Refusal} → q ≡ Err x → Texts l s c q → Denied l s c x
  texts-not {x} e h = go (rw e at h)
    where
      go : Texts l s c (Err x) → Denied l s c x
      go (unwritten a) = a

  -- a text as a part of the pack
  pub text-spans : {p : Text} {d : Cursor} → q ≡ Ok (p, d) → Texts l s c q → Spans l s c (Ok (p.span, d))
  text-spans e h = spanned (texts-got e h)

  module _ {t t₁ : List ℕ} {x : Refusal} (e : q ≡ Err x) (h : Texts l s c q) where
    pub text-span-lost : {r : Read Span} → IsErrAnd r (λ y. y ≡ x) → SpanOf (leaf l) s c t r t₁
    text-span-lost {r} i = let a = denied-refuses (texts-not e h) in rw (handed r i) (refuses_span a)

    pub text-lost : {r : Step} → IsErrAnd r (λ y. y ≡ x) → Reader (leaf l) s (Ok c) t r t₁
    text-lost {r} i = let a = denied-refuses (texts-not e h) in rw (handed r i) (refuses_reader a)

-- ---- marks, which stand on the tape as nothing
pub mark-read : {m : List ℕ} {y : ℕ → Wrong} {s : List ℕ} {c : Cursor} {t : List ℕ} {r : Step} → ReadyAt s c
    → Marks (mark m y) s c r → Reader (leaf (mark m y)) s (Ok c) t r t
unfolding trace words words_leaf
mark-read r (marked {d} e i) = takes_reader {v = none} {d = d} r (record { settles = e; moves = i ∙ omega arith; writes = refl })
mark-read r (unmarked h) = refuses_reader (denied-refuses h)
