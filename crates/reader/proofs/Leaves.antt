-- The laws of the leaves: what each answer of their codes has to show.
use Rattle.std.specs.Prelude.{Ok, Err}
use Rattle.std.specs.Result.{IsErrAnd}
use Rattle.std.specs.Array.{IsFirstChunk}
use Prim.Native.Nat.{ℕ, ◌+◌, ◌-◌, ◌*◌, ◌^◌, ◌/◌, ◌%◌, ◌≤◌, ◌<◌}
use mathlib.Core.Path.{◌≡◌, refl, sym, ap, ◌∙◌}
use mathlib.Core.List.{List}
use mathlib.Core.Bool.{true, false}
use native.Mathlib.Omega.{arith}
use native.Mathlib.Nat.{mul-le-mul, lt_of_le_of_lt}
use mir.Val.{Fits, to_z}
use mir.Syntax.{w64}
use lib.Dec.{leb, lit<}
use lib.IntN.{ℤ}
use lib.Ieee.{binary64, of_bits}
use lib.Ieee as ieee
use lib.ListN.{length, get_or, take, drop, length-drop}
use lib.Seq.{take_all}
use borrow.Author.Tests.{le-leb, lt-leb, le-ltb, lt-ltb, eq-eqb, ne_eqb}
use Rattle.format.specs.Trace.{wrong, refused, unexpected_eof, end, charge, settle, pick}
use Rattle.format.specs.Format.{num, text, Rule, Width, word, fixed, payload, count}
use Rattle.format.specs.Reading.{little, part, size, trace_leaf}
use Rattle.format.proofs.TraceTheorems.{part_length}
use Rattle.format.proofs.LayoutTheorems.{digits-little}
use Rattle.vob24.specs.Refusals.{invalid_value_kind}
use Rattle.vob24.specs.Leaves.{kind_ok, packed_ok, packed_word}
use Rattle.reader.specs.Contract.{told, ReadyAt, Paid, Step, Read, span_at, bits_of}
use Rattle.reader.specs.Leaves.{Narrow, narrow_byte, narrow_half, narrow_word, past, FetchesBytes, chunk, short_chunk, Fetched, Short, Fetches, there, short, FetchesSigned, signed, short_signed, FetchesFloat, float, short_float, Answered, Denied, Answers, answered, denied, entries_trace, bytes_trace, CountAt, Counted, enough, few, Spans, spanned, unspanned, Bought, bought, unbought}
use Rattle.reader.specs.declared.Cursor.{Cursor}
use Rattle.reader.specs.declared.Refusal.{Refusal}
use Rattle.reader.specs.declared.Span.{Span}
use Rattle.reader.specs.declared.Bits.{Bits}
use Rattle.reader.proofs.Errors.{handed}
use Rattle.reader.proofs.Gather.{read_take, bytes_read}
use Rattle.reader.proofs.Settles.{guard-yes, guard-no, room-yes, room-no, field-yes, field-no, pay-yes, pay-no}
use Rattle.reader.proofs.Paying.{paid-no, paid-yes, paid-spent, paid-bought}

-- ---- fixed widths

pub fetched : {k : ℕ} {s : List ℕ} {c : Cursor} {q : Read ℕ} {n : ℕ} {d : Cursor} → q ≡ Ok (n, d) → Fetches k s c q
    → Fetched k s c n d
fetched {k} {s} {c} {q} {n} {d} e h = go (rw e at h)
  where
    go : Fetches k s c (Ok (n, d)) → Fetched k s c n d
    go (there a) = a

pub shorts : {k : ℕ} {s : List ℕ} {c : Cursor} {q : Read ℕ} {x : Refusal} → q ≡ Err x → Fetches k s c q → Short k s c x
shorts {k} {s} {c} {q} {x} e h = go (rw e at h)
  where
    go : Fetches k s c (Err x) → Short k s c x
    go (short a) = a

pub below : {k : ℕ} {s : List ℕ} {c : Cursor} {n : ℕ} {d : Cursor} → Fetched k s c n d → n < 256 ^ k
below {k} {s} {c} {n} {d} h =
    let e = part_length s c.place k h.room in
    let b = (digits-little (part s c.place k) h.bytes).1 in
    rw h.is (rw e at b)

-- what the code looks at: the pack from c on
abbrev rest : List ℕ → Cursor → List ℕ
rest s c = take (length s - c.place) (drop c.place s)

rest-is : (s : List ℕ) (c : Cursor) → rest s c ≡ drop c.place s
rest-is s c = take_all (length s - c.place) (drop c.place s) (omega (arith, length-drop c.place s))

rest-length : (s : List ℕ) (c : Cursor) → length (rest s c) ≡ length s - c.place
rest-length s c = rw rest-is (length-drop c.place s)

chunk-is : {k : ℕ} (s : List ℕ) {bs : List ℕ} (c : Cursor) → IsFirstChunk (rest s c) bs k → bs ≡ part s c.place k
chunk-is {k} s c h = h.same ∙ ap (take k) (rest-is s c)

module _ {k : ℕ} {s : List ℕ} {c : Cursor} where
  pub chunk-short : {x : Refusal} → ReadyAt s c → length (rest s c) < k → told x ≡ refused (wrong unexpected_eof 0) c.place c.left
      → FetchesBytes k s c (Err x)
  chunk-short r h e = short_chunk (record { room = omega (arith, r.within, rest-length s c); is = e })

  pub chunk-there : {bs : List ℕ} → ReadyAt s c → IsFirstChunk (rest s c) bs k → ((i : ℕ) → get_or s i 0 < 256)
      → FetchesBytes k s c (Ok (bs, past k c))
  chunk-there r h b =
      let i : c.place + k ≤ length s = omega (arith, r.within, rest-length s c, h.enough) in
      let g = read_take k s c.place i in
      chunk (record { room = i; is = chunk-is s c h; bytes = rw g (bytes_read k s c.place b); next = refl })

  -- a number by what it makes of the bytes
  module _ {q : Read (List ℕ)} (h : FetchesBytes k s c q) where
    pub fetch-short : {r : Read ℕ} {x : Refusal} → q ≡ Err x → IsErrAnd r (λ y. y ≡ x) → Fetches k s c r
    fetch-short {r} {x} e i = rw (handed r i) (go (rw e at h))
      where
        go : FetchesBytes k s c (Err x) → Fetches k s c (Err x)
        go (short_chunk a) = short a

    pub fetch-there : {bs : List ℕ} {d : Cursor} {n : ℕ} → q ≡ Ok (bs, d) → (length bs ≡ k → n ≡ little bs)
        → Fetches k s c (Ok (n, d))
    fetch-there {bs} {d} {n} e l = go (rw e at h)
      where
        go : FetchesBytes k s c (Ok (bs, d)) → Fetches k s c (Ok (n, d))
        go (chunk a) = there (record { room = a.room; is = l (ap length a.is ∙ part_length s c.place k a.room) ∙ ap little a.is; bytes = a.bytes; next = a.next })

-- the same eight bytes, signed and as a float
module _ {s : List ℕ} {c : Cursor} {q : Read ℕ} where
  pub signed-got : {n : ℕ} {d : Cursor} {i : ℤ} → q ≡ Ok (n, d) → Fetches 8 s c q → i ≡ to_z w64 n
      → FetchesSigned s c (Ok (bits_of i n, d))
  signed-got e h i = signed (fetched e h) i

  pub signed-not : {r : Read (Bits ℤ)} {x : Refusal} → q ≡ Err x → IsErrAnd r (λ y. y ≡ x) → Fetches 8 s c q
      → FetchesSigned s c r
  signed-not {r} e i h = rw (handed r i) (short_signed (shorts e h))

  pub float_got : {n : ℕ} {d : Cursor} {y : ieee.Float} → q ≡ Ok (n, d) → Fetches 8 s c q → y ≡ of_bits binary64 n
      → FetchesFloat s c (Ok (bits_of y n, d))
  float_got e h i = float (fetched e h) i

  pub float-not : {r : Read (Bits ieee.Float)} {x : Refusal} → q ≡ Err x → IsErrAnd r (λ y. y ≡ x) → Fetches 8 s c q
      → FetchesFloat s c r
  float-not {r} e i h = rw (handed r i) (short_float (shorts e h))

-- past a number of a fixed width
pub past-ready : {k : ℕ} {s : List ℕ} {c d : Cursor} {q : Read ℕ} {n : ℕ} → ReadyAt s c → q ≡ Ok (n, d) → Fetches k s c q
    → ReadyAt s d
past-ready r e h = let f = fetched e h in rw f.next (record { small = r.small; within = f.room; behind = omega (arith, r.behind) })

-- ---- numbers held to a rule

narrow_below : {w : Width} {n : ℕ} → Narrow w → n < 256 ^ size w → n < 4294967296
narrow_below narrow_byte h = omega (arith, h)
narrow_below narrow_half h = omega (arith, h)
narrow_below narrow_word h = omega (arith, h)

module _ {w : Width} {r : Rule} {s : List ℕ} {c : Cursor} {q : Read ℕ} where
  pub fixed-not : {x : Refusal} → q ≡ Err x → Fetches (size w) s c q → Answers (fixed w r) s c q
  unfolding trace_leaf
  fixed-not e h = let k = shorts e h in rw e (denied (record { settles = field-no c.left (size w) s c.place _ k.room ∙ sym k.is }))

  pub fixed-short : {p : Read ℕ} {x : Refusal} → q ≡ Err x → IsErrAnd p (λ y. y ≡ x) → Fetches (size w) s c q
      → Answers (fixed w r) s c p
  fixed-short {p} e i h = rw (handed p i) (rw e at (fixed-not e h))

  module _ {n : ℕ} {d : Cursor} (e : q ≡ Ok (n, d)) (h : Fetches (size w) s c q) where
    fixed-denied : r.test n ≡ false → {x : Refusal} → told x ≡ refused (r.why n) d.place d.left
        → Denied (fixed w r) s c x
    unfolding trace_leaf
    fixed-denied i j = let f = fetched e h in record { settles = field-yes c.left (size w) s c.place _ f.room ∙ rw (← f.is) (guard-no c.left _ _ _ i) ∙ sym (rw f.next at j) }

    fixed-answered : Narrow w → r.test n ≡ true → Answered (fixed w r) s c n d
    unfolding trace_leaf settle
    fixed-answered m i =
        let f = fetched e h in
        rw f.next
        (record {
          settles = field-yes c.left (size w) s c.place _ f.room ∙ rw (← f.is) (guard-yes c.left _ _ _ i);
          word = narrow_below m (below f);
          stays = refl;
        })

    pub fixed_no : {x : Refusal} → r.test n ≡ false → told x ≡ refused (r.why n) d.place d.left
        → Answers (fixed w r) s c (Err x)
    fixed_no i j = denied (fixed-denied i j)

    pub fixed-got : Narrow w → r.test n ≡ true → Answers (fixed w r) s c (Ok (n, d))
    fixed-got m i = answered (fixed-answered m i)

-- packed words
module _ {s : List ℕ} {c d : Cursor} {q : Read ℕ} {n : ℕ} {x : Refusal} (y : ℕ) (e : q ≡ Ok (n, d)) (h : Fetches 4 s c q) where
  pub word-kind : 24 < n % 256 → told x ≡ refused (wrong invalid_value_kind (n % 256)) d.place d.left
      → Answers (fixed word (packed_word y)) s c (Err x)
  unfolding pick
  word-kind b j = let i : kind_ok n ≡ false = lt-leb _ _ b in fixed_no e h (rw i) (j ∙ rw i)

  pub word-id : n % 256 ≤ 24 → 0xffffff ≤ n / 256 → told x ≡ refused (wrong y n) d.place d.left
      → Answers (fixed word (packed_word y)) s c (Err x)
  unfolding pick
  word-id b k j = let i : kind_ok n ≡ true = le-leb _ _ b in fixed_no e h (rw (i, le-ltb _ _ k)) (j ∙ rw i)

pub packed-ok : (n : ℕ) → n % 256 ≤ 24 → n / 256 < 0xffffff → packed_ok n ≡ true
unfolding pick
packed-ok n b k = rw (le-leb _ _ b, lt-ltb _ _ k)

-- the tags in use
pub tag-low : (n : ℕ) → n ≤ 5 → pick (leb n 5) true (pick (leb 9 n) (leb n 18) false) ≡ true
unfolding pick
tag-low n a = rw (le-leb _ _ a)

pub tag-gap : (n : ℕ) → 5 < n → n < 9 → pick (leb n 5) true (pick (leb 9 n) (leb n 18) false) ≡ false
unfolding pick
tag-gap n a b = rw (lt-leb _ _ a, lt-leb _ _ b)

pub tag-above : (n : ℕ) → 5 < n → 9 ≤ n → 18 < n → pick (leb n 5) true (pick (leb 9 n) (leb n 18) false) ≡ false
unfolding pick
tag-above n a b c = rw (lt-leb _ _ a, le-leb _ _ b, lt-leb _ _ c)

pub tag-high : (n : ℕ) → 5 < n → 9 ≤ n → n ≤ 18 → pick (leb n 5) true (pick (leb 9 n) (leb n 18) false) ≡ true
unfolding pick
tag-high n a b c = rw (lt-leb _ _ a, le-leb _ _ b, le-leb _ _ c)

-- ---- counts

pub product-fits : (n z : ℕ) → n < 4294967296 → z < 4294967296 → Fits w64 (n * z)
product-fits n z h k =
    let a : n ≤ 4294967295 = omega arith in
    let b : z ≤ 4294967295 = omega arith in
    record { fits = lt_of_le_of_lt (mul-le-mul a b) (lit< tt) }

entries-there : (b n m k z : ℕ) (s : List ℕ) (p : ℕ) → p ≤ length s → n * m ≤ length s - p
    → settle b (entries_trace s p n m k z) ≡ settle b (charge k (n * z) p (end (num n) p))
unfolding entries_trace
entries-there b n m k z s p r h = room-yes b _ s _ _ (omega arith)

-- what follows the count
module _ {s : List ℕ} {d : Cursor} {n m k z : ℕ} (r : ReadyAt s d) where
  pub counted-few : {x : Refusal} → length s - d.place < n * m
      → told x ≡ refused (wrong unexpected_eof 0) d.place d.left → Counted s d n m k z (Err x)
  unfolding entries_trace
  counted-few h e = few (room-no d.left _ s _ _ (omega (arith, r.within)) ∙ sym e)

  pub counted-got : {p : Step} {g : Cursor} → n * m ≤ length s - d.place → Paid k (n * z) d p → p ≡ Ok g
      → Counted s d n m k z (Ok (n, g))
  unfolding settle
  counted-got h y i =
      let a = paid-bought i y in
      rw a.is (enough {e = record { place = d.place; left = d.left - n * z; at = d.at }} (entries-there d.left n m k z s d.place r.within h ∙ pay-yes d.left k (n * z) d.place (end (num n) d.place) a.rich) refl)

  pub counted-poor : {p : Step} {q : Read ℕ} {x : Refusal} → n * m ≤ length s - d.place → Paid k (n * z) d p → p ≡ Err x
      → IsErrAnd q (λ y. y ≡ x) → Counted s d n m k z q
  counted-poor {q = q} h y i j =
      let a = paid-spent i y in
      rw (handed q j, a.is) (few (entries-there d.left n m k z s d.place r.within h ∙ pay-no d.left k (n * z) d.place (end (num n) d.place) a.poor))

count-leads : (ρ : Rule) (m k z : ℕ) {s : List ℕ} {c d : Cursor} {n : ℕ} → Fetched 4 s c n d → ρ.test n ≡ true
    → settle c.left (trace_leaf (count ρ m k z) s c.place) ≡ settle d.left (entries_trace s d.place n m k z)
unfolding trace_leaf entries_trace
count-leads ρ m k z {s} {c} f i = rw f.next (field-yes c.left 4 s c.place _ f.room ∙ rw (← f.is) (guard-yes c.left _ _ _ i))

module _ {s : List ℕ} {c : Cursor} {q : Read ℕ} {ρ : Rule} {m k z : ℕ} where
  pub count-short : {p : Read ℕ} {x : Refusal} → q ≡ Err x → IsErrAnd p (λ y. y ≡ x) → Fetches 4 s c q
      → Answers (count ρ m k z) s c p
  unfolding trace_leaf
  count-short {p} e i h = let j = shorts e h in rw (handed p i) (denied (record { settles = field-no c.left 4 s c.place _ j.room ∙ sym j.is }))

  module _ {n : ℕ} {d : Cursor} (e : q ≡ Ok (n, d)) (h : Fetches 4 s c q) where
    count-denied : ρ.test n ≡ false → {x : Refusal} → told x ≡ refused (ρ.why n) d.place d.left
        → Denied (count ρ m k z) s c x
    unfolding trace_leaf
    count-denied i j = let f = fetched e h in record { settles = field-yes c.left 4 s c.place _ f.room ∙ rw (← f.is) (guard-no c.left _ _ _ i) ∙ sym (rw f.next at j) }

    pub count_no : {x : Refusal} → ρ.test n ≡ false → told x ≡ refused (ρ.why n) d.place d.left
        → Answers (count ρ m k z) s c (Err x)
    count_no i j = denied (count-denied i j)

    pub count-then : {p : Read ℕ} → ρ.test n ≡ true → Counted s d n m k z p → Answers (count ρ m k z) s c p
    count-then i (few x) = denied (record { settles = count-leads ρ m k z (fetched e h) i ∙ x })
    count-then i (enough x y) = let f = fetched e h in answered (record { settles = count-leads ρ m k z f i ∙ x; word = omega (arith, below f); stays = y ∙ rw f.next })

    pub count-size : {p : Read ℕ} {z' : ℕ} → ρ.test n ≡ true → z' ≡ z → Counted s d n m k z' p
        → Answers (count ρ m k z) s c p
    count-size i j a = count-then i (rw j at a)

pub count-below : {s : List ℕ} {c d : Cursor} {q : Read ℕ} {n m z : ℕ} → ReadyAt s c → q ≡ Ok (n, d) → Fetches 4 s c q
    → m < 4294967296 → z < 4294967296 → CountAt s d n m z
count-below r e h i j = record { ready = past-ready r e h; word = omega (arith, below (fetched e h)); least = i; size = j }

-- a size of the table
pub count_at : {s : List ℕ} {c d : Cursor} {q : Read ℕ} {n m z : ℕ} → ReadyAt s c → q ≡ Ok (n, d) → Fetches 4 s c q
    → m < 4294967296 → z < 65536 → CountAt s d n m z
count_at r e h i j = count-below r e h i (omega arith)

-- ---- payloads

-- what follows the length
module _ {s : List ℕ} {d : Cursor} {n k : ℕ} (r : ReadyAt s d) where
  pub bytes-few : {x : Refusal} → length s - d.place < n → told x ≡ refused (wrong unexpected_eof 0) d.place d.left
      → Bought s d n k (Err x)
  unfolding bytes_trace
  bytes-few h e = unbought (field-no d.left _ s _ _ (omega (arith, r.within)) ∙ sym e)

  module _ {p : Step} (h : n ≤ length s - d.place) (y : Paid k n (record { place = d.place + n; left = d.left; at = d.at }) p) where
    inside : d.place + n ≤ length s
    inside = omega (arith, r.within)

    bytes-there : settle d.left (bytes_trace s d.place n k) ≡ settle d.left (charge k n (d.place + n) (end (text d.place (part s d.place n)) (d.place + n)))
    unfolding bytes_trace
    bytes-there = field-yes d.left _ s _ _ inside

    pub bytes-poor : {q : Read Span} {x : Refusal} → p ≡ Err x → IsErrAnd q (λ y. y ≡ x) → Bought s d n k q
    bytes-poor {q} i j = let a = paid-spent i y in rw (handed q j, a.is) (unbought (bytes-there ∙ pay-no d.left k n (d.place + n) (end (text d.place (part s d.place n)) (d.place + n)) a.poor))

    pub bytes-got : {g : Cursor} → p ≡ Ok g → Bought s d n k (Ok (span_at d.place n, g))
    unfolding settle
    bytes-got i = let a = paid-bought i y in rw a.is (bought {e = record { place = d.place + n; left = d.left - n; at = d.at }} inside (bytes-there ∙ pay-yes d.left k n (d.place + n) (end (text d.place (part s d.place n)) (d.place + n)) a.rich) refl)

payload-leads : (ρ : Rule) (k : ℕ) {s : List ℕ} {c d : Cursor} {n : ℕ} → Fetched 4 s c n d → ρ.test n ≡ true
    → settle c.left (trace_leaf (payload ρ k) s c.place) ≡ settle d.left (bytes_trace s d.place n k)
unfolding trace_leaf bytes_trace
payload-leads ρ k {s} {c} f i = rw f.next (field-yes c.left 4 s c.place _ f.room ∙ rw (← f.is) (guard-yes c.left _ _ _ i))

module _ {s : List ℕ} {c : Cursor} {q : Read ℕ} {ρ : Rule} {k : ℕ} where
  pub payload-short : {p : Read Span} {x : Refusal} → q ≡ Err x → IsErrAnd p (λ y. y ≡ x) → Fetches 4 s c q
      → Spans (payload ρ k) s c p
  unfolding trace_leaf
  payload-short {p} e i h = let j = shorts e h in rw (handed p i) (unspanned (record { settles = field-no c.left 4 s c.place _ j.room ∙ sym j.is }))

  module _ {n : ℕ} {d : Cursor} (e : q ≡ Ok (n, d)) (h : Fetches 4 s c q) where
    payload-denied : ρ.test n ≡ false → {x : Refusal} → told x ≡ refused (ρ.why n) d.place d.left
        → Denied (payload ρ k) s c x
    unfolding trace_leaf
    payload-denied i j = let f = fetched e h in record { settles = field-yes c.left 4 s c.place _ f.room ∙ rw (← f.is) (guard-no c.left _ _ _ i) ∙ sym (rw f.next at j) }

    pub payload-no : {x : Refusal} → ρ.test n ≡ false → told x ≡ refused (ρ.why n) d.place d.left
        → Spans (payload ρ k) s c (Err x)
    payload-no i j = unspanned (payload-denied i j)

    pub payload-then : {p : Read Span} → ρ.test n ≡ true → Bought s d n k p → Spans (payload ρ k) s c p
    payload-then i (unbought x) = unspanned (record { settles = payload-leads ρ k (fetched e h) i ∙ x })
    payload-then i (bought b x y) = let f = fetched e h in spanned (record { settles = payload-leads ρ k f i ∙ x; room = b; stays = y ∙ rw f.next })

pub ruleset leaves = (lt-leb, le-leb, eq-eqb, ne_eqb, signed-got, signed-not, float_got, float-not, past-ready, narrow_byte, narrow_half, narrow_word, fixed-short, fixed_no, fixed-got, word-kind, word-id, packed-ok, tag-low, tag-gap, tag-above, tag-high, product-fits, counted-few, counted-got, counted-poor, count-short, count_no, count-then, count-size, count_at, bytes-few, bytes-poor, bytes-got, payload-short, payload-no, payload-then, paid-no, paid-yes)
