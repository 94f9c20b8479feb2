-- Request 1: what is answered to a pack that claims host calls, beside the base's answer; and that every other answer is
-- the base's, under all settings.
use Rattle.std.specs.Prelude.{ℕ, zero, suc, ◌+◌, ◌-◌, ◌*◌, ◌≤◌, ◌<◌, ◌≡◌, List, Bool, not, T, leb, eqb}
use Rattle.std.proofs.Math.Path.{refl, ap, sym}
use Rattle.std.proofs.Common.{◌∙◌, arith, leb→le, le→leb, eqb→eq}
use Rattle.std.proofs.Math.Bool.{true, false}
use Rattle.std.proofs.Math.ListN.{length}
use Rattle.std.proofs.Math.Dec.{nleb→lt}
use Rattle.format.specs.Trace.{Wrong, wrong, unexpected_eof, Trace, end, bind, guard, sum, pick, Settled, refused, taken, spent, settle}
use Rattle.format.specs.Format.{Value, none, num, pair, number, first, second, Rule, Leaf, count, Format, empty, leaf, seq, ◌▸◌, items, counted}
use Rattle.format.specs.Reading.{little, part, trace_ask, trace_leaf, trace}
use Rattle.format.specs.Record.{words_leaf, words}
use Rattle.format.specs.Layout.{Valid}
use Rattle.format.specs.SettleTheorems.{then_s, settle-bind}
use Rattle.format.proofs.TraceTheorems.{guard-true, settle-seq}
use Rattle.vob24.specs.Refusals
use Rattle.vob24.specs.Settings as of
use Rattle.vob24.specs.Settings.{Settings, size_of, max_pack_bytes, starting_budget}
use Rattle.vob24.specs.Leaves.{free}
use Rattle.vob24.specs.Questions.{refuse_unless, no_host_calls}
use Rattle.vob24.specs.Grammar.{name, structs, interfaces, named_types, itabs, runtime_types, well_known, constants, globals, functions, externs, entry, island_init, artifacts, files, function_locations, inline_sources, section, after_functions, sections, magic, version, pack}
use Rattle.vob24.specs.Cost.{section_cost, part_of}
use Rattle.vob24.specs.Calls.{Refused, Outcome, too_large, closing, whole_trace, section_trace, read_outcome, section_outcome, Found, Not, looking, find_outcome}
use Rattle.vob24_theorems.specs.PackLayout.{no-externs}
use Rattle.vob24_theorems.specs.PartTheorems.{onward, joined, turned, Alike, alike-seq, fore-alike, Stops, stops-seq, fore-stops, pick_yes, pick_no, count_cut, count-settled}

-- "extern count 0? 25 HostCalls (d1), before that list's other questions": the base, which stands here only.
abbrev base_rule : Rule
base_rule = record { test = λ n. eqb n 0; why = λ n. wrong Refusals.host_calls n }

abbrev pub base_externs : Format
base_externs = leaf (count base_rule 1 Refusals.vector 0)

-- What is answered to n externs of this size, whose count ends at p, in a file of e bytes with l of the budget left, and
-- what it leaves. "The bytes-left question now comes first, the budget second, HostCalls third."
pub data Claims (size n p e l : ℕ) : Wrong → ℕ → Type 0 where
  -- "a count above the bytes left was 25 and is 2"
  cut : e < p + n → Claims size n p e l (wrong Refusals.unexpected_eof 0) l
  -- "a count within them whose charge can't be paid was 25 and is 5"
  unpaid : p + n ≤ e → l < n * size → Claims size n p e l (spent Refusals.vector (n * size) l) l
  -- "A pack still refused with 25 now shows the budget left after that charge."
  calls : p + n ≤ e → n * size ≤ l → Claims size n p e l (wrong Refusals.host_calls n) (l - n * size)

-- one of the three
pub some-claim : (size n p e l : ℕ) → (w : Wrong) × (m : ℕ) × Claims size n p e l w m
some-claim size n p e l = go (leb (p + n) e) (leb (n * size) l) (leb→le (p + n) e) (nleb→lt (p + n) e) (leb→le (n * size) l) (nleb→lt (n * size) l)
  where
    go : (d f : Bool) → (T d → p + n ≤ e) → (T (not d) → e < p + n) → (T f → n * size ≤ l) → (T (not f) → l < n * size)
        → (w : Wrong) × (m : ℕ) × Claims size n p e l w m
    go true true a b c d = (_, _, calls (a tt) (c tt))
    go true false a b c d = (_, _, unpaid (a tt) (d tt))
    go false f a b c d = (_, _, cut (b tt))

module _ (set : Settings) (k : ℕ) (s : List ℕ) (p b : ℕ) where
  abbrev size : ℕ
  size = size_of set of.ExternDef

  abbrev n : ℕ
  n = little (part s p 4)

  abbrev asks : Value → Format
  asks v = leaf (Leaf.ask (no_host_calls (number v)))

  -- the section: taken with no externs, else refused so
  externs-settled : p + 4 ≤ length s
      → settle b (trace (section set k externs) s p) ≡ pick (leb (p + 4 + n * 1) (length s)) (pick (leb (n * size) b) (pick (eqb n 0) (taken (pair (num n) none) (p + 4) (b - n * size)) (refused (wrong Refusals.host_calls n) (p + 4) (b - n * size))) (refused (spent Refusals.vector (n * size) b) (p + 4) b)) (refused (wrong unexpected_eof 0) (p + 4) b)
  unfolding section trace trace_leaf trace_ask settle then_s pick
  externs-settled h =
      settle-seq b (leaf (count free 1 Refusals.vector size)) asks s p
      ∙ ap (λ r. then_s r (onward s asks)) (count-settled free 1 Refusals.vector size s p b h)
      ∙ go (leb (p + 4 + n * 1) (length s)) (leb (n * size) b)
    where
      asked : (d : Bool) (l : ℕ)
          → then_s (settle l (trace (leaf (Leaf.ask (refuse_unless d (wrong Refusals.host_calls n)))) s (p + 4))) (joined (num n)) ≡ pick d (taken (pair (num n) none) (p + 4) l) (refused (wrong Refusals.host_calls n) (p + 4) l)
      asked true l = refl
      asked false l = refl

      go : (d e : Bool)
          → then_s (pick d (pick e (taken (num n) (p + 4) (b - n * size)) (refused (spent Refusals.vector (n * size) b) (p + 4) b)) (refused (wrong unexpected_eof 0) (p + 4) b)) (onward s asks) ≡ pick d (pick e (pick (eqb n 0) (taken (pair (num n) none) (p + 4) (b - n * size)) (refused (wrong Refusals.host_calls n) (p + 4) (b - n * size))) (refused (spent Refusals.vector (n * size) b) (p + 4) b)) (refused (wrong unexpected_eof 0) (p + 4) b)
      go true true = asked (eqb n 0) (b - n * size)
      go true false = refl
      go false e = refl

  -- a count that is not 0
  externs-claimed : p + 4 ≤ length s → 1 ≤ n → {w : Wrong} {m : ℕ} → Claims size n (p + 4) (length s) b w m
      → settle b (trace (section set k externs) s p) ≡ refused w (p + 4) m
  externs-claimed h i (cut j) = externs-settled h ∙ pick_no (leb (p + 4 + n * 1) (length s)) _ _ (λ t. let y = leb→le (p + 4 + n * 1) (length s) t in omega arith)
  externs-claimed h i (unpaid j l) =
      externs-settled h
      ∙ pick_yes (leb (p + 4 + n * 1) (length s)) _ _ (le→leb (p + 4 + n * 1) (length s) (omega arith))
      ∙ pick_no (leb (n * size) b) _ _ (λ t. let y = leb→le (n * size) b t in omega arith)
  externs-claimed h i (calls j l) =
      externs-settled h
      ∙ pick_yes (leb (p + 4 + n * 1) (length s)) _ _ (le→leb (p + 4 + n * 1) (length s) (omega arith))
      ∙ pick_yes (leb (n * size) b) _ _ (le→leb (n * size) b l)
      ∙ pick_no (eqb n 0) _ _ (λ t. let y = eqb→eq n 0 t in omega arith)

  base-claimed : p + 4 ≤ length s → 1 ≤ n
      → settle b (trace base_externs s p) ≡ refused (wrong Refusals.host_calls n) (p + 4) b
  base-claimed h i = count-settled base_rule 1 Refusals.vector 0 s p b h ∙ pick_no (eqb n 0) _ _ (λ t. let y = eqb→eq n 0 t in omega arith)

  -- no count, or a count of 0
  externs-alike : (p + 4 ≤ length s → n ≡ 0)
      → settle b (trace base_externs s p) ≡ turned first (settle b (trace (section set k externs) s p))
  unfolding section then_s pick
  externs-alike h = go (leb (p + 4) (length s)) (leb→le (p + 4) (length s)) (nleb→lt (p + 4) (length s))
    where
      short : length s < p + 4 → settle b (trace (section set k externs) s p) ≡ refused (wrong unexpected_eof 0) p b
      short i =
          settle-seq b (leaf (count free 1 Refusals.vector size)) asks s p
          ∙ ap (λ r. then_s r (onward s asks)) (count_cut free 1 Refusals.vector size s p b i)

      zeros : (n x y : ℕ) → n ≡ 0 → x ≡ 0 → y ≡ 0 → (d : Bool)
          → pick (eqb n 0) (pick d (pick (leb y b) (taken (num n) (p + 4) (b - y)) (refused (spent Refusals.vector y b) (p + 4) b)) (refused (wrong unexpected_eof 0) (p + 4) b)) (refused (wrong Refusals.host_calls n) (p + 4) b) ≡ turned first (pick d (pick (leb x b) (pick (eqb n 0) (taken (pair (num n) none) (p + 4) (b - x)) (refused (wrong Refusals.host_calls n) (p + 4) (b - x))) (refused (spent Refusals.vector x b) (p + 4) b)) (refused (wrong unexpected_eof 0) (p + 4) b))
      zeros n x y e f g d = rw (e, f, g) (by d (leb 0 b))
        where
          by : (d e : Bool)
              → pick d (pick e (taken (num 0) (p + 4) (b - 0)) (refused (spent Refusals.vector 0 b) (p + 4) b)) (refused (wrong unexpected_eof 0) (p + 4) b) ≡ turned first (pick d (pick e (taken (pair (num 0) none) (p + 4) (b - 0)) (refused (spent Refusals.vector 0 b) (p + 4) b)) (refused (wrong unexpected_eof 0) (p + 4) b))
          by true true = refl
          by true false = refl
          by false e = refl

      go : (d : Bool) → (T d → p + 4 ≤ length s) → (T (not d) → length s < p + 4)
          → settle b (trace base_externs s p) ≡ turned first (settle b (trace (section set k externs) s p))
      go true i j =
          let e = h (i tt) in
          count-settled base_rule 1 Refusals.vector 0 s p b (i tt) ∙ zeros n (n * size) (n * 0) e (rw e (omega arith)) (omega arith) (leb (p + 4 + n * 1) (length s)) ∙ ap (turned first) (sym (externs-settled (i tt)))
      go false i j = count_cut base_rule 1 Refusals.vector 0 s p b (j tt) ∙ ap (turned first) (sym (short (j tt)))

-- In a pack that is taken the externs cost nothing.
pub externs-cost : (set : Settings) (k : ℕ) (v : Value) (p : ℕ) → Valid (section set k externs) v p
    → section_cost set externs v ≡ 0
unfolding section section_cost Valid items sum
externs-cost set k v p h = let none : counted v ≡ 0 = no-externs (counted v) h.2.1 in rw none (omega arith)

-- ---- the pack

-- The part of a value after the first k, turned.
abbrev turned_at : ℕ → (Value → Value) → Value → Value
turned_at zero h v = h v
turned_at (suc k) h v = pair (first v) (turned_at k h (second v))

-- The base's value: the extern count alone, with no question after it; from the externs on, and of a pack.
abbrev base_from : Value → Value
base_from v = pair (first (first v)) (second v)

abbrev base_value : Value → Value
base_value = turned_at 12 base_from

module _ (set : Settings) where
  -- A pack with this after its functions, by their number.
  abbrev pack_with : (ℕ → Format) → Format
  pack_with rest =
      magic ▸ version ▸ section set 0 name ▸ section set 0 structs ▸ section set 0 interfaces ▸ section set 0 named_types ▸ section set 0 itabs ▸ section set 0 runtime_types
      ▸ section set 0 well_known ▸ section set 0 constants ▸ section set 0 globals
      ▸ seq (section set 0 functions) (λ v. rest (counted v))

  abbrev after_externs : ℕ → Format
  after_externs n =
      section set n entry ▸ section set n island_init ▸ section set n artifacts ▸ section set n files ▸ section set n function_locations
      ▸ section set n inline_sources

  abbrev pub base_pack : Format
  base_pack = pack_with (λ n. base_externs ▸ after_externs n)

  -- magic to functions
  abbrev pub before_externs : Format
  before_externs = pack_with (λ _. empty)

  -- The call on a file of this format: the questions of 1 and 24 around it.
  abbrev last : List ℕ → Value → ℕ → Trace Value
  last s v q = guard (eqb q (length s)) (wrong Refusals.trailing_bytes (length s - q)) q (end v q)

  abbrev calling : Format → List ℕ → Trace Value
  calling f s = guard (leb (length s) max_pack_bytes) (too_large (length s)) 0 (bind (trace f s 0) (last s))

  -- the base's calls
  abbrev pub base_read : List ℕ → ℕ → List ℕ → Outcome
  base_read s b t = closing base_pack 0 b t (settle b (calling base_pack s))

  abbrev pub base_find : List ℕ → List ℕ → Found
  base_find s x = looking x (settle starting_budget (calling base_pack s))

  -- The reading comes to the extern count, at the place q with l of the budget left, and it is n.
  pub record Counts (s : List ℕ) (b q l n : ℕ) : Type 0 where
    pub small : length s ≤ max_pack_bytes
    pub value : Value
    pub comes : settle b (trace before_externs s 0) ≡ taken value q l
    pub there : q + 4 ≤ length s
    pub is : little (part s q 4) ≡ n

  -- the extern count that the reading comes to, if it comes to one, is 0
  abbrev NoExterns : List ℕ → ℕ → Type 0
  NoExterns s q = q + 4 ≤ length s → little (part s q 4) ≡ 0

  next : {s : List ℕ} {f g g' c : Format} (k : ℕ) → Alike s (NoExterns s) g g' c (turned_at k base_from)
      → Alike s (NoExterns s) (f ▸ g) (f ▸ g') (f ▸ c) (turned_at (suc k) base_from)
  next {s} {f} {g} {g'} {c} k a = alike-seq s (NoExterns s) f (λ _. g) (λ _. g') (λ _. c) (turned_at k base_from) (λ _. a)

  from-externs : (s : List ℕ) (k : ℕ)
      → Alike s (NoExterns s) (section set k externs ▸ after_externs k) (base_externs ▸ after_externs k) empty base_from
  unfolding trace settle
  from-externs s k = record { same = λ b p c. fore-alike s (section set k externs) base_externs (after_externs k) first b p (externs-alike set k s p b (c none p b refl)) }

  pack-alike : (s : List ℕ) → Alike s (NoExterns s) (pack set) base_pack before_externs base_value
  unfolding pack sections after_functions
  pack-alike s =
      next 11 (next 10 (next 9 (next 8 (next 7 (next 6 (next 5 (next 4 (next 3 (next 2 (next 1
      (alike-seq s (NoExterns s) (section set 0 functions) _ _ _ base_from (λ v. from-externs s (counted v)))))))))))))

  next-stops : {s : List ℕ} {q l : ℕ} {f g c : Format} {w : Wrong} {x m : ℕ} → Stops s q l g c w x m
      → Stops s q l (f ▸ g) (f ▸ c) w x m
  next-stops {s} {q} {l} {f} {g} {c} {w} {x} {m} a = stops-seq s q l f (λ _. g) (λ _. c) w x m (λ _. a)

  here-stops : (s : List ℕ) (q l : ℕ) (f : Format) (w : Wrong) (x m : ℕ) → settle l (trace f s q) ≡ refused w x m
      → Stops s q l f empty w x m
  unfolding trace settle
  here-stops s q l f w x m h = record { stops = λ b p {v} e. let y : p ≡ q = cc in let z : b ≡ l = cc in rw (y, z) h }

  pack-stops : (s : List ℕ) (q l : ℕ) (rest : ℕ → Format) (w : Wrong) (x m : ℕ)
      → ((k : ℕ) → settle l (trace (rest k) s q) ≡ refused w x m) → Stops s q l (pack_with rest) before_externs w x m
  pack-stops s q l rest w x m h =
      next-stops (next-stops (next-stops (next-stops (next-stops (next-stops (next-stops (next-stops (next-stops (next-stops (next-stops
      (stops-seq s q l (section set 0 functions) (λ v. rest (counted v)) (λ _. empty) w x m (λ v. here-stops s q l (rest (counted v)) w x m (h (counted v))))))))))))))

  -- the questions of 1 and 24

  calling-alike : (s : List ℕ) (b : ℕ) → ((q l n : ℕ) → Counts s b q l n → n ≡ 0)
      → settle b (calling base_pack s) ≡ turned base_value (settle b (whole_trace set s))
  unfolding whole_trace settle guard then_s
  calling-alike s b h = go (leb (length s) max_pack_bytes) (leb→le (length s) max_pack_bytes)
    where
      ends : (d : Bool) (v : Value) (q l : ℕ)
          → settle l (guard d (wrong Refusals.trailing_bytes (length s - q)) q (end (base_value v) q)) ≡ turned base_value (settle l (guard d (wrong Refusals.trailing_bytes (length s - q)) q (end v q)))
      ends true v q l = refl
      ends false v q l = refl

      then : (r : Settled Value)
          → then_s (turned base_value r) (λ v q l. settle l (last s v q)) ≡ turned base_value (then_s r (λ v q l. settle l (last s v q)))
      then (refused w q l) = refl
      then (taken v q l) = ends (eqb q (length s)) v q l

      go : (d : Bool) → (T d → length s ≤ max_pack_bytes)
          → settle b (guard d (too_large (length s)) 0 (bind (trace base_pack s 0) (last s))) ≡ turned base_value (settle b (guard d (too_large (length s)) 0 (bind (trace (pack set) s 0) (last s))))
      go true small =
          settle-bind b (trace base_pack s 0) (last s)
          ∙ ap (λ r. then_s r (λ v q l. settle l (last s v q))) ((pack-alike s).same b 0 (λ v q l e i. h q l _ (record { small = small tt; value = v; comes = e; there = i; is = refl })))
          ∙ then (settle b (trace (pack set) s 0))
          ∙ ap (turned base_value) (sym (settle-bind b (trace (pack set) s 0) (last s)))
      go false small = refl

  calling-stops : (s : List ℕ) (b : ℕ) (f : Format) (w : Wrong) (x m : ℕ) → length s ≤ max_pack_bytes
      → settle b (trace f s 0) ≡ refused w x m → settle b (calling f s) ≡ refused w x m
  unfolding then_s
  calling-stops s b f w x m small e = ap (settle b) (guard-true (leb (length s) max_pack_bytes) _ 0 _ (le→leb (length s) max_pack_bytes small)) ∙ settle-bind b (trace f s 0) (last s) ∙ ap (λ r. then_s r (λ v q l. settle l (last s v q))) e

  -- a count that is not 0
  calling-claims : (s : List ℕ) (b : ℕ) {q l n : ℕ} → Counts s b q l n → 1 ≤ n → {w : Wrong} {m : ℕ}
      → Claims (size_of set of.ExternDef) n (q + 4) (length s) l w m
      → settle b (whole_trace set s) ≡ refused w (q + 4) m
  unfolding whole_trace pack sections after_functions
  calling-claims s b {q} {l} {n} c i {w} {m} h =
      let e : little (part s q 4) ≡ n = c.is in
      let now : (k : ℕ) → settle l (trace (section set k externs) s q) ≡ refused w (q + 4) m = λ k. externs-claimed set k s q l c.there (rw e i) (rw e h) in
      calling-stops s b (pack set) w (q + 4) m c.small ((pack-stops s q l (λ k. section set k externs ▸ after_externs k) w (q + 4) m (λ k. fore-stops s (section set k externs) (after_externs k) w (q + 4) m l q (now k))).stops b 0 c.comes)

  base-claims : (s : List ℕ) (b : ℕ) {q l n : ℕ} → Counts s b q l n → 1 ≤ n
      → settle b (calling base_pack s) ≡ refused (wrong Refusals.host_calls n) (q + 4) l
  base-claims s b {q} {l} {n} c i =
      let e : little (part s q 4) ≡ n = c.is in
      let now : settle l (trace base_externs s q) ≡ refused (wrong Refusals.host_calls n) (q + 4) l = base-claimed set 0 s q l c.there (rw e i) ∙ rw e in
      calling-stops s b base_pack (wrong Refusals.host_calls n) (q + 4) l c.small ((pack-stops s q l (λ k. base_externs ▸ after_externs k) (wrong Refusals.host_calls n) (q + 4) l (λ k. fore-stops s base_externs (after_externs k) (wrong Refusals.host_calls n) (q + 4) l l q now)).stops b 0 c.comes)

  module _ (s : List ℕ) (b : ℕ) where
    -- "Old answers that change": where the reading comes to a count that is not 0. The base's answer was 25, with the
    -- budget before the charge.
    pub read-claims : {q l n : ℕ} → Counts s b q l n → 1 ≤ n → {w : Wrong} {m : ℕ}
        → Claims (size_of set of.ExternDef) n (q + 4) (length s) l w m → (t : List ℕ)
        → (read_outcome set s b t ≡ record { answer = Refused w (q + 4) m; tape = t }) × (base_read s b t ≡ record { answer = Refused (wrong Refusals.host_calls n) (q + 4) l; tape = t })
    unfolding read_outcome
    read-claims c i h t = (ap (closing (pack set) 0 b t) (calling-claims s b c i h), ap (closing base_pack 0 b t) (base-claims s b c i))

    -- "All other answers are as before": where the reading does not come to an extern count, or the count is 0.
    pub read-as-before : ((q l n : ℕ) → Counts s b q l n → n ≡ 0) → (t : List ℕ)
        → read_outcome set s b t ≡ base_read s b t
    unfolding read_outcome words words_leaf section pack sections after_functions
    read-as-before h t = sym (ap (closing base_pack 0 b t) (calling-alike s b h) ∙ go (settle b (whole_trace set s)))
      where
        go : (r : Settled Value) → closing base_pack 0 b t (turned base_value r) ≡ closing (pack set) 0 b t r
        go (refused w q l) = refl
        go (taken v q l) = refl

  -- The lookup, which rereads the pack under the Rust's budget.
  pub find-claims : (s x : List ℕ) {q l n : ℕ} → Counts s starting_budget q l n → 1 ≤ n → {w : Wrong} {m : ℕ}
      → Claims (size_of set of.ExternDef) n (q + 4) (length s) l w m
      → (find_outcome set s x ≡ Not w (q + 4) m) × (base_find s x ≡ Not (wrong Refusals.host_calls n) (q + 4) l)
  unfolding find_outcome
  find-claims s x c i h = (ap (looking x) (calling-claims s starting_budget c i h), ap (looking x) (base-claims s starting_budget c i))

  pub find-as-before : (s x : List ℕ) → ((q l n : ℕ) → Counts s starting_budget q l n → n ≡ 0)
      → find_outcome set s x ≡ base_find s x
  unfolding find_outcome part_of
  find-as-before s x h = sym (ap (looking x) (calling-alike s starting_budget h) ∙ go (settle starting_budget (whole_trace set s)))
    where
      go : (r : Settled Value) → looking x (turned base_value r) ≡ looking x r
      go (refused w q l) = refl
      go (taken v q l) = refl

  -- ---- the call on the section

  abbrev pub base_section : List ℕ → ℕ → ℕ → List ℕ → Outcome
  base_section s p b t =
      closing base_externs p b t
      (settle b (guard (leb (length s) max_pack_bytes) (too_large (length s)) p (guard (leb p (length s)) (wrong Refusals.unexpected_eof 0) p (trace base_externs s p))))

  module _ (k : ℕ) (s : List ℕ) (p b : ℕ) (t : List ℕ) where
    -- the questions of 1 and of a place past the end
    abbrev asked : Trace Value → Trace Value
    asked r = guard (leb (length s) max_pack_bytes) (too_large (length s)) p (guard (leb p (length s)) (wrong Refusals.unexpected_eof 0) p r)

    passed : (r : Trace Value) → length s ≤ max_pack_bytes → p + 4 ≤ length s → asked r ≡ r
    passed r small there =
        guard-true (leb (length s) max_pack_bytes) _ p _ (le→leb (length s) max_pack_bytes small)
        ∙ guard-true (leb p (length s)) _ p r (le→leb p (length s) (omega arith))

    pub section-claims : length s ≤ max_pack_bytes → p + 4 ≤ length s → {n : ℕ} → little (part s p 4) ≡ n → 1 ≤ n
        → {w : Wrong} {m : ℕ} → Claims (size_of set of.ExternDef) n (p + 4) (length s) b w m
        → (section_outcome set k externs s p b t ≡ record { answer = Refused w (p + 4) m; tape = t }) × (base_section s p b t ≡ record { answer = Refused (wrong Refusals.host_calls n) (p + 4) b; tape = t })
    unfolding section_outcome section_trace
    section-claims small there {n} e i {w} {m} h =
        let base : settle b (trace base_externs s p) ≡ refused (wrong Refusals.host_calls n) (p + 4) b = base-claimed set k s p b there (rw e i) ∙ rw e in (
          ap (λ r. closing (section set k externs) p b t (settle b r)) (passed (trace (section set k externs) s p) small there) ∙ ap (closing (section set k externs) p b t) (externs-claimed set k s p b there (rw e i) (rw e h)),
          ap (λ r. closing base_externs p b t (settle b r)) (passed (trace base_externs s p) small there) ∙ ap (closing base_externs p b t) base,
        )

    pub section-as-before : (length s ≤ max_pack_bytes → p + 4 ≤ length s → little (part s p 4) ≡ 0)
        → section_outcome set k externs s p b t ≡ base_section s p b t
    unfolding section_outcome section_trace guard settle section words words_leaf
    section-as-before h = sym (ap (closing base_externs p b t) (go (leb (length s) max_pack_bytes) (leb p (length s)) (leb→le (length s) max_pack_bytes)) ∙ shown (settle b (asked (trace (section set k externs) s p))))
      where
        go : (d e : Bool) → (T d → length s ≤ max_pack_bytes)
            → settle b (guard d (too_large (length s)) p (guard e (wrong Refusals.unexpected_eof 0) p (trace base_externs s p))) ≡ turned first (settle b (guard d (too_large (length s)) p (guard e (wrong Refusals.unexpected_eof 0) p (trace (section set k externs) s p))))
        go true true small = externs-alike set k s p b (h (small tt))
        go true false small = refl
        go false e small = refl

        shown : (r : Settled Value) → closing base_externs p b t (turned first r) ≡ closing (section set k externs) p b t r
        shown (refused w q l) = refl
        shown (taken v q l) = refl
