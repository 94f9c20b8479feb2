-- Places: they never fall and stay within the file, in every reading.
use Rattle.std.specs.Prelude.{ℕ, suc, zero, ◌+◌, ◌-◌, ◌*◌, ◌≤◌, List, [], ◌∷◌, Bool, true, false, length, T, leb}
use Rattle.std.proofs.Common.{arith, leb→le}
use Rattle.format.specs.Trace.{Wrong, wrong, unexpected_eof, invalid_source_integer, Trace, stop, end, charge, needs, bind, guard, pick, refused, spent, settle}
use Rattle.format.specs.Format.{Ask, pay, deny, Leaf, fixed, mark, packed, string, payload, count, ask, Format, empty, leaf, seq}
use Rattle.format.specs.Reading.{little, part, size, room, field, packed_step, trace_packed, trace_ask, trace_leaf, trace}
use Rattle.format.specs.PlacesRise.{Rising, place_of}

rising-from : {A : Type 0} (p p' e : ℕ) (t : Trace A) → p ≤ p' → Rising p' e t → Rising p e t
unfolding Rising
rising-from p p' e (stop w q) h r = (omega arith, r.1)
rising-from p p' e (end a q) h r = (omega arith, r.1)
rising-from p p' e (charge c n q t) h r = (omega arith, r.1, r.2)
rising-from p p' e (needs n q t) h r = (omega arith, r.1, r.2)

pub rising-bind : {A B : Type 0} (p e : ℕ) (t : Trace A) (k : A → ℕ → Trace B) → Rising p e t
    → ((a : A) (q : ℕ) → p ≤ q → q ≤ e → Rising q e (k a q)) → Rising p e (bind t k)
unfolding Rising bind
rising-bind p e (stop w q) k r h = r
rising-bind p e (end a q) k r h = rising-from p q e (k a q) r.0 (h a q r.0 r.1)
rising-bind p e (charge c n q t) k r h = (r.0, r.1, rising-bind q e t k r.2 (λ a q' i j. h a q' (omega (arith, r.0)) j))
rising-bind p e (needs n q t) k r h = (r.0, r.1, rising-bind q e t k r.2 (λ a q' i j. h a q' (omega (arith, r.0)) j))

pub rising-guard : {A : Type 0} (p e : ℕ) (d : Bool) (w : Wrong) (q : ℕ) (t : Trace A) → p ≤ q → q ≤ e
    → (T d → Rising p e t) → Rising p e (guard d w q t)
unfolding Rising guard
rising-guard p e true w q t h i r = r tt
rising-guard p e false w q t h i r = (h, i)

rising-room : {A : Type 0} (p n : ℕ) (s : List ℕ) (t : Trace A) → p ≤ length s → (n ≤ length s → Rising p (length s) t)
    → Rising p (length s) (room n s p t)
unfolding Rising room
rising-room p n s t h r = rising-guard p (length s) (leb n (length s)) (wrong unexpected_eof 0) p (needs n p t) (omega arith) h (λ d. (omega arith, h, r (leb→le n (length s) d)))

rising-field : {A : Type 0} (p n : ℕ) (s : List ℕ) (k : List ℕ → Trace A) → p ≤ length s
    → (p + n ≤ length s → Rising p (length s) (k (part s p n))) → Rising p (length s) (field n s p k)
unfolding field
rising-field p n s k h r = rising-room p (p + n) s (k (part s p n)) h r

pub rising-end : {A : Type 0} (p e : ℕ) (a : A) (q : ℕ) → p ≤ q → q ≤ e → Rising p e (end a q)
unfolding Rising
rising-end p e a q h i = (h, i)

rising-charge : {A : Type 0} (p e c n q : ℕ) (t : Trace A) → p ≤ q → q ≤ e → Rising q e t → Rising p e (charge c n q t)
unfolding Rising
rising-charge p e c n q t h i r = (h, i, r)

rising_step : (e : ℕ) (d : Bool) (m b p : ℕ) (t : Trace ℕ) → p ≤ e → Rising p e t → Rising p e (packed_step d m b p t)
unfolding packed_step
rising_step e true m b p t h r = rising-guard p e (leb m b) (wrong invalid_source_integer 0) p (end b p) (omega arith) h (λ _. rising-end p e b p (omega arith) h)
rising_step e false m b p t h r = rising-bind p e t (λ n q. end (b - 128 + 128 * n) q) r (λ n q i j. rising-end q e _ q (omega arith) j)

rising-packed : (k m : ℕ) (s : List ℕ) (p : ℕ) → p ≤ length s → Rising p (length s) (trace_packed k m s p)
unfolding trace_packed
rising-packed zero m s p h =
    rising-field p 1 s _ h (λ i. rising-guard p _ _ _ (p + 1) _ (omega arith) i (λ _. rising-guard p _ _ _ (p + 1) _ (omega arith) i (λ _. rising-end p _ _ (p + 1) (omega arith) i)))
rising-packed (suc k) m s p h = rising-field p 1 s _ h (λ i. rising-from p (p + 1) (length s) _ (omega arith) (rising_step (length s) _ m _ (p + 1) _ i (rising-packed k 1 s (p + 1) i)))

rising-ask : (e : ℕ) (l : List Ask) (p : ℕ) → p ≤ e → Rising p e (trace_ask l p)
unfolding trace_ask Rising
rising-ask e [] p h = (omega arith, h)
rising-ask e (pay c n ∷ l) p h = (omega arith, h, rising-ask e l p h)
rising-ask e (deny w ∷ l) p h = (omega arith, h)

rising-leaf : (l : Leaf) (s : List ℕ) (p : ℕ) → p ≤ length s → Rising p (length s) (trace_leaf l s p)
unfolding trace_leaf
rising-leaf (fixed w r) s p h = rising-field p (size w) s _ h (λ i. rising-guard p _ _ _ _ _ (omega arith) i (λ _. rising-end p _ _ _ (omega arith) i))
rising-leaf (mark m y) s p h = rising-field p (length m) s _ h (λ i. rising-guard p _ _ _ _ _ (omega arith) i (λ _. rising-end p _ _ _ (omega arith) i))
rising-leaf packed s p h = rising-bind p (length s) (trace_packed 4 0 s p) _ (rising-packed 4 0 s p h) (λ n q i j. rising-end q _ _ q (omega arith) j)
rising-leaf (string r c ok) s p h =
    rising-field p 4 s _ h (λ i. rising-guard p _ _ _ _ _ (omega arith) i (λ _. rising-from p (p + 4) _ _ (omega arith)
    (rising-field (p + 4) (little (part s p 4)) s _ i (λ j. rising-charge (p + 4) _ _ _ (p + 4 + little (part s p 4)) _ (omega arith) j
    (rising-guard (p + 4 + little (part s p 4)) _ _ _ _ _ (omega arith) j (λ _. rising-end (p + 4 + little (part s p 4)) _ _ _ (omega arith) j))))))
rising-leaf (payload r c) s p h =
    rising-field p 4 s _ h (λ i. rising-guard p _ _ _ _ _ (omega arith) i (λ _. rising-from p (p + 4) _ _ (omega arith)
    (rising-field (p + 4) (little (part s p 4)) s _ i (λ j. rising-charge (p + 4) _ _ _ (p + 4 + little (part s p 4)) _ (omega arith) j
    (rising-end (p + 4 + little (part s p 4)) _ _ _ (omega arith) j)))))
rising-leaf (count r m c z) s p h =
    rising-field p 4 s _ h (λ i. rising-guard p _ _ _ _ _ (omega arith) i (λ _. rising-from p (p + 4) _ _ (omega arith)
    (rising-room (p + 4) _ s _ i (λ j. rising-charge (p + 4) _ _ _ (p + 4) _ (omega arith) i (rising-end (p + 4) _ _ (p + 4) (omega arith) i)))))
rising-leaf (ask l) s p h = rising-ask (length s) l p h

-- Every reading's places rise from where it starts and stay within the file.
pub trace-rising : (f : Format) (s : List ℕ) (p : ℕ) → p ≤ length s → Rising p (length s) (trace f s p)
unfolding trace
trace-rising empty s p h = rising-end p _ _ p (omega arith) h
trace-rising (leaf l) s p h = rising-leaf l s p h
trace-rising (seq f g) s p h =
    rising-bind p (length s) (trace f s p) _ (trace-rising f s p h) (λ v q i j. rising-bind q (length s) (trace (g v) s q) _ (trace-rising (g v) s q j) (λ w r i' j'. rising-end r _ _ r (omega arith) j'))

pub settle-within : {A : Type 0} (p e b : ℕ) (t : Trace A) → Rising p e t
    → (p ≤ place_of (settle b t)) × (place_of (settle b t) ≤ e)
unfolding Rising settle place_of pick
settle-within p e b (stop w q) r = r
settle-within p e b (end a q) r = r
settle-within p e b (charge c n q t) r = go (leb n b) (settle-within q e (b - n) t r.2)
  where
    go : (d : Bool) → (q ≤ place_of (settle (b - n) t)) × (place_of (settle (b - n) t) ≤ e)
        → (p ≤ place_of (pick d (settle (b - n) t) (refused (spent c n b) q b))) × (place_of (pick d (settle (b - n) t) (refused (spent c n b) q b)) ≤ e)
    go true h = (omega (arith, r.0), h.1)
    go false h = (r.0, r.1)
settle-within p e b (needs n q t) r = let h = settle-within q e b t r.2 in (omega (arith, r.0), h.1)
