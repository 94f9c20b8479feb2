-- Packed numbers: what is taken is the canonical encoding of a number below 2 ^ 32, and what a refusal shows.
use Rattle.std.specs.Prelude.{ℕ, suc, zero, ◌+◌, ◌-◌, ◌*◌, ◌^◌, ◌≤◌, ◌<◌, ◌≡◌, refl, List, Bool, true, false, not, ◌↔◌, length, T, leb}
use Rattle.std.proofs.Common.{arith, leb→le}
use Rattle.std.proofs.Math.Dec.{nleb→lt}
use Rattle.format.specs.Trace.{Wrong, wrong, unexpected_eof, invalid_source_integer, Trace, stop, end, bind, guard, needs, stopped, out, Ends}
use Rattle.format.specs.Format.{num, leaf, packed}
use Rattle.format.specs.Reading.{part, room, field, packed_step, trace_packed, trace_leaf, trace}
use Rattle.format.specs.Layout.{groups, Bytes, Valid, bytes, bytes_leaf}
use Rattle.format.specs.LayoutTheorems.{At}
use Rattle.format.proofs.CountsCovered.{closed-packed, layout-iff}
use Rattle.vob24.specs.Leaves.{source_u32}

-- Taken exactly where the bytes begin with the encoding.
pub packed-iff : (s : List ℕ) (p v q : ℕ) → Bytes s → p ≤ length s
    → Ends (trace source_u32 s p) (num v) q ↔ (v < 2 ^ 32) × At s p (groups 4 v) × (q ≡ p + length (groups 4 v))
unfolding Valid bytes bytes_leaf
packed-iff s p v q b h = (
  λ e. let r = (layout-iff (leaf packed) closed-packed s p (num v) q b h).0 e in (omega (arith, r.0.1), r.1, r.2),
  λ r. (layout-iff (leaf packed) closed-packed s p (num v) q b h).1 ((refl, omega (arith, r.0)), r.1, r.2),
)

-- A refusal is 2 at the pack's end, after the last byte taken, or 21 after the byte that is wrong, the fifth at most.
pub data Unpacked (s : List ℕ) (p k : ℕ) (w : Wrong) (q : ℕ) : Type 0 where
  short : w ≡ wrong unexpected_eof 0 → q ≡ length s → Unpacked s p k w q
  bad : w ≡ wrong invalid_source_integer 0 → p < q → q ≤ p + suc k → q ≤ length s → Unpacked s p k w q

bind_stops : {A B : Type 0} (t : Trace A) (h : A → B) {w : Wrong} {q : ℕ}
    → out (bind t (λ a q. end (h a) q)) ≡ stopped w q → out t ≡ stopped w q
unfolding bind out
bind_stops (stop w p) h e = cc
bind_stops (end a p) h e = let no : ◌≡◌ {A = ℕ} 0 1 = cc in absurd (omega arith)
bind_stops (Trace.charge c n p t) h e = bind_stops t h e
bind_stops (needs n p t) h e = bind_stops t h e

-- one byte: there, or 2
byte-stops : (s : List ℕ) (p k : ℕ) (f : List ℕ → Trace ℕ) {w : Wrong} {q : ℕ} → p ≤ length s
    → (p + 1 ≤ length s → out (f (part s p 1)) ≡ stopped w q → Unpacked s p k w q) → out (field 1 s p f) ≡ stopped w q
    → Unpacked s p k w q
unfolding field room guard out
byte-stops s p k f {w} {q} h r e = there (leb (p + 1) (length s)) (leb→le _ _) (nleb→lt _ _) e
  where
    there : (d : Bool) → (T d → p + 1 ≤ length s) → (T (not d) → length s < p + 1)
        → out (guard d (wrong unexpected_eof 0) p (needs (p + 1) p (f (part s p 1)))) ≡ stopped w q → Unpacked s p k w q
    there true i j e = r (i tt) e
    there false i j e = let y = j tt in let x : q ≡ p = cc in short (cc) (omega arith)

-- a question on that byte
guard-stops : (s : List ℕ) (p k : ℕ) (d : Bool) (t : Trace ℕ) {w : Wrong} {q : ℕ} → p + 1 ≤ length s
    → (out t ≡ stopped w q → Unpacked s p k w q) → out (guard d (wrong invalid_source_integer 0) (p + 1) t) ≡ stopped w q
    → Unpacked s p k w q
unfolding guard out
guard-stops s p k true t i r e = r e
guard-stops s p k false t {w} {q} i r e = let x : q ≡ p + 1 = cc in bad (cc) (omega arith) (omega arith) (omega arith)

end-stops : (s : List ℕ) (p k n q' : ℕ) {w : Wrong} {q : ℕ} → out (end n q') ≡ stopped w q → Unpacked s p k w q
unfolding out
end-stops s p k n q' e = let no : ◌≡◌ {A = ℕ} 0 1 = cc in absurd (omega arith)

later : {s : List ℕ} {p k : ℕ} {w : Wrong} {q : ℕ} → Unpacked s (p + 1) k w q → Unpacked s p (suc k) w q
later (short x y) = short x y
later (bad x y z i) = bad x (omega arith) (omega arith) i

step-stops : (s : List ℕ) (p k : ℕ) (d : Bool) (m n : ℕ) (t : Trace ℕ) {w : Wrong} {q : ℕ} → p + 1 ≤ length s
    → (out t ≡ stopped w q → Unpacked s (p + 1) k w q) → out (packed_step d m n (p + 1) t) ≡ stopped w q
    → Unpacked s p (suc k) w q
unfolding packed_step
step-stops s p k true m n t i r e = guard-stops s p (suc k) (leb m n) _ i (end-stops s p (suc k) n (p + 1)) e
step-stops s p k false m n t i r e = later (r (bind_stops t (λ x. n - 128 + 128 * x) e))

stops : (k m : ℕ) (s : List ℕ) (p : ℕ) {w : Wrong} {q : ℕ} → p ≤ length s → out (trace_packed k m s p) ≡ stopped w q
    → Unpacked s p k w q
unfolding trace_packed
stops zero m s p h e = byte-stops s p 0 _ h (λ i. guard-stops s p 0 _ _ i (guard-stops s p 0 _ _ i (end-stops s p 0 _ (p + 1)))) e
stops (suc k) m s p h e = byte-stops s p (suc k) _ h (λ i. step-stops s p k _ m _ (trace_packed k 1 s (p + 1)) i (stops k 1 s (p + 1) i)) e

pub packed-refused : (s : List ℕ) (p : ℕ) {w : Wrong} {q : ℕ} → p ≤ length s → out (trace source_u32 s p) ≡ stopped w q
    → Unpacked s p 4 w q
unfolding trace trace_leaf
packed-refused s p h e = stops 4 0 s p h (bind_stops (trace_packed 4 0 s p) num e)
