-- Places: they never fall and stay within the file, in every reading.
use Rattle.std.specs.Prelude.{ℕ, ◌≤◌}
use Rattle.format.specs.Trace.{Trace, stop, end, charge, needs, Settled, refused, taken}

-- The places of a trace, from p on: none before its forerunner, none past e.
unfoldable pub Rising : {A : Type 0} → ℕ → ℕ → Trace A → Type 0
Rising p e (stop w q) = (p ≤ q) × (q ≤ e)
Rising p e (end a q) = (p ≤ q) × (q ≤ e)
Rising p e (charge c n q t) = (p ≤ q) × (q ≤ e) × Rising q e t
Rising p e (needs n q t) = (p ≤ q) × (q ≤ e) × Rising q e t

-- The place of an answer.
unfoldable pub place_of : {A : Type 0} → Settled A → ℕ
place_of (refused w p b) = p
place_of (taken a p b) = p
