-- `turned_back` meets its contract. The loop's invariant: turned forth again the rest gives what was left, and nothing that fits in six
-- places gives it with fewer places behind.
-- Assumes nothing.
use mathlib.Core.Path.{◌≡◌}
use Prim.Native.Nat.{ℕ, ◌<◌, ◌≤◌}
use Rattle.block.proofs.Zeros.{up}
use Rattle.mending.proofs.search.turned_back.Given as goal

abbrev pub invariant-loop-behind : goal.invariant-loop-behind
invariant-loop-behind l =
    (up l.behind l.rest ≡ l.left) × (l.rest < 8192) × (0 < l.behind → 32 ≤ l.rest)
    × ((m : ℕ) → m < l.behind → (w : ℕ) → w < 64 → up m w ≡ l.left → ⊥)
