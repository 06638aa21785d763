-- What salvage keeps: as many bytes as the sound entries have, and never more than there are.
-- Assumes nothing.
use mathlib.Core.List.{List}
use mathlib.Core.Path.{◌≡◌, ap, ◌∙◌}
use Prim.Native.Nat.{ℕ, ◌*◌, ◌/◌, ◌≤◌}
use native.Mathlib.Nat.{mul_comm}
use native.Mathlib.Omega.{arith}
use lib.ListN.{length}
use Rattle.journal.specs.Order.{sound_from, checked_of}
use Rattle.journal.specs.Salvage.{whole_entries, kept_of}
use Rattle.journal.specs.declared.Checked.{Checked}
use Rattle.journal.proofs.Judging.{sound_le}
use Rattle.journal.proofs.Sixteens.{length_entries}

pub kept_inside : (s : List ℕ) → kept_of s ≤ length s
unfolding kept_of
kept_inside s = omega (arith, sound_le 0 (whole_entries s), length_entries (length s / 16) s)

pub kept_is : (s : List ℕ) {checked : Checked} → checked ≡ checked_of (whole_entries s) → checked.sound * 16 ≡ kept_of s
unfolding kept_of checked_of
kept_is s is = ap (λ (c : Checked). c.sound * 16) is ∙ mul_comm (sound_from 0 (whole_entries s)) 16
