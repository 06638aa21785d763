-- The conditions can be met: every locked state with nothing waiting and no time meets them, a filler is one of the others, and
-- twenty-nine fillers are a minute without its time block; all of it computes.
-- Assumes nothing.
use Prim.Native.Nat.{ℕ, zero, suc, ◌^◌, ◌≤◌, ◌<◌}
use native.Mathlib.Omega.{arith}
use mathlib.Core.Path.{◌≡◌, refl}
use mathlib.Core.Bool.{true, false}
use mathlib.Core.List.{List}
use borrow.Author.Tests.{le-leb}
use lib.ListN.{replicate, length-replicate}
use Rattle.std.proofs.Common.{is_ok}
use Rattle.block.specs.Bits.{zeros}
use Rattle.block.specs.Block.{Good, block_of}
use Rattle.block.specs.Read.{carried, read_of}
use Rattle.block.proofs.RoundTrip.{written_good, read_back}
use Rattle.record.specs.declared.Edition.{Edition}
use Rattle.record.specs.declared.Edition.TheVariants.{Of1984, Of1982}
use Rattle.record.specs.Editions.{filler}
use Rattle.record.proofs.OneOfThree.{filler_refused, sent_filler}
use Rattle.timekeeping.specs.Proper.{is_zero_record, is_no_time, time_proper}
use Rattle.timekeeping.specs.Times.{no_time, usable_in}
use Rattle.locking.specs.Locks.{locked, lock_of, lock_proper}
use Rattle.locking.specs.Modes.{is_good}
use Rattle.receiver.specs.States.{state_of, bits_proper, proper_of}
use Rattle.journey.specs.Journey.{Other, Each, Quiet, Idle}

repeated : (P : List ℕ → Type 0) (n : ℕ) (w : List ℕ) → P w → Each P (replicate n w)
repeated P zero w p = tt
repeated P (suc n) w p = (p, repeated P n w p)

unusable : (edition : Edition) → is_ok (usable_in edition (carried 0 (filler edition))) ≡ false
unfolding usable_in
unusable edition = rw (filler_refused edition (filler edition) (sent_filler edition))

pub in_word : (edition : Edition) → filler edition < 2 ^ 32
in_word Of1984 = omega arith
in_word Of1982 = omega arith

module _ (edition : Edition) where
  pub idle : (bad : ℕ) → bad ≤ 3 → Idle edition (state_of (lock_of locked 0 bad no_time) 0 (zeros 50))
  unfolding proper_of bits_proper lock_proper time_proper is_no_time is_zero_record
  idle bad h = record { places = refl; proper = rw (le-leb bad 3 h); is_locked = refl; none_waits = refl; holds_none = refl }

  abbrev sent : List ℕ
  sent = block_of 0 (filler edition)

  filler_read : read_of sent ≡ carried 0 (filler edition)
  filler_read = read_back 0 (filler edition) (omega arith) (in_word edition)

  filler_other : Other edition sent
  filler_other =
      let g : Good sent = written_good 0 (filler edition) in
      record { size = g.size; bits = g.bits; unusable = rw filler_read (unusable edition) }

  pub quiet : Quiet edition (replicate 29 sent)
  quiet =
      record {
        count = length-replicate 29 sent;
        others = repeated (Other edition) 29 sent filler_other;
        good = repeated (λ w. is_good (read_of w) ≡ true) 29 sent (rw filler_read);
      }
