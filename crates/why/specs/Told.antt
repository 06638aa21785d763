-- What is known of the watch and of the line that is printed (02, No. 11). No contract can say which bits are read.
-- Assumes nothing.
use Rattle.std.specs.Prelude.{ℕ, List, ◌≡◌}
use Rattle.block.specs.Bits.{Bits}
use Rattle.record.specs.declared.Edition.{Edition}
use Rattle.watch.specs.declared.Standing.{Standing}
use Rattle.watch.specs.declared.Watch.{Watch}
use Rattle.watch.specs.History.{standing_after}
use Rattle.watch.specs.Watches.{watch_after}

-- from one watch to the other some bits were fed: those of a piece, or none where they would take those fed past 2^64 - 1
pub record FedOn (edition : Edition) (start after : Watch) : Type 0 where
  pub history : List ℕ
  pub bits : Bits history
  pub fed : after ≡ watch_after edition start history

-- what is told is how the time stands by the history of some bits, so it is never a refusal
pub record Told (edition : Edition) (s : Standing) : Type 0 where
  pub history : List ℕ
  pub bits : Bits history
  pub told : s ≡ standing_after edition history
