-- The receiver's calls under the edition that a number names; a number that names none is refused before every other test, with nothing
-- counted and the state or the watch as it was (02, No. 3).
-- Assumes nothing.
use Rattle.std.specs.Prelude.{ℕ, List, Result, Err}
use Rattle.refusal.specs.Numbers.{number_of}
use Rattle.refusal.specs.declared.Refusal.{Refusal}
use Rattle.record.specs.Editions.{edition_of, under}
use Rattle.receiver.specs.Runs.{refused_run, run_of, fed_of}
use Rattle.receiver.specs.Packed.{run_packed, fed_packed}
use Rattle.receiver.specs.declared.PackedState.{PackedState}
use Rattle.receiver.specs.declared.Ran.{Ran}
use Rattle.receiver.specs.declared.State.{State}
use Rattle.watch.specs.Standing.{why_of}
use Rattle.watch.specs.Watches.{watched_of}
use Rattle.watch.specs.declared.Standing.{Standing}
use Rattle.watch.specs.declared.Watch.{Watch}

abbrev pub run_under : ℕ → State → List ℕ → Ran State
run_under number s bs = under (edition_of number) (λ edition. run_of edition s bs) (λ why. refused_run (number_of why) s)

abbrev pub fed_under : ℕ → State → ℕ → Ran State
fed_under number s b = under (edition_of number) (λ edition. fed_of edition s b) (λ why. refused_run (number_of why) s)

abbrev pub run_packed_under : ℕ → PackedState → List ℕ → Ran PackedState
run_packed_under number p bs = under (edition_of number) (λ edition. run_packed edition p bs) (λ why. refused_run (number_of why) p)

abbrev pub fed_packed_under : ℕ → PackedState → ℕ → Ran PackedState
fed_packed_under number p b = under (edition_of number) (λ edition. fed_packed edition p b) (λ why. refused_run (number_of why) p)

-- a run into a watch (02, No. 11)
abbrev pub watched_under : ℕ → Watch → List ℕ → Ran Watch
watched_under number w bs = under (edition_of number) (λ edition. watched_of edition w bs) (λ why. refused_run (number_of why) w)

-- how the time of a watch stands (02, No. 11)
abbrev pub why_under : ℕ → Watch → Result Standing Refusal
why_under number w = under (edition_of number) (λ edition. why_of edition w) Err
