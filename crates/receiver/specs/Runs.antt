-- A run: the steps of its bits, with their counts added up and the last remainder that they tell (01, "Hunting, trying, locked"; 02,
-- No. 7).
-- Assumes nothing.
use Rattle.std.specs.Prelude.{ℕ, ◌+◌, cond, List, [], ◌∷◌, eqb, ltb, length}
use Rattle.refusal.specs.Numbers.{number_of}
use Rattle.refusal.specs.declared.Refusal.TheVariants.{NotABit, RunTooLong, Improper}
use Rattle.record.specs.declared.Edition.{Edition}
use Rattle.locking.specs.declared.Blocks.{Blocks}
use Rattle.locking.specs.Modes.{blocks_of, no_blocks}
use Rattle.receiver.specs.declared.Ran.{Ran}
use Rattle.receiver.specs.declared.Counts.{Counts}
use Rattle.receiver.specs.declared.State.{State}
use Rattle.receiver.specs.States.{proper_of}
use Rattle.receiver.specs.Steps.{Step, step_of}

-- of two remainders the later one; but 0 tells nothing, and the one told before stays (02, No. 7)
abbrev pub later : ℕ → ℕ → ℕ
later before after = cond (eqb after 0) before after

-- the blocks of two parts of a run, one after the other
abbrev pub plus : Blocks → Blocks → Blocks
plus a b = blocks_of (a.good + b.good) (a.bad + b.bad) (later a.remainder b.remainder)

-- the answer of a run, and the blocks in it
abbrev pub counts_of : ℕ → Blocks → ℕ → ℕ → Counts
counts_of refusal blocks passed waiting =
    record { refusal = refusal; good = blocks.good; bad = blocks.bad; passed = passed; waiting = waiting; remainder = blocks.remainder }

abbrev pub blocks_in : Counts → Blocks
blocks_in c = blocks_of c.good c.bad c.remainder

-- a run that ends here, with how many bits wait
abbrev pub ended : ℕ → Blocks → ℕ → State → Ran State
ended refusal blocks passed s = record { counts = counts_of refusal blocks passed s.waiting; state = s }

-- the bits one after the other, with what was counted before, up to the first that is neither 0 nor 1
unfoldable pub run_from : Edition → List ℕ → Blocks → ℕ → State → Ran State
run_from edition [] blocks passed s = ended 0 blocks passed s
run_from edition (b ∷ bs) blocks passed s =
    let t : Step = step_of edition s b in
    cond (ltb b 2) (run_from edition bs (plus blocks t.blocks) (passed + t.passed) t.next) (ended (number_of NotABit) blocks passed s)

-- refused before any bit is fed: nothing is counted or told, and what it was to run into is as it was
abbrev pub refused_run : {S : Type 0} → ℕ → S → Ran S
refused_run refusal s = record { counts = counts_of refusal no_blocks 0 0; state = s }

-- a run longer than 65,536 gets 9, then a state that is not proper 10
unfoldable pub run_of : Edition → State → List ℕ → Ran State
run_of edition s bs =
    cond (ltb 65536 (length bs)) (refused_run (number_of RunTooLong) s)
    (cond (proper_of edition s) (run_from edition bs no_blocks 0 s) (refused_run (number_of Improper) s))

-- one fed bit: a state that is not proper gets 10, then a bit that is none 1
unfoldable pub fed_of : Edition → State → ℕ → Ran State
fed_of edition s b =
    let t : Step = step_of edition s b in
    cond (proper_of edition s) (cond (ltb b 2) (ended 0 t.blocks t.passed t.next) (ended (number_of NotABit) no_blocks 0 s))
    (refused_run (number_of Improper) s)
