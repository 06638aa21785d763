-- `read_frame` meets its contract: each return is the answer of the tests that led there.
-- Assumes nothing.
use Rattle.std.proofs.Common.{◌≡◌, ℕ, ◌^◌, ◌<◌, List, length, take, drop, arith}
use Rattle.big_endian.specs.Bytes.{Told}
use Rattle.big_endian.specs.Digits.{number}
use Rattle.big_endian.proofs.Bytes.{told_part}
use Rattle.polish.specs.Frame.{body_in, checks_in}
use Rattle.polish.specs.Read.{size, fixed, behind}
use Rattle.polish.proofs.Start.{start_right, start_wrong}
use Rattle.polish.proofs.read_frame.Goals as goal
use Rattle.polish.proofs.read_frame.Goals.{then-ne-via-then-ne, then-ne-via-else-ne+then-frame-ne5}

-- the two numbers that are behind the fixed bits
module _ (frame : List ℕ) (size : length frame ≡ 12) where
  body_told : {n : ℕ} → Told (take 5 (drop 3 frame)) n → (n ≡ number 8 (take 5 (drop 3 frame))) × (n < 2 ^ 40)
  body_told told = told_part frame 5 3 (omega arith) told (omega arith)

  checks_told : {n : ℕ} → Told (take 3 (drop 8 frame)) n → (n ≡ number 8 (take 3 (drop 8 frame))) × (n < 2 ^ 24)
  checks_told told = told_part frame 3 8 (omega arith) told (omega arith)

pub returns-then-frame-ne12 : goal.returns-then-frame-ne12
returns-then-frame-ne12 c = size c.if-frame-ne12.true

pub returns-then-ne : goal.returns-then-ne
returns-then-ne c =
    let frame = c.args.frame.now in
    elim c.then-ne.branch [
      | then-ne-via-then-ne w ↦ fixed (omega arith) (start_wrong frame (omega arith) c.ne.ensures w.if-ne.true)
      | then-ne-via-else-ne+then-frame-ne5 w ↦ fixed (omega arith) (λ f. w.if-frame-ne5.true f.fourth)
    ]

pub read_behind-requires : goal.read_behind-requires
read_behind-requires c =
    let frame = c.args.frame.now in
    ((body_told frame (omega arith) c.number_of.ensures).1, (checks_told frame (omega arith) c.number_of-2.ensures).1)

pub returns : goal.returns
unfolding body_in checks_in
returns c =
    let frame = c.args.frame.now in
    behind (omega arith) (start_right frame (omega arith) c.ne.ensures c.if-ne.false (omega arith)) {read = c.read_behind.result}
    (rw (← (body_told frame (omega arith) c.number_of.ensures).0, ← (checks_told frame (omega arith) c.number_of-2.ensures).0) c.read_behind.ensures)
