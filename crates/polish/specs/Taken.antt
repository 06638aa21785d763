-- Which frames are taken for that of a time (02, No. 10): its own, and those that differ from it in at most three symbols.
-- Assumes nothing.
use Rattle.std.specs.Prelude.{true, List, ◌≡◌, ℕ, ◌%◌, ◌≤◌, length}
use Rattle.symbols.specs.Code.{differing}
use Rattle.polish.specs.Frame.{Fixed, body_in, checks_in, crc_in, word_of}
use Rattle.polish.specs.Write.{fitting, frame_of}
use Rattle.polish.specs.declared.Time.{Time}

-- SK1 as it was sent: the lowest bit of the body
abbrev pub sk1_in : List ℕ → ℕ
sk1_in frame = body_in frame % 2

-- the fifteen symbols of a frame
abbrev pub fifteen_in : List ℕ → List ℕ
fifteen_in frame = word_of (body_in frame) (checks_in frame)

-- the frame is the one that is written for the time, but for at most three of the fifteen symbols
pub record WithinThree (time : Time) (frame : List ℕ) : Type 0 where
  pub fits : fitting time ≡ true
  pub size : length frame ≡ 12
  pub fixed : Fixed frame
  pub sk1 : sk1_in frame ≡ sk1_in (frame_of time)
  pub crc : crc_in frame ≡ crc_in (frame_of time)
  pub symbols : differing (fifteen_in frame) (fifteen_in (frame_of time)) ≤ 3
