-- Reading a frame: tests 19, 20, 21, 22 (02, No. 10).
-- Assumes nothing.
use Rattle.std.specs.Prelude.{List, ◌≡◌, ℕ, length, Result, Ok, Err}
use Rattle.refusal.specs.Numbers.{number_of}
use Rattle.refusal.specs.declared.Refusal.{Refusal}
use Rattle.refusal.specs.declared.Refusal.TheVariants.{WrongSize, WrongFixedBits, NoCodeword, WrongCrc}
use Rattle.symbols.specs.Code.{Near}
use Rattle.polish.specs.Frame.{crc_of_body, time_in, Fixed, body_in, checks_in, crc_in, word_of, mended_to}
use Rattle.polish.specs.declared.Time.{Time}

-- the answer where the fixed bits are right: by the codeword that is near, and by the CRC as received of the mended bytes
pub data Behind (body checks crc : ℕ) : Result Time Refusal → Type 0 where
  none : ((codeword : List ℕ) → Near (word_of body checks) codeword → ⊥) → Behind body checks crc (Err NoCodeword)
  wrong : (codeword : List ℕ) → Near (word_of body checks) codeword → (crc_of_body (mended_to codeword body) ≡ crc → ⊥)
      → Behind body checks crc (Err WrongCrc)
  right : (codeword : List ℕ) → Near (word_of body checks) codeword → crc_of_body (mended_to codeword body) ≡ crc
      → Behind body checks crc (Ok (time_in (mended_to codeword body)))

-- what reading twelve or other bytes answers
pub data Reads (frame : List ℕ) : Result Time Refusal → Type 0 where
  size : (length frame ≡ 12 → ⊥) → Reads frame (Err WrongSize)
  fixed : length frame ≡ 12 → (Fixed frame → ⊥) → Reads frame (Err WrongFixedBits)
  behind : length frame ≡ 12 → Fixed frame → {read : Result Time Refusal} → Behind (body_in frame) (checks_in frame) (crc_in frame) read → Reads frame read

-- an answer as the paper's numbers: the refusal, 0 where there is none; the time, zeros where refused
abbrev pub refusal_in : Result Time Refusal → ℕ
refusal_in (Ok time) = 0
refusal_in (Err refusal) = number_of refusal

abbrev pub time_read : Result Time Refusal → Time
time_read (Ok time) = time
time_read (Err refusal) = record { periods = 0; tz0 = 0; tz1 = 0; ls = 0; lss = 0; tzc = 0; sk0 = 0; sk1 = 0 }
