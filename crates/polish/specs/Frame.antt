-- The frame of twelve bytes (02, No. 10; 002, Fig. 2 and 3).
-- Assumes nothing.
use Rattle.std.specs.Prelude.{List, [], ◌∷◌, ◌++◌, ◌≡◌, ℕ, ◌+◌, ◌*◌, ◌/◌, ◌%◌, ◌^◌, get_or, take, drop}
use Rattle.std.specs.Int.Bits.{bit_xor}
use Rattle.big_endian.specs.Digits.{digits, number}
use Rattle.symbols.specs.Code.{checks_of}
use Rattle.polish.specs.Crc.{crc_of}
use Rattle.polish.specs.declared.Time.{Time}

-- what bytes 4 to 8 are scrambled with: the hex decides, not the letters beside it (002, 4)
abbrev pub key : ℕ
key = 0x0A47554D2B

-- bytes 4 to 8 as one number of 40 bits: 101, S0 to S29, TZ0, TZ1, LS, LSS, TZC, SK0, SK1, S0 the most significant of the count
abbrev pub plain_of : Time → ℕ
plain_of time =
    5 * 2 ^ 37 + time.periods * 2 ^ 7
    + (time.tz0 * 64 + time.tz1 * 32 + time.ls * 16 + time.lss * 8 + time.tzc * 4 + time.sk0 * 2 + time.sk1)

-- the seven flags, in that order
abbrev pub flags_of : Time → List ℕ
flags_of time = time.tz0 ∷ time.tz1 ∷ time.ls ∷ time.lss ∷ time.tzc ∷ time.sk0 ∷ time.sk1 ∷ []

-- scrambled, as they are sent
unfoldable pub body_of : Time → ℕ
body_of time = bit_xor (plain_of time) key

-- what a body tells
unfoldable pub time_in : ℕ → Time
time_in body =
    let plain = bit_xor body key in
    record {
      periods = plain / 2 ^ 7 % 2 ^ 30;
      tz0 = plain / 64 % 2;
      tz1 = plain / 32 % 2;
      ls = plain / 16 % 2;
      lss = plain / 8 % 2;
      tzc = plain / 4 % 2;
      sk0 = plain / 2 % 2;
      sk1 = plain % 2;
    }

-- the nine symbols of a body, S0 to SK0: the three fixed bits and SK1 are not among them
abbrev pub symbols_in : ℕ → List ℕ
symbols_in body = digits 4 9 (body / 2)

-- the CRC of bytes 4 to 8
abbrev pub crc_of_body : ℕ → ℕ
crc_of_body body = crc_of (digits 8 5 body)

-- the frame: the synchronization and start bytes, the body, the check symbols, two to a byte, and the CRC
unfoldable pub framed : ℕ → List ℕ
unfolding digits number
framed body =
    0x55 ∷ 0x55 ∷ 0x60 ∷ (digits 8 5 body ++ (digits 8 3 (number 4 (checks_of (symbols_in body))) ++ (crc_of_body body ∷ [])))

-- the parts of a frame that was received
unfoldable pub body_in : List ℕ → ℕ
unfolding number
body_in frame = number 8 (take 5 (drop 3 frame))

unfoldable pub checks_in : List ℕ → ℕ
unfolding number
checks_in frame = number 8 (take 3 (drop 8 frame))

abbrev pub crc_in : List ℕ → ℕ
crc_in frame = get_or frame 11 0

-- the fixed bits: the first three bytes, and the highest three of the fourth
pub record Fixed (frame : List ℕ) : Type 0 where
  pub first : get_or frame 0 0 ≡ 0x55
  pub second : get_or frame 1 0 ≡ 0x55
  pub third : get_or frame 2 0 ≡ 0x60
  pub fourth : get_or frame 3 0 / 32 ≡ 5

-- the fifteen symbols that are mended together
abbrev pub word_of : ℕ → ℕ → List ℕ
word_of body checks = symbols_in body ++ digits 4 6 checks

-- a body with the nine symbols of a codeword put in; SK1 stays as received
unfoldable pub mended_to : List ℕ → ℕ → ℕ
unfolding number
mended_to codeword body = 5 * 2 ^ 37 + number 4 (take 9 codeword) * 2 + body % 2
