-- Times, bodies and frames, there and back: each field has its own place in the body, and each part its own in the frame.
-- Assumes nothing.
use borrow.Author.Tests.{lt-ltb}
use mathlib.Core.Bool.{true}
use mathlib.Core.List.{List, [], ◌∷◌, ◌++◌}
use mathlib.Core.Path.{◌≡◌, refl, sym, ap, ◌∙◌, subst}
use Prim.Native.Nat.{ℕ, ◌+◌, ◌*◌, ◌/◌, ◌%◌, ◌^◌, ◌<◌}
use native.Mathlib.Omega.{arith}
use lib.Bits.{bit_xor, xor_lt, xor_shr}
use lib.Dec.{ltb}
use lib.ListN.{length, get_or}
use lib.Seq.{take_at}
use Rattle.big_endian.specs.Digits.{digits, number}
use Rattle.big_endian.proofs.Digits.{length_digits, number_digits}
use Rattle.field16.proofs.Digits.{symbols_digits}
use Rattle.field16.proofs.Words.{xor_twice}
use Rattle.symbols.specs.Code.{Codeword, checks_of, Checked}
use Rattle.symbols.proofs.Linear.{checked_number}
use Rattle.symbols.proofs.Encoder.{encoded}
use Rattle.polish.specs.Frame.{key, plain_of, body_of, time_in, symbols_in, crc_of_body, framed, body_in, checks_in, crc_in, Fixed, word_of, mended_to}
use Rattle.polish.specs.Write.{fitting}
use Rattle.polish.specs.declared.Time.{Time}
use Rattle.polish.proofs.Bounds.{bounds}
use Rattle.polish.proofs.Parts.{three_bytes, five_bytes, twelve, frame_bytes}

-- ---- times and bodies

module _ (time : Time) (h : fitting time ≡ true) where
  -- a body tells the time that it was made of
  pub time_back : time_in (body_of time) ≡ time
  unfolding time_in body_of
  time_back =
      let b = bounds time h in
      let n = plain_of time in
      let periods : n / 2 ^ 7 % 2 ^ 30 ≡ time.periods = omega arith in
      let tz0 : n / 64 % 2 ≡ time.tz0 = omega arith in
      let tz1 : n / 32 % 2 ≡ time.tz1 = omega arith in
      let ls : n / 16 % 2 ≡ time.ls = omega arith in
      let lss : n / 8 % 2 ≡ time.lss = omega arith in
      let tzc : n / 4 % 2 ≡ time.tzc = omega arith in
      let sk0 : n / 2 % 2 ≡ time.sk0 = omega arith in
      let sk1 : n % 2 ≡ time.sk1 = omega arith in
      rw (xor_twice n key, periods, tz0, tz1, ls, lss, tzc, sk0, sk1)

  pub body_lt : body_of time < 2 ^ 40
  unfolding body_of
  body_lt = let b = bounds time h in xor_lt 40 (plain_of time) key (omega arith) (omega arith)

  -- the key leaves the three fixed bits as they are
  pub body_top : body_of time / 2 ^ 37 ≡ 5
  unfolding body_of
  body_top =
      let b = bounds time h in
      let top : plain_of time / 2 ^ 37 ≡ 5 = omega arith in
      xor_shr (plain_of time) key 37 ∙ ap (λ (n : ℕ). bit_xor n 0) top

-- what a body tells fits
pub told_fits : (body : ℕ) → fitting (time_in body) ≡ true
unfolding fitting time_in
told_fits body =
    let n = bit_xor body key in
    let bit : (m : ℕ) → ltb (m % 2) 2 ≡ true = λ m. lt-ltb (m % 2) 2 (omega arith) in
    rw (lt-ltb (n / 2 ^ 7 % 2 ^ 30) (2 ^ 30) (omega arith), bit (n / 64), bit (n / 32), bit (n / 16), bit (n / 8), bit (n / 4), bit (n / 2), bit n)

-- seven bits, written out
flags : (a b c d e f g : ℕ) → a * 64 + b * 32 + c * 16 + d * 8 + e * 4 + f * 2 + g ≡ number 1 (a ∷ b ∷ c ∷ d ∷ e ∷ f ∷ g ∷ [])
unfolding number
flags a b c d e f g = omega arith

lowest_seven : (n : ℕ) → n / 64 % 2 * 64 + n / 32 % 2 * 32 + n / 16 % 2 * 16 + n / 8 % 2 * 8 + n / 4 % 2 * 4 + n / 2 % 2 * 2 + n % 2 ≡ n % 2 ^ 7
unfolding digits
lowest_seven n =
    let last : n % 2 ≡ n / 1 % 2 = omega arith in
    flags (n / 64 % 2) (n / 32 % 2) (n / 16 % 2) (n / 8 % 2) (n / 4 % 2) (n / 2 % 2) (n % 2)
    ∙ ap (λ (g : ℕ). number 1 (n / 64 % 2 ∷ n / 32 % 2 ∷ n / 16 % 2 ∷ n / 8 % 2 ∷ n / 4 % 2 ∷ n / 2 % 2 ∷ g ∷ [])) last ∙ number_digits 1 7 n

-- and a body with the three fixed bits is that of the time that it tells
pub body_back : (body : ℕ) → body < 2 ^ 40 → body / 2 ^ 37 ≡ 5 → body_of (time_in body) ≡ body
unfolding body_of time_in
body_back body h t =
    let n = bit_xor body key in
    let top : n / 2 ^ 37 ≡ 5 = xor_shr body key 37 ∙ ap (λ (m : ℕ). bit_xor m 0) t in
    let whole : 5 * 2 ^ 37 + n / 2 ^ 7 % 2 ^ 30 * 2 ^ 7 + n % 2 ^ 7 ≡ n = omega arith in
    ap (λ (m : ℕ). bit_xor (5 * 2 ^ 37 + n / 2 ^ 7 % 2 ^ 30 * 2 ^ 7 + m) key) (lowest_seven n) ∙ ap (λ (m : ℕ). bit_xor m key) whole ∙ xor_twice body key

-- ---- bodies and frames

-- a body with its own symbols put in is itself
pub mended_same : (body checks : ℕ) → body < 2 ^ 40 → body / 2 ^ 37 ≡ 5 → mended_to (word_of body checks) body ≡ body
unfolding mended_to
mended_same body checks h t =
    ap (λ (l : List ℕ). 5 * 2 ^ 37 + number 4 l * 2 + body % 2) (take_at (symbols_in body) (digits 4 6 checks) 9 (length_digits 4 9 (body / 2)))
    ∙ ap (λ (n : ℕ). 5 * 2 ^ 37 + n * 2 + body % 2) (number_digits 4 9 (body / 2)) ∙ omega arith

module _ (body : ℕ) where
  -- the check symbols in one number
  abbrev six : ℕ
  six = number 4 (checks_of (symbols_in body))

  checked : Checked (body / 2) six
  checked = checked_number (body / 2)

  listed : framed body ≡ twelve body six (crc_of_body body)
  listed = sym (frame_bytes body six (crc_of_body body) checked.small checked.are refl)

  pub framed_length : length (framed body) ≡ 12
  framed_length = ap length listed

  pub framed_crc : crc_in (framed body) ≡ crc_of_body body
  framed_crc = ap (λ (l : List ℕ). get_or l 11 0) listed

  pub framed_fixed : body < 2 ^ 40 → body / 2 ^ 37 ≡ 5 → Fixed (framed body)
  framed_fixed h t =
      let fourth : body / 0x100000000 % 256 / 32 ≡ 5 = omega arith in
      record {
        first = ap (λ (l : List ℕ). get_or l 0 0) listed;
        second = ap (λ (l : List ℕ). get_or l 1 0) listed;
        third = ap (λ (l : List ℕ). get_or l 2 0) listed;
        fourth = ap (λ (l : List ℕ). get_or l 3 0 / 32) listed ∙ fourth;
      }

  pub framed_body : body < 2 ^ 40 → body_in (framed body) ≡ body
  unfolding body_in
  framed_body h =
      let low : body % 2 ^ 40 ≡ body = omega arith in
      ap body_in listed ∙ ap (number 8) (sym (five_bytes body)) ∙ number_digits 8 5 body ∙ low

  pub framed_checks : checks_in (framed body) ≡ number 4 (checks_of (symbols_in body))
  unfolding checks_in
  framed_checks =
      let low : six % 2 ^ 24 ≡ six = omega (arith, checked.small) in
      ap checks_in listed ∙ ap (number 8) (sym (three_bytes six)) ∙ number_digits 8 3 six ∙ low

  -- the fifteen symbols of a frame as written are a codeword
  pub framed_word : Codeword (word_of body (checks_in (framed body)))
  framed_word =
      subst (λ (l : List ℕ). Codeword (symbols_in body ++ l)) (sym checked.are ∙ ap (digits 4 6) (sym framed_checks))
      (encoded (symbols_in body) (length_digits 4 9 (body / 2)) (symbols_digits 9 (body / 2)))
