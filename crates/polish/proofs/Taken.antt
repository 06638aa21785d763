-- Only what is within three symbols of a written frame is taken: the codeword that is near is the frame of the time that is told, since a codeword
-- is known by its first nine symbols.
-- Assumes nothing.
use Rattle.std.specs.Prelude.{Ok}
use mathlib.Core.List.{List, [], ◌∷◌}
use mathlib.Core.Path.{◌≡◌, sym, ap, ◌∙◌, subst}
use Prim.Native.Nat.{ℕ, zero, suc, ◌+◌, ◌*◌, ◌/◌, ◌%◌, ◌^◌, ◌<◌}
use native.Mathlib.Omega.{arith}
use lib.ListN.{length, take}
use lib.Seq.{take_at, length-take-le}
use Rattle.field16.specs.Words.{Symbols}
use Rattle.big_endian.specs.Digits.{digits, number}
use Rattle.big_endian.proofs.Digits.{Below, length_digits, digits_under, digits_number, number_lt}
use Rattle.field16.proofs.Digits.{below_symbols}
use Rattle.symbols.specs.Code.{Codeword}
use Rattle.symbols.proofs.Linear.{same_nine}
use Rattle.polish.specs.Frame.{body_of, time_in, symbols_in, framed, body_in, checks_in, word_of, mended_to}
use Rattle.polish.specs.Read.{Reads, behind, right}
use Rattle.polish.specs.Taken.{fifteen_in, WithinThree}
use Rattle.polish.specs.declared.Time.{Time}
use Rattle.polish.proofs.RoundTrip.{told_fits, body_back, framed_body, framed_crc, framed_word}

symbols_take : (k : ℕ) (word : List ℕ) → Symbols word → Symbols (take k word)
symbols_take zero word s = tt
symbols_take (suc k) [] s = tt
symbols_take (suc k) (c ∷ cs) s = (s.0, symbols_take k cs s.1)

-- a body that a codeword was put into
module _ (codeword : List ℕ) (code : Codeword codeword) (body : ℕ) where
  abbrev nine : List ℕ
  nine = take 9 codeword

  abbrev mended : ℕ
  mended = mended_to codeword body

  nine_long : length nine ≡ 9
  nine_long = length-take-le 9 codeword (omega (arith, code.size))

  nine_below : Below (2 ^ 4) nine
  nine_below = below_symbols nine (symbols_take 9 codeword code.symbols)

  nine_lt : number 4 nine < 2 ^ 36
  nine_lt = subst (λ (k : ℕ). number 4 nine < 2 ^ (4 * k)) nine_long (number_lt 4 nine nine_below)

  mended_lt : mended < 2 ^ 40
  unfolding mended_to
  mended_lt = omega (arith, nine_lt)

  mended_top : mended / 2 ^ 37 ≡ 5
  unfolding mended_to
  mended_top = omega (arith, nine_lt)

  mended_sk1 : mended % 2 ≡ body % 2
  unfolding mended_to
  mended_sk1 = omega arith

  mended_symbols : symbols_in mended ≡ nine
  unfolding mended_to
  mended_symbols =
      let half : (5 * 2 ^ 37 + number 4 nine * 2 + body % 2) / 2 ≡ 5 * 2 ^ 36 + number 4 nine = omega arith in
      ap (digits 4 9) half ∙ digits_under 4 9 5 (number 4 nine) nine_lt ∙ subst (λ (k : ℕ). digits 4 k (number 4 nine) ≡ nine) nine_long (digits_number 4 nine nine_below)

  -- its frame has the codeword's symbols
  mended_word : fifteen_in (framed mended) ≡ codeword
  mended_word =
      let checks = checks_in (framed mended) in
      ap (λ (b : ℕ). word_of b checks) (framed_body mended mended_lt)
      ∙ same_nine (word_of mended checks) codeword (framed_word mended) code
      (take_at (symbols_in mended) (digits 4 6 checks) 9 (length_digits 4 9 (mended / 2)) ∙ mended_symbols)

-- a frame that reads as a time is within three symbols of the one that is written for it
pub told_near : (frame : List ℕ) {time : Time} → Reads frame (Ok time) → WithinThree time frame
told_near frame (behind l f (right codeword near e)) =
    let body = mended_to codeword (body_in frame) in
    let small = mended_lt codeword near.code (body_in frame) in
    let same : body_of (time_in body) ≡ body = body_back body small (mended_top codeword near.code (body_in frame)) in
    record {
      fits = told_fits body;
      size = l;
      fixed = f;
      sk1 = rw same (rw (framed_body body small) (sym (mended_sk1 codeword near.code (body_in frame))));
      crc = rw same (sym e ∙ sym (framed_crc body));
      symbols = rw (same, mended_word codeword near.code (body_in frame)) near.within;
    }
