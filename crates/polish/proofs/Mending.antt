-- A frame that is within three symbols of the one written for a time reads as that time, since the written symbols are the one codeword near.
-- Assumes nothing.
use Rattle.std.specs.Prelude.{Ok}
use mathlib.Core.Bool.{true}
use mathlib.Core.List.{List}
use mathlib.Core.Path.{◌≡◌, refl, sym, ap, ◌∙◌, subst}
use Prim.Native.Nat.{ℕ, ◌+◌, ◌*◌, ◌%◌, ◌^◌}
use native.Mathlib.Omega.{arith}
use lib.ListN.{take}
use Rattle.big_endian.specs.Digits.{number}
use Rattle.symbols.proofs.Unique.{differing_self}
use Rattle.polish.specs.Frame.{body_of, time_in, crc_of_body, body_in, checks_in, crc_in, word_of, mended_to}
use Rattle.polish.specs.Read.{Behind, right, Reads, behind}
use Rattle.polish.specs.Taken.{fifteen_in, WithinThree}
use Rattle.polish.specs.Write.{fitting, frame_of}
use Rattle.polish.specs.declared.Time.{Time}
use Rattle.polish.proofs.RoundTrip.{time_back, body_lt, body_top, mended_same, framed_length, framed_crc, framed_body, framed_fixed, framed_word}

-- the mended body takes nothing but SK1 from what was received
same_sk1 : (codeword : List ℕ) (a b : ℕ) → a % 2 ≡ b % 2 → mended_to codeword a ≡ mended_to codeword b
unfolding mended_to
same_sk1 codeword a b e = ap (λ (n : ℕ). 5 * 2 ^ 37 + number 4 (take 9 codeword) * 2 + n) e

-- a frame that is right but for at most three symbols tells the time that was written
pub mended_reads : (time : Time) (frame : List ℕ) → WithinThree time frame → Reads frame (Ok time)
mended_reads time frame w =
    let body = body_of time in
    let checks = checks_in (frame_of time) in
    let codeword = word_of body checks in
    let same : body_in (frame_of time) ≡ body = framed_body body (body_lt time w.fits) in
    let mended : mended_to codeword (body_in frame) ≡ body =
    same_sk1 codeword (body_in frame) body (w.sk1 ∙ ap (λ (b : ℕ). b % 2) same)
    ∙ mended_same body checks (body_lt time w.fits) (body_top time w.fits) in
    behind w.size w.fixed
    (subst (λ (t : Time). Behind (body_in frame) (checks_in frame) (crc_in frame) (Ok t)) (ap time_in mended ∙ time_back time w.fits)
    (right codeword (record { code = framed_word body; within = rw same at w.symbols }) (ap crc_of_body mended ∙ sym (framed_crc body) ∙ sym w.crc)))

-- what is written reads back
pub written_reads : (time : Time) → fitting time ≡ true → Reads (frame_of time) (Ok time)
written_reads time h =
    let body = body_of time in
    mended_reads time (frame_of time)
    (record {
      fits = h;
      size = framed_length body;
      fixed = framed_fixed body (body_lt time h) (body_top time h);
      sk1 = refl;
      crc = refl;
      symbols = omega (arith, differing_self (fifteen_in (frame_of time)));
    })
