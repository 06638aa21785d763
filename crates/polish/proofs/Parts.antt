-- The digits of a number and the parts of a list, written out.
-- Assumes nothing.
use mathlib.Core.List.{List, [], ◌∷◌, ◌++◌}
use mathlib.Core.Path.{◌≡◌, refl, sym, ap, ap₂, ◌∙◌}
use Prim.Native.Nat.{ℕ, zero, suc, ◌+◌, ◌*◌, ◌/◌, ◌%◌, ◌^◌, ◌≤◌, ◌<◌}
use native.Mathlib.Omega.{arith}
use lib.ListN.{length, get_or, take, drop}
use lib.Seq.{drop-cons}
use Rattle.std.specs.Int.{w64, to_be_bytes}
use Rattle.big_endian.specs.Digits.{digits, number}
use Rattle.field16.proofs.Entries.{elements}
use Rattle.big_endian.proofs.Digits.{number_digits}
use Rattle.symbols.specs.Code.{checks_of}
use Rattle.polish.specs.Frame.{symbols_in, crc_of_body, framed, body_in, checks_in}

pub three_bytes : (n : ℕ) → digits 8 3 n ≡ n / 0x10000 % 256 ∷ n / 0x100 % 256 ∷ n % 256 ∷ []
unfolding digits
three_bytes n =
    let e : n / 1 % 256 ≡ n % 256 = omega arith in
    ap (λ (x : ℕ). n / 0x10000 % 256 ∷ n / 0x100 % 256 ∷ x ∷ []) e

pub five_bytes : (n : ℕ) → digits 8 5 n ≡ n / 0x100000000 % 256 ∷ n / 0x1000000 % 256 ∷ n / 0x10000 % 256 ∷ n / 0x100 % 256 ∷ n % 256 ∷ []
unfolding digits
five_bytes n = ap (λ (l : List ℕ). n / 0x100000000 % 256 ∷ n / 0x1000000 % 256 ∷ l) (three_bytes n)

-- the last five of the eight bytes of a number
pub last_five : (n : ℕ) → take 5 (drop 3 (to_be_bytes w64 n)) ≡ digits 8 5 n
last_five n = sym (five_bytes n)

-- k entries from the place i on, written out
pub part : (k i : ℕ) (s : List ℕ) → k + i ≤ length s → take k (drop i s) ≡ elements i k s
part zero i s h = refl
part (suc k) i s h =
    ap (take (suc k)) (drop-cons s i 0 (omega arith)) ∙ ap (λ (l : List ℕ). get_or s i 0 ∷ l) (part k (suc i) s (omega arith))

-- the parts of a frame, byte by byte
module _ (s : List ℕ) (h : length s ≡ 12) where
  pub body_bytes : body_in s ≡ get_or s 3 0 * 0x100000000 + get_or s 4 0 * 0x1000000 + get_or s 5 0 * 0x10000 + get_or s 6 0 * 0x100 + get_or s 7 0
  unfolding body_in number
  body_bytes = ap (number 8) (part 5 3 s (omega arith)) ∙ omega arith

  pub checks_bytes : checks_in s ≡ get_or s 8 0 * 0x10000 + get_or s 9 0 * 0x100 + get_or s 10 0
  unfolding checks_in number
  checks_bytes = ap (number 8) (part 3 8 s (omega arith)) ∙ omega arith

-- a frame, byte by byte
abbrev pub twelve : ℕ → ℕ → ℕ → List ℕ
twelve body checks crc =
    0x55 ∷ 0x55 ∷ 0x60 ∷ body / 0x100000000 % 256 ∷ body / 0x1000000 % 256 ∷ body / 0x10000 % 256 ∷ body / 0x100 % 256 ∷ body % 256
    ∷ checks / 0x10000 % 256 ∷ checks / 0x100 % 256 ∷ checks % 256 ∷ crc ∷ []

pub frame_bytes : (body checks crc : ℕ) → checks < 2 ^ 24 → digits 4 6 checks ≡ checks_of (symbols_in body) → crc ≡ crc_of_body body
    → twelve body checks crc ≡ framed body
unfolding framed
frame_bytes body checks crc h e d =
    let low : checks % 2 ^ 24 ≡ checks = omega arith in
    let n : checks ≡ number 4 (checks_of (symbols_in body)) = sym low ∙ sym (number_digits 4 6 checks) ∙ ap (number 4) e in
    ap₂ (λ (u v : List ℕ). 0x55 ∷ 0x55 ∷ 0x60 ∷ (u ++ (v ++ (crc ∷ [])))) (sym (five_bytes body)) (sym (three_bytes checks))
    ∙ ap₂ (λ (x y : ℕ). 0x55 ∷ 0x55 ∷ 0x60 ∷ (digits 8 5 body ++ (digits 8 3 x ++ (y ∷ [])))) n d
