-- Any other CRC byte, and any other SK1, gets 22: the register tells every two last bytes that differ in their lowest bit apart.
-- Assumes nothing.
use Rattle.std.specs.Prelude.{Result, Ok}
use mathlib.Core.Bool.{not}
use mathlib.Core.List.{List, [], ◌∷◌, ◌++◌}
use mathlib.Core.Path.{◌≡◌, refl, sym, ap, ap₂, ◌∙◌, subst}
use Prim.Native.Nat.{ℕ, zero, suc, ◌+◌, ◌*◌, ◌/◌, ◌%◌, ◌^◌, ◌<◌}
use native.Mathlib.Nat.{mod-lt, div-add-mod'}
use native.Mathlib.Omega.{arith}
use lib.Bits.{bit_xor, xor_lt, xor_shr, xor_mod, xor_block, xor_zero_r}
use lib.Dec.{T, eqb, T_not, eqb_refl}
use lib.ListN.{take}
use lib.Pow.{pow_pos}
use Rattle.block.proofs.Xor.{xor_assoc}
use Rattle.block.proofs.Below.{at_below}
use Rattle.big_endian.specs.Digits.{digits, number}
use Rattle.big_endian.proofs.Digits.{Below, digits_append}
use Rattle.symbols.specs.Code.{Near}
use Rattle.symbols.proofs.Unique.{unique}
use Rattle.polish.specs.Crc.{crc_shifts, crc_from}
use Rattle.polish.specs.Frame.{crc_of_body, word_of, mended_to}
use Rattle.polish.specs.Read.{Behind, none, wrong, right, refusal_in}
use Rattle.refusal.specs.declared.Refusal.{Refusal}
use Rattle.polish.specs.declared.Time.{Time}
use Rattle.polish.proofs.Register.{moved_right}

-- ---- the register

shifts_lt : (n : ℕ) → n < 256 → crc_shifts 8 n < 256
shifts_lt n h = subst (λ (m : ℕ). m < 256) (moved_right n h).1 (moved_right n h).0

from_lt : (r : ℕ) (bytes : List ℕ) → r < 256 → Below 256 bytes → crc_from r bytes < 256
unfolding crc_from
from_lt r [] h b = h
from_lt r (x ∷ xs) h b = from_lt (crc_shifts 8 (bit_xor r x)) xs (shifts_lt (bit_xor r x) (xor_lt 8 r x h b.0)) b.1

from_append : (r : ℕ) (u v : List ℕ) → crc_from r (u ++ v) ≡ crc_from (crc_from r u) v
unfolding crc_from
from_append r [] v = refl
from_append r (x ∷ u) v = from_append (crc_shifts 8 (bit_xor r x)) u v

bytes_digits : (k n : ℕ) → Below 256 (digits 8 k n)
unfolding digits
bytes_digits zero n = tt
bytes_digits (suc k) n = (mod-lt (n / 2 ^ (8 * k)) (pow_pos 8), bytes_digits k n)

-- the register when the last byte of a body comes in
before_last : ℕ → ℕ
before_last body = crc_from 0 (digits 8 4 (body / 256))

last_step : (body : ℕ) → crc_of_body body ≡ crc_shifts 8 (bit_xor (before_last body) (body % 256))
unfolding crc_from digits before_last
last_step body =
    let e : body % 256 / 1 % 256 ≡ body % 256 = omega arith in
    ap crc_of_body (sym (div-add-mod' body 256))
    ∙ ap (crc_from 0) (digits_append 8 4 1 (body / 256) (body % 256) (omega arith))
    ∙ from_append 0 (digits 8 4 (body / 256)) (digits 8 1 (body % 256))
    ∙ ap (λ (n : ℕ). crc_shifts 8 (bit_xor (before_last body) n)) e

-- ---- the lowest bit

told_apart : (n : ℕ) → n < 256 → T (not (eqb (crc_shifts 8 (bit_xor n 1)) (crc_shifts 8 n)))
unfolding crc_shifts
told_apart = at_below 256 (λ n. not (eqb (crc_shifts 8 (bit_xor n 1)) (crc_shifts 8 n))) tt

-- a body's CRC changes with its lowest bit
pub lowest_bit : (body : ℕ) → crc_of_body (bit_xor body 1) ≡ crc_of_body body → ⊥
unfolding before_last
lowest_bit body e =
    let r = before_last body in
    let n = bit_xor r (body % 256) in
    let h : n < 256 = xor_lt 8 r (body % 256) (from_lt 0 (digits 8 4 (body / 256)) (omega arith) (bytes_digits 4 (body / 256))) (omega arith) in
    let high : bit_xor body 1 / 256 ≡ body / 256 = xor_shr body 1 8 ∙ xor_zero_r (body / 256) in
    let step : crc_of_body (bit_xor body 1) ≡ crc_shifts 8 (bit_xor n 1) =
    last_step (bit_xor body 1)
    ∙ ap₂ (λ (x y : ℕ). crc_shifts 8 (bit_xor (crc_from 0 (digits 8 4 x)) y)) high (xor_mod body 1 8)
    ∙ ap (crc_shifts 8) (sym (xor_assoc r (body % 256) 1)) in
    let same : crc_shifts 8 (bit_xor n 1) ≡ crc_shifts 8 n = sym step ∙ e ∙ last_step body in
    T_not (eqb (crc_shifts 8 (bit_xor n 1)) (crc_shifts 8 n)) (told_apart n h)
    (subst (λ (m : ℕ). T (eqb m (crc_shifts 8 n))) (sym same) (eqb_refl (crc_shifts 8 n)))

-- ---- what is told once is told with one CRC byte and one SK1 only

pub other_crc : (body checks crc other : ℕ) {time : Time} {r : Result Time Refusal} → Behind body checks crc (Ok time) → (other ≡ crc → ⊥)
    → Behind body checks other r → refusal_in r ≡ 22
other_crc body checks crc other (right c m e) d (none g) = absurd (g c m)
other_crc body checks crc other (right c m e) d (wrong c' m' f) = refl
other_crc body checks crc other (right c m e) d (right c' m' f) =
    absurd (d (sym f ∙ ap (λ (l : List ℕ). crc_of_body (mended_to l body)) (unique (word_of body checks) c' c m' m) ∙ e))

-- SK1 is none of the symbols, and is handed on to the mended body
same_word : (body checks : ℕ) → word_of (bit_xor body 1) checks ≡ word_of body checks
same_word body checks = ap (λ (n : ℕ). digits 4 9 n ++ digits 4 6 checks) (xor_shr body 1 1 ∙ xor_zero_r (body / 2))

flipped : (codeword : List ℕ) (body : ℕ) → mended_to codeword (bit_xor body 1) ≡ bit_xor (mended_to codeword body) 1
unfolding mended_to
flipped codeword body =
    let n = number 4 (take 9 codeword) in
    let high = 5 * 2 ^ 36 + n in
    let b = body % 2 in
    let e : 5 * 2 ^ 37 + n * 2 + bit_xor b 1 ≡ high * 2 + bit_xor b 1 = omega arith in
    let d : high * 2 + b ≡ 5 * 2 ^ 37 + n * 2 + b = omega arith in
    ap (λ (x : ℕ). 5 * 2 ^ 37 + n * 2 + x) (xor_mod body 1 1) ∙ e
    ∙ ap (λ (x : ℕ). x * 2 + bit_xor b 1) (sym (xor_zero_r high))
    ∙ sym (xor_block 1 high 0 b 1 (omega arith) (omega arith)) ∙ ap (λ (x : ℕ). bit_xor x 1) d

pub other_sk1 : (body checks crc : ℕ) {time : Time} {r : Result Time Refusal} → Behind body checks crc (Ok time)
    → Behind (bit_xor body 1) checks crc r → refusal_in r ≡ 22
other_sk1 body checks crc (right c m e) (none g) = absurd (g c (subst (λ (w : List ℕ). Near w c) (sym (same_word body checks)) m))
other_sk1 body checks crc (right c m e) (wrong c' m' f) = refl
other_sk1 body checks crc (right c m e) (right c' m' f) =
    let n : Near (word_of body checks) c' = subst (λ (w : List ℕ). Near w c') (same_word body checks) m' in
    absurd (lowest_bit (mended_to c body) (ap crc_of_body (sym (flipped c body)) ∙ ap (λ (l : List ℕ). crc_of_body (mended_to l (bit_xor body 1))) (unique (word_of body checks) c c' m n) ∙ f ∙ sym e))
