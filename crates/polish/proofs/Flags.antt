-- The flags of a time, one after the other behind its count.
-- Assumes nothing.
use Rattle.std.proofs.Common.{◌≡◌, ℕ, zero, suc, ◌+◌, ◌*◌, ◌^◌, ◌<◌, ◌≤◌, List, length, take, get_or, ap, subst, ◌∙◌, add-one, arith, take-suc, pow_mono}
use Rattle.big_endian.specs.Digits.{number}
use Rattle.big_endian.proofs.Digits.{number_more}
use Rattle.polish.specs.Frame.{flags_of, plain_of}
use Rattle.polish.specs.Write.{FieldsFit}
use Rattle.polish.specs.declared.Time.{Time}

pub flag_lt : (time : Time) (i : ℕ) → FieldsFit time → get_or (flags_of time) i 0 < 2
flag_lt time zero f = f.tz0
flag_lt time (suc zero) f = f.tz1
flag_lt time (suc (suc zero)) f = f.ls
flag_lt time (suc (suc (suc zero))) f = f.lss
flag_lt time (suc (suc (suc (suc zero)))) f = f.tzc
flag_lt time (suc (suc (suc (suc (suc zero))))) f = f.sk0
flag_lt time (suc (suc (suc (suc (suc (suc zero)))))) f = f.sk1
flag_lt time (suc (suc (suc (suc (suc (suc (suc i))))))) f = omega arith

-- one flag more behind a number
pub flag_more : (a n i : ℕ) (flags : List ℕ) → i < length flags → n ≡ a * 2 ^ i + number 1 (take i flags) → n * 2 + get_or flags i 0 ≡ a * 2 ^ (i + 1) + number 1 (take (i + 1) flags)
flag_more a n i flags h e =
    let more : number 1 (take (i + 1) flags) ≡ number 1 (take i flags) * 2 + get_or flags i 0 =
    ap (number 1) (rw add-one (take-suc flags i 0 h)) ∙ number_more 1 (take i flags) (get_or flags i 0) in
    let double : 2 ^ (i + 1) ≡ 2 ^ i * 2 = rw add-one (omega arith) in
    rw (more, double) (omega arith)

-- and the number stays as small
pub flag_small : (time : Time) (n i : ℕ) {flags : List ℕ} → FieldsFit time → flags ≡ flags_of time → i < 7 → n < 2 ^ (33 + i)
    → (n < 2 ^ 39) × (n * 2 + get_or flags i 0 < 2 ^ (33 + (i + 1)))
flag_small time n i f e h small =
    let low : 2 ^ (33 + i) ≤ 2 ^ 39 = pow_mono {i = 33 + i} {j = 39} (omega arith) in
    let next : 33 + (i + 1) ≡ suc (33 + i) = omega arith in
    let double : 2 ^ (33 + (i + 1)) ≡ 2 ^ (33 + i) * 2 = rw next (omega arith) in
    (omega arith, rw (double, e) (omega (arith, flag_lt time i f)))

-- all seven
pub plain_whole : (time : Time) (n i : ℕ) → 7 ≤ i → i ≤ 7 → n ≡ (5 * 2 ^ 30 + time.periods) * 2 ^ i + number 1 (take i (flags_of time)) → n ≡ plain_of time
unfolding number
plain_whole time n i h k e =
    let seven : i ≡ 7 = omega arith in
    let whole = subst (λ (i : ℕ). n ≡ (5 * 2 ^ 30 + time.periods) * 2 ^ i + number 1 (take i (flags_of time))) seven e in
    omega arith
