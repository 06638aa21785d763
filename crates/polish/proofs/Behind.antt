-- The word that is mended is the fifteen symbols of body and checks, and what comes back holds the nine symbols above the six.
-- Assumes nothing.
use Rattle.std.specs.Prelude.{Option, Some, None, Ok, Err}
use mathlib.Core.List.{List, ◌++◌}
use mathlib.Core.Path.{◌≡◌, sym, ap, ◌∙◌, subst}
use Prim.Native.Nat.{ℕ, ◌+◌, ◌*◌, ◌/◌, ◌%◌, ◌^◌, ◌<◌}
use native.Mathlib.Nat.{div-add-mod'}
use native.Mathlib.Omega.{arith}
use lib.ListN.{take}
use lib.Seq.{take_at}
use Rattle.refusal.specs.declared.Refusal.TheVariants.{NoCodeword, WrongCrc}
use Rattle.big_endian.specs.Digits.{digits, number}
use Rattle.big_endian.proofs.Digits.{length_digits, digits_low, digits_append, number_digits}
use Rattle.symbols.specs.Mending.{Mends}
use Rattle.polish.specs.Frame.{time_in, crc_of_body, word_of, mended_to}
use Rattle.polish.specs.Read.{Behind, none, wrong, right}
use Rattle.polish.specs.declared.Time.{Time}

-- nine symbols and six in one number
abbrev pub joined : ℕ → ℕ → ℕ
joined body checks = body / 2 % 0x1000000000 * 0x1000000 + checks

pub joined_digits : (body checks : ℕ) → checks < 2 ^ 24 → digits 4 15 (joined body checks) ≡ word_of body checks
joined_digits body checks h =
    digits_append 4 9 6 (body / 2 % 2 ^ 36) checks h ∙ ap (λ (l : List ℕ). l ++ digits 4 6 checks) (digits_low 4 9 (body / 2))

-- the upper nine of fifteen symbols
pub upper : (n : ℕ) → n < 2 ^ 60 → number 4 (take 9 (digits 4 15 n)) ≡ n / 2 ^ 24
upper n h =
    let nine = n / 2 ^ 24 in
    let small : nine % 2 ^ 36 ≡ nine = omega arith in
    ap (λ (m : ℕ). number 4 (take 9 (digits 4 15 m))) (sym (div-add-mod' n (2 ^ 24)))
    ∙ ap (λ (l : List ℕ). number 4 (take 9 l)) (digits_append 4 9 6 nine (n % 2 ^ 24) (omega arith))
    ∙ ap (number 4) (take_at (digits 4 9 nine) (digits 4 6 (n % 2 ^ 24)) 9 (length_digits 4 9 nine))
    ∙ number_digits 4 9 nine ∙ small

-- a mended body from the number of the codeword
abbrev pub put : ℕ → ℕ → ℕ
put n body = 0xA000000000 + n / 0x1000000 * 2 + body % 2

pub put_mended : (n body : ℕ) → n < 2 ^ 60 → mended_to (digits 4 15 n) body ≡ put n body
unfolding mended_to
put_mended n body h = ap (λ (m : ℕ). 0xA000000000 + m * 2 + body % 2) (upper n h)

module _ (body checks crc : ℕ) (h : checks < 2 ^ 24) (answer : Option ℕ) (m : Mends (digits 4 15 (joined body checks)) answer) where
  mends : (a : Option ℕ) → answer ≡ a → Mends (word_of body checks) a
  mends a e = subst (λ (l : List ℕ). Mends l a) (joined_digits body checks h) (subst (Mends (digits 4 15 (joined body checks))) e m)

  pub farther : answer ≡ None → Behind body checks crc (Err NoCodeword)
  farther e = none (mends None e)

  module _ (n : ℕ) (e : answer ≡ Some n) where
    mended : mended_to (digits 4 15 n) body ≡ put n body
    mended = put_mended n body (mends (Some n) e).0

    pub mismatched : (crc_of_body (put n body) ≡ crc → ⊥) → Behind body checks crc (Err WrongCrc)
    mismatched other = wrong (digits 4 15 n) (mends (Some n) e).1 (λ q. other (ap crc_of_body (sym mended) ∙ q))

    pub matched : (time : Time) → crc_of_body (put n body) ≡ crc → time ≡ time_in (put n body) → Behind body checks crc (Ok time)
    matched time same told =
        subst (λ (t : Time). Behind body checks crc (Ok t)) (ap time_in mended ∙ sym told)
        (right (digits 4 15 n) (mends (Some n) e).1 (ap crc_of_body mended ∙ same))
