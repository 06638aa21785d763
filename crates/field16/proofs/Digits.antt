-- Symbols as digits of four bits.
-- Assumes nothing.
use mathlib.Core.Path.{◌≡◌, sym, ap, ◌∙◌}
use mathlib.Core.List.{List, [], ◌∷◌}
use Prim.Native.Nat.{ℕ, zero, suc, ◌*◌, ◌/◌, ◌^◌, ◌<◌}
use native.Mathlib.Nat.{mod-lt, mod-eq_of_lt}
use lib.Pow.{pow_pos}
use Rattle.big_endian.specs.Digits.{digits, number}
use Rattle.big_endian.proofs.Digits.{Below, number_digits}
use Rattle.field16.specs.Words.{Symbols}

pub below_symbols : (ds : List ℕ) → Symbols ds → Below (2 ^ 4) ds
below_symbols [] h = tt
below_symbols (d ∷ ds) h = (h.0, below_symbols ds h.1)

pub symbols_digits : (k n : ℕ) → Symbols (digits 4 k n)
unfolding digits
symbols_digits zero n = tt
symbols_digits (suc k) n = (mod-lt (n / 2 ^ (4 * k)) (pow_pos 4), symbols_digits k n)

-- numbers with the same symbols are the same
pub same_number : (k m n : ℕ) → m < 2 ^ (4 * k) → n < 2 ^ (4 * k) → digits 4 k m ≡ digits 4 k n → m ≡ n
same_number k m n hm hn e =
    sym (mod-eq_of_lt hm) ∙ sym (number_digits 4 k m) ∙ ap (number 4) e ∙ number_digits 4 k n ∙ mod-eq_of_lt hn
