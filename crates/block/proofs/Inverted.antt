-- The report's decoder, preset so that the first bit counts as inverted: no remainder of all fifty tells good blocks only together with the
-- prefix.
-- Assumes nothing.
use mathlib.Core.List.{List, [], ◌∷◌, ◌++◌}
use mathlib.Core.Path.{◌≡◌, refl, sym, ap, ◌∙◌}
use Prim.Native.Nat.{ℕ, ◌<◌, ◌/◌}
use native.Mathlib.Omega.{arith}
use lib.ListN.{length, drop}
use Rattle.block.specs.Bits.{Bits, bits_of, zeros}
use Rattle.block.specs.Division.{generator, step_bit, remainder_from, remainder}
use Rattle.block.specs.Block.{Good, prefix_in, inverted}
use Rattle.block.specs.Read.{read_of, refusal_in}
use Rattle.block.proofs.Xor.{on_bit}
use Rattle.block.proofs.CheckWord.{good_rem, none_check}

-- a register that holds half the generator inverts the first bit: a 1 brings up the whole generator, which is taken off, a 0 all of it
-- but its last digit
pub preset : (s : List ℕ) → Bits s → 0 < length s → remainder_from (generator / 2) s ≡ remainder (inverted s)
unfolding remainder_from step_bit
preset [] h l = absurd (omega arith)
preset (b ∷ bs) h l = on_bit (λ b. remainder_from (generator / 2) (b ∷ bs) ≡ remainder (inverted (b ∷ bs))) refl refl b h.0

-- behind the prefix 1 the inverted block divides as the bits behind the prefix do
pub without : (s : List ℕ) → prefix_in s ≡ 1 → remainder (inverted s) ≡ remainder (drop 1 s)
unfolding remainder_from
without [] e = absurd (omega arith)
without (p ∷ bs) e = ap (λ (b : ℕ). remainder (inverted (b ∷ bs))) e

pub good_inverted : (s : List ℕ) → Good s → (prefix_in s ≡ 1) × (remainder (inverted s) ≡ 0)
good_inverted s g = (g.prefix, without s g.prefix ∙ good_rem s g)

pub inverted_good : (s : List ℕ) → length s ≡ 50 → Bits s → (prefix_in s ≡ 1) × (remainder (inverted s) ≡ 0) → Good s
inverted_good s l h e = record { size = l; bits = h; prefix = e.0; check = none_check s l h (sym (without s e.0) ∙ e.1) }

-- version one's block: all zeros but for a check word, it passes the report's test
pub ghost : List ℕ
ghost = 0 ∷ (zeros 36 ++ bits_of 13 (remainder (1 ∷ zeros 49)))

pub ghost_refused : (length ghost ≡ 50) × (remainder (inverted ghost) ≡ 0) × (refusal_in (read_of ghost) ≡ 3)
unfolding ghost bits_of remainder_from read_of
ghost_refused = (refl, refl, refl)
