-- A word and what its check symbols miss have the same power sums, so what explains these takes the word to a codeword, and a codeword near
-- the word would explain them.
-- Assumes nothing.
use Rattle.std.specs.Prelude.{None}
use mathlib.Core.List.{List, ◌++◌}
use mathlib.Core.Path.{◌≡◌, sym, ap, ◌∙◌, subst}
use Prim.Native.Nat.{ℕ, ◌/◌, ◌%◌, ◌^◌}
use native.Mathlib.Nat.{div-add-mod'}
use native.Mathlib.Omega.{arith}
use lib.Bits.{bit_xor, xor_self, xor_zero_r}
use lib.ListN.{length}
use Rattle.block.specs.Bits.{xors}
use Rattle.block.proofs.Xor.{xor_eq}
use Rattle.block.proofs.Strings.{length_xors, xors_cancel}
use Rattle.field16.specs.Words.{Symbols, a_to, at, weight}
use Rattle.big_endian.specs.Digits.{digits}
use Rattle.field16.specs.Field.{times, power}
use Rattle.big_endian.proofs.Digits.{length_digits, digits_low, digits_append, digits_xor}
use Rattle.field16.proofs.Digits.{symbols_digits}
use Rattle.field16.proofs.Words.{at_append, symbols_xors, at_xors}
use Rattle.power_sums.specs.Sums.{six_sums}
use Rattle.power_sums.proofs.Lists.{sums_same, six_at}
use Rattle.wrong_symbols.specs.Explained.{Mistakes, Explains}
use Rattle.symbols.specs.Code.{Codeword, differing, Near, checks_of}
use Rattle.symbols.proofs.Encoder.{encoded, length_checks}
use Rattle.symbols.proofs.Unique.{differing_self, differing_weight}

-- a codeword added changes no power sum
code_adds_nothing : (w c : List ℕ) → length w ≡ 15 → Codeword c → six_sums (xors w c) ≡ six_sums w
code_adds_nothing w c l p =
    sums_same 1 6 (xors w c) w
    (λ j i k. at_xors (a_to j) w c (l ∙ sym p.size) ∙ ap (bit_xor (at (a_to j) w)) (p.roots j i (omega arith)) ∙ xor_zero_r (at (a_to j) w))

-- nine symbols with six others miss what their check symbols differ by
missing : (nine six : List ℕ) → length nine ≡ 9 → Symbols nine → length six ≡ 6 → six_sums (nine ++ six) ≡ six_sums (xors (checks_of nine) six)
missing nine six l s k =
    sums_same 1 6 (nine ++ six) (xors (checks_of nine) six)
    (λ j p q.
    let X : ℕ = a_to j in
    let c : List ℕ = checks_of nine in
    let n : ℕ = times (at X nine) (power X 6) in
    let lc : length c ≡ 6 = length_checks nine in
    let good : bit_xor n (at X c) ≡ 0 = ap (λ (m : ℕ). bit_xor (times (at X nine) (power X m)) (at X c)) (sym lc) ∙ sym (at_append X nine c) ∙ (encoded nine l s).roots j p (omega arith) in
    at_append X nine six ∙ ap (λ (m : ℕ). bit_xor (times (at X nine) (power X m)) (at X six)) k
    ∙ ap (λ (m : ℕ). bit_xor m (at X six)) (xor_eq n (at X c) good) ∙ sym (at_xors X c six (lc ∙ sym k)))

-- a word of fifteen symbols in one number
module _ (word : ℕ) where
  abbrev received : ℕ
  received = word % 2 ^ 60

  abbrev nine : List ℕ
  nine = digits 4 9 (received / 2 ^ 24)

  abbrev six : List ℕ
  six = digits 4 6 (received % 2 ^ 24)

  as_received : digits 4 15 word ≡ digits 4 15 received
  as_received = sym (digits_low 4 15 word)

  in_two : digits 4 15 received ≡ nine ++ six
  in_two = ap (digits 4 15) (sym (div-add-mod' received (2 ^ 24))) ∙ digits_append 4 9 6 (received / 2 ^ 24) (received % 2 ^ 24) (omega arith)

  module _ (checks : ℕ) (e : digits 4 6 checks ≡ checks_of nine) where
    pub same_sums : six_sums (digits 4 15 word) ≡ six_sums (digits 4 6 (bit_xor checks (received % 2 ^ 24)))
    same_sums =
        ap six_sums (as_received ∙ in_two) ∙ missing nine six (length_digits 4 9 (received / 2 ^ 24)) (symbols_digits 9 (received / 2 ^ 24)) (length_digits 4 6 (received % 2 ^ 24))
        ∙ ap six_sums (ap (λ (l : List ℕ). xors l six) (sym e) ∙ sym (digits_xor 4 6 checks (received % 2 ^ 24)))

    -- nothing is missing: the word is a codeword
    pub whole_near : bit_xor checks (received % 2 ^ 24) ≡ 0 → Near (digits 4 15 word) (digits 4 15 received)
    whole_near z =
        let l : List ℕ = digits 4 15 received in
        let c : digits 4 15 received ≡ nine ++ checks_of nine = in_two ∙ ap (λ (m : ℕ). nine ++ digits 4 6 m) (sym (xor_eq checks (received % 2 ^ 24) z)) ∙ ap (λ (l : List ℕ). nine ++ l) e in
        record {
          code = subst Codeword (sym c) (encoded nine (length_digits 4 9 (received / 2 ^ 24)) (symbols_digits 9 (received / 2 ^ 24)));
          within = omega (arith, ap (λ (v : List ℕ). differing v l) as_received ∙ differing_self l);
        }

    -- what explains the sums takes the word to a codeword
    pub mended_near : (n : ℕ) → Mistakes (six_sums (digits 4 6 (bit_xor checks (received % 2 ^ 24)))) n → Near (digits 4 15 word) (digits 4 15 (bit_xor received n))
    mended_near n m =
        let w : List ℕ = digits 4 15 received in
        let v : List ℕ = digits 4 15 n in
        let lw : length w ≡ 15 = length_digits 4 15 received in
        let lv : length v ≡ 15 = length_digits 4 15 n in
        let x : digits 4 15 (bit_xor received n) ≡ xors w v = digits_xor 4 15 received n in
        let lx : length (xors w v) ≡ 15 = length_xors w v (lw ∙ sym lv) ∙ lw in
        let s : six_sums v ≡ six_sums w = m.sums ∙ sym same_sums ∙ ap six_sums as_received in
        let d : differing (digits 4 15 word) (xors w v) ≡ weight v =
        ap (λ (u : List ℕ). differing u (xors w v)) as_received ∙ differing_weight w (xors w v) (lw ∙ sym lx) ∙ ap weight (xors_cancel w v (lw ∙ sym lv)) in
        rw x
        (record {
          code =
              record {
                size = lx;
                symbols = symbols_xors w v (symbols_digits 15 received) (symbols_digits 15 n);
                roots = λ j p q. at_xors (a_to j) w v (lw ∙ sym lv) ∙ ap (bit_xor (at (a_to j) w)) (six_at v w s j p q) ∙ xor_self (at (a_to j) w);
              };
          within = omega (arith, d, m.few);
        })

    -- where no three symbols explain the sums, no codeword is near
    pub none_near : Explains (digits 4 6 (bit_xor checks (received % 2 ^ 24))) None → (c : List ℕ) → Near (digits 4 15 word) c → ⊥
    none_near none c q =
        let w : List ℕ = digits 4 15 word in
        let lw : length w ≡ 15 = length_digits 4 15 word in
        let l : length w ≡ length c = lw ∙ sym q.code.size in
        none (xors w c) (length_xors w c l ∙ lw) (omega (arith, differing_weight w c l, q.within)) (code_adds_nothing w c lw q.code ∙ same_sums)
