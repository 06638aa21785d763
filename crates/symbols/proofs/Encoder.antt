-- Nine symbols and their check symbols are a codeword: the register holds the symbols times x^6 as far as the generator's roots can tell.
-- Assumes nothing.
use mathlib.Core.List.{List, [], ◌∷◌, ◌++◌}
use mathlib.Core.Path.{◌≡◌, refl, sym, ap, ap₂, ◌∙◌}
use Prim.Native.Nat.{ℕ, zero, suc, ◌<◌, ◌≤◌}
use native.Mathlib.Omega.{arith}
use lib.Bits.{bit_xor, xor_comm, xor_self, xor_zero_l, xor_zero_r}
use lib.Dec.{eqb, eqb→eq}
use lib.ListN.{length, drop, length-append, length-map}
use Rattle.block.specs.Bits.{zeros}
use Rattle.block.proofs.Xor.{xor_assoc}
use Rattle.block.proofs.Below.{at_below}
use Rattle.block.proofs.Strings.{length_xors}
use Rattle.field16.specs.Words.{Symbols, a_to, at, weight}
use Rattle.field16.specs.Field.{times, power}
use Rattle.field16.proofs.Elements.{times_lt, times_comm, times_assoc, times_xor, xor_times, times_one, times_zero, zero_times, power_lt}
use Rattle.field16.proofs.Words.{symbols_xors, at_xors, at_lt, times_swap, at_append}
use Rattle.field16.proofs.Distance.{at_weightless, at_first_zero}
use Rattle.symbols.specs.Code.{Codeword, scaled, generator, encode_step, encode_from, checks_of}

at_scaled : (X y : ℕ) (w : List ℕ) → at X (scaled y w) ≡ times y (at X w)
unfolding at
at_scaled X y [] = sym (times_zero y)
at_scaled X y (c ∷ cs) =
    ap₂ (λ (n z : ℕ). bit_xor (times (times y c) (power X n)) z) (length-map cs (times y)) (at_scaled X y cs)
    ∙ ap (λ (n : ℕ). bit_xor n (times y (at X cs))) (sym (times_assoc y c (power X (length cs))))
    ∙ sym (times_xor y (times c (power X (length cs))) (at X cs))

pub symbols_scaled : (y : ℕ) (w : List ℕ) → Symbols (scaled y w)
symbols_scaled y [] = tt
symbols_scaled y (c ∷ cs) = (times_lt y c, symbols_scaled y cs)

symbols_append : (u v : List ℕ) → Symbols u → Symbols v → Symbols (u ++ v)
symbols_append [] v p q = q
symbols_append (c ∷ cs) v p q = (p.0, symbols_append cs v p.1 q)

-- at a root of the generator x^6 is the value of its lower six coefficients
root : (j : ℕ) → 1 ≤ j → j ≤ 6 → power (a_to j) 6 ≡ at (a_to j) (drop 1 generator)
unfolding at generator
root zero p q = absurd (omega arith)
root (suc j) p q =
    eqb→eq (power (a_to (suc j)) 6) (at (a_to (suc j)) (drop 1 generator))
    (at_below 6 (λ j. eqb (power (a_to (suc j)) 6) (at (a_to (suc j)) (drop 1 generator))) tt j (omega arith))

length_generator : length (drop 1 generator) ≡ 6
unfolding generator
length_generator = refl

-- the register keeps its six symbols
pub length_step : (r : List ℕ) (s : ℕ) → length r ≡ 6 → length (encode_step r s) ≡ 6
unfolding encode_step
length_step [] s e = absurd (omega arith)
length_step (top ∷ rest) s e =
    let l : length (rest ++ (0 ∷ [])) ≡ 6 = length-append rest (0 ∷ []) ∙ omega arith in
    length_xors (rest ++ (0 ∷ [])) (scaled (bit_xor top s) (drop 1 generator)) (l ∙ sym (length-map (drop 1 generator) (times (bit_xor top s)) ∙ length_generator)) ∙ l

pub symbols_step : (r : List ℕ) (s : ℕ) → Symbols r → Symbols (encode_step r s)
unfolding encode_step
symbols_step [] s p = tt
symbols_step (top ∷ rest) s p =
    symbols_xors (rest ++ (0 ∷ [])) (scaled (bit_xor top s) (drop 1 generator)) (symbols_append rest (0 ∷ []) p.1 (omega arith, tt)) (symbols_scaled (bit_xor top s) (drop 1 generator))

pub length_encode : (r ss : List ℕ) → length r ≡ 6 → length (encode_from r ss) ≡ 6
unfolding encode_from
length_encode r [] e = e
length_encode r (s ∷ ss) e = length_encode (encode_step r s) ss (length_step r s e)

pub symbols_encode : (r ss : List ℕ) → Symbols r → Symbols (encode_from r ss)
unfolding encode_from
symbols_encode r [] p = p
symbols_encode r (s ∷ ss) p = symbols_encode (encode_step r s) ss (symbols_step r s p)

module _ (X : ℕ) (hX : X < 16) (is-root : power X 6 ≡ at X (drop 1 generator)) where
  -- moved up by one place
  at_moved : (w : List ℕ) → at X (w ++ (0 ∷ [])) ≡ times X (at X w)
  unfolding at power
  at_moved w =
      at_append X w (0 ∷ []) ∙ ap (bit_xor (times (at X w) (power X 1))) (at_first_zero X 0 [] refl)
      ∙ xor_zero_r (times (at X w) (power X 1)) ∙ ap (times (at X w)) (times_comm X 1 ∙ times_one X hX) ∙ times_comm (at X w) X

  at_step : (r : List ℕ) (s : ℕ) → length r ≡ 6 → at X (encode_step r s) ≡ bit_xor (times X (at X r)) (times s (power X 6))
  unfolding encode_step at power
  at_step [] s e = absurd (omega arith)
  at_step (top ∷ rest) s e =
      let l : length (rest ++ (0 ∷ [])) ≡ 6 = length-append rest (0 ∷ []) ∙ omega arith in
      let g : List ℕ = scaled (bit_xor top s) (drop 1 generator) in
      let five : length rest ≡ 5 = omega arith in
      let p : ℕ = power X 6 in
      let up : ℕ = times X (at X rest) in
      at_xors X (rest ++ (0 ∷ [])) g (l ∙ sym (length-map (drop 1 generator) (times (bit_xor top s)) ∙ length_generator))
      ∙ ap₂ bit_xor (at_moved rest) (at_scaled X (bit_xor top s) (drop 1 generator) ∙ ap (times (bit_xor top s)) (sym is-root) ∙ xor_times top s p)
      ∙ sym (xor_assoc up (times top p) (times s p)) ∙ ap (λ (n : ℕ). bit_xor n (times s p)) (xor_comm up (times top p))
      ∙ ap (λ (n : ℕ). bit_xor (bit_xor n up) (times s p)) (times_swap top X (power X 5) ∙ ap (λ (k : ℕ). times X (times top (power X k))) (sym five))
      ∙ ap (λ (n : ℕ). bit_xor n (times s p)) (sym (times_xor X (times top (power X (length rest))) (at X rest)))

  at_encode : (r ss : List ℕ) → length r ≡ 6 → at X (encode_from r ss) ≡ bit_xor (times (at X r) (power X (length ss))) (times (at X ss) (power X 6))
  unfolding encode_from at power
  at_encode r [] e =
      sym (ap₂ bit_xor (times_comm (at X r) 1 ∙ times_one (at X r) (at_lt X r)) (zero_times (power X 6)) ∙ xor_zero_r (at X r))
  at_encode r (s ∷ ss) e =
      let p : ℕ = power X 6 in
      let q : ℕ = power X (length ss) in
      at_encode (encode_step r s) ss (length_step r s e)
      ∙ ap (λ (n : ℕ). bit_xor (times n q) (times (at X ss) p)) (at_step r s e)
      ∙ ap (λ (n : ℕ). bit_xor n (times (at X ss) p)) (xor_times (times X (at X r)) (times s p) q)
      ∙ xor_assoc (times (times X (at X r)) q) (times (times s p) q) (times (at X ss) p)
      ∙ ap₂ bit_xor (ap (λ (n : ℕ). times n q) (times_comm X (at X r)) ∙ sym (times_assoc (at X r) X q))
      (ap (λ (n : ℕ). bit_xor n (times (at X ss) p)) (sym (times_assoc s p q) ∙ ap (times s) (times_comm p q) ∙ times_assoc s q p) ∙ sym (xor_times (times s q) (at X ss) p))

weight_zeros : weight (zeros 6) ≡ 0
unfolding weight
weight_zeros = refl

symbols_zeros : (n : ℕ) → Symbols (zeros n)
symbols_zeros zero = tt
symbols_zeros (suc n) = (omega arith, symbols_zeros n)

pub length_checks : (nine : List ℕ) → length (checks_of nine) ≡ 6
length_checks nine = length_encode (zeros 6) nine refl

pub symbols_checks : (nine : List ℕ) → Symbols (checks_of nine)
symbols_checks nine = symbols_encode (zeros 6) nine (symbols_zeros 6)

pub encoded : (nine : List ℕ) → length nine ≡ 9 → Symbols nine → Codeword (nine ++ checks_of nine)
encoded nine l s =
    record {
      size = length-append nine (checks_of nine) ∙ omega (arith, length_checks nine);
      symbols = symbols_append nine (checks_of nine) s (symbols_checks nine);
      roots = λ j p q.
          let X : ℕ = a_to j in
          at_append X nine (checks_of nine)
          ∙ ap₂ (λ (n y : ℕ). bit_xor (times (at X nine) (power X n)) y) (length_checks nine)
          (at_encode X (power_lt 2 j) (root j p q) (zeros 6) nine refl
          ∙ ap (λ (n : ℕ). bit_xor (times n (power X (length nine))) (times (at X nine) (power X 6))) (at_weightless X (zeros 6) weight_zeros)
          ∙ ap (λ (n : ℕ). bit_xor n (times (at X nine) (power X 6))) (zero_times (power X (length nine))) ∙ xor_zero_l (times (at X nine) (power X 6)))
          ∙ xor_self (times (at X nine) (power X 6));
    }
