-- What packing and writing a number answer says what the slice or the code was, so that reading and writing go on from there.
-- Assumes nothing.
use Rattle.std.specs.Prelude.{Ok, Err}
use mathlib.Core.Bool.{Bool, true, false}
use mathlib.Core.List.{List}
use mathlib.Core.Path.{◌≡◌, refl, sym, ap, ◌∙◌, subst}
use Prim.Native.Nat.{ℕ, ◌<◌, ◌^◌}
use borrow.Author.Tests.{eq-eqb, eqb-true, eqb-false}
use lib.Dec.{eqb, ltb}
use lib.ListN.{length}
use Rattle.refusal.specs.declared.Refusal.{Refusal}
use Rattle.refusal.specs.declared.Refusal.TheVariants.{OutOfRange}
use Rattle.block.specs.Bits.{Bits, are_bits, bits_of, value}
use Rattle.block.specs.Block.{block_of}
use Rattle.block.specs.Packed.{write_packed, pack_of, number_packed}
use Rattle.block.specs.Read.{read_of, refused}
use Rattle.block.proofs.Reading.{wrong_length, not_a_bit}
use Rattle.block.proofs.RoundTrip.{written_good}
use Rattle.block.proofs.Strings.{are_bits_lem, bits_are, bits_of_val, val_lt}

-- ---- packing

-- s is fifty bits, and n their number
pub record Packs (s : List ℕ) (n : ℕ) : Type 0 where
  pub size : length s ≡ 50
  pub bits : Bits s
  pub number : value s ≡ n

module _ (s : List ℕ) where
  pub packs : (n : ℕ) → pack_of s ≡ Ok n → Packs s n
  unfolding pack_of
  packs n e = by (eqb (length s) 50) (are_bits s) refl refl
    where
      by : (size bits : Bool) → eqb (length s) 50 ≡ size → are_bits s ≡ bits → Packs s n
      by true true k b = let d : Ok (value s) ≡ Ok n = rw (k, b) at e in record { size = eqb-true (length s) 50 k; bits = are_bits_lem s b; number = ap number_packed d }
      by true false k b = let d = rw (k, b) at e in cc
      by false bits k b = let d = rw k at e in cc

  pub packs_not : (why : Refusal) → pack_of s ≡ Err why → read_of s ≡ refused why 0
  unfolding pack_of
  packs_not why e = by (eqb (length s) 50) (are_bits s) refl refl
    where
      by : (size bits : Bool) → eqb (length s) 50 ≡ size → are_bits s ≡ bits → read_of s ≡ refused why 0
      by true true k b = let d = rw (k, b) at e in cc
      by true false k b = sym (not_a_bit s (eqb-true (length s) 50 k) b) ∙ (let d = rw (k, b) at e in cc)
      by false bits k b = sym (wrong_length s (eqb-false (length s) 50 k)) ∙ (let d = rw k at e in cc)

  -- fifty bits do pack, into fifty places of the number
  pub packs_bits : length s ≡ 50 → Bits s → pack_of s ≡ Ok (value s)
  unfolding pack_of
  packs_bits l h = rw (eq-eqb (length s) 50 l, bits_are s h)

  pub fifty_lt : length s ≡ 50 → Bits s → value s < 2 ^ 50
  fifty_lt l h = subst (λ (k : ℕ). value s < 2 ^ k) l (val_lt s h)

-- ---- writing

module _ (code word : ℕ) where
  -- a code was written, and the number's bits are its block
  pub writes : (n : ℕ) → write_packed code word ≡ Ok n → (ltb code 16 ≡ true) × (n < 2 ^ 50) × (bits_of 50 n ≡ block_of code word)
  writes n e = by (ltb code 16) refl
    where
      by : (t : Bool) → ltb code 16 ≡ t → (ltb code 16 ≡ true) × (n < 2 ^ 50) × (bits_of 50 n ≡ block_of code word)
      by true k =
          let g = written_good code word in
          let d : value (block_of code word) ≡ n = ap number_packed (rw k at e) in
          (k, rw (← d) (fifty_lt (block_of code word) g.size g.bits), rw (← d) (bits_of_val 50 (block_of code word) g.bits g.size))
      by false k = let d = rw k at e in cc

  pub writes_not : (why : Refusal) → write_packed code word ≡ Err why → (ltb code 16 ≡ false) × (why ≡ OutOfRange)
  writes_not why e = by (ltb code 16) refl
    where
      by : (t : Bool) → ltb code 16 ≡ t → (ltb code 16 ≡ false) × (why ≡ OutOfRange)
      by true k = let d = rw k at e in cc
      by false k = let d = rw k at e in (k, cc)
