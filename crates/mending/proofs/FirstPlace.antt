-- The changed places as one number, told by the first of them and the six bits from there: with zeros past the end both are one string.
-- Assumes nothing.
use mathlib.Core.List.{List, ◌∷◌, ◌++◌, append_assoc}
use mathlib.Core.Path.{◌≡◌, sym, ap, ap₂, ◌∙◌}
use Prim.Native.Nat.{ℕ, ◌+◌, ◌-◌, ◌*◌, ◌/◌, ◌%◌, ◌^◌}
use native.Mathlib.Omega.{arith}
use lib.ListN.{length, get_or, take, drop, length-append, length-replicate, get_or-append}
use lib.Seq.{drop_at, get_or_at, take_at}
use Rattle.block.specs.Bits.{bits_of, value, zeros}
use Rattle.block.proofs.Strings.{bits_bits_of, bits_of_first, bits_of_join, bits_of_none, bits_of_up, length_bits_of, val_bits_of}
use Rattle.detection.specs.Damage.{Changed, Among}
use Rattle.detection.proofs.Places.{changed_before, changed_from, changed_lt, changed_weight}
use Rattle.mending.specs.Changes.{Burst, First, six_from}
use Rattle.mending.specs.Search.{FromFirst}

-- bits between zeros are within as many places
pub within : (j n : ℕ) (w : List ℕ) (k : ℕ) → Changed (zeros j ++ (w ++ zeros n)) k → Among j (length w) k
within j n w k c =
    record {
      from = changed_from j (w ++ zeros n) k c;
      to = omega (arith, changed_before (zeros j ++ w) n k (rw append_assoc c), length-append (zeros j) w, length-replicate {A = ℕ} j 0);
    }

module _ (m place pattern : ℕ) (f : FromFirst m place pattern) where
  abbrev places : List ℕ
  places = bits_of 50 m

  -- with five zeros past the end the six bits stand between zeros
  spread : places ++ zeros 5 ≡ zeros place ++ (bits_of 6 pattern ++ zeros (49 - place))
  spread =
      let n : ℕ = 49 - place in
      let same : m * 2 ^ 5 ≡ pattern * 2 ^ n = omega (arith, f.is) in
      let alone : pattern ≡ 0 * 2 ^ 6 + pattern = omega arith in
      let size : 55 ≡ place + 6 + n = omega (arith, f.inside) in
      sym (bits_of_up 50 5 m) ∙ ap₂ bits_of size same ∙ bits_of_up (place + 6) n pattern
      ∙ ap (λ (l : List ℕ). l ++ zeros n)
      (ap (bits_of (place + 6)) alone ∙ bits_of_join place 6 0 pattern f.low ∙ ap (λ (l : List ℕ). l ++ bits_of 6 pattern) (bits_of_none place))
      ∙ append_assoc (zeros place) (bits_of 6 pattern) (zeros n)

  -- the first of the six is a 1
  begins : bits_of 6 pattern ≡ 1 ∷ bits_of 5 pattern
  begins = let e : pattern / 2 ^ 5 % 2 ≡ 1 = omega (arith, f.high, f.low) in bits_of_first 5 pattern ∙ ap (λ (b : ℕ). b ∷ bits_of 5 pattern) e

  in_places : (k : ℕ) → Changed places k → Changed (zeros place ++ (bits_of 6 pattern ++ zeros (49 - place))) k
  in_places k c =
      ap (λ (t : List ℕ). get_or t k 0) (sym spread)
      ∙ get_or-append places (zeros 5) 0 k (omega (arith, changed_lt places k c)) ∙ c

  among : (k : ℕ) → Changed places k → Among place 6 k
  among k c = rw (length_bits_of 6 pattern) at (within place (49 - place) (bits_of 6 pattern) k (in_places k c))

  pub told_first : First places place
  told_first =
      record {
        changed =
            sym (get_or-append places (zeros 5) 0 place (omega (arith, f.inside, length_bits_of 50 m)))
            ∙ ap (λ (t : List ℕ). get_or t place 0) (spread ∙ ap (λ (t : List ℕ). zeros place ++ (t ++ zeros (49 - place))) begins)
            ∙ get_or_at (zeros place) 1 (bits_of 5 pattern ++ zeros (49 - place)) 0 place (length-replicate place 0);
        least = λ k c. (among k c).from;
      }

  pub told_pattern : six_from place places ≡ pattern
  told_pattern =
      ap (λ (t : List ℕ). value (take 6 t)) (ap (drop place) spread ∙ drop_at (zeros place) (bits_of 6 pattern ++ zeros (49 - place)) place (length-replicate place 0))
      ∙ ap value (take_at (bits_of 6 pattern) (zeros (49 - place)) 6 (length_bits_of 6 pattern)) ∙ val_bits_of 6 pattern f.low

  pub told_burst : Burst 6 places
  told_burst =
      record {
        pattern = record { size = length_bits_of 50 m; bits = bits_bits_of 50 m; some = changed_weight places place told_first.changed };
        within = record { first = place; among = among };
      }
