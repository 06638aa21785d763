-- Readings are taken two by two, as chunks of two.
-- Assumes nothing.
use Rattle.std.proofs.Common.{◌≡◌, refl, sym, ap, ◌∙◌, ℕ, suc, ◌/◌, ◌<◌, List, [], ◌∷◌, map, length, get_or, arith}
use Rattle.std.proofs.lemmas.List.{get_or-map, length-map}
use Rattle.std.specs.Prelude.{Float}
use Rattle.std.specs.Simd.{first_chunks}
use Rattle.halves.specs.Decision.{decision_of, bit_of, bits_of}
use Rattle.halves.specs.Laws.{no_pair}
use Rattle.halves.specs.Pairs.{pairs_of, pair_of}
use Rattle.halves.specs.declared.Pair.{Pair}
use Rattle.halves.specs.declared.Polarity.{Polarity}

pub pairs_are : (xs : List Float) → map pair_of (first_chunks 2 (length xs / 2) xs) ≡ pairs_of xs
unfolding pairs_of
pairs_are [] = refl
pairs_are (x ∷ []) = refl
pairs_are (x ∷ y ∷ rest) =
    let e : length (x ∷ y ∷ rest) / 2 ≡ suc (length rest / 2) = omega arith in
    ap (λ (k : ℕ). map pair_of (first_chunks 2 k (x ∷ y ∷ rest))) e ∙ ap (λ (ps : List Pair). record { first = x; second = y } ∷ ps) (pairs_are rest)

pub pairs_length : (xs : List Float) → length (pairs_of xs) ≡ length xs / 2
unfolding pairs_of
pairs_length [] = refl
pairs_length (x ∷ []) = refl
pairs_length (x ∷ y ∷ rest) = let e = pairs_length rest in omega arith

-- the bit at a place is that of the chunk there
pub bit_there : (polarity : Polarity) (margin : Float) (xs : List Float) (chunks : List (List Float)) (n : ℕ) (d : List Float) → chunks ≡ first_chunks 2 (length xs / 2) xs → n < length chunks
    → bit_of polarity (decision_of margin (pair_of (get_or chunks n d))) ≡ get_or (bits_of polarity margin (pairs_of xs)) n 0
unfolding bits_of
bit_there polarity margin xs chunks n d e h =
    let bit : Pair → ℕ = λ p. bit_of polarity (decision_of margin p) in
    ap bit (sym (get_or-map pair_of chunks n d no_pair h))
    ∙ sym (get_or-map bit (map pair_of chunks) n no_pair 0 (omega (arith, length-map chunks pair_of)))
    ∙ ap (λ (ps : List Pair). get_or (map bit ps) n 0) (ap (map pair_of) e ∙ pairs_are xs)

pub bits_length : (polarity : Polarity) (margin : Float) (xs : List Float) → length (bits_of polarity margin (pairs_of xs)) ≡ length xs / 2
unfolding bits_of
bits_length polarity margin xs = length-map (pairs_of xs) _ ∙ pairs_length xs
