-- The limits: each witness is written out, and the checker computes that it is taken.
-- Assumes nothing.
use mathlib.Core.List.{List, ◌∷◌, ◌++◌}
use mathlib.Core.Path.{◌≡◌, refl, ap, ◌∙◌}
use Prim.Native.Nat.{ℕ, ◌+◌, ◌*◌}
use native.Mathlib.Omega.{arith}
use lib.ListN.{replicate, take, drop, length-replicate}
use Rattle.block.specs.Bits.{bits_of, value_from, xors, zeros}
use Rattle.block.specs.Block.{block_of, body_of}
use Rattle.block.specs.Division.{generator, remainder_from}
use Rattle.block.specs.Read.{carried, read_of}
use Rattle.block.proofs.RoundTrip.{written_good}
use Rattle.block.proofs.Strings.{are_bits_lem}
use Rattle.detection.specs.Slips.{Message, sent, window}
use Rattle.detection.specs.Limits.{FourTaken, FourteenTaken, EightAfterTaken, SevenBeforeTaken, FalseLock}
use Rattle.detection.proofs.Places.{changed_from, changed_lt}
use Rattle.detection.proofs.Seams.{length_sent, repeats}

-- ---- damage: the block of code 0 and word 0, changed

-- the word becomes 0x40600008, whose check word is 0 as well
four_places : List ℕ
four_places = zeros 6 ++ 1 ∷ zeros 7 ++ 1 ∷ 1 ∷ zeros 17 ++ 1 ∷ zeros 16

pub four_taken : FourTaken
unfolding four_places read_of xors block_of body_of bits_of value_from remainder_from
four_taken =
    record {
      block = block_of 0 0;
      good = written_good 0 0;
      changes = four_places;
      pattern = record { size = refl; bits = are_bits_lem four_places refl; some = omega arith };
      four = refl;
      taken = record { code = 0; word = 0x40600008; reads = refl };
    }

-- the word becomes 1: the generator's own fourteen digits, at the end
generator_places : List ℕ
generator_places = zeros 36 ++ bits_of 14 generator

pub fourteen_taken : FourteenTaken
unfolding generator_places read_of xors block_of body_of bits_of value_from remainder_from
fourteen_taken =
    record {
      block = block_of 0 0;
      good = written_good 0 0;
      changes = generator_places;
      pattern = record { size = refl; bits = are_bits_lem generator_places refl; some = omega arith };
      first = 36;
      fourteen = λ k c. record { from = changed_from 36 (bits_of 14 generator) k c; to = changed_lt generator_places k c };
      taken = record { code = 0; word = 1; reads = refl };
    }

-- ---- slips

pub eight_after_taken : EightAfterTaken
unfolding read_of block_of body_of bits_of value_from remainder_from
eight_after_taken =
    record {
      one = record { code = 7; word = 0xd0000000; code_fits = omega arith; word_fits = omega arith };
      two = record { code = 3; word = 0x20000000; code_fits = omega arith; word_fits = omega arith };
      taken = record { code = 0; word = 0x6e; reads = refl };
    }

pub seven_before_taken : SevenBeforeTaken
unfolding read_of block_of body_of bits_of value_from remainder_from
seven_before_taken =
    record {
      one = record { code = 12; word = 0xe0000000; code_fits = omega arith; word_fits = omega arith };
      two = record { code = 14; word = 0x40000000; code_fits = omega arith; word_fits = omega arith };
      taken = record { code = 13; word = 0xbc800000; reads = refl };
    }

-- ---- the lock that is false: the last 22 bits of this block before its first 28 are a good block

repeated : Message
repeated = record { code = 0; word = 0x5d00; code_fits = omega arith; word_fits = omega arith }

turned : List ℕ
turned = drop 28 (block_of 0 0x5d00) ++ take 28 (block_of 0 0x5d00)

turned_reads : read_of turned ≡ carried 0 0xda7c000
unfolding turned read_of block_of body_of bits_of value_from remainder_from
turned_reads = refl

turns : (n : ℕ) → window (sent (replicate (n + 2) repeated)) (50 * n + 28) ≡ turned
unfolding turned repeated
turns n =
    repeats repeated (n + 2) 28 (50 * n + 28) (omega arith) (omega arith)
    (omega (arith, length_sent (replicate (n + 2) repeated), length-replicate (n + 2) repeated))

pub false_lock : FalseLock
false_lock =
    record {
      message = repeated;
      slip = 28;
      inside = omega arith;
      taken = λ n. record { code = 0; word = 0xda7c000; reads = ap read_of (turns n) ∙ turned_reads };
    }
