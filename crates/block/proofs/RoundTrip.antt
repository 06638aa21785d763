-- What is written: the bits of one number, a good block, which reads back; and what is taken as a block is what is written.
-- Assumes nothing.
use mathlib.Core.List.{List, ◌++◌, append_assoc}
use mathlib.Core.Path.{◌≡◌, refl, sym, ap, ap₂, ◌∙◌}
use Prim.Native.Nat.{ℕ, ◌<◌, ◌+◌, ◌*◌, ◌^◌}
use native.Mathlib.Omega.{arith}
use lib.ListN.{length, take, drop, length-append}
use lib.Seq.{take_at, drop_at}
use Rattle.block.specs.Bits.{Bits, bits_of, value, zeros}
use Rattle.block.specs.Block.{Good, code_in, word_in, body_of, block_of, check_of}
use Rattle.block.specs.Read.{carried, read_of}
use Rattle.block.proofs.CheckWord.{check_lt}
use Rattle.block.proofs.Reading.{good_reads}
use Rattle.block.proofs.Strings.{bits_append, bits_bits_of, bits_of_above, bits_of_join, bits_of_up, length_bits_of, val_bits_of, val_cons, val_join}

module _ (code word : ℕ) where
  pub length_body : length (body_of code word) ≡ 36
  unfolding body_of
  length_body = omega (arith, length-append (bits_of 4 code) (bits_of 32 word), length_bits_of 4 code, length_bits_of 32 word)

  bits_body : Bits (body_of code word)
  unfolding body_of
  bits_body = bits_append (bits_of 4 code) (bits_of 32 word) (bits_bits_of 4 code) (bits_bits_of 32 word)

  body_check_lt : check_of (body_of code word) < 8192
  body_check_lt = check_lt (body_of code word) bits_body

  -- code and word are the bits of one number
  pub body_number : word < 2 ^ 32 → bits_of 36 (code * 2 ^ 32 + word) ≡ body_of code word
  unfolding body_of
  body_number hw = bits_of_join 4 32 code word hw

  -- behind the prefix they stand above thirteen zeros
  pub open_body : word < 2 ^ 32 → code < 16 → bits_of 49 (2 ^ 49 + (code * 2 ^ 32 + word) * 2 ^ 13) ≡ body_of code word ++ zeros 13
  open_body hw hc =
      let b : ℕ = code * 2 ^ 32 + word in
      let e : 2 ^ 49 + b * 2 ^ 13 ≡ 1 * 2 ^ 49 + b * 2 ^ 13 = omega arith in
      ap (bits_of 49) e ∙ bits_of_above 49 1 (b * 2 ^ 13) (omega arith)
      ∙ bits_of_up 36 13 b ∙ ap (λ (l : List ℕ). l ++ zeros 13) (body_number hw)

  -- and the check word takes the place of the zeros
  pub block_number : word < 2 ^ 32 → code < 16 → value (block_of code word) ≡ 2 ^ 49 + (code * 2 ^ 32 + word) * 2 ^ 13 + check_of (body_of code word)
  unfolding block_of
  block_number hw hc =
      let b : List ℕ = body_of code word in
      let k : ℕ = check_of b in
      let rest : List ℕ = b ++ bits_of 13 k in
      let size : length rest ≡ 49 = omega (arith, length-append b (bits_of 13 k), length_bits_of 13 k, length_body) in
      let body : value b ≡ code * 2 ^ 32 + word = ap value (sym (body_number hw)) ∙ val_bits_of 36 (code * 2 ^ 32 + word) (omega arith) in
      let joined : value rest ≡ value b * 2 ^ 13 + value (bits_of 13 k) = val_join b (bits_of 13 k) 13 (length_bits_of 13 k) (bits_bits_of 13 k) in
      val_cons 1 rest ∙ ap₂ (λ (n v : ℕ). 1 * 2 ^ n + v) size (joined ∙ ap₂ (λ (x y : ℕ). x * 2 ^ 13 + y) body (val_bits_of 13 k body_check_lt)) ∙ omega arith

  pub written_good : Good (block_of code word)
  unfolding block_of
  written_good =
      let b : List ℕ = body_of code word in
      let k : ℕ = check_of b in
      record {
        size = omega (arith, length-append b (bits_of 13 k), length_bits_of 13 k, length_body);
        bits = (omega arith, bits_append b (bits_of 13 k) bits_body (bits_bits_of 13 k));
        prefix = refl;
        check = ap value (drop_at b (bits_of 13 k) 36 length_body) ∙ val_bits_of 13 k body_check_lt ∙ ap check_of (sym (take_at b (bits_of 13 k) 36 length_body));
      }

  -- the code and the word stand in their places
  said_back : code < 16 → word < 2 ^ 32 → carried (value (code_in (block_of code word))) (value (word_in (block_of code word))) ≡ carried code word
  unfolding block_of body_of
  said_back hc hw =
      let c : List ℕ = bits_of 4 code in
      let w : List ℕ = bits_of 32 word in
      let k : List ℕ = bits_of 13 (check_of (body_of code word)) in
      let e : (c ++ w) ++ k ≡ c ++ (w ++ k) = append_assoc c w k in
      ap₂ carried (ap value (ap (take 4) e ∙ take_at c (w ++ k) 4 (length_bits_of 4 code)) ∙ val_bits_of 4 code hc)
      (ap value (ap (take 32) (ap (drop 4) e ∙ drop_at c (w ++ k) 4 (length_bits_of 4 code)) ∙ take_at w k 32 (length_bits_of 32 word)) ∙ val_bits_of 32 word hw)

  -- what is written reads back
  pub read_back : code < 16 → word < 2 ^ 32 → read_of (block_of code word) ≡ carried code word
  read_back hc hw = sym (good_reads (block_of code word) written_good) ∙ said_back hc hw
