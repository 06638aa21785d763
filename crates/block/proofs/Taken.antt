-- What is taken as a block is exactly what the writer writes: every test that reading passed fixes a part of the slice.
-- Assumes nothing.
use mathlib.Core.Bool.{Bool, true, false}
use mathlib.Core.List.{List, ◌∷◌, ◌++◌}
use Rattle.std.specs.Prelude.{Result}
use mathlib.Core.Path.{◌≡◌, refl, sym, ap, ap₂, ◌∙◌, subst}
use Prim.Native.Nat.{ℕ, ◌<◌, ◌^◌}
use native.Mathlib.Omega.{arith}
use borrow.Author.Tests.{eqb-true}
use lib.Dec.{eqb}
use lib.ListN.{length, drop, length-take, length-drop}
use Rattle.refusal.specs.declared.Refusal.{Refusal}
use Rattle.refusal.specs.declared.Refusal.TheVariants.{NotABit, WrongLength, WrongPrefix, WrongCheckWord}
use Rattle.block.specs.Bits.{Bits, are_bits, bits_of, value}
use Rattle.block.specs.Block.{block_of, body_of, prefix_in, code_in, word_in, body_in, check_in, check_of}
use Rattle.block.specs.Read.{carried, code_read, must, read_of, word_read}
use Rattle.block.specs.declared.Body.{Body}
use Rattle.block.specs.declared.Refused.{Refused}
use Rattle.block.proofs.Reading.{body_is}
use Rattle.block.proofs.Strings.{are_bits_lem, bits_drop, bits_take, bits_of_val, next, parts, val_lt}

-- a block came through a test only where the test held
through : (t : Bool) (refusal : Refusal) (told : ℕ) (answer : Result Body Refused) {code word : ℕ} → must t refusal told answer ≡ carried code word → (t ≡ true) × (answer ≡ carried code word)
through true refusal told answer e = (refl, e)
through false refusal told answer e = cc

module _ (s : List ℕ) (code word : ℕ) (e : read_of s ≡ carried code word) where
  tests : (length s ≡ 50) × Bits s × (prefix_in s ≡ 1) × (value (check_in s) ≡ check_of (body_in s)) × (carried (value (code_in s)) (value (word_in s)) ≡ carried code word)
  unfolding read_of
  tests =
      let size = through (eqb (length s) 50) WrongLength 0 _ e in
      let bits = through (are_bits s) NotABit 0 _ size.1 in
      let prefix = through (eqb (prefix_in s) 1) WrongPrefix 0 _ bits.1 in
      let check = through (eqb (value (check_in s)) (check_of (body_in s))) WrongCheckWord _ _ prefix.1 in
      (eqb-true (length s) 50 size.0, are_bits_lem s bits.0, eqb-true (prefix_in s) 1 prefix.0, eqb-true (value (check_in s)) (check_of (body_in s)) check.0, check.1)

  code_is : value (code_in s) ≡ code
  code_is = ap code_read tests.4

  word_is : value (word_in s) ≡ word
  word_is = ap word_read tests.4

  code_bits : Bits (code_in s)
  code_bits = bits_take 4 (drop 1 s) (bits_drop 1 s tests.1)

  word_bits : Bits (word_in s)
  word_bits = bits_take 32 (drop 5 s) (bits_drop 5 s tests.1)

  code_length : length (code_in s) ≡ 4
  code_length = let l = tests.0 in simp (length-take, length-drop) (omega arith)

  word_length : length (word_in s) ≡ 32
  word_length = let l = tests.0 in simp (length-take, length-drop) (omega arith)

  body : body_in s ≡ body_of code word
  unfolding body_of
  body =
      body_is s tests.0 tests.1
      ∙ ap₂ (λ (x y : List ℕ). x ++ y) (sym (bits_of_val 4 (code_in s) code_bits code_length) ∙ ap (bits_of 4) code_is) (sym (bits_of_val 32 (word_in s) word_bits word_length) ∙ ap (bits_of 32) word_is)

  check : check_in s ≡ bits_of 13 (check_of (body_of code word))
  check =
      sym (bits_of_val 13 (check_in s) (bits_drop 37 s tests.1) (omega (arith, tests.0, length-drop 37 s)))
      ∙ ap (bits_of 13) (tests.3 ∙ ap check_of body)

  pub taken : (code < 16) × (word < 2 ^ 32) × (s ≡ block_of code word)
  unfolding block_of
  taken = (
    rw (sym code_is) (subst (λ (n : ℕ). value (code_in s) < 2 ^ n) code_length (val_lt (code_in s) code_bits)),
    rw (sym word_is) (subst (λ (n : ℕ). value (word_in s) < 2 ^ n) word_length (val_lt (word_in s) word_bits)),
    next s 0 (omega (arith, tests.0)) ∙ ap₂ (λ (p : ℕ) (t : List ℕ). p ∷ t) tests.2 (parts s 1 36 ∙ ap₂ (λ (x y : List ℕ). x ++ y) body check),
  )
