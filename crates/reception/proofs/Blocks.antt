-- What one block counts for: one, and at most one of each part.
-- Assumes nothing.
use borrow.Author.Tests.{ltb-true, ltb-false}
use mathlib.Core.Bool.{Bool, true, false, cond, ◌&&◌}
use mathlib.Core.Path.{◌≡◌, refl, sym, ap, ◌∙◌}
use Rattle.std.proofs.Common.{Result, Ok, Err}
use Prim.Native.Nat.{ℕ, zero, suc, ◌^◌, ◌<◌, ◌≤◌}
use native.Mathlib.Omega.{arith}
use mir.Val.{bool_byte}
use lib.Dec.{eqb, ltb, eqb-suc-zero}
use lib.ListN.{get_or, set, length-set}
use Rattle.block.specs.Bits.{bits_of, zeros}
use Rattle.block.specs.Packed.{read_packed}
use Rattle.block.specs.Read.{carried}
use Rattle.block.specs.declared.Body.{Body}
use Rattle.block.specs.declared.Refused.{Refused}
use Rattle.block.proofs.Reading.{reads_as, wide}
use Rattle.block.proofs.Taken.{taken}
use Rattle.record.specs.Editions.{is_filler}
use Rattle.record.specs.declared.Edition.{Edition}
use Rattle.reception.specs.Laws.{Sixteen, Whole}
use Rattle.reception.specs.Tally.{one_block, one_filler}
use Rattle.reception.proofs.Totals.{total_one, total_zeros}

-- a block's code has four bits
pub code_lt : (n code word : ℕ) → read_packed n ≡ carried code word → code < 16
code_lt n code word e = by (ltb n (2 ^ 50)) refl
  where
    by : (t : Bool) → ltb n (2 ^ 50) ≡ t → code < 16
    by true k = (taken (bits_of 50 n) code word (sym (reads_as n (ltb-true n (2 ^ 50) k)) ∙ e)).0
    by false k = let w = wide n (ltb-false n (2 ^ 50) k) in cc

pub filler_le : (edition : Edition) (code word : ℕ) → one_filler edition code word ≤ 1
filler_le edition code word = by (eqb code 0 && is_filler edition word)
  where
    by : (t : Bool) → cond t 1 0 ≤ 1
    by true = omega arith
    by false = omega arith

-- a test that is told as 1 or 0
pub filler_is : (edition : Edition) (code word : ℕ) {told : Bool} {filler : ℕ} → told ≡ eqb code 0 && is_filler edition word → filler ≡ bool_byte told → filler ≡ one_filler edition code word
filler_is edition code word {told} is e = e ∙ ap bool_byte is ∙ by (eqb code 0 && is_filler edition word)
  where
    by : (t : Bool) → bool_byte t ≡ cond t 1 0
    by true = refl
    by false = refl

-- ---- as a report

module _ (edition : Edition) where
  -- a filler counts under code 0
  filler_first : (code word : ℕ) → one_filler edition code word ≤ get_or (set (zeros 16) code 1) 0 0
  filler_first zero word = filler_le edition 0 word
  filler_first (suc code) word = rw (eqb-suc-zero code) (omega arith)

  pub one_is_one : (read : Result Body Refused) → (one_block edition read).blocks ≡ 1
  one_is_one (Ok body) = refl
  one_is_one (Err why) = refl

  pub one_sixteen : (read : Result Body Refused) → Sixteen (one_block edition read)
  one_sixteen (Ok body) = length-set (zeros 16) body.code 1
  one_sixteen (Err why) = refl

  pub one_whole : (n : ℕ) (read : Result Body Refused) → read_packed n ≡ read → Whole (one_block edition read)
  one_whole n (Ok body) e = record { good = omega arith; fillers = filler_first body.code body.word; codes = total_one 16 body.code 1 (code_lt n body.code body.word e) }
  one_whole n (Err why) e = record { good = omega arith; fillers = omega arith; codes = total_zeros 16 }
