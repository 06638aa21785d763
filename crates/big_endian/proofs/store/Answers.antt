-- `store` meets its contract: each byte goes from those to be stored to those that are.
-- Assumes nothing.
use Rattle.std.proofs.Common.{ℕ, length, arith, refl, sym, ap, ◌∙◌}
use Rattle.block.proofs.Storing.{stores_one, stored_all}
use Rattle.big_endian.specs.Digits.{digits}
use Rattle.big_endian.proofs.Bytes.{eight_written}
use Rattle.big_endian.proofs.Digits.{digits_last}
use Rattle.big_endian.proofs.store.Goals as goal

pub returns-then-out-eq8 : goal.returns-then-out-eq8
returns-then-out-eq8 c =
    c.copy_from_slice.ensures.after ∙ c.to_be_bytes.ensures ∙ eight_written c.args.number ∙ ap (λ (k : ℕ). digits 8 k c.args.number) (sym c.if-out-eq8.true)

pub loop-k-preserved : goal.loop-k-preserved
unfolding digits
loop-k-preserved c =
    let lp = c.loop-k in
    stores_one 256 (digits 8) (λ n. refl) (digits_last 8) lp.out lp.k lp.left c.loop-k-test.true (omega arith) ∙ lp.invariant

pub returns : goal.returns
unfolding digits
returns c =
    let lp = c.loop-k in
    let a = c.args in
    stored_all 256 (digits 8) (λ n. refl) (digits_last 8) lp.out (digits 8 (length a.out.now) a.number) lp.k lp.left (omega arith) lp.invariant
