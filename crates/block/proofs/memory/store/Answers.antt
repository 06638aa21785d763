-- `store` meets its contract. The loop's invariant: the bits still to be stored, before those that are, are all the bits.
-- Assumes nothing.
use mathlib.Core.List.{List, ◌++◌, append-nil}
use mathlib.Core.Path.{refl, ap, ◌∙◌}
use Prim.Native.Nat.{ℕ}
use native.Mathlib.Omega.{arith}
use lib.ListN.{length}
use lib.Seq.{drop-length}
use Rattle.block.specs.Bits.{bits_of}
use Rattle.block.proofs.Storing.{stores_one, stored_all}
use Rattle.block.proofs.memory.store.Goals as goal

pub loop-k-init : goal.loop-k-init
loop-k-init c =
    let out = c.args.out.now in
    let all = bits_of (length out) c.args.number in
    ap (λ (l : List ℕ). all ++ l) (drop-length out) ∙ append-nil all

pub loop-k-preserved : goal.loop-k-preserved
unfolding bits_of
loop-k-preserved c =
    let lp = c.loop-k in
    stores_one 2 bits_of (λ n. refl) (λ k n. refl) lp.out lp.k lp.left c.loop-k-test.true (omega arith) ∙ lp.invariant

pub returns : goal.returns
unfolding bits_of
returns c =
    let lp = c.loop-k in
    let a = c.args in
    stored_all 2 bits_of (λ n. refl) (λ k n. refl) lp.out (bits_of (length a.out.now) a.number) lp.k lp.left (omega arith) lp.invariant
