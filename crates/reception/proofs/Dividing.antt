-- The share of good blocks is a division, and never more than a thousand.
-- Assumes nothing.
use borrow.Author.Tests.{ne_eqb}
use mathlib.Core.Path.{◌≡◌, ap}
use Prim.Native.Nat.{◌*◌, ◌/◌, ◌%◌, ◌≤◌}
use native.Mathlib.Nat.{div-add-mod', div-le_of_le-mul, mod-lt}
use native.Mathlib.Omega.{arith}
use Rattle.reception.specs.Laws.{ShareDivides}
use Rattle.reception.specs.Share.{per_thousand, share_of}
use Rattle.reception.specs.declared.Share.{Share}
use Rattle.reception.proofs.Parts.{parts}

pub share_divides : ShareDivides
unfolding share_of
share_divides r quotient remainder p h e =
    let n = 1000 * r.good in
    let d : per_thousand (n / r.blocks) (n % r.blocks) ≡ per_thousand quotient remainder = rw (p, ne_eqb r.blocks 0 (λ z. omega arith)) at e in
    let same : ◌≡◌ {A = Share} (record { quotient = n / r.blocks; remainder = n % r.blocks }) (record { quotient = quotient; remainder = remainder }) = cc in
    let q : n / r.blocks ≡ quotient = ap (λ (s : Share). s.quotient) same in
    let m : n % r.blocks ≡ remainder = ap (λ (s : Share). s.remainder) same in
    let w = (parts r p).1 in
    let few : n / r.blocks ≤ 1000 = div-le_of_le-mul r.blocks (omega arith) in
    (rw (← q, ← m) (div-add-mod' n r.blocks), rw (← m) (mod-lt n h), omega arith)
