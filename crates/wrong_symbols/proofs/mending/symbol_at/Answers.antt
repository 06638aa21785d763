-- `symbol_at` meets its contract: the symbol moved up by as many places as the power of a that x is.
-- Assumes nothing.
use mathlib.Core.Path.{◌≡◌, sym, ap, ◌∙◌, subst}
use Prim.Native.Nat.{ℕ, ◌*◌, ◌^◌}
use native.Mathlib.Omega.{arith}
use lib.Pow.{shl_exact}
use Rattle.wrong_symbols.specs.Search.{Single}
use Rattle.wrong_symbols.proofs.Placed.{placed}
use Rattle.wrong_symbols.proofs.mending.symbol_at.Goals as goal

pub returns : goal.returns
returns c =
    let k = c.power_of.result in
    let y = c.args.y in
    let e : k * 4 ≡ 4 * k = omega arith in
    subst (λ (n : ℕ). Single c.args.x y n) (sym (shl_exact 4 (k * 4) 64 c.requires.2 (omega (arith, c.power_of.ensures.0)) ∙ ap (λ (m : ℕ). y * 2 ^ m) e))
    (placed k y c.power_of.ensures.0 c.requires.2 c.args.x c.power_of.ensures.1)
