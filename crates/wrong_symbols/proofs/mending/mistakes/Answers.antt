-- `mistakes` meets its contract: the symbols are computed from the last place to the first, and the law of the three symbols does the rest.
-- Assumes nothing.
use mathlib.Core.Path.{◌≡◌}
use mathlib.Core.List.{List}
use Prim.Native.Nat.{ℕ, ◌<◌}
use native.Mathlib.Omega.{arith}
use Rattle.field16.specs.Field.{times}
use Rattle.field16.proofs.Elements.{times_lt}
use Rattle.power_sums.specs.Sums.{third_of}
use Rattle.power_sums.proofs.Lists.{third_lt}
use Rattle.wrong_symbols.proofs.Sound.{third_some, mistaken}
use Rattle.wrong_symbols.proofs.mending.mistakes.Goals as goal

-- a third place and a product are elements
third_small : (u : List ℕ) (z : ℕ) → z ≡ third_of u → z < 16
third_small u z e = omega (arith, third_lt u)

small : (n a b : ℕ) → n ≡ times a b → n < 16
small n a b e = omega (arith, times_lt a b)

pub symbol_at-requires : goal.symbol_at-requires
symbol_at-requires c =
    let f = c.requires.1 in
    (f.first.0, f.first.1, small _ _ _ c.first_of-first.ensures)

pub symbol_at-requires-2 : goal.symbol_at-requires-2
symbol_at-requires-2 c =
    let f = c.requires.1 in
    (f.second.0, f.second.1, small _ _ _ c.middle_of-middle.ensures)

pub symbol_at-requires-3 : goal.symbol_at-requires-3
symbol_at-requires-3 c =
    let a = c.args in (
      third_some a.s c.five-t.result c.four-u.result a.places c.third-z.result (omega arith) c.requires.0 c.requires.1
          c.five-t.ensures c.four-u.ensures c.third-z.ensures,
      third_small c.four-u.result c.third-z.result c.third-z.ensures,
      small _ _ _ c.last_of-last.ensures,
    )

pub returns : goal.returns
returns c =
    let a = c.args in
    mistaken a.s c.five-t.result c.four-u.result a.places c.third-z.result (omega arith) c.requires.0 c.requires.1
    c.five-t.ensures c.four-u.ensures c.third-z.ensures
    c.first_of-first.result c.middle_of-middle.result c.last_of-last.result c.symbol_at.result c.symbol_at-2.result c.symbol_at-3.result
    c.symbol_at.ensures c.symbol_at-2.ensures c.symbol_at-3.ensures c.first_of-first.ensures c.middle_of-middle.ensures c.last_of-last.ensures
