-- `from_first` meets its contract: the highest 1 of a rest of up to six places comes to stand in the first of them.
-- Assumes nothing.
use Rattle.std.proofs.lemmas.Nat.{leading_top}
use Rattle.std.specs.Int.Count.{count_leading_zeros}
use mathlib.Core.Path.{◌≡◌, sym, ap, ◌∙◌}
use Prim.Native.Nat.{ℕ, suc, ◌+◌, ◌-◌, ◌*◌, ◌%◌, ◌^◌, ◌<◌, ◌≤◌}
use native.Mathlib.Decide.{dec_le}
use native.Mathlib.Nat.{mod-eq_of_lt, mul-le-mul_right}
use native.Mathlib.Omega.{arith}
use lib.Pow.{pow-add, pow_mono, shl_lt}
use Rattle.mending.specs.Search.{FromFirst}
use Rattle.mending.proofs.search.from_first.Goals as goal

module _ (rest : ℕ) (p : 0 < rest) (h : rest < 64) where
  up : ℕ
  up = count_leading_zeros 32 rest - 26

  top : (j : ℕ) × (count_leading_zeros 32 rest + suc j ≡ 32) × (2 ^ j ≤ rest) × (rest < 2 ^ suc j)
  top = leading_top 32 rest p (omega arith)

  abbrev highest : ℕ
  highest = top.0

  among_six : highest ≤ 5
  among_six = elim (dec_le 6 highest) [ yes l ↦ absurd (omega (arith, pow_mono l, top.2)) | no l ↦ omega arith ]

  enough : 26 ≤ count_leading_zeros 32 rest
  enough = omega (arith, top.1, among_six)

  places : highest + up ≡ 5
  unfolding up
  places = omega (arith, top.1, among_six)

  first : 2 ^ highest * 2 ^ up ≡ 32
  first = sym (pow-add 2 highest up) ∙ ap (λ (n : ℕ). 2 ^ n) places

  high : 32 ≤ rest * 2 ^ up
  high = omega (arith, mul-le-mul_right (2 ^ up) top.2, first)

  low : rest * 2 ^ up < 64
  low = let e : suc highest + up ≡ 6 = omega (arith, places) in rw e at (shl_lt {a = rest} (suc highest) up top.3)

  shifted : rest * 2 ^ up % 2 ^ 32 ≡ rest * 2 ^ up
  shifted = mod-eq_of_lt (omega (arith, low))

  from_first_lem : (behind : ℕ) → behind ≤ 44 → FromFirst (rest * 2 ^ behind) (44 - behind + up) (rest * 2 ^ up % 2 ^ 32)
  from_first_lem behind inside =
      let e : 49 - (44 - behind + up) ≡ behind + highest = omega (arith, places) in
      let d : rest * 2 ^ behind * (2 ^ highest * 2 ^ up) ≡ rest * 2 ^ behind * 32 = ap (λ (n : ℕ). rest * 2 ^ behind * n) first in
      rw shifted
      (record { is = rw (e, pow-add 2 behind highest) (omega arith); inside = omega (arith, places); high = high; low = low })

pub overflow_sub-up : goal.overflow_sub-up
overflow_sub-up c = enough c.args.rest c.requires.0 c.requires.1

pub overflow_cast-result-2 : goal.overflow_cast-result-2
unfolding up
overflow_cast-result-2 c = omega (arith, shifted c.args.rest c.requires.0 c.requires.1, low c.args.rest c.requires.0 c.requires.1)

pub returns : goal.returns
unfolding up
returns c = from_first_lem c.args.rest c.requires.0 c.requires.1 c.args.behind c.requires.2
