-- `choose` meets its contract: each return is the case of the choice that led there.
-- Assumes nothing.
use borrow.Author.Rules.{rules}
use mathlib.Core.Path.{◌≡◌, refl}
use Rattle.block.specs.declared.Aerial.TheVariants.{Second}
use Rattle.block.proofs.choose.Goals as goal

pub returns-in-Ok-Second : goal.returns-in-Ok-Second
returns-in-Ok-Second c =
    let second : c.in-Ok-Second.field-0 ≡ Second = search rules in
    simp (← c.choose_between-which.ensures, c.in-Ok-Second.is, second) (record { bits = refl; part = refl; place = refl; number = refl; remainder = refl })

pub returns-in-Err : goal.returns-in-Err
returns-in-Err c =
    simp (← c.choose_between-which.ensures, c.in-Err.is) (record { bits = refl; part = refl; place = refl; number = c.from.ensures; remainder = refl })
