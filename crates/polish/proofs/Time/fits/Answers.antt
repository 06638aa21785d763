-- `fits` meets its contract: what the search over the flags finds is what the definition's tests say.
-- Assumes nothing.
use Rattle.std.proofs.Common.{rules, ◌<◌, ◌↔◌, All, IsTrue}
use Rattle.polish.proofs.Bounds.{all_fit}
use Rattle.polish.proofs.Time.fits.Goals as goal

pub returns-then-self-lt1073741824 : goal.returns-then-self-lt1073741824
returns-then-self-lt1073741824 c =
    let all : IsTrue c.all.result ↔ All (λ b. b < 2) c.flags.result = search rules in
    all_fit c.args.self c.all.result c.if-self-lt1073741824.true (rw c.flags.ensures at all)
