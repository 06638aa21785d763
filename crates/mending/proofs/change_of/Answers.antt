-- `change_of` meets its contract: each return is what turning back has found.
-- Assumes nothing.
use native.Mathlib.Omega.{arith}
use Rattle.mending.proofs.Finding.{not_found, wrong_prefix, as_it_was, put_right}
use Rattle.mending.proofs.Goodness.{left_lt}
use Rattle.mending.proofs.change_of.Goals as goal

pub returns-then-rest-gt63 : goal.returns-then-rest-gt63
returns-then-rest-gt63 c =
    not_found c.args.block c.left_by.result _ _ c.requires c.left_by.ensures c.turned_back-turned.ensures (omega arith)

pub returns-then-block-places-lt562949953421312 : goal.returns-then-block-places-lt562949953421312
returns-then-block-places-lt562949953421312 c =
    wrong_prefix c.args.block c.left_by.result _ _ c.requires c.left_by.ensures c.turned_back-turned.ensures (omega arith) (omega arith)

pub returns-then-rest-eq0 : goal.returns-then-rest-eq0
returns-then-rest-eq0 c =
    as_it_was c.args.block c.left_by.result _ _ c.requires c.left_by.ensures c.turned_back-turned.ensures (omega arith) (omega arith)
    c.if-rest-eq0.true

pub returns : goal.returns
returns c =
    put_right c.args.block c.left_by.result _ _ c.requires c.left_by.ensures c.turned_back-turned.ensures (omega arith) (omega arith)
    (omega arith) c.from_first.ensures

pub turned_back-turned-requires : goal.turned_back-turned-requires
turned_back-turned-requires c = left_lt c.args.block c.left_by.ensures

pub from_first-requires : goal.from_first-requires
from_first-requires c = (omega arith, omega arith, c.turned_back-turned.ensures.inside)
