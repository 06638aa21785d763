-- `count_all` meets its contract: it counts exactly where what counting asks for was tested.
-- Assumes nothing.
use Rattle.std.proofs.Common.{sym, arith}
use Rattle.reception.proofs.Parts.{has_room, small}
use Rattle.reception.proofs.Report.count_all.Goals as goal

pub overflow_sub-self : goal.overflow_sub-self
overflow_sub-self c = omega (arith, small c.args.self.now (sym c.if-is_proper.ensures))

pub count_entries-requires : goal.count_entries-requires
count_entries-requires c = has_room c.args.self.now c.args.bytes.now (sym c.if-is_proper.ensures) (omega arith)

pub returns-then-bytes-self-clause-left : goal.returns-then-bytes-self-clause-left
returns-then-bytes-self-clause-left c none = absurd (none (has_room c.args.self.now c.args.bytes.now (sym c.if-is_proper.ensures) (omega arith)))
