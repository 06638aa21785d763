-- `number_at` meets its contract: 0 where there are no eight bytes, else what these write.
-- Assumes nothing.
use Rattle.std.proofs.Common.{◌+◌, ◌<◌, arith, length}
use borrow.Author.Tests.{lt-leb}
use Rattle.big_endian.specs.Bytes.{number_at}
use Rattle.big_endian.proofs.Bytes.{first_there}
use Rattle.big_endian.proofs.number_at.Goals as goal

pub returns-in_default : goal.returns-in_default
unfolding number_at
returns-in_default c =
    let a = c.args in
    let short : length a.bytes.now < a.at + 8 = omega (arith, c.in_default.ensures.lookup) in
    rw (lt-leb (a.at + 8) (length a.bytes.now) short)

pub returns-in_default-first_chunk : goal.returns-in_default-first_chunk
unfolding number_at
returns-in_default-first_chunk c =
    let a = c.args in
    let short : length a.bytes.now < a.at + 8 = omega (arith, c.in-Some.ensures.lookup.0.3, c.in_default-first_chunk.ensures.cases) in
    rw (lt-leb (a.at + 8) (length a.bytes.now) short)

pub returns : goal.returns
returns c =
    let a = c.args in
    let rest = c.in-Some.ensures.lookup.0 in
    let first = c.in-Some-first_chunk.ensures.cases in
    first_there a.bytes.now a.at rest.2 rest.3 first.enough first.same c.from_be_bytes.ensures
