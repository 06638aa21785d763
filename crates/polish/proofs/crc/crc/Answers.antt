-- `crc` meets its contract: the bytes go through the register one after the other.
-- Assumes nothing.
use Rattle.std.proofs.Common.{sym, ap, ◌∙◌, arith, List, ℕ, take, drop}
use Rattle.polish.specs.Crc.{crc_of}
use Rattle.polish.proofs.Parts.{last_five}
use Rattle.polish.proofs.Register.{through, ends}
use Rattle.polish.proofs.crc.crc.Goals as goal

pub loop-byte-init : goal.loop-byte-init
loop-byte-init c = ap (λ (bytes : List ℕ). crc_of (take 5 (drop 3 bytes))) c.to_be_bytes.ensures ∙ ap crc_of (last_five c.args.body)

pub loop-byte-preserved : goal.loop-byte-preserved
loop-byte-preserved c = through c.loop-byte.register c.next_byte-register.result c.loop-byte.byte-index _ c.loop-byte-test.true c.next_byte-register.ensures ∙ c.loop-byte.invariant

pub returns : goal.returns
returns c = sym (ends c.loop-byte.register c.loop-byte.byte-index _ (omega arith)) ∙ c.loop-byte.invariant
