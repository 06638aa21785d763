-- `body_of` meets its contract. The loop's invariant: the fixed bits and the count stand above the flags so far.
-- Assumes nothing.
use Rattle.std.proofs.Common.{◌≡◌, ◌+◌, ◌*◌, ◌^◌, ◌<◌, take}
use Rattle.big_endian.specs.Digits.{number}
use Rattle.polish.specs.Frame.{flags_of}
use Rattle.polish.proofs.body_of.Given as goal

abbrev pub invariant-loop-flag : goal.invariant-loop-flag
invariant-loop-flag l = record {
  flags : l.flag-items ≡ flags_of l.fn.time;
  small : l.plain < 2 ^ (33 + l.flag-index);
  is : l.plain ≡ (5 * 2 ^ 30 + l.fn.time.periods) * 2 ^ l.flag-index + number 1 (take l.flag-index (flags_of l.fn.time));
}
