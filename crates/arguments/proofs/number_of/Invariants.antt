-- `number_of` meets its contract. The loop's invariant: the number so far, with what is left of the text behind it, is the text's number.
-- Assumes nothing.
use Rattle.std.proofs.Common.{◌≡◌, ◌≤◌, drop}
use Rattle.arguments.specs.Numbers.{number_behind}
use Rattle.arguments.proofs.number_of.Given as goal

abbrev pub invariant-loop-c : goal.invariant-loop-c
invariant-loop-c l = (number_behind 0 l.text ≡ number_behind l.n (drop l.c-index l.text)) × (l.n ≤ 9999999)
