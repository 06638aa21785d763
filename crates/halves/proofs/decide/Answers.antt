-- `decide` meets its contract: what was planned is written, or nothing is.
-- Assumes nothing.
use Rattle.std.proofs.Common.{◌≡◌, sym, ap, ◌∙◌, ℕ, ◌-◌, ◌/◌, ◌≤◌, ◌++◌, length, take, drop, arith}
use Rattle.std.proofs.Math.ListN.{length-drop}
use Rattle.std.proofs.Math.Seq.{take_all, length-take-le}
use Rattle.std.proofs.lemmas.Result.{err_from_is_err_and}
use Rattle.std.specs.Prelude.{Ok, List, Float}
use Rattle.halves.specs.Answer.{plan_of, written_of}
use Rattle.halves.specs.Decision.{bits_of}
use Rattle.halves.specs.Laws.{Taken}
use Rattle.halves.specs.Pairs.{start_of, pairs_of}
use Rattle.halves.specs.declared.Decided.{Decided}
use Rattle.halves.specs.declared.Pairing.{Pairing}
use Rattle.halves.specs.declared.Pairing.TheVariants.{FromFirst, FromSecond}
use Rattle.halves.proofs.Taking.{taken_exactly}
use Rattle.halves.proofs.decide.Goals as goal

start_small : (pairing : Pairing) → start_of pairing ≤ 1
start_small FromFirst = omega arith
start_small FromSecond = omega arith

-- what was planned was taken
planned : {readings : List Float} {margin : Float} {room : ℕ} {d : Decided} → Ok d ≡ plan_of readings margin room → Taken readings margin room d.pairing d.count
planned {readings} {margin} {room} {d} e = (taken_exactly readings margin room d.pairing d.count).then (sym e)

-- a part up to the end
to_the_end : (xs : List Float) (p : ℕ) {start : ℕ} → start ≡ p → take (length xs - start) (drop start xs) ≡ drop p xs
to_the_end xs p {start} e = take_all (length xs - start) (drop start xs) (omega (arith, length-drop start xs)) ∙ ap (λ (k : ℕ). drop k xs) e

pub slice_bounds-write_bits-count : goal.slice_bounds-write_bits-count
slice_bounds-write_bits-count c =
    let taken = planned c.in_ok-decided.ensures in
    omega (arith, taken.enough, start_small c.in_ok-decided.decided.pairing, c.from-start.ensures)

pub slice_bounds-write_bits-start : goal.slice_bounds-write_bits-start
slice_bounds-write_bits-start c =
    let taken = planned c.in_ok-decided.ensures in
    omega (arith, taken.enough, start_small c.in_ok-decided.decided.pairing, c.from-start.ensures)

pub slice_bounds-write_bits-end-2 : goal.slice_bounds-write_bits-end-2
slice_bounds-write_bits-end-2 c = (planned c.in_ok-decided.ensures).fit

pub slice_bounds-write_bits-end-3 : goal.slice_bounds-write_bits-end-3
slice_bounds-write_bits-end-3 c = sym (length-take-le c.in_ok-decided.decided.count c.args.bits.now (planned c.in_ok-decided.ensures).fit)

pub write_bits-requires : goal.write_bits-requires
write_bits-requires c =
    let told = c.in_ok-decided.decided in
    let taken = planned c.in_ok-decided.ensures in
    let given = c.args.readings.now in
    length-take-le told.count c.args.bits.now taken.fit ∙ taken.many
    ∙ ap (λ (n : ℕ). n / 2) (sym (length-drop (start_of told.pairing) given) ∙ sym (ap length (to_the_end given (start_of told.pairing) c.from-start.ensures)))

pub returns-in_err-decided : goal.returns-in_err-decided
unfolding written_of
returns-in_err-decided c =
    let args = c.args in
    let p = err_from_is_err_and c.from_residual.result c.from_residual.ensures.1 in
    let said : c.from_residual.result ≡ plan_of args.readings.now args.margin (length args.bits.now) = rw (p.1, p.2) c.in_err-decided.ensures in
    (said, rw (← c.in_err-decided.ensures))

pub returns : goal.returns
unfolding written_of
returns c =
    let args = c.args in
    let told = c.in_ok-decided.decided in
    let given = args.readings.now in
    let all = to_the_end given (start_of told.pairing) c.from-start.ensures in (
      c.in_ok-decided.ensures,
      rw (← c.in_ok-decided.ensures) (ap (λ (t : List ℕ). t ++ drop told.count args.bits.now) (c.write_bits.ensures ∙ ap (λ (xs : List Float). bits_of args.polarity args.margin (pairs_of xs)) all)),
    )
