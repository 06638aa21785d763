-- Decided bits are 0 or 1, so a run feeds all of them.
-- Assumes nothing.
use borrow.Author.Tests.{le-ltb}
use mathlib.Core.Bool.{Bool, true, false, cond}
use mathlib.Core.List.{List, [], ◌∷◌, ◌++◌}
use mathlib.Core.Path.{◌≡◌, refl, sym, ap, ◌∙◌}
use Prim.Native.Nat.{ℕ, ◌≤◌, ◌<◌}
use native.Mathlib.Omega.{arith}
use lib.Dec.{eqb, ltb}
use lib.Ieee.{Float}
use lib.ListN.{length, take, drop}
use lib.Seq.{take_at, drop_at}
use Rattle.std.specs.Prelude.{Result, Ok, Err}
use Rattle.refusal.specs.Numbers.{number_of}
use Rattle.refusal.specs.declared.Refusal.{Refusal}
use Rattle.refusal.specs.declared.Refusal.TheVariants.{OutOfRange}
use Rattle.block.specs.Bits.{Bits}
use Rattle.record.specs.Editions.{edition_of, under}
use Rattle.record.specs.declared.Edition.{Edition}
use Rattle.record.specs.declared.Edition.TheVariants.{Of1984, Of1982}
use Rattle.timekeeping.proofs.Choices.{cond_elim}
use Rattle.locking.specs.Modes.{no_blocks}
use Rattle.halves.specs.Answer.{bits_under, plan_of, written_by, written_of, count_in}
use Rattle.halves.specs.Decision.{Decision, one, zero, unsure, decision_of, bit_of, bits_of}
use Rattle.halves.specs.Pairs.{paired}
use Rattle.halves.specs.Polarities.{polarity_of}
use Rattle.halves.specs.declared.Decided.{Decided}
use Rattle.halves.specs.declared.Pairing.{Pairing}
use Rattle.halves.specs.declared.Pair.{Pair}
use Rattle.halves.specs.declared.Polarity.{Polarity}
use Rattle.halves.specs.declared.Polarity.TheVariants.{AsItStands, Exchanged}
use Rattle.halves.proofs.Choosing.{paired_length}
use Rattle.halves.proofs.Taking.{taken_exactly}
use Rattle.receiver.specs.History.{after_from}
use Rattle.receiver.specs.Runs.{run_of, refused_run}
use Rattle.receiver.specs.States.{proper_of}
use Rattle.receiver.specs.declared.Ran.{Ran}
use Rattle.receiver.specs.declared.State.{State}
use Rattle.receiver.proofs.Balance.{from_balance}
use Rattle.receiver.proofs.StaysProper.{room}
use Rattle.receiver.proofs.Together.{from_bits}
use Rattle.receiver.proofs.WholeHistory.{bits_before_lem, from_after}
use Rattle.face_receiver.specs.Under.{run_under}
use Rattle.face_halves.specs.Under.{decided_under, written_under}
use Rattle.board.specs.Fed.{Took, FedAsBefore}
use Rattle.board.specs.Fed as fed

-- ---- the bits

bit_small : (polarity : Polarity) (d : Decision) → bit_of polarity d < 2
bit_small polarity unsure = omega arith
bit_small AsItStands one = omega arith
bit_small AsItStands zero = omega arith
bit_small Exchanged one = omega arith
bit_small Exchanged zero = omega arith

are_bits_lem : (polarity : Polarity) (margin : Float) (ps : List Pair) → Bits (bits_of polarity margin ps)
unfolding bits_of
are_bits_lem polarity margin [] = tt
are_bits_lem polarity margin (p ∷ ps) = (bit_small polarity (decision_of margin p), are_bits_lem polarity margin ps)

bits_length : (polarity : Polarity) (margin : Float) (ps : List Pair) → length (bits_of polarity margin ps) ≡ length ps
unfolding bits_of
bits_length polarity margin [] = refl
bits_length polarity margin (p ∷ ps) = let e = bits_length polarity margin ps in omega arith

-- so many bits are in front of what a slice held
record Wrote (held slice : List ℕ) (n : ℕ) : Type 0 where
  many : length (take n slice) ≡ n
  bits : Bits (take n slice)
  rest : drop n slice ≡ drop n held

nothing_wrote : (held : List ℕ) → Wrote held held 0
nothing_wrote held = record { many = refl; bits = tt; rest = refl }

in_front : (held bits : List ℕ) (n : ℕ) → length bits ≡ n → Bits bits → Wrote held (bits ++ drop n held) n
in_front held bits n e b =
    let front = take_at bits (drop n held) n e in
    record { many = ap length front ∙ e; bits = rw front b; rest = drop_at bits (drop n held) n e }

module _ (readings : List Float) (margin : Float) (held : List ℕ) where
  pairs_many : (polarity : Polarity) (pairing : Pairing) (count : ℕ) → plan_of readings margin (length held) ≡ bits_under pairing count
      → length (bits_of polarity margin (paired pairing readings)) ≡ count
  pairs_many polarity pairing count e =
      bits_length polarity margin (paired pairing readings) ∙ paired_length pairing readings ∙ sym ((taken_exactly readings margin (length held) pairing count).then e).many

  wrote : (polarity : Polarity) → Wrote held (written_of readings margin polarity held) (count_in (plan_of readings margin (length held)))
  unfolding written_of
  wrote polarity = go (plan_of readings margin (length held)) refl
    where
      go : (d : Result Decided Refusal) → plan_of readings margin (length held) ≡ d → Wrote held (written_by d readings margin polarity held) (count_in d)
      go (Ok d) e =
          in_front held (bits_of polarity margin (paired d.pairing readings)) d.count (pairs_many polarity d.pairing d.count e) (are_bits_lem polarity margin (paired d.pairing readings))
      go (Err why) e = nothing_wrote held

  wrote_under : (polarity : ℕ) → Wrote held (written_under polarity readings margin held) (count_in (decided_under polarity readings margin (length held)))
  unfolding written_under decided_under
  wrote_under polarity = go (ltb 1 polarity)
    where
      go : (t : Bool) → Wrote held (cond t held (written_of readings margin (polarity_of polarity) held)) (count_in (cond t (Err OutOfRange) (plan_of readings margin (length held))))
      go true = nothing_wrote held
      go false = wrote (polarity_of polarity)

  -- the bits in front are those of the pairs
  module _ (pairing : Pairing) (count : ℕ) where
    of_pairs : (polarity : Polarity) → plan_of readings margin (length held) ≡ bits_under pairing count
        → take count (written_of readings margin polarity held) ≡ bits_of polarity margin (paired pairing readings)
    unfolding written_of
    of_pairs polarity e = rw e (take_at (bits_of polarity margin (paired pairing readings)) (drop count held) count (pairs_many polarity pairing count e))

    of_pairs_under : (polarity : ℕ) → decided_under polarity readings margin (length held) ≡ bits_under pairing count
        → take (count_in (decided_under polarity readings margin (length held))) (written_under polarity readings margin held) ≡ bits_of (polarity_of polarity) margin (paired pairing readings)
    unfolding written_under decided_under
    of_pairs_under polarity = go (ltb 1 polarity)
      where
        plan : Result Decided Refusal
        plan = plan_of readings margin (length held)

        go : (t : Bool) → cond t (Err OutOfRange) plan ≡ bits_under pairing count
            → take (count_in (cond t (Err OutOfRange) plan)) (cond t held (written_of readings margin (polarity_of polarity) held)) ≡ bits_of (polarity_of polarity) margin (paired pairing readings)
        go true e = let z : ◌≡◌ {A = ℕ} 0 1 = cc in absurd (omega arith)
        go false e = ap (λ (d : Result Decided Refusal). take (count_in d) (written_of readings margin (polarity_of polarity) held)) e ∙ of_pairs (polarity_of polarity) e

-- ---- a run of bits

module _ (edition : Edition) where
  never_one : (s : State) (bs : List ℕ) → Bits bs → (run_of edition s bs).counts.refusal ≡ 1 → ⊥
  unfolding run_of
  never_one s bs h =
      let P : Ran State → Type 0 = λ r. r.counts.refusal ≡ 1 → ⊥ in
      cond_elim P (ltb 65536 (length bs)) (λ _ e. absurd (omega arith))
      (λ _. cond_elim P (proper_of edition s) (λ _ e. absurd (omega (arith, from_bits edition bs no_blocks 0 s h))) (λ _ e. absurd (omega arith)))

  took : (s : State) (bs : List ℕ) → Bits bs → proper_of edition s ≡ true → length bs ≤ 65536 → Took edition s bs (run_of edition s bs)
  unfolding run_of
  took s bs h p n =
      let before = bits_before_lem bs h in
      rw (le-ltb 65536 (length bs) n, p)
      record {
        taken = from_bits edition bs no_blocks 0 s h;
        steps = from_after edition bs no_blocks 0 s ∙ ap (after_from edition s) before;
        balance = omega (arith, ap length before, from_balance edition bs no_blocks 0 s (room edition s p));
      }

-- under a number, whether it names an edition or not
never_one_under : (number : ℕ) (s : State) (bs : List ℕ) → Bits bs → (run_under number s bs).counts.refusal ≡ 1 → ⊥
unfolding edition_of
never_one_under number s bs h = go (eqb number 1984) (eqb number 1982)
  where
    go : (a b : Bool)
        → (under (cond a (Ok Of1984) (cond b (Ok Of1982) (Err OutOfRange))) (λ edition. run_of edition s bs) (λ why. refused_run (number_of why) s)).counts.refusal ≡ 1 → ⊥
    go true b e = never_one Of1984 s bs h e
    go false true e = never_one Of1982 s bs h e
    go false false e = absurd (omega arith)

-- ---- both

pub fed_as_before : FedAsBefore
fed_as_before polarity readings margin held =
    let w = wrote_under readings margin held polarity in
    record {
      many = w.many;
      bits = w.bits;
      rest = w.rest;
      says = λ pairing count e. of_pairs_under readings margin held pairing count polarity e;
      sound = λ number s. never_one_under number s (fed.decided polarity readings margin held) w.bits;
      feeds = λ number edition s e p n. rw e (took edition s (fed.decided polarity readings margin held) w.bits p (omega (arith, w.many)));
    }
