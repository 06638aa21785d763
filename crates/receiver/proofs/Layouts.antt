-- The two layouts of a state say the same: packing and unpacking undo each other, and so every call answers the same in both.
-- Assumes nothing.
use mathlib.Core.Path.{◌≡◌, refl, sym, ap, ◌∙◌}
use mathlib.Core.Bool.{Bool, true, false, and-eq-true_iff}
use mathlib.Core.List.{List, [], ◌∷◌}
use Prim.Native.Nat.{ℕ, ◌^◌, ◌<◌}
use borrow.Author.Tests.{lt-ltb, ltb-true}
use lib.Dec.{ltb}
use lib.ListN.{length}
use Rattle.std.specs.Prelude.{Result, Ok, Err}
use Rattle.std.specs.Result.{result_map_both}
use Rattle.block.specs.Bits.{Bits, value, value_from}
use Rattle.block.specs.Packed.{pack_of}
use Rattle.refusal.specs.declared.Refusal.{Refusal}
use Rattle.block.proofs.Packing.{fifty_lt, packs, packs_bits}
use Rattle.block.proofs.Strings.{val_bits_of, bits_of_val, length_bits_of}
use Rattle.record.specs.declared.Edition.{Edition}
use Rattle.timekeeping.proofs.Choices.{cond_elim}
use Rattle.locking.specs.Modes.{no_blocks}
use Rattle.receiver.specs.declared.Ran.{Ran}
use Rattle.receiver.specs.declared.PackedState.{PackedState}
use Rattle.receiver.specs.declared.State.{State}
use Rattle.receiver.specs.States.{fresh_of, lock_in, proper_of}
use Rattle.receiver.specs.declared.Counts.{Counts}
use Rattle.receiver.specs.Runs.{run_of, fed_of}
use Rattle.receiver.specs.Packed.{packed_of, packed, packing_of, unpacked, fresh_packed, packed_proper, packed_ran, run_packed, fed_packed}
use Rattle.receiver.proofs.StaysProper.{Proper, bits_and_lock, from_proper, fresh_proper}
use Rattle.receiver.proofs.Numbers.{proper_bits}
use Rattle.receiver.proofs.Together.{fed_run}

abbrev pub ran_of : Counts → State → Ran State
ran_of counts s = record { counts = counts; state = s }

-- ---- from the fifty places and back

-- fifty bits stand in the places, in use or not
pub record FiftyBits (s : State) : Type 0 where
  pub places : length s.bits ≡ 50
  pub bits : Bits s.bits

module _ (s : State) (f : FiftyBits s) where
  pub there_and_back : unpacked (packed s) ≡ s
  there_and_back = rw (bits_of_val 50 s.bits f.bits f.places)

  pub packed_small : (packed s).bits < 2 ^ 50
  packed_small = fifty_lt s.bits f.places f.bits

-- what packs is fifty bits, and becomes their number
packs_as : (s : State) (p : PackedState) → packing_of s ≡ Ok p → FiftyBits s × (p ≡ packed s)
packs_as s p e = by (pack_of s.bits) refl e
  where
    by : (d : Result ℕ Refusal) → pack_of s.bits ≡ d → result_map_both (packed_of (lock_in s) s.waiting) (λ why. why) d ≡ Ok p → FiftyBits s × (p ≡ packed s)
    by (Ok n) k e = let q = packs s.bits n k in let d : packed_of (lock_in s) s.waiting n ≡ p = cc in (record { places = q.size; bits = q.bits }, rw q.number (sym d))
    by (Err why) k e = absurd cc

pub fresh_packed_lem : fresh_packed ≡ packed fresh_of
unfolding fresh_of value_from
fresh_packed_lem = refl

-- ---- from the number and back

pub back_and_there : (p : PackedState) → p.bits < 2 ^ 50 → packed (unpacked p) ≡ p
back_and_there p h = rw (val_bits_of 50 p.bits h)

module _ (edition : Edition) where
  pub proper_fifty : (s : State) → Proper edition s → FiftyBits s
  proper_fifty s p = record { places = p.places; bits = proper_bits s.waiting s.bits (bits_and_lock edition s p.proper).0 }

  pub packed_proper_lem : (s : State) → Proper edition s → packed_proper edition (packed s) ≡ true
  unfolding packed_proper
  packed_proper_lem s p =
      let f = proper_fifty s p in
      (and-eq-true_iff _ _).1 (lt-ltb (value s.bits) (2 ^ 50) (packed_small s f), rw (there_and_back s f) p.proper)

  -- fifty bits stay fifty bits in a run, refused or not
  pub run_fifty : (s : State) (bs : List ℕ) → FiftyBits s → FiftyBits (run_of edition s bs).state
  unfolding run_of
  run_fifty s bs f =
      let P : Ran State → Type 0 = λ r. FiftyBits r.state in
      cond_elim P (ltb 65536 (length bs)) (λ _. f)
      (λ _.
      cond_elim P (proper_of edition s) (λ e. proper_fifty _ (from_proper edition bs no_blocks 0 s (record { places = f.places; proper = e }))) (λ _. f))

  pub fresh_packed_proper : packed_proper edition fresh_packed ≡ true
  fresh_packed_proper = ap (packed_proper edition) fresh_packed_lem ∙ packed_proper_lem fresh_of (fresh_proper edition)

  module _ (p : PackedState) (h : p.bits < 2 ^ 50) where
    pub same_test : packed_proper edition p ≡ proper_of edition (unpacked p)
    unfolding packed_proper
    same_test = rw (lt-ltb p.bits (2 ^ 50) h)

    -- a run answers the same in both layouts, whether the state is proper or not
    pub run_unpacked : (bs : List ℕ) → run_packed edition p bs ≡ packed_ran (run_of edition (unpacked p) bs)
    unfolding run_packed run_of
    run_unpacked bs =
        let P : Ran PackedState → Type 0 = λ r. r ≡ packed_ran (run_of edition (unpacked p) bs) in
        cond_elim P (ltb 65536 (length bs)) (λ e. rw (e, back_and_there p h))
        (λ e. cond_elim P (packed_proper edition p) (λ _. refl) (λ f. rw (e, ← same_test, f, back_and_there p h)))

    -- and so does one bit
    pub fed_unpacked : (b : ℕ) → fed_packed edition p b ≡ packed_ran (fed_of edition (unpacked p) b)
    unfolding fed_packed fed_of
    fed_unpacked b = cond_elim (λ (r : Ran PackedState). r ≡ packed_ran (fed_of edition (unpacked p) b)) (packed_proper edition p) (λ _. refl) (λ f. rw (← same_test, f, back_and_there p h))

  -- the answers to fifty bits, packed, are their own answers, packed
  pub run_packed_lem : (s : State) (bs : List ℕ) → FiftyBits s → run_packed edition (packed s) bs ≡ packed_ran (run_of edition s bs)
  run_packed_lem s bs f = run_unpacked (packed s) (packed_small s f) bs ∙ rw (there_and_back s f)

  pub fed_packed_lem : (s : State) (b : ℕ) → FiftyBits s → fed_packed edition (packed s) b ≡ packed_ran (fed_of edition s b)
  fed_packed_lem s b f = fed_unpacked (packed s) (packed_small s f) b ∙ rw (there_and_back s f)

  -- a state whose places pack, run in the other layout and unpacked again
  pub ran_back : (s : State) (p : PackedState) → packing_of s ≡ Ok p → (bs : List ℕ) (r : Ran PackedState) → r ≡ run_packed edition p bs
      → (t : State) → t ≡ unpacked r.state → ran_of r.counts t ≡ run_of edition s bs
  ran_back s p e bs r d t f =
      let q = packs_as s p e in
      let ran : r ≡ packed_ran (run_of edition s bs) = rw (d, q.1) (run_packed_lem s bs q.0) in
      rw (f, ran, there_and_back _ (run_fifty s bs q.0))

  -- places that do not pack are not proper
  pub not_proper : (s : State) → length s.bits ≡ 50 → (why : Refusal) → packing_of s ≡ Err why → proper_of edition s ≡ false
  not_proper s l why e = by (proper_of edition s) refl
    where
      by : (t : Bool) → proper_of edition s ≡ t → t ≡ false
      by true p = let f = proper_fifty s (record { places = l; proper = p }) in let k : ◌≡◌ {A = Result PackedState Refusal} (Ok (packed s)) (Err why) = rw (packs_bits s.bits l f.bits) at e in absurd cc
      by false p = refl

  -- one fed bit answers as a run of that bit alone
  pub fed_packed_run : (p : PackedState) (b : ℕ) → fed_packed edition p b ≡ run_packed edition p (b ∷ [])
  unfolding fed_packed run_packed
  fed_packed_run p b = rw (fed_run edition (unpacked p) b)

  -- a packed state that is proper has no bit above place 49, and its fifty places are proper
  module _ (p : PackedState) (e : packed_proper edition p ≡ true) where
    tests : (ltb p.bits (2 ^ 50) ≡ true) × (proper_of edition (unpacked p) ≡ true)
    unfolding packed_proper
    tests = (and-eq-true_iff (ltb p.bits (2 ^ 50)) _).0 e

    pub proper_small : p.bits < 2 ^ 50
    proper_small = ltb-true p.bits (2 ^ 50) tests.0

    pub proper_unpacked : Proper edition (unpacked p)
    proper_unpacked = record { places = length_bits_of 50 p.bits; proper = tests.1 }
