-- Which windows of a run are good: those at the starts of blocks, and none near a start, by demand 3; what is far from one is believed
-- to be none.
-- Assumes nothing.
use Prim.Native.Nat.{ℕ, ◌+◌, ◌-◌, ◌/◌, ◌%◌, ◌≤◌, ◌<◌}
use native.Mathlib.Omega.{arith}
use mathlib.Core.Bool.{Bool, true, false, not}
use mathlib.Core.List.{List, [], ◌∷◌}
use mathlib.Core.Logic.{◌⊎◌, inl, inr, ⊎_elim}
use mathlib.Core.Path.{◌≡◌, refl, ap}
use lib.Dec.{T, eqb}
use lib.ListN.{length, take, length-append, length-drop}
use lib.Seq.{drop-drop, take_at}
use Rattle.std.proofs.Common.{Result, Ok, Err}
use Rattle.block.specs.Block.{block_of, prefix_in}
use Rattle.block.specs.Read.{read_of, refusal_in}
use Rattle.block.specs.declared.Body.{Body}
use Rattle.block.specs.declared.Refused.{Refused}
use Rattle.block.proofs.RoundTrip.{written_good, read_back}
use Rattle.detection.specs.Damage.{refused_with}
use Rattle.detection.specs.Slips.{Message, sent, window, before, after}
use Rattle.detection.proofs.Refusal.{refused_not_zero}
use Rattle.detection.proofs.Seams.{skip}
use Rattle.detection.proofs.Slips.{slips_refused}
use Rattle.record.proofs.Tests.{le_or_lt}
use Rattle.locking.specs.Modes.{is_good}
use Rattle.acquisition.specs.Heard.{heard_from, bits_before_block, GoodAt, NotGoodAt, OnlyBlocksFar}

-- a test that was computed says so
pub not_good : (w : List ℕ) → T (not (is_good (read_of w))) → is_good (read_of w) ≡ false
not_good w = by (is_good (read_of w))
  where
    by : (t : Bool) → T (not t) → t ≡ false
    by true t = absurd t
    by false t = refl

-- ---- in the run

-- a whole block is good
whole : (messages : List Message) (start : ℕ) → start % 50 ≡ 0 → GoodAt (sent messages) start
whole [] start e h = absurd (omega arith)
whole (m ∷ messages) start e h =
    let block : List ℕ = block_of m.code m.word in
    let size : length block ≡ 50 = (written_good m.code m.word).size in
    ⊎_elim
    (λ later.
    rw (skip m messages (start - 50) start (omega arith)) (whole messages (start - 50) (omega arith) (omega (arith, length-append block (sent messages)))))
    (λ first.
    let z : start ≡ 0 = omega arith in
    rw (z, take_at block (sent messages) 50 size, read_back m.code m.word m.code_fits m.word_fits))
    (le_or_lt 50 start)

refused_not_good : (prefixWrong : Bool) (w : Result Body Refused) → refusal_in w ≡ refused_with prefixWrong → is_good w ≡ false
refused_not_good prefixWrong (Ok body) e = absurd (refused_not_zero prefixWrong e)
refused_not_good prefixWrong (Err why) e = refl

module _ (messages : List Message) where
  -- a window near a start is not
  near : (start : ℕ) → (start % 50 < 8) ⊎ (43 < start % 50) → (start % 50 ≡ 0 → ⊥) → NotGoodAt (sent messages) start
  near start c inside h =
      refused_not_good (eqb (prefix_in (window (sent messages) start)) 0) (read_of (window (sent messages) start))
      (⊎_elim (λ late. slips_refused messages (start / 50) start (after (start % 50) (omega arith) (omega arith) (omega arith)) h)
      (λ early. slips_refused messages (start / 50 + 1) start (before (50 - start % 50) (omega arith) (omega arith) (omega arith)) h) c)

  -- nor is any other, if the far ones are not
  other : (from to : ℕ) → OnlyBlocksFar from to messages → (start : ℕ) → from ≤ start → start < to → (start % 50 ≡ 0 → ⊥) → NotGoodAt (sent messages) start
  other from to far start a b inside = go (le_or_lt 8 (start % 50)) (le_or_lt (start % 50) 43)
    where
      go : (8 ≤ start % 50) ⊎ (start % 50 < 8) → (start % 50 ≤ 43) ⊎ (43 < start % 50) → NotGoodAt (sent messages) start
      go (inl late) (inl early) = far start a b (omega arith) (omega arith)
      go (inl late) (inr early) = near start (inr early) inside
      go (inr late) early = near start (inl late) inside

  -- ---- in what is heard

  module _ (left : ℕ) (h : left < 50) where
    abbrev heard : List ℕ
    heard = heard_from left messages

    pub window_heard : (i : ℕ) → window heard i ≡ window (sent messages) (left + i)
    window_heard i = ap (take 50) (drop-drop i left (sent messages))

    pub heard_good : (i : ℕ) → i % 50 ≡ bits_before_block left → GoodAt heard i
    heard_good i e m = rw (window_heard i) (whole messages (left + i) (omega arith) (omega (arith, length-drop left (sent messages))))

    pub heard_other : (to : ℕ) → OnlyBlocksFar left (left + to) messages → (i : ℕ) → i < to → (i % 50 ≡ bits_before_block left → ⊥) → NotGoodAt heard i
    heard_other to far i a inside m =
        rw (window_heard i) (other left (left + to) far (left + i) (omega arith) (omega arith) (λ z. inside (omega arith)) (omega (arith, length-drop left (sent messages))))
