-- Picking bits in place: what was picked, and then what the characters not yet read mean, is what all of them mean; the bytes
-- from the last picked bit on are as they were, so nothing is overwritten before it is read.
-- Assumes nothing.
use Rattle.std.proofs.Common.{◌≡◌, ℕ, ◌+◌, ◌-◌, ◌≤◌, ◌<◌, Bool, true, false, cond, eqb, List, [], ◌∷◌, ◌++◌, length, get_or, set, take, drop, refl, sym, ap, ◌∙◌, append_assoc, append-nil, add-one, arith, eqb-true, eq-eqb, ne_eqb, length-set, drop_of_length-le, drop-drop, get_or-drop, drop-cons}
use Rattle.std.proofs.lemmas.Bool.{eqb-false}
use Rattle.std.proofs.Math.Seq.{take-suc-set, drop-set-lt}
use Rattle.block.specs.Bits.{Bits}
use Rattle.input.specs.declared.Piece.{Piece}
use Rattle.input.specs.Pieces.{Reads}
use Rattle.input.specs.Characters.{nought, one, newline, Meant, before, meant, Picks}

-- ---- one character

module _ (c : ℕ) (cs : List ℕ) where
  skipped : c ≡ newline → meant (c ∷ cs) ≡ meant cs
  unfolding meant
  skipped e = rw (eq-eqb c 10 e)

  digit : nought ≤ c → c ≤ one → meant (c ∷ cs) ≡ before (c - nought) (meant cs)
  unfolding meant
  digit h k = by (eqb c nought) refl
    where
      by : (t : Bool) → eqb c nought ≡ t → meant (c ∷ cs) ≡ before (c - nought) (meant cs)
      by true e = rw (ne_eqb c 10 (omega arith), e, eqb-true c 48 e)
      by false e =
          let z : c ≡ 49 = omega (arith, eqb-false c 48 e) in
          rw (ne_eqb c 10 (omega arith), e, eq-eqb c 49 z, z)

  other : (c ≡ newline → ⊥) → (c ≡ nought → ⊥) → (c ≡ one → ⊥) → meant (c ∷ cs) ≡ record { bits = []; goes_on = false }
  unfolding meant
  other l o z = rw (ne_eqb c 10 l, ne_eqb c 48 o, ne_eqb c 49 z)

-- ---- one place after the other

-- some bits in front of what characters mean
abbrev after : List ℕ → Meant → Meant
after bits m = record { bits = bits ++ m.bits; goes_on = m.goes_on }

pub record Picking (entry buffer : List ℕ) (bits i : ℕ) : Type 0 where
  pub picked : bits ≤ i
  pub passed : i ≤ length entry
  pub size : length buffer ≡ length entry
  pub ahead : drop bits buffer ≡ drop bits entry
  pub whole : after (take bits buffer) (meant (drop i entry)) ≡ meant entry

module _ (entry buffer : List ℕ) (bits i : ℕ) (p : Picking entry buffer bits i) where
  -- nothing more is meant: the bits stand at the front
  picks : (more : Bool) → meant (drop i entry) ≡ record { bits = []; goes_on = more }
      → (piece : Piece) → piece.bits.now ≡ take bits buffer → piece.more ≡ more → Picks entry piece
  picks more e piece b m =
      let w : after (take bits buffer) (record { bits = []; goes_on = more }) ≡ meant entry = rw e at p.whole in
      record {
        bits = b ∙ sym (append-nil (take bits buffer)) ∙ ap (λ (x : Meant). x.bits) w;
        more = m ∙ ap (λ (x : Meant). x.goes_on) w;
      }

  module _ (h : i < length entry) where
    -- what is read is what was there
    here : drop i entry ≡ get_or buffer i 0 ∷ drop (i + 1) entry
    here =
        let at : bits + (i - bits) ≡ i = omega arith in
        let same : get_or buffer i 0 ≡ get_or entry i 0 = rw (get_or-drop, get_or-drop, at) at (ap (λ (l : List ℕ). get_or l (i - bits) 0) p.ahead) in
        rw (same, add-one i) (drop-cons entry i 0 h)

    pub skip : get_or buffer i 0 ≡ newline → Picking entry buffer bits (i + 1)
    skip e =
        record {
          picked = omega arith;
          passed = omega arith;
          size = p.size;
          ahead = p.ahead;
          whole = rw (here, skipped (get_or buffer i 0) (drop (i + 1) entry) e) at p.whole;
        }

    pub pick : nought ≤ get_or buffer i 0 → get_or buffer i 0 ≤ one
        → Picking entry (set buffer bits (get_or buffer i 0 - nought)) (bits + 1) (i + 1)
    pick low high =
        let v : ℕ = get_or buffer i 0 - nought in
        let room : bits < length buffer = omega arith in
        record {
          picked = omega arith;
          passed = omega arith;
          size = length-set buffer bits v ∙ p.size;
          ahead = drop-set-lt (bits + 1) buffer bits v (omega arith) ∙ sym (drop-drop 1 bits buffer) ∙ ap (drop 1) p.ahead ∙ drop-drop 1 bits entry;
          whole = rw (add-one bits, take-suc-set buffer bits v room, append_assoc)
              (rw (here, digit (get_or buffer i 0) (drop (i + 1) entry) low high) at p.whole);
        }

    pub stop : (get_or buffer i 0 ≡ newline → ⊥) → (get_or buffer i 0 ≡ nought → ⊥) → (get_or buffer i 0 ≡ one → ⊥)
        → (piece : Piece) → piece.bits.now ≡ take bits buffer → piece.more ≡ false → Picks entry piece
    stop l o z = picks false (rw here (other (get_or buffer i 0) (drop (i + 1) entry) l o z))

  pub all_read : length entry ≤ i → (piece : Piece) → piece.bits.now ≡ take bits buffer → piece.more ≡ true → Picks entry piece
  unfolding meant
  all_read h = picks true (rw (drop_of_length-le entry h))

-- ---- what was picked

meant_bits : (cs : List ℕ) → Bits (meant cs).bits
unfolding meant
meant_bits [] = tt
meant_bits (c ∷ cs) = by (eqb c newline) (eqb c nought) (eqb c one) (meant_bits cs)
  where
    by : (n z o : Bool) → Bits (meant cs).bits
        → Bits (cond n (meant cs) (cond z (before 0 (meant cs)) (cond o (before 1 (meant cs)) (record { bits = []; goes_on = false })))).bits
    by true z o rest = rest
    by false true o rest = (omega arith, rest)
    by false false true rest = (omega arith, rest)
    by false false false rest = tt

meant_short : (cs : List ℕ) → length (meant cs).bits ≤ length cs
unfolding meant
meant_short [] = omega arith
meant_short (c ∷ cs) = by (eqb c newline) (eqb c nought) (eqb c one) (meant_short cs)
  where
    by : (n z o : Bool) → length (meant cs).bits ≤ length cs
        → length (cond n (meant cs) (cond z (before 0 (meant cs)) (cond o (before 1 (meant cs)) (record { bits = []; goes_on = false })))).bits ≤ length (c ∷ cs)
    by true z o rest = omega arith
    by false true o rest = omega arith
    by false false true rest = omega arith
    by false false false rest = omega arith

-- what was picked of some characters are bits, and no more than those
pub reads_picked : (cs entry : List ℕ) (p : Piece) → Picks cs p → length cs ≤ length entry → Reads entry p
reads_picked cs entry p picks short = record { size = rw picks.bits (omega (arith, meant_short cs)); bits = rw picks.bits (meant_bits cs) }
