-- From bit to bit the number fed rises by one and the blocks by the entry logged, so the entries rise and are as many as were counted.
-- Assumes nothing.
use Rattle.std.proofs.Common.{get_or, drop, drop-cons, add-one, sym, ◌≡◌, ℕ, suc, ◌+◌, ◌^◌, ◌<◌, ◌≤◌, Bool, true, false, cond, List, [], ◌∷◌, ◌++◌, length, refl, ap, ◌∙◌, mod-eq_of_lt, arith, ltb, Option, Some, None, ltb-false, ltb-true}
use Rattle.block.specs.Bits.{Bits}
use Rattle.journal.specs.Entries.{pair_bytes, bytes_of}
use Rattle.journal.specs.Trailer.{says_of}
use Rattle.journal.specs.declared.Entry.{Entry}
use Rattle.journal.proofs.ReadBack.{AllSmall}
use Rattle.journal.proofs.Rising.{Rises, rises_in_order, sound_means_in_order}
use Rattle.receiver.specs.Packed.{packed_proper, fed_packed}
use Rattle.receiver.proofs.Layouts.{fresh_packed_proper}
use Rattle.log_blocks.specs.Laws.{WrittenSays}
use Rattle.log_blocks.specs.Log.{edition, total, fresh_kept, used_in, heard_of, kept_after, logged_of, with_entry, FedOn}
use Rattle.log_blocks.specs.declared.log.Heard.{Heard}
use Rattle.log_blocks.specs.declared.log.Kept.{Kept}
use Rattle.log_blocks.proofs.Hearing.{fed_proper, fed_one, with_bit}
use Rattle.journal.proofs.Keeping.{kept_says}

-- what is kept, where so many bits are still to be fed: the state is proper, and no number starts anew
record Fits (k : Kept) (left : ℕ) : Type 0 where
  proper : packed_proper edition k.state ≡ true
  counted : k.blocks ≤ k.fed
  below : k.fed + left < 2 ^ 64

-- the entries that come after what is kept, and the blocks counted at their end
record Follow (k : Kept) (es : List Entry) (blocks : ℕ) : Type 0 where
  rises : Rises (k.fed + 1) es
  small : AllSmall es
  many : k.blocks + length es ≡ blocks
  below : blocks < 2 ^ 64

-- ---- one bit

-- a block that the bit used up was counted, and its number is small; where there is none, none was
unfoldable Found : Kept → Kept → Option ℕ → Type 0
Found k after (Some block) = (after.blocks ≡ k.blocks + 1) × (block < 2 ^ 50)
Found k after None = after.blocks ≡ k.blocks

record Next (k : Kept) (h : Heard) : Type 0 where
  fed : h.kept.fed ≡ k.fed + 1
  block : Found k h.kept h.block

module _ (k : Kept) (b : ℕ) (bit : b < 2) (left : ℕ) (f : Fits k (suc left)) where
  abbrev used : ℕ
  used = used_in (fed_packed edition k.state b)

  one : used ≤ 1
  one = fed_one k.state f.proper b bit

  blocks_next : (heard_of k b).kept.blocks ≡ k.blocks + used
  unfolding heard_of
  blocks_next = mod-eq_of_lt (omega (arith, one))

  fed_next : (heard_of k b).kept.fed ≡ k.fed + 1
  unfolding heard_of
  fed_next = mod-eq_of_lt (omega arith)

  block_next : total k.state.bits b < 2 ^ 50
  block_next = let small : k.state.bits + b < 2 ^ 50 = with_bit k.state f.proper b bit in rw (mod-eq_of_lt {n = k.state.bits + b} {m = 2 ^ 64} (omega arith)) small

  found : (t : Bool) → ltb 0 used ≡ t → Found k (heard_of k b).kept (cond t (Some (total k.state.bits b)) None)
  unfolding Found
  found true u = (omega (arith, blocks_next, one, ltb-true 0 used u), block_next)
  found false u = omega (arith, blocks_next, ltb-false 0 used u)

  next : Next k (heard_of k b)
  unfolding heard_of
  next = record { fed = fed_next; block = found (ltb 0 used) refl }

  next_fits : Fits (heard_of k b).kept left
  unfolding heard_of
  next_fits =
      record {
        proper = fed_proper k.state f.proper b bit;
        counted = omega (arith, blocks_next, fed_next, one);
        below = omega (arith, fed_next);
      }

-- ---- the bits one after the other

rises_less : (m n : ℕ) (es : List Entry) → m ≤ n → Rises n es → Rises m es
rises_less m n [] h r = tt
rises_less m n (e ∷ es) h r = (omega (arith, r.0), r.1, r.2)

-- what follows after a bit, with the entry that the bit logs where it logs one
follow_next : (k : Kept) (h : Heard) (es : List Entry) (blocks : ℕ) → Next k h → h.kept.fed < 2 ^ 64 → Follow h.kept es blocks
    → Follow k (with_entry h.kept.fed h.block es) blocks
unfolding Found
follow_next k h es blocks n small f = by h.block n.block
  where
    by : (block : Option ℕ) → Found k h.kept block → Follow k (with_entry h.kept.fed block es) blocks
    by (Some block) found =
        record {
          rises = (omega (arith, n.fed), found.1, f.rises);
          small = ((small, omega (arith, found.1)), f.small);
          many = omega (arith, found.0, f.many);
          below = f.below;
        }
    by None found =
        record {
          rises = rises_less (k.fed + 1) (h.kept.fed + 1) es (omega (arith, n.fed)) f.rises;
          small = f.small;
          many = omega (arith, found, f.many);
          below = f.below;
        }

follows : (k : Kept) (bits : List ℕ) → Bits bits → Fits k (length bits) → Follow k (logged_of k bits) (kept_after k bits).blocks
unfolding logged_of kept_after
follows k [] h f = record { rises = tt; small = tt; many = omega arith; below = omega arith }
follows k (b ∷ bits) h f =
    let fits : Fits (heard_of k b).kept (length bits) = next_fits k b h.0 (length bits) f in
    follow_next k (heard_of k b) (logged_of (heard_of k b).kept bits) _ (next k b h.0 (length bits) f) (omega (arith, fits.below)) (follows (heard_of k b).kept bits h.1 fits)

-- ---- in parts

pub heard_more : (k : Kept) (bits : List ℕ) (i : ℕ) {heard : Heard} → i < length bits → heard ≡ heard_of k (get_or bits i 0)
    → kept_after heard.kept (drop (i + 1) bits) ≡ kept_after k (drop i bits)
unfolding kept_after
heard_more k bits i less is = rw (drop-cons bits i 0 less, add-one i) (ap (λ (h : Heard). kept_after h.kept (drop (suc i) bits)) is)

after_append : (k : Kept) (xs ys : List ℕ) → kept_after k (xs ++ ys) ≡ kept_after (kept_after k xs) ys
unfolding kept_after
after_append k [] ys = refl
after_append k (x ∷ xs) ys = after_append (heard_of k x).kept xs ys

pub fed_none : FedOn fresh_kept fresh_kept
unfolding kept_after
fed_none = record { history = []; fed = refl }

pub fed_more : {k after : Kept} → FedOn fresh_kept k → (bits : List ℕ) → after ≡ kept_after k bits → FedOn fresh_kept after
fed_more f bits e =
    record { history = f.history ++ bits; fed = e ∙ ap (λ (k : Kept). kept_after k bits) f.fed ∙ sym (after_append fresh_kept f.history bits) }

-- ---- from the first bit

pub written_says : WrittenSays
written_says bits h short =
    let es : List Entry = logged_of fresh_kept bits in
    let f : Follow fresh_kept es (kept_after fresh_kept bits).blocks =
    follows fresh_kept bits h (record { proper = fresh_packed_proper edition; counted = omega arith; below = omega arith }) in
    let many : (kept_after fresh_kept bits).blocks ≡ length es = omega (arith, f.many) in
    ap (λ (n : ℕ). says_of (bytes_of es ++ pair_bytes 0 n)) many
    ∙ kept_says es f.small (omega (arith, f.many, f.below)) ((sound_means_in_order es).only (rises_in_order 1 es f.rises))
