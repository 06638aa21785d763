-- Up to seven bits that wait make no good window with what is heard, where a block has more bits left out than wait, and at most eight:
-- pushed up by the rest of the window, what they and the bits left out differ in would have to be the first bits of the next block.
-- Assumes nothing.
use Prim.Native.Nat.{ℕ, zero, suc, ◌+◌, ◌-◌, ◌%◌, ◌^◌, ◌≤◌, ◌<◌}
use native.Mathlib.Omega.{arith}
use mathlib.Core.Bool.{Bool, true, not, ◌&&◌}
use mathlib.Core.List.{List, [], ◌∷◌, ◌++◌, append_assoc}
use mathlib.Core.Logic.{⊎_elim}
use mathlib.Core.Path.{◌≡◌, refl, sym, ap, ◌∙◌, subst}
use borrow.Author.Tests.{lt-ltb, le-leb}
use lib.Bits.{bit_xor, xor_lt}
use lib.Dec.{T, T_not, leb, ltb}
use lib.ListN.{length, take, drop, length-append, length-drop, length-take, take-append-drop}
use lib.Pow.{pow_mono}
use lib.Seq.{length-take-le, take-append_seam, take-append-le, take-append-add, drop-append-le, drop-nil}
use Rattle.std.proofs.Common.{Result, Ok, Err}
use Rattle.block.specs.Bits.{Bits, zeros, value}
use Rattle.block.specs.Block.{Good, block_of}
use Rattle.block.specs.Division.{remainder_from, remainder}
use Rattle.block.specs.Read.{read_of}
use Rattle.block.specs.declared.Body.{Body}
use Rattle.block.specs.declared.Refused.{Refused}
use Rattle.block.proofs.Below.{below, at_below}
use Rattle.block.proofs.CheckWord.{good_rem}
use Rattle.block.proofs.RoundTrip.{written_good}
use Rattle.block.proofs.Strings.{bits_append, bits_drop, bits_take, not_true, rem_append, rem_split, rem_val, val_lt}
use Rattle.block.proofs.Taken.{taken}
use Rattle.block.proofs.Xor.{xor_eq}
use Rattle.block.proofs.Zeros.{up, up_on, up_xor}
use Rattle.detection.specs.Slips.{Message, sent}
use Rattle.detection.proofs.Slips.{first_bits}
use Rattle.record.proofs.Tests.{le_or_lt}
use Rattle.locking.specs.Modes.{is_good}
use Rattle.acquisition.specs.Heard.{heard_from, bits_before_block}

-- e is a number of up to i + p + 1 bits, and r one of just i + 1
meet : ℕ → ℕ → ℕ → ℕ → Bool
meet e p r i = ltb e (2 ^ (i + p + 1)) && (leb (2 ^ i) r && ltb r (2 ^ (i + 1)))

-- r is what e leaves before 43 zeros; before six more, less p, they never meet
apart : ℕ → ℕ → Bool
apart e r = below 7 (λ p. below (7 - p) (λ i. not (meet e p (up (6 - p) r) i)))

all_apart : T (below 128 (λ e. apart e (up 43 e)))
unfolding meet apart remainder_from
all_apart = tt

never_meet : (e p i : ℕ) → e < 128 → p < 7 → i < 7 - p → T (meet e p (up (49 - p) e) i) → ⊥
unfolding apart
never_meet e p i h k l =
    let r : ℕ = up 43 e in
    let n : 43 + (6 - p) ≡ 49 - p = omega arith in
    let same : up (49 - p) e ≡ up (6 - p) r = rw n at (sym (up_on 43 (6 - p) e)) in
    rw same
    (T_not (meet e p (up (6 - p) r) i)
    (at_below (7 - p) (λ i. not (meet e p (up (6 - p) r) i))
    (at_below 7 (λ p. below (7 - p) (λ i. not (meet e p (up (6 - p) r) i))) (at_below 128 (λ e. apart e (up 43 e)) all_apart e h) p k) i l))

-- the bits p behind the first that waits; the block whose second to last bits are x, of which j are left out besides the first; and the
-- next block, y
module _ (p x y : List ℕ) (j : ℕ) (few : j ≤ 7) (more : length p < j) (bits-p : Bits p) (bits-x : Bits x) (size : length x ≡ 49) (none : remainder x ≡ 0) (good-y : Good y) where
  abbrev a : List ℕ
  a = take j x

  abbrev c : List ℕ
  c = drop j x

  abbrev q : List ℕ
  q = take (j - length p) y

  abbrev u : List ℕ
  u = c ++ q

  size_a : length a ≡ j
  size_a = length-take-le j x (omega arith)

  size_q : length q ≡ j - length p
  size_q = length-take-le (j - length p) y (omega (arith, good-y.size))

  size_u : length u ≡ 49 - length p
  size_u = omega (arith, length-append c q, length-drop j x, size_q)

  bits_q : Bits q
  bits_q = bits_take (j - length p) y good-y.bits

  -- up to seven bits before u
  before : (s : List ℕ) → Bits s → length s ≤ 7 → remainder (s ++ u) ≡ bit_xor (up (49 - length p) (value s)) (remainder u)
  before s h m =
      let v : value s < 128 = omega (arith, val_lt s h, pow_mono m) in
      rem_append s u 0 ∙ ap (λ (r : ℕ). remainder_from r u) (rem_val s h (omega arith))
      ∙ rem_split u (value s) (omega arith) (bits_append c q (bits_drop j x bits-x) bits_q)
      ∙ ap (λ (n : ℕ). bit_xor (remainder_from (value s) (zeros n)) (remainder u)) size_u

  whole : remainder (a ++ u) ≡ value q
  whole =
      ap remainder (sym (append_assoc a c q)) ∙ ap (λ (s : List ℕ). remainder (s ++ q)) (take-append-drop j x)
      ∙ rem_append x q 0 ∙ ap (λ (r : ℕ). remainder_from r q) none ∙ rem_val q bits_q (omega (arith, size_q))

  -- nothing is left behind the first bit of the window either
  module _ (left : remainder (p ++ u) ≡ 0) where
    abbrev m : ℕ
    m = 49 - length p

    abbrev e : ℕ
    e = bit_xor (value a) (value p)

    small_a : value a < 2 ^ j
    small_a = subst (λ (n : ℕ). value a < 2 ^ n) size_a (val_lt a (bits_take j x bits-x))

    small_p : value p < 2 ^ j
    small_p = let h : length p ≤ j = omega arith in omega (arith, val_lt p bits-p, pow_mono h)

    small : 2 ^ j ≤ 128
    small = pow_mono few

    sum : up m e ≡ bit_xor (up m (value a)) (up m (value p))
    sum = up_xor m (value a) (value p) (omega (arith, small_a, small)) (omega (arith, small_p, small))

    is_pushed : up m e ≡ value q
    is_pushed =
        let rest : up m (value p) ≡ remainder u = xor_eq (up m (value p)) (remainder u) (sym (before p bits-p (omega arith)) ∙ left) in
        sum ∙ ap (bit_xor (up m (value a))) rest ∙ sym (before a (bits_take j x bits-x) (omega (arith, size_a))) ∙ whole

    no_join : ⊥
    unfolding meet
    no_join =
        let i : ℕ = j - length p - 1 in
        let j-is : i + length p + 1 ≡ j = omega arith in
        let s-is : i + 1 ≡ j - length p = omega arith in
        let t : suc i ≡ j - length p = omega arith in
        let small-e : e < 2 ^ j = xor_lt j (value a) (value p) small_a small_p in
        let at_least : 2 ^ i ≤ up m e = rw is_pushed (subst (λ (n : ℕ). 2 ^ i ≤ value (take n y)) t (first_bits y i good-y (omega arith))) in
        let at_most : up m e < 2 ^ (i + 1) = rw (is_pushed, s-is) (subst (λ (n : ℕ). value q < 2 ^ n) size_q (val_lt q bits_q)) in
        never_meet e (length p) i (omega (arith, small-e, small)) (omega arith) (omega arith)
        (rw (j-is, lt-ltb e (2 ^ j) small-e, le-leb (2 ^ i) (up m e) at_least, lt-ltb (up m e) (2 ^ (i + 1)) at_most) tt)

-- so it is where bits that wait stand before what is heard of two blocks
not_joined : (b : ℕ) (p x y : List ℕ) (left : ℕ) → Good x → Good y → length (b ∷ p) < left → left ≤ 8
    → Good ((b ∷ p) ++ (drop left x ++ take (left - length (b ∷ p)) y)) → ⊥
not_joined b p [] y left gx gy more few g = omega (arith, gx.size)
not_joined b p (x₀ ∷ x) y zero gx gy more few g = omega arith
not_joined b p (x₀ ∷ x) y (suc j) gx gy more few g =
    let e : suc j - length (b ∷ p) ≡ j - length p = omega arith in
    let w : Good ((b ∷ p) ++ (drop j x ++ take (j - length p) y)) = rw e at g in
    no_join p x y j (omega arith) (omega arith) (subst Bits (take-append_seam p _) (bits_take (length p) _ w.bits.1)) gx.bits.1 (omega (arith, gx.size)) (good_rem (x₀ ∷ x) gx) gy
    (good_rem ((b ∷ p) ++ (drop j x ++ take (j - length p) y)) w)

-- ---- in what is heard

pub good_window : (w : List ℕ) → is_good (read_of w) ≡ true → Good w
good_window w = by (read_of w) refl
  where
    by : (v : Result Body Refused) → read_of w ≡ v → is_good v ≡ true → Good w
    by (Ok body) r g = subst Good (sym (taken w body.code body.word r).2) (written_good body.code body.word)
    by (Err why) r g = absurd (not_true g)

-- what is heard of the second block, and before it of the first
two_heard : (x y rest : List ℕ) (left n : ℕ) → left ≤ 50 → length x ≡ 50 → n ≤ length y → take (50 - left + n) (drop left (x ++ (y ++ rest))) ≡ drop left x ++ take n y
two_heard x y rest left n h size m =
    let c : List ℕ = drop left x in
    let e : 50 - left + n ≡ length c + n = omega (arith, length-drop left x) in
    ap (take (50 - left + n)) (drop-append-le left x (y ++ rest) (omega arith)) ∙ ap (λ (k : ℕ). take k (c ++ (y ++ rest))) e
    ∙ take-append-add c (y ++ rest) n ∙ ap (λ (t : List ℕ). c ++ t) (take-append-le n y rest m)

module _ (b : ℕ) (p : List ℕ) (left : ℕ) (more : length (b ∷ p) < left) (few : left ≤ 8) where
  abbrev n : ℕ
  n = 50 - length (b ∷ p)

  -- fewer bits than a window has
  short : (v : List ℕ) → length v + left ≤ 50 → Good ((b ∷ p) ++ take n v) → ⊥
  short v h g = omega (arith, g.size, length-append (b ∷ p) (take n v), length-take n v)

  never : (messages : List Message) → Good ((b ∷ p) ++ take n (heard_from left messages)) → ⊥
  never [] g = short (drop left []) (rw (drop-nil left) (omega arith)) g
  never (one ∷ []) g =
      let x : List ℕ = block_of one.code one.word in
      short (drop left (x ++ [])) (omega (arith, length-drop left (x ++ []), length-append x [], (written_good one.code one.word).size)) g
  never (one ∷ two ∷ messages) g =
      let x = written_good one.code one.word in
      let y = written_good two.code two.word in
      let e : n ≡ 50 - left + (left - length (b ∷ p)) = omega arith in
      not_joined b p (block_of one.code one.word) (block_of two.code two.word) left x y more few
      (rw (e, two_heard (block_of one.code one.word) (block_of two.code two.word) (sent messages) left (left - length (b ∷ p)) (omega arith) x.size (omega (arith, y.size))) at g)

-- what a good window holds of the bits that are heard, behind bits that wait, and what comes from there to the next start, are 91 bits
-- at most
pub late : (messages : List Message) (left : ℕ) → left < 50 → (p : List ℕ) → 0 < length p → length p < 50
    → is_good (read_of (p ++ take (50 - length p) (heard_from left messages))) ≡ true → 50 - length p + (bits_before_block left + length p) % 50 ≤ 91
late messages left h [] some few good = absurd (omega arith)
late messages left h (b ∷ p) some few good =
    ⊎_elim (λ all. omega arith)
    (λ more. ⊎_elim (λ far. omega arith) (λ near. absurd (never b p left more (omega arith) messages (good_window ((b ∷ p) ++ take (50 - length (b ∷ p)) (heard_from left messages)) good))) (le_or_lt 9 left))
    (le_or_lt left (length (b ∷ p)))
