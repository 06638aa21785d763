-- A frame that is taken, as it came or mended, is refused with 22 when its CRC byte is any other, and when its SK1 is the other.
-- Assumes nothing.
use Rattle.std.specs.Prelude.{Result, Ok}
use mathlib.Core.List.{List}
use mathlib.Core.Path.{◌≡◌, sym, ap, ◌∙◌}
use Prim.Native.Nat.{ℕ, ◌+◌, ◌*◌, ◌<◌}
use native.Mathlib.Omega.{arith}
use lib.Bits.{bit_xor, xor_zero_r, xor_block}
use lib.ListN.{length, get_or, set, length-set}
use lib.Seq.{get_or-set_same, get_or-set_other}
use Rattle.polish.specs.Frame.{Fixed, body_in, checks_in, crc_in}
use Rattle.polish.specs.Read.{Behind, Reads, behind, refusal_in}
use Rattle.refusal.specs.declared.Refusal.{Refusal}
use Rattle.polish.specs.declared.Time.{Time}
use Rattle.polish.proofs.FixedBits.{behind_fixed}
use Rattle.polish.proofs.Mismatch.{other_crc, other_sk1}
use Rattle.polish.proofs.Parts.{body_bytes, checks_bytes}

-- a byte behind the fixed bits is changed
module _ (frame : List ℕ) (i byte : ℕ) (h : 3 < i) where
  abbrev changed : List ℕ
  changed = set frame i byte

  kept : (j : ℕ) → (j ≡ i → ⊥) → get_or changed j 0 ≡ get_or frame j 0
  kept j d = get_or-set_other frame i j byte 0 d

  still_fixed : Fixed frame → Fixed changed
  still_fixed f =
      record {
        first = kept 0 (λ e. omega arith) ∙ f.first;
        second = kept 1 (λ e. omega arith) ∙ f.second;
        third = kept 2 (λ e. omega arith) ∙ f.third;
        fourth = rw (kept 3 (λ e. omega arith)) f.fourth;
      }

  module _ (l : length frame ≡ 12) where
    still_twelve : length changed ≡ 12
    still_twelve = length-set frame i byte ∙ l

    same_checks : ((j : ℕ) → 7 < j → j < 11 → j ≡ i → ⊥) → checks_in changed ≡ checks_in frame
    same_checks d =
        checks_bytes changed still_twelve
        ∙ rw (kept 8 (d 8 (omega arith) (omega arith)), kept 9 (d 9 (omega arith) (omega arith)), kept 10 (d 10 (omega arith) (omega arith))) (sym (checks_bytes frame l))

    same_body : 7 < i → body_in changed ≡ body_in frame
    same_body g =
        body_bytes changed still_twelve
        ∙ rw (kept 3 (λ e. omega arith), kept 4 (λ e. omega arith), kept 5 (λ e. omega arith), kept 6 (λ e. omega arith), kept 7 (λ e. omega arith)) (sym (body_bytes frame l))

    read_on : Fixed frame → {r : Result Time Refusal} → Reads changed r → Behind (body_in changed) (checks_in changed) (crc_in changed) r
    read_on f = behind_fixed changed still_twelve (still_fixed f)

-- SK1 is the lowest bit of the body
sk1_body : (frame : List ℕ) → length frame ≡ 12 → get_or frame 7 0 < 256 → body_in (set frame 7 (bit_xor (get_or frame 7 0) 1)) ≡ bit_xor (body_in frame) 1
sk1_body frame l h =
    let last = get_or frame 7 0 in
    let new = set frame 7 (bit_xor last 1) in
    let high = get_or frame 3 0 * 0x1000000 + get_or frame 4 0 * 0x10000 + get_or frame 5 0 * 0x100 + get_or frame 6 0 in
    let at : (j : ℕ) → (j ≡ 7 → ⊥) → get_or new j 0 ≡ get_or frame j 0 = λ j d. get_or-set_other frame 7 j (bit_xor last 1) 0 d in
    let e : body_in frame ≡ high * 256 + last = body_bytes frame l ∙ omega arith in
    let d : body_in new ≡ high * 256 + bit_xor last 1 =
    body_bytes new (length-set frame 7 (bit_xor last 1) ∙ l)
    ∙ rw (at 3 (λ e. omega arith), at 4 (λ e. omega arith), at 5 (λ e. omega arith), at 6 (λ e. omega arith), get_or-set_same frame 7 (bit_xor last 1) 0 (omega arith)) (omega arith) in
    d ∙ ap (λ (n : ℕ). n * 256 + bit_xor last 1) (sym (xor_zero_r high)) ∙ sym (xor_block 8 high 0 last 1 h (omega arith)) ∙ ap (λ (n : ℕ). bit_xor n 1) (sym e)

pub crc_changed : (frame : List ℕ) {time : Time} (byte : ℕ) {r : Result Time Refusal} → Reads frame (Ok time) → (byte ≡ crc_in frame → ⊥)
    → Reads (set frame 11 byte) r → refusal_in r ≡ 22
crc_changed frame byte {r} (behind l f b) d reads =
    let there = read_on frame 11 byte (omega arith) l f reads in
    let k : crc_in (set frame 11 byte) ≡ byte = get_or-set_same frame 11 byte 0 (omega arith) in
    other_crc (body_in frame) (checks_in frame) (crc_in frame) byte b d
    (rw (same_body frame 11 byte (omega arith) l (omega arith), same_checks frame 11 byte (omega arith) l (λ j p q e. omega arith), k) at there)

pub sk1_changed : (frame : List ℕ) {time : Time} {r : Result Time Refusal} → get_or frame 7 0 < 256 → Reads frame (Ok time)
    → Reads (set frame 7 (bit_xor (get_or frame 7 0) 1)) r → refusal_in r ≡ 22
sk1_changed frame {r} h (behind l f b) reads =
    let byte = bit_xor (get_or frame 7 0) 1 in
    let there = read_on frame 7 byte (omega arith) l f reads in
    let k : crc_in (set frame 7 byte) ≡ crc_in frame = get_or-set_other frame 7 11 byte 0 (λ e. omega arith) in
    other_sk1 (body_in frame) (checks_in frame) (crc_in frame) b
    (rw (sk1_body frame l h, same_checks frame 7 byte (omega arith) l (λ j p q e. omega arith), k) at there)
