-- `mend` meets its contract: fifty bits become what their number becomes, and what does not pack is refused for the same reason.
-- Assumes nothing.
use Rattle.refusal.specs.declared.Refusal.{Refusal}
use borrow.Author.Tests.{eq-eqb, lt-ltb}
use Rattle.std.proofs.lemmas.Result.{err_from_is_err_and}
use Rattle.std.specs.Prelude.{Result, Err}
use mathlib.Core.List.{List}
use mathlib.Core.Path.{◌≡◌, sym, ap, ◌∙◌, subst}
use Prim.Native.Nat.{ℕ, ◌^◌, ◌<◌}
use lib.Bits.{bit_xor, xor_lt, xor_zero_r}
use lib.ListN.{length}
use Rattle.block.specs.Bits.{bits_of}
use Rattle.block.specs.Packed.{unpack_of, unpacked_of}
use Rattle.block.proofs.Packing.{Packs, packs, fifty_lt}
use Rattle.block.proofs.Strings.{bits_of_val}
use Rattle.mending.specs.Mending.{Mends, refused}
use Rattle.mending.specs.declared.Change.{Change}
use Rattle.mending.proofs.mend.Goals as goal

module _ {s : List ℕ} {n : ℕ} (p : Packs s n) where
  fits : n < 2 ^ 50
  fits = rw (← p.number) (fifty_lt s p.size p.bits)

  number_bits : bits_of 50 n ≡ s
  number_bits = ap (bits_of 50) (sym p.number) ∙ bits_of_val 50 s p.bits p.size

  -- what becomes of the number becomes of the bits, where some places change and where none does
  module _ {answer : Result Change Refusal} {places : ℕ} (w : (places < 2 ^ 50) × Mends (bits_of 50 n) answer (bits_of 50 (bit_xor n places))) where
    of_bits : Mends s answer (bits_of 50 (bit_xor n places))
    of_bits = subst (λ (l : List ℕ). Mends l answer (bits_of 50 (bit_xor n places))) number_bits w.1

    changed : {after : List ℕ} → after ≡ unpacked_of s (bit_xor n places) → Mends s answer after
    changed e =
        subst (Mends s answer)
        (sym (rw (eq-eqb (length s) 50 p.size, lt-ltb (bit_xor n places) (2 ^ 50) (xor_lt 50 n places fits w.0)) at e)) of_bits

    -- and there is room for them
    room : {r : Result (Unit {0}) Refusal} {why : Refusal} → r ≡ unpack_of (length s) (bit_xor n places) → r ≡ Err why → ⊥
    room e d =
        let z = rw (eq-eqb (length s) 50 p.size, lt-ltb (bit_xor n places) (2 ^ 50) (xor_lt 50 n places fits w.0)) at (sym e ∙ d) in cc

    unchanged : places ≡ 0 → Mends s answer s
    unchanged z = subst (Mends s answer) (ap (bits_of 50) (ap (bit_xor n) z ∙ xor_zero_r n) ∙ number_bits) of_bits

pub change_of-requires : goal.change_of-requires
change_of-requires c =
    fits (packs _ _ (sym c.pack.ensures ∙ c.in_ok-number.was))

pub returns-in_err-number : goal.returns-in_err-number
returns-in_err-number c =
    let p = err_from_is_err_and c.from_residual.result c.from_residual.ensures.1 in
    rw (p.1, p.2) (refused _ (sym c.pack.ensures ∙ c.in_err-number.was))

pub returns-in_err-found : goal.returns-in_err-found
returns-in_err-found c =
    let p = err_from_is_err_and c.from_residual-in_err-found.result c.from_residual-in_err-found.ensures.1 in
    rw (p.1, p.2) (rw (number_bits (packs _ _ (sym c.pack.ensures ∙ c.in_ok-number.was))) at c.in_err-found.ensures)

pub returns-then-found-eq0 : goal.returns-then-found-eq0
returns-then-found-eq0 c =
    unchanged (packs _ _ (sym c.pack.ensures ∙ c.in_ok-number.was)) c.in_ok-found.ensures c.if-found-eq0.true

pub returns-in_err-unpack : goal.returns-in_err-unpack
returns-in_err-unpack c =
    absurd (room (packs _ _ (sym c.pack.ensures ∙ c.in_ok-number.was)) c.in_ok-found.ensures c.unpack.ensures.0 c.in_err-unpack.was)

pub returns : goal.returns
returns c =
    changed (packs _ _ (sym c.pack.ensures ∙ c.in_ok-number.was)) c.in_ok-found.ensures c.unpack.ensures.1
