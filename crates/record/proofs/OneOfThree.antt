-- A word is a filler, a record or out of range, and never two of these: reading has one answer for each.
-- Assumes nothing.
use Rattle.std.specs.Prelude.{Ok, Err}
use Prim.Native.Nat.{ℕ}
use native.Mathlib.Omega.{arith}
use mathlib.Core.Path.{◌≡◌, refl}
use mathlib.Core.Bool.{Bool, true, false, ◌&&◌}
use mathlib.Core.Logic.{◌⊎◌, inl, inr}
use lib.Dec.{eqb}
use Rattle.refusal.specs.declared.Refusal.TheVariants.{NotARecord, OutOfRange}
use Rattle.record.specs.declared.Edition.{Edition}
use Rattle.record.specs.declared.Edition.TheVariants.{Of1984, Of1982}
use Rattle.record.specs.declared.Record.{Record}
use Rattle.record.specs.Fields.{flag_of, fields_of}
use Rattle.record.specs.Editions.{is_filler, filler}
use Rattle.record.specs.Ranges.{in_range}
use Rattle.record.specs.Words.{read_of}

module _ (edition : Edition) (word : ℕ) where
  abbrev pub Filler : Type 0
  Filler = is_filler edition word ≡ true

  abbrev pub HoldsRecord : Type 0
  HoldsRecord = (r : Record) × (read_of edition 0 word ≡ Ok r)

  abbrev pub HoldsNone : Type 0
  HoldsNone = read_of edition 0 word ≡ Err OutOfRange

  pub filler_refused : Filler → read_of edition 0 word ≡ Err NotARecord
  unfolding read_of
  filler_refused f = rw f

  pub one_of_three : Filler ⊎ (HoldsRecord ⊎ HoldsNone)
  unfolding read_of
  one_of_three = by (is_filler edition word) refl (eqb (flag_of word) 0 && in_range (fields_of word)) refl
    where
      by : (t : Bool) → is_filler edition word ≡ t → (u : Bool) → (eqb (flag_of word) 0 && in_range (fields_of word)) ≡ u
          → Filler ⊎ (HoldsRecord ⊎ HoldsNone)
      by true f u g = inl f
      by false f true g = inr (inl (fields_of word, rw (f, g)))
      by false f false g = inr (inr (rw (f, g)))

  pub filler_alone : Filler → HoldsRecord ⊎ HoldsNone → ⊥
  filler_alone f (inl h) = let r = filler_refused f in let z : ◌≡◌ {A = ℕ} 0 1 = cc in omega arith
  filler_alone f (inr h) = let r = filler_refused f in let z : ◌≡◌ {A = ℕ} 0 1 = cc in omega arith

  pub record_alone : HoldsRecord → HoldsNone → ⊥
  record_alone h n = let z : ◌≡◌ {A = ℕ} 0 1 = cc in omega arith

-- what is sent for a filler is one
pub sent_filler : (edition : Edition) → Filler edition (filler edition)
unfolding is_filler
sent_filler Of1984 = refl
sent_filler Of1982 = refl
