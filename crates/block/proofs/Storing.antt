-- A number stored digit by digit from the last place on, for every base: the digits still to be stored, before those that are, are all of them.
-- Assumes nothing.
use mathlib.Core.List.{List, [], ◌∷◌, ◌++◌, append_assoc}
use mathlib.Core.Path.{◌≡◌, sym, ap, ap₂, ◌∙◌}
use Prim.Native.Nat.{ℕ, zero, suc, ◌≤◌, ◌<◌, ◌-◌, ◌/◌, ◌%◌}
use native.Mathlib.Omega.{arith}
use lib.ListN.{length, set, drop, length-set}
use lib.Seq.{drop-cons, drop-set-lt, get_or-set_same}

-- `lowest k n` are the k lowest digits of n, the first highest
module _ (base : ℕ) (lowest : ℕ → ℕ → List ℕ) (none : (n : ℕ) → lowest 0 n ≡ []) (more : (k n : ℕ) → lowest (suc k) n ≡ lowest k (n / base) ++ (n % base ∷ [])) where
  -- one digit goes from those to be stored to those that are
  pub stores_one : (l : List ℕ) (k n : ℕ) → 0 < k → k ≤ length l → lowest (k - 1) (n / base) ++ drop (k - 1) (set l (k - 1) (n % base)) ≡ lowest k n ++ drop k l
  stores_one l zero n h b = absurd (omega arith)
  stores_one l (suc k) n h b =
      let d : suc k - 1 ≡ k = omega arith in
      let m : List ℕ = set l k (n % base) in
      rw d (ap (λ (t : List ℕ). lowest k (n / base) ++ t)
      (drop-cons m k 0 (omega (arith, length-set l k (n % base))) ∙ ap₂ (λ (x : ℕ) (t : List ℕ). x ∷ t) (get_or-set_same l k (n % base) 0 (omega arith)) (drop-set-lt (suc k) l k (n % base) (omega arith)))
      ∙ sym (append_assoc (lowest k (n / base)) (n % base ∷ []) (drop (suc k) l)) ∙ ap (λ (t : List ℕ). t ++ drop (suc k) l) (sym (more k n)))

  pub stored_all : (l all : List ℕ) (k n : ℕ) → k ≤ 0 → lowest k n ++ drop k l ≡ all → l ≡ all
  stored_all l all zero n h e = sym (ap (λ (t : List ℕ). t ++ l) (none n)) ∙ e
  stored_all l all (suc k) n h e = absurd (omega arith)
