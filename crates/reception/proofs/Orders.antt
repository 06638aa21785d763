-- A report is the sum of what its journals say, however it was put together; and sums are the same in any order.
-- Assumes nothing.
use mathlib.Core.List.{List, [], ◌∷◌, ◌++◌, Permᴰ}
use mathlib.Core.Path.{◌≡◌, refl, sym, ap, ap₂, ◌∙◌}
use Prim.Native.Nat.{ℕ}
use Rattle.record.specs.declared.Edition.{Edition}
use Rattle.journal.specs.Trailer.{says_of}
use Rattle.reception.specs.Laws.{AnyOrder, Built, BuiltIsSum, Sixteen, tally_in, tally_of_all, fresh, added, joined}
use Rattle.reception.specs.Reports.{plus}
use Rattle.reception.specs.declared.Report.{Report}
use Rattle.reception.proofs.Staying.{add_came, join_came, said_whole}
use Rattle.reception.proofs.Sums.{plus_comm, plus_assoc, fresh_plus}
use Rattle.reception.proofs.Tallies.{plus_sixteen}

module _ (edition : Edition) where
  abbrev said : List ℕ → Report
  said j = tally_in edition (says_of j)

  all_sixteen : (js : List (List ℕ)) → Sixteen (tally_of_all edition js)
  unfolding tally_of_all
  all_sixteen [] = refl
  all_sixteen (j ∷ js) = plus_sixteen (said j) (tally_of_all edition js) (said_whole edition (says_of j)).0 (all_sixteen js)

  all_append : (js ks : List (List ℕ)) → tally_of_all edition (js ++ ks) ≡ plus (tally_of_all edition js) (tally_of_all edition ks)
  unfolding tally_of_all
  all_append [] ks = sym (fresh_plus (tally_of_all edition ks) (all_sixteen ks))
  all_append (j ∷ js) ks = ap (plus (said j)) (all_append js ks) ∙ sym (plus_assoc (said j) (tally_of_all edition js) (tally_of_all edition ks))

  is_sum : {js : List (List ℕ)} {r : Report} → Built edition js r → r ≡ tally_of_all edition js
  unfolding tally_of_all
  is_sum fresh = refl
  is_sum (added {js} {r} {after} j b e) = (add_came edition r j after e).1 ∙ plus_comm r (said j) ∙ ap (plus (said j)) (is_sum b)
  is_sum (joined {js} {ks} {r} {s} {after} b d e) = (join_came r s after e).1 ∙ ap₂ plus (is_sum b) (is_sum d) ∙ sym (all_append js ks)

  reordered : {js ks : List (List ℕ)} → Permᴰ js ks → tally_of_all edition js ≡ tally_of_all edition ks
  unfolding tally_of_all
  reordered Permᴰ.nil = refl
  reordered (Permᴰ.cons e d) = ap₂ (λ (j : List ℕ) (rest : Report). plus (said j) rest) e (reordered d)
  reordered (Permᴰ.swap {a} {b} {a'} {b'} {l} e f) =
      let rest = tally_of_all edition l in
      sym (plus_assoc (said a) (said b) rest) ∙ ap (λ (t : Report). plus t rest) (plus_comm (said a) (said b)) ∙ plus_assoc (said b) (said a) rest
      ∙ ap₂ (λ (j k : List ℕ). plus (said j) (plus (said k) rest)) f e
  reordered (Permᴰ.trans d₁ d₂) = reordered d₁ ∙ reordered d₂

pub built_is_sum : BuiltIsSum
built_is_sum edition js r b = is_sum edition b

pub any_order : AnyOrder
any_order edition js ks r s p b d = is_sum edition b ∙ reordered edition p ∙ sym (is_sum edition d)
