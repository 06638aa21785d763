-- A piece that is run into a proper watch is fed to it, or nothing is where the bits fed would be too many; and what is fed piece by
-- piece is fed.
-- Assumes nothing.
use Rattle.std.proofs.Common.{◌≡◌, ℕ, ◌+◌, ◌≤◌, ◌^◌, true, List, [], ◌++◌, Result, Ok, refl, ap, ◌∙◌, leb, length}
use borrow.Author.Tests.{le-ltb}
use Rattle.block.specs.Bits.{Bits}
use Rattle.block.proofs.Strings.{bits_append}
use Rattle.refusal.specs.declared.Refusal.{Refusal}
use Rattle.record.specs.declared.Edition.{Edition}
use Rattle.timekeeping.proofs.Choices.{cond_elim}
use Rattle.receiver.specs.declared.Ran.{Ran}
use Rattle.receiver.proofs.WholeHistory.{bits_before_lem}
use Rattle.watch.specs.declared.Standing.{Standing}
use Rattle.watch.specs.declared.Watch.{Watch}
use Rattle.watch.specs.Standing.{why_of}
use Rattle.watch.specs.History.{standing_after}
use Rattle.watch.specs.Watches.{fresh_watch, watch_proper, watch_after, watched_of}
use Rattle.watch.proofs.Watching.{fresh_watch_proper, after_append, after_proper}
use Rattle.watch.proofs.History.{bits_shown}
use Rattle.why.specs.Told.{FedOn}

module _ (edition : Edition) where
  fed_none : (w : Watch) → FedOn edition w w
  unfolding watch_after
  fed_none w = record { history = []; bits = tt; fed = refl }

  fed_piece : (w : Watch) (bs : List ℕ) → Bits bs → length bs ≤ 65536 → watch_proper edition w ≡ true → FedOn edition w (watched_of edition w bs).state
  unfolding watched_of
  fed_piece w bs bits short p =
      rw (le-ltb 65536 (length bs) short, p)
      (cond_elim (λ (r : Ran Watch). FedOn edition w r.state) (leb (2 ^ 64) (w.fed + length bs)) (λ _. fed_none w)
      (λ _. record { history = bs; bits = bits; fed = ap (watch_after edition w) (bits_before_lem bs bits) }))

  -- ---- from a fresh watch on

  abbrev Fed : Watch → Type 0
  Fed = FedOn edition fresh_watch

  pub fed_fresh : Fed fresh_watch
  fed_fresh = fed_none fresh_watch

  fed_on : {w v : Watch} → Fed w → FedOn edition w v → Fed v
  fed_on f g =
      record {
        history = f.history ++ g.history;
        bits = bits_append f.history g.history f.bits g.bits;
        fed = rw (after_append edition fresh_watch f.history g.history, ← f.fed) g.fed;
      }

  pub fed_more : {w : Watch} {r : Ran Watch} → Fed w → (bs : List ℕ) → Bits bs → length bs ≤ 65536 → r ≡ watched_of edition w bs → Fed r.state
  fed_more {w} f bs bits short e =
      let p : watch_proper edition w ≡ true = rw f.fed (after_proper edition fresh_watch f.history f.bits (fresh_watch_proper edition)) in
      fed_on f (rw e (fed_piece w bs bits short p))

  pub fed_told : {w : Watch} {r : Result Standing Refusal} (f : Fed w) → r ≡ why_of edition w → r ≡ Ok (standing_after edition f.history)
  fed_told f e = e ∙ ap (why_of edition) f.fed ∙ bits_shown edition f.history f.bits

pub same_ok : {r : Result Standing Refusal} {s t : Standing} → r ≡ Ok s → r ≡ Ok t → s ≡ t
same_ok e f = cc
