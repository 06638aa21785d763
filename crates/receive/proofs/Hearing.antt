-- Bits heard in parts are kept as if heard at once, what is said of a part is said of the bit that ends it, and the totals of a
-- part are those of its run.
-- Assumes nothing.
use Rattle.std.proofs.Common.{None, ◌≡◌, ℕ, ◌+◌, ◌^◌, ◌<◌, ◌≤◌, Bool, true, false, List, [], ◌∷◌, ◌++◌, length, drop, sym, refl, ap, ◌∙◌, add-zero, add_assoc, mod-lt, mod-eq_of_lt, arith, take-append-drop}
use native.Mathlib.Nat.{mod-add-mod}
use Rattle.block.specs.Bits.{Bits}
use Rattle.block.proofs.Strings.{bits_append}
use Rattle.locking.specs.declared.Lock.{Lock}
use Rattle.locking.specs.Modes.{no_blocks}
use Rattle.receiver.specs.declared.Ran.{Ran}
use Rattle.receiver.specs.declared.State.{State}
use Rattle.receiver.specs.declared.Until.TheVariants.{LockChange}
use Rattle.receiver.specs.States.{lock_in}
use Rattle.receiver.specs.Steps.{Step, step_of}
use Rattle.receiver.specs.Runs.{run_from}
use Rattle.receiver.specs.Packed.{packed, unpacked, packed_proper}
use Rattle.receiver.specs.Changes.{same_lock, runs_on, up_to}
use Rattle.receiver.proofs.StaysProper.{Proper, step_proper}
use Rattle.receiver.proofs.Layouts.{fresh_packed_proper, proper_fifty, there_and_back, packed_proper_lem, back_and_there, proper_small, proper_unpacked}
use Rattle.receiver.proofs.Together.{from_next}
use Rattle.receiver.proofs.Running.{runs_same}
use Rattle.receiver.proofs.Changes.{runs_on_lem, up_to_length, up_to_some, up_to_first, up_to_bits}
use Rattle.receive.specs.declared.totals.Heard.{Heard}
use Rattle.receive.specs.declared.totals.Kept.{Kept}
use Rattle.receive.specs.Totals.{edition, total, fresh_kept, kept_next, kept_after, said_at, said_of, heard_of, FedOn}

-- ---- parts

pub after_append : (k : Kept) (xs ys : List ℕ) → kept_after k (xs ++ ys) ≡ kept_after (kept_after k xs) ys
unfolding kept_after
after_append k [] ys = refl
after_append k (x ∷ xs) ys = after_append (kept_next k x) xs ys

-- after the bits up to the change, those behind them
pub after_change : (k : Kept) (s : State) (bits : List ℕ)
    → kept_after (kept_after k (up_to edition LockChange s bits)) (drop (length (up_to edition LockChange s bits)) bits) ≡ kept_after k bits
after_change k s bits =
    let part : List ℕ = up_to edition LockChange s bits in
    let rest : List ℕ = drop (length part) bits in
    let whole : part ++ rest ≡ bits = ap (λ (l : List ℕ). l ++ rest) (sym (up_to_first edition LockChange s bits)) ∙ take-append-drop (length part) bits in
    sym (after_append k part rest) ∙ ap (kept_after k) whole

-- ---- one bit more, in fifty places and packed

module _ (k : Kept) (b : ℕ) (bit : b < 2) (p : packed_proper edition k.state ≡ true) where
  stepped : Proper edition (step_of edition (unpacked k.state) b).next
  stepped = step_proper edition (unpacked k.state) b bit (proper_unpacked edition k.state p)

  next_proper : packed_proper edition (kept_next k b).state ≡ true
  unfolding kept_next
  next_proper = packed_proper_lem edition _ stepped

  next_unpacked : unpacked (kept_next k b).state ≡ (step_of edition (unpacked k.state) b).next
  unfolding kept_next
  next_unpacked = there_and_back _ (proper_fifty edition _ stepped)

pub after_proper : (k : Kept) (bits : List ℕ) → Bits bits → packed_proper edition k.state ≡ true → packed_proper edition (kept_after k bits).state ≡ true
unfolding kept_after
after_proper k [] h p = p
after_proper k (b ∷ bits) h p = after_proper (kept_next k b) bits h.1 (next_proper k b h.0 p)

-- ---- from before any bit on

abbrev pub Fed : Kept → Type 0
Fed = FedOn fresh_kept

pub fed_none : Fed fresh_kept
unfolding kept_after
fed_none = record { history = []; bits = tt; fed = refl }

pub fed_more : {k after : Kept} → Fed k → (bits : List ℕ) → Bits bits → after ≡ kept_after k bits → Fed after
fed_more f bits b e =
    record {
      history = f.history ++ bits;
      bits = bits_append f.history bits f.bits b;
      fed = e ∙ ap (λ (k : Kept). kept_after k bits) f.fed ∙ sym (after_append fresh_kept f.history bits);
    }

pub fed_proper : {k : Kept} → Fed k → packed_proper edition k.state ≡ true
fed_proper f = rw f.fed (after_proper fresh_kept f.history f.bits (fresh_packed_proper edition))

-- ---- what is said

-- the lock in what is kept
abbrev lock : Kept → Lock
lock k = lock_in (unpacked k.state)

said_same : (a b c : Kept) (n : ℕ) → same_lock a.state.mode b.state.mode ≡ true → said_at a.state.mode c.state.mode n ≡ said_at b.state.mode c.state.mode n
unfolding said_at runs_on
said_same a b c n e = rw (runs_on_lem LockChange (lock a) (lock b) (lock c) e)

said_none : (k : Kept) (n : ℕ) → said_at k.state.mode k.state.mode n ≡ None
unfolding said_at runs_on
said_none k n = rw (runs_same LockChange (lock k))

-- what is said of these bits is said of the last up to the change, by the modes before them and after it
abbrev Last : Kept → List ℕ → Type 0
Last k bits =
    let r : Kept = kept_after k (up_to edition LockChange (unpacked k.state) bits) in
    said_of k bits ≡ said_at k.state.mode r.state.mode r.fed

pub said_last : (k : Kept) (bits : List ℕ) → Bits bits → packed_proper edition k.state ≡ true → Last k bits
unfolding said_of kept_after kept_next runs_on up_to
said_last k [] h p = sym (said_none k k.fed)
said_last k (b ∷ bits) h p =
    by (same_lock k.state.mode (kept_next k b).state.mode) refl (said_last (kept_next k b) bits h.1 (next_proper k b h.0 p))
  where
    by : (same : Bool) → same_lock k.state.mode (kept_next k b).state.mode ≡ same → Last (kept_next k b) bits → Last k (b ∷ bits)
    by true e on =
        let last : Kept = kept_after (kept_next k b) (up_to edition LockChange (unpacked (kept_next k b).state) bits) in
        rw e (rw (next_unpacked k b h.0 p) at (on ∙ sym (said_same k (kept_next k b) last _ e)))
    by false e on = rw e

-- ---- totals

-- what is kept fits the program's numbers
pub record Fitting (k : Kept) : Type 0 where
  pub fed : k.fed < 2 ^ 64
  pub good : k.good < 2 ^ 64
  pub bad : k.bad < 2 ^ 64
  pub passed : k.passed < 2 ^ 64

-- the totals with a run of n bits
abbrev pub totalled : Kept → Ran State → ℕ → Kept
totalled k r n =
    record {
      fed = total k.fed n;
      good = total k.good r.counts.good;
      bad = total k.bad r.counts.bad;
      passed = total k.passed r.counts.passed;
      state = packed r.state;
    }

total_none : (a : ℕ) → a < 2 ^ 64 → total a 0 ≡ a
total_none a h = rw (add-zero a) (mod-eq_of_lt h)

total_more : (a b c : ℕ) → total (total a b) c ≡ total a (b + c)
total_more a b c = mod-add-mod (a + b) (2 ^ 64) c ∙ rw (add_assoc a b c)

next_fits : (k : Kept) (b : ℕ) → Fitting (kept_next k b)
unfolding kept_next
next_fits k b =
    record {
      fed = mod-lt _ (omega arith);
      good = mod-lt _ (omega arith);
      bad = mod-lt _ (omega arith);
      passed = mod-lt _ (omega arith);
    }

total_nothing : (k : Kept) → Fitting k → packed_proper edition k.state ≡ true → totalled k (run_from edition [] no_blocks 0 (unpacked k.state)) 0 ≡ k
unfolding run_from
total_nothing k f p =
    rw (
      total_none k.fed f.fed,
      total_none k.good f.good,
      total_none k.bad f.bad,
      total_none k.passed f.passed,
      back_and_there k.state (proper_small edition k.state p),
    )

pub after_run : (k : Kept) (bits : List ℕ) → (bits ≡ [] → Fitting k) → Bits bits → packed_proper edition k.state ≡ true
    → kept_after k bits ≡ totalled k (run_from edition bits no_blocks 0 (unpacked k.state)) (length bits)
unfolding kept_after kept_next
after_run k [] f h p = sym (total_nothing k (f refl) p)
after_run k (b ∷ bits) f h p =
    let t : Step = step_of edition (unpacked k.state) b in
    let r : Ran State = run_from edition bits no_blocks 0 t.next in
    let n : 1 + length bits ≡ length (b ∷ bits) = omega arith in
    after_run (kept_next k b) bits (λ _. next_fits k b) h.1 (next_proper k b h.0 p)
    ∙ rw (
      next_unpacked k b h.0 p,
      from_next edition b bits (unpacked k.state) h.0,
      total_more k.fed 1 (length bits),
      n,
      total_more k.good t.blocks.good r.counts.good,
      total_more k.bad t.blocks.bad r.counts.bad,
      total_more k.passed t.passed r.counts.passed,
    )

-- ---- one turn: the bits that are left are heard up to the change

module _ (k : Kept) (bits : List ℕ) (h : Heard) (e : h ≡ heard_of k bits) where
  pub turn_fed : 0 < length bits → (0 < h.fed) × (h.fed ≤ length bits)
  unfolding heard_of
  turn_fed more =
      rw e (
        up_to_some edition LockChange (unpacked k.state) bits more,
        up_to_length edition LockChange (unpacked k.state) bits,
      )

  pub turn_proper : Bits bits → packed_proper edition k.state ≡ true → packed_proper edition h.kept.state ≡ true
  unfolding heard_of
  turn_proper b p = rw e (after_proper k _ (up_to_bits edition LockChange (unpacked k.state) bits b) p)

  pub turn_kept : kept_after h.kept (drop h.fed bits) ≡ kept_after k bits
  unfolding heard_of
  turn_kept = rw e (after_change k (unpacked k.state) bits)
