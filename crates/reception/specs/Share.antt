-- Good blocks per thousand, as quotient and remainder; of zero blocks zeros (02, No. 12).
-- Assumes nothing.
use Rattle.std.specs.Prelude.{cond, ℕ, ◌*◌, ◌/◌, ◌%◌, eqb, Result, Ok, Err}
use Rattle.refusal.specs.declared.Refusal.{Refusal}
use Rattle.refusal.specs.declared.Refusal.TheVariants.{Improper}
use Rattle.reception.specs.Reports.{is_proper}
use Rattle.reception.specs.declared.Report.{Report}
use Rattle.reception.specs.declared.Share.{Share}

abbrev pub per_thousand : ℕ → ℕ → Result Share Refusal
per_thousand quotient remainder = Ok (record { quotient = quotient; remainder = remainder })

-- a report that is not proper gets 10
unfoldable pub share_of : Report → Result Share Refusal
share_of r =
    cond (is_proper r)
    (cond (eqb r.blocks 0) (per_thousand 0 0) (per_thousand (1000 * r.good / r.blocks) (1000 * r.good % r.blocks)))
    (Err Improper)

-- quotient and remainder as the paper's numbers, 0 where refused
abbrev pub quotient_in : Result Share Refusal → ℕ
quotient_in (Ok share) = share.quotient
quotient_in (Err why) = 0

abbrev pub remainder_in : Result Share Refusal → ℕ
remainder_in (Ok share) = share.remainder
remainder_in (Err why) = 0
