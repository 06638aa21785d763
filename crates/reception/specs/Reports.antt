-- A reception report: exact totals of blocks, of good blocks, and among these of fillers and of each code (02, No. 12).
-- Assumes nothing.
use Rattle.std.specs.Prelude.{Bool, ◌&&◌, List, [], ◌∷◌, ℕ, ◌+◌, ◌^◌, eqb, leb, get_or}
use Rattle.block.specs.Bits.{zeros}
use Rattle.reception.specs.declared.Report.{Report}

abbrev pub total : List ℕ → ℕ
total [] = 0
total (n ∷ ns) = n + total ns

-- a fresh report is all zeros
abbrev pub fresh_report : Report
fresh_report = record { blocks = 0; good = 0; fillers = 0; codes = zeros 16 }

-- proper: at most 2^32 blocks, the codes add up to the good ones, and no part is larger than the whole
unfoldable pub is_proper : Report → Bool
is_proper r = leb r.blocks (2 ^ 32) && (leb r.good r.blocks && (leb r.fillers (get_or r.codes 0 0) && eqb (total r.codes) r.good))

-- the sums place by place, as many as the shorter has
abbrev pub adds : List ℕ → List ℕ → List ℕ
adds [] ns = []
adds (m ∷ ms) [] = []
adds (m ∷ ms) (n ∷ ns) = (m + n) ∷ adds ms ns

-- the totals of two reports
abbrev pub plus : Report → Report → Report
plus r s = record { blocks = r.blocks + s.blocks; good = r.good + s.good; fillers = r.fillers + s.fillers; codes = adds r.codes s.codes }
