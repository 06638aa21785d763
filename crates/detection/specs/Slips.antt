-- Slips: a window that starts a few bits off the start of a block is refused, whatever is sent.
-- Assumes nothing.
use Rattle.std.specs.Prelude.{List, [], ◌∷◌, ◌++◌, ◌≡◌, ℕ, ◌+◌, ◌*◌, ◌^◌, ◌<◌, ◌≤◌, eqb, length, take, drop}
use Rattle.block.specs.Block.{block_of, prefix_in}
use Rattle.block.specs.Read.{read_of, refusal_in}
use Rattle.detection.specs.Damage.{refused_with}

-- what one block carries: a code of 0 to 15 and a word of 32 bits (01, "The block")
pub record Message : Type 0 where
  pub code : ℕ
  pub word : ℕ
  pub code_fits : code < 16
  pub word_fits : word < 2 ^ 32

-- A run: the blocks of some messages, sent back to back. Blocks are counted from 0, so block n starts at the place 50 * n.
abbrev pub sent : List Message → List ℕ
sent [] = []
sent (m ∷ ms) = block_of m.code m.word ++ sent ms

-- the fifty bits of a run from a place on
abbrev pub window : List ℕ → ℕ → List ℕ
window run start = take 50 (drop start run)

-- A window starts a few bits off block n: d bits before its start, where d is 1 to `early`, or d bits after it, where d is 1 to
-- `late`. Before block 0 nothing starts.
pub data Off (early late n start : ℕ) : Type 0 where
  before : (d : ℕ) → 1 ≤ d → d ≤ early → start + d ≡ 50 * n → Off early late n start
  after : (d : ℕ) → 1 ≤ d → d ≤ late → start ≡ 50 * n + d → Off early late n start

-- w is refused: with 3 where it begins with a 0, with 4 otherwise
abbrev pub IsRefused : List ℕ → Type 0
IsRefused w = refusal_in (read_of w) ≡ refused_with (eqb (prefix_in w) 0)

-- In every run, whatever the messages, each window that starts so far off a block and lies wholly inside the run is refused.
abbrev pub Refuses : ℕ → ℕ → Type 0
Refuses early late =
    (messages : List Message) (n start : ℕ) → Off early late n start → start + 50 ≤ length (sent messages) → IsRefused (window (sent messages) start)

-- the strongest form that is true: one to six bits before the start of a block, or one to seven after it
abbrev pub SlipsRefused : Type 0
SlipsRefused = Refuses 6 7

-- the demand's form: one or two bits before or after
abbrev pub NearRefused : Type 0
NearRefused = Refuses 2 2

-- So, of the windows within two bits of the start of block n, only the one that starts there is ever taken as a block: its number is 0.
abbrev pub Aligned : Type 0
Aligned =
    (messages : List Message) (n start : ℕ) → 50 * n ≤ start + 2 → start ≤ 50 * n + 2 → start + 50 ≤ length (sent messages)
    → refusal_in (read_of (window (sent messages) start)) ≡ 0 → start ≡ 50 * n
