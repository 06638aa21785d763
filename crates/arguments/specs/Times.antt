-- A day, a time of day and an offset as a user writes them.
-- Assumes nothing.
use Rattle.std.specs.Prelude.{Bool, true, false, cond, ◌&&◌, List, ℕ, leb, eqb, pos, neg_ℤ, length, get_or, take, drop, Option, None, Some, ℤ}
use Rattle.arguments.specs.Numbers.{number_of}
use Rattle.arguments.specs.declared.Day.{Day}
use Rattle.arguments.specs.declared.Time.{Time}

-- the number that some characters of a text write, from the place at which they begin
unfoldable pub number_at : List ℕ → ℕ → ℕ → Option ℕ
unfolding number_of
number_at text place size = number_of (take size (drop place text))

unfoldable pub day_with : Option ℕ → Option ℕ → Option ℕ → Option Day
day_with None m d = None
day_with (Some y) None d = None
day_with (Some y) (Some m) None = None
day_with (Some y) (Some m) (Some d) = Some (record { year = y; month = m; day = d })

-- ten characters as 1986-01-01; the minus is the byte 45
unfoldable pub day_of : List ℕ → Option Day
unfolding day_with number_at
day_of text =
    cond (eqb (length text) 10 && (eqb (get_or text 4 0) 45 && eqb (get_or text 7 0) 45))
    (day_with (number_at text 0 4) (number_at text 5 2) (number_at text 8 2))
    None

unfoldable pub time_with : Option ℕ → Option ℕ → Option Time
time_with None m = None
time_with (Some h) None = None
time_with (Some h) (Some m) = Some (record { hour = h; minute = m })

-- five characters as 12:34; the colon is the byte 58
unfoldable pub time_of : List ℕ → Option Time
unfolding time_with number_at
time_of text =
    cond (eqb (length text) 5 && eqb (get_or text 2 0) 58)
    (time_with (number_at text 0 2) (number_at text 3 2))
    None

-- a number with a minus or without; none above 127, where a signed byte ends
unfoldable pub signed : Bool → Option ℕ → Option ℤ
signed minus None = None
signed minus (Some n) = cond (leb n 127) (Some (cond minus (neg_ℤ (pos n)) (pos n))) None

-- half hours: digits, or a minus and digits
unfoldable pub offset_of : List ℕ → Option ℤ
unfolding signed
offset_of text = cond (eqb (get_or text 0 0) 45) (signed true (number_of (drop 1 text))) (signed false (number_of text))
