-- The number of rounds that a word writes.
use Rattle.std.specs.Prelude.{ℕ, Bool, false, List, [], ◌∷◌, Option, Some, None, ◌&&◌, nat_le, if◌then◌else◌}
use Rattle.std.specs.Fmt.{decimal}
use Rattle.std.specs.Str.{bytes_eq}
use Rattle.std.specs.Str.Parse.{digits_value}
use Rattle.live_words.specs.declared.jobs.TheConstants.{MOST_ROUNDS}

-- whether bytes begin with a digit other than 0
abbrev pub begins_plainly : List ℕ → Bool
begins_plainly [] = false
begins_plainly (b ∷ bs) = nat_le 49 b && nat_le b 57

-- whether a text is the decimal text of a number from 1 to `MOST_ROUNDS`
abbrev pub writes_rounds : List ℕ → ℕ → Bool
writes_rounds text n = bytes_eq text (decimal n) && (nat_le 1 n && nat_le n MOST_ROUNDS)

-- the number from 1 to `MOST_ROUNDS` of which this is the decimal text
unfoldable pub rounds_of : List ℕ → Option ℕ
rounds_of text = if writes_rounds text (digits_value 10 text) then Some (digits_value 10 text) else None
