-- How the token at a place is found.
use Rattle.std.specs.Prelude.{ℕ, suc, ◌==◌, ◌&&◌, if◌then◌else◌, List, [], ◌∷◌, Bool, true, false, Option, Some, None, option_map, nat_le, ◌||◌}
use Rattle.std.specs.Char.{is_ascii_digit}
use Rattle.sig_base.specs.Words.{begins_word}
use Rattle.sig_words.specs.declared.scan.Start.{Start}
use Rattle.sig_words.specs.declared.scan.Start.TheVariants.{Words, Tags, Numbers, Literals, Symbols}
use Rattle.sig_words.specs.Tokens.{is_escape}

-- what a token can be whose first two bytes are these, where a `-` may be a sign or not
unfoldable pub opens_as : Bool → ℕ → ℕ → Start
opens_as sign b c =
    if begins_word b then Words
    else if b == 64 then Tags
    else if is_ascii_digit b then Numbers
    else if b == 45 && (sign && is_ascii_digit c) then Numbers
    else if b == 34 then Literals
    else Symbols

-- how many bytes there are up to and with the closing quote, behind a backslash or not
abbrev pub closing : Bool → List ℕ → Option ℕ
closing behind [] = None
closing true (b ∷ bs) = if is_escape b then option_map suc (closing false bs) else None
closing false (b ∷ bs) = if b == 92 then option_map suc (closing true bs) else (if b == 34 then Some 1 else option_map suc (closing false bs))

-- the digits 1 to 9
abbrev pub is_leading : ℕ → Bool
is_leading b = nat_le 49 b && nat_le b 57

-- begins as a number that has no zero to spare
abbrev pub is_plain : List ℕ → Bool
is_plain [] = false
is_plain (b ∷ []) = b == 48 || is_leading b
is_plain (b ∷ c ∷ bs) = if b == 45 then is_leading c else is_leading b
