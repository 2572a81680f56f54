-- Which bytes make words, names and tags.
use Rattle.std.specs.Prelude.{ℕ, Bool, false, List, [], ◌∷◌, length, codes, not, nat_le, ◌==◌, ◌&&◌, ◌||◌}
use Rattle.std.specs.Char.{is_ascii_alphabetic, is_ascii_alphanumeric, is_ascii_digit, is_ascii_lowercase}
use Rattle.std.specs.List.{list_all}
use Rattle.std.specs.Str.{bytes_eq}
use Rattle.sig_base.specs.declared.limits.TheConstants.{MOST_NAME}

-- what may stand between the words of a line: a space or a tab
abbrev pub is_blank : ℕ → Bool
is_blank b = b == 32 || b == 9

-- a letter or `_`
abbrev pub begins_word : ℕ → Bool
begins_word b = is_ascii_alphabetic b || b == 95

-- a letter, a digit or `_`
abbrev pub in_word : ℕ → Bool
in_word b = is_ascii_alphanumeric b || b == 95

-- words of formulas and commands that are no names
unfoldable pub is_reserved : List ℕ → Bool
is_reserved w = bytes_eq w (codes "and") || bytes_eq w (codes "or") || bytes_eq w (codes "not") || bytes_eq w (codes "if")
    || bytes_eq w (codes "then") || bytes_eq w (codes "else") || bytes_eq w (codes "true") || bytes_eq w (codes "false")
    || bytes_eq w (codes "count") || bytes_eq w (codes "sum") || bytes_eq w (codes "keep") || bytes_eq w (codes "it")
    || bytes_eq w (codes "untrack") || bytes_eq w (codes "host") || bytes_eq w (codes "in") || bytes_eq w (codes "equals")

-- a word: a letter or `_`, then letters, digits and `_`
abbrev pub is_word : List ℕ → Bool
is_word [] = false
is_word (b ∷ bs) = begins_word b && list_all in_word (b ∷ bs)

-- a word of at most `MOST_NAME` bytes that isn't reserved
unfoldable pub is_name : List ℕ → Bool
is_name w = is_word w && nat_le (length w) MOST_NAME && not (is_reserved w)

-- a lower-case letter, a digit or `-`
abbrev pub in_tag : ℕ → Bool
in_tag b = is_ascii_lowercase b || is_ascii_digit b || b == 45

-- the name of a tag: a lower-case letter, then lower-case letters, digits and `-`
abbrev pub is_tag : List ℕ → Bool
is_tag [] = false
is_tag (b ∷ bs) = is_ascii_lowercase b && list_all in_tag bs
