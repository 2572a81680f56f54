-- Texts between quotes, by their characters.
use Rattle.std.specs.Prelude.{ℕ, ◌-◌, ◌==◌, if◌then◌else◌, List, [], ◌∷◌, Bool, true, false, length, take, drop, encode_utf8_all}
use Rattle.std.specs.List.{list_any}
use Rattle.std.specs.Str.{chars}

-- the character that stands behind a backslash for another
abbrev pub meaning : ℕ → ℕ
meaning c = if c == 110 then 10 else if c == 114 then 13 else if c == 116 then 9 else c

-- what the characters between the quotes stand for, behind a backslash or not
abbrev pub plain : Bool → List ℕ → List ℕ
plain behind [] = []
plain true (c ∷ cs) = meaning c ∷ plain false cs
plain false (c ∷ cs) = if c == 92 then plain true cs else c ∷ plain false cs

-- whether a backslash stands in bytes
abbrev pub has_backslash : List ℕ → Bool
has_backslash bs = list_any (λ b. b == 92) bs

-- the bytes of the text that the bytes between the quotes stand for
unfoldable pub text_of : List ℕ → List ℕ
text_of inner = encode_utf8_all (plain false (chars inner))

-- the bytes between the quotes
unfoldable pub between_quotes : List ℕ → List ℕ
between_quotes text = take (length text - 2) (drop 1 text)
