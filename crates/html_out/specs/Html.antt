-- Names and escaping, after the HTML Standard's section on serialising fragments.
use Rattle.std.specs.Prelude.{ℕ, Bool, List, ◌++◌, ◌==◌, ◌&&◌, ◌||◌, if◌then◌else◌, codes, encode_utf8, length, nat_le, not}
use Rattle.std.specs.Char.{is_ascii}
use Rattle.std.specs.List.{flat_map}
use Rattle.std.specs.Str.{bytes_eq, chars}
use Rattle.sig_base.specs.declared.limits.TheConstants.{MOST_TAG}
use Rattle.sig_base.specs.Words.{is_tag}

-- elements that serialise without children and without an end tag
unfoldable pub is_void : List ℕ → Bool
is_void n = bytes_eq n (codes "area") || bytes_eq n (codes "base") || bytes_eq n (codes "br") || bytes_eq n (codes "col")
    || bytes_eq n (codes "embed") || bytes_eq n (codes "hr") || bytes_eq n (codes "img") || bytes_eq n (codes "input")
    || bytes_eq n (codes "link") || bytes_eq n (codes "meta") || bytes_eq n (codes "source") || bytes_eq n (codes "track")
    || bytes_eq n (codes "wbr") || bytes_eq n (codes "basefont") || bytes_eq n (codes "bgsound") || bytes_eq n (codes "frame")
    || bytes_eq n (codes "keygen") || bytes_eq n (codes "param")

-- elements whose texts are written as they are
unfoldable pub is_raw : List ℕ → Bool
is_raw n = bytes_eq n (codes "style") || bytes_eq n (codes "script") || bytes_eq n (codes "xmp") || bytes_eq n (codes "iframe")
    || bytes_eq n (codes "noembed") || bytes_eq n (codes "noframes") || bytes_eq n (codes "plaintext")

-- a name of elements and attributes
unfoldable pub good_name : List ℕ → Bool
good_name n = is_tag n && nat_le (length n) MOST_TAG

-- a character in text
abbrev pub in_text : ℕ → List ℕ
in_text c =
    if c == 38 then codes "&amp;"
    else if c == 160 then codes "&nbsp;"
    else if c == 60 then codes "&lt;"
    else if c == 62 then codes "&gt;"
    else encode_utf8 c

-- a character in an attribute's value
abbrev pub in_value : ℕ → List ℕ
in_value c = if c == 34 then codes "&quot;" else in_text c

-- a byte that is a character, written as it is in a text and in a value
abbrev pub is_plain : ℕ → Bool
is_plain b = is_ascii b && not (b == 34) && not (b == 38) && not (b == 60) && not (b == 62)

-- the bytes of a text in an element
unfoldable pub escaped : List ℕ → List ℕ
escaped text = flat_map in_text (chars text)

-- the bytes of an attribute's value between its quotes
unfoldable pub escaped_value : List ℕ → List ℕ
escaped_value value = flat_map in_value (chars value)

-- an attribute, with the space before it
unfoldable pub attribute : List ℕ → List ℕ → List ℕ
attribute name value = codes " " ++ (name ++ (codes "=\"" ++ (escaped_value value ++ codes "\"")))
