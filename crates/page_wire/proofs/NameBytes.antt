-- Names are short, and UTF-8.
use Rattle.std.proofs.Common.{◌≡◌, ℕ, ◌≤◌, ◌&&◌, true, not, List, length}
use Rattle.std.specs.Prelude.{nat_le}
use Rattle.std.specs.Str.{IsUtf8}
use Rattle.std.proofs.lemmas.Bool.{and_parts, leb-true}
use Rattle.sig_base.specs.Words.{is_name, is_reserved, is_word}
use Rattle.sig_words.proofs.Shared.{word_utf8}

pub short : (w : List ℕ) → is_name w ≡ true → length w ≤ 32
unfolding is_name
short w h =
    let both = and_parts (is_word w && nat_le (length w) 32) (not (is_reserved w)) h in
    leb-true (length w) 32 (and_parts (is_word w) (nat_le (length w) 32) both.0).1

pub name_utf8 : (w : List ℕ) → is_name w ≡ true → IsUtf8 w
unfolding is_name
name_utf8 w h = word_utf8 w (and_parts (is_word w) (nat_le (length w) 32) (and_parts (is_word w && nat_le (length w) 32) (not (is_reserved w)) h).0).0
