-- Which bytes are names.
use Rattle.std.proofs.Common.{◌≡◌, ℕ, Bool, ◌&&◌, true, false, cond, List, Some, None, length, not, refl, inl, inr}
use Rattle.std.specs.Prelude.{nat_le}
use Rattle.std.specs.Str.{IsUtf8}
use Rattle.std.proofs.lemmas.Bool.{and_parts, cases_Bool}
use Rattle.sig_base.specs.Words.{is_name, is_word, is_reserved}
use Rattle.sig_words.specs.Lexemes.{word}
use Rattle.sig_words.proofs.Shared.{word_utf8}
use Rattle.line_forms.specs.Reader.{name_of}

-- a name is a word
pub name_word : (w : List ℕ) → is_name w ≡ true → is_word w ≡ true
unfolding is_name
name_word w h = (and_parts (is_word w) (nat_le (length w) 32) (and_parts (is_word w && nat_le (length w) 32) (not (is_reserved w)) h).0).0

-- bytes that aren't UTF-8 are no name
pub no_name : (w : List ℕ) → (IsUtf8 w → ⊥) → None ≡ name_of (word w)
no_name w bad = elim (cases_Bool (is_name w)) [ inl e ↦ absurd (bad (word_utf8 w (name_word w e))) | inr e ↦ rw e refl ]

chosen : (b : Bool) (w n : List ℕ) → Some n ≡ cond b (Some w) None → (b ≡ true) × (n ≡ w)
chosen true w n e = (refl, cc)
chosen false w n e = absurd cc

-- a name that a word says is the word
pub name_is : (w n : List ℕ) → Some n ≡ name_of (word w) → (is_name w ≡ true) × (n ≡ w)
name_is w n e = chosen (is_name w) w n e
