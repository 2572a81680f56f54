-- Lines as they are read, and the tests of forms that are read in one way.
use Rattle.std.specs.Prelude.{ℕ, pos, ◌-◌, Bool, true, false, ◌&&◌, ◌||◌, not, if◌then◌else◌}
use Rattle.std.specs.Prelude.{List, [], ◌∷◌, length, drop, codes, Option, Some, None, option_map, option_and_then}
use Rattle.std.specs.Str.{bytes_eq}
use Rattle.sig_base.specs.declared.scalar.Scalar.{Scalar}
use Rattle.sig_base.specs.declared.scalar.Scalar.TheVariants as scalar
use Rattle.sig_base.specs.Words.{is_name}
use Rattle.sig_words.specs.Lexemes.{Lexeme, word, tag, number, literal, symbol}
use Rattle.formula_text.specs.Signs.{Sign, signs, sign}
use Rattle.formula_text.specs.Signs as s
use Rattle.formula_text.specs.Grammar.{Draft}
use Rattle.formula_text.specs.Parser.{Part as Run, expr}
use Rattle.line_forms.specs.Forms.{One, name, value, key, count, tagged, Of, Part, one, perhaps, many, listed, arguments, formula, Contents}
use Rattle.line_forms.specs.Forms.{are_distinct, Form, fixed, part, Args}

-- what was read, and the tokens behind it
abbrev pub Reader : Type 0 → Type 0
Reader A = List Lexeme → Option (A × List Lexeme)

-- whether it is the word or the symbol
abbrev pub same : Lexeme → Lexeme → Bool
same (word a) (word b) = bytes_eq b a
same (symbol a) (symbol b) = bytes_eq b a
same _ _ = false

-- the truth that a word says
abbrev pub truth_of : List ℕ → Option Scalar
truth_of w = if bytes_eq w (codes "true") then Some (scalar.Bool true) else (if bytes_eq w (codes "false") then Some (scalar.Bool false) else None)

-- the value that a token says, a text of any length
abbrev pub scalar_of : Lexeme → Option Scalar
scalar_of (word w) = truth_of w
scalar_of (number z) = Some (scalar.Int z)
scalar_of (literal t) = Some (scalar.Text t)
scalar_of _ = None

-- the name that a token says
abbrev pub name_of : Lexeme → Option (List ℕ)
name_of (word w) = if is_name w then Some w else None
name_of _ = None

-- the text that a token says
abbrev pub key_of : Lexeme → Option (List ℕ)
key_of (literal t) = Some t
key_of _ = None

-- the number without sign that a token says
abbrev pub count_of : Lexeme → Option ℕ
count_of (number (pos k)) = Some k
count_of _ = None

-- the name that a token says behind @
abbrev pub tag_of : Lexeme → Option (List ℕ)
tag_of (tag n) = Some n
tag_of _ = None

-- what a token says
abbrev pub one_of : (o : One) → Lexeme → Option (Of o)
one_of name l = name_of l
one_of value l = scalar_of l
one_of key l = key_of l
one_of count l = count_of l
one_of tagged l = tag_of l

-- what the first token says
abbrev pub read_one : (o : One) → Reader (Of o)
read_one o [] = None
read_one o (l ∷ ls) = option_map (λ v. (v, ls)) (one_of o l)

-- the word with which tokens begin
abbrev pub read_word : Reader (List ℕ)
read_word (word w ∷ ls) = Some (w, ls)
read_word _ = None

-- what is there
abbrev pub there : {A : Type 0} → A × List Lexeme → Option A × List Lexeme
there r = (Some r.0, r.1)

-- what stands behind the word, if the word does
abbrev pub read_perhaps : List ℕ → (o : One) → Reader (Option (Of o))
read_perhaps w o [] = Some (None, [])
read_perhaps w o (l ∷ ls) = if same (word w) l then option_map there (read_one o ls) else Some (None, l ∷ ls)

-- what all tokens say
abbrev pub each_of : (o : One) → List Lexeme → Option (List (Of o))
each_of o [] = Some []
each_of o (l ∷ ls) = option_and_then (λ v. option_map (λ vs. v ∷ vs) (each_of o ls)) (one_of o l)

-- one more before what was read
abbrev pub with_first : {A : Type 0} → A → List A × List Lexeme → List A × List Lexeme
with_first v r = (v ∷ r.0, r.1)

-- the rest of a list behind its first
abbrev pub read_behind : (o : One) → Reader (List (Of o))
read_behind o [] = None
read_behind o (l ∷ []) = if same (symbol (codes ")")) l then Some ([], []) else None
read_behind o (l ∷ k ∷ ls) =
    if same (symbol (codes ")")) l then Some ([], k ∷ ls)
    else if same (symbol (codes ",")) l then option_and_then (λ v. option_map (with_first v) (read_behind o ls)) (one_of o k)
    else None

-- a list behind its opening parenthesis
abbrev pub read_opened : (o : One) → Reader (List (Of o))
read_opened o [] = None
read_opened o (l ∷ ls) =
    if same (symbol (codes ")")) l then Some ([], ls) else option_and_then (λ v. option_map (with_first v) (read_behind o ls)) (one_of o l)

-- a list between parentheses
abbrev pub read_listed : (o : One) → Reader (List (Of o))
read_listed o [] = None
read_listed o (l ∷ ls) = if same (symbol (codes "(")) l then read_opened o ls else None

-- names, if none of them stands there twice
abbrev pub if_distinct : List (List ℕ) × List Lexeme → Option (List (List ℕ) × List Lexeme)
if_distinct r = if are_distinct r.0 then Some r else None

-- the formula, and the tokens of which as many signs are left
abbrev pub left_of : List Lexeme → Run → Draft × List Lexeme
left_of ls r = (r.0, drop (length ls - length r.2) ls)

-- the longest formula
unfoldable pub read_formula : Reader Draft
read_formula ls = option_map (left_of ls) (expr (length ls) 0 (signs ls))

-- what a part says
abbrev pub read_part : (p : Part) → Reader (Contents p)
read_part (one o) ls = read_one o ls
read_part (perhaps w o) ls = read_perhaps w o ls
read_part (many o) ls = option_map (λ vs. (vs, [])) (each_of o ls)
read_part (listed o) ls = read_listed o ls
read_part arguments ls = option_and_then if_distinct (read_listed name ls)
read_part formula ls = read_formula ls

-- what stands behind this token
abbrev pub read_fixed : Lexeme → List Lexeme → Option (List Lexeme)
read_fixed m [] = None
read_fixed m (l ∷ ls) = if same m l then Some ls else None

-- what all these tokens say as a line of this form
abbrev pub read_form : (ps : Form) → List Lexeme → Option (Args ps)
read_form [] [] = Some tt
read_form [] (l ∷ ls) = None
read_form (fixed m ∷ ps) ls = option_and_then (read_form ps) (read_fixed m ls)
read_form (part p ∷ ps) ls = option_and_then (λ r. option_map (λ a. (r.0, a)) (read_form ps r.1)) (read_part p ls)

-- ---- forms that are read in one way

-- whether it is an operator
abbrev pub is_operator : Sign → Bool
is_operator (s.operator o) = true
is_operator _ = false

-- the tokens that may not follow a part, since it would go on
abbrev pub bars : Part → Lexeme → Bool
bars (one o) l = false
bars (perhaps w o) l = same (word w) l
bars (many o) l = true
bars (listed o) l = false
bars arguments l = false
bars formula l = is_operator (sign l)

-- no line of this form begins with a token that has this property
abbrev pub avoids : (Lexeme → Bool) → Form → Bool
avoids q [] = true
avoids q (fixed l ∷ ps) = not (q l)
avoids q (part (perhaps w o) ∷ ps) = not (q (word w)) && avoids q ps
avoids q (part p ∷ ps) = false

-- whether a part could go on
abbrev pub is_open : Part → Bool
is_open (one o) = false
is_open (listed o) = false
is_open arguments = false
is_open _ = true

-- each part ends where it can't go on
abbrev pub is_clear : Form → Bool
is_clear [] = true
is_clear (fixed l ∷ ps) = same l l && is_clear ps
is_clear (part p ∷ ps) = (not (is_open p) || avoids (bars p) ps) && is_clear ps

-- ---- forms that have no line in common

-- two words, or two symbols, that aren't the same
abbrev pub differ : Lexeme → Lexeme → Bool
differ (word a) (word b) = not (bytes_eq a b)
differ (symbol a) (symbol b) = not (bytes_eq a b)
differ _ _ = false

-- whether no formula has it
abbrev pub is_other : Sign → Bool
is_other s.other = true
is_other _ = false

-- each line of this form has a token
abbrev pub has_some : Form → Bool
has_some (fixed l ∷ ps) = true
has_some (part (one o) ∷ ps) = true
has_some _ = false

-- no tokens spell a line of both forms
abbrev pub apart : Form → Form → Bool
apart [] qs = has_some qs
apart (fixed l ∷ ps) (fixed m ∷ qs) = differ l m || apart ps qs
apart (part (one o) ∷ ps) (part (one q) ∷ qs) = apart ps qs
apart (fixed l ∷ ps) (part formula ∷ qs) = is_other (sign l)
apart _ _ = false
