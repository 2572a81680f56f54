-- What a first word says of its rows, and what bytes write.
use Rattle.std.proofs.Common.{◌≡◌, ℕ, Bool, true, false, cond, List, [], ◌∷◌, Option, Some, None, refl, sym, ap, ◌∙◌, ◌⊎◌, inl, inr}
use Rattle.std.specs.Option.{option_map_or}
use Rattle.std.specs.Str.{bytes_eq}
use Rattle.std.proofs.lemmas.Bool.{cases_Bool}
use Rattle.line_forms.specs.Rows.{Table, rows_of}
use Rattle.line_forms.proofs.Shared as lines
use Rattle.live_cmd.specs.declared.command.Bare.{Bare}
use Rattle.live_cmd.specs.declared.command.Verb.{Verb}
use Rattle.live_cmd.specs.Grammar.{Row, commands, table, bare, verb, rows_before, later_rows, other_rows, Said, Writes}
use Rattle.live_cmd.specs.Words.{all_bares, all_verbs, bare_of, bare_word, by_word, found, verb_of, verb_word}
use Rattle.live_cmd.proofs.Grammars.{is_grammar}

-- ---- rows that stand at the words of some

first_row : {A : Type 0} (as_row : A → Row) (b : Bool) (x : A) (o : Option A) (rows others : List Row)
    → rows ≡ option_map_or (λ (y : A). as_row y ∷ []) o others
    → cond b (as_row x ∷ []) rows ≡ option_map_or (λ (y : A). as_row y ∷ []) (cond b (Some x) o) others
first_row as_row true x o rows others e = refl
first_row as_row false x o rows others e = e

-- the row of what has the word, and else those of the others
rows_by_word : {A : Type 0} (word_of : A → List ℕ) (as_row : A → Row) (xs : List A) (others : Table Row) (w : List ℕ)
    → rows_of w (rows_before word_of as_row xs others) ≡ option_map_or (λ (y : A). as_row y ∷ []) (found (by_word word_of xs) w) (rows_of w others)
rows_by_word word_of as_row [] others w = refl
rows_by_word word_of as_row (x ∷ xs) others w =
    first_row as_row (bytes_eq w (word_of x)) x (found (by_word word_of xs) w) (rows_of w (rows_before word_of as_row xs others)) (rows_of w others)
    (rows_by_word word_of as_row xs others w)

-- a verb's word has the row of the verb
pub verb_rows : (w : List ℕ) (v : Verb) → Some v ≡ verb_of w → rows_of w table ≡ verb v ∷ []
verb_rows w v e =
    rows_by_word verb_word verb all_verbs other_rows w
    ∙ ap (λ (o : Option Verb). option_map_or (λ (y : Verb). verb y ∷ []) o (rows_of w other_rows)) (sym e)

-- another word has the rows of the others
pub rows_of_other : (w : List ℕ) → None ≡ verb_of w → rows_of w table ≡ rows_of w other_rows
rows_of_other w e =
    rows_by_word verb_word verb all_verbs other_rows w
    ∙ ap (λ (o : Option Verb). option_map_or (λ (y : Verb). verb y ∷ []) o (rows_of w other_rows)) (sym e)

-- so it is with the words that stand alone
pub bare_rows : (w : List ℕ) (b : Bare) → Some b ≡ bare_of w → rows_of w other_rows ≡ bare b ∷ []
bare_rows w b e =
    rows_by_word bare_word bare all_bares later_rows w
    ∙ ap (λ (o : Option Bare). option_map_or (λ (y : Bare). bare y ∷ []) o (rows_of w later_rows)) (sym e)

-- and with those that don't
pub rows_of_later : (w : List ℕ) → None ≡ bare_of w → rows_of w other_rows ≡ rows_of w later_rows
rows_of_later w e =
    rows_by_word bare_word bare all_bares later_rows w
    ∙ ap (λ (o : Option Bare). option_map_or (λ (y : Bare). bare y ∷ []) o (rows_of w later_rows)) (sym e)

-- ---- lines of bytes

-- a line says one thing
pub one_writing : (bytes : List ℕ) (x y : Said) → Writes x bytes → Writes y bytes → x ≡ y
one_writing bytes x y v w = lines.one_writing commands is_grammar bytes x y v w

-- where a test fails of what bytes write, they write nothing of which it holds
pub none_such : (p : Said → Bool) (bytes : List ℕ) (x : Said) → Writes x bytes → p x ≡ false → (y : Said) → Writes y bytes → p y ≡ true → ⊥
none_such p bytes x w fails y v holds =
    let both : false ≡ true = sym fails ∙ ap p (one_writing bytes x y w v) ∙ holds in
    absurd cc

-- bytes write something of which a test holds, or nothing such
pub such_or_none : (p : Said → Bool) (bytes : List ℕ) → ((x : Said) × Writes x bytes × (p x ≡ true)) ⊎ ((x : Said) → Writes x bytes → p x ≡ true → ⊥)
such_or_none p bytes = elim (lines.line_or_none commands is_grammar bytes) [
  | inr none ↦ inr (λ x w h. none x w)
  | inl l ↦ elim (cases_Bool (p l.0)) [
    | inl e ↦ inl (l.0, l.1, e)
    | inr e ↦ inr (none_such p bytes l.0 l.1 e)
  ]
]
