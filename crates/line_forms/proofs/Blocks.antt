-- What bytes write is what is read of them, and lines one after the other say one thing.
use Rattle.std.proofs.Common.{◌≡◌, ℕ, ◌+◌, true, List, [], ◌∷◌, map, Option, Some, None, refl, sym, ap, subst, ◌∙◌, inl, inr, ◌⊎◌}
use Rattle.std.specs.Prelude.{IsTrue}
use Rattle.std.proofs.lemmas.Bool.{cases_Bool}
use Rattle.sig_words.specs.declared.token.Token.{Token}
use Rattle.sig_words.specs.Lexemes.{word, lexemes}
use Rattle.sig_words.specs.Tokens.{AreTokens, IsBad}
use Rattle.sig_words.proofs.Shared.{no_cutting, one_cutting, tokens_or_none}
use Rattle.script_lines.specs.Lines.{NumberedLine, numbered}
use Rattle.line_forms.specs.Blocks.{Writes, Places, Say, IsFaulty, reached, said_all}
use Rattle.line_forms.specs.Printed.{line_text}
use Rattle.line_forms.specs.Rows.{Language, Said, IsGrammar, said_of}
use Rattle.line_forms.proofs.Completeness.{said_complete, said_spells}
use Rattle.line_forms.proofs.Lexer.{prints_line, rewrites}
use Rattle.line_forms.proofs.Printable.{IsWritten, PrintsForm}

-- ---- one line

-- what is read of the tokens of a line is written
pub writes : (language : Language) → IsGrammar language → (bytes : List ℕ) (ts : List Token) (x : Said language)
    → AreTokens bytes ts → said_of language (lexemes bytes ts) ≡ Some x → Writes language x bytes
writes language g bytes ts x a e = record { tokens = ts; cut = a; spelled = said_spells language g x (lexemes bytes ts) e }

-- what is read of the tokens is all that the line can say
is_read : (language : Language) → IsGrammar language → (bytes : List ℕ) (ts : List Token) (x : Said language)
    → AreTokens bytes ts → Writes language x bytes → said_of language (lexemes bytes ts) ≡ Some x
is_read language g bytes ts x a w =
    ap (λ (us : List Token). said_of language (lexemes bytes us)) (one_cutting bytes ts w.tokens a w.cut)
    ∙ said_complete language g x (lexemes bytes w.tokens) w.spelled

-- tokens that are read as no line write none
pub writes_none : (language : Language) → IsGrammar language → (bytes : List ℕ) (ts : List Token)
    → AreTokens bytes ts → said_of language (lexemes bytes ts) ≡ None → (x : Said language) → Writes language x bytes → ⊥
writes_none language g bytes ts a e x w = let f : None ≡ Some x = sym e ∙ is_read language g bytes ts x a w in cc

-- a line without tokens says nothing
pub bad_writes_none : (language : Language) (bytes : List ℕ) (at : ℕ) → IsBad bytes at → (x : Said language) → Writes language x bytes → ⊥
bad_writes_none language bytes at bad x w = no_cutting bytes at w.tokens bad w.cut

same_some : {A : Type 0} (x y : A) → Some x ≡ Some y → x ≡ y
same_some x y e = cc

-- a line says one thing
pub one_writing : (language : Language) → IsGrammar language → (bytes : List ℕ) (x y : Said language)
    → Writes language x bytes → Writes language y bytes → x ≡ y
one_writing language g bytes x y v w =
    same_some x y (sym (is_read language g bytes v.tokens x v.cut v) ∙ is_read language g bytes v.tokens y v.cut w)

of_tokens : (language : Language) → IsGrammar language → (bytes : List ℕ) (ts : List Token) (o : Option (Said language))
    → AreTokens bytes ts → said_of language (lexemes bytes ts) ≡ o
    → ((x : Said language) × Writes language x bytes) ⊎ ((x : Said language) → Writes language x bytes → ⊥)
of_tokens language g bytes ts None a e = inr (writes_none language g bytes ts a e)
of_tokens language g bytes ts (Some x) a e = inl (x, writes language g bytes ts x a e)

-- bytes write a line, or none
pub line_or_none : (language : Language) → IsGrammar language → (bytes : List ℕ)
    → ((x : Said language) × Writes language x bytes) ⊎ ((x : Said language) → Writes language x bytes → ⊥)
line_or_none language g bytes = elim (tokens_or_none bytes) [
  | inl t ↦ of_tokens language g bytes t.0 (said_of language (lexemes bytes t.0)) t.1 refl
  | inr none ↦ inr (λ x w. none w.tokens w.cut)
]

-- ---- lines one after the other

-- a line says something that may stand there, or nothing
line_at : {P : Type 0} (language : Language) → IsGrammar language → (at : Places (Said language) P) (p : P) (bytes : List ℕ)
    → ((x : Said language) × Writes language x bytes × IsTrue (at.fits p x)) ⊎ ((x : Said language) → Writes language x bytes → IsTrue (at.fits p x) → ⊥)
line_at language g at p bytes = elim (line_or_none language g bytes) [
  | inr none ↦ inr (λ x w f. none x w)
  | inl l ↦ elim (cases_Bool (at.fits p l.0)) [
    | inl e ↦ inl (l.0, l.1, e)
    | inr e ↦ inr (λ x w f.
        let same : l.0 ≡ x = one_writing language g bytes l.0 x l.1 w in
        let no : at.fits p l.0 ≡ true = ap (λ (y : Said language). at.fits p y) same ∙ f in
        absurd cc)
  ]
]

-- lines say something each where it stands, or one is the first that doesn't
pub lines_or_fault : {P : Type 0} (language : Language) → IsGrammar language → (at : Places (Said language) P) (p : P)
    (ls : List (ℕ × List ℕ)) → ((xs : List (ℕ × Said language)) × Say language at p ls xs) ⊎ ((k : ℕ) × IsFaulty language at p ls k)
lines_or_fault language g at p [] = inl ([], tt)
lines_or_fault language g at p (l ∷ ls) = elim (line_at language g at p l.1) [
  | inr none ↦ inr (l.0, inl (refl, none))
  | inl x ↦ elim (lines_or_fault language g at (at.moved p x.0) ls) [
    | inl r ↦ inl ((l.0, x.0) ∷ r.0, (refl, x.1, x.2, r.1))
    | inr r ↦ inr (r.0, inr (x.0, x.1, x.2, r.1))
  ]
]

-- lines say one thing
pub one_saying : {P : Type 0} (language : Language) → IsGrammar language → (at : Places (Said language) P) (p : P)
    (ls : List (ℕ × List ℕ)) (xs ys : List (ℕ × Said language)) → Say language at p ls xs → Say language at p ls ys → xs ≡ ys
one_saying language g at p [] [] [] s t = refl
one_saying language g at p [] [] (y ∷ ys) s t = absurd t
one_saying language g at p [] (x ∷ xs) ys s t = absurd s
one_saying language g at p (l ∷ ls) [] ys s t = absurd s
one_saying language g at p (l ∷ ls) (x ∷ xs) [] s t = absurd t
one_saying language g at p (l ∷ ls) (x ∷ xs) (y ∷ ys) s t =
    let same : x.1 ≡ y.1 = one_writing language g l.1 x.1 y.1 s.1 t.1 in
    let number : x.0 ≡ y.0 = s.0 ∙ sym t.0 in
    let rest = one_saying language g at (at.moved p x.1) ls xs ys s.3
    (subst (λ (z : Said language). Say language at (at.moved p z) ls ys) (sym same) t.3) in
    let pair : ℕ → Said language → ℕ × Said language = λ n z. (n, z) in
    let whole : x ≡ y = ap (λ (n : ℕ). pair n x.1) number ∙ ap (λ (z : Said language). pair y.0 z) same in
    cc

-- no line is faulty among lines that say something
pub no_both : {P : Type 0} (language : Language) → IsGrammar language → (at : Places (Said language) P) (p : P)
    (ls : List (ℕ × List ℕ)) (xs : List (ℕ × Said language)) (k : ℕ) → Say language at p ls xs → IsFaulty language at p ls k → ⊥
no_both language g at p [] xs k s f = f
no_both language g at p (l ∷ ls) [] k s f = s
no_both language g at p (l ∷ ls) (x ∷ xs) k s (inl f) = f.1 x.1 s.1 s.2
no_both language g at p (l ∷ ls) (x ∷ xs) k s (inr f) =
    let same : f.0 ≡ x.1 = one_writing language g l.1 f.0 x.1 f.1 s.1 in
    no_both language g at (at.moved p x.1) ls xs k s.3 (subst (λ (z : Said language). IsFaulty language at (at.moved p z) ls k) same f.3)

-- one line is the first that is faulty
pub one_fault : {P : Type 0} (language : Language) → IsGrammar language → (at : Places (Said language) P) (p : P)
    (ls : List (ℕ × List ℕ)) (k j : ℕ) → IsFaulty language at p ls k → IsFaulty language at p ls j → k ≡ j
one_fault language g at p [] k j f h = absurd f
one_fault language g at p (l ∷ ls) k j (inl f) (inl h) = f.0 ∙ sym h.0
one_fault language g at p (l ∷ ls) k j (inl f) (inr h) = absurd (f.1 h.0 h.1 h.2)
one_fault language g at p (l ∷ ls) k j (inr f) (inl h) = absurd (h.1 f.0 f.1 f.2)
one_fault language g at p (l ∷ ls) k j (inr f) (inr h) =
    let same : h.0 ≡ f.0 = one_writing language g l.1 h.0 f.0 h.1 f.1 in
    one_fault language g at (at.moved p f.0) ls k j f.3 (subst (λ (z : Said language). IsFaulty language at (at.moved p z) ls j) same h.3)

-- ---- printed lines say what was said

-- what can be printed of a line is written by its text
pub text_writes : (language : Language) (x : Said language) → IsWritten (word (language.row x.0).0) → PrintsForm (language.row x.0).1 x.1
    → Writes language x (line_text language x)
text_writes language x first parts =
    let own = prints_line language x first parts in
    record { tokens = own.tokens; cut = own.cut; spelled = own.spelled }

-- the printed line writes what it was printed of
pub prints_back : (language : Language) (x : Said language) (bytes : List ℕ) → Writes language x bytes → Writes language x (line_text language x)
prints_back language x bytes w =
    let again = rewrites language bytes w.tokens x w.cut w.spelled in
    record { tokens = again.tokens; cut = again.cut; spelled = again.spelled }

-- sayings with other numbers, the first of them n
abbrev pub renumbered : {S : Type 0} → ℕ → List (ℕ × S) → List (ℕ × S)
renumbered n [] = []
renumbered n (x ∷ xs) = (n, x.1) ∷ renumbered (n + 1) xs

-- the printed lines say again what was said
pub say_again : {P : Type 0} (language : Language) (at : Places (Said language) P) (p : P) (ls : List NumberedLine) (xs : List (ℕ × Said language)) (n : ℕ)
    → Say language at p ls xs → Say language at p (numbered n (map (line_text language) (said_all xs))) (renumbered n xs)
unfolding numbered
say_again language at p [] [] n s = tt
say_again language at p [] (x ∷ xs) n s = absurd s
say_again language at p (l ∷ ls) [] n s = absurd s
say_again language at p (l ∷ ls) (x ∷ xs) n s =
    (refl, prints_back language x.1 l.1 s.1, s.2, say_again language at (at.moved p x.1) ls xs (n + 1) s.3)

-- what is so of each without its number is so again
pub each_again : {S A : Type 0} (f : S → A) (n : ℕ) (xs : List (ℕ × S)) → map (λ x. f x.1) (renumbered n xs) ≡ map (λ x. f x.1) xs
each_again f n [] = refl
each_again f n (x ∷ xs) = ap (λ ys. f x.1 ∷ ys) (each_again f (n + 1) xs)

-- they come to the same place
pub reached_again : {S P : Type 0} (at : Places S P) (p : P) (xs : List (ℕ × S)) (n : ℕ) → reached at p (renumbered n xs) ≡ reached at p xs
reached_again at p [] n = refl
reached_again at p (x ∷ xs) n = reached_again at (at.moved p x.1) xs (n + 1)
