-- What the commonest lines say, by the bytes behind their first word and a blank.
use Rattle.std.proofs.Common.{◌≡◌, ℕ, true, false, List, [], ◌∷◌, ◌++◌, Some, None, codes, refl, sym, ap, subst, ◌∙◌, inl}
use Rattle.std.specs.Fmt.{signed_decimal}
use Rattle.std.proofs.lemmas.List.{append-nil}
use Rattle.sig_base.specs.declared.scalar.Scalar.{Scalar}
use Rattle.sig_base.specs.declared.scalar.Scalar.TheVariants as scalar
use Rattle.sig_words.specs.Lexemes.{word}
use Rattle.line_forms.specs.Printed.{line_text}
use Rattle.line_forms.specs.Reader.{name_of}
use Rattle.line_forms.proofs.Shared.{name_is, name_word, text_writes}
use Rattle.live_cmd.specs.declared.command.Bare.TheVariants as bares
use Rattle.live_cmd.specs.declared.command.Command.TheVariants as command
use Rattle.live_cmd.specs.declared.command.Item.TheVariants as item
use Rattle.live_cmd.specs.declared.command.Verb.TheVariants as verbs
use Rattle.live_cmd.specs.Grammar.{bare, cell, commands, verb, set, Said, Writes}
use Rattle.script_items.specs.Briefs.{IsShort}
use Rattle.script_items.specs.Items.{item_of}
use Rattle.script_items.specs.Views.{IsPlain}

-- `get` and a name
pub plain_get : (k : ℕ) (t n : List ℕ) → Some n ≡ name_of (word t) → IsPlain (k, codes "get " ++ t) (item.Do (command.Named verbs.Get n))
plain_get k t n e =
    let is = name_is t n e in
    let x : Said = (verb verbs.Get, (t, tt)) in
    let text : line_text commands x ≡ codes "get " ++ t = ap (λ (bs : List ℕ). codes "get " ++ bs) (append-nil (t ++ []) ∙ append-nil t) in
    inl (x, subst (Writes x) text (text_writes commands x refl ((is.0, name_word t is.0), tt)), refl, rw is.1 refl)

-- the text of a name and a value
set_text : (p q d : List ℕ) → q ≡ d → codes "set " ++ ((p ++ []) ++ 32 ∷ ((d ++ []) ++ [])) ≡ codes "set " ++ (p ++ 32 ∷ q)
set_text p q d is =
    ap (λ (bs : List ℕ). codes "set " ++ (bs ++ 32 ∷ ((d ++ []) ++ []))) (append-nil p)
    ∙ ap (λ (bs : List ℕ). codes "set " ++ (p ++ 32 ∷ bs)) (append-nil (d ++ []) ∙ append-nil d ∙ sym is)

-- what is printed of `set`, a name, and a whole number or a truth
pub set_printed : (p q n : List ℕ) (v : Scalar) → Some n ≡ name_of (word p) → IsShort v q →
    (line_text commands (set, (p, (v, tt))) ≡ codes "set " ++ (p ++ 32 ∷ q)) × Writes (set, (p, (v, tt))) (line_text commands (set, (p, (v, tt))))
set_printed p q n (scalar.Int z) e h =
    (set_text p q (signed_decimal z) h.1, text_writes commands (set, (p, (scalar.Int z, tt))) refl (((name_is p n e).0, name_word p (name_is p n e).0), ((refl, h.0), tt)))
set_printed p q n (scalar.Bool true) e h =
    (set_text p q (codes "true") h, text_writes commands (set, (p, (scalar.Bool true, tt))) refl (((name_is p n e).0, name_word p (name_is p n e).0), ((refl, refl), tt)))
set_printed p q n (scalar.Bool false) e h =
    (set_text p q (codes "false") h, text_writes commands (set, (p, (scalar.Bool false, tt))) refl (((name_is p n e).0, name_word p (name_is p n e).0), ((refl, refl), tt)))
set_printed p q n (scalar.Text t) e h = absurd h

-- what it is
set_item : (k : ℕ) (p q : List ℕ) (v : Scalar) → IsShort v q → item.Do (command.Set p v) ≡ item_of k (set, (p, (v, tt)))
set_item k p q (scalar.Int z) h = refl
set_item k p q (scalar.Bool true) h = refl
set_item k p q (scalar.Bool false) h = refl
set_item k p q (scalar.Text t) h = absurd h

-- `set`, a name, and a whole number or a truth
pub plain_set : (k : ℕ) (t p q n : List ℕ) (v : Scalar) → t ≡ p ++ 32 ∷ q → Some n ≡ name_of (word p) → IsShort v q → IsPlain (k, codes "set " ++ t) (item.Do (command.Set n v))
plain_set k t p q n v parts e h =
    let x : Said = (set, (p, (v, tt))) in
    let told = set_printed p q n v e h in
    let text : line_text commands x ≡ codes "set " ++ t = told.0 ∙ ap (λ (bs : List ℕ). codes "set " ++ bs) (sym parts) in
    inl (x, subst (Writes x) text told.1, refl, rw (name_is p n e).1 (set_item k p q v h))

-- the text of a cell and its value
cell_text : (p q d : List ℕ) → q ≡ d → codes "cell " ++ ((p ++ []) ++ (codes " = " ++ ((d ++ []) ++ []))) ≡ codes "cell " ++ (p ++ (codes " = " ++ q))
cell_text p q d is =
    ap (λ (bs : List ℕ). codes "cell " ++ (bs ++ (codes " = " ++ ((d ++ []) ++ [])))) (append-nil p)
    ∙ ap (λ (bs : List ℕ). codes "cell " ++ (p ++ (codes " = " ++ bs))) (append-nil (d ++ []) ∙ append-nil d ∙ sym is)

-- what is printed of `cell`, a name, and a whole number or a truth
cell_printed : (p q n : List ℕ) (v : Scalar) → Some n ≡ name_of (word p) → IsShort v q →
    (line_text commands (cell, (p, (v, (None, (None, tt))))) ≡ codes "cell " ++ (p ++ (codes " = " ++ q)))
    × Writes (cell, (p, (v, (None, (None, tt))))) (line_text commands (cell, (p, (v, (None, (None, tt))))))
cell_printed p q n (scalar.Int z) e h = (
  cell_text p q (signed_decimal z) h.1,
  text_writes commands (cell, (p, (scalar.Int z, (None, (None, tt))))) refl
      (((name_is p n e).0, name_word p (name_is p n e).0), (refl, ((refl, h.0), (tt, (tt, tt))))),
)
cell_printed p q n (scalar.Bool true) e h = (
  cell_text p q (codes "true") h,
  text_writes commands (cell, (p, (scalar.Bool true, (None, (None, tt))))) refl
      (((name_is p n e).0, name_word p (name_is p n e).0), (refl, ((refl, refl), (tt, (tt, tt))))),
)
cell_printed p q n (scalar.Bool false) e h = (
  cell_text p q (codes "false") h,
  text_writes commands (cell, (p, (scalar.Bool false, (None, (None, tt))))) refl
      (((name_is p n e).0, name_word p (name_is p n e).0), (refl, ((refl, refl), (tt, (tt, tt))))),
)
cell_printed p q n (scalar.Text t) e h = absurd h

-- what it is
cell_item : (k : ℕ) (p q : List ℕ) (v : Scalar) → IsShort v q → item.Do (command.Cell p v None None) ≡ item_of k (cell, (p, (v, (None, (None, tt)))))
cell_item k p q (scalar.Int z) h = refl
cell_item k p q (scalar.Bool true) h = refl
cell_item k p q (scalar.Bool false) h = refl
cell_item k p q (scalar.Text t) h = absurd h

-- `cell`, a name, and a whole number or a truth
pub plain_cell : (k : ℕ) (t p r q n : List ℕ) (v : Scalar) → t ≡ p ++ 32 ∷ r → r ≡ codes "= " ++ q → Some n ≡ name_of (word p) → IsShort v q →
    IsPlain (k, codes "cell " ++ t) (item.Do (command.Cell n v None None))
plain_cell k t p r q n v parts rest e h =
    let x : Said = (cell, (p, (v, (None, (None, tt))))) in
    let told = cell_printed p q n v e h in
    let text : line_text commands x ≡ codes "cell " ++ t =
    told.0 ∙ ap (λ (bs : List ℕ). codes "cell " ++ (p ++ 32 ∷ bs)) (sym rest) ∙ ap (λ (bs : List ℕ). codes "cell " ++ bs) (sym parts) in
    inl (x, subst (Writes x) text told.1, refl, rw (name_is p n e).1 (cell_item k p q v h))

-- `flush`
pub plain_flush : (k : ℕ) → IsPlain (k, codes "flush") (item.Do (command.Bare bares.Flush))
plain_flush k = inl ((bare bares.Flush, tt), text_writes commands (bare bares.Flush, tt) refl tt, refl, refl)
