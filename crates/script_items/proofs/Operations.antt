-- Computeds of one operator between two operands, by the bytes behind their first word and a blank.
use Rattle.std.proofs.Common.{◌≡◌, ℕ, Bool, true, false, cond, List, [], ◌∷◌, ◌++◌, Option, Some, None, codes, length, refl, sym, ap, subst, ◌∙◌, inl}
use Rattle.std.specs.Prelude.{nat_lt, ◌||◌}
use Rattle.std.specs.Option.{option_map_or, option_or}
use Rattle.std.specs.Str.{bytes_eq}
use Rattle.std.proofs.lemmas.List.{append-nil}
use Rattle.sig_base.specs.declared.scalar.Scalar.{Scalar}
use Rattle.sig_base.specs.declared.scalar.Scalar.TheVariants as scalar
use Rattle.sig_formula.specs.declared.formula.BinOp.{BinOp}
use Rattle.sig_formula.specs.declared.formula.BinOp.TheVariants as op
use Rattle.sig_words.specs.Lexemes.{word}
use Rattle.formula_text.specs.declared.wired.FormulaFault.{FormulaFault}
use Rattle.formula_text.specs.declared.wired.FormulaFault.TheVariants as fault
use Rattle.formula_text.specs.Canonical.{canonical_text, leaf_text, operator_text}
use Rattle.formula_text.specs.Grammar.{binary, leaf}
use Rattle.formula_text.specs.Refusals.{is_above, is_long, names, with_leaf}
use Rattle.formula_text.specs.Signs.{Leaf, name, constant}
use Rattle.formula_text.specs.Slots.{refusal, wired, Wiring}
use Rattle.line_forms.specs.Printed.{line_text}
use Rattle.line_forms.specs.Reader.{name_of}
use Rattle.line_forms.proofs.Shared.{name_is, name_word, text_writes}
use Rattle.live_cmd.specs.declared.command.Command.TheVariants as command
use Rattle.live_cmd.specs.declared.command.Item.TheVariants as item
use Rattle.live_cmd.specs.declared.command.SourceText.TheVariants as source
use Rattle.live_cmd.specs.Grammar.{commands, computed, said_line, Said, Writes}
use Rattle.live_cmd.specs.Refusals.{refused_for, tracked}
use Rattle.script_items.specs.declared.operation.Operand.{Operand}
use Rattle.script_items.specs.declared.operation.Operand.TheVariants as operand
use Rattle.script_items.specs.Briefs.{IsShort}
use Rattle.script_items.specs.Items.{command_of, item_of, item_or}
use Rattle.script_items.specs.Operations.{leaf_of, operation_text, IsOperand}
use Rattle.script_items.specs.Views.{IsPlain}

-- a whole number or a truth is an operand
pub value_operand : (t : List ℕ) (v : Scalar) → IsShort v t → IsOperand t (operand.Value v)
value_operand t (scalar.Int z) h = record { printed = h.1; prints = h.0; short = refl }
value_operand t (scalar.Bool true) h = record { printed = h; prints = tt; short = refl }
value_operand t (scalar.Bool false) h = record { printed = h; prints = tt; short = refl }
value_operand t (scalar.Text u) h = absurd h

-- and so is a name
pub name_operand : (t n : List ℕ) → Some n ≡ name_of (word t) → IsOperand t (operand.Name n)
name_operand t n e = let is = name_is t n e in record { printed = sym is.1; prints = rw is.1 is.0; short = refl }

-- ---- the formula

-- the text of an operator between two leaves
between : (o : BinOp) (l r : Leaf)
    → canonical_text (binary o (leaf l) (leaf r)) ≡ leaf_text l ++ (codes " " ++ (operator_text o ++ (codes " " ++ leaf_text r)))
between op.Or l r = refl
between _ l r = refl

-- one name, or two
few_chosen : (b : Bool) (n m : List ℕ) → nat_lt 64 (length (cond b (n ∷ []) (n ∷ m ∷ []))) ≡ false
few_chosen true n m = refl
few_chosen false n m = refl

-- two leaves have few names
few : (l r : Leaf) → nat_lt 64 (length (with_leaf (with_leaf [] l) r)) ≡ false
few (name n) (name m) = few_chosen (bytes_eq n m || false) n m
few (name n) (constant s) = refl
few (constant s) (name m) = refl
few (constant s) (constant t) = refl

none_long : (a b : Bool) → a ≡ false → b ≡ false → (a || b) ≡ false
none_long false false h i = refl
none_long true b h i = absurd cc
none_long false true h i = absurd cc

none_chosen : (a b : Bool) (x y : FormulaFault) → a ≡ false → b ≡ false → cond a (Some x) (cond b (Some y) None) ≡ None
none_chosen false false x y h i = refl
none_chosen true b x y h i = absurd cc
none_chosen false true x y h i = absurd cc

-- nothing is wrong with it
accepted : (o : BinOp) (l r : Leaf) → is_long l ≡ false → is_long r ≡ false → refusal tracked (binary o (leaf l) (leaf r)) ≡ None
unfolding is_above
accepted o l r h i =
    none_chosen (is_long l || is_long r) (nat_lt 64 (length (names (binary o (leaf l) (leaf r))))) fault.TextLong fault.Sources
    (none_long (is_long l) (is_long r) h i) (few l r)

-- ---- the line

-- what is printed of it
line_printed : (p a b : List ℕ) (o : BinOp) (l r : Operand) → IsOperand a l → IsOperand b r →
    line_text commands (computed, (p, (binary o (leaf (leaf_of l)) (leaf (leaf_of r)), (None, tt)))) ≡ codes "computed " ++ operation_text p a o b
line_printed p a b o l r h i =
    let x = binary o (leaf (leaf_of l)) (leaf (leaf_of r)) in
    let left : leaf_text (leaf_of l) ≡ a = sym h.printed in
    let right : leaf_text (leaf_of r) ≡ b = sym i.printed in
    ap (λ (bs : List ℕ). codes "computed " ++ (bs ++ (codes " = " ++ (canonical_text x ++ [])))) (append-nil p)
    ∙ ap (λ (bs : List ℕ). codes "computed " ++ (p ++ (codes " = " ++ bs))) (append-nil (canonical_text x) ∙ between o (leaf_of l) (leaf_of r))
    ∙ ap (λ (bs : List ℕ). codes "computed " ++ operation_text p bs o (leaf_text (leaf_of r))) left
    ∙ ap (λ (bs : List ℕ). codes "computed " ++ operation_text p a o bs) right

-- what it gives
item_told : (k : ℕ) (p : List ℕ) (o : BinOp) (l r : Leaf) → is_long l ≡ false → is_long r ≡ false →
    item.Do (command.Computed p (source.Formula (wired (binary o (leaf l) (leaf r)))) None)
    ≡ item_of k (computed, (p, (binary o (leaf l) (leaf r), (None, tt))))
item_told k p o l r h i =
    let x : Said = (computed, (p, (binary o (leaf l) (leaf r), (None, tt)))) in
    ap (λ (f : Option FormulaFault). option_map_or (λ (g : FormulaFault). item.Refused (refused_for k g)) (option_or f None) (item_or k (command_of (said_line x)))) (sym (accepted o l r h i))

-- a computed of an operator between two operands
pub plain_operation : (k : ℕ) (t n p a b : List ℕ) (o : BinOp) (l r : Operand) (w : Wiring) → t ≡ operation_text p a o b → Some n ≡ name_of (word p) →
    IsOperand a l → IsOperand b r → w ≡ wired (binary o (leaf (leaf_of l)) (leaf (leaf_of r))) →
    IsPlain (k, codes "computed " ++ t) (item.Do (command.Computed n (source.Formula w) None))
plain_operation k t n p a b o l r w parts e h i made =
    let is = name_is p n e in
    let x : Said = (computed, (p, (binary o (leaf (leaf_of l)) (leaf (leaf_of r)), (None, tt)))) in
    let text : line_text commands x ≡ codes "computed " ++ t = line_printed p a b o l r h i ∙ ap (λ (bs : List ℕ). codes "computed " ++ bs) (sym parts) in
    let writes = text_writes commands x refl ((is.0, name_word p is.0), (refl, ((h.prints, i.prints), (tt, tt)))) in
    inl (x, subst (Writes x) text writes, refl, rw (is.1, made) (item_told k p o (leaf_of l) (leaf_of r) h.short i.short))
