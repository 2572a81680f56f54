-- Computeds of operators between operands, by the bytes behind their first word and a blank.
use Rattle.std.proofs.Common.{◌≡◌, ℕ, suc, ◌+◌, ◌-◌, ◌<◌, ◌≤◌, Bool, true, false, cond, List, [], ◌∷◌, ◌++◌, Option, Some, None, codes, length, refl, sym, ap, subst, ◌∙◌, append_assoc, arith, inl}
use Rattle.std.specs.Prelude.{nat_lt, ◌||◌, ◌&&◌, ◌==◌}
use Rattle.std.specs.Option.{option_map_or, option_or}
use Rattle.std.proofs.lemmas.Bool.{ne_eqb}
use Rattle.std.proofs.lemmas.Bool.Decides.{nat_tests}
use Rattle.std.proofs.lemmas.List.{append-nil, length-append}
use Rattle.sig_formula.specs.declared.formula.BinOp.{BinOp}
use Rattle.sig_formula.specs.Trees.{Tree}
use Rattle.sig_formula.specs.Trees as tree
use Rattle.sig_words.specs.Lexemes.{word}
use Rattle.formula_text.specs.declared.wired.FormulaFault.{FormulaFault}
use Rattle.formula_text.specs.declared.wired.FormulaFault.TheVariants as fault
use Rattle.formula_text.specs.Canonical.{canonical_text, grouped, leaf_text, minimal, operator_text, written}
use Rattle.formula_text.specs.Grammar.{Draft, Written, before, binary, chain, leaf, level, single}
use Rattle.formula_text.specs.Refusals.{has_long_text, has_untrack, is_above, is_long, leaf_tree, names, needs_row, slotted, with_leaf, with_names}
use Rattle.formula_text.specs.RoundTrips.{IsPrintable}
use Rattle.formula_text.specs.Signs.{Leaf, name, constant}
use Rattle.formula_text.specs.Slots.{refusal, wired, Wiring}
use Rattle.line_forms.specs.Printed.{line_text}
use Rattle.line_forms.specs.Reader.{name_of}
use Rattle.line_forms.proofs.Shared.{name_is, name_word, text_writes}
use Rattle.live_cmd.specs.declared.command.Command.TheVariants as command
use Rattle.live_cmd.specs.declared.command.Item.TheVariants as item
use Rattle.live_cmd.specs.declared.command.SourceText.TheVariants as source
use Rattle.live_cmd.specs.Grammar.{commands, computed, said_line, Said, Writes}
use Rattle.live_cmd.specs.Refusals.{refused_for, tracked}
use Rattle.script_items.specs.declared.chain.Chain.{Chain}
use Rattle.script_items.specs.declared.chain.Link.{Link}
use Rattle.script_items.specs.declared.operation.Operand.{Operand}
use Rattle.script_items.specs.Chains.{link_text, linked, linked_tree, links_text, with_links, AreLinks, EachPrints, FitsTo, IsChain}
use Rattle.script_items.specs.Operations.{leaf_of, IsOperand}
use Rattle.script_items.specs.Items.{command_of, item_of, item_or}
use Rattle.script_items.specs.Views.{IsPlain}

-- ---- one more operator

text_more : (ls : List Link) (l : Link) → links_text (ls ++ l ∷ []) ≡ links_text ls ++ link_text l
text_more [] l = append-nil (link_text l)
text_more (k ∷ ls) l =
    ap (λ (bs : List ℕ). link_text k ++ bs) (text_more ls l) ∙ sym (append_assoc (link_text k) (links_text ls) (link_text l))

prints_more : (ls : List Link) (l : Link) (w : List ℕ) → EachPrints ls → IsOperand w l.operand → EachPrints (ls ++ l ∷ [])
prints_more [] l w h o = (o.prints, o.short, tt)
prints_more (k ∷ ls) l w h o = (h.0, h.1, prints_more ls l w h.2 o)

fits_more : (k m : ℕ) (ls : List Link) (l : Link) → FitsTo k ls m → before l.operator ≤ m → FitsTo k (ls ++ l ∷ []) (level l.operator)
fits_more k m [] l h b = (subst (λ (n : ℕ). before l.operator ≤ n) (sym h) b, refl)
fits_more k m (j ∷ ls) l h b = (h.0, fits_more (level j.operator) m ls l h.1 b)

-- what was read so far of the bytes behind the first operand and a blank, and what is left of them behind a blank
pub record Goes (text : List ℕ) (ls : List Link) (rule : ℕ) (rest : List ℕ) : Type 0 where
  pub printed : codes " " ++ text ≡ links_text ls ++ (codes " " ++ rest)
  pub prints : EachPrints ls
  pub fits : FitsTo 8 ls rule

pub begins : (text : List ℕ) → Goes text [] 8 text
begins text = record { printed = refl; prints = tt; fits = refl }

-- the bytes of an operator and of what stands behind it, and others
link_parts : (rest sign others w : List ℕ) (l : Link) → rest ≡ sign ++ 32 ∷ others → sign ≡ operator_text l.operator → IsOperand w l.operand →
    (more : List ℕ) → others ≡ w ++ more → codes " " ++ rest ≡ link_text l ++ more
link_parts rest sign others w l r s o more m =
    let text : List ℕ = operator_text l.operator in
    let leaf_is : w ≡ leaf_text (leaf_of l.operand) = o.printed in
    ap (λ (bs : List ℕ). 32 ∷ bs) r ∙ ap (λ (bs : List ℕ). 32 ∷ (bs ++ 32 ∷ others)) s
    ∙ ap (λ (bs : List ℕ). 32 ∷ (text ++ 32 ∷ bs)) m ∙ ap (λ (bs : List ℕ). 32 ∷ (text ++ 32 ∷ (bs ++ more))) leaf_is
    ∙ ap (λ (bs : List ℕ). 32 ∷ bs) (sym (append_assoc text (32 ∷ leaf_text (leaf_of l.operand)) more))

-- one more operator was read, and more stands behind a blank
one_more : (text rest sign others w more : List ℕ) (ls : List Link) (l : Link) (rule : ℕ) → Goes text ls rule rest →
    rest ≡ sign ++ 32 ∷ others → sign ≡ operator_text l.operator → before l.operator ≤ rule → others ≡ w ++ 32 ∷ more → IsOperand w l.operand →
    Goes text (ls ++ l ∷ []) (level l.operator) more
one_more text rest sign others w more ls l rule g r s b m o = record {
  printed = g.printed ∙ ap (λ (bs : List ℕ). links_text ls ++ bs) (link_parts rest sign others w l r s o (32 ∷ more) m)
      ∙ sym (append_assoc (links_text ls) (link_text l) (32 ∷ more)) ∙ ap (λ (bs : List ℕ). bs ++ 32 ∷ more) (sym (text_more ls l));
  prints = prints_more ls l w g.prints o;
  fits = fits_more 8 rule ls l g.fits b;
}

-- the last was read
one_last : (text rest sign w : List ℕ) (ls : List Link) (l : Link) (rule : ℕ) → Goes text ls rule rest →
    rest ≡ sign ++ 32 ∷ w → sign ≡ operator_text l.operator → before l.operator ≤ rule → IsOperand w l.operand → length ls < 63 →
    AreLinks text (ls ++ l ∷ [])
one_last text rest sign w ls l rule g r s b o few = record {
  printed = g.printed ∙ ap (λ (bs : List ℕ). links_text ls ++ bs)
      (link_parts rest sign w w l r s o [] (sym (append-nil w)) ∙ append-nil (link_text l)) ∙ sym (text_more ls l);
  prints = prints_more ls l w g.prints o;
  rule = level l.operator;
  fits = fits_more 8 rule ls l g.fits b;
  few = let n = length-append ls (l ∷ []) in omega (arith, few, n);
}

-- so it is with the operator that the bytes were told to be
module _ (text rest sign others w : List ℕ) (ls put : List Link) (l : Link) (o : BinOp) (rule own : ℕ) (g : Goes text ls rule rest)
    (r : rest ≡ sign ++ 32 ∷ others) (told : (sign ≡ operator_text o) × (own ≡ level o) × (before o ≤ rule))
    (made : (l.operator ≡ o) × IsOperand w l.operand) (is : put ≡ ls ++ l ∷ []) where
  sign_is : sign ≡ operator_text l.operator
  sign_is = told.0 ∙ ap operator_text (sym made.0)

  loose : before l.operator ≤ rule
  loose = subst (λ (p : BinOp). before p ≤ rule) (sym made.0) told.2

  pub goes_on : (more : List ℕ) → others ≡ w ++ 32 ∷ more → Goes text put own more
  goes_on more m =
      subst (λ (zs : List Link). Goes text zs own more) (sym is)
      (subst (λ (k : ℕ). Goes text (ls ++ l ∷ []) k more) (ap level made.0 ∙ sym told.1) (one_more text rest sign others w more ls l rule g r sign_is loose m made.1))

  pub ends : others ≡ w → length ls < 63 → AreLinks text put
  ends m few =
      subst (λ (zs : List Link). AreLinks text zs) (sym is)
      (one_last text rest sign w ls l rule g (r ∙ ap (λ (bs : List ℕ). sign ++ 32 ∷ bs) m) sign_is loose made.1 few)

-- the first operand, and the others
pub whole : (text w rest : List ℕ) (c : Chain) → text ≡ w ++ 32 ∷ rest → IsOperand w c.first → AreLinks rest c.links.items → IsChain text c
whole text w rest c is o ls = record {
  printed = is ∙ ap (λ (bs : List ℕ). bs ++ 32 ∷ rest) o.printed ∙ ap (λ (bs : List ℕ). leaf_text (leaf_of c.first) ++ bs) ls.printed;
  first = o.prints;
  short = o.short;
  prints = ls.prints;
  rule = ls.rule;
  fits = ls.fits;
  few = ls.few;
}

-- ---- the text of the formula

-- it is written without parentheses where such a rule is asked for
abbrev Bare : ℕ → Draft → Type 0
Bare k x = (m : ℕ) → m ≤ k → minimal m x ≡ minimal 0 x

ungrouped : (own asked : ℕ) (w : Written) → asked ≤ own → grouped own asked w ≡ w
ungrouped own asked w h = let e : nat_lt own asked ≡ false = grind (arith, nat_tests) in rw e refl

bare_binary : (o : BinOp) (x : Draft) (l : Leaf) → Bare (level o) (binary o x (leaf l))
bare_binary o x l m h =
    let w : Written = chain o (minimal (before o) x) (single l) in
    ungrouped (level o) m w h ∙ sym (ungrouped (level o) 0 w (omega arith))

one_written : (k : ℕ) (o : BinOp) (x : Draft) (l : Leaf) → Bare k x → before o ≤ k →
    written (minimal 0 (binary o x (leaf l))) ≡ written (minimal 0 x) ++ (codes " " ++ (operator_text o ++ (codes " " ++ leaf_text l)))
one_written k o x l b h =
    ap written (ungrouped (level o) 0 (chain o (minimal (before o) x) (single l)) (omega arith))
    ∙ ap (λ (w : Written). written w ++ (codes " " ++ (operator_text o ++ (codes " " ++ leaf_text l)))) (b (before o) h)

-- what is written of operators behind another formula
all_written : (k m : ℕ) (x : Draft) (ls : List Link) → Bare k x → FitsTo k ls m → canonical_text (linked x ls) ≡ written (minimal 0 x) ++ links_text ls
all_written k m x [] b f = sym (append-nil (written (minimal 0 x)))
all_written k m x (l ∷ ls) b f =
    let y = binary l.operator x (leaf (leaf_of l.operand)) in
    all_written (level l.operator) m y ls (bare_binary l.operator x (leaf_of l.operand)) f.1
    ∙ ap (λ (bs : List ℕ). bs ++ links_text ls) (one_written k l.operator x (leaf_of l.operand) b f.0)
    ∙ append_assoc (written (minimal 0 x)) (link_text l) (links_text ls)

bare_leaf : (l : Leaf) → Bare 8 (leaf l)
bare_leaf l m h = refl

-- ---- what can be wrong with it

printable : (x : Draft) (ls : List Link) → IsPrintable x → EachPrints ls → IsPrintable (linked x ls)
printable x [] p h = p
printable x (l ∷ ls) p h = printable (binary l.operator x (leaf (leaf_of l.operand))) ls (p, h.0) h.2

neither : (a b : Bool) → a ≡ false → b ≡ false → (a || b) ≡ false
neither false false h i = refl
neither true b h i = absurd cc
neither false true h i = absurd cc

short_linked : (x : Draft) (ls : List Link) → has_long_text x ≡ false → EachPrints ls → has_long_text (linked x ls) ≡ false
short_linked x [] h p = h
short_linked x (l ∷ ls) h p =
    short_linked (binary l.operator x (leaf (leaf_of l.operand))) ls (neither (has_long_text x) (is_long (leaf_of l.operand)) h p.1) p.2

tracked_linked : (x : Draft) (ls : List Link) → has_untrack x ≡ false → has_untrack (linked x ls) ≡ false
tracked_linked x [] h = h
tracked_linked x (l ∷ ls) h =
    tracked_linked (binary l.operator x (leaf (leaf_of l.operand))) ls (neither (has_untrack x) false h refl)

rowless_linked : (x : Draft) (ls : List Link) → needs_row x ≡ false → needs_row (linked x ls) ≡ false
rowless_linked x [] h = h
rowless_linked x (l ∷ ls) h =
    rowless_linked (binary l.operator x (leaf (leaf_of l.operand))) ls (neither (needs_row x) false h refl)

low_leaf : (n : ℕ) (l : Leaf) → 0 < n → is_above n (leaf l) ≡ false
unfolding is_above
low_leaf n l some = ne_eqb n 0 (λ k. omega (arith, some, k))

-- one operator more is one more high
one_higher : (n : ℕ) (o : BinOp) (x : Draft) (l : Leaf) → 0 < n → is_above n x ≡ false → is_above (suc n) (binary o x (leaf l)) ≡ false
unfolding is_above
one_higher n o x l some h =
    let e : n ≡ suc n - 1 = omega arith in
    neither (suc n == 0) (is_above (suc n - 1) x || is_above (suc n - 1) (leaf l)) (ne_eqb (suc n) 0 (λ k. omega (arith, k)))
    (neither (is_above (suc n - 1) x) (is_above (suc n - 1) (leaf l)) (subst (λ (k : ℕ). is_above k x ≡ false) e h) (low_leaf (suc n - 1) l (omega (arith, some))))

low_linked : (n : ℕ) (x : Draft) (ls : List Link) → 0 < n → is_above n x ≡ false → is_above (n + length ls) (linked x ls) ≡ false
low_linked n x [] some h = let e : n + 0 ≡ n = omega arith in rw e h
low_linked n x (l ∷ ls) some h =
    let e : n + suc (length ls) ≡ suc n + length ls = omega arith in
    rw e (low_linked (suc n) (binary l.operator x (leaf (leaf_of l.operand))) ls (omega arith) (one_higher n l.operator x (leaf_of l.operand) some h))

-- ---- its names

names_linked : (ns : List (List ℕ)) (x : Draft) (ls : List Link) → with_names ns (linked x ls) ≡ with_links (with_names ns x) ls
names_linked ns x [] = refl
names_linked ns x (l ∷ ls) = names_linked ns (binary l.operator x (leaf (leaf_of l.operand))) ls

tree_linked : (ns : List (List ℕ)) (x : Draft) (ls : List Link) → slotted ns (linked x ls) ≡ linked_tree ns (slotted ns x) ls
tree_linked ns x [] = refl
tree_linked ns x (l ∷ ls) = tree_linked ns (binary l.operator x (leaf (leaf_of l.operand))) ls

-- one operator more is the root of the formula
pub tree_more : (ns : List (List ℕ)) (t : Tree) (ls : List Link) (l : Link)
    → linked_tree ns t (ls ++ l ∷ []) ≡ tree.binary l.operator (linked_tree ns t ls) (leaf_tree ns (leaf_of l.operand))
tree_more ns t [] l = refl
tree_more ns t (k ∷ ls) l = tree_more ns (tree.binary k.operator t (leaf_tree ns (leaf_of k.operand))) ls l

one_more_name : (b : Bool) (ns : List (List ℕ)) (n : List ℕ) → length (cond b ns (ns ++ n ∷ [])) ≤ length ns + 1
one_more_name true ns n = omega arith
one_more_name false ns n = let e = length-append ns (n ∷ []) in omega (arith, e)

few_leaf : (ns : List (List ℕ)) (l : Leaf) → length (with_leaf ns l) ≤ length ns + 1
few_leaf ns (name n) = one_more_name _ ns n
few_leaf ns (constant s) = omega arith

few_links : (ns : List (List ℕ)) (ls : List Link) → length (with_links ns ls) ≤ length ns + length ls
few_links ns [] = omega arith
few_links ns (l ∷ ls) =
    let one = few_leaf ns (leaf_of l.operand) in let more = few_links (with_leaf ns (leaf_of l.operand)) ls in omega (arith, one, more)

-- all operands have few names
pub few_names : (o : Operand) (ls : List Link) (ns : List (List ℕ)) → length ls < 64 → ns ≡ with_links (with_leaf [] (leaf_of o)) ls → length ns ≤ 64
few_names o ls ns h e =
    let same = ap length e in
    let one = few_leaf [] (leaf_of o) in let more = few_links (with_leaf [] (leaf_of o)) ls in omega (arith, h, one, more, same)

-- the formula with its names
pub wired_linked : (o : Operand) (ls : List Link) (ns : List (List ℕ)) (t : Tree) → ns ≡ with_links (with_leaf [] (leaf_of o)) ls →
    t ≡ linked_tree ns (leaf_tree ns (leaf_of o)) ls → (t, ns) ≡ wired (linked (leaf (leaf_of o)) ls)
wired_linked o ls ns t e f =
    let all : ns ≡ names (linked (leaf (leaf_of o)) ls) = e ∙ sym (names_linked [] (leaf (leaf_of o)) ls) in
    let own : t ≡ slotted ns (linked (leaf (leaf_of o)) ls) = f ∙ sym (tree_linked ns (leaf (leaf_of o)) ls) in
    let pair : Tree → List (List ℕ) → Wiring = λ u ms. (u, ms) in
    ap (λ (u : Tree). pair u ns) own ∙ ap (λ (ms : List (List ℕ)). pair (slotted ms (linked (leaf (leaf_of o)) ls)) ms) all

-- ---- the line

none_of : (a b c d e : Bool) (v w x y z : FormulaFault) → a ≡ false → b ≡ false → c ≡ false → d ≡ false → e ≡ false →
    cond a (Some v) (cond b (Some w) (cond c (Some x) (cond d (Some y) (cond e (Some z) None)))) ≡ None
none_of false false false false false v w x y z h i j k l = refl
none_of true b c d e v w x y z h i j k l = absurd cc
none_of false true c d e v w x y z h i j k l = absurd cc
none_of false false true d e v w x y z h i j k l = absurd cc
none_of false false false true e v w x y z h i j k l = absurd cc
none_of false false false false true v w x y z h i j k l = absurd cc

-- nothing is wrong with it
accepted : (o : Operand) (ls : List Link) → is_long (leaf_of o) ≡ false → EachPrints ls → length ls < 64 → refusal tracked (linked (leaf (leaf_of o)) ls) ≡ None
accepted o ls one each few =
    let x = linked (leaf (leaf_of o)) ls in
    let room : 0 < 64 - length ls = omega (arith, few) in
    let high : 64 - length ls + length ls ≡ 64 = omega (arith, few) in
    let low : is_above 64 x ≡ false =
    subst (λ (n : ℕ). is_above n x ≡ false) high (low_linked (64 - length ls) (leaf (leaf_of o)) ls room (low_leaf (64 - length ls) (leaf_of o) room)) in
    let most : length (names x) ≤ 64 = few_names o ls (names x) few (names_linked [] (leaf (leaf_of o)) ls) in
    let sources : nat_lt 64 (length (names x)) ≡ false = grind (arith, nat_tests) in
    let untrack : (has_untrack x && true) ≡ false = rw (tracked_linked (leaf (leaf_of o)) ls refl) refl in
    let row : (needs_row x && true) ≡ false = rw (rowless_linked (leaf (leaf_of o)) ls refl) refl in
    none_of (has_untrack x && true) (needs_row x && true) (is_above 64 x) (has_long_text x) (nat_lt 64 (length (names x)))
    fault.UntrackHere fault.ItHere fault.Nest fault.TextLong fault.Sources untrack row low
    (short_linked (leaf (leaf_of o)) ls one each) sources

-- what is printed of it
line_printed : (p text : List ℕ) (c : Chain) → IsChain text c →
    line_text commands (computed, (p, (linked (leaf (leaf_of c.first)) c.links.items, (None, tt)))) ≡ codes "computed " ++ (p ++ (codes " = " ++ text))
line_printed p text c h =
    let x = linked (leaf (leaf_of c.first)) c.links.items in
    ap (λ (bs : List ℕ). codes "computed " ++ (bs ++ (codes " = " ++ (canonical_text x ++ [])))) (append-nil p)
    ∙ ap (λ (bs : List ℕ). codes "computed " ++ (p ++ (codes " = " ++ bs)))
    (append-nil (canonical_text x) ∙ all_written 8 h.rule (leaf (leaf_of c.first)) c.links.items (bare_leaf (leaf_of c.first)) h.fits ∙ sym h.printed)

-- what it gives
item_told : (k : ℕ) (p : List ℕ) (o : Operand) (ls : List Link) → is_long (leaf_of o) ≡ false → EachPrints ls → length ls < 64 →
    item.Do (command.Computed p (source.Formula (wired (linked (leaf (leaf_of o)) ls))) None)
    ≡ item_of k (computed, (p, (linked (leaf (leaf_of o)) ls, (None, tt))))
item_told k p o ls one each few =
    let x : Said = (computed, (p, (linked (leaf (leaf_of o)) ls, (None, tt)))) in
    ap (λ (f : Option FormulaFault). option_map_or (λ (g : FormulaFault). item.Refused (refused_for k g)) (option_or f None) (item_or k (command_of (said_line x))))
    (sym (accepted o ls one each few))

-- a computed of operators between operands
pub plain_chain : (k : ℕ) (t n p text : List ℕ) (c : Chain) (w : Wiring) → t ≡ p ++ (codes " = " ++ text) → Some n ≡ name_of (word p) →
    IsChain text c → w ≡ wired (linked (leaf (leaf_of c.first)) c.links.items) →
    IsPlain (k, codes "computed " ++ t) (item.Do (command.Computed n (source.Formula w) None))
plain_chain k t n p text c w parts e h made =
    let is = name_is p n e in
    let x : Said = (computed, (p, (linked (leaf (leaf_of c.first)) c.links.items, (None, tt)))) in
    let line : line_text commands x ≡ codes "computed " ++ t = line_printed p text c h ∙ ap (λ (bs : List ℕ). codes "computed " ++ bs) (sym parts) in
    let prints : IsPrintable (linked (leaf (leaf_of c.first)) c.links.items) = printable (leaf (leaf_of c.first)) c.links.items h.first h.prints in
    let writes = text_writes commands x refl ((is.0, name_word p is.0), (refl, (prints, (tt, tt)))) in
    inl (x, subst (Writes x) line writes, refl, rw (is.1, made) (item_told k p c.first c.links.items h.short h.prints h.few))
