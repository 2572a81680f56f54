-- What a piece of a script is.
use Rattle.std.proofs.Common.{◌≡◌, ℕ, ◌+◌, true, false, List, [], ◌∷◌, ◌++◌, length, drop, refl, sym, ap, subst, inl, inr}
use Rattle.script_lines.specs.Lines.{EndsLine, NumberedLine, kept_lines, lines}
use Rattle.script_lines.specs.Pieces.{Piece, outside, pieces_of, place_after}
use Rattle.script_lines.proofs.Shared.{script_cut}
use Rattle.live_cmd.specs.declared.command.Item.{Item}
use Rattle.live_cmd.specs.declared.command.Item.TheVariants as item
use Rattle.live_entries.specs.declared.refusal.Refusal.TheVariants as refusal
use Rattle.script_items.specs.declared.contents.Content.{Content}
use Rattle.script_items.specs.Blocks.{Block, IsContent, block_item}
use Rattle.script_items.specs.Items.{IsItem, long, unended, block, faulty, says, any_long, first_line, item_of, AreItems, ItemsFrom, Begins}
use Rattle.script_items.specs.Views.{IsPlain}
use Rattle.script_items.proofs.Blocks.{no_command, one_block}
use Rattle.live_cmd.proofs.Shared.{one_writing}

-- ---- a piece is this

-- a block without its end is refused at its first line
pub is_unended : (p : Piece) (l : NumberedLine) → any_long p.lines ≡ false → p.ended ≡ false → l ≡ first_line p.lines → IsItem p (item.Refused (refusal.Syntax l.0))
is_unended p l a e h = subst (λ (k : NumberedLine). IsItem p (item.Refused (refusal.Syntax k.0))) (sym h) (unended a e)

-- a block is what it comes to
pub is_block : (p : Piece) (i : Item) → any_long p.lines ≡ false → p.ended ≡ true
    → (b : Block p.lines) × (c : Content) × IsContent b.head b.inner c × (i ≡ block_item b.ends b.last.0 c) → IsItem p i
is_block p i a e h = subst (λ (j : Item). IsItem p j) (sym h.3) (block h.0 h.1 a e h.2)

-- a line that begins no block is what it says, or refused
pub is_plain : (p : Piece) (l : NumberedLine) (i : Item) → any_long p.lines ≡ false → p.ended ≡ true → (Block p.lines → ⊥) → l ≡ first_line p.lines
    → IsPlain l i → IsItem p i
is_plain p l i a e none first h = elim (subst (λ (k : NumberedLine). IsPlain k i) first h) [
  | inl s ↦ subst (λ (j : Item). IsItem p j) (sym s.3) (says s.0 a e s.1 s.2)
  | inr f ↦ subst (λ (j : Item). IsItem p j) (sym f.1) (faulty a e none f.0)
]

-- ---- there is one of each

-- a piece is one item
pub one_item : (p : Piece) (i j : Item) → IsItem p i → IsItem p j → i ≡ j
one_item p _ _ (long a) (long b) = refl
one_item p _ _ (long a) (unended b f) = absurd cc
one_item p _ _ (long a) (block d c b f h) = absurd cc
one_item p _ _ (long a) (faulty b f n g) = absurd cc
one_item p _ _ (long a) (says y b f w t) = absurd cc
one_item p _ _ (unended a e) (long b) = absurd cc
one_item p _ _ (unended a e) (unended b f) = refl
one_item p _ _ (unended a e) (block d c b f h) = absurd cc
one_item p _ _ (unended a e) (faulty b f n g) = absurd cc
one_item p _ _ (unended a e) (says y b f w t) = absurd cc
one_item p _ _ (block x c a e h) (long b) = absurd cc
one_item p _ _ (block x c a e h) (unended b f) = absurd cc
one_item p _ _ (block x c a e h) (block y d b f k) = one_block p.lines x y c d h k
one_item p _ _ (block x c a e h) (faulty b f n g) = absurd (n x)
one_item p _ _ (block x c a e h) (says y b f w t) = absurd (no_command p.lines x y w t)
one_item p _ _ (faulty a e m f) (long b) = absurd cc
one_item p _ _ (faulty a e m f) (unended b g) = absurd cc
one_item p _ _ (faulty a e m f) (block y d b g h) = absurd (m y)
one_item p _ _ (faulty a e m f) (faulty b g n h) = refl
one_item p _ _ (faulty a e m f) (says y b g w t) = absurd (f y w t)
one_item p _ _ (says x a e v s) (long b) = absurd cc
one_item p _ _ (says x a e v s) (unended b g) = absurd cc
one_item p _ _ (says x a e v s) (block y d b g h) = absurd (no_command p.lines y x v s)
one_item p _ _ (says x a e v s) (faulty b g n h) = absurd (h x v s)
one_item p _ _ (says x a e v s) (says y b f w t) = ap (item_of (first_line p.lines).0) (one_writing (first_line p.lines).1 x y v w)

one_list_of : (ps : List Piece) (is js : List Item) → AreItems ps is → AreItems ps js → is ≡ js
one_list_of [] [] [] a b = refl
one_list_of [] [] (j ∷ js) a b = absurd b
one_list_of [] (i ∷ is) js a b = absurd a
one_list_of (p ∷ ps) [] js a b = absurd a
one_list_of (p ∷ ps) (i ∷ is) [] a b = absurd b
one_list_of (p ∷ ps) (i ∷ is) (j ∷ js) a b =
    let front = one_item p i j a.0 b.0 in
    let rest = one_list_of ps is js a.1 b.1 in
    cc

-- a script has one list of items
pub one_list : (n : ℕ) (script : List ℕ) (is js : List Item) → ItemsFrom n script is → ItemsFrom n script js → is ≡ js
one_list n script is js a b = one_list_of (pieces_of n script) is js a b

-- ---- a script may be cut after a line, outside a block

-- the items of the pieces of two parts
pub are_append : (ps qs : List Piece) (is js : List Item) → AreItems ps is → AreItems qs js → AreItems (ps ++ qs) (is ++ js)
are_append [] qs [] js a b = b
are_append [] qs (i ∷ is) js a b = absurd a
are_append (p ∷ ps) qs [] js a b = absurd a
are_append (p ∷ ps) qs (i ∷ is) js a b = (a.0, are_append ps qs is js a.1 b)

-- the items of a script are those of both parts in turn
pub items_cut : (n : ℕ) (x y : List ℕ) (is js : List Item) → EndsLine x → place_after outside (kept_lines n x) ≡ outside
    → ItemsFrom n x is → ItemsFrom (n + length (lines x)) y js → ItemsFrom n (x ++ y) (is ++ js)
items_cut n x y is js ends closed a b =
    subst (λ (ps : List Piece). AreItems ps (is ++ js)) (sym (script_cut n x y ends closed)) (are_append (pieces_of n x) (pieces_of (n + length (lines x)) y) is js a b)

-- ---- one item after another

-- the items from a byte on are the one that begins there and those that follow it
pub items_in_turn : (script : List ℕ) (at line next after : ℕ) (i : Item) (is : List Item) → Begins script at line i next after
    → ItemsFrom after (drop next script) is → ItemsFrom line (drop at script) (i ∷ is)
items_in_turn script at line next after i is b rest = subst (λ (ps : List Piece). AreItems ps (i ∷ is)) (sym b.front) (b.item, rest)
