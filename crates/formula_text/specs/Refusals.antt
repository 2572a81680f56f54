-- What a formula is refused for, and what it reads.
use Rattle.std.specs.Prelude.{ℕ, ◌-◌, nat_lt, ◌==◌, Bool, true, false, ◌||◌, if◌then◌else◌, List, [], ◌∷◌, ◌++◌, codes, length, position, unwrap_or}
use Rattle.std.specs.List.{list_any}
use Rattle.std.specs.Str.{bytes_eq}
use Rattle.sig_base.specs.declared.limits.TheConstants.{MOST_TEXT}
use Rattle.sig_base.specs.declared.scalar.Scalar.TheVariants as scalar
use Rattle.sig_formula.specs.Trees.{Tree}
use Rattle.sig_formula.specs.Trees as tree
use Rattle.formula_text.specs.declared.rough.Around.{Around}
use Rattle.formula_text.specs.declared.rough.OverRows.{OverRows}
use Rattle.formula_text.specs.declared.rough.Around.TheVariants as form
use Rattle.formula_text.specs.declared.rough.OverRows.TheVariants as each
use Rattle.formula_text.specs.Signs.{Leaf, name, constant}
use Rattle.formula_text.specs.Grammar.{Draft, leaf, negation, binary, choice, of_row, one_part, each_row}

-- whether an `untrack` stands in it
abbrev pub has_untrack : Draft → Bool
has_untrack (leaf l) = false
has_untrack (negation x) = has_untrack x
has_untrack (binary o x y) = has_untrack x || has_untrack y
has_untrack (choice w x y) = has_untrack w || (has_untrack x || has_untrack y)
has_untrack (of_row n) = false
has_untrack (one_part form.Untrack x) = true
has_untrack (one_part form.Count x) = has_untrack x
has_untrack (each_row f x y) = has_untrack x || has_untrack y

-- whether it speaks of a row that it is given: whether `it` stands outside of the second parts of `sum` and `keep`
abbrev pub needs_row : Draft → Bool
needs_row (leaf l) = false
needs_row (negation x) = needs_row x
needs_row (binary o x y) = needs_row x || needs_row y
needs_row (choice w x y) = needs_row w || (needs_row x || needs_row y)
needs_row (of_row n) = true
needs_row (one_part f x) = needs_row x
needs_row (each_row f x y) = needs_row x

-- whether one of the forms that rows bring stands in it: `it`, `count`, `sum` or `keep`
abbrev pub has_row_form : Draft → Bool
has_row_form (leaf l) = false
has_row_form (negation x) = has_row_form x
has_row_form (binary o x y) = has_row_form x || has_row_form y
has_row_form (choice w x y) = has_row_form w || (has_row_form x || has_row_form y)
has_row_form (of_row n) = true
has_row_form (one_part form.Untrack x) = has_row_form x
has_row_form (one_part form.Count x) = true
has_row_form (each_row f x y) = true

-- whether it is higher than that: a leaf and what stands behind `it` have height 1, every other form one more than its highest part
unfoldable pub is_above : ℕ → Draft → Bool
is_above n (leaf l) = n == 0
is_above n (negation x) = n == 0 || is_above (n - 1) x
is_above n (binary o x y) = n == 0 || (is_above (n - 1) x || is_above (n - 1) y)
is_above n (choice w x y) = n == 0 || (is_above (n - 1) w || (is_above (n - 1) x || is_above (n - 1) y))
is_above n (of_row m) = n == 0
is_above n (one_part f x) = n == 0 || is_above (n - 1) x
is_above n (each_row f x y) = n == 0 || (is_above (n - 1) x || is_above (n - 1) y)

-- a text of more than `MOST_TEXT` bytes
abbrev pub is_long : Leaf → Bool
is_long (constant (scalar.Text t)) = nat_lt MOST_TEXT (length t)
is_long _ = false

-- whether a long text stands in it
abbrev pub has_long_text : Draft → Bool
has_long_text (leaf l) = is_long l
has_long_text (negation x) = has_long_text x
has_long_text (binary o x y) = has_long_text x || has_long_text y
has_long_text (choice w x y) = has_long_text w || (has_long_text x || has_long_text y)
has_long_text (of_row n) = false
has_long_text (one_part f x) = has_long_text x
has_long_text (each_row f x y) = has_long_text x || has_long_text y

-- those names, and behind them this one where it isn't among them
abbrev pub with_name : List (List ℕ) → List ℕ → List (List ℕ)
with_name ns n = if list_any (λ m. bytes_eq m n) ns then ns else ns ++ n ∷ []

-- the same for a leaf that may be a name
abbrev pub with_leaf : List (List ℕ) → Leaf → List (List ℕ)
with_leaf ns (name n) = with_name ns n
with_leaf ns (constant s) = ns

-- those names, and behind them the others of the formula in the order of the text
abbrev pub with_names : List (List ℕ) → Draft → List (List ℕ)
with_names ns (leaf l) = with_leaf ns l
with_names ns (negation x) = with_names ns x
with_names ns (binary o x y) = with_names (with_names ns x) y
with_names ns (choice w x y) = with_names (with_names (with_names ns w) x) y
with_names ns (of_row n) = ns
with_names ns (one_part f x) = with_names ns x
with_names ns (each_row f x y) = with_names (with_names ns x) y

-- the distinct names in the order of the text
abbrev pub names : Draft → List (List ℕ)
names x = with_names [] x

-- the place of a name
abbrev pub slot_of : List (List ℕ) → List ℕ → ℕ
slot_of ns n = unwrap_or (position (λ m. bytes_eq m n) ns) 0

-- a name's slot, or a literal
abbrev pub leaf_tree : List (List ℕ) → Leaf → Tree
leaf_tree ns (name n) = tree.slot (slot_of ns n)
leaf_tree ns (constant s) = tree.literal s

-- the key of a row, or its field of this name
abbrev pub row_tree : List ℕ → Tree
row_tree n = if bytes_eq n (codes "key") then tree.row_key else tree.row_field n

-- what has one part
abbrev pub one_tree : Around → Tree → Tree
one_tree form.Count t = tree.count_of t
one_tree form.Untrack t = tree.untracked t

-- what goes over rows
abbrev pub each_tree : OverRows → Tree → Tree → Tree
each_tree each.Sum t u = tree.sum_of t u
each_tree each.Keep t u = tree.rows_where t u

-- the formula whose slots are the places of its names
abbrev pub slotted : List (List ℕ) → Draft → Tree
slotted ns (leaf l) = leaf_tree ns l
slotted ns (negation x) = tree.negation (slotted ns x)
slotted ns (binary o x y) = tree.binary o (slotted ns x) (slotted ns y)
slotted ns (choice w x y) = tree.choice (slotted ns w) (slotted ns x) (slotted ns y)
slotted ns (of_row n) = row_tree n
slotted ns (one_part f x) = one_tree f (slotted ns x)
slotted ns (each_row f x y) = each_tree f (slotted ns x) (slotted ns y)
