-- What a kept node says, by what the tree has of it.
use Rattle.std.proofs.Common.{◌≡◌, ℕ, suc, false, List, [], ◌∷◌, Option, Some, None, refl, sym, ap, ◌∙◌, inl, inr}
use Rattle.std.specs.Str.{bytes_eq}
use Rattle.std.proofs.lemmas.Bool.{cases_Bool, or_parts}
use Rattle.page_model.proofs.Shared.{other_way, same_name}
use Rattle.page_model.specs.Edits.{attribute_edits, line_edits}
use Rattle.page_model.specs.Labels.{Root, Text, Element, Distinct, SameNames, named, present, with_value}
use Rattle.page_model.specs.Replay.{Op, OpAttr, OpUnattr}
use Rattle.page_tree.specs.Queries.{value_named}
use Rattle.tpl_model.specs.NextPage.KeptNodes.{ToldLaw, attributes_told}

-- a name that none of the lines has isn't present
absent : (name : List ℕ) (xs : List (List ℕ × Option (List ℕ))) → named name xs ≡ false → value_named name (present xs) ≡ None
absent name [] h = refl
absent name ((m, None) ∷ xs) h = absent name xs (or_parts (bytes_eq m name) (named name xs) h).1
absent name ((m, Some v) ∷ xs) h =
    let p = or_parts (bytes_eq m name) (named name xs) h in
    rw p.0 (absent name xs p.1)

-- each line of these has the value that is present under its name
abbrev Present : List (List ℕ × List ℕ) → List (List ℕ × Option (List ℕ)) → Type 0
Present now [] = Unit {0}
Present now (a ∷ xs) = (value_named a.0 now ≡ a.1) × Present now xs

-- a value before others hides none of another name
behind : (m : List ℕ) (v : Option (List ℕ)) (now : List (List ℕ × List ℕ)) (xs : List (List ℕ × Option (List ℕ))) → named m xs ≡ false →
    Present now xs → Present (with_value m v now) xs
behind m v now [] h all = tt
behind m None now (a ∷ xs) h all = (all.0, behind m None now xs (or_parts (bytes_eq a.0 m) (named m xs) h).1 all.1)
behind m (Some v) now (a ∷ xs) h all =
    let p = or_parts (bytes_eq a.0 m) (named m xs) h in
    let e = other_way a.0 m p.0 in
    (rw e all.0, behind m (Some v) now xs p.1 all.1)

all_present : (xs : List (List ℕ × Option (List ℕ))) → Distinct xs → Present (present xs) xs
all_present [] d = tt
all_present ((m, None) ∷ xs) d = (absent m xs d.0, all_present xs d.1)
all_present ((m, Some v) ∷ xs) d = (rw (same_name m) refl, behind m (Some v) (present xs) xs d.0 (all_present xs d.1))

-- one line's operations, where the later ones are the same
line_like : (n i : ℕ) (name : List ℕ) (o v : Option (List ℕ)) (f g : ℕ → List Op) → ((j : ℕ) → f j ≡ g j) →
    line_edits n i name o v f ≡ line_edits n i name o v g
line_like n i name None None f g h = h i
line_like n i name (Some u) None f g h = ap (λ z. OpUnattr n name ∷ z) (h i)
line_like n i name None (Some v) f g h = ap (λ z. OpAttr n i name v ∷ z) (h (suc i))
line_like n i name (Some u) (Some v) f g h = elim (cases_Bool (bytes_eq u v)) [
  | inl e ↦ rw e (h (suc i))
  | inr e ↦ rw e (ap (λ z. OpAttr n i name v ∷ z) (h (suc i)))
]

all_told : (n : ℕ) (now : List (List ℕ × List ℕ)) (xs bs : List (List ℕ × Option (List ℕ))) → Present now xs → SameNames xs bs → (i : ℕ) →
    attribute_edits n xs bs i ≡ attributes_told n now bs i
all_told n now [] [] all same i = refl
all_told n now [] (b ∷ bs) all same i = absurd same
all_told n now (a ∷ xs) [] all same i = absurd same
all_told n now (a ∷ xs) (b ∷ bs) all same i =
    let e : a.1 ≡ value_named b.0 now = sym all.0 ∙ ap (λ z. value_named z now) same.0 in
    ap (λ z. line_edits n i b.0 z b.1 (attribute_edits n xs bs)) e
    ∙ line_like n i b.0 (value_named b.0 now) b.1 (attribute_edits n xs bs) (attributes_told n now bs) (all_told n now xs bs all.1 same.1)

pub told_law : ToldLaw
told_law n Root Root a d = refl
told_law n Root (Text t) a d = absurd a
told_law n Root (Element m bs) a d = absurd a
told_law n (Text s) Root a d = absurd a
told_law n (Text s) (Text t) a d = refl
told_law n (Text s) (Element m bs) a d = absurd a
told_law n (Element m xs) Root a d = absurd a
told_law n (Element m xs) (Text t) a d = absurd a
told_law n (Element m xs) (Element m' bs) a d = all_told n (present xs) xs bs (all_present xs d) a.1 0
