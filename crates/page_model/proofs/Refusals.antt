-- Operations on one small tree, and each refusal, computed.
use Rattle.std.proofs.Common.{◌≡◌, ℕ, zero, suc, ◌+◌, List, [], ◌∷◌, refl}
use Rattle.std.specs.Prelude.{codes}
use Rattle.html_out.specs.Html.{is_void}
use Rattle.page_model.specs.Forest.{Forest, none, node}
use Rattle.page_model.specs.Labels.{Root, Text, Element, Kind}
use Rattle.page_model.specs.Replay.{OpRemove, OpInsert, OpMove, OpText, OpAttr, OpUnattr, Done, Refused, do_op, replay}
use Rattle.page_model.specs.Replay.{NoSuchNode, NoSuchPlace, NumberUsed, TooDeep}

-- <ul><li>A</li><li a="1">B</li></ul><br>, numbered 1 to 6
abbrev b_item : List (List ℕ × List ℕ) → Forest Kind → Forest Kind
b_item attributes rest = node 4 (Element (codes "li") attributes) (node 5 (Text (codes "B")) none none) rest

abbrev a_item : Forest Kind → Forest Kind
a_item rest = node 2 (Element (codes "li") []) (node 3 (Text (codes "A")) none none) rest

abbrev ab : Forest Kind → Forest Kind
ab items = node 0 Root (node 1 (Element (codes "ul") []) items (node 6 (Element (codes "br") []) none none)) none

abbrev here : Forest Kind
here = ab (a_item (b_item ((codes "a", codes "1") ∷ []) none))

-- ---- removals

removed : do_op (OpRemove 2) here ≡ Done (ab (b_item ((codes "a", codes "1") ∷ []) none))
removed = refl

remove_of_none : do_op (OpRemove 99) here ≡ Refused (NoSuchNode 99)
remove_of_none = refl

remove_of_the_root : do_op (OpRemove 0) here ≡ Refused (NoSuchNode 0)
remove_of_the_root = refl

-- ---- insertions

inserted_last : do_op (OpInsert 1 2 7 (Text (codes "c")) none) here ≡
    Done (ab (a_item (b_item ((codes "a", codes "1") ∷ []) (node 7 (Text (codes "c")) none none))))
unfolding is_void
inserted_last = refl

insert_below_none : do_op (OpInsert 99 0 7 (Text []) none) here ≡ Refused (NoSuchNode 99)
insert_below_none = refl

insert_below_a_text : do_op (OpInsert 3 0 7 (Text []) none) here ≡ Refused (NoSuchNode 3)
insert_below_a_text = refl

insert_below_a_void : do_op (OpInsert 6 0 7 (Text []) none) here ≡ Refused (NoSuchNode 6)
unfolding is_void
insert_below_a_void = refl

insert_past_the_end : do_op (OpInsert 1 3 7 (Text []) none) here ≡ Refused (NoSuchPlace 3)
unfolding is_void
insert_past_the_end = refl

-- a place past the end is looked for before a number that is used
place_before_number : do_op (OpInsert 1 3 5 (Text []) none) here ≡ Refused (NoSuchPlace 3)
unfolding is_void
place_before_number = refl

number_on_the_page :
    do_op (OpInsert 1 0 7 (Element (codes "p") []) (node 8 (Text []) none (node 5 (Text []) none (node 3 (Text []) none none)))) here ≡
    Refused (NumberUsed 5)
unfolding is_void
number_on_the_page = refl

-- a number that stands twice in what comes
number_twice :
    do_op (OpInsert 1 0 7 (Element (codes "p") []) (node 8 (Text []) none (node 9 (Text []) none (node 8 (Text []) none none)))) here ≡
    Refused (NumberUsed 8)
unfolding is_void
number_twice = refl

-- so many elements, one inside the other, the outermost numbered n
abbrev chain : ℕ → ℕ → Forest Kind
chain zero n = none
chain (suc i) n = node n (Element (codes "p") []) (chain i (n + 1)) none

abbrev root_alone : Forest Kind → Forest Kind
root_alone below = node 0 Root below none

-- 32 steps below the root
deepest : do_op (OpInsert 0 0 1 (Element (codes "p") []) (chain 31 2)) (root_alone none) ≡ Done (root_alone (chain 32 1))
deepest = refl

one_too_deep : do_op (OpInsert 0 0 1 (Element (codes "p") []) (chain 32 2)) (root_alone none) ≡ Refused (TooDeep 33)
one_too_deep = refl

below_the_deepest : do_op (OpInsert 32 0 33 (Text []) none) (root_alone (chain 32 1)) ≡ Refused (TooDeep 33)
unfolding is_void
below_the_deepest = refl

-- a number that is used is looked for before a depth
number_before_depth : do_op (OpInsert 32 0 32 (Text []) none) (root_alone (chain 32 1)) ≡ Refused (NumberUsed 32)
unfolding is_void
number_before_depth = refl

-- ---- moves

-- the place is judged when the node has been taken out
moved_last : do_op (OpMove 2 1) here ≡ Done (ab (b_item ((codes "a", codes "1") ∷ []) (a_item none)))
moved_last = refl

move_of_none : do_op (OpMove 99 0) here ≡ Refused (NoSuchNode 99)
move_of_none = refl

move_of_the_root : do_op (OpMove 0 0) here ≡ Refused (NoSuchNode 0)
move_of_the_root = refl

move_past_the_end : do_op (OpMove 2 2) here ≡ Refused (NoSuchPlace 2)
move_past_the_end = refl

-- ---- texts and attributes

text_of_an_element : do_op (OpText 2 []) here ≡ Refused (NoSuchNode 2)
text_of_an_element = refl

text_of_none : do_op (OpText 99 []) here ≡ Refused (NoSuchNode 99)
text_of_none = refl

attribute_in_front : do_op (OpAttr 4 0 (codes "b") (codes "2")) here ≡
    Done (ab (a_item (b_item ((codes "b", codes "2") ∷ (codes "a", codes "1") ∷ []) none)))
attribute_in_front = refl

-- the attribute is taken out before its place is judged
attribute_again : do_op (OpAttr 4 1 (codes "a") (codes "2")) here ≡ Refused (NoSuchPlace 1)
attribute_again = refl

attribute_of_a_text : do_op (OpAttr 5 0 (codes "b") []) here ≡ Refused (NoSuchNode 5)
attribute_of_a_text = refl

attribute_gone : do_op (OpUnattr 4 (codes "a")) here ≡ Done (ab (a_item (b_item [] none)))
attribute_gone = refl

-- one that isn't there changes nothing
attribute_absent : do_op (OpUnattr 4 (codes "b")) here ≡ Done here
attribute_absent = refl

attribute_of_the_root : do_op (OpUnattr 0 (codes "b")) here ≡ Refused (NoSuchNode 0)
attribute_of_the_root = refl

-- ---- one after the other, up to a refusal

second_is_refused : replay (OpRemove 2 ∷ OpText 3 [] ∷ OpRemove 4 ∷ []) here ≡ Refused (NoSuchNode 3)
second_is_refused = refl
