-- Pages, computed.
use Rattle.std.proofs.Common.{◌≡◌, ℕ, ◌+◌, List, [], ◌∷◌, ◌++◌, Option, Some, None, refl}
use Rattle.std.specs.Prelude.{codes}
use Rattle.std.specs.Str.{chars}
use lib.Utf8.{encode}
use Rattle.html_out.specs.Html.{attribute, escaped, escaped_value, is_raw, is_void}
use Rattle.page_model.specs.Forest.{Forest, none, node}
use Rattle.page_model.specs.Labels.{Root, Text, Element, Label, Kind, Look}
use Rattle.page_model.specs.Replay.{OpRemove, OpInsert, OpMove, OpText, OpAttr, OpUnattr}
use Rattle.page_model.specs.Pages.{NumberedPage, bare, renumbered, edits_between, tree_of}
use Rattle.page_model.specs.Html.{html_of}

-- an element without attributes
abbrev plain : {V : Type 0} → List ℕ → Label V
plain name = Element name []

-- ---- rows

abbrev item : ℕ → List ℕ → Forest Look → Forest Look
item a t rest = node a (plain (codes "li")) (node (a + 1) (Text t) none none) rest

abbrev list : Forest Look → Forest Look
list items = node 0 Root (node 1 (plain (codes "ul")) items none) none

abbrev abc : NumberedPage
abc = renumbered bare (list (item 11 (codes "A") (item 21 (codes "B") (item 31 (codes "C") none))))

abbrev czd : NumberedPage
czd = renumbered abc (list (item 31 (codes "C") (item 11 (codes "Z") (item 41 (codes "D") none))))

abbrev qcd : NumberedPage
qcd = renumbered czd (list (item 11 (codes "Q") (item 31 (codes "C") (item 41 (codes "D") none))))

abbrev shown_item : ℕ → List ℕ → Forest Kind → Forest Kind
shown_item n t rest = node n (plain (codes "li")) (node (n + 1) (Text t) none none) rest

mounted : edits_between bare abc ≡
    (OpInsert 0 0 1 (plain (codes "ul")) (shown_item 2 (codes "A") (shown_item 4 (codes "B") (shown_item 6 (codes "C") none))) ∷ [])
mounted = refl

flushed : edits_between abc czd ≡
    (OpRemove 4 ∷ OpMove 6 0 ∷ OpInsert 1 2 8 (plain (codes "li")) (node 9 (Text (codes "D")) none none) ∷ OpText 3 (codes "Z") ∷ [])
flushed = refl

again : edits_between czd qcd ≡ (OpMove 2 0 ∷ OpText 3 (codes "Q") ∷ [])
again = refl

flushed_html : html_of (tree_of czd) ≡ codes "<ul><li>C</li><li>Z</li><li>D</li></ul>"
unfolding is_void is_raw escaped escaped_value attribute chars encode
flushed_html = refl

-- ---- escaping

-- it ends with a no-break space
abbrev awkward : List ℕ
awkward = codes "a<b>&\"c" ++ (194 ∷ 160 ∷ [])

abbrev titled : NumberedPage
titled = renumbered bare (node 0 Root (node 1 (Element (codes "p") ((codes "title", Some awkward) ∷ [])) (node 2 (Text awkward) none none) none) none)

escaped_twice : html_of (tree_of titled) ≡ codes "<p title=\"a&lt;b&gt;&amp;&quot;c&nbsp;\">a&lt;b&gt;&amp;\"c&nbsp;</p>"
unfolding is_void is_raw escaped escaped_value attribute chars encode
escaped_twice = refl

-- ---- attributes that come and go

abbrev yes_input : Option (List ℕ) → Forest Look
yes_input disabled =
    node 0 Root (node 1 (Text (codes "yes")) none (node 4 (Element (codes "input") ((codes "disabled", disabled) ∷ [])) none none)) none

abbrev disabled : NumberedPage
disabled = renumbered bare (yes_input (Some []))

abbrev enabled : NumberedPage
enabled = renumbered disabled (yes_input None)

disabled_ops : edits_between bare disabled ≡
    (OpInsert 0 0 1 (Text (codes "yes")) none ∷ OpInsert 0 1 2 (Element (codes "input") ((codes "disabled", []) ∷ [])) none ∷ [])
disabled_ops = refl

disabled_html : html_of (tree_of disabled) ≡ codes "yes<input disabled=\"\">"
unfolding is_void is_raw escaped escaped_value attribute chars encode
disabled_html = refl

unchanged : edits_between disabled (renumbered disabled (yes_input (Some []))) ≡ []
unchanged = refl

enabled_ops : edits_between disabled enabled ≡ (OpUnattr 2 (codes "disabled") ∷ [])
enabled_ops = refl

enabled_html : html_of (tree_of enabled) ≡ codes "yes<input>"
unfolding is_void is_raw escaped escaped_value attribute chars encode
enabled_html = refl

-- one element with four lines of attributes
abbrev abcd : (a b c d : Option (List ℕ)) → Forest Look
abcd a b c d = node 0 Root (node 1 (Element (codes "p") ((codes "a", a) ∷ (codes "b", b) ∷ (codes "c", c) ∷ (codes "d", d) ∷ [])) none none) none

abbrev ac : NumberedPage
ac = renumbered bare (abcd (Some (codes "1")) None (Some (codes "3")) None)

abbrev bc : NumberedPage
bc = renumbered ac (abcd None (Some (codes "2")) (Some (codes "4")) None)

abbrev abcd_all : NumberedPage
abcd_all = renumbered bc (abcd (Some (codes "1")) (Some (codes "2")) (Some (codes "5")) (Some (codes "6")))

-- each place is that among the attributes that are present then
came_and_went : edits_between ac bc ≡ (OpUnattr 1 (codes "a") ∷ OpAttr 1 0 (codes "b") (codes "2") ∷ OpAttr 1 1 (codes "c") (codes "4") ∷ [])
came_and_went = refl

in_their_order : edits_between bc abcd_all ≡
    (OpAttr 1 0 (codes "a") (codes "1") ∷ OpAttr 1 2 (codes "c") (codes "5") ∷ OpAttr 1 3 (codes "d") (codes "6") ∷ [])
in_their_order = refl

bc_html : html_of (tree_of bc) ≡ codes "<p b=\"2\" c=\"4\"></p>"
unfolding is_void is_raw escaped escaped_value attribute chars encode
bc_html = refl

-- ---- things to do

abbrev entry : ℕ → List ℕ → List ℕ → Forest Look → Forest Look
entry a key title rest =
    node a (Element (codes "li") ((codes "data-key", Some key) ∷ (codes "hidden", None) ∷ [])) (node (a + 1) (Text title) none none) rest

abbrev counted : List ℕ → Forest Look
counted open_ones = node 5 (plain (codes "p")) (node 6 (Text open_ones) none none) none

abbrev noted : Forest Look → Forest Look
noted rest = node 3 (plain (codes "p")) (node 4 (Text (codes "Nothing here.")) none none) rest

abbrev section : Forest Look → Forest Look → Forest Look
section entries below =
    node 0 Root (node 1 (Element (codes "section") ((codes "class", Some (codes "todo")) ∷ [])) (node 2 (plain (codes "ul")) entries below) none) none

abbrev three : NumberedPage
three =
    let entries = entry 11 (codes "a") (codes "Milk") (entry 21 (codes "b") (codes "Tea") (entry 31 (codes "c") (codes "Bread") none)) in
    renumbered bare (section entries (counted (codes "2 open")))

abbrev one_left : NumberedPage
one_left = renumbered three (section (entry 31 (codes "c") (codes "Bread") none) (counted (codes "1 open")))

abbrev none_left : NumberedPage
none_left = renumbered one_left (section none (noted (counted (codes "0 open"))))

abbrev shown_entry : ℕ → List ℕ → List ℕ → Forest Kind → Forest Kind
shown_entry n key title rest = node n (Element (codes "li") ((codes "data-key", key) ∷ [])) (node (n + 1) (Text title) none none) rest

abbrev three_shown : Forest Kind
three_shown = shown_entry 3 (codes "a") (codes "Milk") (shown_entry 5 (codes "b") (codes "Tea") (shown_entry 7 (codes "c") (codes "Bread") none))

three_ops : edits_between bare three ≡ (OpInsert 0 0 1 (Element (codes "section") ((codes "class", codes "todo") ∷ []))
    (node 2 (plain (codes "ul")) three_shown
    (node 9 (plain (codes "p")) (node 10 (Text (codes "2 open")) none none) none)) ∷ [])
three_ops = refl

-- the topmost nodes that are gone, and nothing of what stands below them
one_left_ops : edits_between three one_left ≡ (OpRemove 3 ∷ OpRemove 5 ∷ OpText 10 (codes "1 open") ∷ [])
one_left_ops = refl

-- children of kept nodes alone are inserted
none_left_ops : edits_between one_left none_left ≡
    (OpRemove 7 ∷ OpInsert 1 1 11 (plain (codes "p")) (node 12 (Text (codes "Nothing here.")) none none) ∷ OpText 10 (codes "0 open") ∷ [])
none_left_ops = refl

one_left_html : html_of (tree_of one_left) ≡ codes "<section class=\"todo\"><ul><li data-key=\"c\">Bread</li></ul><p>1 open</p></section>"
unfolding is_void is_raw escaped escaped_value attribute chars encode
one_left_html = refl

-- ---- texts as they are, void elements

abbrev small : Forest Kind
small =
    node 0 Root (node 1 (plain (codes "script")) (node 2 (Text (codes "a<b")) none none)
    (node 3 (plain (codes "br")) (node 4 (Text (codes "x")) none none) (node 5 (Text (codes "<")) none none))) none

small_html : html_of small ≡ codes "<script>a<b</script><br>&lt;"
unfolding is_void is_raw escaped escaped_value attribute chars encode
small_html = refl
