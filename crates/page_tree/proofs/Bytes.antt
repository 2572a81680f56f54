-- The bytes of nodes that are built from rows.
use Rattle.std.proofs.Common.{◌≡◌, ℕ, zero, suc, ◌-◌, ◌<◌, Bool, false, refl, sym, ap, arith, append-nil, List, [], ◌∷◌, ◌++◌, Option, Some, None}
use Rattle.html_out.specs.Html.{is_raw}
use Rattle.page_model.specs.Forest.{Forest, none, node}
use Rattle.page_model.specs.Labels.{Root, Text, Element, Kind}
use Rattle.page_model.specs.Html.{characters, element, html_in, html_of}
use Rattle.page_tree.specs.Rows.{Row, grown, grow, build, tree_in}

-- the first node, then the others
first_then : (raw : Bool) (n : ℕ) (x : Kind) (k r : Forest Kind) → html_in raw (node n x k r) ≡ html_in raw (node n x k none) ++ html_in raw r
first_then raw n Root k r = refl
first_then raw n (Text t) k r = ap (λ zs. zs ++ html_in raw r) (sym (append-nil (characters raw t)))
first_then raw n (Element name xs) k r = ap (λ zs. zs ++ html_in raw r) (sym (append-nil (element name xs (html_in (is_raw name) k))))

shows_grown : (raw : Bool) (n : ℕ) (o : Option Row) (below : List ℕ → Forest Kind) (r : Forest Kind) → html_in raw (grown n o below r) ≡ html_in raw (grown n o below none) ++ html_in raw r
shows_grown raw n None below r = refl
shows_grown raw n (Some p) below r = first_then raw n p.label (below p.children) r

pub shows_cons : (raw : Bool) (levels : ℕ) (rows : ℕ → Option Row) (n : ℕ) (ns : List ℕ) → html_in raw (build levels rows (n ∷ ns)) ≡ html_in raw (build levels rows (n ∷ [])) ++ html_in raw (build levels rows ns)
shows_cons raw zero rows n ns = refl
shows_cons raw (suc levels) rows n ns = shows_grown raw n (rows n) (build levels rows) (grow rows (build levels rows) ns)

-- one node, by its row
pub shows_one : (raw : Bool) (levels : ℕ) (rows : ℕ → Option Row) (n : ℕ) → 0 < levels → html_in raw (build levels rows (n ∷ [])) ≡ html_in raw (grown n (rows n) (build (levels - 1) rows) none)
shows_one raw zero rows n h = absurd (omega arith)
shows_one raw (suc levels) rows n h = (let e : suc levels - 1 ≡ levels = omega arith in rw e refl)

-- no nodes
pub shows_none : (raw : Bool) (levels : ℕ) (rows : ℕ → Option Row) → html_in raw (build levels rows []) ≡ []
shows_none raw zero rows = refl
shows_none raw (suc levels) rows = refl

pub shows_root : (rows : ℕ → Option Row) (r : Row) → rows 0 ≡ Some r → html_of (tree_in rows) ≡ html_in false (build 32 rows r.children)
unfolding tree_in
shows_root rows r e = rw e refl
