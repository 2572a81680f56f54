use Rattle.std.proofs.Common.{sym, ap, ◌∙◌, ◌≡◌}
use Rattle.page_tree.specs.Rows.{look, row_in, row_of}
use Rattle.std.proofs.lemmas.Bool.{false≢true}
use Rattle.page_model.specs.Edits.{siblings}
use Rattle.page_model.specs.Forest.{kids, on}
use Rattle.page_model.specs.Pages.{place_in}
use Rattle.page_tree.proofs.Edits.{kept_some, kept_none}
use Rattle.page_tree.proofs.Queries.{parent_on, place_off, read_place, tree_seen, zero_first, zero_last}
use Rattle.page_tree.proofs.tree.Tree.place_of.Goals as goal

pub returns-in_default : goal.returns-in_default
returns-in_default c = place_off c.args.id c.args.self.now (kept_none (look c.self.inside.nodes) c.args.self.now c.args.id c.self.view_is c.self.invariant (ap row_in (sym c.in_default.ensures.value)))

pub returns-in_default-get : goal.returns-in_default-get
returns-in_default-get c =
    let k = kept_some (look c.self.inside.nodes) c.args.self.now c.args.id (row_of c.in-Some.node.now) c.self.view_is c.self.invariant (ap row_in (sym c.in-Some.ensures.value)) in
    let z = zero_first c.args.id c.if-id-eq0.false in
    let p = k.3 z in
    let w = parent_on c.args.id c.args.self.now (tree_seen (look c.self.inside.nodes) c.args.self.now c.self.view_is c.self.invariant) k.0 z in
    let e = kept_none (look c.self.inside.nodes) c.args.self.now c.in-Some.node.now.parent c.self.view_is c.self.invariant (ap row_in (sym c.in_default-get.ensures.value)) in
    absurd (false≢true (sym e ∙ (ap (λ q. on q c.args.self.now) p ∙ w.1)))

pub returns : goal.returns
returns c =
    let k = kept_some (look c.self.inside.nodes) c.args.self.now c.args.id (row_of c.in-Some.node.now) c.self.view_is c.self.invariant (ap row_in (sym c.in-Some.ensures.value)) in
    let p = k.3 (zero_first c.args.id c.if-id-eq0.false) in
    let a = kept_some (look c.self.inside.nodes) c.args.self.now c.in-Some.node.now.parent (row_of c.in-Some-get.above.now) c.self.view_is c.self.invariant (ap row_in (sym c.in-Some-get.ensures.value)) in
    let i : c.place_in.result ≡ place_in c.args.id (siblings (kids c.in-Some.node.now.parent c.args.self.now)) = c.place_in.ensures ∙ ap (place_in c.args.id) (c.deref.ensures.value ∙ a.2) in
    read_place c.args.id c.in-Some.node.now.parent c.place_in.result c.args.self.now k.0 (zero_last c.args.id c.if-id-eq0.false) p i
