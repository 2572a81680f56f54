use Rattle.std.proofs.Common.{◌≡◌, ◌<◌, ◌++◌, ◌∷◌, [], ℕ, List, true, length, length-append, ap, sym, ◌∙◌, subst, arith}
use Rattle.signal_model.specs.Signals.{is_in}
use Rattle.signal_model.specs.Memos.{source_names, sources_in}
use Rattle.sig_base.specs.declared.limits.TheConstants.{MOST_NODES}
use Rattle.sig_nodes.specs.Nodes.{body_at, memo_body}
use Rattle.sig_graph.specs.Search.{AreDue, IsWay, Reaches}
use Rattle.sig_nodes.proofs.Shared.{seat_got}
use Rattle.sig_graph.proofs.Walks.{first_found, keeps_name, listed_more, none_found, reach_left, reach_next, way_due}
use Rattle.sig_graph.proofs.search.turn.Goals as goal

pub enter-requires : goal.enter-requires
enter-requires c =
    let room = c.requires.room in
    let most = c.requires.most in
    omega (arith, room, most)

pub returns-in_default-clause-part : goal.returns-in_default-clause-part
returns-in_default-clause-part c = λ none.
    let xs = c.args.nodes.now.items in
    let g = c.args.generation in
    let t = c.args.marks.now.marked in
    let ss = c.args.reached.now in
    reach_left xs t g c.args.id ss c.args.trail.now c.requires.part (λ p k live on.
    none_found xs t ss (source_names (sources_in (memo_body (body_at xs c.args.id)))) p c.in_default.ensures.next (sym (keeps_name xs g c.args.id p) ∙ k) live on)

pub go_to-requires-clause-inside : goal.go_to-requires-clause-inside
go_to-requires-clause-inside c =
    let xs = c.args.nodes.now.items in
    let new = first_found xs c.args.marks.now.marked c.args.reached.now (source_names (sources_in (memo_body (body_at xs c.args.id)))) c.in-Some.next.id c.in-Some.ensures.next in
    subst (λ s. s < MOST_NODES) (seat_got xs c.in-Some.next.id c.in-Some.next.node.now c.in-Some.ensures.node) (c.requires.seats.below c.in-Some.next.id new.live)

pub go_to-requires-clause-fresh : goal.go_to-requires-clause-fresh
go_to-requires-clause-fresh c =
    let xs = c.args.nodes.now.items in
    let new = first_found xs c.args.marks.now.marked c.args.reached.now (source_names (sources_in (memo_body (body_at xs c.args.id)))) c.in-Some.next.id c.in-Some.ensures.next in
    ap (λ s. is_in s c.args.reached.now) (sym (seat_got xs c.in-Some.next.id c.in-Some.next.node.now c.in-Some.ensures.node)) ∙ new.fresh

pub go_to-requires-clause-room : goal.go_to-requires-clause-room
go_to-requires-clause-room c =
    let len = ap (λ (ns : List ℕ). length ns) c.enter.ensures in
    let room = c.requires.room in
    omega (arith, len, room)

pub is_told-requires-clause-live : goal.is_told-requires-clause-live
is_told-requires-clause-live c =
    let xs = c.args.nodes.now.items in
    let new = first_found xs c.args.marks.now.marked c.args.reached.now (source_names (sources_in (memo_body (body_at xs c.args.id)))) c.in-Some.next.id c.in-Some.ensures.next in
    new.live

pub is_told-requires-clause-node : goal.is_told-requires-clause-node
is_told-requires-clause-node c = c.in-Some.ensures.node

pub returns-clause-way : goal.returns-clause-way
returns-clause-way c = λ root way.
    let xs = c.args.nodes.now.items in
    let g = c.args.generation in
    let new = first_found xs c.args.marks.now.marked c.args.reached.now (source_names (sources_in (memo_body (body_at xs c.args.id)))) c.in-Some.next.id c.in-Some.ensures.next in
    let trail = c.go_to.ensures.trail ∙ ap (λ (ns : List ℕ). c.in-Some.next.id ∷ ns) c.enter.ensures in
    subst (λ (ns : List ℕ). IsWay xs g root ns) (sym trail) (keeps_name xs g c.args.id c.in-Some.next.id ∙ new.among, way)

pub returns-clause-due : goal.returns-clause-due
returns-clause-due c = λ told root way.
    let xs = c.args.nodes.now.items in
    let g = c.args.generation in
    let new = first_found xs c.args.marks.now.marked c.args.reached.now (source_names (sources_in (memo_body (body_at xs c.args.id)))) c.in-Some.next.id c.in-Some.ensures.next in
    let trail = c.go_to.ensures.trail ∙ ap (λ (ns : List ℕ). c.in-Some.next.id ∷ ns) c.enter.ensures in
    let all = way_due xs g root c.in-Some.next.id (c.args.id ∷ c.args.trail.now) (keeps_name xs g c.args.id c.in-Some.next.id ∙ new.among, way) (c.is_told.ensures.due told) in
    (subst (λ (ns : List ℕ). AreDue xs g ns) (sym trail) all.0, all.1)

pub returns-clause-part : goal.returns-clause-part
returns-clause-part c = λ calm.
    let xs = c.args.nodes.now.items in
    let g = c.args.generation in
    let t = c.args.marks.now.marked in
    let ss = c.args.reached.now in
    let next = c.in-Some.next.id in
    let new = first_found xs t ss (source_names (sources_in (memo_body (body_at xs c.args.id)))) next c.in-Some.ensures.next in
    let trail = c.go_to.ensures.trail ∙ ap (λ (ns : List ℕ). next ∷ ns) c.enter.ensures in
    let r = reach_next xs t g next ss (c.args.id ∷ c.args.trail.now) c.requires.seats new.live (c.is_told.ensures.calm calm) c.requires.part in
    subst (λ (ns : List ℕ). Reaches xs t g c.go_to.new.reached ns) (sym trail)
    (subst (λ (rs : List ℕ). Reaches xs t g rs (next ∷ c.args.id ∷ c.args.trail.now)) (sym (c.go_to.ensures.reached ∙ ap (λ s. c.args.reached.now ++ s ∷ []) (sym (seat_got xs c.in-Some.next.id c.in-Some.next.node.now c.in-Some.ensures.node)))) r)

pub returns-clause-more : goal.returns-clause-more
returns-clause-more c = λ s listed.
    subst (λ (ss : List ℕ). is_in s ss ≡ true) (sym c.go_to.ensures.reached) (listed_more s c.in-Some.next.node.now.seat c.args.reached.now listed)

pub returns-clause-room : goal.returns-clause-room
returns-clause-room c =
    let trail = ap (λ (ns : List ℕ). length ns) (c.go_to.ensures.trail ∙ ap (λ (ns : List ℕ). c.in-Some.next.id ∷ ns) c.enter.ensures) in
    let reached = ap (λ (ss : List ℕ). length ss) c.go_to.ensures.reached ∙ length-append c.args.reached.now (c.in-Some.next.node.now.seat ∷ []) in
    let room = c.requires.room in
    omega (arith, trail, reached, room)

pub returns-clause-steps : goal.returns-clause-steps
returns-clause-steps c =
    let trail = ap (λ (ns : List ℕ). length ns) (c.go_to.ensures.trail ∙ ap (λ (ns : List ℕ). c.in-Some.next.id ∷ ns) c.enter.ensures) in
    let reached = ap (λ (ss : List ℕ). length ss) c.go_to.ensures.reached ∙ length-append c.args.reached.now (c.in-Some.next.node.now.seat ∷ []) in
    omega (arith, trail, reached)
