use Rattle.std.proofs.Common.{◌≡◌, ◌||◌, ◌∷◌, [], ℕ, List, true, false, length, ap, sym, refl, subst, arith}
use Rattle.std.proofs.lemmas.Bool.{eq-eqb}
use Rattle.signal_model.specs.Signals.{is_in}
use Rattle.sig_graph.specs.Looks.{is_clean_mark}
use Rattle.sig_nodes.specs.Nodes.{seat_at}
use Rattle.sig_graph.specs.Search.{IsWay, Reaches}
use Rattle.sig_graph.proofs.Walks.{reach_begin, reached_clean}
use Rattle.sig_graph.proofs.Searches.{due_unclean}
use Rattle.sig_graph.proofs.search.finds_below.Goals as goal

pub begin-requires-clause-live : goal.begin-requires-clause-live
begin-requires-clause-live c = c.requires.can.live

pub begin-requires-clause-seats : goal.begin-requires-clause-seats
begin-requires-clause-seats c = c.requires.can.seats

pub goes_to_due-requires-clause-seats : goal.goes_to_due-requires-clause-seats
goes_to_due-requires-clause-seats c = c.requires.can.seats

pub goes_to_due-requires-clause-kept : goal.goes_to_due-requires-clause-kept
goes_to_due-requires-clause-kept c = c.requires.can.kept

pub returns-clause-kept : goal.returns-clause-kept
returns-clause-kept c = c.requires.can.kept

pub goes_to_due-requires-clause-part : goal.goes_to_due-requires-clause-part
goes_to_due-requires-clause-part c =
    let xs = c.args.nodes.now.items in
    let g = c.args.generation in
    let t = c.args.marks.now.marked in
    subst (λ (ns : List ℕ). Reaches xs t g c.begin.new.reached ns) (sym c.begin.ensures.trail)
    (subst (λ (ss : List ℕ). Reaches xs t g ss (c.args.id ∷ [])) (sym c.begin.ensures.reached) (reach_begin xs t g c.args.id c.requires.can.seats c.requires.can.live c.requires.calm))

pub goes_to_due-requires-clause-room : goal.goes_to_due-requires-clause-room
goes_to_due-requires-clause-room c =
    let reached = ap (λ (ss : List ℕ). length ss) c.begin.ensures.reached in
    let trail = ap (λ (ns : List ℕ). length ns) c.begin.ensures.trail in
    omega (arith, reached, trail)

pub goes_to_due-requires-clause-most : goal.goes_to_due-requires-clause-most
goes_to_due-requires-clause-most c =
    let reached = ap (λ (ss : List ℕ). length ss) c.begin.ensures.reached in
    omega (arith, reached)

pub returns-then-goes_to_due-clause-kept : goal.returns-then-goes_to_due-clause-kept
returns-then-goes_to_due-clause-kept c =
    let way = subst (λ (ns : List ℕ). IsWay c.args.nodes.now.items c.args.generation c.args.id ns) (sym c.begin.ensures.trail) refl in
    c.note_all.ensures c.args.nodes.now.items c.args.generation (c.goes_to_due.ensures.due c.if-goes_to_due.true c.args.id way).0 c.requires.can.kept

pub returns-then-goes_to_due-clause-mark : goal.returns-then-goes_to_due-clause-mark
returns-then-goes_to_due-clause-mark c =
    let xs = c.args.nodes.now.items in
    let g = c.args.generation in
    let way = subst (λ (ns : List ℕ). IsWay xs g c.args.id ns) (sym c.begin.ensures.trail) refl in
    due_unclean xs g c.args.id c.requires.can.live (c.goes_to_due.ensures.due c.if-goes_to_due.true c.args.id way).1

pub returns-clause-mark : goal.returns-clause-mark
returns-clause-mark c =
    let xs = c.args.nodes.now.items in
    let here = subst (λ (ss : List ℕ). is_in (seat_at xs c.args.id) ss ≡ true) (sym c.begin.ensures.reached) (ap (λ b. b || false) (eq-eqb (seat_at xs c.args.id) (seat_at xs c.args.id) refl)) in
    ap is_clean_mark
    (reached_clean xs c.args.generation c.args.marks.now c.args.id c.goes_to_due.new.reached c.requires.can.marks c.requires.can.live c.requires.calm (c.goes_to_due.ensures.part c.if-goes_to_due.false)
    (c.goes_to_due.ensures.more (seat_at xs c.args.id) here))

pub returns-clause-reached : goal.returns-clause-reached
returns-clause-reached c = λ none. c.goes_to_due.ensures.part c.if-goes_to_due.false
