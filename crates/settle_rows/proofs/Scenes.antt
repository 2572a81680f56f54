-- What commands leave of a scene.
use Rattle.std.proofs.Common.{◌≡◌, ℕ, ◌+◌, ◌*◌, ◌^◌, ◌≤◌, ◌<◌, ◌==◌, ◌||◌, ◌⊎◌, inl, inr, nat_lt, Bool, true, false, cond, List, [], ◌∷◌, ◌++◌, map, None, refl, sym, ap, ◌∙◌, subst, arith}
use Rattle.std.specs.Prelude.{is_some}
use Rattle.std.specs.List.{All}
use Rattle.std.proofs.lemmas.Bool.Decides.{nat_tests}
use Rattle.std.proofs.lemmas.List.Elements.{All-cons, All-nil, All-push, All-weaker}
use Rattle.std.proofs.lemmas.Bool.{eqb-true}
use Rattle.sig_base.specs.declared.value.Value.{Value}
use Rattle.sig_formula.specs.Trees.{Tree}
use Rattle.signal_model.specs.Recipes.{formula_recipe, host}
use Rattle.signal_model.specs.Asks.{is_host}
use Rattle.signal_model.specs.Signals.{Signals, Cell as CellOf, Computed, Stands, IsGone, IsCell, IsComputed, is_cell}
use Rattle.sig_nodes.specs.declared.answers.Standing.TheVariants.{Cell}
use Rattle.sig_host.specs.declared.shelf.Shelf.{Shelf}
use Rattle.sig_host.specs.Hosts.{HostPlace, is_there, most_asked, unasked_place}
use Rattle.sig_host.proofs.Shared.{most_asked-new}
use Rattle.sig_nodes.specs.Answers.{kind_here}
use Rattle.sig_graph.specs.HostUse.{uses_host}
use Rattle.sig_graph.proofs.Shared.{uses_made, uses_rewired}
use Rattle.sig_computed.specs.Asked.{AreThere, StayThere}
use Rattle.sig_computed.specs.Notes.{IsIdle}
use Rattle.sig_computed.specs.Scenes.{scene, CanSettle}
use Rattle.sig_computed.specs.declared.notes.RunNote.{RunNote}
use Rattle.sig_graph.specs.States.{Seen, State, Progress, Makes, progress_at, is_given, no_state, with_new_cell, with_new_computed, with_rewiring, with_set, Becomes}
use Rattle.settle_rows.specs.Scenes.{IsReady}

-- ids below a count were given
pub given_here : (g h : Seen) (ids ids' : List ℕ) → h ≡ g → ids' ≡ ids → All (λ n. nat_lt n g.given ≡ true) ids → All (λ n. is_given h n ≡ true) ids'
unfolding is_given
given_here g h ids ids' eg ei all = subst (λ x. x) (λ i. All (λ n. nat_lt n (sym eg i).given ≡ true) (sym ei i)) all

-- so are those and the next one, once that is made
ids_more : (a b : ℕ) (ids : List ℕ) (id : ℕ) → id ≡ a → b ≡ a + 1 → All (λ n. nat_lt n a ≡ true) ids → All (λ n. nat_lt n b ≡ true) (ids ++ id ∷ [])
ids_more a b ids id is more all =
    All-push (λ n. nat_lt n b ≡ true) ids id (All-weaker (λ n. nat_lt n a ≡ true) (λ n. nat_lt n b ≡ true) (λ n h. later n a b more h) ids all) (next id a b is more)
  where
    later : (n x y : ℕ) → y ≡ x + 1 → nat_lt n x ≡ true → nat_lt n y ≡ true
    later n x y e h = grind (arith, nat_tests)

    next : (n x y : ℕ) → n ≡ x → y ≡ x + 1 → nat_lt n y ≡ true
    next n x y is e = grind (arith, nat_tests)

-- a computed more that isn't being evaluated
none_more : (ps : List Progress) (n m : ℕ) → is_some (progress_at m (ps ++ record { name = n; known = None } ∷ [])) ≡ is_some (progress_at m ps)
none_more [] n m = go (m == n)
  where
    go : (b : Bool) → is_some (cond b None (progress_at m [])) ≡ false
    go true = refl
    go false = refl
none_more (p ∷ ps) n m = go (m == p.name) (none_more ps n m)
  where
    go : (b : Bool) → is_some (progress_at m (ps ++ record { name = n; known = None } ∷ [])) ≡ is_some (progress_at m ps) →
        is_some (cond b p.known (progress_at m (ps ++ record { name = n; known = None } ∷ []))) ≡ is_some (cond b p.known (progress_at m ps))
    go true h = refl
    go false h = h

-- the host formulas that are asked are there, where no other is asked
there_still : (old new : Signals) (asked : List HostPlace) → ((place : ℕ) → uses_host new place ≡ true → uses_host old place ≡ true) → AreThere old asked → AreThere new asked
there_still old new asked same are = record { each = λ place on. are.each place (same place on) }

-- a new scene
pub first_ready : {A : Type 0} (g : Seen) (asked : List HostPlace) (ids : List ℕ) (hosts : List A) (n : ℕ) → g.state ≡ no_state → g.given ≡ 0 → asked ≡ map (λ _. unasked_place) hosts →
    ids ≡ [] → IsReady g asked ids n
first_ready g asked ids hosts n state given new none = record {
  idle = λ k. ap (λ (s : State). is_some (progress_at k s.progress)) state;
  worn = let w : g.state.worn ≡ 0 = ap (λ (s : State). s.worn) state in omega (arith, w);
  given = subst (All (λ k. nat_lt k g.given ≡ true)) (sym none) (All-nil (λ k. nat_lt k g.given ≡ true));
  there = record { each = λ place on. cc (ap (λ (s : State). uses_host s.signals place) (sym state) ∙ on) };
  few = let m : most_asked asked ≡ 0 = ap most_asked new ∙ most_asked-new hosts in omega (arith, m);
}

-- one id that was given
pub one_given : (a n : ℕ) (ids ids' : List ℕ) → ids ≡ [] → ids' ≡ ids ++ n ∷ [] → nat_lt n a ≡ true → All (λ k. nat_lt k a ≡ true) ids'
one_given a n ids ids' none more on =
    subst (All (λ k. nat_lt k a ≡ true)) (sym (more ∙ ap (λ l. l ++ n ∷ []) none))
    (All-cons (λ k. nat_lt k a ≡ true) n [] on (All-nil (λ k. nat_lt k a ≡ true)))

-- a scene of the same parts
pub same_ready : (g h : Seen) (asked asked' : List HostPlace) (ids ids' : List ℕ) (n m : ℕ) → h ≡ g → asked' ≡ asked → ids' ≡ ids → m ≡ n →
    IsReady g asked ids n → IsReady h asked' ids' m
same_ready g h asked asked' ids ids' n m eg ea ei en r = subst (λ x. x) (λ i. IsReady (sym eg i) (sym ea i) (sym ei i) (sym en i)) r

-- what is known of the same shelf's places
pub same_places : {X : Type 0} {has : X → Type 0} (s t : Shelf X has) → s ≡ t →
    map {B = HostPlace} (λ p. record { there = is_some p.host; asks = p.count }) s.places.items
    ≡ map {B = HostPlace} (λ p. record { there = is_some p.host; asks = p.count }) t.places.items
same_places {X = X} {has = has} s t e = ap (λ (x : Shelf X has). map {B = HostPlace} (λ p. record { there = is_some p.host; asks = p.count }) x.places.items) e

-- a scene with one cell more
pub cell_ready : (g h : Seen) (asked : List HostPlace) (ids : List ℕ) (n id : ℕ) (c : CellOf) → IsReady g asked ids n → Makes g h id (with_new_cell g.state c) →
    IsReady h asked (ids ++ id ∷ []) (n + 1)
cell_ready g h asked ids n id c r m =
    let before : g.state.worn ≤ n * 2 ^ 64 = r.worn in
    let worn : h.state.worn ≡ g.state.worn + 1 = ap (λ (s : State). s.worn) m.state in
    let few : most_asked asked ≤ n * 2 ^ 71 = r.few in
    record {
      idle = λ k. ap (λ (s : State). is_some (progress_at k s.progress)) m.state ∙ r.idle k;
      worn = omega (arith, worn, before);
      given = ids_more g.given h.given ids id m.id m.given r.given;
      there = there_still g.state.signals h.state.signals asked (λ place on. ap (λ (s : State). uses_host s.signals place) (sym m.state) ∙ on) r.there;
      few = omega (arith, few);
    }

-- a scene with one computed more, whose host formula is there
pub computed_ready : (g h : Seen) (asked : List HostPlace) (ids : List ℕ) (n id : ℕ) (c : Computed) →
    ((place : ℕ) → is_host place c.recipe.expression ≡ true → is_there asked place ≡ true) → IsReady g asked ids n → Makes g h id (with_new_computed g.state c) →
    IsReady h asked (ids ++ id ∷ []) (n + 1)
computed_ready g h asked ids n id c own r m =
    let before : g.state.worn ≤ n * 2 ^ 64 = r.worn in
    let worn : h.state.worn ≡ g.state.worn + 1 = ap (λ (s : State). s.worn) m.state in
    let few : most_asked asked ≤ n * 2 ^ 71 = r.few in
    record {
      idle = λ k. ap (λ (s : State). is_some (progress_at k s.progress)) m.state ∙ none_more g.state.progress c.name k ∙ r.idle k;
      worn = omega (arith, worn, before);
      given = ids_more g.given h.given ids id m.id m.given r.given;
      there = record {
        each = λ place on. by place (uses_host g.state.signals place) refl
            (sym (uses_made g.state.signals c place) ∙ ap (λ (s : State). uses_host s.signals place) (sym m.state) ∙ on);
      };
      few = omega (arith, few);
    }
  where
    by : (place : ℕ) (b : Bool) → uses_host g.state.signals place ≡ b → (b || is_host place c.recipe.expression) ≡ true → is_there asked place ≡ true
    by place true e on = r.there.each place e
    by place false e on = own place on

-- the host formula at a place is there
pub host_own : (p : ℕ) (asked : List HostPlace) → is_there asked p ≡ true → (place : ℕ) → is_host place (host p) ≡ true → is_there asked place ≡ true
host_own p asked there place is = ap (is_there asked) (sym (eqb-true p place is)) ∙ there

-- a scene in which a cell was set
pub set_ready : (g h : Seen) (asked : List HostPlace) (ids : List ℕ) (n m : ℕ) (v : Value) → IsReady g asked ids n → Becomes g h (with_set g.state m v) → IsReady h asked ids (n + 1)
set_ready g h asked ids n m v r b =
    let before : g.state.worn ≤ n * 2 ^ 64 = r.worn in
    let worn : h.state.worn ≡ g.state.worn + 1 = ap (λ (s : State). s.worn) b.state in
    let few : most_asked asked ≤ n * 2 ^ 71 = r.few in
    record {
      idle = λ k. ap (λ (s : State). is_some (progress_at k s.progress)) b.state ∙ r.idle k;
      worn = omega (arith, worn, before);
      given = subst (λ x. All (λ k. nat_lt k x ≡ true) ids) (sym b.given) r.given;
      there = there_still g.state.signals h.state.signals asked (λ place on. ap (λ (s : State). uses_host s.signals place) (sym b.state) ∙ on) r.there;
      few = omega (arith, few);
    }

-- a scene in which a computed has another formula
pub rewired_ready : (g h : Seen) (asked : List HostPlace) (ids : List ℕ) (n m : ℕ) (t : Tree) (slots : List ℕ) → IsReady g asked ids n →
    Becomes g h (with_rewiring g.state m (formula_recipe t slots)) → IsReady h asked ids (n + 1)
rewired_ready g h asked ids n m t slots r b =
    let before : g.state.worn ≤ n * 2 ^ 64 = r.worn in
    let worn : h.state.worn ≡ g.state.worn + 1 = ap (λ (s : State). s.worn) b.state in
    let few : most_asked asked ≤ n * 2 ^ 71 = r.few in
    record {
      idle = λ k. ap (λ (s : State). is_some (progress_at k s.progress)) b.state ∙ r.idle k;
      worn = omega (arith, worn, before);
      given = subst (λ x. All (λ k. nat_lt k x ≡ true) ids) (sym b.given) r.given;
      there = there_still g.state.signals h.state.signals asked (λ place on.
          by place (uses_rewired g.state.signals m (formula_recipe t slots) place (ap (λ (s : State). uses_host s.signals place) (sym b.state) ∙ on))) r.there;
      few = omega (arith, few);
    }
  where
    by : (place : ℕ) → (false ≡ true) ⊎ (uses_host g.state.signals place ≡ true) → uses_host g.state.signals place ≡ true
    by place (inl e) = cc
    by place (inr e) = e

-- a scene in which a signal was settled
pub got_ready : (g h : Seen) (asked asked' : List HostPlace) (ids : List ℕ) (n first notes : ℕ) → IsReady g asked ids n → first ≡ 0 →
    h.state.signals ≡ g.state.signals → h.given ≡ g.given → IsIdle h.state → h.state.worn + first ≡ g.state.worn + notes → notes < 2 ^ 64 → StayThere asked asked' →
    most_asked asked' + 65 * first ≤ most_asked asked + 65 * notes → IsReady h asked' ids (n + 1)
got_ready g h asked asked' ids n first notes r none signals given idle worn few stay most =
    let before : g.state.worn ≤ n * 2 ^ 64 = r.worn in
    let asks : most_asked asked ≤ n * 2 ^ 71 = r.few in
    record {
      idle = idle;
      worn = omega (arith, none, worn, before, few);
      given = subst (λ x. All (λ k. nat_lt k x ≡ true) ids) (sym given) r.given;
      there = record { each = λ place on. stay place ∙ r.there.each place (ap (λ w. uses_host w place) (sym signals) ∙ on) };
      few = omega (arith, none, most, asks, few);
    }

-- after few commands signals may be settled
pub ready_can : (g : Seen) (asked : List HostPlace) (ids : List ℕ) (n : ℕ) (notes : List RunNote) → IsReady g asked ids n → n < 1001 →
    CanSettle (scene g asked notes)
ready_can g asked ids n notes r few =
    let worn : g.state.worn ≤ n * 2 ^ 64 = r.worn in
    let asks : most_asked asked ≤ n * 2 ^ 71 = r.few in
    record {
      idle = r.idle;
      there = r.there;
      worn = omega (arith, worn, few);
      room = omega (arith, asks, few);
    }

-- what isn't answered as a cell is none
pub not_cell : (st : Stands) (b : Bool) → (kind_here st b ≡ Cell → ⊥) → is_cell st ≡ false
not_cell IsGone b f = refl
not_cell (IsCell c) b f = absurd (f refl)
not_cell (IsComputed c) b f = refl
