use Rattle.std.proofs.Common.{ℕ, Bool, sym, ap, ◌∙◌, subst, inl, inr, arith}
use Rattle.signal_model.specs.Signals.{is_in, standing}
use Rattle.signal_model.specs.Memos.{keeps}
use Rattle.sig_graph.specs.States.{dependants_at}
use Rattle.std.proofs.lemmas.Option.{slice_get_within}
use Rattle.sig_watcher.specs.Reach.{HasSeat}
use Rattle.sig_watcher.proofs.Closure.{adds_as, adds_more, adds_none, adds_then, all_taken, among_at, among_more, computed_there}
use Rattle.sig_watcher.proofs.reach.add_dependants.Goals as goal

pub loop-name-init : goal.loop-name-init
loop-name-init c =
    let g = c.args.graph.now in
    record {
      adds = adds_none g (λ m. keeps g.state.memos m c.args.id) c.args.reached.now;
      there = λ m h. cc;
    }

pub add-requires : goal.add-requires
add-requires c = computed_there (standing c.args.graph.now.state.signals c.in-Some.name) (c.in-Some.ensures.computed c.requires)

pub loop-name-smaller : goal.loop-name-smaller
loop-name-smaller c =
    let inside = slice_get_within (dependants_at c.args.graph.now.order c.args.id) c.loop-name.place c.in-Some.name (sym c.in-Some.ensures.at) in
    omega (arith, inside)

pub loop-name-preserved : goal.loop-name-preserved
loop-name-preserved c =
    let g = c.args.graph.now in
    let test : ℕ → Bool = λ m. keeps g.state.memos m c.args.id in
    let ds = dependants_at g.order c.args.id in
    let keeper = sym (c.in-Some.ensures.known c.requires c.in-Some.name) ∙ among_at ds c.loop-name.place c.in-Some.name c.in-Some.ensures.at in
    let one = adds_as g test c.in-Some.name c.loop-name.reached c.add.new.reached keeper c.add.ensures.adds in
    record {
      adds = adds_then g test c.args.reached.now c.loop-name.reached c.add.new.reached c.loop-name.invariant.adds one;
      there = λ m h. elim (among_more ds c.loop-name.place c.in-Some.name m c.in-Some.ensures.at h) [
        | inl old ↦ adds_more g test c.loop-name.reached c.add.new.reached m one (c.loop-name.invariant.there m old)
        | inr e ↦ subst (HasSeat g c.add.new.reached) (sym e) c.add.ensures.there
      ];
    }

pub returns-clause-adds : goal.returns-clause-adds
returns-clause-adds c = c.loop-name.invariant.adds

pub returns-clause-there : goal.returns-clause-there
returns-clause-there c = λ m h.
    let g = c.args.graph.now in
    let ds = dependants_at g.order c.args.id in
    c.loop-name.invariant.there m (ap (is_in m) (all_taken ds c.loop-name.place c.in_default.ensures.at) ∙ c.in_default.ensures.known c.requires m ∙ h)
