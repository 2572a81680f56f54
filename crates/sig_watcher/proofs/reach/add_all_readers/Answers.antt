use Rattle.std.proofs.Common.{◌≡◌, ℕ, Bool, true, inl, inr, subst}
use Rattle.signal_model.specs.Memos.{keeps}
use Rattle.effect_model.specs.Acts.{some_name}
use Rattle.sig_watcher.proofs.Closure.{adds_more, adds_none, adds_then, adds_under, among, in_more, some_here}
use Rattle.sig_watcher.proofs.reach.add_all_readers.Goals as goal

pub loop-id-init : goal.loop-id-init
loop-id-init c =
    let g = c.args.graph.now in
    record {
      adds = adds_none g (λ m. some_name (keeps g.state.memos m) c.args.ids.now) c.args.reached.now;
      there = λ m n h. cc;
    }

pub loop-id-preserved : goal.loop-id-preserved
loop-id-preserved c =
    let g = c.args.graph.now in
    let ids = c.args.ids.now in
    let test : ℕ → Bool = λ m. some_name (keeps g.state.memos m) ids in
    let inside = c.loop-id-test.true in
    let here = among ids c.loop-id.id-index c.id-item.result inside c.id-item.is in
    let one = adds_under g (λ m. keeps g.state.memos m c.id-item.result) test c.loop-id.reached c.add_readers.new.reached
    (λ m h. some_here (keeps g.state.memos m) ids c.id-item.result here h) c.add_readers.ensures.adds in
    record {
      adds = adds_then g test c.args.reached.now c.loop-id.reached c.add_readers.new.reached c.loop-id.invariant.adds one;
      there = λ m n h k. elim (in_more ids c.loop-id.id-index c.id-item.result n inside c.id-item.is h) [
        | inl old ↦ adds_more g test c.loop-id.reached c.add_readers.new.reached m one (c.loop-id.invariant.there m n old k)
        | inr e ↦ c.add_readers.ensures.there m (subst (λ z. keeps g.state.memos m z ≡ true) e k)
      ];
    }
