use Rattle.std.proofs.Common.{◌≡◌, ℕ, true, take}
use Rattle.signal_model.specs.Signals.{is_in}
use Rattle.signal_model.specs.Memos.{keeps}
use Rattle.effect_model.specs.Acts.{some_name}
use Rattle.sig_watcher.specs.Reach.{Adds, HasSeat}
use Rattle.sig_watcher.proofs.reach.add_all_readers.Given as goal

abbrev pub invariant-loop-id : goal.invariant-loop-id
invariant-loop-id l = record {
  adds : Adds l.graph (λ m. some_name (keeps l.graph.state.memos m) l.ids) l.initial.reached l.reached;
  there : (m n : ℕ) → is_in n (take l.id-index l.ids) ≡ true → keeps l.graph.state.memos m n ≡ true → HasSeat l.graph l.reached m;
}
