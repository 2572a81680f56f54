-- The world at the beginning.
use Rattle.std.proofs.Common.{◌≡◌, ℕ, zero, suc, List, [], ◌∷◌, length, refl, sym, ap, subst, ◌∙◌}
use Rattle.signal_model.specs.Recipes.{Hosts}
use Rattle.signal_model.specs.Kept.{AreKept}
use Rattle.signal_laws.proofs.Shared.{empty_law}
use Rattle.effect_model.specs.Commands.{new_world}
use Rattle.sig_host.specs.Hosts.{HostPlace, count_at}
use Rattle.sig_graph.specs.HostUse.{uses_host}
use Rattle.sig_graph.specs.States.{Seen, State, no_state}
use Rattle.sig_watcher.specs.Tables.{Table, no_watchers}
use Rattle.sig_effect.specs.Wholes.{host_states, whole_of}
use Rattle.sig_computed.specs.Asked.{AreThere}
use Rattle.sig_computed.specs.Notes.{IsIdle}
use Rattle.sig_effect.specs.Stores.{Agrees, AreListed, AreNew, AreOwn, AreWatched, IsSound}
use Rattle.sig_effect.proofs.HostStates.{states_new}

pub new_whole : (asked : List HostPlace) (g : Seen) (t : Table) → g.state ≡ no_state → g.given ≡ 0 → t ≡ no_watchers → AreNew asked →
    whole_of asked (record { graph = g; watchers = t }) ≡ new_world (length asked)
new_whole asked g t state given empty new = λ i. record (new_world (length asked)) {
  signals = (state i).signals;
  memos = (state i).memos;
  host_states = (ap (λ (s : State). host_states (uses_host s.signals) 0 asked) state ∙ states_new (uses_host no_state.signals) 0 asked (λ j. refl) new) i;
  watchers = (empty i).watchers;
  made = record ((new_world 0).made) { signals = given i; watchers = (empty i).made };
}

never_asked : (asked : List HostPlace) (k : ℕ) → AreNew asked → count_at asked k ≡ 0
never_asked [] k new = refl
never_asked (p ∷ ps) zero new = ap (λ (q : HostPlace). q.asks) new.0
never_asked (p ∷ ps) (suc k) new = never_asked ps k new.1

pub new_sound : (hosts : Hosts) (asked : List HostPlace) (g : Seen) (t : Table) → g.state ≡ no_state → AreNew asked → IsSound hosts asked (record { graph = g; watchers = t })
new_sound hosts asked g t state new = record {
  kept = subst (λ (s : State). AreKept hosts s.signals s.memos) (sym state) (empty_law hosts);
  unasked = record { never = λ k there off. never_asked asked k new };
}

pub new_agrees : (asked : List HostPlace) (g : Seen) (t : Table) → g.state ≡ no_state → t ≡ no_watchers → Agrees asked (record { graph = g; watchers = t })
new_agrees asked g t state empty = record {
  idle = subst IsIdle (sym state) (λ n. refl);
  listed = subst (λ (s : State). AreListed s.signals) (sym state) tt;
  there = subst (λ (s : State). AreThere s.signals asked) (sym state) (record { each = λ k e. cc });
  own = subst (λ (s : State). AreOwn s.signals) (sym state) (record { one = λ n m p e f. cc });
  watched = subst (λ (w : Table). AreWatched g.state.signals w.watchers) (sym empty) tt;
}
