-- Names that are settled, as they come out for the meanings by which the shelf answers.
use Rattle.std.proofs.Common.{◌≡◌, ◌+◌, ◌≤◌, List, ℕ, subst}
use Rattle.signal_model.specs.Recipes.{Hosts}
use Rattle.signal_model.specs.Kept.{AreKept}
use Rattle.sig_computed.specs.Asked.{IsAsking}
use Rattle.sig_computed.specs.Costs.{step_bound}
use Rattle.sig_computed.specs.Notes.{IsSettling}
use Rattle.sig_computed.specs.Scenes.{Scene, Settles}

-- the same names, where what is kept is sound
pub same_settled : (x y : Scene) (before after : Hosts → Type 0) (names others : Hosts → List ℕ) → Settles x y before after names →
    ((hosts : Hosts) → before hosts → AreKept hosts x.graph.state.signals x.graph.state.memos → names hosts ≡ others hosts) → Settles x y before after others
same_settled x y before after names others s same = record {
  settled = λ hosts all kept.
      subst (λ ns. IsSettling hosts x.graph.state.signals x.graph.state.memos ns x.notes y.notes y.graph.state.memos) (same hosts all kept)
      (s.settled hosts all kept);
  kept = s.kept;
  asked = λ hosts all kept.
      subst (λ ns. IsAsking hosts x.graph.state.signals x.graph.state.memos ns x.asked y.asked) (same hosts all kept) (s.asked hosts all kept);
  steps = λ hosts all kept.
      subst (λ ns. y.graph.state.looked ≤ x.graph.state.looked + step_bound hosts x.graph.state.signals x.graph.state.memos ns) (same hosts all kept)
      (s.steps hosts all kept);
  answers = s.answers;
  there = s.there;
  most = s.most;
  signals = s.signals;
  idle = s.idle;
  seats = s.seats;
  given = s.given;
  named = s.named;
  worn = s.worn;
}
