-- Cells that are read: their values are from scratch, and nothing is settled.
use Rattle.std.proofs.Common.{◌≡◌, ℕ, ◌&&◌, true, not, Bool, List, [], ◌∷◌, Some, refl, sym, ap, ◌∙◌}
use Rattle.std.specs.List.{list_all}
use Rattle.sig_base.specs.declared.value.Value.{Value}
use Rattle.sig_base.specs.declared.value.Outcome.{Outcome}
use Rattle.sig_base.specs.declared.value.Outcome.TheVariants.{Good}
use Rattle.sig_base.specs.Values.{same_outcome, same_value-Decides}
use Rattle.signal_model.specs.Recipes.{Hosts}
use Rattle.signal_model.specs.Signals.{Cell, Signals, Stands, IsGone, IsCell, IsComputed, standing}
use Rattle.signal_model.specs.Values.{Seen, value_of}
use Rattle.signal_model.proofs.Shared.{value_cell}
use Rattle.effect_model.specs.Runs.{looked_at}
use Rattle.sig_nodes.specs.Answers.{value_here}
use Rattle.sig_computed.specs.Notes.{IsIdle}
use Rattle.sig_computed.specs.Scenes.{Scene, Settles}
use Rattle.effect_runs.specs.Evaluations.{has_value, is_still, IsToldOf}
use Rattle.effect_runs.proofs.Asks.{scratch}
use Rattle.effect_runs.proofs.Names.{same_settled}
use Rattle.effect_runs.proofs.Still.{looked_all, still_settled}

-- what stands is a cell of this value
cell_by : (st : Stands) (v : Value) → value_here st ≡ Some v → (c : Cell) × ((st ≡ IsCell c) × (c.value ≡ v))
cell_by (IsCell c) v h = (c, (refl, some_is c.value v h))
  where
    some_is : (u w : Value) → Some u ≡ Some w → u ≡ w
    some_is u w e = cc
cell_by (IsComputed d) v h = absurd cc
cell_by IsGone v h = absurd cc

pub value_is : (hosts : Hosts) (w : Signals) (n : ℕ) (v : Value) → value_here (standing w n) ≡ Some v → value_of hosts w n [] ≡ Good v
value_is hosts w n v h = let x = cell_by (standing w n) v h in value_cell hosts w n [] x.0 x.1.0 ∙ ap Good x.1.1

-- whether it has another outcome than was read
pub cell_differs : (hosts : Hosts) (w : Signals) (s : Seen) (b : Bool) → IsToldOf w s b → not b ≡ not (same_outcome (value_of hosts w s.name []) s.outcome)
cell_differs hosts w s b t = ap not (t.same ∙ ap (λ o. same_outcome o s.outcome) (sym (value_is hosts w s.name t.value t.stands)))

still : (w : Signals) (n : ℕ) (v : Value) → value_here (standing w n) ≡ Some v → list_all (is_still w) (record { name = n; outcome = Good v } ∷ []) ≡ true
still w n v h =
    ap (λ o. has_value o (Good v) && true) h
    ∙ ap (λ b. b && true) ((same_value-Decides v v).1 refl)

pub cell_settled : (x : Scene) (before : Hosts → Type 0) (n : ℕ) (v : Value) → IsIdle x.graph.state → value_here (standing x.graph.state.signals n) ≡ Some v →
    Settles x x before before (λ _. n ∷ [])
cell_settled x before n v idle h =
    let w : Signals = x.graph.state.signals in
    let ss : List Seen = record { name = n; outcome = Good v } ∷ [] in
    same_settled x x before before (λ hosts. looked_at (scratch hosts x) ss) (λ _. n ∷ []) (still_settled x before ss idle (still w n v h))
    (λ hosts all kept. looked_all hosts w ss (still w n v h))
