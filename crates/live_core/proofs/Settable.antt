-- A cell that may be set.
use Rattle.std.proofs.Common.{◌≡◌, ℕ, List, length, None, false, true, refl, ap, ◌∙◌}
use Rattle.signal_model.specs.Signals.{is_computed, is_there, standing}
use Rattle.live_model.specs.declared.names.Kind.TheVariants as kind
use Rattle.live_model.specs.declared.names.Need.TheVariants as need
use Rattle.live_model.specs.Names.{number_of}
use Rattle.live_core.specs.declared.machine.Machine.{Machine}
use Rattle.live_core.specs.Consistency.{is_of_kind, AreMeant}
use Rattle.live_core.proofs.Commands.{cell_is}
use Rattle.live_core.proofs.Rightly.{kind_used, refused_at, used_of}

-- what a name stands for that isn't refused where a cell is needed is no computed, and stands
pub cell_stands : (m : Machine) (n : List ℕ) (cell : ℕ) → AreMeant m.world (length m.templates.items) m.names →
    refused_at m.world m.names n (need.Of kind.Cell) ≡ None → cell ≡ number_of m.names n →
    (is_computed (standing m.world.graph.state.signals cell) ≡ false) × (is_there (standing m.world.graph.state.signals cell) ≡ true)
cell_stands m n cell meant fine same =
    let is = kind_used m.world (length m.templates.items) m.names n kind.Cell refl meant (used_of m.world m.names n kind.Cell fine) in (
      cell_is (standing m.world.graph.state.signals cell) (ap (λ i. is_of_kind kind.Cell (standing m.world.graph.state.signals i)) same ∙ is.1),
      ap (λ i. is_there (standing m.world.graph.state.signals i)) same ∙ is.0.there,
    )
