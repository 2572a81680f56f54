use Rattle.std.proofs.Common.{ap, List, Option, None}
use Rattle.std.specs.Prelude.{slice_index_or}
use Rattle.sig_store.specs.declared.store.Held.{Held}
use Rattle.sig_store.proofs.Edits.{entries-none, none_placed}
use Rattle.sig_store.proofs.store.Store.with_capacity.Goals as goal

pub invariant_of-result : goal.invariant_of-result
invariant_of-result g c =
    none_placed _ _ (λ n. search) (λ p. ap (λ (ss : List (Option (Held g.row.T.Denot))). slice_index_or ss p None) c.in_ok-held.ensures.empty)

pub returns : goal.returns
returns g c = entries-none _ _
