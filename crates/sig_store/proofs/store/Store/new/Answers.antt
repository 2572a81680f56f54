use Rattle.sig_store.proofs.Edits.{entries-none, none_placed}
use Rattle.sig_store.proofs.store.Store.new.Goals as goal

pub invariant_of-result : goal.invariant_of-result
invariant_of-result g c = none_placed _ _ (λ n. search) (λ p. search)

pub returns : goal.returns
returns g c = entries-none _ _
