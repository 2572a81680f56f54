-- Worked examples of the bound: the diamond, after its second set.
use Rattle.std.specs.Prelude.{◌≡◌, [], ◌∷◌, ◌++◌}
use Rattle.std.proofs.Common.{refl}
use Rattle.signal_model.specs.Examples.{Graph, odd_hosts, acts, empty, diamond, get}
use Rattle.sig_computed.specs.Costs.{step_bound}
use Rattle.sig_computed.specs.Skips.{passing_begun}
use Rattle.sig_computed.specs.SkipLaws.{passing_times}

-- the diamond after its second set
abbrev changed : Graph
changed = acts diamond empty

-- and once its last computed was asked for
abbrev settled : Graph
settled = acts (diamond ++ get 3 ∷ []) empty

-- one for the name, fifteen for the three computeds that aren't clean, and fifteen for their runs
pub diamond_bound : step_bound odd_hosts changed.signals changed.memos (3 ∷ []) ≡ 31
diamond_bound = refl

-- asked for again, it is one look
pub again_bound : step_bound odd_hosts settled.signals settled.memos (3 ∷ []) ≡ 1
again_bound = refl

-- so many steps the loop counts
pub diamond_counts : (passing_times 40 odd_hosts changed.signals (passing_begun changed.memos (3 ∷ []))).looked ≡ 16
diamond_counts = refl

-- and so many where it is asked for again
pub again_counts : (passing_times 40 odd_hosts settled.signals (passing_begun settled.memos (3 ∷ []))).looked ≡ 1
again_counts = refl
