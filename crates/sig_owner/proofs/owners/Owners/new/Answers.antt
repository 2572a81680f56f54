use Rattle.std.proofs.Common.{ap}
use Rattle.sig_owner.specs.Tables.{rows_of}
use Rattle.sig_owner.specs.Trees.{owned_of}
use Rattle.sig_owner.proofs.owners.Owners.new.Goals as goal

pub returns-clause-tree : goal.returns-clause-tree
unfolding owned_of
returns-clause-tree c = ap (λ hs. owned_of (rows_of hs)) c.new.ensures
