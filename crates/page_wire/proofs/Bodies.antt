-- Bodies that are no note's.
use Rattle.std.proofs.Common.{◌≡◌, ℕ, List, ◌∷◌, ◌++◌, length, arith}
use Rattle.page_model.specs.Replay.{Op}
use Rattle.page_model.specs.Texts.{op_text}
use Rattle.page_ops.specs.Ops.{HasText}
use Rattle.wire_model.specs.Notes.{gone, mount, op, ready}
use Rattle.wire_model.specs.Streams.{IsNoBody}
use Rattle.page_wire.proofs.OneFrame.{heads, named}

pub no_op : (n r : List ℕ) → ((o : Op) → HasText o → op_text o ≡ r → ⊥) → IsNoBody (2 ∷ length n ∷ (n ++ r))
no_op n r bad (op m o) good e = bad o good.1 (named 2 2 m n (op_text o) r e).1
no_op n r bad (mount m) good e = let h : 1 ≡ 2 = heads _ _ _ _ e in omega (arith, h)
no_op n r bad (ready m) good e = let h : 3 ≡ 2 = heads _ _ _ _ e in omega (arith, h)
no_op n r bad (gone m) good e = let h : 4 ≡ 2 = heads _ _ _ _ e in omega (arith, h)
