-- What lives in a node, by what is known of it.
use Rattle.std.proofs.Common.{◌≡◌, ℕ, true, false, List, None, refl}
use Rattle.std.specs.Prelude.{is_some}
use Rattle.sig_base.specs.declared.value.Known.{Known}
use Rattle.sig_nodes.specs.declared.node.Node.{Node}
use Rattle.sig_nodes.specs.declared.node.Body.{Body}
use Rattle.sig_nodes.specs.declared.node.Body.TheVariants.{Gone, Cell as CellBody, Computed as ComputedBody}
use Rattle.sig_nodes.specs.Nodes.{body_at, is_live_body, is_cell_body, is_computed_body, memo_body, known_body}
use Rattle.sig_nodes.specs.Computations.{GoesOn}

pub computed_live : (b : Body) → is_computed_body b ≡ true → is_live_body b ≡ true
computed_live Gone h = h
computed_live (CellBody v r) h = refl
computed_live (ComputedBody c) h = refl

pub cell_live : (b : Body) → is_cell_body b ≡ true → is_live_body b ≡ true
cell_live Gone h = h
cell_live (CellBody v r) h = refl
cell_live (ComputedBody c) h = refl

-- an evaluation that goes on is of a signal that lives
pub asked_live : (b : Body) (known : List Known) → GoesOn (known_body b) known → is_live_body b ≡ true
asked_live Gone known h = absurd h
asked_live (CellBody v r) known h = absurd h
asked_live (ComputedBody c) known h = refl

-- what is no computed keeps nothing
pub keeps_nothing : (xs : List Node) (n : ℕ) → is_computed_body (body_at xs n) ≡ false → memo_body (body_at xs n) ≡ None
keeps_nothing xs n = go (body_at xs n)
  where
    go : (b : Body) → is_computed_body b ≡ false → memo_body b ≡ None
    go Gone h = refl
    go (CellBody v r) h = refl
    go (ComputedBody c) h = cc

-- what keeps a run lives
pub kept_live : (b : Body) → is_some (memo_body b) ≡ true → is_live_body b ≡ true
kept_live Gone h = h
kept_live (CellBody v r) h = refl
kept_live (ComputedBody c) h = refl
