-- What edits of what stands under numbers make of the nodes.
use Rattle.std.proofs.Common.{◌≡◌, ℕ, zero, suc, true, List, [], ◌∷◌, ◌++◌, length, Option, Some, None, IsSome, IfSome, IfNone, Bor, refl, sym, ap}
use Rattle.std.specs.Prelude.{slice_get, slice_set}
use Rattle.std.specs.Option.{option_copied}
use Rattle.sig_store.specs.Stored.{entry}
use Rattle.sig_nodes.specs.declared.node.Node.{Node}
use Rattle.sig_nodes.specs.declared.node.Body.TheVariants.{Gone}
use Rattle.sig_nodes.specs.Gaps.{node_of, nodes_of}
use Rattle.sig_nodes.specs.Nodes.{body_at, changed_at, gone_node, is_live_body, seat_at}

-- one node for each number
pub nodes_length : (es : List (Option Node)) → length (nodes_of es) ≡ length es
nodes_length [] = refl
nodes_length (e ∷ es) = ap suc (nodes_length es)

-- one is made
pub nodes_push : (es : List (Option Node)) (x : Node) → nodes_of (es ++ Some x ∷ []) ≡ nodes_of es ++ x ∷ []
nodes_push [] x = refl
nodes_push (e ∷ es) x = ap (λ (xs : List Node). node_of e ∷ xs) (nodes_push es x)

-- another stands under a number
pub nodes_set : (es : List (Option Node)) (n : ℕ) (x : Node) → nodes_of (slice_set es n (Some x)) ≡ slice_set (nodes_of es) n x
nodes_set [] n x = refl
nodes_set (e ∷ es) zero x = refl
nodes_set (e ∷ es) (suc n) x = ap (λ (xs : List Node). node_of e ∷ xs) (nodes_set es n x)

-- one is taken out
pub nodes_gone : (es : List (Option Node)) (n : ℕ) → nodes_of (slice_set es n None) ≡ changed_at gone_node n (nodes_of es)
nodes_gone [] n = refl
nodes_gone (e ∷ es) zero = refl
nodes_gone (e ∷ es) (suc n) = ap (λ (xs : List Node). node_of e ∷ xs) (nodes_gone es n)

-- what stands is a node
pub node_stands : (es : List (Option Node)) (n : ℕ) (x : Node) → entry es n ≡ Some x → slice_get (nodes_of es) n ≡ Some x
node_stands [] n x h = cc
node_stands (e ∷ es) zero x h = ap (λ o. Some (node_of o)) h
node_stands (e ∷ es) (suc n) x h = node_stands es n x h

-- where nothing stands nothing lives
pub nobody_stands : (es : List (Option Node)) (n : ℕ) → entry es n ≡ None → body_at (nodes_of es) n ≡ Gone
nobody_stands [] n h = refl
nobody_stands (e ∷ es) zero h = ap (λ o. (node_of o).body) h
nobody_stands (e ∷ es) (suc n) h = nobody_stands es n h

-- and the seat is no seat
pub no_seat : (es : List (Option Node)) (n : ℕ) → entry es n ≡ None → seat_at (nodes_of es) n ≡ 0
no_seat [] n h = refl
no_seat (e ∷ es) zero h = ap (λ o. (node_of o).seat) h
no_seat (e ∷ es) (suc n) h = no_seat es n h

-- what lives stands
pub live_stands : (es : List (Option Node)) (n : ℕ) → is_live_body (body_at (nodes_of es) n) ≡ true → IsSome (entry es n)
live_stands [] n h = cc
live_stands (None ∷ es) zero h = cc
live_stands (Some x ∷ es) zero h = refl
live_stands (e ∷ es) (suc n) h = live_stands es n h

-- a look at a number finds the node that stands there
pub found_standing : (es : List (Option Node)) (n : ℕ) (o : Option (Bor Node)) → option_copied o ≡ entry es n → IfSome o (λ x. slice_get (nodes_of es) n ≡ Some x.now)
found_standing es n None h = tt
found_standing es n (Some x) h = node_stands es n x.now (sym h)

-- where it finds none nothing lives
pub found_nobody : (es : List (Option Node)) (n : ℕ) (o : Option (Bor Node)) → option_copied o ≡ entry es n → IfNone o (body_at (nodes_of es) n ≡ Gone)
found_nobody es n None h = nobody_stands es n (sym h)
found_nobody es n (Some x) h = tt

-- and nobody sits
pub found_unseated : (es : List (Option Node)) (n : ℕ) (o : Option (Bor Node)) → option_copied o ≡ entry es n → IfNone o (seat_at (nodes_of es) n ≡ 0)
found_unseated es n None h = no_seat es n (sym h)
found_unseated es n (Some x) h = tt
