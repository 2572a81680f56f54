-- What an edit of one node means for the state.
use Rattle.std.proofs.Common.{◌≡◌, ℕ, ◌+◌, true, List, [], ◌∷◌, ◌++◌, append-nil, length, map, Option, None, refl, sym, ap, ◌∙◌, if◌then◌else◌}
use Rattle.sig_base.specs.declared.value.Value.{Value}
use Rattle.sig_base.specs.declared.value.Outcome.{Outcome}
use Rattle.sig_base.specs.declared.value.Known.{Known}
use Rattle.signal_model.specs.Recipes.{Recipe}
use Rattle.signal_model.specs.Signals.{Cell, Computed, changed, without}
use Rattle.signal_model.specs.Memos.{Memo, Entry, named_now}
use Rattle.signal_model.specs.Settling.{has_outcome, ran_entry}
use Rattle.signal_model.specs.Changes.{raised, entry_rewired}
use Rattle.sig_nodes.specs.declared.node.Node.{Node}
use Rattle.sig_nodes.specs.declared.node.Body.{Body}
use Rattle.sig_nodes.specs.declared.node.Body.TheVariants.{Gone, Cell as CellBody, Computed as ComputedBody}
use Rattle.sig_graph.specs.States.{State, Progress, with_disposal, with_kept_run, with_progress, with_rewiring, with_set}
use Rattle.sig_graph.specs.Parts.{cell_part, computed_part, entry_part, progress_part, cells_of, computeds_of, entries_of, progress_of, memos_of, state_of, with_new}
use Rattle.sig_nodes.specs.Nodes.{body_at, changed_at, is_computed_body, memo_body, with_body_value, with_body_memo, with_body_recipe, with_body_known, set_node, run_node, rewired_node, known_node, gone_node, new_node, IsFresh}
use Rattle.sig_graph.proofs.Parts.{parts-push, parts-same, parts-changed, parts-without, cells_named, computeds_named, entries_named, progress_named, zeroed}
use Rattle.sig_nodes.proofs.Shared.{body_got, memo_made}

-- ---- states

abbrev stated : List Cell → List Computed → List Entry → List Progress → ℕ → ℕ → ℕ → State
stated cs ds es ps g l w = record {
  signals = record { cells = cs; computeds = ds };
  memos = record { generation = g; entries = es };
  progress = ps;
  looked = l;
  worn = w;
}

same_state : {cs cs' : List Cell} {ds ds' : List Computed} {es es' : List Entry} {ps ps' : List Progress} (g l w : ℕ) → cs ≡ cs' → ds ≡ ds' → es ≡ es' → ps ≡ ps' →
    stated cs ds es ps g l w ≡ stated cs' ds' es' ps' g l w
same_state g l w a b c d = λ i. stated (a i) (b i) (c i) (d i) g l w

-- a set
pub set_state : (xs : List Node) (n : ℕ) (v : Value) (g l w : ℕ) → state_of (changed_at (set_node v) n xs) (g + 1) l (w + 1) ≡ with_set (state_of xs g l w) n v
set_state xs n v g l w = same_state (g + 1) l (w + 1)
    (parts-changed (λ (c : Cell). c.name) (λ k x. cell_part k x.body) 0 n (set_node v) (λ c. record c { value = v }) xs cells_named (λ x e. cells x.body)
    ∙ ap (λ k. changed (λ (c : Cell). c.name) k (λ c. record c { value = v }) (cells_of xs)) (zeroed n))
    (parts-same (λ k x. computed_part k x.body) 0 n (set_node v) xs (λ x e. computeds x.body))
    (parts-changed (λ (e : Entry). e.name) (λ k x. entry_part k x.number x.body) 0 n (set_node v) raised xs entries_named (λ x e. entries x.number x.body)
    ∙ ap (λ k. changed (λ (e : Entry). e.name) k raised (entries_of xs)) (zeroed n))
    (parts-same (λ k x. progress_part k x.body) 0 n (set_node v) xs (λ x e. progress x.body))
  where
    cells : (b : Body) → cell_part (0 + n) (with_body_value b v) ≡ map (λ (c : Cell). record c { value = v }) (cell_part (0 + n) b)
    cells Gone = refl
    cells (CellBody u r) = refl
    cells (ComputedBody c) = refl

    computeds : (b : Body) → computed_part (0 + n) (with_body_value b v) ≡ computed_part (0 + n) b
    computeds Gone = refl
    computeds (CellBody u r) = refl
    computeds (ComputedBody c) = refl

    entries : (m : ℕ) (b : Body) → entry_part (0 + n) (m + 1) (with_body_value b v) ≡ map raised (entry_part (0 + n) m b)
    entries m Gone = refl
    entries m (CellBody u r) = refl
    entries m (ComputedBody c) = refl

    progress : (b : Body) → progress_part (0 + n) (with_body_value b v) ≡ progress_part (0 + n) b
    progress Gone = refl
    progress (CellBody u r) = refl
    progress (ComputedBody c) = refl

pub run_state : (xs : List Node) (n : ℕ) (o : Outcome) (reads : List ℕ) (g l w : ℕ) → is_computed_body (body_at xs n) ≡ true →
    state_of (changed_at (run_node (memo_made o (map (named_now (memos_of g xs)) reads) g)) n xs) g l (w + 1) ≡ with_kept_run (state_of xs g l w) n o reads
run_state xs n o reads g l w live = same_state g l (w + 1)
    (parts-same (λ k x. cell_part k x.body) 0 n (run_node memo) xs (λ x e. cells x.body))
    (parts-same (λ k x. computed_part k x.body) 0 n (run_node memo) xs (λ x e. computeds x.body))
    (parts-changed (λ (e : Entry). e.name) (λ k x. entry_part k x.number x.body) 0 n (run_node memo) (ran_entry memo) xs entries_named (λ x e. entries x.number x.body (ap is_computed_body (sym (body_got xs n x e)) ∙ live))
    ∙ ap (λ k. changed (λ (e : Entry). e.name) k (ran_entry memo) (entries_of xs)) (zeroed n))
    (parts-changed (λ (p : Progress). p.name) (λ k x. progress_part k x.body) 0 n (run_node memo) (λ p. record p { known = None }) xs progress_named (λ x e. progress x.body)
    ∙ ap (λ k. changed (λ (p : Progress). p.name) k (λ p. record p { known = None }) (progress_of xs)) (zeroed n))
  where
    memo : Memo
    memo = memo_made o (map (named_now (memos_of g xs)) reads) g

    cells : (b : Body) → cell_part (0 + n) (with_body_memo b memo) ≡ cell_part (0 + n) b
    cells Gone = refl
    cells (CellBody u r) = refl
    cells (ComputedBody c) = refl

    computeds : (b : Body) → computed_part (0 + n) (with_body_memo b memo) ≡ computed_part (0 + n) b
    computeds Gone = refl
    computeds (CellBody u r) = refl
    computeds (ComputedBody c) = refl

    entries : (m : ℕ) (b : Body) → is_computed_body b ≡ true →
        entry_part (0 + n) (m + (if has_outcome (memo_body b) memo.outcome then 0 else 1)) (with_body_memo b memo) ≡ map (ran_entry memo) (entry_part (0 + n) m b)
    entries m Gone h = cc
    entries m (CellBody u r) h = cc
    entries m (ComputedBody c) h = refl

    progress : (b : Body) → progress_part (0 + n) (with_body_memo b memo) ≡ map (λ (p : Progress). record p { known = None }) (progress_part (0 + n) b)
    progress Gone = refl
    progress (CellBody u r) = refl
    progress (ComputedBody c) = refl

-- a rewiring
pub rewired_state : (xs : List Node) (n : ℕ) (r : Recipe) (g l w : ℕ) → state_of (changed_at (rewired_node r) n xs) (g + 1) l (w + 1) ≡ with_rewiring (state_of xs g l w) n r
rewired_state xs n r g l w = same_state (g + 1) l (w + 1)
    (parts-same (λ k x. cell_part k x.body) 0 n (rewired_node r) xs (λ x e. cells x.body))
    (parts-changed (λ (c : Computed). c.name) (λ k x. computed_part k x.body) 0 n (rewired_node r) (λ c. record c { recipe = r }) xs computeds_named (λ x e. computeds x.body)
    ∙ ap (λ k. changed (λ (c : Computed). c.name) k (λ c. record c { recipe = r }) (computeds_of xs)) (zeroed n))
    (parts-changed (λ (e : Entry). e.name) (λ k x. entry_part k x.number x.body) 0 n (rewired_node r) entry_rewired xs entries_named (λ x e. entries x.number x.body)
    ∙ ap (λ k. changed (λ (e : Entry). e.name) k entry_rewired (entries_of xs)) (zeroed n))
    (parts-same (λ k x. progress_part k x.body) 0 n (rewired_node r) xs (λ x e. progress x.body))
  where
    cells : (b : Body) → cell_part (0 + n) (with_body_recipe b r) ≡ cell_part (0 + n) b
    cells Gone = refl
    cells (CellBody u q) = refl
    cells (ComputedBody c) = refl

    computeds : (b : Body) → computed_part (0 + n) (with_body_recipe b r) ≡ map (λ (c : Computed). record c { recipe = r }) (computed_part (0 + n) b)
    computeds Gone = refl
    computeds (CellBody u q) = refl
    computeds (ComputedBody c) = refl

    entries : (m : ℕ) (b : Body) → entry_part (0 + n) (m + 1) (with_body_recipe b r) ≡ map entry_rewired (entry_part (0 + n) m b)
    entries m Gone = refl
    entries m (CellBody u q) = refl
    entries m (ComputedBody c) = refl

    progress : (b : Body) → progress_part (0 + n) (with_body_recipe b r) ≡ progress_part (0 + n) b
    progress Gone = refl
    progress (CellBody u q) = refl
    progress (ComputedBody c) = refl

-- a step of an evaluation
pub known_state : (xs : List Node) (n : ℕ) (k : Option (List Known)) (g l w : ℕ) → state_of (changed_at (known_node k) n xs) g l w ≡ with_progress (state_of xs g l w) n k
known_state xs n k g l w = same_state g l w
    (parts-same (λ i x. cell_part i x.body) 0 n (known_node k) xs (λ x e. cells x.body))
    (parts-same (λ i x. computed_part i x.body) 0 n (known_node k) xs (λ x e. computeds x.body))
    (parts-same (λ i x. entry_part i x.number x.body) 0 n (known_node k) xs (λ x e. entries x.number x.body))
    (parts-changed (λ (p : Progress). p.name) (λ i x. progress_part i x.body) 0 n (known_node k) (λ p. record p { known = k }) xs progress_named (λ x e. progress x.body)
    ∙ ap (λ i. changed (λ (p : Progress). p.name) i (λ p. record p { known = k }) (progress_of xs)) (zeroed n))
  where
    cells : (b : Body) → cell_part (0 + n) (with_body_known b k) ≡ cell_part (0 + n) b
    cells Gone = refl
    cells (CellBody u q) = refl
    cells (ComputedBody c) = refl

    computeds : (b : Body) → computed_part (0 + n) (with_body_known b k) ≡ computed_part (0 + n) b
    computeds Gone = refl
    computeds (CellBody u q) = refl
    computeds (ComputedBody c) = refl

    entries : (m : ℕ) (b : Body) → entry_part (0 + n) m (with_body_known b k) ≡ entry_part (0 + n) m b
    entries m Gone = refl
    entries m (CellBody u q) = refl
    entries m (ComputedBody c) = refl

    progress : (b : Body) → progress_part (0 + n) (with_body_known b k) ≡ map (λ (p : Progress). record p { known = k }) (progress_part (0 + n) b)
    progress Gone = refl
    progress (CellBody u q) = refl
    progress (ComputedBody c) = refl

-- a disposal
pub gone_state : (xs : List Node) (n g l w : ℕ) → state_of (changed_at gone_node n xs) (g + 1) l (w + 1) ≡ with_disposal (state_of xs g l w) n
gone_state xs n g l w = same_state (g + 1) l (w + 1)
    (parts-without (λ (c : Cell). c.name) (λ k x. cell_part k x.body) 0 n gone_node xs cells_named (λ k x. refl) ∙ ap (λ k. without (λ (c : Cell). c.name) k (cells_of xs)) (zeroed n))
    (parts-without (λ (c : Computed). c.name) (λ k x. computed_part k x.body) 0 n gone_node xs computeds_named (λ k x. refl) ∙ ap (λ k. without (λ (c : Computed). c.name) k (computeds_of xs)) (zeroed n))
    (parts-without (λ (e : Entry). e.name) (λ k x. entry_part k x.number x.body) 0 n gone_node xs entries_named (λ k x. refl) ∙ ap (λ k. without (λ (e : Entry). e.name) k (entries_of xs)) (zeroed n))
    (parts-without (λ (p : Progress). p.name) (λ k x. progress_part k x.body) 0 n gone_node xs progress_named (λ k x. refl) ∙ ap (λ k. without (λ (p : Progress). p.name) k (progress_of xs)) (zeroed n))

-- a making
pub new_state : (xs : List Node) (seat : ℕ) (b : Body) (g l w : ℕ) → IsFresh b → state_of (xs ++ new_node seat b ∷ []) g l (w + 1) ≡ with_new (state_of xs g l w) (length xs) b
new_state xs seat b g l w fresh =
    same_state g l (w + 1) (parts-push (λ k x. cell_part k x.body) 0 xs y ∙ ap (λ k. cells_of xs ++ cell_part k b) (zeroed (length xs)))
    (parts-push (λ k x. computed_part k x.body) 0 xs y ∙ ap (λ k. computeds_of xs ++ computed_part k b) (zeroed (length xs)))
    (parts-push (λ k x. entry_part k x.number x.body) 0 xs y ∙ ap (λ k. entries_of xs ++ entry_part k 0 b) (zeroed (length xs)))
    (parts-push (λ k x. progress_part k x.body) 0 xs y ∙ ap (λ k. progress_of xs ++ progress_part k b) (zeroed (length xs)))
    ∙ go b fresh
  where
    y : Node
    y = new_node seat b

    go : (d : Body) → IsFresh d →
        stated (cells_of xs ++ cell_part (length xs) d) (computeds_of xs ++ computed_part (length xs) d) (entries_of xs ++ entry_part (length xs) 0 d) (progress_of xs ++ progress_part (length xs) d) g l (w + 1)
        ≡ with_new (state_of xs g l w) (length xs) d
    go Gone f = absurd f
    go (CellBody v r) f = same_state g l (w + 1) refl (append-nil _) refl (append-nil _)
    go (ComputedBody c) f = same_state g l (w + 1) (append-nil _) refl
        (ap (λ m. entries_of xs ++ record { name = length xs; number = 0; memo = m } ∷ []) f.0) (ap (λ k. progress_of xs ++ record { name = length xs; known = k } ∷ []) f.1)
