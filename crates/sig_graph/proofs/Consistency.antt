-- What holds of a graph's fields after each edit.
use Rattle.std.proofs.Common.{◌≡◌, ℕ, zero, suc, ◌+◌, ◌<◌, ◌≤◌, ◌==◌, ◌||◌, ◌&&◌, Bool, true, false, cond, List, [], ◌∷◌, ◌++◌, length-append, length, Option, Some, None, refl, sym, ap, ◌∙◌, subst, arith, if◌then◌else◌, inl, inr, true≢false}
use Rattle.std.specs.Prelude.{slice_set, get_or, nat_lt, is_some}
use Rattle.std.specs.List.{All}
use Rattle.std.proofs.lemmas.Bool.{eqb-true, eq-eqb}
use Rattle.std.proofs.lemmas.Bool.Decides.{nat_tests}
use Rattle.sig_base.specs.declared.limits.TheConstants.{MOST_NODES}
use Rattle.sig_base.specs.declared.value.Known.{Known}
use Rattle.sig_base.specs.declared.value.Value.{Value}
use Rattle.signal_model.specs.Recipes.{Recipe}
use Rattle.signal_model.specs.Changes.{memo_rewired}
use Rattle.signal_model.specs.Settling.{has_outcome}
use Rattle.signal_model.specs.Signals.{Cell, Computed, IsComputed, is_computed, is_in, is_there, standing, is_cell}
use Rattle.signal_model.specs.Memos.{Memo, source_names, sources_in}
use Rattle.sig_nodes.specs.declared.node.Node.{Node}
use Rattle.sig_nodes.specs.declared.node.Body.{Body}
use Rattle.sig_nodes.specs.declared.node.Body.TheVariants.{Gone, Cell as CellBody, Computed as ComputedBody}
use Rattle.sig_graph.specs.States.{State, Seen, Becomes, Makes, are_there, is_given}
use Rattle.signal_model.specs.Kept.{AreGiven}
use Rattle.sig_seats.specs.Seats.{AreAllSeated, Seating, holder, with_left, with_taken}
use Rattle.sig_graph.specs.Places.{seen, NodesAgree}
use Rattle.sig_nodes.specs.Nodes.{are_live_bodies, body_at, change_at, seat_at, changed_at, is_live_body, is_cell_body, is_computed_body, memo_body, known_body, slots_body, stands_of, gone_node, known_node, new_node, rewired_node, run_node, set_node, with_body_known, with_body_memo, with_body_recipe, with_body_value, FewSlotsBody, IsFresh}
use Rattle.sig_graph.specs.Parts.{parts, cell_part, computed_part, signals_of, memos_of, state_of}
use Rattle.sig_nodes.specs.Answers.{HasFewSlots}
use Rattle.sig_graph.specs.HostUse.{HaveFewSlots}
use Rattle.sig_graph.proofs.Parts.{stands, memo_found}
use Rattle.sig_nodes.proofs.Shared.{body_changed, changed_length, seat_other, seat_stays, computed_live, cell_live}
use Rattle.sig_seats.proofs.Shared.{held_inside, holder_set, set_size}
use Rattle.signal_model.proofs.Shared.{tested}

pub and_left : (a b : Bool) → (a && b) ≡ true → a ≡ true
and_left true b h = refl
and_left false b h = h

-- ---- places

pub live_below : (xs : List Node) (n : ℕ) → is_live_body (body_at xs n) ≡ true → n < length xs
live_below [] n h = absurd (true≢false (sym h))
live_below (x ∷ xs) zero h = omega arith
live_below (x ∷ xs) (suc n) h = omega (arith, live_below xs n h)

pub computed_below : (xs : List Node) (n : ℕ) → is_computed_body (body_at xs n) ≡ true → n < length xs
computed_below xs n h = live_below xs n (computed_live (body_at xs n) h)

pub cell_below : (xs : List Node) (n : ℕ) → is_cell_body (body_at xs n) ≡ true → n < length xs
cell_below xs n h = live_below xs n (cell_live (body_at xs n) h)

-- what lives at a place, by what stands there
pub live_here : (xs : List Node) (n : ℕ) → is_there (standing (signals_of xs) n) ≡ is_live_body (body_at xs n)
live_here xs n = ap is_there (stands xs n) ∙ go (body_at xs n)
  where
    go : (b : Body) → is_there (stands_of n b) ≡ is_live_body b
    go Gone = refl
    go (CellBody v r) = refl
    go (ComputedBody c) = refl

pub computed_here : (xs : List Node) (n : ℕ) → is_computed (standing (signals_of xs) n) ≡ true → is_computed_body (body_at xs n) ≡ true
computed_here xs n h = go (body_at xs n) (sym (ap is_computed (stands xs n)) ∙ h)
  where
    go : (b : Body) → is_computed (stands_of n b) ≡ true → is_computed_body b ≡ true
    go Gone q = q
    go (CellBody v r) q = q
    go (ComputedBody c) q = refl

pub cell_here : (xs : List Node) (n : ℕ) → is_cell (standing (signals_of xs) n) ≡ true → is_cell_body (body_at xs n) ≡ true
cell_here xs n h = go (body_at xs n) (sym (ap is_cell (stands xs n)) ∙ h)
  where
    go : (b : Body) → is_cell (stands_of n b) ≡ true → is_cell_body b ≡ true
    go Gone q = q
    go (CellBody v r) q = refl
    go (ComputedBody c) q = q

-- what lives and is no cell is a computed
pub computed_left : (xs : List Node) (n : ℕ) → is_live_body (body_at xs n) ≡ true → is_cell (standing (signals_of xs) n) ≡ false → is_computed_body (body_at xs n) ≡ true
computed_left xs n live kind = go (body_at xs n) live (sym (ap is_cell (stands xs n)) ∙ kind)
  where
    go : (b : Body) → is_live_body b ≡ true → is_cell (stands_of n b) ≡ false → is_computed_body b ≡ true
    go Gone p q = p
    go (CellBody v r) p q = absurd (true≢false q)
    go (ComputedBody c) p q = refl

-- all of these live
pub all_here : (xs : List Node) (ns : List ℕ) → are_there (signals_of xs) ns ≡ are_live_bodies xs ns
all_here xs [] = refl
all_here xs (n ∷ ns) = ap (λ b. b && are_there (signals_of xs) ns) (live_here xs n) ∙ ap (λ b. is_live_body (body_at xs n) && b) (all_here xs ns)

-- what is computing is a computed
pub computing_here : (b : Body) → is_some (known_body b) ≡ true → is_computed_body b ≡ true
computing_here Gone h = h
computing_here (CellBody v r) h = h
computing_here (ComputedBody c) h = refl

-- ---- how many live

abbrev one_if : Bool → ℕ
one_if b = if b then 1 else 0

-- the number of nodes in which something lives
abbrev live_nodes : List Node → ℕ
live_nodes [] = 0
live_nodes (x ∷ xs) = one_if (is_live_body x.body) + live_nodes xs

abbrev counted_from : ℕ → List Node → ℕ
counted_from k xs = length (parts (λ n x. cell_part n x.body) k xs) + length (parts (λ n x. computed_part n x.body) k xs)

counted : (k : ℕ) (xs : List Node) → counted_from k xs ≡ live_nodes xs
counted k [] = refl
counted k (x ∷ xs) = go x.body (counted (k + 1) xs)
  where
    cs : List Cell
    cs = parts (λ n z. cell_part n z.body) (k + 1) xs

    ds : List Computed
    ds = parts (λ n z. computed_part n z.body) (k + 1) xs

    go : (b : Body) → length cs + length ds ≡ live_nodes xs → length (cell_part k b ++ cs) + length (computed_part k b ++ ds) ≡ one_if (is_live_body b) + live_nodes xs
    go Gone h = omega (arith, h)
    go (CellBody v r) h = omega (arith, h)
    go (ComputedBody c) h = omega (arith, h)

live_changed : (g : Node → Node) (n : ℕ) (xs : List Node) → ((x : Node) → is_live_body (g x).body ≡ is_live_body x.body) → live_nodes (changed_at g n xs) ≡ live_nodes xs
live_changed g n [] h = refl
live_changed g zero (x ∷ xs) h = ap (λ b. one_if b + live_nodes xs) (h x)
live_changed g (suc n) (x ∷ xs) h = ap (λ k. one_if (is_live_body x.body) + k) (live_changed g n xs h)

live_gone : (n : ℕ) (xs : List Node) → is_live_body (body_at xs n) ≡ true → live_nodes (changed_at gone_node n xs) + 1 ≡ live_nodes xs
live_gone n [] h = absurd (true≢false (sym h))
live_gone zero (x ∷ xs) h = let e : one_if (is_live_body x.body) ≡ one_if true = ap one_if h in omega (arith, e)
live_gone (suc n) (x ∷ xs) h = let e : live_nodes (changed_at gone_node n xs) + 1 ≡ live_nodes xs = live_gone n xs h in omega (arith, e)

live_more : (xs : List Node) (y : Node) → live_nodes (xs ++ y ∷ []) ≡ live_nodes xs + one_if (is_live_body y.body)
live_more [] y = omega arith
live_more (x ∷ xs) y = let e : live_nodes (xs ++ y ∷ []) ≡ live_nodes xs + one_if (is_live_body y.body) = live_more xs y in omega (arith, e)

-- where a signal lives, not all seats are free
pub seats_taken : (xs : List Node) (t : Seating) (gen w n : ℕ) → is_live_body (body_at xs n) ≡ true → NodesAgree xs t gen w → t.free < MOST_NODES
seats_taken xs t gen w n live h =
    let a : live_nodes (changed_at gone_node n xs) + 1 ≡ live_nodes xs = live_gone n xs live in
    let d : counted_from 0 xs ≡ live_nodes xs = counted 0 xs in
    let r : counted_from 0 xs + t.free ≡ MOST_NODES = h.room in
    omega (arith, a, d, r)

-- ---- edits

-- An edit of one node that leaves its seat, and whether something lives in it. Its number rises by at most r.
pub record IsEdit (g : Node → Node) (f : Body → Body) (r : ℕ) : Type 0 where
  pub body : (x : Node) → (g x).body ≡ f x.body
  pub seat : (x : Node) → (g x).seat ≡ x.seat
  pub number : (x : Node) → (g x).number ≤ x.number + r
  pub gone : f Gone ≡ Gone
  pub live : (b : Body) → is_live_body (f b) ≡ is_live_body b

change_risen : (g : Node → Node) (r n m : ℕ) (xs : List Node) → ((x : Node) → (g x).number ≤ x.number + r) → change_at (changed_at g n xs) m ≤ change_at xs m + r
change_risen g r n m [] h = omega arith
change_risen g r zero zero (x ∷ xs) h = h x
change_risen g r zero (suc m) (x ∷ xs) h = omega arith
change_risen g r (suc n) zero (x ∷ xs) h = omega arith
change_risen g r (suc n) (suc m) (x ∷ xs) h = change_risen g r n m xs h

pub edit_holds : (g : Node → Node) (f : Body → Body) (r n : ℕ) (xs : List Node) (t : Seating) (gen gen' w : ℕ) → IsEdit g f r → gen' ≤ gen + r →
    ((m : ℕ) → is_in m (source_names (sources_in (memo_body (f (body_at xs n))))) ≡ true → m < length xs) →
    ((m : ℕ) → is_in m (slots_body (f (body_at xs n))) ≡ true → m < length xs) → FewSlotsBody (f (body_at xs n)) → NodesAgree xs t gen w → NodesAgree (changed_at g n xs) t gen' (w + r)
edit_holds g f r n xs t gen gen' w e later sources slots few h = record {
  numbers = λ m. let a : change_at (changed_at g n xs) m ≤ change_at xs m + r = change_risen g r n m xs e.number in let b : change_at xs m ≤ w = h.numbers m in omega (arith, a, b);
  current = let a : gen ≤ w = h.current in omega (arith, a, later);
  made = let a : length xs ≤ w = h.made in let l : length (changed_at g n xs) ≡ length xs = changed_length g n xs in omega (arith, a, l);
  sources = λ k m q. subst (λ z. m < z) (sym (changed_length g n xs)) (by_sources k m (n == k) refl (sym (ap (λ b. is_in m (source_names (sources_in (memo_body b)))) (at k)) ∙ q));
  slots = λ k m q. subst (λ z. m < z) (sym (changed_length g n xs)) (by_slots k m (n == k) refl (sym (ap (λ b. is_in m (slots_body b)) (at k)) ∙ q));
  few = λ k. subst FewSlotsBody (sym (at k)) (by_few k (n == k) refl);
  seated = λ k q. ap (holder t.holders) (seat_stays g n k xs e.seat) ∙ h.seated k (sym (alive k) ∙ q);
  living = λ s k q. let a : (is_live_body (body_at xs k) ≡ true) × (seat_at xs k ≡ s) = h.living s k q in (alive k ∙ a.0, seat_stays g n k xs e.seat ∙ a.1);
  room =
      let a : counted_from 0 (changed_at g n xs) ≡ counted_from 0 xs = counted 0 (changed_at g n xs) ∙ live_changed g n xs (λ x. ap is_live_body (e.body x) ∙ e.live x.body) ∙ sym (counted 0 xs) in
      ap (λ z. z + t.free) a ∙ h.room;
  size = h.size;
}
  where
    at : (k : ℕ) → body_at (changed_at g n xs) k ≡ (if n == k then f (body_at xs k) else body_at xs k)
    at k = body_changed g f n k xs e.body e.gone

    alive : (k : ℕ) → is_live_body (body_at (changed_at g n xs) k) ≡ is_live_body (body_at xs k)
    alive k = ap is_live_body (at k) ∙ go (n == k)
      where
        go : (b : Bool) → is_live_body (if b then f (body_at xs k) else body_at xs k) ≡ is_live_body (body_at xs k)
        go true = e.live (body_at xs k)
        go false = refl

    by_sources : (k m : ℕ) (b : Bool) → (n == k) ≡ b → is_in m (source_names (sources_in (memo_body (if b then f (body_at xs k) else body_at xs k)))) ≡ true → m < length xs
    by_sources k m true q on = sources m (ap (λ z. is_in m (source_names (sources_in (memo_body (f (body_at xs z)))))) (eqb-true n k q) ∙ on)
    by_sources k m false q on = h.sources k m on

    by_slots : (k m : ℕ) (b : Bool) → (n == k) ≡ b → is_in m (slots_body (if b then f (body_at xs k) else body_at xs k)) ≡ true → m < length xs
    by_slots k m true q on = slots m (ap (λ z. is_in m (slots_body (f (body_at xs z)))) (eqb-true n k q) ∙ on)
    by_slots k m false q on = h.slots k m on

    by_few : (k : ℕ) (b : Bool) → (n == k) ≡ b → FewSlotsBody (if b then f (body_at xs k) else body_at xs k)
    by_few k true q = subst (λ z. FewSlotsBody (f (body_at xs z))) (eqb-true n k q) few
    by_few k false q = h.few k

-- ---- each of them

pub in_all : (ds : List ℕ) (n m : ℕ) → All (λ d. d < n) ds → is_in m ds ≡ true → m < n
in_all [] n m h on = absurd (true≢false (sym on))
in_all (d ∷ ds) n m h on = go (m == d) refl on (in_all ds n m (λ k e l. h (suc k) e (omega (arith, l))))
  where
    go : (b : Bool) → (m == d) ≡ b → (b || is_in m ds) ≡ true → (is_in m ds ≡ true → m < n) → m < n
    go true e q r = let z : 0 < suc (length ds) = omega arith in subst (λ x. x < n) (sym (eqb-true m d e)) (h 0 0 z)
    go false e q r = r q

-- what no run and no rewiring changes of a body
same_sources : (f : Body → Body) (xs : List Node) (n : ℕ) (t : Seating) (gen w : ℕ) → source_names (sources_in (memo_body (f (body_at xs n)))) ≡ source_names (sources_in (memo_body (body_at xs n))) → NodesAgree xs t gen w →
    (m : ℕ) → is_in m (source_names (sources_in (memo_body (f (body_at xs n))))) ≡ true → m < length xs
same_sources f xs n t gen w e h m q = h.sources n m (ap (is_in m) (sym e) ∙ q)

same_slots : (f : Body → Body) (xs : List Node) (n : ℕ) (t : Seating) (gen w : ℕ) → slots_body (f (body_at xs n)) ≡ slots_body (body_at xs n) → NodesAgree xs t gen w →
    (m : ℕ) → is_in m (slots_body (f (body_at xs n))) ≡ true → m < length xs
same_slots f xs n t gen w e h m q = h.slots n m (ap (is_in m) (sym e) ∙ q)

-- a set
pub set_holds : (v : Value) (n : ℕ) (xs : List Node) (t : Seating) (gen w : ℕ) → NodesAgree xs t gen w → NodesAgree (changed_at (set_node v) n xs) t (gen + 1) (w + 1)
set_holds v n xs t gen w h =
    edit_holds (set_node v) (λ b. with_body_value b v) 1 n xs t gen (gen + 1) w (record { body = λ x. refl; seat = λ x. refl; number = λ x. omega arith; gone = refl; live = live }) (omega arith)
    (same_sources (λ b. with_body_value b v) xs n t gen w (reads (body_at xs n)) h) (same_slots (λ b. with_body_value b v) xs n t gen w (slots (body_at xs n)) h) (few (body_at xs n) (h.few n)) h
  where
    live : (b : Body) → is_live_body (with_body_value b v) ≡ is_live_body b
    live Gone = refl
    live (CellBody u r) = refl
    live (ComputedBody c) = refl

    reads : (b : Body) → source_names (sources_in (memo_body (with_body_value b v))) ≡ source_names (sources_in (memo_body b))
    reads Gone = refl
    reads (CellBody u r) = refl
    reads (ComputedBody c) = refl

    slots : (b : Body) → slots_body (with_body_value b v) ≡ slots_body b
    slots Gone = refl
    slots (CellBody u r) = refl
    slots (ComputedBody c) = refl

    few : (b : Body) → FewSlotsBody b → FewSlotsBody (with_body_value b v)
    few Gone q = tt
    few (CellBody u r) q = tt
    few (ComputedBody c) q = q

-- a step of an evaluation
pub known_holds : (k : Option (List Known)) (n : ℕ) (xs : List Node) (t : Seating) (gen w : ℕ) → NodesAgree xs t gen w → NodesAgree (changed_at (known_node k) n xs) t gen w
known_holds k n xs t gen w h =
    let e : w + 0 ≡ w = omega arith in
    subst (λ z. NodesAgree (changed_at (known_node k) n xs) t gen z) e
    (edit_holds (known_node k) (λ b. with_body_known b k) 0 n xs t gen gen w (record { body = λ x. refl; seat = λ x. refl; number = λ x. omega arith; gone = refl; live = live }) (omega arith)
    (same_sources (λ b. with_body_known b k) xs n t gen w (reads (body_at xs n)) h) (same_slots (λ b. with_body_known b k) xs n t gen w (slots (body_at xs n)) h) (few (body_at xs n) (h.few n)) h)
  where
    live : (b : Body) → is_live_body (with_body_known b k) ≡ is_live_body b
    live Gone = refl
    live (CellBody u r) = refl
    live (ComputedBody c) = refl

    reads : (b : Body) → source_names (sources_in (memo_body (with_body_known b k))) ≡ source_names (sources_in (memo_body b))
    reads Gone = refl
    reads (CellBody u r) = refl
    reads (ComputedBody c) = refl

    slots : (b : Body) → slots_body (with_body_known b k) ≡ slots_body b
    slots Gone = refl
    slots (CellBody u r) = refl
    slots (ComputedBody c) = refl

    few : (b : Body) → FewSlotsBody b → FewSlotsBody (with_body_known b k)
    few Gone q = tt
    few (CellBody u r) q = tt
    few (ComputedBody c) q = q

-- a rewiring
pub rewired_holds : (r : Recipe) (n : ℕ) (xs : List Node) (t : Seating) (gen w : ℕ) → All (λ m. m < length xs) r.slots → HasFewSlots r.expression r.slots → NodesAgree xs t gen w → NodesAgree (changed_at (rewired_node r) n xs) t (gen + 1) (w + 1)
rewired_holds r n xs t gen w given few h =
    edit_holds (rewired_node r) (λ b. with_body_recipe b r) 1 n xs t gen (gen + 1) w (record { body = λ x. refl; seat = λ x. refl; number = λ x. omega arith; gone = refl; live = live }) (omega arith)
    (same_sources (λ b. with_body_recipe b r) xs n t gen w (reads (body_at xs n)) h) (slots (body_at xs n) (h.slots n)) (left (body_at xs n)) h
  where
    live : (b : Body) → is_live_body (with_body_recipe b r) ≡ is_live_body b
    live Gone = refl
    live (CellBody u q) = refl
    live (ComputedBody c) = refl

    kept : (m : Option Memo) → source_names (sources_in (memo_rewired m)) ≡ source_names (sources_in m)
    kept None = refl
    kept (Some m) = refl

    reads : (b : Body) → source_names (sources_in (memo_body (with_body_recipe b r))) ≡ source_names (sources_in (memo_body b))
    reads Gone = refl
    reads (CellBody u q) = refl
    reads (ComputedBody c) = kept c.memo

    slots : (b : Body) → ((m : ℕ) → is_in m (slots_body b) ≡ true → m < length xs) → (m : ℕ) → is_in m (slots_body (with_body_recipe b r)) ≡ true → m < length xs
    slots Gone f m q = f m q
    slots (CellBody u z) f m q = f m q
    slots (ComputedBody c) f m q = in_all r.slots (length xs) m given q

    left : (b : Body) → FewSlotsBody (with_body_recipe b r)
    left Gone = tt
    left (CellBody u z) = tt
    left (ComputedBody c) = few

-- a run, whose sources were given
pub run_holds : (memo : Memo) (n : ℕ) (xs : List Node) (t : Seating) (gen w : ℕ) → All (λ m. m < length xs) (source_names memo.sources) → NodesAgree xs t gen w → NodesAgree (changed_at (run_node memo) n xs) t gen (w + 1)
run_holds memo n xs t gen w given h =
    edit_holds (run_node memo) (λ b. with_body_memo b memo) 1 n xs t gen gen w (record { body = λ x. refl; seat = λ x. refl; number = λ x. risen (has_outcome (memo_body x.body) memo.outcome) x.number; gone = refl; live = live }) (omega arith)
    (reads (body_at xs n) (h.sources n)) (same_slots (λ b. with_body_memo b memo) xs n t gen w (slots (body_at xs n)) h) (few (body_at xs n) (h.few n)) h
  where
    live : (b : Body) → is_live_body (with_body_memo b memo) ≡ is_live_body b
    live Gone = refl
    live (CellBody u q) = refl
    live (ComputedBody c) = refl

    risen : (b : Bool) (m : ℕ) → m + (if b then 0 else 1) ≤ m + 1
    risen true m = omega arith
    risen false m = omega arith

    reads : (b : Body) → ((m : ℕ) → is_in m (source_names (sources_in (memo_body b))) ≡ true → m < length xs) → (m : ℕ) → is_in m (source_names (sources_in (memo_body (with_body_memo b memo)))) ≡ true → m < length xs
    reads Gone f m q = f m q
    reads (CellBody u z) f m q = f m q
    reads (ComputedBody c) f m q = in_all (source_names memo.sources) (length xs) m given q

    slots : (b : Body) → slots_body (with_body_memo b memo) ≡ slots_body b
    slots Gone = refl
    slots (CellBody u q) = refl
    slots (ComputedBody c) = refl

    few : (b : Body) → FewSlotsBody b → FewSlotsBody (with_body_memo b memo)
    few Gone q = tt
    few (CellBody u r) q = tt
    few (ComputedBody c) q = q

-- ---- a disposal

pub gone_holds : (n : ℕ) (xs : List Node) (t : Seating) (gen w : ℕ) → is_live_body (body_at xs n) ≡ true → NodesAgree xs t gen w →
    NodesAgree (changed_at gone_node n xs) (with_left t (seat_at xs n)) (gen + 1) (w + 1)
gone_holds n xs t gen w live h = record {
  numbers = λ m. let a : change_at (changed_at gone_node n xs) m ≤ change_at xs m + 1 = change_risen gone_node 1 n m xs (λ x. omega arith) in let b : change_at xs m ≤ w = h.numbers m in omega (arith, a, b);
  current = let a : gen ≤ w = h.current in omega (arith, a);
  made = let a : length xs ≤ w = h.made in let l : length (changed_at gone_node n xs) ≡ length xs = changed_length gone_node n xs in omega (arith, a, l);
  sources = λ k m q. subst (λ z. m < z) (sym (changed_length gone_node n xs)) (by_sources k m (n == k) (sym (ap (λ b. is_in m (source_names (sources_in (memo_body b)))) (at k)) ∙ q));
  slots = λ k m q. subst (λ z. m < z) (sym (changed_length gone_node n xs)) (by_slots k m (n == k) (sym (ap (λ b. is_in m (slots_body b)) (at k)) ∙ q));
  few = λ k. subst FewSlotsBody (sym (at k)) (by_few k (n == k));
  seated = λ k q.
      let off : (n == k) ≡ false = apart k q in
      let old : is_live_body (body_at xs k) ≡ true = sym (ap is_live_body (at k ∙ ap (λ b. if b then Gone else body_at xs k) off)) ∙ q in
      let held : holder t.holders (seat_at xs k) ≡ Some k = h.seated k old in
      ap (holder (slice_set t.holders s None)) (seat_other gone_node n k xs (λ e. true≢false (sym (eq-eqb n k e) ∙ off))) ∙ holder_set t.holders s (seat_at xs k) None below ∙ others k (s == seat_at xs k) refl off held;
  living = λ z k q. went z k (s == z) refl (sym (holder_set t.holders s z None below) ∙ q);
  room =
      let a : counted_from 0 (changed_at gone_node n xs) ≡ live_nodes (changed_at gone_node n xs) = counted 0 (changed_at gone_node n xs) in
      let b : live_nodes (changed_at gone_node n xs) + 1 ≡ live_nodes xs = live_gone n xs live in
      let d : counted_from 0 xs ≡ live_nodes xs = counted 0 xs in
      let r : counted_from 0 xs + t.free ≡ MOST_NODES = h.room in
      omega (arith, a, b, d, r);
  size = set_size t.holders s None ∙ h.size;
}
  where
    s : ℕ
    s = seat_at xs n

    mine : holder t.holders s ≡ Some n
    mine = h.seated n live

    below : s < length t.holders
    below = held_inside t.holders s n mine

    at : (k : ℕ) → body_at (changed_at gone_node n xs) k ≡ (if n == k then Gone else body_at xs k)
    at k = body_changed gone_node (λ b. Gone) n k xs (λ x. refl) refl

    by_sources : (k m : ℕ) (b : Bool) → is_in m (source_names (sources_in (memo_body (if b then Gone else body_at xs k)))) ≡ true → m < length xs
    by_sources k m true on = absurd (true≢false (sym on))
    by_sources k m false on = h.sources k m on

    by_slots : (k m : ℕ) (b : Bool) → is_in m (slots_body (if b then Gone else body_at xs k)) ≡ true → m < length xs
    by_slots k m true on = absurd (true≢false (sym on))
    by_slots k m false on = h.slots k m on

    by_few : (k : ℕ) (b : Bool) → FewSlotsBody (if b then Gone else body_at xs k)
    by_few k true = tt
    by_few k false = h.few k

    apart : (k : ℕ) → is_live_body (body_at (changed_at gone_node n xs) k) ≡ true → (n == k) ≡ false
    apart k q = elim (tested (n == k)) [
      | inl e ↦ absurd (true≢false (sym q ∙ ap is_live_body (at k ∙ ap (λ b. if b then Gone else body_at xs k) e)))
      | inr e ↦ e
    ]

    others : (k : ℕ) (b : Bool) → (s == seat_at xs k) ≡ b → (n == k) ≡ false → holder t.holders (seat_at xs k) ≡ Some k → cond b None (holder t.holders (seat_at xs k)) ≡ Some k
    others k true e off held =
        let same : Some n ≡ Some k = sym mine ∙ ap (holder t.holders) (eqb-true s (seat_at xs k) e) ∙ held in
        let is : n ≡ k = cc in
        absurd (true≢false (sym (eq-eqb n k is) ∙ off))
    others k false e off held = held

    went : (z k : ℕ) (b : Bool) → (s == z) ≡ b → cond b None (holder t.holders z) ≡ Some k → (is_live_body (body_at (changed_at gone_node n xs) k) ≡ true) × (seat_at (changed_at gone_node n xs) k ≡ z)
    went z k true e q = cc
    went z k false e q =
        let old : (is_live_body (body_at xs k) ≡ true) × (seat_at xs k ≡ z) = h.living z k q in
        let off : (n == k) ≡ false = elim (tested (n == k)) [ inl f ↦ absurd (true≢false (sym (eq-eqb s z (ap (seat_at xs) (eqb-true n k f) ∙ old.1)) ∙ e)) | inr f ↦ f ] in
        (ap is_live_body (at k ∙ ap (λ b. if b then Gone else body_at xs k) off) ∙ old.0, seat_other gone_node n k xs (λ e. true≢false (sym (eq-eqb n k e) ∙ off)) ∙ old.1)

-- ---- a making

no_suc : (k : ℕ) → (0 == suc k) ≡ false
no_suc k = grind (arith, nat_tests)

suc_no : (k : ℕ) → (suc k == 0) ≡ false
suc_no k = grind (arith, nat_tests)

body_more : (xs : List Node) (y : Node) (k : ℕ) → body_at (xs ++ y ∷ []) k ≡ (if length xs == k then y.body else body_at xs k)
body_more [] y zero = refl
body_more [] y (suc k) = ap (λ b. if b then y.body else Gone) (sym (no_suc k))
body_more (x ∷ xs) y zero = ap (λ b. if b then y.body else x.body) (sym (suc_no (length xs)))
body_more (x ∷ xs) y (suc k) = body_more xs y k ∙ ap (λ b. if b then y.body else body_at xs k) (sucs (length xs) k)
  where
    sucs : (a b : ℕ) → (a == b) ≡ (suc a == suc b)
    sucs a b = grind (arith, nat_tests)

seat_more : (xs : List Node) (y : Node) (k : ℕ) → seat_at (xs ++ y ∷ []) k ≡ (if length xs == k then y.seat else seat_at xs k)
seat_more [] y zero = refl
seat_more [] y (suc k) = ap (λ b. if b then y.seat else 0) (sym (no_suc k))
seat_more (x ∷ xs) y zero = ap (λ b. if b then y.seat else x.seat) (sym (suc_no (length xs)))
seat_more (x ∷ xs) y (suc k) = seat_more xs y k ∙ ap (λ b. if b then y.seat else seat_at xs k) (sucs (length xs) k)
  where
    sucs : (a b : ℕ) → (a == b) ≡ (suc a == suc b)
    sucs a b = grind (arith, nat_tests)

change_more : (xs : List Node) (seat : ℕ) (b : Body) (k : ℕ) → change_at (xs ++ new_node seat b ∷ []) k ≤ change_at xs k
change_more [] seat b zero = omega arith
change_more [] seat b (suc k) = omega arith
change_more (x ∷ xs) seat b zero = omega arith
change_more (x ∷ xs) seat b (suc k) = change_more xs seat b k

fresh_live : (b : Body) → IsFresh b → is_live_body b ≡ true
fresh_live Gone f = absurd f
fresh_live (CellBody v r) f = refl
fresh_live (ComputedBody c) f = refl

fresh_reads : (b : Body) (m : ℕ) → IsFresh b → is_in m (source_names (sources_in (memo_body b))) ≡ false
fresh_reads Gone m f = refl
fresh_reads (CellBody v r) m f = refl
fresh_reads (ComputedBody c) m f = ap (λ o. is_in m (source_names (sources_in o))) f.0

pub new_holds : (xs : List Node) (s : ℕ) (b : Body) (t : Seating) (gen w : ℕ) → IsFresh b → ((m : ℕ) → is_in m (slots_body b) ≡ true → m < length xs) → FewSlotsBody b → 0 < t.free → s < length t.holders → holder t.holders s ≡ None →
    NodesAgree xs t gen w → NodesAgree (xs ++ new_node s b ∷ []) (with_taken t s (length xs)) gen (w + 1)
new_holds xs s b t gen w fresh slots few free below nobody h = record {
  numbers = λ m. let a : change_at (xs ++ new_node s b ∷ []) m ≤ change_at xs m = change_more xs s b m in let d : change_at xs m ≤ w = h.numbers m in omega (arith, a, d);
  current = let a : gen ≤ w = h.current in omega (arith, a);
  made = let a : length xs ≤ w = h.made in omega (arith, a, longer);
  sources = λ k m q. let l : m < length xs = by_sources k m (length xs == k) (sym (ap (λ d. is_in m (source_names (sources_in (memo_body d)))) (at k)) ∙ q) in omega (arith, l, longer);
  slots = λ k m q. let l : m < length xs = by_slots k m (length xs == k) (sym (ap (λ d. is_in m (slots_body d)) (at k)) ∙ q) in omega (arith, l, longer);
  few = λ k. subst FewSlotsBody (sym (at k)) (by_few k (length xs == k));
  seated = λ k q. ap (holder (slice_set t.holders s (Some (length xs)))) (seat_more xs y k) ∙ sits k (length xs == k) refl (sym (ap is_live_body (at k)) ∙ q);
  living = λ z k q. lives z k (s == z) refl (sym (holder_set t.holders s z (Some (length xs)) below) ∙ q);
  room =
      let a : counted_from 0 (xs ++ y ∷ []) ≡ live_nodes (xs ++ y ∷ []) = counted 0 (xs ++ y ∷ []) in
      let d : live_nodes (xs ++ y ∷ []) ≡ live_nodes xs + 1 = live_more xs y ∙ ap (λ z. live_nodes xs + one_if z) (fresh_live b fresh) in
      let e : counted_from 0 xs ≡ live_nodes xs = counted 0 xs in
      let r : counted_from 0 xs + t.free ≡ MOST_NODES = h.room in
      omega (arith, a, d, e, r, free);
  size = set_size t.holders s (Some (length xs)) ∙ h.size;
}
  where
    y : Node
    y = new_node s b

    longer : length (xs ++ new_node s b ∷ []) ≡ length xs + 1
    longer = length-append xs (new_node s b ∷ [])

    at : (k : ℕ) → body_at (xs ++ new_node s b ∷ []) k ≡ (if length xs == k then b else body_at xs k)
    at k = body_more xs (new_node s b) k

    by_sources : (k m : ℕ) (d : Bool) → is_in m (source_names (sources_in (memo_body (if d then b else body_at xs k)))) ≡ true → m < length xs
    by_sources k m true on = absurd (true≢false (sym on ∙ fresh_reads b m fresh))
    by_sources k m false on = h.sources k m on

    by_slots : (k m : ℕ) (d : Bool) → is_in m (slots_body (if d then b else body_at xs k)) ≡ true → m < length xs
    by_slots k m true on = slots m on
    by_slots k m false on = h.slots k m on

    by_few : (k : ℕ) (d : Bool) → FewSlotsBody (if d then b else body_at xs k)
    by_few k true = few
    by_few k false = h.few k

    sits : (k : ℕ) (d : Bool) → (length xs == k) ≡ d → is_live_body (if d then b else body_at xs k) ≡ true → holder (slice_set t.holders s (Some (length xs))) (if d then s else seat_at xs k) ≡ Some k
    sits k true e q = holder_set t.holders s s (Some (length xs)) below ∙ ap (λ z. cond z (Some (length xs)) (holder t.holders s)) (eq-eqb s s refl) ∙ ap (λ z. Some z) (eqb-true (length xs) k e)
    sits k false e q =
        let held : holder t.holders (seat_at xs k) ≡ Some k = h.seated k q in
        holder_set t.holders s (seat_at xs k) (Some (length xs)) below ∙ go (s == seat_at xs k) refl held
      where
        go : (d : Bool) → (s == seat_at xs k) ≡ d → holder t.holders (seat_at xs k) ≡ Some k → cond d (Some (length xs)) (holder t.holders (seat_at xs k)) ≡ Some k
        go true f held = cc (sym nobody ∙ ap (holder t.holders) (eqb-true s (seat_at xs k) f) ∙ held)
        go false f held = held

    lives : (z k : ℕ) (d : Bool) → (s == z) ≡ d → cond d (Some (length xs)) (holder t.holders z) ≡ Some k → (is_live_body (body_at (xs ++ new_node s b ∷ []) k) ≡ true) × (seat_at (xs ++ new_node s b ∷ []) k ≡ z)
    lives z k true e q =
        let is : length xs ≡ k = cc in
        let f : (length xs == k) ≡ true = eq-eqb (length xs) k is in
        (ap is_live_body (at k ∙ ap (λ d. if d then b else body_at xs k) f) ∙ fresh_live b fresh, seat_more xs y k ∙ ap (λ d. if d then s else seat_at xs k) f ∙ eqb-true s z e)
    lives z k false e q =
        let old : (is_live_body (body_at xs k) ≡ true) × (seat_at xs k ≡ z) = h.living z k q in
        let l : k < length xs = live_below xs k old.0 in
        let f : (length xs == k) ≡ false = grind (arith, nat_tests, l) in
        (ap is_live_body (at k ∙ ap (λ d. if d then b else body_at xs k) f) ∙ old.0, seat_more xs y k ∙ ap (λ d. if d then s else seat_at xs k) f ∙ old.1)

-- ---- what callers see

-- an edit, by its state and by how many ids were given
pub became : {os os' : List (List ℕ)} (old : Seen) (st st' after : State) (hs hs' : List (Option ℕ)) (a b : ℕ) → seen st hs a os ≡ old → b ≡ a → st' ≡ after → Becomes old (seen st' hs' b os') after
became old st st' after hs hs' a b view same e = record { state = e; given = same ∙ ap (λ (g : Seen). g.given) view }

-- what was given is below the number of nodes
pub given_below : {os : List (List ℕ)} (old : Seen) (st : State) (hs : List (Option ℕ)) (a : ℕ) (ns : List ℕ) → seen st hs a os ≡ old → All (λ n. is_given old n ≡ true) ns → All (λ n. n < a) ns
unfolding is_given
given_below old st hs a ns view h = λ k d l. below (get_or ns k d) (ap (λ (g : Seen). nat_lt (get_or ns k d) g.given) view ∙ h k d l)
  where
    below : (n : ℕ) → nat_lt n a ≡ true → n < a
    below n q = grind (arith, nat_tests)

-- and the other way round
pub below_given : {os : List (List ℕ)} (old : Seen) (st : State) (hs : List (Option ℕ)) (a n : ℕ) → seen st hs a os ≡ old → n < a → is_given old n ≡ true
unfolding is_given
below_given old st hs a n view l = sym (ap (λ (g : Seen). nat_lt n g.given) view) ∙ under n l
  where
    under : (m : ℕ) → m < a → nat_lt m a ≡ true
    under m q = grind (arith, nat_tests)

-- each name in use was given
pub used_here : (xs : List Node) (t : Seating) (g l w : ℕ) (os : List (List ℕ)) → NodesAgree xs t g w → AreGiven (is_given (seen (state_of xs g l w) t.holders (length xs) os)) (signals_of xs) (memos_of g xs)
unfolding is_given
used_here xs t g l w os h = record {
  names = λ n q. under n (live_below xs n (sym (live_here xs n) ∙ q));
  slots = λ n m c e q. under m (h.slots n m (ap (is_in m) (asked n c e) ∙ q));
  sources = λ n m q. under m (h.sources n m (ap (λ o. is_in m (source_names (sources_in o))) (sym (memo_found xs g n)) ∙ q));
}
  where
    under : (m : ℕ) → m < length xs → nat_lt m (length xs) ≡ true
    under m q = grind (arith, nat_tests)

    asked : (n : ℕ) (c : Computed) → standing (signals_of xs) n ≡ IsComputed c → slots_body (body_at xs n) ≡ c.recipe.slots
    asked n c e = go (body_at xs n) (sym (stands xs n) ∙ e)
      where
        go : (b : Body) → stands_of n b ≡ IsComputed c → slots_body b ≡ c.recipe.slots
        go Gone q = cc
        go (CellBody v r) q = cc
        go (ComputedBody d) q = let same : record { name = n; recipe = d.recipe } ≡ c = cc in ap (λ (z : Computed). z.recipe.slots) same

-- each live signal has a seat
pub seated_here : (xs : List Node) (t : Seating) (g w : ℕ) → NodesAgree xs t g w → AreAllSeated (signals_of xs) t.holders
seated_here xs t g w h = record {
  each = λ n live.
      let held : holder t.holders (seat_at xs n) ≡ Some n = h.seated n (sym (live_here xs n) ∙ live) in
      record { seat = seat_at xs n; inside = subst (λ z. seat_at xs n < z) h.size (held_inside t.holders (seat_at xs n) n held); holds = held };
}

-- each host formula that is asked has few arguments
pub few_here : (xs : List Node) (t : Seating) (g w : ℕ) → NodesAgree xs t g w → HaveFewSlots (signals_of xs)
few_here xs t g w h = record { each = λ n c e. go n (body_at xs n) c (sym (stands xs n) ∙ e) (h.few n) }
  where
    go : (n : ℕ) (b : Body) (c : Computed) → stands_of n b ≡ IsComputed c → FewSlotsBody b → HasFewSlots c.recipe.expression c.recipe.slots
    go n Gone c q f = cc
    go n (CellBody v r) c q f = cc
    go n (ComputedBody d) c q f =
        let same : record { name = n; recipe = d.recipe } ≡ c = cc in
        subst (λ (z : Computed). HasFewSlots z.recipe.expression z.recipe.slots) same f

-- a making gives the next id, where each name in use was given
pub makes : {os os' : List (List ℕ)} (old : Seen) (st' after : State) (xs : List Node) (t : Seating) (hs' : List (Option ℕ)) (g l w b n : ℕ) → seen (state_of xs g l w) t.holders (length xs) os ≡ old → n ≡ length xs → b ≡ length xs + 1 → st' ≡ after → NodesAgree xs t g w →
    Makes old (seen st' hs' b os') n after
unfolding is_given
makes {os} old st' after xs t hs' g l w b n view is more e h = record {
  id = is ∙ ap (λ (z : Seen). z.given) view;
  given = more ∙ ap (λ (z : Seen). z.given + 1) view;
  state = e;
  fresh = sym (ap (λ (z : Seen). nat_lt n z.given) view) ∙ ap (λ m. nat_lt m (length xs)) is ∙ itself (length xs);
  used = subst (λ (o : Seen). AreGiven (is_given o) o.state.signals o.state.memos) view (used_here xs t g l w os h);
}
  where
    itself : (m : ℕ) → nat_lt m m ≡ false
    itself m = grind (arith, nat_tests)
