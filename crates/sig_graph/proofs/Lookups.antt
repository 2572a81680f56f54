-- What nodes answer, by what they stand for.
use Rattle.std.proofs.Common.{◌≡◌, ℕ, zero, suc, ◌+◌, ◌<◌, ◌==◌, ◌||◌, not, Bool, true, false, List, [], ◌∷◌, ◌++◌, map, Option, Some, None, refl, sym, ap, ◌∙◌, subst, is_some, if◌then◌else◌}
use Rattle.std.specs.Prelude.{slice_get, IfSome}
use Rattle.std.proofs.lemmas.Bool.{eq-eqb}
use Rattle.signal_model.specs.Signals.{Computed, is_in, is_there, standing}
use Rattle.signal_model.specs.Memos.{Source, Memos, memo_of, named_now, number_of, same_number, source_names, sources_in, sources_of}
use Rattle.sig_nodes.specs.declared.node.Node.{Node}
use Rattle.sig_nodes.specs.declared.node.Body.{Body}
use Rattle.sig_nodes.specs.declared.node.Body.TheVariants.{Gone, Cell as CellBody, Computed as ComputedBody}
use Rattle.signal_model.specs.Sound.{kept_outcome}
use Rattle.sig_graph.specs.Looks.{has_moved}
use Rattle.sig_nodes.specs.Answers.{shown_here, slots_here, value_here}
use Rattle.sig_graph.specs.HostUse.{some_asks, uses_host}
use Rattle.sig_nodes.specs.Computations.{paired}
use Rattle.sig_graph.specs.States.{progress_at, State, Seen, is_given}
use Rattle.sig_seats.specs.Seats.{Seating, holder}
use Rattle.sig_graph.specs.Places.{seen, NodesAgree}
use Rattle.sig_nodes.specs.Nodes.{asks_host_body, some_asks_body, body_at, changed_at, is_computed_body, known_node, with_body_known, has_moved_body, known_body, memo_body, number_at, shown_body, slots_body, stands_of, value_body}
use Rattle.sig_graph.specs.Parts.{computed_part, parts, progress_of, memos_of, signals_of, state_of}
use Rattle.sig_base.specs.declared.value.Known.{Known}
use Rattle.sig_nodes.proofs.Shared.{body_changed}
use Rattle.sig_graph.proofs.Parts.{memo_found, number_found, progress_found, stands}
use Rattle.sig_graph.proofs.Consistency.{below_given, live_here}

-- the slots under an id
pub slots_found : (xs : List Node) (n : ℕ) → slots_here (standing (signals_of xs) n) ≡ slots_body (body_at xs n)
slots_found xs n = ap slots_here (stands xs n) ∙ go (body_at xs n)
  where
    go : (b : Body) → slots_here (stands_of n b) ≡ slots_body b
    go Gone = refl
    go (CellBody v r) = refl
    go (ComputedBody c) = refl

-- whether a computed asks the host formula at a place
pub uses_found : (place : ℕ) (xs : List Node) → uses_host (signals_of xs) place ≡ some_asks_body place xs
uses_found place xs = from 0 xs
  where
    one : (k : ℕ) (b : Body) (rest : List Computed) → some_asks place (computed_part k b ++ rest) ≡ (asks_host_body place b || some_asks place rest)
    one k Gone rest = refl
    one k (CellBody v r) rest = refl
    one k (ComputedBody c) rest = refl

    from : (k : ℕ) (ys : List Node) → some_asks place (parts (λ n y. computed_part n y.body) k ys) ≡ some_asks_body place ys
    from k [] = refl
    from k (y ∷ ys) = one k y.body (parts (λ n z. computed_part n z.body) (k + 1) ys) ∙ ap (λ b. asks_host_body place y.body || b) (from (k + 1) ys)

-- what holds of each of these holds of the one at a place
pub at_place : (P : ℕ → Type 0) (ns : List ℕ) (i : ℕ) (o : Option ℕ) → ((m : ℕ) → is_in m ns ≡ true → P m) → o ≡ slice_get ns i → IfSome o P
at_place P ns i o each e = subst (λ (z : Option ℕ). IfSome z P) (sym e) (go ns i each)
  where
    go : (ms : List ℕ) (k : ℕ) → ((m : ℕ) → is_in m ms ≡ true → P m) → IfSome (slice_get ms k) P
    go [] k h = tt
    go (m ∷ ms) zero h = h m (ap (λ b. b || is_in m ms) (eq-eqb m m refl))
    go (m ∷ ms) (suc k) h = go ms k (λ p q. h p (later (p == m) (is_in p ms) q))
      where
        later : (x y : Bool) → y ≡ true → (x || y) ≡ true
        later true y q = refl
        later false y q = q

-- a slot's signal was given
pub slot_below : {os : List (List ℕ)} (old : Seen) (st : State) (hs : List (Option ℕ)) (a : ℕ) (slots : List ℕ) (i : ℕ) (o : Option ℕ) → seen st hs a os ≡ old → ((m : ℕ) → is_in m slots ≡ true → m < a) → o ≡ slice_get slots i →
    IfSome o (λ m. is_given old m ≡ true)
slot_below old st hs a slots i o view inside e = at_place (λ m. is_given old m ≡ true) slots i o (λ m q. below_given old st hs a m view (inside m q)) e

-- who has a seat lives
pub holder_lives : (xs : List Node) (t : Seating) (gen w s : ℕ) (o : Option ℕ) → NodesAgree xs t gen w → o ≡ holder t.holders s → IfSome o (λ n. is_there (standing (signals_of xs) n) ≡ true)
holder_lives xs t gen w s None h e = tt
holder_lives xs t gen w s (Some n) h e = live_here xs n ∙ (h.living s n (sym e)).0

-- whether a source has moved
pub moved_any : (xs : List Node) (g l w : ℕ) (o : Option Source) → has_moved_body xs o ≡ has_moved (state_of xs g l w) o
moved_any xs g l w None = refl
moved_any xs g l w (Some s) = ap (λ m. not (same_number m s.number) || is_some (known_body (body_at xs s.name))) (sym (number_found xs g s.name))
    ∙ ap (λ k. not (same_number (number_of (memos_of g xs) s.name) s.number) || is_some k) (sym (progress_found xs s.name))

-- the same of the one at a place
pub moved_found : (xs : List Node) (g l w n place : ℕ) → has_moved_body xs (slice_get (sources_in (memo_body (body_at xs n))) place) ≡ has_moved (state_of xs g l w) (slice_get (sources_of (memos_of g xs) n) place)
moved_found xs g l w n place =
    ap (λ m. has_moved_body xs (slice_get (sources_in m) place)) (sym (memo_found xs g n)) ∙ moved_any xs g l w (slice_get (sources_of (memos_of g xs) n) place)

-- the value of a cell
pub value_found : (xs : List Node) (n : ℕ) → value_here (standing (signals_of xs) n) ≡ value_body (body_at xs n)
value_found xs n = ap value_here (stands xs n) ∙ go (body_at xs n)
  where
    go : (b : Body) → value_here (stands_of n b) ≡ value_body b
    go Gone = refl
    go (CellBody v r) = refl
    go (ComputedBody c) = refl

-- what a signal is read as
pub shown_found : (xs : List Node) (g n : ℕ) →
    shown_body (body_at xs n) ≡ shown_here (standing (signals_of xs) n) (is_some (progress_at n (progress_of xs))) (kept_outcome (memo_of (memos_of g xs) n))
shown_found xs g n = go (body_at xs n) ∙ (λ i. shown_here (sym (stands xs n) i) (is_some (sym (progress_found xs n) i)) (kept_outcome (sym (memo_found xs g n) i)))
  where
    go : (b : Body) → shown_body b ≡ shown_here (stands_of n b) (is_some (known_body b)) (kept_outcome (memo_body b))
    go Gone = refl
    go (CellBody v r) = refl
    go (ComputedBody c) = refl

-- sources with the present numbers of their names
pub paired_here : (xs : List Node) (g : ℕ) (ns : List ℕ) → paired ns (map (number_at xs) ns) ≡ map (named_now (memos_of g xs)) ns
paired_here xs g [] = refl
paired_here xs g (n ∷ ns) =
    ap (λ (m : Option ℕ). record { name = n; number = m } ∷ paired ns (map (number_at xs) ns)) (sym (number_found xs g n))
    ∙ ap (λ (r : List Source). named_now (memos_of g xs) n ∷ r) (paired_here xs g ns)

-- the names of such
pub names_now : (k : Memos) (ns : List ℕ) → source_names (map (named_now k) ns) ≡ ns
names_now k [] = refl
names_now k (n ∷ ns) = ap (λ (r : List ℕ). n ∷ r) (names_now k ns)

-- a computed is at the values that its evaluation is given
pub begun_here : (k : Option (List Known)) (n : ℕ) (xs : List Node) → is_computed_body (body_at xs n) ≡ true → progress_at n (progress_of (changed_at (known_node k) n xs)) ≡ k
begun_here k n xs live =
    progress_found (changed_at (known_node k) n xs) n ∙ ap known_body (body_changed (known_node k) (λ b. with_body_known b k) n n xs (λ x. refl) refl ∙ ap (λ (t : Bool). if t then with_body_known (body_at xs n) k else body_at xs n) (eq-eqb n n refl))
    ∙ go (body_at xs n) live
  where
    go : (b : Body) → is_computed_body b ≡ true → known_body (with_body_known b k) ≡ k
    go Gone q = cc
    go (CellBody v r) q = cc
    go (ComputedBody c) q = refl
