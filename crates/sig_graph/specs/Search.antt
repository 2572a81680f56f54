-- The search for a computed that must run, along kept sources.
use Rattle.std.specs.Prelude.{◌≡◌, ℕ, ◌<◌, ◌==◌, ◌⊎◌, ◌||◌, ◌&&◌, not, Bool, true, false, List, [], ◌∷◌, Option, Some, None, is_some, if◌then◌else◌}
use Rattle.signal_model.specs.Signals.{is_in}
use Rattle.signal_model.specs.Memos.{Memo, keeps, memo_is_cycle, must_run_by, source_names, sources_in}
use Rattle.sig_marks.specs.Tables.{marked_at}
use Rattle.signal_model.specs.Marks.{HasBelow, is_due}
use Rattle.sig_nodes.specs.declared.node.Node.{Node}
use Rattle.sig_seats.specs.Seats.{holder}
use Rattle.sig_nodes.specs.Nodes.{body_at, is_computed_body, known_body, memo_body, seat_at}
use Rattle.sig_graph.specs.Parts.{memos_of, signals_of}

-- whether who has a seat passes a test; of a free seat nobody does
abbrev pub of_holder : (ℕ → Bool) → Option ℕ → Bool
of_holder f None = false
of_holder f (Some n) = f n

-- whether one of all who have seats does
abbrev pub some_holder : (ℕ → Bool) → List (Option ℕ) → Bool
some_holder f [] = false
some_holder f (h ∷ hs) = of_holder f h || some_holder f hs

-- whether one of those who have these seats passes a test
abbrev pub some_seated : (ℕ → Bool) → List ℕ → List (Option ℕ) → Bool
some_seated f [] hs = false
some_seated f (s ∷ ss) hs = of_holder f (holder hs s) || some_seated f ss hs

-- whether this one is among them
abbrev pub is_seated : List ℕ → List (Option ℕ) → ℕ → Bool
is_seated ss hs n = some_seated (λ m. m == n) ss hs

-- whether a computed must run
abbrev pub is_due_at : List Node → ℕ → ℕ → Bool
is_due_at xs g n = is_due (signals_of xs) (memos_of g xs) n

-- a name, or one that is kept below it, must run
abbrev pub HasDue : List Node → ℕ → ℕ → Type 0
HasDue xs g n = (is_due_at xs g n ≡ true) ⊎ HasBelow (is_due_at xs g) (memos_of g xs) n

-- whether a marked computed stands at one of these places
abbrev pub some_marked_at : List Node → List Bool → List ℕ → Bool
some_marked_at xs t [] = false
some_marked_at xs t (n ∷ ns) = (is_computed_body (body_at xs n) && marked_at t n) || some_marked_at xs t ns

-- whether an evaluation that ends without a run takes the mark of a computed with this memo
abbrev pub stop_unmarks_by : List Node → ℕ → List Bool → Option Memo → Bool
stop_unmarks_by xs g t m =
    not (must_run_by (memos_of g xs) m []) && (not (memo_is_cycle m) && not (some_marked_at xs t (source_names (sources_in m))))

-- whether a signal keeps its mark though nothing below it must run: it is being evaluated, or holds `cycle`
abbrev pub stays_marked : List Node → ℕ → Bool
stays_marked xs n = is_some (known_body (body_at xs n)) || memo_is_cycle (memo_body (body_at xs n))

-- whether a search that came to these seats takes the mark of a signal: it came to it, and to none that keeps its mark
abbrev pub search_unmarks : List Node → List ℕ → List (Option ℕ) → ℕ → Bool
search_unmarks xs ss hs n = not (some_seated (stays_marked xs) ss hs) && is_seated ss hs n

-- each computed has its own flag among so many
pub record AreSeated (xs : List Node) (count : ℕ) : Type 0 where
  pub below : (n : ℕ) → is_computed_body (body_at xs n) ≡ true → seat_at xs n < count
  pub one : (n m : ℕ) → is_computed_body (body_at xs n) ≡ true → is_computed_body (body_at xs m) ≡ true →
      seat_at xs n ≡ seat_at xs m → n ≡ m

-- whether a marked computed stands there whose seat is none of these
abbrev pub is_new : List Node → List Bool → List ℕ → ℕ → Bool
is_new xs t ss n = marked_at t n && (is_computed_body (body_at xs n) && not (is_in (seat_at xs n) ss))

-- the first such one
abbrev pub first_new : List Node → List Bool → List ℕ → List ℕ → Option ℕ
first_new xs t ss [] = None
first_new xs t ss (n ∷ ns) = if is_new xs t ss n then Some n else first_new xs t ss ns

-- A search came to these seats, and is still to go on from the computeds on its trail: none of those who have the seats must run, and but for
-- those on the trail each keeps only marked computeds whose seats it came to.
pub record Reaches (xs : List Node) (t : List Bool) (g : ℕ) (seats trail : List ℕ) : Type 0 where
  pub calm : (m : ℕ) → is_computed_body (body_at xs m) ≡ true → is_in (seat_at xs m) seats ≡ true → is_due_at xs g m ≡ false
  pub closed : (m p : ℕ) → is_computed_body (body_at xs m) ≡ true → is_in (seat_at xs m) seats ≡ true → keeps (memos_of g xs) m p ≡ true →
      is_computed_body (body_at xs p) ≡ true → marked_at t p ≡ true → (is_in (seat_at xs p) seats ≡ true) ⊎ (is_in m trail ≡ true)

-- A trail leads from a computed back to where it began: each on it is kept by the one behind it.
abbrev pub IsWay : List Node → ℕ → ℕ → List ℕ → Type 0
IsWay xs g root [] = Unit {0}
IsWay xs g root (n ∷ []) = n ≡ root
IsWay xs g root (n ∷ m ∷ ms) = (keeps (memos_of g xs) m n ≡ true) × IsWay xs g root (m ∷ ms)

-- each of these, or something below it, must run
abbrev pub AreDue : List Node → ℕ → List ℕ → Type 0
AreDue xs g [] = Unit {0}
AreDue xs g (n ∷ ns) = HasDue xs g n × AreDue xs g ns
