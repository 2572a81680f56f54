-- A search that goes from one computed to the next.
use Rattle.std.proofs.Common.{◌≡◌, ℕ, zero, suc, ◌+◌, ◌<◌, ◌≤◌, ◌==◌, ◌||◌, ◌&&◌, not, Bool, true, false, if◌then◌else◌, List, [], ◌∷◌, ◌++◌, length, drop, Some, None, refl, sym, ap, ◌∙◌, subst, arith, ◌⊎◌, inl, inr, true≢false}
use Rattle.std.specs.Prelude.{slice_index_or}
use Rattle.std.proofs.lemmas.Bool.{eqb-true, eq-eqb}
use Rattle.sig_base.specs.declared.limits.TheConstants.{MOST_NODES}
use Rattle.signal_model.specs.Signals.{is_in}
use Rattle.signal_model.specs.Marks.{IsBelow, Clean, mark_of}
use Rattle.signal_model.specs.Memos.{keeps, source_names, sources_in}
use Rattle.signal_model.proofs.Shared.{either, mark_law}
use Rattle.mark_laws.proofs.Shared.{explored_law}
use Rattle.sig_marks.specs.Tables.{MarkTable, depends, marked_at}
use Rattle.sig_nodes.specs.declared.node.Node.{Node}
use Rattle.sig_nodes.specs.Nodes.{body_at, is_computed_body, memo_body, seat_at}
use Rattle.sig_graph.specs.Parts.{memos_of, signals_of, state_of}
use Rattle.sig_graph.specs.Places.{KeepsMarks}
use Rattle.sig_graph.specs.States.{is_computing}
use Rattle.sig_graph.specs.Search.{first_new, is_due_at, is_new, AreDue, AreSeated, HasDue, IsWay, Reaches}
use Rattle.sig_graph.proofs.Consistency.{computed_here}
use Rattle.sig_graph.proofs.Parts.{memo_found}
use Rattle.sig_graph.proofs.Searches.{calm_run, due_below, only_keep}
use Rattle.sig_seats.proofs.Shared.{in_more}

-- ---- what is new

pub first_step : (xs : List Node) (t : List Bool) (ss ns : List ℕ) (i n : ℕ) → i < length ns → n ≡ slice_index_or ns i n →
    first_new xs t ss (drop i ns) ≡ (if is_new xs t ss n then Some n else first_new xs t ss (drop (i + 1) ns))
first_step xs t ss [] i n l e = absurd (omega arith)
first_step xs t ss (m ∷ ns) zero n l e = ap (λ k. if is_new xs t ss k then Some k else first_new xs t ss ns) (sym e)
first_step xs t ss (m ∷ ns) (suc i) n l e =
    let k : i < length ns = omega arith in
    let s : suc i + 1 ≡ suc (i + 1) = omega arith in
    rw s (first_step xs t ss ns i n k e)

pub first_end : (xs : List Node) (t : List Bool) (ss ns : List ℕ) (i : ℕ) → length ns ≤ i → first_new xs t ss (drop i ns) ≡ None
first_end xs t ss [] zero l = refl
first_end xs t ss [] (suc i) l = refl
first_end xs t ss (m ∷ ns) zero l = absurd (omega arith)
first_end xs t ss (m ∷ ns) (suc i) l = let k : length ns ≤ i = omega arith in first_end xs t ss ns i k

-- a source that is kept
pub keeps_name : (xs : List Node) (g n p : ℕ) → keeps (memos_of g xs) n p ≡ is_in p (source_names (sources_in (memo_body (body_at xs n))))
keeps_name xs g n p = ap (λ o. is_in p (source_names (sources_in o))) (memo_found xs g n)

-- a new one among these
pub record IsNewAmong (xs : List Node) (t : List Bool) (ss ns : List ℕ) (n : ℕ) : Type 0 where
  pub among : is_in n ns ≡ true
  pub live : is_computed_body (body_at xs n) ≡ true
  pub fresh : is_in (seat_at xs n) ss ≡ false

first_step_found : (xs : List Node) (t : List Bool) (ss ns : List ℕ) (m n : ℕ) (b : Bool) → is_new xs t ss m ≡ b → (Some n ≡ first_new xs t ss ns → IsNewAmong xs t ss ns n) →
    Some n ≡ (if b then Some m else first_new xs t ss ns) → IsNewAmong xs t ss (m ∷ ns) n
first_step_found xs t ss ns m n true at rest q =
    let same : n ≡ m = cc in
    let p : (is_computed_body (body_at xs m) ≡ true) × (is_in (seat_at xs m) ss ≡ false) = parts (marked_at t m) (is_computed_body (body_at xs m)) (is_in (seat_at xs m) ss) at in
    record {
      among = ap (λ b. b || is_in n ns) (eq-eqb n m same);
      live = ap (λ k. is_computed_body (body_at xs k)) same ∙ p.0;
      fresh = ap (λ k. is_in (seat_at xs k) ss) same ∙ p.1;
    }
  where
    parts : (a b c : Bool) → (a && (b && not c)) ≡ true → (b ≡ true) × (c ≡ false)
    parts true true true q = cc
    parts true true false q = (refl, refl)
    parts true false c q = cc
    parts false b c q = cc
first_step_found xs t ss ns m n false at rest q =
    let r : IsNewAmong xs t ss ns n = rest q in
    record { among = later (n == m) (is_in n ns) r.among; live = r.live; fresh = r.fresh }
  where
    later : (a b : Bool) → b ≡ true → (a || b) ≡ true
    later true b q = refl
    later false b q = q

pub first_found : (xs : List Node) (t : List Bool) (ss ns : List ℕ) (n : ℕ) → Some n ≡ first_new xs t ss ns → IsNewAmong xs t ss ns n
first_found xs t ss [] n e = cc
first_found xs t ss (m ∷ ns) n e = first_step_found xs t ss ns m n (is_new xs t ss m) refl (first_found xs t ss ns n) e

-- where there is none, the seat of each marked computed among these was reached
none_step_found : (xs : List Node) (t : List Bool) (ss ns : List ℕ) (m p : ℕ) (b : Bool) → is_new xs t ss m ≡ b → (None ≡ first_new xs t ss ns → is_in p ns ≡ true → is_in (seat_at xs p) ss ≡ true) →
    None ≡ (if b then Some m else first_new xs t ss ns) → is_in p (m ∷ ns) ≡ true → is_computed_body (body_at xs p) ≡ true → marked_at t p ≡ true → is_in (seat_at xs p) ss ≡ true
none_step_found xs t ss ns m p true at rest q among live mark = cc
none_step_found xs t ss ns m p false at rest q among live mark = elim (either (p == m) (is_in p ns) among) [
  | inl same ↦ old (marked_at t p) (is_computed_body (body_at xs p)) (is_in (seat_at xs p) ss) (ap (is_new xs t ss) (eqb-true p m same) ∙ at) live mark
  | inr more ↦ rest q more
]
  where
    old : (a b c : Bool) → (a && (b && not c)) ≡ false → b ≡ true → a ≡ true → c ≡ true
    old true true true q h k = refl
    old true true false q h k = cc
    old true false c q h k = cc
    old false b c q h k = cc

pub none_found : (xs : List Node) (t : List Bool) (ss ns : List ℕ) (p : ℕ) → None ≡ first_new xs t ss ns → is_in p ns ≡ true → is_computed_body (body_at xs p) ≡ true → marked_at t p ≡ true →
    is_in (seat_at xs p) ss ≡ true
none_found xs t ss [] p e among live mark = cc
none_found xs t ss (m ∷ ns) p e among live mark = none_step_found xs t ss ns m p (is_new xs t ss m) refl (λ q more. none_found xs t ss ns p q more live mark) e among live mark

-- ---- where a search came to

no_more : (m n : ℕ) → is_in m (n ∷ []) ≡ true → m ≡ n
no_more m n h = eqb-true m n (go (m == n) h)
  where
    go : (b : Bool) → (b || false) ≡ true → b ≡ true
    go true q = refl
    go false q = q

-- it begins at a computed
pub reach_begin : (xs : List Node) (t : List Bool) (g n : ℕ) → AreSeated xs MOST_NODES → is_computed_body (body_at xs n) ≡ true → is_due_at xs g n ≡ false → Reaches xs t g (seat_at xs n ∷ []) (n ∷ [])
reach_begin xs t g n seated live calm = record {
  calm = λ m c h. ap (is_due_at xs g) (same m c h) ∙ calm;
  closed = λ m p c h k d mk. inr (ap (λ b. b || false) (eq-eqb m n (same m c h)));
}
  where
    same : (m : ℕ) → is_computed_body (body_at xs m) ≡ true → is_in (seat_at xs m) (seat_at xs n ∷ []) ≡ true → m ≡ n
    same m c h = seated.one m n c live (no_more (seat_at xs m) (seat_at xs n) h)

-- it is through with the computed where it is
pub reach_left : (xs : List Node) (t : List Bool) (g n : ℕ) (ss rest : List ℕ) → Reaches xs t g ss (n ∷ rest) →
    ((p : ℕ) → keeps (memos_of g xs) n p ≡ true → is_computed_body (body_at xs p) ≡ true → marked_at t p ≡ true → is_in (seat_at xs p) ss ≡ true) → Reaches xs t g ss rest
reach_left xs t g n ss rest r all = record {
  calm = r.calm;
  closed = λ m p c h k d mk. elim (r.closed m p c h k d mk) [
    | inl x ↦ inl x
    | inr way ↦ elim (either (m == n) (is_in m rest) way) [
      | inl same ↦ inl (all p (ap (λ z. keeps (memos_of g xs) z p) (sym (eqb-true m n same)) ∙ k) d mk)
      | inr on ↦ inr on
    ]
  ];
}

-- it goes to the next one
pub reach_next : (xs : List Node) (t : List Bool) (g n : ℕ) (ss way : List ℕ) → AreSeated xs MOST_NODES → is_computed_body (body_at xs n) ≡ true → is_due_at xs g n ≡ false → Reaches xs t g ss way →
    Reaches xs t g (ss ++ seat_at xs n ∷ []) (n ∷ way)
reach_next xs t g n ss way seated live calm r = record {
  calm = λ m c h. elim (split m c h) [ inl a ↦ r.calm m c a | inr same ↦ ap (is_due_at xs g) same ∙ calm ];
  closed = λ m p c h k d mk. elim (split m c h) [
    | inl a ↦ elim (r.closed m p c a k d mk) [
      | inl x ↦ inl (more (seat_at xs p) x)
      | inr y ↦ inr (later (m == n) (is_in m way) y)
    ]
    | inr same ↦ inr (ap (λ b. b || is_in m way) (eq-eqb m n same))
  ];
}
  where
    later : (a b : Bool) → b ≡ true → (a || b) ≡ true
    later true b q = refl
    later false b q = q

    first : (a b : Bool) → a ≡ true → (a || b) ≡ true
    first true b q = refl
    first false b q = cc

    more : (s : ℕ) → is_in s ss ≡ true → is_in s (ss ++ seat_at xs n ∷ []) ≡ true
    more s h = in_more s ss (seat_at xs n) ∙ first (is_in s ss) (s == seat_at xs n) h

    split : (m : ℕ) → is_computed_body (body_at xs m) ≡ true → is_in (seat_at xs m) (ss ++ seat_at xs n ∷ []) ≡ true → (is_in (seat_at xs m) ss ≡ true) ⊎ (m ≡ n)
    split m c h = elim (either (is_in (seat_at xs m) ss) (seat_at xs m == seat_at xs n) (sym (in_more (seat_at xs m) ss (seat_at xs n)) ∙ h)) [
      | inl a ↦ inl a
      | inr e ↦ inr (seated.one m n c live (eqb-true (seat_at xs m) (seat_at xs n) e))
    ]

-- it came to its end
pub clear_end : (xs : List Node) (t : List Bool) (g : ℕ) (ss : List ℕ) (m p : ℕ) → Reaches xs t g ss [] → is_computed_body (body_at xs m) ≡ true → is_in (seat_at xs m) ss ≡ true → keeps (memos_of g xs) m p ≡ true →
    is_computed_body (body_at xs p) ≡ true → marked_at t p ≡ true → is_in (seat_at xs p) ss ≡ true
clear_end xs t g ss m p r c h k d mk = elim (r.closed m p c h k d mk) [ inl x ↦ x | inr y ↦ absurd (true≢false (sym y)) ]

-- what it came to then tells that nothing below a computed must run, so that it is clean
pub reached_clean : (xs : List Node) (g : ℕ) (table : MarkTable) (n : ℕ) (ss : List ℕ) → KeepsMarks xs g table → is_computed_body (body_at xs n) ≡ true → is_due_at xs g n ≡ false → Reaches xs table.marked g ss [] →
    is_in (seat_at xs n) ss ≡ true → Clean ≡ mark_of (signals_of xs) (memos_of g xs) n
reached_clean xs g table n ss h live calm r listed = (mark_law (signals_of xs) (memos_of g xs) n Clean (only_keep xs g)).1 (calm_run xs g n live calm, below)
  where
    below : (m : ℕ) → IsBelow (memos_of g xs) n m → is_due_at xs g m ≡ false
    below m b =
        explored_law (signals_of xs) (memos_of g xs) (depends table.dependants) (marked_at table.marked) (is_computing (state_of xs g 0 0)) (λ k. is_in (seat_at xs k) ss) n h.marked (record {
          here = λ p k c mk. clear_end xs table.marked g ss n p r live listed k (computed_here xs p c) mk;
          calm = λ k c up. calm_run xs g k (computed_here xs k c) (r.calm k (computed_here xs k c) up);
          closed = λ k p c up has d mk. clear_end xs table.marked g ss k p r (computed_here xs k c) up has (computed_here xs p d) mk;
        }) m b

-- what was listed still is
pub listed_more : (s d : ℕ) (ss : List ℕ) → is_in s ss ≡ true → is_in s (ss ++ d ∷ []) ≡ true
listed_more s d ss h = in_more s ss d ∙ first (is_in s ss) (s == d) h
  where
    first : (a b : Bool) → a ≡ true → (a || b) ≡ true
    first true b q = refl
    first false b q = cc

pub way_left : (xs : List Node) (g root n : ℕ) (rest : List ℕ) → IsWay xs g root (n ∷ rest) → IsWay xs g root rest
way_left xs g root n [] w = tt
way_left xs g root n (m ∷ ms) w = w.1

-- where one must run, or something below it, so it is with all that lead there
pub way_due : (xs : List Node) (g root n : ℕ) (rest : List ℕ) → IsWay xs g root (n ∷ rest) → HasDue xs g n → AreDue xs g (n ∷ rest) × HasDue xs g root
way_due xs g root n [] w d = ((d, tt), subst (HasDue xs g) w d)
way_due xs g root n (m ∷ ms) w d =
    let r : AreDue xs g (m ∷ ms) × HasDue xs g root = way_due xs g root m ms w.1 (inr (due_below xs g m n w.0 d)) in
    ((d, r.0), r.1)
