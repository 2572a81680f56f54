-- What is unmarked is clean.
use Rattle.std.proofs.Common.{◌≡◌, ℕ, zero, suc, ◌==◌, ◌||◌, ◌&&◌, not, Bool, true, false, cond, List, [], ◌∷◌, Option, Some, None, length, refl, sym, ap, ◌∙◌, subst, ◌⊎◌, inl, inr, true≢false}
use Rattle.std.proofs.lemmas.Bool.{eq-eqb}
use Rattle.signal_model.specs.Signals.{Signals, is_computed, is_in, standing}
use Rattle.signal_model.specs.Memos.{Source, Memo, Memos, memo_of, sources_in, sources_of, source_names, keeps, memo_is_cycle, must_run_by, must_run}
use Rattle.signal_model.specs.Marks.{Clean, Checked, Dirty, IsBelow, IsMark, kept, kept_below, is_due, some_source, due_below, mark_of}
use Rattle.signal_model.proofs.Shared.{mark_law, tested}
use Rattle.signal_model.specs.Kept.{OnlyComputedsKeep}
use Rattle.mark_laws.specs.Marked.{AreMarked, AreUnmarked, HasSpread, IsExplored, IsUnmarked, due_by_marks, mark_by_marks, without_marks}
use Rattle.mark_laws.proofs.Marks.{computed_stands}
use Rattle.signal_laws.proofs.Shared.{Calm, calm_of}
use Rattle.mark_laws.specs.MarkLaws.{PruneLaw, UnmarkedLaw, UnmarkLaw, SearchedLaw, LookLaw, ExploredLaw}

-- it needn't run
calm : (w : Signals) (k : Memos) (t : ℕ → Bool) (n : ℕ) → IsUnmarked w k t n → must_run k n [] ≡ false
calm w k t n x = ap (λ z. must_run_by k z []) x.at ∙ (λ i. cond (x.fine i) (not (x.memo.generation == k.generation)) (x.wired i || x.current i))

-- what isn't computed keeps nothing
keeps_none : (w : Signals) (k : Memos) (n : ℕ) → OnlyComputedsKeep w k → is_computed (standing w n) ≡ false → sources_of k n ≡ []
keeps_none w k n owners kind = go (memo_of k n) refl
  where
    go : (x : Option Memo) → memo_of k n ≡ x → sources_in x ≡ []
    go None at = refl
    go (Some m) at = absurd (true≢false (sym (owners n m at) ∙ kind))

none_of : (f : ℕ → Bool) (ss : List Source) → ((m : ℕ) → is_in m (source_names ss) ≡ true → f m ≡ false) → some_source f ss ≡ false
none_of f [] h = refl
none_of f (s ∷ ss) h =
    let here : f s.name ≡ false = h s.name (let e : (s.name == s.name) ≡ true = eq-eqb s.name s.name refl in rw e refl) in
    let rest : some_source f ss ≡ false = none_of f ss (λ m q. h m (later (m == s.name) (is_in m (source_names ss)) q)) in
    rw (here, rest) refl
  where
    later : (a b : Bool) → b ≡ true → (a || b) ≡ true
    later true b q = refl
    later false b q = q

-- it needn't run, whatever it is, and what it keeps needn't be looked at
here : (w : Signals) (k : Memos) (t : ℕ → Bool) (n : ℕ) (far : ℕ) → AreUnmarked w k t → OnlyComputedsKeep w k → (is_computed (standing w n) ≡ true → t n ≡ false) →
    (((m : ℕ) → is_in m (source_names (sources_of k n)) ≡ true → is_computed (standing w m) ≡ true → t m ≡ false) → due_below far w k n ≡ false) → (is_due w k n || due_below far w k n) ≡ false
here w k t n far clean owners off below = go (is_computed (standing w n)) refl
  where
    both : (a b : Bool) → a ≡ false → b ≡ false → (a || b) ≡ false
    both a b x y = rw (x, y) refl

    go : (b : Bool) → is_computed (standing w n) ≡ b → (is_due w k n || due_below far w k n) ≡ false
    go false e =
        let none : sources_of k n ≡ [] = keeps_none w k n owners e in
        both (is_due w k n) (due_below far w k n) (ap (λ z. z && must_run k n []) e) (below (λ m q. absurd (true≢false (sym q ∙ ap (λ ss. is_in m (source_names ss)) none))))
    go true e =
        let x : IsUnmarked w k t n = clean n e (off e) in
        both (is_due w k n) (due_below far w k n) (ap (λ z. z && must_run k n []) e ∙ calm w k t n x) (below (λ m q c. x.sources m (sym (ap (λ z. is_in m (source_names (sources_in z))) x.at) ∙ q) c))

-- neither it nor anything below it must run
pub still : (far : ℕ) (w : Signals) (k : Memos) (t : ℕ → Bool) (n : ℕ) → AreUnmarked w k t → OnlyComputedsKeep w k → (is_computed (standing w n) ≡ true → t n ≡ false) → (is_due w k n || due_below far w k n) ≡ false
still zero w k t n clean owners off = here w k t n zero clean owners off (λ h. refl)
still (suc far) w k t n clean owners off = here w k t n (suc far) clean owners off (λ h. none_of (λ m. is_due w k m || due_below far w k m) (sources_of k n) (λ m q. still far w k t m clean owners (h m q)))

pub prune_law : PruneLaw
prune_law w k dependants t computing n far marks kind off = still far w k t n marks.clean marks.owners (λ z. off)

pub unmarked_law : UnmarkedLaw
unmarked_law w k dependants t computing n marks kind off =
    let due : must_run k n [] ≡ false = calm w k t n (marks.clean n kind off) in
    let below : due_below (length w.computeds) w k n ≡ false = snd (is_due w k n) (due_below (length w.computeds) w k n) (still (length w.computeds) w k t n marks.clean marks.owners (λ z. off)) in
    (λ i. cond (due i) Dirty (cond (below i) Checked Clean))
  where
    snd : (a b : Bool) → (a || b) ≡ false → b ≡ false
    snd true b h = cc
    snd false b h = h

pub unmark_law : UnmarkLaw
unmark_law w k dependants t computing unmarked idle fine marks = record {
  links = marks.links;
  clean = λ n kind off. go n kind (tested (unmarked n)) off;
  running = λ n q. elim (tested (unmarked n)) [
    | inl on ↦ absurd (true≢false (sym q ∙ idle n on))
    | inr no' ↦ ap (λ b. cond b false (t n)) no' ∙ marks.running n q
  ];
  owners = marks.owners;
}
  where
    less : (m : ℕ) → t m ≡ false → without_marks t unmarked m ≡ false
    less m h = both (unmarked m)
      where
        both : (b : Bool) → cond b false (t m) ≡ false
        both true = refl
        both false = h

    go : (n : ℕ) → is_computed (standing w n) ≡ true → (unmarked n ≡ true) ⊎ (unmarked n ≡ false) → without_marks t unmarked n ≡ false → IsUnmarked w k (without_marks t unmarked) n
    go n kind (inl on) off = fine n kind on
    go n kind (inr no') off =
        let x : IsUnmarked w k t n = marks.clean n kind (sym (ap (λ b. cond b false (t n)) no') ∙ off) in
        record { memo = x.memo; at = x.at; fine = x.fine; wired = x.wired; current = x.current; sources = λ m q c. less m (x.sources m q c) }

-- what a search went through without finding anything due is what unmarked computeds are, once its marks are gone
pub searched_law : SearchedLaw
searched_law w k dependants t computing unmarked s marks = unmark_law w k dependants t computing unmarked s.idle fine marks
  where
    fine : (n : ℕ) → is_computed (standing w n) ≡ true → unmarked n ≡ true → IsUnmarked w k (without_marks t unmarked) n
    fine n kind on = go (calm_of k n (s.calm n kind on))
      where
        off : (m : ℕ) → keeps k n m ≡ true → is_computed (standing w m) ≡ true → (unmarked m ≡ true) ⊎ (unmarked m ≡ false) → (t m ≡ true) ⊎ (t m ≡ false) →
            without_marks t unmarked m ≡ false
        off m isin c (inl gone) u = ap (λ b. cond b false (t m)) gone
        off m isin c (inr stays) (inl marked) = absurd (true≢false (sym (s.closed n m kind on isin c marked) ∙ stays))
        off m isin c (inr stays) (inr unmarked) = ap (λ b. cond b false (t m)) stays ∙ unmarked

        go : Calm k n → IsUnmarked w k (without_marks t unmarked) n
        go q = elim q.case [
          | inl cy ↦ absurd (true≢false (sym cy.0 ∙ sym (ap memo_is_cycle q.at) ∙ s.fine n kind on))
          | inr ok ↦ record {
            memo = q.memo;
            at = q.at;
            fine = ok.0;
            wired = ok.1;
            current = ok.2;
            sources = λ m isin c. off m (ap (λ x. is_in m (source_names (sources_in x))) q.at ∙ isin) c (tested (unmarked m)) (tested (t m));
          }
        ]

-- a search below finds the same where what is unmarked is passed over
below_same : (far : ℕ) (w : Signals) (k : Memos) (t : ℕ → Bool) (n : ℕ) → AreUnmarked w k t → OnlyComputedsKeep w k → due_by_marks far w k t n ≡ due_below far w k n
below_same zero w k t n clean owners = refl
below_same (suc far) w k t n clean owners = each (λ m. below_same far w k t m clean owners) (sources_of k n)
  where
    one : ((m : ℕ) → due_by_marks far w k t m ≡ due_below far w k m) → (m : ℕ) → (t m ≡ true) ⊎ (t m ≡ false) →
        (t m && (is_due w k m || due_by_marks far w k t m)) ≡ (is_due w k m || due_below far w k m)
    one same m (inl on) = (λ i. on i && (is_due w k m || same m i))
    one same m (inr off) = ap (λ b. b && (is_due w k m || due_by_marks far w k t m)) off ∙ sym (still far w k t m clean owners (λ z. off))

    each : ((m : ℕ) → due_by_marks far w k t m ≡ due_below far w k m) → (ss : List Source) →
        some_source (λ m. t m && (is_due w k m || due_by_marks far w k t m)) ss ≡ some_source (λ m. is_due w k m || due_below far w k m) ss
    each same [] = refl
    each same (s ∷ ss) = (λ i. one same s.name (tested (t s.name)) i || each same ss i)

-- so marks are found through what is marked
pub look_law : LookLaw
look_law w k dependants t computing n marks kind = go (tested (t n))
  where
    below : due_by_marks (length w.computeds) w k t n ≡ due_below (length w.computeds) w k n
    below = below_same (length w.computeds) w k t n marks.clean marks.owners

    go : (t n ≡ true) ⊎ (t n ≡ false) → mark_by_marks w k t n ≡ mark_of w k n
    go (inl on) = (λ i. cond (on i) (cond (must_run k n []) Dirty (cond (below i) Checked Clean)) Clean)
    go (inr off) = ap (λ b. cond b (cond (must_run k n []) Dirty (cond (due_by_marks (length w.computeds) w k t n) Checked Clean)) Clean) off
        ∙ sym (unmarked_law w k dependants t computing n marks kind off)

-- what keeps something is a computed
pub keeper : (w : Signals) (k : Memos) (p m : ℕ) → OnlyComputedsKeep w k → keeps k p m ≡ true → is_computed (standing w p) ≡ true
keeper w k p m owners h = go (memo_of k p) refl h
  where
    go : (x : Option Memo) → memo_of k p ≡ x → is_in m (source_names (sources_in x)) ≡ true → is_computed (standing w p) ≡ true
    go None e on = cc on
    go (Some memo) e on = owners p memo e

below_keeper : (w : Signals) (k : Memos) (p m : ℕ) → OnlyComputedsKeep w k → IsBelow k p m → is_computed (standing w p) ≡ true
below_keeper w k p m owners (kept on) = keeper w k p m owners on
below_keeper w k p m owners (kept_below {p = q} on rest) = keeper w k p q owners on

-- where n is marked already, so are its dependants
pub marked_spread : (w : Signals) (k : Memos) (dependants : ℕ → ℕ → Bool) (t computing : ℕ → Bool) (n : ℕ) → AreMarked w k dependants t computing → is_computed (standing w n) ≡ true → t n ≡ true →
    HasSpread w dependants t t n
marked_spread w k dependants t computing n marks kind on = record {
  more = λ m q. q;
  start = λ d q. go d q (tested (t d));
  on = λ m d c off now q. absurd (true≢false (sym now ∙ off));
}
  where
    go : (d : ℕ) → dependants n d ≡ true → (t d ≡ true) ⊎ (t d ≡ false) → t d ≡ true
    go d q (inl is_on) = is_on
    go d q (inr off) =
        let has : keeps k d n ≡ true = sym (marks.links n d (computed_stands (standing w n) kind)) ∙ q in
        let x : IsUnmarked w k t d = marks.clean d (keeper w k d n marks.owners has) off in
        absurd (true≢false (sym on ∙ x.sources n (sym (ap (λ z. is_in n (source_names (sources_in z))) x.at) ∙ has) kind))

-- a name that is marked only where it was gone through isn't due
not_due : (w : Signals) (k : Memos) (t seen : ℕ → Bool) (n m : ℕ) → AreUnmarked w k t → OnlyComputedsKeep w k → IsExplored w k t seen n →
    (is_computed (standing w m) ≡ true → t m ≡ true → seen m ≡ true) → is_due w k m ≡ false
not_due w k t seen n m clean owners x on = go (is_computed (standing w m)) refl (tested (t m))
  where
    fst : (a b : Bool) → (a || b) ≡ false → a ≡ false
    fst true b h = cc
    fst false b h = refl

    go : (b : Bool) → is_computed (standing w m) ≡ b → (t m ≡ true) ⊎ (t m ≡ false) → is_due w k m ≡ false
    go false e s = ap (λ z. z && must_run k m []) e
    go true e (inl marked) = (λ i. e i && x.calm m e (on e marked) i)
    go true e (inr off) = fst (is_due w k m) (due_below zero w k m) (still zero w k t m clean owners (λ z. off))

pub explored_law : ExploredLaw
explored_law w k dependants t computing seen n marks x m (kept on) = not_due w k t seen n m marks.clean marks.owners x (x.here m on)
explored_law w k dependants t computing seen n marks x m (kept_below {p = p} on rest) =
    let c : is_computed (standing w p) ≡ true = below_keeper w k p m marks.owners rest in
    elim (tested (t p)) [
      | inl marked ↦ explored_law w k dependants t computing seen p marks
          (record { here = λ q keeps' cq tq. x.closed p q c (x.here p on c marked) keeps' cq tq; calm = x.calm; closed = x.closed }) m rest
      | inr off ↦
          (subst (IsMark w k p) (unmarked_law w k dependants t computing p marks c off) (mark_law w k p Clean marks.owners).0).1 m rest
    ]
