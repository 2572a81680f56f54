-- The laws of marks, over a state.
use Rattle.std.proofs.Common.{◌≡◌, ℕ, ◌==◌, Bool, true, false, cond, List, [], ◌∷◌, ◌++◌, Option, Some, None, refl, sym, ap, ◌∙◌, inl, inr}
use Rattle.std.specs.Prelude.{is_some}
use Rattle.std.proofs.lemmas.Bool.{eqb-true, eq-eqb}
use Rattle.sig_base.specs.declared.value.Known.{Known}
use Rattle.signal_model.specs.Signals.{Signals, changed, without}
use Rattle.signal_model.specs.Memos.{Memos}
use Rattle.signal_model.proofs.Shared.{tested}
use Rattle.sig_graph.specs.States.{State, Progress, progress_at, is_computing, with_disposal, with_new_computed, with_progress}
use Rattle.sig_graph.proofs.Shared.{progress_ended, progress_other}
use Rattle.mark_laws.specs.Marked.{AreMarked, with_flag}
use Rattle.mark_laws.proofs.Shared.{begin_marks_law, cell_marks_law, computed_marks_law, dispose_marks_law, rewire_marks_law, run_marks_law, searched_law, set_marks_law, stop_marks_law}
use Rattle.mark_laws.proofs.Shared as marks_of
use Rattle.sig_graph.specs.StateMarks.{BeginLaw, DisposeLaw, UnmarkLaw, KeepLaw, LookLaw, NewCellLaw, NewComputedLaw, OnwardLaw, RewireLaw, SetLaw, StopLaw}

-- ---- progress

-- it is gone
gone : (n : ℕ) (ps : List Progress) → progress_at n (without (λ (p : Progress). p.name) n ps) ≡ None
gone n [] = refl
gone n (p ∷ ps) = go (n == p.name) refl (gone n ps)
  where
    go : (b : Bool) → (n == p.name) ≡ b → progress_at n (without (λ (q : Progress). q.name) n ps) ≡ None →
        progress_at n (cond b (without (λ (q : Progress). q.name) n ps) (p ∷ without (λ (q : Progress). q.name) n ps)) ≡ None
    go true e ih = ih
    go false e ih = (λ i. cond (e i) p.known (ih i))

-- and another's is left
left : (m n : ℕ) (ps : List Progress) → (m == n) ≡ false → progress_at m (without (λ (p : Progress). p.name) n ps) ≡ progress_at m ps
left m n [] off = refl
left m n (p ∷ ps) off = go (n == p.name) refl (left m n ps off)
  where
    go : (b : Bool) → (n == p.name) ≡ b → progress_at m (without (λ (q : Progress). q.name) n ps) ≡ progress_at m ps →
        progress_at m (cond b (without (λ (q : Progress). q.name) n ps) (p ∷ without (λ (q : Progress). q.name) n ps)) ≡ progress_at m (p ∷ ps)
    go true e ih =
        let apart : (m == p.name) ≡ false = ap (λ y. m == y) (sym (eqb-true n p.name e)) ∙ off in
        ih ∙ (λ i. cond (sym apart i) p.known (progress_at m ps))
    go false e ih = ap (λ o. cond (m == p.name) p.known o) ih

-- one that isn't evaluated more
fresh : (m n : ℕ) (ps : List Progress) → is_some (progress_at m (ps ++ record { name = n; known = None } ∷ [])) ≡ is_some (progress_at m ps)
fresh m n [] = go (m == n)
  where
    nothing : Option (List Known)
    nothing = None

    go : (b : Bool) → is_some (cond b nothing nothing) ≡ false
    go true = refl
    go false = refl
fresh m n (p ∷ ps) = go (m == p.name) (fresh m n ps)
  where
    go : (b : Bool) → is_some (progress_at m (ps ++ record { name = n; known = None } ∷ [])) ≡ is_some (progress_at m ps) →
        is_some (cond b p.known (progress_at m (ps ++ record { name = n; known = None } ∷ []))) ≡ is_some (cond b p.known (progress_at m ps))
    go true ih = refl
    go false ih = ih

-- ---- who is computing

-- fewer are
fewer : (w : Signals) (k : Memos) (dependants : ℕ → ℕ → Bool) (t busy busy' : ℕ → Bool) → ((m : ℕ) → busy' m ≡ true → busy m ≡ true) → AreMarked w k dependants t busy →
    AreMarked w k dependants t busy'
fewer w k dependants t busy busy' less marks = record { links = marks.links; clean = marks.clean; running = λ n b. marks.running n (less n b); owners = marks.owners }

-- tests of two names are one
pub turned : (m n : ℕ) → (m == n) ≡ false → (n == m) ≡ false
turned m n off = elim (tested (n == m)) [ inr no' ↦ no' | inl on ↦ cc (sym (eq-eqb m n (sym (eqb-true n m on))) ∙ off) ]

-- once one ends
ended_busy : (s : State) (n m : ℕ) → is_computing (with_progress s n None) m ≡ true → with_flag (is_computing s) n false m ≡ true
ended_busy s n m b = elim (tested (m == n)) [
  | inl on ↦
      let e : m ≡ n = eqb-true m n on in
      cc (sym (ap is_some (ap (λ y. progress_at y (changed (λ (p : Progress). p.name) n (λ p. record p { known = None }) s.progress)) e ∙ progress_ended s n)) ∙ b)
  | inr off ↦ (λ i. cond (turned m n off i) false (is_computing s m)) ∙ sym (ap is_some (progress_other s n m None off)) ∙ b
]

-- once one begins
begun_busy : (s : State) (n m : ℕ) → is_computing (with_progress s n (Some [])) m ≡ true → with_flag (is_computing s) n true m ≡ true
begun_busy s n m b = elim (tested (m == n)) [
  | inl on ↦ (λ i. cond (eq-eqb n m (sym (eqb-true m n on)) i) true (is_computing s m))
  | inr off ↦ (λ i. cond (turned m n off i) true (is_computing s m)) ∙ sym (ap is_some (progress_other s n m (Some []) off)) ∙ b
]

-- once one goes on, or is given up
onward_busy : (s : State) (n m : ℕ) (known : Option (List Known)) → is_computing s n ≡ true → is_computing (with_progress s n known) m ≡ true → is_computing s m ≡ true
onward_busy s n m known on b = elim (tested (m == n)) [
  | inl same ↦ ap (is_computing s) (eqb-true m n same) ∙ on
  | inr off ↦ sym (ap is_some (progress_other s n m known off)) ∙ b
]

-- once one is gone
disposed_busy : (s : State) (n m : ℕ) → is_computing (with_disposal s n) m ≡ true → with_flag (is_computing s) n false m ≡ true
disposed_busy s n m b = elim (tested (m == n)) [
  | inl on ↦ cc (sym (ap is_some (ap (λ y. progress_at y (without (λ (p : Progress). p.name) n s.progress)) (eqb-true m n on) ∙ gone n s.progress)) ∙ b)
  | inr off ↦ (λ i. cond (turned m n off i) false (is_computing s m)) ∙ sym (ap is_some (left m n s.progress off)) ∙ b
]

-- ---- the laws

pub cell_law : NewCellLaw
cell_law s dependants t c unused none marks = cell_marks_law s.signals s.memos dependants t (is_computing s) c unused none marks

pub computed_law : NewComputedLaw
computed_law s dependants t c unused none on marks =
    let after = with_new_computed s c in
    fewer after.signals after.memos dependants t (is_computing s) (is_computing after) (λ m b. sym (fresh m c.name s.progress) ∙ b)
    (computed_marks_law s.signals s.memos dependants t (is_computing s) c unused none on marks)

pub set_law : SetLaw
set_law s dependants t u n c v st spread marks = set_marks_law s.signals s.memos dependants t u (is_computing s) n c v st marks spread

pub rewire_law : RewireLaw
rewire_law s dependants t u n c r st spread here marks = rewire_marks_law s.signals s.memos dependants t u (is_computing s) n c r st marks spread here

pub dispose_law : DisposeLaw
dispose_law s dependants t u n st spread marks =
    let after = with_disposal s n in
    let done = dispose_marks_law s.signals s.memos dependants t u (is_computing s) n st marks spread in
    record { links = done.links; clean = done.clean; running = λ m b. done.running m (disposed_busy s n m b); owners = done.owners }

pub begin_law : BeginLaw
begin_law s dependants t u n c st spread here marks =
    let done = begin_marks_law s.signals s.memos dependants t u (is_computing s) n c st marks spread here in
    record { links = done.links; clean = done.clean; running = λ m b. done.running m (begun_busy s n m b); owners = done.owners }

pub onward_law : OnwardLaw
onward_law s dependants t n known on marks = record {
  links = marks.links;
  clean = marks.clean;
  running = λ m b. marks.running m (onward_busy s n m known on b);
  owners = marks.owners;
}

pub keep_law : KeepLaw
keep_law s dependants t n c o reads e st at on marks =
    let done = run_marks_law s.signals s.memos dependants t (is_computing s) n c o reads e st on at marks in
    record { links = done.links; clean = done.clean; running = λ m b. done.running m (ended_busy s n m b); owners = done.owners }

pub stop_law : StopLaw
stop_law s dependants t n c st on marks =
    let done = stop_marks_law s.signals s.memos dependants t (is_computing s) n c st on marks in
    record { links = done.links; clean = done.clean; running = λ m b. done.running m (ended_busy s n m b); owners = done.owners }

pub unmark_law : UnmarkLaw
unmark_law s dependants t unmarked searched marks = searched_law s.signals s.memos dependants t (is_computing s) unmarked searched marks

pub look_law : LookLaw
look_law s dependants t n st marks = marks_of.look_law s.signals s.memos dependants t (is_computing s) n marks st
