-- The cause of a run is that for which it must be.
use Rattle.std.proofs.Common.{◌≡◌, ℕ, ◌==◌, ◌||◌, not, nat_lt, Bool, true, false, cond, List, [], ◌∷◌, Option, Some, None, refl, sym, ap, ◌∙◌, inl, inr}
use Rattle.std.specs.List.{AllByRecursion}
use Rattle.signal_model.specs.Signals.{is_in}
use Rattle.signal_model.specs.Memos.{Source, Memo, Memos, source_names, is_cycle, differs, is_moved, some_moved, must_run_by}
use Rattle.signal_laws.proofs.Shared.{in_head, in_tail}
use Rattle.why_model.specs.declared.causes.Cause.{Cause}
use Rattle.why_model.specs.declared.causes.Cause.TheVariants as cause
use Rattle.why_model.specs.Facts.{Fact, Found, last_number, moves, rewires}
use Rattle.why_model.specs.Chains.{first_moved, cause_after}
use Rattle.why_laws.specs.Ties.{comes_after, IsTied, IsFirstMoved, NoneMoved, IsMet, IsWhy}

-- what the first moved read says of the sources
abbrev IsMovedBy : Memos → List Source → Cause → Type 0
IsMovedBy k ss (cause.Changed n f) = IsFirstMoved k n ss
IsMovedBy k ss cause.Evaluating = NoneMoved k ss
IsMovedBy k ss _ = ⊥

-- one more source that hasn't moved
moved_later : (k : Memos) (s : Source) (ss : List Source) (c : Cause) → differs k s ≡ false → IsMovedBy k ss c → IsMovedBy k (s ∷ ss) c
moved_later k s ss (cause.Changed n f) off h = inr (off, h)
moved_later k s ss cause.Evaluating off h = (off, h)
moved_later k s ss cause.First off h = h
moved_later k s ss cause.Cycle off h = h
moved_later k s ss (cause.Rewired f) off h = h

first_is : (k : Memos) (js : List Fact) (i : ℕ) (ss : List Source) →
    AllByRecursion (λ (s : Source). comes_after i (moves s.name) js ≡ differs k s) ss → IsMovedBy k ss (first_moved i (source_names ss) js)
first_is k js i [] h = tt
first_is k js i (s ∷ ss) h = go (nat_lt i (last_number (moves s.name) js)) h.0 (first_is k js i ss h.1)
  where
    go : (b : Bool) → b ≡ differs k s → IsMovedBy k ss (first_moved i (source_names ss) js) →
        IsMovedBy k (s ∷ ss) (cond b (cause.Changed s.name (last_number (moves s.name) js)) (first_moved i (source_names ss) js))
    go true e rest = inl (sym e, refl)
    go false e rest = moved_later k s ss (first_moved i (source_names ss) js) (sym e) rest

-- where no source has moved, but one of them has or is being evaluated, one is being evaluated
met : (k : Memos) (path : List ℕ) (ss : List Source) → NoneMoved k ss → some_moved k path ss ≡ true → IsMet path ss
met k path [] h q = cc
met k path (s ∷ ss) h q = go (is_in s.name path) refl (met k path ss h.1)
  where
    go : (b : Bool) → is_in s.name path ≡ b → (some_moved k path ss ≡ true → IsMet path ss) → IsMet path (s ∷ ss)
    go true e rest = record { name = s.name; source = in_head s.name (source_names ss); evaluated = e }
    go false e rest =
        let here : is_moved k path s ≡ false = ap (λ x. x || is_in s.name path) h.0 ∙ e in
        let later : IsMet path ss = rest (sym (ap (λ x. x || some_moved k path ss) here) ∙ q) in
        record { name = later.name; source = in_tail later.name s.name (source_names ss) later.source; evaluated = later.evaluated }

-- the cause of a computed that must run
pub why : (k : Memos) (js : List Fact) (n : ℕ) (path : List ℕ) (x : Option Memo) (y : Option Found) → IsTied k js n x y →
    must_run_by k x path ≡ true → IsWhy k path x (cause_after n y js)
why k js n path None None t must = tt
why k js n path None (Some p) t must = absurd t
why k js n path (Some m) None t must = absurd t
why k js n path (Some m) (Some p) t must =
    rw (t.outcome, t.reads, t.rewired) (go (is_cycle m.outcome) m.rewired refl refl must)
  where
    moved : (c : Cause) → is_cycle m.outcome ≡ false → m.rewired ≡ false → some_moved k path m.sources ≡ true → IsMovedBy k m.sources c →
        IsWhy k path (Some m) c
    moved (cause.Changed x f) a b some h = (a, b, h)
    moved cause.Evaluating a b some h = (a, b, h, met k path m.sources h some)
    moved cause.First a b some h = absurd h
    moved cause.Cycle a b some h = absurd h
    moved (cause.Rewired f) a b some h = absurd h

    go : (a b : Bool) → is_cycle m.outcome ≡ a → m.rewired ≡ b →
        cond a (not (m.generation == k.generation)) (b || some_moved k path m.sources) ≡ true →
        IsWhy k path (Some m) (cond a cause.Cycle (cond b (cause.Rewired (last_number (rewires n) js)) (first_moved p.number (source_names m.sources) js)))
    go true b e f q = e
    go false true e f q = (e, f)
    go false false e f q = moved (first_moved p.number (source_names m.sources) js) e f q (first_is k js p.number m.sources (t.moved e))
