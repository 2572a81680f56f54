-- What facts tell after one more of them.
use Rattle.std.proofs.Common.{◌≡◌, ℕ, ◌+◌, ◌≤◌, ◌==◌, ◌||◌, nat_lt, Bool, true, false, cond, List, [], ◌∷◌, length, Option, Some, None, refl, sym, ap, ◌∙◌, arith}
use Rattle.std.specs.List.{AllByRecursion}
use Rattle.std.proofs.lemmas.Bool.{lt-ltb, le-ltb}
use Rattle.signal_model.specs.Memos.{Source, Memo, Memos, number_of, memo_of, differs}
use Rattle.signal_model.specs.Sound.{IsPast, ArePast}
use Rattle.why_model.specs.Facts.{Fact, was_changed, has_run, Found, last_run, last_number, moves, rewires}
use Rattle.why_model.proofs.Shared.{number_inside}
use Rattle.why_laws.specs.Ties.{comes_after, IsTied}

-- the last run is one of the facts
pub run_inside : (n : ℕ) (js : List Fact) (p : Found) → last_run n js ≡ Some p → p.number ≤ length js
run_inside n [] p h = cc
run_inside n (was_changed m how ∷ earlier) p h = let k : p.number ≤ length earlier = run_inside n earlier p h in omega (arith, k)
run_inside n (has_run r ∷ earlier) p h = go (n == r.name) (run_inside n earlier p) h
  where
    go : (b : Bool) → (last_run n earlier ≡ Some p → p.number ≤ length earlier) →
        cond b (Some (record { number = length earlier + 1; note = r })) (last_run n earlier) ≡ Some p → p.number ≤ length (has_run r ∷ earlier)
    go true rest e =
        let q : record { number = length earlier + 1; note = r } ≡ p = cc in
        let k : length earlier + 1 ≡ p.number = ap (λ (x : Found). x.number) q in
        omega (arith, k)
    go false rest e = let k : p.number ≤ length earlier = rest e in omega (arith, k)

-- a fact that passes comes after all that were there before
pub since_more : (test : Fact → List Fact → Bool) (f : Fact) (js : List Fact) (i : ℕ) → i ≤ length js →
    comes_after i test (f ∷ js) ≡ (test f js || comes_after i test js)
since_more test f js i h = go (test f js)
  where
    go : (b : Bool) → nat_lt i (cond b (length js + 1) (last_number test js)) ≡ (b || nat_lt i (last_number test js))
    go true = lt-ltb i (length js + 1) (omega (arith, h))
    go false = refl

-- and none comes after the last
pub since_last : (test : Fact → List Fact → Bool) (f : Fact) (js : List Fact) → comes_after (length js + 1) test (f ∷ js) ≡ false
since_last test f js =
    le-ltb (length js + 1) (last_number test (f ∷ js)) (let k : last_number test (f ∷ js) ≤ length (f ∷ js) = number_inside test (f ∷ js) in omega (arith, k))

-- ---- a memo after one more fact, which isn't a run of its computed

-- a memo that was perhaps rewired
abbrev pub marked : Bool → Option Memo → Option Memo
marked b None = None
marked b (Some e) = Some (record e { rewired = b || e.rewired })

-- a fact moves just what has another number from then on
abbrev pub Tells : Memos → Memos → Fact → List Fact → Type 0
Tells k k' f js = (s : Source) → IsPast s.number (number_of k s.name) → differs k' s ≡ (moves s.name f js || differs k s)

-- so it is of the sources of a memo
sources_more : (k k' : Memos) (f : Fact) (js : List Fact) (i : ℕ) (ss : List Source) → i ≤ length js → Tells k k' f js → ArePast k ss →
    AllByRecursion (λ (s : Source). comes_after i (moves s.name) js ≡ differs k s) ss →
    AllByRecursion (λ (s : Source). comes_after i (moves s.name) (f ∷ js) ≡ differs k' s) ss
sources_more k k' f js i [] le t past h = tt
sources_more k k' f js i (s ∷ ss) le t past h = (
  since_more (moves s.name) f js i le ∙ ap (λ b. moves s.name f js || b) h.0 ∙ sym (t s past.0),
  sources_more k k' f js i ss le t past.1 h.1,
)

-- and of the memo
pub tied_more : (k k' : Memos) (f : Fact) (js : List Fact) (n : ℕ) (b : Bool) → memo_of k' n ≡ marked b (memo_of k n) →
    last_run n (f ∷ js) ≡ last_run n js → rewires n f js ≡ b → Tells k k' f js → ((e : Memo) → memo_of k n ≡ Some e → ArePast k e.sources) →
    IsTied k js n (memo_of k n) (last_run n js) → IsTied k' (f ∷ js) n (memo_of k' n) (last_run n (f ∷ js))
tied_more k k' f js n b memo run mark t past tied =
    rw (memo, run) (go (memo_of k n) (last_run n js) refl refl tied)
  where
    go : (x : Option Memo) (y : Option Found) → memo_of k n ≡ x → last_run n js ≡ y → IsTied k js n x y → IsTied k' (f ∷ js) n (marked b x) y
    go None None e r h = tt
    go (Some m) (Some p) e r h = record {
      outcome = h.outcome;
      reads = h.reads;
      rewired = since_more (rewires n) f js p.number (run_inside n js p r) ∙ ap (λ x. x || comes_after p.number (rewires n) js) mark
          ∙ ap (λ x. b || x) h.rewired;
      moved = λ fine. sources_more k k' f js p.number m.sources (run_inside n js p r) t (past m e) (h.moved fine);
    }
    go None (Some p) e r h = h
    go (Some m) None e r h = h
