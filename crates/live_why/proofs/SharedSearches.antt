-- Searches among facts, one fact further back.
use Rattle.std.proofs.Common.{◌≡◌, ℕ, zero, suc, ◌+◌, ◌-◌, ◌<◌, ◌≤◌, ◌==◌, Bool, true, false, cond, List, [], ◌∷◌, length, get_or, Some, None, refl, ap, ◌∙◌, arith}
use Rattle.effect_model.specs.declared.how.How.{How}
use Rattle.why_model.specs.Facts as plain
use Rattle.why_model.specs.Facts.{last_run, last_number}
use Rattle.sig_computed.specs.declared.notes.RunNote.{RunNote}
use Rattle.live_why.specs.declared.facts.Fact.{Fact}
use Rattle.live_why.specs.declared.facts.Fact.TheVariants.{Change, Run}
use Rattle.live_why.specs.Views.{note_of, fact_of, past}
use Rattle.live_why.proofs.SharedPasts.{past-more, past-none, length-past}

-- ---- over plain facts

-- a fact that passes is found first
pub number_here : (test : plain.Fact → List plain.Fact → Bool) (f : plain.Fact) (earlier : List plain.Fact) → test f earlier ≡ true →
    last_number test (f ∷ earlier) ≡ length earlier + 1
number_here test f earlier h = ap (λ b. cond b (length earlier + 1) (last_number test earlier)) h

-- one that doesn't is passed
pub number_passed : (test : plain.Fact → List plain.Fact → Bool) (f : plain.Fact) (earlier : List plain.Fact) → test f earlier ≡ false →
    last_number test (f ∷ earlier) ≡ last_number test earlier
number_passed test f earlier h = ap (λ b. cond b (length earlier + 1) (last_number test earlier)) h

-- ---- over the facts of a slice

-- the facts up to the one before a place
pub past_back : (fs : List Fact) (at : ℕ) (x : Fact) → 0 < at → at ≤ length fs → x ≡ get_or fs (at - 1) x → past fs at ≡ fact_of x ∷ past fs (at - 1)
past_back fs at x pos le is =
    let e : at ≡ at - 1 + 1 = omega (arith, pos) in
    ap (past fs) e ∙ past-more fs (at - 1) x (omega (arith, pos, le)) is

-- at a place there is a fact
pub there : (fs : List Fact) (i : ℕ) → i < length fs → (x : Fact) × (x ≡ get_or fs i x)
there [] i h = absurd (omega (arith, h))
there (x ∷ xs) zero h = (x, refl)
there (x ∷ xs) (suc i) h = there xs i (omega (arith, h))

-- the last run is the fact at hand, where that is one
pub run_here : (fs : List Fact) (at n : ℕ) (x : Fact) (r : RunNote) → 0 < at → at ≤ length fs → x ≡ get_or fs (at - 1) x → x ≡ Run r →
    (n == r.id) ≡ true → last_run n (past fs at) ≡ Some (record { number = at - 1 + 1; note = note_of r })
run_here fs at n x r pos le is run q =
    ap (last_run n) (past_back fs at x pos le is)
    ∙ ap (λ y. last_run n (fact_of y ∷ past fs (at - 1))) run
    ∙ ap (λ b. cond b (Some (record { number = length (past fs (at - 1)) + 1; note = note_of r })) (last_run n (past fs (at - 1)))) q
    ∙ ap (λ k. Some (record { number = k + 1; note = note_of r })) (length-past fs (at - 1) (omega (arith, pos, le)))

-- else it is an earlier one
pub run_passed : (fs : List Fact) (at n : ℕ) (x : Fact) (r : RunNote) → 0 < at → at ≤ length fs → x ≡ get_or fs (at - 1) x → x ≡ Run r →
    (n == r.id) ≡ false → last_run n (past fs at) ≡ last_run n (past fs (at - 1))
run_passed fs at n x r pos le is run q =
    ap (last_run n) (past_back fs at x pos le is)
    ∙ ap (λ y. last_run n (fact_of y ∷ past fs (at - 1))) run
    ∙ ap (λ b. cond b (Some (record { number = length (past fs (at - 1)) + 1; note = note_of r })) (last_run n (past fs (at - 1)))) q

-- so it is at a change
pub change_passed : (fs : List Fact) (at n : ℕ) (x : Fact) (m : ℕ) (how : How) → 0 < at → at ≤ length fs → x ≡ get_or fs (at - 1) x →
    x ≡ Change m how → last_run n (past fs at) ≡ last_run n (past fs (at - 1))
change_passed fs at n x m how pos le is change =
    ap (last_run n) (past_back fs at x pos le is) ∙ ap (λ y. last_run n (fact_of y ∷ past fs (at - 1))) change

-- before the first fact nothing has run
pub none_run : (fs : List Fact) (at n : ℕ) → at ≤ 0 → last_run n (past fs at) ≡ None
none_run fs at n h =
    let e : at ≡ 0 = omega (arith, h) in
    ap (λ k. last_run n (past fs k)) e ∙ ap (last_run n) (past-none fs)
