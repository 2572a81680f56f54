-- What is looked for, one fact further back.
use Rattle.std.proofs.Common.{◌≡◌, ℕ, ◌+◌, ◌-◌, ◌<◌, ◌≤◌, nat_lt, Bool, true, false, cond, List, ◌∷◌, length, get_or, refl, sym, ap, subst, ◌∙◌, arith}
use Rattle.std.proofs.lemmas.Bool.{cond_below, cond_above}
use Rattle.why_model.specs.Facts as plain
use Rattle.why_model.specs.Facts.{last_number}
use Rattle.live_why.specs.declared.facts.Fact.{Fact}
use Rattle.live_why.specs.Views.{fact_of, past}
use Rattle.live_why.proofs.SharedPasts.{past-more, length-past}
use Rattle.live_why.proofs.SharedSearches.{number_here, number_passed, past_back, there}
use Rattle.why_model.proofs.Shared.{number_inside}
use Rattle.why_check.specs.declared.looking.Wanted.{Wanted}
use Rattle.why_check.specs.Looking.{hits, is_hit_first}

-- what is looked for, at a place
pub hit_is : (fs : List Fact) (i n : ℕ) (w v : Wanted) (x y : Fact) (b : Bool) → i < length fs → x ≡ get_or fs i x → x ≡ y → w ≡ v →
    b ≡ hits v n (fact_of y) (past fs i) → b ≡ is_hit_first (hits w n) (past fs (i + 1))
hit_is fs i n w v x y b h is same kind q =
    q ∙ ap (λ z. hits v n (fact_of z) (past fs i)) (sym same)
    ∙ ap (λ u. hits u n (fact_of x) (past fs i)) (sym kind)
    ∙ sym (ap (is_hit_first (hits w n)) (past-more fs i x h is))

-- the last fact that passes is that at hand, where it does
pub hit_here : (test : plain.Fact → List plain.Fact → Bool) (fs : List Fact) (at : ℕ) (b : Bool) → 0 < at → at ≤ length fs →
    b ≡ is_hit_first test (past fs (at - 1 + 1)) → b ≡ true → last_number test (past fs at) ≡ at - 1 + 1
hit_here test fs at b pos le q t =
    let f : (x : Fact) × (x ≡ get_or fs (at - 1) x) = there fs (at - 1) (omega (arith, pos, le)) in
    let back : past fs at ≡ fact_of f.0 ∷ past fs (at - 1) = past_back fs at f.0 pos le f.1 in
    let e : at - 1 + 1 ≡ at = omega (arith, pos) in
    ap (last_number test) back
    ∙ number_here test (fact_of f.0) (past fs (at - 1)) (sym (ap (λ k. is_hit_first test (past fs k)) e ∙ ap (is_hit_first test) back) ∙ sym q ∙ t)
    ∙ ap (λ k. k + 1) (length-past fs (at - 1) (omega (arith, pos, le)))

-- else it is an earlier one
pub hit_passed : (test : plain.Fact → List plain.Fact → Bool) (fs : List Fact) (at : ℕ) (b : Bool) → 0 < at → at ≤ length fs →
    b ≡ is_hit_first test (past fs (at - 1 + 1)) → b ≡ false → last_number test (past fs at) ≡ last_number test (past fs (at - 1))
hit_passed test fs at b pos le q t =
    let f : (x : Fact) × (x ≡ get_or fs (at - 1) x) = there fs (at - 1) (omega (arith, pos, le)) in
    let back : past fs at ≡ fact_of f.0 ∷ past fs (at - 1) = past_back fs at f.0 pos le f.1 in
    let e : at - 1 + 1 ≡ at = omega (arith, pos) in
    ap (last_number test) back
    ∙ number_passed test (fact_of f.0) (past fs (at - 1)) (sym (ap (λ k. is_hit_first test (past fs k)) e ∙ ap (is_hit_first test) back) ∙ sym q ∙ t)

-- a number is taken where it comes after another
pub taken : (since k n : ℕ) → since < k → n ≡ k → k ≡ cond (nat_lt since n) n 0
taken since k n h e = sym e ∙ cond_below since n n 0 (subst (λ x. since < x) (sym e) h)

-- where the search has come to an earlier fact, nothing is
pub nothing : (test : plain.Fact → List plain.Fact → Bool) (fs : List Fact) (at since n : ℕ) → at ≤ length fs → at ≤ since →
    last_number test (past fs at) ≡ n → 0 ≡ cond (nat_lt since n) n 0
nothing test fs at since n le h e =
    let k : last_number test (past fs at) ≤ length (past fs at) = number_inside test (past fs at) in
    let s : length (past fs at) ≡ at = length-past fs at le in
    cond_above since n n 0 0 (omega (arith, k, s, h, e)) refl
