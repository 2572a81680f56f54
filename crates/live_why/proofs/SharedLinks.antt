-- Links, from one fact on.
use Rattle.std.proofs.Common.{◌≡◌, ℕ, ◌+◌, ◌-◌, ◌<◌, ◌≤◌, ◌==◌, ◌↔◌, IsTrue, nat_lt, Bool, true, false, cond, List, [], ◌∷◌, ◌++◌, length, get_or, map, reverse, drop, Some, None, Option, refl, sym, ap, subst, ◌∙◌, arith}
use Rattle.std.proofs.lemmas.Bool.{eqb-true, eq-eqb, ltb-true}
use Rattle.std.proofs.lemmas.List.{at_drop_more}
use Rattle.signal_model.specs.Memos.{is_cycle}
use Rattle.why_model.specs.declared.causes.Cause.{Cause}
use Rattle.why_model.specs.declared.causes.Cause.TheVariants as cause
use Rattle.why_model.specs.declared.causes.Link.{Link}
use Rattle.effect_model.specs.declared.how.How.{How}
use Rattle.why_model.specs.Facts as plain
use Rattle.why_model.specs.Facts.{Found, last_run, last_number, moves, rewires}
use Rattle.why_model.specs.Chains.{first_moved, cause_since, cause_after, cause_of, moved_by, links_at, links_from, links_of, chain}
use Rattle.sig_computed.specs.declared.notes.RunNote.{RunNote}
use Rattle.live_why.specs.declared.facts.Fact.{Fact}
use Rattle.live_why.specs.declared.facts.Fact.TheVariants.{Change, Run}
use Rattle.live_why.specs.Views.{fact_of, facts_of, past}
use Rattle.live_why.proofs.SharedPasts.{past-more, past-all, past-part, length-past}
use Rattle.why_model.proofs.Shared.{number_inside}

-- ---- over plain facts

-- what moved a read is one of the facts
first_inside : (since : ℕ) (ms : List ℕ) (js : List plain.Fact) → moved_by (first_moved since ms js) ≤ length js
first_inside since [] js = omega arith
first_inside since (m ∷ ms) js = go (nat_lt since (last_number (moves m) js)) (first_inside since ms js)
  where
    go : (b : Bool) → moved_by (first_moved since ms js) ≤ length js →
        moved_by (cond b (cause.Changed m (last_number (moves m) js)) (first_moved since ms js)) ≤ length js
    go true h = number_inside (moves m) js
    go false h = h

since_inside : (n : ℕ) (p : Found) (js : List plain.Fact) → moved_by (cause_since n p js) ≤ length js
since_inside n p js = go (is_cycle p.note.outcome) (nat_lt p.number (last_number (rewires n) js))
  where
    go : (a b : Bool) → moved_by (cond a cause.Cycle (cond b (cause.Rewired (last_number (rewires n) js)) (first_moved p.number p.note.reads js))) ≤ length js
    go true b = omega arith
    go false true = omega arith
    go false false = first_inside p.number p.note.reads js

pub cause_inside : (n : ℕ) (js : List plain.Fact) → moved_by (cause_of n js) ≤ length js
cause_inside n js = go (last_run n js)
  where
    go : (o : Option Found) → moved_by (cause_after n o js) ≤ length js
    go None = omega arith
    go (Some p) = since_inside n p js

-- the links from an earlier fact don't see the later ones
past_front : (f : plain.Fact) (earlier : List plain.Fact) (j : ℕ) → j ≤ length earlier → links_from (f ∷ earlier) j ≡ links_from earlier j
past_front f earlier j h = go (j == length earlier + 1) refl
  where
    go : (b : Bool) → (j == length earlier + 1) ≡ b → cond b (links_at f earlier (links_from earlier)) (links_from earlier j) ≡ links_from earlier j
    go false e = refl
    go true e = let q : j ≡ length earlier + 1 = eqb-true j (length earlier + 1) e in absurd (omega (arith, h, q))

pub past_others : (later earlier : List plain.Fact) (j : ℕ) → j ≤ length earlier → links_from (later ++ earlier) j ≡ links_from earlier j
past_others [] earlier j h = refl
past_others (f ∷ later) earlier j h =
    past_front f (later ++ earlier) j (longer later) ∙ past_others later earlier j h
  where
    longer : (xs : List plain.Fact) → j ≤ length (xs ++ earlier)
    longer [] = h
    longer (x ∷ xs) = let k : j ≤ length (xs ++ earlier) = longer xs in omega (arith, k)

-- those from the fact at hand
at_hand : (f : plain.Fact) (earlier : List plain.Fact) → links_from (f ∷ earlier) (length earlier + 1) ≡ links_at f earlier (links_from earlier)
at_hand f earlier =
    ap (λ b. cond b (links_at f earlier (links_from earlier)) (links_from earlier (length earlier + 1)))
    (eq-eqb (length earlier + 1) (length earlier + 1) refl)

-- there is no fact of a number beyond
none_beyond : (js : List plain.Fact) (i : ℕ) → length js < i → links_from js i ≡ []
none_beyond [] i h = refl
none_beyond (f ∷ earlier) i h = go (i == length earlier + 1) refl (none_beyond earlier i (omega (arith, h)))
  where
    go : (b : Bool) → (i == length earlier + 1) ≡ b → links_from earlier i ≡ [] →
        cond b (links_at f earlier (links_from earlier)) (links_from earlier i) ≡ []
    go false e k = k
    go true e k = let q : i ≡ length earlier + 1 = eqb-true i (length earlier + 1) e in absurd (omega (arith, h, q))

-- and none of the number 0
none_zero : (js : List plain.Fact) → links_from js 0 ≡ []
none_zero [] = refl
none_zero (f ∷ earlier) = past_front f earlier 0 (omega arith) ∙ none_zero earlier

-- ---- over the facts of a slice

-- there are no links where there is no such fact
pub no_links : (fs : List Fact) (i : ℕ) → length fs < i → links_from (past fs (length fs)) i ≡ []
no_links fs i h = none_beyond (past fs (length fs)) i (subst (λ k. k < i) (sym (length-past fs (length fs) (omega arith))) h)

pub no_links_zero : (fs : List Fact) → links_from (past fs (length fs)) 0 ≡ []
no_links_zero fs = none_zero (past fs (length fs))

-- those from a fact of the slice
own_links : (fs : List Fact) (i : ℕ) (f : Fact) → i < length fs → f ≡ get_or fs i f →
    links_from (past fs (length fs)) (i + 1) ≡ links_at (fact_of f) (past fs i) (links_from (past fs i))
own_links fs i f h e =
    ap (λ js. links_from js (i + 1)) (past-part fs (i + 1))
    ∙ past_others (reverse (map fact_of (drop (i + 1) fs))) (past fs (i + 1)) (i + 1)
    (subst (λ k. i + 1 ≤ k) (sym (length-past fs (i + 1) (omega (arith, h)))) (omega arith))
    ∙ ap (λ js. links_from js (i + 1)) (past-more fs i f h e)
    ∙ ap (λ k. links_from (fact_of f ∷ past fs i) (k + 1)) (sym (length-past fs i (omega (arith, h))))
    ∙ at_hand (fact_of f) (past fs i)

-- a change has none
pub change_links : (fs : List Fact) (at : ℕ) (x : Fact) (m : ℕ) (how : How) → 0 < at → at ≤ length fs → x ≡ get_or fs (at - 1) x → x ≡ Change m how →
    links_from (past fs (length fs)) at ≡ []
change_links fs at x m how pos le is change =
    let e : at ≡ at - 1 + 1 = omega (arith, pos) in
    ap (links_from (past fs (length fs))) e
    ∙ own_links fs (at - 1) x (omega (arith, pos, le)) is
    ∙ ap (λ y. links_at (fact_of y) (past fs (at - 1)) (links_from (past fs (at - 1)))) change

-- a run has its own, and then those from the fact that it was caused by
pub run_links : (fs : List Fact) (at : ℕ) (x : Fact) (r : RunNote) (c : Cause) → 0 < at → at ≤ length fs → x ≡ get_or fs (at - 1) x → x ≡ Run r →
    c ≡ cause_of r.id (past fs (at - 1)) →
    links_from (past fs (length fs)) at ≡ record { run = at; cause = c } ∷ links_from (past fs (length fs)) (moved_by c)
run_links fs at x r c pos le is run q =
    ap (links_from (past fs (length fs))) e
    ∙ own_links fs (at - 1) x (omega (arith, pos, le)) is
    ∙ ap (λ y. links_at (fact_of y) (past fs (at - 1)) (links_from (past fs (at - 1)))) run
    ∙ ap (λ k. record { run = k; cause = cause_of r.id (past fs (at - 1)) } ∷ links_from (past fs (at - 1)) (moved_by (cause_of r.id (past fs (at - 1))))) size
    ∙ ap (λ ls. record { run = at; cause = cause_of r.id (past fs (at - 1)) } ∷ ls) (sym below)
    ∙ ap (λ d. record { run = at; cause = d } ∷ links_from (past fs (length fs)) (moved_by d)) (sym q)
  where
    e : at ≡ at - 1 + 1
    e = omega (arith, pos)

    size : length (past fs (at - 1)) + 1 ≡ at
    size = let s : length (past fs (at - 1)) ≡ at - 1 = length-past fs (at - 1) (omega (arith, pos, le)) in omega (arith, s, pos)

    below : links_from (past fs (length fs)) (moved_by (cause_of r.id (past fs (at - 1)))) ≡ links_from (past fs (at - 1)) (moved_by (cause_of r.id (past fs (at - 1))))
    below =
        ap (λ js. links_from js (moved_by (cause_of r.id (past fs (at - 1))))) (past-part fs (at - 1))
        ∙ past_others (reverse (map fact_of (drop (at - 1) fs))) (past fs (at - 1)) (moved_by (cause_of r.id (past fs (at - 1)))) (cause_inside r.id (past fs (at - 1)))

-- the first read wasn't moved, so it is one of the others
pub moved_on : (since m k : ℕ) (ms : List ℕ) (js : List plain.Fact) → k ≤ 0 →
    k ≡ cond (nat_lt since (last_number (moves m) js)) (last_number (moves m) js) 0 → first_moved since (m ∷ ms) js ≡ first_moved since ms js
moved_on since m k ms js le = go (nat_lt since (last_number (moves m) js)) refl
  where
    go : (b : Bool) → nat_lt since (last_number (moves m) js) ≡ b → k ≡ cond b (last_number (moves m) js) 0 →
        cond b (cause.Changed m (last_number (moves m) js)) (first_moved since ms js) ≡ first_moved since ms js
    go false e h = refl
    go true e h = let q : since < last_number (moves m) js = ltb-true since (last_number (moves m) js) e in absurd (omega (arith, q, h, le))

-- a read at its place in a list
pub first_moved_on : (since i m k : ℕ) (ms : List ℕ) (js : List plain.Fact) → i < length ms → m ≡ get_or ms i m → k ≤ 0 →
    k ≡ cond (nat_lt since (last_number (moves m) js)) (last_number (moves m) js) 0 →
    first_moved since (drop (i + 1) ms) js ≡ first_moved since (drop i ms) js
first_moved_on since i m k ms js h is le q =
    sym (moved_on since m k (drop (i + 1) ms) js le q)
    ∙ ap (λ y. first_moved since (y ∷ drop (i + 1) ms) js) is
    ∙ sym (at_drop_more (λ xs. first_moved since xs js) ms i m h)

-- the chain by the facts of a slice
pub chain_past : (fs : List Fact) (n : ℕ) → chain (facts_of fs) n ≡ links_of (past fs (length fs)) (last_run n (past fs (length fs)))
chain_past fs n = ap (λ js. links_of js (last_run n js)) (sym (past-all fs))

-- where nothing has run there is none
pub no_chain : (fs : List Fact) (n : ℕ) (links : List Link) → last_run n (past fs (length fs)) ≡ None →
    IsTrue false ↔ (chain (facts_of fs) n ≡ Some links)
no_chain fs n links h =
    let none : chain (facts_of fs) n ≡ None = chain_past fs n ∙ ap (links_of (past fs (length fs))) h in
    (λ f. cc, λ e. let q : None ≡ Some links = sym none ∙ e in cc)

-- else it is the links from the last run on
pub is_chain : (fs : List Fact) (n number : ℕ) (p : Found) (b : Bool) (links : List Link) → last_run n (past fs (length fs)) ≡ Some p → p.number ≡ number →
    IsTrue b ↔ (links_from (past fs (length fs)) number ≡ links) → IsTrue b ↔ (chain (facts_of fs) n ≡ Some links)
is_chain fs n number p b links h k both =
    let is : chain (facts_of fs) n ≡ Some (links_from (past fs (length fs)) number) =
    chain_past fs n ∙ ap (links_of (past fs (length fs))) h ∙ ap (λ i. Some (links_from (past fs (length fs)) i)) k in (
      λ t. is ∙ ap (λ ls. Some ls) (both.0 t),
      λ e. both.1 (let q : Some (links_from (past fs (length fs)) number) ≡ Some links = sym is ∙ e in cc),
    )
