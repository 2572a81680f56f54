-- A body that a script can have fits its links.
use Rattle.std.proofs.Common.{◌≡◌, ◌≤◌, ◌<◌, ◌+◌, ◌&&◌, ◌||◌, ℕ, nat_lt, not, arith, Bool, true, false, List, [], ◌∷◌, ◌++◌, length, map, refl, sym, ap, subst, ◌∙◌}
use Rattle.std.specs.Prelude.{Option, Some, None, option_map}
use Rattle.std.specs.List.{list_all}
use Rattle.std.proofs.lemmas.Bool.{and_parts, eqb-true, ltb-false, ltb-true}
use Rattle.std.proofs.lemmas.List.{length-map}
use Rattle.sig_base.specs.declared.limits.TheConstants.{MOST_SOURCES}
use Rattle.sig_formula.specs.Trees.{Tree, literal, slot, row_field, row_key, negation, binary, choice, count_of as counted, sum_of, rows_where, untracked, has_slot}
use Rattle.body_text.specs.declared.judge.TheConstants.{MOST_BODY_LINES}
use Rattle.effect_model.specs.Lines.{formula_of, target_of}
use Rattle.effect_model.proofs.SharedLines.{formula_mapped}
use Rattle.effect_laws.specs.Asks.{AreFit, IsFitFormula, SlotsBelow}
use Rattle.sig_untrack.specs.Links.{Parts, linked}
use Rattle.sig_untrack.specs.Stated as stated
use Rattle.sig_untrack.specs.Stated.{Bodies, Rewiring, Source, Stated, body, no_bodies}
use Rattle.effect_tables.specs.Scripts.{AreFew, AreFitting, IsFew}
use Rattle.live_model.specs.Links.{links_of}
use Rattle.live_model.specs.Names.{Names, number_of}
use Rattle.live_model.specs.Uses.{Counts, are_below, are_below_if, is_target_if, are_linked, are_placed, bodies_count, count_in_bodies, is_fit, is_rewiring, slots_in}

-- ---- slots

-- one of two
either : (a b : Bool) (P : Type 0) → (a ≡ true → P) → (b ≡ true → P) → a || b ≡ true → P
either true b P f g e = f refl
either false b P f g e = g e

-- all of two lists
both_all : (f : ℕ → Bool) (xs ys : List ℕ) → list_all f (xs ++ ys) ≡ true → (list_all f xs ≡ true) × (list_all f ys ≡ true)
both_all f [] ys e = (refl, e)
both_all f (x ∷ xs) ys e =
    let one = and_parts (f x) (list_all f (xs ++ ys)) e in
    let rest = both_all f xs ys one.1 in
    (ap (λ (b : Bool). b && list_all f xs) one.0 ∙ rest.0, rest.1)

-- a slot of a formula is among its slots, so it is below what they are below
pub slots_below : (n : ℕ) (t : Tree) → are_below n t ≡ true → SlotsBelow n t
slots_below n (literal v) e s h = absurd cc
slots_below n (slot k) e s h =
    let lt : k < n = ltb-true k n (and_parts (nat_lt k n) true e).0 in
    let same : k ≡ s = eqb-true k s h in omega (arith, lt, same)
slots_below n (row_field g) e s h = absurd cc
slots_below n row_key e s h = absurd cc
slots_below n (negation a) e s h = slots_below n a e s h
slots_below n (binary o a b) e s h =
    let p = both_all (λ m. nat_lt m n) (slots_in a) (slots_in b) e in
    either (has_slot s a) (has_slot s b) (s < n) (slots_below n a p.0 s) (slots_below n b p.1 s) h
slots_below n (choice t a b) e s h =
    let p = both_all (λ m. nat_lt m n) (slots_in t) (slots_in a ++ slots_in b) e in
    let q = both_all (λ m. nat_lt m n) (slots_in a) (slots_in b) p.1 in
    either (has_slot s t) (has_slot s a || has_slot s b) (s < n) (slots_below n t p.0 s)
    (either (has_slot s a) (has_slot s b) (s < n) (slots_below n a q.0 s) (slots_below n b q.1 s)) h
slots_below n (counted a) e s h = slots_below n a e s h
slots_below n (sum_of a b) e s h =
    let p = both_all (λ m. nat_lt m n) (slots_in a) (slots_in b) e in
    either (has_slot s a) (has_slot s b) (s < n) (slots_below n a p.0 s) (slots_below n b p.1 s) h
slots_below n (rows_where a b) e s h =
    let p = both_all (λ m. nat_lt m n) (slots_in a) (slots_in b) e in
    either (has_slot s a) (has_slot s b) (s < n) (slots_below n a p.0 s) (slots_below n b p.1 s) h
slots_below n (untracked a) e s h = slots_below n a e s h

formula_fits : (n : ℕ) (o : Option Tree) → are_below_if n o ≡ true → IsFitFormula n (option_map (λ (f : Tree). f) o)
formula_fits n None e = tt
formula_fits n (Some f) e = slots_below n f e

-- so are those of statements, whatever their places stand for
all_fit : (c : Counts) (p : Parts) (ss : Stated) → are_placed c ss ≡ true → AreFit c.names (linked p ss)
all_fit c p stated.no_more e = tt
all_fit c p (stated.plain a rest) e =
    let one = and_parts (is_target_if c.targets (target_of a) && are_below_if c.names (formula_of a)) (are_placed c rest) e in
    let two = and_parts (is_target_if c.targets (target_of a)) (are_below_if c.names (formula_of a)) one.0 in
    (rw (formula_mapped p.cells p.things (λ (f : Tree). f) a) (formula_fits c.names (formula_of a) two.1), all_fit c p rest one.1)
all_fit c p (stated.when f inner rest) e =
    let one = and_parts (are_below c.names f && are_placed c inner) (are_placed c rest) e in
    let two = and_parts (are_below c.names f) (are_placed c inner) one.0 in
    (slots_below c.names f two.0, all_fit c p inner two.1, all_fit c p rest one.1)
all_fit c p (stated.effect n rest) e = all_fit c p rest (and_parts (nat_lt n c.effects) (are_placed c rest) e).1
all_fit c p (stated.rewire n rest) e = all_fit c p rest (and_parts (nat_lt n c.rewirings) (are_placed c rest) e).1

-- ---- rewirings

-- no more than the most
at_most : (a b : ℕ) → not (nat_lt a b) ≡ true → b ≤ a
at_most a b e = at (nat_lt a b) refl e
  where
    at : (t : Bool) → nat_lt a b ≡ t → not t ≡ true → b ≤ a
    at true is h = absurd cc
    at false is h = ltb-false a b is

few_one : (names : Names) (s : Source) (ns : List (List ℕ)) → length ns ≤ MOST_SOURCES → IsFew s (map (number_of names) ns)
few_one names (stated.formula t) ns le = tt
few_one names (stated.host place) ns le = let same = length-map ns (number_of names) in omega (arith, le, same)

few_all : (names : Names) (targets : ℕ) (rs : List Rewiring) → list_all (is_rewiring targets) rs ≡ true →
    AreFew rs (map (λ (r : Rewiring). map (number_of names) r.names) rs)
few_all names targets [] e = tt
few_all names targets (r ∷ rs) e =
    let one = and_parts (is_rewiring targets r) (list_all (is_rewiring targets) rs) e in
    let few = at_most MOST_SOURCES (length r.names) (and_parts (nat_lt r.target targets) (not (nat_lt MOST_SOURCES (length r.names))) one.0).1 in
    (few_one names r.source r.names few, few_all names targets rs one.1)

-- ---- bodies

-- bodies in which something stands at each place, and that have no more statements than this
all_fitting : (names : Names) (own : List ℕ) (b : Bodies) → are_linked b ≡ true → count_in_bodies b ≤ MOST_BODY_LINES → AreFitting b (links_of names own b)
all_fitting names own no_bodies e le = tt
all_fitting names own (body ss targets signals inner rewirings others) e le =
    let c : Counts = record { names = length signals; targets = length targets; effects = bodies_count inner; rewirings = length rewirings } in
    let one = and_parts (are_placed c ss && (list_all (is_rewiring (length targets)) rewirings && are_linked inner)) (are_linked others) e in
    let two = and_parts (are_placed c ss) (list_all (is_rewiring (length targets)) rewirings && are_linked inner) one.0 in
    let three = and_parts (list_all (is_rewiring (length targets)) rewirings) (are_linked inner) two.1 in
    let same = length-map signals (number_of names) in (
      record {
        named = λ p. subst (λ (n : ℕ). AreFit n (linked p ss)) (sym same) (all_fit c p ss two.0);
        few = omega (arith, le);
      },
      few_all names (length targets) rewirings three.0,
      all_fitting names own inner three.1 (omega (arith, le)),
      all_fitting names own others one.1 (omega (arith, le)),
    )

-- a body that a script can have fits its links
pub fit_links : (names : Names) (own : List ℕ) (b : Bodies) → is_fit b ≡ true → AreFitting b (links_of names own b)
fit_links names own b e =
    let both = and_parts (are_linked b) (not (nat_lt MOST_BODY_LINES (count_in_bodies b))) e in
    all_fitting names own b both.0 (at_most MOST_BODY_LINES (count_in_bodies b) both.1)
