-- The body that statements are: something stands at each of its places, and it has no more statements than lines.
use Rattle.std.proofs.Common.{◌≡◌, ◌≤◌, ◌<◌, ◌+◌, ◌&&◌, ℕ, suc, nat_lt, not, arith, Bool, true, false, List, [], ◌∷◌, ◌++◌, length, refl, ap, ◌∙◌, inl, inr}
use Rattle.std.specs.Prelude.{codes, Option, Some, None, option_map}
use Rattle.std.specs.List.{AllByRecursion, list_all, list_any, position_or_len}
use Rattle.std.specs.Str.{bytes_eq}
use Rattle.std.proofs.lemmas.Bool.{and_from, cases_Bool, lt-ltb}
use Rattle.std.proofs.lemmas.List.{length-append}
use Rattle.std.proofs.lemmas.List.Folds.{list_all-append}
use Rattle.sig_base.specs.declared.limits.TheConstants.{MOST_SOURCES}
use Rattle.effect_model.specs.Lines.{formula_of, target_of}
use Rattle.effect_model.proofs.SharedLines.{formula_mapped, target_mapped}
use Rattle.sig_untrack.specs.Stated as stated
use Rattle.sig_untrack.specs.Stated.{Bodies, Stated, no_bodies}
use Rattle.effect_tables.specs.Scripts.{count_of}
use Rattle.formula_text.specs.declared.rough.Around.TheVariants as around
use Rattle.formula_text.specs.declared.rough.OverRows.TheVariants as over
use Rattle.formula_text.specs.Grammar.{Draft, leaf, negation, binary, choice, of_row, one_part, each_row}
use Rattle.formula_text.specs.Refusals.{row_tree, slot_of, slotted, with_name, with_names}
use Rattle.formula_text.specs.Signs.{name, constant}
use Rattle.formula_text.proofs.Shared.{Has, HasEach, each_there, keeps_each}
use Rattle.body_text.specs.declared.line.Line.{Line}
use Rattle.body_text.specs.declared.line.Line.TheVariants as line
use Rattle.body_text.specs.declared.line.Source.{Source}
use Rattle.body_text.specs.declared.line.Source.TheVariants as source
use Rattle.body_text.specs.Statements.{Statement, Statements, done, plain, rewire, when, effect, body_of, body_with, effects_of, lines_of, own_effects, own_rewires, placed, placed_line, rewiring_of, rewirings_of, with_formula, with_own, with_target, with_targets}
use Rattle.live_model.specs.Uses.{Counts, are_below, are_below_if, is_target_if, are_linked, are_placed, bodies_count, count_in_bodies, is_rewiring}

-- ---- slots

found : {A : Type 0} (f : A → Bool) (xs : List A) → list_any f xs ≡ true → position_or_len f xs < length xs
found f [] h = absurd cc
found f (x ∷ xs) h = elim (cases_Bool (f x)) [
  | inl holds ↦ rw holds (omega arith)
  | inr fails ↦
      let rest = found f xs (rw fails at h) in
      let next : 1 + position_or_len f xs ≡ suc (position_or_len f xs) = omega arith in
      rw (fails, next) (omega (arith, rest))
]

-- the slot of a name that is there
slot_below : (ns : List (List ℕ)) (n : List ℕ) → Has ns n → nat_lt (slot_of ns n) (length ns) ≡ true
slot_below ns n h =
    let within : nat_lt (position_or_len (λ (m : List ℕ). bytes_eq m n) ns) (length ns) ≡ true = lt-ltb _ _ (found (λ m. bytes_eq m n) ns h) in
    rw within within

both_below : (count : ℕ) (xs ys : List ℕ) → list_all (λ s. nat_lt s count) xs ≡ true → list_all (λ s. nat_lt s count) ys ≡ true
    → list_all (λ s. nat_lt s count) (xs ++ ys) ≡ true
both_below count xs ys a b = rw (list_all-append (λ (s : ℕ). nat_lt s count) xs ys) (and_from _ _ a b)

row_below : (count : ℕ) (n : List ℕ) → are_below count (row_tree n) ≡ true
row_below count n = elim (cases_Bool (bytes_eq n (codes "key"))) [ inl e ↦ rw e refl | inr e ↦ rw e refl ]

-- the slots of a formula whose names are there
slots_below : (ns : List (List ℕ)) (x : Draft) → HasEach ns x → are_below (length ns) (slotted ns x) ≡ true
slots_below ns (leaf (name n)) h = and_from _ _ (slot_below ns n h) refl
slots_below ns (leaf (constant s)) h = refl
slots_below ns (negation x) h = slots_below ns x h
slots_below ns (binary o x y) h = both_below (length ns) _ _ (slots_below ns x h.0) (slots_below ns y h.1)
slots_below ns (choice w x y) h =
    both_below (length ns) _ _ (slots_below ns w h.0) (both_below (length ns) _ _ (slots_below ns x h.1) (slots_below ns y h.2))
slots_below ns (of_row n) h = row_below (length ns) n
slots_below ns (one_part around.Count x) h = slots_below ns x h
slots_below ns (one_part around.Untrack x) h = slots_below ns x h
slots_below ns (each_row over.Sum x y) h = both_below (length ns) _ _ (slots_below ns x h.0) (slots_below ns y h.1)
slots_below ns (each_row over.Keep x y) h = both_below (length ns) _ _ (slots_below ns x h.0) (slots_below ns y h.1)

-- ---- names stay where others are put behind them

formula_stays : (ns : List (List ℕ)) (o : Option Draft) (x : Draft) → HasEach ns x → HasEach (with_formula ns o) x
formula_stays ns None x h = h
formula_stays ns (Some y) x h = keeps_each ns y x h

own_stays : (ns : List (List ℕ)) (s : Statements) (x : Draft) → HasEach ns x → HasEach (with_own ns s) x
own_stays ns done x h = h
own_stays ns (plain a s) x h = own_stays (with_formula ns (formula_of a)) s x (formula_stays ns (formula_of a) x h)
own_stays ns (rewire n z s) x h = own_stays ns s x h
own_stays ns (when y i s) x h = own_stays (with_own (with_names ns y) i) s x (own_stays (with_names ns y) i x (keeps_each ns y x h))
own_stays ns (effect i s) x h = own_stays ns s x h

target_stays : (ts : List (List ℕ)) (o : Option (List ℕ)) (n : List ℕ) → Has ts n → Has (with_target ts o) n
target_stays ts None n h = h
target_stays ts (Some m) n h = keeps_each ts (leaf (name m)) (leaf (name n)) h

targets_stay : (ts : List (List ℕ)) (s : Statements) (n : List ℕ) → Has ts n → Has (with_targets ts s) n
targets_stay ts done n h = h
targets_stay ts (plain a s) n h = targets_stay (with_target ts (target_of a)) s n (target_stays ts (target_of a) n h)
targets_stay ts (rewire m x s) n h = targets_stay (with_name ts m) s n (keeps_each ts (leaf (name m)) (leaf (name n)) h)
targets_stay ts (when y i s) n h = targets_stay (with_targets ts i) s n (targets_stay ts i n h)
targets_stay ts (effect i s) n h = targets_stay ts s n h

-- each of these names is among those, and the names of each formula
record AreAmong (ts ns us ms : List (List ℕ)) : Type 0 where
  target : (n : List ℕ) → Has ts n → Has us n
  names : (x : Draft) → HasEach ns x → HasEach ms x

-- ---- something stands at each place

module _ (us ms : List (List ℕ)) (effects rewirings : ℕ) where
  abbrev counts : Counts
  counts = record { names = length ms; targets = length us; effects = effects; rewirings = rewirings }

  target_there : (ts : List (List ℕ)) (o : Option (List ℕ)) → ((n : List ℕ) → Has (with_target ts o) n → Has us n)
      → is_target_if (length us) (option_map (slot_of us) o) ≡ true
  target_there ts None a = refl
  target_there ts (Some n) a = slot_below us n (a n (each_there ts (leaf (name n))))

  formula_there : (ns : List (List ℕ)) (o : Option Draft) → ((x : Draft) → HasEach (with_formula ns o) x → HasEach ms x)
      → are_below_if (length ms) (option_map (slotted ms) o) ≡ true
  formula_there ns None a = refl
  formula_there ns (Some x) a = slots_below ms x (a x (each_there ns x))

  line_placed : (ts ns : List (List ℕ)) (b : Statement) → AreAmong (with_target ts (target_of b)) (with_formula ns (formula_of b)) us ms
      → (is_target_if (length us) (target_of (placed_line us ms b)) && are_below_if (length ms) (formula_of (placed_line us ms b))) ≡ true
  line_placed ts ns b a =
      and_from _ _ (ap (is_target_if (length us)) (target_mapped (slot_of us) (slotted ms) b) ∙ target_there ts (target_of b) a.target)
      (ap (are_below_if (length ms)) (formula_mapped (slot_of us) (slot_of us) (slotted ms) b) ∙ formula_there ns (formula_of b) a.names)

  all_placed : (ts ns : List (List ℕ)) (e r : ℕ) (s : Statements) (rest : Stated) → AreAmong (with_targets ts s) (with_own ns s) us ms
      → e + own_effects s ≤ effects → r + own_rewires s ≤ rewirings → are_placed counts rest ≡ true
      → are_placed counts (placed us ms e r s rest) ≡ true
  all_placed ts ns e r done rest a le few h = h
  all_placed ts ns e r (plain b s) rest a le few h =
      let first : AreAmong (with_target ts (target_of b)) (with_formula ns (formula_of b)) us ms = record {
        target = λ n k. a.target n (targets_stay (with_target ts (target_of b)) s n k);
        names = λ x k. a.names x (own_stays (with_formula ns (formula_of b)) s x k);
      } in
      and_from _ _ (line_placed ts ns b first)
      (all_placed (with_target ts (target_of b)) (with_formula ns (formula_of b)) e r s rest a le few h)
  all_placed ts ns e r (rewire n x s) rest a le few h =
      and_from _ _ (lt-ltb _ _ (omega (arith, few))) (all_placed (with_name ts n) ns e (r + 1) s rest a le (omega (arith, few)) h)
  all_placed ts ns e r (when x i s) rest a le few h =
      let inner : AreAmong (with_targets ts i) (with_own (with_names ns x) i) us ms = record {
        target = λ n k. a.target n (targets_stay (with_targets ts i) s n k);
        names = λ y k. a.names y (own_stays (with_own (with_names ns x) i) s y k);
      } in
      and_from _ _
      (and_from _ _ (slots_below ms x (inner.names x (own_stays (with_names ns x) i x (each_there ns x))))
      (all_placed ts (with_names ns x) e r i stated.no_more inner (omega (arith, le)) (omega (arith, few)) refl))
      (all_placed (with_targets ts i) (with_own (with_names ns x) i) (e + own_effects i) (r + own_rewires i) s rest a (omega (arith, le)) (omega (arith, few)) h)
  all_placed ts ns e r (effect i s) rest a le few h =
      and_from _ _ (lt-ltb _ _ (omega (arith, le))) (all_placed ts ns (e + 1) r s rest a (omega (arith, le)) few h)

-- ---- rewirings

-- a source with no more names than a formula may have
abbrev pub IsFewSource : Source → Type 0
IsFewSource s = nat_lt MOST_SOURCES (length (rewiring_of 0 s).names) ≡ false

-- the source of a line
abbrev pub IsFewLine : Line → Type 0
IsFewLine (line.Rewire n s) = IsFewSource s
IsFewLine _ = Unit {0}

-- of all lines, those of the first part and those behind it
parted : (ls ms : List Line) → AllByRecursion IsFewLine (ls ++ ms) → AllByRecursion IsFewLine ls × AllByRecursion IsFewLine ms
parted [] ms h = (tt, h)
parted (l ∷ ls) ms h = let rest = parted ls ms h.1 in ((h.0, rest.0), rest.1)

rewired : (us : List (List ℕ)) (t : ℕ) (s : Source) → nat_lt t (length us) ≡ true → IsFewSource s → is_rewiring (length us) (rewiring_of t s) ≡ true
rewired us t (source.Formula x) below few = and_from _ _ below (ap not few)
rewired us t (source.Host k ns) below few = and_from _ _ below (ap not few)

all_rewire : (us ts : List (List ℕ)) (s : Statements) → ((n : List ℕ) → Has (with_targets ts s) n → Has us n) → AllByRecursion IsFewLine (lines_of s)
    → list_all (is_rewiring (length us)) (rewirings_of us s) ≡ true
all_rewire us ts done a few = refl
all_rewire us ts (plain b s) a few = all_rewire us (with_target ts (target_of b)) s a few.1
all_rewire us ts (rewire n x s) a few =
    and_from _ _ (rewired us (slot_of us n) x (slot_below us n (a n (targets_stay (with_name ts n) s n (each_there ts (leaf (name n)))))) few.0)
    (all_rewire us (with_name ts n) s a few.1)
all_rewire us ts (when x i s) a few =
    let two = parted (lines_of i) (line.End ∷ lines_of s) few.1 in
    rw (list_all-append (is_rewiring (length us)) (rewirings_of us i) (rewirings_of us s))
    (and_from _ _ (all_rewire us ts i (λ n k. a n (targets_stay (with_targets ts i) s n k)) two.0) (all_rewire us (with_targets ts i) s a two.1.1))
all_rewire us ts (effect i s) a few = all_rewire us ts s a (parted (lines_of i) (line.End ∷ lines_of s) few.1).1.1

-- ---- bodies

effects_count : (s : Statements) (others : Bodies) → bodies_count (effects_of s others) ≡ own_effects s + bodies_count others
effects_count done others = omega arith
effects_count (plain a s) others = effects_count s others
effects_count (rewire n x s) others = effects_count s others
effects_count (when x i s) others = let a = effects_count i (effects_of s others) in let b = effects_count s others in omega (arith, a, b)
effects_count (effect i s) others = let a = effects_count s others in omega (arith, a)

rewires_count : (us : List (List ℕ)) (s : Statements) → length (rewirings_of us s) ≡ own_rewires s
rewires_count us done = refl
rewires_count us (plain a s) = rewires_count us s
rewires_count us (rewire n x s) = let e = rewires_count us s in omega (arith, e)
rewires_count us (when x i s) =
    let e = rewires_count us i in let f = rewires_count us s in let g = length-append (rewirings_of us i) (rewirings_of us s) in omega (arith, e, f, g)
rewires_count us (effect i s) = rewires_count us s

-- a body whose nested effects are linked, before others that are
body_linked : (s : Statements) (others : Bodies) → AllByRecursion IsFewLine (lines_of s) → are_linked (effects_of s no_bodies) ≡ true
    → are_linked others ≡ true → are_linked (body_with s (effects_of s no_bodies) others) ≡ true
body_linked s others few inner behind =
    let us = with_targets [] s in
    let ms = with_own [] s in
    let nested = effects_count s no_bodies in
    let rewired = rewires_count us s in
    let own : AreAmong us ms us ms = record { target = λ n k. k; names = λ x k. k } in
    let places = all_placed us ms (bodies_count (effects_of s no_bodies)) (length (rewirings_of us s)) [] [] 0 0 s stated.no_more own
    (omega (arith, nested)) (omega (arith, rewired)) refl in
    and_from _ _ (and_from _ _ places (and_from _ _ (all_rewire us [] s (λ n k. k) few) inner)) behind

effects_linked : (s : Statements) (others : Bodies) → AllByRecursion IsFewLine (lines_of s) → are_linked others ≡ true
    → are_linked (effects_of s others) ≡ true
effects_linked done others few behind = behind
effects_linked (plain a s) others few behind = effects_linked s others few.1 behind
effects_linked (rewire n x s) others few behind = effects_linked s others few.1 behind
effects_linked (when x i s) others few behind =
    let two = parted (lines_of i) (line.End ∷ lines_of s) few.1 in
    effects_linked i (effects_of s others) two.0 (effects_linked s others two.1.1 behind)
effects_linked (effect i s) others few behind =
    let two = parted (lines_of i) (line.End ∷ lines_of s) few.1 in
    body_linked i (effects_of s others) two.0 (effects_linked i no_bodies two.0 refl) (effects_linked s others two.1.1 behind)

-- the body of statements is linked
pub all_linked : (s : Statements) → AllByRecursion IsFewLine (lines_of s) → are_linked (body_of s) ≡ true
all_linked s few = body_linked s no_bodies few (effects_linked s no_bodies few refl) refl

-- ---- statements and lines

-- statements and those of their nested effects, before others
few_statements : (us ms : List (List ℕ)) (e r : ℕ) (s : Statements) (rest : Stated) (others : Bodies)
    → count_of (placed us ms e r s rest) + count_in_bodies (effects_of s others)
    ≤ length (lines_of s) + (count_of rest + count_in_bodies others)
few_statements us ms e r done rest others = omega arith
few_statements us ms e r (plain a s) rest others = let more = few_statements us ms e r s rest others in omega (arith, more)
few_statements us ms e r (rewire n x s) rest others = let more = few_statements us ms e (r + 1) s rest others in omega (arith, more)
few_statements us ms e r (when x i s) rest others =
    let inner = few_statements us ms e r i stated.no_more (effects_of s others) in
    let more = few_statements us ms (e + own_effects i) (r + own_rewires i) s rest others in
    let lines = length-append (lines_of i) (line.End ∷ lines_of s) in
    omega (arith, inner, more, lines)
few_statements us ms e r (effect i s) rest others =
    let inner = few_statements (with_targets [] i) (with_own [] i) 0 0 i stated.no_more no_bodies in
    let more = few_statements us ms (e + 1) r s rest others in
    let lines = length-append (lines_of i) (line.End ∷ lines_of s) in
    omega (arith, inner, more, lines)

-- the body of statements has no more of them than lines
pub few_in_body : (s : Statements) → count_in_bodies (body_of s) ≤ length (lines_of s)
few_in_body s = let few = few_statements (with_targets [] s) (with_own [] s) 0 0 s stated.no_more no_bodies in omega (arith, few)
