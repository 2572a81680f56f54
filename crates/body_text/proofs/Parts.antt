-- What statements bring is put one after the other.
use Rattle.std.proofs.Common.{◌≡◌, ℕ, ◌+◌, List, [], ◌∷◌, ◌++◌, Option, Some, None, length, map, refl, sym, ap, ap₂, subst, ◌∙◌, append_assoc, arith}
use Rattle.std.proofs.lemmas.List.{append-nil, length-append}
use Rattle.effect_model.specs.declared.plain.Plain.{Plain}
use Rattle.effect_model.specs.Lines.{formula_of, target_of}
use Rattle.effect_model.proofs.SharedLines.{mapped_alike}
use Rattle.sig_untrack.specs.declared.body.Body.{Body}
use Rattle.sig_untrack.specs.declared.body.Rewire.{Rewire as ARewire}
use Rattle.sig_untrack.specs.declared.body.Stmt.{Stmt}
use Rattle.sig_untrack.specs.Stated as stated
use Rattle.sig_untrack.specs.Stated.{Stated, Rewiring, Bodies, bodies_before, before, body, no_bodies, put, rewiring}
use Rattle.sig_formula.specs.Trees.{Tree}
use Rattle.formula_text.specs.Grammar.{Draft}
use Rattle.formula_text.specs.Refusals.{slot_of, slotted, with_name, with_names}
use Rattle.body_text.specs.declared.line.Line.{Line}
use Rattle.body_text.specs.declared.line.Line.TheVariants as line
use Rattle.body_text.specs.declared.line.Source.{Source}
use Rattle.body_text.specs.declared.lists.Lists.{Lists}
use Rattle.body_text.specs.Parts.{BeginsSo, IsBuilt, IsPut, appended}
use Rattle.body_text.specs.Names.{GoOn}
use Rattle.body_text.specs.Statements.{Statement, Statements, done, plain, rewire, when, effect, lines_of, body_with, effects_of, own_effects, own_rewires, placed, placed_line, rewiring_of, rewirings_of, with_formula, with_own, with_target, with_targets}
use Rattle.body_text.proofs.Sequences.{goes_own, goes_targets, then_effects, then_more, then_nested, then_own, then_placed, then_rewires, then_rewirings, then_targets}
use Rattle.body_text.proofs.Slots.{go_further, go_on, put_slot, put_slots}
use Rattle.body_text.proofs.Blocks.{apart, tail_of}

-- ---- one line

-- the same statement, where targets and names go on behind its own
same_line : (ts ns us ms : List (List ℕ)) (a : Statement) → GoOn (with_target ts (target_of a)) us → GoOn (with_formula ns (formula_of a)) ms
    → placed_line (with_target ts (target_of a)) (with_formula ns (formula_of a)) a ≡ placed_line us ms a
same_line ts ns us ms a g h =
    mapped_alike (slot_of (with_target ts (target_of a))) (slot_of us) (slotted (with_formula ns (formula_of a))) (slotted ms) a
    (λ n e. subst (λ (o : Option (List ℕ)). GoOn (with_target ts o) us → slot_of (with_target ts o) n ≡ slot_of us n) (sym e)
    (λ (k : GoOn (with_name ts n) us). sym (put_slot ts us n k)) g)
    (λ x e. subst (λ (o : Option Draft). GoOn (with_formula ns o) ms → slotted (with_formula ns o) x ≡ slotted ms x) (sym e)
    (λ (k : GoOn (with_names ns x) ms). sym (put_slots ns ms x k)) h)

from_equal : (ns ms us : List (List ℕ)) → ns ≡ ms → GoOn ns us → GoOn ms us
from_equal ns ms us e g = subst (λ (ks : List (List ℕ)). GoOn ks us) e g

map_more : (rs : List ARewire) (r : ARewire) → map rewiring (rs ++ r ∷ []) ≡ map rewiring rs ++ rewiring r ∷ []
map_more [] r = refl
map_more (q ∷ rs) r = ap (λ (ks : List Rewiring). rewiring q ∷ ks) (map_more rs r)

-- a rewiring was put
pub rewire_built : (n : List ℕ) (x : Source) (old new : Lists) (s : Stmt) (r : ARewire) → rewiring r ≡ rewiring_of (slot_of new.targets.items n) x
    → new.targets.items ≡ with_name old.targets.items n → new.names.items ≡ old.names.items
    → new.effects.items ≡ old.effects.items → new.rewires.items ≡ old.rewires.items ++ r ∷ []
    → ((rest : Stated) → put s rest ≡ stated.rewire (length old.rewires.items) rest) → IsBuilt (rewire n x done) old new (s ∷ [])
rewire_built n x old new s r is et en ee er e = record {
  targets = et;
  names = en;
  effects = λ others. ap (λ (bs : List Body). bodies_before bs others) ee;
  nested = let f = ap length ee in omega arith;
  rewirings = λ ts g.
      let ups = from_equal new.targets.items (with_name old.targets.items n) ts et g in
      let same = ap (λ (us : List (List ℕ)). slot_of us n) et ∙ sym (put_slot old.targets.items ts n ups) in
      ap (map rewiring) er ∙ map_more old.rewires.items r
      ∙ ap (λ (k : Rewiring). map rewiring old.rewires.items ++ k ∷ []) (is ∙ ap (λ (k : ℕ). rewiring_of k x) same);
  rewires = ap length er ∙ length-append old.rewires.items (r ∷ []);
  statements = λ ts ns after g h. e after;
}

-- what a statement of one line brings was put
pub line_built : (a : Statement) (old new : Lists) (s : Stmt) → IsPut a old new s → IsBuilt (plain a done) old new (s ∷ [])
line_built a old new s i = record {
  targets = i.targets;
  names = i.names;
  effects = λ others. ap (λ (bs : List Body). bodies_before bs others) i.effects;
  nested = let e = ap length i.effects in omega arith;
  rewirings = λ ts g. ap (map rewiring) i.rewires ∙ sym (append-nil (map rewiring old.rewires.items));
  rewires = let e = ap length i.rewires in omega arith;
  statements = λ ts ns after g h.
      i.statement after
      ∙ ap (λ (b : Plain ℕ ℕ Tree). stated.plain b after)
      (ap₂ (λ (us ms : List (List ℕ)). placed_line us ms a) i.targets i.names
      ∙ same_line old.targets.items old.names.items ts ns a
      (from_equal new.targets.items (with_target old.targets.items (target_of a)) ts i.targets g)
      (from_equal new.names.items (with_formula old.names.items (formula_of a)) ns i.names h));
}

-- ---- one after the other

stated_more : (ws vs : List Stmt) (after : Stated) → stated.stated (ws ++ vs) after ≡ stated.stated ws (stated.stated vs after)
stated_more [] vs after = refl
stated_more (w ∷ ws) vs after = ap (put w) (stated_more ws vs after)

pub bodies_more : (bs : List Body) (b : Body) (others : Bodies) → bodies_before (bs ++ b ∷ []) others ≡ bodies_before bs (before b others)
bodies_more [] b others = refl
bodies_more (c ∷ bs) b others = ap (before c) (bodies_more bs b others)

pub none_built : (l : Lists) → IsBuilt done l l []
none_built l = record {
  targets = refl;
  names = refl;
  effects = λ others. refl;
  nested = omega arith;
  rewirings = λ ts g. sym (append-nil (map rewiring l.rewires.items));
  rewires = omega arith;
  statements = λ ts ns after g h. refl;
}

pub then_built : (t u : Statements) (old mid new : Lists) (ws vs : List Stmt) → IsBuilt t old mid ws → IsBuilt u mid new vs → IsBuilt (appended t u) old new (ws ++ vs)
then_built t u old mid new ws vs a b = record {
  targets = b.targets ∙ ap (λ (ts : List (List ℕ)). with_targets ts u) a.targets ∙ sym (then_targets old.targets.items t u);
  names = b.names ∙ ap (λ (ns : List (List ℕ)). with_own ns u) a.names ∙ sym (then_own old.names.items t u);
  effects = λ others. b.effects others ∙ a.effects (effects_of u others) ∙ ap (bodies_before old.effects.items) (sym (then_effects t u others));
  nested = let e = a.nested in let f = b.nested in let g = then_nested t u in omega arith;
  rewirings = λ ts g.
      let ups = go_further mid.targets.items new.targets.items ts (subst (λ (ks : List (List ℕ)). GoOn mid.targets.items ks) (sym b.targets) (goes_targets mid.targets.items u)) g in
      b.rewirings ts g ∙ ap (λ (rs : List Rewiring). rs ++ rewirings_of ts u) (a.rewirings ts ups)
      ∙ append_assoc (map rewiring old.rewires.items) (rewirings_of ts t) (rewirings_of ts u)
      ∙ ap (λ (rs : List Rewiring). map rewiring old.rewires.items ++ rs) (sym (then_rewirings ts t u));
  rewires = let e = a.rewires in let f = b.rewires in let g = then_rewires t u in omega arith;
  statements = λ ts ns after g h.
      let ups = go_further mid.targets.items new.targets.items ts (subst (λ (ks : List (List ℕ)). GoOn mid.targets.items ks) (sym b.targets) (goes_targets mid.targets.items u)) g in
      let more = go_further mid.names.items new.names.items ns (subst (λ (ks : List (List ℕ)). GoOn mid.names.items ks) (sym b.names) (goes_own mid.names.items u)) h in
      let e = length old.effects.items in
      let r = length old.rewires.items in
      stated_more ws vs after ∙ ap (stated.stated ws) (b.statements ts ns after g h)
      ∙ ap₂ (λ (m n : ℕ). stated.stated ws (placed ts ns m n u after)) a.nested a.rewires
      ∙ a.statements ts ns (placed ts ns (e + own_effects t) (r + own_rewires t) u after) ups more
      ∙ sym (then_placed ts ns e r t u after);
}

-- ---- what stands in front

pub none_front : (s : Statements) (r : List Line) → [] ≡ lines_of s ++ (line.End ∷ r) → ⊥
none_front done r e = absurd cc
none_front (plain a s) r e = absurd cc
none_front (rewire n x s) r e = absurd cc
none_front (when x i s) r e = absurd cc
none_front (effect i s) r e = absurd cc

pub end_front : (s : Statements) (more r : List Line) → line.End ∷ more ≡ lines_of s ++ (line.End ∷ r) → (s ≡ done) × (more ≡ r)
end_front done more r e = (refl, tail_of _ _ _ _ e)
end_front (plain a s) more r e = absurd cc
end_front (rewire n x s) more r e = absurd cc
end_front (when x i s) more r e = absurd cc
end_front (effect i s) more r e = absurd cc

pub line_front : (a : Statement) (s : Statements) (more r : List Line) → line.Plain a ∷ more ≡ lines_of s ++ (line.End ∷ r)
    → (u : Statements) × (s ≡ plain a u) × (more ≡ lines_of u ++ (line.End ∷ r))
line_front a done more r e = absurd cc
line_front a (plain b s) more r e = (s, cc, tail_of _ _ _ _ e)
line_front a (rewire n x s) more r e = absurd cc
line_front a (when x i s) more r e = absurd cc
line_front a (effect i s) more r e = absurd cc

pub rewire_front : (n : List ℕ) (x : Source) (s : Statements) (more r : List Line) → line.Rewire n x ∷ more ≡ lines_of s ++ (line.End ∷ r)
    → (u : Statements) × (s ≡ rewire n x u) × (more ≡ lines_of u ++ (line.End ∷ r))
rewire_front n x done more r e = absurd cc
rewire_front n x (plain b s) more r e = absurd cc
rewire_front n x (rewire m y s) more r e = (s, cc, tail_of _ _ _ _ e)
rewire_front n x (when y i s) more r e = absurd cc
rewire_front n x (effect i s) more r e = absurd cc

pub when_front : (x : Draft) (s : Statements) (more r : List Line) → line.When x ∷ more ≡ lines_of s ++ (line.End ∷ r)
    → (i u : Statements) × (s ≡ when x i u) × (more ≡ lines_of i ++ (line.End ∷ (lines_of u ++ (line.End ∷ r))))
when_front x done more r e = absurd cc
when_front x (plain b s) more r e = absurd cc
when_front x (rewire n y s) more r e = absurd cc
when_front x (when y i s) more r e = (i, s, cc, tail_of _ _ _ _ e ∙ apart i s r)
when_front x (effect i s) more r e = absurd cc

pub effect_front : (s : Statements) (more r : List Line) → line.Effect ∷ more ≡ lines_of s ++ (line.End ∷ r)
    → (i u : Statements) × (s ≡ effect i u) × (more ≡ lines_of i ++ (line.End ∷ (lines_of u ++ (line.End ∷ r))))
effect_front done more r e = absurd cc
effect_front (plain b s) more r e = absurd cc
effect_front (rewire n y s) more r e = absurd cc
effect_front (when y i s) more r e = absurd cc
effect_front (effect i s) more r e = (i, s, cc, tail_of _ _ _ _ e ∙ apart i s r)

-- ---- a guard and a nested effect

module _ (x : Draft) (i : Statements) (old mid new : Lists) (f : Tree) (ws : List Stmt) (w : Stmt) where
  -- what a guard brings was put: the names of its formula, and what it guards
  pub when_built : IsBuilt i mid new ws → mid.targets.items ≡ old.targets.items → mid.names.items ≡ with_names old.names.items x
      → mid.effects.items ≡ old.effects.items → mid.rewires.items ≡ old.rewires.items → f ≡ slotted mid.names.items x
      → ((rest : Stated) → put w rest ≡ stated.when f (stated.stated ws stated.no_more) rest) → IsBuilt (when x i done) old new (w ∷ [])
  when_built b et en ee er ef ew = record {
    targets = b.targets ∙ ap (λ (ts : List (List ℕ)). with_targets ts i) et;
    names = b.names ∙ ap (λ (ns : List (List ℕ)). with_own ns i) en;
    effects = λ others. b.effects others ∙ ap (λ (bs : List Body). bodies_before bs (effects_of i others)) ee;
    nested = let g = b.nested in let e = ap length ee in omega arith;
    rewirings = λ ts g.
        b.rewirings ts g ∙ ap₂ (λ (us : List ARewire) (rs : List Rewiring). map rewiring us ++ rs) er (sym (append-nil (rewirings_of ts i)));
    rewires = let g = b.rewires in let e = ap length er in omega arith;
    statements = λ ts ns after g h.
        let ups = go_further mid.names.items new.names.items ns (subst (λ (ks : List (List ℕ)). GoOn mid.names.items ks) (sym b.names) (goes_own mid.names.items i)) h in
        let same = ef ∙ ap (λ (ms : List (List ℕ)). slotted ms x) en ∙ sym (put_slots old.names.items ns x (from_equal mid.names.items (with_names old.names.items x) ns en ups)) in
        let inner = b.statements ts ns stated.no_more g h
        ∙ ap₂ (λ (m n : ℕ). placed ts ns m n i stated.no_more) (ap length ee) (ap length er) in
        ew after ∙ ap₂ (λ (t : Tree) (u : Stated). stated.when t u after) same inner;
  }

module _ (i : Statements) (none own : Lists) (ws : List Stmt) (b : Body) where
  -- a body that is built from nothing is that of its statements
  pub own_body : IsBuilt i none own ws → none.targets.items ≡ [] → none.names.items ≡ [] → none.effects.items ≡ [] → none.rewires.items ≡ []
      → ((others : Bodies) → before b others ≡ body (stated.stated ws stated.no_more) own.targets.items own.names.items
      (bodies_before own.effects.items no_bodies) (map rewiring own.rewires.items) others)
      → (others : Bodies) → before b others ≡ body_with i (effects_of i no_bodies) others
  own_body a et en ee er h others =
      let ts = own.targets.items in
      let ns = own.names.items in
      let targets : ts ≡ with_targets [] i = a.targets ∙ ap (λ (us : List (List ℕ)). with_targets us i) et in
      let names : ns ≡ with_own [] i = a.names ∙ ap (λ (us : List (List ℕ)). with_own us i) en in
      let effects : bodies_before own.effects.items no_bodies ≡ effects_of i no_bodies =
      a.effects no_bodies ∙ ap (λ (bs : List Body). bodies_before bs (effects_of i no_bodies)) ee in
      let rewires : map rewiring own.rewires.items ≡ rewirings_of (with_targets [] i) i =
      a.rewirings ts (go_on ts) ∙ ap₂ (λ (us : List ARewire) (ks : List (List ℕ)). map rewiring us ++ rewirings_of ks i) er targets in
      let statements : stated.stated ws stated.no_more ≡ placed (with_targets [] i) (with_own [] i) 0 0 i stated.no_more =
      a.statements ts ns stated.no_more (go_on ts) (go_on ns)
      ∙ ap₂ (λ (j k : ℕ). placed ts ns j k i stated.no_more) (ap length ee) (ap length er)
      ∙ ap₂ (λ (us ks : List (List ℕ)). placed us ks 0 0 i stated.no_more) targets names in
      h others
      ∙ ap₂ (λ (ss : Stated) (us : List (List ℕ)). body ss us ns (bodies_before own.effects.items no_bodies) (map rewiring own.rewires.items) others) statements targets
      ∙ ap₂ (λ (ks : List (List ℕ)) (es : Bodies). body (placed (with_targets [] i) (with_own [] i) 0 0 i stated.no_more) (with_targets [] i) ks es
      (map rewiring own.rewires.items) others) names effects
      ∙ ap (λ (rs : List Rewiring). body (placed (with_targets [] i) (with_own [] i) 0 0 i stated.no_more) (with_targets [] i) (with_own [] i)
      (effects_of i no_bodies) rs others) rewires

module _ (i : Statements) (none own old new : Lists) (ws : List Stmt) (b : Body) (w : Stmt) (n : ℕ) where
  -- what a nested effect brings was put: its body
  pub effect_built : IsBuilt i none own ws → none.targets.items ≡ [] → none.names.items ≡ [] → none.effects.items ≡ [] → none.rewires.items ≡ []
      → ((others : Bodies) → before b others ≡ body (stated.stated ws stated.no_more) own.targets.items own.names.items
      (bodies_before own.effects.items no_bodies) (map rewiring own.rewires.items) others)
      → new.targets.items ≡ old.targets.items → new.names.items ≡ old.names.items → new.effects.items ≡ old.effects.items ++ b ∷ []
      → new.rewires.items ≡ old.rewires.items → n ≡ length old.effects.items → ((rest : Stated) → put w rest ≡ stated.effect n rest)
      → IsBuilt (effect i done) old new (w ∷ [])
  effect_built a et en ee er h ft fn fe fr place ew = record {
    targets = ft;
    names = fn;
    effects = λ others.
        ap (λ (bs : List Body). bodies_before bs others) fe ∙ bodies_more old.effects.items b others
        ∙ ap (bodies_before old.effects.items) (own_body i none own ws b a et en ee er h others);
    nested = ap length fe ∙ length-append old.effects.items (b ∷ []);
    rewirings = λ ts g. ap (map rewiring) fr ∙ sym (append-nil (map rewiring old.rewires.items));
    rewires = let e = ap length fr in omega arith;
    statements = λ ts ns after g k. ew after ∙ ap (λ (m : ℕ). stated.effect m after) place;
  }

-- ---- up to an `end`

-- Of statements up to an `end`, behind which these lines stand, the first were put and are these, with those lines left that spell the others.
pub record UpTo (s : Statements) (r : List Line) (old new : Lists) (ws : List Stmt) (left : List Line) : Type 0 where
  pub front : Statements
  pub rest : Statements
  pub is : s ≡ appended front rest
  pub ahead : left ≡ lines_of rest ++ (line.End ∷ r)
  pub built : IsBuilt front old new ws

pub begun : (s : Statements) (r : List Line) (l : Lists) (left : List Line) → left ≡ lines_of s ++ (line.End ∷ r) → UpTo s r l l [] left
begun s r l left e = record { front = done; rest = s; is = refl; ahead = e; built = none_built l }

-- ---- how statements begin

pub end_begins : (s : Statements) (r more : List Line) (l : Lists) → line.End ∷ more ≡ lines_of s ++ (line.End ∷ r) → BeginsSo s r l l more None
end_begins s r more l e = let a = end_front s more r e in (a.0, a.1, none_built l)

pub line_begins : (a : Statement) (s : Statements) (r more : List Line) (old new : Lists) (w : Stmt) → line.Plain a ∷ more ≡ lines_of s ++ (line.End ∷ r)
    → IsPut a old new w → BeginsSo s r old new more (Some w)
line_begins a s r more old new w e i = let b = line_front a s more r e in (plain a done, b.0, b.1, b.2, line_built a old new w i)

pub rewire_begins : (n : List ℕ) (x : Source) (s : Statements) (r more : List Line) (old new : Lists) (w : Stmt)
    → line.Rewire n x ∷ more ≡ lines_of s ++ (line.End ∷ r) → IsBuilt (rewire n x done) old new (w ∷ []) → BeginsSo s r old new more (Some w)
rewire_begins n x s r more old new w e i = let b = rewire_front n x s more r e in (rewire n x done, b.0, b.1, b.2, i)

pub when_begins : (x : Draft) (s : Statements) (r more left : List Line) (old new : Lists) (w : Stmt) → line.When x ∷ more ≡ lines_of s ++ (line.End ∷ r)
    → ((i : Statements) (q : List Line) → more ≡ lines_of i ++ (line.End ∷ q) → (left ≡ q) × IsBuilt (when x i done) old new (w ∷ []))
    → BeginsSo s r old new left (Some w)
when_begins x s r more left old new w e h =
    let b = when_front x s more r e in
    let a = h b.0 (lines_of b.1 ++ (line.End ∷ r)) b.3 in
    (when x b.0 done, b.1, b.2, a.0, a.1)

pub effect_begins : (s : Statements) (r more left : List Line) (old new : Lists) (w : Stmt) → line.Effect ∷ more ≡ lines_of s ++ (line.End ∷ r)
    → ((i : Statements) (q : List Line) → more ≡ lines_of i ++ (line.End ∷ q) → (left ≡ q) × IsBuilt (effect i done) old new (w ∷ []))
    → BeginsSo s r old new left (Some w)
effect_begins s r more left old new w e h =
    let b = effect_front s more r e in
    let a = h b.0 (lines_of b.1 ++ (line.End ∷ r)) b.3 in
    (effect b.0 done, b.1, b.2, a.0, a.1)

-- one more of them
pub one_further : (s : Statements) (r : List Line) (old mid new : Lists) (ws vs : List Stmt) (w : Stmt) (left more : List Line) (a : UpTo s r old mid ws left)
    → BeginsSo a.rest r mid new more (Some w) → vs ≡ ws ++ w ∷ [] → UpTo s r old new vs more
one_further s r old mid new ws vs w left more a b e = record {
  front = appended a.front b.0;
  rest = b.1;
  is = a.is ∙ ap (appended a.front) b.2 ∙ sym (then_more a.front b.0 b.1);
  ahead = b.3;
  built = subst (λ (xs : List Stmt). IsBuilt (appended a.front b.0) old new xs) (sym e) (then_built a.front b.0 old mid new ws (w ∷ []) a.built b.4);
}

-- all of them
pub all_put : (s : Statements) (r : List Line) (old mid new : Lists) (ws : List Stmt) (left more : List Line) (a : UpTo s r old mid ws left)
    → BeginsSo a.rest r mid new more None → (more ≡ r) × IsBuilt s old new ws
all_put s r old mid new ws left more a b =
    let whole : IsBuilt (appended a.front done) old new (ws ++ []) = then_built a.front done old mid new ws [] a.built b.2 in
    let same : appended a.front done ≡ s = ap (appended a.front) (sym b.0) ∙ sym a.is in
    (b.1, subst (λ (xs : List Stmt). IsBuilt s old new xs) (append-nil ws) (subst (λ (t : Statements). IsBuilt t old new (ws ++ [])) same whole))
