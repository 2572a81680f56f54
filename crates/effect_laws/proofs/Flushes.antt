-- A flush that isn't refused leaves no effect due, and one that is leaves one.
use Rattle.std.proofs.Common.{◌≡◌, ◌==◌, ◌||◌, ℕ, zero, suc, Bool, true, false, cond, List, [], ◌∷◌, Option, Some, None, arith, refl, sym, ap, ◌∙◌}
use Rattle.std.proofs.Common.{subst, inl, inr}
use Rattle.std.proofs.lemmas.Bool.{eqb-true}
use Rattle.signal_model.specs.Signals.{Signals, is_in}
use Rattle.signal_model.specs.Values.{value_of}
use Rattle.signal_model.proofs.Shared.{either}
use Rattle.effect_model.specs.Worlds.{Environment, Effect, World, effect_at, effect_numbers}
use Rattle.effect_model.specs.Runs.{is_effect_due, value_now, look, Turned, after_look, at_place, turn_over, turn, Flushed, after_last, last_case}
use Rattle.effect_model.specs.Runs.{last_look, after_turn, flush_within}
use Rattle.effect_laws.specs.Refusals.{HasDue, NoneDue, EndsRightly, RestLaw}

-- whether an effect is due on these signals, where there is one
abbrev pub is_due_on : Environment → Signals → Option Effect → Bool
is_due_on env s None = false
is_due_on env s (Some x) = is_effect_due (λ m. value_of env.hosts s m []) x.kept

-- of these numbers none has an effect that is due
abbrev pub NoneOf : Environment → Signals → List Effect → List ℕ → Type 0
NoneOf env s xs [] = Unit {0}
NoneOf env s xs (e ∷ es) = (is_due_on env s (effect_at e xs) ≡ false) × NoneOf env s xs es

-- none of these effects is due
abbrev NoneIn : Environment → Signals → List Effect → Type 0
NoneIn env s xs = (n : ℕ) (x : Effect) → effect_at n xs ≡ Some x → is_due_on env s (Some x) ≡ false

-- an effect that is found has its number among all numbers
is_numbered : (n : ℕ) (xs : List Effect) (x : Effect) → effect_at n xs ≡ Some x → is_in n (effect_numbers xs) ≡ true
is_numbered n [] x h = cc
is_numbered n (y ∷ ys) x h = go (n == y.number) h (is_numbered n ys x)
  where
    go : (b : Bool) → cond b (Some y) (effect_at n ys) ≡ Some x → (effect_at n ys ≡ Some x → is_in n (effect_numbers ys) ≡ true) →
        (b || is_in n (effect_numbers ys)) ≡ true
    go true e rest = refl
    go false e rest = rest e

one_of : (env : Environment) (s : Signals) (xs : List Effect) (es : List ℕ) (n : ℕ) → NoneOf env s xs es → is_in n es ≡ true →
    is_due_on env s (effect_at n xs) ≡ false
one_of env s xs [] n h i = cc
one_of env s xs (e ∷ es) n h i = elim (either (n == e) (is_in n es) i) [
  | inl same ↦ subst (λ m. is_due_on env s (effect_at m xs) ≡ false) (sym (eqb-true n e same)) h.0
  | inr there ↦ one_of env s xs es n h.1 there
]

none_in : (env : Environment) (s : Signals) (xs : List Effect) → NoneOf env s xs (effect_numbers xs) → NoneIn env s xs
none_in env s xs h n x at = ap (is_due_on env s) (sym at) ∙ one_of env s xs (effect_numbers xs) n h (is_numbered n xs x at)

-- the signals and effects are these still, and of these numbers none has an effect that is due
abbrev pub Rests : Environment → Signals → List Effect → List ℕ → World → Type 0
Rests env s xs es v = (v.signals ≡ s) × (v.effects ≡ xs) × NoneOf env s xs es

rests_none : (env : Environment) (w v : World) → Rests env w.signals w.effects (effect_numbers w.effects) v → NoneDue env v
rests_none env w v r =
    subst (λ s. NoneIn env s v.effects) (sym r.0) (subst (λ xs. NoneIn env w.signals xs) (sym r.1) (none_in env w.signals w.effects r.2))

-- ---- the last look

pub record Ends (env : Environment) (w : World) (es : List ℕ) (f : Flushed) : Type 0 where
  pub turns : f.turns ≡ 0
  pub refused : f.refused ≡ true → HasDue env f.world
  pub rests : f.refused ≡ false → Rests env w.signals w.effects es f.world

pub last_ends : (env : Environment) (es : List ℕ) (w : World) → Ends env w es (last_look env es w)
last_ends env [] w = record { turns = refl; refused = λ h. cc; rests = λ h. (refl, refl, tt) }
last_ends env (e ∷ es) w = found (effect_at e w.effects) refl (λ v. last_ends env es v)
  where
    found : (x : Option Effect) → effect_at e w.effects ≡ x → ((v : World) → Ends env v es (last_look env es v)) →
        Ends env w (e ∷ es) (last_case env x w (last_look env es))
    found None at rest = record {
      turns = (rest w).turns;
      refused = (rest w).refused;
      rests = λ h. let r : Rests env w.signals w.effects es (last_look env es w).world = (rest w).rests h in
          (r.0, r.1, (ap (is_due_on env w.signals) at, r.2));
    }
    found (Some x) at rest = go (is_effect_due (value_now env w) x.kept) refl
      where
        go : (b : Bool) → is_effect_due (value_now env w) x.kept ≡ b → Ends env w (e ∷ es) (after_last b (look env x w) (last_look env es))
        go true d = record { turns = refl; refused = λ h. record { number = e; effect = x; lives = at; due = d }; rests = λ h. cc }
        go false d = record {
          turns = (rest (look env x w)).turns;
          refused = (rest (look env x w)).refused;
          rests = λ h. let r : Rests env w.signals w.effects es (last_look env es (look env x w)).world = (rest (look env x w)).rests h in
              (r.0, r.1, (ap (is_due_on env w.signals) at ∙ d, r.2));
        }

-- ---- a turn

-- once an effect has run, it has
pub ran_stays : (env : Environment) (es : List ℕ) (t : Turned) → t.ran ≡ true → (turn_over env es t).ran ≡ true
ran_stays env [] t h = h
ran_stays env (e ∷ es) t h = ran_stays env es (at_place env (effect_at e t.world.effects) t) (found (effect_at e t.world.effects))
  where
    found : (x : Option Effect) → (at_place env x t).ran ≡ true
    found None = h
    found (Some x) = go (is_effect_due (value_now env t.world) x.kept)
      where
        go : (b : Bool) → (after_look env x b (look env x t.world) t.ran).ran ≡ true
        go true = refl
        go false = h

pub turn_rests : (env : Environment) (es : List ℕ) (t : Turned) → (turn_over env es t).ran ≡ false →
    Rests env t.world.signals t.world.effects es (turn_over env es t).world
turn_rests env [] t h = (refl, refl, tt)
turn_rests env (e ∷ es) t h = found (effect_at e t.world.effects) refl h (λ u k. turn_rests env es u k)
  where
    found : (x : Option Effect) → effect_at e t.world.effects ≡ x → (turn_over env es (at_place env x t)).ran ≡ false →
        ((u : Turned) → (turn_over env es u).ran ≡ false → Rests env u.world.signals u.world.effects es (turn_over env es u).world) →
        Rests env t.world.signals t.world.effects (e ∷ es) (turn_over env es (at_place env x t)).world
    found None at k rest =
        let r : Rests env t.world.signals t.world.effects es (turn_over env es t).world = rest t k in
        (r.0, r.1, (ap (is_due_on env t.world.signals) at, r.2))
    found (Some x) at k rest = go (is_effect_due (value_now env t.world) x.kept) refl k
      where
        go : (b : Bool) → is_effect_due (value_now env t.world) x.kept ≡ b →
            (turn_over env es (after_look env x b (look env x t.world) t.ran)).ran ≡ false →
            Rests env t.world.signals t.world.effects (e ∷ es) (turn_over env es (after_look env x b (look env x t.world) t.ran)).world
        go true d j = absurd (let yes' : (turn_over env es (after_look env x true (look env x t.world) t.ran)).ran
            ≡ true = ran_stays env es (after_look env x true (look env x t.world) t.ran) refl in cc)
        go false d j =
            let u : Turned = record { world = look env x t.world; ran = t.ran } in
            let r : Rests env t.world.signals t.world.effects es (turn_over env es u).world = rest u j in
            (r.0, r.1, (ap (is_due_on env t.world.signals) at ∙ d, r.2))

-- ---- a flush

ends_rightly : (most : ℕ) (env : Environment) (w : World) → EndsRightly env most (flush_within most env w)
ends_rightly zero env w =
    let l : Ends env w (effect_numbers w.effects) (last_look env (effect_numbers w.effects) w) = last_ends env (effect_numbers w.effects) w in
    record { refused = λ h. (l.turns, l.refused h); rests = λ h. rests_none env w (last_look env (effect_numbers w.effects) w).world (l.rests h) }
ends_rightly (suc more) env w = go (turn env w).ran refl (ends_rightly more env (turn env w).world)
  where
    go : (b : Bool) → (turn env w).ran ≡ b → EndsRightly env more (flush_within more env (turn env w).world) →
        EndsRightly env (suc more) (after_turn b (turn env w).world (flush_within more env))
    go true h rest = record {
      refused = λ k. let r : ((flush_within more env (turn env w).world).turns ≡ more) × HasDue env (flush_within more env (turn env w).world).world
          = rest.refused k in
          (let e : (flush_within more env (turn env w).world).turns ≡ more = r.0 in omega arith, r.1);
      rests = rest.rests;
    }
    go false h rest = record {
      refused = λ k. cc;
      rests = λ k. rests_none env w (turn env w).world (turn_rests env (effect_numbers w.effects) (record { world = w; ran = false }) h);
    }

pub rest_law : RestLaw
rest_law env w = ends_rightly 100 env w
