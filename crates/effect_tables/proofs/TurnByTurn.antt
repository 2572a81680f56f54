-- A flush, turn by turn.
use Rattle.std.proofs.Common.{arith, ◌≡◌, ℕ, suc, ◌+◌, ◌-◌, ◌<◌, ◌≤◌, true, false, sym, ap, ◌∙◌}
use Rattle.effect_model.specs.Worlds.{Environment, World, effect_numbers}
use Rattle.effect_model.specs.Runs.{Flushed, turn, after_turn, flush, flush_within, last_look}
use Rattle.effect_tables.specs.Turned.{added, after_turns, FlushesByTurns}

added_none : (f : Flushed) → added 0 f ≡ f
added_none f = (λ i. record f { turns = e i })
  where
    e : f.turns + 0 ≡ f.turns
    e = omega arith

-- no turn was made yet
pub at_start : (env : Environment) (w : World) → flush env w ≡ added 0 (flush_within (100 - 0) env w)
at_start env w = sym (added_none (flush env w)) ∙ ap (λ k. added 0 (flush_within k env w)) (let e : 100 ≡ 100 - 0 = omega arith in e)

-- one turn more ran an effect
one_turn : (k made : ℕ) (env : Environment) (w : World) → (turn env w).ran ≡ true → added made (flush_within (suc k) env w) ≡ added (made + 1) (flush_within k env (turn env w).world)
one_turn k made env w ran =
    ap (λ b. added made (after_turn b (turn env w).world (flush_within k env))) ran ∙ (λ i. record (flush_within k env (turn env w).world) { turns = e i })
  where
    e : (flush_within k env (turn env w).world).turns + 1 + made ≡ (flush_within k env (turn env w).world).turns + (made + 1)
    e = omega arith

one_less : (made : ℕ) → made < 100 → 100 - made ≡ suc (100 - (made + 1))
one_less made lt = omega arith

at_turn : (made : ℕ) (env : Environment) (w v : World) → made < 100 → (turn env v).ran ≡ true → flush env w ≡ added made (flush_within (100 - made) env v) →
    flush env w ≡ added (made + 1) (flush_within (100 - (made + 1)) env (turn env v).world)
at_turn made env w v lt ran so =
    so ∙ ap (λ k. added made (flush_within k env v)) (one_less made lt) ∙ one_turn (100 - (made + 1)) made env v ran

-- a turn that runs nothing ends it
at_rest : (made : ℕ) (env : Environment) (w v : World) → made < 100 → (turn env v).ran ≡ false → flush env w ≡ added made (flush_within (100 - made) env v) →
    flush env w ≡ record { world = (turn env v).world; turns = made; refused = false }
at_rest made env w v lt ran so =
    so ∙ ap (λ k. added made (flush_within k env v)) (one_less made lt)
    ∙ ap (λ b. added made (after_turn b (turn env v).world (flush_within (100 - (made + 1)) env))) ran
    ∙ ap (λ (n : ℕ). record { world = (turn env v).world; turns = n; refused = false }) (let e : 0 + made ≡ made = omega arith in e)

-- after the last turn comes the last look
pub at_end : (made : ℕ) (env : Environment) (w v : World) → 100 ≤ made → flush env w ≡ added made (flush_within (100 - made) env v) →
    flush env w ≡ added made (last_look env (effect_numbers v.effects) v)
at_end made env w v le so = so ∙ ap (λ k. added made (flush_within k env v)) (let e : 100 - made ≡ 0 = omega arith in e)

-- one turn more, as numbers have it
after_more : (made : ℕ) (env : Environment) (w : World) → (turn env (after_turns made env w)).world ≡ after_turns (made + 1) env w
after_more made env w = ap (λ n. after_turns n env w) (let e : suc made ≡ made + 1 = omega arith in e)

pub goes_on : FlushesByTurns
goes_on env w made lt = record {
  ran = λ ran so.
      at_turn made env w (after_turns made env w) lt ran so
      ∙ ap (λ v. added (made + 1) (flush_within (100 - (made + 1)) env v)) (after_more made env w);
  ends = λ ran so.
      at_rest made env w (after_turns made env w) lt ran so
      ∙ ap (λ (v : World). record { world = v; turns = made; refused = false }) (after_more made env w);
}
