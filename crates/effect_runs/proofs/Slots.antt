-- A body asks for slots of its own that aren't known.
use Rattle.std.proofs.Common.{◌≡◌, ◌+◌, ◌<◌, ℕ, Bool, true, false, not, List, [], length, sym, ap, ◌∙◌, arith}
use Rattle.sig_base.specs.declared.value.Value.{Value}
use Rattle.sig_base.specs.declared.value.Known.{Known}
use Rattle.signal_model.specs.Recipes.{host}
use Rattle.signal_model.specs.Values.{unknown_slots}
use Rattle.signal_model.proofs.Shared.{unknown_less}
use Rattle.effect_model.specs.Bodies.{no_more, body_step}
use Rattle.effect_model.specs.Owners.{the_signal}
use Rattle.effect_laws.proofs.SharedAsks.{IsNew, body_asks}
use Rattle.sig_untrack.specs.declared.body.Body.{Body}
use Rattle.sig_untrack.specs.declared.body.BodyStep.{BodyStep as AStep}
use Rattle.sig_untrack.specs.declared.body.BodyStep.TheVariants as step
use Rattle.sig_untrack.specs.Links.{Parts, step_of}
use Rattle.effect_runs.specs.Evaluations.{body_seen, learnt_if, HasNames}

-- once its value is known, fewer slots aren't known to tracked or to untracked reads
pub fewer_unknown : (n : ℕ) (ts us : List Known) (s : ℕ) (b : Bool) (v : Value) → IsNew n ts us s b →
    unknown_slots n (learnt_if b ts s v) + unknown_slots n (learnt_if (not b) us s v) < unknown_slots n ts + unknown_slots n us
fewer_unknown n ts us s true v new = let e = unknown_less n s v ts new in omega (arith, e)
fewer_unknown n ts us s false v new = let e = unknown_less n s v us new in omega (arith, e)

-- so the measure is less
pub smaller : (n : ℕ) (ts us vs ws : List Known) (s : ℕ) (b : Bool) (v : Value) → IsNew n ts us s b → vs ≡ learnt_if b ts s v → ws ≡ learnt_if (not b) us s v →
    unknown_slots n vs + unknown_slots n ws < unknown_slots n ts + unknown_slots n us
smaller n ts us vs ws s b v new t u =
    let less = fewer_unknown n ts us s b v new in
    let one = ap (unknown_slots n) t in
    let two = ap (unknown_slots n) u in
    omega (arith, less, one, two)

-- places that stand for anything, since what a body asks for doesn't rest on them
pub some_parts : Parts
some_parts = record {
  cells = λ n. n;
  things = λ n. the_signal n;
  bodies = λ n. record { statements = no_more; names = [] };
  rewirings = λ n. record { target = n; recipe = record { expression = host 0; slots = [] } };
}

pub slot_is_new : (b : Body) (names : List ℕ) (ts us vs ws : List Known) (s : ℕ) (c : Bool) (given : AStep) → HasNames b names →
    ((p : Parts) → step_of p given ≡ body_step (body_seen p b names).statements vs ws) → vs ≡ ts → ws ≡ us → given ≡ step.Read s c → IsNew (length names) ts us s c
slot_is_new b names ts us vs ws s c given fit said t u is =
    body_asks (length names) (body_seen some_parts b names).statements ts us s c (fit some_parts)
    (sym (ap (step_of some_parts) (sym is) ∙ said some_parts ∙ (λ i. body_step (body_seen some_parts b names).statements (t i) (u i))))
