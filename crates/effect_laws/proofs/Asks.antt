-- Bodies ask for slots of their own that aren't known.
use Rattle.std.proofs.Common.{◌≡◌, ◌+◌, ℕ, suc, Bool, true, false, length, slice_index, refl, ap, arith}
use Rattle.sig_base.specs.declared.value.Value.{Value}
use Rattle.sig_base.specs.declared.value.Outcome.{Outcome}
use Rattle.sig_base.specs.declared.value.Outcome.TheVariants.{Good, Bad}
use Rattle.signal_model.specs.Values.{learnt, unknown_slots}
use Rattle.signal_model.proofs.Shared.{unknown_less}
use Rattle.effect_model.specs.Bodies.{BodyStep, reads, acts, fails, body_step, after_body_read, with_known, after_body_step, body_asked_within}
use Rattle.effect_model.specs.Bodies.{body_asked_from}
use Rattle.effect_laws.specs.Asks.{BodyLaw}
use Rattle.effect_laws.proofs.SharedAsks.{IsNew, body_asks}

pub body_law : BodyLaw
body_law b source ts us fit = go (body_step b.statements ts us) refl
  where
    n : ℕ
    n = length b.names

    next : (s : ℕ) (tr : Bool) (v : Value) → IsNew n ts us s tr →
        with_known tr s v (body_asked_within (unknown_slots n ts + unknown_slots n us) b source) ts us
        ≡ with_known tr s v (body_asked_from b source) ts us
    next s true v h = let e : unknown_slots n ts ≡ suc (unknown_slots n (learnt ts s v)) = unknown_less n s v ts h in
        ap (λ k. body_asked_within k b source (learnt ts s v) us) (let g : unknown_slots n ts + unknown_slots n us
        ≡ suc (unknown_slots n (learnt ts s v) + unknown_slots n us) = omega arith in g)
    next s false v h = let e : unknown_slots n us ≡ suc (unknown_slots n (learnt us s v)) = unknown_less n s v us h in
        ap (λ k. body_asked_within k b source ts (learnt us s v)) (let g : unknown_slots n ts + unknown_slots n us
        ≡ suc (unknown_slots n ts + unknown_slots n (learnt us s v)) = omega arith in g)

    read : (tr : Bool) (m s : ℕ) (o : Outcome) → IsNew n ts us s tr →
        after_body_read tr m o (λ v. with_known tr s v (body_asked_within (unknown_slots n ts + unknown_slots n us) b source) ts us)
        ≡ after_body_read tr m o (λ v. with_known tr s v (body_asked_from b source) ts us)
    read tr m s (Bad e) h = refl
    read tr m s (Good v) h = ap (λ x. after_body_read tr m (Good v) (λ u. x)) (next s tr v h)

    go : (x : BodyStep) → body_step b.statements ts us ≡ x →
        after_body_step x (λ s. slice_index b.names s) source
        (λ s tracked v. with_known tracked s v (body_asked_within (unknown_slots n ts + unknown_slots n us) b source) ts us)
        ≡ after_body_step x (λ s. slice_index b.names s) source (λ s tracked v. with_known tracked s v (body_asked_from b source) ts us)
    go (acts as') e = refl
    go (fails f) e = refl
    go (reads s tr) e = read tr (slice_index b.names s) s (source (slice_index b.names s)) (body_asks n b.statements ts us s tr fit e)
