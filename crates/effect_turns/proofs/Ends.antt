-- How a run ends.
use Rattle.std.proofs.Common.{Vec, Global, ◌≡◌, ℕ, List, sym, ap, ◌∙◌}
use Rattle.sig_base.specs.declared.value.Fault.{Fault}
use Rattle.signal_model.specs.Recipes.{Hosts}
use Rattle.effect_model.specs.Runs.{do_acts, do_result}
use Rattle.effect_model.specs.Worlds as plain
use Rattle.effect_model.specs.Worlds.{failed, tell}
use Rattle.sig_effect.specs.Stores.{environment}
use Rattle.sig_untrack.specs.declared.body.Act.{Act as AnAct}
use Rattle.sig_untrack.specs.Links.{Parts, acts_of}
use Rattle.effect_runs.specs.declared.run.BodyEnd.{BodyEnd}
use Rattle.effect_runs.specs.declared.run.BodyEnd.TheVariants.{Acts, Fail}
use Rattle.effect_runs.specs.Evaluations.{result_of}
use Rattle.effect_world.specs.Signals.{Scene, any_hosts}
use Rattle.effect_world.specs.Wholes.{whole_of}
use Rattle.effect_world.specs.Answers.{Acted}
use Rattle.effect_turns.specs.Runs.{Runs}
use Rattle.effect_turns.proofs.Carried.{acted_runs, runs_any, runs_as}

pub fail_runs : (slacks : List ℕ) (old new : Scene) (answers : Hosts → Type 0) (id : ℕ) (p : Parts) (end : BodyEnd) (f : Fault) → end ≡ Fail f →
    Acted slacks old new any_hosts any_hosts 0 (λ env. tell (failed id f)) → Runs slacks old new answers answers (λ env. do_result env id (result_of p end))
fail_runs slacks old new answers id p end f is a =
    runs_as slacks old new answers answers (λ env. tell (failed id f)) (λ env. do_result env id (result_of p end))
    (λ hosts all sound. sym (ap (λ e. do_result (environment hosts slacks) id (result_of p e) (whole_of old.asked old.world)) is))
    (runs_any slacks old new answers (λ env. tell (failed id f)) (acted_runs slacks old new any_hosts any_hosts 0 (λ env. tell (failed id f)) a))

pub acts_runs : (slacks : List ℕ) (old new : Scene) (before after : Hosts → Type 0) (id : ℕ) (p : Parts) (end : BodyEnd) (as' : Vec AnAct Global) (items : List AnAct) →
    end ≡ Acts as' → items ≡ as'.items → (steps : ℕ) → Acted slacks old new before after steps (λ env. do_acts env id 1 (acts_of p items)) →
    Runs slacks old new before after (λ env. do_result env id (result_of p end))
acts_runs slacks old new before after id p end as' items is same steps a =
    runs_as slacks old new before after (λ env. do_acts env id 1 (acts_of p items)) (λ env. do_result env id (result_of p end))
    (λ hosts all sound.
    let env : plain.Environment = environment hosts slacks in
    let w : plain.World = whole_of old.asked old.world in
    ap (λ xs. do_acts env id 1 (acts_of p xs) w) same ∙ sym (ap (λ e. do_result env id (result_of p e) w) is))
    (acted_runs slacks old new before after steps (λ env. do_acts env id 1 (acts_of p items)) a)
