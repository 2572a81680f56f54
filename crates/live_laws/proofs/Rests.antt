-- Commands, whether the world comes to rest between them or not.
use Rattle.std.proofs.Common.{◌≡◌, ℕ, List, [], ◌∷◌, ◌++◌, append_assoc, refl, sym, ap, subst, ◌∙◌}
use Rattle.std.proofs.lemmas.List.{append-nil}
use Rattle.effect_model.specs.Worlds.{Environment, World, at_rest}
use Rattle.effect_model.specs.Commands.{Command, after_command, after_commands, new_world}
use Rattle.effect_laws.specs.Rolls.{open_cleanups}
use Rattle.effect_laws.specs.Ends.{AreInTime}
use Rattle.effect_laws.proofs.Shared.{closing_law, end_law, host_law, silence_law}
use Rattle.effect_tables.specs.Roots.{AreBare, Rests}
use Rattle.effect_tables.proofs.Shared.{commands_rest}
use Rattle.live_laws.specs.Rested.{AreAsked, AreEnds, rested_after, RestedLaw, told_by}

told_on : (env : Environment) (cs : List Command) (w : World) → AreBare w.owned → w.told ++ told_by env (at_rest w) cs ≡ (after_commands env w cs).told
told_on env [] w h = append-nil w.told
told_on env (c ∷ cs) w h =
    let r : Rests (λ v. after_command env v c) = commands_rest env c in
    let v : World = after_command env (at_rest w) c in
    sym (append_assoc w.told v.told (told_by env (at_rest v) cs))
    ∙ ap (λ ts. ts ++ told_by env (at_rest v) cs) (sym (r.told w h))
    ∙ ap (λ u. (after_command env w c).told ++ told_by env u cs) (r.whole w h)
    ∙ told_on env cs (after_command env w c) (r.bare w h)

pub told_all : (env : Environment) (n : ℕ) (cs : List Command) → told_by env (new_world n) cs ≡ (after_commands env (new_world n) cs).told
told_all env n cs = told_on env cs (new_world n) tt

ends_rested : (env : Environment) (n : ℕ) (cs : List Command) → AreEnds (told_by env (new_world n) cs)
ends_rested env n cs = record {
  timely = subst (λ ts. AreInTime [] ts) (sym (told_all env n cs)) (end_law env n cs).0;
  silent = λ before after t e. silence_law env n cs before after t (sym (told_all env n cs) ∙ e);
  closed = λ t. ap (open_cleanups t 0) (told_all env n cs) ∙ closing_law env n cs t;
}

pub rested_law : RestedLaw
rested_law env n cs = (ends_rested env n cs, subst AreAsked (sym (told_all env n cs)) (host_law env n cs).1.told)

-- ---- one list of commands after another

pub rested_more : (env : Environment) (cs ds : List Command) (w : World) → rested_after env w (cs ++ ds) ≡ rested_after env (rested_after env w cs) ds
rested_more env [] ds w = refl
rested_more env (c ∷ cs) ds w = rested_more env cs ds (at_rest (after_command env w c))

pub told_more : (env : Environment) (cs ds : List Command) (w : World) →
    told_by env w (cs ++ ds) ≡ told_by env w cs ++ told_by env (rested_after env w cs) ds
told_more env [] ds w = refl
told_more env (c ∷ cs) ds w =
    let v : World = after_command env w c in
    ap (λ ts. v.told ++ ts) (told_more env cs ds (at_rest v)) ∙ sym (append_assoc v.told (told_by env (at_rest v) cs) (told_by env (rested_after env (at_rest v) cs) ds))

-- nothing is left to tell
pub quiet_after : (env : Environment) (cs : List Command) (w : World) → w.told ≡ [] → (rested_after env w cs).told ≡ []
quiet_after env [] w h = h
quiet_after env (c ∷ cs) w h = quiet_after env cs (at_rest (after_command env w c)) refl
