-- Handlers of events leave the pages as they are.
use Rattle.std.proofs.Common.{◌≡◌, ℕ, List, [], ◌∷◌, ◌++◌, refl, ap, ◌∙◌}
use Rattle.std.specs.List.{AllByRecursion}
use Rattle.signal_model.specs.Sound.{names_of}
use Rattle.effect_model.specs.Acts.{set_cell}
use Rattle.effect_model.specs.Bodies.{Act, to_set, to_log, BodyEvaluation, BodyResult, to_do, failed_by, body_evaluation}
use Rattle.effect_model.specs.Worlds.{Environment, World, logged, settle, tell}
use Rattle.live_entries.specs.declared.entry.Entry.{Entry}
use Rattle.live_entries.specs.declared.entry.Entry.TheVariants as entry
use Rattle.live_model.specs.Handlers.{Handling}
use Rattle.live_model.specs.Machine.{Machine, Told, acted, acting, acting_once, ending, firing, reached, running, settling}
use Rattle.page_laws.proofs.Operations.{AreQuiet, events_quiet, quiet_both}
use Rattle.page_laws.proofs.Worlds.{IsGoodAct, IsGoodResult, IsGoodWorld, body_good, cell_set, rest_good}

-- labels, world and journal aside a machine is as before, the rows of its cells are good, and no operation is told
pub record Stays (m : Machine) (t : Told) : Type 0 where
  pub same : t.machine ≡ record m { labels = t.machine.labels; world = t.machine.world; journal = t.machine.journal }
  pub good : IsGoodWorld t.machine.world
  pub quiet : AreQuiet t.entries

told_stays : (m : Machine) (es : List Entry) → IsGoodWorld m.world → AreQuiet es → Stays m (reached m es)
told_stays m es good quiet = record { same = refl; good = good; quiet = quiet }

acted_stays : (m : Machine) (w : World) → IsGoodWorld w → Stays m (acted m w)
acted_stays m w good = record { same = refl; good = rest_good w good; quiet = events_quiet m.labels w.told }

stays_then : (m : Machine) (t u : Told) → Stays m t → Stays t.machine u → Stays m (reached u.machine (t.entries ++ u.entries))
stays_then m t u a b = record {
  same = b.same ∙ ap (λ (n : Machine). record n { labels = u.machine.labels; world = u.machine.world; journal = u.machine.journal }) a.same;
  good = b.good;
  quiet = quiet_both t.entries u.entries a.quiet b.quiet;
}

one_stays : (env : Environment) (m : Machine) (a : Act) → IsGoodAct a → IsGoodWorld m.world → Stays m (acting_once env m a)
one_stays env m (to_set n v) g good = acted_stays m (set_cell env n v m.world) (cell_set env n v m.world g good)
one_stays env m (to_log v) g good = acted_stays m (tell (logged v) m.world) good
one_stays env m _ g good = told_stays m [] good (λ k. refl)

all_stay : (env : Environment) (m : Machine) (as' : List Act) → AllByRecursion IsGoodAct as' → IsGoodWorld m.world → Stays m (acting env m as')
all_stay env m [] g good = told_stays m [] good (λ k. refl)
all_stay env m (a ∷ as') g good =
    let t = acting_once env m a in
    let one = one_stays env m a g.0 good in stays_then m t (acting env t.machine as') one (all_stay env t.machine as' g.1 one.good)

end_stays : (env : Environment) (m : Machine) (page : List ℕ) (node : ℕ) (r : BodyResult) → IsGoodResult r → IsGoodWorld m.world → Stays m (ending env m page node r)
end_stays env m page node (failed_by f) g good = told_stays m (entry.FailAt page node f ∷ []) good (λ k. refl)
end_stays env m page node (to_do as') g good = all_stay env m as' g good

run_stays : (env : Environment) (m : Machine) (page : List ℕ) (x : Handling) → IsGoodWorld m.world → Stays m (running env m page x)
run_stays env m page x good =
    let e : BodyEvaluation = body_evaluation env.hosts m.world.signals x.body in
    let s : Told = settling env m (names_of e.reads) in
    let fired : Told = reached s.machine (entry.Fired page x.node ∷ []) in
    let end : Told = ending env s.machine page x.node e.result in
    let first : Stays m s = acted_stays m (settle env (names_of e.reads) m.world) good in
    stays_then m s (reached end.machine (fired.entries ++ end.entries)) first
    (stays_then s.machine fired end (told_stays s.machine (entry.Fired page x.node ∷ []) first.good (λ k. refl))
    (end_stays env s.machine page x.node e.result (body_good env.hosts m.world.signals x.body) first.good))

pub fired_stays : (env : Environment) (m : Machine) (page : List ℕ) (xs : List Handling) → IsGoodWorld m.world → Stays m (firing env m page xs)
fired_stays env m page [] good = told_stays m [] good (λ k. refl)
fired_stays env m page (x ∷ xs) good =
    let t = running env m page x in
    let one = run_stays env m page x good in stays_then m t (firing env t.machine page xs) one (fired_stays env t.machine page xs one.good)
