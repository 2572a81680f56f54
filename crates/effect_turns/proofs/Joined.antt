-- The steps of a run, put together.
use Rattle.std.proofs.Common.{◌≡◌, ℕ, suc, ◌+◌, List, [], ◌∷◌, Option, Some, None, append-nil, map, refl, sym, ap, subst, ◌∙◌, arith}
use Rattle.std.specs.Rc.{rc_value}
use Rattle.signal_model.specs.Recipes.{Hosts}
use Rattle.signal_model.specs.Sound.{names_of}
use Rattle.signal_model.specs.Signals.{Signals}
use Rattle.signal_model.specs.Values.{Seen}
use Rattle.effect_model.specs.Acts.{take_back}
use Rattle.effect_model.specs.Bodies as model
use Rattle.effect_model.specs.Bodies.{BodyEvaluation, BodyResult, body_evaluation}
use Rattle.effect_model.specs.Owners.{the_effect}
use Rattle.effect_model.specs.Runs.{do_result, keep_reads, run_body, run_effect}
use Rattle.effect_model.specs.Worlds as plain
use Rattle.effect_model.specs.Worlds.{HostState, unused, used, dropped, asked_by, asked_more, effect_at, settle}
use Rattle.effect_tables.proofs.Shared.{all_rest, rests_then, body_rests}
use Rattle.effect_tables.specs.declared.effect.Effect.{Effect}
use Rattle.effect_tables.specs.declared.effect.Script.{Script}
use Rattle.effect_tables.specs.Bodies.{body_of, links_before, no_body, no_links}
use Rattle.effect_teardown.specs.Sites.{body_at, links_at}
use Rattle.effect_teardown.proofs.SharedSites.{none_seen, unlinked_seen}
use Rattle.effect_tables.specs.Placed.{effect_of}
use Rattle.effect_tables.specs.Visits.{rerun, to_effect}
use Rattle.sig_effect.specs.Stores.{environment}
use Rattle.sig_untrack.specs.declared.body.Body.{Body}
use Rattle.sig_untrack.specs.Links.{Parts}
use Rattle.sig_untrack.specs.Stated as stated
use Rattle.sig_untrack.specs.Stated.{no_bodies}
use Rattle.effect_runs.specs.Evaluations.{body_seen, LogsCell}
use Rattle.effect_runs.specs.declared.at_once.LoggedCell.{LoggedCell}
use Rattle.effect_runs.proofs.Shared.{logged_settled}
use Rattle.sig_computed.specs.Scenes as settling
use Rattle.effect_world.specs.Signals.{Scene, any_hosts}
use Rattle.effect_world.specs.Stores.{Agrees, IsSound}
use Rattle.effect_world.specs.Wholes.{whole_of}
use Rattle.effect_world.specs.Answers.{Acted}
use Rattle.effect_turns.specs.Runs.{Runs}
use Rattle.effect_turns.proofs.Carried.{acted_runs, runs_any, runs_as, runs_still, settled_runs}
use Rattle.effect_turns.proofs.Sequences.{runs_then}

-- ---- a body that is evaluated

-- on names in other words
pub seen_runs : (slacks : List ℕ) (old new : Scene) (before after : Hosts → Type 0) (w : Signals) (p : Parts) (b : Body) (ns ms : List ℕ) → ns ≡ ms →
    Runs slacks old new before after (λ env. settle env (names_of (body_evaluation env.hosts w (body_seen p b ns)).reads)) →
    Runs slacks old new before after (λ env. settle env (names_of (body_evaluation env.hosts w (body_seen p b ms)).reads))
seen_runs slacks old new before after w p b ns ms is r =
    subst (λ (xs : List ℕ). Runs slacks old new before after (λ env. settle env (names_of (body_evaluation env.hosts w (body_seen p b xs)).reads))) is r

-- one that logs a cell settles nothing
pub logged_runs : (slacks : List ℕ) (x : Scene) (answers : Hosts → Type 0) (p : Parts) (b : Body) (names : List ℕ) (l : LoggedCell) → Agrees x.asked x.world →
    LogsCell x.world.graph.state.signals b names l →
    Runs slacks x x answers answers (λ env. settle env (names_of (body_evaluation env.hosts x.world.graph.state.signals (body_seen p b names)).reads))
logged_runs slacks x answers p b names l a h =
    settled_runs slacks x.world x.world x.asked x.asked [] [] x.events x.events answers answers
    (λ hosts. names_of (body_evaluation hosts x.world.graph.state.signals (body_seen p b names)).reads) refl (sym (append-nil x.events)) refl refl refl a
    (logged_settled (settling.scene x.world.graph x.asked []) answers b names l a.signals.idle h p)

-- what it has read, tracked, and how it has ended
pub record IsEvaluated (ss : List Seen) (end : BodyResult) (e : BodyEvaluation) : Type 0 where
  pub tracked : ss ≡ e.tracked
  pub result : end ≡ e.result

module _ (slacks : List ℕ) (old mid kept new : Scene) (before between after : Hosts → Type 0) (id : ℕ) (p : Parts) (b : Body) (names : List ℕ) (body : model.Body) (tracked : List Seen) (result : BodyResult) where
  pub run_joined : body ≡ body_seen p b names → Agrees old.asked old.world →
      ((hosts : Hosts) → before hosts → IsSound hosts old.asked old.world →
      IsEvaluated tracked result (body_evaluation hosts old.world.graph.state.signals (body_seen p b names))) →
      Runs slacks old mid before between (λ env. settle env (names_of (body_evaluation env.hosts old.world.graph.state.signals (body_seen p b names)).reads)) →
      Acted slacks mid kept any_hosts any_hosts 0 (λ env. keep_reads id tracked) →
      Runs slacks kept new between after (λ env. do_result env id result) →
      Runs slacks old new before after (λ env w. run_body env id (body_evaluation env.hosts w.signals body) w)
  run_joined seen a is first then' last =
      runs_as slacks old new before after
      (λ env w. do_result env id result (keep_reads id tracked
      (settle env (names_of (body_evaluation env.hosts old.world.graph.state.signals (body_seen p b names)).reads) w)))
      (λ env w. run_body env id (body_evaluation env.hosts w.signals body) w)
      (λ hosts all sound.
      let env : plain.Environment = environment hosts slacks in
      let w : plain.World = whole_of old.asked old.world in
      let e : BodyEvaluation = body_evaluation hosts old.world.graph.state.signals (body_seen p b names) in
      let r = is hosts all sound in
      (λ i. do_result env id (r.result i) (keep_reads id (r.tracked i) (settle env (names_of e.reads) w)))
      ∙ ap (λ (x : model.Body). run_body env id (body_evaluation hosts old.world.graph.state.signals x) w) (sym seen))
      (runs_then slacks old kept new before between after
      (λ env w. keep_reads id tracked (settle env (names_of (body_evaluation env.hosts old.world.graph.state.signals (body_seen p b names)).reads) w))
      (λ env. do_result env id result) a
      (λ env. rests_then (settle env (names_of (body_evaluation env.hosts old.world.graph.state.signals (body_seen p b names)).reads)) (keep_reads id tracked)
      (all_rest.settling env (names_of (body_evaluation env.hosts old.world.graph.state.signals (body_seen p b names)).reads)) (all_rest.keeping id tracked))
      (λ env. all_rest.ending env id result)
      (runs_then slacks old mid kept before between between
      (λ env. settle env (names_of (body_evaluation env.hosts old.world.graph.state.signals (body_seen p b names)).reads)) (λ env. keep_reads id tracked) a
      (λ env. all_rest.settling env (names_of (body_evaluation env.hosts old.world.graph.state.signals (body_seen p b names)).reads)) (λ env. all_rest.keeping id tracked)
      first (runs_any slacks mid kept between (λ env. keep_reads id tracked) (acted_runs slacks mid kept any_hosts any_hosts 0 (λ env. keep_reads id tracked) then')))
      last)

-- ---- a body with no statement

more_none : (s : HostState) → asked_more 0 s ≡ s
more_none unused = refl
more_none (used asks) = let e : asks + 0 ≡ asks = omega arith in ap used e
more_none (dropped asks) = refl

asked_none : (place : ℕ) (ss : List HostState) → asked_by [] place ss ≡ ss
asked_none place [] = refl
asked_none place (s ∷ ss) = λ i. more_none s i ∷ asked_none (suc place) ss i

pub settle_none : (env : plain.Environment) (w : plain.World) → settle env [] w ≡ w
settle_none env w = λ i. record w { host_states = asked_none 0 w.host_states i; told = append-nil w.told i }

nothing_run : (env : plain.Environment) (id : ℕ) (w : plain.World) → keep_reads id [] w ≡ run_body env id (body_evaluation env.hosts w.signals no_body) w
nothing_run env id w = ap (keep_reads id []) (sym (settle_none env w))

pub run_empty : (slacks : List ℕ) (old new : Scene) (id : ℕ) (reads : List Seen) → reads ≡ [] → Acted slacks old new any_hosts any_hosts 0 (λ env. keep_reads id reads) →
    Runs slacks old new any_hosts any_hosts (λ env w. run_body env id (body_evaluation env.hosts w.signals no_body) w)
run_empty slacks old new id reads empty a =
    runs_as slacks old new any_hosts any_hosts (λ env. keep_reads id reads) (λ env w. run_body env id (body_evaluation env.hosts w.signals no_body) w)
    (λ hosts all sound.
    let w : plain.World = whole_of old.asked old.world in
    ap (λ ss. keep_reads id ss w) empty ∙ nothing_run (environment hosts slacks) id w)
    (acted_runs slacks old new any_hosts any_hosts 0 (λ env. keep_reads id reads) a)

pub empty_run : (slacks : List ℕ) (old new : Scene) (answers : Hosts → Type 0) (id : ℕ) (body : model.Body) → body ≡ no_body →
    Runs slacks old new any_hosts any_hosts (λ env w. run_body env id (body_evaluation env.hosts w.signals no_body) w) →
    Runs slacks old new answers answers (λ env w. run_body env id (body_evaluation env.hosts w.signals body) w)
empty_run slacks old new answers id body is r =
    runs_as slacks old new answers answers (λ env w. run_body env id (body_evaluation env.hosts w.signals no_body) w) (λ env w. run_body env id (body_evaluation env.hosts w.signals body) w)
    (λ hosts all sound.
    let w : plain.World = whole_of old.asked old.world in
    ap (λ (x : model.Body). run_body (environment hosts slacks) id (body_evaluation hosts w.signals x) w) (sym is))
    (runs_any slacks old new answers (λ env w. run_body env id (body_evaluation env.hosts w.signals no_body) w) r)

-- where the path of an effect leads to no body, or to no links, there is no statement
pub nothing_there : (slacks : List ℕ) (old new : Scene) (answers : Hosts → Type 0) (id origin : ℕ) (s t : Script) (path qs : List ℕ) → t ≡ s → qs ≡ path →
    body_at (stated.before t.body no_bodies) 0 qs ≡ no_bodies →
    Runs slacks old new any_hosts any_hosts (λ env w. run_body env id (body_evaluation env.hosts w.signals no_body) w) →
    Runs slacks old new answers answers (λ env w. run_body env id (body_evaluation env.hosts w.signals (body_of origin s path)) w)
nothing_there slacks old new answers id origin s t path qs same here none r =
    empty_run slacks old new answers id (body_of origin s path)
    (none_seen origin s path (sym (λ i. body_at (stated.before (same i).body no_bodies) 0 (here i)) ∙ none)) r

pub nothing_linked : (slacks : List ℕ) (old new : Scene) (answers : Hosts → Type 0) (id origin : ℕ) (s t : Script) (path qs : List ℕ) → t ≡ s → qs ≡ path →
    links_at (links_before t.links no_links) 0 qs ≡ no_links →
    Runs slacks old new any_hosts any_hosts (λ env w. run_body env id (body_evaluation env.hosts w.signals no_body) w) →
    Runs slacks old new answers answers (λ env w. run_body env id (body_evaluation env.hosts w.signals (body_of origin s path)) w)
nothing_linked slacks old new answers id origin s t path qs same here none r =
    empty_run slacks old new answers id (body_of origin s path)
    (unlinked_seen origin s path (sym (λ i. links_at (links_before (same i).links no_links) 0 (here i)) ∙ none)) r

-- ---- a whole run

pub run_whole : (slacks : List ℕ) (old mid new : Scene) (before between after : Hosts → Type 0) (id : ℕ) (body : model.Body) → Agrees old.asked old.world →
    Runs slacks old mid before between (λ env. take_back env (the_effect id)) →
    Runs slacks mid new between after (λ env w. run_body env id (body_evaluation env.hosts w.signals body) w) →
    Runs slacks old new before after (λ env. run_effect env (record { number = id; body = body; kept = None }))
run_whole slacks old mid new before between after id body a p q =
    runs_then slacks old mid new before between after (λ env. take_back env (the_effect id)) (λ env w. run_body env id (body_evaluation env.hosts w.signals body) w) a
    (λ env. all_rest.taking_back env (the_effect id)) (λ env. body_rests env id body) p q

-- where no effect has the number, nothing runs
pub rerun_none : (slacks : List ℕ) (x : Scene) (answers : Hosts → Type 0) (id : ℕ) → Agrees x.asked x.world →
    effect_at id (map effect_of x.world.tables.effects.items) ≡ None → Runs slacks x x answers answers (λ env. rerun env id)
rerun_none slacks x answers id a none =
    runs_still slacks x answers (λ env. rerun env id) a
    (λ env. ap (λ o. to_effect (run_effect env) o (whole_of x.asked x.world)) none)

-- else that effect does
pub rerun_some : (slacks : List ℕ) (old new : Scene) (before after : Hosts → Type 0) (id origin : ℕ) (script : Script) (path : List ℕ) (x : Effect) →
    effect_at id (map effect_of old.world.tables.effects.items) ≡ Some (effect_of x) → origin ≡ x.origin → script ≡ rc_value x.script → path ≡ x.path.items →
    Runs slacks old new before after (λ env. run_effect env (record { number = x.id; body = body_of origin script path; kept = None })) →
    Runs slacks old new before after (λ env. rerun env id)
rerun_some slacks old new before after id origin script path x at o s q r =
    runs_as slacks old new before after (λ env. run_effect env (record { number = x.id; body = body_of origin script path; kept = None })) (λ env. rerun env id)
    (λ hosts all sound.
    let env : plain.Environment = environment hosts slacks in
    let w : plain.World = whole_of old.asked old.world in
    (λ i. run_effect env (record { number = x.id; body = body_of (o i) (s i) (q i); kept = (effect_of x).kept }) w)
    ∙ sym (ap (λ (y : Option plain.Effect). to_effect (run_effect env) y w) at)) r
