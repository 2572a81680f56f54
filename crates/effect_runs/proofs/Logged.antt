-- A body that logs the value of a cell, and does nothing else.
use Rattle.std.proofs.Common.{◌≡◌, ℕ, ◌<◌, true, List, [], ◌∷◌, length, None, Some, refl, sym, ap, subst, ◌∙◌}
use Rattle.std.specs.Prelude.{slice_index, if◌then◌else◌}
use Rattle.std.proofs.lemmas.Bool.{eq-eqb, eqb-true}
use Rattle.sig_base.specs.declared.value.Value.{Value}
use Rattle.sig_base.specs.declared.value.Known.{Known}
use Rattle.sig_base.specs.declared.value.Outcome.{Outcome}
use Rattle.sig_base.specs.declared.value.Outcome.TheVariants.{Good}
use Rattle.sig_formula.specs.Trees.{slot}
use Rattle.sig_formula.specs.Evaluation.{known_at, slot_step}
use Rattle.signal_model.specs.Recipes.{Hosts}
use Rattle.signal_model.specs.Signals.{Signals, standing}
use Rattle.signal_model.specs.Values.{learnt, value_of}
use Rattle.signal_model.specs.Sound.{names_of}
use Rattle.effect_model.specs.Bodies as model
use Rattle.effect_model.specs.Bodies.{BodyEvaluation, acts, after_body_read, after_body_step, and_then, body_asked_from, body_ended, body_evaluation, body_step, read_before, to_do, to_log, with_answer, with_known}
use Rattle.effect_model.specs.declared.plain.Plain.TheVariants as lines
use Rattle.effect_laws.proofs.Shared.{body_law}
use Rattle.sig_untrack.specs.declared.body.Body.{Body}
use Rattle.sig_untrack.specs.Links.{Parts, linked}
use Rattle.sig_untrack.specs.Stated.{Stated, before, no_bodies, statements_of}
use Rattle.sig_nodes.specs.Answers.{value_here}
use Rattle.sig_computed.specs.Notes.{IsIdle}
use Rattle.sig_computed.specs.Scenes.{Scene, Settles}
use Rattle.effect_tables.specs.Scripts.{count_of}
use Rattle.effect_runs.specs.declared.at_once.LoggedCell.{LoggedCell}
use Rattle.effect_runs.specs.declared.run.BodyRun.{BodyRun}
use Rattle.effect_runs.specs.Evaluations.{body_seen, HasLogged, IsRunOf, IsShort, LogsCell, LogsName}
use Rattle.effect_runs.proofs.Cells.{cell_settled, value_is}
use Rattle.effect_runs.proofs.Names.{same_settled}

-- the body that logs a slot
abbrev logging : ℕ → List ℕ → model.Body
logging s names = record { statements = model.plain (lines.Log (slot s)) model.no_more; names = names }

-- what it comes to
abbrev logged : ℕ → Value → BodyEvaluation
logged n v = record {
  reads = record { name = n; outcome = Good v } ∷ [];
  tracked = record { name = n; outcome = Good v } ∷ [];
  result = to_do (to_log v ∷ []);
}

-- once its slot is known it ends
known_here : (s : ℕ) (v : Value) → known_at s (learnt [] s v) ≡ Some v
known_here s v = ap (λ b. if b then Some v else None) (eq-eqb s s refl)

log_ends : (s : ℕ) (v : Value) → body_step (model.plain (lines.Log (slot s)) model.no_more) (learnt [] s v) [] ≡ acts (to_log v ∷ [])
log_ends s v = ap (λ o. and_then (with_answer (slot_step true s o) (λ u. acts (to_log u ∷ []))) (acts [])) (known_here s v)

module _ (s : ℕ) (names : List ℕ) (source : ℕ → Outcome) (v : Value) (within : s < length names) (good : source (slice_index names s) ≡ Good v) where
  -- one answer by what is known
  answer : (ts : List Known) → body_asked_from (logging s names) source ts []
      ≡ after_body_step (body_step (logging s names).statements ts []) (λ m. slice_index names m) source
      (λ m tracked u. with_known tracked m u (body_asked_from (logging s names) source) ts [])
  answer ts = body_law (logging s names) source ts [] ((λ m e. subst (λ k. k < length names) (eqb-true s m e) within), tt)

  ended_so : body_asked_from (logging s names) source (learnt [] s v) [] ≡ body_ended (to_do (to_log v ∷ []))
  ended_so =
      answer (learnt [] s v)
      ∙ ap (λ x. after_body_step x (λ m. slice_index names m) source
      (λ m tracked u. with_known tracked m u (body_asked_from (logging s names) source) (learnt [] s v) [])) (log_ends s v)

  comes_to : body_asked_from (logging s names) source [] [] ≡ logged (slice_index names s) v
  comes_to =
      answer []
      ∙ ap (λ o. after_body_read true (slice_index names s) o (λ u. with_known true s u (body_asked_from (logging s names) source) [] [])) good
      ∙ ap (read_before true (record { name = slice_index names s; outcome = Good v })) ended_so

-- the whole evaluation
cell_logged : (w : Signals) (b : Body) (names : List ℕ) (n : ℕ) (v : Value) → LogsName n b names → value_here (standing w n) ≡ Some v →
    (hosts : Hosts) (p : Parts) → body_evaluation hosts w (body_seen p b names) ≡ logged n v
cell_logged w b names n v logs stands hosts p =
    ap (λ (ss : Stated). body_evaluation hosts w (record { statements = linked p ss; names = names })) logs.logs
    ∙ comes_to logs.slot names (λ m. value_of hosts w m []) v logs.within
    (ap (λ m. value_of hosts w m []) (sym logs.name) ∙ value_is hosts w n v stands)
    ∙ ap (λ m. logged m v) (sym logs.name)

module _ (w : Signals) (b : Body) (names : List ℕ) (l : LoggedCell) (h : LogsCell w b names l) (hosts : Hosts) (p : Parts) where
  -- what was read of a cell that is logged, tracked, and what is to be done
  pub logged_tracked : l.read ∷ [] ≡ (body_evaluation hosts w (body_seen p b names)).tracked
  logged_tracked =
      ap (λ (o : Outcome). record { name = l.read.name; outcome = o } ∷ []) h.good
      ∙ sym (ap (λ (e : BodyEvaluation). e.tracked) (cell_logged w b names l.read.name l.value h.logs h.stands hosts p))

  pub logged_result : to_do (to_log l.value ∷ []) ≡ (body_evaluation hosts w (body_seen p b names)).result
  logged_result = sym (ap (λ (e : BodyEvaluation). e.result) (cell_logged w b names l.read.name l.value h.logs h.stands hosts p))

-- and nothing is settled
pub logged_settled : (x : Scene) (before : Hosts → Type 0) (b : Body) (names : List ℕ) (l : LoggedCell) → IsIdle x.graph.state →
    LogsCell x.graph.state.signals b names l → (p : Parts) →
    Settles x x before before (λ hosts. names_of (body_evaluation hosts x.graph.state.signals (body_seen p b names)).reads)
logged_settled x before b names l idle h p =
    let w : Signals = x.graph.state.signals in
    same_settled x x before before (λ _. l.read.name ∷ []) (λ hosts. names_of (body_evaluation hosts w (body_seen p b names)).reads)
    (cell_settled x before l.read.name l.value idle h.stands)
    (λ hosts all kept. sym (ap (λ (e : BodyEvaluation). names_of e.reads) (cell_logged w b names l.read.name l.value h.logs h.stands hosts p)))

module _ (w : Signals) (b : Body) (names : List ℕ) (r : BodyRun) (h : HasLogged w b names r) where
  evaluation_is : (hosts : Hosts) (p : Parts) → body_evaluation hosts w (body_seen p b names) ≡ logged h.cell h.value
  evaluation_is hosts p = cell_logged w b names h.cell h.value h.logs h.stands hosts p

  -- the run is that of the evaluation
  pub log_run : (hosts : Hosts) (p : Parts) → IsRunOf p (body_evaluation hosts w (body_seen p b names)) r
  log_run hosts p = record {
    tracked = h.logged.tracked ∙ sym (ap (λ (e : BodyEvaluation). e.tracked) (evaluation_is hosts p));
    result = h.logged.end p ∙ sym (ap (λ (e : BodyEvaluation). e.result) (evaluation_is hosts p));
  }

  -- it wants no more done than it has statements
  pub log_few : IsShort (count_of (statements_of (before b no_bodies))) r.end
  log_few = subst (λ n. IsShort n r.end) (sym (ap count_of h.logs.logs)) h.logged.few

-- a cell that is read needs nothing settled
pub log_settled : (x : Scene) (before : Hosts → Type 0) (b : Body) (names : List ℕ) (r : BodyRun) → IsIdle x.graph.state →
    HasLogged x.graph.state.signals b names r → (p : Parts) →
    Settles x x before before (λ hosts. names_of (body_evaluation hosts x.graph.state.signals (body_seen p b names)).reads)
log_settled x before b names r idle h p =
    let w : Signals = x.graph.state.signals in
    same_settled x x before before (λ _. h.cell ∷ []) (λ hosts. names_of (body_evaluation hosts w (body_seen p b names)).reads)
    (cell_settled x before h.cell h.value idle h.stands)
    (λ hosts all kept. sym (ap (λ (e : BodyEvaluation). names_of e.reads) (evaluation_is w b names r h hosts p)))
