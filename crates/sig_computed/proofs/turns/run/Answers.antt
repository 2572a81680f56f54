use Rattle.std.proofs.Common.{List, length, refl, ap, ◌∙◌, subst}
use Rattle.std.specs.Prelude.{None}
use Rattle.sig_base.specs.declared.value.Known.{Known}
use Rattle.sig_base.specs.declared.value.Step.{Step}
use Rattle.sig_base.specs.declared.value.Step.TheVariants.{Read}
use Rattle.sig_formula.specs.Evaluation.{step_by}
use Rattle.signal_model.specs.Signals.{standing}
use Rattle.sig_nodes.specs.declared.answers.Asked.{Asked}
use Rattle.sig_graph.specs.States.{State}
use Rattle.sig_nodes.specs.Answers.{host_here, slots_here, IsAnswerHere, IsJudgedAnswer}
use Rattle.sig_computed.specs.Steps.{answered}
use Rattle.sig_computed.proofs.Leaves.{asks_host, end_answer, ended_judged, ended_move, slot_answer, unasked}
use Rattle.sig_computed.proofs.turns.run.Goals as goal

-- a formula needs a slot
pub returns-in-Slot-clause-turn : goal.returns-in-Slot-clause-turn
returns-in-Slot-clause-turn g c = λ hosts all.
    let st = standing c.args.graph.now.state.signals c.args.frame.now.id in
    let l = c.args.frame.now.learnt in
    let is = subst (λ (ks : List Known). IsAnswerHere st ks c.in_ok-asked.asked c.recipe.new.outcome) c.known.ensures c.in_ok-asked.ensures.answer in
    ap (λ (s : Step). answered s l.known l.reads) ((slot_answer st l.known c.in_ok-asked.asked c.recipe.new.outcome c.in-Slot.slot c.in-Slot.is is).1 hosts)

pub returns-in-Slot-clause-some : goal.returns-in-Slot-clause-some
returns-in-Slot-clause-some g c =
    let st = standing c.args.graph.now.state.signals c.args.frame.now.id in
    let l = c.args.frame.now.learnt in
    let is = subst (λ (ks : List Known). IsJudgedAnswer (length (slots_here st)) ks c.in_ok-asked.asked) c.known.ensures c.in_ok-asked.ensures.judged in
    record {
      answer = Read c.in-Slot.slot;
      judged = subst (λ (a : Asked). IsJudgedAnswer (length (slots_here st)) l.known a) c.in-Slot.is is;
      move = refl;
    }

pub returns-in-Slot-clause-asked : goal.returns-in-Slot-clause-asked
returns-in-Slot-clause-asked g c =
    let st = standing c.args.graph.now.state.signals c.args.frame.now.id in
    let l = c.args.frame.now.learnt in
    let is = subst (λ (ks : List Known). IsAnswerHere st ks c.in_ok-asked.asked c.recipe.new.outcome) c.known.ensures c.in_ok-asked.ensures.answer in
    unasked (host_here st) _ (slot_answer st l.known c.in_ok-asked.asked c.recipe.new.outcome c.in-Slot.slot c.in-Slot.is is).0

-- a formula has come to an outcome
pub returns-in-Ended-clause-turn : goal.returns-in-Ended-clause-turn
returns-in-Ended-clause-turn g c = λ hosts all.
    let st = standing c.args.graph.now.state.signals c.args.frame.now.id in
    let l = c.args.frame.now.learnt in
    let o = c.recipe.new.outcome in
    let is = subst (λ (ks : List Known). IsAnswerHere st ks c.in_ok-asked.asked o) c.known.ensures c.in_ok-asked.ensures.answer in
    ended_move o l.known l.reads ∙ ap (λ (s : Step). answered s l.known l.reads) ((end_answer st l.known c.in_ok-asked.asked o c.in-Ended.is is).1 hosts)

pub returns-in-Ended-clause-some : goal.returns-in-Ended-clause-some
returns-in-Ended-clause-some g c =
    let st = standing c.args.graph.now.state.signals c.args.frame.now.id in
    let l = c.args.frame.now.learnt in
    let o = c.recipe.new.outcome in
    record {
      answer = step_by None o;
      judged = ended_judged o (length (slots_here st)) l.known;
      move = ended_move o l.known l.reads;
    }

pub returns-in-Ended-clause-asked : goal.returns-in-Ended-clause-asked
returns-in-Ended-clause-asked g c =
    let st = standing c.args.graph.now.state.signals c.args.frame.now.id in
    let l = c.args.frame.now.learnt in
    let o = c.recipe.new.outcome in
    let is = subst (λ (ks : List Known). IsAnswerHere st ks c.in_ok-asked.asked o) c.known.ensures c.in_ok-asked.ensures.answer in
    unasked (host_here st) _ (end_answer st l.known c.in_ok-asked.asked o c.in-Ended.is is).0

-- a host formula is asked
pub host_answer-requires-clause-place : goal.host_answer-requires-clause-place
host_answer-requires-clause-place g c =
    let st = standing c.args.graph.now.state.signals c.args.frame.now.id in
    let l = c.args.frame.now.learnt in
    let o = c.recipe.new.outcome in
    let is = subst (λ (ks : List Known). IsAnswerHere st ks c.in_ok-asked.asked o) c.known.ensures c.in_ok-asked.ensures.answer in
    ap (λ (s : State). host_here (standing s.signals c.args.frame.now.id)) c.in_ok-asked.ensures.after.state
    ∙ asks_host st l.known c.in_ok-asked.asked o c.in-Host.place c.in-Host.is is
