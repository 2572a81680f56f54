use Rattle.std.proofs.Common.{◌≡◌, false, List, [], ◌∷◌, map, is_some, refl, sym, ◌∙◌, subst, arith}
use Rattle.std.specs.Prelude.{IfOk}
use Rattle.signal_model.specs.Signals.{is_in, standing}
use Rattle.signal_model.specs.Values.{value_of}
use Rattle.signal_model.specs.Sound.{standing_outcome}
use Rattle.signal_model.specs.Settling.{settled}
use Rattle.sig_host.specs.Hosts.{HostPlace}
use Rattle.sig_graph.specs.States.{is_computing}
use Rattle.sig_computed.specs.Notes.{note_of}
use Rattle.sig_computed.specs.Skips.{passed_over}
use Rattle.sig_computed.specs.Views.{evaluating}
use Rattle.sig_computed.proofs.Asks.{exact_places, none_asked}
use Rattle.sig_computed.proofs.Leaves.{anyway, kind_computed, ready_other}
use Rattle.sig_computed.proofs.Progresses.{in_evaluating}
use Rattle.sig_computed.proofs.Wholes.{plain_ended, shown_value}
use Rattle.sig_computed.proofs.settler.settle.Goals as goal

pub bring_up-requires-clause-live : goal.bring_up-requires-clause-live
bring_up-requires-clause-live g c =
    kind_computed (standing c.args.graph.now.state.signals c.args.id) (is_computing c.args.graph.now.state c.args.id) c.in-Computed.ensures

pub returns-in_default : goal.returns-in_default
returns-in_default g c =
    let w = c.args.graph.now.state.signals in
    let k = c.args.graph.now.state.memos in
    let notes = map note_of c.args.notes.now.items in
    let idle = c.requires.idle c.args.id in
    let ready = ready_other (standing w c.args.id) (is_computing c.args.graph.now.state c.args.id) false (is_in c.args.id (passed_over w k []))
    (λ e. c.in_default.not-Computed (c.standing-kind.ensures ∙ e)) (sym idle) in
    let places : List HostPlace = map (λ p. record { there = is_some p.host; asks = p.count }) c.args.shelf.now.places.items in
    let looked = c.args.graph.now.state.looked in
    let r = c.outcome_of-in_default.result in
    record {
      value = λ hosts all kept. subst (λ x. IfOk r (λ o. o ≡ x)) (shown_value (standing w c.args.id) (is_in c.args.id (evaluating c.args.graph.now.state)) (standing_outcome w k c.args.id)
          (value_of hosts w c.args.id []) (in_evaluating c.args.graph.now.state c.args.id ∙ idle)
          (plain_ended hosts w k looked places c.args.id notes kept ready).value) c.outcome_of-in_default.ensures;
      settles = anyway r (record {
        settled = λ hosts all kept. (plain_ended hosts w k looked places c.args.id notes kept ready).settling;
        kept = λ hosts all kept. kept;
        asked = λ hosts all kept. record {
          places = exact_places w (settled hosts w k (c.args.id ∷ [])).runs places places 0 0 [] c.requires.there (none_asked w places 0 [])
              (plain_ended hosts w k looked places c.args.id notes kept ready).asks;
        };
        steps = λ hosts all kept. (plain_ended hosts w k looked places c.args.id notes kept ready).counted;
        answers = λ hosts all. all;
        there = λ place. refl;
        most = omega arith;
        signals = refl;
        idle = c.requires.idle;
        seats = refl;
        given = refl;
        named = λ all. all;
        worn = refl;
      });
      can = λ can. anyway r can;
      counted = anyway r c.requires.counted;
    }

pub returns-in_ok-outcome-in-Computed-clause-value : goal.returns-in_ok-outcome-in-Computed-clause-value
returns-in_ok-outcome-in-Computed-clause-value g c = λ hosts all kept.
    let s = c.bring_up.new.graph.state in
    c.in_ok-outcome-in-Computed.ensures
    ∙ shown_value (standing s.signals c.args.id) (is_in c.args.id (evaluating s)) (standing_outcome s.signals s.memos c.args.id)
    (value_of hosts c.args.graph.now.state.signals c.args.id []) (in_evaluating s c.args.id ∙ c.in_ok-bring_up-in-Computed.ensures.settles.idle c.args.id)
    (c.in_ok-bring_up-in-Computed.ensures.value hosts all kept)
