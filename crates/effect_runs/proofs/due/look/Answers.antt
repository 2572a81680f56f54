use Rattle.std.proofs.Common.{[], sym, ap, ◌∙◌}
use Rattle.std.specs.Option.{option_copied}
use Rattle.signal_model.specs.Values.{value_of}
use Rattle.effect_model.specs.Runs.{is_effect_due}
use Rattle.effect_runs.proofs.Looks.{kept_looked, never_looked}
use Rattle.effect_runs.proofs.due.look.Goals as goal

pub returns-in_default-clause-after : goal.returns-in_default-clause-after
returns-in_default-clause-after g c = never_looked _ _ (option_copied c.args.kept) (ap option_copied c.in_default.is) c.requires.can.idle

pub returns-clause-due : goal.returns-clause-due
returns-clause-due g c = λ hosts all kept.
    c.in_ok-differs.ensures.differs hosts all kept
    ∙ ap (is_effect_due (λ m. value_of hosts c.args.graph.now.state.signals m [])) (sym (ap option_copied c.in-Some.is))

pub returns-clause-after : goal.returns-clause-after
returns-clause-after g c =
    kept_looked _ _ _ _ (option_copied c.args.kept) c.in-Some.reads.now (ap option_copied c.in-Some.is) c.in_ok-differs.ensures.after
