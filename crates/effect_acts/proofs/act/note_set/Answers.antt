use Rattle.std.proofs.Common.{ap, ◌∙◌, arith}
use Rattle.std.specs.Prelude.{slice_get}
use Rattle.sig_base.specs.Values.{scalar_value}
use Rattle.effect_model.specs.Bodies.{to_note}
use Rattle.effect_model.specs.Owners.{sets}
use Rattle.effect_model.specs.Runs.{do_act}
use Rattle.effect_tables.specs.declared.links.Links.TheViews.{out-Links}
use Rattle.effect_tables.specs.Bodies.{signal_number, target_thing}
use Rattle.effect_acts.proofs.Acts.{acted_lent}
use Rattle.effect_acts.proofs.act.note_set.Goals as goal

pub returns-in-Ok : goal.returns-in-Ok
returns-in-Ok c = λ asked slacks a.
    let n = signal_number (target_thing c.args.site.now.origin (slice_get (out-Links c.args.links.now).targets.items c.args.target)) in
    let same = c.cell_at-cell.ensures ∙ ap (λ xs. signal_number (target_thing c.args.site.now.origin (slice_get xs c.args.target))) c.deref.ensures.value in
    acted_lent _ _ _ _ _ 0 0 (λ env. do_act env c.args.id 0 (to_note (sets c.cell_at-cell.result (scalar_value c.in_ok-copied.copied))))
    (λ env. do_act env c.args.id 0 (to_note (sets n (scalar_value c.args.scalar.now))))
    (λ env. (λ i. do_act env c.args.id 0 (to_note (sets (same i) (scalar_value (c.in_ok-copied.ensures i)))))) (omega arith) (c.in-Ok.ensures.done asked slacks a)
