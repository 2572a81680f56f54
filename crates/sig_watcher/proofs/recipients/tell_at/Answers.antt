use Rattle.std.proofs.Common.{◌++◌, [], List, sym, ap, ◌∙◌, append-nil}
use Rattle.std.proofs.Common.{◌∷◌}
use Rattle.sig_watcher.specs.declared.recipients.Told.{Told}
use Rattle.sig_watcher.specs.Notices.{waiting_after}
use Rattle.sig_watcher.proofs.Notices.{stays, told_here, told_none}
use Rattle.sig_watcher.proofs.Places.{written}
use Rattle.sig_watcher.proofs.recipients.tell_at.Goals as goal

pub returns-then-not-hit-clause-watchers : goal.returns-then-not-hit-clause-watchers
returns-then-not-hit-clause-watchers c = sym (stays c.args.hit c.args.place c.args.watchers.now.items c.if-not-hit.true)

pub returns-then-not-hit-clause-told : goal.returns-then-not-hit-clause-told
returns-then-not-hit-clause-told c = sym (ap (λ (ts : List Told). c.args.told.now.items ++ ts) (told_none c.args.hit c.args.place c.args.watchers.now.items c.if-not-hit.true) ∙ append-nil c.args.told.now.items)

pub returns-clause-watchers : goal.returns-clause-watchers
returns-clause-watchers c =
    written c.args.watchers.now.items c.args.place c.index_mut.result.now c.wait.new.self (waiting_after c.args.hit) c.requires.place c.index_mut.ensures.value
    (c.wait.ensures ∙ ap (λ b. waiting_after b c.index_mut.result.now) (sym c.if-not-hit.false))

pub returns-clause-told : goal.returns-clause-told
returns-clause-told c =
    let here = told_here c.args.hit c.args.place c.args.watchers.now.items c.index.result.now c.if-not-hit.false c.requires.place c.index.ensures in
    c.in-Ok.ensures.items ∙ ap (λ (t : Told). c.args.told.now.items ++ t ∷ []) c.told_entry-one.ensures ∙ ap (λ (ts : List Told). c.args.told.now.items ++ ts) (sym here)
