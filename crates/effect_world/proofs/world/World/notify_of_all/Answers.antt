use Rattle.std.proofs.Common.{◌∙◌, ◌++◌, ℕ, List, map, refl, sym, ap, subst}
use Rattle.effect_model.specs.Acts.{is_notified_by_any, notified_by_any}
use Rattle.sig_watcher.specs.declared.recipients.Told.{Told}
use Rattle.sig_watcher.specs.Numbers.{AreNumbered}
use Rattle.sig_watcher.specs.Tables.{Table}
use Rattle.sig_watcher.specs.Notices.{told_entry}
use Rattle.sig_effect.specs.Results.{AreNotices}
use Rattle.sig_effect.proofs.Shared.{named_still, notices_named}
use Rattle.effect_world.proofs.world.World.notify_of_all.Goals as goal

pub returns-clause-notices : goal.returns-clause-notices
returns-clause-notices c =
    let xs : List Told = map told_entry (notified_by_any c.args.self.now.graph.state.signals c.args.self.now.graph.state.memos c.args.cells.now c.args.self.now.watchers.watchers) in
    subst (λ (ts : List Told). AreNotices ts c.args.events.now.items c.tell_notified.new.events.items)
    (c.deref.ensures.value ∙ c.tell_all.ensures.told ∙ ap (λ (ts : List Told). ts ++ xs) c.in_ok-told.ensures.items) c.in_ok-tell_notified.ensures

pub returns-clause-named : goal.returns-clause-named
returns-clause-named c = λ named.
    let s = c.args.self.now in
    let xs : List Told = map told_entry (notified_by_any s.graph.state.signals s.graph.state.memos c.args.cells.now s.watchers.watchers) in
    let made = ap (λ (t : Table). t.made) c.tell_all.ensures.after in
    notices_named s.graph c.tell_all.new.self.made s.watchers.watchers (is_notified_by_any s.graph.state.signals s.graph.state.memos c.args.cells.now) _ _
    (subst (λ (n : ℕ). AreNumbered s.watchers.watchers n) (sym made) c.live.ensures.numbered)
    (subst (λ (ts : List Told). AreNotices ts c.args.events.now.items c.tell_notified.new.events.items)
    (c.deref.ensures.value ∙ c.tell_all.ensures.told ∙ ap (λ (ts : List Told). ts ++ xs) c.in_ok-told.ensures.items) c.in_ok-tell_notified.ensures)
    (named_still s.graph s.graph s.watchers.made c.tell_all.new.self.made _ refl made named)
