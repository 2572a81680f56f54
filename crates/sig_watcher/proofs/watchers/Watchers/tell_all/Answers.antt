use Rattle.std.proofs.Common.{◌++◌, ◌∙◌, List, map, sym, ap, append-nil}
use Rattle.std.specs.List.{list_any}
use Rattle.effect_model.specs.Worlds.{Watcher}
use Rattle.sig_watcher.specs.Tables.{Table}
use Rattle.sig_watcher.specs.Notices.{told_entry}
use Rattle.sig_watcher.proofs.Notices.{quiet_none, quiet_stay}
use Rattle.sig_watcher.proofs.watchers.Watchers.tell_all.Goals as goal

pub returns-then-not-is_some_watching-clause-told : goal.returns-then-not-is_some_watching-clause-told
returns-then-not-is_some_watching-clause-told c =
    let g = c.args.graph.now in
    let quiet = ap (λ (t : Table). list_any (λ (x : Watcher). x.watching) t.watchers) (sym c.self.view_is) ∙ ap (list_any (λ (x : Watcher). x.watching)) (sym c.deref.ensures.value) ∙ sym c.is_some_watching.ensures ∙ c.if-not-is_some_watching.true in
    sym (ap (λ (xs : List Watcher). c.args.told.now.items ++ map told_entry xs) (quiet_none g.state.signals g.state.memos c.args.ids.now c.args.self.now.watchers quiet) ∙ append-nil c.args.told.now.items)

pub returns-then-not-is_some_watching-clause-after : goal.returns-then-not-is_some_watching-clause-after
returns-then-not-is_some_watching-clause-after c =
    let g = c.args.graph.now in
    let quiet = ap (λ (t : Table). list_any (λ (x : Watcher). x.watching) t.watchers) (sym c.self.view_is) ∙ ap (list_any (λ (x : Watcher). x.watching)) (sym c.deref.ensures.value) ∙ sym c.is_some_watching.ensures ∙ c.if-not-is_some_watching.true in
    ap (λ (xs : List Watcher). let t : Table = record { watchers = xs; made = c.args.self.now.made } in t) (sym (quiet_stay g.state.signals g.state.memos c.args.ids.now c.args.self.now.watchers quiet))
