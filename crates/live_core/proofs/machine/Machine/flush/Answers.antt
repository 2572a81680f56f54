use Rattle.std.proofs.Common.{◌∙◌, ◌≤◌, ◌++◌, List, length, map, refl, sym, ap, subst, arith}
use Rattle.std.specs.List.{filter}
use Rattle.signal_model.specs.Signals.{is_in}
use Rattle.effect_model.specs.Runs.{flush}
use Rattle.effect_model.specs.Worlds as told
use Rattle.effect_laws.proofs.SharedCounts.{flushes_keep_counts}
use Rattle.sig_effect.proofs.SharedKinds.{flushes_keep_kinds}
use Rattle.sig_effect.specs.Stores.{environment}
use Rattle.sig_base.specs.declared.limits.TheConstants.{MOST_PAGES}
use Rattle.live_entries.specs.declared.entry.Entry.{Entry}
use Rattle.live_labels.specs.Views.{labels_of}
use Rattle.live_labels.proofs.Shared.{told_by}
use Rattle.live_pages.specs.declared.mounted.Mounted.{Mounted}
use Rattle.live_pages.specs.Views.{template_of}
use Rattle.live_pages.proofs.Shared.{fewer, shown_filtered}
use Rattle.live_core.proofs.Batched.{roomy_none}
use Rattle.live_core.proofs.Commands.{acts_steps, leaves_ended, pages_steps, stays_by, steps_beside}
use Rattle.live_core.proofs.LeftOut.{tells_whole, told_with_news}
use Rattle.live_core.proofs.Mounts.{flush_steps}
use Rattle.live_core.proofs.machine.Machine.flush.Goals as goal

pub flush-requires-clause-can : goal.flush-requires-clause-can
flush-requires-clause-can g c =
    let w = c.requires.can.weight in
    let r = c.requires.can.most in
    record { agrees = c.requires.can.holds.agrees; weight = omega (arith, w); room = omega (arith, r) }

pub end_flush-requires-clause-can : goal.end_flush-requires-clause-can
end_flush-requires-clause-can g c =
    let heavy = c.in_ok-end.ensures.spent.weight in
    let asks = c.in_ok-end.ensures.spent.most in
    let before = ap length c.clear.ensures.items in
    let small = c.flush.new.events.small in
    let w = c.requires.can.weight in
    let r = c.requires.can.most in
    record {
      agrees = c.in_ok-end.ensures.done.agrees;
      counted = c.in_ok-end.ensures.counted;
      worn = omega (arith, heavy, before, small, w);
      room = omega (arith, asks, before, small, r);
    }

pub end_flush-requires-clause-shown : goal.end_flush-requires-clause-shown
end_flush-requires-clause-shown g c =
    let m = c.args.self.now in
    shown_filtered (map template_of m.templates.items) (λ (p : Mounted). is_in p.number c.flush.new.world.tables.pages.items) m.pages.items c.keep_live.new.pages.items
    (c.keep_live.ensures ∙ ap (λ ns. filter (λ p. is_in p.number ns) m.pages.items) c.deref-2.ensures.value) c.requires.can.ready.shown

pub end_flush-requires-clause-few : goal.end_flush-requires-clause-few
end_flush-requires-clause-few g c =
    let m = c.args.self.now in
    let a = fewer (λ (p : Mounted). is_in p.number c.deref-2.result.now) m.pages.items in
    let b = c.requires.can.ready.pages.few in
    subst (λ (ps : List Mounted). length ps ≤ MOST_PAGES) (sym c.keep_live.ensures) (omega (arith, a, b))

pub returns-clause-did : goal.returns-clause-did
returns-clause-did g c =
    let m = c.args.self.now in
    let events = c.flush.new.events.items in
    let turns : List Entry = told_by (labels_of m.labels) events in
    let news : List Entry = c.in_ok-news.news.items in
    record {
      all = turns ++ news;
      told = told_with_news c.args.traced (labels_of m.labels) events _ c.in_ok-told.told.items news c.append.new.told.items c.deref.ensures.value
          c.in_ok-told.ensures.entries c.in_ok-append.ensures;
      did = record {
        steps = λ hosts all sound.
            let env = environment hosts (map (λ r. r.slack) c.args.rules.now) in
            let e = c.in_ok-end.ensures in
            let t = c.in_ok-told.ensures in
            let said = record m { world = c.flush.new.world; labels = c.tell_for.new.labels; journal = c.tell_for.new.journal } in
            let lasting = record said { pages = c.keep_live.new.pages } in
            let middle = record lasting { events = c.flush.new.events } in
            let act : told.World → told.World = λ w. (flush env w).world in
            let done = acts_steps hosts _ _ m c.flush.new.world c.tell_for.new.labels c.tell_for.new.journal c.clear.new.self.items events act act turns
            c.clear.ensures.items (e.done.does hosts all sound) refl
            (tells_whole m.labels c.tell_for.new.labels m.journal c.tell_for.new.journal events _ c.deref.ensures.value t.labels t.noted t.names) in
            let paged = pages_steps hosts _ said lasting turns _ done refl
            (c.keep_live.ensures ∙ ap (λ ns. filter (λ p. is_in p.number ns) m.pages.items) c.deref-2.ensures.value) in
            let beside = steps_beside hosts _ lasting middle turns _ paged refl in
            let last = c.in_ok-news.ensures.steps hosts (map (λ r. r.slack) c.args.rules.now) (e.done.answers hosts all) beside.sound in
            flush_steps hosts env _ _ _ m middle c.end_flush.new.self turns news c.in_ok-end.end.refused beside (e.ends hosts all sound).1 last;
        leaves = λ hosts all sound.
            let env = environment hosts (map (λ r. r.slack) c.args.rules.now) in
            let e = c.in_ok-end.ensures in
            let middle = record m { world = c.flush.new.world; labels = c.tell_for.new.labels; journal = c.tell_for.new.journal; pages = c.keep_live.new.pages; events = c.flush.new.events } in
            let d = e.done.does hosts all sound in
            let before = ap length c.clear.ensures.items in
            let small = c.flush.new.events.small in
            let heavy = e.spent.weight in
            let first = leaves_ended _ _ (length c.args.rules.now) m middle c.requires.can.ready (record { names = refl; templates = refl; handlers = refl; scripts = refl; labels = c.in_ok-told.ensures.names })
            (stays_by _ _ m.world c.flush.new.world (λ w. (flush env w).world) d.whole (flushes_keep_counts env) (flushes_keep_kinds env))
            (c.keep_live.ensures ∙ ap (λ ns. filter (λ p. is_in p.number ns) m.pages.items) c.deref-2.ensures.value)
            (roomy_none c.flush.new.world.graph.state.signals m.batch c.requires.alone) (λ a. e.done.agrees) (λ r. e.done.rules _ r)
            (omega (arith, heavy, before, small)) in
            let last = c.in_ok-news.ensures.leaves hosts (length c.args.rules.now) first.ready (e.done.answers hosts all) d.sound in
            let more = c.in_ok-news.ensures.settled.worn in
            let same = ap (λ x. x.effects_made) c.in_ok-news.ensures.settled.stays.tables in
            record { ready = last.ready; holds = λ h. last.holds (first.holds h); weight = omega (arith, heavy, before, small, more, same) };
        answers = λ hosts all. c.in_ok-news.ensures.settled.answers hosts (c.in_ok-end.ensures.done.answers hosts all);
        counted = c.in_ok-news.ensures.settled.counted;
        most =
            let heavy = c.in_ok-end.ensures.spent.most in
            let before = ap length c.clear.ensures.items in
            let small = c.flush.new.events.small in
            let more = c.in_ok-news.ensures.settled.most in
            omega (arith, heavy, before, small, more);
      };
    }
