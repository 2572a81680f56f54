use Rattle.std.proofs.Common.{◌++◌, List, map, arith, ap, ◌∙◌}
use Rattle.std.specs.Option.{option_map}
use Rattle.sig_computed.specs.Notes.{note_of}
use Rattle.why_model.specs.Facts.{has_run}
use Rattle.why_model.specs.Records.{with_facts}
use Rattle.live_why.specs.Views as facts
use Rattle.live_model.specs.Pages.{template_in}
use Rattle.live_labels.specs.Entries.{note_entry}
use Rattle.live_labels.specs.Views.{labels_of}
use Rattle.live_model.specs.Machine.{news_of}
use Rattle.page_ops.specs.Ops.{op_of}
use Rattle.live_entries.specs.declared.entry.Entry.{Entry}
use Rattle.live_pages.specs.declared.mounted.Mounted.{Mounted}
use Rattle.live_pages.specs.Views.{page_of}
use Rattle.live_pages.proofs.Pages.{page_up}
use Rattle.live_pages.proofs.Settling.{settled_by, settled_does}
use Rattle.live_pages.proofs.update.bring_up.Goals as goal

pub returns-clause-page : goal.returns-clause-page
returns-clause-page g c = λ hosts slacks templates all sound shown.
    let w = c.args.world.now in
    let t = template_in templates c.args.page.now.template in
    let e = c.in_ok-ops.ensures in
    let s = e.settles t.lines t.links shown.stands in
    let q : Mounted = record (c.args.page.now) { page = c.update.new.self } in
    let lifted = settled_does hosts slacks _ _ _ _ _ w c.update.new.graph c.clear.new.self.items c.update.new.notes.items c.clear.ensures.items c.requires.can.agrees s all sound in
    page_up hosts slacks _ _ (labels_of c.args.labels.now) templates w (record w { graph = c.update.new.graph }) c.args.page.now q _ c.args.told.now.items c.tell_news.new.told.items c.args.journal.now c.tell_runs.new.journal
    c.update.new.notes.items lifted
    (ap (λ n. record (page_of c.args.page.now) { content = n }) (e.page t.lines t.links shown.stands hosts all sound.kept))
    (e.ops t.lines t.links shown.stands hosts all sound.kept)
    (c.in_ok-tell_news.ensures ∙ ap (λ (es : List Entry). es ++ news_of (page_of q) (map op_of c.in_ok-ops.ops.items))
    (c.in_ok-tell_runs.ensures.told ∙ (λ i. c.args.told.now.items ++ map (note_entry (c.deref.ensures.value i)) (map note_of (c.deref-2.ensures.value i)))))
    (c.in_ok-tell_runs.ensures.noted ∙ ap (λ ns. option_map (with_facts (map has_run (map facts.note_of ns))) c.args.journal.now) c.deref-2.ensures.value)

pub returns-clause-shown : goal.returns-clause-shown
returns-clause-shown g c = λ templates shown. record { template = shown.template; stands = c.in_ok-ops.ensures.stands _ _ shown.stands }

pub returns-clause-stands : goal.returns-clause-stands
returns-clause-stands g c =
    let r = c.requires.stands in
    record { lines = r.lines; links = r.links; stands = c.in_ok-ops.ensures.stands r.lines r.links r.stands }

pub tell_news-requires : goal.tell_news-requires
tell_news-requires g c =
    let r = c.requires.stands in
    record { lines = r.lines; links = r.links; stands = c.in_ok-ops.ensures.stands r.lines r.links r.stands }

pub returns-clause-settled : goal.returns-clause-settled
returns-clause-settled g c =
    let r = c.requires.stands in
    let few = c.update.new.notes.small in
    settled_by _ _ _ _ _ _ c.args.world.now c.update.new.graph c.clear.new.self.items c.update.new.notes.items c.clear.ensures.items (omega (arith, few))
    c.requires.can.agrees c.in_ok-ops.ensures.counted (c.in_ok-ops.ensures.settles r.lines r.links r.stands)
