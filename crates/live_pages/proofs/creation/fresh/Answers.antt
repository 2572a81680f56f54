use Rattle.std.proofs.Common.{◌≡◌, ◌++◌, ℕ, List, map, arith, ap, ◌∙◌}
use Rattle.std.specs.Option.{option_map}
use Rattle.sig_computed.specs.Notes.{note_of}
use Rattle.page_model.specs.Pages.{bare}
use Rattle.tpl_live.specs.Pages.{page_in}
use Rattle.tpl_live.specs.Contents.{standing}
use Rattle.tpl_model.specs.Updates.{Updated, updated}
use Rattle.why_model.specs.Facts.{has_run}
use Rattle.why_model.specs.Records.{with_facts}
use Rattle.live_why.specs.Views as facts
use Rattle.live_labels.specs.Entries.{note_entry}
use Rattle.live_labels.specs.Views.{labels_of}
use Rattle.live_pages.specs.Views.{template_of}
use Rattle.live_pages.proofs.Pages.{fresh_made}
use Rattle.live_pages.proofs.Settling.{settled_by, settled_does}
use Rattle.live_pages.proofs.creation.fresh.Goals as goal

pub returns-clause-page : goal.returns-clause-page
returns-clause-page g c = λ hosts slacks all sound.
    let w = c.args.world.now in
    let t = template_of c.args.linked.now in
    let e = c.in_ok-page.ensures in
    let s = (rw (c.in_ok-links.ensures, c.deref.ensures.value) at e).settles in
    let links : c.in_ok-links.links.items ≡ c.args.linked.now.links.items = c.in_ok-links.ensures ∙ c.deref.ensures.value in
    let carried : List ℕ → Updated = λ ls. updated hosts w.graph.state.signals t.lines ls w.graph.state.memos bare in
    let lifted = settled_does hosts slacks _ _ _ _ _ w c.mount.new.graph c.new-notes.result.items c.mount.new.notes.items c.new-notes.ensures.items c.requires.can.agrees s all sound in
    fresh_made hosts slacks _ _ (labels_of c.args.labels.now) t w (record w { graph = c.mount.new.graph }) _ _ c.args.told.now.items c.tell_runs.new.told.items c.args.journal.now c.tell_runs.new.journal
    c.mount.new.notes.items lifted
    (ap (λ z. page_in (standing z)) c.in_ok-page-2.ensures.ok ∙ (e.page hosts all sound.kept ∙ ap (λ (ls : List ℕ). (carried ls).page) links))
    (e.ops hosts all sound.kept ∙ ap (λ (ls : List ℕ). (carried ls).ops) links)
    (c.in_ok-tell_runs.ensures.told ∙ (λ i. c.args.told.now.items ++ map (note_entry (c.deref-2.ensures.value i)) (map note_of (c.deref-3.ensures.value i))))
    (c.in_ok-tell_runs.ensures.noted ∙ ap (λ ns. option_map (with_facts (map has_run (map facts.note_of ns))) c.args.journal.now) c.deref-3.ensures.value)

pub returns-clause-stands : goal.returns-clause-stands
returns-clause-stands g c = rw c.in_ok-page-2.ensures.ok (rw (c.in_ok-links.ensures, c.deref.ensures.value) at c.in_ok-page.ensures.stands)

pub returns-clause-standing : goal.returns-clause-standing
returns-clause-standing g c = rw c.in_ok-page-2.ensures.ok (record { lines = _; links = _; stands = c.in_ok-page.ensures.stands })

pub returns-clause-settled : goal.returns-clause-settled
returns-clause-settled g c =
    let few = c.mount.new.notes.small in
    settled_by _ _ _ _ _ _ c.args.world.now c.mount.new.graph c.new-notes.result.items c.mount.new.notes.items c.new-notes.ensures.items (omega (arith, few))
    c.requires.can.agrees c.in_ok-page.ensures.counted c.in_ok-page.ensures.settles
