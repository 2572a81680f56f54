use Rattle.std.proofs.Common.{◌++◌, ℕ, List, map, arith, ap, ◌∙◌}
use Rattle.std.specs.Option.{option_map}
use Rattle.sig_computed.specs.Notes.{note_of}
use Rattle.page_model.specs.Forest.{Forest}
use Rattle.page_model.specs.Labels.{Kind}
use Rattle.page_model.specs.Pages.{bare, tree_of}
use Rattle.tpl_model.specs.Updates.{updated}
use Rattle.why_model.specs.Facts.{has_run}
use Rattle.why_model.specs.Records.{with_facts}
use Rattle.live_why.specs.Views as facts
use Rattle.live_labels.specs.Entries.{note_entry}
use Rattle.live_labels.specs.Views.{labels_of}
use Rattle.live_pages.specs.Views.{template_of}
use Rattle.live_pages.proofs.Pages.{tree_made}
use Rattle.live_pages.proofs.Settling.{settled_by, settled_does}
use Rattle.live_pages.proofs.creation.fresh_tree.Goals as goal

pub returns-clause-tree : goal.returns-clause-tree
returns-clause-tree g c = λ hosts slacks all sound.
    let w = c.args.world.now in
    let t = template_of c.args.linked.now in
    let e = c.in_ok-tree.ensures in
    let s = (rw c.deref.ensures.value at e).settles in
    let shown : List ℕ → Forest Kind = λ ls. tree_of (updated hosts w.graph.state.signals t.lines ls w.graph.state.memos bare).page in
    let lifted = settled_does hosts slacks _ _ _ _ _ w c.tree_from_scratch.new.graph c.new-notes.result.items c.tree_from_scratch.new.notes.items c.new-notes.ensures.items c.requires.can.agrees s all sound in
    tree_made hosts slacks _ _ (labels_of c.args.labels.now) t w (record w { graph = c.tree_from_scratch.new.graph }) _ c.args.told.now.items c.tell_runs.new.told.items c.args.journal.now c.tell_runs.new.journal
    c.tree_from_scratch.new.notes.items lifted
    (e.tree hosts all sound.kept ∙ ap shown c.deref.ensures.value)
    (c.in_ok-tell_runs.ensures.told ∙ (λ i. c.args.told.now.items ++ map (note_entry (c.deref-2.ensures.value i)) (map note_of (c.deref-3.ensures.value i))))
    (c.in_ok-tell_runs.ensures.noted ∙ ap (λ ns. option_map (with_facts (map has_run (map facts.note_of ns))) c.args.journal.now) c.deref-3.ensures.value)

pub returns-clause-settled : goal.returns-clause-settled
returns-clause-settled g c =
    let few = c.tree_from_scratch.new.notes.small in
    settled_by _ _ _ _ _ _ c.args.world.now c.tree_from_scratch.new.graph c.new-notes.result.items c.tree_from_scratch.new.notes.items c.new-notes.ensures.items (omega (arith, few))
    c.requires.can.agrees c.in_ok-tree.ensures.counted c.in_ok-tree.ensures.settles
