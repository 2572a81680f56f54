use Rattle.sig_effect.specs.Stores.{environment}
use Rattle.live_labels.specs.Views.{labels_of}
use Rattle.live_pages.specs.Views.{template_of}
use Rattle.live_pages.proofs.Pages.{scratched_made}
use Rattle.live_pages.proofs.creation.scratch.Goals as goal

pub returns-clause-html : goal.returns-clause-html
returns-clause-html g c = λ hosts slacks all sound.
    scratched_made (environment hosts slacks) (labels_of c.args.labels.now) _ _ _ _ _ c.args.template (template_of c.template_among-linked.result.now)
    c.in_ok-tree.tree c.in_ok-html.html c.args.told.now.items c.fresh_tree.new.told.items c.args.journal.now c.fresh_tree.new.journal
    c.template_among-linked.ensures.known
    (c.in_ok-tree.ensures.tree hosts slacks all sound) c.in_ok-html.ensures

pub fresh_tree-requires-clause-template : goal.fresh_tree-requires-clause-template
fresh_tree-requires-clause-template g c = c.template_among-linked.ensures.read c.requires.templates
