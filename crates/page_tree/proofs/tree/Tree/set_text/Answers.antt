use Rattle.std.proofs.Common.{◌≡◌, ℕ, ap, ◌∙◌}
use Rattle.page_model.specs.Labels.{Text}
use Rattle.page_model.specs.Replay as replay
use Rattle.page_tree.specs.Rows.{edited, look, with_label}
use Rattle.page_tree.proofs.Edits.{done_for, leads_for, text_leads}
use Rattle.page_tree.proofs.tree.Tree.set_text.Goals as goal

pub invariant_of-self : goal.invariant_of-self
invariant_of-self c =
    let rows = look c.self.inside.nodes in
    let edit : (q : ℕ) → look c.set_label.new.nodes q ≡ edited c.args.id (with_label (Text c.args.text)) q (rows q) =
    λ q. c.set_label.ensures q ∙ ap (λ t. edited c.args.id (with_label (Text t)) q (rows q)) c.new.ensures in
    let done = done_for (replay.OpText c.args.id c.args.text) rows c.args.self.now c.self.view_is c.requires in
    (text_leads c.args.id c.args.text rows (look c.set_label.new.nodes) c.self.invariant done edit).kept

pub returns : goal.returns
returns c =
    let rows = look c.self.inside.nodes in
    let edit : (q : ℕ) → look c.set_label.new.nodes q ≡ edited c.args.id (with_label (Text c.args.text)) q (rows q) =
    λ q. c.set_label.ensures q ∙ ap (λ t. edited c.args.id (with_label (Text t)) q (rows q)) c.new.ensures in
    let done = done_for (replay.OpText c.args.id c.args.text) rows c.args.self.now c.self.view_is c.requires in
    leads_for (replay.OpText c.args.id c.args.text) rows (look c.set_label.new.nodes) c.args.self.now c.self.view_is
    (text_leads c.args.id c.args.text rows (look c.set_label.new.nodes) c.self.invariant done edit)
