use Rattle.std.proofs.Common.{◌∙◌, sym, ap, arith}
use Rattle.live_model.specs.Pages.{tag_in}
use Rattle.live_items.proofs.Found.{tagged_past, tagged_same}
use Rattle.live_items.proofs.refusals.is_tag_in.Goals as goal

pub returns-then-template-templates : goal.returns-then-template-templates
returns-then-template-templates c =
    let past = c.if-template-templates.true in
    sym (tagged_past c.args.templates.now c.args.template c.args.line (omega (arith, past)))

pub returns : goal.returns
returns c =
    let t = c.template_among.result.now in
    c.tag_at.ensures ∙ sym (tagged_same t.template t.links.items c.args.line) ∙ ap (λ x. tag_in x c.args.line) c.template_among.ensures.known
