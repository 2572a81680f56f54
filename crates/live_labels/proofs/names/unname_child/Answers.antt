use Rattle.std.proofs.Common.{◌∙◌, nat_eq, cond, None, ap, sym}
use Rattle.indexmap.specs.IndexMap.{get}
use Rattle.live_labels.proofs.Survivors.{goes_out}
use Rattle.live_labels.proofs.names.unname_child.Goals as goal

pub returns : goal.returns
returns c =
    let labels = get nat_eq c.args.labels.now in
    goes_out labels (get nat_eq c.swap_remove.new.self) c.args.id (sym c.is_made_by_name.ensures ∙ c.if-is_made_by_name.false)
    (λ e. c.swap_remove.ensures.updates.0 e ∙ ap (λ k. cond (nat_eq k e) None (labels e)) c.number.ensures)
