use Rattle.std.proofs.Common.{length, sym, ap, ◌∙◌}
use Rattle.tpl_kept.specs.Listed.{listed}
use Rattle.tpl_kept.proofs.Made.Memos.{places_count}
use Rattle.tpl_kept.proofs.renewing.places.count_places.Goals as goal

pub returns-in-Table : goal.returns-in-Table
returns-in-Table c =
    c.len.ensures
    ∙ (sym (places_count c.in-Table.rows.now 0 (length c.in-Table.rows.now.rows)) ∙ ap (λ z. length (listed z)) (sym c.in-Table.is))
