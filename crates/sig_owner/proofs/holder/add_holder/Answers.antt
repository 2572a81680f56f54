use Rattle.std.proofs.Common.{◌≡◌, List, ◌++◌, ◌∷◌, [], length, sym, ap, ◌∙◌}
use Rattle.sig_owner.specs.Tables.{Row, above_row, held, put_inside, row_with, rows_of, thing_of}
use Rattle.sig_owner.proofs.Rows.{rows_length, rows_push}
use Rattle.sig_owner.proofs.holder.add_holder.Goals as goal

pub returns-clause-ok : goal.returns-clause-ok
returns-clause-ok c =
    let rows = rows_of c.args.holders.now.entries in
    let entries = ap rows_of c.reserve.ensures.entries in
    let id : c.of-id.result ≡ length rows = c.of-id.ensures ∙ (c.made.ensures ∙ (sym (rows_length c.reserve.new.self.entries) ∙ ap (λ (rs : List Row). length rs) entries)) in
    ap rows_of c.push.ensures.entries
    ∙ (rows_push c.put_inside.new.holders.entries _
    ∙ (ap (λ ms. rows_of c.put_inside.new.holders.entries ++ row_with c.args.thing c.args.inside ms ∷ []) c.new.ensures.items
    ∙ ap (λ rs. rs ++ above_row (thing_of c.args.thing) c.args.inside ∷ []) (c.in_ok-put_inside.ensures.ok ∙ (λ i. put_inside c.args.inside (held (id i)) (entries i)))))
