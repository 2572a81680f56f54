use Rattle.std.proofs.Common.{sym, ap, ◌∙◌, take, ◌++◌, ◌∷◌, []}
use Rattle.std.proofs.lemmas.List.{take_more}
use Rattle.sig_owner.specs.Tables.{all_ended, changed_at, ended_row, rows_of}
use Rattle.sig_owner.proofs.Counts.{ended_more}
use Rattle.sig_owner.proofs.holder.end_each.Goals as goal

pub loop-id-preserved : goal.loop-id-preserved
loop-id-preserved c =
    let rows = rows_of c.args.holders.now.entries in
    let i = c.loop-id.id-index in
    let n = c.id-item.result in
    record {
      rows =
          c.end_one.ensures.rows
          ∙ (ap (changed_at ended_row n) c.loop-id.invariant.rows
          ∙ sym (ap (λ ns. all_ended ns rows) (take_more c.args.ended.now i n c.loop-id-test.true ∙ ap (λ m. take i c.args.ended.now ++ m ∷ []) (sym c.id-item.is)) ∙ ended_more (take i c.args.ended.now) n rows));
      count = c.end_one.ensures.count;
    }
