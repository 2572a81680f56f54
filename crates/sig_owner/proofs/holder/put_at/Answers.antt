use Rattle.sig_owner.specs.Tables.{item_of, with_item}
use Rattle.std.proofs.lemmas.Result.{err_from_is_err_and}
use Rattle.sig_owner.proofs.Rows.{live_stands, unwritten, written}
use Rattle.sig_owner.proofs.holder.put_at.Goals as goal

pub value_mut-requires : goal.value_mut-requires
value_mut-requires c = live_stands c.args.holders.now.entries c.args.id c.number.result c.number.ensures c.requires

pub returns-clause-ok : goal.returns-clause-ok
returns-clause-ok c =
    written c.args.holders.now.entries c.args.id c.number.result c.value_mut.result.now c.put.new.holder (with_item (item_of c.args.made)) c.number.ensures c.value_mut.ensures.value (c.in_ok-put.ensures.ok)

pub returns-in_err-put-clause-err : goal.returns-in_err-put-clause-err
returns-in_err-put-clause-err c =
    let p = err_from_is_err_and c.from_residual.result c.from_residual.ensures.1 in
    rw p.1 (unwritten c.args.holders.now.entries c.args.id c.number.result c.value_mut.result.now c.put.new.holder c.number.ensures c.value_mut.ensures.value (c.in_err-put.ensures.err))
