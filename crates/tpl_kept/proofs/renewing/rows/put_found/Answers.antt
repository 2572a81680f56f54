use Rattle.std.proofs.Common.{map}
use Rattle.tpl_model.specs.KeptLines.Kept.{kept}
use Rattle.tpl_kept.proofs.Listened.Sequences.{mapped_put}
use Rattle.tpl_kept.proofs.Renewals.RowMemos.{one_count, row_among, row_serves}
use Rattle.tpl_kept.proofs.renewing.rows.put_found.Goals as goal

pub loop-place-preserved : goal.loop-place-preserved
loop-place-preserved c =
    let v = c.loop-place.invariant in
    let was = c.args.was.now in
    let rows = c.args.rows.now in
    let put = c.in_ok-push.ensures.items in
    record {
      count = one_count kept c.loop-place.taken.items c.push.new.self.items c.take_row-one.result c.loop-place.place put v.count;
      left = λ b links before s. (c.take_row-one.ensures.takes b links was before (v.left b links before s)).left;
      taken = λ b links before s w.
          row_serves b links was rows c.args.search.from before c.in_ok-at.at c.loop-place.place (kept c.take_row-one.result)
          (map kept c.take_row-one.new.old.items) (map kept c.loop-place.taken.items) (map kept c.push.new.self.items) c.in_ok-at.ensures.inside
          c.in_ok-at.ensures.same (c.take_row-one.ensures.takes b links was before (v.left b links before s)) v.count
          (mapped_put kept c.loop-place.taken.items c.push.new.self.items c.take_row-one.result put) (v.taken b links before s w);
      among = λ w.
          row_among was rows c.in_ok-at.at c.loop-place.place (kept c.take_row-one.result) (map kept c.loop-place.taken.items)
          (map kept c.push.new.self.items) c.in_ok-at.ensures.inside c.in_ok-at.ensures.same c.take_row-one.ensures.nothing v.count
          (mapped_put kept c.loop-place.taken.items c.push.new.self.items c.take_row-one.result put) (v.among w);
    }
