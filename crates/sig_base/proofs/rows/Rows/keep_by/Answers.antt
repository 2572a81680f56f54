use Rattle.sig_base.proofs.Marks.{AreRows-marked}
use Rattle.sig_base.proofs.rows.Rows.keep_by.Goals as goal

pub with_rows-requires : goal.with_rows-requires
with_rows-requires c = rw (c.in_ok-rows.ensures, c.rows.ensures.rows) (AreRows-marked c.args.self.now.fields c.args.self.now.rows c.args.marks.now c.rows.ensures.sound)
