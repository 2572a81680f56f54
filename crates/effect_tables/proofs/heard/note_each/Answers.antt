use Rattle.std.proofs.Common.{◌≡◌, true, sym, ap, ◌∙◌}
use Rattle.signal_model.specs.Values.{Seen}
use Rattle.effect_tables.specs.Heard.{reads_at}
use Rattle.effect_tables.proofs.Marks.{all_so, each_all, each_next}
use Rattle.effect_tables.proofs.heard.note_each.Goals as goal

pub loop-read-init : goal.loop-read-init
loop-read-init c = record { each = tt; more = λ n p h. h }

pub loop-read-preserved : goal.loop-read-preserved
loop-read-preserved c =
    let e = c.in_ok-note.ensures in
    record {
      each = each_next (λ (s : Seen). reads_at c.note.new.readers s.name c.args.place ≡ true) c.args.reads.now c.loop-read.read-index c.read-item.result
          c.loop-read-test.true c.read-item.is
          (all_so (λ (s : Seen). reads_at c.loop-read.readers s.name c.args.place ≡ true) (λ (s : Seen). reads_at c.note.new.readers s.name c.args.place ≡ true) _
          (λ s h. e.more s.name c.args.place h) c.loop-read.invariant.each)
          (ap (λ (s : Seen). reads_at c.note.new.readers s.name c.args.place) (sym c.read.view_is) ∙ e.here);
      more = λ n p h. e.more n p (c.loop-read.invariant.more n p h);
    }

pub returns-clause-each : goal.returns-clause-each
returns-clause-each c =
    each_all (λ (s : Seen). reads_at c.loop-read.readers s.name c.args.place ≡ true) c.args.reads.now c.loop-read.read-index c.loop-read-test.false c.loop-read.invariant.each

pub returns-clause-more : goal.returns-clause-more
returns-clause-more c = c.loop-read.invariant.more
