use Rattle.std.proofs.Common.{List, ◌++◌, ℕ, ap, ◌∙◌}
use Rattle.live_entries.specs.declared.entry.Entry.{Entry}
use Rattle.live_run.proofs.LeftOut.{left_out, sized_whole}
use Rattle.live_run.proofs.script_run.ScriptRun.do_item.Goals as goal

pub returns-clause-did : goal.returns-clause-did
returns-clause-did g c = λ hosts all sound.
    let s = c.in_ok-told.ensures.step hosts all sound in
    let t = s.0 in
    let es : List Entry = c.in_ok-told.told.items in (
      record {
        entries = t.all;
        is = t.is;
        sized = sized_whole t.told.left (rw c.deref.ensures.value at c.in_ok-take_entries.ensures.sized);
        took = λ is fs.
            (rw c.deref.ensures.value at c.in_ok-take_entries.ensures.prints is fs)
            ∙ ap (λ (l : List ℕ). c.args.self.now.out.items ++ l)
            (left_out c.is_untraced-traced.result c.take_item.new.self es t.all fs t.told c.is_untraced-traced.ensures.runs is
            ∙ c.take_item.ensures.prints is (t.all ++ fs));
      },
      s.1,
      s.2,
    )
