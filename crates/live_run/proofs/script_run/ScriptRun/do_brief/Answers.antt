use Rattle.std.proofs.Common.{List, ◌∷◌, [], ◌++◌, ℕ, ap, sym, ◌∙◌}
use Rattle.live_cmd.specs.declared.command.Command.TheVariants as command
use Rattle.live_cmd.specs.declared.command.Item.TheVariants as item
use Rattle.live_cmd.specs.declared.command.Verb.TheVariants as verb
use Rattle.live_entries.specs.declared.entry.Entry.{Entry}
use Rattle.live_entries.proofs.Shared.{left_behind, left_whole}
use Rattle.live_run.proofs.LeftOut.{sized_whole}
use Rattle.live_run.proofs.script_run.ScriptRun.do_brief.Goals as goal

pub returns-then-not-is_untraced-clause-did : goal.returns-then-not-is_untraced-clause-did
returns-then-not-is_untraced-clause-did g c = λ hosts all sound. rw c.in-Get.is (c.do_item.ensures.did hosts all sound)

pub returns-in_ok-take_entries-in-Get-clause-did : goal.returns-in_ok-take_entries-in-Get-clause-did
returns-in_ok-take_entries-in-Get-clause-did g c = λ hosts all sound.
    let s = c.in_ok-told-in-Get.ensures.step hosts all sound in
    let t = s.0 in
    let es : List Entry = c.in_ok-told-in-Get.told ∷ [] in
    let plain = c.is_untraced.ensures in
    rw c.in-Get.is (
      record {
        entries = t.all;
        is = t.is;
        sized = sized_whole t.told.left (rw c.from_ref.ensures.value at c.in_ok-take_entries-in-Get.ensures.sized);
        took = λ is fs.
            (rw c.from_ref.ensures.value at c.in_ok-take_entries-in-Get.ensures.prints is fs)
            ∙ ap (λ (l : List ℕ). c.args.self.now.out.items ++ l)
            (plain.runs c.if-not-is_untraced.false is (es ++ fs) (t.all ++ fs) (left_behind t.told.left (left_whole fs))
            ∙ sym (plain.items c.if-not-is_untraced.false (item.Do (command.Named verb.Get c.in-Get.name)) is (t.all ++ fs)));
      },
      s.1,
      s.2,
    )

pub returns-in_ok-take_entries-in-Set-clause-did : goal.returns-in_ok-take_entries-in-Set-clause-did
returns-in_ok-take_entries-in-Set-clause-did g c = λ hosts all sound.
    let s = c.in_ok-told-in-Set.ensures.step hosts all sound in
    let es : List Entry = c.in_ok-told-in-Set.told.items in
    rw c.in-Set.is (
      record {
        entries = es;
        is = s.0;
        sized = rw c.deref.ensures.value at c.in_ok-take_entries-in-Set.ensures.sized;
        took = λ is fs.
            (rw c.deref.ensures.value at c.in_ok-take_entries-in-Set.ensures.prints is fs)
            ∙ ap (λ (l : List ℕ). c.args.self.now.out.items ++ l) (c.take_command.ensures.prints (command.Set c.in-Set.name c.in-Set.value) is (es ++ fs));
      },
      s.1,
      s.2,
    )

pub returns-in-Flush-clause-did : goal.returns-in-Flush-clause-did
returns-in-Flush-clause-did g c = λ hosts all sound. rw c.in-Flush.is (c.do_item-in-Flush.ensures.did hosts all sound)
