use Rattle.script_items.specs.Briefs.{brief_item}
use Rattle.script_items.specs.Items.{Begins}
use Rattle.live_model.proofs.Shared.{item_read}
use Rattle.live_run.proofs.script_run.ScriptRun.do_next.Goals as goal

pub returns-in-Some-clause-did : goal.returns-in-Some-clause-did
returns-in-Some-clause-did g c = λ hosts all sound.
    let begins : Begins c.args.script.now c.args.at c.args.line (brief_item c.in-Some.brief) c.in-Some.next c.in-Some.after = rw c.in-Some.is at c.in_ok-brief.ensures.item in
    let did = c.in_ok-do_brief.ensures.did hosts all sound in (record { item = brief_item c.in-Some.brief; begins = begins; did = did.0 }, did.1, did.2)

pub do_item-requires-clause-read : goal.do_item-requires-clause-read
do_item-requires-clause-read g c =
    let begins : Begins c.args.script.now c.args.at c.args.line c.in-Some-2.item c.in-Some-2.next c.in-Some-2.after = rw c.in-Some-2.is at c.in_ok-item.ensures.item in
    item_read begins.piece c.in-Some-2.item begins.item

pub returns-clause-did : goal.returns-clause-did
returns-clause-did g c = λ hosts all sound.
    let begins : Begins c.args.script.now c.args.at c.args.line c.in-Some-2.item c.in-Some-2.next c.in-Some-2.after = rw c.in-Some-2.is at c.in_ok-item.ensures.item in
    let did = c.in_ok-do_item.ensures.did hosts all sound in (record { item = c.in-Some-2.item; begins = begins; did = did.0 }, did.1, did.2)
