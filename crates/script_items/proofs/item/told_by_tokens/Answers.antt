use Rattle.std.proofs.Common.{refl, inr}
use Rattle.script_lines.specs.Views.{line_of}
use Rattle.script_items.proofs.Plain.{plain_alone}
use Rattle.script_items.proofs.item.told_by_tokens.Goals as goal

pub returns-in_default : goal.returns-in_default
returns-in_default c = inr (rw c.in_default.is at c.in_ok-found.ensures, refl)

pub returns : goal.returns
returns c = plain_alone (line_of c.args.line) c.in-Some.found.value c.found_item.result (rw c.in-Some.is at c.in_ok-found.ensures) c.found_item.ensures
