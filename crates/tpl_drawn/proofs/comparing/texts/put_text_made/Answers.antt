use Rattle.std.proofs.Common.{map, sym, ap, ◌∙◌}
use Rattle.std.proofs.lemmas.List.{map-append}
use Rattle.std.specs.Option.{option_copied}
use Rattle.page_model.specs.Addresses.{address}
use Rattle.tpl_model.specs.KeptLines.Kept.{kept}
use Rattle.tpl_model.specs.ShownNodes.Shapes.{mark_of}
use Rattle.tpl_drawn.proofs.Compares.Said.{none_touched, said_restated, said_touched}
use Rattle.tpl_drawn.proofs.comparing.texts.put_text_made.Goals as goal

pub returns : goal.returns
returns c = λ is known k.
    let a = address c.args.line (option_copied c.args.key) in
    let m = kept c.args.memo.now in
    let touched = map mark_of c.args.out.now.touched.items in
    let restated = map mark_of c.args.out.now.restated.items in
    λ i. record {
      children = c.in_ok-number.ensures.child is known k i;
      touched = said_touched known a c.in-Some.number m (mark_of c.bare_mark.result) touched (map mark_of c.push.new.self.items) is
          (sym (c.in_ok-number.ensures.number known k) ∙ c.in-Some.is) c.bare_mark.ensures
          (ap (map mark_of) c.in_ok-push.ensures.items ∙ map-append mark_of c.args.out.now.touched.items _) i;
      restated = said_restated known a m restated (map mark_of c.put_text_said.new.restated.items) (c.in_ok-number.ensures.marks known k) i;
    }

pub returns-in_default : goal.returns-in_default
returns-in_default c = λ is known k.
    let a = address c.args.line (option_copied c.args.key) in
    let m = kept c.args.memo.now in
    let restated = map mark_of c.args.out.now.restated.items in
    λ i. record {
      children = c.in_ok-number.ensures.child is known k i;
      touched = none_touched known a m (map mark_of c.args.out.now.touched.items) (sym (c.in_ok-number.ensures.number known k) ∙ c.in_default.is) i;
      restated = said_restated known a m restated (map mark_of c.put_text_said.new.restated.items) (c.in_ok-number.ensures.marks known k) i;
    }
