use Rattle.std.proofs.Common.{◌≡◌, [], None, map, refl, arith, ap, subst, ◌∙◌}
use Rattle.page_model.specs.Pages.{renumbered}
use Rattle.page_ops.specs.Ops.{op_of}
use Rattle.tpl_blocks.specs.Blocks.{block}
use Rattle.tpl_model.specs.KeptLines.Changes.{Tells, changed}
use Rattle.tpl_hearing.proofs.Shared.{then_heard}
use Rattle.tpl_drawn.specs.Addresses.{number_at}
use Rattle.tpl_drawn.specs.Lines.{line_at}
use Rattle.tpl_model.specs.KeptLines.Kept.{kept}
use Rattle.tpl_live.specs.Pages.{AreLined, lines_shape, page_in}
use Rattle.tpl_live.specs.Contents.{standing}
use Rattle.tpl_live.specs.Plans.{Compares}
use Rattle.tpl_live.proofs.Mounts.{AreMade}
use Rattle.tpl_live.proofs.Reheard.{all_heard, found_compared, found_front, front_heard}
use Rattle.tpl_live.proofs.Renewed.{compares_there, is_carried, made_anew, made_still, next_of, next_stands, was_made_there}
use Rattle.tpl_live.proofs.Quiet.{is_quiet}
use Rattle.tpl_live.proofs.Sourced.{made_on, settled_right}
use Rattle.tpl_live.proofs.page.Page.update.Goals as goal

pub hear_all_again-requires-clause-can : goal.hear_all_again-requires-clause-can
hear_all_again-requires-clause-can g c =
    let worn = c.requires.worn in
    let room = c.requires.room in
    record { idle = c.requires.idle; there = c.requires.there; worn = omega (arith, worn); room = omega (arith, room) }

pub hear_all_again-requires-clause-cells : goal.hear_all_again-requires-clause-cells
hear_all_again-requires-clause-cells g c = record { least = omega arith; most = omega arith; each = λ i n o least most at. absurd (omega (arith, most)) }

pub returns-in_default : goal.returns-in_default
returns-in_default g c =
    let s = standing c.args.self.now in
    let heard = all_heard _ _ _ _ _ s.heard c.in_default.is c.in_ok-front.ensures.after in
    record {
      stands = λ lines links st. st;
      page = λ lines links st hosts all stay. (is_quiet _ _ _ _ lines links [] s.heard s hosts refl heard all stay st (made_still lines links s st)).page;
      ops = λ lines links st hosts all stay. ap (map op_of) c.new.ensures.items
          ∙ (is_quiet _ _ _ _ lines links [] s.heard s hosts refl heard all stay st (made_still lines links s st)).ops;
      settles = λ lines links st.
          let made = made_still lines links s st in
          settled_right _ _ _ _ lines links [] s.heard s.memo refl heard (made_on lines s.lines links s.heard s.memo st.block made) made.order;
      counted = c.in_ok-front.ensures.counted;
    }

pub renew-requires-clause-was : goal.renew-requires-clause-was
renew-requires-clause-was g c = rw (c.deref.ensures, c.deref-2.ensures.value, c.replace-was.ensures.value) (was_made_there c.requires.stands.lines c.requires.stands.links (standing c.args.self.now) c.requires.stands.stands)

pub renew-requires-clause-compared : goal.renew-requires-clause-compared
renew-requires-clause-compared g c = found_compared _ (standing c.args.self.now).heard c.in-Some.front c.in-Some.is c.in_ok-front.ensures.compared

pub carry-requires : goal.carry-requires
carry-requires g c =
    let lines = c.requires.stands.lines in
    let links = c.requires.stands.links in
    let st = c.requires.stands.stands in
    let s = standing c.args.self.now in
    let m = kept c.in_ok-fresh.fresh.memo in
    let made : AreMade lines links c.renew.new.hearing.heard m =
    made_anew lines links s c.in-Some.front.heard c.renew.new.hearing.heard m st (found_front _ s.heard c.in-Some.front c.in-Some.is c.in_ok-front.ensures.front)
    c.in_ok-fresh.ensures.after.grows (rw (c.deref.ensures, c.deref-2.ensures.value) at c.in_ok-fresh.ensures.made) c.good.ensures in
    let change = changed c.in_ok-fresh.fresh.change in
    let told : Tells s.lines s.links None s.heard m change = rw (c.deref.ensures, c.deref-2.ensures.value) at c.in_ok-fresh.ensures.told in
    rw (c.deref-3.ensures, c.deref-4.ensures, c.replace-blank.ensures.after) (record { old = page_in s; compares = compares_there lines links s c.renew.new.hearing.heard m change st made told })

pub returns-clause-stands : goal.returns-clause-stands
returns-clause-stands g c = rw c.replace-blank.ensures.after (λ lines links st.
    let s = standing c.args.self.now in
    let m = kept c.in_ok-fresh.fresh.memo in
    let made : AreMade lines links c.renew.new.hearing.heard m =
    made_anew lines links s c.in-Some.front.heard c.renew.new.hearing.heard m st (found_front _ s.heard c.in-Some.front c.in-Some.is c.in_ok-front.ensures.front)
    c.in_ok-fresh.ensures.after.grows (rw (c.deref.ensures, c.deref-2.ensures.value) at c.in_ok-fresh.ensures.made) c.good.ensures in
    let change = changed c.in_ok-fresh.fresh.change in
    let told : Tells s.lines s.links None s.heard m change = rw (c.deref.ensures, c.deref-2.ensures.value) at c.in_ok-fresh.ensures.told in
    let carried = (rw (c.deref-3.ensures, c.deref-4.ensures, c.replace-blank.ensures.after) at c.in_ok-ops.ensures.carries) (page_in s) (compares_there lines links s c.renew.new.hearing.heard m change st made told) in
    let os = map op_of c.in_ok-ops.ops.items in
    let next = c.carry.new.nodes.next in
    let number = number_at c.carry.new.nodes.numbers in
    let line = line_at c.carry.new.nodes.numbers in
    let there : Compares (page_in s) (block c.deref-3.result.now) (kept c.deref-4.result.now) (changed c.in_ok-fresh.fresh.change) s.number s.tree s.next =
    rw (c.deref-3.ensures, c.deref-4.ensures, c.replace-blank.ensures.after) (compares_there lines links s c.renew.new.hearing.heard m change st made told) in
    let same_shape : lines_shape (block c.deref-3.result.now) (kept c.deref-4.result.now) ≡ lines_shape s.lines m =
    rw (c.deref-3.ensures, c.deref-4.ensures, c.replace-blank.ensures.after) refl in
    let lined = subst (λ z. AreLined (renumbered (page_in s) z) line) same_shape (c.in_ok-ops.ensures.lines (page_in s) there st.lined) in
    (next_stands lines links s c.renew.new.hearing.heard m next c.carry.new.nodes.tree number line os st made carried lined).stands)

pub returns-clause-page : goal.returns-clause-page
returns-clause-page g c = λ lines links st hosts all stay.
    let s = standing c.args.self.now in
    let m = kept c.in_ok-fresh.fresh.memo in
    let made : AreMade lines links c.renew.new.hearing.heard m =
    made_anew lines links s c.in-Some.front.heard c.renew.new.hearing.heard m st (found_front _ s.heard c.in-Some.front c.in-Some.is c.in_ok-front.ensures.front)
    c.in_ok-fresh.ensures.after.grows (rw (c.deref.ensures, c.deref-2.ensures.value) at c.in_ok-fresh.ensures.made) c.good.ensures in
    let change = changed c.in_ok-fresh.fresh.change in
    let told : Tells s.lines s.links None s.heard m change = rw (c.deref.ensures, c.deref-2.ensures.value) at c.in_ok-fresh.ensures.told in
    let carried = (rw (c.deref-3.ensures, c.deref-4.ensures, c.replace-blank.ensures.after) at c.in_ok-ops.ensures.carries) (page_in s) (compares_there lines links s c.renew.new.hearing.heard m change st made told) in
    let os = map op_of c.in_ok-ops.ops.items in
    let next = c.carry.new.nodes.next in
    let number = number_at c.carry.new.nodes.numbers in
    let line = line_at c.carry.new.nodes.numbers in
    let there : Compares (page_in s) (block c.deref-3.result.now) (kept c.deref-4.result.now) (changed c.in_ok-fresh.fresh.change) s.number s.tree s.next =
    rw (c.deref-3.ensures, c.deref-4.ensures, c.replace-blank.ensures.after) (compares_there lines links s c.renew.new.hearing.heard m change st made told) in
    let same_shape : lines_shape (block c.deref-3.result.now) (kept c.deref-4.result.now) ≡ lines_shape s.lines m =
    rw (c.deref-3.ensures, c.deref-4.ensures, c.replace-blank.ensures.after) refl in
    let lined = subst (λ z. AreLined (renumbered (page_in s) z) line) same_shape (c.in_ok-ops.ensures.lines (page_in s) there st.lined) in
    ap (λ z. page_in (next_of s c.renew.new.hearing.heard z next c.carry.new.nodes.tree number line)) (ap kept c.replace-blank.ensures.after)
    ∙ (is_carried _ _ _ _ lines links [] c.renew.new.hearing.heard s m next c.carry.new.nodes.tree number line os hosts refl
    (then_heard _ _ _ _ _ _ _ _ _ (front_heard _ _ _ _ _ s.heard c.in-Some.front c.in-Some.is c.in_ok-front.ensures.after) c.in_ok-fresh.ensures.after) all stay st made carried lined).page

pub returns-clause-ops : goal.returns-clause-ops
returns-clause-ops g c = λ lines links st hosts all stay.
    let s = standing c.args.self.now in
    let m = kept c.in_ok-fresh.fresh.memo in
    let made : AreMade lines links c.renew.new.hearing.heard m =
    made_anew lines links s c.in-Some.front.heard c.renew.new.hearing.heard m st (found_front _ s.heard c.in-Some.front c.in-Some.is c.in_ok-front.ensures.front)
    c.in_ok-fresh.ensures.after.grows (rw (c.deref.ensures, c.deref-2.ensures.value) at c.in_ok-fresh.ensures.made) c.good.ensures in
    let change = changed c.in_ok-fresh.fresh.change in
    let told : Tells s.lines s.links None s.heard m change = rw (c.deref.ensures, c.deref-2.ensures.value) at c.in_ok-fresh.ensures.told in
    let carried = (rw (c.deref-3.ensures, c.deref-4.ensures, c.replace-blank.ensures.after) at c.in_ok-ops.ensures.carries) (page_in s) (compares_there lines links s c.renew.new.hearing.heard m change st made told) in
    let os = map op_of c.in_ok-ops.ops.items in
    let next = c.carry.new.nodes.next in
    let number = number_at c.carry.new.nodes.numbers in
    let line = line_at c.carry.new.nodes.numbers in
    let there : Compares (page_in s) (block c.deref-3.result.now) (kept c.deref-4.result.now) (changed c.in_ok-fresh.fresh.change) s.number s.tree s.next =
    rw (c.deref-3.ensures, c.deref-4.ensures, c.replace-blank.ensures.after) (compares_there lines links s c.renew.new.hearing.heard m change st made told) in
    let same_shape : lines_shape (block c.deref-3.result.now) (kept c.deref-4.result.now) ≡ lines_shape s.lines m =
    rw (c.deref-3.ensures, c.deref-4.ensures, c.replace-blank.ensures.after) refl in
    let lined = subst (λ z. AreLined (renumbered (page_in s) z) line) same_shape (c.in_ok-ops.ensures.lines (page_in s) there st.lined) in
    (is_carried _ _ _ _ lines links [] c.renew.new.hearing.heard s m next c.carry.new.nodes.tree number line os hosts refl
    (then_heard _ _ _ _ _ _ _ _ _ (front_heard _ _ _ _ _ s.heard c.in-Some.front c.in-Some.is c.in_ok-front.ensures.after) c.in_ok-fresh.ensures.after) all stay st made carried lined).ops

pub returns-clause-settles : goal.returns-clause-settles
returns-clause-settles g c = λ lines links st.
    let s = standing c.args.self.now in
    let m = kept c.in_ok-fresh.fresh.memo in
    let made : AreMade lines links c.renew.new.hearing.heard m =
    made_anew lines links s c.in-Some.front.heard c.renew.new.hearing.heard m st (found_front _ s.heard c.in-Some.front c.in-Some.is c.in_ok-front.ensures.front)
    c.in_ok-fresh.ensures.after.grows (rw (c.deref.ensures, c.deref-2.ensures.value) at c.in_ok-fresh.ensures.made) c.good.ensures in
    settled_right _ _ _ _ lines links [] c.renew.new.hearing.heard m refl (then_heard _ _ _ _ _ _ _ _ _ (front_heard _ _ _ _ _ s.heard c.in-Some.front c.in-Some.is c.in_ok-front.ensures.after) c.in_ok-fresh.ensures.after) made.memo made.order
