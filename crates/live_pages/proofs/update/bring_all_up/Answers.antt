use Rattle.std.proofs.Common.{◌≡◌, List, ◌<◌, length, get_or, refl, arith, sym, ap, subst, ◌∙◌}
use Rattle.live_pages.specs.declared.mounted.Mounted.{Mounted}
use Rattle.live_pages.specs.Updates.{numbers_of, AreShown}
use Rattle.live_labels.specs.Views.{labels_of}
use Rattle.live_pages.proofs.Pages.{all_shown, all_up, next_page, other_pages, same_count, up_to_more, up_to_none, written_back}
use Rattle.live_pages.proofs.update.bring_all_up.Goals as goal

pub loop-page-init : goal.loop-page-init
loop-page-init g c = record {
  up = up_to_none _ _ (labels_of c.args.labels.now) _ c.args.world.now c.args.pages.now.items _ c.new-told.result.items c.args.journal.now c.deref_mut-page-items.ensures.value
      c.new-told.ensures.items c.requires.can.agrees c.requires.can.counted c.requires.stand;
  within = omega arith;
}

pub bring_up-requires-clause-can : goal.bring_up-requires-clause-can
bring_up-requires-clause-can g c =
    let s = c.loop-page.invariant.up.settled in
    let u = s.worn in
    let v = s.most in
    let w = c.loop-page.invariant.within in
    let f = c.requires.few in
    let r = c.requires.can.worn in
    let m = c.requires.can.room in
    record { agrees = s.agrees; counted = s.counted; worn = omega (arith, u, w, f, r); room = omega (arith, v, w, f, m) }

pub bring_up-requires-clause-stands : goal.bring_up-requires-clause-stands
bring_up-requires-clause-stands g c =
    (next_page _ _ _ (labels_of c.args.labels.now) _ _ c.args.world.now c.loop-page.world c.args.pages.now.items c.loop-page.page-items c.loop-page.page-index c.loop-page.told.items
    c.args.journal.now c.loop-page.journal (get_or c.loop-page.page-items c.loop-page.page-index c.page-item.result) c.page-item.result c.loop-page.invariant.up
    (rw c.deref_mut-page-items.ensures.value at c.loop-page-test.true) refl).stands

pub loop-page-preserved : goal.loop-page-preserved
loop-page-preserved g c =
    let e = c.in_ok-bring_up.ensures in
    let u = c.loop-page.invariant.up in
    record {
      up = up_to_more _ _ _ _ _ (labels_of c.args.labels.now) _ _ _ c.args.world.now c.loop-page.world c.bring_up.new.world c.args.pages.now.items c.loop-page.page-items c.loop-page.page-index
          c.loop-page.told.items c.bring_up.new.told.items c.args.journal.now c.loop-page.journal c.bring_up.new.journal (get_or c.loop-page.page-items c.loop-page.page-index c.page-item.result) c.bring_up.new.page c.page-item.result
          u (rw c.deref_mut-page-items.ensures.value at c.loop-page-test.true) refl e.page e.shown e.number e.settled;
      within = let lt : c.loop-page.page-index < length c.args.pages.now.items = rw c.deref_mut-page-items.ensures.value at c.loop-page-test.true in omega (arith, lt);
    }

pub returns-clause-pages : goal.returns-clause-pages
returns-clause-pages g c = λ hosts slacks m a s shown.
    let u = c.loop-page.invariant.up in
    let all : List Mounted = c.args.pages.now.items in
    let same : length c.loop-page.page-items ≡ length all =
    same_count _ _ _ (labels_of c.args.labels.now) _ _ c.args.world.now c.loop-page.world all c.loop-page.page-items c.loop-page.page-index c.loop-page.told.items c.args.journal.now c.loop-page.journal u c.loop-page.invariant.within in
    let up = all_up _ _ _ (labels_of c.args.labels.now) _ _ c.args.world.now c.loop-page.world all c.loop-page.page-items c.loop-page.page-index c.loop-page.told.items c.args.journal.now c.loop-page.journal
    u (rw c.deref_mut-page-items.ensures.value at c.loop-page-test.false) hosts slacks m a s shown in
    other_pages _ _ _ _ _ _ _ _ _ _ _ _ _ (sym (written_back c.loop-page.page-items all c.args.pages.now.len (c.args.pages.now.ok.0 ∙ sym same))) up

pub returns-clause-shown : goal.returns-clause-shown
returns-clause-shown g c = λ templates shown.
    let u = c.loop-page.invariant.up in
    let all : List Mounted = c.args.pages.now.items in
    let same : length c.loop-page.page-items ≡ length all =
    same_count _ _ _ (labels_of c.args.labels.now) _ _ c.args.world.now c.loop-page.world all c.loop-page.page-items c.loop-page.page-index c.loop-page.told.items c.args.journal.now c.loop-page.journal u c.loop-page.invariant.within in
    subst (AreShown templates) (sym (written_back c.loop-page.page-items all c.args.pages.now.len (c.args.pages.now.ok.0 ∙ sym same)))
    (all_shown _ _ _ (labels_of c.args.labels.now) _ _ c.args.world.now c.loop-page.world all c.loop-page.page-items c.loop-page.page-index c.loop-page.told.items c.args.journal.now c.loop-page.journal
    u (rw c.deref_mut-page-items.ensures.value at c.loop-page-test.false) templates shown)

pub returns-clause-numbers : goal.returns-clause-numbers
returns-clause-numbers g c =
    let u = c.loop-page.invariant.up in
    let all : List Mounted = c.args.pages.now.items in
    let same : length c.loop-page.page-items ≡ length all =
    same_count _ _ _ (labels_of c.args.labels.now) _ _ c.args.world.now c.loop-page.world all c.loop-page.page-items c.loop-page.page-index c.loop-page.told.items c.args.journal.now c.loop-page.journal u c.loop-page.invariant.within in
    ap numbers_of (written_back c.loop-page.page-items all c.args.pages.now.len (c.args.pages.now.ok.0 ∙ sym same)) ∙ u.numbers

pub returns-clause-settled : goal.returns-clause-settled
returns-clause-settled g c =
    let s = c.loop-page.invariant.up.settled in
    let u = s.worn in
    let v = s.most in
    let w = c.loop-page.invariant.within in
    let f = c.requires.few in
    record {
      stays = s.stays;
      agrees = s.agrees;
      sound = s.sound;
      answers = s.answers;
      counted = s.counted;
      worn = omega (arith, u, w, f);
      most = omega (arith, v, w, f);
    }
