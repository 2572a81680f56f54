use Rattle.std.proofs.Common.{◌∙◌, [], length, map, arith, refl, sym, ap, subst}
use Rattle.live_model.specs.Machine.{empty}
use Rattle.live_model.specs.Names.{Names}
use Rattle.live_pages.specs.Updates.{AreShown, ArePages, AreTemplates}
use Rattle.live_pages.specs.Views.{page_of, template_of}
use Rattle.live_core.specs.Consistency.{AreHandled, AreMeant}
use Rattle.live_core.specs.Views.{handlers_of}
use Rattle.live_core.proofs.Names.{none_meant}
use Rattle.live_core.proofs.machine.Machine.new.Goals as goal

pub returns-clause-plain : goal.returns-clause-plain
returns-clause-plain c = λ asked all. (λ i. record (empty (length asked)) {
  names = c.new-2.ensures i;
  labels = c.new-3.ensures i;
  world = c.in_ok-world.ensures.whole asked all i;
  templates = map template_of (c.new-4.ensures.items i);
  handlers = handlers_of (c.new-5.ensures i) (c.new-6.ensures.items i);
  pages = map page_of (c.new-7.ensures.items i);
})

pub returns-clause-ready : goal.returns-clause-ready
returns-clause-ready c =
    let w = c.in_ok-world.world in
    let new = c.in_ok-world.ensures.whole [] tt in
    record {
      watchers = ap (λ x. x.made.watchers) new ∙ sym (ap (λ l. length l.watchers) c.new-3.ensures);
      paged = ap (λ x. x.made.pages) new ∙ sym (ap (λ l. length l.pages) c.new-3.ensures);
      meant = subst (λ (names : Names). AreMeant w (length c.new-4.result.items) names) (sym c.new-2.ensures) (none_meant w (length c.new-4.result.items));
      templates = subst AreTemplates (sym c.new-4.ensures.items) tt;
      handled = subst (λ x. x) (λ i. AreHandled (sym c.new-5.ensures i) (sym c.new-6.ensures.items i)) (record { many = refl; fits = tt });
      shown = subst (AreShown (map template_of c.new-4.result.items)) (sym c.new-7.ensures.items) tt;
      pages = subst (ArePages w) (sym c.new-7.ensures.items) (record { apart = tt; live = tt; below = tt; few = omega arith });
      batch = tt;
    }

pub returns-clause-holds : goal.returns-clause-holds
returns-clause-holds c = λ asked rules. record { agrees = c.in_ok-world.ensures.agrees asked; ruled = c.in_ok-world.ensures.ruled rules }
