use Rattle.std.proofs.Common.{◌∙◌, map, refl, sym, ap, subst, arith}
use Rattle.std.proofs.lemmas.List.{length-map}
use Rattle.sig_effect.specs.Stores.{environment, AreRuled}
use Rattle.live_model.specs.Machine.{page_at}
use Rattle.live_model.specs.Names.{number_of}
use Rattle.live_pages.specs.Updates.{AreShown, IsShown}
use Rattle.live_pages.specs.Views.{page_of, template_of}
use Rattle.live_pages.proofs.Shared.{pages_kept}
use Rattle.live_core.proofs.Batched.{roomy_same}
use Rattle.live_core.proofs.Commands.{ready_changed, stays_settled}
use Rattle.live_core.proofs.Mounts.{scratch_steps}
use Rattle.live_core.proofs.machine.Machine.scratch.Goals as goal

pub scratch-requires-clause-known : goal.scratch-requires-clause-known
scratch-requires-clause-known g c =
    let m = c.args.self.now in
    let all = subst (AreShown (map template_of m.templates.items)) (sym c.deref.ensures.value) c.requires.can.ready.shown in
    let shown : IsShown (map template_of m.templates.items) c.in-Some.shown.now =
    rw (c.in-Some.is) at (c.page_among.ensures.shown (map template_of m.templates.items) all) in
    let a = shown.template in
    let b = length-map m.templates.items template_of in
    rw (c.deref-2.ensures.value) (omega (arith, a, b))

pub scratch-requires-clause-can : goal.scratch-requires-clause-can
scratch-requires-clause-can g c =
    let w = c.requires.can.weight in
    let r = c.requires.can.most in
    record { agrees = c.requires.can.agrees; counted = c.requires.can.counted; worn = omega (arith, w); room = omega (arith, r) }

pub scratch-requires-clause-templates : goal.scratch-requires-clause-templates
scratch-requires-clause-templates g c = rw (c.deref-2.ensures.value) c.requires.can.ready.templates

pub returns-clause-did : goal.returns-clause-did
returns-clause-did g c = λ slacks count. record {
  steps = λ hosts all sound.
      let m = c.args.self.now in
      let e = c.in_ok-html.ensures in
      let n = c.of-page.ensures ∙ c.number_of.ensures in
      let up = rw (c.deref-2.ensures.value, c.new-told.ensures.items) at (e.html hosts slacks all sound) in
      let found = rw (c.in-Some.is) at c.page_among.ensures.found in
      scratch_steps hosts (environment hosts slacks) _ _ m c.scratch.new.world c.scratch.new.journal c.args.name (number_of m.names c.args.name) c.in-Some.shown.now c.in_ok-html.html c.scratch.new.told.items
      c.push.new.self.items ((λ i. page_at (map page_of (sym c.deref.ensures.value i)) (sym n i)) ∙ found) up c.in_ok-push.ensures.items (e.settled.sound hosts all sound);
  leaves = λ hosts all sound.
      let m = c.args.self.now in
      let e = c.in_ok-html.ensures in
      let s = e.settled in
      let new = record m { world = c.scratch.new.world; journal = c.scratch.new.journal } in
      record {
        ready = ready_changed m new c.requires.can.ready
            (record { names = refl; templates = refl; handlers = refl; scripts = refl; labels = record { signals = refl; owners = refl; pages = refl; watchers = refl } }) (stays_settled m.world new.world s.stays) c.requires.can.ready.shown
            (pages_kept m.world new.world m.pages.items m.pages.items refl (ap (λ t. t.pages.items) s.stays.tables) (ap (λ t. t.pages_made) s.stays.tables) c.requires.can.ready.pages)
            (roomy_same m.world.graph.state.signals new.world.graph.state.signals m.batch s.stays.signals c.requires.can.ready.batch);
        holds = λ h. record { agrees = s.agrees; ruled = subst (AreRuled count) (sym s.stays.signals) h.ruled };
        weight = let a = s.worn in let b = ap (λ t. t.effects_made) s.stays.tables in omega (arith, a, b);
      };
  answers = c.in_ok-html.ensures.settled.answers;
  counted = c.in_ok-html.ensures.settled.counted;
  most = let a = c.in_ok-html.ensures.settled.most in omega (arith, a);
}
