use Rattle.std.proofs.Common.{[], map, refl, sym, ap, subst, arith}
use Rattle.sig_effect.specs.Stores.{environment, AreRuled}
use Rattle.live_pages.specs.Views.{template_of}
use Rattle.live_pages.proofs.Shared.{all_standing, pages_kept}
use Rattle.live_core.specs.Views.{plain_of}
use Rattle.live_core.proofs.Batched.{roomy_same}
use Rattle.live_core.proofs.Commands.{ready_changed, stays_settled}
use Rattle.live_core.proofs.Mounts.{brought_steps, refused_steps}
use Rattle.live_core.proofs.machine.Machine.end_flush.Goals as goal

pub returns-then-refused-clause-steps : goal.returns-then-refused-clause-steps
returns-then-refused-clause-steps g c = λ hosts slacks all sound.
    refused_steps hosts (environment hosts slacks) _ c.args.self.now c.in_ok-told.told.items c.args.refused (sym c.if-refused.true) c.in_ok-told.ensures sound

pub returns-clause-steps : goal.returns-clause-steps
returns-clause-steps g c = λ hosts slacks all sound.
    let m = c.args.self.now in
    let e = c.in_ok-pages.ensures in
    let up = e.pages hosts slacks (plain_of [] m) all sound c.requires.shown in
    let new = record m { world = c.bring_all_up.new.world; journal = c.bring_all_up.new.journal; pages = c.bring_all_up.new.pages; notes = c.bring_all_up.new.notes } in
    brought_steps hosts (environment hosts slacks) _ _ m new c.in_ok-pages.pages.items c.args.refused (sym c.if-refused.false) up refl (e.settled.sound hosts all sound)

pub returns-clause-leaves : goal.returns-clause-leaves
returns-clause-leaves g c = λ hosts count ready all sound.
    let m = c.args.self.now in
    let e = c.in_ok-pages.ensures in
    let s = e.settled in
    let new = record m { world = c.bring_all_up.new.world; journal = c.bring_all_up.new.journal; pages = c.bring_all_up.new.pages; notes = c.bring_all_up.new.notes } in
    record {
      ready = ready_changed m new ready
          (record { names = refl; templates = refl; handlers = refl; scripts = refl; labels = record { signals = refl; owners = refl; pages = refl; watchers = refl } }) (stays_settled m.world new.world s.stays) (e.shown (map template_of m.templates.items) c.requires.shown)
          (pages_kept m.world new.world m.pages.items new.pages.items e.numbers (ap (λ t. t.pages.items) s.stays.tables) (ap (λ t. t.pages_made) s.stays.tables) ready.pages)
          (roomy_same m.world.graph.state.signals new.world.graph.state.signals m.batch s.stays.signals ready.batch);
      holds = λ h. record { agrees = s.agrees; ruled = subst (AreRuled count) (sym s.stays.signals) h.ruled };
      weight = let a = s.worn in let b = ap (λ t. t.effects_made) s.stays.tables in omega (arith, a, b);
    }

pub bring_all_up-requires-clause-stand : goal.bring_all_up-requires-clause-stand
bring_all_up-requires-clause-stand g c = all_standing (map template_of c.args.self.now.templates.items) c.args.self.now.pages.items c.requires.shown

pub returns-then-refused-clause-settled : goal.returns-then-refused-clause-settled
returns-then-refused-clause-settled g c = record {
  stays = record { signals = refl; given = refl; watchers = refl; tables = refl };
  agrees = c.requires.can.agrees;
  sound = λ hosts all sound. sound;
  answers = λ hosts all. all;
  counted = c.requires.can.counted;
  worn = omega arith;
  most = omega arith;
}
