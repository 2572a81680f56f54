use Rattle.std.proofs.Common.{◌≡◌, Err, inl, map, is_some, arith, ap, sym, refl, subst, length, ◌∙◌}
use Rattle.std.specs.Prelude.{IsErrOf}
use Rattle.std.specs.List.{AllByRecursion}
use Rattle.sig_owner.specs.declared.errors.OwnFault.TheVariants as own
use Rattle.effect_tables.specs.declared.tables.Tables.{Tables}
use Rattle.effect_tables.specs.Bodies.{thing_of}
use Rattle.effect_world.specs.declared.world.World.{World}
use Rattle.effect_world.specs.Signals.{IsNoted}
use Rattle.effect_world.proofs.Undone.{agrees_now, gone_standing, gone_tabled, lives_by, noted_steps, out_does, undoes_heard, untouched}
use Rattle.effect_tables.specs.Placed.{effect_of}
use Rattle.effect_tables.proofs.Shared.{none_heard}
use Rattle.effect_world.proofs.world.World.dispose.Goals as goal

pub returns-then-not-is_standing-clause-refuses : goal.returns-then-not-is_standing-clause-refuses
returns-then-not-is_standing-clause-refuses g c =
    (tt, (λ h. (gone_standing _ c.args.self.now (thing_of c.args.thing) (sym c.is_standing.ensures ∙ c.if-not-is_standing.true), (refl, refl, refl))), inl refl)

pub take_out-requires-clause-holds : goal.take_out-requires-clause-holds
take_out-requires-clause-holds g c = c.requires.agrees.owned.tables

pub take_out-requires-clause-formed : goal.take_out-requires-clause-formed
take_out-requires-clause-formed g c = c.requires.agrees.owned.formed

pub undo_all-requires-clause-noted : goal.undo_all-requires-clause-noted
undo_all-requires-clause-noted g c = subst (AllByRecursion IsNoted) (sym c.deref.ensures.value) (noted_steps c.in-Ok.undoings.items c.in-Ok.ensures.takes.cleanups)

pub undo_all-requires-clause-worn : goal.undo_all-requires-clause-worn
undo_all-requires-clause-worn g c =
    let e = ap length c.deref.ensures.value in
    omega (arith, e)

pub undo_all-requires-clause-agrees : goal.undo_all-requires-clause-agrees
undo_all-requires-clause-agrees g c = c.requires.agrees.signals

pub returns-in_ok-undo_all-in-Ok-clause-done : goal.returns-in_ok-undo_all-in-Ok-clause-done
returns-in_ok-undo_all-in-Ok-clause-done g c =
    let old : World = c.args.self.now in
    let mid : World = record { graph = old.graph; watchers = old.watchers; tables = c.take_out.new.tables; heard = old.heard } in
    let new : World = record c.undo_all.new.self { heard = c.forget.new.self } in
    let d = undoes_heard _ _ c.undo_all.new.self c.forget.new.self _ _ _ _ _ _ c.in_ok-undo_all-in-Ok.ensures.done in
    let takes = c.in-Ok.ensures.takes in
    let w = d.worn in
    let t = c.in_ok-undo_all-in-Ok.ensures.told in
    let m = ap (λ (b : Tables). b.effects_made) d.tables ∙ takes.takes.made in
    record {
      does = out_does _ old mid new _ _ _ _ _ _ _ (thing_of c.args.thing) c.in-Ok.undoings.items _ c.deref.ensures.value refl d takes
          (lives_by _ old (thing_of c.args.thing) (sym c.is_standing.ensures ∙ c.if-not-is_standing.false) c.in-Ok.ensures.there);
      agrees = agrees_now _ old mid new _ _ _ _ _ _ _ (thing_of c.args.thing) c.in-Ok.undoings.items _ c.deref.ensures.value refl d _ takes.takes c.requires.agrees.owned
          (none_heard new.graph.state.signals c.forget.new.self (map effect_of new.tables.effects.items) c.forget.ensures);
      answers = d.answers;
      most = d.most;
      rules = d.rules;
      given = d.given;
      made = d.made;
      worn = omega (arith, w, t, m);
      told = omega (arith, t);
    }

pub returns-in_ok-undo_all-in-Ok-clause-refuses : goal.returns-in_ok-undo_all-in-Ok-clause-refuses
returns-in_ok-undo_all-in-Ok-clause-refuses g c =
    (lives_by _ c.args.self.now (thing_of c.args.thing) (sym c.is_standing.ensures ∙ c.if-not-is_standing.false) c.in-Ok.ensures.there, (λ h. absurd cc), tt)

pub returns-in-Err-Gone-clause-refuses : goal.returns-in-Err-Gone-clause-refuses
returns-in-Err-Gone-clause-refuses g c =
    let old : World = c.args.self.now in
    let e : c.take_out.result ≡ Err own.Gone = c.in-Err-Gone.is ∙ ap Err c.in-Err-Gone.field-0-is in
    let same = untouched _ _ _ e c.take_out.ensures.err in
    let off = gone_tabled (map (λ p. record { there = is_some p.host; asks = p.count }) c.args.shelf.now.places.items) old (thing_of c.args.thing) (c.take_out.ensures.gone (subst (λ r. IsErrOf r own.Gone) (sym e) refl)) in
    (tt, (λ h. (off, ((λ i. record { graph = old.graph; watchers = old.watchers; tables = same i; heard = old.heard }), refl, refl))), inl refl)
