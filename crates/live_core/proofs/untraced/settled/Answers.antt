use Rattle.std.proofs.Common.{List, [], ◌∷◌, ◌∙◌, length, map, refl, sym, ap, subst, arith}
use Rattle.std.proofs.lemmas.List.{length-map}
use Rattle.sig_computed.specs.declared.notes.RunNote.{RunNote}
use Rattle.sig_computed.specs.Notes.{note_of, AreNotesGiven}
use Rattle.sig_effect.specs.declared.events.Event.TheVariants as event
use Rattle.effect_world.specs.declared.world.World.{World}
use Rattle.sig_effect.proofs.Shared.{agrees_settled, ask_does, none_given, runs_behind}
use Rattle.effect_world.specs.Wholes.{stores_of}
use Rattle.effect_tables.proofs.Shared.{same_heard}
use Rattle.effect_world.proofs.Shared.{owned_still, settle_done}
use Rattle.live_core.proofs.untraced.settled.Goals as goal

pub returns-clause-settled : goal.returns-clause-settled
returns-clause-settled g c =
    let old : World = c.args.world.now in
    let e = c.in_ok-outcome.ensures.settles in
    let new : World = record { graph = c.settle.new.graph; watchers = old.watchers; tables = old.tables; heard = old.heard } in
    let m = e.most in
    let w = e.worn in
    let none = ap (λ (ns : List RunNote). length (map note_of ns)) c.requires.none in
    let noted = length-map c.settle.new.notes.items note_of in
    let runs = length-map c.settle.new.notes.items event.Run in
    record {
      does = λ hosts slacks all sound.
          settle_done hosts slacks _ _ old new _ _ (c.args.id ∷ [])
          (ask_does hosts slacks _ _ (stores_of old) (stores_of new) c.args.id c.args.notes.now.items c.settle.new.notes.items [] (map event.Run c.settle.new.notes.items) c.requires.none
          e.signals e.given refl (e.settled hosts all sound.kept) (e.asked hosts all sound.kept) refl (e.kept hosts all sound.kept) sound) refl c.requires.agrees.owned.tables;
      agrees = record {
        signals = agrees_settled _ _ (stores_of old) (stores_of new) e.signals e.idle e.there refl c.requires.agrees.signals;
        owned = owned_still old new e.given refl c.requires.agrees.owned;
        heard = same_heard old.graph.state.signals c.settle.new.graph.state.signals old.heard old.heard _ _ e.signals refl refl c.requires.agrees.heard;
      };
      answers = e.answers;
      most = omega (arith, m, none, noted, runs);
      signals = e.signals;
      given = e.given;
      watchers = refl;
      named = λ named.
          runs_behind old.graph c.settle.new.graph old.watchers.made c.settle.new.notes.items [] (map event.Run c.settle.new.notes.items) e.given
          (e.named (subst (λ (ns : List RunNote). AreNotesGiven old.graph (map note_of ns)) (sym c.requires.none) (none_given old.graph)))
          refl named;
      worn = omega (arith, w, none, noted, runs);
    }
