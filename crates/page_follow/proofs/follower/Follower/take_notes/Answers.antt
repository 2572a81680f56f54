use Rattle.std.proofs.Common.{◌+◌, ◌∷◌, ◌∙◌, List, ap, drop, map, refl, subst, sym}
use Rattle.std.specs.List.{AllByRecursion}
use Rattle.std.proofs.lemmas.List.{drop_all, drop_more}
use Rattle.wire_model.specs.Following.{follow}
use Rattle.page_wire.specs.declared.note.Note.{Note}
use Rattle.page_wire.specs.Views.{note_of}
use Rattle.page_follow.specs.Views.{IsDoable}
use Rattle.page_follow.proofs.Followed.{GoesLike, all_taken, halted, one_taken}
use Rattle.page_follow.proofs.follower.Follower.take_notes.Goals as goal

pub take_note-requires : goal.take_note-requires
take_note-requires c =
    let rest = drop (c.loop-note.note-index + 1) c.args.notes.now in
    let here = drop_more c.args.notes.now c.loop-note.note-index c.note-item.result c.loop-note-test.true ∙ ap (λ (n : Note). n ∷ rest) (sym c.note-item.is) in
    (subst (λ (ns : List Note). AllByRecursion IsDoable (map note_of ns)) here c.loop-note.invariant.doable).0

pub loop-note-init : goal.loop-note-init
loop-note-init c = record { alike = record { printed = refl; pages = refl; refused = refl }; doable = c.requires }

pub loop-note-preserved : goal.loop-note-preserved
loop-note-preserved c =
    let rest = drop (c.loop-note.note-index + 1) c.args.notes.now in
    let here = drop_more c.args.notes.now c.loop-note.note-index c.note-item.result c.loop-note-test.true ∙ ap (λ (n : Note). n ∷ rest) (sym c.note-item.is) in
    let all = follow (map note_of c.args.notes.now) c.args.self.now in
    record {
      alike = one_taken (note_of c.note-item.result) (map note_of rest) _ _ _ _ _ all c.in-Ok.ensures
          (subst (λ (ns : List Note). GoesLike c.args.out.now.items c.loop-note.out.items all (follow (map note_of ns) c.loop-note.self)) here c.loop-note.invariant.alike);
      doable = (subst (λ (ns : List Note). AllByRecursion IsDoable (map note_of ns)) here c.loop-note.invariant.doable).1;
    }

pub returns-in-Err : goal.returns-in-Err
returns-in-Err c =
    let rest = drop (c.loop-note.note-index + 1) c.args.notes.now in
    let here = drop_more c.args.notes.now c.loop-note.note-index c.note-item.result c.loop-note-test.true ∙ ap (λ (n : Note). n ∷ rest) (sym c.note-item.is) in
    let all = follow (map note_of c.args.notes.now) c.args.self.now in
    halted c.in-Err.why (note_of c.note-item.result) (map note_of rest) (map note_of c.args.notes.now) c.args.self.now _ _ _ _ _ c.in-Err.ensures
    (subst (λ (ns : List Note). GoesLike c.args.out.now.items c.loop-note.out.items all (follow (map note_of ns) c.loop-note.self)) here c.loop-note.invariant.alike)

pub returns : goal.returns
returns c =
    let all = follow (map note_of c.args.notes.now) c.args.self.now in
    all_taken (map note_of c.args.notes.now) c.args.self.now _ _ _
    (subst (λ (ns : List Note). GoesLike c.args.out.now.items c.loop-note.out.items all (follow (map note_of ns) c.loop-note.self))
    (drop_all c.loop-note.note-index c.args.notes.now c.loop-note-test.false) c.loop-note.invariant.alike)
