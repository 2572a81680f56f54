use Rattle.std.proofs.Common.{[], ◌∷◌, Some, sym, ◌∙◌, subst}
use Rattle.std.specs.Prelude.{slice_set}
use Rattle.sig_marks.specs.Sets.{Unlinks}
use Rattle.sig_marks.proofs.LinkedSets.{unlinked, unlinked_gap}
use Rattle.sig_marks.proofs.links.unlink_at.Goals as goal

pub returns-then-not-stands_in : goal.returns-then-not-stands_in
returns-then-not-stands_in c =
    let ss = c.args.sets.now.entries in
    subst (λ z. Unlinks ss ss (z ∷ []) c.args.reader) c.number-id.ensures (unlinked_gap ss c.number-id.result c.args.reader (sym c.stands_in.ensures ∙ c.if-not-stands_in.true))

pub returns : goal.returns
returns c =
    let ss = c.args.sets.now.entries in
    subst (λ z. Unlinks ss (slice_set ss c.number-id.result (Some c.remove.new.self)) (z ∷ []) c.args.reader) c.number-id.ensures
    (unlinked ss c.number-id.result c.args.reader c.remove.new.self c.value_mut-readers.result.now c.value_mut-readers.ensures.value c.remove.ensures.off c.remove.ensures.room)
