use Rattle.std.proofs.Common.{false, length, sym, ap, ◌∙◌}
use Rattle.std.specs.Prelude.{slice_set}
use Rattle.sig_marks.specs.Sets.{stands_of}
use Rattle.sig_marks.proofs.LinkedSets.{dropped, stands_len}
use Rattle.sig_marks.proofs.Shared.{mark_set_len}
use Rattle.sig_marks.proofs.links.drop_links.Goals as goal

pub returns-clause-after : goal.returns-clause-after
returns-clause-after c =
    let b = c.unlink_all.new.sets.entries in
    let e = c.forget_at.new.sets.entries in
    let len = sym (stands_len e) ∙ ap length c.forget_at.ensures.stands ∙ mark_set_len (stands_of b) c.args.id false ∙ stands_len b in
    dropped c.args.sets.now.entries b e c.args.sources.now c.args.id c.unlink_all.ensures len c.forget_at.ensures.off

pub returns-clause-stands : goal.returns-clause-stands
returns-clause-stands c = c.forget_at.ensures.stands ∙ ap (λ bs. slice_set bs c.args.id false) c.unlink_all.ensures.stands
