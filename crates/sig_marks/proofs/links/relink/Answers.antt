use Rattle.std.proofs.Common.{ℕ, List, inr, sym, ap, ◌∙◌}
use Rattle.sig_marks.specs.Tables.{depends}
use Rattle.sig_marks.proofs.LinkedSets.{relinked, relinked_few}
use Rattle.sig_marks.proofs.links.relink.Goals as goal

pub returns-in_err-reserve_all-clause-few : goal.returns-in_err-reserve_all-clause-few
returns-in_err-reserve_all-clause-few c = λ m d on. inr (sym (ap (λ (kss : List (List ℕ)). depends kss m d) c.reserve_all.ensures.makes.keys) ∙ on)

pub returns-clause-ok : goal.returns-clause-ok
returns-clause-ok c =
    relinked c.args.sets.now.entries c.reserve_all.new.sets.entries c.unlink_all.new.sets.entries c.link_all.new.sets.entries c.args.sources.now c.args.reads.now c.args.reader
    c.reserve_all.ensures.makes c.unlink_all.ensures c.link_all.ensures

pub returns-clause-few : goal.returns-clause-few
returns-clause-few c =
    relinked_few c.args.sets.now.entries c.reserve_all.new.sets.entries c.unlink_all.new.sets.entries c.link_all.new.sets.entries c.args.sources.now c.args.reads.now c.args.reader
    c.reserve_all.ensures.makes c.unlink_all.ensures c.link_all.ensures

pub returns-clause-stands : goal.returns-clause-stands
returns-clause-stands c = c.link_all.ensures.stands ∙ c.unlink_all.ensures.stands ∙ c.reserve_all.ensures.makes.stands
