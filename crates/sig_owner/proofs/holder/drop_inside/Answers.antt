use Rattle.std.proofs.Common.{ap, sym, ◌∙◌}
use Rattle.sig_owner.specs.Removals.{is_held_of, sifted_inside}
use Rattle.sig_owner.specs.Tables.{rows_of}
use Rattle.sig_owner.proofs.holder.drop_inside.Goals as goal

pub returns-in-Some : goal.returns-in-Some
returns-in-Some c = c.drop_held_at.ensures ∙ ap (λ o. sifted_inside o (is_held_of c.args.id) (rows_of c.args.holders.now.entries)) (sym c.in-Some.is)
