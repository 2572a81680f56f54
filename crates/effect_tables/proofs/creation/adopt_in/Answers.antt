use Rattle.std.proofs.Common.{sym, subst}
use Rattle.sig_owner.specs.Tables.{thing_of}
use Rattle.effect_tables.specs.Children.{Adopts}
use Rattle.effect_tables.proofs.Adopted.{adopts_none, adopts_some}
use Rattle.effect_tables.proofs.creation.adopt_in.Goals as goal

pub returns-in_default-clause-adopts : goal.returns-in_default-clause-adopts
returns-in_default-clause-adopts c =
    subst (λ o. Adopts c.args.store.now c.args.store.now o (thing_of c.args.thing)) (sym c.in_default.is) (adopts_none c.args.store.now (thing_of c.args.thing))

pub returns-in-Ok-clause-adopts : goal.returns-in-Ok-clause-adopts
returns-in-Ok-clause-adopts c =
    subst (λ o. Adopts c.args.store.now c.adopt.new.self o (thing_of c.args.thing)) (sym c.in-Some.is)
    (adopts_some c.args.store.now c.adopt.new.self c.in-Some.row (thing_of c.args.thing) c.in-Ok.ensures.after c.in-Ok.ensures.tree)
