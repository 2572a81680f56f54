use Rattle.std.proofs.Common.{◌≡◌, true, sym, subst}
use Rattle.std.specs.List.{All}
use Rattle.std.proofs.lemmas.List.Elements.{All-push}
use Rattle.settle_rows.proofs.scene.ids_of.Goals as goal

pub loop-name-preserved : goal.loop-name-preserved
loop-name-preserved c = λ test all.
    subst (All (λ n. test n ≡ true)) (sym c.in_ok-push.ensures.items)
    (All-push (λ n. test n ≡ true) c.loop-name.found.items c.in_ok-id.id (c.loop-name.invariant test all) (c.in_ok-id.ensures test all))
