use Rattle.std.proofs.Common.{[], ◌∷◌, ◌++◌, length, take, refl, sym, ap, arith, ◌∙◌}
use Rattle.std.proofs.lemmas.List.{take_more}
use Rattle.std.proofs.lemmas.Option.{get_or_from_slice_get, slice_get_read}
use Rattle.tpl_hearing.proofs.outcomes.copy_front.Goals as goal

pub loop-place-init : goal.loop-place-init
loop-place-init c = record { copied = c.in_ok-own.ensures.items; low = omega arith }

pub loop-place-preserved : goal.loop-place-preserved
loop-place-preserved c =
    let os = c.args.outcomes.now in
    let i = c.loop-place.place in
    let o = c.index-outcomes-place.result in
    let low = c.loop-place-test.true in
    let most = c.requires in
    let at = slice_get_read os (length os) i o refl (omega (arith, low, most)) c.index-outcomes-place.is in
    record {
      copied = c.in_ok-push_copy.ensures.put ∙ ap (λ xs. xs ++ o ∷ []) c.loop-place.invariant.copied
          ∙ sym (take_more os i o (omega (arith, low, most)) ∙ ap (λ x. take i os ++ x ∷ []) (get_or_from_slice_get os i o o at));
      low = omega (arith, low);
    }
