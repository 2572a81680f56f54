use Rattle.std.proofs.Common.{◌+◌, ◌++◌, ◌∷◌, [], Bool, List, Option, Some, refl, ap, sym, ◌∙◌, subst, arith}
use Rattle.std.specs.Prelude.{vec_capacity}
use Rattle.sig_marks.specs.declared.readers.Readers.{Readers}
use Rattle.sig_marks.specs.declared.readers.Readers.TheVariants.{Nobody}
use Rattle.sig_marks.specs.Sets.{IsMarkTable}
use Rattle.sig_marks.proofs.Kept.{placed}
use Rattle.sig_marks.proofs.marks.Marks.add.Goals as goal

pub invariant_of-self-2 : goal.invariant_of-self-2
invariant_of-self-2 c =
    let ss = c.self.inside.dependants.entries in
    let ms = c.self.inside.marked.entries in
    let live = c.self.inside.live in
    let cap = vec_capacity c.reserve-3.new.self in
    let sets = c.push.ensures.entries ∙ ap (λ (ys : List (Option Readers)). ys ++ Some Nobody ∷ []) c.reserve.ensures.entries in
    let marks = c.push-2.ensures.entries ∙ ap (λ (ys : List (Option Bool)). ys ++ Some c.args.marked ∷ []) c.reserve-2.ensures.entries in
    let ok = c.in_ok-reserve-3.ensures.ok in
    let h = placed ss ms live (vec_capacity c.self.inside.fresh) Nobody c.args.marked cap refl (omega (arith, ok)) c.self.invariant in
    subst (λ yss. IsMarkTable yss c.push-2.new.self.entries (live + 1) cap) (sym sets)
    (subst (λ (ts : List (Option Bool)). IsMarkTable (ss ++ Some Nobody ∷ []) ts (live + 1) cap) (sym marks) h)
