use Rattle.std.proofs.Common.{◌≡◌, ◌+◌, ◌++◌, ◌∷◌, ℕ, List, ap, ◌∙◌, drop, get_or}
use Rattle.std.specs.List.{flat_map}
use Rattle.std.proofs.lemmas.List.{drop_more}
use Rattle.page_model.specs.Edits.{listed}
use Rattle.tpl_model.specs.NextPage.Lookups.{gone_numbers}
use Rattle.tpl_patch.specs.Sets.{left_out}
use Rattle.tpl_patch.proofs.Numbers.{one_more}
use Rattle.tpl_patch.proofs.leaving.strays.Goals as goal

pub loop-number-preserved : goal.loop-number-preserved
loop-number-preserved c =
    let i = c.loop-number.number-index in
    let xs = c.args.numbers.now in
    let kept = c.args.kept.now in
    let f : ℕ → List ℕ = gone_numbers (λ n. listed n kept) c.args.tree.now in
    let rest : drop i xs ≡ get_or xs i 0 ∷ drop (i + 1) xs = drop_more xs i 0 c.loop-number-test.true in
    one_more f (get_or xs i 0) (drop i xs) (drop (i + 1) xs) (flat_map f xs) (left_out kept c.loop-number.strays.items)
    (left_out kept c.put_strays.new.out.items) rest
    (c.in_ok-near.ensures ∙ ap (λ z. left_out kept c.loop-number.strays.items ++ left_out kept z) c.children.ensures) c.loop-number.invariant
