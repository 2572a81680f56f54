use Rattle.std.proofs.Common.{◌≡◌, ◌++◌, drop}
use Rattle.std.specs.List.{flat_map}
use Rattle.page_model.specs.Edits.{listed}
use Rattle.tpl_model.specs.NextPage.Lookups.{gone_numbers}
use Rattle.tpl_patch.specs.Sets.{left_out}
use Rattle.tpl_patch.proofs.leaving.strays.Given as goal

abbrev pub invariant-loop-number : goal.invariant-loop-number
invariant-loop-number l =
    left_out l.kept l.strays.items ++ flat_map (gone_numbers (λ n. listed n l.kept) l.tree) (drop l.number-index l.numbers)
    ≡ flat_map (gone_numbers (λ n. listed n l.kept) l.tree) l.numbers
