use Rattle.std.proofs.Common.{◌≡◌, ℕ, Bool, true}
use Rattle.std.specs.List.{All}
use Rattle.settle_rows.proofs.scene.ids_of.Given as goal

abbrev pub invariant-loop-name : goal.invariant-loop-name
invariant-loop-name l = (test : ℕ → Bool) → All (λ n. test n ≡ true) l.ids → All (λ n. test n ≡ true) l.found.items
