use Rattle.std.proofs.Common.{◌≡◌, ℕ, List, ◌++◌, drop}
use Rattle.std.specs.List.{flat_map}
use Rattle.html_out.specs.Html.{attribute}
use Rattle.page_tree.proofs.html.put_attributes.Given as goal

abbrev pub invariant-loop-attribute : goal.invariant-loop-attribute
invariant-loop-attribute l =
    let all : List (List ℕ × List ℕ) → List ℕ = flat_map (λ (a : List ℕ × List ℕ). attribute a.0 a.1) in
    l.out.items ++ all (drop l.attribute-index l.attributes) ≡ l.initial.out.items ++ all l.attributes
