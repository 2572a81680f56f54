use Rattle.std.proofs.Common.{◌≡◌, ◌∙◌, ◌++◌, List, Option, None, refl, sym, ap, subst}
use Rattle.std.specs.Prelude.{replicate}
use Rattle.std.specs.List.{All}
use Rattle.std.proofs.lemmas.List.Elements.{All-replicate}
use Rattle.sig_base.specs.declared.name.Name.{Name}
use Rattle.script_items.proofs.known.KnownNames.new.Goals as goal

pub returns : goal.returns
returns c = subst (All (λ n. n ≡ None)) (sym (c.in_ok-widen.ensures ∙ ap (λ (xs : List (Option Name)). xs ++ replicate 64 None) c.new-names.ensures.items)) (All-replicate (λ n. n ≡ None) 64 None refl)
