use Rattle.std.proofs.Common.{◌≡◌, ℕ, ◌+◌, ◌<◌, List, Some, length, map, option_map, slice_get, refl, sym, ap, ◌∙◌, arith, add-one}
use Rattle.std.proofs.lemmas.Bool.Decides.{nat_tests}
use Rattle.std.proofs.lemmas.Option.{slice_get-map, slice_get_read}
use Rattle.sig_formula.specs.Trees.{tree}
use Rattle.tpl_syntax.specs.Lines.{is_tag, mapped, tag_at}
use Rattle.tpl_syntax.specs.declared.line.Line.{Line}
use Rattle.tpl_syntax.proofs.template.is_tag_in.Goals as goal

-- the line of a place has the next ordinal
line_there : {F G : Type 0} (f : Line F → Line G) (ls : List (Line F)) (i : ℕ) (x : Line F) → slice_get ls i ≡ Some x →
    is_tag (Some (f x)) ≡ tag_at (i + 1) (map f ls)
line_there f ls i x e =
    ap (λ o. is_tag (option_map f o)) (sym e) ∙ (ap is_tag (sym (slice_get-map f ls i)) ∙ ap (λ n. tag_at n (map f ls)) (sym (add-one i)))

pub returns : goal.returns
returns c =
    let ls = c.args.lines.now in
    let i = c.args.place in
    let x = c.in-Some.line.now in
    let found = c.in-Some.ensures.lookup in
    let within : i < length ls = grind (arith, nat_tests, found.0) in
    c.begins_element.ensures ∙ line_there (mapped tree) ls i x (slice_get_read ls (length ls) i x refl within found.1)
