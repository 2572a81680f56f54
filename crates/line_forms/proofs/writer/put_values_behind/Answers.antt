use Rattle.std.proofs.Common.{◌≡◌, ℕ, List, ◌++◌, codes, flat_map, ap, ◌∙◌, append_assoc, arith, sym}
use Rattle.std.proofs.lemmas.List.{take_all}
use Rattle.line_forms.specs.Forms.{value}
use Rattle.line_forms.specs.Printed.{behind_tokens, spaced}
use Rattle.line_forms.proofs.Separators.{value_behind_comma, values_spaced}
use Rattle.line_forms.proofs.writer.put_values_behind.Goals as goal

pub returns : goal.returns
returns c =
    let h = c.loop-value-test.false in
    let all = take_all c.loop-value.value-index c.args.values.now (omega arith) in
    let old = c.args.out.now.items in
    let so_far : c.loop-value.out.items ≡ old ++ flat_map value_behind_comma c.args.values.now =
    c.loop-value.invariant ∙ ap (λ (bs : List ℕ). old ++ bs) (ap (flat_map value_behind_comma) all) in
    let whole : c.loop-value.out.items ++ codes " )" ≡ old ++ spaced (behind_tokens value c.args.values.now) =
    ap (λ (bs : List ℕ). bs ++ codes " )") so_far ∙ append_assoc old (flat_map value_behind_comma c.args.values.now) (codes " )")
    ∙ ap (λ (bs : List ℕ). old ++ bs) (values_spaced c.args.values.now) in
    rw (sym whole) c.put_fixed-2.ensures
