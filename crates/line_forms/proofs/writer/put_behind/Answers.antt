use Rattle.std.proofs.Common.{◌≡◌, ℕ, List, ◌++◌, codes, flat_map, ap, ◌∙◌, append_assoc, arith, sym}
use Rattle.std.proofs.lemmas.List.{take_all}
use Rattle.line_forms.specs.Forms.{name}
use Rattle.line_forms.specs.Printed.{behind_tokens, spaced}
use Rattle.line_forms.proofs.Separators.{behind_comma, behind_spaced}
use Rattle.line_forms.proofs.writer.put_behind.Goals as goal

pub returns : goal.returns
returns c =
    let h = c.loop-name-test.false in
    let all = take_all c.loop-name.name-index c.args.names.now (omega arith) in
    let old = c.args.out.now.items in
    let so_far : c.loop-name.out.items ≡ old ++ flat_map behind_comma c.args.names.now =
    c.loop-name.invariant ∙ ap (λ (bs : List ℕ). old ++ bs) (ap (flat_map behind_comma) all) in
    let whole : c.loop-name.out.items ++ codes " )" ≡ old ++ spaced (behind_tokens name c.args.names.now) =
    ap (λ (bs : List ℕ). bs ++ codes " )") so_far ∙ append_assoc old (flat_map behind_comma c.args.names.now) (codes " )")
    ∙ ap (λ (bs : List ℕ). old ++ bs) (behind_spaced c.args.names.now) in
    rw (sym whole) c.put_fixed-2.ensures
