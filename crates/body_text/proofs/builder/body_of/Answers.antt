use Rattle.std.proofs.Common.{◌∷◌, [], ◌++◌, List, length, ap, ◌∙◌, arith}
use Rattle.std.proofs.lemmas.List.{length-append}
use Rattle.sig_untrack.specs.Stated.{no_bodies}
use Rattle.body_text.specs.declared.line.Line.{Line}
use Rattle.body_text.specs.declared.line.Line.TheVariants.{End}
use Rattle.body_text.proofs.Parts.{own_body}
use Rattle.body_text.proofs.builder.body_of.Goals as goal

pub block-requires : goal.block-requires
block-requires c =
    let n = c.new-lists.ensures in
    let ts = ap length n.0 in
    let ns = ap length n.1 in
    let es = ap length n.2 in
    let rs = ap length n.3 in
    let more = ap length c.in_ok-push_back.ensures.items ∙ length-append c.args.lines.items (End ∷ []) in
    omega (arith, c.requires, ts, ns, es, rs, more)

pub returns : goal.returns
returns c = λ s e.
    let n = c.new-lists.ensures in
    let b = c.in_ok-statements.ensures.built s [] (c.in_ok-push_back.ensures.items ∙ ap (λ (ls : List Line). ls ++ (End ∷ [])) e) in
    own_body s _ _ _ _ b.1 n.0 n.1 n.2 n.3 c.body.ensures no_bodies
