use Rattle.std.proofs.Common.{◌≡◌, ◌++◌, ℕ, List, ap, ◌∙◌, drop, false}
use Rattle.std.proofs.lemmas.Result.{IfOk-weaker}
use Rattle.sig_base.specs.Printer.{quoted}
use Rattle.page_model.specs.Texts.{IsText}
use Rattle.page_ops.specs.Parser.{unquoted}
use Rattle.page_ops.proofs.Quotes.{quoted_is}
use Rattle.page_ops.proofs.parts.literal.Goals as goal

pub returns-in_default-clause-same : goal.returns-in_default-clause-same
returns-in_default-clause-same c =
    let said : c.deref.result.now ≡ unquoted false (drop 1 c.args.bytes.now) = c.deref.ensures.value ∙ (c.in_ok-content.ensures ∙ ap (unquoted false) c.behind.ensures) in
    IfOk-weaker _ _ (λ t. (u rest : List ℕ) → IsText u → c.args.bytes.now ≡ quoted u ++ rest → t ≡ u)
    (λ t h u rest text e. absurd (c.in_default.ensures.cases.0 (rw (said ∙ (ap (λ zs. unquoted false (drop 1 zs)) e ∙ quoted_is u rest)) text.0))) c.text.ensures.same

pub returns-clause-same : goal.returns-clause-same
returns-clause-same c =
    let said : c.in-Ok.characters.now ≡ unquoted false (drop 1 c.args.bytes.now) = c.in-Ok.ensures.cases.0 ∙ (c.deref.ensures.value ∙ (c.in_ok-content.ensures ∙ ap (unquoted false) c.behind.ensures)) in
    IfOk-weaker _ _ (λ t. (u rest : List ℕ) → IsText u → c.args.bytes.now ≡ quoted u ++ rest → t ≡ u)
    (λ t h u rest text e. let is = said ∙ (ap (λ zs. unquoted false (drop 1 zs)) e ∙ quoted_is u rest) in h (rw is text) ∙ is) c.text-2.ensures.same
