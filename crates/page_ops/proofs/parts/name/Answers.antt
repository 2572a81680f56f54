use Rattle.std.proofs.Common.{◌≡◌, true, ◌∙◌, ap, sym}
use Rattle.std.proofs.lemmas.Result.{IfOk-weaker}
use Rattle.html_out.specs.Html.{good_name}
use Rattle.page_ops.proofs.Words.{good_a, name_text}
use Rattle.page_ops.proofs.parts.name.Goals as goal

pub returns-in_default-clause-name : goal.returns-in_default-clause-name
returns-in_default-clause-name c = IfOk-weaker _ _ (λ t. good_name t ≡ true) (λ t h. ap good_name (h (name_text _ good_a)) ∙ good_a) c.text.ensures.same

pub returns-in_default-clause-same : goal.returns-in_default-clause-same
returns-in_default-clause-same c = IfOk-weaker _ _ (λ t. good_name c.args.word.now ≡ true → t ≡ c.args.word.now) (λ t h good. absurd (c.in_default.ensures.cases.0 (name_text _ good).0)) c.text.ensures.same

pub returns-then-not-good_name-clause-name : goal.returns-then-not-good_name-clause-name
returns-then-not-good_name-clause-name c = IfOk-weaker _ _ (λ t. good_name t ≡ true) (λ t h. ap good_name (h (name_text _ good_a)) ∙ good_a) c.text-then-not-good_name.ensures.same

pub returns-clause-name : goal.returns-clause-name
returns-clause-name c =
    let good : good_name c.in-Ok.name.now ≡ true = sym c.if-not-good_name.ensures in
    IfOk-weaker _ _ (λ t. good_name t ≡ true) (λ t h. ap good_name (h (name_text _ good)) ∙ good) c.text-2.ensures.same

pub returns-clause-same : goal.returns-clause-same
returns-clause-same c = IfOk-weaker _ _ (λ t. good_name c.args.word.now ≡ true → t ≡ c.args.word.now) (λ t h good. h (rw c.in-Ok.ensures.cases.0 (name_text _ good)) ∙ c.in-Ok.ensures.cases.0) c.text-2.ensures.same
