use Rattle.std.proofs.Common.{ap, ◌∙◌}
use Rattle.std.specs.Result.{result_unwrap_or}
use Rattle.std.proofs.lemmas.Fmt.{IsAscii-decimal, parse-decimal}
use Rattle.std.proofs.lemmas.Str.{IsUtf8-from_ascii}
use Rattle.page_ops.proofs.parts.number.Goals as goal

pub returns-in_default : goal.returns-in_default
returns-in_default c = λ n fits e. absurd (c.in_default.ensures.cases.0 (rw e (IsUtf8-from_ascii _ (IsAscii-decimal n fits))))

pub returns : goal.returns
returns c = λ n fits e.
    let r = parse-decimal 64 n c.in-Ok.digits.now c.parse.result fits fits (c.in-Ok.ensures.cases.0 ∙ e) c.parse.ensures.value.0 in
    c.unwrap_or.ensures ∙ ap (λ z. result_unwrap_or z 0) r
