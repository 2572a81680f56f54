use Rattle.std.proofs.Common.{◌≡◌, ◌<◌, ◌+◌, ◌∙◌, ◌∷◌, ◌++◌, [], ℕ, List, drop, get_or, sym, ap, append_assoc, arith}
use Rattle.std.specs.Fmt.{decimal}
use Rattle.std.proofs.lemmas.Fmt.{decimal_digit}
use Rattle.std.proofs.lemmas.List.{drop_more}
use Rattle.script_items.proofs.Naturals.{one_more}
use Rattle.script_items.proofs.short.natural.Goals as goal

pub loop-digit-init : goal.loop-digit-init
loop-digit-init c =
    let from = c.from-number.ensures in
    let low = c.if-first-lt49.false in
    let high = c.if-first-gt57.false in
    let n = c.from-number.result in
    let digits = c.in-Some.digits.now in
    let same : 48 + n ≡ c.in-Some.first.now = omega (arith, from, low, high) in
    let few : n < 10 = omega (arith, from, low, high) in
    record {
      some = omega (arith, from, low, high);
      few = omega (arith, few);
      is = c.in-Some.ensures.cases.0 ∙ ap (λ (b : ℕ). b ∷ digits) (sym same) ∙ ap (λ (bs : List ℕ). bs ++ digits) (sym (decimal_digit n few));
    }

pub loop-digit-preserved : goal.loop-digit-preserved
loop-digit-preserved c =
    let from = c.from.ensures in
    let low = c.if-digit-lt48.false in
    let high = c.if-digit-gt57.false in
    let long = c.if-number-ge-LONG.false in
    let v = c.loop-digit.invariant in
    let n = c.loop-digit.number in
    let d = c.from.result in
    let digits = c.in-Some.digits.now in
    let k = c.loop-digit.digit-index in
    let rest = drop (k + 1) digits in
    let same : 48 + d ≡ get_or digits k 0 = omega (arith, from, low, high) in
    let few : d < 10 = omega (arith, from, low, high) in
    let some = v.some in
    record {
      some = omega (arith, some);
      few = omega (arith, long, few);
      is = v.is
          ∙ ap (λ (bs : List ℕ). decimal n ++ bs) (drop_more digits k 0 c.loop-digit-test.true ∙ ap (λ (b : ℕ). b ∷ rest) (sym same))
          ∙ sym (append_assoc (decimal n) ((48 + d) ∷ []) rest)
          ∙ ap (λ (bs : List ℕ). bs ++ rest) (sym (one_more n d some few (omega (arith, long, few))));
    }
