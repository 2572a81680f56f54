-- Formulas that nothing is wrong with.
use Rattle.std.proofs.Common.{◌≡◌, length, None, sym, ap, ◌∙◌, arith}
use Rattle.formula_text.specs.declared.wired.Allow.{Allow}
use Rattle.formula_text.specs.Grammar.{Draft}
use Rattle.formula_text.specs.Refusals.{names}
use Rattle.formula_text.specs.Slots.{Wiring, refusal, wired}
use Rattle.formula_text.proofs.Shared.{few_names, named_back}
use Rattle.body_text.specs.Formulas.{IsOwn, unwired}

-- its names stand for its slots
pub names_again : (w : Wiring) (x : Draft) → w ≡ wired x → unwired w ≡ x
names_again w x e = ap unwired e ∙ named_back x

-- its slots are its own names, which are few
pub is_own : (allow : Allow) (w : Wiring) (x : Draft) → w ≡ wired x → refusal allow x ≡ None → IsOwn w
is_own allow w x e none =
    let count : length w.1 ≡ length (names x) = ap (λ (v : Wiring). length v.1) e in
    let few = few_names allow x none in
    (e ∙ ap wired (sym (names_again w x e)), omega arith)
