-- What a formula can be refused for, and what is known of one that isn't.
use Rattle.std.proofs.Common.{◌≡◌, ◌≤◌, Bool, true, false, cond, length, Option, Some, None, refl, arith}
use Rattle.std.specs.Prelude.{nat_lt, not, ◌&&◌}
use Rattle.std.specs.Option.{option_or}
use Rattle.std.proofs.lemmas.Bool.Decides.{nat_tests}
use Rattle.formula_text.specs.declared.wired.Allow.{Allow}
use Rattle.formula_text.specs.declared.wired.FormulaFault.{FormulaFault}
use Rattle.formula_text.specs.declared.wired.FormulaFault.TheVariants as fault
use Rattle.formula_text.specs.Grammar.{Draft}
use Rattle.formula_text.specs.Refusals.{has_long_text, has_untrack, is_above, names, needs_row}
use Rattle.formula_text.specs.Slots.{refusal}

-- where none of two is found, the first isn't, nor is the second
pub neither : {A : Type 0} (o p : Option A) → option_or o p ≡ None → (o ≡ None) × (p ≡ None)
neither None p e = (refl, e)
neither (Some x) p e = absurd cc

-- what is chosen by a test isn't there
pub not_chosen : {A : Type 0} (b : Bool) (x : A) (o : Option A) → cond b (Some x) o ≡ None → (b ≡ false) × (o ≡ None)
not_chosen true x o e = absurd cc
not_chosen false x o e = (refl, e)

-- what a formula can be refused for
pub data IsRefusal : Option FormulaFault → Type 0 where
  nothing : IsRefusal None
  untracked : IsRefusal (Some fault.UntrackHere)
  row_here : IsRefusal (Some fault.ItHere)
  nest : IsRefusal (Some fault.Nest)
  long : IsRefusal (Some fault.TextLong)
  sources : IsRefusal (Some fault.Sources)

-- one of two refusals
pub either : (b : Bool) (x y : Option FormulaFault) → IsRefusal x → IsRefusal y → IsRefusal (cond b x y)
either true x y p q = p
either false x y p q = q

-- what a formula is refused for is one of them
pub formula_refusal : (allow : Allow) (x : Draft) → IsRefusal (refusal allow x)
formula_refusal allow x = either _ _ _ untracked (either _ _ _ row_here (either _ _ _ nest (either _ _ _ long (either _ _ _ sources nothing))))

-- the last of the tests of a formula that isn't refused
last_test : (a b d e f : Bool) (v w x y z : FormulaFault)
    → cond a (Some v) (cond b (Some w) (cond d (Some x) (cond e (Some y) (cond f (Some z) None)))) ≡ None → f ≡ false
last_test true b d e f v w x y z h = absurd cc
last_test false true d e f v w x y z h = absurd cc
last_test false false true e f v w x y z h = absurd cc
last_test false false false true f v w x y z h = absurd cc
last_test false false false false true v w x y z h = absurd cc
last_test false false false false false v w x y z h = refl

-- a formula that isn't refused has few names
pub few_names : (allow : Allow) (x : Draft) → refusal allow x ≡ None → length (names x) ≤ 64
few_names allow x e =
    let last : nat_lt 64 (length (names x)) ≡ false =
    last_test (has_untrack x && not allow.untrack) (needs_row x && not allow.row) (is_above 64 x) (has_long_text x) (nat_lt 64 (length (names x)))
    fault.UntrackHere fault.ItHere fault.Nest fault.TextLong fault.Sources e in
    grind (arith, nat_tests)
