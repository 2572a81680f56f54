-- Why a formula that was read is refused.
use Rattle.std.proofs.Common.{◌≡◌, ℕ, Bool, true, false, cond, List, length, Option, Some, None, refl}
use Rattle.std.specs.Prelude.{◌&&◌, not, nat_lt}
use Rattle.sig_base.specs.declared.limits.TheConstants.{MOST_HEIGHT, MOST_SOURCES}
use Rattle.sig_words.specs.declared.token.Token.{Token}
use Rattle.formula_text.specs.declared.rough.Rough.{Rough}
use Rattle.formula_text.specs.declared.wired.Allow.{Allow}
use Rattle.formula_text.specs.declared.wired.FormulaFault.{FormulaFault}
use Rattle.formula_text.specs.declared.wired.FormulaFault.TheVariants as fault
use Rattle.formula_text.specs.Grammar.{Draft}
use Rattle.formula_text.specs.Refusals.{has_untrack, needs_row, is_above, has_long_text, names}
use Rattle.formula_text.specs.Rough.{draft}
use Rattle.formula_text.specs.Slots.{refusal, IsCause, IsRead, Refuses}

-- whether it isn't what is answered where nothing was read
abbrev is_judged : Option FormulaFault → Bool
is_judged (Some fault.Syntax) = false
is_judged _ = true

either : (b : Bool) (o p : Option FormulaFault) → is_judged o ≡ true → is_judged p ≡ true → is_judged (cond b o p) ≡ true
either true o p f g = f
either false o p f g = g

refusal_judged : (allow : Allow) (x : Draft) → is_judged (refusal allow x) ≡ true
refusal_judged allow x =
    either (has_untrack x && not allow.untrack) _ _ refl
    (either (needs_row x && not allow.row) _ _ refl
    (either (is_above MOST_HEIGHT x) _ _ refl
    (either (has_long_text x) _ _ refl (either (nat_lt MOST_SOURCES (length (names x))) (Some fault.Sources) None refl refl))))

-- what was read is refused for other causes than what wasn't
no_syntax : (allow : Allow) (x : Draft) → refusal allow x ≡ Some fault.Syntax → ⊥
no_syntax allow x h = let e = rw h at (refusal_judged allow x) in cc

-- the cause of the wiring is that of the reading
pub refuses : (line : List ℕ) (ts : List Token) (from to : ℕ) (rough : Rough) (allow : Allow) (why : FormulaFault) → IsRead line ts from to rough
    → IsCause allow (draft line ts rough) why → Refuses line ts from allow why
refuses line ts from to rough allow fault.Syntax read h = absurd (no_syntax allow (draft line ts rough) h)
refuses line ts from to rough allow (fault.NoMemory e) read h = tt
refuses line ts from to rough allow _ read h = record { formula = draft line ts rough; to = to; reads = read.reads; cause = h }
