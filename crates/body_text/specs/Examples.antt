-- Lines in the body of an effect and in that of a handler, by computing where they may stand and what they are refused for.
use Rattle.std.specs.Prelude.{◌≡◌, ℕ, false, true, List, [], ◌∷◌, Ok, Err, codes}
use Rattle.std.proofs.Common.{refl}
use Rattle.formula_text.specs.declared.rough.Around.TheVariants as form
use Rattle.formula_text.specs.Grammar.{Draft, leaf, of_row, one_part}
use Rattle.formula_text.specs.Refusals.{is_above}
use Rattle.formula_text.specs.Signs.{name}
use Rattle.body_text.specs.declared.fault.BodyWhy.TheVariants as why
use Rattle.body_text.specs.Allowances.{effects, handlers}
use Rattle.body_text.specs.Grammar.{Said, set, log, guard, cleanup_log, effect, dispose, rewire, close}
use Rattle.body_text.specs.Refusals.{fault_at}
use Rattle.body_text.specs.Places.{places}
use Rattle.body_text.specs.Verdicts.{answer_of}
use Rattle.body_text.specs.Statements.{Statements, body_of}

-- ---- lines

-- a signal that is read
abbrev pub read : Draft
read = leaf (name (codes "a"))

-- the signal, read without tracking
abbrev pub untracked : Draft
untracked = one_part form.Untrack read

-- a field of a row
abbrev pub field : Draft
field = of_row (codes "x")

-- `log` of a formula
abbrev pub logs : Draft → Said
logs f = (log, (f, tt))

-- ---- where statements may stand

-- a `cleanup` may stand in an effect
pub effect_has_cleanups : (n : ℕ) (f : Draft) → (places effects).fits n (cleanup_log, (f, tt)) ≡ true
effect_has_cleanups n f = refl

-- in a handler it may not
pub handler_has_no_cleanup : (n : ℕ) (f : Draft) → (places handlers).fits n (cleanup_log, (f, tt)) ≡ false
handler_has_no_cleanup n f = refl

-- nor may what disposes stand there
pub handler_disposes_nothing : (n : ℕ) (t : List ℕ) → (places handlers).fits n (dispose, (t, tt)) ≡ false
handler_disposes_nothing n t = refl

-- nor may what rewires
pub handler_rewires_nothing : (n : ℕ) (t : List ℕ) (f : Draft) → (places handlers).fits n (rewire, (t, (f, tt))) ≡ false
handler_rewires_nothing n t f = refl

-- nor may what makes an effect
pub handler_makes_no_effect : (n : ℕ) → (places handlers).fits n (effect, tt) ≡ false
handler_makes_no_effect n = refl

-- a handler sets
pub handler_sets : (n : ℕ) (t : List ℕ) (f : Draft) → (places handlers).fits n (set, (t, (f, tt))) ≡ true
handler_sets n t f = refl

-- a handler logs
pub handler_logs : (n : ℕ) (f : Draft) → (places handlers).fits n (logs f) ≡ true
handler_logs n f = refl

-- the `end` of a guard may stand in it
pub handler_guards : (f : Draft) → (places handlers).fits ((places handlers).moved 0 (guard, (f, tt))) (close, tt) ≡ true
handler_guards f = refl

-- ---- what lines are refused for

-- an effect reads without tracking
pub effect_reads_untracked : (s : Statements) → answer_of effects ((3, logs untracked) ∷ []) s ≡ Ok (body_of s)
unfolding is_above
effect_reads_untracked s = refl

-- a handler is refused for that, at its line
pub handler_reads_tracked : (s : Statements) → answer_of handlers ((2, logs read) ∷ (3, logs untracked) ∷ []) s ≡ Err (fault_at 3 why.UntrackHere)
unfolding is_above
handler_reads_tracked s = refl

-- an effect has no row
pub effect_has_no_row : (s : Statements) → answer_of effects ((2, logs read) ∷ (3, logs field) ∷ []) s ≡ Err (fault_at 3 why.ItHere)
unfolding is_above
effect_has_no_row s = refl

-- nor has a handler
pub handler_has_no_row : (s : Statements) → answer_of handlers ((2, logs read) ∷ (3, logs field) ∷ []) s ≡ Err (fault_at 3 why.ItHere)
unfolding is_above
handler_has_no_row s = refl
