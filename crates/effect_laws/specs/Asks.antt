-- How bodies ask.
use Rattle.std.specs.Prelude.{◌≡◌, ℕ, ◌<◌, true, List, length, slice_index, Option, Some, None}
use Rattle.sig_base.specs.declared.value.Known.{Known}
use Rattle.sig_base.specs.declared.value.Outcome.{Outcome}
use Rattle.sig_formula.specs.Trees.{Tree, has_slot}
use Rattle.effect_model.specs.Lines.{formula_of}
use Rattle.effect_model.specs.Bodies.{Statements, no_more, plain, when, effect, rewire, Body, body_step}
use Rattle.effect_model.specs.Bodies.{after_body_step, with_known, body_asked_from}

-- all slots of a formula are below a number
abbrev pub SlotsBelow : ℕ → Tree → Type 0
SlotsBelow n t = (s : ℕ) → has_slot s t ≡ true → s < n

-- so are those of a formula that may be there
abbrev pub IsFitFormula : ℕ → Option Tree → Type 0
IsFitFormula n None = Unit {0}
IsFitFormula n (Some f) = SlotsBelow n f

-- the slots of the formulas of a body are below a number; those of a nested effect are its own
abbrev pub AreFit : ℕ → Statements → Type 0
AreFit n no_more = Unit {0}
AreFit n (plain x rest) = IsFitFormula n (formula_of x) × AreFit n rest
AreFit n (when f inner rest) = SlotsBelow n f × AreFit n inner × AreFit n rest
AreFit n (effect inner names rest) = AreFit n rest
AreFit n (rewire m r rest) = AreFit n rest

-- a body whose slots have names is asked as far as its answers say, with no bound in sight
abbrev pub BodyLaw : Type 0
BodyLaw = (b : Body) (source : ℕ → Outcome) (ts us : List Known) → AreFit (length b.names) b.statements →
    body_asked_from b source ts us
    ≡ after_body_step (body_step b.statements ts us) (λ s. slice_index b.names s) source
    (λ s tracked v. with_known tracked s v (body_asked_from b source) ts us)
