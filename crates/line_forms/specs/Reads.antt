-- What a reader answers.
use Rattle.std.specs.Prelude.{Option, Some, None, Result, Ok, Err}
use Rattle.sig_base.specs.declared.errors.NoMemory.{NoMemory}
use Rattle.line_forms.specs.declared.unread.Unread.{Unread}
use Rattle.line_forms.specs.declared.unread.Unread.TheVariants as unread

-- what was read is such, or that nothing was; nothing is said where memory was wanted
abbrev pub IfRead : {A : Type 0} → Result A Unread → (Option A → Type 0) → Type 0
IfRead (Ok x) P = P (Some x)
IfRead (Err unread.NotThere) P = P None
IfRead (Err (unread.NoMemory e)) P = Unit {0}

-- what was read, or that nothing was
abbrev pub optional : {A : Type 0} → Result A Unread → Result (Option A) NoMemory
optional (Ok x) = Ok (Some x)
optional (Err unread.NotThere) = Ok None
optional (Err (unread.NoMemory e)) = Err e
