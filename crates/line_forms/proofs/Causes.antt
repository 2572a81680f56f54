-- Why nothing was read.
use Rattle.std.proofs.Common.{◌≡◌, ◌⊎◌, inl, inr, refl}
use Rattle.sig_base.specs.declared.errors.NoMemory.{NoMemory}
use Rattle.line_forms.specs.declared.unread.Unread.{Unread}
use Rattle.line_forms.specs.declared.unread.Unread.TheVariants as unread

-- it wasn't there, or memory was wanted
pub either : (e : Unread) → (e ≡ unread.NotThere) ⊎ ((n : NoMemory) × (e ≡ unread.NoMemory n))
either unread.NotThere = inl refl
either (unread.NoMemory n) = inr (n, refl)
