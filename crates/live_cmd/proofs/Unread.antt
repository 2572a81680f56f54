-- A line that isn't read.
use Rattle.std.proofs.Common.{◌≡◌, Option, option_map, ◌∙◌}
use Rattle.std.specs.Prelude.{Err}
use Rattle.std.specs.Global.{Box}
use Rattle.line_forms.specs.declared.unread.Unread.{Unread}
use Rattle.line_forms.specs.declared.unread.Unread.TheVariants as unread
use Rattle.line_forms.specs.Reads.{IfRead}
use Rattle.live_cmd.specs.declared.line.Found.{Found}

-- nothing is found in it, or memory was wanted
pub unread_line : (e : Unread) (x y : Option Found) → x ≡ y → IfRead {A = Found} (Err e) (λ found. found ≡ x)
    → IfRead {A = Box Found} (Err e) (λ held. option_map (λ b. b.value) held ≡ y)
unread_line unread.NotThere x y h i = i ∙ h
unread_line (unread.NoMemory n) x y h i = tt
