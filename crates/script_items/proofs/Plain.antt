-- A line that begins no block: a command of one line, or refused.
use Rattle.std.proofs.Common.{◌≡◌, ℕ, true, false, List, Option, Some, None, refl, sym, ap, ◌∙◌, inl}
use Rattle.std.specs.Option.{option_map_or}
use Rattle.formula_text.specs.declared.wired.FormulaFault.{FormulaFault}
use Rattle.line_forms.specs.Told.{unless_faulty}
use Rattle.script_lines.specs.Lines.{NumberedLine}
use Rattle.live_cmd.specs.declared.command.Item.{Item}
use Rattle.live_cmd.specs.declared.command.Item.TheVariants as item
use Rattle.live_cmd.specs.declared.line.Found.{Found}
use Rattle.live_cmd.specs.declared.line.Line.{Line}
use Rattle.live_cmd.specs.Grammar.{Said, Writes, said_line, is_alone}
use Rattle.live_cmd.specs.Refusals.{fault_of, refused_for}
use Rattle.script_items.specs.Items.{command_of, item_of, item_or, IsNoCommand}
use Rattle.live_cmd.specs.Views.{found_of}
use Rattle.script_items.specs.Views.{item_read, IsPlain}
use Rattle.live_cmd.proofs.Shared.{none_such}

-- what was found in a line
abbrev pub IsFound : List ℕ → Found → Type 0
IsFound bytes f = (x : Said) × Writes x bytes × (f ≡ found_of x)

-- so it is with a command by itself
abbrev pub IsAlone : List ℕ → Found → Type 0
IsAlone bytes f = (x : Said) × Writes x bytes × (is_alone x ≡ true) × (f ≡ found_of x)

-- what was found says whether the line is one
pub found_alone : (bytes : List ℕ) (f : Found) → f.alone ≡ true → IsFound bytes f → IsAlone bytes f
found_alone bytes f h w = (w.0, w.1, sym (ap (λ (g : Found). g.alone) w.2) ∙ h, w.2)

pub found_other : (bytes : List ℕ) (f : Found) → f.alone ≡ false → IsFound bytes f → IsNoCommand bytes
found_other bytes f h w = none_such is_alone bytes w.0 w.1 (sym (ap (λ (g : Found). g.alone) w.2) ∙ h)

read_same : (k : ℕ) (l : Line) (o : Option FormulaFault)
    → item_read k (unless_faulty o l) ≡ option_map_or (λ f. item.Refused (refused_for k f)) o (item_or k (command_of l))
read_same k l None = refl
read_same k l (Some f) = refl

-- what was read of a command of one line is what the line is
pub plain_alone : (l : NumberedLine) (f : Found) (i : Item) → IsAlone l.1 f → i ≡ item_read l.0 f.line → IsPlain l i
plain_alone l f i h is =
    let same : i ≡ item_of l.0 h.0 = is ∙ ap (λ (g : Found). item_read l.0 g.line) h.3 ∙ read_same l.0 (said_line h.0) (fault_of h.0) in
    inl (h.0, h.1, h.2, same)
