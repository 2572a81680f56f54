-- What scripts say most, read at once.
use Rattle.std.specs.Prelude.{◌≡◌, ◌+◌, ◌++◌, ◌∷◌, ℕ, List, codes, true, false, length}
use Rattle.std.specs.Fmt.{signed_decimal}
use Rattle.std.specs.Int.{w64}
use Rattle.std.specs.Int.RustNames.{FitsSigned}
use Rattle.sig_base.specs.declared.scalar.Scalar.{Scalar}
use Rattle.sig_base.specs.declared.scalar.Scalar.TheVariants as scalar
use Rattle.script_lines.specs.Lines.{kept_lines}
use Rattle.script_lines.specs.Pieces.{begins_block}
use Rattle.live_cmd.specs.declared.command.Bare.TheVariants as bare
use Rattle.live_cmd.specs.declared.command.Command.TheVariants as command
use Rattle.live_cmd.specs.declared.command.Item.{Item}
use Rattle.live_cmd.specs.declared.command.Item.TheVariants as item
use Rattle.live_cmd.specs.declared.command.Verb.TheVariants as verb
use Rattle.script_items.specs.declared.quick.Brief.{Brief}
use Rattle.script_items.specs.declared.quick.Brief.TheVariants as brief
use Rattle.script_items.specs.Views.{IsPlain}

-- the item that it is
abbrev pub brief_item : Brief → Item
brief_item (brief.Get n) = item.Do (command.Named verb.Get n)
brief_item (brief.Set n v) = item.Do (command.Set n v)
brief_item brief.Flush = item.Do (command.Bare bare.Flush)

-- bytes are a whole number or a truth, as it is printed
abbrev pub IsShort : Scalar → List ℕ → Type 0
IsShort (scalar.Int z) bytes = FitsSigned w64 z × (bytes ≡ signed_decimal z)
IsShort (scalar.Bool true) bytes = bytes ≡ codes "true"
IsShort (scalar.Bool false) bytes = bytes ≡ codes "false"
IsShort (scalar.Text t) bytes = ⊥

-- Bytes are one line where an LF comes behind them, which isn't passed over and begins no block, and it says this.
pub record IsWholeLine (line : List ℕ) (i : Item) : Type 0 where
  pub kept : (n : ℕ) (rest : List ℕ) → kept_lines n (line ++ 10 ∷ rest) ≡ (n, line) ∷ kept_lines (n + 1) rest
  pub alone : begins_block line ≡ false
  pub plain : (n : ℕ) → IsPlain (n, line) i

-- bytes begin with a line that says this, and behind its LF stand so many
pub record IsFront (bytes : List ℕ) (b : Brief) (left : ℕ) : Type 0 where
  pub line : List ℕ
  pub rest : List ℕ
  pub is : bytes ≡ line ++ 10 ∷ rest
  pub count : left ≡ length rest
  pub says : IsWholeLine line (brief_item b)
