-- Worked examples: behind which bytes a script may be cut, each proved by computing the definitions.
use Rattle.std.specs.Prelude.{◌≡◌, ℕ, true, false, [], codes}
use Rattle.std.proofs.Common.{arith, refl}
use Rattle.script_lines.specs.Lines.{is_passed, kept_lines, lines, numbered}
use Rattle.script_lines.specs.Pieces.{begins_block, closes, opens, pieces}
use Rattle.live_laws.specs.Cuts.{IsWhole}

-- nothing at all
pub nothing : IsWhole []
unfolding lines numbered kept_lines pieces
nothing = record { line = tt; blocks = tt }

-- a line, a comment, and a block with its end
pub ended_block : IsWhole (codes "flush\n# so\ntemplate t\ntext a\nend\n")
unfolding lines numbered is_passed kept_lines begins_block opens closes pieces
ended_block = record { line = refl; blocks = (refl, (refl, tt)) }

-- not behind a block without its end
pub open_block : IsWhole (codes "template t\ntext a\n") → ⊥
unfolding lines numbered is_passed kept_lines begins_block opens closes pieces
open_block w = let h : false ≡ true = w.blocks.0 in absurd cc

-- an `h` is no LF
no_feed : (b : ℕ) → b ≡ 104 → b ≡ 10 → ⊥
no_feed b is feed = omega arith

-- nor behind a line without its LF, which ends with `h`
pub open_line : IsWhole (codes "flush") → ⊥
open_line w = no_feed 104 refl w.line
