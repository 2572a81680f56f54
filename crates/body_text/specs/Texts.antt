-- What the program holds of a body while it writes it.
use Rattle.std.specs.Prelude.{ℕ, List, [], ◌++◌, map, unwrap_or, slice_get, Option, Some, None}
use Rattle.formula_text.specs.Canonical.{unslotted}
use Rattle.sig_untrack.specs.Stated as stated
use Rattle.sig_untrack.specs.Stated.{Stated, Rewiring, rewiring}
use Rattle.body_text.specs.declared.line.Line.TheVariants as line
use Rattle.body_text.specs.declared.writer.HeldParts.{HeldParts}
use Rattle.body_text.specs.Statements.{Statement}
use Rattle.body_text.specs.Grammar.{said_of}
use Rattle.body_text.specs.Printer.{ended_line, named_line, rewire_line}

-- what the places of a body stand for, nested effects as their texts
pub record TextParts : Type 0 where
  pub targets : List (List ℕ)
  pub names : List (List ℕ)
  pub texts : List (List ℕ)
  pub rewires : List Rewiring

-- the parts that the program holds
abbrev pub held_parts : HeldParts → TextParts
held_parts h = record { targets = h.targets.now; names = h.names.now; texts = map (λ v. v.items) h.texts.now; rewires = map rewiring h.rewires.now }

-- the text of a statement of one line
abbrev pub plain_text : Statement → List ℕ
plain_text a = ended_line (said_of (line.Plain a))

-- the line that ends a block
abbrev pub end_line : List ℕ
end_line = ended_line (said_of line.End)

-- the text at a place, nothing where none is there
abbrev pub text_at : List (List ℕ) → ℕ → List ℕ
text_at ts n = unwrap_or (slice_get ts n) []

-- the text of a rewiring that may be there
abbrev pub rewire_text : List (List ℕ) → Option Rewiring → List ℕ
rewire_text ts None = []
rewire_text ts (Some r) = ended_line (said_of (rewire_line ts r))

-- the text of statements with these parts
abbrev pub parts_text : TextParts → Stated → List ℕ
parts_text b stated.no_more = []
parts_text b (stated.plain a rest) = plain_text (named_line b.targets b.names a) ++ parts_text b rest
parts_text b (stated.when x inner rest) =
    ended_line (said_of (line.When (unslotted b.names x))) ++ (parts_text b inner ++ (end_line ++ parts_text b rest))
parts_text b (stated.effect n rest) = ended_line (said_of line.Effect) ++ (text_at b.texts n ++ (end_line ++ parts_text b rest))
parts_text b (stated.rewire n rest) = rewire_text b.targets (slice_get b.rewires n) ++ parts_text b rest
