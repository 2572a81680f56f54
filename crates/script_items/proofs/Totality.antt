-- Each piece of a script is some item.
use Rattle.std.proofs.Common.{ℕ, List, [], ◌∷◌, inl, inr}
use Rattle.std.proofs.lemmas.Bool.{cases_Bool}
use Rattle.script_lines.specs.Pieces.{Piece, pieces_of}
use Rattle.live_cmd.specs.declared.command.Item.{Item}
use Rattle.live_cmd.specs.declared.command.Item.TheVariants as item
use Rattle.live_entries.specs.declared.refusal.LimitWord.TheVariants as limit
use Rattle.live_entries.specs.declared.refusal.Refusal.TheVariants as refusal
use Rattle.script_items.specs.Blocks.{block_item}
use Rattle.script_items.specs.Items.{IsItem, long, unended, block, faulty, says, any_long, first_line, item_of, AreItems, ItemsFrom}
use Rattle.live_cmd.specs.Grammar.{is_alone}
use Rattle.script_items.proofs.Blocks.{block_or_none}
use Rattle.live_cmd.proofs.Shared.{such_or_none}

-- each piece is some item
pub some_item : (p : Piece) → (i : Item) × IsItem p i
some_item p = let line = first_line p.lines in elim (cases_Bool (any_long p.lines)) [
  | inl a ↦ (item.Refused (refusal.Limit limit.Line), long a)
  | inr a ↦ elim (cases_Bool p.ended) [
    | inr e ↦ (item.Refused (refusal.Syntax line.0), unended a e)
    | inl e ↦ elim (block_or_none p.lines) [
      | inl b ↦ (block_item b.0.ends b.0.last.0 b.1, block b.0 b.1 a e b.2)
      | inr none ↦ elim (such_or_none is_alone line.1) [
        | inl x ↦ (item_of line.0 x.0, says x.0 a e x.1 x.2)
        | inr other ↦ (item.Refused (refusal.Syntax line.0), faulty a e none other)
      ]
    ]
  ]
]

some_items_of : (ps : List Piece) → (is : List Item) × AreItems ps is
some_items_of [] = ([], tt)
some_items_of (p ∷ ps) = let i = some_item p in let rest = some_items_of ps in (i.0 ∷ rest.0, (i.1, rest.1))

-- each script has items
pub some_items : (n : ℕ) (script : List ℕ) → (is : List Item) × ItemsFrom n script is
some_items n script = some_items_of (pieces_of n script)
