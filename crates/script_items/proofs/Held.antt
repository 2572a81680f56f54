-- Blocks, by the lines that are held.
use Rattle.std.proofs.Common.{◌≡◌, ◌<◌, Bool, true, Some, List, [], ◌∷◌, ◌++◌, length, map, refl, sym, arith}
use Rattle.std.specs.List.{All}
use Rattle.std.proofs.lemmas.List.Elements.{All-pop, All-same}
use Rattle.script_lines.specs.declared.line.NumberedLine as held
use Rattle.script_lines.specs.Views.{line_of}
use Rattle.script_items.specs.declared.contents.Content.{Content}
use Rattle.script_items.specs.declared.contents.Head.{Head}
use Rattle.script_items.specs.declared.contents.Head.TheVariants as heads
use Rattle.live_cmd.specs.declared.command.Item.{Item}
use Rattle.script_items.specs.Blocks.{Block, Ends, IsContent, IsNoHead, block_item, is_head, said_head}
use Rattle.live_cmd.specs.Grammar.{Writes}
use Rattle.script_items.proofs.Ends.{parted_map}
use Rattle.script_items.proofs.Blocks.{no_block, too_few}

-- what holds of all holds of those before the last, and of the last
pub all_parted : {A : Type 0} (P : A → Type 0) (xs ys : List A) (y : A) → xs ≡ ys ++ y ∷ [] → All P xs → All P ys × P y
all_parted P xs ys y e h = All-pop P (ys ++ y ∷ []) ys (Some y) refl (All-same P (ys ++ y ∷ []) xs (sym e) h)

-- fewer than two lines are none
pub none_held : (ls : List held.NumberedLine) → length ls < 2 → Block (map line_of ls) → ⊥
none_held [] h b = too_few [] (omega arith) b
none_held (l ∷ []) h b = too_few (line_of l ∷ []) (omega arith) b
none_held (l ∷ m ∷ ls) h b = absurd (omega arith)

-- lines that are parted so, of which the first is no head, are none
pub no_head_held : (ls : List held.NumberedLine) (first last : held.NumberedLine) (inner : List held.NumberedLine) → ls ≡ first ∷ (inner ++ last ∷ [])
    → IsNoHead first.text.now → Block (map line_of ls) → ⊥
no_head_held ls first last inner e none b =
    no_block (map line_of ls) (line_of first) (line_of last) (map line_of inner) (parted_map line_of ls first inner last e) none b

-- the first line of a block begins one
begun : (h : Head) → is_head (said_head h).0 ≡ true
begun (heads.Effect n o) = refl
begun (heads.On t k e) = refl
begun (heads.Template n) = refl

-- lines of which the first is a head are a block, which is what was read of it
pub block_held : (ls : List held.NumberedLine) (first last : held.NumberedLine) (inner : List held.NumberedLine) (h : Head)
    (ends : Bool) (c : Content) (i : Item) → ls ≡ first ∷ (inner ++ last ∷ []) → Writes (said_head h) first.text.now
    → Ends ends last.text.now → IsContent (said_head h) (map line_of inner) c → i ≡ block_item ends last.number c
    → (b : Block (map line_of ls)) × (d : Content) × IsContent b.head b.inner d × (i ≡ block_item b.ends b.last.0 d)
block_held ls first last inner h ends c i e w v k is =
    let b : Block (map line_of ls) = record {
      first = line_of first;
      inner = map line_of inner;
      last = line_of last;
      whole = parted_map line_of ls first inner last e;
      head = said_head h;
      writes = w;
      begins = begun h;
      ends = ends;
      end = v;
    } in
    (b, c, k, is)
