-- What the pages of a script show, and where the operations lead that are told of them.
use Rattle.std.specs.Prelude.{◌≡◌, ℕ, false, List, [], ◌∷◌, None, map, flat_map, if◌then◌else◌}
use Rattle.std.specs.List.{AllByRecursion}
use Rattle.std.specs.Str.{bytes_eq}
use Rattle.sig_host.specs.Loans.{LendsRows}
use Rattle.effect_model.specs.Runs.{flush}
use Rattle.effect_model.specs.Worlds.{Environment}
use Rattle.page_model.specs.Forest.{Forest}
use Rattle.page_model.specs.Labels.{Kind}
use Rattle.page_model.specs.Pages.{bare, tree_of}
use Rattle.page_model.specs.Replay as replay
use Rattle.page_model.specs.Replay.{Op, replay}
use Rattle.page_model.specs.Texts.{op_text}
use Rattle.page_ops.specs.Ops.{HasText}
use Rattle.script_items.specs.Items.{ItemsFrom}
use Rattle.live_cmd.specs.declared.command.Bare.TheVariants as bares
use Rattle.live_cmd.specs.declared.command.Command.TheVariants as command
use Rattle.live_cmd.specs.declared.command.Item.{Item}
use Rattle.live_cmd.specs.declared.command.Item.TheVariants as item
use Rattle.live_entries.specs.declared.entry.Entry.{Entry}
use Rattle.live_entries.specs.declared.entry.Entry.TheVariants as entry
use Rattle.live_entries.specs.Printed.{IsSizedEntry}
use Rattle.live_model.specs.Laws.{ShowsScratch}
use Rattle.live_model.specs.Machine.{Machine, empty, step}
use Rattle.live_model.specs.Output.{entries_from}
use Rattle.live_model.specs.Pages.{Page}

-- ---- operations of a page

-- the operation that an entry tells of the page of a name, if it tells one
abbrev pub op_here : List ℕ → Entry → List Op
op_here n (entry.Op m o) = if bytes_eq n m then o ∷ [] else []
op_here n e = []

-- all that entries tell of it, in order
abbrev pub ops_of : List ℕ → List Entry → List Op
ops_of n es = flat_map (op_here n) es

-- the tree of the page of a name as it was brought up to date last; where none lives, that of the bare page
abbrev pub tree_named : List Page → List ℕ → Forest Kind
tree_named [] n = tree_of bare
tree_named (p ∷ ps) n = if bytes_eq n p.name then tree_of p.content else tree_named ps n

-- these texts are those of these operations, one by one
abbrev pub Spell : List (List ℕ) → List Op → Type 0
Spell [] [] = Unit {0}
Spell (t ∷ ts) (o ∷ os) = HasText o × (op_text o ≡ t) × Spell ts os
Spell _ _ = ⊥

-- Operations lead from one tree to another: replayed one after the other on the one they give the other, and none is refused. Their texts
-- are read as these operations and as no others.
pub record Lead (ops : List Op) (before after : Forest Kind) : Type 0 where
  pub replayed : replay ops before ≡ replay.Done after
  pub spelt : Spell (map op_text ops) ops
  pub alone : (others : List Op) → Spell (map op_text ops) others → others ≡ ops

-- ---- live pages

-- the item is a flush, and it isn't refused: no batch is open, and its turns aren't
abbrev pub IsFlush : Environment → Machine → Item → Type 0
IsFlush env m i = (i ≡ item.Do (command.Bare bares.Flush)) × (m.batch ≡ None) × ((flush env m.world).refused ≡ false)

-- after a flush that isn't refused each page that lives is, byte for byte, its template evaluated from scratch on the signals as they are now
abbrev pub IsShown : Environment → Machine → Item → Type 0
IsShown env m i = IsFlush env m i → AllByRecursion (ShowsScratch env (step env m i).machine) (step env m i).machine.pages

-- so it is with each item, from a machine on
abbrev pub AreShown : Environment → Machine → List Item → Type 0
AreShown env m [] = Unit {0}
AreShown env m (i ∷ is) = IsShown env m i × AreShown env (step env m i).machine is

-- What an item leaves of the pages that live: after a flush that isn't refused each is its template from scratch, and the operations that the
-- item tells of it lead from the page before to the page after.
pub record KeepsLive (env : Environment) (m : Machine) (i : Item) : Type 0 where
  pub shown : IsShown env m i
  pub led : AllByRecursion (λ (p : Page). Lead (ops_of p.name (step env m i).entries) (tree_named m.pages p.name) (tree_of p.content))
      (step env m i).machine.pages

-- so it is with each item, from a machine on
abbrev pub IsLive : Environment → Machine → List Item → Type 0
IsLive env m [] = Unit {0}
IsLive env m (i ∷ is) = KeepsLive env m i × IsLive env (step env m i).machine is

-- ---- laws

-- after each flush of a script that isn't refused each page is its template from scratch, whatever host formulas answer
abbrev pub ShownLaw : Type 0
ShownLaw = (env : Environment) (m : Machine) (items : List Item) → AreShown env m items

-- Whatever a script says, its pages are live from its first item to its last, where host formulas make rows of no others, and where the numbers
-- and texts of the operations that are told are such as can be printed and read.
abbrev pub LiveLaw : Type 0
LiveLaw = (env : Environment) (hosts : ℕ) (script : List ℕ) (items : List Item) → LendsRows env.hosts → ItemsFrom 1 script items →
    AllByRecursion IsSizedEntry (entries_from env (empty hosts) items) → IsLive env (empty hosts) items
