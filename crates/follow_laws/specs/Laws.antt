-- What a follower makes of what a script tells.
use Rattle.std.specs.Prelude.{◌≡◌, ℕ, false, List, []}
use Rattle.std.specs.List.{AllByRecursion}
use Rattle.sig_host.specs.Loans.{LendsRows}
use Rattle.effect_model.specs.Worlds.{Environment}
use Rattle.script_items.specs.Items.{ItemsFrom}
use Rattle.live_cmd.specs.declared.command.Item.{Item}
use Rattle.live_entries.specs.Printed.{IsSizedEntry}
use Rattle.live_model.specs.Machine.{empty}
use Rattle.live_model.specs.Output.{entries_from}
use Rattle.page_laws.specs.LivePages.{IsLive}
use Rattle.wire_model.specs.Notes.{Note}
use Rattle.wire_model.specs.Following.{Mounted, follow}
use Rattle.wire_model.specs.Wired.{page_lines, wired}
use Rattle.follow_laws.specs.ToldPages.{AllSilent, AllTell}

-- no note is refused, and these lines are printed
pub record IsFollowed (notes : List Note) (pages : List Mounted) (lines : List ℕ) : Type 0 where
  pub fine : (follow notes pages).refused ≡ false
  pub printed : (follow notes pages).out ≡ lines

-- The step from one item to all: where each item leaves the pages live, and tells of them what it ought to, a follower of all that is told
-- refuses nothing, and prints the page lines and no others.
abbrev pub LiftingLaw : Type 0
LiftingLaw = (env : Environment) (hosts : ℕ) (items : List Item) → IsLive env (empty hosts) items → AllTell env (empty hosts) items →
    IsFollowed (wired (entries_from env (empty hosts) items)) [] (page_lines (entries_from env (empty hosts) items))

-- Whatever items there are, they tell of pages what they ought to, where they tell of no page that lives that it is gone.
abbrev pub TellingLaw : Type 0
TellingLaw = (env : Environment) (hosts : ℕ) (items : List Item) → AllSilent env (empty hosts) items → AllTell env (empty hosts) items

-- Whatever items there are, of no page that lives they tell that it is gone.
abbrev pub SilenceLaw : Type 0
SilenceLaw = (env : Environment) (hosts : ℕ) (items : List Item) → AllSilent env (empty hosts) items

-- Where items are those of a script, a follower refuses nothing of what they tell and prints their page lines.
abbrev pub FollowLaw : Type 0
FollowLaw = (env : Environment) (hosts : ℕ) (script : List ℕ) (items : List Item) → LendsRows env.hosts → ItemsFrom 1 script items →
    AllByRecursion IsSizedEntry (entries_from env (empty hosts) items) →
    IsFollowed (wired (entries_from env (empty hosts) items)) [] (page_lines (entries_from env (empty hosts) items))
