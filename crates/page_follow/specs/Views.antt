-- The pages of the program as those of the definitions, and what a note makes of them.
use Rattle.std.specs.Prelude.{◌≡◌, ℕ, Bool, true, false, List, ◌++◌, Option, Some, None, map}
use Rattle.page_model.specs.Replay.{Answer, Done, Refused}
use Rattle.page_model.specs.Trees.{Brings}
use Rattle.wire_model.specs.Notes.{Note, op}
use Rattle.wire_model.specs.Following.{Mounted, Taken}
use Rattle.page_follow.specs.declared.page.MountedPage.{MountedPage}
use Rattle.page_follow.specs.declared.follower.FollowFault.{FollowFault}
use Rattle.page_follow.specs.declared.follower.FollowFault.TheVariants as fault

-- a page that is mounted
abbrev pub mounted_of : MountedPage → Mounted
mounted_of p = record { name = p.name; tree = p.tree }

abbrev pub pages_of : List MountedPage → List Mounted
pages_of ps = map mounted_of ps

-- what a note's operation brings are nodes
abbrev pub IsDoable : Note → Type 0
IsDoable (op n o) = Brings o
IsDoable _ = Unit {0}

-- a note is taken: these are the pages then, and that is printed
abbrev pub Takes : Option Taken → List Mounted → List ℕ → List ℕ → Type 0
Takes None now before after = ⊥
Takes (Some t) now before after = (now ≡ t.pages) × (after ≡ before ++ t.out)

-- a note isn't taken: it is refused, and all is as before; want of memory is a cause of its own
abbrev pub Fails : FollowFault → Option Taken → List Mounted → List Mounted → List ℕ → List ℕ → Type 0
Fails fault.Refused taken old new before after = (taken ≡ None) × (new ≡ old) × (after ≡ before)
Fails fault.NoMemory taken old new before after = Unit {0}

-- an operation that isn't done
abbrev pub is_refused : Answer → Bool
is_refused (Done t) = false
is_refused (Refused why) = true

-- why it isn't: it is refused; want of memory is a cause of its own
abbrev pub IsCause : FollowFault → Answer → Type 0
IsCause fault.Refused answer = is_refused answer ≡ true
IsCause fault.NoMemory answer = Unit {0}
