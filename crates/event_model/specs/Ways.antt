-- The way of an event from a node of a page up to a child of the root, and the lines of the nodes on it.
use Rattle.std.specs.Prelude.{ℕ, zero, suc, ◌==◌, ◌/◌, ◌%◌, List, [], ◌∷◌, if◌then◌else◌}
use Rattle.page_model.specs.Forest.{Forest, none, node, label_in, parent}
use Rattle.page_model.specs.Labels.{Kind, Look}
use Rattle.page_model.specs.Pages.{NumberedPage}
use Rattle.page_model.specs.Replay.{below_root}

-- ---- the way

-- a node, its parent, and so on up to a child of the root, at most so many
abbrev pub way_within : ℕ → ℕ → Forest Kind → List ℕ
way_within zero n now = []
way_within (suc more) n now = if below_root n now then n ∷ way_within more (parent n now) now else []

-- all of them, since no node stands more than 32 steps below the root; none where there is no such node
unfoldable pub way : ℕ → Forest Kind → List ℕ
way n now = way_within 32 n now

-- ---- lines

-- how often a number can be halved, at most so often
abbrev pub halvings : ℕ → ℕ → ℕ
halvings zero a = 0
halvings (suc more) a = if a % 2 == 0 then suc (halvings more (a / 2)) else 0

-- the line of an address, which is an odd number doubled as often as the ordinal of its line says
unfoldable pub line_in : ℕ → ℕ
line_in a = halvings a a

-- a page's nodes by number, each with its address
abbrev pub addresses : Forest (ℕ × Look) → Forest ℕ
addresses none = none
addresses (node a x k r) = node x.0 a (addresses k) (addresses r)

-- the line from which the node of a number comes
abbrev pub line_on : NumberedPage → ℕ → ℕ
line_on p n = line_in (label_in 0 n (addresses p.nodes))
