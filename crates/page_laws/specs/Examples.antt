-- A worked example: a page of one text is mounted, and is brought up to date at a flush.
use Rattle.std.specs.Prelude.{◌≡◌, ℕ, List, [], ◌∷◌, codes, map}
use Rattle.std.proofs.Common.{refl}
use Rattle.sig_formula.specs.Trees.{slot}
use Rattle.page_model.specs.Addresses.{address}
use Rattle.page_model.specs.Forest.{Forest, none, node}
use Rattle.page_model.specs.Labels.{Kind, Root, Text, Element}
use Rattle.page_model.specs.Replay.{OpInsert, OpText, Done, replay}
use Rattle.live_model.specs.EffectExamples.{a_flush}
use Rattle.live_model.specs.Examples.{a_cell, a_set, a_template, environment}
use Rattle.live_model.specs.Machine.{Machine, empty, step, template_at}
use Rattle.live_model.specs.Output.{machine_after}
use Rattle.live_model.specs.PageExamples.{a_mount, end_line, tag_line, text_line}
use Rattle.live_model.specs.Pages.{page_html, scratch_html}
use Rattle.live_model.specs.RowExamples.{words}
use Rattle.page_laws.specs.LivePages.{ops_of, tree_named}

-- a cell and a template that shows it
abbrev pub made : Machine
made =
    machine_after environment (empty 0) (a_cell (codes "c") (words (codes "A"))
    ∷ a_template (codes "t") (tag_line (codes "b") ∷ text_line (slot 0) ∷ end_line ∷ []) (codes "c" ∷ []) ∷ [])

-- then a page of it is mounted
abbrev pub mounted : Machine
mounted = machine_after environment made (a_mount (codes "p") (codes "t") ∷ [])

-- then the cell is set
abbrev pub changed : Machine
changed = machine_after environment mounted (a_set (codes "c") (words (codes "B")) ∷ [])

-- and then comes a flush
abbrev pub flushed : Machine
flushed = machine_after environment changed (a_flush ∷ [])

-- the tree of an element with this text
abbrev pub tree_with : List ℕ → Forest Kind
tree_with t = node 0 Root (node 1 (Element (codes "b") []) (node 2 (Text t) none none) none) none

-- the mount tells of the element with its text
pub mount_told : ops_of (codes "p") (step environment made (a_mount (codes "p") (codes "t"))).entries
    ≡ OpInsert 0 0 1 (Element (codes "b") []) (node 2 (Text (codes "A")) none none) ∷ []
unfolding address
mount_told = refl

-- before it there is a root alone
pub before_mount : tree_named made.pages (codes "p") ≡ node 0 Root none none
before_mount = refl

-- behind it the page is that element
pub after_mount : tree_named mounted.pages (codes "p") ≡ tree_with (codes "A")
unfolding address
after_mount = refl

-- what it tells leads from the one to the other
pub mount_replayed : replay (OpInsert 0 0 1 (Element (codes "b") []) (node 2 (Text (codes "A")) none none) ∷ []) (node 0 Root none none)
    ≡ Done (tree_with (codes "A"))
mount_replayed = refl

-- the page is as it was until the flush
pub before_flush : tree_named changed.pages (codes "p") ≡ tree_with (codes "A")
unfolding address
before_flush = refl

-- the flush tells that the text is another one
pub flush_told : ops_of (codes "p") (step environment changed a_flush).entries ≡ OpText 2 (codes "B") ∷ []
unfolding address
flush_told = refl

-- what it tells leads from the page before to the page behind it
pub flush_replayed : replay (OpText 2 (codes "B") ∷ []) (tree_with (codes "A")) ≡ Done (tree_named flushed.pages (codes "p"))
unfolding address
flush_replayed = refl

-- which is what the template comes to, made from nothing
pub after_flush : map page_html flushed.pages ≡ scratch_html environment.hosts flushed.world.signals (template_at flushed 0) ∷ []
unfolding address
after_flush = refl
