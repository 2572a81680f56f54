use Rattle.std.proofs.Common.{◌≡◌, ◌++◌, drop}
use Rattle.live_model.specs.Journals.{link_entries}
use Rattle.live_labels.proofs.reasons.tell_why.Given as goal

-- what was told so far and what is told of the rest is the whole
abbrev pub invariant-loop-link : goal.invariant-loop-link
invariant-loop-link l = l.told.items ++ link_entries l.names l.name (drop l.link-index l.links) ≡ link_entries l.names l.fn.name l.links
