use Rattle.std.proofs.Common.{◌≡◌, drop}
use Rattle.script_items.specs.Chains.{with_links}
use Rattle.script_items.proofs.chain.put_names.Given as goal

abbrev pub invariant-loop-link : goal.invariant-loop-link
invariant-loop-link l = with_links l.names.items (drop l.link-index l.links) ≡ with_links l.fn.names.items l.links
