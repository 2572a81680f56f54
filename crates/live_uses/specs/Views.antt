-- Names that are used, as the definitions speak of them.
use Rattle.std.specs.Prelude.{ℕ, List, map}
use Rattle.sig_untrack.specs.declared.body.Rewire.{Rewire}
use Rattle.sig_untrack.specs.Stated.{rewiring}
use Rattle.live_model.specs.Names.{Use}
use Rattle.live_model.specs.Uses.{Named, host_in, uses_of_rewiring}
use Rattle.live_uses.specs.declared.bodies.Named as held
use Rattle.live_uses.specs.declared.hosts.Hosting as hosting
use Rattle.live_uses.specs.declared.uses.Use as used

-- a name that is used, and what it has to be
abbrev pub use_of : used.Use → Use
use_of u = (u.name.now, u.need)

-- what the places of a body name
abbrev pub named_by : held.Named → Named
named_by n = record {
  targets = n.targets.now;
  names = n.names.now;
  effects = map (λ v. map use_of v.items) n.effects.now;
  rewirings = map (uses_of_rewiring n.targets.now) (map rewiring n.rewires.now);
}

-- the places of host formulas in nested effects
abbrev pub inner_hosts : hosting.Hosting → List (List ℕ)
inner_hosts h = map (λ v. v.items) h.effects.now

-- those that rewirings ask
abbrev pub rewired_hosts : List Rewire → List (List ℕ)
rewired_hosts rs = map (λ r. host_in r.source) (map rewiring rs)
