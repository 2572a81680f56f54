-- What holds of a scene between its commands.
use Rattle.std.specs.Prelude.{◌≡◌, ℕ, ◌*◌, ◌^◌, ◌≤◌, nat_lt, true, false, List}
use Rattle.std.specs.List.{All}
use Rattle.sig_host.specs.Hosts.{HostPlace, most_asked}
use Rattle.sig_graph.specs.States.{Seen, is_computing}
use Rattle.sig_computed.specs.Asked.{AreThere}

-- Nothing is being evaluated, no counter has come far, the ids were given, and the host formulas that are asked are there.
pub record IsReady (g : Seen) (asked : List HostPlace) (ids : List ℕ) (commands : ℕ) : Type 0 where
  pub idle : (n : ℕ) → is_computing g.state n ≡ false
  pub worn : g.state.worn ≤ commands * 2 ^ 64
  pub given : All (λ n. nat_lt n g.given ≡ true) ids
  pub there : AreThere g.state.signals asked
  pub few : most_asked asked ≤ commands * 2 ^ 71
