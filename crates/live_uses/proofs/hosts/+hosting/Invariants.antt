use Rattle.std.proofs.Common.{◌≡◌, ◌++◌, drop}
use Rattle.sig_untrack.specs.Stated.{Stated, stated}
use Rattle.live_model.specs.Uses.{hosts_of_statements}
use Rattle.live_uses.specs.Views.{inner_hosts, rewired_hosts}
use Rattle.live_uses.proofs.hosts.+hosting.Given as goal

-- with the statements that are left
abbrev pub invariant-put_statements-loop-statement : goal.invariant-put_statements-loop-statement
invariant-put_statements-loop-statement l =
    (rest : Stated) → l.places.items ++ hosts_of_statements (inner_hosts l.hosting) (rewired_hosts l.hosting.rewires.now) (stated (drop l.statement-index l.statements) rest)
    ≡ l.fn.places.items ++ hosts_of_statements (inner_hosts l.hosting) (rewired_hosts l.hosting.rewires.now) (stated l.statements rest)
