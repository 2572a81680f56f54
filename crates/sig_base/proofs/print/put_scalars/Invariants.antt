use Rattle.std.proofs.Common.{◌≡◌, ◌++◌, drop, codes}
use Rattle.std.specs.List.{flat_map}
use Rattle.sig_base.specs.Printer.{printed_scalar}
use Rattle.sig_base.proofs.print.put_scalars.Given as goal

abbrev pub invariant-loop-scalar : goal.invariant-loop-scalar
invariant-loop-scalar l =
    l.out.items ++ flat_map (λ s. codes ", " ++ printed_scalar s) (drop l.scalar-index l.others)
    ≡ l.initial.out.items ++ flat_map (λ s. codes ", " ++ printed_scalar s) l.others
