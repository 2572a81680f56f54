use Rattle.std.proofs.Common.{◌≡◌, ◌++◌, drop, codes}
use Rattle.std.specs.List.{flat_map}
use Rattle.sig_base.specs.Printer.{printed_row}
use Rattle.sig_base.proofs.print.put_each_row.Given as goal

abbrev pub invariant-loop-row : goal.invariant-loop-row
invariant-loop-row l =
    l.out.items ++ flat_map (λ r. codes ", " ++ printed_row r) (drop l.row-index l.others)
    ≡ l.initial.out.items ++ flat_map (λ r. codes ", " ++ printed_row r) l.others
