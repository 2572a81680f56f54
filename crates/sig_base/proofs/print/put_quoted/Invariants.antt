use Rattle.std.proofs.Common.{◌≡◌, ◌++◌, drop}
use Rattle.std.specs.List.{flat_map}
use Rattle.sig_base.specs.Printer.{in_quotes}
use Rattle.sig_base.proofs.print.put_quoted.Given as goal

abbrev pub invariant-loop-byte : goal.invariant-loop-byte
invariant-loop-byte l = l.out.items ++ flat_map in_quotes (drop l.byte-index l.byte-items) ≡ l.initial.out.items ++ flat_map in_quotes l.text
