use Rattle.std.proofs.Common.{List, Option, drop}
use Rattle.std.specs.List.{All}
use Rattle.sig_marks.specs.declared.readers.Readers.{Readers}
use Rattle.sig_marks.specs.Sets.{HasRoom, Links}
use Rattle.sig_marks.proofs.links.link_all.Given as goal

abbrev pub invariant-loop-read : goal.invariant-loop-read
invariant-loop-read l = record {
  onward : (final : List (Option Readers)) → Links l.sets.entries final (drop l.read-index l.reads) l.reader → Links l.fn.sets.entries final l.reads l.reader;
  room : All (HasRoom l.sets.entries l.reader) l.reads;
}
