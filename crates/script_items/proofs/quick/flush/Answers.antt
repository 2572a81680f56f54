use Rattle.std.proofs.Common.{◌++◌, List, ℕ, codes, refl, ap}
use Rattle.script_items.proofs.Briefs.{flush_line}
use Rattle.script_items.proofs.quick.flush.Goals as goal

pub returns : goal.returns
returns c = record {
  line = codes "flush";
  rest = c.in-Some.rest.now;
  is = ap (λ (bs : List ℕ). codes "f" ++ bs) c.in-Some.ensures;
  count = refl;
  says = flush_line;
}
