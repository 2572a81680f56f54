use Rattle.std.proofs.Common.{◌++◌, List, ℕ, codes, refl, ap}
use Rattle.script_items.proofs.Briefs.{get_line}
use Rattle.script_items.proofs.quick.get.Goals as goal

pub returns : goal.returns
returns c = record {
  line = codes "get " ++ c.in-Some.name.now;
  rest = c.in-Some.rest.now;
  is = ap (λ (bs : List ℕ). codes "get " ++ bs) c.in-Some.ensures;
  count = refl;
  says = get_line c.in-Some.name.now c.in-Some-2.name (rw c.in-Some-2.is at c.in_ok-name.ensures);
}
