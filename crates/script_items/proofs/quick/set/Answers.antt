use Rattle.std.proofs.Common.{◌∙◌, ◌∷◌, ◌++◌, List, ℕ, codes, refl, sym, ap, append_assoc}
use Rattle.script_items.proofs.Briefs.{set_line}
use Rattle.script_items.proofs.quick.set.Goals as goal

pub returns : goal.returns
returns c =
    let p = c.in-Some.name.now in
    let q = c.in-Some-parted.text.now in
    let rest = c.in-Some-parted.rest.now in
    record {
      line = codes "set " ++ (p ++ 32 ∷ q);
      rest = rest;
      is = ap (λ (bs : List ℕ). codes "set " ++ bs)
          (c.in-Some.ensures ∙ ap (λ (bs : List ℕ). p ++ 32 ∷ bs) c.in-Some-parted.ensures ∙ sym (append_assoc p (32 ∷ q) (10 ∷ rest)));
      count = refl;
      says = set_line p q c.in-Some-2.name c.in-Some-short.value (rw c.in-Some-2.is at c.in_ok-name.ensures) c.in-Some-short.ensures;
    }
