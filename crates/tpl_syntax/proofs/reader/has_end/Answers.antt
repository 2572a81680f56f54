use Rattle.std.proofs.Common.{ℕ, List, [], ◌∷◌, false, sym, ap, ◌∙◌, append_assoc}
use Rattle.tpl_syntax.specs.Refusals.{has_end}
use Rattle.sig_words.specs.Literals.{plain}
use Rattle.tpl_syntax.proofs.reader.has_end.Goals as goal

pub loop-c-preserved : goal.loop-c-preserved
loop-c-preserved c =
    let next = c.in-Some.c in
    let front = c.loop-c.yielded in
    record {
      rest = λ rest.
          c.past-scan.ensures rest ∙ c.loop-c.invariant.rest (next ∷ rest)
          ∙ ap (λ (cs : List ℕ). has_end false (plain false cs)) (sym (append_assoc front (next ∷ []) rest));
      done = c.past-scan.ensures [] ∙ c.loop-c.invariant.rest (next ∷ []);
    }
