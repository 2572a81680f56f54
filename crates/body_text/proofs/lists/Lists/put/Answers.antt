use Rattle.std.proofs.Common.{refl, ap, ◌∙◌, arith, List, ℕ, Option}
use Rattle.sig_formula.specs.Trees.{Tree}
use Rattle.formula_text.specs.Grammar.{Draft}
use Rattle.effect_model.specs.declared.plain.Plain.{Plain}
use Rattle.sig_untrack.specs.Stated as stated
use Rattle.body_text.specs.Statements.{with_formula, with_target}
use Rattle.body_text.proofs.lists.Lists.put.Goals as goal

pub placed-requires-clause-targets : goal.placed-requires-clause-targets
placed-requires-clause-targets c =
    let t = c.in_ok-put_perhaps.ensures in rw c.deref.ensures.value (omega (arith, c.requires, t.few))

pub placed-requires-clause-names : goal.placed-requires-clause-names
placed-requires-clause-names c =
    let f = c.in_ok-put_names.ensures in rw c.deref-2.ensures.value (omega (arith, c.requires, f.few))

pub returns : goal.returns
returns c =
    let t = c.in_ok-put_perhaps.ensures in
    let f = c.in_ok-put_names.ensures in
    record {
      targets = t.put ∙ ap (λ (o : Option (List ℕ)). with_target c.args.self.now.targets.items o) c.target_of.ensures;
      names = f.put ∙ ap (λ (o : Option Draft). with_formula c.args.self.now.names.items o) c.formula_of.ensures;
      effects = refl;
      rewires = refl;
      statement = λ rest. c.line.ensures rest ∙ ap (λ (b : Plain ℕ ℕ Tree). stated.plain b rest) (rw (c.deref.ensures.value, c.deref-2.ensures.value) at c.in_ok-placed.ensures);
      few = omega (arith, t.few, f.few);
    }
