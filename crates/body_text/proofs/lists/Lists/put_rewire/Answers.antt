use Rattle.std.proofs.Common.{ℕ, [], ◌∷◌, length, refl, ap, ◌∙◌, arith}
use Rattle.std.proofs.lemmas.List.{length-append}
use Rattle.sig_untrack.specs.Stated as stated
use Rattle.body_text.specs.Statements.{rewiring_of}
use Rattle.body_text.proofs.Parts.{rewire_built}
use Rattle.body_text.proofs.lists.Lists.put_rewire.Goals as goal

pub returns-clause-built : goal.returns-clause-built
returns-clause-built c =
    let t = c.in_ok-target.ensures in
    let p = c.in_ok-place.ensures in
    rewire_built _ _ _ _ _ c.in_ok-rewiring.rewiring
    (c.in_ok-rewiring.ensures ∙ ap (λ (k : ℕ). rewiring_of k c.args.source) t.put.1)
    t.put.0 refl refl p.0
    (λ rest. c.rewire.ensures rest ∙ ap (λ (k : ℕ). stated.rewire k rest) p.1)

pub returns-clause-few : goal.returns-clause-few
returns-clause-few c =
    let t = c.in_ok-target.ensures in
    let p = c.in_ok-place.ensures in
    let more = ap length p.0 ∙ length-append c.args.self.now.rewires.items (c.in_ok-rewiring.rewiring ∷ []) in
    omega (arith, t.few, more)
