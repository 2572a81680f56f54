-- The names of a short body.
use Rattle.std.proofs.Common.{◌≡◌, ℕ, ◌<◌, ◌==◌, ◌||◌, Bool, true, false, List, [], ◌∷◌, ◌++◌, refl, sym, ap, ◌∙◌, subst, arith}
use Rattle.std.proofs.lemmas.Bool.{eqb-true}
use Rattle.sig_base.specs.declared.scalar.Scalar.{Scalar}
use Rattle.sig_formula.specs.declared.formula.BinOp.{BinOp}
use Rattle.sig_formula.specs.Trees.{Tree, binary, literal, slot}
use Rattle.effect_model.specs.declared.plain.Plain.TheVariants as p
use Rattle.effect_laws.specs.Asks.{AreFit, SlotsBelow}
use Rattle.sig_untrack.specs.declared.body.Body.{Body}
use Rattle.sig_untrack.specs.declared.body.Stmt.{Stmt}
use Rattle.sig_untrack.specs.Links.{linked}
use Rattle.sig_untrack.specs.Stated.{Stated, before, no_bodies, no_more, plain, put, stated, statements_of}
use Rattle.effect_runs.specs.Evaluations.{HasNames}

-- the slots of a formula of the first slot and a literal
first_slot : (o : BinOp) (x : Scalar) → SlotsBelow 1 (binary o (slot 0) (literal x))
first_slot o x s h = go (0 == s) refl h
  where
    go : (b : Bool) → (0 == s) ≡ b → (b || false) ≡ true → s < 1
    go true e _ = let same : 0 ≡ s = eqb-true 0 s e in omega (arith, same)
    go false e h = cc

-- a list to which one was put, which was empty
pub one_pushed : (old ss : List Stmt) (s : Stmt) → old ≡ [] → ss ≡ old ++ s ∷ [] → ss ≡ s ∷ []
one_pushed old ss s e f = f ∙ ap (λ (l : List Stmt). l ++ s ∷ []) e

-- a body of one statement, which sets by such a formula, on one name
pub one_named : (b : Body) (s : Stmt) (ss : List Stmt) (t : Tree) (n : ℕ) (o : BinOp) (x : Scalar) → statements_of (before b no_bodies) ≡ stated ss no_more → ss ≡ s ∷ [] →
    ((rest : Stated) → put s rest ≡ plain (p.Set 0 t) rest) → t ≡ binary o (slot 0) (literal x) → HasNames b (n ∷ [])
one_named b s ss t n o x eb es sets et = λ q.
    let all : statements_of (before b no_bodies) ≡ plain (p.Set 0 (binary o (slot 0) (literal x))) no_more =
    eb ∙ ap (λ (l : List Stmt). stated l no_more) es ∙ sets no_more ∙ ap (λ (f : Tree). plain (p.Set 0 f) no_more) et in
    subst (λ (y : Stated). AreFit 1 (linked q y)) (sym all) (first_slot o x, tt)
