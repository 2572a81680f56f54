-- What each statement puts before others, and what a body answers then.
use Rattle.std.proofs.Common.{◌≡◌, ℕ, List, sym, ap, ◌∙◌}
use Rattle.sig_base.specs.declared.value.Known.{Known}
use Rattle.sig_formula.specs.declared.formula.Formula.{Formula}
use Rattle.sig_formula.specs.Trees.{tree}
use Rattle.effect_model.specs.declared.plain.Plain.{Plain}
use Rattle.effect_model.specs.Bodies.{Act, BodyStep, body_step, followed_by}
use Rattle.sig_untrack.specs.declared.body.Stmt.{Stmt}
use Rattle.sig_untrack.specs.declared.body.Stmt.TheVariants.{rolls-Plain, rolls-When, rolls-Effect, rolls-Rewire}
use Rattle.sig_untrack.specs.declared.body.Stmt.TheVariants as stmt
use Rattle.sig_untrack.specs.declared.body.Stmt.TheOpen.{Stmt-F}
use Rattle.sig_untrack.specs.declared.body.Stmt.TheFolds.{fold-roll-Stmt}
use Rattle.sig_untrack.specs.Links.{Parts, linked}
use Rattle.sig_untrack.specs.Stated.{Stated, Putting, held_line, put, put_step, stated, no_more, plain, when, effect, rewire}

pub put_plain : (a : Plain ℕ ℕ Formula) (rest : Stated) → put (stmt.Plain a) rest ≡ plain (held_line a) rest
put_plain a rest = ap (λ s. put s rest) (sym (rolls-Plain a)) ∙ ap (λ (g : Putting). g rest) (fold-roll-Stmt Putting put_step (Stmt-F.Plain a))

pub put_when : (f : Formula) (inner : _) (rest : Stated) → put (stmt.When f inner) rest ≡ when (tree f) (stated inner.items no_more) rest
put_when f inner rest =
    ap (λ s. put s rest) (sym (rolls-When f inner)) ∙ ap (λ (g : Putting). g rest) (fold-roll-Stmt Putting put_step (Stmt-F.When f inner))

pub put_effect : (n : ℕ) (rest : Stated) → put (stmt.Effect n) rest ≡ effect n rest
put_effect n rest = ap (λ s. put s rest) (sym (rolls-Effect n)) ∙ ap (λ (g : Putting). g rest) (fold-roll-Stmt Putting put_step (Stmt-F.Effect n))

pub put_rewire : (n : ℕ) (rest : Stated) → put (stmt.Rewire n) rest ≡ rewire n rest
put_rewire n rest = ap (λ s. put s rest) (sym (rolls-Rewire n)) ∙ ap (λ (g : Putting). g rest) (fold-roll-Stmt Putting put_step (Stmt-F.Rewire n))

-- an answer to what a statement puts is one to the statement
pub answers : (ts us : List Known) (q : Parts) (rest u : Stated) (as' : List Act) (x : BodyStep) (s t : Stmt)
    → x ≡ followed_by as' (body_step (linked q u) ts us) → s ≡ t → put t rest ≡ u → x ≡ followed_by as' (body_step (linked q (put s rest)) ts us)
answers ts us q rest u as' x s t e is puts =
    e ∙ ap (λ (v : Stated). followed_by as' (body_step (linked q v) ts us)) (sym (ap (λ (w : Stmt). put w rest) is ∙ puts))
