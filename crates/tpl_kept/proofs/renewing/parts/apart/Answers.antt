use Rattle.std.proofs.Common.{[], ◌∷◌, map, refl, sym, ap, ◌∙◌}
use Rattle.std.specs.Box.{box_value}
use Rattle.std.proofs.lemmas.Bool.{true≢false}
use Rattle.tpl_model.specs.KeptLines.Kept.{heard_of, kept}
use Rattle.tpl_model.proofs.MemoEquations.{kept_blank, kept_branch, kept_either, kept_element, kept_line, kept_loop, kept_unread}
use Rattle.tpl_kept.specs.Renewals.{is_unread}
use Rattle.tpl_kept.proofs.Renewals.RowMemos.{branch_apart, element_apart, line_apart, loop_apart}
use Rattle.tpl_kept.proofs.renewing.parts.apart.Goals as goal

pub returns-in_ok-head-in-Line : goal.returns-in_ok-head-in-Line
returns-in_ok-head-in-Line c = λ u.
    rw (c.parted.ensures, c.in_ok-head-in-Line.ensures.ok)
    (line_apart (kept (box_value c.args.memo)) (heard_of c.in-Line.line) (kept (box_value c.in-Line.later)) (kept (box_value c.in-Line.later))
    (ap kept (sym c.into_inner.ensures ∙ c.in-Line.is) ∙ kept_line c.in-Line.line c.in-Line.later) refl)

pub returns-in_ok-inside-in-Element : goal.returns-in_ok-inside-in-Element
returns-in_ok-inside-in-Element c = λ u.
    rw (c.parted-in-Element.ensures, c.in_ok-head-in-Element.ensures.ok)
    (element_apart (kept (box_value c.args.memo)) (map heard_of c.in-Element.all.items) (kept (box_value c.in-Element.inside))
    (kept (box_value c.in-Element.later)) (map kept c.in_ok-inside-in-Element.inside.items) (kept (box_value c.in-Element.later))
    (ap kept (sym c.into_inner.ensures ∙ c.in-Element.is) ∙ kept_element c.in-Element.all c.in-Element.inside c.in-Element.later)
    (c.in_ok-inside-in-Element.ensures ∙ ap (λ z. kept z ∷ []) c.into_inner-in-Element.ensures) refl)

pub returns-in_ok-inside-in-Branch : goal.returns-in_ok-inside-in-Branch
returns-in_ok-inside-in-Branch c = λ u.
    rw (c.parted-in-Branch.ensures, c.in_ok-head-in-Branch.ensures.ok)
    (branch_apart (kept (box_value c.args.memo)) (heard_of c.in-Branch.test) (kept (box_value c.in-Branch.inside)) (kept (box_value c.in-Branch.later))
    (map kept c.in_ok-inside-in-Branch.inside.items) (kept (box_value c.in-Branch.later))
    (ap kept (sym c.into_inner.ensures ∙ c.in-Branch.is) ∙ kept_branch c.in-Branch.test c.in-Branch.inside c.in-Branch.later)
    (c.in_ok-inside-in-Branch.ensures ∙ ap (λ z. kept z ∷ []) c.into_inner-in-Branch.ensures) refl)

pub returns-in_ok-head-in-Loop : goal.returns-in_ok-head-in-Loop
returns-in_ok-head-in-Loop c = λ u.
    rw (c.parted-in-Loop.ensures, c.in_ok-head-in-Loop.ensures.ok)
    (loop_apart (kept (box_value c.args.memo)) (heard_of c.in-Loop.rows) (map kept c.in-Loop.inside.items) (kept (box_value c.in-Loop.later))
    (kept (box_value c.in-Loop.later)) (ap kept (sym c.into_inner.ensures ∙ c.in-Loop.is) ∙ kept_loop c.in-Loop.rows c.in-Loop.inside c.in-Loop.later) refl)

pub returns-in_ok-head-in-Either : goal.returns-in_ok-head-in-Either
returns-in_ok-head-in-Either c = λ u.
    rw (c.parted-in-Either.ensures, c.in_ok-head-in-Either.ensures.ok)
    (ap kept (sym c.into_inner.ensures ∙ c.in-Either.is) ∙ kept_either c.in-Either.first c.in-Either.second c.in-Either.later)

pub returns-in_ok-parts-in-Blank : goal.returns-in_ok-parts-in-Blank
returns-in_ok-parts-in-Blank c = rw c.in_ok-parts-in-Blank.ensures (λ u. ap kept (sym c.into_inner.ensures ∙ c.in-Blank.is) ∙ kept_blank)

pub returns-in_ok-parts-in-Unread : goal.returns-in_ok-parts-in-Unread
returns-in_ok-parts-in-Unread c = λ u.
    absurd (true≢false (sym (ap is_unread (ap kept (sym c.into_inner.ensures ∙ c.in-Unread.is) ∙ kept_unread)) ∙ u))
