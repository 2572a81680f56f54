use Rattle.std.proofs.Common.{[], map, refl, ap, ◌∙◌}
use Rattle.std.specs.Box.{box_value}
use Rattle.std.proofs.lemmas.List.{map-append}
use Rattle.page_model.specs.Labels.{Text}
use Rattle.tpl_model.specs.KeptLines.Kept.{heard_of, kept}
use Rattle.tpl_model.specs.Shapes.{node_text}
use Rattle.tpl_model.specs.ShownNodes.Shapes.{mark_of}
use Rattle.tpl_model.proofs.MemoEquations.{kept_blank, kept_branch, kept_either, kept_element, kept_line, kept_loop, kept_unread}
use Rattle.tpl_drawn.proofs.Compares.Said.{said_marked, unsaid}
use Rattle.tpl_drawn.proofs.comparing.texts.mark_text.Goals as goal

pub returns-in_ok-reserve-in-Line : goal.returns-in_ok-reserve-in-Line
returns-in_ok-reserve-in-Line c = λ known a there.
    let n = c.args.number in
    said_marked known a n (kept c.args.memo.now) (kept (box_value c.in-Line.field-1)) (heard_of c.in-Line.heard) (mark_of c.said_mark.result)
    (map mark_of c.args.restated.now.items) (map mark_of c.push_reserved.new.self.items) (ap kept c.in-Line.is ∙ kept_line c.in-Line.heard c.in-Line.field-1) there
    (c.said_mark.ensures
    ∙ (λ i. record { number = n; look = Text ((c.in_ok-said-in-Line.ensures ∙ ap node_text c.in_ok-outcome-in-Line.ensures) i); children = [] }))
    (ap (map mark_of) (rw c.in_ok-reserve-in-Line.ensures.items at c.push_reserved.ensures.items) ∙ map-append mark_of c.args.restated.now.items _)

pub returns-in-Unread : goal.returns-in-Unread
returns-in-Unread c = λ known a there.
    unsaid known a (kept c.args.memo.now) _ (map mark_of c.args.restated.now.items) (ap kept c.in-Unread.is ∙ kept_unread) refl

pub returns-in-Blank : goal.returns-in-Blank
returns-in-Blank c = λ known a there.
    unsaid known a (kept c.args.memo.now) _ (map mark_of c.args.restated.now.items) (ap kept c.in-Blank.is ∙ kept_blank) refl

pub returns-in-Element : goal.returns-in-Element
returns-in-Element c = λ known a there.
    unsaid known a (kept c.args.memo.now) _ (map mark_of c.args.restated.now.items)
    (ap kept c.in-Element.is ∙ kept_element c.in-Element.field-0 c.in-Element.field-1 c.in-Element.field-2) refl

pub returns-in-Branch : goal.returns-in-Branch
returns-in-Branch c = λ known a there.
    unsaid known a (kept c.args.memo.now) _ (map mark_of c.args.restated.now.items)
    (ap kept c.in-Branch.is ∙ kept_branch c.in-Branch.field-0 c.in-Branch.field-1 c.in-Branch.field-2) refl

pub returns-in-Loop : goal.returns-in-Loop
returns-in-Loop c = λ known a there.
    unsaid known a (kept c.args.memo.now) _ (map mark_of c.args.restated.now.items)
    (ap kept c.in-Loop.is ∙ kept_loop c.in-Loop.field-0 c.in-Loop.field-1 c.in-Loop.field-2) refl

pub returns-in-Either : goal.returns-in-Either
returns-in-Either c = λ known a there.
    unsaid known a (kept c.args.memo.now) _ (map mark_of c.args.restated.now.items)
    (ap kept c.in-Either.is ∙ kept_either c.in-Either.field-0 c.in-Either.field-1 c.in-Either.field-2) refl
