use Rattle.std.proofs.Common.{map, sym, ap, subst, ◌∙◌}
use Rattle.std.proofs.lemmas.Bool.{false≢true}
use Rattle.std.specs.Box.{box_value}
use Rattle.tpl_model.specs.KeptLines.Kept.{heard_of, kept}
use Rattle.tpl_model.specs.PageUpdates.PageMemos.{all_names}
use Rattle.tpl_model.proofs.MemoEquations.{kept_blank, kept_branch, kept_element, kept_line}
use Rattle.tpl_kept.specs.Nameless.{ReadsNone}
use Rattle.tpl_kept.proofs.Renewals.Nameless.{blank_none, branch_none, element_none, line_none}
use Rattle.tpl_kept.proofs.renewing.staying.+reads_none.Goals.{then-none_read, else-none_read, then-is_none-2, else-is_none-2}
use Rattle.tpl_kept.proofs.renewing.staying.+reads_none.Goals as goal

pub returns-in-Blank : goal.returns-in-Blank
returns-in-Blank t c = λ none. subst ReadsNone (sym (ap kept c.in-Blank.is ∙ kept_blank)) blank_none

pub returns-then-is_none : goal.returns-then-is_none
returns-then-is_none t c = λ none.
    subst ReadsNone (sym (ap kept c.in-Line.is ∙ kept_line c.in-Line.line c.in-Line.rest))
    (line_none (heard_of c.in-Line.line) (kept (box_value c.in-Line.rest)) (sym c.deref.ensures.value ∙ c.is_none.ensures c.if-is_none.true)
    (subst (λ z. ReadsNone (kept z)) c.deref-then-is_none.ensures (c.reads_none.ensures none)))

pub returns-then-reads_none : goal.returns-then-reads_none
returns-then-reads_none t c = λ none.
    elim c.if-none_read.branch [
      | then-none_read w ↦
          subst ReadsNone (sym (ap kept c.in-Element.is ∙ kept_element c.in-Element.all c.in-Element.inner c.in-Element.rest))
          (element_none (map heard_of c.in-Element.all.items) (kept (box_value c.in-Element.inner)) (kept (box_value c.in-Element.rest))
          (ap (λ z. all_names (map heard_of z)) (sym c.deref-in-Element.ensures.value) ∙ c.none_read.ensures w.if-none_read.true)
          (subst (λ z. ReadsNone (kept z)) w.deref-then-none_read.ensures (w.reads_none-then-none_read.ensures (sym w.value-is ∙ c.if-reads_none.true)))
          (subst (λ z. ReadsNone (kept z)) c.deref-then-reads_none.ensures (c.reads_none-then-reads_none.ensures none)))
      | else-none_read w ↦ absurd (false≢true (sym w.if-none_read.false ∙ (sym w.value-is ∙ c.if-reads_none.true)))
    ]

pub returns-then-reads_none-2 : goal.returns-then-reads_none-2
returns-then-reads_none-2 t c = λ none.
    elim c.if-is_none-2.branch [
      | then-is_none-2 w ↦
          subst ReadsNone (sym (ap kept c.in-Branch.is ∙ kept_branch c.in-Branch.test c.in-Branch.inner c.in-Branch.rest))
          (branch_none (heard_of c.in-Branch.test) (kept (box_value c.in-Branch.inner)) (kept (box_value c.in-Branch.rest))
          (sym c.deref-in-Branch.ensures.value ∙ c.is_none-in-Branch.ensures w.if-is_none-2.true)
          (subst (λ z. ReadsNone (kept z)) w.deref-then-is_none-2.ensures (w.reads_none-then-is_none-2.ensures (sym w.value-is ∙ c.if-reads_none-2.true)))
          (subst (λ z. ReadsNone (kept z)) c.deref-then-reads_none-2.ensures (c.reads_none-then-reads_none-2.ensures none)))
      | else-is_none-2 w ↦ absurd (false≢true (sym w.if-is_none-2.false ∙ (sym w.value-is ∙ c.if-reads_none-2.true)))
    ]
