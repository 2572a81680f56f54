use Rattle.std.specs.Prelude.{slice_index_or, slice_set}
use Rattle.std.proofs.Common.{◌≡◌, ◌+◌, ◌-◌, ◌<◌, Some, length, map, refl, sym, ap, subst, ◌∙◌, arith}
use Rattle.tpl_model.specs.KeptLines.Kept.{kept}
use Rattle.tpl_model.specs.declared.memo.PageMemo.TheVariants.{Unread}
use Rattle.tpl_model.proofs.MemoEquations.{kept_unread}
use Rattle.tpl_kept.specs.Renewals.{is_unread}
use Rattle.tpl_kept.proofs.Listened.Slots.{none_taken}
use Rattle.tpl_kept.proofs.Renewals.RowMemos.{place_taken}
use Rattle.tpl_kept.proofs.renewing.rows.take_row.Goals as goal

pub returns-in_default-clause-takes : goal.returns-in_default-clause-takes
returns-in_default-clause-takes c = λ b links t before s.
    none_taken b links t c.args.from before c.args.place (kept Unread) (map kept c.args.old.now.items) kept_unread s

pub returns-then-place-from-clause-takes : goal.returns-then-place-from-clause-takes
returns-then-place-from-clause-takes c = λ b links t before s.
    none_taken b links t c.args.from before c.args.place (kept Unread) (map kept c.args.old.now.items) kept_unread s

pub returns-then-at-len-clause-takes : goal.returns-then-at-len-clause-takes
returns-then-at-len-clause-takes c = λ b links t before s.
    none_taken b links t c.args.from before c.args.place (kept Unread) (map kept c.args.old.now.items) kept_unread s

pub returns-clause-takes : goal.returns-clause-takes
returns-clause-takes c = λ b links t before s.
    let items = c.args.old.now.items in
    let n = c.args.from in
    let place = c.in-Some.place in
    let j = place - n in
    let behind = c.if-place-from.false in
    let out = c.if-at-len.false in
    let inside : j < length items = omega (arith, out) in
    let sum : place ≡ n + j = omega (arith, behind) in
    let is = subst (λ z. z ≡ slice_index_or items j z) (sym c.replace.ensures.value) c.index_mut.ensures.value in
    place_taken kept b links t n before c.args.place j c.replace.result c.replace.new.dest items (slice_set items j c.replace.new.dest)
    (c.in-Some.is ∙ ap Some sum) inside is refl (ap kept c.replace.ensures.after ∙ kept_unread) s

pub returns-in_default-clause-nothing : goal.returns-in_default-clause-nothing
returns-in_default-clause-nothing c = λ e. ap is_unread kept_unread

pub returns-then-place-from-clause-nothing : goal.returns-then-place-from-clause-nothing
returns-then-place-from-clause-nothing c = λ e. ap is_unread kept_unread

pub returns-then-at-len-clause-nothing : goal.returns-then-at-len-clause-nothing
returns-then-at-len-clause-nothing c = λ e. ap is_unread kept_unread

pub returns-clause-nothing : goal.returns-clause-nothing
returns-clause-nothing c = λ e.
    let s = c.in-Some.is in
    cc
