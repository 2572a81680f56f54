use Rattle.std.proofs.Common.{◌≡◌, ◌+◌, drop, length, map, sym, subst, ◌∙◌, ap, ◌-◌, arith}
use Rattle.std.proofs.lemmas.List.{length-drop}
use Rattle.tpl_model.specs.KeptLines.Changes.{changed}
use Rattle.tpl_model.specs.KeptLines.Kept.{kept}
use Rattle.tpl_kept.specs.Listed.{listed}
use Rattle.tpl_kept.specs.Nameless.{AreNameless, ReadNone}
use Rattle.tpl_kept.specs.Rounds.{done_of, was_of}
use Rattle.tpl_kept.proofs.Renewals.Nameless.{all_front, few_read, no_front}
use Rattle.tpl_kept.proofs.Renewals.Rounds.{drop_more}
use Rattle.tpl_kept.proofs.renewing.staying.keep_front.Goals as goal

pub returns-then-not-hears_first : goal.returns-then-not-hears_first
returns-then-not-hears_first c =
    no_front (drop c.args.at (listed c.args.rows)) (was_of c.args.round.now) (done_of c.args.round.now) (map changed c.args.changes.now.items)

pub count_front-count-requires : goal.count_front-count-requires
count_front-count-requires c = λ silent.
    let most : length (drop c.args.at (listed c.args.rows)) ≡ c.saturating_sub-most.result =
    length-drop c.args.at (listed c.args.rows) ∙ (ap (λ z. z - c.args.at) (sym c.count_places.ensures) ∙ sym c.saturating_sub-most.ensures) in
    subst (λ z. AreNameless z (map kept c.left.result.now)) most
    (subst (AreNameless (length (drop c.args.at (listed c.args.rows)))) (sym c.left.ensures) (c.requires silent))

pub keep-requires : goal.keep-requires
keep-requires c =
    few_read c.count_front-count.result (was_of c.args.round.now) (subst (ReadNone c.count_front-count.result) c.left.ensures c.count_front-count.ensures.none)

pub returns : goal.returns
returns c =
    let rows = listed c.args.rows in
    let at = c.args.at in
    let n = c.count_front-count.result in
    let most : length (drop at rows) ≡ c.saturating_sub-most.result =
    length-drop at rows ∙ (ap (λ z. z - at) (sym c.count_places.ensures) ∙ sym c.saturating_sub-most.ensures) in
    let few = c.count_front-count.ensures.most in
    all_front n (drop at rows) (drop (at + n) rows) (was_of c.args.round.now) (was_of c.keep.new.self) (done_of c.args.round.now) (done_of c.keep.new.self)
    (map changed c.args.changes.now.items) (map changed c.put_stays.new.changes.items) (omega (arith, most, few))
    (subst (ReadNone n) c.left.ensures c.count_front-count.ensures.none) (drop_more at n rows) c.keep.ensures.later c.keep.ensures.done c.in_ok-put_stays.ensures
