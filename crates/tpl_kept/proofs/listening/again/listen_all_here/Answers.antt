use Rattle.std.proofs.Common.{◌≡◌, ◌++◌, ◌∙◌, map, true, false, ap}
use Rattle.std.specs.Option.{option_copied}
use Rattle.sig_formula.specs.Trees.{tree}
use Rattle.tpl_model.specs.PageUpdates.PageMemos.{all_names}
use Rattle.tpl_hearing.proofs.Shared.{still_compared, then_heard}
use Rattle.tpl_model.specs.KeptLines.Kept.{heard_of}
use Rattle.tpl_kept.proofs.Listened.Reuse.{all_stayed, all_remade}
use Rattle.tpl_kept.proofs.Listened.Splits.{again_as}
use Rattle.tpl_kept.proofs.listening.again.listen_all_here.Goals as goal

pub returns-then-branch-clause-heard : goal.returns-then-branch-clause-heard
returns-then-branch-clause-heard g c =
    let ids : c.deref-2.result.now ≡ all_names (map heard_of c.args.all.now.items) =
    c.deref-2.ensures.value
    ∙ (c.in_ok-put_each.ensures
    ∙ (ap (λ z. z ++ all_names (map heard_of c.deref.result.now)) c.new-ids.ensures.items
    ∙ ap (λ z. all_names (map heard_of z)) c.deref.ensures.value)) in
    all_stayed (map (λ a. (a.0, tree a.1)) c.args.attributes.now) c.args.links.now (option_copied c.args.row) c.args.before.now c.args.hearing.now.heard
    c.hear_again.new.hearing.heard (map heard_of c.args.all.now.items) c.requires.was
    (again_as c.in_ok-hear_again.field-0 true c.args.before.now c.deref-2.result.now (all_names (map heard_of c.args.all.now.items)) c.args.hearing.now.heard
    c.hear_again.new.hearing.heard c.if-branch.true ids c.in_ok-hear_again.ensures.again)

pub returns-clause-heard : goal.returns-clause-heard
returns-clause-heard g c =
    let ids : c.deref-2.result.now ≡ all_names (map heard_of c.args.all.now.items) =
    c.deref-2.ensures.value
    ∙ (c.in_ok-put_each.ensures
    ∙ (ap (λ z. z ++ all_names (map heard_of c.deref.result.now)) c.new-ids.ensures.items
    ∙ ap (λ z. all_names (map heard_of z)) c.deref.ensures.value)) in
    all_remade (map (λ a. (a.0, tree a.1)) c.args.attributes.now) c.args.links.now (option_copied c.args.row) c.args.before.now c.args.hearing.now.heard
    c.hear_again.new.hearing.heard c.listen_all.new.heard (map heard_of c.args.all.now.items) (map heard_of c.in_ok-next.next.items) c.requires.was
    (again_as c.in_ok-hear_again.field-0 false c.args.before.now c.deref-2.result.now (all_names (map heard_of c.args.all.now.items)) c.args.hearing.now.heard
    c.hear_again.new.hearing.heard c.if-branch.false ids c.in_ok-hear_again.ensures.again)
    c.in_ok-next.ensures.after.grows c.in_ok-next.ensures.heard

pub returns-clause-after : goal.returns-clause-after
returns-clause-after g c = then_heard _ _ _ _ _ _ _ _ _ c.in_ok-hear_again.ensures.after c.in_ok-next.ensures.after

pub returns-clause-compared : goal.returns-clause-compared
returns-clause-compared g c =
    still_compared c.args.before.now c.hear_again.new.hearing.heard c.listen_all.new.heard c.hear_again.new.hearing.compared c.in_ok-next.ensures.after.grows
    c.in_ok-hear_again.ensures.compared
