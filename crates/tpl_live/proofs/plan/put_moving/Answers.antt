use Rattle.std.proofs.Common.{◌++◌, ◌∷◌, [], append-nil, if◌then◌else◌, map, sym, ap, ◌∙◌}
use Rattle.std.proofs.lemmas.List.{map-append}
use Rattle.tpl_model.specs.ShownNodes.Shapes.{mark_of}
use Rattle.tpl_live.proofs.plan.put_moving.Goals as goal

pub returns-then-keeps_children : goal.returns-then-keeps_children
returns-then-keeps_children c =
    sym (append-nil (map mark_of c.args.out.now.items))
    ∙ ap (λ b. map mark_of c.args.out.now.items ++ ((if b then [] else mark_of c.args.mark ∷ []) ++ [])) (sym (sym c.keeps_children.ensures ∙ c.if-keeps_children.true))

pub returns : goal.returns
returns c =
    ap (map mark_of) c.in_ok-push.ensures.items
    ∙ (map-append mark_of c.args.out.now.items _
    ∙ ap (λ b. map mark_of c.args.out.now.items ++ ((if b then [] else mark_of c.args.mark ∷ []) ++ [])) (sym (sym c.keeps_children.ensures ∙ c.if-keeps_children.false)))
