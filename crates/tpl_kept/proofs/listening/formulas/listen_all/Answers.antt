use Rattle.std.proofs.Common.{◌∙◌, ap, drop, map, take, [], false, refl, sym, subst, take-append-drop, ◌+◌}
use Rattle.std.specs.Prelude.{◌&&◌}
use Rattle.std.specs.Option.{option_copied}
use Rattle.std.proofs.lemmas.Bool.{and_right}
use Rattle.std.proofs.lemmas.List.{map-append}
use Rattle.sig_formula.specs.Trees.{tree}
use Rattle.tpl_model.specs.KeptLines.Kept.{heard_of}
use Rattle.tpl_model.specs.KeptLines.Memos.{ListensUpTo}
use Rattle.tpl_model.specs.PageUpdates.PageMemos.{any_fault}
use Rattle.tpl_hearing.proofs.Shared.{nothing_heard, then_heard}
use Rattle.tpl_kept.proofs.Listened.Sequences.{mapped_more, mapped_put, none_listened, one_listened, one_over, others_unheard, still_on}
use Rattle.tpl_kept.proofs.listening.formulas.listen_all.Goals as goal

pub loop-attribute-init : goal.loop-attribute-init
loop-attribute-init g c = record {
  heard = subst (λ z. ListensUpTo c.args.ends [] c.args.links.now (option_copied c.args.row) c.args.heard.now c.args.heard.now (map heard_of z))
      (sym c.new-all.ensures.items) (none_listened c.args.ends c.args.links.now (option_copied c.args.row) c.args.heard.now);
  on = ap (λ z. c.args.ends && any_fault (map heard_of z)) c.new-all.ensures.items ∙ and_right c.args.ends false refl;
  after = nothing_heard _ _ c.args.heard.now c.requires.can.idle;
  can = c.requires.can;
  counted = c.requires.counted;
}

pub loop-attribute-preserved : goal.loop-attribute-preserved
loop-attribute-preserved g c =
    let h = c.in_ok-one.ensures in
    let i = c.loop-attribute.invariant in
    let x = c.attribute-item.result in
    let put = mapped_put heard_of c.loop-attribute.all.items c.push.new.self.items c.in_ok-one.one c.in_ok-push.ensures.items in
    record {
      heard = one_listened c.args.ends c.args.links.now (option_copied c.args.row) (map (λ a. (a.0, tree a.1)) (take c.loop-attribute.attribute-index c.args.attributes.now))
          (map (λ a. (a.0, tree a.1)) (take (c.loop-attribute.attribute-index + 1) c.args.attributes.now)) (x.0, tree x.1) c.args.heard.now c.loop-attribute.heard
          c.listen.new.heard (map heard_of c.loop-attribute.all.items) (map heard_of c.push.new.self.items) (heard_of c.in_ok-one.one) i.heard i.on h.after.grows h.heard
          (mapped_more (λ a. (a.0, tree a.1)) c.args.attributes.now c.loop-attribute.attribute-index x c.loop-attribute-test.true c.attribute-item.is) put;
      on = still_on c.args.ends (map heard_of c.loop-attribute.all.items) (map heard_of c.push.new.self.items) (heard_of c.in_ok-one.one) c.is_over-over.result i.on
          (c.is_over-over.ensures ∙ ap (λ z. c.args.ends && z) c.is_fault.ensures) c.if-over.false put;
      after = then_heard _ _ _ _ _ _ _ _ _ i.after h.after;
      can = h.can;
      counted = h.counted;
    }

pub returns-then-over-clause-heard : goal.returns-then-over-clause-heard
returns-then-over-clause-heard g c =
    let h = c.in_ok-one.ensures in
    let i = c.loop-attribute.invariant in
    let x = c.attribute-item.result in
    let put = mapped_put heard_of c.loop-attribute.all.items c.push.new.self.items c.in_ok-one.one c.in_ok-push.ensures.items in
    let next = c.loop-attribute.attribute-index + 1 in
    others_unheard c.args.ends c.args.links.now (option_copied c.args.row) (map (λ a. (a.0, tree a.1)) (take next c.args.attributes.now))
    (map (λ a. (a.0, tree a.1)) (drop next c.args.attributes.now)) (map (λ a. (a.0, tree a.1)) c.args.attributes.now) c.args.heard.now c.listen.new.heard
    (map heard_of c.push.new.self.items)
    (one_listened c.args.ends c.args.links.now (option_copied c.args.row) (map (λ a. (a.0, tree a.1)) (take c.loop-attribute.attribute-index c.args.attributes.now))
    (map (λ a. (a.0, tree a.1)) (take next c.args.attributes.now)) (x.0, tree x.1) c.args.heard.now c.loop-attribute.heard
    c.listen.new.heard (map heard_of c.loop-attribute.all.items) (map heard_of c.push.new.self.items) (heard_of c.in_ok-one.one) i.heard i.on h.after.grows h.heard
    (mapped_more (λ a. (a.0, tree a.1)) c.args.attributes.now c.loop-attribute.attribute-index x c.loop-attribute-test.true c.attribute-item.is) put)
    (one_over c.args.ends (map heard_of c.loop-attribute.all.items) (map heard_of c.push.new.self.items) (heard_of c.in_ok-one.one) c.is_over-over.result
    (c.is_over-over.ensures ∙ ap (λ z. c.args.ends && z) c.is_fault.ensures) c.if-over.true put)
    (ap (map (λ a. (a.0, tree a.1))) (sym (take-append-drop next c.args.attributes.now))
    ∙ map-append (λ a. (a.0, tree a.1)) (take next c.args.attributes.now) (drop next c.args.attributes.now))

pub returns-then-over-clause-after : goal.returns-then-over-clause-after
returns-then-over-clause-after g c = then_heard _ _ _ _ _ _ _ _ _ c.loop-attribute.invariant.after c.in_ok-one.ensures.after
