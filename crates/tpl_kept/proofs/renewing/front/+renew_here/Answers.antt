use Rattle.std.proofs.Common.{Global, Vec, false, map, refl, sym, ap, subst, ◌∙◌, arith, true}
use Rattle.std.specs.Box.{box_value}
use Rattle.std.specs.Option.{option_copied}
use Rattle.sig_formula.specs.Trees.{tree}
use Rattle.tpl_blocks.specs.Blocks.{block}
use Rattle.tpl_hearing.proofs.Shared.{then_heard}
use Rattle.tpl_model.specs.declared.memo.Heard.{Heard}
use Rattle.tpl_model.specs.PageUpdates.PageMemos.{names}
use Rattle.tpl_model.specs.KeptLines.Before.{WasListened, WasListenedAll, WasMade}
use Rattle.tpl_model.specs.KeptLines.Changes.{chain, changed, over}
use Rattle.tpl_model.specs.KeptLines.Kept.{heard_of, kept}
use Rattle.tpl_model.specs.KeptLines.Memos.{lines_memo}
use Rattle.tpl_model.proofs.MemoEquations.{kept_element, kept_line}
use Rattle.tpl_kept.specs.Heads.{attributes_in, inner_in}
use Rattle.tpl_kept.specs.Renewals.{AreLooked}
use Rattle.tpl_kept.proofs.Listened.Reuse.{stayed}
use Rattle.tpl_kept.proofs.Listened.Splits.{changed_remade}
use Rattle.tpl_kept.proofs.Renewals.Fronts.{all_stay, behind_less, inside_less, tag_before, tag_renewed, tag_told, text_before, text_first, text_less, text_renewed, text_told}
use Rattle.tpl_kept.proofs.renewing.front.+renew_here.Goals as goal

-- ---- all of them stay

pub returns-then-branch-clause-made : goal.returns-then-branch-clause-made
returns-then-branch-clause-made g t c =
    let m = kept c.args.memo.now in
    let a = c.args.hearing.now.heard in
    let mid = c.stays_here.new.hearing.heard in
    stayed (block c.args.lines.now) c.args.links.now (option_copied c.args.row) c.args.before.now a mid m c.requires.was
    (subst (λ z. AreLooked z c.args.before.now (names m) a mid) c.if-branch.true c.in_ok-stays_here.ensures.looked)

pub returns-then-branch-clause-told : goal.returns-then-branch-clause-told
returns-then-branch-clause-told g t c =
    let m = kept c.args.memo.now in
    all_stay (block c.args.lines.now) c.args.links.now (option_copied c.args.row) c.args.before.now m m (changed c.stays.result) c.requires.was refl
    c.stays.ensures

-- ---- a text

pub formula_of-formula-requires : goal.formula_of-formula-requires
formula_of-formula-requires g t c =
    text_first (block c.args.lines.now) c.args.links.now (option_copied c.args.row) c.args.before.now (kept c.args.memo.now) (heard_of c.in-Line.line)
    (kept (box_value c.in-Line.later)) c.requires.was (ap kept c.in-Line.is ∙ kept_line c.in-Line.line c.in-Line.later)

pub hear_text-requires-clause-was : goal.hear_text-requires-clause-was
hear_text-requires-clause-was g t c =
    let b = block c.args.lines.now in
    let f = tree c.formula_of-formula.result.now in
    let rest = block c.rest_of-rest.result.now in
    let row = option_copied c.args.row in
    let m = kept c.args.memo.now in
    let h = heard_of c.in-Line.line in
    let r = kept (box_value c.in-Line.later) in
    let x = text_before b f rest c.args.links.now row c.args.before.now m h r c.formula_of-formula.ensures c.rest_of-rest.ensures
    (ap kept c.in-Line.is ∙ kept_line c.in-Line.line c.in-Line.later) c.requires.was in
    subst (λ z. WasListened f c.args.links.now row c.args.before.now (heard_of z)) (sym c.in-Line.line-is) x.heard

pub renew_here-requires : goal.renew_here-requires
renew_here-requires g t c =
    let b = block c.args.lines.now in
    let f = tree c.formula_of-formula.result.now in
    let rest = block c.rest_of-rest.result.now in
    let row = option_copied c.args.row in
    let m = kept c.args.memo.now in
    let h = heard_of c.in-Line.line in
    let r = kept (box_value c.in-Line.later) in
    let x = text_before b f rest c.args.links.now row c.args.before.now m h r c.formula_of-formula.ensures c.rest_of-rest.ensures
    (ap kept c.in-Line.is ∙ kept_line c.in-Line.line c.in-Line.later) c.requires.was in
    let less = text_less b f rest c.args.links.now row c.args.before.now m h r x in
    let e = c.in_ok-heard-in-Line.ensures in
    let place = c.deref_mut.ensures.value ∙ ap box_value c.in-Line.later-is in (
      omega (arith, less),
      (
        c.requires.place,
        (
          e.can,
          (
            e.counted,
            (e.compared, subst (λ z. WasMade (lines_memo rest) c.args.links.now row c.args.before.now (kept z)) (sym place) x.behind),
          ),
        ),
      ),
    )

pub returns-in_ok-over-in-Line-clause-made : goal.returns-in_ok-over-in-Line-clause-made
returns-in_ok-over-in-Line-clause-made g t c =
    let b = block c.args.lines.now in
    let f = tree c.formula_of-formula.result.now in
    let rest = block c.rest_of-rest.result.now in
    let row = option_copied c.args.row in
    let m = kept c.args.memo.now in
    let h = heard_of c.in-Line.line in
    let r = kept (box_value c.in-Line.later) in
    let x = text_before b f rest c.args.links.now row c.args.before.now m h r c.formula_of-formula.ensures c.rest_of-rest.ensures
    (ap kept c.in-Line.is ∙ kept_line c.in-Line.line c.in-Line.later) c.requires.was in
    let a = c.args.hearing.now.heard in
    let mid = c.stays_here.new.hearing.heard in
    let e = c.in_ok-heard-in-Line.ensures in
    let l = c.in_ok-behind-in-Line.ensures in
    text_renewed b f rest c.args.links.now row c.args.before.now a mid c.hear_text.new.hearing.heard c.renew_here.new.hearing.heard m h r
    (heard_of c.hear_text.new.line) (kept c.renew_here.new.memo) _ x
    (subst (λ z. AreLooked z c.args.before.now (names m) a mid) c.if-branch.false c.in_ok-stays_here.ensures.looked) e.heard e.after.grows l.made l.after.grows
    (kept_line _ _)

pub returns-in_ok-over-in-Line-clause-told : goal.returns-in_ok-over-in-Line-clause-told
returns-in_ok-over-in-Line-clause-told g t c =
    let b = block c.args.lines.now in
    let f = tree c.formula_of-formula.result.now in
    let rest = block c.rest_of-rest.result.now in
    let row = option_copied c.args.row in
    let m = kept c.args.memo.now in
    let h = heard_of c.in-Line.line in
    let r = kept (box_value c.in-Line.later) in
    let x = text_before b f rest c.args.links.now row c.args.before.now m h r c.formula_of-formula.ensures c.rest_of-rest.ensures
    (ap kept c.in-Line.is ∙ kept_line c.in-Line.line c.in-Line.later) c.requires.was in
    let same = c.in_ok-heard-in-Line.heard in
    let later = changed c.in_ok-behind-in-Line.behind in
    text_told b f rest c.args.links.now row c.args.before.now m h r same (heard_of c.hear_text.new.line) (kept c.renew_here.new.memo) _ later
    (changed c.in_ok-over-in-Line.field-0) x c.in_ok-heard-in-Line.ensures.same c.in_ok-behind-in-Line.ensures.told (kept_line _ _)
    (c.in_ok-over-in-Line.ensures ∙ ap (λ z. over same (chain (map changed z)) later) c.new.ensures.items)

pub returns-in_ok-over-in-Line-clause-after : goal.returns-in_ok-over-in-Line-clause-after
returns-in_ok-over-in-Line-clause-after g t c =
    then_heard _ _ _ _ _ _ _ _ _ c.in_ok-stays_here.ensures.after
    (then_heard _ _ _ _ _ _ _ _ _ c.in_ok-heard-in-Line.ensures.after c.in_ok-behind-in-Line.ensures.after)

-- ---- an element

pub hear_element-requires-clause-was : goal.hear_element-requires-clause-was
hear_element-requires-clause-was g t c =
    let b = block c.args.lines.now in
    let row = option_copied c.args.row in
    let xs = attributes_in b in
    let x = tag_before b xs (inner_in b false) (block c.rest_of-rest.result.now) c.args.links.now row c.args.before.now (kept c.args.memo.now)
    (map heard_of c.in-Element.all.items) (kept (box_value c.in-Element.held)) (kept (box_value c.in-Element.later)) refl refl
    c.rest_of-rest.ensures (ap kept c.in-Element.is ∙ kept_element c.in-Element.all c.in-Element.held c.in-Element.later) c.requires.was in
    subst (λ (z : Vec Heard Global). WasListenedAll xs c.args.links.now row c.args.before.now (map heard_of z.items)) (sym c.in-Element.all-is) x.parts.all

pub renew_here-requires-in-Element : goal.renew_here-requires-in-Element
renew_here-requires-in-Element g t c =
    let b = block c.args.lines.now in
    let xs = attributes_in b in
    let inner = block c.inner_of-inner.result.now in
    let rest = block c.rest_of-rest.result.now in
    let row = option_copied c.args.row in
    let m = kept c.args.memo.now in
    let hs = map heard_of c.in-Element.all.items in
    let i = kept (box_value c.in-Element.held) in
    let r = kept (box_value c.in-Element.later) in
    let x = tag_before b xs inner rest c.args.links.now row c.args.before.now m hs i r refl c.inner_of-inner.ensures
    c.rest_of-rest.ensures (ap kept c.in-Element.is ∙ kept_element c.in-Element.all c.in-Element.held c.in-Element.later) c.requires.was in
    let less = inside_less b xs inner rest c.args.links.now row c.args.before.now m hs i r x in
    let e = c.in_ok-heard-in-Element.ensures in
    let place = c.deref_mut-in-Element.ensures.value ∙ ap box_value c.in-Element.held-is in (
      omega (arith, less),
      (
        c.requires.place,
        (
          e.can,
          (
            e.counted,
            (e.compared, subst (λ z. WasMade (lines_memo inner) c.args.links.now row c.args.before.now (kept z)) (sym place) x.parts.inside),
          ),
        ),
      ),
    )

pub renew_here-requires-in-Element-2 : goal.renew_here-requires-in-Element-2
renew_here-requires-in-Element-2 g t c =
    let b = block c.args.lines.now in
    let xs = attributes_in b in
    let inner = block c.inner_of-inner.result.now in
    let rest = block c.rest_of-rest.result.now in
    let row = option_copied c.args.row in
    let m = kept c.args.memo.now in
    let hs = map heard_of c.in-Element.all.items in
    let i = kept (box_value c.in-Element.held) in
    let r = kept (box_value c.in-Element.later) in
    let x = tag_before b xs inner rest c.args.links.now row c.args.before.now m hs i r refl c.inner_of-inner.ensures
    c.rest_of-rest.ensures (ap kept c.in-Element.is ∙ kept_element c.in-Element.all c.in-Element.held c.in-Element.later) c.requires.was in
    let less = behind_less b xs inner rest c.args.links.now row c.args.before.now m hs i r x in
    let e = c.in_ok-told-in-Element.ensures in
    let place = c.deref_mut-in-Element-2.ensures.value ∙ ap box_value c.in-Element.later-is in (
      omega (arith, less),
      (
        c.requires.place,
        (
          e.can,
          (
            e.counted,
            (e.compared, subst (λ z. WasMade (lines_memo rest) c.args.links.now row c.args.before.now (kept z)) (sym place) x.parts.later),
          ),
        ),
      ),
    )

pub returns-in_ok-over-in-Element-clause-made : goal.returns-in_ok-over-in-Element-clause-made
returns-in_ok-over-in-Element-clause-made g t c =
    let b = block c.args.lines.now in
    let xs = attributes_in b in
    let inner = block c.inner_of-inner.result.now in
    let rest = block c.rest_of-rest.result.now in
    let row = option_copied c.args.row in
    let m = kept c.args.memo.now in
    let hs = map heard_of c.in-Element.all.items in
    let i = kept (box_value c.in-Element.held) in
    let r = kept (box_value c.in-Element.later) in
    let x = tag_before b xs inner rest c.args.links.now row c.args.before.now m hs i r refl c.inner_of-inner.ensures
    c.rest_of-rest.ensures (ap kept c.in-Element.is ∙ kept_element c.in-Element.all c.in-Element.held c.in-Element.later) c.requires.was in
    let a = c.args.hearing.now.heard in
    let mid = c.stays_here.new.hearing.heard in
    let e = c.in_ok-heard-in-Element.ensures in
    let k = c.in_ok-told-in-Element.ensures in
    let l = c.in_ok-behind-in-Element.ensures in
    tag_renewed b xs inner rest c.args.links.now row c.args.before.now a mid c.hear_element.new.hearing.heard c.renew_here-in-Element.new.hearing.heard
    c.renew_here-in-Element-2.new.hearing.heard m hs i r (map heard_of c.hear_element.new.all.items) (kept c.renew_here-in-Element.new.memo)
    (kept c.renew_here-in-Element-2.new.memo) _ x
    (subst (λ z. AreLooked z c.args.before.now (names m) a mid) c.if-branch.false c.in_ok-stays_here.ensures.looked) e.heard e.after.grows k.made k.after.grows
    l.made l.after.grows (kept_element _ _ _)

pub returns-in_ok-over-in-Element-clause-told : goal.returns-in_ok-over-in-Element-clause-told
returns-in_ok-over-in-Element-clause-told g t c =
    let b = block c.args.lines.now in
    let xs = attributes_in b in
    let inner = block c.inner_of-inner.result.now in
    let rest = block c.rest_of-rest.result.now in
    let row = option_copied c.args.row in
    let m = kept c.args.memo.now in
    let hs = map heard_of c.in-Element.all.items in
    let i = kept (box_value c.in-Element.held) in
    let r = kept (box_value c.in-Element.later) in
    let x = tag_before b xs inner rest c.args.links.now row c.args.before.now m hs i r refl c.inner_of-inner.ensures
    c.rest_of-rest.ensures (ap kept c.in-Element.is ∙ kept_element c.in-Element.all c.in-Element.held c.in-Element.later) c.requires.was in
    tag_told b xs inner rest c.args.links.now row c.args.before.now m hs i r c.in_ok-heard-in-Element.heard (map heard_of c.hear_element.new.all.items)
    (kept c.renew_here-in-Element.new.memo) (kept c.renew_here-in-Element-2.new.memo) _ (map changed c.in_ok-told-in-Element-2.told.items)
    (changed c.in_ok-told-in-Element.told) (changed c.in_ok-behind-in-Element.behind) (changed c.in_ok-over-in-Element.field-0) x
    c.in_ok-heard-in-Element.ensures.same c.in_ok-told-in-Element.ensures.told c.in_ok-behind-in-Element.ensures.told (kept_element _ _ _)
    c.in_ok-told-in-Element-2.ensures c.in_ok-over-in-Element.ensures

pub returns-in_ok-over-in-Element-clause-after : goal.returns-in_ok-over-in-Element-clause-after
returns-in_ok-over-in-Element-clause-after g t c =
    then_heard _ _ _ _ _ _ _ _ _ c.in_ok-stays_here.ensures.after
    (then_heard _ _ _ _ _ _ _ _ _ c.in_ok-heard-in-Element.ensures.after
    (then_heard _ _ _ _ _ _ _ _ _ c.in_ok-told-in-Element.ensures.after c.in_ok-behind-in-Element.ensures.after))

-- ---- any other line

pub returns-in_ok-renew_other-in_default : goal.returns-in_ok-renew_other-in_default
returns-in_ok-renew_other-in_default g t c =
    let m = kept c.args.memo.now in
    let a = c.args.hearing.now.heard in
    let mid = c.stays_here.new.hearing.heard in
    let e = c.in_ok-renew_other-in_default.ensures in
    record {
      made = changed_remade (block c.args.lines.now) c.args.links.now (option_copied c.args.row) c.args.before.now a mid c.renew_other.new.hearing.heard m
          (kept c.renew_other.new.memo) c.requires.was
          (subst (λ z. AreLooked z c.args.before.now (names m) a mid) c.if-branch.false c.in_ok-stays_here.ensures.looked) e.after.grows e.made;
      told = e.told;
      after = then_heard _ _ _ _ _ _ _ _ _ c.in_ok-stays_here.ensures.after e.after;
      can = e.can;
      counted = e.counted;
      compared = e.compared;
    }
