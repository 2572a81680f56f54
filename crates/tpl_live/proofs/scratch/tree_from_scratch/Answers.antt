use Rattle.std.proofs.Common.{◌≡◌, ◌<◌, length, map, sym, ap, refl, subst, ◌∙◌, Some, None, arith}
use Rattle.page_tree.specs.Subs.{side_by_side, sub_tree}
use Rattle.tpl_blocks.specs.Blocks.{lines_of}
use Rattle.tpl_model.specs.Sources.{known_page, needed}
use Rattle.tpl_scratch.specs.Scratch.{IsScratch}
use Rattle.signal_laws.specs.ReadLaws.{with_name}
use Rattle.std.specs.Map.{keys_of}
use Rattle.tpl_hearing.specs.Heard.{heard_of}
use Rattle.tpl_model.proofs.Shared.{inside_law}
use Rattle.tpl_live.proofs.Outcomes.{at_place, fewer_unknown, known_inserted, known_settles, known_tree, learnt_more, nothing_learnt}
use Rattle.tpl_live.proofs.scratch.tree_from_scratch.Goals as goal

pub asking-init : goal.asking-init
asking-init g c =
    let worn = c.requires.worn in
    let room = c.requires.room in
    record {
      learning = nothing_learnt _ _ (lines_of c.args.template.now) c.args.links.now c.in_ok-known.known.items c.new-heard.result (length c.args.links.now)
          refl c.in_ok-known.ensures c.new-heard.ensures c.requires.idle;
      can = record { idle = c.requires.idle; there = c.requires.there; worn = omega (arith, worn); room = omega (arith, room) };
      counted = c.requires.counted;
    }

pub tree_below-requires : goal.tree_below-requires
tree_below-requires g c =
    let lines = lines_of c.args.template.now in
    let shown = subst (IsScratch c.deref.result.now lines) c.in-Page.is c.in_ok-name.ensures in
    let below = side_by_side (map sub_tree c.in-Page.subs.items) in
    let is : below ≡ known_page c.asking.known.items lines = shown.1 ∙ ap (λ k. known_page k lines) c.deref.ensures.value in
    known_inserted _ _ _ _ lines c.args.links.now c.asking.known.items c.asking.heard below c.asking.invariant.learning c.good.ensures c.requires.template is

pub returns-in-Page-clause-tree : goal.returns-in-Page-clause-tree
returns-in-Page-clause-tree g c = λ hosts all kept.
    let lines = lines_of c.args.template.now in
    let shown = subst (IsScratch c.deref.result.now lines) c.in-Page.is c.in_ok-name.ensures in
    let below = side_by_side (map sub_tree c.in-Page.subs.items) in
    let is : below ≡ known_page c.asking.known.items lines = shown.1 ∙ ap (λ k. known_page k lines) c.deref.ensures.value in
    let end : needed c.asking.known.items lines ≡ None = ap (λ k. needed k lines) (sym c.deref.ensures.value) ∙ shown.0 in
    known_tree _ _ _ _ lines c.args.links.now c.asking.known.items c.asking.heard below c.in_ok-tree-in-Page.tree c.asking.invariant.learning c.good.ensures
    c.requires.template end is c.in_ok-tree-in-Page.ensures hosts all kept

pub returns-in-Page-clause-settles : goal.returns-in-Page-clause-settles
returns-in-Page-clause-settles g c =
    let lines = lines_of c.args.template.now in
    let shown = subst (IsScratch c.deref.result.now lines) c.in-Page.is c.in_ok-name.ensures in
    let end : needed c.asking.known.items lines ≡ None = ap (λ k. needed k lines) (sym c.deref.ensures.value) ∙ shown.0 in
    known_settles _ _ _ _ lines c.args.links.now c.asking.known.items c.asking.heard c.asking.invariant.learning end

pub bounds-links-name : goal.bounds-links-name
bounds-links-name g c =
    let lines = lines_of c.args.template.now in
    let need : needed c.asking.known.items lines ≡ Some c.in-Ask.name = ap (λ k. needed k lines) (sym c.deref.ensures.value)
    ∙ subst (IsScratch c.deref.result.now lines) c.in-Ask.is c.in_ok-name.ensures in
    subst (λ k. c.in-Ask.name < k) c.asking.invariant.learning.count (inside_law lines c.asking.known.items c.in-Ask.name need)

pub put_outcome-requires : goal.put_outcome-requires
put_outcome-requires g c =
    let lines = lines_of c.args.template.now in
    let need : needed c.asking.known.items lines ≡ Some c.in-Ask.name = ap (λ k. needed k lines) (sym c.deref.ensures.value)
    ∙ subst (IsScratch c.deref.result.now lines) c.in-Ask.is c.in_ok-name.ensures in
    inside_law lines c.asking.known.items c.in-Ask.name need

pub asking-smaller : goal.asking-smaller
asking-smaller g c =
    let lines = lines_of c.args.template.now in
    let need : needed c.asking.known.items lines ≡ Some c.in-Ask.name = ap (λ k. needed k lines) (sym c.deref.ensures.value)
    ∙ subst (IsScratch c.deref.result.now lines) c.in-Ask.is c.in_ok-name.ensures in
    fewer_unknown c.asking.known.items c.put_outcome.new.known.items lines c.in-Ask.name c.in_ok-outcome.outcome need c.put_outcome.ensures

pub asking-preserved : goal.asking-preserved
asking-preserved g c =
    let lines = lines_of c.args.template.now in
    let links = c.args.links.now in
    let i = c.in-Ask.name in
    let l = c.asking.invariant.learning in
    let h = c.in_ok-outcome.ensures in
    let need : needed c.asking.known.items lines ≡ Some i = ap (λ k. needed k lines) (sym c.deref.ensures.value)
    ∙ subst (IsScratch c.deref.result.now lines) c.in-Ask.is c.in_ok-name.ensures in
    let at = at_place links i c.index-links-name.result (subst (λ k. i < k) l.count (inside_law lines c.asking.known.items i need)) c.index-links-name.is in
    record {
      learning = learnt_more _ _ _ _ _ _ lines links c.asking.known.items c.put_outcome.new.known.items c.asking.heard c.hear.new.heard i c.in_ok-outcome.outcome
          l need h.after (h.names ∙ ap (with_name (keys_of c.asking.heard)) at) (ap (heard_of c.hear.new.heard) (sym at) ∙ h.outcome) c.put_outcome.ensures;
      can = h.can;
      counted = h.counted;
    }
