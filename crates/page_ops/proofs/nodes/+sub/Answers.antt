use Rattle.std.proofs.Common.{◌≡◌, ◌-◌, ◌≤◌, ◌∷◌, suc, false, length, drop, map, sym, ap, ◌∙◌, arith}
use Rattle.std.specs.Prelude.{nat_lt}
use Rattle.std.specs.List.{prefix_len}
use Rattle.std.proofs.lemmas.Bool.{and_parts}
use Rattle.std.proofs.lemmas.List.{length-drop}
use Rattle.sig_base.specs.Words.{in_tag}
use Rattle.page_model.specs.Forest.{node, none, after}
use Rattle.page_model.specs.Labels.{Text, Element}
use Rattle.page_tree.specs.Subs.{side_by_side, sub_tree}
use Rattle.page_tree.proofs.Shared.{tree_element, tree_text}
use Rattle.page_ops.specs.Parser.{begins_node, behind_quote}
use Rattle.page_ops.proofs.Nested.{below_one, element_node, element_read, fit_after, fit_below, fit_element, fit_none, fit_text, front_shorter, nodes_end, nodes_go, subs_put, text_node, text_shorter}
use Rattle.page_ops.proofs.Quotes.{behind_quoted}
use Rattle.page_ops.proofs.nodes.+sub.Goals as goal

pub returns-then-byte_at-eq34-clause-fit : goal.returns-then-byte_at-eq34-clause-fit
returns-then-byte_at-eq34-clause-fit t c = rw (tree_text c.number_at-number.result.0 c.in_ok-text.text) (fit_text c.args.levels c.number_at-number.result.0 c.in_ok-text.text c.number_at-number.ensures.number c.in_ok-text.ensures.text)

pub returns-then-byte_at-eq34-clause-shorter : goal.returns-then-byte_at-eq34-clause-shorter
returns-then-byte_at-eq34-clause-shorter t c = text_shorter c.args.bytes.now c.number_at-number.result.1.now c.behind-label.result.now c.behind_literal.result.now c.behind.result.now c.number_at-number.ensures.shorter c.behind-label.ensures c.behind_literal.ensures c.behind.ensures

pub returns-then-byte_at-eq34-clause-same : goal.returns-then-byte_at-eq34-clause-same
returns-then-byte_at-eq34-clause-same t c = λ n x k rest fit e.
    let is = text_node c.args.levels c.number_at-number.result.0 n x k c.args.bytes.now c.number_at-number.result.1.now c.behind-label.result.now rest fit e c.number_at-number.ensures.same c.behind-label.ensures (sym c.byte_at.ensures ∙ c.if-byte_at-eq34.true) in
    let says = c.in_ok-text.ensures.same is.text (41 ∷ rest) is.is_text is.written in (
      tree_text c.number_at-number.result.0 c.in_ok-text.text
          ∙ (ap (λ m. node m (Text c.in_ok-text.text) none none) is.numbered
          ∙ (ap (λ u. node n (Text u) none none) says
          ∙ (ap (λ y. node n y none none) (sym is.is) ∙ ap (λ z. node n x z none) (sym is.bare)))),
      c.behind.ensures ∙ (ap (drop 1) c.behind_literal.ensures ∙ ap (drop 1) (ap (λ zs. behind_quote false (drop 1 zs)) is.written ∙ behind_quoted is.text (41 ∷ rest))),
    )

pub loop-alloc-init : goal.loop-alloc-init
loop-alloc-init t c =
    let no_subs : side_by_side (map sub_tree c.new-subs.result.items) ≡ none = ap (λ ss. side_by_side (map sub_tree ss)) c.new-subs.ensures.items in
    let less : length c.in_ok-attributes.children.now ≤ length c.word.result.1.now = c.in_ok-attributes.ensures.shorter in
    let label : length c.behind-label.result.now ≡ length c.number_at-number.result.1.now - 1 = ap length c.behind-label.ensures ∙ length-drop 1 c.number_at-number.result.1.now in
    let number : length c.number_at-number.result.1.now ≤ length c.args.bytes.now = c.number_at-number.ensures.shorter in
    let word = front_shorter c.args.bytes.now c.behind-label.result.now c.word.result.1.now (prefix_len in_tag c.behind-label.result.now) (omega arith) c.word.ensures.behind in
    record {
      fit = rw no_subs (fit_none c.args.levels);
      shorter = omega arith;
      leads = λ n x k rest fit e.
          let is = element_node c.args.levels c.number_at-number.result.0 n x k c.args.bytes.now c.number_at-number.result.1.now c.behind-label.result.now rest fit e c.number_at-number.ensures.same c.behind-label.ensures (λ q. c.if-byte_at-eq34.false (c.byte_at.ensures ∙ q)) in
          let read = element_read c.args.levels c.number_at-number.result.0 n x k c.behind-label.result.now rest c.word.result.0.now c.word.result.1.now c.in_ok-name.name c.in_ok-attributes.children.now c.in_ok-attributes.attributes.items is c.word.ensures.front c.word.ensures.behind c.in_ok-name.ensures.same c.in_ok-attributes.ensures.same in
          record { more = k; are = ap (λ z. after z k) (sym no_subs); text = read.1 };
    }

pub loop-alloc-preserved : goal.loop-alloc-preserved
loop-alloc-preserved t c =
    let have = side_by_side (map sub_tree c.loop-alloc.subs.items) in
    let trees : side_by_side (map sub_tree c.push.new.self.items) ≡ after have (sub_tree c.in_ok-child.child) = ap (λ ss. side_by_side (map sub_tree ss)) c.in_ok-push.ensures.items ∙ subs_put c.loop-alloc.subs.items c.in_ok-child.child in
    let test = and_parts (nat_lt 0 c.args.levels) (begins_node c.loop-alloc.left.now) (sym c.loop-alloc-test.ensures) in
    let same = below_one c.args.levels test.0 in
    let old = c.loop-alloc.invariant.shorter in
    let less = c.in_ok-child.ensures.shorter in
    let inside : length c.behind-in-loop-alloc.result.now ≡ length c.loop-alloc.left.now - 2 = ap length c.behind-in-loop-alloc.ensures ∙ length-drop 2 c.loop-alloc.left.now in
    record {
      fit = rw trees (fit_after c.args.levels have (sub_tree c.in_ok-child.child) c.loop-alloc.invariant.fit (rw same at c.in_ok-child.ensures.fit));
      shorter = omega arith;
      leads = λ n x k rest fit e. rw trees (
          nodes_go c.args.levels (suc (c.args.levels - 1)) have (sub_tree c.in_ok-child.child) k c.loop-alloc.left.now rest c.behind-in-loop-alloc.result.now c.in_ok-child.after.now
          same (fit_below c.args.levels n x k none fit) test.1 (c.loop-alloc.invariant.leads n x k rest fit e) c.behind-in-loop-alloc.ensures c.in_ok-child.ensures.same);
    }

pub returns-clause-fit : goal.returns-clause-fit
returns-clause-fit t c = rw (tree_element c.number_at-number.result.0 c.in_ok-name.name c.in_ok-attributes.attributes c.loop-alloc.subs) (fit_element c.args.levels c.number_at-number.result.0 c.in_ok-name.name c.in_ok-attributes.attributes.items _ c.number_at-number.ensures.number c.in_ok-name.ensures.name c.in_ok-attributes.ensures.fit c.loop-alloc.invariant.fit)

pub returns-clause-same : goal.returns-clause-same
returns-clause-same t c = λ n x k rest fit e.
    let have = side_by_side (map sub_tree c.loop-alloc.subs.items) in
    let is = element_node c.args.levels c.number_at-number.result.0 n x k c.args.bytes.now c.number_at-number.result.1.now c.behind-label.result.now rest fit e c.number_at-number.ensures.same c.behind-label.ensures (λ q. c.if-byte_at-eq34.false (c.byte_at.ensures ∙ q)) in
    let read = element_read c.args.levels c.number_at-number.result.0 n x k c.behind-label.result.now rest c.word.result.0.now c.word.result.1.now c.in_ok-name.name c.in_ok-attributes.children.now c.in_ok-attributes.attributes.items is c.word.ensures.front c.word.ensures.behind c.in_ok-name.ensures.same c.in_ok-attributes.ensures.same in
    let done = nodes_end c.args.levels have k c.loop-alloc.left.now rest is.below (sym c.loop-alloc-test.ensures) (c.loop-alloc.invariant.leads n x k rest fit e) in (
      tree_element c.number_at-number.result.0 c.in_ok-name.name c.in_ok-attributes.attributes c.loop-alloc.subs
          ∙ (ap (λ m. node m (Element c.in_ok-name.name c.in_ok-attributes.attributes.items) have none) is.numbered
          ∙ (ap (λ y. node n y have none) (sym read.0) ∙ ap (λ z. node n x z none) done.0)),
      c.behind-2.ensures ∙ ap (drop 1) done.1,
    )
