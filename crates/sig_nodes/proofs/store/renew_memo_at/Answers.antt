use Rattle.std.proofs.Common.{◌≡◌, ap, ◌∙◌, arith, subst, sym, IfNone, IfSome, OnErr, Option, None, Some, Result, Ok, Err}
use Rattle.std.proofs.lemmas.Option.{IfSome_then}
use Rattle.signal_model.specs.Memos.{source_names, sources_in}
use Rattle.sig_nodes.specs.declared.node.Body.{Body}
use Rattle.sig_nodes.specs.Computations.{renewed}
use Rattle.sig_nodes.specs.Nodes.{body_at, memo_body, run_node}
use Rattle.sig_nodes.proofs.Edits.{body_got, change_got, written, unwritten}
use Rattle.sig_nodes.proofs.Lives.{computed_live}
use Rattle.sig_nodes.proofs.store.renew_memo_at.Goals as goal

pub node_mut-requires : goal.node_mut-requires
node_mut-requires c = computed_live (body_at c.args.nodes.now.items c.args.id) c.requires.live

pub renew_memo-requires-clause-worn : goal.renew_memo-requires-clause-worn
renew_memo-requires-clause-worn c = let e = change_got c.args.nodes.now.items c.args.id c.node_mut.result.now c.node_mut.ensures.value in let w = c.requires.worn in omega (arith, e, w)

pub returns-in_err-list-clause-err : goal.returns-in_err-list-clause-err
returns-in_err-list-clause-err c =
    anyway c.from_residual.result (unwritten c.args.nodes.now.items c.args.id c.node_mut.result.now c.renew_memo.new.node c.node_mut.ensures.value c.in_err-list.ensures.err)
  where
    anyway : {A E P : Type 0} (r : Result A E) → P → OnErr r P
    anyway (Ok x) p = tt
    anyway (Err e) p = p

pub returns-clause-same : goal.returns-clause-same
returns-clause-same c =
    subst (λ (b : Body). IfSome c.in_ok-list.list (λ l. source_names (sources_in (memo_body b)) ≡ c.args.reads.now))
    (sym (body_got c.args.nodes.now.items c.args.id c.node_mut.result.now c.node_mut.ensures.value)) c.in_ok-list.ensures.same

pub returns-clause-kept : goal.returns-clause-kept
returns-clause-kept c =
    let xs = c.args.nodes.now.items in
    let node = c.node_mut.result.now in
    let ms = c.args.numbers.now.items in
    let body = body_got xs c.args.id node c.node_mut.ensures.value in
    IfSome_then c.in_ok-list.list c.in_ok-list.ensures.kept (λ l made.
    written xs c.args.id node c.renew_memo.new.node (run_node (renewed (memo_body (body_at xs c.args.id)) c.args.outcome.now ms c.args.generation)) c.node_mut.ensures.value
    (made ∙ ap (λ (b : Body). run_node (renewed (memo_body b) c.args.outcome.now ms c.args.generation) node) (sym body)))

pub returns-clause-other : goal.returns-clause-other
returns-clause-other c =
    unless c.in_ok-list.list (unwritten c.args.nodes.now.items c.args.id c.node_mut.result.now c.renew_memo.new.node c.node_mut.ensures.value) c.in_ok-list.ensures.other
  where
    unless : {A P Q : Type 0} (o : Option A) → (P → Q) → IfNone o P → IfNone o Q
    unless None f p = f p
    unless (Some x) f p = tt
