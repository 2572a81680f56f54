use Rattle.std.proofs.Common.{List, ℕ, [], ap, sym, subst, ◌∷◌, ◌++◌, ◌∙◌}
use Rattle.signal_model.specs.Signals.{is_in}
use Rattle.sig_computed.specs.Flags.{AreFlagged}
use Rattle.sig_computed.proofs.Flagged.{flagged_more, flagged_pushed}
use Rattle.sig_computed.proofs.Looks.{late_more}
use Rattle.sig_computed.proofs.visited.Visited.add.Goals as goal

pub invariant_of-self-2 : goal.invariant_of-self-2
invariant_of-self-2 c =
    let old = c.self.inside in
    let all = flagged_more old.flags.items c.raise.new.flags.items (old.late.items ++ old.ids.keys) ((old.late.items ++ c.args.id ∷ []) ++ old.ids.keys) c.args.id
    c.self.invariant c.raise.ensures.others c.raise.ensures.own (late_more old.late.items old.ids.keys c.args.id) in
    subst (λ (ls : List ℕ). AreFlagged c.raise.new.flags.items (ls ++ old.ids.keys)) (sym c.push.ensures.items)
    (flagged_pushed _ c.raise.new.flags.items old.late.items old.ids.keys c.args.id all)

pub returns : goal.returns
returns c = λ m.
    let old = c.self.inside in
    ap (λ (ls : List ℕ). is_in m (ls ++ old.ids.keys)) c.in_ok-push.ensures.items
    ∙ late_more old.late.items old.ids.keys c.args.id m
    ∙ ap (λ (ns : List ℕ). is_in m (c.args.id ∷ ns)) c.self.view_is
