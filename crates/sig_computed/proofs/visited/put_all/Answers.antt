use Rattle.std.proofs.Common.{◌≡◌, ℕ, ◌+◌, ◌==◌, ◌||◌, List, [], ◌∷◌, ◌++◌, take, sym, ap, ◌∙◌}
use Rattle.std.proofs.lemmas.List.{take_more}
use Rattle.signal_model.specs.Signals.{is_in}
use Rattle.sig_computed.proofs.Looks.{late_more, one_more}
use Rattle.sig_computed.proofs.visited.put_all.Goals as goal

pub loop-id-preserved : goal.loop-id-preserved
loop-id-preserved c = λ m.
    let i = c.loop-id.id-index in
    let ls = c.args.late.now in
    let n = c.id-item.result in
    let more : take (i + 1) ls ≡ take i ls ++ n ∷ [] = take_more ls i n c.loop-id-test.true ∙ ap (λ (x : ℕ). take i ls ++ x ∷ []) (sym c.id-item.is) in
    c.in_ok-insert.ensures.updates.0 m
    ∙ one_more n m (is_in m c.loop-id.ids.keys)
    ∙ ap (λ b. m == n || b) (c.loop-id.invariant m)
    ∙ sym (late_more (take i ls) c.args.ids.now.keys n m)
    ∙ ap (λ (l : List ℕ). is_in m (l ++ c.args.ids.now.keys)) (sym more)
