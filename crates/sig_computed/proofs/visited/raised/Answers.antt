use Rattle.std.proofs.Common.{◌≡◌, ◌+◌, ◌++◌, ◌∷◌, ◌==◌, ◌||◌, [], ℕ, List, take, sym, ap, ◌∙◌, subst}
use Rattle.std.proofs.lemmas.List.{append-nil, take_more}
use Rattle.signal_model.specs.Signals.{is_in}
use Rattle.sig_computed.specs.Flags.{AreFlagged}
use Rattle.sig_computed.proofs.Flagged.{flagged_more}
use Rattle.sig_computed.proofs.Looks.{late_more}
use Rattle.sig_computed.proofs.visited.raised.Goals as goal

pub loop-id-preserved : goal.loop-id-preserved
loop-id-preserved c =
    let i = c.loop-id.id-index in
    let ls = c.args.late.now in
    let n = c.id-item.result in
    let more : take (i + 1) ls ≡ take i ls ++ n ∷ [] = take_more ls i n c.loop-id-test.true ∙ ap (λ (x : ℕ). take i ls ++ x ∷ []) (sym c.id-item.is) in
    flagged_more c.loop-id.flags.items c.raise.new.flags.items (take i ls) (take (i + 1) ls) n c.loop-id.invariant c.raise.ensures.others c.raise.ensures.own
    (λ m. ap (is_in m) (more ∙ sym (append-nil (take i ls ++ n ∷ []))) ∙ late_more (take i ls) [] n m ∙ ap (λ (ns : List ℕ). m == n || is_in m ns) (append-nil (take i ls)))
