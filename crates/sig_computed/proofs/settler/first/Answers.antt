use Rattle.std.proofs.Common.{cond, [], ◌∷◌, sym, ap, ◌∙◌}
use Rattle.sig_computed.specs.Steps.{Frame, new_frame}
use Rattle.sig_computed.specs.Views.{frame_of}
use Rattle.sig_computed.proofs.Looks.{first_ready}
use Rattle.sig_computed.proofs.Stacks.{first_move}
use Rattle.sig_computed.proofs.settler.first.Goals as goal

pub returns-clause-graph : goal.returns-clause-graph
returns-clause-graph c =
    first_move c.args.graph.now c.is_clean.new.graph c.begin.new.graph c.args.frame.now.id (frame_of c.begin.new.frame ∷ []) c.requires.idle c.requires.live
    c.is_clean.ensures.after (ap (λ (f : Frame). f ∷ []) c.begin.ensures.frame) c.begin.ensures.after c.begin.ensures.begun

pub returns-then-is_clean-clause-stack : goal.returns-then-is_clean-clause-stack
returns-then-is_clean-clause-stack c =
    let s = c.args.graph.now.state in
    let n = c.args.frame.now.id in
    sym (ap (λ b. cond b [] (new_frame s.memos n ∷ [])) (first_ready s.signals s.memos n c.requires.live ∙ sym c.if-is_clean.ensures.clean))

pub returns-clause-stack : goal.returns-clause-stack
returns-clause-stack c =
    let s = c.args.graph.now.state in
    let n = c.args.frame.now.id in
    ap (λ (f : Frame). f ∷ []) c.begin.ensures.frame
    ∙ ap (λ k. new_frame k n ∷ []) c.is_clean.ensures.after.memos
    ∙ sym (ap (λ b. cond b [] (new_frame s.memos n ∷ [])) (first_ready s.signals s.memos n c.requires.live ∙ sym c.if-is_clean.ensures.clean))
