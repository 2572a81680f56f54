use Rattle.std.proofs.Common.{refl}
use Rattle.page_model.specs.Replay.{OpMove}
use Rattle.tpl_patch.proofs.Said.{pushed}
use Rattle.tpl_patch.proofs.moves.put_move.Goals as goal

pub returns : goal.returns
returns c = pushed c.args.ops.now.items c.push.new.self.items _ (OpMove c.args.number c.args.place) c.in_ok-push.ensures.items refl
