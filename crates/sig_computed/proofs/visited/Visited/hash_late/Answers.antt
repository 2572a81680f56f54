use Rattle.std.proofs.Common.{◌≡◌, [], ◌∙◌}
use Rattle.sig_computed.proofs.Flagged.{flagged_cut}
use Rattle.sig_computed.proofs.visited.Visited.hash_late.Goals as goal

pub invariant_of-self : goal.invariant_of-self
invariant_of-self c =
    let none : c.replace-ids.new.dest.keys ≡ [] = (λ i. (c.replace-ids.ensures.after i).keys) ∙ c.new.ensures.empty in
    flagged_cut c.self.inside.flags.items c.self.inside.late.items c.self.inside.ids.keys c.replace-ids.new.dest.keys none c.self.invariant
