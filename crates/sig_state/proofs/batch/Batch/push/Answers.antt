use Rattle.std.proofs.Common.{◌≡◌, false, nat_eq, sym, ap, subst, ◌∙◌}
use Rattle.std.specs.Map.{keys_of}
use Rattle.indexmap.proofs.CallerLemmas.{insert_entry-new}
use Rattle.signal_model.specs.Signals.{is_in}
use Rattle.sig_state.proofs.Collected.{joined_new, unfound}
use Rattle.sig_state.specs.Batches.{Collected, with_joined}
use Rattle.sig_state.proofs.batch.Batch.push.Goals as goal

pub returns : goal.returns
returns c =
    let off = subst (λ (b : Collected). is_in c.args.id (keys_of b.changed) ≡ false) (sym c.self.view_is) c.requires.new in
    let entries = c.in-Ok.ensures.entries ∙ insert_entry-new nat_eq c.self.inside.changed c.args.id c.args.before (unfound c.args.id c.self.inside.changed.entries off) in
    joined_new c.args.id c.args.before c.insert.new.self.entries c.self.inside.changed.entries c.self.inside.room off entries
    ∙ ap (λ (b : Collected). with_joined c.args.id c.args.before b) c.self.view_is
