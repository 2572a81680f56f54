use Rattle.std.proofs.Common.{◌==◌, not, ◌∙◌, rules}
use Rattle.std.proofs.lemmas.Fn.{filter_same}
use Rattle.sig_watcher.proofs.Lists.{without_filter}
use Rattle.sig_watcher.proofs.watcher.take_out.Goals as goal

pub returns : goal.returns
returns c = filter_same _ (λ m. not (c.args.id == m)) _ (λ x b q k. search rules) _ _ c.retain.ensures.filtered ∙ without_filter (λ m. m) c.args.id _
