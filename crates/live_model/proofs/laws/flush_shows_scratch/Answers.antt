use Rattle.live_model.proofs.Html.{flush_law}
use Rattle.live_model.proofs.laws.flush_shows_scratch.Goals as goal

pub returns : goal.returns
returns c = flush_law
