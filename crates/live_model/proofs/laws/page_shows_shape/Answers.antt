use Rattle.live_model.proofs.Html.{page_law}
use Rattle.live_model.proofs.laws.page_shows_shape.Goals as goal

pub returns : goal.returns
returns c = page_law
