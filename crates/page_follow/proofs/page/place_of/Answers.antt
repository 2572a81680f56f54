use Rattle.page_follow.proofs.Lookups.{place_is}
use Rattle.page_follow.proofs.page.place_of.Goals as goal

pub returns : goal.returns
returns c = place_is c.args.name.now c.args.pages.now c.first_place-found.result c.first_place-found.ensures
