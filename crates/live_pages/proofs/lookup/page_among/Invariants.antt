use Rattle.std.proofs.Common.{◌≡◌, List, drop, map}
use Rattle.live_model.specs.Machine.{page_at}
use Rattle.live_model.specs.Pages.{Template}
use Rattle.live_pages.specs.Updates.{AreShown, AreStanding}
use Rattle.live_pages.specs.Views.{page_of}
use Rattle.live_pages.proofs.lookup.page_among.Given as goal

-- it is none so far
abbrev pub invariant-loop-page : goal.invariant-loop-page
invariant-loop-page l = record {
  same : page_at (map page_of l.pages) l.number ≡ page_at (map page_of (drop l.page-index l.pages)) l.number;
  stand : AreStanding l.pages → AreStanding (drop l.page-index l.pages);
  shown : (templates : List Template) → AreShown templates l.pages → AreShown templates (drop l.page-index l.pages);
}
