-- What is noted of what was told.
use Rattle.std.proofs.Common.{◌≡◌, List, [], ◌++◌, Option, Some, None, refl, ap, ◌∙◌}
use Rattle.std.specs.Prelude.{is_some}
use Rattle.effect_model.specs.Worlds.{Event}
use Rattle.why_model.specs.Facts.{Fact}
use Rattle.why_model.specs.Records.{Journal, with_facts}
use Rattle.why_model.specs.Told.{facts_told}
use Rattle.why_model.proofs.Shared.{facts_append, noted_both}
use Rattle.live_model.specs.Journals.{noting}

-- where there are no facts nothing is
pub unnoted : (j : Option Journal) → noting [] j ≡ j
unnoted None = refl
unnoted (Some j) = refl

-- one after the other
pub noting_both : (es fs : List Event) (j : Option Journal) → noting (es ++ fs) j ≡ noting fs (noting es j)
noting_both es fs None = refl
noting_both es fs (Some j) =
    ap Some (ap (λ (gs : List Fact). with_facts gs j) (facts_append es fs) ∙ noted_both (facts_told es) (facts_told fs) j)

-- a journal that was begun is still there
pub noting_some : (es : List Event) (j : Option Journal) → is_some (noting es j) ≡ is_some j
noting_some es None = refl
noting_some es (Some j) = refl
