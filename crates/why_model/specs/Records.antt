-- A journal that keeps as many facts as it may.
use Rattle.std.specs.Prelude.{Bool, true, false, nat_lt, List, [], ◌∷◌, ◌++◌, length, if◌then◌else◌}
use Rattle.why_model.specs.declared.limits.TheConstants.{MOST_FACTS}
use Rattle.why_model.specs.Facts.{Fact}

-- the first facts, so many as there may be, and whether another came
pub record Journal : Type 0 where
  pub facts : List Fact
  pub full : Bool

-- nothing was noted
abbrev pub no_facts : Journal
no_facts = record { facts = []; full = false }

-- one more fact, if there is place for it
unfoldable pub with_fact : Fact → Journal → Journal
with_fact f j = if nat_lt (length j.facts) MOST_FACTS then record j { facts = j.facts ++ f ∷ [] } else record j { full = true }

-- facts, one after the other
abbrev pub with_facts : List Fact → Journal → Journal
with_facts [] j = j
with_facts (f ∷ fs) j = with_facts fs (with_fact f j)
