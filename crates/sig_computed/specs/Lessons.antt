-- What a run has learnt, from the ids and the values that are kept of it.
use Rattle.std.specs.Prelude.{ℕ, List, [], ◌∷◌}
use Rattle.sig_base.specs.declared.value.Known.{Known}
use Rattle.sig_base.specs.declared.value.Outcome.TheVariants.{Good}
use Rattle.signal_model.specs.Values.{Seen}

-- the slots that are known, and what was read, which was good so far
pub record Lesson : Type 0 where
  pub known : List Known
  pub reads : List Seen

-- what was read, from the ids and from the slots that it made known, in the same order
abbrev pub good_seen : List ℕ → List Known → List Seen
good_seen [] _ = []
good_seen (n ∷ ns) [] = []
good_seen (n ∷ ns) (k ∷ ks) = record { name = n; outcome = Good k.value } ∷ good_seen ns ks
