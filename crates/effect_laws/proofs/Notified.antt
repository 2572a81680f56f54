-- Changes notify those that are watching a signal that they reach.
use Rattle.std.proofs.Common.{◌≡◌, ◌&&◌, ℕ, Bool, true, false, List, [], ◌∷◌, length, refl, inl, inr}
use Rattle.signal_model.specs.Signals.{Signals, is_in}
use Rattle.signal_model.specs.Memos.{Memos}
use Rattle.signal_model.specs.Marks.{found_below}
use Rattle.signal_model.specs.Laws.{Searches}
use Rattle.signal_model.specs.Kept.{OnlyComputedsKeep}
use Rattle.signal_model.proofs.Shared.{below_law, either, or_left, or_right}
use Rattle.effect_model.specs.Acts.{is_reached_by_any, some_name}
use Rattle.effect_laws.specs.Notified.{IsReached, SomeReached, NotifiedLaw}

-- the search for one of these names
search : (w : Signals) (k : Memos) (ns : List ℕ) (m : ℕ) → OnlyComputedsKeep w k → Searches (λ p. is_in p ns) w k m
search w k ns m only = below_law (λ p. is_in p ns) w k m only

reached : (w : Signals) (k : Memos) (ns : List ℕ) (m : ℕ) → OnlyComputedsKeep w k → is_reached_by_any w k ns m ≡ true → IsReached k ns m
reached w k ns m only h = elim (either (is_in m ns) (found_below (λ p. is_in p ns) (length w.computeds) k m) h) [
  | inl e ↦ inl e
  | inr f ↦ inr ((search w k ns m only).found f)
]

reaches : (w : Signals) (k : Memos) (ns : List ℕ) (m : ℕ) → OnlyComputedsKeep w k → IsReached k ns m → is_reached_by_any w k ns m ≡ true
reaches w k ns m only (inl e) = or_left (is_in m ns) (found_below (λ p. is_in p ns) (length w.computeds) k m) e
reaches w k ns m only (inr b) = or_right (is_in m ns) (found_below (λ p. is_in p ns) (length w.computeds) k m) ((search w k ns m only).finds b)

some_reached : (w : Signals) (k : Memos) (ns : List ℕ) (ms : List ℕ) → OnlyComputedsKeep w k → some_name (is_reached_by_any w k ns) ms ≡ true →
    SomeReached k ns ms
some_reached w k ns [] only h = cc
some_reached w k ns (m ∷ ms) only h = elim (either (is_reached_by_any w k ns m) (some_name (is_reached_by_any w k ns) ms) h) [
  | inl e ↦ inl (reached w k ns m only e)
  | inr f ↦ inr (some_reached w k ns ms only f)
]

some_reaches : (w : Signals) (k : Memos) (ns : List ℕ) (ms : List ℕ) → OnlyComputedsKeep w k → SomeReached k ns ms →
    some_name (is_reached_by_any w k ns) ms ≡ true
some_reaches w k ns [] only h = absurd h
some_reaches w k ns (m ∷ ms) only (inl r) = or_left (is_reached_by_any w k ns m) (some_name (is_reached_by_any w k ns) ms) (reaches w k ns m only r)
some_reaches w k ns (m ∷ ms) only (inr r) =
    or_right (is_reached_by_any w k ns m) (some_name (is_reached_by_any w k ns) ms) (some_reaches w k ns ms only r)

pub both : (a b : Bool) → (a && b) ≡ true → (a ≡ true) × (b ≡ true)
both true b h = (refl, h)
both false b h = cc

of_both : (a b : Bool) → a ≡ true → b ≡ true → (a && b) ≡ true
of_both true b h k = k
of_both false b h k = cc

pub notified_law : NotifiedLaw
notified_law w k ns x only = (
  λ h. let p : (x.watching ≡ true) × (some_name (is_reached_by_any w k ns) x.signals ≡ true) =
      both x.watching (some_name (is_reached_by_any w k ns) x.signals) h in
      record { watching = p.0; reached = some_reached w k ns x.signals only p.1 },
  λ i. of_both x.watching (some_name (is_reached_by_any w k ns) x.signals) i.watching (some_reaches w k ns x.signals only i.reached),
)
