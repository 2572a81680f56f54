-- The kept source at a place.
use Rattle.std.proofs.Common.{◌≡◌, ℕ, zero, suc, ◌+◌, ◌<◌, true, List, [], ◌∷◌, drop, length, Some, refl, sym, ap, arith}
use Rattle.std.specs.Prelude.{◌||◌, slice_get}
use Rattle.signal_model.specs.Signals.{Stands, IsGone, IsCell, IsComputed, is_in, standing}
use Rattle.signal_model.specs.Memos.{Source, differs}
use Rattle.signal_model.proofs.Shared.{or_right}
use Rattle.sig_graph.specs.States.{State}
use Rattle.sig_graph.specs.Looks.{has_moved}
use Rattle.sig_graph.specs.SourceLooks.{named}
use Rattle.sig_computed.specs.Steps.{is_ready}
use Rattle.sig_computed.specs.Skips.{passed_over}
use Rattle.sig_computed.specs.Views.{evaluating, first_name, first_moved}
use Rattle.sig_computed.proofs.Looks.{over_visited}
use Rattle.sig_computed.proofs.Progresses.{in_evaluating}

-- its name
pub name_at : (ss : List Source) (i : ℕ) → named (slice_get ss i) ≡ first_name (drop i ss)
name_at [] zero = refl
name_at [] (suc i) = refl
name_at (s ∷ ss) zero = refl
name_at (s ∷ ss) (suc i) = name_at ss i

-- where it has one, the place is inside
pub named_inside : (ss : List Source) (i n : ℕ) → named (slice_get ss i) ≡ Some n → i < length ss
named_inside [] zero n h = cc
named_inside [] (suc i) n h = cc
named_inside (s ∷ ss) zero n h = omega arith
named_inside (s ∷ ss) (suc i) n h = let l : i < length ss = named_inside ss i n h in omega arith

-- whether it has moved
pub moved_at : (s : State) (ss : List Source) (i : ℕ) → has_moved s (slice_get ss i) ≡ first_moved s.memos (evaluating s) (drop i ss)
moved_at s [] zero = refl
moved_at s [] (suc i) = refl
moved_at s (x ∷ ss) zero = ap (λ b. differs s.memos x || b) (sym (in_evaluating s x.name))
moved_at s (x ∷ ss) (suc i) = moved_at s ss i

-- what was visited is ready
pub visited_ready : (s : State) (visited : List ℕ) (n : ℕ) → is_in n visited ≡ true →
    is_ready (standing s.signals n) (is_in n (evaluating s)) (is_in n (passed_over s.signals s.memos visited)) ≡ true
visited_ready s visited n on = go (standing s.signals n)
  where
    go : (st : Stands) → is_ready st (is_in n (evaluating s)) (is_in n (passed_over s.signals s.memos visited)) ≡ true
    go IsGone = refl
    go (IsCell c) = refl
    go (IsComputed c) = or_right (is_in n (evaluating s)) (is_in n (passed_over s.signals s.memos visited)) (over_visited s.signals s.memos visited n on)
