-- Names that show their outcomes as they stand, one after the other.
use Rattle.std.proofs.Common.{◌≡◌, ◌<◌, ◌≤◌, ℕ, zero, suc, ◌+◌, ◌-◌, [], ◌∷◌, Some, None, length, slice_get, take, inl, inr, refl, sym, ap, subst, ◌∙◌, arith}
use Rattle.std.specs.Prelude.{Option, unwrap_or}
use Rattle.std.proofs.lemmas.Bool.{cases_lt}
use Rattle.std.proofs.lemmas.List.{take_all}
use Rattle.std.proofs.lemmas.Option.{slice_get_cases}
use Rattle.sig_base.specs.declared.value.Outcome.{Outcome}
use Rattle.signal_model.specs.Recipes.{Hosts}
use Rattle.signal_model.specs.Signals.{Signals}
use Rattle.signal_model.specs.Memos.{Memos}
use Rattle.sig_computed.specs.Notes.{IsIdle}
use Rattle.tpl_hearing.specs.Heard.{Hears, Outcomes, Scene}
use Rattle.tpl_hearing.specs.HeardAgain.{heard_by, StandsAs}
use Rattle.tpl_hearing.specs.Standing.{StandBetween}
use Rattle.tpl_hearing.specs.Unseen.{AreCellsBetween, IsCellAs}
use Rattle.tpl_hearing.specs.declared.comparisons.Rehearing.{Rehearing}
use Rattle.tpl_hearing.proofs.Fronts.{front_more}
use Rattle.tpl_hearing.proofs.Names.{heard_as, nothing_heard, then_heard}
use Rattle.tpl_hearing.proofs.Unmoved.{cell_stands, stood_heard}

-- ---- what was heard of one more name

-- what was heard, where it is this
pub heard_some : (x y : Scene) (before after : Hosts → Type 0) (first next : Outcomes) (r : Option Rehearing) (h : Rehearing) → r ≡ Some h →
    Hears x y before after first (heard_by r next) → Hears x y before after first h.heard
heard_some x y before after first next r h e heard = subst (λ z. Hears x y before after first (heard_by z next)) e heard

-- or nothing else
pub heard_none : (x y : Scene) (before after : Hosts → Type 0) (first next : Outcomes) (r : Option Rehearing) → r ≡ None →
    Hears x y before after first (heard_by r next) → Hears x y before after first next
heard_none x y before after first next r e heard = subst (λ z. Hears x y before after first (heard_by z next)) e heard

-- ---- names that show their outcomes one after the other

-- from one place up to another this holds of each
abbrev Each : (ℕ → Outcome → Type 0) → Outcomes → ℕ → ℕ → Type 0
Each P ps from to = (i n : ℕ) (o : Outcome) → from ≤ i → i < to → slice_get ps i ≡ Some (n, o) → P n o

-- of one more
pub each_more : (P : ℕ → Outcome → Type 0) (ps : Outcomes) (from place m : ℕ) (was : Outcome) → Each P ps from place →
    slice_get ps place ≡ Some (m, was) → P m was → Each P ps from (place + 1)
each_more P ps from place m was each at one i n o le lt is = elim (cases_lt i place) [ inl below ↦ each i n o le below is | inr above ↦ here above ]
  where
    here : place ≤ i → P n o
    here above =
        let same : i ≡ place = omega (arith, above, lt) in
        let both : Some (n, o) ≡ Some (m, was) = sym is ∙ ap (slice_get ps) same ∙ at in
        subst (λ (p : ℕ × Outcome). P p.0 p.1) (sym (ap (λ (q : Option (ℕ × Outcome)). unwrap_or q (n, o)) both)) one

-- of those before a place and of those behind it
each_both : (P : ℕ → Outcome → Type 0) (ps : Outcomes) (from place to : ℕ) → Each P ps from place → Each P ps place to → Each P ps from to
each_both P ps from place to first behind i n o le lt is =
    elim (cases_lt i place) [ inl below ↦ first i n o le below is | inr above ↦ behind i n o above lt is ]

-- one that is found by itself, and those behind it
pub cells_on : (w : Signals) (ps : Outcomes) (from place to m : ℕ) (was : Outcome) → AreCellsBetween w ps from place →
    slice_get ps place ≡ Some (m, was) → IsCellAs w m was → AreCellsBetween w ps (place + 1) to → AreCellsBetween w ps from to
cells_on w ps from place to m was first at one behind =
    let low = first.least in
    let next = behind.least in
    record {
      least = omega (arith, low, next);
      most = behind.most;
      each = each_both (IsCellAs w) ps from (place + 1) to (each_more (IsCellAs w) ps from place m was first.each at one) behind.each;
    }

-- cells show their outcomes as they stand
pub cells_stand : (w : Signals) (k : Memos) (ps : Outcomes) (from to : ℕ) → AreCellsBetween w ps from to → StandBetween w k ps from to
cells_stand w k ps from to cells = record {
  least = cells.least;
  most = cells.most;
  each = λ i n o le lt at. cell_stands w k n o (cells.each i n o le lt at);
}

-- one that is no such cell, and cells behind it
pub stand_on : (w : Signals) (k : Memos) (ps : Outcomes) (from place to m : ℕ) (was : Outcome) → StandBetween w k ps from place →
    slice_get ps place ≡ Some (m, was) → StandsAs w k m was → AreCellsBetween w ps (place + 1) to → StandBetween w k ps from to
stand_on w k ps from place to m was first at one behind =
    let low = first.least in
    let next = behind.least in
    record {
      least = omega (arith, low, next);
      most = behind.most;
      each = each_both (StandsAs w k) ps from (place + 1) to (each_more (StandsAs w k) ps from place m was first.each at one)
          (cells_stand w k ps (place + 1) to behind).each;
    }

-- cells, and those behind them
pub stand_behind : (w : Signals) (k : Memos) (ps : Outcomes) (from place to : ℕ) → AreCellsBetween w ps from place → StandBetween w k ps place to →
    StandBetween w k ps from to
stand_behind w k ps from place to first behind =
    let low = first.least in
    let next = behind.least in
    record {
      least = omega (arith, low, next);
      most = behind.most;
      each = each_both (StandsAs w k) ps from place to (cells_stand w k ps from place first).each behind.each;
    }

-- one more of them is heard without a look below
stood_one_more : (x : Scene) (before : Hosts → Type 0) (ps : Outcomes) (from place to : ℕ) → IsIdle x.graph.state → to ≡ place + 1 → place < length ps →
    ((n : ℕ) (o : Outcome) → slice_get ps place ≡ Some (n, o) → StandsAs x.graph.state.signals x.graph.state.memos n o) →
    Hears x x before before (take from ps) (take place ps) → Hears x x before before (take from ps) (take to ps)
stood_one_more x before ps from place to idle next low stands heard =
    elim ((slice_get_cases ps place).1) [ inl s ↦ there s.0 s.2 | inr s ↦ past s.0 ]
  where
    there : (p : ℕ × Outcome) → slice_get ps place ≡ Some p → Hears x x before before (take from ps) (take to ps)
    there p at =
        then_heard x x x before before before (take from ps) (take place ps) (take to ps) heard
        (stood_heard x before (take place ps) (take to ps) p.0 p.1 idle (stands p.0 p.1 at) (ap (λ i. take i ps) next ∙ front_more ps place p.0 p.1 at))

    past : length ps ≤ place → Hears x x before before (take from ps) (take to ps)
    past high = absurd (omega (arith, high, low))

-- so are so many of them
stood_on : (x : Scene) (before : Hosts → Type 0) (ps : Outcomes) (from d : ℕ) → IsIdle x.graph.state → from + d ≤ length ps →
    ((i n : ℕ) (o : Outcome) → from ≤ i → i < from + d → slice_get ps i ≡ Some (n, o) → StandsAs x.graph.state.signals x.graph.state.memos n o) →
    Hears x x before before (take from ps) (take (from + d) ps)
stood_on x before ps from zero idle most each =
    let none : from ≡ from + zero = omega arith in
    heard_as x x before before (take from ps) (take from ps) (take (from + zero) ps) (ap (λ i. take i ps) none) (nothing_heard x before (take from ps) idle)
stood_on x before ps from (suc d) idle most each =
    let next : from + suc d ≡ (from + d) + 1 = omega arith in
    stood_one_more x before ps from (from + d) (from + suc d) idle next (omega (arith, most)) (λ n o at. each (from + d) n o (omega arith) (omega arith) at)
    (stood_on x before ps from d idle (omega (arith, most)) (λ i n o le lt is. each i n o le (omega (arith, lt)) is))

pub stood_next : (x : Scene) (before : Hosts → Type 0) (ps all : Outcomes) (from to : ℕ) → IsIdle x.graph.state → ps ≡ all →
    StandBetween x.graph.state.signals x.graph.state.memos ps from to → Hears x x before before (take from all) (take to all)
stood_next x before ps all from to idle is stand =
    let least = stand.least in
    let most = stand.most in
    let whole : from + (to - from) ≡ to = omega (arith, least) in
    subst (λ h. Hears x x before before (take from h) (take to h)) is
    (heard_as x x before before (take from ps) (take (from + (to - from)) ps) (take to ps) (ap (λ i. take i ps) whole)
    (stood_on x before ps from (to - from) idle (omega (arith, whole, most)) (λ i n o le lt at. stand.each i n o le (omega (arith, lt, whole)) at)))

none_taken : (ps : Outcomes) → take 0 ps ≡ []
none_taken [] = refl
none_taken (p ∷ ps) = refl

-- from the first one on
pub stood_first : (x : Scene) (before : Hosts → Type 0) (ps all : Outcomes) (to : ℕ) → IsIdle x.graph.state → ps ≡ all →
    StandBetween x.graph.state.signals x.graph.state.memos ps 0 to → Hears x x before before [] (take to all)
stood_first x before ps all to idle is stand =
    subst (λ h. Hears x x before before h (take to all)) (none_taken all) (stood_next x before ps all 0 to idle is stand)

-- where all are cells that show what was heard, they are heard without a look below
pub cells_heard : (x : Scene) (before : Hosts → Type 0) (ps : Outcomes) → IsIdle x.graph.state →
    AreCellsBetween x.graph.state.signals ps 0 (length ps) → Hears x x before before [] ps
cells_heard x before ps idle cells =
    heard_as x x before before [] (take (length ps) ps) ps (take_all (length ps) ps (omega arith))
    (stood_first x before ps ps (length ps) idle refl (cells_stand x.graph.state.signals x.graph.state.memos ps 0 (length ps) cells))
