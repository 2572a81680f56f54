-- Signals that show an outcome as they stand.
use Rattle.std.proofs.Common.{◌≡◌, ℕ, ◌||◌, Bool, true, List, [], ◌∷◌, ◌++◌, Some, map, refl, sym, ap, ◌∙◌, arith}
use Rattle.std.specs.Prelude.{Option, unwrap_or}
use Rattle.std.proofs.lemmas.List.{append-nil}
use Rattle.sig_base.specs.declared.value.Value.{Value}
use Rattle.sig_base.specs.declared.value.Outcome.{Outcome}
use Rattle.sig_base.specs.declared.value.Outcome.TheVariants.{Good}
use Rattle.signal_model.specs.Recipes.{Hosts}
use Rattle.signal_model.specs.Signals.{Signals, Cell, Stands, IsGone, IsCell, IsComputed, is_computed, is_in, standing}
use Rattle.signal_model.specs.Values.{reads_of}
use Rattle.signal_model.specs.Memos.{Memos, memo_of}
use Rattle.signal_model.specs.Orders.{Visit, visit, visit_case, visited, visits}
use Rattle.signal_model.specs.Settling.{Settled, settle_visits, settled}
use Rattle.signal_model.specs.Asks.{moments}
use Rattle.signal_model.specs.Marks.{Clean, mark_of}
use Rattle.signal_model.specs.Sound.{kept_outcome}
use Rattle.signal_model.proofs.Shared.{value_cell, visit_by_cases}
use Rattle.signal_laws.proofs.Shared.{clean_law}
use Rattle.sig_host.specs.Hosts.{places_after}
use Rattle.sig_nodes.specs.Answers.{kind_here, value_here}
use Rattle.sig_nodes.specs.declared.answers.Standing.TheVariants as standing_as
use Rattle.sig_computed.specs.Notes.{IsIdle, run_note}
use Rattle.sig_computed.proofs.Shared.{nothing_settled}
use Rattle.tpl_hearing.specs.Heard.{Hears, Outcomes, Scene, Settles}
use Rattle.tpl_hearing.specs.HeardAgain.{StandsAs}
use Rattle.tpl_hearing.specs.Unseen.{IsCellAs}
use Rattle.tpl_hearing.proofs.Names.{one_heard}

-- what is answered as a computed is one
pub computed_kind_is : (st : Stands) (b : Bool) → standing_as.Computed ≡ kind_here st b → is_computed st ≡ true
computed_kind_is IsGone b k = cc
computed_kind_is (IsCell c) b k = cc
computed_kind_is (IsComputed c) b k = refl

-- asking for a cell runs nothing
still_cell : (hosts : Hosts) (w : Signals) (k : Memos) (n : ℕ) (c : Cell) → standing w n ≡ IsCell c →
    settled hosts w k (n ∷ []) ≡ record { memos = k; runs = [] }
still_cell hosts w k n c st =
    ap (λ (vs : List Visit). settle_visits hosts w vs (record { memos = k; runs = [] }))
    (visit_by_cases hosts w [] n []
    ∙ (λ i. visit_case (st i) (is_in n [] || is_in n (visited [])) []
    (λ d. visits (visit hosts w (n ∷ [])) (reads_of hosts w d) [] ++ record { computed = d; path = [] } ∷ [])))

-- a cell that has this value shows it
pub cell_as : (w : Signals) (n : ℕ) (v : Value) (o : Outcome) → Some v ≡ value_here (standing w n) → o ≡ Good v → IsCellAs w n o
cell_as w n v o at is = go (standing w n) refl at
  where
    go : (st : Stands) → standing w n ≡ st → Some v ≡ value_here st → IsCellAs w n o
    go IsGone st e = cc
    go (IsComputed c) st e = cc
    go (IsCell c) st e = record { cell = c; stands = st; shows = is ∙ ap (λ (x : Option Value). Good (unwrap_or x v)) e }

-- what a cell shows it shows as it stands
pub cell_stands : (w : Signals) (k : Memos) (n : ℕ) (o : Outcome) → IsCellAs w n o → StandsAs w k n o
cell_stands w k n o c = record {
  still = λ hosts kept. still_cell hosts w k n c.cell c.stands;
  value = λ hosts kept. c.shows ∙ sym (value_cell hosts w n [] c.cell c.stands);
}

-- a computed that is clean shows what it keeps
pub stands_clean : (w : Signals) (k : Memos) (n : ℕ) (o : Outcome) → is_computed (standing w n) ≡ true → mark_of w k n ≡ Clean →
    kept_outcome (memo_of k n) ≡ Some o → StandsAs w k n o
stands_clean w k n o live clean keeps = go (standing w n) refl live
  where
    go : (st : Stands) → standing w n ≡ st → is_computed st ≡ true → StandsAs w k n o
    go IsGone st e = cc
    go (IsCell c) st e = cc
    go (IsComputed c) st e = record {
      still = λ hosts kept. (clean_law hosts w k n c kept.sound st clean).0;
      value = λ hosts kept.
          let up = (clean_law hosts w k n c kept.sound st clean).1 in
          ap (λ (x : Option Outcome). unwrap_or x o) (sym keeps ∙ ap kept_outcome up.at) ∙ up.outcome;
    }

-- settling it leaves all as it was
stood : (x : Scene) (before : Hosts → Type 0) (n : ℕ) (o : Outcome) → IsIdle x.graph.state → StandsAs x.graph.state.signals x.graph.state.memos n o →
    Settles x x before before (λ _. n ∷ [])
stood x before n o idle stands =
    let w = x.graph.state.signals in
    let k = x.graph.state.memos in
    let none = nothing_settled x before idle in
    record {
      settled = λ hosts all kept. record {
        memos = sym (ap (λ (s : Settled). s.memos) (stands.still hosts kept));
        notes = sym (ap (λ (s : Settled). x.notes ++ map run_note s.runs) (stands.still hosts kept) ∙ append-nil x.notes);
      };
      kept = λ hosts all kept. kept;
      asked = λ hosts all kept. record {
        places = (none.asked hosts all kept).places ∙ sym (ap (λ (s : Settled). places_after (moments w s.runs) 0 x.asked) (stands.still hosts kept));
      };
      steps = λ hosts all kept. omega arith;
      answers = λ hosts all. all;
      there = λ place. refl;
      most = omega arith;
      signals = refl;
      idle = idle;
      seats = refl;
      given = refl;
      named = λ given. given;
      worn = refl;
    }

-- so it is heard without a look below
pub stood_heard : (x : Scene) (before : Hosts → Type 0) (heard now : Outcomes) (n : ℕ) (o : Outcome) → IsIdle x.graph.state →
    StandsAs x.graph.state.signals x.graph.state.memos n o → now ≡ heard ++ (n, o) ∷ [] → Hears x x before before heard now
stood_heard x before heard now n o idle stands all =
    one_heard x x before before heard now n o (stood x before n o idle stands) (λ hosts answers kept. stands.value hosts kept) all
