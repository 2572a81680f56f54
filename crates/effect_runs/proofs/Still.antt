-- Cells that have the values still that were read: nothing is settled, and none differs.
use Rattle.std.proofs.Common.{◌≡◌, ℕ, true, false, cond, List, [], ◌∷◌, ◌++◌, map, refl, sym, ap, ◌∙◌, arith}
use Rattle.std.specs.List.{list_all}
use Rattle.std.proofs.lemmas.Bool.{and_parts}
use Rattle.sig_base.specs.declared.value.Outcome.{Outcome}
use Rattle.sig_base.specs.declared.value.Outcome.TheVariants.{Bad, Good}
use Rattle.sig_base.specs.Values.{same_outcome}
use Rattle.signal_model.specs.Recipes.{Hosts}
use Rattle.signal_model.specs.Signals.{Cell, Signals, Stands, IsGone, IsCell, IsComputed, standing}
use Rattle.signal_model.specs.Values.{Seen, reads_of, value_of}
use Rattle.signal_model.specs.Memos.{Memos}
use Rattle.signal_model.specs.Orders.{Visit, order_after, visit, visit_case, visits}
use Rattle.signal_model.specs.Settling.{Settled, settle_visits, settled}
use Rattle.signal_model.specs.Asks.{moments}
use Rattle.signal_model.specs.Sound.{names_of}
use Rattle.signal_model.proofs.Shared.{value_cell, visit_by_cases}
use Rattle.effect_model.specs.Runs.{looked_at, some_differs}
use Rattle.sig_host.specs.Hosts.{places_after}
use Rattle.sig_nodes.specs.Answers.{value_here}
use Rattle.sig_computed.specs.Notes.{run_note, IsIdle}
use Rattle.sig_computed.specs.Scenes.{Scene, Settles}
use Rattle.sig_computed.proofs.Shared.{nothing_settled}
use Rattle.effect_runs.specs.Evaluations.{has_value, is_still}
use Rattle.effect_runs.proofs.Asks.{scratch}

-- what was read is a cell, and its value was read
record IsStill (w : Signals) (s : Seen) : Type 0 where
  pub cell : Cell
  pub stands : standing w s.name ≡ IsCell cell
  pub same : same_outcome (Good cell.value) s.outcome ≡ true

still_by : (st : Stands) (o : Outcome) → has_value (value_here st) o ≡ true → (c : Cell) × ((st ≡ IsCell c) × (same_outcome (Good c.value) o ≡ true))
still_by (IsCell c) (Good v) h = (c, (refl, h))
still_by (IsCell c) (Bad e) h = absurd cc
still_by IsGone o h = absurd cc
still_by (IsComputed c) o h = absurd cc

still_so : (w : Signals) (s : Seen) → is_still w s ≡ true → IsStill w s
still_so w s h = let x = still_by (standing w s.name) s.outcome h in record { cell = x.0; stands = x.1.0; same = x.1.1 }

-- so it doesn't differ
same_now : (hosts : Hosts) (w : Signals) (s : Seen) → IsStill w s → same_outcome (value_of hosts w s.name []) s.outcome ≡ true
same_now hosts w s x = ap (λ o. same_outcome o s.outcome) (value_cell hosts w s.name [] x.cell x.stands) ∙ x.same

differs_none : (hosts : Hosts) (w : Signals) (ss : List Seen) → list_all (is_still w) ss ≡ true → some_differs (λ m. value_of hosts w m []) ss ≡ false
differs_none hosts w [] h = refl
differs_none hosts w (s ∷ ss) h =
    let both = and_parts (is_still w s) (list_all (is_still w) ss) h in
    ap (λ b. cond b (some_differs (λ m. value_of hosts w m []) ss) true) (same_now hosts w s (still_so w s both.0)) ∙ differs_none hosts w ss both.1

pub still_none : (hosts : Hosts) (w : Signals) (ss : List Seen) → list_all (is_still w) ss ≡ true → false ≡ some_differs (λ m. value_of hosts w m []) ss
still_none hosts w ss h = sym (differs_none hosts w ss h)

-- all of them are looked at
pub looked_all : (hosts : Hosts) (w : Signals) (ss : List Seen) → list_all (is_still w) ss ≡ true → looked_at (λ m. value_of hosts w m []) ss ≡ names_of ss
looked_all hosts w [] h = refl
looked_all hosts w (s ∷ ss) h =
    let both = and_parts (is_still w s) (list_all (is_still w) ss) h in
    ap (λ b. s.name ∷ cond b (looked_at (λ m. value_of hosts w m []) ss) []) (same_now hosts w s (still_so w s both.0))
    ∙ ap (λ ns. s.name ∷ ns) (looked_all hosts w ss both.1)

-- cells that are asked for, which evaluates nothing
cell_last : (hosts : Hosts) (w : Signals) (n : ℕ) (c : Cell) → standing w n ≡ IsCell c → visit hosts w [] n [] ≡ []
cell_last hosts w n c e =
    visit_by_cases hosts w [] n []
    ∙ ap (λ st. visit_case st false [] (λ d. visits (visit hosts w (n ∷ [])) (reads_of hosts w d) [] ++ record { computed = d; path = [] } ∷ [])) e

order_none : (hosts : Hosts) (w : Signals) (ss : List Seen) → list_all (is_still w) ss ≡ true → order_after hosts w (names_of ss) [] ≡ []
order_none hosts w [] h = refl
order_none hosts w (s ∷ ss) h =
    let both = and_parts (is_still w s) (list_all (is_still w) ss) h in
    let x : IsStill w s = still_so w s both.0 in
    ap (λ vs. order_after hosts w (names_of ss) vs) (cell_last hosts w s.name x.cell x.stands) ∙ order_none hosts w ss both.1

none_run : (hosts : Hosts) (w : Signals) (k : Memos) (ss : List Seen) → list_all (is_still w) ss ≡ true →
    settled hosts w k (looked_at (λ m. value_of hosts w m []) ss) ≡ settled hosts w k []
none_run hosts w k ss h =
    ap (settled hosts w k) (looked_all hosts w ss h) ∙ ap (λ (vs : List Visit). settle_visits hosts w vs (record { memos = k; runs = [] })) (order_none hosts w ss h)

-- so a look at them leaves all as it was
pub still_settled : (x : Scene) (before : Hosts → Type 0) (ss : List Seen) → IsIdle x.graph.state → list_all (is_still x.graph.state.signals) ss ≡ true →
    Settles x x before before (λ hosts. looked_at (scratch hosts x) ss)
still_settled x before ss idle h =
    let w : Signals = x.graph.state.signals in
    let k : Memos = x.graph.state.memos in
    let none : Settles x x before before (λ _. []) = nothing_settled x before idle in
    let same : (hosts : Hosts) → settled hosts w k [] ≡ settled hosts w k (looked_at (scratch hosts x) ss) = λ hosts. sym (none_run hosts w k ss h) in
    record {
      settled = λ hosts all kept. record {
        memos = (none.settled hosts all kept).memos ∙ ap (λ (r : Settled). r.memos) (same hosts);
        notes = (none.settled hosts all kept).notes ∙ ap (λ (r : Settled). x.notes ++ map run_note r.runs) (same hosts);
      };
      kept = none.kept;
      asked = λ hosts all kept. record {
        places = (none.asked hosts all kept).places ∙ ap (λ (r : Settled). places_after (moments w r.runs) 0 x.asked) (same hosts);
      };
      steps = λ hosts all kept. omega arith;
      answers = none.answers;
      there = none.there;
      most = none.most;
      signals = none.signals;
      idle = none.idle;
      seats = none.seats;
      given = none.given;
      named = none.named;
      worn = none.worn;
    }
