-- Values from scratch have good rows, where cells have, and where host formulas give such.
use Rattle.std.proofs.Common.{ℕ, zero, suc, ◌==◌, Bool, true, false, cond, List, [], ◌∷◌, length, Option, Some, None}
use Rattle.std.specs.List.{AllByRecursion}
use Rattle.sig_base.specs.declared.value.Outcome.{Outcome}
use Rattle.signal_model.specs.Recipes.{Hosts, Expression, Recipe, formula, given_answer, host}
use Rattle.signal_model.specs.Signals.{Cell, Computed, Signals, Stands, IsGone, IsCell, IsComputed, cell_at, computed_at, is_in, or_computed, or_gone, standing}
use Rattle.signal_model.specs.Values.{asked_from, names_left, unknown_slots, value_case, value_of, value_within}
use Rattle.sig_host.specs.Loans.{IsGood, IsGoodOutcome, IsLending, LendsRows}
use Rattle.sig_host.proofs.Shared.{asked_good}
use Rattle.tpl_model.specs.Laws.{GivesRows}
use Rattle.tpl_model.specs.Sources.{on_signals}
use Rattle.tpl_model.proofs.Shared.{formula_lends, rows_law}

-- ---- any recipe

answers_good : (hosts : Hosts) (e : Expression) → LendsRows hosts → IsLending (given_answer hosts e)
answers_good hosts (formula row f) lends = formula_lends f row
answers_good hosts (host place) lends = lends place

recipe_good : (hosts : Hosts) (r : Recipe) (source : ℕ → Outcome) → LendsRows hosts → ((m : ℕ) → IsGoodOutcome (source m)) →
    IsGoodOutcome (asked_from hosts r source []).outcome
recipe_good hosts r source lends all =
    asked_good (suc (unknown_slots (length r.slots) [])) hosts r source [] (answers_good hosts r.expression lends) all tt

-- ---- signals

-- the values of cells have good rows
abbrev pub AreGoodCells : List Cell → Type 0
AreGoodCells cs = AllByRecursion (λ (c : Cell). IsGood c.value) cs

-- where a cell stands, its value has
abbrev pub IsGoodStanding : Stands → Type 0
IsGoodStanding (IsCell c) = IsGood c.value
IsGoodStanding _ = Unit {0}

gone_good : (o : Option Computed) → IsGoodStanding (or_gone o)
gone_good None = tt
gone_good (Some c) = tt

cell_good : (n : ℕ) (cs : List Cell) (o : Option Computed) → AreGoodCells cs → IsGoodStanding (or_computed (cell_at n cs) o)
cell_good n [] o g = gone_good o
cell_good n (c ∷ cs) o g = go (n == c.name) (cell_good n cs o g.1)
  where
    go : (b : Bool) → IsGoodStanding (or_computed (cell_at n cs) o) → IsGoodStanding (or_computed (cond b (Some c) (cell_at n cs)) o)
    go true h = g.0
    go false h = h

pub standing_good : (w : Signals) (n : ℕ) → AreGoodCells w.cells → IsGoodStanding (standing w n)
standing_good w n g = cell_good n w.cells (computed_at n w.computeds) g

case_good : (s : Stands) (on_path : Bool) (rest : Computed → Outcome) → IsGoodStanding s → ((c : Computed) → IsGoodOutcome (rest c)) →
    IsGoodOutcome (value_case s on_path rest)
case_good IsGone on_path rest g h = tt
case_good (IsCell c) on_path rest g h = g
case_good (IsComputed c) true rest g h = tt
case_good (IsComputed c) false rest g h = h c

within_good : (depth : ℕ) (hosts : Hosts) (w : Signals) (n : ℕ) (path : List ℕ) → LendsRows hosts → AreGoodCells w.cells →
    IsGoodOutcome (value_within depth hosts w n path)
within_good zero hosts w n path lends g = tt
within_good (suc depth) hosts w n path lends g =
    case_good (standing w n) (is_in n path) (λ c. (asked_from hosts c.recipe (λ m. value_within depth hosts w m (n ∷ path)) []).outcome)
    (standing_good w n g)
    (λ c. recipe_good hosts c.recipe (λ m. value_within depth hosts w m (n ∷ path)) lends
    (λ m. within_good depth hosts w m (n ∷ path) lends g))

pub value_good : (hosts : Hosts) (w : Signals) (n : ℕ) (path : List ℕ) → LendsRows hosts → AreGoodCells w.cells → IsGoodOutcome (value_of hosts w n path)
value_good hosts w n path lends g = within_good (suc (names_left w.computeds path)) hosts w n path lends g

-- so have the formulas of a template's lines
pub signals_give : (hosts : Hosts) (w : Signals) (links : List ℕ) → LendsRows hosts → AreGoodCells w.cells → GivesRows (on_signals hosts w links)
signals_give hosts w links lends g = rows_law links (λ n. value_of hosts w n []) (λ n. value_good hosts w n [] lends g)
