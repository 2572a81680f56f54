-- A cell of which no change is told stands as it did.
use Rattle.std.proofs.Common.{◌≡◌, ℕ, ◌==◌, ◌||◌, Bool, true, false, cond, List, [], ◌∷◌, ◌++◌, map, Option, Some, None, refl, sym, ap, ◌∙◌}
use Rattle.sig_base.specs.declared.value.Value.{Value}
use Rattle.signal_model.specs.Signals.{Signals, Cell, Computed, Stands, IsCell, IsComputed, IsGone, cell_at, computed_at, or_computed, standing}
use Rattle.signal_model.specs.Asks.{Moment, moments}
use Rattle.signal_model.specs.Changes.{with_value, without_signal}
use Rattle.signal_model.specs.Settling.{settled}
use Rattle.signal_laws.proofs.Shared.{found_left, found_other}
use Rattle.effect_model.specs.declared.how.How.{How}
use Rattle.effect_model.specs.Worlds.{Environment, Event, ran, changed_signal, World}
use Rattle.effect_model.specs.Acts.{are_alike, set_cell, set_standing, with_new_value}
use Rattle.effect_model.specs.Batches.{replaced_by, set_quietly, with_replacing}
use Rattle.effect_model.specs.Runs.{flush}
use Rattle.effect_laws.specs.KeptWorlds.{noted_told}
use Rattle.effect_laws.specs.StillCells.{tells_change, AllKeepCells}
use Rattle.effect_laws.proofs.Changes.{Core, core_of, IsKeptByEdits, IsKeptByActs, flush_keeps_core}

-- ---- what is told

tells_append : (n : ℕ) (es fs : List Event) → tells_change n (es ++ fs) ≡ (tells_change n es || tells_change n fs)
tells_append n [] fs = refl
tells_append n (changed_signal m how ∷ es) fs = ap (λ b. n == m || b) (tells_append n es fs) ∙ shift (n == m) (tells_change n es) (tells_change n fs)
  where
    shift : (a b c : Bool) → (a || (b || c)) ≡ ((a || b) || c)
    shift true b c = refl
    shift false b c = refl
tells_append n (_ ∷ es) fs = tells_append n es fs

-- what is noted of it tells the same changes
tells_noted : (n : ℕ) (es : List Event) → tells_change n (noted_told es) ≡ tells_change n es
tells_noted n [] = refl
tells_noted n (ran m ∷ es) = tells_noted n es
tells_noted n (changed_signal m how ∷ es) = ap (λ b. n == m || b) (tells_noted n es)
tells_noted n (_ ∷ es) = tells_noted n es

-- runs tell none
runs_tell : (n : ℕ) (ms : List Moment) → tells_change n (map ran ms) ≡ false
runs_tell n [] = refl
runs_tell n (m ∷ ms) = runs_tell n ms

neither : (a b : Bool) → (a || b) ≡ false → (a ≡ false) × (b ≡ false)
neither true b e = cc
neither false b e = (refl, e)

-- where none is told with one more behind, the last one is that of another signal
told_apart : (n m : ℕ) (how : How) (es : List Event) → tells_change n (es ++ changed_signal m how ∷ []) ≡ false → (tells_change n es ≡ false) × ((n == m) ≡ false)
told_apart n m how es e =
    let both = neither (tells_change n es) ((n == m) || false) (sym (tells_append n es (changed_signal m how ∷ [])) ∙ e) in
    (both.0, (neither (n == m) false both.1).0)

-- ---- other signals

set_other : (w : Signals) (m : ℕ) (v : Value) (n : ℕ) → (n == m) ≡ false → standing (with_value w m v) n ≡ standing w n
set_other w m v n off =
    ap (λ x. or_computed x (computed_at n w.computeds)) (found_other (λ (c : Cell). c.name) n m (λ c. record c { value = v }) w.cells (λ c. refl) off)

left_other : (w : Signals) (m n : ℕ) → (n == m) ≡ false → standing (without_signal w m) n ≡ standing w n
left_other w m n off =
    let a : cell_at n (without_signal w m).cells ≡ cell_at n w.cells = found_left (λ (c : Cell). c.name) n m w.cells off in
    let b : computed_at n (without_signal w m).computeds ≡ computed_at n w.computeds = found_left (λ (c : Computed). c.name) n m w.computeds off in
    (λ i. or_computed (a i) (b i))

-- what stands as a cell is found among cells, and stands so whatever becomes of computeds
cell_stays : (w v : Signals) (n : ℕ) (c : Cell) → v.cells ≡ w.cells → standing w n ≡ IsCell c → standing v n ≡ IsCell c
cell_stays w v n c same e = go (cell_at n w.cells) refl e
  where
    go : (o : Option Cell) → cell_at n w.cells ≡ o → or_computed o (computed_at n w.computeds) ≡ IsCell c → standing v n ≡ IsCell c
    go (Some d) at h = ap (λ x. or_computed x (computed_at n v.computeds)) (ap (cell_at n) same ∙ at) ∙ h
    go None at h = none (computed_at n w.computeds) h
      where
        none : (d : Option Computed) → or_computed None d ≡ IsCell c → standing v n ≡ IsCell c
        none (Some x) k = absurd cc
        none None k = absurd cc

-- ---- one induction

-- a cell stands, unless a change of it was noted
abbrev Stays : ℕ → Cell → Core → Type 0
Stays n c x = tells_change n x.noted ≡ false → standing x.signals n ≡ IsCell c

edits_keep : (n : ℕ) (c : Cell) → IsKeptByEdits (Stays n c)
edits_keep n c = record {
  sets = λ m v x core stand h e.
      let apart = told_apart n m _ core.noted e in set_other core.signals m v n apart.1 ∙ h apart.0;
  rewires = λ m r x core stand slots free h e.
      let apart = told_apart n m _ core.noted e in cell_stays core.signals _ n c refl (h apart.0);
  ends = λ m old core stand host h e.
      let apart = told_apart n m _ core.noted e in left_other core.signals m n apart.1 ∙ h apart.0;
}

acts_keep : (env : Environment) (n : ℕ) (c : Cell) → IsKeptByActs env (Stays n c)
acts_keep env n c = record {
  edits = edits_keep n c;
  settles = λ names core h e.
      let runs : List Moment = moments core.signals (settled env.hosts core.signals core.memos names).runs in
      h ((neither (tells_change n core.noted) (tells_change n (map ran runs)) (sym (tells_append n core.noted (map ran runs)) ∙ e)).0);
}

-- of a world
stays_after : (n : ℕ) (c : Cell) (w : World) → Stays n c (core_of w) → tells_change n w.told ≡ false → standing w.signals n ≡ IsCell c
stays_after n c w h e = h (tells_noted n w.told ∙ e)

-- ---- sets

set_keeps : (env : Environment) (n : ℕ) (v : Value) (w : World) (m : ℕ) (c : Cell) → (m == n) ≡ false → standing w.signals m ≡ IsCell c →
    standing (set_cell env n v w).signals m ≡ IsCell c
set_keeps env n v w m c off at = go (standing w.signals n)
  where
    by : (b : Bool) → standing (cond b w (with_new_value n v w)).signals m ≡ IsCell c
    by true = at
    by false = set_other w.signals n v m off ∙ at

    go : (s : Stands) → standing (set_standing s env n v w).signals m ≡ IsCell c
    go IsGone = at
    go (IsCell d) = by (are_alike env.slacks d.rule d.value v)
    go (IsComputed d) = at

quietly_keeps : (env : Environment) (n : ℕ) (v : Value) (w : World) (m : ℕ) (c : Cell) → (m == n) ≡ false → standing w.signals m ≡ IsCell c →
    standing (set_quietly env n v w).signals m ≡ IsCell c
quietly_keeps env n v w m c off at = go (replaced_by env.slacks (standing w.signals n) v)
  where
    go : (o : Option Value) → standing (with_replacing n v o w).signals m ≡ IsCell c
    go None = at
    go (Some before) = set_other w.signals n v m off ∙ at

pub all_keep_cells : AllKeepCells
all_keep_cells = record {
  setting = λ env n v. record { still = set_keeps env n v };
  setting_quietly = λ env n v. record { still = quietly_keeps env n v };
  flushing = λ env. record {
    still = λ w n c e at. stays_after n c (flush env w).world (flush_keeps_core env (Stays n c) (acts_keep env n c) w (λ _. at)) e;
  };
}
