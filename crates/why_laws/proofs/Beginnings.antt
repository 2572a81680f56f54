-- Where no signal was made nothing is noted.
use Rattle.std.proofs.Common.{◌≡◌, ◌<◌, ◌==◌, ℕ, Bool, true, false, cond, List, [], ◌∷◌, ◌++◌, length, ◌+◌, map, reverse, Option, Some, None, is_some, refl, sym, ap, ◌∙◌, subst, arith}
use Rattle.std.proofs.lemmas.Bool.{eq-eqb, le-ltb, ltb-true}
use Rattle.std.proofs.lemmas.List.{reverse-append}
use Rattle.signal_model.specs.Signals.{is_there, standing}
use Rattle.signal_model.specs.Settling.{Run, settled}
use Rattle.signal_model.specs.Sound.{names_of}
use Rattle.signal_model.specs.Asks.{moments}
use Rattle.signal_model.specs.Kept.{AreGiven}
use Rattle.signal_laws.specs.ChangeLaws.{given_below}
use Rattle.effect_model.specs.Worlds.{Environment, ran, World}
use Rattle.effect_model.specs.Commands.{new_world, after_commands}
use Rattle.effect_laws.proofs.Shared.{Core, core_of, IsKeptByChanges, commands_keep}
use Rattle.why_model.specs.Facts.{Fact, Note, was_changed, has_run, last_run}
use Rattle.why_model.specs.Told.{run_fact, facts_told}
use Rattle.why_model.proofs.Shared.{facts_append}
use Rattle.why_laws.specs.Journals.{BeginningLaw}
use Rattle.why_laws.proofs.Recording.{Recorded, changes_record, facts_moments, facts_noted, none_recorded}

-- what is recorded, and that it is nothing where no signal was made
record Begun (env : Environment) (c : Core) : Type 0 where
  recorded : Recorded env c
  none : c.made.signals ≡ 0 → facts_told c.noted ≡ []

-- no signal stands where none was made
none_there : (w : Core) (n : ℕ) → AreGiven (given_below w.made.signals) w.signals w.memos → is_there (standing w.signals n) ≡ true → w.made.signals ≡ 0 → ⊥
none_there w n given there z =
    let below : n < w.made.signals = ltb-true n w.made.signals (given.names n there) in omega (arith, below, z)

-- ---- a run among facts is found

found_in : (n : ℕ) (r : Note) (later earlier : List Fact) → (n == r.name) ≡ true → is_some (last_run n (later ++ has_run r ∷ earlier)) ≡ true
found_in n r [] earlier e = go (n == r.name) e
  where
    go : (b : Bool) → b ≡ true → is_some (cond b (Some (record { number = length earlier + 1; note = r })) (last_run n earlier)) ≡ true
    go true h = refl
    go false h = cc
found_in n r (was_changed m how ∷ later) earlier e = found_in n r later earlier e
found_in n r (has_run q ∷ later) earlier e = go (n == q.name) (found_in n r later earlier e)
  where
    go : (b : Bool) → is_some (last_run n (later ++ has_run r ∷ earlier)) ≡ true →
        is_some (cond b (Some (record { number = length (later ++ has_run r ∷ earlier) + 1; note = q })) (last_run n (later ++ has_run r ∷ earlier))) ≡ true
    go true h = refl
    go false h = h

-- so where none is found there is no run
no_runs : (rs : List Run) → ((n : ℕ) → last_run n (reverse (map run_fact rs)) ≡ None) → map run_fact rs ≡ []
no_runs [] h = refl
no_runs (r ∷ rs) h =
    let there : is_some (last_run r.name (reverse (map run_fact (r ∷ rs)))) ≡ true =
    ap (λ (fs : List Fact). is_some (last_run r.name fs)) (reverse-append (run_fact r ∷ []) (map run_fact rs))
    ∙ found_in r.name (record { name = r.name; reads = names_of r.evaluation.reads; outcome = r.evaluation.outcome }) (reverse (map run_fact rs)) []
    (eq-eqb r.name r.name refl) in
    let no : true ≡ false = sym there ∙ ap is_some (h r.name) in absurd cc

-- ---- what changes keep

begun_kept : (env : Environment) → IsKeptByChanges env (Begun env)
begun_kept env = let k : IsKeptByChanges env (Recorded env) = changes_record env in record {
  acts = record {
    edits = record {
      sets = λ n v x c e r. record {
        recorded = k.acts.edits.sets n v x c e r.recorded;
        none = λ z. absurd (none_there c n r.recorded.names (ap is_there e) z);
      };
      rewires = λ n q x c e stand free r. record {
        recorded = k.acts.edits.rewires n q x c e stand free r.recorded;
        none = λ z. absurd (none_there c n r.recorded.names (ap is_there e) z);
      };
      ends = λ n old c there host r. record {
        recorded = k.acts.edits.ends n old c there host r.recorded;
        none = λ z. absurd (none_there c n r.recorded.names there z);
      };
    };
    settles = λ names c r.
        let after = k.acts.settles names c r.recorded in
        let s : List Run = (settled env.hosts c.signals c.memos names).runs in record {
          recorded = after;
          none = λ z.
              let all : facts_told (c.noted ++ map ran (moments c.signals s)) ≡ map run_fact s =
              facts_append c.noted (map ran (moments c.signals s)) ∙ (λ i. r.none z i ++ facts_moments c.signals s i) in
              let never : (n : ℕ) → last_run n (reverse (map run_fact s)) ≡ None =
              λ n. subst (λ (fs : List Fact). last_run n (reverse fs) ≡ None) all
              (after.tied.new n (ap (λ (count : ℕ). given_below count n) z ∙ le-ltb n 0 (omega arith))) in
              all ∙ no_runs s never;
        };
  };
  makes_cell = λ v rule c r. record { recorded = k.makes_cell v rule c r.recorded; none = λ z. absurd (omega (arith, z)) };
  makes_computed = λ q c stand free r. record { recorded = k.makes_computed q c stand free r.recorded; none = λ z. absurd (omega (arith, z)) };
  makes_others = λ owners pages watchers c r. record { recorded = k.makes_others owners pages watchers c r.recorded; none = r.none };
}

pub beginning_law : BeginningLaw
beginning_law env n cs z =
    let w : World = after_commands env (new_world n) cs in
    let b : Begun env (core_of w) =
    commands_keep env (Begun env) (begun_kept env) cs (new_world n) (record { recorded = none_recorded env n; none = λ _. refl }) in
    sym (facts_noted w.told) ∙ b.none z
