-- Commands keep a journal that explains their runs.
use Rattle.std.proofs.Common.{◌≡◌, ℕ, ◌+◌, List, [], ◌∷◌, ◌++◌, map, reverse, append_assoc, refl, sym, ap, ◌∙◌, subst}
use Rattle.std.proofs.lemmas.List.{append-nil, reverse-append}
use Rattle.signal_model.specs.Signals.{Signals, Cell, Computed, is_there}
use Rattle.signal_model.specs.Memos.{Memos}
use Rattle.signal_model.specs.Settling.{Run, settled}
use Rattle.signal_model.specs.Asks.{moments}
use Rattle.signal_model.specs.Changes.{after_making}
use Rattle.signal_model.specs.Kept.{AreKept, AreGiven}
use Rattle.signal_laws.specs.ChangeLaws.{given_below, IsNext}
use Rattle.signal_laws.proofs.Shared.{empty_law, set_law, rewire_law, dispose_law, cell_law, computed_law, settle_law, given_next_law, given_empty_law, given_more_law, given_cell_law, given_computed_law, given_set_law, given_rewire_law, given_dispose_law, given_settle_law}
use Rattle.effect_model.specs.declared.how.How.{How}
use Rattle.effect_model.specs.declared.how.How.TheVariants.{Set, Rewire, Gone}
use Rattle.effect_model.specs.Worlds.{Environment, Event, ran, changed_signal, World}
use Rattle.effect_model.specs.Commands.{new_world, after_commands}
use Rattle.effect_laws.specs.KeptWorlds.{noted_told}
use Rattle.effect_laws.proofs.Shared.{Core, core_of, IsKeptByChanges, commands_keep}
use Rattle.why_model.specs.Facts.{Fact, was_changed}
use Rattle.why_model.specs.Told.{run_fact, facts_told}
use Rattle.why_model.proofs.Shared.{facts_append}
use Rattle.why_laws.specs.Ties.{AreTied}
use Rattle.why_laws.specs.WhyLaws.{AreExplained}
use Rattle.why_laws.specs.Journals.{AllExplained, JournalLaw}
use Rattle.why_laws.proofs.AfterChanges.{tied_empty_law, tied_more_law, tied_make_law, tied_set_law, tied_rewire_law, tied_dispose_law}
use Rattle.why_laws.proofs.AfterRuns.{tied_settle_law, runs_law}

-- ---- facts of events

pub facts_moments : (w : Signals) (rs : List Run) → facts_told (map ran (moments w rs)) ≡ map run_fact rs
facts_moments w [] = refl
facts_moments w (r ∷ rs) = ap (λ xs. run_fact r ∷ xs) (facts_moments w rs)

-- what isn't noted has no fact
pub facts_noted : (es : List Event) → facts_told (noted_told es) ≡ facts_told es
facts_noted [] = refl
facts_noted (ran m ∷ es) = ap (λ xs. run_fact m.run ∷ xs) (facts_noted es)
facts_noted (changed_signal n how ∷ es) = ap (λ xs. was_changed n how ∷ xs) (facts_noted es)
facts_noted (_ ∷ es) = facts_noted es

-- one more change comes first
facts_changed : (es : List Event) (n : ℕ) (how : How) →
    was_changed n how ∷ reverse (facts_told es) ≡ reverse (facts_told (es ++ changed_signal n how ∷ []))
facts_changed es n how = sym (ap reverse (facts_append es (changed_signal n how ∷ [])) ∙ reverse-append (facts_told es) (was_changed n how ∷ []))

-- ---- explained runs

explained_append : (env : Environment) (journal : List Fact) (es fs : List Event) → AllExplained env journal es →
    AllExplained env (journal ++ facts_told es) fs → AllExplained env journal (es ++ fs)
explained_append env journal [] fs h g = subst (λ j. AllExplained env j fs) (append-nil journal) g
explained_append env journal (ran m ∷ es) fs h g = (
  h.0,
  explained_append env (journal ++ run_fact m.run ∷ []) es fs h.1
      (subst (λ j. AllExplained env j fs) (sym (append_assoc journal (run_fact m.run ∷ []) (facts_told es))) g),
)
explained_append env journal (changed_signal n how ∷ es) fs h g =
    explained_append env (journal ++ was_changed n how ∷ []) es fs h
    (subst (λ j. AllExplained env j fs) (sym (append_assoc journal (was_changed n how ∷ []) (facts_told es))) g)
explained_append env journal (_ ∷ es) fs h g = explained_append env journal es fs h g

explained_noted : (env : Environment) (journal : List Fact) (es : List Event) → AllExplained env journal (noted_told es) → AllExplained env journal es
explained_noted env journal [] h = h
explained_noted env journal (ran m ∷ es) h = (h.0, explained_noted env (journal ++ run_fact m.run ∷ []) es h.1)
explained_noted env journal (changed_signal n how ∷ es) h = explained_noted env (journal ++ was_changed n how ∷ []) es h
explained_noted env journal (_ ∷ es) h = explained_noted env journal es h

moments_explained : (env : Environment) (w : Signals) (k : Memos) (asked : List ℕ) → AreKept env.hosts w k → (journal : List Fact) (rs : List Run) →
    AreExplained env.hosts w k asked journal rs → AllExplained env journal (map ran (moments w rs))
moments_explained env w k asked kept journal [] h = tt
moments_explained env w k asked kept journal (r ∷ rs) h = (
  record { memos = k; asked = asked; kept = kept; explained = h.0 },
  moments_explained env w k asked kept (journal ++ run_fact r ∷ []) rs h.1,
)

-- ---- what changes keep

-- the memos are kept, and the names given; what was noted is tied to the memos, and explains each run
pub record Recorded (env : Environment) (c : Core) : Type 0 where
  pub kept : AreKept env.hosts c.signals c.memos
  pub names : AreGiven (given_below c.made.signals) c.signals c.memos
  pub tied : AreTied (given_below c.made.signals) c.memos (reverse (facts_told c.noted))
  pub explained : AllExplained env [] c.noted

-- a change explains nothing more
with_change : (env : Environment) (es : List Event) (n : ℕ) (how : How) → AllExplained env [] es → AllExplained env [] (es ++ changed_signal n how ∷ [])
with_change env es n how h = explained_append env [] es (changed_signal n how ∷ []) h tt

-- a making, of which nothing is noted
made_tied : (env : Environment) (c : Core) → Recorded env c →
    AreTied (given_below (c.made.signals + 1)) (after_making c.memos c.made.signals) (reverse (facts_told c.noted))
made_tied env c r =
    let next : IsNext c.made.signals = given_next_law c.made.signals in
    tied_more_law (given_below c.made.signals) (given_below (c.made.signals + 1)) (after_making c.memos c.made.signals) (reverse (facts_told c.noted)) next.stay
    (tied_make_law env.hosts (given_below c.made.signals) c.signals c.memos (reverse (facts_told c.noted)) c.made.signals r.kept r.names next.new r.tied)

pub changes_record : (env : Environment) → IsKeptByChanges env (Recorded env)
changes_record env = record {
  acts = record {
    edits = record {
      sets = λ n v x c e r. record {
        kept = set_law env.hosts c.signals c.memos n x v e r.kept;
        names = given_set_law (given_below c.made.signals) c.signals c.memos n v r.names;
        tied =
            subst (AreTied (given_below c.made.signals) _) (facts_changed c.noted n Set)
            (tied_set_law env.hosts (given_below c.made.signals) c.signals c.memos (reverse (facts_told c.noted)) n r.kept (ap is_there e) r.tied);
        explained = with_change env c.noted n Set r.explained;
      };
      rewires = λ n q x c e stand free r. record {
        kept = rewire_law env.hosts c.signals c.memos n x q e r.kept;
        names =
            given_rewire_law (given_below c.made.signals) c.signals c.memos n q (λ m i. r.names.names m (stand m i)) r.names;
        tied =
            subst (AreTied (given_below c.made.signals) _) (facts_changed c.noted n Rewire)
            (tied_rewire_law env.hosts (given_below c.made.signals) c.signals c.memos (reverse (facts_told c.noted)) n r.kept (ap is_there e) r.tied);
        explained = with_change env c.noted n Rewire r.explained;
      };
      ends = λ n old c there host r. record {
        kept = dispose_law env.hosts c.signals c.memos n there r.kept;
        names = given_dispose_law (given_below c.made.signals) c.signals c.memos n r.names;
        tied =
            subst (AreTied (given_below c.made.signals) _) (facts_changed c.noted n Gone)
            (tied_dispose_law env.hosts (given_below c.made.signals) c.signals c.memos (reverse (facts_told c.noted)) n r.kept there r.tied);
        explained = with_change env c.noted n Gone r.explained;
      };
    };
    settles = λ names c r.
        let s : List Run = (settled env.hosts c.signals c.memos names).runs in
        let journal : List Fact = facts_told c.noted in
        let whole : facts_told (c.noted ++ map ran (moments c.signals s)) ≡ journal ++ map run_fact s =
        facts_append c.noted (map ran (moments c.signals s)) ∙ ap (λ xs. journal ++ xs) (facts_moments c.signals s) in
        record {
          kept = settle_law env.hosts c.signals c.memos names r.kept;
          names = given_settle_law env.hosts (given_below c.made.signals) c.signals c.memos names r.names;
          tied =
              subst (λ xs. AreTied (given_below c.made.signals) (settled env.hosts c.signals c.memos names).memos (reverse xs)) (sym whole)
              (tied_settle_law env.hosts (given_below c.made.signals) c.signals c.memos journal names r.kept r.names r.tied);
          explained =
              explained_append env [] c.noted (map ran (moments c.signals s)) r.explained
              (moments_explained env c.signals c.memos names r.kept journal s
              (runs_law env.hosts (given_below c.made.signals) c.signals c.memos journal names r.kept r.names r.tied));
        };
  };
  makes_cell = λ v rule c r.
      let x : Cell = record { name = c.made.signals; value = v; rule = rule } in
      let next : IsNext c.made.signals = given_next_law c.made.signals in
      record {
        kept = cell_law env.hosts (given_below c.made.signals) c.signals c.memos x r.names next.new r.kept;
        names =
            given_cell_law (given_below (c.made.signals + 1)) c.signals c.memos x next.given
            (given_more_law (given_below c.made.signals) (given_below (c.made.signals + 1)) c.signals c.memos next.stay r.names);
        tied = made_tied env c r;
        explained = r.explained;
      };
  makes_computed = λ q c stand free r.
      let x : Computed = record { name = c.made.signals; recipe = q } in
      let next : IsNext c.made.signals = given_next_law c.made.signals in
      let more : AreGiven (given_below (c.made.signals + 1)) c.signals c.memos =
      given_more_law (given_below c.made.signals) (given_below (c.made.signals + 1)) c.signals c.memos next.stay r.names in
      record {
        kept = computed_law env.hosts (given_below c.made.signals) c.signals c.memos x r.names next.new r.kept;
        names = given_computed_law (given_below (c.made.signals + 1)) c.signals c.memos x next.given (λ m i. more.names m (stand m i)) more;
        tied = made_tied env c r;
        explained = r.explained;
      };
  makes_others = λ owners pages watchers c r. record { kept = r.kept; names = r.names; tied = r.tied; explained = r.explained };
}

-- nothing was noted at first
pub none_recorded : (env : Environment) (n : ℕ) → Recorded env (core_of (new_world n))
none_recorded env n = record {
  kept = empty_law env.hosts;
  names = given_empty_law (given_below 0);
  tied = tied_empty_law (given_below 0);
  explained = tt;
}

-- so it is after any commands
pub journal_law : JournalLaw
journal_law env n cs =
    let w : World = after_commands env (new_world n) cs in
    let r : Recorded env (core_of w) = commands_keep env (Recorded env) (changes_record env) cs (new_world n) (none_recorded env n) in
    record {
      tied = subst (λ xs. AreTied (given_below w.made.signals) w.memos (reverse xs)) (facts_noted w.told) r.tied;
      explained = explained_noted env [] w.told r.explained;
    }
