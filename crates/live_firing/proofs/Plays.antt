-- What handlers do, put together.
use Rattle.std.proofs.Common.{◌≡◌, ℕ, zero, suc, ◌+◌, ◌≤◌, List, [], ◌∷◌, ◌++◌, append-nil, append_assoc, Option, Some, refl, sym, ap, subst, ◌∙◌, arith}
use Rattle.std.specs.Prelude.{slice_get}
use Rattle.std.specs.List.{AllByRecursion}
use Rattle.signal_model.specs.Recipes.{Hosts}
use Rattle.signal_model.specs.Signals.{Signals}
use Rattle.effect_model.specs.Alone.{act_alone}
use Rattle.effect_model.specs.Bodies.{Act, to_set, to_log, to_note, to_make, to_dispose, to_rewire}
use Rattle.effect_model.specs.Worlds as plain
use Rattle.effect_model.specs.Worlds.{at_rest}
use Rattle.effect_tables.specs.Bodies.{no_body, signal_number, target_thing}
use Rattle.effect_tables.specs.Scripts.{IsFitting}
use Rattle.effect_tables.specs.declared.effect.Script.{Script}
use Rattle.effect_tables.specs.declared.links.Target.{Target}
use Rattle.effect_tables.proofs.Shared.{placed_rests}
use Rattle.effect_world.specs.Answers.{Acted}
use Rattle.effect_turns.specs.Runs.{Runs, Spends}
use Rattle.effect_turns.proofs.Shared.{any_parts, settle_none}
use Rattle.effect_world.specs.declared.world.World.{World}
use Rattle.effect_world.specs.Signals.{any_hosts, scene}
use Rattle.effect_world.specs.Stores.{Agrees, Does, IsSound}
use Rattle.effect_world.specs.Wholes.{stores_of, whole_of}
use Rattle.live_entries.specs.declared.entry.Entry.{Entry}
use Rattle.live_entries.specs.declared.entry.Entry.TheVariants as entry
use Rattle.live_labels.specs.declared.labels.Labels.{Labels}
use Rattle.live_labels.specs.Views.{labels_of, KeepsNames}
use Rattle.live_model.specs.Journals.{noting}
use Rattle.live_model.specs.Labels.{labels_after}
use Rattle.live_model.specs.Machine as machine
use Rattle.live_model.specs.Machine.{Told, acted, acting_once, entries_of, reached, running, settling}
use Rattle.live_model.proofs.Shared.{unnoted}
use Rattle.sig_effect.specs.Events.{Tells}
use Rattle.sig_effect.specs.Kinds.{AreKindsOf, KeepsKinds}
use Rattle.sig_effect.specs.Stores.{environment}
use Rattle.sig_effect.specs.Wholes as wholes
use Rattle.sig_effect.specs.declared.events.Event.{Event}
use Rattle.sig_effect.proofs.SharedKinds.{all_keep_kinds}
use Rattle.sig_host.specs.Hosts.{HostPlace}
use Rattle.sig_untrack.specs.Links.{Parts}
use Rattle.why_model.specs.Records.{Journal}
use Rattle.live_firing.specs.Stages.{CanFire, Comes, Plays, Stage, at_stage, stage, told_behind}

-- ---- what was a cell or a computed is one until it is gone

pub kinds_same : (w : Signals) → AreKindsOf w w
kinds_same w = record { each = λ x. record { cell = λ e. e; computed = λ e. e } }

kinds_then : (v w x : Signals) → AreKindsOf v w → AreKindsOf w x → AreKindsOf v x
kinds_then v w x a b = record {
  each = λ n. record { cell = λ e. (b.each n).cell ((a.each n).cell e); computed = λ e. (b.each n).computed ((a.each n).computed e) };
}

-- an act of a handler leaves it so
pub kinds_alone : (env : plain.Environment) (a : Act) → KeepsKinds (act_alone env a)
kinds_alone env (to_set n v) = all_keep_kinds.setting env n v
kinds_alone env (to_log v) = record { kept = λ w. kinds_same w.signals }
kinds_alone env (to_note c) = record { kept = λ w. kinds_same w.signals }
kinds_alone env (to_make b) = record { kept = λ w. kinds_same w.signals }
kinds_alone env (to_dispose t) = record { kept = λ w. kinds_same w.signals }
kinds_alone env (to_rewire n r) = record { kept = λ w. kinds_same w.signals }

-- ---- one act that is told

-- what is told of what happened between two stages
pub record TellsOn (old new : Stage) : Type 0 where
  pub told : (ts : List plain.Event) → Tells old.events new.events ts → new.told ≡ old.told ++ entries_of (labels_of old.labels) ts
  pub labels : (ts : List plain.Event) → Tells old.events new.events ts → labels_of new.labels ≡ labels_after ts (labels_of old.labels)
  pub noted : (ts : List plain.Event) → Tells old.events new.events ts → new.journal ≡ noting ts old.journal
  pub names : KeepsNames old.labels new.labels

comes_by : (hosts : Hosts) (old new : Stage) (act : plain.World → plain.World) → TellsOn old new →
    Does hosts old.asked new.asked old.world new.world old.events new.events act →
    AreKindsOf old.world.graph.state.signals (act (whole_of old.asked old.world)).signals → Comes hosts old new (λ m. acted m (act m.world))
comes_by hosts old new act by d kinds =
    let ts : List plain.Event = (act (whole_of old.asked old.world)).told in
    record {
      step = λ m. (λ i. reached (record m { world = d.whole i; labels = by.labels ts d.told i; journal = by.noted ts d.told i }) (by.told ts d.told i));
      sound = d.sound;
      kinds = subst (AreKindsOf old.world.graph.state.signals) (sym (ap (λ (w : plain.World). w.signals) d.whole)) kinds;
    }

-- an act of a handler was done, and is told
pub acted_plays : (slacks : List ℕ) (old new : Stage) (act : plain.Environment → plain.World → plain.World) → TellsOn old new →
    ((env : plain.Environment) → KeepsKinds (act env)) → new.world.tables ≡ old.world.tables →
    Acted slacks (scene old.world old.asked old.events) (scene new.world new.asked new.events) any_hosts any_hosts 1 act →
    Plays slacks old new any_hosts any_hosts 1 (λ env m. acted m (act env m.world))
acted_plays slacks old new act by kinds tables a =
    let worn = a.worn in
    let told = a.told in
    let most = a.most in
    record {
      comes = λ hosts all sound.
          let env : plain.Environment = environment hosts slacks in
          comes_by hosts old new (act env) by (a.does hosts sound) ((kinds env).kept (whole_of old.asked old.world));
      agrees = a.agrees;
      answers = a.answers;
      rules = a.rules;
      given = a.given;
      made = a.made;
      tables = tables;
      names = by.names;
      weight = omega (arith, worn, told);
      most = omega (arith, most, told);
    }

-- what a body reads was settled, and the runs are told
pub settled_plays : (slacks : List ℕ) (old new : Stage) (before after : Hosts → Type 0) (names : plain.Environment → plain.World → List ℕ) → TellsOn old new →
    new.world.tables ≡ old.world.tables →
    Runs slacks (scene old.world old.asked old.events) (scene new.world new.asked new.events) before after (λ env w. plain.settle env (names env w) w) →
    Spends (scene old.world old.asked old.events) (scene new.world new.asked new.events) →
    Plays slacks old new before after 0 (λ env m. acted m (plain.settle env (names env m.world) m.world))
settled_plays slacks old new before after names by tables r s =
    let heavy = s.weight in
    record {
      comes = λ hosts all sound.
          let env : plain.Environment = environment hosts slacks in
          let w : plain.World = whole_of old.asked old.world in
          comes_by hosts old new (λ v. plain.settle env (names env v) v) by (r.does hosts all sound) ((all_keep_kinds.settling env (names env w)).kept w);
      agrees = r.agrees;
      answers = r.answers;
      rules = r.rules;
      given = r.given;
      made = r.made;
      tables = tables;
      names = by.names;
      weight = omega (arith, heavy);
      most = s.most;
    }

-- ---- what is told alone

-- other entries are told behind those of before
abbrev pub telling : Stage → List Entry → Stage
telling s told = record s { told = told }

same_names : (l : Labels) → KeepsNames l l
same_names l = record { signals = refl; owners = refl; pages = refl; watchers = refl }

pub told_plays : (slacks : List ℕ) (s : Stage) (told more : List Entry) (answers : Hosts → Type 0) (steps : ℕ) → told ≡ s.told ++ more → Agrees s.asked s.world →
    Plays slacks s (telling s told) answers answers steps (λ env m. reached m more)
told_plays slacks s told more answers steps is agrees = record {
  comes = λ hosts all sound. record {
    step = λ m. ap (reached (at_stage m s)) is;
    sound = sound;
    kinds = kinds_same s.world.graph.state.signals;
  };
  agrees = agrees;
  answers = λ hosts h. h;
  rules = λ count h. h;
  given = refl;
  made = refl;
  tables = refl;
  names = same_names s.labels;
  weight = omega arith;
  most = omega arith;
}

-- nothing is done
pub still_plays : (slacks : List ℕ) (s : Stage) (answers : Hosts → Type 0) (steps : ℕ) → Agrees s.asked s.world → Plays slacks s s answers answers steps (λ env m. reached m [])
still_plays slacks s answers steps agrees = told_plays slacks s s.told [] answers steps (sym (append-nil s.told)) agrees

-- ---- one after the other

-- what two do, one after the other
abbrev pub both_told : (plain.Environment → machine.Machine → Told) → (plain.Environment → machine.Machine → Told) → plain.Environment → machine.Machine → Told
both_told f g env m =
    let t = f env m in
    let u = g env t.machine in reached u.machine (t.entries ++ u.entries)

pub plays_then : (slacks : List ℕ) (old mid new : Stage) (before between after : Hosts → Type 0) (n k : ℕ) (f g : plain.Environment → machine.Machine → Told) →
    Plays slacks old mid before between n f → Plays slacks mid new between after k g → Plays slacks old new before after (n + k) (both_told f g)
plays_then slacks old mid new before between after n k f g a b =
    let weight_a = a.weight in
    let weight_b = b.weight in
    let most_a = a.most in
    let most_b = b.most in
    record {
      comes = λ hosts all sound.
          let env : plain.Environment = environment hosts slacks in
          let x = a.comes hosts all sound in
          let y = b.comes hosts (a.answers hosts all) x.sound in
          record {
            step = λ m.
                let t : Told = f env (at_stage m old) in
                let u : Told = g env t.machine in
                y.step m ∙ (ap (λ (z : Told). told_behind z.entries (g env z.machine)) (x.step m) ∙ ap (reached u.machine) (append_assoc old.told t.entries u.entries));
            sound = y.sound;
            kinds = kinds_then old.world.graph.state.signals mid.world.graph.state.signals new.world.graph.state.signals x.kinds y.kinds;
          };
      agrees = b.agrees;
      answers = λ hosts all. b.answers hosts (a.answers hosts all);
      rules = λ count h. b.rules count (a.rules count h);
      given = b.given ∙ a.given;
      made = b.made ∙ a.made;
      tables = b.tables ∙ a.tables;
      names = record {
        signals = b.names.signals ∙ a.names.signals;
        owners = b.names.owners ∙ a.names.owners;
        pages = b.names.pages ∙ a.names.pages;
        watchers = b.names.watchers ∙ a.names.watchers;
      };
      weight = omega (arith, weight_a, weight_b);
      most = omega (arith, most_a, most_b);
    }

-- the same in other words, and with as many steps or more
pub plays_as : (slacks : List ℕ) (old new : Stage) (before after : Hosts → Type 0) (n k : ℕ) (f g : plain.Environment → machine.Machine → Told) →
    ((hosts : Hosts) → before hosts → IsSound hosts old.asked old.world → (m : machine.Machine) →
    f (environment hosts slacks) (at_stage m old) ≡ g (environment hosts slacks) (at_stage m old)) → n ≤ k →
    Plays slacks old new before after n f → Plays slacks old new before after k g
plays_as slacks old new before after n k f g same few a =
    let heavy = a.weight in
    record {
      comes = λ hosts all sound.
          let x = a.comes hosts all sound in
          record {
            step = λ m. x.step m ∙ ap (told_behind old.told) (same hosts all sound m);
            sound = x.sound;
            kinds = x.kinds;
          };
      agrees = a.agrees;
      answers = a.answers;
      rules = a.rules;
      given = a.given;
      made = a.made;
      tables = a.tables;
      names = a.names;
      weight = omega (arith, heavy, few);
      most = a.most;
    }

-- the same, where it is known what happened before
pub plays_from : (slacks : List ℕ) (w : World) (asked : List HostPlace) (labels : Labels) (journal : Option Journal) (es fs : List Event) (told : List Entry) (new : Stage)
    (before after : Hosts → Type 0) (n : ℕ) (act : plain.Environment → machine.Machine → Told) → es ≡ fs →
    Plays slacks (stage w asked labels journal es told) new before after n act → Plays slacks (stage w asked labels journal fs told) new before after n act
plays_from slacks w asked labels journal es fs told new before after n act same a =
    subst (λ (xs : List Event). Plays slacks (stage w asked labels journal xs told) new before after n act) same a

-- and so may they run
pub fires_from : (w : World) (asked : List HostPlace) (es fs : List Event) (n : ℕ) → es ≡ fs → CanFire w asked fs n → CanFire w asked es n
fires_from w asked es fs n same can = subst (λ (xs : List Event). CanFire w asked xs n) (sym same) can

-- where no host formula is asked
pub plays_any : (slacks : List ℕ) (old new : Stage) (answers : Hosts → Type 0) (n : ℕ) (f : plain.Environment → machine.Machine → Told) →
    Plays slacks old new any_hosts any_hosts n f → Plays slacks old new answers answers n f
plays_any slacks old new answers n f a = record {
  comes = λ hosts all sound. a.comes hosts tt sound;
  agrees = a.agrees;
  answers = λ hosts h. h;
  rules = a.rules;
  given = a.given;
  made = a.made;
  tables = a.tables;
  names = a.names;
  weight = a.weight;
  most = a.most;
}

-- ---- what places stand for

-- places whose cells are those of these targets
abbrev pub parts_for : List Target → Parts
parts_for targets = record any_parts { cells = λ n. signal_number (target_thing 0 (slice_get targets n)) }

-- a script among those that fit
pub fits_at : (ss : List Script) (n : ℕ) (s : Script) → slice_get ss n ≡ Some s → AllByRecursion IsFitting ss → IsFitting s
fits_at [] n s e all = absurd cc
fits_at (x ∷ ss) zero s e all = let same : x ≡ s = cc in subst IsFitting same all.0
fits_at (x ∷ ss) (suc n) s e all = fits_at ss n s e all.1

-- ---- acts that no handler has

-- a machine whose world rests, after an act that does nothing
rests_told : (m : machine.Machine) → at_rest m.world ≡ m.world → acted m m.world ≡ reached m []
rests_told m rests =
    let none : m.world.told ≡ [] = sym (ap (λ (w : plain.World). w.told) rests) in
    (λ i. reached (record m { labels = labels_after (none i) m.labels; world = rests i; journal = noting (none i) m.journal }) (entries_of m.labels (none i)))
    ∙ ap (λ j. reached (record m { journal = j }) []) (unnoted m.journal)

pub acted_once : (env : plain.Environment) (m : machine.Machine) (a : Act) → at_rest m.world ≡ m.world → acted m (act_alone env a m.world) ≡ acting_once env m a
acted_once env m (to_set n v) rests = refl
acted_once env m (to_log v) rests = refl
acted_once env m (to_note c) rests = rests_told m rests
acted_once env m (to_make b) rests = rests_told m rests
acted_once env m (to_dispose t) rests = rests_told m rests
acted_once env m (to_rewire n r) rests = rests_told m rests

-- the world of a machine rests
pub rests_at : (asked : List HostPlace) (w : World) → Agrees asked w → at_rest (whole_of asked w) ≡ whole_of asked w
rests_at asked w a = placed_rests w.tables (wholes.whole_of asked (stores_of w)) a.owned.tables

-- ---- a handler without a body

pub running_none : (env : plain.Environment) (m : machine.Machine) (page : List ℕ) (node : ℕ) → at_rest m.world ≡ m.world →
    reached m (entry.Fired page node ∷ []) ≡ running env m page (record { node = node; body = no_body })
running_none env m page node rests =
    let still : settling env m [] ≡ reached m [] = ap (acted m) (settle_none env m.world) ∙ rests_told m rests in
    ap (λ (t : Told). reached t.machine (t.entries ++ entry.Fired page node ∷ [])) (sym still)
