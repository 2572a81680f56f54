-- An effect that need not be looked at isn't due, and nothing is done to it.
use Rattle.std.proofs.Common.{◌≡◌, ℕ, ◌&&◌, true, false, List, [], ◌∷◌, map, Option, Some, None, refl, sym, ap, ◌∙◌}
use Rattle.std.specs.Prelude.{slice_get}
use Rattle.std.specs.List.{AllByRecursion, list_all}
use Rattle.std.proofs.lemmas.Bool.{and_parts}
use Rattle.std.proofs.lemmas.List.{append-nil}
use Rattle.signal_model.specs.Recipes.{Hosts}
use Rattle.sig_base.specs.declared.value.Outcome.{Outcome}
use Rattle.sig_base.specs.declared.value.Outcome.TheVariants.{Bad, Good}
use Rattle.signal_model.specs.Signals.{Signals, Stands, IsCell, IsComputed, IsGone, standing}
use Rattle.signal_model.specs.Values.{Seen, value_of}
use Rattle.effect_model.specs.Runs.{is_effect_due, look, looked_names}
use Rattle.effect_model.specs.Worlds as plain
use Rattle.effect_model.specs.Worlds.{effect_at, settle}
use Rattle.effect_tables.specs.declared.heard.Heard.{Heard}
use Rattle.effect_tables.specs.Heard as marks
use Rattle.effect_tables.specs.Heard.{is_marked, still_in, IsHeardOf}
use Rattle.effect_tables.specs.Placed.{effect_of}
use Rattle.effect_tables.specs.Visits.{due_of, glance, is_due, to_effect, visit}
use Rattle.sig_host.specs.Hosts.{HostPlace}
use Rattle.sig_effect.specs.Stores.{environment}
use Rattle.sig_computed.specs.Notes.{IsIdle}
use Rattle.sig_computed.specs.Scenes as settling
use Rattle.sig_computed.specs.Scenes.{Settles}
use Rattle.sig_nodes.specs.Answers.{value_here}
use Rattle.effect_runs.specs.Evaluations.{has_value, is_still}
use Rattle.effect_runs.proofs.Shared.{still_none, still_settled}
use Rattle.effect_world.specs.declared.world.World.{World}
use Rattle.effect_world.specs.Signals.{Scene}
use Rattle.effect_world.specs.Stores.{Agrees, Hears, IsSound}
use Rattle.effect_world.specs.Wholes.{whole_of}
use Rattle.effect_turns.specs.Stills.{are_kept_still, IsQuiet}
use Rattle.effect_turns.specs.Runs.{Runs}
use Rattle.effect_turns.proofs.Carried.{runs_as, settled_runs}
use Rattle.effect_turns.proofs.Loops.{visit_passed}

-- a cell has its value still, in other words
still_as : (st : Stands) (o : Outcome) → still_in st o ≡ has_value (value_here st) o
still_as (IsCell c) (Good v) = refl
still_as (IsCell c) (Bad e) = refl
still_as (IsComputed d) o = refl
still_as IsGone o = refl

all_still : (w : Signals) (h : Heard) (p : ℕ) (ss : List Seen) → AllByRecursion (IsHeardOf w h p) ss → list_all (is_still w) ss ≡ true
all_still w h p [] all = refl
all_still w h p (s ∷ ss) all =
    ap (λ b. b && list_all (is_still w) ss) (sym (still_as (standing w s.name) s.outcome) ∙ all.0.still) ∙ all_still w h p ss all.1

kept_heard : (w : Signals) (h : Heard) (p : ℕ) (k : Option (List Seen)) → marks.IsQuiet w h p k → are_kept_still w k ≡ true
kept_heard w h p None quiet = absurd quiet
kept_heard w h p (Some ss) quiet = all_still w h p ss quiet

-- the effect of a number stands at a place that is marked
pub known_quiet : (w : World) (p e : ℕ) (x : plain.Effect) → Hears w → is_marked p w.heard.quiet ≡ true →
    slice_get (map effect_of w.tables.effects.items) p ≡ Some x → effect_at e (map effect_of w.tables.effects.items) ≡ Some x → IsQuiet e w
known_quiet w p e x heard on here lives = record {
  effect = x;
  lives = lives;
  still = kept_heard w.graph.state.signals w.heard p x.kept (heard.each p x on here);
}

-- what one that need not be looked at has read is so
still_all : (w : Signals) (ss : List Seen) → list_all (is_still w) ss ≡ true → AllByRecursion (λ (s : Seen). still_in (standing w s.name) s.outcome ≡ true) ss
still_all w [] h = tt
still_all w (s ∷ ss) h =
    let both = and_parts (is_still w s) (list_all (is_still w) ss) h in
    (still_as (standing w s.name) s.outcome ∙ both.0, still_all w ss both.1)

pub kept_all : (w : World) (e : ℕ) (x : plain.Effect) (ss : List Seen) → IsQuiet e w → effect_at e (map effect_of w.tables.effects.items) ≡ Some x → x.kept ≡ Some ss →
    AllByRecursion (λ (s : Seen). still_in (standing w.graph.state.signals s.name) s.outcome ≡ true) ss
kept_all w e x ss q lives kept =
    still_all w.graph.state.signals ss
    (ap (are_kept_still w.graph.state.signals) (sym kept ∙ ap (λ (y : plain.Effect). y.kept) (the_one x q.effect (sym lives ∙ q.lives))) ∙ q.still)
  where
    the_one : (x y : plain.Effect) → Some x ≡ Some y → x ≡ y
    the_one x y e = cc

-- what it keeps doesn't differ
kept_same : (hosts : Hosts) (w : Signals) (k : Option (List Seen)) → are_kept_still w k ≡ true → false ≡ is_effect_due (λ m. value_of hosts w m []) k
kept_same hosts w None h = absurd cc
kept_same hosts w (Some ss) h = still_none hosts w ss h

-- and to settle it does nothing
kept_settled : (x : settling.Scene) (before : Hosts → Type 0) (k : Option (List Seen)) → IsIdle x.graph.state → are_kept_still x.graph.state.signals k ≡ true →
    Settles x x before before (λ hosts. looked_names (λ m. value_of hosts x.graph.state.signals m []) k)
kept_settled x before None idle h = absurd cc
kept_settled x before (Some ss) idle h = still_settled x before ss idle h

pub quiet_due : (slacks : List ℕ) (hosts : Hosts) (asked : List HostPlace) (w : World) (e : ℕ) → IsSound hosts asked w → IsQuiet e w →
    false ≡ is_due (environment hosts slacks) e (whole_of asked w)
quiet_due slacks hosts asked w e sound q =
    kept_same hosts w.graph.state.signals q.effect.kept q.still
    ∙ ap (due_of (λ m. value_of hosts w.graph.state.signals m [])) (sym q.lives)

pub quiet_visit : (slacks : List ℕ) (x : Scene) (answers : Hosts → Type 0) (e : ℕ) → Agrees x.asked x.world → IsQuiet e x.world →
    Runs slacks x x answers answers (λ env. visit env e)
quiet_visit slacks x answers e a q =
    let w : Signals = x.world.graph.state.signals in
    visit_passed slacks x x answers answers e false refl (λ hosts all sound. quiet_due slacks hosts x.asked x.world e sound q)
    (runs_as slacks x x answers answers
    (λ env. settle env (looked_names (λ m. value_of env.hosts w m []) q.effect.kept)) (λ env. glance env e)
    (λ hosts all sound. sym (ap (λ (o : Option plain.Effect). to_effect (look (environment hosts slacks)) o (whole_of x.asked x.world)) q.lives))
    (settled_runs slacks x.world x.world x.asked x.asked [] [] x.events x.events answers answers
    (λ hosts. looked_names (λ m. value_of hosts w m []) q.effect.kept) refl (sym (append-nil x.events)) refl refl refl a
    (kept_settled (settling.scene x.world.graph x.asked []) answers q.effect.kept a.signals.idle q.still)))
