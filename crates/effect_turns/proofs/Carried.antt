-- What single steps leave.
use Rattle.std.proofs.Common.{◌≡◌, ℕ, ◌+◌, ◌*◌, ◌^◌, ◌<◌, ◌≤◌, List, [], ◌++◌, length, length-append, map, refl, sym, ap, subst, ◌∙◌, arith}
use Rattle.std.proofs.lemmas.List.{length-map}
use Rattle.signal_model.specs.Recipes.{Hosts}
use Rattle.effect_model.specs.Worlds as plain
use Rattle.effect_model.specs.Worlds.{settle, at_rest}
use Rattle.effect_tables.specs.declared.tables.Tables.{Tables}
use Rattle.effect_tables.specs.Placed.{effect_of}
use Rattle.effect_tables.proofs.Shared.{placed_rests, same_heard}
use Rattle.sig_host.specs.Hosts.{HostPlace, most_asked}
use Rattle.sig_watcher.specs.Tables.{Table}
use Rattle.sig_computed.specs.declared.notes.RunNote.{RunNote}
use Rattle.sig_computed.specs.Notes.{note_of, IsSettling}
use Rattle.sig_computed.specs.Scenes as settling
use Rattle.sig_computed.specs.Scenes.{Settles}
use Rattle.sig_effect.specs.Stores.{AreRuled, environment}
use Rattle.sig_effect.specs.Wholes as wholes
use Rattle.sig_effect.proofs.Shared.{agrees_settled, settle_does, tells_none}
use Rattle.sig_effect.specs.declared.events.Event.{Event}
use Rattle.sig_effect.specs.declared.events.Event.TheVariants as event
use Rattle.effect_world.specs.declared.world.World.{World}
use Rattle.effect_world.specs.Signals.{Scene, any_hosts, scene}
use Rattle.effect_world.specs.Stores.{Agrees, Does, Hears, IsSound}
use Rattle.sig_effect.specs.Events.{Tells}
use Rattle.effect_world.specs.Costs.{weight}
use Rattle.effect_world.specs.Wholes.{stores_of, whole_of}
use Rattle.effect_world.proofs.Shared.{owned_still, settle_done}
use Rattle.effect_world.specs.Answers.{Acted}
use Rattle.effect_turns.specs.Runs.{CanHear, CanRun, Runs, Spends}

-- ---- the same act in other words

does_as : (hosts : Hosts) (old new : Scene) (f g : plain.World → plain.World) → f (whole_of old.asked old.world) ≡ g (whole_of old.asked old.world) →
    Does hosts old.asked new.asked old.world new.world old.events new.events f → Does hosts old.asked new.asked old.world new.world old.events new.events g
does_as hosts old new f g is d = record {
  whole = d.whole ∙ ap at_rest is;
  told = subst (λ (w : plain.World). Tells old.events new.events w.told) is d.told;
  sound = d.sound;
}

pub runs_as : (slacks : List ℕ) (old new : Scene) (before after : Hosts → Type 0) (f g : plain.Environment → plain.World → plain.World) →
    ((hosts : Hosts) → before hosts → IsSound hosts old.asked old.world →
    f (environment hosts slacks) (whole_of old.asked old.world) ≡ g (environment hosts slacks) (whole_of old.asked old.world)) →
    Runs slacks old new before after f → Runs slacks old new before after g
runs_as slacks old new before after f g is r = record {
  does = λ hosts all sound. does_as hosts old new (f (environment hosts slacks)) (g (environment hosts slacks)) (is hosts all sound) (r.does hosts all sound);
  agrees = r.agrees;
  answers = r.answers;
  rules = r.rules;
  given = r.given;
  made = r.made;
}

-- the world after it is the plain world after it, at rest
pub runs_whole : (slacks : List ℕ) (old new : Scene) (before after : Hosts → Type 0) (f : plain.Environment → plain.World → plain.World) →
    Runs slacks old new before after f → (hosts : Hosts) → before hosts → IsSound hosts old.asked old.world →
    whole_of new.asked new.world ≡ at_rest (f (environment hosts slacks) (whole_of old.asked old.world))
runs_whole slacks old new before after f r hosts all sound = (r.does hosts all sound).whole

pub runs_sound : (slacks : List ℕ) (old new : Scene) (before after : Hosts → Type 0) (f : plain.Environment → plain.World → plain.World) →
    Runs slacks old new before after f → (hosts : Hosts) → before hosts → IsSound hosts old.asked old.world → IsSound hosts new.asked new.world
runs_sound slacks old new before after f r hosts all sound = (r.does hosts all sound).sound

-- ---- nothing is done

pub runs_still : (slacks : List ℕ) (x : Scene) (answers : Hosts → Type 0) (act : plain.Environment → plain.World → plain.World) → Agrees x.asked x.world →
    ((env : plain.Environment) → act env (whole_of x.asked x.world) ≡ whole_of x.asked x.world) → Runs slacks x x answers answers act
runs_still slacks x answers act a is = record {
  does = λ hosts all sound. record {
    whole = sym (placed_rests x.world.tables (wholes.whole_of x.asked (stores_of x.world)) a.owned.tables) ∙ ap at_rest (sym (is (environment hosts slacks)));
    told = subst (λ (w : plain.World). Tells x.events x.events w.told) (sym (is (environment hosts slacks))) (tells_none x.events);
    sound = sound;
  };
  agrees = a;
  answers = λ hosts h. h;
  rules = λ count h. h;
  given = refl;
  made = refl;
}

pub spends_none : (x : Scene) → Spends x x
spends_none x = record { weight = omega arith; most = omega arith }

-- nothing but what is known of effects
pub runs_heard : (slacks : List ℕ) (x : Scene) (new : World) (answers : Hosts → Type 0) (act : plain.Environment → plain.World → plain.World) →
    new ≡ record (x.world) { heard = new.heard } → Hears new → Runs slacks x x answers answers act → Runs slacks x (scene new x.asked x.events) answers answers act
runs_heard slacks x new answers act same heard r =
    subst (λ (w : World). Runs slacks x (scene w x.asked x.events) answers answers act) (sym same)
    (record {
      does = λ hosts all sound. let d = r.does hosts all sound in record { whole = d.whole; told = d.told; sound = d.sound };
      agrees = record { signals = r.agrees.signals; owned = record { tables = r.agrees.owned.tables; formed = r.agrees.owned.formed; fresh = r.agrees.owned.fresh }; heard = subst Hears same heard };
      answers = λ hosts h. h;
      rules = λ count h. h;
      given = refl;
      made = refl;
    })

pub spends_heard : (x : Scene) (new : World) → new ≡ record (x.world) { heard = new.heard } → Spends x (scene new x.asked x.events)
spends_heard x new same =
    let e : weight (record (x.world) { heard = new.heard }) ≡ weight x.world = refl in
    subst (λ (w : World). Spends x (scene w x.asked x.events)) (sym same) (record { weight = omega (arith, e); most = omega arith })

-- ---- events behind others

tells_behind : (none told before after : List Event) (ts : List plain.Event) → none ≡ [] → after ≡ before ++ told → Tells none told ts → Tells before after ts
tells_behind none told before after ts empty is h = record {
  more = h.more;
  behind = is ∙ ap (λ es. before ++ es) (h.behind ∙ ap (λ es. es ++ h.more) empty);
  each = h.each;
}

-- what was told from nothing on is put behind the others
pub runs_behind : (slacks : List ℕ) (old new : World) (asked later : List HostPlace) (none told before after : List Event) (first last : Hosts → Type 0)
    (act : plain.Environment → plain.World → plain.World) → none ≡ [] → after ≡ before ++ told →
    Runs slacks (scene old asked none) (scene new later told) first last act → Runs slacks (scene old asked before) (scene new later after) first last act
runs_behind slacks old new asked later none told before after first last act empty is r = record {
  does = λ hosts all sound.
      let d = r.does hosts all sound in
      record {
        whole = d.whole;
        told = tells_behind none told before after (act (environment hosts slacks) (whole_of asked old)).told empty is d.told;
        sound = d.sound;
      };
  agrees = r.agrees;
  answers = r.answers;
  rules = r.rules;
  given = r.given;
  made = r.made;
}

-- there are at least as many
pub longer : (told before after : List Event) → after ≡ before ++ told → length before ≤ length after
longer told before after is =
    let e : length after ≡ length before + length told = ap length is ∙ length-append before told in
    omega (arith, e)

-- ---- acts, and what is settled

pub acted_runs : (slacks : List ℕ) (old new : Scene) (before after : Hosts → Type 0) (steps : ℕ) (act : plain.Environment → plain.World → plain.World) →
    Acted slacks old new before after steps act → Runs slacks old new before after act
acted_runs slacks old new before after steps act a = record {
  does = λ hosts all sound. a.does hosts sound;
  agrees = a.agrees;
  answers = a.answers;
  rules = a.rules;
  given = a.given;
  made = a.made;
}

pub settled_runs : (slacks : List ℕ) (old new : World) (asked later : List HostPlace) (none notes : List RunNote) (before after : List Event) (first last : Hosts → Type 0)
    (names : Hosts → List ℕ) → none ≡ [] → after ≡ before ++ map event.Run notes → new.tables ≡ old.tables → new.watchers ≡ old.watchers → new.heard ≡ old.heard → Agrees asked old →
    Settles (settling.scene old.graph asked none) (settling.scene new.graph later notes) first last names →
    Runs slacks (scene old asked before) (scene new later after) first last (λ env. settle env (names env.hosts))
settled_runs slacks old new asked later none notes before after first last names empty is same watched heard a s = record {
  does = λ hosts all sound.
      settle_done hosts slacks asked later old new before after (names hosts)
      (settle_does hosts slacks asked later (stores_of old) (stores_of new) (names hosts) notes before after s.signals s.given watched
      (subst (λ (ns : List RunNote). IsSettling hosts old.graph.state.signals old.graph.state.memos (names hosts) (map note_of ns) (map note_of notes)
      new.graph.state.memos) empty (s.settled hosts all sound.kept))
      (s.asked hosts all sound.kept) is (s.kept hosts all sound.kept) sound)
      same a.owned.tables;
  agrees = record {
    signals = agrees_settled asked later (stores_of old) (stores_of new) s.signals s.idle s.there watched a.signals;
    owned = owned_still old new s.given same a.owned;
    heard = same_heard old.graph.state.signals new.graph.state.signals old.heard new.heard (map effect_of old.tables.effects.items) (map effect_of new.tables.effects.items)
        s.signals heard (ap (λ (t : Tables). map effect_of t.effects.items) same) a.heard;
  };
  answers = s.answers;
  rules = λ count h. subst (AreRuled count) (sym s.signals) h;
  given = s.given;
  made = ap (λ (t : Table). t.made) watched;
}

pub settled_spends : (old new : World) (asked later : List HostPlace) (none notes : List RunNote) (before after : List Event) (first last : Hosts → Type 0)
    (names : Hosts → List ℕ) → none ≡ [] → after ≡ before ++ map event.Run notes → new.tables ≡ old.tables →
    Settles (settling.scene old.graph asked none) (settling.scene new.graph later notes) first last names →
    Spends (scene old asked before) (scene new later after)
settled_spends old new asked later none notes before after first last names empty is same s =
    let n : length (map note_of none) ≡ 0 = ap (λ (ns : List RunNote). length (map note_of ns)) empty in
    let k : length (map note_of notes) ≡ length notes = length-map notes note_of in
    let e : length after ≡ length before + length notes =
    ap length is ∙ length-append before (map event.Run notes) ∙ ap (λ k. length before + k) (length-map notes event.Run) in
    let w : new.graph.state.worn + length (map note_of none) ≡ old.graph.state.worn + length (map note_of notes) = s.worn in
    let m : most_asked later + 65 * length (map note_of none) ≤ most_asked asked + 65 * length (map note_of notes) = s.most in
    let t : weight new ≡ weight (record new { tables = old.tables }) = ap (λ (x : Tables). weight (record new { tables = x })) same in
    record { weight = omega (arith, n, k, e, w, t); most = omega (arith, n, k, e, m) }

-- ---- what is spent

pub spends_then : (old mid new : Scene) → Spends old mid → Spends mid new → Spends old new
spends_then old mid new a b =
    let aw = a.weight in
    let am = a.most in
    let bw = b.weight in
    let bm = b.most in
    record { weight = omega (arith, aw, bw); most = omega (arith, am, bm) }

-- an act that costs no more than it tells
pub spends_told : (old new : Scene) → weight new.world + length old.events ≤ weight old.world + length new.events → most_asked new.asked ≤ most_asked old.asked →
    length old.events ≤ length new.events → Spends old new
spends_told old new w m l = record { weight = omega (arith, w, l); most = omega (arith, m, l) }

pub spends_kept : (old new : Scene) → weight new.world + length old.events ≤ (weight old.world + length new.events) + 0 → most_asked new.asked ≤ most_asked old.asked →
    length old.events ≤ length new.events → Spends old new
spends_kept old new w m l = record { weight = omega (arith, w, l); most = omega (arith, m, l) }

-- a run is told by one event, which stands for what its acts cost
pub run_spends : (slacks : List ℕ) (act : plain.Environment → plain.World → plain.World) (old mid kept new : Scene) → Spends old mid →
    Acted slacks mid kept any_hosts any_hosts 0 act → length kept.events ≡ length mid.events + 1 →
    weight new.world + length kept.events ≤ weight kept.world + length new.events + 64 → most_asked new.asked ≤ most_asked kept.asked →
    length kept.events ≤ length new.events → Spends old new
run_spends slacks act old mid kept new s k kl nw nm nl =
    let sw = s.weight in
    let sm = s.most in
    let kw = k.worn in
    let km = k.most in
    record { weight = omega (arith, sw, kw, kl, nw, nl); most = omega (arith, sm, km, kl, nm, nl) }

-- ---- counters are low

pub low_weight : (x : Scene) → CanRun x → length x.events < 2 ^ 64 → weight x.world < 2 ^ 125
low_weight x c l = let w = c.weight in omega (arith, w, l)

-- after the reads of a run were kept, too
pub low_after : (slacks : List ℕ) (act : plain.Environment → plain.World → plain.World) (old mid kept : Scene) → CanRun old → Spends old mid →
    Acted slacks mid kept any_hosts any_hosts 0 act → length kept.events ≡ length mid.events + 1 → length kept.events < 2 ^ 64 → weight kept.world < 2 ^ 125
low_after slacks act old mid kept c s k kl l =
    let w = c.weight in
    let sw = s.weight in
    let kw = k.worn in
    omega (arith, w, sw, kw, kl, l)

-- more effects may run
pub can_then : (slacks : List ℕ) (old new : Scene) (before after : Hosts → Type 0) (act : plain.Environment → plain.World → plain.World) →
    Runs slacks old new before after act → Spends old new → CanRun old → CanRun new
can_then slacks old new before after act r s c =
    let sw = s.weight in
    let sm = s.most in
    let cw = c.weight in
    let cr = c.room in
    record { agrees = r.agrees; weight = omega (arith, sw, cw); room = omega (arith, sm, cr) }

-- by any meanings of host formulas
pub runs_any : (slacks : List ℕ) (old new : Scene) (answers : Hosts → Type 0) (act : plain.Environment → plain.World → plain.World) →
    Runs slacks old new any_hosts any_hosts act → Runs slacks old new answers answers act
runs_any slacks old new answers act r = record {
  does = λ hosts all sound. r.does hosts tt sound;
  agrees = r.agrees;
  answers = λ hosts h. h;
  rules = r.rules;
  given = r.given;
  made = r.made;
}

-- where effects may run, a body may be evaluated
pub can_hear : (x : Scene) → CanRun x → CanHear x
can_hear x c =
    let w = c.weight in
    let r = c.room in
    record { agrees = c.agrees; weight = omega (arith, w); room = omega (arith, r) }
