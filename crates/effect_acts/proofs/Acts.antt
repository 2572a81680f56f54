-- What acts leave.
use Rattle.std.proofs.Common.{◌≡◌, ℕ, ◌+◌, ◌≤◌, ◌++◌, ◌&&◌, not, Bool, true, false, List, [], ◌∷◌, length, cond, refl, sym, ap, subst, ◌∙◌, arith}
use Rattle.signal_model.specs.Recipes.{Hosts}
use Rattle.effect_model.specs.Acts.{dispose_live, dispose_thing}
use Rattle.effect_model.specs.Owners as owning
use Rattle.effect_model.specs.Owners.{put_under}
use Rattle.effect_model.specs.Worlds as plain
use Rattle.effect_model.specs.Worlds.{lives, tell, at_rest}
use Rattle.effect_laws.specs.Frames.{IsOfSignals}
use Rattle.sig_owner.specs.Tables.{Row, changed_at, live_at, noted, thing_at, with_item}
use Rattle.sig_owner.specs.Trees.{has_thing, owned_of}
use Rattle.sig_owner.proofs.Shared.{has_put, item_lives, item_thing, renamed_put}
use Rattle.effect_tables.specs.declared.tables.Tables.{Tables}
use Rattle.effect_tables.specs.Consistency.{TablesAgree}
use Rattle.effect_tables.specs.Placed.{numbering, tree_of}
use Rattle.effect_tables.proofs.Shared.{number_apart, placed_rests}
use Rattle.effect_teardown.specs.Trees.{AreFormed}
use Rattle.effect_teardown.specs.Teardowns.{EndsIn, Takes}
use Rattle.effect_teardown.proofs.Shared.{formed_put, taken}
use Rattle.sig_host.specs.Hosts.{HostPlace}
use Rattle.sig_effect.specs.Stores.{environment}
use Rattle.sig_effect.specs.Wholes as wholes
use Rattle.sig_effect.proofs.Shared.{tells_none}
use Rattle.sig_effect.specs.declared.events.Event.{Event}
use Rattle.sig_effect.specs.declared.events.Event.TheVariants as event
use Rattle.effect_world.specs.declared.world.World.{World}
use Rattle.effect_world.specs.Signals.{Scene, Undoes, any_hosts, scene}
use Rattle.effect_world.specs.Stores.{Agrees, Does, IsSound}
use Rattle.sig_effect.specs.Events.{IsTold, Tells}
use Rattle.effect_world.specs.Wholes.{stores_of, whole_of}
use Rattle.effect_world.proofs.Shared.{one_told, signals_done, tells_one}
use Rattle.effect_world.specs.Answers.{Acted}

-- one event is told of a world that stays as it is
told_does : (hosts : Hosts) (asked : List HostPlace) (old : World) (before after : List Event) (ev : Event) (t : plain.Event) (act : plain.World → plain.World) → after ≡ before ++ ev ∷ [] →
    act (whole_of asked old) ≡ tell t (whole_of asked old) → IsTold ev t → Agrees asked old → IsSound hosts asked old → Does hosts asked asked old old before after act
told_does hosts asked old before after ev t act more is one a sound = record {
  whole = sym (placed_rests old.tables (wholes.whole_of asked (stores_of old)) a.owned.tables) ∙ ap at_rest (sym is);
  told = subst (λ (w : plain.World). Tells before after w.told) (sym is) (subst (λ es. Tells before es (t ∷ [])) (sym more) (tells_one before ev t one));
  sound = sound;
}

pub acted_told : (slacks : List ℕ) (old : World) (asked : List HostPlace) (before after : List Event) (ev : Event) (t : plain.Event) (answers : Hosts → Type 0) (steps : ℕ)
    (act : plain.Environment → plain.World → plain.World) → after ≡ before ++ ev ∷ [] → ((env : plain.Environment) → act env (whole_of asked old) ≡ tell t (whole_of asked old)) → IsTold ev t →
    Agrees asked old → Acted slacks (scene old asked before) (scene old asked after) answers answers steps act
acted_told slacks old asked before after ev t answers steps act more is one a = record {
  does = λ hosts sound. told_does hosts asked old before after ev t (act (environment hosts slacks)) more (is (environment hosts slacks)) one a sound;
  agrees = a;
  answers = λ hosts h. h;
  most = omega arith;
  rules = λ count h. h;
  given = refl;
  made = refl;
  worn = let m : length after ≡ length before + 1 = one_told before after ev more in omega (arith, m);
  told = let m : length after ≡ length before + 1 = one_told before after ev more in omega (arith, m);
}

-- nothing is done
pub acted_still : (slacks : List ℕ) (old : World) (asked : List HostPlace) (events : List Event) (answers : Hosts → Type 0) (steps : ℕ) (act : plain.Environment → plain.World → plain.World) →
    ((env : plain.Environment) → act env (whole_of asked old) ≡ whole_of asked old) → Agrees asked old → Acted slacks (scene old asked events) (scene old asked events) answers answers steps act
acted_still slacks old asked events answers steps act is a = record {
  does = λ hosts sound. record {
    whole = sym (placed_rests old.tables (wholes.whole_of asked (stores_of old)) a.owned.tables) ∙ ap at_rest (sym (is (environment hosts slacks)));
    told = subst (λ (w : plain.World). Tells events events w.told) (sym (is (environment hosts slacks))) (tells_none events);
    sound = sound;
  };
  agrees = a;
  answers = λ hosts h. h;
  most = omega arith;
  rules = λ count h. h;
  given = refl;
  made = refl;
  worn = omega arith;
  told = omega arith;
}

-- by another name that means the same there
pub acted_at : (slacks : List ℕ) (old new : Scene) (first last : Hosts → Type 0) (steps more : ℕ) (f g : plain.Environment → plain.World → plain.World) →
    ((env : plain.Environment) → f env (whole_of old.asked old.world) ≡ g env (whole_of old.asked old.world)) → steps ≤ more → Acted slacks old new first last steps f →
    Acted slacks old new first last more g
acted_at slacks old new first last steps more f g same few p =
    let w = p.worn in
    record {
      does = λ hosts sound.
          let d : Does hosts old.asked new.asked old.world new.world old.events new.events (f (environment hosts slacks)) = p.does hosts sound in
          record {
            whole = d.whole ∙ ap at_rest (same (environment hosts slacks));
            told = subst (λ (v : plain.World). Tells old.events new.events v.told) (same (environment hosts slacks)) d.told;
            sound = d.sound;
          };
      agrees = p.agrees;
      answers = p.answers;
      most = p.most;
      rules = p.rules;
      given = p.given;
      made = p.made;
      worn = omega (arith, w, few);
      told = p.told;
    }

-- by another name
pub acted_lent : (slacks : List ℕ) (old new : Scene) (first last : Hosts → Type 0) (steps more : ℕ) (f g : plain.Environment → plain.World → plain.World) → ((env : plain.Environment) → f env ≡ g env) →
    steps ≤ more → Acted slacks old new first last steps f → Acted slacks old new first last more g
acted_lent slacks old new first last steps more f g same few p =
    acted_at slacks old new first last steps more f g (λ env. ap (λ (h : plain.World → plain.World). h (whole_of old.asked old.world)) (same env)) few p

-- where no host formula is asked
pub acted_any : (slacks : List ℕ) (old new : Scene) (answers : Hosts → Type 0) (steps : ℕ) (act : plain.Environment → plain.World → plain.World) →
    Acted slacks old new any_hosts any_hosts steps act → Acted slacks old new answers answers steps act
acted_any slacks old new answers steps act p = record {
  does = p.does;
  agrees = p.agrees;
  answers = λ hosts h. h;
  most = p.most;
  rules = p.rules;
  given = p.given;
  made = p.made;
  worn = p.worn;
  told = p.told;
}

pub acted_as : (slacks : List ℕ) (old new : Scene) (answers : Hosts → Type 0) (steps more : ℕ) (f g : plain.Environment → plain.World → plain.World) → ((env : plain.Environment) → f env ≡ g env) →
    steps ≤ more → Acted slacks old new any_hosts any_hosts steps f → Acted slacks old new answers answers more g
acted_as slacks old new answers steps more f g same few p = acted_lent slacks old new answers answers steps more f g same few (acted_any slacks old new answers steps f p)

-- what was done to the signals is done to the world
pub acted_undoes : (slacks : List ℕ) (old new : Scene) (first last : Hosts → Type 0) (steps : ℕ) (act : plain.Environment → plain.World → plain.World) →
    ((env : plain.Environment) → IsOfSignals (act env)) → Agrees old.asked old.world → Agrees new.asked new.world → length old.events ≤ length new.events → Undoes slacks old new first last steps act →
    Acted slacks old new first last steps act
acted_undoes slacks old new first last steps act framed a later told p = record {
  does = λ hosts sound.
      signals_done hosts old.asked new.asked old.world new.world old.events new.events (act (environment hosts slacks)) (p.acts hosts sound) (framed (environment hosts slacks)) p.tables a.owned.tables;
  agrees = later;
  answers = p.answers;
  most = p.most;
  rules = p.rules;
  given = p.given;
  made = p.made;
  worn =
      let w = p.worn in
      let m : new.world.tables.effects_made ≡ old.world.tables.effects_made = ap (λ (t : Tables). t.effects_made) p.tables in
      omega (arith, w, m, told);
  told = told;
}

-- a cleanup is noted in the store
pub noted_in : (rows later : List Row) (n : ℕ) (c : owning.Cleanup) → later ≡ changed_at (with_item (noted c)) n rows →
    owned_of later ≡ put_under (thing_at rows n) (owning.cleanup c owning.nothing) (owned_of rows) → EndsIn rows later [] (put_under (thing_at rows n) (owning.cleanup c owning.nothing) (owned_of rows))
noted_in rows later n c after tree = record {
  things = λ k on. same k;
  effects = λ all k e is. alive k ∙ all k e (sym (same k) ∙ is);
  gone = λ before m off. ap (has_thing (owning.the_owner m)) tree ∙ has_put (owning.the_owner m) (thing_at rows n) (owning.cleanup c owning.nothing) (owned_of rows) refl (before m (sym (alive m) ∙ off));
  lives = λ k. alive k ∙ kept (live_at rows k);
  nowhere = λ t h. ap (has_thing t) tree ∙ has_put t (thing_at rows n) (owning.cleanup c owning.nothing) (owned_of rows) refl h;
  tree = tree;
}
  where
    same : (k : ℕ) → thing_at later k ≡ thing_at rows k
    same k = ap (λ rs. thing_at rs k) after ∙ item_thing (noted c) n k rows

    alive : (k : ℕ) → live_at later k ≡ live_at rows k
    alive k = ap (λ rs. live_at rs k) after ∙ item_lives (noted c) n k rows

    kept : (b : Bool) → b ≡ (b && not false)
    kept true = refl
    kept false = refl

-- a cleanup is noted under an effect that lives
abbrev pub with_note : ℕ → owning.Cleanup → plain.World → plain.World
with_note e c w = record w { owned = put_under (owning.the_effect e) (owning.cleanup c owning.nothing) w.owned }

noted_takes : (t : Tables) (later : List Row) (e n : ℕ) (c : owning.Cleanup) → TablesAgree t → AreFormed (tree_of t) → thing_at t.store n ≡ owning.the_effect e →
    EndsIn t.store later [] (put_under (thing_at t.store n) (owning.cleanup c owning.nothing) (owned_of t.store)) →
    Takes t (record t { store = later }) [] (put_under (owning.the_effect e) (owning.cleanup c owning.nothing) (tree_of t))
noted_takes t later e n c h f is ends =
    taken t (record t { store = later }) later [] [] (put_under (owning.the_effect e) (owning.cleanup c owning.nothing) (owned_of t.store)) h
    (subst (λ (s : owning.Thing). EndsIn t.store later [] (put_under s (owning.cleanup c owning.nothing) (owned_of t.store))) is ends)
    (record { store = refl; things = λ k. refl; owners = refl; effects = refl; pages = refl; effects_made = refl; pages_made = refl }) refl
    (put_under (owning.the_effect e) (owning.cleanup c owning.nothing) (tree_of t))
    (renamed_put (numbering t) (number_apart t.owners.items) (owning.the_effect e) (owning.cleanup c owning.nothing) (owned_of t.store))
    (record { formed = formed_put (owning.the_owner 0) (owning.the_effect e) (owning.cleanup c owning.nothing) (tree_of t) refl (tt, tt) f.formed })

pub acted_noted : (slacks : List ℕ) (old : World) (later : List Row) (asked : List HostPlace) (before after : List Event) (e n : ℕ) (c : owning.Cleanup) → thing_at old.tables.store n ≡ owning.the_effect e →
    EndsIn old.tables.store later [] (put_under (thing_at old.tables.store n) (owning.cleanup c owning.nothing) (owned_of old.tables.store)) → after ≡ before ++ event.Noted e ∷ [] → Agrees asked old →
    Acted slacks (scene old asked before) (scene (record old { tables = record (old.tables) { store = later } }) asked after) any_hosts any_hosts 0 (λ env w. tell (plain.noted (owning.the_effect e) c) (with_note e c w))
acted_noted slacks old later asked before after e n c is ends more a =
    let t : Tables = record (old.tables) { store = later } in
    let takes : Takes old.tables t [] (put_under (owning.the_effect e) (owning.cleanup c owning.nothing) (tree_of old.tables)) = noted_takes old.tables later e n c a.owned.tables a.owned.formed is ends in
    let s : plain.World = wholes.whole_of asked (stores_of old) in
    record {
      does = λ hosts sound. record {
        whole = sym (placed_rests t s takes.holds) ∙ ap at_rest (takes.does s);
        told = subst (λ es. Tells before es (plain.noted (owning.the_effect e) c ∷ [])) (sym more)
            (tells_one before (event.Noted e) (plain.noted (owning.the_effect e) c) (record { act = c; noted = refl }));
        sound = sound;
      };
      agrees = record {
        signals = a.signals;
        owned = record {
          tables = takes.holds;
          formed = subst AreFormed (sym takes.tree) takes.formed;
          fresh = λ k l. takes.signals.still k (λ q. cc) (a.owned.fresh k l);
        };
        heard = a.heard;
      };
      answers = λ hosts h. h;
      most = omega arith;
      rules = λ count h. h;
      given = refl;
      made = refl;
      worn = let m : length after ≡ length before + 1 = one_told before after (event.Noted e) more in omega (arith, m);
      told = let m : length after ≡ length before + 1 = one_told before after (event.Noted e) more in omega (arith, m);
    }

-- what is gone isn't disposed
pub refused_gone : (env : plain.Environment) (t : owning.Thing) (w : plain.World) → lives t w ≡ false → dispose_thing env t w ≡ tell (plain.refused (plain.thing_gone t)) w
refused_gone env t w off = ap (λ b. cond b (dispose_live env t w) (tell (plain.refused (plain.thing_gone t)) w)) off
