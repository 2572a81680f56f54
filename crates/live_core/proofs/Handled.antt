-- Handlers of events are made, and run.
use Rattle.std.proofs.Common.{◌≡◌, ◌⊎◌, inl, inr, ℕ, zero, suc, List, [], ◌∷◌, ◌++◌, length, length-append, map, Option, Some, refl, sym, ap, subst, ◌∙◌, arith}
use Rattle.std.specs.Prelude.{slice_get}
use Rattle.std.specs.List.{AllByRecursion}
use Rattle.signal_model.specs.Recipes.{Hosts}
use Rattle.effect_tables.specs.Scripts.{IsFitting}
use Rattle.effect_tables.specs.declared.effect.Script.{Script}
use Rattle.event_model.specs.declared.awaited.Awaited.{Awaited}
use Rattle.event_model.specs.declared.fired.Fired.{Fired}
use Rattle.effect_world.specs.declared.world.World.{World}
use Rattle.live_entries.specs.declared.entry.Entry.{Entry}
use Rattle.live_firing.specs.Stages.{Comes, handlings_in, script_body, stage, told_behind}
use Rattle.live_labels.specs.declared.labels.Labels.{Labels}
use Rattle.live_model.specs.Handlers.{Handler, Handling, handler_body, handlings_of}
use Rattle.live_model.specs.Machine.{firing}
use Rattle.why_model.specs.Records.{Journal}
use Rattle.page_events.specs.declared.fault.FireFault.{FireFault}
use Rattle.page_events.specs.declared.fault.FireFault.TheVariants as fire
use Rattle.sig_effect.specs.Stores.{environment}
use Rattle.sig_effect.specs.declared.events.Event.{Event}
use Rattle.sig_host.specs.Hosts.{HostPlace}
use Rattle.live_core.specs.declared.machine.Machine.{Machine}
use Rattle.live_core.specs.Consistency.{AreHandled, IsReady, Leaves, Steps}
use Rattle.live_core.specs.Views.{handlers_of, plain_of}
use Rattle.live_core.proofs.Commands.{with_world}

-- what they wait for
pub awaited_same : (as' : List Awaited) (ss : List Script) → map (λ (h : Handler). h.awaited) (handlers_of as' ss) ≡ as'
awaited_same [] ss = refl
awaited_same (a ∷ as') [] = ap (λ xs. a ∷ xs) (awaited_same as' [])
awaited_same (a ∷ as') (s ∷ ss) = ap (λ xs. a ∷ xs) (awaited_same as' ss)

-- what each does, where each has a script
body_same : (as' : List Awaited) (ss : List Script) (i : ℕ) → length as' ≡ length ss → handler_body (handlers_of as' ss) i ≡ script_body (slice_get ss i)
body_same [] [] i e = refl
body_same [] (s ∷ ss) i e = absurd cc
body_same (a ∷ as') [] i e = absurd cc
body_same (a ∷ as') (s ∷ ss) zero e = refl
body_same (a ∷ as') (s ∷ ss) (suc i) e = let few : length as' ≡ length ss = omega (arith, e) in body_same as' ss i few

pub handlings_same : (as' : List Awaited) (ss : List Script) (xs : List Fired) → length as' ≡ length ss →
    handlings_in ss xs ≡ handlings_of (handlers_of as' ss) xs
handlings_same as' ss [] e = refl
handlings_same as' ss (x ∷ xs) e =
    let one : Handling → List Handling → List Handling = λ h hs. h ∷ hs in
    (λ i. one (record { node = x.node; body = sym (body_same as' ss x.handler e) i }) (handlings_same as' ss xs e i))

-- as many as there are
pub handlers_count : (as' : List Awaited) (ss : List Script) → length (handlers_of as' ss) ≡ length as'
handlers_count [] ss = refl
handlers_count (a ∷ as') [] = ap suc (handlers_count as' [])
handlers_count (a ∷ as') (s ∷ ss) = ap suc (handlers_count as' ss)

-- one more
pub handlers_more : (as' : List Awaited) (ss : List Script) (a : Awaited) (s : Script) → length as' ≡ length ss →
    handlers_of (as' ++ a ∷ []) (ss ++ s ∷ []) ≡ handlers_of as' ss ++ record { awaited = a; body = script_body (Some s) } ∷ []
handlers_more [] [] a s e = refl
handlers_more [] (t ∷ ss) a s e = absurd cc
handlers_more (b ∷ as') [] a s e = absurd cc
handlers_more (b ∷ as') (t ∷ ss) a s e =
    let few : length as' ≡ length ss = omega (arith, e) in ap (λ xs. record { awaited = b; body = script_body (Some t) } ∷ xs) (handlers_more as' ss a s few)

fits_more : (ss : List Script) (s : Script) → AllByRecursion IsFitting ss → IsFitting s → AllByRecursion IsFitting (ss ++ s ∷ [])
fits_more [] s all one = (one, tt)
fits_more (t ∷ ss) s all one = (all.0, fits_more ss s all.1 one)

-- a node that isn't there is told by its own number
pub node_told : (n id : ℕ) (x : FireFault) → x ≡ fire.NoNode n → (x ≡ fire.NoNode id) ⊎ (x ≡ fire.NoMemory) → x ≡ fire.NoNode id
node_told n id x is (inl e) = e
node_told n id x is (inr e) = let no : fire.NoNode n ≡ fire.NoMemory = sym is ∙ e in absurd cc

-- what a making of a handler leaves
pub leaves_handler : (asked : List HostPlace) (rules : ℕ) (m new : Machine) (a : Awaited) (s : Script) → IsReady m →
    new ≡ record m { handlers = new.handlers; scripts = new.scripts } → new.handlers ≡ m.handlers ++ a ∷ [] → new.scripts.items ≡ m.scripts.items ++ s ∷ [] →
    IsFitting s → Leaves asked asked rules m new
leaves_handler asked rules m new a s r parts handlers scripts fits =
    let one = ap length handlers ∙ length-append m.handlers (a ∷ []) in
    let other = ap length scripts ∙ length-append m.scripts.items (s ∷ []) in
    let many = r.handled.many in
    subst (λ (x : Machine). Leaves asked asked rules m x) (sym parts) (record {
      ready = record {
        watchers = r.watchers;
        paged = r.paged;
        meant = r.meant;
        templates = r.templates;
        handled = record {
          many = omega (arith, one, other, many);
          fits = subst (AllByRecursion IsFitting) (sym scripts) (fits_more m.scripts.items s r.handled.fits fits);
        };
        shown = r.shown;
        pages = r.pages;
        batch = r.batch;
      };
      holds = λ h. h;
      weight = omega arith;
    })

-- handlers ran
pub played_steps : (hosts : Hosts) (slacks : List ℕ) (asked later : List HostPlace) (m : Machine) (w : World) (l : Labels) (j : Option Journal) (events : List Event)
    (before entries : List Entry) (page : List ℕ) (ss : List Script) (xs ys : List Fired) → before ≡ [] → ss ≡ m.scripts.items → xs ≡ ys →
    AreHandled m.handlers m.scripts.items →
    Comes hosts (stage m.world asked m.labels m.journal [] before) (stage w later l j events entries)
    (λ n. firing (environment hosts slacks) n page (handlings_in ss xs)) →
    Steps hosts later (with_world m w l j) entries (firing (environment hosts slacks) (plain_of asked m) page (handlings_of (plain_of asked m).handlers ys))
played_steps hosts slacks asked later m w l j events before entries page ss xs ys none scripts same handled x =
    let bodies : handlings_in ss xs ≡ handlings_of (handlers_of m.handlers m.scripts.items) ys =
    (λ i. handlings_in (scripts i) (same i)) ∙ handlings_same m.handlers m.scripts.items ys handled.many in
    record {
      step = x.step (plain_of asked m) ∙ (λ i. told_behind (none i) (firing (environment hosts slacks) (plain_of asked m) page (bodies i)));
      sound = x.sound;
    }
