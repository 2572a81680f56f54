-- Each command keeps the ledger, and so the end-of-life law holds.
use Rattle.std.proofs.Common.{◌≡◌, ℕ, ◌+◌, ◌≤◌, ◌==◌, Bool, true, false, cond, List, [], ◌∷◌, ◌++◌, map, nat_lt, Option, Some, None, refl, sym, ap}
use Rattle.std.proofs.Common.{subst, arith}
use Rattle.std.specs.Option.{option_or}
use Rattle.std.proofs.lemmas.Bool.Decides.{nat_tests}
use Rattle.sig_base.specs.declared.value.Value.{Value}
use Rattle.signal_model.specs.Recipes.{Recipe}
use Rattle.signal_model.specs.Signals.{Cell, Computed}
use Rattle.effect_model.specs.Owners.{Thing, the_signal, the_owner, the_effect, the_page, the_watcher, same_thing, made_inside}
use Rattle.effect_model.specs.Bodies.{Body}
use Rattle.effect_model.specs.Worlds.{Environment, Watcher, thing_gone, still_due, refused, logged, World, lives}
use Rattle.effect_model.specs.Acts.{forget, host_of, host_refused, some_gone}
use Rattle.effect_model.specs.Runs.{flush}
use Rattle.effect_model.specs.Commands.{Command, cell, computed, owner, effect, page, watcher, watch, unwatch, set, set_untold, restore, tell_together, rewire, ask, log}
use Rattle.effect_model.specs.Commands.{dispose, flush_all}
use Rattle.effect_model.specs.Commands.{new_world, inside_refused, with_new_cell, with_new_computed, with_new_owner, with_new_effect, with_new_page}
use Rattle.effect_model.specs.Commands.{with_new_watcher, armed, changed_watcher, told_if, command_refused, done_by, after_command, after_commands}
use Rattle.effect_laws.specs.Rolls.{bit, times_in, roll_of, alive, was_made, times}
use Rattle.effect_laws.specs.Ends.{EndLaw}
use Rattle.effect_laws.specs.Lifetimes.{LifeLaw}
use Rattle.effect_laws.proofs.Ledgers.{Ledger, made_thing}
use Rattle.effect_laws.proofs.Names.{names_changed, lives_alive, count_more, neither, either_way}
use Rattle.effect_laws.proofs.Steps.{Tidy, same_roll, tell_tidy, notify_tidy, settle_tidy, set_tidy, set_quietly_tidy, abort_tidy, use_tidy, rewire_signal_tidy, dispose_tidy}
use Rattle.effect_laws.proofs.Creations.{IsPut, put_inside, making, not_below_self, more_signals, more_owners, more_effects, more_pages, more_watchers}
use Rattle.effect_laws.proofs.Creations.{names_more}
use Rattle.effect_laws.proofs.Runs.{with_effect_roll, flush_tidy}

-- an owner that isn't refused stands among what is owned
owner_there : (inside : Option ℕ) (w : World) → Tidy w [] → inside_refused inside w ≡ None → (n : ℕ) → inside ≡ Some n →
    1 ≤ times (the_owner n) w.owned
owner_there None w t h n e = cc
owner_there (Some o) w t h n e = subst (λ m. 1 ≤ times (the_owner m) w.owned) same (go (lives (the_owner o) w) refl h)
  where
    same : o ≡ n
    same = cc

    go : (b : Bool) → lives (the_owner o) w ≡ b → cond b None (Some (thing_gone (the_owner o))) ≡ None → 1 ≤ times (the_owner o) w.owned
    go true k f = let a : alive (the_owner o) (roll_of w) ≤ times (the_owner o) w.owned + 0 = t.owners o in
        let b : 1 ≤ alive (the_owner o) (roll_of w) = lives_alive (the_owner o) w k in omega arith
    go false k f = cc

put : (inside : Option ℕ) (t : Thing) (w : World) → Tidy w [] → inside_refused inside w ≡ None → IsPut w.owned (made_inside inside t w.owned) t
put inside t w env h = put_inside (roll_of w) w.owned w.made w.told inside t (owner_there inside w env h) env

-- a making of a world
made_tidy : (w w' : World) (t : Thing) → was_made t w.made ≡ false →
    ((s : Thing) → alive s (roll_of w') ≡ alive s (roll_of w) + bit (same_thing s t)) →
    ((s : Thing) → bit (was_made s w'.made) ≡ bit (was_made s w.made) + bit (same_thing s t)) → IsPut w.owned w'.owned t → Tidy w [] →
    Ledger (roll_of w') w'.owned w'.made w.told []
made_tidy w w' t new roll counts p env =
    made_thing (roll_of w) (roll_of w') w.owned w'.owned w.made w'.made w.told t
    (making (roll_of w) (roll_of w') w.owned w'.owned w.made w'.made t new roll counts p) env

cell_tidy : (v : Value) (rule inside : Option ℕ) (w : World) → inside_refused inside w ≡ None → Tidy w [] → Tidy (with_new_cell v rule inside w) []
cell_tidy v rule inside w h t =
    made_tidy w (with_new_cell v rule inside w) (the_signal w.made.signals) (not_below_self w.made.signals) roll (more_signals w.made)
    (put inside (the_signal w.made.signals) w t h) t
  where
    roll : (s : Thing) → alive s (roll_of (with_new_cell v rule inside w)) ≡ alive s (roll_of w) + bit (same_thing s (the_signal w.made.signals))
    roll (the_signal n) =
        let a : times_in n (map (λ (c : Cell). c.name) (w.signals.cells ++ record { name = w.made.signals; value = v; rule = rule } ∷ []))
        ≡ times_in n (roll_of w).cells + bit (n == w.made.signals)
        = names_more (λ (c : Cell). c.name) w.signals.cells (record { name = w.made.signals; value = v; rule = rule }) n in omega arith
    roll _ = omega arith

computed_tidy : (r : Recipe) (inside : Option ℕ) (w : World) → inside_refused inside w ≡ None → Tidy w [] → Tidy (with_new_computed r inside w) []
computed_tidy r inside w h t =
    made_tidy w (with_new_computed r inside w) (the_signal w.made.signals) (not_below_self w.made.signals) roll (more_signals w.made)
    (put inside (the_signal w.made.signals) w t h) t
  where
    roll : (s : Thing) → alive s (roll_of (with_new_computed r inside w)) ≡ alive s (roll_of w) + bit (same_thing s (the_signal w.made.signals))
    roll (the_signal n) =
        let a : times_in n (map (λ (c : Computed). c.name) (w.signals.computeds ++ record { name = w.made.signals; recipe = r } ∷ []))
        ≡ times_in n (roll_of w).computeds + bit (n == w.made.signals)
        = names_more (λ (c : Computed). c.name) w.signals.computeds (record { name = w.made.signals; recipe = r }) n in omega arith
    roll _ = omega arith

owner_tidy : (inside : Option ℕ) (w : World) → inside_refused inside w ≡ None → Tidy w [] → Tidy (with_new_owner inside w) []
owner_tidy inside w h t =
    made_tidy w (with_new_owner inside w) (the_owner w.made.owners) (not_below_self w.made.owners) roll (more_owners w.made)
    (put inside (the_owner w.made.owners) w t h) t
  where
    roll : (s : Thing) → alive s (roll_of (with_new_owner inside w)) ≡ alive s (roll_of w) + bit (same_thing s (the_owner w.made.owners))
    roll (the_owner n) = count_more n w.owners w.made.owners
    roll _ = omega arith

effect_tidy : (b : Body) (inside : Option ℕ) (w : World) → inside_refused inside w ≡ None → Tidy w [] → Tidy (with_new_effect b inside w) []
effect_tidy b inside w h t = made_tidy w (with_new_effect b inside w) (the_effect w.made.effects) (not_below_self w.made.effects)
    (with_effect_roll (record { number = w.made.effects; body = b; kept = None }) w) (more_effects w.made)
    (put inside (the_effect w.made.effects) w t h) t

page_tidy : (inside : Option ℕ) (w : World) → inside_refused inside w ≡ None → Tidy w [] → Tidy (with_new_page inside w) []
page_tidy inside w h t =
    made_tidy w (with_new_page inside w) (the_page w.made.pages) (not_below_self w.made.pages) roll (more_pages w.made)
    (put inside (the_page w.made.pages) w t h) t
  where
    roll : (s : Thing) → alive s (roll_of (with_new_page inside w)) ≡ alive s (roll_of w) + bit (same_thing s (the_page w.made.pages))
    roll (the_page n) = count_more n w.pages w.made.pages
    roll _ = omega arith

watcher_tidy : (tries : Bool) (w : World) → Tidy w [] → Tidy (with_new_watcher tries w) []
watcher_tidy tries w t =
    made_thing (roll_of w) (roll_of (with_new_watcher tries w)) w.owned w.owned w.made (with_new_watcher tries w).made w.told
    (the_watcher w.made.watchers) (record {
      new = not_below_self w.made.watchers;
      roll = roll;
      counts = more_watchers w.made;
      most = λ s. omega arith;
      effects = λ n. omega arith;
      owners = λ n. omega arith;
      waits = λ s p. refl;
    }) t
  where
    roll : (s : Thing) → alive s (roll_of (with_new_watcher tries w)) ≡ alive s (roll_of w) + bit (same_thing s (the_watcher w.made.watchers))
    roll (the_watcher n) =
        names_more (λ (x : Watcher). x.number) w.watchers (record { number = w.made.watchers; signals = []; watching = false; tries = tries }) n
    roll _ = omega arith

changed_tidy : (n : ℕ) (f : Watcher → Watcher) (w : World) → ((x : Watcher) → (f x).number ≡ x.number) → Tidy w [] → Tidy (changed_watcher n f w) []
changed_tidy n f w h t =
    same_roll w (changed_watcher n f w) [] (λ i. record (roll_of w) { watchers = names_changed (λ (x : Watcher). x.number) n f h w.watchers i }) t

told_tidy : (b : Bool) (w : World) → Tidy w [] → Tidy (told_if b w) []
told_tidy true w t = tell_tidy w [] (refused still_due) tt t
told_tidy false w t = t

-- a command that isn't refused
done_tidy : (env : Environment) (w : World) (c : Command) → command_refused c w ≡ None → Tidy w [] → Tidy (done_by env c w) []
done_tidy env w (cell v rule inside) h t = cell_tidy v rule inside w h t
done_tidy env w (computed r inside) h t =
    use_tidy (host_of r.expression) (with_new_computed r inside w) [] (computed_tidy r inside w
    (neither (inside_refused inside w) (host_refused (host_of r.expression) w)
    (neither (some_gone r.slots w) (option_or (inside_refused inside w) (host_refused (host_of r.expression) w)) h).1).0 t)
done_tidy env w (owner inside) h t = owner_tidy inside w h t
done_tidy env w (effect b inside) h t = effect_tidy b inside w h t
done_tidy env w (page inside) h t = page_tidy inside w h t
done_tidy env w (watcher tries) h t = watcher_tidy tries w t
done_tidy env w (watch n names) h t = changed_tidy n (armed names) w (λ x. refl) t
done_tidy env w (unwatch n m) h t = changed_tidy n (forget m) w (λ x. refl) t
done_tidy env w (set n v) h t = set_tidy env n v w [] t
done_tidy env w (set_untold n v) h t = set_quietly_tidy env n v w [] t
done_tidy env w (restore b) h t = abort_tidy b w [] t
done_tidy env w (tell_together ns) h t = notify_tidy ns w [] t
done_tidy env w (rewire n r) h t = rewire_signal_tidy n r w [] t
done_tidy env w (ask names) h t = settle_tidy env names w [] t
done_tidy env w (log v) h t = tell_tidy w [] (logged v) tt t
done_tidy env w (dispose x) h t = dispose_tidy env x w t
done_tidy env w flush_all h t = told_tidy (flush env w).refused (flush env w).world (flush_tidy env w t)

-- one command
pub step_tidy : (env : Environment) (w : World) (c : Command) → Tidy w [] → Tidy (after_command env w c) []
step_tidy env w c t =
    either_way (λ v. Tidy v []) (command_refused c w) (done_by env c w) w (λ h. done_tidy env w c h t) (λ r. tell_tidy w [] (refused r) tt t)

pub steps_tidy : (env : Environment) (cs : List Command) (w : World) → Tidy w [] → Tidy (after_commands env w cs) []
steps_tidy env [] w t = t
steps_tidy env (c ∷ cs) w t = steps_tidy env cs (after_command env w c) (step_tidy env w c t)

none_below : (n : ℕ) → bit (nat_lt n 0) ≡ 0
none_below n = ap bit no
  where
    no : nat_lt n 0 ≡ false
    no = grind (arith, nat_tests)

pub empty_tidy : (hosts : ℕ) → Tidy (new_world hosts) []
empty_tidy hosts = record {
  timely = tt;
  once = once;
  held = held;
  effects = λ n. omega arith;
  owners = λ n. omega arith;
  notes = λ t p. omega arith;
  ordered = tt;
}
  where
    once : (t : Thing) → 0 + alive t (roll_of (new_world hosts)) ≡ bit (was_made t (new_world hosts).made)
    once (the_signal n) = sym (none_below n)
    once (the_owner n) = sym (none_below n)
    once (the_effect n) = sym (none_below n)
    once (the_page n) = sym (none_below n)
    once (the_watcher n) = sym (none_below n)

    held : (t : Thing) → 0 + 0 ≤ alive t (roll_of (new_world hosts))
    held t = omega arith

-- so the ledger of any commands
tidy_after : (env : Environment) (hosts : ℕ) (cs : List Command) → Tidy (after_commands env (new_world hosts) cs) []
tidy_after env hosts cs = steps_tidy env cs (new_world hosts) (empty_tidy hosts)

-- the laws
pub end_law : EndLaw
end_law env hosts cs =
    let t : Tidy (after_commands env (new_world hosts) cs) [] = tidy_after env hosts cs in
    (t.timely, λ h p. let a : _ ≡ _ = t.notes h p in omega arith)

pub life_law : LifeLaw
life_law env hosts cs =
    let t : Tidy (after_commands env (new_world hosts) cs) [] = tidy_after env hosts cs in
    record {
      once = t.once;
      owned = λ h. let a : times h (after_commands env (new_world hosts) cs).owned + 0 ≤ alive h (roll_of (after_commands env (new_world hosts) cs)) =
          t.held h in omega arith;
      effects = λ n. let a : _ ≤ times (the_effect n) (after_commands env (new_world hosts) cs).owned + 0 = t.effects n in omega arith;
      owners = λ n. let a : _ ≤ times (the_owner n) (after_commands env (new_world hosts) cs).owned + 0 = t.owners n in omega arith;
    }
