-- Commands of a script, whatever stands at the top.
use Rattle.std.proofs.Common.{◌≡◌, ℕ, Bool, true, false, List, [], ◌∷◌, ◌++◌, append_assoc, Option, Some, None, refl, sym, ap, subst, ◌∙◌}
use Rattle.std.proofs.lemmas.List.{append-nil}
use Rattle.std.specs.Option.{option_or}
use Rattle.sig_base.specs.declared.value.Value.{Value}
use Rattle.signal_model.specs.Recipes.{Recipe}
use Rattle.effect_model.specs.Bodies.{Body, to_log}
use Rattle.effect_model.specs.Owners.{Thing, the_signal, the_owner, the_effect, the_page, the_watcher}
use Rattle.effect_model.specs.Worlds.{Environment, Event, Refused, refused, still_due, Watcher, World, tell, lives, at_rest}
use Rattle.effect_model.specs.Acts.{forget, gone_refused, host_of, host_refused, or_refused, some_gone, with_use}
use Rattle.effect_model.specs.Commands.{Command, cell, computed, owner, effect, page, watcher, watch, unwatch, set_untold, restore, tell_together, rewire, ask, log, dispose, flush_all, after_command, armed, changed_watcher, command_refused, done_by, inside_refused, told_if, with_new_cell, with_new_computed, with_new_effect, with_new_owner, with_new_page, with_new_watcher}
use Rattle.effect_model.specs.Commands as command
use Rattle.effect_model.specs.Runs.{flush}
use Rattle.effect_laws.specs.Events.{OnlyTells}
use Rattle.effect_tables.specs.Roots.{AreBare, Rests}
use Rattle.effect_tables.proofs.Trees.{bare_made, listed_twice, made_listed}
use Rattle.effect_tables.proofs.Acts.{all_rest, keeps_owned, KeepsOwned, KeepsRest, rests_by, rests_then}
use Rattle.effect_tables.proofs.Turns.{flushes_rest}

-- ---- makings

cell_rests : (v : Value) (rule inside : Option ℕ) → Rests (with_new_cell v rule inside)
cell_rests v rule inside = rests_by (with_new_cell v rule inside) (record { same = λ es w. refl }) (record {
  same = λ w h. λ i. record (with_new_cell v rule inside w) { owned = made_listed inside (the_signal w.made.signals) w.owned i };
  bare = λ w h. bare_made inside (the_signal w.made.signals) w.owned h;
})

computed_rests : (r : Recipe) (inside : Option ℕ) → Rests (with_new_computed r inside)
computed_rests r inside = rests_by (with_new_computed r inside) (record { same = λ es w. refl }) (record {
  same = λ w h. λ i. record (with_new_computed r inside w) { owned = made_listed inside (the_signal w.made.signals) w.owned i };
  bare = λ w h. bare_made inside (the_signal w.made.signals) w.owned h;
})

owner_rests : (inside : Option ℕ) → Rests (with_new_owner inside)
owner_rests inside = rests_by (with_new_owner inside) (record { same = λ es w. refl }) (record {
  same = λ w h. λ i. record (with_new_owner inside w) { owned = made_listed inside (the_owner w.made.owners) w.owned i };
  bare = λ w h. bare_made inside (the_owner w.made.owners) w.owned h;
})

effect_rests : (b : Body) (inside : Option ℕ) → Rests (with_new_effect b inside)
effect_rests b inside = rests_by (with_new_effect b inside) (record { same = λ es w. refl }) (record {
  same = λ w h. λ i. record (with_new_effect b inside w) { owned = made_listed inside (the_effect w.made.effects) w.owned i };
  bare = λ w h. bare_made inside (the_effect w.made.effects) w.owned h;
})

page_rests : (inside : Option ℕ) → Rests (with_new_page inside)
page_rests inside = rests_by (with_new_page inside) (record { same = λ es w. refl }) (record {
  same = λ w h. λ i. record (with_new_page inside w) { owned = made_listed inside (the_page w.made.pages) w.owned i };
  bare = λ w h. bare_made inside (the_page w.made.pages) w.owned h;
})

-- what neither reads nor changes what stands, and tells nothing
untold_rests : (act : World → World) → OnlyTells act → KeepsOwned act → Rests act
untold_rests act o k = rests_by act o (keeps_owned act k)

watcher_rests : (tries : Bool) → Rests (with_new_watcher tries)
watcher_rests tries = untold_rests (with_new_watcher tries) (record { same = λ es w. refl }) (record { same = λ x w. refl })

changed_rests : (n : ℕ) (f : Watcher → Watcher) → Rests (changed_watcher n f)
changed_rests n f = untold_rests (changed_watcher n f) (record { same = λ es w. refl }) (record { same = λ x w. refl })

use_rests : (place : Option ℕ) → Rests (with_use place)
use_rests None = untold_rests (with_use None) (record { same = λ es w. refl }) (record { same = λ x w. refl })
use_rests (Some place) = untold_rests (with_use (Some place)) (record { same = λ es w. refl }) (record { same = λ x w. refl })

-- ---- a flush that tells whether it is refused

-- what it tells of that
abbrev still_told : Bool → List Event
still_told true = refused still_due ∷ []
still_told false = []

told_at_rest : (b : Bool) (w : World) → at_rest (told_if b w) ≡ at_rest w
told_at_rest true w = refl
told_at_rest false w = refl

told_more : (b : Bool) (w : World) → (told_if b w).told ≡ w.told ++ still_told b
told_more true w = refl
told_more false w = sym (append-nil w.told)

told_owned : (b : Bool) (w : World) → (told_if b w).owned ≡ w.owned
told_owned true w = refl
told_owned false w = refl

flush_rests : (env : Environment) → Rests (λ w. told_if (flush env w).refused (flush env w).world)
flush_rests env = record {
  whole = λ w h.
      told_at_rest (flush env (at_rest w)).refused (flush env (at_rest w)).world ∙ (flushes_rest env).world.whole w h
      ∙ sym (told_at_rest (flush env w).refused (flush env w).world);
  told = λ w h.
      told_more (flush env w).refused (flush env w).world ∙ ap (λ ts. ts ++ still_told (flush env w).refused) ((flushes_rest env).world.told w h)
      ∙ append_assoc w.told (flush env (at_rest w)).world.told (still_told (flush env w).refused)
      ∙ ap (λ b. w.told ++ ((flush env (at_rest w)).world.told ++ still_told b)) (sym ((flushes_rest env).refused w h))
      ∙ ap (λ ts. w.told ++ ts) (sym (told_more (flush env (at_rest w)).refused (flush env (at_rest w)).world));
  bare = λ w h. subst (λ x. AreBare x) (sym (told_owned (flush env w).refused (flush env w).world)) ((flushes_rest env).world.bare w h);
}

-- ---- refusals

some_gone_rests : (ns : List ℕ) (w : World) → some_gone ns (at_rest w) ≡ some_gone ns w
some_gone_rests [] w = refl
some_gone_rests (n ∷ ns) w = ap (option_or (gone_refused (the_signal n) w)) (some_gone_rests ns w)

inside_rests : (inside : Option ℕ) (w : World) → inside_refused inside (at_rest w) ≡ inside_refused inside w
inside_rests None w = refl
inside_rests (Some o) w = refl

host_rests : (place : Option ℕ) (w : World) → host_refused place (at_rest w) ≡ host_refused place w
host_rests None w = refl
host_rests (Some n) w = refl

refusal_rests : (c : Command) (w : World) → command_refused c (at_rest w) ≡ command_refused c w
refusal_rests (cell v rule inside) w = inside_rests inside w
refusal_rests (computed r inside) w = λ i.
    option_or (some_gone_rests r.slots w i) (option_or (inside_rests inside w i) (host_rests (host_of r.expression) w i))
refusal_rests (owner inside) w = inside_rests inside w
refusal_rests (effect b inside) w = inside_rests inside w
refusal_rests (page inside) w = inside_rests inside w
refusal_rests (watcher tries) w = refl
refusal_rests (watch n names) w = ap (option_or (gone_refused (the_watcher n) w)) (some_gone_rests names w)
refusal_rests (unwatch n m) w = refl
refusal_rests (command.set n v) w = refl
refusal_rests (set_untold n v) w = refl
refusal_rests (restore b) w = refl
refusal_rests (tell_together ns) w = refl
refusal_rests (rewire n r) w = refl
refusal_rests (ask names) w = refl
refusal_rests (log v) w = refl
refusal_rests (dispose t) w = refl
refusal_rests flush_all w = refl

-- an act that is done unless there is a refusal to be told
unrefused_rests : (r : World → Option Refused) (act : World → World) → ((w : World) → r (at_rest w) ≡ r w) → Rests act → Rests (λ w. or_refused (r w) (act w) w)
unrefused_rests r act same rests = record {
  whole = λ w h.
      ap (λ o. at_rest (or_refused o (act (at_rest w)) (at_rest w))) (same w) ∙ whole w h (r w);
  told = λ w h.
      more w h (r w) ∙ ap (λ o. w.told ++ (or_refused o (act (at_rest w)) (at_rest w)).told) (sym (same w));
  bare = λ w h. stays w h (r w);
}
  where
    whole : (w : World) → AreBare w.owned → (o : Option Refused) → at_rest (or_refused o (act (at_rest w)) (at_rest w)) ≡ at_rest (or_refused o (act w) w)
    whole w h None = rests.whole w h
    whole w h (Some why) = λ i. record w { owned = listed_twice w.owned i; told = [] }

    more : (w : World) → AreBare w.owned → (o : Option Refused) → (or_refused o (act w) w).told ≡ w.told ++ (or_refused o (act (at_rest w)) (at_rest w)).told
    more w h None = rests.told w h
    more w h (Some why) = refl

    stays : (w : World) → AreBare w.owned → (o : Option Refused) → AreBare (or_refused o (act w) w).owned
    stays w h None = rests.bare w h
    stays w h (Some why) = h

-- ---- commands

done_rests : (env : Environment) (c : Command) → Rests (done_by env c)
done_rests env (cell v rule inside) = cell_rests v rule inside
done_rests env (computed r inside) =
    rests_then (with_new_computed r inside) (with_use (host_of r.expression)) (computed_rests r inside) (use_rests (host_of r.expression))
done_rests env (owner inside) = owner_rests inside
done_rests env (effect b inside) = effect_rests b inside
done_rests env (page inside) = page_rests inside
done_rests env (watcher tries) = watcher_rests tries
done_rests env (watch n names) = changed_rests n (armed names)
done_rests env (unwatch n m) = changed_rests n (forget m)
done_rests env (command.set n v) = all_rest.setting env n v
done_rests env (set_untold n v) = all_rest.setting_quietly env n v
done_rests env (restore b) = all_rest.restoring b
done_rests env (tell_together ns) = all_rest.notifying ns
done_rests env (rewire n r) = all_rest.rewiring n r
done_rests env (ask names) = all_rest.settling env names
done_rests env (log v) = all_rest.acting env 0 0 (to_log v)
done_rests env (dispose t) = all_rest.disposing env t
done_rests env flush_all = flush_rests env

pub commands_rest : (env : Environment) (c : Command) → Rests (λ w. after_command env w c)
commands_rest env c = unrefused_rests (command_refused c) (done_by env c) (refusal_rests c) (done_rests env c)
