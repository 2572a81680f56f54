-- Acts, whatever was told before.
use Rattle.std.proofs.Common.{◌≡◌, ℕ, Bool, true, false, cond, List, [], ◌∷◌, ◌++◌, map, set, slice_get, Option, Some, None, append_assoc, refl, ap, ◌∙◌}
use Rattle.std.specs.Option.{option_or}
use Rattle.sig_base.specs.declared.value.Value.{Value}
use Rattle.signal_model.specs.Recipes.{Recipe}
use Rattle.signal_model.specs.Signals.{Stands, IsGone, IsCell, IsComputed, changed, standing}
use Rattle.signal_model.specs.Changes.{with_value, after_change, with_recipe, after_rewiring, without_signal, after_disposal}
use Rattle.signal_model.specs.Sound.{names_of}
use Rattle.signal_model.specs.Values.{Seen}
use Rattle.signal_model.specs.Settling.{Settled, settled}
use Rattle.signal_model.specs.Asks.{moments}
use Rattle.effect_model.specs.Owners.{Thing, the_signal, the_owner, the_effect, the_page, the_watcher, Cleanup, sets, logs, nothing, cleanup, Undoing, cleans, ends}
use Rattle.effect_model.specs.Owners.{teardown_of, under, emptied, taken_out, put_under, alone, disposal_of}
use Rattle.effect_model.specs.Bodies.{Act, to_set, to_log, to_note, to_make, to_dispose, to_rewire, BodyEvaluation, BodyResult, to_do, failed_by, body_evaluation}
use Rattle.effect_model.specs.declared.how.How.TheVariants.{Set, Rewire, Gone}
use Rattle.effect_model.specs.Worlds.{changed_signal, Environment, Effect, Event, ran, logged, body_ran, failed, cleaned, gone, dropped_host, refused, made_child, noted}
use Rattle.effect_model.specs.Worlds.{Refused, thing_gone, dropped, World, tell, lives, settle}
use Rattle.effect_model.specs.Acts.{forget, notify_of_all, notified_by_any, frozen_by, told_of, told_frozen, are_alike, with_new_value, with_quiet_value, set_standing, set_cell}
use Rattle.effect_model.specs.Acts.{host_of, asks_so_far, with_drop, with_use}
use Rattle.effect_model.specs.Acts.{host_refused, gone_refused, some_gone, rewiring_refused, rewire_standing, or_refused, rewire_signal, without_node, end_standing, end_of}
use Rattle.effect_model.specs.Acts.{do_cleanup, undo, undo_all, take_back, dispose_live, dispose_thing}
use Rattle.effect_model.specs.Batches.{Batch, abort, give_back, is_other, replaced_by, set_quietly, with_replacing}
use Rattle.effect_model.specs.Runs.{look, looked_names, value_now, with_effect, do_act, next_child, do_acts, keep_reads, do_result, run_body, run_taken_back, run_effect}
use Rattle.effect_laws.specs.Events.{behind, AllOnlyTell, OnlyTells}

-- ---- steps

-- one after the other
pub only_then : (f g : World → World) → OnlyTells f → OnlyTells g → OnlyTells (λ w. g (f w))
only_then f g a b = record { same = λ es w. ap g (a.same es w) ∙ b.same es (f w) }

-- one of two, by a test
chosen : (b : Bool) (es : List Event) (x y u v : World) → x ≡ behind es u → y ≡ behind es v → cond b x y ≡ behind es (cond b u v)
chosen true es x y u v p q = p
chosen false es x y u v p q = q

pub tell_only : (e : Event) → OnlyTells (tell e)
tell_only e = record { same = λ es w. let all = append_assoc es w.told (e ∷ []) in λ i. record w { told = all i } }

pub settle_only : (env : Environment) (names : List ℕ) → OnlyTells (settle env names)
settle_only env names = record {
  same = λ es w.
      let s : Settled = settled env.hosts w.signals w.memos names in
      let all = append_assoc es w.told (map ran (moments w.signals s.runs)) in
      λ i. record (settle env names w) { told = all i };
}

-- what lives doesn't rest on what was told
lives_same : (t : Thing) (es : List Event) (w : World) → lives t (behind es w) ≡ lives t w
lives_same (the_signal n) es w = refl
lives_same (the_owner n) es w = refl
lives_same (the_effect n) es w = refl
lives_same (the_page n) es w = refl
lives_same (the_watcher n) es w = refl

-- ---- acts on signals

notify_only : (ns : List ℕ) → OnlyTells (notify_of_all ns)
notify_only ns = record {
  same = λ es w.
      let xs = notified_by_any w.signals w.memos ns w.watchers in
      let all = append_assoc es w.told (told_of xs ++ told_frozen (frozen_by xs)) in
      λ i. record (notify_of_all ns w) { told = all i };
}

quiet_only : (n : ℕ) (v : Value) → OnlyTells (with_quiet_value n v)
quiet_only n v = record {
  same = λ es w. (tell_only (changed_signal n Set)).same es (record w { signals = with_value w.signals n v; memos = after_change w.memos n });
}

new_value_only : (n : ℕ) (v : Value) → OnlyTells (with_new_value n v)
new_value_only n v = only_then (with_quiet_value n v) (notify_of_all (n ∷ [])) (quiet_only n v) (notify_only (n ∷ []))

set_only : (env : Environment) (n : ℕ) (v : Value) → OnlyTells (set_cell env n v)
set_only env n v = record { same = λ es w. go (standing w.signals n) es w }
  where
    go : (s : Stands) (es : List Event) (w : World) → set_standing s env n v (behind es w) ≡ behind es (set_standing s env n v w)
    go IsGone es w = (tell_only (refused (thing_gone (the_signal n)))).same es w
    go (IsCell c) es w =
        chosen (are_alike env.slacks c.rule c.value v) es (behind es w) (with_new_value n v (behind es w)) w (with_new_value n v w) refl ((new_value_only n v).same es w)
    go (IsComputed c) es w = refl

replacing_only : (n : ℕ) (v : Value) (o : Option Value) → OnlyTells (with_replacing n v o)
replacing_only n v None = record { same = λ es w. refl }
replacing_only n v (Some before) = quiet_only n v

set_quietly_only : (env : Environment) (n : ℕ) (v : Value) → OnlyTells (set_quietly env n v)
set_quietly_only env n v = record { same = λ es w. (replacing_only n v (replaced_by env.slacks (standing w.signals n) v)).same es w }

give_back_only : (n : ℕ) (v : Value) → OnlyTells (give_back n v)
give_back_only n v = record {
  same = λ es w.
      chosen (is_other v (standing w.signals n)) es (with_quiet_value n v (behind es w)) (behind es w) (with_quiet_value n v w) w
      ((quiet_only n v).same es w) refl;
}

abort_only : (b : Batch) → OnlyTells (abort b)
abort_only [] = record { same = λ es w. refl }
abort_only (p ∷ b) = only_then (give_back p.0 p.1) (abort b) (give_back_only p.0 p.1) (abort_only b)

use_only : (o : Option ℕ) → OnlyTells (with_use o)
use_only None = record { same = λ es w. refl }
use_only (Some place) = record { same = λ es w. refl }

drop_only : (o : Option ℕ) → OnlyTells (with_drop o)
drop_only None = record { same = λ es w. refl }
drop_only (Some place) = record {
  same = λ es w.
      let asks = asks_so_far (slice_get w.host_states place) in
      (tell_only (dropped_host place asks)).same es (record w { host_states = set w.host_states place (dropped asks) });
}

gone_same : (ns : List ℕ) (es : List Event) (w : World) → some_gone ns (behind es w) ≡ some_gone ns w
gone_same [] es w = refl
gone_same (n ∷ ns) es w = ap (option_or (gone_refused (the_signal n) w)) (gone_same ns es w)

host_same : (o : Option ℕ) (es : List Event) (w : World) → host_refused o (behind es w) ≡ host_refused o w
host_same None es w = refl
host_same (Some place) es w = refl

or_only : (o : Option Refused) (es : List Event) (x y w : World) → x ≡ behind es y → or_refused o x (behind es w) ≡ behind es (or_refused o y w)
or_only None es x y w e = e
or_only (Some why) es x y w e = (tell_only (refused why)).same es w

rewire_only : (n : ℕ) (r : Recipe) → OnlyTells (rewire_signal n r)
rewire_only n r = record {
  same = λ es w.
      ap (λ o. or_refused o (rewire_standing (standing w.signals n) n r (behind es w)) (behind es w))
      (λ i. option_or (gone_refused (the_signal n) w) (option_or (gone_same r.slots es w i) (host_same (host_of r.expression) es w i)))
      ∙ or_only (rewiring_refused n r w) es (rewire_standing (standing w.signals n) n r (behind es w)) (rewire_standing (standing w.signals n) n r w) w
      (go (standing w.signals n) es w);
}
  where
    go : (s : Stands) (es : List Event) (w : World) → rewire_standing s n r (behind es w) ≡ behind es (rewire_standing s n r w)
    go IsGone es w = refl
    go (IsCell c) es w = refl
    go (IsComputed c) es w =
        let v : World = record w { signals = with_recipe w.signals n r; memos = after_rewiring w.memos n } in
        (only_then (λ x. with_use (host_of r.expression) (tell (changed_signal n Rewire) x)) (with_drop (host_of c.recipe.expression))
        (only_then (tell (changed_signal n Rewire)) (with_use (host_of r.expression)) (tell_only (changed_signal n Rewire))
        (use_only (host_of r.expression)))
        (drop_only (host_of c.recipe.expression))).same es v

-- ---- ends

pub end_only : (t : Thing) → OnlyTells (end_of t)
end_only (the_signal n) = record { same = λ es w. go (standing w.signals n) es w }
  where
    left : OnlyTells (without_node n)
    left = record {
      same = λ es w.
          (tell_only (changed_signal n Gone)).same es
          (record w { signals = without_signal w.signals n; memos = after_disposal w.memos n; watchers = map (forget n) w.watchers });
    }

    go : (s : Stands) (es : List Event) (w : World) → end_standing s n (behind es w) ≡ behind es (end_standing s n w)
    go IsGone es w = refl
    go (IsCell c) es w = left.same es w
    go (IsComputed c) es w = (only_then (with_drop (host_of c.recipe.expression)) (without_node n) (drop_only (host_of c.recipe.expression)) left).same es w
end_only (the_owner n) = record { same = λ es w. refl }
end_only (the_effect n) = record { same = λ es w. refl }
end_only (the_page n) = record { same = λ es w. refl }
end_only (the_watcher n) = record { same = λ es w. refl }

pub cleanup_only : (env : Environment) (c : Cleanup) → OnlyTells (do_cleanup env c)
cleanup_only env (sets n v) = set_only env n v
cleanup_only env (logs v) = tell_only (logged v)

pub undo_only : (env : Environment) (u : Undoing) → OnlyTells (undo env u)
undo_only env (cleans t c) = only_then (tell (cleaned t c)) (do_cleanup env c) (tell_only (cleaned t c)) (cleanup_only env c)
undo_only env (ends t) = only_then (end_of t) (tell (gone t)) (end_only t) (tell_only (gone t))

pub undo_all_only : (env : Environment) (us : List Undoing) → OnlyTells (undo_all env us)
undo_all_only env [] = record { same = λ es w. refl }
undo_all_only env (u ∷ us) = only_then (undo env u) (undo_all env us) (undo_only env u) (undo_all_only env us)

take_back_only : (env : Environment) (t : Thing) → OnlyTells (take_back env t)
take_back_only env t = record {
  same = λ es w. (undo_all_only env (teardown_of t (under t w.owned))).same es (record w { owned = emptied t w.owned });
}

dispose_only : (env : Environment) (t : Thing) → OnlyTells (dispose_thing env t)
dispose_only env t = record {
  same = λ es w.
      ap (λ b. cond b (dispose_live env t (behind es w)) (tell (refused (thing_gone t)) (behind es w))) (lives_same t es w)
      ∙ chosen (lives t w) es (dispose_live env t (behind es w)) (tell (refused (thing_gone t)) (behind es w)) (dispose_live env t w) (tell (refused (thing_gone t)) w)
      ((undo_all_only env (disposal_of t w.owned)).same es (record w { owned = taken_out t w.owned })) ((tell_only (refused (thing_gone t))).same es w);
}

-- ---- a run

act_only : (env : Environment) (e k : ℕ) (a : Act) → OnlyTells (do_act env e k a)
act_only env e k (to_set n v) = set_only env n v
act_only env e k (to_log v) = tell_only (logged v)
act_only env e k (to_note c) = record {
  same = λ es w. (tell_only (noted (the_effect e) c)).same es (record w { owned = put_under (the_effect e) (cleanup c nothing) w.owned });
}
act_only env e k (to_make b) = record {
  same = λ es w.
      (tell_only (made_child w.made.effects e k)).same es
      (with_effect (record { number = w.made.effects; body = b; kept = None })
      (record w { owned = put_under (the_effect e) (alone (the_effect w.made.effects)) w.owned }));
}
act_only env e k (to_dispose t) = dispose_only env t
act_only env e k (to_rewire n r) = rewire_only n r

acts_only : (env : Environment) (e k : ℕ) (as' : List Act) → OnlyTells (do_acts env e k as')
acts_only env e k [] = record { same = λ es w. refl }
acts_only env e k (a ∷ as') = record {
  same = λ es w.
      ap (do_acts env e (next_child a k) as')
      (chosen (lives (the_effect e) w) es (do_act env e k a (behind es w)) (behind es w) (do_act env e k a w) w ((act_only env e k a).same es w) refl)
      ∙ (acts_only env e (next_child a k) as').same es (cond (lives (the_effect e) w) (do_act env e k a w) w);
}

keep_only : (e : ℕ) (ss : List Seen) → OnlyTells (keep_reads e ss)
keep_only e ss = record {
  same = λ es w.
      (tell_only (body_ran e (names_of ss))).same es
      (record w { effects = changed (λ (x : Effect). x.number) e (λ x. record x { kept = Some ss }) w.effects });
}

pub result_only : (env : Environment) (e : ℕ) (r : BodyResult) → OnlyTells (do_result env e r)
result_only env e (failed_by f) = tell_only (failed e f)
result_only env e (to_do as') = acts_only env e 1 as'

body_only : (env : Environment) (e : ℕ) (b : BodyEvaluation) → OnlyTells (run_body env e b)
body_only env e b =
    only_then (λ w. keep_reads e b.tracked (settle env (names_of b.reads) w)) (do_result env e b.result)
    (only_then (settle env (names_of b.reads)) (keep_reads e b.tracked) (settle_only env (names_of b.reads)) (keep_only e b.tracked))
    (result_only env e b.result)

run_only : (env : Environment) (x : Effect) → OnlyTells (run_effect env x)
run_only env x =
    only_then (take_back env (the_effect x.number)) (run_taken_back env x) (take_back_only env (the_effect x.number))
    (record { same = λ es w. (body_only env x.number (body_evaluation env.hosts w.signals x.body)).same es w })

pub look_only : (env : Environment) (x : Effect) → OnlyTells (look env x)
look_only env x = record { same = λ es w. (settle_only env (looked_names (value_now env w) x.kept)).same es w }

pub all_only_tell : AllOnlyTell
all_only_tell = record {
  settling = settle_only;
  setting = set_only;
  setting_quietly = set_quietly_only;
  restoring = abort_only;
  notifying = notify_only;
  rewiring = rewire_only;
  taking_back = take_back_only;
  disposing = dispose_only;
  acting = act_only;
  acting_on = acts_only;
  keeping = keep_only;
  running = run_only;
}
