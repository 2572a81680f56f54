-- Acts, whatever stands at the top.
use Rattle.std.proofs.Common.{◌≡◌, ℕ, Bool, true, false, cond, List, [], ◌∷◌, ◌++◌, append_assoc, refl, sym, ap, subst, ◌∙◌}
use Rattle.signal_model.specs.Sound.{names_of}
use Rattle.signal_model.specs.Values.{Seen}
use Rattle.effect_model.specs.Owners.{Thing, the_signal, the_owner, the_effect, the_page, the_watcher, Owned, nothing, cleanup, Undoing, cleans, ends, teardown_of, under, emptied, taken_out, alone, disposal_of}
use Rattle.effect_model.specs.Bodies.{Act, to_set, to_log, to_note, to_make, to_dispose, to_rewire, BodyEvaluation, BodyResult, to_do, failed_by, body_evaluation}
use Rattle.effect_model.specs.Worlds.{Environment, Effect, Event, failed, logged, noted, refused, thing_gone, World, tell, lives, settle, at_rest}
use Rattle.effect_model.specs.Acts.{notify_of_all, set_cell, rewire_signal, undo_all, take_back, dispose_live, dispose_thing}
use Rattle.effect_model.specs.Batches.{abort, set_quietly}
use Rattle.effect_model.specs.Runs.{look, looked_names, value_now, make_child, do_act, next_child, do_acts, keep_reads, do_result, run_body, run_taken_back, run_effect}
use Rattle.effect_laws.specs.Frames.{ended_all, ended_one, IsOfSignals, signal_part, with_part}
use Rattle.effect_laws.proofs.SharedFrames.{framed_abort, framed_notify, framed_rewire, framed_set, framed_set_quietly, framed_settle, framed_tell, undo_all_split}
use Rattle.effect_laws.specs.Events.{OnlyTells}
use Rattle.effect_laws.proofs.SharedEvents.{all_only_tell, look_only, result_only, silent, told_behind}
use Rattle.effect_model.specs.Owners.{listed}
use Rattle.effect_tables.specs.Roots.{AllRest, AreBare, Rests}
use Rattle.effect_tables.proofs.Trees.{bare_emptied, bare_listed, bare_out, bare_put, emptied_listed, listed_twice, out_listed, put_listed, under_listed}

-- ---- what an act keeps

-- a world without what stands at the top and can't own
abbrev pub without_tops : World → World
without_tops w = record w { owned = listed w.owned }

-- an act does the same without what stands at the top and can't own
pub record KeepsRest (act : World → World) : Type 0 where
  pub same : (w : World) → AreBare w.owned → without_tops (act (without_tops w)) ≡ without_tops (act w)
  pub bare : (w : World) → AreBare w.owned → AreBare (act w).owned

-- an act neither reads nor changes what stands
pub record KeepsOwned (act : World → World) : Type 0 where
  pub same : (x : Owned) (w : World) → act (record w { owned = x }) ≡ record (act w) { owned = x }

-- ---- steps

pub tops_twice : (w : World) → without_tops (without_tops w) ≡ without_tops w
tops_twice w = λ i. record w { owned = listed_twice w.owned i }

-- one after the other
pub keeps_then : (f g : World → World) → KeepsRest f → KeepsRest g → KeepsRest (λ w. g (f w))
keeps_then f g a b = record {
  same = λ w h.
      sym (b.same (f (without_tops w)) (a.bare (without_tops w) (bare_listed w.owned h))) ∙ ap (λ v. without_tops (g v)) (a.same w h)
      ∙ b.same (f w) (a.bare w h);
  bare = λ w h. b.bare (f w) (a.bare w h);
}

-- one of two, by a test
chosen : (b : Bool) (x y u v : World) → without_tops x ≡ without_tops u → without_tops y ≡ without_tops v → without_tops (cond b x y) ≡ without_tops (cond b u v)
chosen true x y u v p q = p
chosen false x y u v p q = q

chosen_bare : (b : Bool) (x y : World) → AreBare x.owned → AreBare y.owned → AreBare (cond b x y).owned
chosen_bare true x y p q = p
chosen_bare false x y p q = q

owned_kept : (act : World → World) → KeepsOwned act → (w : World) → (act w).owned ≡ w.owned
owned_kept act k w = ap (λ (v : World). v.owned) (k.same w.owned w)

pub keeps_owned : (act : World → World) → KeepsOwned act → KeepsRest act
keeps_owned act k = record {
  same = λ w h.
      ap without_tops (k.same (listed w.owned) w)
      ∙ (λ i. record (act w) { owned = (listed_twice w.owned ∙ ap listed (sym (owned_kept act k w))) i });
  bare = λ w h. subst (λ x. AreBare x) (sym (owned_kept act k w)) h;
}

framed_keeps : (act : World → World) → IsOfSignals act → KeepsRest act
framed_keeps act f = keeps_owned act (record {
  same = λ x w. f.framed (record w { owned = x }) ∙ (λ i. record (sym (f.framed w) i) { owned = x });
})

-- ---- teardowns

ended_one_keeps : (u : Undoing) (x : Owned) (w : World) → ended_one u (record w { owned = x }) ≡ record (ended_one u w) { owned = x }
ended_one_keeps (cleans t c) x w = refl
ended_one_keeps (ends (the_signal n)) x w = refl
ended_one_keeps (ends (the_owner n)) x w = refl
ended_one_keeps (ends (the_effect n)) x w = refl
ended_one_keeps (ends (the_page n)) x w = refl
ended_one_keeps (ends (the_watcher n)) x w = refl

ended_keeps : (us : List Undoing) (x : Owned) (w : World) → ended_all us (record w { owned = x }) ≡ record (ended_all us w) { owned = x }
ended_keeps [] x w = refl
ended_keeps (u ∷ us) x w = ap (ended_all us) (ended_one_keeps u x w) ∙ ended_keeps us x (ended_one u w)

undo_keeps : (env : Environment) (us : List Undoing) → KeepsOwned (undo_all env us)
undo_keeps env us = record {
  same = λ x w.
      undo_all_split env us (record w { owned = x }) ∙ ap (with_part (undo_all env us (signal_part w))) (ended_keeps us x w)
      ∙ (λ i. record (sym (undo_all_split env us w) i) { owned = x });
}

-- what stands is changed, and then steps are undone that can be told from it
changed_keeps : (env : Environment) (steps : Owned → List Undoing) (change : Owned → Owned) →
    ((x : Owned) → AreBare x → steps (listed x) ≡ steps x) → ((x : Owned) → listed (change (listed x)) ≡ listed (change x)) →
    ((x : Owned) → AreBare x → AreBare (change x)) → KeepsRest (λ w. undo_all env (steps w.owned) (record w { owned = change w.owned }))
changed_keeps env steps change alike left stays = record {
  same = λ w h.
      let act : World → World = undo_all env (steps w.owned) in
      let x : Owned = change (listed w.owned) in
      ap (λ us. without_tops (undo_all env us (record w { owned = x }))) (alike w.owned h)
      ∙ ap without_tops ((undo_keeps env (steps w.owned)).same x w)
      ∙ (λ i. record (act w) { owned = left w.owned i })
      ∙ sym (ap without_tops ((undo_keeps env (steps w.owned)).same (change w.owned) w));
  bare = λ w h.
      subst (λ x. AreBare x) (sym (owned_kept (undo_all env (steps w.owned)) (undo_keeps env (steps w.owned)) (record w { owned = change w.owned })))
      (stays w.owned h);
}

take_back_keeps : (env : Environment) (t : Thing) → KeepsRest (take_back env t)
take_back_keeps env t =
    changed_keeps env (λ x. teardown_of t (under t x)) (emptied t) (λ x h. ap (teardown_of t) (under_listed t x h)) (emptied_listed t) (bare_emptied t)

live_keeps : (env : Environment) (t : Thing) → KeepsRest (dispose_live env t)
live_keeps env t =
    changed_keeps env (disposal_of t) (taken_out t) (λ x h. ap (λ z. teardown_of t z ++ ends t ∷ []) (under_listed t x h)) (out_listed t) (bare_out t)

tell_keeps : (e : Event) → KeepsRest (tell e)
tell_keeps e = framed_keeps (tell e) (framed_tell (e ∷ []))

lives_kept : (t : Thing) (w : World) → lives t (without_tops w) ≡ lives t w
lives_kept (the_signal n) w = refl
lives_kept (the_owner n) w = refl
lives_kept (the_effect n) w = refl
lives_kept (the_page n) w = refl
lives_kept (the_watcher n) w = refl

dispose_keeps : (env : Environment) (t : Thing) → KeepsRest (dispose_thing env t)
dispose_keeps env t = record {
  same = λ w h.
      let none : World → World = tell (refused (thing_gone t)) in
      ap (λ b. without_tops (cond b (dispose_live env t (without_tops w)) (none (without_tops w)))) (lives_kept t w)
      ∙ chosen (lives t w) (dispose_live env t (without_tops w)) (none (without_tops w)) (dispose_live env t w) (none w)
      ((live_keeps env t).same w h) ((tell_keeps (refused (thing_gone t))).same w h);
  bare = λ w h. chosen_bare (lives t w) (dispose_live env t w) (tell (refused (thing_gone t)) w) ((live_keeps env t).bare w h) h;
}

-- ---- a run

act_keeps : (env : Environment) (e k : ℕ) (a : Act) → KeepsRest (do_act env e k a)
act_keeps env e k (to_set n v) = framed_keeps (set_cell env n v) (framed_set env n v)
act_keeps env e k (to_log v) = tell_keeps (logged v)
act_keeps env e k (to_note c) = record {
  same = λ w h. λ i. record (tell (noted (the_effect e) c) w) { owned = put_listed (the_effect e) (cleanup c nothing) w.owned i };
  bare = λ w h. bare_put (the_effect e) refl (cleanup c nothing) w.owned h;
}
act_keeps env e k (to_make b) = record {
  same = λ w h. λ i. record (make_child e k b w) { owned = put_listed (the_effect e) (alone (the_effect w.made.effects)) w.owned i };
  bare = λ w h. bare_put (the_effect e) refl (alone (the_effect w.made.effects)) w.owned h;
}
act_keeps env e k (to_dispose t) = dispose_keeps env t
act_keeps env e k (to_rewire n r) = framed_keeps (rewire_signal n r) (framed_rewire n r)

-- an act that is done while the effect lives
alive_keeps : (env : Environment) (e k : ℕ) (a : Act) → KeepsRest (λ w. cond (lives (the_effect e) w) (do_act env e k a w) w)
alive_keeps env e k a = record {
  same = λ w h.
      chosen (lives (the_effect e) w) (do_act env e k a (without_tops w)) (without_tops w) (do_act env e k a w) w ((act_keeps env e k a).same w h) (tops_twice w);
  bare = λ w h. chosen_bare (lives (the_effect e) w) (do_act env e k a w) w ((act_keeps env e k a).bare w h) h;
}

acts_keep : (env : Environment) (e k : ℕ) (as' : List Act) → KeepsRest (do_acts env e k as')
acts_keep env e k [] = record { same = λ w h. tops_twice w; bare = λ w h. h }
acts_keep env e k (a ∷ as') =
    keeps_then (λ w. cond (lives (the_effect e) w) (do_act env e k a w) w) (do_acts env e (next_child a k) as') (alive_keeps env e k a)
    (acts_keep env e (next_child a k) as')

keep_keeps : (e : ℕ) (ss : List Seen) → KeepsRest (keep_reads e ss)
keep_keeps e ss = keeps_owned (keep_reads e ss) (record { same = λ x w. refl })

result_keeps : (env : Environment) (e : ℕ) (r : BodyResult) → KeepsRest (do_result env e r)
result_keeps env e (failed_by f) = tell_keeps (failed e f)
result_keeps env e (to_do as') = acts_keep env e 1 as'

settle_keeps : (env : Environment) (names : List ℕ) → KeepsRest (settle env names)
settle_keeps env names = framed_keeps (settle env names) (framed_settle env names)

body_keeps : (env : Environment) (e : ℕ) (b : BodyEvaluation) → KeepsRest (run_body env e b)
body_keeps env e b =
    keeps_then (λ w. keep_reads e b.tracked (settle env (names_of b.reads) w)) (do_result env e b.result)
    (keeps_then (settle env (names_of b.reads)) (keep_reads e b.tracked) (settle_keeps env (names_of b.reads)) (keep_keeps e b.tracked))
    (result_keeps env e b.result)

pub run_keeps : (env : Environment) (x : Effect) → KeepsRest (run_effect env x)
run_keeps env x =
    keeps_then (take_back env (the_effect x.number)) (run_taken_back env x) (take_back_keeps env (the_effect x.number)) (record {
      same = λ w h. (body_keeps env x.number (body_evaluation env.hosts w.signals x.body)).same w h;
      bare = λ w h. (body_keeps env x.number (body_evaluation env.hosts w.signals x.body)).bare w h;
    })

pub look_keeps : (env : Environment) (x : Effect) → KeepsRest (look env x)
look_keeps env x = record {
  same = λ w h. (settle_keeps env (looked_names (value_now env w) x.kept)).same w h;
  bare = λ w h. (settle_keeps env (looked_names (value_now env w) x.kept)).bare w h;
}

-- ---- both together

pub rests_by : (act : World → World) → OnlyTells act → KeepsRest act → Rests act
rests_by act o k = record {
  whole = λ w h. sym (ap at_rest (told_behind act o (without_tops w))) ∙ ap silent (k.same w h);
  told = λ w h. ap (λ (v : World). v.told) (sym (k.same w h) ∙ ap without_tops (told_behind act o (without_tops w)));
  bare = k.bare;
}

-- one after the other
pub rests_then : (f g : World → World) → Rests f → Rests g → Rests (λ w. g (f w))
rests_then f g a b = record {
  whole = λ w h.
      sym (b.whole (f (at_rest w)) (a.bare (at_rest w) (bare_listed w.owned h))) ∙ ap (λ v. at_rest (g v)) (a.whole w h) ∙ b.whole (f w) (a.bare w h);
  told = λ w h.
      b.told (f w) (a.bare w h) ∙ ap (λ ts. ts ++ (g (at_rest (f w))).told) (a.told w h)
      ∙ append_assoc w.told (f (at_rest w)).told (g (at_rest (f w))).told
      ∙ ap (λ v. w.told ++ ((f (at_rest w)).told ++ (g v).told)) (sym (a.whole w h))
      ∙ ap (λ ts. w.told ++ ts) (sym (b.told (f (at_rest w)) (a.bare (at_rest w) (bare_listed w.owned h))));
  bare = λ w h. b.bare (f w) (a.bare w h);
}

pub all_rest : AllRest
all_rest = record {
  settling = λ env names. rests_by (settle env names) (all_only_tell.settling env names) (settle_keeps env names);
  setting = λ env n v. rests_by (set_cell env n v) (all_only_tell.setting env n v) (framed_keeps (set_cell env n v) (framed_set env n v));
  setting_quietly = λ env n v.
      rests_by (set_quietly env n v) (all_only_tell.setting_quietly env n v) (framed_keeps (set_quietly env n v) (framed_set_quietly env n v));
  restoring = λ b. rests_by (abort b) (all_only_tell.restoring b) (framed_keeps (abort b) (framed_abort b));
  notifying = λ ns. rests_by (notify_of_all ns) (all_only_tell.notifying ns) (framed_keeps (notify_of_all ns) (framed_notify ns));
  rewiring = λ n r. rests_by (rewire_signal n r) (all_only_tell.rewiring n r) (framed_keeps (rewire_signal n r) (framed_rewire n r));
  taking_back = λ env t. rests_by (take_back env t) (all_only_tell.taking_back env t) (take_back_keeps env t);
  disposing = λ env t. rests_by (dispose_thing env t) (all_only_tell.disposing env t) (dispose_keeps env t);
  acting = λ env e k a. rests_by (do_act env e k a) (all_only_tell.acting env e k a) (act_keeps env e k a);
  acting_on = λ env e k as'. rests_by (do_acts env e k as') (all_only_tell.acting_on env e k as') (acts_keep env e k as');
  keeping = λ e ss. rests_by (keep_reads e ss) (all_only_tell.keeping e ss) (keep_keeps e ss);
  ending = λ env e r. rests_by (do_result env e r) (result_only env e r) (result_keeps env e r);
  looking = λ env x. rests_by (look env x) (look_only env x) (look_keeps env x);
  running = λ env x. rests_by (run_effect env x) (all_only_tell.running env x) (run_keeps env x);
}
