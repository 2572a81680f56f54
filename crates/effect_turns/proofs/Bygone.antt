-- An effect that has ended doesn't come again.
use Rattle.std.proofs.Common.{◌≡◌, ℕ, ◌<◌, ◌==◌, Bool, true, false, cond, List, [], ◌∷◌, ◌++◌, Option, Some, None, refl, sym, ap, subst, ◌∙◌, arith}
use Rattle.std.proofs.lemmas.Bool.{or_from, or_parts}
use Rattle.std.proofs.lemmas.Bool.Decides.{nat_tests}
use Rattle.signal_model.specs.Signals.{changed, is_in, without}
use Rattle.signal_model.specs.Sound.{names_of}
use Rattle.signal_model.specs.Values.{Seen}
use Rattle.effect_model.specs.Acts.{dispose_live, dispose_thing, end_of, take_back, undo, undo_all}
use Rattle.effect_model.specs.Bodies.{Act, to_set, to_log, to_note, to_make, to_dispose, to_rewire, BodyEvaluation, BodyResult, to_do, failed_by, body_evaluation}
use Rattle.effect_model.specs.Owners.{Thing, the_owner, the_effect, the_page, the_signal, the_watcher, Undoing, cleans, ends, disposal_of, emptied, taken_out, teardown_of, under}
use Rattle.effect_model.specs.Runs.{do_act, do_result, keep_reads, look, looked_names, run_effect, value_now}
use Rattle.effect_model.specs.Worlds.{Environment, Effect, World, cleaned, effect_at, effect_numbers, gone, lives, refused, settle, tell, thing_gone}
use Rattle.effect_laws.specs.Frames.{IsOfSignals}
use Rattle.effect_laws.proofs.Shared.{acts_keep}
use Rattle.effect_laws.proofs.SharedFrames.{framed_cleanup, framed_end, framed_rewire, framed_set, framed_settle, framed_tell, framed_then}
use Rattle.effect_tables.specs.Visits.{glance, is_due, rerun, to_effect, visit, visit_all}

-- the effect of a number was made, and has ended
pub record IsBygone (n : ℕ) (w : World) : Type 0 where
  pub made : n < w.made.effects
  pub ended : is_in n (effect_numbers w.effects) ≡ false

-- what is done to signals changes nothing of it
framed_bygone : (n : ℕ) (act : World → World) → IsOfSignals act → (w : World) → IsBygone n w → IsBygone n (act w)
framed_bygone n act f w b = subst (IsBygone n) (sym (f.framed w)) (record { made = b.made; ended = b.ended })

-- what goes out doesn't bring it back
out_in : (n m : ℕ) (xs : List Effect) → is_in n (effect_numbers xs) ≡ false → is_in n (effect_numbers (without (λ (x : Effect). x.number) m xs)) ≡ false
out_in n m [] h = refl
out_in n m (x ∷ xs) h =
    let both = or_parts (n == x.number) (is_in n (effect_numbers xs)) h in
    go (m == x.number) both.0 (out_in n m xs both.1)
  where
    go : (b : Bool) → (n == x.number) ≡ false → is_in n (effect_numbers (without (λ (y : Effect). y.number) m xs)) ≡ false →
        is_in n (effect_numbers (cond b (without (λ (y : Effect). y.number) m xs) (x ∷ without (λ (y : Effect). y.number) m xs))) ≡ false
    go true one rest = rest
    go false one rest = or_from (n == x.number) (is_in n (effect_numbers (without (λ (y : Effect). y.number) m xs))) one rest

-- nor does a step of a teardown
undone_bygone : (env : Environment) (n : ℕ) (u : Undoing) (w : World) → IsBygone n w → IsBygone n (undo env u w)
undone_bygone env n (cleans t c) w b = framed_bygone n (undo env (cleans t c)) (framed_then (tell (cleaned t c)) _ (framed_tell (cleaned t c ∷ [])) (framed_cleanup env c)) w b
undone_bygone env n (ends (the_signal m)) w b =
    framed_bygone n (undo env (ends (the_signal m))) (framed_then (end_of (the_signal m)) (tell (gone (the_signal m))) (framed_end m) (framed_tell (gone (the_signal m) ∷ []))) w b
undone_bygone env n (ends (the_owner m)) w b = record { made = b.made; ended = b.ended }
undone_bygone env n (ends (the_effect m)) w b = record { made = b.made; ended = out_in n m w.effects b.ended }
undone_bygone env n (ends (the_page m)) w b = record { made = b.made; ended = b.ended }
undone_bygone env n (ends (the_watcher m)) w b = record { made = b.made; ended = b.ended }

teardown_bygone : (env : Environment) (n : ℕ) (us : List Undoing) (w : World) → IsBygone n w → IsBygone n (undo_all env us w)
teardown_bygone env n [] w b = b
teardown_bygone env n (u ∷ us) w b = teardown_bygone env n us (undo env u w) (undone_bygone env n u w b)

back_bygone : (env : Environment) (n : ℕ) (t : Thing) (w : World) → IsBygone n w → IsBygone n (take_back env t w)
back_bygone env n t w b = teardown_bygone env n (teardown_of t (under t w.owned)) (record w { owned = emptied t w.owned }) (record { made = b.made; ended = b.ended })

disposed_bygone : (env : Environment) (n : ℕ) (t : Thing) (w : World) → IsBygone n w → IsBygone n (dispose_thing env t w)
disposed_bygone env n t w b = go (lives t w)
  where
    go : (on : Bool) → IsBygone n (cond on (dispose_live env t w) (tell (refused (thing_gone t)) w))
    go true = teardown_bygone env n (disposal_of t w.owned) (record w { owned = taken_out t w.owned }) (record { made = b.made; ended = b.ended })
    go false = record { made = b.made; ended = b.ended }

-- what is made has another number
more_in : (n m : ℕ) (ns : List ℕ) → is_in n ns ≡ false → (n == m) ≡ false → is_in n (ns ++ m ∷ []) ≡ false
more_in n m [] h off = or_from (n == m) false off refl
more_in n m (k ∷ ns) h off =
    let both = or_parts (n == k) (is_in n ns) h in
    or_from (n == k) (is_in n (ns ++ m ∷ [])) both.0 (more_in n m ns both.1 off)

numbers_more : (xs : List Effect) (x : Effect) → effect_numbers (xs ++ x ∷ []) ≡ effect_numbers xs ++ x.number ∷ []
numbers_more [] x = refl
numbers_more (y ∷ xs) x = ap (λ ns. y.number ∷ ns) (numbers_more xs x)

act_bygone : (env : Environment) (n e k : ℕ) (a : Act) (w : World) → IsBygone n w → IsBygone n (do_act env e k a w)
act_bygone env n e k (to_set m v) w b = framed_bygone n (do_act env e k (to_set m v)) (framed_set env m v) w b
act_bygone env n e k (to_log v) w b = record { made = b.made; ended = b.ended }
act_bygone env n e k (to_note c) w b = record { made = b.made; ended = b.ended }
act_bygone env n e k (to_make y) w b =
    let m = b.made in
    record {
      made = omega (arith, m);
      ended = ap (is_in n) (numbers_more w.effects _) ∙ more_in n w.made.effects (effect_numbers w.effects) b.ended (grind (arith, nat_tests, m));
    }
act_bygone env n e k (to_dispose t) w b = disposed_bygone env n t w b
act_bygone env n e k (to_rewire m r) w b = framed_bygone n (do_act env e k (to_rewire m r)) (framed_rewire m r) w b

-- what is kept of a run changes no number
kept_numbers : (e : ℕ) (f : Effect → Effect) (xs : List Effect) → ((x : Effect) → (f x).number ≡ x.number) → effect_numbers (changed (λ (x : Effect). x.number) e f xs) ≡ effect_numbers xs
kept_numbers e f [] same = refl
kept_numbers e f (x ∷ xs) same = λ i. go (e == x.number) i ∷ kept_numbers e f xs same i
  where
    go : (b : Bool) → (cond b (f x) x).number ≡ x.number
    go true = same x
    go false = refl

reads_bygone : (n e : ℕ) (ss : List Seen) (w : World) → IsBygone n w → IsBygone n (keep_reads e ss w)
reads_bygone n e ss w b = record { made = b.made; ended = ap (is_in n) (kept_numbers e (λ x. record x { kept = Some ss }) w.effects (λ x. refl)) ∙ b.ended }

result_bygone : (env : Environment) (n e : ℕ) (r : BodyResult) (w : World) → IsBygone n w → IsBygone n (do_result env e r w)
result_bygone env n e (failed_by f) w b = record { made = b.made; ended = b.ended }
result_bygone env n e (to_do as') w b = acts_keep env (IsBygone n) e (λ j a v on q. act_bygone env n e j a v q) 1 as' w b

-- nor does a run, a look, or a visit
run_bygone : (env : Environment) (n : ℕ) (x : Effect) (w : World) → IsBygone n w → IsBygone n (run_effect env x w)
run_bygone env n x w b =
    let v : World = take_back env (the_effect x.number) w in
    let e : BodyEvaluation = body_evaluation env.hosts v.signals x.body in
    let u : World = settle env (names_of e.reads) v in
    result_bygone env n x.number e.result (keep_reads x.number e.tracked u)
    (reads_bygone n x.number e.tracked u
    (framed_bygone n (settle env (names_of e.reads)) (framed_settle env (names_of e.reads)) v (back_bygone env n (the_effect x.number) w b)))

look_bygone : (env : Environment) (n : ℕ) (x : Effect) (w : World) → IsBygone n w → IsBygone n (look env x w)
look_bygone env n x w b =
    let names : List ℕ = looked_names (value_now env w) x.kept in
    framed_bygone n (settle env names) (framed_settle env names) w b

to_bygone : (n : ℕ) (act : Effect → World → World) (o : Option Effect) (w : World) → ((x : Effect) → IsBygone n (act x w)) → IsBygone n w → IsBygone n (to_effect act o w)
to_bygone n act None w f b = b
to_bygone n act (Some x) w f b = f x

visit_bygone : (env : Environment) (n e : ℕ) (w : World) → IsBygone n w → IsBygone n (visit env e w)
visit_bygone env n e w b = go (is_due env e w)
  where
    seen : IsBygone n (glance env e w)
    seen = to_bygone n (look env) (effect_at e w.effects) w (λ x. look_bygone env n x w b) b

    go : (due : Bool) → IsBygone n (cond due (rerun env e (glance env e w)) (glance env e w))
    go true =
        to_bygone n (run_effect env) (effect_at e (glance env e w).effects) (glance env e w) (λ x. run_bygone env n x (glance env e w) seen) seen
    go false = seen

pub visits_bygone : (env : Environment) (n : ℕ) (es : List ℕ) (w : World) → IsBygone n w → IsBygone n (visit_all env es w)
visits_bygone env n [] w b = b
visits_bygone env n (e ∷ es) w b = visits_bygone env n es (visit env e w) (visit_bygone env n e w b)
