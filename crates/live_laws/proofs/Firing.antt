-- What handlers of events do to the world, and how it is told.
use Rattle.std.proofs.Common.{◌≡◌, ℕ, true, List, [], ◌∷◌, ◌++◌, append_assoc, None, refl, sym, ap, subst, ◌∙◌}
use Rattle.std.proofs.lemmas.List.{append-nil}
use Rattle.signal_model.specs.Sound.{names_of}
use Rattle.effect_model.specs.Acts.{or_refused}
use Rattle.effect_model.specs.Bodies.{Act, to_set, to_log, BodyEvaluation, BodyResult, to_do, failed_by, body_evaluation}
use Rattle.effect_model.specs.Commands as plain
use Rattle.effect_model.specs.Worlds.{Environment, Event, World}
use Rattle.effect_model.specs.Worlds.{at_rest}
use Rattle.effect_laws.specs.Frames.{IsOfSignals}
use Rattle.effect_laws.proofs.SharedFrames.{framed_set, framed_settle}
use Rattle.live_entries.specs.declared.entry.Entry.{Entry}
use Rattle.live_entries.specs.declared.entry.Entry.TheVariants as entry
use Rattle.live_model.proofs.Shared.{noting_both, unnoted}
use Rattle.live_model.specs.Handlers.{Handling, fired_of, handlings_of}
use Rattle.live_model.specs.Journals.{noting}
use Rattle.live_model.specs.Labels.{Labels, labels_after, relabelled}
use Rattle.live_model.specs.Machine.{Machine, Told, acted, acting, acting_once, ending, entries_of, event_entries, firing, reached, page_at, running, settling}
use Rattle.live_model.specs.Names.{number_of}
use Rattle.live_laws.specs.Events.{IsTold, answered, event_told, is_answer, no_more, deeds_of_act, deeds_of_acts, deeds_of_body, deeds_of_end, deeds_of_fired}
use Rattle.live_laws.specs.Firing.{FireLaw, LeavesBeside}
use Rattle.live_laws.specs.Rested.{rested_after, told_by}
use Rattle.live_laws.proofs.Entries.{told_only, labels_more}
use Rattle.live_laws.proofs.Rests.{rested_more, told_more}

-- what commands do to a machine, how it is told and noted, what things are called then, and what is left as it was
pub record DoesOn (env : Environment) (m : Machine) (cs : List plain.Command) (t : Told) : Type 0 where
  pub world : t.machine.world ≡ rested_after env m.world cs
  pub told : IsTold m.labels (told_by env m.world cs) t.entries
  pub labels : t.machine.labels ≡ labels_after (told_by env m.world cs) m.labels
  pub noted : t.machine.journal ≡ noting (told_by env m.world cs) m.journal
  pub beside : LeavesBeside m t.machine

same_beside : (m : Machine) → LeavesBeside m m
same_beside m = record { names = refl; templates = refl; handlers = refl; pages = refl; batch = refl; owners = refl; effects = refl; live = refl }

beside_then : (m n k : Machine) → LeavesBeside m n → LeavesBeside n k → LeavesBeside m k
beside_then m n k a b = record {
  names = b.names ∙ a.names;
  templates = b.templates ∙ a.templates;
  handlers = b.handlers ∙ a.handlers;
  pages = b.pages ∙ a.pages;
  batch = b.batch ∙ a.batch;
  owners = b.owners ∙ a.owners;
  effects = b.effects ∙ a.effects;
  live = b.live ∙ a.live;
}

-- what is told one after the other
told_both : (labels : Labels) (es : List Event) (ts : List Entry) → IsTold labels es ts → (more : List Event) (us : List Entry) →
    IsTold (labels_after es labels) more us → IsTold labels (es ++ more) (ts ++ us)
told_both labels _ _ (no_more _) more us h = h
told_both labels _ _ (event_told _ e es rest t) more us h =
    subst (λ ts. IsTold labels (e ∷ (es ++ more)) ts) (sym (append_assoc (event_entries labels e) rest us))
    (event_told labels e (es ++ more) (rest ++ us) (told_both (relabelled e labels) es rest t more us h))
told_both labels _ _ (answered _ a es rest k t) more us h = answered labels a (es ++ more) (rest ++ us) k (told_both labels es rest t more us h)

-- commands, and then others
both_do : (env : Environment) (m : Machine) (cs ds : List plain.Command) (t u : Told) → DoesOn env m cs t → DoesOn env t.machine ds u →
    DoesOn env m (cs ++ ds) (reached u.machine (t.entries ++ u.entries))
both_do env m cs ds t u a b =
    let es = told_by env m.world cs in
    let more : told_by env t.machine.world ds ≡ told_by env (rested_after env m.world cs) ds = ap (λ v. told_by env v ds) a.world in
    let all : told_by env m.world (cs ++ ds) ≡ es ++ told_by env t.machine.world ds = told_more env cs ds m.world ∙ ap (λ ts. es ++ ts) (sym more) in
    record {
      world = b.world ∙ (ap (λ v. rested_after env v ds) a.world ∙ sym (rested_more env cs ds m.world));
      told = subst (λ fs. IsTold m.labels fs (t.entries ++ u.entries)) (sym all)
          (told_both m.labels es t.entries a.told (told_by env t.machine.world ds) u.entries
          (subst (λ ls. IsTold ls (told_by env t.machine.world ds) u.entries) a.labels b.told));
      labels =
          b.labels ∙ (ap (labels_after (told_by env t.machine.world ds)) a.labels
          ∙ (sym (labels_more m.labels es (told_by env t.machine.world ds)) ∙ ap (λ fs. labels_after fs m.labels) (sym all)));
      noted =
          b.noted ∙ (ap (noting (told_by env t.machine.world ds)) a.noted
          ∙ (sym (noting_both es (told_by env t.machine.world ds) m.journal) ∙ ap (λ fs. noting fs m.journal) (sym all)));
      beside = beside_then m t.machine u.machine a.beside b.beside;
    }

-- nothing is done
none_do : (env : Environment) (m : Machine) → DoesOn env m [] (reached m [])
none_do env m = record { world = refl; told = no_more m.labels; labels = refl; noted = sym (unnoted m.journal); beside = same_beside m }

-- one command of signals that the world isn't refused, and that tells of itself
one_does : (env : Environment) (m : Machine) (c : plain.Command) → plain.command_refused c m.world ≡ None → IsOfSignals (plain.done_by env c) →
    DoesOn env m (c ∷ []) (acted m (plain.done_by env c m.world))
one_does env m c e of_signals =
    let w = plain.done_by env c m.world in
    let is : plain.after_command env m.world c ≡ w = ap (λ o. or_refused o w m.world) e in
    record {
      world = sym (ap at_rest is);
      told = subst (λ (v : World). IsTold m.labels (v.told ++ []) (entries_of m.labels w.told)) (sym is) (told_only m.labels w.told);
      labels = ap (λ fs. labels_after fs m.labels) (sym (append-nil w.told)) ∙ ap (λ (v : World). labels_after (v.told ++ []) m.labels) (sym is);
      noted = ap (λ fs. noting fs m.journal) (sym (append-nil w.told)) ∙ ap (λ (v : World). noting (v.told ++ []) m.journal) (sym is);
      beside =
          let same = of_signals.framed m.world in
          record {
            names = refl;
            templates = refl;
            handlers = refl;
            pages = refl;
            batch = refl;
            owners = ap (λ (v : World). v.owners) same;
            effects = ap (λ (v : World). v.effects) same;
            live = ap (λ (v : World). v.pages) same;
          };
    }

act_does : (env : Environment) (m : Machine) (a : Act) → DoesOn env m (deeds_of_act a) (acting_once env m a)
act_does env m (to_set n v) = one_does env m (plain.set n v) refl (framed_set env n v)
act_does env m (to_log v) = one_does env m (plain.log v) refl (record { framed = λ w. refl })
act_does env m _ = none_do env m

acts_do : (env : Environment) (m : Machine) (as' : List Act) → DoesOn env m (deeds_of_acts as') (acting env m as')
acts_do env m [] = none_do env m
acts_do env m (a ∷ as') =
    let t = acting_once env m a in both_do env m (deeds_of_act a) (deeds_of_acts as') t (acting env t.machine as') (act_does env m a) (acts_do env t.machine as')

-- an answer before what is told
answer_first : (env : Environment) (m : Machine) (cs : List plain.Command) (t : Told) (a : Entry) → is_answer a ≡ true → DoesOn env m cs t →
    DoesOn env m cs (reached t.machine (a ∷ t.entries))
answer_first env m cs t a k d = record {
  world = d.world;
  told = answered m.labels a (told_by env m.world cs) t.entries k d.told;
  labels = d.labels;
  noted = d.noted;
  beside = d.beside;
}

end_does : (env : Environment) (m : Machine) (page : List ℕ) (node : ℕ) (r : BodyResult) → DoesOn env m (deeds_of_end r) (ending env m page node r)
end_does env m page node (failed_by f) = answer_first env m [] (reached m []) (entry.FailAt page node f) refl (none_do env m)
end_does env m page node (to_do as') = acts_do env m as'

handler_does : (env : Environment) (m : Machine) (page : List ℕ) (x : Handling) → DoesOn env m (deeds_of_body env x.body m.world) (running env m page x)
handler_does env m page x =
    let e : BodyEvaluation = body_evaluation env.hosts m.world.signals x.body in
    let s : Told = settling env m (names_of e.reads) in
    let t : Told = ending env s.machine page x.node e.result in
    both_do env m (plain.ask (names_of e.reads) ∷ []) (deeds_of_end e.result) s (reached t.machine (entry.Fired page x.node ∷ t.entries))
    (one_does env m (plain.ask (names_of e.reads)) refl (framed_settle env (names_of e.reads)))
    (answer_first env s.machine (deeds_of_end e.result) t (entry.Fired page x.node) refl (end_does env s.machine page x.node e.result))

pub firing_does : (env : Environment) (m : Machine) (page : List ℕ) (xs : List Handling) → DoesOn env m (deeds_of_fired env xs m.world) (firing env m page xs)
firing_does env m page [] = none_do env m
firing_does env m page (x ∷ xs) =
    let cs = deeds_of_body env x.body m.world in
    let t = running env m page x in
    let a = handler_does env m page x in
    both_do env m cs (deeds_of_fired env xs (rested_after env m.world cs)) t (firing env t.machine page xs) a
    (subst (λ v. DoesOn env t.machine (deeds_of_fired env xs v) (firing env t.machine page xs)) a.world (firing_does env t.machine page xs))

-- what a firing comes to
pub fire_so : FireLaw
fire_so env m page node event =
    let d = firing_does env m page (handlings_of m.handlers (fired_of m.handlers (page_at m.pages (number_of m.names page)) node event)) in
    record { told = refl; world = d.world; noted = d.noted; beside = d.beside }
