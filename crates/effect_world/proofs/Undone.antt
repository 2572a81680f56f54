-- Steps of teardowns, done to the signals.
use Rattle.std.proofs.Common.{◌≡◌, ℕ, zero, suc, ◌+◌, ◌<◌, ◌==◌, ◌++◌, Bool, true, false, cond, List, [], ◌∷◌, map, length, take, get_or, ◌≤◌, refl, sym, ap, subst, ◌∙◌, append_assoc, arith, Err, ◌⊎◌, inl, inr}
use Rattle.std.specs.Prelude.{Result, IfErr}
use Rattle.std.specs.List.{AllByRecursion}
use Rattle.std.proofs.lemmas.List.{map-append, take_all, take_more}
use Rattle.sig_base.specs.declared.value.Value.{Value}
use Rattle.signal_model.specs.Recipes.{Hosts}
use Rattle.signal_model.specs.Signals.{IsCell, IsComputed, IsGone, Stands, is_computed, is_in, is_there, standing, without, is_cell}
use Rattle.effect_model.specs.Acts.{dispose_live, dispose_thing, end_standing, set_cell, set_standing, take_back, undo, undo_all}
use Rattle.effect_model.specs.Owners as owning
use Rattle.effect_model.specs.Owners.{Undoing, cleans, emptied, ends, taken_out, the_effect, the_owner, the_page, the_signal, the_watcher}
use Rattle.effect_model.specs.Watchers.{signals_at_rest}
use Rattle.effect_model.specs.Worlds as plain
use Rattle.effect_model.specs.Worlds.{Environment, lives, tell, at_rest}
use Rattle.effect_laws.specs.Frames.{IsOfSignals, ended_all, ended_one, signal_part, with_part}
use Rattle.effect_laws.proofs.SharedFrames.{framed_set, framed_tell, undo_all_split, undo_split}
use Rattle.effect_tables.specs.declared.effect.Effect.{Effect}
use Rattle.effect_tables.specs.declared.tables.Tables.{Tables}
use Rattle.effect_tables.specs.declared.thing.Undoing.{Undoing as AnUndoing}
use Rattle.effect_tables.specs.declared.thing.Undoing.TheVariants as undoing
use Rattle.effect_tables.specs.Bodies.{undoing_of, undoings_of}
use Rattle.effect_tables.specs.Placed.{effect_of, placed, tree_of}
use Rattle.effect_tables.proofs.Shared.{left_off, listed_tree, right_off, same_heard}
use Rattle.effect_teardown.specs.Rows.{is_tabled}
use Rattle.effect_teardown.specs.Trees.{AreFormed, OnEffects}
use Rattle.effect_teardown.specs.Teardowns.{Takes, TakesBack, TakesOut}
use Rattle.sig_host.specs.Hosts.{HostPlace, most_asked}
use Rattle.sig_nodes.specs.Answers.{kind_here}
use Rattle.sig_nodes.specs.declared.answers.Standing.{Standing}
use Rattle.sig_nodes.specs.declared.answers.Standing.TheVariants.{Gone, Cell, Computed, Computing}
use Rattle.sig_owner.specs.declared.errors.OwnFault.{OwnFault}
use Rattle.sig_owner.specs.declared.errors.OwnFault.TheVariants as own
use Rattle.sig_effect.specs.declared.events.Event.{Event}
use Rattle.sig_effect.specs.declared.events.Event.TheVariants as event
use Rattle.sig_effect.specs.Events.{AreTold, IsTold, Tells}
use Rattle.sig_effect.specs.Stores as signals
use Rattle.sig_effect.specs.Wholes as wholes
use Rattle.sig_effect.specs.Wholes.{SignalStores}
use Rattle.sig_effect.proofs.Shared.{tells_none}
use Rattle.effect_world.specs.declared.world.World.{World}
use Rattle.effect_world.specs.Signals.{Acts, IsNoted, Scene, Undoes, any_hosts, is_standing, scene}
use Rattle.effect_tables.specs.declared.heard.Heard.{Heard}
use Rattle.effect_world.specs.Answers.{Acted}
use Rattle.effect_world.specs.Stores.{Agrees, AreOwned, Does, Hears, IsSound}
use Rattle.effect_world.specs.Wholes.{stores_of, whole_of}

-- ---- what is told

-- one event more
pub tells_one : (before : List Event) (ev : Event) (t : plain.Event) → IsTold ev t → Tells before (before ++ ev ∷ []) (t ∷ [])
tells_one before ev t is = record { more = ev ∷ []; behind = refl; each = (is, tt) }

pub told_both : (es fs : List Event) (ts us : List plain.Event) → AreTold es ts → AreTold fs us → AreTold (es ++ fs) (ts ++ us)
told_both [] fs [] us p q = q
told_both [] fs (t ∷ ts) us p q = absurd p
told_both (e ∷ es) fs [] us p q = absurd p
told_both (e ∷ es) fs (t ∷ ts) us p q = (p.0, told_both es fs ts us p.1 q)

-- what is told in order
pub tells_both : (before mid after : List Event) (ts us : List plain.Event) → Tells before mid ts → Tells mid after us → Tells before after (ts ++ us)
tells_both before mid after ts us a b = record {
  more = a.more ++ b.more;
  behind = b.behind ∙ ap (λ es. es ++ b.more) a.behind ∙ append_assoc before a.more b.more;
  each = told_both a.more b.more ts us a.each b.each;
}

-- ---- acts on signals

-- nothing is done
pub acts_none : (hosts : Hosts) (asked : List HostPlace) (old : World) (before : List Event) (act : plain.World → plain.World) →
    act (wholes.whole_of asked (stores_of old)) ≡ wholes.whole_of asked (stores_of old) → IsSound hosts asked old → Acts hosts asked asked old old before before act
acts_none hosts asked old before act is sound = record {
  whole = ap signals_at_rest (sym is);
  told = subst (λ (w : plain.World). Tells before before w.told) (sym is) (tells_none before);
  sound = sound;
}

-- one event is told, and nothing else is done
pub acts_told : (hosts : Hosts) (asked : List HostPlace) (old : World) (before : List Event) (ev : Event) (t : plain.Event) (act : plain.World → plain.World) →
    act (wholes.whole_of asked (stores_of old)) ≡ tell t (wholes.whole_of asked (stores_of old)) → IsTold ev t → IsSound hosts asked old → Acts hosts asked asked old old before (before ++ ev ∷ []) act
acts_told hosts asked old before ev t act is one sound = record {
  whole = ap signals_at_rest (sym is);
  told = subst (λ (w : plain.World). Tells before (before ++ ev ∷ []) w.told) (sym is) (tells_one before ev t one);
  sound = sound;
}

-- by another name
pub acts_as : (hosts : Hosts) (asked later : List HostPlace) (old new : World) (before after : List Event) (f g : plain.World → plain.World) →
    f (wholes.whole_of asked (stores_of old)) ≡ g (wholes.whole_of asked (stores_of old)) → Acts hosts asked later old new before after f → Acts hosts asked later old new before after g
acts_as hosts asked later old new before after f g is a = record {
  whole = a.whole ∙ ap signals_at_rest is;
  told = subst (λ (w : plain.World). Tells before after w.told) is a.told;
  sound = a.sound;
}

-- an act on signals behind one event
pub acts_behind : (hosts : Hosts) (asked later : List HostPlace) (old new : World) (before after : List Event) (ev : Event) (t : plain.Event) (act : plain.World → plain.World) →
    IsOfSignals act → IsTold ev t → Acts hosts asked later old new (before ++ ev ∷ []) after act → Acts hosts asked later old new before after (λ w. act (tell t w))
acts_behind hosts asked later old new before after ev t act f is a =
    let s : plain.World = wholes.whole_of asked (stores_of old) in
    let later_told : act (tell t s) ≡ with_part (act s) (tell t s) = f.framed (tell t s) in
    record {
      whole = a.whole ∙ ap signals_at_rest (f.framed s) ∙ ap signals_at_rest (sym later_told);
      told = subst (λ (w : plain.World). Tells before after w.told) (sym later_told)
          (tells_both before (before ++ ev ∷ []) after (t ∷ []) (act s).told (tells_one before ev t is) a.told);
      sound = a.sound;
    }

-- ---- one step

pub set_gone : (env : Environment) (n : ℕ) (v : Value) (w : plain.World) → standing w.signals n ≡ IsGone → set_cell env n v w ≡ tell (plain.refused (plain.thing_gone (the_signal n))) w
set_gone env n v w is = ap (λ s. set_standing s env n v w) is

pub end_gone : (env : Environment) (n : ℕ) (w : plain.World) → standing w.signals n ≡ IsGone → undo env (ends (the_signal n)) w ≡ tell (plain.gone (the_signal n)) w
end_gone env n w is = ap (λ s. tell (plain.gone (the_signal n)) (end_standing s n w)) is

-- ---- steps in order

one_more : (env : Environment) (us : List Undoing) (u : Undoing) (w : plain.World) → undo_all env (us ++ u ∷ []) w ≡ undo env u (undo_all env us w)
one_more env [] u w = refl
one_more env (v ∷ us) u w = one_more env us u (undo env v w)

part_rest : (u : Undoing) (z x : plain.World) → signals_at_rest (with_part z (ended_one u x)) ≡ signals_at_rest (with_part z (ended_one u (signals_at_rest x)))
part_rest (cleans t c) z x = refl
part_rest (ends (the_signal n)) z x = refl
part_rest (ends (the_owner n)) z x = refl
part_rest (ends (the_effect n)) z x = refl
part_rest (ends (the_page n)) z x = refl
part_rest (ends (the_watcher n)) z x = refl

part_told : (u : Undoing) (z x : plain.World) → (with_part z (ended_one u x)).told ≡ x.told ++ (with_part z (ended_one u (signals_at_rest x))).told
part_told (cleans t c) z x = refl
part_told (ends (the_signal n)) z x = refl
part_told (ends (the_owner n)) z x = refl
part_told (ends (the_effect n)) z x = refl
part_told (ends (the_page n)) z x = refl
part_told (ends (the_watcher n)) z x = refl

-- a step rests on nothing that was told before
rest_undone : (env : Environment) (u : Undoing) (x : plain.World) → signals_at_rest (undo env u (signals_at_rest x)) ≡ signals_at_rest (undo env u x)
rest_undone env u x =
    let z : plain.World = undo env u (signal_part x) in
    ap signals_at_rest (undo_split env u (signals_at_rest x)) ∙ sym (part_rest u z x) ∙ ap signals_at_rest (sym (undo_split env u x))

told_undone : (env : Environment) (u : Undoing) (x : plain.World) → (undo env u x).told ≡ x.told ++ (undo env u (signals_at_rest x)).told
told_undone env u x =
    let z : plain.World = undo env u (signal_part x) in
    ap (λ (w : plain.World). w.told) (undo_split env u x) ∙ part_told u z x ∙ ap (λ (w : plain.World). x.told ++ w.told) (sym (undo_split env u (signals_at_rest x)))

pub acts_then : (hosts : Hosts) (env : Environment) (asked amid later : List HostPlace) (old mid new : World) (before between after : List Event) (us : List Undoing) (u : Undoing) →
    Acts hosts asked amid old mid before between (undo_all env us) → Acts hosts amid later mid new between after (undo env u) → Acts hosts asked later old new before after (undo_all env (us ++ u ∷ []))
acts_then hosts env asked amid later old mid new before between after us u a b =
    let x : plain.World = undo_all env us (wholes.whole_of asked (stores_of old)) in
    record {
      whole =
          b.whole ∙ ap (λ w. signals_at_rest (undo env u w)) a.whole ∙ rest_undone env u x
          ∙ ap signals_at_rest (sym (one_more env us u (wholes.whole_of asked (stores_of old))));
      told = subst (λ (w : plain.World). Tells before after w.told) (sym (one_more env us u (wholes.whole_of asked (stores_of old))))
          (subst (Tells before after) (sym (told_undone env u x))
          (tells_both before between after x.told (undo env u (signals_at_rest x)).told a.told (subst (λ (w : plain.World). Tells between after (undo env u w).told) a.whole b.told)));
      sound = b.sound;
    }

-- ---- the whole

-- what was taken out of the tables in these steps, and done to the signals, is done to the world
undone : (hosts : Hosts) (env : Environment) (asked later : List HostPlace) (old mid new : World) (before after : List Event) (us : List Undoing) (left : owning.Owned) →
    Takes old.tables new.tables us left → (stores_of mid) ≡ (stores_of old) → Acts hosts asked later mid new before after (undo_all env us) →
    Does hosts asked later old new before after (λ w. undo_all env us (record w { owned = left }))
undone hosts env asked later old mid new before after us left takes same a =
    let s : plain.World = wholes.whole_of asked (stores_of old) in
    let w : plain.World = record (placed old.tables s) { owned = left } in
    let x : plain.World = undo_all env us s in
    let split : undo_all env us w ≡ with_part x (placed new.tables s) = undo_all_split env us w ∙ ap (with_part x) (sym (takes.does s)) in
    record {
      whole =
          ap (placed new.tables) (a.whole ∙ ap (λ (y : SignalStores). signals_at_rest (undo_all env us (wholes.whole_of asked y))) same)
          ∙ (λ i. record (placed new.tables (signals_at_rest x)) { owned = sym (listed_tree new.tables takes.holds) i })
          ∙ ap at_rest (sym split);
      told = subst (λ (y : plain.World). Tells before after y.told) (sym split)
          (subst (λ (y : SignalStores). Tells before after (undo_all env us (wholes.whole_of asked y)).told) same a.told);
      sound = a.sound;
    }

does_as : (hosts : Hosts) (asked later : List HostPlace) (old new : World) (before after : List Event) (f g : plain.World → plain.World) →
    f (whole_of asked old) ≡ g (whole_of asked old) → Does hosts asked later old new before after f → Does hosts asked later old new before after g
does_as hosts asked later old new before after f g is d = record {
  whole = d.whole ∙ ap at_rest is;
  told = subst (λ (w : plain.World). Tells before after w.told) is d.told;
  sound = d.sound;
}

-- a thing that lived was disposed
pub disposed : (hosts : Hosts) (env : Environment) (asked later : List HostPlace) (old mid new : World) (before after : List Event) (t : owning.Thing) (us : List Undoing) →
    TakesOut old.tables new.tables t us → lives t (whole_of asked old) ≡ true → (stores_of mid) ≡ (stores_of old) → Acts hosts asked later mid new before after (undo_all env us) →
    Does hosts asked later old new before after (dispose_thing env t)
disposed hosts env asked later old mid new before after t us out live same a =
    let w : plain.World = whole_of asked old in
    let left : owning.Owned = taken_out t (tree_of old.tables) in
    does_as hosts asked later old new before after (λ y. undo_all env us (record y { owned = left })) (dispose_thing env t)
    (ap (λ vs. undo_all env vs (record w { owned = left })) out.steps ∙ sym (ap (λ b. cond b (dispose_live env t w) (tell (plain.refused (plain.thing_gone t)) w)) live))
    (undone hosts env asked later old mid new before after us left out.takes same a)

-- what stood under an effect was taken back
pub taken_back : (hosts : Hosts) (env : Environment) (asked later : List HostPlace) (old mid new : World) (before after : List Event) (t : owning.Thing) (us : List Undoing) →
    TakesBack old.tables new.tables t us → (stores_of mid) ≡ (stores_of old) → Acts hosts asked later mid new before after (undo_all env us) →
    Does hosts asked later old new before after (take_back env t)
taken_back hosts env asked later old mid new before after t us back same a =
    let left : owning.Owned = emptied t (tree_of old.tables) in
    does_as hosts asked later old new before after (λ y. undo_all env us (record y { owned = left })) (take_back env t)
    (ap (λ vs. undo_all env vs (record (whole_of asked old) { owned = left })) back.steps)
    (undone hosts env asked later old mid new before after us left back.takes same a)

-- ---- by what stands

-- whether what stands so is there
abbrev pub stood : Standing → Bool
stood Gone = false
stood Cell = true
stood Computed = true
stood Computing = true

pub stood_there : (s : Stands) (b : Bool) → stood (kind_here s b) ≡ is_there s
stood_there IsGone b = refl
stood_there (IsCell c) b = refl
stood_there (IsComputed c) true = refl
stood_there (IsComputed c) false = refl

pub kind_gone : (s : Stands) (b : Bool) → Gone ≡ kind_here s b → s ≡ IsGone
kind_gone IsGone b e = refl
kind_gone (IsCell c) b e = cc
kind_gone (IsComputed c) true e = cc
kind_gone (IsComputed c) false e = cc

pub kind_cell : (s : Stands) (b : Bool) → Cell ≡ kind_here s b → is_cell s ≡ true
kind_cell IsGone b e = cc
kind_cell (IsCell c) b e = refl
kind_cell (IsComputed c) true e = cc
kind_cell (IsComputed c) false e = cc

pub kind_computed : (s : Stands) (b : Bool) → Computed ≡ kind_here s b → is_computed s ≡ true
kind_computed IsGone b e = cc
kind_computed (IsCell c) b e = cc
kind_computed (IsComputed c) b e = refl

pub kind_computing : (s : Stands) (b : Bool) → Computing ≡ kind_here s b → is_computed s ≡ true
kind_computing IsGone b e = cc
kind_computing (IsCell c) b e = cc
kind_computing (IsComputed c) b e = refl

pub cell_only : (s : Stands) → is_cell s ≡ true → is_computed s ≡ false
cell_only IsGone e = refl
cell_only (IsCell c) e = refl
cell_only (IsComputed c) e = cc

pub gone_there : (s : Stands) → is_there s ≡ false → s ≡ IsGone
gone_there IsGone e = refl
gone_there (IsCell c) e = cc
gone_there (IsComputed c) e = cc

-- a computed isn't set
pub set_kept : (env : Environment) (n : ℕ) (v : Value) (w : plain.World) → is_computed (standing w.signals n) ≡ true → set_cell env n v w ≡ w
set_kept env n v w is = go (standing w.signals n) is
  where
    go : (s : Stands) → is_computed s ≡ true → set_standing s env n v w ≡ w
    go IsGone e = cc
    go (IsCell c) e = cc
    go (IsComputed c) e = refl

-- ---- cleanups

pub cleaned_set : (hosts : Hosts) (env : Environment) (asked : List HostPlace) (old new : World) (before between after : List Event) (e n : ℕ) (v : Value) → between ≡ before ++ event.Cleanup e ∷ [] →
    Acts hosts asked asked old new between after (set_cell env n v) → Acts hosts asked asked old new before after (undo env (cleans (the_effect e) (owning.sets n v)))
cleaned_set hosts env asked old new before between after e n v is a =
    acts_behind hosts asked asked old new before after (event.Cleanup e) (plain.cleaned (the_effect e) (owning.sets n v)) (set_cell env n v) (framed_set env n v)
    (record { act = owning.sets n v; cleaned = refl }) (subst (λ es. Acts hosts asked asked old new es after (set_cell env n v)) is a)

pub cleaned_log : (hosts : Hosts) (env : Environment) (asked : List HostPlace) (old : World) (before between after : List Event) (e : ℕ) (v : Value) → between ≡ before ++ event.Cleanup e ∷ [] →
    after ≡ between ++ event.Log v ∷ [] → IsSound hosts asked old → Acts hosts asked asked old old before after (undo env (cleans (the_effect e) (owning.logs v)))
cleaned_log hosts env asked old before between after e v is more sound =
    acts_behind hosts asked asked old old before after (event.Cleanup e) (plain.cleaned (the_effect e) (owning.logs v)) (tell (plain.logged v)) (framed_tell (plain.logged v ∷ []))
    (record { act = owning.logs v; cleaned = refl })
    (subst (λ es. Acts hosts asked asked old old (before ++ event.Cleanup e ∷ []) es (tell (plain.logged v))) (sym (more ∙ ap (λ es. es ++ event.Log v ∷ []) is))
    (acts_told hosts asked old (before ++ event.Cleanup e ∷ []) (event.Log v) (plain.logged v) (tell (plain.logged v)) refl refl sound))

-- ---- watchers

none_left : (n : ℕ) (xs : List plain.Watcher) → is_in n (plain.watcher_numbers xs) ≡ false → without (λ (x : plain.Watcher). x.number) n xs ≡ xs
none_left n [] h = refl
none_left n (x ∷ xs) h =
    ap (λ b. cond b (without (λ (y : plain.Watcher). y.number) n xs) (x ∷ without (λ (y : plain.Watcher). y.number) n xs)) (left_off (n == x.number) (is_in n (plain.watcher_numbers xs)) h)
    ∙ ap (λ (ys : List plain.Watcher). x ∷ ys) (none_left n xs (right_off (n == x.number) (is_in n (plain.watcher_numbers xs)) h))

pub watcher_gone : (env : Environment) (n : ℕ) (w : plain.World) → is_in n (plain.watcher_numbers w.watchers) ≡ false → undo env (ends (the_watcher n)) w ≡ tell (plain.gone (the_watcher n)) w
watcher_gone env n w off = λ i. tell (plain.gone (the_watcher n)) (record w { watchers = none_left n w.watchers off i })

-- ---- in scenes

-- nothing was changed, but something told
pub undoes_still : (slacks : List ℕ) (old : World) (asked : List HostPlace) (before after : List Event) (answers : Hosts → Type 0) (act : Environment → plain.World → plain.World) →
    ((hosts : Hosts) → IsSound hosts asked old → Acts hosts asked asked old old before after (act (signals.environment hosts slacks))) → signals.Agrees asked (stores_of old) →
    Undoes slacks (scene old asked before) (scene old asked after) answers answers 1 act
undoes_still slacks old asked before after answers act acts a = record {
  acts = acts;
  agrees = a;
  answers = λ hosts h. h;
  most = omega arith;
  rules = λ count h. h;
  tables = refl;
  given = refl;
  made = refl;
  worn = omega arith;
}

-- no step
pub undoes_none : (slacks : List ℕ) (old : Scene) (answers : Hosts → Type 0) → signals.Agrees old.asked (stores_of old.world) → Undoes slacks old old answers answers 0 (λ env. undo_all env [])
undoes_none slacks old answers a = record {
  acts = λ hosts sound. acts_none hosts old.asked old.world old.events (undo_all (signals.environment hosts slacks) []) refl sound;
  agrees = a;
  answers = λ hosts h. h;
  most = omega arith;
  rules = λ count h. h;
  tables = refl;
  given = refl;
  made = refl;
  worn = omega arith;
}

-- one step more
pub undoes_then : (slacks : List ℕ) (old mid new : Scene) (first between last : Hosts → Type 0) (k : ℕ) (us : List Undoing) (u : Undoing) →
    Undoes slacks old mid first between k (λ env. undo_all env us) → Undoes slacks mid new between last 1 (λ env. undo env u) →
    Undoes slacks old new first last (k + 1) (λ env. undo_all env (us ++ u ∷ []))
undoes_then slacks old mid new first between last k us u p q =
    let most_p = p.most in
    let most_q = q.most in
    let worn_p = p.worn in
    let worn_q = q.worn in
    record {
      acts = λ hosts sound.
          let x : Acts hosts old.asked mid.asked old.world mid.world old.events mid.events (undo_all (signals.environment hosts slacks) us) = p.acts hosts sound in
          acts_then hosts (signals.environment hosts slacks) old.asked mid.asked new.asked old.world mid.world new.world old.events mid.events new.events us u x (q.acts hosts x.sound);
      agrees = q.agrees;
      answers = λ hosts h. q.answers hosts (p.answers hosts h);
      most = omega arith;
      rules = λ count h. q.rules count (p.rules count h);
      tables = q.tables ∙ p.tables;
      given = q.given ∙ p.given;
      made = q.made ∙ p.made;
      worn = omega arith;
    }

-- ---- what lives

numbers_same : (xs : List Effect) → plain.effect_numbers (map effect_of xs) ≡ map (λ (x : Effect). x.id) xs
numbers_same [] = refl
numbers_same (x ∷ xs) = ap (λ (ns : List ℕ). x.id ∷ ns) (numbers_same xs)

-- what lives does so by the signals or by the tables
pub lives_by : (asked : List HostPlace) (w : World) (t : owning.Thing) → is_standing t w ≡ true → is_tabled t w.tables ≡ true → lives t (whole_of asked w) ≡ true
lives_by asked w (the_signal n) p q = p
lives_by asked w (the_watcher n) p q = p
lives_by asked w (the_owner n) p q = q
lives_by asked w (the_effect n) p q = ap (is_in n) (numbers_same w.tables.effects.items) ∙ q
lives_by asked w (the_page n) p q = q

pub gone_standing : (asked : List HostPlace) (w : World) (t : owning.Thing) → is_standing t w ≡ false → lives t (whole_of asked w) ≡ false
gone_standing asked w (the_signal n) p = p
gone_standing asked w (the_watcher n) p = p
gone_standing asked w (the_owner n) p = cc
gone_standing asked w (the_effect n) p = cc
gone_standing asked w (the_page n) p = cc

pub gone_tabled : (asked : List HostPlace) (w : World) (t : owning.Thing) → is_tabled t w.tables ≡ false → lives t (whole_of asked w) ≡ false
gone_tabled asked w (the_signal n) q = cc
gone_tabled asked w (the_watcher n) q = cc
gone_tabled asked w (the_owner n) q = q
gone_tabled asked w (the_effect n) q = ap (is_in n) (numbers_same w.tables.effects.items) ∙ q
gone_tabled asked w (the_page n) q = q

-- ---- the stores afterwards

pub owned_after : (old new : World) (us : List Undoing) (left : owning.Owned) → Takes old.tables new.tables us left → new.graph.given ≡ old.graph.given → AreOwned old → AreOwned new
owned_after old new us left takes given o = record {
  tables = takes.holds;
  formed = subst AreFormed (sym takes.tree) takes.formed;
  fresh = λ n l. takes.signals.still n (λ e. cc) (o.fresh n (subst (λ k. k ≤ n) given l));
}

-- what is refused as gone leaves the tables as they were
pub untouched : {A : Type 0} (result : Result A OwnFault) (old new : Tables) → result ≡ Err own.Gone → IfErr result (λ e. (e ≡ own.NoMemory) ⊎ (new ≡ old)) → new ≡ old
untouched {A = A} result old new is err = elim (subst (λ (r : Result A OwnFault). IfErr r (λ e. (e ≡ own.NoMemory) ⊎ (new ≡ old))) is err) [
  | inl e ↦ cc
  | inr e ↦ e
]

-- ---- cleanups are those of effects

pub noted_steps : (us : List AnUndoing) → AllByRecursion OnEffects (undoings_of us) → AllByRecursion IsNoted us
noted_steps [] h = tt
noted_steps (undoing.Cleanup t c ∷ us) h = (h.0, noted_steps us h.1)
noted_steps (undoing.Gone t ∷ us) h = (tt, noted_steps us h.1)

pub noted_at : (us : List AnUndoing) (i : ℕ) (d : AnUndoing) → i < length us → AllByRecursion IsNoted us → IsNoted (get_or us i d)
noted_at [] i d l h = absurd (omega (arith, l))
noted_at (u ∷ us) zero d l h = h.0
noted_at (u ∷ us) (suc i) d l h = noted_at us i d (omega (arith, l)) h.1

-- ---- in scenes, by the program's own steps

-- one step more
pub undoes_next : (slacks : List ℕ) (old mid new : Scene) (first between last : Hosts → Type 0) (us : List AnUndoing) (i : ℕ) (item : AnUndoing) → i < length us → item ≡ get_or us i item →
    Undoes slacks old mid first between i (λ env. undo_all env (undoings_of (take i us))) → Undoes slacks mid new between last 1 (λ env. undo env (undoing_of item)) →
    Undoes slacks old new first last (i + 1) (λ env. undo_all env (undoings_of (take (i + 1) us)))
undoes_next slacks old mid new first between last us i item l is p q =
    subst (λ vs. Undoes slacks old new first last (i + 1) (λ env. undo_all env vs))
    (sym (ap undoings_of (take_more us i item l ∙ ap (λ (u : AnUndoing). take i us ++ u ∷ []) (sym is)) ∙ map-append undoing_of (take i us) (item ∷ [])))
    (undoes_then slacks old mid new first between last i (undoings_of (take i us)) (undoing_of item) p q)

-- by another name
pub undoes_as : (slacks : List ℕ) (old new : Scene) (first last : Hosts → Type 0) (k : ℕ) (f g : Environment → plain.World → plain.World) → ((env : Environment) → f env ≡ g env) →
    Undoes slacks old new first last k f → Undoes slacks old new first last k g
undoes_as slacks old new first last k f g same p = record {
  acts = λ hosts sound. subst (λ (act : plain.World → plain.World). Acts hosts old.asked new.asked old.world new.world old.events new.events act) (same (signals.environment hosts slacks)) (p.acts hosts sound);
  agrees = p.agrees;
  answers = p.answers;
  most = p.most;
  rules = p.rules;
  tables = p.tables;
  given = p.given;
  made = p.made;
  worn = p.worn;
}

-- where no host formula is asked
pub undoes_lent : (slacks : List ℕ) (old new : Scene) (answers : Hosts → Type 0) (k : ℕ) (act : Environment → plain.World → plain.World) →
    Undoes slacks old new any_hosts any_hosts k act → Undoes slacks old new answers answers k act
undoes_lent slacks old new answers k act p = record {
  acts = p.acts;
  agrees = p.agrees;
  answers = λ hosts h. h;
  most = p.most;
  rules = p.rules;
  tables = p.tables;
  given = p.given;
  made = p.made;
  worn = p.worn;
}

-- what is known of effects is no part of it
pub undoes_heard : (slacks : List ℕ) (old : Scene) (new : World) (h : Heard) (asked : List HostPlace) (after : List Event) (first last : Hosts → Type 0) (k : ℕ)
    (act : Environment → plain.World → plain.World) → Undoes slacks old (scene new asked after) first last k act →
    Undoes slacks old (scene (record new { heard = h }) asked after) first last k act
undoes_heard slacks old new h asked after first last k act p = record {
  acts = p.acts;
  agrees = p.agrees;
  answers = p.answers;
  most = p.most;
  rules = p.rules;
  tables = p.tables;
  given = p.given;
  made = p.made;
  worn = p.worn;
}

-- one event was told, and nothing else done
pub undoes_told : (slacks : List ℕ) (old : World) (asked : List HostPlace) (before after : List Event) (ev : Event) (t : plain.Event) (answers : Hosts → Type 0) (act : Environment → plain.World → plain.World) →
    after ≡ before ++ ev ∷ [] → ((env : Environment) → act env (wholes.whole_of asked (stores_of old)) ≡ tell t (wholes.whole_of asked (stores_of old))) → IsTold ev t → signals.Agrees asked (stores_of old) →
    Undoes slacks (scene old asked before) (scene old asked after) answers answers 1 act
undoes_told slacks old asked before after ev t answers act more is one a =
    undoes_still slacks old asked before after answers act
    (λ hosts sound. subst (λ es. Acts hosts asked asked old old before es (act (signals.environment hosts slacks))) (sym more)
    (acts_told hosts asked old before ev t (act (signals.environment hosts slacks)) (is (signals.environment hosts slacks)) one sound))
    a

-- the same world under another name
pub undoes_to : (slacks : List ℕ) (old new : World) (asked : List HostPlace) (before after : List Event) (answers : Hosts → Type 0) (act : Environment → plain.World → plain.World) →
    new ≡ old → Undoes slacks (scene old asked before) (scene old asked after) answers answers 1 act → Undoes slacks (scene old asked before) (scene new asked after) answers answers 1 act
undoes_to slacks old new asked before after answers act same p =
    subst (λ (w : World). Undoes slacks (scene old asked before) (scene w asked after) answers answers 1 act) (sym same) p

-- an act on signals was done in one step
pub undoes_one : (slacks : List ℕ) (old new : World) (asked later : List HostPlace) (before after : List Event) (first last : Hosts → Type 0)
    (act : Environment → plain.World → plain.World) →
    ((hosts : Hosts) → IsSound hosts asked old → Acts hosts asked later old new before after (act (signals.environment hosts slacks))) →
    signals.Agrees later (stores_of new) → ((hosts : Hosts) → first hosts → last hosts) → most_asked later ≤ most_asked asked →
    ((count : ℕ) → signals.AreRuled count old.graph.state.signals → signals.AreRuled count new.graph.state.signals) → new.tables ≡ old.tables → signals.Stays (stores_of old) (stores_of new) →
    Undoes slacks (scene old asked before) (scene new later after) first last 1 act
undoes_one slacks old new asked later before after first last act acts agrees answers most rules tables stays = record {
  acts = acts;
  agrees = agrees;
  answers = answers;
  most = most;
  rules = rules;
  tables = tables;
  given = stays.given;
  made = stays.made;
  worn = stays.worn;
}

-- a cleanup, behind its own event
pub undoes_cleaned : (slacks : List ℕ) (old new : World) (asked : List HostPlace) (before between after : List Event) (e n : ℕ) (v : Value) (c : owning.Cleanup) → between ≡ before ++ event.Cleanup e ∷ [] →
    owning.sets n v ≡ c → Undoes slacks (scene old asked between) (scene new asked after) any_hosts any_hosts 1 (λ env. set_cell env n v) →
    Undoes slacks (scene old asked before) (scene new asked after) any_hosts any_hosts 1 (λ env. undo env (cleans (the_effect e) c))
undoes_cleaned slacks old new asked before between after e n v c is same p = record {
  acts = λ hosts sound. subst (λ d. Acts hosts asked asked old new before after (undo (signals.environment hosts slacks) (cleans (the_effect e) d))) same
      (cleaned_set hosts (signals.environment hosts slacks) asked old new before between after e n v is (p.acts hosts sound));
  agrees = p.agrees;
  answers = p.answers;
  most = p.most;
  rules = p.rules;
  tables = p.tables;
  given = p.given;
  made = p.made;
  worn = p.worn;
}

pub undoes_logged : (slacks : List ℕ) (old : World) (asked : List HostPlace) (before between after : List Event) (e : ℕ) (v : Value) (c : owning.Cleanup) → between ≡ before ++ event.Cleanup e ∷ [] →
    after ≡ between ++ event.Log v ∷ [] → owning.logs v ≡ c → signals.Agrees asked (stores_of old) →
    Undoes slacks (scene old asked before) (scene old asked after) any_hosts any_hosts 1 (λ env. undo env (cleans (the_effect e) c))
undoes_logged slacks old asked before between after e v c is more same a =
    undoes_still slacks old asked before after any_hosts (λ env. undo env (cleans (the_effect e) c))
    (λ hosts sound. subst (λ d. Acts hosts asked asked old old before after (undo (signals.environment hosts slacks) (cleans (the_effect e) d))) same
    (cleaned_log hosts (signals.environment hosts slacks) asked old before between after e v is more sound))
    a

-- ---- what was taken out of the tables and done to the signals

module _ (slacks : List ℕ) (old mid new : World) (asked later : List HostPlace) (before after : List Event) (first last : Hosts → Type 0) (k : ℕ) (t : owning.Thing) (us lent : List AnUndoing)
    (is : lent ≡ us) (same : stores_of mid ≡ stores_of old) (done : Undoes slacks (scene mid asked before) (scene new later after) first last k (λ env. undo_all env (undoings_of lent))) where
  acts_now : (hosts : Hosts) → IsSound hosts asked old → Acts hosts asked later mid new before after (undo_all (signals.environment hosts slacks) (undoings_of us))
  acts_now hosts sound =
      subst (λ vs. Acts hosts asked later mid new before after (undo_all (signals.environment hosts slacks) (undoings_of vs))) is
      (done.acts hosts (subst (λ (s : SignalStores). signals.IsSound hosts asked s) (sym same) sound))

  pub out_does : TakesOut old.tables mid.tables t (undoings_of us) → lives t (whole_of asked old) ≡ true → (hosts : Hosts) → IsSound hosts asked old →
      Does hosts asked later old new before after (dispose_thing (signals.environment hosts slacks) t)
  out_does out live hosts sound =
      disposed hosts (signals.environment hosts slacks) asked later old mid new before after t (undoings_of us) (subst (λ (b : Tables). TakesOut old.tables b t (undoings_of us)) (sym done.tables) out)
      live same (acts_now hosts sound)

  pub back_does : TakesBack old.tables mid.tables t (undoings_of us) → (hosts : Hosts) → IsSound hosts asked old →
      Does hosts asked later old new before after (take_back (signals.environment hosts slacks) t)
  back_does back hosts sound =
      taken_back hosts (signals.environment hosts slacks) asked later old mid new before after t (undoings_of us)
      (subst (λ (b : Tables). TakesBack old.tables b t (undoings_of us)) (sym done.tables) back) same (acts_now hosts sound)

  pub agrees_now : (left : owning.Owned) → Takes old.tables mid.tables (undoings_of us) left → AreOwned old → Hears new → Agrees later new
  agrees_now left takes o heard = record {
    signals = done.agrees;
    heard = heard;
    owned = owned_after old new (undoings_of us) left (subst (λ (b : Tables). Takes old.tables b (undoings_of us) left) (sym done.tables) takes)
        (done.given ∙ ap (λ (s : SignalStores). s.graph.given) same) o;
  }

-- where nothing is taken back, all stays as it is but for the store
pub back_none : (slacks : List ℕ) (old : World) (u : Tables) (asked : List HostPlace) (events : List Event) (answers : Hosts → Type 0) (t : owning.Thing) (us : List AnUndoing) →
    us ≡ [] → TakesBack old.tables u t (undoings_of us) → Agrees asked old →
    Acted slacks (scene old asked events) (scene (record old { tables = u }) asked events) answers answers 0 (λ env. take_back env t)
back_none slacks old u asked events answers t us none back a =
    let mid : World = record old { tables = u } in
    let done : Undoes slacks (scene mid asked events) (scene mid asked events) answers answers 0 (λ env. undo_all env (undoings_of us)) =
    subst (λ vs. Undoes slacks (scene mid asked events) (scene mid asked events) answers answers 0 (λ env. undo_all env (undoings_of vs))) (sym none)
    (undoes_none slacks (scene mid asked events) answers a.signals) in
    let same : map effect_of u.effects.items ≡ map effect_of old.tables.effects.items =
    ap (λ (w : plain.World). w.effects) (back.takes.does (wholes.whole_of asked (stores_of old)))
    ∙ ap (λ vs. (ended_all (undoings_of vs) (record (placed old.tables (wholes.whole_of asked (stores_of old))) { owned = emptied t (tree_of old.tables) })).effects) none in
    let made = back.takes.made in
    record {
      does = back_does slacks old mid mid asked asked events events answers answers 0 t us us refl refl done back;
      agrees = agrees_now slacks old mid mid asked asked events events answers answers 0 t us us refl refl done _ back.takes a.owned
          (same_heard old.graph.state.signals old.graph.state.signals old.heard old.heard (map effect_of old.tables.effects.items) (map effect_of u.effects.items) refl refl same a.heard);
      answers = λ hosts h. h;
      most = omega arith;
      rules = λ count h. h;
      given = refl;
      made = refl;
      worn = omega (arith, made);
      told = omega arith;
    }

-- all steps
pub undoes_all : (slacks : List ℕ) (old new : Scene) (first last : Hosts → Type 0) (us : List AnUndoing) (i : ℕ) → length us ≤ i → i ≤ length us →
    Undoes slacks old new first last i (λ env. undo_all env (undoings_of (take i us))) → Undoes slacks old new first last (length us) (λ env. undo_all env (undoings_of us))
undoes_all slacks old new first last us i l w p =
    let same : i ≡ length us = omega (arith, l, w) in
    subst (λ k. Undoes slacks old new first last k (λ env. undo_all env (undoings_of us))) same
    (subst (λ vs. Undoes slacks old new first last i (λ env. undo_all env (undoings_of vs))) (take_all i us l) p)
