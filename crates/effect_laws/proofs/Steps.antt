-- Each step of acts and teardowns keeps the ledger.
use Rattle.std.proofs.Common.{◌≡◌, ℕ, ◌+◌, ◌≤◌, ◌==◌, Bool, true, false, cond, List, [], ◌∷◌, ◌++◌, map, Option, Some, None, refl, sym, ap, ◌∙◌}
use Rattle.std.proofs.Common.{subst, arith}
use Rattle.std.proofs.lemmas.Bool.{eq-eqb}
use Rattle.std.specs.List.{filter, AllByRecursion}
use Rattle.sig_base.specs.declared.value.Value.{Value}
use Rattle.signal_model.specs.Recipes.{Hosts, Recipe}
use Rattle.signal_model.specs.Signals.{Cell, Computed, Stands, IsGone, IsCell, IsComputed, is_there, standing, without}
use Rattle.signal_model.specs.Settling.{Run, settled}
use Rattle.signal_model.specs.Asks.{moments}
use Rattle.signal_model.specs.Changes.{with_recipe, after_rewiring}
use Rattle.signal_model.proofs.Shared.{stands-computed}
use Rattle.signal_laws.specs.RunLaws.{IsScratchRun}
use Rattle.signal_laws.proofs.Shared.{scratch_runs_law}
use Rattle.effect_model.specs.Owners.{Thing, the_signal, the_owner, the_effect, the_page, the_watcher, same_thing, Cleanup, sets, logs, Undoing}
use Rattle.effect_model.specs.Owners.{cleans, ends, teardown_of, under, emptied, taken_out, disposal_of}
use Rattle.effect_model.specs.declared.how.How.{How}
use Rattle.effect_model.specs.declared.how.How.TheVariants.{Set, Rewire, Gone}
use Rattle.effect_model.specs.Worlds.{Environment, Watcher, Effect, Event, ran, changed_signal, logged, cleaned, gone, refused, Refused, thing_gone, World, tell}
use Rattle.effect_model.specs.Worlds.{tell_all, lives, settle}
use Rattle.effect_model.specs.Acts.{is_notified_by_any, notified_by_any, frozen_by, told_of, told_frozen, waiting_if, notify_of_all, with_new_value, with_quiet_value}
use Rattle.effect_model.specs.Acts.{are_alike}
use Rattle.effect_model.specs.Acts.{set_standing, set_cell, host_of, with_drop, with_use, rewiring_refused, rewire_standing, or_refused, rewire_signal, forget}
use Rattle.effect_model.specs.Acts.{without_node, end_standing, end_of, do_cleanup, undo, undo_all, take_back, dispose_live, dispose_thing}
use Rattle.effect_model.specs.Batches.{Batch, abort, give_back, is_other, replaced_by, set_quietly, with_replacing}
use Rattle.effect_laws.specs.Rolls.{bit, times_in, computed_names, Roll, roll_of, alive, times, ends_in}
use Rattle.effect_laws.proofs.Ledgers.{Ledger, AllAlive, IsPlain, ArePlain, plain_told, plain_all, cleaned_told, gone_told, taken_back, disposed}
use Rattle.effect_laws.proofs.Names.{names_changed, names_map, count_without, found_counted, lives_alive, gone_uncounted}

-- the ledger of a world, with what is still to be undone
abbrev pub Tidy : World → List Undoing → Type 0
Tidy w us = Ledger (roll_of w) w.owned w.made w.told us

pub same_roll : (w w' : World) (us : List Undoing) → roll_of w' ≡ roll_of w → Tidy w us → Ledger (roll_of w') w.owned w.made w.told us
same_roll w w' us e t = subst (λ r. Ledger r w.owned w.made w.told us) (sym e) t

pub tell_tidy : (w : World) (us : List Undoing) (e : Event) → IsPlain (roll_of w) e → Tidy w us → Tidy (tell e w) us
tell_tidy w us e h t = plain_told (roll_of w) w.owned w.made w.told us e t h

pub tell_all_tidy : (w : World) (us : List Undoing) (es : List Event) → ArePlain (roll_of w) es → Tidy w us → Tidy (tell_all es w) us
tell_all_tidy w us es h t = plain_all (roll_of w) w.owned w.made w.told us es t h

plain_append : (r : Roll) (es fs : List Event) → ArePlain r es → ArePlain r fs → ArePlain r (es ++ fs)
plain_append r [] fs h k = k
plain_append r (e ∷ es) fs h k = (h.0, plain_append r es fs h.1 k)

-- ---- settling

runs_plain : (hosts : Hosts) (w : World) (rs : List Run) → AllByRecursion (IsScratchRun hosts w.signals) rs →
    ArePlain (roll_of w) (map ran (moments w.signals rs))
runs_plain hosts w [] h = tt
runs_plain hosts w (r ∷ rs) h = (
  (
    let a : 1 ≤ times_in r.name (computed_names w.signals) =
        found_counted (λ (c : Computed). c.name) r.name w.signals.computeds h.0.computed (stands-computed w.signals r.name h.0.computed h.0.stands) in omega arith,
    tt,
  ),
  runs_plain hosts w rs h.1,
)

pub settle_tidy : (env : Environment) (asked : List ℕ) (w : World) (us : List Undoing) → Tidy w us → Tidy (settle env asked w) us
settle_tidy env asked w us t =
    let rs : List Run = (settled env.hosts w.signals w.memos asked).runs in
    plain_all (roll_of w) w.owned w.made w.told us (map ran (moments w.signals rs)) t
    (runs_plain env.hosts w rs (scratch_runs_law env.hosts w.signals w.memos asked))

-- ---- notifications

-- these watchers live
abbrev AllIn : List ℕ → List Watcher → Type 0
AllIn ns [] = Unit {0}
AllIn ns (x ∷ xs) = (1 ≤ times_in x.number ns) × AllIn ns xs

in_more : (n : ℕ) (ns : List ℕ) (xs : List Watcher) → AllIn ns xs → AllIn (n ∷ ns) xs
in_more n ns [] h = tt
in_more n ns (x ∷ xs) h = (let a : 1 ≤ times_in x.number ns = h.0 in omega arith, in_more n ns xs h.1)

in_self : (xs : List Watcher) → AllIn (map (λ (x : Watcher). x.number) xs) xs
in_self [] = tt
in_self (x ∷ xs) = (
  let a : bit (x.number == x.number) ≡ 1 = ap bit (eq-eqb x.number x.number refl) in
      omega arith,
  in_more x.number (map (λ (x : Watcher). x.number) xs) xs (in_self xs),
)

in_filter : (ns : List ℕ) (f : Watcher → Bool) (xs : List Watcher) → AllIn ns xs → AllIn ns (filter f xs)
in_filter ns f [] h = tt
in_filter ns f (x ∷ xs) h = go (f x) (in_filter ns f xs h.1)
  where
    go : (b : Bool) → AllIn ns (filter f xs) → AllIn ns (cond b (x ∷ filter f xs) (filter f xs))
    go true k = (h.0, k)
    go false k = k

told_plain : (r : Roll) (xs : List Watcher) → AllIn r.watchers xs → ArePlain r (told_of xs)
told_plain r [] h = tt
told_plain r (x ∷ xs) h = ((h.0, tt), told_plain r xs h.1)

all_watchers : (r : Roll) (xs : List Watcher) → AllIn r.watchers xs → AllAlive r (map the_watcher (map (λ (x : Watcher). x.number) xs))
all_watchers r [] h = tt
all_watchers r (x ∷ xs) h = (h.0, all_watchers r xs h.1)

frozen_plain : (r : Roll) (ns : List ℕ) → AllAlive r (map the_watcher ns) → ArePlain r (told_frozen ns)
frozen_plain r [] h = tt
frozen_plain r (n ∷ ns) h = (h, tt)

waiting_number : (f : Watcher → Bool) (x : Watcher) → (waiting_if f x).number ≡ x.number
waiting_number f x = go (f x)
  where
    go : (b : Bool) → (cond b (record x { watching = false }) x).number ≡ x.number
    go true = refl
    go false = refl

pub notify_tidy : (ns : List ℕ) (w : World) (us : List Undoing) → Tidy w us → Tidy (notify_of_all ns w) us
notify_tidy ns w us t =
    let xs : List Watcher = notified_by_any w.signals w.memos ns w.watchers in
    let f : Watcher → Bool = is_notified_by_any w.signals w.memos ns in
    let w' : World = record w { watchers = map (waiting_if f) w.watchers } in
    let e : roll_of w' ≡ roll_of w =
    (λ i. record (roll_of w) { watchers = names_map (λ (x : Watcher). x.number) (waiting_if f) (waiting_number f) w.watchers i }) in
    let all : AllIn (roll_of w).watchers xs = in_filter (roll_of w).watchers f w.watchers (in_self w.watchers) in
    same_roll (tell_all (told_of xs ++ told_frozen (frozen_by xs)) w) w' us e
    (tell_all_tidy w us (told_of xs ++ told_frozen (frozen_by xs))
    (plain_append (roll_of w) (told_of xs) (told_frozen (frozen_by xs)) (told_plain (roll_of w) xs all)
    (frozen_plain (roll_of w) (frozen_by xs)
    (all_watchers (roll_of w) (filter (λ (x : Watcher). x.tries) xs) (in_filter (roll_of w).watchers (λ (x : Watcher). x.tries) xs all)))) t)

-- ---- acts on signals

-- a change of what stands is told
changed_tidy : (n : ℕ) (how : How) (w : World) (us : List Undoing) → lives (the_signal n) w ≡ true → Tidy w us → Tidy (tell (changed_signal n how) w) us
changed_tidy n how w us there t = tell_tidy w us (changed_signal n how) (lives_alive (the_signal n) w there, tt) t

quiet_tidy : (n : ℕ) (v : Value) (w : World) (us : List Undoing) → lives (the_signal n) w ≡ true → Tidy w us → Tidy (with_quiet_value n v w) us
quiet_tidy n v w us there t =
    let w' : World = tell (changed_signal n Set) w in
    let e : roll_of (with_quiet_value n v w) ≡ roll_of w' =
    (λ i. record (roll_of w) { cells = names_changed (λ (c : Cell). c.name) n (λ c. record c { value = v }) (λ c. refl) w.signals.cells i }) in
    same_roll w' (with_quiet_value n v w) us e (changed_tidy n Set w us there t)

value_tidy : (n : ℕ) (v : Value) (w : World) (us : List Undoing) → lives (the_signal n) w ≡ true → Tidy w us → Tidy (with_new_value n v w) us
value_tidy n v w us there t = notify_tidy (n ∷ []) (with_quiet_value n v w) us (quiet_tidy n v w us there t)

set_case : (s : Stands) (env : Environment) (n : ℕ) (v : Value) (w : World) (us : List Undoing) → standing w.signals n ≡ s → Tidy w us →
    Tidy (set_standing s env n v w) us
set_case IsGone env n v w us e t = tell_tidy w us (refused (thing_gone (the_signal n))) tt t
set_case (IsCell c) env n v w us e t = go (are_alike env.slacks c.rule c.value v)
  where
    go : (b : Bool) → Tidy (cond b w (with_new_value n v w)) us
    go true = t
    go false = value_tidy n v w us (ap is_there e) t
set_case (IsComputed c) env n v w us e t = t

pub set_tidy : (env : Environment) (n : ℕ) (v : Value) (w : World) (us : List Undoing) → Tidy w us → Tidy (set_cell env n v w) us
set_tidy env n v w us t = set_case (standing w.signals n) env n v w us refl t

pub set_quietly_tidy : (env : Environment) (n : ℕ) (v : Value) (w : World) (us : List Undoing) → Tidy w us → Tidy (set_quietly env n v w) us
set_quietly_tidy env n v w us t = go (standing w.signals n) refl
  where
    by : (c : Cell) → standing w.signals n ≡ IsCell c → (b : Bool) → Tidy (with_replacing n v (cond b None (Some c.value)) w) us
    by c e true = t
    by c e false = quiet_tidy n v w us (ap is_there e) t

    go : (s : Stands) → standing w.signals n ≡ s → Tidy (with_replacing n v (replaced_by env.slacks s v) w) us
    go IsGone e = t
    go (IsCell c) e = by c e (are_alike env.slacks c.rule c.value v)
    go (IsComputed c) e = t

give_back_tidy : (n : ℕ) (v : Value) (w : World) (us : List Undoing) → Tidy w us → Tidy (give_back n v w) us
give_back_tidy n v w us t = go (standing w.signals n) refl
  where
    by : (c : Cell) → standing w.signals n ≡ IsCell c → (b : Bool) → Tidy (cond b (with_quiet_value n v w) w) us
    by c e true = quiet_tidy n v w us (ap is_there e) t
    by c e false = t

    go : (s : Stands) → standing w.signals n ≡ s → Tidy (cond (is_other v s) (with_quiet_value n v w) w) us
    go IsGone e = t
    go (IsCell c) e = by c e (is_other v (IsCell c))
    go (IsComputed c) e = t

pub abort_tidy : (b : Batch) (w : World) (us : List Undoing) → Tidy w us → Tidy (abort b w) us
abort_tidy [] w us t = t
abort_tidy (p ∷ b) w us t = abort_tidy b (give_back p.0 p.1 w) us (give_back_tidy p.0 p.1 w us t)

pub drop_tidy : (place : Option ℕ) (w : World) (us : List Undoing) → Tidy w us → Tidy (with_drop place w) us
drop_tidy None w us t = t
drop_tidy (Some k) w us t = plain_told (roll_of w) w.owned w.made w.told us _ t tt

pub use_tidy : (place : Option ℕ) (w : World) (us : List Undoing) → Tidy w us → Tidy (with_use place w) us
use_tidy None w us t = t
use_tidy (Some k) w us t = t

rewire_tidy : (s : Stands) (n : ℕ) (r : Recipe) (w : World) (us : List Undoing) → standing w.signals n ≡ s → Tidy w us →
    Tidy (rewire_standing s n r w) us
rewire_tidy IsGone n r w us e t = t
rewire_tidy (IsCell c) n r w us e t = t
rewire_tidy (IsComputed c) n r w us e t =
    let w' : World = tell (changed_signal n Rewire) w in
    let v : World = record w' { signals = with_recipe w.signals n r; memos = after_rewiring w.memos n } in
    let same : roll_of v ≡ roll_of w' =
    (λ i. record (roll_of w) {
      computeds =
          names_changed (λ (c : Computed). c.name) n (λ c. record c { recipe = r }) (λ c. refl) w.signals.computeds i;
    }) in
    drop_tidy (host_of c.recipe.expression) (with_use (host_of r.expression) v) us
    (use_tidy (host_of r.expression) v us (same_roll w' v us same (changed_tidy n Rewire w us (ap is_there e) t)))

pub unless_tidy : (why : Option Refused) (done w : World) (us : List Undoing) → Tidy done us → Tidy w us → Tidy (or_refused why done w) us
unless_tidy None done w us d t = d
unless_tidy (Some why) done w us d t = tell_tidy w us (refused why) tt t

pub rewire_signal_tidy : (n : ℕ) (r : Recipe) (w : World) (us : List Undoing) → Tidy w us → Tidy (rewire_signal n r w) us
rewire_signal_tidy n r w us t =
    unless_tidy (rewiring_refused n r w) (rewire_standing (standing w.signals n) n r w) w us (rewire_tidy (standing w.signals n) n r w us refl t) t

-- ---- ends

map_self : (xs : List ℕ) → map (λ (m : ℕ). m) xs ≡ xs
map_self [] = refl
map_self (x ∷ xs) = ap (λ ys. x ∷ ys) (map_self xs)

number_without : (n : ℕ) (xs : List ℕ) (m : ℕ) → times_in m (without (λ (m : ℕ). m) n xs) ≡ cond (m == n) 0 (times_in m xs)
number_without n xs m =
    ap (times_in m) (sym (map_self (without (λ (m : ℕ). m) n xs)))
    ∙ (count_without (λ (m : ℕ). m) n xs m ∙ ap (λ ys. cond (m == n) 0 (times_in m ys)) (map_self xs))

-- the numbers after a thing went out
node_roll : (n : ℕ) (w : World) (s : Thing) → alive s (roll_of (without_node n w)) ≡ cond (same_thing s (the_signal n)) 0 (alive s (roll_of w))
node_roll n w (the_signal m) =
    both _ _ (times_in m (roll_of w).cells) (times_in m (roll_of w).computeds) (m == n) (count_without (λ (c : Cell). c.name) n w.signals.cells m)
    (count_without (λ (c : Computed). c.name) n w.signals.computeds m)
  where
    both : (a b c d : ℕ) (e : Bool) → a ≡ cond e 0 c → b ≡ cond e 0 d → a + b ≡ cond e 0 (c + d)
    both a b c d true h k = omega arith
    both a b c d false h k = omega arith
node_roll n w (the_watcher m) = ap (times_in m) (names_map (λ (x : Watcher). x.number) (forget n) (λ x. refl) w.watchers)
node_roll n w _ = refl

owner_roll : (n : ℕ) (w : World) (s : Thing) → alive s (roll_of (end_of (the_owner n) w)) ≡ cond (same_thing s (the_owner n)) 0 (alive s (roll_of w))
owner_roll n w (the_owner m) = number_without n w.owners m
owner_roll n w _ = refl

effect_roll : (n : ℕ) (w : World) (s : Thing) →
    alive s (roll_of (end_of (the_effect n) w)) ≡ cond (same_thing s (the_effect n)) 0 (alive s (roll_of w))
effect_roll n w (the_effect m) = count_without (λ (x : Effect). x.number) n w.effects m
effect_roll n w _ = refl

page_roll : (n : ℕ) (w : World) (s : Thing) → alive s (roll_of (end_of (the_page n) w)) ≡ cond (same_thing s (the_page n)) 0 (alive s (roll_of w))
page_roll n w (the_page m) = number_without n w.pages m
page_roll n w _ = refl

watcher_roll : (n : ℕ) (w : World) (s : Thing) →
    alive s (roll_of (end_of (the_watcher n) w)) ≡ cond (same_thing s (the_watcher n)) 0 (alive s (roll_of w))
watcher_roll n w (the_watcher m) = count_without (λ (x : Watcher). x.number) n w.watchers m
watcher_roll n w _ = refl

-- a drop leaves what stands
drop_there : (place : Option ℕ) (w : World) (n : ℕ) → lives (the_signal n) w ≡ true → lives (the_signal n) (with_drop place w) ≡ true
drop_there None w n h = h
drop_there (Some k) w n h = h

pub end_tidy : (t : Thing) (w : World) (us : List Undoing) → Tidy w (ends t ∷ us) → Tidy (tell (gone t) (end_of t w)) us
end_tidy (the_signal n) w us t = go (standing w.signals n) refl
  where
    go : (s : Stands) → standing w.signals n ≡ s → Tidy (tell (gone (the_signal n)) (end_standing s n w)) us
    go IsGone e =
        let a : times (the_signal n) w.owned + (bit (n == n) + ends_in (the_signal n) us) ≤ alive (the_signal n) (roll_of w) =
        t.held (the_signal n) in
        let b : bit (n == n) ≡ 1 = ap bit (eq-eqb n n refl) in
        let c : alive (the_signal n) (roll_of w) ≡ 0 = gone_uncounted n w.signals e in
        absurd (omega arith)
    go (IsCell c) e =
        gone_told (roll_of w) (roll_of (without_node n w)) w.owned w.made (w.told ++ changed_signal n Gone ∷ []) us (the_signal n) (node_roll n w)
        (changed_tidy n Gone w (ends (the_signal n) ∷ us) (ap is_there e) t)
    go (IsComputed c) e =
        let w' : World = with_drop (host_of c.recipe.expression) w in
        gone_told (roll_of w') (roll_of (without_node n w')) w'.owned w'.made (w'.told ++ changed_signal n Gone ∷ []) us (the_signal n) (node_roll n w')
        (changed_tidy n Gone w' (ends (the_signal n) ∷ us) (drop_there (host_of c.recipe.expression) w n (ap is_there e))
        (drop_tidy (host_of c.recipe.expression) w (ends (the_signal n) ∷ us) t))
end_tidy (the_owner n) w us t = gone_told (roll_of w) (roll_of (end_of (the_owner n) w)) w.owned w.made w.told us (the_owner n) (owner_roll n w) t
end_tidy (the_effect n) w us t = gone_told (roll_of w) (roll_of (end_of (the_effect n) w)) w.owned w.made w.told us (the_effect n) (effect_roll n w) t
end_tidy (the_page n) w us t = gone_told (roll_of w) (roll_of (end_of (the_page n) w)) w.owned w.made w.told us (the_page n) (page_roll n w) t
end_tidy (the_watcher n) w us t =
    gone_told (roll_of w) (roll_of (end_of (the_watcher n) w)) w.owned w.made w.told us (the_watcher n) (watcher_roll n w) t

cleanup_tidy : (env : Environment) (c : Cleanup) (w : World) (us : List Undoing) → Tidy w us → Tidy (do_cleanup env c w) us
cleanup_tidy env (sets n v) w us t = set_tidy env n v w us t
cleanup_tidy env (logs v) w us t = tell_tidy w us (logged v) tt t

pub undo_tidy : (env : Environment) (u : Undoing) (w : World) (us : List Undoing) → Tidy w (u ∷ us) → Tidy (undo env u w) us
undo_tidy env (cleans h c) w us t = cleanup_tidy env c (tell (cleaned h c) w) us (cleaned_told (roll_of w) w.owned w.made w.told us h c t)
undo_tidy env (ends h) w us t = end_tidy h w us t

-- a whole teardown
pub undo_all_tidy : (env : Environment) (us : List Undoing) (w : World) → Tidy w us → Tidy (undo_all env us w) []
undo_all_tidy env [] w t = t
undo_all_tidy env (u ∷ us) w t = undo_all_tidy env us (undo env u w) (undo_tidy env u w us t)

pub dispose_tidy : (env : Environment) (h : Thing) (w : World) → Tidy w [] → Tidy (dispose_thing env h w) []
dispose_tidy env h w t = go (lives h w) refl
  where
    go : (b : Bool) → lives h w ≡ b → Tidy (cond b (dispose_live env h w) (tell (refused (thing_gone h)) w)) []
    go true e = undo_all_tidy env (disposal_of h w.owned) (record w { owned = taken_out h w.owned })
        (disposed (roll_of w) w.owned w.made w.told h (lives_alive h w e) t)
    go false e = tell_tidy w [] (refused (thing_gone h)) tt t

pub take_back_tidy : (env : Environment) (h : Thing) (w : World) → 1 ≤ times h w.owned → Tidy w [] → Tidy (take_back env h w) []
take_back_tidy env h w there t =
    undo_all_tidy env (teardown_of h (under h w.owned)) (record w { owned = emptied h w.owned })
    (taken_back (roll_of w) w.owned w.made w.told h there t)

-- ---- what is owned stays through a teardown

set_owned : (s : Stands) (env : Environment) (n : ℕ) (v : Value) (w : World) → (set_standing s env n v w).owned ≡ w.owned
set_owned IsGone env n v w = refl
set_owned (IsCell c) env n v w = go (are_alike env.slacks c.rule c.value v)
  where
    go : (b : Bool) → (cond b w (with_new_value n v w)).owned ≡ w.owned
    go true = refl
    go false = refl
set_owned (IsComputed c) env n v w = refl

end_owned : (t : Thing) (w : World) → (end_of t w).owned ≡ w.owned
end_owned (the_signal n) w = go (standing w.signals n)
  where
    dropped : (p : Option ℕ) → (with_drop p w).owned ≡ w.owned
    dropped None = refl
    dropped (Some k) = refl

    go : (s : Stands) → (end_standing s n w).owned ≡ w.owned
    go IsGone = refl
    go (IsCell c) = refl
    go (IsComputed c) = dropped (host_of c.recipe.expression)
end_owned _ w = refl

undo_owned : (env : Environment) (u : Undoing) (w : World) → (undo env u w).owned ≡ w.owned
undo_owned env (cleans h (sets n v)) w = set_owned (standing w.signals n) env n v (tell (cleaned h (sets n v)) w)
undo_owned env (cleans h (logs v)) w = refl
undo_owned env (ends h) w = end_owned h w

pub undo_all_owned : (env : Environment) (us : List Undoing) (w : World) → (undo_all env us w).owned ≡ w.owned
undo_all_owned env [] w = refl
undo_all_owned env (u ∷ us) w = undo_all_owned env us (undo env u w) ∙ undo_owned env u w
