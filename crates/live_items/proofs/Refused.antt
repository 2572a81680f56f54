-- Why a command is refused, and that it is done where it isn't.
use Rattle.std.proofs.Common.{◌≡◌, ℕ, arith, Bool, false, cond, List, [], ◌∷◌, Result, Ok, Err, IfOk, OnOk, Option, Some, None, is_some, refl, sym, ap, subst, ◌∙◌}
use Rattle.std.specs.Option.{option_or, option_map_or}
use Rattle.std.specs.Str.{bytes_eq}
use Rattle.signal_model.specs.Recipes.{Hosts}
use Rattle.effect_model.specs.Batches.{Batch}
use Rattle.effect_model.specs.Worlds.{Environment}
use Rattle.effect_world.specs.declared.world.World.{World}
use Rattle.effect_world.specs.Stores.{IsSound}
use Rattle.effect_world.specs.Wholes.{whole_of}
use Rattle.sig_host.specs.Hosts.{HostPlace}
use Rattle.sig_base.specs.declared.scalar.Scalar.{Scalar}
use Rattle.sig_effect.specs.Stores.{environment}
use Rattle.live_cmd.specs.declared.command.Bare.TheVariants as bares
use Rattle.live_cmd.specs.declared.command.Command.{Command}
use Rattle.live_cmd.specs.declared.command.Command.TheVariants as command
use Rattle.live_cmd.specs.declared.command.Item.TheVariants as item
use Rattle.live_cmd.specs.declared.command.Verb.TheVariants as verb
use Rattle.live_entries.specs.declared.entry.Entry.{Entry}
use Rattle.live_entries.specs.declared.entry.Entry.TheVariants as entry
use Rattle.live_entries.specs.declared.refusal.Refusal.{Refusal}
use Rattle.live_entries.specs.declared.refusal.Refusal.TheVariants as refusal
use Rattle.live_model.specs.declared.names.Kind.{Kind}
use Rattle.live_model.specs.declared.names.Kind.TheVariants as kind
use Rattle.live_model.specs.declared.names.Meaning.{Meaning}
use Rattle.live_model.specs.declared.names.Need.{Need}
use Rattle.live_model.specs.declared.names.Need.TheVariants as need
use Rattle.live_model.specs.Names.{Names, Use, first_refusal, first_within, is_gone, meaning_of, meets, misuse, refusal_at}
use Rattle.live_model.specs.Uses.{uses_of, uses_of_body}
use Rattle.live_model.specs.Machine as plain
use Rattle.live_model.specs.Machine.{batch_refusal, body_refusal, done, later_refusal, name_refusal, over_limit, place_refusal, refusal_of, refused, row_refusal, step, unwatch_refusal}
use Rattle.live_core.specs.declared.machine.Machine.{Machine}
use Rattle.live_core.specs.Consistency.{AreFine, IsReady, Leaves, Steps}
use Rattle.live_core.specs.Doing.{Did, DidFor}
use Rattle.live_core.specs.Views.{batch_of, plain_of}
use Rattle.live_core.proofs.Shared.{did_all, neither, none_there}

-- an answer with none behind it
pub alone : {A : Type 0} (o : Option A) → o ≡ option_or (option_or o None) None
alone None = refl
alone (Some a) = refl

-- the first of two answers
pub first_of : {A : Type 0} (a b : Option A) (r : A) → Some r ≡ a → Some r ≡ option_or a b
first_of a b r is = ap (λ o. option_or o b) is

-- and the second, where the first doesn't answer
pub last_of : {A : Type 0} (a b r : Option A) → a ≡ None → r ≡ b → r ≡ option_or a b
last_of a b r none is = is ∙ sym (ap (λ o. option_or o b) none)

-- the second of three answers, where the first doesn't answer
pub second_of : {A : Type 0} (a b d : Option A) (r : A) → a ≡ None → Some r ≡ b → Some r ≡ option_or a (option_or b d)
second_of a b d r none is = sym (ap (λ o. option_or o (option_or b d)) none ∙ ap (λ o. option_or o d) (sym is))

-- and the third, where neither does
pub third_of : {A : Type 0} (a b d r : Option A) → a ≡ None → b ≡ None → r ≡ d → r ≡ option_or a (option_or b d)
third_of a b d r none nor is = is ∙ sym (ap (λ o. option_or o (option_or b d)) none ∙ ap (λ o. option_or o d) nor)

-- so it is with four
pub third_of_four : {A : Type 0} (a b d f : Option A) (r : A) → a ≡ None → b ≡ None → Some r ≡ d → Some r ≡ option_or a (option_or b (option_or d f))
third_of_four a b d f r none nor is = first_of d f r is ∙ sym (ap (λ o. option_or o (option_or b (option_or d f))) none ∙ ap (λ o. option_or o (option_or d f)) nor)

pub fourth_of : {A : Type 0} (a b d f r : Option A) → a ≡ None → b ≡ None → d ≡ None → r ≡ f → r ≡ option_or a (option_or b (option_or d f))
fourth_of a b d f r none nor neither_is is = third_of a b (option_or d f) r none nor (last_of d f r neither_is is)

-- ---- whatever is known of the places of host formulas, the same names are refused

gone_here : (asked : List HostPlace) (w : World) (k : Kind) (n : ℕ) → is_gone (whole_of asked w) k n ≡ is_gone (whole_of [] w) k n
gone_here asked w kind.Cell n = refl
gone_here asked w kind.List n = refl
gone_here asked w kind.Computed n = refl
gone_here asked w kind.Owner n = refl
gone_here asked w kind.Effect n = refl
gone_here asked w kind.Watcher n = refl
gone_here asked w kind.Template n = refl
gone_here asked w kind.Page n = refl

misused_here : (asked : List HostPlace) (w : World) (n : List ℕ) (needed : Need) (m : Meaning) → misuse (whole_of asked w) (n, needed) m ≡ misuse (whole_of [] w) (n, needed) m
misused_here asked w n needed m =
    ap (λ (b : Bool). cond b (Some (refusal.Gone n)) (cond (meets needed m.kind) None (Some (refusal.Kind n)))) (gone_here asked w m.kind m.number)

at_here : (asked : List HostPlace) (w : World) (n : List ℕ) (needed : Need) (o : Option Meaning) → refusal_at (whole_of asked w) (n, needed) o ≡ refusal_at (whole_of [] w) (n, needed) o
at_here asked w n need.New None = refl
at_here asked w n need.New (Some m) = refl
at_here asked w n (need.Of k) None = refl
at_here asked w n (need.Of k) (Some m) = misused_here asked w n (need.Of k) m
at_here asked w n need.Signal None = refl
at_here asked w n need.Signal (Some m) = misused_here asked w n need.Signal m
at_here asked w n need.Thing None = refl
at_here asked w n need.Thing (Some m) = misused_here asked w n need.Thing m

all_here : (asked : List HostPlace) (w : World) (names : Names) (us : List Use) → first_refusal (whole_of asked w) names us ≡ first_refusal (whole_of [] w) names us
all_here asked w names [] = refl
all_here asked w names ((n, needed) ∷ us) =
    (λ i. option_or (at_here asked w n needed (meaning_of names n) i) (all_here asked w names us i))

within_here : (asked : List HostPlace) (w : World) (names : Names) (own : List ℕ) (us : List Use) →
    first_within (whole_of asked w) names own us ≡ first_within (whole_of [] w) names own us
within_here asked w names own [] = refl
within_here asked w names own ((n, needed) ∷ us) =
    (λ i. option_or (cond (bytes_eq own n) (cond (meets needed kind.Effect) None (Some (refusal.Kind n))) (at_here asked w n needed (meaning_of names n) i))
    (within_here asked w names own us i))

body_here : (asked : List HostPlace) (m : Machine) (c : Command) → body_refusal (plain_of asked m) c ≡ body_refusal (plain_of [] m) c
body_here asked m (command.Effect n b inside) = within_here asked m.world m.names n (uses_of_body b)
body_here asked m _ = refl

-- no name is refused
pub fine_here : (asked : List HostPlace) (m : Machine) (c : Command) → name_refusal (plain_of asked m) c ≡ None → AreFine m c
fine_here asked m c e = sym (λ i. option_or (all_here asked m.world m.names (uses_of c) i) (body_here asked m c i)) ∙ e

-- what isn't refused is so by the batch
pub unrefused_batch : (slacks : List ℕ) (m : plain.Machine) (c : Command) → refusal_of slacks m c ≡ None → batch_refusal m.batch c ≡ None
unrefused_batch slacks m c none = (neither (batch_refusal m.batch c) (option_or (name_refusal m c) (later_refusal slacks m c)) none).0

-- nor behind that
unrefused_behind : (slacks : List ℕ) (m : plain.Machine) (c : Command) → refusal_of slacks m c ≡ None → option_or (name_refusal m c) (later_refusal slacks m c) ≡ None
unrefused_behind slacks m c none = (neither (batch_refusal m.batch c) (option_or (name_refusal m c) (later_refusal slacks m c)) none).1

-- it has no name that is
pub unrefused_names : (slacks : List ℕ) (m : plain.Machine) (c : Command) → refusal_of slacks m c ≡ None → name_refusal m c ≡ None
unrefused_names slacks m c none = (neither (name_refusal m c) (later_refusal slacks m c) (unrefused_behind slacks m c none)).0

-- nor is it behind them
unrefused_later : (slacks : List ℕ) (m : plain.Machine) (c : Command) → refusal_of slacks m c ≡ None → later_refusal slacks m c ≡ None
unrefused_later slacks m c none = (neither (name_refusal m c) (later_refusal slacks m c) (unrefused_behind slacks m c none)).1

-- what it names is found, and rows and the journal allow it
pub unrefused_rows : (slacks : List ℕ) (m : plain.Machine) (c : Command) → refusal_of slacks m c ≡ None → row_refusal m c ≡ None
unrefused_rows slacks m c none =
    let behind = neither (place_refusal slacks m.world c) (option_or (row_refusal m c) (option_or (over_limit m c) (unwatch_refusal m c))) (unrefused_later slacks m c none) in
    (neither (row_refusal m c) (option_or (over_limit m c) (unwatch_refusal m c)) behind.1).0

-- there is room for it, and what it unwatches is watched
pub unrefused_last : (slacks : List ℕ) (m : plain.Machine) (c : Command) → refusal_of slacks m c ≡ None → (over_limit m c ≡ None) × (unwatch_refusal m c ≡ None)
unrefused_last slacks m c none =
    let behind = neither (place_refusal slacks m.world c) (option_or (row_refusal m c) (option_or (over_limit m c) (unwatch_refusal m c))) (unrefused_later slacks m c none) in
    neither (over_limit m c) (unwatch_refusal m c) (neither (row_refusal m c) (option_or (over_limit m c) (unwatch_refusal m c)) behind.1).1

-- what isn't refused is done
pub done_so : (hosts : Hosts) (later : List HostPlace) (new : Machine) (entries : List Entry) (env : Environment) (m : plain.Machine) (c : Command) →
    refusal_of env.slacks m c ≡ None → Steps hosts later new entries (done env m c) → Steps hosts later new entries (step env m (item.Do c))
done_so hosts later new entries env m c none s =
    subst (λ (o : Option Refusal). Steps hosts later new entries (option_map_or (refused m) o (done env m c))) (sym none) s

-- whatever the hosts
pub did_so : (asked later : List HostPlace) (count : ℕ) (old new : Machine) (before after : Hosts → Type 0) (counted : Type 0) (asks : ℕ) (entries : List Entry)
    (slacks : List ℕ) (m : plain.Machine) (c : Command) → refusal_of slacks m c ≡ None →
    Did asked later count old new before after counted asks entries (λ hosts. done (environment hosts slacks) m c) →
    Did asked later count old new before after counted asks entries (λ hosts. step (environment hosts slacks) m (item.Do c))
did_so asked later count old new before after counted asks entries slacks m c none d = record {
  steps = λ hosts all sound. done_so hosts later new entries (environment hosts slacks) m c none (d.steps hosts all sound);
  leaves = d.leaves;
  answers = d.answers;
  counted = d.counted;
  most = d.most;
}

-- so it is where some of what is told may be left out
pub did_so_for : (traced : Bool) (asked later : List HostPlace) (count : ℕ) (old new : Machine) (before after : Hosts → Type 0) (counted : Type 0) (asks : ℕ) (entries : List Entry)
    (slacks : List ℕ) (m : plain.Machine) (c : Command) → refusal_of slacks m c ≡ None →
    DidFor traced asked later count old new before after counted asks entries (λ hosts. done (environment hosts slacks) m c) →
    DidFor traced asked later count old new before after counted asks entries (λ hosts. step (environment hosts slacks) m (item.Do c))
did_so_for traced asked later count old new before after counted asks entries slacks m c none d = record {
  all = d.all;
  told = d.told;
  did = did_so asked later count old new before after counted asks d.all slacks m c none d.did;
}

-- what is refused tells that, and all stays as it was
pub refused_told : (traced : Bool) (asked : List HostPlace) (count : ℕ) (m : Machine) (before : Hosts → Type 0) (counted : Type 0) (asks : ℕ) (next : Hosts → plain.Told)
    (why : Refusal) → counted → IsReady m → ((hosts : Hosts) → plain.reached (plain_of asked m) (entry.Error why ∷ []) ≡ next hosts) →
    DidFor traced asked asked count m m before before counted asks (entry.Error why ∷ []) next
refused_told traced asked count m before counted asks next why counts ready is =
    did_all traced asked asked count m m before before counted asks (entry.Error why ∷ []) next (record {
      steps = λ hosts a sound. record { step = is hosts; sound = sound };
      leaves = λ hosts a sound. record { ready = ready; holds = λ h. h; weight = omega arith };
      answers = λ hosts a. a;
      counted = counts;
      most = omega arith;
    })

-- so it is with a list of it
pub refused_for : {A E : Type 0} (traced : Bool) (r : Result A E) (items : A → List Entry) (asked : List HostPlace) (count : ℕ) (m : Machine) (before : Hosts → Type 0)
    (counted : Type 0) (asks : ℕ) (next : Hosts → plain.Told) (why : Refusal) → counted → IsReady m →
    ((hosts : Hosts) → plain.reached (plain_of asked m) (entry.Error why ∷ []) ≡ next hosts) → IfOk r (λ x. items x ≡ entry.Error why ∷ []) →
    IfOk r (λ x. DidFor traced asked asked count m m before before counted asks (items x) next)
refused_for traced (Ok x) items asked count m before counted asks next why counts ready is told =
    subst (λ (es : List Entry). DidFor traced asked asked count m m before before counted asks es next) (sym told)
    (refused_told traced asked count m before counted asks next why counts ready is)
refused_for traced (Err e) items asked count m before counted asks next why counts ready is told = tt

-- the step of a command that is refused
pub refused_step : (env : Environment) (m : plain.Machine) (c : Command) (why : Refusal) → Some why ≡ refusal_of env.slacks m c →
    plain.reached m (entry.Error why ∷ []) ≡ step env m (item.Do c)
refused_step env m c why is = ap (λ (o : Option Refusal). option_map_or (refused m) o (done env m c)) is

-- where nothing is left out, all is told
pub told_whole : (m : plain.Machine) (es all : List Entry) (next : plain.Told) → es ≡ all → plain.reached m all ≡ next → plain.reached m es ≡ next
told_whole m es all next same is = ap (λ (xs : List Entry). plain.reached m xs) same ∙ is

-- ---- what is refused for its name alone

-- an answer with none behind it, in three places
thrice : {A : Type 0} (o : Option A) → o ≡ option_or (option_or (option_or o None) None) None
thrice None = refl
thrice (Some x) = refl

-- a set and a get are done whether a batch is open or not
set_in_any : (b : Option Batch) (n : List ℕ) (v : Scalar) → batch_refusal b (command.Set n v) ≡ None
set_in_any None n v = refl
set_in_any (Some b) n v = refl

get_in_any : (b : Option Batch) (n : List ℕ) → batch_refusal b (command.Named verb.Get n) ≡ None
get_in_any None n = refl
get_in_any (Some b) n = refl

-- so only their names may be a reason to refuse them
pub set_refused : (slacks : List ℕ) (m : plain.Machine) (n : List ℕ) (v : Scalar) →
    refusal_at m.world (n, need.Of kind.Cell) (meaning_of m.names n) ≡ refusal_of slacks m (command.Set n v)
set_refused slacks m n v =
    last_of (batch_refusal m.batch (command.Set n v)) (option_or (name_refusal m (command.Set n v)) (later_refusal slacks m (command.Set n v)))
    (refusal_at m.world (n, need.Of kind.Cell) (meaning_of m.names n)) (set_in_any m.batch n v)
    (thrice (refusal_at m.world (n, need.Of kind.Cell) (meaning_of m.names n)))

pub get_refused : (slacks : List ℕ) (m : plain.Machine) (n : List ℕ) →
    refusal_at m.world (n, need.Signal) (meaning_of m.names n) ≡ refusal_of slacks m (command.Named verb.Get n)
get_refused slacks m n =
    last_of (batch_refusal m.batch (command.Named verb.Get n)) (option_or (name_refusal m (command.Named verb.Get n)) (later_refusal slacks m (command.Named verb.Get n)))
    (refusal_at m.world (n, need.Signal) (meaning_of m.names n)) (get_in_any m.batch n)
    (thrice (refusal_at m.world (n, need.Signal) (meaning_of m.names n)))

-- where no batch is open, a flush isn't refused
pub flush_alone : (slacks : List ℕ) (asked : List HostPlace) (m : Machine) → is_some m.batch ≡ false → refusal_of slacks (plain_of asked m) (command.Bare bares.Flush) ≡ None
flush_alone slacks asked m none =
    ap (λ (b : Option Batch). option_or (batch_refusal b (command.Bare bares.Flush)) None) (ap batch_of (none_there m.batch none))

-- what is refused tells that, by whatever hosts
pub refused_steps : {A E : Type 0} (r : Result A E) (items : A → List Entry) (hosts : Hosts) (asked : List HostPlace) (m : Machine) (next : plain.Told) (why : Refusal) →
    IsSound hosts asked m.world → plain.reached (plain_of asked m) (entry.Error why ∷ []) ≡ next → IfOk r (λ x. items x ≡ entry.Error why ∷ []) →
    IfOk r (λ x. Steps hosts asked m (items x) next)
refused_steps (Ok x) items hosts asked m next why sound is told =
    record { step = ap (λ (es : List Entry). plain.reached (plain_of asked m) es) told ∙ is; sound = sound }
refused_steps (Err e) items hosts asked m next why sound is told = tt

-- and leaves all as it was
pub refused_leaves : {A E : Type 0} (r : Result A E) (asked : List HostPlace) (count : ℕ) (m : Machine) → IsReady m → OnOk r (Leaves asked asked count m m)
refused_leaves (Ok x) asked count m ready = record { ready = ready; holds = λ h. h; weight = omega arith }
refused_leaves (Err e) asked count m ready = tt
