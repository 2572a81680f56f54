-- What the names of a command are, where none is refused.
use Rattle.std.proofs.Common.{◌≡◌, ◌<◌, ℕ, not, Bool, true, false, cond, List, [], ◌∷◌, ◌++◌, map, Option, Some, None, is_some, refl, sym, ap, subst, ◌∙◌}
use Rattle.std.specs.Option.{option_or, option_map_or}
use Rattle.std.proofs.lemmas.Bool.{true≢false}
use Rattle.std.specs.List.{AllByRecursion}
use Rattle.signal_model.specs.Signals.{is_in, is_there, standing}
use Rattle.effect_model.specs.Worlds.{watcher_numbers}
use Rattle.effect_tables.specs.Owners.{living}
use Rattle.effect_tables.specs.Placed.{is_open}
use Rattle.sig_graph.specs.States.{Seen, are_there, is_given}
use Rattle.effect_world.specs.declared.world.World.{World}
use Rattle.effect_world.specs.Wholes.{whole_of}
use Rattle.live_entries.specs.declared.refusal.Refusal.{Refusal}
use Rattle.live_model.specs.declared.names.Kind.{Kind}
use Rattle.live_model.specs.declared.names.Kind.TheVariants as kind
use Rattle.live_model.specs.declared.names.Meaning.{Meaning}
use Rattle.live_model.specs.declared.names.Need.{Need}
use Rattle.live_model.specs.declared.names.Need.TheVariants as need
use Rattle.live_model.specs.Names.{Names, Use, first_refusal, is_gone, is_signal, meaning_of, meets, misuse, number_of, refusal_at, same_kind}
use Rattle.live_model.specs.Uses.{uses_of, uses_of_inside, uses_of_signals}
use Rattle.live_model.specs.Links.{owner_of}
use Rattle.live_cmd.specs.declared.command.Command.{Command}
use Rattle.live_model.specs.Machine.{body_refusal, name_refusal}
use Rattle.live_core.specs.declared.machine.Machine.{Machine}
use Rattle.live_core.specs.Consistency.{is_of_kind, AreFine, AreMeant, IsMeant}
use Rattle.live_core.specs.Views.{plain_of}

-- where neither answers
pub neither : {A : Type 0} (a b : Option A) → option_or a b ≡ None → (a ≡ None) × (b ≡ None)
neither None b e = (refl, e)
neither (Some x) b e = absurd cc

-- what isn't something is nothing
pub none_there : {A : Type 0} (o : Option A) → is_some o ≡ false → o ≡ None
none_there None e = refl
none_there (Some x) e = absurd (true≢false e)

-- a name that is used rightly
pub record IsUsed (w : World) (names : Names) (n : List ℕ) (needed : Need) : Type 0 where
  pub meaning : Meaning
  pub is : meaning_of names n ≡ Some meaning
  pub number : number_of names n ≡ meaning.number
  pub there : is_gone (whole_of [] w) meaning.kind meaning.number ≡ false
  pub meets : meets needed meaning.kind ≡ true

-- why a name is refused, over a world
abbrev pub refused_at : World → Names → List ℕ → Need → Option Refusal
refused_at w names n needed = refusal_at (whole_of [] w) (n, needed) (meaning_of names n)

-- a new name
pub new_name : (w : World) (names : Names) (n : List ℕ) → refused_at w names n need.New ≡ None → meaning_of names n ≡ None
new_name w names n e = go (meaning_of names n) e
  where
    go : (o : Option Meaning) → refusal_at (whole_of [] w) (n, need.New) o ≡ None → o ≡ None
    go None h = refl
    go (Some m) h = absurd cc

-- where neither test says no
fine_use : (gone right : Bool) (r s : Refusal) → cond gone (Some r) (cond right None (Some s)) ≡ None → (gone ≡ false) × (right ≡ true)
fine_use true right r s e = absurd cc
fine_use false true r s e = (refl, refl)
fine_use false false r s e = absurd cc

-- a meaning that fits
fitting : (w : World) (names : Names) (n : List ℕ) (needed : Need) (m : Meaning) (r s : Refusal) → meaning_of names n ≡ Some m →
    cond (is_gone (whole_of [] w) m.kind m.number) (Some r) (cond (meets needed m.kind) None (Some s)) ≡ None → IsUsed w names n needed
fitting w names n needed m r s f h =
    let both = fine_use (is_gone (whole_of [] w) m.kind m.number) (meets needed m.kind) r s h in
    record { meaning = m; is = f; number = ap (λ (o : Option Meaning). option_map_or (λ (x : Meaning). x.number) o 0) f; there = both.0; meets = both.1 }

-- a used name that has to be of a kind
pub used_of : (w : World) (names : Names) (n : List ℕ) (k : Kind) → refused_at w names n (need.Of k) ≡ None → IsUsed w names n (need.Of k)
used_of w names n k e = go (meaning_of names n) refl e
  where
    go : (o : Option Meaning) → meaning_of names n ≡ o → refusal_at (whole_of [] w) (n, need.Of k) o ≡ None → IsUsed w names n (need.Of k)
    go None f h = absurd cc
    go (Some m) f h = fitting w names n (need.Of k) m _ _ f h

-- a used name that has to be a signal
pub used_signal : (w : World) (names : Names) (n : List ℕ) → refused_at w names n need.Signal ≡ None → IsUsed w names n need.Signal
used_signal w names n e = go (meaning_of names n) refl e
  where
    go : (o : Option Meaning) → meaning_of names n ≡ o → refusal_at (whole_of [] w) (n, need.Signal) o ≡ None → IsUsed w names n need.Signal
    go None f h = absurd cc
    go (Some m) f h = fitting w names n need.Signal m _ _ f h

-- a used name that has to be a thing
pub used_thing : (w : World) (names : Names) (n : List ℕ) → refused_at w names n need.Thing ≡ None → IsUsed w names n need.Thing
used_thing w names n e = go (meaning_of names n) refl e
  where
    go : (o : Option Meaning) → meaning_of names n ≡ o → refusal_at (whole_of [] w) (n, need.Thing) o ≡ None → IsUsed w names n need.Thing
    go None f h = absurd cc
    go (Some m) f h = fitting w names n need.Thing m _ _ f h

pub not_false : (b : Bool) → not b ≡ false → b ≡ true
not_false true e = refl
not_false false e = absurd cc

-- a signal that isn't gone stands
stands : (w : World) (k : Kind) (n : ℕ) → is_signal k ≡ true → is_gone (whole_of [] w) k n ≡ false → is_there (standing w.graph.state.signals n) ≡ true
stands w kind.Cell n s e = not_false (is_there (standing w.graph.state.signals n)) e
stands w kind.List n s e = not_false (is_there (standing w.graph.state.signals n)) e
stands w kind.Computed n s e = not_false (is_there (standing w.graph.state.signals n)) e
stands w kind.Owner n s e = absurd cc
stands w kind.Effect n s e = absurd cc
stands w kind.Watcher n s e = absurd cc
stands w kind.Template n s e = absurd cc
stands w kind.Page n s e = absurd cc

-- a signal is used: it stands, and was given
pub record IsSignal (g : Seen) (n : ℕ) : Type 0 where
  pub given : is_given g n ≡ true
  pub there : is_there (standing g.state.signals n) ≡ true

pub signal_used : (w : World) (count : ℕ) (names : Names) (n : List ℕ) → AreMeant w count names → IsUsed w names n need.Signal → IsSignal w.graph (number_of names n)
signal_used w count names n all u =
    let one : IsMeant w count u.meaning = all n u.meaning u.is in record {
      given = ap (is_given w.graph) u.number ∙ one.given u.meets;
      there = ap (λ i. is_there (standing w.graph.state.signals i)) u.number ∙ stands w u.meaning.kind u.meaning.number u.meets u.there;
    }

-- the kind that is needed is the name's
pub kind_is : (k j : Kind) → same_kind k j ≡ true → k ≡ j
kind_is kind.Cell kind.Cell e = refl
kind_is kind.List kind.List e = refl
kind_is kind.Computed kind.Computed e = refl
kind_is kind.Owner kind.Owner e = refl
kind_is kind.Effect kind.Effect e = refl
kind_is kind.Watcher kind.Watcher e = refl
kind_is kind.Template kind.Template e = refl
kind_is kind.Page kind.Page e = refl
kind_is kind.Cell kind.List e = absurd cc
kind_is kind.Cell kind.Computed e = absurd cc
kind_is kind.Cell kind.Owner e = absurd cc
kind_is kind.Cell kind.Effect e = absurd cc
kind_is kind.Cell kind.Watcher e = absurd cc
kind_is kind.Cell kind.Template e = absurd cc
kind_is kind.Cell kind.Page e = absurd cc
kind_is kind.List kind.Cell e = absurd cc
kind_is kind.List kind.Computed e = absurd cc
kind_is kind.List kind.Owner e = absurd cc
kind_is kind.List kind.Effect e = absurd cc
kind_is kind.List kind.Watcher e = absurd cc
kind_is kind.List kind.Template e = absurd cc
kind_is kind.List kind.Page e = absurd cc
kind_is kind.Computed kind.Cell e = absurd cc
kind_is kind.Computed kind.List e = absurd cc
kind_is kind.Computed kind.Owner e = absurd cc
kind_is kind.Computed kind.Effect e = absurd cc
kind_is kind.Computed kind.Watcher e = absurd cc
kind_is kind.Computed kind.Template e = absurd cc
kind_is kind.Computed kind.Page e = absurd cc
kind_is kind.Owner kind.Cell e = absurd cc
kind_is kind.Owner kind.List e = absurd cc
kind_is kind.Owner kind.Computed e = absurd cc
kind_is kind.Owner kind.Effect e = absurd cc
kind_is kind.Owner kind.Watcher e = absurd cc
kind_is kind.Owner kind.Template e = absurd cc
kind_is kind.Owner kind.Page e = absurd cc
kind_is kind.Effect kind.Cell e = absurd cc
kind_is kind.Effect kind.List e = absurd cc
kind_is kind.Effect kind.Computed e = absurd cc
kind_is kind.Effect kind.Owner e = absurd cc
kind_is kind.Effect kind.Watcher e = absurd cc
kind_is kind.Effect kind.Template e = absurd cc
kind_is kind.Effect kind.Page e = absurd cc
kind_is kind.Watcher kind.Cell e = absurd cc
kind_is kind.Watcher kind.List e = absurd cc
kind_is kind.Watcher kind.Computed e = absurd cc
kind_is kind.Watcher kind.Owner e = absurd cc
kind_is kind.Watcher kind.Effect e = absurd cc
kind_is kind.Watcher kind.Template e = absurd cc
kind_is kind.Watcher kind.Page e = absurd cc
kind_is kind.Template kind.Cell e = absurd cc
kind_is kind.Template kind.List e = absurd cc
kind_is kind.Template kind.Computed e = absurd cc
kind_is kind.Template kind.Owner e = absurd cc
kind_is kind.Template kind.Effect e = absurd cc
kind_is kind.Template kind.Watcher e = absurd cc
kind_is kind.Template kind.Page e = absurd cc
kind_is kind.Page kind.Cell e = absurd cc
kind_is kind.Page kind.List e = absurd cc
kind_is kind.Page kind.Computed e = absurd cc
kind_is kind.Page kind.Owner e = absurd cc
kind_is kind.Page kind.Effect e = absurd cc
kind_is kind.Page kind.Watcher e = absurd cc
kind_is kind.Page kind.Template e = absurd cc

-- a signal of a kind is used
pub kind_used : (w : World) (count : ℕ) (names : Names) (n : List ℕ) (k : Kind) → is_signal k ≡ true → AreMeant w count names → IsUsed w names n (need.Of k) →
    IsSignal w.graph (number_of names n) × (is_of_kind k (standing w.graph.state.signals (number_of names n)) ≡ true)
kind_used w count names n k sig all u =
    let one : IsMeant w count u.meaning = all n u.meaning u.is in
    let same : k ≡ u.meaning.kind = kind_is k u.meaning.kind u.meets in
    let signal : is_signal u.meaning.kind ≡ true = ap is_signal (sym same) ∙ sig in (
      record {
        given = ap (is_given w.graph) u.number ∙ one.given signal;
        there = ap (λ i. is_there (standing w.graph.state.signals i)) u.number
            ∙ stands w u.meaning.kind u.meaning.number signal u.there;
      },
      ap (λ i. is_of_kind k (standing w.graph.state.signals i)) u.number ∙ ap (λ j. is_of_kind j (standing w.graph.state.signals u.meaning.number)) same ∙ one.fits,
    )

-- a watcher is used: it lives
pub watcher_used : (w : World) (names : Names) (n : List ℕ) → IsUsed w names n (need.Of kind.Watcher) →
    is_in (number_of names n) (watcher_numbers w.watchers.watchers) ≡ true
watcher_used w names n u =
    let same : kind.Watcher ≡ u.meaning.kind = kind_is kind.Watcher u.meaning.kind u.meets in
    ap (λ i. is_in i (watcher_numbers w.watchers.watchers)) u.number
    ∙ not_false (is_in u.meaning.number (watcher_numbers w.watchers.watchers))
    (ap (λ (k : Kind). is_gone (whole_of [] w) k u.meaning.number) same ∙ u.there)

-- an owner is used: it lives
pub owner_used : (w : World) (names : Names) (n : List ℕ) → IsUsed w names n (need.Of kind.Owner) →
    is_in (number_of names n) (living 0 w.tables.owners.items) ≡ true
owner_used w names n u =
    let same : kind.Owner ≡ u.meaning.kind = kind_is kind.Owner u.meaning.kind u.meets in
    ap (λ i. is_in i (living 0 w.tables.owners.items)) u.number
    ∙ not_false (is_in u.meaning.number (living 0 w.tables.owners.items))
    (ap (λ (k : Kind). is_gone (whole_of [] w) k u.meaning.number) same ∙ u.there)

-- so can something be made inside an owner that a command names, or at the top
pub inside_open : (w : World) (names : Names) (inside : Option (List ℕ)) → first_refusal (whole_of [] w) names (uses_of_inside inside) ≡ None →
    is_open (living 0 w.tables.owners.items) (owner_of names inside) ≡ true
inside_open w names None e = refl
inside_open w names (Some o) e = owner_used w names o (used_of w names o kind.Owner (neither (refused_at w names o (need.Of kind.Owner)) None e).0)

-- a template is used
pub template_used : (w : World) (count : ℕ) (names : Names) (n : List ℕ) → AreMeant w count names → IsUsed w names n (need.Of kind.Template) →
    number_of names n < count
template_used w count names n all u =
    let one : IsMeant w count u.meaning = all n u.meaning u.is in subst (λ i. i < count) (sym u.number) (one.template u.meets)

-- names are used as signals: they were given, and stand
pub record AreSignals (g : Seen) (ns : List ℕ) : Type 0 where
  pub given : AllByRecursion (λ n. is_given g n ≡ true) ns
  pub there : are_there g.state.signals ns ≡ true

pub signals_used : (w : World) (count : ℕ) (names : Names) (ns : List (List ℕ)) → AreMeant w count names →
    first_refusal (whole_of [] w) names (uses_of_signals ns) ≡ None → AreSignals w.graph (map (number_of names) ns)
signals_used w count names [] all e = record { given = tt; there = refl }
signals_used w count names (n ∷ ns) all e =
    let both = neither (refused_at w names n need.Signal) _ e in
    let one : IsSignal w.graph (number_of names n) = signal_used w count names n all (used_signal w names n both.0) in
    let more : AreSignals w.graph (map (number_of names) ns) = signals_used w count names ns all both.1 in
    record { given = (one.given, more.given); there = rw one.there more.there }

-- ---- the names of a command

-- names one after the other
pub parted : (w : World) (names : Names) (us vs : List Use) → first_refusal (whole_of [] w) names (us ++ vs) ≡ None →
    (first_refusal (whole_of [] w) names us ≡ None) × (first_refusal (whole_of [] w) names vs ≡ None)
parted w names [] vs e = (refl, e)
parted w names (u ∷ us) vs e =
    let both = neither (refusal_at (whole_of [] w) u (meaning_of names u.0)) (first_refusal (whole_of [] w) names (us ++ vs)) e in
    let rest = parted w names us vs both.1 in
    (ap (λ o. option_or o (first_refusal (whole_of [] w) names us)) both.0 ∙ rest.0, rest.1)

-- no name of a command is refused, those in the body of an effect aside
pub uses_fine : (m : Machine) (c : Command) → AreFine m c → first_refusal (whole_of [] m.world) m.names (uses_of c) ≡ None
uses_fine m c e = (neither (first_refusal (whole_of [] m.world) m.names (uses_of c)) (body_refusal (plain_of [] m) c) e).0
