-- A command that a script isn't refused is one that the world isn't refused.
use Rattle.std.proofs.Common.{◌≡◌, ℕ, Bool, true, false, cond, not, List, [], ◌∷◌, ◌++◌, map, Option, Some, None, refl, ap, ◌∙◌}
use Rattle.std.specs.Prelude.{slice_get}
use Rattle.std.specs.Option.{option_map_or, option_or}
use Rattle.effect_model.specs.Owners.{the_signal, the_owner, the_effect, the_page, the_watcher}
use Rattle.effect_model.specs.Worlds.{HostState, unused, used, dropped, Refused, host_taken, thing_gone, World, lives}
use Rattle.effect_model.specs.Acts.{gone_refused, host_of, host_refused, is_free, some_gone}
use Rattle.effect_model.specs.Commands.{inside_refused}
use Rattle.live_cmd.specs.declared.command.SourceText.{SourceText}
use Rattle.live_cmd.specs.declared.command.SourceText.TheVariants as source
use Rattle.live_entries.specs.declared.refusal.Refusal.{Refusal}
use Rattle.live_entries.specs.declared.refusal.Refusal.TheVariants as refusal
use Rattle.live_model.specs.declared.names.Kind.{Kind}
use Rattle.live_model.specs.declared.names.Kind.TheVariants as kind
use Rattle.live_model.specs.declared.names.Meaning.{Meaning}
use Rattle.live_model.specs.declared.names.Need.TheVariants as need
use Rattle.live_model.specs.Links.{owner_of, recipe_of}
use Rattle.live_model.specs.Machine.{host_refusal, taken_refusal}
use Rattle.live_model.specs.Names.{Names, Use, first_refusal, meaning_of, misuse, number_of, refusal_at}
use Rattle.live_model.specs.Uses.{uses_of_inside, uses_of_signals, uses_of_source}
pub use Rattle.live_model.proofs.Shared.{neither as none_of}

pub none_by : {A : Type 0} (a b : Option A) → a ≡ None → b ≡ None → option_or a b ≡ None
none_by a b p q = ap (λ c. option_or c b) p ∙ q

-- what isn't gone lives
alive : (b : Bool) (r : Refusal) (s : Refused) → cond (not b) (Some r) None ≡ None → cond b None (Some s) ≡ None
alive true r s e = refl
alive false r s e = cc

-- what is of another kind is refused either way
other : (b : Bool) (r s : Refusal) (why : Option Refused) → cond b (Some r) (Some s) ≡ None → why ≡ None
other true r s why e = cc
other false r s why e = cc

-- ---- names that are used

owner_of_kind : (w : World) (n : List ℕ) (k : Kind) (i : ℕ) → misuse w (n, need.Of kind.Owner) (record { kind = k; number = i }) ≡ None →
    gone_refused (the_owner i) w ≡ None
owner_of_kind w n kind.Owner i e = alive (lives (the_owner i) w) (refusal.Gone n) (thing_gone (the_owner i)) e
owner_of_kind w n kind.Cell i e = other (not (lives (the_signal i) w)) (refusal.Gone n) (refusal.Kind n) (gone_refused (the_owner i) w) e
owner_of_kind w n kind.List i e = other (not (lives (the_signal i) w)) (refusal.Gone n) (refusal.Kind n) (gone_refused (the_owner i) w) e
owner_of_kind w n kind.Computed i e = other (not (lives (the_signal i) w)) (refusal.Gone n) (refusal.Kind n) (gone_refused (the_owner i) w) e
owner_of_kind w n kind.Effect i e = other (not (lives (the_effect i) w)) (refusal.Gone n) (refusal.Kind n) (gone_refused (the_owner i) w) e
owner_of_kind w n kind.Watcher i e = other (not (lives (the_watcher i) w)) (refusal.Gone n) (refusal.Kind n) (gone_refused (the_owner i) w) e
owner_of_kind w n kind.Page i e = other (not (lives (the_page i) w)) (refusal.Gone n) (refusal.Kind n) (gone_refused (the_owner i) w) e
owner_of_kind w n kind.Template i e = other false (refusal.Gone n) (refusal.Kind n) (gone_refused (the_owner i) w) e

watcher_of_kind : (w : World) (n : List ℕ) (k : Kind) (i : ℕ) → misuse w (n, need.Of kind.Watcher) (record { kind = k; number = i }) ≡ None →
    gone_refused (the_watcher i) w ≡ None
watcher_of_kind w n kind.Watcher i e = alive (lives (the_watcher i) w) (refusal.Gone n) (thing_gone (the_watcher i)) e
watcher_of_kind w n kind.Cell i e = other (not (lives (the_signal i) w)) (refusal.Gone n) (refusal.Kind n) (gone_refused (the_watcher i) w) e
watcher_of_kind w n kind.List i e = other (not (lives (the_signal i) w)) (refusal.Gone n) (refusal.Kind n) (gone_refused (the_watcher i) w) e
watcher_of_kind w n kind.Computed i e = other (not (lives (the_signal i) w)) (refusal.Gone n) (refusal.Kind n) (gone_refused (the_watcher i) w) e
watcher_of_kind w n kind.Effect i e = other (not (lives (the_effect i) w)) (refusal.Gone n) (refusal.Kind n) (gone_refused (the_watcher i) w) e
watcher_of_kind w n kind.Owner i e = other (not (lives (the_owner i) w)) (refusal.Gone n) (refusal.Kind n) (gone_refused (the_watcher i) w) e
watcher_of_kind w n kind.Page i e = other (not (lives (the_page i) w)) (refusal.Gone n) (refusal.Kind n) (gone_refused (the_watcher i) w) e
watcher_of_kind w n kind.Template i e = other false (refusal.Gone n) (refusal.Kind n) (gone_refused (the_watcher i) w) e

signal_of_kind : (w : World) (n : List ℕ) (k : Kind) (i : ℕ) → misuse w (n, need.Signal) (record { kind = k; number = i }) ≡ None →
    gone_refused (the_signal i) w ≡ None
signal_of_kind w n kind.Cell i e = alive (lives (the_signal i) w) (refusal.Gone n) (thing_gone (the_signal i)) e
signal_of_kind w n kind.List i e = alive (lives (the_signal i) w) (refusal.Gone n) (thing_gone (the_signal i)) e
signal_of_kind w n kind.Computed i e = alive (lives (the_signal i) w) (refusal.Gone n) (thing_gone (the_signal i)) e
signal_of_kind w n kind.Watcher i e = other (not (lives (the_watcher i) w)) (refusal.Gone n) (refusal.Kind n) (gone_refused (the_signal i) w) e
signal_of_kind w n kind.Effect i e = other (not (lives (the_effect i) w)) (refusal.Gone n) (refusal.Kind n) (gone_refused (the_signal i) w) e
signal_of_kind w n kind.Owner i e = other (not (lives (the_owner i) w)) (refusal.Gone n) (refusal.Kind n) (gone_refused (the_signal i) w) e
signal_of_kind w n kind.Page i e = other (not (lives (the_page i) w)) (refusal.Gone n) (refusal.Kind n) (gone_refused (the_signal i) w) e
signal_of_kind w n kind.Template i e = other false (refusal.Gone n) (refusal.Kind n) (gone_refused (the_signal i) w) e

-- by whatever it stands for
owner_meant : (w : World) (n : List ℕ) (m : Option Meaning) → refusal_at w (n, need.Of kind.Owner) m ≡ None →
    gone_refused (the_owner (option_map_or (λ (x : Meaning). x.number) m 0)) w ≡ None
owner_meant w n None e = cc
owner_meant w n (Some m) e = owner_of_kind w n m.kind m.number e

watcher_meant : (w : World) (n : List ℕ) (m : Option Meaning) → refusal_at w (n, need.Of kind.Watcher) m ≡ None →
    gone_refused (the_watcher (option_map_or (λ (x : Meaning). x.number) m 0)) w ≡ None
watcher_meant w n None e = cc
watcher_meant w n (Some m) e = watcher_of_kind w n m.kind m.number e

signal_meant : (w : World) (n : List ℕ) (m : Option Meaning) → refusal_at w (n, need.Signal) m ≡ None →
    gone_refused (the_signal (option_map_or (λ (x : Meaning). x.number) m 0)) w ≡ None
signal_meant w n None e = cc
signal_meant w n (Some m) e = signal_of_kind w n m.kind m.number e

pub watcher_fine : (w : World) (names : Names) (n : List ℕ) → refusal_at w (n, need.Of kind.Watcher) (meaning_of names n) ≡ None →
    gone_refused (the_watcher (number_of names n)) w ≡ None
watcher_fine w names n e = watcher_meant w n (meaning_of names n) e

pub signal_fine : (w : World) (names : Names) (n : List ℕ) → refusal_at w (n, need.Signal) (meaning_of names n) ≡ None →
    gone_refused (the_signal (number_of names n)) w ≡ None
signal_fine w names n e = signal_meant w n (meaning_of names n) e

pub signals_fine : (w : World) (names : Names) (ns : List (List ℕ)) → first_refusal w names (uses_of_signals ns) ≡ None →
    some_gone (map (number_of names) ns) w ≡ None
signals_fine w names [] e = refl
signals_fine w names (n ∷ ns) e =
    let h = none_of (refusal_at w (n, need.Signal) (meaning_of names n)) (first_refusal w names (uses_of_signals ns)) e in
    none_by (gone_refused (the_signal (number_of names n)) w) (some_gone (map (number_of names) ns) w) (signal_fine w names n h.0)
    (signals_fine w names ns h.1)

pub inside_fine : (w : World) (names : Names) (inside : Option (List ℕ)) → first_refusal w names (uses_of_inside inside) ≡ None →
    inside_refused (owner_of names inside) w ≡ None
inside_fine w names None e = refl
inside_fine w names (Some o) e = owner_meant w o (meaning_of names o) (none_of (refusal_at w (o, need.Of kind.Owner) (meaning_of names o)) None e).0

pub first_of_both : (w : World) (names : Names) (us vs : List Use) → first_refusal w names (us ++ vs) ≡ None →
    (first_refusal w names us ≡ None) × (first_refusal w names vs ≡ None)
first_of_both w names [] vs e = (refl, e)
first_of_both w names (u ∷ us) vs e =
    let h = none_of (refusal_at w u (meaning_of names u.0)) (first_refusal w names (us ++ vs)) e in
    let more = first_of_both w names us vs h.1 in
    (none_by (refusal_at w u (meaning_of names u.0)) (first_refusal w names us) h.0 more.0, more.1)

-- ---- sources

pub source_fine : (w : World) (names : Names) (s : SourceText) → first_refusal w names (uses_of_source s) ≡ None →
    some_gone (recipe_of names s).slots w ≡ None
source_fine w names (source.Formula f) e = signals_fine w names f.1 e
source_fine w names (source.Host place arguments) e = signals_fine w names arguments e

free_place : (place : ℕ) (s : Option HostState) → taken_refusal place s ≡ None → cond (is_free s) None (Some (host_taken place)) ≡ None
free_place place None e = cc
free_place place (Some unused) e = refl
free_place place (Some (used asks)) e = cc
free_place place (Some (dropped asks)) e = cc

pub host_fine : (w : World) (names : Names) (s : SourceText) → host_refusal w s ≡ None → host_refused (host_of (recipe_of names s).expression) w ≡ None
host_fine w names (source.Formula f) e = refl
host_fine w names (source.Host place arguments) e = free_place place (slice_get w.host_states place) e
