-- Where runs and evaluated bodies aren't told, all is as where they are.
use Rattle.std.proofs.Common.{◌≡◌, Bool, true, false, List, [], ◌∷◌, ◌++◌, map, Option, Some, None, Result, Ok, Err, IfOk, ℕ, refl, sym, ap, subst, ◌∙◌}
use Rattle.std.specs.Option.{option_map}
use Rattle.signal_model.specs.Recipes.{Hosts}
use Rattle.sig_host.specs.Hosts.{HostPlace}
use Rattle.sig_computed.specs.declared.notes.RunNote.{RunNote}
use Rattle.sig_effect.specs.declared.events.Event.{Event}
use Rattle.sig_effect.specs.declared.events.Event.TheVariants as event
use Rattle.effect_model.specs.Worlds as told
use Rattle.sig_effect.specs.Events.{AreTold}
use Rattle.why_model.specs.Facts.{has_run}
use Rattle.why_model.specs.Records.{Journal, with_fact, with_facts}
use Rattle.live_why.specs.Views as noted
use Rattle.live_entries.specs.declared.entry.Entry.{Entry}
use Rattle.live_entries.specs.Printed.{AreToldFor, AreTraced}
use Rattle.live_entries.proofs.Shared.{told_all, told_both}
use Rattle.live_model.specs.Journals.{noting}
use Rattle.live_model.specs.Labels as called
use Rattle.live_model.specs.Labels.{labels_after}
use Rattle.live_model.specs.Machine.{Told}
use Rattle.live_labels.specs.declared.labels.Labels.{Labels}
use Rattle.live_labels.specs.Entries.{told_for}
use Rattle.live_labels.specs.Views.{labels_of, KeepsNames}
use Rattle.live_labels.proofs.Shared.{all_for, all_noted, all_rename, all_told, noted_by, renamed_by, told_by}
use Rattle.live_core.specs.Doing.{Did, DidFor}
use Rattle.live_core.specs.declared.machine.Machine.{Machine}
use Rattle.live_core.proofs.Commands.{tells_by, TellsBy}

-- runs alone, as events
abbrev pub ran : List RunNote → List Event
ran ns = map event.Run ns

-- what is told of runs is told only in a trace
pub traced_runs : (l : called.Labels) (ns : List RunNote) → AreTraced (told_by l (ran ns))
traced_runs l [] = tt
traced_runs l (n ∷ ns) = (refl, traced_runs l ns)

-- nothing is called otherwise from then on
same_labels : (l : called.Labels) (ns : List RunNote) → renamed_by (ran ns) l ≡ l
same_labels l [] = refl
same_labels l (n ∷ ns) = same_labels l ns

-- and they are noted, one by one
noted_runs : (ns : List RunNote) (j : Journal) → with_facts (map has_run (map noted.note_of ns)) j ≡ noted_by (ran ns) j
noted_runs [] j = refl
noted_runs (n ∷ ns) j = noted_runs ns (with_fact (has_run (noted.note_of n)) j)

noted_so : (j : Option Journal) (ns : List RunNote) (ts : List told.Event) → AreTold (ran ns) ts →
    option_map (with_facts (map has_run (map noted.note_of ns))) j ≡ noting ts j
noted_so None ns ts h = refl
noted_so (Some j) ns ts h = ap Some (noted_runs ns j ∙ all_noted (ran ns) ts j h)

-- runs that aren't told tell what runs tell
pub untold_runs : (l : Labels) (first last : Option Journal) (ns : List RunNote) → last ≡ option_map (with_facts (map has_run (map noted.note_of ns))) first →
    TellsBy l l first last (ran ns) (told_by (labels_of l) (ran ns))
untold_runs l first last ns noted_is = record {
  entries = λ ts h. all_told (labels_of l) (ran ns) ts h;
  labels = λ ts h. sym (same_labels (labels_of l) ns) ∙ all_rename (labels_of l) (ran ns) ts h;
  noted = λ ts h. noted_is ∙ noted_so first ns ts h;
  names = record { signals = refl; owners = refl; pages = refl; watchers = refl };
}

-- what is told of events where all is told
pub tells_whole : (before after : Labels) (first last : Option Journal) (es xs : List Event) → xs ≡ es →
    ((ts : List told.Event) → AreTold xs ts → labels_of after ≡ labels_after ts (labels_of before)) →
    ((ts : List told.Event) → AreTold xs ts → last ≡ noting ts first) → KeepsNames before after →
    TellsBy before after first last es (told_by (labels_of before) es)
tells_whole before after first last es xs same called_as noted_as names =
    tells_by before after first last es xs (told_by (labels_of before) es) same
    (λ ts h. ap (told_by (labels_of before)) (sym same) ∙ all_told (labels_of before) xs ts h) called_as noted_as names

-- what is told of events, with a trace or without, and of news behind them
pub told_with_news : (traced : Bool) (l : called.Labels) (events xs : List Event) (first news entries : List Entry) → xs ≡ events →
    first ≡ told_for traced l xs → entries ≡ first ++ news → AreToldFor traced entries (told_by l events ++ news)
told_with_news traced l events xs first news entries same is behind =
    subst (λ (es : List Entry). AreToldFor traced es (told_by l events ++ news))
    (sym (behind ∙ ap (λ (es : List Entry). es ++ news) (is ∙ ap (told_for traced l) same)))
    (told_both traced (all_for traced l events) (told_all traced news))

-- where all is told, nothing is left out
pub did_all : (traced : Bool) (asked later : List HostPlace) (count : ℕ) (old new : Machine) (before after : Hosts → Type 0) (counted : Type 0) (asks : ℕ)
    (entries : List Entry) (next : Hosts → Told) → Did asked later count old new before after counted asks entries next →
    DidFor traced asked later count old new before after counted asks entries next
did_all traced asked later count old new before after counted asks entries next d = record { all = entries; told = told_all traced entries; did = d }

pub did_for : {A E : Type 0} (traced : Bool) (r : Result A E) (items : A → List Entry) (asked later : List HostPlace) (count : ℕ) (old new : Machine) (before after : Hosts → Type 0)
    (counted : Type 0) (asks : ℕ) (next : Hosts → Told) →
    IfOk r (λ x. Did asked later count old new before after counted asks (items x) next) →
    IfOk r (λ x. DidFor traced asked later count old new before after counted asks (items x) next)
did_for traced (Ok x) items asked later count old new before after counted asks next d = did_all traced asked later count old new before after counted asks (items x) next d
did_for traced (Err e) items asked later count old new before after counted asks next d = tt

-- so it is where a trace isn't asked for
pub did_hiding : {A E : Type 0} (traced : Bool) (r : Result A E) (items : A → List Entry) (asked later : List HostPlace) (count : ℕ) (old new : Machine) (before after : Hosts → Type 0)
    (counted : Type 0) (asks : ℕ) (next : Hosts → Told) → traced ≡ false →
    IfOk r (λ x. DidFor false asked later count old new before after counted asks (items x) next) →
    IfOk r (λ x. DidFor traced asked later count old new before after counted asks (items x) next)
did_hiding traced r items asked later count old new before after counted asks next e d =
    subst (λ (b : Bool). IfOk r (λ x. DidFor b asked later count old new before after counted asks (items x) next)) (sym e) d

-- where a trace is asked for, all is told
pub did_whole : {A E : Type 0} (r : Result A E) (items : A → List Entry) (asked later : List HostPlace) (count : ℕ) (old new : Machine) (before after : Hosts → Type 0)
    (counted : Type 0) (asks : ℕ) (next : Hosts → Told) →
    IfOk r (λ x. DidFor true asked later count old new before after counted asks (items x) next) →
    IfOk r (λ x. Did asked later count old new before after counted asks (items x) next)
did_whole (Ok x) items asked later count old new before after counted asks next d =
    subst (λ (es : List Entry). Did asked later count old new before after counted asks es next) (sym (d.told.whole refl)) d.did
did_whole (Err e) items asked later count old new before after counted asks next d = tt
