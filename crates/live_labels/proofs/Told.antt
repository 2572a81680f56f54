-- What is told of events is told of what the plain world tells.
use Rattle.std.proofs.Common.{◌≡◌, Bool, true, false, cond, List, [], ◌∷◌, ◌++◌, refl, sym, ap, ◌∙◌, append-nil}
use Rattle.effect_model.specs.Worlds as told
use Rattle.sig_effect.specs.declared.events.Event.{Event}
use Rattle.sig_effect.specs.declared.events.Event.TheVariants as event
use Rattle.sig_effect.specs.Events.{AreTold, IsTold}
use Rattle.sig_computed.specs.Notes.{note_of}
use Rattle.live_entries.specs.declared.entry.Entry.{Entry}
use Rattle.live_entries.specs.Printed.{is_traced, AreToldFor, entry_left_out, nothing_told}
use Rattle.live_entries.proofs.Shared.{told_all, told_both}
use Rattle.sig_base.specs.Words.{is_name, is_reserved}
use Rattle.live_model.specs.Labels.{Labels, labels_after, nobody, relabelled}
use Rattle.live_model.specs.Machine.{entries_of, event_entries}
use Rattle.live_labels.specs.Entries.{entries_for, entries_told, is_wanted, note_entry, renamed, told_for}

-- ---- entries

one_told : (l : Labels) (e : Event) (t : told.Event) → IsTold e t → entries_told l e ≡ event_entries l t
one_told l (event.Run n) t h = ap (λ x. note_entry l.signals x ∷ []) h.note ∙ ap (event_entries l) (sym h.ran)
one_told l (event.Change n how) t h = ap (event_entries l) (sym h)
one_told l (event.Notify n) t h = ap (event_entries l) (sym h)
one_told l (event.Frozen ns) t h = ap (event_entries l) (sym h)
one_told l (event.Dropped place asks) t h = ap (event_entries l) (sym h)
one_told l (event.Log v) t h = ap (event_entries l) (sym h)
one_told l (event.Body e reads) t h = ap (event_entries l) (sym h)
one_told l (event.Fail e f) t h = ap (event_entries l) (sym h)
one_told l (event.Cleanup e) t h = ap (event_entries l) (sym h.cleaned)
one_told l (event.Gone x) t h = ap (event_entries l) (sym h)
one_told l (event.RefusedGone x) t h = ap (event_entries l) (sym h)
one_told l (event.RefusedHost place) t h = ap (event_entries l) (sym h)
one_told l (event.Made child parent k) t h = ap (event_entries l) (sym h)
one_told l (event.Noted e) t h = ap (event_entries l) (sym h.noted)

-- ---- labels

one_renames : (l : Labels) (e : Event) (t : told.Event) → IsTold e t → renamed e l ≡ relabelled t l
one_renames l (event.Run n) t h = ap (λ u. relabelled u l) (sym h.ran)
one_renames l (event.Change n how) t h = ap (λ u. relabelled u l) (sym h)
one_renames l (event.Notify n) t h = ap (λ u. relabelled u l) (sym h)
one_renames l (event.Frozen ns) t h = ap (λ u. relabelled u l) (sym h)
one_renames l (event.Dropped place asks) t h = ap (λ u. relabelled u l) (sym h)
one_renames l (event.Log v) t h = ap (λ u. relabelled u l) (sym h)
one_renames l (event.Body e reads) t h = ap (λ u. relabelled u l) (sym h)
one_renames l (event.Fail e f) t h = ap (λ u. relabelled u l) (sym h)
one_renames l (event.Cleanup e) t h = ap (λ u. relabelled u l) (sym h.cleaned)
one_renames l (event.Gone x) t h = ap (λ u. relabelled u l) (sym h)
one_renames l (event.RefusedGone x) t h = ap (λ u. relabelled u l) (sym h)
one_renames l (event.RefusedHost place) t h = ap (λ u. relabelled u l) (sym h)
one_renames l (event.Made child parent k) t h = ap (λ u. relabelled u l) (sym h)
one_renames l (event.Noted e) t h = ap (λ u. relabelled u l) (sym h.noted)

-- ---- all, one by one

-- the entries of events, each by the labels of its moment
abbrev pub told_by : Labels → List Event → List Entry
told_by l [] = []
told_by l (e ∷ es) = entries_told l e ++ told_by (renamed e l) es

-- the labels after them
abbrev pub renamed_by : List Event → Labels → Labels
renamed_by [] l = l
renamed_by (e ∷ es) l = renamed_by es (renamed e l)

pub all_told : (l : Labels) (es : List Event) (ts : List told.Event) → AreTold es ts → told_by l es ≡ entries_of l ts
all_told l [] [] h = refl
all_told l (e ∷ es) (t ∷ ts) h =
    (λ i. one_told l e t h.0 i ++ told_by (one_renames l e t h.0 i) es)
    ∙ ap (λ (xs : List Entry). event_entries l t ++ xs) (all_told (relabelled t l) es ts h.1)
all_told l [] (t ∷ ts) h = absurd h
all_told l (e ∷ es) [] h = absurd h

pub all_rename : (l : Labels) (es : List Event) (ts : List told.Event) → AreTold es ts → renamed_by es l ≡ labels_after ts l
all_rename l [] [] h = refl
all_rename l (e ∷ es) (t ∷ ts) h = ap (renamed_by es) (one_renames l e t h.0) ∙ all_rename (relabelled t l) es ts h.1
all_rename l [] (t ∷ ts) h = absurd h
all_rename l (e ∷ es) [] h = absurd h

-- ---- with a trace or without

-- without one what only a trace prints isn't told
traced_for : (traced : Bool) (x : Entry) → is_traced x ≡ true → AreToldFor traced (cond traced (x ∷ []) []) (x ∷ [])
traced_for true x t = told_all true (x ∷ [])
traced_for false x t = record { left = entry_left_out x t nothing_told; whole = λ e. absurd cc }

one_for : (traced : Bool) (l : Labels) (e : Event) → AreToldFor traced (entries_for traced l e) (entries_told l e)
one_for traced l (event.Run n) = traced_for traced (note_entry l.signals (note_of n)) refl
one_for traced l (event.Body e reads) = traced_for traced _ refl
one_for traced l e = told_all traced (entries_told l e)

pub all_for : (traced : Bool) (l : Labels) (es : List Event) → AreToldFor traced (told_for traced l es) (told_by l es)
all_for traced l [] = told_all traced []
all_for traced l (e ∷ es) = told_both traced (one_for traced l e) (all_for traced (renamed e l) es)

-- with one all is told
pub all_traced : (l : Labels) (es : List Event) (ts : List told.Event) → AreTold es ts → told_for true l es ≡ entries_of l ts
all_traced l es ts h = (all_for true l es).whole refl ∙ all_told l es ts h

-- of an event that isn't to be told nothing is, and nothing is called otherwise from then on
pub unwanted : (traced : Bool) (l : Labels) (e : Event) (es : List Entry) → is_wanted traced e ≡ false → es ≡ es ++ entries_for traced l e
unwanted traced l e es h = sym (ap (λ (b : Bool). es ++ cond b (entries_told l e) []) h ∙ append-nil es)

pub unwanted_same : (traced : Bool) (l : Labels) (e : Event) → is_wanted traced e ≡ false → l ≡ renamed e l
unwanted_same traced l (event.Run n) h = refl
unwanted_same traced l (event.Body e reads) h = refl
unwanted_same traced l e h = absurd cc

-- of one that is to be told all is
pub wanted : (traced : Bool) (l : Labels) (e : Event) (es : List Entry) → is_wanted traced e ≡ true → es ++ entries_told l e ≡ es ++ entries_for traced l e
wanted traced l e es h = sym (ap (λ (b : Bool). es ++ cond b (entries_told l e) []) h)

-- ---- what was never made

-- it is called by a name
pub good_nobody : is_name nobody ≡ true
unfolding is_name is_reserved
good_nobody = refl
