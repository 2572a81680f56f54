-- What is noted of events is noted of what the plain world tells.
use Rattle.std.proofs.Common.{◌≡◌, List, [], ◌∷◌, refl, sym, ap, ◌∙◌}
use Rattle.effect_model.specs.Worlds as told
use Rattle.sig_computed.specs.Notes.{Note}
use Rattle.sig_effect.specs.declared.events.Event.{Event}
use Rattle.sig_effect.specs.declared.events.Event.TheVariants as event
use Rattle.sig_effect.specs.Events.{AreTold, IsTold}
use Rattle.why_model.specs.Facts.{has_run}
use Rattle.why_model.specs.Records.{Journal, with_fact, with_facts}
use Rattle.why_model.specs.Told.{facts_told}
use Rattle.live_labels.specs.Facts.{facts_noted}

-- the journal after events, one by one
abbrev pub noted_by : List Event → Journal → Journal
noted_by [] j = j
noted_by (e ∷ es) j = noted_by es (with_facts (facts_noted e) j)

-- the journal after an event and those behind it
abbrev with_told : List told.Event → Journal → told.Event → Journal
with_told ts j t = with_facts (facts_told (t ∷ ts)) j

one_noted : (e : Event) (t : told.Event) (ts : List told.Event) (j : Journal) → IsTold e t →
    with_facts (facts_told (t ∷ ts)) j ≡ with_facts (facts_told ts) (with_facts (facts_noted e) j)
one_noted (event.Run n) t ts j h =
    ap (with_told ts j) h.ran
    ∙ ap (λ (x : Note). with_facts (facts_told ts) (with_fact (has_run (record { name = x.name; reads = x.reads; outcome = x.outcome })) j)) (sym h.note)
one_noted (event.Change n how) t ts j h = ap (with_told ts j) h
one_noted (event.Notify n) t ts j h = ap (with_told ts j) h
one_noted (event.Frozen ns) t ts j h = ap (with_told ts j) h
one_noted (event.Dropped place asks) t ts j h = ap (with_told ts j) h
one_noted (event.Log v) t ts j h = ap (with_told ts j) h
one_noted (event.Body e reads) t ts j h = ap (with_told ts j) h
one_noted (event.Fail e f) t ts j h = ap (with_told ts j) h
one_noted (event.Cleanup e) t ts j h = ap (with_told ts j) h.cleaned
one_noted (event.Gone x) t ts j h = ap (with_told ts j) h
one_noted (event.RefusedGone x) t ts j h = ap (with_told ts j) h
one_noted (event.RefusedHost place) t ts j h = ap (with_told ts j) h
one_noted (event.Made child parent k) t ts j h = ap (with_told ts j) h
one_noted (event.Noted e) t ts j h = ap (with_told ts j) h.noted

pub all_noted : (es : List Event) (ts : List told.Event) (j : Journal) → AreTold es ts → noted_by es j ≡ with_facts (facts_told ts) j
all_noted [] [] j h = refl
all_noted (e ∷ es) (t ∷ ts) j h = all_noted es ts (with_facts (facts_noted e) j) h.1 ∙ sym (one_noted e t ts j h.0)
all_noted [] (t ∷ ts) j h = absurd h
all_noted (e ∷ es) [] j h = absurd h
