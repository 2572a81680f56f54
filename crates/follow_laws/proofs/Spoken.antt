-- Operations and HTML that are told of pages, among all that events tell.
use Rattle.std.proofs.Common.{◌≡◌, ℕ, true, false, cond, List, [], ◌∷◌, ◌++◌, append_assoc, append-nil, refl, sym, ap}
use Rattle.std.proofs.Common.{subst, ◌∙◌}
use Rattle.std.specs.Str.{bytes_eq}
use Rattle.effect_model.specs.Owners.{Thing, the_effect}
use Rattle.effect_model.specs.Worlds.{Event, cleaned}
use Rattle.page_model.specs.Html.{html_of}
use Rattle.page_model.specs.Replay.{Op}
use Rattle.live_entries.specs.declared.entry.Entry.{Entry}
use Rattle.live_entries.specs.declared.entry.Entry.TheVariants as entry
use Rattle.live_model.specs.Labels.{Labels, relabelled}
use Rattle.live_model.specs.Machine.{cleanup_entries}
use Rattle.live_model.specs.Machine.{entries_of, event_entries, news_of, ops_told}
use Rattle.live_model.specs.Pages.{Page, page_html}
use Rattle.page_laws.specs.LivePages.{ops_of, tree_named}
use Rattle.follow_laws.specs.ToldPages.{AreSilent, AreTold, has_page}

-- ---- what is told

-- operations and HTML of these pages alone
abbrev pub AreSpoken : List Page → List Entry → Type 0
AreSpoken ps [] = Unit {0}
AreSpoken ps (entry.Op n o ∷ es) = (has_page ps n ≡ true) × AreSpoken ps es
AreSpoken ps (entry.Page n html ∷ es) = (has_page ps n ≡ true) × (html ≡ html_of (tree_named ps n)) × (ops_of n es ≡ []) × AreSpoken ps es
AreSpoken ps (_ ∷ es) = AreSpoken ps es

pub told_both : (ps : List Page) (es : List Entry) → AreSilent ps es → AreSpoken ps es → AreTold ps es
told_both ps [] s k = tt
told_both ps (entry.Op n o ∷ es) s k = (k.0, told_both ps es s k.1)
told_both ps (entry.Page n html ∷ es) s k = (k.0, k.1, k.2, told_both ps es s k.3)
told_both ps (entry.Gone l ∷ es) s k = (s.0, told_both ps es s.1 k)
told_both ps (_ ∷ es) s k = told_both ps es s k

cleanup_spoken : (ps : List Page) (labels : Labels) (t : Thing) (rest : List Entry) → AreSpoken ps rest → AreSpoken ps (cleanup_entries labels t ++ rest)
cleanup_spoken ps labels (the_effect i) rest h = h
cleanup_spoken ps labels t rest h = h

event_spoken : (ps : List Page) (labels : Labels) (e : Event) (rest : List Entry) → AreSpoken ps rest → AreSpoken ps (event_entries labels e ++ rest)
event_spoken ps labels (cleaned t c) rest h = cleanup_spoken ps labels t rest h
event_spoken ps labels e rest h = h

pub events_spoken : (ps : List Page) (labels : Labels) (es : List Event) (rest : List Entry) → AreSpoken ps rest → AreSpoken ps (entries_of labels es ++ rest)
events_spoken ps labels [] rest h = h
events_spoken ps labels (e ∷ es) rest h =
    subst (AreSpoken ps) (sym (append_assoc (event_entries labels e) (entries_of (relabelled e labels) es) rest))
    (event_spoken ps labels e (entries_of (relabelled e labels) es ++ rest) (events_spoken ps (relabelled e labels) es rest h))

pub events_alone : (ps : List Page) (labels : Labels) (es : List Event) → AreSpoken ps (entries_of labels es)
events_alone ps labels es = subst (AreSpoken ps) (append-nil (entries_of labels es)) (events_spoken ps labels es [] tt)

cleanup_quiet : (n : List ℕ) (labels : Labels) (t : Thing) (rest : List Entry) → ops_of n (cleanup_entries labels t ++ rest) ≡ ops_of n rest
cleanup_quiet n labels (the_effect i) rest = refl
cleanup_quiet n labels t rest = refl

event_quiet : (n : List ℕ) (labels : Labels) (e : Event) (rest : List Entry) → ops_of n (event_entries labels e ++ rest) ≡ ops_of n rest
event_quiet n labels (cleaned t c) rest = cleanup_quiet n labels t rest
event_quiet n labels e rest = refl

pub events_quiet : (n : List ℕ) (labels : Labels) (es : List Event) (rest : List Entry) → ops_of n (entries_of labels es ++ rest) ≡ ops_of n rest
events_quiet n labels [] rest = refl
events_quiet n labels (e ∷ es) rest =
    ap (ops_of n) (append_assoc (event_entries labels e) (entries_of (relabelled e labels) es) rest)
    ∙ (event_quiet n labels e (entries_of (relabelled e labels) es ++ rest) ∙ events_quiet n (relabelled e labels) es rest)

-- operations on a page, its HTML and more
pub page_spoken : (ps : List Page) (n : List ℕ) (ops : List Op) (html : List ℕ) (rest : List Entry) → has_page ps n ≡ true → html ≡ html_of (tree_named ps n) →
    ops_of n rest ≡ [] → AreSpoken ps rest → AreSpoken ps ((ops_told n ops ++ entry.Page n html ∷ []) ++ rest)
page_spoken ps n [] html rest there shows quiet h = (there, shows, quiet, h)
page_spoken ps n (o ∷ ops) html rest there shows quiet h = (there, page_spoken ps n ops html rest there shows quiet h)

pub news_spoken : (ps : List Page) (p : Page) (ops : List Op) (rest : List Entry) → has_page ps p.name ≡ true → page_html p ≡ html_of (tree_named ps p.name) →
    ops_of p.name rest ≡ [] → AreSpoken ps rest → AreSpoken ps (news_of p ops ++ rest)
news_spoken ps p [] rest there shows quiet h = h
news_spoken ps p (o ∷ ops) rest there shows quiet h = page_spoken ps p.name (o ∷ ops) (page_html p) rest there shows quiet h

page_quiet : (n m : List ℕ) (ops : List Op) (html : List ℕ) (rest : List Entry) → bytes_eq n m ≡ false →
    ops_of n ((ops_told m ops ++ entry.Page m html ∷ []) ++ rest) ≡ ops_of n rest
page_quiet n m [] html rest d = refl
page_quiet n m (o ∷ ops) html rest d =
    ap (λ b. cond b (o ∷ []) [] ++ ops_of n ((ops_told m ops ++ entry.Page m html ∷ []) ++ rest)) d ∙ page_quiet n m ops html rest d

pub news_quiet : (n : List ℕ) (p : Page) (ops : List Op) (rest : List Entry) → bytes_eq n p.name ≡ false → ops_of n (news_of p ops ++ rest) ≡ ops_of n rest
news_quiet n p [] rest d = refl
news_quiet n p (o ∷ ops) rest d = page_quiet n p.name (o ∷ ops) (page_html p) rest d
