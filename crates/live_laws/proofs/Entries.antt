-- How what happens is told.
use Rattle.std.proofs.Common.{◌≡◌, ℕ, true, List, [], ◌∷◌, ◌++◌, append_assoc, Option, Some, None, refl, sym, ap, ◌∙◌, subst}
use Rattle.std.specs.List.{list_all}
use Rattle.std.proofs.lemmas.Bool.{and_parts}
use Rattle.std.proofs.lemmas.List.{append-nil}
use Rattle.sig_base.specs.declared.value.Value.{Value}
use Rattle.effect_model.specs.Acts.{with_quiet_value}
use Rattle.effect_model.specs.declared.how.How.TheVariants.{Set}
use Rattle.effect_model.specs.Worlds.{Event, changed_signal, World}
use Rattle.page_model.specs.Replay.{Op}
use Rattle.live_entries.specs.declared.entry.Entry.{Entry}
use Rattle.live_entries.specs.declared.entry.Entry.TheVariants as entry
use Rattle.live_model.specs.Labels.{Labels, labels_after, relabelled}
use Rattle.live_model.specs.Machine.{entries_of, event_entries, news_of, ops_told}
use Rattle.live_model.specs.Pages.{Page, page_html}
use Rattle.why_model.specs.declared.causes.Link.{Link}
use Rattle.live_model.specs.Journals.{link_entries, name_next, why_entries}
use Rattle.live_laws.specs.Events.{IsTold, answered, event_told, is_answer, no_more}

-- one after the other
pub told_then : (labels : Labels) (es more : List Event) (rest : List Entry) → IsTold (labels_after es labels) more rest →
    IsTold labels (es ++ more) (entries_of labels es ++ rest)
told_then labels [] more rest h = h
told_then labels (e ∷ es) more rest h =
    subst (λ ts. IsTold labels (e ∷ (es ++ more)) ts) (sym (append_assoc (event_entries labels e) (entries_of (relabelled e labels) es) rest))
    (event_told labels e (es ++ more) (entries_of (relabelled e labels) es ++ rest) (told_then (relabelled e labels) es more rest h))

-- more that happened is told behind
entries_more : (labels : Labels) (es more : List Event) → entries_of labels (es ++ more) ≡ entries_of labels es ++ entries_of (labels_after es labels) more
entries_more labels [] more = refl
entries_more labels (e ∷ es) more =
    ap (λ ts. event_entries labels e ++ ts) (entries_more (relabelled e labels) es more)
    ∙ sym (append_assoc (event_entries labels e) (entries_of (relabelled e labels) es) (entries_of (labels_after es (relabelled e labels)) more))

pub labels_more : (labels : Labels) (es more : List Event) → labels_after (es ++ more) labels ≡ labels_after more (labels_after es labels)
labels_more labels [] more = refl
labels_more labels (e ∷ es) more = labels_more (relabelled e labels) es more

-- events of which nothing is told, and by which nothing has another name
pub record IsUntold (labels : Labels) (es : List Event) : Type 0 where
  pub entries : entries_of labels es ≡ []
  pub named : labels_after es labels ≡ labels

pub none_untold : (labels : Labels) (es : List Event) → es ≡ [] → IsUntold labels es
none_untold labels es e = record { entries = ap (entries_of labels) e; named = ap (λ fs. labels_after fs labels) e }

-- what is told behind them, and what things are called then
pub entries_behind : (labels : Labels) (es more : List Event) → IsUntold labels es → entries_of labels (es ++ more) ≡ entries_of labels more
entries_behind labels es more h =
    entries_more labels es more ∙ ap (λ ts. ts ++ entries_of (labels_after es labels) more) h.entries ∙ ap (λ ls. entries_of ls more) h.named

pub labels_behind : (labels : Labels) (es more : List Event) → IsUntold labels es → labels_after (es ++ more) labels ≡ labels_after more labels
labels_behind labels es more h = labels_more labels es more ∙ ap (labels_after more) h.named

-- of another value that nobody is notified of nothing is told
pub quiet_untold : (labels : Labels) (n : ℕ) (v : Value) (w : World) → IsUntold labels w.told → IsUntold labels (with_quiet_value n v w).told
quiet_untold labels n v w h = record {
  entries = entries_behind labels w.told (changed_signal n Set ∷ []) h;
  named = labels_behind labels w.told (changed_signal n Set ∷ []) h;
}

-- all that was told, and nothing more
pub told_only : (labels : Labels) (es : List Event) → IsTold labels (es ++ []) (entries_of labels es)
told_only labels es =
    subst (λ ts. IsTold labels (es ++ []) ts) (append-nil (entries_of labels es)) (told_then labels es [] [] (no_more (labels_after es labels)))

-- nothing happened
pub untold : (labels : Labels) (es : List Event) → es ≡ [] → IsTold labels es []
untold labels es e = subst (λ ts. IsTold labels ts []) (sym e) (no_more labels)

-- an answer alone
pub answer_only : (labels : Labels) (a : Entry) → is_answer a ≡ true → IsTold labels [] (a ∷ [])
answer_only labels a k = answered labels a [] [] k (no_more labels)

-- answers, and what is told behind them
pub answers_then : (labels : Labels) (answers : List Entry) (es : List Event) (rest : List Entry) → list_all is_answer answers ≡ true
    → IsTold labels es rest → IsTold labels es (answers ++ rest)
answers_then labels [] es rest k h = h
answers_then labels (a ∷ answers) es rest k h =
    let both = and_parts (is_answer a) (list_all is_answer answers) k in
    answered labels a es (answers ++ rest) both.0 (answers_then labels answers es rest both.1 h)

-- answers and nothing more
pub answers_only : (labels : Labels) (answers : List Entry) → list_all is_answer answers ≡ true → IsTold labels [] answers
answers_only labels answers k = subst (λ ts. IsTold labels [] ts) (append-nil answers) (answers_then labels answers [] [] k (no_more labels))

-- what is told of a page answers
pub page_answers : (n : List ℕ) (ops : List Op) (html : List ℕ) → list_all is_answer (ops_told n ops ++ entry.Page n html ∷ []) ≡ true
page_answers n [] html = refl
page_answers n (o ∷ ops) html = page_answers n ops html

-- so does its news
pub news_answer : (p : Page) (ops : List Op) → list_all is_answer (news_of p ops) ≡ true
news_answer p [] = refl
news_answer p (o ∷ ops) = page_answers p.name (o ∷ ops) (page_html p)

-- what is told of a chain answers
links_answer : (names : List (List ℕ)) (n : List ℕ) (ls : List Link) → list_all is_answer (link_entries names n ls) ≡ true
links_answer names n [] = refl
links_answer names n (l ∷ ls) = links_answer names (name_next names n l.cause) ls

pub why_answers : (names : List (List ℕ)) (n : List ℕ) (o : Option (List Link)) → list_all is_answer (why_entries names n o) ≡ true
why_answers names n None = refl
why_answers names n (Some ls) = links_answer names n ls
