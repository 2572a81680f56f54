-- What reports print yet, when items and what they tell are taken in.
use Rattle.std.proofs.Common.{◌≡◌, ℕ, Bool, true, false, not, List, [], ◌∷◌, ◌++◌, flat_map, sym, ap, ◌∙◌, append_assoc, append-nil, refl}
use Rattle.std.proofs.lemmas.List.Concat.{flat_map-append}
use Rattle.bench_workload.specs.Summary.{summary_text}
use Rattle.bench_workload.specs.declared.summary.Counts.{Counts}
use Rattle.live_cmd.specs.declared.command.Command.{Command}
use Rattle.live_cmd.specs.declared.command.Item.{Item}
use Rattle.live_cmd.specs.declared.command.Item.TheVariants as item
use Rattle.live_entries.specs.declared.entry.Entry.{Entry}
use Rattle.live_entries.specs.Printed.{printed, AreLeft}
use Rattle.live_entries.proofs.Shared.{left_prints}
use Rattle.live_words.specs.declared.jobs.ScriptJob.TheVariants as job
use Rattle.wire_model.specs.Notes.{Note, frame, frames}
use Rattle.wire_model.specs.Wired.{Wires, notes_of, wired_from, wires_after}
use Rattle.page_wire.specs.Telling.{wires_behind}
use Rattle.live_report.specs.Counts.{added, counts_of, is_command, page_after}
use Rattle.live_report.specs.Reports.{output_of, still}
use Rattle.live_report.specs.declared.report.Report.{Report}
use Rattle.live_report.specs.declared.report.Report.TheVariants as report
use Rattle.live_report.proofs.Sums.{added_none, counts_more, none_added, page_more}

-- a summary before the first item
pub summary_begun : (n : ℕ) (counts : Counts) (page : List ℕ) → counts ≡ counts_of [] [] → page ≡ [] → (is : List Item) (es : List Entry) → still (report.Summary n counts page) is es ≡ output_of (job.Bench n) is es
unfolding still
summary_begun n counts page e f is es =
    ap (λ t. summary_text n t (page_after page es)) (ap (λ t. added t (counts_of is es)) e ∙ none_added (counts_of is es))
    ∙ ap (λ p. summary_text n (counts_of is es) (page_after p es)) f

-- a refused item isn't counted
pub refused_untold : (r : Report) (i : Item) → is_command i ≡ false → (is : List Item) (es : List Entry) → still r is es ≡ still r (i ∷ is) es
unfolding still counts_of
refused_untold r (item.Do c) e is es = absurd cc
refused_untold (report.Lines trace) (item.Refused f) e is es = refl
refused_untold (report.Summary n counts page) (item.Refused f) e is es = refl
refused_untold (report.Frames told) (item.Refused f) e is es = refl

-- what holds of any command holds of an item that is one
pub command_taken : (r after : Report) (i : Item) → is_command i ≡ true → ((c : Command) (is : List Item) (es : List Entry) → still after is es ≡ still r (item.Do c ∷ is) es) →
    (is : List Item) (es : List Entry) → still after is es ≡ still r (i ∷ is) es
command_taken r after (item.Do c) e h = h c
command_taken r after (item.Refused f) e h = absurd cc

-- one more item
pub summary_item : (n : ℕ) (counts next : Counts) (page : List ℕ) (i : Item) → next ≡ added counts (counts_of (i ∷ []) []) → (is : List Item) (es : List Entry) → still (report.Summary n next page) is es ≡ still (report.Summary n counts page) (i ∷ is) es
unfolding still
summary_item n counts next page i e is es =
    ap (λ t. summary_text n t (page_after page es)) (ap (λ t. added t (counts_of is es)) e ∙ counts_more counts (i ∷ []) is [] es)

-- what it tells
summary_entries : (n : ℕ) (counts next : Counts) (page last : List ℕ) (told : List Entry) → next ≡ added counts (counts_of [] told) → last ≡ page_after page told → (is : List Item) (es : List Entry) → still (report.Summary n next last) is es ≡ still (report.Summary n counts page) is (told ++ es)
unfolding still
summary_entries n counts next page last told e f is es =
    ap (λ t. summary_text n t (page_after last es)) (ap (λ t. added t (counts_of is es)) e ∙ counts_more counts [] is told es)
    ∙ ap (λ p. summary_text n (added counts (counts_of is (told ++ es))) p) (ap (λ p. page_after p es) f ∙ page_more page told es)

-- nothing is printed of it now
pub summary_behind : (n : ℕ) (counts next : Counts) (page last old new : List ℕ) (told : List Entry) → new ≡ old → next ≡ added counts (counts_of [] told) → last ≡ page_after page told →
    (is : List Item) (es : List Entry) → new ++ still (report.Summary n next last) is es ≡ old ++ still (report.Summary n counts page) is (told ++ es)
summary_behind n counts next page last old new told same e f is es =
    ap (λ (l : List ℕ). l ++ still (report.Summary n next last) is es) same
    ∙ ap (λ (l : List ℕ). old ++ l) (summary_entries n counts next page last told e f is es)

pub lines_entries : (trace : Bool) (old new : List ℕ) (told : List Entry) → new ≡ old ++ flat_map (printed trace) told → (is : List Item) (es : List Entry) → new ++ still (report.Lines trace) is es ≡ old ++ still (report.Lines trace) is (told ++ es)
unfolding still
lines_entries trace old new told e is es =
    ap (λ t. t ++ flat_map (printed trace) es) e ∙ append_assoc old (flat_map (printed trace) told) (flat_map (printed trace) es)
    ∙ ap (λ t. old ++ t) (sym (flat_map-append (printed trace) told es))

-- nothing is printed of what only a trace prints
pub lines_untraced : (trace : Bool) → not trace ≡ true → (is : List Item) (given all : List Entry) → AreLeft given all →
    still (report.Lines trace) is given ≡ still (report.Lines trace) is all
unfolding still
lines_untraced true e is given all h = absurd cc
lines_untraced false e is given all h = left_prints h

-- lines are printed of nothing but what items tell
pub lines_items : (trace : Bool) (i : Item) (is : List Item) (es : List Entry) → still (report.Lines trace) (i ∷ is) es ≡ still (report.Lines trace) is es
unfolding still
lines_items trace i is es = refl

-- the end
pub summary_ended : (n : ℕ) (counts : Counts) (page old new : List ℕ) → new ≡ old ++ summary_text n counts page → new ≡ old ++ still (report.Summary n counts page) [] []
unfolding still
summary_ended n counts page old new e = e ∙ ap (λ t. old ++ summary_text n t page) (sym (added_none counts))

-- ---- frames

-- the notes of some entries, and of others behind them
wired_more : (w : Wires) (es fs : List Entry) → wired_from w (es ++ fs) ≡ wired_from w es ++ wired_from (wires_behind w es) fs
wired_more w [] fs = refl
wired_more w (e ∷ es) fs =
    ap (λ (ns : List Note). notes_of w e ++ ns) (wired_more (wires_after w e) es fs)
    ∙ sym (append_assoc (notes_of w e) (wired_from (wires_after w e) es) (wired_from (wires_behind (wires_after w e) es) fs))

pub frames_entries : (w after : Wires) (old new : List ℕ) (told : List Entry) → new ≡ old ++ frames (wired_from w told) → after ≡ wires_behind w told →
    (is : List Item) (es : List Entry) → new ++ still (report.Frames after) is es ≡ old ++ still (report.Frames w) is (told ++ es)
unfolding still
frames_entries w after old new told e f is es =
    ap (λ (l : List ℕ). l ++ frames (wired_from after es)) e ∙ (append_assoc old (frames (wired_from w told)) (frames (wired_from after es))
    ∙ ap (λ (l : List ℕ). old ++ l) (ap (λ (v : Wires). frames (wired_from w told) ++ frames (wired_from v es)) f
    ∙ (sym (flat_map-append frame (wired_from w told) (wired_from (wires_behind w told) es)) ∙ ap frames (sym (wired_more w told es)))))

pub frames_ended : (w : Wires) (old : List ℕ) → old ≡ old ++ still (report.Frames w) [] []
unfolding still
frames_ended w old = sym (append-nil old)
