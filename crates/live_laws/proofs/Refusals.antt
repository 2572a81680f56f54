-- What refused items leave.
use Rattle.std.proofs.Common.{◌≡◌, ℕ, Bool, true, false, List, [], ◌∷◌, ◌++◌, Option, None, refl, sym, ap, ◌∙◌}
use Rattle.std.specs.Prelude.{unwrap_or}
use Rattle.std.specs.Option.{option_map, option_map_or, option_or}
use Rattle.sig_base.specs.Values.{scalar_value}
use Rattle.sig_base.specs.declared.value.Value.{Value}
use Rattle.sig_base.specs.declared.value.Value.TheVariants as value
use Rattle.signal_model.specs.Signals.{Cell, IsCell, Stands, standing}
use Rattle.effect_model.specs.Worlds.{Environment, Event, Watcher, World, at_rest, changed_signal}
use Rattle.effect_model.specs.Acts.{are_alike, frozen_by, set_cell, set_standing, told_frozen, told_of, with_new_value, with_quiet_value}
use Rattle.effect_model.specs.Batches.{Batch}
use Rattle.effect_model.specs.Runs.{flush}
use Rattle.effect_model.specs.declared.how.How.TheVariants.{Set}
use Rattle.why_model.specs.Facts.{Fact}
use Rattle.why_model.specs.Records.{Journal, with_facts}
use Rattle.why_model.specs.Told.{facts_told}
use Rattle.why_model.proofs.Shared.{facts_append}
use Rattle.live_cmd.specs.declared.command.Command.{Command}
use Rattle.live_cmd.specs.declared.command.Bare.TheVariants as bares
use Rattle.live_cmd.specs.declared.command.Command.TheVariants as command
use Rattle.live_cmd.specs.declared.command.Item.TheVariants as item
use Rattle.live_entries.specs.declared.entry.Entry.{Entry}
use Rattle.live_entries.specs.declared.refusal.Refusal.{Refusal}
use Rattle.live_model.specs.Journals.{noting}
use Rattle.live_model.specs.Labels.{Labels, labels_after}
use Rattle.live_model.specs.Machine.{Machine, Told, acted, acted_on_pages, after_turns, batch_refusal, done, entries_of, flushing, refused, setting, setting_by, step, reached}
use Rattle.live_model.specs.Names.{number_of}
use Rattle.live_model.specs.Rows.{edited, rows_at}
use Rattle.live_laws.specs.Refusals.{ChangeLaw, IsChange, RefusedFlushLaw, RefusedLaw, changed_to, freezing, notices, notified_of}
use Rattle.live_laws.proofs.Entries.{IsUntold, entries_behind, labels_behind, none_untold, quiet_untold}

pub refused_law : RefusedLaw
refused_law env m (item.Do c) r e = ap (λ (o : Option Refusal). option_map_or (refused m) o (done env m c)) e
refused_law env m (item.Refused q) r e = ap (λ (o : Option Refusal). refused m (unwrap_or o q)) e

-- ---- a change

-- what such a command does is what setting the cell does
pub set_done : (env : Environment) (m : Machine) (c : Command) (i : ℕ) (v : Value) → IsChange m c i v → done env m c ≡ setting env m i v
set_done env m (command.Set n s) i v h = ap (λ (k : ℕ). setting env m k (scalar_value s)) h.0 ∙ ap (setting env m i) h.1
set_done env m (command.Edit n e) i v h =
    ap (λ (k : ℕ). setting env m k (value.Rows (edited e (rows_at m.world.signals (number_of m.names n))))) h.0 ∙ ap (setting env m i) h.1
set_done env m _ i v h = absurd h

-- a cell whose equality calls the value another one
another_value : (env : Environment) (i : ℕ) (v : Value) (w : World) (x : Cell) → standing w.signals i ≡ IsCell x → are_alike env.slacks x.rule x.value v ≡ false →
    set_cell env i v w ≡ with_new_value i v w
another_value env i v w x stands other = ap (λ (s : Stands). set_standing s env i v w) stands ∙ rw other refl

-- notices give nothing another name
same_labels : (labels : Labels) (xs : List Watcher) (ns : List ℕ) → labels_after (told_of xs ++ told_frozen ns) labels ≡ labels
same_labels labels [] [] = refl
same_labels labels [] (n ∷ ns) = refl
same_labels labels (x ∷ xs) ns = same_labels labels xs ns

notices_told : (labels : Labels) (xs : List Watcher) (ns : List ℕ) → entries_of labels (told_of xs ++ told_frozen ns) ≡ notices labels xs ++ freezing labels ns
notices_told labels [] [] = refl
notices_told labels [] (n ∷ ns) = refl
notices_told labels (x ∷ xs) ns = ap (λ (es : List Entry). notices labels (x ∷ []) ++ es) (notices_told labels xs ns)

-- notices are no facts
no_facts_frozen : (ns : List ℕ) → facts_told (told_frozen ns) ≡ []
no_facts_frozen [] = refl
no_facts_frozen (n ∷ ns) = refl

notices_unnoted : (es : List Event) (xs : List Watcher) (ns : List ℕ) → facts_told (es ++ (told_of xs ++ told_frozen ns)) ≡ facts_told es
notices_unnoted es xs ns = go es
  where
    none : (ys : List Watcher) → facts_told (told_of ys ++ told_frozen ns) ≡ []
    none [] = no_facts_frozen ns
    none (y ∷ ys) = none ys

    go : (fs : List Event) → facts_told (fs ++ (told_of xs ++ told_frozen ns)) ≡ facts_told fs
    go [] = none xs
    go (f ∷ fs) = facts_append (f ∷ []) (fs ++ (told_of xs ++ told_frozen ns)) ∙ ap (λ (gs : List Fact). facts_told (f ∷ []) ++ gs) (go fs)
        ∙ sym (facts_append (f ∷ []) fs)

-- what is noted of the same facts is the same
noted_same : (es fs : List Event) (j : Option Journal) → facts_told es ≡ facts_told fs → noting es j ≡ noting fs j
noted_same es fs j e = ap (λ (gs : List Fact). option_map (with_facts gs) j) e

-- what is told and noted of a world behind which nothing has another name
pub acted_as : (m : Machine) (w : World) (ts : List Entry) (es : List Event) → labels_after w.told m.labels ≡ m.labels → entries_of m.labels w.told ≡ ts →
    facts_told w.told ≡ facts_told es → acted m w ≡ reached (record m { world = at_rest w; journal = noting es m.journal }) ts
acted_as m w ts es labels entries facts =
    (λ i. reached (record m { labels = labels i; world = at_rest w; journal = noted_same w.told es m.journal facts i }) (entries i))

-- a world that tells these notices, behind what isn't told
pub acted_notices : (m : Machine) (w : World) (es : List Event) (xs : List Watcher) (ns : List ℕ) → w.told ≡ es ++ (told_of xs ++ told_frozen ns) →
    IsUntold m.labels es → acted m w ≡ reached (record m { world = at_rest w; journal = noting es m.journal }) (notices m.labels xs ++ freezing m.labels ns)
acted_notices m w es xs ns e h =
    acted_as m w (notices m.labels xs ++ freezing m.labels ns) es
    (ap (λ (fs : List Event). labels_after fs m.labels) e ∙ labels_behind m.labels es (told_of xs ++ told_frozen ns) h ∙ same_labels m.labels xs ns)
    (ap (entries_of m.labels) e ∙ entries_behind m.labels es (told_of xs ++ told_frozen ns) h ∙ notices_told m.labels xs ns)
    (ap facts_told e ∙ notices_unnoted es xs ns)

pub change_law : ChangeLaw
change_law env m c i v x quiet none fine change stands other =
    let xs = notified_of m.world i v in
    let w : World = with_quiet_value i v m.world in
    ap (λ (o : Option Refusal). option_map_or (refused m) o (done env m c)) fine
    ∙ set_done env m c i v change
    ∙ ap (λ (b : Option Batch). setting_by env m b i v) none
    ∙ ap (acted m) (another_value env i v m.world x stands other)
    ∙ acted_notices m (with_new_value i v m.world) w.told xs (frozen_by xs) refl (quiet_untold m.labels i v m.world (none_untold m.labels m.world.told quiet))
    ∙ ap (λ (es : List Event). reached (record m { world = at_rest (changed_to i v m.world); journal = noting (es ++ changed_signal i Set ∷ []) m.journal })
    (notices m.labels xs ++ freezing m.labels (frozen_by xs))) quiet

-- ---- a refused flush

pub refused_flush_law : RefusedFlushLaw
refused_flush_law env m none e =
    let t : Told = acted_on_pages m (flush env m.world).world in
    let s : step env m (item.Do (command.Bare bares.Flush)) ≡ after_turns env true t =
    ap (λ (b : Option Batch). option_map_or (refused m) (option_or (batch_refusal b (command.Bare bares.Flush)) None) (flushing env m)) none
    ∙ ap (λ (b : Bool). after_turns env b t) e in
    record { done = s; pages = ap (λ (r : Told). r.machine.pages) s }
