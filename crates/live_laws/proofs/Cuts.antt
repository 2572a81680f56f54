-- The items of a script that is cut, what they tell, and what is printed of them.
use Rattle.std.proofs.Common.{◌≡◌, ℕ, Bool, true, false, List, [], ◌∷◌, ◌++◌, append_assoc, refl, sym, ap, ◌∙◌}
use Rattle.std.specs.Prelude.{flat_map}
use Rattle.std.proofs.lemmas.List.Concat.{flat_map-append}
use Rattle.effect_model.specs.Worlds.{Environment}
use Rattle.script_lines.specs.Lines.{EndsLine, kept_lines}
use Rattle.script_lines.specs.Pieces.{outside, place_after}
use Rattle.live_cmd.specs.declared.command.Item.{Item}
use Rattle.script_items.specs.Items.{ItemsFrom}
use Rattle.live_entries.specs.declared.entry.Entry.{Entry}
use Rattle.live_entries.specs.Printed.{printed}
use Rattle.live_words.specs.declared.jobs.ScriptJob.TheVariants as job
use Rattle.live_model.specs.Machine.{Machine, step}
use Rattle.live_model.specs.Output.{entries_from, machine_after}
use Rattle.live_laws.specs.Cuts.{EntriesLaw, IsWhole, ItemsLaw, OutputLaw, PartsLaw, next_number}
use Rattle.live_laws.proofs.Ends.{whole_closed}

-- how `items_cut` and `one_list` of `script_items` are had
abbrev pub ItemsCut : Type 0
ItemsCut = (n : ℕ) (x y : List ℕ) (is js : List Item) → EndsLine x → place_after outside (kept_lines n x) ≡ outside
    → ItemsFrom n x is → ItemsFrom (next_number n x) y js → ItemsFrom n (x ++ y) (is ++ js)

abbrev pub SomeItems : Type 0
SomeItems = (n : ℕ) (script : List ℕ) → (is : List Item) × ItemsFrom n script is

abbrev pub OneList : Type 0
OneList = (n : ℕ) (script : List ℕ) (is js : List Item) → ItemsFrom n script is → ItemsFrom n script js → is ≡ js

-- the items of both parts, one after the other
both_items : ItemsCut → (n : ℕ) (x y : List ℕ) (is js : List Item) → IsWhole x → ItemsFrom n x is → ItemsFrom (next_number n x) y js →
    ItemsFrom n (x ++ y) (is ++ js)
both_items cut n x y is js w a b = cut n x y is js w.line (whole_closed n x w) a b

pub items_law : ItemsCut → OneList → ItemsLaw
items_law cut one n x y is js w a b =
    let h = both_items cut n x y is js w a b in
    (h, λ ks k. one n (x ++ y) ks (is ++ js) k h)

pub parts_law : ItemsCut → SomeItems → OneList → PartsLaw
parts_law cut some one n x y ks w k =
    let a = some n x in
    let b = some (next_number n x) y in
    (a.0, b.0, a.1, b.1, one n (x ++ y) ks (a.0 ++ b.0) k (both_items cut n x y a.0 b.0 w a.1 b.1))

-- what items tell, one after the other
told_cut : (env : Environment) (m : Machine) (is js : List Item) →
    entries_from env m (is ++ js) ≡ entries_from env m is ++ entries_from env (machine_after env m is) js
told_cut env m [] js = refl
told_cut env m (i ∷ is) js =
    ap (λ (es : List Entry). (step env m i).entries ++ es) (told_cut env (step env m i).machine is js)
    ∙ sym (append_assoc (step env m i).entries (entries_from env (step env m i).machine is) (entries_from env (machine_after env m (i ∷ is)) js))

machine_cut : (env : Environment) (m : Machine) (is js : List Item) → machine_after env m (is ++ js) ≡ machine_after env (machine_after env m is) js
machine_cut env m [] js = refl
machine_cut env m (i ∷ is) js = machine_cut env (step env m i).machine is js

pub entries_law : EntriesLaw
entries_law env m is js = (told_cut env m is js, machine_cut env m is js)

-- the lines of what items tell, one after the other
lines_cut : (trace : Bool) (env : Environment) (m : Machine) (is js : List Item) →
    flat_map (printed trace) (entries_from env m (is ++ js))
    ≡ flat_map (printed trace) (entries_from env m is) ++ flat_map (printed trace) (entries_from env (machine_after env m is) js)
lines_cut trace env m is js =
    ap (flat_map (printed trace)) (told_cut env m is js)
    ∙ flat_map-append (printed trace) (entries_from env m is) (entries_from env (machine_after env m is) js)

-- the lines of a script, where the items of the first part are known
printed_cut : ItemsCut → SomeItems → OneList → (trace : Bool) (env : Environment) (m : Machine) (n : ℕ) (x y : List ℕ) (is ks : List Item) →
    IsWhole x → ItemsFrom n x is → ItemsFrom n (x ++ y) ks →
    (js : List Item) × ItemsFrom (next_number n x) y js
    × (flat_map (printed trace) (entries_from env m ks)
    ≡ flat_map (printed trace) (entries_from env m is) ++ flat_map (printed trace) (entries_from env (machine_after env m is) js))
printed_cut cut some one trace env m n x y is ks w a k =
    let b = some (next_number n x) y in
    let e : ks ≡ is ++ b.0 = one n (x ++ y) ks (is ++ b.0) k (both_items cut n x y is b.0 w a b.1) in
    (b.0, b.1, ap (λ (os : List Item). flat_map (printed trace) (entries_from env m os)) e ∙ lines_cut trace env m is b.0)

pub run_law : ItemsCut → SomeItems → OneList → OutputLaw job.Run
run_law cut some one = printed_cut cut some one false

pub trace_law : ItemsCut → SomeItems → OneList → OutputLaw job.Trace
trace_law cut some one = printed_cut cut some one true
