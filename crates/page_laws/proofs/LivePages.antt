-- The pages of a script are live.
use Rattle.std.proofs.Common.{◌≡◌, ℕ, List, [], ◌∷◌, ◌++◌, Option, None, sym, ap, subst, ◌∙◌}
use Rattle.std.specs.List.{AllByRecursion}
use Rattle.std.specs.Option.{option_map_or, option_or}
use Rattle.sig_host.specs.Loans.{LendsRows}
use Rattle.effect_model.specs.Batches.{Batch}
use Rattle.effect_model.specs.Worlds.{Environment}
use Rattle.script_lines.specs.Pieces.{Piece, pieces_of}
use Rattle.script_items.specs.Items.{AreItems}
use Rattle.live_cmd.specs.declared.command.Bare.TheVariants as bares
use Rattle.live_cmd.specs.declared.command.Command.TheVariants as command
use Rattle.live_cmd.specs.declared.command.Item.{Item}
use Rattle.live_entries.specs.Printed.{IsSizedEntry}
use Rattle.live_model.specs.Laws.{ShowsScratch}
use Rattle.live_model.specs.Machine.{Machine, Told, batch_refusal, empty, flushing, refused, step}
use Rattle.live_model.specs.Output.{entries_from}
use Rattle.live_model.proofs.Shared.{flush_law, item_read}
use Rattle.page_laws.specs.LivePages.{IsFlush, IsLive, IsShown, KeepsLive, LiveLaw, ShownLaw}
use Rattle.page_laws.proofs.Operations.{OneReading}
use Rattle.page_laws.proofs.Steps.{IsSound, Steps, item_step}

-- what holds of all holds of both parts
all_parts : {A : Type 0} (P : A → Type 0) (xs ys : List A) → AllByRecursion P (xs ++ ys) → AllByRecursion P xs × AllByRecursion P ys
all_parts P [] ys h = (tt, h)
all_parts P (x ∷ xs) ys h = let both = all_parts P xs ys h.1 in ((h.0, both.0), both.1)

-- where no batch is open, a flush is done
flush_done : (env : Environment) (m : Machine) (i : Item) → IsFlush env m i → step env m i ≡ flushing env m
flush_done env m i f =
    ap (step env m) f.0
    ∙ ap (λ (b : Option Batch). option_map_or (refused m) (option_or (batch_refusal b (command.Bare bares.Flush)) None) (flushing env m)) f.1

-- it shows pages as they are from scratch
item_shown : (env : Environment) (m : Machine) (i : Item) → IsShown env m i
item_shown env m i f =
    subst (λ (t : Told). AllByRecursion (ShowsScratch env t.machine) t.machine.pages) (sym (flush_done env m i f)) (flush_law env m f.2)

pub shown_law : ShownLaw
shown_law env m [] = tt
shown_law env m (i ∷ is) = (item_shown env m i, shown_law env (step env m i).machine is)

-- an item whose step leads to its pages
keeps_live : (env : Environment) (m : Machine) (i : Item) → Steps m (step env m i) → AllByRecursion IsSizedEntry (step env m i).entries → KeepsLive env m i
keeps_live env m i s z = record { shown = item_shown env m i; led = s.led z }

items_live : (one : OneReading) (env : Environment) (m : Machine) (ps : List Piece) (is : List Item) → LendsRows env.hosts → IsSound m → AreItems ps is →
    AllByRecursion IsSizedEntry (entries_from env m is) → IsLive env m is
items_live one env m [] [] lends s h z = tt
items_live one env m [] (i ∷ is) lends s h z = absurd h
items_live one env m (p ∷ ps) [] lends s h z = absurd h
items_live one env m (p ∷ ps) (i ∷ is) lends s h z =
    let t : Steps m (step env m i) = item_step one env m i lends s (item_read p i h.0) in
    let both = all_parts IsSizedEntry (step env m i).entries (entries_from env (step env m i).machine is) z in
    (keeps_live env m i t both.0, items_live one env (step env m i).machine ps is lends t.sound h.1 both.1)

empty_sound : (hosts : ℕ) → IsSound (empty hosts)
empty_sound hosts = record { templates = tt; pages = tt; named = tt; apart = tt; world = (tt, tt); batch = tt }

-- where a text is that of one operation
pub live_law : OneReading → LiveLaw
live_law one env hosts script is lends h z = items_live one env (empty hosts) (pieces_of 1 script) is lends (empty_sound hosts) h z
