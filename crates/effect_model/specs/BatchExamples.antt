-- Worked examples of batches: commands, changes in a batch, and what the definitions tell and leave.
use Rattle.std.specs.Prelude.{◌≡◌, ℕ, List, [], ◌∷◌, map, Some, None, true, false}
use Rattle.std.proofs.Common.{refl}
use Rattle.sig_base.specs.declared.value.Value.{Value}
use Rattle.sig_base.specs.declared.value.Outcome.TheVariants.{Good}
use Rattle.sig_formula.specs.declared.formula.BinOp.TheVariants.{Add}
use Rattle.sig_formula.specs.Trees.{slot, binary}
use Rattle.signal_model.specs.Recipes.{formula_recipe}
use Rattle.signal_model.specs.Signals.{Cell, standing}
use Rattle.signal_model.specs.Examples.{int}
use Rattle.effect_model.specs.declared.how.How.TheVariants.{Set}
use Rattle.effect_model.specs.Worlds.{Environment, changed_signal, notified, World}
use Rattle.effect_model.specs.Commands.{Command, cell, computed, watcher, watch, ask, new_world, after_command}
use Rattle.effect_model.specs.Labels.{labels_after}
use Rattle.effect_model.specs.Examples.{Line, run, notify, error_frozen, lines_told, new_cell, environment}
use Rattle.effect_model.specs.Batches.{Batch, set_quietly, joined_by, commit, abort}

-- ---- words for the examples

-- a command outside of a batch or one that changes nothing, and what is done in a batch
pub data Step : Type 0 where
  does : Command → Step
  begins : Step
  sets : ℕ → Value → Step
  commits : Step
  aborts : Step

-- a world, and the batch that is open in it
pub record Open : Type 0 where
  pub world : World
  pub batch : Batch

-- one equality rule calls whole numbers alike that are at most 5 apart
abbrev pub within_five : Environment
within_five = record environment { slacks = 5 ∷ [] }

-- what a step leaves; outside of a batch it has no cells
abbrev pub after_step : Step → Open → Open
after_step (does c) o = record o { world = after_command within_five o.world c }
after_step begins o = record o { batch = [] }
after_step (sets n v) o = record {
  world = set_quietly within_five n v o.world;
  batch = joined_by within_five.slacks (standing o.world.signals n) n v o.batch;
}
after_step commits o = record { world = commit within_five o.batch o.world; batch = [] }
after_step aborts o = record { world = abort o.batch o.world; batch = [] }

-- steps, one after the other
abbrev pub after_steps : List Step → Open → Open
after_steps [] o = o
after_steps (s ∷ ss) o = after_steps ss (after_step s o)

-- steps from nothing
abbrev pub left_by : List Step → Open
left_by ss = after_steps ss (record { world = new_world 0; batch = [] })

-- what they print
abbrev pub printed_by : List Step → List Line
printed_by ss = let told = (left_by ss).world.told in lines_told (labels_after [] told) told

-- the values of the cells afterwards
abbrev pub cells_after : List Step → List Value
cells_after ss = map (λ (c : Cell). c.value) (left_by ss).world.signals.cells

-- a = 10, which has the rule; b = 1; c = a + b. A watcher watches c, which is asked for.
abbrev pub a_sum : List Step → List Step
a_sum rest = does (cell (int 10) (Some 0) None) ∷ does (new_cell (int 1))
    ∷ does (computed (formula_recipe (binary Add (slot 0) (slot 1)) (0 ∷ 1 ∷ [])) None)
    ∷ does (watcher false) ∷ does (watch 0 (2 ∷ [])) ∷ does (ask (2 ∷ [])) ∷ rest

-- ---- what a commit tells

-- a and b are changed, and c is asked for while the batch is open: the watcher is notified once, as the batch is committed
pub told_once : printed_by (a_sum (begins ∷ sets 0 (int 20) ∷ sets 1 (int 2) ∷ does (ask (2 ∷ [])) ∷ commits ∷ []))
    ≡ run 2 (0 ∷ 1 ∷ []) (Good (int 11)) ∷ run 2 (0 ∷ 1 ∷ []) (Good (int 22)) ∷ notify 0 ∷ []
told_once = refl

-- what is changed back is told to nobody
pub changed_back : printed_by (a_sum (begins ∷ sets 1 (int 9) ∷ sets 1 (int 1) ∷ commits ∷ [])) ≡ run 2 (0 ∷ 1 ∷ []) (Good (int 11)) ∷ []
changed_back = refl

-- So is a change that the cell's rule calls none, though each of the two that it is made of was accepted. One that it doesn't is told, and
-- the tries of who is notified are refused once.
pub unlike_alone : printed_by (does (cell (int 10) (Some 0) None) ∷ does (watcher true) ∷ does (watch 0 (0 ∷ []))
    ∷ begins ∷ sets 0 (int 20) ∷ sets 0 (int 12) ∷ commits ∷ begins ∷ sets 0 (int 18) ∷ commits ∷ [])
    ≡ notify 0 ∷ error_frozen (0 ∷ []) ∷ []
unlike_alone = refl

-- One of two cells stays as it is in the end. Each watcher of the other is notified, in the order of making and once, also the one that
-- watches both; who watches only what stays is not.
pub each_once : printed_by (does (new_cell (int 0)) ∷ does (new_cell (int 0)) ∷ does (watcher false) ∷ does (watcher true) ∷ does (watcher false)
    ∷ does (watch 2 (1 ∷ 0 ∷ [])) ∷ does (watch 1 (1 ∷ [])) ∷ does (watch 0 (0 ∷ []))
    ∷ begins ∷ sets 1 (int 2) ∷ sets 0 (int 3) ∷ sets 0 (int 0) ∷ commits ∷ [])
    ≡ notify 1 ∷ notify 2 ∷ error_frozen (1 ∷ []) ∷ []
each_once = refl

-- ---- what joins a batch

-- a cell joins once, with its value as the batch began; one that is set to what its rule calls the same doesn't
pub joined_once : (left_by (a_sum (begins ∷ sets 1 (int 5) ∷ sets 0 (int 20) ∷ sets 0 (int 22) ∷ sets 0 (int 30) ∷ sets 1 (int 6) ∷ []))).batch
    ≡ (1, int 1) ∷ (0, int 10) ∷ []
joined_once = refl

pub same_joins_not : (left_by (a_sum (begins ∷ sets 0 (int 12) ∷ []))).batch ≡ []
same_joins_not = refl

-- ---- what an abort gives back

-- c is asked for while b is changed, and again after b has its earlier value back: it runs at both, and nobody is notified
pub given_back : (printed_by (a_sum (begins ∷ sets 1 (int 9) ∷ does (ask (2 ∷ [])) ∷ aborts ∷ does (ask (2 ∷ [])) ∷ []))
    ≡ run 2 (0 ∷ 1 ∷ []) (Good (int 11)) ∷ run 2 (0 ∷ 1 ∷ []) (Good (int 19)) ∷ run 2 (0 ∷ 1 ∷ []) (Good (int 11)) ∷ [])
    × (cells_after (a_sum (begins ∷ sets 1 (int 9) ∷ aborts ∷ [])) ≡ int 10 ∷ int 1 ∷ [])
given_back = (refl, refl)

-- giving back goes by sameness and not by the rule: 12 is alike to 10 and is put back to it, which raises the generation once more
pub given_back_exactly : (cells_after (a_sum (begins ∷ sets 0 (int 20) ∷ sets 0 (int 12) ∷ aborts ∷ [])) ≡ int 10 ∷ int 1 ∷ [])
    × ((left_by (a_sum (begins ∷ sets 0 (int 20) ∷ sets 0 (int 12) ∷ aborts ∷ []))).world.memos.generation ≡ 3)
given_back_exactly = (refl, refl)

-- what stands as it stood isn't given back, so that nothing runs anew for it and no number rises
pub nothing_given_back : (left_by (a_sum (begins ∷ sets 1 (int 9) ∷ sets 1 (int 1) ∷ aborts ∷ []))).world.memos.generation ≡ 2
nothing_given_back = refl

-- each set that is accepted is told as a change at once, and so is each giving back; a commit tells the notifications alone
pub changes_told : (left_by (does (new_cell (int 1)) ∷ does (watcher false) ∷ does (watch 0 (0 ∷ [])) ∷ begins ∷ sets 0 (int 2) ∷ commits
    ∷ does (watch 0 []) ∷ begins ∷ sets 0 (int 3) ∷ sets 0 (int 3) ∷ sets 0 (int 4) ∷ aborts ∷ [])).world.told
    ≡ changed_signal 0 Set ∷ notified 0 ∷ changed_signal 0 Set ∷ changed_signal 0 Set ∷ changed_signal 0 Set ∷ []
changes_told = refl

-- the three batches of one script: told once, changed back, given back
pub three_batches : printed_by (a_sum (begins ∷ sets 0 (int 20) ∷ sets 1 (int 2) ∷ does (ask (2 ∷ [])) ∷ commits
    ∷ does (watch 0 []) ∷ begins ∷ sets 0 (int 30) ∷ sets 0 (int 20) ∷ commits
    ∷ begins ∷ sets 1 (int 9) ∷ does (ask (2 ∷ [])) ∷ aborts ∷ does (ask (1 ∷ [])) ∷ does (ask (2 ∷ [])) ∷ []))
    ≡ run 2 (0 ∷ 1 ∷ []) (Good (int 11)) ∷ run 2 (0 ∷ 1 ∷ []) (Good (int 22)) ∷ notify 0 ∷ run 2 (0 ∷ 1 ∷ []) (Good (int 29))
    ∷ run 2 (0 ∷ 1 ∷ []) (Good (int 22)) ∷ []
three_batches = refl
