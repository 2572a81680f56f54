-- A journal that begins has the facts of all that has happened.
use Rattle.std.proofs.Common.{◌≡◌, ◌≤◌, ℕ, Bool, true, false, cond, List, [], ◌∷◌, ◌++◌, append_assoc, Some, None, refl, sym, ap, arith, ◌∙◌}
use Rattle.std.specs.Prelude.{◌||◌, is_some, nat_lt}
use Rattle.std.proofs.lemmas.Bool.{ltb-false}
use Rattle.effect_model.specs.Worlds.{Environment, Event, World, at_rest}
use Rattle.effect_model.specs.Commands.{Command, after_command, after_commands, new_world}
use Rattle.effect_tables.specs.Roots.{AreBare, Rests}
use Rattle.effect_tables.proofs.Shared.{commands_rest}
use Rattle.live_cmd.specs.declared.command.Bare.TheVariants as bares
use Rattle.live_cmd.specs.declared.command.Command.TheVariants as command
use Rattle.live_cmd.specs.declared.command.Item.{Item}
use Rattle.why_model.specs.Facts.{Fact}
use Rattle.why_model.specs.Records.{no_facts, with_facts}
use Rattle.why_model.specs.Told.{facts_told}
use Rattle.why_model.proofs.Shared.{facts_append}
use Rattle.why_laws.specs.Journals.{BeginningLaw}
use Rattle.live_model.specs.Machine.{Machine, empty, step}
use Rattle.live_model.specs.Output.{machine_after}
use Rattle.live_laws.specs.Rested.{rested_after, told_by}
use Rattle.live_laws.specs.Events.{deeds_of_item, happened, records, WholeJournalLaw}
use Rattle.live_laws.proofs.Events.{deeds_of_items, happened_told, happens_law, notes_law, rows_fine}
use Rattle.live_laws.proofs.Rests.{quiet_after, rested_more, told_all}

-- ---- items, and more items

after_more : (env : Environment) (is js : List Item) (m : Machine) → machine_after env m (is ++ js) ≡ machine_after env (machine_after env m is) js
after_more env [] js m = refl
after_more env (i ∷ is) js m = after_more env is js (step env m i).machine

happened_more : (env : Environment) (is js : List Item) (m : Machine) → happened env m (is ++ js) ≡ happened env m is ++ happened env (machine_after env m is) js
happened_more env [] js m = refl
happened_more env (i ∷ is) js m =
    let next : Machine = (step env m i).machine in
    let told : List Event = told_by env m.world (deeds_of_item env m i) in
    ap (λ (es : List Event). told ++ es) (happened_more env is js next) ∙ sym (append_assoc told (happened env next is) (happened env (machine_after env next is) js))

-- the world that items come to
world_after : (env : Environment) (is : List Item) (m : Machine) → m.world.told ≡ [] →
    (machine_after env m is).world ≡ rested_after env m.world (deeds_of_items env m is)
world_after env [] m quiet = refl
world_after env (i ∷ is) m quiet =
    let cs : List Command = deeds_of_item env m i in
    let next : Machine = (step env m i).machine in
    let there : next.world ≡ rested_after env m.world cs = (happens_law env m i quiet).world in
    let still : next.world.told ≡ [] = ap (λ (v : World). v.told) there ∙ quiet_after env cs m.world quiet in
    world_after env is next still ∙ ap (λ v. rested_after env v (deeds_of_items env next is)) there
    ∙ sym (rested_more env cs (deeds_of_items env next is) m.world)

-- it is that which commands come to without a rest between them
rested_whole : (env : Environment) (cs : List Command) (w : World) → AreBare w.owned → rested_after env (at_rest w) cs ≡ at_rest (after_commands env w cs)
rested_whole env [] w h = refl
rested_whole env (c ∷ cs) w h =
    let r : Rests (λ v. after_command env v c) = commands_rest env c in
    ap (λ u. rested_after env u cs) (r.whole w h) ∙ rested_whole env cs (after_command env w c) (r.bare w h)

-- ---- a journal that begins

-- it begins where no signal was made
none_made : {A : Type 0} (n : ℕ) (begun : Bool) (r : A) → cond (nat_lt 0 n || begun) (Some r) None ≡ None → n ≡ 0
none_made n begun r e = go (nat_lt 0 n) refl e
  where
    go : (b : Bool) → nat_lt 0 n ≡ b → cond (b || begun) (Some r) None ≡ None → n ≡ 0
    go true is h = absurd cc
    go false is h = let le : n ≤ 0 = ltb-false 0 n is in omega (arith, le)

pub whole_journal : BeginningLaw → WholeJournalLaw
whole_journal law env hosts before is fine =
    let first : Machine = empty hosts in
    let cs : List Command = deeds_of_items env first before in
    let m : Machine = machine_after env first before in
    let there : m.world ≡ rested_after env (new_world hosts) cs = world_after env before first refl in
    let quiet : m.world.told ≡ [] = ap (λ (v : World). v.told) there ∙ quiet_after env cs (new_world hosts) refl in
    let same : m.world ≡ at_rest (after_commands env (new_world hosts) cs) = there ∙ rested_whole env cs (new_world hosts) tt in
    let none : (after_commands env (new_world hosts) cs).made.signals ≡ 0 =
    sym (ap (λ (v : World). v.made.signals) same) ∙ none_made m.world.made.signals (is_some m.journal) _ (rows_fine env.slacks m (command.Bare bares.Record) fine) in
    let nothing : facts_told (happened env first before) ≡ [] =
    ap facts_told (happened_told env before first refl ∙ told_all env hosts cs) ∙ law env hosts cs none in
    let all : facts_told (happened env first (before ++ records ∷ is)) ≡ facts_told (happened env m (records ∷ is)) =
    ap facts_told (happened_more env before (records ∷ is) first) ∙ facts_append (happened env first before) (happened env m (records ∷ is))
    ∙ ap (λ (fs : List Fact). fs ++ facts_told (happened env m (records ∷ is))) nothing in
    ap (λ (n : Machine). n.journal) (after_more env before (records ∷ is) first)
    ∙ notes_law env m is quiet fine
    ∙ ap (λ (fs : List Fact). Some (with_facts fs no_facts)) (sym all)
