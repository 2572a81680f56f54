use Rattle.std.proofs.Common.{◌∙◌, [], Option, map, sym, ap}
use Rattle.std.specs.Option.{option_map_or}
use Rattle.effect_world.specs.Wholes.{whole_of}
use Rattle.sig_effect.specs.Stores.{environment}
use Rattle.live_cmd.specs.declared.command.Command.TheVariants as command
use Rattle.live_model.specs.declared.names.Kind.TheVariants as kind
use Rattle.live_model.specs.declared.names.Meaning.{Meaning}
use Rattle.live_model.specs.declared.names.Need.TheVariants as need
use Rattle.live_model.specs.Names.{number_of, refusal_at}
use Rattle.live_core.specs.Views.{plain_of}
use Rattle.live_core.proofs.Shared.{cell_stands, setting_as}
use Rattle.live_items.proofs.Refused.{done_so, refused_leaves, refused_step, refused_steps, set_refused}
use Rattle.live_items.proofs.commands.try_set.Goals as goal

pub set_value-requires-clause-kind : goal.set_value-requires-clause-kind
set_value-requires-clause-kind g c =
    let m = c.args.machine.now in
    let fine = sym (c.in_ok-refusal.ensures [] ∙ ap (refusal_at (whole_of [] m.world) (c.args.name, need.Of kind.Cell)) c.meaning_of-meaning.ensures) ∙ c.in_default.is in
    let number = c.of-cell.ensures ∙ c.number_meant.ensures ∙ ap (λ (o : Option Meaning). option_map_or (λ (x : Meaning). x.number) o 0) c.meaning_of-meaning.ensures in
    (cell_stands m c.args.name c.of-cell.result c.requires.ready.meant fine number).0

pub set_value-requires-clause-there : goal.set_value-requires-clause-there
set_value-requires-clause-there g c =
    let m = c.args.machine.now in
    let fine = sym (c.in_ok-refusal.ensures [] ∙ ap (refusal_at (whole_of [] m.world) (c.args.name, need.Of kind.Cell)) c.meaning_of-meaning.ensures) ∙ c.in_default.is in
    let number = c.of-cell.ensures ∙ c.number_meant.ensures ∙ ap (λ (o : Option Meaning). option_map_or (λ (x : Meaning). x.number) o 0) c.meaning_of-meaning.ensures in
    (cell_stands m c.args.name c.of-cell.result c.requires.ready.meant fine number).1

pub returns-in-Some-clause-steps : goal.returns-in-Some-clause-steps
returns-in-Some-clause-steps g c = λ hosts asked sound.
    let m = c.args.machine.now in
    let slacks = map (λ r. r.slack) c.args.rules.now in
    let is = c.in_ok-refusal.ensures asked ∙ ap (refusal_at (whole_of asked m.world) (c.args.name, need.Of kind.Cell)) c.meaning_of-meaning.ensures in
    refused_steps c.refused.result (λ es. es.items) hosts asked m _ c.in-Some.refusal sound
    (refused_step (environment hosts slacks) (plain_of asked m) (command.Set c.args.name c.args.value) c.in-Some.refusal
    (sym c.in-Some.is ∙ is ∙ set_refused slacks (plain_of asked m) c.args.name c.args.value)) c.refused.ensures

pub returns-in-Some-clause-leaves : goal.returns-in-Some-clause-leaves
returns-in-Some-clause-leaves g c = λ hosts asked count sound. refused_leaves c.refused.result asked count c.args.machine.now c.requires.ready

pub returns-in-Ok-clause-steps : goal.returns-in-Ok-clause-steps
returns-in-Ok-clause-steps g c = λ hosts asked sound.
    let m = c.args.machine.now in
    let slacks = map (λ r. r.slack) c.args.rules.now in
    let is = c.in_ok-refusal.ensures asked ∙ ap (refusal_at (whole_of asked m.world) (c.args.name, need.Of kind.Cell)) c.meaning_of-meaning.ensures in
    let number = c.of-cell.ensures ∙ c.number_meant.ensures ∙ ap (λ (o : Option Meaning). option_map_or (λ (x : Meaning). x.number) o 0) c.meaning_of-meaning.ensures in
    done_so hosts asked c.set_value.new.self _ (environment hosts slacks) (plain_of asked m) (command.Set c.args.name c.args.value)
    (sym (is ∙ set_refused slacks (plain_of asked m) c.args.name c.args.value) ∙ c.in_default.is)
    (setting_as hosts (environment hosts slacks) asked m _ _ _ (number_of m.names c.args.name) _ _ number c.into.ensures (rw c.in-Ok.is at c.set_value.ensures.steps hosts asked sound))

pub returns-in-Ok-clause-leaves : goal.returns-in-Ok-clause-leaves
returns-in-Ok-clause-leaves g c = λ hosts asked count sound. rw c.in-Ok.is at c.set_value.ensures.leaves hosts asked count sound
