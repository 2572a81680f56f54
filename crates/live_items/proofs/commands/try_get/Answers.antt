use Rattle.std.proofs.Common.{◌∙◌, Option, sym, ap}
use Rattle.std.specs.Option.{option_map_or}
use Rattle.effect_world.specs.Wholes.{whole_of}
use Rattle.sig_effect.specs.Stores.{environment}
use Rattle.live_cmd.specs.declared.command.Command.TheVariants as command
use Rattle.live_cmd.specs.declared.command.Verb.TheVariants as verb
use Rattle.live_model.specs.declared.names.Meaning.{Meaning}
use Rattle.live_model.specs.declared.names.Need.TheVariants as need
use Rattle.live_model.specs.Names.{refusal_at}
use Rattle.live_core.specs.Views.{plain_of}
use Rattle.live_items.proofs.Refused.{did_so_for, get_refused, refused_step, refused_told}
use Rattle.live_items.proofs.commands.try_get.Goals as goal

pub get_untraced-requires-clause-known : goal.get_untraced-requires-clause-known
get_untraced-requires-clause-known g c =
    c.number_meant.ensures ∙ ap (λ (o : Option Meaning). option_map_or (λ (x : Meaning). x.number) o 0) c.meaning_of-meaning.ensures

pub returns-in-Some : goal.returns-in-Some
returns-in-Some g c = record {
  did = λ slacks count.
      let m = c.args.machine.now in
      let is = c.in_ok-refusal.ensures _ ∙ ap (refusal_at (whole_of _ m.world) (c.args.name, need.Signal)) c.meaning_of-meaning.ensures in
      refused_told _ _ count m _ _ _ _ c.in-Some.refusal c.requires.can.counted c.requires.can.ready
      (λ hosts. refused_step (environment hosts slacks) (plain_of _ m) (command.Named verb.Get c.args.name) c.in-Some.refusal
      (sym c.in-Some.is ∙ is ∙ get_refused slacks (plain_of _ m) c.args.name));
}

pub returns-in-Ok : goal.returns-in-Ok
returns-in-Ok g c = record {
  did = λ slacks count.
      let m = c.args.machine.now in
      let is = c.in_ok-refusal.ensures _ ∙ ap (refusal_at (whole_of _ m.world) (c.args.name, need.Signal)) c.meaning_of-meaning.ensures in
      did_so_for _ _ _ count _ _ _ _ _ _ _ slacks (plain_of _ m) (command.Named verb.Get c.args.name)
      (sym (is ∙ get_refused slacks (plain_of _ m) c.args.name) ∙ c.in_default.is) (rw c.in-Ok.is at c.get_untraced.ensures.did slacks count);
}
