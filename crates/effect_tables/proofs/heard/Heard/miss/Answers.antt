use Rattle.std.proofs.Common.{ap, refl, sym, ◌∙◌}
use Rattle.std.proofs.lemmas.Bool.{true≢false}
use Rattle.effect_tables.proofs.Found.{nowhere_is, place_is}
use Rattle.effect_tables.proofs.Marks.{at_nowhere, at_other}
use Rattle.effect_tables.specs.Heard.{is_marked}
use Rattle.effect_tables.proofs.heard.Heard.miss.Goals as goal

pub returns-in_default : goal.returns-in_default
returns-in_default c = record {
  marked = λ p on. on;
  off = λ p x on at. at_nowhere c.args.id p c.args.effects.now x (nowhere_is c.args.id c.args.effects.now c.in_default.ensures) at;
  readers = refl;
}

pub returns : goal.returns
returns c = record {
  marked = c.rouse.ensures.less;
  off = λ p x on at.
      at_other c.args.id p c.in-Some.place 0 c.args.effects.now x c.requires (place_is c.args.id c.args.effects.now c.in-Some.place c.in-Some.ensures)
      (λ e. true≢false (sym on ∙ ap (λ q. is_marked q c.rouse.new.self) e ∙ c.rouse.ensures.off)) at;
  readers = refl;
}
