use Rattle.std.proofs.Common.{inl, inr}
use Rattle.effect_tables.proofs.Marks.{set_one}
use Rattle.effect_tables.proofs.quiet_places.set.Goals as goal

pub returns-then-place-len : goal.returns-then-place-len
returns-then-place-len c = λ p h. elim (set_one c.fill.new.marks.items c.args.place p h) [ inl was ↦ inl (c.in_ok-fill.ensures p was) | inr is ↦ inr is ]

pub returns : goal.returns
returns c = λ p h. inl (c.in_ok-fill.ensures p h)
