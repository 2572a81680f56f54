use Rattle.std.proofs.Common.{List, length, sym, ap, ◌∙◌, subst, arith, refl}
use Rattle.std.proofs.lemmas.List.{length-map}
use Rattle.effect_model.specs.Acts.{forget}
use Rattle.effect_model.specs.Worlds.{Watcher}
use Rattle.sig_watcher.specs.Numbers.{Rises}
use Rattle.sig_watcher.proofs.Places.{rises_map}
use Rattle.sig_watcher.proofs.watchers.Watchers.forget.Goals as goal

pub invariant_of-self : goal.invariant_of-self
invariant_of-self c =
    record {
      rising = subst (λ (xs : List Watcher). Rises 0 xs c.self.inside.made) (sym c.forget_all.ensures) (rises_map 0 c.self.inside.made (forget c.args.id) c.self.inside.watchers.items (λ x. refl) c.self.invariant.rising);
      room = let room = c.self.invariant.room in let len = ap length c.forget_all.ensures ∙ length-map c.self.inside.watchers.items (forget c.args.id) in omega (arith, room, len);
    }
