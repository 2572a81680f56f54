use Rattle.std.proofs.Common.{refl, ap, ◌∙◌, is_some}
use Rattle.sig_host.specs.Hosts.{is_there}
use Rattle.sig_host.proofs.Asks.{is_there-dropped}
use Rattle.sig_host.proofs.Places.{answers_gone, counted_set, dropped_set}
use Rattle.sig_host.proofs.shelf.Shelf.drop_host.Goals as goal

pub returns-clause-answers : goal.returns-clause-answers
returns-clause-answers g c = λ hosts all. answers_gone _ c.args.self.now.places.items c.args.place _ refl all

pub returns-clause-counted : goal.returns-clause-counted
returns-clause-counted g c = counted_set _ _ c.args.self.now.places.items c.args.place _ refl c.requires.counted

pub returns-clause-asked : goal.returns-clause-asked
returns-clause-asked g c =
    dropped_set (λ p. record { there = is_some p.host; asks = p.count }) c.args.self.now.places.items c.args.place _ _ c.requires.there c.index_mut-found.ensures.value refl

pub returns-clause-there : goal.returns-clause-there
returns-clause-there g c = λ other.
    ap (λ asked. is_there asked other)
    (dropped_set (λ p. record { there = is_some p.host; asks = p.count }) c.args.self.now.places.items c.args.place _ _ c.requires.there c.index_mut-found.ensures.value refl)
    ∙ is_there-dropped _ c.args.place other c.requires.there
