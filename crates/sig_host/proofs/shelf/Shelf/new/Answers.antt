use Rattle.sig_host.proofs.Places.{answers_lent, counted_new}
use Rattle.sig_host.proofs.shelf.Shelf.new.Goals as goal

pub returns-clause-answers : goal.returns-clause-answers
returns-clause-answers g c = answers_lent _ c.args.hosts.items _ c.in_ok-places.ensures.meanings

pub returns-clause-counted : goal.returns-clause-counted
returns-clause-counted g c = counted_new c.args.hosts.items _ _ c.in_ok-places.ensures.answered c.in_ok-places.ensures.asked
