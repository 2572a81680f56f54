use Rattle.signal_laws.proofs.FirstNames.{firsts_hold_law, firsts_append_law, firsts_front_law}
use Rattle.signal_laws.proofs.laws.first_names_law.Goals as goal

pub returns-clause-hold : goal.returns-clause-hold
returns-clause-hold c = firsts_hold_law

pub returns-clause-append : goal.returns-clause-append
returns-clause-append c = firsts_append_law

pub returns-clause-front : goal.returns-clause-front
returns-clause-front c = firsts_front_law
