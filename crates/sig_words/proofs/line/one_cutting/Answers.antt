use Rattle.sig_words.proofs.Uniqueness.{one_cutting, no_cutting, one_place}
use Rattle.sig_words.proofs.line.one_cutting.Goals as goal

pub returns-clause-one : goal.returns-clause-one
returns-clause-one c = one_cutting

pub returns-clause-none : goal.returns-clause-none
returns-clause-none c = no_cutting

pub returns-clause-one_place : goal.returns-clause-one_place
returns-clause-one_place c = one_place
