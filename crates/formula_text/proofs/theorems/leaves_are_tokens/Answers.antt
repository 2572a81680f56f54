use Rattle.formula_text.proofs.Quotes.{text_token}
use Rattle.formula_text.proofs.Texts.{name_token, number_token, truth_token}
use Rattle.formula_text.proofs.theorems.leaves_are_tokens.Goals as goal

pub returns-clause-names : goal.returns-clause-names
returns-clause-names c = name_token

pub returns-clause-truths : goal.returns-clause-truths
returns-clause-truths c = truth_token

pub returns-clause-numbers : goal.returns-clause-numbers
returns-clause-numbers c = number_token

pub returns-clause-texts : goal.returns-clause-texts
returns-clause-texts c = text_token
