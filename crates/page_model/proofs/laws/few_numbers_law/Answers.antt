use Rattle.std.proofs.Common.{arith}
use Rattle.page_model.proofs.Shared.{order_short}
use Rattle.page_model.proofs.laws.few_numbers_law.Goals as goal

pub returns : goal.returns
returns c = λ old shape p s o. (let h = order_short old shape p s o in omega (arith, h))
