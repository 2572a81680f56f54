use Rattle.page_model.proofs.Shared.{one_address, address_above}
use Rattle.page_model.proofs.laws.address_law.Goals as goal

pub returns : goal.returns
returns c = record {
  one = λ l m r s e. one_address l m r s e;
  above = λ l r. address_above l r;
}
