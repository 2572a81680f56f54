use Rattle.std.proofs.Common.{refl}
use Rattle.page_model.proofs.Shared.{bare_page, bare_tree}
use Rattle.page_model.proofs.laws.bare_law.Goals as goal

pub returns : goal.returns
returns c = record {
  page = bare_page;
  tree = bare_tree;
  html = refl;
}
