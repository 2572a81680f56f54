use Rattle.std.proofs.Common.{[], option_map, sym, ap, ◌∙◌}
use Rattle.std.specs.Prelude.{unwrap_or}
use Rattle.std.specs.Rc.{rc_value}
use Rattle.indexmap.specs.IndexSet.{keys}
use Rattle.tpl_hearing.proofs.Paired.{none_once}
use Rattle.tpl_hearing.proofs.name_list.NameList.count.Goals as goal

pub returns-in-None-clause-once : goal.returns-in-None-clause-once
returns-in-None-clause-once c =
    none_once c.args.self.now (sym c.self.view_is ∙ ap (λ o. unwrap_or (option_map (λ r. keys (rc_value r)) o) []) c.in-None.is)
