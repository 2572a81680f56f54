use Rattle.std.proofs.Common.{ℕ, List, map, sym, subst}
use Rattle.std.specs.Option.{option_copied}
use Rattle.sig_formula.specs.Trees.{Tree}
use Rattle.tpl_model.specs.KeptLines.Before.{WasListenedAll}
use Rattle.tpl_model.specs.KeptLines.Kept.{heard_of}
use Rattle.tpl_model.specs.KeptLines.Memos.{ListensAll}
use Rattle.tpl_kept.proofs.renewing.front.hear_element.Goals as goal

pub listen_all_here-requires-clause-was : goal.listen_all_here-requires-clause-was
listen_all_here-requires-clause-was g c =
    subst (λ (xs : List (List ℕ × Tree)). WasListenedAll xs c.args.links.now (option_copied c.args.row) c.args.before.now (map heard_of c.args.all.now.items))
    (sym c.attributes_of-attributes.ensures) c.requires.was

pub returns-clause-heard : goal.returns-clause-heard
returns-clause-heard g c =
    subst (λ (xs : List (List ℕ × Tree)). ListensAll xs c.args.links.now (option_copied c.args.row) c.args.hearing.now.heard
    c.listen_all_here.new.hearing.heard (map heard_of c.listen_all_here.new.all.items)) c.attributes_of-attributes.ensures c.in_ok-same.ensures.heard

pub returns-clause-same : goal.returns-clause-same
returns-clause-same g c = λ same.
    subst (λ (xs : List (List ℕ × Tree)). WasListenedAll xs c.args.links.now (option_copied c.args.row) c.args.before.now
    (map heard_of c.listen_all_here.new.all.items)) c.attributes_of-attributes.ensures (c.in_ok-same.ensures.same same)
