use Rattle.std.proofs.Common.{◌≡◌, None, drop}
use Rattle.std.specs.List.{AllByRecursion}
use Rattle.tpl_hearing.specs.Heard.{heard_of}
use Rattle.tpl_hearing.proofs.unseen.are_unheard.Given as goal

-- none was heard, where none of those that are left was
abbrev pub invariant-loop-id : goal.invariant-loop-id
invariant-loop-id l =
    AllByRecursion (λ n. heard_of l.heard n ≡ None) (drop l.id-index l.ids) → AllByRecursion (λ n. heard_of l.heard n ≡ None) l.ids
