-- A list of ids as clauses see it.
use Rattle.std.specs.Prelude.{ℕ, List, [], ◌∷◌}
use Rattle.std.specs.Rc.{rc_value}
use Rattle.sig_nodes.specs.declared.id_lists.Ids.{Ids}
use Rattle.sig_nodes.specs.declared.id_lists.Ids.TheVariants.{One, Shared}
use Rattle.sig_nodes.specs.declared.id_lists.Few.{Few}
use Rattle.sig_nodes.specs.declared.id_lists.Few.TheVariants as few

-- the ids, by their numbers
pub record Listed : Type 0 where
  pub items : List ℕ

-- the ids of a list, by what it is made of
abbrev pub listed : Ids → Listed
listed (One id) = record { items = id ∷ [] }
listed (Shared ids) = record { items = (rc_value ids).items }

-- the signals of slots, by what they are made of
abbrev pub slotted : Few → Listed
slotted (few.One id) = record { items = id ∷ [] }
slotted (few.Many ids) = record { items = ids.items }
