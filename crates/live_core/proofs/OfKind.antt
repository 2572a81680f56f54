-- What stands under a name stays of the name's kind.
use Rattle.std.proofs.Common.{◌≡◌, Bool, true, false, cond, not, Option, Some, None, refl, ap, ◌∙◌}
use Rattle.std.specs.Option.{option_or}
use Rattle.std.proofs.lemmas.Bool.{eq-eqb}
use Rattle.signal_model.specs.Signals.{Signals, Cell, Computed, Stands, IsGone, IsCell, IsComputed, or_computed, is_computed, is_there, cell_at, computed_at, standing}
use Rattle.signal_model.specs.Changes.{with_cell, with_computed}
use Rattle.signal_laws.proofs.Shared.{SameKind, found_append}
use Rattle.signal_model.specs.Signals.{is_cell}
use Rattle.sig_effect.proofs.Shared.{computed_made}
use Rattle.sig_effect.specs.Kinds.{IsKindOf}
use Rattle.live_model.specs.declared.names.Kind.{Kind}
use Rattle.live_model.specs.declared.names.Kind.TheVariants as kind
use Rattle.live_core.specs.Consistency.{is_of_kind}

-- what is gone is of any kind
pub gone_kind : (k : Kind) → is_of_kind k IsGone ≡ true
gone_kind kind.Cell = refl
gone_kind kind.List = refl
gone_kind kind.Computed = refl
gone_kind kind.Owner = refl
gone_kind kind.Effect = refl
gone_kind kind.Watcher = refl
gone_kind kind.Template = refl
gone_kind kind.Page = refl

-- what stands in its place and is of the same kind is of the name's
pub same_kind_of : (k : Kind) (a b : Stands) → SameKind a b → is_of_kind k a ≡ true → is_of_kind k b ≡ true
same_kind_of k IsGone IsGone s h = h
same_kind_of k (IsCell c) (IsCell d) s h = go k h
  where
    go : (j : Kind) → is_of_kind j (IsCell c) ≡ true → is_of_kind j (IsCell d) ≡ true
    go kind.Cell e = refl
    go kind.List e = refl
    go kind.Computed e = cc
    go kind.Owner e = refl
    go kind.Effect e = refl
    go kind.Watcher e = refl
    go kind.Template e = refl
    go kind.Page e = refl
same_kind_of k (IsComputed c) (IsComputed d) s h = go k h
  where
    go : (j : Kind) → is_of_kind j (IsComputed c) ≡ true → is_of_kind j (IsComputed d) ≡ true
    go kind.Cell e = cc
    go kind.List e = cc
    go kind.Computed e = refl
    go kind.Owner e = refl
    go kind.Effect e = refl
    go kind.Watcher e = refl
    go kind.Template e = refl
    go kind.Page e = refl
same_kind_of k IsGone (IsCell d) s h = let e : false ≡ true = s.there in cc
same_kind_of k IsGone (IsComputed d) s h = let e : false ≡ true = s.there in cc
same_kind_of k (IsCell c) IsGone s h = let e : true ≡ false = s.there in cc
same_kind_of k (IsComputed c) IsGone s h = let e : true ≡ false = s.there in cc
same_kind_of k (IsCell c) (IsComputed d) s h = let e : false ≡ true = s.computed in cc
same_kind_of k (IsComputed c) (IsCell d) s h = let e : true ≡ false = s.computed in cc

-- a cell is one
pub cell_kind : (w : Signals) (c : Cell) → is_of_kind kind.Cell (standing (with_cell w c) c.name) ≡ true
cell_kind w c =
    ap (λ x. is_of_kind kind.Cell (or_computed x (computed_at c.name w.computeds)))
    (found_append (λ (c : Cell). c.name) c.name w.cells c ∙ ap (λ (b : Bool). option_or (cell_at c.name w.cells) (cond b (Some c) None)) (eq-eqb c.name c.name refl))
    ∙ some (cell_at c.name w.cells)
  where
    some : (x : Option Cell) → is_of_kind kind.Cell (or_computed (option_or x (Some c)) (computed_at c.name w.computeds)) ≡ true
    some None = refl
    some (Some d) = refl

-- a computed is one, under a name that nothing has
pub computed_kind : (w : Signals) (c : Computed) → is_there (standing w c.name) ≡ false → is_of_kind kind.Computed (standing (with_computed w c) c.name) ≡ true
computed_kind w c off = ap (is_of_kind kind.Computed) (computed_made w c off)

negated : (b : Bool) → not b ≡ true → b ≡ false
negated true e = absurd cc
negated false e = refl

-- what is a cell or a computed until it is gone stays of the name's kind
pub kept_kind : (k : Kind) (a b : Stands) → IsKindOf a b → is_of_kind k a ≡ true → is_of_kind k b ≡ true
kept_kind kind.Cell a b s h = ap not (s.computed (negated (is_computed a) h))
kept_kind kind.List a b s h = ap not (s.computed (negated (is_computed a) h))
kept_kind kind.Computed a b s h = ap not (s.cell (negated (is_cell a) h))
kept_kind kind.Owner a b s h = refl
kept_kind kind.Effect a b s h = refl
kept_kind kind.Watcher a b s h = refl
kept_kind kind.Template a b s h = refl
kept_kind kind.Page a b s h = refl
