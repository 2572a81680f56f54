-- Nothing that is done changes what kind of signal stands under a number.
use Rattle.std.proofs.Common.{◌≡◌, ℕ, Bool, true, false, cond, [], ◌∷◌, Option, Some, None, ◌==◌, refl, sym, ap, subst, ◌∙◌}
use Rattle.std.proofs.lemmas.Bool.{eqb-true}
use Rattle.sig_base.specs.declared.value.Value.{Value}
use Rattle.signal_model.specs.Signals.{Signals, Cell, Computed, Stands, IsGone, IsCell, IsComputed, is_computed, or_computed, standing, is_cell}
use Rattle.signal_model.specs.Changes.{with_recipe, with_value, without_signal}
use Rattle.signal_laws.proofs.Shared.{SameKind, found_left, found_out, rewire_kind, set_kind}
use Rattle.effect_model.specs.Worlds.{Environment, World}
use Rattle.effect_model.specs.Acts.{with_quiet_value}
use Rattle.effect_model.specs.Batches.{Batch, abort, give_back, is_other, replaced_by, with_replacing}
use Rattle.effect_laws.proofs.Shared.{Core, IsKeptByEdits, IsKeptByActs, set_keeps_core, rewire_keeps_core, back_keeps_core, dispose_keeps_core}
use Rattle.effect_laws.proofs.Shared.{run_keeps_core, flush_keeps_core}
use Rattle.sig_effect.specs.Kinds.{AllKeepKinds, AreKindsOf, FlushesKeepKinds, IsKindOf}

-- ---- kinds

same : (s : Stands) → IsKindOf s s
same s = record { cell = λ e. e; computed = λ e. e }

-- the same signals
stay : (s : Signals) → AreKindsOf s s
stay s = record { each = λ x. same (standing s x) }

-- one after the other
after : (s t u : Signals) → AreKindsOf s t → AreKindsOf t u → AreKindsOf s u
after s t u a b = record {
  each = λ x. record {
    cell = λ e. (b.each x).cell ((a.each x).cell e);
    computed = λ e. (b.each x).computed ((a.each x).computed e);
  };
}

-- what is of the same kind
of_kind : (a b : Stands) → SameKind a b → IsKindOf a b
of_kind IsGone IsGone s = same IsGone
of_kind (IsCell c) (IsCell d) s = record { cell = λ e. e; computed = λ e. refl }
of_kind (IsComputed c) (IsComputed d) s = record { cell = λ e. refl; computed = λ e. e }
of_kind IsGone (IsCell d) s = let e : false ≡ true = s.there in absurd cc
of_kind IsGone (IsComputed d) s = let e : false ≡ true = s.there in absurd cc
of_kind (IsCell c) IsGone s = let e : true ≡ false = s.there in absurd cc
of_kind (IsComputed c) IsGone s = let e : true ≡ false = s.there in absurd cc
of_kind (IsCell c) (IsComputed d) s = let e : false ≡ true = s.computed in absurd cc
of_kind (IsComputed c) (IsCell d) s = let e : true ≡ false = s.computed in absurd cc

-- what is gone is of any kind
gone_kind : (a b : Stands) → b ≡ IsGone → IsKindOf a b
gone_kind a b e = record { cell = λ h. ap is_cell e; computed = λ h. ap is_computed e }

-- what is disposed is gone, and another signal is as before
gone_now : (s : Signals) (n : ℕ) → standing (without_signal s n) n ≡ IsGone
gone_now s n = λ i. or_computed (found_out (λ (c : Cell). c.name) n s.cells i) (found_out (λ (c : Computed). c.name) n s.computeds i)

left_now : (s : Signals) (n m : ℕ) → (m == n) ≡ false → standing (without_signal s n) m ≡ standing s m
left_now s n m off = λ i. or_computed (found_left (λ (c : Cell). c.name) m n s.cells off i) (found_left (λ (c : Computed). c.name) m n s.computeds off i)

-- where a signal is gone
without_kinds : (s : Signals) (n : ℕ) → AreKindsOf s (without_signal s n)
without_kinds s n = record { each = λ x. at x (x == n) refl }
  where
    at : (x : ℕ) (b : Bool) → (x == n) ≡ b → IsKindOf (standing s x) (standing (without_signal s n) x)
    at x true e = gone_kind (standing s x) (standing (without_signal s n) x) (ap (standing (without_signal s n)) (eqb-true x n e) ∙ gone_now s n)
    at x false e = subst (λ (t : Stands). IsKindOf (standing s x) t) (sym (left_now s n x e)) (same (standing s x))

-- where a cell has another value
value_kinds : (s : Signals) (n : ℕ) (v : Value) → AreKindsOf s (with_value s n v)
value_kinds s n v = record { each = λ m. of_kind (standing s m) (standing (with_value s n v) m) (set_kind s n v m) }

-- ---- batches

-- a cell is set in one
replacing_kinds : (n : ℕ) (v : Value) (o : Option Value) (w : World) → AreKindsOf w.signals (with_replacing n v o w).signals
replacing_kinds n v None w = stay w.signals
replacing_kinds n v (Some before) w = value_kinds w.signals n v

-- a cell has its earlier value back
back_kinds : (n : ℕ) (v : Value) (w : World) → AreKindsOf w.signals (give_back n v w).signals
back_kinds n v w = at (is_other v (standing w.signals n))
  where
    at : (b : Bool) → AreKindsOf w.signals (cond b (with_quiet_value n v w) w).signals
    at true = value_kinds w.signals n v
    at false = stay w.signals

-- all of one do
abort_kinds : (b : Batch) (w : World) → AreKindsOf w.signals (abort b w).signals
abort_kinds [] w = stay w.signals
abort_kinds (p ∷ b) w =
    let x : World = give_back p.0 p.1 w in
    after w.signals x.signals (abort b x).signals (back_kinds p.0 p.1 w) (abort_kinds b x)

-- ---- all that is done

-- the kinds are those of these signals
abbrev HaveKinds : Signals → Core → Type 0
HaveKinds s c = AreKindsOf s c.signals

edits_stay : (s : Signals) → IsKeptByEdits (HaveKinds s)
edits_stay s = record {
  sets = λ n v x c e h. after s c.signals (with_value c.signals n v) h (value_kinds c.signals n v);
  rewires = λ n r x c e stand free h.
      after s c.signals (with_recipe c.signals n r) h
      (record { each = λ m. of_kind (standing c.signals m) (standing (with_recipe c.signals n r) m) (rewire_kind c.signals n r m) });
  ends = λ n old c stands host h. after s c.signals (without_signal c.signals n) h (without_kinds c.signals n);
}

acts_stay : (env : Environment) (s : Signals) → IsKeptByActs env (HaveKinds s)
acts_stay env s = record { edits = edits_stay s; settles = λ names c h. h }

pub all_keep_kinds : AllKeepKinds
all_keep_kinds = record {
  settling = λ env names. record { kept = λ w. stay w.signals };
  setting = λ env n v. record { kept = λ w. set_keeps_core env (HaveKinds w.signals) (edits_stay w.signals) n v w (stay w.signals) };
  rewiring = λ n r. record { kept = λ w. rewire_keeps_core (HaveKinds w.signals) (edits_stay w.signals) n r w (stay w.signals) };
  taking_back = λ env t. record { kept = λ w. back_keeps_core env (HaveKinds w.signals) (edits_stay w.signals) t w (stay w.signals) };
  disposing = λ env t. record { kept = λ w. dispose_keeps_core env (HaveKinds w.signals) (edits_stay w.signals) t w (stay w.signals) };
  running = λ env x. record { kept = λ w. run_keeps_core env (HaveKinds w.signals) (acts_stay env w.signals) x w (stay w.signals) };
  setting_quietly = λ env n v. record { kept = λ w. replacing_kinds n v (replaced_by env.slacks (standing w.signals n) v) w };
  committing = λ env b. record { kept = λ w. stay w.signals };
  aborting = λ b. record { kept = abort_kinds b };
}

pub flushes_keep_kinds : FlushesKeepKinds
flushes_keep_kinds env = record { kept = λ w. flush_keeps_core env (HaveKinds w.signals) (acts_stay env w.signals) w (stay w.signals) }
