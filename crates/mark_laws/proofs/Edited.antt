-- What stands and what is kept after an edit, at each name.
use Rattle.std.proofs.Common.{◌≡◌, ℕ, ◌==◌, ◌||◌, not, Bool, true, false, cond, List, [], ◌∷◌, Option, Some, None, refl, sym, ap, ◌∙◌, subst, inl, inr, true≢false, is_some, option_map}
use Rattle.std.proofs.lemmas.Bool.{eqb-true, eq-eqb}
use Rattle.sig_base.specs.declared.value.Value.{Value}
use Rattle.signal_model.specs.Recipes.{Recipe}
use Rattle.signal_model.specs.Signals.{Signals, Cell, Computed, Stands, IsCell, IsComputed, is_computed, is_in, is_there, or_computed, standing, changed, cell_at, computed_at}
use Rattle.signal_model.specs.Memos.{Source, Memo, Entry, Memos, entry_at, number_in, memo_in, number_of, memo_of, sources_in, sources_of, source_names, same_number, some_moved}
use Rattle.signal_model.specs.Changes.{with_value, raised, after_change, with_recipe, memo_rewired, entry_rewired, after_rewiring, without_signal, after_disposal}
use Rattle.signal_model.proofs.Shared.{tested}
use Rattle.signal_laws.proofs.Shared.{found_other, found_mapped, found_left}

-- all but n is kept as before
pub record IsEdit (w : Signals) (k : Memos) (w' : Signals) (k' : Memos) (n : ℕ) : Type 0 where
  pub kind : (m : ℕ) → (m == n) ≡ false → is_computed (standing w' m) ≡ is_computed (standing w m)
  pub gone : (m : ℕ) → (m == n) ≡ false → is_there (standing w' m) ≡ is_there (standing w m)
  pub number : (m : ℕ) → (m == n) ≡ false → number_of k' m ≡ number_of k m
  pub memo : (m : ℕ) → (m == n) ≡ false → memo_of k' m ≡ memo_of k m

-- and the kind and the sources of n too
pub record IsMild (w : Signals) (k : Memos) (w' : Signals) (k' : Memos) : Type 0 where
  pub kind : (m : ℕ) → is_computed (standing w' m) ≡ is_computed (standing w m)
  pub gone : (m : ℕ) → is_there (standing w' m) ≡ is_there (standing w m)
  pub sources : (m : ℕ) → sources_of k' m ≡ sources_of k m
  pub owners : (m : ℕ) (x : Memo) → memo_of k' m ≡ Some x → (y : Memo) × (memo_of k m ≡ Some y)

module _ (w : Signals) (k : Memos) (n : ℕ) where
  pub set_edit : (v : Value) → IsEdit w k (with_value w n v) (after_change k n) n
  set_edit v = record {
    kind = λ m off. ap (λ x. is_computed (or_computed x (computed_at m w.computeds))) (found_other (λ (c : Cell). c.name) m n (λ c. record c { value = v }) w.cells (λ c. refl) off);
    gone = λ m off. ap (λ x. is_there (or_computed x (computed_at m w.computeds))) (found_other (λ (c : Cell). c.name) m n (λ c. record c { value = v }) w.cells (λ c. refl) off);
    number = λ m off. ap number_in (found_other (λ (e : Entry). e.name) m n raised k.entries (λ e. refl) off);
    memo = λ m off. ap memo_in (found_other (λ (e : Entry). e.name) m n raised k.entries (λ e. refl) off);
  }

  pub rewire_edit : (r : Recipe) → IsEdit w k (with_recipe w n r) (after_rewiring k n) n
  rewire_edit r = record {
    kind = λ m off. ap (λ x. is_computed (or_computed (cell_at m w.cells) x)) (found_other (λ (c : Computed). c.name) m n (λ c. record c { recipe = r }) w.computeds (λ c. refl) off);
    gone = λ m off. ap (λ x. is_there (or_computed (cell_at m w.cells) x)) (found_other (λ (c : Computed). c.name) m n (λ c. record c { recipe = r }) w.computeds (λ c. refl) off);
    number = λ m off. ap number_in (found_other (λ (e : Entry). e.name) m n entry_rewired k.entries (λ e. refl) off);
    memo = λ m off. ap memo_in (found_other (λ (e : Entry). e.name) m n entry_rewired k.entries (λ e. refl) off);
  }

  pub dispose_edit : IsEdit w k (without_signal w n) (after_disposal k n) n
  dispose_edit = record {
    kind = λ m off. (λ i. is_computed (or_computed (found_left (λ (c : Cell). c.name) m n w.cells off i) (found_left (λ (c : Computed). c.name) m n w.computeds off i)));
    gone = λ m off. (λ i. is_there (or_computed (found_left (λ (c : Cell). c.name) m n w.cells off i) (found_left (λ (c : Computed). c.name) m n w.computeds off i)));
    number = λ m off. ap number_in (found_left (λ (e : Entry). e.name) m n k.entries off);
    memo = λ m off. ap memo_in (found_left (λ (e : Entry). e.name) m n k.entries off);
  }

  pub no_edit : IsEdit w k w k n
  no_edit = record { kind = λ m off. refl; gone = λ m off. refl; number = λ m off. refl; memo = λ m off. refl }

  -- after a change of n by an edit of its entry that keeps its sources
  sources_by : (g : Entry → Entry) → ((e : Entry) → (g e).name ≡ e.name) → ((e : Entry) → sources_in (g e).memo ≡ sources_in e.memo) → (m : ℕ) →
      sources_in (memo_in (entry_at m (changed (λ (e : Entry). e.name) n g k.entries))) ≡ sources_of k m
  sources_by g same h m = elim (tested (m == n)) [
    | inr off ↦ ap (λ x. sources_in (memo_in x)) (found_other (λ (e : Entry). e.name) m n g k.entries same off)
    | inl on ↦
        let e : m ≡ n = eqb-true m n on in
        subst (λ x. sources_in (memo_in (entry_at x (changed (λ (e : Entry). e.name) n g k.entries))) ≡ sources_of k x) (sym e)
        (ap (λ x. sources_in (memo_in x)) (found_mapped (λ (e : Entry). e.name) n g k.entries same) ∙ there (entry_at n k.entries))
  ]
    where
      there : (x : Option Entry) → sources_in (memo_in (option_map g x)) ≡ sources_in (memo_in x)
      there None = refl
      there (Some e) = h e

  memos_by : (g : Entry → Entry) → ((e : Entry) → (g e).name ≡ e.name) → ((e : Entry) (x : Memo) → (g e).memo ≡ Some x → (y : Memo) × (e.memo ≡ Some y)) → (m : ℕ) (x : Memo) →
      memo_in (entry_at m (changed (λ (e : Entry). e.name) n g k.entries)) ≡ Some x → (y : Memo) × (memo_of k m ≡ Some y)
  memos_by g same h m x at = elim (tested (m == n)) [
    | inr off ↦ (x, sym (ap memo_in (found_other (λ (e : Entry). e.name) m n g k.entries same off)) ∙ at)
    | inl on ↦
        let e : m ≡ n = eqb-true m n on in
        subst (λ z. (y : Memo) × (memo_of k z ≡ Some y)) (sym e)
        (there (entry_at n k.entries) (sym (ap memo_in (found_mapped (λ (e : Entry). e.name) n g k.entries same)) ∙ subst (λ z. memo_in (entry_at z (changed (λ (e : Entry). e.name) n g k.entries)) ≡ Some x) e at))
  ]
    where
      there : (z : Option Entry) → memo_in (option_map g z) ≡ Some x → (y : Memo) × (memo_in z ≡ Some y)
      there None q = absurd (true≢false (sym (ap is_some q)))
      there (Some e) q = h e x q

  is_rewired : (e : Entry) → sources_in (entry_rewired e).memo ≡ sources_in e.memo
  is_rewired e = go e.memo
    where
      go : (x : Option Memo) → sources_in (memo_rewired x) ≡ sources_in x
      go None = refl
      go (Some m) = refl

  was_there : (e : Entry) (x : Memo) → (entry_rewired e).memo ≡ Some x → (y : Memo) × (e.memo ≡ Some y)
  was_there e x h = go e.memo h
    where
      go : (z : Option Memo) → memo_rewired z ≡ Some x → (y : Memo) × (z ≡ Some y)
      go None q = absurd (true≢false (sym (ap is_some q)))
      go (Some m) q = (m, refl)

  pub set_mild : (v : Value) → IsMild w k (with_value w n v) (after_change k n)
  set_mild v = record {
    kind = λ m. kinds is_computed (λ c. refl) m;
    gone = λ m. kinds is_there (λ c. refl) m;
    sources = λ m. sources_by raised (λ e. refl) (λ e. refl) m;
    owners = λ m x at. memos_by raised (λ e. refl) (λ e y q. (y, q)) m x at;
  }
    where
      there : (f : Stands → Bool) → ((c : Cell) → f (IsCell (record c { value = v })) ≡ f (IsCell c)) → (x : Option Cell) (y : Option Computed) →
          f (or_computed (option_map (λ (c : Cell). record c { value = v }) x) y) ≡ f (or_computed x y)
      there f h None y = refl
      there f h (Some c) y = h c

      kinds : (f : Stands → Bool) → ((c : Cell) → f (IsCell (record c { value = v })) ≡ f (IsCell c)) → (m : ℕ) → f (standing (with_value w n v) m) ≡ f (standing w m)
      kinds f h m = elim (tested (m == n)) [
        | inr off ↦ ap (λ x. f (or_computed x (computed_at m w.computeds))) (found_other (λ (c : Cell). c.name) m n (λ c. record c { value = v }) w.cells (λ c. refl) off)
        | inl on ↦
            let e : m ≡ n = eqb-true m n on in
            subst (λ z. f (standing (with_value w n v) z) ≡ f (standing w z)) (sym e)
            (ap (λ x. f (or_computed x (computed_at n w.computeds))) (found_mapped (λ (c : Cell). c.name) n (λ c. record c { value = v }) w.cells (λ c. refl)) ∙ there f h (cell_at n w.cells) (computed_at n w.computeds))
      ]

  pub rewire_mild : (r : Recipe) → IsMild w k (with_recipe w n r) (after_rewiring k n)
  rewire_mild r = record {
    kind = λ m. kinds is_computed (λ c. refl) m;
    gone = λ m. kinds is_there (λ c. refl) m;
    sources = λ m. sources_by entry_rewired (λ e. refl) is_rewired m;
    owners = λ m x at. memos_by entry_rewired (λ e. refl) was_there m x at;
  }
    where
      there : (f : Stands → Bool) → ((c : Computed) → f (IsComputed (record c { recipe = r })) ≡ f (IsComputed c)) → (x : Option Cell) (y : Option Computed) →
          f (or_computed x (option_map (λ (c : Computed). record c { recipe = r }) y)) ≡ f (or_computed x y)
      there f h (Some c) y = refl
      there f h None None = refl
      there f h None (Some c) = h c

      kinds : (f : Stands → Bool) → ((c : Computed) → f (IsComputed (record c { recipe = r })) ≡ f (IsComputed c)) → (m : ℕ) → f (standing (with_recipe w n r) m) ≡ f (standing w m)
      kinds f h m = elim (tested (m == n)) [
        | inr off ↦ ap (λ x. f (or_computed (cell_at m w.cells) x)) (found_other (λ (c : Computed). c.name) m n (λ c. record c { recipe = r }) w.computeds (λ c. refl) off)
        | inl on ↦
            let e : m ≡ n = eqb-true m n on in
            subst (λ z. f (standing (with_recipe w n r) z) ≡ f (standing w z)) (sym e)
            (ap (λ x. f (or_computed (cell_at n w.cells) x)) (found_mapped (λ (c : Computed). c.name) n (λ c. record c { recipe = r }) w.computeds (λ c. refl)) ∙ there f h (cell_at n w.cells) (computed_at n w.computeds))
      ]

-- sources whose numbers are as before haven't moved since
pub unmoved : (k k' : Memos) (ss : List Source) → ((m : ℕ) → is_in m (source_names ss) ≡ true → number_of k' m ≡ number_of k m) → some_moved k' [] ss ≡ some_moved k [] ss
unmoved k k' [] h = refl
unmoved k k' (s ∷ ss) h =
    let here : number_of k' s.name ≡ number_of k s.name = h s.name (first s.name) in
    let rest : some_moved k' [] ss ≡ some_moved k [] ss = unmoved k k' ss (λ m q. h m (later m q)) in
    (λ i. (not (same_number (here i) s.number) || false) || rest i)
  where
    first : (m : ℕ) → (m == m || is_in m (source_names ss)) ≡ true
    first m = let e : (m == m) ≡ true = eq-eqb m m refl in rw e refl

    later : (m : ℕ) → is_in m (source_names ss) ≡ true → (m == s.name || is_in m (source_names ss)) ≡ true
    later m q = let go : (b : Bool) → (b || true) ≡ true = λ b. or_true b in rw q (go (m == s.name))
      where
        or_true : (b : Bool) → (b || true) ≡ true
        or_true true = refl
        or_true false = refl
