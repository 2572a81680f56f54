-- The order of evaluation by its visits.
use Rattle.std.proofs.Common.{◌≡◌, ℕ, zero, suc, ◌==◌, ◌||◌, Bool, true, false, cond, List, [], ◌∷◌, ◌++◌, refl, sym, ap, ◌∙◌, subst, ◌⊎◌, inl, inr}
use Rattle.std.proofs.lemmas.Bool.{eqb-true, eq-eqb}
use Rattle.signal_model.specs.Recipes.{Hosts}
use Rattle.signal_model.specs.Signals.{Signals, Computed, Stands, IsGone, IsCell, IsComputed, is_in, standing}
use Rattle.signal_model.specs.Values.{Seen, reads_of, names_left}
use Rattle.signal_model.specs.Orders.{Visit, visited, visits, visit_case, visit_within, visit, order_after}
use Rattle.signal_model.specs.Laws.{AreDistinct, OrderLaw}
use Rattle.signal_model.proofs.Tests.{tested, either, neither}
use Rattle.signal_model.proofs.Paths.{name_is, left_less}

-- the list grew by distinct computeds that aren't on the path
record Grown (path : List ℕ) (done out : List Visit) : Type 0 where
  distinct : AreDistinct (visited out)
  old : (x : ℕ) → is_in x (visited out) ≡ true → (is_in x (visited done) ≡ true) ⊎ (is_in x path ≡ false)

no_growth : (path : List ℕ) (done : List Visit) → AreDistinct (visited done) → Grown path done done
no_growth path done d = record { distinct = d; old = λ x h. inl h }

grown_on : (path : List ℕ) (a b c : List Visit) → Grown path a b → Grown path b c → Grown path a c
grown_on path a b c f g = record { distinct = g.distinct; old = λ x h. elim (g.old x h) [ inl in_b ↦ f.old x in_b | inr off ↦ inr off ] }

visits_grow : (go : ℕ → List Visit → List Visit) (path : List ℕ) →
    ((m : ℕ) (done : List Visit) → AreDistinct (visited done) → Grown path done (go m done)) →
    (ss : List Seen) (done : List Visit) → AreDistinct (visited done) → Grown path done (visits go ss done)
visits_grow go path h [] done d = no_growth path done d
visits_grow go path h (s ∷ ss) done d =
    let first : Grown path done (go s.name done) = h s.name done d in
    grown_on path done (go s.name done) (visits go ss (go s.name done)) first (visits_grow go path h ss (go s.name done) first.distinct)

-- what is among the visits and one more
in_more : (x : ℕ) (vs : List Visit) (v : Visit) → is_in x (visited (vs ++ v ∷ [])) ≡ true → (is_in x (visited vs) ≡ true) ⊎ (x ≡ v.computed.name)
in_more x [] v h = elim (either (x == v.computed.name) false h) [ inl e ↦ inr (eqb-true x v.computed.name e) | inr wrong ↦ cc ]
in_more x (u ∷ us) v h = go (x == u.computed.name) h (in_more x us v)
  where
    go : (b : Bool) → (b || is_in x (visited (us ++ v ∷ []))) ≡ true →
        (is_in x (visited (us ++ v ∷ [])) ≡ true → (is_in x (visited us) ≡ true) ⊎ (x ≡ v.computed.name)) →
        ((b || is_in x (visited us)) ≡ true) ⊎ (x ≡ v.computed.name)
    go true k f = inl refl
    go false k f = f k

distinct_more : (vs : List Visit) (v : Visit) → AreDistinct (visited vs) → is_in v.computed.name (visited vs) ≡ false →
    AreDistinct (visited (vs ++ v ∷ []))
distinct_more [] v d off = (refl, tt)
distinct_more (u ∷ us) v d off =
    let n : (v.computed.name == u.computed.name ≡ false) × (is_in v.computed.name (visited us) ≡ false) =
    neither (v.computed.name == u.computed.name) (is_in v.computed.name (visited us)) off in
    (new n.0 (tested (is_in u.computed.name (visited (us ++ v ∷ [])))), distinct_more us v d.1 n.1)
  where
    new : (v.computed.name == u.computed.name) ≡ false →
        (is_in u.computed.name (visited (us ++ v ∷ [])) ≡ true) ⊎ (is_in u.computed.name (visited (us ++ v ∷ [])) ≡ false) →
        is_in u.computed.name (visited (us ++ v ∷ [])) ≡ false
    new other (inr e) = e
    new other (inl e) = elim (in_more u.computed.name us v e) [
      | inl again ↦ cc (d.0, again)
      | inr same ↦ cc (eq-eqb v.computed.name u.computed.name (sym same))
    ]

module _ (hosts : Hosts) (w : Signals) where
  visit_grows : (depth : ℕ) (path : List ℕ) (n : ℕ) (done : List Visit) → AreDistinct (visited done) →
      Grown path done (visit_within depth hosts w path n done)
  visit_grows zero path n done d = no_growth path done d
  visit_grows (suc depth) path n done d =
      go (standing w n) refl (is_in n path || is_in n (visited done)) refl
      (λ c. visits_grow (visit_within depth hosts w (n ∷ path)) (n ∷ path) (λ m more e. visit_grows depth (n ∷ path) m more e)
      (reads_of hosts w c) done d)
    where
      inner : Computed → List Visit
      inner c = visits (visit_within depth hosts w (n ∷ path)) (reads_of hosts w c) done

      go : (s : Stands) → standing w n ≡ s → (passed : Bool) → (is_in n path || is_in n (visited done)) ≡ passed →
          ((c : Computed) → Grown (n ∷ path) done (visits (visit_within depth hosts w (n ∷ path)) (reads_of hosts w c) done)) →
          Grown path done (visit_case s passed done
          (λ c. visits (visit_within depth hosts w (n ∷ path)) (reads_of hosts w c) done ++ record { computed = c; path = path } ∷ []))
      go IsGone e passed p below = no_growth path done d
      go (IsCell c) e passed p below = no_growth path done d
      go (IsComputed c) e true p below = no_growth path done d
      go (IsComputed c) e false p below =
          let g : Grown (n ∷ path) done (visits (visit_within depth hosts w (n ∷ path)) (reads_of hosts w c) done) = below c in
          let off : (is_in n path ≡ false) × (is_in n (visited done) ≡ false) = neither (is_in n path) (is_in n (visited done)) p in
          let name : n ≡ c.name = name_is hosts w n c e in
          record {
            distinct = distinct_more (visits (visit_within depth hosts w (n ∷ path)) (reads_of hosts w c) done)
                (record { computed = c; path = path }) g.distinct
                (subst (λ k. is_in k (visited (visits (visit_within depth hosts w (n ∷ path)) (reads_of hosts w c) done)) ≡ false) name
                (fresh (visits (visit_within depth hosts w (n ∷ path)) (reads_of hosts w c) done) g off.1));
            old = λ x h. elim (in_more x (visits (visit_within depth hosts w (n ∷ path)) (reads_of hosts w c) done)
                (record { computed = c; path = path }) h) [
                  | inl was ↦ elim (g.old x was) [ inl before ↦ inl before | inr off_both ↦ inr (neither (x == n) (is_in x path) off_both).1 ]
                  | inr is ↦ inr (ap (λ k. is_in k path) (is ∙ sym name) ∙ off.0)
                ];
          }
        where
          fresh : (out : List Visit) → Grown (n ∷ path) done out → is_in n (visited done) ≡ false → is_in n (visited out) ≡ false
          fresh out g new = elim (tested (is_in n (visited out))) [
            | inr not_in ↦ not_in
            | inl in_out ↦ elim (g.old n in_out) [
              | inl before ↦ cc (before, new)
              | inr off_path ↦ cc (off_path, eq-eqb n n refl)
            ]
          ]

  order_distinct : (asked : List ℕ) (done : List Visit) → AreDistinct (visited done) → AreDistinct (visited (order_after hosts w asked done))
  order_distinct [] done d = d
  order_distinct (n ∷ ns) done d =
      let g : Grown [] done (visit hosts w [] n done) = visit_grows (suc (names_left w.computeds [])) [] n done d in
      order_distinct ns (visit hosts w [] n done) g.distinct

  -- a visit by its cases, with no bound on the depth
  pub visit_by_cases : (path : List ℕ) (n : ℕ) (done : List Visit) →
      visit hosts w path n done ≡ visit_case (standing w n) (is_in n path || is_in n (visited done)) done
      (λ c. visits (visit hosts w (n ∷ path)) (reads_of hosts w c) done ++ record { computed = c; path = path } ∷ [])
  visit_by_cases path n done = go (standing w n) (is_in n path) refl refl
    where
      go : (s : Stands) (b : Bool) → standing w n ≡ s → is_in n path ≡ b →
          visit_case s (b || is_in n (visited done)) done
          (λ c. visits (visit_within (names_left w.computeds path) hosts w (n ∷ path))
          (reads_of hosts w c) done ++ record { computed = c; path = path } ∷ [])
          ≡ visit_case s (b || is_in n (visited done)) done
          (λ c. visits (visit hosts w (n ∷ path)) (reads_of hosts w c) done ++ record { computed = c; path = path } ∷ [])
      go IsGone b e off = refl
      go (IsCell c) b e off = refl
      go (IsComputed c) true e off = refl
      go (IsComputed c) false e off =
          let k : names_left w.computeds path ≡ suc (names_left w.computeds (n ∷ path)) = left_less hosts w n path c e off
          ∙ ap (λ m. suc (names_left w.computeds (m ∷ path))) (sym (name_is hosts w n c e)) in
          ap (λ d. cond (is_in n (visited done)) done
          (visits (visit_within d hosts w (n ∷ path)) (reads_of hosts w c) done ++ record { computed = c; path = path } ∷ [])) k

pub order_law : OrderLaw
order_law hosts w asked = order_distinct hosts w asked [] tt
