-- What visits add.
use Rattle.std.proofs.Common.{◌≡◌, ℕ, zero, suc, ◌==◌, ◌||◌, Bool, true, false, List, [], ◌∷◌, ◌++◌, append_assoc, append-nil, refl, sym, ap, ◌∙◌, subst, ◌⊎◌, inl, inr}
use Rattle.std.proofs.lemmas.Bool.{eqb-true}
use Rattle.signal_model.specs.Recipes.{Hosts}
use Rattle.signal_model.specs.Signals.{Signals, Computed, Stands, IsGone, IsCell, IsComputed, is_in, standing}
use Rattle.signal_model.specs.Values.{Seen, reads_of, names_left}
use Rattle.signal_model.specs.Orders.{Visit, visited, visits, visit_case, visit_within, visit, order_after, evaluation_order}
use Rattle.signal_model.specs.Laws.{IsRead}
use Rattle.signal_model.proofs.Shared.{name_is, tested, either, or_left, or_right}
use Rattle.signal_laws.specs.OrderLaws.{AreOrdered}
use Rattle.signal_laws.proofs.Shared.{or_none, or_fst, ordered_first, places_law}
use Rattle.sig_computed.specs.Steps.{Frame, frame_names}
use Rattle.sig_computed.proofs.VisitsLeft.{finished, completed}

-- visits grew at their end
pub record Adds (done out : List Visit) : Type 0 where
  pub more : List Visit
  pub is : out ≡ done ++ more

-- they stayed
adds_none : (done : List Visit) → Adds done done
adds_none done = record { more = []; is = sym (append-nil done) }

-- they grew twice
pub adds_on : (a b c : List Visit) → Adds a b → Adds b c → Adds a c
adds_on a b c f g = record { more = f.more ++ g.more; is = g.is ∙ ap (λ xs. xs ++ g.more) f.is ∙ append_assoc a f.more g.more }

-- what was visited is visited still
pub in_adds : (x : ℕ) (done out : List Visit) → Adds done out → is_in x (visited done) ≡ true → is_in x (visited out) ≡ true
in_adds x done out a h = subst (λ vs. is_in x (visited vs) ≡ true) (sym a.is) (go done h)
  where
    go : (us : List Visit) → is_in x (visited us) ≡ true → is_in x (visited (us ++ a.more)) ≡ true
    go [] q = cc q
    go (u ∷ us) q = by (x == u.computed.name) q (go us)
      where
        by : (b : Bool) → (b || is_in x (visited us)) ≡ true → (is_in x (visited us) ≡ true → is_in x (visited (us ++ a.more)) ≡ true) →
            (b || is_in x (visited (us ++ a.more))) ≡ true
        by true q f = refl
        by false q f = f q

-- what isn't among visits nor is one more
none_snoc : (x : ℕ) (vs : List Visit) (v : Visit) → is_in x (visited vs) ≡ false → (x == v.computed.name) ≡ false → is_in x (visited (vs ++ v ∷ [])) ≡ false
none_snoc x [] v h e = (λ i. e i || false)
none_snoc x (u ∷ us) v h e =
    or_none (x == u.computed.name) (is_in x (visited (us ++ v ∷ []))) (or_fst (x == u.computed.name) (is_in x (visited us)) h)
    (none_snoc x us v (snd (x == u.computed.name) (is_in x (visited us)) h) e)
  where
    snd : (a b : Bool) → (a || b) ≡ false → b ≡ false
    snd true b q = cc
    snd false b q = q

-- what is among visits and one more
some_snoc : (x : ℕ) (vs : List Visit) (v : Visit) → is_in x (visited (vs ++ v ∷ [])) ≡ true → (is_in x (visited vs) ≡ true) ⊎ (x ≡ v.computed.name)
some_snoc x [] v h = elim (either (x == v.computed.name) false h) [ inl e ↦ inr (eqb-true x v.computed.name e) | inr z ↦ cc ]
some_snoc x (u ∷ us) v h = elim (either (x == u.computed.name) (is_in x (visited (us ++ v ∷ []))) h) [
  | inl e ↦ inl (or_left (x == u.computed.name) (is_in x (visited us)) e)
  | inr t ↦ elim (some_snoc x us v t) [ inl was ↦ inl (or_right (x == u.computed.name) (is_in x (visited us)) was) | inr is ↦ inr is ]
]

module _ (hosts : Hosts) (w : Signals) where
  -- all reads
  visits_add : (go : ℕ → List Visit → List Visit) → ((m : ℕ) (vs : List Visit) → Adds vs (go m vs)) → (ss : List Seen) (vs : List Visit) → Adds vs (visits go ss vs)
  visits_add go f [] vs = adds_none vs
  visits_add go f (s ∷ ss) vs = adds_on vs (go s.name vs) (visits go ss (go s.name vs)) (f s.name vs) (visits_add go f ss (go s.name vs))

  -- a visit
  within_adds : (depth : ℕ) (path : List ℕ) (n : ℕ) (vs : List Visit) → Adds vs (visit_within depth hosts w path n vs)
  within_adds zero path n vs = adds_none vs
  within_adds (suc depth) path n vs =
      go (standing w n) (is_in n path || is_in n (visited vs))
      (λ c. visits_add (visit_within depth hosts w (n ∷ path)) (λ m us. within_adds depth (n ∷ path) m us) (reads_of hosts w c) vs)
    where
      inner : Computed → List Visit
      inner c = visits (visit_within depth hosts w (n ∷ path)) (reads_of hosts w c) vs

      go : (s : Stands) (b : Bool) → ((c : Computed) → Adds vs (inner c)) → Adds vs (visit_case s b vs (λ c. inner c ++ record { computed = c; path = path } ∷ []))
      go IsGone b f = adds_none vs
      go (IsCell c) b f = adds_none vs
      go (IsComputed c) true f = adds_none vs
      go (IsComputed c) false f = adds_on vs (inner c) (inner c ++ record { computed = c; path = path } ∷ []) (f c) (record { more = record { computed = c; path = path } ∷ []; is = refl })

  pub visit_adds : (path : List ℕ) (n : ℕ) (vs : List Visit) → Adds vs (visit hosts w path n vs)
  visit_adds path n vs = within_adds (suc (names_left w.computeds path)) path n vs

  -- a frame that is finished
  finished_adds : (st : Stands) (n : ℕ) (path : List ℕ) (vs : List Visit) → Adds vs (finished hosts w st n path vs)
  finished_adds IsGone n path vs = adds_none vs
  finished_adds (IsCell c) n path vs = adds_none vs
  finished_adds (IsComputed c) n path vs =
      adds_on vs (visits (visit hosts w (n ∷ path)) (reads_of hosts w c) vs) (finished hosts w (IsComputed c) n path vs)
      (visits_add (visit hosts w (n ∷ path)) (λ m us. visit_adds (n ∷ path) m us) (reads_of hosts w c) vs)
      (record { more = record { computed = c; path = path } ∷ []; is = refl })

  -- all frames
  completed_adds : (fs : List Frame) (vs : List Visit) → Adds vs (completed hosts w fs vs)
  completed_adds [] vs = adds_none vs
  completed_adds (f ∷ fs) vs =
      adds_on vs (finished hosts w (standing w f.name) f.name (frame_names fs) vs) (completed hosts w (f ∷ fs) vs)
      (finished_adds (standing w f.name) f.name (frame_names fs) vs)
      (completed_adds fs (finished hosts w (standing w f.name) f.name (frame_names fs) vs))

  -- all names that are asked for
  order_adds : (ns : List ℕ) (vs : List Visit) → Adds vs (order_after hosts w ns vs)
  order_adds [] vs = adds_none vs
  order_adds (n ∷ ns) vs = adds_on vs (visit hosts w [] n vs) (order_after hosts w (n ∷ ns) vs) (visit_adds [] n vs) (order_adds ns (visit hosts w [] n vs))

  -- so visits that lead to the order of evaluation are in order
  pub are_ordered : (names ns : List ℕ) (fs : List Frame) (vs : List Visit) → order_after hosts w ns (completed hosts w fs vs) ≡ evaluation_order hosts w names →
      AreOrdered hosts w [] vs
  are_ordered names ns fs vs e =
      let a : Adds vs (order_after hosts w ns (completed hosts w fs vs)) =
      adds_on vs (completed hosts w fs vs) (order_after hosts w ns (completed hosts w fs vs)) (completed_adds fs vs) (order_adds ns (completed hosts w fs vs)) in
      ordered_first hosts w [] vs a.more (subst (AreOrdered hosts w []) (sym e ∙ a.is) (places_law hosts w names).ordered)

  -- ---- who is added

  -- none of the path
  visits_off : (go : ℕ → List Visit → List Visit) (x : ℕ) → ((m : ℕ) (vs : List Visit) → is_in x (visited vs) ≡ false → is_in x (visited (go m vs)) ≡ false) →
      (ss : List Seen) (vs : List Visit) → is_in x (visited vs) ≡ false → is_in x (visited (visits go ss vs)) ≡ false
  visits_off go x f [] vs h = h
  visits_off go x f (s ∷ ss) vs h = visits_off go x f ss (go s.name vs) (f s.name vs h)

  within_off : (depth : ℕ) (path : List ℕ) (x n : ℕ) (vs : List Visit) → is_in x path ≡ true → is_in x (visited vs) ≡ false →
      is_in x (visited (visit_within depth hosts w path n vs)) ≡ false
  within_off zero path x n vs on h = h
  within_off (suc depth) path x n vs on h =
      go (standing w n) refl (tested (is_in n path || is_in n (visited vs)))
      (λ c. visits_off (visit_within depth hosts w (n ∷ path)) x
      (λ m us g. within_off depth (n ∷ path) x m us (or_right (x == n) (is_in x path) on) g) (reads_of hosts w c) vs h)
    where
      inner : Computed → List Visit
      inner c = visits (visit_within depth hosts w (n ∷ path)) (reads_of hosts w c) vs

      out : Stands → Bool → List Visit
      out s b = visit_case s b vs (λ c. inner c ++ record { computed = c; path = path } ∷ [])

      go : (s : Stands) → standing w n ≡ s → ((is_in n path || is_in n (visited vs)) ≡ true) ⊎ ((is_in n path || is_in n (visited vs)) ≡ false) →
          ((c : Computed) → is_in x (visited (inner c)) ≡ false) → is_in x (visited (out s (is_in n path || is_in n (visited vs)))) ≡ false
      go IsGone e p f = h
      go (IsCell c) e p f = h
      go (IsComputed c) e (inl p) f = subst (λ b. is_in x (visited (out (IsComputed c) b)) ≡ false) (sym p) h
      go (IsComputed c) e (inr p) f = subst (λ b. is_in x (visited (out (IsComputed c) b)) ≡ false) (sym p)
          (none_snoc x (inner c) (record { computed = c; path = path }) (f c) (apart (tested (x == c.name))))
        where
          apart : ((x == c.name) ≡ true) ⊎ ((x == c.name) ≡ false) → (x == c.name) ≡ false
          apart (inr off) = off
          apart (inl is) =
              let same : x ≡ n = eqb-true x c.name is ∙ sym (name_is hosts w n c e) in
              cc (sym (or_fst (is_in n path) (is_in n (visited vs)) p) ∙ ap (λ y. is_in y path) (sym same) ∙ on)

  pub visit_off : (path : List ℕ) (x n : ℕ) (vs : List Visit) → is_in x path ≡ true → is_in x (visited vs) ≡ false → is_in x (visited (visit hosts w path n vs)) ≡ false
  visit_off path x n vs on h = within_off (suc (names_left w.computeds path)) path x n vs on h

  -- and only what has a property that goes on to what is read
  module _ (P : ℕ → Type 0) (reads : (n m : ℕ) (c d : Computed) → standing w n ≡ IsComputed c → P n → IsRead m (reads_of hosts w c) → standing w m ≡ IsComputed d → P m) where
    -- a name has it, if it is a computed
    abbrev Has : ℕ → Type 0
    Has n = (c : Computed) → standing w n ≡ IsComputed c → P n

    abbrev Only : List Visit → List Visit → Type 0
    Only vs us = (x : ℕ) → is_in x (visited us) ≡ true → (is_in x (visited vs) ≡ true) ⊎ P x

    visits_only : (go : ℕ → List Visit → List Visit) (ss : List Seen) → ((m : ℕ) (vs : List Visit) → IsRead m ss → Only vs (go m vs)) → (vs : List Visit) → Only vs (visits go ss vs)
    visits_only go [] f vs x h = inl h
    visits_only go (s ∷ ss) f vs x h = elim (visits_only go ss (λ m us r. f m us (inr r)) (go s.name vs) x h) [
      | inl on ↦ f s.name vs (inl refl) x on
      | inr p ↦ inr p
    ]

    within_only : (depth : ℕ) (path : List ℕ) (n : ℕ) (vs : List Visit) → Has n → Only vs (visit_within depth hosts w path n vs)
    within_only zero path n vs has x h = inl h
    within_only (suc depth) path n vs has x h =
        go (standing w n) refl (is_in n path || is_in n (visited vs))
        (λ c e. visits_only (visit_within depth hosts w (n ∷ path)) (reads_of hosts w c)
        (λ m us r. within_only depth (n ∷ path) m us (λ d st. reads n m c d e (has c e) r st)) vs) x h
      where
        inner : Computed → List Visit
        inner c = visits (visit_within depth hosts w (n ∷ path)) (reads_of hosts w c) vs

        go : (s : Stands) → standing w n ≡ s → (b : Bool) → ((c : Computed) → standing w n ≡ IsComputed c → Only vs (inner c)) →
            (y : ℕ) → is_in y (visited (visit_case s b vs (λ c. inner c ++ record { computed = c; path = path } ∷ []))) ≡ true →
            (is_in y (visited vs) ≡ true) ⊎ P y
        go IsGone e b f y g = inl g
        go (IsCell c) e b f y g = inl g
        go (IsComputed c) e true f y g = inl g
        go (IsComputed c) e false f y g = elim (some_snoc y (inner c) (record { computed = c; path = path }) g) [
          | inl on ↦ f c e y on
          | inr is ↦ inr (subst P (name_is hosts w n c e ∙ sym is) (has c e))
        ]

    pub visit_only : (path : List ℕ) (n : ℕ) (vs : List Visit) → Has n → Only vs (visit hosts w path n vs)
    visit_only path n vs has = within_only (suc (names_left w.computeds path)) path n vs has
