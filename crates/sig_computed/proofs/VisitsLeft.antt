-- What the frames of a stack leave to be visited.
use Rattle.std.proofs.Common.{◌≡◌, ℕ, zero, suc, ◌==◌, ◌||◌, Bool, true, false, cond, List, [], ◌∷◌, ◌++◌, refl, sym, ap, ◌∙◌, subst, inl, inr}
use Rattle.signal_model.specs.Recipes.{Hosts}
use Rattle.signal_model.specs.Signals.{Signals, Computed, Stands, IsGone, IsCell, IsComputed, is_in, standing}
use Rattle.signal_model.specs.Values.{Seen, reads_of, names_left}
use Rattle.signal_model.specs.Orders.{Visit, visited, visits, visit_case, visit_within, visit}
use Rattle.signal_model.specs.Sound.{names_of}
use Rattle.signal_model.proofs.Shared.{name_is, tested, visit_by_cases}
use Rattle.signal_laws.proofs.Shared.{or_right, in_head, in_tail}
use Rattle.sig_computed.specs.Steps.{Frame, frame_names}

-- one visit more forgets none
pub in_snoc : (x : ℕ) (vs : List Visit) (v : Visit) → is_in x (visited vs) ≡ true → is_in x (visited (vs ++ v ∷ [])) ≡ true
in_snoc x [] v h = cc
in_snoc x (u ∷ us) v h = go (x == u.computed.name) h (in_snoc x us v)
  where
    go : (b : Bool) → (b || is_in x (visited us)) ≡ true → (is_in x (visited us) ≡ true → is_in x (visited (us ++ v ∷ [])) ≡ true) →
        (b || is_in x (visited (us ++ v ∷ []))) ≡ true
    go true q f = refl
    go false q f = f q

-- and is among them
pub in_last : (vs : List Visit) (v : Visit) → is_in v.computed.name (visited (vs ++ v ∷ [])) ≡ true
in_last [] v = in_head v.computed.name []
in_last (u ∷ us) v = in_tail v.computed.name u.computed.name (visited (us ++ v ∷ [])) (in_last us v)

-- nor do the visits of all reads
visits_more : (go : ℕ → List Visit → List Visit) → ((x m : ℕ) (vs : List Visit) → is_in x (visited vs) ≡ true → is_in x (visited (go m vs)) ≡ true) →
    (ss : List Seen) (x : ℕ) (vs : List Visit) → is_in x (visited vs) ≡ true → is_in x (visited (visits go ss vs)) ≡ true
visits_more go f [] x vs h = h
visits_more go f (s ∷ ss) x vs h = visits_more go f ss x (go s.name vs) (f x s.name vs h)

module _ (hosts : Hosts) (w : Signals) where
  -- nor does a visit
  visit_more : (depth : ℕ) (path : List ℕ) (x n : ℕ) (vs : List Visit) → is_in x (visited vs) ≡ true →
      is_in x (visited (visit_within depth hosts w path n vs)) ≡ true
  visit_more zero path x n vs h = h
  visit_more (suc depth) path x n vs h =
      go (standing w n) (is_in n path || is_in n (visited vs))
      (λ c. visits_more (visit_within depth hosts w (n ∷ path)) (λ y m us. visit_more depth (n ∷ path) y m us) (reads_of hosts w c) x vs h)
    where
      go : (s : Stands) (b : Bool) →
          ((c : Computed) → is_in x (visited (visits (visit_within depth hosts w (n ∷ path)) (reads_of hosts w c) vs)) ≡ true) →
          is_in x (visited (visit_case s b vs
          (λ c. visits (visit_within depth hosts w (n ∷ path)) (reads_of hosts w c) vs ++ record { computed = c; path = path } ∷ []))) ≡ true
      go IsGone b f = h
      go (IsCell c) b f = h
      go (IsComputed c) true f = h
      go (IsComputed c) false f = in_snoc x (visits (visit_within depth hosts w (n ∷ path)) (reads_of hosts w c) vs)
          (record { computed = c; path = path }) (f c)

  -- each computed of these names is being evaluated or was visited: they are passed
  abbrev pub ArePassed : List ℕ → List Visit → List ℕ → Type 0
  ArePassed path vs ns = (x : ℕ) (d : Computed) → is_in x ns ≡ true → standing w x ≡ IsComputed d → (is_in x path || is_in x (visited vs)) ≡ true

  -- what is passed isn't visited again
  pub visit_passed : (path : List ℕ) (n : ℕ) (vs : List Visit) →
      ((d : Computed) → standing w n ≡ IsComputed d → (is_in n path || is_in n (visited vs)) ≡ true) → visit hosts w path n vs ≡ vs
  visit_passed path n vs f = visit_by_cases hosts w path n vs ∙ go (standing w n) refl
    where
      go : (s : Stands) → standing w n ≡ s →
          visit_case s (is_in n path || is_in n (visited vs)) vs
          (λ c. visits (visit hosts w (n ∷ path)) (reads_of hosts w c) vs ++ record { computed = c; path = path } ∷ []) ≡ vs
      go IsGone e = refl
      go (IsCell c) e = refl
      go (IsComputed c) e = ap
          (λ b. cond b vs (visits (visit hosts w (n ∷ path)) (reads_of hosts w c) vs ++ record { computed = c; path = path } ∷ [])) (f c e)

  -- so reads that are all passed add nothing
  pub visits_passed : (path : List ℕ) (ss rest : List Seen) (vs : List Visit) → ArePassed path vs (names_of ss) →
      visits (visit hosts w path) (ss ++ rest) vs ≡ visits (visit hosts w path) rest vs
  visits_passed path [] rest vs f = refl
  visits_passed path (s ∷ ss) rest vs f =
      ap (λ us. visits (visit hosts w path) (ss ++ rest) us) (visit_passed path s.name vs (λ d e. f s.name d (in_head s.name (names_of ss)) e))
      ∙ visits_passed path ss rest vs (λ x d on e. f x d (in_tail x s.name (names_of ss) on) e)

  -- the visits of a computed that has the rest of its reads to visit, and then itself
  abbrev pub finished : Stands → ℕ → List ℕ → List Visit → List Visit
  finished (IsComputed c) n path vs = visits (visit hosts w (n ∷ path)) (reads_of hosts w c) vs ++ record { computed = c; path = path } ∷ []
  finished _ n path vs = vs

  -- a computed that isn't passed is visited so
  pub visit_new : (path : List ℕ) (n : ℕ) (c : Computed) (vs : List Visit) → standing w n ≡ IsComputed c →
      (is_in n path || is_in n (visited vs)) ≡ false → visit hosts w path n vs ≡ finished (standing w n) n path vs
  visit_new path n c vs e off =
      visit_by_cases hosts w path n vs
      ∙ (λ i. visit_case (e i) (off i) vs
      (λ d. visits (visit hosts w (n ∷ path)) (reads_of hosts w d) vs ++ record { computed = d; path = path } ∷ []))
      ∙ (λ i. finished (sym e i) n path vs)

  -- and is passed then
  pub visit_came : (path : List ℕ) (n : ℕ) (vs : List Visit) (d : Computed) → standing w n ≡ IsComputed d →
      (is_in n path || is_in n (visited (visit hosts w path n vs))) ≡ true
  visit_came path n vs d e = elim (tested (is_in n path || is_in n (visited vs))) [
    | inl on ↦ subst (λ us. (is_in n path || is_in n (visited us)) ≡ true) (sym (visit_passed path n vs (λ x y. on))) on
    | inr off ↦
        let us : List Visit = visits (visit hosts w (n ∷ path)) (reads_of hosts w d) vs in
        let is : visit hosts w path n vs ≡ us ++ record { computed = d; path = path } ∷ [] = visit_new path n d vs e off
        ∙ (λ i. finished (e i) n path vs) in
        subst (λ z. (is_in n path || is_in n (visited z)) ≡ true) (sym is)
        (or_right (is_in n path) (is_in n (visited (us ++ record { computed = d; path = path } ∷ [])))
        (ap (λ y. is_in y (visited (us ++ record { computed = d; path = path } ∷ []))) (name_is hosts w n d e)
        ∙ in_last us (record { computed = d; path = path })))
  ]

  -- what is passed stays so
  passed_more : (path : List ℕ) (m : ℕ) (vs : List Visit) (ns : List ℕ) → ArePassed path vs ns → ArePassed path (visit hosts w path m vs) ns
  passed_more path m vs ns f x d on e = go (is_in x path) (f x d on e) (λ h. visit_more (suc (names_left w.computeds path)) path x m vs h)
    where
      go : (b : Bool) → (b || is_in x (visited vs)) ≡ true → (is_in x (visited vs) ≡ true → is_in x (visited (visit hosts w path m vs)) ≡ true) →
          (b || is_in x (visited (visit hosts w path m vs))) ≡ true
      go true q h = refl
      go false q h = h q

  -- where all reads before one are passed, that one may be visited first
  pub next_first : (path : List ℕ) (before rest : List Seen) (t : Seen) (vs : List Visit) → ArePassed path vs (names_of before) →
      visits (visit hosts w path) (before ++ t ∷ rest) (visit hosts w path t.name vs) ≡ visits (visit hosts w path) (before ++ t ∷ rest) vs
  next_first path before rest t vs f =
      let us : List Visit = visit hosts w path t.name vs in
      visits_passed path before (t ∷ rest) us (passed_more path t.name vs (names_of before) f)
      ∙ ap (λ z. visits (visit hosts w path) rest z) (visit_passed path t.name us (λ d e. visit_came path t.name vs d e))
      ∙ sym (visits_passed path before (t ∷ rest) vs f)

  -- the visits once each frame is finished, the innermost first
  abbrev pub completed : List Frame → List Visit → List Visit
  completed [] vs = vs
  completed (f ∷ fs) vs = completed fs (finished (standing w f.name) f.name (frame_names fs) vs)
