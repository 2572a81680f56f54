-- In the order of evaluation what a computed reads comes before it, or is being evaluated.
use Rattle.std.proofs.Common.{◌≡◌, ℕ, zero, suc, ◌<◌, ◌==◌, ◌||◌, Bool, true, false, cond, List, [], ◌∷◌, ◌++◌, refl, sym, ap, ◌∙◌, subst, arith, ◌⊎◌}
use Rattle.std.proofs.Common.{inl, inr}
use Rattle.std.proofs.lemmas.Bool.{eqb-true, eq-eqb}
use Rattle.signal_model.specs.Recipes.{Hosts}
use Rattle.signal_model.specs.Signals.{Signals, Computed, Stands, IsGone, IsCell, IsComputed, is_in, standing}
use Rattle.signal_model.specs.Values.{Seen, reads_of, names_left}
use Rattle.signal_model.specs.Orders.{Visit, visited, visits, visit_case, visit, order_after}
use Rattle.signal_model.specs.Laws.{IsRead, IsChain}
use Rattle.signal_laws.specs.OrderLaws.{IsPlaced, AreOrdered, AreClosed, seen_after, IsOrder, PlacesLaw}
use Rattle.signal_model.proofs.Shared.{name_is, left_less, tested, visit_by_cases, either, or_left, or_right}
use Rattle.signal_laws.proofs.FailedTests.{or_fst, or_snd}
use Rattle.signal_laws.proofs.Lists.{in_head}

-- one name more is seen
pub seen_snoc : (seen : List ℕ) (vs : List Visit) (v : Visit) → seen_after seen (vs ++ v ∷ []) ≡ v.computed.name ∷ seen_after seen vs
seen_snoc seen [] v = refl
seen_snoc seen (u ∷ us) v = seen_snoc (u.computed.name ∷ seen) us v

-- what is seen was seen before or is visited
pub seen_is : (x : ℕ) (seen : List ℕ) (vs : List Visit) → is_in x (seen_after seen vs) ≡ (is_in x seen || is_in x (visited vs))
seen_is x seen [] = go (is_in x seen)
  where
    go : (b : Bool) → b ≡ (b || false)
    go true = refl
    go false = refl
seen_is x seen (v ∷ vs) = seen_is x (v.computed.name ∷ seen) vs ∙ go (x == v.computed.name) (is_in x seen) (is_in x (visited vs))
  where
    go : (a b c : Bool) → ((a || b) || c) ≡ (b || (a || c))
    go true true c = refl
    go true false c = refl
    go false b c = refl

-- the first visits are in order
pub ordered_first : (hosts : Hosts) (w : Signals) (seen : List ℕ) (us vs : List Visit) → AreOrdered hosts w seen (us ++ vs) →
    AreOrdered hosts w seen us
ordered_first hosts w seen [] vs o = tt
ordered_first hosts w seen (u ∷ us) vs o = (o.0, ordered_first hosts w (u.computed.name ∷ seen) us vs o.1)

-- what is among the visits and one more
pub in_more : (x : ℕ) (vs : List Visit) (v : Visit) → is_in x (visited (vs ++ v ∷ [])) ≡ (is_in x (visited vs) || x == v.computed.name)
in_more x [] v = go (x == v.computed.name)
  where
    go : (b : Bool) → (b || false) ≡ b
    go true = refl
    go false = refl
in_more x (u ∷ us) v = ap (λ b. x == u.computed.name || b) (in_more x us v) ∙ go (x == u.computed.name) (is_in x (visited us)) (x == v.computed.name)
  where
    go : (a b c : Bool) → (a || (b || c)) ≡ ((a || b) || c)
    go true b c = refl
    go false b c = refl

module _ (hosts : Hosts) (w : Signals) where
  -- one visit more in its place
  ordered_snoc : (seen : List ℕ) (vs : List Visit) (v : Visit) → AreOrdered hosts w seen vs → IsPlaced hosts w (seen_after seen vs) v →
      AreOrdered hosts w seen (vs ++ v ∷ [])
  ordered_snoc seen [] v o p = (p, tt)
  ordered_snoc seen (u ∷ us) v o p = (o.0, ordered_snoc (u.computed.name ∷ seen) us v o.1 p)

  -- each computed that a visited computed reads is visited, or is on the path
  abbrev pub AreClosedBut : List ℕ → List Visit → Type 0
  AreClosedBut path vs = (x m : ℕ) (c d : Computed) → is_in x (visited vs) ≡ true → standing w x ≡ IsComputed c → IsRead m (reads_of hosts w c) →
      standing w m ≡ IsComputed d → (is_in m path || is_in m (visited vs)) ≡ true

  -- so it is on a longer path
  closed_longer : (n : ℕ) (path : List ℕ) (vs : List Visit) → AreClosedBut path vs → AreClosedBut (n ∷ path) vs
  closed_longer n path vs closed x m c d on st read std =
      elim (either (is_in m path) (is_in m (visited vs)) (closed x m c d on st read std)) [
        | inl way ↦ or_left (is_in m (n ∷ path)) (is_in m (visited vs)) (or_right (m == n) (is_in m path) way)
        | inr was ↦ or_right (is_in m (n ∷ path)) (is_in m (visited vs)) was
      ]

  -- and after one visit more the path is shorter
  closed_snoc : (path : List ℕ) (n : ℕ) (us : List Visit) (c : Computed) → standing w n ≡ IsComputed c → AreClosedBut (n ∷ path) us →
      ((m : ℕ) (d : Computed) → IsRead m (reads_of hosts w c) → standing w m ≡ IsComputed d → (is_in m (n ∷ path) || is_in m (visited us)) ≡ true) →
      AreClosedBut path (us ++ record { computed = c; path = path } ∷ [])
  closed_snoc path n us c e closed own x m b d on st read std =
      elim (either (is_in x (visited us)) (x == c.name) (sym (in_more x us v) ∙ on)) [
        | inl was ↦ up (closed x m b d was st read std)
        | inr is ↦
            let same : b ≡ c = cc (sym st ∙ ap (standing w) (eqb-true x c.name is ∙ sym name) ∙ e) in
            up (own m d (subst (λ y. IsRead m (reads_of hosts w y)) same read) std)
      ]
    where
      v : Visit
      v = record { computed = c; path = path }

      name : n ≡ c.name
      name = name_is hosts w n c e

      up : (is_in m (n ∷ path) || is_in m (visited us)) ≡ true → (is_in m path || is_in m (visited (us ++ v ∷ []))) ≡ true
      up h = elim (either (is_in m (n ∷ path)) (is_in m (visited us)) h) [
        | inr was ↦ or_right (is_in m path) (is_in m (visited (us ++ v ∷ []))) (in_more m us v ∙ or_left (is_in m (visited us)) (m == c.name) was)
        | inl way ↦ elim (either (m == n) (is_in m path) way) [
          | inr far ↦ or_left (is_in m path) (is_in m (visited (us ++ v ∷ []))) far
          | inl is ↦ or_right (is_in m path) (is_in m (visited (us ++ v ∷ [])))
              (in_more m us v ∙ or_right (is_in m (visited us)) (m == c.name) (eq-eqb m c.name (eqb-true m n is ∙ name)))
        ]
      ]

  -- the list grew in order, by what isn't on the path
  pub record Grown (path : List ℕ) (done out : List Visit) : Type 0 where
    pub ordered : AreOrdered hosts w [] out
    pub closed : AreClosedBut path done → AreClosedBut path out
    pub more : (x : ℕ) → is_in x (visited done) ≡ true → is_in x (visited out) ≡ true
    pub old : (x : ℕ) → is_in x (visited out) ≡ true → (is_in x (visited done) ≡ true) ⊎ (is_in x path ≡ false)

  -- a computed is on the path or visited
  abbrev pub Came : List ℕ → ℕ → List Visit → Type 0
  Came path n out = (c : Computed) → standing w n ≡ IsComputed c → (is_in n path || is_in n (visited out)) ≡ true

  -- the list grew by the visit of a name
  pub record GrownBy (path : List ℕ) (n : ℕ) (done out : List Visit) : Type 0 where
    pub grown : Grown path done out
    pub came : Came path n out

  -- the list grew by the visits of all reads
  record GrownByAll (path : List ℕ) (ss : List Seen) (done out : List Visit) : Type 0 where
    grown : Grown path done out
    came : (m : ℕ) → IsRead m ss → Came path m out

  -- a list that stays
  no_growth : (path : List ℕ) (done : List Visit) → AreOrdered hosts w [] done → Grown path done done
  no_growth path done d = record { ordered = d; closed = λ h. h; more = λ x h. h; old = λ x h. inl h }

  -- growth after growth
  grown_on : (path : List ℕ) (a b c : List Visit) → Grown path a b → Grown path b c → Grown path a c
  grown_on path a b c f g =
      record {
        ordered = g.ordered;
        closed = λ h. g.closed (f.closed h);
        more = λ x h. g.more x (f.more x h);
        old =
            λ x h. elim (g.old x h) [ inl in_b ↦ f.old x in_b | inr off ↦ inr off ];
      }

  -- what was visited stays visited
  came_on : (path : List ℕ) (n : ℕ) (a b : List Visit) → Grown path a b → Came path n a → Came path n b
  came_on path n a b g f = λ c st. elim (either (is_in n path) (is_in n (visited a)) (f c st)) [
    | inl on ↦ or_left (is_in n path) (is_in n (visited b)) on
    | inr was ↦ or_right (is_in n path) (is_in n (visited b)) (g.more n was)
  ]

  -- all reads are visited in order
  visits_grow : (path : List ℕ) (all : List Seen) →
      ((m : ℕ) (done : List Visit) → IsRead m all → AreOrdered hosts w [] done → GrownBy path m done (visit hosts w path m done)) →
      (ss : List Seen) → ((m : ℕ) → IsRead m ss → IsRead m all) → (done : List Visit) → AreOrdered hosts w [] done →
      GrownByAll path ss done (visits (visit hosts w path) ss done)
  visits_grow path all f [] sub done d = record { grown = no_growth path done d; came = λ m r. absurd r }
  visits_grow path all f (s ∷ ss) sub done d =
      let vs : List Visit = visit hosts w path s.name done in
      let a : GrownBy path s.name done vs = f s.name done (sub s.name (inl refl)) d in
      let b : GrownByAll path ss vs (visits (visit hosts w path) ss vs) = visits_grow path all f ss (λ m r. sub m (inr r)) vs a.grown.ordered in
      record {
        grown = grown_on path done vs (visits (visit hosts w path) ss vs) a.grown b.grown;
        came = λ m r. elim r [
          | inl e ↦ subst (λ j. Came path j (visits (visit hosts w path) ss vs)) (sym e)
              (came_on path s.name vs (visits (visit hosts w path) ss vs) b.grown a.came)
          | inr t ↦ b.came m t
        ];
      }

  -- a name is visited in order
  pub visit_grows : (far : ℕ) (path : List ℕ) (n : ℕ) (done : List Visit) → IsChain hosts w n path → names_left w.computeds path < far →
      AreOrdered hosts w [] done → GrownBy path n done (visit hosts w path n done)
  visit_grows zero path n done chain lt d = absurd (omega arith)
  visit_grows (suc far) path n done chain lt d =
      subst (GrownBy path n done) (sym (visit_by_cases hosts w path n done))
      (go (standing w n) refl (tested (is_in n path || is_in n (visited done))) (λ m us ch less o. visit_grows far (n ∷ path) m us ch less o))
    where
      stands_is : (s t : Stands) → standing w n ≡ s → standing w n ≡ t → s ≡ t
      stands_is s t p q = sym p ∙ q

      go : (s : Stands) → standing w n ≡ s → ((is_in n path || is_in n (visited done)) ≡ true) ⊎ ((is_in n path || is_in n (visited done)) ≡ false) →
          ((m : ℕ) (us : List Visit) → IsChain hosts w m (n ∷ path) → names_left w.computeds (n ∷ path) < far → AreOrdered hosts w [] us →
          GrownBy (n ∷ path) m us (visit hosts w (n ∷ path) m us)) →
          GrownBy path n done (visit_case s (is_in n path || is_in n (visited done)) done
          (λ c. visits (visit hosts w (n ∷ path)) (reads_of hosts w c) done ++ record { computed = c; path = path } ∷ []))
      go IsGone e p next = record { grown = no_growth path done d; came = λ c st. cc (stands_is IsGone (IsComputed c) e st) }
      go (IsCell x) e p next = record { grown = no_growth path done d; came = λ c st. cc (stands_is (IsCell x) (IsComputed c) e st) }
      go (IsComputed c) e (inl p) next =
          subst (λ b. GrownBy path n done
          (cond b done (visits (visit hosts w (n ∷ path)) (reads_of hosts w c) done ++ record { computed = c; path = path } ∷ []))) (sym p)
          (record { grown = no_growth path done d; came = λ c' st. p })
      go (IsComputed c) e (inr p) next =
          let off : is_in n path ≡ false = or_fst (is_in n path) (is_in n (visited done)) p in
          let fresh : is_in n (visited done) ≡ false = or_snd (is_in n path) (is_in n (visited done)) p in
          let name : n ≡ c.name = name_is hosts w n c e in
          let v : Visit = record { computed = c; path = path } in
          let us : List Visit = visits (visit hosts w (n ∷ path)) (reads_of hosts w c) done in
          let less : names_left w.computeds path ≡ suc (names_left w.computeds (n ∷ path)) = left_less hosts w n path c e off
          ∙ ap (λ y. suc (names_left w.computeds (y ∷ path))) (sym name) in
          let kids : GrownByAll (n ∷ path) (reads_of hosts w c) done us =
          visits_grow (n ∷ path) (reads_of hosts w c)
          (λ m ws r o. next m ws (record { computed = c; stands = e; read = r }, chain) (omega (arith, less)) o) (reads_of hosts w c)
          (λ m r. r) done d in
          let away : is_in n (visited us) ≡ false = elim (tested (is_in n (visited us))) [
            | inr z ↦ z
            | inl z ↦ elim (kids.grown.old n z) [ inl was ↦ cc (sym was ∙ fresh) | inr bad ↦ cc (sym bad ∙ in_head n path) ]
          ] in
          let placed : IsPlaced hosts w (seen_after [] us) v = record {
            stands = ap (standing w) (sym name) ∙ e;
            chain = subst (λ y. IsChain hosts w y path) name chain;
            new = ap (λ y. is_in y (seen_after [] us)) (sym name) ∙ seen_is n [] us ∙ away;
            before = λ m x r st. elim (either (is_in m (n ∷ path)) (is_in m (visited us)) (kids.came m r x st)) [
              | inl on ↦ inl (ap (λ y. is_in m (y ∷ path)) (sym name) ∙ on)
              | inr was ↦ inr (seen_is m [] us ∙ was)
            ];
          } in
          let out : GrownBy path n done (us ++ v ∷ []) = record {
            grown = record {
              ordered = ordered_snoc [] us v kids.grown.ordered placed;
              closed = λ h. closed_snoc path n us c e (kids.grown.closed (closed_longer n path done h)) (λ m x r st. kids.came m r x st);
              more = λ x h. in_more x us v ∙ or_left (is_in x (visited us)) (x == c.name) (kids.grown.more x h);
              old = λ x h. elim (either (is_in x (visited us)) (x == c.name) (sym (in_more x us v) ∙ h)) [
                | inl was ↦ elim (kids.grown.old x was) [ inl before ↦ inl before | inr off2 ↦ inr (or_snd (x == n) (is_in x path) off2) ]
                | inr is ↦ inr (ap (λ y. is_in y path) (eqb-true x c.name is ∙ sym name) ∙ off)
              ];
            };
            came = λ c' st. or_right (is_in n path) (is_in n (visited (us ++ v ∷ [])))
                (in_more n us v ∙ or_right (is_in n (visited us)) (n == c.name) (eq-eqb n c.name name));
          } in
          subst (λ z. GrownBy path n done (cond z done (us ++ v ∷ []))) (sym p) out

  -- all that is asked for is visited in order
  order_grows : (asked : List ℕ) (done : List Visit) → AreOrdered hosts w [] done → AreClosed hosts w done →
      IsOrder hosts w asked (order_after hosts w asked done)
      × ((x : ℕ) → is_in x (visited done) ≡ true → is_in x (visited (order_after hosts w asked done)) ≡ true)
  order_grows [] done d closed = (record { ordered = d; came = λ n c on st. cc on; closed = closed }, λ x h. h)
  order_grows (a ∷ asked) done d closed =
      let vs : List Visit = visit hosts w [] a done in
      let lt : names_left w.computeds [] < suc (names_left w.computeds []) = omega arith in
      let g : GrownBy [] a done vs = visit_grows (suc (names_left w.computeds [])) [] a done tt lt d in
      let r : IsOrder hosts w asked (order_after hosts w asked vs)
      × ((x : ℕ) → is_in x (visited vs) ≡ true → is_in x (visited (order_after hosts w asked vs)) ≡ true) =
      order_grows asked vs g.grown.ordered (g.grown.closed closed) in (
        record {
          ordered = r.0.ordered;
          came = λ n c on st. elim (either (n == a) (is_in n asked) on) [
            | inl is ↦ let na : n ≡ a = eqb-true n a is in r.1 n (ap (λ y. is_in y (visited vs)) na ∙ g.came c (ap (standing w) (sym na) ∙ st))
            | inr later ↦ r.0.came n c later st
          ];
          closed = r.0.closed;
        },
        λ x h. r.1 x (g.grown.more x h),
      )

-- the order has each visit in its place
pub places_law : PlacesLaw
places_law hosts w asked = (order_grows hosts w asked [] tt (λ n m c d on st read std. cc on)).0
