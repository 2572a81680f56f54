-- Names settled one list after another are settled as one list.
use Rattle.std.proofs.Common.{◌≡◌, ℕ, zero, suc, ◌<◌, ◌==◌, ◌||◌, Bool, true, false, cond, List, [], ◌∷◌, ◌++◌, append_assoc, append-nil, refl, sym, ap}
use Rattle.std.proofs.Common.{◌∙◌, subst, arith, ◌⊎◌, inl, inr}
use Rattle.std.proofs.lemmas.Bool.{eqb-true}
use Rattle.signal_model.specs.Recipes.{Hosts}
use Rattle.signal_model.specs.Signals.{Signals, Computed, Stands, IsGone, IsCell, IsComputed, is_in, standing}
use Rattle.signal_model.specs.Values.{Seen, evaluated, reads_of, names_left}
use Rattle.signal_model.specs.Orders.{Visit, visited, visits, visit_case, visit_within, visit, order_after, evaluation_order}
use Rattle.signal_model.specs.Memos.{Memos, must_run}
use Rattle.signal_model.specs.Settling.{Run, Settled, with_run, settle_visit, settle_visits, settled}
use Rattle.signal_model.specs.Marks.{Clean, mark_of}
use Rattle.signal_model.specs.Kept.{AreKept}
use Rattle.signal_model.specs.Laws.{IsRead, IsChain}
use Rattle.signal_model.proofs.Shared.{name_is, left_less, tested, either, or_left, or_right, visit_by_cases}
use Rattle.signal_laws.specs.OrderLaws.{AreOrdered, AreClosed, seen_after}
use Rattle.signal_laws.specs.SettleLaws.{followed_by, SettleMoreLaw, SettleBothLaw}
use Rattle.signal_laws.proofs.PlacedVisits.{in_more, seen_is, Came, visit_grows, places_law}
use Rattle.signal_laws.proofs.CleanVisits.{pass_law, settle_append}
use Rattle.signal_laws.proofs.VisitStates.{visits_state, first_state}
use Rattle.signal_laws.proofs.StillSettled.{IsSettled, settled_clean}

-- ---- what a visit does

module _ (hosts : Hosts) (w : Signals) where
  -- a name that is no computed, or is on the path or visited, adds nothing
  visit_stays : (path : List ℕ) (n : ℕ) (done : List Visit) → Came hosts w path n done → visit hosts w path n done ≡ done
  visit_stays path n done came = visit_by_cases hosts w path n done ∙ go (standing w n) refl
    where
      rest : Computed → List Visit
      rest c = visits (visit hosts w (n ∷ path)) (reads_of hosts w c) done ++ record { computed = c; path = path } ∷ []

      go : (s : Stands) → standing w n ≡ s → visit_case s (is_in n path || is_in n (visited done)) done rest ≡ done
      go IsGone e = refl
      go (IsCell c) e = refl
      go (IsComputed c) e = ap (λ b. cond b done (rest c)) (came c e)

  -- any other adds what it reads, and then itself
  visit_goes : (path : List ℕ) (n : ℕ) (done : List Visit) (c : Computed) → standing w n ≡ IsComputed c → is_in n path ≡ false →
      is_in n (visited done) ≡ false →
      visit hosts w path n done ≡ visits (visit hosts w (n ∷ path)) (reads_of hosts w c) done ++ record { computed = c; path = path } ∷ []
  visit_goes path n done c e off new =
      visit_by_cases hosts w path n done
      ∙ (λ i. visit_case (e i) (off i || new i) done
      (λ d. visits (visit hosts w (n ∷ path)) (reads_of hosts w d) done ++ record { computed = d; path = path } ∷ []))

  -- ---- visits among names that are closed

  module _ (closed : List Visit) (is_closed : AreClosed hosts w closed) where
    -- visits grew by names that are among these
    record IsAmong (done out : List Visit) : Type 0 where
      more : (x : ℕ) → is_in x (visited done) ≡ true → is_in x (visited out) ≡ true
      only : (x : ℕ) → is_in x (visited out) ≡ true → (is_in x (visited done) ≡ true) ⊎ (is_in x (visited closed) ≡ true)

    none_among : (done : List Visit) → IsAmong done done
    none_among done = record { more = λ x h. h; only = λ x h. inl h }

    among_on : (a b c : List Visit) → IsAmong a b → IsAmong b c → IsAmong a c
    among_on a b c f g = record {
      more = λ x h. g.more x (f.more x h);
      only = λ x h. elim (g.only x h) [ inl in_b ↦ f.only x in_b | inr there ↦ inr there ];
    }

    visits_among : (go : ℕ → List Visit → List Visit) (ss : List Seen) →
        ((m : ℕ) (us : List Visit) → IsRead m ss → IsAmong us (go m us)) → (us : List Visit) → IsAmong us (visits go ss us)
    visits_among go [] f us = none_among us
    visits_among go (s ∷ ss) f us =
        among_on us (go s.name us) (visits go ss (go s.name us)) (f s.name us (inl refl))
        (visits_among go ss (λ m vs read. f m vs (inr read)) (go s.name us))

    -- a name is among these, if it is a computed
    abbrev Named : ℕ → Type 0
    Named n = (c : Computed) → standing w n ≡ IsComputed c → is_in n (visited closed) ≡ true

    snoc_among : (done us : List Visit) (v : Visit) → IsAmong done us → is_in v.computed.name (visited closed) ≡ true → IsAmong done (us ++ v ∷ [])
    snoc_among done us v f named = record {
      more = λ x h. in_more x us v ∙ or_left (is_in x (visited us)) (x == v.computed.name) (f.more x h);
      only = λ x h. elim (either (is_in x (visited us)) (x == v.computed.name) (sym (in_more x us v) ∙ h)) [
        | inl was ↦ f.only x was
        | inr is ↦ inr (ap (λ y. is_in y (visited closed)) (eqb-true x v.computed.name is) ∙ named)
      ];
    }

    -- a visit of one of them adds no other
    visit_among : (depth : ℕ) (path : List ℕ) (n : ℕ) (done : List Visit) → Named n → IsAmong done (visit_within depth hosts w path n done)
    visit_among zero path n done named = none_among done
    visit_among (suc depth) path n done named =
        go (standing w n) refl (is_in n path || is_in n (visited done))
        (λ c e. visits_among (visit_within depth hosts w (n ∷ path)) (reads_of hosts w c)
        (λ m us read. visit_among depth (n ∷ path) m us (λ d st. is_closed n m c d (named c e) e read st)) done)
      where
        inner : Computed → List Visit
        inner c = visits (visit_within depth hosts w (n ∷ path)) (reads_of hosts w c) done

        go : (s : Stands) → standing w n ≡ s → (passed : Bool) → ((c : Computed) → standing w n ≡ IsComputed c → IsAmong done (inner c)) →
            IsAmong done (visit_case s passed done (λ c. inner c ++ record { computed = c; path = path } ∷ []))
        go IsGone e passed below = none_among done
        go (IsCell c) e passed below = none_among done
        go (IsComputed c) e true below = none_among done
        go (IsComputed c) e false below =
            snoc_among done (inner c) (record { computed = c; path = path }) (below c e)
            (ap (λ y. is_in y (visited closed)) (sym (name_is hosts w n c e)) ∙ named c e)

-- ---- settling behind runs

-- earlier runs stay before those to come
settle_behind : (hosts : Hosts) (w : Signals) (vs : List Visit) (s t : Settled) →
    settle_visits hosts w vs (followed_by s t) ≡ followed_by s (settle_visits hosts w vs t)
settle_behind hosts w [] s t = refl
settle_behind hosts w (v ∷ vs) s t =
    ap (settle_visits hosts w vs) (go (must_run t.memos v.computed.name v.path)) ∙ settle_behind hosts w vs s (settle_visit hosts w v t)
  where
    ran : List Run → Settled
    ran runs = record {
      memos = with_run t.memos v.computed.name (evaluated hosts w v.computed []);
      runs = runs ++ record { name = v.computed.name; evaluation = evaluated hosts w v.computed [] } ∷ [];
    }

    go : (b : Bool) → cond b (ran (s.runs ++ t.runs)) (followed_by s t) ≡ followed_by s (cond b (ran t.runs) t)
    go false = refl
    go true = (λ i. record {
      memos = with_run t.memos v.computed.name (evaluated hosts w v.computed []);
      runs = append_assoc s.runs t.runs (record { name = v.computed.name; evaluation = evaluated hosts w v.computed [] } ∷ []) i;
    })

-- the order of two lists of names
order_append : (hosts : Hosts) (w : Signals) (ns ms : List ℕ) (done : List Visit) →
    order_after hosts w (ns ++ ms) done ≡ order_after hosts w ms (order_after hosts w ns done)
order_append hosts w [] ms done = refl
order_append hosts w (n ∷ ns) ms done = order_append hosts w ns ms (visit hosts w [] n done)

-- ---- going on where names are settled

module _ (hosts : Hosts) (w : Signals) (k : Memos) (asked : List ℕ) (are_kept : AreKept hosts w k) where
  -- the visits for the first names
  abbrev before : List Visit
  before = evaluation_order hosts w asked

  -- nothing is settled yet
  abbrev start : Settled
  start = record { memos = k; runs = [] }

  -- the first names are settled
  abbrev middle : Settled
  middle = settled hosts w k asked

  -- Visits that went on from the first, and others that began anew where the first names are settled, settle to the same. The names of the
  -- longer list are those of the shorter and those of the first visits.
  record IsSame (longer shorter : List Visit) : Type 0 where
    ordered : AreOrdered hosts w [] longer
    same : settle_visits hosts w longer start ≡ settle_visits hosts w shorter middle
    names : (x : ℕ) → is_in x (visited longer) ≡ (is_in x (visited shorter) || is_in x (visited before))

  -- it begins so
  same_first : IsSame before []
  same_first = record { ordered = (places_law hosts w asked).ordered; same = refl; names = λ x. refl }

  -- the first names are settled still
  still : (longer shorter : List Visit) → IsSame longer shorter →
      IsSettled hosts w (settle_visits hosts w shorter middle).memos asked
  still longer shorter s =
      subst (λ (z : Settled). IsSettled hosts w z.memos asked) s.same (record {
        seen = seen_after [] longer;
        state = visits_state hosts w [] longer start s.ordered (first_state hosts w k are_kept);
        all = λ x h. seen_is x [] longer ∙ s.names x ∙ or_right (is_in x (visited shorter)) (is_in x (visited before)) h;
      })

  -- a visit that adds nothing to either
  same_stay : (path : List ℕ) (n : ℕ) (longer shorter : List Visit) → Came hosts w path n longer → Came hosts w path n shorter →
      IsSame longer shorter → IsSame (visit hosts w path n longer) (visit hosts w path n shorter)
  same_stay path n longer shorter f g s =
      subst (λ us. IsSame us (visit hosts w path n shorter)) (sym (visit_stays hosts w path n longer f))
      (subst (IsSame longer) (sym (visit_stays hosts w path n shorter g)) s)

  -- a name that is settled adds to the shorter what runs nothing
  same_pass : (path : List ℕ) (n : ℕ) (c : Computed) (longer shorter : List Visit) → standing w n ≡ IsComputed c → IsChain hosts w n path →
      is_in n (visited before) ≡ true → IsSame longer shorter →
      IsSame (visit hosts w path n longer) (visit hosts w path n shorter)
  same_pass path n c longer shorter e chain old s =
      let i : IsSettled hosts w (settle_visits hosts w shorter middle).memos asked = still longer shorter s in
      let clean : mark_of w (settle_visits hosts w shorter middle).memos n ≡ Clean =
      settled_clean hosts w (settle_visits hosts w shorter middle).memos asked i n c e old in
      let among : IsAmong hosts w before (places_law hosts w asked).closed shorter (visit hosts w path n shorter) =
      visit_among hosts w before (places_law hosts w asked).closed (suc (names_left w.computeds path)) path n shorter
      (λ d st. old) in
      let came : Came hosts w path n longer = λ d st. or_right (is_in n path) (is_in n (visited longer))
      (s.names n ∙ or_right (is_in n (visited shorter)) (is_in n (visited before)) old) in
      subst (λ us. IsSame us (visit hosts w path n shorter)) (sym (visit_stays hosts w path n longer came)) (record {
        ordered = s.ordered;
        same = s.same ∙ sym (pass_law hosts w middle shorter n path i.state.kept.sound clean chain);
        names = λ x. s.names x ∙ grown (is_in x (visited shorter)) (is_in x (visited (visit hosts w path n shorter)))
            (is_in x (visited before)) (among.more x) (among.only x);
      })
    where
      grown : (a b d : Bool) → (a ≡ true → b ≡ true) → (b ≡ true → (a ≡ true) ⊎ (d ≡ true)) → (a || d) ≡ (b || d)
      grown true b d f g = sym (ap (λ x. x || d) (f refl))
      grown false false d f g = refl
      grown false true d f g = elim (g refl) [ inl wrong ↦ cc wrong | inr is ↦ is ]

  -- any other is visited, by the same path, in both
  same_more : (path : List ℕ) (n : ℕ) (c : Computed) (longer shorter : List Visit) → standing w n ≡ IsComputed c → IsChain hosts w n path →
      is_in n path ≡ false → is_in n (visited longer) ≡ false → is_in n (visited shorter) ≡ false → AreOrdered hosts w [] longer →
      IsSame (visits (visit hosts w (n ∷ path)) (reads_of hosts w c) longer) (visits (visit hosts w (n ∷ path)) (reads_of hosts w c) shorter) →
      IsSame (visit hosts w path n longer) (visit hosts w path n shorter)
  same_more path n c longer shorter e chain off new_long new_short o s =
      subst (λ us. IsSame us (visit hosts w path n shorter)) (sym goes_long) (subst (IsSame (us ++ v ∷ [])) (sym goes_short) (record {
        ordered = subst (AreOrdered hosts w []) goes_long
            (visit_grows hosts w (suc (names_left w.computeds path)) path n longer chain (omega arith) o).grown.ordered;
        same = settle_append hosts w us (v ∷ []) start ∙ ap (settle_visit hosts w v) s.same
            ∙ sym (settle_append hosts w vs (v ∷ []) middle);
        names = λ x. in_more x us v ∙ ap (λ b. b || x == c.name) (s.names x)
            ∙ swap (is_in x (visited vs)) (is_in x (visited before)) (x == c.name)
            ∙ ap (λ b. b || is_in x (visited before)) (sym (in_more x vs v));
      }))
    where
      v : Visit
      v = record { computed = c; path = path }

      us : List Visit
      us = visits (visit hosts w (n ∷ path)) (reads_of hosts w c) longer

      vs : List Visit
      vs = visits (visit hosts w (n ∷ path)) (reads_of hosts w c) shorter

      goes_long : visit hosts w path n longer ≡ us ++ v ∷ []
      goes_long = visit_goes hosts w path n longer c e off new_long

      goes_short : visit hosts w path n shorter ≡ vs ++ v ∷ []
      goes_short = visit_goes hosts w path n shorter c e off new_short

      swap : (a d b : Bool) → ((a || d) || b) ≡ ((a || b) || d)
      swap true d b = refl
      swap false true true = refl
      swap false true false = refl
      swap false false true = refl
      swap false false false = refl

  same_visits : (path : List ℕ) (ss : List Seen) →
      ((m : ℕ) (us vs : List Visit) → IsRead m ss → IsSame us vs → IsSame (visit hosts w path m us) (visit hosts w path m vs)) →
      (us vs : List Visit) → IsSame us vs → IsSame (visits (visit hosts w path) ss us) (visits (visit hosts w path) ss vs)
  same_visits path [] f us vs s = s
  same_visits path (r ∷ rs) f us vs s =
      same_visits path rs (λ m xs ys read. f m xs ys (inr read)) (visit hosts w path r.name us) (visit hosts w path r.name vs)
      (f r.name us vs (inl refl) s)

  -- so it stays with each visit
  same_visit : (far : ℕ) (path : List ℕ) (n : ℕ) (longer shorter : List Visit) → IsChain hosts w n path → names_left w.computeds path < far →
      IsSame longer shorter → IsSame (visit hosts w path n longer) (visit hosts w path n shorter)
  same_visit zero path n longer shorter chain lt s = absurd (omega (arith, lt))
  same_visit (suc far) path n longer shorter chain lt s =
      go (standing w n) refl (tested (is_in n path)) (tested (is_in n (visited shorter))) (tested (is_in n (visited before)))
      (λ m us vs way less t. same_visit far (n ∷ path) m us vs way less t)
    where
      go : (d : Stands) → standing w n ≡ d → (is_in n path ≡ true) ⊎ (is_in n path ≡ false) →
          (is_in n (visited shorter) ≡ true) ⊎ (is_in n (visited shorter) ≡ false) →
          (is_in n (visited before) ≡ true) ⊎ (is_in n (visited before) ≡ false) →
          ((m : ℕ) (us vs : List Visit) → IsChain hosts w m (n ∷ path) → names_left w.computeds (n ∷ path) < far → IsSame us vs →
          IsSame (visit hosts w (n ∷ path) m us) (visit hosts w (n ∷ path) m vs)) →
          IsSame (visit hosts w path n longer) (visit hosts w path n shorter)
      go IsGone e a b d next = same_stay path n longer shorter (λ c st. cc (sym e ∙ st)) (λ c st. cc (sym e ∙ st)) s
      go (IsCell x) e a b d next = same_stay path n longer shorter (λ c st. cc (sym e ∙ st)) (λ c st. cc (sym e ∙ st)) s
      go (IsComputed c) e (inl on) b d next =
          same_stay path n longer shorter (λ x st. or_left (is_in n path) (is_in n (visited longer)) on)
          (λ x st. or_left (is_in n path) (is_in n (visited shorter)) on) s
      go (IsComputed c) e (inr off) (inl was) d next =
          same_stay path n longer shorter (λ x st. or_right (is_in n path) (is_in n (visited longer))
          (s.names n ∙ or_left (is_in n (visited shorter)) (is_in n (visited before)) was))
          (λ x st. or_right (is_in n path) (is_in n (visited shorter)) was) s
      go (IsComputed c) e (inr off) (inr new) (inl old) next = same_pass path n c longer shorter e chain old s
      go (IsComputed c) e (inr off) (inr new) (inr apart) next =
          let less : names_left w.computeds path ≡ suc (names_left w.computeds (n ∷ path)) = left_less hosts w n path c e off
          ∙ ap (λ y. suc (names_left w.computeds (y ∷ path))) (sym (name_is hosts w n c e)) in
          same_more path n c longer shorter e chain off (s.names n ∙ (λ i. new i || apart i)) new s.ordered
          (same_visits (n ∷ path) (reads_of hosts w c)
          (λ m us vs read t. next m us vs (record { computed = c; stands = e; read = read }, chain) (omega (arith, less, lt)) t) longer shorter s)

  -- for all names that are asked for
  same_order : (others : List ℕ) (longer shorter : List Visit) → IsSame longer shorter →
      IsSame (order_after hosts w others longer) (order_after hosts w others shorter)
  same_order [] longer shorter s = s
  same_order (n ∷ others) longer shorter s =
      same_order others (visit hosts w [] n longer) (visit hosts w [] n shorter)
      (same_visit (suc (names_left w.computeds [])) [] n longer shorter tt (omega arith) s)

-- ---- the laws

-- two lists of names
pub settle_both_law : SettleBothLaw
settle_both_law hosts w k asked others are_kept =
    let s : Settled = settled hosts w k asked in
    let fresh : Settled = record { memos = s.memos; runs = [] } in
    let nothing : followed_by s fresh ≡ s = (λ i. record { memos = s.memos; runs = append-nil s.runs i }) in
    ap (λ vs. settle_visits hosts w vs (record { memos = k; runs = [] })) (order_append hosts w asked others [])
    ∙ (same_order hosts w k asked are_kept others (evaluation_order hosts w asked) [] (same_first hosts w k asked are_kept)).same
    ∙ ap (settle_visits hosts w (evaluation_order hosts w others)) (sym nothing)
    ∙ settle_behind hosts w (evaluation_order hosts w others) s fresh

-- one name more
pub settle_more_law : SettleMoreLaw
settle_more_law hosts w k asked n are_kept = settle_both_law hosts w k asked (n ∷ []) are_kept
