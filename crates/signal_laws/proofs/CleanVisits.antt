-- A clean computed's memo is from scratch, and where it is asked for nothing runs.
use Rattle.std.proofs.Common.{◌≡◌, ℕ, zero, suc, ◌+◌, ◌<◌, ◌≤◌, ◌==◌, ◌||◌, ◌&&◌, not, Bool, true, false, cond, List, [], ◌∷◌, ◌++◌, Some, length}
use Rattle.std.proofs.Common.{append_assoc, append-nil, refl, sym, ap, ◌∙◌, subst, arith, ◌⊎◌, inl, inr}
use Rattle.std.specs.List.{AllByRecursion}
use Rattle.std.proofs.lemmas.Bool.{eqb-true, eq-eqb}
use Rattle.signal_model.specs.Recipes.{Hosts}
use Rattle.signal_model.specs.Signals.{Signals, Computed, Stands, IsGone, IsCell, IsComputed, is_computed, is_in, standing, computed_at, or_gone}
use Rattle.signal_model.specs.Values.{Seen, value_of, evaluated, reads_of, names_left}
use Rattle.signal_model.specs.Orders.{Visit, visited, visits, visit_case, visit}
use Rattle.signal_model.specs.Memos.{Source, Memo, Memos, memo_of, sources_in, source_names, sources_of, is_cycle, differs, is_moved, some_moved}
use Rattle.signal_model.specs.Memos.{must_run_by, must_run}
use Rattle.signal_model.specs.Settling.{Settled, with_run, settle_visit, settle_visits}
use Rattle.signal_model.specs.Marks.{Clean, Checked, Dirty, mark_of, is_due, some_source, due_below}
use Rattle.signal_model.specs.Sound.{outcome_here, standing_outcome, names_of, IsKeptPath, IsSound}
use Rattle.signal_model.specs.Laws.{IsRead, Reads, IsChain, one}
use Rattle.signal_model.proofs.Shared.{name_is, left_less, value_run, value_gone, value_cell, path_law, no_loop, goes_on, chain_goes, tested, visit_by_cases, either, or_left, or_right}
use Rattle.signal_laws.specs.CleanLaws.{IsUpToDate, CleanLaw, PassLaw}
use Rattle.signal_laws.proofs.AfterChange.{Calm, calm_of, some_is}
use Rattle.signal_laws.proofs.FollowedSources.{IsRun, follows_run}
use Rattle.signal_laws.proofs.FailedTests.{or_fst, or_snd, or_none}
use Rattle.signal_laws.proofs.Lists.{all_append, in_append, in_head, in_tail}

-- what stands is one computed
pub comp_is : (y z : Computed) → IsComputed y ≡ IsComputed z → y ≡ z
comp_is y z q = cc q

-- ---- below what is clean

-- no source has what none has
some_off : (f : ℕ → Bool) (ss : List Source) (m : ℕ) → some_source f ss ≡ false → is_in m (source_names ss) ≡ true → f m ≡ false
some_off f [] m h on = cc
some_off f (s ∷ ss) m h on = go (m == s.name) refl on (some_off f ss m (or_snd (f s.name) (some_source f ss) h))
  where
    go : (b : Bool) → (m == s.name) ≡ b → (b || is_in m (source_names ss)) ≡ true → (is_in m (source_names ss) ≡ true → f m ≡ false) → f m ≡ false
    go true e q r = ap f (eqb-true m s.name e) ∙ or_fst (f s.name) (some_source f ss) h
    go false e q r = r q

-- what each hasn't, none has
none_of : (f : ℕ → Bool) (ss : List Source) → ((m : ℕ) → is_in m (source_names ss) ≡ true → f m ≡ false) → some_source f ss ≡ false
none_of f [] g = refl
none_of f (s ∷ ss) g =
    let a : f s.name ≡ false = g s.name (in_head s.name (source_names ss)) in
    let b : some_source f ss ≡ false = none_of f ss (λ m on. g m (in_tail m s.name (source_names ss) on)) in
    (λ i. a i || b i)

-- where nothing is due far below, nothing is nearer
due_nearer : (near far : ℕ) (w : Signals) (k : Memos) (n : ℕ) → near ≤ far → due_below far w k n ≡ false → due_below near w k n ≡ false
due_nearer zero far w k n le h = refl
due_nearer (suc near) zero w k n le h = absurd (omega arith)
due_nearer (suc near) (suc far) w k n le h =
    let le' : near ≤ far = omega arith in
    none_of (λ x. is_due w k x || due_below near w k x) (sources_of k n) (λ m on.
    let q : (is_due w k m || due_below far w k m) ≡ false = some_off (λ x. is_due w k x || due_below far w k x) (sources_of k n) m h on in
    let a : is_due w k m ≡ false = or_fst (is_due w k m) (due_below far w k m) q in
    let b : due_below near w k m ≡ false = due_nearer near far w k m le' (or_snd (is_due w k m) (due_below far w k m) q) in
    (λ i. a i || b i))

-- neither a kept source nor what is below it is due
below_source : (w : Signals) (k : Memos) (n far m : ℕ) (e : Memo) → memo_of k n ≡ Some e → due_below (suc far) w k n ≡ false →
    is_in m (source_names e.sources) ≡ true →
    (is_due w k m ≡ false) × (due_below far w k m ≡ false)
below_source w k n far m e at h on =
    let h' : some_source (λ x. is_due w k x || due_below far w k x) e.sources ≡ false =
    ap (λ y. some_source (λ x. is_due w k x || due_below far w k x) (sources_in y)) (sym at) ∙ h in
    let q : (is_due w k m || due_below far w k m) ≡ false = some_off (λ x. is_due w k x || due_below far w k x) e.sources m h' on in
    (or_fst (is_due w k m) (due_below far w k m) q, or_snd (is_due w k m) (due_below far w k m) q)

-- a kept computed that isn't due needn't run
pub source_calm : (w : Signals) (k : Memos) (m : ℕ) (d : Computed) → standing w m ≡ IsComputed d → is_due w k m ≡ false → must_run k m [] ≡ false
source_calm w k m d e h = sym (ap (λ s. is_computed s && must_run k m []) e) ∙ h

-- what is read is among the names
pub is_read-in : (n : ℕ) (ss : List Seen) → IsRead n ss → is_in n (names_of ss) ≡ true
is_read-in n [] r = absurd r
is_read-in n (s ∷ ss) r = elim r [
  | inl e ↦ subst (λ x. is_in n (x ∷ names_of ss) ≡ true) e (in_head n (names_of ss))
  | inr t ↦ in_tail n s.name (names_of ss) (is_read-in n ss t)
]

-- and what is among the names is read
pub is_in-read : (n : ℕ) (ss : List Seen) → is_in n (names_of ss) ≡ true → IsRead n ss
is_in-read n [] h = cc
is_in-read n (s ∷ ss) h = go (n == s.name) refl h (is_in-read n ss)
  where
    go : (b : Bool) → (n == s.name) ≡ b → (b || is_in n (names_of ss)) ≡ true → (is_in n (names_of ss) ≡ true → IsRead n ss) → IsRead n (s ∷ ss)
    go true e q f = inl (eqb-true n s.name e)
    go false e q f = inr (f q)

-- no more names are left than there are computeds
few_left : (cs : List Computed) (path : List ℕ) → names_left cs path ≤ length cs
few_left [] path = omega arith
few_left (c ∷ cs) path = go (is_in c.name path || is_computed (or_gone (computed_at c.name cs))) (few_left cs path)
  where
    go : (b : Bool) → names_left cs path ≤ length cs → cond b 0 1 + names_left cs path ≤ suc (length cs)
    go true h = omega (arith, h)
    go false h = omega (arith, h)

-- what is kept of a path along which nothing moved doesn't run
quiet_moved : (k : Memos) (path : List ℕ) (ss : List Source) → some_moved k [] ss ≡ false →
    ((m : ℕ) → is_in m (source_names ss) ≡ true → is_in m path ≡ false) → some_moved k path ss ≡ false
quiet_moved k path [] h f = refl
quiet_moved k path (s ∷ ss) h f =
    or_none (is_moved k path s) (some_moved k path ss)
    (or_none (differs k s) (is_in s.name path) (or_fst (differs k s) false (or_fst (differs k s || false) (some_moved k [] ss) h))
    (f s.name (in_head s.name (source_names ss))))
    (quiet_moved k path ss (or_snd (differs k s || false) (some_moved k [] ss) h) (λ m on. f m (in_tail m s.name (source_names ss) on)))

module _ (hosts : Hosts) (w : Signals) where
  -- what stands under a name is its value, where each computed is right
  pub right_source : (k : Memos) (m : ℕ) → ((d : Computed) → standing w m ≡ IsComputed d → IsUpToDate hosts w k m d) →
      standing_outcome w k m ≡ Some (value_of hosts w m [])
  right_source k m f = go (standing w m) refl
    where
      go : (s : Stands) → standing w m ≡ s → standing_outcome w k m ≡ Some (value_of hosts w m [])
      go IsGone e = (λ i. outcome_here (e i) (memo_of k m)) ∙ ap (λ y. Some y) (sym (value_gone hosts w m [] e))
      go (IsCell d) e = (λ i. outcome_here (e i) (memo_of k m)) ∙ ap (λ y. Some y) (sym (value_cell hosts w m [] d e))
      go (IsComputed d) e = let r : IsUpToDate hosts w k m d = f d e in (λ i. outcome_here (e i) (r.at i)) ∙ ap (λ y. Some y) r.outcome

  -- a read has the value with no path
  pub read_value : (n : ℕ) (c : Computed) (m : ℕ) → standing w n ≡ IsComputed c → IsRead m (reads_of hosts w c) →
      value_of hosts w m (c.name ∷ []) ≡ value_of hosts w m []
  read_value n c m st r =
      let x : Reads hosts w n m = record { computed = c; stands = st; read = r } in
      path_law hosts w m (c.name ∷ []) (subst (λ j. Reads hosts w j m) (name_is hosts w n c st) x, tt)

  -- a memo whose sources stand as from scratch is right
  pub right_memo : (k : Memos) (n : ℕ) (c : Computed) (e : Memo) → IsSound hosts w k → standing w n ≡ IsComputed c → memo_of k n ≡ Some e →
      is_cycle e.outcome ≡ false → e.rewired ≡ false → some_moved k [] e.sources ≡ false →
      ((m : ℕ) → IsRead m (reads_of hosts w c) → is_in m (source_names e.sources) ≡ true → standing_outcome w k m ≡ Some (value_of hosts w m [])) →
      IsUpToDate hosts w k n c
  right_memo k n c e sound st at fine rw0 calm ok =
      let r : IsRun (evaluated hosts w c []) e.sources e.outcome =
      follows_run hosts w k c.recipe (λ m. value_of hosts w m (c.name ∷ [])) e.outcome [] e.sources (sound.follows n c e st at fine rw0) calm
      (λ m on isin. ok m on isin ∙ ap (λ y. Some y) (sym (read_value n c m st on))) in
      record { memo = e; at = at; outcome = sym r.outcome ∙ sym (value_run hosts w n [] c st refl); names = sym r.names }

  -- the memos of these names are right
  abbrev Told : Memos → List ℕ → Type 0
  Told k Q = (x : ℕ) → is_in x Q ≡ true → (d : Computed) → standing w x ≡ IsComputed d → IsUpToDate hosts w k x d

  -- P is a path of kept sources down to n; what is in Q has been told
  pub clean_memo : (far : ℕ) (k : Memos) (n : ℕ) (c : Computed) (P Q : List ℕ) → IsSound hosts w k → standing w n ≡ IsComputed c →
      must_run k n [] ≡ false → due_below (names_left w.computeds (P ++ Q)) w k n ≡ false → IsKeptPath w k n P → Told k Q →
      names_left w.computeds (P ++ Q) < far → IsUpToDate hosts w k n c
  clean_memo zero k n c P Q sound stands dirty below chain done lt = absurd (omega arith)
  clean_memo (suc far) k n c P Q sound stands dirty below chain done lt =
      elim (tested (is_in n P)) [
        | inl on ↦ absurd (sound.acyclic n P chain on)
        | inr offP ↦ elim (tested (is_in n Q)) [
          | inl onQ ↦ done n onQ c stands
          | inr offQ ↦
              let off : is_in n (P ++ Q) ≡ false = in_append n P Q ∙ or_none (is_in n P) (is_in n Q) offP offQ in
              let less : names_left w.computeds (P ++ Q) ≡ suc (names_left w.computeds (c.name ∷ P ++ Q)) =
              left_less hosts w n (P ++ Q) c stands off in
              let lt' : names_left w.computeds (n ∷ P ++ Q) < far =
              subst (λ x. names_left w.computeds (x ∷ P ++ Q) < far) (sym (name_is hosts w n c stands)) (omega (arith, less)) in
              let below' : due_below (suc (names_left w.computeds (n ∷ P ++ Q))) w k n ≡ false =
              ap (λ x. due_below x w k n) (ap (λ x. suc (names_left w.computeds (x ∷ P ++ Q))) (name_is hosts w n c stands) ∙ sym less) ∙ below in
              go (calm_of k n dirty) below' (λ m d st must' bel ch. clean_memo far k m d (n ∷ P) Q sound st must' bel ch done lt')
        ]
      ]
    where
      go : (q : Calm k n) → due_below (suc (names_left w.computeds (n ∷ P ++ Q))) w k n ≡ false →
          ((m : ℕ) (d : Computed) → standing w m ≡ IsComputed d → must_run k m [] ≡ false →
          due_below (names_left w.computeds (n ∷ P ++ Q)) w k m ≡ false → IsKeptPath w k m (n ∷ P) → IsUpToDate hosts w k m d) →
          IsUpToDate hosts w k n c
      go q bel next =
          elim q.case [
            | inl cy ↦ let t : (value_of hosts w n [] ≡ q.memo.outcome) × (source_names q.memo.sources ≡ names_of (reads_of hosts w c)) =
                sound.cycles n c q.memo stands q.at cy.0 cy.1 in
                record { memo = q.memo; at = q.at; outcome = sym t.0; names = t.1 }
            | inr fine ↦
                right_memo k n c q.memo sound stands q.at fine.0 fine.1 fine.2 (λ m read on. right_source k m (λ d st.
                let b : (is_due w k m ≡ false) × (due_below (names_left w.computeds (n ∷ P ++ Q)) w k m ≡ false) =
                below_source w k n (names_left w.computeds (n ∷ P ++ Q)) m q.memo q.at bel on in
                next m d st (source_calm w k m d st b.0) b.1
                (record { computed = c; stands = stands; memo = q.memo; at = q.at; fine = fine.0; calm = dirty; kept = on }, chain)))
          ]

  -- ---- nothing runs

  -- a visit that doesn't run
  abbrev pub Quiet : Memos → Visit → Type 0
  Quiet k v = must_run k v.computed.name v.path ≡ false

  -- a right computed that needn't run needn't by any path of reads
  pub quiet_here : (k : Memos) (n : ℕ) (c : Computed) (path : List ℕ) → standing w n ≡ IsComputed c → must_run k n [] ≡ false →
      IsUpToDate hosts w k n c → IsChain hosts w n path → must_run k n path ≡ false
  quiet_here k n c path e dirty right chain = go (calm_of k n dirty)
    where
      go : Calm k n → must_run k n path ≡ false
      go q = elim q.case [
        | inl cy ↦
            let e : (q.memo.generation == k.generation) ≡ true = eq-eqb q.memo.generation k.generation cy.1 in
            ap (λ x. must_run_by k x path) q.at ∙ (λ i. cond (cy.0 i) (not (e i)) (q.memo.rewired || some_moved k path q.memo.sources))
        | inr fine ↦
            let same : q.memo ≡ right.memo = some_is q.memo right.memo (sym q.at ∙ right.at) in
            let good : is_cycle (value_of hosts w n []) ≡ false = ap is_cycle (sym right.outcome)
            ∙ ap (λ (x : Memo). is_cycle x.outcome) (sym same) ∙ fine.0 in
            let names : source_names q.memo.sources ≡ names_of (reads_of hosts w c) = ap (λ (x : Memo). source_names x.sources) same ∙ right.names in
            let off : (m : ℕ) → is_in m (source_names q.memo.sources) ≡ true → is_in m path ≡ false = λ m on. elim (tested (is_in m path)) [
              | inr z ↦ z
              | inl z ↦
                  let r : Reads hosts w n m =
                  record { computed = c; stands = e; read = is_in-read m (reads_of hosts w c) (ap (is_in m) (sym names) ∙ on) } in
                  absurd (no_loop hosts w n [] good (goes_on hosts w (one r) (chain_goes hosts w path n m chain z)))
            ] in
            let moved : some_moved k path q.memo.sources ≡ false = quiet_moved k path q.memo.sources fine.2 off in
            ap (λ x. must_run_by k x path) q.at ∙ (λ i. cond (fine.0 i) (not (q.memo.generation == k.generation)) (fine.1 i || moved i))
      ]

  -- new visits behind those that were made, none of which runs
  record Appends (k : Memos) (done vs : List Visit) : Type 0 where
    new : List Visit
    is : vs ≡ done ++ new
    quiet : AllByRecursion (Quiet k) new

  -- none
  no_more : (k : Memos) (done : List Visit) → Appends k done done
  no_more k done = record { new = []; is = sym (append-nil done); quiet = tt }

  -- some, and some more
  more_on : (k : Memos) (us vs ws : List Visit) → Appends k us vs → Appends k vs ws → Appends k us ws
  more_on k us vs ws a b = record {
    new = a.new ++ b.new;
    is = b.is ∙ ap (λ xs. xs ++ b.new) a.is ∙ append_assoc us a.new b.new;
    quiet = all_append (Quiet k) a.new b.new a.quiet b.quiet;
  }

  -- the visits of all reads run nothing
  quiet_visits : (k : Memos) (c : Computed) (path : List ℕ) →
      ((m : ℕ) (done : List Visit) → IsRead m (reads_of hosts w c) → Appends k done (visit hosts w path m done)) →
      (ss : List Seen) → ((m : ℕ) → IsRead m ss → IsRead m (reads_of hosts w c)) → (done : List Visit) →
      Appends k done (visits (visit hosts w path) ss done)
  quiet_visits k c path f [] sub done = no_more k done
  quiet_visits k c path f (s ∷ ss) sub done =
      let vs : List Visit = visit hosts w path s.name done in
      more_on k done vs (visits (visit hosts w path) ss vs) (f s.name done (sub s.name (inl refl)))
      (quiet_visits k c path f ss (λ m r. sub m (inr r)) vs)

  -- P is the way from a clean computed down to n, along a longer path of reads: what is on it has been told, and nothing is due from here on
  record IsWay (k : Memos) (P path : List ℕ) (n : ℕ) : Type 0 where
    chain : IsChain hosts w n path
    part : (x : ℕ) → is_in x P ≡ true → is_in x path ≡ true
    told : Told k P
    below : (c : Computed) → standing w n ≡ IsComputed c → (must_run k n [] ≡ false) × (due_below (names_left w.computeds P) w k n ≡ false)

  -- what isn't on the path isn't on the way
  off_way : (k : Memos) (P path : List ℕ) (n : ℕ) → IsWay k P path n → is_in n path ≡ false → is_in n P ≡ false
  off_way k P path n way off = elim (tested (is_in n P)) [ inr z ↦ z | inl z ↦ cc (sym (way.part n z) ∙ off) ]

  -- at a computed that isn't on the way one more has been told, and its kept sources are nearer
  module _ (k : Memos) (P path : List ℕ) (n : ℕ) (c : Computed) (sound : IsSound hosts w k) (way : IsWay k P path n)
      (st : standing w n ≡ IsComputed c) (off : is_in n path ≡ false) where
    -- nothing is due here or below
    calm : (must_run k n [] ≡ false) × (due_below (names_left w.computeds P) w k n ≡ false)
    calm = way.below c st

    -- its memo is that from scratch
    right : IsUpToDate hosts w k n c
    right =
        let lt : names_left w.computeds P < suc (names_left w.computeds P) = omega arith in
        clean_memo (suc (names_left w.computeds P)) k n c [] P sound st calm.0 calm.1 tt way.told lt

    -- one name fewer is left
    fewer : names_left w.computeds P ≡ suc (names_left w.computeds (n ∷ P))
    fewer = left_less hosts w n P c st (off_way k P path n way off) ∙ ap (λ x. suc (names_left w.computeds (x ∷ P))) (sym (name_is hosts w n c st))

    -- all on the longer way have been told
    told_more : Told k (n ∷ P)
    told_more x on d std = elim (tested (x == n)) [
      | inl is ↦
          let xn : x ≡ n = eqb-true x n is in
          subst (λ y. IsUpToDate hosts w k y d) (sym xn)
          (subst (λ y. IsUpToDate hosts w k n y) (comp_is c d (sym st ∙ ap (standing w) (sym xn) ∙ std)) right)
      | inr isnt ↦ way.told x (sym (ap (λ z. z || is_in x P) isnt) ∙ on) d std
    ]

    -- the way goes on to each read
    way_on : (m : ℕ) → IsRead m (reads_of hosts w c) → IsWay k (n ∷ P) (n ∷ path) m
    way_on m read = record {
      chain = (record { computed = c; stands = st; read = read }, way.chain);
      part = λ x on. elim (either (x == n) (is_in x P) on) [
        | inl is ↦ or_left (x == n) (is_in x path) is
        | inr z ↦ or_right (x == n) (is_in x path) (way.part x z)
      ];
      told = told_more;
      below =
          let on : is_in m (source_names right.memo.sources) ≡ true = ap (is_in m) right.names ∙ is_read-in m (reads_of hosts w c) read in
          let far : due_below (suc (names_left w.computeds (n ∷ P))) w k n ≡ false = ap (λ x. due_below x w k n) (sym fewer) ∙ calm.1 in
          let q : (is_due w k m ≡ false) × (due_below (names_left w.computeds (n ∷ P)) w k m ≡ false) =
          below_source w k n (names_left w.computeds (n ∷ P)) m right.memo right.at far on in
          λ d std. (source_calm w k m d std q.0, q.1);
    }

  -- the visit of what is clean runs nothing
  quiet_visit : (far : ℕ) (k : Memos) (P path : List ℕ) (n : ℕ) (done : List Visit) → IsSound hosts w k → IsWay k P path n →
      names_left w.computeds path < far → Appends k done (visit hosts w path n done)
  quiet_visit zero k P path n done sound way lt = absurd (omega arith)
  quiet_visit (suc far) k P path n done sound way lt =
      subst (Appends k done) (sym (visit_by_cases hosts w path n done))
      (go (standing w n) refl (tested (is_in n path || is_in n (visited done)))
      (λ m us way' less. quiet_visit far k (n ∷ P) (n ∷ path) m us sound way' less))
    where
      go : (s : Stands) → standing w n ≡ s → ((is_in n path || is_in n (visited done)) ≡ true) ⊎ ((is_in n path || is_in n (visited done)) ≡ false) →
          ((m : ℕ) (us : List Visit) → IsWay k (n ∷ P) (n ∷ path) m → names_left w.computeds (n ∷ path) < far →
          Appends k us (visit hosts w (n ∷ path) m us)) →
          Appends k done (visit_case s (is_in n path || is_in n (visited done)) done
          (λ c. visits (visit hosts w (n ∷ path)) (reads_of hosts w c) done ++ record { computed = c; path = path } ∷ []))
      go IsGone e p next = no_more k done
      go (IsCell c) e p next = no_more k done
      go (IsComputed c) e (inl p) next =
          subst (λ b. Appends k done
          (cond b done (visits (visit hosts w (n ∷ path)) (reads_of hosts w c) done ++ record { computed = c; path = path } ∷ []))) (sym p)
          (no_more k done)
      go (IsComputed c) e (inr p) next =
          let off : is_in n path ≡ false = or_fst (is_in n path) (is_in n (visited done)) p in
          let name : n ≡ c.name = name_is hosts w n c e in
          let less : names_left w.computeds path ≡ suc (names_left w.computeds (n ∷ path)) = left_less hosts w n path c e off
          ∙ ap (λ x. suc (names_left w.computeds (x ∷ path))) (sym name) in
          let us : List Visit = visits (visit hosts w (n ∷ path)) (reads_of hosts w c) done in
          let v : Visit = record { computed = c; path = path } in
          let kids : Appends k done us =
          quiet_visits k c (n ∷ path) (λ m ws r. next m ws (way_on k P path n c sound way e off m r) (omega (arith, less)))
          (reads_of hosts w c) (λ m r. r) done in
          let mine : Quiet k v = ap (λ x. must_run k x path) (sym name)
          ∙ quiet_here k n c path e (calm k P path n c sound way e off).0 (right k P path n c sound way e off) way.chain in
          let last : Appends k us (us ++ v ∷ []) = record { new = v ∷ []; is = refl; quiet = (mine, tt) } in
          subst (λ z. Appends k done (cond z done (us ++ v ∷ []))) (sym p) (more_on k done us (us ++ v ∷ []) kids last)

  -- where no visit runs, settling leaves all as it was
  pub quiet_settle : (vs : List Visit) (s : Settled) → AllByRecursion (Quiet s.memos) vs → settle_visits hosts w vs s ≡ s
  quiet_settle [] s h = refl
  quiet_settle (v ∷ vs) s h =
      ap (λ (x : Settled). settle_visits hosts w vs x) (ap (λ b. cond b (record {
        memos = with_run s.memos v.computed.name (evaluated hosts w v.computed []);
        runs = s.runs ++ record { name = v.computed.name; evaluation = evaluated hosts w v.computed [] } ∷ [];
      }) s) h.0) ∙ quiet_settle vs s h.1

-- what the mark says
clean_mark : (w : Signals) (k : Memos) (n : ℕ) → mark_of w k n ≡ Clean → (must_run k n [] ≡ false) × (due_below (length w.computeds) w k n ≡ false)
clean_mark w k n h = go (must_run k n []) (due_below (length w.computeds) w k n) h
  where
    go : (a b : Bool) → cond a Dirty (cond b Checked Clean) ≡ Clean → (a ≡ false) × (b ≡ false)
    go true b q = cc
    go false true q = cc
    go false false q = (refl, refl)

-- the mark is looked for as far as there are names
pub clean_near : (w : Signals) (k : Memos) (n : ℕ) → mark_of w k n ≡ Clean →
    (must_run k n [] ≡ false) × (due_below (names_left w.computeds []) w k n ≡ false)
clean_near w k n h =
    let m : (must_run k n [] ≡ false) × (due_below (length w.computeds) w k n ≡ false) = clean_mark w k n h in
    (m.0, due_nearer (names_left w.computeds []) (length w.computeds) w k n (few_left w.computeds []) m.1)

-- nothing has been told yet
pub none_told : (hosts : Hosts) (w : Signals) (k : Memos) → Told hosts w k []
none_told hosts w k x on d st = cc on

-- the visits of two lists
pub settle_append : (hosts : Hosts) (w : Signals) (us vs : List Visit) (s : Settled) →
    settle_visits hosts w (us ++ vs) s ≡ settle_visits hosts w vs (settle_visits hosts w us s)
settle_append hosts w [] vs s = refl
settle_append hosts w (u ∷ us) vs s = settle_append hosts w us vs (settle_visit hosts w u s)

-- a clean computed may be passed over
pub pass_law : PassLaw
pass_law hosts w start done n path sound clean chain =
    let k : Memos = (settle_visits hosts w done start).memos in
    let near : (must_run k n [] ≡ false) × (due_below (names_left w.computeds []) w k n ≡ false) = clean_near w k n clean in
    let lt : names_left w.computeds path < suc (names_left w.computeds path) = omega arith in
    let way : IsWay hosts w k [] path n = record { chain = chain; part = λ x on. cc on; told = none_told hosts w k; below = λ c st. near } in
    let a : Appends hosts w k done (visit hosts w path n done) =
    quiet_visit hosts w (suc (names_left w.computeds path)) k [] path n done sound way lt in
    ap (λ vs. settle_visits hosts w vs start) a.is ∙ settle_append hosts w done a.new start
    ∙ quiet_settle hosts w a.new (settle_visits hosts w done start) a.quiet

-- the law of clean computeds
pub clean_law : CleanLaw
clean_law hosts w k n c sound stands clean =
    let near : (must_run k n [] ≡ false) × (due_below (names_left w.computeds []) w k n ≡ false) = clean_near w k n clean in
    let lt : names_left w.computeds [] < suc (names_left w.computeds []) = omega arith in (
      pass_law hosts w (record { memos = k; runs = [] }) [] n [] sound clean tt,
      clean_memo hosts w (suc (names_left w.computeds [])) k n c [] [] sound stands near.0 near.1 tt (none_told hosts w k) lt,
    )
