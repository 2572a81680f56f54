-- What runs keep of a journal.
use Rattle.std.proofs.Common.{◌≡◌, ℕ, ◌+◌, ◌==◌, ◌||◌, ◌&&◌, not, Bool, true, false, cond, List, [], ◌∷◌, ◌++◌, map, reverse, length, append_assoc, Option, Some, None, refl, sym, ap, ◌∙◌, subst, arith, inl}
use Rattle.std.specs.List.{AllByRecursion}
use Rattle.std.proofs.lemmas.Bool.{eqb-true, eq-eqb}
use Rattle.std.proofs.lemmas.List.{append-nil, map-append, reverse-append}
use Rattle.sig_base.specs.Values.{same_outcome}
use Rattle.sig_base.specs.declared.value.Outcome.{Outcome}
use Rattle.sig_base.specs.declared.value.Outcome.TheVariants.{Bad}
use Rattle.sig_base.specs.declared.value.Fault.TheVariants.{Cycle}
use Rattle.signal_model.specs.Recipes.{Hosts}
use Rattle.signal_model.specs.Signals.{Signals, Computed, IsComputed, is_in, is_there, standing}
use Rattle.signal_model.specs.Values.{Seen, Evaluation, value_of, evaluated, reads_of}
use Rattle.signal_model.specs.Orders.{Visit, evaluation_order}
use Rattle.signal_model.specs.Memos.{Source, Memo, Entry, Memos, entry_at, has_entry, number_in, memo_in, number_of, memo_of, sources_in, source_names, is_cycle}
use Rattle.signal_model.specs.Memos.{same_number, differs, must_run}
use Rattle.signal_model.specs.Settling.{Run, Settled, source_now, has_outcome, with_run, settle_visit, settle_visits}
use Rattle.signal_model.specs.Sound.{IsPast, ArePast, names_of}
use Rattle.signal_model.specs.Laws.{IsRead, one}
use Rattle.signal_model.specs.Kept.{AreKept, AreGiven}
use Rattle.signal_model.proofs.Shared.{cycle_law, value_run}
use Rattle.signal_laws.specs.OrderLaws.{AreOrdered}
use Rattle.signal_laws.specs.SettleLaws.{settled_first}
use Rattle.signal_laws.proofs.Shared.{new_memo, run_other, run_here, run_memo, places_law, kept_moments_law, settle_append, is_in-read, entry_there}
use Rattle.why_model.specs.Facts.{Fact, has_run, Found, last_run, is_news, moves, rewires}
use Rattle.why_model.specs.declared.causes.Cause.TheVariants.{Evaluating}
use Rattle.why_model.specs.Told.{run_fact}
use Rattle.why_laws.specs.Ties.{comes_after, IsTied, AreTied, IsMet, IsWhy}
use Rattle.why_laws.specs.WhyLaws.{facts_with, TiedSettleLaw, CausesLaw, IsExplained, AreExplained, RunsLaw, MeetLaw}
use Rattle.why_laws.proofs.Since.{since_last, marked, Tells, tied_more}
use Rattle.why_laws.proofs.AfterChanges.{greater_new}
use Rattle.why_laws.proofs.Causes.{why}

-- ---- one run

-- a number is the same as itself
same_self : (x : Option ℕ) → same_number x x ≡ true
same_self None = refl
same_self (Some a) = eq-eqb a a refl

-- the names of what was read, with their numbers
names_now : (k : Memos) (ss : List Seen) → names_of ss ≡ source_names (map (source_now k) ss)
names_now k [] = refl
names_now k (s ∷ ss) = ap (λ ns. s.name ∷ ns) (names_now k ss)

-- an outcome is news to the facts where the memo doesn't have it
news : (k : Memos) (js : List Fact) (n : ℕ) (o : Outcome) (x : Option Memo) (y : Option Found) → IsTied k js n x y → is_news y o ≡ not (has_outcome x o)
news k js n o None None t = refl
news k js n o (Some m) (Some p) t = ap (λ z. not (same_outcome z o)) t.outcome
news k js n o None (Some p) t = absurd t
news k js n o (Some m) None t = absurd t

module _ (k : Memos) (js : List Fact) (n : ℕ) (e : Evaluation) (r : Entry) where
  abbrev after : Memos
  after = with_run k n e

  abbrev fact : Fact
  fact = has_run (record { name = n; reads = names_of e.reads; outcome = e.outcome })

  -- the number after it
  number_after : entry_at n k.entries ≡ Some r → number_of after n ≡ Some (r.number + cond (has_outcome r.memo e.outcome) 0 1)
  number_after at = ap number_in (run_here k n e.outcome (map (source_now k) e.reads) r at)

  -- a run moves just what has another number from then on
  run_tells : entry_at n k.entries ≡ Some r → IsTied k js n (memo_of k n) (last_run n js) → Tells k after fact js
  run_tells at t s past = go (s.name == n) refl
    where
      here : (c : Bool) → has_outcome r.memo e.outcome ≡ c → s.name ≡ n → differs after s ≡ (is_news (last_run s.name js) e.outcome || differs k s)
      here c h q =
          let said : is_news (last_run n js) e.outcome ≡ not c =
          news k js n e.outcome (memo_of k n) (last_run n js) t ∙ ap (λ x. not (has_outcome x e.outcome)) (ap memo_in at) ∙ ap not h in
          let told : is_news (last_run s.name js) e.outcome ≡ not c = ap (λ x. is_news (last_run x js) e.outcome) q ∙ said in
          let num : number_of after s.name ≡ Some (r.number + cond c 0 1) =
          ap (number_of after) q ∙ number_after at ∙ ap (λ b. Some (r.number + cond b 0 1)) h in
          let was : number_of k s.name ≡ Some r.number = ap (number_of k) q ∙ ap number_in at in
          ap (λ x. not (same_number x s.number)) num ∙ by c was ∙ ap (λ b. b || differs k s) (sym told)
        where
          by : (c : Bool) → number_of k s.name ≡ Some r.number → not (same_number (Some (r.number + cond c 0 1)) s.number) ≡ (not c || differs k s)
          by true was =
              let zeroed : r.number + 0 ≡ r.number = omega arith in
              ap (λ x. not (same_number (Some x) s.number)) zeroed ∙ ap (λ x. not (same_number x s.number)) (sym was)
          by false was = greater_new r.number 1 (omega arith) s.number (subst (IsPast s.number) was past)

      go : (b : Bool) → (s.name == n) ≡ b → differs after s ≡ ((b && is_news (last_run s.name js) e.outcome) || differs k s)
      go false off = ap (λ x. not (same_number (number_in x) s.number)) (run_other k n e.outcome (map (source_now k) e.reads) s.name off)
      go true on = here (has_outcome r.memo e.outcome) refl (eqb-true s.name n on)

  -- what it read has the number that it read, where it didn't read itself
  fresh : (ss : List Seen) → is_in n (names_of ss) ≡ false →
      AllByRecursion (λ (s : Source). comes_after (length js + 1) (moves s.name) (fact ∷ js) ≡ differs after s) (map (source_now k) ss)
  fresh [] off = tt
  fresh (s ∷ ss) off = (
    since_last (moves s.name) fact js ∙ sym (still (n == s.name) refl off),
    fresh ss (later (n == s.name) (is_in n (names_of ss)) off),
  )
    where
      later : (a b : Bool) → (a || b) ≡ false → b ≡ false
      later true b h = cc
      later false b h = h

      still : (b : Bool) → (n == s.name) ≡ b → (b || is_in n (names_of ss)) ≡ false → differs after (source_now k s) ≡ false
      still true q h = cc
      still false q h =
          ap (λ x. not (same_number (number_in x) (number_of k s.name))) (run_other k n e.outcome (map (source_now k) e.reads) s.name (flip (s.name == n) refl))
          ∙ ap not (same_self (number_of k s.name))
        where
          flip : (b : Bool) → (s.name == n) ≡ b → b ≡ false
          flip false i = refl
          flip true i = let z : (n == s.name) ≡ true = eq-eqb n s.name (sym (eqb-true s.name n i)) in let y : true ≡ false = sym z ∙ q in cc

  -- its own memo is that of the run
  own_tied : entry_at n k.entries ≡ Some r → (is_cycle e.outcome ≡ false → is_in n (names_of e.reads) ≡ false) →
      IsTied after (fact ∷ js) n (memo_of after n) (last_run n (fact ∷ js))
  own_tied at other =
      subst (λ x. IsTied after (fact ∷ js) n x (last_run n (fact ∷ js))) (sym (run_memo k n e.outcome (map (source_now k) e.reads) r at))
      (subst (λ y. IsTied after (fact ∷ js) n (Some (new_memo k e.outcome (map (source_now k) e.reads))) y) (sym last) (record {
        outcome = refl;
        reads = names_now k e.reads;
        rewired = since_last (rewires n) fact js;
        moved = λ fine. fresh e.reads (other fine);
      }))
    where
      last : last_run n (fact ∷ js) ≡ Some (record { number = length js + 1; note = record { name = n; reads = names_of e.reads; outcome = e.outcome } })
      last =
          ap (λ b. cond b (Some (record { number = length js + 1; note = record { name = n; reads = names_of e.reads; outcome = e.outcome } })) (last_run n js))
          (eq-eqb n n refl)

  -- a run keeps the journal with its fact
  run_keeps : (given : ℕ → Bool) → entry_at n k.entries ≡ Some r → given n ≡ true → ((m : ℕ) (x : Memo) → memo_of k m ≡ Some x → ArePast k x.sources) →
      (is_cycle e.outcome ≡ false → is_in n (names_of e.reads) ≡ false) → AreTied given k js → AreTied given after (fact ∷ js)
  run_keeps given at was past other t = record {
    tied = λ m there. go m (m == n) refl there;
    new = λ m off. none m off (m == n) refl;
  }
    where
      plain : (x : Option Memo) → x ≡ marked false x
      plain None = refl
      plain (Some x) = refl

      passed : (m : ℕ) → (m == n) ≡ false → last_run m (fact ∷ js) ≡ last_run m js
      passed m off =
          ap (λ b. cond b (Some (record { number = length js + 1; note = record { name = n; reads = names_of e.reads; outcome = e.outcome } })) (last_run m js)) off

      own : IsTied k js n (memo_of k n) (last_run n js)
      own = t.tied n (ap has_entry at)

      go : (m : ℕ) (b : Bool) → (m == n) ≡ b → has_entry (entry_at m after.entries) ≡ true →
          IsTied after (fact ∷ js) m (memo_of after m) (last_run m (fact ∷ js))
      go m false off there =
          let same : entry_at m after.entries ≡ entry_at m k.entries = run_other k n e.outcome (map (source_now k) e.reads) m off in
          tied_more k after fact js m false (ap memo_in same ∙ plain (memo_of k m)) (passed m off) refl (run_tells at own) (past m)
          (t.tied m (sym (ap has_entry same) ∙ there))
      go m true on there =
          subst (λ x. IsTied after (fact ∷ js) x (memo_of after x) (last_run x (fact ∷ js))) (sym (eqb-true m n on)) (own_tied at other)

      none : (m : ℕ) → given m ≡ false → (b : Bool) → (m == n) ≡ b → last_run m (fact ∷ js) ≡ None
      none m off false q = passed m q ∙ t.new m off
      none m off true q = let z : true ≡ false = sym was ∙ ap given (sym (eqb-true m n q)) ∙ off in cc

-- ---- a settling

module _ (hosts : Hosts) (given : ℕ → Bool) (w : Signals) (k : Memos) (journal : List Fact) (asked : List ℕ) where
  -- the journal of a moment
  abbrev Holds : Settled → Type 0
  Holds s = AreTied given s.memos (facts_with journal s)

  -- one more run comes first
  facts_more : (rs : List Run) (x : Run) → reverse (journal ++ map run_fact (rs ++ x ∷ [])) ≡ run_fact x ∷ reverse (journal ++ map run_fact rs)
  facts_more rs x =
      ap (λ fs. reverse (journal ++ fs)) (map-append run_fact rs (x ∷ []))
      ∙ ap reverse (sym (append_assoc journal (map run_fact rs) (run_fact x ∷ [])))
      ∙ reverse-append (journal ++ map run_fact rs) (run_fact x ∷ [])

  -- a computed that reads itself comes to `cycle`
  reads_other : (c : Computed) → standing w c.name ≡ IsComputed c → is_cycle (evaluated hosts w c []).outcome ≡ false →
      is_in c.name (names_of (evaluated hosts w c []).reads) ≡ false
  reads_other c stands fine = go (is_in c.name (names_of (evaluated hosts w c []).reads)) refl
    where
      go : (b : Bool) → is_in c.name (names_of (evaluated hosts w c []).reads) ≡ b → b ≡ false
      go false i = refl
      go true i =
          let read : IsRead c.name (reads_of hosts w c) = is_in-read c.name (reads_of hosts w c) i in
          let round : value_of hosts w c.name [] ≡ Bad Cycle =
          cycle_law hosts w c.name c.name [] (inl refl) (one (record { computed = c; stands = stands; read = read })) in
          let came : (evaluated hosts w c []).outcome ≡ Bad Cycle = sym (value_run hosts w c.name [] c stands refl) ∙ round in
          let q : true ≡ false = sym (ap is_cycle came) ∙ fine in
          cc

  -- a visit keeps it
  visit_keeps : (v : Visit) (s : Settled) → standing w v.computed.name ≡ IsComputed v.computed → given v.computed.name ≡ true → AreKept hosts w s.memos →
      Holds s → Holds (settle_visit hosts w v s)
  visit_keeps v s stands was kept t = go (must_run s.memos v.computed.name v.path)
    where
      go : (b : Bool) → Holds (cond b (record {
        memos = with_run s.memos v.computed.name (evaluated hosts w v.computed []);
        runs = s.runs ++ record { name = v.computed.name; evaluation = evaluated hosts w v.computed [] } ∷ [];
      }) s)
      go false = t
      go true =
          let r : (r : Entry) × (entry_at v.computed.name s.memos.entries ≡ Some r) =
          entry_there w s.memos v.computed.name kept.entries (ap is_there stands) in
          subst (AreTied given (with_run s.memos v.computed.name (evaluated hosts w v.computed [])))
          (sym (facts_more s.runs (record { name = v.computed.name; evaluation = evaluated hosts w v.computed [] })))
          (run_keeps s.memos (facts_with journal s) v.computed.name (evaluated hosts w v.computed []) r.0 given r.1 was kept.sound.past
          (reads_other v.computed stands) t)

  -- what is visited stands
  stands_at : (seen : List ℕ) (us : List Visit) (v : Visit) (vs : List Visit) → AreOrdered hosts w seen (us ++ v ∷ vs) →
      standing w v.computed.name ≡ IsComputed v.computed
  stands_at seen [] v vs o = o.0.stands
  stands_at seen (u ∷ us) v vs o = stands_at (u.computed.name ∷ seen) us v vs o.1

  stands_there : (done : List Visit) (v : Visit) (vs : List Visit) → evaluation_order hosts w asked ≡ done ++ v ∷ vs →
      standing w v.computed.name ≡ IsComputed v.computed
  stands_there done v vs order = stands_at [] done v vs (subst (AreOrdered hosts w []) order (places_law hosts w asked).ordered)

  -- visits keep it
  visits_keep : AreKept hosts w k → AreGiven given w k → (done vs later : List Visit) → evaluation_order hosts w asked ≡ done ++ (vs ++ later) →
      Holds (settled_first hosts w k done) → Holds (settled_first hosts w k (done ++ vs))
  visits_keep kept names done [] later order t = subst (λ z. Holds (settled_first hosts w k z)) (sym (append-nil done)) t
  visits_keep kept names done (v ∷ vs) later order t =
      let stands : standing w v.computed.name ≡ IsComputed v.computed = stands_there done v (vs ++ later) order in
      let next : Holds (settled_first hosts w k (done ++ v ∷ [])) =
      subst Holds (sym (settle_append hosts w done (v ∷ []) (record { memos = k; runs = [] })))
      (visit_keeps v (settled_first hosts w k done) stands (names.names v.computed.name (ap is_there stands))
      (kept_moments_law hosts w k asked done (v ∷ (vs ++ later)) kept order) t) in
      subst (λ z. Holds (settled_first hosts w k z)) (append_assoc done (v ∷ []) vs)
      (visits_keep kept names (done ++ v ∷ []) vs later (order ∙ sym (append_assoc done (v ∷ []) (vs ++ later))) next)

  -- at first
  at_first : AreTied given k (reverse journal) → Holds (settled_first hosts w k [])
  at_first t = subst (λ js. AreTied given k (reverse js)) (sym (append-nil journal)) t

-- a settling keeps the journal with its runs
pub tied_settle_law : TiedSettleLaw
tied_settle_law hosts given w k journal asked kept names t =
    visits_keep hosts given w k journal asked kept names [] (evaluation_order hosts w asked) [] (sym (append-nil (evaluation_order hosts w asked)))
    (at_first hosts given w k journal asked t)

-- and at each run the cause is that for which it must be
pub causes_law : CausesLaw
causes_law hosts given w k journal asked before later v kept names t order must =
    let s : Settled = settled_first hosts w k before in
    let now : AreTied given s.memos (facts_with journal s) =
    visits_keep hosts given w k journal asked kept names [] before (v ∷ later) order (at_first hosts given w k journal asked t) in
    let there : has_entry (entry_at v.computed.name s.memos.entries) ≡ true =
    (kept_moments_law hosts w k asked before (v ∷ later) kept order).entries.entries v.computed.name
    ∙ ap is_there (stands_there hosts given w k journal asked before v later order) in
    why s.memos (facts_with journal s) v.computed.name v.path (memo_of s.memos v.computed.name) (last_run v.computed.name (facts_with journal s))
    (now.tied v.computed.name there) must

-- ---- run by run

-- one more run
explained_snoc : (hosts : Hosts) (w : Signals) (k : Memos) (asked : List ℕ) (journal : List Fact) (rs : List Run) (r : Run) →
    AreExplained hosts w k asked journal rs → IsExplained hosts w k asked (journal ++ map run_fact rs) r →
    AreExplained hosts w k asked journal (rs ++ r ∷ [])
explained_snoc hosts w k asked journal [] r h e = (subst (λ j. IsExplained hosts w k asked j r) (append-nil journal) e, tt)
explained_snoc hosts w k asked journal (x ∷ rs) r h e = (
  h.0,
  explained_snoc hosts w k asked (journal ++ run_fact x ∷ []) rs r h.1
      (subst (λ j. IsExplained hosts w k asked j r) (sym (append_assoc journal (run_fact x ∷ []) (map run_fact rs))) e),
)

module _ (hosts : Hosts) (given : ℕ → Bool) (w : Signals) (k : Memos) (journal : List Fact) (asked : List ℕ) (kept : AreKept hosts w k)
    (names : AreGiven given w k) (tied : AreTied given k (reverse journal)) where
  -- one more visit
  visit_explained : (done : List Visit) (v : Visit) (later : List Visit) → evaluation_order hosts w asked ≡ done ++ v ∷ later →
      AreExplained hosts w k asked journal (settled_first hosts w k done).runs →
      AreExplained hosts w k asked journal (settle_visit hosts w v (settled_first hosts w k done)).runs
  visit_explained done v later order h = go (must_run (settled_first hosts w k done).memos v.computed.name v.path) refl
    where
      go : (b : Bool) → must_run (settled_first hosts w k done).memos v.computed.name v.path ≡ b → AreExplained hosts w k asked journal (cond b (record {
        memos = with_run (settled_first hosts w k done).memos v.computed.name (evaluated hosts w v.computed []);
        runs = (settled_first hosts w k done).runs ++ record { name = v.computed.name; evaluation = evaluated hosts w v.computed [] } ∷ [];
      }) (settled_first hosts w k done)).runs
      go false due = h
      go true due =
          explained_snoc hosts w k asked journal (settled_first hosts w k done).runs
          (record { name = v.computed.name; evaluation = evaluated hosts w v.computed [] }) h (record {
            place = record { before = done; visit = v; later = later; order = order; name = refl; due = due };
            why = causes_law hosts given w k journal asked done later v kept names tied order due;
          })

  -- and so all of them
  visits_explained : (done vs : List Visit) → evaluation_order hosts w asked ≡ done ++ vs →
      AreExplained hosts w k asked journal (settled_first hosts w k done).runs →
      AreExplained hosts w k asked journal (settle_visits hosts w vs (settled_first hosts w k done)).runs
  visits_explained done [] order h = h
  visits_explained done (v ∷ vs) order h =
      let snoc : settled_first hosts w k (done ++ v ∷ []) ≡ settle_visit hosts w v (settled_first hosts w k done) =
      settle_append hosts w done (v ∷ []) (record { memos = k; runs = [] }) in
      subst (λ (x : Settled). AreExplained hosts w k asked journal (settle_visits hosts w vs x).runs) snoc
      (visits_explained (done ++ v ∷ []) vs (order ∙ sym (append_assoc done (v ∷ []) vs))
      (subst (λ (x : Settled). AreExplained hosts w k asked journal x.runs) (sym snoc) (visit_explained done v vs order h)))

-- each run of a settling is explained
pub runs_law : RunsLaw
runs_law hosts given w k journal asked kept names tied =
    visits_explained hosts given w k journal asked kept names tied [] (evaluation_order hosts w asked) refl tt

-- what has met a source that is being evaluated
pub meet_law : MeetLaw
meet_law k path x c h e = go x (subst (IsWhy k path x) e h)
  where
    go : (x : Option Memo) → IsWhy k path x Evaluating → IsMet path (sources_in x)
    go None h = absurd h
    go (Some m) h = h.3
