-- Settling in order keeps memos sound and leaves each visited computed with its value from scratch.
use Rattle.std.proofs.Common.{◌≡◌, ℕ, suc, ◌≤◌, ◌==◌, ◌||◌, not, Bool, true, false, cond, List, [], ◌∷◌, ◌++◌, map, Some, length, refl, sym, ap, ◌∙◌}
use Rattle.std.proofs.Common.{subst, arith, inl, inr}
use Rattle.std.specs.List.{AllByRecursion}
use Rattle.std.proofs.lemmas.Bool.{eqb-true, eq-eqb}
use Rattle.signal_model.specs.Recipes.{Hosts}
use Rattle.signal_model.specs.Signals.{Signals, Computed, IsComputed, is_in, standing}
use Rattle.signal_model.specs.Values.{Evaluation, unknown_slots, value_of, evaluated, reads_of}
use Rattle.signal_model.specs.Orders.{Visit, visited, evaluation_order}
use Rattle.signal_model.specs.Memos.{Source, Memo, Entry, Memos, entry_at, memo_in, memo_of, source_names, is_cycle, differs, is_moved, some_moved}
use Rattle.signal_model.specs.Memos.{must_run_by, must_run}
use Rattle.signal_model.specs.Settling.{Settled, source_now, with_run, settle_visit, settle_visits, settled}
use Rattle.signal_model.specs.Sound.{Follows, ArePast, names_of, Keeps, IsSound}
use Rattle.signal_model.specs.Laws.{IsRead, Reads, Leads, one}
use Rattle.signal_model.proofs.Shared.{value_run, no_loop, goes_on, chain_goes, tested, either}
use Rattle.signal_model.specs.Kept.{AreKept}
use Rattle.signal_model.specs.Signals.{is_there}
use Rattle.signal_laws.specs.CleanLaws.{IsUpToDate}
use Rattle.signal_laws.specs.SettleLaws.{settled_first, SettleLaw, AskedLaw, AskedMemoLaw, AgainLaw, KeptMomentsLaw}
use Rattle.signal_laws.proofs.AfterChange.{CalmOn, calm_on, Calm, calm_of, all_stay, all_past, follows_on, entry_there, some_is}
use Rattle.signal_laws.proofs.CleanVisits.{comp_is, right_source, read_value, right_memo, is_in-read, Quiet, quiet_here, quiet_settle}
use Rattle.signal_laws.specs.OrderLaws.{IsPlaced, AreOrdered, seen_after}
use Rattle.signal_laws.proofs.PlacedVisits.{ordered_first, seen_is, places_law}
use Rattle.signal_laws.proofs.AfterRun.{new_memo, run_other, run_memo, run_stays, run_past, run_entries, names_now, now_calm, same_moved, now_past}
use Rattle.signal_laws.proofs.AfterRun.{now_follows, run_acyclic}
use Rattle.signal_laws.proofs.FailedTests.{or_fst, or_snd}
use Rattle.signal_laws.proofs.Lists.{in_head, in_tail}

-- what hasn't moved along a path hasn't without it
pub moved_less : (k : Memos) (path : List ℕ) (ss : List Source) → some_moved k path ss ≡ false → some_moved k [] ss ≡ false
moved_less k path [] h = refl
moved_less k path (s ∷ ss) h =
    let a : differs k s ≡ false = or_fst (differs k s) (is_in s.name path) (or_fst (is_moved k path s) (some_moved k path ss) h) in
    let b : some_moved k [] ss ≡ false = moved_less k path ss (or_snd (is_moved k path s) (some_moved k path ss) h) in
    (λ i. (a i || false) || b i)

-- and isn't on it
pub moved_off : (k : Memos) (path : List ℕ) (ss : List Source) (m : ℕ) → some_moved k path ss ≡ false → is_in m (source_names ss) ≡ true →
    is_in m path ≡ false
moved_off k path [] m h on = cc
moved_off k path (s ∷ ss) m h on = elim (either (m == s.name) (is_in m (source_names ss)) on) [
  | inl e ↦ ap (λ x. is_in x path) (eqb-true m s.name e)
      ∙ or_snd (differs k s) (is_in s.name path) (or_fst (is_moved k path s) (some_moved k path ss) h)
  | inr t ↦ moved_off k path ss m (or_snd (is_moved k path s) (some_moved k path ss) h) t
]

module _ (hosts : Hosts) (w : Signals) where
  -- its memo is that from scratch, and it needn't run
  pub record IsDone (k : Memos) (x : ℕ) (d : Computed) : Type 0 where
    pub right : IsUpToDate hosts w k x d
    pub calm : must_run k x [] ≡ false

  -- each of these names is done
  abbrev pub AllDone : Memos → List ℕ → Type 0
  AllDone k seen = (x : ℕ) (d : Computed) → is_in x seen ≡ true → standing w x ≡ IsComputed d → IsDone k x d

  -- what a name without the fault cycle reads is among the names too
  abbrev pub IsClosed : List ℕ → Type 0
  IsClosed seen = (x m : ℕ) (c d : Computed) → is_in x seen ≡ true → standing w x ≡ IsComputed c → is_cycle (value_of hosts w x []) ≡ false →
      IsRead m (reads_of hosts w c) → standing w m ≡ IsComputed d → is_in m seen ≡ true

  -- the memos after the visits of some names
  pub record State (k : Memos) (seen : List ℕ) : Type 0 where
    pub kept : AreKept hosts w k
    pub done : AllDone k seen
    pub closed : IsClosed seen

  -- what a visited computed without the fault cycle reads was visited before
  pub fine_seen : (seen : List ℕ) (v : Visit) → IsPlaced hosts w seen v → is_cycle (value_of hosts w v.computed.name []) ≡ false →
      (m : ℕ) (d : Computed) → IsRead m (reads_of hosts w v.computed) → standing w m ≡ IsComputed d → is_in m seen ≡ true
  fine_seen seen v p fine m d read st =
      let n : ℕ = v.computed.name in
      let r : Reads hosts w n m = record { computed = v.computed; stands = p.stands; read = read } in
      elim (p.before m d read st) [
        | inr was ↦ was
        | inl on ↦ absurd (no_loop hosts w n [] fine (elim (either (m == n) (is_in m v.path) on) [
          | inl q ↦ subst (λ j. Leads hosts w n j) (eqb-true m n q) (one r)
          | inr q ↦ goes_on hosts w (one r) (chain_goes hosts w v.path n m p.chain q)
        ]))
      ]

  -- one name more
  closed_more : (seen : List ℕ) (v : Visit) → IsPlaced hosts w seen v → IsClosed seen → IsClosed (v.computed.name ∷ seen)
  closed_more seen v p closed x m c d on st fine read std =
      let n : ℕ = v.computed.name in
      elim (tested (x == n)) [
        | inr off ↦ in_tail m n seen (closed x m c d (sym (ap (λ b. b || is_in x seen) off) ∙ on) st fine read std)
        | inl is ↦
            let e : x ≡ n = eqb-true x n is in
            let same : c ≡ v.computed = comp_is c v.computed (sym st ∙ ap (standing w) e ∙ p.stands) in
            in_tail m n seen (fine_seen seen v p (ap (λ y. is_cycle (value_of hosts w y [])) (sym e) ∙ fine) m d
            (subst (λ y. IsRead m (reads_of hosts w y)) same read) std)
      ]

  -- a computed that needn't run at its place is done
  calm_done : (k : Memos) (seen : List ℕ) (v : Visit) → IsPlaced hosts w seen v → State k seen → must_run k v.computed.name v.path ≡ false →
      IsDone k v.computed.name v.computed
  calm_done k seen v p s h = go (calm_on k v.computed.name v.path h)
    where
      n : ℕ
      n = v.computed.name

      go : CalmOn k v.computed.name v.path → IsDone k v.computed.name v.computed
      go q = elim q.case [
        | inl cy ↦
            let t : (value_of hosts w v.computed.name [] ≡ q.memo.outcome)
            × (source_names q.memo.sources ≡ names_of (reads_of hosts w v.computed)) =
            s.kept.sound.cycles v.computed.name v.computed q.memo p.stands q.at cy.0 cy.1 in
            let e : (q.memo.generation == k.generation) ≡ true = eq-eqb q.memo.generation k.generation cy.1 in
            record {
              right = record { memo = q.memo; at = q.at; outcome = sym t.0; names = t.1 };
              calm = ap (λ x. must_run_by k x []) q.at ∙ (λ i. cond (cy.0 i) (not (e i)) (q.memo.rewired || some_moved k [] q.memo.sources));
            }
        | inr fine ↦
            let still : some_moved k [] q.memo.sources ≡ false = moved_less k v.path q.memo.sources fine.2 in
            let calm : must_run k v.computed.name [] ≡ false = ap (λ x. must_run_by k x []) q.at
            ∙ (λ i. cond (fine.0 i) (not (q.memo.generation == k.generation)) (fine.1 i || still i)) in
            record {
              right = right_memo hosts w k v.computed.name v.computed q.memo s.kept.sound p.stands q.at fine.0 fine.1 still
                  (λ m read on. right_source hosts w k m (λ d st. elim (p.before m d read st) [
                    | inr was ↦ (s.done m d was st).right
                    | inl on' ↦ elim (either (m == v.computed.name) (is_in m v.path) on') [
                      | inr z ↦ cc (sym z ∙ moved_off k v.path q.memo.sources m fine.2 on)
                      | inl z ↦
                          let e : m ≡ v.computed.name = eqb-true m v.computed.name z in
                          let self : Keeps w k v.computed.name v.computed.name =
                          record {
                            computed = v.computed;
                            stands = p.stands;
                            memo = q.memo;
                            at = q.at;
                            fine = fine.0;
                            calm = calm;
                            kept =
                                subst (λ j. is_in j (source_names q.memo.sources) ≡ true) e on;
                          } in
                          absurd (s.kept.sound.acyclic v.computed.name (v.computed.name ∷ []) (self, tt) (in_head v.computed.name []))
                    ]
                  ]));
              calm = calm;
            }
      ]

  -- ---- a run at its place

  module _ (k : Memos) (seen : List ℕ) (v : Visit) where
    -- its evaluation
    abbrev ev : Evaluation
    ev = evaluated hosts w v.computed []

    -- its name
    abbrev name : ℕ
    name = v.computed.name

    -- the memos after its run
    abbrev after : Memos
    after = with_run k v.computed.name (evaluated hosts w v.computed [])

    -- its value is what the evaluation came to
    value_is : IsPlaced hosts w seen v → value_of hosts w name [] ≡ ev.outcome
    value_is p = value_run hosts w name [] v.computed p.stands refl

    -- what it reads is seen
    own : IsPlaced hosts w seen v → is_cycle ev.outcome ≡ false → (m : ℕ) (d : Computed) → IsRead m ev.reads → standing w m ≡ IsComputed d →
        is_in m seen ≡ true
    own p fine m d read st = fine_seen seen v p (ap is_cycle (value_is p) ∙ fine) m d read st

    -- it doesn't read itself
    apart : IsPlaced hosts w seen v → is_cycle ev.outcome ≡ false → (m : ℕ) → IsRead m ev.reads → (m == name) ≡ false
    apart p fine m read = elim (tested (m == name)) [
      | inr off ↦ off
      | inl is ↦
          let e : m ≡ name = eqb-true m name is in
          let on : is_in m seen ≡ true = own p fine m v.computed read (ap (standing w) e ∙ p.stands) in
          cc (sym (ap (λ y. is_in y seen) (sym e) ∙ on) ∙ p.new)
    ]

    -- the name itself is done
    run_done : (r : Entry) → entry_at name k.entries ≡ Some r → IsPlaced hosts w seen v → IsDone after name v.computed
    run_done r at p =
        let ss : List Source = map (source_now k) ev.reads in
        let memo' : memo_of after name ≡ Some (new_memo k ev.outcome ss) = run_memo k name ev.outcome ss r at in
        record {
          right = record { memo = new_memo k ev.outcome ss; at = memo'; outcome = sym (value_is p); names = names_now k ev.reads };
          calm = ap (λ x. must_run_by after x []) memo' ∙ elim (tested (is_cycle ev.outcome)) [
            | inl cy ↦ let e : (k.generation == k.generation) ≡ true =
                eq-eqb k.generation k.generation refl in (λ i. cond (cy i) (not (e i)) (false || some_moved after [] ss))
            | inr fine ↦ let c : some_moved after [] ss ≡ false =
                now_calm k name ev.outcome ss ev.reads (apart p fine) in (λ i. cond (fine i) (not (k.generation == k.generation)) (false || c i))
          ];
        }

    -- another that was done is done still
    other_done : IsPlaced hosts w seen v → IsClosed seen → (x : ℕ) (d : Computed) → is_in x seen ≡ true → standing w x ≡ IsComputed d →
        IsDone k x d → IsDone after x d
    other_done p closed x d on st old = go (calm_of k x old.calm)
      where
        off : (x == name) ≡ false
        off = elim (tested (x == name)) [ inr z ↦ z | inl z ↦ cc (sym (ap (λ y. is_in y seen) (sym (eqb-true x name z)) ∙ on) ∙ p.new) ]

        same : memo_of after x ≡ memo_of k x
        same = ap memo_in (run_other k name ev.outcome (map (source_now k) ev.reads) x off)

        go : Calm k x → IsDone after x d
        go q =
            let is : q.memo ≡ old.right.memo = some_is q.memo old.right.memo (sym q.at ∙ old.right.at) in
            record {
              right = record { memo = old.right.memo; at = same ∙ old.right.at; outcome = old.right.outcome; names = old.right.names };
              calm = ap (λ y. must_run_by after y []) (same ∙ q.at) ∙ elim q.case [
                | inl cy ↦ let e : (q.memo.generation == k.generation) ≡ true =
                    eq-eqb q.memo.generation k.generation cy.1 in
                    (λ i. cond (cy.0 i) (not (e i)) (q.memo.rewired || some_moved after [] q.memo.sources))
                | inr fine ↦
                    let good : is_cycle (value_of hosts w x []) ≡ false = ap is_cycle (sym old.right.outcome)
                    ∙ ap (λ (y : Memo). is_cycle y.outcome) (sym is) ∙ fine.0 in
                    let names : source_names q.memo.sources ≡ names_of (reads_of hosts w d) = ap (λ (y : Memo). source_names y.sources) is
                    ∙ old.right.names in
                    let away : (m : ℕ) → is_in m (source_names q.memo.sources) ≡ true → (m == name) ≡ false = λ m isin. elim (tested (m == name)) [
                      | inr z ↦ z
                      | inl z ↦
                          let e : m ≡ name = eqb-true m name z in
                          let read : IsRead m (reads_of hosts w d) = is_in-read m (reads_of hosts w d) (ap (is_in m) (sym names) ∙ isin) in
                          let on' : is_in m seen ≡ true = closed x m d v.computed on st good read (ap (standing w) e ∙ p.stands) in
                          cc (sym (ap (λ y. is_in y seen) (sym e) ∙ on') ∙ p.new)
                    ] in
                    let mv : some_moved after [] q.memo.sources ≡ false =
                    same_moved k name ev.outcome (map (source_now k) ev.reads) q.memo.sources away ∙ fine.2 in
                    (λ i. cond (fine.0 i) (not (q.memo.generation == k.generation)) (fine.1 i || mv i))
              ];
            }

    -- so all are done
    all_done : (r : Entry) → entry_at name k.entries ≡ Some r → IsPlaced hosts w seen v → State k seen → AllDone after (v.computed.name ∷ seen)
    all_done r at p s x d on st = elim (tested (x == name)) [
      | inl is ↦
          let e : x ≡ name = eqb-true x name is in
          let same : d ≡ v.computed = comp_is d v.computed (sym st ∙ ap (standing w) e ∙ p.stands) in
          subst (λ y. IsDone after y d) (sym e) (subst (λ y. IsDone after name y) (sym same) (run_done r at p))
      | inr off ↦ let on' : is_in x seen ≡ true = sym (ap (λ b. b || is_in x seen) off) ∙ on in other_done p s.closed x d on' st (s.done x d on' st)
    ]

    -- the memos are sound after the run
    run_sound : (r : Entry) → entry_at name k.entries ≡ Some r → IsPlaced hosts w seen v → State k seen → IsSound hosts w after
    run_sound r at p s =
        let ss : List Source = map (source_now k) ev.reads in
        let mine : memo_of after name ≡ Some (new_memo k ev.outcome ss) = run_memo k name ev.outcome ss r at in
        let memo_is : (m : ℕ) (e : Memo) → (m == name) ≡ true → memo_of after m ≡ Some e →
        new_memo k ev.outcome ss ≡ e =
        λ m e on q. some_is (new_memo k ev.outcome ss) e (sym mine ∙ ap (memo_of after) (sym (eqb-true m name on)) ∙ q) in
        let was : (m : ℕ) (e : Memo) → (m == name) ≡ false → memo_of after m ≡ Some e →
        memo_of k m ≡ Some e = λ m e off q. sym (ap memo_in (run_other k name ev.outcome ss m off)) ∙ q in
        let comp : (m : ℕ) (c : Computed) → (m == name) ≡ true → standing w m ≡ IsComputed c →
        v.computed ≡ c = λ m c on st. comp_is v.computed c (sym p.stands ∙ ap (standing w) (sym (eqb-true m name on)) ∙ st) in
        let le : k.generation ≤ k.generation = omega arith in
        record {
          cycles = λ m c e st q cy gen. elim (tested (m == name)) [
            | inr off ↦ s.kept.sound.cycles m c e st (was m e off q) cy gen
            | inl on ↦ (
              ap (λ y. value_of hosts w y []) (eqb-true m name on) ∙ value_is p ∙ ap (λ (y : Memo). y.outcome) (memo_is m e on q),
              ap (λ (y : Memo). source_names y.sources) (sym (memo_is m e on q)) ∙ names_now k ev.reads
                  ∙ ap (λ y. names_of (reads_of hosts w y)) (comp m c on st),
            )
          ];
          follows = λ m c e st q fine rw0. elim (tested (m == name)) [
            | inr off ↦
                follows_on hosts w k w after c.recipe e.outcome [] e.sources
                (all_stay hosts w k w after (run_stays w k name v.computed r ev.outcome ss p.stands at) e.sources
                (s.kept.sound.past m e (was m e off q)))
                (s.kept.sound.follows m c e st (was m e off q) fine rw0)
            | inl on ↦
                let good : is_cycle ev.outcome ≡ false = ap (λ (y : Memo). is_cycle y.outcome) (memo_is m e on q) ∙ fine in
                let f : Follows hosts w after v.computed.recipe ev.outcome [] ss =
                now_follows (suc (unknown_slots (length v.computed.recipe.slots) [])) hosts w k after v.computed.recipe
                (λ j. value_of hosts w j (v.computed.name ∷ [])) [] good
                (λ j read. right_source hosts w after j
                (λ d std. (all_done r at p s j d (in_tail j name seen (own p good j d read std)) std).right)
                ∙ ap (λ y. Some y) (sym (read_value hosts w name v.computed j p.stands read))) in
                subst (λ (y : Memo). Follows hosts w after c.recipe y.outcome [] y.sources) (memo_is m e on q)
                (subst (λ (y : Computed). Follows hosts w after y.recipe ev.outcome [] ss) (comp m c on st) f)
          ];
          acyclic = run_acyclic hosts w k name v.computed r ev.outcome ss seen p.stands at s.kept.sound p.new (λ x m d on y st.
              let old : IsDone k x y.computed = s.done x y.computed on y.stands in
              let is : y.memo ≡ old.right.memo = some_is y.memo old.right.memo (sym y.at ∙ old.right.at) in
              let good : is_cycle (value_of hosts w x []) ≡ false = ap is_cycle (sym old.right.outcome)
              ∙ ap (λ (z : Memo). is_cycle z.outcome) (sym is) ∙ y.fine in
              let read : IsRead m (reads_of hosts w y.computed) =
              is_in-read m (reads_of hosts w y.computed)
              (ap (is_in m) (sym (ap (λ (z : Memo). source_names z.sources) is ∙ old.right.names)) ∙ y.kept) in
              s.closed x m y.computed d on y.stands good read st)
              (λ good m d on st. own p good m d (is_in-read m ev.reads (ap (is_in m) (sym (names_now k ev.reads)) ∙ on)) st);
          present = λ m e q. elim (tested (m == name)) [
            | inr off ↦ s.kept.sound.present m e (was m e off q)
            | inl on ↦ subst (λ (y : Memo). y.generation ≤ k.generation) (memo_is m e on q) le
          ];
          past = λ m e q. elim (tested (m == name)) [
            | inr off ↦ all_past k after (run_past k name ev.outcome ss r at) e.sources (s.kept.sound.past m e (was m e off q))
            | inl on ↦ subst (λ (y : Memo). ArePast after y.sources) (memo_is m e on q)
                (now_past k after (run_past k name ev.outcome ss r at) ev.reads)
          ];
        }

    -- the state after a run
    run_state : IsPlaced hosts w seen v → State k seen → State after (v.computed.name ∷ seen)
    run_state p s =
        let r : (r : Entry) × (entry_at name k.entries ≡ Some r) = entry_there w k name s.kept.entries (ap is_there p.stands) in
        record {
          kept = record {
            sound = run_sound r.0 r.1 p s;
            entries =
                run_entries w k name v.computed ev.outcome (map (source_now k) ev.reads) p.stands s.kept.entries;
          };
          done = all_done r.0 r.1 p s;
          closed = closed_more seen v p s.closed;
        }

    -- the state where nothing runs
    calm_state : IsPlaced hosts w seen v → State k seen → must_run k name v.path ≡ false → State k (v.computed.name ∷ seen)
    calm_state p s h = record {
      kept = s.kept;
      done = λ x d on st. elim (tested (x == name)) [
        | inl is ↦
            let e : x ≡ name = eqb-true x name is in
            let same : d ≡ v.computed = comp_is d v.computed (sym st ∙ ap (standing w) e ∙ p.stands) in
            subst (λ y. IsDone k y d) (sym e) (subst (λ y. IsDone k name y) (sym same) (calm_done k seen v p s h))
        | inr off ↦ s.done x d (sym (ap (λ b. b || is_in x seen) off) ∙ on) st
      ];
      closed = closed_more seen v p s.closed;
    }

  -- a visit at its place
  pub visit_state : (seen : List ℕ) (v : Visit) (s : Settled) → IsPlaced hosts w seen v → State s.memos seen →
      State (settle_visit hosts w v s).memos (v.computed.name ∷ seen)
  visit_state seen v s p st = go (must_run s.memos v.computed.name v.path) refl
    where
      go : (b : Bool) → must_run s.memos v.computed.name v.path ≡ b → State (cond b (record {
        memos = with_run s.memos v.computed.name (evaluated hosts w v.computed []);
        runs = s.runs ++ record { name = v.computed.name; evaluation = evaluated hosts w v.computed [] } ∷ [];
      }) s).memos (v.computed.name ∷ seen)
      go true e = run_state s.memos seen v p st
      go false e = calm_state s.memos seen v p st e

  -- visits at their places
  pub visits_state : (seen : List ℕ) (vs : List Visit) (s : Settled) → AreOrdered hosts w seen vs → State s.memos seen →
      State (settle_visits hosts w vs s).memos (seen_after seen vs)
  visits_state seen [] s o st = st
  visits_state seen (v ∷ vs) s o st = visits_state (v.computed.name ∷ seen) vs (settle_visit hosts w v s) o.1 (visit_state seen v s o.0 st)

  -- the state before the first visit
  pub first_state : (k : Memos) → AreKept hosts w k → State k []
  first_state k kept = record { kept = kept; done = λ x d on st. cc on; closed = λ x m c d on st fine r std. cc on }

  -- the state after settling
  settled_state : (k : Memos) (asked : List ℕ) → AreKept hosts w k →
      State (settled hosts w k asked).memos (seen_after [] (evaluation_order hosts w asked))
  settled_state k asked kept = visits_state [] (evaluation_order hosts w asked) (record { memos = k; runs = [] }) (places_law hosts w asked).ordered
      (first_state k kept)

  -- the state at a place of the order
  pub state_at : (k : Memos) (asked : List ℕ) (before later : List Visit) → AreKept hosts w k → evaluation_order hosts w asked ≡ before ++ later →
      State (settled_first hosts w k before).memos (seen_after [] before)
  state_at k asked before later kept order =
      let o : AreOrdered hosts w [] (before ++ later) = subst (AreOrdered hosts w []) order (places_law hosts w asked).ordered in
      visits_state [] before (record { memos = k; runs = [] }) (ordered_first hosts w [] before later o) (first_state k kept)

  -- what is in the order is seen after it
  in_order : (vs : List Visit) (x : ℕ) → is_in x (visited vs) ≡ true → is_in x (seen_after [] vs) ≡ true
  in_order vs x h = seen_is x [] vs ∙ h

  -- what is done doesn't run again
  all_quiet : (k : Memos) (seen : List ℕ) (vs : List Visit) → AreOrdered hosts w seen vs →
      ((x : ℕ) (d : Computed) → is_in x (visited vs) ≡ true → standing w x ≡ IsComputed d → IsDone k x d) → AllByRecursion (Quiet hosts w k) vs
  all_quiet k seen [] o f = tt
  all_quiet k seen (v ∷ vs) o f =
      let d : IsDone k v.computed.name v.computed = f v.computed.name v.computed (in_head v.computed.name (visited vs)) o.0.stands in (
        quiet_here hosts w k v.computed.name v.computed v.path o.0.stands d.calm d.right o.0.chain,
        all_quiet k (v.computed.name ∷ seen) vs o.1 (λ x e on st. f x e (in_tail x v.computed.name (visited vs) on) st),
      )

-- settling keeps memos sound
pub settle_law : SettleLaw
settle_law hosts w k asked kept = (settled_state hosts w k asked kept).kept

-- a computed that was asked for is done
asked_done : (hosts : Hosts) (w : Signals) (k : Memos) (asked : List ℕ) (n : ℕ) (c : Computed) → AreKept hosts w k → is_in n asked ≡ true →
    standing w n ≡ IsComputed c →
    IsDone hosts w (settled hosts w k asked).memos n c
asked_done hosts w k asked n c kept on st =
    let s : State hosts w (settled hosts w k asked).memos (seen_after [] (evaluation_order hosts w asked)) = settled_state hosts w k asked kept in
    s.done n c (in_order hosts w (evaluation_order hosts w asked) n ((places_law hosts w asked).came n c on st)) st

-- what is asked for shows its value from scratch
pub asked_law : AskedLaw
asked_law hosts w k asked n kept on =
    right_source hosts w (settled hosts w k asked).memos n (λ d st. (asked_done hosts w k asked n d kept on st).right)

-- each computed that is asked for has its memo from scratch
pub asked_memo_law : AskedMemoLaw
asked_memo_law hosts w k asked n c kept on st = (asked_done hosts w k asked n c kept on st).right

-- settling again runs nothing
pub again_law : AgainLaw
again_law hosts w k asked kept =
    let k' : Memos = (settled hosts w k asked).memos in
    let vs : List Visit = evaluation_order hosts w asked in
    let s : State hosts w k' (seen_after [] vs) = settled_state hosts w k asked kept in
    quiet_settle hosts w vs (record { memos = k'; runs = [] })
    (all_quiet hosts w k' [] vs (places_law hosts w asked).ordered (λ x d on st. s.done x d (in_order hosts w vs x on) st))

-- what is kept is sound at each moment
pub kept_moments_law : KeptMomentsLaw
kept_moments_law hosts w k asked before later kept order = (state_at hosts w k asked before later kept order).kept
