-- What holds of each frame, and that it holds still when another frame is finished.
use Rattle.std.proofs.Common.{◌≡◌, ℕ, ◌==◌, ◌||◌, not, Bool, true, false, cond, List, [], ◌∷◌, ◌++◌, Option, Some, None, length, refl, sym, ap, ◌∙◌}
use Rattle.std.proofs.Common.{◌⊎◌, inl, inr}
use Rattle.std.proofs.lemmas.Bool.{eqb-true}
use Rattle.sig_base.specs.declared.value.Known.{Known}
use Rattle.sig_base.specs.declared.value.Outcome.{Outcome}
use Rattle.sig_base.specs.declared.value.Step.TheVariants.{Read}
use Rattle.signal_model.specs.Recipes.{Hosts, recipe_answer}
use Rattle.signal_model.specs.Signals.{Signals, Computed, IsComputed, is_in, standing}
use Rattle.signal_model.specs.Values.{Seen, asked_from, value_of, evaluated}
use Rattle.signal_model.specs.Orders.{Visit, visited}
use Rattle.signal_model.specs.Memos.{Source, Memo, Entry, Memos, entry_at, memo_in, number_in, memo_of, number_of, source_names, is_cycle}
use Rattle.signal_model.specs.Memos.{same_number, differs, is_moved, some_moved, must_run_by, must_run}
use Rattle.signal_model.specs.Settling.{with_memo}
use Rattle.signal_model.specs.Sound.{IsPast, ArePast, names_of, IsSound}
use Rattle.signal_model.specs.Values.{prefixed}
use Rattle.signal_model.specs.Laws.{IsChain}
use Rattle.signal_model.proofs.Shared.{tested}
use Rattle.signal_laws.proofs.Shared.{either, or_left, or_right, in_head, in_tail, run_other, run_stays, moved_off}
use Rattle.signal_model.specs.Memos.{is_stale_by, is_stale}
use Rattle.sig_computed.specs.Steps.{Phase, Looking, LookedAt, Running, Waiting, Frame, frame_names, new_frame}
use Rattle.sig_computed.proofs.VisitsLeft.{ArePassed, in_snoc}

module _ (hosts : Hosts) (w : Signals) where
  -- It looks: its memo isn't stale, the sources before its place are passed, and none of them has moved, unless it holds `cycle`.
  pub record LookHolds (k : Memos) (vs : List Visit) (evaluating : List ℕ) (n place : ℕ) : Type 0 where
    pub memo : Memo
    pub at : memo_of k n ≡ Some memo
    pub calm : is_stale_by k (Some memo) ≡ false
    pub done : List Source
    pub left : List Source
    pub split : done ++ left ≡ memo.sources
    pub place_is : length done ≡ place
    pub passed : ArePassed hosts w evaluating vs (source_names done)
    pub still : (is_cycle memo.outcome ≡ true) ⊎ ((is_cycle memo.outcome ≡ false) × (some_moved k evaluating done ≡ false))

  -- It runs: it must, its reads are passed, and with what is still to be asked they make its evaluation from scratch.
  pub record RunHolds (k : Memos) (vs : List Visit) (path : List ℕ) (n : ℕ) (c : Computed) (known : List Known) (reads : List Seen) : Type 0 where
    pub due : must_run k n path ≡ true
    pub going : prefixed reads (asked_from hosts c.recipe (λ m. value_of hosts w m (c.name ∷ [])) known) ≡ evaluated hosts w c []
    pub passed : ArePassed hosts w (n ∷ path) vs (names_of reads)

  -- the same by its phase
  abbrev pub PhaseHolds : Memos → List Visit → List ℕ → ℕ → Computed → Phase → Type 0
  PhaseHolds k vs path n c (Looking place) = LookHolds k vs (n ∷ path) n place
  PhaseHolds k vs path n c (LookedAt place) = LookHolds k vs (n ∷ path) n place
  PhaseHolds k vs path n c (Running known reads) = RunHolds k vs path n c known reads
  PhaseHolds k vs path n c (Waiting slot known reads) = RunHolds k vs path n c known reads × (recipe_answer hosts c.recipe known ≡ Read slot)

  -- its computed stands, is neither on the path nor visited, and is come to along reads
  pub record FrameHolds (k : Memos) (vs : List Visit) (path : List ℕ) (f : Frame) : Type 0 where
    pub computed : Computed
    pub stands : standing w f.name ≡ IsComputed computed
    pub off : is_in f.name path ≡ false
    pub new : is_in f.name (visited vs) ≡ false
    pub chain : IsChain hosts w f.name path
    pub phase : PhaseHolds k vs path f.name computed f.phase

  -- each frame of a stack does, on those below it
  abbrev pub StackHolds : Memos → List Visit → List Frame → Type 0
  StackHolds k vs [] = Unit {0}
  StackHolds k vs (f ∷ fs) = FrameHolds k vs (frame_names fs) f × StackHolds k vs fs

  -- ---- another is finished

  -- what is kept when n is finished: only its own entry is another, and no source that had moved is as it was read
  pub record Lasts (k k' : Memos) (n : ℕ) : Type 0 where
    pub memo : (x : ℕ) → (x == n) ≡ false → memo_of k' x ≡ memo_of k x
    pub number : (x : ℕ) → (x == n) ≡ false → number_of k' x ≡ number_of k x
    pub generation : k'.generation ≡ k.generation
    pub moves : (s : Source) → IsPast s.number (number_of k s.name) → differs k s ≡ true → differs k' s ≡ true

  -- it is where nothing has run
  pub lasts_same : (k : Memos) (n : ℕ) → Lasts k k n
  lasts_same k n = record { memo = λ x off. refl; number = λ x off. refl; generation = refl; moves = λ s p h. h }

  -- and where it has run
  pub lasts_run : (k : Memos) (n : ℕ) (d : Computed) (r : Entry) (o : Outcome) (ss : List Source) → standing w n ≡ IsComputed d →
      entry_at n k.entries ≡ Some r → Lasts k (with_memo k n o ss) n
  lasts_run k n d r o ss stands at = record {
    memo = λ x off. ap memo_in (run_other k n o ss x off);
    number = λ x off. ap number_in (run_other k n o ss x off);
    generation = refl;
    moves = λ s p h. elim (run_stays w k n d r o ss stands at s p) [ inl e ↦ e | inr e ↦ e.0 ∙ h ];
  }

  module _ (k k' : Memos) (n : ℕ) (d : Computed) (l : Lasts k k' n) (stands : standing w n ≡ IsComputed d) where
    -- a source that has moved has moved still
    some_moves : (path : List ℕ) (ss : List Source) → ArePast k ss → some_moved k path ss ≡ true → some_moved k' path ss ≡ true
    some_moves path [] p h = h
    some_moves path (s ∷ ss) p h = elim (either (is_moved k path s) (some_moved k path ss) h) [
      | inl here ↦ or_left (is_moved k' path s) (some_moved k' path ss) (elim (either (differs k s) (is_in s.name path) here) [
        | inl x ↦ or_left (differs k' s) (is_in s.name path) (l.moves s p.0 x)
        | inr x ↦ or_right (differs k' s) (is_in s.name path) x
      ])
      | inr there ↦ or_right (is_moved k' path s) (some_moved k' path ss) (some_moves path ss p.1 there)
    ]

    -- and one that hasn't, and isn't n, hasn't
    none_moves : (path : List ℕ) (ss : List Source) → ((x : ℕ) → is_in x (source_names ss) ≡ true → (x == n) ≡ false) →
        some_moved k path ss ≡ false → some_moved k' path ss ≡ false
    none_moves path [] f h = h
    none_moves path (s ∷ ss) f h =
        let a : number_of k' s.name ≡ number_of k s.name = l.number s.name (f s.name (in_head s.name (source_names ss))) in
        (λ i. ((not (same_number (a i) s.number)) || is_in s.name path) || some_moved k' path ss)
        ∙ go (is_moved k path s) h (none_moves path ss (λ x on. f x (in_tail x s.name (source_names ss) on)))
      where
        go : (b : Bool) → (b || some_moved k path ss) ≡ false → (some_moved k path ss ≡ false → some_moved k' path ss ≡ false) →
            (b || some_moved k' path ss) ≡ false
        go true q g = cc
        go false q g = g q

    -- what must run must still
    must_lasts : (x : ℕ) (path : List ℕ) → IsSound hosts w k → (x == n) ≡ false → must_run k x path ≡ true → must_run k' x path ≡ true
    must_lasts x path sound off h = ap (λ m. must_run_by k' m path) (l.memo x off) ∙ go (memo_of k x) refl h
      where
        go : (m : Option Memo) → memo_of k x ≡ m → must_run_by k m path ≡ true → must_run_by k' m path ≡ true
        go None e q = refl
        go (Some m) e q = by (is_cycle m.outcome) q
          where
            by : (b : Bool) → cond b (not (m.generation == k.generation)) (m.rewired || some_moved k path m.sources) ≡ true →
                cond b (not (m.generation == k'.generation)) (m.rewired || some_moved k' path m.sources) ≡ true
            by true g = ap (λ y. not (m.generation == y)) l.generation ∙ g
            by false g = elim (either m.rewired (some_moved k path m.sources) g) [
              | inl z ↦ or_left m.rewired (some_moved k' path m.sources) z
              | inr z ↦ or_right m.rewired (some_moved k' path m.sources) (some_moves path m.sources (sound.past x m e) z)
            ]

    -- what isn't stale isn't still
    stale_lasts : (m : Memo) → is_stale_by k (Some m) ≡ false → is_stale_by k' (Some m) ≡ false
    stale_lasts m h = ap (λ y. cond (is_cycle m.outcome) (not (m.generation == y)) m.rewired) l.generation ∙ h

    module _ (vs : List Visit) (v : Visit) (sound : IsSound hosts w k) (unseen : is_in n (visited vs) ≡ false) where
      -- what is passed is passed still
      passed_lasts : (evaluating ns : List ℕ) → ArePassed hosts w evaluating vs ns → ArePassed hosts w evaluating (vs ++ v ∷ []) ns
      passed_lasts evaluating ns f x e on st = elim (either (is_in x evaluating) (is_in x (visited vs)) (f x e on st)) [
        | inl q ↦ or_left (is_in x evaluating) (is_in x (visited (vs ++ v ∷ []))) q
        | inr q ↦ or_right (is_in x evaluating) (is_in x (visited (vs ++ v ∷ []))) (in_snoc x vs v q)
      ]

      -- a look holds still
      look_lasts : (evaluating : List ℕ) (x place : ℕ) → (x == n) ≡ false → LookHolds k vs evaluating x place →
          LookHolds k' (vs ++ v ∷ []) evaluating x place
      look_lasts evaluating x place off g = record {
        memo = g.memo;
        at = l.memo x off ∙ g.at;
        calm = stale_lasts g.memo g.calm;
        done = g.done;
        left = g.left;
        split = g.split;
        place_is = g.place_is;
        passed = passed_lasts evaluating (source_names g.done) g.passed;
        still = elim g.still [
          | inl cy ↦ inl cy
          | inr fine ↦ inr (
            fine.0,
            none_moves evaluating g.done (λ y on. elim (tested (y == n)) [
              | inr z ↦ z
              | inl z ↦
                  let e : y ≡ n = eqb-true y n z in
                  elim (either (is_in y evaluating) (is_in y (visited vs)) (g.passed y d on (ap (standing w) e ∙ stands))) [
                    | inl q ↦ cc (sym q ∙ moved_off k evaluating g.done y fine.1 on)
                    | inr q ↦ cc (sym q ∙ ap (λ j. is_in j (visited vs)) e ∙ unseen)
                  ]
            ]) fine.1,
          )
        ];
      }

      -- so does a run
      run_lasts : (path : List ℕ) (x : ℕ) (c : Computed) (known : List Known) (reads : List Seen) → (x == n) ≡ false →
          RunHolds k vs path x c known reads → RunHolds k' (vs ++ v ∷ []) path x c known reads
      run_lasts path x c known reads off g =
          record { due = must_lasts x path sound off g.due; going = g.going; passed = passed_lasts (x ∷ path) (names_of reads) g.passed }

      -- so does each phase
      phase_lasts : (path : List ℕ) (x : ℕ) (c : Computed) (p : Phase) → (x == n) ≡ false → PhaseHolds k vs path x c p →
          PhaseHolds k' (vs ++ v ∷ []) path x c p
      phase_lasts path x c (Looking place) off g = look_lasts (x ∷ path) x place off g
      phase_lasts path x c (LookedAt place) off g = look_lasts (x ∷ path) x place off g
      phase_lasts path x c (Running known reads) off g = run_lasts path x c known reads off g
      phase_lasts path x c (Waiting slot known reads) off g = (run_lasts path x c known reads off g.0, g.1)

      -- what wasn't visited wasn't, but for n
      snoc_off : (x : ℕ) (us : List Visit) → (x == v.computed.name) ≡ false → is_in x (visited us) ≡ false → is_in x (visited (us ++ v ∷ [])) ≡ false
      snoc_off x [] e h = ap (λ b. b || false) e
      snoc_off x (u ∷ us) e h = go (x == u.computed.name) h (snoc_off x us e)
        where
          go : (b : Bool) → (b || is_in x (visited us)) ≡ false → (is_in x (visited us) ≡ false → is_in x (visited (us ++ v ∷ [])) ≡ false) →
              (b || is_in x (visited (us ++ v ∷ []))) ≡ false
          go true q f = cc
          go false q f = f q

      -- the frames that aren't of n hold still
      pub stack_lasts : (fs : List Frame) → n ≡ v.computed.name → is_in n (frame_names fs) ≡ false → StackHolds k vs fs →
          StackHolds k' (vs ++ v ∷ []) fs
      stack_lasts [] name off s = tt
      stack_lasts (f ∷ fs) name off s =
          let away : (f.name == n) ≡ false = elim (tested (f.name == n)) [
            | inr z ↦ z
            | inl z ↦ cc (sym (in_head n (frame_names fs)) ∙ ap (λ y. is_in n (y ∷ frame_names fs)) (sym (eqb-true f.name n z)) ∙ off)
          ] in (
            record {
              computed = s.0.computed;
              stands = s.0.stands;
              off = s.0.off;
              new = snoc_off f.name vs (ap (λ y. f.name == y) (sym name) ∙ away) s.0.new;
              chain = s.0.chain;
              phase = phase_lasts (frame_names fs) f.name s.0.computed f.phase away s.0.phase;
            },
            stack_lasts fs name (tail (n == f.name) off) s.1,
          )
        where
          tail : (b : Bool) → (b || is_in n (frame_names fs)) ≡ false → is_in n (frame_names fs) ≡ false
          tail true q = cc
          tail false q = q

  -- ---- a new frame

  -- what is stale must run
  must_stale : (k : Memos) (n : ℕ) (path : List ℕ) → is_stale k n ≡ true → must_run k n path ≡ true
  must_stale k n path h = go (memo_of k n) h
    where
      go : (x : Option Memo) → is_stale_by k x ≡ true → must_run_by k x path ≡ true
      go None q = refl
      go (Some m) q = by (is_cycle m.outcome) q
        where
          by : (b : Bool) → cond b (not (m.generation == k.generation)) m.rewired ≡ true →
              cond b (not (m.generation == k.generation)) (m.rewired || some_moved k path m.sources) ≡ true
          by true g = g
          by false g = or_left m.rewired (some_moved k path m.sources) g

  -- a new frame holds
  pub new_frame_holds : (k : Memos) (vs : List Visit) (path : List ℕ) (n : ℕ) (c : Computed) → PhaseHolds k vs path n c (new_frame k n).phase
  new_frame_holds k vs path n c = go (is_stale k n) refl
    where
      none : ArePassed hosts w (n ∷ path) vs []
      none x e on st = cc

      looks : (x : Option Memo) → memo_of k n ≡ x → is_stale_by k x ≡ false → LookHolds k vs (n ∷ path) n 0
      looks None e q = cc
      looks (Some m) e q = record {
        memo = m;
        at = e;
        calm = q;
        done = [];
        left = m.sources;
        split = refl;
        place_is = refl;
        passed = none;
        still = elim (tested (is_cycle m.outcome)) [ inl cy ↦ inl cy | inr fine ↦ inr (fine, refl) ];
      }

      go : (b : Bool) → is_stale k n ≡ b → PhaseHolds k vs path n c (cond b (Running [] []) (Looking 0))
      go true e = record { due = must_stale k n path e; going = refl; passed = none }
      go false e = looks (memo_of k n) refl e
