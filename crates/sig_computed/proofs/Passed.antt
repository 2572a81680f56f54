-- A computed that would begin, and is clean, is passed over: its visits are made, and nothing runs.
use Rattle.std.proofs.Common.{◌≡◌, ℕ, ◌+◌, ◌≤◌, ◌||◌, true, false, List, [], ◌∷◌, refl, sym, ap, ◌∙◌, subst, arith, ◌⊎◌, inl, inr}
use Rattle.signal_model.specs.Recipes.{Hosts}
use Rattle.signal_model.specs.Signals.{Signals, Computed, is_in}
use Rattle.signal_model.specs.Orders.{Visit, visited, visit, order_after, evaluation_order}
use Rattle.signal_model.specs.Memos.{Memos, source_names}
use Rattle.signal_model.specs.Settling.{Run, Settled, settle_visits}
use Rattle.signal_model.specs.Marks.{Clean, mark_of}
use Rattle.signal_model.specs.Kept.{AreKept}
use Rattle.signal_model.specs.Sound.{names_of, IsSound}
use Rattle.signal_model.proofs.Shared.{either, or_left, or_right}
use Rattle.signal_laws.specs.OrderLaws.{seen_after}
use Rattle.signal_laws.proofs.Shared.{State, first_state, visits_state, in_head, in_tail, or_none, pass_law, seen_is}
use Rattle.sig_computed.specs.Steps.{Phase, Looking, LookedAt, Running, Waiting, Frame, Underway, frame_names, new_frame}
use Rattle.sig_computed.proofs.StepsHold.{Holds}
use Rattle.sig_computed.proofs.VisitsLeft.{ArePassed, completed, visit_came, visit_new}
use Rattle.sig_computed.proofs.FramesLast.{LookHolds, PhaseHolds, FrameHolds, StackHolds}
use Rattle.sig_computed.specs.Costs.{visit_steps}
use Rattle.sig_computed.proofs.CleanRuns.{clean_read}
use Rattle.sig_computed.proofs.Added.{Adds, are_ordered, in_adds, visit_adds, visit_off, visit_only}
use Rattle.sig_computed.proofs.Counts.{all_steps, seen_steps, visits_more}

module _ (hosts : Hosts) (w : Signals) where
  -- what is passed is passed still
  passed_on : (path : List ℕ) (vs us : List Visit) (ns : List ℕ) → Adds vs us → ArePassed hosts w path vs ns → ArePassed hosts w path us ns
  passed_on path vs us ns a f x d on e = elim (either (is_in x path) (is_in x (visited vs)) (f x d on e)) [
    | inl way ↦ or_left (is_in x path) (is_in x (visited us)) way
    | inr was ↦ or_right (is_in x path) (is_in x (visited us)) (in_adds x vs us a was)
  ]

  -- a look
  look_on : (k : Memos) (vs us : List Visit) (evaluating : List ℕ) (n place : ℕ) → Adds vs us → LookHolds hosts w k vs evaluating n place → LookHolds hosts w k us evaluating n place
  look_on k vs us evaluating n place a x = record {
    memo = x.memo;
    at = x.at;
    calm = x.calm;
    done = x.done;
    left = x.left;
    split = x.split;
    place_is = x.place_is;
    passed = passed_on evaluating vs us (source_names x.done) a x.passed;
    still = x.still;
  }

  -- a phase
  phase_on : (k : Memos) (vs us : List Visit) (path : List ℕ) (n : ℕ) (c : Computed) (p : Phase) → Adds vs us → PhaseHolds hosts w k vs path n c p → PhaseHolds hosts w k us path n c p
  phase_on k vs us path n c (Looking place) a x = look_on k vs us (n ∷ path) n place a x
  phase_on k vs us path n c (LookedAt place) a x = look_on k vs us (n ∷ path) n place a x
  phase_on k vs us path n c (Running known reads) a x = record { due = x.due; going = x.going; passed = passed_on (n ∷ path) vs us (names_of reads) a x.passed }
  phase_on k vs us path n c (Waiting slot known reads) a x =
      (record { due = x.0.due; going = x.0.going; passed = passed_on (n ∷ path) vs us (names_of reads) a x.0.passed }, x.1)

  -- all frames
  frames_on : (k : Memos) (vs us : List Visit) (fs : List Frame) → Adds vs us →
      ((x : ℕ) → is_in x (frame_names fs) ≡ true → is_in x (visited vs) ≡ false → is_in x (visited us) ≡ false) → StackHolds hosts w k vs fs → StackHolds hosts w k us fs
  frames_on k vs us [] a off h = tt
  frames_on k vs us (f ∷ fs) a off h = (
    record {
      computed = h.0.computed;
      stands = h.0.stands;
      off = h.0.off;
      new = off f.name (in_head f.name (frame_names fs)) h.0.new;
      chain = h.0.chain;
      phase = phase_on k vs us (frame_names fs) f.name h.0.computed f.phase a h.0.phase;
    },
    frames_on k vs us fs a (λ x on new. off x (in_tail x f.name (frame_names fs) on) new) h.1,
  )

-- a settling under way
abbrev pub at_point : Memos → List Run → List ℕ → List Frame → List ℕ → Underway
at_point k rs names fs as' = record { memos = k; runs = rs; visited = names; stack = fs; asked = as' }

module _ (hosts : Hosts) (w : Signals) (k0 : Memos) (asked0 : List ℕ) (kept0 : AreKept hosts w k0) where
  -- a computed was passed over: more names are visited, which are clean
  pub record IsPast (k : Memos) (rs : List Run) (names : List ℕ) (s : ℕ) (fs : List Frame) (as' : List ℕ) : Type 0 where
    pub next : List ℕ
    pub holds : Holds hosts w k0 asked0 (at_point k rs next fs as')
    pub more : (x : ℕ) → is_in x names ≡ true → is_in x next ≡ true
    pub only : (x : ℕ) → is_in x next ≡ true → (is_in x names ≡ true) ⊎ (mark_of w k x ≡ Clean)
    pub here : is_in s next ≡ true
    pub steps : all_steps w k0 names ≤ all_steps w k0 next

  pub pass_over : (k : Memos) (rs : List Run) (names : List ℕ) (s : ℕ) (fs : List Frame) (as' : List ℕ) → mark_of w k s ≡ Clean →
      Holds hosts w k0 asked0 (at_point k rs names (new_frame k s ∷ fs) as') → IsPast k rs names s fs as'
  pass_over k rs names s fs as' clean h =
      let start : Settled = record { memos = k0; runs = [] } in
      let vs : List Visit = h.vs in
      let path : List ℕ = frame_names fs in
      let us : List Visit = visit hosts w path s vs in
      let fr : FrameHolds hosts w k vs path (new_frame k s) = h.frames.0 in
      let a : Adds vs us = visit_adds hosts w path s vs in
      let at_k : (settle_visits hosts w vs start).memos ≡ k = ap (λ (z : Settled). z.memos) h.settled in
      let clean' : mark_of w (settle_visits hosts w vs start).memos s ≡ Clean = ap (λ y. mark_of w y s) at_k ∙ clean in
      let sound' : IsSound hosts w (settle_visits hosts w vs start).memos = subst (IsSound hosts w) (sym at_k) h.state.kept.sound in
      let same : settle_visits hosts w us start ≡ record { memos = k; runs = rs } = pass_law hosts w start vs s path sound' clean' fr.chain ∙ h.settled in
      let new : (is_in s path || is_in s (visited vs)) ≡ false = or_none (is_in s path) (is_in s (visited vs)) fr.off fr.new in
      let order : order_after hosts w as' (completed hosts w fs us) ≡ evaluation_order hosts w asked0 =
      ap (λ z. order_after hosts w as' (completed hosts w fs z)) (visit_new hosts w path s fr.computed vs fr.stands new) ∙ h.order in
      let in_names : (x : ℕ) → is_in x names ≡ is_in x (visited vs) = λ x. ap (is_in x) h.seen ∙ seen_is x [] vs in
      let seen : all_steps w k0 (seen_after [] us) ≡ 0 + visit_steps w k0 us = seen_steps w k0 [] us in
      let was : all_steps w k0 names ≡ 0 + visit_steps w k0 vs = ap (all_steps w k0) h.seen ∙ seen_steps w k0 [] vs in
      let grown : visit_steps w k0 us ≡ visit_steps w k0 vs + visit_steps w k0 a.more = ap (visit_steps w k0) a.is ∙ visits_more w k0 vs a.more in
      record {
        next = seen_after [] us;
        holds = record {
          vs = us;
          seen = refl;
          state = subst (λ y. State hosts w y (seen_after [] us)) (ap (λ (z : Settled). z.memos) same)
              (visits_state hosts w [] us start (are_ordered hosts w asked0 as' fs us order) (first_state hosts w k0 kept0));
          settled = same;
          frames = frames_on hosts w k vs us fs a (λ x on off. visit_off hosts w path x s vs on off) h.frames.1;
          order = order;
        };
        more = λ x on. seen_is x [] us ∙ in_adds x vs us a (sym (in_names x) ∙ on);
        only = λ x on. elim (visit_only hosts w (λ y. mark_of w k y ≡ Clean)
            (λ n m c d st cl read std. clean_read hosts w k h.state.kept n m c d st cl read std) path s vs (λ c st. clean) x (sym (seen_is x [] us) ∙ on)) [
              | inl old ↦ inl (in_names x ∙ old)
              | inr fresh ↦ inr fresh
            ];
        here = seen_is s [] us ∙ (λ i. sym fr.off i || is_in s (visited us)) ∙ visit_came hosts w path s vs fr.computed fr.stands;
        steps = omega (arith, seen, was, grown);
      }
