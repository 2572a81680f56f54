-- What changes keep of a journal.
use Rattle.std.proofs.Common.{◌≡◌, ℕ, ◌+◌, ◌<◌, ◌==◌, ◌||◌, ◌&&◌, not, Bool, true, false, List, [], ◌∷◌, Option, Some, None, refl, sym, ap, ◌∙◌, subst, arith, inl, inr}
use Rattle.std.specs.List.{AllByRecursion}
use Rattle.std.proofs.lemmas.Bool.{eqb-true, eq-eqb, ne_eqb}
use Rattle.signal_model.specs.Recipes.{Hosts}
use Rattle.signal_model.specs.Signals.{Signals, is_there, is_in, standing}
use Rattle.signal_model.specs.Memos.{Source, Memo, Entry, Memos, entry_at, has_entry, number_in, memo_in, number_of, memo_of, sources_in, source_names, same_number, differs}
use Rattle.signal_model.specs.Sound.{IsPast, ArePast}
use Rattle.signal_model.specs.Changes.{after_making, raised, after_change, memo_rewired, entry_rewired, after_rewiring, after_disposal}
use Rattle.signal_model.specs.Kept.{AreKept}
use Rattle.signal_model.proofs.Shared.{tested}
use Rattle.signal_laws.proofs.Shared.{entry_there, found_other, found_same, found_out, found_left, found_more, found_new, in_head, in_tail}
use Rattle.effect_model.specs.declared.how.How.{How}
use Rattle.effect_model.specs.declared.how.How.TheVariants.{Set, Rewire, Gone}
use Rattle.why_model.specs.Facts.{Fact, was_changed, Found, last_run, is_rewire, moves}
use Rattle.why_laws.specs.Ties.{comes_after, IsTied, AreTied}
use Rattle.why_laws.specs.WhyLaws.{TiedEmptyLaw, TiedMoreLaw, TiedMakeLaw, TiedSetLaw, TiedRewireLaw, TiedDisposeLaw}
use Rattle.why_laws.proofs.Since.{marked, tied_more}

-- ---- numbers

-- no number that was read before is this one
abbrev pub IsNew : Option ℕ → Option ℕ → Type 0
IsNew old new = (x : Option ℕ) → IsPast x old → not (same_number new x) ≡ true

-- a greater number is new
pub greater_new : (a c : ℕ) → 0 < c → IsNew (Some a) (Some (a + c))
greater_new a c pos None h = cc
greater_new a c pos (Some y) h = ap not (ne_eqb (a + c) y (λ e. omega (arith, h, e, pos)))

-- so is none
pub none_new : (a : ℕ) → IsNew (Some a) None
none_new a None h = cc
none_new a (Some y) h = refl

-- where the other entries stay and the number of n is new, just the sources of that name differ more than before
pub tells_new : (k k' : Memos) (n : ℕ) (s : Source) → ((m : ℕ) → (m == n) ≡ false → entry_at m k'.entries ≡ entry_at m k.entries) →
    IsNew (number_of k n) (number_of k' n) → IsPast s.number (number_of k s.name) → differs k' s ≡ (s.name == n || differs k s)
tells_new k k' n s others new past = go (s.name == n) refl
  where
    go : (b : Bool) → (s.name == n) ≡ b → differs k' s ≡ (b || differs k s)
    go false off = ap (λ x. not (same_number (number_in x) s.number)) (others s.name off)
    go true on =
        let e : s.name ≡ n = eqb-true s.name n on in
        ap (λ x. not (same_number (number_of k' x) s.number)) e ∙ new s.number (subst (λ x. IsPast s.number (number_of k x)) e past)

-- ---- one change of n

module _ (k k' : Memos) (js : List Fact) (n : ℕ) (how : How) where
  -- what a change leaves
  record IsChanged : Type 0 where
    others : (m : ℕ) → (m == n) ≡ false → entry_at m k'.entries ≡ entry_at m k.entries
    new : IsNew (number_of k n) (number_of k' n)
    own : has_entry (entry_at n k'.entries) ≡ true → memo_of k' n ≡ marked (is_rewire how) (memo_of k n)
    had : has_entry (entry_at n k.entries) ≡ true

  -- it keeps the journal with the fact
  change_keeps : (given : ℕ → Bool) → IsChanged → ((m : ℕ) (e : Memo) → memo_of k m ≡ Some e → ArePast k e.sources) → AreTied given k js →
      AreTied given k' (was_changed n how ∷ js)
  change_keeps given c past t = record {
    tied = λ m there. go m (m == n) refl there;
    new = t.new;
  }
    where
      none_marked : (x : Option Memo) → x ≡ marked false x
      none_marked None = refl
      none_marked (Some e) = refl

      go : (m : ℕ) (b : Bool) → (m == n) ≡ b → has_entry (entry_at m k'.entries) ≡ true →
          IsTied k' (was_changed n how ∷ js) m (memo_of k' m) (last_run m (was_changed n how ∷ js))
      go m false off there =
          let same : entry_at m k'.entries ≡ entry_at m k.entries = c.others m off in
          tied_more k k' (was_changed n how) js m false (ap memo_in same ∙ none_marked (memo_of k m)) refl
          (ap (λ x. x && is_rewire how) off) (λ s p. tells_new k k' n s c.others c.new p) (past m)
          (t.tied m (sym (ap has_entry same) ∙ there))
      go m true on there =
          let e : n ≡ m = sym (eqb-true m n on) in
          subst (λ x. IsTied k' (was_changed n how ∷ js) x (memo_of k' x) (last_run x (was_changed n how ∷ js))) e
          (tied_more k k' (was_changed n how) js n (is_rewire how) (c.own (subst (λ x. has_entry (entry_at x k'.entries) ≡ true) (sym e) there)) refl
          (ap (λ x. x && is_rewire how) (eq-eqb n n refl)) (λ s p. tells_new k k' n s c.others c.new p) (past n) (t.tied n c.had))

-- ---- the laws

-- a signal that stands has an entry
had_entry : (hosts : Hosts) (w : Signals) (k : Memos) (n : ℕ) → AreKept hosts w k → is_there (standing w n) ≡ true →
    has_entry (entry_at n k.entries) ≡ true
had_entry hosts w k n kept there = kept.entries.entries n ∙ there

-- a set leaves the memo
pub tied_set_law : TiedSetLaw
tied_set_law hosts given w k js n kept there t =
    let r : (r : Entry) × (entry_at n k.entries ≡ Some r) = entry_there w k n kept.entries there in
    let after : entry_at n (after_change k n).entries ≡ Some (raised r.0) = found_same (λ (e : Entry). e.name) n raised k.entries r.0 (λ q. refl) r.1 in
    change_keeps k (after_change k n) js n Set given (record {
      others = λ m off. found_other (λ (e : Entry). e.name) m n raised k.entries (λ q. refl) off;
      new = subst (λ x. IsNew x (number_of (after_change k n) n)) (sym (ap number_in r.1))
          (subst (IsNew (Some r.0.number)) (sym (ap number_in after)) (greater_new r.0.number 1 (omega arith)));
      own = λ h. ap memo_in after ∙ plain r.0.memo ∙ ap (marked false) (sym (ap memo_in r.1));
      had = had_entry hosts w k n kept there;
    }) kept.sound.past t
  where
    plain : (x : Option Memo) → x ≡ marked false x
    plain None = refl
    plain (Some e) = refl

-- a rewiring marks it
pub tied_rewire_law : TiedRewireLaw
tied_rewire_law hosts given w k js n kept there t =
    let r : (r : Entry) × (entry_at n k.entries ≡ Some r) = entry_there w k n kept.entries there in
    let after : entry_at n (after_rewiring k n).entries ≡ Some (entry_rewired r.0) = found_same (λ (e : Entry). e.name) n entry_rewired k.entries r.0 (λ q. refl) r.1 in
    change_keeps k (after_rewiring k n) js n Rewire given (record {
      others = λ m off. found_other (λ (e : Entry). e.name) m n entry_rewired k.entries (λ q. refl) off;
      new = subst (λ x. IsNew x (number_of (after_rewiring k n) n)) (sym (ap number_in r.1))
          (subst (IsNew (Some r.0.number)) (sym (ap number_in after)) (greater_new r.0.number 1 (omega arith)));
      own = λ h. ap memo_in after ∙ mark r.0.memo ∙ ap (marked true) (sym (ap memo_in r.1));
      had = had_entry hosts w k n kept there;
    }) kept.sound.past t
  where
    mark : (x : Option Memo) → memo_rewired x ≡ marked true x
    mark None = refl
    mark (Some e) = refl

-- a disposal takes it
pub tied_dispose_law : TiedDisposeLaw
tied_dispose_law hosts given w k js n kept there t =
    let r : (r : Entry) × (entry_at n k.entries ≡ Some r) = entry_there w k n kept.entries there in
    let out : entry_at n (after_disposal k n).entries ≡ None = found_out (λ (e : Entry). e.name) n k.entries in
    change_keeps k (after_disposal k n) js n Gone given (record {
      others = λ m off. found_left (λ (e : Entry). e.name) m n k.entries off;
      new = subst (λ x. IsNew x (number_of (after_disposal k n) n)) (sym (ap number_in r.1))
          (subst (IsNew (Some r.0.number)) (sym (ap number_in out)) (none_new r.0.number));
      own = λ h. absurd (gone h);
      had = had_entry hosts w k n kept there;
    }) kept.sound.past t
  where
    gone : has_entry (entry_at n (after_disposal k n).entries) ≡ true → ⊥
    gone h = let q : has_entry None ≡ true = sym (ap has_entry (found_out (λ (e : Entry). e.name) n k.entries)) ∙ h in cc

-- nothing is kept of nothing
pub tied_empty_law : TiedEmptyLaw
tied_empty_law given = record { tied = λ n h. cc; new = λ n h. refl }

-- what was not given later wasn't given before
pub tied_more_law : TiedMoreLaw
tied_more_law before after k js stay t = record {
  tied = t.tied;
  new = λ n off. elim (tested (before n)) [
    | inr e ↦ t.new n e
    | inl e ↦ (let q : true ≡ false = sym (stay n e) ∙ off in cc)
  ];
}

-- where the sources differ as before, the memo is that of the run
sources_same : (k k' : Memos) (js : List Fact) (i : ℕ) (ss : List Source) →
    ((s : Source) → is_in s.name (source_names ss) ≡ true → differs k' s ≡ differs k s) →
    AllByRecursion (λ (s : Source). comes_after i (moves s.name) js ≡ differs k s) ss →
    AllByRecursion (λ (s : Source). comes_after i (moves s.name) js ≡ differs k' s) ss
sources_same k k' js i [] f h = tt
sources_same k k' js i (s ∷ ss) f h = (
  h.0 ∙ sym (f s (in_head s.name (source_names ss))),
  sources_same k k' js i ss (λ x i. f x (in_tail x.name s.name (source_names ss) i)) h.1,
)

tied_same : (k k' : Memos) (js : List Fact) (n : ℕ) (x : Option Memo) (y : Option Found) →
    ((s : Source) → is_in s.name (source_names (sources_in x)) ≡ true → differs k' s ≡ differs k s) → IsTied k js n x y → IsTied k' js n x y
tied_same k k' js n None None f h = h
tied_same k k' js n None (Some p) f h = h
tied_same k k' js n (Some m) None f h = h
tied_same k k' js n (Some m) (Some p) f h = record {
  outcome = h.outcome;
  reads = h.reads;
  rewired = h.rewired;
  moved = λ fine. sources_same k k' js p.number m.sources f (h.moved fine);
}

-- a making adds an entry, that no source names
pub tied_make_law : TiedMakeLaw
tied_make_law hosts given w k js n kept names off t = record {
  tied = λ m there. go m (m == n) refl there;
  new = t.new;
}
  where
    none_at : (x : Option Entry) → entry_at n k.entries ≡ x → x ≡ None
    none_at None e = refl
    none_at (Some r) e =
        let there : is_there (standing w n) ≡ true = sym (kept.entries.entries n) ∙ ap has_entry e in
        let q : true ≡ false = sym (names.names n there) ∙ off in
        cc

    none : entry_at n k.entries ≡ None
    none = none_at (entry_at n k.entries) refl

    -- what a memo keeps has the number that it had
    same : (s : Source) → given s.name ≡ true → differs (after_making k n) s ≡ differs k s
    same s was = by (s.name == n) refl
      where
        by : (b : Bool) → (s.name == n) ≡ b → differs (after_making k n) s ≡ differs k s
        by false e = ap (λ x. not (same_number (number_in x) s.number)) (found_more (λ (e : Entry). e.name) s.name k.entries (record { name = n; number = 0; memo = None }) e)
        by true e = let q : true ≡ false = sym was ∙ ap given (eqb-true s.name n e) ∙ off in cc

    go : (m : ℕ) (b : Bool) → (m == n) ≡ b → has_entry (entry_at m (after_making k n).entries) ≡ true →
        IsTied (after_making k n) js m (memo_of (after_making k n) m) (last_run m js)
    go m false e there =
        let as_was : entry_at m (after_making k n).entries ≡ entry_at m k.entries = found_more (λ (e : Entry). e.name) m k.entries (record { name = n; number = 0; memo = None }) e in
        subst (λ x. IsTied (after_making k n) js m x (last_run m js)) (sym (ap memo_in as_was))
        (tied_same k (after_making k n) js m (memo_of k m) (last_run m js) (λ s i. same s (names.sources m s.name i))
        (t.tied m (sym (ap has_entry as_was) ∙ there)))
    go m true e there =
        let own : memo_of (after_making k n) n ≡ None = ap memo_in (found_new (λ (e : Entry). e.name) k.entries (record { name = n; number = 0; memo = None }) none) in
        let q : n ≡ m = sym (eqb-true m n e) in
        subst (λ x. IsTied (after_making k n) js x (memo_of (after_making k n) x) (last_run x js)) q
        (subst (λ x. IsTied (after_making k n) js n x (last_run n js)) (sym own)
        (subst (λ y. IsTied (after_making k n) js n None y) (sym (t.new n off)) tt))
