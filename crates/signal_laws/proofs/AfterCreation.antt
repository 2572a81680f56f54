-- A making keeps memos sound.
use Rattle.std.proofs.Common.{◌≡◌, ℕ, zero, suc, ◌<◌, ◌≤◌, ◌==◌, not, Bool, true, false, List, [], ◌∷◌, Option, Some, None, length, refl}
use Rattle.std.proofs.Common.{sym, ap, ◌∙◌, subst, arith, ◌⊎◌, inl, inr}
use Rattle.std.specs.Prelude.{slice_index}
use Rattle.std.proofs.lemmas.Bool.{eqb-true, eq-eqb}
use Rattle.sig_base.specs.declared.value.Value.{Value}
use Rattle.sig_base.specs.declared.value.Fault.TheVariants.{Gone}
use Rattle.sig_base.specs.declared.value.Outcome.{Outcome}
use Rattle.sig_base.specs.declared.value.Outcome.TheVariants.{Good, Bad}
use Rattle.sig_base.specs.declared.value.Step.{Step}
use Rattle.sig_base.specs.declared.value.Step.TheVariants.{Read, Done, Fail}
use Rattle.sig_base.specs.declared.value.Known.{Known}
use Rattle.signal_model.specs.Recipes.{Hosts, Recipe, recipe_answer}
use Rattle.signal_model.specs.Signals.{Signals, Computed, Cell, Stands, IsGone, IsCell, IsComputed, is_computed, is_in, standing, cell_at}
use Rattle.signal_model.specs.Signals.{computed_at, or_computed}
use Rattle.signal_model.specs.Values.{Evaluation, learnt, read_first, after_read, after_step, asked_within, unknown_slots, value_of, evaluated}
use Rattle.signal_model.specs.Values.{reads_of, names_left}
use Rattle.signal_model.specs.Memos.{Source, Memo, Entry, Memos, entry_at, number_in, memo_in, sources_in, number_of, memo_of, source_names}
use Rattle.signal_model.specs.Memos.{same_number}
use Rattle.signal_model.specs.Sound.{outcome_here, IsPast, ArePast, names_of}
use Rattle.signal_model.specs.Changes.{with_cell, with_computed, after_making}
use Rattle.signal_model.proofs.Shared.{is_cycle-true, left_less, value_run, value_in, value_gone, value_cell, tested}
use Rattle.signal_model.specs.Kept.{HaveEntries, AreKept, AreGiven}
use Rattle.signal_model.specs.Signals.{is_there}
use Rattle.signal_model.specs.Memos.{has_entry}
use Rattle.signal_laws.specs.ChangeLaws.{CellLaw, ComputedLaw}
use Rattle.signal_laws.proofs.AfterChange.{AllStay, change_keeps, same_memo}
use Rattle.signal_laws.proofs.LookUps.{found_more, found_new}
use Rattle.signal_laws.proofs.FailedTests.{or_fst, or_snd}

-- ---- what is read of a name that is gone, and its fault

-- whether it is the fault gone
abbrev is_gone : Outcome → Bool
is_gone (Bad Gone) = true
is_gone _ = false

-- the first ends with the fault gone, or both are one
abbrev OrGone : Evaluation → Evaluation → Type 0
OrGone a b = (is_gone a.outcome ≡ true) ⊎ (a ≡ b)

-- after one read with one outcome
read_same : (m : ℕ) (a : Outcome) (F G : Value → Evaluation) → ((v : Value) → OrGone (F v) (G v)) → OrGone (after_read m a F) (after_read m a G)
read_same m (Bad x) F G k = inr refl
read_same m (Good v) F G k = elim (k v) [ inl c ↦ inl c | inr e ↦ inr (ap (read_first (record { name = m; outcome = Good v })) e) ]

-- a read that is gone ends with gone
read_gone : (m : ℕ) (a : Outcome) (F : Value → Evaluation) → is_gone a ≡ true → is_gone (after_read m a F).outcome ≡ true
read_gone m (Bad x) F c = c
read_gone m (Good v) F c = cc

-- after one read
read_or : (m : ℕ) (a b : Outcome) (F G : Value → Evaluation) → (is_gone a ≡ true) ⊎ (a ≡ b) → ((v : Value) → OrGone (F v) (G v)) →
    OrGone (after_read m a F) (after_read m b G)
read_or m a b F G (inl c) k = inl (read_gone m a F c)
read_or m a b F G (inr e) k = subst (λ x. OrGone (after_read m a F) (after_read m x G)) e (read_same m a F G k)

-- after one answer
step_or : (st : Step) (slots : List ℕ) (f g : ℕ → Outcome) (F G : ℕ → Value → Evaluation) → ((m : ℕ) → (is_gone (f m) ≡ true) ⊎ (f m ≡ g m)) →
    ((s : ℕ) (v : Value) → OrGone (F s v) (G s v)) → OrGone (after_step st slots f F) (after_step st slots g G)
step_or (Done v) slots f g F G h k = inr refl
step_or (Fail x) slots f g F G h k = inr refl
step_or (Read s) slots f g F G h k = read_or (slice_index slots s) (f (slice_index slots s)) (g (slice_index slots s)) (F s) (G s)
    (h (slice_index slots s)) (k s)

-- and of a whole evaluation
asked_or : (t : ℕ) (hosts : Hosts) (r : Recipe) (f g : ℕ → Outcome) → ((m : ℕ) → (is_gone (f m) ≡ true) ⊎ (f m ≡ g m)) → (known : List Known) →
    OrGone (asked_within t hosts r f known) (asked_within t hosts r g known)
asked_or zero hosts r f g h known = inr refl
asked_or (suc t) hosts r f g h known =
    step_or (recipe_answer hosts r known) r.slots f g (λ s v. asked_within t hosts r f (learnt known s v))
    (λ s v. asked_within t hosts r g (learnt known s v)) h
    (λ s v. asked_or t hosts r f g h (learnt known s v))

-- one name stands that didn't
record IsMore (w w' : Signals) (n : ℕ) : Type 0 where
  gone : standing w n ≡ IsGone
  here : is_there (standing w' n) ≡ true
  other : (m : ℕ) → (m == n) ≡ false → standing w' m ≡ standing w m

-- what stood stands
same_standing : (w w' : Signals) (n m : ℕ) (s : Stands) → IsMore w w' n → standing w m ≡ s → (s ≡ IsGone → ⊥) → standing w' m ≡ s
same_standing w w' n m s x e there = elim (tested (m == n)) [
  | inr off ↦ x.other m off ∙ e
  | inl on ↦ absurd (there (sym e ∙ ap (standing w) (eqb-true m n on) ∙ x.gone))
]

module _ (hosts : Hosts) (w w' : Signals) (n : ℕ) where
  -- a value is as before, or gone before
  more_value : (d : ℕ) (m : ℕ) (path : List ℕ) → IsMore w w' n → names_left w.computeds path < d →
      (is_gone (value_of hosts w m path) ≡ true) ⊎ (value_of hosts w m path ≡ value_of hosts w' m path)
  more_value zero m path x lt = absurd (omega arith)
  more_value (suc d) m path x lt = go (standing w m) refl (λ j q less. more_value d j q x less)
    where
      go : (s : Stands) → standing w m ≡ s →
          ((j : ℕ) (q : List ℕ) → names_left w.computeds q < d →
          (is_gone (value_of hosts w j q) ≡ true) ⊎ (value_of hosts w j q ≡ value_of hosts w' j q)) →
          (is_gone (value_of hosts w m path) ≡ true) ⊎ (value_of hosts w m path ≡ value_of hosts w' m path)
      go IsGone e f = inl (ap is_gone (value_gone hosts w m path e))
      go (IsCell c) e f = inr (value_cell hosts w m path c e ∙ sym (value_cell hosts w' m path c (same_standing w w' n m (IsCell c) x e (λ q. cc q))))
      go (IsComputed c) e f =
          let e' : standing w' m ≡ IsComputed c = same_standing w w' n m (IsComputed c) x e (λ q. cc q) in
          elim (tested (is_in m path)) [
            | inl on ↦ inr (value_in hosts w m path c e on ∙ sym (value_in hosts w' m path c e' on))
            | inr off ↦
                let less : names_left w.computeds (c.name ∷ path) < d = omega (arith, left_less hosts w m path c e off) in
                let o : OrGone (evaluated hosts w c path) (evaluated hosts w' c path) =
                asked_or (suc (unknown_slots (length c.recipe.slots) [])) hosts c.recipe (λ j. value_of hosts w j (c.name ∷ path))
                (λ j. value_of hosts w' j (c.name ∷ path)) (λ j. f j (c.name ∷ path) less) [] in
                let was : value_of hosts w m path ≡ (evaluated hosts w c path).outcome = value_run hosts w m path c e off in
                let is : value_of hosts w' m path ≡ (evaluated hosts w' c path).outcome = value_run hosts w' m path c e' off in
                elim o [ inl g ↦ inl (ap is_gone was ∙ g) | inr same ↦ inr (was ∙ ap (λ (r : Evaluation). r.outcome) same ∙ sym is) ]
          ]

  -- an evaluation is as before, or it ended with gone
  more_evaluated : (c : Computed) → IsMore w w' n → OrGone (evaluated hosts w c []) (evaluated hosts w' c [])
  more_evaluated c x =
      let lt : names_left w.computeds (c.name ∷ []) < suc (names_left w.computeds (c.name ∷ [])) = omega arith in
      asked_or (suc (unknown_slots (length c.recipe.slots) [])) hosts c.recipe (λ j. value_of hosts w j (c.name ∷ []))
      (λ j. value_of hosts w' j (c.name ∷ []))
      (λ j. more_value (suc (names_left w.computeds (c.name ∷ []))) j (c.name ∷ []) x lt) []

-- ---- the entries

-- a name that is nobody's: nothing stands under it, it has no entry, and no run has read it
record IsUnused (w : Signals) (k : Memos) (n : ℕ) : Type 0 where
  gone : standing w n ≡ IsGone
  entry : entry_at n k.entries ≡ None
  unread : (m : ℕ) (memo : Memo) → memo_of k m ≡ Some memo → is_in n (source_names memo.sources) ≡ false

-- what wasn't given is nobody's
not_given : (given : ℕ → Bool) (w : Signals) (k : Memos) (n : ℕ) → AreGiven given w k → HaveEntries w k → given n ≡ false → IsUnused w k n
not_given given w k n g h off =
    let away : is_there (standing w n) ≡ false = elim (tested (is_there (standing w n))) [ inr z ↦ z | inl z ↦ cc (sym off ∙ g.names n z) ] in
    record {
      gone = gone_is (standing w n) away;
      entry = none_is (entry_at n k.entries) (h.entries n ∙ away);
      unread = λ m e at. elim (tested (is_in n (source_names e.sources))) [
        | inr z ↦ z
        | inl z ↦ cc (sym off ∙ g.sources m n (ap (λ x. is_in n (source_names (sources_in x))) at ∙ z))
      ];
    }
  where
    gone_is : (x : Stands) → is_there x ≡ false → x ≡ IsGone
    gone_is IsGone e = refl
    gone_is (IsCell c) e = cc
    gone_is (IsComputed c) e = cc

    none_is : (x : Option Entry) → has_entry x ≡ false → x ≡ None
    none_is None e = refl
    none_is (Some r) e = cc

-- what no run has read stays
unread_stay : (w w' : Signals) (k : Memos) (n : ℕ) (ss : List Source) → IsMore w w' n → is_in n (source_names ss) ≡ false →
    AllStay w k w' (after_making k n) ss
unread_stay w w' k n [] x h = tt
unread_stay w w' k n (s ∷ ss) x h =
    let off : (n == s.name) ≡ false = or_fst (n == s.name) (is_in n (source_names ss)) h in
    let off' : (s.name == n) ≡ false =
    elim (tested (s.name == n)) [ inr z ↦ z | inl z ↦ cc (sym off ∙ eq-eqb n s.name (sym (eqb-true s.name n z))) ] in
    let a : entry_at s.name (after_making k n).entries ≡ entry_at s.name k.entries =
    found_more (λ (e : Entry). e.name) s.name k.entries (record { name = n; number = 0; memo = None }) off' in
    let o : standing w' s.name ≡ standing w s.name = x.other s.name off' in (
      inr (ap (λ y. not (same_number (number_in y) s.number)) a, (λ i. outcome_here (o i) (memo_in (a i)))),
      unread_stay w w' k n ss x (or_snd (n == s.name) (is_in n (source_names ss)) h),
    )

-- and is past still
unread_past : (k : Memos) (n : ℕ) (ss : List Source) → is_in n (source_names ss) ≡ false → ArePast k ss → ArePast (after_making k n) ss
unread_past k n [] h p = tt
unread_past k n (s ∷ ss) h p =
    let off : (n == s.name) ≡ false = or_fst (n == s.name) (is_in n (source_names ss)) h in
    let off' : (s.name == n) ≡ false =
    elim (tested (s.name == n)) [ inr z ↦ z | inl z ↦ cc (sym off ∙ eq-eqb n s.name (sym (eqb-true s.name n z))) ] in
    let a : number_of (after_making k n) s.name ≡ number_of k s.name =
    ap number_in (found_more (λ (e : Entry). e.name) s.name k.entries (record { name = n; number = 0; memo = None }) off') in
    (subst (IsPast s.number) (sym a) p.0, unread_past k n ss (or_snd (n == s.name) (is_in n (source_names ss)) h) p.1)

-- the making of anything under a name that wasn't given keeps memos sound
making_keeps : (hosts : Hosts) (w w' : Signals) (k : Memos) (n : ℕ) → IsMore w w' n → IsUnused w k n → AreKept hosts w k →
    AreKept hosts w' (after_making k n)
making_keeps hosts w w' k n x new kept =
    let k' : Memos = after_making k n in
    let e0 : Entry = record { name = n; number = 0; memo = None } in
    let mine : entry_at n k'.entries ≡ Some e0 = found_new (λ (e : Entry). e.name) k.entries e0 new.entry in
    let le : k.generation ≤ k.generation = omega arith in
    let off : (m : ℕ) (e : Memo) → memo_of k' m ≡ Some e → (m == n) ≡ false = λ m e q. elim (tested (m == n)) [
      | inr z ↦ z
      | inl z ↦ let none : memo_of k' m ≡ None = ap (memo_of k') (eqb-true m n z) ∙ ap memo_in mine in cc (sym none ∙ q)
    ] in
    let old : (m : ℕ) (e : Memo) → memo_of k' m ≡ Some e →
    memo_of k m ≡ Some e = λ m e q. sym (ap memo_in (found_more (λ (e : Entry). e.name) m k.entries e0 (off m e q))) ∙ q in
    let back : (m : ℕ) (c : Computed) (e : Memo) → standing w' m ≡ IsComputed c → memo_of k' m ≡ Some e →
    standing w m ≡ IsComputed c = λ m c e st q. sym (x.other m (off m e q)) ∙ st in
    record {
      sound = change_keeps hosts w k w' k' (record {
        cycles = λ m c e st q cy gen.
            let st0 : standing w m ≡ IsComputed c = back m c e st q in
            let t : (value_of hosts w m [] ≡ e.outcome) × (source_names e.sources ≡ names_of (reads_of hosts w c)) =
            kept.sound.cycles m c e st0 (old m e q) cy gen in
            let was : value_of hosts w m [] ≡ (evaluated hosts w c []).outcome = value_run hosts w m [] c st0 refl in
            let is : value_of hosts w' m [] ≡ (evaluated hosts w' c []).outcome = value_run hosts w' m [] c st refl in
            let not_gone : is_gone (evaluated hosts w c []).outcome ≡ false = ap is_gone (sym was ∙ t.0 ∙ is_cycle-true e.outcome cy) in
            let same : evaluated hosts w c [] ≡ evaluated hosts w' c [] =
            elim (more_evaluated hosts w w' n c x) [ inl g ↦ cc (sym not_gone ∙ g) | inr s ↦ s ] in
            (is ∙ ap (λ (r : Evaluation). r.outcome) (sym same) ∙ sym was ∙ t.0, t.1 ∙ ap (λ (r : Evaluation). names_of r.reads) same);
        later = le;
        before = λ m e q. same_memo e k m (Some e) (old m e q) refl;
        kind = λ m c e st q. (c, back m c e st q);
        same = λ m c e st q z. back m c e st q;
        stay = λ m e q. unread_stay w w' k n e.sources x (new.unread m e q);
        past = λ m e q. unread_past k n e.sources (new.unread m e q) (kept.sound.past m e q);
      }) kept.sound;
      entries = record {
        entries = λ m. elim (tested (m == n)) [
          | inr z ↦ ap has_entry (found_more (λ (e : Entry). e.name) m k.entries e0 z) ∙ kept.entries.entries m ∙ ap is_there (sym (x.other m z))
          | inl z ↦
              let e : m ≡ n = eqb-true m n z in
              ap (λ j. has_entry (entry_at j k'.entries)) e ∙ ap has_entry mine ∙ sym x.here ∙ ap (λ j. is_there (standing w' j)) (sym e)
        ];
        memos = λ m e q. ap is_computed (x.other m (off m e q)) ∙ kept.entries.memos m e (old m e q);
      };
    }

-- no cell is what is gone
no_cell : (x : Option Cell) (y : Option Computed) → or_computed x y ≡ IsGone → x ≡ None
no_cell None y h = refl
no_cell (Some c) y h = cc

-- and no computed
no_computed : (x : Option Cell) (y : Option Computed) → or_computed x y ≡ IsGone → y ≡ None
no_computed None None h = refl
no_computed None (Some c) h = cc
no_computed (Some c) y h = cc

-- a cell more stands
cell_made : (w : Signals) (c : Cell) → standing w c.name ≡ IsGone → IsMore w (with_cell w c) c.name
cell_made w c gone = record {
  gone = gone;
  here = ap (λ x. is_there (or_computed x (computed_at c.name w.computeds)))
      (found_new (λ (c : Cell). c.name) w.cells c (no_cell (cell_at c.name w.cells) (computed_at c.name w.computeds) gone));
  other = λ m off. ap (λ x. or_computed x (computed_at m w.computeds)) (found_more (λ (c : Cell). c.name) m w.cells c off);
}

-- a computed more stands
computed_made : (w : Signals) (c : Computed) → standing w c.name ≡ IsGone → IsMore w (with_computed w c) c.name
computed_made w c gone = record {
  gone = gone;
  here =
      let a : cell_at c.name w.cells ≡ None = no_cell (cell_at c.name w.cells) (computed_at c.name w.computeds) gone in
      let b : computed_at c.name (with_computed w c).computeds ≡ Some c =
      found_new (λ (c : Computed). c.name) w.computeds c (no_computed (cell_at c.name w.cells) (computed_at c.name w.computeds) gone) in
      (λ i. is_there (or_computed (a i) (b i)));
  other = λ m off. ap (λ x. or_computed (cell_at m w.cells) x) (found_more (λ (c : Computed). c.name) m w.computeds c off);
}

-- the making of a cell keeps memos sound
pub cell_law : CellLaw
cell_law hosts given w k c names off kept =
    let new : IsUnused w k c.name = not_given given w k c.name names kept.entries off in
    making_keeps hosts w (with_cell w c) k c.name (cell_made w c new.gone) new kept

-- the making of a computed keeps memos sound
pub computed_law : ComputedLaw
computed_law hosts given w k c names off kept =
    let new : IsUnused w k c.name = not_given given w k c.name names kept.entries off in
    making_keeps hosts w (with_computed w c) k c.name (computed_made w c new.gone) new kept
