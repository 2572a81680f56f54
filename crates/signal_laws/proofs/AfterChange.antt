-- A change keeps memos sound.
use Rattle.std.proofs.Common.{◌≡◌, ℕ, ◌+◌, ◌<◌, ◌≤◌, ◌==◌, ◌||◌, not, Bool, true, false, cond, List, [], ◌∷◌, Option, Some, None, option_map, refl}
use Rattle.std.proofs.Common.{sym, ap, ◌∙◌, subst, arith, ◌⊎◌, inl, inr}
use Rattle.std.proofs.lemmas.Bool.{eqb-true}
use Rattle.std.proofs.lemmas.Bool.Decides.{nat_tests}
use Rattle.sig_base.specs.declared.value.Value.{Value}
use Rattle.sig_base.specs.declared.value.Outcome.{Outcome}
use Rattle.sig_base.specs.declared.value.Outcome.TheVariants.{Good, Bad}
use Rattle.sig_base.specs.declared.value.Known.{Known}
use Rattle.signal_model.specs.Recipes.{Hosts, Recipe}
use Rattle.signal_model.specs.Signals.{Signals, Computed, Cell, Stands, IsComputed, is_in, is_computed, standing, changed, cell_at}
use Rattle.signal_model.specs.Signals.{computed_at, or_computed}
use Rattle.signal_model.specs.Values.{learnt, value_of, reads_of}
use Rattle.signal_model.specs.Memos.{Source, Memo, Entry, Memos, entry_at, number_in, memo_in, number_of, memo_of, source_names, same_number}
use Rattle.signal_model.specs.Memos.{is_cycle, differs, some_moved, must_run_by, must_run}
use Rattle.signal_model.specs.Sound.{outcome_here, standing_outcome, AfterSource, Unless, Follows, IsPast, ArePast, names_of, Keeps, IsKeptPath}
use Rattle.signal_model.specs.Sound.{IsSound}
use Rattle.signal_model.specs.Changes.{no_signals, no_memos, with_value, raised, after_change, with_recipe, memo_rewired, entry_rewired}
use Rattle.signal_model.specs.Changes.{after_rewiring, without_signal, after_disposal}
use Rattle.signal_model.proofs.Shared.{tested}
use Rattle.signal_model.specs.Kept.{HaveEntries}
use Rattle.signal_model.specs.Signals.{is_there}
use Rattle.signal_model.specs.Memos.{has_entry}
use Rattle.signal_laws.specs.ChangeLaws.{NoMemosLaw, EmptyLaw, SetLaw, RewireLaw, DisposeLaw}
use Rattle.signal_laws.proofs.LookUps.{found_changed, found_other, found_same, found_out, found_left}
use Rattle.signal_laws.proofs.FailedTests.{or_fst, or_snd, not_false}

-- one memo is no other
pub some_is : (x y : Memo) → Some x ≡ Some y → x ≡ y
some_is x y e = cc

-- a computed that needn't run along a path
pub record CalmOn (k : Memos) (n : ℕ) (path : List ℕ) : Type 0 where
  pub memo : Memo
  pub at : memo_of k n ≡ Some memo
  pub case : ((is_cycle memo.outcome ≡ true) × (memo.generation ≡ k.generation))
      ⊎ ((is_cycle memo.outcome ≡ false) × (memo.rewired ≡ false) × (some_moved k path memo.sources ≡ false))

-- what it is that needn't run
pub calm_on : (k : Memos) (n : ℕ) (path : List ℕ) → must_run k n path ≡ false → CalmOn k n path
calm_on k n path h = go (memo_of k n) refl h
  where
    go : (x : Option Memo) → memo_of k n ≡ x → must_run_by k x path ≡ false → CalmOn k n path
    go None e q = cc
    go (Some e) at q = by (is_cycle e.outcome) refl q
      where
        by : (b : Bool) → is_cycle e.outcome ≡ b → cond b (not (e.generation == k.generation)) (e.rewired || some_moved k path e.sources) ≡ false →
            CalmOn k n path
        by true z y = record { memo = e; at = at; case = inl (z, eqb-true e.generation k.generation (not_false (e.generation == k.generation) y)) }
        by false z y = record {
          memo = e;
          at = at;
          case =
              inr (z, or_fst e.rewired (some_moved k path e.sources) y, or_snd e.rewired (some_moved k path e.sources) y);
        }

-- a computed that needn't run while nothing is being evaluated
abbrev pub Calm : Memos → ℕ → Type 0
Calm k n = CalmOn k n []

-- and it is one
pub calm_of : (k : Memos) (n : ℕ) → must_run k n [] ≡ false → Calm k n
calm_of k n h = calm_on k n [] h

-- a source differs now, or it stands as before
abbrev pub Stays : Signals → Memos → Signals → Memos → Source → Type 0
Stays w k w' k' s = (differs k' s ≡ true) ⊎ ((differs k' s ≡ differs k s) × (standing_outcome w' k' s.name ≡ standing_outcome w k s.name))

-- each of the sources does
abbrev pub AllStay : Signals → Memos → Signals → Memos → List Source → Type 0
AllStay w k w' k' [] = Unit {0}
AllStay w k w' k' (s ∷ ss) = Stays w k w' k' s × AllStay w k w' k' ss

-- the memo before, but for the mark of a rewiring
pub record Before (k : Memos) (n : ℕ) (m' : Memo) : Type 0 where
  pub memo : Memo
  pub at : memo_of k n ≡ Some memo
  pub outcome : memo.outcome ≡ m'.outcome
  pub sources : memo.sources ≡ m'.sources
  pub generation : memo.generation ≡ m'.generation
  pub rewired : m'.rewired ≡ false → memo.rewired ≡ false

-- what a change of the signals leaves of the memos
pub record IsChange (hosts : Hosts) (w : Signals) (k : Memos) (w' : Signals) (k' : Memos) : Type 0 where
  pub cycles : (n : ℕ) (c : Computed) (m : Memo) → standing w' n ≡ IsComputed c → memo_of k' n ≡ Some m → is_cycle m.outcome ≡ true →
      m.generation ≡ k'.generation →
      (value_of hosts w' n [] ≡ m.outcome) × (source_names m.sources ≡ names_of (reads_of hosts w' c))
  pub later : k.generation ≤ k'.generation
  pub before : (m : ℕ) (e' : Memo) → memo_of k' m ≡ Some e' → Before k m e'
  pub kind : (m : ℕ) (c : Computed) (e' : Memo) → standing w' m ≡ IsComputed c → memo_of k' m ≡ Some e' →
      (d : Computed) × (standing w m ≡ IsComputed d)
  pub same : (m : ℕ) (c : Computed) (e' : Memo) → standing w' m ≡ IsComputed c → memo_of k' m ≡ Some e' → e'.rewired ≡ false →
      standing w m ≡ IsComputed c
  pub stay : (m : ℕ) (e : Memo) → memo_of k m ≡ Some e → AllStay w k w' k' e.sources
  pub past : (m : ℕ) (e : Memo) → memo_of k m ≡ Some e → ArePast k' e.sources

-- after a source the rest lasts
after_source : (hosts : Hosts) (w : Signals) (k : Memos) (w' : Signals) (k' : Memos) (r : Recipe) (o : Outcome) (x : Option Outcome) (slot : ℕ)
    (known : List Known) (ss : List Source) →
    ((v : Value) → Follows hosts w k r o (learnt known slot v) ss → Follows hosts w' k' r o (learnt known slot v) ss) →
    AfterSource x ss o (λ v. Follows hosts w k r o (learnt known slot v) ss) →
    AfterSource x ss o (λ v. Follows hosts w' k' r o (learnt known slot v) ss)
after_source hosts w k w' k' r o None slot known ss f h = h
after_source hosts w k w' k' r o (Some (Good v)) slot known ss f h = f v h
after_source hosts w k w' k' r o (Some (Bad x)) slot known ss f h = h

-- what sources say lasts where each stays
pub follows_on : (hosts : Hosts) (w : Signals) (k : Memos) (w' : Signals) (k' : Memos) (r : Recipe) (o : Outcome) (known : List Known)
    (ss : List Source) → AllStay w k w' k' ss → Follows hosts w k r o known ss → Follows hosts w' k' r o known ss
follows_on hosts w k w' k' r o known [] st f = f
follows_on hosts w k w' k' r o known (s ∷ ss) st f = (
  f.0,
  f.1,
  f.2,
  elim st.0 [
    | inl now ↦ subst (λ b. Unless b (AfterSource (standing_outcome w' k' s.name) ss o (λ v. Follows hosts w' k' r o (learnt known f.0 v) ss)))
        (sym now) tt
    | inr same ↦
        subst (λ b. Unless b (AfterSource (standing_outcome w' k' s.name) ss o (λ v. Follows hosts w' k' r o (learnt known f.0 v) ss))) (sym same.0)
        (go (differs k s) f.3 (λ h. subst (λ x. AfterSource x ss o (λ v. Follows hosts w' k' r o (learnt known f.0 v) ss)) (sym same.1)
        (after_source hosts w k w' k' r o (standing_outcome w k s.name) f.0 known ss
        (λ v g. follows_on hosts w k w' k' r o (learnt known f.0 v) ss st.1 g) h)))
  ],
)
  where
    go : {P Q : Type 0} (b : Bool) → Unless b P → (P → Q) → Unless b Q
    go true h g = tt
    go false h g = g h

-- what doesn't differ after the change didn't before
pub moved_back : (w : Signals) (k : Memos) (w' : Signals) (k' : Memos) (ss : List Source) → AllStay w k w' k' ss → some_moved k' [] ss ≡ false →
    some_moved k [] ss ≡ false
moved_back w k w' k' [] st h = refl
moved_back w k w' k' (s ∷ ss) st h =
    let now : differs k' s ≡ false = or_fst (differs k' s) false (or_fst (differs k' s || false) (some_moved k' [] ss) h) in
    let was : differs k s ≡ false = elim st.0 [ inl d ↦ cc (sym d ∙ now) | inr e ↦ sym e.0 ∙ now ] in
    let rest : some_moved k [] ss ≡ false = moved_back w k w' k' ss st.1 (or_snd (differs k' s || false) (some_moved k' [] ss) h) in
    (λ i. (was i || false) || rest i)

module _ (hosts : Hosts) (w : Signals) (k : Memos) (w' : Signals) (k' : Memos) where
  -- what needn't run after the change needn't before
  calm_back : (n : ℕ) (e' : Memo) → IsChange hosts w k w' k' → memo_of k' n ≡ Some e' → is_cycle e'.outcome ≡ false → must_run k' n [] ≡ false →
      must_run k n [] ≡ false
  calm_back n e' ch at fine h = go (calm_of k' n h)
    where
      b : Before k n e'
      b = ch.before n e' at

      go : Calm k' n → must_run k n [] ≡ false
      go q =
          let is : q.memo ≡ e' = some_is q.memo e' (sym q.at ∙ at) in
          elim q.case [
            | inl cy ↦ cc (sym (ap (λ (x : Memo). is_cycle x.outcome) is ∙ fine) ∙ cy.0)
            | inr ok ↦
                let rw0 : b.memo.rewired ≡ false = b.rewired (sym (ap (λ (x : Memo). x.rewired) is) ∙ ok.1) in
                let mv : some_moved k [] b.memo.sources ≡ false =
                moved_back w k w' k' b.memo.sources (ch.stay n b.memo b.at)
                (ap (some_moved k' []) (b.sources ∙ sym (ap (λ (x : Memo). x.sources) is)) ∙ ok.2) in
                let fn : is_cycle b.memo.outcome ≡ false = ap is_cycle b.outcome ∙ fine in
                ap (λ x. must_run_by k x []) b.at ∙ (λ i. cond (fn i) (not (b.memo.generation == k.generation)) (rw0 i || mv i))
          ]

  -- what keeps a source after the change kept it before
  keeps_back : (p n : ℕ) → IsChange hosts w k w' k' → Keeps w' k' p n → Keeps w k p n
  keeps_back p n ch x =
      let b : Before k p x.memo = ch.before p x.memo x.at in
      let d : (d : Computed) × (standing w p ≡ IsComputed d) = ch.kind p x.computed x.memo x.stands x.at in
      record {
        computed = d.0;
        stands = d.1;
        memo = b.memo;
        at = b.at;
        fine = ap is_cycle b.outcome ∙ x.fine;
        calm = calm_back p x.memo ch x.at x.fine x.calm;
        kept = ap (λ (rs : List Source). is_in n (source_names rs)) b.sources ∙ x.kept;
      }

  -- the same of a whole path
  path_back : (n : ℕ) (path : List ℕ) → IsChange hosts w k w' k' → IsKeptPath w' k' n path → IsKeptPath w k n path
  path_back n [] ch c = tt
  path_back n (p ∷ ps) ch c = (keeps_back p n ch c.0, path_back p ps ch c.1)

  -- such a change keeps memos sound
  pub change_keeps : IsChange hosts w k w' k' → IsSound hosts w k → IsSound hosts w' k'
  change_keeps ch s = record {
    cycles = ch.cycles;
    follows = λ n c e st at fine rw0.
        let b : Before k n e = ch.before n e at in
        let st' : standing w n ≡ IsComputed c = ch.same n c e st at rw0 in
        subst (λ (rs : List Source). Follows hosts w' k' c.recipe e.outcome [] rs) b.sources
        (subst (λ o. Follows hosts w' k' c.recipe o [] b.memo.sources) b.outcome
        (follows_on hosts w k w' k' c.recipe b.memo.outcome [] b.memo.sources (ch.stay n b.memo b.at)
        (s.follows n c b.memo st' b.at (ap is_cycle b.outcome ∙ fine) (b.rewired rw0))));
    acyclic = λ n path chain on. s.acyclic n path (path_back n path ch chain) on;
    present = λ n e at. let b : Before k n e = ch.before n e at in let le : b.memo.generation ≤ k.generation =
        s.present n b.memo b.at in omega (arith, le, b.generation, ch.later);
    past = λ n e at.
        let b : Before k n e = ch.before n e at in
        subst (ArePast k') b.sources (ch.past n b.memo b.at);
  }

  -- where each source stays, all do
  pub all_stay : ((s : Source) → IsPast s.number (number_of k s.name) → Stays w k w' k' s) → (ss : List Source) → ArePast k ss → AllStay w k w' k' ss
  all_stay f [] p = tt
  all_stay f (s ∷ ss) p = (f s p.0, all_stay f ss p.1)

-- where no number falls, what was past is past
pub all_past : (k k' : Memos) → ((x : Option ℕ) (m : ℕ) → IsPast x (number_of k m) → IsPast x (number_of k' m)) → (ss : List Source) →
    ArePast k ss → ArePast k' ss
all_past k k' f [] p = tt
all_past k k' f (s ∷ ss) p = (f s.number s.name p.0, all_past k k' f ss p.1)

-- both are gone, both cells, or both computeds
pub record SameKind (a b : Stands) : Type 0 where
  pub there : is_there a ≡ is_there b
  pub computed : is_computed a ≡ is_computed b

-- ---- a change of one entry

-- a raised number differs from each past one
pub above : (x : Option ℕ) (m : ℕ) → IsPast x (Some m) → not (same_number (Some (m + 1)) x) ≡ true
above None m h = refl
above (Some y) m h = let ne : (m + 1 == y) ≡ false = grind (arith, nat_tests) in rw ne refl

-- what was past is past a raised number
pub past_up : (x : Option ℕ) (m : ℕ) → IsPast x (Some m) → IsPast x (Some (m + 1))
past_up None m h = cc
past_up (Some y) m h = omega (arith, h)

-- a memo that stays was there before
pub same_memo : (e : Memo) (k : Memos) (m : ℕ) (x : Option Memo) → memo_of k m ≡ x → x ≡ Some e → Before k m e
same_memo e k m x p q = record { memo = e; at = p ∙ q; outcome = refl; sources = refl; generation = refl; rewired = λ h. h }

-- the entry of n goes by g, which raises the number and keeps the memo but for its mark
record Raises (g : Entry → Entry) : Type 0 where
  name : (r : Entry) → (g r).name ≡ r.name
  number : (r : Entry) → (g r).number ≡ r.number + 1
  memo : (r : Entry) → ((g r).memo ≡ r.memo) ⊎ ((g r).memo ≡ memo_rewired r.memo)

-- the memos after that
abbrev raise : Memos → ℕ → (Entry → Entry) → Memos
raise k n g = record { generation = k.generation + 1; entries = changed (λ (r : Entry). r.name) n g k.entries }

-- a marked memo was there before
memo_before : (k : Memos) (n : ℕ) (x : Option Memo) (e' : Memo) → memo_of k n ≡ x → memo_rewired x ≡ Some e' → Before k n e'
memo_before k n None e' p q = cc
memo_before k n (Some e) e' p q =
    subst (Before k n) (out (record e { rewired = true }) e' q)
    (record { memo = e; at = p; outcome = refl; sources = refl; generation = refl; rewired = λ h. cc h })
  where
    out : (x y : Memo) → Some x ≡ Some y → x ≡ y
    out x y z = cc

-- and it is marked
memo_set : (x : Option Memo) (e' : Memo) → memo_rewired x ≡ Some e' → e'.rewired ≡ true
memo_set None e' q = cc
memo_set (Some e) e' q = sym (out (record e { rewired = true }) e' q)
  where
    out : (x y : Memo) → Some x ≡ Some y → x.rewired ≡ y.rewired
    out x y z = cc

-- each memo was there before
raise_before : (k : Memos) (n : ℕ) (g : Entry → Entry) (r : Entry) → Raises g → entry_at n k.entries ≡ Some r → (m : ℕ) (e' : Memo) →
    memo_of (raise k n g) m ≡ Some e' → Before k m e'
raise_before k n g r gs at m e' q = elim (tested (m == n)) [
  | inr off ↦ same_memo e' k m (memo_of (raise k n g) m) (sym (ap memo_in (found_other (λ (e : Entry). e.name) m n g k.entries gs.name off))) q
  | inl on ↦
      let e : m ≡ n = eqb-true m n on in
      let new : memo_of (raise k n g) n ≡ (g r).memo = ap memo_in (found_same (λ (e : Entry). e.name) n g k.entries r gs.name at) in
      let q' : (g r).memo ≡ Some e' = sym new ∙ ap (memo_of (raise k n g)) (sym e) ∙ q in
      subst (λ x. Before k x e') (sym e) (elim (gs.memo r) [
        | inl plain ↦ same_memo e' k n r.memo (ap memo_in at) (sym plain ∙ q')
        | inr mark ↦ memo_before k n r.memo e' (ap memo_in at) (sym mark ∙ q')
      ])
]

-- no number falls
raise_past : (k : Memos) (n : ℕ) (g : Entry → Entry) (r : Entry) → Raises g → entry_at n k.entries ≡ Some r → (x : Option ℕ) (m : ℕ) →
    IsPast x (number_of k m) → IsPast x (number_of (raise k n g) m)
raise_past k n g r gs at x m p = elim (tested (m == n)) [
  | inr off ↦ subst (IsPast x) (sym (ap number_in (found_other (λ (e : Entry). e.name) m n g k.entries gs.name off))) p
  | inl on ↦
      let e : m ≡ n = eqb-true m n on in
      let new : number_of (raise k n g) n ≡ Some (r.number + 1) = ap number_in (found_same (λ (e : Entry). e.name) n g k.entries r gs.name at)
      ∙ ap (λ y. Some y) (gs.number r) in
      subst (λ y. IsPast x (number_of (raise k n g) y)) (sym e)
      (subst (IsPast x) (sym new) (past_up x r.number (subst (IsPast x) (ap (number_of k) e ∙ ap number_in at) p)))
]

-- the source of that name differs, and each other stays
raise_stays : (w w' : Signals) (k : Memos) (n : ℕ) (g : Entry → Entry) (r : Entry) → Raises g → entry_at n k.entries ≡ Some r →
    ((m : ℕ) → (m == n) ≡ false → standing w' m ≡ standing w m) →
    (s : Source) → IsPast s.number (number_of k s.name) → Stays w k w' (raise k n g) s
raise_stays w w' k n g r gs at other s p = elim (tested (s.name == n)) [
  | inr off ↦
      let a : entry_at s.name (raise k n g).entries ≡ entry_at s.name k.entries = found_other (λ (e : Entry). e.name) s.name n g k.entries gs.name off in
      let o : standing w' s.name ≡ standing w s.name = other s.name off in
      inr (ap (λ x. not (same_number (number_in x) s.number)) a, (λ i. outcome_here (o i) (memo_in (a i))))
  | inl on ↦
      let e : s.name ≡ n = eqb-true s.name n on in
      let new : number_of (raise k n g) n ≡ Some (r.number + 1) = ap number_in (found_same (λ (e : Entry). e.name) n g k.entries r gs.name at)
      ∙ ap (λ y. Some y) (gs.number r) in
      inl (ap (λ x. not (same_number x s.number)) (ap (number_of (raise k n g)) e ∙ new)
      ∙ above s.number r.number (subst (IsPast s.number) (ap (number_of k) e ∙ ap number_in at) p))
]

-- a changed entry is one
pub some_mapped : (g : Entry → Entry) (x : Option Entry) → has_entry (option_map g x) ≡ has_entry x
some_mapped g None = refl
some_mapped g (Some e) = refl

-- what stands has its entry still, where what stands is of the same kind as before
raise_entries : (w w' : Signals) (k : Memos) (n : ℕ) (g : Entry → Entry) → Raises g →
    ((m : ℕ) (e' : Memo) → memo_of (raise k n g) m ≡ Some e' → Before k m e') →
    ((m : ℕ) → SameKind (standing w m) (standing w' m)) → HaveEntries w k → HaveEntries w' (raise k n g)
raise_entries w w' k n g gs before same h = record {
  entries = λ m. ap has_entry (found_changed (λ (e : Entry). e.name) m n g k.entries gs.name) ∙ some_mapped (λ e. cond (m == n) (g e) e) (entry_at m k.entries)
      ∙ h.entries m ∙ (same m).there;
  memos = λ m e q. sym (same m).computed ∙ h.memos m (before m e q).memo (before m e q).at;
}

-- the generation has moved past each memo
no_cycles : (hosts : Hosts) (w : Signals) (k : Memos) (w' : Signals) (k' : Memos) → IsSound hosts w k → k.generation < k'.generation →
    ((m : ℕ) (e' : Memo) → memo_of k' m ≡ Some e' → Before k m e') →
    (n : ℕ) (c : Computed) (m : Memo) → standing w' n ≡ IsComputed c → memo_of k' n ≡ Some m → is_cycle m.outcome ≡ true →
    m.generation ≡ k'.generation →
    (value_of hosts w' n [] ≡ m.outcome) × (source_names m.sources ≡ names_of (reads_of hosts w' c))
no_cycles hosts w k w' k' s later before n c e st at cy gen =
    let b : Before k n e = before n e at in
    let le : b.memo.generation ≤ k.generation = s.present n b.memo b.at in
    absurd (omega (arith, le, b.generation, gen, later))

-- what stands has an entry
pub entry_there : (w : Signals) (k : Memos) (n : ℕ) → HaveEntries w k → is_there (standing w n) ≡ true → (r : Entry) × (entry_at n k.entries ≡ Some r)
entry_there w k n h there = go (entry_at n k.entries) refl (h.entries n ∙ there)
  where
    go : (x : Option Entry) → entry_at n k.entries ≡ x → has_entry x ≡ true → (r : Entry) × (entry_at n k.entries ≡ Some r)
    go None e some = cc
    go (Some r) e some = (r, e)

-- ---- the signals

-- a changed cell is one
cell_kind : (f : Cell → Cell) (x : Option Cell) (y : Option Computed) → SameKind (or_computed x y) (or_computed (option_map f x) y)
cell_kind f None y = record { there = refl; computed = refl }
cell_kind f (Some c) y = record { there = refl; computed = refl }

-- and no computed
cell_back : (f : Cell → Cell) (x : Option Cell) (y : Option Computed) (d : Computed) → or_computed (option_map f x) y ≡ IsComputed d →
    or_computed x y ≡ IsComputed d
cell_back f None y d h = h
cell_back f (Some c) y d h = cc

-- a changed computed is one
computed_kind : (f : Computed → Computed) (x : Option Cell) (y : Option Computed) → SameKind (or_computed x y) (or_computed x (option_map f y))
computed_kind f (Some c) y = record { there = refl; computed = refl }
computed_kind f None None = record { there = refl; computed = refl }
computed_kind f None (Some c) = record { there = refl; computed = refl }

-- a set leaves each signal its kind
pub set_kind : (w : Signals) (n : ℕ) (v : Value) (m : ℕ) → SameKind (standing w m) (standing (with_value w n v) m)
set_kind w n v m =
    subst (λ x. SameKind (standing w m) (or_computed x (computed_at m w.computeds)))
    (sym (found_changed (λ (c : Cell). c.name) m n (λ c. record c { value = v }) w.cells (λ c. refl)))
    (cell_kind (λ c. cond (m == n) (record c { value = v }) c) (cell_at m w.cells) (computed_at m w.computeds))

-- and each computed
pub set_back : (w : Signals) (n : ℕ) (v : Value) (m : ℕ) (d : Computed) → standing (with_value w n v) m ≡ IsComputed d → standing w m ≡ IsComputed d
set_back w n v m d st =
    cell_back (λ c. cond (m == n) (record c { value = v }) c) (cell_at m w.cells) (computed_at m w.computeds) d
    (sym (ap (λ x. or_computed x (computed_at m w.computeds)) (found_changed (λ (c : Cell). c.name) m n (λ c. record c { value = v }) w.cells (λ c. refl))) ∙ st)

-- a rewiring leaves each signal its kind
pub rewire_kind : (w : Signals) (n : ℕ) (r : Recipe) (m : ℕ) → SameKind (standing w m) (standing (with_recipe w n r) m)
rewire_kind w n r m =
    subst (λ x. SameKind (standing w m) (or_computed (cell_at m w.cells) x))
    (sym (found_changed (λ (c : Computed). c.name) m n (λ c. record c { recipe = r }) w.computeds (λ c. refl)))
    (computed_kind (λ c. cond (m == n) (record c { recipe = r }) c) (cell_at m w.cells) (computed_at m w.computeds))

-- a set keeps memos sound
pub set_law : SetLaw
set_law hosts w k n c v stands kept =
    let w' : Signals = with_value w n v in
    let k' : Memos = after_change k n in
    let r : (r : Entry) × (entry_at n k.entries ≡ Some r) = entry_there w k n kept.entries (ap is_there stands) in
    let g : Raises raised = record { name = λ q. refl; number = λ q. refl; memo = λ q. inl refl } in
    let other : (m : ℕ) → (m == n) ≡ false →
    standing w' m ≡ standing w m =
    λ m off. ap (λ x. or_computed x (computed_at m w.computeds)) (found_other (λ (c : Cell). c.name) m n (λ d. record d { value = v }) w.cells (λ d. refl) off) in
    let comp : (m : ℕ) (d : Computed) → standing w' m ≡ IsComputed d → standing w m ≡ IsComputed d = set_back w n v in
    let lt : k.generation < k.generation + 1 = omega arith in
    let le : k.generation ≤ k.generation + 1 = omega arith in
    let before : (m : ℕ) (e' : Memo) → memo_of k' m ≡ Some e' → Before k m e' = raise_before k n raised r.0 g r.1 in
    record {
      sound = change_keeps hosts w k w' k' (record {
        cycles = no_cycles hosts w k w' k' kept.sound lt before;
        later = le;
        before = before;
        kind = λ m d e st q. (d, comp m d st);
        same = λ m d e st q z. comp m d st;
        stay = λ m e q. all_stay hosts w k w' k' (raise_stays w w' k n raised r.0 g r.1 other) e.sources (kept.sound.past m e q);
        past = λ m e q. all_past k k' (raise_past k n raised r.0 g r.1) e.sources (kept.sound.past m e q);
      }) kept.sound;
      entries = raise_entries w w' k n raised g before (set_kind w n v) kept.entries;
    }

-- a rewiring keeps memos sound
pub rewire_law : RewireLaw
rewire_law hosts w k n c recipe stands kept =
    let w' : Signals = with_recipe w n recipe in
    let k' : Memos = after_rewiring k n in
    let r : (r : Entry) × (entry_at n k.entries ≡ Some r) = entry_there w k n kept.entries (ap is_there stands) in
    let g : Raises entry_rewired = record { name = λ q. refl; number = λ q. refl; memo = λ q. inr refl } in
    let other : (m : ℕ) → (m == n) ≡ false →
    standing w' m ≡ standing w m =
    λ m off. ap (λ x. or_computed (cell_at m w.cells) x)
    (found_other (λ (c : Computed). c.name) m n (λ d. record d { recipe = recipe }) w.computeds (λ d. refl) off) in
    let lt : k.generation < k.generation + 1 = omega arith in
    let le : k.generation ≤ k.generation + 1 = omega arith in
    let before : (m : ℕ) (e' : Memo) → memo_of k' m ≡ Some e' → Before k m e' = raise_before k n entry_rewired r.0 g r.1 in
    record {
      sound = change_keeps hosts w k w' k' (record {
        cycles = no_cycles hosts w k w' k' kept.sound lt before;
        later = le;
        before = before;
        kind = λ m d e st q. elim (tested (m == n)) [
          | inr off ↦ (d, sym (other m off) ∙ st)
          | inl on ↦ (c, ap (standing w) (eqb-true m n on) ∙ stands)
        ];
        same = λ m d e st q z. elim (tested (m == n)) [
          | inr off ↦ sym (other m off) ∙ st
          | inl on ↦
              let is : m ≡ n = eqb-true m n on in
              let new : memo_of k' n ≡ memo_rewired r.0.memo = ap memo_in (found_same (λ (e : Entry). e.name) n entry_rewired k.entries r.0 (λ x. refl) r.1) in
              let set : e.rewired ≡ true = memo_set r.0.memo e (sym new ∙ ap (memo_of k') (sym is) ∙ q) in
              cc (sym z ∙ set)
        ];
        stay = λ m e q. all_stay hosts w k w' k' (raise_stays w w' k n entry_rewired r.0 g r.1 other) e.sources (kept.sound.past m e q);
        past = λ m e q. all_past k k' (raise_past k n entry_rewired r.0 g r.1) e.sources (kept.sound.past m e q);
      }) kept.sound;
      entries = raise_entries w w' k n entry_rewired g before (rewire_kind w n recipe) kept.entries;
    }

-- ---- disposal

-- where a computed stands there is one
some_computed : (x : Option Cell) (y : Option Computed) (c : Computed) → or_computed x y ≡ IsComputed c → y ≡ None → ⊥
some_computed (Some z) y c h e = cc
some_computed None (Some z) c h e = cc
some_computed None None c h e = cc

-- a disposal keeps memos sound
pub dispose_law : DisposeLaw
dispose_law hosts w k n there kept =
    let w' : Signals = without_signal w n in
    let k' : Memos = after_disposal k n in
    let r : (r : Entry) × (entry_at n k.entries ≡ Some r) = entry_there w k n kept.entries there in
    let other : (m : ℕ) → (m == n) ≡ false → standing w' m ≡ standing w m = λ m off.
    let a : cell_at m w'.cells ≡ cell_at m w.cells = found_left (λ (c : Cell). c.name) m n w.cells off in
    let b : computed_at m w'.computeds ≡ computed_at m w.computeds = found_left (λ (c : Computed). c.name) m n w.computeds off in
    (λ i. or_computed (a i) (b i)) in
    let comp : (m : ℕ) (d : Computed) → standing w' m ≡ IsComputed d → standing w m ≡ IsComputed d = λ m d st. elim (tested (m == n)) [
      | inr off ↦ sym (other m off) ∙ st
      | inl on ↦
          let e : m ≡ n = eqb-true m n on in
          absurd (some_computed (cell_at m w'.cells) (computed_at m w'.computeds) d st
          (ap (λ x. computed_at x w'.computeds) e ∙ found_out (λ (c : Computed). c.name) n w.computeds))
    ] in
    let gone : number_of k' n ≡ None = ap number_in (found_out (λ (e : Entry). e.name) n k.entries) in
    let lt : k.generation < k.generation + 1 = omega arith in
    let le : k.generation ≤ k.generation + 1 = omega arith in
    let before : (m : ℕ) (e' : Memo) → memo_of k' m ≡ Some e' → Before k m e' = λ m e q. elim (tested (m == n)) [
      | inr off ↦ same_memo e k m (memo_of k' m) (sym (ap memo_in (found_left (λ (e : Entry). e.name) m n k.entries off))) q
      | inl on ↦
          let none : memo_of k' m ≡ None = ap (memo_of k') (eqb-true m n on) ∙ ap memo_in (found_out (λ (e : Entry). e.name) n k.entries) in
          cc (sym none ∙ q)
    ] in
    let past : (x : Option ℕ) (m : ℕ) → IsPast x (number_of k m) → IsPast x (number_of k' m) = λ x m p. elim (tested (m == n)) [
      | inr off ↦ subst (IsPast x) (sym (ap number_in (found_left (λ (e : Entry). e.name) m n k.entries off))) p
      | inl on ↦
          let e : m ≡ n = eqb-true m n on in
          subst (λ y. IsPast x y) (sym (ap (number_of k') e ∙ gone)) (lost x)
    ] in
    let stays : (s : Source) → IsPast s.number (number_of k s.name) → Stays w k w' k' s = λ x p. elim (tested (x.name == n)) [
      | inr off ↦
          let a : entry_at x.name k'.entries ≡ entry_at x.name k.entries = found_left (λ (e : Entry). e.name) x.name n k.entries off in
          let o : standing w' x.name ≡ standing w x.name = other x.name off in
          inr (ap (λ y. not (same_number (number_in y) x.number)) a, (λ i. outcome_here (o i) (memo_in (a i))))
      | inl on ↦
          let e : x.name ≡ n = eqb-true x.name n on in
          inl (ap (λ y. not (same_number y x.number)) (ap (number_of k') e ∙ gone)
          ∙ never r.0.number x.number (subst (IsPast x.number) (ap (number_of k) e ∙ ap number_in r.1) p))
    ] in
    record {
      sound = change_keeps hosts w k w' k' (record {
        cycles = no_cycles hosts w k w' k' kept.sound lt before;
        later = le;
        before = before;
        kind = λ m d e st q. (d, comp m d st);
        same = λ m d e st q z. comp m d st;
        stay = λ m e q. all_stay hosts w k w' k' stays e.sources (kept.sound.past m e q);
        past = λ m e q. all_past k k' past e.sources (kept.sound.past m e q);
      }) kept.sound;
      entries = record {
        entries = λ m. elim (tested (m == n)) [
          | inr off ↦ ap has_entry (found_left (λ (e : Entry). e.name) m n k.entries off) ∙ kept.entries.entries m ∙ ap is_there (sym (other m off))
          | inl on ↦
              let e : m ≡ n = eqb-true m n on in
              let a : cell_at n w'.cells ≡ None = found_out (λ (c : Cell). c.name) n w.cells in
              let b : computed_at n w'.computeds ≡ None = found_out (λ (c : Computed). c.name) n w.computeds in
              ap (λ x. has_entry (entry_at x k'.entries)) e ∙ ap has_entry (found_out (λ (e : Entry). e.name) n k.entries)
              ∙ (λ i. is_there (or_computed (sym a i) (sym b i)))
              ∙ ap (λ x. is_there (standing w' x)) (sym e)
        ];
        memos = λ m e q. elim (tested (m == n)) [
          | inr off ↦ ap is_computed (other m off) ∙ kept.entries.memos m (before m e q).memo (before m e q).at
          | inl on ↦ cc (sym (ap (memo_of k') (eqb-true m n on) ∙ ap memo_in (found_out (λ (e : Entry). e.name) n k.entries)) ∙ q)
        ];
      };
    }
  where
    never : (m : ℕ) (x : Option ℕ) → IsPast x (Some m) → not (same_number None x) ≡ true
    never m None h = cc
    never m (Some y) h = refl

    lost : (x : Option ℕ) → IsPast x None
    lost None = refl
    lost (Some y) = tt

-- ---- nothing at all

-- nobody keeps anything
no_keeper : (w : Signals) (k : Memos) → ((m : ℕ) → memo_of k m ≡ None) → (n : ℕ) (path : List ℕ) → IsKeptPath w k n path → is_in n path ≡ true → ⊥
no_keeper w k none n [] c on = cc
no_keeper w k none n (p ∷ ps) c on = cc (sym (none p) ∙ c.0.at)

-- where nothing has a memo, what is kept is sound
pub no_memos_law : NoMemosLaw
no_memos_law hosts w k none = record {
  cycles = λ n c m st at cy gen. cc (sym (none n) ∙ at);
  follows = λ n c m st at fine rw0. cc (sym (none n) ∙ at);
  acyclic = no_keeper w k none;
  present = λ n m at. cc (sym (none n) ∙ at);
  past = λ n m at. cc (sym (none n) ∙ at);
}

-- nothing is kept of no signals
pub empty_law : EmptyLaw
empty_law hosts = record {
  sound = no_memos_law hosts no_signals no_memos (λ n. refl);
  entries = record { entries = λ n. refl; memos = λ n m at. cc at };
}
