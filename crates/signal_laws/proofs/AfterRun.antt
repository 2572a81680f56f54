-- What one run leaves of the memos.
use Rattle.std.proofs.Common.{◌≡◌, ℕ, zero, suc, ◌+◌, ◌==◌, ◌||◌, not, Bool, true, false, cond, List, [], ◌∷◌, map, Option, Some, None, refl, sym, ap}
use Rattle.std.proofs.Common.{◌∙◌, subst, arith, ◌⊎◌, inl, inr}
use Rattle.std.specs.Prelude.{slice_index}
use Rattle.std.proofs.lemmas.Bool.{eqb-true, eq-eqb}
use Rattle.sig_base.specs.Values.{same_outcome-Decides}
use Rattle.sig_base.specs.declared.value.Value.{Value}
use Rattle.sig_base.specs.declared.value.Outcome.{Outcome}
use Rattle.sig_base.specs.declared.value.Outcome.TheVariants.{Good, Bad}
use Rattle.sig_base.specs.declared.value.Step.{Step}
use Rattle.sig_base.specs.declared.value.Step.TheVariants.{Read, Done, Fail}
use Rattle.sig_base.specs.declared.value.Known.{Known}
use Rattle.signal_model.specs.Recipes.{Hosts, Recipe, recipe_answer}
use Rattle.signal_model.specs.Signals.{Signals, Computed, IsComputed, is_computed, is_in, standing}
use Rattle.signal_model.specs.Values.{Seen, Evaluation, learnt, after_read, after_step, asked_within}
use Rattle.signal_model.specs.Memos.{Source, Memo, Entry, Memos, entry_at, number_in, memo_in, number_of, memo_of, source_names, same_number}
use Rattle.signal_model.specs.Memos.{is_cycle, differs, some_moved, must_run_by}
use Rattle.signal_model.specs.Settling.{source_now, has_outcome, ran_entry, with_memo}
use Rattle.signal_model.specs.Sound.{kept_outcome, outcome_here, standing_outcome, EndsWith, AfterSource, Unless, Follows, IsPast, ArePast, names_of}
use Rattle.signal_model.specs.Sound.{Keeps, IsKeptPath, IsSound}
use Rattle.signal_model.specs.Laws.{IsRead}
use Rattle.signal_model.proofs.Shared.{tested}
use Rattle.signal_model.specs.Kept.{HaveEntries}
use Rattle.signal_model.specs.Memos.{has_entry}
use Rattle.signal_laws.proofs.LookUps.{found_changed, found_other, found_same}
use Rattle.signal_laws.proofs.AfterChange.{some_mapped, Calm, calm_of, Stays, all_stay, above, moved_back, some_is}
use Rattle.signal_laws.proofs.Lists.{in_head, in_tail}

-- the memo that a run leaves
abbrev pub new_memo : Memos → Outcome → List Source → Memo
new_memo k o ss = record { outcome = o; sources = ss; generation = k.generation; rewired = false }

-- ---- the entries after a run

-- a run leaves the entry of another
pub run_other : (k : Memos) (n : ℕ) (o : Outcome) (ss : List Source) (m : ℕ) → (m == n) ≡ false →
    entry_at m (with_memo k n o ss).entries ≡ entry_at m k.entries
run_other k n o ss m off = found_other (λ (e : Entry). e.name) m n (ran_entry (new_memo k o ss)) k.entries (λ q. refl) off

-- and changes its own
pub run_here : (k : Memos) (n : ℕ) (o : Outcome) (ss : List Source) (r : Entry) → entry_at n k.entries ≡ Some r →
    entry_at n (with_memo k n o ss).entries ≡ Some (ran_entry (new_memo k o ss) r)
run_here k n o ss r at = found_same (λ (e : Entry). e.name) n (ran_entry (new_memo k o ss)) k.entries r (λ q. refl) at

-- which has the new memo
pub run_memo : (k : Memos) (n : ℕ) (o : Outcome) (ss : List Source) (r : Entry) → entry_at n k.entries ≡ Some r →
    memo_of (with_memo k n o ss) n ≡ Some (new_memo k o ss)
run_memo k n o ss r at = ap memo_in (run_here k n o ss r at)

-- another name's sources are as they were, and its own number rises where its outcome is another
pub run_stays : (w : Signals) (k : Memos) (n : ℕ) (d : Computed) (r : Entry) (o : Outcome) (ss : List Source) → standing w n ≡ IsComputed d →
    entry_at n k.entries ≡ Some r →
    (s : Source) → IsPast s.number (number_of k s.name) → Stays w k w (with_memo k n o ss) s
run_stays w k n d r o ss stands at s past = go (s.name == n) refl
  where
    new : entry_at n (with_memo k n o ss).entries ≡ Some (ran_entry (new_memo k o ss) r)
    new = run_here k n o ss r at

    rises : (b : Bool) → has_outcome r.memo o ≡ b → (past' : IsPast s.number (Some r.number)) → s.name ≡ n → Stays w k w (with_memo k n o ss) s
    rises true same p e = inr (
      ap (λ x. not (same_number x s.number))
          (ap (λ m. number_of (with_memo k n o ss) m) e ∙ ap number_in new ∙ (λ i. Some (r.number + cond (same i) 0 1)) ∙ ap (λ m. Some m) zeroed
          ∙ sym (ap number_in at) ∙ sym (ap (number_of k) e)),
      ap (λ m. standing_outcome w (with_memo k n o ss) m) e ∙ (λ i. outcome_here (stands i) (memo_in (new i))) ∙ sym (old r.memo same)
          ∙ sym (λ i. outcome_here (stands i) (memo_in (at i))) ∙ sym (ap (standing_outcome w k) e),
    )
      where
        zeroed : r.number + 0 ≡ r.number
        zeroed = omega arith

        old : (x : Option Memo) → has_outcome x o ≡ true → kept_outcome x ≡ Some o
        old None h = cc
        old (Some x) h = ap (λ y. Some y) ((same_outcome-Decides x.outcome o).0 h)
    rises false other p e = inl
        (ap (λ x. not (same_number x s.number))
        (ap (λ m. number_of (with_memo k n o ss) m) e ∙ ap number_in new ∙ (λ i. Some (r.number + cond (other i) 0 1)))
        ∙ above s.number r.number p)

    go : (b : Bool) → (s.name == n) ≡ b → Stays w k w (with_memo k n o ss) s
    go false off = inr (
        let a : entry_at s.name (with_memo k n o ss).entries ≡ entry_at s.name k.entries = run_other k n o ss s.name off in
        (ap (λ x. not (same_number (number_in x) s.number)) a, ap (λ x. outcome_here (standing w s.name) (memo_in x)) a))
    go true on =
        let e : s.name ≡ n = eqb-true s.name n on in
        rises (has_outcome r.memo o) refl (subst (λ x. IsPast s.number x) (ap (number_of k) e ∙ ap number_in at) past) e

-- what is past is past a greater number
past_more : (x : Option ℕ) (a b : ℕ) → IsPast x (Some a) → IsPast x (Some (a + b))
past_more None a b h = cc
past_more (Some y) a b h = omega (arith, h)

-- no number falls by a run
pub run_past : (k : Memos) (n : ℕ) (o : Outcome) (ss : List Source) (r : Entry) → entry_at n k.entries ≡ Some r → (x : Option ℕ) (m : ℕ) →
    IsPast x (number_of k m) → IsPast x (number_of (with_memo k n o ss) m)
run_past k n o ss r at x m p = elim (tested (m == n)) [
  | inr off ↦ subst (IsPast x) (sym (ap number_in (run_other k n o ss m off))) p
  | inl on ↦
      let e : m ≡ n = eqb-true m n on in
      subst (λ y. IsPast x (number_of (with_memo k n o ss) y)) (sym e) (subst (IsPast x) (sym (ap number_in (run_here k n o ss r at)))
      (past_more x r.number (cond (has_outcome r.memo o) 0 1) (subst (IsPast x) (ap (number_of k) e ∙ ap number_in at) p)))
]

-- each number is past itself
pub past_self : (x : Option ℕ) → IsPast x x
past_self None = refl
past_self (Some n) = omega arith

-- each signal has its entry still
pub run_entries : (w : Signals) (k : Memos) (n : ℕ) (d : Computed) (o : Outcome) (ss : List Source) → standing w n ≡ IsComputed d → HaveEntries w k →
    HaveEntries w (with_memo k n o ss)
run_entries w k n d o ss stands h = record {
  entries = λ m. ap has_entry (found_changed (λ (e : Entry). e.name) m n (ran_entry (new_memo k o ss)) k.entries (λ q. refl))
      ∙ some_mapped (λ e. cond (m == n) (ran_entry (new_memo k o ss) e) e) (entry_at m k.entries) ∙ h.entries m;
  memos = λ m e q. elim (tested (m == n)) [
    | inr off ↦ h.memos m e (sym (ap memo_in (run_other k n o ss m off)) ∙ q)
    | inl on ↦ ap (λ x. is_computed (standing w x)) (eqb-true m n on) ∙ ap is_computed stands
  ];
}

-- ---- the sources of a run

-- the names of sources are those that were read
pub names_now : (k : Memos) (ss : List Seen) → source_names (map (source_now k) ss) ≡ names_of ss
names_now k [] = refl
names_now k (s ∷ ss) = ap (λ ns. s.name ∷ ns) (names_now k ss)

-- a number is the same as itself
same_self : (x : Option ℕ) → same_number x x ≡ true
same_self None = refl
same_self (Some n) = eq-eqb n n refl

-- what was read just now hasn't moved, where the run's own name isn't among it
pub now_calm : (k : Memos) (n : ℕ) (o : Outcome) (all : List Source) (ss : List Seen) → ((m : ℕ) → IsRead m ss → (m == n) ≡ false) →
    some_moved (with_memo k n o all) [] (map (source_now k) ss) ≡ false
now_calm k n o all [] f = refl
now_calm k n o all (s ∷ ss) f =
    let a : number_of (with_memo k n o all) s.name ≡ number_of k s.name = ap number_in (run_other k n o all s.name (f s.name (inl refl))) in
    let d : not (same_number (number_of (with_memo k n o all) s.name) (number_of k s.name)) ≡ false =
    (λ i. not (same_number (a i) (number_of k s.name))) ∙ ap not (same_self (number_of k s.name)) in
    let b : some_moved (with_memo k n o all) [] (map (source_now k) ss) ≡ false = now_calm k n o all ss (λ m r. f m (inr r)) in
    (λ i. (d i || false) || b i)

-- sources of other names have moved as before
pub same_moved : (k : Memos) (n : ℕ) (o : Outcome) (all : List Source) (ss : List Source) →
    ((m : ℕ) → is_in m (source_names ss) ≡ true → (m == n) ≡ false) → some_moved (with_memo k n o all) [] ss ≡ some_moved k [] ss
same_moved k n o all [] f = refl
same_moved k n o all (s ∷ ss) f =
    let a : number_of (with_memo k n o all) s.name ≡ number_of k s.name =
    ap number_in (run_other k n o all s.name (f s.name (in_head s.name (source_names ss)))) in
    let b : some_moved (with_memo k n o all) [] ss ≡ some_moved k [] ss =
    same_moved k n o all ss (λ m on. f m (in_tail m s.name (source_names ss) on)) in
    (λ i. (not (same_number (a i) s.number) || false) || b i)

-- what was read just now is past
pub now_past : (k k' : Memos) → ((x : Option ℕ) (m : ℕ) → IsPast x (number_of k m) → IsPast x (number_of k' m)) → (ss : List Seen) →
    ArePast k' (map (source_now k) ss)
now_past k k' f [] = tt
now_past k k' f (s ∷ ss) = (f (number_of k s.name) s.name (past_self (number_of k s.name)), now_past k k' f ss)

-- what holds holds unless
unless : {P : Type 0} (b : Bool) → P → Unless b P
unless true p = tt
unless false p = p

-- an evaluation follows what it read, where this stands as it was read
pub now_follows : (t : ℕ) (hosts : Hosts) (w : Signals) (k k' : Memos) (r : Recipe) (source : ℕ → Outcome) (known : List Known) →
    is_cycle (asked_within t hosts r source known).outcome ≡ false →
    ((m : ℕ) → IsRead m (asked_within t hosts r source known).reads → standing_outcome w k' m ≡ Some (source m)) →
    Follows hosts w k' r (asked_within t hosts r source known).outcome known (map (source_now k) (asked_within t hosts r source known).reads)
now_follows zero hosts w k k' r source known fine ok = cc
now_follows (suc t) hosts w k k' r source known fine ok =
    go (recipe_answer hosts r known) refl fine ok (λ s v f g. now_follows t hosts w k k' r source (learnt known s v) f g)
  where
    follow : (s : ℕ) → recipe_answer hosts r known ≡ Read s → (x : Outcome) → source (slice_index r.slots s) ≡ x →
        is_cycle (after_read (slice_index r.slots s) x (λ v. asked_within t hosts r source (learnt known s v))).outcome ≡ false →
        ((m : ℕ) → IsRead m (after_read (slice_index r.slots s) x (λ v. asked_within t hosts r source (learnt known s v))).reads →
        standing_outcome w k' m ≡ Some (source m)) →
        ((v : Value) → is_cycle (asked_within t hosts r source (learnt known s v)).outcome ≡ false →
        ((m : ℕ) → IsRead m (asked_within t hosts r source (learnt known s v)).reads → standing_outcome w k' m ≡ Some (source m)) →
        Follows hosts w k' r (asked_within t hosts r source (learnt known s v)).outcome (learnt known s v)
        (map (source_now k) (asked_within t hosts r source (learnt known s v)).reads)) →
        Follows hosts w k' r (after_read (slice_index r.slots s) x (λ v. asked_within t hosts r source (learnt known s v))).outcome known
        (map (source_now k) (after_read (slice_index r.slots s) x (λ v. asked_within t hosts r source (learnt known s v))).reads)
    follow s e (Bad b) q fn st next =
        let m : ℕ = slice_index r.slots s in (
          s,
          e,
          refl,
          unless (differs k' (source_now k (record { name = m; outcome = Bad b })))
              (subst (λ y. AfterSource y [] (Bad b) (λ v. Follows hosts w k' r (Bad b) (learnt known s v) []))
              (sym (st m (inl refl) ∙ ap (λ y. Some y) q))
              (refl, refl)),
        )
    follow s e (Good v) q fn st next =
        let m : ℕ = slice_index r.slots s in
        let rest : Evaluation = asked_within t hosts r source (learnt known s v) in (
          s,
          e,
          refl,
          unless (differs k' (source_now k (record { name = m; outcome = Good v })))
              (subst (λ y. AfterSource y (map (source_now k) rest.reads) rest.outcome
              (λ u. Follows hosts w k' r rest.outcome (learnt known s u) (map (source_now k) rest.reads)))
              (sym (st m (inl refl) ∙ ap (λ y. Some y) q))
              (next v fn (λ j on. st j (inr on)))),
        )

    go : (st : Step) → recipe_answer hosts r known ≡ st →
        is_cycle (after_step st r.slots source (λ s v. asked_within t hosts r source (learnt known s v))).outcome ≡ false →
        ((m : ℕ) → IsRead m (after_step st r.slots source (λ s v. asked_within t hosts r source (learnt known s v))).reads →
        standing_outcome w k' m ≡ Some (source m)) →
        ((s : ℕ) (v : Value) → is_cycle (asked_within t hosts r source (learnt known s v)).outcome ≡ false →
        ((m : ℕ) → IsRead m (asked_within t hosts r source (learnt known s v)).reads → standing_outcome w k' m ≡ Some (source m)) →
        Follows hosts w k' r (asked_within t hosts r source (learnt known s v)).outcome (learnt known s v)
        (map (source_now k) (asked_within t hosts r source (learnt known s v)).reads)) →
        Follows hosts w k' r (after_step st r.slots source (λ s v. asked_within t hosts r source (learnt known s v))).outcome known
        (map (source_now k) (after_step st r.slots source (λ s v. asked_within t hosts r source (learnt known s v))).reads)
    go (Done v) e fn ok' next = subst (λ st. EndsWith st (Good v)) (sym e) refl
    go (Fail x) e fn ok' next = subst (λ st. EndsWith st (Bad x)) (sym e) refl
    go (Read s) e fn ok' next = follow s e (source (slice_index r.slots s)) refl fn ok' (next s)

-- ---- a run closes no cycle

-- one keeps the next, and so on
data KeepsOn (w : Signals) (k : Memos) : ℕ → ℕ → Type 0 where
  here : {a b : ℕ} → Keeps w k a b → KeepsOn w k a b
  onward : {a b c : ℕ} → Keeps w k a b → KeepsOn w k b c → KeepsOn w k a c

-- way after way
keeps_on : {w : Signals} {k : Memos} {a b c : ℕ} → KeepsOn w k a b → KeepsOn w k b c → KeepsOn w k a c
keeps_on (here r) h = onward r h
keeps_on (onward r g) h = onward r (keeps_on g h)

-- along a path of keepers each leads to the end
path_keeps : (w : Signals) (k : Memos) (path : List ℕ) (n x : ℕ) → IsKeptPath w k n path → is_in x path ≡ true → KeepsOn w k x n
path_keeps w k [] n x c h = cc
path_keeps w k (p ∷ ps) n x c h = go (x == p) refl h (λ on. keeps_on (path_keeps w k ps p x c.1 on) (here c.0))
  where
    go : (b : Bool) → (x == p) ≡ b → (b || is_in x ps) ≡ true → (is_in x ps ≡ true → KeepsOn w k x n) → KeepsOn w k x n
    go true e q f = subst (λ i. KeepsOn w k i n) (sym (eqb-true x p e)) (here c.0)
    go false e q f = f q

-- the keepers on the way from a to b, the last one first
record Way (w : Signals) (k : Memos) (a b : ℕ) : Type 0 where
  path : List ℕ
  chain : IsKeptPath w k b path
  on : is_in a path ≡ true

-- a way goes on
way_more : {w : Signals} {k : Memos} {a b c : ℕ} → Way w k a b → KeepsOn w k b c → Way w k a c
way_more {w} {k} {a} {b} v (here r) = record { path = b ∷ v.path; chain = (r, v.chain); on = in_tail a b v.path v.on }
way_more {w} {k} {a} {b} v (onward r g) = way_more (record { path = b ∷ v.path; chain = (r, v.chain); on = in_tail a b v.path v.on }) g

-- a way has its path
way : {w : Signals} {k : Memos} {a b : ℕ} → KeepsOn w k a b → Way w k a b
way {w} {k} {a} (here r) = record { path = a ∷ []; chain = (r, tt); on = in_head a [] }
way {w} {k} {a} (onward r g) = way_more (record { path = a ∷ []; chain = (r, tt); on = in_head a [] }) g

-- what another computed keeps after the run it kept before
run_keeps : (hosts : Hosts) (w : Signals) (k : Memos) (n : ℕ) (c : Computed) (r : Entry) (o : Outcome) (ss : List Source) →
    standing w n ≡ IsComputed c → entry_at n k.entries ≡ Some r → IsSound hosts w k →
    (p m : ℕ) → (p == n) ≡ false → Keeps w (with_memo k n o ss) p m → Keeps w k p m
run_keeps hosts w k n c r o ss stands at sound p m off x =
    let k' : Memos = with_memo k n o ss in
    let same : memo_of k' p ≡ memo_of k p = ap memo_in (run_other k n o ss p off) in
    let was : memo_of k p ≡ Some x.memo = sym same ∙ x.at in
    let q : Calm k' p = calm_of k' p x.calm in
    let is : q.memo ≡ x.memo = some_is q.memo x.memo (sym q.at ∙ x.at) in
    record {
      computed = x.computed;
      stands = x.stands;
      memo = x.memo;
      at = was;
      fine = x.fine;
      calm = elim q.case [
        | inl cy ↦ cc (sym (ap (λ (y : Memo). is_cycle y.outcome) is ∙ x.fine) ∙ cy.0)
        | inr ok ↦
            let rw0 : x.memo.rewired ≡ false = sym (ap (λ (y : Memo). y.rewired) is) ∙ ok.1 in
            let mv : some_moved k [] x.memo.sources ≡ false =
            moved_back w k w k' x.memo.sources
            (all_stay hosts w k w k' (run_stays w k n c r o ss stands at) x.memo.sources (sound.past p x.memo was))
            (ap (some_moved k' []) (sym (ap (λ (y : Memo). y.sources) is)) ∙ ok.2) in
            ap (λ y. must_run_by k y []) was ∙ (λ i. cond (x.fine i) (not (x.memo.generation == k.generation)) (rw0 i || mv i))
      ];
      kept = x.kept;
    }

-- what a run needs of the names that are seen
record AfterRun (w : Signals) (k : Memos) (n : ℕ) (seen : List ℕ) (k' : Memos) : Type 0 where
  back : (p m : ℕ) → (p == n) ≡ false → Keeps w k' p m → Keeps w k p m
  own : (m : ℕ) (d : Computed) → Keeps w k' n m → standing w m ≡ IsComputed d → is_in m seen ≡ true
  closed : (p m : ℕ) (d : Computed) → is_in p seen ≡ true → Keeps w k p m → standing w m ≡ IsComputed d → is_in m seen ≡ true

-- what keeps is a computed
computed_first : {w : Signals} {k : Memos} {a b : ℕ} → KeepsOn w k a b → (d : Computed) × (standing w a ≡ IsComputed d)
computed_first (here r) = (r.computed, r.stands)
computed_first (onward r g) = (r.computed, r.stands)

-- one step leads to what is seen
step_seen : (w : Signals) (k k' : Memos) (a b n : ℕ) (seen : List ℕ) → AfterRun w k n seen k' → Keeps w k' a b → (is_in a seen ≡ true) ⊎ (a ≡ n) →
    (d : Computed) → standing w b ≡ IsComputed d → is_in b seen ≡ true
step_seen w k k' a b n seen x r (inr e) d st = x.own b d (subst (λ y. Keeps w k' y b) e r) st
step_seen w k k' a b n seen x r (inl s) d st = elim (tested (a == n)) [
  | inl on ↦ x.own b d (subst (λ y. Keeps w k' y b) (eqb-true a n on) r) st
  | inr off ↦ x.closed a b d s (x.back a b off r) st
]

-- from what is seen, or from n itself, a way leads to what is seen
to_seen : {w : Signals} {k' : Memos} {a b : ℕ} (k : Memos) (n : ℕ) (seen : List ℕ) → AfterRun w k n seen k' → KeepsOn w k' a b →
    (is_in a seen ≡ true) ⊎ (a ≡ n) → (d : Computed) → standing w b ≡ IsComputed d → is_in b seen ≡ true
to_seen {w} {k'} {a} {b} k n seen x (here r) from d st = step_seen w k k' a b n seen x r from d st
to_seen {w} {k'} {a} {b} k n seen x (onward {b = p} r g) from d st =
    let first : (e : Computed) × (standing w p ≡ IsComputed e) = computed_first g in
    to_seen k n seen x g (inl (step_seen w k k' a p n seen x r from first.0 first.1)) d st

-- a way passes n, or it was there before
passes : {w : Signals} {k' : Memos} {a b : ℕ} (k : Memos) (n : ℕ) (seen : List ℕ) → AfterRun w k n seen k' → KeepsOn w k' a b →
    KeepsOn w k a b ⊎ ((a ≡ n) ⊎ KeepsOn w k' a n) × KeepsOn w k' n b
passes {w} {k'} {a} {b} k n seen x (here r) = elim (tested (a == n)) [
  | inl on ↦ let e : a ≡ n = eqb-true a n on in inr (inl e, subst (λ y. KeepsOn w k' y b) e (here r))
  | inr off ↦ inl (here (x.back a b off r))
]
passes {w} {k'} {a} {b} k n seen x (onward {b = p} r g) = elim (tested (a == n)) [
  | inl on ↦ let e : a ≡ n = eqb-true a n on in inr (inl e, subst (λ y. KeepsOn w k' y b) e (onward r g))
  | inr off ↦ elim (passes k n seen x g) [
    | inl old ↦ inl (onward (x.back a p off r) old)
    | inr z ↦ inr (elim z.0 [ inl e ↦ inr (subst (λ y. KeepsOn w k' a y) e (here r)) | inr h ↦ inr (onward r h) ], z.1)
  ]
]

-- a run of n, whose sources are all seen, closes no cycle
pub run_acyclic : (hosts : Hosts) (w : Signals) (k : Memos) (n : ℕ) (c : Computed) (r : Entry) (o : Outcome) (ss : List Source) (seen : List ℕ) →
    standing w n ≡ IsComputed c → entry_at n k.entries ≡ Some r → IsSound hosts w k → is_in n seen ≡ false →
    ((p m : ℕ) (d : Computed) → is_in p seen ≡ true → Keeps w k p m → standing w m ≡ IsComputed d → is_in m seen ≡ true) →
    (is_cycle o ≡ false → (m : ℕ) (d : Computed) → is_in m (source_names ss) ≡ true → standing w m ≡ IsComputed d → is_in m seen ≡ true) →
    (m : ℕ) (path : List ℕ) → IsKeptPath w (with_memo k n o ss) m path → is_in m path ≡ true → ⊥
run_acyclic hosts w k n c r o ss seen stands at sound off closed own m path chain on =
    let k' : Memos = with_memo k n o ss in
    let new : memo_of k' n ≡ Some (new_memo k o ss) = run_memo k n o ss r at in
    let x : AfterRun w k n seen k' = record {
      back = run_keeps hosts w k n c r o ss stands at sound;
      own = λ j d y st.
          let is : new_memo k o ss ≡ y.memo = some_is (new_memo k o ss) y.memo (sym new ∙ y.at) in
          own (ap (λ (z : Memo). is_cycle z.outcome) is ∙ y.fine) j d (ap (λ (z : Memo). is_in j (source_names z.sources)) is ∙ y.kept) st;
      closed = closed;
    } in
    let loop : KeepsOn w k' m m = path_keeps w k' path m m chain on in
    elim (passes k n seen x loop) [
      | inl old ↦ let v : Way w k m m = way old in sound.acyclic m v.path v.chain v.on
      | inr z ↦
          let round : KeepsOn w k' n n = elim z.0 [ inl q ↦ subst (λ y. KeepsOn w k' n y) q z.1 | inr h ↦ keeps_on z.1 h ] in
          cc (sym (to_seen k n seen x round (inr refl) c stands) ∙ off)
    ]
