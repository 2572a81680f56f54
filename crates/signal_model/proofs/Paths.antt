-- A value doesn't depend on the path of reads that it is come to by, and a cycle of reads is a fault.
use Rattle.std.proofs.Common.{◌≡◌, ℕ, zero, suc, ◌<◌, ◌==◌, ◌||◌, Bool, true, false, List, [], ◌∷◌, length, refl, sym, ap, ◌∙◌, subst, arith, ◌⊎◌}
use Rattle.std.proofs.Common.{inl, inr}
use Rattle.std.specs.Prelude.{slice_index}
use Rattle.std.specs.List.{AllByRecursion}
use Rattle.std.proofs.lemmas.Bool.{eqb-true, eq-eqb}
use Rattle.sig_base.specs.declared.value.Value.{Value}
use Rattle.sig_base.specs.declared.value.Fault.TheVariants.{Gone, Cycle}
use Rattle.sig_base.specs.declared.value.Outcome.{Outcome}
use Rattle.sig_base.specs.declared.value.Outcome.TheVariants.{Good, Bad}
use Rattle.sig_base.specs.declared.value.Step.{Step}
use Rattle.sig_base.specs.declared.value.Step.TheVariants.{Read, Done, Fail}
use Rattle.sig_base.specs.declared.value.Known.{Known}
use Rattle.signal_model.specs.Recipes.{Hosts, Recipe, recipe_answer}
use Rattle.signal_model.specs.Signals.{Signals, Computed, Cell, Stands, IsGone, IsCell, IsComputed, is_in, standing}
use Rattle.signal_model.specs.Values.{Seen, Evaluation, learnt, read_first, after_read, after_step, asked_within, unknown_slots, value_of, value_case}
use Rattle.signal_model.specs.Values.{evaluated, reads_of, names_left}
use Rattle.signal_model.specs.Memos.{is_cycle}
use Rattle.signal_model.specs.Laws.{IsRead, Reads, IsChain, PathLaw, Leads, one, more, CycleLaw}
pub use Rattle.signal_model.proofs.Tests.{tested}
use Rattle.signal_model.proofs.Depth.{value_by_cases, computed_at-name, stands-computed, left-here}

pub is_cycle-true : (o : Outcome) → is_cycle o ≡ true → o ≡ Bad Cycle
is_cycle-true (Bad Cycle) h = refl
is_cycle-true _ h = cc

-- the first ends with the fault cycle, or both are one
abbrev Or : Evaluation → Evaluation → Type 0
Or a b = (is_cycle a.outcome ≡ true) ⊎ (a ≡ b)

read_same : (m : ℕ) (a : Outcome) (F G : Value → Evaluation) → ((v : Value) → Or (F v) (G v)) → Or (after_read m a F) (after_read m a G)
read_same m (Bad x) F G k = inr refl
read_same m (Good v) F G k = elim (k v) [ inl c ↦ inl c | inr e ↦ inr (ap (read_first (record { name = m; outcome = Good v })) e) ]

read_cycle : (m : ℕ) (a : Outcome) (F : Value → Evaluation) → is_cycle a ≡ true → is_cycle (after_read m a F).outcome ≡ true
read_cycle m (Bad x) F c = c
read_cycle m (Good v) F c = cc

read_or : (m : ℕ) (a b : Outcome) (F G : Value → Evaluation) → (is_cycle a ≡ true) ⊎ (a ≡ b) → ((v : Value) → Or (F v) (G v)) →
    Or (after_read m a F) (after_read m b G)
read_or m a b F G (inl c) k = inl (read_cycle m a F c)
read_or m a b F G (inr e) k = subst (λ x. Or (after_read m a F) (after_read m x G)) e (read_same m a F G k)

step_or : (st : Step) (slots : List ℕ) (f g : ℕ → Outcome) (F G : ℕ → Value → Evaluation) → ((m : ℕ) → (is_cycle (f m) ≡ true) ⊎ (f m ≡ g m)) →
    ((s : ℕ) (v : Value) → Or (F s v) (G s v)) → Or (after_step st slots f F) (after_step st slots g G)
step_or (Done v) slots f g F G h k = inr refl
step_or (Fail x) slots f g F G h k = inr refl
step_or (Read s) slots f g F G h k = read_or (slice_index slots s) (f (slice_index slots s)) (g (slice_index slots s)) (F s) (G s)
    (h (slice_index slots s)) (k s)

asked_or : (t : ℕ) (hosts : Hosts) (r : Recipe) (f g : ℕ → Outcome) → ((m : ℕ) → (is_cycle (f m) ≡ true) ⊎ (f m ≡ g m)) → (known : List Known) →
    Or (asked_within t hosts r f known) (asked_within t hosts r g known)
asked_or zero hosts r f g h known = inr refl
asked_or (suc t) hosts r f g h known =
    step_or (recipe_answer hosts r known) r.slots f g (λ s v. asked_within t hosts r f (learnt known s v))
    (λ s v. asked_within t hosts r g (learnt known s v)) h
    (λ s v. asked_or t hosts r f g h (learnt known s v))

-- where a run doesn't end with the fault cycle, none of its reads does
abbrev AreFine : (ℕ → Outcome) → Evaluation → Type 0
AreFine f a = is_cycle a.outcome ≡ false → AllByRecursion (λ (s : Seen). is_cycle (f s.name) ≡ false) a.reads

read_fine : (f : ℕ → Outcome) (m : ℕ) (o : Outcome) (F : Value → Evaluation) → f m ≡ o → ((v : Value) → AreFine f (F v)) →
    AreFine f (after_read m o F)
read_fine f m (Bad x) F e k h = (ap is_cycle e ∙ h, tt)
read_fine f m (Good v) F e k h = (ap is_cycle e, k v h)

step_fine : (st : Step) (slots : List ℕ) (f : ℕ → Outcome) (F : ℕ → Value → Evaluation) → ((s : ℕ) (v : Value) → AreFine f (F s v)) →
    AreFine f (after_step st slots f F)
step_fine (Done v) slots f F k h = tt
step_fine (Fail x) slots f F k h = tt
step_fine (Read s) slots f F k h = read_fine f (slice_index slots s) (f (slice_index slots s)) (F s) refl (k s) h

asked_fine : (t : ℕ) (hosts : Hosts) (r : Recipe) (f : ℕ → Outcome) (known : List Known) → AreFine f (asked_within t hosts r f known)
asked_fine zero hosts r f known = λ h. tt
asked_fine (suc t) hosts r f known =
    step_fine (recipe_answer hosts r known) r.slots f (λ s v. asked_within t hosts r f (learnt known s v))
    (λ s v. asked_fine t hosts r f (learnt known s v))

-- where all that is read has the same outcome, the runs are one
abbrev AreSame : (f g : ℕ → Outcome) → Evaluation → Evaluation → Type 0
AreSame f g a b = AllByRecursion (λ (s : Seen). f s.name ≡ g s.name) b.reads → a ≡ b

read_alike : (f g : ℕ → Outcome) (m : ℕ) (o : Outcome) (F G : Value → Evaluation) → g m ≡ o → ((v : Value) → AreSame f g (F v) (G v)) →
    AreSame f g (after_read m (f m) F) (after_read m o G)
read_alike f g m (Bad x) F G e k h = ap (λ o. after_read m o F) (h.0 ∙ e)
read_alike f g m (Good v) F G e k h = ap (λ o. after_read m o F) (h.0 ∙ e) ∙ ap (read_first (record { name = m; outcome = Good v })) (k v h.1)

step_alike : (st : Step) (slots : List ℕ) (f g : ℕ → Outcome) (F G : ℕ → Value → Evaluation) → ((s : ℕ) (v : Value) → AreSame f g (F s v) (G s v)) →
    AreSame f g (after_step st slots f F) (after_step st slots g G)
step_alike (Done v) slots f g F G k h = refl
step_alike (Fail x) slots f g F G k h = refl
step_alike (Read s) slots f g F G k h = read_alike f g (slice_index slots s) (g (slice_index slots s)) (F s) (G s) refl (k s) h

asked_alike : (t : ℕ) (hosts : Hosts) (r : Recipe) (f g : ℕ → Outcome) (known : List Known) →
    AreSame f g (asked_within t hosts r f known) (asked_within t hosts r g known)
asked_alike zero hosts r f g known = λ h. refl
asked_alike (suc t) hosts r f g known =
    step_alike (recipe_answer hosts r known) r.slots f g (λ s v. asked_within t hosts r f (learnt known s v))
    (λ s v. asked_within t hosts r g (learnt known s v))
    (λ s v. asked_alike t hosts r f g (learnt known s v))

-- each member of the first is one of the second
abbrev Within : List ℕ → List ℕ → Type 0
Within P Q = (x : ℕ) → is_in x P ≡ true → is_in x Q ≡ true

within_more : (k : ℕ) (P Q : List ℕ) → Within P Q → Within (k ∷ P) (k ∷ Q)
within_more k P Q h x = go (x == k) (is_in x P) (h x)
  where
    go : (b p : Bool) → (p ≡ true → is_in x Q ≡ true) → (b || p) ≡ true → (b || is_in x Q) ≡ true
    go true p f e = refl
    go false p f e = f e

within_off : (n : ℕ) (P Q : List ℕ) → Within P Q → is_in n Q ≡ false → is_in n P ≡ false
within_off n P Q h off = elim (tested (is_in n P)) [ inl on ↦ cc (h n on) | inr e ↦ e ]

pub all_at : (P : ℕ → Type 0) (ss : List Seen) (n : ℕ) → AllByRecursion (λ (s : Seen). P s.name) ss → IsRead n ss → P n
all_at P [] n h r = absurd r
all_at P (s ∷ ss) n h (inl e) = subst P (sym e) h.0
all_at P (s ∷ ss) n h (inr r) = all_at P ss n h.1 r

pub all_by : (P : ℕ → Type 0) (ss : List Seen) → ((n : ℕ) → IsRead n ss → P n) → AllByRecursion (λ (s : Seen). P s.name) ss
all_by P [] f = tt
all_by P (s ∷ ss) f = (f s.name (inl refl), all_by P ss (λ n r. f n (inr r)))

within_tail : (k : ℕ) (Q : List ℕ) → Within Q (k ∷ Q)
within_tail k Q x h = go (x == k) h
  where
    go : (b : Bool) → is_in x Q ≡ true → (b || is_in x Q) ≡ true
    go true e = refl
    go false e = e

is_in-head : (m : ℕ) (Q : List ℕ) → is_in m (m ∷ Q) ≡ true
is_in-head m Q = let e : (m == m) ≡ true = eq-eqb m m refl in rw e refl

module _ (hosts : Hosts) (w : Signals) where
  pub value_run : (n : ℕ) (Q : List ℕ) (c : Computed) → standing w n ≡ IsComputed c → is_in n Q ≡ false →
      value_of hosts w n Q ≡ (evaluated hosts w c Q).outcome
  value_run n Q c e off = value_by_cases hosts w n Q ∙ (λ i. value_case (e i) (off i) (λ d. (evaluated hosts w d Q).outcome))

  pub value_in : (n : ℕ) (Q : List ℕ) (c : Computed) → standing w n ≡ IsComputed c → is_in n Q ≡ true → value_of hosts w n Q ≡ Bad Cycle
  value_in n Q c e on = value_by_cases hosts w n Q ∙ (λ i. value_case (e i) (on i) (λ d. (evaluated hosts w d Q).outcome))

  pub value_gone : (n : ℕ) (Q : List ℕ) → standing w n ≡ IsGone → value_of hosts w n Q ≡ Bad Gone
  value_gone n Q e = value_by_cases hosts w n Q ∙ (λ i. value_case (e i) (is_in n Q) (λ d. (evaluated hosts w d Q).outcome))

  pub value_cell : (n : ℕ) (Q : List ℕ) (c : Cell) → standing w n ≡ IsCell c → value_of hosts w n Q ≡ Good c.value
  value_cell n Q c e = value_by_cases hosts w n Q ∙ (λ i. value_case (e i) (is_in n Q) (λ d. (evaluated hosts w d Q).outcome))

  pub name_is : (n : ℕ) (c : Computed) → standing w n ≡ IsComputed c → n ≡ c.name
  name_is n c e = computed_at-name n w.computeds c (stands-computed w n c e)

  pub left_less : (n : ℕ) (Q : List ℕ) (c : Computed) → standing w n ≡ IsComputed c → is_in n Q ≡ false →
      names_left w.computeds Q ≡ suc (names_left w.computeds (c.name ∷ Q))
  left_less n Q c e off = left-here n w.computeds Q c (stands-computed w n c e) off ∙ ap (λ k. suc (names_left w.computeds (k ∷ Q))) (name_is n c e)

  -- With more on the path a value is the same or the fault cycle.
  more_path : (d : ℕ) (n : ℕ) (P Q : List ℕ) → Within P Q → names_left w.computeds Q < d →
      (is_cycle (value_of hosts w n Q) ≡ true) ⊎ (value_of hosts w n Q ≡ value_of hosts w n P)
  more_path zero n P Q h lt = absurd (omega arith)
  more_path (suc d) n P Q h lt = go (standing w n) refl (λ k m less. more_path d m (k ∷ P) (k ∷ Q) (within_more k P Q h) less)
    where
      go : (s : Stands) → standing w n ≡ s → ((k m : ℕ) → names_left w.computeds (k ∷ Q) < d →
          (is_cycle (value_of hosts w m (k ∷ Q)) ≡ true) ⊎ (value_of hosts w m (k ∷ Q) ≡ value_of hosts w m (k ∷ P))) →
          (is_cycle (value_of hosts w n Q) ≡ true) ⊎ (value_of hosts w n Q ≡ value_of hosts w n P)
      go IsGone e f = inr (value_gone n Q e ∙ sym (value_gone n P e))
      go (IsCell c) e f = inr (value_cell n Q c e ∙ sym (value_cell n P c e))
      go (IsComputed c) e f = elim (tested (is_in n Q)) [
        | inl on ↦ inl (ap is_cycle (value_in n Q c e on))
        | inr off ↦
            let less : names_left w.computeds (c.name ∷ Q) < d = omega (arith, left_less n Q c e off) in
            let was : value_of hosts w n Q ≡ (evaluated hosts w c Q).outcome = value_run n Q c e off in
            let is : value_of hosts w n P ≡ (evaluated hosts w c P).outcome = value_run n P c e (within_off n P Q h off) in
            let o : Or (evaluated hosts w c Q) (evaluated hosts w c P) =
            asked_or (suc (unknown_slots (length c.recipe.slots) [])) hosts c.recipe (λ m. value_of hosts w m (c.name ∷ Q))
            (λ m. value_of hosts w m (c.name ∷ P)) (λ m. f c.name m less) [] in
            elim o [ inl cy ↦ inl (ap is_cycle was ∙ cy) | inr same ↦ inr (was ∙ ap (λ (r : Evaluation). r.outcome) same ∙ sym is) ]
      ]

  at_path : (n : ℕ) (P Q : List ℕ) → Within P Q → (is_cycle (value_of hosts w n Q) ≡ true) ⊎ (value_of hosts w n Q ≡ value_of hosts w n P)
  at_path n P Q h = let lt : names_left w.computeds Q < suc (names_left w.computeds Q) =
      omega arith in more_path (suc (names_left w.computeds Q)) n P Q h lt

  -- a run that doesn't end with the fault cycle is that with no path
  run_free : (c : Computed) (Q : List ℕ) → is_cycle (evaluated hosts w c Q).outcome ≡ false → evaluated hosts w c Q ≡ evaluated hosts w c []
  run_free c Q fine =
      let o : Or (evaluated hosts w c Q) (evaluated hosts w c []) =
      asked_or (suc (unknown_slots (length c.recipe.slots) [])) hosts c.recipe (λ m. value_of hosts w m (c.name ∷ Q))
      (λ m. value_of hosts w m (c.name ∷ []))
      (λ m. at_path m (c.name ∷ []) (c.name ∷ Q) (within_more c.name [] Q (λ x e. cc))) [] in
      elim o [ inl cy ↦ cc | inr same ↦ same ]

  off_path : (n : ℕ) (Q : List ℕ) (c : Computed) → standing w n ≡ IsComputed c → is_cycle (value_of hosts w n Q) ≡ false → is_in n Q ≡ false
  off_path n Q c e fine = elim (tested (is_in n Q)) [ inl on ↦ cc (ap is_cycle (value_in n Q c e on)) | inr off ↦ off ]

  -- what a fine value reads is fine, with the reader on the path
  pub fine_read : (n b : ℕ) (Q : List ℕ) (r : Reads hosts w n b) → is_cycle (value_of hosts w n Q) ≡ false →
      is_cycle (value_of hosts w b (r.computed.name ∷ Q)) ≡ false
  fine_read n b Q r fine =
      let c : Computed = r.computed in
      let off : is_in n Q ≡ false = off_path n Q c r.stands fine in
      let out : is_cycle (evaluated hosts w c Q).outcome ≡ false = ap is_cycle (sym (value_run n Q c r.stands off)) ∙ fine in
      all_at (λ m. is_cycle (value_of hosts w m (c.name ∷ Q)) ≡ false) (reads_of hosts w c) b
      (subst (λ (x : Evaluation). AllByRecursion (λ (s : Seen). is_cycle (value_of hosts w s.name (c.name ∷ Q)) ≡ false) x.reads) (run_free c Q out)
      (asked_fine (suc (unknown_slots (length c.recipe.slots) [])) hosts c.recipe (λ m. value_of hosts w m (c.name ∷ Q)) [] out)) r.read

  pub goes_on : {a b c : ℕ} → Leads hosts w a b → Leads hosts w b c → Leads hosts w a c
  goes_on (one r) h = more r h
  goes_on (more r g) h = more r (goes_on g h)

  -- a path at which the end is fine
  record Reached (b : ℕ) (Q : List ℕ) : Type 0 where
    path : List ℕ
    fine : is_cycle (value_of hosts w b path) ≡ false
    holds : Within Q path

  reach : {m b : ℕ} (g : Leads hosts w m b) (Q : List ℕ) → is_cycle (value_of hosts w m Q) ≡ false → Reached b (m ∷ Q)
  reach {m} {b} (one r) Q fine =
      let e : m ≡ r.computed.name = name_is m r.computed r.stands in
      record { path = r.computed.name ∷ Q; fine = fine_read m b Q r fine; holds = λ x h. subst (λ k. is_in x (k ∷ Q) ≡ true) e h }
  reach {m} {b} (more {b = k} r g) Q fine =
      let e : m ≡ r.computed.name = name_is m r.computed r.stands in
      let next : Reached b (k ∷ r.computed.name ∷ Q) = reach g (r.computed.name ∷ Q) (fine_read m k Q r fine) in
      record {
        path = next.path;
        fine = next.fine;
        holds =
            λ x h. next.holds x (within_tail k (r.computed.name ∷ Q) x (subst (λ i. is_in x (i ∷ Q) ≡ true) e h));
      }

  first_read : {m b : ℕ} → Leads hosts w m b → (c : Computed) × (standing w m ≡ IsComputed c)
  first_read (one r) = (r.computed, r.stands)
  first_read (more r g) = (r.computed, r.stands)

  pub no_loop : (m : ℕ) (Q : List ℕ) → is_cycle (value_of hosts w m Q) ≡ false → Leads hosts w m m → ⊥
  no_loop m Q fine g =
      let r : Reached m (m ∷ Q) = reach g Q fine in
      let c : (c : Computed) × (standing w m ≡ IsComputed c) = first_read g in
      let on : is_in m r.path ≡ true = r.holds m (is_in-head m Q) in
      let bad : is_cycle (value_of hosts w m r.path) ≡ true = ap is_cycle (value_in m r.path c.0 c.1 on) in
      let good : is_cycle (value_of hosts w m r.path) ≡ false = r.fine in
      cc (sym bad ∙ good)

  -- the members of R that aren't of Q lead to n
  abbrev AllLead : ℕ → List ℕ → List ℕ → Type 0
  AllLead n Q R = (x : ℕ) → is_in x R ≡ true → (is_in x Q ≡ true) ⊎ Leads hosts w x n

  leads_more : (n k : ℕ) (Q R : List ℕ) → AllLead n Q R → AllLead n (k ∷ Q) (k ∷ R)
  leads_more n k Q R h x = go (x == k) (is_in x R) (h x)
    where
      go : (b p : Bool) → (p ≡ true → (is_in x Q ≡ true) ⊎ Leads hosts w x n) → (b || p) ≡ true → ((b || is_in x Q) ≡ true) ⊎ Leads hosts w x n
      go true p f e = inl refl
      go false p f e = f e

  abbrev Comes : ℕ → ℕ → Type 0
  Comes n m = (n ≡ m) ⊎ Leads hosts w n m

  comes_on : {n m b : ℕ} → Comes n m → Reads hosts w m b → Leads hosts w n b
  comes_on {n} {m} {b} (inl e) r = subst (λ k. Leads hosts w k b) (sym e) (one r)
  comes_on (inr g) r = goes_on g (one r)

  loops : {n m : ℕ} → Comes n m → Leads hosts w m n → Leads hosts w m m
  loops {n} {m} (inl e) g = subst (λ k. Leads hosts w m k) e g
  loops (inr h) g = goes_on g h

  same_value : (d : ℕ) (n m : ℕ) (Q R : List ℕ) → AllLead n Q R → Within Q R → Comes n m → is_cycle (value_of hosts w m Q) ≡ false →
      names_left w.computeds R < d →
      value_of hosts w m R ≡ value_of hosts w m Q
  same_value zero n m Q R leads h comes fine lt = absurd (omega arith)
  same_value (suc d) n m Q R leads h comes fine lt =
      go (standing w m) refl (λ k b g f less. same_value d n b (k ∷ Q) (k ∷ R) (leads_more n k Q R leads) (within_more k Q R h) (inr g) f less)
    where
      go : (s : Stands) → standing w m ≡ s →
          ((k b : ℕ) → Leads hosts w n b → is_cycle (value_of hosts w b (k ∷ Q)) ≡ false → names_left w.computeds (k ∷ R) < d →
          value_of hosts w b (k ∷ R) ≡ value_of hosts w b (k ∷ Q)) →
          value_of hosts w m R ≡ value_of hosts w m Q
      go IsGone e f = value_gone m R e ∙ sym (value_gone m Q e)
      go (IsCell c) e f = value_cell m R c e ∙ sym (value_cell m Q c e)
      go (IsComputed c) e f =
          let offQ : is_in m Q ≡ false = off_path m Q c e fine in
          elim (tested (is_in m R)) [
            | inl on ↦ elim (leads m on) [ inl inQ ↦ cc | inr g ↦ absurd (no_loop m Q fine (loops comes g)) ]
            | inr off ↦
                let less : names_left w.computeds (c.name ∷ R) < d = omega (arith, left_less m R c e off) in
                let is : value_of hosts w m Q ≡ (evaluated hosts w c Q).outcome = value_run m Q c e offQ in
                let free : evaluated hosts w c Q ≡ evaluated hosts w c [] = run_free c Q (ap is_cycle (sym is) ∙ fine) in
                let reader : (b : ℕ) → IsRead b (reads_of hosts w c) → Reads hosts w m b = λ b r. record { computed = c; stands = e; read = r } in
                let each : AllByRecursion (λ (s : Seen). value_of hosts w s.name (c.name ∷ R) ≡ value_of hosts w s.name (c.name ∷ Q))
                (reads_of hosts w c) =
                all_by (λ b. value_of hosts w b (c.name ∷ R) ≡ value_of hosts w b (c.name ∷ Q)) (reads_of hosts w c)
                (λ b r. f c.name b (comes_on comes (reader b r)) (fine_read m b Q (reader b r) fine) less) in
                value_run m R c e off
                ∙ ap (λ (x : Evaluation). x.outcome) (asked_alike (suc (unknown_slots (length c.recipe.slots) [])) hosts c.recipe
                (λ b. value_of hosts w b (c.name ∷ R)) (λ b. value_of hosts w b (c.name ∷ Q)) []
                (subst (λ (x : Evaluation). AllByRecursion
                (λ (s : Seen). value_of hosts w s.name (c.name ∷ R) ≡ value_of hosts w s.name (c.name ∷ Q)) x.reads) (sym free) each))
                ∙ sym is
          ]

  pub chain_goes : (path : List ℕ) (n x : ℕ) → IsChain hosts w n path → is_in x path ≡ true → Leads hosts w x n
  chain_goes [] n x c h = cc
  chain_goes (p ∷ ps) n x c h = go (x == p) refl h
      (λ on. goes_on (chain_goes ps p x c.1 on) (one c.0))
    where
      go : (b : Bool) → (x == p) ≡ b → (b || is_in x ps) ≡ true → (is_in x ps ≡ true → Leads hosts w x n) → Leads hosts w x n
      go true e k f = subst (λ i. Leads hosts w i n) (sym (eqb-true x p e)) (one c.0)
      go false e k f = f k

  pub along_path : (n : ℕ) (path : List ℕ) → IsChain hosts w n path → value_of hosts w n path ≡ value_of hosts w n []
  along_path n path chain =
      let sub : Within [] path = λ x e. cc in
      elim (tested (is_cycle (value_of hosts w n []))) [
        | inl cy ↦ elim (at_path n [] path sub) [
          | inl bad ↦ is_cycle-true (value_of hosts w n path) bad ∙ sym (is_cycle-true (value_of hosts w n []) cy)
          | inr same ↦ same
        ]
        | inr fine ↦
            let lt : names_left w.computeds path < suc (names_left w.computeds path) = omega arith in
            same_value (suc (names_left w.computeds path)) n n [] path (λ x on. inr (chain_goes path n x chain on)) sub (inl refl) fine lt
      ]

  -- what a fine value leads to is fine at some path
  fine_end : (n m : ℕ) (path : List ℕ) → Comes n m → is_cycle (value_of hosts w n path) ≡ false →
      (Q : List ℕ) × (is_cycle (value_of hosts w m Q) ≡ false)
  fine_end n m path (inl e) fine = (path, subst (λ k. is_cycle (value_of hosts w k path) ≡ false) e fine)
  fine_end n m path (inr g) fine = let r : Reached m (n ∷ path) = reach g path fine in (r.path, r.fine)

  pub on_cycle : (n m : ℕ) (path : List ℕ) → Comes n m → Leads hosts w m m → value_of hosts w n path ≡ Bad Cycle
  on_cycle n m path comes loop =
      elim (tested (is_cycle (value_of hosts w n path))) [
        | inl cy ↦ is_cycle-true (value_of hosts w n path) cy
        | inr fine ↦ let end : (Q : List ℕ) × (is_cycle (value_of hosts w m Q) ≡ false) =
            fine_end n m path comes fine in absurd (no_loop m end.0 end.1 loop)
      ]

pub path_law : PathLaw
path_law hosts w n path chain = along_path hosts w n path chain

pub cycle_law : CycleLaw
cycle_law hosts w n m path comes loop = on_cycle hosts w n m path comes loop
