-- Names settled one list after the other keep to the bound of the one list.
use Rattle.std.proofs.Common.{◌≡◌, ℕ, zero, suc, ◌+◌, ◌*◌, ◌<◌, ◌≤◌, ◌==◌, ◌||◌, Bool, true, false, cond, List, [], ◌∷◌, ◌++◌, map, append_assoc, append-nil, length, length-append, refl, sym, ap, ◌∙◌, subst, arith, ◌⊎◌, inl, inr}
use Rattle.std.specs.List.{AllByRecursion}
use Rattle.std.proofs.lemmas.Bool.{eqb-true}
use Rattle.signal_model.specs.Recipes.{Hosts}
use Rattle.signal_model.specs.Signals.{Signals, Computed, Stands, IsGone, IsCell, IsComputed, is_in, standing}
use Rattle.signal_model.specs.Values.{Seen, evaluated, reads_of, names_left}
use Rattle.signal_model.specs.Orders.{Visit, visited, visits, visit_case, visit_within, visit, order_after, evaluation_order}
use Rattle.signal_model.specs.Memos.{Memos, memo_in, memo_of, sources_in, sources_of, must_run}
use Rattle.signal_model.specs.Settling.{Run, Settled, source_now, with_run, settle_visit, settle_visits, settled}
use Rattle.signal_model.specs.Marks.{Mark, Clean, Checked, Dirty, mark_of}
use Rattle.signal_model.specs.Kept.{AreKept}
use Rattle.signal_model.specs.Laws.{IsRead}
use Rattle.signal_model.proofs.Shared.{name_is, left_less, tested, either, or_left, or_right, visit_by_cases}
use Rattle.signal_laws.proofs.Shared.{all_append, clean_moments_law, places_law, run_other, settle_both_law, settled_clean, settles}
use Rattle.sig_computed.specs.Costs.{kept_count, name_steps, run_steps, unless_clean, visit_steps}
use Rattle.sig_computed.specs.SkipLaws.{BoundBothLaw}
use Rattle.sig_computed.proofs.Counts.{visits_more}

-- ---- sums

-- runs more
runs_more : (rs qs : List Run) → run_steps (rs ++ qs) ≡ run_steps rs + run_steps qs
runs_more [] qs = omega arith
runs_more (r ∷ rs) qs = omega (arith, runs_more rs qs)

-- what is clean costs nothing
clean_steps : (w : Signals) (k : Memos) (vs : List Visit) → AllByRecursion (λ (v : Visit). mark_of w k v.computed.name ≡ Clean) vs → visit_steps w k vs ≡ 0
clean_steps w k [] h = refl
clean_steps w k (v ∷ vs) h =
    let a : name_steps w k v.computed.name ≡ 0 = ap (λ m. unless_clean m (1 + 3 * kept_count k v.computed.name)) h.0 in
    let b : visit_steps w k vs ≡ 0 = clean_steps w k vs h.1 in
    omega (arith, a, b)

-- what is clean wherever another is costs no more
cheaper : (a b : Mark) (n : ℕ) → (b ≡ Clean → a ≡ Clean) → unless_clean a n ≤ unless_clean b n
cheaper a Clean n f = let e : unless_clean a n ≡ 0 = ap (λ m. unless_clean m n) (f refl) in omega (arith, e)
cheaper Clean Checked n f = omega arith
cheaper Checked Checked n f = omega arith
cheaper Dirty Checked n f = omega arith
cheaper Clean Dirty n f = omega arith
cheaper Checked Dirty n f = omega arith
cheaper Dirty Dirty n f = omega arith

-- what is among visits and some more
in_both : (x : ℕ) (us vs : List Visit) → is_in x (visited (us ++ vs)) ≡ (is_in x (visited us) || is_in x (visited vs))
in_both x [] vs = refl
in_both x (u ∷ us) vs = ap (λ b. x == u.computed.name || b) (in_both x us vs) ∙ shift (x == u.computed.name) (is_in x (visited us)) (is_in x (visited vs))
  where
    shift : (a b c : Bool) → (a || (b || c)) ≡ ((a || b) || c)
    shift true b c = refl
    shift false b c = refl

module _ (hosts : Hosts) (w : Signals) where
  -- who isn't visited keeps what it kept
  unvisited : (vs : List Visit) (s : Settled) (n : ℕ) → is_in n (visited vs) ≡ false → memo_of (settle_visits hosts w vs s).memos n ≡ memo_of s.memos n
  unvisited [] s n off = refl
  unvisited (v ∷ vs) s n off =
      let both = apart (n == v.computed.name) (is_in n (visited vs)) off in
      unvisited vs (settle_visit hosts w v s) n both.1 ∙ go (must_run s.memos v.computed.name v.path) both.0
    where
      apart : (a b : Bool) → (a || b) ≡ false → (a ≡ false) × (b ≡ false)
      apart true b e = cc
      apart false b e = (refl, e)

      go : (b : Bool) → (n == v.computed.name) ≡ false → memo_of (cond b (record {
        memos = with_run s.memos v.computed.name (evaluated hosts w v.computed []);
        runs = s.runs ++ record { name = v.computed.name; evaluation = evaluated hosts w v.computed [] } ∷ [];
      }) s).memos n ≡ memo_of s.memos n
      go true other = ap memo_in (run_other s.memos v.computed.name (evaluated hosts w v.computed []).outcome
          (map (source_now s.memos) (evaluated hosts w v.computed []).reads) n other)
      go false other = refl

module _ (hosts : Hosts) (w : Signals) (P : ℕ → Type 0)
    (reads : (n m : ℕ) (c d : Computed) → standing w n ≡ IsComputed c → P n → IsRead m (reads_of hosts w c) → standing w m ≡ IsComputed d → P m) where
  -- visits grew at their end by what has a property
  record AddsOnly (done out : List Visit) : Type 0 where
    more : List Visit
    is : out ≡ done ++ more
    all : AllByRecursion (λ (v : Visit). P v.computed.name) more

  only_none : (done : List Visit) → AddsOnly done done
  only_none done = record { more = []; is = sym (append-nil done); all = tt }

  only_on : (a b c : List Visit) → AddsOnly a b → AddsOnly b c → AddsOnly a c
  only_on a b c f g = record {
    more = f.more ++ g.more;
    is = g.is ∙ ap (λ xs. xs ++ g.more) f.is ∙ append_assoc a f.more g.more;
    all = all_append (λ (v : Visit). P v.computed.name) f.more g.more f.all g.all;
  }

  visits_add : (go : ℕ → List Visit → List Visit) (ss : List Seen) → ((m : ℕ) (vs : List Visit) → IsRead m ss → AddsOnly vs (go m vs)) → (vs : List Visit) →
      AddsOnly vs (visits go ss vs)
  visits_add go [] f vs = only_none vs
  visits_add go (s ∷ ss) f vs = only_on vs (go s.name vs) (visits go ss (go s.name vs)) (f s.name vs (inl refl)) (visits_add go ss (λ m us r. f m us (inr r)) (go s.name vs))

  within_add : (depth : ℕ) (path : List ℕ) (n : ℕ) (vs : List Visit) → ((c : Computed) → standing w n ≡ IsComputed c → P n) → AddsOnly vs (visit_within depth hosts w path n vs)
  within_add zero path n vs has = only_none vs
  within_add (suc depth) path n vs has =
      go (standing w n) refl (is_in n path || is_in n (visited vs))
      (λ c e. visits_add (visit_within depth hosts w (n ∷ path)) (reads_of hosts w c)
      (λ m us r. within_add depth (n ∷ path) m us (λ d st. reads n m c d e (has c e) r st)) vs)
    where
      inner : Computed → List Visit
      inner c = visits (visit_within depth hosts w (n ∷ path)) (reads_of hosts w c) vs

      go : (s : Stands) → standing w n ≡ s → (b : Bool) → ((c : Computed) → standing w n ≡ IsComputed c → AddsOnly vs (inner c)) →
          AddsOnly vs (visit_case s b vs (λ c. inner c ++ record { computed = c; path = path } ∷ []))
      go IsGone e b f = only_none vs
      go (IsCell c) e b f = only_none vs
      go (IsComputed c) e true f = only_none vs
      go (IsComputed c) e false f = only_on vs (inner c) (inner c ++ record { computed = c; path = path } ∷ []) (f c e)
          (record { more = record { computed = c; path = path } ∷ []; is = refl; all = (subst P (name_is hosts w n c e) (has c e), tt) })

  all_in : (vs : List Visit) (x : ℕ) → AllByRecursion (λ (v : Visit). P v.computed.name) vs → is_in x (visited vs) ≡ true → P x
  all_in [] x h on = cc
  all_in (v ∷ vs) x h on = elim (either (x == v.computed.name) (is_in x (visited vs)) on) [
    | inl is ↦ subst P (sym (eqb-true x v.computed.name is)) h.0
    | inr t ↦ all_in vs x h.1 t
  ]

-- ---- going on where names are settled

module _ (hosts : Hosts) (w : Signals) (k : Memos) (asked : List ℕ) (are_kept : AreKept hosts w k) where
  -- the visits for the first names
  abbrev before : List Visit
  before = evaluation_order hosts w asked

  -- what is kept once the first names are settled
  abbrev now : Memos
  now = (settled hosts w k asked).memos

  -- a name that was visited, and is clean
  abbrev IsOld : ℕ → Type 0
  IsOld x = (is_in x (visited before) ≡ true) × (mark_of w now x ≡ Clean)

  old_is : (n : ℕ) (c : Computed) → standing w n ≡ IsComputed c → is_in n (visited before) ≡ true → IsOld n
  old_is n c st on = (on, settled_clean hosts w now asked (settles hosts w k asked are_kept) n c st on)

  old_reads : (n m : ℕ) (c d : Computed) → standing w n ≡ IsComputed c → IsOld n → IsRead m (reads_of hosts w c) → standing w m ≡ IsComputed d → IsOld m
  old_reads n m c d st old read std = old_is m d std ((places_law hosts w asked).closed n m c d old.0 st read std)

  -- Visits that went on from the first, and others that began anew where the first names are settled: the longer list has the names of both,
  -- and costs at least as much.
  record IsDearer (longer shorter : List Visit) : Type 0 where
    names : (x : ℕ) → is_in x (visited longer) ≡ (is_in x (visited shorter) || is_in x (visited before))
    steps : visit_steps w k before + visit_steps w now shorter ≤ visit_steps w k longer

  -- a name that wasn't visited costs no more by now
  cheaper_now : (n : ℕ) → is_in n (visited before) ≡ false → name_steps w now n ≤ name_steps w k n
  cheaper_now n off =
      let same : sources_of now n ≡ sources_of k n = ap sources_in (unvisited hosts w before (record { memos = k; runs = [] }) n off) in
      subst (λ ss. unless_clean (mark_of w now n) (1 + 3 * length ss) ≤ name_steps w k n) (sym same)
      (cheaper (mark_of w now n) (mark_of w k n) (1 + 3 * kept_count k n)
      (λ clean. clean_moments_law hosts w k asked before [] n are_kept (sym (append-nil before)) clean))

  -- a visit by its cases
  visit_stays : (path : List ℕ) (n : ℕ) (done : List Visit) → ((c : Computed) → standing w n ≡ IsComputed c → (is_in n path || is_in n (visited done)) ≡ true) →
      visit hosts w path n done ≡ done
  visit_stays path n done came = visit_by_cases hosts w path n done ∙ go (standing w n) refl
    where
      rest : Computed → List Visit
      rest c = visits (visit hosts w (n ∷ path)) (reads_of hosts w c) done ++ record { computed = c; path = path } ∷ []

      go : (s : Stands) → standing w n ≡ s → visit_case s (is_in n path || is_in n (visited done)) done rest ≡ done
      go IsGone e = refl
      go (IsCell c) e = refl
      go (IsComputed c) e = ap (λ b. cond b done (rest c)) (came c e)

  visit_goes : (path : List ℕ) (n : ℕ) (done : List Visit) (c : Computed) → standing w n ≡ IsComputed c → is_in n path ≡ false → is_in n (visited done) ≡ false →
      visit hosts w path n done ≡ visits (visit hosts w (n ∷ path)) (reads_of hosts w c) done ++ record { computed = c; path = path } ∷ []
  visit_goes path n done c e off new =
      visit_by_cases hosts w path n done
      ∙ (λ i. visit_case (e i) (off i || new i) done
      (λ d. visits (visit hosts w (n ∷ path)) (reads_of hosts w d) done ++ record { computed = d; path = path } ∷ []))

  -- a visit that adds nothing to either
  dearer_stay : (path : List ℕ) (n : ℕ) (longer shorter : List Visit) →
      ((c : Computed) → standing w n ≡ IsComputed c → (is_in n path || is_in n (visited longer)) ≡ true) →
      ((c : Computed) → standing w n ≡ IsComputed c → (is_in n path || is_in n (visited shorter)) ≡ true) →
      IsDearer longer shorter → IsDearer (visit hosts w path n longer) (visit hosts w path n shorter)
  dearer_stay path n longer shorter f g s =
      subst (λ us. IsDearer us (visit hosts w path n shorter)) (sym (visit_stays path n longer f))
      (subst (IsDearer longer) (sym (visit_stays path n shorter g)) s)

  -- a name that is settled adds to the shorter what costs nothing
  dearer_pass : (path : List ℕ) (n : ℕ) (c : Computed) (longer shorter : List Visit) → standing w n ≡ IsComputed c → is_in n (visited before) ≡ true →
      IsDearer longer shorter → IsDearer (visit hosts w path n longer) (visit hosts w path n shorter)
  dearer_pass path n c longer shorter e old s =
      let out : List Visit = visit hosts w path n shorter in
      let a : AddsOnly hosts w IsOld old_reads shorter out =
      within_add hosts w IsOld old_reads (suc (names_left w.computeds path)) path n shorter (λ d st. old_is n d st old) in
      let free : visit_steps w now a.more ≡ 0 = clean_steps w now a.more (cleans a.more a.all) in
      let grown : visit_steps w now out ≡ visit_steps w now shorter + visit_steps w now a.more = ap (visit_steps w now) a.is ∙ visits_more w now shorter a.more in
      let less = s.steps in
      subst (λ us. IsDearer us out) (sym (visit_stays path n longer (λ d st. or_right (is_in n path) (is_in n (visited longer))
      (s.names n ∙ or_right (is_in n (visited shorter)) (is_in n (visited before)) old)))) (record {
        names = λ x. s.names x ∙ swallowed (is_in x (visited shorter)) (is_in x (visited a.more)) (is_in x (visited before))
            (λ on. (all_in hosts w IsOld old_reads a.more x a.all on).0)
            ∙ ap (λ b. b || is_in x (visited before)) (sym (ap (λ vs. is_in x (visited vs)) a.is ∙ in_both x shorter a.more));
        steps = omega (arith, free, grown, less);
      })
    where
      cleans : (vs : List Visit) → AllByRecursion (λ (v : Visit). IsOld v.computed.name) vs → AllByRecursion (λ (v : Visit). mark_of w now v.computed.name ≡ Clean) vs
      cleans [] h = tt
      cleans (v ∷ vs) h = (h.0.1, cleans vs h.1)

      swallowed : (a b d : Bool) → (b ≡ true → d ≡ true) → (a || d) ≡ ((a || b) || d)
      swallowed true b d f = refl
      swallowed false true d f = f refl
      swallowed false false d f = refl

  -- any other is visited in both
  dearer_more : (path : List ℕ) (n : ℕ) (c : Computed) (longer shorter : List Visit) → standing w n ≡ IsComputed c → is_in n path ≡ false →
      is_in n (visited longer) ≡ false → is_in n (visited shorter) ≡ false → is_in n (visited before) ≡ false →
      IsDearer (visits (visit hosts w (n ∷ path)) (reads_of hosts w c) longer) (visits (visit hosts w (n ∷ path)) (reads_of hosts w c) shorter) →
      IsDearer (visit hosts w path n longer) (visit hosts w path n shorter)
  dearer_more path n c longer shorter e off new_long new_short apart s =
      subst (λ xs. IsDearer xs (visit hosts w path n shorter)) (sym (visit_goes path n longer c e off new_long))
      (subst (IsDearer (us ++ v ∷ [])) (sym (visit_goes path n shorter c e off new_short)) (record {
        names = λ x. in_both x us (v ∷ []) ∙ ap (λ b. b || is_in x (c.name ∷ [])) (s.names x)
            ∙ swap (is_in x (visited vs)) (is_in x (visited before)) (is_in x (c.name ∷ []))
            ∙ ap (λ b. b || is_in x (visited before)) (sym (in_both x vs (v ∷ [])));
        steps = omega (arith, long, short, less, cost);
      }))
    where
      v : Visit
      v = record { computed = c; path = path }

      us : List Visit
      us = visits (visit hosts w (n ∷ path)) (reads_of hosts w c) longer

      vs : List Visit
      vs = visits (visit hosts w (n ∷ path)) (reads_of hosts w c) shorter

      swap : (a d b : Bool) → ((a || d) || b) ≡ ((a || b) || d)
      swap true d b = refl
      swap false true true = refl
      swap false true false = refl
      swap false false true = refl
      swap false false false = refl

      long : visit_steps w k (us ++ v ∷ []) ≡ visit_steps w k us + (name_steps w k c.name + 0)
      long = visits_more w k us (v ∷ [])

      short : visit_steps w now (vs ++ v ∷ []) ≡ visit_steps w now vs + (name_steps w now c.name + 0)
      short = visits_more w now vs (v ∷ [])

      less : visit_steps w k before + visit_steps w now vs ≤ visit_steps w k us
      less = s.steps

      cost : name_steps w now c.name ≤ name_steps w k c.name
      cost = cheaper_now c.name (ap (λ y. is_in y (visited before)) (sym (name_is hosts w n c e)) ∙ apart)

  dearer_visits : (path : List ℕ) (ss : List Seen) →
      ((m : ℕ) (us vs : List Visit) → IsDearer us vs → IsDearer (visit hosts w path m us) (visit hosts w path m vs)) →
      (us vs : List Visit) → IsDearer us vs → IsDearer (visits (visit hosts w path) ss us) (visits (visit hosts w path) ss vs)
  dearer_visits path [] f us vs s = s
  dearer_visits path (r ∷ rs) f us vs s =
      dearer_visits path rs f (visit hosts w path r.name us) (visit hosts w path r.name vs) (f r.name us vs s)

  -- so it stays with each visit
  dearer_visit : (far : ℕ) (path : List ℕ) (n : ℕ) (longer shorter : List Visit) → names_left w.computeds path < far →
      IsDearer longer shorter → IsDearer (visit hosts w path n longer) (visit hosts w path n shorter)
  dearer_visit zero path n longer shorter lt s = absurd (omega (arith, lt))
  dearer_visit (suc far) path n longer shorter lt s =
      go (standing w n) refl (tested (is_in n path)) (tested (is_in n (visited shorter))) (tested (is_in n (visited before)))
      (λ m us vs less t. dearer_visit far (n ∷ path) m us vs less t)
    where
      go : (d : Stands) → standing w n ≡ d → (is_in n path ≡ true) ⊎ (is_in n path ≡ false) →
          (is_in n (visited shorter) ≡ true) ⊎ (is_in n (visited shorter) ≡ false) →
          (is_in n (visited before) ≡ true) ⊎ (is_in n (visited before) ≡ false) →
          ((m : ℕ) (us vs : List Visit) → names_left w.computeds (n ∷ path) < far → IsDearer us vs →
          IsDearer (visit hosts w (n ∷ path) m us) (visit hosts w (n ∷ path) m vs)) →
          IsDearer (visit hosts w path n longer) (visit hosts w path n shorter)
      go IsGone e a b d next = dearer_stay path n longer shorter (λ c st. cc (sym e ∙ st)) (λ c st. cc (sym e ∙ st)) s
      go (IsCell x) e a b d next = dearer_stay path n longer shorter (λ c st. cc (sym e ∙ st)) (λ c st. cc (sym e ∙ st)) s
      go (IsComputed c) e (inl on) b d next =
          dearer_stay path n longer shorter (λ x st. or_left (is_in n path) (is_in n (visited longer)) on)
          (λ x st. or_left (is_in n path) (is_in n (visited shorter)) on) s
      go (IsComputed c) e (inr off) (inl was) d next =
          dearer_stay path n longer shorter (λ x st. or_right (is_in n path) (is_in n (visited longer))
          (s.names n ∙ or_left (is_in n (visited shorter)) (is_in n (visited before)) was))
          (λ x st. or_right (is_in n path) (is_in n (visited shorter)) was) s
      go (IsComputed c) e (inr off) (inr new) (inl old) next = dearer_pass path n c longer shorter e old s
      go (IsComputed c) e (inr off) (inr new) (inr apart) next =
          let less : names_left w.computeds path ≡ suc (names_left w.computeds (n ∷ path)) = left_less hosts w n path c e off
          ∙ ap (λ y. suc (names_left w.computeds (y ∷ path))) (sym (name_is hosts w n c e)) in
          dearer_more path n c longer shorter e off (s.names n ∙ (λ i. new i || apart i)) new apart
          (dearer_visits (n ∷ path) (reads_of hosts w c) (λ m us vs t. next m us vs (omega (arith, less, lt)) t) longer shorter s)

  -- for all names that are asked for
  dearer_order : (others : List ℕ) (longer shorter : List Visit) → IsDearer longer shorter →
      IsDearer (order_after hosts w others longer) (order_after hosts w others shorter)
  dearer_order [] longer shorter s = s
  dearer_order (n ∷ others) longer shorter s =
      dearer_order others (visit hosts w [] n longer) (visit hosts w [] n shorter)
      (dearer_visit (suc (names_left w.computeds [])) [] n longer shorter (omega arith) s)

-- the order of two lists of names
order_append : (hosts : Hosts) (w : Signals) (ns ms : List ℕ) (done : List Visit) →
    order_after hosts w (ns ++ ms) done ≡ order_after hosts w ms (order_after hosts w ns done)
order_append hosts w [] ms done = refl
order_append hosts w (n ∷ ns) ms done = order_append hosts w ns ms (visit hosts w [] n done)

-- two lists of names
pub bound_both_law : BoundBothLaw
bound_both_law hosts w k asked others are_kept =
    let s : Settled = settled hosts w k asked in
    let t : Settled = settled hosts w s.memos others in
    let d : IsDearer hosts w k asked are_kept (order_after hosts w others (evaluation_order hosts w asked)) (evaluation_order hosts w others) =
    dearer_order hosts w k asked are_kept others (evaluation_order hosts w asked) [] (record { names = λ x. refl; steps = omega arith }) in
    let visits_are : visit_steps w k (evaluation_order hosts w (asked ++ others)) ≡ visit_steps w k (order_after hosts w others (evaluation_order hosts w asked)) =
    ap (visit_steps w k) (order_append hosts w asked others []) in
    let runs_are : run_steps (settled hosts w k (asked ++ others)).runs ≡ run_steps s.runs + run_steps t.runs =
    ap (λ (y : Settled). run_steps y.runs) (settle_both_law hosts w k asked others are_kept) ∙ runs_more s.runs t.runs in
    let names : length (asked ++ others) ≡ length asked + length others = length-append asked others in
    let less = d.steps in
    omega (arith, visits_are, runs_are, names, less)
