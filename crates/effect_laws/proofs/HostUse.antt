-- Each host formula is used by one computed at most, and its asks are those of the runs that were told.
use Rattle.std.proofs.Common.{◌≡◌, ℕ, zero, suc, ◌+◌, ◌==◌, Bool, true, false, cond, List, [], ◌∷◌, ◌++◌, slice_get, replicate, Option, Some, None}
use Rattle.std.proofs.Common.{refl, sym, ap, ◌∙◌, subst, arith, ◌⊎◌, inl, inr, set as put_at}
use Rattle.std.proofs.lemmas.Bool.{eqb-true, eq-eqb}
use Rattle.std.proofs.lemmas.Bool.Decides.{nat_tests}
use Rattle.std.specs.List.{AllByRecursion}
use Rattle.signal_model.specs.Recipes.{Hosts, Recipe, Expression, formula, host}
use Rattle.signal_model.specs.Signals.{Signals, Computed, IsComputed, standing, computed_at, changed, without}
use Rattle.signal_model.specs.Settling.{Run, settled}
use Rattle.signal_model.specs.Asks.{Moment, moments, is_host, asks_host, good_reads, asks_of}
use Rattle.signal_model.proofs.Shared.{tested, stands-computed}
use Rattle.signal_laws.specs.RunLaws.{IsScratchRun}
use Rattle.signal_laws.proofs.Shared.{all_append, scratch_runs_law, found_other, found_same, found_out, found_left}
use Rattle.effect_model.specs.Worlds.{Environment, HostState, unused, used, dropped, World, asked_more, asked_by}
use Rattle.effect_model.specs.Acts.{host_of, asks_so_far, is_free}
use Rattle.effect_model.specs.Commands.{new_world, after_commands}
use Rattle.effect_laws.specs.HostUse.{is_used, HaveHosts, Drop, drops_told, HostLaw}
use Rattle.effect_laws.specs.KeptWorlds.{runs_told}
use Rattle.effect_laws.proofs.Changes.{Core, used_states, dropped_states, drops_more, core_of, IsFree, IsHostOf, IsKeptByChanges, commands_keep}

-- ---- host formulas that are used or dropped

below : (k i : ℕ) → (suc k == suc i) ≡ false → (k == i) ≡ false
below k i h = grind (arith, nat_tests)

set_other : (ps : List HostState) (i : ℕ) (x : HostState) (k : ℕ) → (k == i) ≡ false → slice_get (put_at ps i x) k ≡ slice_get ps k
set_other [] i x k h = refl
set_other (p ∷ ps) zero x zero h = cc
set_other (p ∷ ps) zero x (suc k) h = refl
set_other (p ∷ ps) (suc i) x zero h = refl
set_other (p ∷ ps) (suc i) x (suc k) h = set_other ps i x k (below k i h)

set_used : (ps : List HostState) (i : ℕ) → is_free (slice_get ps i) ≡ true → is_used (slice_get (put_at ps i (used 0)) i) ≡ true
set_used [] i h = cc
set_used (p ∷ ps) zero h = refl
set_used (p ∷ ps) (suc i) h = set_used ps i h

-- what is used isn't free
apart : (ps : List HostState) (i k : ℕ) → is_free (slice_get ps i) ≡ true → is_used (slice_get ps k) ≡ true → (k == i) ≡ false
apart ps i k f u = elim (tested (k == i)) [
  | inr e ↦ e
  | inl e ↦
      absurd (no (slice_get ps i) f (subst (λ j. is_used (slice_get ps j) ≡ true) (eqb-true k i e) u))
]
  where
    no : (x : Option HostState) → is_free x ≡ true → is_used x ≡ true → ⊥
    no None f u = cc
    no (Some unused) f u = cc
    no (Some (used a)) f u = cc
    no (Some (dropped a)) f u = cc

-- where another place is dropped, or used, this one stays
drop_stays : (p : Option ℕ) (ps : List HostState) (k : ℕ) → (p ≡ Some k → ⊥) → slice_get (dropped_states p ps) k ≡ slice_get ps k
drop_stays None ps k h = refl
drop_stays (Some j) ps k h =
    set_other ps j (dropped (asks_so_far (slice_get ps j))) k
    (elim (tested (k == j)) [ inr e ↦ e | inl e ↦ absurd (h (ap Some (sym (eqb-true k j e)))) ])

use_stays : (p : Option ℕ) (ps : List HostState) (k : ℕ) → ((j : ℕ) → p ≡ Some j → is_free (slice_get ps j) ≡ true) →
    is_used (slice_get ps k) ≡ true → slice_get (used_states p ps) k ≡ slice_get ps k
use_stays None ps k h u = refl
use_stays (Some j) ps k h u = set_other ps j (used 0) k (apart ps j k (h j refl) u)

-- neither a use nor a drop changes how often a host formula was asked
use_asks : (p : Option ℕ) (ps : List HostState) (k : ℕ) → IsFree p ps → asks_so_far (slice_get (used_states p ps) k) ≡ asks_so_far (slice_get ps k)
use_asks None ps k free = refl
use_asks (Some j) ps k free = elim (tested (k == j)) [
  | inr e ↦ ap asks_so_far (set_other ps j (used 0) k e)
  | inl e ↦ subst (λ i. asks_so_far (slice_get (put_at ps j (used 0)) i) ≡ asks_so_far (slice_get ps i)) (sym (eqb-true k j e))
      (here ps j (free j refl))
]
  where
    here : (ps : List HostState) (j : ℕ) → is_free (slice_get ps j) ≡ true →
        asks_so_far (slice_get (put_at ps j (used 0)) j) ≡ asks_so_far (slice_get ps j)
    here [] j f = cc
    here (unused ∷ ps) zero f = refl
    here (used a ∷ ps) zero f = cc
    here (dropped a ∷ ps) zero f = cc
    here (p ∷ ps) (suc j) f = here ps j f

drop_asks : (p : Option ℕ) (ps : List HostState) (k : ℕ) → asks_so_far (slice_get (dropped_states p ps) k) ≡ asks_so_far (slice_get ps k)
drop_asks None ps k = refl
drop_asks (Some j) ps k = elim (tested (k == j)) [
  | inr e ↦ ap asks_so_far (set_other ps j (dropped (asks_so_far (slice_get ps j))) k e)
  | inl e ↦ subst (λ i. asks_so_far (slice_get (put_at ps j (dropped (asks_so_far (slice_get ps j)))) i) ≡ asks_so_far (slice_get ps i))
      (sym (eqb-true k j e)) (here ps j)
]
  where
    here : (ps : List HostState) (j : ℕ) →
        asks_so_far (slice_get (put_at ps j (dropped (asks_so_far (slice_get ps j)))) j) ≡ asks_so_far (slice_get ps j)
    here [] j = refl
    here (p ∷ ps) zero = refl
    here (p ∷ ps) (suc j) = here ps j

-- ---- another recipe

some_is : (x y : Computed) → Some x ≡ Some y → x ≡ y
some_is x y e = cc

-- the computeds with another recipe of one
abbrev renewed : ℕ → Recipe → List Computed → List Computed
renewed n r cs = changed (λ (c : Computed). c.name) n (λ c. record c { recipe = r }) cs

-- a computed afterwards is that one with the recipe, or one of before
after_recipe : (n : ℕ) (r : Recipe) (cs : List Computed) (c : Computed) (m : ℕ) (d : Computed) → computed_at n cs ≡ Some c →
    computed_at m (renewed n r cs) ≡ Some d →
    ((m ≡ n) × (d.recipe ≡ r)) ⊎ (((m == n) ≡ false) × (computed_at m cs ≡ Some d))
after_recipe n r cs c m d at h = elim (tested (m == n)) [
  | inl e ↦
      let k : m ≡ n = eqb-true m n e in
      let s : computed_at n (renewed n r cs) ≡ Some d = subst (λ x. computed_at x (renewed n r cs) ≡ Some d) k h in
      let t : record c { recipe = r }
      ≡ d = some_is (record c { recipe = r }) d (sym (found_same (λ (c : Computed). c.name) n (λ c. record c { recipe = r }) cs c (λ d. refl) at) ∙ s) in
      inl (k, sym (ap (λ (x : Computed). x.recipe) t))
  | inr e ↦ inr (e, sym (found_other (λ (c : Computed). c.name) m n (λ c. record c { recipe = r }) cs (λ d. refl) e) ∙ h)
]

clash : (ps : List HostState) (k : ℕ) → is_free (slice_get ps k) ≡ true → is_used (slice_get ps k) ≡ true → ⊥
clash ps k f u = let e : (k == k) ≡ false = apart ps k k f u in let t : (k == k) ≡ true = eq-eqb k k refl in cc

rewired : (n : ℕ) (r : Recipe) (cs : List Computed) (ps : List HostState) (c : Computed) → computed_at n cs ≡ Some c →
    ((j : ℕ) → host_of r.expression ≡ Some j → is_free (slice_get ps j) ≡ true) → HaveHosts cs ps →
    HaveHosts (renewed n r cs) (dropped_states (host_of c.recipe.expression) (used_states (host_of r.expression) ps))
rewired n r cs ps c at free a = record { there = there; own = own }
  where
    old : Option ℕ
    old = host_of c.recipe.expression

    fresh : (k : ℕ) → host_of r.expression ≡ Some k → is_used (slice_get (used_states (host_of r.expression) ps) k) ≡ true
    fresh k h = subst (λ p. is_used (slice_get (used_states p ps) k) ≡ true) (sym h) (set_used ps k (free k h))

    there : (m : ℕ) (d : Computed) (k : ℕ) → computed_at m (renewed n r cs) ≡ Some d → host_of d.recipe.expression ≡ Some k →
        is_used (slice_get (dropped_states old (used_states (host_of r.expression) ps)) k) ≡ true
    there m d k h e = elim (after_recipe n r cs c m d at h) [
      | inl x ↦
          let p : host_of r.expression ≡ Some k = ap (λ (y : Recipe). host_of y.expression) (sym x.1) ∙ e in
          ap is_used (drop_stays old (used_states (host_of r.expression) ps) k (λ g. clash ps k (free k p) (a.there n c k at g))) ∙ fresh k p
      | inr x ↦
          let u : is_used (slice_get ps k) ≡ true = a.there m d k x.1 e in
          ap is_used (drop_stays old (used_states (host_of r.expression) ps) k (λ g. differ m (a.own m n d c k x.1 at e g) x.0))
          ∙ (ap is_used (use_stays (host_of r.expression) ps k free u) ∙ u)
    ]
      where
        differ : (m : ℕ) → m ≡ n → (m == n) ≡ false → ⊥
        differ m same off = let t : (m == n) ≡ true = eq-eqb m n same in cc

    own : (m i : ℕ) (d e : Computed) (k : ℕ) → computed_at m (renewed n r cs) ≡ Some d → computed_at i (renewed n r cs) ≡ Some e →
        host_of d.recipe.expression ≡ Some k → host_of e.recipe.expression ≡ Some k → m ≡ i
    own m i d e k h j x y = elim (after_recipe n r cs c m d at h) [
      | inl u ↦ elim (after_recipe n r cs c i e at j) [
        | inl v ↦ u.0 ∙ sym v.0
        | inr v ↦ absurd (clash ps k (free k (ap (λ (z : Recipe). host_of z.expression) (sym u.1) ∙ x)) (a.there i e k v.1 y))
      ]
      | inr u ↦ elim (after_recipe n r cs c i e at j) [
        | inl v ↦ absurd (clash ps k (free k (ap (λ (z : Recipe). host_of z.expression) (sym v.1) ∙ y)) (a.there m d k u.1 x))
        | inr v ↦ a.own m i d e k u.1 v.1 x y
      ]
    ]

-- ---- an end

left_alone : (n : ℕ) (cs : List Computed) (m : ℕ) (d : Computed) → computed_at m (without (λ (c : Computed). c.name) n cs) ≡ Some d →
    ((m == n) ≡ false) × (computed_at m cs ≡ Some d)
left_alone n cs m d h = elim (tested (m == n)) [
  | inl e ↦
      let s : computed_at n (without (λ (c : Computed). c.name) n cs)
      ≡ Some d = subst (λ x. computed_at x (without (λ (c : Computed). c.name) n cs) ≡ Some d) (eqb-true m n e) h in
      let o : computed_at n (without (λ (c : Computed). c.name) n cs) ≡ None = found_out (λ (c : Computed). c.name) n cs in
      absurd (no _ s o)
  | inr e ↦ (e, sym (found_left (λ (c : Computed). c.name) m n cs e) ∙ h)
]
  where
    no : (x : Option Computed) → x ≡ Some d → x ≡ None → ⊥
    no None s o = cc
    no (Some y) s o = cc

-- a place that is dropped was that of the computed that ends, or of none
ends_of : (n : ℕ) (cs : List Computed) (ps : List HostState) (p : Option ℕ) →
    ((k : ℕ) → p ≡ Some k → (c : Computed) × (computed_at n cs ≡ Some c) × (host_of c.recipe.expression ≡ Some k)) → HaveHosts cs ps →
    HaveHosts (without (λ (c : Computed). c.name) n cs) (dropped_states p ps)
ends_of n cs ps p was a = record {
  there = λ m d k h e. let was_there : ((m == n) ≡ false) × (computed_at m cs ≡ Some d) = left_alone n cs m d h in
      ap is_used (drop_stays p ps k
      (λ g. differ m (let z : (c : Computed) × (computed_at n cs ≡ Some c) × (host_of c.recipe.expression ≡ Some k) = was k g in
      a.own m n d z.0 k was_there.1 z.1 e z.2) was_there.0)) ∙ a.there m d k was_there.1 e;
  own = λ m i d e k h j x y. a.own m i d e k (left_alone n cs m d h).1 (left_alone n cs i e j).1 x y;
}
  where
    differ : (m : ℕ) → m ≡ n → (m == n) ≡ false → ⊥
    differ m same off = let t : (m == n) ≡ true = eq-eqb m n same in cc

-- a computed after a making is the new one, or one of before
after_more : (cs : List Computed) (x : Computed) (m : ℕ) (d : Computed) → computed_at m (cs ++ x ∷ []) ≡ Some d →
    (computed_at m cs ≡ Some d) ⊎ ((m ≡ x.name) × (x ≡ d))
after_more [] x m d h = go (m == x.name) refl h
  where
    go : (b : Bool) → (m == x.name) ≡ b → cond b (Some x) None ≡ Some d → (None ≡ Some d) ⊎ ((m ≡ x.name) × (x ≡ d))
    go true e k = inr (eqb-true m x.name e, some_is x d k)
    go false e k = inl k
after_more (c ∷ cs) x m d h = go (m == c.name) h (after_more cs x m d)
  where
    go : (b : Bool) → cond b (Some c) (computed_at m (cs ++ x ∷ [])) ≡ Some d →
        (computed_at m (cs ++ x ∷ []) ≡ Some d → (computed_at m cs ≡ Some d) ⊎ ((m ≡ x.name) × (x ≡ d))) →
        (cond b (Some c) (computed_at m cs) ≡ Some d) ⊎ ((m ≡ x.name) × (x ≡ d))
    go true k f = inl k
    go false k f = f k

more : (cs : List Computed) (ps : List HostState) (x : Computed) →
    ((j : ℕ) → host_of x.recipe.expression ≡ Some j → is_free (slice_get ps j) ≡ true) →
    HaveHosts cs ps → HaveHosts (cs ++ x ∷ []) (used_states (host_of x.recipe.expression) ps)
more cs ps x free a = record { there = there; own = own }
  where
    there : (m : ℕ) (d : Computed) (k : ℕ) → computed_at m (cs ++ x ∷ []) ≡ Some d → host_of d.recipe.expression ≡ Some k →
        is_used (slice_get (used_states (host_of x.recipe.expression) ps) k) ≡ true
    there m d k h e = elim (after_more cs x m d h) [
      | inl o ↦ let u : is_used (slice_get ps k) ≡ true = a.there m d k o e in ap is_used (use_stays (host_of x.recipe.expression) ps k free u) ∙ u
      | inr n ↦
          let p : host_of x.recipe.expression ≡ Some k = ap (λ (y : Computed). host_of y.recipe.expression) n.1 ∙ e in
          subst (λ q. is_used (slice_get (used_states q ps) k) ≡ true) (sym p) (set_used ps k (free k p))
    ]

    own : (m i : ℕ) (d e : Computed) (k : ℕ) → computed_at m (cs ++ x ∷ []) ≡ Some d → computed_at i (cs ++ x ∷ []) ≡ Some e →
        host_of d.recipe.expression ≡ Some k → host_of e.recipe.expression ≡ Some k → m ≡ i
    own m i d e k h j y z = elim (after_more cs x m d h) [
      | inl u ↦ elim (after_more cs x i e j) [
        | inl v ↦ a.own m i d e k u v y z
        | inr v ↦ absurd (clash ps k (free k (ap (λ (q : Computed). host_of q.recipe.expression) v.1 ∙ z)) (a.there m d k u y))
      ]
      | inr u ↦ elim (after_more cs x i e j) [
        | inl v ↦ absurd (clash ps k (free k (ap (λ (q : Computed). host_of q.recipe.expression) u.1 ∙ y)) (a.there i e k v z))
        | inr v ↦ u.0 ∙ sym v.0
      ]
    ]

-- ---- asks

asks_append : (k : ℕ) (ms ns : List Moment) → asks_of k (ms ++ ns) ≡ asks_of k ms + asks_of k ns
asks_append k [] ns = omega arith
asks_append k (m ∷ ms) ns =
    let r : asks_of k (ms ++ ns) ≡ asks_of k ms + asks_of k ns = asks_append k ms ns in omega arith

-- whether a computed has the host formula at a place
asks_its_own : (k : ℕ) (x : Expression) → is_host k x ≡ true → host_of x ≡ Some k
asks_its_own k (formula row t) h = cc
asks_its_own k (host p) h = ap Some (eqb-true p k h)

-- runs ask only host formulas that are used
asks_used : (hosts : Hosts) (w : Signals) (ps : List HostState) (k : ℕ) → HaveHosts w.computeds ps → is_used (slice_get ps k) ≡ false →
    (rs : List Run) →
    AllByRecursion (IsScratchRun hosts w) rs → asks_of k (moments w rs) ≡ 0
asks_used hosts w ps k a off [] h = refl
asks_used hosts w ps k a off (r ∷ rs) h = go (tested (asks_host k (standing w r.name))) (asks_used hosts w ps k a off rs h.1)
  where
    go : (asks_host k (standing w r.name) ≡ true) ⊎ (asks_host k (standing w r.name) ≡ false) → asks_of k (moments w rs) ≡ 0 →
        cond (asks_host k (standing w r.name)) (good_reads r.evaluation.reads + 1) 0 + asks_of k (moments w rs) ≡ 0
    go (inr e) rest = rw e (omega arith)
    go (inl e) rest =
        let x : Computed = h.0.computed in
        let mine : is_host k x.recipe.expression ≡ true = subst (λ s. asks_host k s ≡ true) h.0.stands e in
        let there : is_used (slice_get ps k) ≡ true
        = a.there r.name x k (stands-computed w r.name x h.0.stands) (asks_its_own k x.recipe.expression mine) in
        cc

-- each host formula after these runs, from a place on
state_after : (ms : List Moment) (i : ℕ) (ps : List HostState) (k : ℕ) → (n : ℕ) → (asks_of (i + k) ms ≡ n) →
    asks_so_far (slice_get (asked_by ms i ps) k) ≡ cond (is_used (slice_get ps k)) (asks_so_far (slice_get ps k) + n) (asks_so_far (slice_get ps k))
state_after ms i [] k n e = refl
state_after ms i (p ∷ ps) zero n e = go p (let z : i + 0 ≡ i = omega arith in ap (λ j. asks_of j ms) (sym z) ∙ e)
  where
    go : (p : HostState) → asks_of i ms ≡ n →
        asks_so_far (Some (asked_more (asks_of i ms) p)) ≡ cond (is_used (Some p)) (asks_so_far (Some p) + n) (asks_so_far (Some p))
    go unused f = refl
    go (used a) f = ap (λ m. a + m) f
    go (dropped a) f = refl
state_after ms i (p ∷ ps) (suc k) n e =
    state_after ms (suc i) ps k n (let z : suc i + k ≡ i + suc k = omega arith in ap (λ j. asks_of j ms) z ∙ e)

used_after : (ms : List Moment) (i : ℕ) (ps : List HostState) (k : ℕ) → is_used (slice_get (asked_by ms i ps) k) ≡ is_used (slice_get ps k)
used_after ms i [] k = refl
used_after ms i (unused ∷ ps) zero = refl
used_after ms i (used a ∷ ps) zero = refl
used_after ms i (dropped a ∷ ps) zero = refl
used_after ms i (p ∷ ps) (suc k) = used_after ms (suc i) ps k

-- ---- all changes

-- ---- drops

-- a host formula that was dropped stands as dropped, with the asks that were told
abbrev IsDropped : List HostState → Drop → Type 0
IsDropped hs d = slice_get hs d.place ≡ Some (dropped d.asks)

-- settling leaves it so
dropped_after : (ms : List Moment) (i : ℕ) (hs : List HostState) (d : Drop) → IsDropped hs d → IsDropped (asked_by ms i hs) d
dropped_after ms i hs d h = go ms i hs d.place d.asks h
  where
    go : (ms : List Moment) (i : ℕ) (hs : List HostState) (k a : ℕ) → slice_get hs k ≡ Some (dropped a) →
        slice_get (asked_by ms i hs) k ≡ Some (dropped a)
    go ms i [] k a h = cc
    go ms i (unused ∷ hs) zero a h = cc
    go ms i (used b ∷ hs) zero a h = cc
    go ms i (dropped b ∷ hs) zero a h = h
    go ms i (p ∷ hs) (suc k) a h = go ms (suc i) hs k a h

-- what is dropped is neither free nor used, so a use or a drop is of another
use_dropped : (p : Option ℕ) (hs : List HostState) (d : Drop) → IsFree p hs → IsDropped hs d → IsDropped (used_states p hs) d
use_dropped None hs d free h = h
use_dropped (Some j) hs d free h = elim (tested (d.place == j)) [
  | inr e ↦ set_other hs j (used 0) d.place e ∙ h
  | inl e ↦ absurd (no (slice_get hs j) (ap (slice_get hs) (sym (eqb-true d.place j e)) ∙ h) (free j refl))
]
  where
    no : (x : Option HostState) → x ≡ Some (dropped d.asks) → is_free x ≡ true → ⊥
    no x e f = cc (sym (ap is_free e) ∙ f)

drop_dropped : (p : Option ℕ) (hs : List HostState) (d : Drop) → ((k : ℕ) → p ≡ Some k → is_used (slice_get hs k) ≡ true) → IsDropped hs d →
    IsDropped (dropped_states p hs) d
drop_dropped None hs d there h = h
drop_dropped (Some j) hs d there h = elim (tested (d.place == j)) [
  | inr e ↦ set_other hs j (dropped (asks_so_far (slice_get hs j))) d.place e ∙ h
  | inl e ↦ absurd (no (slice_get hs j) (ap (slice_get hs) (sym (eqb-true d.place j e)) ∙ h) (there j refl))
]
  where
    no : (x : Option HostState) → x ≡ Some (dropped d.asks) → is_used x ≡ true → ⊥
    no x e u = cc (sym (ap is_used e) ∙ u)

-- one that was used stands as dropped afterwards
now_dropped : (hs : List HostState) (j a : ℕ) → is_used (slice_get hs j) ≡ true → slice_get (put_at hs j (dropped a)) j ≡ Some (dropped a)
now_dropped [] j a u = cc
now_dropped (p ∷ hs) zero a u = refl
now_dropped (p ∷ hs) (suc j) a u = now_dropped hs j a u

each_so : (P Q : Drop → Type 0) (ds : List Drop) → ((d : Drop) → P d → Q d) → AllByRecursion P ds → AllByRecursion Q ds
each_so P Q [] f h = tt
each_so P Q (d ∷ ds) f h = (f d h.0, each_so P Q ds f h.1)

-- after a drop of one that is used, if any
drops_stand : (p : Option ℕ) (hs : List HostState) (ds : List Drop) → ((k : ℕ) → p ≡ Some k → is_used (slice_get hs k) ≡ true) →
    AllByRecursion (IsDropped hs) ds → AllByRecursion (IsDropped (dropped_states p hs)) (drops_more p hs ds)
drops_stand None hs ds there h = h
drops_stand (Some k) hs ds there h =
    all_append (IsDropped (dropped_states (Some k) hs)) ds _
    (each_so (IsDropped hs) (IsDropped (dropped_states (Some k) hs)) ds (λ d g. drop_dropped (Some k) hs d there g) h)
    (now_dropped hs k (asks_so_far (slice_get hs k)) (there k refl), tt)

-- ---- all changes

-- the computeds have their host formulas, the asks agree, and what was dropped stands so
abbrev Hosted : Core → Type 0
Hosted c = HaveHosts c.signals.computeds c.host_states × ((k : ℕ) → asks_so_far (slice_get c.host_states k) ≡ asks_of k c.runs)
    × AllByRecursion (IsDropped c.host_states) c.drops

-- the host formula of a computed is used
used_host : (c : Core) (n : ℕ) (old : Option ℕ) → HaveHosts c.signals.computeds c.host_states → IsHostOf c.signals n old → (k : ℕ) → old ≡ Some k →
    is_used (slice_get c.host_states k) ≡ true
used_host c n old a own k e =
    let y : (x : Computed) × (standing c.signals n ≡ IsComputed x) × (host_of x.recipe.expression ≡ Some k) = own k e in
    a.there n y.0 k (stands-computed c.signals n y.0 y.1) y.2

settled_asks : (env : Environment) (names : List ℕ) (c : Core) → Hosted c → (k : ℕ) →
    asks_so_far (slice_get (asked_by (moments c.signals (settled env.hosts c.signals c.memos names).runs) 0 c.host_states) k)
    ≡ asks_of k (c.runs ++ moments c.signals (settled env.hosts c.signals c.memos names).runs)
settled_asks env names c h k =
    state_after ms 0 c.host_states k (asks_of k ms) (ap (λ j. asks_of j ms) zeroed)
    ∙ (go (tested (is_used (slice_get c.host_states k))) ∙ sym (asks_append k c.runs ms))
  where
    ms : List Moment
    ms = moments c.signals (settled env.hosts c.signals c.memos names).runs

    zeroed : 0 + k ≡ k
    zeroed = omega arith

    go : (is_used (slice_get c.host_states k) ≡ true) ⊎ (is_used (slice_get c.host_states k) ≡ false) →
        cond (is_used (slice_get c.host_states k)) (asks_so_far (slice_get c.host_states k) + asks_of k ms) (asks_so_far (slice_get c.host_states k))
        ≡ asks_of k c.runs + asks_of k ms
    go (inl e) = rw e (ap (λ n. n + asks_of k ms) (h.1 k))
    go (inr e) =
        let none : asks_of k ms
        ≡ 0 = asks_used env.hosts c.signals c.host_states k h.0 e (settled env.hosts c.signals c.memos names).runs
        (scratch_runs_law env.hosts c.signals c.memos names) in
        let same : asks_so_far (slice_get c.host_states k) ≡ asks_of k c.runs = h.1 k in
        rw e (omega arith)

changes_host : (env : Environment) → IsKeptByChanges env Hosted
changes_host env = record {
  acts = record {
    edits = record {
      sets = λ n v x c e h. h;
      rewires = λ n r x c e stand free h. (
        rewired n r c.signals.computeds c.host_states x (stands-computed c.signals n x e) free h.0,
        λ k. drop_asks (host_of x.recipe.expression) (used_states (host_of r.expression) c.host_states) k
            ∙ (use_asks (host_of r.expression) c.host_states k free ∙ h.1 k),
        drops_stand (host_of x.recipe.expression) (used_states (host_of r.expression) c.host_states) c.drops
            (λ k f. let u : is_used (slice_get c.host_states k) ≡ true = h.0.there n x k (stands-computed c.signals n x e) f in
            ap is_used (use_stays (host_of r.expression) c.host_states k free u) ∙ u)
            (each_so (IsDropped c.host_states) (IsDropped (used_states (host_of r.expression) c.host_states)) c.drops
            (λ d g. use_dropped (host_of r.expression) c.host_states d free g) h.2),
      );
      ends = λ n old c stands whose h. (
        ends_of n c.signals.computeds c.host_states old
            (λ k e. let y : (x : Computed) × (standing c.signals n ≡ IsComputed x) × (host_of x.recipe.expression ≡ Some k) = whose k e in
            (y.0, stands-computed c.signals n y.0 y.1, y.2)) h.0,
        λ k. drop_asks old c.host_states k ∙ h.1 k,
        drops_stand old c.host_states c.drops (used_host c n old h.0 whose) h.2,
      );
    };
    settles = λ names c h. (
      record {
        there = λ n x k at e. used_after (moments c.signals (settled env.hosts c.signals c.memos names).runs) 0 c.host_states k ∙ h.0.there n x k at e;
        own = h.0.own;
      },
      settled_asks env names c h,
      each_so (IsDropped c.host_states)
          (IsDropped (asked_by (moments c.signals (settled env.hosts c.signals c.memos names).runs) 0 c.host_states)) c.drops
          (λ d g. dropped_after (moments c.signals (settled env.hosts c.signals c.memos names).runs) 0 c.host_states d g) h.2,
    );
  };
  makes_cell = λ v rule c h. h;
  makes_computed = λ r c stand free h. (
    more c.signals.computeds c.host_states (record { name = c.made.signals; recipe = r }) free h.0,
    λ k. use_asks (host_of r.expression) c.host_states k free ∙ h.1 k,
    each_so (IsDropped c.host_states) (IsDropped (used_states (host_of r.expression) c.host_states)) c.drops
        (λ d g. use_dropped (host_of r.expression) c.host_states d free g) h.2,
  );
  makes_others = λ owners pages watchers c h. h;
}

unused_asks : (n k : ℕ) → asks_so_far (slice_get (replicate n unused) k) ≡ 0
unused_asks zero k = refl
unused_asks (suc n) zero = refl
unused_asks (suc n) (suc k) = unused_asks n k

pub host_law : HostLaw
host_law env n cs =
    let w : World = after_commands env (new_world n) cs in
    let h : Hosted (core_of w) = commands_keep env Hosted (changes_host env) cs (new_world n)
    (record { there = λ m x k h e. cc; own = λ m i x y k h j d e. cc }, unused_asks n, tt) in
    let told : (d : Drop) → IsDropped w.host_states d → d.asks ≡ asks_of d.place (runs_told w.told)
    = λ d g. ap asks_so_far (sym g) ∙ h.1 d.place in (
      h.0,
      record {
        kept = h.1;
        told =
            each_so (IsDropped w.host_states) (λ d. d.asks ≡ asks_of d.place (runs_told w.told)) (drops_told w.told) told h.2;
      },
    )
