-- Which host formulas are asked, by what stands.
use Rattle.std.proofs.Common.{◌≡◌, ◌==◌, ◌||◌, ◌&&◌, not, ◌+◌, ℕ, zero, suc, Bool, true, false, cond, List, [], ◌∷◌, slice_get, Option, Some, None, refl, sym, ap, ◌∙◌, arith, ◌⊎◌, inl, inr, set as put_at}
use Rattle.std.proofs.lemmas.Bool.{eqb-true, eq-eqb}
use Rattle.std.proofs.lemmas.Bool.Decides.{nat_tests}
use Rattle.std.specs.List.{AllByRecursion}
use Rattle.signal_model.specs.Recipes.{Expression, formula, host}
use Rattle.signal_model.specs.Signals.{Signals, Computed, Stands, IsGone, IsCell, IsComputed, computed_at, standing}
use Rattle.signal_model.specs.Asks.{is_host}
use Rattle.signal_model.proofs.Shared.{either, or_left, or_right, tested, stands-computed}
use Rattle.effect_model.specs.Worlds.{HostState, used, dropped}
use Rattle.effect_model.specs.Acts.{asks_so_far, host_of}
use Rattle.sig_host.specs.Hosts.{HostPlace, count_at, is_there}
use Rattle.sig_host.proofs.Shared.{is_there-dropped, count_at-dropped}
use Rattle.sig_nodes.specs.Answers.{host_here, host_place}
use Rattle.sig_graph.specs.HostUse.{some_asks, uses_host}
use Rattle.sig_computed.specs.Asked.{AreThere}
use Rattle.sig_effect.specs.Stores.{AreListed, AreOwn, AreUnasked}
use Rattle.sig_effect.specs.Results.{dropped_if}
use Rattle.sig_effect.specs.Wholes.{host_states}
use Rattle.sig_effect.proofs.HostStates.{count_used, states_dropped, states_same, states_used}

-- ---- who asks

-- the place of a host formula, by both its words
pub host_same : (e : Expression) → host_of e ≡ host_place e
host_same (formula row t) = refl
host_same (host p) = refl

host_is : (e : Expression) (k : ℕ) → host_place e ≡ Some k → is_host k e ≡ true
host_is (formula row t) k h = cc
host_is (host p) k h = let q : p ≡ k = cc in eq-eqb p k q

pub place_is : (e : Expression) (k : ℕ) → is_host k e ≡ true → host_place e ≡ Some k
place_is (formula row t) k h = cc
place_is (host p) k h = ap (λ n. Some n) (eqb-true p k h)

some_in : (k n : ℕ) (cs : List Computed) (c : Computed) → computed_at n cs ≡ Some c → is_host k c.recipe.expression ≡ true → some_asks k cs ≡ true
some_in k n [] c at h = cc
some_in k n (d ∷ ds) c at h = go (n == d.name) at (some_in k n ds c)
  where
    go : (b : Bool) → cond b (Some d) (computed_at n ds) ≡ Some c → (computed_at n ds ≡ Some c → is_host k c.recipe.expression ≡ true → some_asks k ds ≡ true) →
        (is_host k d.recipe.expression || some_asks k ds) ≡ true
    go true q more = let same : d ≡ c = cc in or_left (is_host k d.recipe.expression) (some_asks k ds) (ap (λ (x : Computed). is_host k x.recipe.expression) same ∙ h)
    go false q more = or_right (is_host k d.recipe.expression) (some_asks k ds) (more q h)

-- what a computed asks that stands is used
pub uses_by : (w : Signals) (n k : ℕ) → host_here (standing w n) ≡ Some k → uses_host w k ≡ true
uses_by w n k h = go (standing w n) refl h
  where
    go : (s : Stands) → standing w n ≡ s → host_here s ≡ Some k → uses_host w k ≡ true
    go IsGone e q = cc
    go (IsCell c) e q = cc
    go (IsComputed c) e q = some_in k n w.computeds c (stands-computed w n c e) (host_is c.recipe.expression k q)

-- who asks a host formula
pub record HasUser (w : Signals) (k : ℕ) : Type 0 where
  pub name : ℕ
  pub at : host_here (standing w name) ≡ Some k

user_in : (w : Signals) (k : ℕ) (cs : List Computed) → AllByRecursion (λ (c : Computed). standing w c.name ≡ IsComputed c) cs → some_asks k cs ≡ true → HasUser w k
user_in w k [] all h = cc
user_in w k (c ∷ cs) all h = elim (either (is_host k c.recipe.expression) (some_asks k cs) h) [
  | inl e ↦ record { name = c.name; at = ap host_here all.0 ∙ place_is c.recipe.expression k e }
  | inr e ↦ user_in w k cs all.1 e
]

-- what is used has one
pub user_of : (w : Signals) (k : ℕ) → AreListed w → uses_host w k ≡ true → HasUser w k
user_of w k all h = user_in w k w.computeds all h

-- ---- an edit of one signal

-- One signal leaves a host formula, or takes one that is free, and the others ask what they asked.
pub record IsEdit (w v : Signals) (n : ℕ) (left new : Option ℕ) : Type 0 where
  pub before : host_here (standing w n) ≡ left
  pub after : host_here (standing v n) ≡ new
  pub other : (m : ℕ) → (m == n) ≡ false → host_here (standing v m) ≡ host_here (standing w m)
  pub listed : AreListed w
  pub still : AreListed v
  pub own : AreOwn w
  pub free : (k : ℕ) → new ≡ Some k → uses_host w k ≡ false

same_test : (a b : Bool) → (a ≡ true → b ≡ true) → (b ≡ true → a ≡ true) → a ≡ b
same_test true true f g = refl
same_test false false f g = refl
same_test true false f g = sym (f refl)
same_test false true f g = g refl

not_both : (b : Bool) → b ≡ true → b ≡ false → ⊥
not_both true t f = cc
not_both false t f = cc

-- what it neither leaves nor takes is used as before
pub uses_other : (w v : Signals) (n : ℕ) (left new : Option ℕ) (j : ℕ) → IsEdit w v n left new → (left ≡ Some j → ⊥) → (new ≡ Some j → ⊥) → uses_host v j ≡ uses_host w j
uses_other w v n left new j e off on = same_test (uses_host v j) (uses_host w j) down up
  where
    down : uses_host v j ≡ true → uses_host w j ≡ true
    down h =
        let u = user_of v j e.still h in
        elim (tested (u.name == n)) [
          | inl q ↦ absurd (on (sym e.after ∙ ap (λ m. host_here (standing v m)) (sym (eqb-true u.name n q)) ∙ u.at))
          | inr q ↦ uses_by w u.name j (sym (e.other u.name q) ∙ u.at)
        ]

    up : uses_host w j ≡ true → uses_host v j ≡ true
    up h =
        let u = user_of w j e.listed h in
        elim (tested (u.name == n)) [
          | inl q ↦ absurd (off (sym e.before ∙ ap (λ m. host_here (standing w m)) (sym (eqb-true u.name n q)) ∙ u.at))
          | inr q ↦ uses_by v u.name j (e.other u.name q ∙ u.at)
        ]

-- what it takes is used
pub uses_new : (w v : Signals) (n : ℕ) (left new : Option ℕ) (k : ℕ) → IsEdit w v n left new → new ≡ Some k → uses_host v k ≡ true
uses_new w v n left new k e q = uses_by v n k (e.after ∙ q)

-- it doesn't take what it leaves
pub left_other : (w v : Signals) (n : ℕ) (left new : Option ℕ) (k : ℕ) → IsEdit w v n left new → left ≡ Some k → new ≡ Some k → ⊥
left_other w v n left new k e p q = not_both (uses_host w k) (uses_by w n k (e.before ∙ p)) (e.free k q)

-- each host formula is still that of one computed
pub own_after : (w v : Signals) (n : ℕ) (left new : Option ℕ) → IsEdit w v n left new → AreOwn v
own_after w v n left new e = record { one = λ a b place p q. go a b place p q (tested (a == n)) (tested (b == n)) }
  where
    clash : (b place : ℕ) → (b == n) ≡ false → host_here (standing v n) ≡ Some place → host_here (standing v b) ≡ Some place → ⊥
    clash b place off p q = not_both (uses_host w place) (uses_by w b place (sym (e.other b off) ∙ q)) (e.free place (sym e.after ∙ p))

    at : (a place : ℕ) → (a == n) ≡ true → host_here (standing v a) ≡ Some place → host_here (standing v n) ≡ Some place
    at a place on p = ap (λ m. host_here (standing v m)) (sym (eqb-true a n on)) ∙ p

    go : (a b place : ℕ) → host_here (standing v a) ≡ Some place → host_here (standing v b) ≡ Some place →
        ((a == n) ≡ true) ⊎ ((a == n) ≡ false) → ((b == n) ≡ true) ⊎ ((b == n) ≡ false) → a ≡ b
    go a b place p q (inl x) (inl y) = eqb-true a n x ∙ sym (eqb-true b n y)
    go a b place p q (inl x) (inr y) = absurd (clash b place y (at a place x p) q)
    go a b place p q (inr x) (inl y) = absurd (clash a place x (at b place y q) p)
    go a b place p q (inr x) (inr y) = e.own.one a b place (sym (e.other a x) ∙ p) (sym (e.other b y) ∙ q)

-- what it leaves isn't used
pub left_unused : (w v : Signals) (n : ℕ) (left new : Option ℕ) (k : ℕ) → IsEdit w v n left new → left ≡ Some k → uses_host v k ≡ true → ⊥
left_unused w v n left new k e p h =
    let u = user_of v k e.still h in
    elim (tested (u.name == n)) [
      | inl q ↦ left_other w v n left new k e p (sym e.after ∙ ap (λ m. host_here (standing v m)) (sym (eqb-true u.name n q)) ∙ u.at)
      | inr q ↦
          let same : u.name ≡ n = e.own.one u.name n k (sym (e.other u.name q) ∙ u.at) (e.before ∙ p) in
          not_both (u.name == n) (eq-eqb u.name n same) q
    ]

-- ---- places

-- another place is there as before
pub there_still : (left : Option ℕ) (asked : List HostPlace) (place : ℕ) → ((k : ℕ) → left ≡ Some k → is_there asked k ≡ true) → (left ≡ Some place → ⊥) →
    is_there (dropped_if left asked) place ≡ is_there asked place
there_still None asked place there off = refl
there_still (Some k) asked place there off = elim (tested (place == k)) [
  | inl q ↦ absurd (off (ap (λ n. Some n) (sym (eqb-true place k q))))
  | inr q ↦ is_there-dropped asked k place (there k refl) ∙ ap (λ b. is_there asked place && not b) q ∙ and_true (is_there asked place)
]
  where
    and_true : (b : Bool) → (b && true) ≡ b
    and_true true = refl
    and_true false = refl

-- and that place isn't
pub there_not : (left : Option ℕ) (asked : List HostPlace) (k : ℕ) → is_there asked k ≡ true → left ≡ Some k → is_there (dropped_if left asked) k ≡ false
there_not None asked k there q = cc
there_not (Some j) asked k there q =
    let same : j ≡ k = cc in
    let on : (k == j) ≡ true = eq-eqb k j (sym same) in
    is_there-dropped asked j k (ap (is_there asked) same ∙ there) ∙ ap (λ b. is_there asked k && not b) on ∙ and_false (is_there asked k)
  where
    and_false : (b : Bool) → (b && false) ≡ false
    and_false true = refl
    and_false false = refl

counted_still : (left : Option ℕ) (asked : List HostPlace) (place : ℕ) → count_at (dropped_if left asked) place ≡ count_at asked place
counted_still None asked place = refl
counted_still (Some k) asked place = count_at-dropped asked k place

-- what is left was there
pub left_there : (w v : Signals) (n : ℕ) (left new : Option ℕ) (asked : List HostPlace) → IsEdit w v n left new → AreThere w asked →
    (k : ℕ) → left ≡ Some k → is_there asked k ≡ true
left_there w v n left new asked e there k p = there.each k (uses_by w n k (e.before ∙ p))

-- each host formula that is asked is there
pub there_after : (w v : Signals) (n : ℕ) (left new : Option ℕ) (asked : List HostPlace) → IsEdit w v n left new →
    ((k : ℕ) → new ≡ Some k → is_there asked k ≡ true) → AreThere w asked → AreThere v (dropped_if left asked)
there_after w v n left new asked e fresh there = record { each = each }
  where
    each : (place : ℕ) → uses_host v place ≡ true → is_there (dropped_if left asked) place ≡ true
    each place h =
        let u = user_of v place e.still h in
        let here : is_there asked place ≡ true = elim (tested (u.name == n)) [
          | inl q ↦ fresh place (sym e.after ∙ ap (λ m. host_here (standing v m)) (sym (eqb-true u.name n q)) ∙ u.at)
          | inr q ↦ there.each place (uses_by w u.name place (sym (e.other u.name q) ∙ u.at))
        ] in
        there_still left asked place (left_there w v n left new asked e there) (λ p. left_unused w v n left new place e p h) ∙ here

-- and what isn't asked was never asked
pub unasked_after : (w v : Signals) (n : ℕ) (left new : Option ℕ) (asked : List HostPlace) → IsEdit w v n left new → AreThere w asked →
    AreUnasked asked w → AreUnasked (dropped_if left asked) v
unasked_after w v n left new asked e there un = record { never = never }
  where
    never : (place : ℕ) → is_there (dropped_if left asked) place ≡ true → uses_host v place ≡ false → count_at (dropped_if left asked) place ≡ 0
    never place here off =
        let other : left ≡ Some place → ⊥ = λ p. not_both (is_there (dropped_if left asked) place) here (there_not left asked place (left_there w v n left new asked e there place p) p) in
        let still : is_there asked place ≡ true = sym (there_still left asked place (left_there w v n left new asked e there) other) ∙ here in
        let unused : uses_host w place ≡ false = sym (uses_other w v n left new place e other (λ q. not_both (uses_host v place) (uses_new w v n left new place e q) off)) ∙ off in
        counted_still left asked place ∙ un.never place still unused

-- ---- how they stand afterwards

-- one is used, where there is one
abbrev pub use_states : Option ℕ → List HostState → List HostState
use_states None ss = ss
use_states (Some k) ss = put_at ss k (used 0)

-- and one is dropped, where there is one
abbrev pub drop_states : Option ℕ → List HostState → List HostState
drop_states None ss = ss
drop_states (Some k) ss = put_at ss k (dropped (asks_so_far (slice_get ss k)))

-- a place isn't changed where another is
below : (k i : ℕ) → (suc k == suc i) ≡ false → (k == i) ≡ false
below k i h = grind (arith, nat_tests)

get_other : (ss : List HostState) (i : ℕ) (x : HostState) (k : ℕ) → (k == i) ≡ false → slice_get (put_at ss i x) k ≡ slice_get ss k
get_other [] i x k h = refl
get_other (s ∷ ss) zero x zero h = cc
get_other (s ∷ ss) zero x (suc k) h = refl
get_other (s ∷ ss) (suc i) x zero h = refl
get_other (s ∷ ss) (suc i) x (suc k) h = get_other ss i x k (below k i h)

-- what is left has its count
pub left_count : (w v : Signals) (n : ℕ) (left new : Option ℕ) (asked : List HostPlace) → IsEdit w v n left new → AreThere w asked →
    (l : ℕ) → left ≡ Some l → asks_so_far (slice_get (use_states new (host_states (uses_host w) 0 asked)) l) ≡ count_at asked l
left_count w v n left new asked e there l p = go new refl
  where
    before : asks_so_far (slice_get (host_states (uses_host w) 0 asked) l) ≡ count_at asked l
    before =
        let at : 0 + l ≡ l = omega arith in
        count_used (uses_host w) 0 asked l (left_there w v n left new asked e there l p) (ap (uses_host w) at ∙ uses_by w n l (e.before ∙ p))

    other : (k : ℕ) → new ≡ Some k → (l == k) ≡ false
    other k q = elim (tested (l == k)) [
      | inl x ↦ absurd (left_other w v n left new k e (p ∙ ap (λ j. Some j) (eqb-true l k x)) q)
      | inr x ↦ x
    ]

    go : (o : Option ℕ) → new ≡ o → asks_so_far (slice_get (use_states o (host_states (uses_host w) 0 asked)) l) ≡ count_at asked l
    go None q = before
    go (Some k) q = ap asks_so_far (get_other (host_states (uses_host w) 0 asked) k (used 0) l (other k q)) ∙ before

pub none_some : (k : ℕ) → None ≡ Some k → ⊥
none_some k h = cc

some_other : (j k : ℕ) → (j == k) ≡ false → Some k ≡ Some j → ⊥
some_other j k off h = let same : k ≡ j = cc in not_both (j == k) (eq-eqb j k (sym same)) off

zero_off : (j k : ℕ) → (j == 0 + k) ≡ false → (j == k) ≡ false
zero_off j k off = let at : 0 + k ≡ k = omega arith in ap (λ n. j == n) (sym at) ∙ off

pub states_after : (w v : Signals) (n : ℕ) (left new : Option ℕ) (asked : List HostPlace) → IsEdit w v n left new → AreThere w asked →
    ((k : ℕ) → new ≡ Some k → (is_there asked k ≡ true) × (count_at asked k ≡ 0)) →
    host_states (uses_host v) 0 (dropped_if left asked) ≡ drop_states left (use_states new (host_states (uses_host w) 0 asked))
states_after w v n None None asked e there fresh =
    states_same (uses_host v) (uses_host w) 0 asked (λ j l. uses_other w v n None None j e (none_some j) (none_some j))
states_after w v n None (Some k) asked e there fresh =
    let at : 0 + k ≡ k = omega arith in
    let f = fresh k refl in
    states_used (uses_host w) (uses_host v) 0 k asked (λ j off. uses_other w v n None (Some k) j e (none_some j) (some_other j k (zero_off j k off)))
    (ap (uses_host v) at ∙ uses_new w v n None (Some k) k e refl) f.0 f.1
states_after w v n (Some l) None asked e there fresh =
    let here : is_there asked l ≡ true = left_there w v n (Some l) None asked e there l refl in
    let count : asks_so_far (slice_get (host_states (uses_host w) 0 asked) l) ≡ count_at asked l = left_count w v n (Some l) None asked e there l refl in
    states_dropped (uses_host w) (uses_host v) 0 l asked (λ j off. uses_other w v n (Some l) None j e (some_other j l (zero_off j l off)) (none_some j)) here
    ∙ ap (λ c. put_at (host_states (uses_host w) 0 asked) l (dropped c)) (sym count)
states_after w v n (Some l) (Some k) asked e there fresh =
    let at : 0 + k ≡ k = omega arith in
    let f = fresh k refl in
    let here : is_there asked l ≡ true = left_there w v n (Some l) (Some k) asked e there l refl in
    let first : host_states (middle k) 0 asked ≡ put_at (host_states (uses_host w) 0 asked) k (used 0) =
    states_used (uses_host w) (middle k) 0 k asked (λ j off. ap (λ b. b || uses_host w j) (zero_off j k off)) (ap (middle k) at ∙ ap (λ b. b || uses_host w k) (eq-eqb k k refl)) f.0 f.1 in
    let count : asks_so_far (slice_get (put_at (host_states (uses_host w) 0 asked) k (used 0)) l) ≡ count_at asked l =
    left_count w v n (Some l) (Some k) asked e there l refl in
    states_dropped (middle k) (uses_host v) 0 l asked (λ j off. other j (zero_off j l off)) here
    ∙ ap (λ ss. put_at ss l (dropped (count_at asked l))) first
    ∙ ap (λ c. put_at (put_at (host_states (uses_host w) 0 asked) k (used 0)) l (dropped c)) (sym count)
  where
    middle : ℕ → ℕ → Bool
    middle k j = (j == k) || uses_host w j

    other : (j : ℕ) → (j == l) ≡ false → uses_host v j ≡ middle k j
    other j off = elim (tested (j == k)) [
      | inl q ↦ ap (uses_host v) (eqb-true j k q) ∙ uses_new w v n (Some l) (Some k) k e refl ∙ sym (ap (λ b. b || uses_host w j) q)
      | inr q ↦ uses_other w v n (Some l) (Some k) j e (some_other j l off) (some_other j k q) ∙ sym (ap (λ b. b || uses_host w j) q)
    ]
