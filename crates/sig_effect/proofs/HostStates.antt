-- How host formulas stand, place by place.
use Rattle.std.proofs.Common.{◌≡◌, ◌==◌, ◌+◌, ◌≤◌, ℕ, zero, suc, Bool, true, false, cond, not, ◌&&◌, List, [], ◌∷◌, length, slice_get, replicate, Some, refl, sym, ap, ◌∙◌, arith, set as put_at}
use Rattle.std.proofs.lemmas.Bool.Decides.{nat_tests}
use Rattle.effect_model.specs.Worlds.{unused, used, dropped}
use Rattle.effect_model.specs.Acts.{asks_so_far, is_free}
use Rattle.sig_host.specs.Hosts.{HostPlace, count_at, dropped_at, is_there}
use Rattle.sig_effect.specs.Wholes.{host_state, host_states}
use Rattle.sig_effect.specs.Stores.{AreNew}

-- a place that is there and isn't used is free
pub free_at : (uses : ℕ → Bool) (from : ℕ) (ps : List HostPlace) (k : ℕ) →
    is_free (slice_get (host_states uses from ps) k) ≡ (is_there ps k && not (uses (from + k)))
free_at uses from [] k = refl
free_at uses from (p ∷ ps) zero = let at : from ≡ from + 0 = omega arith in go p.there (uses from) p.asks ∙ ap (λ n. p.there && not (uses n)) at
  where
    go : (there asks : Bool) (n : ℕ) → is_free (Some (host_state asks (record { there = there; asks = n }))) ≡ (there && not asks)
    go true true n = refl
    go true false n = refl
    go false asks n = refl
free_at uses from (p ∷ ps) (suc k) = let at : suc from + k ≡ from + suc k = omega arith in free_at uses (suc from) ps k ∙ ap (λ n. is_there ps k && not (uses n)) at

pub free_then : (uses : ℕ → Bool) (ps : List HostPlace) (k : ℕ) (there on : Bool) → there ≡ is_there ps k → there ≡ true → on ≡ uses k →
    not on ≡ is_free (slice_get (host_states uses 0 ps) k)
free_then uses ps k there on a b e =
    let at : 0 + k ≡ k = omega arith in
    let here : is_there ps k ≡ true = sym a ∙ b in
    sym (free_at uses 0 ps k ∙ ap (λ c. c && not (uses (0 + k))) here ∙ ap (λ n. not (uses n)) at ∙ ap not (sym e))

pub free_else : (uses : ℕ → Bool) (ps : List HostPlace) (k : ℕ) (there : Bool) → there ≡ is_there ps k → there ≡ false →
    there ≡ is_free (slice_get (host_states uses 0 ps) k)
free_else uses ps k there a b =
    let here : is_there ps k ≡ false = sym a ∙ b in
    b ∙ sym (free_at uses 0 ps k ∙ ap (λ c. c && not (uses (0 + k))) here)

-- a used one has its count
pub count_used : (uses : ℕ → Bool) (from : ℕ) (ps : List HostPlace) (k : ℕ) → is_there ps k ≡ true → uses (from + k) ≡ true →
    asks_so_far (slice_get (host_states uses from ps) k) ≡ count_at ps k
count_used uses from [] k there on = cc
count_used uses from (p ∷ ps) zero there on =
    let at : from + 0 ≡ from = omega arith in
    let u : uses from ≡ true = ap uses (sym at) ∙ on in
    ap (λ b. asks_so_far (Some (host_state b p))) u ∙ ap (λ b. asks_so_far (Some (cond b (used p.asks) (dropped p.asks)))) there
count_used uses from (p ∷ ps) (suc k) there on =
    let at : from + suc k ≡ suc from + k = omega arith in count_used uses (suc from) ps k there (ap uses (sym at) ∙ on)

-- as many are used as before
pub states_same : (f g : ℕ → Bool) (from : ℕ) (ps : List HostPlace) → ((j : ℕ) → from ≤ j → f j ≡ g j) → host_states f from ps ≡ host_states g from ps
states_same f g from [] same = refl
states_same f g from (p ∷ ps) same =
    let here : f from ≡ g from = same from (omega arith) in
    let more : host_states f (suc from) ps ≡ host_states g (suc from) ps = states_same f g (suc from) ps (λ j l. same j (omega (arith, l))) in
    λ i. host_state (here i) p ∷ more i

-- another number isn't that of the first place
past_first : (from j : ℕ) → suc from ≤ j → (j == from + 0) ≡ false
past_first from j l = grind (arith, nat_tests, l)

-- one more is used, which was never asked
pub states_used : (f g : ℕ → Bool) (from k : ℕ) (ps : List HostPlace) → ((j : ℕ) → (j == from + k) ≡ false → g j ≡ f j) → g (from + k) ≡ true →
    is_there ps k ≡ true → count_at ps k ≡ 0 → host_states g from ps ≡ put_at (host_states f from ps) k (used 0)
states_used f g from k [] other on there none = cc
states_used f g from zero (p ∷ ps) other on there none =
    let at : from + 0 ≡ from = omega arith in
    let u : g from ≡ true = ap g (sym at) ∙ on in
    let here : host_state (g from) p ≡ used 0 = ap (λ b. host_state b p) u ∙ ap (λ b. cond b (used p.asks) (dropped p.asks)) there ∙ ap used none in
    let more : host_states g (suc from) ps ≡ host_states f (suc from) ps = states_same g f (suc from) ps (λ j l. other j (past_first from j l)) in
    λ i. here i ∷ more i
states_used f g from (suc k) (p ∷ ps) other on there none =
    let at : from + suc k ≡ suc from + k = omega arith in
    let first : (from == from + suc k) ≡ false = grind (arith, nat_tests) in
    let here : g from ≡ f from = other from first in
    let more : host_states g (suc from) ps ≡ put_at (host_states f (suc from) ps) k (used 0) =
    states_used f g (suc from) k ps (λ j off. other j (ap (λ n. j == n) at ∙ off)) (ap g (sym at) ∙ on) there none in
    λ i. host_state (here i) p ∷ more i

-- one is dropped
pub states_dropped : (f g : ℕ → Bool) (from k : ℕ) (ps : List HostPlace) → ((j : ℕ) → (j == from + k) ≡ false → g j ≡ f j) → is_there ps k ≡ true →
    host_states g from (dropped_at ps k) ≡ put_at (host_states f from ps) k (dropped (count_at ps k))
states_dropped f g from k [] other there = cc
states_dropped f g from zero (p ∷ ps) other there =
    let more : host_states g (suc from) ps ≡ host_states f (suc from) ps = states_same g f (suc from) ps (λ j l. other j (past_first from j l)) in
    λ i. dropped p.asks ∷ more i
states_dropped f g from (suc k) (p ∷ ps) other there =
    let at : from + suc k ≡ suc from + k = omega arith in
    let first : (from == from + suc k) ≡ false = grind (arith, nat_tests) in
    let here : g from ≡ f from = other from first in
    let more : host_states g (suc from) (dropped_at ps k) ≡ put_at (host_states f (suc from) ps) k (dropped (count_at ps k)) =
    states_dropped f g (suc from) k ps (λ j off. other j (ap (λ n. j == n) at ∙ off)) there in
    λ i. host_state (here i) p ∷ more i

-- at first none is used
pub states_new : (uses : ℕ → Bool) (from : ℕ) (ps : List HostPlace) → ((j : ℕ) → uses j ≡ false) → AreNew ps → host_states uses from ps ≡ replicate (length ps) unused
states_new uses from [] none new = refl
states_new uses from (p ∷ ps) none new =
    let here : host_state (uses from) p ≡ unused = ap (λ b. host_state b p) (none from) ∙ ap (host_state false) new.0 in
    let more : host_states uses (suc from) ps ≡ replicate (length ps) unused = states_new uses (suc from) ps none new.1 in
    λ i. here i ∷ more i
