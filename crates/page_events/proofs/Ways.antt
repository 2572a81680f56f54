-- Ways of events, step by step.
use Rattle.std.proofs.Common.{◌≡◌, ℕ, zero, suc, Bool, true, false, cond, List, [], ◌∷◌, ◌++◌, append-nil, append_assoc, Option, Some, None, refl, sym, ap, ◌∙◌}
use Rattle.std.specs.List.{flat_map}
use Rattle.page_model.specs.Forest.{Forest, parent}
use Rattle.page_model.specs.Labels.{Kind}
use Rattle.page_model.specs.Replay.{below_root}
use Rattle.event_model.specs.Ways.{way, way_within}
use Rattle.page_events.specs.Steps.{steps_up}

-- what is there has its test
some_there : {A : Type 0} (b : Bool) (x y : A) → Some y ≡ cond b (Some x) None → b ≡ true
some_there true x y e = refl
some_there false x y e = absurd cc

what_is_there : {A : Type 0} (b : Bool) (x y : A) → Some y ≡ cond b (Some x) None → y ≡ x
what_is_there true x y e = cc
what_is_there false x y e = absurd cc

none_there : {A : Type 0} (b : Bool) (x : A) → None ≡ cond b (Some x) None → b ≡ false
none_there true x e = absurd cc
none_there false x e = refl

-- no way begins where there is no such node
no_way : (k n : ℕ) (now : Forest Kind) → below_root n now ≡ false → way_within k n now ≡ []
no_way zero n now e = refl
no_way (suc k) n now e = ap (λ b. cond b (n ∷ way_within k (parent n now) now) []) e

pub no_way_at : (n : ℕ) (now : Forest Kind) → below_root n now ≡ false → way n now ≡ []
unfolding way
no_way_at n now e = no_way 32 n now e

-- the first step, and those from the parent on
first_step : (k n : ℕ) (now : Forest Kind) → below_root n now ≡ true → way_within (suc k) n now ≡ n ∷ way_within k (parent n now) now
first_step k n now e = ap (λ b. cond b (n ∷ way_within k (parent n now) now) []) e

-- what is put at a node on its line, and then on the way from its parent
pub way_put : {A : Type 0} (at : ℕ → ℕ → List A) (line : ℕ → ℕ) (k j n p l : ℕ) (now : Forest Kind) (o q : Option ℕ) (old mid new : List A) → k ≡ suc j →
    o ≡ Some p → o ≡ cond (below_root n now) (Some (parent n now)) None → q ≡ Some l → q ≡ cond (below_root n now) (Some (line n)) None →
    mid ≡ old ++ at l n → new ≡ mid ++ flat_map (λ m. at (line m) m) (steps_up j p now) → new ≡ old ++ flat_map (λ m. at (line m) m) (steps_up k n now)
unfolding steps_up
way_put {A} at line k j n p l now o q old mid new steps is up here on first rest =
    let f : ℕ → List A = λ m. at (line m) m in
    let there : below_root n now ≡ true = some_there (below_root n now) (parent n now) p (sym is ∙ up) in
    let above : p ≡ parent n now = what_is_there (below_root n now) (parent n now) p (sym is ∙ up) in
    let lined : l ≡ line n = what_is_there (below_root n now) (line n) l (sym here ∙ on) in
    rest
    ∙ (ap (λ xs. xs ++ flat_map f (way_within j p now)) first
    ∙ ((λ i. (old ++ at (lined i) n) ++ flat_map f (way_within j (above i) now))
    ∙ (append_assoc old (f n) (flat_map f (way_within j (parent n now) now))
    ∙ (ap (λ ns. old ++ flat_map f ns) (sym (first_step j n now there)) ∙ ap (λ i. old ++ flat_map f (way_within i n now)) (sym steps)))))

-- nothing is put on no way
none_put : {A : Type 0} (f : ℕ → List A) (ns : List ℕ) (old : List A) → ns ≡ [] → old ≡ old ++ flat_map f ns
none_put f ns old none = sym (append-nil old) ∙ ap (λ xs. old ++ flat_map f xs) (sym none)

pub no_steps_put : {A : Type 0} (f : ℕ → List A) (k n : ℕ) (now : Forest Kind) (old : List A) → k ≡ 0 → old ≡ old ++ flat_map f (steps_up k n now)
unfolding steps_up
no_steps_put f k n now old none = none_put f (way_within k n now) old (ap (λ i. way_within i n now) none)

pub nowhere_put : {A : Type 0} (f : ℕ → List A) (k n x : ℕ) (now : Forest Kind) (o : Option ℕ) (old : List A) → o ≡ None →
    o ≡ cond (below_root n now) (Some x) None → old ≡ old ++ flat_map f (steps_up k n now)
unfolding steps_up
nowhere_put f k n x now o old is at = none_put f (way_within k n now) old (no_way k n now (none_there (below_root n now) x (sym is ∙ at)))

-- a whole way
whole_way : (n : ℕ) (now : Forest Kind) → steps_up 32 n now ≡ way n now
unfolding steps_up way
whole_way n now = refl

-- all that is put on it, behind nothing, by what is the same
pub all_put : {A B : Type 0} (f : B → ℕ → List A) (x y : B) (n : ℕ) (tree now : Forest Kind) (start new : List A) → x ≡ y → start ≡ [] → tree ≡ now →
    new ≡ start ++ flat_map (f x) (steps_up 32 n tree) → new ≡ flat_map (f y) (way n now)
all_put f x y n tree now start new same none stands put =
    put ∙ ((λ i. none i ++ flat_map (f (same i)) (steps_up 32 n (stands i))) ∙ ap (flat_map (f y)) (whole_way n now))
