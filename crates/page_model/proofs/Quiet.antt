-- Where nothing differs there are no edits.
use Rattle.std.proofs.Common.{◌≡◌, ℕ, suc, ◌==◌, Bool, true, ◌||◌, refl, ap, ◌∙◌, arith, eq-eqb, List, [], ◌∷◌, ◌++◌, map, length, length-append, append_assoc, Option, Some, None}
use Rattle.std.specs.List.{flat_map}
use Rattle.std.specs.Str.{bytes_eq}
use Rattle.std.proofs.lemmas.Slice.Eq.{bytes_eq-Decides}
use Rattle.std.proofs.lemmas.Bool.{or_left, or_right}
use Rattle.page_model.specs.Forest.{Forest, none, node, on, keys, kids, label_in, pruned, tops}
use Rattle.page_model.specs.Labels.{Root, Text, Element, Kind, Look, shown}
use Rattle.page_model.specs.Replay.{Op, OpRemove}
use Rattle.page_model.specs.Edits.{listed, placed, siblings, child_edits, attribute_edits, look_edits, ascending, edits}
use Rattle.page_model.proofs.Removals.{in_both}

placed_at : (past : List ℕ) (n : ℕ) (ms : List ℕ) → placed n (length past) (past ++ n ∷ ms) ≡ true
placed_at [] n ms = eq-eqb n n refl
placed_at (m ∷ past) n ms = placed_at past n ms

-- each child stands at its place already
pub children_none : (p : ℕ) (past : List ℕ) (rest : Forest Kind) → child_edits p (length past) (past ++ siblings rest) rest ≡ []
children_none p past none = refl
children_none p past (node n x k r) =
    let a : listed n (past ++ n ∷ siblings r) ≡ true = in_both n past (n ∷ siblings r) ∙ or_right (listed n past) (listed n (n ∷ siblings r)) (or_left (n == n) (listed n (siblings r)) (eq-eqb n n refl)) in
    let b = placed_at past n (siblings r) in
    let c : length (past ++ n ∷ []) ≡ suc (length past) = omega (arith, length-append past (n ∷ [])) in
    let i = rw c at (children_none p (past ++ n ∷ []) r) in
    let j = rw (append_assoc past (n ∷ []) (siblings r)) at i in
    rw (a, b) j

lines_none : (n : ℕ) (xs : List (List ℕ × Option (List ℕ))) (i : ℕ) → attribute_edits n xs xs i ≡ []
lines_none n [] i = refl
lines_none n ((name, None) ∷ xs) i = lines_none n xs i
lines_none n ((name, Some v) ∷ xs) i = (let e : bytes_eq v v ≡ true = (bytes_eq-Decides v v).1 refl in rw e (lines_none n xs (suc i)))

pub told_none : (n : ℕ) (x : Look) → look_edits n x x ≡ []
told_none n Root = refl
told_none n (Text t) = (let e : bytes_eq t t ≡ true = (bytes_eq-Decides t t).1 refl in rw e refl)
told_none n (Element name xs) = lines_none n xs 0

all_none : (f : ℕ → List Op) (ps : List ℕ) → ((n : ℕ) → f n ≡ []) → flat_map f ps ≡ []
all_none f [] h = refl
all_none f (p ∷ ps) h = rw (h p, all_none f ps h) refl

pruned_whole : {A : Type 0} (keep : ℕ → Bool) (s : Forest A) → ((n : ℕ) → on n s ≡ true → keep n ≡ true) → (pruned keep s ≡ s) × (tops keep s ≡ [])
pruned_whole keep none h = (refl, refl)
pruned_whole keep (node m x k r) h =
    let a = h m (or_left (m == m) (on m k || on m r) (eq-eqb m m refl)) in
    let ik = pruned_whole keep k (λ n e. h n (or_right (m == n) (on n k || on n r) (or_left (on n k) (on n r) e))) in
    let ir = pruned_whole keep r (λ n e. h n (or_right (m == n) (on n k || on n r) (or_right (on n k) (on n r) e))) in
    (rw (a, ik.0, ir.0) refl, rw (a, ik.1, ir.1) refl)

pub edits_none : (t : Forest Look) → edits t t ≡ []
edits_none t =
    let s = shown t in
    let w = pruned_whole (λ n. on n s) s (λ n e. e) in
    let tell : ℕ → List Op = λ n. look_edits n (label_in Root n t) (label_in Root n t) in
    let whole : List ℕ → Forest Kind → List Op = λ gone left. (map OpRemove (ascending gone) ++ flat_map (λ n. child_edits n 0 (siblings (kids n left)) (kids n s)) (ascending (keys left))) ++ flat_map tell (ascending (keys left)) in
    let a : whole (tops (λ n. on n s) s) (pruned (λ n. on n s) s) ≡ whole [] s = ap (λ z. whole z (pruned (λ n. on n s) s)) w.1 ∙ ap (whole []) w.0 in
    let b = all_none (λ n. child_edits n 0 (siblings (kids n s)) (kids n s)) (ascending (keys s)) (λ n. children_none n [] (kids n s)) in
    let c = all_none tell (ascending (keys s)) (λ n. told_none n (label_in Root n t)) in
    a ∙ (rw (b, c) refl)
