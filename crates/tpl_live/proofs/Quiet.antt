-- A page that stays as it is.
use Rattle.std.proofs.Common.{◌≡◌, ℕ, ◌+◌, ◌≤◌, ◌==◌, Bool, true, List, [], ◌∷◌, length, None, refl, sym, ap, subst, ◌∙◌, arith, eq-eqb, inl, inr}
use Rattle.std.specs.List.{flat_map}
use Rattle.std.proofs.lemmas.Bool.{cases_Bool}
use Rattle.signal_model.specs.Recipes.{Hosts}
use Rattle.signal_model.specs.Kept.{AreKept}
use Rattle.signal_model.specs.Signals.{Signals}
use Rattle.page_model.specs.Forest.{Forest, kids, label_in, node, none, on, tally}
use Rattle.page_model.specs.Labels.{Look, Root}
use Rattle.page_model.specs.Pages.{IsPage, NumberedPage, by_number, carried, edits_between, looks, new_order, newcomers, number_of, page_shape, renumbered, with_numbers}
use Rattle.page_model.proofs.Shared.{edits_none, on_kids, on_tally, tally_looks}
use Rattle.tpl_model.specs.Lines.{Line}
use Rattle.tpl_model.specs.Sources.{template_shape}
use Rattle.tpl_model.specs.PageUpdates.Updates.{memo_on, memo_shape}
use Rattle.tpl_model.proofs.Shared.{number_law, shape_shown}
use Rattle.tpl_hearing.specs.Heard.{AreFromScratch, Hears, Outcomes, Scene}
use Rattle.tpl_hearing.proofs.Shared.{heard_scratch}
use Rattle.tpl_model.specs.KeptLines.Memos.{Makes, lines_memo}
use Rattle.tpl_live.specs.Pages.{Standing, Stands, outcome_in, page_in}
use Rattle.tpl_live.proofs.Renewed.{IsCarried}
use Rattle.tpl_live.proofs.Sourced.{made_on, made_right}

-- ---- carried to its own shape

-- nodes under the numbers that they have
own_numbers : (num : ℕ → ℕ) (t : Forest (ℕ × Look)) → ((a : ℕ) → on a t ≡ true → num a ≡ (label_in (0, Root) a t).0) → ((a : ℕ) → tally a t ≤ 1) →
    with_numbers num (looks t) ≡ t
own_numbers num none h once = refl
own_numbers num (node a (n, x) k r) h once =
    let self = eq-eqb a a refl in
    let first : num a ≡ n = rw self at (h a (rw self refl)) in
    let below = own_numbers num k (λ c i.
    elim (cases_Bool (a == c)) [
      | inl e ↦ (let u = rw e at (once c) in let v = on_tally c k i in absurd (omega (arith, u, v)))
      | inr e ↦ rw (e, i) at (h c (rw (e, i) refl))
    ]) (λ c. (let u = once c in omega (arith, u))) in
    let behind = own_numbers num r (λ c i.
    elim (cases_Bool (a == c)) [
      | inl e ↦ (let u = rw e at (once c) in let v = on_tally c r i in absurd (omega (arith, u, v)))
      | inr e ↦ elim (cases_Bool (on c k)) [
        | inl f ↦ (let u = once c in let v = on_tally c r i in let w = on_tally c k f in absurd (omega (arith, u, v, w)))
        | inr f ↦ rw (e, f) at (h c (rw (e, f) i))
      ]
    ]) (λ c. (let u = once c in omega (arith, u))) in
    λ i. node a (first i, x) (below i) (behind i)

-- none comes where all stand
newcomers_none : (kept : ℕ → Bool) (t : Forest Look) → ((a : ℕ) → on a t ≡ true → kept a ≡ true) → newcomers kept t ≡ []
newcomers_none kept none h = refl
newcomers_none kept (node m x k r) h =
    let self = eq-eqb m m refl in
    let e = h m (rw self refl) in
    let i = newcomers_none kept r (λ a p. h a (elim (cases_Bool (m == a)) [
      | inl u ↦ rw u refl
      | inr u ↦ elim (cases_Bool (on a k)) [ inl v ↦ rw (u, v) refl | inr v ↦ rw (u, v) p ]
    ])) in
    rw (e, i) refl

none_new : (shape : Forest Look) (parents : List ℕ) → flat_map (λ a. newcomers (λ j. on j shape) (kids a shape)) parents ≡ []
none_new shape [] = refl
none_new shape (a ∷ parents) = rw (newcomers_none (λ j. on j shape) (kids a shape) (λ j i. on_kids a j shape i), none_new shape parents) refl

-- a page carried to the shape that it has is that page
stays_so : (p : NumberedPage) → IsPage p → renumbered p (page_shape p) ≡ p
stays_so p q =
    let shape = page_shape p in
    let once : (a : ℕ) → tally a p.nodes ≤ 1 = λ a. subst (λ n. n ≤ 1) (tally_looks a p.nodes) (q.once a) in
    let all : with_numbers (carried p shape) shape ≡ p.nodes = (number_law p shape).kept shape (λ j i. i) ∙ own_numbers (number_of p) p.nodes (λ a i. refl) once in
    let few : length (new_order p shape) ≡ 0 = ap length (none_new shape _) in
    let count : p.next + length (new_order p shape) ≡ p.next = omega (arith, few) in
    λ i. record { nodes = all i; next = count i }

-- ---- as it stands

-- where what is kept is what would be made, the page is that of the signals, and there are no operations
pub is_quiet : (x y : Scene) (before after : Hosts → Type 0) (lines : List Line) (links : List ℕ) (first heard : Outcomes) (s : Standing) (hosts : Hosts) →
    first ≡ [] → Hears x y before after first heard → before hosts → AreKept hosts x.graph.state.signals x.graph.state.memos → Stands lines links s →
    Makes (lines_memo s.lines) links None [] heard s.memo → IsCarried hosts lines links x s s []
is_quiet x y before after lines links first heard s hosts fresh h all kept st made =
    let w : Signals = x.graph.state.signals in
    let p = page_in s in
    let memo : s.memo ≡ memo_on lines links (outcome_in heard) = made_on lines s.lines links heard s.memo st.block made in
    let scratch : AreFromScratch hosts w heard =
    heard_scratch x y before after first heard hosts h all kept (subst (AreFromScratch hosts w) (sym fresh) tt) in
    let right = made_right hosts w lines links heard s.memo memo made.order scratch in
    let same : template_shape hosts w lines links ≡ page_shape p =
    sym right.shape ∙ (sym (shape_shown lines links (outcome_in heard)) ∙ (ap (memo_shape lines) (sym memo) ∙ sym st.keeps.shape)) in
    let now : renumbered p (template_shape hosts w lines links) ≡ p = ap (renumbered p) same ∙ stays_so p st.keeps.page in
    record { page = sym now; ops = sym (ap (edits_between p) now ∙ edits_none (by_number p.nodes)) }
