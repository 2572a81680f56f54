-- What is left in the tables after steps of taking back.
use Rattle.std.proofs.Common.{◌≡◌, ℕ, zero, suc, ◌+◌, ◌<◌, ◌≤◌, ◌==◌, ◌||◌, not, Bool, true, false, cond, List, [], ◌∷◌, map, length, Option, Some, None, refl, sym, ap, subst, ◌∙◌, arith, inl, inr}
use Rattle.std.specs.Prelude.{is_some}
use Rattle.std.specs.List.{AllByRecursion, filter, remove}
use Rattle.std.proofs.lemmas.Bool.{eq-eqb, eqb-true, ne_eqb}
use Rattle.std.proofs.lemmas.Bool.Decides.{nat_tests}
use Rattle.signal_model.specs.Signals.{is_in, without}
use Rattle.signal_model.proofs.Shared.{tested}
use Rattle.effect_model.specs.Owners.{the_signal, the_owner, the_effect, the_page, the_watcher, Undoing, cleans, ends}
use Rattle.effect_model.specs.Worlds as plain
use Rattle.effect_model.specs.Worlds.{World}
use Rattle.effect_laws.specs.Frames.{ended_all, ended_one}
use Rattle.sig_store.specs.Stored.{entry}
use Rattle.sig_owner.specs.Walks.{is_ended}
use Rattle.effect_tables.specs.declared.effect.Effect.{Effect}
use Rattle.effect_tables.specs.declared.thing.Thing.{Thing}
use Rattle.effect_tables.specs.Consistency.{AreOrdered, AreRising, HasOwnRow, HaveOwnRows}
use Rattle.effect_tables.specs.Owners.{closed_at, has_row, is_row, living, number_in}
use Rattle.effect_tables.specs.Placed.{effect_of}
use Rattle.effect_tables.proofs.Shared.{IsNowhere, IsPlace, all_filtered, left_off, living_below, none_behind, off_on, right_off, row_is, swapped}
use Rattle.effect_teardown.specs.Ends.{effects_after, effects_without, forgotten, owners_after, owners_without, pages_after, pages_without, things_after, things_without}
use Rattle.effect_teardown.specs.Rows.{effect_row}

-- ---- the list of effects without one

-- all stay where none has the number
pub none_left_out : (n : ℕ) (xs : List Effect) → IsNowhere n xs → filter (λ x. not (n == x.id)) xs ≡ xs
none_left_out n [] h = refl
none_left_out n (x ∷ xs) h = ap (λ b. cond (not b) (x ∷ filter (λ y. not (n == y.id)) xs) (filter (λ y. not (n == y.id)) xs)) h.0 ∙ ap (λ (ys : List Effect). x ∷ ys) (none_left_out n xs h.1)

-- else the one at its place goes
pub left_out : (n low : ℕ) (xs : List Effect) (i : ℕ) → AreRising low xs → IsPlace n xs i → filter (λ x. not (n == x.id)) xs ≡ remove xs i
left_out n low [] i o p = absurd p
left_out n low (x ∷ xs) zero o p =
    ap (λ b. cond (not b) (x ∷ filter (λ y. not (n == y.id)) xs) (filter (λ y. not (n == y.id)) xs)) p
    ∙ none_left_out n xs (none_behind n (suc x.id) xs (grind (arith, nat_tests, p)) o.1)
left_out n low (x ∷ xs) (suc i) o p =
    ap (λ b. cond (not b) (x ∷ filter (λ y. not (n == y.id)) xs) (filter (λ y. not (n == y.id)) xs)) p.0 ∙ ap (λ (ys : List Effect). x ∷ ys) (left_out n (suc x.id) xs i o.1 p.1)

-- ---- owners keep their rows and their numbers until they are gone

length_closed : (n : ℕ) (es : List (Option ℕ)) → length (closed_at n es) ≡ length es
length_closed n [] = refl
length_closed zero (e ∷ es) = refl
length_closed (suc n) (e ∷ es) = ap suc (length_closed n es)

pub length_after : (us : List Undoing) (es : List (Option ℕ)) → length (owners_after us es) ≡ length es
length_after [] es = refl
length_after (ends (the_owner n) ∷ us) es = length_after us (closed_at n es) ∙ length_closed n es
length_after (ends (the_signal n) ∷ us) es = length_after us es
length_after (ends (the_effect n) ∷ us) es = length_after us es
length_after (ends (the_page n) ∷ us) es = length_after us es
length_after (ends (the_watcher n) ∷ us) es = length_after us es
length_after (cleans t c ∷ us) es = length_after us es

one_less : (j n : ℕ) → (suc j == suc n) ≡ false → (j == n) ≡ false
one_less j n off = ne_eqb j n (λ q. let on : (suc j == suc n) ≡ true = eq-eqb (suc j) (suc n) (ap suc q) in off_on (suc j == suc n) off on)

one_more : (j n : ℕ) → (j == n) ≡ false → (suc j == suc n) ≡ false
one_more j n off = ne_eqb (suc j) (suc n) (λ q. let e : j ≡ n = omega (arith, q) in off_on (j == n) off (eq-eqb j n e))

-- where another owner is gone
kept_closed : (n k : ℕ) (es : List (Option ℕ)) → is_row k es ≡ true → (number_in es k == n) ≡ false →
    (is_row k (closed_at n es) ≡ true) × (number_in (closed_at n es) k ≡ number_in es k)
kept_closed n k [] h off = cc
kept_closed zero k (e ∷ es) h off = go (has_row k e) h off
  where
    go : (b : Bool) → (b || is_row k es) ≡ true → (cond b 0 (suc (number_in es k)) == 0) ≡ false → (is_row k es ≡ true) × (suc (number_in es k) ≡ cond b 0 (suc (number_in es k)))
    go true p q = let z : true ≡ false = q in cc
    go false p q = (p, refl)
kept_closed (suc n) k (e ∷ es) h off = go (has_row k e) h off (kept_closed n k es)
  where
    go : (b : Bool) → (b || is_row k es) ≡ true → (cond b 0 (suc (number_in es k)) == suc n) ≡ false →
        (is_row k es ≡ true → (number_in es k == n) ≡ false → (is_row k (closed_at n es) ≡ true) × (number_in (closed_at n es) k ≡ number_in es k)) →
        ((b || is_row k (closed_at n es)) ≡ true) × (cond b 0 (suc (number_in (closed_at n es) k)) ≡ cond b 0 (suc (number_in es k)))
    go true p q more = (refl, refl)
    go false p q more = let two = more p (one_less (number_in es k) n q) in (two.0, ap suc two.1)

pub kept_after : (us : List Undoing) (es : List (Option ℕ)) (k : ℕ) → is_row k es ≡ true → is_ended (the_owner (number_in es k)) us ≡ false →
    (is_row k (owners_after us es) ≡ true) × (number_in (owners_after us es) k ≡ number_in es k)
kept_after [] es k h off = (h, refl)
kept_after (ends (the_owner n) ∷ us) es k h off =
    let one = kept_closed n k es h (left_off (number_in es k == n) (is_ended (the_owner (number_in es k)) us) off) in
    let two = kept_after us (closed_at n es) k one.0 (ap (λ j. is_ended (the_owner j) us) one.1 ∙ right_off (number_in es k == n) (is_ended (the_owner (number_in es k)) us) off) in
    (two.0, two.1 ∙ one.1)
kept_after (ends (the_signal n) ∷ us) es k h off = kept_after us es k h off
kept_after (ends (the_effect n) ∷ us) es k h off = kept_after us es k h off
kept_after (ends (the_page n) ∷ us) es k h off = kept_after us es k h off
kept_after (ends (the_watcher n) ∷ us) es k h off = kept_after us es k h off
kept_after (cleans t c ∷ us) es k h off = kept_after us es k h off

-- none has a row that none had before
fewer_closed : (n k : ℕ) (es : List (Option ℕ)) → is_row k es ≡ false → is_row k (closed_at n es) ≡ false
fewer_closed n k [] h = h
fewer_closed zero k (e ∷ es) h = right_off (has_row k e) (is_row k es) h
fewer_closed (suc n) k (e ∷ es) h = λ i. left_off (has_row k e) (is_row k es) h i || fewer_closed n k es (right_off (has_row k e) (is_row k es) h) i

one_apart : (n : ℕ) (e : Option ℕ) (es : List (Option ℕ)) → HasOwnRow e es → HasOwnRow e (closed_at n es)
one_apart n None es a = tt
one_apart n (Some m) es a = fewer_closed n m es a

apart_closed : (n : ℕ) (es : List (Option ℕ)) → HaveOwnRows es → HaveOwnRows (closed_at n es)
apart_closed n [] a = tt
apart_closed zero (e ∷ es) a = (tt, a.1)
apart_closed (suc n) (e ∷ es) a = (one_apart n e es a.0, apart_closed n es a.1)

pub apart_after : (us : List Undoing) (es : List (Option ℕ)) → HaveOwnRows es → HaveOwnRows (owners_after us es)
apart_after [] es a = a
apart_after (ends (the_owner n) ∷ us) es a = apart_after us (closed_at n es) (apart_closed n es a)
apart_after (ends (the_signal n) ∷ us) es a = apart_after us es a
apart_after (ends (the_effect n) ∷ us) es a = apart_after us es a
apart_after (ends (the_page n) ∷ us) es a = apart_after us es a
apart_after (ends (the_watcher n) ∷ us) es a = apart_after us es a
apart_after (cleans t c ∷ us) es a = apart_after us es a

-- who has a row after one is gone had it before, and is another one
off_closed : (n k : ℕ) (es : List (Option ℕ)) → HaveOwnRows es → is_row k (closed_at n es) ≡ true → (is_row k es ≡ true) × ((number_in es k == n) ≡ false)
off_closed n k [] a h = cc
off_closed zero k (e ∷ es) a h = go (has_row k e) refl
  where
    go : (b : Bool) → has_row k e ≡ b → ((b || is_row k es) ≡ true) × ((cond b 0 (suc (number_in es k)) == 0) ≡ false)
    go true p = absurd (off_on (is_row k es) (subst (λ o. HasOwnRow o es) (row_is k e p) a.0) h)
    go false p = (h, ne_eqb (suc (number_in es k)) 0 (λ q. omega (arith, q)))
off_closed (suc n) k (e ∷ es) a h = go (has_row k e) h (off_closed n k es a.1)
  where
    go : (b : Bool) → (b || is_row k (closed_at n es)) ≡ true → (is_row k (closed_at n es) ≡ true → (is_row k es ≡ true) × ((number_in es k == n) ≡ false)) →
        ((b || is_row k es) ≡ true) × ((cond b 0 (suc (number_in es k)) == suc n) ≡ false)
    go true p more = (refl, ne_eqb 0 (suc n) (λ q. omega (arith, q)))
    go false p more = let two = more p in (two.0, one_more (number_in es k) n two.1)

pub off_after : (us : List Undoing) (es : List (Option ℕ)) (k : ℕ) → HaveOwnRows es → is_row k (owners_after us es) ≡ true → (is_row k es ≡ true) × (is_ended (the_owner (number_in es k)) us ≡ false)
off_after [] es k a h = (h, refl)
off_after (ends (the_owner n) ∷ us) es k a h =
    let two = off_after us (closed_at n es) k (apart_closed n es a) h in
    let one = off_closed n k es a two.0 in
    let kept = kept_closed n k es one.0 one.1 in
    (one.0, λ i. one.1 i || (ap (λ j. is_ended (the_owner j) us) (sym kept.1) ∙ two.1) i)
off_after (ends (the_signal n) ∷ us) es k a h = off_after us es k a h
off_after (ends (the_effect n) ∷ us) es k a h = off_after us es k a h
off_after (ends (the_page n) ∷ us) es k a h = off_after us es k a h
off_after (ends (the_watcher n) ∷ us) es k a h = off_after us es k a h
off_after (cleans t c ∷ us) es k a h = off_after us es k a h

-- ---- what is noted of rows

entry_closed : (n m : ℕ) (es : List (Option ℕ)) (k : ℕ) → entry (closed_at n es) m ≡ Some k → entry es m ≡ Some k
entry_closed n m [] k h = h
entry_closed zero zero (e ∷ es) k h = cc
entry_closed zero (suc m) (e ∷ es) k h = h
entry_closed (suc n) zero (e ∷ es) k h = h
entry_closed (suc n) (suc m) (e ∷ es) k h = entry_closed n m es k h

none_filtered : (n : ℕ) (xs : List Effect) → effect_row n (filter (λ x. not (n == x.id)) xs) ≡ None
none_filtered n [] = refl
none_filtered n (x ∷ xs) = go (n == x.id) refl (none_filtered n xs)
  where
    go : (b : Bool) → (n == x.id) ≡ b → effect_row n (filter (λ y. not (n == y.id)) xs) ≡ None →
        effect_row n (cond (not b) (x ∷ filter (λ y. not (n == y.id)) xs) (filter (λ y. not (n == y.id)) xs)) ≡ None
    go true p more = more
    go false p more = ap (λ b. cond b (Some x.row) (effect_row n (filter (λ y. not (n == y.id)) xs))) p ∙ more

row_filtered : (n m k : ℕ) (xs : List Effect) → effect_row m (filter (λ x. not (n == x.id)) xs) ≡ Some k → effect_row m xs ≡ Some k
row_filtered n m k [] h = h
row_filtered n m k (x ∷ xs) h = go (n == x.id) refl h (row_filtered n m k xs)
  where
    rest : List Effect
    rest = filter (λ y. not (n == y.id)) xs

    go : (b : Bool) → (n == x.id) ≡ b → effect_row m (cond (not b) (x ∷ rest) rest) ≡ Some k → (effect_row m rest ≡ Some k → effect_row m xs ≡ Some k) →
        cond (m == x.id) (Some x.row) (effect_row m xs) ≡ Some k
    go true p q more = elim (tested (m == x.id)) [
      | inl e ↦ (let same : n ≡ m = eqb-true n x.id p ∙ sym (eqb-true m x.id e) in
          let z : None ≡ Some k = sym (none_filtered n xs) ∙ ap (λ j. effect_row j rest) same ∙ q in cc)
      | inr e ↦ ap (λ b. cond b (Some x.row) (effect_row m xs)) e ∙ more q
    ]
    go false p q more = elim (tested (m == x.id)) [
      | inl e ↦ ap (λ b. cond b (Some x.row) (effect_row m xs)) e ∙ (sym (ap (λ b. cond b (Some x.row) (effect_row m rest)) e) ∙ q)
      | inr e ↦ ap (λ b. cond b (Some x.row) (effect_row m xs)) e ∙ more (sym (ap (λ b. cond b (Some x.row) (effect_row m rest)) e) ∙ q)
    ]

kept_row : (o : Option ℕ) (f : ℕ → Option Thing) (k : ℕ) → (o ≡ Some k → ⊥) → forgotten o f k ≡ f k
kept_row None f k h = refl
kept_row (Some r) f k h = go (r == k) refl
  where
    go : (b : Bool) → (r == k) ≡ b → cond b None (f k) ≡ f k
    go true p = absurd (h (ap Some (eqb-true r k p)))
    go false p = refl

-- what is neither an owner's nor an effect's that ends stays noted
pub kept_noted : (us : List Undoing) (es : List (Option ℕ)) (xs : List Effect) (f : ℕ → Option Thing) (k : ℕ) → ((n : ℕ) → entry es n ≡ Some k → is_ended (the_owner n) us ≡ false) →
    ((n : ℕ) → effect_row n xs ≡ Some k → is_ended (the_effect n) us ≡ false) → things_after us es xs f k ≡ f k
kept_noted [] es xs f k owners effects = refl
kept_noted (ends (the_owner n) ∷ us) es xs f k owners effects =
    kept_noted us (closed_at n es) xs (things_without (ends (the_owner n)) es xs f) k
    (λ m q. right_off (m == n) (is_ended (the_owner m) us) (owners m (entry_closed n m es k q))) effects
    ∙ kept_row (entry es n) f k (λ q. off_on (n == n) (left_off (n == n) (is_ended (the_owner n) us) (owners n q)) (eq-eqb n n refl))
kept_noted (ends (the_effect n) ∷ us) es xs f k owners effects =
    kept_noted us es (filter (λ x. not (n == x.id)) xs) (things_without (ends (the_effect n)) es xs f) k owners
    (λ m q. right_off (m == n) (is_ended (the_effect m) us) (effects m (row_filtered n m k xs q)))
    ∙ kept_row (effect_row n xs) f k (λ q. off_on (n == n) (left_off (n == n) (is_ended (the_effect n) us) (effects n q)) (eq-eqb n n refl))
kept_noted (ends (the_signal n) ∷ us) es xs f k owners effects = kept_noted us es xs f k owners effects
kept_noted (ends (the_page n) ∷ us) es xs f k owners effects = kept_noted us es xs f k owners effects
kept_noted (ends (the_watcher n) ∷ us) es xs f k owners effects = kept_noted us es xs f k owners effects
kept_noted (cleans t c ∷ us) es xs f k owners effects = kept_noted us es xs f k owners effects

-- ---- what lives

without_none : (m : ℕ) (ns : List ℕ) → is_in m ns ≡ false → without (λ (i : ℕ). i) m ns ≡ ns
without_none m [] h = refl
without_none m (n ∷ ns) h =
    ap (λ b. cond b (without (λ (i : ℕ). i) m ns) (n ∷ without (λ (i : ℕ). i) m ns)) (left_off (m == n) (is_in m ns) h)
    ∙ ap (λ (k : List ℕ). n ∷ k) (without_none m ns (right_off (m == n) (is_in m ns) h))

living_closed : (k j m : ℕ) (es : List (Option ℕ)) → m ≡ k + j → living k (closed_at j es) ≡ without (λ (i : ℕ). i) m (living k es)
living_closed k j m [] q = refl
living_closed k zero m (e ∷ es) q = go (is_some e) (without_none m (living (suc k) es) (living_below es (suc k) m (omega (arith, q))))
  where
    go : (b : Bool) → without (λ (i : ℕ). i) m (living (suc k) es) ≡ living (suc k) es →
        living (suc k) es ≡ without (λ (i : ℕ). i) m (cond b (k ∷ living (suc k) es) (living (suc k) es))
    go true none =
        sym (ap (λ b. cond b (without (λ (i : ℕ). i) m (living (suc k) es)) (k ∷ without (λ (i : ℕ). i) m (living (suc k) es))) (eq-eqb m k (omega (arith, q))) ∙ none)
    go false none = sym none
living_closed k (suc j) m (e ∷ es) q = go (is_some e) (living_closed (suc k) j m es (omega (arith, q)))
  where
    off : (m == k) ≡ false
    off = ne_eqb m k (λ e. omega (arith, e, q))

    go : (b : Bool) → living (suc k) (closed_at j es) ≡ without (λ (i : ℕ). i) m (living (suc k) es) →
        cond b (k ∷ living (suc k) (closed_at j es)) (living (suc k) (closed_at j es)) ≡ without (λ (i : ℕ). i) m (cond b (k ∷ living (suc k) es) (living (suc k) es))
    go true more =
        ap (λ (ns : List ℕ). k ∷ ns) more
        ∙ sym (ap (λ b. cond b (without (λ (i : ℕ). i) m (living (suc k) es)) (k ∷ without (λ (i : ℕ). i) m (living (suc k) es))) off)
    go false more = more

effects_kept : (n : ℕ) (xs : List Effect) → map effect_of (filter (λ x. not (n == x.id)) xs) ≡ without (λ (x : plain.Effect). x.number) n (map effect_of xs)
effects_kept n [] = refl
effects_kept n (x ∷ xs) = go (n == x.id) (effects_kept n xs)
  where
    go : (b : Bool) → map effect_of (filter (λ y. not (n == y.id)) xs) ≡ without (λ (y : plain.Effect). y.number) n (map effect_of xs) →
        map effect_of (cond (not b) (x ∷ filter (λ y. not (n == y.id)) xs) (filter (λ y. not (n == y.id)) xs))
        ≡ cond b (without (λ (y : plain.Effect). y.number) n (map effect_of xs)) (effect_of x ∷ without (λ (y : plain.Effect). y.number) n (map effect_of xs))
    go true more = more
    go false more = ap (λ (ys : List plain.Effect). effect_of x ∷ ys) more

pages_kept : (n : ℕ) (ns : List ℕ) → filter (λ m. not (n == m)) ns ≡ without (λ (m : ℕ). m) n ns
pages_kept n [] = refl
pages_kept n (m ∷ ms) = go (n == m) (pages_kept n ms)
  where
    go : (b : Bool) → filter (λ k. not (n == k)) ms ≡ without (λ (k : ℕ). k) n ms →
        cond (not b) (m ∷ filter (λ k. not (n == k)) ms) (filter (λ k. not (n == k)) ms) ≡ cond b (without (λ (k : ℕ). k) n ms) (m ∷ without (λ (k : ℕ). k) n ms)
    go true more = more
    go false more = ap (λ (ks : List ℕ). m ∷ ks) more

world_one : (u : Undoing) (es : List (Option ℕ)) (xs : List Effect) (ns : List ℕ) (w : World) →
    record w { owners = living 0 (owners_without u es); effects = map effect_of (effects_without u xs); pages = pages_without u ns }
    ≡ ended_one u (record w { owners = living 0 es; effects = map effect_of xs; pages = ns })
world_one (ends (the_owner n)) es xs ns w = λ i. record w { owners = living_closed 0 n n es (omega arith) i; effects = map effect_of xs; pages = ns }
world_one (ends (the_effect n)) es xs ns w = λ i. record w { owners = living 0 es; effects = effects_kept n xs i; pages = ns }
world_one (ends (the_page n)) es xs ns w = λ i. record w { owners = living 0 es; effects = map effect_of xs; pages = pages_kept n ns i }
world_one (ends (the_signal n)) es xs ns w = refl
world_one (ends (the_watcher n)) es xs ns w = refl
world_one (cleans t c) es xs ns w = refl

pub world_after : (us : List Undoing) (es : List (Option ℕ)) (xs : List Effect) (ns : List ℕ) (w : World) →
    record w { owners = living 0 (owners_after us es); effects = map effect_of (effects_after us xs); pages = pages_after us ns }
    ≡ ended_all us (record w { owners = living 0 es; effects = map effect_of xs; pages = ns })
world_after [] es xs ns w = refl
world_after (u ∷ us) es xs ns w = world_after us (owners_without u es) (effects_without u xs) (pages_without u ns) w ∙ ap (ended_all us) (world_one u es xs ns w)

-- ---- what lives doesn't end

-- of each element two facts give a third
pub all_two : {A : Type 0} (P Q R : A → Type 0) (xs : List A) → ((x : A) → P x → Q x → R x) → AllByRecursion P xs → AllByRecursion Q xs → AllByRecursion R xs
all_two P Q R [] both p q = tt
all_two P Q R (x ∷ xs) both p q = (both x p.0 q.0, all_two P Q R xs both p.1 q.1)

all_any : {A : Type 0} (P : A → Type 0) (xs : List A) → ((x : A) → P x) → AllByRecursion P xs
all_any P [] p = tt
all_any P (x ∷ xs) p = (p x, all_any P xs p)

-- ---- effects that live don't end

effects_all : (P : Effect → Type 0) (u : Undoing) (xs : List Effect) → AllByRecursion P xs → AllByRecursion P (effects_without u xs)
effects_all P (ends (the_effect n)) xs all = all_filtered P (λ x. not (n == x.id)) xs all
effects_all P (ends (the_signal n)) xs all = all
effects_all P (ends (the_owner n)) xs all = all
effects_all P (ends (the_page n)) xs all = all
effects_all P (ends (the_watcher n)) xs all = all
effects_all P (cleans t c) xs all = all

pub effects_all_after : (P : Effect → Type 0) (us : List Undoing) (xs : List Effect) → AllByRecursion P xs → AllByRecursion P (effects_after us xs)
effects_all_after P [] xs all = all
effects_all_after P (u ∷ us) xs all = effects_all_after P us (effects_without u xs) (effects_all P u xs all)

kept_off : (n : ℕ) (xs : List Effect) → AllByRecursion (λ (x : Effect). (x.id == n) ≡ false) (filter (λ x. not (n == x.id)) xs)
kept_off n [] = tt
kept_off n (x ∷ xs) = go (n == x.id) refl (kept_off n xs)
  where
    go : (b : Bool) → (n == x.id) ≡ b → AllByRecursion (λ (y : Effect). (y.id == n) ≡ false) (filter (λ y. not (n == y.id)) xs) →
        AllByRecursion (λ (y : Effect). (y.id == n) ≡ false) (cond (not b) (x ∷ filter (λ y. not (n == y.id)) xs) (filter (λ y. not (n == y.id)) xs))
    go true e more = more
    go false e more = (swapped x.id n e, more)

pub effects_off : (us : List Undoing) (xs : List Effect) → AllByRecursion (λ (x : Effect). is_ended (the_effect x.id) us ≡ false) (effects_after us xs)
effects_off [] xs = all_any (λ (x : Effect). false ≡ false) xs (λ x. refl)
effects_off (ends (the_effect n) ∷ us) xs =
    all_two (λ (x : Effect). (x.id == n) ≡ false) (λ (x : Effect). is_ended (the_effect x.id) us ≡ false) (λ (x : Effect). is_ended (the_effect x.id) (ends (the_effect n) ∷ us) ≡ false)
    (effects_after us (filter (λ x. not (n == x.id)) xs)) (λ x a b. λ i. a i || b i)
    (effects_all_after (λ (x : Effect). (x.id == n) ≡ false) us (filter (λ x. not (n == x.id)) xs) (kept_off n xs)) (effects_off us (filter (λ x. not (n == x.id)) xs))
effects_off (ends (the_signal n) ∷ us) xs = effects_off us xs
effects_off (ends (the_owner n) ∷ us) xs = effects_off us xs
effects_off (ends (the_page n) ∷ us) xs = effects_off us xs
effects_off (ends (the_watcher n) ∷ us) xs = effects_off us xs
effects_off (cleans t c ∷ us) xs = effects_off us xs

-- ---- effects stand in the order of making

rising_from : (m n : ℕ) (xs : List Effect) → m ≤ n → AreRising n xs → AreRising m xs
rising_from m n [] l r = tt
rising_from m n (x ∷ xs) l r = (omega (arith, l, r.0), r.1)

rising_filter : (f : Effect → Bool) (n : ℕ) (xs : List Effect) → AreRising n xs → AreRising n (filter f xs)
rising_filter f n [] r = tt
rising_filter f n (x ∷ xs) r = go (f x) (rising_filter f (suc x.id) xs r.1)
  where
    go : (b : Bool) → AreRising (suc x.id) (filter f xs) → AreRising n (cond b (x ∷ filter f xs) (filter f xs))
    go true more = (r.0, more)
    go false more = rising_from n (suc x.id) (filter f xs) (let l : n ≤ x.id = r.0 in omega (arith, l)) more

pub rising_without : (u : Undoing) (xs : List Effect) → AreRising 0 xs → AreRising 0 (effects_without u xs)
rising_without (ends (the_effect n)) xs r = rising_filter (λ x. not (n == x.id)) 0 xs r
rising_without (ends (the_signal n)) xs r = r
rising_without (ends (the_owner n)) xs r = r
rising_without (ends (the_page n)) xs r = r
rising_without (ends (the_watcher n)) xs r = r
rising_without (cleans t c) xs r = r

rising_after : (us : List Undoing) (xs : List Effect) → AreRising 0 xs → AreRising 0 (effects_after us xs)
rising_after [] xs r = r
rising_after (u ∷ us) xs r = rising_after us (effects_without u xs) (rising_without u xs r)

pub ordered_after : (us : List Undoing) (xs : List Effect) (made : ℕ) → AreOrdered made xs → AreOrdered made (effects_after us xs)
ordered_after us xs made o = record { rising = rising_after us xs o.rising; below = effects_all_after (λ (x : Effect). x.id < made) us xs o.below }
