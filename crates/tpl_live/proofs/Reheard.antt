-- The distinct names that a page heard, heard again in their order: that is hearing the names of its lines, up to the first that has changed.
use Rattle.std.proofs.Common.{◌≡◌, ℕ, zero, suc, ◌+◌, ◌<◌, ◌||◌, Bool, true, false, cond, List, [], ◌∷◌, ◌++◌, length, drop, get_or, nat_eq, option_map, take, Option, Some, None, arith, refl, sym, ap, subst, ◌∙◌}
use Rattle.std.specs.Map.{keys_of}
use Rattle.std.proofs.lemmas.Bool.{false≢true}
use Rattle.std.proofs.lemmas.List.{append-nil, length-map, take-append-drop, take_more}
use Rattle.std.proofs.lemmas.Option.{get_or_from_slice_get, slice_get-map, slice_get_within}
use Rattle.std.specs.List.{take-map}
use Rattle.std.specs.Prelude.{IfSome}
use Rattle.sig_base.specs.declared.value.Outcome.{Outcome}
use Rattle.signal_model.specs.Recipes.{Hosts}
use Rattle.signal_model.specs.Signals.{is_in}
use Rattle.signal_laws.proofs.Shared.{firsts_hold_law, in_head, in_tail}
use Rattle.tpl_model.specs.Sources.{firsts}
use Rattle.tpl_hearing.specs.Heard.{Grows, Hears, Outcomes, Scene, heard_of}
use Rattle.tpl_hearing.specs.HeardAgain.{AreAsBefore, AreCompared, AreSame, AreSameUpTo, IsFront, heard_by}
use Rattle.tpl_hearing.specs.declared.comparisons.Rehearing.{Rehearing}
use Rattle.tpl_hearing.proofs.Shared.{keys_append, still_heard}
use Rattle.tpl_live.proofs.Sourced.{firsts_are, names_read}

-- ---- names that were heard

pub heard_so : (heard : Outcomes) (n : ℕ) → is_in n (keys_of heard) ≡ true → (o : Outcome) × (heard_of heard n ≡ Some o)
heard_so [] n h = absurd (false≢true h)
heard_so (p ∷ ps) n h = go (nat_eq n p.0) h (heard_so ps n)
  where
    go : (b : Bool) → (b || is_in n (keys_of ps)) ≡ true → (is_in n (keys_of ps) ≡ true → (o : Outcome) × (heard_of ps n ≡ Some o)) →
        (o : Outcome) × (cond b (Some p.1) (heard_of ps n) ≡ Some o)
    go true h later = (p.1, refl)
    go false h later = later h

pub reads_in : (ns xs : List ℕ) → ns ≡ firsts [] xs → (n : ℕ) → is_in n xs ≡ true → is_in n ns ≡ true
reads_in ns xs e n i = ap (is_in n) (e ∙ sym (firsts_are [] [] xs (λ j. refl))) ∙ (firsts_hold_law n [] xs ∙ i)

-- names among those with which both begin have one outcome
as_before : (part before now : Outcomes) (ns : List ℕ) → Grows part before → Grows part now →
    ((n : ℕ) → is_in n ns ≡ true → is_in n (keys_of part) ≡ true) → AreAsBefore before now ns
as_before part before now [] b g all = tt
as_before part before now (n ∷ ns) b g all =
    let o = heard_so part n (all n (in_head n ns)) in (
      record {
        outcome = o.0;
        was = ap (λ (h : Outcomes). heard_of h n) b.all ∙ still_heard part b.more n o.0 o.1;
        is = ap (λ (h : Outcomes). heard_of h n) g.all ∙ still_heard part g.more n o.0 o.1;
      },
      as_before part before now ns b g (λ m i. all m (in_tail m n ns i)),
    )

grows_not : (heard : Outcomes) → Grows heard heard
grows_not heard = record { more = []; all = sym (append-nil heard) }

-- all have the outcomes of before
pub all_same : (xs : List ℕ) (before : Outcomes) → keys_of before ≡ firsts [] xs → AreSame before xs [] before
all_same xs before names = record {
  same = as_before before before before xs (grows_not before) (grows_not before) (reads_in (keys_of before) xs names);
  order = names_read (keys_of before) xs names;
}

-- ---- up to one that may have changed

-- where the next of the distinct names stands first
record FirstAt (seen xs : List ℕ) (count : ℕ) : Type 0 where
  place : ℕ
  inside : place < length xs
  before : firsts seen (take place xs) ≡ take count (firsts seen xs)
  through : firsts seen (take (suc place) xs) ≡ take (suc count) (firsts seen xs)

first_at : (seen xs : List ℕ) (count : ℕ) → count < length (firsts seen xs) → FirstAt seen xs count
first_at seen [] count lt = absurd (omega (arith, lt))
first_at seen (x ∷ xs) count lt = go (is_in x seen) count refl lt (λ h. first_at seen xs count h) (λ j h. first_at (x ∷ seen) xs j h)
  where
    go : (b : Bool) (k : ℕ) → is_in x seen ≡ b → k < length (cond b (firsts seen xs) (x ∷ firsts (x ∷ seen) xs)) →
        (k < length (firsts seen xs) → FirstAt seen xs k) → ((j : ℕ) → j < length (firsts (x ∷ seen) xs) → FirstAt (x ∷ seen) xs j) →
        FirstAt seen (x ∷ xs) k
    go true k e lt stays joins =
        let r = stays lt in
        let inside = r.inside in
        record { place = suc r.place; inside = omega (arith, inside); before = rw e r.before; through = rw e r.through }
    go false zero e lt stays joins = record { place = zero; inside = omega arith; before = refl; through = rw e refl }
    go false (suc j) e lt stays joins =
        let r = joins j (omega (arith, lt)) in
        let inside = r.inside in
        record {
          place = suc r.place;
          inside = omega (arith, inside);
          before = rw e (ap (λ ns. x ∷ ns) r.before);
          through = rw e (ap (λ ns. x ∷ ns) r.through);
        }

-- the others have the outcomes of before
pub same_up_to : (xs : List ℕ) (before now : Outcomes) → keys_of before ≡ firsts [] xs → IsFront before now → AreSameUpTo before xs [] now
same_up_to xs before now names f =
    let key : ℕ × Outcome → ℕ = λ p. p.0 in
    let part : Outcomes = take f.count before in
    let within = slice_get_within before f.count (f.name, f.was) f.at in
    let many : length (keys_of before) ≡ length before = length-map before key in
    let all : length (keys_of before) ≡ length (firsts [] xs) = ap length names in
    let at = first_at [] xs f.count (omega (arith, within, many, all)) in
    let next : suc at.place ≡ at.place + 1 = omega arith in
    let one : suc f.count ≡ f.count + 1 = omega arith in
    let front : keys_of part ≡ take f.count (keys_of before) = sym (take-map key f.count before) in
    let keys : keys_of part ≡ firsts [] (take at.place xs) = front ∙ (ap (take f.count) names ∙ sym at.before) in
    let there : get_or (keys_of before) f.count f.name ≡ f.name =
    get_or_from_slice_get (keys_of before) f.count f.name f.name (slice_get-map key before f.count ∙ ap (option_map key) f.at) in
    let last : keys_of part ++ f.name ∷ [] ≡ firsts [] (take (at.place + 1) xs) =
    ap (λ ks. ks ++ f.name ∷ []) front
    ∙ (ap (λ n. take f.count (keys_of before) ++ n ∷ []) (sym there)
    ∙ (sym (take_more (keys_of before) f.count f.name (omega (arith, within, many)))
    ∙ (ap (take (f.count + 1)) names
    ∙ (ap (λ k. take k (firsts [] xs)) (sym one) ∙ (sym at.through ∙ ap (λ k. firsts [] (take k xs)) next))))) in
    record {
      count = at.place;
      inside = at.inside;
      same = as_before part before now (take at.place xs) (record { more = drop f.count before; all = sym (take-append-drop f.count before) })
          (record { more = (f.name, f.outcome) ∷ []; all = f.all }) (reads_in (keys_of part) (take at.place xs) keys);
      order = names_read (keys_of now) (take (at.place + 1) xs) (ap keys_of f.all ∙ (keys_append part ((f.name, f.outcome) ∷ []) ∙ last));
    }

-- ---- as the code has it

-- all of before was heard where none has changed
pub all_heard : (x y : Scene) (before after : Hosts → Type 0) (r : Option Rehearing) (was : Outcomes) → r ≡ None →
    Hears x y before after [] (heard_by r was) → Hears x y before after [] was
all_heard x y before after r was e h = subst (λ (z : Option Rehearing). Hears x y before after [] (heard_by z was)) e h

-- and otherwise what was noted
pub front_heard : (x y : Scene) (before after : Hosts → Type 0) (r : Option Rehearing) (was : Outcomes) (front : Rehearing) → r ≡ Some front →
    Hears x y before after [] (heard_by r was) → Hears x y before after [] front.heard
front_heard x y before after r was front e h = subst (λ (z : Option Rehearing). Hears x y before after [] (heard_by z was)) e h

-- which is a front of it
pub found_front : (r : Option Rehearing) (before : Outcomes) (front : Rehearing) → r ≡ Some front → IfSome r (λ (h : Rehearing). IsFront before h.heard) →
    IsFront before front.heard
found_front r before front e f = subst (λ z. IfSome z (λ (h : Rehearing). IsFront before h.heard)) e f

-- of which is known which names have the outcomes of before
pub found_compared : (r : Option Rehearing) (before : Outcomes) (front : Rehearing) → r ≡ Some front → IfSome r (λ (h : Rehearing). AreCompared before h) →
    AreCompared before front
found_compared r before front e f = subst (λ z. IfSome z (λ (h : Rehearing). AreCompared before h)) e f
