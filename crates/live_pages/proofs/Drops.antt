-- Pages stay pages, where some are dropped and where one is made.
use Rattle.std.proofs.Common.{◌≡◌, ◌≤◌, ◌<◌, ◌+◌, ◌||◌, ◌==◌, ℕ, arith, Bool, true, false, cond, List, [], ◌∷◌, ◌++◌, length, map, refl, sym, ap, subst, ◌∙◌}
use Rattle.std.specs.List.{AllByRecursion, filter}
use Rattle.std.proofs.lemmas.List.{length-append, length-map}
use Rattle.sig_base.specs.declared.limits.TheConstants.{MOST_PAGES}
use Rattle.signal_model.specs.Signals.{is_in}
use Rattle.effect_tables.specs.Consistency.{AreApart}
use Rattle.effect_world.specs.declared.world.World.{World}
use Rattle.live_model.specs.Pages.{template_in, Page, Template}
use Rattle.live_pages.specs.declared.mounted.Mounted.{Mounted}
use Rattle.live_pages.specs.Views.{page_of}
use Rattle.live_pages.specs.Updates.{numbers_of, AreShown, AreStanding, ArePages, IsShown}
use Rattle.live_pages.proofs.Apart.{apart_more, few_within, in_last, in_more, neither}

-- ---- some are dropped

-- those of a list that pass
module _ (f : Mounted → Bool) where
  -- what holds of all holds of them
  all_passing : (P : Mounted → Type 0) (ps : List Mounted) → AllByRecursion P ps → AllByRecursion P (filter f ps)
  all_passing P [] all = tt
  all_passing P (p ∷ ps) all = at (f p) (all_passing P ps all.1)
    where
      at : (b : Bool) → AllByRecursion P (filter f ps) → AllByRecursion P (cond b (p ∷ filter f ps) (filter f ps))
      at true more = (all.0, more)
      at false more = more

  -- what holds of all numbers holds of theirs
  numbers_passing : (P : ℕ → Type 0) (ps : List Mounted) → AllByRecursion P (numbers_of ps) → AllByRecursion P (numbers_of (filter f ps))
  numbers_passing P [] all = tt
  numbers_passing P (p ∷ ps) all = at (f p) (numbers_passing P ps all.1)
    where
      at : (b : Bool) → AllByRecursion P (numbers_of (filter f ps)) → AllByRecursion P (numbers_of (cond b (p ∷ filter f ps) (filter f ps)))
      at true more = (all.0, more)
      at false more = more

  -- a number that none has none of them has
  none_passing : (n : ℕ) (ps : List Mounted) → is_in n (numbers_of ps) ≡ false → is_in n (numbers_of (filter f ps)) ≡ false
  none_passing n [] e = refl
  none_passing n (p ∷ ps) e =
      let both = neither (n == p.number) (is_in n (numbers_of ps)) e in at (f p) both.0 (none_passing n ps both.1)
    where
      at : (b : Bool) → (n == p.number) ≡ false → is_in n (numbers_of (filter f ps)) ≡ false →
          is_in n (numbers_of (cond b (p ∷ filter f ps) (filter f ps))) ≡ false
      at true off more = ap (λ (x : Bool). x || is_in n (numbers_of (filter f ps))) off ∙ more
      at false off more = more

  -- they have different numbers still
  apart_passing : (ps : List Mounted) → AreApart (numbers_of ps) → AreApart (numbers_of (filter f ps))
  apart_passing [] apart = tt
  apart_passing (p ∷ ps) apart = at (f p) (none_passing p.number ps apart.0) (apart_passing ps apart.1)
    where
      at : (b : Bool) → is_in p.number (numbers_of (filter f ps)) ≡ false → AreApart (numbers_of (filter f ps)) →
          AreApart (numbers_of (cond b (p ∷ filter f ps) (filter f ps)))
      at true off more = (off, more)
      at false off more = more

  -- and are no more
  pub fewer : (ps : List Mounted) → length (filter f ps) ≤ length ps
  fewer [] = omega arith
  fewer (p ∷ ps) = at (f p) (fewer ps)
    where
      at : (b : Bool) → length (filter f ps) ≤ length ps → length (cond b (p ∷ filter f ps) (filter f ps)) ≤ length (p ∷ ps)
      at true le = omega (arith, le)
      at false le = omega (arith, le)

-- each that is kept lives
each_lives : (ns : List ℕ) (ps : List Mounted) → AllByRecursion (λ (n : ℕ). is_in n ns ≡ true) (numbers_of (filter (λ (p : Mounted). is_in p.number ns) ps))
each_lives ns [] = tt
each_lives ns (p ∷ ps) = at (is_in p.number ns) refl (each_lives ns ps)
  where
    at : (b : Bool) → is_in p.number ns ≡ b → AllByRecursion (λ (n : ℕ). is_in n ns ≡ true) (numbers_of (filter (λ (q : Mounted). is_in q.number ns) ps)) →
        AllByRecursion (λ (n : ℕ). is_in n ns ≡ true) (numbers_of (cond b (p ∷ filter (λ (q : Mounted). is_in q.number ns) ps) (filter (λ (q : Mounted). is_in q.number ns) ps)))
    at true e more = (e, more)
    at false e more = more

-- the same pages live, and pages have the numbers that they had
pub pages_kept : (v w : World) (ps qs : List Mounted) → numbers_of qs ≡ numbers_of ps → w.tables.pages.items ≡ v.tables.pages.items →
    w.tables.pages_made ≡ v.tables.pages_made → ArePages v ps → ArePages w qs
pages_kept v w ps qs same live made are = record {
  apart = subst AreApart (sym same) are.apart;
  live = subst (λ x. x) (λ i. AllByRecursion (λ (n : ℕ). is_in n (sym live i) ≡ true) (sym same i)) are.live;
  below = subst (λ x. x) (λ i. AllByRecursion (λ (n : ℕ). n < sym made i) (sym same i)) are.below;
  few =
      let a = length-map qs (λ (p : Mounted). p.number) in
      let b = length-map ps (λ (p : Mounted). p.number) in
      let d = ap length same in let e = are.few in omega (arith, a, b, d, e);
}

-- those are dropped that ended
pub pages_filtered : (v w : World) (ps qs : List Mounted) → w.tables.pages_made ≡ v.tables.pages_made → qs ≡ filter (λ (p : Mounted). is_in p.number w.tables.pages.items) ps →
    ArePages v ps → ArePages w qs
pages_filtered v w ps qs made is are =
    let f : Mounted → Bool = λ p. is_in p.number w.tables.pages.items in
    subst (ArePages w) (sym is) (record {
      apart = apart_passing f ps are.apart;
      live = each_lives w.tables.pages.items ps;
      below = numbers_passing f (λ (n : ℕ). n < w.tables.pages_made) ps (subst (λ (k : ℕ). AllByRecursion (λ (n : ℕ). n < k) (numbers_of ps)) (sym made) are.below);
      few = let a = fewer f ps in let b = are.few in omega (arith, a, b);
    })

pub shown_filtered : (ts : List Template) (f : Mounted → Bool) (ps qs : List Mounted) → qs ≡ filter f ps → AreShown ts ps → AreShown ts qs
shown_filtered ts f ps qs is all = subst (AreShown ts) (sym is) (all_passing f (IsShown ts) ps all)

-- the same of the pages as the definitions have them
pub plain_filtered : (ns : List ℕ) (ps : List Mounted) → map page_of (filter (λ (p : Mounted). is_in p.number ns) ps) ≡ filter (λ (p : Page). is_in p.number ns) (map page_of ps)
plain_filtered ns [] = refl
plain_filtered ns (p ∷ ps) = at (is_in p.number ns) (plain_filtered ns ps)
  where
    at : (b : Bool) → map page_of (filter (λ (q : Mounted). is_in q.number ns) ps) ≡ filter (λ (q : Page). is_in q.number ns) (map page_of ps) →
        map page_of (cond b (p ∷ filter (λ (q : Mounted). is_in q.number ns) ps) (filter (λ (q : Mounted). is_in q.number ns) ps))
        ≡ cond b (page_of p ∷ filter (λ (q : Page). is_in q.number ns) (map page_of ps)) (filter (λ (q : Page). is_in q.number ns) (map page_of ps))
    at true more = ap (λ (xs : List Page). page_of p ∷ xs) more
    at false more = more

-- ---- one is made

-- and one more of which it holds
pub all_more : {A : Type 0} (P : A → Type 0) (xs : List A) (y : A) → AllByRecursion P xs → P y → AllByRecursion P (xs ++ y ∷ [])
all_more P [] y all p = (p, tt)
all_more P (x ∷ xs) y all p = (all.0, all_more P xs y all.1 p)

weaker : (P Q : ℕ → Type 0) (ns : List ℕ) → ((n : ℕ) → P n → Q n) → AllByRecursion P ns → AllByRecursion Q ns
weaker P Q [] f all = tt
weaker P Q (n ∷ ns) f all = (f n all.0, weaker P Q ns f all.1)

numbers_more : (ps : List Mounted) (q : Mounted) → numbers_of (ps ++ q ∷ []) ≡ numbers_of ps ++ q.number ∷ []
numbers_more [] q = refl
numbers_more (p ∷ ps) q = ap (λ (ns : List ℕ). p.number ∷ ns) (numbers_more ps q)

pub pages_more : (v w : World) (ps : List Mounted) (q : Mounted) → q.number ≡ v.tables.pages_made → w.tables.pages.items ≡ v.tables.pages.items ++ v.tables.pages_made ∷ [] →
    w.tables.pages_made ≡ v.tables.pages_made + 1 → length v.tables.pages.items < MOST_PAGES → ArePages v ps → ArePages w (ps ++ q ∷ [])
pages_more v w ps q number pages made room are =
    let n : ℕ = v.tables.pages_made in
    let ns : List ℕ = numbers_of ps in
    let same : numbers_of (ps ++ q ∷ []) ≡ ns ++ n ∷ [] = numbers_more ps q ∙ ap (λ (k : ℕ). ns ++ k ∷ []) number in
    let live : AllByRecursion (λ (k : ℕ). is_in k (v.tables.pages.items ++ n ∷ []) ≡ true) (ns ++ n ∷ []) =
    all_more (λ (k : ℕ). is_in k (v.tables.pages.items ++ n ∷ []) ≡ true) ns n
    (weaker (λ (k : ℕ). is_in k v.tables.pages.items ≡ true) (λ (k : ℕ). is_in k (v.tables.pages.items ++ n ∷ []) ≡ true) ns
    (λ k h. in_more k v.tables.pages.items (n ∷ []) h) are.live) (in_last n v.tables.pages.items) in
    let below : AllByRecursion (λ (k : ℕ). k < n + 1) (ns ++ n ∷ []) =
    all_more (λ (k : ℕ). k < n + 1) ns n (weaker (λ (k : ℕ). k < n) (λ (k : ℕ). k < n + 1) ns (λ k h. omega (arith, h)) are.below) (omega arith) in
    record {
      apart = subst AreApart (sym same) (apart_more n ns are.apart are.below);
      live = subst (λ x. x) (λ i. AllByRecursion (λ (k : ℕ). is_in k (sym pages i) ≡ true) (sym same i)) live;
      below = subst (λ x. x) (λ i. AllByRecursion (λ (k : ℕ). k < sym made i) (sym same i)) below;
      few =
          let a = few_within ns v.tables.pages.items are.apart are.live in
          let b = length-map ps (λ (p : Mounted). p.number) in
          let d = length-append ps (q ∷ []) in omega (arith, a, b, d, room);
    }

pub shown_more : (ts : List Template) (ps : List Mounted) (p : Mounted) → AreShown ts ps → IsShown ts p → AreShown ts (ps ++ p ∷ [])
shown_more ts ps p all one = all_more (IsShown ts) ps p all one

-- pages that stand on their templates stand
pub all_standing : (ts : List Template) (ps : List Mounted) → AreShown ts ps → AreStanding ps
all_standing ts [] all = tt
all_standing ts (p ∷ ps) all = (
  record { lines = (template_in ts p.template).lines; links = (template_in ts p.template).links; stands = all.0.stands },
  all_standing ts ps all.1,
)
