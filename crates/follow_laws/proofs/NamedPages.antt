-- The names, labels and numbers of pages.
use Rattle.std.proofs.Common.{◌≡◌, ℕ, ◌==◌, zero, suc, Bool, true, false, cond, List, [], ◌∷◌, ◌++◌, Option, Some, None, length, refl, sym, ap, ◌∙◌, ◌⊎◌, inl, inr}
use Rattle.std.specs.Prelude.{slice_get}
use Rattle.std.specs.List.{AllByRecursion, filter}
use Rattle.std.specs.Str.{bytes_eq}
use Rattle.std.proofs.lemmas.Bool.{eqb-true, eq-eqb}
use Rattle.signal_model.specs.Signals.{is_in}
use Rattle.effect_model.specs.Owners.{the_effect}
use Rattle.effect_model.specs.Worlds.{Event, gone, made_child}
use Rattle.live_model.specs.declared.names.Kind.TheVariants as kind
use Rattle.live_model.specs.declared.names.Meaning.{Meaning}
use Rattle.live_model.specs.Labels.{Labels, labels_after, relabelled}
use Rattle.live_model.specs.Machine.{page_at}
use Rattle.live_model.specs.Names.{Names, meaning_of}
use Rattle.live_model.specs.Pages.{Page}
use Rattle.page_model.specs.Pages.{tree_of}
use Rattle.page_laws.specs.LivePages.{tree_named}
use Rattle.follow_laws.specs.ToldPages.{has_page}
use Rattle.follow_laws.proofs.MountedTrees.{clash, equal, same}

-- the page of a number
abbrev pub a_page : ℕ → Meaning
a_page i = record { kind = kind.Page; number = i }

-- whether there is a page
abbrev pub is_page : Option Page → Bool
is_page None = false
is_page (Some p) = true

-- the name stands for the page
abbrev pub IsNumbered : Names → Page → Type 0
IsNumbered names p = meaning_of names p.name ≡ Some (a_page p.number)

-- the names of pages are told by their numbers
abbrev pub AreLabelled : Names → List (List ℕ) → Type 0
AreLabelled names labels = (n : List ℕ) (i : ℕ) → meaning_of names n ≡ Some (a_page i) → slice_get labels i ≡ Some n

-- no two have one name
abbrev pub AreApart : List Page → Type 0
AreApart [] = Unit {0}
AreApart (p ∷ ps) = (has_page ps p.name ≡ false) × AreApart ps

-- each of these numbers is a page's
abbrev pub AreWhole : List ℕ → List Page → Type 0
AreWhole numbers ps = (i : ℕ) → is_in i numbers ≡ true → is_page (page_at ps i) ≡ true

-- Each page that lives has the name of its number, and each number of a page that lives is one's.
pub record IsTied (names : Names) (labels : List (List ℕ)) (made : ℕ) (living : List ℕ) (ps : List Page) : Type 0 where
  pub numbered : AllByRecursion (IsNumbered names) ps
  pub labelled : AreLabelled names labels
  pub counted : length labels ≡ made
  pub whole : AreWhole living ps
  pub apart : AreApart ps

-- ---- events leave the labels of pages

relabelled_pages : (e : Event) (labels : Labels) → (relabelled e labels).pages ≡ labels.pages
relabelled_pages (gone (the_effect n)) labels = refl
relabelled_pages (made_child c p k) labels = refl
relabelled_pages e labels = refl

pub labels_stay : (es : List Event) (labels : Labels) → (labels_after es labels).pages ≡ labels.pages
labels_stay [] labels = refl
labels_stay (e ∷ es) labels = labels_stay es (relabelled e labels) ∙ relabelled_pages e labels

-- ---- names

-- what was made stays
pub meaning_kept : (names : Names) (e : List ℕ × Meaning) (n : List ℕ) (x : Meaning) → meaning_of names n ≡ Some x → meaning_of (names ++ e ∷ []) n ≡ Some x
meaning_kept [] e n x h = cc
meaning_kept (y ∷ names) e n x h = go (bytes_eq n y.0) h (meaning_kept names e n x)
  where
    go : (b : Bool) → cond b (Some y.1) (meaning_of names n) ≡ Some x → (meaning_of names n ≡ Some x → meaning_of (names ++ e ∷ []) n ≡ Some x) →
        cond b (Some y.1) (meaning_of (names ++ e ∷ []) n) ≡ Some x
    go true k rest = k
    go false k rest = rest k

-- what stands for something now did before, or is the last
pub meaning_before : (names : Names) (k : List ℕ) (y : Meaning) (n : List ℕ) (x : Meaning) → meaning_of (names ++ (k, y) ∷ []) n ≡ Some x →
    (meaning_of names n ≡ Some x) ⊎ ((n ≡ k) × (y ≡ x))
meaning_before [] k y n x h = go (bytes_eq n k) refl h
  where
    some : (a b : Meaning) → Some a ≡ Some b → a ≡ b
    some a b e = cc

    go : (b : Bool) → bytes_eq n k ≡ b → cond b (Some y) None ≡ Some x → (None ≡ Some x) ⊎ ((n ≡ k) × (y ≡ x))
    go true e g = inr (equal n k e, some y x g)
    go false e g = cc
meaning_before (z ∷ names) k y n x h = go (bytes_eq n z.0) h (meaning_before names k y n x)
  where
    go : (b : Bool) → cond b (Some z.1) (meaning_of (names ++ (k, y) ∷ []) n) ≡ Some x →
        (meaning_of (names ++ (k, y) ∷ []) n ≡ Some x → (meaning_of names n ≡ Some x) ⊎ ((n ≡ k) × (y ≡ x))) →
        (cond b (Some z.1) (meaning_of names n) ≡ Some x) ⊎ ((n ≡ k) × (y ≡ x))
    go true g rest = inl g
    go false g rest = rest g

pub unmade_before : (names : Names) (e : List ℕ × Meaning) (n : List ℕ) → meaning_of (names ++ e ∷ []) n ≡ None → meaning_of names n ≡ None
unmade_before [] e n h = refl
unmade_before (y ∷ names) e n h = go (bytes_eq n y.0) h (unmade_before names e n)
  where
    go : (b : Bool) → cond b (Some y.1) (meaning_of (names ++ e ∷ []) n) ≡ None → (meaning_of (names ++ e ∷ []) n ≡ None → meaning_of names n ≡ None) →
        cond b (Some y.1) (meaning_of names n) ≡ None
    go true k rest = cc
    go false k rest = rest k

pub last_meant : (names : Names) (n : List ℕ) (x : Meaning) → meaning_of names n ≡ None → meaning_of (names ++ (n, x) ∷ []) n ≡ Some x
last_meant [] n x h = ap (λ b. cond b (Some x) None) (same n)
last_meant (y ∷ names) n x h = go (bytes_eq n y.0) h (last_meant names n x)
  where
    go : (b : Bool) → cond b (Some y.1) (meaning_of names n) ≡ None → (meaning_of names n ≡ None → meaning_of (names ++ (n, x) ∷ []) n ≡ Some x) →
        cond b (Some y.1) (meaning_of (names ++ (n, x) ∷ []) n) ≡ Some x
    go true k rest = cc
    go false k rest = rest k

pub all_numbered : (names : Names) (e : List ℕ × Meaning) (ps : List Page) → AllByRecursion (IsNumbered names) ps →
    AllByRecursion (IsNumbered (names ++ e ∷ [])) ps
all_numbered names e [] h = tt
all_numbered names e (p ∷ ps) h = (meaning_kept names e p.name (a_page p.number) h.0, all_numbered names e ps h.1)

-- a page's name stands for something
pub page_meant : (names : Names) (ps : List Page) (n : List ℕ) → AllByRecursion (IsNumbered names) ps → has_page ps n ≡ true → meaning_of names n ≡ None → ⊥
page_meant names [] n h there u = clash (sym there)
page_meant names (p ∷ ps) n h there u = go (bytes_eq n p.name) refl there (λ k. page_meant names ps n h.1 k u)
  where
    none : (x : Meaning) → Some x ≡ None → ⊥
    none x e = cc

    go : (b : Bool) → bytes_eq n p.name ≡ b → cond b true (has_page ps n) ≡ true → (has_page ps n ≡ true → ⊥) → ⊥
    go true e k rest = none (a_page p.number) (sym h.0 ∙ ap (meaning_of names) (sym (equal n p.name e)) ∙ u)
    go false e k rest = rest k

-- ---- labels

pub slice_kept : (xs : List (List ℕ)) (y : List ℕ) (i : ℕ) (x : List ℕ) → slice_get xs i ≡ Some x → slice_get (xs ++ y ∷ []) i ≡ Some x
slice_kept [] y i x h = cc
slice_kept (z ∷ xs) y zero x h = h
slice_kept (z ∷ xs) y (suc i) x h = slice_kept xs y i x h

pub slice_last : (xs : List (List ℕ)) (y : List ℕ) → slice_get (xs ++ y ∷ []) (length xs) ≡ Some y
slice_last [] y = refl
slice_last (z ∷ xs) y = slice_last xs y

-- ---- the page of a name that stands for it

one_name : (names : Names) (labels : List (List ℕ)) (n m : List ℕ) (i : ℕ) → AreLabelled names labels → meaning_of names n ≡ Some (a_page i) →
    meaning_of names m ≡ Some (a_page i) → n ≡ m
one_name names labels n m i h a b = some n m (sym (h n i a) ∙ h m i b)
  where
    some : (x y : List ℕ) → Some x ≡ Some y → x ≡ y
    some x y e = cc

-- it is there, and the page of its number is it
pub page_found : (names : Names) (labels : List (List ℕ)) (ps : List Page) (n : List ℕ) (i : ℕ) → AllByRecursion (IsNumbered names) ps →
    AreLabelled names labels → meaning_of names n ≡ Some (a_page i) → is_page (page_at ps i) ≡ true →
    (has_page ps n ≡ true) × ((p : Page) → page_at ps i ≡ Some p → tree_of p.content ≡ tree_named ps n)
page_found names labels [] n i h l m there = absurd (clash (sym there))
page_found names labels (q ∷ ps) n i h l m there = go (i == q.number) refl (bytes_eq n q.name) refl there (page_found names labels ps n i h.1 l m)
  where
    some : (x y : Page) → Some x ≡ Some y → x ≡ y
    some x y e = cc

    number : (x y : Meaning) → Some x ≡ Some y → x.number ≡ y.number
    number x y e = cc

    go : (b : Bool) → (i == q.number) ≡ b → (c : Bool) → bytes_eq n q.name ≡ c → is_page (cond b (Some q) (page_at ps i)) ≡ true →
        (is_page (page_at ps i) ≡ true → (has_page ps n ≡ true) × ((p : Page) → page_at ps i ≡ Some p → tree_of p.content ≡ tree_named ps n)) →
        (cond c true (has_page ps n) ≡ true) × ((p : Page) → cond b (Some q) (page_at ps i) ≡ Some p → tree_of p.content ≡ cond c (tree_of q.content) (tree_named ps n))
    go true e true f k rest = (refl, λ p g. ap (λ (x : Page). tree_of x.content) (sym (some q p g)))
    go true e false f k rest =
        let mine : meaning_of names q.name ≡ Some (a_page i) = h.0 ∙ ap (λ j. Some (a_page j)) (sym (eqb-true i q.number e)) in
        absurd (clash (sym (same n) ∙ ap (bytes_eq n) (one_name names labels n q.name i l m mine) ∙ f))
    go false e true f k rest =
        let twice : i ≡ q.number = number (a_page i) (a_page q.number) (sym m ∙ ap (meaning_of names) (equal n q.name f) ∙ h.0) in
        absurd (clash (sym (eq-eqb i q.number twice) ∙ e))
    go false e false f k rest = rest k

-- ---- pages that pass

pub fewer_named : (f : Page → Bool) (ps : List Page) (n : List ℕ) → has_page (filter f ps) n ≡ true → has_page ps n ≡ true
fewer_named f [] n h = h
fewer_named f (p ∷ ps) n h = go (f p) (bytes_eq n p.name) refl h (fewer_named f ps n)
  where
    go : (b c : Bool) → bytes_eq n p.name ≡ c → has_page (cond b (p ∷ filter f ps) (filter f ps)) n ≡ true → (has_page (filter f ps) n ≡ true → has_page ps n ≡ true) →
        cond c true (has_page ps n) ≡ true
    go b true e k rest = refl
    go true false e k rest = rest (sym (ap (λ c. cond c true (has_page (filter f ps) n)) e) ∙ k)
    go false false e k rest = rest k

fewer_none : (f : Page → Bool) (ps : List Page) (n : List ℕ) → has_page ps n ≡ false → has_page (filter f ps) n ≡ false
fewer_none f ps n h = go (has_page (filter f ps) n) refl
  where
    go : (b : Bool) → has_page (filter f ps) n ≡ b → has_page (filter f ps) n ≡ false
    go true e = absurd (clash (sym (fewer_named f ps n e) ∙ h))
    go false e = e

pub apart_filtered : (f : Page → Bool) (ps : List Page) → AreApart ps → AreApart (filter f ps)
apart_filtered f [] h = tt
apart_filtered f (p ∷ ps) h = go (f p) (apart_filtered f ps h.1)
  where
    go : (b : Bool) → AreApart (filter f ps) → AreApart (cond b (p ∷ filter f ps) (filter f ps))
    go true rest = (fewer_none f ps p.name h.0, rest)
    go false rest = rest

pub numbered_filtered : (names : Names) (f : Page → Bool) (ps : List Page) → AllByRecursion (IsNumbered names) ps → AllByRecursion (IsNumbered names) (filter f ps)
numbered_filtered names f [] h = tt
numbered_filtered names f (p ∷ ps) h = go (f p) (numbered_filtered names f ps h.1)
  where
    go : (b : Bool) → AllByRecursion (IsNumbered names) (filter f ps) → AllByRecursion (IsNumbered names) (cond b (p ∷ filter f ps) (filter f ps))
    go true rest = (h.0, rest)
    go false rest = rest

-- a page whose number is among those that live stays
pub whole_filtered : (living : List ℕ) (ps : List Page) (i : ℕ) → is_in i living ≡ true → is_page (page_at ps i) ≡ true →
    is_page (page_at (filter (λ (p : Page). is_in p.number living) ps) i) ≡ true
whole_filtered living [] i h k = k
whole_filtered living (p ∷ ps) i h k = go (i == p.number) refl (is_in p.number living) refl k (whole_filtered living ps i h)
  where
    rest_of : List Page
    rest_of = filter (λ (q : Page). is_in q.number living) ps

    go : (b : Bool) → (i == p.number) ≡ b → (c : Bool) → is_in p.number living ≡ c → is_page (cond b (Some p) (page_at ps i)) ≡ true →
        (is_page (page_at ps i) ≡ true → is_page (page_at (filter (λ (q : Page). is_in q.number living) ps) i) ≡ true) →
        is_page (page_at (cond c (p ∷ filter (λ (q : Page). is_in q.number living) ps) (filter (λ (q : Page). is_in q.number living) ps)) i) ≡ true
    go true e true f g rest = ap (λ b. is_page (cond b (Some p) (page_at (filter (λ (q : Page). is_in q.number living) ps) i))) e
    go true e false f g rest = absurd (clash (sym h ∙ ap (λ j. is_in j living) (eqb-true i p.number e) ∙ f))
    go false e true f g rest = ap (λ b. is_page (cond b (Some p) (page_at (filter (λ (q : Page). is_in q.number living) ps) i))) e ∙ rest g
    go false e false f g rest = rest g
