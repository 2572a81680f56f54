-- Names that were made, templates among others, and what isn't refused.
use Rattle.std.proofs.Common.{◌≡◌, ℕ, zero, suc, Bool, true, false, cond, List, [], ◌∷◌, ◌++◌, Option, Some, None, refl, sym, ap, subst, ◌∙◌}
use Rattle.std.specs.List.{AllByRecursion}
use Rattle.std.specs.Str.{bytes_eq}
use Rattle.std.proofs.lemmas.Slice.Eq.{bytes_eq-Decides}
use Rattle.page_model.proofs.Shared.{same_name}
use Rattle.page_model.specs.Pages.{NumberedPage, bare, renumbered}
use Rattle.tpl_model.specs.Laws.{IsMade, IsTemplate, begun, carried_on}
use Rattle.tpl_model.specs.Shapes.{shape_of}
use Rattle.effect_model.specs.Worlds.{World}
use Rattle.live_model.specs.declared.names.Meaning.{Meaning}
use Rattle.live_model.specs.declared.names.Need.TheVariants as need
use Rattle.live_model.specs.Names.{Names, meaning_of, refusal_at}
use Rattle.live_model.specs.Pages.{Page, Template, template_in}
use Rattle.page_laws.proofs.Operations.{Differ}

-- ---- refusals

-- a name that can be given was not made
pub name_free : (w : World) (n : List ℕ) (o : Option Meaning) → refusal_at w (n, need.New) o ≡ None → o ≡ None
name_free w n None h = refl
name_free w n (Some m) h = cc

-- ---- names

-- the page's name was made
abbrev pub IsNamed : Names → Page → Type 0
IsNamed names p = meaning_of names p.name ≡ None → ⊥

-- what was made stays made
still_named : (names : Names) (n : List ℕ) (e : List ℕ × Meaning) → meaning_of (names ++ e ∷ []) n ≡ None → meaning_of names n ≡ None
still_named [] n e h = refl
still_named (x ∷ names) n e h = go (bytes_eq n x.0) h (still_named names n e)
  where
    go : (b : Bool) → cond b (Some x.1) (meaning_of (names ++ e ∷ []) n) ≡ None → (meaning_of (names ++ e ∷ []) n ≡ None → meaning_of names n ≡ None) →
        cond b (Some x.1) (meaning_of names n) ≡ None
    go true k rest = cc
    go false k rest = rest k

pub all_named : (names : Names) (e : List ℕ × Meaning) (ps : List Page) → AllByRecursion (IsNamed names) ps → AllByRecursion (IsNamed (names ++ e ∷ [])) ps
all_named names e [] h = tt
all_named names e (p ∷ ps) h = (λ k. h.0 (still_named names p.name e k), all_named names e ps h.1)

-- the last name is made
pub last_named : (names : Names) (n : List ℕ) (m : Meaning) → meaning_of (names ++ (n, m) ∷ []) n ≡ None → ⊥
last_named [] n m h = go (bytes_eq n n) (same_name n) h
  where
    go : (b : Bool) → b ≡ true → cond b (Some m) None ≡ None → ⊥
    go true e k = cc
    go false e k = cc
last_named (x ∷ names) n m h = go (bytes_eq n x.0) h (last_named names n m)
  where
    go : (b : Bool) → cond b (Some x.1) (meaning_of (names ++ (n, m) ∷ []) n) ≡ None → (meaning_of (names ++ (n, m) ∷ []) n ≡ None → ⊥) → ⊥
    go true k rest = cc
    go false k rest = rest k

apart : (s t : List ℕ) → (s ≡ t → ⊥) → bytes_eq s t ≡ false
apart s t h = go (bytes_eq s t) refl
  where
    go : (b : Bool) → bytes_eq s t ≡ b → b ≡ false
    go true e = absurd (h ((bytes_eq-Decides s t).0 e))
    go false e = refl

-- a name that wasn't made differs from those of pages
differs : (names : Names) (m n : List ℕ) → meaning_of names n ≡ None → (meaning_of names m ≡ None → ⊥) → Differ m n
differs names m n free made =
    (apart m n (λ e. made (ap (meaning_of names) e ∙ free)), apart n m (λ e. made (ap (meaning_of names) (sym e) ∙ free)))

pub all_differ : (names : Names) (n : List ℕ) (ps : List Page) → meaning_of names n ≡ None → AllByRecursion (IsNamed names) ps →
    AllByRecursion (λ (q : Page). Differ q.name n) ps
all_differ names n [] free h = tt
all_differ names n (p ∷ ps) free h = (differs names p.name n free h.0, all_differ names n ps free h.1)

-- ---- templates

-- the page's nodes are made from its template
abbrev pub IsPageOf : List Template → Page → Type 0
IsPageOf ts p = IsMade (template_in ts p.template).lines p.content

pub template_good : (ts : List Template) (t : ℕ) → AllByRecursion (λ (x : Template). IsTemplate x.lines) ts → IsTemplate (template_in ts t).lines
template_good [] t h = tt
template_good (x ∷ ts) zero h = h.0
template_good (x ∷ ts) (suc t) h = template_good ts t h.1

-- of no lines nothing but the bare page is made
pub nothing_made : (p : NumberedPage) → IsMade [] p → p ≡ bare
nothing_made _ begun = refl
nothing_made _ (carried_on {p = p} evaluate g m) = only p (nothing_made p m)
  where
    only : (q : NumberedPage) → q ≡ bare → renumbered q (shape_of evaluate []) ≡ bare
    only q e = ap (λ (r : NumberedPage). renumbered r (shape_of evaluate [])) e

-- one template more changes none of those before
made_still : (ts : List Template) (x : Template) (t : ℕ) (p : NumberedPage) → IsMade (template_in ts t).lines p → IsMade (template_in (ts ++ x ∷ []) t).lines p
made_still [] x t p h = subst (λ (q : NumberedPage). IsMade (template_in (x ∷ []) t).lines q) (sym (nothing_made p h)) begun
made_still (y ∷ ts) x zero p h = h
made_still (y ∷ ts) x (suc t) p h = made_still ts x t p h

pub all_made : (ts : List Template) (x : Template) (ps : List Page) → AllByRecursion (IsPageOf ts) ps → AllByRecursion (IsPageOf (ts ++ x ∷ [])) ps
all_made ts x [] h = tt
all_made ts x (p ∷ ps) h = (made_still ts x p.template p.content h.0, all_made ts x ps h.1)
