-- The plain body at the end of a path, by the program's body and links there.
use Rattle.std.proofs.Common.{◌≡◌, ℕ, zero, suc, ◌++◌, List, [], ◌∷◌, map, length, refl, sym, ap, subst, ◌∙◌}
use Rattle.std.specs.Prelude.{slice_get}
use Rattle.effect_model.specs.Bodies as plain
use Rattle.sig_untrack.specs.declared.body.Body.{Body}
use Rattle.sig_untrack.specs.declared.body.Body.TheViews.{out-Body}
use Rattle.sig_untrack.specs.Links.{linked}
use Rattle.sig_untrack.specs.Stated.{Bodies, no_bodies, body, before, bodies_before, no_more, rewiring, stated, statements_of}
use Rattle.effect_tables.specs.declared.effect.Script.{Script}
use Rattle.effect_tables.specs.declared.links.Links.{Links}
use Rattle.effect_tables.specs.declared.links.Links.TheViews.{out-Links}
use Rattle.effect_tables.specs.Scripts.{AreFew, AreFitting, FitsNames, IsFitting}
use Rattle.effect_tables.specs.Bodies.{Linking, no_links, links, links_before, all_before, bodies_in, body_along, body_of, body_or_none, links_in, linked_bodies, no_body, parts}
use Rattle.effect_teardown.specs.Sites.{IsPart, bodies_from, body_at, first_body, first_links, links_at, links_from, parts_of, parts_with}
use Rattle.effect_teardown.proofs.Walks.{before_is, links_are, slots_of}

-- without links no body is made
joined_none : (origin : ℕ) (bs : Bodies) → linked_bodies origin bs no_links ≡ []
joined_none origin no_bodies = refl
joined_none origin (body ss targets names inner rewires rest) = refl

-- ---- the body itself

-- the plain body of the first of these
abbrev pub made_of : ℕ → Bodies → Linking → plain.Body
made_of origin bs ls = body_or_none (slice_get (linked_bodies origin bs ls) 0)

split_here : (origin : ℕ) (bs : Bodies) (ls : Linking) (n : ℕ) → body_or_none (slice_get (linked_bodies origin bs ls) n) ≡ made_of origin (first_body (bodies_from bs n)) (first_links (links_from ls n))
split_here origin no_bodies ls n = refl
split_here origin (body ss targets names inner rewires rest) no_links n =
    sym (ap (λ (xs : List plain.Body). body_or_none (slice_get xs 0)) (joined_none origin (first_body (bodies_from (body ss targets names inner rewires rest) n))))
split_here origin (body ss targets names inner rewires rest) (links ns ts ls slots more) zero = refl
split_here origin (body ss targets names inner rewires rest) (links ns ts ls slots more) (suc n) = split_here origin rest more n

split_along : (origin : ℕ) (bs : Bodies) (ls : Linking) (n : ℕ) (path : List ℕ) → body_along origin bs ls n path ≡ made_of origin (body_at bs n path) (links_at ls n path)
split_along origin bs ls n [] = split_here origin bs ls n
split_along origin bs ls n (m ∷ path) = split_along origin (bodies_in bs n) (links_in ls n) m path

-- ---- a nested one

nested_here : (origin : ℕ) (bs : Bodies) (ls : Linking) (n m : ℕ) →
    body_or_none (slice_get (linked_bodies origin (bodies_in bs n) (links_in ls n)) m) ≡ (parts_with origin (first_body (bodies_from bs n)) (first_links (links_from ls n))).bodies m
nested_here origin no_bodies ls n m = refl
nested_here origin (body ss targets names inner rewires rest) no_links n m =
    ap (λ (xs : List plain.Body). body_or_none (slice_get xs m)) (joined_none origin (bodies_in (body ss targets names inner rewires rest) n)) ∙ go (first_body (bodies_from (body ss targets names inner rewires rest) n))
  where
    go : (b : Bodies) → body_or_none (slice_get [] m) ≡ (parts_with origin b no_links).bodies m
    go no_bodies = refl
    go (body ss2 targets2 names2 inner2 rewires2 rest2) = refl
nested_here origin (body ss targets names inner rewires rest) (links ns ts ls slots more) zero m = refl
nested_here origin (body ss targets names inner rewires rest) (links ns ts ls slots more) (suc n) m = nested_here origin rest more n m

nested_along : (origin : ℕ) (bs : Bodies) (ls : Linking) (n : ℕ) (path : List ℕ) (m : ℕ) →
    body_along origin bs ls n (path ++ m ∷ []) ≡ (parts_with origin (body_at bs n path) (links_at ls n path)).bodies m
nested_along origin bs ls n [] m = nested_here origin bs ls n m
nested_along origin bs ls n (k ∷ path) m = nested_along origin (bodies_in bs n) (links_in ls n) k path m

-- the body of a child is what the place of the nested effect stands for in its parent's body
pub child_body : (origin : ℕ) (s : Script) (path : List ℕ) (n : ℕ) → body_of origin s (path ++ n ∷ []) ≡ (parts_of origin s path).bodies n
child_body origin s path n = nested_along origin (before s.body no_bodies) (links_before s.links no_links) 0 path n

-- ---- what fits

fits_none : (bs : Bodies) → AreFitting bs no_links
fits_none no_bodies = tt
fits_none (body ss targets names inner rewires rest) = tt

fits_here : (bs : Bodies) (ls : Linking) (n : ℕ) → AreFitting bs ls → AreFitting (first_body (bodies_from bs n)) (first_links (links_from ls n))
fits_here no_bodies ls n h = tt
fits_here (body ss targets names inner rewires rest) no_links n h = fits_none (first_body (bodies_from (body ss targets names inner rewires rest) n))
fits_here (body ss targets names inner rewires rest) (links ns ts ls slots more) zero h = (h.0, h.1, h.2, tt)
fits_here (body ss targets names inner rewires rest) (links ns ts ls slots more) (suc n) h = fits_here rest more n h.3

fits_in : (bs : Bodies) (ls : Linking) (n : ℕ) → AreFitting bs ls → AreFitting (bodies_in bs n) (links_in ls n)
fits_in no_bodies ls n h = tt
fits_in (body ss targets names inner rewires rest) no_links n h = fits_none (bodies_in (body ss targets names inner rewires rest) n)
fits_in (body ss targets names inner rewires rest) (links ns ts ls slots more) zero h = h.2
fits_in (body ss targets names inner rewires rest) (links ns ts ls slots more) (suc n) h = fits_in rest more n h.3

fits_along : (bs : Bodies) (ls : Linking) (n : ℕ) (path : List ℕ) → AreFitting bs ls → AreFitting (body_at bs n path) (links_at ls n path)
fits_along bs ls n [] h = fits_here bs ls n h
fits_along bs ls n (m ∷ path) h = fits_along (bodies_in bs n) (links_in ls n) m path (fits_in bs ls n h)

-- ---- by the program's body and links

-- the nested bodies of a body, with their links
abbrev pub nested_of : ℕ → Body → Links → List plain.Body
nested_of origin b l = linked_bodies origin (bodies_before (out-Body b).effects.items no_bodies) (all_before (map links_before (out-Links l).inner.items) no_links)

module _ (s : Script) (path : List ℕ) (b : Body) (l : Links) (is : IsPart s path b l) where
  -- what its places stand for
  pub part_parts : (origin : ℕ) → parts_of origin s path ≡ parts origin (out-Links l).targets.items (nested_of origin b l) (map rewiring (out-Body b).rewires.items) (slots_of l)
  part_parts origin = (λ i. parts_with origin (is.body i) (is.links i)) ∙ (λ i. parts_with origin (before_is b no_bodies i) (links_are l no_links i))

  -- the plain body
  pub part_seen : (origin : ℕ) → body_of origin s path ≡ record { statements = linked (parts_of origin s path) (statements_of (before b no_bodies)); names = (out-Links l).names.items }
  part_seen origin =
      split_along origin (before s.body no_bodies) (links_before s.links no_links) 0 path
      ∙ (λ i. made_of origin (is.body i) (is.links i)) ∙ (λ i. made_of origin (before_is b no_bodies i) (links_are l no_links i))
      ∙ (λ i. record { statements = linked (sym (part_parts origin) i) (statements_of (sym (before_is b no_bodies) i)); names = (out-Links l).names.items })

  all_fit : IsFitting s → AreFitting (before b no_bodies) (links_before l no_links)
  all_fit f = subst (λ x. x) (λ i. AreFitting (is.body i) (is.links i)) (fits_along (before s.body no_bodies) (links_before s.links no_links) 0 path f.fits)

  opened_fit : IsFitting s → AreFitting (body (stated (out-Body b).statements.items no_more) (out-Body b).targets.items (out-Body b).names.items (bodies_before (out-Body b).effects.items no_bodies) (map rewiring (out-Body b).rewires.items) no_bodies)
      (links (out-Links l).names.items (out-Links l).targets.items (all_before (map links_before (out-Links l).inner.items) no_links) (slots_of l) no_links)
  opened_fit f = subst (λ x. x) (λ i. AreFitting (before_is b no_bodies i) (links_are l no_links i)) (all_fit f)

  -- its formulas and its rewirings fit
  pub part_fits : IsFitting s → FitsNames (length (out-Links l).names.items) (statements_of (before b no_bodies))
  part_fits f = subst (λ (bs : Bodies). FitsNames (length (out-Links l).names.items) (statements_of bs)) (sym (before_is b no_bodies)) (opened_fit f).0

  pub part_few : IsFitting s → AreFew (map rewiring (out-Body b).rewires.items) (slots_of l)
  part_few f = (opened_fit f).1

-- where a path leads to no body, or to no links, there is no statement
pub none_seen : (origin : ℕ) (s : Script) (path : List ℕ) → body_at (before s.body no_bodies) 0 path ≡ no_bodies → body_of origin s path ≡ no_body
none_seen origin s path none =
    split_along origin (before s.body no_bodies) (links_before s.links no_links) 0 path
    ∙ ap (λ (bs : Bodies). made_of origin bs (links_at (links_before s.links no_links) 0 path)) none

pub unlinked_seen : (origin : ℕ) (s : Script) (path : List ℕ) → links_at (links_before s.links no_links) 0 path ≡ no_links → body_of origin s path ≡ no_body
unlinked_seen origin s path none =
    split_along origin (before s.body no_bodies) (links_before s.links no_links) 0 path
    ∙ ap (made_of origin (body_at (before s.body no_bodies) 0 path)) none
    ∙ ap (λ (xs : List plain.Body). body_or_none (slice_get xs 0)) (joined_none origin (body_at (before s.body no_bodies) 0 path))
