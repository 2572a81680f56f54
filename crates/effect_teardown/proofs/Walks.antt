-- A step along a path of nested effects.
use Rattle.std.proofs.Common.{◌≡◌, ℕ, zero, suc, ◌<◌, ◌≤◌, true, false, List, [], ◌∷◌, map, length, get_or, Some, None, refl, sym, ap, ◌∙◌, arith}
use Rattle.std.specs.Prelude.{nat_lt, slice_get}
use Rattle.std.proofs.lemmas.Bool.Decides.{nat_tests}
use Rattle.sig_untrack.specs.declared.body.Body.{Body}
use Rattle.sig_untrack.specs.declared.body.Body.TheViews.{out-Body}
use Rattle.sig_untrack.specs.declared.body.Body.TheFolds.{fold_out-Body}
use Rattle.sig_untrack.specs.Stated.{Bodies, no_bodies, body, before, before_step, bodies_before, no_more, rewiring, stated}
use Rattle.effect_tables.specs.declared.links.Links.{Links}
use Rattle.effect_tables.specs.declared.links.Links.TheViews.{out-Links}
use Rattle.effect_tables.specs.declared.links.Links.TheFolds.{fold_out-Links}
use Rattle.effect_tables.specs.Bodies.{Linking, no_links, links, links_before, links_step, all_before}
use Rattle.effect_teardown.specs.Sites.{body_at, links_at, slots_in}

-- a body before others
pub before_is : (b : Body) (rest : Bodies) →
    before b rest ≡ body (stated (out-Body b).statements.items no_more) (out-Body b).targets.items (out-Body b).names.items (bodies_before (out-Body b).effects.items no_bodies) (map rewiring (out-Body b).rewires.items) rest
before_is b rest = ap (λ (g : Bodies → Bodies). g rest) (fold_out-Body (Bodies → Bodies) before_step b)

-- the links of a rewiring
abbrev pub slots_of : Links → List (List ℕ)
slots_of l = slots_in (out-Links l).rewires.items

-- links before others
pub links_are : (l : Links) (rest : Linking) →
    links_before l rest ≡ links (out-Links l).names.items (out-Links l).targets.items (all_before (map links_before (out-Links l).inner.items) no_links) (slots_of l) rest
links_are l rest = ap (λ (g : Linking → Linking). g rest) (fold_out-Links (Linking → Linking) links_step l)

-- ---- what stands at a place

get_there : {A : Type 0} (xs : List A) (n : ℕ) (x : A) → n < length xs → x ≡ get_or xs n x → slice_get xs n ≡ Some x
get_there [] n x l e = absurd (omega (arith, l))
get_there (y ∷ ys) zero x l e = ap Some (sym e)
get_there (y ∷ ys) (suc n) x l e = get_there ys n x (omega (arith, l)) e

pub get_some : {A : Type 0} (xs : List A) (n : ℕ) (x : A) → true ≡ nat_lt n (length xs) → x ≡ get_or xs n x → slice_get xs n ≡ Some x
get_some xs n x h e = let l : n < length xs = grind (arith, nat_tests, h) in get_there xs n x l e

get_past : {A : Type 0} (xs : List A) (n : ℕ) → length xs ≤ n → slice_get xs n ≡ None
get_past [] n l = refl
get_past (y ∷ ys) zero l = absurd (omega (arith, l))
get_past (y ∷ ys) (suc n) l = get_past ys n (omega (arith, l))

pub get_none : {A : Type 0} (xs : List A) (n : ℕ) → false ≡ nat_lt n (length xs) → slice_get xs n ≡ None
get_none xs n h = let l : length xs ≤ n = grind (arith, nat_tests, h) in get_past xs n l

-- ---- bodies

none_at : (n : ℕ) (path : List ℕ) → body_at no_bodies n path ≡ no_bodies
none_at n [] = refl
none_at n (m ∷ path) = none_at m path

-- the bodies behind the first don't count
first_alone : (b : Body) (rest : Bodies) (path : List ℕ) → body_at (before b rest) zero path ≡ body_at (before b no_bodies) zero path
first_alone b rest [] = ap (λ (bs : Bodies). body_at bs zero []) (before_is b rest) ∙ sym (ap (λ (bs : Bodies). body_at bs zero []) (before_is b no_bodies))
first_alone b rest (m ∷ path) = ap (λ (bs : Bodies). body_at bs zero (m ∷ path)) (before_is b rest) ∙ sym (ap (λ (bs : Bodies). body_at bs zero (m ∷ path)) (before_is b no_bodies))

-- nor does the first for the others
first_off : (b : Body) (rest : Bodies) (n : ℕ) (path : List ℕ) → body_at (before b rest) (suc n) path ≡ body_at rest n path
first_off b rest n [] = ap (λ (bs : Bodies). body_at bs (suc n) []) (before_is b rest)
first_off b rest n (m ∷ path) = ap (λ (bs : Bodies). body_at bs (suc n) (m ∷ path)) (before_is b rest)

at_place : (bs : List Body) (n : ℕ) (b : Body) (path : List ℕ) → slice_get bs n ≡ Some b → body_at (bodies_before bs no_bodies) n path ≡ body_at (before b no_bodies) zero path
at_place [] n b path h = cc
at_place (x ∷ xs) zero b path h = first_alone x (bodies_before xs no_bodies) path ∙ ap (λ (y : Body). body_at (before y no_bodies) zero path) (let e : x ≡ b = cc in e)
at_place (x ∷ xs) (suc n) b path h = first_off x (bodies_before xs no_bodies) n path ∙ at_place xs n b path h

past_places : (bs : List Body) (n : ℕ) (path : List ℕ) → slice_get bs n ≡ None → body_at (bodies_before bs no_bodies) n path ≡ no_bodies
past_places [] n path h = none_at n path
past_places (x ∷ xs) zero path h = cc
past_places (x ∷ xs) (suc n) path h = first_off x (bodies_before xs no_bodies) n path ∙ past_places xs n path h

-- into a nested body
pub into_body : (b c : Body) (m : ℕ) (path : List ℕ) → slice_get (out-Body b).effects.items m ≡ Some c → body_at (before b no_bodies) zero (m ∷ path) ≡ body_at (before c no_bodies) zero path
into_body b c m path h = ap (λ (bs : Bodies). body_at bs zero (m ∷ path)) (before_is b no_bodies) ∙ at_place (out-Body b).effects.items m c path h

-- or past the last of them
pub past_body : (b : Body) (m : ℕ) (path : List ℕ) → slice_get (out-Body b).effects.items m ≡ None → body_at (before b no_bodies) zero (m ∷ path) ≡ no_bodies
past_body b m path h = ap (λ (bs : Bodies). body_at bs zero (m ∷ path)) (before_is b no_bodies) ∙ past_places (out-Body b).effects.items m path h

-- at the end
pub here_body : (b : Body) → body_at (before b no_bodies) zero [] ≡ before b no_bodies
here_body b = ap (λ (bs : Bodies). body_at bs zero []) (before_is b no_bodies) ∙ sym (before_is b no_bodies)

-- ---- links

unlinked_at : (n : ℕ) (path : List ℕ) → links_at no_links n path ≡ no_links
unlinked_at n [] = refl
unlinked_at n (m ∷ path) = unlinked_at m path

links_alone : (l : Links) (rest : Linking) (path : List ℕ) → links_at (links_before l rest) zero path ≡ links_at (links_before l no_links) zero path
links_alone l rest [] = ap (λ (ls : Linking). links_at ls zero []) (links_are l rest) ∙ sym (ap (λ (ls : Linking). links_at ls zero []) (links_are l no_links))
links_alone l rest (m ∷ path) = ap (λ (ls : Linking). links_at ls zero (m ∷ path)) (links_are l rest) ∙ sym (ap (λ (ls : Linking). links_at ls zero (m ∷ path)) (links_are l no_links))

links_off : (l : Links) (rest : Linking) (n : ℕ) (path : List ℕ) → links_at (links_before l rest) (suc n) path ≡ links_at rest n path
links_off l rest n [] = ap (λ (ls : Linking). links_at ls (suc n) []) (links_are l rest)
links_off l rest n (m ∷ path) = ap (λ (ls : Linking). links_at ls (suc n) (m ∷ path)) (links_are l rest)

-- these links before others
abbrev pub links_all : List Links → Linking → Linking
links_all ls rest = all_before (map links_before ls) rest

links_place : (ls : List Links) (n : ℕ) (l : Links) (path : List ℕ) → slice_get ls n ≡ Some l → links_at (links_all ls no_links) n path ≡ links_at (links_before l no_links) zero path
links_place [] n l path h = cc
links_place (x ∷ xs) zero l path h = links_alone x (links_all xs no_links) path ∙ ap (λ (y : Links). links_at (links_before y no_links) zero path) (let e : x ≡ l = cc in e)
links_place (x ∷ xs) (suc n) l path h = links_off x (links_all xs no_links) n path ∙ links_place xs n l path h

past_links : (ls : List Links) (n : ℕ) (path : List ℕ) → slice_get ls n ≡ None → links_at (links_all ls no_links) n path ≡ no_links
past_links [] n path h = unlinked_at n path
past_links (x ∷ xs) zero path h = cc
past_links (x ∷ xs) (suc n) path h = links_off x (links_all xs no_links) n path ∙ past_links xs n path h

pub into_links : (l k : Links) (m : ℕ) (path : List ℕ) → slice_get (out-Links l).inner.items m ≡ Some k → links_at (links_before l no_links) zero (m ∷ path) ≡ links_at (links_before k no_links) zero path
into_links l k m path h = ap (λ (ls : Linking). links_at ls zero (m ∷ path)) (links_are l no_links) ∙ links_place (out-Links l).inner.items m k path h

pub past_linked : (l : Links) (m : ℕ) (path : List ℕ) → slice_get (out-Links l).inner.items m ≡ None → links_at (links_before l no_links) zero (m ∷ path) ≡ no_links
past_linked l m path h = ap (λ (ls : Linking). links_at ls zero (m ∷ path)) (links_are l no_links) ∙ past_links (out-Links l).inner.items m path h

pub here_links : (l : Links) → links_at (links_before l no_links) zero [] ≡ links_before l no_links
here_links l = ap (λ (ls : Linking). links_at ls zero []) (links_are l no_links) ∙ sym (links_are l no_links)
