-- The body to which places of nested effects lead, and what its places stand for.
use Rattle.std.specs.Prelude.{◌≡◌, ℕ, zero, suc, List, [], ◌∷◌, ◌++◌, map}
use Rattle.sig_untrack.specs.declared.body.Body.{Body}
use Rattle.sig_untrack.specs.Links.{Parts}
use Rattle.sig_untrack.specs.Stated.{Bodies, no_bodies, body, before}
use Rattle.effect_tables.specs.declared.effect.Script.{Script}
use Rattle.effect_tables.specs.declared.links.Links.{Links}
use Rattle.effect_tables.specs.declared.links.Slots.{Slots}
use Rattle.effect_tables.specs.Bodies.{Linking, no_links, links, links_before, bodies_in, body_of, links_in, linked_bodies, parts}

-- these bodies from a place on
abbrev pub bodies_from : Bodies → ℕ → Bodies
bodies_from no_bodies n = no_bodies
bodies_from (body ss targets names inner rewires rest) zero = body ss targets names inner rewires rest
bodies_from (body ss targets names inner rewires rest) (suc n) = bodies_from rest n

-- the first of these bodies
abbrev pub first_body : Bodies → Bodies
first_body no_bodies = no_bodies
first_body (body ss targets names inner rewires rest) = body ss targets names inner rewires no_bodies

-- the body to which places of nested effects lead, the first place being one of these
abbrev pub body_at : Bodies → ℕ → List ℕ → Bodies
body_at bs n [] = first_body (bodies_from bs n)
body_at bs n (m ∷ path) = body_at (bodies_in bs n) m path

-- the same of links
abbrev pub links_from : Linking → ℕ → Linking
links_from no_links n = no_links
links_from (links ns ts ls slots more) zero = links ns ts ls slots more
links_from (links ns ts ls slots more) (suc n) = links_from more n

abbrev pub first_links : Linking → Linking
first_links no_links = no_links
first_links (links ns ts ls slots more) = links ns ts ls slots no_links

abbrev pub links_at : Linking → ℕ → List ℕ → Linking
links_at ls n [] = first_links (links_from ls n)
links_at ls n (m ∷ path) = links_at (links_in ls n) m path

-- the signals of rewirings' own names
abbrev pub slots_in : List Slots → List (List ℕ)
slots_in ss = map (λ (s : Slots). s.ids.items) ss

-- what the places of the first of these bodies stand for, with its links
abbrev pub parts_with : ℕ → Bodies → Linking → Parts
parts_with origin no_bodies ls = parts origin [] [] [] []
parts_with origin (body ss targets names inner rewires rest) no_links = parts origin [] [] [] []
parts_with origin (body ss targets names inner rewires rest) (links ns ts ls slots more)
    = parts origin ts (linked_bodies origin inner ls) rewires slots

-- what the places of the body of a script stand for, at the end of a path
abbrev pub parts_of : ℕ → Script → List ℕ → Parts
parts_of origin s path = parts_with origin (body_at (before s.body no_bodies) 0 path) (links_at (links_before s.links no_links) 0 path)

-- a path leads to this body and these links
pub record IsPart (s : Script) (path : List ℕ) (b : Body) (l : Links) : Type 0 where
  pub body : body_at (before s.body no_bodies) 0 path ≡ before b no_bodies
  pub links : links_at (links_before s.links no_links) 0 path ≡ links_before l no_links

-- the body of a child is what the place of the nested effect stands for in its parent's body
abbrev pub ChildLaw : Type 0
ChildLaw = (origin : ℕ) (s : Script) (path : List ℕ) (n : ℕ) → body_of origin s (path ++ n ∷ []) ≡ (parts_of origin s path).bodies n
