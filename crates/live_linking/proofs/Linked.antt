-- Links of nested effects, one after the other, and of a whole body.
use Rattle.std.proofs.Common.{◌≡◌, ℕ, List, [], ◌∷◌, ◌++◌, map, refl, sym, ap, ◌∙◌}
use Rattle.sig_untrack.specs.declared.body.Body.{Body}
use Rattle.sig_untrack.specs.declared.body.Body.TheViews.{out-Body}
use Rattle.sig_untrack.specs.declared.body.Body.TheFolds.{fold_out-Body}
use Rattle.sig_untrack.specs.Stated.{Bodies, Rewiring, before, before_step, bodies_before, no_bodies, rewiring}
use Rattle.body_text.proofs.Shared.{bodies_more}
use Rattle.effect_tables.specs.declared.links.Links.{Links}
use Rattle.effect_tables.specs.declared.links.Target.{Target}
use Rattle.effect_tables.specs.Bodies.{Linking, all_before, links, links_before, no_links}
use Rattle.live_model.specs.Links.{links_of, target_named}
use Rattle.live_model.specs.Names.{Names, number_of}

-- links put last are those before the others
all_more : (fs : List (Linking → Linking)) (f : Linking → Linking) (rest : Linking) → all_before (fs ++ f ∷ []) rest ≡ all_before fs (f rest)
all_more [] f rest = refl
all_more (g ∷ fs) f rest = ap g (all_more fs f rest)

mapped_more : (ls : List Links) (l : Links) → map links_before (ls ++ l ∷ []) ≡ map links_before ls ++ links_before l ∷ []
mapped_more [] l = refl
mapped_more (k ∷ ls) l = ap (λ (fs : List (Linking → Linking)). links_before k ∷ fs) (mapped_more ls l)

-- the links of one nested effect more
pub nested_more : (names : Names) (own : List ℕ) (ls : List Links) (l : Links) (bs : List Body) (b : Body) →
    ((others : Bodies) → all_before (map links_before ls) (links_of names own others) ≡ links_of names own (bodies_before bs others)) →
    ((others : Bodies) → links_before l (links_of names own others) ≡ links_of names own (before b others)) →
    (others : Bodies) → all_before (map links_before (ls ++ l ∷ [])) (links_of names own others) ≡ links_of names own (bodies_before (bs ++ b ∷ []) others)
nested_more names own ls l bs b so one others =
    ap (λ (fs : List (Linking → Linking)). all_before fs (links_of names own others)) (mapped_more ls l)
    ∙ all_more (map links_before ls) (links_before l) (links_of names own others)
    ∙ ap (all_before (map links_before ls)) (one others)
    ∙ so (before b others)
    ∙ ap (links_of names own) (sym (bodies_more bs b others))

-- the links of a body, from those of its nested effects
pub whole_links : (names : Names) (own : List ℕ) (b : Body) (ns : List ℕ) (ts : List Target) (ls : List Links) (ss : List (List ℕ)) →
    ns ≡ map (number_of names) (out-Body b).names.items → ts ≡ map (target_named names own) (out-Body b).targets.items →
    ((others : Bodies) → all_before (map links_before ls) (links_of names own others) ≡ links_of names own (bodies_before (out-Body b).effects.items others)) →
    ss ≡ map (λ (r : Rewiring). map (number_of names) r.names) (map rewiring (out-Body b).rewires.items) →
    (others : Bodies) → links ns ts (all_before (map links_before ls) no_links) ss (links_of names own others) ≡ links_of names own (before b others)
whole_links names own b ns ts ls ss signals targets inner rewires others =
    (λ i. links (signals i) (targets i) (inner no_bodies i) (rewires i) (links_of names own others))
    ∙ sym (ap (λ (g : Bodies → Bodies). links_of names own (g others)) (fold_out-Body (Bodies → Bodies) before_step b))
