-- Of whole bodies, from what is so of their nested effects.
use Rattle.std.proofs.Common.{◌≡◌, ℕ, List, [], ◌∷◌, map, refl, sym, ap, ◌∙◌}
use Rattle.sig_untrack.specs.declared.body.Body.{Body}
use Rattle.sig_untrack.specs.declared.body.Body.TheViews.{out-Body}
use Rattle.sig_untrack.specs.declared.body.Body.TheFolds.{fold_out-Body}
use Rattle.sig_untrack.specs.Stated as stated
use Rattle.sig_untrack.specs.Stated.{Bodies, no_bodies, before, before_step, bodies_before, rewiring}
use Rattle.live_model.specs.Names.{Use}
use Rattle.live_model.specs.Uses.{Named, hosts_of_bodies, hosts_of_body, hosts_of_statements, uses_of_bodies, uses_of_body, uses_of_rewiring, uses_of_statements}
use Rattle.live_uses.specs.Views.{rewired_hosts}

-- ---- names

-- what a body that the program holds uses
abbrev pub used_by : Body → List Use
used_by b = uses_of_body (before b no_bodies)

first_used : (b : Body) (rest : Bodies) → uses_of_bodies (before b rest) ≡ used_by b ∷ uses_of_bodies rest
first_used b rest =
    let opened = fold_out-Body (Bodies → Bodies) before_step b in
    ap (λ (g : Bodies → Bodies). uses_of_bodies (g rest)) opened ∙ sym (ap (λ (g : Bodies → Bodies). uses_of_body (g no_bodies) ∷ uses_of_bodies rest) opened)

each_used : (bs : List Body) → map used_by bs ≡ uses_of_bodies (bodies_before bs no_bodies)
each_used [] = refl
each_used (b ∷ bs) = ap (λ (us : List (List Use)). used_by b ∷ us) (each_used bs) ∙ sym (first_used b (bodies_before bs no_bodies))

-- what the places of a body that the program holds name, where its nested effects use this
abbrev pub places_of : Body → List (List Use) → Named
places_of b effects = record {
  targets = (out-Body b).targets.items;
  names = (out-Body b).names.items;
  effects = effects;
  rewirings = map (uses_of_rewiring (out-Body b).targets.items) (map rewiring (out-Body b).rewires.items);
}

-- the names of a body, from those of its nested effects
pub whole_uses : (b : Body) (effects : List (List Use)) → effects ≡ map used_by (out-Body b).effects.items
    → uses_of_statements (places_of b effects) (stated.stated (out-Body b).statements.items stated.no_more) ≡ used_by b
whole_uses b effects e =
    ap (λ (us : List (List Use)). uses_of_statements (places_of b us) (stated.stated (out-Body b).statements.items stated.no_more))
    (e ∙ each_used (out-Body b).effects.items)
    ∙ sym (ap (λ (g : Bodies → Bodies). uses_of_body (g no_bodies)) (fold_out-Body (Bodies → Bodies) before_step b))

-- ---- host formulas

-- the places of the host formulas in a body that the program holds
abbrev pub hosts_held : Body → List ℕ
hosts_held b = hosts_of_body (before b no_bodies)

first_hosts : (b : Body) (rest : Bodies) → hosts_of_bodies (before b rest) ≡ hosts_held b ∷ hosts_of_bodies rest
first_hosts b rest =
    let opened = fold_out-Body (Bodies → Bodies) before_step b in
    ap (λ (g : Bodies → Bodies). hosts_of_bodies (g rest)) opened ∙ sym (ap (λ (g : Bodies → Bodies). hosts_of_body (g no_bodies) ∷ hosts_of_bodies rest) opened)

each_hosts : (bs : List Body) → map hosts_held bs ≡ hosts_of_bodies (bodies_before bs no_bodies)
each_hosts [] = refl
each_hosts (b ∷ bs) = ap (λ (us : List (List ℕ)). hosts_held b ∷ us) (each_hosts bs) ∙ sym (first_hosts b (bodies_before bs no_bodies))

pub whole_hosts : (b : Body) (effects : List (List ℕ)) → effects ≡ map hosts_held (out-Body b).effects.items
    → hosts_of_statements effects (rewired_hosts (out-Body b).rewires.items) (stated.stated (out-Body b).statements.items stated.no_more) ≡ hosts_held b
whole_hosts b effects e =
    ap (λ (us : List (List ℕ)). hosts_of_statements us (rewired_hosts (out-Body b).rewires.items) (stated.stated (out-Body b).statements.items stated.no_more))
    (e ∙ each_hosts (out-Body b).effects.items)
    ∙ sym (ap (λ (g : Bodies → Bodies). hosts_of_body (g no_bodies)) (fold_out-Body (Bodies → Bodies) before_step b))
