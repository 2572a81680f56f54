-- A body that says nothing fits its links.
use Rattle.std.proofs.Common.{◌≡◌, List, [], sym, subst, arith}
use Rattle.sig_untrack.specs.Stated.{Bodies, before, body, no_bodies, no_more}
use Rattle.effect_tables.specs.declared.effect.Script.{Script}
use Rattle.effect_tables.specs.declared.links.Target.{Target}
use Rattle.effect_tables.specs.Scripts.{AreFitting, IsFitting}
use Rattle.effect_tables.specs.Bodies.{Linking, links, links_before, no_links}

pub idle_fits : (s : Script) (ts : List Target) → before s.body no_bodies ≡ body no_more [] [] no_bodies [] no_bodies →
    links_before s.links no_links ≡ links [] ts no_links [] no_links → IsFitting s
idle_fits s ts eb el = record {
  fits = subst (λ (b : Bodies). AreFitting b (links_before s.links no_links)) (sym eb)
      (subst (λ (l : Linking). AreFitting (body no_more [] [] no_bodies [] no_bodies) l) (sym el) (record { named = λ p. tt; few = omega arith }, tt, tt, tt));
}
