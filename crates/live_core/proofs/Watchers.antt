-- What is left where only watchers changed.
use Rattle.std.proofs.Common.{◌≡◌, ◌+◌, ℕ, arith, List, [], ◌∷◌, ◌++◌, length, refl, sym, ap, subst, ◌∙◌}
use Rattle.std.proofs.lemmas.List.{length-append}
use Rattle.signal_model.specs.Signals.{is_computed, standing, is_cell}
use Rattle.effect_model.specs.Commands.{changed_watcher}
use Rattle.effect_model.specs.Worlds as told
use Rattle.effect_model.specs.Worlds.{at_rest}
use Rattle.sig_host.specs.Hosts.{HostPlace}
use Rattle.sig_graph.specs.States.{Seen}
use Rattle.sig_effect.specs.Stores.{AreRuled}
use Rattle.effect_world.specs.declared.world.World.{World}
use Rattle.effect_world.specs.Stores.{Agrees}
use Rattle.effect_world.specs.Wholes.{whole_of}
use Rattle.live_model.specs.declared.names.Kind.TheVariants as kind
use Rattle.live_model.specs.Labels as called
use Rattle.live_model.specs.Names.{Names}
use Rattle.live_labels.specs.Views.{labels_of}
use Rattle.live_pages.proofs.Shared.{pages_kept}
use Rattle.live_core.specs.declared.machine.Machine.{Machine}
use Rattle.live_core.specs.Consistency.{is_of_kind, AreMeant, IsReady, Leaves}
use Rattle.live_core.proofs.Batched.{roomy_same}
use Rattle.live_core.proofs.Names.{meant_other, meant_still}
use Rattle.live_core.proofs.Commands.{ready_changed, Stays}
use Rattle.live_core.proofs.Creations.{IsNamed}

-- the graph is as it was
pub stays_watched : (asked : List HostPlace) (v w : World) (n : ℕ) (f : told.Watcher → told.Watcher) → w.graph ≡ v.graph →
    w.watchers.made ≡ v.watchers.made → whole_of asked w ≡ at_rest (changed_watcher n f (whole_of asked v)) → Stays v w
stays_watched asked v w n f graph made whole = record {
  given = ap (λ (g : Seen). g.given) graph;
  watchers = made;
  pages = ap (λ (x : told.World). x.made.pages) whole;
  kinds = record {
    each = λ x. record {
      cell = λ e. ap (λ (g : Seen). is_cell (standing g.state.signals x)) graph ∙ e;
      computed = λ e. ap (λ (g : Seen). is_computed (standing g.state.signals x)) graph ∙ e;
    };
  };
}

pub leaves_watched : (asked : List HostPlace) (rules : ℕ) (m : Machine) (w : World) (n : ℕ) (f : told.Watcher → told.Watcher) → IsReady m → w.graph ≡ m.world.graph →
    w.watchers.made ≡ m.world.watchers.made → whole_of asked w ≡ at_rest (changed_watcher n f (whole_of asked m.world)) →
    (Agrees asked m.world → Agrees asked w) → Leaves asked asked rules m (record m { world = w })
leaves_watched asked rules m w n f r graph made whole agrees =
    let stays : Stays m.world w = stays_watched asked m.world w n f graph made whole in
    record {
      ready = ready_changed m (record m { world = w }) r
          (record { names = refl; templates = refl; handlers = refl; scripts = refl; labels = record { signals = refl; owners = refl; pages = refl; watchers = refl } }) stays r.shown
          (pages_kept m.world w m.pages.items m.pages.items refl (ap (λ (x : told.World). x.pages) whole) stays.pages r.pages)
          (roomy_same m.world.graph.state.signals w.graph.state.signals m.batch (ap (λ (g : Seen). g.state.signals) graph) r.batch);
      holds = λ h. record { agrees = agrees h.agrees; ruled = subst (λ (g : Seen). AreRuled rules g.state.signals) (sym graph) h.ruled };
      weight =
          let a : w.graph.state.worn ≡ m.world.graph.state.worn = ap (λ (g : Seen). g.state.worn) graph in
          let b : w.tables.effects_made ≡ m.world.tables.effects_made = ap (λ (x : told.World). x.made.effects) whole in omega (arith, a, b);
    }

-- what a making of a watcher leaves
pub leaves_watcher : (asked : List HostPlace) (rules : ℕ) (m new : Machine) (w : World) (n : List ℕ) (id : ℕ) → IsReady m →
    IsNamed m new w n kind.Watcher id (record (labels_of m.labels) { watchers = m.labels.watchers.items ++ n ∷ [] }) → w.graph ≡ m.world.graph →
    w.watchers.made ≡ m.world.watchers.made + 1 → w.tables.pages.items ≡ m.world.tables.pages.items →
    w.tables.pages_made ≡ m.world.tables.pages_made → w.tables.effects_made ≡ m.world.tables.effects_made →
    (Agrees asked m.world → Agrees asked w) → Leaves asked asked rules m new
leaves_watcher asked rules m new w n id r named graph made live paged effects agrees =
    subst (λ (x : Machine). Leaves asked asked rules m x) (sym named.parts) (record {
      ready = record {
        watchers = made ∙ ap (λ (x : ℕ). x + 1) r.watchers ∙ sym (length-append m.labels.watchers.items (n ∷ [])) ∙ ap length (sym (ap (λ (l : called.Labels). l.watchers) named.labels));
        paged = paged ∙ r.paged ∙ ap length (sym (ap (λ (l : called.Labels). l.pages) named.labels));
        meant = subst (λ (names : Names). AreMeant w (length m.templates.items) names) (sym named.names)
            (meant_other w _ m.names n kind.Watcher id refl (λ s. refl) (λ t. absurd cc)
            (meant_still m.world w _ m.names (ap (λ (g : Seen). g.given) graph)
            (λ k x h. ap (λ (g : Seen). is_of_kind k (standing g.state.signals x)) graph ∙ h) r.meant));
        templates = r.templates;
        handled = r.handled;
        shown = r.shown;
        pages = pages_kept m.world w m.pages.items m.pages.items refl live paged r.pages;
        batch = roomy_same m.world.graph.state.signals w.graph.state.signals m.batch (ap (λ (g : Seen). g.state.signals) graph) r.batch;
      };
      holds = λ h. record { agrees = agrees h.agrees; ruled = subst (λ (g : Seen). AreRuled rules g.state.signals) (sym graph) h.ruled };
      weight = let a : w.graph.state.worn ≡ m.world.graph.state.worn = ap (λ (g : Seen). g.state.worn) graph in omega (arith, a, effects);
    })
