-- What is made, and what that leaves.
use Rattle.std.proofs.Common.{◌≡◌, ◌==◌, ◌≤◌, ◌<◌, ◌+◌, ◌^◌, ℕ, zero, suc, arith, true, false, List, [], ◌∷◌, ◌++◌, length, map, None, refl, sym, ap, subst, ◌∙◌}
use Rattle.std.proofs.lemmas.List.{length-append}
use Rattle.signal_model.specs.Recipes.{Hosts}
use Rattle.signal_model.specs.Signals.{Signals, Cell, Computed, Stands, is_there, standing}
use Rattle.signal_model.specs.Changes.{with_cell, with_computed}
use Rattle.effect_model.specs.Worlds as told
use Rattle.effect_model.specs.Worlds.{at_rest}
use Rattle.sig_host.specs.Hosts.{HostPlace}
use Rattle.sig_effect.proofs.Shared.{cell_beside, computed_beside}
use Rattle.effect_world.specs.declared.world.World.{World}
use Rattle.effect_world.specs.Stores.{IsSound}
use Rattle.effect_world.specs.Costs.{weight}
use Rattle.effect_world.specs.Wholes.{stores_of, whole_of}
use Rattle.live_entries.specs.declared.entry.Entry.{Entry}
use Rattle.live_model.specs.declared.names.Kind.{Kind}
use Rattle.live_model.specs.declared.names.Kind.TheVariants as kind
use Rattle.live_model.specs.Labels as called
use Rattle.live_model.specs.Machine as plain
use Rattle.live_model.specs.Machine.{reached, with_name}
use Rattle.live_model.specs.Names.{Names, is_signal, same_kind}
use Rattle.live_labels.specs.Views.{labels_of}
use Rattle.tpl_blocks.specs.Blocks.{lines_of}
use Rattle.tpl_live.specs.Pages.{Stands as PageStands}
use Rattle.tpl_live.specs.Contents.{standing as standing_page}
use Rattle.tpl_model.specs.Laws.{IsTemplate}
use Rattle.live_model.specs.Pages.{template_in, Template}
use Rattle.live_pages.specs.declared.mounted.LinkedTemplate.{LinkedTemplate}
use Rattle.live_pages.specs.declared.mounted.Mounted.{Mounted}
use Rattle.live_pages.specs.Updates.{AreShown, AreTemplates}
use Rattle.live_pages.specs.Views.{template_of}
use Rattle.live_pages.proofs.Shared.{pages_kept}
use Rattle.live_core.specs.declared.machine.Machine.{Machine}
use Rattle.live_core.specs.Consistency.{is_of_kind, AreMeant, WorldAgrees, IsReady, Leaves, Steps}
use Rattle.live_core.specs.Views.{plain_of}
use Rattle.live_core.proofs.Batched.{roomy_none, roomy_same}
use Rattle.live_core.proofs.Names.{meant_made, meant_more, meant_other, meant_still}
use Rattle.live_core.proofs.OfKind.{cell_kind, computed_kind}

-- ---- makings

-- What was made has a name, and nothing else changed but the world, which has come to this.
pub record IsNamed (m new : Machine) (w : World) (n : List ℕ) (k : Kind) (id : ℕ) (ls : called.Labels) : Type 0 where
  pub names : new.names ≡ m.names ++ (n, record { kind = k; number = id }) ∷ []
  pub labels : labels_of new.labels ≡ ls
  pub parts : new ≡ record m { names = new.names; labels = new.labels; world = w }

-- what the plain machine comes to
pub steps_named : (hosts : Hosts) (asked : List HostPlace) (m new : Machine) (w : World) (n : List ℕ) (k : Kind) (id number : ℕ) (labels : called.Labels) (made : told.World) (es : List Entry) →
    id ≡ number → whole_of asked w ≡ at_rest made → IsNamed m new w n k id labels → es ≡ [] → IsSound hosts asked w →
    Steps hosts asked new es (reached (with_name (plain.with_labels (plain_of asked m) labels made) n k number) [])
steps_named hosts asked m new w n k id number labels made es same whole named none sound =
    subst (λ (x : Machine). Steps hosts asked x es (reached (with_name (plain.with_labels (plain_of asked m) labels made) n k number) [])) (sym named.parts)
    (record {
      step = (λ i. reached (record (plain_of asked m) {
        names = (named.names ∙ ap (λ (x : ℕ). m.names ++ (n, record { kind = k; number = x }) ∷ []) same) i;
        labels = named.labels i;
        world = whole i;
      }) (none i));
      sound = sound;
    })

-- what the plain world has of pages and watchers is as before
pub record Beside (v w : World) : Type 0 where
  pub watchers : w.watchers.made ≡ v.watchers.made
  pub pages : w.tables.pages.items ≡ v.tables.pages.items
  pub paged : w.tables.pages_made ≡ v.tables.pages_made

-- what a making of a signal leaves
pub leaves_signal : (asked : List HostPlace) (rules : ℕ) (m new : Machine) (w : World) (n : List ℕ) (k : Kind) (id : ℕ) (labels : called.Labels) → IsReady m →
    same_kind kind.Template k ≡ false → id ≡ m.world.graph.given → IsNamed m new w n k id labels →
    labels.watchers ≡ m.labels.watchers.items → labels.pages ≡ m.labels.pages.items → Beside m.world w →
    w.graph.given ≡ m.world.graph.given + 1 →
    ((x : ℕ) → (x == m.world.graph.given) ≡ false → standing w.graph.state.signals x ≡ standing m.world.graph.state.signals x) →
    is_of_kind k (standing w.graph.state.signals m.world.graph.given) ≡ true → m.batch ≡ None → weight w ≤ weight m.world + 2 ^ 80 →
    (WorldAgrees asked rules m.world → WorldAgrees asked rules w) → Leaves asked asked rules m new
leaves_signal asked rules m new w n k id labels r off number named watchers pages stays given beside here alone few holds =
    subst (λ (x : Machine). Leaves asked asked rules m x) (sym named.parts) (record {
      ready = record {
        watchers = stays.watchers ∙ r.watchers ∙ ap length (sym (ap (λ (l : called.Labels). l.watchers) named.labels ∙ watchers));
        paged = stays.paged ∙ r.paged ∙ ap length (sym (ap (λ (l : called.Labels). l.pages) named.labels ∙ pages));
        meant = subst (λ (names : Names). AreMeant w (length m.templates.items) names)
            (sym (named.names ∙ ap (λ (x : ℕ). m.names ++ (n, record { kind = k; number = x }) ∷ []) number))
            (meant_made m.world w _ m.names n k off given beside here r.meant);
        templates = r.templates;
        handled = r.handled;
        shown = r.shown;
        pages = pages_kept m.world w m.pages.items m.pages.items refl stays.pages stays.paged r.pages;
        batch = roomy_none w.graph.state.signals m.batch alone;
      };
      holds = holds;
      weight = few;
    })

-- signals beside a new cell, and the new one
pub beside_cell : (w v : Signals) (c : Cell) → v ≡ with_cell w c → (x : ℕ) → (x == c.name) ≡ false → standing v x ≡ standing w x
beside_cell w v c e x off = ap (λ (s : Signals). standing s x) e ∙ cell_beside w c x off

pub here_cell : (w v : Signals) (c : Cell) → v ≡ with_cell w c → is_of_kind kind.Cell (standing v c.name) ≡ true
here_cell w v c e = ap (λ (s : Signals). is_of_kind kind.Cell (standing s c.name)) e ∙ cell_kind w c

-- so it is with a new list
pub here_list : (w v : Signals) (c : Cell) → v ≡ with_cell w c → is_of_kind kind.List (standing v c.name) ≡ true
here_list w v c e = here_cell w v c e

-- the same of a computed, under a name that nothing has
pub beside_computed : (w v : Signals) (c : Computed) → v ≡ with_computed w c → (x : ℕ) → (x == c.name) ≡ false → standing v x ≡ standing w x
beside_computed w v c e x off = ap (λ (s : Signals). standing s x) e ∙ computed_beside w c x off

pub here_computed : (w v : Signals) (c : Computed) → is_there (standing w c.name) ≡ false → v ≡ with_computed w c →
    is_of_kind kind.Computed (standing v c.name) ≡ true
here_computed w v c fresh e = ap (λ (s : Signals). is_of_kind kind.Computed (standing s c.name)) e ∙ computed_kind w c fresh

-- a kind that is neither that of signals nor that of templates
pub record IsOther (k : Kind) : Type 0 where
  pub signal : is_signal k ≡ false
  pub fits : (s : Stands) → is_of_kind k s ≡ true
  pub template : same_kind kind.Template k ≡ true → ⊥

pub other_owner : IsOther kind.Owner
other_owner = record { signal = refl; fits = λ s. refl; template = λ e. cc }

pub other_effect : IsOther kind.Effect
other_effect = record { signal = refl; fits = λ s. refl; template = λ e. cc }

pub other_page : IsOther kind.Page
other_page = record { signal = refl; fits = λ s. refl; template = λ e. cc }

pub other_watcher : IsOther kind.Watcher
other_watcher = record { signal = refl; fits = λ s. refl; template = λ e. cc }

-- what a making of an owner or of an effect leaves, where signals are as before
pub leaves_other : (asked : List HostPlace) (rules : ℕ) (m new : Machine) (w : World) (n : List ℕ) (k : Kind) (id : ℕ) (labels : called.Labels) → IsReady m →
    IsOther k → IsNamed m new w n k id labels → labels.watchers ≡ m.labels.watchers.items → labels.pages ≡ m.labels.pages.items → Beside m.world w →
    stores_of w ≡ stores_of m.world → weight w ≤ weight m.world + 2 ^ 80 → (WorldAgrees asked rules m.world → WorldAgrees asked rules w) →
    Leaves asked asked rules m new
leaves_other asked rules m new w n k id labels r any named watchers pages stays signals few holds =
    subst (λ (x : Machine). Leaves asked asked rules m x) (sym named.parts) (record {
      ready = record {
        watchers = stays.watchers ∙ r.watchers ∙ ap length (sym (ap (λ (l : called.Labels). l.watchers) named.labels ∙ watchers));
        paged = stays.paged ∙ r.paged ∙ ap length (sym (ap (λ (l : called.Labels). l.pages) named.labels ∙ pages));
        meant = subst (λ (names : Names). AreMeant w (length m.templates.items) names) (sym named.names)
            (meant_other w _ m.names n k id any.signal any.fits (λ t. absurd (any.template t))
            (meant_still m.world w _ m.names (ap (λ s. s.graph.given) signals)
            (λ j x h. ap (λ s. is_of_kind j (standing s.graph.state.signals x)) signals ∙ h) r.meant));
        templates = r.templates;
        handled = r.handled;
        shown = r.shown;
        pages = pages_kept m.world w m.pages.items m.pages.items refl stays.pages stays.paged r.pages;
        batch = roomy_same m.world.graph.state.signals w.graph.state.signals m.batch (ap (λ s. s.graph.state.signals) signals) r.batch;
      };
      holds = holds;
      weight = few;
    })

-- ---- templates

-- an older template is as before
older_known : (ts : List Template) (t : Template) (i : ℕ) → i < length ts → template_in (ts ++ t ∷ []) i ≡ template_in ts i
older_known [] t i lt = absurd (omega (arith, lt))
older_known (x ∷ ts) t zero lt = refl
older_known (x ∷ ts) t (suc i) lt = older_known ts t i (omega (arith, lt))

-- pages stand on what they stood on
older_shown : (ts : List Template) (t : Template) (ps : List Mounted) → AreShown ts ps → AreShown (ts ++ t ∷ []) ps
older_shown ts t [] all = tt
older_shown ts t (p ∷ ps) all = (
  record {
    template = let a = length-append ts (t ∷ []) in let b = all.0.template in omega (arith, a, b);
    stands = subst (λ (x : Template). PageStands x.lines x.links (standing_page p.page)) (sym (older_known ts t p.template all.0.template)) all.0.stands;
  },
  older_shown ts t ps all.1,
)

-- templates, and one that was read
read_more : (ts : List LinkedTemplate) (t : LinkedTemplate) → AreTemplates ts → IsTemplate (lines_of t.template) → AreTemplates (ts ++ t ∷ [])
read_more [] t all one = (one, tt)
read_more (x ∷ ts) t all one = (all.0, read_more ts t all.1 one)

-- how they are seen
seen_more : (ts : List LinkedTemplate) (t : LinkedTemplate) → map template_of (ts ++ t ∷ []) ≡ map template_of ts ++ template_of t ∷ []
seen_more [] t = refl
seen_more (x ∷ ts) t = ap (λ (xs : List Template). template_of x ∷ xs) (seen_more ts t)

-- the plain machine's templates
pub templates_more : (old new : List LinkedTemplate) (t : LinkedTemplate) (x : Template) → new ≡ old ++ t ∷ [] → template_of t ≡ x → map template_of new ≡ map template_of old ++ x ∷ []
templates_more old new t x is same = ap (map template_of) is ∙ seen_more old t ∙ ap (λ (y : Template). map template_of old ++ y ∷ []) same

-- what a making of a template leaves
pub leaves_template : (asked : List HostPlace) (rules : ℕ) (m new : Machine) (n : List ℕ) (t : LinkedTemplate) → IsReady m →
    new ≡ record m { names = new.names; templates = new.templates } →
    new.names ≡ m.names ++ (n, record { kind = kind.Template; number = length m.templates.items }) ∷ [] →
    new.templates.items ≡ m.templates.items ++ t ∷ [] → IsTemplate (lines_of t.template) → Leaves asked asked rules m new
leaves_template asked rules m new n t r parts names templates read =
    let count : length new.templates.items ≡ length m.templates.items + 1 = ap length templates ∙ length-append m.templates.items (t ∷ []) in
    let seen : map template_of new.templates.items ≡ map template_of m.templates.items ++ template_of t ∷ [] = templates_more m.templates.items new.templates.items t (template_of t) templates refl in
    subst (λ (x : Machine). Leaves asked asked rules m x) (sym parts) (record {
      ready = record {
        watchers = r.watchers;
        paged = r.paged;
        meant = subst (λ (ns : Names). AreMeant m.world (length new.templates.items) ns) (sym names)
            (meant_other m.world (length new.templates.items) m.names n kind.Template (length m.templates.items) refl (λ s. refl) (λ e. omega (arith, count))
            (meant_more m.world (length m.templates.items) (length new.templates.items) m.names (omega (arith, count)) r.meant));
        templates = subst AreTemplates (sym templates) (read_more m.templates.items t r.templates read);
        handled = r.handled;
        shown = subst (λ (ts : List Template). AreShown ts m.pages.items) (sym seen) (older_shown (map template_of m.templates.items) (template_of t) m.pages.items r.shown);
        pages = r.pages;
        batch = r.batch;
      };
      holds = λ h. h;
      weight = omega arith;
    })
