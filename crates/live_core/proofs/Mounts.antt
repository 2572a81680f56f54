-- Pages are mounted, and what a flush comes to.
use Rattle.std.proofs.Common.{◌≡◌, ◌≤◌, ◌<◌, ◌+◌, ◌^◌, ℕ, arith, Bool, true, false, List, [], ◌∷◌, ◌++◌, length, map, Option, Some, None, refl, sym, ap, subst, ◌∙◌}
use Rattle.std.proofs.lemmas.List.{length-append, map-append}
use Rattle.sig_base.specs.declared.limits.TheConstants.{MOST_PAGES}
use Rattle.signal_model.specs.Recipes.{Hosts}
use Rattle.signal_model.specs.Signals.{standing}
use Rattle.effect_model.specs.Commands.{with_new_page}
use Rattle.page_model.specs.Html.{html_of}
use Rattle.page_model.specs.Pages.{bare, tree_of}
use Rattle.effect_model.specs.Runs.{flush}
use Rattle.effect_model.specs.Worlds as told
use Rattle.effect_model.specs.Worlds.{at_rest}
use Rattle.sig_host.specs.Hosts.{HostPlace}
use Rattle.sig_effect.specs.Stores.{AreRuled}
use Rattle.effect_world.specs.declared.world.World.{World}
use Rattle.effect_world.specs.Stores.{Agrees, IsSound}
use Rattle.effect_world.specs.Wholes.{stores_of, whole_of}
use Rattle.live_entries.specs.declared.entry.Entry.{Entry}
use Rattle.live_entries.specs.declared.entry.Entry.TheVariants as entry
use Rattle.live_entries.specs.declared.refusal.Refusal.TheVariants as refusal
use Rattle.live_model.specs.declared.names.Kind.TheVariants as kind
use Rattle.why_model.specs.Records.{Journal}
use Rattle.live_model.specs.Labels as called
use Rattle.live_model.specs.Machine as plain
use Rattle.live_model.specs.Machine.{acted_on_pages, after_turns, flushing, mounted, reached}
use Rattle.live_model.specs.Names.{Names}
use Rattle.live_labels.specs.Views.{labels_of}
use Rattle.tpl_live.specs.declared.page.Page as live
use Rattle.tpl_live.specs.Pages.{page_in}
use Rattle.tpl_live.specs.Contents.{standing as standing_page}
use Rattle.live_pages.specs.declared.mounted.Mounted.{Mounted}
use Rattle.live_pages.specs.Updates.{AreUpdated, AreShown, ArePages, IsMounted, IsScratched, IsShown, Settles}
use Rattle.live_pages.specs.Views.{page_of, template_of}
use Rattle.live_pages.proofs.Shared.{pages_more, shown_more}
use Rattle.live_core.specs.declared.machine.Machine.{Machine}
use Rattle.live_core.specs.Consistency.{is_of_kind, AreMeant, IsReady, Leaves, Steps}
use Rattle.live_core.specs.Parts.{KeepsParts}
use Rattle.live_core.specs.Views.{plain_of}
use Rattle.live_core.proofs.Batched.{roomy_same}
use Rattle.live_core.proofs.Names.{meant_other, meant_still}

-- ---- flushes

-- a flush that is refused
pub refused_steps : (hosts : Hosts) (env : told.Environment) (asked : List HostPlace) (m : Machine) (es : List Entry) (refused : Bool) → true ≡ refused →
    es ≡ entry.Error refusal.Turns ∷ [] → IsSound hosts asked m.world → Steps hosts asked m es (after_turns env refused (reached (plain_of asked m) []))
refused_steps hosts env asked m es refused by is sound = record {
  step = ap (λ (x : List Entry). reached (plain_of asked m) x) is ∙ ap (λ (b : Bool). after_turns env b (reached (plain_of asked m) [])) by;
  sound = sound;
}

-- pages were brought up to date
pub brought_steps : (hosts : Hosts) (env : told.Environment) (asked later : List HostPlace) (m new : Machine) (pages : List Entry) (refused : Bool) → false ≡ refused →
    AreUpdated env (plain_of [] m) (labels_of m.labels) asked later m.world new.world m.pages.items new.pages.items pages m.journal new.journal →
    new ≡ record m { world = new.world; journal = new.journal; pages = new.pages; notes = new.notes } → IsSound hosts later new.world →
    Steps hosts later new pages (after_turns env refused (reached (plain_of asked m) []))
brought_steps hosts env asked later m new pages refused by up parts sound = record {
  step =
      ap (λ (x : Machine). reached (plain_of later x) pages) parts
      ∙ ap (λ (t : plain.Told). reached t.machine t.entries) up.step
      ∙ ap (λ (b : Bool). after_turns env b (reached (plain_of asked m) [])) by;
  sound = sound;
}

-- what follows turns is told behind what is told of them
behind_turns : (env : told.Environment) (refused : Bool) (m : plain.Machine) (es : List Entry) →
    reached (after_turns env refused (reached m [])).machine (es ++ (after_turns env refused (reached m [])).entries) ≡ after_turns env refused (reached m es)
behind_turns env true m es = refl
behind_turns env false m es = refl

-- turns, and then pages
pub flush_steps : (hosts : Hosts) (env : told.Environment) (asked later last : List HostPlace) (m middle new : Machine) (turns news : List Entry) (refused : Bool) →
    Steps hosts later middle turns (acted_on_pages (plain_of asked m) (flush env (whole_of asked m.world)).world) →
    refused ≡ (flush env (whole_of asked m.world)).refused → Steps hosts last new news (after_turns env refused (reached (plain_of later middle) [])) →
    Steps hosts last new (turns ++ news) (flushing env (plain_of asked m))
flush_steps hosts env asked later last m middle new turns news refused first is second = record {
  step =
      ap (λ (t : plain.Told). reached t.machine (turns ++ t.entries)) second.step
      ∙ (behind_turns env refused (plain_of later middle) turns ∙ (λ i. after_turns env (is i) (first.step i)));
  sound = second.sound;
}

-- ---- mounts

-- the owner in other words
pub by_owner : (asked : List HostPlace) (v w : World) (o p : Option ℕ) → whole_of asked v ≡ at_rest (with_new_page o (whole_of asked w)) → o ≡ p →
    whole_of asked v ≡ at_rest (with_new_page p (whole_of asked w))
by_owner asked v w o p e same = e ∙ ap (λ (x : Option ℕ). at_rest (with_new_page x (whole_of asked w))) same

-- nothing but the pages changed before what was made got its name
pub named_behind : (m middle new : Machine) → middle ≡ record m { pages = middle.pages } → KeepsParts middle new →
    new ≡ record m { names = new.names; labels = new.labels; pages = new.pages }
named_behind m middle new same kept =
    kept ∙ (λ i. record (same i) { names = new.names; labels = new.labels })
    ∙ ap (λ (x : Machine). record m { names = new.names; labels = new.labels; pages = x.pages }) (sym kept)

-- a page was made, and stands where it is to
pub mount_steps : (hosts : Hosts) (env : told.Environment) (asked later : List HostPlace) (m new : Machine) (w v : World) (j : Option Journal) (n : List ℕ) (t id : ℕ) (inside : Option ℕ)
    (page : live.Page) (es : List Entry) →
    IsMounted env (labels_of m.labels) (map template_of m.templates.items) asked later m.world w n t (page_in (standing_page page)) [] es m.journal j → id ≡ m.world.tables.pages_made →
    whole_of later v ≡ at_rest (with_new_page inside (whole_of later w)) → IsSound hosts later v →
    new ≡ record m { names = new.names; labels = new.labels; world = v; journal = j; pages = new.pages } →
    new.names ≡ m.names ++ (n, record { kind = kind.Page; number = id }) ∷ [] →
    labels_of new.labels ≡ record (labels_of m.labels) { pages = m.labels.pages.items ++ n ∷ [] } →
    new.pages.items ≡ m.pages.items ++ (record { name = n; number = id; template = t; page = page }) ∷ [] →
    Steps hosts later new es (mounted env (plain_of asked m) n t inside)
mount_steps hosts env asked later m new w v j n t id inside page es up number whole sound parts names labels pages =
    subst (λ (x : Machine). Steps hosts later x es (mounted env (plain_of asked m) n t inside)) (sym parts) (record {
      step = (λ i. reached (record (plain_of asked m) {
        names = (names ∙ ap (λ (x : ℕ). m.names ++ (n, record { kind = kind.Page; number = x }) ∷ []) number) i;
        labels = (labels ∙ ap (λ (l : called.Labels). record l { pages = l.pages ++ n ∷ [] }) up.labels) i;
        world = (whole ∙ ap (λ (x : told.World). at_rest (with_new_page inside x)) up.world) i;
        journal = up.noted i;
        pages = (ap (map page_of) pages ∙ map-append page_of m.pages.items ((record { name = n; number = id; template = t; page = page }) ∷ [])
            ∙ (λ j. map page_of m.pages.items ++ (record { name = n; number = number j; template = t; content = up.page j }) ∷ [])) i;
      }) ((up.told ∙ ap (λ (bs : List ℕ). (plain.settling env (plain_of asked m) (plain.template_reads env (plain_of asked m) t)).entries
          ++ plain.ops_told n (plain.update_of env (plain_of asked m) t bare).ops ++ entry.Page n bs ∷ []) (ap (λ p. html_of (tree_of p)) up.page)) i));
      sound = sound;
    })

-- what a making of a page leaves
pub leaves_mounted : (asked later : List HostPlace) (rules : ℕ) (m new : Machine) (w v : World) (j : Option Journal) (n : List ℕ) (id : ℕ) (p : Mounted) → IsReady m →
    new ≡ record m { names = new.names; labels = new.labels; world = v; journal = j; pages = new.pages } →
    new.names ≡ m.names ++ (n, record { kind = kind.Page; number = id }) ∷ [] →
    labels_of new.labels ≡ record (labels_of m.labels) { pages = m.labels.pages.items ++ n ∷ [] } →
    new.pages.items ≡ m.pages.items ++ p ∷ [] → (inside : Option ℕ) → whole_of later v ≡ at_rest (with_new_page inside (whole_of later w)) →
    stores_of v ≡ stores_of w → Settles m.world w → p.number ≡ m.world.tables.pages_made → IsShown (map template_of m.templates.items) p →
    length m.world.tables.pages.items < MOST_PAGES → Agrees later v → w.graph.state.worn ≤ m.world.graph.state.worn + 2 ^ 64 →
    Leaves asked later rules m new
leaves_mounted asked later rules m new w v j n id p r parts names labels pages inside whole signals settled number shown room agrees worn =
    let made : v.tables.pages_made ≡ m.world.tables.pages_made + 1 =
    ap (λ (x : told.World). x.made.pages) whole ∙ ap (λ t. t.pages_made + 1) settled.tables in
    let live : v.tables.pages.items ≡ m.world.tables.pages.items ++ m.world.tables.pages_made ∷ [] =
    ap (λ (x : told.World). x.pages) whole ∙ ap (λ t. t.pages.items ++ t.pages_made ∷ []) settled.tables in
    let graph = ap (λ s. s.graph.given) signals ∙ settled.given in
    let stands = ap (λ s. s.graph.state.signals) signals ∙ settled.signals in
    subst (λ (x : Machine). Leaves asked later rules m x) (sym parts) (record {
      ready = record {
        watchers = ap (λ s. s.watchers.made) signals ∙ ap (λ t. t.made) settled.watchers ∙ r.watchers ∙ ap length (sym (ap (λ (l : called.Labels). l.watchers) labels));
        paged = made ∙ ap (λ (x : ℕ). x + 1) r.paged ∙ sym (length-append m.labels.pages.items (n ∷ [])) ∙ ap length (sym (ap (λ (l : called.Labels). l.pages) labels));
        meant = subst (λ (ns : Names). AreMeant v (length m.templates.items) ns) (sym names)
            (meant_other v _ m.names n kind.Page id refl (λ s. refl) (λ t. absurd cc)
            (meant_still m.world v _ m.names graph (λ k x h. ap (λ g. is_of_kind k (standing g x)) stands ∙ h) r.meant));
        templates = r.templates;
        handled = r.handled;
        shown = subst (AreShown (map template_of m.templates.items)) (sym pages) (shown_more (map template_of m.templates.items) m.pages.items p r.shown shown);
        pages = subst (ArePages v) (sym pages) (pages_more m.world v m.pages.items p number live made room r.pages);
        batch = roomy_same m.world.graph.state.signals v.graph.state.signals m.batch stands r.batch;
      };
      holds = λ h. record { agrees = agrees; ruled = subst (AreRuled rules) (sym stands) h.ruled };
      weight =
          let a = ap (λ s. s.graph.state.worn) signals in
          let b = ap (λ (x : told.World). x.made.effects) whole ∙ ap (λ t. t.effects_made) settled.tables in omega (arith, a, b, worn);
    })

-- ---- pages from scratch

-- what a page's template shows from scratch is told
pub scratch_steps : (hosts : Hosts) (env : told.Environment) (asked later : List HostPlace) (m : Machine) (w : World) (j : Option Journal) (n : List ℕ) (k : ℕ) (p : Mounted) (bytes : List ℕ)
    (runs es : List Entry) → plain.page_at (map page_of m.pages.items) k ≡ Some (page_of p) →
    IsScratched env (labels_of m.labels) (map template_of m.templates.items) asked later m.world w p.template bytes [] runs m.journal j →
    es ≡ runs ++ entry.Scratch n bytes ∷ [] → IsSound hosts later w →
    Steps hosts later (record m { world = w; journal = j }) es (plain.scratching env (plain_of asked m) n (plain.page_at (map page_of m.pages.items) k))
scratch_steps hosts env asked later m w j n k p bytes runs es found up is sound = record {
  step = (λ i. reached (record (plain_of asked m) { labels = up.labels i; world = up.world i; journal = up.noted i }) ((is ∙ (λ j. up.told j ++ entry.Scratch n (up.html j) ∷ [])) i))
      ∙ ap (plain.scratching env (plain_of asked m) n) (sym found);
  sound = sound;
}

-- nothing is, where no page lives
pub unshown_steps : (hosts : Hosts) (env : told.Environment) (asked : List HostPlace) (m : Machine) (n : List ℕ) (k : ℕ) (es : List Entry) →
    plain.page_at (map page_of m.pages.items) k ≡ None → es ≡ entry.Scratch n [] ∷ [] → IsSound hosts asked m.world →
    Steps hosts asked m es (plain.scratching env (plain_of asked m) n (plain.page_at (map page_of m.pages.items) k))
unshown_steps hosts env asked m n k es none is sound = record {
  step = ap (λ (x : List Entry). reached (plain_of asked m) x) is ∙ ap (plain.scratching env (plain_of asked m) n) (sym none);
  sound = sound;
}
