-- The HTML of pages is that of what their templates show.
use Rattle.std.proofs.Common.{◌≡◌, ℕ, Bool, true, false, List, [], ◌∷◌, ◌++◌, refl, sym, ap, ap₂, subst}
use Rattle.std.specs.List.{AllByRecursion}
use Rattle.effect_model.specs.Runs.{flush}
use Rattle.effect_model.specs.Worlds.{Environment}
use Rattle.html_out.specs.Html.{is_raw}
use Rattle.page_model.specs.Forest.{Forest, none, node}
use Rattle.page_model.specs.Html.{characters, element, html_in, html_of}
use Rattle.page_model.specs.Labels.{Root, Text, Element, Look, present, shown}
use Rattle.page_model.specs.Pages.{by_number, carried, with_numbers}
use Rattle.signal_model.specs.Recipes.{Hosts}
use Rattle.signal_model.specs.Signals.{Signals}
use Rattle.tpl_model.specs.Sources.{template_shape}
use Rattle.live_model.specs.Laws.{FlushLaw, PageLaw, ShowsScratch}
use Rattle.live_model.specs.Machine.{Machine, Told, after_turns, acted_on_pages, updated_page, settling, template_at, template_reads, update_all}
use Rattle.live_model.specs.Pages.{Page, Template, page_html, scratch_html, template_in}

-- ---- HTML doesn't rest on numbers

same_html : (num : ℕ → ℕ) (raw : Bool) (f : Forest Look) → html_in raw (shown (by_number (with_numbers num f))) ≡ html_in raw (shown f)
same_html num raw none = refl
same_html num raw (node a Root k r) = same_html num raw r
same_html num raw (node a (Text t) k r) = ap (λ (bs : List ℕ). characters raw t ++ bs) (same_html num raw r)
same_html num raw (node a (Element name lines) k r) =
    ap₂ (λ (bs cs : List ℕ). element name (present lines) bs ++ cs) (same_html num (is_raw name) k) (same_html num raw r)

children_html : (num : ℕ → ℕ) (f : Forest Look) → html_of (shown (by_number (with_numbers num f))) ≡ html_of (shown f)
children_html num none = refl
children_html num (node a x k r) = same_html num false k

-- a page that is carried to a shape has the shape's HTML
pub page_law : PageLaw
page_law old shape = children_html (carried old shape) shape

-- ---- pages brought up to date

-- so it is with the page that a template's page comes to
brought_shows : (env : Environment) (m : Machine) (p : Page) → page_html (updated_page env m p) ≡ scratch_html env.hosts m.world.signals (template_at m p.template)
brought_shows env m p =
    let t = template_at m p.template in page_law p.content (template_shape env.hosts m.world.signals t.lines t.links)

-- ---- pages one after the other

-- a page shows what its template shows on these signals
abbrev ShowsOn : Hosts → Signals → List Template → Page → Type 0
ShowsOn hosts w templates p = page_html p ≡ scratch_html hosts w (template_in templates p.template)

-- each of them does
abbrev AllShow : Hosts → Signals → List Template → List Page → Type 0
AllShow hosts w templates ps = AllByRecursion (ShowsOn hosts w templates) ps

-- and one page more
one_more : (hosts : Hosts) (w : Signals) (ts : List Template) (ps : List Page) (p : Page) → AllShow hosts w ts ps → ShowsOn hosts w ts p → AllShow hosts w ts (ps ++ p ∷ [])
one_more hosts w ts [] p h k = (k, tt)
one_more hosts w ts (q ∷ ps) p h k = (h.0, one_more hosts w ts ps p h.1 k)

-- settling and updating leave signals and templates as they are
kept : (env : Environment) (ps : List Page) (m : Machine)
    → ((update_all env ps m).machine.world.signals ≡ m.world.signals) × ((update_all env ps m).machine.templates ≡ m.templates)
kept env [] m = (refl, refl)
kept env (p ∷ ps) m = kept env ps (record ((settling env m (template_reads env m p.template)).machine) { pages = m.pages ++ updated_page env m p ∷ [] })

all_show : (env : Environment) (ps : List Page) (m : Machine) → AllShow env.hosts m.world.signals m.templates m.pages
    → AllShow env.hosts m.world.signals m.templates (update_all env ps m).machine.pages
all_show env [] m h = h
all_show env (p ∷ ps) m h =
    all_show env ps (record ((settling env m (template_reads env m p.template)).machine) { pages = m.pages ++ updated_page env m p ∷ [] })
    (one_more env.hosts m.world.signals m.templates m.pages (updated_page env m p) h (brought_shows env m p))

after : (env : Environment) (b : Bool) (t : Told) → b ≡ false → AllByRecursion (ShowsScratch env (after_turns env b t).machine) (after_turns env b t).machine.pages
after env true t e = absurd cc
after env false t e =
    let before : Machine = record (t.machine) { pages = [] } in
    let end = (update_all env t.machine.pages before).machine in
    let k = kept env t.machine.pages before in
    subst (λ (w : Signals). AllShow env.hosts w end.templates end.pages) (sym k.0)
    (subst (λ (ts : List Template). AllShow env.hosts before.world.signals ts end.pages) (sym k.1) (all_show env t.machine.pages before tt))

-- after a flush that isn't refused each page shows what its template shows from scratch
pub flush_law : FlushLaw
flush_law env m e = let f = flush env m.world in after env f.refused (acted_on_pages m f.world) e
