-- Pages that are brought up to date, one after the other.
use Rattle.std.proofs.Common.{◌≡◌, ℕ, cond, List, [], ◌∷◌, ◌++◌, map, append-nil, append_assoc, refl, sym, ap, ◌∙◌}
use Rattle.std.specs.List.{AllByRecursion}
use Rattle.std.specs.Str.{bytes_eq}
use Rattle.page_model.proofs.Shared.{same_name}
use Rattle.signal_model.specs.Recipes.{Hosts}
use Rattle.signal_model.specs.Signals.{Signals}
use Rattle.effect_model.specs.Worlds.{Environment, World, settle}
use Rattle.page_model.specs.Pages.{edits_between, renumbered}
use Rattle.page_model.specs.Replay.{Op}
use Rattle.tpl_model.specs.Sources.{template_shape}
use Rattle.live_entries.specs.declared.entry.Entry.{Entry}
use Rattle.live_model.specs.Machine.{Machine, updated_page, update_of, entries_of, news_of, settling, template_reads, update_all}
use Rattle.live_model.specs.Pages.{Page, Template, template_in}
use Rattle.page_laws.specs.LivePages.{ops_of}
use Rattle.page_laws.proofs.Operations.{AreApart, Differ, all_by_two, events_quiet, news_told, ops_both}
use Rattle.page_laws.proofs.Worlds.{IsGoodWorld, rest_good}

-- a page as it is carried on to what its template shows
abbrev pub next_page : Hosts → Signals → List Template → Page → Page
next_page hosts w ts p =
    let t = template_in ts p.template in record p { content = renumbered p.content (template_shape hosts w t.lines t.links) }

-- the operations that lead there
abbrev pub next_ops : Hosts → Signals → List Template → Page → List Op
next_ops hosts w ts p = edits_between p.content (next_page hosts w ts p).content

-- the machine behind the first of these pages
abbrev pub after_first : Environment → Machine → Page → Machine
after_first env m p = record ((settling env m (template_reads env m p.template)).machine) { pages = m.pages ++ updated_page env m p ∷ [] }

pub pages_are : (env : Environment) (ps : List Page) (m : Machine) →
    (update_all env ps m).machine.pages ≡ m.pages ++ map (next_page env.hosts m.world.signals m.templates) ps
pages_are env [] m = sym (append-nil m.pages)
pages_are env (p ∷ ps) m =
    pages_are env ps (after_first env m p)
    ∙ append_assoc m.pages (updated_page env m p ∷ []) (map (next_page env.hosts m.world.signals m.templates) ps)

-- nothing else is touched
pub names_stay : (env : Environment) (ps : List Page) (m : Machine) → (update_all env ps m).machine.names ≡ m.names
names_stay env [] m = refl
names_stay env (p ∷ ps) m = names_stay env ps (after_first env m p)

pub templates_stay : (env : Environment) (ps : List Page) (m : Machine) → (update_all env ps m).machine.templates ≡ m.templates
templates_stay env [] m = refl
templates_stay env (p ∷ ps) m = templates_stay env ps (after_first env m p)

pub batch_stays : (env : Environment) (ps : List Page) (m : Machine) → (update_all env ps m).machine.batch ≡ m.batch
batch_stays env [] m = refl
batch_stays env (p ∷ ps) m = batch_stays env ps (after_first env m p)

pub world_stays : (env : Environment) (ps : List Page) (m : Machine) → IsGoodWorld m.world → IsGoodWorld (update_all env ps m).machine.world
world_stays env [] m h = h
world_stays env (p ∷ ps) m h = world_stays env ps (after_first env m p) (rest_good (settle env (template_reads env m p.template) m.world) h)

-- ---- what is told

-- what is told of the page of a name, among these
abbrev pub told_among : Hosts → Signals → List Template → List ℕ → List Page → List Op
told_among hosts w ts n [] = []
told_among hosts w ts n (p ∷ ps) = cond (bytes_eq n p.name) (next_ops hosts w ts p) [] ++ told_among hosts w ts n ps

pub ops_are : (env : Environment) (n : List ℕ) (ps : List Page) (m : Machine) →
    ops_of n (update_all env ps m).entries ≡ told_among env.hosts m.world.signals m.templates n ps
ops_are env n [] m = refl
ops_are env n (p ∷ ps) m =
    let w : World = settle env (template_reads env m p.template) m.world in
    let runs : List Entry = entries_of m.labels w.told in
    let ops : List Op = (update_of env m p.template p.content).ops in
    let news : List Entry = news_of (updated_page env m p) ops in
    let rest : List Entry = (update_all env ps (after_first env m p)).entries in
    ops_both n (runs ++ news) rest
    ∙ (ap (λ (os : List Op). os ++ ops_of n rest)
    (ops_both n runs news ∙ (ap (λ (os : List Op). os ++ ops_of n news) (events_quiet m.labels w.told n) ∙ news_told n (updated_page env m p) ops))
    ∙ ap (λ (os : List Op). cond (bytes_eq n p.name) (next_ops env.hosts m.world.signals m.templates p) [] ++ os) (ops_are env n ps (after_first env m p)))

none_among : (hosts : Hosts) (w : Signals) (ts : List Template) (n : List ℕ) (ps : List Page) → AllByRecursion (λ (q : Page). Differ n q.name) ps →
    told_among hosts w ts n ps ≡ []
none_among hosts w ts n [] h = refl
none_among hosts w ts n (p ∷ ps) h =
    ap (λ b. cond b (next_ops hosts w ts p) [] ++ told_among hosts w ts n ps) h.0.0 ∙ none_among hosts w ts n ps h.1

-- of each page its own operations are told
pub told_each : (hosts : Hosts) (w : Signals) (ts : List Template) (ps : List Page) → AreApart ps →
    AllByRecursion (λ (p : Page). told_among hosts w ts p.name ps ≡ next_ops hosts w ts p) ps
told_each hosts w ts [] h = tt
told_each hosts w ts (p ∷ ps) h = (
  ap (λ b. cond b (next_ops hosts w ts p) [] ++ told_among hosts w ts p.name ps) (same_name p.name)
      ∙ (ap (λ (os : List Op). next_ops hosts w ts p ++ os) (none_among hosts w ts p.name ps h.0) ∙ append-nil (next_ops hosts w ts p)),
  all_by_two (λ (q : Page). Differ p.name q.name) (λ (q : Page). told_among hosts w ts q.name ps ≡ next_ops hosts w ts q)
      (λ (q : Page). told_among hosts w ts q.name (p ∷ ps) ≡ next_ops hosts w ts q)
      (λ q d e. ap (λ b. cond b (next_ops hosts w ts p) [] ++ told_among hosts w ts q.name ps) d.1 ∙ e) ps h.0 (told_each hosts w ts ps h.1),
)

-- ---- what is carried on

pub all_carried : (P : Page → Type 0) (f : Page → Page) (ps : List Page) → AllByRecursion (λ (p : Page). P (f p)) ps → AllByRecursion P (map f ps)
all_carried P f [] h = tt
all_carried P f (p ∷ ps) h = (h.0, all_carried P f ps h.1)

pub apart_carried : (hosts : Hosts) (w : Signals) (ts : List Template) (ps : List Page) → AreApart ps → AreApart (map (next_page hosts w ts) ps)
apart_carried hosts w ts [] h = tt
apart_carried hosts w ts (p ∷ ps) h =
    (all_carried (λ (q : Page). Differ p.name q.name) (next_page hosts w ts) ps h.0, apart_carried hosts w ts ps h.1)
