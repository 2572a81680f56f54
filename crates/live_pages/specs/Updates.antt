-- What making a page and bringing it up to date leave and tell.
use Rattle.std.specs.Prelude.{◌≡◌, ◌<◌, ◌≤◌, ◌+◌, true, ℕ, List, [], ◌∷◌, ◌++◌, length, map, Option, None}
use Rattle.std.specs.List.{AllByRecursion}
use Rattle.sig_base.specs.declared.limits.TheConstants.{MOST_PAGES}
use Rattle.signal_model.specs.Recipes.{Hosts}
use Rattle.signal_model.specs.Signals.{is_in}
use Rattle.page_model.specs.Pages as paged
use Rattle.page_model.specs.Forest.{Forest}
use Rattle.page_model.specs.Html.{html_of}
use Rattle.page_model.specs.Labels.{Kind}
use Rattle.page_model.specs.Pages.{NumberedPage, tree_of}
use Rattle.page_model.specs.Replay.{Op}
use Rattle.tpl_blocks.specs.Blocks.{lines_of}
use Rattle.tpl_live.specs.Pages.{IsStanding, Stands}
use Rattle.tpl_live.specs.Contents.{standing}
use Rattle.tpl_model.specs.Laws.{IsTemplate}
use Rattle.tpl_model.specs.Updates.{Updated, updated}
use Rattle.effect_tables.specs.Consistency.{AreApart}
use Rattle.effect_model.specs.Worlds.{Environment, Event, settle}
use Rattle.sig_host.specs.Hosts.{HostPlace, most_asked}
use Rattle.effect_world.specs.declared.world.World.{World}
use Rattle.effect_world.specs.Stores.{Agrees, IsSound}
use Rattle.effect_world.specs.Wholes.{whole_of}
use Rattle.live_entries.specs.declared.entry.Entry.{Entry}
use Rattle.live_entries.specs.declared.entry.Entry.TheVariants as entry
use Rattle.why_model.specs.Records.{Journal}
use Rattle.live_model.specs.Journals.{noting}
use Rattle.live_model.specs.Labels as called
use Rattle.live_model.specs.Machine as plain
use Rattle.live_model.specs.Machine.{updated_page, update_of, news_of, ops_told, settling, template_reads, reached, update_all}
use Rattle.live_model.specs.Pages.{Template, asked_of, scratch_html, template_in}
use Rattle.live_pages.specs.declared.mounted.LinkedTemplate.{LinkedTemplate}
use Rattle.live_pages.specs.declared.mounted.Mounted.{Mounted}
use Rattle.live_pages.specs.Views.{page_of}

-- the numbers of pages
abbrev pub numbers_of : List Mounted → List ℕ
numbers_of ps = map (λ (p : Mounted). p.number) ps

-- templates that were read
abbrev pub AreTemplates : List LinkedTemplate → Type 0
AreTemplates ts = AllByRecursion (λ (t : LinkedTemplate). IsTemplate (lines_of t.template)) ts

-- a page stands on its template, which is one of these
pub record IsShown (templates : List Template) (p : Mounted) : Type 0 where
  pub template : p.template < length templates
  pub stands : Stands (template_in templates p.template).lines (template_in templates p.template).links (standing p.page)

-- each page does
abbrev pub AreShown : List Template → List Mounted → Type 0
AreShown templates pages = AllByRecursion (IsShown templates) pages

-- each page stands on some lines
abbrev pub AreStanding : List Mounted → Type 0
AreStanding pages = AllByRecursion (λ (p : Mounted). IsStanding (standing p.page)) pages

-- The pages have different numbers, each that of a page which lives, below that of the next one; and there are few.
pub record ArePages (w : World) (pages : List Mounted) : Type 0 where
  pub apart : AreApart (numbers_of pages)
  pub live : AllByRecursion (λ (n : ℕ). is_in n w.tables.pages.items ≡ true) (numbers_of pages)
  pub below : AllByRecursion (λ (n : ℕ). n < w.tables.pages_made) (numbers_of pages)
  pub few : length pages ≤ MOST_PAGES

-- a plain machine with these labels, this world, this journal and these pages
abbrev pub with_pages : plain.Machine → called.Labels → List HostPlace → World → Option Journal → List Mounted → plain.Machine
with_pages m labels asked w journal pages = record m { labels = labels; world = whole_of asked w; journal = journal; pages = map page_of pages }

-- one that has templates, and neither a journal nor pages
abbrev pub bare : called.Labels → List HostPlace → World → List Template → plain.Machine
bare labels asked w templates = with_pages (record (plain.empty 0) { templates = templates }) labels asked w None []

-- the world after settling: signals, watchers and tables stay, and as many signals are made as before
pub record Settles (old new : World) : Type 0 where
  pub signals : new.graph.state.signals ≡ old.graph.state.signals
  pub given : new.graph.given ≡ old.graph.given
  pub watchers : new.watchers ≡ old.watchers
  pub tables : new.tables ≡ old.tables

-- Names may be settled, by a shelf that counts its asks: the stores belong together, and no counter has come so far.
pub record CanSettle (asked : List HostPlace) (w : World) (counts : Type 0) (far : ℕ) : Type 0 where
  pub agrees : Agrees asked w
  pub counted : counts
  pub worn : w.graph.state.worn < far
  pub room : most_asked asked < far

-- Names were settled, by a shelf that counts its asks: what else is in the world stays, the stores belong together, what was sound is, the shelf
-- answers as before, and no counter rose by more than so many runs and asks.
pub record Settled (asked later : List HostPlace) (old new : World) (before after : Hosts → Type 0) (counts : Type 0) (runs asks : ℕ) : Type 0 where
  pub stays : Settles old new
  pub agrees : Agrees later new
  pub sound : (hosts : Hosts) → before hosts → IsSound hosts asked old → IsSound hosts later new
  pub answers : (hosts : Hosts) → before hosts → after hosts
  pub counted : counts
  pub worn : new.graph.state.worn ≤ old.graph.state.worn + runs
  pub most : most_asked later ≤ most_asked asked + asks

-- what the names that a template reads come to where they are settled
abbrev pub after_reading : Environment → called.Labels → List HostPlace → World → Template → plain.Told
after_reading env ls asked w t = settling env (bare ls asked w []) (asked_of env.hosts (whole_of asked w).signals t)

-- what a page comes to that is carried to a template's shape
abbrev pub updated_to : Environment → List HostPlace → World → Template → NumberedPage → Updated
updated_to env asked w t old = updated env.hosts (whole_of asked w).signals t.lines t.links (whole_of asked w).memos old

-- what is told where the names that a template reads are settled
abbrev pub told_reading : Environment → List HostPlace → World → Template → List Event
told_reading env asked w t = (settle env (asked_of env.hosts (whole_of asked w).signals t) (whole_of asked w)).told

-- What a template reads was settled, told and noted, and this is what comes of a page without nodes, and how.
pub record IsFresh (env : Environment) (ls : called.Labels) (t : Template) (asked later : List HostPlace) (old new : World)
    (made : NumberedPage) (edits : List Op) (before after : List Entry) (first last : Option Journal) : Type 0 where
  pub world : whole_of later new ≡ (after_reading env ls asked old t).machine.world
  pub told : after ≡ before ++ (after_reading env ls asked old t).entries
  pub labels : ls ≡ (after_reading env ls asked old t).machine.labels
  pub noted : last ≡ noting (told_reading env asked old t) first
  pub page : made ≡ (updated_to env asked old t paged.bare).page
  pub ops : edits ≡ (updated_to env asked old t paged.bare).ops

-- What a template reads was settled, told and noted, and this is the tree of what it shows from scratch: that of a page which is made of it.
pub record IsFreshTree (env : Environment) (ls : called.Labels) (t : Template) (asked later : List HostPlace) (old new : World)
    (made : Forest Kind) (before after : List Entry) (first last : Option Journal) : Type 0 where
  pub world : whole_of later new ≡ (after_reading env ls asked old t).machine.world
  pub told : after ≡ before ++ (after_reading env ls asked old t).entries
  pub labels : ls ≡ (after_reading env ls asked old t).machine.labels
  pub noted : last ≡ noting (told_reading env asked old t) first
  pub tree : made ≡ tree_of (updated_to env asked old t paged.bare).page

-- A page was made, on the signals of a machine: what it reads is settled, told and noted, then the operations that lead to it, and then the page.
pub record IsMounted (env : Environment) (ls : called.Labels) (templates : List Template) (asked later : List HostPlace)
    (old new : World) (name : List ℕ) (template : ℕ) (made : NumberedPage) (before after : List Entry) (first last : Option Journal) : Type 0 where
  pub world : whole_of later new ≡ (settling env (bare ls asked old templates)
      (template_reads env (bare ls asked old templates) template)).machine.world
  pub told : after
      ≡ before ++ ((settling env (bare ls asked old templates) (template_reads env (bare ls asked old templates) template)).entries
      ++ ops_told name (update_of env (bare ls asked old templates) template paged.bare).ops
      ++ entry.Page name (html_of (tree_of made)) ∷ [])
  pub labels : ls ≡ (settling env (bare ls asked old templates) (template_reads env (bare ls asked old templates) template)).machine.labels
  pub noted : last ≡ noting (told_reading env asked old (template_in templates template)) first
  pub page : made ≡ (update_of env (bare ls asked old templates) template paged.bare).page

-- What a template reads was settled, told and noted, and this is the HTML of what it shows from scratch.
pub record IsScratched (env : Environment) (ls : called.Labels) (templates : List Template) (asked later : List HostPlace)
    (old new : World) (template : ℕ) (bytes : List ℕ) (before after : List Entry) (first last : Option Journal) : Type 0 where
  pub world : whole_of later new ≡ (settling env (bare ls asked old templates)
      (template_reads env (bare ls asked old templates) template)).machine.world
  pub told : after ≡ before ++ (settling env (bare ls asked old templates) (template_reads env (bare ls asked old templates) template)).entries
  pub labels : ls ≡ (settling env (bare ls asked old templates) (template_reads env (bare ls asked old templates) template)).machine.labels
  pub noted : last ≡ noting (told_reading env asked old (template_in templates template)) first
  pub html : bytes ≡ scratch_html env.hosts (whole_of asked old).signals (template_in templates template)

-- A page was brought up to date: what it reads is settled, told and noted, and then its news.
pub record IsUpdated (env : Environment) (ls : called.Labels) (templates : List Template) (asked later : List HostPlace)
    (old new : World) (p q : Mounted) (before after : List Entry) (first last : Option Journal) : Type 0 where
  pub world : whole_of later new
      ≡ (settling env (bare ls asked old templates) (template_reads env (bare ls asked old templates) p.template)).machine.world
  pub told : after
      ≡ before ++ ((settling env (bare ls asked old templates) (template_reads env (bare ls asked old templates) p.template)).entries
      ++ news_of (updated_page env (bare ls asked old templates) (page_of p))
      (update_of env (bare ls asked old templates) p.template (page_of p).content).ops)
  pub labels : ls ≡ (settling env (bare ls asked old templates) (template_reads env (bare ls asked old templates) p.template)).machine.labels
  pub noted : last ≡ noting (told_reading env asked old (template_in templates p.template)) first
  pub page : page_of q ≡ updated_page env (bare ls asked old templates) (page_of p)

-- All pages of a machine were.
pub record AreUpdated (env : Environment) (m : plain.Machine) (labels : called.Labels) (asked later : List HostPlace)
    (old new : World) (pages now : List Mounted) (entries : List Entry) (first last : Option Journal) : Type 0 where
  pub step : reached (with_pages m labels later new last now) entries ≡ update_all env (map page_of pages) (with_pages m labels asked old first [])
