-- The names of commands in the order of the text, with what each has to be, and what else the text of a body has.
use Rattle.std.specs.Prelude.{ℕ, ◌+◌, nat_lt, Bool, true, ◌&&◌, not, List, [], ◌∷◌, ◌++◌, length, map, flat_map, slice_get, unwrap_or, option_to_list}
use Rattle.std.specs.Prelude.{Option, Some, None}
use Rattle.std.specs.List.{list_all}
use Rattle.sig_base.specs.declared.limits.TheConstants.{MOST_SOURCES}
use Rattle.sig_formula.specs.Trees.{Tree, literal, slot, row_field, row_key, negation, binary, choice, count_of, sum_of, rows_where, untracked}
use Rattle.formula_text.specs.Slots.{Wiring}
use Rattle.effect_model.specs.declared.plain.Plain.{Plain}
use Rattle.effect_model.specs.declared.plain.Plain.TheVariants as p
use Rattle.effect_model.specs.Lines.{formula_of, target_of}
use Rattle.effect_tables.specs.Scripts as fitting
use Rattle.sig_untrack.specs.Stated as stated
use Rattle.sig_untrack.specs.Stated.{Stated, Source, Rewiring, Bodies, no_bodies, body}
use Rattle.body_text.specs.declared.judge.TheConstants.{MOST_BODY_LINES}
use Rattle.live_cmd.specs.declared.command.SourceText.{SourceText}
use Rattle.live_cmd.specs.declared.command.SourceText.TheVariants as source
use Rattle.live_cmd.specs.declared.command.Verb.{Verb}
use Rattle.live_cmd.specs.declared.command.Verb.TheVariants as verb
use Rattle.live_cmd.specs.declared.command.Command.{Command}
use Rattle.live_cmd.specs.declared.command.Command.TheVariants as command
use Rattle.live_model.specs.declared.names.Kind.TheVariants as kind
use Rattle.live_model.specs.declared.names.Need.{Need}
use Rattle.live_model.specs.declared.names.Need.TheVariants as need
use Rattle.live_model.specs.Names.{Use}

-- ---- formulas and sources

-- these names are signals
abbrev pub uses_of_signals : List (List ℕ) → List Use
uses_of_signals names = map (λ n. (n, need.Signal)) names

-- so are the names of a formula
abbrev pub uses_of_formula : Wiring → List Use
uses_of_formula w = uses_of_signals w.1

-- the names of what a computed is computed by
abbrev pub uses_of_source : SourceText → List Use
uses_of_source (source.Formula w) = uses_of_formula w
uses_of_source (source.Host place arguments) = uses_of_signals arguments

-- the owner inside which something is made
abbrev pub uses_of_inside : Option (List ℕ) → List Use
uses_of_inside None = []
uses_of_inside (Some o) = (o, need.Of kind.Owner) ∷ []

-- ---- bodies

-- the slots of a formula in the order of the text
abbrev pub slots_in : Tree → List ℕ
slots_in (literal s) = []
slots_in (slot n) = n ∷ []
slots_in (row_field g) = []
slots_in row_key = []
slots_in (negation a) = slots_in a
slots_in (binary o a b) = slots_in a ++ slots_in b
slots_in (choice t a b) = slots_in t ++ (slots_in a ++ slots_in b)
slots_in (count_of a) = slots_in a
slots_in (sum_of a b) = slots_in a ++ slots_in b
slots_in (rows_where a b) = slots_in a ++ slots_in b
slots_in (untracked a) = slots_in a

-- what stands at a place, if something does
abbrev pub there : {A : Type 0} → List A → ℕ → List A
there xs n = option_to_list (slice_get xs n)

-- the list that stands at a place, nothing where none is there
abbrev pub at_place : {A : Type 0} → List (List A) → ℕ → List A
at_place xs n = unwrap_or (slice_get xs n) []

-- what the places in the statements of a body name: things, signals, and what is used in nested effects and in rewirings
pub record Named : Type 0 where
  pub targets : List (List ℕ)
  pub names : List (List ℕ)
  pub effects : List (List Use)
  pub rewirings : List (List Use)

-- the name at a place, which has to be this
abbrev pub uses_at : List (List ℕ) → ℕ → Need → List Use
uses_at names n needed = map (λ m. (m, needed)) (there names n)

-- the names in a formula of a body
abbrev pub uses_in : Named → Tree → List Use
uses_in b f = flat_map (λ s. uses_at b.names s need.Signal) (slots_in f)

-- the names in a statement of one line
abbrev pub uses_of_plain : Named → Plain ℕ ℕ Tree → List Use
uses_of_plain b (p.Set t f) = uses_at b.targets t (need.Of kind.Cell) ++ uses_in b f
uses_of_plain b (p.Log f) = uses_in b f
uses_of_plain b (p.CleanupSet t f) = uses_at b.targets t (need.Of kind.Cell) ++ uses_in b f
uses_of_plain b (p.CleanupLog f) = uses_in b f
uses_of_plain b (p.Dispose t) = uses_at b.targets t need.Thing

-- the names in statements
abbrev pub uses_of_statements : Named → Stated → List Use
uses_of_statements b stated.no_more = []
uses_of_statements b (stated.plain a rest) = uses_of_plain b a ++ uses_of_statements b rest
uses_of_statements b (stated.when f inner rest) = uses_in b f ++ (uses_of_statements b inner ++ uses_of_statements b rest)
uses_of_statements b (stated.effect n rest) = at_place b.effects n ++ uses_of_statements b rest
uses_of_statements b (stated.rewire n rest) = at_place b.rewirings n ++ uses_of_statements b rest

-- the names in a rewiring, of a body with these targets
abbrev pub uses_of_rewiring : List (List ℕ) → Rewiring → List Use
uses_of_rewiring targets r = uses_at targets r.target (need.Of kind.Computed) ++ uses_of_signals r.names

-- the names in each of these bodies
abbrev pub uses_of_bodies : Bodies → List (List Use)
uses_of_bodies no_bodies = []
uses_of_bodies (body ss targets names inner rewirings others) =
    let b : Named =
    record { targets = targets; names = names; effects = uses_of_bodies inner; rewirings = map (uses_of_rewiring targets) rewirings } in
    uses_of_statements b ss ∷ uses_of_bodies others

-- the names in a body, those in its nested effects too
abbrev pub uses_of_body : Bodies → List Use
uses_of_body b = at_place (uses_of_bodies b) 0

-- the place of the host formula of a source
abbrev pub host_in : Source → List ℕ
host_in (stated.formula t) = []
host_in (stated.host place) = place ∷ []

-- the places of the host formulas in statements, where those of nested effects and of rewirings are these
abbrev pub hosts_of_statements : List (List ℕ) → List (List ℕ) → Stated → List ℕ
hosts_of_statements effects rewirings stated.no_more = []
hosts_of_statements effects rewirings (stated.when f inner rest) =
    hosts_of_statements effects rewirings inner ++ hosts_of_statements effects rewirings rest
hosts_of_statements effects rewirings (stated.effect n rest) = at_place effects n ++ hosts_of_statements effects rewirings rest
hosts_of_statements effects rewirings (stated.rewire n rest) = at_place rewirings n ++ hosts_of_statements effects rewirings rest
hosts_of_statements effects rewirings (stated.plain a rest) = hosts_of_statements effects rewirings rest

-- those in each of these bodies
abbrev pub hosts_of_bodies : Bodies → List (List ℕ)
hosts_of_bodies no_bodies = []
hosts_of_bodies (body ss targets names inner rewirings others) =
    hosts_of_statements (hosts_of_bodies inner) (map (λ (r : Rewiring). host_in r.source) rewirings) ss ∷ hosts_of_bodies others

-- the places of the host formulas in a body, in the order of the text
abbrev pub hosts_of_body : Bodies → List ℕ
hosts_of_body b = at_place (hosts_of_bodies b) 0

-- how many names, targets, nested effects and rewirings a body has
pub record Counts : Type 0 where
  pub names : ℕ
  pub targets : ℕ
  pub effects : ℕ
  pub rewirings : ℕ

-- whether the slots of a formula are below a number
abbrev pub are_below : ℕ → Tree → Bool
are_below count f = list_all (λ s. nat_lt s count) (slots_in f)

-- the same of a formula that may be there
abbrev pub are_below_if : ℕ → Option Tree → Bool
are_below_if count None = true
are_below_if count (Some f) = are_below count f

-- whether a target that may be there is among so many
abbrev pub is_target_if : ℕ → Option ℕ → Bool
is_target_if count None = true
is_target_if count (Some t) = nat_lt t count

-- whether something stands at each place in statements
abbrev pub are_placed : Counts → Stated → Bool
are_placed c stated.no_more = true
are_placed c (stated.plain a rest) = (is_target_if c.targets (target_of a) && are_below_if c.names (formula_of a)) && are_placed c rest
are_placed c (stated.when f inner rest) = (are_below c.names f && are_placed c inner) && are_placed c rest
are_placed c (stated.effect n rest) = nat_lt n c.effects && are_placed c rest
are_placed c (stated.rewire n rest) = nat_lt n c.rewirings && are_placed c rest

-- whether a rewiring has a target among so many, and no more names than a formula may have
abbrev pub is_rewiring : ℕ → Rewiring → Bool
is_rewiring targets r = nat_lt r.target targets && not (nat_lt MOST_SOURCES (length r.names))

-- how many bodies there are, those of nested effects aside
abbrev pub bodies_count : Bodies → ℕ
bodies_count no_bodies = 0
bodies_count (body ss targets names inner rewirings others) = 1 + bodies_count others

-- how many statements there are in these bodies and in those of their nested effects
abbrev pub count_in_bodies : Bodies → ℕ
count_in_bodies no_bodies = 0
count_in_bodies (body ss targets names inner rewirings others) = fitting.count_of ss + (count_in_bodies inner + count_in_bodies others)

-- whether something stands at each place of these bodies, and no rewiring has more names than a formula may have
abbrev pub are_linked : Bodies → Bool
are_linked no_bodies = true
are_linked (body ss targets names inner rewirings others) =
    (are_placed (record { names = length names; targets = length targets; effects = bodies_count inner; rewirings = length rewirings }) ss
    && (list_all (is_rewiring (length targets)) rewirings && are_linked inner)) && are_linked others

-- whether a body is one that a script can have: something stands at each place, and there are no more statements and names than a text may
-- have
abbrev pub is_fit : Bodies → Bool
is_fit b = are_linked b && not (nat_lt MOST_BODY_LINES (count_in_bodies b))

-- ---- commands

-- what the name of a verb has to be
abbrev pub need_of : Verb → Need
need_of verb.Get = need.Signal
need_of verb.State = need.Of kind.Computed
need_of verb.Sources = need.Of kind.Computed
need_of verb.Why = need.Of kind.Computed
need_of verb.Pending = need.Of kind.Watcher
need_of verb.Show = need.Of kind.Page
need_of verb.Scratch = need.Of kind.Page
need_of verb.Dispose = need.Thing

-- The names of a command in the order of its text, those in the body of an effect aside. What a watcher's notification tries isn't looked up.
abbrev pub uses_of : Command → List Use
uses_of (command.Cell n v equals inside) = (n, need.New) ∷ uses_of_inside inside
uses_of (command.List n fields inside) = (n, need.New) ∷ uses_of_inside inside
uses_of (command.Edit n e) = (n, need.Of kind.List) ∷ []
uses_of (command.Set n v) = (n, need.Of kind.Cell) ∷ []
uses_of (command.Computed n s inside) = (n, need.New) ∷ (uses_of_source s ++ uses_of_inside inside)
uses_of (command.Rewire n s) = (n, need.Of kind.Computed) ∷ uses_of_source s
uses_of (command.Owner n inside) = (n, need.New) ∷ uses_of_inside inside
uses_of (command.Watcher n tries) = (n, need.New) ∷ []
uses_of (command.Watch n signals) = (n, need.Of kind.Watcher) ∷ uses_of_signals signals
uses_of (command.Unwatch n s) = (n, need.Of kind.Watcher) ∷ (s, need.Signal) ∷ []
uses_of (command.Named v n) = (n, need_of v) ∷ []
uses_of (command.Effect n b inside) = (n, need.New) ∷ uses_of_inside inside
uses_of (command.On t line event b) = (t, need.Of kind.Template) ∷ uses_of_body b
uses_of (command.Fire p node event) = (p, need.Of kind.Page) ∷ []
uses_of (command.Template n t) = (n, need.New) ∷ uses_of_signals t.names
uses_of (command.Mount n t inside) = (n, need.New) ∷ (t, need.Of kind.Template) ∷ uses_of_inside inside
uses_of (command.Bare b) = []
