-- What items do while a batch is open, and what its end tells and leaves.
use Rattle.std.proofs.Common.{◌≡◌, ◌⊎◌, inl, inr, ℕ, ◌==◌, ◌||◌, Bool, true, false, cond, not, List, [], ◌∷◌, ◌++◌, map, Option, Some, None, refl, sym, ap, ◌∙◌, subst}
use Rattle.std.specs.List.{AllByRecursion}
use Rattle.std.specs.Map.{keys_of}
use Rattle.std.specs.Option.{option_map, option_map_or, option_or}
use Rattle.std.proofs.lemmas.Bool.{eq-eqb, eqb-true}
use Rattle.sig_base.specs.Values.{same_value, same_value-Decides, scalar_value}
use Rattle.sig_base.specs.declared.value.Value.{Value}
use Rattle.sig_base.specs.declared.value.Value.TheVariants as value
use Rattle.signal_model.specs.Asks.{Moment, moments}
use Rattle.signal_model.specs.Signals.{Cell, Computed, Signals, Stands, IsCell, IsComputed, IsGone, cell_at, computed_at, is_in, or_computed, standing}
use Rattle.signal_model.specs.Changes.{with_value}
use Rattle.signal_model.specs.Settling.{settled}
use Rattle.signal_model.specs.Values.{value_of}
use Rattle.signal_laws.proofs.Shared.{all_append, found_changed}
use Rattle.effect_model.specs.Worlds.{Environment, Event, Watcher, World, ran, settle, at_rest, changed_signal}
use Rattle.effect_model.specs.Acts.{are_alike, frozen_by, notified_by_any, with_quiet_value}
use Rattle.effect_model.specs.Batches.{Batch, abort, commit, give_back, is_other, joined, joined_replaced, net_of, replaced_by, with_replacing}
use Rattle.effect_model.specs.declared.how.How.TheVariants.{Set}
use Rattle.why_model.specs.Records.{Journal}
use Rattle.effect_tables.proofs.Shared.{listed_twice}
use Rattle.live_cmd.specs.declared.command.Bare.TheVariants as bares
use Rattle.live_cmd.specs.declared.command.Command.{Command}
use Rattle.live_cmd.specs.declared.command.Command.TheVariants as command
use Rattle.live_cmd.specs.declared.command.Item.{Item}
use Rattle.live_cmd.specs.declared.command.Item.TheVariants as item
use Rattle.live_cmd.specs.declared.command.Verb.{Verb}
use Rattle.live_cmd.specs.declared.command.Verb.TheVariants as verb
use Rattle.live_entries.specs.declared.entry.Entry.{Entry}
use Rattle.live_entries.specs.declared.entry.Entry.TheVariants as entry
use Rattle.live_entries.specs.declared.refusal.Refusal.{Refusal}
use Rattle.live_entries.specs.declared.refusal.Refusal.TheVariants as refusal
use Rattle.live_model.proofs.Shared.{unnoted}
use Rattle.live_model.specs.Journals.{noting}
use Rattle.live_model.specs.Labels.{Labels, labels_after}
use Rattle.live_model.specs.Machine.{Machine, Told, aborting, acted, batch_refusal, committing, done, entries_of, is_done_in_batch, is_ending, later_refusal, name_refusal, named, page_at, reached, refused, scratching, setting_by, step, template_at, template_reads}
use Rattle.live_model.specs.Names.{number_of}
use Rattle.live_model.specs.Output.{entries_from, machine_after}
use Rattle.live_model.specs.Pages.{Page, scratch_html}
use Rattle.live_model.specs.Rows.{edited, rows_at}
use Rattle.live_laws.specs.Batches.{AbortLaw, AreUntold, BatchChangeLaw, CollectsLaw, CommitLaw, GivenBackLaw, IsBegun, aborts, begins, is_end, is_notice, rest_of, unsignalled}
use Rattle.live_laws.specs.Refusals.{freezing, notices, valued, warned}
use Rattle.live_laws.proofs.Entries.{IsUntold, none_untold, quiet_untold}
use Rattle.live_laws.proofs.Refusals.{acted_as, acted_notices, set_done}

-- ---- one step

-- a command of one word goes by whether a batch is open alone
word_step : (env : Environment) (m : Machine) (o : Option Batch) (c : Command) → m.batch ≡ o → option_or (name_refusal m c) (later_refusal env.slacks m c) ≡ None →
    batch_refusal o c ≡ None → step env m (item.Do c) ≡ done env m c
word_step env m o c is fine none =
    ap (λ (b : Option Batch). option_map_or (refused m) (option_or (batch_refusal b c) (option_or (name_refusal m c) (later_refusal env.slacks m c))) (done env m c)) is
    ∙ ap (λ (r : Option Refusal). option_map_or (refused m) (option_or r (option_or (name_refusal m c) (later_refusal env.slacks m c))) (done env m c)) none
    ∙ ap (λ (r : Option Refusal). option_map_or (refused m) r (done env m c)) fine

-- the value that the set replaces
replaced_here : (env : Environment) (w : World) (i : ℕ) (v : Value) (x : Cell) → standing w.signals i ≡ IsCell x → are_alike env.slacks x.rule x.value v ≡ false →
    replaced_by env.slacks (standing w.signals i) v ≡ Some x.value
replaced_here env w i v x stands other =
    ap (λ (s : Stands). replaced_by env.slacks s v) stands ∙ ap (λ (b : Bool). cond b None (Some x.value)) other

-- a set by the value that it replaces
abbrev set_replacing : Environment → Machine → Batch → ℕ → Value → Option Value → Told
set_replacing env m b i v o = acted (record m { batch = Some (joined_replaced i o b) }) (with_replacing i v o m.world)

-- a world of which nothing is told
acted_quietly : (m : Machine) (w : World) → IsUntold m.labels w.told → acted m w ≡ reached (record m { world = at_rest w; journal = noting w.told m.journal }) []
acted_quietly m w h = acted_as m w [] w.told h.named h.entries refl

pub batch_change_law : BatchChangeLaw
batch_change_law env m b c i v x quiet is fine change stands other =
    ap (λ (o : Option Refusal). option_map_or (refused m) o (done env m c)) fine
    ∙ set_done env m c i v change
    ∙ ap (λ (o : Option Batch). setting_by env m o i v) is
    ∙ ap (set_replacing env m b i v) (replaced_here env m.world i v x stands other)
    ∙ acted_quietly (record m { batch = Some (joined i x.value b) }) (with_quiet_value i v m.world)
    (quiet_untold m.labels i v m.world (none_untold m.labels m.world.told quiet))
    ∙ ap (λ (es : List Event). reached (record m {
      world = at_rest (valued i v m.world);
      batch = Some (joined i x.value b);
      journal = noting (es ++ changed_signal i Set ∷ []) m.journal;
    }) []) quiet

pub commit_law : CommitLaw
commit_law env m b quiet is =
    let ns : List ℕ = net_of env.slacks m.world.signals b in
    let xs : List Watcher = notified_by_any m.world.signals m.world.memos ns m.world.watchers in
    word_step env m (Some b) (command.Bare bares.Commit) is refl refl
    ∙ ap (committing env m) is
    ∙ acted_notices (record m { batch = None }) (commit env b m.world) m.world.told xs (frozen_by xs) refl (none_untold m.labels m.world.told quiet)
    ∙ ap (λ (j : Option Journal). reached (record m { world = at_rest (warned ns m.world); batch = None; journal = j }) (notices m.labels xs ++ freezing m.labels (frozen_by xs)))
    (ap (λ (es : List Event). noting es m.journal) quiet ∙ unnoted m.journal)

-- giving back tells nothing
back_untold : (labels : Labels) (n : ℕ) (v : Value) (w : World) → IsUntold labels w.told → IsUntold labels (give_back n v w).told
back_untold labels n v w h = go (is_other v (standing w.signals n))
  where
    go : (b : Bool) → IsUntold labels (cond b (with_quiet_value n v w) w).told
    go true = quiet_untold labels n v w h
    go false = h

abort_untold : (labels : Labels) (b : Batch) (w : World) → IsUntold labels w.told → IsUntold labels (abort b w).told
abort_untold labels [] w h = h
abort_untold labels (p ∷ b) w h = abort_untold labels b (give_back p.0 p.1 w) (back_untold labels p.0 p.1 w h)

pub abort_law : AbortLaw
abort_law env m b quiet is =
    word_step env m (Some b) (command.Bare bares.Abort) is refl refl
    ∙ ap (aborting m) is
    ∙ acted_quietly (record m { batch = None }) (abort b m.world) (abort_untold m.labels b m.world (none_untold m.labels m.world.told quiet))

-- ---- what stands while a batch is open

-- with another value, where a cell stands
abbrev revalued : Value → Stands → Stands
revalued v (IsCell x) = IsCell (record x { value = v })
revalued v s = s

revalued_twice : (u v : Value) (s : Stands) → revalued v (revalued u s) ≡ revalued v s
revalued_twice u v IsGone = refl
revalued_twice u v (IsCell x) = refl
revalued_twice u v (IsComputed c) = refl

-- what stands where a cell has another value
standing_set : (w : Signals) (n : ℕ) (v : Value) (m : ℕ) → standing (with_value w n v) m ≡ cond (m == n) (revalued v (standing w m)) (standing w m)
standing_set w n v m =
    ap (λ (o : Option Cell). or_computed o (computed_at m w.computeds)) (found_changed (λ (c : Cell). c.name) m n (λ c. record c { value = v }) w.cells (λ c. refl))
    ∙ by (m == n) (cell_at m w.cells) (computed_at m w.computeds)
  where
    gone : (b : Bool) (d : Option Computed) → or_computed None d ≡ cond b (revalued v (or_computed None d)) (or_computed None d)
    gone true None = refl
    gone true (Some c) = refl
    gone false d = refl

    by : (b : Bool) (o : Option Cell) (d : Option Computed) →
        or_computed (option_map (λ c. cond b (record c { value = v }) c) o) d ≡ cond b (revalued v (or_computed o d)) (or_computed o d)
    by b None d = gone b d
    by true (Some c) d = refl
    by false (Some c) d = refl

-- Under a name stands what stood there as the batch began; or the batch has the name, and it stands there with another value.
abbrev IsLike : Signals → Batch → ℕ → Stands → Type 0
IsLike base b n s = (s ≡ standing base n) ⊎ ((is_in n (keys_of b) ≡ true) × ((u : Value) × (s ≡ revalued u (standing base n))))

-- A batch is open that began with this machine, and nothing is left to tell.
record IsOpen (base m : Machine) : Type 0 where
  batch : Batch
  stays : m.batch ≡ Some batch
  quiet : m.world.told ≡ []
  begun : AllByRecursion (IsBegun base.world.signals) batch
  like : (n : ℕ) → IsLike base.world.signals batch n (standing m.world.signals n)
  rest : rest_of m ≡ rest_of base

-- a machine whose labels are these, and whose world is at rest that has the same beside its signals
rest_same : (m : Machine) (labels : Labels) (w : World) (b : Option Batch) → labels ≡ m.labels → unsignalled w ≡ unsignalled m.world →
    rest_of (record m { labels = labels; world = at_rest w; batch = b }) ≡ rest_of m
rest_same m labels w b e f =
    (λ i. record m { labels = e i; world = record (unsignalled w) { owned = listed_twice w.owned i }; batch = None; journal = None })
    ∙ ap (λ (v : World). record m { world = v; batch = None; journal = None }) f

-- ---- what joins

keys_joined : (i : ℕ) (v : Value) (b : Batch) (n : ℕ) → is_in n (keys_of b) ≡ true → is_in n (keys_of (joined i v b)) ≡ true
keys_joined i v b n h = go (is_in i (keys_of b))
  where
    more : (c : Batch) → is_in n (keys_of c) ≡ true → is_in n (keys_of (c ++ (i, v) ∷ [])) ≡ true
    more [] k = cc
    more (p ∷ c) k = by (n == p.0) k (more c)
      where
        by : (d : Bool) → (d || is_in n (keys_of c)) ≡ true → (is_in n (keys_of c) ≡ true → is_in n (keys_of (c ++ (i, v) ∷ [])) ≡ true) →
            (d || is_in n (keys_of (c ++ (i, v) ∷ []))) ≡ true
        by true k rest = refl
        by false k rest = rest k

    go : (d : Bool) → is_in n (keys_of (cond d b (b ++ (i, v) ∷ []))) ≡ true
    go true = h
    go false = more b h

key_joined : (i : ℕ) (v : Value) (b : Batch) (n : ℕ) → (n == i) ≡ true → is_in n (keys_of (joined i v b)) ≡ true
key_joined i v b n same = go (is_in i (keys_of b)) refl
  where
    last : (c : Batch) → is_in n (keys_of (c ++ (i, v) ∷ [])) ≡ true
    last [] = ap (λ (d : Bool). d || false) same
    last (p ∷ c) = by (n == p.0) (last c)
      where
        by : (d : Bool) → is_in n (keys_of (c ++ (i, v) ∷ [])) ≡ true → (d || is_in n (keys_of (c ++ (i, v) ∷ []))) ≡ true
        by true k = refl
        by false k = k

    go : (d : Bool) → is_in i (keys_of b) ≡ d → is_in n (keys_of (cond d b (b ++ (i, v) ∷ []))) ≡ true
    go true h = ap (λ (k : ℕ). is_in k (keys_of b)) (eqb-true n i same) ∙ h
    go false h = last b

-- a cell that joins has the value that it had as the batch began
begun_joined : (base w : Signals) (i : ℕ) (x : Cell) (b : Batch) → standing w i ≡ IsCell x → IsLike base b i (standing w i) → AllByRecursion (IsBegun base) b →
    AllByRecursion (IsBegun base) (joined i x.value b)
begun_joined base w i x b stands like begun = go (is_in i (keys_of b)) refl
  where
    first : (d : Bool) → is_in i (keys_of b) ≡ d → d ≡ false → IsLike base b i (standing w i) → IsBegun base (i, x.value)
    first d h off (inl e) = (x, sym e ∙ stands, refl)
    first d h off (inr k) = let no : true ≡ false = sym k.0 ∙ h ∙ off in absurd (cc)

    go : (d : Bool) → is_in i (keys_of b) ≡ d → AllByRecursion (IsBegun base) (cond d b (b ++ (i, x.value) ∷ []))
    go true h = begun
    go false h = all_append (IsBegun base) b ((i, x.value) ∷ []) begun (first false h refl like, tt)

-- and stands there with another value
like_joined : (base w : Signals) (i : ℕ) (v before : Value) (b : Batch) (n : ℕ) → IsLike base b n (standing w n) →
    IsLike base (joined i before b) n (standing (with_value w i v) n)
like_joined base w i v before b n like =
    subst (IsLike base (joined i before b) n) (sym (standing_set w i v n)) (go (n == i) refl like)
  where
    go : (d : Bool) → (n == i) ≡ d → IsLike base b n (standing w n) → IsLike base (joined i before b) n (cond d (revalued v (standing w n)) (standing w n))
    go true same (inl e) = inr (key_joined i before b n same, (v, ap (revalued v) e))
    go true same (inr k) = inr (key_joined i before b n same, (v, ap (revalued v) k.1.1 ∙ revalued_twice k.1.0 v (standing base n)))
    go false off (inl e) = inl e
    go false off (inr k) = inr (keys_joined i before b n k.0, k.1)

-- ---- what items do

-- a batch stays open, and nobody is notified
abbrev Stays : Machine → Told → Type 0
Stays base t = IsOpen base t.machine × AllByRecursion (λ (e : Entry). is_notice e ≡ false) t.entries

-- nothing is done, and these are told
stays_same : (base : Machine) (m : Machine) (es : List Entry) → IsOpen base m → AllByRecursion (λ (e : Entry). is_notice e ≡ false) es → Stays base (reached m es)
stays_same base m es k untold = (k, untold)

-- the runs of a settling
runs_untold : (labels : Labels) (rs : List Moment) → AllByRecursion (λ (e : Entry). is_notice e ≡ false) (entries_of labels (map ran rs))
runs_untold labels [] = tt
runs_untold labels (r ∷ rs) = (refl, runs_untold labels rs)

runs_labels : (labels : Labels) (rs : List Moment) → labels_after (map ran rs) labels ≡ labels
runs_labels labels [] = refl
runs_labels labels (r ∷ rs) = runs_labels labels rs

-- names are settled, and there is an answer
stays_settled : (base : Machine) (env : Environment) (m : Machine) (names : List ℕ) (answer : Entry) → IsOpen base m → is_notice answer ≡ false →
    Stays base (reached (acted m (settle env names m.world)).machine ((acted m (settle env names m.world)).entries ++ answer ∷ []))
stays_settled base env m names answer k untold = (
  record {
    batch = k.batch;
    stays = k.stays;
    quiet = refl;
    begun = k.begun;
    like = k.like;
    rest = rest_same m (labels_after (m.world.told ++ map ran rs) m.labels) (settle env names m.world) m.batch
        (ap (λ (es : List Event). labels_after (es ++ map ran rs) m.labels) k.quiet ∙ runs_labels m.labels rs) refl ∙ k.rest;
  },
  all_append (λ (e : Entry). is_notice e ≡ false) (entries_of m.labels (settle env names m.world).told) (answer ∷ [])
      (subst (λ (es : List Event). AllByRecursion (λ (e : Entry). is_notice e ≡ false) (entries_of m.labels (es ++ map ran rs))) (sym k.quiet) (runs_untold m.labels rs))
      (untold, tt),
)
  where
    rs : List Moment
    rs = moments m.world.signals (settled env.hosts m.world.signals m.world.memos names).runs

-- a cell is set
stays_set : (base : Machine) (env : Environment) (m : Machine) (i : ℕ) (v : Value) (k : IsOpen base m) → Stays base (setting_by env m m.batch i v)
stays_set base env m i v k =
    subst (λ (o : Option Batch). Stays base (setting_by env m o i v)) (sym k.stays) (go (standing m.world.signals i) refl)
  where
    told : (es : List Event) → IsUntold m.labels es → AllByRecursion (λ (e : Entry). is_notice e ≡ false) (entries_of m.labels es)
    told es h = subst (λ (ts : List Entry). AllByRecursion (λ (e : Entry). is_notice e ≡ false) ts) (sym h.entries) tt

    before : IsUntold m.labels m.world.told
    before = none_untold m.labels m.world.told k.quiet

    behind : IsUntold m.labels (with_quiet_value i v m.world).told
    behind = quiet_untold m.labels i v m.world before

    same : Stays base (set_replacing env m k.batch i v None)
    same = (
      record {
        batch = k.batch;
        stays = refl;
        quiet = refl;
        begun = k.begun;
        like = k.like;
        rest = rest_same m (labels_after m.world.told m.labels) m.world (Some k.batch) before.named refl ∙ k.rest;
      },
      told m.world.told before,
    )

    by : (x : Cell) → standing m.world.signals i ≡ IsCell x → (d : Bool) → Stays base (set_replacing env m k.batch i v (cond d None (Some x.value)))
    by x e true = same
    by x e false = (
      record {
        batch = joined i x.value k.batch;
        stays = refl;
        quiet = refl;
        begun = begun_joined base.world.signals m.world.signals i x k.batch e (k.like i) k.begun;
        like = λ n. like_joined base.world.signals m.world.signals i v x.value k.batch n (k.like n);
        rest = rest_same m (labels_after (with_quiet_value i v m.world).told m.labels) (with_quiet_value i v m.world) (Some (joined i x.value k.batch)) behind.named
            refl ∙ k.rest;
      },
      told (with_quiet_value i v m.world).told behind,
    )

    go : (s : Stands) → standing m.world.signals i ≡ s → Stays base (set_replacing env m k.batch i v (replaced_by env.slacks s v))
    go IsGone e = same
    go (IsCell x) e = by x e (are_alike env.slacks x.rule x.value v)
    go (IsComputed c) e = same

stays_scratch : (base : Machine) (env : Environment) (m : Machine) (n : List ℕ) (p : Option Page) → IsOpen base m → Stays base (scratching env m n p)
stays_scratch base env m n None k = stays_same base m (entry.Scratch n [] ∷ []) k (refl, tt)
stays_scratch base env m n (Some p) k =
    stays_settled base env m (template_reads env m p.template) (entry.Scratch n (scratch_html env.hosts m.world.signals (template_at m p.template))) k refl

stays_verb : (base : Machine) (env : Environment) (m : Machine) (v : Verb) (n : List ℕ) (i : ℕ) → IsOpen base m →
    is_done_in_batch (command.Named v n) ≡ true → Stays base (named env m v n i)
stays_verb base env m verb.Get n i k e = stays_settled base env m (i ∷ []) (entry.Outcome n (value_of env.hosts m.world.signals i [])) k refl
stays_verb base env m verb.Scratch n i k e = stays_scratch base env m n (page_at m.pages i) k
stays_verb base env m verb.Dispose n i k e = cc
stays_verb base env m verb.Why n i k e = cc
stays_verb base env m v n i k e = stays_same base m (named env m v n i).entries k (refl, tt)

stays_done : (base : Machine) (env : Environment) (m : Machine) (c : Command) → IsOpen base m → is_done_in_batch c ≡ true → is_ending c ≡ false →
    Stays base (done env m c)
stays_done base env m (command.Set n v) k e h = stays_set base env m (number_of m.names n) (scalar_value v) k
stays_done base env m (command.Edit n d) k e h =
    stays_set base env m (number_of m.names n) (value.Rows (edited d (rows_at m.world.signals (number_of m.names n)))) k
stays_done base env m (command.Named v n) k e h = stays_verb base env m v n (number_of m.names n) k e
stays_done base env m (command.Bare bares.Flush) k e h = cc
stays_done base env m (command.Bare bares.Begin) k e h = cc
stays_done base env m (command.Bare bares.Commit) k e h = cc
stays_done base env m (command.Bare bares.Abort) k e h = cc
stays_done base env m (command.Bare bares.Record) k e h = cc
stays_done base env m _ k e h = cc

-- a refusal
stays_refused : (base m : Machine) (r : Refusal) → IsOpen base m → Stays base (refused m r)
stays_refused base m r k = stays_same base m (entry.Error r ∷ []) k (refl, tt)

stays_command : (base : Machine) (env : Environment) (m : Machine) (c : Command) → IsOpen base m → is_ending c ≡ false → Stays base (step env m (item.Do c))
stays_command base env m c k h =
    subst (λ (o : Option Batch). Stays base (option_map_or (refused m) (option_or (batch_refusal o c) rest) (done env m c))) (sym k.stays) (go (is_done_in_batch c) refl)
  where
    rest : Option Refusal
    rest = option_or (name_refusal m c) (later_refusal env.slacks m c)

    by : (o : Option Refusal) → Stays base (done env m c) → Stays base (option_map_or (refused m) o (done env m c))
    by None t = t
    by (Some r) t = stays_refused base m r k

    go : (d : Bool) → is_done_in_batch c ≡ d → Stays base (option_map_or (refused m) (option_or (cond d None (Some refusal.BatchOpen)) rest) (done env m c))
    go true e = by rest (stays_done base env m c k e h)
    go false e = stays_refused base m refusal.BatchOpen k

stays_item : (base : Machine) (env : Environment) (m : Machine) (i : Item) → IsOpen base m → is_end i ≡ false → Stays base (step env m i)
stays_item base env m (item.Do c) k h = stays_command base env m c k h
stays_item base env m (item.Refused r) k h = stays_refused base m r k

stays_items : (base : Machine) (env : Environment) (is : List Item) (m : Machine) → IsOpen base m → AllByRecursion (λ (i : Item). is_end i ≡ false) is →
    IsOpen base (machine_after env m is) × AreUntold env m is
stays_items base env [] m k h = (k, tt)
stays_items base env (i ∷ is) m k h =
    let one : Stays base (step env m i) = stays_item base env m i k h.0 in
    let all = stays_items base env is (step env m i).machine one.0 h.1 in
    (all.0, all_append (λ (e : Entry). is_notice e ≡ false) (step env m i).entries (entries_from env (step env m i).machine is) one.1 all.1)

-- ---- from its beginning

begun_step : (env : Environment) (m : Machine) → m.batch ≡ None → step env m begins ≡ reached (record m { batch = Some [] }) []
begun_step env m none = word_step env m None (command.Bare bares.Begin) none refl refl

begun_open : (env : Environment) (m : Machine) → m.world.told ≡ [] → m.batch ≡ None → Stays m (step env m begins)
begun_open env m quiet none = subst (Stays m) (sym (begun_step env m none)) (
  record { batch = []; stays = refl; quiet = quiet; begun = tt; like = λ n. inl refl; rest = refl },
  tt,
)

-- items from the beginning on
begun_items : (env : Environment) (m : Machine) (is : List Item) → m.world.told ≡ [] → m.batch ≡ None → AllByRecursion (λ (i : Item). is_end i ≡ false) is →
    IsOpen m (machine_after env m (begins ∷ is)) × AreUntold env m (begins ∷ is)
begun_items env m is quiet none h =
    let one : Stays m (step env m begins) = begun_open env m quiet none in
    let all = stays_items m env is (step env m begins).machine one.0 h in
    (all.0, all_append (λ (e : Entry). is_notice e ≡ false) (step env m begins).entries (entries_from env (step env m begins).machine is) one.1 all.1)

pub collects_law : CollectsLaw
collects_law env m is quiet none h =
    let all = begun_items env m is quiet none h in
    let after : World = (machine_after env m (begins ∷ is)).world in
    record {
      batch = all.0.batch;
      stays = all.0.stays;
      begun = all.0.begun;
      rest = all.0.rest;
      others = λ n off. same n all.0.batch off (standing after.signals n) (all.0.like n);
      untold = all.1;
    }
  where
    same : (n : ℕ) (b : Batch) → is_in n (keys_of b) ≡ false → (s : Stands) → IsLike m.world.signals b n s → s ≡ standing m.world.signals n
    same n b off s (inl e) = e
    same n b off s (inr k) = let no : true ≡ false = sym k.0 ∙ off in absurd (cc)

-- ---- to its abort

-- what stands under the name of a cell that has its earlier value back
back_here : (base : Signals) (p : ℕ × Value) (b : Batch) (w : World) → IsBegun base p → IsLike base (p ∷ b) p.0 (standing w.signals p.0) →
    standing (give_back p.0 p.1 w).signals p.0 ≡ standing base p.0
back_here base p b w begun like = by (found like)
  where
    x : Cell
    x = begun.0

    found : IsLike base (p ∷ b) p.0 (standing w.signals p.0) → (u : Value) × (standing w.signals p.0 ≡ IsCell (record x { value = u }))
    found (inl e) = (x.value, e ∙ begun.1)
    found (inr k) = (k.1.0, k.1.1 ∙ ap (revalued k.1.0) begun.1)

    earlier : (v : Value) → v ≡ p.1 → IsCell (record x { value = v }) ≡ standing base p.0
    earlier v e = ap (λ (a : Value). IsCell (record x { value = a })) (e ∙ sym begun.2) ∙ sym begun.1

    by : (u : Value) × (standing w.signals p.0 ≡ IsCell (record x { value = u })) → standing (give_back p.0 p.1 w).signals p.0 ≡ standing base p.0
    by (u, e) = ap (λ (s : Stands). standing (cond (is_other p.1 s) (with_quiet_value p.0 p.1 w) w).signals p.0) e ∙ go (same_value u p.1) refl
      where
        go : (d : Bool) → same_value u p.1 ≡ d → standing (cond (not d) (with_quiet_value p.0 p.1 w) w).signals p.0 ≡ standing base p.0
        go true h = e ∙ earlier u ((same_value-Decides u p.1).0 h)
        go false h =
            standing_set w.signals p.0 p.1 p.0
            ∙ ap (λ (d : Bool). cond d (revalued p.1 (standing w.signals p.0)) (standing w.signals p.0)) (eq-eqb p.0 p.0 refl)
            ∙ ap (revalued p.1) e
            ∙ earlier p.1 refl

-- and under another name
back_other : (p : ℕ × Value) (w : World) (n : ℕ) → (n == p.0) ≡ false → standing (give_back p.0 p.1 w).signals n ≡ standing w.signals n
back_other p w n off = go (is_other p.1 (standing w.signals p.0))
  where
    go : (d : Bool) → standing (cond d (with_quiet_value p.0 p.1 w) w).signals n ≡ standing w.signals n
    go true =
        standing_set w.signals p.0 p.1 n ∙ ap (λ (d : Bool). cond d (revalued p.1 (standing w.signals n)) (standing w.signals n)) off
    go false = refl

abort_back : (base : Signals) (b : Batch) (w : World) → AllByRecursion (IsBegun base) b → ((n : ℕ) → IsLike base b n (standing w.signals n)) →
    (n : ℕ) → standing (abort b w).signals n ≡ standing base n
abort_back base [] w begun like n = none (like n)
  where
    none : IsLike base [] n (standing w.signals n) → standing w.signals n ≡ standing base n
    none (inl e) = e
    none (inr k) = let no : false ≡ true = k.0 in absurd (cc)
abort_back base (p ∷ b) w begun like n = abort_back base b (give_back p.0 p.1 w) begun.1 next n
  where
    next : (m : ℕ) → IsLike base b m (standing (give_back p.0 p.1 w).signals m)
    next m = go (m == p.0) refl
      where
        rest : (m == p.0) ≡ false → IsLike base (p ∷ b) m (standing w.signals m) → IsLike base b m (standing w.signals m)
        rest off (inl e) = inl e
        rest off (inr k) = inr (sym (ap (λ (d : Bool). d || is_in m (keys_of b)) off) ∙ k.0, k.1)

        go : (d : Bool) → (m == p.0) ≡ d → IsLike base b m (standing (give_back p.0 p.1 w).signals m)
        go true same = inl
            (subst (λ (i : ℕ). standing (give_back p.0 p.1 w).signals i ≡ standing base i) (sym (eqb-true m p.0 same))
            (back_here base p b w begun.0 (like p.0)))
        go false off = subst (IsLike base b m) (sym (back_other p w m off)) (rest off (like m))

-- a batch is ended, and all stands as it did
record Left (base m : Machine) : Type 0 where
  signals : (n : ℕ) → standing m.world.signals n ≡ standing base.world.signals n
  rest : rest_of m ≡ rest_of base
  ended : m.batch ≡ None

back_rest : (n : ℕ) (v : Value) (w : World) → unsignalled (give_back n v w) ≡ unsignalled w
back_rest n v w = go (is_other v (standing w.signals n))
  where
    go : (d : Bool) → unsignalled (cond d (with_quiet_value n v w) w) ≡ unsignalled w
    go true = refl
    go false = refl

abort_rest : (b : Batch) (w : World) → unsignalled (abort b w) ≡ unsignalled w
abort_rest [] w = refl
abort_rest (p ∷ b) w = abort_rest b (give_back p.0 p.1 w) ∙ back_rest p.0 p.1 w

aborted : (base : Machine) (env : Environment) (m : Machine) → IsOpen base m →
    Left base (step env m aborts).machine × AllByRecursion (λ (e : Entry). is_notice e ≡ false) (step env m aborts).entries
aborted base env m k = subst (λ (t : Told). Left base t.machine × AllByRecursion (λ (e : Entry). is_notice e ≡ false) t.entries) (sym (abort_law env m k.batch k.quiet k.stays)) (
  record {
    signals = abort_back base.world.signals k.batch m.world k.begun k.like;
    rest = rest_same m m.labels (abort k.batch m.world) None refl (abort_rest k.batch m.world) ∙ k.rest;
    ended = refl;
  },
  tt,
)

to_abort : (base : Machine) (env : Environment) (is : List Item) (m : Machine) → IsOpen base m → AllByRecursion (λ (i : Item). is_end i ≡ false) is →
    Left base (machine_after env m (is ++ aborts ∷ [])) × AreUntold env m (is ++ aborts ∷ [])
to_abort base env [] m k h =
    let end = aborted base env m k in (end.0, all_append (λ (e : Entry). is_notice e ≡ false) (step env m aborts).entries [] end.1 tt)
to_abort base env (i ∷ is) m k h =
    let one : Stays base (step env m i) = stays_item base env m i k h.0 in
    let all = to_abort base env is (step env m i).machine one.0 h.1 in
    (all.0, all_append (λ (e : Entry). is_notice e ≡ false) (step env m i).entries (entries_from env (step env m i).machine (is ++ aborts ∷ [])) one.1 all.1)

pub given_back_law : GivenBackLaw
given_back_law env m is quiet none h =
    let one : Stays m (step env m begins) = begun_open env m quiet none in
    let all = to_abort m env is (step env m begins).machine one.0 h in
    record {
      signals = all.0.signals;
      rest = all.0.rest;
      untold = all_append (λ (e : Entry). is_notice e ≡ false) (step env m begins).entries (entries_from env (step env m begins).machine (is ++ aborts ∷ [])) one.1 all.1;
      ended = all.0.ended;
    }
