-- An open batch has room for each signal that stands.
use Rattle.std.proofs.Common.{◌≡◌, ◌≤◌, ◌<◌, ◌+◌, ◌==◌, ◌||◌, ◌⊎◌, inl, inr, ℕ, arith, Bool, true, false, cond, List, [], ◌∷◌, ◌++◌, length, map, Option, Some, None, refl, sym, ap, subst, ◌∙◌}
use Rattle.std.specs.Prelude.{nat_eq}
use Rattle.std.specs.Option.{option_map_or}
use Rattle.std.specs.List.{IsDistinct, list_any}
use Rattle.std.specs.Map.{keys_of}
use Rattle.std.proofs.lemmas.Bool.{eqb-true}
use Rattle.std.proofs.lemmas.Cmp.{nat_eq_equiv}
use Rattle.std.proofs.lemmas.List.{length-append, length-map}
use Rattle.std.proofs.lemmas.List.Folds.{list_any-append}
use Rattle.std.proofs.lemmas.Map.Keys.{IsDistinct-push}
use Rattle.std.proofs.lemmas.Map.Made.{length-le_from_is_member}
use Rattle.sig_base.specs.declared.value.Value.{Value}
use Rattle.signal_model.specs.Signals.{Signals, Cell, Computed, Stands, IsGone, IsCell, IsComputed, cell_at, changed, computed_at, is_in, is_there, or_computed, or_gone, standing}
use Rattle.signal_model.specs.Changes.{live_count, with_value}
use Rattle.signal_laws.proofs.Shared.{set_kind}
use Rattle.signal_model.specs.Recipes.{Hosts}
use Rattle.effect_model.specs.Acts.{set_cell}
use Rattle.effect_model.specs.Batches.{Batch, abort, commit, joined_by, joined_replaced, replaced_by, set_quietly, with_replacing}
use Rattle.effect_model.specs.Worlds as plain
use Rattle.effect_model.specs.Worlds.{at_rest}
use Rattle.sig_host.specs.Hosts.{HostPlace}
use Rattle.sig_state.specs.Batches.{Collected, HasRoom}
use Rattle.sig_effect.specs.Kinds.{AreKindsOf, KeepsKinds}
use Rattle.effect_world.specs.declared.world.World.{World}
use Rattle.effect_world.specs.Wholes.{whole_of}
use Rattle.live_cmd.specs.declared.command.Command.{Command}
use Rattle.live_entries.specs.declared.entry.Entry.{Entry}
use Rattle.live_entries.specs.declared.refusal.Refusal.TheVariants as refusal
use Rattle.why_model.specs.Records.{Journal}
use Rattle.live_model.specs.Machine.{Told, aborting, acted, batch_refusal, committing, is_done_in_batch, reached, setting, setting_by}
use Rattle.live_labels.specs.declared.labels.Labels.{Labels}
use Rattle.live_core.specs.declared.machine.Machine.{Machine}
use Rattle.live_core.specs.Consistency.{HasRoomyBatch, IsReady, IsRoomy, Steps}
use Rattle.live_core.specs.Views.{batch_of, plain_of}
use Rattle.live_core.proofs.Commands.{with_world, Stays}

-- ---- names of signals

-- a number is found where it is
found_in : (n : ℕ) (ns : List ℕ) → list_any (nat_eq n) ns ≡ is_in n ns
found_in n [] = refl
found_in n (m ∷ ns) = ap (λ b. (n == m) || b) (found_in n ns)

-- the names of all that stands
abbrev names_in : Signals → List ℕ
names_in w = map (λ (c : Cell). c.name) w.cells ++ map (λ (c : Computed). c.name) w.computeds

-- are as many as that
count_in : (w : Signals) → length (names_in w) ≡ live_count w
count_in w =
    let a = length-append (map (λ (c : Cell). c.name) w.cells) (map (λ (c : Computed). c.name) w.computeds) in
    let b = length-map w.cells (λ (c : Cell). c.name) in
    let d = length-map w.computeds (λ (c : Computed). c.name) in
    omega (arith, a, b, d)

-- what stands is among them
computed_in : (n : ℕ) (cs : List Computed) → is_there (or_gone (computed_at n cs)) ≡ true → list_any (nat_eq n) (map (λ (c : Computed). c.name) cs) ≡ true
computed_in n [] h = cc
computed_in n (c ∷ cs) h = at (n == c.name) h (computed_in n cs)
  where
    at : (b : Bool) → is_there (or_gone (cond b (Some c) (computed_at n cs))) ≡ true →
        (is_there (or_gone (computed_at n cs)) ≡ true → list_any (nat_eq n) (map (λ (d : Computed). d.name) cs) ≡ true) →
        (b || list_any (nat_eq n) (map (λ (d : Computed). d.name) cs)) ≡ true
    at true e more = refl
    at false e more = more e

cell_in : (n : ℕ) (cs : List Cell) (o : Option Computed) (rest : List ℕ) → (is_there (or_gone o) ≡ true → list_any (nat_eq n) rest ≡ true) →
    is_there (or_computed (cell_at n cs) o) ≡ true → list_any (nat_eq n) (map (λ (c : Cell). c.name) cs ++ rest) ≡ true
cell_in n [] o rest more h = more h
cell_in n (c ∷ cs) o rest more h = at (n == c.name) h (cell_in n cs o rest more)
  where
    at : (b : Bool) → is_there (or_computed (cond b (Some c) (cell_at n cs)) o) ≡ true →
        (is_there (or_computed (cell_at n cs) o) ≡ true → list_any (nat_eq n) (map (λ (d : Cell). d.name) cs ++ rest) ≡ true) →
        (b || list_any (nat_eq n) (map (λ (d : Cell). d.name) cs ++ rest)) ≡ true
    at true e next = refl
    at false e next = next e

there_in : (w : Signals) (n : ℕ) → is_there (standing w n) ≡ true → list_any (nat_eq n) (names_in w) ≡ true
there_in w n h = cell_in n w.cells (computed_at n w.computeds) (map (λ (c : Computed). c.name) w.computeds) (computed_in n w.computeds) h

-- so distinct names of what stands are no more
few_there : (w : Signals) (ns : List ℕ) → IsDistinct nat_eq ns → ((n : ℕ) → list_any (nat_eq n) ns ≡ true → is_there (standing w n) ≡ true) → length ns ≤ live_count w
few_there w ns apart there =
    let few = length-le_from_is_member nat_eq_equiv ns (names_in w) apart (λ q h. there_in w q (there q h)) in
    let all = count_in w in
    omega (arith, few, all)

-- ---- room

-- the keys of a batch with one more
keys_more : (b : Batch) (n : ℕ) (v : Value) → keys_of (b ++ (n, v) ∷ []) ≡ keys_of b ++ n ∷ []
keys_more [] n v = refl
keys_more (p ∷ b) n v = ap (λ (ns : List ℕ). p.0 ∷ ns) (keys_more b n v)

-- one more is apart from the others
apart_more : (ns : List ℕ) (n : ℕ) → IsDistinct nat_eq ns → is_in n ns ≡ false → IsDistinct nat_eq (ns ++ n ∷ [])
apart_more ns n apart off = IsDistinct-push nat_eq_equiv ns n apart (found_in n ns ∙ off)

-- and stands, where they do
there_more : (w : Signals) (ns : List ℕ) (n : ℕ) → ((m : ℕ) → is_in m ns ≡ true → is_there (standing w m) ≡ true) → is_there (standing w n) ≡ true →
    (m : ℕ) → list_any (nat_eq m) (ns ++ n ∷ []) ≡ true → is_there (standing w m) ≡ true
there_more w ns n each there m h = at (list_any (nat_eq m) ns) (m == n) refl refl (sym (list_any-append (nat_eq m) ns (n ∷ [])) ∙ h)
  where
    at : (a b : Bool) → list_any (nat_eq m) ns ≡ a → (m == n) ≡ b → (a || (b || false)) ≡ true → is_there (standing w m) ≡ true
    at true b e f g = each m (sym (found_in m ns) ∙ e)
    at false true e f g = ap (λ k. is_there (standing w k)) (eqb-true m n f) ∙ there
    at false false e f g = absurd cc

-- there is room for a signal that stands
pub has_room : (w : Signals) (n : ℕ) (b : Collected) → IsRoomy w b → is_there (standing w n) ≡ true → HasRoom n b
has_room w n b r there = at (is_in n (keys_of b.changed)) refl
  where
    at : (t : Bool) → is_in n (keys_of b.changed) ≡ t → HasRoom n b
    at true e = inl e
    at false e =
        let few = few_there w (keys_of b.changed ++ n ∷ []) (apart_more (keys_of b.changed) n r.distinct e) (there_more w (keys_of b.changed) n r.there there) in
        let more = length-append (keys_of b.changed) (n ∷ []) in
        let same = length-map b.changed (λ (p : ℕ × Value). p.0) in
        let room = r.room in
        inr (omega (arith, few, more, same, room))

-- ---- what is done keeps the room

-- signals that stand as before are as many
pub roomy_same : (v w : Signals) (o : Option Collected) → w ≡ v → HasRoomyBatch v o → HasRoomyBatch w o
roomy_same v w o e h = subst (λ (s : Signals). HasRoomyBatch s o) (sym e) h

-- no batch needs none
pub roomy_none : (w : Signals) (o : Option Collected) → o ≡ None → HasRoomyBatch w o
roomy_none w o e = subst (HasRoomyBatch w) (sym e) tt

-- a batch that was opened has it
pub roomy_new : (w : Signals) (b : Collected) → b.changed ≡ [] → live_count w ≤ b.spare → IsRoomy w b
unfolding IsDistinct
roomy_new w b none room = record {
  distinct = subst (λ (c : Batch). IsDistinct nat_eq (keys_of c)) (sym none) tt;
  there = λ n h. let e = ap (λ (c : Batch). is_in n (keys_of c)) none in let no : false ≡ true = sym e ∙ h in absurd cc;
  room = omega (arith, room);
}

-- a set changes none of what stands where, nor how many do
count_changed : (n : ℕ) (v : Value) (w : Signals) → live_count (with_value w n v) ≡ live_count w
count_changed n v w = go w.cells
  where
    go : (cs : List Cell) → length (changed (λ (c : Cell). c.name) n (λ c. record c { value = v }) cs) + length w.computeds ≡ length cs + length w.computeds
    go [] = refl
    go (c ∷ cs) = let more = go cs in omega (arith, more)

-- the signals after a set in a batch
record IsAsMany (v w : Signals) : Type 0 where
  there : (n : ℕ) → is_there (standing w n) ≡ is_there (standing v n)
  count : live_count w ≡ live_count v

replaced_many : (n : ℕ) (v : Value) (o : Option Value) (w : plain.World) → IsAsMany w.signals (with_replacing n v o w).signals
replaced_many n v None w = record { there = λ m. refl; count = refl }
replaced_many n v (Some before) w = record { there = λ m. sym (set_kind w.signals n v m).there; count = count_changed n v w.signals }

set_many : (env : plain.Environment) (n : ℕ) (v : Value) (w : plain.World) → IsAsMany w.signals (set_quietly env n v w).signals
set_many env n v w = replaced_many n v (replaced_by env.slacks (standing w.signals n) v) w

-- a batch that a cell joins has room
joined_roomy : (v w : Signals) (n : ℕ) (o : Option Value) (b c : Collected) → IsAsMany v w → is_there (standing v n) ≡ true → IsRoomy v b →
    c.changed ≡ joined_replaced n o b.changed → length c.changed + c.spare ≡ length b.changed + b.spare → IsRoomy w c
joined_roomy v w n o b c many there r is room = record {
  distinct = subst (λ (x : Batch). IsDistinct nat_eq (keys_of x)) (sym is) (apart o);
  there = λ m h. many.there m ∙ stands o m (sym (ap (λ (x : Batch). is_in m (keys_of x)) is) ∙ h);
  room = let a = r.room in let d = many.count in omega (arith, a, d, room);
}
  where
    ks : List ℕ
    ks = keys_of b.changed

    apart_if : (before : Value) (t : Bool) → is_in n ks ≡ t → IsDistinct nat_eq (keys_of (cond t b.changed (b.changed ++ (n, before) ∷ [])))
    apart_if before true e = r.distinct
    apart_if before false e = subst (IsDistinct nat_eq) (sym (keys_more b.changed n before)) (apart_more ks n r.distinct e)

    apart : (x : Option Value) → IsDistinct nat_eq (keys_of (joined_replaced n x b.changed))
    apart None = r.distinct
    apart (Some before) = apart_if before (is_in n ks) refl

    stands_if : (before : Value) (t : Bool) (m : ℕ) → is_in m (keys_of (cond t b.changed (b.changed ++ (n, before) ∷ []))) ≡ true → is_there (standing v m) ≡ true
    stands_if before true m h = r.there m h
    stands_if before false m h =
        there_more v ks n r.there there m (found_in m (ks ++ n ∷ []) ∙ sym (ap (is_in m) (keys_more b.changed n before)) ∙ h)

    stands : (x : Option Value) (m : ℕ) → is_in m (keys_of (joined_replaced n x b.changed)) ≡ true → is_there (standing v m) ≡ true
    stands None m h = r.there m h
    stands (Some before) m h = stands_if before (is_in n ks) m h

pub set_kept : (env : plain.Environment) (x : plain.World) (w : Signals) (n : ℕ) (v : Value) (b c : Collected) → w ≡ (set_quietly env n v x).signals →
    is_there (standing x.signals n) ≡ true → IsRoomy x.signals b → c.changed ≡ joined_by env.slacks (standing x.signals n) n v b.changed →
    length c.changed + c.spare ≡ length b.changed + b.spare → IsRoomy w c
set_kept env x w n v b c signals there r is room =
    joined_roomy x.signals w n (replaced_by env.slacks (standing x.signals n) v) b c (subst (IsAsMany x.signals) (sym signals) (set_many env n v x)) there r is room

-- the batch that is open has room
pub open_roomy : (w : Signals) (o : Option Collected) (b : Collected) → o ≡ Some b → HasRoomyBatch w o → IsRoomy w b
open_roomy w o b is h = subst (HasRoomyBatch w) is h

-- ---- which commands are done in one

-- no batch is open where what isn't done in one isn't refused
pub alone_by : (o : Option Collected) (c : Command) → is_done_in_batch c ≡ false → batch_refusal (batch_of o) c ≡ None → o ≡ None
alone_by None c off e = refl
alone_by (Some b) c off e = let f = sym (ap (λ t. cond t None (Some refusal.BatchOpen)) off) ∙ e in absurd cc

-- ---- what a set comes to

-- the cell and the value in other words
pub setting_as : (hosts : Hosts) (env : plain.Environment) (asked : List HostPlace) (m new : Machine) (es : List Entry) (n k : ℕ) (v x : Value) → n ≡ k → v ≡ x →
    Steps hosts asked new es (setting env (plain_of asked m) n v) → Steps hosts asked new es (setting env (plain_of asked m) k x)
setting_as hosts env asked m new es n k v x same is s =
    subst (λ (t : Told). Steps hosts asked new es t) (λ i. setting env (plain_of asked m) (same i) (is i)) s

-- no batch is open
pub alone_steps : (hosts : Hosts) (env : plain.Environment) (asked : List HostPlace) (m new : Machine) (es : List Entry) (n : ℕ) (v : Value) → m.batch ≡ None →
    Steps hosts asked new es (acted (plain_of asked m) (set_cell env n v (whole_of asked m.world))) → Steps hosts asked new es (setting env (plain_of asked m) n v)
alone_steps hosts env asked m new es n v alone s =
    subst (λ (o : Option Collected). Steps hosts asked new es (setting_by env (plain_of asked m) (batch_of o) n v)) (sym alone) s

-- an act was done, and another batch is open afterwards
pub rebatched : (hosts : Hosts) (asked : List HostPlace) (m : Machine) (w : World) (l : Labels) (j : Option Journal) (o : Option Collected) (es : List Entry) (x : plain.World) →
    Steps hosts asked (with_world m w l j) es (acted (plain_of asked m) x) →
    Steps hosts asked (record (with_world m w l j) { batch = o }) es (acted (record (plain_of asked m) { batch = batch_of o }) x)
rebatched hosts asked m w l j o es x s = record {
  step = ap (λ (t : Told). reached (record (t.machine) { batch = batch_of o }) t.entries) s.step;
  sound = s.sound;
}

-- a batch is open, which the cell joins
pub batched_steps : (hosts : Hosts) (env : plain.Environment) (asked : List HostPlace) (m : Machine) (w : World) (l : Labels) (j : Option Journal) (es : List Entry) (n : ℕ) (v : Value) (b c : Collected) →
    m.batch ≡ Some b → c.changed ≡ joined_by env.slacks (standing m.world.graph.state.signals n) n v b.changed →
    Steps hosts asked (with_world m w l j) es (acted (plain_of asked m) (set_quietly env n v (whole_of asked m.world))) →
    Steps hosts asked (record (with_world m w l j) { batch = Some c }) es (setting env (plain_of asked m) n v)
batched_steps hosts env asked m w l j es n v b c found is s =
    subst (λ (t : Told). Steps hosts asked (record (with_world m w l j) { batch = Some c }) es t)
    ((λ i. acted (record (plain_of asked m) { batch = Some (is i) }) (set_quietly env n v (whole_of asked m.world)))
    ∙ ap (λ (o : Option Collected). setting_by env (plain_of asked m) (batch_of o) n v) (sym found))
    (rebatched hosts asked m w l j (Some c) es (set_quietly env n v (whole_of asked m.world)) s)

-- the batch that was open is committed
pub committed_steps : (hosts : Hosts) (env : plain.Environment) (asked : List HostPlace) (m : Machine) (w : World) (l : Labels) (j : Option Journal) (o before : Option Collected) (es : List Entry) (b : Collected) →
    before ≡ m.batch → before ≡ Some b → o ≡ None → Steps hosts asked (with_world m w l j) es (acted (plain_of asked m) (commit env b.changed (whole_of asked m.world))) →
    Steps hosts asked (record (with_world m w l j) { batch = o }) es (committing env (plain_of asked m) (batch_of m.batch))
committed_steps hosts env asked m w l j o before es b was found over s =
    subst (λ (t : Told). Steps hosts asked (record (with_world m w l j) { batch = o }) es t)
    ((λ i. acted (record (plain_of asked m) { batch = batch_of (over i) }) (commit env b.changed (whole_of asked m.world)))
    ∙ ap (λ (x : Option Collected). committing env (plain_of asked m) (batch_of x)) (sym found ∙ was))
    (rebatched hosts asked m w l j o es (commit env b.changed (whole_of asked m.world)) s)

-- or it is aborted
pub aborted_steps : (hosts : Hosts) (asked : List HostPlace) (m : Machine) (w : World) (l : Labels) (j : Option Journal) (o before : Option Collected) (es : List Entry) (b : Collected) →
    before ≡ m.batch → before ≡ Some b → o ≡ None → Steps hosts asked (with_world m w l j) es (acted (plain_of asked m) (abort b.changed (whole_of asked m.world))) →
    Steps hosts asked (record (with_world m w l j) { batch = o }) es (aborting (plain_of asked m) (batch_of m.batch))
aborted_steps hosts asked m w l j o before es b was found over s =
    subst (λ (t : Told). Steps hosts asked (record (with_world m w l j) { batch = o }) es t)
    ((λ i. acted (record (plain_of asked m) { batch = batch_of (over i) }) (abort b.changed (whole_of asked m.world)))
    ∙ ap (λ (x : Option Collected). aborting (plain_of asked m) (batch_of x)) (sym found ∙ was))
    (rebatched hosts asked m w l j o es (abort b.changed (whole_of asked m.world)) s)

-- ---- what is left

-- an act on signals that makes nothing
pub stays_quiet : (asked : List HostPlace) (v w : World) (act : plain.World → plain.World) → whole_of asked w ≡ at_rest (act (whole_of asked v)) → KeepsKinds act →
    w.graph.given ≡ v.graph.given → w.watchers.made ≡ v.watchers.made → w.tables ≡ v.tables → Stays v w
stays_quiet asked v w act whole kinds given made tables = record {
  given = given;
  watchers = made;
  pages = ap (λ t. t.pages_made) tables;
  kinds = subst (AreKindsOf v.graph.state.signals) (sym (ap (λ (x : plain.World). x.signals) whole)) (kinds.kept (whole_of asked v));
}

-- a machine whose batch alone is another
pub ready_batched : (m : Machine) (o : Option Collected) → IsReady m → HasRoomyBatch m.world.graph.state.signals o → IsReady (record m { batch = o })
ready_batched m o r h = record {
  watchers = r.watchers;
  paged = r.paged;
  meant = r.meant;
  templates = r.templates;
  handled = r.handled;
  shown = r.shown;
  pages = r.pages;
  batch = h;
}
