use Rattle.std.proofs.Common.{ap, ◌∷◌, [], ◌++◌, ◌∙◌}
use Rattle.sig_owner.specs.Tables.{held, item_of, items_at, rows_of, thing_at}
use Rattle.sig_owner.specs.Walks.{item_steps, steps_under, undoing_of}
use Rattle.sig_owner.specs.declared.thing.Undoing.TheVariants as undoing
use Rattle.sig_owner.proofs.Walks.{done_rest, done_work, entered_rest, entered_walk, entered_work, known_item, nothing_told, undoing_told}
use Rattle.sig_owner.proofs.walk.Walk.take_one.Goals as goal

pub returns-in_ok-enter-in-Held-clause-walk : goal.returns-in_ok-enter-in-Held-clause-walk
returns-in_ok-enter-in-Held-clause-walk c =
    let rows = rows_of c.args.holders.now.entries in
    let is = known_item (items_at rows c.args.self.now.at) c.args.self.now.left (item_of c.args.made.now) (held c.in-Held.inner) (ap item_of c.in-Held.is) c.requires.item in
    let e = c.in_ok-enter-in-Held.ensures in
    entered_walk rows c.requires.table c.args.self.now c.enter.new.self c.in-Held.inner c.requires.walk c.requires.left is e.at e.left e.pending

pub returns-in_ok-enter-in-Held-clause-goes : goal.returns-in_ok-enter-in-Held-clause-goes
returns-in_ok-enter-in-Held-clause-goes c =
    let rows = rows_of c.args.holders.now.entries in
    let is = known_item (items_at rows c.args.self.now.at) c.args.self.now.left (item_of c.args.made.now) (held c.in-Held.inner) (ap item_of c.in-Held.is) c.requires.item in
    let e = c.in_ok-enter-in-Held.ensures in
    nothing_told rows _ _ _ _ _ _ e.undoings e.ended (entered_rest rows c.requires.table c.args.self.now c.enter.new.self c.in-Held.inner c.requires.left is e.at e.left e.pending)

pub returns-in_ok-enter-in-Held-clause-work : goal.returns-in_ok-enter-in-Held-clause-work
returns-in_ok-enter-in-Held-clause-work c =
    let rows = rows_of c.args.holders.now.entries in
    let is = known_item (items_at rows c.args.self.now.at) c.args.self.now.left (item_of c.args.made.now) (held c.in-Held.inner) (ap item_of c.in-Held.is) c.requires.item in
    let e = c.in_ok-enter-in-Held.ensures in
    entered_work rows c.args.self.now c.enter.new.self (record { holder = c.args.self.now.at; left = c.args.self.now.left; inner = c.in-Held.inner }) _
    (entered_rest rows c.requires.table c.args.self.now c.enter.new.self c.in-Held.inner c.requires.left is e.at e.left e.pending) e.pending

pub returns-in_ok-push-in-Leaf-clause-goes : goal.returns-in_ok-push-in-Leaf-clause-goes
returns-in_ok-push-in-Leaf-clause-goes c =
    let rows = rows_of c.args.holders.now.entries in
    let w = c.args.self.now in
    let u = undoing.Gone c.in-Leaf.thing in
    let step = ap (λ m. item_steps (thing_at rows) (steps_under rows) w.at (item_of m)) c.in-Leaf.is in
    undoing_told rows w.undoings.items c.push.new.self.items w.ended.items u _ _ c.in_ok-push-in-Leaf.ensures.items
    (done_rest rows w (undoing_of (thing_at rows) u) (item_of c.args.made.now) c.requires.left c.requires.item step)

pub returns-in_ok-push-in-Leaf-clause-work : goal.returns-in_ok-push-in-Leaf-clause-work
returns-in_ok-push-in-Leaf-clause-work c =
    let rows = rows_of c.args.holders.now.entries in
    let w = c.args.self.now in
    let u = undoing_of (thing_at rows) (undoing.Gone c.in-Leaf.thing) in
    let step = ap (λ m. item_steps (thing_at rows) (steps_under rows) w.at (item_of m)) c.in-Leaf.is in
    done_work rows w u _ (done_rest rows w u (item_of c.args.made.now) c.requires.left c.requires.item step)

pub returns-in_ok-push-in-Cleanup-clause-goes : goal.returns-in_ok-push-in-Cleanup-clause-goes
returns-in_ok-push-in-Cleanup-clause-goes c =
    let rows = rows_of c.args.holders.now.entries in
    let w = c.args.self.now in
    let u = undoing.Cleanup w.at c.in-Cleanup.cleanup in
    let step = ap (λ m. item_steps (thing_at rows) (steps_under rows) w.at (item_of m)) c.in-Cleanup.is in
    undoing_told rows w.undoings.items c.push-in-Cleanup.new.self.items w.ended.items u _ _
    (c.in_ok-push-in-Cleanup.ensures.items ∙ ap (λ a. w.undoings.items ++ undoing.Cleanup w.at a ∷ []) c.in_ok-copy-in-Cleanup.ensures)
    (done_rest rows w (undoing_of (thing_at rows) u) (item_of c.args.made.now) c.requires.left c.requires.item step)

pub returns-in_ok-push-in-Cleanup-clause-work : goal.returns-in_ok-push-in-Cleanup-clause-work
returns-in_ok-push-in-Cleanup-clause-work c =
    let rows = rows_of c.args.holders.now.entries in
    let w = c.args.self.now in
    let u = undoing_of (thing_at rows) (undoing.Cleanup w.at c.in-Cleanup.cleanup) in
    let step = ap (λ m. item_steps (thing_at rows) (steps_under rows) w.at (item_of m)) c.in-Cleanup.is in
    done_work rows w u _ (done_rest rows w u (item_of c.args.made.now) c.requires.left c.requires.item step)
