-- A follower keeps the pages of a machine through all that is told of them.
use Rattle.std.proofs.Common.{◌≡◌, ℕ, ◌==◌, Bool, true, false, cond, List, [], ◌∷◌, ◌++◌, Option, Some, None, length, refl, sym, ap, subst, ◌∙◌}
use Rattle.std.specs.List.{AllByRecursion}
use Rattle.std.specs.Str.{bytes_eq}
use Rattle.std.proofs.lemmas.Bool.{and_parts}
use Rattle.effect_model.specs.Worlds.{Environment}
use Rattle.page_model.specs.Forest.{Forest}
use Rattle.page_model.specs.Html.{html_of}
use Rattle.page_model.specs.Labels.{Kind}
use Rattle.page_model.specs.Pages.{bare, tree_of}
use Rattle.page_model.specs.Replay.{Op, Answer, Done, Refused, do_op, replay, then_on}
use Rattle.live_cmd.specs.declared.command.Item.{Item}
use Rattle.live_entries.specs.declared.entry.Entry.{Entry}
use Rattle.live_entries.specs.declared.entry.Entry.TheVariants as entry
use Rattle.live_entries.specs.Printed.{lines_of_bytes}
use Rattle.std.specs.Prelude.{codes}
use Rattle.live_model.specs.Machine.{Machine, empty, step}
use Rattle.live_model.specs.Names.{Names, meaning_of}
use Rattle.live_model.specs.Output.{entries_from}
use Rattle.live_model.specs.Pages.{Page}
use Rattle.page_laws.specs.LivePages.{IsLive, KeepsLive, Lead, LiveLaw, ops_of, tree_named}
use Rattle.wire_model.specs.Notes.{Note, mount, op, ready, gone}
use Rattle.wire_model.specs.Following.{Mounted, Taken, follow, is_tree, op_answered, op_taken, page_line, ready_taken, silently, take_note, then_follow, tree_at}
use Rattle.wire_model.specs.Following.{with_tree, without_name}
use Rattle.wire_model.specs.Wired.{Wires, is_listed, is_page_label, mounting, no_wires, page_lines, unlisted, wired_from, with_name}
use Rattle.follow_laws.specs.ToldPages.{AllTell, AreTold, TellsPages, has_page}
use Rattle.follow_laws.specs.Laws.{FollowLaw, IsFollowed, LiftingLaw, SilenceLaw, TellingLaw}
use Rattle.follow_laws.proofs.MountedTrees.{clash, equal, name_kept, name_out, or_bare, or_last, same, tree_behind, tree_kept, tree_now, tree_other, tree_out, tree_put}

-- ---- what a follower has

-- In the midst of what an item tells: its pages are these, and of each name such operations are still to come. They lead from the tree that
-- the follower has, or from the bare page, to the page. What came of a page that lives is mounted.
record Midway (names : Names) (ps : List Page) (left : List ℕ → List Op) (w : Wires) (qs : List Mounted) : Type 0 where
  pub leads : (n : List ℕ) → has_page ps n ≡ true → replay (left n) (tree_now n qs) ≡ Done (tree_named ps n)
  pub there : (n : List ℕ) → has_page ps n ≡ true → is_listed n w.seen ≡ true → is_listed n w.here ≡ true
  pub agree : (n : List ℕ) → is_listed n w.here ≡ is_tree (tree_at n qs)
  pub known : (n : List ℕ) → is_listed n w.here ≡ true → is_listed n w.seen ≡ true
  pub made : (n : List ℕ) → is_listed n w.seen ≡ true → meaning_of names n ≡ None → ⊥

-- the pages' names were made
abbrev AreNamed : Names → List Page → Type 0
AreNamed names ps = (n : List ℕ) → has_page ps n ≡ true → meaning_of names n ≡ None → ⊥

-- the entries are followed from here
abbrev Goes : Wires → List Mounted → List Entry → Type 0
Goes w qs es = IsFollowed (wired_from w es) qs (page_lines es)

-- ---- notes

taken : (x : Note) (xs : List Note) (ps qs : List Mounted) (out lines : List ℕ) → take_note x ps ≡ Some (record { pages = qs; out = out }) →
    IsFollowed xs qs lines → IsFollowed (x ∷ xs) ps (out ++ lines)
taken x xs ps qs out lines e f = record {
  fine = ap (λ (o : Option Taken). (then_follow o ps (follow xs)).refused) e ∙ f.fine;
  printed = ap (λ (o : Option Taken). (then_follow o ps (follow xs)).out) e ∙ ap (λ (l : List ℕ). out ++ l) f.printed;
}

has_tree : (o : Option (Forest Kind)) → is_tree o ≡ true → (t : Forest Kind) × (o ≡ Some t)
has_tree None h = cc
has_tree (Some t) h = (t, refl)

no_tree : (o : Option (Forest Kind)) → is_tree o ≡ false → o ≡ None
no_tree None h = refl
no_tree (Some t) h = cc

-- a new page of a bare tree changes no tree
bare_behind : (n m : List ℕ) (o : Option (Forest Kind)) → or_bare (or_last n (record { name = m; tree = tree_of bare }) o) ≡ or_bare o
bare_behind n m (Some t) = refl
bare_behind n m None = go (bytes_eq n m)
  where
    go : (b : Bool) → or_bare (cond b (Some (tree_of bare)) None) ≡ tree_of bare
    go true = refl
    go false = refl

one_more : (n m : List ℕ) (o : Option (Forest Kind)) → cond (bytes_eq n m) true (is_tree o) ≡ is_tree (or_last n (record { name = m; tree = tree_of bare }) o)
one_more n m (Some t) = go (bytes_eq n m)
  where
    go : (b : Bool) → cond b true true ≡ true
    go true = refl
    go false = refl
one_more n m None = go (bytes_eq n m)
  where
    go : (b : Bool) → cond b true false ≡ is_tree (cond b (Some (tree_of bare)) None)
    go true = refl
    go false = refl

-- what holds of one test holds of the other, where both tests are of one more name
either : (b x y : Bool) → (x ≡ true → y ≡ true) → cond b true x ≡ true → cond b true y ≡ true
either true x y f h = refl
either false x y f h = f h

mount_midway : (names : Names) (ps : List Page) (left : List ℕ → List Op) (w : Wires) (qs : List Mounted) (n : List ℕ) →
    Midway names ps left w qs → (meaning_of names n ≡ None → ⊥) →
    Midway names ps left (record { seen = n ∷ w.seen; here = n ∷ w.here }) (qs ++ record { name = n; tree = tree_of bare } ∷ [])
mount_midway names ps left w qs n h new =
    let p : Mounted = record { name = n; tree = tree_of bare } in
    let tree : (k : List ℕ) → tree_at k (qs ++ p ∷ []) ≡ or_last k p (tree_at k qs) = λ k. tree_behind k qs p in
    record {
      leads = λ k hk. ap (λ (t : Forest Kind). replay (left k) t) (ap or_bare (tree k) ∙ bare_behind k n (tree_at k qs)) ∙ h.leads k hk;
      there = λ k hk. either (bytes_eq k n) (is_listed k w.seen) (is_listed k w.here) (h.there k hk);
      agree = λ k. ap (λ b. cond (bytes_eq k n) true b) (h.agree k) ∙ one_more k n (tree_at k qs) ∙ sym (ap is_tree (tree k));
      known = λ k. either (bytes_eq k n) (is_listed k w.here) (is_listed k w.seen) (h.known k);
      made = λ k. go k (bytes_eq k n) refl;
    }
  where
    go : (k : List ℕ) (b : Bool) → bytes_eq k n ≡ b → cond b true (is_listed k w.seen) ≡ true → meaning_of names k ≡ None → ⊥
    go k true e s u = new (ap (meaning_of names) (sym (equal k n e)) ∙ u)
    go k false e s u = h.made k s u

-- A note of a page that lives comes behind its mount.
first : (names : Names) (ps : List Page) (left : List ℕ → List Op) (w : Wires) (qs : List Mounted) (n : List ℕ) (x : Note) (xs : List Note)
    (lines : List ℕ) → Midway names ps left w qs → has_page ps n ≡ true → (meaning_of names n ≡ None → ⊥) →
    ((rs : List Mounted) (t : Forest Kind) → Midway names ps left (with_name n w) rs → tree_at n rs ≡ Some t → IsFollowed (x ∷ xs) rs lines) →
    IsFollowed ((mounting w n ++ x ∷ []) ++ xs) qs lines
first names ps left w qs n x xs lines h page new more = go (is_listed n w.seen) refl more
  where
    go : (b : Bool) → is_listed n w.seen ≡ b →
        ((rs : List Mounted) (t : Forest Kind) → Midway names ps left (cond b w (record { seen = n ∷ w.seen; here = n ∷ w.here })) rs →
        tree_at n rs ≡ Some t → IsFollowed (x ∷ xs) rs lines) → IsFollowed ((cond b [] (mount n ∷ []) ++ x ∷ []) ++ xs) qs lines
    go true e k =
        let found = has_tree (tree_at n qs) (sym (h.agree n) ∙ h.there n page e) in
        k qs found.0 h found.1
    go false e k =
        let p : Mounted = record { name = n; tree = tree_of bare } in
        let rs : List Mounted = qs ++ p ∷ [] in
        let free : is_tree (tree_at n qs) ≡ false = sym (h.agree n) ∙ unknown (is_listed n w.here) refl e in
        let none : tree_at n qs ≡ None = no_tree (tree_at n qs) free in
        let put : tree_at n rs ≡ Some (tree_of bare) =
        tree_behind n qs p ∙ ap (or_last n p) none ∙ ap (λ b. cond b (Some (tree_of bare)) None) (same n) in
        taken (mount n) (x ∷ xs) qs rs [] lines (ap (λ b. cond b None (silently rs)) free)
        (k rs (tree_of bare) (mount_midway names ps left w qs n h new) put)
      where
        unknown : (b : Bool) → is_listed n w.here ≡ b → is_listed n w.seen ≡ false → is_listed n w.here ≡ false
        unknown true f u = absurd (clash (sym (h.known n f) ∙ u))
        unknown false f u = f

-- ---- operations

answered : (a : Answer) (f : Forest Kind → Answer) (end : Forest Kind) → then_on a f ≡ Done end → (u : Forest Kind) × (a ≡ Done u) × (f u ≡ Done end)
answered (Done u) f end h = (u, refl, h)
answered (Refused why) f end h = cc

done_same : (s t : Forest Kind) → Done s ≡ Done t → s ≡ t
done_same s t h = cc

-- behind an operation on a page
op_midway : (names : Names) (ps : List Page) (n : List ℕ) (o : Op) (es : List Entry) (w : Wires) (qs : List Mounted) (t u : Forest Kind) →
    tree_at n qs ≡ Some t → replay (ops_of n es) u ≡ Done (tree_named ps n) → Midway names ps (λ k. ops_of k (entry.Op n o ∷ es)) w qs →
    Midway names ps (λ k. ops_of k es) w (with_tree n u qs)
op_midway names ps n o es w qs t u at rest h = record {
  leads = λ k hk. leads k (bytes_eq k n) refl (h.leads k hk);
  there = h.there;
  agree = λ k. h.agree k ∙ agree k (bytes_eq k n) refl;
  known = h.known;
  made = h.made;
}
  where
    leads : (k : List ℕ) (b : Bool) → bytes_eq k n ≡ b → replay (cond b (o ∷ []) [] ++ ops_of k es) (tree_now k qs) ≡ Done (tree_named ps k) →
        replay (ops_of k es) (tree_now k (with_tree n u qs)) ≡ Done (tree_named ps k)
    leads k true e r =
        subst (λ (l : List ℕ). replay (ops_of l es) (tree_now l (with_tree n u qs)) ≡ Done (tree_named ps l)) (sym (equal k n e))
        (ap (λ (x : Option (Forest Kind)). replay (ops_of n es) (or_bare x)) (tree_put n u t qs at) ∙ rest)
    leads k false e r = ap (λ (x : Option (Forest Kind)). replay (ops_of k es) (or_bare x)) (tree_other k n u qs e) ∙ r

    agree : (k : List ℕ) (b : Bool) → bytes_eq k n ≡ b → is_tree (tree_at k qs) ≡ is_tree (tree_at k (with_tree n u qs))
    agree k true e =
        subst (λ (l : List ℕ). is_tree (tree_at l qs) ≡ is_tree (tree_at l (with_tree n u qs))) (sym (equal k n e))
        (ap is_tree at ∙ sym (ap is_tree (tree_put n u t qs at)))
    agree k false e = sym (ap is_tree (tree_other k n u qs e))

-- ---- ends

gone_midway : (names : Names) (ps : List Page) (left : List ℕ → List Op) (n : List ℕ) (w : Wires) (qs : List Mounted) → has_page ps n ≡ false →
    Midway names ps left w qs → Midway names ps left (record w { here = unlisted n w.here }) (without_name n qs)
gone_midway names ps left n w qs dead h = record {
  leads = λ k hk. ap (λ (x : Option (Forest Kind)). replay (left k) (or_bare x)) (tree_kept k n qs (lives k (bytes_eq k n) refl hk)) ∙ h.leads k hk;
  there = λ k hk s. name_kept k n w.here (lives k (bytes_eq k n) refl hk) ∙ h.there k hk s;
  agree = λ k. agree k (bytes_eq k n) refl;
  known = λ k. known k (bytes_eq k n) refl;
  made = h.made;
}
  where
    lives : (k : List ℕ) (b : Bool) → bytes_eq k n ≡ b → has_page ps k ≡ true → bytes_eq k n ≡ false
    lives k true e hk = absurd (clash (sym hk ∙ (ap (has_page ps) (equal k n e) ∙ dead)))
    lives k false e hk = e

    agree : (k : List ℕ) (b : Bool) → bytes_eq k n ≡ b → is_listed k (unlisted n w.here) ≡ is_tree (tree_at k (without_name n qs))
    agree k true e =
        subst (λ (l : List ℕ). is_listed l (unlisted n w.here) ≡ is_tree (tree_at l (without_name n qs))) (sym (equal k n e))
        (name_out n w.here ∙ sym (ap is_tree (tree_out n qs)))
    agree k false e = name_kept k n w.here e ∙ h.agree k ∙ sym (ap is_tree (tree_kept k n qs e))

    known : (k : List ℕ) (b : Bool) → bytes_eq k n ≡ b → is_listed k (unlisted n w.here) ≡ true → is_listed k w.seen ≡ true
    known k true e s = absurd (clash (sym s ∙ (ap (λ (l : List ℕ). is_listed l (unlisted n w.here)) (equal k n e) ∙ name_out n w.here)))
    known k false e s = h.known k (sym (name_kept k n w.here e) ∙ s)

-- ---- the entries of an item

goes : (names : Names) (ps : List Page) (es more : List Entry) (w : Wires) (qs : List Mounted) → AreNamed names ps → AreTold ps es →
    Midway names ps (λ n. ops_of n es) w qs → ((v : Wires) (rs : List Mounted) → Midway names ps (λ n. []) v rs → Goes v rs more) →
    Goes w qs (es ++ more)
goes names ps [] more w qs a t h k = k w qs h
goes names ps (entry.Op n o ∷ es) more w qs a t h k =
    first names ps (λ m. ops_of m (entry.Op n o ∷ es)) w qs n (op n o) (wired_from (with_name n w) (es ++ more)) (page_lines (es ++ more)) h t.0 (a n t.0)
    (λ rs u mid at.
    let leads : replay (o ∷ ops_of n es) u ≡ Done (tree_named ps n) =
    subst (λ (b : Bool). replay (cond b (o ∷ []) [] ++ ops_of n es) u ≡ Done (tree_named ps n)) (same n)
    (sym (ap (λ (x : Option (Forest Kind)). replay (ops_of n (entry.Op n o ∷ es)) (or_bare x)) at) ∙ mid.leads n t.0) in
    let found = answered (do_op o u) (replay (ops_of n es)) (tree_named ps n) leads in
    taken (op n o) (wired_from (with_name n w) (es ++ more)) rs (with_tree n found.0 rs) [] (page_lines (es ++ more))
    (ap (op_taken n o rs) at ∙ ap (op_answered n rs) found.1)
    (goes names ps es more (with_name n w) (with_tree n found.0 rs) a t.1
    (op_midway names ps n o es (with_name n w) rs u found.0 at found.2 mid) k))
goes names ps (entry.Page n html ∷ es) more w qs a t h k =
    first names ps (λ m. ops_of m (entry.Page n html ∷ es)) w qs n (ready n) (wired_from (with_name n w) (es ++ more))
    (lines_of_bytes (codes "page ") n html ++ page_lines (es ++ more)) h t.0 (a n t.0)
    (λ rs u mid at.
    let leads : replay [] u ≡ Done (tree_named ps n) =
    subst (λ (os : List Op). replay os u ≡ Done (tree_named ps n)) t.2
    (sym (ap (λ (x : Option (Forest Kind)). replay (ops_of n es) (or_bare x)) at) ∙ mid.leads n t.0) in
    let line : page_line n u ≡ lines_of_bytes (codes "page ") n html =
    ap (λ (v : List ℕ). lines_of_bytes (codes "page ") n v) (ap html_of (done_same u (tree_named ps n) leads) ∙ sym t.1) in
    subst (λ (l : List ℕ). IsFollowed (ready n ∷ wired_from (with_name n w) (es ++ more)) rs (l ++ page_lines (es ++ more))) line
    (taken (ready n) (wired_from (with_name n w) (es ++ more)) rs rs (page_line n u) (page_lines (es ++ more)) (ap (ready_taken n rs) at)
    (goes names ps es more (with_name n w) rs a t.3 mid k)))
goes names ps (entry.Gone l ∷ es) more w qs a t h k = go (is_page_label w l) refl (λ v rs. goes names ps es more v rs a t.1)
  where
    go : (b : Bool) → is_page_label w l ≡ b →
        ((v : Wires) (rs : List Mounted) → Midway names ps (λ n. ops_of n es) v rs →
        ((v : Wires) (rs : List Mounted) → Midway names ps (λ n. []) v rs → Goes v rs more) → Goes v rs (es ++ more)) →
        IsFollowed (cond b (gone l.name ∷ []) [] ++ wired_from (cond b (record w { here = unlisted l.name w.here }) w) (es ++ more)) qs (page_lines (es ++ more))
    go true e rest =
        let both = and_parts (length l.path == 0) (is_listed l.name w.here) e in
        let v : Wires = record w { here = unlisted l.name w.here } in
        let there : is_tree (tree_at l.name qs) ≡ true = sym (h.agree l.name) ∙ both.1 in
        taken (gone l.name) (wired_from v (es ++ more)) qs (without_name l.name qs) [] (page_lines (es ++ more))
        (ap (λ b. cond b (silently (without_name l.name qs)) None) there)
        (rest v (without_name l.name qs) (gone_midway names ps (λ n. ops_of n es) l.name w qs (t.0 both.0) h) k)
    go false e rest = rest w qs h k
goes names ps (_ ∷ es) more w qs a t h k = goes names ps es more w qs a t h k

-- ---- all items

-- what is told of each page is told of its name
by_name : (old ps : List Page) (es : List Entry) →
    AllByRecursion (λ (p : Page). Lead (ops_of p.name es) (tree_named old p.name) (tree_of p.content)) ps → (n : List ℕ) → has_page ps n ≡ true →
    replay (ops_of n es) (tree_named old n) ≡ Done (tree_named ps n)
by_name old [] es h n there = cc
by_name old (p ∷ ps) es h n there = go (bytes_eq n p.name) refl there (by_name old ps es h.1 n)
  where
    go : (b : Bool) → bytes_eq n p.name ≡ b → cond b true (has_page ps n) ≡ true →
        (has_page ps n ≡ true → replay (ops_of n es) (tree_named old n) ≡ Done (tree_named ps n)) →
        replay (ops_of n es) (tree_named old n) ≡ Done (cond b (tree_of p.content) (tree_named ps n))
    go true e k rest =
        subst (λ (m : List ℕ). replay (ops_of m es) (tree_named old m) ≡ Done (tree_of p.content)) (sym (equal n p.name e)) h.0.replayed
    go false e k rest = rest k

-- no page of the name
nobody : (ps : List Page) (n : List ℕ) → has_page ps n ≡ false → tree_named ps n ≡ tree_of bare
nobody [] n h = refl
nobody (p ∷ ps) n h = go (bytes_eq n p.name) h (nobody ps n)
  where
    go : (b : Bool) → cond b true (has_page ps n) ≡ false → (has_page ps n ≡ false → tree_named ps n ≡ tree_of bare) → cond b (tree_of p.content) (tree_named ps n) ≡ tree_of bare
    go true k rest = cc
    go false k rest = rest k

-- from one item to the next
enters : (env : Environment) (m : Machine) (i : Item) (w : Wires) (qs : List Mounted) → KeepsLive env m i → TellsPages env m i →
    Midway m.names m.pages (λ n. []) w qs →
    Midway (step env m i).machine.names (step env m i).machine.pages (λ n. ops_of n (step env m i).entries) w qs
enters env m i w qs l t h = record {
  leads = λ n hn.
      ap (λ (u : Forest Kind). replay (ops_of n (step env m i).entries) u) (tree n (has_page m.pages n) refl hn)
      ∙ by_name m.pages (step env m i).machine.pages (step env m i).entries l.led n hn;
  there = λ n hn s. there n (has_page m.pages n) refl hn s;
  agree = h.agree;
  known = h.known;
  made = λ n s u. h.made n s (t.stay n u);
}
  where
    unseen : (n : List ℕ) (b : Bool) → is_listed n w.here ≡ b → meaning_of m.names n ≡ None → is_tree (tree_at n qs) ≡ false
    unseen n true e u = absurd (h.made n (h.known n e) u)
    unseen n false e u = sym (h.agree n) ∙ e

    tree : (n : List ℕ) (b : Bool) → has_page m.pages n ≡ b → has_page (step env m i).machine.pages n ≡ true → tree_now n qs ≡ tree_named m.pages n
    tree n true e hn = done_same (tree_now n qs) (tree_named m.pages n) (h.leads n e)
    tree n false e hn =
        ap or_bare (no_tree (tree_at n qs) (unseen n (is_listed n w.here) refl (t.fresh n hn e))) ∙ sym (nobody m.pages n e)

    there : (n : List ℕ) (b : Bool) → has_page m.pages n ≡ b → has_page (step env m i).machine.pages n ≡ true → is_listed n w.seen ≡ true →
        is_listed n w.here ≡ true
    there n true e hn s = h.there n e s
    there n false e hn s = absurd (h.made n s (t.fresh n hn e))

items_go : (env : Environment) (is : List Item) (m : Machine) (w : Wires) (qs : List Mounted) → IsLive env m is → AllTell env m is →
    Midway m.names m.pages (λ n. []) w qs → Goes w qs (entries_from env m is)
items_go env [] m w qs l t h = record { fine = refl; printed = refl }
items_go env (i ∷ is) m w qs l t h =
    let n : Machine = (step env m i).machine in
    goes n.names n.pages (step env m i).entries (entries_from env n is) w qs t.0.named t.0.told (enters env m i w qs l.0 t.0 h)
    (λ v rs mid. items_go env is n v rs l.1 t.1 mid)

nothing_yet : (hosts : ℕ) → Midway (empty hosts).names (empty hosts).pages (λ n. []) no_wires []
nothing_yet hosts = record { leads = λ n h. cc; there = λ n h. cc; agree = λ n. refl; known = λ n h. cc; made = λ n h. cc }

pub lifting_law : LiftingLaw
lifting_law env hosts is l t = items_go env is (empty hosts) no_wires [] l t (nothing_yet hosts)

pub follow_law : LiveLaw → TellingLaw → SilenceLaw → FollowLaw
follow_law live tells silent env hosts script is lends h sized =
    lifting_law env hosts is (live env hosts script is lends h sized) (tells env hosts is (silent env hosts is))
