-- How a list of parts changes where one node does.
use Rattle.std.proofs.Common.{◌≡◌, ℕ, zero, suc, ◌+◌, ◌<◌, ◌==◌, ◌≢◌, Bool, true, false, cond, List, [], ◌∷◌, ◌++◌, length, map, Option, Some, None, refl, sym, ap, ◌∙◌, arith, if◌then◌else◌, append_assoc, append-nil}
use Rattle.std.specs.Prelude.{slice_get}
use Rattle.std.specs.List.{AllByRecursion}
use Rattle.std.proofs.lemmas.Bool.{eq-eqb}
use Rattle.std.proofs.lemmas.Bool.Decides.{nat_tests}
use Rattle.sig_base.specs.declared.value.Known.{Known}
use Rattle.signal_model.specs.Signals.{Cell, Computed, changed, without, cell_at, computed_at, or_computed, standing}
use Rattle.signal_model.specs.Memos.{Entry, entry_at, memo_in, memo_of, number_in, number_of}
use Rattle.sig_nodes.specs.declared.node.Node.{Node}
use Rattle.sig_nodes.specs.declared.node.Body.{Body}
use Rattle.sig_nodes.specs.declared.node.Body.TheVariants.{Gone, Cell as CellBody, Computed as ComputedBody}
use Rattle.sig_graph.specs.States.{Progress, progress_at}
use Rattle.sig_graph.specs.Parts.{parts, cell_part, computed_part, entry_part, progress_part, entry_of, cells_of, computeds_of, entries_of, progress_of, signals_of, memos_of}
use Rattle.sig_nodes.specs.Nodes.{body_at, change_at, changed_at, number_at, number_body, memo_body, known_body, stands_of}

pub parts-push : {A : Type 0} (f : ℕ → Node → List A) (n : ℕ) (xs : List Node) (y : Node) → parts f n (xs ++ y ∷ []) ≡ parts f n xs ++ f (n + length xs) y
parts-push f n [] y = let e : n + 0 ≡ n = omega arith in rw e (append-nil _)
parts-push f n (x ∷ xs) y =
    let e : n + 1 + length xs ≡ n + suc (length xs) = omega arith in
    ap (λ r. f n x ++ r) (parts-push f (n + 1) xs y) ∙ rw e (sym (append_assoc (f n x) (parts f (n + 1) xs) (f (n + suc (length xs)) y)))

-- a node changes, and its part doesn't
pub parts-same : {A : Type 0} (f : ℕ → Node → List A) (n i : ℕ) (g : Node → Node) (xs : List Node) → ((x : Node) → slice_get xs i ≡ Some x → f (n + i) (g x) ≡ f (n + i) x) →
    parts f n (changed_at g i xs) ≡ parts f n xs
parts-same f n i g [] h = refl
parts-same f n zero g (z ∷ zs) h = let k : n + 0 ≡ n = omega arith in ap (λ r. r ++ parts f (n + 1) zs) (rw k at (h z refl))
parts-same f n (suc i) g (z ∷ zs) h =
    let k : n + suc i ≡ n + 1 + i = omega arith in
    ap (λ r. f n z ++ r) (parts-same f (n + 1) i g zs (λ x e. rw k at (h x e)))

changed-append : {A : Type 0} (name : A → ℕ) (m : ℕ) (g : A → A) (xs ys : List A) → changed name m g (xs ++ ys) ≡ changed name m g xs ++ changed name m g ys
changed-append name m g [] ys = refl
changed-append name m g (x ∷ xs) ys = ap (λ r. (if m == name x then g x else x) ∷ r) (changed-append name m g xs ys)

changed-here : {A : Type 0} (name : A → ℕ) (m : ℕ) (g : A → A) (xs : List A) → AllByRecursion (λ a. name a ≡ m) xs → changed name m g xs ≡ map g xs
changed-here name m g [] h = refl
changed-here name m g (x ∷ xs) h =
    let e : (m == name x) ≡ true = eq-eqb m (name x) (sym h.0) in
    rw (e, changed-here name m g xs h.1) refl

changed-off : {A : Type 0} (name : A → ℕ) (m k : ℕ) (g : A → A) (xs : List A) → m ≢ k → AllByRecursion (λ a. name a ≡ k) xs → changed name m g xs ≡ xs
changed-off name m k g [] ne h = refl
changed-off name m k g (x ∷ xs) ne h =
    let e : (m == name x) ≡ false = grind (arith, nat_tests, h.0) in
    rw (e, changed-off name m k g xs ne h.1) refl

-- each part has its place as its name
pub record AreNamed {A : Type 0} (name : A → ℕ) (f : ℕ → Node → List A) : Type 0 where
  pub named : (k : ℕ) (x : Node) → AllByRecursion (λ a. name a ≡ k) (f k x)

changed-later : {A : Type 0} (name : A → ℕ) (f : ℕ → Node → List A) (m n : ℕ) (g : A → A) (xs : List Node) → AreNamed name f → m < n →
    changed name m g (parts f n xs) ≡ parts f n xs
changed-later name f m n g [] a lt = refl
changed-later name f m n g (x ∷ xs) a lt =
    let ne : m ≢ n = omega arith in
    let more : m < n + 1 = omega arith in
    changed-append name m g (f n x) (parts f (n + 1) xs)
    ∙ ap (λ r. r ++ changed name m g (parts f (n + 1) xs)) (changed-off name m n g (f n x) ne (a.named n x))
    ∙ ap (λ r. f n x ++ r) (changed-later name f m (n + 1) g xs a more)

-- a node changes, and its part by h
pub parts-changed : {A : Type 0} (name : A → ℕ) (f : ℕ → Node → List A) (n i : ℕ) (g : Node → Node) (h : A → A) (xs : List Node) → AreNamed name f →
    ((x : Node) → slice_get xs i ≡ Some x → f (n + i) (g x) ≡ map h (f (n + i) x)) → parts f n (changed_at g i xs) ≡ changed name (n + i) h (parts f n xs)
parts-changed name f n i g h [] a e = refl
parts-changed name f n zero g h (z ∷ zs) a e =
    let k : n + 0 ≡ n = omega arith in
    let lt : n < n + 1 = omega arith in
    rw k (ap (λ r. r ++ parts f (n + 1) zs) (rw k at (e z refl))
    ∙ sym (changed-append name n h (f n z) (parts f (n + 1) zs)
    ∙ ap (λ r. r ++ changed name n h (parts f (n + 1) zs)) (changed-here name n h (f n z) (a.named n z))
    ∙ ap (λ r. map h (f n z) ++ r) (changed-later name f n (n + 1) h zs a lt)))
parts-changed name f n (suc i) g h (z ∷ zs) a e =
    let k : n + suc i ≡ n + 1 + i = omega arith in
    let ne : n + 1 + i ≢ n = omega arith in
    rw k (ap (λ r. f n z ++ r) (parts-changed name f (n + 1) i g h zs a (λ x q. rw k at (e x q)))
    ∙ sym (changed-append name (n + 1 + i) h (f n z) (parts f (n + 1) zs)
    ∙ ap (λ r. r ++ changed name (n + 1 + i) h (parts f (n + 1) zs)) (changed-off name (n + 1 + i) n h (f n z) ne (a.named n z))))

-- ---- what is found under a name

abbrev pub at : {A : Type 0} → (A → ℕ) → ℕ → List A → Option A
at name n [] = None
at name n (x ∷ xs) = if n == name x then Some x else at name n xs

at-off : {A : Type 0} (name : A → ℕ) (m k : ℕ) (xs ys : List A) → m ≢ k → AllByRecursion (λ a. name a ≡ k) xs → at name m (xs ++ ys) ≡ at name m ys
at-off name m k [] ys ne h = refl
at-off name m k (x ∷ xs) ys ne h = let e : (m == name x) ≡ false = grind (arith, nat_tests, h.0) in rw (e, at-off name m k xs ys ne h.1) refl

at-later : {A : Type 0} (name : A → ℕ) (f : ℕ → Node → List A) (m n : ℕ) (xs : List Node) → AreNamed name f → m < n → at name m (parts f n xs) ≡ None
at-later name f m n [] a lt = refl
at-later name f m n (x ∷ xs) a lt =
    let ne : m ≢ n = omega arith in
    let more : m < n + 1 = omega arith in
    at-off name m n (f n x) (parts f (n + 1) xs) ne (a.named n x) ∙ at-later name f m (n + 1) xs a more

at-first : {A : Type 0} (name : A → ℕ) (m : ℕ) (xs ys : List A) → at name m ys ≡ None → at name m (xs ++ ys) ≡ at name m xs
at-first name m [] ys h = h
at-first name m (x ∷ xs) ys h = ap (λ r. cond (m == name x) (Some x) r) (at-first name m xs ys h)

-- the part of the node at a place, where there is one
abbrev pub part_at : {A : Type 0} → (ℕ → Node → List A) → ℕ → List Node → ℕ → List A
part_at f k [] i = []
part_at f k (x ∷ xs) zero = f k x
part_at f k (x ∷ xs) (suc i) = part_at f (k + 1) xs i

pub at-parts : {A : Type 0} (name : A → ℕ) (f : ℕ → Node → List A) (k i : ℕ) (xs : List Node) → AreNamed name f → at name (k + i) (parts f k xs) ≡ at name (k + i) (part_at f k xs i)
at-parts name f k i [] a = refl
at-parts name f k zero (x ∷ xs) a =
    let e : k + 0 ≡ k = omega arith in
    let lt : k < k + 1 = omega arith in
    rw e (at-first name k (f k x) (parts f (k + 1) xs) (at-later name f k (k + 1) xs a lt))
at-parts name f k (suc i) (x ∷ xs) a =
    let e : k + suc i ≡ k + 1 + i = omega arith in
    let ne : k + 1 + i ≢ k = omega arith in
    rw e (at-off name (k + 1 + i) k (f k x) (parts f (k + 1) xs) ne (a.named k x) ∙ at-parts name f (k + 1) i xs a)

pub cell-at : (n : ℕ) (cs : List Cell) → cell_at n cs ≡ at (λ c. c.name) n cs
cell-at n [] = refl
cell-at n (c ∷ cs) = ap (λ r. cond (n == c.name) (Some c) r) (cell-at n cs)

pub computed-at : (n : ℕ) (cs : List Computed) → computed_at n cs ≡ at (λ c. c.name) n cs
computed-at n [] = refl
computed-at n (c ∷ cs) = ap (λ r. cond (n == c.name) (Some c) r) (computed-at n cs)

pub entry-at : (n : ℕ) (cs : List Entry) → entry_at n cs ≡ at (λ c. c.name) n cs
entry-at n [] = refl
entry-at n (c ∷ cs) = ap (λ r. cond (n == c.name) (Some c) r) (entry-at n cs)

pub cells_named : AreNamed (λ (c : Cell). c.name) (λ n x. cell_part n x.body)
cells_named = record { named = λ k x. go k x.body }
  where
    go : (k : ℕ) (b : Body) → AllByRecursion (λ (c : Cell). c.name ≡ k) (cell_part k b)
    go k Gone = tt
    go k (CellBody v r) = (refl, tt)
    go k (ComputedBody c) = tt

pub computeds_named : AreNamed (λ (c : Computed). c.name) (λ n x. computed_part n x.body)
computeds_named = record { named = λ k x. go k x.body }
  where
    go : (k : ℕ) (b : Body) → AllByRecursion (λ (c : Computed). c.name ≡ k) (computed_part k b)
    go k Gone = tt
    go k (CellBody v r) = tt
    go k (ComputedBody c) = (refl, tt)

pub entries_named : AreNamed (λ (r : Entry). r.name) (λ n x. entry_part n x.number x.body)
entries_named = record { named = λ k x. go k x.number x.body }
  where
    go : (k m : ℕ) (b : Body) → AllByRecursion (λ (r : Entry). r.name ≡ k) (entry_part k m b)
    go k m Gone = tt
    go k m (CellBody v r) = (refl, tt)
    go k m (ComputedBody c) = (refl, tt)

pub progress_named : AreNamed (λ (r : Progress). r.name) (λ n x. progress_part n x.body)
progress_named = record { named = λ k x. go k x.body }
  where
    go : (k : ℕ) (b : Body) → AllByRecursion (λ (r : Progress). r.name ≡ k) (progress_part k b)
    go k Gone = tt
    go k (CellBody v r) = tt
    go k (ComputedBody c) = (refl, tt)

-- the part by the node's body
part-cell : (k i : ℕ) (xs : List Node) → part_at (λ n x. cell_part n x.body) k xs i ≡ cell_part (k + i) (body_at xs i)
part-cell k i [] = refl
part-cell k zero (x ∷ xs) = let e : k ≡ k + 0 = omega arith in ap (λ n. cell_part n x.body) e
part-cell k (suc i) (x ∷ xs) = let e : k + 1 + i ≡ k + suc i = omega arith in part-cell (k + 1) i xs ∙ ap (λ n. cell_part n (body_at xs i)) e

part-computed : (k i : ℕ) (xs : List Node) → part_at (λ n x. computed_part n x.body) k xs i ≡ computed_part (k + i) (body_at xs i)
part-computed k i [] = refl
part-computed k zero (x ∷ xs) = let e : k ≡ k + 0 = omega arith in ap (λ n. computed_part n x.body) e
part-computed k (suc i) (x ∷ xs) = let e : k + 1 + i ≡ k + suc i = omega arith in part-computed (k + 1) i xs ∙ ap (λ n. computed_part n (body_at xs i)) e

part-entry : (k i : ℕ) (xs : List Node) → part_at (λ n x. entry_part n x.number x.body) k xs i ≡ entry_part (k + i) (change_at xs i) (body_at xs i)
part-entry k i [] = refl
part-entry k zero (x ∷ xs) = let e : k ≡ k + 0 = omega arith in ap (λ n. entry_part n x.number x.body) e
part-entry k (suc i) (x ∷ xs) = let e : k + 1 + i ≡ k + suc i = omega arith in part-entry (k + 1) i xs ∙ ap (λ n. entry_part n (change_at xs i) (body_at xs i)) e

part-progress : (k i : ℕ) (xs : List Node) → part_at (λ n x. progress_part n x.body) k xs i ≡ progress_part (k + i) (body_at xs i)
part-progress k i [] = refl
part-progress k zero (x ∷ xs) = let e : k ≡ k + 0 = omega arith in ap (λ n. progress_part n x.body) e
part-progress k (suc i) (x ∷ xs) = let e : k + 1 + i ≡ k + suc i = omega arith in part-progress (k + 1) i xs ∙ ap (λ n. progress_part n (body_at xs i)) e

pub zeroed : (n : ℕ) → 0 + n ≡ n
zeroed n = omega arith

-- what stands under a name is the body at that place
pub stands : (xs : List Node) (n : ℕ) → standing (signals_of xs) n ≡ stands_of n (body_at xs n)
stands xs n =
    (λ i. or_computed (by_cells i) (by_computeds i)) ∙ go (body_at xs n)
  where
    by_cells : cell_at n (cells_of xs) ≡ at (λ (c : Cell). c.name) n (cell_part n (body_at xs n))
    by_cells =
        cell-at n (cells_of xs) ∙ ap (λ k. at (λ (c : Cell). c.name) k (cells_of xs)) (sym (zeroed n)) ∙ at-parts (λ c. c.name) (λ k x. cell_part k x.body) 0 n xs cells_named
        ∙ ap (at (λ (c : Cell). c.name) (0 + n)) (part-cell 0 n xs) ∙ ap (λ k. at (λ (c : Cell). c.name) k (cell_part k (body_at xs n))) (zeroed n)

    by_computeds : computed_at n (computeds_of xs) ≡ at (λ (c : Computed). c.name) n (computed_part n (body_at xs n))
    by_computeds =
        computed-at n (computeds_of xs) ∙ ap (λ k. at (λ (c : Computed). c.name) k (computeds_of xs)) (sym (zeroed n)) ∙ at-parts (λ c. c.name) (λ k x. computed_part k x.body) 0 n xs computeds_named
        ∙ ap (at (λ (c : Computed). c.name) (0 + n)) (part-computed 0 n xs) ∙ ap (λ k. at (λ (c : Computed). c.name) k (computed_part k (body_at xs n))) (zeroed n)

    go : (b : Body) → or_computed (at (λ (c : Cell). c.name) n (cell_part n b)) (at (λ (c : Computed). c.name) n (computed_part n b)) ≡ stands_of n b
    go Gone = refl
    go (CellBody v r) = let e : (n == n) ≡ true = eq-eqb n n refl in rw e refl
    go (ComputedBody c) = let e : (n == n) ≡ true = eq-eqb n n refl in rw e refl

-- and so is its entry
pub entry_found : (xs : List Node) (n : ℕ) → entry_at n (entries_of xs) ≡ entry_of n (change_at xs n) (body_at xs n)
entry_found xs n =
    entry-at n (entries_of xs) ∙ ap (λ k. at (λ (c : Entry). c.name) k (entries_of xs)) (sym (zeroed n)) ∙ at-parts (λ c. c.name) (λ k x. entry_part k x.number x.body) 0 n xs entries_named
    ∙ ap (at (λ (c : Entry). c.name) (0 + n)) (part-entry 0 n xs) ∙ ap (λ k. at (λ (c : Entry). c.name) k (entry_part k (change_at xs n) (body_at xs n))) (zeroed n) ∙ go (change_at xs n) (body_at xs n)
  where
    go : (m : ℕ) (b : Body) → at (λ (c : Entry). c.name) n (entry_part n m b) ≡ entry_of n m b
    go m Gone = refl
    go m (CellBody v r) = let e : (n == n) ≡ true = eq-eqb n n refl in rw e refl
    go m (ComputedBody c) = let e : (n == n) ≡ true = eq-eqb n n refl in rw e refl

-- what is kept under a name
pub memo_found : (xs : List Node) (g n : ℕ) → memo_of (memos_of g xs) n ≡ memo_body (body_at xs n)
memo_found xs g n = ap memo_in (entry_found xs n) ∙ go (change_at xs n) (body_at xs n)
  where
    go : (m : ℕ) (b : Body) → memo_in (entry_of n m b) ≡ memo_body b
    go m Gone = refl
    go m (CellBody v r) = refl
    go m (ComputedBody c) = refl

-- the number of a name
pub number_found : (xs : List Node) (g n : ℕ) → number_of (memos_of g xs) n ≡ number_at xs n
number_found xs g n = ap number_in (entry_found xs n) ∙ go (change_at xs n) (body_at xs n)
  where
    go : (m : ℕ) (b : Body) → number_in (entry_of n m b) ≡ number_body m b
    go m Gone = refl
    go m (CellBody v r) = refl
    go m (ComputedBody c) = refl

-- the progress under a name, by the first that has it
abbrev known_in : Option Progress → Option (List Known)
known_in None = None
known_in (Some p) = p.known

progress-at : (n : ℕ) (ps : List Progress) → progress_at n ps ≡ known_in (at (λ (p : Progress). p.name) n ps)
progress-at n [] = refl
progress-at n (p ∷ ps) = go (n == p.name) (progress-at n ps)
  where
    go : (b : Bool) → progress_at n ps ≡ known_in (at (λ (q : Progress). q.name) n ps) → cond b p.known (progress_at n ps) ≡ known_in (cond b (Some p) (at (λ (q : Progress). q.name) n ps))
    go true e = refl
    go false e = e

pub progress_found : (xs : List Node) (n : ℕ) → progress_at n (progress_of xs) ≡ known_body (body_at xs n)
progress_found xs n =
    progress-at n (progress_of xs) ∙ ap known_in (ap (λ k. at (λ (c : Progress). c.name) k (progress_of xs)) (sym (zeroed n)) ∙ at-parts (λ c. c.name) (λ k x. progress_part k x.body) 0 n xs progress_named
    ∙ ap (at (λ (c : Progress). c.name) (0 + n)) (part-progress 0 n xs) ∙ ap (λ k. at (λ (c : Progress). c.name) k (progress_part k (body_at xs n))) (zeroed n)) ∙ go (body_at xs n)
  where
    go : (b : Body) → known_in (at (λ (c : Progress). c.name) n (progress_part n b)) ≡ known_body b
    go Gone = refl
    go (CellBody v r) = refl
    go (ComputedBody c) = let e : (n == n) ≡ true = eq-eqb n n refl in rw e refl

-- ---- what is taken out

without-append : {A : Type 0} (name : A → ℕ) (m : ℕ) (xs ys : List A) → without name m (xs ++ ys) ≡ without name m xs ++ without name m ys
without-append name m [] ys = refl
without-append name m (x ∷ xs) ys = go (m == name x) (without-append name m xs ys)
  where
    go : (b : Bool) → without name m (xs ++ ys) ≡ without name m xs ++ without name m ys → cond b (without name m (xs ++ ys)) (x ∷ without name m (xs ++ ys)) ≡ cond b (without name m xs) (x ∷ without name m xs) ++ without name m ys
    go true h = h
    go false h = ap (λ r. x ∷ r) h

without-here : {A : Type 0} (name : A → ℕ) (m : ℕ) (xs : List A) → AllByRecursion (λ a. name a ≡ m) xs → without name m xs ≡ []
without-here name m [] h = refl
without-here name m (x ∷ xs) h = let e : (m == name x) ≡ true = eq-eqb m (name x) (sym h.0) in rw e (without-here name m xs h.1)

without-off : {A : Type 0} (name : A → ℕ) (m k : ℕ) (xs : List A) → m ≢ k → AllByRecursion (λ a. name a ≡ k) xs → without name m xs ≡ xs
without-off name m k [] ne h = refl
without-off name m k (x ∷ xs) ne h = let e : (m == name x) ≡ false = grind (arith, nat_tests, h.0) in rw e (ap (λ r. x ∷ r) (without-off name m k xs ne h.1))

without-later : {A : Type 0} (name : A → ℕ) (f : ℕ → Node → List A) (m n : ℕ) (xs : List Node) → AreNamed name f → m < n → without name m (parts f n xs) ≡ parts f n xs
without-later name f m n [] a lt = refl
without-later name f m n (x ∷ xs) a lt =
    let ne : m ≢ n = omega arith in
    let more : m < n + 1 = omega arith in
    without-append name m (f n x) (parts f (n + 1) xs) ∙ (λ i. without-off name m n (f n x) ne (a.named n x) i ++ without-later name f m (n + 1) xs a more i)

-- a node goes, and its part with it
pub parts-without : {A : Type 0} (name : A → ℕ) (f : ℕ → Node → List A) (n i : ℕ) (g : Node → Node) (xs : List Node) → AreNamed name f → ((k : ℕ) (x : Node) → f k (g x) ≡ []) →
    parts f n (changed_at g i xs) ≡ without name (n + i) (parts f n xs)
parts-without name f n i g [] a e = refl
parts-without name f n zero g (z ∷ zs) a e =
    let k : n + 0 ≡ n = omega arith in
    let lt : n < n + 1 = omega arith in
    rw k (ap (λ r. r ++ parts f (n + 1) zs) (e n z)
    ∙ sym (without-append name n (f n z) (parts f (n + 1) zs) ∙ (λ i. without-here name n (f n z) (a.named n z) i ++ without-later name f n (n + 1) zs a lt i)))
parts-without name f n (suc i) g (z ∷ zs) a e =
    let k : n + suc i ≡ n + 1 + i = omega arith in
    let ne : n + 1 + i ≢ n = omega arith in
    rw k (ap (λ r. f n z ++ r) (parts-without name f (n + 1) i g zs a e)
    ∙ sym (without-append name (n + 1 + i) (f n z) (parts f (n + 1) zs) ∙ ap (λ r. r ++ without name (n + 1 + i) (parts f (n + 1) zs)) (without-off name (n + 1 + i) n (f n z) ne (a.named n z))))
