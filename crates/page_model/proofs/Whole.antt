-- The whole: the operations lead from the old tree to the new one.
use Rattle.std.proofs.Common.{◌≡◌, ℕ, suc, ◌+◌, ◌<◌, ◌≤◌, ◌==◌, Bool, true, false, ◌||◌, ◌&&◌, not, refl, sym, ap, ◌∙◌, append_assoc, arith, if◌then◌else◌, eqb-true, eq-eqb, inl, inr, List, [], ◌∷◌, ◌++◌, map}
use Rattle.std.specs.List.{flat_map}
use Rattle.std.proofs.lemmas.Bool.{cases_Bool, false≢true, true≢false, or_cases, or_left, or_right}
use Rattle.page_model.specs.Labels.{Root, Kind, holds}
use Rattle.page_model.specs.Replay.{Op, OpRemove, Done, replay}
use Rattle.page_model.specs.Forest.{Forest, none, node, count, has, on, tally, kids, parent, pruned, label_in, tops, depth, height}
use Rattle.page_model.specs.Edits.{listed, siblings, child_edits}
use Rattle.page_model.proofs.Facts.{as_was, Knows, Clear, Once, newly, all_newly, Labelled, Linked, plan}
use Rattle.page_model.proofs.Everywhere.{or_false, flipped, not_same, arranged}
use Rattle.page_model.proofs.Tally.{off_tally, on_tally, tally_off, has_on}
use Rattle.page_model.proofs.Parents.{Waiting, newly_clear, replay_more, replayed, plan_edits}
use Rattle.page_model.proofs.Removals.{removed}
use Rattle.page_model.proofs.KeptNodes.{Says, told_all}
use Rattle.page_model.proofs.Depths.{Fits, fits_kids}
use Rattle.page_model.proofs.Levels.{depth_parent, depth_low, fits_self, fits_sits}
use Rattle.page_model.proofs.Linked.{on_kids, single_of, knows, tells, sits, matches_at, ready_of, clear_of, labelled_of}

-- what a number has over the kept nodes that aren't listed
abbrev pub over : {A : Type 0} → (ℕ → Bool) → (ℕ → ℕ) → List ℕ → Forest A → ℕ
over kept w es none = 0
over kept w es (node m x k r) = (if kept m && not (listed m es) then w m else 0) + (over kept w es k + over kept w es r)

pub over_none : {A : Type 0} (kept : ℕ → Bool) (w : ℕ → ℕ) (es : List ℕ) (t : Forest A) → ((j : ℕ) → on j t ≡ true → kept j ≡ false) → over kept w es t ≡ 0
over_none kept w es none h = refl
over_none kept w es (node m x k r) h =
    let a = h m (or_left (m == m) (on m k || on m r) (eq-eqb m m refl)) in
    let b = over_none kept w es k (λ j e. h j (or_right (m == j) (on j k || on j r) (or_left (on j k) (on j r) e))) in
    let c = over_none kept w es r (λ j e. h j (or_right (m == j) (on j k || on j r) (or_right (on j k) (on j r) e))) in
    rw (a, b, c) refl

over_le : {A : Type 0} (kept : ℕ → Bool) (look : ℕ → Forest A) (lab : ℕ → A) (j : ℕ) (t : Forest A) → Knows look t → Labelled kept lab t → over kept (λ m. newly kept j (look m)) [] t + newly kept j t ≤ tally j t
over_le kept look lab j none kn la = omega arith
over_le kept look lab j (node m x k r) kn la =
    let ir = over_le kept look lab j r kn.2 la.2 in
    elim (cases_Bool (kept m)) [
      | inl a ↦ (
          let ik = over_le kept look lab j k kn.1 (la.0 a).1 in
          let e = ap (newly kept j) kn.0 in
          rw a (omega (arith, ik, ir, e)))
      | inr a ↦ (
          let z = over_none kept (λ i. newly kept j (look i)) [] k (la.1 a) in
          rw a (omega (arith, ir, z)))
    ]

over_less : {A : Type 0} (kept : ℕ → Bool) (w : ℕ → ℕ) (p : ℕ) (es : List ℕ) (t : Forest A) → over kept w (p ∷ es) t ≤ over kept w es t
over_less kept w p es none = omega arith
over_less kept w p es (node m x k r) =
    let ik = over_less kept w p es k in
    let ir = over_less kept w p es r in
    elim (cases_Bool (kept m)) [
      | inl a ↦ elim (cases_Bool (p == m)) [
        | inl b ↦ rw (a, b) (omega (arith, ik, ir))
        | inr b ↦ rw (a, b) (omega (arith, ik, ir))
      ]
      | inr a ↦ rw a (omega (arith, ik, ir))
    ]

pub over_one : {A : Type 0} (kept : ℕ → Bool) (w : ℕ → ℕ) (p : ℕ) (es : List ℕ) (t : Forest A) → kept p ≡ true → listed p es ≡ false → on p t ≡ true → over kept w (p ∷ es) t + w p ≤ over kept w es t
over_one kept w p es none e l o = absurd (false≢true o)
over_one kept w p es (node m x k r) e l o =
    let mk = over_less kept w p es k in
    let mr = over_less kept w p es r in
    elim (cases_Bool (p == m)) [
      | inl b ↦ (let q : p ≡ m = eqb-true p m b in
          let a : kept m ≡ true = ap kept (sym q) ∙ e in
          let z : listed m es ≡ false = ap (λ i. listed i es) (sym q) ∙ l in
          let s = ap w q in
          rw (a, b, z) (omega (arith, mk, mr, s)))
      | inr b ↦ (
          let o' : (on p k || on p r) ≡ true = rw (flipped p m b) at o in
          elim (or_cases (on p k) (on p r) o') [
            | inl c ↦ (let i = over_one kept w p es k e l c in elim (cases_Bool (kept m)) [ inl a ↦ rw (a, b) (omega (arith, i, mr)) | inr a ↦ rw a (omega (arith, i, mr)) ])
            | inr c ↦ (let i = over_one kept w p es r e l c in elim (cases_Bool (kept m)) [ inl a ↦ rw (a, b) (omega (arith, i, mk)) | inr a ↦ rw a (omega (arith, i, mk)) ])
          ])
    ]

all_le : {A : Type 0} (kept : ℕ → Bool) (look : ℕ → Forest A) (j : ℕ) (ps es : List ℕ) (t : Forest A) → Once ps → ((p : ℕ) → listed p ps ≡ true → (kept p ≡ true) × (on p t ≡ true) × (listed p es ≡ false)) → all_newly kept look j ps ≤ over kept (λ m. newly kept j (look m)) es t
all_le kept look j [] es t o h = omega arith
all_le kept look j (p ∷ ps) es t o h =
    let y = h p (or_left (p == p) (listed p ps) (eq-eqb p p refl)) in
    let i = all_le kept look j ps (p ∷ es) t o.1 (λ q e. (let z = h q (or_right (p == q) (listed q ps) e) in (z.0, z.1, rw (not_same p q ps o.0 e) z.2))) in
    let a = over_one kept (λ m. newly kept j (look m)) p es t y.0 y.2 y.1 in
    omega (arith, i, a)

all_clear : {A : Type 0} (kept : ℕ → Bool) (look : ℕ → Forest A) (j : ℕ) (ps : List ℕ) → ((q : ℕ) → Clear kept j (look q)) → all_newly kept look j ps ≡ 0
all_clear kept look j [] h = refl
all_clear kept look j (p ∷ ps) h = rw (newly_clear kept j (look p) (h p), all_clear kept look j ps h) refl

-- each node with children can hold them
abbrev pub Opened : Forest Kind → Type 0
Opened none = Unit {0}
Opened (node m x k r) = (0 < count k → holds x ≡ true) × Opened k × Opened r

opened_at : (p : ℕ) (t : Forest Kind) → Opened t → 0 < count (kids p t) → holds (label_in Root p t) ≡ true
opened_at p none o h = absurd (omega arith)
opened_at p (node m x k r) o h = elim (cases_Bool (m == p)) [
  | inl e ↦ rw e (o.0 (rw e at h))
  | inr e ↦ elim (cases_Bool (on p k)) [
    | inl f ↦ rw (e, f) (opened_at p k o.1 (rw (e, f) at h))
    | inr f ↦ rw (e, f) (opened_at p r o.2 (rw (e, f) at h))
  ]
]

-- two linked trees of which the second can be built by operations
pub record Steady (old new : Forest Kind) : Type 0 where
  pub same : (n : ℕ) → on n old ≡ true → holds (label_in Root n old) ≡ holds (label_in Root n new)
  pub opened : Opened new
  pub low : height new ≤ 33

waiting_of : (x y : Kind) (os ns : Forest Kind) (ps : List ℕ) → let old = node 0 x os none in let new = node 0 y ns none in Linked old new → Steady old new → Once ps → ((m : ℕ) → listed m ps ≡ on m old) → Waiting (λ n. depth n new) (λ n. holds (label_in Root n new)) (λ n. on n old) (λ n. kids n new) ps old
waiting_of x y os ns ps l st o e =
    let old = node 0 x os none in
    let new = node 0 y ns none in
    let lev : ℕ → ℕ = λ n. depth n new in
    let hold : ℕ → Bool = λ n. holds (label_in Root n new) in
    let fits_it : Fits lev hold 0 new = fits_self lev hold 0 new l.new_once (λ n _. (omega arith, refl)) in
    let old_fits : Fits lev hold 0 old = fits_sits lev hold (λ n. parent n old) (λ n. label_in Root n old) 0 old (sits old l.old_once) (tells Root old l.old_once)
    (λ n h. elim (cases_Bool (0 == n)) [
      | inl c ↦ (let q : 0 ≡ n = eqb-true 0 n c in ap lev (sym q))
      | inr c ↦ absurd (false≢true (rw c at h))
    ])
    (λ n h. st.same n h)
    (λ n h z. depth_parent n new l.new_once (l.within n h) (l.below_new n z) ∙ ap (λ i. suc (lev i)) (sym (l.same_parent n h)))
    l.old_once in
    record {
      there = λ p h. sym (e p) ∙ h;
      ready = λ p h. ready_of old new p l (sym (e p) ∙ h);
      clear = λ p q h. clear_of old new p q l (sym (e p) ∙ h);
      once = λ j. elim (cases_Bool (on j old)) [
        | inl a ↦ (let z = all_clear (λ n. on n old) (λ n. kids n new) j ps (λ q. clear_of old new j q l a) in let b = l.old_once j in omega arith)
        | inr a ↦ (
            let z = off_tally j old a in
            let b = l.new_once j in
            let c = over_le (λ n. on n old) (λ n. kids n new) (λ n. label_in Root n new) j new (knows new l.new_once) (labelled_of Root old new l) in
            let f = all_le (λ n. on n old) (λ n. kids n new) j ps [] new o (λ p h. (let i = sym (e p) ∙ h in (i, l.within p i, refl))) in
            omega (arith, z, b, c, f))
      ];
      fits = old_fits;
      fits_new = λ p h. fits_kids lev hold 0 p new (l.within p (sym (e p) ∙ h)) fits_it;
      low = λ p j h i. (let a = depth_low j new (on_kids p j new i) in let b = st.low in omega arith);
      open_new = λ p h c. opened_at p new st.opened c;
    }

-- from what the removals leave to the new tree
from_left : (tell : ℕ → List Op) (x y : Kind) (os ns : Forest Kind) (ps : List ℕ) → let old = node 0 x os none in let new = node 0 y ns none in Linked old new → Steady old new → Once ps → ((m : ℕ) → listed m ps ≡ on m old) → ((n : ℕ) → on n old ≡ true → Says tell (λ m. label_in Root m old) (λ m. label_in Root m new) n) → replay (flat_map (λ n. child_edits n 0 (siblings (kids n old)) (kids n new)) ps ++ flat_map tell ps) old ≡ Done new
from_left tell x y os ns ps l st o e says =
    let old = node 0 x os none in
    let new = node 0 y ns none in
    let w = waiting_of x y os ns ps l st o e in
    let kn = knows new l.new_once in
    let a = replayed (λ n. depth n new) (λ n. holds (label_in Root n new)) (λ n. on n old) (λ n. kids n new) ps old refl o w in
    let b = arranged (λ n. on n old) (λ n. kids n new) (λ n. label_in Root n old) ps x os ns o (single_of old l.old_once) (λ m h. e m ∙ h) (λ p m h. w.clear p m h) refl kn.1
    (matches_at old new (λ n. label_in Root n old) ns 0 l (tells Root old l.old_once) refl (λ n h. h) kn.1) in
    let c = told_all tell (λ n. on n old) (λ n. label_in Root n old) (λ n. label_in Root n new) ps new o
    (λ n h. (let i = sym (e n) ∙ h in (i, l.within n i, says n i))) (λ n h. e n ∙ h) l.new_once (labelled_of Root old new l) in
    let same = plan_edits (λ n. depth n new) (λ n. holds (label_in Root n new)) (λ n. on n old) (λ n. kids n new) ps old old o w (λ p h. refl) in
    ap (λ z. replay (z ++ flat_map tell ps) old) same ∙ replay_more (plan (λ n. on n old) (λ n. kids n new) ps old) (flat_map tell ps) old (as_was (λ n. on n old) (λ n. label_in Root n old) new) (a ∙ ap Done b) ∙ c

-- ---- what the removals leave

pub kept_on : {A : Type 0} (keep : ℕ → Bool) (n : ℕ) (t : Forest A) → on n (pruned keep t) ≡ true → (on n t ≡ true) × (keep n ≡ true)
kept_on keep n none h = absurd (false≢true h)
kept_on keep n (node m x k r) h = elim (cases_Bool (keep m)) [
  | inl a ↦ (
      let h' : (m == n || (on n (pruned keep k) || on n (pruned keep r))) ≡ true = rw a at h in
      elim (or_cases (m == n) (on n (pruned keep k) || on n (pruned keep r)) h') [
        | inl e ↦ (let q : m ≡ n = eqb-true m n e in (or_left (m == n) (on n k || on n r) e, ap keep (sym q) ∙ a))
        | inr e ↦ elim (or_cases (on n (pruned keep k)) (on n (pruned keep r)) e) [
          | inl f ↦ (let i = kept_on keep n k f in (or_right (m == n) (on n k || on n r) (or_left (on n k) (on n r) i.0), i.1))
          | inr f ↦ (let i = kept_on keep n r f in (or_right (m == n) (on n k || on n r) (or_right (on n k) (on n r) i.0), i.1))
        ]
      ])
  | inr a ↦ (let i = kept_on keep n r (rw a at h) in (or_right (m == n) (on n k || on n r) (or_right (on n k) (on n r) i.0), i.1))
]

pub tally_pruned : {A : Type 0} (keep : ℕ → Bool) (j : ℕ) (t : Forest A) → tally j (pruned keep t) ≤ tally j t
tally_pruned keep j none = omega arith
tally_pruned keep j (node m x k r) =
    let a = tally_pruned keep j k in
    let b = tally_pruned keep j r in
    elim (cases_Bool (keep m)) [ inl e ↦ rw e (omega (arith, a, b)) | inr e ↦ rw e (omega (arith, b)) ]

has_pruned : {A : Type 0} (keep : ℕ → Bool) (n : ℕ) (t : Forest A) → keep n ≡ true → has n (pruned keep t) ≡ has n t
has_pruned keep n none e = refl
has_pruned keep n (node m x k r) e = elim (cases_Bool (keep m)) [
  | inl a ↦ rw a (ap (λ b. (m == n) || b) (has_pruned keep n r e))
  | inr a ↦ (
      let c : (m == n) ≡ false = elim (cases_Bool (m == n)) [ inl f ↦ (let q : m ≡ n = eqb-true m n f in absurd (true≢false (sym e ∙ ap keep (sym q) ∙ a))) | inr f ↦ f ] in
      rw (a, c) (has_pruned keep n r e))
]

pub off_has : {A : Type 0} (n : ℕ) (t : Forest A) → on n t ≡ false → has n t ≡ false
off_has n t z = elim (cases_Bool (has n t)) [ inl e ↦ absurd (true≢false (sym (has_on n t e) ∙ z)) | inr e ↦ e ]

parent_off : {A : Type 0} (n : ℕ) (t : Forest A) → on n t ≡ false → parent n t ≡ 0
parent_off n none h = refl
parent_off n (node m x k r) h =
    let a = or_false (m == n) (on n k) (on n r) h in
    rw (off_has n k a.1, a.1) (parent_off n r a.2)

parent_pruned : {A : Type 0} (keep : ℕ → Bool) (n : ℕ) (t : Forest A) → tally n t ≤ 1 → on n (pruned keep t) ≡ true → parent n (pruned keep t) ≡ parent n t
parent_pruned keep n none l h = refl
parent_pruned keep n (node m x k r) l h =
    let tk = tally_pruned keep n k in
    let tr = tally_pruned keep n r in
    let e = (kept_on keep n (node m x k r) h).1 in
    elim (cases_Bool (keep m)) [
      | inl a ↦ (
          let h' : (m == n || (on n (pruned keep k) || on n (pruned keep r))) ≡ true = rw a at h in
          let hk = has_pruned keep n k e in
          rw (a, hk) (elim (cases_Bool (has n k)) [
            | inl b ↦ rw b refl
            | inr b ↦ elim (cases_Bool (on n (pruned keep k))) [
              | inl c ↦ (let i = kept_on keep n k c in rw (b, c, i.0) (parent_pruned keep n k (omega (arith, l)) c))
              | inr c ↦ elim (cases_Bool (m == n)) [
                | inl f ↦ (
                    let l' = rw f at l in
                    let z1 : on n k ≡ false = tally_off n k (omega arith) in
                    let z2 : on n r ≡ false = tally_off n r (omega arith) in
                    let z3 : on n (pruned keep r) ≡ false = tally_off n (pruned keep r) (omega arith) in
                    rw (b, c, z1) (parent_off n (pruned keep r) z3 ∙ sym (parent_off n r z2)))
                | inr f ↦ (
                    let g : on n (pruned keep r) ≡ true = rw (f, c) at h' in
                    let i = kept_on keep n r g in
                    let u = on_tally n r i.0 in
                    let z1 : on n k ≡ false = tally_off n k (omega arith) in
                    rw (b, c, z1) (parent_pruned keep n r (omega (arith, l)) g))
              ]
            ]
          ]))
      | inr a ↦ (
          let g : on n (pruned keep r) ≡ true = rw a at h in
          let i = kept_on keep n r g in
          let u = on_tally n r i.0 in
          let z1 : on n k ≡ false = tally_off n k (omega arith) in
          rw (a, off_has n k z1, z1) (parent_pruned keep n r (omega (arith, l)) g))
    ]

pub label_pruned : {A : Type 0} (d : A) (keep : ℕ → Bool) (n : ℕ) (t : Forest A) → tally n t ≤ 1 → on n (pruned keep t) ≡ true → label_in d n (pruned keep t) ≡ label_in d n t
label_pruned d keep n none l h = refl
label_pruned d keep n (node m x k r) l h =
    let tk = tally_pruned keep n k in
    let tr = tally_pruned keep n r in
    elim (cases_Bool (keep m)) [
      | inl a ↦ elim (cases_Bool (m == n)) [
        | inl b ↦ rw (a, b) refl
        | inr b ↦ elim (cases_Bool (on n (pruned keep k))) [
          | inl c ↦ (let i = kept_on keep n k c in rw (a, b, c, i.0) (label_pruned d keep n k (omega (arith, l)) c))
          | inr c ↦ (
              let g : on n (pruned keep r) ≡ true = rw (a, b, c) at h in
              let i = kept_on keep n r g in
              let u = on_tally n r i.0 in
              let z : on n k ≡ false = tally_off n k (omega (arith, l)) in
              rw (a, b, c, z) (label_pruned d keep n r (omega (arith, l)) g))
        ]
      ]
      | inr a ↦ (
          let g : on n (pruned keep r) ≡ true = rw a at h in
          let i = kept_on keep n r g in
          let u = on_tally n r i.0 in
          let b : (m == n) ≡ false = elim (cases_Bool (m == n)) [ inl c ↦ (let v = rw c at l in absurd (omega arith)) | inr c ↦ c ] in
          let z : on n k ≡ false = tally_off n k (omega (arith, l)) in
          rw (a, b, z) (label_pruned d keep n r (omega (arith, l)) g))
    ]

-- what the operations between two trees need
pub record Fit (tell : ℕ → List Op) (old new : Forest Kind) : Type 0 where
  pub old_once : (j : ℕ) → tally j old ≤ 1
  pub new_once : (j : ℕ) → tally j new ≤ 1
  pub parents : (n : ℕ) → on n old ≡ true → on n new ≡ true → parent n old ≡ parent n new
  pub same : (n : ℕ) → on n old ≡ true → on n new ≡ true → holds (label_in Root n old) ≡ holds (label_in Root n new)
  pub says : (n : ℕ) → on n old ≡ true → on n new ≡ true → Says tell (λ m. label_in Root m old) (λ m. label_in Root m new) n
  pub opened : Opened new
  pub low : height new ≤ 33

says_at : (tell : ℕ → List Op) (f g h : ℕ → Kind) (n : ℕ) → f n ≡ g n → Says tell g h n → Says tell f h n
says_at tell f g h n e s = λ t o l q. s t o l (q ∙ e)

pub whole : (tell : ℕ → List Op) (x y : Kind) (os ns : Forest Kind) (rs ps : List ℕ) → let old = node 0 x os none in let new = node 0 y ns none in let left = pruned (λ m. on m new) old in Fit tell old new → Once rs → ((n : ℕ) → listed n rs ≡ listed n (tops (λ m. on m new) old)) → Once ps → ((n : ℕ) → listed n ps ≡ on n left) → replay ((map OpRemove rs ++ flat_map (λ n. child_edits n 0 (siblings (kids n left)) (kids n new)) ps) ++ flat_map tell ps) old ≡ Done new
whole tell x y os ns rs ps f orr er op ep =
    let old = node 0 x os none in
    let new = node 0 y ns none in
    let keep : ℕ → Bool = λ m. on m new in
    let left = node 0 x (pruned keep os) none in
    let l : Linked left new = record {
      old_once = λ j. (let a = tally_pruned keep j old in let b = f.old_once j in omega arith);
      new_once = f.new_once;
      within = λ n h. (kept_on keep n old h).1;
      same_parent = λ n h. (let i = kept_on keep n old h in parent_pruned keep n old (f.old_once n) h ∙ f.parents n i.0 i.1);
      below_old = λ n h. h;
      below_new = λ n h. h;
    } in
    let lab : (n : ℕ) → on n left ≡ true → label_in Root n left ≡ label_in Root n old = λ n h. label_pruned Root keep n old (f.old_once n) h in
    let st : Steady left new = record {
      same = λ n h. (let i = kept_on keep n old h in ap holds (lab n h) ∙ f.same n i.0 i.1);
      opened = f.opened;
      low = f.low;
    } in
    let a = removed keep rs old refl orr er in
    let b = from_left tell x y (pruned keep os) ns ps l st op ep (λ n h. (let i = kept_on keep n old h in says_at tell (λ m. label_in Root m left) (λ m. label_in Root m old) (λ m. label_in Root m new) n (lab n h) (f.says n i.0 i.1))) in
    let p = flat_map (λ n. child_edits n 0 (siblings (kids n left)) (kids n new)) ps in
    let t = flat_map tell ps in
    ap (λ zs. replay zs old) (append_assoc (map OpRemove rs) p t) ∙ (replay_more (map OpRemove rs) (p ++ t) old left a ∙ b)
