-- A turn, from one effect that may need a look to the next.
use Rattle.std.proofs.Common.{◌≡◌, ◌⊎◌, inl, inr, ℕ, zero, suc, ◌+◌, ◌<◌, ◌≤◌, ◌==◌, Bool, true, false, cond, ◌||◌, List, [], ◌∷◌, ◌++◌, map, Some, None, refl, sym, ap, subst, ◌∙◌, arith}
use Rattle.std.specs.Prelude.{slice_get}
use Rattle.std.specs.List.{AllByRecursion}
use Rattle.std.proofs.lemmas.Bool.{eq-eqb, true≢false}
use Rattle.std.proofs.lemmas.Bool.Decides.{nat_tests}
use Rattle.signal_model.specs.Recipes.{Hosts}
use Rattle.signal_model.specs.Signals.{is_in}
use Rattle.signal_model.specs.Values.{value_of}
use Rattle.effect_model.specs.Runs.{turn}
use Rattle.effect_model.specs.Worlds as plain
use Rattle.effect_model.specs.Worlds.{at_rest, effect_at, effect_numbers}
use Rattle.effect_tables.specs.declared.effect.Effect.{Effect}
use Rattle.effect_tables.specs.Consistency.{TablesAgree}
use Rattle.effect_tables.specs.Heard.{is_marked}
use Rattle.effect_tables.specs.Placed.{effect_of}
use Rattle.effect_tables.specs.Roots.{AreBare}
use Rattle.effect_tables.specs.Visits.{due_of, is_due, some_ran, visit, visit_all}
use Rattle.effect_tables.proofs.Shared.{placed_rests, ran_more, visit_more, visit_rests, visits_rest}
use Rattle.sig_effect.specs.Stores.{environment}
use Rattle.sig_effect.specs.Wholes as wholes
use Rattle.effect_world.specs.declared.world.World.{World}
use Rattle.effect_world.specs.Signals.{Scene}
use Rattle.effect_world.specs.Stores.{Agrees, Hears, IsSound}
use Rattle.effect_world.specs.Wholes.{stores_of}
use Rattle.effect_turns.specs.Runs.{CanRun, Runs}
use Rattle.effect_turns.specs.Stills.{IsNext, IsQuiet, NoneLower, Parts, StandsAt}
use Rattle.effect_turns.proofs.Bygone.{IsBygone, visits_bygone}
use Rattle.effect_turns.proofs.Carried.{runs_as, runs_still}
use Rattle.effect_turns.proofs.Glanced.{glance_none}
use Rattle.effect_turns.proofs.Nearby.{before_or, higher_on, lives_here, number_is, stands_lower}
use Rattle.effect_turns.proofs.Loops.{bare_seen, seen, turn_done, turn_says, visit_passed}
use Rattle.effect_turns.proofs.Rising.{AreUp, behind, below, below_all, below_more, below_next, below_none, between_so, numbers_up}
use Rattle.effect_turns.proofs.Sequences.{runs_then}
use Rattle.effect_turns.proofs.Stills.{known_quiet, quiet_due, quiet_visit}

-- ---- worlds that are one at rest

seen_rests : (x : Scene) → Agrees x.asked x.world → at_rest (seen x) ≡ seen x
seen_rests x a = placed_rests x.world.tables (wholes.whole_of x.asked (stores_of x.world)) a.owned.tables

-- the same effects run
ran_alike : (env : plain.Environment) (es : List ℕ) (v w : plain.World) → AreBare v.owned → AreBare w.owned → at_rest v ≡ at_rest w → some_ran env es v ≡ some_ran env es w
ran_alike env [] v w one two same = refl
ran_alike env (e ∷ es) v w one two same =
    let r = visit_rests env e in
    let next : at_rest (visit env e v) ≡ at_rest (visit env e w) = sym (r.whole v one) ∙ ap (λ u. at_rest (visit env e u)) same ∙ r.whole w two in
    let here : is_due env e v ≡ is_due env e w = ap (is_due env e) same in
    let later : some_ran env es (visit env e v) ≡ some_ran env es (visit env e w) = ran_alike env es (visit env e v) (visit env e w) (r.bare v one) (r.bare w two) next in
    λ i. here i || later i

-- ---- some visits, and then others

visits_split : (env : plain.Environment) (as' bs : List ℕ) (w : plain.World) → visit_all env (as' ++ bs) w ≡ visit_all env bs (visit_all env as' w)
visits_split env [] bs w = refl
visits_split env (e ∷ as') bs w = visits_split env as' bs (visit env e w)

-- those that run none change nothing of whether some ran
ran_split : (env : plain.Environment) (as' bs : List ℕ) (w : plain.World) → some_ran env bs (visit_all env as' w) ≡ false → some_ran env (as' ++ bs) w ≡ some_ran env as' w
ran_split env [] bs w none = none
ran_split env (e ∷ as') bs w none = ap (λ b. is_due env e w || b) (ran_split env as' bs (visit env e w) none)

-- ---- effects that are passed over

-- the effect of a number has ended, or needs no look
abbrev pub IsStill : World → ℕ → Type 0
IsStill w e = (effect_at e (map effect_of w.tables.effects.items) ≡ None) ⊎ (IsQuiet e w)

still_due : (slacks : List ℕ) (x : Scene) (e : ℕ) (hosts : Hosts) → IsSound hosts x.asked x.world → IsStill x.world e → is_due (environment hosts slacks) e (seen x) ≡ false
still_due slacks x e hosts sound (inl none) = ap (due_of (λ m. value_of hosts x.world.graph.state.signals m [])) none
still_due slacks x e hosts sound (inr quiet) = sym (quiet_due slacks hosts x.asked x.world e sound quiet)

still_visit : (slacks : List ℕ) (x : Scene) (answers : Hosts → Type 0) (e : ℕ) → Agrees x.asked x.world → IsStill x.world e → Runs slacks x x answers answers (λ env. visit env e)
still_visit slacks x answers e a (inl none) =
    visit_passed slacks x x answers answers e false refl (λ hosts all sound. sym (still_due slacks x e hosts sound (inl none))) (glance_none slacks x answers e a none)
still_visit slacks x answers e a (inr quiet) = quiet_visit slacks x answers e a quiet

still_visits : (slacks : List ℕ) (x : Scene) (answers : Hosts → Type 0) (es : List ℕ) → Agrees x.asked x.world → AllByRecursion (IsStill x.world) es →
    Runs slacks x x answers answers (λ env. visit_all env es)
still_visits slacks x answers [] a all = runs_still slacks x answers (λ env. visit_all env []) a (λ env. refl)
still_visits slacks x answers (e ∷ es) a all =
    runs_then slacks x x x answers answers answers (λ env. visit env e) (λ env. visit_all env es) a (λ env. visit_rests env e) (λ env. visits_rest env es)
    (still_visit slacks x answers e a all.0) (still_visits slacks x answers es a all.1)

still_ran : (slacks : List ℕ) (x : Scene) (answers : Hosts → Type 0) (es : List ℕ) → Agrees x.asked x.world → AllByRecursion (IsStill x.world) es →
    (hosts : Hosts) → answers hosts → IsSound hosts x.asked x.world → some_ran (environment hosts slacks) es (seen x) ≡ false
still_ran slacks x answers [] a all hosts answer sound = refl
still_ran slacks x answers (e ∷ es) a all hosts answer sound =
    let env : plain.Environment = environment hosts slacks in
    let w : plain.World = seen x in
    let now = (still_visit slacks x answers e a all.0).does hosts answer sound in
    let same : at_rest (visit env e w) ≡ at_rest w = sym now.whole ∙ sym (seen_rests x a) in
    ap (λ b. b || some_ran env es (visit env e w)) (still_due slacks x e hosts sound all.0)
    ∙ ran_alike env es (visit env e w) w ((visit_rests env e).bare w (bare_seen x a)) (bare_seen x a) same
    ∙ still_ran slacks x answers es a all.1 hosts answer sound

-- ---- which these are

-- an effect of a number stands at some place, or none lives
record IsSomewhere (e : ℕ) (xs : List plain.Effect) : Type 0 where
  pub place : ℕ
  pub effect : plain.Effect
  pub there : slice_get xs place ≡ Some effect
  pub number : effect.number ≡ e

find : (e : ℕ) (xs : List plain.Effect) → (effect_at e xs ≡ None) ⊎ (IsSomewhere e xs)
find e [] = inl refl
find e (x ∷ xs) = go (e == x.number) refl (find e xs)
  where
    go : (b : Bool) → (e == x.number) ≡ b → (effect_at e xs ≡ None) ⊎ (IsSomewhere e xs) → (cond b (Some x) (effect_at e xs) ≡ None) ⊎ (IsSomewhere e (x ∷ xs))
    go true is rest = inr (record { place = 0; effect = x; there = refl; number = grind (arith, nat_tests, is) })
    go false is (inl none) = inl none
    go false is (inr s) = inr (record { place = suc s.place; effect = s.effect; there = s.there; number = s.number })

-- the next one, where the marked ones are passed over
pub next_is : (w : World) (low n k : ℕ) → TablesAgree w.tables → Hears w → Parts low n w.tables.effects.items → n ≤ k →
    ((p : ℕ) → n ≤ p → p < k → is_marked p w.heard.quiet ≡ true) → IsNext low k w
next_is w low n k agree heard parts on marks = record {
  passed = λ p x l at up. elim (before_or p n) [
    | inl before ↦ absurd (let f = parts.before p before x at in omega (arith, f, up))
    | inr from ↦ known_quiet w p x.number x heard (marks p from l) at (lives_here 0 p w.tables.effects.items x agree.ordered.rising at)
  ];
  here = parts.behind k on;
}

-- between a number and that of the next, or a bound that it reaches, all are passed over
next_still : (w : World) (low m n : ℕ) → IsNext low n w → ((p : ℕ) → n ≤ p → NoneLower m p w.tables.effects.items) → (e : ℕ) → low ≤ e → e < m → IsStill w e
next_still w low m n next high e up down = elim (find e (map effect_of w.tables.effects.items)) [
  | inl none ↦ inl none
  | inr s ↦ elim (before_or s.place n) [
    | inl l ↦ inr (subst (λ k. IsQuiet k w) s.number (next.passed s.place s.effect l s.there (subst (λ k. low ≤ k) (sym s.number) up)))
    | inr l ↦ absurd (let h = high s.place l s.effect s.there in let k = s.number in omega (arith, h, k, down))
  ]
]

-- ---- numbers

-- the number of what stands at a place
number_in : (m p : ℕ) (xs : List plain.Effect) (x : plain.Effect) → slice_get xs p ≡ Some x → x.number ≡ m → is_in m (effect_numbers xs) ≡ true
number_in m p [] x at is = absurd cc
number_in m zero (y ∷ xs) x at is =
    ap (λ b. b || is_in m (effect_numbers xs)) (eq-eqb m y.number (sym is ∙ sym (number_is y x at)))
number_in m (suc p) (y ∷ xs) x at is =
    ap (λ b. (m == y.number) || b) (number_in m p xs x at is) ∙ or_true (m == y.number)
  where
    or_true : (b : Bool) → (b || true) ≡ true
    or_true true = refl
    or_true false = refl

-- the numbers of those that live at the start
abbrev pub numbers_at : Scene → List ℕ
numbers_at x = effect_numbers (map effect_of x.world.tables.effects.items)

up_at : (x : Scene) → Agrees x.asked x.world → AreUp 0 (numbers_at x)
up_at x a = numbers_up 0 x.world.tables.effects.items a.owned.tables.ordered.rising

-- all of them are below the number that comes next
lower_all : (bound : ℕ) (xs : List Effect) → AllByRecursion (λ (x : Effect). x.id < bound) xs → AllByRecursion (λ n. n < bound) (effect_numbers (map effect_of xs))
lower_all bound [] all = tt
lower_all bound (x ∷ xs) all = (all.0, lower_all bound xs all.1)

lower_far : (bound low : ℕ) (ns : List ℕ) → bound ≤ low → AllByRecursion (λ n. n < bound) ns → AllByRecursion (λ n. n < low) ns
lower_far bound low [] l all = tt
lower_far bound low (n ∷ ns) l all = (let k = all.0 in omega (arith, k, l), lower_far bound low ns l all.1)

all_at : (x : Scene) (low : ℕ) → Agrees x.asked x.world → x.world.tables.effects_made ≤ low → below low (numbers_at x) ≡ numbers_at x
all_at x low a l =
    below_all low (numbers_at x)
    (lower_far x.world.tables.effects_made low (numbers_at x) l (lower_all x.world.tables.effects_made x.world.tables.effects.items a.owned.tables.ordered.below))

-- ---- up to the next

module _ (slacks : List ℕ) (old mid : Scene) (first between : Hosts → Type 0) (low m n : ℕ) where
  -- so far those below a number are visited, and those between that and the next one are passed over
  pub record Between : Type 0 where
    pub agrees : Agrees old.asked old.world
    pub done : Runs slacks old mid first between (λ env. visit_all env (below low (numbers_at old)))
    pub next : IsNext low n mid.world
    pub up : low ≤ m
    pub high : NoneLower m n mid.world.tables.effects.items

  between_still : Between → AllByRecursion (IsStill mid.world) (below m (behind low (numbers_at old)))
  between_still b =
      between_so (IsStill mid.world) 0 low m (numbers_at old) (up_at old b.agrees)
      (next_still mid.world low m n b.next (λ p l. higher_on 0 m n p mid.world.tables.effects.items b.done.agrees.owned.tables.ordered.rising b.high l))

  pub visits_to : Between → Runs slacks old mid first between (λ env. visit_all env (below m (numbers_at old)))
  visits_to b =
      let es : List ℕ = below m (behind low (numbers_at old)) in
      runs_as slacks old mid first between (λ env w. visit_all env es (visit_all env (below low (numbers_at old)) w)) (λ env. visit_all env (below m (numbers_at old)))
      (λ hosts all sound.
      let env : plain.Environment = environment hosts slacks in
      sym (ap (λ fs. visit_all env fs (seen old)) (below_more low m (numbers_at old) b.up) ∙ visits_split env (below low (numbers_at old)) es (seen old)))
      (runs_then slacks old mid mid first between between (λ env. visit_all env (below low (numbers_at old))) (λ env. visit_all env es) b.agrees
      (λ env. visits_rest env (below low (numbers_at old))) (λ env. visits_rest env es) b.done (still_visits slacks mid between es b.done.agrees (between_still b)))

  pub ran_to : Between → (ran : Bool) → (hosts : Hosts) → first hosts → IsSound hosts old.asked old.world →
      ran ≡ some_ran (environment hosts slacks) (below low (numbers_at old)) (seen old) → ran ≡ some_ran (environment hosts slacks) (below m (numbers_at old)) (seen old)
  ran_to b ran hosts all sound so =
      let env : plain.Environment = environment hosts slacks in
      let es : List ℕ = below m (behind low (numbers_at old)) in
      let w : plain.World = visit_all env (below low (numbers_at old)) (seen old) in
      let d = b.done.does hosts all sound in
      let bare : AreBare w.owned = (visits_rest env (below low (numbers_at old))).bare (seen old) (bare_seen old b.agrees) in
      let none : some_ran env es w ≡ false =
      ran_alike env es w (seen mid) bare (bare_seen mid b.done.agrees) (sym d.whole ∙ sym (seen_rests mid b.done.agrees))
      ∙ still_ran slacks mid between es b.done.agrees (between_still b) hosts (b.done.answers hosts all) d.sound in
      so ∙ sym (ap (λ fs. some_ran env fs (seen old)) (below_more low m (numbers_at old) b.up) ∙ ran_split env (below low (numbers_at old)) es (seen old) none)

-- where an effect of a number stands that was made before, it lived at the start
lived : (slacks : List ℕ) (old mid : Scene) (first between : Hosts → Type 0) (m n : ℕ) (es : List ℕ) → m < old.world.tables.effects_made → StandsAt m n mid.world.tables.effects.items →
    Runs slacks old mid first between (λ env. visit_all env es) → (hosts : Hosts) → first hosts → IsSound hosts old.asked old.world → is_in m (numbers_at old) ≡ true
lived slacks old mid first between m n es l s r hosts all sound = go (is_in m (numbers_at old)) refl
  where
    go : (b : Bool) → is_in m (numbers_at old) ≡ b → b ≡ true
    go true e = refl
    go false e =
        let env : plain.Environment = environment hosts slacks in
        let d = r.does hosts all sound in
        let v : IsBygone m (visit_all env es (seen old)) = visits_bygone env m es (seen old) (record { made = l; ended = e }) in
        let off : is_in m (numbers_at mid) ≡ false = ap (λ (w : plain.World). is_in m (effect_numbers w.effects)) d.whole ∙ v.ended in
        absurd (true≢false (sym (number_in m n (map effect_of mid.world.tables.effects.items) s.effect s.there s.number) ∙ off))

module _ (slacks : List ℕ) (old mid : Scene) (first between : Hosts → Type 0) (low m n : ℕ) (agrees : Agrees old.asked old.world)
    (done : Runs slacks old mid first between (λ env. visit_all env (below low (numbers_at old)))) (next : IsNext low n mid.world)
    (stands : StandsAt m n mid.world.tables.effects.items) (lower : m < old.world.tables.effects_made) (k : ℕ) (same : k ≡ m) where
  here : Between slacks old mid first between low m n
  here = record {
    agrees = agrees;
    done = done;
    next = next;
    up = subst (λ k. low ≤ k) stands.number (next.here stands.effect stands.there);
    high = stands_lower m n mid.world.tables.effects.items stands;
  }

  -- the numbers below the one after it
  numbers_on : (es : List ℕ) → Runs slacks old mid first between (λ env. visit_all env es) → (hosts : Hosts) → first hosts → IsSound hosts old.asked old.world →
      below (k + 1) (numbers_at old) ≡ below m (numbers_at old) ++ m ∷ []
  numbers_on es r hosts all sound =
      ap (λ j. below (j + 1) (numbers_at old)) same
      ∙ below_next 0 m (numbers_at old) (up_at old agrees) (lived slacks old mid first between m n es lower stands r hosts all sound)

  -- the effect at a place is visited
  pub visits_on : (new : Scene) (last : Hosts → Type 0) → Runs slacks mid new between last (λ env. visit env m) → Runs slacks old new first last (λ env. visit_all env (below (k + 1) (numbers_at old)))
  visits_on new last q =
      let r = visits_to slacks old mid first between low m n here in
      let es : List ℕ = below m (numbers_at old) in
      runs_as slacks old new first last (λ env w. visit env m (visit_all env es w)) (λ env. visit_all env (below (k + 1) (numbers_at old)))
      (λ hosts all sound.
      let env : plain.Environment = environment hosts slacks in
      sym (ap (λ fs. visit_all env fs (seen old)) (numbers_on es r hosts all sound) ∙ visit_more env es m (seen old)))
      (runs_then slacks old mid new first between last (λ env. visit_all env es) (λ env. visit env m) agrees (λ env. visits_rest env es) (λ env. visit_rests env m) r q)

  pub ran_on : (ran due after : Bool) → ((hosts : Hosts) → first hosts → IsSound hosts old.asked old.world →
      ran ≡ some_ran (environment hosts slacks) (below low (numbers_at old)) (seen old)) →
      ((hosts : Hosts) → between hosts → IsSound hosts mid.asked mid.world → due ≡ is_due (environment hosts slacks) m (seen mid)) → after ≡ (due || ran) →
      (hosts : Hosts) → first hosts → IsSound hosts old.asked old.world → after ≡ some_ran (environment hosts slacks) (below (k + 1) (numbers_at old)) (seen old)
  ran_on ran due after so now either hosts all sound =
      let env : plain.Environment = environment hosts slacks in
      let r = visits_to slacks old mid first between low m n here in
      let es : List ℕ = below m (numbers_at old) in
      let d = r.does hosts all sound in
      let is : due ≡ is_due env m (visit_all env es (seen old)) = now hosts (r.answers hosts all) d.sound ∙ ap (is_due env m) d.whole in
      let before : ran ≡ some_ran env es (seen old) = ran_to slacks old mid first between low m n here ran hosts all sound (so hosts all sound) in
      either ∙ (λ i. is i || before i)
      ∙ sym (ap (λ fs. some_ran env fs (seen old)) (numbers_on es r hosts all sound) ∙ ran_more env es m (seen old))

-- ---- the ends of a turn

pub visited_all : (slacks : List ℕ) (old new : Scene) (first last : Hosts → Type 0) (low : ℕ) → Agrees old.asked old.world → old.world.tables.effects_made ≤ low →
    Runs slacks old new first last (λ env. visit_all env (below low (numbers_at old))) → Runs slacks old new first last (λ env w. (turn env w).world)
visited_all slacks old new first last low a l r = turn_done slacks old new first last (below low (numbers_at old)) (all_at old low a l) r

pub visited_says : (slacks : List ℕ) (old : Scene) (low : ℕ) (ran : Bool) (hosts : Hosts) → CanRun old → old.world.tables.effects_made ≤ low →
    ran ≡ some_ran (environment hosts slacks) (below low (numbers_at old)) (seen old) → ran ≡ (turn (environment hosts slacks) (seen old)).ran
visited_says slacks old low ran hosts c l so = turn_says (environment hosts slacks) (seen old) (below low (numbers_at old)) ran (all_at old low c.agrees l) so

-- where no effect is left
pub last_between : (slacks : List ℕ) (old mid : Scene) (first between : Hosts → Type 0) (low n : ℕ) → Agrees old.asked old.world →
    Runs slacks old mid first between (λ env. visit_all env (below low (numbers_at old))) → IsNext low n mid.world → low < old.world.tables.effects_made →
    NoneLower old.world.tables.effects_made n mid.world.tables.effects.items → Between slacks old mid first between low old.world.tables.effects_made n
last_between slacks old mid first between low n a done next l none = record { agrees = a; done = done; next = next; up = omega (arith, l); high = none }

-- before the first all numbers are zero's
pub visits_none : (slacks : List ℕ) (x : Scene) (answers : Hosts → Type 0) → Agrees x.asked x.world → Runs slacks x x answers answers (λ env. visit_all env (below 0 (numbers_at x)))
visits_none slacks x answers a =
    runs_still slacks x answers (λ env. visit_all env (below 0 (numbers_at x))) a (λ env. ap (λ fs. visit_all env fs (seen x)) (below_none (numbers_at x)))

pub ran_none : (env : plain.Environment) (x : Scene) → CanRun x → false ≡ some_ran env (below 0 (numbers_at x)) (seen x)
ran_none env x c = sym (ap (λ fs. some_ran env fs (seen x)) (below_none (numbers_at x)))
