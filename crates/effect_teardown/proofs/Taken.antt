-- What was taken back in the store and in the tables.
use Rattle.std.proofs.Common.{◌≡◌, ℕ, ◌+◌, ◌&&◌, ◌||◌, ◌++◌, not, Bool, true, false, cond, List, [], ◌∷◌, map, length, refl, sym, ap, subst, ◌∙◌, inl, inr}
use Rattle.std.specs.List.{AllByRecursion}
use Rattle.std.proofs.lemmas.List.{map-append}
use Rattle.signal_model.proofs.Shared.{tested}
use Rattle.effect_model.specs.Owners.{Thing, the_signal, the_owner, the_effect, the_page, the_watcher, Owned, nothing, thing, cleanup, Undoing, cleans, ends, disposal_of, emptied, same_thing, taken_out, teardown_of, under}
use Rattle.sig_owner.specs.declared.thing.Undoing.{Undoing as AnUndoing}
use Rattle.sig_owner.specs.Renames.{renamed, renamed_thing, renamed_undoing, renamed_undoings}
use Rattle.effect_model.specs.Owners.{is_holder}
use Rattle.sig_owner.specs.Tables.{Row, dropped, live_at, thing_at}
use Rattle.sig_owner.specs.Trees.{has_thing, owned_of}
use Rattle.sig_owner.specs.Walks.{is_ended, undoings_of, with_taken_back}
use Rattle.sig_owner.proofs.Shared.{dropped_lives, dropped_thing, has_emptied, renamed_emptied, renamed_taken, renamed_teardown, renamed_under, taken_back_thing}
use Rattle.effect_tables.specs.declared.effect.Effect.{Effect}
use Rattle.effect_tables.specs.declared.tables.Tables.{Tables}
use Rattle.effect_tables.specs.Scripts.{IsFitted}
use Rattle.effect_tables.specs.Consistency.{AreAbsent, AreAlive, AreFresh, AreLiving, AreNumbered, AreOrdered, TablesAgree, IsEffect, IsKnown, IsOwner}
use Rattle.effect_tables.specs.Things.{named_thing, noted}
use Rattle.effect_tables.specs.Owners.{is_row, living, number_in}
use Rattle.effect_tables.specs.Placed.{effect_of, numbering, placed, tree_of}
use Rattle.effect_tables.proofs.Shared.{left_off, name_by, number_apart, number_at, off_on, renamed_by, right_off, unless_known}
use Rattle.effect_teardown.specs.Ends.{effects_after, owners_after}
use Rattle.effect_teardown.specs.Trees.{AreFormed, IsFormed, OnEffects}
use Rattle.effect_teardown.specs.Steps.{retold}
use Rattle.effect_teardown.specs.Teardowns.{Ends, EndsIn, Takes, TakesBack, TakesOut}
use Rattle.effect_teardown.proofs.Found.{effect_found}
use Rattle.effect_teardown.proofs.Forms.{formed_back, formed_emptied, formed_out, formed_top, formed_under, out_emptied, out_watcher, same_swapped, under_leaf}
use Rattle.effect_teardown.proofs.Survivors.{back_living, drop_living}
use Rattle.effect_teardown.proofs.Lists.{all_two, apart_after, effects_all_after, effects_off, kept_after, kept_noted, length_after, off_after, ordered_after, world_after}
use Rattle.effect_teardown.proofs.Steps.{IsKnownStep, all_both, has_under, known_more, known_teardown, on_effects, renamed_ended, retold_all}

-- ---- in the store

has_out : (s t : Thing) (x : Owned) → has_thing s x ≡ false → has_thing s (taken_out t x) ≡ false
has_out s t nothing h = h
has_out s t (cleanup c rest) h = has_out s t rest h
has_out s t (thing v made rest) h =
    go (same_thing t v) (has_out s t made (left_off (has_thing s made) (has_thing s rest) more)) (has_out s t rest (right_off (has_thing s made) (has_thing s rest) more))
  where
    more : (has_thing s made || has_thing s rest) ≡ false
    more = right_off (same_thing s v) (has_thing s made || has_thing s rest) h

    go : (b : Bool) → has_thing s (taken_out t made) ≡ false → has_thing s (taken_out t rest) ≡ false →
        has_thing s (cond b (taken_out t rest) (thing v (taken_out t made) (taken_out t rest))) ≡ false
    go true p q = q
    go false p q = λ i. left_off (same_thing s v) (has_thing s made || has_thing s rest) h i || (p i || q i)

pub back_done : (rows later : List Row) (n : ℕ) (us : List Undoing) → later ≡ with_taken_back rows n → owned_of later ≡ emptied (thing_at rows n) (owned_of rows) →
    ((k : ℕ) → live_at later k ≡ (live_at rows k && not (is_ended (thing_at rows k) us))) → AreAbsent later → EndsIn rows later us (emptied (thing_at rows n) (owned_of rows))
back_done rows later n us after tree lives absent = record {
  things = λ k on. ap (λ rs. thing_at rs k) after ∙ taken_back_thing rows n k (sym (ap (λ rs. live_at rs k) after) ∙ on);
  effects = λ all. subst AreLiving (sym after) (back_living rows n all);
  gone = λ before. absent;
  lives = lives;
  nowhere = λ t h. ap (has_thing t) tree ∙ has_emptied t (thing_at rows n) (owned_of rows) h;
  tree = tree;
}

one_off : (b : Bool) → b ≡ (b || false)
one_off true = refl
one_off false = refl

pub drop_done : (rows later : List Row) (t : Thing) → later ≡ dropped t rows → owned_of later ≡ taken_out t (owned_of rows) → AreAbsent later → EndsIn rows later (ends t ∷ []) (taken_out t (owned_of rows))
drop_done rows later t after tree absent = record {
  things = λ k on. ap (λ rs. thing_at rs k) after ∙ dropped_thing t rows k (sym (ap (λ rs. live_at rs k) after) ∙ on);
  effects = λ all. subst AreLiving (sym after) (drop_living t rows all);
  gone = λ before. absent;
  lives = λ k.
      ap (λ rs. live_at rs k) after ∙ dropped_lives t rows k
      ∙ ap (λ b. live_at rows k && not b) (same_swapped t (thing_at rows k) ∙ one_off (same_thing (thing_at rows k) t));
  nowhere = λ s h. ap (has_thing s) tree ∙ has_out s t (owned_of rows) h;
  tree = tree;
}

ended_more : (t s : Thing) (us : List Undoing) → is_ended t (us ++ ends s ∷ []) ≡ (is_ended t us || is_ended t (ends s ∷ []))
ended_more t s [] = refl
ended_more t s (cleans u c ∷ us) = ended_more t s us
ended_more t s (ends u ∷ us) = ap (λ b. same_thing t u || b) (ended_more t s us) ∙ go (same_thing t u)
  where
    go : (b : Bool) → (b || (is_ended t us || is_ended t (ends s ∷ []))) ≡ ((b || is_ended t us) || is_ended t (ends s ∷ []))
    go true = refl
    go false = refl

off_twice : (a b c : Bool) → ((a && not b) && not c) ≡ (a && not (b || c))
off_twice false b c = refl
off_twice true true c = refl
off_twice true false c = refl

both_on : (a b : Bool) → (a && b) ≡ true → a ≡ true
both_on true b q = refl
both_on false b q = q

-- what was emptied is taken out behind that
pub out_done : (rows mid later : List Row) (t : Thing) (us : List Undoing) → EndsIn rows mid us (emptied t (owned_of rows)) → EndsIn mid later (ends t ∷ []) (taken_out t (owned_of mid)) →
    EndsIn rows later (us ++ ends t ∷ []) (taken_out t (owned_of rows))
out_done rows mid later t us a b = record {
  things = λ k on. b.things k on ∙ a.things k (both_on (live_at mid k) (not (is_ended (thing_at mid k) (ends t ∷ []))) (sym (b.lives k) ∙ on));
  effects = λ all. b.effects (a.effects all);
  gone = λ before. b.gone (a.gone before);
  lives = λ k.
      b.lives k ∙ same k
      ∙ ap (λ v. v && not (is_ended (thing_at rows k) (ends t ∷ []))) (a.lives k)
      ∙ off_twice (live_at rows k) (is_ended (thing_at rows k) us) (is_ended (thing_at rows k) (ends t ∷ []))
      ∙ ap (λ x. live_at rows k && not x) (sym (ended_more (thing_at rows k) t us));
  nowhere = λ s h. b.nowhere s (a.nowhere s h);
  tree = b.tree ∙ ap (taken_out t) a.tree ∙ out_emptied t (owned_of rows);
}
  where
    same : (k : ℕ) → (live_at mid k && not (is_ended (thing_at mid k) (ends t ∷ []))) ≡ (live_at mid k && not (is_ended (thing_at rows k) (ends t ∷ [])))
    same k = elim (tested (live_at mid k)) [
      | inl on ↦ ap (λ v. live_at mid k && not (is_ended v (ends t ∷ []))) (a.things k on)
      | inr off ↦ ap (λ v. v && not (is_ended (thing_at mid k) (ends t ∷ []))) off ∙ sym (ap (λ v. v && not (is_ended (thing_at rows k) (ends t ∷ []))) off)
    ]

-- ---- in the tables

module _ (t u : Tables) (later : List Row) (sus us : List Undoing) (left : Owned) (h : TablesAgree t) (e : EndsIn t.store later sus left) (x : Ends (record t { store = later }) u us)
    (same : us ≡ renamed_undoings (numbering t) sus) where
  g : ℕ → ℕ
  g = numbering t

  apart : (m n : ℕ) → numbering t m ≡ numbering t n → m ≡ n
  apart = number_apart t.owners.items

  -- what lived, and doesn't end, lives
  lives_on : (k : ℕ) (s : Thing) → live_at t.store k ≡ true → thing_at t.store k ≡ s → is_ended (renamed_thing (numbering t) s) us ≡ false → live_at later k ≡ true
  lives_on k s live is off =
      e.lives k
      ∙ (λ i. live i && not ((ap (λ v. is_ended v sus) is ∙ sym (renamed_ended (numbering t) apart s sus) ∙ ap (is_ended (renamed_thing (numbering t) s)) (sym same) ∙ off) i))

  -- what lives on in the store didn't end
  lived : (k : ℕ) → live_at later k ≡ true → (live_at t.store k ≡ true) × (is_ended (thing_at t.store k) sus ≡ false)
  lived k on = go (live_at t.store k) (is_ended (thing_at t.store k) sus) (sym (e.lives k) ∙ on)
    where
      go : (a b : Bool) → (a && not b) ≡ true → (a ≡ true) × (b ≡ false)
      go true true q = cc
      go true false q = (refl, refl)
      go false b q = cc

  -- nor by the owners' own numbers
  on_by : (k : ℕ) (s : Thing) → live_at later k ≡ true → thing_at t.store k ≡ s → is_ended (renamed_thing (numbering t) s) us ≡ false
  on_by k s on is = ap (is_ended (renamed_thing (numbering t) s)) same ∙ renamed_ended (numbering t) apart s sus ∙ ap (λ v. is_ended v sus) (sym is) ∙ (lived k on).1

  -- an owner that lives on keeps its row and its number
  row_kept : (k : ℕ) → live_at later k ≡ true → is_row k t.owners.items ≡ true →
      (is_row k (owners_after us t.owners.items) ≡ true) × (number_in (owners_after us t.owners.items) k ≡ number_in t.owners.items k)
  row_kept k on there = kept_after us t.owners.items k there (on_by k (the_owner k) on (h.alive.owners k there).thing)

  -- what had a row and has it still didn't end
  owner_on : (k : ℕ) → is_row k (owners_after us t.owners.items) ≡ true → IsOwner later k
  owner_on k there =
      let was = off_after us t.owners.items k h.numbered.apart there in
      let own = h.alive.owners k was.0 in
      let on : live_at later k ≡ true = lives_on k (the_owner k) own.lives own.thing was.1 in
      record { lives = on; thing = e.things k on ∙ own.thing }

  alive_now : AreAlive (owners_after us t.owners.items) (effects_after us t.effects.items) later
  alive_now = record {
    owners = owner_on;
    effects = all_two (IsEffect t.store) (λ (y : Effect). is_ended (the_effect y.id) us ≡ false) (IsEffect later) (effects_after us t.effects.items)
        (λ y a b. let on = lives_on y.row (the_effect y.id) a.lives a.thing b in record { lives = on; thing = e.things y.row on ∙ a.thing })
        (effects_all_after (IsEffect t.store) us t.effects.items h.alive.effects) (effects_off us t.effects.items);
  }

  -- what lives on is noted still
  noted_on : (k : ℕ) → live_at later k ≡ true → noted u.things k ≡ noted t.things k
  noted_on k on =
      x.things k
      ∙ kept_noted us t.owners.items t.effects.items (noted t.things) k
      (λ n q. let two = number_at t.owners.items n k h.numbered.apart q in
      ap (λ j. is_ended (the_owner j) us) (sym two.0) ∙ on_by k (the_owner k) on (h.alive.owners k two.1).thing)
      (λ n q. on_by k (the_effect n) on (effect_found t.store n k t.effects.items (sym q) h.alive.effects).thing)

  known_on : (k : ℕ) → live_at later k ≡ true → (s : Thing) → IsKnown t.owners.items k s → IsKnown (owners_after us t.owners.items) k s
  known_on k on (the_owner n) q = (q.0, (row_kept k on q.1).0)
  known_on k on (the_effect n) q = q
  known_on k on (the_signal n) q = absurd q
  known_on k on (the_page n) q = absurd q
  known_on k on (the_watcher n) q = absurd q

  renamed_on : (k : ℕ) → live_at later k ≡ true → (s : Thing) → IsKnown t.owners.items k s → renamed_thing (number_in t.owners.items) s ≡ renamed_thing (number_in (owners_after us t.owners.items)) s
  renamed_on k on s q = name_by (number_in t.owners.items) (number_in (owners_after us t.owners.items)) t.owners.items k s (λ there. sym (row_kept k on there).1) q

  gone_before : AreAbsent t.store
  gone_before m dead = elim (tested (is_row m t.owners.items)) [
    | inl on ↦ absurd (off_on (live_at t.store m) dead (h.alive.owners m on).lives)
    | inr off ↦ h.numbered.stand m off
  ]

  -- an owner without a row stands nowhere
  stand_now : (m : ℕ) → is_row m (owners_after us t.owners.items) ≡ false → has_thing (the_owner m) (owned_of later) ≡ false
  stand_now m off = elim (tested (live_at later m)) [
    | inl on ↦ elim (tested (is_row m t.owners.items)) [
      | inl there ↦ absurd (off_on (is_row m (owners_after us t.owners.items)) off (row_kept m on there).0)
      | inr none ↦ e.nowhere (the_owner m) (h.numbered.stand m none)
    ]
    | inr dead ↦ e.gone gone_before m dead
  ]

  numbered_now : AreNumbered (owners_after us t.owners.items) (noted u.things) later
  numbered_now = record {
    named = λ k on.
        ap named_thing (noted_on k on) ∙ h.numbered.named k (lived k on).0 ∙ renamed_on k on (thing_at t.store k) (h.numbered.known k (lived k on).0)
        ∙ ap (renamed_thing (number_in (owners_after us t.owners.items))) (sym (e.things k on));
    known = λ k on. subst (IsKnown (owners_after us t.owners.items) k) (sym (e.things k on)) (known_on k on (thing_at t.store k) (h.numbered.known k (lived k on).0));
    effects = e.effects h.numbered.effects;
    apart = apart_after us t.owners.items h.numbered.apart;
    stand = stand_now;
  }

  -- of what stands the numbers are as before
  number_now : (m : ℕ) → has_thing (the_owner m) (owned_of later) ≡ true → number_in (owners_after us t.owners.items) m ≡ number_in t.owners.items m
  number_now m there =
      let row = unless_known (owners_after us t.owners.items) m (has_thing (the_owner m) (owned_of later)) there (stand_now m) in
      (row_kept m (owner_on m row).lives (off_after us t.owners.items m h.numbered.apart row).0).1

  tree_now : tree_of u ≡ renamed (numbering t) left
  tree_now =
      (λ i. renamed (number_in (x.owners i)) (owned_of (x.store i)))
      ∙ renamed_by (number_in (owners_after us t.owners.items)) (number_in t.owners.items) (owned_of later) number_now
      ∙ ap (renamed (numbering t)) e.tree

  pub holds_now : TablesAgree u
  holds_now = record {
    numbered = subst (λ y. y) (λ i. AreNumbered (sym x.owners i) (noted u.things) (sym x.store i)) numbered_now;
    alive = subst (λ y. y) (λ i. AreAlive (sym x.owners i) (sym x.effects i) (sym x.store i)) alive_now;
    fresh = subst (λ y. y) (λ i. AreFresh (sym x.effects_made i) (sym x.pages_made i) (sym x.store i))
        (record { effects = λ n l. e.nowhere (the_effect n) (h.fresh.effects n l); pages = λ n l. e.nowhere (the_page n) (h.fresh.pages n l) });
    ordered = subst (λ y. y) (λ i. AreOrdered (sym x.effects_made i) (sym x.effects i)) (ordered_after us t.effects.items t.effects_made h.ordered);
    fitting = subst (AllByRecursion IsFitted) (sym x.effects) (effects_all_after IsFitted us t.effects.items h.fitting);
  }

  pub taken : (now : Owned) → renamed (numbering t) left ≡ now → AreFormed now → Takes t u us now
  taken now is f = record {
    does = λ w.
        (λ i. record w {
          owners = living 0 (x.owners i);
          effects = map effect_of (x.effects i);
          pages = x.pages i;
          owned = (tree_now ∙ is) i;
          made = record (w.made) { owners = (ap length x.owners ∙ length_after us t.owners.items) i; effects = x.effects_made i; pages = x.pages_made i };
        })
        ∙ world_after us t.owners.items t.effects.items t.pages.items
        (record w { owned = now; made = record (w.made) { owners = length t.owners.items; effects = t.effects_made; pages = t.pages_made } });
    tree = tree_now ∙ is;
    holds = holds_now;
    formed = f;
    signals = record { still = λ n off q. ap (λ rs. has_thing (the_signal n) (owned_of rs)) x.store ∙ e.nowhere (the_signal n) q };
    made = x.effects_made;
  }

-- ---- what was taken back, and what was taken out

module _ (t u : Tables) (later : List Row) (steps : List AnUndoing) (us : List Undoing) (h : TablesAgree t) (f : AreFormed (tree_of t)) (x : Ends (record t { store = later }) u us)
    (told : us ≡ map (retold (noted t.things)) steps) (s : Thing) where
  formed_rows : IsFormed (the_owner 0) (owned_of t.store)
  formed_rows = formed_back (numbering t) (the_owner 0) (owned_of t.store) (formed_top 0 (numbering t 0) (tree_of t) f.formed)

  stands : (n : ℕ) → has_thing (the_owner n) (owned_of t.store) ≡ true → (is_row n t.owners.items ≡ true) × (live_at t.store n ≡ true)
  stands n q = (listed, lives)
    where
      listed : is_row n t.owners.items ≡ true
      listed = elim (tested (is_row n t.owners.items)) [
        | inl on ↦ on
        | inr off ↦ (let r : has_thing (the_owner n) (owned_of t.store) ≡ false = h.numbered.stand n off in cc)
      ]

      lives : live_at t.store n ≡ true
      lives = (h.alive.owners n listed).lives

  known_under : AllByRecursion (IsKnownStep t.owners.items t.store) (teardown_of s (under s (owned_of t.store)))
  known_under = known_teardown t.owners.items t.store s (under s (owned_of t.store)) (formed_under (the_owner 0) s (owned_of t.store) formed_rows)
      (λ n q. stands n (has_under (the_owner n) s (owned_of t.store) q))

  by_numbers : AllByRecursion (IsKnownStep t.owners.items t.store) (undoings_of (thing_at t.store) steps) → us ≡ renamed_undoings (numbering t) (undoings_of (thing_at t.store) steps)
  by_numbers known = told ∙ retold_all t.owners.items (noted t.things) t.store h.numbered h.alive.owners steps known

  apart_now : (m n : ℕ) → numbering t m ≡ numbering t n → m ≡ n
  apart_now = number_apart t.owners.items

  back_steps : renamed_undoings (numbering t) (teardown_of s (under s (owned_of t.store))) ≡ teardown_of (renamed_thing (numbering t) s) (under (renamed_thing (numbering t) s) (tree_of t))
  back_steps =
      renamed_teardown (numbering t) s (under s (owned_of t.store))
      ∙ ap (teardown_of (renamed_thing (numbering t) s)) (renamed_under (numbering t) apart_now s (owned_of t.store))

  on_under : AllByRecursion OnEffects (teardown_of (renamed_thing (numbering t) s) (under (renamed_thing (numbering t) s) (tree_of t)))
  on_under = on_effects (renamed_thing (numbering t) s) (under (renamed_thing (numbering t) s) (tree_of t)) (formed_under (the_owner 0) (renamed_thing (numbering t) s) (tree_of t) f.formed)

  pub taken_back : undoings_of (thing_at t.store) steps ≡ teardown_of s (under s (owned_of t.store)) →
      EndsIn t.store later (undoings_of (thing_at t.store) steps) (emptied s (owned_of t.store)) → TakesBack t u (renamed_thing (numbering t) s) us
  taken_back is e =
      let same : us ≡ renamed_undoings (numbering t) (undoings_of (thing_at t.store) steps) = by_numbers (subst (AllByRecursion (IsKnownStep t.owners.items t.store)) (sym is) known_under) in
      record {
        steps = same ∙ ap (renamed_undoings (numbering t)) is ∙ back_steps;
        takes = taken t u later (undoings_of (thing_at t.store) steps) us (emptied s (owned_of t.store)) h e x same (emptied (renamed_thing (numbering t) s) (tree_of t))
            (renamed_emptied (numbering t) apart_now s (owned_of t.store)) (record { formed = formed_emptied (the_owner 0) (renamed_thing (numbering t) s) (tree_of t) f.formed });
        cleanups = subst (AllByRecursion OnEffects) (sym (same ∙ ap (renamed_undoings (numbering t)) is ∙ back_steps)) on_under;
      }

  pub taken_away : IsKnownStep t.owners.items t.store (ends s) → undoings_of (thing_at t.store) steps ≡ disposal_of s (owned_of t.store) →
      EndsIn t.store later (undoings_of (thing_at t.store) steps) (taken_out s (owned_of t.store)) → TakesOut t u (renamed_thing (numbering t) s) us
  taken_away end is e =
      let same : us ≡ renamed_undoings (numbering t) (undoings_of (thing_at t.store) steps) =
      by_numbers (subst (AllByRecursion (IsKnownStep t.owners.items t.store)) (sym is)
      (known_more t.owners.items t.store (teardown_of s (under s (owned_of t.store))) s known_under end)) in
      record {
        steps = same ∙ ap (renamed_undoings (numbering t)) is
            ∙ map-append (renamed_undoing (numbering t)) (teardown_of s (under s (owned_of t.store))) (ends s ∷ [])
            ∙ ap (λ vs. vs ++ ends (renamed_thing (numbering t) s) ∷ []) back_steps;
        takes = taken t u later (undoings_of (thing_at t.store) steps) us (taken_out s (owned_of t.store)) h e x same (taken_out (renamed_thing (numbering t) s) (tree_of t))
            (renamed_taken (numbering t) apart_now s (owned_of t.store)) (record { formed = formed_out (the_owner 0) (renamed_thing (numbering t) s) (tree_of t) f.formed });
        cleanups = subst (AllByRecursion OnEffects)
            (sym (same ∙ ap (renamed_undoings (numbering t)) is
            ∙ map-append (renamed_undoing (numbering t)) (teardown_of s (under s (owned_of t.store))) (ends s ∷ [])
            ∙ ap (λ vs. vs ++ ends (renamed_thing (numbering t) s) ∷ []) back_steps))
            (all_both OnEffects (teardown_of (renamed_thing (numbering t) s) (under (renamed_thing (numbering t) s) (tree_of t))) (ends (renamed_thing (numbering t) s) ∷ []) on_under (tt, tt));
      }

-- a watcher stands nowhere
pub watcher_away : (t : Tables) (n : ℕ) → TablesAgree t → AreFormed (tree_of t) → TakesOut t t (the_watcher n) (ends (the_watcher n) ∷ [])
watcher_away t n h f = record {
  steps = ap (λ y. teardown_of (the_watcher n) y ++ ends (the_watcher n) ∷ []) (sym (under_leaf (the_owner 0) (the_watcher n) (tree_of t) refl f.formed));
  takes = record {
    does = λ w. λ i. record (placed t w) { owned = sym (out_watcher (the_owner 0) n (tree_of t) f.formed) i };
    tree = sym (out_watcher (the_owner 0) n (tree_of t) f.formed);
    holds = h;
    formed = record { formed = formed_out (the_owner 0) (the_watcher n) (tree_of t) f.formed };
    signals = record { still = λ k off q. q };
    made = refl;
  };
  cleanups = (tt, tt);
}

-- nothing stands under what can't own
pub bare_leaf : (t : Tables) (s : Thing) → is_holder s ≡ false → AreFormed (tree_of t) → under s (owned_of t.store) ≡ nothing
bare_leaf t s k f = under_leaf (the_owner 0) s (owned_of t.store) k (formed_back (numbering t) (the_owner 0) (owned_of t.store) (formed_top 0 (numbering t 0) (tree_of t) f.formed))
