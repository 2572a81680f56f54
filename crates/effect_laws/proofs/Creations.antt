-- Each making keeps the ledger.
use Rattle.std.proofs.Common.{◌≡◌, ℕ, ◌+◌, ◌*◌, ◌≤◌, ◌==◌, Bool, true, false, List, [], ◌∷◌, ◌++◌, map, nat_lt, Option, Some, None, refl, ap, ◌∙◌}
use Rattle.std.proofs.Common.{arith}
use Rattle.std.proofs.lemmas.Bool.Decides.{nat_tests}
use Rattle.effect_model.specs.Owners.{Thing, the_signal, the_owner, the_effect, the_page, the_watcher, same_thing, Cleanup, Owned, nothing, thing}
use Rattle.effect_model.specs.Owners.{put_under, alone, made_inside}
use Rattle.effect_model.specs.Worlds.{Counts, Event}
use Rattle.effect_laws.specs.Rolls.{bit, times_in, Roll, alive, was_made, times, found, waiting_under}
use Rattle.effect_laws.proofs.Trees.{times_put, waiting_put}
use Rattle.effect_laws.proofs.Ledgers.{Ledger, IsMaking, found_once}
use Rattle.effect_laws.proofs.Names.{count_more, map_more}

-- one more number is below the next bound
pub below_next : (m k : ℕ) → bit (nat_lt m (k + 1)) ≡ bit (nat_lt m k) + bit (m == k)
below_next m k = go (nat_lt m (k + 1)) refl (nat_lt m k) refl (m == k) refl
  where
    go : (a : Bool) → nat_lt m (k + 1) ≡ a → (b : Bool) → nat_lt m k ≡ b → (c : Bool) → (m == k) ≡ c → bit a ≡ bit b + bit c
    go true x true y true z = absurd (grind (arith, nat_tests))
    go true x true y false z = refl
    go true x false y true z = refl
    go true x false y false z = absurd (grind (arith, nat_tests))
    go false x true y true z = absurd (grind (arith, nat_tests))
    go false x true y false z = absurd (grind (arith, nat_tests))
    go false x false y true z = absurd (grind (arith, nat_tests))
    go false x false y false z = refl

pub not_below_self : (k : ℕ) → nat_lt k k ≡ false
not_below_self k = grind (arith, nat_tests)

-- a thing is put among what is owned, with nothing under it
pub record IsPut (o o' : Owned) (t : Thing) : Type 0 where
  pub more : (s : Thing) → times s o' ≡ times s o + bit (same_thing s t)
  pub waits : (s : Thing) (p : Cleanup → Bool) → waiting_under false s p o' ≡ waiting_under false s p o

pub put_on_top : (o : Owned) (t : Thing) → IsPut o (thing t nothing o) t
put_on_top o t = record { more = λ s. omega arith; waits = λ s p. omega arith }

pub put_below : (r : Roll) (o : Owned) (m : Counts) (es : List Event) (h t : Thing) → 1 ≤ times h o → Ledger r o m es [] →
    IsPut o (put_under h (alone t) o) t
put_below r o m es h t there env = record {
  more = λ s. let a : times s (put_under h (alone t) o) ≡ times s o + found h o * (bit (same_thing s t) + 0) = times_put s h (alone t) o in
      let b : found h o * (bit (same_thing s t) + 0)
      ≡ 1 * (bit (same_thing s t) + 0) = ap (λ x. x * (bit (same_thing s t) + 0)) (found_once r o m es h there env) in omega arith;
  waits = λ s p. let a : waiting_under false s p (put_under h (alone t) o)
      ≡ waiting_under false s p o + found h o * 0 = waiting_put false s h p (alone t) o in omega arith;
}

pub put_inside : (r : Roll) (o : Owned) (m : Counts) (es : List Event) (inside : Option ℕ) (t : Thing) →
    ((n : ℕ) → inside ≡ Some n → 1 ≤ times (the_owner n) o) → Ledger r o m es [] → IsPut o (made_inside inside t o) t
put_inside r o m es None t there env = put_on_top o t
put_inside r o m es (Some n) t there env = put_below r o m es (the_owner n) t (there n refl) env

-- so it is made
pub making : (r r' : Roll) (o o' : Owned) (m m' : Counts) (t : Thing) → was_made t m ≡ false →
    ((s : Thing) → alive s r' ≡ alive s r + bit (same_thing s t)) →
    ((s : Thing) → bit (was_made s m') ≡ bit (was_made s m) + bit (same_thing s t)) → IsPut o o' t → IsMaking r r' o o' m m' t
making r r' o o' m m' t new roll counts put = record {
  new = new;
  roll = roll;
  counts = counts;
  most = λ s. let a : times s o' ≡ times s o + bit (same_thing s t) = put.more s in omega arith;
  effects = λ n. let a : times (the_effect n) o' ≡ times (the_effect n) o + bit (same_thing (the_effect n) t) = put.more (the_effect n) in
      omega arith;
  owners = λ n. let a : times (the_owner n) o' ≡ times (the_owner n) o + bit (same_thing (the_owner n) t) = put.more (the_owner n) in omega arith;
  waits = put.waits;
}

-- ---- rolls and counts with one more

pub more_signals : (m : Counts) (s : Thing) →
    bit (was_made s (record m { signals = m.signals + 1 })) ≡ bit (was_made s m) + bit (same_thing s (the_signal m.signals))
more_signals m (the_signal n) = below_next n m.signals
more_signals m _ = omega arith

pub more_owners : (m : Counts) (s : Thing) →
    bit (was_made s (record m { owners = m.owners + 1 })) ≡ bit (was_made s m) + bit (same_thing s (the_owner m.owners))
more_owners m (the_owner n) = below_next n m.owners
more_owners m _ = omega arith

pub more_effects : (m : Counts) (s : Thing) →
    bit (was_made s (record m { effects = m.effects + 1 })) ≡ bit (was_made s m) + bit (same_thing s (the_effect m.effects))
more_effects m (the_effect n) = below_next n m.effects
more_effects m _ = omega arith

pub more_pages : (m : Counts) (s : Thing) →
    bit (was_made s (record m { pages = m.pages + 1 })) ≡ bit (was_made s m) + bit (same_thing s (the_page m.pages))
more_pages m (the_page n) = below_next n m.pages
more_pages m _ = omega arith

pub more_watchers : (m : Counts) (s : Thing) →
    bit (was_made s (record m { watchers = m.watchers + 1 })) ≡ bit (was_made s m) + bit (same_thing s (the_watcher m.watchers))
more_watchers m (the_watcher n) = below_next n m.watchers
more_watchers m _ = omega arith

-- a list with the name of one more
pub names_more : {A : Type 0} (name : A → ℕ) (xs : List A) (x : A) (n : ℕ) →
    times_in n (map name (xs ++ x ∷ [])) ≡ times_in n (map name xs) + bit (n == name x)
names_more name xs x n = ap (times_in n) (map_more name xs x) ∙ count_more n (map name xs) (name x)
