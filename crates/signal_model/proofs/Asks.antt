-- The asking of a recipe ends within its slots.
use Rattle.std.proofs.Common.{◌≡◌, ℕ, zero, suc, ◌<◌, ◌==◌, ◌||◌, Bool, true, false, cond, List, [], ◌∷◌, ◌++◌, length, append_assoc, refl, sym, ap}
use Rattle.std.proofs.Common.{◌∙◌, arith}
use Rattle.std.specs.Prelude.{nat_lt, slice_index}
use Rattle.sig_base.specs.declared.value.Fault.TheVariants.{Slot, Twice}
use Rattle.std.proofs.lemmas.Bool.{eqb-true}
use Rattle.std.proofs.lemmas.Bool.Decides.{nat_tests}
use Rattle.sig_base.specs.declared.value.Value.{Value}
use Rattle.sig_base.specs.declared.value.Fault.{Fault}
use Rattle.sig_base.specs.declared.value.Known.{Known}
use Rattle.sig_base.specs.declared.value.Step.{Step}
use Rattle.sig_base.specs.declared.value.Step.TheVariants.{Read, Done, Fail}
use Rattle.sig_base.specs.declared.value.Outcome.{Outcome}
use Rattle.sig_base.specs.declared.value.Outcome.TheVariants.{Good, Bad}
use Rattle.signal_model.specs.Recipes.{Hosts, Recipe, IsUnknownSlot, is_known, judged, given_answer, recipe_answer}
use Rattle.signal_model.specs.Values.{Seen, learnt, prefixed, read_first, after_read, after_step, asked_within, asked_from, unknown_slots}
use Rattle.signal_model.specs.Laws.{AskedBySteps}

-- one more slot is known, and no other
known_more : (n s : ℕ) (v : Value) (known : List Known) → is_known n (learnt known s v) ≡ (is_known n known || s == n)
known_more n s v [] = go (s == n)
  where
    go : (b : Bool) → (b || false) ≡ b
    go true = refl
    go false = refl
known_more n s v (k ∷ ks) = go (k.slot == n) (known_more n s v ks)
  where
    go : (b : Bool) → is_known n (learnt ks s v) ≡ (is_known n ks || s == n) → (b || is_known n (learnt ks s v)) ≡ ((b || is_known n ks) || s == n)
    go true e = refl
    go false e = e

-- what a recipe reads is a slot of its own that is not known
pub read_new : (count : ℕ) (known : List Known) (st : Step) (s : ℕ) → judged count known st ≡ Read s → IsUnknownSlot count s known
read_new count known (Done v) s h = cc
read_new count known (Fail e) s h = cc
read_new count known (Read m) s h = go (nat_lt m count) (is_known m known) refl refl h
  where
    go : (a b : Bool) → nat_lt m count ≡ a → is_known m known ≡ b → cond a (cond b (Fail Twice) (Read m)) (Fail Slot) ≡ Read s →
        IsUnknownSlot count s known
    go false b i k e = cc
    go true true i k e = cc
    go true false i k e =
        let same : m ≡ s = cc in
        let below : m < count = grind (arith, nat_tests) in
        record { inside = omega arith; unknown = ap (λ x. is_known x known) (sym same) ∙ k }

unknown_same : (n s : ℕ) (v : Value) (known : List Known) → n < suc s → unknown_slots n (learnt known s v) ≡ unknown_slots n known
unknown_same zero s v known lt = refl
unknown_same (suc n) s v known lt =
    let less : n < suc s = omega arith in
    let off : (s == n) ≡ false = grind (arith, nat_tests) in
    let e : is_known n (learnt known s v) ≡ is_known n known = known_more n s v known ∙ ap (λ b. is_known n known || b) off ∙ go (is_known n known) in
    rw (e, unknown_same n s v known less) refl
  where
    go : (b : Bool) → (b || false) ≡ b
    go true = refl
    go false = refl

-- a read leaves one unknown slot fewer
pub unknown_less : (n s : ℕ) (v : Value) (known : List Known) → IsUnknownSlot n s known →
    unknown_slots n known ≡ suc (unknown_slots n (learnt known s v))
unknown_less zero s v known h = absurd (omega (arith, h.inside))
unknown_less (suc n) s v known h = go (s == n) refl (λ k. unknown_less n s v known k)
  where
    go : (b : Bool) → (s == n) ≡ b → (IsUnknownSlot n s known → unknown_slots n known ≡ suc (unknown_slots n (learnt known s v))) →
        unknown_slots (suc n) known ≡ suc (unknown_slots (suc n) (learnt known s v))
    go true e below =
        let same : s ≡ n = eqb-true s n e in
        let was : is_known n known ≡ false = ap (λ x. is_known x known) (sym same) ∙ h.unknown in
        let is : is_known n (learnt known s v) ≡ true = known_more n s v known ∙ (λ i. was i || e i) in
        let lt : n < suc s = omega arith in
        let rest : unknown_slots n (learnt known s v) ≡ unknown_slots n known = unknown_same n s v known lt in
        rw (was, is, rest) (omega arith)
    go false e below =
        let is : is_known n (learnt known s v) ≡ is_known n known = known_more n s v known ∙ ap (λ b. is_known n known || b) e
        ∙ drop_false (is_known n known) in
        let inside : s < n = grind (arith, nat_tests, h.inside) in
        let rest : unknown_slots n known ≡ suc (unknown_slots n (learnt known s v)) = below (record { inside = inside; unknown = h.unknown }) in
        rw (is, rest) (omega arith)
      where
        drop_false : (b : Bool) → (b || false) ≡ b
        drop_false true = refl
        drop_false false = refl

pub asked_by_steps : AskedBySteps
asked_by_steps hosts r source known = go (recipe_answer hosts r known) refl
  where
    go : (st : Step) → recipe_answer hosts r known ≡ st →
        after_step st r.slots source (λ s v. asked_within (unknown_slots (length r.slots) known) hosts r source (learnt known s v))
        ≡ after_step st r.slots source (λ s v. asked_from hosts r source (learnt known s v))
    go (Done v) e = refl
    go (Fail f) e = refl
    go (Read s) e = read (slice_index r.slots s) (source (slice_index r.slots s))
        (λ v. ap (λ turns. asked_within turns hosts r source (learnt known s v))
        (unknown_less (length r.slots) s v known (read_new (length r.slots) known (given_answer hosts r.expression known) s e)))
      where
        read : (m : ℕ) (o : Outcome) → ((v : Value) →
            asked_within (unknown_slots (length r.slots) known) hosts r source (learnt known s v) ≡ asked_from hosts r source (learnt known s v)) →
            after_read m o (λ v. asked_within (unknown_slots (length r.slots) known) hosts r source (learnt known s v)) ≡ after_read m o
            (λ v. asked_from hosts r source (learnt known s v))
        read m (Bad f) h = refl
        read m (Good v) h = ap (read_first (record { name = m; outcome = Good v })) (h v)

-- one good read moves from the evaluation to what was read before
pub good_read : (hosts : Hosts) (r : Recipe) (source : ℕ → Outcome) (known : List Known) (reads : List Seen) (slot : ℕ) (v : Value) →
    recipe_answer hosts r known ≡ Read slot → source (slice_index r.slots slot) ≡ Good v →
    prefixed (reads ++ record { name = slice_index r.slots slot; outcome = Good v } ∷ []) (asked_from hosts r source (learnt known slot v))
    ≡ prefixed reads (asked_from hosts r source known)
good_read hosts r source known reads slot v asks good =
    (λ i. record {
      reads = append_assoc reads (record { name = slice_index r.slots slot; outcome = Good v } ∷ [])
          (asked_from hosts r source (learnt known slot v)).reads i;
      outcome = (asked_from hosts r source (learnt known slot v)).outcome;
    })
    ∙ (λ i. prefixed reads (sym step i))
  where
    step : asked_from hosts r source known ≡ after_read (slice_index r.slots slot) (Good v) (λ u. asked_from hosts r source (learnt known slot u))
    step = asked_by_steps hosts r source known
        ∙ (λ i. after_step (asks i) r.slots source (λ s u. asked_from hosts r source (learnt known s u)))
        ∙ (λ i. after_read (slice_index r.slots slot) (good i) (λ u. asked_from hosts r source (learnt known slot u)))

-- a source's fault ends the evaluation
pub bad_read : (hosts : Hosts) (r : Recipe) (source : ℕ → Outcome) (known : List Known) (reads : List Seen) (slot : ℕ) (e : Fault) →
    recipe_answer hosts r known ≡ Read slot → source (slice_index r.slots slot) ≡ Bad e →
    prefixed reads (asked_from hosts r source known)
    ≡ record { reads = reads ++ record { name = slice_index r.slots slot; outcome = Bad e } ∷ []; outcome = Bad e }
bad_read hosts r source known reads slot e asks bad =
    ap (prefixed reads)
    (asked_by_steps hosts r source known
    ∙ (λ i. after_step (asks i) r.slots source (λ s u. asked_from hosts r source (learnt known s u)))
    ∙ (λ i. after_read (slice_index r.slots slot) (bad i) (λ u. asked_from hosts r source (learnt known slot u))))
