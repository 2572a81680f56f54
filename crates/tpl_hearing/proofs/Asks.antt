-- A recipe that is asked again and again, on what is heard.
use Rattle.std.proofs.Common.{◌≡◌, ℕ, ◌<◌, ◌==◌, eq-eqb, false, true, None, List, [], ◌∷◌, ◌++◌, length, Some, refl, sym, ap, subst, ◌∙◌, arith}
use Rattle.std.specs.Prelude.{Option, if◌then◌else◌, nat_lt, slice_index, unwrap_or}
use Rattle.std.specs.Option.{option_or}
use Rattle.std.proofs.lemmas.Bool.Decides.{nat_tests}
use Rattle.std.specs.Map.{keys_of}
use Rattle.std.proofs.lemmas.List.{append-nil, map-append}
use Rattle.sig_base.specs.declared.value.Value.{Value}
use Rattle.sig_base.specs.declared.value.Fault.{Fault}
use Rattle.sig_base.specs.declared.value.Fault.TheVariants.{Gone, Slot}
use Rattle.sig_base.specs.declared.value.Known.{Known}
use Rattle.sig_base.specs.declared.value.Outcome.{Outcome}
use Rattle.sig_base.specs.declared.value.Outcome.TheVariants.{Good, Bad}
use Rattle.sig_base.specs.declared.value.Step.{Step}
use Rattle.sig_base.specs.declared.value.Step.TheVariants.{Read, Done, Fail}
use Rattle.sig_formula.specs.Evaluation.{plain_step, slot_step}
use Rattle.sig_formula.specs.Trees as trees
use Rattle.sig_formula.specs.declared.formula.RowRef.{RowRef}
use Rattle.signal_model.specs.Recipes.{Hosts, Recipe, judged, recipe_answer, IsJudged, IsUnknownSlot}
use Rattle.signal_model.specs.Values.{Seen, Evaluation, after_step, asked_from, ended, learnt, prefixed, unknown_slots}
use Rattle.signal_model.specs.Sound.{names_of}
use Rattle.signal_model.proofs.Shared.{asked_by_steps, bad_read, good_read, unknown_less}
use Rattle.signal_laws.specs.ReadLaws.{with_name, firsts_after, HaveOutcomes, IsReading}
use Rattle.signal_laws.proofs.Shared.{all_snoc, firsts_append_law, reading_law}
use Rattle.tpl_hearing.specs.Heard.{Evaluates, Grows, Outcomes, heard_of, recipe_of, WereHeard}
use Rattle.tpl_hearing.proofs.Names.{still_heard}

-- ---- what was heard, as the outcomes of sources

-- the outcome that was heard, and for any other name that of what is gone
abbrev pub outcome_in : Outcomes → ℕ → Outcome
outcome_in heard n = unwrap_or (heard_of heard n) (Bad Gone)

-- what was read has the outcomes that were heard
pub have_heard : (heard : Outcomes) (reads : List Seen) → WereHeard heard reads → HaveOutcomes (outcome_in heard) reads
have_heard heard [] all = tt
have_heard heard (s ∷ ss) all = (ap (λ o. unwrap_or o (Bad Gone)) all.0, have_heard heard ss all.1)

-- what was heard stays so
pub were_still : (heard more now : Outcomes) (reads : List Seen) → now ≡ heard ++ more → WereHeard heard reads → WereHeard now reads
were_still heard more now [] e all = tt
were_still heard more now (s ∷ ss) e all = (
  ap (λ h. heard_of h s.name) e ∙ still_heard heard more s.name s.outcome all.0,
  were_still heard more now ss e all.1,
)

-- of one more
have_front : (source : ℕ → Outcome) (reads : List Seen) (s : Seen) → HaveOutcomes source (reads ++ s ∷ []) → HaveOutcomes source reads
have_front source [] s all = tt
have_front source (r ∷ rs) s all = (all.0, have_front source rs s all.1)

have_last : (source : ℕ → Outcome) (reads : List Seen) (s : Seen) → HaveOutcomes source (reads ++ s ∷ []) → source s.name ≡ s.outcome
have_last source [] s all = all.0
have_last source (r ∷ rs) s all = have_last source rs s all.1

-- one more name is heard, behind those before
pub names_more : (first mid now : List ℕ) (reads : List Seen) (s : Seen) → mid ≡ firsts_after first (names_of reads) → now ≡ with_name mid s.name →
    now ≡ firsts_after first (names_of (reads ++ s ∷ []))
names_more first mid now reads s so is =
    is ∙ ap (λ ns. with_name ns s.name) so ∙ sym (firsts_append_law first (names_of reads) (s.name ∷ []))
    ∙ ap (firsts_after first) (sym (map-append (λ (x : Seen). x.name) reads (s ∷ [])))

-- ---- a text of which some slots are known

-- what was read so far, and what is read and comes of it then, is the whole evaluation; and all of it was heard
pub record IsAsking (r : Recipe) (known : List Known) (reads : List Seen) (earlier now : Outcomes) : Type 0 where
  pub rest : (hosts : Hosts) (source : ℕ → Outcome) → HaveOutcomes source reads →
      prefixed reads (asked_from hosts r source known) ≡ asked_from hosts r source []
  pub heard : WereHeard now reads
  pub names : keys_of now ≡ firsts_after (keys_of earlier) (names_of reads)

-- nothing is known yet
pub nothing_asked : (r : Recipe) (heard : Outcomes) → IsAsking r [] [] heard heard
nothing_asked r heard = record { rest = λ hosts source have. refl; heard = tt; names = refl }

-- one answer on
stepped : (hosts : Hosts) (r : Recipe) (source : ℕ → Outcome) (known : List Known) (st : Step) → recipe_answer hosts r known ≡ st →
    asked_from hosts r source known ≡ after_step st r.slots source (λ s v. asked_from hosts r source (learnt known s v))
stepped hosts r source known st e =
    asked_by_steps hosts r source known ∙ ap (λ x. after_step x r.slots source (λ s v. asked_from hosts r source (learnt known s v))) e

-- what an evaluation comes to on the outcomes that were heard is a reading
is_reading : (hosts : Hosts) (r : Recipe) (heard : Outcomes) (e : Evaluation) → asked_from hosts r (outcome_in heard) [] ≡ e → IsReading hosts r e
is_reading hosts r heard e is = subst (IsReading hosts r) is (reading_law hosts r (outcome_in heard)).0

-- a slot's name was heard, with a value
pub asked_more : (r : Recipe) (known : List Known) (reads : List Seen) (heard mid now : Outcomes) (slot n : ℕ) (v : Value) →
    IsAsking r known reads heard mid → Grows mid now → ((hosts : Hosts) → recipe_answer hosts r known ≡ Read slot) →
    n ≡ slice_index r.slots slot → heard_of now n ≡ Some (Good v) → keys_of now ≡ with_name (keys_of mid) n →
    IsAsking r (learnt known slot v) (reads ++ record { name = n; outcome = Good v } ∷ []) heard now
asked_more r known reads heard mid now slot n v x later asks is good joins =
    let s : Seen = record { name = n; outcome = Good v } in
    record {
      rest = λ hosts source have.
          (λ i. prefixed (reads ++ record { name = is i; outcome = Good v } ∷ []) (asked_from hosts r source (learnt known slot v)))
          ∙ good_read hosts r source known reads slot v (asks hosts) (ap source (sym is) ∙ have_last source reads s have)
          ∙ x.rest hosts source (have_front source reads s have);
      heard = all_snoc (λ (y : Seen). heard_of now y.name ≡ Some y.outcome) reads s (were_still mid later.more now reads later.all x.heard) good;
      names = names_more (keys_of heard) (keys_of mid) (keys_of now) reads s x.names joins;
    }

-- it ends by itself
ends : (r : Recipe) (known : List Known) (reads : List Seen) (heard now : Outcomes) (o : Outcome) → IsAsking r known reads heard now →
    ((hosts : Hosts) (source : ℕ → Outcome) → asked_from hosts r source known ≡ ended o) →
    Evaluates r (record { reads = reads; outcome = o }) heard now
ends r known reads heard now o x last = record {
  reading = λ hosts. is_reading hosts r now (record { reads = reads; outcome = o })
      (sym (x.rest hosts (outcome_in now) (have_heard now reads x.heard)) ∙ ap (prefixed reads) (last hosts (outcome_in now))
      ∙ (λ i. record { reads = append-nil reads i; outcome = o }));
  heard = x.heard;
  names = x.names;
}

pub ends_good : (r : Recipe) (known : List Known) (reads : List Seen) (heard now : Outcomes) (v : Value) → IsAsking r known reads heard now →
    ((hosts : Hosts) → recipe_answer hosts r known ≡ Done v) → Evaluates r (record { reads = reads; outcome = Good v }) heard now
ends_good r known reads heard now v x done = ends r known reads heard now (Good v) x (λ hosts source. stepped hosts r source known (Done v) (done hosts))

pub ends_bad : (r : Recipe) (known : List Known) (reads : List Seen) (heard now : Outcomes) (e : Fault) → IsAsking r known reads heard now →
    ((hosts : Hosts) → recipe_answer hosts r known ≡ Fail e) → Evaluates r (record { reads = reads; outcome = Bad e }) heard now
ends_bad r known reads heard now e x fails = ends r known reads heard now (Bad e) x (λ hosts source. stepped hosts r source known (Fail e) (fails hosts))

-- or with the fault of a name that was heard
pub ends_read : (r : Recipe) (known : List Known) (reads : List Seen) (heard mid now : Outcomes) (slot n : ℕ) (e : Fault) →
    IsAsking r known reads heard mid → Grows mid now → ((hosts : Hosts) → recipe_answer hosts r known ≡ Read slot) →
    n ≡ slice_index r.slots slot → heard_of now n ≡ Some (Bad e) → keys_of now ≡ with_name (keys_of mid) n →
    Evaluates r (record { reads = reads ++ record { name = n; outcome = Bad e } ∷ []; outcome = Bad e }) heard now
ends_read r known reads heard mid now slot n e x later asks is bad joins =
    let s : Seen = record { name = n; outcome = Bad e } in
    let still = were_still mid later.more now reads later.all x.heard in
    record {
      reading = λ hosts. is_reading hosts r now (record { reads = reads ++ s ∷ []; outcome = Bad e })
          (sym (x.rest hosts (outcome_in now) (have_heard now reads still))
          ∙ bad_read hosts r (outcome_in now) known reads slot e (asks hosts)
          (ap (outcome_in now) (sym is) ∙ ap (λ o. unwrap_or o (Bad Gone)) bad)
          ∙ (λ i. record { reads = reads ++ record { name = sym is i; outcome = Bad e } ∷ []; outcome = Bad e }));
      heard = all_snoc (λ (y : Seen). heard_of now y.name ≡ Some y.outcome) reads s still bad;
      names = names_more (keys_of heard) (keys_of mid) (keys_of now) reads s x.names joins;
    }

-- what is asked for is a slot that isn't known
pub asks_new : (r : Recipe) (known given : List Known) (st : Step) (slot : ℕ) → IsJudged (length r.slots) given st → given ≡ known → st ≡ Read slot →
    IsUnknownSlot (length r.slots) slot known
asks_new r known given st slot new same is = subst (λ x. x) (λ i. IsJudged (length r.slots) (same i) (is i)) new

-- so one fewer isn't, once its value is
pub fewer_unknown : (r : Recipe) (known next : List Known) (slot : ℕ) (v : Value) → IsUnknownSlot (length r.slots) slot known →
    next ≡ learnt known slot v → unknown_slots (length r.slots) next < unknown_slots (length r.slots) known
fewer_unknown r known next slot v new is =
    let fewer = unknown_less (length r.slots) slot v known new in
    let now = ap (unknown_slots (length r.slots)) is in
    omega (arith, fewer, now)

-- ---- a formula that is a slot and nothing else

-- it asks for the slot
slot_asks : (s : ℕ) (row : Option RowRef) (slots : List ℕ) → s < length slots → (hosts : Hosts) →
    recipe_answer hosts (recipe_of (trees.slot s) row slots) [] ≡ Read s
slot_asks s row slots inside hosts =
    let e : nat_lt s (length slots) ≡ true = grind (arith, nat_tests, inside) in
    ap (λ b. if b then Read s else Fail Slot) e

-- and comes to its value
slot_ends : (s : ℕ) (row : Option RowRef) (slots : List ℕ) (v : Value) (hosts : Hosts) →
    recipe_answer hosts (recipe_of (trees.slot s) row slots) (learnt [] s v) ≡ Done v
slot_ends s row slots v hosts =
    let e : (s == s) ≡ true = eq-eqb s s refl in
    ap (λ b. judged (length slots) (learnt [] s v) (plain_step (slot_step false s (option_or (if b then Some v else None) None)))) e

-- a value was heard of the name that it stands for
pub slot_good : (s : ℕ) (row : Option RowRef) (slots : List ℕ) (heard now : Outcomes) (n : ℕ) (v : Value) → s < length slots → Grows heard now →
    n ≡ slice_index slots s → heard_of now n ≡ Some (Good v) → keys_of now ≡ with_name (keys_of heard) n →
    Evaluates (recipe_of (trees.slot s) row slots) (record { reads = record { name = n; outcome = Good v } ∷ []; outcome = Good v }) heard now
slot_good s row slots heard now n v inside grows is good joins =
    let r = recipe_of (trees.slot s) row slots in
    ends_good r (learnt [] s v) (record { name = n; outcome = Good v } ∷ []) heard now v
    (asked_more r [] [] heard heard now s n v (nothing_asked r heard) grows (slot_asks s row slots inside) is good joins) (slot_ends s row slots v)

-- or a fault
pub slot_bad : (s : ℕ) (row : Option RowRef) (slots : List ℕ) (heard now : Outcomes) (n : ℕ) (e : Fault) → s < length slots → Grows heard now →
    n ≡ slice_index slots s → heard_of now n ≡ Some (Bad e) → keys_of now ≡ with_name (keys_of heard) n →
    Evaluates (recipe_of (trees.slot s) row slots) (record { reads = record { name = n; outcome = Bad e } ∷ []; outcome = Bad e }) heard now
slot_bad s row slots heard now n e inside grows is bad joins =
    let r = recipe_of (trees.slot s) row slots in
    ends_read r [] [] heard heard now s n e (nothing_asked r heard) grows (slot_asks s row slots inside) is bad joins
