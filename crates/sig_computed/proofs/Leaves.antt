-- What stands under a name, as a graph answers it and as steps ask it.
use Rattle.std.proofs.Common.{◌≡◌, ℕ, ◌+◌, Bool, true, false, List, [], length, Option, Some, None, Result, Ok, Err, OnOk, refl, sym, ap, ◌∙◌, subst}
use Rattle.std.specs.Prelude.{◌&&◌, cond, not}
use Rattle.sig_base.specs.declared.value.Outcome.{Outcome}
use Rattle.sig_base.specs.declared.value.Outcome.TheVariants.{Good, Bad}
use Rattle.sig_base.specs.declared.value.Fault.TheVariants.{Cycle}
use Rattle.sig_base.specs.declared.value.Known.{Known}
use Rattle.sig_base.specs.declared.value.Step.{Step}
use Rattle.sig_base.specs.declared.value.Step.TheVariants.{Read}
use Rattle.sig_formula.specs.Evaluation.{step_by}
use Rattle.signal_model.specs.Recipes.{Expression, Hosts, formula, given_answer, host, judged, IsJudged}
use Rattle.sig_nodes.specs.declared.answers.Asked.{Asked}
use Rattle.sig_nodes.specs.declared.answers.Asked.TheVariants.{Slot as SlotAsked, Ended, Host as HostAsked}
use Rattle.signal_model.specs.Signals.{Stands, IsGone, IsCell, IsComputed, is_computed}
use Rattle.signal_model.specs.Memos.{Memo}
use Rattle.signal_model.specs.Values.{Seen}
use Rattle.signal_model.specs.Sound.{kept_outcome, outcome_here}
use Rattle.sig_nodes.specs.declared.answers.Standing.TheVariants.{Computed}
use Rattle.sig_nodes.specs.Answers.{answer_here, host_here, host_place, kind_here, shown_computed, shown_here, slots_here, IsAnswerHere}
use Rattle.sig_computed.specs.Steps.{Running, Looking, GoesOn, Ends, answered, is_ready, ready_outcome, decided}
use Rattle.sig_host.specs.Hosts.{HostPlace}
use Rattle.sig_computed.specs.Asked.{asked_once}
use Rattle.sig_computed.specs.Views.{evaluation_of, or_cycle}

-- what is answered as a computed is one
pub kind_computed : (st : Stands) (b : Bool) → Computed ≡ kind_here st b → is_computed st ≡ true
kind_computed IsGone b k = cc
kind_computed (IsCell c) b k = cc
kind_computed (IsComputed c) b k = refl

-- and the other way round, where it isn't being evaluated
pub idle_kind : (st : Stands) (b : Bool) → is_computed st ≡ true → b ≡ false → Computed ≡ kind_here st b
idle_kind IsGone b h q = cc
idle_kind (IsCell c) b h q = cc
idle_kind (IsComputed c) true h q = cc
idle_kind (IsComputed c) false h q = refl

-- a computed that isn't being evaluated is ready where it was visited
pub ready_computed : (st : Stands) (b e v : Bool) → Computed ≡ kind_here st b → e ≡ b → v ≡ is_ready st e v
ready_computed IsGone b e v k same = cc
ready_computed (IsCell c) b e v k same = cc
ready_computed (IsComputed c) true e v k same = cc
ready_computed (IsComputed c) false true v k same = cc
ready_computed (IsComputed c) false false v k same = refl

-- whatever else is ready
pub ready_other : (st : Stands) (b e v : Bool) → (kind_here st b ≡ Computed → ⊥) → e ≡ b → true ≡ is_ready st e v
ready_other IsGone b e v k same = refl
ready_other (IsCell c) b e v k same = refl
ready_other (IsComputed c) false e v k same = absurd (k refl)
ready_other (IsComputed c) true true v k same = refl
ready_other (IsComputed c) true false v k same = cc

-- what the graph shows is what a source that is ready is read as
pub shown_read : (st : Stands) (b e : Bool) (m : Option Memo) → e ≡ b → shown_here st b (kept_outcome m) ≡ or_cycle (ready_outcome st e (outcome_here st m))
shown_read IsGone b e m same = refl
shown_read (IsCell c) b e m same = refl
shown_read (IsComputed c) b e m same = computed b (kept_outcome m) ∙ ap (λ x. or_cycle (cond x (Some (Bad Cycle)) (kept_outcome m))) (sym same)
  where
    computed : (b : Bool) (o : Option Outcome) → shown_computed b o ≡ or_cycle (cond b (Some (Bad Cycle)) o)
    computed true None = refl
    computed true (Some o) = refl
    computed false None = refl
    computed false (Some o) = refl

-- a source that has moved
pub decided_moved : (cycle moved : Bool) (place : ℕ) → (not cycle && moved) ≡ true → GoesOn (Running [] []) ≡ decided cycle moved place
decided_moved cycle moved place m = sym (ap (λ b. cond b (GoesOn (Running [] [])) (GoesOn (Looking (place + 1)))) m)

-- one that hasn't
pub decided_still : (cycle moved : Bool) (place : ℕ) → (not cycle && moved) ≡ false → GoesOn (Looking (place + 1)) ≡ decided cycle moved place
decided_still cycle moved place m = sym (ap (λ b. cond b (GoesOn (Running [] [])) (GoesOn (Looking (place + 1)))) m)

-- a host formula's answer, judged, is that of the recipe
pub host_answer : (hosts : Hosts) (st : Stands) (known : List Known) (place : ℕ) (slots : List ℕ) (step s : Step) → host_here st ≡ Some place →
    step ≡ hosts place known → slots ≡ slots_here st → s ≡ judged (length slots) known step → s ≡ answer_here hosts st known
host_answer hosts IsGone known place slots step s is given same answer = cc
host_answer hosts (IsCell c) known place slots step s is given same answer = cc
host_answer hosts (IsComputed c) known place slots step s is given same answer =
    answer ∙ ap (λ l. judged (length l) known step) same ∙ ap (judged (length c.recipe.slots) known) (given ∙ by c.recipe.expression is)
  where
    by : (x : Expression) → host_place x ≡ Some place → hosts place known ≡ given_answer hosts x known
    by (formula row t) q = cc
    by (host p) q = let same : p ≡ place = cc in ap (λ n. hosts n known) (sym same)

-- a formula needs a slot
pub slot_answer : (st : Stands) (known : List Known) (a : Asked) (o : Outcome) (slot : ℕ) → a ≡ SlotAsked slot → IsAnswerHere st known a o →
    (host_here st ≡ None) × ((hosts : Hosts) → Read slot ≡ answer_here hosts st known)
slot_answer st known a o slot is h = go st (subst (λ b. IsAnswerHere st known b o) is h)
  where
    go : (x : Stands) → IsAnswerHere x known (SlotAsked slot) o → (host_here x ≡ None) × ((hosts : Hosts) → Read slot ≡ answer_here hosts x known)
    go IsGone h = absurd h
    go (IsCell c) h = absurd h
    go (IsComputed c) h = h

-- a formula has come to an outcome
pub end_answer : (st : Stands) (known : List Known) (a : Asked) (o : Outcome) → a ≡ Ended → IsAnswerHere st known a o →
    (host_here st ≡ None) × ((hosts : Hosts) → step_by None o ≡ answer_here hosts st known)
end_answer st known a o is h = go st (subst (λ b. IsAnswerHere st known b o) is h)
  where
    go : (x : Stands) → IsAnswerHere x known Ended o → (host_here x ≡ None) × ((hosts : Hosts) → step_by None o ≡ answer_here hosts x known)
    go IsGone h = absurd h
    go (IsCell c) h = absurd h
    go (IsComputed c) h = h

-- a host formula is asked
pub asks_host : (st : Stands) (known : List Known) (a : Asked) (o : Outcome) (place : ℕ) → a ≡ HostAsked place → IsAnswerHere st known a o → host_here st ≡ Some place
asks_host st known a o place is h = go st (subst (λ b. IsAnswerHere st known b o) is h)
  where
    go : (x : Stands) → IsAnswerHere x known (HostAsked place) o → host_here x ≡ Some place
    go IsGone h = absurd h
    go (IsCell c) h = absurd h
    go (IsComputed c) h = h

-- where no host formula is asked, all were asked as often as before
pub unasked : (h : Option ℕ) (asked : List HostPlace) → h ≡ None → asked ≡ asked_once h asked
unasked h asked e = sym (ap (λ x. asked_once x asked) e)

-- the run is over then
pub ended_move : (o : Outcome) (known : List Known) (reads : List Seen) → Ends (evaluation_of reads o) ≡ answered (step_by None o) known reads
ended_move (Good v) known reads = refl
ended_move (Bad e) known reads = refl

pub ended_judged : (o : Outcome) (count : ℕ) (known : List Known) → IsJudged count known (step_by None o)
ended_judged (Good v) count known = tt
ended_judged (Bad e) count known = tt

-- what holds whatever an answer is holds where it is no error
pub anyway : {A E P : Type 0} (r : Result A E) → P → OnOk r P
anyway (Ok x) p = p
anyway (Err e) p = tt
