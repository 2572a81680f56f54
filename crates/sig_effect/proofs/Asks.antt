-- What settling does, where the stores do their part.
use Rattle.std.proofs.Common.{◌≡◌, ◌+◌, ◌++◌, ℕ, zero, suc, Bool, true, false, cond, List, [], ◌∷◌, map, refl, sym, ap, subst, ◌∙◌, arith, inl, inr}
use Rattle.signal_model.specs.Recipes.{Hosts}
use Rattle.signal_model.specs.Signals.{Signals, Stands, IsGone, IsCell, IsComputed, standing}
use Rattle.signal_model.specs.Kept.{AreKept}
use Rattle.signal_model.specs.Settling.{Run, settled}
use Rattle.signal_model.specs.Asks.{Moment, asks_host, asks_in, asks_of, good_reads, is_host, moments}
use Rattle.signal_model.proofs.Shared.{tested}
use Rattle.effect_model.specs.Commands.{new_world}
use Rattle.effect_model.specs.Worlds as plain
use Rattle.effect_model.specs.Worlds.{asked_by, asked_more, ran}
use Rattle.sig_host.specs.Hosts.{HostPlace, count_at, is_there, place_after, places_after, place_at}
use Rattle.sig_nodes.specs.Answers.{host_here}
use Rattle.sig_graph.specs.HostUse.{uses_host}
use Rattle.sig_watcher.specs.Tables.{Table}
use Rattle.sig_computed.specs.declared.notes.RunNote.{RunNote}
use Rattle.sig_computed.specs.Asked.{IsAsking, StayThere}
use Rattle.sig_computed.specs.Notes.{note_of, run_note, IsIdle, IsSettling}
use Rattle.sig_effect.specs.declared.events.Event.{Event}
use Rattle.sig_effect.specs.declared.events.Event.TheVariants as event
use Rattle.sig_effect.specs.Events.{AreTold}
use Rattle.sig_effect.specs.Wholes.{SignalStores, host_state, host_states, whole_of}
use Rattle.sig_effect.specs.Stores.{environment, Agrees, AreListed, AreOwn, AreUnasked, AreWatched, Does, IsSound}
use Rattle.sig_effect.proofs.Users.{place_is, uses_by}
use Rattle.sig_effect.proofs.Acts.{does_by}

-- ---- asks

-- how host formulas stand after runs
pub states_asked : (uses : ℕ → Bool) (runs : List Moment) (from : ℕ) (ps : List HostPlace) →
    host_states uses from (places_after runs from ps) ≡ asked_by runs from (host_states uses from ps)
states_asked uses runs from [] = refl
states_asked uses runs from (p ∷ ps) = λ i. go (uses from) p.there p.asks (asks_of from runs) i ∷ states_asked uses runs (suc from) ps i
  where
    go : (on there : Bool) (asks n : ℕ) →
        host_state on (cond there (record { there = there; asks = asks + n }) (record { there = there; asks = asks })) ≡ asked_more n (host_state on (record { there = there; asks = asks }))
    go true true asks n = refl
    go false true asks n = refl
    go on false asks n = refl

-- runs don't ask what nobody uses
asks_none : (w : Signals) (k : ℕ) (runs : List Run) → uses_host w k ≡ false → asks_of k (moments w runs) ≡ 0
asks_none w k [] off = refl
asks_none w k (r ∷ rs) off =
    let none : asks_in k (record { signals = w; run = r }) ≡ 0 = ap (λ b. cond b (good_reads r.evaluation.reads + 1) 0) (unasked (standing w r.name) refl) in
    let more : asks_of k (moments w rs) ≡ 0 = asks_none w k rs off in
    omega (arith, none, more)
  where
    unasked : (s : Stands) → standing w r.name ≡ s → asks_host k s ≡ false
    unasked IsGone e = refl
    unasked (IsCell c) e = refl
    unasked (IsComputed c) e = elim (tested (is_host k c.recipe.expression)) [
      | inl q ↦
          let on : uses_host w k ≡ true = uses_by w r.name k (ap host_here e ∙ place_is c.recipe.expression k q) in
          let clash : true ≡ false = sym on ∙ off in absurd cc
      | inr q ↦ q
    ]

-- a place after runs
place_of : (runs : List Moment) (from : ℕ) (ps : List HostPlace) (k : ℕ) → place_at (places_after runs from ps) k ≡ place_after runs (from + k) (place_at ps k)
place_of runs from [] k = refl
place_of runs from (p ∷ ps) zero = let at : from ≡ from + 0 = omega arith in ap (λ n. place_after runs n p) at
place_of runs from (p ∷ ps) (suc k) =
    let at : suc from + k ≡ from + suc k = omega arith in place_of runs (suc from) ps k ∙ ap (λ n. place_after runs n (place_at ps k)) at

-- a place that is asked more, where its formula is there
abbrev after_if : Bool → HostPlace → ℕ → HostPlace
after_if b p n = cond b (record p { asks = p.asks + n }) p

there_if : (b : Bool) (p : HostPlace) (n : ℕ) → (after_if b p n).there ≡ p.there
there_if true p n = refl
there_if false p n = refl

count_if : (b : Bool) (p : HostPlace) (n : ℕ) → p.asks ≡ 0 → n ≡ 0 → (after_if b p n).asks ≡ 0
count_if true p n none more = omega (arith, none, more)
count_if false p n none more = none

-- what nobody uses stays unasked
pub unasked_settled : (w : Signals) (runs : List Run) (asked : List HostPlace) → AreUnasked asked w → AreUnasked (places_after (moments w runs) 0 asked) w
unasked_settled w runs asked un = record { never = never }
  where
    never : (k : ℕ) → is_there (places_after (moments w runs) 0 asked) k ≡ true → uses_host w k ≡ false → count_at (places_after (moments w runs) 0 asked) k ≡ 0
    never k here off =
        let at : 0 + k ≡ k = omega arith in
        let is : place_at (places_after (moments w runs) 0 asked) k ≡ place_after (moments w runs) k (place_at asked k) =
        place_of (moments w runs) 0 asked k ∙ ap (λ n. place_after (moments w runs) n (place_at asked k)) at in
        let there : is_there asked k ≡ true = sym (ap (λ (p : HostPlace). p.there) is ∙ there_if (place_at asked k).there (place_at asked k) (asks_of k (moments w runs))) ∙ here in
        ap (λ (p : HostPlace). p.asks) is ∙ count_if (place_at asked k).there (place_at asked k) (asks_of k (moments w runs)) (un.never k there off) (asks_none w k runs off)

-- ---- what is told

-- notes of runs tell of them
pub runs_told : (w : Signals) (ns : List RunNote) (runs : List Run) → map note_of ns ≡ map run_note runs → AreTold (map event.Run ns) (map ran (moments w runs))
runs_told w [] [] e = tt
runs_told w [] (r ∷ rs) e = cc
runs_told w (n ∷ ns) [] e = cc
runs_told w (n ∷ ns) (r ∷ rs) e =
    let one : note_of n ≡ run_note r = cc in
    let more : map note_of ns ≡ map run_note rs = cc in
    (record { moment = record { signals = w; run = r }; ran = refl; note = one }, runs_told w ns rs more)

-- ---- the stores afterwards

-- Where names were settled, the stores stand for the plain world that settles them, and what is sound stayed so.
pub settle_does : (hosts : Hosts) (slacks : List ℕ) (asked later : List HostPlace) (old new : SignalStores) (names : List ℕ) (notes : List RunNote) (before after : List Event) →
    new.graph.state.signals ≡ old.graph.state.signals → new.graph.given ≡ old.graph.given → new.watchers ≡ old.watchers →
    IsSettling hosts old.graph.state.signals old.graph.state.memos names [] (map note_of notes) new.graph.state.memos →
    IsAsking hosts old.graph.state.signals old.graph.state.memos names asked later → after ≡ before ++ map event.Run notes →
    AreKept hosts new.graph.state.signals new.graph.state.memos → IsSound hosts asked old →
    Does hosts asked later old new before after (plain.settle (environment hosts slacks) names)
settle_does hosts slacks asked later old new names notes before after signals given same settling asking told kept sound =
    let w : Signals = old.graph.state.signals in
    let runs : List Run = (settled hosts w old.graph.state.memos names).runs in
    does_by hosts asked later old new before after (plain.settle (environment hosts slacks) names) (plain.settle (environment hosts slacks) names (whole_of asked old)) refl
    (record {
      signals = signals;
      memos = settling.memos;
      states = (λ i. host_states (uses_host (signals i)) 0 (asking.places i)) ∙ states_asked (uses_host w) (moments w runs) 0 asked;
      watchers = ap (λ (t : Table). t.watchers) same;
      made = λ i. record ((new_world 0).made) { signals = given i; watchers = (same i).made };
      rest = refl;
    })
    (record { more = map event.Run notes; behind = told; each = runs_told w notes runs settling.notes })
    (record {
      kept = kept;
      unasked = subst (λ x. x) (λ i. AreUnasked (sym asking.places i) (sym signals i)) (unasked_settled w runs asked sound.unasked);
    })

-- the same where the notes began with none
pub ask_does : (hosts : Hosts) (slacks : List ℕ) (asked later : List HostPlace) (old new : SignalStores) (n : ℕ) (none notes : List RunNote) (before after : List Event) →
    none ≡ [] → new.graph.state.signals ≡ old.graph.state.signals → new.graph.given ≡ old.graph.given → new.watchers ≡ old.watchers →
    IsSettling hosts old.graph.state.signals old.graph.state.memos (n ∷ []) (map note_of none) (map note_of notes) new.graph.state.memos →
    IsAsking hosts old.graph.state.signals old.graph.state.memos (n ∷ []) asked later → after ≡ before ++ map event.Run notes →
    AreKept hosts new.graph.state.signals new.graph.state.memos → IsSound hosts asked old →
    Does hosts asked later old new before after (plain.settle (environment hosts slacks) (n ∷ []))
ask_does hosts slacks asked later old new n none notes before after empty signals given same settling asking told kept sound =
    settle_does hosts slacks asked later old new (n ∷ []) notes before after signals given same
    (subst (λ (ns : List RunNote). IsSettling hosts old.graph.state.signals old.graph.state.memos (n ∷ []) (map note_of ns) (map note_of notes) new.graph.state.memos) empty settling)
    asking told kept sound

-- Where a call settled names and left the signals, the stores belong together as before.
pub agrees_settled : (asked later : List HostPlace) (old new : SignalStores) → new.graph.state.signals ≡ old.graph.state.signals → IsIdle new.graph.state →
    StayThere asked later → new.watchers ≡ old.watchers → Agrees asked old → Agrees later new
agrees_settled asked later old new signals idle stay same a = record {
  idle = idle;
  listed = subst AreListed (sym signals) a.listed;
  there = record { each = λ k e. stay k ∙ a.there.each k (sym (ap (λ (w : Signals). uses_host w k) signals) ∙ e) };
  own = subst AreOwn (sym signals) a.own;
  watched = subst (λ x. x) (λ i. AreWatched (sym signals i) (sym same i).watchers) a.watched;
}
