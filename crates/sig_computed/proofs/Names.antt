-- Names that are settled one after the other.
use Rattle.std.proofs.Common.{◌≡◌, ℕ, suc, ◌+◌, ◌≤◌, true, false, List, [], ◌∷◌, ◌++◌, Bool, map, append_assoc, refl, sym, ap, subst, ◌∙◌, arith}
use Rattle.std.proofs.lemmas.List.{append-nil, map-append}
use Rattle.signal_model.specs.Recipes.{Hosts}
use Rattle.signal_model.specs.Signals.{Signals}
use Rattle.signal_model.specs.Memos.{Memos}
use Rattle.signal_model.specs.Settling.{Run, Settled, settled}
use Rattle.signal_model.specs.Asks.{Moment, asks_in, asks_of, moments}
use Rattle.signal_model.specs.Kept.{AreKept}
use Rattle.signal_laws.specs.SettleLaws.{followed_by}
use Rattle.signal_laws.proofs.Shared.{settle_both_law}
use Rattle.sig_host.specs.Hosts.{HostPlace, place_after, places_after}
use Rattle.sig_graph.specs.HostUse.{uses_host}
use Rattle.sig_computed.specs.Asked.{AreThere, IsAsking}
use Rattle.sig_computed.specs.Costs.{step_bound}
use Rattle.sig_computed.specs.Notes.{Note, run_note, IsIdle, IsSettling}
use Rattle.sig_computed.specs.Scenes.{CanSettle, Scene, Settles}
use Rattle.sig_computed.proofs.Bounds.{bound_both_law}

-- how often runs ask, one after the other
asks_more : (place : ℕ) (first later : List Moment) → asks_of place (first ++ later) ≡ asks_of place first + asks_of place later
asks_more place [] later = omega arith
asks_more place (m ∷ ms) later = let e = asks_more place ms later in let n : ℕ = asks_in place m in omega (arith, e)

place_so : (place : ℕ) (first later : List Moment) (there : Bool) (n : ℕ) →
    place_after later place (place_after first place (record { there = there; asks = n })) ≡ place_after (first ++ later) place (record { there = there; asks = n })
place_so place first later true n =
    let e = asks_more place first later in
    let sum : (n + asks_of place first) + asks_of place later ≡ n + asks_of place (first ++ later) = omega (arith, e) in
    (λ i. record { there = true; asks = sum i })
place_so place first later false n = refl

place_more : (place : ℕ) (first later : List Moment) (p : HostPlace) → place_after later place (place_after first place p) ≡ place_after (first ++ later) place p
place_more place first later p = place_so place first later p.there p.asks

-- the places after runs, and then after others
places_more : (first later : List Moment) (place : ℕ) (ps : List HostPlace) →
    places_after later place (places_after first place ps) ≡ places_after (first ++ later) place ps
places_more first later place [] = refl
places_more first later place (p ∷ ps) = (λ i. place_more place first later p i ∷ places_more first later (suc place) ps i)

-- no runs
none_asked : (place : ℕ) (there : Bool) (n : ℕ) → place_after [] place (record { there = there; asks = n }) ≡ record { there = there; asks = n }
none_asked place true n = let e : n + 0 ≡ n = omega arith in (λ i. record { there = true; asks = e i })
none_asked place false n = refl

places_none : (place : ℕ) (ps : List HostPlace) → places_after [] place ps ≡ ps
places_none place [] = refl
places_none place (p ∷ ps) = (λ i. none_asked place p.there p.asks i ∷ places_none (suc place) ps i)

-- settling no names leaves all as it was
pub nothing_settled : (x : Scene) (before : Hosts → Type 0) → IsIdle x.graph.state → Settles x x before before (λ _. [])
nothing_settled x before idle = record {
  settled = λ hosts all kept. record { memos = refl; notes = sym (append-nil x.notes) };
  kept = λ hosts all kept. kept;
  asked = λ hosts all kept. record { places = sym (places_none 0 x.asked) };
  steps = λ hosts all kept. omega arith;
  answers = λ hosts all. all;
  there = λ place. refl;
  most = omega arith;
  signals = refl;
  idle = idle;
  seats = refl;
  given = refl;
  named = λ given. given;
  worn = refl;
}

-- settling one list of names and then another
both_settled : (hosts : Hosts) (w : Signals) (k l m : Memos) (first later : List ℕ) (a b c : List Note) → AreKept hosts w k →
    IsSettling hosts w k first a b l → IsSettling hosts w l later b c m → IsSettling hosts w k (first ++ later) a c m
both_settled hosts w k l m first later a b c kept one two =
    let s : Settled = settled hosts w k first in
    let t : Settled = settled hosts w s.memos later in
    let both : settled hosts w k (first ++ later) ≡ followed_by s t = settle_both_law hosts w k first later kept in
    let same : settled hosts w l later ≡ t = ap (λ x. settled hosts w x later) one.memos in
    record {
      memos = two.memos ∙ ap (λ (x : Settled). x.memos) same ∙ sym (ap (λ (x : Settled). x.memos) both);
      notes = two.notes ∙ (λ i. one.notes i ++ map run_note (same i).runs) ∙ append_assoc a (map run_note s.runs) (map run_note t.runs)
          ∙ ap (λ l. a ++ l) (sym (map-append run_note s.runs t.runs)) ∙ sym (ap (λ (x : Settled). a ++ map run_note x.runs) both);
    }

-- so are the asks
both_asked : (hosts : Hosts) (w : Signals) (k l : Memos) (first later : List ℕ) (a b c : List HostPlace) → AreKept hosts w k →
    l ≡ (settled hosts w k first).memos → IsAsking hosts w k first a b → IsAsking hosts w l later b c → IsAsking hosts w k (first ++ later) a c
both_asked hosts w k l first later a b c kept memos one two =
    let s : Settled = settled hosts w k first in
    let t : Settled = settled hosts w s.memos later in
    let both : settled hosts w k (first ++ later) ≡ followed_by s t = settle_both_law hosts w k first later kept in
    let same : settled hosts w l later ≡ t = ap (λ x. settled hosts w x later) memos in
    record {
      places = two.places
          ∙ (λ i. places_after (moments w (same i).runs) 0 (one.places i))
          ∙ places_more (moments w s.runs) (moments w t.runs) 0 a
          ∙ ap (λ ms. places_after ms 0 a) (sym (map-append (λ (r : Run). record { signals = w; run = r }) s.runs t.runs))
          ∙ sym (ap (λ (x : Settled). places_after (moments w x.runs) 0 a) both);
    }

-- and the steps
both_steps : (hosts : Hosts) (w : Signals) (k l : Memos) (first later : List ℕ) (a b c : ℕ) → AreKept hosts w k → l ≡ (settled hosts w k first).memos →
    b ≤ a + step_bound hosts w k first → c ≤ b + step_bound hosts w l later → c ≤ a + step_bound hosts w k (first ++ later)
both_steps hosts w k l first later a b c kept memos one two =
    let both : step_bound hosts w k first + step_bound hosts w (settled hosts w k first).memos later ≤ step_bound hosts w k (first ++ later) =
    bound_both_law hosts w k first later kept in
    let same : step_bound hosts w l later ≡ step_bound hosts w (settled hosts w k first).memos later = ap (λ x. step_bound hosts w x later) memos in
    joined_steps a b c (step_bound hosts w k first) (step_bound hosts w l later) (step_bound hosts w (settled hosts w k first).memos later)
    (step_bound hosts w k (first ++ later)) one two same both
  where
    joined_steps : (a b c p q r s : ℕ) → b ≤ a + p → c ≤ b + q → q ≡ r → p + r ≤ s → c ≤ a + s
    joined_steps a b c p q r s x y e z = omega (arith, x, y, e, z)

-- settling some names, and then others
pub then_settled : (x y z : Scene) (before mid after : Hosts → Type 0) (first later : Hosts → List ℕ) → Settles x y before mid first →
    Settles y z mid after later → Settles x z before after (λ hosts. first hosts ++ later hosts)
then_settled x y z before mid after first later a b = record {
  settled = λ hosts all kept.
      both_settled hosts x.graph.state.signals x.graph.state.memos y.graph.state.memos z.graph.state.memos (first hosts) (later hosts) x.notes y.notes
      z.notes kept (a.settled hosts all kept)
      (subst (λ w. IsSettling hosts w y.graph.state.memos (later hosts) y.notes z.notes z.graph.state.memos) a.signals
      (b.settled hosts (a.answers hosts all) (a.kept hosts all kept)));
  kept = λ hosts all kept. b.kept hosts (a.answers hosts all) (a.kept hosts all kept);
  asked = λ hosts all kept.
      both_asked hosts x.graph.state.signals x.graph.state.memos y.graph.state.memos (first hosts) (later hosts) x.asked y.asked z.asked kept
      (a.settled hosts all kept).memos (a.asked hosts all kept)
      (subst (λ w. IsAsking hosts w y.graph.state.memos (later hosts) y.asked z.asked) a.signals
      (b.asked hosts (a.answers hosts all) (a.kept hosts all kept)));
  steps = λ hosts all kept.
      both_steps hosts x.graph.state.signals x.graph.state.memos y.graph.state.memos (first hosts) (later hosts) x.graph.state.looked y.graph.state.looked
      z.graph.state.looked kept (a.settled hosts all kept).memos (a.steps hosts all kept)
      (subst (λ w. z.graph.state.looked ≤ y.graph.state.looked + step_bound hosts w y.graph.state.memos (later hosts)) a.signals
      (b.steps hosts (a.answers hosts all) (a.kept hosts all kept)));
  answers = λ hosts all. b.answers hosts (a.answers hosts all);
  there = λ place. b.there place ∙ a.there place;
  most = let p = a.most in let q = b.most in omega (arith, p, q);
  signals = b.signals ∙ a.signals;
  idle = b.idle;
  seats = b.seats ∙ a.seats;
  given = b.given ∙ a.given;
  named = λ all. b.named (a.named all);
  worn = let p = a.worn in let q = b.worn in omega (arith, p, q);
}

-- the same names under another spelling
pub settles_names : (x y : Scene) (before after : Hosts → Type 0) (ns ms : List ℕ) → ns ≡ ms → Settles x y before after (λ _. ns) → Settles x y before after (λ _. ms)
settles_names x y before after ns ms e s = subst (λ l. Settles x y before after (λ _. l)) e s

-- each host formula that is asked is there afterwards too
still_there : (x y : Scene) (before after : Hosts → Type 0) (names : Hosts → List ℕ) → Settles x y before after names →
    AreThere x.graph.state.signals x.asked → AreThere y.graph.state.signals y.asked
still_there x y before after names s there = record {
  each = λ place uses. s.there place ∙ there.each place (ap (λ w. uses_host w place) (sym s.signals) ∙ uses);
}

-- names may be settled afterwards, as they might before
pub can_still : (x y : Scene) (before after : Hosts → Type 0) (names : Hosts → List ℕ) → Settles x y before after names → CanSettle x → CanSettle y
can_still x y before after names s can = record {
  idle = s.idle;
  there = still_there x y before after names s can.there;
  worn = let e = s.worn in let low = can.worn in omega (arith, e, low);
  room = let e = s.most in let low = can.room in omega (arith, e, low);
}
