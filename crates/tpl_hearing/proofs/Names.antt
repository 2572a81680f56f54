-- Names that are heard one after the other.
use Rattle.std.proofs.Common.{◌≡◌, ℕ, Bool, true, false, cond, [], ◌∷◌, ◌++◌, nat_eq, Some, None, append_assoc, eq-eqb, refl, sym, ap, subst, ◌∙◌}
use Rattle.std.proofs.lemmas.List.{append-nil}
use Rattle.std.specs.Map.{keys_of}
use Rattle.sig_base.specs.declared.value.Outcome.{Outcome}
use Rattle.signal_model.specs.Recipes.{Hosts}
use Rattle.signal_model.specs.Signals.{is_in}
use Rattle.signal_model.specs.Values.{value_of}
use Rattle.signal_model.specs.Kept.{AreKept}
use Rattle.signal_laws.specs.ReadLaws.{with_name}
use Rattle.signal_laws.proofs.Shared.{all_append}
use Rattle.sig_computed.specs.Notes.{IsIdle}
use Rattle.sig_computed.proofs.Shared.{nothing_settled, then_settled}
use Rattle.tpl_hearing.specs.Heard.{Outcomes, heard_of, AreFromScratch, Hears, Scene, Settles}

-- ---- the outcomes that were heard

-- what was heard has a name among them
pub heard_in : (heard : Outcomes) (n : ℕ) (o : Outcome) → heard_of heard n ≡ Some o → is_in n (keys_of heard) ≡ true
heard_in [] n o h = cc
heard_in (p ∷ ps) n o h = go (nat_eq n p.0) refl h (heard_in ps n o)
  where
    go : (b : Bool) → nat_eq n p.0 ≡ b → cond b (Some p.1) (heard_of ps n) ≡ Some o → (heard_of ps n ≡ Some o → is_in n (keys_of ps) ≡ true) →
        is_in n (keys_of (p ∷ ps)) ≡ true
    go true e is later = rw e refl
    go false e is later = rw (e, later is) refl

-- what wasn't has none
pub not_in : (heard : Outcomes) (n : ℕ) → heard_of heard n ≡ None → is_in n (keys_of heard) ≡ false
not_in [] n h = refl
not_in (p ∷ ps) n h = go (nat_eq n p.0) refl h (not_in ps n)
  where
    go : (b : Bool) → nat_eq n p.0 ≡ b → cond b (Some p.1) (heard_of ps n) ≡ None → (heard_of ps n ≡ None → is_in n (keys_of ps) ≡ false) →
        is_in n (keys_of (p ∷ ps)) ≡ false
    go true e is later = cc
    go false e is later = rw (e, later is) refl

-- it stays so when more are heard
pub still_heard : (heard more : Outcomes) (n : ℕ) (o : Outcome) → heard_of heard n ≡ Some o → heard_of (heard ++ more) n ≡ Some o
still_heard [] more n o h = cc
still_heard (p ∷ ps) more n o h = go (nat_eq n p.0) h (still_heard ps more n o)
  where
    go : (b : Bool) → cond b (Some p.1) (heard_of ps n) ≡ Some o → (heard_of ps n ≡ Some o → heard_of (ps ++ more) n ≡ Some o) →
        cond b (Some p.1) (heard_of (ps ++ more) n) ≡ Some o
    go true is later = is
    go false is later = later is

-- the last one has its outcome
pub last_heard : (heard : Outcomes) (n : ℕ) (o : Outcome) → heard_of heard n ≡ None → heard_of (heard ++ (n, o) ∷ []) n ≡ Some o
last_heard [] n o h = let same : nat_eq n n ≡ true = eq-eqb n n refl in rw same refl
last_heard (p ∷ ps) n o h = go (nat_eq n p.0) h (last_heard ps n o)
  where
    go : (b : Bool) → cond b (Some p.1) (heard_of ps n) ≡ None → (heard_of ps n ≡ None → heard_of (ps ++ (n, o) ∷ []) n ≡ Some o) →
        cond b (Some p.1) (heard_of (ps ++ (n, o) ∷ []) n) ≡ Some o
    go true is later = cc
    go false is later = later is

-- the names of two lists
pub keys_append : (heard more : Outcomes) → keys_of (heard ++ more) ≡ keys_of heard ++ keys_of more
keys_append [] more = refl
keys_append (p ∷ ps) more = ap (λ ns. p.0 ∷ ns) (keys_append ps more)

-- a name that was heard doesn't join, and another one does
pub joins_not : (heard : Outcomes) (n : ℕ) (o : Outcome) → heard_of heard n ≡ Some o → keys_of heard ≡ with_name (keys_of heard) n
joins_not heard n o h = sym (ap (λ b. cond b (keys_of heard) (keys_of heard ++ n ∷ [])) (heard_in heard n o h))

pub joins_last : (heard now : Outcomes) (n : ℕ) (o : Outcome) → heard_of heard n ≡ None → now ≡ heard ++ (n, o) ∷ [] → keys_of now ≡ with_name (keys_of heard) n
joins_last heard now n o none all =
    ap keys_of all ∙ keys_append heard ((n, o) ∷ []) ∙ sym (ap (λ b. cond b (keys_of heard) (keys_of heard ++ n ∷ [])) (not_in heard n none))

-- ---- what hearing leaves

-- hearing nothing
pub nothing_heard : (x : Scene) (before : Hosts → Type 0) (heard : Outcomes) → IsIdle x.graph.state → Hears x x before before heard heard
nothing_heard x before heard idle = record {
  grows = record { more = []; all = sym (append-nil heard) };
  settles = nothing_settled x before idle;
  scratch = λ hosts all kept. tt;
}

-- what was heard, told in other words
pub heard_as : (x y : Scene) (before after : Hosts → Type 0) (first heard now : Outcomes) → heard ≡ now → Hears x y before after first heard →
    Hears x y before after first now
heard_as x y before after first heard now e h = subst (Hears x y before after first) e h

-- hearing some names, and then others
pub then_heard : (x y z : Scene) (before mid after : Hosts → Type 0) (first heard last : Outcomes) → Hears x y before mid first heard →
    Hears y z mid after heard last → Hears x z before after first last
then_heard x y z before mid after first heard last a b = record {
  grows = record {
    more = a.grows.more ++ b.grows.more;
    all = b.grows.all ∙ ap (λ p. p ++ b.grows.more) a.grows.all ∙ append_assoc first a.grows.more b.grows.more;
  };
  settles = subst (λ ns. Settles x z before after (λ _. ns)) (sym (keys_append a.grows.more b.grows.more))
      (then_settled x y z before mid after (λ _. keys_of a.grows.more) (λ _. keys_of b.grows.more) a.settles b.settles);
  scratch = λ hosts all kept.
      all_append (λ (p : ℕ × Outcome). p.1 ≡ value_of hosts x.graph.state.signals p.0 []) a.grows.more b.grows.more (a.scratch hosts all kept)
      (subst (λ w. AreFromScratch hosts w b.grows.more) a.settles.signals
      (b.scratch hosts (a.settles.answers hosts all) (a.settles.kept hosts all kept)));
}

-- what was heard is from scratch, if it was before
pub heard_scratch : (x y : Scene) (before after : Hosts → Type 0) (heard now : Outcomes) (hosts : Hosts) → Hears x y before after heard now → before hosts →
    AreKept hosts x.graph.state.signals x.graph.state.memos → AreFromScratch hosts x.graph.state.signals heard →
    AreFromScratch hosts x.graph.state.signals now
heard_scratch x y before after heard now hosts h all kept scratch =
    subst (AreFromScratch hosts x.graph.state.signals) (sym h.grows.all)
    (all_append (λ (p : ℕ × Outcome). p.1 ≡ value_of hosts x.graph.state.signals p.0 []) heard h.grows.more scratch (h.scratch hosts all kept))

-- settling one name, which is put behind those before
pub one_heard : (x y : Scene) (before after : Hosts → Type 0) (heard now : Outcomes) (n : ℕ) (o : Outcome) → Settles x y before after (λ _. n ∷ []) →
    ((hosts : Hosts) → before hosts → AreKept hosts x.graph.state.signals x.graph.state.memos → o ≡ value_of hosts x.graph.state.signals n []) →
    now ≡ heard ++ (n, o) ∷ [] → Hears x y before after heard now
one_heard x y before after heard now n o s value all = record {
  grows = record { more = (n, o) ∷ []; all = all };
  settles = s;
  scratch = λ hosts answers kept. (value hosts answers kept, tt);
}
