-- What is told, what lives, what is owned and what is still to be undone agree.
use Rattle.std.proofs.Common.{◌≡◌, ℕ, zero, suc, ◌+◌, ◌*◌, ◌≤◌, ◌&&◌, Bool, true, false, cond, List, [], ◌∷◌, ◌++◌, refl, sym, ap, subst, arith}
use Rattle.std.proofs.lemmas.List.{append_assoc, append-nil}
use Rattle.effect_model.specs.Owners.{Thing, the_owner, the_effect, same_thing, Cleanup, Owned, nothing, cleanup, Undoing, cleans, ends, teardown_of}
use Rattle.effect_model.specs.Owners.{under, emptied, taken_out, put_under, disposal_of}
use Rattle.effect_model.specs.Worlds.{Counts, Event, body_ran, cleaned, gone, noted}
use Rattle.effect_laws.specs.Rolls.{bit, Roll, alive, was_made, times, found, waiting_under, ends_in, cleans_in, ends_of, noted_by, cleaned_by}
use Rattle.effect_laws.specs.Ends.{about, NoneEnded, KeepsCleanups, AreInTime}
use Rattle.effect_laws.proofs.Trees.{same_is, same_self, ends_append, cleans_append, ends_teardown, cleans_teardown, times_emptied, waiting_emptied}
use Rattle.effect_laws.proofs.Trees.{none_waits, times_taken, self_taken, waiting_taken, found_least, found_emptied, times_put, waiting_put}
use Rattle.effect_laws.proofs.Trees.{AreOrdered, teardown_ordered}

-- What was told came in time; each thing that was made lives or has ended, once; what is owned or to be undone lives, and a live effect or
-- owner stands there; what was noted was done, or waits; and the undoing is in order.
pub record Ledger (r : Roll) (o : Owned) (m : Counts) (es : List Event) (us : List Undoing) : Type 0 where
  pub timely : AreInTime [] es
  pub once : (t : Thing) → ends_of t es + alive t r ≡ bit (was_made t m)
  pub held : (t : Thing) → times t o + ends_in t us ≤ alive t r
  pub effects : (n : ℕ) → alive (the_effect n) r ≤ times (the_effect n) o + ends_in (the_effect n) us
  pub owners : (n : ℕ) → alive (the_owner n) r ≤ times (the_owner n) o + ends_in (the_owner n) us
  pub notes : (t : Thing) (p : Cleanup → Bool) → noted_by t p es ≡ cleaned_by t p es + (waiting_under false t p o + cleans_in t p us)
  pub ordered : AreOrdered o us

-- ---- one more is told

told_after : (before es : List Event) (e : Event) → AreInTime before es → NoneEnded (before ++ es) (about e) → KeepsCleanups (before ++ es) e →
    AreInTime before (es ++ e ∷ [])
told_after before [] e h n d =
    (subst (λ xs. NoneEnded xs (about e)) (append-nil before) n, subst (λ xs. KeepsCleanups xs e) (append-nil before) d, tt)
told_after before (x ∷ xs) e h n d = (
  h.0,
  h.1,
  told_after (before ++ x ∷ []) xs e h.2 (subst (λ ys. NoneEnded ys (about e)) (sym (append_assoc before (x ∷ []) xs)) n)
      (subst (λ ys. KeepsCleanups ys e) (sym (append_assoc before (x ∷ []) xs)) d),
)

pub ended_more : (t : Thing) (es : List Event) (e : Event) → ends_of t (es ++ e ∷ []) ≡ ends_of t es + ends_of t (e ∷ [])
ended_more t [] e = omega arith
ended_more t (gone u ∷ es) e = let r : ends_of t (es ++ e ∷ []) ≡ ends_of t es + ends_of t (e ∷ []) = ended_more t es e in omega arith
ended_more t (x ∷ es) e = ended_more t es e

pub noted_more : (t : Thing) (p : Cleanup → Bool) (es : List Event) (e : Event) →
    noted_by t p (es ++ e ∷ []) ≡ noted_by t p es + noted_by t p (e ∷ [])
noted_more t p [] e = omega arith
noted_more t p (noted u c ∷ es) e = let r : noted_by t p (es ++ e ∷ []) ≡ noted_by t p es + noted_by t p (e ∷ []) = noted_more t p es e in omega arith
noted_more t p (x ∷ es) e = noted_more t p es e

pub cleaned_more : (t : Thing) (p : Cleanup → Bool) (es : List Event) (e : Event) →
    cleaned_by t p (es ++ e ∷ []) ≡ cleaned_by t p es + cleaned_by t p (e ∷ [])
cleaned_more t p [] e = omega arith
cleaned_more t p (cleaned u c ∷ es) e =
    let r : cleaned_by t p (es ++ e ∷ []) ≡ cleaned_by t p es + cleaned_by t p (e ∷ []) = cleaned_more t p es e in omega arith
cleaned_more t p (x ∷ es) e = cleaned_more t p es e

pub bit_most : (b : Bool) → bit b ≤ 1
bit_most true = omega arith
bit_most false = omega arith

-- what lives lives once, and has not ended
pub alive_once : (r : Roll) (o : Owned) (m : Counts) (es : List Event) (us : List Undoing) (t : Thing) → Ledger r o m es us → alive t r ≤ 1
alive_once r o m es us t l =
    let a : ends_of t es + alive t r ≡ bit (was_made t m) = l.once t in let b : bit (was_made t m) ≤ 1 = bit_most (was_made t m) in omega arith

pub not_ended : (r : Roll) (o : Owned) (m : Counts) (es : List Event) (us : List Undoing) (t : Thing) → Ledger r o m es us → 1 ≤ alive t r →
    ends_of t es ≡ 0
not_ended r o m es us t l h =
    let a : ends_of t es + alive t r ≡ bit (was_made t m) = l.once t in let b : bit (was_made t m) ≤ 1 = bit_most (was_made t m) in omega arith

-- ---- plain events

abbrev pub AllAlive : Roll → List Thing → Type 0
AllAlive r [] = Unit {0}
AllAlive r (t ∷ ts) = (1 ≤ alive t r) × AllAlive r ts

-- a plain event tells of what lives; it ends nothing, runs no body, and is about no cleanup
abbrev pub IsPlain : Roll → Event → Type 0
IsPlain r (body_ran n names) = ⊥
IsPlain r (cleaned t c) = ⊥
IsPlain r (gone t) = ⊥
IsPlain r (noted t c) = ⊥
IsPlain r e = AllAlive r (about e)

abbrev pub ArePlain : Roll → List Event → Type 0
ArePlain r [] = Unit {0}
ArePlain r (e ∷ es) = IsPlain r e × ArePlain r es

record Quiet (e : Event) (t : Thing) (p : Cleanup → Bool) : Type 0 where
  ends_of : ends_of t (e ∷ []) ≡ 0
  noted : noted_by t p (e ∷ []) ≡ 0
  cleaned : cleaned_by t p (e ∷ []) ≡ 0

plain_quiet : (r : Roll) (e : Event) (t : Thing) (p : Cleanup → Bool) → IsPlain r e → Quiet e t p
plain_quiet r (body_ran n names) t p h = absurd h
plain_quiet r (cleaned u c) t p h = absurd h
plain_quiet r (gone u) t p h = absurd h
plain_quiet r (noted u c) t p h = absurd h
plain_quiet r e t p h = record { ends_of = refl; noted = refl; cleaned = refl }

plain_due : (r : Roll) (e : Event) (es : List Event) → IsPlain r e → KeepsCleanups es e
plain_due r (body_ran n names) es h = absurd h
plain_due r (cleaned u c) es h = absurd h
plain_due r (gone u) es h = absurd h
plain_due r (noted u c) es h = absurd h
plain_due r e es h = tt

plain_about : (r : Roll) (e : Event) → IsPlain r e → AllAlive r (about e)
plain_about r (body_ran n names) h = absurd h
plain_about r (cleaned u c) h = absurd h
plain_about r (gone u) h = absurd h
plain_about r (noted u c) h = absurd h
plain_about r e h = h

none_ended : (r : Roll) (o : Owned) (m : Counts) (es : List Event) (us : List Undoing) (ts : List Thing) → Ledger r o m es us → AllAlive r ts →
    NoneEnded es ts
none_ended r o m es us [] l h = tt
none_ended r o m es us (t ∷ ts) l h = (not_ended r o m es us t l h.0, none_ended r o m es us ts l h.1)

pub plain_told : (r : Roll) (o : Owned) (m : Counts) (es : List Event) (us : List Undoing) (e : Event) → Ledger r o m es us → IsPlain r e →
    Ledger r o m (es ++ e ∷ []) us
plain_told r o m es us e l h = record {
  timely = told_after [] es e l.timely (none_ended r o m es us (about e) l (plain_about r e h)) (plain_due r e es h);
  once = λ t. let q : Quiet e t (λ c. true) = plain_quiet r e t (λ c. true) h in let a : ends_of t es + alive t r ≡ bit (was_made t m) = l.once t in
      let b : ends_of t (es ++ e ∷ []) ≡ ends_of t es + ends_of t (e ∷ []) = ended_more t es e in omega arith;
  held = l.held;
  effects = l.effects;
  owners = l.owners;
  notes = λ t p. let q : Quiet e t p = plain_quiet r e t p h in
      let a : noted_by t p es ≡ cleaned_by t p es + (waiting_under false t p o + cleans_in t p us) = l.notes t p in
      let b : noted_by t p (es ++ e ∷ []) ≡ noted_by t p es + noted_by t p (e ∷ []) = noted_more t p es e in
      let c : cleaned_by t p (es ++ e ∷ []) ≡ cleaned_by t p es + cleaned_by t p (e ∷ []) = cleaned_more t p es e in omega arith;
  ordered = l.ordered;
}

pub plain_all : (r : Roll) (o : Owned) (m : Counts) (es : List Event) (us : List Undoing) (more : List Event) → Ledger r o m es us → ArePlain r more →
    Ledger r o m (es ++ more) us
plain_all r o m es us [] l h = subst (λ xs. Ledger r o m xs us) (sym (append-nil es)) l
plain_all r o m es us (e ∷ more) l h =
    subst (λ xs. Ledger r o m xs us) (append_assoc es (e ∷ []) more) (plain_all r o m (es ++ e ∷ []) us more (plain_told r o m es us e l h.0) h.1)

-- ---- a step of a teardown

-- a cleanup is about to be done
pub cleaned_told : (r : Roll) (o : Owned) (m : Counts) (es : List Event) (us : List Undoing) (t : Thing) (c : Cleanup) →
    Ledger r o m es (cleans t c ∷ us) → Ledger r o m (es ++ cleaned t c ∷ []) us
cleaned_told r o m es us t c l = record {
  timely = told_after [] es (cleaned t c) l.timely (not_ended r o m es (cleans t c ∷ us) t l there, tt)
      (λ p. let a : noted_by t p es
      ≡ cleaned_by t p es + (waiting_under false t p o + (bit (same_thing t t && p c) + cleans_in t p us)) = l.notes t p in
      let b : bit (same_thing t t && p c) ≡ bit (p c) = ap (λ x. bit (x && p c)) (same_self t) in omega arith);
  once = λ s. let a : ends_of s es + alive s r ≡ bit (was_made s m) = l.once s in
      let b : ends_of s (es ++ cleaned t c ∷ []) ≡ ends_of s es + 0 = ended_more s es (cleaned t c) in omega arith;
  held = l.held;
  effects = l.effects;
  owners = l.owners;
  notes = λ s p. let a : noted_by s p es
      ≡ cleaned_by s p es + (waiting_under false s p o + (bit (same_thing s t && p c) + cleans_in s p us)) = l.notes s p in
      let b : noted_by s p (es ++ cleaned t c ∷ []) ≡ noted_by s p es + 0 = noted_more s p es (cleaned t c) in
      let d : cleaned_by s p (es ++ cleaned t c ∷ []) ≡ cleaned_by s p es + (bit (same_thing s t && p c) + 0) = cleaned_more s p es (cleaned t c) in
      omega arith;
  ordered = l.ordered.1;
}
  where
    there : 1 ≤ alive t r
    there = let a : times t o + ends_in t us ≤ alive t r = l.held t in let b : 1 ≤ times t o + ends_in t us = l.ordered.0 in omega arith

-- a thing goes out of the roll
pub gone_told : (r r' : Roll) (o : Owned) (m : Counts) (es : List Event) (us : List Undoing) (t : Thing) →
    ((s : Thing) → alive s r' ≡ cond (same_thing s t) 0 (alive s r)) →
    Ledger r o m es (ends t ∷ us) → Ledger r' o m (es ++ gone t ∷ []) us
gone_told r r' o m es us t out l = record {
  timely = told_after [] es (gone t) l.timely (not_ended r o m es (ends t ∷ us) t l there, tt)
      (λ p. let a : noted_by t p es ≡ cleaned_by t p es + (waiting_under false t p o + cleans_in t p us) = l.notes t p in
      let b : waiting_under false t p o + cleans_in t p us ≡ 0 = l.ordered.0 p in omega arith);
  once = λ s. let b : ends_of s (es ++ gone t ∷ []) ≡ ends_of s es + (bit (same_thing s t) + 0) = ended_more s es (gone t) in
      once s (same_thing s t) refl (out s) b;
  held = λ s. held s (same_thing s t) refl (out s);
  effects = λ n. let a : alive (the_effect n) r ≤ times (the_effect n) o + (bit (same_thing (the_effect n) t) + ends_in (the_effect n) us) =
      l.effects n in
      rooted (same_thing (the_effect n) t) (alive (the_effect n) r) (alive (the_effect n) r') (times (the_effect n) o + ends_in (the_effect n) us)
      (out (the_effect n)) (omega arith);
  owners = λ n. let a : alive (the_owner n) r ≤ times (the_owner n) o + (bit (same_thing (the_owner n) t) + ends_in (the_owner n) us) = l.owners n in
      rooted (same_thing (the_owner n) t) (alive (the_owner n) r) (alive (the_owner n) r') (times (the_owner n) o + ends_in (the_owner n) us)
      (out (the_owner n)) (omega arith);
  notes = λ s p. let a : noted_by s p es ≡ cleaned_by s p es + (waiting_under false s p o + cleans_in s p us) = l.notes s p in
      let b : noted_by s p (es ++ gone t ∷ []) ≡ noted_by s p es + 0 = noted_more s p es (gone t) in
      let d : cleaned_by s p (es ++ gone t ∷ []) ≡ cleaned_by s p es + 0 = cleaned_more s p es (gone t) in omega arith;
  ordered = l.ordered.1;
}
  where
    self : bit (same_thing t t) ≡ 1
    self = ap bit (same_self t)

    own : times t o + (1 + ends_in t us) ≤ alive t r
    own = let a : times t o + (bit (same_thing t t) + ends_in t us) ≤ alive t r = l.held t in let b : bit (same_thing t t) ≡ 1 = self in omega arith

    there : 1 ≤ alive t r
    there = let a : times t o + (1 + ends_in t us) ≤ alive t r = own in omega arith

    most : alive t r ≤ 1
    most = alive_once r o m es (ends t ∷ us) t l

    once : (s : Thing) (b : Bool) → same_thing s t ≡ b → alive s r' ≡ cond b 0 (alive s r) →
        ends_of s (es ++ gone t ∷ []) ≡ ends_of s es + (bit b + 0) → ends_of s (es ++ gone t ∷ []) + alive s r' ≡ bit (was_made s m)
    once s true e a b =
        let k : s ≡ t = same_is s t e in
        let n : ends_of s es + alive s r ≡ bit (was_made s m) = l.once s in
        let x : 1 ≤ alive s r = subst (λ y. 1 ≤ alive y r) (sym k) there in
        let y : alive s r ≤ 1 = alive_once r o m es (ends t ∷ us) s l in
        omega arith
    once s false e a b = let n : ends_of s es + alive s r ≡ bit (was_made s m) = l.once s in omega arith

    held : (s : Thing) (b : Bool) → same_thing s t ≡ b → alive s r' ≡ cond b 0 (alive s r) → times s o + ends_in s us ≤ alive s r'
    held s true e a =
        let k : t ≡ s = sym (same_is s t e) in
        let x : times s o + (1 + ends_in s us) ≤ alive s r = subst (λ y. times y o + (1 + ends_in y us) ≤ alive y r) k own in
        let y : alive s r ≤ 1 = alive_once r o m es (ends t ∷ us) s l in
        omega arith
    held s false e a =
        let h : times s o + (bit (same_thing s t) + ends_in s us) ≤ alive s r = l.held s in
        let x : bit (same_thing s t) ≡ 0 = ap bit e in
        omega arith

    rooted : (b : Bool) (old new rest : ℕ) → new ≡ cond b 0 old → old ≤ bit b + rest → new ≤ rest
    rooted true old new rest a h = omega arith
    rooted false old new rest a h = omega arith

-- ---- a teardown begins

-- what stands under a live holder is to be undone
pub taken_back : (r : Roll) (o : Owned) (m : Counts) (es : List Event) (t : Thing) → 1 ≤ times t o → Ledger r o m es [] →
    Ledger r (emptied t o) m es (teardown_of t (under t o))
taken_back r o m es t there l = record {
  timely = l.timely;
  once = l.once;
  held = λ s. let a : times s o + 0 ≤ alive s r = l.held s in
      let b : times s (emptied t o) + ends_in s (teardown_of t (under t o)) ≡ times s o = sum s in omega arith;
  effects = λ n. let a : alive (the_effect n) r ≤ times (the_effect n) o + 0 = l.effects n in
      let b : times (the_effect n) (emptied t o) + ends_in (the_effect n) (teardown_of t (under t o)) ≡ times (the_effect n) o = sum (the_effect n) in
      omega arith;
  owners = λ n. let a : alive (the_owner n) r ≤ times (the_owner n) o + 0 = l.owners n in
      let b : times (the_owner n) (emptied t o) + ends_in (the_owner n) (teardown_of t (under t o)) ≡ times (the_owner n) o = sum (the_owner n) in
      omega arith;
  notes = λ s p. let a : noted_by s p es ≡ cleaned_by s p es + (waiting_under false s p o + 0) = l.notes s p in
      let b : waiting_under false s p (emptied t o) + waiting_under (same_thing s t) s p (under t o)
      ≡ waiting_under false s p o = waiting_emptied false s t p o in
      let c : cleans_in s p (teardown_of t (under t o)) ≡ waiting_under (same_thing s t) s p (under t o) = cleans_teardown s t p (under t o) in
      omega arith;
  ordered = subst (AreOrdered (emptied t o)) (append-nil (teardown_of t (under t o)))
      (teardown_ordered t (emptied t o) (under t o) [] (λ s. let a : times s o + 0 ≤ alive s r = l.held s in
      let b : alive s r ≤ 1 = alive_once r o m es [] s l in
      let c : times s (emptied t o) + times s (under t o) ≡ times s o = times_emptied s t o in omega arith)
      (let a : found t o ≤ times t (emptied t o) = found_emptied t o in let b : 1 ≤ found t o = found_least t o there in omega arith) tt);
}
  where
    sum : (s : Thing) → times s (emptied t o) + ends_in s (teardown_of t (under t o)) ≡ times s o
    sum s = let a : times s (emptied t o) + times s (under t o) ≡ times s o = times_emptied s t o in
        let b : ends_in s (teardown_of t (under t o)) ≡ times s (under t o) = ends_teardown s t (under t o) in omega arith

-- a live thing is to be disposed
pub disposed : (r : Roll) (o : Owned) (m : Counts) (es : List Event) (t : Thing) → 1 ≤ alive t r → Ledger r o m es [] →
    Ledger r (taken_out t o) m es (disposal_of t o)
disposed r o m es t there l = record {
  timely = l.timely;
  once = l.once;
  held = held;
  effects = λ n. let a : alive (the_effect n) r ≤ times (the_effect n) o + 0 = l.effects n in
      rooted (the_effect n) (same_thing (the_effect n) t) refl (omega arith);
  owners = λ n. let a : alive (the_owner n) r ≤ times (the_owner n) o + 0 = l.owners n in
      rooted (the_owner n) (same_thing (the_owner n) t) refl (omega arith);
  notes = λ s p. let a : noted_by s p es ≡ cleaned_by s p es + (waiting_under false s p o + 0) = l.notes s p in
      let b : waiting_under false s p (taken_out t o) + waiting_under (same_thing s t) s p (under t o)
      ≡ waiting_under false s p o = waiting_taken false s t p o in
      let c : cleans_in s p (teardown_of t (under t o)) ≡ waiting_under (same_thing s t) s p (under t o) = cleans_teardown s t p (under t o) in
      let d : cleans_in s p (teardown_of t (under t o) ++ ends t ∷ [])
      ≡ cleans_in s p (teardown_of t (under t o)) + 0 = cleans_append s p (teardown_of t (under t o)) (ends t ∷ []) in omega arith;
  ordered = teardown_ordered t (taken_out t o) (under t o) (ends t ∷ [])
      (λ s. let a : times s (taken_out t o) + (times s (under t o) + bit (same_thing s t)) ≤ alive s r = sum s (same_thing s t) refl in
      let b : alive s r ≤ 1 = alive_once r o m es [] s l in omega arith)
      (let a : bit (same_thing t t) ≡ 1 = self in omega arith) (
        λ p. let a : times t (taken_out t o) + (times t (under t o) + bit (same_thing t t)) ≤ alive t r = sum t (same_thing t t) refl in
            let b : alive t r ≤ 1 = alive_once r o m es [] t l in
            let c : bit (same_thing t t) ≡ 1 = self in
            let d : waiting_under false t p (taken_out t o) ≡ 0 = none_waits t p (taken_out t o) (omega arith) in omega arith,
        tt,
      );
}
  where
    self : bit (same_thing t t) ≡ 1
    self = ap bit (same_self t)

    ends_here : (s : Thing) → ends_in s (disposal_of t o) ≡ times s (under t o) + bit (same_thing s t)
    ends_here s = let a : ends_in s (disposal_of t o)
        ≡ ends_in s (teardown_of t (under t o)) + (bit (same_thing s t) + 0) = ends_append s (teardown_of t (under t o)) (ends t ∷ []) in
        let b : ends_in s (teardown_of t (under t o)) ≡ times s (under t o) = ends_teardown s t (under t o) in omega arith

    one_out : (a b f n k : ℕ) → a + b + f ≡ n → (1 ≤ n → 1 ≤ f) → n ≤ k → k ≤ 1 → 1 ≤ k → a + (b + 1) ≤ k
    one_out a b f zero k e g h i j = omega arith
    one_out a b f (suc n) k e g h i j = let x : 1 ≤ f = g (omega arith) in omega arith

    sum : (s : Thing) (b : Bool) → same_thing s t ≡ b → times s (taken_out t o) + (times s (under t o) + bit b) ≤ alive s r
    sum s true e =
        let k : t ≡ s = sym (same_is s t e) in
        subst (λ y. times y (taken_out t o) + (times y (under t o) + 1) ≤ alive y r) k
        (one_out (times t (taken_out t o)) (times t (under t o)) (found t o) (times t o) (alive t r) (self_taken t o) (found_least t o)
        (let a : times t o + 0 ≤ alive t r = l.held t in omega arith) (alive_once r o m es [] t l) there)
    sum s false e = let a : times s (taken_out t o) + times s (under t o) ≡ times s o = times_taken s t o e in
        let b : times s o + 0 ≤ alive s r = l.held s in omega arith

    held : (s : Thing) → times s (taken_out t o) + ends_in s (disposal_of t o) ≤ alive s r
    held s = let a : times s (taken_out t o) + (times s (under t o) + bit (same_thing s t)) ≤ alive s r = sum s (same_thing s t) refl in
        let b : ends_in s (disposal_of t o) ≡ times s (under t o) + bit (same_thing s t) = ends_here s in omega arith

    rooted : (s : Thing) (b : Bool) → same_thing s t ≡ b → alive s r ≤ times s o → alive s r ≤ times s (taken_out t o) + ends_in s (disposal_of t o)
    rooted s true e h = let a : alive s r ≤ 1 = alive_once r o m es [] s l in
        let b : ends_in s (disposal_of t o) ≡ times s (under t o) + bit (same_thing s t) = ends_here s in
        let c : bit (same_thing s t) ≡ 1 = ap bit e in omega arith
    rooted s false e h = let a : times s (taken_out t o) + times s (under t o) ≡ times s o = times_taken s t o e in
        let b : ends_in s (disposal_of t o) ≡ times s (under t o) + bit (same_thing s t) = ends_here s in omega arith

-- ---- things are made, cleanups are noted, bodies are evaluated

-- a live effect or owner is found once
pub found_once : (r : Roll) (o : Owned) (m : Counts) (es : List Event) (t : Thing) → 1 ≤ times t o → Ledger r o m es [] → found t o ≡ 1
found_once r o m es t there l =
    let a : 1 ≤ found t o = found_least t o there in
    let b : times t (taken_out t o) + times t (under t o) + found t o ≡ times t o = self_taken t o in
    let c : times t o + 0 ≤ alive t r = l.held t in
    let d : alive t r ≤ 1 = alive_once r o m es [] t l in
    omega arith

-- a cleanup is noted by a live effect
pub noted_told : (r : Roll) (o : Owned) (m : Counts) (es : List Event) (t : Thing) (c : Cleanup) → 1 ≤ times t o → Ledger r o m es [] →
    Ledger r (put_under t (cleanup c nothing) o) m (es ++ noted t c ∷ []) []
noted_told r o m es t c there l = record {
  timely = told_after [] es (noted t c) l.timely (not_ended r o m es [] t l (let a : times t o + 0 ≤ alive t r = l.held t in omega arith), tt) tt;
  once = λ s. let a : ends_of s es + alive s r ≡ bit (was_made s m) = l.once s in
      let b : ends_of s (es ++ noted t c ∷ []) ≡ ends_of s es + 0 = ended_more s es (noted t c) in omega arith;
  held = λ s. let a : times s o + 0 ≤ alive s r = l.held s in
      let b : times s (put_under t (cleanup c nothing) o) ≡ times s o + found t o * 0 = times_put s t (cleanup c nothing) o in omega arith;
  effects = λ n. let a : alive (the_effect n) r ≤ times (the_effect n) o + 0 = l.effects n in
      let b : times (the_effect n) (put_under t (cleanup c nothing) o)
      ≡ times (the_effect n) o + found t o * 0 = times_put (the_effect n) t (cleanup c nothing) o in omega arith;
  owners = λ n. let a : alive (the_owner n) r ≤ times (the_owner n) o + 0 = l.owners n in
      let b : times (the_owner n) (put_under t (cleanup c nothing) o)
      ≡ times (the_owner n) o + found t o * 0 = times_put (the_owner n) t (cleanup c nothing) o in omega arith;
  notes = λ s p. let a : noted_by s p es ≡ cleaned_by s p es + (waiting_under false s p o + 0) = l.notes s p in
      let b : noted_by s p (es ++ noted t c ∷ []) ≡ noted_by s p es + (bit (same_thing s t && p c) + 0) = noted_more s p es (noted t c) in
      let d : cleaned_by s p (es ++ noted t c ∷ []) ≡ cleaned_by s p es + 0 = cleaned_more s p es (noted t c) in
      let f : waiting_under false s p (put_under t (cleanup c nothing) o)
      ≡ waiting_under false s p o + found t o * (bit (same_thing s t && p c) + 0) = waiting_put false s t p (cleanup c nothing) o in
      let g : found t o * (bit (same_thing s t && p c) + 0)
      ≡ 1 * (bit (same_thing s t && p c) + 0) = ap (λ x. x * (bit (same_thing s t && p c) + 0)) (found_once r o m es t there l) in
      omega arith;
  ordered = tt;
}

-- a body is evaluated where nothing of its effect waits
pub body_told : (r : Roll) (o : Owned) (m : Counts) (es : List Event) (n : ℕ) (names : List ℕ) → 1 ≤ alive (the_effect n) r →
    ((p : Cleanup → Bool) → waiting_under false (the_effect n) p o ≡ 0) → Ledger r o m es [] →
    Ledger r o m (es ++ body_ran n names ∷ []) []
body_told r o m es n names there clear l = record {
  timely = told_after [] es (body_ran n names) l.timely (not_ended r o m es [] (the_effect n) l there, tt)
      (λ p. let a : noted_by (the_effect n) p es
      ≡ cleaned_by (the_effect n) p es + (waiting_under false (the_effect n) p o + 0) = l.notes (the_effect n) p in
      let b : waiting_under false (the_effect n) p o ≡ 0 = clear p in omega arith);
  once = λ s. let a : ends_of s es + alive s r ≡ bit (was_made s m) = l.once s in
      let b : ends_of s (es ++ body_ran n names ∷ []) ≡ ends_of s es + 0 = ended_more s es (body_ran n names) in omega arith;
  held = l.held;
  effects = l.effects;
  owners = l.owners;
  notes = λ s p. let a : noted_by s p es ≡ cleaned_by s p es + (waiting_under false s p o + 0) = l.notes s p in
      let b : noted_by s p (es ++ body_ran n names ∷ []) ≡ noted_by s p es + 0 = noted_more s p es (body_ran n names) in
      let d : cleaned_by s p (es ++ body_ran n names ∷ []) ≡ cleaned_by s p es + 0 = cleaned_more s p es (body_ran n names) in omega arith;
  ordered = tt;
}

-- what a making owes: the thing is new, lives afterwards, and stands among what is owned at most once; an effect or an owner does
pub record IsMaking (r r' : Roll) (o o' : Owned) (m m' : Counts) (t : Thing) : Type 0 where
  pub new : was_made t m ≡ false
  pub roll : (s : Thing) → alive s r' ≡ alive s r + bit (same_thing s t)
  pub counts : (s : Thing) → bit (was_made s m') ≡ bit (was_made s m) + bit (same_thing s t)
  pub most : (s : Thing) → times s o' ≤ times s o + bit (same_thing s t)
  pub effects : (n : ℕ) → times (the_effect n) o + bit (same_thing (the_effect n) t) ≤ times (the_effect n) o'
  pub owners : (n : ℕ) → times (the_owner n) o + bit (same_thing (the_owner n) t) ≤ times (the_owner n) o'
  pub waits : (s : Thing) (p : Cleanup → Bool) → waiting_under false s p o' ≡ waiting_under false s p o

pub made_thing : (r r' : Roll) (o o' : Owned) (m m' : Counts) (es : List Event) (t : Thing) → IsMaking r r' o o' m m' t → Ledger r o m es [] →
    Ledger r' o' m' es []
made_thing r r' o o' m m' es t k l = record {
  timely = l.timely;
  once = λ s. let a : ends_of s es + alive s r ≡ bit (was_made s m) = l.once s in let b : alive s r' ≡ alive s r + bit (same_thing s t) = k.roll s in
      let c : bit (was_made s m') ≡ bit (was_made s m) + bit (same_thing s t) = k.counts s in omega arith;
  held = λ s. let a : times s o + 0 ≤ alive s r = l.held s in let b : alive s r' ≡ alive s r + bit (same_thing s t) = k.roll s in
      let c : times s o' ≤ times s o + bit (same_thing s t) = k.most s in omega arith;
  effects = λ n. let a : alive (the_effect n) r ≤ times (the_effect n) o + 0 = l.effects n in
      let b : alive (the_effect n) r' ≡ alive (the_effect n) r + bit (same_thing (the_effect n) t) = k.roll (the_effect n) in
      let c : times (the_effect n) o + bit (same_thing (the_effect n) t) ≤ times (the_effect n) o' = k.effects n in omega arith;
  owners = λ n. let a : alive (the_owner n) r ≤ times (the_owner n) o + 0 = l.owners n in
      let b : alive (the_owner n) r' ≡ alive (the_owner n) r + bit (same_thing (the_owner n) t) = k.roll (the_owner n) in
      let c : times (the_owner n) o + bit (same_thing (the_owner n) t) ≤ times (the_owner n) o' = k.owners n in omega arith;
  notes = λ s p. let a : noted_by s p es ≡ cleaned_by s p es + (waiting_under false s p o + 0) = l.notes s p in
      let b : waiting_under false s p o' ≡ waiting_under false s p o = k.waits s p in omega arith;
  ordered = tt;
}
