-- Notes that are followed one after the other.
use Rattle.std.proofs.Common.{◌≡◌, ℕ, true, false, Option, Some, None, List, [], ◌∷◌, ◌++◌, refl, sym, ◌∙◌, ap, subst, append_assoc, append-nil}
use Rattle.std.specs.List.{AllByRecursion}
use Rattle.page_ops.proofs.Shared.{text_brings}
use Rattle.wire_model.specs.Notes.{IsNote, Note, gone, mount, op, ready}
use Rattle.wire_model.specs.Following.{Followed, Mounted, Taken, follow, take_note, then_follow}
use Rattle.page_follow.specs.declared.follower.FollowFault.{FollowFault}
use Rattle.page_follow.specs.declared.follower.FollowFault.TheVariants as fault
use Rattle.page_follow.specs.Following.{Halts, TakesAll}
use Rattle.page_follow.specs.Views.{Fails, IsDoable, Takes}

-- ---- notes behind notes

-- what further notes make of it
abbrev pub and_then : Followed → List Note → Followed
and_then f ys = record { pages = (follow ys f.pages).pages; out = f.out ++ (follow ys f.pages).out; refused = (follow ys f.pages).refused }

-- what was printed comes first
abbrev before : List ℕ → Followed → Followed
before out f = record { pages = f.pages; out = out ++ f.out; refused = f.refused }

joined_by : (o : Option Taken) (ps : List Mounted) (xs ys : List Note) →
    ((t : Taken) → (follow xs t.pages).refused ≡ false → follow (xs ++ ys) t.pages ≡ and_then (follow xs t.pages) ys) →
    (then_follow o ps (follow xs)).refused ≡ false → then_follow o ps (follow (xs ++ ys)) ≡ and_then (then_follow o ps (follow xs)) ys
joined_by None ps xs ys ih h = absurd cc
joined_by (Some t) ps xs ys ih h =
    let f : Followed = follow xs t.pages in
    let g : Followed = follow ys f.pages in
    ap (before t.out) (ih t h)
    ∙ ap (λ (l : List ℕ). record { pages = g.pages; out = l; refused = g.refused }) (sym (append_assoc t.out f.out g.out))

pub joined : (xs ys : List Note) (ps : List Mounted) → (follow xs ps).refused ≡ false → follow (xs ++ ys) ps ≡ and_then (follow xs ps) ys
joined [] ys ps h = refl
joined (x ∷ xs) ys ps h = joined_by (take_note x ps) ps xs ys (λ t k. joined xs ys t.pages k) h

refused_by : (o : Option Taken) (ps : List Mounted) (xs ys : List Note) →
    ((t : Taken) → (follow xs t.pages).refused ≡ true → (follow (xs ++ ys) t.pages).refused ≡ true) →
    (then_follow o ps (follow xs)).refused ≡ true → (then_follow o ps (follow (xs ++ ys))).refused ≡ true
refused_by None ps xs ys ih h = refl
refused_by (Some t) ps xs ys ih h = ih t h

-- what is refused is so whatever comes next
pub stays_refused : (xs ys : List Note) (ps : List Mounted) → (follow xs ps).refused ≡ true → (follow (xs ++ ys) ps).refused ≡ true
stays_refused [] ys ps h = absurd cc
stays_refused (x ∷ xs) ys ps h = refused_by (take_note x ps) ps xs ys (λ t k. stays_refused xs ys t.pages k) h

-- ---- one note

-- what notes do from here on, behind what is printed, is what some did from there on
pub record GoesLike (begun now : List ℕ) (all rest : Followed) : Type 0 where
  pub printed : now ++ rest.out ≡ begun ++ all.out
  pub pages : rest.pages ≡ all.pages
  pub refused : rest.refused ≡ all.refused

one_by : (o : Option Taken) (ps now : List Mounted) (xs : List Note) (out after : List ℕ) → Takes o now out after →
    GoesLike out after (then_follow o ps (follow xs)) (follow xs now)
one_by None ps now xs out after h = absurd h
one_by (Some t) ps now xs out after h = record {
  printed = ap (λ (l : List ℕ). l ++ (follow xs now).out) h.1 ∙ (append_assoc out t.out (follow xs now).out
      ∙ ap (λ (qs : List Mounted). out ++ (t.out ++ (follow xs qs).out)) h.0);
  pages = ap (λ (qs : List Mounted). (follow xs qs).pages) h.0;
  refused = ap (λ (qs : List Mounted). (follow xs qs).refused) h.0;
}

pub one_taken : (x : Note) (xs : List Note) (ps now : List Mounted) (out after begun : List ℕ) (all : Followed) → Takes (take_note x ps) now out after →
    GoesLike begun out all (follow (x ∷ xs) ps) → GoesLike begun after all (follow xs now)
one_taken x xs ps now out after begun all h g =
    let one = one_by (take_note x ps) ps now xs out after h in
    record { printed = one.printed ∙ g.printed; pages = one.pages ∙ g.pages; refused = one.refused ∙ g.refused }

-- one that is refused
pub one_refused : (x : Note) (xs : List Note) (ps now : List Mounted) (out after begun : List ℕ) (all : Followed) →
    Fails fault.Refused (take_note x ps) ps now out after → GoesLike begun out all (follow (x ∷ xs) ps) →
    (all.refused ≡ true) × (after ≡ begun ++ all.out)
one_refused x xs ps now out after begun all h g =
    let stops : follow (x ∷ xs) ps ≡ record { pages = ps; out = []; refused = true } = ap (λ (o : Option Taken). then_follow o ps (follow xs)) h.0 in (
      sym g.refused ∙ ap (λ (f : Followed). f.refused) stops,
      h.2 ∙ (sym (append-nil out) ∙ (ap (λ (f : Followed). out ++ f.out) (sym stops) ∙ g.printed)),
    )

-- one that isn't taken
pub halted : (why : FollowFault) (x : Note) (xs all : List Note) (old ps now : List Mounted) (begun out after : List ℕ) →
    Fails why (take_note x ps) ps now out after → GoesLike begun out (follow all old) (follow (x ∷ xs) ps) → Halts why all old begun after
halted fault.Refused x xs all old ps now begun out after h g = one_refused x xs ps now out after begun (follow all old) h g
halted fault.NoMemory x xs all old ps now begun out after h g = tt

-- none is left
pub all_taken : (all : List Note) (old now : List Mounted) (begun after : List ℕ) → GoesLike begun after (follow all old) (follow [] now) →
    TakesAll all old now begun after
all_taken all old now begun after g = record { fine = sym g.refused; pages = g.pages; printed = sym (append-nil after) ∙ g.printed }

-- ---- what can be done

doable : (x : Note) → IsNote x → IsDoable x
doable (mount n) h = tt
doable (op n o) h = text_brings o h.1
doable (ready n) h = tt
doable (gone n) h = tt

pub all_doable : (xs : List Note) → AllByRecursion IsNote xs → AllByRecursion IsDoable xs
all_doable [] h = tt
all_doable (x ∷ xs) h = (doable x h.0, all_doable xs h.1)

-- the notes of a stream that come behind none
pub new_doable : (before after ns : List Note) → before ≡ [] → after ≡ before ++ ns → AllByRecursion IsNote ns → AllByRecursion IsDoable after
new_doable before after ns e told each = subst (AllByRecursion IsDoable) (sym (told ∙ ap (λ (l : List Note). l ++ ns) e)) (all_doable ns each)
