-- A piece of a stream is followed.
use Rattle.std.proofs.Common.{◌≡◌, ℕ, true, List, [], ◌++◌, Result, Ok, Err, ◌∙◌, ap, subst, sym, inl, inr}
use Rattle.std.specs.Prelude.{IfErr, IfSome, IsErrAnd, IsErrOf, MatchResult, OnOk, Option}
use Rattle.sig_io.specs.Counts.{AppendsFront}
use Rattle.wire_model.specs.Notes.{Note}
use Rattle.wire_model.specs.Following.{Mounted, follow}
use Rattle.page_wire.specs.Decoding.{Decoding, Goes, Stops}
use Rattle.page_follow.specs.declared.follower.FollowFault.{FollowFault}
use Rattle.page_follow.specs.declared.follower.FollowFault.TheVariants as fault
use Rattle.page_follow.specs.Following.{EndsAt, Falls, Halts, HasFault, HasNotes, Passes, Streaming, TakesAll, WritesFront}
use Rattle.page_follow.specs.declared.input.FollowEnd.{FollowEnd}
use Rattle.page_follow.specs.declared.input.FollowEnd.TheVariants as end

-- a decoder's part of what is kept of a stream, and the pages
abbrev pub kept : Decoding → List Mounted → Streaming
kept d ps = record { decoding = d; pages = ps }

-- what comes behind none is all
alone : (before after ns : List Note) → before ≡ [] → after ≡ before ++ ns → after ≡ ns
alone before after ns e told = told ∙ ap (λ (l : List Note). l ++ ns) e

pub passes_by : (r : Result (Unit {0}) FollowFault) (d next : Decoding) (ps now : List Mounted) (piece out printed : List ℕ) (before after : List Note) → before ≡ [] →
    Goes d piece before after next → MatchResult r (λ u. TakesAll after ps now out printed) (λ e. Halts e after ps out printed) →
    OnOk r (Passes (kept d ps) piece out printed (kept next now))
passes_by (Ok u) d next ps now piece out printed before after e g t = record {
  notes = g.notes;
  spelt = g.spelt;
  taken = subst (λ (ns : List Note). TakesAll ns ps now out printed) (alone before after g.notes e g.told) t;
  going = g.going;
}
passes_by (Err why) d next ps now piece out printed before after e g t = tt

pub falls_by : (r : Result (Unit {0}) FollowFault) (d next : Decoding) (ps now : List Mounted) (piece out printed : List ℕ) (before after : List Note) → before ≡ [] →
    Goes d piece before after next → MatchResult r (λ u. TakesAll after ps now out printed) (λ e. Halts e after ps out printed) → IsErrOf r fault.Refused →
    Falls (kept d ps) piece out printed
falls_by (Ok u) d next ps now piece out printed before after e g t is = absurd cc
falls_by (Err fault.NoMemory) d next ps now piece out printed before after e g t is = absurd cc
falls_by (Err fault.Refused) d next ps now piece out printed before after e g t is =
    let same = alone before after g.notes e g.told in record {
      notes = g.notes;
      bad = inr (next.rest, g.spelt, sym (ap (λ (ns : List Note). (follow ns ps).refused) same) ∙ t.0);
      printed = t.1 ∙ ap (λ (ns : List Note). out ++ (follow ns ps).out) same;
    }

-- a frame that is no note's stops it
pub stops_by : (d next : Decoding) (ps : List Mounted) (piece out printed : List ℕ) (before after : List Note) → before ≡ [] → Stops d piece before after next →
    printed ≡ out ++ (follow after ps).out → Falls (kept d ps) piece out printed
stops_by d next ps piece out printed before after e s told = record {
  notes = s.notes;
  bad = inl s.spelt;
  printed = told ∙ ap (λ (ns : List Note). out ++ (follow ns ps).out) (alone before after s.notes e s.told);
}

-- an error is itself
pub own_error : (a b : FollowFault) → IsErrOf {T = Unit {0}} (Err a) b → a ≡ b
own_error a b is = cc

-- what holds anyway
pub whichever : {P : Type 0} (r : Result (Unit {0}) FollowFault) → P → OnOk r P
whichever (Ok u) p = p
whichever (Err why) p = tt

-- ---- what a piece wrote

-- writing failed
pub by_write : (r : Result (Unit {0}) FollowEnd) (old : Streaming) (piece : List ℕ) (held now : Option (List ℕ)) → IsErrAnd r (λ e. e ≡ end.Write) →
    WritesFront old piece held now → IfErr r (λ e. EndsAt e old piece held now)
by_write (Ok u) old piece held now h w = tt
by_write (Err e) old piece held now h w = subst (λ (x : FollowEnd). EndsAt x old piece held now) (sym h) w

-- a front of what is printed behind nothing
pub passes_front : (old new : Streaming) (piece begun out : List ℕ) (held now : Option (List ℕ)) → begun ≡ [] → Passes old piece begun out new → AppendsFront held now out →
    WritesFront old piece held now
passes_front old new piece begun out held now e p f = record {
  notes = p.notes;
  spelt = inr (new.decoding.rest, p.spelt);
  written = subst (AppendsFront held now) (p.taken.printed ∙ ap (λ (l : List ℕ). l ++ (follow p.notes old.pages).out) e) f;
}

notes_to : (stream : List ℕ) (notes : List Note) (ps : List Mounted) → HasFault stream notes ps → HasNotes stream notes
notes_to stream notes ps (inl up) = inl up
notes_to stream notes ps (inr bad) = inr (bad.0, bad.1)

pub falls_front : (old : Streaming) (piece begun out : List ℕ) (held now : Option (List ℕ)) → begun ≡ [] → Falls old piece begun out → AppendsFront held now out →
    WritesFront old piece held now
falls_front old piece begun out held now e p f = record {
  notes = p.notes;
  spelt = notes_to (old.decoding.rest ++ piece) p.notes old.pages p.bad;
  written = subst (AppendsFront held now) (p.printed ∙ ap (λ (l : List ℕ). l ++ (follow p.notes old.pages).out) e) f;
}

-- an error of a kind
pub by_kind : (r : Result (Unit {0}) FollowEnd) (kind : FollowEnd) (first : Option (List ℕ)) (P : FollowEnd → List ℕ → Type 0) → IsErrAnd r (λ e. e ≡ kind) →
    IfSome first (P kind) → IfErr r (λ e. IfSome first (P e))
by_kind (Ok u) kind first P h w = tt
by_kind (Err e) kind first P h w = subst (λ (x : FollowEnd). IfSome first (P x)) (sym h) w
