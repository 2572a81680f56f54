-- What came of a stream of frames, and what following it wrote.
use Rattle.std.proofs.Common.{◌≡◌, ◌≤◌, ◌<◌, ◌+◌, ◌^◌, ℕ, zero, suc, true, false, Option, Some, None, IfSome, List, [], ◌∷◌, ◌++◌, length, take, refl, sym, ◌∙◌, ap, subst, append_assoc, append-nil, arith, inl, inr}
use Rattle.std.specs.List.{AllByRecursion}
use Rattle.std.specs.Io.KnownBytes.{Appends, Consumes, IsAtEnd}
use Rattle.std.proofs.KnownBytes.{Appends-nil, Appends-trans, Consumes-nil, Consumes-trans}
use Rattle.std.proofs.lemmas.List.{length-append}
use Rattle.sig_io.specs.Counts.{AppendsFront}
use Rattle.wire_model.specs.Notes.{Note, frames}
use Rattle.wire_model.specs.Following.{Followed, Mounted, follow}
use Rattle.wire_model.specs.Streams.{Spells, SpellsUpTo}
use Rattle.page_wire.specs.OneFrame.{FrontSpells, FrontStops, GoesOn, OneStream, StopsLater}
use Rattle.page_follow.specs.Following.{Ended, EndsIn, EndsInside, HasBadFrame, HasFault, HasNotes, IsAtFault, IsFollowed, IsFollowedInPart, IsFollowedUpTo, NoFault, Streaming, Writes}
use Rattle.page_follow.specs.declared.input.FollowEnd.{FollowEnd}
use Rattle.page_follow.specs.declared.input.FollowEnd.TheVariants as end
use Rattle.page_follow.specs.declared.input.TheConstants.{MOST_FRAMES}
use Rattle.page_follow.proofs.Followed.{and_then, joined, stays_refused}

-- So many bytes came of a stream. Their notes were followed, and all that these print was written.
pub record Came (first left begun held : Option (List ℕ)) (now : Streaming) (count : ℕ) : Type 0 where
  pub stream : List ℕ
  pub notes : List Note
  pub consumed : Consumes first left stream
  pub spelt : Spells stream notes now.decoding.rest
  pub fine : (follow notes []).refused ≡ false
  pub pages : now.pages ≡ (follow notes []).pages
  pub written : Appends begun held (follow notes []).out
  pub going : now.decoding.stopped ≡ false
  pub long : length stream ≡ count

-- nothing came
pub none_came : (first begun : Option (List ℕ)) (now : Streaming) → now ≡ record { decoding = record { at = 0; rest = []; stopped = false }; pages = [] } →
    Came first first begun begun now 0
none_came first begun now e = record {
  stream = [];
  notes = [];
  consumed = Consumes-nil first;
  spelt = record { whole = sym (ap (λ (s : Streaming). s.decoding.rest) e); each = tt; partial = λ l. absurd (few l) };
  fine = refl;
  pages = ap (λ (s : Streaming). s.pages) e;
  written = Appends-nil begun;
  going = ap (λ (s : Streaming). s.decoding.stopped) e;
  long = refl;
}
  where
    few : 8 ≤ length now.decoding.rest → ⊥
    few l = let z = ap (λ (s : Streaming). length s.decoding.rest) e in omega (arith, l, z)

-- what the notes behind others print, comes behind
behind : (ns ms : List Note) → (follow ns []).refused ≡ false → (f : Followed) → f ≡ follow ms (follow ns []).pages →
    follow (ns ++ ms) [] ≡ record { pages = f.pages; out = (follow ns []).out ++ f.out; refused = f.refused }
behind ns ms fine f e =
    joined ns ms [] fine ∙ ap (λ (g : Followed). record { pages = g.pages; out = (follow ns []).out ++ g.out; refused = g.refused }) (sym e)

-- the notes of the next piece, on the pages that are there
next_notes : (ns ms : List Note) (ps : List Mounted) → (follow ns []).refused ≡ false → ps ≡ (follow ns []).pages →
    follow (ns ++ ms) [] ≡ record { pages = (follow ms ps).pages; out = (follow ns []).out ++ (follow ms ps).out; refused = (follow ms ps).refused }
next_notes ns ms ps fine e = behind ns ms fine (follow ms ps) (ap (follow ms) e)

-- one more piece
pub more_came : GoesOn → (first left after begun held now : Option (List ℕ)) (old new : Streaming) (piece : List ℕ) (count : ℕ) →
    Came first left begun held old count → Consumes left after piece → Writes old piece held now new →
    Came first after begun now new (count + length piece)
more_came on first left after begun held now old new piece count c took w =
    let all = next_notes c.notes w.notes old.pages c.fine c.pages in record {
      stream = c.stream ++ piece;
      notes = c.notes ++ w.notes;
      consumed = Consumes-trans first left after c.stream piece c.consumed took;
      spelt = on c.stream piece c.notes w.notes old.decoding.rest new.decoding.rest c.spelt w.spelt;
      fine = ap (λ (f : Followed). f.refused) all ∙ w.fine;
      pages = w.pages ∙ sym (ap (λ (f : Followed). f.pages) all);
      written = subst (Appends begun now) (sym (ap (λ (f : Followed). f.out) all)) (Appends-trans begun held now _ _ c.written w.written);
      going = w.going;
      long = length-append c.stream piece ∙ ap (λ (n : ℕ). n + length piece) c.long;
    }

-- the same, counted otherwise
pub count_came : GoesOn → (first left after begun held now : Option (List ℕ)) (old new : Streaming) (piece : List ℕ) (count n : ℕ) →
    Came first left begun held old count → Consumes left after piece → Writes old piece held now new → length piece ≡ n →
    Came first after begun now new (count + n)
count_came on first left after begun held now old new piece count n c took w e =
    subst (λ (k : ℕ). Came first after begun now new (count + k)) e (more_came on first left after begun held now old new piece count c took w)

-- nothing more came
pub still_came : (first left after begun held : Option (List ℕ)) (now : Streaming) (piece : List ℕ) (count : ℕ) →
    Came first left begun held now count → Consumes left after piece → piece ≡ [] → Came first after begun held now count
still_came first left after begun held now piece count c took e = record {
  stream = c.stream;
  notes = c.notes;
  consumed = subst (Consumes first after) (ap (λ (l : List ℕ). c.stream ++ l) e ∙ append-nil c.stream) (Consumes-trans first left after c.stream piece c.consumed took);
  spelt = c.spelt;
  fine = c.fine;
  pages = c.pages;
  written = c.written;
  going = c.going;
  long = c.long;
}

-- ---- what the source had

-- all of what is gone, and what is left
had : (first left : Option (List ℕ)) (stream : List ℕ) → Consumes first left stream → IfSome first (λ input. (more : List ℕ) × (input ≡ stream ++ more))
had None left stream c = tt
had (Some input) None stream c = absurd c
had (Some input) (Some more) stream c = (more, c)

-- all of it, where nothing is left
had_all : (first left : Option (List ℕ)) (stream : List ℕ) → Consumes first left stream → IsAtEnd left → IfSome first (λ input. input ≡ stream)
had_all None left stream c e = tt
had_all (Some input) None stream c e = absurd c
had_all (Some input) (Some more) stream c e = c ∙ (ap (λ (l : List ℕ). stream ++ l) e ∙ append-nil stream)

pub of_some : {X : Type 0} {P Q : X → Type 0} (o : Option X) → ((x : X) → P x → Q x) → IfSome o P → IfSome o Q
of_some None f p = tt
of_some (Some x) f p = f x p

-- ---- no fault

-- of two fronts the longer one begins with the other
longer : (f m s n : List ℕ) → f ++ m ≡ s ++ n → length f ≤ length s → (d : List ℕ) × (s ≡ f ++ d)
longer [] m s n e l = (s, refl)
longer (x ∷ f) m [] n e l = absurd (omega (arith, l))
longer (x ∷ f) m (y ∷ s) n e l =
    let tail : f ++ m ≡ s ++ n = cc in
    let head : y ≡ x = cc in
    let rest = longer f m s n tail (omega (arith, l)) in
    (rest.0, ap (λ (z : ℕ). z ∷ s) head ∙ ap (λ (zs : List ℕ). x ∷ zs) rest.1)

-- a stream whose notes are all taken has no fault in a front
no_bad : FrontSpells → FrontStops → (front more stream rest : List ℕ) (notes others : List Note) → stream ≡ front ++ more → length stream < 2 ^ 64 →
    Spells stream notes rest → (follow notes []).refused ≡ false → HasFault front others [] → ⊥
no_bad spells stops front more stream rest notes others e few s fine (inl up) =
    stops front more others notes _ rest (subst (λ (l : List ℕ). length l < 2 ^ 64) e few) up (subst (λ (l : List ℕ). Spells l notes rest) e s)
no_bad spells stops front more stream rest notes others e few s fine (inr bad) =
    let later = spells front more others notes bad.0 rest (subst (λ (l : List ℕ). length l < 2 ^ 64) e few) bad.1 (subst (λ (l : List ℕ). Spells l notes rest) e s) in
    let refused : (follow notes []).refused ≡ true =
    ap (λ (ns : List Note). (follow ns []).refused) later.1 ∙ stays_refused others later.0 [] bad.2 in
    absurd cc

-- nor has what begins with it, as far as it is followed
pub no_fault : FrontSpells → FrontStops → (input stream more rest : List ℕ) (notes : List Note) → input ≡ stream ++ more → length stream < 2 ^ 64 →
    Spells stream notes rest → (follow notes []).refused ≡ false → ((front : List ℕ) (m : List ℕ) → input ≡ front ++ m → length front ≤ MOST_FRAMES → length front ≤ length stream) →
    ((others : List Note) → EndsInside input others → ⊥) → NoFault input
no_fault spells stops input stream more rest notes e few s fine shorter inside others (inl bad) =
    let d = longer bad.front bad.more stream more (sym bad.whole ∙ e) (shorter bad.front bad.more bad.whole bad.few) in
    no_bad spells stops bad.front d.0 stream rest notes others d.1 few s fine bad.bad
no_fault spells stops input stream more rest notes e few s fine shorter inside others (inr cut) = inside others cut

-- ---- the end

-- nothing is left of the source and of the frames
pub all_followed : OneStream → FrontSpells → FrontStops → (first left begun held : Option (List ℕ)) (now : Streaming) (count : ℕ) → Came first left begun held now count → IsAtEnd left →
    count ≤ MOST_FRAMES → length now.decoding.rest ≡ 0 → IfSome first (λ input. IsFollowed input begun held × NoFault input)
all_followed one spells stops first left begun held now count c e few none =
    of_some first (λ input is. (
      record {
        notes = c.notes;
        few = small input is;
        spelt = subst (λ (s : List ℕ). Spells s c.notes []) (sym is) spelt;
        fine = c.fine;
        written = c.written;
      },
      no_fault spells stops input c.stream [] [] c.notes (is ∙ sym (append-nil c.stream)) (let l = c.long in omega (arith, l, few)) spelt c.fine
          (λ front m w l. let t = ap (λ (s : List ℕ). length s) w ∙ length-append front m in let u = ap (λ (s : List ℕ). length s) is in omega (arith, t, u))
          (λ others cut. whole input is others cut),
    )) (had_all first left c.stream c.consumed e)
  where
    empty : (l : List ℕ) → length l ≡ 0 → l ≡ []
    empty [] h = refl
    empty (x ∷ l) h = absurd (omega (arith, h))

    spelt : Spells c.stream c.notes []
    spelt = subst (Spells c.stream c.notes) (empty now.decoding.rest none) c.spelt

    small : (input : List ℕ) → input ≡ c.stream → length input ≤ MOST_FRAMES
    small input is = let l = c.long in let u = ap (λ (s : List ℕ). length s) is in omega (arith, l, few, u)

    whole : (input : List ℕ) → input ≡ c.stream → (others : List Note) → EndsInside input others → ⊥
    whole input is others cut =
        let l = small input is in
        let same = one input others c.notes cut.rest [] (omega (arith, l)) cut.spelt (subst (λ (s : List ℕ). Spells s c.notes []) (sym is) spelt) in
        let some = cut.some in
        let t = ap (λ (s : List ℕ). length s) same.1 in
        omega (arith, some, t)

-- so there is no fault
pub none_at_fault : OneStream → FrontSpells → FrontStops → (first left begun held : Option (List ℕ)) (now : Streaming) (count : ℕ) → Came first left begun held now count → IsAtEnd left →
    count ≤ MOST_FRAMES → length now.decoding.rest ≡ 0 → IfSome first NoFault
none_at_fault one spells stops first left begun held now count c e few none =
    of_some {X = List ℕ} {P = λ input. IsFollowed input begun held × NoFault input} {Q = NoFault} first (λ input both. both.1)
    (all_followed one spells stops first left begun held now count c e few none)

-- nothing is left of the source, and something of a frame
pub cut_followed : (first left begun held : Option (List ℕ)) (now : Streaming) (count : ℕ) → Came first left begun held now count → IsAtEnd left →
    count ≤ MOST_FRAMES → 0 < length now.decoding.rest → IfSome first (λ input. IsFollowedUpTo input begun held)
cut_followed first left begun held now count c e few some =
    of_some first (λ input is. record {
      notes = c.notes;
      bad = inr (record {
        rest = now.decoding.rest;
        few = (let l = c.long in let u = ap (λ (s : List ℕ). length s) is in omega (arith, l, few, u));
        spelt = subst (λ (s : List ℕ). Spells s c.notes now.decoding.rest) (sym is) c.spelt;
        some = some;
      });
      written = c.written;
    }) (had_all first left c.stream c.consumed e)

-- ---- an end before that

all_front : (a b : Option (List ℕ)) (bytes : List ℕ) → Appends a b bytes → AppendsFront a b bytes
all_front a b bytes h = (bytes, [], sym (append-nil bytes), h)

-- what was followed is a front
pub part_followed : (first left begun held : Option (List ℕ)) (now : Streaming) (count : ℕ) → Came first left begun held now count →
    IfSome first (λ input. IsFollowedInPart input begun held)
part_followed first left begun held now count c =
    of_some first (λ input more. record {
      front = c.stream;
      more = more.0;
      notes = c.notes;
      whole = more.1;
      spelt = inr (now.decoding.rest, c.spelt);
      written = all_front begun held (follow c.notes []).out c.written;
    }) (had first left c.stream c.consumed)

-- where a stream stops to spell notes is behind their frames
ended_here : (stream : List ℕ) (notes : List Note) (at : ℕ) → SpellsUpTo stream notes at → SpellsUpTo stream notes (length (frames notes))
ended_here stream notes at up = subst (SpellsUpTo stream notes) up.place up

-- nothing is followed yet
pub none_followed : (first held : Option (List ℕ)) → IfSome first (λ input. IsFollowedInPart input held held)
none_followed first held =
    let now : Streaming = record { decoding = record { at = 0; rest = []; stopped = false }; pages = [] } in
    part_followed first first held held now 0 (none_came first held now refl)

-- the notes of what was left and a piece, behind those before
fault_behind : GoesOn → StopsLater → (s piece rest : List ℕ) (ns ms : List Note) (ps : List Mounted) → Spells s ns rest → (follow ns []).refused ≡ false →
    ps ≡ (follow ns []).pages → HasFault (rest ++ piece) ms ps → HasFault (s ++ piece) (ns ++ ms) []
fault_behind on stop s piece rest ns ms ps spelt fine e (inl up) =
    inl (ended_here (s ++ piece) (ns ++ ms) _ (stop s piece ns ms rest (length (frames ms)) spelt up))
fault_behind on stop s piece rest ns ms ps spelt fine e (inr bad) = inr (
  bad.0,
  on s piece ns ms rest bad.0 spelt bad.1,
  ap (λ (f : Followed). f.refused) (next_notes ns ms ps fine e) ∙ bad.2,
)

notes_behind : GoesOn → StopsLater → (s piece rest : List ℕ) (ns ms : List Note) → Spells s ns rest → HasNotes (rest ++ piece) ms → HasNotes (s ++ piece) (ns ++ ms)
notes_behind on stop s piece rest ns ms spelt (inl up) =
    inl (ended_here (s ++ piece) (ns ++ ms) _ (stop s piece ns ms rest (length (frames ms)) spelt up))
notes_behind on stop s piece rest ns ms spelt (inr some) = inr (some.0, on s piece ns ms rest some.0 spelt some.1)

more_front : (first held now : Option (List ℕ)) (a b : List ℕ) → Appends first held a → AppendsFront held now b → AppendsFront first now (a ++ b)
more_front first held now a b h f =
    (a ++ f.0, f.1, ap (λ (l : List ℕ). a ++ l) f.2 ∙ sym (append_assoc a f.0 f.1), Appends-trans first held now a f.0 h f.3)

-- what a front of a piece and more of it are, behind what came
pieced : (first left after : Option (List ℕ)) (stream piece front more : List ℕ) → Consumes first left stream → Consumes left after piece → piece ≡ front ++ more →
    IfSome first (λ input. (rest : List ℕ) × (input ≡ (stream ++ front) ++ (more ++ rest)))
pieced first left after stream piece front more c took e =
    of_some first (λ input m. (
      m.0,
      m.1 ∙ (ap (λ (p : List ℕ). (stream ++ p) ++ m.0) e ∙ (ap (λ (l : List ℕ). l ++ m.0) (sym (append_assoc stream front more))
          ∙ append_assoc (stream ++ front) more m.0)),
    )) (had first after (stream ++ piece) (Consumes-trans first left after stream piece c took))

-- a piece ends all
pub piece_ended : GoesOn → StopsLater → FrontSpells → FrontStops → (e : FollowEnd) (first left after begun held now : Option (List ℕ)) (old : Streaming) (piece : List ℕ) (count most : ℕ) →
    Came first left begun held old count → Consumes left after piece → EndsIn e old piece most held now → count + most ≡ MOST_FRAMES →
    IfSome first (λ input. Ended e input begun now)
piece_ended on stop spells stops end.Read first left after begun held now old piece count most c took ends limit = absurd ends.ends
piece_ended on stop spells stops end.Write first left after begun held now old piece count most c took ends limit =
    of_some first (λ input m. let w = ends.ends in record {
      front = c.stream ++ ends.front;
      more = ends.more ++ m.0;
      notes = c.notes ++ w.notes;
      whole = m.1;
      spelt = notes_behind on stop c.stream ends.front old.decoding.rest c.notes w.notes c.spelt w.spelt;
      written = subst (AppendsFront begun now) (sym (ap (λ (f : Followed). f.out) (next_notes c.notes w.notes old.pages c.fine c.pages)))
          (more_front begun held now _ _ c.written w.written);
    }) (pieced first left after c.stream piece ends.front ends.more c.consumed took ends.whole)
piece_ended on stop spells stops end.Memory first left after begun held now old piece count most c took ends limit =
    subst (λ (h : Option (List ℕ)). IfSome first (λ input. IsFollowedInPart input begun h)) (sym ends.ends) (part_followed first left begun held old count c)
piece_ended on stop spells stops end.BadFrames first left after begun held now old piece count most c took ends limit =
    of_some first (λ input m. let w = ends.ends in record {
      notes = c.notes ++ w.notes;
      bad = inl (record {
        front = c.stream ++ ends.front;
        more = ends.more ++ m.0;
        whole = m.1;
        few = (let t = length-append c.stream ends.front in let l = c.long in let f = ends.few in omega (arith, t, l, f, limit));
        bad = fault_behind on stop c.stream ends.front old.decoding.rest c.notes w.notes old.pages c.spelt c.fine c.pages w.bad;
      });
      written = subst (Appends begun now) (sym (ap (λ (f : Followed). f.out) (next_notes c.notes w.notes old.pages c.fine c.pages)))
          (Appends-trans begun held now _ _ c.written w.written);
    }) (pieced first left after c.stream piece ends.front ends.more c.consumed took ends.whole)
piece_ended on stop spells stops end.TooLong first left after begun held now old piece count most c took ends limit =
    of_some first (λ input m. too_long input m.0 m.1) (pieced first left after c.stream piece ends.front ends.more c.consumed took ends.whole)
  where
    came : List ℕ
    came = c.stream ++ ends.front

    long : length came ≡ MOST_FRAMES
    long = let t = length-append c.stream ends.front in let l = c.long in let f = ends.ends.0 in omega (arith, t, l, f, limit)

    too_long : (input rest : List ℕ) → input ≡ came ++ (ends.more ++ rest) → NoFault input × (MOST_FRAMES < length input) × IsFollowedInPart input begun now
    too_long input rest is =
        let w = ends.ends.2.1 in
        let all = next_notes c.notes w.notes old.pages c.fine c.pages in
        let spelt = on c.stream ends.front c.notes w.notes old.decoding.rest _ c.spelt w.spelt in
        let fine : (follow (c.notes ++ w.notes) []).refused ≡ false = ap (λ (f : Followed). f.refused) all ∙ w.fine in
        let some = ends.ends.1 in
        let size = ap (λ (s : List ℕ). length s) is ∙ (length-append came (ends.more ++ rest) ∙ ap (λ (n : ℕ). length came + n) (length-append ends.more rest)) in
        let many : MOST_FRAMES < length input = omega (arith, size, some, long) in (
          no_fault spells stops input came (ends.more ++ rest) _ (c.notes ++ w.notes) is (omega (arith, long)) spelt fine
              (λ front m whole few. omega (arith, few, long))
              (λ others cut. let short = cut.few in absurd (omega (arith, short, many))),
          many,
          record {
            front = came;
            more = ends.more ++ rest;
            notes = c.notes ++ w.notes;
            whole = is;
            spelt = inr (_, spelt);
            written = subst (AppendsFront begun now) (sym (ap (λ (f : Followed). f.out) all))
                (all_front begun now _ (Appends-trans begun held now _ _ c.written w.written));
          },
        )
