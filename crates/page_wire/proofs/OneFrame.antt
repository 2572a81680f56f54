-- Frames can be told apart.
use Rattle.std.proofs.Common.{◌≡◌, ℕ, suc, ◌+◌, ◌<◌, ◌≤◌, ◌^◌, List, [], ◌∷◌, ◌++◌, length, take, append_assoc, arith, refl, sym, ap, subst, ◌∙◌}
use Rattle.std.specs.List.{AllByRecursion}
use Rattle.std.proofs.lemmas.List.{length-append}
use Rattle.wire_model.specs.Notes.{frames}
use Rattle.wire_model.specs.Streams.{IsNoBody, IsPartial}
use Rattle.std.specs.Int.{from_be_bytes, to_be_bytes, w64}
use Rattle.std.proofs.lemmas.Nat.{from_be_bytes-to_be_bytes_8}
use Rattle.page_model.specs.Replay.{Op}
use Rattle.page_model.specs.Texts.{op_text}
use Rattle.page_ops.specs.Ops.{HasText}
use Rattle.wire_model.specs.Notes.{IsNote, Note, body_of, frame, frame_of_body, gone, mount, op, ready}
use Rattle.page_wire.specs.OneFrame.{FrontSpells, FrontStops, NoEnd, OneFrame, OneStop, OneStream}

no : (n : ℕ) → suc n ≡ 0 → ⊥
no n e = omega (arith, e)

pred : (m n : ℕ) → suc m ≡ suc n → m ≡ n
pred m n e = omega (arith, e)

pub heads : (x y : ℕ) (xs ys : List ℕ) → x ∷ xs ≡ y ∷ ys → x ≡ y
heads x y xs ys h = cc

pub tails : (x y : ℕ) (xs ys : List ℕ) → x ∷ xs ≡ y ∷ ys → xs ≡ ys
tails x y xs ys h = cc

both : (x y : ℕ) (xs ys : List ℕ) → x ≡ y → xs ≡ ys → x ∷ xs ≡ y ∷ ys
both x y xs ys g h = cc

-- lists of one length, with more behind
same_front : (xs ys more rest : List ℕ) → length xs ≡ length ys → xs ++ more ≡ ys ++ rest → (xs ≡ ys) × (more ≡ rest)
same_front [] [] more rest e h = (refl, h)
same_front [] (y ∷ ys) more rest e h = absurd (no (length ys) (sym e))
same_front (x ∷ xs) [] more rest e h = absurd (no (length xs) e)
same_front (x ∷ xs) (y ∷ ys) more rest e h =
    let t = same_front xs ys more rest (pred (length xs) (length ys) e) (tails x y (xs ++ more) (ys ++ rest) h) in
    (both x y xs ys (heads x y (xs ++ more) (ys ++ rest) h) t.0, t.1)

-- a body of a frame is told by its length
same_body : (a b more rest : List ℕ) → length a < 2 ^ 64 → length b < 2 ^ 64 → frame_of_body a ++ more ≡ frame_of_body b ++ rest → (a ≡ b) × (more ≡ rest)
same_body a b more rest la lb h =
    let front = same_front (to_be_bytes w64 (length a)) (to_be_bytes w64 (length b)) (a ++ more) (b ++ rest) refl h in
    let count : length a ≡ length b =
    sym (from_be_bytes-to_be_bytes_8 (length a) la) ∙ (ap (from_be_bytes w64) front.0 ∙ from_be_bytes-to_be_bytes_8 (length b) lb) in
    same_front a b more rest count front.1

-- what stands behind the kind
pub named : (k j : ℕ) (n m r q : List ℕ) → k ∷ length n ∷ (n ++ r) ≡ j ∷ length m ∷ (m ++ q) → (n ≡ m) × (r ≡ q)
named k j n m r q h =
    let t = tails k j (length n ∷ (n ++ r)) (length m ∷ (m ++ q)) h in
    same_front n m r q (heads (length n) (length m) (n ++ r) (m ++ q) t) (tails (length n) (length m) (n ++ r) (m ++ q) t)

kinds : (k j : ℕ) (xs ys : List ℕ) → (k ≡ j → ⊥) → k ∷ xs ≡ j ∷ ys → ⊥
kinds k j xs ys f h = f (heads k j xs ys h)

abbrev pub OneReading : Type 0
OneReading = (o p : Op) → HasText o → HasText p → op_text o ≡ op_text p → o ≡ p

one_note : OneReading → (x y : Note) → IsNote x → IsNote y → body_of x ≡ body_of y → x ≡ y
one_note one (mount n) (mount m) g k h = ap mount (named 1 1 n m [] [] h).0
one_note one (ready n) (ready m) g k h = ap ready (named 3 3 n m [] [] h).0
one_note one (gone n) (gone m) g k h = ap gone (named 4 4 n m [] [] h).0
one_note one (op n o) (op m p) g k h =
    let t = named 2 2 n m (op_text o) (op_text p) h in
    ap (λ (l : List ℕ). op l o) t.0 ∙ ap (λ (q : Op). op m q) (one o p g.1 k.1 t.1)
one_note one (mount n) (op m p) g k h = absurd (kinds 1 2 _ _ (λ e. omega (arith, e)) h)
one_note one (mount n) (ready m) g k h = absurd (kinds 1 3 _ _ (λ e. omega (arith, e)) h)
one_note one (mount n) (gone m) g k h = absurd (kinds 1 4 _ _ (λ e. omega (arith, e)) h)
one_note one (op n o) (mount m) g k h = absurd (kinds 2 1 _ _ (λ e. omega (arith, e)) h)
one_note one (op n o) (ready m) g k h = absurd (kinds 2 3 _ _ (λ e. omega (arith, e)) h)
one_note one (op n o) (gone m) g k h = absurd (kinds 2 4 _ _ (λ e. omega (arith, e)) h)
one_note one (ready n) (mount m) g k h = absurd (kinds 3 1 _ _ (λ e. omega (arith, e)) h)
one_note one (ready n) (op m p) g k h = absurd (kinds 3 2 _ _ (λ e. omega (arith, e)) h)
one_note one (ready n) (gone m) g k h = absurd (kinds 3 4 _ _ (λ e. omega (arith, e)) h)
one_note one (gone n) (mount m) g k h = absurd (kinds 4 1 _ _ (λ e. omega (arith, e)) h)
one_note one (gone n) (op m p) g k h = absurd (kinds 4 2 _ _ (λ e. omega (arith, e)) h)
one_note one (gone n) (ready m) g k h = absurd (kinds 4 3 _ _ (λ e. omega (arith, e)) h)

pub one_frame : OneReading → OneFrame
one_frame one x y more rest g k lx ly h =
    let t = same_body (body_of x) (body_of y) more rest lx ly h in (one_note one x y g k t.0, t.1)

-- ---- streams

-- a whole frame is in no rest
whole : (b more : List ℕ) → length b < 2 ^ 64 → IsPartial (frame_of_body b ++ more) → ⊥
whole b more lb p =
    let all : length (frame_of_body b ++ more) ≡ length (frame_of_body b) + length more = length-append (frame_of_body b) more in
    let own : length (frame_of_body b) ≡ 8 + length b = length-append (to_be_bytes w64 (length b)) b in
    let says : from_be_bytes w64 (take 8 (frame_of_body b ++ more)) ≡ length b = from_be_bytes-to_be_bytes_8 (length b) lb in
    let enough : 8 ≤ length (frame_of_body b ++ more) = omega (arith, all, own) in
    let few : length (frame_of_body b ++ more) < 8 + from_be_bytes w64 (take 8 (frame_of_body b ++ more)) = p enough in
    omega (arith, all, own, says, few)

-- what the parts of a stream have
parts : (x : Note) (xs : List Note) (r : List ℕ) → length (frames (x ∷ xs) ++ r) < 2 ^ 64 → (length (body_of x) < 2 ^ 64) × (length (frames xs ++ r) < 2 ^ 64)
parts x xs r h =
    let cut : frames (x ∷ xs) ++ r ≡ frame x ++ (frames xs ++ r) = append_assoc (frame x) (frames xs) r in
    let all : length (frames (x ∷ xs) ++ r) ≡ length (frame x) + length (frames xs ++ r) =
    ap (λ (l : List ℕ). length l) cut ∙ length-append (frame x) (frames xs ++ r) in
    let own : length (frame x) ≡ 8 + length (body_of x) = length-append (to_be_bytes w64 (length (body_of x))) (body_of x) in
    (omega (arith, all, own, h), omega (arith, all, own, h))

split : OneReading → (xs ys : List Note) (r q : List ℕ) → AllByRecursion IsNote xs → AllByRecursion IsNote ys → IsPartial r → IsPartial q →
    length (frames xs ++ r) < 2 ^ 64 → length (frames ys ++ q) < 2 ^ 64 → frames xs ++ r ≡ frames ys ++ q → (xs ≡ ys) × (r ≡ q)
split one [] [] r q g k pr pq lx ly h = (refl, h)
split one [] (y ∷ ys) r q g k pr pq lx ly h =
    absurd (whole (body_of y) (frames ys ++ q) (parts y ys q ly).0 (subst IsPartial (h ∙ append_assoc (frame y) (frames ys) q) pr))
split one (x ∷ xs) [] r q g k pr pq lx ly h =
    absurd (whole (body_of x) (frames xs ++ r) (parts x xs r lx).0 (subst IsPartial (sym h ∙ append_assoc (frame x) (frames xs) r) pq))
split one (x ∷ xs) (y ∷ ys) r q g k pr pq lx ly h =
    let a = parts x xs r lx in
    let b = parts y ys q ly in
    let t = one_frame one x y (frames xs ++ r) (frames ys ++ q) g.0 k.0 a.0 b.0
    (sym (append_assoc (frame x) (frames xs) r) ∙ (h ∙ append_assoc (frame y) (frames ys) q)) in
    let rest = split one xs ys r q g.1 k.1 pr pq a.1 b.1 t.1 in
    (ap (λ (z : Note). z ∷ xs) t.0 ∙ ap (λ (zs : List Note). y ∷ zs) rest.0, rest.1)

pub one_stream : OneReading → OneStream
one_stream one s xs ys r q l a b =
    split one xs ys r q a.each b.each a.partial b.partial (subst (λ (t : List ℕ). length t < 2 ^ 64) a.whole l)
    (subst (λ (t : List ℕ). length t < 2 ^ 64) b.whole l) (sym a.whole ∙ b.whole)

-- ---- streams that stop to spell notes

-- a body has no more bytes than what it stands in
within : (b more : List ℕ) → length (frame_of_body b ++ more) < 2 ^ 64 → length b < 2 ^ 64
within b more h =
    let all : length (frame_of_body b ++ more) ≡ length (frame_of_body b) + length more = length-append (frame_of_body b) more in
    let own : length (frame_of_body b) ≡ 8 + length b = length-append (to_be_bytes w64 (length b)) b in
    omega (arith, all, own, h)

-- where a note's frame stands none begins that is no note's
no_stop : (x : Note) (b more rest : List ℕ) → IsNote x → IsNoBody b → length (body_of x) < 2 ^ 64 → length b < 2 ^ 64 →
    frame x ++ more ≡ frame_of_body b ++ rest → ⊥
no_stop x b more rest good none lx lb h = none x good (same_body (body_of x) b more rest lx lb h).0

halt : OneReading → (xs ys : List Note) (r b m : List ℕ) → AllByRecursion IsNote xs → AllByRecursion IsNote ys → IsPartial r → IsNoBody b →
    length (frames xs ++ r) < 2 ^ 64 → length (frames ys ++ (frame_of_body b ++ m)) < 2 ^ 64 → frames xs ++ r ≡ frames ys ++ (frame_of_body b ++ m) → ⊥
halt one [] [] r b m g k pr none lx ly h = whole b m (within b m ly) (subst IsPartial h pr)
halt one [] (y ∷ ys) r b m g k pr none lx ly h =
    whole (body_of y) (frames ys ++ (frame_of_body b ++ m)) (parts y ys (frame_of_body b ++ m) ly).0
    (subst IsPartial (h ∙ append_assoc (frame y) (frames ys) (frame_of_body b ++ m)) pr)
halt one (x ∷ xs) [] r b m g k pr none lx ly h =
    no_stop x b (frames xs ++ r) m g.0 none (parts x xs r lx).0 (within b m ly) (sym (append_assoc (frame x) (frames xs) r) ∙ h)
halt one (x ∷ xs) (y ∷ ys) r b m g k pr none lx ly h =
    let a = parts x xs r lx in
    let c = parts y ys (frame_of_body b ++ m) ly in
    let t = one_frame one x y (frames xs ++ r) (frames ys ++ (frame_of_body b ++ m)) g.0 k.0 a.0 c.0
    (sym (append_assoc (frame x) (frames xs) r) ∙ (h ∙ append_assoc (frame y) (frames ys) (frame_of_body b ++ m))) in
    halt one xs ys r b m g.1 k.1 pr none a.1 c.1 t.1

stops : OneReading → (xs ys : List Note) (a l b m : List ℕ) → AllByRecursion IsNote xs → AllByRecursion IsNote ys → IsNoBody a → IsNoBody b →
    length (frames xs ++ (frame_of_body a ++ l)) < 2 ^ 64 → length (frames ys ++ (frame_of_body b ++ m)) < 2 ^ 64 →
    frames xs ++ (frame_of_body a ++ l) ≡ frames ys ++ (frame_of_body b ++ m) → xs ≡ ys
stops one [] [] a l b m g k na nb lx ly h = refl
stops one [] (y ∷ ys) a l b m g k na nb lx ly h =
    absurd (no_stop y a (frames ys ++ (frame_of_body b ++ m)) l k.0 na (parts y ys (frame_of_body b ++ m) ly).0 (within a l lx)
    (sym (append_assoc (frame y) (frames ys) (frame_of_body b ++ m)) ∙ sym h))
stops one (x ∷ xs) [] a l b m g k na nb lx ly h =
    absurd (no_stop x b (frames xs ++ (frame_of_body a ++ l)) m g.0 nb (parts x xs (frame_of_body a ++ l) lx).0 (within b m ly)
    (sym (append_assoc (frame x) (frames xs) (frame_of_body a ++ l)) ∙ h))
stops one (x ∷ xs) (y ∷ ys) a l b m g k na nb lx ly h =
    let p = parts x xs (frame_of_body a ++ l) lx in
    let q = parts y ys (frame_of_body b ++ m) ly in
    let t = one_frame one x y (frames xs ++ (frame_of_body a ++ l)) (frames ys ++ (frame_of_body b ++ m)) g.0 k.0 p.0 q.0
    (sym (append_assoc (frame x) (frames xs) (frame_of_body a ++ l)) ∙ (h ∙ append_assoc (frame y) (frames ys) (frame_of_body b ++ m))) in
    let rest = stops one xs ys a l b m g.1 k.1 na nb p.1 q.1 t.1 in
    ap (λ (z : Note). z ∷ xs) t.0 ∙ ap (λ (zs : List Note). y ∷ zs) rest

bound : (s t : List ℕ) → s ≡ t → length s < 2 ^ 64 → length t < 2 ^ 64
bound s t e h = subst (λ (l : List ℕ). length l < 2 ^ 64) e h

pub no_end : OneReading → NoEnd
no_end one s xs ys r at l a b =
    halt one xs ys r b.body b.more a.each b.each a.partial b.none (bound s (frames xs ++ r) a.whole l)
    (bound s (frames ys ++ (frame_of_body b.body ++ b.more)) b.whole l) (sym a.whole ∙ b.whole)

pub one_stop : OneReading → OneStop
one_stop one s xs ys at place l a b =
    let same = stops one xs ys a.body a.more b.body b.more a.each b.each a.none b.none (bound s (frames xs ++ (frame_of_body a.body ++ a.more)) a.whole l)
    (bound s (frames ys ++ (frame_of_body b.body ++ b.more)) b.whole l) (sym a.whole ∙ b.whole) in
    (same, a.place ∙ (ap (λ (zs : List Note). length (frames zs)) same ∙ sym b.place))

-- ---- fronts of streams

first_notes : OneReading → (xs ys : List Note) (r q more : List ℕ) → AllByRecursion IsNote xs → AllByRecursion IsNote ys → IsPartial q →
    length (frames xs ++ (r ++ more)) < 2 ^ 64 → length (frames ys ++ q) < 2 ^ 64 → frames xs ++ (r ++ more) ≡ frames ys ++ q →
    (zs : List Note) × (ys ≡ xs ++ zs)
first_notes one [] ys r q more g k pq lx ly h = (ys, refl)
first_notes one (x ∷ xs) [] r q more g k pq lx ly h =
    absurd (whole (body_of x) (frames xs ++ (r ++ more)) (parts x xs (r ++ more) lx).0
    (subst IsPartial (sym h ∙ append_assoc (frame x) (frames xs) (r ++ more)) pq))
first_notes one (x ∷ xs) (y ∷ ys) r q more g k pq lx ly h =
    let a = parts x xs (r ++ more) lx in
    let b = parts y ys q ly in
    let t = one_frame one x y (frames xs ++ (r ++ more)) (frames ys ++ q) g.0 k.0 a.0 b.0
    (sym (append_assoc (frame x) (frames xs) (r ++ more)) ∙ (h ∙ append_assoc (frame y) (frames ys) q)) in
    let rest = first_notes one xs ys r q more g.1 k.1 pq a.1 b.1 t.1 in
    (rest.0, ap (λ (z : Note). z ∷ ys) (sym t.0) ∙ ap (λ (zs : List Note). x ∷ zs) rest.1)

-- what comes behind the parts of a front
behind : (front more notes rest : List ℕ) → front ≡ notes ++ rest → front ++ more ≡ notes ++ (rest ++ more)
behind front more notes rest e = ap (λ (l : List ℕ). l ++ more) e ∙ append_assoc notes rest more

pub front_spells : OneReading → FrontSpells
front_spells one front more notes others rest left l a b =
    let e : front ++ more ≡ frames notes ++ (rest ++ more) = behind front more (frames notes) rest a.whole in
    first_notes one notes others rest left more a.each b.each b.partial (bound (front ++ more) (frames notes ++ (rest ++ more)) e l)
    (bound (front ++ more) (frames others ++ left) b.whole l) (sym e ∙ b.whole)

pub front_stops : OneReading → FrontStops
front_stops one front more notes others at rest l a b = no_end one (front ++ more) others notes rest at l b (record {
  body = a.body;
  more = a.more ++ more;
  whole = behind front more (frames notes) (frame_of_body a.body ++ a.more) a.whole
      ∙ ap (λ (s : List ℕ). frames notes ++ s) (append_assoc (frame_of_body a.body) a.more more);
  each = a.each;
  none = a.none;
  place = a.place;
})
