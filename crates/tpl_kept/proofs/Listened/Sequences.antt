-- What is kept of lines, made one line after the other.
use Rattle.std.proofs.Common.{◌≡◌, ℕ, ◌+◌, ◌<◌, Bool, true, false, ◌&&◌, ◌||◌, inl, inr, List, [], ◌∷◌, ◌++◌, length, take, get_or, map, Option, Some, None, append_assoc, refl, sym, ap, ◌∙◌}
use Rattle.std.specs.Map.{keys_of}
use Rattle.std.proofs.Math.Bool.{or_assoc}
use Rattle.std.proofs.lemmas.Bool.{and_right, cases_Bool, false≢true}
use Rattle.std.proofs.lemmas.List.{append-nil, map-append, take_more}
use Rattle.sig_base.specs.declared.value.Value.{Value}
use Rattle.sig_base.specs.declared.value.Value.TheVariants as value
use Rattle.sig_base.specs.declared.value.Outcome.{Outcome}
use Rattle.sig_base.specs.declared.value.Outcome.TheVariants.{Good, Bad}
use Rattle.sig_formula.specs.Trees.{Tree}
use Rattle.sig_formula.specs.declared.formula.RowRef.{RowRef}
use Rattle.signal_model.specs.Recipes.{no_hosts}
use Rattle.signal_model.specs.Values.{Seen, Evaluation}
use Rattle.signal_model.specs.Sound.{names_of}
use Rattle.signal_laws.specs.ReadLaws.{firsts_after, HaveOutcomes}
use Rattle.signal_laws.proofs.Shared.{firsts_append_law, same_reads_law}
use Rattle.tpl_model.specs.Lines.{Block, empty, text, tag, choice, each, attempt}
use Rattle.tpl_model.specs.Shapes.{Here, is_fault, row_here}
use Rattle.tpl_model.specs.Sources.{evaluating}
use Rattle.tpl_hearing.specs.Heard.{Evaluates, Grows, Outcomes, heard_of, recipe_of, WereHeard}
use Rattle.tpl_hearing.proofs.Shared.{still_heard}
use Rattle.page_model.proofs.Shared.{or_none}
use Rattle.tpl_model.proofs.Shared.{left_off, right_off}
use Rattle.tpl_model.specs.KeptLines.Kept.{rows_of}
use Rattle.tpl_model.specs.PageUpdates.PageMemos.{Heard, Hearing, PageMemo, unread, blank, line, element, branch, loop, either, hearing, any_fault, attributes_heard, all_names, each_memo, failed, memo_of, names, picks, unless, where_ended}
use Rattle.tpl_model.specs.KeptLines.Memos.{Agrees, Keeping, Listens, ListensUpTo, Makes, attempt_memo, branch_part, loop_part, part_memo, rows_in, table_in, truth_in}

-- ---- what was heard

-- outcomes that agree with what was heard later agree with what was heard before
pub agreed : (mid now : Outcomes) (source : ℕ → Outcome) → Grows mid now → Agrees now source → Agrees mid source
agreed mid now source g a = record {
  each = λ n o h. a.each n o (ap (λ (z : Outcomes). heard_of z n) g.all ∙ still_heard mid g.more n o h);
}

-- names that were heard in order, and then others
pub in_order : (first mid last xs ys : List ℕ) → mid ≡ firsts_after first xs → last ≡ firsts_after mid ys → last ≡ firsts_after first (xs ++ ys)
in_order first mid last xs ys h k = k ∙ (ap (λ ns. firsts_after ns ys) h ∙ sym (firsts_append_law first xs ys))

-- what was read has the outcomes that were heard
have_agreed : (now : Outcomes) (source : ℕ → Outcome) (reads : List Seen) → Agrees now source → WereHeard now reads → HaveOutcomes source reads
have_agreed now source [] a all = tt
have_agreed now source (s ∷ ss) a all = (a.each s.name s.outcome all.0, have_agreed now source ss a all.1)

-- an evaluation, by name
abbrev pub said : Evaluation → Heard
said e = record { names = names_of e.reads; outcome = e.outcome }

-- what an evaluation read and came to is what is heard
pub listened : (f : Tree) (links : List ℕ) (row : Option RowRef) (earlier now : Outcomes) (e : Evaluation) (h : Heard) →
    Evaluates (recipe_of f row links) e earlier now → h ≡ said e → Listens f links row earlier now h
listened f links row earlier now e h x same = record {
  is = λ source agrees.
      same
      ∙ ap said (sym (same_reads_law no_hosts (recipe_of f row links) e source (x.reading no_hosts) (have_agreed now source e.reads agrees x.heard)));
  order = x.names ∙ ap (λ (z : Heard). firsts_after (keys_of earlier) z.names) (sym same);
}

-- ---- the parts of what is tried

-- with something else behind them
abbrev pub with_rest : PageMemo → PageMemo → PageMemo
with_rest (either a b r) rest = either a b rest
with_rest m rest = m

-- the second
abbrev second_of : PageMemo → PageMemo
second_of (either a b r) = b
second_of m = m

-- ---- lists that grow

-- one element more, under a function
pub mapped_more : {A B : Type 0} (f : A → B) (xs : List A) (i : ℕ) (x : A) → i < length xs → x ≡ get_or xs i x →
    map f (take (i + 1) xs) ≡ map f (take i xs) ++ f x ∷ []
mapped_more f xs i x lt is = ap (map f) (take_more xs i x lt ∙ ap (λ y. take i xs ++ y ∷ []) (sym is)) ∙ map-append f (take i xs) (x ∷ [])

-- one that is put
pub mapped_put : {A B : Type 0} (f : A → B) (xs ys : List A) (x : A) → ys ≡ xs ++ x ∷ [] → map f ys ≡ map f xs ++ f x ∷ []
mapped_put f xs ys x e = ap (map f) e ∙ map-append f xs (x ∷ [])

-- ---- attributes

-- none
pub none_listened : (ends : Bool) (links : List ℕ) (row : Option RowRef) (heard : Outcomes) → ListensUpTo ends [] links row heard heard []
none_listened ends links row heard = record { is = λ source agrees. refl; order = refl }

-- one attribute more, where none met a fault so far or hearing goes on
attributes_more : (ends : Bool) (hear : Hearing) (row : Option RowRef) (xs : List (List ℕ × Tree)) (x : List ℕ × Tree) →
    (ends && any_fault (attributes_heard ends hear row xs)) ≡ false →
    attributes_heard ends hear row (xs ++ x ∷ []) ≡ attributes_heard ends hear row xs ++ hear row x.1 ∷ []
attributes_more ends hear row [] x h = elim (cases_Bool (ends && is_fault (hear row x.1).outcome)) [ inl e ↦ rw e refl | inr e ↦ rw e refl ]
attributes_more ends hear row (y ∷ ys) x h = elim (cases_Bool (ends && is_fault (hear row y.1).outcome)) [
  | inl e ↦ (
      let k : (ends && (is_fault (hear row y.1).outcome || false)) ≡ false = rw e at h in
      absurd (false≢true (sym (left_off ends (is_fault (hear row y.1).outcome) false k) ∙ e)))
  | inr e ↦ (
      let k : (ends && (is_fault (hear row y.1).outcome || any_fault (attributes_heard ends hear row ys))) ≡ false = rw e at h in
      rw e (ap (λ z. hear row y.1 ∷ z) (attributes_more ends hear row ys x (right_off ends (is_fault (hear row y.1).outcome) _ k))))
]

-- behind a fault at which hearing ends no attribute is heard
pub attributes_over : (ends : Bool) (hear : Hearing) (row : Option RowRef) (xs ys : List (List ℕ × Tree)) →
    (ends && any_fault (attributes_heard ends hear row xs)) ≡ true → attributes_heard ends hear row (xs ++ ys) ≡ attributes_heard ends hear row xs
attributes_over true hear row [] ys h = absurd cc
attributes_over false hear row [] ys h = absurd cc
attributes_over ends hear row (x ∷ xs) ys h = elim (cases_Bool (ends && is_fault (hear row x.1).outcome)) [
  | inl e ↦ rw e refl
  | inr e ↦ (
      let k : (ends && (is_fault (hear row x.1).outcome || any_fault (attributes_heard ends hear row xs))) ≡ true = rw e at h in
      rw e (ap (λ z. hear row x.1 ∷ z) (attributes_over ends hear row xs ys (later_fault ends (is_fault (hear row x.1).outcome) _ k e))))
]
  where
    later_fault : (e a b : Bool) → (e && (a || b)) ≡ true → (e && a) ≡ false → (e && b) ≡ true
    later_fault true true b h k = absurd cc
    later_fault true false b h k = h
    later_fault false a b h k = absurd cc

pub names_more : (hs : List Heard) (h : Heard) → all_names (hs ++ h ∷ []) ≡ all_names hs ++ h.names
names_more [] h = append-nil h.names
names_more (x ∷ hs) h = ap (λ z. x.names ++ z) (names_more hs h) ∙ sym (append_assoc x.names (all_names hs) h.names)

-- one more
pub one_listened : (ends : Bool) (links : List ℕ) (row : Option RowRef) (xs ys : List (List ℕ × Tree)) (x : List ℕ × Tree) (first mid now : Outcomes) (hs ks : List Heard)
    (h : Heard) → ListensUpTo ends xs links row first mid hs → (ends && any_fault hs) ≡ false → Grows mid now → Listens x.1 links row mid now h → ys ≡ xs ++ x ∷ [] →
    ks ≡ hs ++ h ∷ [] → ListensUpTo ends ys links row first now ks
one_listened ends links row xs ys x first mid now hs ks h a on g l e f = record {
  is = λ source agrees.
      let hear : Hearing = hearing (evaluating links source) in
      let p : hs ≡ attributes_heard ends hear row xs = a.is source (agreed mid now source g agrees) in
      let q : h ≡ hear row x.1 = l.is source agrees in
      let still : (ends && any_fault (attributes_heard ends hear row xs)) ≡ false = ap (λ z. ends && any_fault z) (sym p) ∙ on in
      f ∙ ((λ i. p i ++ q i ∷ []) ∙ (sym (attributes_more ends hear row xs x still) ∙ ap (attributes_heard ends hear row) (sym e)));
  order = in_order (keys_of first) (keys_of mid) (keys_of now) (all_names hs) h.names a.order l.order
      ∙ ap (firsts_after (keys_of first)) (sym (names_more hs h) ∙ ap all_names (sym f));
}

-- hearing goes on behind one more without a fault
pub faults_more : (hs : List Heard) (h : Heard) → any_fault (hs ++ h ∷ []) ≡ (any_fault hs || is_fault h.outcome)
faults_more [] h = or_none (is_fault h.outcome)
faults_more (x ∷ hs) h = ap (λ z. is_fault x.outcome || z) (faults_more hs h) ∙ sym (or_assoc (is_fault x.outcome) (any_fault hs) (is_fault h.outcome))

pub still_on : (ends : Bool) (hs ks : List Heard) (h : Heard) (over : Bool) → (ends && any_fault hs) ≡ false → over ≡ (ends && is_fault h.outcome) → over ≡ false →
    ks ≡ hs ++ h ∷ [] → (ends && any_fault ks) ≡ false
still_on ends hs ks h over on is off e =
    ap (λ z. ends && z) (ap any_fault e ∙ faults_more hs h) ∙ neither ends (any_fault hs) (is_fault h.outcome) on (sym is ∙ off)
  where
    neither : (c a b : Bool) → (c && a) ≡ false → (c && b) ≡ false → (c && (a || b)) ≡ false
    neither true true b h k = h
    neither true false b h k = k
    neither false a b h k = refl

-- and ends behind one with it
pub one_over : (ends : Bool) (hs ks : List Heard) (h : Heard) (over : Bool) → over ≡ (ends && is_fault h.outcome) → over ≡ true → ks ≡ hs ++ h ∷ [] →
    (ends && any_fault ks) ≡ true
one_over ends hs ks h over is on e =
    ap (λ z. ends && z) (ap any_fault e ∙ faults_more hs h) ∙ later ends (any_fault hs) (is_fault h.outcome) (sym is ∙ on)
  where
    later : (c a b : Bool) → (c && b) ≡ true → (c && (a || b)) ≡ true
    later true true b h = refl
    later true false b h = h
    later false a b h = absurd cc

-- the others aren't heard behind a fault at which hearing ends
pub others_unheard : (ends : Bool) (links : List ℕ) (row : Option RowRef) (xs ys all : List (List ℕ × Tree)) (first now : Outcomes) (hs : List Heard) →
    ListensUpTo ends xs links row first now hs → (ends && any_fault hs) ≡ true → all ≡ xs ++ ys → ListensUpTo ends all links row first now hs
others_unheard ends links row xs ys all first now hs a over e = record {
  is = λ source agrees.
      let hear : Hearing = hearing (evaluating links source) in
      let p : hs ≡ attributes_heard ends hear row xs = a.is source agrees in
      p ∙ (sym (attributes_over ends hear row xs ys (ap (λ z. ends && any_fault z) (sym p) ∙ over)) ∙ ap (attributes_heard ends hear row) (sym e));
  order = a.order;
}

-- ---- lines

-- no lines
pub none_made : (ends : Bool) (links : List ℕ) (row : Option RowRef) (heard : Outcomes) (m : PageMemo) → m ≡ blank → Makes (part_memo ends empty) links row heard heard m
none_made ends links row heard m same = record {
  is = λ source agrees here e. same;
  order = ap (λ z. firsts_after (keys_of heard) (names z)) (sym same);
}

-- lines, unless something before them ends all
abbrev pub unless_over : Bool → Keeping → Keeping
unless_over over whole hear here = unless over (whole hear here)

-- lines, where what is tried before them has ended
abbrev pub where_read : Bool → Keeping → Keeping
where_read ended whole hear here = where_ended ended (whole hear here)

-- they aren't read otherwise
pub unread_made : (whole : Keeping) (links : List ℕ) (row : Option RowRef) (heard : Outcomes) (m : PageMemo) → m ≡ unread → Makes (where_read false whole) links row heard heard m
unread_made whole links row heard m same = record {
  is = λ source agrees here e. same;
  order = ap (λ z. firsts_after (keys_of heard) (names z)) (sym same);
}

-- nothing is made where all is over
pub over_made : (whole : Keeping) (links : List ℕ) (row : Option RowRef) (heard : Outcomes) (m : PageMemo) → m ≡ blank → Makes (unless_over true whole) links row heard heard m
over_made whole links row heard m same = record {
  is = λ source agrees here e. same;
  order = ap (λ z. firsts_after (keys_of heard) (names z)) (sym same);
}

-- a text before other lines
pub text_made : (ends : Bool) (links : List ℕ) (row : Option RowRef) (n : ℕ) (f : Tree) (rest : Block) (a b c : Outcomes) (h : Heard) (r m : PageMemo) →
    Listens f links row a b h → Grows b c → Makes (unless_over (ends && is_fault h.outcome) (part_memo ends rest)) links row b c r → m ≡ line h r →
    Makes (part_memo ends (text n f rest)) links row a c m
text_made ends links row n f rest a b c h r m l g later same = record {
  is = λ source agrees here e.
      let hear : Hearing = hearing (evaluating links source) in
      let k = memo_of hear ends here rest in
      let p : h ≡ hear (row_here here) f = l.is source (agreed b c source g agrees) ∙ ap (λ z. hear z f) (sym e) in
      let q : r ≡ unless (ends && is_fault h.outcome) k = later.is source agrees here e in
      same ∙ (ap (λ z. line h z) q ∙ ap (λ z. line z (unless (ends && is_fault z.outcome) k)) p);
  order = in_order (keys_of a) (keys_of b) (keys_of c) h.names (names r) l.order later.order
      ∙ ap (λ z. firsts_after (keys_of a) (names z)) (sym same);
}

-- an element, its attributes before what is inside it
pub element_made : (ends : Bool) (links : List ℕ) (row : Option RowRef) (n : ℕ) (name : List ℕ) (xs : List (List ℕ × Tree)) (inner rest : Block) (a b c d : Outcomes)
    (hs : List Heard) (i r m : PageMemo) → ListensUpTo ends xs links row a b hs → Grows b c →
    Makes (unless_over (ends && any_fault hs) (part_memo ends inner)) links row b c i → Grows c d →
    Makes (unless_over (ends && (any_fault hs || failed i)) (part_memo ends rest)) links row c d r → m ≡ element hs i r →
    Makes (part_memo ends (tag n name xs inner rest)) links row a d m
element_made ends links row n name xs inner rest a b c d hs i r m l g inside k later same = record {
  is = λ source agrees here e.
      let hear : Hearing = hearing (evaluating links source) in
      let mid : Agrees c source = agreed c d source k agrees in
      let x = memo_of hear ends here inner in
      let y = memo_of hear ends here rest in
      let p : hs ≡ attributes_heard ends hear (row_here here) xs = l.is source (agreed b c source g mid) ∙ ap (λ z. attributes_heard ends hear z xs) (sym e) in
      let q : i ≡ unless (ends && any_fault hs) x = inside.is source mid here e in
      let s : r ≡ unless (ends && (any_fault hs || failed i)) y = later.is source agrees here e in
      same ∙ (ap (λ z. element hs i z) s ∙ (ap (λ z. element hs z (unless (ends && (any_fault hs || failed z)) y)) q
      ∙ ap (λ z. element z (unless (ends && any_fault z) x) (unless (ends && (any_fault z || failed (unless (ends && any_fault z) x))) y)) p));
  order = in_order (keys_of a) (keys_of c) (keys_of d) (all_names hs ++ names i) (names r)
      (in_order (keys_of a) (keys_of b) (keys_of c) (all_names hs) (names i) l.order inside.order) later.order
      ∙ ap (λ z. firsts_after (keys_of a) (names z)) (sym same);
}

-- ---- choices

-- the branch that an outcome picks; a fault picks none, whether it ends all or not
pub picks_branch : (ends : Bool) (o : Outcome) (one other : Block) (hear : Hearing) (here : Option Here) →
    branch_part ends (truth_in o) one other hear here ≡ unless (ends && is_fault o) (picks o (memo_of hear ends here one) (memo_of hear ends here other) blank)
picks_branch ends (Good v) one other hear here =
    good_picks v ∙ ap (λ z. unless z (picks (Good v) (memo_of hear ends here one) (memo_of hear ends here other) blank)) (sym (and_right ends false refl))
  where
    good_picks : (v : Value) → branch_part ends (truth_in (Good v)) one other hear here ≡ picks (Good v) (memo_of hear ends here one) (memo_of hear ends here other) blank
    good_picks (value.Bool true) = refl
    good_picks (value.Bool false) = refl
    good_picks (value.Int n) = refl
    good_picks (value.Text s) = refl
    good_picks (value.Rows t) = refl
picks_branch true (Bad e) one other hear here = refl
picks_branch false (Bad e) one other hear here = refl

-- where neither is shown
pub neither_made : (ends : Bool) (links : List ℕ) (row : Option RowRef) (one other : Block) (heard : Outcomes) (m : PageMemo) → m ≡ blank →
    Makes (branch_part ends None one other) links row heard heard m
neither_made ends links row one other heard m same = record {
  is = λ source agrees here e. same;
  order = ap (λ z. firsts_after (keys_of heard) (names z)) (sym same);
}

-- a choice before other lines
pub branch_made : (ends : Bool) (links : List ℕ) (row : Option RowRef) (f : Tree) (one other rest : Block) (truth : Option Bool) (a b c d : Outcomes) (h : Heard)
    (i r m : PageMemo) → Listens f links row a b h → truth ≡ truth_in h.outcome → Grows b c → Makes (branch_part ends truth one other) links row b c i →
    Grows c d → Makes (unless_over (ends && (is_fault h.outcome || failed i)) (part_memo ends rest)) links row c d r → m ≡ branch h i r →
    Makes (part_memo ends (choice f one other rest)) links row a d m
branch_made ends links row f one other rest truth a b c d h i r m l t g inside k later same = record {
  is = λ source agrees here e.
      let hear : Hearing = hearing (evaluating links source) in
      let mid : Agrees c source = agreed c d source k agrees in
      let x = memo_of hear ends here one in
      let y = memo_of hear ends here other in
      let w = memo_of hear ends here rest in
      let v : Heard → PageMemo = λ z. unless (ends && is_fault z.outcome) (picks z.outcome x y blank) in
      let p : h ≡ hear (row_here here) f = l.is source (agreed b c source g mid) ∙ ap (λ z. hear z f) (sym e) in
      let q : i ≡ v h = inside.is source mid here e
      ∙ (ap (λ z. branch_part ends z one other hear here) t ∙ picks_branch ends h.outcome one other hear here) in
      let s : r ≡ unless (ends && (is_fault h.outcome || failed i)) w = later.is source agrees here e in
      same ∙ (ap (λ z. branch h i z) s ∙ (ap (λ z. branch h z (unless (ends && (is_fault h.outcome || failed z)) w)) q
      ∙ ap (λ z. branch z (v z) (unless (ends && (is_fault z.outcome || failed (v z))) w)) p));
  order = in_order (keys_of a) (keys_of c) (keys_of d) (h.names ++ names i) (names r)
      (in_order (keys_of a) (keys_of b) (keys_of c) h.names (names i) l.order inside.order) later.order
      ∙ ap (λ z. firsts_after (keys_of a) (names z)) (sym same);
}

-- ---- loops

-- the rows that an outcome is; a fault has none, whether it ends all or not
pub picks_rows : (ends : Bool) (o : Outcome) (inner : Block) (hear : Hearing) (here : Option Here) →
    loop_part ends (table_in o) inner hear here ≡ unless (ends && is_fault o) (each_memo ends (λ r. memo_of hear ends (Some r) inner) o)
picks_rows ends (Good v) inner hear here =
    good_rows v ∙ ap (λ z. unless z (each_memo ends (λ r. memo_of hear ends (Some r) inner) (Good v))) (sym (and_right ends false refl))
  where
    good_rows : (v : Value) → loop_part ends (table_in (Good v)) inner hear here ≡ each_memo ends (λ r. memo_of hear ends (Some r) inner) (Good v)
    good_rows (value.Bool b) = refl
    good_rows (value.Int n) = refl
    good_rows (value.Text s) = refl
    good_rows (value.Rows t) = refl
picks_rows true (Bad e) inner hear here = refl
picks_rows false (Bad e) inner hear here = refl

pub rows_picked : (o : Outcome) (ms : List PageMemo) → rows_of o ms ≡ rows_in (table_in o) ms
rows_picked (Good (value.Bool b)) ms = refl
rows_picked (Good (value.Int n)) ms = refl
rows_picked (Good (value.Text s)) ms = refl
rows_picked (Good (value.Rows t)) ms = refl
rows_picked (Bad e) ms = refl

-- a loop before other lines
pub loop_made : (ends : Bool) (links : List ℕ) (row : Option RowRef) (f : Tree) (inner rest : Block) (a b c d : Outcomes) (h : Heard) (ms : List PageMemo) (r m : PageMemo) →
    Listens f links row a b h → Grows b c → Makes (loop_part ends (table_in h.outcome) inner) links None b c (rows_in (table_in h.outcome) ms) → Grows c d →
    Makes (unless_over (ends && (is_fault h.outcome || failed (rows_of h.outcome ms))) (part_memo ends rest)) links row c d r → m ≡ loop h (rows_of h.outcome ms) r →
    Makes (part_memo ends (each f inner rest)) links row a d m
loop_made ends links row f inner rest a b c d h ms r m l g inside k later same =
    let i : PageMemo = rows_of h.outcome ms in
    let own : i ≡ rows_in (table_in h.outcome) ms = rows_picked h.outcome ms in
    record {
      is = λ source agrees here e.
          let hear : Hearing = hearing (evaluating links source) in
          let mid : Agrees c source = agreed c d source k agrees in
          let go : Here → PageMemo = λ z. memo_of hear ends (Some z) inner in
          let w = memo_of hear ends here rest in
          let v : Heard → PageMemo = λ z. unless (ends && is_fault z.outcome) (each_memo ends go z.outcome) in
          let p : h ≡ hear (row_here here) f = l.is source (agreed b c source g mid) ∙ ap (λ z. hear z f) (sym e) in
          let q : i ≡ v h = own ∙ (inside.is source mid None refl ∙ picks_rows ends h.outcome inner hear None) in
          let s : r ≡ unless (ends && (is_fault h.outcome || failed i)) w = later.is source agrees here e in
          same ∙ (ap (λ z. loop h i z) s ∙ (ap (λ z. loop h z (unless (ends && (is_fault h.outcome || failed z)) w)) q
          ∙ ap (λ z. loop z (v z) (unless (ends && (is_fault z.outcome || failed (v z))) w)) p));
      order = in_order (keys_of a) (keys_of c) (keys_of d) (h.names ++ names i) (names r)
          (in_order (keys_of a) (keys_of b) (keys_of c) h.names (names i) l.order (inside.order ∙ ap (λ z. firsts_after (keys_of b) (names z)) (sym own))) later.order
          ∙ ap (λ z. firsts_after (keys_of a) (names z)) (sym same);
    }

-- ---- what is tried

-- the names of both parts, and nothing behind them
pub both_names : (a b : PageMemo) → names (either a b blank) ≡ names a ++ names b
both_names a b = append-nil (names a ++ names b)

-- the first part, and the second unless it is shown
pub parts_made : (ends : Bool) (links : List ℕ) (row : Option RowRef) (first second : Block) (a b c : Outcomes) (x y m : PageMemo) →
    Makes (part_memo true first) links row a b x → Grows b c → Makes (where_read (failed x) (part_memo ends second)) links row b c y → m ≡ either x y blank →
    Makes (attempt_memo ends first second) links row a c m
parts_made ends links row first second a b c x y m one g two same = record {
  is = λ source agrees here e.
      let hear : Hearing = hearing (evaluating links source) in
      let w = memo_of hear ends here second in
      let p : x ≡ memo_of hear true here first = one.is source (agreed b c source g agrees) here e in
      let q : y ≡ where_ended (failed x) w = two.is source agrees here e in
      same ∙ (ap (λ z. either x z blank) q ∙ ap (λ z. either z (where_ended (failed z) w) blank) p);
  order = in_order (keys_of a) (keys_of b) (keys_of c) (names x) (names y) one.order two.order
      ∙ ap (firsts_after (keys_of a)) (sym (both_names x y) ∙ ap names (sym same));
}

-- before other lines
pub attempt_made : (ends : Bool) (links : List ℕ) (row : Option RowRef) (first second rest : Block) (a b c : Outcomes) (x y r m : PageMemo) →
    Makes (attempt_memo ends first second) links row a b (either x y blank) → Grows b c →
    Makes (unless_over (ends && failed y) (part_memo ends rest)) links row b c r → m ≡ either x y r →
    Makes (part_memo ends (attempt first second rest)) links row a c m
attempt_made ends links row first second rest a b c x y r m parts g later same = record {
  is = λ source agrees here e.
      let hear : Hearing = hearing (evaluating links source) in
      let w = memo_of hear ends here rest in
      let k = memo_of hear true here first in
      let n = where_ended (failed k) (memo_of hear ends here second) in
      let p : either x y blank ≡ either k n blank = parts.is source (agreed b c source g agrees) here e in
      let q : r ≡ unless (ends && failed y) w = later.is source agrees here e in
      same ∙ (ap (λ z. either x y z) q ∙ ap (λ z. with_rest z (unless (ends && failed (second_of z)) w)) p);
  order = in_order (keys_of a) (keys_of b) (keys_of c) (names x ++ names y) (names r)
      (parts.order ∙ ap (firsts_after (keys_of a)) (both_names x y)) later.order
      ∙ ap (λ z. firsts_after (keys_of a) (names z)) (sym same);
}

-- ---- names that are put behind others

-- names, and then others
pub then_put : (a b c xs ys : List ℕ) → b ≡ a ++ xs → c ≡ b ++ ys → c ≡ a ++ (xs ++ ys)
then_put a b c xs ys h k = k ∙ (ap (λ z. z ++ ys) h ∙ append_assoc a xs ys)

-- those of one attribute more
pub each_put : {A : Type 0} (f : A → Heard) (all : List A) (i : ℕ) (x : A) (a b c : List ℕ) → i < length all → x ≡ get_or all i x →
    b ≡ a ++ all_names (map f (take i all)) → c ≡ b ++ (f x).names → c ≡ a ++ all_names (map f (take (i + 1) all))
each_put f all i x a b c lt is h k =
    then_put a b c (all_names (map f (take i all))) (f x).names h k
    ∙ ap (λ z. a ++ z) (sym (names_more (map f (take i all)) (f x)) ∙ ap all_names (sym (mapped_more f all i x lt is)))
