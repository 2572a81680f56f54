-- What was kept of lines is what was kept of each of them.
use Rattle.std.proofs.Common.{◌≡◌, ℕ, Bool, true, false, List, Option, Some, None, sym, ap, subst, ◌∙◌}
use Rattle.std.proofs.lemmas.Bool.{true≢false}
use Rattle.sig_formula.specs.Trees.{Tree}
use Rattle.sig_formula.specs.declared.formula.RowRef.{RowRef}
use Rattle.tpl_model.specs.Lines.{Block, text, tag, choice, each, attempt}
use Rattle.tpl_model.specs.Shapes.{Here, row_here}
use Rattle.tpl_model.specs.Sources.{evaluating}
use Rattle.tpl_hearing.specs.Heard.{Grows, Outcomes}
use Rattle.tpl_hearing.specs.HeardAgain.{AreHeardAgain}
use Rattle.tpl_model.specs.KeptLines.Kept.{rows_of}
use Rattle.tpl_model.specs.PageUpdates.PageMemos.{Heard, Hearing, PageMemo, blank, line, element, branch, loop, either, hearing, attributes_heard, each_memo, memo_of, names, picks}
use Rattle.tpl_model.specs.KeptLines.Memos.{Keeping, Makes, attempt_memo, branch_memo, lines_memo, loop_memo, rows_in, table_in, truth_in}
use Rattle.tpl_model.specs.KeptLines.Before.{WasListened, WasListenedAll, WasMade}
use Rattle.tpl_kept.specs.Renewals.{WasMadeIfRead, AreChanged, AreLooked, unheard, heard_up_to, is_unread}
use Rattle.tpl_kept.proofs.Listened.Sequences.{picks_branch, picks_rows, rows_picked, with_rest}
use Rattle.tpl_kept.proofs.Listened.Reuse.{any_here, any_row, attributes_in, remade}

-- ---- the parts of what is kept

abbrev first_heard : Heard → PageMemo → Heard
first_heard d (line h r) = h
first_heard d (branch h i r) = h
first_heard d (loop h i r) = h
first_heard d m = d

abbrev inside_of : PageMemo → PageMemo
inside_of (element hs i r) = i
inside_of (branch h i r) = i
inside_of (loop h i r) = i
inside_of m = m

abbrev rest_of : PageMemo → PageMemo
rest_of (line h r) = r
rest_of (element hs i r) = r
rest_of (branch h i r) = r
rest_of (loop h i r) = r
rest_of (either a b r) = r
rest_of m = m

-- ---- a text

pub text_was : (links : List ℕ) (row : Option RowRef) (n : ℕ) (f : Tree) (rest : Block) (before : Outcomes) (m : PageMemo) (h : Heard) (r : PageMemo) →
    WasMade (lines_memo (text n f rest)) links row before m → m ≡ line h r → WasListened f links row before h × WasMade (lines_memo rest) links row before r
text_was links row n f rest before m h r was same = (
  record {
    is = λ source agrees.
        ap (first_heard h) (sym same ∙ was.is source agrees (any_here row) (any_row row)) ∙ ap (λ z. hearing (evaluating links source) z f) (any_row row);
  },
  record { is = λ source agrees here k. ap rest_of (sym same ∙ was.is source agrees here k) },
)

-- ---- an element

pub record ElementWas (xs : List (List ℕ × Tree)) (inner rest : Block) (links : List ℕ) (row : Option RowRef) (before : Outcomes) (hs : List Heard)
    (i r : PageMemo) : Type 0 where
  pub all : WasListenedAll xs links row before hs
  pub inside : WasMade (lines_memo inner) links row before i
  pub later : WasMade (lines_memo rest) links row before r

pub element_was : (links : List ℕ) (row : Option RowRef) (n : ℕ) (name : List ℕ) (xs : List (List ℕ × Tree)) (inner rest : Block) (before : Outcomes)
    (m : PageMemo) (hs : List Heard) (i r : PageMemo) → WasMade (lines_memo (tag n name xs inner rest)) links row before m → m ≡ element hs i r →
    ElementWas xs inner rest links row before hs i r
element_was links row n name xs inner rest before m hs i r was same = record {
  all = record {
    is = λ source agrees.
        ap attributes_in (sym same ∙ was.is source agrees (any_here row) (any_row row))
        ∙ ap (λ z. attributes_heard false (hearing (evaluating links source)) z xs) (any_row row);
  };
  inside = record { is = λ source agrees here k. ap inside_of (sym same ∙ was.is source agrees here k) };
  later = record { is = λ source agrees here k. ap rest_of (sym same ∙ was.is source agrees here k) };
}

-- ---- a choice

pub record BranchWas (f : Tree) (one other rest : Block) (links : List ℕ) (row : Option RowRef) (before : Outcomes) (h : Heard) (i r : PageMemo) : Type 0 where
  pub test : WasListened f links row before h
  pub inside : WasMade (branch_memo (truth_in h.outcome) one other) links row before i
  pub later : WasMade (lines_memo rest) links row before r

pub branch_was : (links : List ℕ) (row : Option RowRef) (f : Tree) (one other rest : Block) (before : Outcomes) (m : PageMemo) (h : Heard) (i r : PageMemo) →
    WasMade (lines_memo (choice f one other rest)) links row before m → m ≡ branch h i r → BranchWas f one other rest links row before h i r
branch_was links row f one other rest before m h i r was same = record {
  test = record {
    is = λ source agrees.
        ap (first_heard h) (sym same ∙ was.is source agrees (any_here row) (any_row row)) ∙ ap (λ z. hearing (evaluating links source) z f) (any_row row);
  };
  inside = record {
    is = λ source agrees here k.
        let hear : Hearing = hearing (evaluating links source) in
        let x = memo_of hear false here one in
        let y = memo_of hear false here other in
        let p : h ≡ hear (row_here here) f = ap (first_heard h) (sym same ∙ was.is source agrees here k) in
        let q : i ≡ picks (hear (row_here here) f).outcome x y blank = ap inside_of (sym same ∙ was.is source agrees here k) in
        q ∙ (ap (λ (z : Heard). picks z.outcome x y blank) (sym p) ∙ sym (picks_branch false h.outcome one other hear here));
  };
  later = record { is = λ source agrees here k. ap rest_of (sym same ∙ was.is source agrees here k) };
}

-- the branch of before, where it is that of now
pub branch_stays : (links : List ℕ) (row : Option RowRef) (one other : Block) (before : Outcomes) (was now : Option Bool) (i m : PageMemo) →
    WasMade (branch_memo was one other) links row before i → (is_unread m ≡ false → (was ≡ now) × (m ≡ i)) →
    WasMadeIfRead (branch_memo now one other) links row before m
branch_stays links row one other before was now i m x e = record {
  made = λ u. record {
    is = λ source agrees here k.
        (e u).1 ∙ (x.is source agrees here k ∙ ap (λ z. branch_memo z one other (hearing (evaluating links source)) here) (e u).0);
  };
}

-- ---- a loop

pub record LoopWas (f : Tree) (inner rest : Block) (links : List ℕ) (row : Option RowRef) (before : Outcomes) (h : Heard) (ms : List PageMemo)
    (r : PageMemo) : Type 0 where
  pub rows : WasListened f links row before h
  pub inside : WasMade (loop_memo (table_in h.outcome) inner) links None before (rows_in (table_in h.outcome) ms)
  pub later : WasMade (lines_memo rest) links row before r

pub loop_was : (links : List ℕ) (row : Option RowRef) (f : Tree) (inner rest : Block) (before : Outcomes) (m : PageMemo) (h : Heard) (ms : List PageMemo)
    (r : PageMemo) → WasMade (lines_memo (each f inner rest)) links row before m → m ≡ loop h (rows_of h.outcome ms) r →
    LoopWas f inner rest links row before h ms r
loop_was links row f inner rest before m h ms r was same = record {
  rows = record {
    is = λ source agrees.
        ap (first_heard h) (sym same ∙ was.is source agrees (any_here row) (any_row row)) ∙ ap (λ z. hearing (evaluating links source) z f) (any_row row);
  };
  inside = record {
    is = λ source agrees here k.
        let hear : Hearing = hearing (evaluating links source) in
        let go : Here → PageMemo = λ z. memo_of hear false (Some z) inner in
        let there = any_here row in
        let e = sym same ∙ was.is source agrees there (any_row row) in
        let p : h ≡ hear (row_here there) f = ap (first_heard h) e in
        let q : rows_of h.outcome ms ≡ each_memo false go (hear (row_here there) f).outcome = ap inside_of e in
        sym (rows_picked h.outcome ms)
        ∙ (q ∙ (ap (λ (z : Heard). each_memo false go z.outcome) (sym p) ∙ sym (picks_rows false h.outcome inner hear here)));
  };
  later = record { is = λ source agrees here k. ap rest_of (sym same ∙ was.is source agrees here k) };
}

-- ---- what is tried

pub attempt_was : (links : List ℕ) (row : Option RowRef) (first second rest : Block) (before : Outcomes) (m x y r : PageMemo) →
    WasMade (lines_memo (attempt first second rest)) links row before m → m ≡ either x y r →
    WasMade (attempt_memo false first second) links row before (either x y blank) × WasMade (lines_memo rest) links row before r
attempt_was links row first second rest before m x y r was same = (
  record { is = λ source agrees here k. ap (λ z. with_rest z blank) (sym same ∙ was.is source agrees here k) },
  record { is = λ source agrees here k. ap rest_of (sym same ∙ was.is source agrees here k) },
)

-- ---- lines that were looked at

-- what was heard again, as the code has it
pub again_as : (given same : Bool) (before : Outcomes) (ids ns : List ℕ) (earlier now : Outcomes) → given ≡ same → ids ≡ ns →
    AreHeardAgain given before ids earlier now → AreHeardAgain same before ns earlier now
again_as given same before ids ns earlier now e is x = subst (λ y. y) (λ i. AreHeardAgain (e i) before (is i) earlier now) x

-- what was heard again was looked at
pub looked : (same : Bool) (before : Outcomes) (ns : List ℕ) (earlier now : Outcomes) → AreHeardAgain same before ns earlier now →
    AreLooked same before ns earlier now
looked true before ns earlier now h = h
looked false before ns earlier now h = heard_up_to h

-- where they weren't as before, and are made anew
pub changed_remade : (b : Block) (links : List ℕ) (row : Option RowRef) (before earlier mid now : Outcomes) (m k : PageMemo) →
    WasMade (lines_memo b) links row before m → AreChanged before (names m) earlier mid → Grows mid now → Makes (lines_memo b) links row mid now k →
    Makes (lines_memo b) links row earlier now k
changed_remade b links row before earlier mid now m k was (unheard e) g made = subst (λ z. Makes (lines_memo b) links row z now k) (sym e) made
changed_remade b links row before earlier mid now m k was (heard_up_to a) g made = remade b links row before earlier mid now m k was a g made

-- what is unread was never made
pub unread_was : (whole : Keeping) (links : List ℕ) (row : Option RowRef) (before : Outcomes) (m : PageMemo) → is_unread m ≡ true →
    WasMadeIfRead whole links row before m
unread_was whole links row before m e = record { made = λ u. absurd (true≢false (sym e ∙ u)) }

-- what was made is made, if it is read
pub if_read : (b : Block) (links : List ℕ) (row : Option RowRef) (before : Outcomes) (m k : PageMemo) → WasMade (lines_memo b) links row before m → k ≡ m →
    WasMadeIfRead (lines_memo b) links row before k
if_read b links row before m k was e = record { made = λ u. record { is = λ source agrees here h. e ∙ was.is source agrees here h } }
