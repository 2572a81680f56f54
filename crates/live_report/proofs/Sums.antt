-- Counts of parts, and what is told last.
use Rattle.std.proofs.Common.{◌≡◌, ℕ, ◌+◌, Bool, List, [], ◌∷◌, ◌++◌, cond, refl, sym, ap, ◌∙◌, arith}
use Rattle.std.specs.List.{count_by}
use Rattle.std.proofs.lemmas.List.Sums.{sum_by-append}
use Rattle.bench_workload.specs.declared.summary.Counts.{Counts}
use Rattle.live_cmd.specs.declared.command.Item.{Item}
use Rattle.live_entries.specs.declared.entry.Entry.{Entry}
use Rattle.live_report.specs.Counts.{added, counts_of, is_command, is_op, is_run, page_after, page_with}

-- counts are the same where each number is
same_counts : (a b : Counts) → a.commands ≡ b.commands → a.runs ≡ b.runs → a.ops ≡ b.ops → a ≡ b
same_counts a b commands runs ops =
    let first : ℕ → Counts = λ n. record { commands = n; runs = a.runs; ops = a.ops } in
    let second : ℕ → Counts = λ n. record { commands = b.commands; runs = n; ops = a.ops } in
    let third : ℕ → Counts = λ n. record { commands = b.commands; runs = b.runs; ops = n } in
    ap first commands ∙ (ap second runs ∙ ap third ops)

count_append : {X : Type 0} (p : X → Bool) (xs ys : List X) → count_by p (xs ++ ys) ≡ count_by p xs + count_by p ys
count_append p xs ys = sum_by-append (λ x. cond (p x) 1 0) xs ys

counts_append : (is js : List Item) (es fs : List Entry) → counts_of (is ++ js) (es ++ fs) ≡ added (counts_of is es) (counts_of js fs)
unfolding counts_of
counts_append is js es fs = same_counts (counts_of (is ++ js) (es ++ fs)) (added (counts_of is es) (counts_of js fs)) (count_append is_command is js) (count_append is_run es fs) (count_append is_op es fs)

added_assoc : (a b c : Counts) → added (added a b) c ≡ added a (added b c)
added_assoc a b c = same_counts (added (added a b) c) (added a (added b c)) (omega arith) (omega arith) (omega arith)

-- counts of parts are those of the whole
pub counts_more : (a : Counts) (is js : List Item) (es fs : List Entry) → added (added a (counts_of is es)) (counts_of js fs) ≡ added a (counts_of (is ++ js) (es ++ fs))
counts_more a is js es fs = added_assoc a (counts_of is es) (counts_of js fs) ∙ ap (added a) (sym (counts_append is js es fs))

pub added_none : (a : Counts) → added a (counts_of [] []) ≡ a
unfolding counts_of
added_none a = same_counts (added a (counts_of [] [])) a (omega arith) (omega arith) (omega arith)

pub none_added : (a : Counts) → added (counts_of [] []) a ≡ a
unfolding counts_of
none_added a = same_counts (added (counts_of [] []) a) a (omega arith) (omega arith) (omega arith)

pub counts_none : (a : Counts) → a.commands ≡ 0 → a.runs ≡ 0 → a.ops ≡ 0 → a ≡ counts_of [] []
unfolding counts_of
counts_none a commands runs ops = same_counts a (counts_of [] []) commands runs ops

pub one_item : (a b : Counts) (n : ℕ) (i : Item) → n ≡ cond (is_command i) 1 0 → b ≡ record a { commands = a.commands + n } → b ≡ added a (counts_of (i ∷ []) [])
unfolding counts_of
one_item a b n i is e = e ∙ same_counts (record a { commands = a.commands + n }) (added a (counts_of (i ∷ []) [])) (omega arith) (omega arith) (omega arith)

pub some_entries : (a b : Counts) (runs ops : ℕ) (es : List Entry) → runs ≡ count_by is_run es → ops ≡ count_by is_op es → b ≡ record a { runs = a.runs + runs; ops = a.ops + ops } → b ≡ added a (counts_of [] es)
unfolding counts_of
some_entries a b runs ops es r o e = e ∙ same_counts (record a { runs = a.runs + runs; ops = a.ops + ops }) (added a (counts_of [] es)) (omega arith) (omega arith) (omega arith)

-- the last page of two parts is that of the second, or else that of the first
pub page_more : (page : List ℕ) (es fs : List Entry) → page_after (page_after page es) fs ≡ page_after page (es ++ fs)
page_more page [] fs = refl
page_more page (e ∷ es) fs = page_more (page_with page e) es fs
