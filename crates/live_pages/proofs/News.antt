-- What is told of the operations on a page.
use Rattle.std.proofs.Common.{◌≡◌, ◌<◌, List, [], ◌∷◌, ◌++◌, length, map, sym, ap, ◌∙◌, arith, append-nil, append_assoc}
use Rattle.page_model.specs.Replay.{Op}
use Rattle.live_entries.specs.declared.entry.Entry.{Entry}
use Rattle.live_entries.specs.declared.entry.Entry.TheVariants as entry
use Rattle.live_model.specs.Machine.{news_of, ops_told}
use Rattle.live_model.specs.Pages.{page_html, Page}

-- nothing of none
pub no_news : {A : Type 0} (f : A → Op) (p : Page) (ops : List A) (before : List Entry) → length ops ≡ 0 → before ≡ before ++ news_of p (map f ops)
no_news f p [] before e = sym (append-nil before)
no_news f p (o ∷ ops) before e = absurd (omega (arith, e))

-- some, and then the page
pub some_news : {A : Type 0} (f : A → Op) (p : Page) (ops : List A) (before middle after : List Entry) → 0 < length ops →
    middle ≡ before ++ ops_told p.name (map f ops) → after ≡ middle ++ entry.Page p.name (page_html p) ∷ [] → after ≡ before ++ news_of p (map f ops)
some_news f p [] before middle after lt ops page = absurd (omega (arith, lt))
some_news f p (o ∷ ops) before middle after lt told page =
    let last : List Entry = entry.Page p.name (page_html p) ∷ [] in
    page ∙ (ap (λ (es : List Entry). es ++ last) told ∙ append_assoc before (ops_told p.name (map f (o ∷ ops))) last)
