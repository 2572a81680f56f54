-- What is shown of lines, line by line.
use Rattle.std.proofs.Common.{◌≡◌, ◌<◌, ◌+◌, ℕ, true, false, List, [], ◌∷◌, ◌++◌, length, get_or, map, take, Option, refl, sym, ap, ◌∙◌}
use Rattle.std.proofs.lemmas.Bool.{true≢false}
use Rattle.std.proofs.lemmas.List.{map-append, take_more}
use Rattle.sig_base.specs.declared.value.Value.TheVariants as value
use Rattle.sig_base.specs.declared.value.Outcome.{Outcome}
use Rattle.sig_base.specs.declared.value.Outcome.TheVariants.{Good, Bad}
use Rattle.page_model.specs.Forest.{Forest, none, after}
use Rattle.page_model.specs.Labels.{Look}
use Rattle.tpl_model.specs.Lines.{Block, empty, text, tag, choice, each, attempt}
use Rattle.tpl_scratch.specs.Pages.{shows_branch}
use Rattle.tpl_scratch.proofs.Shared.{after_none}
use Rattle.tpl_model.specs.PageUpdates.PageMemos.{PageMemo, unread, blank, line, element, branch, loop, row, either, nodes, part_shown, picks}
use Rattle.tpl_drawn.specs.Shown.{fits, part_of, shows_part, where_shown}

-- what is kept of another line shows nothing
pub unfit_shown : (k : Option (List ℕ)) (b : Block) (m : PageMemo) → fits b m ≡ false → nodes k b m ≡ none
unfit_shown k empty blank e = refl
unfit_shown k empty m e = refl
unfit_shown k (text n f rest) (line h r) e = absurd (true≢false e)
unfit_shown k (text n f rest) m e = refl
unfit_shown k (tag n name xs inner rest) (element hs i r) e = absurd (true≢false e)
unfit_shown k (tag n name xs inner rest) m e = refl
unfit_shown k (choice f one other rest) (branch h i r) e = absurd (true≢false e)
unfit_shown k (choice f one other rest) m e = refl
unfit_shown k (each f inner rest) (loop h i r) e = absurd (true≢false e)
unfit_shown k (each f inner rest) m e = refl
unfit_shown k (attempt first second rest) (either a b r) e = absurd (true≢false e)
unfit_shown k (attempt first second rest) m e = refl

-- the branch that is shown
pub picked : (o : Outcome) (f g : Forest Look) → after (where_shown (shows_branch o true) f) (where_shown (shows_branch o false) g) ≡ picks o f g none
picked (Good (value.Bool true)) f g = after_none f
picked (Good (value.Bool false)) f g = refl
picked (Good (value.Int i)) f g = refl
picked (Good (value.Text t)) f g = refl
picked (Good (value.Rows t)) f g = refl
picked (Bad e) f g = refl

-- the part that is shown
pub tried : (k : Option (List ℕ)) (first second : Block) (a b : PageMemo) →
    after (where_shown (shows_part b true) (nodes k first (part_of a b))) (where_shown (shows_part b false) (nodes k second (part_of a b)))
    ≡ part_shown b (nodes k first a) (nodes k second b)
tried k first second a unread = after_none (nodes k first a)
tried k first second a blank = refl
tried k first second a (line h r) = refl
tried k first second a (element hs i r) = refl
tried k first second a (branch h i r) = refl
tried k first second a (loop h i r) = refl
tried k first second a (row h i r) = refl
tried k first second a (either x y r) = refl

-- one element more, under a function
pub mapped_more : {A B : Type 0} (f : A → B) (xs : List A) (i : ℕ) (x : A) → i < length xs → x ≡ get_or xs i x →
    map f (take (i + 1) xs) ≡ map f (take i xs) ++ f x ∷ []
mapped_more f xs i x lt is = ap (map f) (take_more xs i x lt ∙ ap (λ y. take i xs ++ y ∷ []) (sym is)) ∙ map-append f (take i xs) (x ∷ [])
