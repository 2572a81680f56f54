-- Attributes and nodes that have a text, put together and taken apart.
use Rattle.std.proofs.Common.{◌≡◌, ℕ, true, false, List, [], ◌∷◌, ◌++◌, refl}
use Rattle.std.specs.Str.{bytes_eq}
use Rattle.std.proofs.lemmas.Bool.{or_parts}
use Rattle.page_model.proofs.Shared.{other_way}
use Rattle.html_out.specs.Html.{good_name}
use Rattle.page_model.specs.Labels.{Distinct, GoodNames, named}
use Rattle.page_model.specs.Texts.{HaveTexts, IsText}
use Rattle.page_ops.specs.Parser.{AreFit}

named_put : (m n v : List ℕ) (xs : List (List ℕ × List ℕ)) → named m xs ≡ false → bytes_eq n m ≡ false → named m (xs ++ (n, v) ∷ []) ≡ false
named_put m n v [] h e = rw e refl
named_put m n v (a ∷ xs) h e = let s = or_parts (bytes_eq a.0 m) (named m xs) h in rw s.0 (named_put m n v xs s.1 e)

distinct_put : (n v : List ℕ) (xs : List (List ℕ × List ℕ)) → Distinct xs → named n xs ≡ false → Distinct (xs ++ (n, v) ∷ [])
distinct_put n v [] d h = (refl, tt)
distinct_put n v (a ∷ xs) d h = let s = or_parts (bytes_eq a.0 n) (named n xs) h in (named_put a.0 n v xs d.0 (other_way a.0 n s.0), distinct_put n v xs d.1 s.1)

names_put : (n v : List ℕ) (xs : List (List ℕ × List ℕ)) → GoodNames xs → good_name n ≡ true → GoodNames (xs ++ (n, v) ∷ [])
names_put n v [] g h = (h, tt)
names_put n v (a ∷ xs) g h = (g.0, names_put n v xs g.1 h)

texts_put : (n v : List ℕ) (xs : List (List ℕ × List ℕ)) → HaveTexts xs → IsText v → HaveTexts (xs ++ (n, v) ∷ [])
texts_put n v [] g h = (h, tt)
texts_put n v (a ∷ xs) g h = (g.0, texts_put n v xs g.1 h)

-- another attribute behind those that are there
pub fit_put : (n v : List ℕ) (xs : List (List ℕ × List ℕ)) → AreFit xs → named n xs ≡ false → good_name n ≡ true → IsText v → AreFit (xs ++ (n, v) ∷ [])
fit_put n v xs fit new good text = record {
  distinct = distinct_put n v xs fit.distinct new;
  named = names_put n v xs fit.named good;
  texts = texts_put n v xs fit.texts text;
}

named_apart : (m : List ℕ) (xs ys : List (List ℕ × List ℕ)) (a : List ℕ × List ℕ) → named m (xs ++ a ∷ ys) ≡ false → bytes_eq a.0 m ≡ false
named_apart m [] ys a h = (or_parts (bytes_eq a.0 m) (named m ys) h).0
named_apart m (b ∷ xs) ys a h = named_apart m xs ys a (or_parts (bytes_eq b.0 m) (named m (xs ++ a ∷ ys)) h).1

-- an attribute among others: it has a name of HTML, which none before it has, and a text
pub fit_new : (xs ys : List (List ℕ × List ℕ)) (a : List ℕ × List ℕ) → Distinct (xs ++ a ∷ ys) → named a.0 xs ≡ false
fit_new [] ys a d = refl
fit_new (b ∷ xs) ys a d = rw (other_way a.0 b.0 (named_apart b.0 xs ys a d.0)) (fit_new xs ys a d.1)

pub fit_name : (xs ys : List (List ℕ × List ℕ)) (a : List ℕ × List ℕ) → GoodNames (xs ++ a ∷ ys) → good_name a.0 ≡ true
fit_name [] ys a g = g.0
fit_name (b ∷ xs) ys a g = fit_name xs ys a g.1

pub fit_text : (xs ys : List (List ℕ × List ℕ)) (a : List ℕ × List ℕ) → HaveTexts (xs ++ a ∷ ys) → IsText a.1
fit_text [] ys a g = g.0
fit_text (b ∷ xs) ys a g = fit_text xs ys a g.1
