-- Bodies of one line that logs a name.
use Rattle.std.proofs.Common.{◌≡◌, ℕ, true, List, [], ◌∷◌, ◌++◌, Some, codes, map, refl, sym, ap, subst, ◌∙◌}
use Rattle.std.specs.Prelude.{Ok}
use Rattle.std.specs.Str.{bytes_eq}
use Rattle.std.proofs.lemmas.List.{append-nil}
use Rattle.std.proofs.lemmas.Slice.Eq.{bytes_eq-Decides}
use Rattle.sig_base.specs.Words.{is_name}
use Rattle.sig_formula.specs.Trees as tree
use Rattle.sig_words.specs.Lexemes.{word}
use Rattle.effect_model.specs.declared.plain.Plain.TheVariants as statement
use Rattle.formula_text.specs.Grammar.{leaf}
use Rattle.formula_text.specs.Refusals.{is_above, slot_of}
use Rattle.formula_text.specs.Signs.{name}
use Rattle.line_forms.specs.Printed.{line_text}
use Rattle.line_forms.specs.Reader.{name_of}
use Rattle.line_forms.proofs.Shared.{name_is, text_writes}
use Rattle.sig_untrack.specs.Stated as stated
use Rattle.sig_untrack.specs.declared.body.Body.{Body}
use Rattle.sig_untrack.specs.declared.body.Rewire.{Rewire as ARewire}
use Rattle.sig_untrack.specs.declared.body.Stmt.{Stmt}
use Rattle.sig_untrack.specs.Stated.{Bodies, Stated, before, bodies_before, body, no_bodies, no_more, rewiring}
use Rattle.body_text.specs.declared.allowance.Allowance.{Allowance}
use Rattle.body_text.specs.declared.allowance.StatementSet.{StatementSet}
use Rattle.body_text.specs.declared.allowance.StatementSet.TheVariants as set
use Rattle.body_text.specs.Allowances.{has}
use Rattle.body_text.specs.Grammar.{bodies, log, Said, Writes}
use Rattle.body_text.specs.Statements.{body_of, log_of}
use Rattle.body_text.specs.Verdicts.{answer_of, says, IsRead, Sayings}
use Rattle.body_text.proofs.Indents.{indented}

-- a name is the first of itself
first_slot : (n : List ℕ) → slot_of (n ∷ []) n ≡ 0
first_slot n = let same : bytes_eq n n ≡ true = (bytes_eq-Decides n n).1 refl in rw same refl

-- the body that logs a name, of its statements and lists
pub logs_body : (n : List ℕ) (ts ns : List (List ℕ)) (es : List Body) (rs : List ARewire) (ws : List Stmt) (b : Body) →
    ts ≡ [] → ns ≡ n ∷ [] → es ≡ [] → rs ≡ [] →
    ((rest : Stated) → stated.stated ws rest ≡ stated.plain (statement.Log (tree.slot 0)) rest) →
    ((others : Bodies) → before b others ≡ body (stated.stated ws no_more) ts ns (bodies_before es no_bodies) (map rewiring rs) others) →
    before b no_bodies ≡ body_of (log_of n)
logs_body n ts ns es rs ws b et en ee er logs h =
    let first : Stated = stated.plain (statement.Log (tree.slot 0)) no_more in
    h no_bodies
    ∙ ap (λ (ss : Stated). body ss ts ns (bodies_before es no_bodies) (map rewiring rs) no_bodies) (logs no_more)
    ∙ ap (λ (us : List (List ℕ)). body first us ns (bodies_before es no_bodies) (map rewiring rs) no_bodies) et
    ∙ ap (λ (us : List (List ℕ)). body first [] us (bodies_before es no_bodies) (map rewiring rs) no_bodies) en
    ∙ ap (λ (bs : List Body). body first [] (n ∷ []) (bodies_before bs no_bodies) (map rewiring rs) no_bodies) ee
    ∙ ap (λ (us : List ARewire). body first [] (n ∷ []) no_bodies (map rewiring us) no_bodies) er
    ∙ ap (λ (k : ℕ). body (stated.plain (statement.Log (tree.slot k)) no_more) [] (n ∷ []) no_bodies [] no_bodies) (sym (first_slot n))

common : (s : StatementSet) → has s set.Common ≡ true
common set.All = refl
common set.Common = refl

-- a line that logs a name
writes_log : (t n l : List ℕ) → l ≡ codes "  log " ++ t → Some n ≡ name_of (word t) → Writes (log, (leaf (name n), tt)) l
writes_log t n l is e =
    let told = name_is t n e in
    let x : Said = (log, (leaf (name n), tt)) in
    let good : is_name n ≡ true = rw told.1 told.0 in
    let text : line_text bodies x ≡ codes "log " ++ n = ap (λ (bs : List ℕ). codes "log " ++ bs) (append-nil n) in
    let own : Writes x (codes "log " ++ n) = subst (Writes x) text (text_writes bodies x refl (good, tt)) in
    let line : codes "  log " ++ n ≡ l = ap (λ (bs : List ℕ). codes "  log " ++ bs) told.1 ∙ sym is in
    subst (Writes x) line (indented bodies x (32 ∷ (codes "log " ++ n)) (indented bodies x (codes "log " ++ n) own))

-- nothing is refused of it
not_refused : (allowance : Allowance) (k : ℕ) (n : List ℕ) → answer_of allowance ((k, (log, (leaf (name n), tt))) ∷ []) (log_of n) ≡ Ok (body_of (log_of n))
unfolding is_above
not_refused allowance k n = refl

-- it is the body that logs the name
pub reads_log : (allowance : Allowance) (k : ℕ) (t n l : List ℕ) (b : Bodies) → l ≡ codes "  log " ++ t → Some n ≡ name_of (word t) → b ≡ body_of (log_of n) →
    IsRead allowance ((k, l) ∷ []) (Ok b)
reads_log allowance k t n l b is e made =
    let xs : Sayings = (k, (log, (leaf (name n), tt))) ∷ [] in
    let read = says xs (log_of n) (refl, writes_log t n l is e, common allowance.statements, tt) refl in
    rw made (subst (IsRead allowance ((k, l) ∷ [])) (not_refused allowance k n) read)
