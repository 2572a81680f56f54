-- Blocks whose lines have a grammar of their own: each is one, or none, and comes to one thing.
use Rattle.std.proofs.Common.{◌≡◌, ◌⊎◌, ◌<◌, ℕ, Bool, true, false, List, [], ◌∷◌, ◌++◌, length, refl, sym, ap, subst, ◌∙◌, inl, inr, arith}
use Rattle.line_forms.specs.Forms.{Args}
use Rattle.script_lines.specs.Lines.{NumberedLine}
use Rattle.body_text.specs.Allowances.{effects, handlers}
use Rattle.body_text.specs.Verdicts.{Answer}
use Rattle.body_text.proofs.Shared.{one_answer, some_answer}
use Rattle.tpl_syntax.specs.Templates as templates
use Rattle.tpl_syntax.proofs.Shared as template_laws
use Rattle.script_items.specs.declared.contents.Content.{Content}
use Rattle.script_items.specs.Blocks.{Block, Ends, IsContent, IsContentOf, IsNoHead, block_item, body_content, effect_of, handler_of, template_content, is_head}
use Rattle.live_cmd.specs.Grammar.{Row, row, Said, Writes, effect, on, template, close, is_alone}
use Rattle.script_items.specs.Items.{first_line, IsNoCommand}
use Rattle.live_cmd.proofs.Shared.{none_such, one_writing, such_or_none}

-- ---- lists with a last

pub no_end : {A : Type 0} (xs : List A) (x : A) → [] ≡ xs ++ x ∷ [] → ⊥
no_end [] x e = absurd cc
no_end (y ∷ ys) x e = absurd cc

cons_head : {A : Type 0} (x y : A) (xs ys : List A) → x ∷ xs ≡ y ∷ ys → x ≡ y
cons_head x y xs ys e = cc

cons_tail : {A : Type 0} (x y : A) (xs ys : List A) → x ∷ xs ≡ y ∷ ys → xs ≡ ys
cons_tail x y xs ys e = cc

-- the last is one, and so are those before it
same_parts : {A : Type 0} (xs ys : List A) (x y : A) → xs ++ x ∷ [] ≡ ys ++ y ∷ [] → (xs ≡ ys) × (x ≡ y)
same_parts [] [] x y e = (refl, cons_head x y [] [] e)
same_parts [] (z ∷ zs) x y e = absurd (no_end zs y (cons_tail x z [] (zs ++ y ∷ []) e))
same_parts (w ∷ ws) [] x y e = absurd (no_end ws x (sym (cons_tail w y (ws ++ x ∷ []) [] e)))
same_parts (w ∷ ws) (z ∷ zs) x y e =
    let rest = same_parts ws zs x y (cons_tail w z (ws ++ x ∷ []) (zs ++ y ∷ []) e) in
    let first = cons_head w z (ws ++ x ∷ []) (zs ++ y ∷ []) e in
    let others = rest.0 in
    (cc, rest.1)

-- some are the last and those before it
pub with_last : {A : Type 0} (x : A) (xs : List A) → (ys : List A) × (y : A) × (x ∷ xs ≡ ys ++ y ∷ [])
with_last x [] = ([], x, refl)
with_last x (z ∷ zs) = let rest = with_last z zs in (x ∷ rest.0, rest.1, let e = rest.2 in cc)

-- ---- what stands in a block

content_of : (r : Row) (a : Args (row r).1) (ls : List NumberedLine) (c d : Content) → IsContentOf r a ls c → IsContentOf r a ls d → c ≡ d
content_of effect a ls c d h k = h.2 ∙ ap (λ (x : Answer). body_content (effect_of a.0 a.1.0) x) (one_answer effects ls h.0 k.0 h.1 k.1) ∙ sym k.2
content_of on a ls c d h k = h.2 ∙ ap (λ (x : Answer). body_content (handler_of a.0 a.1.0 a.1.1.0) x) (one_answer handlers ls h.0 k.0 h.1 k.1) ∙ sym k.2
content_of template a ls c d h k =
    h.2 ∙ ap (λ (x : templates.Answer). template_content a.0 x) (template_laws.one_answer ls h.0 k.0 h.1 k.1) ∙ sym k.2
content_of _ a ls c d h k = absurd h

-- lines come to one thing behind what a line says
one_content : (bytes : List ℕ) (x y : Said) (ls ms : List NumberedLine) (c d : Content) → Writes x bytes → Writes y bytes → ls ≡ ms
    → IsContent x ls c → IsContent y ms d → c ≡ d
one_content bytes x y ls ms c d v w e h k =
    let same : x ≡ y = one_writing bytes x y v w in
    let there : IsContent y ls c = subst (λ (z : Said). IsContent z ls c) same h in
    content_of y.0 y.1 ms c d (subst (λ (ns : List NumberedLine). IsContent y ns c) e there) k

pub some_content : (r : Row) (a : Args (row r).1) (ls : List NumberedLine) → is_head r ≡ true → (c : Content) × IsContentOf r a ls c
some_content effect a ls h = let x = some_answer effects ls in (body_content (effect_of a.0 a.1.0) x.0, (x.0, x.1, refl))
some_content on a ls h = let x = some_answer handlers ls in (body_content (handler_of a.0 a.1.0 a.1.1.0) x.0, (x.0, x.1, refl))
some_content template a ls h = let x = template_laws.some_answer ls in (template_content a.0 x.0, (x.0, x.1, refl))
some_content _ a ls h = absurd cc

-- ---- its last line

one_end : (b c : Bool) (bytes : List ℕ) → Ends b bytes → Ends c bytes → b ≡ c
one_end true true bytes h k = refl
one_end true false bytes h k = absurd (k h)
one_end false true bytes h k = absurd (h k)
one_end false false bytes h k = refl

-- whether a row is that of an `end`
abbrev pub is_close : Row → Bool
is_close close = true
is_close _ = false

close_said : (r : Row) (a : Args (row r).1) (bytes : List ℕ) → is_close r ≡ true → Writes (r, a) bytes → Writes (close, tt) bytes
close_said close a bytes h w = w
close_said _ a bytes h w = absurd cc

-- a line that says something else isn't an `end`
pub no_close : (bytes : List ℕ) (x : Said) → Writes x bytes → is_close x.0 ≡ false → Writes (close, tt) bytes → ⊥
no_close bytes x w h v = none_such (λ y. is_close y.0) bytes x w h (close, tt) v refl

pub some_end : (bytes : List ℕ) → (b : Bool) × Ends b bytes
some_end bytes = elim (such_or_none (λ x. is_close x.0) bytes) [
  | inl c ↦ (true, close_said c.0.0 c.0.1 bytes c.2 c.1)
  | inr none ↦ (false, λ w. none (close, tt) w refl)
]

-- ---- its first line

head_alone : (r : Row) (a : Args (row r).1) → is_head r ≡ true → is_alone (r, a) ≡ false
head_alone effect a h = refl
head_alone on a h = refl
head_alone template a h = refl
head_alone _ a h = absurd cc

-- the first line of a block is no command by itself
pub no_command : (ls : List NumberedLine) → Block ls → IsNoCommand (first_line ls).1
no_command ls b =
    let writes : Writes b.head (first_line ls).1 = subst (λ (ms : List NumberedLine). Writes b.head (first_line ms).1) (sym b.whole) b.writes in
    none_such is_alone (first_line ls).1 b.head writes (head_alone b.head.0 b.head.1 b.begins)

-- ---- one block

-- a block is one item
pub one_block : (ls : List NumberedLine) (x y : Block ls) (c d : Content) → IsContent x.head x.inner c → IsContent y.head y.inner d
    → block_item x.ends x.last.0 c ≡ block_item y.ends y.last.0 d
one_block ls x y c d h k =
    let whole = sym x.whole ∙ y.whole in
    let first : x.first ≡ y.first = cons_head x.first y.first _ _ whole in
    let parts = same_parts x.inner y.inner x.last y.last (cons_tail x.first y.first _ _ whole) in
    let writes : Writes y.head x.first.1 = subst (λ (l : NumberedLine). Writes y.head l.1) (sym first) y.writes in
    let content : c ≡ d = one_content x.first.1 x.head y.head x.inner y.inner c d x.writes writes parts.0 h k in
    let end : Ends y.ends x.last.1 = subst (λ (l : NumberedLine). Ends y.ends l.1) (sym parts.1) y.end in
    let ends : x.ends ≡ y.ends = one_end x.ends y.ends x.last.1 x.end end in
    ap (λ (b : Bool). block_item b x.last.0 c) ends ∙ ap (λ (l : NumberedLine). block_item y.ends l.0 c) parts.1
    ∙ ap (λ (e : Content). block_item y.ends y.last.0 e) content

-- a block with what stands in it
abbrev pub Found : List NumberedLine → Type 0
Found ls = (b : Block ls) × (c : Content) × IsContent b.head b.inner c

-- lines are a block that comes to something, or none
pub block_or_none : (ls : List NumberedLine) → Found ls ⊎ (Block ls → ⊥)
block_or_none [] = inr (λ b. let e = b.whole in absurd cc)
block_or_none (l ∷ []) = inr (λ b. no_end b.inner b.last (cons_tail l b.first [] (b.inner ++ b.last ∷ []) b.whole))
block_or_none (l ∷ m ∷ ls) = elim (such_or_none (λ x. is_head x.0) l.1) [
  | inr none ↦ inr (λ b.
      let first : l ≡ b.first = cons_head l b.first _ _ b.whole in
      none b.head (subst (λ (k : NumberedLine). Writes b.head k.1) (sym first) b.writes) b.begins)
  | inl x ↦
      let parts = with_last m ls in
      let end = some_end parts.1.1 in
      let content = some_content x.0.0 x.0.1 parts.0 x.2 in
      let b : Block (l ∷ m ∷ ls) = record {
        first = l;
        inner = parts.0;
        last = parts.1;
        whole = ap (λ (ks : List NumberedLine). l ∷ ks) parts.2;
        head = x.0;
        writes = x.1;
        begins = x.2;
        ends = end.0;
        end = end.1;
      } in
      inl (b, content.0, content.1)
]

-- ---- a block that was read

-- lines that are parted so, of which the first is no head, are none
pub no_block : (ls : List NumberedLine) (first last : NumberedLine) (inner : List NumberedLine) → ls ≡ first ∷ (inner ++ last ∷ [])
    → IsNoHead first.1 → Block ls → ⊥
no_block ls first last inner e none b =
    let same : first ≡ b.first = cons_head first b.first _ _ (sym e ∙ b.whole) in
    none b.head (subst (λ (k : NumberedLine). Writes b.head k.1) (sym same) b.writes) b.begins

-- fewer than two lines are none
pub too_few : (ls : List NumberedLine) → length ls < 2 → Block ls → ⊥
too_few [] h b = let e = b.whole in absurd cc
too_few (l ∷ []) h b = no_end b.inner b.last (cons_tail l b.first [] (b.inner ++ b.last ∷ []) b.whole)
too_few (l ∷ m ∷ ls) h b = absurd (omega arith)
