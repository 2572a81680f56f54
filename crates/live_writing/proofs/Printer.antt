-- The lines of a command say the command.
use Rattle.std.proofs.Common.{◌≡◌, ◌⊎◌, ℕ, ◌+◌, Bool, true, false, cond, List, [], ◌∷◌, ◌++◌, length, map, flat_map, Option, Some, None, refl, sym, ap, subst, ◌∙◌, inl, inr, arith}
use Rattle.std.specs.Prelude.{Ok, Err}
use Rattle.std.specs.List.{AllByRecursion}
use Rattle.std.specs.Option.{option_map_or}
use Rattle.std.proofs.lemmas.Grind.{flat_map-append}
use Rattle.std.proofs.lemmas.List.{append-nil}
use Rattle.std.proofs.lemmas.List.Folds.{flat_map-map}
use Rattle.formula_text.specs.declared.wired.FormulaFault.{FormulaFault}
use Rattle.formula_text.specs.Grammar.{Draft}
use Rattle.formula_text.proofs.Shared.{named_back}
use Rattle.line_forms.specs.Forms.{Args}
use Rattle.line_forms.specs.Printed.{ended}
use Rattle.line_forms.proofs.Shared.{IsWhole, prints_back}
use Rattle.script_lines.specs.Lines.{NumberedLine, numbered}
use Rattle.script_lines.specs.Pieces.{Piece}
use Rattle.sig_untrack.specs.Stated.{Bodies}
use Rattle.body_text.specs.declared.fault.BodyWhy.{BodyWhy}
use Rattle.body_text.specs.declared.fault.BodyWhy.TheVariants as why
use Rattle.body_text.specs.Allowances.{effects, handlers}
use Rattle.body_text.specs.Verdicts.{Answer, IsRead}
use Rattle.body_text.specs.Statements.{lines_of}
use Rattle.body_text.specs.Grammar as body_grammar
use Rattle.body_text.specs.Printer as body
use Rattle.body_text.proofs.Shared.{read_anew, whole_lines}
use Rattle.tpl_syntax.specs.declared.fault.TemplateWhy.{TemplateWhy}
use Rattle.tpl_syntax.specs.declared.fault.TemplateWhy.TheVariants as unread
use Rattle.tpl_syntax.specs.Lines.{Plan}
use Rattle.tpl_syntax.specs.Templates as templates
use Rattle.tpl_syntax.specs.Printer as template_text
use Rattle.tpl_syntax.proofs.Shared as template_laws
use Rattle.live_entries.specs.declared.refusal.LimitWord.TheVariants as limit
use Rattle.live_entries.specs.declared.refusal.Refusal.TheVariants as refusal
use Rattle.script_items.specs.declared.contents.Content.{Content}
use Rattle.script_items.specs.declared.contents.Content.TheVariants as content
use Rattle.live_cmd.specs.declared.command.Command.{Command}
use Rattle.live_cmd.specs.declared.command.Command.TheVariants as command
use Rattle.live_cmd.specs.declared.command.Item.{Item}
use Rattle.live_cmd.specs.declared.command.Item.TheVariants as item
use Rattle.live_cmd.specs.declared.line.Line.{Line}
use Rattle.live_cmd.specs.declared.line.Line.TheVariants as line
use Rattle.live_cmd.specs.Grammar.{Row, row, commands, Said, Writes, said_line, computed, rewire, effect, on, template, close, is_alone}
use Rattle.live_cmd.specs.Refusals.{fault_of, refused_for}
use Rattle.script_items.specs.Blocks.{Block, Ends, IsContent, IsContentOf, block_item, body_content, body_refused, effect_of, handler_of, is_head, template_content, template_refused}
use Rattle.script_items.specs.Items.{IsItem, long, unended, block, faulty, says, any_long, command_of, first_line, has_many_fields, item_of, item_or}
use Rattle.live_writing.specs.Printer.{said_by, bytes_of, ended_line, command_text, lines_by, body_lines, template_lines, lines_of_command}
use Rattle.live_writing.proofs.Levels.{Stays, body_stays, template_stays}
use Rattle.live_writing.proofs.Numbered.{numbered-append, numbered_one}

-- ---- what the lines of a command say is what they said

-- the line gives what writes it again
abbrev Again : Line → Said → Type 0
Again (line.Alone c) x = said_by c ≡ x ∷ []
Again (line.Effect n o) x = (effect, (n, (o, tt))) ≡ x
Again (line.On t k e) x = (on, (t, (k, (e, tt)))) ≡ x
Again (line.Template n) x = (template, (n, tt)) ≡ x
Again line.End x = (close, tt) ≡ x

again : (r : Row) (a : Args (row r).1) → Again (said_line (r, a)) (r, a)
again computed a = ap (λ (f : Draft). (computed, (a.0, (f, (a.1.1.0, tt)))) ∷ []) (named_back a.1.0)
again rewire a = ap (λ (f : Draft). (rewire, (a.0, (f, tt))) ∷ []) (named_back a.1.0)
again _ a = refl

first_again : (l : Line) (x : Said) (c : Command) → Again l x → command_of l ≡ Some c → said_by c ≡ x ∷ []
first_again (line.Alone d) x c g e = let same : d ≡ c = cc in rw (sym same) g
first_again (line.Effect n o) x c g e = absurd cc
first_again (line.On t k v) x c g e = absurd cc
first_again (line.Template n) x c g e = absurd cc
first_again line.End x c g e = absurd cc

-- what the line of a command says is what was said
said_again : (x : Said) (c : Command) → command_of (said_line x) ≡ Some c → said_by c ≡ x ∷ []
said_again x c e = first_again (said_line x) x c (again x.0 x.1) e

-- ---- no line alone has a body

-- whether the lines of a command say all of it
abbrev pub is_flat : Command → Bool
is_flat (command.Effect n b o) = false
is_flat (command.On t k e b) = false
is_flat (command.Template n t) = false
is_flat _ = true

-- so it is with what a line gives
abbrev gives_flat : Line → Bool
gives_flat (line.Alone c) = is_flat c
gives_flat _ = true

row_flat : (r : Row) (a : Args (row r).1) → gives_flat (said_line (r, a)) ≡ true
row_flat close a = refl
row_flat _ a = refl

first_flat : (l : Line) (c : Command) → gives_flat l ≡ true → command_of l ≡ Some c → is_flat c ≡ true
first_flat (line.Alone d) c f e = let same : d ≡ c = cc in ap is_flat (sym same) ∙ f
first_flat (line.Effect n o) c f e = absurd cc
first_flat (line.On t k v) c f e = absurd cc
first_flat (line.Template n) c f e = absurd cc
first_flat line.End c f e = absurd cc

-- its lines are those that say it
pub flat_lines : (c : Command) → is_flat c ≡ true → lines_by c ≡ map bytes_of (said_by c)
flat_lines (command.Effect n b o) h = absurd cc
flat_lines (command.On t k e b) h = absurd cc
flat_lines (command.Template n t) h = absurd cc
flat_lines _ h = refl

-- ---- what a piece that is a command says

-- a piece that is this command as a line: what the line says
pub record DoneBy (c : Command) : Type 0 where
  pub line : List ℕ
  pub said : Said
  pub writes : Writes said line
  pub alone : is_alone said ≡ true
  pub sound : fault_of said ≡ None
  pub is : command_of (said_line said) ≡ Some c
  pub few : has_many_fields c ≡ false

-- a piece that is this command as a block: its first line and its last, and what is written of those between them
pub record DoneIn (c : Command) : Type 0 where
  pub first : List ℕ
  pub last : List ℕ
  pub head : Said
  pub inner : List (List ℕ)
  pub lines : lines_by c ≡ bytes_of head ∷ (inner ++ bytes_of (close, tt) ∷ [])
  pub text : command_text c ≡ flat_map ended (lines_by c)
  pub writes : Writes head first
  pub begins : is_head head.0 ≡ true
  pub end : Writes (close, tt) last
  pub whole : AllByRecursion IsWhole inner
  pub stays : Stays 1 inner 1
  pub again : (n : ℕ) → IsContent head (numbered n inner) (content.Makes c)

-- a command that is made has no more fields than there may be
made_few : (b : Bool) (c d : Command) → cond b (item.Refused (refusal.Limit limit.Fields)) (item.Do c) ≡ item.Do d → (c ≡ d) × (b ≡ false)
made_few true c d e = absurd cc
made_few false c d e = (cc, refl)

-- a line is a command where nothing is wrong with it, and it gives the command
parted : (k : ℕ) (r : Option FormulaFault) (o : Option Command) (c : Command)
    → option_map_or (λ f. item.Refused (refused_for k f)) r (item_or k o) ≡ item.Do c → (r ≡ None) × (o ≡ Some c) × (has_many_fields c ≡ false)
parted k None None c e = absurd cc
parted k None (Some d) c e =
    let both = made_few (has_many_fields d) d c e in
    (refl, ap (λ (x : Command). Some x) both.0, ap has_many_fields (sym both.0) ∙ both.1)
parted k (Some f) o c e = absurd cc

joined : (k : ℕ) (r : Option FormulaFault) (o : Option Command) (c : Command) → r ≡ None → o ≡ Some c → has_many_fields c ≡ false
    → option_map_or (λ f. item.Refused (refused_for k f)) r (item_or k o) ≡ item.Do c
joined k r o c sound is few = rw (sound, is, few) refl

-- a block that is a command ends, and makes it
block_parted : (b : Bool) (k : ℕ) (x : Content) (c : Command) → block_item b k x ≡ item.Do c → (b ≡ true) × (x ≡ content.Makes c)
block_parted b k (content.Faulty n) c e = absurd cc
block_parted true k (content.Refused r) c e = absurd cc
block_parted false k (content.Refused r) c e = absurd cc
block_parted true k (content.Makes d) c e = let same : d ≡ c = cc in (refl, ap (λ (y : Command). content.Makes y) same)
block_parted false k (content.Makes d) c e = absurd cc

-- ---- a body

-- what lines are that are no body makes no command
no_body : (k : ℕ) (w : BodyWhy) (c : Command) → body_refused k w ≡ content.Makes c → ⊥
no_body k why.Syntax c e = absurd cc
no_body k why.UntrackHere c e = absurd cc
no_body k why.ItHere c e = absurd cc
no_body k why.Nest c e = absurd cc
no_body k why.Text c e = absurd cc
no_body k why.Sources c e = absurd cc
no_body k why.Lines c e = absurd cc
no_body k (why.NoMemory x) c e = absurd cc

-- the body that was read
body_made : (makes : Bodies → Command) (x : Answer) (c : Command) → body_content makes x ≡ content.Makes c → (b : Bodies) × (x ≡ Ok b) × (makes b ≡ c)
body_made makes (Ok b) c e = (b, refl, cc)
body_made makes (Err f) c e = absurd (no_body f.at f.why c e)

-- the text of a block around a body, behind this first line
around_body : (first : Said) (b : Bodies) → ended_line first ++ (body.body_text b ++ ended_line (close, tt))
    ≡ flat_map ended (bytes_of first ∷ (body_lines b ++ bytes_of (close, tt) ∷ []))
around_body first b =
    let end = bytes_of (close, tt) in
    let inner : body.body_text b ≡ flat_map ended (body_lines b) = sym (flat_map-map ended (λ l. body.bytes_of (body_grammar.said_of l)) (lines_of (body.meaning b))) in
    ap (λ (bs : List ℕ). ended_line first ++ bs)
    (ap (λ (bs : List ℕ). bs ++ ended_line (close, tt)) inner ∙ ap (λ (bs : List ℕ). flat_map ended (body_lines b) ++ bs) (sym (append-nil (ended end)))
    ∙ sym (flat_map-append ended (body_lines b) (end ∷ [])))

-- ---- a template

-- what lines are that are no template makes no command
no_template : (k : ℕ) (w : TemplateWhy) (c : Command) → template_refused k w ≡ content.Makes c → ⊥
no_template k unread.Syntax c e = absurd cc
no_template k unread.UntrackHere c e = absurd cc
no_template k unread.ItHere c e = absurd cc
no_template k unread.VoidChild c e = absurd cc
no_template k unread.RawText c e = absurd cc
no_template k unread.Nest c e = absurd cc
no_template k unread.Text c e = absurd cc
no_template k unread.Sources c e = absurd cc
no_template k unread.Lines c e = absurd cc
no_template k (unread.NoMemory x) c e = absurd cc

-- the template that was read
template_made : (n : List ℕ) (x : templates.Answer) (c : Command) → template_content n x ≡ content.Makes c
    → (t : Plan) × (x ≡ Ok t) × (command.Template n t ≡ c)
template_made n (Ok t) c e = (t, refl, cc)
template_made n (Err f) c e = absurd (no_template f.at f.why c e)

template_text_is : (n : List ℕ) (t : Plan) → command_text (command.Template n t) ≡ flat_map ended (lines_by (command.Template n t))
template_text_is n t =
    let end = bytes_of (close, tt) in
    let inner : template_text.plan_text t ≡ flat_map ended (template_lines t) = sym (flat_map-map ended template_text.bytes_of (template_text.said_by t)) in
    ap (λ (bs : List ℕ). ended_line (template, (n, tt)) ++ bs)
    (ap (λ (bs : List ℕ). bs ++ ended_line (close, tt)) inner ∙ ap (λ (bs : List ℕ). flat_map ended (template_lines t) ++ bs) (sym (append-nil (ended end)))
    ∙ sym (flat_map-append ended (template_lines t) (end ∷ [])))

-- ---- a block

module _ (c : Command) (first last : List ℕ) (ls : List NumberedLine) where
  -- an effect that its lines make
  effect_done : (a : Args (row effect).1) (b : Bodies) → Writes (effect, a) first → IsRead effects ls (Ok b) → command.Effect a.0 b a.1.0 ≡ c
      → Writes (close, tt) last → DoneIn c
  effect_done a b w r e v =
      let d : DoneIn (command.Effect a.0 b a.1.0) = record {
        first = first;
        last = last;
        head = (effect, a);
        inner = body_lines b;
        lines = refl;
        text = around_body (effect, a) b;
        writes = w;
        begins = refl;
        end = v;
        whole = whole_lines effects ls b r;
        stays = body_stays (body.meaning b) 1 (omega arith);
        again = λ n. (Ok b, read_anew effects n ls b r, refl);
      } in
      subst (λ (f : Command). DoneIn f) e d

  -- a handler that its lines make
  handler_done : (a : Args (row on).1) (b : Bodies) → Writes (on, a) first → IsRead handlers ls (Ok b) → command.On a.0 a.1.0 a.1.1.0 b ≡ c
      → Writes (close, tt) last → DoneIn c
  handler_done a b w r e v =
      let d : DoneIn (command.On a.0 a.1.0 a.1.1.0 b) = record {
        first = first;
        last = last;
        head = (on, a);
        inner = body_lines b;
        lines = refl;
        text = around_body (on, a) b;
        writes = w;
        begins = refl;
        end = v;
        whole = whole_lines handlers ls b r;
        stays = body_stays (body.meaning b) 1 (omega arith);
        again = λ n. (Ok b, read_anew handlers n ls b r, refl);
      } in
      subst (λ (f : Command). DoneIn f) e d

  -- a template that its lines make
  template_done : (a : Args (row template).1) (t : Plan) → Writes (template, a) first → templates.IsRead ls (Ok t) → command.Template a.0 t ≡ c
      → Writes (close, tt) last → DoneIn c
  template_done a t w r e v =
      let d : DoneIn (command.Template a.0 t) = record {
        first = first;
        last = last;
        head = (template, a);
        inner = template_lines t;
        lines = refl;
        text = template_text_is a.0 t;
        writes = w;
        begins = refl;
        end = v;
        whole = template_laws.whole_lines ls t r;
        stays = template_stays ls t r;
        again = λ n. (Ok t, template_laws.read_anew n ls t r, refl);
      } in
      subst (λ (f : Command). DoneIn f) e d

  -- a block that its lines make
  content_done : (r : Row) (a : Args (row r).1) (x : Content) → Writes (r, a) first → IsContentOf r a ls x → x ≡ content.Makes c
      → Writes (close, tt) last → DoneIn c
  content_done effect a x w h e v =
      let made = body_made (effect_of a.0 a.1.0) h.0 c (sym h.2 ∙ e) in
      effect_done a made.0 w (subst (λ (y : Answer). IsRead effects ls y) made.1 h.1) made.2 v
  content_done on a x w h e v =
      let made = body_made (handler_of a.0 a.1.0 a.1.1.0) h.0 c (sym h.2 ∙ e) in
      handler_done a made.0 w (subst (λ (y : Answer). IsRead handlers ls y) made.1 h.1) made.2 v
  content_done template a x w h e v =
      let made = template_made a.0 h.0 c (sym h.2 ∙ e) in
      template_done a made.0 w (subst (λ (y : templates.Answer). templates.IsRead ls y) made.1 h.1) made.2 v
  content_done _ a x w h e v = absurd h

block_done : (p : Piece) (c : Command) (b : Block p.lines) (x : Content) → IsContent b.head b.inner x → block_item b.ends b.last.0 x ≡ item.Do c → DoneIn c
block_done p c b x h e =
    let both = block_parted b.ends b.last.0 x c e in
    content_done c b.first.1 b.last.1 b.inner b.head.0 b.head.1 x b.writes h both.1 (subst (λ (d : Bool). Ends d b.last.1) both.0 b.end)

-- what a piece says that is this command
pub done_by : (p : Piece) (i : Item) (c : Command) → IsItem p i → i ≡ item.Do c → DoneBy c ⊎ DoneIn c
done_by p _ c (long a) e = absurd cc
done_by p _ c (unended a b) e = absurd cc
done_by p _ c (block b x a d h) e = inr (block_done p c b x h e)
done_by p _ c (faulty a b n f) e = absurd cc
done_by p _ c (says x a b w t) e =
    let all = parted (first_line p.lines).0 (fault_of x) (command_of (said_line x)) c e in
    inl (record { line = (first_line p.lines).1; said = x; writes = w; alone = t; sound = all.0; is = all.1; few = all.2 })

-- it has no body
pub flat_done : (c : Command) → DoneBy c → is_flat c ≡ true
flat_done c d = first_flat (said_line d.said) c (row_flat d.said.0 d.said.1) d.is

-- the line of a command says what was said
pub said_is : (c : Command) (d : DoneBy c) → lines_by c ≡ bytes_of d.said ∷ []
said_is c d = flat_lines c (flat_done c d) ∙ ap (map bytes_of) (said_again d.said c d.is)

-- ---- printed lines are the command

-- the line of a command is the command
pub line_is : (c : Command) (n : ℕ) → DoneBy c → any_long (lines_of_command n c) ≡ false
    → IsItem (record { ended = true; lines = lines_of_command n c }) (item.Do c)
unfolding numbered
line_is c n d short =
    let lines : lines_of_command n c ≡ (n, bytes_of d.said) ∷ [] = ap (numbered n) (said_is c d) in
    let whole : item_of n d.said ≡ item.Do c = joined n (fault_of d.said) (command_of (said_line d.said)) c d.sound d.is d.few in
    let is : IsItem (record { ended = true; lines = (n, bytes_of d.said) ∷ [] }) (item_of n d.said) =
    says d.said (ap any_long (sym lines) ∙ short) refl (prints_back commands d.said d.line d.writes) d.alone in
    subst (λ (ls : List NumberedLine). IsItem (record { ended = true; lines = ls }) (item.Do c)) (sym lines)
    (subst (λ (i : Item). IsItem (record { ended = true; lines = (n, bytes_of d.said) ∷ [] }) i) whole is)

-- the lines of a block are the command that it is
pub block_is : (c : Command) (n : ℕ) (d : DoneIn c) → any_long (lines_of_command n c) ≡ false
    → IsItem (record { ended = true; lines = lines_of_command n c }) (item.Do c)
unfolding numbered
block_is c n d short =
    let end : List ℕ = bytes_of (close, tt) in
    let whole : lines_of_command n c ≡ (n, bytes_of d.head) ∷ (numbered (n + 1) d.inner ++ ((n + 1) + length d.inner, end) ∷ []) =
    ap (numbered n) d.lines
    ∙ ap (λ (ms : List NumberedLine). (n, bytes_of d.head) ∷ ms) (numbered-append (n + 1) d.inner (end ∷ []) ∙ ap (λ (ms : List NumberedLine). numbered (n + 1) d.inner ++ ms) (numbered_one ((n + 1) + length d.inner) end)) in
    let b : Block (lines_of_command n c) = record {
      first = (n, bytes_of d.head);
      inner = numbered (n + 1) d.inner;
      last = ((n + 1) + length d.inner, end);
      whole = whole;
      head = d.head;
      writes = prints_back commands d.head d.first d.writes;
      begins = d.begins;
      ends = true;
      end = prints_back commands (close, tt) d.last d.end;
    } in
    block b (content.Makes c) short refl (d.again (n + 1))
