-- Blocks whose lines have a grammar of their own: what they are, by what stands between their first line and their last.
use Rattle.std.specs.Prelude.{◌≡◌, ◌++◌, ℕ, Bool, true, false, List, [], ◌∷◌, Option, Ok, Err}
use Rattle.script_lines.specs.Lines.{NumberedLine}
use Rattle.sig_untrack.specs.Stated.{Bodies}
use Rattle.line_forms.specs.Forms.{Args}
use Rattle.body_text.specs.declared.fault.BodyWhy.{BodyWhy}
use Rattle.body_text.specs.declared.fault.BodyWhy.TheVariants as why
use Rattle.body_text.specs.Allowances.{effects, handlers}
use Rattle.body_text.specs.Verdicts.{Answer, IsRead}
use Rattle.tpl_syntax.specs.declared.fault.TemplateWhy.{TemplateWhy}
use Rattle.tpl_syntax.specs.declared.fault.TemplateWhy.TheVariants as unread
use Rattle.tpl_syntax.specs.Templates as templates
use Rattle.script_items.specs.declared.contents.Content.{Content}
use Rattle.script_items.specs.declared.contents.Content.TheVariants as content
use Rattle.script_items.specs.declared.contents.Head.{Head}
use Rattle.script_items.specs.declared.contents.Head.TheVariants as heads
use Rattle.live_cmd.specs.declared.command.Command.{Command}
use Rattle.live_cmd.specs.declared.command.Command.TheVariants as command
use Rattle.live_cmd.specs.declared.command.Item.{Item}
use Rattle.live_cmd.specs.declared.command.Item.TheVariants as item
use Rattle.live_entries.specs.declared.refusal.LimitWord.TheVariants as limit
use Rattle.live_entries.specs.declared.refusal.Refusal.TheVariants as refusal
use Rattle.live_cmd.specs.Grammar.{Row, row, Said, Writes, effect, on, template, close}

-- what lines are that are no body, at a line of this number; memory never is a cause of what lines are
abbrev pub body_refused : ℕ → BodyWhy → Content
body_refused k why.Syntax = content.Faulty k
body_refused k why.UntrackHere = content.Refused (refusal.UntrackHere k)
body_refused k why.ItHere = content.Refused (refusal.ItHere k)
body_refused k why.Nest = content.Refused (refusal.Nest k)
body_refused k why.Text = content.Refused (refusal.Limit limit.Text)
body_refused k why.Sources = content.Refused (refusal.Limit limit.Sources)
body_refused k why.Lines = content.Refused (refusal.Limit limit.Body)
body_refused k (why.NoMemory e) = content.Faulty k

-- the same of lines that are no template
abbrev pub template_refused : ℕ → TemplateWhy → Content
template_refused k unread.Syntax = content.Faulty k
template_refused k unread.UntrackHere = content.Refused (refusal.UntrackHere k)
template_refused k unread.ItHere = content.Refused (refusal.ItHere k)
template_refused k unread.VoidChild = content.Refused (refusal.VoidChild k)
template_refused k unread.RawText = content.Refused (refusal.RawText k)
template_refused k unread.Nest = content.Refused (refusal.Nest k)
template_refused k unread.Text = content.Refused (refusal.Limit limit.Text)
template_refused k unread.Sources = content.Refused (refusal.Limit limit.Sources)
template_refused k unread.Lines = content.Refused (refusal.Limit limit.Template)
template_refused k (unread.NoMemory e) = content.Faulty k

-- whether memory is the cause
abbrev pub is_memory : BodyWhy → Bool
is_memory (why.NoMemory e) = true
is_memory _ = false

-- so it is with a template
abbrev pub is_want : TemplateWhy → Bool
is_want (unread.NoMemory e) = true
is_want _ = false

-- what a body is of which this command is made
abbrev pub body_content : (Bodies → Command) → Answer → Content
body_content makes (Ok b) = content.Makes (makes b)
body_content makes (Err f) = body_refused f.at f.why

-- an effect that has this name and stands inside this owner, of its body
abbrev pub effect_of : List ℕ → Option (List ℕ) → Bodies → Command
effect_of n o b = command.Effect n b o

-- a handler of an event at a line of a template, of its body
abbrev pub handler_of : List ℕ → ℕ → List ℕ → Bodies → Command
handler_of t k e b = command.On t k e b

-- what the lines of a template are, which has this name
abbrev pub template_content : List ℕ → templates.Answer → Content
template_content n (Ok t) = content.Makes (command.Template n t)
template_content n (Err f) = template_refused f.at f.why

-- what a block is whose last line has this number and is an `end`, or isn't: of the lines that aren't in the grammar or may not stand
-- there the first counts, and they come before all other causes
abbrev pub block_item : Bool → ℕ → Content → Item
block_item ends n (content.Faulty k) = item.Refused (refusal.Syntax k)
block_item true n (content.Refused r) = item.Refused r
block_item true n (content.Makes c) = item.Do c
block_item false n (content.Refused r) = item.Refused (refusal.Syntax n)
block_item false n (content.Makes c) = item.Refused (refusal.Syntax n)

-- whether the lines behind such a line have a grammar of their own
abbrev pub is_head : Row → Bool
is_head effect = true
is_head on = true
is_head template = true
is_head _ = false

-- what the first line of a block says
abbrev pub said_head : Head → Said
said_head (heads.Effect n o) = (effect, (n, (o, tt)))
said_head (heads.On t k e) = (on, (t, (k, (e, tt))))
said_head (heads.Template n) = (template, (n, tt))

-- bytes write nothing that begins such a block
abbrev pub IsNoHead : List ℕ → Type 0
IsNoHead bytes = (x : Said) → Writes x bytes → is_head x.0 ≡ true → ⊥

-- these lines, behind a first line of this row, come to this
abbrev pub IsContentOf : (r : Row) → Args (row r).1 → List NumberedLine → Content → Type 0
IsContentOf effect a ls c = (x : Answer) × IsRead effects ls x × (c ≡ body_content (effect_of a.0 a.1.0) x)
IsContentOf on a ls c = (x : Answer) × IsRead handlers ls x × (c ≡ body_content (handler_of a.0 a.1.0 a.1.1.0) x)
IsContentOf template a ls c = (x : templates.Answer) × templates.IsRead ls x × (c ≡ template_content a.0 x)
IsContentOf _ a ls c = ⊥

-- the same behind a first line that says this
abbrev pub IsContent : Said → List NumberedLine → Content → Type 0
IsContent x ls c = IsContentOf x.0 x.1 ls c

-- whether bytes write an `end`
abbrev pub Ends : Bool → List ℕ → Type 0
Ends true bytes = Writes (close, tt) bytes
Ends false bytes = Writes (close, tt) bytes → ⊥

-- lines whose first says what begins such a block: that line, those behind it, and the last
pub record Block (ls : List NumberedLine) : Type 0 where
  pub first : NumberedLine
  pub inner : List NumberedLine
  pub last : NumberedLine
  pub whole : ls ≡ first ∷ (inner ++ last ∷ [])
  pub head : Said
  pub writes : Writes head first.1
  pub begins : is_head head.0 ≡ true
  pub ends : Bool
  pub end : Ends ends last.1
