-- What became of what was kept of lines that are brought up to date, and what is known of before where they are gone over again.
use Rattle.std.specs.Prelude.{◌≡◌, ℕ, Bool, true, false, List, [], ◌∷◌, ◌++◌, length, Option, IfSome}
use Rattle.sig_formula.specs.Trees.{Tree}
use Rattle.sig_formula.specs.declared.formula.RowRef.{RowRef}
use Rattle.tpl_model.specs.Lines.{Block, choice, each}
use Rattle.tpl_hearing.specs.Heard.{Outcomes}
use Rattle.tpl_model.specs.KeptLines.Kept.{kept}
use Rattle.tpl_model.specs.PageUpdates.PageMemos.{PageMemo}
use Rattle.tpl_model.specs.KeptLines.Memos.{table_in, truth_in}
use Rattle.tpl_kept.specs.Renewals.{is_unread}
use Rattle.tpl_model.specs.KeptLines.Changes.{Change, made, over, chain, changed, is_made, keys_in, HadKeys, Tells, WasRow, WasTrue}
use Rattle.tpl_kept.specs.declared.making.head.Head.{Head}
use Rattle.tpl_kept.specs.declared.making.head.Head.TheVariants as head
use Rattle.tpl_kept.specs.Heads.{places_from}
use Rattle.tpl_kept.specs.Turns.{first_of, later_of, WasOpened}
use Rattle.tpl_kept.specs.declared.renewing.parts.First.{First}
use Rattle.tpl_kept.specs.declared.renewing.parts.First.TheVariants as start

-- ---- what became of lines

-- what became of the last of some; where there are none, all was made anew
abbrev pub last_change : List Change → Change
last_change [] = made
last_change (c ∷ []) = c
last_change (c ∷ d ∷ cs) = last_change (d ∷ cs)

-- what became of all lines
abbrev pub changed_of : First → Bool → List Change → List Change → Change
changed_of (start.Whole x) same inside later = changed x.change
changed_of (start.Line h) same inside later = over same (chain inside) (last_change later)

-- what became of lines in one row tells of before, and where nothing was kept they were made anew
pub record IsTold (b : Block) (links : List ℕ) (row : Option RowRef) (before : Outcomes) (was m : PageMemo) (c : Change) : Type 0 where
  pub known : is_made c ≡ false → is_unread was ≡ false
  pub tells : Tells b links row before m c

-- so it does in each of some rows
abbrev pub AreTold : Block → List ℕ → List (Option RowRef) → Outcomes → List PageMemo → List PageMemo → List Change → Type 0
AreTold b links [] before was [] [] = Unit {0}
AreTold b links (r ∷ rs) before was (m ∷ ms) (c ∷ cs) = IsTold b links r before (first_of was) m c × AreTold b links rs before (later_of was) ms cs
AreTold b links rs before was ms cs = ⊥

-- what is kept in each of some rows is put behind what was kept, and what became of it behind what became of that
pub record TellsEach (b : Block) (links : List ℕ) (rows : List (Option RowRef)) (before : Outcomes) (was dones after : List PageMemo)
    (changes later : List Change) : Type 0 where
  pub memos : List PageMemo
  pub became : List Change
  pub put : after ≡ dones ++ memos
  pub added : later ≡ changes ++ became
  pub told : AreTold b links rows before was memos became

-- ---- what is known of before

-- a row for which anything was kept stood among those of before
abbrev pub WereRows : Tree → List ℕ → Option RowRef → Outcomes → List (Option RowRef) → List PageMemo → Type 0
WereRows f links row before [] ms = Unit {0}
WereRows f links row before (r ∷ rs) ms =
    (is_unread (first_of ms) ≡ false → IfSome r (λ s. WasRow f links row before s)) × WereRows f links row before rs (later_of ms)

-- where anything was kept inside a choice that is gone over again, its test came to what it comes to now; and so it is for the rows of a loop
abbrev pub WasKnown : Block → List ℕ → Option RowRef → Outcomes → Head → List PageMemo → Type 0
WasKnown (choice f one other rest) links row before (head.Choice h) ms =
    is_unread (first_of ms) ≡ false → WasTrue f links row before (truth_in h.outcome)
WasKnown (each f inner rest) links row before (head.Each h) ms =
    WereRows f links row before (places_from (table_in h.outcome) 0 (length (table_in h.outcome).rows)) ms
WasKnown b links row before h ms = Unit {0}

-- what is known of a line that is the same: a loop had the keys that it has, and any other was heard so before
abbrev pub WasSame : Block → List ℕ → Option RowRef → Outcomes → Head → Type 0
WasSame (each f inner rest) links row before (head.Each h) = HadKeys f links row before (keys_in h.outcome)
WasSame b links row before h = WasOpened b links row before h

-- what became of lines is told, or their first is heard again where something was kept, with what is known of it if it is the same
abbrev pub BeginsTold : Block → List ℕ → Option RowRef → Outcomes → PageMemo → First → Bool → List PageMemo → Type 0
BeginsTold b links row before was (start.Whole x) same ms = IsTold b links row before was (kept x.memo) (changed x.change)
BeginsTold b links row before was (start.Line h) same ms =
    (is_unread was ≡ false) × (WasKnown b links row before h ms × (same ≡ true → WasSame b links row before h))
