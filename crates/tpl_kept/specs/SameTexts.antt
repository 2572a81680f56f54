-- Texts that come first and are the same, before other lines.
use Rattle.std.specs.Prelude.{ℕ, zero, suc}
use Rattle.tpl_model.specs.Lines.{Block}
use Rattle.tpl_hearing.specs.Heard.{Outcomes}
use Rattle.tpl_hearing.specs.HeardAgain.{AreSame}
use Rattle.tpl_model.specs.PageUpdates.PageMemos.{PageMemo, blank, line}
use Rattle.tpl_kept.specs.Heads.{rest_in}

-- what is kept of so many texts comes first
abbrev pub AreTexts : ℕ → PageMemo → Type 0
AreTexts zero m = Unit {0}
AreTexts (suc n) (line h r) = AreTexts n r
AreTexts (suc n) m = ⊥

-- each name of them was heard, and has the outcome of before
abbrev pub AreSameTexts : ℕ → Outcomes → Outcomes → PageMemo → Type 0
AreSameTexts zero before heard m = Unit {0}
AreSameTexts (suc n) before heard (line h r) = AreSame before h.names heard heard × AreSameTexts n before heard r
AreSameTexts (suc n) before heard m = ⊥

-- what is kept behind so many texts
abbrev pub kept_behind : ℕ → PageMemo → PageMemo
kept_behind zero m = m
kept_behind (suc n) (line h r) = kept_behind n r
kept_behind (suc n) m = blank

-- what is kept of so many texts, with something else behind them
abbrev pub with_behind : ℕ → PageMemo → PageMemo → PageMemo
with_behind zero m later = later
with_behind (suc n) (line h r) later = line h (with_behind n r later)
with_behind (suc n) m later = m

-- the lines behind so many
abbrev pub lines_behind : ℕ → Block → Block
lines_behind zero b = b
lines_behind (suc n) b = lines_behind n (rest_in b)
