-- Lines one after the other, each with its number: which bytes write a line, and where a line may stand.
use Rattle.std.specs.Prelude.{◌≡◌, ◌⊎◌, ℕ, Bool, List, [], ◌∷◌, map, IsTrue}
use Rattle.sig_words.specs.declared.token.Token.{Token}
use Rattle.sig_words.specs.Lexemes.{lexemes}
use Rattle.sig_words.specs.Tokens.{AreTokens}
use Rattle.line_forms.specs.Rows.{Language, Said, Spells}

-- bytes write a line: their tokens spell it
pub record Writes (language : Language) (said : Said language) (bytes : List ℕ) : Type 0 where
  pub tokens : List Token
  pub cut : AreTokens bytes tokens
  pub spelled : Spells language said (lexemes bytes tokens)

-- places among lines: whether a line may stand there, and the place behind it
pub record Places (S P : Type 0) : Type 0 where
  pub fits : P → S → Bool
  pub moved : P → S → P

-- from a place on, the lines say this, each where it may stand
abbrev pub Say : {P : Type 0} (language : Language) → Places (Said language) P → P → List (ℕ × List ℕ) → List (ℕ × Said language) → Type 0
Say language at p [] [] = Unit {0}
Say language at p (l ∷ ls) (x ∷ xs) =
    (x.0 ≡ l.0) × Writes language x.1 l.1 × IsTrue (at.fits p x.1) × Say language at (at.moved p x.1) ls xs
Say language at p _ _ = ⊥

-- from a place on, the line of this number is the first that says nothing which may stand there
abbrev pub IsFaulty : {P : Type 0} (language : Language) → Places (Said language) P → P → List (ℕ × List ℕ) → ℕ → Type 0
IsFaulty language at p [] k = ⊥
IsFaulty language at p (l ∷ ls) k =
    ((k ≡ l.0) × ((x : Said language) → Writes language x l.1 → IsTrue (at.fits p x) → ⊥))
    ⊎ ((x : Said language) × Writes language x l.1 × IsTrue (at.fits p x) × IsFaulty language at (at.moved p x) ls k)

-- what lines say, without their numbers
abbrev pub said_all : {S : Type 0} → List (ℕ × S) → List S
said_all xs = map (λ x. x.1) xs

-- the place behind lines that say this
abbrev pub reached : {S P : Type 0} → Places S P → P → List (ℕ × S) → P
reached at p [] = p
reached at p (x ∷ xs) = reached at (at.moved p x.1) xs
