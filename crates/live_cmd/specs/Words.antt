-- The words of the commands that are a verb and a name, and of those of one word: tables, by which they are read and written.
use Rattle.std.specs.Prelude.{ℕ, if◌then◌else◌, List, [], ◌∷◌, map, codes, Option, Some, None}
use Rattle.std.specs.Str.{bytes_eq}
use Rattle.live_cmd.specs.declared.command.Bare.{Bare}
use Rattle.live_cmd.specs.declared.command.Bare.TheVariants as bares
use Rattle.live_cmd.specs.declared.command.Verb.{Verb}
use Rattle.live_cmd.specs.declared.command.Verb.TheVariants as verbs

-- the word of a verb
abbrev pub verb_word : Verb → List ℕ
verb_word verbs.Get = codes "get"
verb_word verbs.State = codes "state"
verb_word verbs.Sources = codes "sources"
verb_word verbs.Show = codes "show"
verb_word verbs.Scratch = codes "scratch"
verb_word verbs.Dispose = codes "dispose"
verb_word verbs.Pending = codes "pending"
verb_word verbs.Why = codes "why"

-- all verbs
abbrev pub all_verbs : List Verb
all_verbs = verbs.Get ∷ verbs.State ∷ verbs.Sources ∷ verbs.Show ∷ verbs.Scratch ∷ verbs.Dispose ∷ verbs.Pending ∷ verbs.Why ∷ []

-- the word of a command of one word
abbrev pub bare_word : Bare → List ℕ
bare_word bares.Flush = codes "flush"
bare_word bares.Begin = codes "begin"
bare_word bares.Commit = codes "commit"
bare_word bares.Abort = codes "abort"
bare_word bares.Record = codes "record"

-- all commands of one word
abbrev pub all_bares : List Bare
all_bares = bares.Flush ∷ bares.Begin ∷ bares.Commit ∷ bares.Abort ∷ bares.Record ∷ []

-- what has this word, by the word of each
abbrev pub found : {A : Type 0} → List (List ℕ × A) → List ℕ → Option A
found [] w = None
found (x ∷ xs) w = if bytes_eq w x.0 then Some x.1 else found xs w

-- each of these by its word
abbrev pub by_word : {A : Type 0} → (A → List ℕ) → List A → List (List ℕ × A)
by_word word_of xs = map (λ x. (word_of x, x)) xs

-- the verb that has this word
abbrev pub verb_of : List ℕ → Option Verb
verb_of w = found (by_word verb_word all_verbs) w

-- the command of one word that has it
abbrev pub bare_of : List ℕ → Option Bare
bare_of w = found (by_word bare_word all_bares) w
