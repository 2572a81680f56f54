-- Addresses: where a node of a shape comes from.
use Rattle.std.specs.Prelude.{ℕ, zero, suc, ◌+◌, ◌*◌, List, [], ◌∷◌, Option, Some, None}

-- an odd number doubled so often: each number but 0 is that in one way
abbrev pub doubled : ℕ → ℕ → ℕ
doubled zero odd = odd
doubled (suc n) odd = 2 * doubled n odd

-- two numbers as one that isn't 0
abbrev pub paired : ℕ → ℕ → ℕ
paired m n = doubled m (1 + 2 * n)

-- the bytes of a key as one number
abbrev pub key_code : List ℕ → ℕ
key_code [] = 0
key_code (b ∷ bs) = paired b (key_code bs)

-- no row, or a row by its key, as one number
abbrev pub row_code : Option (List ℕ) → ℕ
row_code None = 0
row_code (Some key) = suc (key_code key)

-- the address of a node: the ordinal of its line in the template, and the key of its row where the line stands in one
unfoldable pub address : ℕ → Option (List ℕ) → ℕ
address line row = paired line (row_code row)
