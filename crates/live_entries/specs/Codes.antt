-- How an operation is stored where a value holds it.
use Rattle.std.specs.Prelude.{◌≡◌, ℕ, zero, suc, List, [], refl}
use Rattle.std.specs.Coded.{Coded, code_by, coded_list, coded_ℕ, coded×}
use Rattle.page_model.specs.Codes.{kind_code, tree_code}
use Rattle.page_model.specs.Forest.{Forest, none}
use Rattle.page_model.specs.Labels.{Root, Kind}
use Rattle.page_model.specs.Replay.{Op, OpRemove, OpInsert, OpMove, OpText, OpAttr, OpUnattr}

-- numbers, names and what comes in; which operation it is stands first
abbrev pub StoredOp : Type 0
StoredOp = ℕ × (ℕ × (ℕ × (ℕ × (List ℕ × (List ℕ × (Kind × Forest Kind))))))

-- an operation on numbers, and on a name or a text
abbrev short : ℕ → ℕ → ℕ → List ℕ → List ℕ → StoredOp
short tag a b s t = (tag, (a, (b, (0, (s, (t, (Root, none)))))))

-- an operation as it is stored
abbrev pub stored : Op → StoredOp
stored (OpRemove n) = short 0 n 0 [] []
stored (OpInsert p i n x k) = (1, (p, (i, (n, ([], ([], (x, k)))))))
stored (OpMove n i) = short 2 n i [] []
stored (OpText n t) = short 3 n 0 t []
stored (OpAttr n i name value) = short 4 n i name value
stored (OpUnattr n name) = short 5 n 0 name []

-- the operation of these parts
abbrev pub op_with : ℕ → ℕ → ℕ → ℕ → List ℕ → List ℕ → Kind → Forest Kind → Op
op_with zero a b c s t x k = OpRemove a
op_with (suc zero) a b c s t x k = OpInsert a b c x k
op_with (suc (suc zero)) a b c s t x k = OpMove a b
op_with (suc (suc (suc zero))) a b c s t x k = OpText a s
op_with (suc (suc (suc (suc zero)))) a b c s t x k = OpAttr a b s t
op_with _ a b c s t x k = OpUnattr a s

-- the operation that is stored
abbrev pub op_from : StoredOp → Op
op_from (tag, (a, (b, (c, (s, (t, (x, k))))))) = op_with tag a b c s t x k

-- a stored operation is that operation
pub op-stored : (o : Op) → op_from (stored o) ≡ o
op-stored (OpRemove n) = refl
op-stored (OpInsert p i n x k) = refl
op-stored (OpMove n i) = refl
op-stored (OpText n t) = refl
op-stored (OpAttr n i name value) = refl
op-stored (OpUnattr n name) = refl

-- operations are coded as they are stored
abbrev pub op_code : Coded Op
op_code =
    let bytes = coded_list coded_ℕ in
    code_by StoredOp (coded× coded_ℕ (coded× coded_ℕ (coded× coded_ℕ (coded× coded_ℕ (coded× bytes (coded× bytes (coded× kind_code tree_code)))))))
    stored op_from op-stored
