-- Characters that stand in place or are shared, as bytes.
use Rattle.std.specs.Prelude.{ℕ, Bool, List, length, nat_le, nat_lt}
use Rattle.std.specs.Rc.{rc_str_bytes}
use Rattle.sig_base.specs.declared.chars.Chars.{Chars}
use Rattle.sig_base.specs.declared.chars.Chars.TheVariants as chars
use Rattle.sig_base.specs.declared.chars.TheConstants.{FEW}

-- the bytes of the characters
abbrev pub bytes_of : Chars → List ℕ
bytes_of (chars.Few f) = f
bytes_of (chars.Shared s) = rc_str_bytes s

-- whether characters stand in place where they are at most `FEW` bytes, and only there
abbrev pub few_in_place : Chars → Bool
few_in_place (chars.Few f) = nat_le (length f) FEW
few_in_place (chars.Shared s) = nat_lt FEW (length (rc_str_bytes s))
