use Rattle.std.proofs.Common.{◌≡◌, ◌++◌, ℕ, List, false, string_bytes}
use Rattle.std.specs.Prelude.{encode_utf8_all}
use Rattle.sig_words.specs.Literals.{plain}
use Rattle.sig_words.proofs.quotes.unescape.Given as goal

abbrev pub invariant-loop-c : goal.invariant-loop-c
invariant-loop-c l = record {
  rest : (rest : List ℕ) → string_bytes l.out ++ encode_utf8_all (plain l.behind rest) ≡ encode_utf8_all (plain false (l.yielded ++ rest));
  done : string_bytes l.out ≡ encode_utf8_all (plain false l.yielded);
}
