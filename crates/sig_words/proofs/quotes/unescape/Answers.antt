use Rattle.std.proofs.Common.{◌∙◌, ◌∷◌, [], ℕ, List, false, ap, sym, string_bytes}
use Rattle.std.specs.Prelude.{encode_utf8_all}
use Rattle.std.proofs.lemmas.List.{append-nil, append_assoc}
use Rattle.sig_words.specs.Literals.{plain}
use Rattle.sig_words.proofs.quotes.unescape.Goals as goal

pub loop-c-preserved : goal.loop-c-preserved
loop-c-preserved c =
    let step = c.in_ok-behind.ensures in
    record {
      rest = λ rest.
          step rest ∙ c.loop-c.invariant.rest (c.in-Some.c ∷ rest)
          ∙ ap (λ (cs : List ℕ). encode_utf8_all (plain false cs)) (sym (append_assoc c.loop-c.yielded (c.in-Some.c ∷ []) rest));
      done = sym (append-nil (string_bytes c.put_plain.new.out)) ∙ step [] ∙ c.loop-c.invariant.rest (c.in-Some.c ∷ []);
    }
