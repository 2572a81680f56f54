use Rattle.std.proofs.Common.{arith, ℕ, List, [], ◌∷◌, ◌++◌, true, drop, length, map, refl, sym, ap, ◌∙◌}
use Rattle.std.proofs.lemmas.List.{map-append}
use Rattle.script_lines.specs.Lines.{NumberedLine, kept_lines}
use Rattle.script_lines.specs.Pieces.{Piece, inside, outside, pieces}
use Rattle.script_lines.specs.Views.{line_of}
use Rattle.script_lines.proofs.Reader.{block_ends, block_goes_on, block_unended, level_least}
use Rattle.script_lines.proofs.piece.rest_of_block.Goals as goal

pub loop-found-init : goal.loop-found-init
loop-found-init c = record {
  after = omega arith;
  within = omega arith;
  count = omega arith;
  some = omega arith;
  few = omega arith;
  rest = rw c.new-others.ensures.items refl;
}

pub returns-then-level-eq0-clause-piece : goal.returns-then-level-eq0-clause-piece
returns-then-level-eq0-clause-piece c =
    let got = ap (λ (ls : List NumberedLine). line_of c.args.first ∷ ls) (ap (map line_of) c.in_ok-push.ensures.items ∙ map-append line_of c.loop-found.others.items _) in
    sym c.loop-found.invariant.rest
    ∙ ap (pieces (inside c.loop-found.level (line_of c.args.first ∷ map line_of c.loop-found.others.items))) c.in-Some.ensures.kept
    ∙ block_ends c.loop-found.level (line_of c.args.first ∷ map line_of c.loop-found.others.items) (line_of c.in-Some.found) _ (sym c.level_after-level.ensures ∙ c.if-level-eq0.true)
    ∙ ap (λ (g : List NumberedLine). let p : Piece = record { ended = true; lines = g } in p ∷ pieces outside (kept_lines c.in-Some.after (drop c.in-Some.next c.args.script.now))) (sym got)

pub loop-found-preserved : goal.loop-found-preserved
loop-found-preserved c =
    let w = c.in-Some.ensures.within in
    let n = c.in-Some.ensures.count in
    let v = c.loop-found.invariant in
    let a = c.if-level-eq0.false in
    let b = c.level_after-level.ensures in
    let got = ap (λ (ls : List NumberedLine). line_of c.args.first ∷ ls) (ap (map line_of) c.in_ok-push.ensures.items ∙ map-append line_of c.loop-found.others.items _) in
    record {
      after = omega arith;
      within = omega arith;
      count = omega arith;
      some = omega arith;
      few = omega (arith, level_least c.loop-found.level c.in-Some.found.text.now);
      rest = ap (λ (g : List NumberedLine). pieces (inside c.level_after-level.result g) (kept_lines c.in-Some.after (drop c.in-Some.next c.args.script.now))) got
          ∙ ap (λ (k : ℕ). pieces (inside k (line_of c.args.first ∷ (map line_of c.loop-found.others.items ++ line_of c.in-Some.found ∷ []))) (kept_lines c.in-Some.after (drop c.in-Some.next c.args.script.now))) c.level_after-level.ensures
          ∙ sym (block_goes_on c.loop-found.level (line_of c.args.first ∷ map line_of c.loop-found.others.items) (line_of c.in-Some.found) _ (omega arith))
          ∙ ap (pieces (inside c.loop-found.level (line_of c.args.first ∷ map line_of c.loop-found.others.items))) (sym c.in-Some.ensures.kept)
          ∙ c.loop-found.invariant.rest;
    }

pub returns-clause-piece : goal.returns-clause-piece
returns-clause-piece c =
    let none = c.in_default.ensures.kept in
    sym c.loop-found.invariant.rest
    ∙ ap (pieces (inside c.loop-found.level (line_of c.args.first ∷ map line_of c.loop-found.others.items))) none
    ∙ rw none (block_unended c.loop-found.level (line_of c.args.first ∷ map line_of c.loop-found.others.items))
