use Rattle.std.proofs.Common.{◌≡◌, ◌+◌, ◌++◌, ◌∷◌, drop, get_or}
use Rattle.std.proofs.lemmas.List.{drop_more}
use Rattle.tpl_patch.specs.Sets.{left_out}
use Rattle.tpl_patch.proofs.Numbers.{one_held, one_stray}
use Rattle.tpl_patch.proofs.leaving.put_strays.Goals as goal
use Rattle.tpl_patch.proofs.leaving.put_strays.Goals.{then-stands_at, else-stands_at+in_ok-push}

pub loop-number-preserved : goal.loop-number-preserved
loop-number-preserved c =
    let i = c.loop-number.number-index in
    let xs = c.args.numbers.now in
    let kept = c.args.kept.now in
    let number = get_or xs i 0 in
    let all = left_out kept c.args.out.now.items ++ left_out kept xs in
    let rest : drop i xs ≡ number ∷ drop (i + 1) xs = drop_more xs i 0 c.loop-number-test.true in
    elim c.if-stands_at.branch [
      | then-stands_at w ↦
          rw w.out-is
          (one_held kept number (drop i xs) (drop (i + 1) xs) (left_out kept c.loop-number.out.items) all rest
          (c.stands_at.ensures w.if-stands_at.true) c.loop-number.invariant)
      | else-stands_at+in_ok-push w ↦
          rw w.out-is
          (one_stray kept number (drop i xs) (drop (i + 1) xs) c.loop-number.out.items w.push.new.self.items all rest w.in_ok-push.ensures.items c.loop-number.invariant)
    ]
