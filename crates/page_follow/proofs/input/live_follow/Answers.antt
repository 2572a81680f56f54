use Rattle.std.proofs.Common.{ap, arith, rules, take, ◌-◌}
use Rattle.page_follow.specs.Following.{Ended}
use Rattle.page_follow.specs.declared.input.FollowEnd.TheVariants as end
use Rattle.page_follow.specs.declared.input.TheConstants.{MOST_FRAMES}
use Rattle.page_follow.proofs.Fed.{by_kind}
use Rattle.page_follow.proofs.Streams.{count_came, cut_followed, none_at_fault, none_followed, part_followed, piece_ended, still_came}
use Rattle.page_follow.proofs.input.live_follow.Goals as goal

pub returns-in_err-frames-clause-ended : goal.returns-in_err-frames-clause-ended
returns-in_err-frames-clause-ended g c =
    by_kind c.from_residual.result end.Memory (g.S.Source.left c.args.source.now) (λ e input. Ended e input (g.K.Sink.held c.args.sink.now) (g.K.Sink.held c.args.sink.now))
    c.from_residual.ensures.1 (none_followed _ _)

pub returns-in-Err-clause-ended : goal.returns-in-Err-clause-ended
returns-in-Err-clause-ended g c = part_followed _ _ _ _ _ _ c.loop-count.invariant.so_far

pub returns-in-Err-follow_within-clause-ended : goal.returns-in-Err-follow_within-clause-ended
returns-in-Err-follow_within-clause-ended g c =
    piece_ended c.pieces_law.ensures.on c.pieces_law.ensures.stop c.one_stream.ensures.front c.one_stream.ensures.front_stop c.in-Err-follow_within.end
    _ _ _ _ _ _ _ _ _ (MOST_FRAMES - c.loop-count.came) c.loop-count.invariant.so_far c.in-Ok.ensures.bytes.0 c.in-Err-follow_within.ensures.ends
    (let few = c.loop-count.invariant.few in omega (arith, few))

pub loop-count-preserved : goal.loop-count-preserved
loop-count-preserved g c = record {
  so_far = count_came c.pieces_law.ensures.on _ _ _ _ _ _ _ _ _ c.loop-count.came c.in-Ok.count c.loop-count.invariant.so_far c.in-Ok.ensures.bytes.0
      c.in-Ok-follow_within.ensures.writes (search rules);
  few = search rules;
  place = search rules;
  given = search rules;
  later = search rules;
  later_put = search rules;
}

pub returns-then-rest-gt0-clause-ended : goal.returns-then-rest-gt0-clause-ended
returns-then-rest-gt0-clause-ended g c =
    let none = ap (λ n. take n c.take.new.buf) c.if-count-eq0.true in
    let all = still_came _ _ _ _ _ _ _ _ c.loop-count.invariant.so_far c.in-Ok.ensures.bytes.0 none in
    cut_followed _ _ _ _ _ _ all (c.in-Ok.ensures.bytes.1 c.if-count-eq0.true (search rules)) c.loop-count.invariant.few
    (let r = c.rest.ensures in omega (arith, r))

pub returns-clause-fine : goal.returns-clause-fine
returns-clause-fine g c =
    let none = ap (λ n. take n c.take.new.buf) c.if-count-eq0.true in
    let all = still_came _ _ _ _ _ _ _ _ c.loop-count.invariant.so_far c.in-Ok.ensures.bytes.0 none in
    none_at_fault c.one_stream.ensures.stream c.one_stream.ensures.front c.one_stream.ensures.front_stop _ _ _ _ _ _ all
    (c.in-Ok.ensures.bytes.1 c.if-count-eq0.true (search rules)) c.loop-count.invariant.few (let r = c.rest.ensures in omega (arith, r))
