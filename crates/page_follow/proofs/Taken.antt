-- What notes make of the pages that are mounted.
use Rattle.std.proofs.Common.{◌≡◌, ℕ, true, Option, Some, None, Result, Ok, Err, List, [], refl, sym, ◌∙◌, ap, subst}
use Rattle.std.specs.Prelude.{MatchResult}
use Rattle.page_model.specs.Forest.{Forest}
use Rattle.page_model.specs.Labels.{Kind}
use Rattle.page_model.specs.Replay.{Answer, Done, Op, Refused, do_op}
use Rattle.wire_model.specs.Notes.{op}
use Rattle.wire_model.specs.Following.{Mounted, Taken, op_answered, op_taken, take_note, tree_at, with_tree}
use Rattle.page_follow.specs.declared.follower.FollowFault.{FollowFault}
use Rattle.page_follow.specs.declared.follower.FollowFault.TheVariants as fault
use Rattle.page_follow.specs.Views.{Fails, IsCause, Takes, is_refused}
use Rattle.page_follow.proofs.Lookups.{with_same}

-- what isn't done is refused
not_done : (n : List ℕ) (ps : List Mounted) (a : Answer) → is_refused a ≡ true → op_answered n ps a ≡ None
not_done n ps (Done t) h = absurd cc
not_done n ps (Refused why) h = refl

-- an operation on the page of a name
changed : (n : List ℕ) (o : Op) (ps new : List Mounted) (t u : Forest Kind) → tree_at n ps ≡ Some t → do_op o t ≡ Done u → new ≡ with_tree n u ps →
    Takes (take_note (op n o) ps) new [] []
changed n o ps new t u e f g =
    subst (λ (x : Option Taken). Takes x new [] []) (sym (ap (op_taken n o ps) e ∙ ap (op_answered n ps) f)) (g, refl)

-- one that isn't done
unchanged : (why : FollowFault) (n : List ℕ) (o : Op) (ps new : List Mounted) (t : Forest Kind) → tree_at n ps ≡ Some t → IsCause why (do_op o t) → new ≡ ps →
    Fails why (take_note (op n o) ps) ps new [] []
unchanged fault.Refused n o ps new t e h same = (ap (op_taken n o ps) e ∙ not_done n ps (do_op o t) h, same, refl)
unchanged fault.NoMemory n o ps new t e h same = tt

-- either
pub change_is : (r : Result (Unit {0}) FollowFault) (n : List ℕ) (o : Op) (ps new : List Mounted) (t u : Forest Kind) → tree_at n ps ≡ Some t → new ≡ with_tree n u ps →
    MatchResult r (λ v. do_op o t ≡ Done u) (λ e. (u ≡ t) × IsCause e (do_op o t)) →
    MatchResult r (λ v. Takes (take_note (op n o) ps) new [] []) (λ e. Fails e (take_note (op n o) ps) ps new [] [])
change_is (Ok v) n o ps new t u e g h = changed n o ps new t u e h g
change_is (Err why) n o ps new t u e g h = unchanged why n o ps new t e h.1 (g ∙ (ap (λ (x : Forest Kind). with_tree n x ps) h.0 ∙ with_same n t ps e))
