-- Acts so far, and those of the rest.
use Rattle.std.proofs.Common.{◌≡◌, List, [], ◌++◌, Option, Some, None, Err, refl, sym, ap, ◌∙◌}
use Rattle.std.proofs.lemmas.List.{append_assoc, append-nil}
use Rattle.effect_model.specs.Bodies.{Act, BodyStep, reads, acts, fails, followed_by, and_then}
use Rattle.sig_untrack.specs.declared.evaluate.Stop.{Stop}
use Rattle.sig_untrack.specs.declared.evaluate.Stop.TheVariants as stop
use Rattle.sig_untrack.specs.Stops.{guarded_by, stopped}

pub followed_more : (as' bs : List Act) (x : BodyStep) → followed_by (as' ++ bs) x ≡ followed_by as' (followed_by bs x)
followed_more as' bs (reads s t) = refl
followed_more as' bs (acts cs) = ap acts (append_assoc as' bs cs)
followed_more as' bs (fails e) = refl

same_acts : (as' bs : List Act) → acts as' ≡ acts bs → as' ≡ bs
same_acts as' bs e = cc

-- what is guarded, and then the rest
pub guarded_then : (r : Option Stop) (old new : List Act) (x rest : BodyStep) → stopped r new (acts []) ≡ followed_by old x →
    stopped r new rest ≡ followed_by old (and_then x rest)
guarded_then None old new (reads s t) rest h = cc
guarded_then None old new (acts xs) rest h =
    ap (λ l. followed_by l rest) (sym (append-nil new) ∙ same_acts (new ++ []) (old ++ xs) h) ∙ followed_more old xs rest
guarded_then None old new (fails e) rest h = cc
guarded_then (Some (stop.Read a b)) old new (reads s t) rest h = h
guarded_then (Some (stop.Read a b)) old new (acts xs) rest h = cc
guarded_then (Some (stop.Read a b)) old new (fails e) rest h = cc
guarded_then (Some (stop.Fail e)) old new (reads s t) rest h = cc
guarded_then (Some (stop.Fail e)) old new (acts xs) rest h = cc
guarded_then (Some (stop.Fail e)) old new (fails f) rest h = h

-- what ended the body at a guard ends it
pub stopped_at : (s : Stop) (as' : List Act) (inner rest answer : BodyStep) → answer ≡ guarded_by (Err s) inner rest → stopped (Some s) as' rest ≡ followed_by as' answer
stopped_at (stop.Read a b) as' inner rest answer h = ap (followed_by as') (sym h)
stopped_at (stop.Fail e) as' inner rest answer h = ap (followed_by as') (sym h)
