-- A teardown by its parts.
use Rattle.std.proofs.Common.{◌≡◌, List, [], ◌∷◌, refl, sym, ap, ◌∙◌}
use Rattle.effect_model.specs.Owners.{the_owner, the_effect, the_page, the_signal, the_watcher, Undoing, cleans, ends}
use Rattle.effect_model.specs.Worlds.{Environment, World, cleaned, gone, tell}
use Rattle.effect_model.specs.Acts.{do_cleanup, end_of, undo, undo_all}
use Rattle.effect_laws.specs.Frames.{ended_all, ended_one, signal_part, with_part}
use Rattle.effect_laws.proofs.Frames.{framed_cleanup, framed_end, framed_tell, framed_then, part_same, with_with}

-- what ends does so whatever the signals are
pub ended_part : (us : List Undoing) (x w : World) → ended_all us (with_part x w) ≡ with_part x (ended_all us w)
ended_part [] x w = refl
ended_part (cleans t c ∷ us) x w = ended_part us x w
ended_part (ends (the_signal n) ∷ us) x w = ended_part us x w
ended_part (ends (the_owner n) ∷ us) x w = ended_part us x (ended_one (ends (the_owner n)) w)
ended_part (ends (the_effect n) ∷ us) x w = ended_part us x (ended_one (ends (the_effect n)) w)
ended_part (ends (the_page n) ∷ us) x w = ended_part us x (ended_one (ends (the_page n)) w)
ended_part (ends (the_watcher n) ∷ us) x w = ended_part us x w

-- one step by its parts
pub undo_split : (env : Environment) (u : Undoing) (w : World) → undo env u w ≡ with_part (undo env u (signal_part w)) (ended_one u w)
undo_split env (cleans t c) w = (framed_then (tell (cleaned t c)) (do_cleanup env c) (framed_tell (cleaned t c ∷ [])) (framed_cleanup env c)).framed w
undo_split env (ends (the_signal n)) w = (framed_then (end_of (the_signal n)) (tell (gone (the_signal n))) (framed_end n) (framed_tell (gone (the_signal n) ∷ []))).framed w
undo_split env (ends (the_owner n)) w = refl
undo_split env (ends (the_effect n)) w = refl
undo_split env (ends (the_page n)) w = refl
undo_split env (ends (the_watcher n)) w = refl

-- where nothing else was made, nothing else ends
ended_none : (us : List Undoing) (w : World) → ended_all us (signal_part w) ≡ signal_part w
ended_none [] w = refl
ended_none (cleans t c ∷ us) w = ended_none us w
ended_none (ends (the_signal n) ∷ us) w = ended_none us w
ended_none (ends (the_owner n) ∷ us) w = ended_none us w
ended_none (ends (the_effect n) ∷ us) w = ended_none us w
ended_none (ends (the_page n) ∷ us) w = ended_none us w
ended_none (ends (the_watcher n) ∷ us) w = ended_none us w

-- nor in a step
part_still : (env : Environment) (u : Undoing) (w : World) → undo env u (signal_part w) ≡ with_part (undo env u (signal_part w)) (signal_part w)
part_still env u w = undo_split env u (signal_part w) ∙ ap (with_part (undo env u (signal_part w))) (ended_none (u ∷ []) w)

ended_still : (env : Environment) (us : List Undoing) (u : Undoing) (w : World) → ended_all us (undo env u (signal_part w)) ≡ undo env u (signal_part w)
ended_still env us u w =
    let x : World = undo env u (signal_part w) in
    ap (ended_all us) (part_still env u w) ∙ ended_part us x (signal_part w) ∙ ap (with_part x) (ended_none us w) ∙ sym (part_still env u w)

pub undo_all_split : (env : Environment) (us : List Undoing) (w : World) → undo_all env us w ≡ with_part (undo_all env us (signal_part w)) (ended_all us w)
undo_all_split env [] w = part_same w
undo_all_split env (u ∷ us) w =
    let x : World = undo env u (signal_part w) in
    let y : World = undo_all env us (signal_part x) in
    undo_all_split env us (undo env u w)
    ∙ (λ i. with_part (undo_all env us (signal_part (undo_split env u w i))) (ended_all us (undo_split env u w i)))
    ∙ ap (with_part y) (ended_part us x (ended_one u w))
    ∙ with_with y x (ended_all us (ended_one u w))
    ∙ ap (λ z. with_part z (ended_all us (ended_one u w))) (sym (undo_all_split env us x ∙ ap (with_part y) (ended_still env us u w)))
