-- Turns and flushes, whatever stands at the top.
use Rattle.std.proofs.Common.{◌≡◌, ℕ, zero, suc, ◌+◌, Bool, true, false, List, [], ◌∷◌, Option, Some, None, sym, ap, ◌∙◌}
use Rattle.effect_model.specs.Worlds.{Environment, Effect, World, effect_at, effect_numbers, at_rest}
use Rattle.effect_model.specs.Runs.{is_effect_due, value_now, look, Turned, after_look, at_place, turn_over, turn, Flushed, after_last, last_case, last_look, after_turn, flush_within, flush}
use Rattle.effect_laws.specs.Events.{flushed_behind}
use Rattle.effect_laws.proofs.SharedEvents.{flushes_only_tell, last_only_tells, silent, told_before, turns_only_tell}
use Rattle.effect_tables.specs.Roots.{AreBare, FlushRests, LastRests, TurnRests}
use Rattle.effect_tables.proofs.Trees.{bare_listed}
use Rattle.effect_tables.proofs.Acts.{look_keeps, rests_by, run_keeps, tops_twice, without_tops}

-- ---- turns

-- a turn's end without what stands at the top and can't own
abbrev turned_without : Turned → Turned
turned_without t = record t { world = without_tops t.world }

-- a world after which a turn or a look goes on in the same way
after_keeps : (env : Environment) (x : Effect) (due : Bool) (ran : Bool) (w : World) → AreBare w.owned →
    turned_without (after_look env x due (without_tops w) ran) ≡ turned_without (after_look env x due w ran)
after_keeps env x true ran w h = ap (λ (v : World). record { world = v; ran = true }) ((run_keeps env x).same w h)
after_keeps env x false ran w h = ap (λ (v : World). record { world = v; ran = ran }) (tops_twice w)

after_bare : (env : Environment) (x : Effect) (due : Bool) (ran : Bool) (w : World) → AreBare w.owned → AreBare (after_look env x due w ran).world.owned
after_bare env x true ran w h = (run_keeps env x).bare w h
after_bare env x false ran w h = h

place_bare : (env : Environment) (o : Option Effect) (t : Turned) → AreBare t.world.owned → AreBare (at_place env o t).world.owned
place_bare env None t h = h
place_bare env (Some x) t h =
    after_bare env x (is_effect_due (value_now env t.world) x.kept) t.ran (look env x t.world) ((look_keeps env x).bare t.world h)

place_keeps : (env : Environment) (o : Option Effect) (t : Turned) → AreBare t.world.owned →
    turned_without (at_place env o (turned_without t)) ≡ turned_without (at_place env o t)
place_keeps env None t h = ap (λ (v : World). record { world = v; ran = t.ran }) (tops_twice t.world)
place_keeps env (Some x) t h =
    let w : World = t.world in
    let due : Bool = is_effect_due (value_now env w) x.kept in
    sym (after_keeps env x due t.ran (look env x (without_tops w)) ((look_keeps env x).bare (without_tops w) (bare_listed w.owned h)))
    ∙ ap (λ v. turned_without (after_look env x due v t.ran)) ((look_keeps env x).same w h)
    ∙ after_keeps env x due t.ran (look env x w) ((look_keeps env x).bare w h)

over_bare : (env : Environment) (ids : List ℕ) (t : Turned) → AreBare t.world.owned → AreBare (turn_over env ids t).world.owned
over_bare env [] t h = h
over_bare env (e ∷ ids) t h =
    over_bare env ids (at_place env (effect_at e t.world.effects) t) (place_bare env (effect_at e t.world.effects) t h)

over_keeps : (env : Environment) (ids : List ℕ) (t : Turned) → AreBare t.world.owned →
    turned_without (turn_over env ids (turned_without t)) ≡ turned_without (turn_over env ids t)
over_keeps env [] t h = ap (λ (v : World). record { world = v; ran = t.ran }) (tops_twice t.world)
over_keeps env (e ∷ ids) t h =
    let o : Option Effect = effect_at e t.world.effects in
    sym (over_keeps env ids (at_place env o (turned_without t)) (place_bare env o (turned_without t) (bare_listed t.world.owned h)))
    ∙ ap (λ u. turned_without (turn_over env ids u)) (place_keeps env o t h)
    ∙ over_keeps env ids (at_place env o t) (place_bare env o t h)

turn_keeps : (env : Environment) (w : World) → AreBare w.owned → turned_without (turn env (without_tops w)) ≡ turned_without (turn env w)
turn_keeps env w h = over_keeps env (effect_numbers w.effects) (record { world = w; ran = false }) h

turn_bare : (env : Environment) (w : World) → AreBare w.owned → AreBare (turn env w).world.owned
turn_bare env w h = over_bare env (effect_numbers w.effects) (record { world = w; ran = false }) h

pub turns_rest : (env : Environment) → TurnRests env
turns_rest env = record {
  world = rests_by (λ w. (turn env w).world) (record { same = λ es w. ap (λ (t : Turned). t.world) (turns_only_tell env es w) }) (record {
    same = λ w h. ap (λ (t : Turned). t.world) (turn_keeps env w h);
    bare = turn_bare env;
  });
  ran = λ w h.
      let v : World = without_tops w in
      sym (ap (λ u. (turn env u).ran) (told_before v) ∙ ap (λ (t : Turned). t.ran) (turns_only_tell env v.told (silent v)))
      ∙ ap (λ (t : Turned). t.ran) (turn_keeps env w h);
}

-- ---- flushes

-- a flush's end without what stands at the top and can't own
abbrev flushed_without : Flushed → Flushed
flushed_without f = record f { world = without_tops f.world }

-- what goes on is the same
record GoesOn (go : World → Flushed) : Type 0 where
  pub same : (w : World) → AreBare w.owned → flushed_without (go (without_tops w)) ≡ flushed_without (go w)
  pub bare : (w : World) → AreBare w.owned → AreBare (go w).world.owned

last_keeps : (due : Bool) (go : World → Flushed) → GoesOn go → GoesOn (λ w. after_last due w go)
last_keeps true go on = record {
  same = λ w h. ap (λ (v : World). record { world = v; turns = 0; refused = true }) (tops_twice w);
  bare = λ w h. h;
}
last_keeps false go on = on

case_keeps : (env : Environment) (o : Option Effect) (go : World → Flushed) → GoesOn go → GoesOn (λ w. last_case env o w go)
case_keeps env None go on = on
case_keeps env (Some x) go on = record {
  same = λ w h.
      let due : Bool = is_effect_due (value_now env w) x.kept in
      sym ((last_keeps due go on).same (look env x (without_tops w)) ((look_keeps env x).bare (without_tops w) (bare_listed w.owned h)))
      ∙ ap (λ v. flushed_without (after_last due v go)) ((look_keeps env x).same w h)
      ∙ (last_keeps due go on).same (look env x w) ((look_keeps env x).bare w h);
  bare = λ w h. (last_keeps (is_effect_due (value_now env w) x.kept) go on).bare (look env x w) ((look_keeps env x).bare w h);
}

look_last : (env : Environment) (ids : List ℕ) → GoesOn (last_look env ids)
look_last env [] = record {
  same = λ w h. ap (λ (v : World). record { world = v; turns = 0; refused = false }) (tops_twice w);
  bare = λ w h. h;
}
look_last env (e ∷ ids) = record {
  same = λ w h. (case_keeps env (effect_at e w.effects) (last_look env ids) (look_last env ids)).same w h;
  bare = λ w h. (case_keeps env (effect_at e w.effects) (last_look env ids) (look_last env ids)).bare w h;
}

pub looks_rest : (env : Environment) (ids : List ℕ) → LastRests env ids
looks_rest env ids = record {
  world = rests_by (λ w. (last_look env ids w).world) (record { same = λ es w. ap (λ (f : Flushed). f.world) (last_only_tells env ids es w) }) (record {
    same = λ w h. ap (λ (f : Flushed). f.world) ((look_last env ids).same w h);
    bare = (look_last env ids).bare;
  });
  refused = λ w h.
      let v : World = without_tops w in
      sym (ap (λ u. (last_look env ids u).refused) (told_before v) ∙ ap (λ (f : Flushed). f.refused) (last_only_tells env ids v.told (silent v)))
      ∙ ap (λ (f : Flushed). f.refused) ((look_last env ids).same w h);
}

after_turn_keeps : (ran : Bool) (go : World → Flushed) → GoesOn go → GoesOn (λ w. after_turn ran w go)
after_turn_keeps true go on = record {
  same = λ w h. ap (λ (f : Flushed). record f { turns = f.turns + 1 }) (on.same w h);
  bare = on.bare;
}
after_turn_keeps false go on = record {
  same = λ w h. ap (λ (v : World). record { world = v; turns = 0; refused = false }) (tops_twice w);
  bare = λ w h. h;
}

within_keeps : (most : ℕ) (env : Environment) → GoesOn (flush_within most env)
within_keeps zero env = record {
  same = λ w h. (look_last env (effect_numbers w.effects)).same w h;
  bare = λ w h. (look_last env (effect_numbers w.effects)).bare w h;
}
within_keeps (suc more) env = record {
  same = λ w h.
      let go : World → Flushed = flush_within more env in
      let t : Turned = turn env w in
      let u : Turned = turn env (without_tops w) in
      sym ((after_turn_keeps u.ran go (within_keeps more env)).same u.world (turn_bare env (without_tops w) (bare_listed w.owned h)))
      ∙ ap (λ (s : Turned). flushed_without (after_turn s.ran s.world go)) (turn_keeps env w h)
      ∙ (after_turn_keeps t.ran go (within_keeps more env)).same t.world (turn_bare env w h);
  bare = λ w h. (after_turn_keeps (turn env w).ran (flush_within more env) (within_keeps more env)).bare (turn env w).world (turn_bare env w h);
}

-- a flush of a world at rest ends as that of the world does
flush_alike : (env : Environment) (w : World) → AreBare w.owned → flushed_without (flushed_behind w.told (flush env (at_rest w))) ≡ flushed_without (flush env w)
flush_alike env w h =
    let v : World = without_tops w in
    ap flushed_without (sym (ap (flush env) (told_before v) ∙ flushes_only_tell env v.told (silent v))) ∙ (within_keeps 100 env).same w h

pub flushes_rest : (env : Environment) → FlushRests env
flushes_rest env = record {
  world = rests_by (λ w. (flush env w).world) (record { same = λ es w. ap (λ (f : Flushed). f.world) (flushes_only_tell env es w) }) (record {
    same = λ w h. ap (λ (f : Flushed). f.world) ((within_keeps 100 env).same w h);
    bare = (within_keeps 100 env).bare;
  });
  turns = λ w h. ap (λ (f : Flushed). f.turns) (flush_alike env w h);
  refused = λ w h. ap (λ (f : Flushed). f.refused) (flush_alike env w h);
}
