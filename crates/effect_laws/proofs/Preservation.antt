-- Nothing that is done makes a signal, an owner, a page or a watcher.
use Rattle.std.proofs.Common.{◌≡◌, refl}
use Rattle.effect_model.specs.Worlds.{Counts, Environment}
use Rattle.effect_laws.specs.Counts.{others, AllKeepCounts, FlushesKeepCounts}
use Rattle.effect_laws.proofs.Changes.{Core, IsKeptByEdits, IsKeptByActs, set_keeps_core, rewire_keeps_core, back_keeps_core, dispose_keeps_core}
use Rattle.effect_laws.proofs.Changes.{run_keeps_core, flush_keeps_core}

-- so many were made
abbrev AreMade : Counts → Core → Type 0
AreMade n c = c.made ≡ n

edits_make : (n : Counts) → IsKeptByEdits (AreMade n)
edits_make n = record { sets = λ m v x c e h. h; rewires = λ m r x c e stand free h. h; ends = λ m old c stands host h. h }

acts_make : (env : Environment) (n : Counts) → IsKeptByActs env (AreMade n)
acts_make env n = record { edits = edits_make n; settles = λ names c h. h }

pub all_keep_counts : AllKeepCounts
all_keep_counts = record {
  settling = λ env names. record { same = λ w. refl };
  setting = λ env n v. record { same = λ w. set_keeps_core env (AreMade (others w)) (edits_make (others w)) n v w refl };
  rewiring = λ n r. record { same = λ w. rewire_keeps_core (AreMade (others w)) (edits_make (others w)) n r w refl };
  taking_back = λ env t. record { same = λ w. back_keeps_core env (AreMade (others w)) (edits_make (others w)) t w refl };
  disposing = λ env t. record { same = λ w. dispose_keeps_core env (AreMade (others w)) (edits_make (others w)) t w refl };
  running = λ env x. record { same = λ w. run_keeps_core env (AreMade (others w)) (acts_make env (others w)) x w refl };
}

pub flushes_keep_counts : FlushesKeepCounts
flushes_keep_counts env = record { same = λ w. flush_keeps_core env (AreMade (others w)) (acts_make env (others w)) w refl }
