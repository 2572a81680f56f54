-- What the program holds, as the definitions speak of it.
use Rattle.std.specs.Prelude.{◌≡◌, nat_eq}
use Rattle.indexmap.specs.IndexMap.{get}
use Rattle.live_model.specs.Labels as plain
use Rattle.live_labels.specs.declared.labels.Labels.{Labels}

-- what things are called
abbrev pub labels_of : Labels → plain.Labels
labels_of l = record {
  signals = l.signals.items;
  owners = l.owners.items;
  pages = l.pages.items;
  watchers = l.watchers.items;
  effects = get nat_eq l.effects;
}

-- labels of effects aside all is called as before
pub record KeepsNames (old new : Labels) : Type 0 where
  pub signals : new.signals ≡ old.signals
  pub owners : new.owners ≡ old.owners
  pub pages : new.pages ≡ old.pages
  pub watchers : new.watchers ≡ old.watchers
