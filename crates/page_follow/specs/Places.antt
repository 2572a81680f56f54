-- Where the first page of a name stands.
use Rattle.std.specs.Prelude.{◌≡◌, ◌<◌, ℕ, List, Some, length, slice_index_or, slice_set}
use Rattle.wire_model.specs.Following.{tree_at, with_tree}
use Rattle.page_follow.specs.declared.page.MountedPage.{MountedPage}
use Rattle.page_follow.specs.Views.{pages_of}

-- the first page of a name stands at a place: its tree is that of the name, and one that stands there in its stead, of the same name,
-- gives the name its tree
pub record IsPlace (name : List ℕ) (pages : List MountedPage) (place : ℕ) : Type 0 where
  pub within : place < length pages
  pub found : (page : MountedPage) → page ≡ slice_index_or pages place page → tree_at name (pages_of pages) ≡ Some page.tree
  pub put : (page other : MountedPage) → page ≡ slice_index_or pages place page → other.name ≡ page.name →
      pages_of (slice_set pages place other) ≡ with_tree name other.tree (pages_of pages)
