-- Trees of mounted pages, and lists of names, through changes.
use Rattle.std.proofs.Common.{◌≡◌, ℕ, Bool, true, false, cond, List, [], ◌∷◌, ◌++◌, Option, Some, None, refl, sym, ap, ◌∙◌}
use Rattle.std.specs.Str.{bytes_eq}
use Rattle.std.proofs.lemmas.Slice.Eq.{bytes_eq-Decides}
use Rattle.page_model.specs.Forest.{Forest}
use Rattle.page_model.specs.Labels.{Kind}
use Rattle.page_model.specs.Pages.{bare, tree_of}
pub use Rattle.page_model.proofs.Shared.{same_name as same}
use Rattle.wire_model.specs.Following.{Mounted, tree_at, with_tree, without_name}
use Rattle.wire_model.specs.Wired.{is_listed, unlisted}

-- ---- names

-- what holds doesn't fail
pub clash : true ≡ false → ⊥
clash c = cc

-- equal names
pub equal : (m n : List ℕ) → bytes_eq m n ≡ true → m ≡ n
equal m n h = (bytes_eq-Decides m n).0 h

-- what differs from one differs from all that are equal to it
pub other : (m n k : List ℕ) → bytes_eq m n ≡ false → bytes_eq n k ≡ true → bytes_eq m k ≡ false
other m n k h e = ap (bytes_eq m) (sym (equal n k e)) ∙ h

-- ---- trees

-- where a name isn't mounted, the bare page stands for its tree
abbrev pub or_bare : Option (Forest Kind) → Forest Kind
or_bare None = tree_of bare
or_bare (Some t) = t

-- the tree under a name
abbrev pub tree_now : List ℕ → List Mounted → Forest Kind
tree_now n ps = or_bare (tree_at n ps)

-- a page behind others, by what they have
abbrev pub or_last : List ℕ → Mounted → Option (Forest Kind) → Option (Forest Kind)
or_last n p None = cond (bytes_eq n p.name) (Some p.tree) None
or_last n p (Some t) = Some t

pub tree_behind : (n : List ℕ) (ps : List Mounted) (p : Mounted) → tree_at n (ps ++ p ∷ []) ≡ or_last n p (tree_at n ps)
tree_behind n [] p = refl
tree_behind n (q ∷ ps) p = go (bytes_eq n q.name) (tree_behind n ps p)
  where
    go : (b : Bool) → tree_at n (ps ++ p ∷ []) ≡ or_last n p (tree_at n ps) →
        cond b (Some q.tree) (tree_at n (ps ++ p ∷ [])) ≡ or_last n p (cond b (Some q.tree) (tree_at n ps))
    go true h = refl
    go false h = h

-- the tree that was put in
pub tree_put : (n : List ℕ) (t u : Forest Kind) (ps : List Mounted) → tree_at n ps ≡ Some u → tree_at n (with_tree n t ps) ≡ Some t
tree_put n t u [] h = cc
tree_put n t u (p ∷ ps) h = go (bytes_eq n p.name) refl h (tree_put n t u ps)
  where
    go : (b : Bool) → bytes_eq n p.name ≡ b → cond b (Some p.tree) (tree_at n ps) ≡ Some u →
        (tree_at n ps ≡ Some u → tree_at n (with_tree n t ps) ≡ Some t) →
        tree_at n (cond b (record p { tree = t } ∷ ps) (p ∷ with_tree n t ps)) ≡ Some t
    go true e k rest = ap (λ c. cond c (Some t) (tree_at n ps)) e
    go false e k rest = ap (λ c. cond c (Some p.tree) (tree_at n (with_tree n t ps))) e ∙ rest k

-- all others stay
pub tree_other : (m n : List ℕ) (t : Forest Kind) (ps : List Mounted) → bytes_eq m n ≡ false → tree_at m (with_tree n t ps) ≡ tree_at m ps
tree_other m n t [] h = refl
tree_other m n t (p ∷ ps) h = go (bytes_eq n p.name) refl (tree_other m n t ps h)
  where
    go : (b : Bool) → bytes_eq n p.name ≡ b → tree_at m (with_tree n t ps) ≡ tree_at m ps →
        tree_at m (cond b (record p { tree = t } ∷ ps) (p ∷ with_tree n t ps)) ≡ cond (bytes_eq m p.name) (Some p.tree) (tree_at m ps)
    go true e rest =
        let d : bytes_eq m p.name ≡ false = other m n p.name h e in
        ap (λ c. cond c (Some t) (tree_at m ps)) d ∙ sym (ap (λ c. cond c (Some p.tree) (tree_at m ps)) d)
    go false e rest = ap (λ o. cond (bytes_eq m p.name) (Some p.tree) o) rest

-- what was taken out isn't there
pub tree_out : (n : List ℕ) (ps : List Mounted) → tree_at n (without_name n ps) ≡ None
tree_out n [] = refl
tree_out n (p ∷ ps) = go (bytes_eq n p.name) refl (tree_out n ps)
  where
    go : (b : Bool) → bytes_eq n p.name ≡ b → tree_at n (without_name n ps) ≡ None → tree_at n (cond b (without_name n ps) (p ∷ without_name n ps)) ≡ None
    go true e rest = rest
    go false e rest = ap (λ c. cond c (Some p.tree) (tree_at n (without_name n ps))) e ∙ rest

pub tree_kept : (m n : List ℕ) (ps : List Mounted) → bytes_eq m n ≡ false → tree_at m (without_name n ps) ≡ tree_at m ps
tree_kept m n [] h = refl
tree_kept m n (p ∷ ps) h = go (bytes_eq n p.name) refl (tree_kept m n ps h)
  where
    go : (b : Bool) → bytes_eq n p.name ≡ b → tree_at m (without_name n ps) ≡ tree_at m ps →
        tree_at m (cond b (without_name n ps) (p ∷ without_name n ps)) ≡ cond (bytes_eq m p.name) (Some p.tree) (tree_at m ps)
    go true e rest = rest ∙ sym (ap (λ c. cond c (Some p.tree) (tree_at m ps)) (other m n p.name h e))
    go false e rest = ap (λ o. cond (bytes_eq m p.name) (Some p.tree) o) rest

-- ---- lists of names

pub name_out : (n : List ℕ) (ns : List (List ℕ)) → is_listed n (unlisted n ns) ≡ false
name_out n [] = refl
name_out n (k ∷ ns) = go (bytes_eq n k) refl (name_out n ns)
  where
    go : (b : Bool) → bytes_eq n k ≡ b → is_listed n (unlisted n ns) ≡ false → is_listed n (cond b (unlisted n ns) (k ∷ unlisted n ns)) ≡ false
    go true e rest = rest
    go false e rest = ap (λ c. cond c true (is_listed n (unlisted n ns))) e ∙ rest

pub name_kept : (m n : List ℕ) (ns : List (List ℕ)) → bytes_eq m n ≡ false → is_listed m (unlisted n ns) ≡ is_listed m ns
name_kept m n [] h = refl
name_kept m n (k ∷ ns) h = go (bytes_eq n k) refl (name_kept m n ns h)
  where
    go : (b : Bool) → bytes_eq n k ≡ b → is_listed m (unlisted n ns) ≡ is_listed m ns → is_listed m (cond b (unlisted n ns) (k ∷ unlisted n ns)) ≡ cond (bytes_eq m k) true (is_listed m ns)
    go true e rest = rest ∙ sym (ap (λ c. cond c true (is_listed m ns)) (other m n k h e))
    go false e rest = ap (λ o. cond (bytes_eq m k) true o) rest
