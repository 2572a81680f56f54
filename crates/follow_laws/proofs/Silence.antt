-- No event whose pages are off tells that a page that lives is gone, since labels are names of what has them.
use Rattle.std.proofs.Common.{◌≡◌, ℕ, ◌==◌, zero, suc, Bool, true, false, cond, List, [], ◌∷◌, ◌++◌, Option, Some, None, length, refl, sym, ap}
use Rattle.std.proofs.Common.{arith, ◌∙◌}
use Rattle.std.specs.Prelude.{slice_get, unwrap_or}
use Rattle.std.specs.List.{AllByRecursion}
use Rattle.std.specs.Option.{option_map_or}
use Rattle.std.specs.Str.{bytes_eq}
use Rattle.std.proofs.lemmas.Bool.{eqb-true}
use Rattle.signal_model.specs.Signals.{is_in}
use Rattle.effect_model.specs.Owners.{Thing, the_effect, the_owner, the_page, the_signal, the_watcher}
use Rattle.effect_model.specs.Worlds.{Event, cleaned, gone, made_child}
use Rattle.live_entries.specs.declared.entry.Entry.{Entry}
use Rattle.live_entries.specs.declared.entry.Entry.TheVariants as entry
use Rattle.live_model.specs.declared.names.Meaning.{Meaning}
use Rattle.live_model.specs.Labels.{Labels, child_label, is_named, label_at, labels_after, lasting, named as a_label, named_at, relabelled, unmade, with_label}
use Rattle.live_model.specs.Machine.{cleanup_entries, entries_of, event_entries}
use Rattle.live_model.specs.Names.{Names, meaning_of}
use Rattle.live_model.specs.Pages.{Page}
use Rattle.follow_laws.specs.ToldPages.{AreSilent, has_page}
use Rattle.follow_laws.proofs.MountedTrees.{clash, equal}
use Rattle.follow_laws.proofs.NamedPages.{IsNumbered, a_page}
use Rattle.live_entries.specs.declared.label.Label.{Label}
use Rattle.follow_laws.proofs.ToldEnds.{IsOff}
use Rattle.follow_laws.proofs.NamedPages.{meaning_kept}

-- ---- labels

-- the name stands for something else than a page
abbrev pub IsElse : Names → List ℕ → Type 0
IsElse names n = (x : Meaning) × (meaning_of names n ≡ Some x) × ((i : ℕ) → x ≡ a_page i → ⊥)

-- so does that of an effect's label without a path
abbrev IsElseLabel : Names → Option Label → Type 0
IsElseLabel names None = Unit {0}
IsElseLabel names (Some l) = is_named l ≡ true → IsElse names l.name

-- the names of labels stand for what has them
pub record AreCalled (names : Names) (l : Labels) : Type 0 where
  pub signals : AllByRecursion (IsElse names) l.signals
  pub owners : AllByRecursion (IsElse names) l.owners
  pub watchers : AllByRecursion (IsElse names) l.watchers
  pub effects : (i : ℕ) → IsElseLabel names (l.effects i)
  pub pages : (i : ℕ) (n : List ℕ) → slice_get l.pages i ≡ Some n → meaning_of names n ≡ Some (a_page i)

child_pathed : (l : Label) (k : ℕ) → (length (child_label l k).path == 0) ≡ true → ⊥
child_pathed l k h = go l.path h
  where
    go : (p : List ℕ) → (length (p ++ k ∷ []) == 0) ≡ true → ⊥
    go [] e = clash (sym e)
    go (q ∷ p) e = clash (sym e ∙ more (length (p ++ k ∷ [])))
      where
        no : (n : ℕ) → suc n ≡ 0 → ⊥
        no n e = omega (arith, e)

        more : (n : ℕ) → (suc n == 0) ≡ false
        more n = by (suc n == 0) refl
          where
            by : (b : Bool) → (suc n == 0) ≡ b → (suc n == 0) ≡ false
            by true e = absurd (no n (eqb-true (suc n) 0 e))
            by false e = e

-- where one effect has such a label, or none, and the others have such
pub with_else : (names : Names) (n : ℕ) (l : Option Label) (labels : ℕ → Option Label) → IsElseLabel names l → ((i : ℕ) → IsElseLabel names (labels i)) →
    (i : ℕ) → IsElseLabel names (with_label n l labels i)
with_else names n l labels new h i = go (n == i)
  where
    go : (b : Bool) → IsElseLabel names (cond b l (labels i))
    go true = new
    go false = h i

lasts_else : (names : Names) (l : Option Label) → IsElseLabel names l → IsElseLabel names (lasting l)
lasts_else names None h = tt
lasts_else names (Some l) h = go (is_named l)
  where
    go : (b : Bool) → IsElseLabel names (cond b (Some l) None)
    go true = h
    go false = tt

labels_one : (names : Names) (e : Event) (labels : Labels) → AreCalled names labels → AreCalled names (relabelled e labels)
labels_one names (made_child c p k) labels h = record {
  signals = h.signals;
  owners = h.owners;
  watchers = h.watchers;
  effects = with_else names c (Some (child_label (label_at labels.effects p) k)) labels.effects
      (λ e. absurd (child_pathed (label_at labels.effects p) k e)) h.effects;
  pages = h.pages;
}
labels_one names (gone (the_effect n)) labels h = record {
  signals = h.signals;
  owners = h.owners;
  watchers = h.watchers;
  effects = with_else names n (lasting (labels.effects n)) labels.effects (lasts_else names (labels.effects n) (h.effects n)) h.effects;
  pages = h.pages;
}
labels_one names e labels h = h

pub labels_kept : (names : Names) (es : List Event) (labels : Labels) → AreCalled names labels → AreCalled names (labels_after es labels)
labels_kept names [] labels h = h
labels_kept names (e ∷ es) labels h = labels_kept names es (relabelled e labels) (labels_one names e labels h)

else_kept : (names : Names) (e : List ℕ × Meaning) (ns : List (List ℕ)) → AllByRecursion (IsElse names) ns → AllByRecursion (IsElse (names ++ e ∷ [])) ns
else_kept names e [] h = tt
else_kept names e (n ∷ ns) h = ((h.0.0, meaning_kept names e n h.0.0 h.0.1, h.0.2), else_kept names e ns h.1)

label_kept : (names : Names) (e : List ℕ × Meaning) (l : Option Label) → IsElseLabel names l → IsElseLabel (names ++ e ∷ []) l
label_kept names e None h = tt
label_kept names e (Some l) h = λ k. let x = h k in (x.0, meaning_kept names e l.name x.0 x.1, x.2)

pub called_more : (names : Names) (e : List ℕ × Meaning) (l : Labels) → AreCalled names l → AreCalled (names ++ e ∷ []) l
called_more names e l h = record {
  signals = else_kept names e l.signals h.signals;
  owners = else_kept names e l.owners h.owners;
  watchers = else_kept names e l.watchers h.watchers;
  effects = λ i. label_kept names e (l.effects i) (h.effects i);
  pages = λ i n g. meaning_kept names e n (a_page i) (h.pages i n g);
}

-- ---- who is told gone

-- each of these pages has a number that lives
abbrev AreOwned : Names → List ℕ → List Page → Type 0
AreOwned names living ps = (n : List ℕ) → has_page ps n ≡ true → (i : ℕ) × (meaning_of names n ≡ Some (a_page i)) × (is_in i living ≡ true)

-- the number of each of these pages lives
abbrev pub AreLiving : List ℕ → List Page → Type 0
AreLiving living ps = AllByRecursion (λ (p : Page). is_in p.number living ≡ true) ps

pub owned_by : (names : Names) (living : List ℕ) (ps : List Page) → AllByRecursion (IsNumbered names) ps → AreLiving living ps → AreOwned names living ps
owned_by names living [] h l n there = absurd (clash (sym there))
owned_by names living (p ∷ ps) h l n there = go (bytes_eq n p.name) refl there (owned_by names living ps h.1 l.1 n)
  where
    go : (b : Bool) → bytes_eq n p.name ≡ b → cond b true (has_page ps n) ≡ true →
        (has_page ps n ≡ true → (i : ℕ) × (meaning_of names n ≡ Some (a_page i)) × (is_in i living ≡ true)) →
        (i : ℕ) × (meaning_of names n ≡ Some (a_page i)) × (is_in i living ≡ true)
    go true e k rest = (p.number, ap (meaning_of names) (equal n p.name e) ∙ h.0, l.0)
    go false e k rest = rest k

some_same : (x y : Meaning) → Some x ≡ Some y → x ≡ y
some_same x y e = cc

-- a name that stands for something else is no page's
else_none : (names : Names) (living : List ℕ) (ps : List Page) (n : List ℕ) → AreOwned names living ps → IsElse names n → has_page ps n ≡ false
else_none names living ps n own x = go (has_page ps n) refl
  where
    go : (b : Bool) → has_page ps n ≡ b → has_page ps n ≡ false
    go true e = let p = own n e in absurd (x.2 p.0 (some_same x.0 (a_page p.0) (sym x.1 ∙ p.1)))
    go false e = e

unmade_pathed : is_named unmade ≡ true → ⊥
unmade_pathed e = clash (sym e)

-- the label at a place has one of the names, or a path
named_none : (names : Names) (living : List ℕ) (ps : List Page) (ns : List (List ℕ)) (i : ℕ) → AreOwned names living ps →
    AllByRecursion (IsElse names) ns → is_named (named_at ns i) ≡ true → has_page ps (named_at ns i).name ≡ false
named_none names living ps [] i own h e = absurd (unmade_pathed e)
named_none names living ps (n ∷ ns) zero own h e = else_none names living ps n own h.0
named_none names living ps (n ∷ ns) (suc i) own h e = named_none names living ps ns i own h.1 e

label_none : (names : Names) (living : List ℕ) (ps : List Page) (o : Option Label) → AreOwned names living ps →
    IsElseLabel names o → is_named (unwrap_or o unmade) ≡ true → has_page ps (unwrap_or o unmade).name ≡ false
label_none names living ps None own h e = absurd (unmade_pathed e)
label_none names living ps (Some l) own h e = else_none names living ps l.name own (h e)

page_none : (names : Names) (living : List ℕ) (ps : List Page) (ns : List (List ℕ)) (i : ℕ) → AreOwned names living ps →
    ((j : ℕ) (n : List ℕ) → slice_get ns j ≡ Some n → meaning_of names n ≡ Some (a_page j)) → is_in i living ≡ false →
    is_named (named_at ns i) ≡ true → has_page ps (named_at ns i).name ≡ false
page_none names living ps ns i own h off = go (slice_get ns i) refl
  where
    number : (a b : Meaning) → a ≡ b → a.number ≡ b.number
    number a b e = ap (λ (x : Meaning). x.number) e

    here : (n : List ℕ) → slice_get ns i ≡ Some n → (b : Bool) → has_page ps n ≡ b → has_page ps n ≡ false
    here n e true k =
        let p = own n k in
        let j : p.0 ≡ i = number (a_page p.0) (a_page i) (some_same (a_page p.0) (a_page i) (sym p.1 ∙ h i n e)) in
        absurd (clash (sym p.2 ∙ (ap (λ m. is_in m living) j ∙ off)))
    here n e false k = k

    go : (o : Option (List ℕ)) → slice_get ns i ≡ o → is_named (option_map_or a_label o unmade) ≡ true →
        has_page ps (option_map_or a_label o unmade).name ≡ false
    go None e k = absurd (unmade_pathed k)
    go (Some n) e k = here n e (has_page ps n) refl

pub silent_both : (ps : List Page) (xs ys : List Entry) → AreSilent ps xs → AreSilent ps ys → AreSilent ps (xs ++ ys)
silent_both ps [] ys g h = h
silent_both ps (entry.Gone l ∷ xs) ys g h = (g.0, silent_both ps xs ys g.1 h)
silent_both ps (_ ∷ xs) ys g h = silent_both ps xs ys g h

cleanup_silent : (ps : List Page) (labels : Labels) (t : Thing) → AreSilent ps (cleanup_entries labels t)
cleanup_silent ps labels (the_effect i) = tt
cleanup_silent ps labels t = tt

event_silent : (names : Names) (living : List ℕ) (ps : List Page) (labels : Labels) (e : Event) → AreOwned names living ps →
    AreCalled names labels → IsOff living e → AreSilent ps (event_entries labels e)
event_silent names living ps labels (gone (the_signal i)) own h off = (λ e. named_none names living ps labels.signals i own h.signals e, tt)
event_silent names living ps labels (gone (the_owner i)) own h off = (λ e. named_none names living ps labels.owners i own h.owners e, tt)
event_silent names living ps labels (gone (the_watcher i)) own h off = (λ e. named_none names living ps labels.watchers i own h.watchers e, tt)
event_silent names living ps labels (gone (the_effect i)) own h off = (λ e. label_none names living ps (labels.effects i) own (h.effects i) e, tt)
event_silent names living ps labels (gone (the_page i)) own h off = (λ e. page_none names living ps labels.pages i own h.pages off e, tt)
event_silent names living ps labels (cleaned t c) own h off = cleanup_silent ps labels t
event_silent names living ps labels e own h off = tt

pub events_silent : (names : Names) (living : List ℕ) (ps : List Page) (labels : Labels) (es : List Event) → AreOwned names living ps →
    AreCalled names labels → AllByRecursion (IsOff living) es → AreSilent ps (entries_of labels es)
events_silent names living ps labels [] own h off = tt
events_silent names living ps labels (e ∷ es) own h off =
    silent_both ps (event_entries labels e) (entries_of (relabelled e labels) es) (event_silent names living ps labels e own h off.0)
    (events_silent names living ps (relabelled e labels) es own (labels_one names e labels h) off.1)
