use Rattle.std.proofs.Common.{◌∙◌, ◌∷◌, [], List, map, ap}
use Rattle.std.specs.Prelude.{option_map, unwrap_or}
use Rattle.live_model.specs.Pages.{page_html}
use Rattle.live_pages.specs.Views.{page_of, template_of}
use Rattle.live_pages.proofs.Shared.{all_standing}
use Rattle.live_entries.specs.declared.entry.Entry.{Entry}
use Rattle.live_entries.specs.declared.entry.Entry.TheVariants as entry
use Rattle.live_model.specs.Machine.{page_at, reached}
use Rattle.live_core.specs.Views.{plain_of}
use Rattle.live_core.proofs.machine.Machine.show.Goals as goal

pub shown_of-requires : goal.shown_of-requires
shown_of-requires c =
    let m = c.args.self.now in
    rw (c.deref.ensures.value) (all_standing (map template_of m.templates.items) m.pages.items c.requires.ready.shown)

pub returns-clause-steps : goal.returns-clause-steps
returns-clause-steps c = λ hosts slacks asked sound.
    let m = c.args.self.now in
    let is = c.in_ok-shown.ensures ∙ (λ i. unwrap_or (option_map page_html (page_at (map page_of (c.deref.ensures.value i)) ((c.of-page.ensures ∙ c.number_of.ensures) i))) []) in
    record {
      step = ap (λ (es : List Entry). reached (plain_of asked m) es) (c.in_ok-told.ensures ∙ ap (λ p. entry.Page c.args.name p ∷ []) is);
      sound = sound;
    }
