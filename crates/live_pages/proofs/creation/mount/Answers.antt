use Rattle.std.proofs.Common.{◌++◌, ◌∷◌, [], List, ap, map, subst, sym, ◌∙◌}
use Rattle.std.specs.Box.{box_value}
use Rattle.sig_effect.specs.Stores.{environment}
use Rattle.page_ops.specs.Ops.{op_of}
use Rattle.tpl_live.specs.declared.page.Page.{Page}
use Rattle.tpl_live.specs.Pages.{page_in, Stands}
use Rattle.tpl_live.specs.Contents.{standing}
use Rattle.live_entries.specs.declared.entry.Entry.{Entry}
use Rattle.live_entries.specs.declared.entry.Entry.TheVariants as entry
use Rattle.live_model.specs.Pages.{Template}
use Rattle.live_labels.specs.Views.{labels_of}
use Rattle.live_pages.specs.Views.{content_html, template_of}
use Rattle.live_pages.proofs.Pages.{mounted_made}
use Rattle.live_pages.proofs.creation.mount.Goals as goal

pub returns-clause-page : goal.returns-clause-page
returns-clause-page g c = λ hosts slacks all sound.
    let f = c.in_ok-page.ensures.page hosts slacks all sound in
    let html : Page → List Entry = λ p. entry.Page c.args.name.now (content_html p) ∷ [] in
    mounted_made (environment hosts slacks) (labels_of c.args.labels.now) _ _ _ _ _ c.args.name.now c.args.template (template_of c.template_among-linked.result.now)
    (page_in (standing c.into_inner.result)) (map op_of c.in_ok-page.ops.items) c.args.told.now.items c.fresh.new.told.items c.tell_page.new.told.items
    c.args.journal.now c.fresh.new.journal
    c.template_among-linked.ensures.known
    (record { world = f.world; told = f.told; labels = f.labels; noted = f.noted; page = ap (λ p. page_in (standing p)) c.into_inner.ensures ∙ f.page; ops = f.ops })
    (c.in_ok-tell_page.ensures ∙ ap (λ p. c.tell_ops.new.told.items ++ html p) (c.deref.ensures ∙ sym c.into_inner.ensures)
    ∙ ap (λ (es : List Entry). es ++ html c.into_inner.result) c.in_ok-tell_ops.ensures)

pub returns-clause-stands : goal.returns-clause-stands
returns-clause-stands g c =
    rw c.into_inner.ensures (subst (λ (t : Template). Stands t.lines t.links (standing (box_value c.in_ok-page.page))) c.template_among-linked.ensures.known
    c.in_ok-page.ensures.stands)

pub tell_page-requires : goal.tell_page-requires
tell_page-requires g c = rw c.deref.ensures c.in_ok-page.ensures.standing

pub fresh-requires-clause-template : goal.fresh-requires-clause-template
fresh-requires-clause-template g c = c.template_among-linked.ensures.read c.requires.templates
