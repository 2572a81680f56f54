use Rattle.std.proofs.Common.{◌≡◌, ◌∙◌, ◌∷◌, [], ◌++◌, ◌<◌, ℕ, true, length, map, sym, ap, subst, arith}
use Rattle.std.proofs.lemmas.List.{length-map}
use Rattle.std.proofs.lemmas.Result.{err_from_is_err_and}
use Rattle.effect_tables.specs.Owners.{living}
use Rattle.effect_tables.specs.Placed.{is_open}
use Rattle.sig_base.specs.declared.limits.TheConstants.{MOST_PAGES}
use Rattle.sig_effect.specs.Stores.{environment}
use Rattle.live_cmd.specs.declared.command.Command.TheVariants as command
use Rattle.live_entries.specs.declared.refusal.LimitWord.TheVariants as limit
use Rattle.live_model.specs.declared.names.Kind.TheVariants as kind
use Rattle.live_model.specs.declared.names.Need.TheVariants as need
use Rattle.live_model.specs.Links.{owner_of}
use Rattle.live_model.specs.Names.{number_of}
use Rattle.tpl_live.specs.Pages.{Stands}
use Rattle.tpl_live.specs.Contents.{standing}
use Rattle.live_model.specs.Pages.{template_in}
use Rattle.live_pages.specs.Views.{template_of}
use Rattle.live_pages.specs.declared.mounted.Mounted.{Mounted}
use Rattle.live_core.proofs.Rightly.{inside_open, neither, new_name, refused_at, template_used, used_of, uses_fine}
use Rattle.live_core.proofs.Commands.{room_below}
use Rattle.live_core.proofs.Mounts.{by_owner, leaves_mounted, mount_steps}
use Rattle.live_core.proofs.machine.Machine.mount.Goals as goal

pub make_page-requires-clause-open : goal.make_page-requires-clause-open
make_page-requires-clause-open g c =
    let m = c.args.self.now in
    let fine = neither (refused_at m.world m.names c.args.name need.New) _ (uses_fine m (command.Mount c.args.name c.args.template.now c.args.inside.now) c.requires.fine) in
    let second = neither (refused_at m.world m.names c.args.template.now (need.Of kind.Template)) _ fine.1 in
    let same = c.in_ok-page.ensures.settled.stays.tables in
    subst (λ x. x) (λ i. is_open (living 0 (sym same i).owners.items) (sym c.owner_of-owner.ensures i) ≡ true) (inside_open m.world m.names c.args.inside.now second.1)

pub make_page-requires-clause-room : goal.make_page-requires-clause-room
make_page-requires-clause-room g c =
    subst (λ t. length t.pages.items < MOST_PAGES) (sym c.in_ok-page.ensures.settled.stays.tables)
    (room_below MOST_PAGES (length c.args.self.now.world.tables.pages.items) limit.Pages c.requires.room)

pub add_page-requires : goal.add_page-requires
add_page-requires g c =
    let m = c.args.self.now in
    let fine = neither (refused_at m.world m.names c.args.name need.New) _ (uses_fine m (command.Mount c.args.name c.args.template.now c.args.inside.now) c.requires.fine) in
    new_name m.world m.names c.args.name fine.0

pub mount-requires-clause-can : goal.mount-requires-clause-can
mount-requires-clause-can g c =
    let w = c.requires.can.weight in
    let r = c.requires.can.most in
    record { agrees = c.requires.can.agrees; counted = c.requires.can.counted; worn = omega (arith, w); room = omega (arith, r) }

pub mount-requires-clause-known : goal.mount-requires-clause-known
mount-requires-clause-known g c =
    let m = c.args.self.now in
    let fine = neither (refused_at m.world m.names c.args.name need.New) _ (uses_fine m (command.Mount c.args.name c.args.template.now c.args.inside.now) c.requires.fine) in
    let second = neither (refused_at m.world m.names c.args.template.now (need.Of kind.Template)) _ fine.1 in
    let below = template_used m.world _ m.names c.args.template.now c.requires.can.ready.meant (used_of m.world m.names c.args.template.now kind.Template second.0) in
    rw (c.deref.ensures.value) (subst (λ (n : ℕ). n < length m.templates.items) (sym c.number_of-template.ensures) below)

pub mount-requires-clause-templates : goal.mount-requires-clause-templates
mount-requires-clause-templates g c = rw (c.deref.ensures.value) c.requires.can.ready.templates

pub returns-in_err-number-clause-memory : goal.returns-in_err-number-clause-memory
returns-in_err-number-clause-memory g c =
    let p = err_from_is_err_and c.from_residual-in_err-number.result c.from_residual-in_err-number.ensures.1 in
    rw p.1 (p.2 ∙ c.in_err-number.ensures.memory)

pub returns-clause-did : goal.returns-clause-did
returns-clause-did g c = λ slacks count. record {
  steps = λ hosts all sound.
      let m = c.args.self.now in
      let env = environment hosts slacks in
      let e = c.in_ok-page.ensures in
      let a = c.in_ok-add_page.ensures in
      let t : c.number_of-template.result ≡ number_of m.names c.args.template.now = c.number_of-template.ensures in
      let up = e.page hosts slacks all sound in
      let d = c.in_ok-number.ensures.does hosts _ (e.settled.sound hosts all sound) in
      let same = rw (c.deref.ensures.value, t, c.new-told.ensures.items) at up in
      mount_steps hosts env _ _ m c.add_page.new.self c.mount.new.world c.make_page.new.world c.mount.new.journal c.args.name (number_of m.names c.args.template.now) c.in_ok-number.number (owner_of m.names c.args.inside.now)
      c.in_ok-page.page c.mount.new.told.items same (c.in_ok-number.ensures.id ∙ ap (λ x. x.pages_made) e.settled.stays.tables)
      (by_owner _ c.make_page.new.world c.mount.new.world c.owner_of-owner.result (owner_of m.names c.args.inside.now) d.whole c.owner_of-owner.ensures)
      d.sound a.parts a.names a.labels
      (a.pages ∙ ap (λ (x : ℕ). m.pages.items ++ (record { name = c.args.name; number = c.in_ok-number.number; template = x; page = c.in_ok-page.page }) ∷ []) t);
  leaves = λ hosts all sound.
      let m = c.args.self.now in
      let e = c.in_ok-page.ensures in
      let a = c.in_ok-add_page.ensures in
      let d = c.in_ok-number.ensures.does hosts _ (e.settled.sound hosts all sound) in
      let fine = neither (refused_at m.world m.names c.args.name need.New) _ (uses_fine m (command.Mount c.args.name c.args.template.now c.args.inside.now) c.requires.fine) in
      let second = neither (refused_at m.world m.names c.args.template.now (need.Of kind.Template)) _ fine.1 in
      let t = c.number_of-template.ensures in
      let below = template_used m.world _ m.names c.args.template.now c.requires.can.ready.meant (used_of m.world m.names c.args.template.now kind.Template second.0) in
      let page : Mounted = record { name = c.args.name; number = c.in_ok-number.number; template = c.number_of-template.result; page = c.in_ok-page.page } in
      leaves_mounted _ _ count m c.add_page.new.self c.mount.new.world c.make_page.new.world c.mount.new.journal c.args.name c.in_ok-number.number page c.requires.can.ready a.parts a.names a.labels a.pages c.owner_of-owner.result
      d.whole c.in_ok-number.ensures.signals e.settled.stays (c.in_ok-number.ensures.id ∙ ap (λ x. x.pages_made) e.settled.stays.tables)
      (record {
        template = subst (λ (n : ℕ). n < length (map template_of m.templates.items)) (sym t) (subst (λ (k : ℕ). number_of m.names c.args.template.now < k) (sym (length-map m.templates.items template_of)) below);
        stands = subst (λ ts. Stands (template_in (map template_of ts) c.number_of-template.result).lines (template_in (map template_of ts) c.number_of-template.result).links (standing c.in_ok-page.page)) c.deref.ensures.value e.stands;
      })
      (room_below MOST_PAGES (length m.world.tables.pages.items) limit.Pages c.requires.room)
      (c.in_ok-number.ensures.agrees _ e.settled.agrees) e.settled.worn;
  answers = c.in_ok-page.ensures.settled.answers;
  counted = c.in_ok-page.ensures.settled.counted;
  most = let a = c.in_ok-page.ensures.settled.most in omega (arith, a);
}
