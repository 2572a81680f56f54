use Rattle.std.proofs.Common.{◌∙◌, ◌∷◌, ◌++◌, [], ℕ, List, map, refl, sym, ap}
use Rattle.std.proofs.lemmas.List.{length-map}
use Rattle.tpl_blocks.specs.Blocks.{lines_of}
use Rattle.live_model.specs.declared.names.Kind.TheVariants as kind
use Rattle.live_model.specs.Links.{linked_template}
use Rattle.live_model.specs.Machine.{reached}
use Rattle.live_model.specs.Names.{number_of}
use Rattle.live_pages.specs.declared.mounted.LinkedTemplate.{LinkedTemplate}
use Rattle.live_pages.specs.Views.{template_of}
use Rattle.live_core.specs.Views.{plain_of}
use Rattle.live_core.proofs.Creations.{leaves_template, templates_more}
use Rattle.live_core.proofs.machine.Machine.make_template.Goals as goal

pub returns-clause-steps : goal.returns-clause-steps
returns-clause-steps c = λ hosts slacks asked sound.
    let m = c.args.self.now in
    let made : LinkedTemplate = record { template = c.args.template; links = c.in_ok-links.links } in
    let names = c.in_ok-make.ensures ∙ ap (λ (x : ℕ). m.names ++ (c.args.name, record { kind = kind.Template; number = x }) ∷ []) (c.len-number.ensures ∙ m.templates.ok.0 ∙ sym (length-map m.templates.items template_of)) in
    let templates = templates_more m.templates.items c.push.new.self.items made (linked_template m.names c.args.template) c.in_ok-push.ensures.items
    (ap (λ (ns : List ℕ). record { lines = lines_of c.args.template; links = ns }) (c.in_ok-links.ensures ∙ ap (map (number_of m.names)) c.names.ensures)) in
    record {
      step = (λ i. reached (record (plain_of asked m) { names = names i; templates = templates i }) (c.new.ensures.items i));
      sound = sound;
    }

pub returns-clause-leaves : goal.returns-clause-leaves
returns-clause-leaves c = λ hosts asked rules sound.
    let m = c.args.self.now in
    let new = record m { names = c.make.new.self; templates = c.push.new.self } in
    let made : LinkedTemplate = record { template = c.args.template; links = c.in_ok-links.links } in
    leaves_template asked rules m new c.args.name made c.requires.ready refl
    (c.in_ok-make.ensures ∙ ap (λ (x : ℕ). m.names ++ (c.args.name, record { kind = kind.Template; number = x }) ∷ []) (c.len-number.ensures ∙ m.templates.ok.0))
    c.in_ok-push.ensures.items c.requires.template
