use Rattle.std.proofs.Common.{◌≡◌, None, [], ◌∷◌, ◌++◌, sym, ap, subst, ◌∙◌}
use Rattle.std.specs.Str.{bytes_eq}
use Rattle.indexmap.proofs.CallerLemmas.{insert_entry-new}
use Rattle.live_model.specs.declared.names.Meaning.{Meaning}
use Rattle.live_model.specs.Names.{Names, meaning_of}
use Rattle.live_names.proofs.names.Names.make.Goals as goal

pub returns : goal.returns
returns c =
    let made : Meaning = record { kind = c.args.kind; number = c.args.number } in
    let new = subst (λ (names : Names). meaning_of names c.args.name ≡ None) (sym c.self.view_is) c.requires in
    c.in_ok-insert.ensures.entries ∙ insert_entry-new bytes_eq c.self.inside.meanings c.args.name made new
    ∙ ap (λ (names : Names). names ++ (c.args.name, made) ∷ []) c.self.view_is
