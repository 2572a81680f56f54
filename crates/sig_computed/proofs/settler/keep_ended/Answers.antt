use Rattle.std.proofs.Common.{◌≡◌, ℕ, List, [], ◌∷◌, ◌++◌, map, true, sym, ap, ◌∙◌, subst}
use Rattle.std.specs.List.{All}
use Rattle.sig_graph.specs.States.{is_given}
use Rattle.sig_computed.specs.Notes.{Note, note_of}
use Rattle.sig_computed.proofs.Stacks.{names_given}
use Rattle.sig_computed.proofs.settler.keep_ended.Goals as goal

pub keep-requires-clause-given : goal.keep-requires-clause-given
keep-requires-clause-given c =
    subst (All (λ n. is_given c.args.graph.now n ≡ true)) (sym c.reads.ensures) (names_given c.args.graph.now c.args.frame.now.learnt.reads c.requires.given)

pub returns-clause-after : goal.returns-clause-after
returns-clause-after c = c.in_ok-keep.ensures.after c.args.frame.now.learnt.reads c.reads.ensures

pub returns-clause-notes : goal.returns-clause-notes
returns-clause-notes c =
    c.in_ok-keep.ensures.notes
    ∙ ap (λ (ns : List ℕ). note_list c.args.frame.now.id ns) c.reads.ensures
  where
    note_list : ℕ → List ℕ → List Note
    note_list n ns = map note_of c.args.notes.now.items ++ record { name = n; reads = ns; outcome = c.args.frame.now.outcome } ∷ []
