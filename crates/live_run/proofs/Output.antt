-- What is written and told so far, and what is printed yet of the rest of a script.
use Rattle.std.proofs.Common.{◌≡◌, ℕ, List, [], ◌∷◌, ◌++◌, length, map, refl, sym, ◌∙◌, ap, subst, append_assoc, arith, inr}
use Rattle.std.specs.declared.option.Option.{Option}
use Rattle.std.specs.declared.option.Option.TheVariants.{Some, None}
use Rattle.std.specs.Option.{IfSome}
use Rattle.std.specs.Io.KnownBytes.{Appends}
use Rattle.sig_io.specs.Counts.{AppendsFront}
use Rattle.std.proofs.KnownBytes.{Appends-trans, Appends-nil}
use Rattle.std.proofs.lemmas.List.{append-nil, length-map}
use Rattle.sig_host.specs.Hosts.{Meaning, hosts_of}
use Rattle.sig_host.specs.Loans.{LendsRows}
use Rattle.effect_model.specs.Worlds.{Environment}
use Rattle.script_lines.specs.Pieces.{Piece, pieces_of}
use Rattle.live_cmd.specs.declared.command.Item.{Item}
use Rattle.live_entries.specs.declared.entry.Entry.{Entry}
use Rattle.live_entries.specs.Printed.{IsSizedEntry}
use Rattle.signal_laws.proofs.Shared.{all_append}
use Rattle.script_items.specs.Items.{AreItems, IsItem, ItemsFrom}
use Rattle.script_items.proofs.Shared.{some_items}
use Rattle.live_words.specs.declared.jobs.Job.{Job}
use Rattle.live_words.specs.declared.jobs.Job.TheVariants as asked
use Rattle.live_words.specs.declared.jobs.ScriptJob.{ScriptJob}
use Rattle.live_report.specs.declared.report.Report.{Report}
use Rattle.live_report.specs.Reports.{output_of, still}
use Rattle.live_model.specs.Machine.{Machine, empty, reached, step}
use Rattle.live_model.specs.Output.{entries_from}
use Rattle.page_laws.specs.LivePages.{LiveLaw}
use Rattle.follow_laws.specs.Laws.{FollowLaw}
use Rattle.page_follow.specs.Following.{IsFollowedInPart}
use Rattle.live_run.specs.Jobs.{lent, lent_output, script_of, AreSized, Lives, TookIn}
use Rattle.live_run.specs.Ends.{Ends, SinkSeen, SourceSeen}
use Rattle.live_run.specs.declared.run.Status.TheVariants as status

-- Whatever items the rest has, the script has some whose output is what is written, what is to be written, and what the report prints yet of
-- the rest. And what holds of them where all that they tell is sized holds of them, if all that the rest tells is sized.
pub record SoFar (env : Environment) (wanted : List Item → List ℕ) (lives : List Item → Type 0) (first held : Option (List ℕ)) (script : List ℕ) (line : ℕ) (left : List ℕ) (r : Report) (m : Machine) (out : List ℕ) : Type 0 where
  pub written : List ℕ
  pub appended : Appends first held written
  pub whole : (rest : List Item) → ItemsFrom line left rest → (items : List Item) × ItemsFrom 1 script items × (written ++ (out ++ still r rest (entries_from env m rest)) ≡ wanted items)
      × (AreSized (entries_from env m rest) → lives items)

-- some of the output is handed on
pub record HandedOn (held next : Option (List ℕ)) (out left : List ℕ) : Type 0 where
  pub written : List ℕ
  pub appended : Appends held next written
  pub whole : out ≡ written ++ left

-- one item done: its entries are told, and the rest goes on from the machine that it leaves
told_more : (env : Environment) (r after : Report) (out now : List ℕ) (m next : Machine) (i : Item) (es : List Entry) (rest : List Item) → TookIn r after out now i es → reached next es ≡ step env m i → now ++ still after rest (entries_from env next rest) ≡ out ++ still r (i ∷ rest) (entries_from env m (i ∷ rest))
told_more env r after out now m next i es rest e d =
    e rest (entries_from env next rest) ∙ ap (λ t. out ++ still r (i ∷ rest) (t.entries ++ entries_from env t.machine rest)) d

pub next_so_far : (env : Environment) (wanted : List Item → List ℕ) (lives : List Item → Type 0) (first held next_held : Option (List ℕ)) (script : List ℕ) (line after : ℕ) (left after_left : List ℕ) (r next_r : Report) (m next : Machine) (i : Item) (es : List Entry) (out now rest_out : List ℕ) (p : Piece) → pieces_of line left ≡ p ∷ pieces_of after after_left → IsItem p i → reached next es ≡ step env m i → AreSized es → TookIn r next_r out now i es → HandedOn held next_held now rest_out → SoFar env wanted lives first held script line left r m out → SoFar env wanted lives first next_held script after after_left next_r next rest_out
next_so_far env wanted lives first held next_held script line after left after_left r next_r m next i es out now rest_out p front is d sized e h s = record {
  written = s.written ++ h.written;
  appended = Appends-trans first held next_held s.written h.written s.appended h.appended;
  whole = λ rest are.
      let all = s.whole (i ∷ rest) (subst (λ ps. AreItems ps (i ∷ rest)) (sym front) (is, are)) in
      let o : List ℕ = still next_r rest (entries_from env next rest) in (
        all.0,
        all.1,
        append_assoc s.written h.written (rest_out ++ o)
            ∙ ap (λ t. s.written ++ t) (sym (append_assoc h.written rest_out o) ∙ ap (λ t. t ++ o) (sym h.whole) ∙ told_more env r next_r out now m next i es rest e d)
            ∙ all.2,
        λ z. all.3 (subst (λ t. AreSized (t.entries ++ entries_from env t.machine rest)) d (all_append IsSizedEntry es (entries_from env next rest) sized z)),
      );
}

-- nothing is left, and all is written
pub all_written : (env : Environment) (wanted : List Item → List ℕ) (lives : List Item → Type 0) (first held next_held : Option (List ℕ)) (script : List ℕ) (line : ℕ) (left : List ℕ) (r : Report) (m : Machine) (out last : List ℕ) → pieces_of line left ≡ [] → last ≡ out ++ still r [] [] → Appends held next_held last → SoFar env wanted lives first held script line left r m out → (items : List Item) × ItemsFrom 1 script items × Appends first next_held (wanted items) × lives items
all_written env wanted lives first held next_held script line left r m out last none ended more s =
    let all = s.whole [] (subst (λ ps. AreItems ps []) (sym none) tt) in
    (all.0, all.1, subst (λ t. Appends first next_held t) (ap (λ t. s.written ++ t) ended ∙ all.2) (Appends-trans first held next_held s.written last s.appended more), all.3 tt)

-- nothing is written yet
pub nothing_so_far : (env : Environment) (wanted : List Item → List ℕ) (lives : List Item → Type 0) (held : Option (List ℕ)) (script : List ℕ) (r : Report) (m : Machine) → ((rest : List Item) → still r rest (entries_from env m rest) ≡ wanted rest) → ((rest : List Item) → ItemsFrom 1 script rest → AreSized (entries_from env m rest) → lives rest) → SoFar env wanted lives held held script 1 script r m []
nothing_so_far env wanted lives held script r m same live = record { written = []; appended = Appends-nil held; whole = λ rest are. (rest, are, same rest, live rest are) }

-- the same at the beginning, by what is lent
pub first_so_far : {H : Type 0} (law : LiveLaw) (follows : FollowLaw) (step_of : H → Meaning) (hosts : List H) → LendsRows (hosts_of (map step_of hosts)) → (slacks : List ℕ) (j : ScriptJob) (held : Option (List ℕ)) (script : List ℕ) (r : Report) (m : Machine) (out : List ℕ) →
    ((is : List Item) (es : List Entry) → still r is es ≡ output_of j is es) → m ≡ empty (length hosts) → out ≡ [] →
    SoFar (lent (map step_of hosts) slacks) (lent_output (map step_of hosts) slacks j) (Lives (map step_of hosts) slacks) held held script 1 script r m out
first_so_far law follows step_of hosts lends slacks j held script r m out prints first none =
    let meanings : List Meaning = map step_of hosts in
    let env : Environment = lent meanings slacks in
    let many : m ≡ empty (length meanings) = first ∙ ap empty (sym (length-map hosts step_of)) in
    subst (λ (o : List ℕ). SoFar env (lent_output meanings slacks j) (Lives meanings slacks) held held script 1 script r m o) (sym none)
    (nothing_so_far env (lent_output meanings slacks j) (Lives meanings slacks) held script r m
    (λ rest. prints rest (entries_from env m rest) ∙ ap (λ n. output_of j rest (entries_from env n rest)) many)
    (λ rest are z. let sized = subst (λ (n : Machine). AreSized (entries_from env n rest)) many z in
    record { live = law env (length meanings) script rest lends are sized; followed = follows env (length meanings) script rest lends are sized }))

-- where there is nothing, there is none
pub is_none : {X : Type 0} (o : Option X) → ((x : X) → o ≡ Some x → ⊥) → o ≡ None
is_none None h = refl
is_none (Some x) h = absurd (h x refl)

-- what holds of all holds of what is there
pub of_any : {X : Type 0} (o : Option X) (P : X → Type 0) → ((x : X) → P x) → IfSome o P
of_any None P h = tt
of_any (Some x) P h = h x

pub of_these : (script : Option (List ℕ)) (bytes : List ℕ) (P : List ℕ → Type 0) → IfSome script (λ s. s ≡ bytes) → P bytes → IfSome script P
of_these None bytes P same h = tt
of_these (Some s) bytes P same h = subst P (sym same) h

-- what holds of the job that was found holds of what the words ask for
pub of_job : (wanted found : Option Job) (any j : Job) (P : Job → Type 0) → any ≡ j → found ≡ Some any → found ≡ wanted → P j → IfSome wanted P
of_job wanted found any j P is some same h = subst (λ o. IfSome o P) (ap (λ i. Some i) (sym is) ∙ (sym some ∙ same)) h

-- the script's items, of whose output a front is written
abbrev pub FrontWritten : (List Item → List ℕ) → Option (List ℕ) → Option (List ℕ) → List ℕ → Type 0
FrontWritten wanted first held script = (items : List Item) × ItemsFrom 1 script items × AppendsFront first held (wanted items)

-- what is written so far is a front
pub front_so_far : (env : Environment) (wanted : List Item → List ℕ) (lives : List Item → Type 0) (first held : Option (List ℕ)) (script : List ℕ) (line : ℕ) (left : List ℕ) (r : Report) (m : Machine) (out : List ℕ) → SoFar env wanted lives first held script line left r m out → FrontWritten wanted first held script
front_so_far env wanted lives first held script line left r m out s =
    let rest = some_items line left in
    let all = s.whole rest.0 rest.1 in
    (all.0, all.1, (s.written, out ++ still r rest.0 (entries_from env m rest.0), sym all.2, s.appended))

-- what was written before, and a front of what was to be written
abbrev pub more_front : (first held next_held : Option (List ℕ)) (written out last all : List ℕ) → written ++ (out ++ last) ≡ all → Appends first held written → AppendsFront held next_held out → AppendsFront first next_held all
more_front first held next_held written out last all e before f = (
  written ++ f.0,
  f.1 ++ last,
  sym e ∙ ap (λ t. written ++ (t ++ last)) f.2 ∙ ap (λ t. written ++ t) (append_assoc f.0 f.1 last) ∙ sym (append_assoc written f.0 (f.1 ++ last)),
  Appends-trans first held next_held written f.0 before f.3,
)

-- and so it is with a front of what is to be written
pub front_more : (env : Environment) (wanted : List Item → List ℕ) (lives : List Item → Type 0) (first held next_held : Option (List ℕ)) (script : List ℕ) (line : ℕ) (left : List ℕ) (r : Report) (m : Machine) (out : List ℕ) → AppendsFront held next_held out → SoFar env wanted lives first held script line left r m out → FrontWritten wanted first next_held script
front_more env wanted lives first held next_held script line left r m out f s =
    let rest = some_items line left in
    let all = s.whole rest.0 rest.1 in
    (all.0, all.1, more_front first held next_held s.written out (still r rest.0 (entries_from env m rest.0)) (wanted all.0) all.2 s.appended f)

-- and with a front of the last of it
pub front_ended : (env : Environment) (wanted : List Item → List ℕ) (lives : List Item → Type 0) (first held next_held : Option (List ℕ)) (script : List ℕ) (line : ℕ) (left : List ℕ) (r : Report) (m : Machine) (out last : List ℕ) → pieces_of line left ≡ [] → last ≡ out ++ still r [] [] → AppendsFront held next_held last → SoFar env wanted lives first held script line left r m out → FrontWritten wanted first next_held script
front_ended env wanted lives first held next_held script line left r m out last none ended f s =
    let all = s.whole [] (subst (λ ps. AreItems ps []) (sym none) tt) in
    (all.0, all.1, more_front first held next_held s.written last [] (wanted all.0) (ap (λ t. s.written ++ t) (append-nil last ∙ ended) ∙ all.2) s.appended f)

-- nothing is a front of a script's output
pub no_front : (wanted : List Item → List ℕ) (script : List ℕ) (held : Option (List ℕ)) → FrontWritten wanted held held script
no_front wanted script held =
    let is = some_items 1 script in
    (is.0, is.1, ([], wanted is.0, refl, Appends-nil held))

-- nothing is a front of the output of any script
pub none_of_it : (wanted : List Item → List ℕ) (script held : Option (List ℕ)) → IfSome script (λ s. FrontWritten wanted held held s)
none_of_it wanted None held = tt
none_of_it wanted (Some script) held = no_front wanted script held

-- nothing is followed yet, and nothing is a front of what is printed
none_followed : (left held : Option (List ℕ)) → IfSome left (λ input. IsFollowedInPart input held held)
none_followed None held = tt
none_followed (Some input) held = record {
  front = [];
  more = input;
  notes = [];
  whole = refl;
  spelt = inr ([], record { whole = refl; each = tt; partial = λ l. absurd (omega (arith, l)) });
  written = ([], [], refl, Appends-nil held);
}

-- so it is with any job that is asked for, where memory runs out before it is begun
pub nothing_written : (meanings : List Meaning) (slacks : List ℕ) (wanted : Option Job) (source : SourceSeen) (sink : SinkSeen) →
    IfSome wanted (λ j. Ends meanings slacks j source source sink sink status.NoMemory)
nothing_written meanings slacks None source sink = tt
nothing_written meanings slacks (Some (asked.Script j)) source sink = none_of_it (lent_output meanings slacks j) (script_of j source.left) sink.held
nothing_written meanings slacks (Some asked.Follow) source sink = none_followed source.left sink.held
