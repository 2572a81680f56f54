-- A frame that runs reads on in one go, as far as its slots are ready, before it comes to a move.
use Rattle.std.specs.Prelude.{◌≡◌, ℕ, ◌+◌, Bool, true, false, List, [], ◌∷◌, ◌++◌, Option, Some, None, map, length, if◌then◌else◌}
use Rattle.sig_base.specs.declared.value.Known.{Known}
use Rattle.sig_base.specs.declared.value.Outcome.{Outcome}
use Rattle.sig_base.specs.declared.value.Outcome.TheVariants.{Good}
use Rattle.signal_model.specs.Recipes.{Hosts, IsUnknownSlot}
use Rattle.signal_model.specs.Signals.{Stands, standing}
use Rattle.signal_model.specs.Values.{Seen, learnt}
use Rattle.sig_nodes.specs.declared.answers.Asked.TheVariants.{Slot as SlotAsked, Ended}
use Rattle.sig_nodes.specs.Answers.{host_here, slots_here, IsAnswerHere}
use Rattle.sig_graph.specs.declared.reading.Reached.{Reached}
use Rattle.sig_graph.specs.declared.reading.Reached.TheVariants as reached
use Rattle.sig_graph.specs.Reading.{SlotRead, AreReadNext, IsSlotReady}
use Rattle.sig_graph.specs.States as states
use Rattle.sig_graph.specs.States.{State}
use Rattle.sig_computed.specs.declared.frames.Doing.{Doing}
use Rattle.sig_computed.specs.declared.frames.Doing.TheVariants as doing
use Rattle.sig_computed.specs.declared.frames.Open.{Open}
use Rattle.sig_computed.specs.Lessons.{Lesson}
use Rattle.sig_computed.specs.Steps.{Phase, Looking, LookedAt, Running, Waiting, Frame, Move}
use Rattle.sig_computed.specs.Skips.{passed_over}
use Rattle.sig_computed.specs.Views.{evaluating, phase_of, Stays}
use Rattle.sig_computed.specs.Turns.{move_by, move_reads, phase_reads, turn_steps, AreReadsGiven, IsMove, IsProgressBy}

-- a slot that was read, as a read of the run
abbrev pub seen_of : SlotRead → Seen
seen_of r = record { name = r.name; outcome = Good r.known.value }

-- what is known once some slots more were read
abbrev pub known_after : List Known → List SlotRead → List Known
known_after known more = known ++ map (λ (r : SlotRead). r.known) more

-- and what was read then
abbrev pub reads_after : List Seen → List SlotRead → List Seen
reads_after reads more = reads ++ map seen_of more

-- the phase then
abbrev pub phase_after : Phase → List SlotRead → Phase
phase_after (Looking place) more = Looking place
phase_after (LookedAt place) more = LookedAt place
phase_after (Running known reads) more = Running (known_after known more) (reads_after reads more)
phase_after (Waiting slot known reads) [] = Waiting slot known reads
phase_after (Waiting slot known reads) (r ∷ rs) = Running (known_after known (r ∷ rs)) (reads_after reads (r ∷ rs))

-- how many steps the reads count: that of a slot that was waited for counts none
abbrev pub read_steps : Phase → List SlotRead → ℕ
read_steps (Looking place) more = length more
read_steps (LookedAt place) more = length more
read_steps (Running known reads) more = length more
read_steps (Waiting slot known reads) [] = 0
read_steps (Waiting slot known reads) (r ∷ rs) = length rs

-- A frame that runs may read these one after the other, one that waits for the slot of a formula may read this one first, and no other frame
-- reads any.
abbrev pub CanRead : State → ℕ → Phase → List SlotRead → Type 0
CanRead s n (Looking place) more = more ≡ []
CanRead s n (LookedAt place) more = more ≡ []
CanRead s n (Running known reads) more = AreReadNext s n known more
CanRead s n (Waiting slot known reads) [] = Unit {0}
CanRead s n (Waiting slot known reads) (r ∷ rs) =
    (host_here (standing s.signals n) ≡ None) × (r.known.slot ≡ slot) × IsSlotReady s n r
    × AreReadNext s n (learnt known r.known.slot r.known.value) rs

-- a frame that runs waits for the slot that its formula needs next, where one is told
abbrev pub phase_left : Option ℕ → Phase → Phase
phase_left None p = p
phase_left (Some slot) (Looking place) = Looking place
phase_left (Some slot) (LookedAt place) = LookedAt place
phase_left (Some slot) (Running known reads) = Waiting slot known reads
phase_left (Some slot) (Waiting other known reads) = Waiting other known reads

-- only a frame that runs does
abbrev pub CanLeave : State → ℕ → Option ℕ → Phase → Type 0
CanLeave s n None p = Unit {0}
CanLeave s n (Some slot) (Looking place) = ⊥
CanLeave s n (Some slot) (LookedAt place) = ⊥
CanLeave s n (Some slot) (Running known reads) =
    ((o : Outcome) → IsAnswerHere (standing s.signals n) known (SlotAsked slot) o)
    × IsUnknownSlot (length (slots_here (standing s.signals n))) slot known
CanLeave s n (Some slot) (Waiting other known reads) = ⊥

-- a step is counted for it
abbrev pub left_steps : Option ℕ → ℕ
left_steps None = 0
left_steps (Some slot) = 1

-- the phase once a frame has read some and waits for the next, and the steps that count
abbrev pub phase_on : Phase → List SlotRead → Option ℕ → Phase
phase_on p more left = phase_left left (phase_after p more)

abbrev pub steps_on : Phase → List SlotRead → Option ℕ → ℕ
steps_on p more left = read_steps p more + left_steps left

-- what reading on has come to: the phase of a frame that ran, by what it has learnt
abbrev pub reached_phase : Reached → Lesson → Phase
reached_phase reached.Ended l = Running l.known l.reads
reached_phase (reached.Needs slot) l = Waiting slot l.known l.reads
reached_phase reached.Left l = Running l.known l.reads

-- whether it came to its end
abbrev pub is_ended : Reached → Bool
is_ended reached.Ended = true
is_ended (reached.Needs slot) = false
is_ended reached.Left = false

-- A slot that was waited for is read: what is known and what was read, before and after.
pub record IsTold (g : states.Seen) (n slot : ℕ) (old new : Lesson) : Type 0 where
  pub read : SlotRead
  pub same : read.known.slot ≡ slot
  pub formula : host_here (standing g.state.signals n) ≡ None
  pub ready : IsSlotReady g.state n read
  pub known : new.known ≡ learnt old.known read.known.slot read.known.value
  pub reads : new.reads ≡ old.reads ++ seen_of read ∷ []
  pub given : AreReadsGiven g old.reads → AreReadsGiven g new.reads

-- where it is read; else all is left as it was
abbrev pub IsToldWhere : Bool → states.Seen → ℕ → ℕ → Lesson → Lesson → Type 0
IsToldWhere true g n slot old new = IsTold g n slot old new
IsToldWhere false g n slot old new = new ≡ old

-- what a frame has learnt that comes to run: it ran, or the slot that it waited for is read
abbrev pub IsLearntBy : Doing → states.Seen → ℕ → Lesson → Lesson → Type 0
IsLearntBy (doing.Looking place) g n old new = ⊥
IsLearntBy (doing.LookedAt place) g n old new = ⊥
IsLearntBy doing.Running g n old new = new ≡ old
IsLearntBy (doing.Waiting slot) g n old new = IsTold g n slot old new

-- whether a frame comes to run: else its phase is as it was
abbrev pub ComesToRun : Bool → states.Seen → Open → Open → Type 0
ComesToRun true g old new = (new.doing ≡ doing.Running) × IsLearntBy old.doing g old.id old.learnt new.learnt
ComesToRun false g old new = phase_of new.doing new.learnt ≡ phase_of old.doing old.learnt

-- A computed has read on from one phase to another: the steps of its reads are counted, and one more where its formula came to an end or told
-- the slot that it waits for then.
pub record HasGoneOn (old new : states.Seen) (n : ℕ) (before after : Phase) (ended : Bool) : Type 0 where
  pub more : List SlotRead
  pub left : Option ℕ
  pub next : CanRead old.state n before more
  pub leaves : CanLeave old.state n left (phase_after before more)
  pub phase : after ≡ phase_on before more left
  pub given : AreReadsGiven old (phase_reads before) → AreReadsGiven old (phase_reads (phase_after before more))
  pub stays : Stays old new old.state.progress (steps_on before more left + (if ended then 1 else 0))

-- a frame that runs whose formula has come to its outcome
pub record HasEnded (st : Stands) (f : Open) : Type 0 where
  pub runs : phase_of f.doing f.learnt ≡ Running f.learnt.known f.learnt.reads
  pub answer : IsAnswerHere st f.learnt.known Ended f.outcome

-- A frame has read on and then come to a move, by all meanings of the host formulas by which the shelf answers: as from the phase to which the
-- reads have brought it.
pub record HasTurned (old new : states.Seen) (answers : Hosts → Type 0) (f : Frame) (visited : List ℕ) (mv : Move) : Type 0 where
  pub more : List SlotRead
  pub left : Option ℕ
  pub next : CanRead old.state f.name f.phase more
  pub leaves : CanLeave old.state f.name left (phase_after f.phase more)
  pub on : AreReadsGiven old (phase_reads (phase_after f.phase more))
  pub turn : (hosts : Hosts) → answers hosts → mv ≡ move_by hosts old.state.signals old.state.memos (evaluating old.state)
      (passed_over old.state.signals old.state.memos visited) f.name (phase_on f.phase more left)
  pub some : IsMove old.state.signals old.state.memos (evaluating old.state) (passed_over old.state.signals old.state.memos visited) f.name
      (phase_on f.phase more left) mv
  pub given : AreReadsGiven old (move_reads mv)
  pub progress : IsProgressBy f.name (phase_on f.phase more left) mv old.state.progress new.state.progress
  pub stays : Stays old new new.state.progress
      (steps_on f.phase more left
      + turn_steps old.state.signals old.state.memos (evaluating old.state) visited f.name (phase_on f.phase more left) mv)
