-- The table read by reactions: which command has each of them, in which situation, and of which program.
use Rattle.dap_history.proofs.Common.{Body, Breakpoint, Close, Command, Configuring, Faulted, Fresh, History, Inspects, InspectsAs, Interrupt, IsResolved, IsStopped, Launched, OfProgram, Option, Question, Reaction, Reacts, Ready, Refusal, Refuse, RepliesIn, Reply, Resolution, Resume, ResumeKind, Retreat, RetreatKind, Running, SetBreakpoints, SetBreakpointsArguments, SetsOf, Situation, Some, Start, Stopped, ThreadArguments, answer_to_line, ap, if◌then◌else◌, is_same_path, launched, line_offset, other_source, refl, reply_of, subst, sym, ◌∙◌, ◌≡◌}
use Rattle.std.proofs.Common.{Bool, true, false}
use Rattle.std.specs.Prelude.{List, map, Ok}
use Rattle.dap_msg.specs.declared.command.Command.TheVariants as command
use Rattle.dap_msg.specs.declared.outgoing.Body.TheVariants as body
use Rattle.dap_msg.specs.declared.outgoing.Refusal.TheVariants as refusal
use Rattle.dap_history.specs.Replies.{is_main_thread}
use Rattle.dap_history.specs.Reactions.{Answer, End}
use Rattle.std.proofs.Common.{arith}
use Rattle.std.proofs.lemmas.Grind.{common_steps}

-- a command that is answered with this body and has no effect: a pause where the program stands, lines of another
-- source, a question, `initialize` or `threads`
abbrev pub IsCalm : History → Situation → Command → Body → Type 0
IsCalm past s (command.Pause a) b = IsStopped s × (b ≡ body.None)
IsCalm past s (command.SetBreakpoints a) b =
    (l : Launched) × (launched past ≡ Some l) × (is_same_path a.path l.path ≡ false)
    × (b ≡ body.Breakpoints (other_source a.breakpoints))
IsCalm past s (command.Initialize a) b = (s ≡ Fresh) × (b ≡ body.Capabilities)
IsCalm past s command.Threads b = b ≡ body.Threads
IsCalm past s (command.Inspect q) (body.Shown b) = IsStopped s × InspectsAs past q (Ok b)
IsCalm past s _ b = ⊥

pub data Reacted (past : History) : Situation → Command → Reaction → Type 0 where
  by_refusing : (s : Situation) (asked : Command) (why : Refusal) → Reacted past s asked (Refuse why)
  by_answering : (s : Situation) (asked : Command) (b : Body) → IsCalm past s asked b → Reacted past s asked (Answer b)
  by_setting : (s : Situation) (a : SetBreakpointsArguments) (l : Launched) (found : List Resolution)
      (bs : List Breakpoint) → launched past ≡ Some l → is_same_path a.path l.path ≡ true
      → IsResolved l.program (line_offset past) a.breakpoints found bs → Reacted past s (command.SetBreakpoints a)
      (SetBreakpoints (map (answer_to_line l.program (line_offset past)) found) bs)
  by_starting : (l : Launched) → launched past ≡ Some l → Reacted past Configuring command.ConfigurationDone (Start l)
  by_resuming : (kind : ResumeKind) (a : ThreadArguments) (l : Launched) → launched past ≡ Some l
      → Reacted past Stopped (command.Resume kind a) (Resume l kind)
  by_ending : (kind : ResumeKind) (a : ThreadArguments) → Reacted past Faulted (command.Resume kind a) (End kind)
  by_retreating : (s : Situation) (kind : RetreatKind) (a : ThreadArguments) (l : Launched) → IsStopped s
      → launched past ≡ Some l → Reacted past s (command.Retreat kind a) (Retreat l kind)
  by_interrupting : (a : ThreadArguments) → Reacted past Running (command.Pause a) Interrupt
  by_closing : (s : Situation) → Reacted past s command.Disconnect Close

-- what is so of each launched program is so of the one that there is
pub of_program : (past : History) (l : Option Launched) → launched past ≡ l → (says : Launched → Type 0) (P : Type 0)
    → ((l : Launched) → launched past ≡ Some l → says l → P) → OfProgram l says → P
of_program past l there says here by is = grind (arith, common_steps) steps 200000

module _ (past : History) where
  -- this reaction
  only : {s : Situation} {asked : Command} {reaction this : Reaction} → Reacted past s asked this → reaction ≡ this
      → Reacted past s asked reaction
  only {s = s} {asked = asked} was is = subst (Reacted past s asked) (sym is) was

  -- this one, unless another thread is asked for
  by_thread : {s : Situation} {asked : Command} {reaction this : Reaction} (known : Bool) → Reacted past s asked this
      → reaction ≡ (if known then this else Refuse refusal.UnknownThread) → Reacted past s asked reaction
  by_thread true was is = only was is
  by_thread {s = s} {asked = asked} false was is = only (by_refusing s asked refusal.UnknownThread) is

  sets_of : (s : Situation) (a : SetBreakpointsArguments) (reaction : Reaction) (l : Launched) → launched past ≡ Some l
      → (same : Bool) → is_same_path a.path l.path ≡ same → SetsOf same past l a.breakpoints reaction
      → Reacted past s (command.SetBreakpoints a) reaction
  sets_of s a reaction l there true path_is is =
      only (by_setting s a l is.answers is.breakpoints there path_is is.resolved) is.reaction_is
  sets_of s a reaction l there false path_is is = only (by_answering s _ _ (l, there, path_is, refl)) is

  inspects : (s : Situation) (q : Question) (reaction : Reaction) → IsStopped s → Inspects past q reaction
      → Reacted past s (command.Inspect q) reaction
  inspects s q (Refuse why) stands is = by_refusing s (command.Inspect q) why
  inspects s q (Answer (body.Shown b)) stands is = by_answering s (command.Inspect q) (body.Shown b) (stands, is)
  inspects s q _ stands is = absurd is

  retreats_there : (s : Situation) (kind : RetreatKind) (a : ThreadArguments) (reaction : Reaction) → IsStopped s
      → OfProgram (launched past) (λ l. reaction ≡ (if is_main_thread a.thread_id then Retreat l kind
      else Refuse refusal.UnknownThread)) → Reacted past s (command.Retreat kind a) reaction
  retreats_there s kind a reaction stands is =
      of_program past _ refl _ _ (λ l there says. by_thread _ (by_retreating s kind a l stands there) says) is

  pub reacted : (s : Situation) (asked : Command) (reaction : Reaction) → Reacts s past asked reaction
      → Reacted past s asked reaction
  reacted Fresh (command.Initialize a) reaction is = only (by_answering Fresh (command.Initialize a) _ (refl, refl)) is
  reacted Fresh (command.SetBreakpoints a) reaction is = only (by_refusing _ _ _) is
  reacted Ready (command.SetBreakpoints a) reaction is = only (by_refusing _ _ _) is
  reacted s (command.SetBreakpoints a) reaction is = grind (arith, common_steps, of_program, sets_of) steps 1500000
  reacted Configuring command.ConfigurationDone reaction is =
      of_program past (launched past) refl (λ l. reaction ≡ Start l) _
      (λ l there says. only (by_starting l there) says) is
  reacted Fresh command.Threads reaction is = only (by_refusing _ _ _) is
  reacted s command.Threads reaction is = only (by_answering s command.Threads _ refl) is
  reacted Stopped (command.Resume kind a) reaction is =
      of_program past _ refl _ _ (λ l there says. by_thread _ (by_resuming kind a l there) says) is
  reacted Faulted (command.Resume kind a) reaction is = by_thread (is_main_thread a.thread_id) (by_ending kind a) is
  reacted Stopped (command.Retreat kind a) reaction is = retreats_there Stopped kind a reaction tt is
  reacted Faulted (command.Retreat kind a) reaction is = retreats_there Faulted kind a reaction tt is
  reacted Running (command.Pause a) reaction is = by_thread (is_main_thread a.thread_id) (by_interrupting a) is
  reacted Stopped (command.Pause a) reaction is = by_thread _ (by_answering Stopped (command.Pause a) _ (tt, refl)) is
  reacted Faulted (command.Pause a) reaction is = by_thread _ (by_answering Faulted (command.Pause a) _ (tt, refl)) is
  reacted Stopped (command.Inspect q) reaction is = inspects Stopped q reaction tt is
  reacted Faulted (command.Inspect q) reaction is = inspects Faulted q reaction tt is
  reacted s command.Disconnect reaction is = only (by_closing s) is
  reacted s asked reaction is = only (by_refusing s asked _) is

-- the reply, where the table has this reaction alone
pub replied : {s : Situation} {past : History} {asked : Command} {reply : Reply} (this : Reaction)
    → (is : RepliesIn s past asked reply) → is.reaction ≡ this → reply ≡ reply_of past this
replied {past = past} this is only = is.reply_is ∙ ap (reply_of past) only

-- What is so of the reply of each reaction is so of a reply.
pub by_reaction : (P : Reply → Type 0) {s : Situation} {past : History} {asked : Command} {reply : Reply}
    → ((reaction : Reaction) → Reacted past s asked reaction → P (reply_of past reaction))
    → RepliesIn s past asked reply → P reply
by_reaction P {s = s} {past = past} {asked = asked} law is = grind (arith, common_steps, reacted) steps 1500000
