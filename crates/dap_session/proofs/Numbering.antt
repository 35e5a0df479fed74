-- What a session put is numbered, and read back.
use Rattle.std.proofs.Common.{◌≡◌, ℕ, zero, suc, ◌+◌, ◌<◌, ◌^◌, List, [], ◌∷◌, ◌++◌, Option, None, Some, option_map, refl, sym, ◌∙◌, subst, arith}
use Rattle.std.specs.Prelude.{slice_get}
use Rattle.std.proofs.lemmas.Option.{same_Some, slice_get_within}
use Rattle.dap_frame.specs.Frame.{frame_of}
use Rattle.dap_msg.specs.declared.outgoing.Outgoing.{Outgoing}
use Rattle.dap_msg.specs.Outgoing.{text_of}
use Rattle.dap_msg.specs.Laws.{ReadsAsMessage}
use Rattle.dap_history.specs.History.{History, messages_of}
use Rattle.dap_history.specs.Events.{Incoming, Rest, IsHistoryOf}
use Rattle.dap_history.specs.Laws.{HistoryIsOne, SeqCountFromOne, FramesAreReadBack}
use Rattle.dap_history.specs.Output.{frames_from}
use Rattle.dap_history.proofs.OneHistory.{IsReadOnce}
use Rattle.dap_msg.specs.declared.request.Dialect.{Dialect}
use Rattle.dap_session.specs.Laws.{FramesAreNumbered}
use Rattle.dap_session.proofs.Beginnings.{drives_few}

-- what stands in a beginning stands in the whole
get_begins : {A : Type 0} (xs more : List A) (n : ℕ) (x : A) → slice_get xs n ≡ Some x
    → slice_get (xs ++ more) n ≡ Some x
get_begins [] more n x is = absurd cc
get_begins (y ∷ xs) more zero x is = is
get_begins (y ∷ xs) more (suc n) x is = get_begins xs more n x is

there_is : {A B : Type 0} (f : A → B) (o : Option A) (b : B) → option_map f o ≡ Some b → (a : A) × (o ≡ Some a)
there_is f None b is = absurd cc
there_is f (Some a) b is = (a, refl)

module _ (count : SeqCountFromOne) (back : FramesAreReadBack) where
  reads_nth : (f : Dialect) (events : List Incoming) (past : History) (rest : Rest) → IsHistoryOf f events past rest
      → (n : ℕ) (frame : List ℕ) → slice_get (frames_from 1 (messages_of past)) n ≡ Some frame → n + 1 < 2 ^ 64
      → (message : Outgoing) × (content : List ℕ) × (slice_get (messages_of past) n ≡ Some message)
      × (frame ≡ frame_of content) × ReadsAsMessage message (n + 1) content
  reads_nth f events past rest history n frame is small =
      let there = there_is (λ m. frame_of (text_of m (n + 1))) _ frame (sym (count (messages_of past) n)
      ∙ is) in
      let read = back f events past rest history n there.0 there.1 small in
      (there.0, read.0, there.1, same_Some frame _ (sym is ∙ read.1), read.2)

  pub frames_are_numbered : IsReadOnce → HistoryIsOne → FramesAreNumbered
  frames_are_numbered once one f result given_before given_after loaded_before loaded_after old later driven =
      let sent =
      drives_few once one f result driven.events driven.given driven.loads old later driven.lawful driven.drives
      in
      let reached = sent.1 in
      let puts = sent.2 in (
        sent.0,
        reached,
        record {
          frames = puts.frames;
          frames_are = puts.frames_are;
          few = puts.few;
          read = λ n frame is.
              let whole =
              subst (λ fs. slice_get fs n ≡ Some frame) puts.begins.1
              (get_begins puts.frames puts.begins.0 n frame is) in
              let within = slice_get_within puts.frames n frame is in
              reads_nth f reached.taken sent.0 reached.rest reached.history n frame whole
              (omega (arith, within, puts.few));
        },
      )
