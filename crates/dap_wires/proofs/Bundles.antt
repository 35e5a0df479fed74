-- Frames that are kept stand after the messages that were put.
use Rattle.std.proofs.Common.{◌≡◌, ℕ, false, append-nil, Option, None, Some, List, [], ◌∷◌, ◌++◌, sym, ◌∙◌, ap, append_assoc, map}
use Rattle.std.specs.Prelude.{Vec}
use Rattle.std.specs.List.{concat}
use Rattle.std.specs.declared.alloc.Global.{Global}
use Rattle.std.proofs.lemmas.List.{map-append}
use Rattle.std.proofs.lemmas.List.Folds.{concat-append}
use Rattle.dap_wires.specs.declared.bundle.Bundle.{Bundle}
use Rattle.dap_wires.specs.declared.writer_message.WriterMessage.{WriterMessage}
use Rattle.dap_wires.specs.declared.writer_message.WriterMessage.TheVariants as message
use Rattle.dap_wires.specs.WriterMessages.{bundled, kept_in, frames_in, has_end}
use Rattle.dap_wires.proofs.Sending.{frames_append, frame_keeps_open}

-- the bytes of one more frame
pub joins : (old new : List (Vec ℕ Global)) (frame : Vec ℕ Global) (bytes more : List ℕ) → new ≡ old ++ frame ∷ []
    → concat (map (λ f. f.items) old) ≡ bytes → more ≡ bytes ++ frame.items → concat (map (λ f. f.items) new) ≡ more
joins old new frame bytes more is joined more_is =
    ap (λ l. concat (map (λ f. f.items) l)) is
    ∙ ap concat (map-append (λ f. f.items) old (frame ∷ []))
    ∙ concat-append (map (λ f. f.items) old) (frame.items ∷ [])
    ∙ ap (λ l. concat (map (λ f. f.items) old) ++ l) (append-nil frame.items)
    ∙ ap (λ l. l ++ frame.items) joined
    ∙ sym more_is

-- a bundle has one more frame
pub bundle_grows : (put : List WriterMessage) (old new : Bundle) (frame : List ℕ) → bundled new ≡ bundled old ++ frame
    ∷ []
    → frames_in (put ++ message.Frames new ∷ []) ≡ frames_in (put ++ message.Frames old ∷ []) ++ frame ∷ []
bundle_grows put old new frame is =
    frames_append put (message.Frames new ∷ [])
    ∙ ap (λ l. frames_in put ++ l)
    (append-nil (bundled new) ∙ is ∙ ap (λ l. l ++ frame ∷ []) (sym (append-nil (bundled old))))
    ∙ sym (append_assoc (frames_in put) (bundled old ++ []) (frame ∷ []))
    ∙ ap (λ l. l ++ frame ∷ []) (sym (frames_append put (message.Frames old ∷ [])))

-- a bundle has the same frames
pub bundle_stays : (put : List WriterMessage) (old new : Bundle) → bundled new ≡ bundled old
    → frames_in (put ++ message.Frames new ∷ []) ≡ frames_in (put ++ message.Frames old ∷ [])
bundle_stays put old new is =
    frames_append put (message.Frames new ∷ [])
    ∙ ap (λ l. frames_in put ++ (l ++ [])) is
    ∙ sym (frames_append put (message.Frames old ∷ []))

-- a bundle of one frame, where none was kept
pub bundle_begins : (put : List WriterMessage) (b : Bundle) (frame : List ℕ) → bundled b ≡ frame ∷ []
    → frames_in (put ++ message.Frames b ∷ []) ≡ frames_in (put ++ []) ++ frame ∷ []
bundle_begins put b frame is =
    frames_append put (message.Frames b ∷ [])
    ∙ ap (λ l. frames_in put ++ l) (append-nil (bundled b) ∙ is)
    ∙ ap (λ l. frames_in l ++ frame ∷ []) (sym (append-nil put))

-- what is kept is no end
pub kept_keeps_open : (put : List WriterMessage) (kept : Option Bundle) → has_end put ≡ false
    → has_end (put ++ kept_in kept) ≡ false
kept_keeps_open put None none = ap has_end (append-nil put) ∙ none
kept_keeps_open put (Some b) none = frame_keeps_open put b none
