-- Defines what a reader has read and sent when it ends.
use Rattle.std.specs.Prelude.{◌≡◌, ◌++◌, ◌∷◌, [], ℕ, List, map, Option, Some, None}
use Rattle.dap_history.specs.Events.{Incoming, Piece, End, ReadFailed}
use Rattle.dap_history.specs.Events.{NoMemory as NoMemoryCame}
use Rattle.dap_wires.specs.declared.reading.ReadEnd.{ReadEnd}
use Rattle.dap_wires.specs.declared.reading.ReadEnd.TheVariants.{Ended, Failed, NoMemory, HandedBack}
use Rattle.byte_streams.specs.Streams.{Supply}
use Rattle.dap_wires.specs.Transfer.{IsRead, AreRead}

-- what is sent last
abbrev pub last_of : ReadEnd → List Incoming
last_of Ended = End ∷ []
last_of Failed = ReadFailed ∷ []
last_of NoMemory = NoMemoryCame ∷ []
last_of HandedBack = []

-- what was read and not sent: the event that was handed back, or nothing
abbrev pub Loses : ReadEnd → List Incoming → Supply → Supply → Type 0
Loses HandedBack lost mid later = (event : Incoming) × (lost ≡ event ∷ []) × IsRead event mid later
Loses _ lost mid later = (lost ≡ []) × (later ≡ mid)

-- Pieces were sent, and then what ended the input, or nothing where the last event was handed back. All that was read
-- was sent, but for that one.
pub record IsReadUntil (end : ReadEnd) (sent : List Incoming) (old later : Supply) : Type 0 where
  pub pieces : List (List ℕ)
  pub sent_are : sent ≡ map Piece pieces ++ last_of end
  pub mid : Supply
  pub read : AreRead sent old mid
  pub lost : List Incoming
  pub loses : Loses end lost mid later

-- how reading ends with this event, if it does
abbrev pub end_by : Incoming → Option ReadEnd
end_by End = Some Ended
end_by ReadFailed = Some Failed
end_by NoMemoryCame = Some NoMemory
end_by _ = None

-- A reader that reads on owes nothing: it has sent all that it read, as pieces, each once, in their order, and none was
-- handed back.
pub record HasSentAll (sent_old sent returned_old returned : List Incoming) (old now : Supply) : Type 0 where
  pub pieces : List (List ℕ)
  pub sent_are : sent ≡ sent_old ++ map Piece pieces
  pub read : AreRead (map Piece pieces) old now
  pub none_back : returned ≡ returned_old
