-- Worked examples of the faults of header parts, and of fields.
use Rattle.std.specs.Prelude.{ℕ, List, [], ◌∷◌, ◌++◌, codes, replicate}
use Rattle.std.specs.List.{AllByRecursion}
use Rattle.dap_frame.specs.declared.fault.FramingFault.{FramingFault}
use Rattle.dap_frame.specs.declared.fault.FramingFault.TheVariants.{HeaderTooLong, BadField, NoLength, TwoLengths, BadLength, TooLarge}
use Rattle.dap_frame.specs.Header.{line_of, FaultAt, IsHeader}

-- bytes, and the fault that their header part has
abbrev pub HasFault : List ℕ × FramingFault → Type 0
HasFault (bytes, fault) = FaultAt bytes fault

-- Each fault has its rows. A field is a name of letters, digits and `-`, a colon, one space, and a value that can be
-- printed. The length has one name, in one spelling, and 1 to 7 digits without a zero in front.
abbrev pub FaultsAreThese : Type 0
FaultsAreThese =
    AllByRecursion HasFault
    ((replicate 1024 97, HeaderTooLong)
    ∷ (line_of (codes "Content-Length : 2"), BadField)
    ∷ (line_of (codes "Content-Length:2"), BadField)
    ∷ (line_of (codes ": 2"), BadField)
    ∷ (line_of (codes "A: " ++ 9 ∷ []), BadField)
    ∷ (line_of (codes "A_B: 2"), BadField)
    ∷ (line_of (codes "A: " ++ 127 ∷ []), BadField)
    ∷ (line_of [], NoLength)
    ∷ (line_of (codes "content-length: 2") ++ line_of [], NoLength)
    ∷ (line_of (codes "Content-Length: 2") ++ line_of (codes "Content-Length: 2"), TwoLengths)
    ∷ (line_of (codes "Content-Length: "), BadLength)
    ∷ (line_of (codes "Content-Length: 02"), BadLength)
    ∷ (line_of (codes "Content-Length: +2"), BadLength)
    ∷ (line_of (codes "Content-Length: 2 "), BadLength)
    ∷ (line_of (codes "Content-Length: 12345678"), BadLength)
    ∷ (line_of (codes "Content-Length: 1048577"), TooLarge) ∷ [])

-- A header part may have other fields, before and after that of the length. This one has all 1,024 bytes, and gives the
-- greatest length.
abbrev pub OtherFieldsAreLawful : Type 0
OtherFieldsAreLawful =
    IsHeader (line_of (codes "X-9: ~") ++ line_of (codes "Content-Length: 1048576")
    ++ line_of (codes "Z: " ++ replicate 984 97) ++ line_of []) 1048576
