-- A text is printable where each of its bytes is.
use Rattle.dap_msg.proofs.Common.{All, AllPass-from_list_all, and_from, and_parts, IsPrintable, le-leb, leb-true, List, list_all-from_AllPass, true, ℕ, ◌≡◌}
use Rattle.dap_msg.specs.Printable.{is_printable_byte, is_printable}

byte_is : (byte : ℕ) → is_printable_byte byte ≡ true → IsPrintable byte
byte_is byte is = let both = and_parts _ _ is in (leb-true 32 byte both.0, leb-true byte 126 both.1)

byte_back : (byte : ℕ) → IsPrintable byte → is_printable_byte byte ≡ true
byte_back byte is = and_from _ _ (le-leb 32 byte is.0) (le-leb byte 126 is.1)

pub printable_is : (text : List ℕ) → is_printable text ≡ true → All IsPrintable text
printable_is text is k d lt = byte_is _ (AllPass-from_list_all is_printable_byte text is k d lt)

pub printable_back : (text : List ℕ) → All IsPrintable text → is_printable text ≡ true
printable_back text each = list_all-from_AllPass is_printable_byte text (λ k d lt. byte_back _ (each k d lt))
