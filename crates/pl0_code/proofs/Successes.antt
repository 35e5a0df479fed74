-- What holds after a success.
use Rattle.pl0_code.proofs.Common.{Err, Ok, OnOk, Result}

pub on_ok : {T E P Q : Type 0} (r : Result T E) → OnOk r P → (P → Q) → OnOk r Q
on_ok (Ok x) is more = more is
on_ok (Err e) is more = tt
