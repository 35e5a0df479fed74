-- The bytes that a stream knows are those that std's stream tells, as more go through.
use Rattle.std.proofs.Common.{rules, ◌≡◌, ◌⊎◌, inr, ℕ, Bool, true, List, [], ◌∷◌, ◌++◌, Option, None, Some, sym, subst, ◌∙◌, append_assoc, append-nil, take, length, ◌<◌, arith}
use Rattle.std.specs.Io.KnownBytes.{Consumes, IsAtEnd, Keeps}
use Rattle.byte_streams.specs.Streams.{HasGiven}
use Rattle.std.proofs.lemmas.Grind.{common_steps}

-- where nothing is left, nothing more is given
none_more : (more left : List ℕ) → [] ≡ more ++ left → left ≡ []
none_more [] left is = sym is
none_more (byte ∷ more) left is = absurd (search (is, rules))

-- a read gave these, and found the end or didn't
pub given_more : (all old left : Option (List ℕ)) (bytes more : List ℕ) (ended now : Bool)
    → HasGiven all old bytes ended → Consumes old left more → (now ≡ true → (ended ≡ true) ⊎ IsAtEnd left)
    → HasGiven all left (bytes ++ more) now
given_more None old left bytes more ended now p q end = tt
given_more (Some all) None left bytes more ended now p q end = absurd p
given_more (Some all) (Some old) None bytes more ended now p q end = absurd q
given_more (Some all) (Some old) (Some left) bytes more ended now p q end =
    grind (arith, common_steps, append_assoc, none_more)

-- a read gave nothing
pub given_same : (all old left : Option (List ℕ)) (bytes : List ℕ) (ended : Bool) → HasGiven all old bytes ended
    → Keeps old left → HasGiven all left bytes ended
given_same None old left bytes ended p q = tt
given_same (Some all) None left bytes ended p q = absurd p
given_same (Some all) (Some old) None bytes ended p q = absurd q
given_same (Some all) (Some old) (Some left) bytes ended p q = (cc p.0, λ e. q ∙ p.1 e)

-- a read found the end
pub given_end : (all old left : Option (List ℕ)) (bytes : List ℕ) (n : ℕ) (room : List ℕ) (ended : Bool)
    → HasGiven all old bytes ended → Consumes old left (take n room) × (n ≡ 0 → 0 < length room → IsAtEnd left)
    → n ≡ 0 → 0 < length room → HasGiven all left bytes true
given_end all old left bytes n room ended p got none some =
    rw (← append-nil bytes) (given_more all old left bytes [] ended true p (subst (λ k. Consumes old left (take k
    room)) none got.0) (λ e. inr (got.1 none some)))
