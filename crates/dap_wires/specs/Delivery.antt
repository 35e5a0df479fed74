-- Defines the rule of a queue, which holds after each step of any end: what was taken and then what is inside is, of
-- each sender, what it put, in its order.
use Rattle.std.specs.Prelude.{◌≡◌, ℕ, Bool, true, false, not, cond, List, [], ◌∷◌, ◌++◌, filter}
use mathlib.Core.Option.{some}
use lib.ListN.{get_elem?}
use Rattle.dap_wires.specs.declared.end_log.EndLog.{EndLog}

-- What an end may do: put what the first sender sends, put what the second sends, and take what was sent.
pub record Rights : Type 0 where
  pub first : Bool
  pub second : Bool
  pub takes : Bool

abbrev pub every_right : Rights
every_right = record { first = true; second = true; takes = true }

abbrev pub no_right : Rights
no_right = record { first = false; second = false; takes = false }

-- the rights of the ends of a new queue
abbrev pub first_sender : Rights
first_sender = record { first = true; second = false; takes = false }

abbrev pub second_sender : Rights
second_sender = record { first = false; second = true; takes = false }

abbrev pub only_receiver : Rights
only_receiver = record { first = false; second = false; takes = true }

-- the rights of the receiver of a queue of one sender, where nobody else has the second sender's
abbrev pub sole_receiver : Rights
sole_receiver = record { first = false; second = true; takes = true }

module _ {M : Type 0} where
  abbrev pub rights : EndLog M → Rights
  rights v = record { first = v.first; second = v.second; takes = v.takes }

  -- the log of an end with these rights, which put and took these messages
  abbrev pub log : Rights → List M → List M → List M → EndLog M
  log may put_first put_second taken =
      record {
        first =
            may.first;
        second = may.second;
        takes = may.takes;
        put_first = put_first;
        put_second = put_second;
        taken = taken;
      }

  -- the log of an end that has done nothing
  abbrev pub unused : Rights → EndLog M
  unused may = log may [] [] []

  module _ (by_second : M → Bool) where
    -- what each sender sent of these messages
    abbrev pub of_first : List M → List M
    of_first ms = filter (λ m. not (by_second m)) ms

    abbrev pub of_second : List M → List M
    of_second ms = filter by_second ms

    -- An end that puts, as one sender or the other, knows all that this sender put; the one that takes knows all that
    -- was taken.
    pub record Fits (one two taker : ℕ) (taken inside : List M) (end : ℕ) (v : EndLog M) : Type 0 where
      pub first : v.first ≡ true → (end ≡ one) × (v.put_first ≡ of_first (taken ++ inside))
      pub second : v.second ≡ true → (end ≡ two) × (v.put_second ≡ of_second (taken ++ inside))
      pub takes : v.takes ≡ true → (end ≡ taker) × (v.taken ≡ taken)

    -- At most one end puts as the first sender, one as the second, and one takes; these messages are inside.
    pub record Delivers (inside : List M) (logs : List (EndLog M)) : Type 0 where
      pub one : ℕ
      pub two : ℕ
      pub taker : ℕ
      pub taken : List M
      pub each : (end : ℕ) (v : EndLog M) → get_elem? logs end ≡ some v → Fits one two taker taken inside end v

    -- the end may put this message
    abbrev pub May : EndLog M → M → Type 0
    May v m = cond (by_second m) v.second v.first ≡ true

    -- the log after a message was put
    abbrev pub put : EndLog M → M → EndLog M
    put v m =
        log (rights v) (v.put_first ++ of_first (m ∷ [])) (v.put_second ++ of_second (m ∷ [])) v.taken

    -- at one moment these messages were inside, after some that had been taken
    abbrev pub WasInside : EndLog M → List M → Type 0
    WasInside v inside =
        (taken : List M)
        × (v.first ≡ true → v.put_first ≡ of_first (taken ++ inside))
        × (v.second ≡ true → v.put_second ≡ of_second (taken ++ inside))

    -- what was put is what was taken and what is inside
    abbrev pub Balances : EndLog M → List M → Type 0
    Balances v inside = (v.put_first ≡ of_first (v.taken ++ inside)) × (v.put_second ≡ of_second (v.taken ++ inside))

  -- the log after a message was taken
  abbrev pub took : EndLog M → M → EndLog M
  took v m = log (rights v) v.put_first v.put_second (v.taken ++ m ∷ [])

  -- ---- rights that are split off and joined again

  -- the log of an end that has one sender's right alone
  abbrev pub only_first : EndLog M → EndLog M
  only_first v = log (record { first = v.first; second = false; takes = false }) v.put_first [] []

  abbrev pub only_second : EndLog M → EndLog M
  only_second v = log (record { first = false; second = v.second; takes = false }) [] v.put_second []

  -- the log that is left without that right
  abbrev pub without_first : EndLog M → EndLog M
  without_first v = log (record { first = false; second = v.second; takes = v.takes }) [] v.put_second v.taken

  abbrev pub without_second : EndLog M → EndLog M
  without_second v = log (record { first = v.first; second = false; takes = v.takes }) v.put_first [] v.taken

  -- the log of an end that has no right
  abbrev pub idle : EndLog M
  idle = unused no_right

  -- the log with one sender's right and messages joined from another log
  abbrev pub with_first : EndLog M → EndLog M → EndLog M
  with_first v w =
      log (record { first = true; second = v.second; takes = v.takes }) w.put_first v.put_second v.taken

  abbrev pub with_second : EndLog M → EndLog M → EndLog M
  with_second v w =
      log (record { first = v.first; second = true; takes = v.takes }) v.put_first w.put_second v.taken
