-- How the stream was cut into pieces changes nothing.
use Rattle.dap_history.proofs.Common.{Dialect, Fault, FaultAt, FramingFault, HasFaultyLine, History, Incoming, IsInFront, IsTaking, Launch, LeadsByEvent, LeadsByEvents, LeadsByPiece, None, Option, Piece, Request, Rest, Some, Rests, Takes, TakesSome, [], arith, closed, faulty, length-append, no_content, one_content, only_bytes, open_ended, refl, waits, ℕ, ◌++◌, ◌∙◌, ◌∷◌, ◌≡◌}
use Rattle.std.proofs.Common.{List}
use Rattle.std.proofs.lemmas.List.{append_assoc, take-append-le}
use Rattle.dap_frame.specs.declared.fault.FramingFault.TheVariants.{HeaderTooLong, BadField, NoLength, TwoLengths, BadLength, TooLarge, NoMemory as NoRoom}
use Rattle.dap_frame.specs.Header.{IsTooLong, header_limit}
use Rattle.dap_frame.proofs.Feeding.{frame_longer}
use Rattle.dap_history.specs.Laws.{CutsChangeNothing}
use Rattle.dap_history.proofs.Along.{closes_for_good}
use Rattle.std.proofs.lemmas.Grind.{common_steps}

-- ---- more bytes after those there are

in_front_more : (dialect : Dialect) (bytes : List ℕ) (request : Option Request) (left more : List ℕ)
    → IsInFront dialect bytes request left
    → IsInFront dialect (bytes ++ more) request (left ++ more)
in_front_more dialect bytes request left more is =
    record { content = is.content; framed = frame_longer bytes is.content left more is.framed; read = is.read }

line_more : (bytes more : List ℕ) (k : FramingFault) → HasFaultyLine bytes k → HasFaultyLine (bytes ++ more) k
line_more bytes more k is = grind (arith, common_steps, append_assoc) steps 200000

long_more : (bytes more : List ℕ) → IsTooLong bytes → IsTooLong (bytes ++ more)
long_more bytes more is = record {
  fields = is.fields;
  part = is.part;
  faultless = is.faultless;
  there = let a = is.there in let b = length-append bytes more in omega (arith, a, b);
  spelled = take-append-le header_limit bytes more is.there ∙ is.spelled;
  incomplete = is.incomplete;
}

pub fault_more : (bytes more : List ℕ) (k : FramingFault) → FaultAt bytes k → FaultAt (bytes ++ more) k
fault_more bytes more HeaderTooLong is = long_more bytes more is
fault_more bytes more BadField is = line_more bytes more BadField is
fault_more bytes more NoLength is = line_more bytes more NoLength is
fault_more bytes more TwoLengths is = line_more bytes more TwoLengths is
fault_more bytes more BadLength is = line_more bytes more BadLength is
fault_more bytes more TooLarge is = line_more bytes more TooLarge is
fault_more bytes more NoRoom is = absurd is

-- ---- a closed session takes nothing

stays_closed : {dialect : Dialect} {past mid new : History} {bytes left : List ℕ} {rest : Rest} → ¬ IsTaking past
    → TakesSome dialect past bytes mid left
    → Rests dialect mid left new rest → (new ≡ past) × (rest ≡ only_bytes bytes)
stays_closed not (one_content request taking front unwanted after some) rests = absurd (not taking)
stays_closed not no_content (closed not') = (refl, refl)
stays_closed not no_content (open_ended taking is) = absurd (not taking)
stays_closed not no_content (faulty k new taking fault after) = absurd (not taking)
stays_closed not no_content (waits request launch more taking front wanted) = absurd (not taking)

pub takes_not : (dialect : Dialect) (past new : History) (bytes : List ℕ) (rest : Rest) → ¬ IsTaking past
    → Takes dialect past bytes new rest → (new ≡ past) × (rest ≡ only_bytes bytes)
takes_not dialect past new bytes rest not taken = stays_closed not taken.2 taken.3

-- ---- some contents, and then others

pub takes_both : {dialect : Dialect} {past mid new : History} {bytes left more : List ℕ}
    → TakesSome dialect past bytes mid left → TakesSome dialect mid left new more
    → TakesSome dialect past bytes new more
takes_both no_content others = others
takes_both (one_content request taking front unwanted after some) others =
    one_content request taking front unwanted after (takes_both some others)

-- no content is taken
pub at_once : {dialect : Dialect} {past new : History} {bytes : List ℕ} {rest : Rest}
    → Rests dialect past bytes new rest → Takes dialect past bytes new rest
at_once {past = past} {bytes = bytes} rests = (past, bytes, no_content, rests)

-- ---- two pieces as one

some_longer : {dialect : Dialect} {past mid : History} {bytes left : List ℕ} (b : List ℕ)
    → TakesSome dialect past bytes mid left → TakesSome dialect past (bytes ++ b) mid (left ++ b)
some_longer b no_content = no_content
some_longer {dialect = dialect} {bytes = bytes} b (one_content {more = more} request taking front unwanted after some) =
    one_content request taking (in_front_more dialect bytes request more b front) unwanted after (some_longer b some)

rests_longer : {dialect : Dialect} {past mid : History} {bytes : List ℕ} {between : Rest} (b : List ℕ) (new : History)
    (rest : Rest)
    → Rests dialect past bytes mid between → LeadsByPiece dialect mid between.launch (between.bytes ++ b) new rest
    → Takes dialect past (bytes ++ b) new rest
rests_longer b new rest (closed not) second = second
rests_longer b new rest (open_ended taking is) second = second
rests_longer {dialect = dialect} {past = past} {bytes = bytes} b new rest (faulty k mid taking fault after) second =
    let is = takes_not dialect mid new (bytes ++ b) rest (closes_for_good past (Fault k) mid _ refl after) second in
    rw is.0 (rw is.1 (at_once (faulty k mid taking (fault_more bytes b k fault) after)))
rests_longer {dialect = dialect} {past = past} {bytes = bytes} b new rest (waits request launch more taking front
    wanted) second =
    rw second.0 (rw second.1 (at_once (waits request launch (more ++ b) taking (in_front_more dialect bytes request more
    b front) wanted)))

two_takes : (dialect : Dialect) (past mid : History) (bytes : List ℕ) (between : Rest) (b : List ℕ) (new : History)
    (rest : Rest)
    → Takes dialect past bytes mid between → LeadsByPiece dialect mid between.launch (between.bytes ++ b) new rest
    → Takes dialect past (bytes ++ b) new rest
two_takes dialect past mid bytes between b new rest taken second =
    let on = rests_longer b new rest taken.3 second in
    (on.0, on.1, takes_both (some_longer b taken.2) on.2, on.3)

two_by_piece : (dialect : Dialect) (past : History) (launch : Option Launch) (bytes b : List ℕ) (mid : History)
    (between : Rest)
    (new : History) (rest : Rest) → LeadsByPiece dialect past launch bytes mid between
    → LeadsByPiece dialect mid between.launch (between.bytes ++ b) new rest
    → LeadsByPiece dialect past launch (bytes ++ b) new rest
two_by_piece dialect past None bytes b mid between new rest here second =
    two_takes dialect past mid bytes between b new rest here second
two_by_piece dialect past (Some launch) bytes b mid between new rest here second =
    grind (arith, common_steps) steps 200000

two_pieces : (dialect : Dialect) (past : History) (before : Rest) (a b : List ℕ) (mid : History) (between : Rest)
    (new : History)
    (rest : Rest) → LeadsByEvent dialect past before (Piece a) mid between
    → LeadsByEvent dialect mid between (Piece b) new rest → LeadsByEvent dialect past before (Piece (a ++ b)) new rest
two_pieces dialect past before a b mid between new rest one second =
    rw (← (append_assoc before.bytes a b)) (two_by_piece dialect past before.launch _ b mid between new rest one second)

joined : (dialect : Dialect) (a b : List ℕ) (before after : List Incoming) (past : History) (start : Rest)
    (new : History) (rest : Rest)
    → LeadsByEvents dialect past start (before ++ (Piece a ∷ Piece b ∷ after)) new rest
    → LeadsByEvents dialect past start (before ++ (Piece (a ++ b) ∷ after)) new rest
joined dialect a b [] after past start new rest all = grind (arith, common_steps, two_pieces) steps 200000
joined dialect a b (e ∷ before) after past start new rest all =
    (all.0, all.1, all.2, joined dialect a b before after all.0 all.1 new rest all.3)

pub cuts_change_nothing : CutsChangeNothing
cuts_change_nothing dialect a b before after past rest history = joined dialect a b before after [] _ past rest history
