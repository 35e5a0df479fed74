-- The loader is asked for the path of each launch that waits, and for no other; the events are what inbox and loader
-- returned.
use Rattle.dap_history.proofs.Common.{Dialect, File, History, Incoming, IsHistoryOf, IsTaking, Launch, None, Rest, Some, [], ap, append-nil, inl, inr, subst, sym, ℕ, ◌++◌, ◌∙◌, ◌∷◌, ◌≡◌, ◌⊎◌}
use Rattle.std.proofs.Common.{List, arith}
use Rattle.std.specs.Prelude.{map}
use Rattle.std.proofs.lemmas.List.{append_assoc}
use Rattle.dap_history.specs.Interleaving.{Load, AwaitsNone, IsLoad, Interleaves, IsAsked, EachLoadIsOfALaunch, IsAnswerFor, EachLaunchIsLoaded, AreMerged, EventsAreReturned}
use Rattle.dap_history.specs.Laws.{HistoryIsOne}
use Rattle.dap_history.proofs.Once.{none_within}
use Rattle.std.proofs.lemmas.Grind.{common_steps}

-- ---- each load is of a launch

asked_now : (dialect : Dialect) (before : List Incoming) (e : Incoming) (after : List Incoming) (load : Load)
    → IsLoad dialect before e load → IsAsked dialect (before ++ e ∷ after) load
asked_now dialect before e after load is = grind (arith, common_steps) steps 200000

asked_along : (dialect : Dialect) (so_far events given : List Incoming) (loads : List Load)
    → Interleaves dialect so_far events given loads → (front : List Load) (load : Load) (back : List Load)
    → loads ≡ front ++ load ∷ back → IsAsked dialect (so_far ++ events) load
asked_along dialect so_far [] given loads is front load back loads_are =
    absurd (none_within front back load (sym is.1 ∙ loads_are))
asked_along dialect so_far (e ∷ events) given loads (inl (l, more, are, loaded, later)) [] load back loads_are =
    let same : l ≡ load = cc in
    asked_now dialect so_far e events load (subst (IsLoad dialect so_far e) same loaded)
asked_along dialect so_far (e ∷ events) given loads (inl (l, more, are, loaded, later)) (x ∷ front) load back
    loads_are =
    let rest : more ≡ front ++ load ∷ back = cc in
    subst (λ es. IsAsked dialect es load) (append_assoc so_far (e ∷ []) events)
    (asked_along dialect (so_far ++ e ∷ []) events given more later front load back rest)
asked_along dialect so_far (e ∷ events) given loads (inr (more, given_is, none, later)) front load back loads_are =
    rw (← (append_assoc so_far (e ∷ []) events))
    (asked_along dialect _ events more loads later front load back loads_are)

pub each_asked : EachLoadIsOfALaunch
each_asked dialect events given loads is front load back loads_are =
    asked_along dialect [] events given loads is front load back loads_are

-- ---- each launch is loaded

-- where a launch waits, the next event is not the inbox's
not_awaited : HistoryIsOne → (dialect : Dialect) (before : List Incoming) → AwaitsNone dialect before → (past : History)
    (rest : Rest) → IsHistoryOf dialect before past rest → IsTaking past → (launch : Launch)
    → ¬ (rest.launch ≡ Some launch)
not_awaited one dialect before none past rest history taking launch waits = by_none none.waits
  where
    same : (past ≡ none.past) × (rest ≡ none.rest)
    same = one dialect before past none.past rest none.rest history none.history

    by_none : ¬ ((¬ IsTaking none.past) ⊎ (none.rest.launch ≡ None))
    by_none (inl not) = not (subst IsTaking same.0 taking)
    by_none (inr is) = let e = sym waits ∙ ap (λ (r : Rest). r.launch) same.1 ∙ is in absurd cc

answer_now : HistoryIsOne → (dialect : Dialect) (before : List Incoming) (e : Incoming) (load : Load)
    (loads more : List Load) → loads ≡ load ∷ more → IsLoad dialect before e load → (past : History) (rest : Rest)
    → IsHistoryOf dialect before past rest → (launch : Launch) → rest.launch ≡ Some launch
    → IsAnswerFor loads launch.arguments.program e
answer_now one dialect before (File file) load loads more are (answer_is, awaits) past rest history launch
    waits =
    let same = (one dialect before past awaits.past rest awaits.rest history awaits.history).1 in
    let launch_is : launch ≡ awaits.launch =
    let e = sym waits ∙ ap (λ (r : Rest). r.launch) same ∙ awaits.waits in cc in record {
      front = [];
      load = load;
      back = more;
      loads_are = are;
      path_is = awaits.path_is ∙ ap (λ (l : Launch). l.arguments.program) (sym launch_is);
      event_is = ap File (sym answer_is);
    }
answer_now one dialect before _ load loads more are is past rest history launch waits = absurd is

longer : (so_far before : List Incoming) (x e : Incoming) → x ≡ e
    → so_far ++ x ∷ before ≡ (so_far ++ e ∷ []) ++ before
longer so_far before x e same = cc (append_assoc so_far (e ∷ []) before)

answer_later : (load : Load) (loads more : List Load) (path : List ℕ) (e : Incoming) → loads ≡ load ∷ more
    → IsAnswerFor more path e → IsAnswerFor loads path e
answer_later load loads more path e are is = record {
  front = load ∷ is.front;
  load = is.load;
  back = is.back;
  loads_are = are ∙ ap (λ ls. load ∷ ls) is.loads_are;
  path_is = is.path_is;
  event_is = is.event_is;
}

loaded_along : HistoryIsOne → (dialect : Dialect) (so_far events given : List Incoming) (loads : List Load)
    → Interleaves dialect so_far events given loads → (before : List Incoming) (event : Incoming)
    (after : List Incoming) → events ≡ before ++ event ∷ after → (past : History) (rest : Rest)
    → IsHistoryOf dialect (so_far ++ before) past rest → IsTaking past → (launch : Launch) → rest.launch ≡ Some launch
    → IsAnswerFor loads launch.arguments.program event
loaded_along one dialect so_far [] given loads is before event after are past rest history taking launch waits =
    absurd (none_within before after event are)
loaded_along one dialect so_far (e ∷ events) given loads (inl (l, more, loads_are, loaded, later)) [] event after are
    past rest history taking launch waits =
    let same : e ≡ event = cc in
    rw (← same) (answer_now one dialect so_far e l loads more loads_are loaded past rest (rw (← (append-nil so_far))
    history) launch waits)
loaded_along one dialect so_far (e ∷ events) given loads (inr (more, given_is, none, later)) [] event after are past
    rest history taking launch waits =
    absurd (not_awaited one dialect so_far none past rest (rw (← (append-nil so_far)) history) taking launch waits)
loaded_along one dialect so_far (e ∷ events) given loads (inl (l, more, loads_are, loaded, later)) (x ∷ before) event
    after are past rest history taking launch waits =
    let same : x ≡ e = cc in
    let rest_are : events ≡ before ++ event ∷ after = cc in
    answer_later l loads more launch.arguments.program event loads_are (loaded_along one dialect _ events given more
    later before event after rest_are past rest (rw (← (longer so_far before x e same)) history) taking launch waits)
loaded_along one dialect so_far (e ∷ events) given loads (inr (more, given_is, none, later)) (x ∷ before) event after
    are past rest history taking launch waits =
    let same : x ≡ e = cc in
    let rest_are : events ≡ before ++ event ∷ after = cc in
    loaded_along one dialect (so_far ++ e ∷ []) events more loads later before event after rest_are past rest
    (subst (λ es. IsHistoryOf dialect es past rest) (longer so_far before x e same) history) taking launch waits

pub each_loaded : HistoryIsOne → EachLaunchIsLoaded
each_loaded one dialect events given loads is before event after are past rest history taking launch waits =
    loaded_along one dialect [] events given loads is before event after are past rest history taking launch
    waits

-- ---- the events are all that came

answer_event : (dialect : Dialect) (before : List Incoming) (e : Incoming) (load : Load) → IsLoad dialect before e load
    → File load.answer ≡ e
answer_event dialect before e load is = grind (arith, common_steps) steps 200000

abbrev answers : List Load → List Incoming
answers loads = map (λ (load : Load). File load.answer) loads

merged_along : (dialect : Dialect) (so_far events given : List Incoming) (loads : List Load)
    → Interleaves dialect so_far events given loads → AreMerged events given (answers loads)
merged_along dialect so_far [] given loads is = (is.0, ap answers is.1)
merged_along dialect so_far (e ∷ events) given loads (inl (l, more, are, loaded, later)) =
    inr (answers more, cc (answer_event dialect so_far e l loaded), merged_along dialect _ events given more later)
merged_along dialect so_far (e ∷ events) given loads (inr (more, given_is, none, later)) =
    inl (more, given_is, merged_along dialect (so_far ++ e ∷ []) events more loads later)

pub events_returned : EventsAreReturned
events_returned dialect events given loads is = merged_along dialect [] events given loads is
