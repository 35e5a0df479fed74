-- An empty body. The borrow is opened, and closed at a log with the bytes behind. Assumes `Logic`.
use Rattle.std.proofs.Common.{◌<◌, ◌^◌, ℕ, List, [], ◌∷◌, ◌++◌, length, refl, MutBor, Bor}
use seplogic.Ra.Ura.{Ura}
use mir.Syntax.{Fn, Args, a_type, named}
use mir.Val.{Val, vunit, vptr}
use mir.MapTy.{inst_fn}
use base.Logic.{SProp, ent, sep, emp, via, fst∗, id⊢}
use base.Fml.{Fml, GName, Lft, Share, ftrue, flft, fobs, fbor}
use prog.Memory.{Memory}
use prog.Routine.{Routine}
use prog.Wp.{Calls, Loops, WpFn, Tables}
use contract.Lifetimes.{AllOutlive}
use contract.Monad.{Fun}
use contract.Running.{tables, tables_of}
use sound.WpLaws.{WpFn-mono}
use types.Logic.{Logic, sem}
use types.Kit.{‵, ◌⊛◌, ◌$◌, ◌∵◌, !, qed, by, move, keep, drop, use1, split, join, fsplit, fsplit3, fjoin, fjoin3, feq_i, suffices, frame, done}
use types.Run.{unit_lit, of_opd, returns, enter}
use types.SemTy.{Body}
use types.ByLocal.{alloc_all, pass_all, free_all, look_at, sets}
use denote.Builtin.{u8}
use denote.Exit.{yes}
use denote.Memory.{mem}
use denote.Param.{param, layouts}
use denote.RattleType.{RattleType, owns}
use denote.Ref.{MutRef, mut_vals, mut_Tells}
use denote.Signature.{plain}
use denote.Slice.{ShrSlice, slice_val, shr_slice_vals, shr_slice_Tells}
use denote.Steps.{opens, closes}
use denote.Triple.Clauses.{Clauses, Ended, closing}
use denote.Triple.Entry.{on_entry}
use denote.Triple.Spec.{Meets, triple_of}
use denote.Triple.Table.{entered}
use denote.Triple.Walked.{says, Stays, stay_ref, stay_none_slice, walk_of, AllGo, Goes-ref, Goes-none_slice, Walks, ends_at, walked, walk_Meets}
use Rattle.byte_streams.specs.contracts.byte_log.ByteLog as ByteLog
use Rattle.byte_streams.specs.contracts.byte_log.ByteLog.note as F
use Rattle.byte_streams.specs.contracts.byte_log.ByteLog.note.Key.{name as #self}
use Rattle.byte_streams.proofs.byte_log.ByteLog.note.Statement as stated
use Rattle.byte_streams.proofs.byte_log.ByteLog.note.Code as code

module _ (T : RattleType) where
  abbrev args : Args
  args = layouts (a_type ∷ []) (T, tt)

  abbrev function : Fn
  function = inst_fn args code.function

  abbrev ended : Ended
  ended = F.ended T

  abbrev row : RattleType
  row = ByteLog.the_row (param 0 T)

  abbrev stayed : Stays ended.signature.params ended.kept
  stayed = (stay_ref (0 ∷ []) tt (plain (λ _. row)), (stay_none_slice (1 ∷ []) tt (plain (λ _. u8)) yes, tt))

  abbrev Arg : Type 0
  Arg = MutBor row.Denot × (Bor (List ℕ) × Unit {0})

  module _ {M : Type 1} {𝓤 : Ura M} (𝓛 : Logic 𝓤) (at_mem : Memory → SProp 𝓤) (run : Routine → Fun 𝓤) where
    open 𝓛 use {H, A}

    abbrev held : Clauses 𝓤 ended
    held = F.clauses T 𝓛 at_mem run

    module _ (κ κ' κ'' : Lft) (q q' q'' : Share) (b o : ℕ) (γ : GName) (h : row.Denot) (s : Bor (List ℕ))
        (bounds : AllOutlive ended.signature.lifetimes ended.signature.outlives (κ, (κ', (κ'', tt)))) where
      abbrev x : Arg
      x = (record { ref_ptr = (b, o); ghost_name = γ; now = h }, (s, tt))

      abbrev h' : row.Denot
      h' = record { of = h.of; first = h.first; bytes = h.bytes ++ s.now }

      abbrev at : List Val × (List Val × Unit {0})
      at = (vptr b o ∷ [], (slice_val s.ref_ptr (length s.now) ∷ [], tt))

      abbrev rest : Fml
      rest = owns (ShrSlice (named 1) κ' u8 ∷ []) x.1 at.1

      abbrev Post : Val → SProp 𝓤
      Post = (walk_of 𝓛 ended stayed held).post (((κ, (κ', (κ'', tt))), (q, (q', (q'', tt))), bounds, x, at), tt)

      exits : ent 𝓤 (sep 𝓤 (A.obs γ (row.coded.code h')) (sep 𝓤 (A.bor κ (Body (mem row) b o γ)) (sep 𝓤 (A.lft κ q)
          (sep 𝓤 (sem 𝓛 rest) (sep 𝓤 (A.lft κ' q') (sep 𝓤 (A.lft κ'' q'') (emp 𝓤))))))) (Post vunit)
      exits =
          qed 𝓛 (‵ (fobs γ (row.coded.code h')) ∷ ‵ (fbor κ (Body (mem row) b o γ)) ∷ ‵ (flft κ q) ∷ ‵ rest
          ∷ (‵ (flft κ' q') ⊛ (‵ (flft κ'' q'') ⊛ ‵ ftrue)) ∷ []) ∵
          suffices ! _ (ends_at 𝓛 ended stayed held (((κ, (κ', (κ'', tt))), (q, (q', (q'', tt))), bounds, x, at), tt)
          vunit tt (h', (tt, tt))
          (tt, (tt, tt))) $ says ! (refl, refl) $ move ! (2 ∷ 4 ∷ []) $ join ! $
          frame ! $ feq_i ! (List Val) (vptr b o ∷ []) (vptr b o ∷ []) refl $ fjoin3 ! $ fjoin ! $
          feq_i ! (List Val) (vunit ∷ []) (vunit ∷ []) refl $ move ! (1 ∷ 0 ∷ []) $ done !

      module _ (C : Calls 𝓤 H) (Λ : Loops 𝓤 H) where
        walk : length s.now < 2 ^ 64 → ent 𝓤 (on_entry 𝓛 ended.signature (κ, (κ', (κ'', tt))) (q, (q', (q'', tt))) x at)
            (WpFn 𝓤 H C Λ function (vptr b o ∷ slice_val s.ref_ptr (length s.now) ∷ []) Post)
        walk fits =
            qed 𝓛 ((‵ (flft κ q) ⊛ (‵ (flft κ' q') ⊛ (‵ (flft κ'' q'') ⊛ ‵ ftrue)))
            ∷ ‵ (owns (MutRef (named 0) κ row ∷ ShrSlice (named 1) κ' u8 ∷ []) x at) ∷ []) ∵
            split ! $ move ! (2 ∷ []) $ fsplit ! $ fsplit3 ! $ drop ! $ move ! (0 ∷ 1 ∷ 3 ∷ []) $
            enter ! C Λ function (vptr b o ∷ slice_val s.ref_ptr (length s.now) ∷ []) _ $
            alloc_all ! (λ l. pass_all ! refl ((tt, tt), ((tt, (tt, (record { fits = fits }, tt))), tt)) $
            move ! (0 ∷ 1 ∷ 2 ∷ []) $ opens ! tt row {h = h} b o (λ vs.
            sets ! (of_opd ! (unit_lit !)) refl (tt, tt) $
            move ! (1 ∷ []) $ use1 𝓛 (‵ (row.own_val h' vs)) (id⊢ 𝓤 _) $ move ! (1 ∷ 0 ∷ []) $
            closes ! tt row h' vs b o $
            returns ! (look_at ! 0 refl) $ free_all ! refl $
            keep ! (0 ∷ 1 ∷ 2 ∷ 3 ∷ 4 ∷ []) $ by ! exits))

    walks : (C : Calls 𝓤 H) (Λ : Loops 𝓤 H) → Walks 𝓛 ended stayed (WpFn 𝓤 H C Λ function) held
    walks C Λ = walked 𝓛 ended stayed held (WpFn 𝓤 H C Λ function) (λ κs. (mut_vals, (shr_slice_vals, tt)))
        (λ κs. (mut_Tells (named 0) κs.0 row, (shr_slice_Tells (named 1) κs.1.0 u8, tt)))
        (λ κs qs bounds a g are. via 𝓤 _ (fst∗ 𝓤 _ ((held κs a).requires g))
        (walk κs.0 κs.1.0 κs.1.1.0 qs.0 qs.1.0 qs.1.1.0 a.0.ref_ptr.0 a.0.ref_ptr.1
        a.0.ghost_name a.0.now a.1.0 bounds C Λ are.1.0.0.1.0))

    goes : AllGo 𝓛 3 ended.signature.params ended.kept stayed
    goes = (Goes-ref 𝓛 3 0 tt (plain (λ _. row)), (Goes-none_slice 𝓛 3 (1 ∷ []) tt (plain (λ _. u8)) yes, tt))

    meets : (𝓣 : Tables 𝓤 H) → Meets 𝓛 ended.signature (WpFn 𝓤 H 𝓣.C 𝓣.Λ function) (closing 𝓛 ended held)
    meets 𝓣 =
        walk_Meets 𝓛 ended stayed goes held (WpFn 𝓤 H 𝓣.C 𝓣.Λ function) (WpFn-mono 𝓤 H 𝓛.laws 𝓣 function)
        (walks 𝓣.C 𝓣.Λ)

pub note_spec : {M : Type 1} → stated.statement M
unfolding tables_of
note_spec 𝓤 𝓛 𝓜 𝓡 wired T LT =
    let 𝓣 : Tables 𝓤 𝓛.H = tables_of 𝓤 𝓛.H 𝓜 (tables 𝓤 𝓛.H 𝓜 𝓡 𝓡.env) in
    entered 𝓤 𝓛.H (triple_of 𝓛 (ended T).signature (closing 𝓛 (ended T) (held T 𝓛 𝓜.mem 𝓡.returns))) 𝓣.C 𝓣.Λ
    (#self (args T)) (function T)
    (code.unfolded 𝓤 𝓛.H 𝓜 𝓡 wired (T, tt)) (meets T 𝓛 𝓜.mem 𝓡.returns 𝓣)
