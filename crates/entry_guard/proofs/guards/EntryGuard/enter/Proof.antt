-- `enter` keeps the guard of `guard_or_door`. Where it gets the door back instead it lets it go, and the door's borrow ends at the value that it began with. This is shown once for every type of door. Assumes `Logic`.
use mathlib.Core.Path.{◌≡◌, refl, sym, subst, ap, ◌∙◌}
use mathlib.Core.Bool.{true}
use mathlib.Core.Option as maybe
use mathlib.Core.List.{List, [], ◌∷◌, ◌++◌}
use seplogic.Ra.Ura.{Ura}
use lib.Dec.{T}
use mir.Syntax.{Args, Fn, Ty, Dict, dcons, dnil, a_type, named}
use mir.Val.{Val, vstruct, vcons, vnil, of_list, has_ty, WT}
use mir.MapTy.{inst_fn}
use base.Logic.{SProp, ent, sep, emp, ex_i, wand, via, id⊢}
use base.Fml.{Lft, GName, Share, Fml, ftrue, fsep, fex, feq, flft, fres, fauth}
use prog.Wp.{WpFn}
use prog.Model.{Model}
use types.Logic.{Logic, sem}
use types.Kit.{⋆, ‵, raw, ◌⊛◌, some, later, ◌$◌, ◌∵◌, !, qed, by, move, keep, drop, use0, use1, split, split3, join, group, pick, await, rewrite, each, assume, fsplit, fsplit3, fpick, fjoin, fpack, feq_i, feq_l, suffices, frame, done}
use types.Part.{whole, sub}
use types.Run.{stop, fld, addr, of_opd, no_more, and_then, returns, enter}
use types.ByLocal.{alloc_all, pass_all, free_all, look_at, get, get_in, through, sets, lands_as}
use contract.Lifetimes.{AllOutlive}
use contract.Monad.{fact, fact_i}
use contract.Running.{Running, MachineTables, tables, tables_of}
use contract.CodeStep
use sound.WpLaws.{WpFn-mono}
use denote.Builtin.{RefMutOf}
use denote.Exit.{no}
use denote.Follow.{follows, follows_if, follows_so, follows_by, such_by}
use denote.Laws.{Is, Typed, shows}
use denote.Memory.{lone}
use denote.Param.{param, bounded}
use denote.Param.Laws.{Laws, param_laws, is_one, row_shared, of_field}
use denote.Param.Shared.{mut_ref_shared}
use denote.RattleType.{RattleType}
use denote.Ref.{NamedLft, MutBor, MutRef, mut_vals, mut_Tells}
use denote.Signature.{plain, named_lft}
use denote.Steps.{heard, nothing, only, peeks}
use denote.Struct.Field.{mut_ref_field}
use denote.Struct.Laws.{mut_ref_laws}
use denote.Struct.Tuple.{Tuple, tuple_laws}
use denote.Triple.Call.{calls_at}
use denote.Triple.Clauses.{Ended, Clauses, closing}
use denote.Triple.Entry.{on_entry}
use denote.Triple.Spec.{Meets, triple_of}
use denote.Triple.Table.{entered, framed}
use denote.Triple.Walked.{Stays, stay_dropped, walk_of, ends_at, walked, Goes-spent_ref, walk_Meets}
use Rattle.std.specs.contracts.option.Option as OP
use Rattle.std.proofs.option.Option.TheLaws.{the_row_laws as option_laws}
use Rattle.std.specs.Prelude.{◌↔◌, None, Some, IsSome, IfSome, IfNone, OnSome}
use Rattle.std.specs.Borrow.{RestsIfNone}
use Rattle.entry_guard.specs.declared.doors.Door as Door
use Rattle.entry_guard.specs.contracts.guards.EntryGuard as Guard
use Rattle.entry_guard.proofs.guards.EntryGuard.TheLaws.{the_row_laws as guard_laws}
use Rattle.entry_guard.specs.Doors.{IsInsideWith}
use Rattle.entry_guard.specs.Guards.{door_of, lender_of, guard_ticket}
use Rattle.entry_guard.specs.contracts.guards.EntryGuard.guard_or_door as g
use Rattle.entry_guard.proofs.guards.EntryGuard.guard_or_door.Met.{met}
use Rattle.entry_guard.proofs.guards.EntryGuard.guard_or_door.Symbol as callee
use Rattle.entry_guard.specs.contracts.guards.EntryGuard.enter as f
use Rattle.entry_guard.specs.contracts.guards.EntryGuard.enter.Key as key
use Rattle.entry_guard.proofs.guards.EntryGuard.enter.Statement.{statement}
use Rattle.entry_guard.proofs.guards.EntryGuard.enter.Code as code

-- the one machine value of a type that has one
one_of : (τ : Ty) (vs : List Val) → Typed (τ ∷ []) vs → (v : Val) × (vs ≡ v ∷ []) × (T (has_ty τ v) × WT v)
one_of τ [] t = absurd t
one_of τ (v ∷ []) t = (v, refl, t.0)
one_of τ (v ∷ u ∷ vs) t = absurd t.1

module _ (Y : RattleType) (L : Laws Y) (h : Door.Ghosts Y.Denot) (d d' : Dict) {M : Type 1} {𝓤 : Ura M} (𝓛 : Logic 𝓤) (𝓜 : Model 𝓤 𝓛.H) (𝓡 : Running 𝓤 𝓛.H 𝓜) where
  open 𝓛 use {H, A}

  abbrev args : Args
  args = bounded (a_type ∷ []) (Y, tt) (dcons d (dcons d' dnil))

  abbrev function : Fn
  function = inst_fn args code.function

  abbrev R : RattleType
  R = param 0 Y

  abbrev ended : Ended
  ended = f.ended Y h d d'

  abbrev stayed : Stays ended.signature.params ended.kept
  stayed = (stay_dropped (RefMutOf (0 ∷ []) tt (plain (λ _. R)) (λ _. tt)) no, tt)

  abbrev 𝓣 : MachineTables 𝓤 H 𝓜
  𝓣 = tables 𝓤 H 𝓜 𝓡 𝓡.env

  abbrev held : Clauses 𝓤 ended
  held = f.clauses Y h d d' 𝓛 𝓜.mem 𝓡.returns

  module _ (κ κT : Lft) (q qT : Share) (bd : AllOutlive 2 ended.signature.outlives (κ, (κT, tt))) (door : MutBor Y.Denot) where
    abbrev γ : GName
    γ = door.ghost_name

    abbrev a : NamedLft
    a = named_lft 2 0 tt (κ, (κT, tt))

    abbrev Of : RattleType
    Of = Guard.the_row a R

    abbrev Ref : RattleType
    Ref = MutRef (named 0) κ R

    abbrev Guards : RattleType
    Guards = OP.the_row Of

    abbrev Doors : RattleType
    Doors = OP.the_row Ref

    abbrev Pair : RattleType
    Pair = Tuple (Guards ∷ Doors ∷ [])

    abbrev bound : (walk_of 𝓛 ended stayed held).Ghost
    bound = (((κ, (κT, tt)), (q, (qT, tt)), bd, (door, tt), (mut_vals door, tt)), tt)

    abbrev Post : Val → SProp 𝓤
    Post = (walk_of 𝓛 ended stayed held).post bound

    -- what both functions ensure
    abbrev Said : Guards.Denot → Type 0
    Said o = (IsSome o ↔ h.can_enter door.now) × (IfSome o (λ i. lender_of i ≡ γ)) × (IfSome o (λ i. h.enters door.now (door_of i))) × (IfSome o (λ i. h.is_inside (door_of i) ≡ true)) × (IfSome o (λ i. h.ticket_of door.now ≡ Some (guard_ticket i))) × (IfSome o (λ i. IsInsideWith (guard_ticket i) (h.is_inside (door_of i)) (h.ticket_of (door_of i))))

    abbrev Rests : Guards.Denot → Fml
    Rests o = RestsIfNone R door lender_of o (λ last. last ≡ door.now)

    -- the return
    leaves : (v : Val) (o : Guards.Denot) → Said o → ent 𝓤 (⋆ 𝓛 (‵ (Guards.own_val o (v ∷ [])) ∷ ‵ (flft κ q) ∷ ‵ (flft κT qT) ∷ ‵ (Rests o) ∷ [])) (Post v)
    leaves v o said =
        qed 𝓛 (‵ (Guards.own_val o (v ∷ [])) ∷ ‵ (flft κ q) ∷ ‵ (flft κT qT) ∷ ‵ (Rests o) ∷ []) ∵
        suffices ! _ (ends_at 𝓛 ended stayed held bound v o (tt, tt) (tt, tt)) $
        nothing ! $ nothing ! $ fjoin ! $ join ! $ nothing ! $ move ! (2 ∷ 3 ∷ 0 ∷ []) $ group ! 3 $ join ! $ frame ! $
        use0 𝓛 (raw (fact 𝓤 _)) (fact_i 𝓤 _ (emp 𝓤) said.5) $ use0 𝓛 (raw (fact 𝓤 _)) (fact_i 𝓤 _ (emp 𝓤) said.4) $ join ! $ use0 𝓛 (raw (fact 𝓤 _)) (fact_i 𝓤 _ (emp 𝓤) said.3) $ join ! $ use0 𝓛 (raw (fact 𝓤 _)) (fact_i 𝓤 _ (emp 𝓤) said.2) $ join ! $
        use0 𝓛 (raw (fact 𝓤 _)) (fact_i 𝓤 _ (emp 𝓤) said.1) $ join ! $ use0 𝓛 (raw (fact 𝓤 _)) (fact_i 𝓤 _ (emp 𝓤) said.0) $ join ! $ move ! (1 ∷ 0 ∷ []) $ join ! $ done !

    -- a borrow follows itself
    itself : ent 𝓤 (emp 𝓤) (sem 𝓛 (follows R R γ γ (λ w. w)))
    itself =
        let From : R.Denot → R.Denot → Fml = λ z w. fsep (feq R.Denot z w) (fauth γ (R.coded.code w)) in
        let said = qed 𝓛 [] ∵ each ! (λ (w : R.Denot). wand 𝓤 (A.res γ (R.coded.code w)) (A.res γ (R.coded.code w))) (λ w. assume ! (‵ (fres γ (R.coded.code w))) $ done !) in
        let back = qed 𝓛 [] ∵ each ! (λ (z : R.Denot). wand 𝓤 (A.auth γ (R.coded.code z)) (sem 𝓛 (fex R.Denot (From z)))) (λ z. assume ! (‵ (fauth γ (R.coded.code z))) $
        feq_i ! R.Denot z z refl $ fjoin ! $ fpack ! R.Denot (From z) z $ done !) in
        record { apply = λ r p. (said.apply r p, back.apply r p) }

    -- a function and a value that meet the clause's facts
    met_by : (m : maybe.Option GName) (P : R.Denot → R.Denot → Type 0) (P₀ : R.Denot → Type 0) (F : R.Denot → R.Denot) (v : R.Denot) → ((w : R.Denot) → P w (F w)) → P₀ v
        → ent 𝓤 (sem 𝓛 (follows_if R R γ m F v)) (sem 𝓛 (follows_so R R γ m P P₀))
    unfolding such_by
    met_by m P P₀ F v p p₀ = ex_i 𝓤 (λ (y : (s : (R.Denot → R.Denot) × R.Denot) × ((w : R.Denot) → P w (s.0 w)) × P₀ s.1). sem 𝓛 (follows_if R R γ m y.0.0 y.0.1)) ((F, v), p, p₀)

    -- with a guard the door ends as the guard leaves it
    with_guard : (i : Of.Denot) → lender_of i ≡ γ → ent 𝓤 (emp 𝓤) (sem 𝓛 (Rests (Some i)))
    unfolding follows_by
    with_guard i same =
        via 𝓤 (sem 𝓛 (follows R R γ (lender_of i) (λ w. w))) (subst (λ (δ : GName). ent 𝓤 (emp 𝓤) (sem 𝓛 (follows R R γ δ (λ w. w)))) (sym same) itself)
        (met_by (maybe.some (lender_of i)) (λ w n. OnSome (Some i) (n ≡ w)) (λ n. IfNone (Some i) (n ≡ door.now)) (λ w. w) door.now (λ w. refl) tt)

    -- with none it ends as it began
    with_none : ent 𝓤 (A.res γ (R.coded.code door.now)) (sem 𝓛 (Rests None))
    unfolding follows_by
    with_none = met_by maybe.none (λ w n. OnSome {T = Of.Denot} None (n ≡ w)) (λ n. IfNone {T = Of.Denot} None (n ≡ door.now)) (λ w. w) door.now (λ w. tt) refl

    -- the pair is taken apart, and the door that came back is let go
    ends : (o : Guards.Denot) (p : Doors.Denot) (v : Val) (us : List Val) → Said o → IfNone o (p ≡ Some door)
        → ent 𝓤 (⋆ 𝓛 (‵ (Guards.own_val o (v ∷ [])) ∷ ‵ (Doors.own_val p us) ∷ ‵ (flft κ q) ∷ ‵ (flft κT qT) ∷ [])) (Post v)
    ends (Some i) p v us said back =
        qed 𝓛 (‵ (Guards.own_val (Some i) (v ∷ [])) ∷ ‵ (Doors.own_val p us) ∷ ‵ (flft κ q) ∷ ‵ (flft κT qT) ∷ []) ∵
        move ! (1 ∷ []) $ drop ! $ use0 𝓛 (‵ (Rests (Some i))) (with_guard i said.1) $ move ! (1 ∷ 2 ∷ 3 ∷ 0 ∷ []) $ by ! (leaves v (Some i) said)
    ends None p v us said back =
        qed 𝓛 (‵ (Guards.own_val None (v ∷ [])) ∷ ‵ (Doors.own_val p us) ∷ ‵ (flft κ q) ∷ ‵ (flft κT qT) ∷ []) ∵
        rewrite ! 1 (λ (x : Doors.Denot). ‵ (Doors.own_val x us)) back refl $ move ! (1 ∷ []) $
        fpick ! (λ ws. fsplit ! $ feq_l ! (λ _. fpick ! (λ vss. fsplit ! $ feq_l ! (λ _. fsplit ! $ move ! (1 ∷ []) $ drop ! $ fsplit3 ! $ drop ! $ move ! (1 ∷ []) $ drop ! $
        use1 𝓛 (‵ (fres γ (R.coded.code door.now))) (𝓛.names.obs-res γ (R.coded.code door.now)) $ use1 𝓛 (‵ (Rests None)) with_none $ move ! (1 ∷ 2 ∷ 3 ∷ 0 ∷ []) $ by ! (leaves v None said)))))

    -- the body
    walk : Meets 𝓛 (g.signature Y) (𝓡.run (𝓡.env (callee.name args))) (g.spec Y h d d' 𝓛 𝓜.mem 𝓡.returns)
        → ent 𝓤 (sep 𝓤 (on_entry 𝓛 ended.signature (κ, (κT, tt)) (q, (qT, tt)) (door, tt) (mut_vals door, tt)) ((held (κ, (κT, tt)) (door, tt)).requires tt)) (WpFn 𝓤 H 𝓣.C 𝓣.Λ function (mut_vals door) Post)
    walk met_at =
        let c = triple_of 𝓛 (g.signature Y) (g.spec Y h d d' 𝓛 𝓜.mem 𝓡.returns) in
        let z : c.Ghost = (((κ, (κT, tt)), (q, (qT, tt)), bd, (door, tt), (mut_vals door, tt)), tt) in
        let LR : Laws R = param_laws 0 Y L in
        let of_ref : Laws Ref = of_field (mut_ref_field a R (is_one R LR)) (mut_ref_laws a R (is_one R LR)) refl (mut_ref_shared a R (is_one R LR) (row_shared R LR)) in
        let of_guards : Laws Guards = option_laws Of (guard_laws a R LR) in
        let of_doors : Laws Doors = option_laws Ref of_ref in
        let of_pair : Laws Pair = tuple_laws (Guards ∷ Doors ∷ []) (of_guards, (of_doors, tt)) in
        qed 𝓛 (raw (c.pre z) ∷ []) ∵ enter ! 𝓣.C 𝓣.Λ function (mut_vals door) Post $ alloc_all ! (λ l. pass_all ! refl ((tt, tt), tt) $
        sets ! (addr ! (through ! refl (stop !))) refl (tt, tt) $
        calls_at ! (framed 𝓤 H 𝓜 𝓣) c met_at z (and_then ! (get ! refl) (no_more !)) (λ got.
        use1 𝓛 (later (some (λ (r : Pair.Denot). ((‵ (flft κ q) ⊛ ‵ (flft κT qT) ⊛ ‵ ftrue) ⊛ ‵ (Pair.own_val r (got ∷ []))) ⊛ some (λ (ws : Unit {0} × Unit {0}). ‵ (fsep ftrue ftrue)
        ⊛ raw (fact 𝓤 (IsSome r.0 ↔ h.can_enter door.now)) ⊛ raw (fact 𝓤 (IfSome r.0 (λ i. lender_of i ≡ γ))) ⊛ raw (fact 𝓤 (IfSome r.0 (λ i. h.enters door.now (door_of i)))) ⊛ raw (fact 𝓤 (IfSome r.0 (λ i. h.is_inside (door_of i) ≡ true)))
        ⊛ raw (fact 𝓤 (IfSome r.0 (λ i. h.ticket_of door.now ≡ Some (guard_ticket i)))) ⊛ raw (fact 𝓤 (IfSome r.0 (λ i. IsInsideWith (guard_ticket i) (h.is_inside (door_of i)) (h.ticket_of (door_of i))))) ⊛ raw (fact 𝓤 (IfNone r.0 (r.1 ≡ Some door))))))) (id⊢ 𝓤 (c.post z got)) $
        await ! tt $ pick ! (λ r. split ! $ move ! (1 ∷ []) $ pick ! (λ ws. split ! $ drop ! $
        split ! $ heard ! _ (λ entered. split ! $ heard ! _ (λ same. split ! $ heard ! _ (λ enters. split ! $ heard ! _ (λ inside. split ! $ heard ! _ (λ ticket. split ! $ heard ! _ (λ within. heard ! _ (λ back.
        split ! $ split3 ! $ move ! (3 ∷ 0 ∷ 1 ∷ []) $
        -- [the pair; the two tokens]
        peeks ! Pair (Is Pair) (shows 𝓛 Pair) r (got ∷ []) (λ is. let good = ((of_pair.lawful 𝓛).typed r (got ∷ []) is).0 in
        fpick ! (λ vss. fsplit ! $ feq_l ! (λ e. fsplit ! $
        peeks ! Guards (Is Guards) (shows 𝓛 Guards) r.0 vss.0 (λ is_guard. let v = one_of (lone Guards.mir) vss.0 ((of_guards.lawful 𝓛).typed r.0 vss.0 is_guard) in
        move ! (1 ∷ []) $ fsplit ! $ peeks ! Doors (Is Doors) (shows 𝓛 Doors) r.1 vss.1.0 (λ is_door. let u = one_of (lone Doors.mir) vss.1.0 ((of_doors.lawful 𝓛).typed r.1 vss.1.0 is_door) in
        let is_pair : got ≡ vstruct (vcons v.0 (vcons u.0 vnil)) = ap only e ∙ ap (λ (ws : List Val). vstruct (of_list (ws ++ (vss.1.0 ++ [])))) v.1 ∙ ap (λ (ws : List Val). vstruct (of_list (v.0 ∷ (ws ++ [])))) u.1 in
        lands_as ! is_pair refl (subst (λ (x : Val). T (has_ty (lone Pair.mir) x) × WT x) is_pair good) $
        sets ! (of_opd ! (get_in ! (fld ! refl (stop !)) (sub ! 0 refl (whole !)))) refl v.2 $
        returns ! (look_at ! 0 refl) $ free_all ! refl $
        rewrite ! 2 (λ (ws : List Val). ‵ (Guards.own_val r.0 ws)) v.1 refl $ keep ! (2 ∷ 0 ∷ 3 ∷ 4 ∷ []) $ by ! (ends r.0 r.1 v.0 vss.1.0 (entered, same, enters, inside, ticket, within) back)
        ))))))))))))))))

  meets : Meets 𝓛 (g.signature Y) (𝓡.run (𝓡.env (callee.name args))) (g.spec Y h d d' 𝓛 𝓜.mem 𝓡.returns) → Meets 𝓛 ended.signature (WpFn 𝓤 H 𝓣.C 𝓣.Λ function) (closing 𝓛 ended held)
  unfolding tables_of contract.CodeStep.c_Tables
  meets met_at =
      walk_Meets 𝓛 ended stayed (Goes-spent_ref 𝓛 2 (0 ∷ []) tt (plain (λ _. R)), tt) held (WpFn 𝓤 H 𝓣.C 𝓣.Λ function) (WpFn-mono 𝓤 H 𝓛.laws (tables_of 𝓤 H 𝓜 𝓣) function)
      (walked 𝓛 ended stayed held (WpFn 𝓤 H 𝓣.C 𝓣.Λ function) (λ κs. (mut_vals, tt)) (λ κs. (mut_Tells (named 0) κs.0 R, tt))
      (λ κs qs bounds a _ are. walk κs.0 κs.1.0 qs.0 qs.1.0 bounds a.0 met_at))

pub enter_spec : {M : Type 1} → statement M
enter_spec 𝓤 𝓛 𝓜 𝓡 wired Y L h d d' opens glue = let 𝓣 = tables 𝓤 𝓛.H 𝓜 𝓡 𝓡.env in
    entered 𝓤 𝓛.H (triple_of 𝓛 (f.signature Y) (f.spec Y h d d' 𝓛 𝓜.mem 𝓡.returns)) 𝓣.C 𝓣.Λ (key.name (args Y L h d d' 𝓛 𝓜 𝓡)) (function Y L h d d' 𝓛 𝓜 𝓡) (code.unfolded 𝓤 𝓛.H 𝓜 𝓡 wired (Y, tt) d d')
    (meets Y L h d d' 𝓛 𝓜 𝓡 (met 𝓤 𝓛 𝓜 𝓡 (code.calls-entry_guard::guards::EntryGuard::guard_or_door 𝓡.env wired) Y L h d d' opens glue))
