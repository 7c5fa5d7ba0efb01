-- The code of each handle's `init` makes a handle in C's memory. It cuts the room in two: it writes
-- what the handle owns to the second part, and the handle, which points to it, to the first.
use Rattle.{std.proofs.{Common.{◌≡◌, ℕ, ◌+◌, List, [], ◌∷◌, refl, sym, subst}, VecSteps.Shapes.{after}, raw_atomic.Walks.{proved}}, dgt_c.proofs.HandleRow.{Handle, code_of, handle_row, handle_type}}
use native.Mathlib.Nat.{add-zero}
use seplogic.Ra.Ura.{Ura}
use base.{Fraction.{full_share}, Logic.{emp, wand, id⊢}, Fml.{ftrue, froom}}
use mir.Syntax.{Fn, Callee, Sym, Ty, Tys, ty_unit, ty_ptr, ty_struct, tcons, tnil, local, value_local, place, deref, field, copy, opd_unit, rv_opd, addr_of, aggregate, call, seq, assign, block}
use mir.{Syntax.{return}, Val.{Val, vunit, vptr, vstruct, vcons, vnil}}
use prog.{Memory.{align, up}, Model.{Model, rooms_at}, Wp.{Closed, WpFn}}
use contract.{Monad.{fact}, Running.{Running, tables}}
use types.{Logic.{Logic, sem}, Kit.{‵, raw, ◌⊛◌, some, later, prop, at_ret, ◌$◌, ◌∵◌, !, qed, done, move, drop, use1, use2, split, join, fjoin, fpack, feq_i, pick, await, rewrite, regoal, suffices}}
use types.{Kit.{group}, Part.{agg}, Run.{enter, of_opd, unit_lit, addr, init, stop, fld, no_more, and_then, assigns, assigns_last, first, blocks, exec, returns}, ByLocal.{alloc_all, pass_all}}
use types.ByLocal.{free_all, look_at, get, through, sets, lands_as, env}
use borrow.Table.OneValue.{part_in}
use denote.{Builtin.{unit}, Exit.{yes}, Laws.{Is, Typed, shows}, Memory.{lone, part_at}, RattleType.{RattleType, Valss}, RawPtr.{Ptr, RawPtr, block_ptr, ◌+ₚ◌, lies_at, room_for, in_a_block}}
use denote.{RawPtr.{rawptr_vals, rawptr_Tells}, Signature.{plain}, Steps.{nothing, heard, peeks}, Struct.{Struct.{within, Struct}, Owning.{shape}}, Triple.{Call.{calls_at}, Clauses.{Clauses, Ended}}}
use denote.Triple.{Clauses.{closing, lasts}, Entry.{on_entry}, Spec.{Meets, triple_of}, Table.{framed}, Walked.{Stays, walk_of, stay_dropped, Goes-dropped, ends_at}}

-- the function that makes the value
module _ (T : RattleType) (x : T.Denot) where
  abbrev pub fresh_ended : Ended
  fresh_ended = record {
    signature = record { lifetimes = 0; outlives = []; params = []; result = plain (λ _. T) };
    kept = tt;
  }

  abbrev pub fresh : {M : Type 1} (𝓤 : Ura M) → Clauses 𝓤 fresh_ended
  fresh 𝓤 κs a =
      record { ghost = Unit {0}; requires = λ _. emp 𝓤; ensures = λ _ r _. fact 𝓤 (r ≡ x) }

module _ (K : Handle) (place_name : Sym) (new : Callee) where
  abbrev T : RattleType
  T = K.inside_row

  abbrev R : RattleType
  R = handle_row K

  abbrev parts : Tys
  parts = tcons ty_ptr (tcons (lone T.mir) tnil)

  abbrev whole : Ty
  whole = ty_struct place_name parts

  -- the place at which the value begins
  abbrev behind : ℕ
  behind = up (align (lone T.mir)) 8

  abbrev pub making : Fn
  making =
      code_of 0 (local ty_unit value_local ∷ local ty_ptr value_local ∷ local ty_ptr value_local
      ∷ local ty_ptr value_local ∷ local (lone T.mir) value_local ∷ local ty_ptr value_local
      ∷ local (lone R.mir) value_local ∷ [])
      (seq (assign (place 2 []) (rv_opd (copy (place 1 []))))
      (seq (block (seq (assign (place 3 []) (addr_of (place 2 (deref whole ∷ field 1 ∷ []))))
      (seq (call new [] (place 4 []))
      (seq (assign (place 3 (deref (lone T.mir) ∷ [])) (rv_opd (copy (place 4 []))))
      (seq (assign (place 5 []) (rv_opd (copy (place 3 []))))
      (seq (assign (place 6 []) (aggregate (copy (place 5 []) ∷ [])))
      (assign (place 1 (deref (lone R.mir) ∷ [])) (rv_opd (copy (place 6 []))))))))))
      (seq (assign (place 0 []) (rv_opd opd_unit)) return)))

  abbrev pub ended : Ended
  ended = record {
    signature = record {
      lifetimes = 0;
      outlives = [];
      params = plain (λ _. RawPtr) ∷ [];
      result = plain (λ _. unit);
    };
    kept = (yes, tt);
  }

  abbrev stayed : Stays ended.signature.params ended.kept
  stayed = (stay_dropped _ yes, tt)

  module _ (x : T.Denot) where
    abbrev new_handle : Ptr → K.D
    new_handle p = K.make (p +ₚ behind) x

    abbrev pub clauses : {M : Type 1} {𝓤 : Ura M} (𝓛 : Logic 𝓤) → Clauses 𝓤 ended
    clauses 𝓛 κs a = record {
      ghost = Unit {0};
      requires = λ _. sem 𝓛 (room_for whole a.0);
      ensures = λ _ _ _. sem 𝓛 (lies_at R full_share a.0 (new_handle a.0));
    }

    pub makes : {M : Type 1} (𝓤 : Ura M) (𝓛 : Logic 𝓤) (𝓜 : Model 𝓤 𝓛.H) (𝓡 : Running 𝓤 𝓛.H 𝓜)
        (k : Callee) → let 𝓣 = tables 𝓤 𝓛.H 𝓜 𝓡 𝓡.env in Closed 𝓤 𝓛.H 𝓣.C 𝓣.Λ k making
        → Meets 𝓛 (fresh_ended T x).signature (𝓣.C new) (closing 𝓛 (fresh_ended T x) (fresh T x 𝓤))
        → Meets 𝓛 ended.signature (𝓣.C k) (closing 𝓛 ended (clauses 𝓛))
    makes 𝓤 𝓛 𝓜 𝓡 k closed known =
        let c = clauses 𝓛 in let W = walk_of 𝓛 ended stayed c in
        let 𝓣 = tables 𝓤 𝓛.H 𝓜 𝓡 𝓡.env in
        proved 𝓛 ended stayed c 𝓜 𝓡
        (Goes-dropped 𝓛 0 (plain (λ _. RawPtr)) yes (λ κs x w. refl), tt) k making closed
        (λ κs. (rawptr_vals, tt)) (λ κs. (rawptr_Tells, tt)) (λ κs qs bounds a n are.
        let y : Ptr → W.Ghost = λ p. ((κs, qs, bounds, (p, tt), (rawptr_vals p, tt)), n) in
        qed 𝓛 (raw (on_entry 𝓛 ended.signature κs qs a (y a.0).0.4) ∷ ‵ (room_for whole a.0) ∷ []) ∵
        drop ! $ in_a_block ! a.0 (λ p. room_for whole p) (id⊢ 𝓤 _) (λ b o e.
        regoal ! (λ p. prop (WpFn 𝓤 𝓛.H 𝓣.C 𝓣.Λ making (rawptr_vals p) (W.post (y p)))) e refl $
        let rooms = rooms_at 𝓤 𝓛.H parts 0 b o in
        use1 𝓛 (raw rooms ⊛ raw (wand 𝓤 rooms (𝓛.H.room whole b o)))
        (𝓛.laws.room_fields _ parts b o) $
        split ! $ move ! (1 ∷ []) $ drop ! $
        use1 𝓛 (‵ (froom ty_ptr b (o + 0)) ⊛ ‵ (froom (lone T.mir) b (o + behind)) ⊛ raw (emp 𝓤))
        (id⊢ 𝓤 _) $
        split ! $ move ! (1 ∷ []) $ split ! $ move ! (1 ∷ []) $ drop ! $
        move ! (1 ∷ 0 ∷ []) $ rewrite ! 0 (λ (d : ℕ). ‵ (froom ty_ptr b d)) (add-zero o) refl $
        use1 𝓛 (‵ (froom (lone R.mir) b o)
        ⊛ raw (wand 𝓤 (𝓛.H.room (lone R.mir) b o) (𝓛.H.room ty_ptr b o)))
        (𝓛.laws.room_as ty_ptr (lone R.mir) b o refl tt) $
        split ! $ move ! (1 ∷ []) $ drop ! $
        -- [room for the handle; room for what is inside]
        enter ! _ _ _ _ _ $ alloc_all ! (λ l. pass_all ! refl ((tt, tt), tt) $
        sets ! (of_opd ! (get ! refl)) refl (tt, tt) $
        first ! $ blocks ! $
        sets ! (addr ! (through ! refl (fld ! refl (stop !)))) refl (tt, tt) $
        let G =
        triple_of 𝓛 (fresh_ended T x).signature (closing 𝓛 (fresh_ended T x) (fresh T x 𝓤)) in
        let z : G.Ghost = ((tt, tt, tt, tt, tt), tt) in
        nothing ! $ nothing ! $ join ! $ nothing ! $ move ! (1 ∷ 0 ∷ []) $ use2 𝓛 (raw (G.pre z))
        (id⊢ 𝓤 _) $ calls_at ! (framed 𝓤 𝓛.H 𝓜 𝓣) G known z (no_more !) (λ v.
        use1 𝓛 (later (some (λ (r : T.Denot). (‵ ftrue ⊛ ‵ (T.own_val r (v ∷ [])))
        ⊛ some (λ (ws : Unit {0}). ‵ (lasts (fresh_ended T x) tt tt ws) ⊛ raw (fact 𝓤 (r ≡ x))))))
        (id⊢ 𝓤 _) $
        await ! tt $ pick ! (λ r. split ! $ split ! $ drop ! $ move ! (1 ∷ []) $
        pick ! (λ ws. split ! $ drop ! $ heard ! (r ≡ x) (λ is_new.
        peeks ! T (Is T) (shows 𝓛 T) r (v ∷ []) (λ is.
        let as_one = subst (λ (τs : List Ty). Typed τs (v ∷ [])) K.laws.one in
        let typed = (as_one ((K.laws.lawful 𝓛).typed r (v ∷ []) is)).0 in
        lands_as ! refl refl typed $
        -- [what is inside; room for the handle; room for what is inside]
        assigns ! (of_opd ! (get ! refl)) (through ! refl (stop !)) (init ! 2 refl typed) $
        move ! (2 ∷ 0 ∷ []) $
        use2 𝓛 (‵ (part_at T full_share r b (o + behind)))
        (part_in 𝓛 T K.laws.one full_share r b (o + behind) v) $
        rewrite ! 0 (λ (d : T.Denot). ‵ (part_at T full_share d b (o + behind))) is_new refl $
        -- [what is inside; room for the handle]
        let k : Ptr = block_ptr b (o + behind) in
        let word : Val = vstruct (vcons (vptr b (o + behind)) vnil) in
        sets ! (of_opd ! (get ! refl)) refl (tt, tt) $
        sets ! (agg ! (and_then ! (get ! refl) (no_more !))) refl (tt, (tt, tt)) $
        assigns_last ! (of_opd ! (get ! refl)) (through ! refl (stop !))
        (init ! 1 refl (tt, (tt, tt))) $ exec ! 𝓣.C 𝓣.Λ (env making.locals l) (after 2 making.body)
        (at_ret _ (W.post (y (block_ptr b o)))) $
        sets ! (of_opd ! (unit_lit !)) refl (tt, tt) $
        returns ! (look_at ! 0 refl) $ free_all ! refl $
        -- [what is inside; the handle's cell]
        let pointer : List Val = vptr b (o + behind) ∷ [] in let cell : List Val = word ∷ [] in
        let made = new_handle (block_ptr b o) in
        rewrite ! 0 (λ (p : Ptr). ‵ (lies_at T full_share p x)) (sym (K.at_is k x)) refl $
        rewrite ! 0 (λ (d : T.Denot). ‵ (lies_at T full_share (K.at made) d))
        (sym (K.inside_is k x)) refl $
        nothing ! $ feq_i ! (List Val) pointer pointer refl $ fjoin ! $
        feq_i ! (List Val) cell cell refl $ fjoin ! $
        fpack ! (Valss (RawPtr ∷ [])) (within (shape (handle_type K)) (k, tt) cell) (pointer, tt) $
        rewrite ! 0 (λ (p : Ptr). ‵ ((Struct (shape (handle_type K))).own_val (p, tt) cell))
        (sym (K.at_is k x)) refl $ fjoin ! $ move ! (1 ∷ 0 ∷ []) $
        use2 𝓛 (‵ (part_at R full_share made b o)) (part_in 𝓛 R refl full_share made b o word) $
        suffices ! _ (ends_at 𝓛 ended stayed c (y (block_ptr b o)) vunit tt (tt, tt) (tt, tt)) $
        feq_i ! _ (vunit ∷ []) _ refl $ nothing ! $ nothing ! $ join ! $ nothing ! $ group ! 3 $
        done !))))))))
