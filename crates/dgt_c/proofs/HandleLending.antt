-- The code of each handle's `get` borrows the value that the handle points to, and the handle
-- follows it.
use Rattle.{std.proofs.{Common.{◌≡◌, ℕ, List, [], ◌∷◌, refl, sym, ap, ◌∙◌}, VecSteps.Shapes.{after}, raw_atomic.Walks.{proved}}, dgt_c.proofs.HandleRow.{Handle, code_of, handle_row, handle_type}}
use Rattle.dgt_c.proofs.HandleRow.{with_inside}
use seplogic.Ra.Ura.{Ura}
use base.{Fraction.{full_share}, Logic.{ent, sep, emp, id⊢}, Fml.{GName, Fml, ftrue, flft, fsep}}
use mir.{Syntax.{Fn, Callee, named, erased, mut, ty_ptr, ty_ref, local, value_local, place, deref, field, copy, rv_opd, addr_of, seq, assign, block, return}, Val.{Val, vptr, vstruct, vcons, vnil}}
use prog.{Model.{Model}, Wp.{Closed}}
use contract.{Monad.{fact}, Running.{Running, tables}}
use types.{Logic.{Logic, sem}, Kit.{‵, raw, ◌⊛◌, some, later, at_ret, ◌$◌, ◌∵◌, !, qed, done, move, keep, drop, use1, split, join, fsplit, fsplit3, fjoin, fpack, pick, await, rewrite, suffices}}
use types.{Kit.{frame, group}, Part.{whole, sub, look_in}, Run.{enter, of_opd, addr, load, stop, fld, first, blocks, exec, returns}, ByLocal.{alloc_all, pass_all, free_all, look_at, get, through}}
use types.ByLocal.{sets, sets_last, env}
use denote.{Exit.{no}, Follow.{follows, Part, lends_Part}, Laws.{shows}, Memory.{mem, cell_at, part_at, part_of, lone, pointee}, RattleType.{RattleType}, RawPtr.{Ptr, block_ptr, ptr_val, lies_at}}
use denote.{RawPtr.{in_a_block}, Ref.{MutBor, MutRef, mut_vals, mut_Tells}, Signature.{plain, mut_ref_to}, Steps.{nothing, opens, peeks}, Struct.{Laws.{RawPtr-laws}, Owning.{shape}}}
use denote.{Struct.{OwningLaws.{Tells-lowered}, Struct.{Struct}}, Triple.{Clauses.{Clauses, Ended, closing}, Spec.{Meets}, Walked.{Stays, walk_of, says, stay_dropped, Goes-spent_ref, ends_at}}}

module _ (K : Handle) where
  abbrev T : RattleType
  T = K.inside_row

  abbrev R : RattleType
  R = handle_row K

  -- the code, its types written out
  abbrev pub lending : Fn
  lending = code_of 1 (local (ty_ref (named 0) mut (pointee T.written)) value_local
      ∷ local (ty_ref (named 0) mut (pointee R.written)) value_local
      ∷ local (ty_ref erased mut (pointee T.written)) value_local
      ∷ local ty_ptr value_local ∷ local ty_ptr value_local ∷ [])
      (seq
      (block
      (seq (assign (place 3 []) (rv_opd (copy (place 1 (deref (lone R.mir) ∷ field 0 ∷ [])))))
      (seq (assign (place 4 []) (rv_opd (copy (place 3 []))))
      (assign (place 2 []) (addr_of (place 4 (deref (lone T.mir) ∷ [])))))))
      (seq (assign (place 0 []) (rv_opd (copy (place 2 [])))) return))

  abbrev pub ended : Ended
  ended = record {
    signature = record {
      lifetimes = 1;
      outlives = [];
      params = mut_ref_to (0 ∷ []) tt (plain (λ _. R)) ∷ [];
      result = mut_ref_to (0 ∷ []) tt (plain (λ _. T));
    };
    kept = (no, tt);
  }

  abbrev stayed : Stays ended.signature.params ended.kept
  stayed = (stay_dropped (mut_ref_to (0 ∷ []) tt (plain (λ _. R))) no, tt)

  abbrev pub clauses : {M : Type 1} {𝓤 : Ura M} (𝓛 : Logic 𝓤) → Clauses 𝓤 ended
  clauses {𝓤 = 𝓤} 𝓛 κs a = record {
    ghost = Unit {0};
    requires = λ _. emp 𝓤;
    ensures = λ _ r _. sep 𝓤
        (sem 𝓛 (follows R T a.0.ghost_name r.ghost_name (with_inside K a.0.now)))
        (fact 𝓤 (r.now ≡ K.inside a.0.now));
  }

  -- what the handle owns in addition to the value
  abbrev Rest : K.D → List Val → ℕ → ℕ → Fml
  Rest h us rb ro = fsep ((Struct (shape (handle_type K))).own_val (K.at h, tt) us)
      (cell_at full_share R.mir us rb ro)

  -- the handle's machine value
  abbrev lowered : Ptr → Val
  lowered p = vstruct (vcons (ptr_val p) vnil)

  module _ {M : Type 1} {𝓤 : Ura M} (𝓛 : Logic 𝓤) where
    back : (h : K.D) (us : List Val) (rb ro b o : ℕ) → K.at h ≡ block_ptr b o → (w : T.Denot)
        → ent 𝓤 (sep 𝓤 (sem 𝓛 ((mem T).own_at w b o)) (sem 𝓛 (Rest h us rb ro)))
        (sem 𝓛 ((mem R).own_at (with_inside K h w) rb ro))
    unfolding part_of
    back h us rb ro b o e w =
        let h' = with_inside K h w in let p = K.at h in let at_is = K.at_is p w in
        let Words = λ (p : Ptr). ‵ ((Struct (shape (handle_type K))).own_val (p, tt) us) in
        qed 𝓛 (‵ (part_at T full_share w b o) ∷ ‵ (Rest h us rb ro) ∷ []) ∵
        rewrite ! 0 (λ (p : Ptr). ‵ (lies_at T full_share p w)) (sym e ∙ sym at_is) refl $
        rewrite ! 0 (λ (x : T.Denot). ‵ (lies_at T full_share (K.at h') x)) (sym (K.inside_is p w))
        refl $ move ! (1 ∷ []) $ fsplit ! $ rewrite ! 0 Words (sym at_is) refl $
        move ! (0 ∷ 2 ∷ []) $ fjoin ! $ move ! (1 ∷ 0 ∷ []) $ fjoin ! $
        fpack ! (List Val) (λ ws. fsep (cell_at full_share R.mir ws rb ro) (R.own_val h' ws)) us $
        done !

  pub lends : {M : Type 1} (𝓤 : Ura M) (𝓛 : Logic 𝓤) (𝓜 : Model 𝓤 𝓛.H) (𝓡 : Running 𝓤 𝓛.H 𝓜)
      (k : Callee) → let 𝓣 = tables 𝓤 𝓛.H 𝓜 𝓡 𝓡.env in Closed 𝓤 𝓛.H 𝓣.C 𝓣.Λ k lending
      → Meets 𝓛 ended.signature (𝓣.C k) (closing 𝓛 ended (clauses 𝓛))
  lends 𝓤 𝓛 𝓜 𝓡 k closed =
      let c = clauses 𝓛 in let W = walk_of 𝓛 ended stayed c in
      let 𝓣 = tables 𝓤 𝓛.H 𝓜 𝓡 𝓡.env in
      proved 𝓛 ended stayed c 𝓜 𝓡 (Goes-spent_ref 𝓛 1 (0 ∷ []) tt (plain (λ _. R)), tt) k lending
      closed
      (λ κs. (mut_vals, tt)) (λ κs. (mut_Tells (named 0) κs.0 R, tt)) (λ κs qs bounds a _ are.
      let κ = κs.0 in let q = qs.0 in let rb = a.0.ref_ptr.0 in let ro = a.0.ref_ptr.1 in
      let γ = a.0.ghost_name in let h = a.0.now in let vs = mut_vals a.0 in
      let F = with_inside K h in
      let y : W.Ghost = ((κs, qs, bounds, a, (vs, tt)), tt) in
      qed 𝓛 (((‵ (flft κ q) ⊛ ‵ ftrue) ⊛ ‵ ((MutRef (named 0) κ R).own_val a.0 vs) ⊛ ‵ ftrue)
      ∷ ‵ ftrue ∷ []) ∵
      split ! $ split ! $ move ! (2 ∷ []) $ split ! $ keep ! (0 ∷ 2 ∷ []) $
      enter ! _ _ _ _ _ $ alloc_all ! (λ l. pass_all ! refl ((tt, tt), tt) $
      fsplit3 ! $ drop ! $ move ! (0 ∷ 1 ∷ 2 ∷ []) $ opens ! tt R rb ro (λ us.
      move ! (1 ∷ []) $ peeks ! R _ (shows 𝓛 R) h us (λ is. fsplit ! $ move ! (1 ∷ []) $
      in_a_block ! (K.at h) (λ p. lies_at T full_share p (K.inside h)) (id⊢ 𝓤 _) (λ b o e.
      let word = Tells-lowered (handle_type K) (RawPtr-laws, tt) h us is
      ∙ ap (λ (p : Ptr). lowered p ∷ []) e in
      let Cell = λ (ws : List Val). ‵ (cell_at full_share R.mir ws rb ro) in
      rewrite ! 2 Cell word refl $
      -- [what is inside; what the fields own; the handle's cell; the open borrow, in three entries]
      first ! $ blocks ! $
      sets ! (of_opd ! (load ! (through ! refl (fld ! refl (stop !)))
      (look_in ! 2 (sub ! 0 refl (whole !))))) refl (tt, tt) $
      sets ! (of_opd ! (get ! refl)) refl (tt, tt) $
      sets_last ! (addr ! (through ! refl (stop !))) refl (tt, tt) $
      exec ! 𝓣.C 𝓣.Λ (env lending.locals l) (after 1 lending.body) (at_ret _ (W.post y)) $
      sets ! (of_opd ! (get ! refl)) refl (tt, tt) $
      rewrite ! 2 Cell (sym word) refl $
      move ! (1 ∷ 2 ∷ []) $ fjoin ! $ move ! (2 ∷ 3 ∷ 4 ∷ 1 ∷ 0 ∷ []) $ group ! 5 $
      let kept = sem 𝓛 (Rest h us rb ro) in let given = back 𝓛 h us rb ro b o e in
      use1 𝓛 (later (some (λ (δ : GName).
      raw (Part 𝓛 R T F (named 0) κ q rb ro b o γ kept given (K.inside h) δ))))
      (lends_Part 𝓛 R T F (named 0) κ q rb ro b o γ kept given
      (R.coded.code h) (R.coded.code h) (K.inside h)) $ await ! tt $ pick ! (λ δ.
      let lent : MutBor T.Denot = record { ref_ptr = (b, o); ghost_name = δ; now = K.inside h } in
      returns ! (look_at ! 0 refl) $ free_all ! refl $ keep ! (0 ∷ []) $
      use1 𝓛 (‵ ((MutRef (named 0) κ T).own_val lent (vptr b o ∷ [])) ⊛ ‵ (flft κ q)
      ⊛ ‵ (follows R T γ δ F)) (id⊢ 𝓤 _) $
      split ! $ move ! (1 ∷ []) $ split ! $ move ! (2 ∷ []) $
      -- [the reference; the token; the handle follows it]
      suffices ! _ (ends_at 𝓛 ended stayed c y (vptr b o) lent (tt, tt) (tt, tt)) $
      nothing ! $ nothing ! $ fjoin ! $ join ! $ nothing ! $
      move ! (2 ∷ 0 ∷ []) $ join ! $ join ! $ frame ! $ says ! refl $ done !))))))
