-- A handle of C's as a row: a struct of one pointer, which owns the value there.
use Rattle.std.proofs.Common.{◌≡◌, ℕ, List, [], ◌∷◌, rules}
use base.{Fraction.{full_share}, Shift.{Keyless}, Stored.{Coded}}
use mir.Syntax.{Sym, Fn, Local, Body}
use denote.{Param.{Laws.{Laws}, Send.{IsSend, part_keyless}}, RattleType.{RattleType}, RawPtr.{Ptr, lies_at}, Struct.{Field.{RawPtr-field}, Owning.{Owning, owning, row}}}
use denote.Struct.{Record.{Record, Also, Done}, Values.{Values}}

lies : (R : RattleType) → IsSend R → (p : Ptr) (x : R.Denot) → Keyless (lies_at R full_share p x)
lies R s p x = search (rules, part_keyless)

-- the type of the value, the struct's name, and the record D that contracts see, with its fields
pub record Handle : Type 2 where
  pub inside_row : RattleType
  pub laws : Laws inside_row
  pub name : Sym
  pub D : Type 0
  pub at : D → Ptr
  pub inside : D → inside_row.Denot
  pub make : Ptr → inside_row.Denot → D
  pub made : (d : D) → make (at d) (inside d) ≡ d
  pub at_is : (p : Ptr) (x : inside_row.Denot) → at (make p x) ≡ p
  pub inside_is : (p : Ptr) (x : inside_row.Denot) → inside (make p x) ≡ x
  pub codes : (v : Values (RawPtr-field ∷ [])) → Coded (Also inside_row.Denot (λ _. Done))

-- that of a struct, as contracts see it
abbrev pub handle : (R : RattleType) → Laws R → (N : Record)
    → ((v : Values (RawPtr-field ∷ [])) → Coded (Also R.Denot (λ _. Done))) → (at : N.D → Ptr)
    → (inside : N.D → R.Denot) → (make : Ptr → R.Denot → N.D)
    → ((d : N.D) → make (at d) (inside d) ≡ d) → ((p : Ptr) (x : R.Denot) → at (make p x) ≡ p)
    → ((p : Ptr) (x : R.Denot) → inside (make p x) ≡ x) → Handle
handle R laws N codes at inside make made at_is inside_is = record {
  inside_row = R;
  laws = laws;
  name = N.name;
  D = N.D;
  at = at;
  inside = inside;
  make = make;
  made = made;
  at_is = at_is;
  inside_is = inside_is;
  codes = codes;
}

-- code with one parameter and no type parameters
abbrev pub code_of : ℕ → List Local → Body → Fn
code_of lifetimes locals body = record {
  lifetimes = lifetimes;
  outlives = [];
  ty_params = [];
  givens = 0;
  params = 1;
  locals = locals;
  body = body;
}

module _ (K : Handle) where
  abbrev struct : Record
  struct = record {
    name = K.name;
    args = [];
    types = [];
    parts = RawPtr-field ∷ [];
    D = K.D;
    as_values = λ d. (K.at d, tt);
    Ghost = λ v. Also K.inside_row.Denot (λ _. Done);
    ghosts = λ d. (K.inside d, tt);
    make = λ v g. K.make v.0 g.0;
    eta = K.made;
    beta = λ v g i. (K.at_is v.0 g.0 i, tt);
  }

  abbrev pub handle_type : Owning
  handle_type = owning struct K.codes (λ d. lies_at K.inside_row full_share (K.at d) (K.inside d))

  abbrev pub handle_row : RattleType
  handle_row = row handle_type

  -- the handle of the present value
  abbrev pub with_inside : K.D → K.inside_row.Denot → K.D
  with_inside h w = K.make (K.at h) w

  -- it can be sent to another thread if the value can
  pub sends : IsSend K.inside_row → IsSend handle_row
  sends s = search (rules, lies)
