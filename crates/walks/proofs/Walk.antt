-- What each walk of a function's MIR begins and ends with, as rules of the logic's calculus (types.Kit): a script names only what it is about.
--   meets                 a walk at every choice of lifetimes, shares and arguments is the function's theorem
--   leaves                the function's locals are let go, all at once
--   answers               the end, where the answer is a plain struct and only it is left to be had
--   hands_back            at the end, a struct that was lent by `&mut`: the tokens of both lifetimes, and its borrow at its last value; token_of: one token
--   with_owned, with_uint, with_struct    what a plain value owns is had for nothing, and stands before what the values after it own
--   holds                 room for a struct takes its machine value
--   local_at, field_at    an operand that is a local, or a field of one
--   sets, takes           a local is set, or takes a call's answer
--   calls_on              a call: its contract is met, and its answer is had at the machine value that its type tells, with the fact that it ensures
--   opened, closed        a struct that is lent by `&mut`: its borrow is opened, and closed at another value
--   lends_local, had_back   a local is lent by `&mut` for a call, and had back at the value that the call left; lent_for: the tokens that the call has
use mathlib.Core.Path.{◌≡◌, refl, sym, ap, subst}
use mathlib.Core.Option.{some as Some-of}
use mathlib.Core.List.{List, [], ◌∷◌, ◌++◌, append-nil}
use Prim.Native.Nat.{ℕ, zero, ◌+◌, ◌<◌, ◌^◌}
use lib.ListN.{take}
use seplogic.Ra.Ura.{Ura}
use mir.Syntax.{Width, Ty, Lifetime, Fn, Callee, Place, place, field, Body, seq, assign, call, Rv as RValue, Opd as Operand, copy}
use mir.Val.{Val, bits, vint, vptr}
use base.Fraction.{full_share, left, right}
use base.Logic.{SProp, ent, sep, emp, via, comm∗, assoc∗, assoc', mono_l, mono_r, fst∗, emp∗, id⊢}
use base.Stored.{Gv}
use base.Fml.{Lft, Share, GName, Fml, ftrue, fsep, fat, froom, fdies, flft, fdead, feq, fobs, fauth, fres, fbor, fobor, flent}
use prog.Memory.{field_of}
use prog.Wp.{Env, Calls, Loops, WpFn, Closed, release, spot_of}
use prog.Model.{Model}
use prog.Routine.{Env as Bindings}
use types.Logic.{Logic, sem}
use sound.WpLaws.{FmC, fm_of, WpFn-mono}
use contract.Monad.{fact}
use contract.Running.{Running, tables, tables_of}
use contract.Lifetimes.{Lfts, Shares, AllOutlive}
use types.Kit.{Item, ‵, raw, some, later, ◌⊛◌, mean, ⋆, ⊢++, ++⊢, pop, nth, put, Post, Goal, prop, runs, lands, frees, aim, Soaks, Seq, Step, step, ◌$◌, move, drop, use1, use2, use3, split, join, pick, fsplit, fjoin, fjoin3, feq_i, fpick, fpack, frame, done, await}
use types.Run.{Opd, Opds, Rv, Writes, look, init, stop, fld, from, load, assigns, land}
use types.Part.{Part, look_in}
use types.SemTy.{Body as Borrowed}
use types.Tokens.{lft_new}
use borrow.Within.Token.{Rest, within_token, within_end}
use denote.RattleType.{RattleType, flat, owns}
use denote.Memory.{cell_at, lone, mem, part_of}
use denote.Ref.{MutRef}
use denote.Lend.{lends_ref, ref_back}
use denote.Laws.{Is, Ises, Are, Spells, valss, Tells, Tellss, Makes, shows}
use denote.Plain.{UInt, uint_Makes}
use denote.Signature.{Signature, type_at, types_at}
use denote.Steps.{only, opens, closes, owned, peeks, heard, nothing}
use denote.Struct.Struct.{Plains}
use denote.Struct.Declared.{Declared, fields, row}
use denote.Struct.Laws as LL
use denote.Struct.Steps.{spelt}
use denote.Triple.Entry.{Args, Res, alive, on_entry}
use denote.Triple.Spec.{triple_of}
use denote.Triple.Statement.{Triple}
use denote.Triple.Call.{calls_at}
use denote.Triple.Clauses.{Ended, Clauses, Lasts, lasts, at_exit, closing}
use denote.Triple.Table.{entered}
use denote.Triple.Walked.{Stays, AllGo, walk_of, walked, walk_Meets}

-- ---- from a walk to the theorem

module _ {M : Type 1} {𝓤 : Ura M} (𝓛 : Logic 𝓤) (𝓜 : Model 𝓤 𝓛.H) (𝓡 : Running 𝓤 𝓛.H 𝓜) (γ : Bindings) (k : Callee) (f : Fn)
    (closed : Closed 𝓤 𝓛.H (tables 𝓤 𝓛.H 𝓜 𝓡 γ).C (tables 𝓤 𝓛.H 𝓜 𝓡 γ).Λ k f) (T : Ended) (hs : Stays T.signature.params T.kept) (c : Clauses 𝓤 T) where
  open 𝓛 use {H}

  abbrev S : Signature
  S = T.signature

  abbrev C : Calls 𝓤 H
  C = (tables 𝓤 H 𝓜 𝓡 γ).C

  abbrev Λ : Loops 𝓤 H
  Λ = (tables 𝓤 H 𝓜 𝓡 γ).Λ

  -- gs: each parameter's law at exit; sp, tl: how its machine values are spelled
  pub meets : AllGo 𝓛 S.lifetimes S.params T.kept hs
      → (sp : (κs : Lfts S.lifetimes) → Spells (types_at S.params κs))
      → ((κs : Lfts S.lifetimes) → Tellss (types_at S.params κs) (Ises (types_at S.params κs)) (sp κs))
      → (FmC 𝓤 H 𝓛.laws C → (κs : Lfts S.lifetimes) (qs : Shares S.lifetimes) (bounds : AllOutlive S.lifetimes S.outlives κs) (a : Args S κs) (g : (c κs a).ghost)
      → Are (types_at S.params κs) (Ises (types_at S.params κs)) a (valss (types_at S.params κs) (sp κs) a)
      → ent 𝓤 (on_entry 𝓛 S κs qs a (valss (types_at S.params κs) (sp κs) a))
      (WpFn 𝓤 H C Λ f (flat (types_at S.params κs) (valss (types_at S.params κs) (sp κs) a)) ((walk_of 𝓛 T hs c).post ((κs, qs, bounds, a, valss (types_at S.params κs) (sp κs) a), g))))
      → Triple 𝓤 (C k) (triple_of 𝓛 S (closing 𝓛 T c))
  unfolding tables_of
  meets gs sp tl walk =
      let 𝓣 = tables_of 𝓤 H 𝓜 (tables 𝓤 H 𝓜 𝓡 γ) in
      entered 𝓤 H (triple_of 𝓛 S (closing 𝓛 T c)) C Λ k f closed
      (walk_Meets 𝓛 T hs gs c (WpFn 𝓤 H C Λ f) (WpFn-mono 𝓤 H 𝓛.laws 𝓣 f)
      (walked 𝓛 T hs c (WpFn 𝓤 H C Λ f) sp tl
      (λ κs qs bounds a g are. via 𝓤 _ (fst∗ 𝓤 _ ((c κs a).requires g)) (walk (fm_of 𝓤 H 𝓛.laws 𝓣) κs qs bounds a g are))))

-- ---- the locals at the end

module _ {M : Type 1} {𝓤 : Ura M} (𝓛 : Logic 𝓤) where
  -- the locals E, in the order in which the context has them, the last first: each holds a value, and its end is still to come
  open 𝓛 use {H}

  abbrev pub held_onto : Env 𝓤 H → List Val → List (Item 𝓤) → List (Item 𝓤)
  held_onto [] vs Δ = Δ
  held_onto (e ∷ E) [] Δ = held_onto E [] (‵ (froom e.0 e.1 zero) ∷ ‵ (fdies e.0 e.1) ∷ Δ)
  held_onto (e ∷ E) (v ∷ vs) Δ = held_onto E vs (‵ (fat full_share e.0 e.1 zero v) ∷ ‵ (fdies e.0 e.1) ∷ Δ)

  -- what is let go first may be let go last
  release_swap : (E : Env 𝓤 H) (X P : SProp 𝓤) → ent 𝓤 (release 𝓤 H E (sep 𝓤 X P)) (sep 𝓤 X (release 𝓤 H E P))
  release_swap [] X P = id⊢ 𝓤 (sep 𝓤 X P)
  release_swap (e ∷ E) X P =
      let L : SProp 𝓤 = sep 𝓤 (H.room e.0 e.1 zero) (H.dies e.0 e.1) in
      via 𝓤 (sep 𝓤 L (sep 𝓤 X (release 𝓤 H E P))) (mono_r 𝓤 L (release_swap E X P))
      (via 𝓤 (sep 𝓤 (sep 𝓤 L X) (release 𝓤 H E P)) (assoc' 𝓤 L X (release 𝓤 H E P))
      (via 𝓤 (sep 𝓤 (sep 𝓤 X L) (release 𝓤 H E P)) (mono_l 𝓤 (release 𝓤 H E P) (comm∗ 𝓤 L X)) (assoc∗ 𝓤 X L (release 𝓤 H E P))))

  module _ (Φ : List (Item 𝓤)) where
    -- one local, whose cell is i
    one_freed : (τ : Ty) (b : ℕ) (i : Item 𝓤) (Δ : List (Item 𝓤)) (P : SProp 𝓤) → ent 𝓤 (mean 𝓛 i) (H.room τ b zero) → ent 𝓤 (⋆ 𝓛 (Φ ++ Δ)) P
        → ent 𝓤 (⋆ 𝓛 (Φ ++ (i ∷ ‵ (fdies τ b) ∷ Δ))) (sep 𝓤 (sep 𝓤 (H.room τ b zero) (H.dies τ b)) P)
    one_freed τ b i Δ P into h =
        let F : SProp 𝓤 = ⋆ 𝓛 Φ in
        let I : SProp 𝓤 = mean 𝓛 i in
        let D : SProp 𝓤 = H.dies τ b in
        let R : SProp 𝓤 = ⋆ 𝓛 Δ in
        via 𝓤 (sep 𝓤 F (sep 𝓤 I (⋆ 𝓛 (‵ (fdies τ b) ∷ Δ)))) (⊢++ 𝓛 Φ (i ∷ ‵ (fdies τ b) ∷ Δ))
        (via 𝓤 (sep 𝓤 F (sep 𝓤 I (sep 𝓤 D R))) (mono_r 𝓤 F (mono_r 𝓤 I (pop 𝓛 (‵ (fdies τ b)) Δ)))
        (via 𝓤 (sep 𝓤 F (sep 𝓤 (sep 𝓤 I D) R)) (mono_r 𝓤 F (assoc' 𝓤 I D R))
        (via 𝓤 (sep 𝓤 (sep 𝓤 F (sep 𝓤 I D)) R) (assoc' 𝓤 F (sep 𝓤 I D) R)
        (via 𝓤 (sep 𝓤 (sep 𝓤 (sep 𝓤 I D) F) R) (mono_l 𝓤 R (comm∗ 𝓤 F (sep 𝓤 I D)))
        (via 𝓤 (sep 𝓤 (sep 𝓤 I D) (sep 𝓤 F R)) (assoc∗ 𝓤 (sep 𝓤 I D) F R)
        (via 𝓤 (sep 𝓤 (sep 𝓤 (H.room τ b zero) D) (sep 𝓤 F R)) (mono_l 𝓤 (sep 𝓤 F R) (mono_l 𝓤 D into))
        (mono_r 𝓤 (sep 𝓤 (H.room τ b zero) D) (via 𝓤 (⋆ 𝓛 (Φ ++ Δ)) (++⊢ 𝓛 Φ Δ) h))))))))

    all_freed : (E : Env 𝓤 H) (vs : List Val) (Δ : List (Item 𝓤)) (P : SProp 𝓤) → ent 𝓤 (⋆ 𝓛 (Φ ++ Δ)) P → ent 𝓤 (⋆ 𝓛 (Φ ++ held_onto E vs Δ)) (release 𝓤 H E P)
    all_freed [] vs Δ P h = h
    all_freed (e ∷ E) [] Δ P h =
        let L : SProp 𝓤 = sep 𝓤 (H.room e.0 e.1 zero) (H.dies e.0 e.1) in
        via 𝓤 (release 𝓤 H E (sep 𝓤 L P))
        (all_freed E [] (‵ (froom e.0 e.1 zero) ∷ ‵ (fdies e.0 e.1) ∷ Δ) (sep 𝓤 L P) (one_freed e.0 e.1 (‵ (froom e.0 e.1 zero)) Δ P (id⊢ 𝓤 _) h))
        (release_swap E L P)
    all_freed (e ∷ E) (v ∷ vs) Δ P h =
        let L : SProp 𝓤 = sep 𝓤 (H.room e.0 e.1 zero) (H.dies e.0 e.1) in
        via 𝓤 (release 𝓤 H E (sep 𝓤 L P))
        (all_freed E vs (‵ (fat full_share e.0 e.1 zero v) ∷ ‵ (fdies e.0 e.1) ∷ Δ) (sep 𝓤 L P)
        (one_freed e.0 e.1 (‵ (fat full_share e.0 e.1 zero v)) Δ P (𝓛.laws.at_room e.0 e.1 zero v) h))
        (release_swap E L P)

-- the token of a function with one lifetime
abbrev pub token_of : {M : Type 1} {𝓤 : Ura M} → Lft → Share → Item 𝓤
token_of κ q = ‵ (flft κ q) ⊛ ‵ ftrue

-- the tokens of a callee with two lifetimes: that of a loan within κ, and κ
abbrev pub lent_for : {M : Type 1} {𝓤 : Ura M} → Lft → Share → ℕ → Item 𝓤
lent_for κ q α = ‵ (flft (α ∷ κ) (left q)) ⊛ ‵ (flft κ (right q)) ⊛ ‵ ftrue

module _ {M : Type 1} {𝓤 : Ura M} {𝓛 : Logic 𝓤} {K : Type 0} where
  -- P is what the parameters leave
  pub answers : K → (D : Declared) → Plains (fields D) → (x : D.D) (vs : List Val) {P : Fml} → Is (row D) x vs → Seq K 𝓛 (‵ P ∷ []) (prop (⋆ 𝓛 (‵ P ∷ ‵ ((row D).own_val x vs) ∷ [])))
  answers t D plain x vs is = owned t (row D) (Is (row D)) (LL.makes D plain 𝓛) x vs is $ move t (1 ∷ 0 ∷ []) $ done t

module _ {M : Type 1} {𝓤 : Ura M} {𝓛 : Logic 𝓤} {K : Type 0} {Γ : List (Item 𝓤)} where
  -- the reference is vs; O, B and F are the last value, the borrow and the token of its lifetime, and T the other token
  open 𝓛 use {H}

  pub hands_back : K → (vs : List Val) {O B F : Fml} {T : Item 𝓤} {P : SProp 𝓤}
      → Step K 𝓛 (‵ (fsep (feq (List Val) vs vs) (fsep O B)) ∷ Γ) (prop P) (‵ O ∷ ‵ B ∷ ‵ F ∷ T ∷ Γ) (prop (sep 𝓤 (mean 𝓛 (‵ F ⊛ T)) P))
  hands_back t vs = step (λ s. move t (2 ∷ 3 ∷ []) $ join t $ frame t $ feq_i t (List Val) vs vs refl $ fjoin3 t $ s)

  -- n entries stand before the locals, which hold the values vs: `_` for each of them
  pub leaves : K → (n : ℕ) (vs : List Val) {E : Env 𝓤 H} {g : Goal 𝓤 H} → Γ ≡ take n Γ ++ held_onto 𝓛 E vs [] → Step K 𝓛 (take n Γ) g Γ (frees E g)
  leaves t n vs {E} {g} e = step (λ s. record {
    prf = subst (λ (Δ : List (Item 𝓤)). ent 𝓤 (⋆ 𝓛 Δ) (release 𝓤 H E (aim 𝓤 H g))) (sym e)
        (all_freed 𝓛 (take n Γ) E vs [] (aim 𝓤 H g) (subst (λ (Δ : List (Item 𝓤)). ent 𝓤 (⋆ 𝓛 Δ) (aim 𝓤 H g)) (sym (append-nil (take n Γ))) s.prf));
  })

  -- ---- what values own

  module _ {G : Goal 𝓤 H} where
    pub with_owned : K → (R : RattleType) → Makes 𝓛 R (Is R) → (x : R.Denot) (vs : List Val) {P : Fml} → Is R x vs → Step K 𝓛 (‵ (fsep (R.own_val x vs) P) ∷ Γ) G (‵ P ∷ Γ) G
    with_owned t R makes x vs is = step (λ s. owned t R (Is R) makes x vs is $ fjoin t $ s)

    pub with_uint : K → (w : Width) (n : ℕ) {P : Fml} → n < 2 ^ bits w → Step K 𝓛 (‵ (fsep ((UInt w).own_val n (vint w n ∷ [])) P) ∷ Γ) G (‵ P ∷ Γ) G
    with_uint t w n fits = with_owned t (UInt w) (uint_Makes 𝓛 w) n (vint w n ∷ []) (refl, fits)

    pub with_struct : K → (D : Declared) → Plains (fields D) → (x : D.D) (vs : List Val) {P : Fml} → Is (row D) x vs → Step K 𝓛 (‵ (fsep ((row D).own_val x vs) P) ∷ Γ) G (‵ P ∷ Γ) G
    with_struct t D plain x vs is = with_owned t (row D) (LL.makes D plain 𝓛) x vs is

  -- ---- locals that hold structs

  -- room at the entry n for a struct x of the type D
  pub holds : K → (n : ℕ) (D : Declared) (L : LL.Laws D) (x : D.D) {b o : ℕ} → nth 𝓛 n Γ ≡ ‵ (froom (lone (row D).mir) b o) → Is (row D) x (LL.vals D L x)
      → Writes K 𝓛 Γ (lone (row D).mir) b o (LL.val D L x) (put 𝓛 n (‵ (fat full_share (lone (row D).mir) b o (LL.val D L x))) Γ)
  holds t n D L x e is = init t n e ((LL.lawful D L 𝓛).typed x (LL.vals D L x) is).0

  module _ {E : Env 𝓤 H} where
    -- a local, by the entry n that is its cell
    pub local_at : K → (n : ℕ) {i : ℕ} {s : Share} {v : Val} → nth 𝓛 n Γ ≡ ‵ (fat s (spot_of 𝓤 H E i).0 (spot_of 𝓤 H E i).1 (spot_of 𝓤 H E i).2 v) → Opd K 𝓛 Γ E (copy (place i [])) v
    local_at t n e = load t (from t (stop t)) (look t n e)

    -- a field of it
    pub field_at : K → (n : ℕ) {i k d : ℕ} {τ : Ty} {s : Share} {v : Val} {back : Val → Item 𝓤} → field_of (spot_of 𝓤 H E i).0 k ≡ Some-of (τ, d)
        → Part K 𝓛 (nth 𝓛 n Γ) s τ (spot_of 𝓤 H E i).1 ((spot_of 𝓤 H E i).2 + d) v back → Opd K 𝓛 Γ E (copy (place i (field k ∷ []))) v
    field_at t n e p = load t (from t (fld t e (stop t))) (look_in t n p)

    module _ {C : Calls 𝓤 H} {Λ : Loops 𝓤 H} {q : Post 𝓤 H} where
      -- it is set
      pub sets : K → {i : ℕ} {rv : RValue} {rest : Body} {v : Val} {Γ' : List (Item 𝓤)} → Rv K 𝓛 Γ E rv v → Writes K 𝓛 Γ (spot_of 𝓤 H E i).0 (spot_of 𝓤 H E i).1 (spot_of 𝓤 H E i).2 v Γ'
          → Step K 𝓛 Γ' (runs C Λ E rest q) Γ (runs C Λ E (seq (assign (place i []) rv) rest) q)
      sets t r w = assigns t r (from t (stop t)) w

      -- it takes a call's answer
      pub takes : K → {i : ℕ} {v : Val} {rest : Body} {Γ' : List (Item 𝓤)} → Writes K 𝓛 Γ (spot_of 𝓤 H E i).0 (spot_of 𝓤 H E i).1 (spot_of 𝓤 H E i).2 v Γ'
          → Step K 𝓛 Γ' (runs C Λ E rest q) Γ (lands C Λ E (place i []) v rest q)
      takes t w = land t (from t (stop t)) w

  -- ---- a call

  module _ {E : Env 𝓤 H} {C : Calls 𝓤 H} {Λ : Loops 𝓤 H} {q : Post 𝓤 H} {f : Callee} {xs : List Operand} {d : Place} {rest : Body} where
    -- The callee has the contract c over T; y is what its triple binds outside, and o the tokens of its lifetimes. It asks no more than its types own.
    -- φ is what it ensures of its result and of the last values of what it was lent, and v the machine value that the result's type tells.
    pub calls_on : K → FmC 𝓤 H 𝓛.laws C → (T : Ended) (c : Clauses 𝓤 T) → Triple 𝓤 (C f) (triple_of 𝓛 T.signature (closing 𝓛 T c))
        → (y : (triple_of 𝓛 T.signature (closing 𝓛 T c)).Ghost) (o : Item 𝓤)
        → let S = T.signature in
        let κs = y.0.0 in
        let a = y.0.3 in
        let R = type_at S.result κs in
        mean 𝓛 o ≡ alive 𝓛 S κs y.0.1 → emp 𝓤 ≡ (c κs a).requires y.1
        → (φ : Res S κs → Lasts T κs a → Type 0) → ((r : Res S κs) (ws : Lasts T κs a) → ent 𝓤 ((c κs a).ensures y.1 r (at_exit T κs a ws)) (fact 𝓤 (φ r ws)))
        → (v : Res S κs → Val) → Tells R (Is R) (λ r. v r ∷ [])
        → Opds K 𝓛 (raw ((triple_of 𝓛 S (closing 𝓛 T c)).pre y) ∷ Γ) E xs ((triple_of 𝓛 S (closing 𝓛 T c)).args y)
        → ((r : Res S κs) (ws : Lasts T κs a) → φ r ws → Is R r (v r ∷ []) → Seq K 𝓛 (‵ (R.own_val r (v r ∷ [])) ∷ o ∷ ‵ (lasts T κs a ws) ∷ Γ) (lands C Λ E d (v r) rest q))
        → Seq K 𝓛 (o ∷ ‵ (owns (types_at S.params κs) a y.0.4) ∷ Γ) (runs C Λ E (seq (call f xs d) rest) q)
    calls_on t fm T c known y o eo er φ said v tells os k =
        let S = T.signature in
        let κs = y.0.0 in
        let a = y.0.3 in
        let R = type_at S.result κs in
        let P : SProp 𝓤 = on_entry 𝓛 S κs y.0.1 a y.0.4 in
        let asks : ent 𝓤 (sep 𝓤 (mean 𝓛 o) (sem 𝓛 (owns (types_at S.params κs) a y.0.4))) (sep 𝓤 P ((c κs a).requires y.1)) =
        via 𝓤 P (subst (λ (X : SProp 𝓤). ent 𝓤 (sep 𝓤 (mean 𝓛 o) (sem 𝓛 (owns (types_at S.params κs) a y.0.4))) (sep 𝓤 X (sem 𝓛 (owns (types_at S.params κs) a y.0.4)))) eo (id⊢ 𝓤 _))
        (via 𝓤 (sep 𝓤 (emp 𝓤) P) (emp∗ 𝓤 P) (via 𝓤 (sep 𝓤 P (emp 𝓤)) (comm∗ 𝓤 (emp 𝓤) P) (subst (λ (X : SProp 𝓤). ent 𝓤 (sep 𝓤 P (emp 𝓤)) (sep 𝓤 P X)) er (id⊢ 𝓤 _)))) in
        use2 𝓛 (raw ((triple_of 𝓛 S (closing 𝓛 T c)).pre y)) asks $
        calls_at t fm (triple_of 𝓛 S (closing 𝓛 T c)) known y os (λ w.
        use1 𝓛 (later (some (λ (r : Res S κs). (raw (alive 𝓛 S κs y.0.1) ⊛ ‵ (R.own_val r (w ∷ []))) ⊛ some (λ (ws : Lasts T κs a). ‵ (lasts T κs a ws) ⊛ raw ((c κs a).ensures y.1 r (at_exit T κs a ws)))))) (id⊢ 𝓤 _) $ await t tt $ pick t (λ r.
        split t $ move t (1 ∷ []) $ pick t (λ ws. split t $ move t (1 ∷ []) $ use1 𝓛 (raw (fact 𝓤 (φ r ws))) (said r ws) $ heard t (φ r ws) (λ e.
        move t (1 ∷ []) $ split t $ use1 𝓛 o (subst (λ (X : SProp 𝓤). ent 𝓤 (alive 𝓛 S κs y.0.1) X) (sym eo) (id⊢ 𝓤 _)) $ move t (1 ∷ []) $
        peeks t R (Is R) (shows 𝓛 R) r (w ∷ []) (λ is.
        let ew : w ≡ v r = ap only (tells r (w ∷ []) is) in
        subst (λ (u : Val). Seq K 𝓛 (‵ (R.own_val r (u ∷ [])) ∷ o ∷ ‵ (lasts T κs a ws) ∷ Γ) (lands C Λ E d u rest q)) (sym ew)
        (k r ws e (subst (λ (u : Val). Is R r (u ∷ [])) ew is)))))))

  -- ---- a struct that is lent

  module _ {G : Goal 𝓤 H} where
    -- by `&mut`, at the value h; τ is its type as a place has it
    pub opened : K → Soaks G → (D : Declared) (L : LL.Laws D) (τ : Ty) {κ : Lft} {q : Share} {γ : GName} (h : D.D) (b o : ℕ)
        → ent 𝓤 (sem 𝓛 (cell_at full_share (row D).mir (LL.vals D L h) b o)) (H.at full_share τ b o (LL.val D L h))
        → (Is (row D) h (LL.vals D L h)
        → Seq K 𝓛 (‵ (fat full_share τ b o (LL.val D L h)) ∷ ‵ ((row D).own_val h (LL.vals D L h)) ∷ ‵ (fobor κ q (Borrowed (mem (row D)) b o γ)) ∷ ‵ (fobs γ ((row D).coded.code h)) ∷ ‵ (fauth γ ((row D).coded.code h)) ∷ Γ) G)
        → Seq K 𝓛 (‵ (fobs γ ((row D).coded.code h)) ∷ ‵ (fbor κ (Borrowed (mem (row D)) b o γ)) ∷ ‵ (flft κ q) ∷ Γ) G
    opened t z D L τ h b o out k =
        opens t z (row D) {h = h} b o (λ vs. spelt t (row D) (Is (row D)) (shows 𝓛 (row D)) (LL.vals D L) (LL.tells D L) full_share h vs b o $
        use1 𝓛 (‵ (fat full_share τ b o (LL.val D L h))) out $ move t (1 ∷ []) $ peeks t (row D) (Is (row D)) (shows 𝓛 (row D)) h (LL.vals D L h) (λ is. move t (1 ∷ 0 ∷ []) $ k is))

    -- and closed at h'
    pub closed : K → Soaks G → (D : Declared) (L : LL.Laws D) {τ : Ty} {κ : Lft} {q : Share} {γ : GName} {u v : Gv} (h' : D.D) (b o : ℕ)
        → ent 𝓤 (H.at full_share τ b o (LL.val D L h')) (sem 𝓛 (cell_at full_share (row D).mir (LL.vals D L h') b o))
        → Step K 𝓛 (‵ (fobs γ ((row D).coded.code h')) ∷ ‵ (fbor κ (Borrowed (mem (row D)) b o γ)) ∷ ‵ (flft κ q) ∷ Γ) G
        (‵ (fat full_share τ b o (LL.val D L h')) ∷ ‵ ((row D).own_val h' (LL.vals D L h')) ∷ ‵ (fobor κ q (Borrowed (mem (row D)) b o γ)) ∷ ‵ (fobs γ u) ∷ ‵ (fauth γ v) ∷ Γ) G
    closed t z D L h' b o into = step (λ s. use1 𝓛 (‵ (cell_at full_share (row D).mir (LL.vals D L h') b o)) into $ closes t z (row D) h' (LL.vals D L h') b o $ s)

    -- a local at l that holds h is lent for a call
    pub lends_local : K → Soaks G → (R : RattleType) (κ : Lft) (q : Share) (l : ℕ) (ℓ : Lifetime) (h : R.Denot) (vs : List Val)
        → ((α : ℕ) (δ : GName) → Seq K 𝓛 (lent_for κ q α ∷ ‵ (fsep ((MutRef ℓ (α ∷ κ) R).own_val (record { ref_ptr = (l, 0); ghost_name = δ; now = h }) (vptr l 0 ∷ [])) ftrue) ∷ ‵ (flent (α ∷ κ) (Borrowed (mem R) l 0 δ)) ∷ raw (Rest 𝓛 α (left q)) ∷ Γ) G)
        → Seq K 𝓛 (‵ (cell_at full_share R.mir vs l 0) ∷ ‵ (R.own_val h vs) ∷ ‵ (flft κ q) ∷ Γ) G
    unfolding part_of
    lends_local t z R κ q l ℓ h vs k =
        fjoin t $ fpack t (List Val) (λ us. fsep (cell_at full_share R.mir us l 0) (R.own_val h us)) vs $
        lft_new t z (λ α. move t (2 ∷ []) $ use1 𝓛 (‵ (flft κ (left q)) ⊛ ‵ (flft κ (right q))) (𝓛.lfts.lft_split κ q) $ split t $ move t (2 ∷ 0 ∷ []) $
        use2 𝓛 (‵ (flft (α ∷ κ) (left q)) ⊛ raw (Rest 𝓛 α (left q))) (within_token 𝓛 α κ (left q)) $ split t $ move t (3 ∷ []) $
        use1 𝓛 (later (some (λ (δ : GName). ‵ ((MutRef ℓ (α ∷ κ) R).own_val (record { ref_ptr = (l, 0); ghost_name = δ; now = h }) (vptr l 0 ∷ [])) ⊛ ‵ (flent (α ∷ κ) (Borrowed (mem R) l 0 δ))))) (lends_ref 𝓛 R ℓ (α ∷ κ) h l 0) $ await t z $ pick t (λ δ. split t $
        nothing t $ move t (1 ∷ 0 ∷ []) $ fjoin t $ nothing t $ move t (5 ∷ 0 ∷ []) $ join t $ move t (3 ∷ 0 ∷ []) $ join t $ move t (0 ∷ 1 ∷ 2 ∷ 3 ∷ []) $ k α δ))

    -- and had back at h'. L is what the call left of it beside its last value
    pub had_back : K → Soaks G → (R : RattleType) (κ : Lft) (q : Share) (l : ℕ) {α : ℕ} {δ : GName} {L : Fml} (h' : R.Denot) (vals : R.Denot → List Val) → Tells R (Is R) vals
        → Step K 𝓛 (‵ (cell_at full_share R.mir (vals h') l 0) ∷ ‵ (R.own_val h' (vals h')) ∷ ‵ (flft κ q) ∷ Γ) G
        (lent_for κ q α ∷ ‵ (fsep (fsep (fres δ (R.coded.code h')) L) ftrue) ∷ ‵ (flent (α ∷ κ) (Borrowed (mem R) l 0 δ)) ∷ raw (Rest 𝓛 α (left q)) ∷ Γ) G
    unfolding part_of
    had_back t z R κ q l {α} {δ} h' vals tells = step (λ s.
        split t $ move t (1 ∷ []) $ split t $ move t (1 ∷ []) $ drop t $ move t (1 ∷ 4 ∷ []) $ use2 𝓛 (later (‵ (fdead (α ∷ κ)) ⊛ ‵ (flft κ (left q)))) (within_end 𝓛 α κ (left q)) $ await t z $ split t $
        move t (1 ∷ 2 ∷ []) $ use2 𝓛 (‵ (flft κ q)) (𝓛.lfts.lft_join κ q) $ move t (2 ∷ []) $ fsplit t $ move t (1 ∷ []) $ drop t $ fsplit t $ move t (1 ∷ []) $ drop t $ move t (2 ∷ 3 ∷ 0 ∷ []) $
        use3 𝓛 (later (‵ ((mem R).own_at h' l 0))) (ref_back 𝓛 R (α ∷ κ) δ h' l 0) $ await t z $ fpick t (λ vs. fsplit t $
        spelt t R (Is R) (shows 𝓛 R) vals tells full_share h' vs l 0 $ s))
