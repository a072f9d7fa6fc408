-- What the proofs by hand share. A function that holds a reader is proved by following its code, statement by statement.
--     dropped      nothing is kept of a parameter at exit: each is a number, an enum, a slice that is only read, or a reader
--     Ends         what following the code has to show; leaves: how it is shown at the return, with the result and the tokens
--     asks         a call: the answer, its machine value, and the fact that the callee's contract says of it
--     finish       from following the code to the function's statement
-- Assumes nothing.
use Prim.Native.Nat.{ℕ}
use mathlib.Core.List.{List, [], ◌∷◌}
use seplogic.Ra.Ura.{Ura}
use mir.Syntax.{Fn, Place, Opd as Operand, Body, seq, call}
use mir.Val.{Val}
use base.Logic.{ent, sep, emp, id⊢, via, fst∗, snd∗, ex_e}
use prog.Model.{Model}
use prog.Routine.{Callee, Env as Routines}
use prog.Wp.{Env, Calls, Loops, WpFn, Closed}
use types.Logic.{Logic, sem}
use contract.Lifetimes.{Lfts, Shares, AllOutlive}
use contract.Monad.{fact}
use contract.Running.{Running, tables, tables_of}
use sound.WpLaws.{FmC, fm_of, WpFn-mono}
use types.Kit.{Item, ‵, raw, ◌⊛◌, some, later, Post, runs, lands, Seq, ◌$◌, ◌∵◌, !, qed, move, use0, use1, split, join, pick, fjoin, suffices, frame, await, done}
use types.Run.{Opds}
use denote.RattleType.{Denots, Valss, flat, owns}
use denote.Laws.{Is, Ises, Are, Spells, Tellss, valss, shows}
use denote.Signature.{Slot, type_at, types_at}
use denote.Steps.{peeks, heard, nothing}
use denote.Triple.Bound.{Bound, passed}
use denote.Triple.Call.{calls_at}
use denote.Triple.Clauses.{Clauses, Ended, Lasts, at_exit, lasts, ensured, closing}
use denote.Triple.End.{Kepts, Fins}
use denote.Triple.Entry.{Args, Res, alive, on_entry}
use denote.Triple.Spec.{triple_of}
use denote.Triple.Statement.{Contract, Triple}
use denote.Triple.Table.{entered}
use denote.Triple.Walked.{Stays, stay_dropped, fits_of, has_of, Silent, AllGo, Goes-dropped, walk_of, ends_at, walked, walk_Meets}

-- ---- the parameters at exit
module _ {n : ℕ} where
  abbrev pub dropped : (ss : List (Slot n)) (ks : Kepts ss) → Stays ss ks
  dropped [] ks = tt
  dropped (s ∷ ss) ks = (stay_dropped s ks.0, dropped ss ks.1)

  fits : (κs : Lfts n) (ss : List (Slot n)) (ks : Kepts ss) (a : Denots (types_at ss κs)) (ws : Fins κs ss ks a) → fits_of κs ss ks (dropped ss ks) a ws
  fits κs [] ks a ws = tt
  fits κs (s ∷ ss) ks a ws = (tt, fits κs ss ks.1 a.1 ws.1)

  module _ {M : Type 1} {𝓤 : Ura M} (𝓛 : Logic 𝓤) where
    had : (κs : Lfts n) (ss : List (Slot n)) (ks : Kepts ss) (a : Denots (types_at ss κs)) (ws : Fins κs ss ks a) (vss : Valss (types_at ss κs)) → ent 𝓤 (emp 𝓤) (sem 𝓛 (has_of κs ss ks (dropped ss ks) a ws vss))
    had κs [] ks a ws vss = id⊢ 𝓤 (emp 𝓤)
    had κs (s ∷ ss) ks a ws vss = qed 𝓛 [] ∵ use0 𝓛 (‵ (has_of κs ss ks.1 (dropped ss ks.1) a.1 ws.1 vss.1)) (had κs ss ks.1 a.1 ws.1 vss.1) $ nothing ! $ fjoin ! $ done !

    -- of such a parameter a contract says nothing at exit
    abbrev pub Silents : (ss : List (Slot n)) → Kepts ss → Type 1
    Silents [] ks = Unit {1}
    Silents (s ∷ ss) ks = Silent 𝓛 n s ks.0 × Silents ss ks.1

    go : (ss : List (Slot n)) (ks : Kepts ss) → Silents ss ks → AllGo 𝓛 n ss ks (dropped ss ks)
    go [] ks q = tt
    go (s ∷ ss) ks q = (Goes-dropped 𝓛 n s ks.0 q.0, go ss ks.1 q.1)

-- ---- at the return
module _ {M : Type 1} {𝓤 : Ura M} (𝓛 : Logic 𝓤) (T : Ended) (c : Clauses 𝓤 T) where
  abbrev pub Ends : Contract 𝓤
  Ends = walk_of 𝓛 T (dropped T.signature.params T.kept) c

  pub leaves : (y : Ends.Ghost) (v : Val) (r : Res T.signature y.0.0) (ws : Lasts T y.0.0 y.0.3) → ent 𝓤 (emp 𝓤) ((c y.0.0 y.0.3).ensures y.1 r (at_exit T y.0.0 y.0.3 ws))
      → ent 𝓤 (sep 𝓤 (sem 𝓛 ((type_at T.signature.result y.0.0).own_val r (v ∷ []))) (alive 𝓛 T.signature y.0.0 y.0.1)) (Ends.post y v)
  leaves y v r ws said =
      let κs = y.0.0 in
      let ss = T.signature.params in
      qed 𝓛 (‵ ((type_at T.signature.result κs).own_val r (v ∷ [])) ∷ raw (alive 𝓛 T.signature κs y.0.1) ∷ []) ∵
      suffices ! _ (ends_at 𝓛 T (dropped ss T.kept) c y v r ws (fits κs ss T.kept y.0.3 ws)) $
      use0 𝓛 (raw ((c κs y.0.3).ensures y.1 r (at_exit T κs y.0.3 ws))) said $
      use0 𝓛 (‵ (has_of κs ss T.kept (dropped ss T.kept) y.0.3 ws y.0.4)) (had 𝓛 κs ss T.kept y.0.3 ws y.0.4) $
      -- the entries: the parameters, the clause, the result, the tokens
      move ! (0 ∷ 2 ∷ []) $ join ! $ move ! (2 ∷ 0 ∷ []) $ join ! $ frame ! $ done !

-- ---- a call: the answer r, its machine value u, and the fact φ that the callee's contract says of r
module _ {M : Type 1} {𝓤 : Ura M} {𝓛 : Logic 𝓤} {K : Type 0} {Γ : List (Item 𝓤)} {E : Env 𝓤 𝓛.H} {C : Calls 𝓤 𝓛.H} {f : Callee} {xs : List Operand} {Λ : Loops 𝓤 𝓛.H} {q : Post 𝓤 𝓛.H} {d : Place} {rest : Body} where
  open 𝓛 use {H}

  pub asks : K → FmC 𝓤 H 𝓛.laws C → (T : Ended) (c : Clauses 𝓤 T) → Triple 𝓤 (C f) (triple_of 𝓛 T.signature (closing 𝓛 T c))
      → (x : Bound 𝓛 T.signature) (g : (c x.0 x.3).ghost) → ent 𝓤 (emp 𝓤) ((c x.0 x.3).requires g)
      → (φ : Res T.signature x.0 → Type 0) → ((r : Res T.signature x.0) (ws : Lasts T x.0 x.3) → ent 𝓤 ((c x.0 x.3).ensures g r (at_exit T x.0 x.3 ws)) (fact 𝓤 (φ r)))
      → Opds K 𝓛 (raw ((triple_of 𝓛 T.signature (closing 𝓛 T c)).pre (x, g)) ∷ Γ) E xs (passed 𝓛 T.signature x)
      → ((u : Val) (r : Res T.signature x.0) → φ r → Is (type_at T.signature.result x.0) r (u ∷ [])
      → Seq K 𝓛 (‵ ((type_at T.signature.result x.0).own_val r (u ∷ [])) ∷ raw (alive 𝓛 T.signature x.0 x.1) ∷ Γ) (lands C Λ E d u rest q))
      → Seq K 𝓛 (‵ (owns (types_at T.signature.params x.0) x.3 x.4) ∷ raw (alive 𝓛 T.signature x.0 x.1) ∷ Γ) (runs C Λ E (seq (call f xs d) rest) q)
  asks t fm T c met x g need φ told os k =
      let S = T.signature in
      let R = type_at S.result x.0 in
      use0 𝓛 (raw ((c x.0 x.3).requires g)) need $ move t (2 ∷ 1 ∷ 0 ∷ []) $ join t $ join t $ use1 𝓛 (raw ((triple_of 𝓛 S (closing 𝓛 T c)).pre (x, g))) (id⊢ 𝓤 _) $
      calls_at t fm (triple_of 𝓛 S (closing 𝓛 T c)) met (x, g) os (λ u.
      use1 𝓛 (later (some (λ (r : Res S x.0). (raw (alive 𝓛 S x.0 x.1) ⊛ ‵ (R.own_val r (u ∷ []))) ⊛ raw (ensured 𝓛 T c x.0 x.3 g r)))) (id⊢ 𝓤 _) $ await t tt $ pick t (λ r.
      split t $ move t (1 ∷ []) $ use1 𝓛 (raw (fact 𝓤 (φ r))) (ex_e 𝓤 _ (λ ws. via 𝓤 _ (snd∗ 𝓤 (sem 𝓛 (lasts T x.0 x.3 ws)) ((c x.0 x.3).ensures g r (at_exit T x.0 x.3 ws))) (told r ws))) $ heard t (φ r) (λ e. split t $ move t (1 ∷ []) $
      peeks t R (Is R) (shows 𝓛 R) r (u ∷ []) (λ is. k u r e is))))

-- ---- the statement, from following the code for all lifetimes, shares and arguments, whose machine values are written out
module _ {M : Type 1} {𝓤 : Ura M} (𝓛 : Logic 𝓤) (𝓜 : Model 𝓤 𝓛.H) (𝓡 : Running 𝓤 𝓛.H 𝓜) where
  open 𝓛 use {H}

  pub finish : (T : Ended) (c : Clauses 𝓤 T) → Silents 𝓛 T.signature.params T.kept
      → (sp : (κs : Lfts T.signature.lifetimes) → Spells (types_at T.signature.params κs)) → ((κs : Lfts T.signature.lifetimes) → Tellss (types_at T.signature.params κs) (Ises (types_at T.signature.params κs)) (sp κs))
      → (γ : Routines) (k : Callee) (e : Fn) → Closed 𝓤 H (tables 𝓤 H 𝓜 𝓡 γ).C (tables 𝓤 H 𝓜 𝓡 γ).Λ k e
      → (FmC 𝓤 H 𝓛.laws (tables 𝓤 H 𝓜 𝓡 γ).C → (κs : Lfts T.signature.lifetimes) (qs : Shares T.signature.lifetimes) (bounds : AllOutlive T.signature.lifetimes T.signature.outlives κs) (a : Args T.signature κs) (g : (c κs a).ghost)
      → Are (types_at T.signature.params κs) (Ises (types_at T.signature.params κs)) a (valss (types_at T.signature.params κs) (sp κs) a)
      → ent 𝓤 (on_entry 𝓛 T.signature κs qs a (valss (types_at T.signature.params κs) (sp κs) a))
      (WpFn 𝓤 H (tables 𝓤 H 𝓜 𝓡 γ).C (tables 𝓤 H 𝓜 𝓡 γ).Λ e (flat (types_at T.signature.params κs) (valss (types_at T.signature.params κs) (sp κs) a))
      ((Ends 𝓛 T c).post ((κs, qs, bounds, a, valss (types_at T.signature.params κs) (sp κs) a), g))))
      → Triple 𝓤 ((tables 𝓤 H 𝓜 𝓡 γ).C k) (triple_of 𝓛 T.signature (closing 𝓛 T c))
  unfolding tables_of
  finish T c quiet sp tl γ k e closed followed =
      let 𝓣 = tables 𝓤 H 𝓜 𝓡 γ in
      let ss = T.signature.params in
      entered 𝓤 H (triple_of 𝓛 T.signature (closing 𝓛 T c)) 𝓣.C 𝓣.Λ k e closed
      (walk_Meets 𝓛 T (dropped ss T.kept) (go 𝓛 ss T.kept quiet) c (WpFn 𝓤 H 𝓣.C 𝓣.Λ e) (WpFn-mono 𝓤 H 𝓛.laws (tables_of 𝓤 H 𝓜 𝓣) e)
      (walked 𝓛 T (dropped ss T.kept) c (WpFn 𝓤 H 𝓣.C 𝓣.Λ e) sp tl
      (λ κs qs bounds a g are. via 𝓤 _ (fst∗ 𝓤 (on_entry 𝓛 T.signature κs qs a (valss (types_at ss κs) (sp κs) a)) ((c κs a).requires g)) (followed (fm_of 𝓤 H 𝓛.laws (tables_of 𝓤 H 𝓜 𝓣)) κs qs bounds a g are))))
