-- `agree` opens both halves, and their names show that they are at one list.
use Rattle.std.proofs.Common.{ℕ, List, [], ◌∷◌, sym, refl}
use mir.Syntax.{a_type, dnil, named}
use mir.Val.{Val, vunit, vptr}
use mir.MapTy.{inst_fn}
use base.Logic.{SProp, emp}
use base.Stored.{coded_list}
use base.Fml.{Fml, ftrue, fsep, flft, fauth}
use types.Kit.{‵, raw, ◌⊛◌, given, ◌$◌, ◌∵◌, !, qed, by, move, keep, drop, split, join, fsplit, fsplit3, fjoin, fjoin3, fpack, learn, use0, feq_i}
use types.Tokens.{name_agree}
use types.Run.{unit_lit, of_opd, returns, enter}
use types.ByLocal.{alloc_all, pass_all, free_all, look_at, sets}
use contract.Monad.{fact, fact_i}
use contract.Running.{tables}
use denote.RattleType.{RattleType, owns}
use denote.Signature.{types_at, plain}
use denote.Ref.{mut_vals, mut_Tells}
use denote.Steps.{nothing, opens, closes}
use denote.Param.{param, bounded}
use denote.Triple.Walked.{Stays, stay_ref, walk_of, Goes-ref}
use Rattle.std.proofs.raw_atomic.Walks.{proved}
use Rattle.harts.proofs.Walks.{ends}
use Rattle.harts.specs.contracts.halves.Inner as Inner
use Rattle.harts.specs.contracts.halves.Outer as Outer
use Rattle.harts.specs.contracts.halves.Inner.agree.{ended, clauses}
use Rattle.harts.specs.contracts.halves.Inner.agree.Key.{name as #self}
use Rattle.harts.proofs.halves.Inner.agree.Statement.{statement}
use Rattle.harts.proofs.halves.Inner.agree.Code as code

pub agree_spec : {M : Type 1} → statement M
agree_spec 𝓤 𝓛 𝓜 𝓡 wired E _ =
    let H = 𝓛.H in let 𝓣 = tables 𝓤 H 𝓜 𝓡 𝓡.env in let E' : RattleType = param 0 E in let En = ended E in
    let inst = bounded (a_type ∷ []) (E, tt) dnil in let fn = inst_fn inst code.function in let c = clauses E 𝓛 𝓜.mem 𝓡.returns in
    let A : RattleType = Inner.the_row E' in let B : RattleType = Outer.the_row E' in let L = coded_list E'.coded in
    let hs : Stays En.signature.params En.kept = (stay_ref (0 ∷ []) tt (plain (λ _. A)), (stay_ref (1 ∷ []) tt (plain (λ _. B)), tt)) in
    proved 𝓛 En hs c 𝓜 𝓡 (Goes-ref 𝓛 3 0 tt (plain (λ _. A)), (Goes-ref 𝓛 3 1 tt (plain (λ _. B)), tt)) (#self inst) fn (code.unfolded 𝓤 H 𝓜 𝓡 wired (E, tt))
    (λ κs. (mut_vals, (mut_vals, tt))) (λ κs. (mut_Tells (named 0) κs.0 A, (mut_Tells (named 1) κs.1.0 B, tt))) (λ κs qs bounds a gh are.
    let b₀ : ℕ = a.0.ref_ptr.0 in let o₀ : ℕ = a.0.ref_ptr.1 in let b₁ : ℕ = a.1.0.ref_ptr.0 in let o₁ : ℕ = a.1.0.ref_ptr.1 in
    let me = a.0.now in let other = a.1.0.now in
    let y : (walk_of 𝓛 En hs c).Ghost = ((κs, qs, bounds, a, (vptr b₀ o₀ ∷ [], (vptr b₁ o₁ ∷ [], tt))), gh) in let Post : Val → SProp 𝓤 = (walk_of 𝓛 En hs c).post y in
    let toks : Fml = fsep (flft κs.0 qs.0) (fsep (flft κs.1.0 qs.1.0) (fsep (flft κs.1.1.0 qs.1.1.0) ftrue)) in
    qed 𝓛 ((‵ toks ⊛ ‵ (owns (types_at En.signature.params κs) a y.0.4)) ∷ raw (fact 𝓤 _) ∷ given _ (‵ ftrue) ∷ []) ∵ keep ! (2 ∷ 0 ∷ []) $ learn ! (λ asked. drop ! $ split ! $
    fsplit ! $ move ! (1 ∷ []) $ fsplit ! $ move ! (3 ∷ []) $ fsplit ! $ fsplit3 ! $ move ! (3 ∷ []) $ fsplit ! $ fsplit3 ! $ keep ! (5 ∷ 6 ∷ 9 ∷ 1 ∷ 2 ∷ 7 ∷ 8 ∷ []) $
    enter ! 𝓣.C 𝓣.Λ fn (vptr b₀ o₀ ∷ vptr b₁ o₁ ∷ []) Post $ alloc_all ! (λ l. pass_all ! refl ((tt, tt), ((tt, tt), tt)) $
    opens ! tt A b₀ o₀ (λ cs. move ! (5 ∷ 6 ∷ 7 ∷ []) $ opens ! tt B b₁ o₁ (λ ds. move ! (1 ∷ []) $ fsplit ! $ move ! (7 ∷ []) $ fsplit ! $ move ! (3 ∷ 1 ∷ []) $
    types.Kit.rewrite ! 1 (λ (n : ℕ). ‵ (fauth n (L.code me.list))) asked refl $ name_agree ! L (λ same. types.Kit.rewrite ! 1 (λ (n : ℕ). ‵ (fauth n (L.code me.list))) (sym asked) refl $
    move ! (2 ∷ 1 ∷ []) $ fjoin ! $ move ! (2 ∷ 1 ∷ []) $ fjoin ! $ move ! (2 ∷ 0 ∷ 3 ∷ 4 ∷ 5 ∷ []) $ closes ! tt B other ds b₁ o₁ $ move ! (4 ∷ 3 ∷ 5 ∷ 6 ∷ 7 ∷ []) $ closes ! tt A me cs b₀ o₀ $
    sets ! (of_opd ! (unit_lit !)) refl (tt, tt) $ feq_i ! (List Val) (vunit ∷ []) (vunit ∷ []) refl $ move ! (6 ∷ 7 ∷ []) $ fjoin ! $ move ! (4 ∷ 0 ∷ []) $ fjoin ! $
    nothing ! $ feq_i ! (List Val) (vptr b₁ o₁ ∷ []) (vptr b₁ o₁ ∷ []) refl $ move ! (0 ∷ 6 ∷ 7 ∷ []) $ fjoin3 ! $ fjoin ! $ feq_i ! (List Val) (vptr b₀ o₀ ∷ []) (vptr b₀ o₀ ∷ []) refl $ move ! (0 ∷ 4 ∷ 5 ∷ []) $ fjoin3 ! $ fjoin ! $
    returns ! (look_at ! 0 refl) $ free_all ! refl $ keep ! (1 ∷ 0 ∷ 2 ∷ []) $ by ! (ends 𝓛 En hs c y vunit tt (me, (other, tt)) (tt, (tt, tt)) (fact_i 𝓤 _ (emp 𝓤) (sym same, refl, refl)))))))))
