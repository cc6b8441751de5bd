-- `and` makes a value of no bytes, with one request more on it.
use Rattle.std.proofs.Common.{List, [], ◌∷◌, ◌++◌, refl}
use seplogic.Ra.Ura.{Ura}
use mir.Val.{Val, vptr, vstruct, vnil}
use base.Logic.{SProp, ent}
use prog.Memory.{Memory}
use prog.Routine.{Routine}
use prog.Wp.{Calls, Loops, WpFn, Tables}
use types.Logic.{Logic}
use contract.Monad.{Fun}
use contract.Running.{tables, tables_of}
use sound.WpLaws.{WpFn-mono}
use types.Kit.{‵, raw, ◌⊛◌, prop, ◌$◌, ◌∵◌, !, qed, move, keep, drop, split, fsplit, fjoin, feq_l, regoal, suffices, done}
use types.Run.{no_more, returns, enter}
use types.Part.{agg}
use types.ByLocal.{alloc_all, pass_all, free_all, look_at, sets}
use denote.Builtin.{RefOf}
use denote.Exit.{yes}
use denote.RattleType.{owns}
use denote.Shadow.{pure_i}
use denote.Signature.{plain, types_at, named_lft}
use denote.Steps.{nothing}
use denote.Triple.Clauses.{Clauses}
use denote.Triple.Entry.{alive}
use denote.Triple.Spec.{Meets, triple_of}
use denote.Triple.Table.{entered}
use denote.Triple.Walked.{says, Stays, stay_dropped, walk_of, ends_at, walk_Meets, Goes-dropped}
use Rattle.mc_counters.specs.declared.past_requests.PastRequests.{PastRequests}
use Rattle.std.specs.contracts.option.Option as option
use Rattle.mc_model.specs.contracts.reply.Reply as reply
use Rattle.mc_counters.specs.contracts.kinds.Asked as asked
use Rattle.mc_counters.specs.contracts.past_requests.PastRequests as past
use Rattle.mc_counters.specs.contracts.past_requests.PastRequests.and as f
use Rattle.mc_counters.specs.contracts.past_requests.PastRequests.and.Key.{name as key}
use Rattle.mc_counters.proofs.past_requests.PastRequests.and.Statement as stated
use Rattle.mc_counters.proofs.past_requests.PastRequests.and.Code as code

abbrev stayed : Stays (f.ended).signature.params (f.ended).kept
stayed = (
  stay_dropped (RefOf (0 ∷ []) tt (plain (λ _. past.the_row)) (λ _. tt)) yes,
  (
    stay_dropped (RefOf (1 ∷ []) tt (plain (λ _. option.the_row asked.the_row)) (λ _. tt)) yes,
    (stay_dropped (RefOf (2 ∷ []) tt (plain (λ κs. reply.the_row (named_lft 4 3 tt κs))) (λ _. tt)) yes, tt),
  ),
)

module _ {M : Type 1} {𝓤 : Ura M} (𝓛 : Logic 𝓤) (at_mem : Memory → SProp 𝓤) (run : Routine → Fun 𝓤) where
  open 𝓛 use {H}

  abbrev held : Clauses 𝓤 f.ended
  held = f.clauses 𝓛 at_mem run

  module _ (C : Calls 𝓤 H) (Λ : Loops 𝓤 H) (z : (walk_of 𝓛 f.ended stayed held).Ghost) where
    abbrev Post : Val → SProp 𝓤
    Post = (walk_of 𝓛 f.ended stayed held).post z

    abbrev toks : SProp 𝓤
    toks = alive 𝓛 f.signature z.0.0 z.0.1

    walks : ent 𝓤 ((walk_of 𝓛 f.ended stayed held).pre z) (WpFn 𝓤 H C Λ code.function ((walk_of 𝓛 f.ended stayed held).args z) Post)
    walks =
        let a = z.0.3 in
        let vss = z.0.4 in
        let made : PastRequests = record { requests = a.0.now.requests ++ record { asked = a.1.0.now; reply = a.1.1.0.now } ∷ [] } in
        qed 𝓛 ((raw toks ⊛ ‵ (owns (types_at f.signature.params z.0.0) a vss)) ∷ raw ((held z.0.0 a).requires z.1) ∷ []) ∵
        keep ! (0 ∷ []) $ split ! $ move ! (1 ∷ []) $
        fsplit ! $ fsplit ! $ feq_l ! (λ is₀. drop ! $ fsplit ! $ fsplit ! $ feq_l ! (λ is₁. drop ! $ fsplit ! $ fsplit ! $ feq_l ! (λ is₂. drop ! $ drop ! $
        let p = vptr a.0.ref_ptr.0 a.0.ref_ptr.1 in
        let q = vptr a.1.0.ref_ptr.0 a.1.0.ref_ptr.1 in
        let r = vptr a.1.1.0.ref_ptr.0 a.1.1.0.ref_ptr.1 in
        regoal ! (λ (us : List Val). prop (WpFn 𝓤 H C Λ code.function (us ++ (vss.1.0 ++ (vss.1.1.0 ++ []))) Post)) is₀ refl $
        regoal ! (λ (us : List Val). prop (WpFn 𝓤 H C Λ code.function ((p ∷ []) ++ (us ++ (vss.1.1.0 ++ []))) Post)) is₁ refl $
        regoal ! (λ (us : List Val). prop (WpFn 𝓤 H C Λ code.function ((p ∷ []) ++ ((q ∷ []) ++ (us ++ []))) Post)) is₂ refl $
        enter ! C Λ code.function (p ∷ q ∷ r ∷ []) Post $ alloc_all ! (λ l. pass_all ! refl ((tt, tt), ((tt, tt), ((tt, tt), tt))) $
        sets ! (agg ! (no_more !)) refl (tt, tt) $
        returns ! (look_at ! 0 refl) $ free_all ! refl $
        suffices ! _ (ends_at 𝓛 f.ended stayed held z (vstruct vnil) made (tt, (tt, (tt, tt))) (tt, (tt, (tt, tt)))) $ says ! refl $
        pure_i ! (past.the_row.own_val made (vstruct vnil ∷ [])) ((λ vss. (tt, tt)), tt) ((tt, (refl, tt)), tt) $
        nothing ! $ nothing ! $ fjoin ! $ nothing ! $ fjoin ! $ nothing ! $ fjoin ! $ move ! (2 ∷ 0 ∷ 1 ∷ []) $ done !))))

  meets : (𝓣 : Tables 𝓤 H) → Meets 𝓛 f.signature (WpFn 𝓤 H 𝓣.C 𝓣.Λ code.function) (f.spec 𝓛 at_mem run)
  meets 𝓣 =
      walk_Meets 𝓛 f.ended stayed (
        Goes-dropped 𝓛 4 (RefOf (0 ∷ []) tt (plain (λ _. past.the_row)) (λ _. tt)) yes (λ κs x f. refl),
        (
          Goes-dropped 𝓛 4 (RefOf (1 ∷ []) tt (plain (λ _. option.the_row asked.the_row)) (λ _. tt)) yes (λ κs x f. refl),
          (Goes-dropped 𝓛 4 (RefOf (2 ∷ []) tt (plain (λ κs. reply.the_row (named_lft 4 3 tt κs))) (λ _. tt)) yes (λ κs x f. refl), tt),
        ),
      ) held
      (WpFn 𝓤 H 𝓣.C 𝓣.Λ code.function) (WpFn-mono 𝓤 H 𝓛.laws 𝓣 code.function) (walks 𝓣.C 𝓣.Λ)

pub and_spec : {M : Type 1} → stated.statement M
unfolding tables_of
and_spec 𝓤 𝓛 𝓜 𝓡 wired =
    entered 𝓤 𝓛.H (triple_of 𝓛 f.signature (f.spec 𝓛 𝓜.mem 𝓡.returns))
    (tables 𝓤 𝓛.H 𝓜 𝓡 𝓡.env).C (tables 𝓤 𝓛.H 𝓜 𝓡 𝓡.env).Λ key code.function (code.unfolded 𝓤 𝓛.H 𝓜 𝓡 wired)
    (meets 𝓛 𝓜.mem 𝓡.returns (tables_of 𝓤 𝓛.H 𝓜 (tables 𝓤 𝓛.H 𝓜 𝓡 𝓡.env)))
