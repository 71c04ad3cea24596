-- `empty` keeps nothing at null.
use Rattle.std.proofs.Common.{◌≡◌, List, [], ◌∷◌, ◌++◌, refl, ap, ◌∙◌, lit<}
use mir.Syntax.{Fn}
use mir.Val.{Val}
use base.Logic.{SProp, emp}
use base.Fml.{ftrue}
use prog.Wp.{WpFn}
use contract.Monad.{fact, fact_i}
use contract.Running.{tables}
use types.Kit.{‵, raw, ◌⊛◌, prop, ◌$◌, ◌∵◌, !, qed, by, move, drop, use0, split, regoal, fjoin, fpack}
use types.Part.{agg}
use types.Run.{no_more, and_then, returns, enter}
use types.ByLocal.{alloc_all, pass_all, free_all, look_at, get, sets}
use denote.Exit.{yes}
use denote.RattleType.{owns}
use denote.Builtin.{RawPtr}
use denote.RawPtr.{Ptr, null_ptr, ptr_val}
use denote.Signature.{types_at, plain}
use denote.Steps.{nothing, heard}
use denote.Triple.Entry.{alive}
use denote.Triple.Walked.{Stays, stay_dropped, walk_of, Goes-dropped}
use Rattle.std.proofs.raw_atomic.Walks.{proved_at, leaves}
use Rattle.std.specs.declared.option.Option.{Option}
use Rattle.std.specs.declared.option.Option.TheVariants.{None}
use Rattle.vhost_c_frontend.specs.declared.session.Session.{Session}
use Rattle.vhost_c.specs.contracts.holder.Holder as handle
use Rattle.vhost_c.specs.contracts.holder.Holder.empty.{ended, clauses}
use Rattle.vhost_c.specs.contracts.holder.Holder.empty.Key.{name as #self}
use Rattle.vhost_c.proofs.Holding.{ptr_typed, word, word_own, word_made}
use Rattle.vhost_c.proofs.holder.Holder.empty.Statement.{statement}
use Rattle.vhost_c.proofs.holder.Holder.empty.Code as compiled

pub empty_spec : {M : Type 1} → statement M
empty_spec 𝓤 𝓛 𝓜 𝓡 wired =
    let H = 𝓛.H in let 𝓣 = tables 𝓤 H 𝓜 𝓡 𝓡.env in let En = ended in let c = clauses 𝓛 𝓜.mem 𝓡.returns in let fn : Fn = compiled.function in
    let hs : Stays En.signature.params En.kept = (stay_dropped (plain (λ _. RawPtr)) yes, tt) in
    proved_at 𝓛 En hs c 𝓜 𝓡 (Goes-dropped 𝓛 0 (plain (λ _. RawPtr)) yes (λ κs x f. refl), tt) #self fn (compiled.unfolded 𝓤 H 𝓜 𝓡 wired) (λ z are.
    let Post : Val → SProp 𝓤 = (walk_of 𝓛 En hs c).post z in let p = z.0.3.0 in let none : Option Session = None in
    let x : (handle.the_row).Denot = record { at = null_ptr; session = none } in
    qed 𝓛 ((raw (alive 𝓛 En.signature z.0.0 z.0.1) ⊛ ‵ (owns (types_at En.signature.params z.0.0) z.0.3 z.0.4)) ∷ raw (fact 𝓤 (p ≡ null_ptr)) ∷ []) ∵ move ! (1 ∷ []) $ heard ! (p ≡ null_ptr) (λ null. split ! $ move ! (1 ∷ []) $ drop ! $
    regoal ! (λ (us : List Val). prop (WpFn 𝓤 H 𝓣.C 𝓣.Λ fn us Post)) (λ i. (are.0 ∙ ap (λ (q : Ptr). ptr_val q ∷ []) null) i ++ []) refl $
    enter ! 𝓣.C 𝓣.Λ fn (ptr_val null_ptr ∷ []) Post $ alloc_all ! (λ l. pass_all ! refl (ptr_typed null_ptr, tt) $
    sets ! (agg ! (and_then ! (get ! refl) (no_more !))) refl (tt, (record { fits = lit< tt }, tt)) $
    returns ! (look_at ! 0 refl) $ free_all ! refl $
    nothing ! $ fpack ! (none ≡ None) (λ _. ftrue) refl $ use0 𝓛 (‵ (word_own null_ptr (word null_ptr ∷ []))) (word_made 𝓛 null_ptr) $ fjoin ! $
    use0 𝓛 (raw (fact 𝓤 (none ≡ None))) (fact_i 𝓤 (none ≡ None) (emp 𝓤) refl) $ nothing ! $ nothing ! $ fjoin ! $ move ! (3 ∷ 0 ∷ 2 ∷ 1 ∷ []) $
    by ! (leaves 𝓛 En hs c z (word null_ptr) x (tt, tt) (tt, tt)))))
