-- `gix_history_free` takes over the block that its caller owns, and has it dropped; of null nothing.
use Rattle.std.proofs.Common.{ℕ, List, [], ◌∷◌, refl, ap, lit<}
use Rattle.std.proofs.raw_atomic.Walks.{proved}
use seplogic.Ra.Ura.{Ura}
use base.Logic.{guard_i, id⊢, snd∗, via}
use base.Fml.{Fml, ftrue}
use base.Fraction.{full_share}
use mir.Val.{Val, vunit, vptr}
use mir.Raw.{raw as bare}
use contract.Monad.{fact_use}
use contract.Running.{tables}
use prog.Wp.{WpFn}
use types.Logic.{Logic, sem}
use types.Kit.{Item, Goal, Seq, ‵, raw, given, learn, at_ret, ◌⊛◌, some, later, prop, ◌$◌, ◌∵◌, !, qed, done, move, drop, use1, use2, split, join, fsplit, feq_i, feq_l, pick, await, suffices, group}
use types.Part.{agg}
use types.Run.{enter, of_opd, lit, unit_lit, bin, no_more, and_then, first, branches, skips, exec, returns, returns_within}
use types.ByLocal.{alloc_all, pass_all, free_all, look_at, get, sets, lands_as, env}
use denote.Builtin.{unit}
use denote.Param.{layout}
use denote.Exit.{yes}
use denote.Memory.{lone}
use denote.RattleType.{owns}
use denote.RawPtr.{Ptr, RawPtr, block_ptr, null_ptr, lies_at, Testable, tests_null, rawptr_vals, rawptr_Tells}
use denote.Signature.{plain, types_at}
use denote.Steps.{nothing, only}
use denote.Triple.Call.{calls_at}
use denote.Triple.Clauses.{lasts}
use denote.Triple.Spec.{triple_of}
use denote.Triple.Table.{framed}
use denote.Triple.Walked.{Stays, walk_of, stay_dropped, Goes-dropped, ends_at}
use Rattle.std_heap.specs.contracts.Global as Heap
use Rattle.std_heap.specs.contracts.GlobalAllocator.TheImpl.{ghosts}
use Rattle.std_heap.proofs.Global.TheLaws as heap
use Rattle.std_heap.proofs.GlobalToken.{dealloc_token-Testable}
use Rattle.std_heap.proofs.Handle.{heap_val, heap_Tells}
use Rattle.core.specs.Ptr.{if_non_null}
use Rattle.std_alloc.proofs.VecSteps.Shapes.{after}
use Rattle.core.proofs.cell.Inside.{Good}
use Rattle.gix_c_core.proofs.Values.{both, Loose, loose_good, loose_in}
use Rattle.gix_c_core.specs.Owned.{owns_handle, owns_unless_null}
use Rattle.gix_c_core.specs.contracts.handle.Handle.{the_row as R}
use Rattle.gix_c.specs.contracts.life.gix_history_free as f
use Rattle.gix_c.proofs.life.gix_history_free.Statement.{statement}
use Rattle.gix_c.proofs.life.gix_history_free.Code as code
use Rattle.gix_c.specs.contracts.life.dispose as g
use Rattle.gix_c.proofs.life.dispose.Met.{met}

abbrev stayed : Stays f.ended.signature.params f.ended.kept
stayed = (stay_dropped _ yes, (stay_dropped _ yes, tt))

-- by whether a pointer is null
module _ {M : Type 1} {𝓤 : Ura M} {𝓛 : Logic 𝓤} {K : Type 0} {Γ : List (Item 𝓤)} where
  null_or_block : K → (p : Ptr) (F : Ptr → Fml) (G : Ptr → Goal 𝓤 𝓛.H) → Seq K 𝓛 (‵ ftrue ∷ Γ) (G null_ptr)
      → ((b o : ℕ) → Seq K 𝓛 (‵ (F (block_ptr b o)) ∷ Γ) (G (block_ptr b o))) → Seq K 𝓛 (‵ (if_non_null p (F p)) ∷ Γ) (G p)
  null_or_block t (block_ptr b o) F G n k = k b o
  null_or_block t null_ptr F G n k = n

pub gix_history_free_spec : {M : Type 1} → statement M
gix_history_free_spec 𝓤 𝓛 𝓜 𝓡 wired =
    let c = f.clauses 𝓛 𝓜.mem 𝓡.returns in let W = walk_of 𝓛 f.ended stayed c in let 𝓣 = tables 𝓤 𝓛.H 𝓜 𝓡 𝓡.env in
    proved 𝓛 f.ended stayed c 𝓜 𝓡 (Goes-dropped 𝓛 0 (plain (λ _. Heap.the_row)) yes (λ κs x w. refl), (Goes-dropped 𝓛 0 (plain (λ _. RawPtr)) yes (λ κs x w. refl), tt))
    f.Key.name code.function (code.unfolded 𝓤 𝓛.H 𝓜 𝓡 wired)
    (λ κs. ((λ _. heap_val ∷ []), (rawptr_vals, tt))) (λ κs. (heap_Tells, (rawptr_Tells, tt))) (λ κs qs bounds a n are.
    let y : Ptr → W.Ghost = λ p. ((κs, qs, bounds, (a.0, (p, tt)), (heap_val ∷ [], (rawptr_vals p, tt))), n) in
    let G = triple_of 𝓛 g.signature (g.spec 𝓛 𝓜.mem 𝓡.returns) in
    let good : Good (layout Heap.the_row) heap_val = (tt, ((tt, tt), tt)) in
    qed 𝓛 ((‵ ftrue ⊛ ‵ (owns (types_at f.signature.params κs) a (y a.1.0).0.4)) ∷ ‵ (owns_unless_null a.0 a.1.0 n) ∷ []) ∵ split ! $ drop ! $ fsplit ! $ move ! (1 ∷ []) $ drop ! $ move ! (1 ∷ []) $
    -- [what is owned of the pointer; the allocator]
    null_or_block ! a.1.0 (λ p. owns_handle a.0 p n) (λ p. prop (WpFn 𝓤 𝓛.H 𝓣.C 𝓣.Λ code.function (heap_val ∷ rawptr_vals p) (W.post (y p))))
    (drop ! $ drop ! $
    enter ! _ _ _ _ _ $ alloc_all ! (λ l. pass_all ! refl (good, ((tt, record { fits = lit< tt }), tt)) $
    sets ! (bin ! (get ! refl) (lit ! tt) tt) refl (tt, tt) $
    first ! $ branches ! (get ! refl)
    (λ _. sets ! (of_opd ! (unit_lit !)) refl (tt, tt) $
    returns_within ! (W.post (y null_ptr)) refl (look_at ! 0 refl) $ free_all ! refl $
    suffices ! _ (ends_at 𝓛 f.ended stayed c (y null_ptr) vunit tt (tt, (tt, tt)) (tt, (tt, tt))) $
    nothing ! $ feq_i ! _ (vunit ∷ []) _ refl $ nothing ! $ nothing ! $ join ! $ nothing ! $ join ! $ nothing ! $ group ! 3 $ done !)
    (λ wrong. absurd wrong)))
    (λ b o.
    let p : Ptr = block_ptr b o in
    let token = ghosts.dealloc_token a.0 (bare (lone R.mir)) p in
    use1 𝓛 (given (Testable p) (‵ (owns_handle a.0 p n))) (fact_use 𝓤 (Testable p) (via 𝓤 _ (snd∗ 𝓤 (sem 𝓛 (lies_at R full_share p n)) (sem 𝓛 token)) (dealloc_token-Testable 𝓛 a.0 (bare (lone R.mir)) p)) (guard_i 𝓤 (Testable p) _)) $
    learn ! (λ testable.
    let v : (Loose R Heap.the_row heap.the_row_laws ghosts).Denot = record { at = p; alloc = a.0; value = n } in
    let w : Val = both (vptr b o) heap_val in
    let z : G.Ghost = ((tt, tt, tt, (v, tt), (w ∷ [], tt)), tt) in
    loose_in R Heap.the_row heap.the_row_laws ghosts ! b o heap_val a.0 n $
    enter ! _ _ _ _ _ $ alloc_all ! (λ l. pass_all ! refl (good, ((tt, tt), tt)) $
    sets ! (bin ! (get ! refl) (lit ! tt) (tests_null p testable)) refl (tt, tt) $
    first ! $ branches ! (get ! refl) (λ wrong. absurd wrong)
    (λ _. skips ! $ exec ! 𝓣.C 𝓣.Λ (env code.function.locals l) (after 2 code.function.body) (at_ret _ (W.post (y p))) $
    sets ! (agg ! (and_then ! (get ! refl) (and_then ! (get ! refl) (no_more !)))) refl (loose_good R Heap.the_row heap.the_row_laws ghosts b o heap_val good) $
    nothing ! $ move ! (1 ∷ 0 ∷ []) $ join ! $ nothing ! $ join ! $ nothing ! $ move ! (1 ∷ 0 ∷ []) $ use2 𝓛 (raw (G.pre z)) (id⊢ 𝓤 _) $
    -- dispose(..)
    calls_at ! (framed 𝓤 𝓛.H 𝓜 (tables 𝓤 𝓛.H 𝓜 𝓡 𝓡.env)) G (met 𝓤 𝓛 𝓜 𝓡 (code.calls-gix_c::life::dispose 𝓡.env wired)) z
    (and_then ! (get ! refl) (no_more !)) (λ u.
    use1 𝓛 (later (some (λ (r : Unit {0}). (‵ ftrue ⊛ ‵ (unit.own_val r (u ∷ []))) ⊛
    some (λ (ws : Unit {0} × Unit {0}). ‵ (lasts g.ended tt z.0.3 ws) ⊛ ‵ ftrue)))) (id⊢ 𝓤 _) $
    await ! tt $ pick ! (λ r. split ! $ split ! $ drop ! $ feq_l ! (λ is_unit. pick ! (λ ws. split ! $ drop ! $ drop ! $
    lands_as ! (ap only is_unit) refl (tt, tt) $
    sets ! (of_opd ! (unit_lit !)) refl (tt, tt) $
    returns ! (look_at ! 0 refl) $ free_all ! refl $
    suffices ! _ (ends_at 𝓛 f.ended stayed c (y p) vunit tt (tt, (tt, tt)) (tt, (tt, tt))) $
    nothing ! $ feq_i ! _ (vunit ∷ []) _ refl $ nothing ! $ nothing ! $ join ! $ nothing ! $ join ! $ nothing ! $ group ! 3 $ done !)))))))))
