-- So along the run's block in the caller: in front of the call, of the call, and behind it.
use Rattle.std.specs.Prelude.{take, drop}
use Rattle.std.proofs.Common.{◌≡◌, ℕ, zero, suc, List, [], ◌∷◌, refl, sym, ◌∙◌, subst, ap, true≢false}
use Rattle.rx_typed.specs.Tree as tree
use Rattle.rx_typed.specs.Tree.{Temporary, Exp, Operands, Scrutinee, Body, own, temporary_of}
use Rattle.rx_lower_walks.specs.Matching.{bindings}
use Rattle.rx_lower_walks.specs.Actions.{subject}
use Rattle.rx_lower_walks.specs.Orders.{Order, order_all, order_body, order_function}
use Rattle.rx_lower_walks.specs.Orders as order
use Rattle.rx_exits_plan.specs.Blocks as block
use Rattle.rx_exits_plan.specs.Blocks.{Statement, statements, tail}
use Rattle.rx_exits_plan.specs.Runs.{in_front}
use Rattle.rx_exits_plan.specs.MixedInit.{MixedInit}
use Rattle.rx_exits_plan.specs.Asked.{Asked}
use Rattle.rx_exits_plan.specs.Plan.{Plan}
use Rattle.rx_modes_policy.specs.declared.uses.Mode.{Mode}
use Rattle.rx_modes_policy.specs.declared.uses.Uses.{Uses}
use Rattle.rx_modes_policy.specs.Allowed.{allowed_by, IsMember, HasMember}
use Rattle.rx_modes_uses.specs.Modes.{IsModes}
use Rattle.rx_engine_simulation.specs.Turns.{Allowance}
use Rattle.rx_engine_simulation.specs.Histories.{Facts}
use Rattle.rx_engine_simulation.specs.Sights.{sight, Renaming}
use Rattle.rx_engine_simulation.specs.Jumps.{Jumping}
use Rattle.rx_engine_simulation.specs.Passing.{New}
use Rattle.rx_engine_simulation.specs.Packing.{Way}
use Rattle.rx_engine_simulation.specs.Like.{LikeBody, opens_in, ends_in, runs_on, declares_all, lets_in, reads_place, looks_behind}
use Rattle.rx_engine_related.specs.Given.{enters_with}
use Rattle.rx_engine_related.specs.Had.{Had}
use Rattle.rx_engine_related.specs.Handed.{PutBack, all_back, stays, goes_back, HandsBack, hands_none, hands_assigned, hands_declared, hands_several, Redeclared, none_again, again_and, handed_on}
use Rattle.rx_engine_related.specs.Running.{running_body}
use Rattle.rx_engine_related.specs.Standing.{CallOf, call_alone, call_matched, call_left, RunBecomesCall, run_becomes_call, the_call}
use Rattle.rx_engine_related.proofs.Bare.{NoMarks}
use Rattle.rx_engine_blocks.specs.Renumbering.{Renumbering}
use Rattle.rx_engine_initial.specs.Variables.{Sides}
use Rattle.rx_engine_initial_forms.specs.Following.{BodySo}
use Rattle.rx_engine_initial_related.proofs.InBlocks.{of_bindings, of_declared, in_function}
use Rattle.rx_engine_initial_blocks.specs.AtBlock.{CallSo, BlockSo}
use Rattle.rx_engine_initial_blocks.proofs.Marks.{is_made, unmarked, like_made}
use Rattle.rx_engine_initial_blocks.proofs.Cutting.{AllPlain, written_so}
use Rattle.rx_engine_initial_blocks.proofs.RunBlocks.{marked_not, first_of, rest_of, no_declaration, no_let, no_mark_parts, plain_front, follows, from_the_run, run_is}
use Rattle.rx_engine_initial_typed.specs.SameTypes.{DeclaresAlike, TypedScope}
use Rattle.rx_engine_initial_typed.specs.ByType.{ReadsByType}
use Rattle.rx_engine_initial_typed.specs.OfTypes.{around_call, BodyOfTypes}
use Rattle.rx_engine_initial_typed.specs.BlockOfTypes.{CallOfTypes, BlockOfTypes}
use Rattle.rx_engine_initial_typed.proofs.Moves.{of_first, of_second, behind_bindings, behind_declared, declared_so, bindings_so}
use Rattle.rx_engine_initial_typed.proofs.Given.{given_so}
use Rattle.rx_engine_initial_typed.proofs.Asking.{caller_asked}
use Rattle.rx_engine_initial_typed.proofs.MarkedReads.{behind_first, parts_read, body_is}
use Rattle.rx_engine_initial_typed.proofs.Around.{exp_so, matched_so, body_so}

-- ---- what stands in place of the run reads by type where all of it does

split_is : (i : ℕ) (ss : List Statement) (b : Body) → block.before (take i ss) (block.before (drop i ss) b) ≡ block.before ss b
split_is zero ss b = refl
split_is (suc i) [] b = refl
split_is (suc i) (block.does e ∷ ss) b = ap (λ c. tree.runs e c) (split_is i ss b)
split_is (suc i) (block.begins s xs ∷ ss) b = ap (λ c. tree.declares s xs c) (split_is i ss b)
split_is (suc i) (block.binds s p e ∷ ss) b = ap (λ c. tree.lets s p e c) (split_is i ss b)

module _ (S : Sides) (A : Asked) (k : Plan) where
  abbrev Here : Order → Type 0
  Here s = ReadsByType S.frame s

  of_call : {J Ji : Jumping} {R : Renaming} {mc : tree.Mark} {i : ℕ} {es : Operands} {w : Way} {e : Exp} → CallOf A S.muts_there k J R (tree.call mc i es) Ji w e → (d : Temporary) → Here (order.order e d) → Here (order_all es)
  of_call (call_alone q) d h = of_first h
  of_call (call_matched unit q a p r n g c) d h = of_first (of_first h)
  of_call (call_left unit n a) d h = of_first (of_first h)

  behind_put : {R Rc Rd : Renaming} {xs os : List ℕ} {f : Body → Body} → PutBack A S.muts_there k R Rc xs os f Rd → (b : Body) (n : ℕ) (d : Temporary) → Here (order_body (f b) n d) → Here (order_body b n d)
  behind_put all_back b n d h = h
  behind_put (stays l) b n d h = behind_put l b n d h
  behind_put (goes_back s i a t l) b n d h = behind_put l b n d (of_second h)

  behind_again : {Rb Rc Rd : Renaming} {xs : List ℕ} {f : Body → Body} → Redeclared Rb Rc xs f Rd → (b : Body) (n : ℕ) (d : Temporary) → Here (order_body (f b) n d) → Here (order_body b n d)
  behind_again none_again b n d h = h
  behind_again (again_and {y = y} {n = m} {f = f} s q i l) b n d h = behind_again l b n d (behind_declared m (y ∷ []) n (order_body (f b) n d) h)

  behind_hands : {R Rs Rr : Renaming} {e : Exp} {xs : List ℕ} {f : Body → Body} → HandsBack A S.muts_there k R e Rs xs Rr f → (b : Body) (n : ℕ) (d : Temporary) → Here (order_body (f b) n d) → Here (order.order e (temporary_of e)) × Here (order_body b n d)
  behind_hands hands_none b n d h = (of_first h, of_second h)
  behind_hands (hands_assigned s i q a) b n d h = (of_first (of_first h), of_second h)
  behind_hands {e = e} (hands_declared {y = y} {i = i} {mutable = v} l) b n d h = (of_first h, behind_bindings (subject (tree.of_value e)) (bindings [] (tree.bind i y (tree.by_value v))) n (order_body b n d) (of_second h))
  behind_hands {e = e} (hands_several {ps = ps} {g = g} l q p) b n d h = (of_first h, behind_put p b n d (behind_bindings (subject (tree.of_value e)) (bindings [] (tree.parts ps)) n (order_body (g b) n d) (of_second h)))

module _ (r : Renumbering) (S : Sides) (alike : DeclaresAlike r S.frame_there S.frame) (A : Asked) (k : Plan) (had : Had A S.muts_there k) (sure : (x : ℕ) → ¬ (MixedInit A x)) (types : S.frame_there ≡ A.frame) (choice : Uses → Mode)
    (policy : (u : Uses) → HasMember (allowed_by u) → IsMember (choice u) (allowed_by u)) (modes : List Mode) (passed : IsModes A S.muts_there k choice modes) where
  abbrev There : Order → Type 0
  There s = ReadsByType S.frame_there s

  abbrev Typed : Renaming → Type 0
  Typed N = TypedScope r S N

  abbrev From : Body
  From = from_the_run A S.muts_there k had

  abbrev After : Body
  After = follows A S.muts_there k had

  module _ {items : ℕ → ℕ} {gain : Allowance} {U : List ℕ} {F : New} where
    -- ---- the call

    call_so : {a : ℕ} {J : Jumping} {R Rn : Renaming} {rest : Body} {f f' : Body → Body} (rest' : Body) (c : RunBecomesCall A S.muts_there k modes items gain U F a J R Rn rest f f') → CallOfTypes r S c → Typed R
        → (n : ℕ) (d : Temporary) → Here S A k (order_body (f' rest') n d) → CallSo S c × Typed Rn × Here S A k (order_body rest' n d)
    call_so {R = R} {Rn = Rn} rest' (run_becomes_call Ra Rb mb ls body (enters_with cold Rp Rl shut to locals absents covers specials) moved ended never call (handed_on {f = f} Rs Rr Rd within not_handed hb rd fewer wider)) so g n d h =
        let z = behind_hands S A k hb (f rest') n d h in (
          (given_so r S alike A k S.muts_there types choice policy R g so.0.apart to passed (of_call S A k call _ z.0), caller_asked r S alike A k had.plan sure had.whole choice modes passed R Rn so.0.slots so.0.outside so.0.same, so.1),
          (λ x y w p i. (so.0.same x (sight y w) p).typ),
          behind_again S A k rd rest' n d z.1,
        )

    follows_so : {a : ℕ} {J : Jumping} {R Rn : Renaming} {rest : Body} {f f' : Body → Body} (c : RunBecomesCall A S.muts_there k modes items gain U F a J R Rn rest f f') → (ss : List Statement) → AllPlain ss → f rest ≡ block.before ss From → rest ≡ After
    follows_so {rest = rest} (run_becomes_call {r = s} Ra Rb mb ls body given moved ended never call handed) [] h q = (run_is A S.muts_there k had ended s rest q).1
    follows_so {rest = rest} (run_becomes_call {r = s} Ra Rb mb ls body given moved ended never call handed) (block.does e ∷ ss) h q = marked_not e h.0 (first_of (sym (written_so ended k s rest) ∙ q))
    follows_so {rest = rest} (run_becomes_call {r = s} Ra Rb mb ls body given moved ended never call handed) (block.begins n xs ∷ ss) h q = no_declaration (sym (written_so ended k s rest) ∙ q)
    follows_so {rest = rest} (run_becomes_call {r = s} Ra Rb mb ls body given moved ended never call handed) (block.binds n p c ∷ ss) h q = no_let (sym (written_so ended k s rest) ∙ q)

    module _ {V : Facts} (t0 : Temporary) (after : There (order_body After A.run.block t0)) where
      at_call : {a i : ℕ} {J : Jumping} {R Rn : Renaming} {rest rest' : Body} {f f' : Body → Body} (c : RunBecomesCall A S.muts_there k modes items gain U F a J R Rn rest f f') → CallOfTypes r S c
          → (l : LikeBody items (the_call A S.muts_there k modes items gain U F) gain V i J Rn rest rest') → BodyOfTypes r S (around_call S) l → Typed R → (m : ℕ) (t : Temporary) → Here S A k (order_body (f' rest') m t)
          → (ss : List Statement) → AllPlain ss → f rest ≡ block.before ss From → CallSo S c × BodySo S l
      at_call {rest' = rest'} c cs l so g m t y ss p q =
          let z = call_so rest' c cs g m t y in (z.0, body_so r S alike A k l so z.1 A.run.block m t0 t (subst (λ b. There (order_body b A.run.block t0)) (sym (follows_so c ss p q)) after) z.2)

      -- ---- the whole block, statement by statement

      block_so : {i : ℕ} {J : Jumping} {N : Renaming} {b b' : Body} (l : LikeBody items (the_call A S.muts_there k modes items gain U F) gain V i J N b b') → BlockOfTypes r S l → Typed N → (m : ℕ) (t : Temporary) → NoMarks (order_body b' m t) → Here S A k (order_body b' m t)
          → (ss : List Statement) → AllPlain ss → b ≡ block.before ss From → (W : Body) (n : ℕ) (d : Temporary) → There (order_body (block.before ss W) n d) → BlockSo S l
      block_so (opens_in a i h o l) s g m t u y ss p q W n d x = at_call o s.0 l s.1 g m t y ss p q
      block_so (ends_in l) s g m t u y ss p q W n d x = tt
      block_so (runs_on {e' = e'} i j h a l) s g m t u y [] p q W n d x = absurd (true≢false (sym (like_made a (ap is_made (first_of q))) ∙ unmarked e' (temporary_of e') u.0))
      block_so (runs_on {e = e} {e' = e'} i j h a l) s g m t u y (block.does v ∷ ss) p q W n d x = (
        exp_so r S alike A k a s.0 g (temporary_of e) (temporary_of e') (subst (λ c. There (order.order c (temporary_of c))) (sym (first_of q)) (of_first x)) (of_first y),
        block_so l s.1 g m t u.1 (of_second y) ss p.1 (rest_of q) W n d (of_second x),
      )
      block_so (runs_on i j h a l) s g m t u y (block.begins z xs ∷ ss) p q W n d x = no_declaration q
      block_so (runs_on i j h a l) s g m t u y (block.binds z w c ∷ ss) p q W n d x = no_let q
      block_so (declares_all M c l) s g m t u y [] p q W n d x = absurd (cc)
      block_so (declares_all M c l) s g m t u y (block.does e ∷ ss) p q W n d x = absurd (cc)
      block_so (declares_all {s' = z} {ys = ys} {b = b} {b' = b'} M c l) s g m t u y (block.begins v zs ∷ ss) p q W n d x =
          let w = declared_so r S alike c s.0 g in (
            w.0,
            block_so l s.1 w.1 m t (of_declared NoMarks no_mark_parts z ys m (order_body b' m t) u) (behind_declared z ys m (order_body b' m t) y) ss p.1 (let i : b ≡ block.before ss From = cc in i) W n d
                (behind_declared v zs n (order_body (block.before ss W) n d) x),
          )
      block_so (declares_all M c l) s g m t u y (block.binds z w e ∷ ss) p q W n d x = absurd (cc)
      block_so (lets_in M i j h c v l) s g m t u y [] p q W n d x = absurd (cc)
      block_so (lets_in M i j h c v l) s g m t u y (block.does e ∷ ss) p q W n d x = absurd (cc)
      block_so (lets_in M i j h c v l) s g m t u y (block.begins z zs ∷ ss) p q W n d x = absurd (cc)
      block_so (lets_in {q = o} {q' = o'} {c = c} {c' = c'} {b = b} {b' = b'} M i j h a v l) s g m t u y (block.binds z w e ∷ ss) p q W n d x =
          let o_is : w ≡ o = cc in let c_is : e ≡ c = cc in
          let f = subst (λ (a : Scrutinee). There (order_body (tree.lets z o a (block.before ss W)) n d)) c_is (subst (λ (a : tree.Pattern). There (order_body (tree.lets z a e (block.before ss W)) n d)) o_is x) in
          let k' = bindings_so r S alike v s.1 g n m (order_body (block.before ss W) n d) (order_body b' m t) (of_second f) (of_second y) in (
            matched_so r S alike A k a s.0 g (of_first f) (of_first y),
            k'.0,
            block_so l s.2 k'.1 m t (of_bindings NoMarks no_mark_parts (subject c') (bindings [] o') m (order_body b' m t) u.1) (behind_bindings (subject c') (bindings [] o') m (order_body b' m t) (of_second y)) ss p.1
                (let i : b ≡ block.before ss From = cc in i) W n d (behind_bindings (subject c) (bindings [] o) n (order_body (block.before ss W) n d) (of_second f)),
          )
      block_so (reads_place l) s g m t u y ss p q W n d x = absurd s
      block_so (looks_behind i e a l) s g m t u y ss p q W n d x = absurd s

    pub run_block_so : {V : Facts} {i : ℕ} {J : Jumping} {N : Renaming} {b' : Body} (l : LikeBody items (the_call A S.muts_there k modes items gain U F) gain V i J N (running_body A.run A.home.around.loops k.params A.home.body) b') → BlockOfTypes r S l → Typed N
        → (m : ℕ) (t : Temporary) → NoMarks (order_body b' m t) → There (order_function A.function) → Here S A k (order_body b' m t) → BlockSo S l
    run_block_so l s g m t u there y =
        let ss = statements A.home.body in
        let last = tree.ends (tail A.home.body) in
        let z = in_function (ReadsByType S.frame_there) parts_read A.function there A.home.around A.run.block A.home.body had.sits.block in
        let x = subst (λ b. There (order_body b A.run.block z.0)) (sym (body_is A.home.body)) z.1 in
        block_so z.0 (behind_first A.run.count (drop A.run.first ss) last A.run.block z.0 (behind_first A.run.first ss last A.run.block z.0 x)) l s g m t u y (in_front A.run A.home.body) (plain_front A S.muts_there k had) refl
        (block.before (drop A.run.first ss) last) A.run.block z.0 (subst (λ b. There (order_body b A.run.block z.0)) (sym (split_is A.run.first ss last)) x)
