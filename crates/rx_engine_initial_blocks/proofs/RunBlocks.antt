-- The run's block in the caller is alike the text's with all its marks: in front of the run as trees that are alike, then the call, then what follows.
use Rattle.std.specs.Prelude.{take, drop}
use Rattle.std.proofs.Common.{◌≡◌, ℕ, zero, suc, ◌==◌, Bool, true, false, List, [], ◌∷◌, map, Some, refl, sym, ◌∙◌, subst, ap, eqb-true, true≢false}
use Rattle.rx_typed.specs.Tree as tree
use Rattle.rx_typed.specs.Tree.{Mark, Temporary, Exp, Arms, Operands, Body, temporary_of}
use Rattle.rx_typed_declarations.specs.Sizes.{Sized}
use Rattle.rx_lower_walks.specs.Matching.{bindings}
use Rattle.rx_lower_walks.specs.Actions.{subject}
use Rattle.rx_lower_walks.specs.Orders.{order_body, order_function}
use Rattle.rx_lower_walks.specs.Walks.{Among, here}
use Rattle.rx_exits_plan.specs.Points.{next, enters, leaves}
use Rattle.rx_exits_plan.specs.Blocks as block
use Rattle.rx_exits_plan.specs.Blocks.{Statement, statements, tail}
use Rattle.rx_exits_plan.specs.Runs.{in_front, inside, behind}
use Rattle.rx_exits_plan.specs.Changed.{changed_statement}
use Rattle.rx_exits_plan.specs.Marked.{mark, using, ended, ended_tail, marked_body}
use Rattle.rx_exits_plan.specs.Asked.{Asked}
use Rattle.rx_exits_plan.specs.Plan.{Plan}
use Rattle.rx_exits_plan.specs.Unreachable.{At, Unreachable}
use Rattle.rx_modes_policy.specs.declared.uses.Mode.{Mode}
use Rattle.rx_engine_simulation.specs.Turns.{Allowance}
use Rattle.rx_engine_simulation.specs.Histories.{Facts}
use Rattle.rx_engine_simulation.specs.Sights.{Renaming}
use Rattle.rx_engine_simulation.specs.Jumps.{Jumping}
use Rattle.rx_engine_simulation.specs.Passing.{New}
use Rattle.rx_engine_simulation.specs.Blocks.{Stretch, before}
use Rattle.rx_engine_simulation.specs.Marks.{closed_by}
use Rattle.rx_engine_simulation.specs.Packing.{Way}
use Rattle.rx_engine_simulation.specs.Endings.{Last, with_last}
use Rattle.rx_engine_simulation.specs.Like.{LikeMatched, at_places, of_values, LikeBody, opens_in, ends_in, runs_on, declares_all, lets_in, reads_place, looks_behind}
use Rattle.rx_engine_related.specs.ByForm.{IsItself}
use Rattle.rx_engine_related.specs.Given.{EntersWith}
use Rattle.rx_engine_related.specs.Moved.{Ended}
use Rattle.rx_engine_related.specs.Had.{Had}
use Rattle.rx_engine_related.specs.Handed.{Handed}
use Rattle.rx_engine_related.specs.Running.{passing, running_body}
use Rattle.rx_engine_related.specs.Standing.{marked_run, CallOf, call_alone, call_matched, call_left, RunBecomesCall, run_becomes_call, the_call}
use Rattle.rx_engine_related.proofs.Bare.{NoMarks, no_marks}
use Rattle.rx_engine_related.proofs.Sole.{all_free}
use Rattle.rx_engine_initial.specs.Matching.{fill, Matches}
use Rattle.rx_engine_initial.specs.Variables.{Sides, KnownVariables}
use Rattle.rx_engine_initial.specs.Copies.{world}
use Rattle.rx_engine_initial.specs.Planned.{IsTextOf}
use Rattle.rx_engine_initial_calls.specs.RunPieces.{run_pieces}
use Rattle.rx_engine_initial_forms.specs.Alike as alike
use Rattle.rx_engine_initial_forms.specs.Alike.{AlikeExp, AlikeMatched}
use Rattle.rx_engine_initial_forms.specs.Binders.{AlikeDeclared, AlikeBindings}
use Rattle.rx_engine_initial_forms.specs.Agreeing.{Agrees}
use Rattle.rx_engine_initial_forms.specs.Following.{AgreesOnLoops, ExpAsked, MatchedSo, BodySo}
use Rattle.rx_engine_initial_forms.proofs.Begun.{declared_alike, bindings_alike}
use Rattle.rx_engine_initial_forms.proofs.Forms.{body_matches}
use Rattle.rx_engine_initial_forms.proofs.Following.{declared_loops, bound_loops, same_loops, exp_alike, body_alike}
use Rattle.rx_engine_initial_related.specs.CallerAsked.{EntersSo, CallerAsked}
use Rattle.rx_engine_initial_related.specs.FrontAlike.{FrontAlike, nothing_in_front, does_both, begins_both, binds_both}
use Rattle.rx_engine_initial_related.specs.Moving.{stretch_of}
use Rattle.rx_engine_initial_related.specs.Ending.{with_left}
use Rattle.rx_engine_initial_related.proofs.Fronts.{block_matches}
use Rattle.rx_engine_initial_related.proofs.Standing.{call_matches_run}
use Rattle.rx_engine_initial_related.proofs.MatchStanding.{match_matches_run}
use Rattle.rx_engine_initial_related.proofs.InBlocks.{OfParts, of_bindings, of_declared, in_function}
use Rattle.rx_engine_initial_blocks.specs.AtBlock.{MatchSo, CallSo, BlockSo}
use Rattle.rx_engine_initial_blocks.proofs.Marks.{is_made, unmarked, like_made}
use Rattle.rx_engine_initial_blocks.proofs.Cutting.{AllPlain, PlainBody, plain_of, plain_changed, plain_before, cut, unread, written_so}

pub no_mark_parts : OfParts NoMarks
no_mark_parts = record { first = λ h. h.0; second = λ h. h.1; one = λ h. h.0; tested = λ h. h.0; next = λ h. h.1; ended = λ h. h; pass = λ h. h }

pub marked_not : {A : Type 0} (e : Exp) → is_made e ≡ false → mark enters ≡ e → A
marked_not e h q = absurd (true≢false (ap is_made q ∙ h))

plain_taken : (i : ℕ) (ss : List Statement) → AllPlain ss → AllPlain (take i ss)
plain_taken zero ss h = tt
plain_taken (suc i) [] h = tt
plain_taken (suc i) (s ∷ ss) h = (h.0, plain_taken i ss h.1)

plain_dropped : (i : ℕ) (ss : List Statement) → AllPlain ss → AllPlain (drop i ss)
plain_dropped zero ss h = h
plain_dropped (suc i) [] h = tt
plain_dropped (suc i) (s ∷ ss) h = plain_dropped i ss h.1

pub first_of : {e f : Exp} {b c : Body} → tree.runs e b ≡ tree.runs f c → e ≡ f
first_of q = cc

pub rest_of : {e f : Exp} {b c : Body} → tree.runs e b ≡ tree.runs f c → b ≡ c
rest_of q = cc

pub no_declaration : {A : Type 0} {e : Exp} {b c : Body} {n : ℕ} {xs : List ℕ} → tree.runs e b ≡ tree.declares n xs c → A
no_declaration q = absurd (cc)

pub no_let : {A : Type 0} {e : Exp} {b c : Body} {n : ℕ} {p : tree.Pattern} {s : tree.Scrutinee} → tree.runs e b ≡ tree.lets n p s c → A
no_let q = absurd (cc)

-- ---- the text's block, which has no mark but those of the run

module _ (A : Asked) (muts : List Bool) (k : Plan) (had : Had A muts k) where
  abbrev pub runs_statements : List Statement
  runs_statements = map (changed_statement (passing A.home.around.loops)) (inside A.run A.home.body)

  abbrev pub follows : Body
  follows = block.before (behind A.run A.home.body) (tree.ends (tail A.home.body))

  abbrev pub from_the_run : Body
  from_the_run = tree.runs (mark enters) (block.before (map using k.params) (block.before runs_statements (tree.runs (mark (leaves next)) follows)))

  plain : AllPlain (statements A.home.body)
  plain = let z = in_function NoMarks no_mark_parts A.function (no_marks (order_function A.function) had.unmarked.none) A.home.around A.run.block A.home.body had.sits.block in
      plain_of (statements A.home.body) (all_free A.home.body A.run.block z.0 z.1).0

  pub plain_front : AllPlain (in_front A.run A.home.body)
  plain_front = plain_taken A.run.first (statements A.home.body) plain

  plain_run : AllPlain runs_statements
  plain_run = plain_changed A.home.around.loops (inside A.run A.home.body) (plain_taken A.run.count (drop A.run.first (statements A.home.body)) (plain_dropped A.run.first (statements A.home.body) plain))

  plain_follows : PlainBody follows
  plain_follows = plain_before (behind A.run A.home.body) (tree.ends (tail A.home.body)) (plain_dropped A.run.count (drop A.run.first (statements A.home.body)) (plain_dropped A.run.first (statements A.home.body) plain)) tt

  pub run_is : {items : ℕ → ℕ} {gain : Allowance} {U : List ℕ} {special : List ℕ} {J : Jumping} {R : Renaming} {l : Last} {w : Way} {xs : List ℕ} {end : Body} → Ended items gain U special J R l w xs end → (r : Stretch) (rest : Body)
      → before (marked_run k l r) (with_last l rest) ≡ from_the_run → (with_left r l ≡ stretch_of runs_statements) × (rest ≡ follows)
  run_is {l = l} ended r rest q = cut (with_left r l) (leaves next) rest runs_statements follows plain_run plain_follows
      (unread k.params (before (closed_by (with_left r l) (leaves next)) rest) (block.before runs_statements (tree.runs (mark (leaves next)) follows)) (rest_of (sym (written_so ended k r rest) ∙ q)))

module _ (S : Sides) (A : Asked) (k : Plan) (had : Had A S.muts_there k) (self : IsItself (Some (Some A.function))) (reached : (q : At) → Unreachable A q → ⊥) (sized : Sized S.frame.declared S.frame.sizes) (text : IsTextOf S A k) where
  abbrev After : Body
  After = follows A S.muts_there k had

  abbrev From : Body
  From = from_the_run A S.muts_there k had

  -- ---- the call

  -- in the answer: statements in front of the call, and the call with what follows
  record Found (K : KnownVariables S) (ss : List Statement) (b' : Body) : Type 0 where
    statements_here : List Statement
    scope : KnownVariables S
    front : FrontAlike S K statements_here ss scope
    after : Body
    is : b' ≡ block.before statements_here after
    matches : (m : ℕ) (d t : Temporary) → Matches (world S) scope (order_body after m d) (fill (run_pieces A k) (order_body After A.run.block t))

  module _ {modes : List Mode} {items : ℕ → ℕ} {gain : Allowance} {U : List ℕ} {F : New} {V : Facts} where
    matched_alike : {i : ℕ} {J : Jumping} {N : Renaming} {c c' : tree.Scrutinee} (l : LikeMatched items (the_call A S.muts_there k modes items gain U F) gain V i J N c c') → MatchedSo S l → (R : KnownVariables S) → Agrees S N R → AgreesOnLoops S J R → AlikeMatched S R c' c
    matched_alike at_places s R g j = alike.at_places
    matched_alike (of_values l) s R g j = alike.of_values (exp_alike S l s R g j)

    -- where what follows the call is what follows the run
    module _ {i : ℕ} {J : Jumping} {R Rn : Renaming} {rest rest' : Body} (l : LikeBody items (the_call A S.muts_there k modes items gain U F) gain V i J Rn rest rest') (so : BodySo S l) (same : rest ≡ After) (K : KnownVariables S) (ag : Agrees S R K) (j : AgreesOnLoops S J K) where
      follows_match : (T : KnownVariables S) → Agrees S Rn T → T.loops ≡ K.loops → (m : ℕ) (d t : Temporary) → Matches (world S) T (order_body rest' m d) (order_body After A.run.block t)
      follows_match T g e m d t = subst (λ b. Matches (world S) T (order_body rest' m d) (order_body b A.run.block t)) same (body_matches S (body_alike S l so T g (same_loops S J K T e j)) m A.run.block d t)

      called : {mods : List Mode} {Ra Rb : Renaming} {es : Operands} {ps : List tree.Parameter} {ls : List (ℕ × ℕ)} {mc : Mark} {n : ℕ} {Ji : Jumping} {w : Way} {e : Exp} {f : Body → Body} {again : Bool}
          (given : EntersWith again k mods R es ps ls Ra) → EntersSo A given → (c : CallOf A S.muts_there k J R (tree.call mc n es) Ji w e) → MatchSo c → Handed A S.muts_there k R Rb e Rn f → CallerAsked S A k R Rn
          → (m : ℕ) (d t : Temporary) → Matches (world S) K (order_body (f rest') m d) (fill (run_pieces A k) (order_body After A.run.block t))
      called given gs (call_alone e) ms handed asked m d t =
          let z = call_matches_run S A k had reached sized text (subst (λ xs. Among next xs) (sym e) here) given gs handed asked K ag in
          z.3 m rest' d (order_body After A.run.block t) (follows_match z.0 z.1 z.2 m d t)
      called given gs (call_matched {l = tree.no_arm} unit q a p r n g e) ms handed asked m d t = absurd ms
      called given gs (call_matched {l = tree.arm_and p0 e0 l0} unit q a p r n g e) ms handed asked m d t =
          let z = match_matches_run S A k had self reached sized text given gs (call_matched {l = tree.arm_and p0 e0 l0} unit q a p r n g e) ms handed asked K ag j (order_body After A.run.block t) in
          z.3 m rest' d (follows_match z.0 z.1 z.2 m d t)
      called given gs (call_left {l = tree.no_arm} unit n a) ms handed asked m d t = absurd ms
      called given gs (call_left {l = tree.arm_and p0 e0 l0} unit n a) ms handed asked m d t =
          let z = match_matches_run S A k had self reached sized text given gs (call_left {l = tree.arm_and p0 e0 l0} unit n a) ms handed asked K ag j (order_body After A.run.block t) in
          z.3 m rest' d (follows_match z.0 z.1 z.2 m d t)

    -- the statements that became the call
    becomes_call : {a i : ℕ} {J : Jumping} {R Rn : Renaming} {rest rest' : Body} {f f' : Body → Body} (c : RunBecomesCall A S.muts_there k modes items gain U F a J R Rn rest f f') → CallSo S c → (l : LikeBody items (the_call A S.muts_there k modes items gain U F) gain V i J Rn rest rest') → BodySo S l
        → (K : KnownVariables S) → Agrees S R K → AgreesOnLoops S J K → (ss : List Statement) → AllPlain ss → f rest ≡ block.before ss From → Found K ss (f' rest')
    becomes_call {rest = rest} {rest' = rest'} {f' = f'} (run_becomes_call {r = r} {l = last} Ra Rb mb ls body given moved ended never call handed) cs l so K g j [] h q =
        let z = run_is A S.muts_there k had ended r rest q in
        record { statements_here = []; scope = K; front = nothing_in_front; after = f' rest'; is = refl; matches = λ m d t. called l so z.1 K g j given cs.0 call cs.2 handed cs.1 m d t }
    becomes_call {rest = rest} (run_becomes_call {r = r} Ra Rb mb ls body given moved ended never call handed) cs l so K g j (block.does e ∷ ss) h q = marked_not e h.0 (first_of (sym (written_so ended k r rest) ∙ q))
    becomes_call {rest = rest} (run_becomes_call {r = r} Ra Rb mb ls body given moved ended never call handed) cs l so K g j (block.begins n xs ∷ ss) h q = no_declaration (sym (written_so ended k r rest) ∙ q)
    becomes_call {rest = rest} (run_becomes_call {r = r} Ra Rb mb ls body given moved ended never call handed) cs l so K g j (block.binds n p c ∷ ss) h q = no_let (sym (written_so ended k r rest) ∙ q)

    -- ---- the whole block, statement by statement

    fronts : {i : ℕ} {J : Jumping} {N : Renaming} {b b' : Body} (l : LikeBody items (the_call A S.muts_there k modes items gain U F) gain V i J N b b') → BlockSo S l → (n : ℕ) (d : Temporary) → NoMarks (order_body b' n d) → (K : KnownVariables S) → Agrees S N K → AgreesOnLoops S J K
        → (ss : List Statement) → AllPlain ss → b ≡ block.before ss From → Found K ss b'
    fronts (opens_in a i h o l) s n d u K g j ss p q = becomes_call o s.0 l s.1 K g j ss p q
    fronts (ends_in l) s n d u K g j [] p q = absurd (cc)
    fronts (ends_in l) s n d u K g j (block.does e ∷ ss) p q = absurd (cc)
    fronts (ends_in l) s n d u K g j (block.begins m xs ∷ ss) p q = absurd (cc)
    fronts (ends_in l) s n d u K g j (block.binds m w c ∷ ss) p q = absurd (cc)
    fronts (runs_on {e = e} {e' = e'} i k h a l) s n d u K g j [] p q =
        absurd (true≢false (sym (like_made a (ap is_made (first_of q))) ∙ unmarked e' (temporary_of e') u.0))
    fronts (runs_on {e = e} {e' = e'} {b' = b'} x y h a l) s n d u K g j (block.does f ∷ ss) p q =
        let z = fronts l s.1 n d u.1 K g j ss p.1 (rest_of q) in
        record { statements_here = block.does e' ∷ z.statements_here; scope = z.scope; front = does_both (subst (λ v. AlikeExp S K e' v) (first_of q) (exp_alike S a s.0 K g j)) z.front; after = z.after; is = ap (λ c. tree.runs e' c) z.is; matches = z.matches }
    fronts (runs_on x y h a l) s n d u K g j (block.begins m xs ∷ ss) p q = no_declaration q
    fronts (runs_on x y h a l) s n d u K g j (block.binds m w c ∷ ss) p q = no_let q
    fronts (declares_all M c l) s n d u K g j [] p q = absurd (cc)
    fronts (declares_all M c l) s n d u K g j (block.does e ∷ ss) p q = absurd (cc)
    fronts {J = J} (declares_all {s' = m'} {xs = xs} {ys = ys} {b = r} {b' = b'} M c l) s n d u K g j (block.begins m zs ∷ ss) p q =
        let y = declared_alike S V c s.0 K g in
        let z = fronts l s.1 n d (of_declared NoMarks no_mark_parts m' ys n (order_body b' n d) u) y.0 y.2 (same_loops S J K y.0 (declared_loops S y.1) j) ss p.1 (let i : r ≡ block.before ss From = cc in i) in
        let e : xs ≡ zs = cc in
        record { statements_here = block.begins m' ys ∷ z.statements_here; scope = z.scope; front = begins_both (subst (λ v. AlikeDeclared S K ys v y.0) e y.1) z.front; after = z.after; is = ap (λ c. tree.declares m' ys c) z.is; matches = z.matches }
    fronts (declares_all M c l) s n d u K g j (block.binds m w e ∷ ss) p q = absurd (cc)
    fronts (lets_in M x y h c v l) s n d u K g j [] p q = absurd (cc)
    fronts (lets_in M x y h c v l) s n d u K g j (block.does e ∷ ss) p q = absurd (cc)
    fronts (lets_in M x y h c v l) s n d u K g j (block.begins m zs ∷ ss) p q = absurd (cc)
    fronts {J = J} (lets_in {s' = m'} {q = o} {q' = o'} {c = c} {c' = c'} {b = r} {b' = b'} M x y h a v l) s n d u K g j (block.binds n0 w e ∷ ss) p q =
        let t = bindings_alike S V v s.1 K g in
        let z = fronts l s.2 n d (of_bindings NoMarks no_mark_parts (subject c') (bindings [] o') n (order_body b' n d) u.1) t.0 t.2 (same_loops S J K t.0 (bound_loops S t.1) j) ss p.1 (let i : r ≡ block.before ss From = cc in i) in
        let f : o ≡ w = cc in let m : c ≡ e = cc in
        record {
          statements_here = block.binds m' o' c' ∷ z.statements_here;
          scope = z.scope;
          front = binds_both (subst (λ x. AlikeMatched S K c' x) m (matched_alike a s.0 K g j)) (subst (λ x. AlikeBindings S (subject c') (subject x) K (bindings [] o') (bindings [] w) t.0) m (subst (λ x. AlikeBindings S (subject c') (subject c) K (bindings [] o') (bindings [] x) t.0) f t.1)) z.front;
          after = z.after;
          is = ap (λ b. tree.lets m' o' c' b) z.is;
          matches = z.matches;
        }
    fronts (reads_place l) s n d u K g j ss p q = absurd s
    fronts (looks_behind x e a l) s n d u K g j ss p q = absurd s

    pub run_block_alike : {i : ℕ} {J : Jumping} {N : Renaming} {b' : Body} (l : LikeBody items (the_call A S.muts_there k modes items gain U F) gain V i J N (running_body A.run A.home.around.loops k.params A.home.body) b') → BlockSo S l → (m m' : Mark) → (m.node == A.run.block) ≡ true → (d : Temporary) → NoMarks (order_body b' m'.node d)
        → ExpAsked S J N (tree.block m' b') (tree.block m (marked_body A.run A.home.around.loops k.params A.home.body))
    run_block_alike {b' = b'} l s m m' e d u K g j =
        let z = fronts l s m'.node d u K g j (in_front A.run A.home.body) (plain_front A S.muts_there k had) refl in
        alike.is_opened (λ d t. subst (λ n. Matches (world S) K (order_body b' m'.node d) (order_body (marked_body A.run A.home.around.loops k.params A.home.body) n t)) (sym (eqb-true m.node A.run.block e))
        (subst (λ b. Matches (world S) K (order_body b m'.node d) (order_body (marked_body A.run A.home.around.loops k.params A.home.body) A.run.block t)) (sym z.is)
        (block_matches S A k K z.scope z.statements_here z.front z.after m'.node d t
        (subst (λ c. Matches (world S) z.scope (order_body z.after m'.node d) (fill (run_pieces A k) (order_body (block.before (behind A.run A.home.body) (tree.ends (ended_tail c A.run.block A.home.around.loops (tail A.home.body)))) A.run.block t))) (sym had.short) (z.matches m'.node d t)))))
