-- Where the block of the run is found to be, in the answer, that block with the call in place of the run, it is so as an extraction has it.
use Rattle.std.proofs.Common.{◌≡◌, ℕ, Bool, true, false, List, [], ◌∷◌, map, take, drop, Option, refl, sym, ap, ◌∙◌, subst, arith}
use Rattle.rx_typed.specs.Tree as tree
use Rattle.rx_typed.specs.Tree.{Mark, Exp, Operands, Body}
use Rattle.rx_lower_walks.specs.Walks.{Among}
use Rattle.rx_exits_plan.specs.Points.{next}
use Rattle.rx_exits_plan.specs.Blocks.{Statement, statements, tail, before}
use Rattle.rx_exits_plan.specs.Changed.{changed_statement}
use Rattle.rx_exits_plan.specs.Marked.{entering, ended}
use Rattle.rx_exits_plan.specs.Runs.{inside}
use Rattle.rx_exits_plan.specs.Asked.{Asked}
use Rattle.rx_exits_plan.specs.Plan.{Plan}
use Rattle.rx_engine_simulation.specs.Turns.{Allowance}
use Rattle.rx_engine_simulation.specs.Called.{a_turn}
use Rattle.rx_engine_simulation.specs.Sights.{Renaming}
use Rattle.rx_engine_simulation.specs.Jumps.{Jumping}
use Rattle.rx_engine_simulation.specs.Passing.{New}
use Rattle.rx_engine_simulation.specs.Openings.{Openings}
use Rattle.rx_engine_simulation.specs.Like.{LikeBody, opens_in}
use Rattle.rx_engine_simulation.specs.Blocks.{Stretch, with_locals}
use Rattle.rx_engine_simulation.specs.Blocks as stretch
use Rattle.rx_engine_simulation.specs.Endings.{Last, none_left, with_last}
use Rattle.rx_engine_simulation.specs.Packing.{Way, bare, as_variant, no_way}
use Rattle.rx_engine_simulation.specs.Rereads.{Rereads, in_block, RereadsBody, in_declare}
use Rattle.rx_engine_simulation.specs.Arrivals.{Within}
use Rattle.rx_engine_simulation.specs.Statements.{body_of}
use Rattle.rx_engine_related.specs.AboutRun.{special_of}
use Rattle.rx_engine_related.specs.Running.{passing, running_body}
use Rattle.rx_engine_related.specs.Premises.{NotHanded}
use Rattle.rx_engine_related.specs.ByForm.{by_form}
use Rattle.rx_engine_related.specs.Given.{EntersWith}
use Rattle.rx_engine_related.specs.Handed.{handed_on}
use Rattle.rx_engine_related.specs.Leaving.{left}
use Rattle.rx_engine_related.specs.Moved.{Moved, Ended}
use Rattle.rx_engine_related.specs.Never.{NeverEnds}
use Rattle.rx_engine_related.specs.Standing.{marked_run, CallOf, call_alone, call_matched, call_left, RunBecomesCall, run_becomes_call, the_call}
use Rattle.rx_engine_extracted.specs.Told.{Told, without}
use Rattle.rx_engine_extracted.specs.Entering.{Begun}
use Rattle.rx_engine_extracted.specs.Stretches.{Passed, like_first}
use Rattle.rx_engine_extracted.specs.Handing.{Put, Stood}
use Rattle.rx_engine_extracted.specs.Calls.{Called}
use Rattle.rx_engine_extracted.specs.Ending.{ran}
use Rattle.rx_engine_extracted.specs.Block.{between_around, between_in, block_of, function_runs, stands_for, rest_is_alike, is_put_so, run_is_call}
use Rattle.rx_engine_related.specs.Stretched.{stretch_of}
use Rattle.rx_engine_alike_laws.proofs.Promised.{Promised, kept, nothing, Says, silent, map_so, then_so, where_so, so, and_with}
use Rattle.rx_engine_alike_laws.proofs.Forms.{Whole}
use Rattle.rx_engine_alike_laws.proofs.Unmarked.{same_body}
use Rattle.rx_engine_validated.proofs.Walked.{AlikeBody, alike_body, body_alike}
use Rattle.rx_engine_validated.proofs.Stretches.{FirstSo, first_is, first_so, body_whole, in_front}
use Rattle.rx_engine_validated.proofs.Ending.{Divided, RanSo, ran_is, ran_so}
use Rattle.rx_engine_validated.proofs.Bodies.{behind_so, statements_unchanged, stretch_is, marked_is, never_divided}
use Rattle.rx_engine_validated.proofs.ExtractedLawsParts.{EnteredSo, entered_so, HandedSo, handed_so, HandsSo, RedeclaredSo, redeclared_so, CalledSo, called_so, CallsSo, Parts}

-- ---- tests

put_so : {P : Put → Type 0} {Q : Type 0} {o : Option Put} {f : Put → Bool} → Promised P o → ((D : Put) → P D → Says Q (f D)) → Says Q (is_put_so o f)
put_so (kept {a = D} p) g = g D p
put_so nothing g = silent

pub block_so : (e : Exp) → Promised (λ b. (m : Mark) × (tree.block m b ≡ e)) (block_of e)
block_so (tree.block m b) = kept (m, refl)
block_so _ = nothing

-- ---- where the run's end is no exit

-- the call is one that its function's end is not come to
not_next : {A : Asked} {muts : List Bool} {k : Plan} {J Ji : Jumping} {R : Renaming} {c e : Exp} {w : Way} → CallOf A muts k J R c Ji w e → w ≡ no_way → Among next k.exits → ⊥
not_next (call_alone only) q = absurd (by q)
  where
    by : bare ≡ no_way → ⊥
    by q = cc
not_next (call_matched {v = v} unit has arms picks receives new gives many) q = absurd (by q)
  where
    by : as_variant v ≡ no_way → ⊥
    by q = cc
not_next (call_left unit none arms) q = none

-- variables without a value stand in front of what is read
pub with_locals_read : (ls : List (ℕ × ℕ)) {b c : Body} → RereadsBody b c → RereadsBody (with_locals ls b) (with_locals ls c)
with_locals_read [] z = z
with_locals_read (l ∷ ls) z = in_declare (with_locals_read ls z)

module _ (A : Asked) (T : Told) (parts : Parts A T) (same : T.elsewhere ≡ special_of A T.muts T.plan) (no_outs : (Among next T.plan.exits → ⊥) → T.plan.outs next ≡ []) where
  abbrev gain : Allowance
  gain = a_turn true

  abbrev k : Plan
  k = T.plan

  -- the new function with this body
  abbrev pub new_with : Exp → New
  new_with e = record { number = T.new.number; function = record { params = T.new.function.params; body = e } }

  abbrev pub The : Exp → Openings
  The e = the_call A T.muts T.plan T.modes T.items (a_turn true) T.units (new_with e)

  abbrev marked : Body → List Statement
  marked b = map (changed_statement (passing T.around)) (take T.run.count (statements b))

  -- ---- the function

  -- it does what the run does, with a body that is read
  data RunsSo (J : Jumping) (R : Renaming) (text : Body) (K : Called) (e : Exp) (Rb : Renaming) : Type 0 where
    runs_so : {called : Exp} {mc mb : Mark} {l : Last} {r r' : Stretch} {end : Body} {ls : List (ℕ × ℕ)} {es : Operands} (Ra : Renaming) → Rereads T.new.function.body (body_of mb ls r' end)
        → EntersWith true k T.modes R es T.new.function.params ls Ra → Divided (marked text) l r → Moved T.items gain T.units (special_of A T.muts k) K.jumping Ra r r' Rb
        → Ended T.items gain T.units (special_of A T.muts k) K.jumping Rb l K.way (k.outs next) end
        → Rereads e called → CallOf A T.muts k J R (tree.call mc T.new.number es) K.jumping K.way called → RunsSo J R text K e Rb

  module _ (J : Jumping) (R : Renaming) (text : Body) (e : Exp) (K : Called) where
    made_run : {b : Body} {B : Begun} {called : Exp} {mc : Mark} {ls : List (ℕ × ℕ)} {es : Operands} {Rb : Renaming} (m : Mark) → tree.block m b ≡ T.new.function.body
        → EntersWith true k T.modes R es T.new.function.params ls B.inside → b ≡ with_locals ls B.rest
        → Rereads e called → CallOf A T.muts k J R (tree.call mc T.new.number es) K.jumping K.way called
        → RanSo (between_in T) gain K.jumping T.run.count B.inside text B.rest K.way (k.outs next) Rb → RunsSo J R text K e Rb
    made_run {B = B} {ls = ls} {Rb = Rb} m q ent is z call (ran_is {l = l} {r = r} {r' = r'} {end = end} div moved ended x) =
        runs_so B.inside (subst (λ x. Rereads x (body_of m ls r' end)) q (in_block (subst (λ c. RereadsBody c (with_locals ls (stretch.before r' end))) (sym is) (with_locals_read ls x)))) ent div
        (subst (λ s. Moved T.items gain T.units s K.jumping B.inside r r' Rb) same moved) (subst (λ s. Ended T.items gain T.units s K.jumping Rb l K.way (k.outs next) end) same ended) z call

    called_with : {b : Body} (B : Begun) {ls : List (ℕ × ℕ)} {es : Operands} (m : Mark) → tree.block m b ≡ T.new.function.body → EntersWith true k T.modes R es T.new.function.params ls B.inside
        → b ≡ with_locals ls B.rest
        → CalledSo A T J R e K es → Promised (λ Rb. RunsSo J R text K e Rb) (ran (between_in T) K.jumping K.way (k.outs next) T.run.count B.inside text B.rest)
    called_with B m q ent is (called_so z call) =
        map_so (λ Rb x. made_run m q ent is z call x) (ran_so (between_in T) gain K.jumping K.way (k.outs next) (λ y. no_outs (not_next call y)) T.run.count B.inside text B.rest)

    entered_with : {b : Body} (B : Begun) (m : Mark) → tree.block m b ≡ T.new.function.body → CallsSo A T J R e K → EnteredSo T R K.operands b B
        → Promised (λ Rb. RunsSo J R text K e Rb) (ran (between_in T) K.jumping K.way (k.outs next) T.run.count B.inside text B.rest)
    entered_with B m q calls (entered_so {fs = fs} z ent is) = called_with B m q ent is (calls fs z)

    function_so : CallsSo A T J R e K → Promised (λ Rb. RunsSo J R text K e Rb) (function_runs T K R text)
    function_so calls = then_so (block_so T.new.function.body) (λ b q. then_so (parts.enters R K.operands b) (λ B en. entered_with B q.0 q.1 calls en))

  -- ---- what stands for the run

  data StandsSo (J : Jumping) (p : Passed) (D : Put) : Type 0 where
    stands_so : {f : Exp} {l : Last} {r : Stretch} {g : Body → Body} → Rereads T.new.function.body f → Divided (marked p.text) l r
        → ((rest : Body) → RunBecomesCall A T.muts k T.modes T.items gain T.units (new_with f) 1 J p.inside D.inside rest (λ b. stretch.before (marked_run k l r) (with_last l b)) g)
        → ((rest : Body) → RereadsBody D.rest rest → RereadsBody p.answer (g rest)) → StandsSo J p D

  abbrev NeverRun : Body → Type 0
  NeverRun text = (Among next k.exits → ⊥) → NeverEnds none_left (stretch_of (marked text))

  module _ (J : Jumping) (p : Passed) (never : NeverRun p.text) (apart : NotHanded A T.muts k next (without (k.outs next) p.inside)) where
    abbrev Rs : Renaming
    Rs = without (k.outs next) p.inside

    stood_with : {called : Exp} {mc mb : Mark} {l : Last} {r r' : Stretch} {end : Body} {ls : List (ℕ × ℕ)} {es : Operands} {Rb : Renaming} {Ji : Jumping} {w : Way} (S : Stood) (D : Put)
        (Ra : Renaming) → Rereads T.new.function.body (body_of mb ls r' end)
        → EntersWith true k T.modes p.inside es T.new.function.params ls Ra → Divided (marked p.text) l r → Moved T.items gain T.units (special_of A T.muts k) Ji Ra r r' Rb
        → Ended T.items gain T.units (special_of A T.muts k) Ji Rb l w (k.outs next) end
        → CallOf A T.muts k J p.inside (tree.call mc T.new.number es) Ji w called → HandedSo A T p.inside Rs (k.outs next) p.answer S called → RedeclaredSo Rb S.inside k.redeclared S.rest D
        → Within p.inside D.inside → StandsSo J p D
    stood_with {mb = mb} {ls = ls} {Rb = Rb} S D Ra x ent div moved ended call (handed_so {g = g} back y) (redeclared_so {f = f} again z) within =
        stands_so {g = λ b. g (f b)} x div
        (λ rest. run_becomes_call {f' = λ b. g (f b)} Ra Rb mb ls refl ent moved ended (λ q. never_divided div (never (not_next call q))) call
        (handed_on {f = f} {g = g} Rs S.inside D.inside (parts.less (k.outs next) p.inside) apart back again (λ x e s. s) within))
        (λ rest a. y (f rest) (z rest a))

    stood : (S : Stood) (K : Called) {Rb : Renaming} (D : Put) → HandsSo A T p.inside Rs (k.outs next) p.answer S → RunsSo J p.inside p.text K S.called Rb
        → RedeclaredSo Rb S.inside k.redeclared S.rest D → Within p.inside D.inside → StandsSo J p D
    stood S K D hands (runs_so {called = called} Ra x ent div moved ended z call) again within = stood_with S D Ra x ent div moved ended call (hands called z) again within

    stands_found : (S : Stood) → HandsSo A T p.inside Rs (k.outs next) p.answer S → Promised (λ D. StandsSo J p D) (stands_for T J p S)
    stands_found S hands = then_so (parts.calls J p.inside S.called) (λ K calls. then_so (function_so J p.inside p.text S.called K calls) (λ Rb runs.
        then_so (parts.declares Rb S.inside k.redeclared S.rest) (λ D again. where_so (parts.within p.inside D.inside) (λ w. kept (stood S K D hands runs again w)))))

  -- ---- the block

  abbrev behind_run : Body → Body
  behind_run text = before (drop T.run.count (statements text)) (tree.ends (tail text))

  rest_so : (J : Jumping) (text : Body) (D : Put) {o : Option Body} → Promised (λ c. c ≡ behind_run text) o
      → Says (AlikeBody (between_around T) gain J D.inside (behind_run text) D.rest) (rest_is_alike T J o D)
  rest_so J text D (kept {a = c} q) = so (λ a. subst (λ b. AlikeBody (between_around T) gain J D.inside b D.rest) (same_body c ∙ q) a) (body_alike (between_around T) gain J D.inside c D.rest)
  rest_so J text D nothing = silent

  -- its statements, with the marks of the run; of the answer's, those of a body that is read
  pub data BlockSo (J : Jumping) (R : Renaming) (text answer : Body) : Type 0 where
    block_is : {f : Exp} {d : Body} → Rereads T.new.function.body f → RereadsBody answer d
        → LikeBody T.items (The f) gain (by_form (special_of A T.muts k)) 1 J R (running_body T.run T.around k.params text) d → BlockSo J R text answer

  -- the run and what is behind it, by the statements from there on
  abbrev from_run : List Statement → Exp → Body
  from_run ss e = before (entering k.params) (before (map (changed_statement (passing T.around)) (take T.run.count ss)) (before (ended false) (before (drop T.run.count ss) (tree.ends e))))

  in_place : {J : Jumping} (text : Body) (D : Put) {R : Renaming} {d : Body} {f : Exp} {l : Last} {r : Stretch} {g : Body → Body} → Whole J → Divided (marked text) l r
      → RunBecomesCall A T.muts k T.modes T.items gain T.units (new_with f) 1 J R D.inside (behind_run text) (λ b. stretch.before (marked_run k l r) (with_last l b)) g
      → LikeBody T.items (left T.units) gain (by_form T.elsewhere) 0 J D.inside (behind_run text) d
      → LikeBody T.items (The f) gain (by_form T.elsewhere) 1 J R (from_run (statements text) (tail text)) (g d)
  in_place {J} text D {R} {d = d} {f = f} {l = l} {r = r} {g = g} whole div call like =
      subst (λ c. LikeBody T.items (The f) gain (by_form T.elsewhere) 1 J R c (g d)) (marked_is k (behind_run text) div)
      (opens_in {b = behind_run text} {b' = d} {f = λ b. stretch.before (marked_run k l r) (with_last l b)} {f' = g} 1 0 (omega arith) call
      (body_whole T.items gain T.units T.elsewhere (The f) whole like))

  whole_block : {J : Jumping} {R : Renaming} {text answer : Body} {p : Passed} {D : Put} → Whole J → FirstSo (between_around T) gain J T.run.first R text answer p → StandsSo J p D
      → AlikeBody (between_around T) gain J D.inside (behind_run p.text) D.rest → BlockSo J R text answer
  whole_block {J} {R} {text} {p = p} {D = D} whole (first_is {r = r} m x s t) (stands_so {f = f} {g = g} y div call z) (alike_body {d = d} a like) =
      block_is y (x (g d) (z d a)) (subst (λ l. LikeBody T.items (The f) gain (by_form l) 1 J R (running_body T.run T.around k.params text) (stretch.before r (g d))) same
      (subst (λ c. LikeBody T.items (The f) gain (by_form T.elsewhere) 1 J R c (stretch.before r (g d))) there
      (in_front T.items gain T.units T.elsewhere (The f) whole m (in_place p.text D whole div (call (behind_run p.text)) like))))
    where
      front : List Statement
      front = take T.run.first (statements text)

      there : stretch.before (stretch_of (map (changed_statement (passing [])) front)) (from_run (statements p.text) (tail p.text)) ≡ running_body T.run T.around k.params text
      there = stretch_is (map (changed_statement (passing [])) front) (from_run (statements p.text) (tail p.text)) ∙ ap (λ l. before l (from_run (statements p.text) (tail p.text)))
          (statements_unchanged front)
          ∙ ap (λ l. before front (from_run l (tail p.text))) s ∙ ap (λ e. before front (from_run (drop T.run.first (statements text)) e)) t

  module _ (J : Jumping) (whole : Whole J) (R : Renaming) (text answer : Body)
      (never : (Among next k.exits → ⊥) → NeverEnds none_left (stretch_of (map (changed_statement (passing T.around)) (inside T.run text)))) where
    run_found : {o : Option Passed} → Promised (λ p. FirstSo (between_around T) gain J T.run.first R text answer p) o → Says (BlockSo J R text answer) (run_is_call T J o)
    run_found nothing = silent
    run_found (kept {a = p} first) = and_with (parts.not_handed p.inside) (λ apart.
        put_so (then_so (parts.hands p.inside (without (k.outs next) p.inside) (k.outs next) p.answer) (λ S hands. stands_found J p (never_there first) apart S hands))
        (λ D stands. so (λ a. whole_block whole first stands a) (rest_so J p.text D (behind_so T.run.count p.text))))
      where
        never_there : FirstSo (between_around T) gain J T.run.first R text answer p → NeverRun p.text
        never_there (first_is m x s t) none = subst (λ l. NeverEnds none_left (stretch_of (map (changed_statement (passing T.around)) (take T.run.count l)))) (sym s) (never none)

    pub block_found : Says (BlockSo J R text answer) (run_is_call T J (like_first (between_around T) J T.run.first R text answer))
    block_found = run_found (first_so (between_around T) gain J T.run.first R text answer)
