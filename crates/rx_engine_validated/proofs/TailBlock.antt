-- Where the block of a run that holds its tail is found to be, in the answer, that block with the call in place of the run, it is so as an extraction
-- has it; also the body of a function.
use Rattle.std.proofs.Common.{◌≡◌, ◌⊎◌, inl, inr, ℕ, Bool, true, false, List, [], map, take, drop, Option, if◌then◌else◌, refl, sym, ap, ◌∙◌, subst, arith}
use Rattle.rx_typed.specs.Tree as tree
use Rattle.rx_typed.specs.Tree.{Mark, Exp, Operands, Body}
use Rattle.rx_typed.specs.Types.{Typ}
use Rattle.rx_lower_walks.specs.Walks.{Among}
use Rattle.rx_exits_plan.specs.Points.{next, enters, leaves}
use Rattle.rx_exits_plan.specs.Blocks.{Statement, statements, tail, written_tail, before}
use Rattle.rx_exits_plan.specs.Changed.{changed, changed_statement}
use Rattle.rx_exits_plan.specs.Marked.{mark, using, entering}
use Rattle.rx_exits_plan.specs.Runs.{inside}
use Rattle.rx_exits_plan.specs.Asked.{Asked}
use Rattle.rx_exits_plan.specs.Plan.{Plan}
use Rattle.rx_engine_simulation.specs.Turns.{Allowance}
use Rattle.rx_engine_simulation.specs.Called.{a_turn}
use Rattle.rx_engine_simulation.specs.Sights.{Renaming}
use Rattle.rx_engine_simulation.specs.Jumps.{Jumping}
use Rattle.rx_engine_simulation.specs.Passing.{New}
use Rattle.rx_engine_simulation.specs.Openings.{Openings}
use Rattle.rx_engine_simulation.specs.Like.{LikeBody, opens_in, ends_in, units}
use Rattle.rx_engine_simulation.specs.Blocks.{Stretch, with_locals}
use Rattle.rx_engine_simulation.specs.Blocks as stretch
use Rattle.rx_engine_simulation.specs.Marks.{with_mark}
use Rattle.rx_engine_simulation.specs.Endings.{Last, a_marked, with_last}
use Rattle.rx_engine_simulation.specs.Packing.{Way, bare, as_variant, no_way}
use Rattle.rx_engine_simulation.specs.Rereads.{Rereads, in_call, in_block, RereadsBody}
use Rattle.rx_engine_simulation.specs.Statements.{body_of}
use Rattle.rx_engine_simulation.specs.Arrivals.{Within}
use Rattle.rx_engine_related.specs.AboutRun.{special_of}
use Rattle.rx_engine_related.specs.Running.{passing}
use Rattle.rx_engine_related.specs.Tailed.{passing_value, tailed_body}
use Rattle.rx_engine_related.specs.Premises.{NotHanded}
use Rattle.rx_engine_related.specs.ByForm.{by_form}
use Rattle.rx_engine_related.specs.Given.{EntersWith}
use Rattle.rx_engine_related.specs.Moved.{Moved}
use Rattle.rx_engine_related.specs.Never.{NeverEnds}
use Rattle.rx_engine_related.specs.Stretched.{stretch_of}
use Rattle.rx_engine_related.specs.Tails.{TailEnded, TailHanded, TailCallOf, tail_call_alone, tail_call_matched, tail_call_left, TailBecomesCall, tail_becomes_call, the_tail_call}
use Rattle.rx_engine_extracted.specs.Told.{Told, without}
use Rattle.rx_engine_extracted.specs.Entering.{Begun}
use Rattle.rx_engine_extracted.specs.Stretches.{Passed, like_first}
use Rattle.rx_engine_extracted.specs.Handing.{Put, Stood}
use Rattle.rx_engine_extracted.specs.Calls.{Called, is_only_next}
use Rattle.rx_engine_extracted.specs.Block.{between_around, between_in}
use Rattle.rx_engine_extracted.specs.TailEnding.{ran_to_tail}
use Rattle.rx_engine_extracted.specs.TailHanding.{gives_at, gives_unit_back}
use Rattle.rx_engine_extracted.specs.TailBlock.{function_ends, call_ends, unit_stands_for, unit_stands, is_some_renaming, value_stands, may_drop, call_is_dropped, tail_is_unit, tail_stands, may_end, tail_is_call}
use Rattle.rx_engine_dropped.specs.DropBlock.{DropsCall}
use Rattle.rx_engine_alike_laws.proofs.Promised.{Promised, kept, nothing, Says, says, silent, map_so, then_so, where_so, so, and_so, and_with}
use Rattle.rx_engine_alike_laws.proofs.Forms.{Whole}
use Rattle.rx_engine_validated.specs.Telling.{with_value}
use Rattle.rx_engine_validated.proofs.ExtractedLawsParts.{EnteredSo, entered_so, HandsSo, RedeclaredSo, TailCalledSo, tail_called_so, TailCallsSo}
use Rattle.rx_engine_validated.proofs.Entering.{enters_so}
use Rattle.rx_engine_validated.proofs.Handing.{hands_so, declares_so, within_so}
use Rattle.rx_engine_validated.proofs.Arms.{is_put_so}
use Rattle.rx_engine_validated.proofs.Calls.{IsCall, is_call, alone_is_call, tail_calls_so}
use Rattle.rx_engine_validated.proofs.Found.{not_handed_so}
use Rattle.rx_engine_validated.proofs.Stretches.{FirstSo, first_is, first_so, in_front}
use Rattle.rx_engine_validated.proofs.Bodies.{statements_unchanged, stretch_is, reading_is}
use Rattle.rx_engine_validated.proofs.Block.{block_so, with_locals_read}
use Rattle.rx_engine_validated.proofs.TailEnding.{RanToTail, ran_to, ran_to_so, given_so, has_none_so}
use Rattle.rx_engine_validated.proofs.TailHanding.{PassedAs, passed_tail, passed_end, is_tail, passed_as, no_rest, HandedAs, handed_as, value_given, DropsAs, drops_as, DropsEach, dropped_found, UnitLast, unit_last_so, unit_given}
use Rattle.rx_engine_validated.proofs.TailValued.{becomes}

-- the call is one that its function's end is not come to
not_next : {A : Asked} {muts : List Bool} {k : Plan} {J Ji : Jumping} {R : Renaming} {c e : Exp} {has : Bool} {w : Way} → TailCallOf A muts k J R c has Ji w e → w ≡ no_way → Among next k.exits → ⊥
not_next (tail_call_alone only) q = absurd (by q)
  where
    by : bare ≡ no_way → ⊥
    by q = cc
not_next (tail_call_matched {v = v} unit has arms picks receives new gives many) q = absurd (by q)
  where
    by : as_variant v ≡ no_way → ⊥
    by q = cc
not_next (tail_call_left unit none arms) q = none

some_so : {P : Renaming → Type 0} {Q : Type 0} {o : Option Renaming} → Promised P o → ((R : Renaming) → P R → Q) → Says Q (is_some_renaming o)
some_so (kept {a = R} p) g = says (g R p)
some_so nothing g = silent

-- statements in front of a tail, with the mark of the run's entry and the reads of its params
entered_is : (xs : List ℕ) (ss : List Statement) (c : Body) → stretch.before (with_mark enters xs (stretch_of ss)) c ≡ before (entering xs) (before ss c)
entered_is xs ss c = ap (λ c. tree.runs (mark enters) c) (reading_is xs (stretch_of ss) c ∙ ap (λ c. before (map using xs) c) (stretch_is ss c))

last_is : {k : Plan} {e z : Exp} {own : Bool} {l : Last} (b : Body) → PassedAs k e own z l → with_last l b ≡ tree.ends z
last_is b passed_tail = refl
last_is b (passed_end none) = refl

module _ (A : Asked) (T : Told) (value : Option Typ) (same : T.elsewhere ≡ special_of A T.muts T.plan) where
  abbrev gain : Allowance
  gain = a_turn true

  abbrev h : Plan
  h = T.plan

  abbrev k : Plan
  k = with_value value T.plan

  -- the new function with this body
  abbrev pub tail_new : Exp → New
  tail_new e = record { number = T.new.number; function = record { params = T.new.function.params; body = e } }

  abbrev pub TheTail : Exp → Openings
  TheTail e = the_tail_call A T.muts k T.modes T.items gain T.units (tail_new e)

  abbrev marked : Body → List Statement
  marked b = map (changed_statement (passing T.around)) (take T.run.count (statements b))

  -- the run's tail, with the marks of its jumps
  abbrev tail_of : Body → Exp
  tail_of b = changed (passing T.around) (written_tail T.run.block (tail b))

  abbrev NeverRun : Body → Type 0
  NeverRun b = (Among next h.exits → ⊥) → NeverEnds (a_marked (tail_of b) (leaves next)) (stretch_of (marked b))

  -- ---- the function does what the run does, with a body that is read, and the expression is the call of it

  data RunsSo (has : Bool) (J : Jumping) (R : Renaming) (text : Body) (e : Exp) (Rb : Renaming) : Type 0 where
    runs_so : {Ji : Jumping} {w : Way} {called : Exp} {mc mb : Mark} {r' : Stretch} {end : Body} {ls : List (ℕ × ℕ)} {es : Operands} (Ra : Renaming) → Rereads T.new.function.body (body_of mb ls r' end)
        → EntersWith true h T.modes R es T.new.function.params ls Ra → Moved T.items gain T.units (special_of A T.muts h) Ji Ra (stretch_of (marked text)) r' Rb
        → TailEnded T.items gain T.units (special_of A T.muts h) Ji Rb (tail_of text) has w (h.outs next) end
        → Rereads e called → TailCallOf A T.muts h J R (tree.call mc T.new.number es) has Ji w called → RunsSo has J R text e Rb

  module _ (has : Bool) (J : Jumping) (R : Renaming) (text : Body) (e : Exp) (K : Called) where
    made_run : {b : Body} {B : Begun} {called : Exp} {mc : Mark} {ls : List (ℕ × ℕ)} {es : Operands} {Rb : Renaming} (m : Mark) → tree.block m b ≡ T.new.function.body
        → EntersWith true h T.modes R es T.new.function.params ls B.inside → b ≡ with_locals ls B.rest
        → Rereads e called → TailCallOf A T.muts h J R (tree.call mc T.new.number es) has K.jumping K.way called
        → RanToTail (between_in T) gain K.jumping T.run.count B.inside text (written_tail T.run.block (tail text)) B.rest has K.way (h.outs next) Rb → RunsSo has J R text e Rb
    made_run {B = B} {ls = ls} {Rb = Rb} m q ent is z call (ran_to {r' = r'} {end = end} moved ended x) =
        runs_so B.inside (subst (λ x. Rereads x (body_of m ls r' end)) q (in_block (subst (λ c. RereadsBody c (with_locals ls (stretch.before r' end))) (sym is) (with_locals_read ls x)))) ent
        (subst (λ s. Moved T.items gain T.units s K.jumping B.inside (stretch_of (marked text)) r' Rb) same moved)
        (subst (λ s. TailEnded T.items gain T.units s K.jumping Rb (tail_of text) has K.way (h.outs next) end) same ended) z call

    called_with : {b : Body} (B : Begun) {ls : List (ℕ × ℕ)} {es : Operands} (m : Mark) → tree.block m b ≡ T.new.function.body → EntersWith true h T.modes R es T.new.function.params ls B.inside
        → b ≡ with_locals ls B.rest → TailCalledSo A T has J R e K es
        → Promised (λ Rb. RunsSo has J R text e Rb) (ran_to_tail has (between_in T) K.jumping K.way (h.outs next) T.run.count B.inside text (written_tail T.run.block (tail text)) B.rest)
    called_with B m q ent is (tail_called_so z call) =
        map_so (λ Rb x. made_run m q ent is z call x) (ran_to_so (between_in T) gain K.jumping has K.way (h.outs next) T.run.count B.inside text (written_tail T.run.block (tail text)) B.rest)

    entered_with : {b : Body} (B : Begun) (m : Mark) → tree.block m b ≡ T.new.function.body → TailCallsSo A T has J R e K → EnteredSo T R K.operands b B
        → Promised (λ Rb. RunsSo has J R text e Rb) (ran_to_tail has (between_in T) K.jumping K.way (h.outs next) T.run.count B.inside text (written_tail T.run.block (tail text)) B.rest)
    entered_with B m q calls (entered_so {fs = fs} z ent is) = called_with B m q ent is (calls fs z)

    function_so : TailCallsSo A T has J R e K → Promised (λ Rb. RunsSo has J R text e Rb) (function_ends has T K R text)
    function_so calls = then_so (block_so T.new.function.body) (λ b q. then_so (enters_so T R K.operands b) (λ B en. entered_with B q.0 q.1 calls en))

  runs_found : (has : Bool) (J : Jumping) (R : Renaming) (text : Body) (e : Exp) → Promised (λ Rb. RunsSo has J R text e Rb) (call_ends has T J R text e)
  runs_found has J R text e = then_so (tail_calls_so A T same has J R e) (λ K calls. function_so has J R text e K calls)

  -- where the call is alone
  both_so : {B : Type 0} {M N : B → Type 0} {o : Option B} → Promised M o → Promised N o → Promised (λ b. M b × N b) o
  both_so (kept x) (kept y) = kept (x, y)
  both_so nothing nothing = nothing

  data IsTheCall : Exp → Type 0 where
    the_call : {m : Mark} {es : Operands} → IsTheCall (tree.call m T.new.number es)

  to_call : {e : Exp} → (es : Operands) × IsCall A T same true T.new.number es e → IsTheCall e
  to_call (es, is_call) = the_call

  call_found : (J : Jumping) (R : Renaming) (text : Body) (e : Exp) → is_only_next h.exits ≡ true → Promised (λ Rb. IsTheCall e × RunsSo true J R text e Rb) (call_ends true T J R text e)
  call_found J R text e only = then_so (both_so (tail_calls_so A T same true J R e) (alone_is_call A T same true J R (is_only_next h.exits) only e))
      (λ K c. map_so (λ Rb runs. (to_call c.1, runs)) (function_so true J R text e K c.0))

  -- ---- what stands for the run

  -- what the call gives is dropped, beside a block that gives it
  data DropsSo (J : Jumping) (p : Passed) (l : Last) : Type 0 where
    drops_so : {f : Exp} {Rn : Renaming} {g : Body → Body} {d : Body} → T.gives_unit ≡ true → Rereads T.new.function.body f
        → ((rest : Body) → TailBecomesCall A T.muts h T.modes T.items gain T.units (tail_new f) 1 J p.inside Rn rest (λ b. stretch.before (with_mark enters h.params (stretch_of (marked p.text))) (with_last l b)) g)
        → RereadsBody p.answer d → DropsCall T.new.number d (g no_rest) → DropsSo J p l

  data StandsSo (J : Jumping) (p : Passed) (l : Last) : Type 0 where
    stands_so : {f : Exp} {Rn : Renaming} {g : Body → Body} → Rereads T.new.function.body f
        → ((rest : Body) → TailBecomesCall A T.muts h T.modes T.items gain T.units (tail_new f) 1 J p.inside Rn rest (λ b. stretch.before (with_mark enters h.params (stretch_of (marked p.text))) (with_last l b)) g)
        → RereadsBody p.answer (g no_rest) → StandsSo J p l

  module _ (J : Jumping) (whole : Whole J) (p : Passed) (never : NeverRun p.text) (apart : NotHanded A T.muts h next (without (h.outs next) p.inside))
      {own : Bool} {z : Exp} {l : Last} (passed : PassedAs h (tail_of p.text) own z l) where
    stood_with : {has : Bool} {Ji : Jumping} {w : Way} {called : Exp} {mc mb : Mark} {r' : Stretch} {end : Body} {ls : List (ℕ × ℕ)} {es : Operands} {Rb Rn : Renaming} (Ra : Renaming)
        → Rereads T.new.function.body (body_of mb ls r' end) → EntersWith true h T.modes p.inside es T.new.function.params ls Ra
        → Moved T.items gain T.units (special_of A T.muts h) Ji Ra (stretch_of (marked p.text)) r' Rb → TailEnded T.items gain T.units (special_of A T.muts h) Ji Rb (tail_of p.text) has w (h.outs next) end
        → TailCallOf A T.muts h J p.inside (tree.call mc T.new.number es) has Ji w called → HandedAs A T J whole.1 (h.outs next) l p.inside Rb has Rn p.answer called → StandsSo J p l
    stood_with {w = w} {mb = mb} {ls = ls} {Rb = Rb} Ra x ent moved ended call (handed_as {g = g} handed y) = stands_so {g = g} x
        (λ rest. tail_becomes_call {f' = g} Ra Rb mb ls (is_tail passed) refl ent moved ended (λ q. never (not_next call q)) call (handed w)) y

    stood : {has : Bool} {e : Exp} {Rb Rn : Renaming} → RunsSo has J p.inside p.text e Rb → ((called : Exp) → Rereads e called → HandedAs A T J whole.1 (h.outs next) l p.inside Rb has Rn p.answer called) → StandsSo J p l
    stood (runs_so {called = called} Ra x ent moved ended y call) handed = stood_with Ra x ent moved ended call (handed called y)

    -- ---- a value

    value_found : Says (StandsSo J p l) (value_stands T J own p)
    value_found = given_so (value_given A T J whole.1 passed p.inside (h.outs next) apart p.answer)
        (λ e handed. some_so (runs_found true J p.inside p.text e) (λ Rb runs. stood runs (λ called y. handed Rb called y)))

    -- ---- a unit

    abbrev Rs : Renaming
    Rs = without (h.outs next) p.inside

    data UnitSo (D : Put) : Type 0 where
      unit_so : {Rb : Renaming} (S : Stood) → HandsSo A T p.inside Rs (h.outs next) p.answer S → RunsSo false J p.inside p.text S.called Rb → RedeclaredSo Rb S.inside h.redeclared S.rest D
          → Within p.inside D.inside → UnitSo D

    unit_stood : (S : Stood) → HandsSo A T p.inside Rs (h.outs next) p.answer S → Promised (λ D. UnitSo D) (unit_stands_for T J p S)
    unit_stood S hands = then_so (runs_found false J p.inside p.text S.called) (λ Rb runs. then_so (declares_so Rb S.inside h.redeclared S.rest) (λ D again.
        where_so (within_so p.inside D.inside) (λ w. kept (unit_so S hands runs again w))))

    unit_made : (D : Put) → UnitSo D → UnitLast A T J whole.1 l D.rest → StandsSo J p l
    unit_made D (unit_so S hands runs again within) last = stood runs (λ called y. unit_given A T J whole.1 S D apart (hands called y) again within last)

    unit_found : Says (StandsSo J p l) (unit_stands T J own p)
    unit_found = is_put_so (then_so (hands_so A T p.inside Rs (h.outs next) p.answer) (λ S hands. unit_stood S hands)) (λ D u. so (λ last. unit_made D u last) (unit_last_so A T J whole.1 passed D.rest))

    -- ---- a unit that the call gives

    drops_with : {called : Exp} {Ji : Jumping} {w : Way} {mc mb : Mark} {r' : Stretch} {end : Body} {ls : List (ℕ × ℕ)} {es : Operands} {Rb : Renaming} (Ra : Renaming) → T.gives_unit ≡ true → h.outs next ≡ []
        → Rereads T.new.function.body (body_of mb ls r' end) → EntersWith true h T.modes p.inside es T.new.function.params ls Ra
        → Moved T.items gain T.units (special_of A T.muts h) Ji Ra (stretch_of (marked p.text)) r' Rb → TailEnded T.items gain T.units (special_of A T.muts h) Ji Rb (tail_of p.text) true w (h.outs next) end
        → TailCallOf A T.muts h J p.inside (tree.call mc T.new.number es) true Ji w called → DropsAs A T J whole.1 l p.inside Rb p.answer called → DropsSo J p l
    drops_with {called = called} {w = w} {mb = mb} {ls = ls} {Rb = Rb} Ra unit none x ent moved ended call (drops_as {g = g} handed y d) = drops_so {g = g} unit x
        (λ rest. tail_becomes_call {f' = g} Ra Rb mb ls (is_tail passed) refl ent moved ended (λ q. never (not_next call q)) call
        (subst (λ xs. TailHanded A T.muts h J p.inside Rb l called true w xs p.inside g) (sym none) (handed w))) y d

    drop_made : {e : Exp} {Rb : Renaming} → T.gives_unit ≡ true → h.outs next ≡ [] → DropsEach A T J whole.1 l p.inside p.answer e → IsTheCall e → RunsSo true J p.inside p.text e Rb → DropsSo J p l
    drop_made {Rb = Rb} unit none drops (the_call {m = m} {es = es0}) (runs_so Ra x ent moved ended (in_call {es' = es} y) call) = drops_with Ra unit none x ent moved ended call (drops Rb m es0 es refl y)

    drop_found : T.gives_unit ≡ true → is_only_next h.exits ≡ true → h.outs next ≡ [] → Says (DropsSo J p l) (call_is_dropped T J own p)
    drop_found unit only none = given_so (dropped_found A T J whole.1 passed p.inside (subst (λ xs. NotHanded A T.muts h next (without xs p.inside)) none apart) p.answer)
        (λ e drops. some_so (call_found J p.inside p.text e only) (λ Rb x. drop_made unit none drops x.0 x.1))

    self_so : (b : Bool) → Says (b ≡ true) b
    self_so true = says refl
    self_so false = silent

    unit_or : (b : Bool) → Says ((T.gives_unit ≡ true) × ((is_only_next h.exits ≡ true) × (h.outs next ≡ []))) b → Says (StandsSo J p l ⊎ DropsSo J p l) (if b then call_is_dropped T J own p else unit_stands T J own p)
    unit_or _ (says x) = so (λ d. inr d) (drop_found x.0 x.1.0 x.1.1)
    unit_or _ silent = so (λ s. inl s) unit_found

    tail_found : Says (StandsSo J p l ⊎ DropsSo J p l) (tail_stands T J own p)
    tail_found = by (gives_unit_back own (tail p.answer))
      where
        by : (b : Bool) → Says (StandsSo J p l ⊎ DropsSo J p l) (if b then tail_is_unit T J own p else value_stands T J own p)
        by true = unit_or (may_drop T) (and_so (self_so T.gives_unit) (and_so (self_so (is_only_next h.exits)) (has_none_so (h.outs next)) (λ a b. (a, b))) (λ a b. (a, b)))
        by false = so (λ s. inl s) value_found

  -- ---- the block

  -- its statements, with the marks of the run; of the answer's, those of a body that is read
  pub data TailSo (J : Jumping) (R : Renaming) (text answer : Body) : Type 0 where
    tail_is : {f : Exp} {d : Body} → Rereads T.new.function.body f → RereadsBody answer d
        → LikeBody T.items (TheTail f) gain (by_form (special_of A T.muts h)) 1 J R (tailed_body T.run T.around h.params text) d → TailSo J R text answer
    -- or of one that drops what the call gives, where it gives that
    tail_drops : {f : Exp} {d d1 : Body} (r : Stretch) → T.gives_unit ≡ true → Rereads T.new.function.body f → RereadsBody answer (stretch.before r d) → DropsCall T.new.number d d1
        → LikeBody T.items (TheTail f) gain (by_form (special_of A T.muts h)) 1 J R (tailed_body T.run T.around h.params text) (stretch.before r d1) → TailSo J R text answer

  -- the run and its tail
  abbrev to_end : List Statement → List Statement → Exp → Body
  to_end ss behind e = before (entering h.params) (before (map (changed_statement (passing T.around)) (take T.run.count ss)) (before behind (tree.ends e)))

  in_place : {J : Jumping} (p : Passed) {own : Bool} {z : Exp} {l : Last} {f : Exp} {Rn : Renaming} {g : Body → Body} → PassedAs h (tail_of p.text) own z l
      → ((rest : Body) → TailBecomesCall A T.muts h T.modes T.items gain T.units (tail_new f) 1 J p.inside Rn rest (λ b. stretch.before (with_mark enters h.params (stretch_of (marked p.text))) (with_last l b)) g)
      → LikeBody T.items (TheTail f) gain (by_form T.elsewhere) 1 J p.inside (to_end (statements p.text) [] z) (g no_rest)
  in_place {J} p {l = l} {f = f} {g = g} passed call =
      subst (λ c. LikeBody T.items (TheTail f) gain (by_form T.elsewhere) 1 J p.inside c (g no_rest))
      (entered_is h.params (marked p.text) (with_last l no_rest) ∙ ap (λ c. before (entering h.params) (before (marked p.text) c)) (last_is no_rest passed))
      (opens_in {b = no_rest} {b' = no_rest} {f = λ b. stretch.before (with_mark enters h.params (stretch_of (marked p.text))) (with_last l b)} {f' = g} 1 0 (omega arith) (becomes A T.muts h value (call no_rest)) (ends_in units))

  whole_like : {J : Jumping} {R : Renaming} (text : Body) (p : Passed) {own : Bool} {l : Last} {f : Exp} {Rn : Renaming} {r : Stretch} (g : Body → Body) → drop T.run.count (drop T.run.first (statements text)) ≡ [] → Whole J
      → Moved T.items gain T.units T.elsewhere J R (stretch_of (map (changed_statement (passing [])) (take T.run.first (statements text)))) r p.inside → statements p.text ≡ drop T.run.first (statements text) → tail p.text ≡ tail text
      → PassedAs h (tail_of p.text) own (passing_value T.run.block T.around (tail p.text)) l
      → ((rest : Body) → TailBecomesCall A T.muts h T.modes T.items gain T.units (tail_new f) 1 J p.inside Rn rest (λ b. stretch.before (with_mark enters h.params (stretch_of (marked p.text))) (with_last l b)) g)
      → LikeBody T.items (TheTail f) gain (by_form (special_of A T.muts h)) 1 J R (tailed_body T.run T.around h.params text) (stretch.before r (g no_rest))
  whole_like {J} {R} text p {f = f} {r = r} g all whole m s t passed call =
      (subst (λ l. LikeBody T.items (TheTail f) gain (by_form l) 1 J R (tailed_body T.run T.around h.params text) (stretch.before r (g no_rest))) same
      (subst (λ c. LikeBody T.items (TheTail f) gain (by_form T.elsewhere) 1 J R c (stretch.before r (g no_rest))) there
      (in_front T.items gain T.units T.elsewhere (TheTail f) whole m (in_place p passed call))))
    where
      front : List Statement
      front = take T.run.first (statements text)

      there : stretch.before (stretch_of (map (changed_statement (passing [])) front)) (to_end (statements p.text) [] (passing_value T.run.block T.around (tail p.text))) ≡ tailed_body T.run T.around h.params text
      there = stretch_is (map (changed_statement (passing [])) front) (to_end (statements p.text) [] (passing_value T.run.block T.around (tail p.text)))
          ∙ ap (λ l. before l (to_end (statements p.text) [] (passing_value T.run.block T.around (tail p.text)))) (statements_unchanged front)
          ∙ ap (λ l. before front (to_end l [] (passing_value T.run.block T.around (tail p.text)))) s
          ∙ ap (λ e. before front (to_end (drop T.run.first (statements text)) [] (passing_value T.run.block T.around e))) t
          ∙ ap (λ l. before front (to_end (drop T.run.first (statements text)) l (passing_value T.run.block T.around (tail text)))) (sym all)

  whole_block : {J : Jumping} {R : Renaming} {text answer : Body} {p : Passed} {own : Bool} {l : Last} → drop T.run.count (drop T.run.first (statements text)) ≡ [] → Whole J
      → FirstSo (between_around T) gain J T.run.first R text answer p → PassedAs h (tail_of p.text) own (passing_value T.run.block T.around (tail p.text)) l → StandsSo J p l ⊎ DropsSo J p l → TailSo J R text answer
  whole_block {text = text} {p = p} all whole (first_is m x s t) passed (inl (stands_so {g = g} y call z)) = tail_is y (x (g no_rest) z) (whole_like text p g all whole m s t passed call)
  whole_block {text = text} {p = p} all whole (first_is {r = r} m x s t) passed (inr (drops_so {g = g} {d = d} unit y call z k)) = tail_drops r unit y (x d z) k (whole_like text p g all whole m s t passed call)

  may_so : (own : Bool) → Says (own ≡ true → h.outs next ≡ []) (may_end T own)
  may_so true = so (λ q u. q) (has_none_so (h.outs next))
  may_so false = says (λ e. absurd (by e))
    where
      by : false ≡ true → ⊥
      by e = cc

  module _ (J : Jumping) (whole : Whole J) (R : Renaming) (text answer : Body) (all : drop T.run.count (drop T.run.first (statements text)) ≡ [])
      (never : (Among next h.exits → ⊥) → NeverEnds (a_marked (changed (passing T.around) (written_tail T.run.block (tail text))) (leaves next)) (stretch_of (map (changed_statement (passing T.around)) (inside T.run text)))) where
    never_there : {p : Passed} → FirstSo (between_around T) gain J T.run.first R text answer p → NeverRun p.text
    never_there {p} (first_is m x s t) none = subst (λ l. NeverEnds (a_marked (tail_of p.text) (leaves next)) (stretch_of (map (changed_statement (passing T.around)) (take T.run.count l)))) (sym s)
        (subst (λ e. NeverEnds (a_marked (changed (passing T.around) (written_tail T.run.block e)) (leaves next)) (stretch_of (map (changed_statement (passing T.around)) (inside T.run text)))) (sym t) (never none))

    tail_run : {o : Option Passed} → Promised (λ p. FirstSo (between_around T) gain J T.run.first R text answer p) o → Says (TailSo J R text answer) (tail_is_call T J o)
    tail_run nothing = silent
    tail_run (kept {a = p} first) = and_with (not_handed_so A T same p.inside) (λ apart. and_with (may_so (gives_at T.run.block (tail p.text))) (λ may. by apart (passed_as h T.run.block T.around (tail p.text) may)))
      where
        by : NotHanded A T.muts h next (without (h.outs next) p.inside)
            → (l : Last) × PassedAs h (tail_of p.text) (gives_at T.run.block (tail p.text)) (passing_value T.run.block T.around (tail p.text)) l
            → Says (TailSo J R text answer) (tail_stands T J (gives_at T.run.block (tail p.text)) p)
        by apart q = so (λ s. whole_block all whole first q.1 s) (tail_found J whole p (never_there first) apart q.1)

    pub tail_block_found : Says (TailSo J R text answer) (tail_is_call T J (like_first (between_around T) J T.run.first R text answer))
    tail_block_found = tail_run (first_so (between_around T) gain J T.run.first R text answer)
