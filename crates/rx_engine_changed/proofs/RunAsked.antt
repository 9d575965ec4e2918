-- What the rules ask of a run stands in one piece among what they ask of its function.
use Rattle.std.proofs.Common.{◌≡◌, ◌≤◌, ◌+◌, ℕ, Bool, true, ◌||◌, List, [], ◌++◌, length, refl, sym, ap, ◌∙◌, subst, append-nil, arith}
use Rattle.std.proofs.Math.ListN.{drop_of_length-le}
use Rattle.std.proofs.lemmas.Bool.{leb-true}
use Rattle.rx_core.specs.declared.types.Span.{Span}
use Rattle.rx_tree.specs.Lists.{listed, statements, tail}
use Rattle.rx_tree.specs.Plain as plain
use Rattle.rx_tree.specs.Plain.{Body, Function, Statement}
use Rattle.rx_tree.specs.Spans.{body_span}
use Rattle.rx_resolve_names.specs.declared.resolved.NodeNames.{NodeNames}
use Rattle.rx_typed.specs.declared.nodes.Node.{Node}
use Rattle.rx_typed.specs.declared.nodes.Site.{Site}
use Rattle.rx_typed.specs.Named as named
use Rattle.rx_typed.specs.Named.{some_diverges, tail_never, Else}
use Rattle.rx_typed.specs.Naming.{a_node, function_named, of_body, of_optional, of_statements, Cursor}
use Rattle.rx_typed.specs.Types.{unit_shape}
use Rattle.rx_hoist_extraction.specs.Run.{as_statements, behind as statements_behind, chosen, goes_past, in_front, run_block, Run}
use Rattle.rx_hoist_extraction.specs.Plan.{Plan}
use Rattle.rx_typeck_solver.specs.declared.facts.Demand.{Demand}
use Rattle.rx_typeck_solver.specs.Facts.{Assignment, KnownItems}
use Rattle.rx_typeck_typed.specs.Asking.{Asking}
use Rattle.rx_typeck_typed.specs.Demands as rules
use Rattle.rx_typeck_typed.specs.Demands.{demands}
use Rattle.rx_engine_names.specs.CalledRuns.{RunStands}
use Rattle.rx_engine_holes.specs.Tail.{of_end}
use Rattle.rx_engine_names.specs.Replaced.{joined}
use Rattle.rx_engine_names.proofs.CallsFit.{run_splits}
use Rattle.rx_engine_typing.proofs.Asking.{join_asks, never_given_u, tail_after_u, tail_before_u, then_u, U}
use Rattle.rx_engine_changed.specs.Called.{ComesToEnd, ComesToRun}
use Rattle.rx_engine_changed.specs.Comes.{behind}
use Rattle.rx_engine_changed.proofs.Asked.{returned_adds, statements_add}
use Rattle.rx_engine_changed.proofs.Occurring.{body_holds, first, part_holds, Holds, InBody, Within}
use Rattle.rx_engine_changed.proofs.Rows.{numbered_row, numbered_row3, row_diverges}

nothing_known : KnownItems
nothing_known = record { items = []; sizes = λ i. 0 }

all_unit : Assignment
all_unit x = unit_shape

module _ (n : ℕ) where
  abbrev Asked : List Statement → Cursor → List Demand
  Asked run c = rules.of_statements n (of_statements (as_statements run) c).0 []

  joined_asks : (a b : named.Statements) (ds : List Demand) → rules.of_statements n (joined a b) ds ≡ rules.of_statements n b (rules.of_statements n a ds)
  joined_asks named.no_statement b ds = refl
  joined_asks (named.statement_and x a) b ds = joined_asks a b (rules.of_statement n x ds)

  -- the run's statements alone
  run_holds : (run : List Statement) (c : Cursor) → Holds nothing_known all_unit (Asked run c) (rules.of_statements n (of_statements (as_statements run) c).0)
  run_holds run c ds =
      let x = statements_add nothing_known all_unit n (of_statements (as_statements run) c).0 in
      record { front = ds; back = []; is = x.adds ds ∙ ap (λ (l : List Demand). ds ++ l) (sym (x.adds []) ∙ sym (append-nil (Asked run c))) }

  -- between others
  row_holds : (front run others : List Statement) (c : Cursor)
      → Holds nothing_known all_unit (Asked run (of_statements (as_statements front) c).1) (rules.of_statements n (of_statements (as_statements (front ++ (run ++ others))) c).0)
  row_holds front run others c ds =
      let F = of_statements (as_statements front) c in let G = of_statements (as_statements run) F.1 in let B = of_statements (as_statements others) G.1 in
      let here = first nothing_known all_unit (Asked run F.1) (run_holds run F.1) (statements_add nothing_known all_unit n B.0) (rules.of_statements n F.0 ds) in
      subst (λ (l : List Demand). Within nothing_known all_unit (Asked run F.1) l)
      (sym (ap (λ (z : named.Statements × Cursor). rules.of_statements n z.0 ds) (numbered_row3 front run others c) ∙ joined_asks F.0 (joined G.0 B.0) ds ∙ joined_asks G.0 B.0 (rules.of_statements n F.0 ds))) here

  block_holds : (r : Run) → r.first ≤ r.last + 1 → (b : Body) (t : Site) (d c : Cursor) → c ≡ (of_statements (as_statements (in_front r (statements b))) (behind (body_span b) t d)).1
      → InBody nothing_known all_unit (Asked (chosen r (statements b)) c) n (of_body t b d).0
  block_holds r forward (plain.body sp ss o) t d c e =
      let l = listed ss in
      body_holds nothing_known all_unit (Asked (chosen r l) c) n t sp ss o d
      (subst (λ (z : plain.Statements). Holds nothing_known all_unit (Asked (chosen r l) c) (rules.of_statements n (of_statements z (behind sp t d)).0)) (run_splits r ss forward)
      (subst (λ (u : Cursor). Holds nothing_known all_unit (Asked (chosen r l) u) (rules.of_statements n (of_statements (as_statements (in_front r l ++ (chosen r l ++ statements_behind r l))) (behind sp t d)).0)) (sym e)
      (row_holds (in_front r l) (chosen r l) (statements_behind r l) (behind sp t d))))

  pub run_asked : (s : Span) (f : Function) (r : Run) (pl : Plan) → RunStands r pl f → (ns : List NodeNames) (c : Cursor) → ComesToRun s f r ns c
      → (front : List Demand) × (back : List Demand) × (demands (function_named n s f ns) ≡ front ++ (Asked (chosen r (statements (run_block r f))) c ++ back))
  run_asked s f r pl stands ns c x =
      let F = function_named n s f ns in let D = Asked (chosen r (statements (run_block r f))) c in
      let h = part_holds nothing_known all_unit D n x.comes (block_holds r stands.forward (run_block r f) x.site x.start c x.is) in
      let w = first nothing_known all_unit D h (never_given_u {K = nothing_known} {A = all_unit} F.never_given) _ in (w.front, w.back, w.is)

  -- ---- where the run goes to its block's end: with its tail, and what the block's place makes of its value

  abbrev EndAsks : Node → Bool → named.Statements → Else → Asking
  EndAsks k d xs o ds = rules.join k (tail_never (d || some_diverges xs) o) (of_end n k d xs o ds)

  end_adds : (k : Node) (d : Bool) (xs : named.Statements) (o : Else) → U nothing_known all_unit (EndAsks k d xs o)
  end_adds k d xs o =
      then_u (statements_add nothing_known all_unit n xs)
      (then_u (tail_before_u {K = nothing_known} {A = all_unit} k o) (then_u (returned_adds nothing_known all_unit n o) (then_u (tail_after_u {K = nothing_known} {A = all_unit} k (d || some_diverges xs) o) (join_asks {K = nothing_known} {A = all_unit} k _))))

  end_within : (k : Node) (d : Bool) (xs : named.Statements) (o : Else) (ds : List Demand) → Within nothing_known all_unit (EndAsks k d xs o []) (EndAsks k d xs o ds)
  end_within k d xs o ds =
      let x = end_adds k d xs o in
      record { front = ds; back = []; is = x.adds ds ∙ ap (λ (l : List Demand). ds ++ l) (sym (x.adds []) ∙ sym (append-nil (EndAsks k d xs o []))) }

  block_asks : (k : Node) (a b : named.Statements) (o : Else) (ds : List Demand) → rules.of_body n (named.body k (joined a b) o) ds ≡ EndAsks k (some_diverges a) b o (rules.of_statements n a ds)
  block_asks k a b o ds =
      ap (λ (l : List Demand). rules.join k (tail_never (some_diverges (joined a b)) o) (rules.tail_after k (some_diverges (joined a b)) o (rules.of_returned n o (rules.tail_before k o l)))) (joined_asks a b ds)
      ∙ ap (λ (v : Bool). rules.join k (tail_never v o) (rules.tail_after k v o (rules.of_returned n o (rules.tail_before k o (rules.of_statements n b (rules.of_statements n a ds)))))) (row_diverges a b)

  -- by the block's node, what stands in front of the run, the run and the tail
  abbrev EndAsked : Node → Bool → List Statement → plain.OptionalExpression → Cursor → List Demand
  EndAsked k d run o c = EndAsks k d (of_statements (as_statements run) c).0 (of_optional k.site o (of_statements (as_statements run) c).1).0 []

  end_holds : (r : Run) → r.first ≤ r.last + 1 → (b : Body) (t : Site) (d : Cursor) → goes_past r (statements b) ≡ true
      → InBody nothing_known all_unit (EndAsked (a_node (body_span b) t d).0 (some_diverges (of_statements (as_statements (in_front r (statements b))) (behind (body_span b) t d)).0) (chosen r (statements b)) (tail b) (of_statements (as_statements (in_front r (statements b))) (behind (body_span b) t d)).1) n (of_body t b d).0
  end_holds r forward (plain.body sp ss o) t d past ds =
      let l = listed ss in let k = (a_node sp t d).0 in let start = behind sp t d in
      let F = of_statements (as_statements (in_front r l)) start in let G = of_statements (as_statements (chosen r l)) F.1 in let O = (of_optional t o G.1).0 in
      let nothing : statements_behind r l ≡ [] = drop_of_length-le l (omega (arith, leb-true (length l) r.last past)) in
      let rows : as_statements (in_front r l ++ chosen r l) ≡ ss = ap (λ (z : List Statement). as_statements (in_front r l ++ z)) (sym (ap (λ (z : List Statement). chosen r l ++ z) nothing ∙ append-nil (chosen r l))) ∙ run_splits r ss forward in
      let row : of_statements ss start ≡ (joined F.0 G.0, G.1) = ap (λ (z : plain.Statements). of_statements z start) (sym rows) ∙ numbered_row (in_front r l) (chosen r l) start in
      let whole = ap (λ (z : named.Statements × Cursor). rules.of_body n (named.body k z.0 (of_optional t o z.1).0) ds) row ∙ block_asks k F.0 G.0 O ds in
      subst (λ (q : List Demand). Within nothing_known all_unit (EndAsked k (some_diverges F.0) (chosen r l) o F.1) q) (sym whole) (end_within k (some_diverges F.0) G.0 O (rules.of_statements n F.0 ds))

  pub end_asked : (s : Span) (f : Function) (r : Run) (pl : Plan) → RunStands r pl f → goes_past r (statements (run_block r f)) ≡ true → (ns : List NodeNames) (k : Node) (d : Bool) (c : Cursor) → ComesToEnd s f r ns k d c
      → (front : List Demand) × (back : List Demand) × (demands (function_named n s f ns) ≡ front ++ (EndAsked k d (chosen r (statements (run_block r f))) (tail (run_block r f)) c ++ back))
  end_asked s f r pl stands past ns k d c y =
      let x = y.0 in let b = run_block r f in let F = function_named n s f ns in
      let same : EndAsked (a_node (body_span b) x.site x.start).0 (some_diverges (of_statements (as_statements (in_front r (statements b))) (behind (body_span b) x.site x.start)).0) (chosen r (statements b)) (tail b) (of_statements (as_statements (in_front r (statements b))) (behind (body_span b) x.site x.start)).1
      ≡ EndAsked k d (chosen r (statements b)) (tail b) c
      = ap (λ (z : Node). EndAsked z (some_diverges (of_statements (as_statements (in_front r (statements b))) (behind (body_span b) x.site x.start)).0) (chosen r (statements b)) (tail b) (of_statements (as_statements (in_front r (statements b))) (behind (body_span b) x.site x.start)).1) y.1
      ∙ ap (λ (z : Bool). EndAsked k z (chosen r (statements b)) (tail b) (of_statements (as_statements (in_front r (statements b))) (behind (body_span b) x.site x.start)).1) y.2
      ∙ ap (λ (z : Cursor). EndAsked k d (chosen r (statements b)) (tail b) z) (sym x.is) in
      let D = EndAsked k d (chosen r (statements b)) (tail b) c in
      let h = part_holds nothing_known all_unit D n x.comes (subst (λ (q : List Demand). InBody nothing_known all_unit q n (of_body x.site b x.start).0) same (end_holds r stands.forward b x.site x.start past)) in
      let w = first nothing_known all_unit D h (never_given_u {K = nothing_known} {A = all_unit} F.never_given) _ in (w.front, w.back, w.is)
