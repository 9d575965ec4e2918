-- A block in which others stand for a run of statements, or for its last statements and its tail: the matches in front and behind are covered where
-- the text's are.
use Rattle.std.proofs.Common.{ℕ, Bool, ◌||◌, List, None}
use Rattle.rx_core.specs.declared.types.Span.{Span}
use Rattle.rx_typed.specs.declared.nodes.Node.{Node}
use Rattle.rx_typed.specs.Named as named
use Rattle.rx_typed.specs.Named.{else_diverges, some_diverges, tail_never, Body, Else, Function, Statement, Statements}
use Rattle.rx_typed.specs.Tree as tree
use Rattle.rx_typed.specs.Tree.{mark_of}
use Rattle.rx_typed.specs.Types.{Declarations}
use Rattle.rx_typed.specs.Elaborated.{elaborated, matched, nested, statement, tail, value, Assigned}
use Rattle.rx_typeck_solver.specs.declared.facts.Demand.{Demand}
use Rattle.rx_cover.specs.Causes.{AllCovered}
use Rattle.rx_cover.specs.Choices.{choices, choices_before, choices_of, choices_within}
use Rattle.rx_engine_blocks.specs.DemandsLike.{Is, NoSpecial}
use Rattle.rx_engine_blocks.specs.Renumbering.{node_at, Renumbering}
use Rattle.rx_engine_typing.specs.Corresponding.{Corresponding, StayApart}
use Rattle.rx_engine_typing.specs.Renumbered as like
use Rattle.rx_engine_typing.specs.Renumbered.{no_holes, Holes, RenumberedFunction, RenumberedStatements}
use Rattle.rx_engine_typing.proofs.Holes.{no_fits}
use Rattle.rx_engine_typing.proofs.Looks.{Fits}
use Rattle.rx_engine_holes.specs.Run.{a_run, append, with_run, RunBlock}
use Rattle.rx_engine_holes.specs.Tail.{a_tail, with_tail, TailBlock}
use Rattle.rx_engine_holes.proofs.Around.{run_fits}
use Rattle.rx_engine_holes.proofs.Tails.{tail_fits}
use Rattle.rx_engine_covered.specs.Seen.{none_seen, SeenNodes, SeenStatements, SeenTypes}
use Rattle.rx_engine_covered.specs.Within.{choices_at_end, choices_in_body, choices_in_statements}
use Rattle.rx_engine_covered.proofs.Covering.{function_there, statement_there, statements_there, tail_there, HolesThere}
use Rattle.rx_engine_covered.proofs.Functions.{seen_where_they_correspond, without_holes}
use Rattle.rx_engine_covered.proofs.Marks.{covered_both, covered_parts, Goes}
use Rattle.rx_engine_covered.proofs.Unseen.{body_unseen, else_unseen, statements_unseen}

-- ---- statements in front of others

module _ (A : Assigned) (D : Declarations) where
  rest_covered : (a : Statement) (b : tree.Body) → AllCovered D (choices_within (statement A a b)) → AllCovered D (choices_within b)
  rest_covered (named.declares n p t) b h = h
  rest_covered (named.lets n p t e) b h = (covered_parts D (choices_before (matched A e (value A e))) (choices_within b) h.1).1
  rest_covered (named.evaluates n e s) b h = (covered_parts D (choices (mark_of (value A e)).node (value A e)) (choices_within b) h).1

  pub behind_covered : (ss c : Statements) (x : tree.Exp) → AllCovered D (choices_within (nested A (append ss c) x)) → AllCovered D (choices_within (nested A c x))
  behind_covered named.no_statement c x h = h
  behind_covered (named.statement_and a ss) c x h = behind_covered ss c x (rest_covered a (nested A (append ss c) x) h)

  -- one statement's, in front of another rest
  other_rest : (a : Statement) (b c : tree.Body) → AllCovered D (choices_within (statement A a b)) → AllCovered D (choices_within c) → AllCovered D (choices_within (statement A a c))
  other_rest (named.declares n p t) b c h k = k
  other_rest (named.lets n p t e) b c h k = (h.0, covered_both D (choices_before (matched A e (value A e))) (choices_within c) (covered_parts D (choices_before (matched A e (value A e))) (choices_within b) h.1).0 k)
  other_rest (named.evaluates n e s) b c h k = covered_both D (choices (mark_of (value A e)).node (value A e)) (choices_within c) (covered_parts D (choices (mark_of (value A e)).node (value A e)) (choices_within b) h).0 k

  abbrev empty : tree.Exp
  empty = tree.unit (record { node = 0; typ = None })

  pub front_covered : (ss c : Statements) (x : tree.Exp) → AllCovered D (choices_within (nested A (append ss c) x)) → AllCovered D (choices_in_statements A ss)
  front_covered named.no_statement c x h = tt
  front_covered (named.statement_and a ss) c x h = other_rest a (nested A (append ss c) x) (nested A ss empty) h (front_covered ss c x (rest_covered a (nested A (append ss c) x) h))

  pub joined_covered : (ss c : Statements) (x : tree.Exp) → AllCovered D (choices_in_statements A ss) → AllCovered D (choices_within (nested A c x)) → AllCovered D (choices_within (nested A (append ss c) x))
  joined_covered named.no_statement c x h k = k
  joined_covered (named.statement_and a ss) c x h k = other_rest a (nested A ss empty) (nested A (append ss c) x) h (joined_covered ss c x (rest_covered a (nested A ss empty) h) k)

module _ (r : Renumbering) (loops : ℕ → ℕ) (H : Holes) (Special : List Demand → List Demand → Type 0) (fits : Fits r loops H Special) (view : SeenNodes) (T T' : Assigned) (s : SeenTypes r view T T') (holes : HolesThere r loops H Special fits view T T' s) where
  -- statements in front, whatever stands behind
  pub front_there : {a a' : Statements} → RenumberedStatements r loops H a a' → SeenStatements view a → (c c' : Statements) (x x' : tree.Exp)
      → Goes T.items T'.items (choices_within (nested T c x)) (choices_within (nested T' c' x')) → Goes T.items T'.items (choices_within (nested T (append a c) x)) (choices_within (nested T' (append a' c') x'))
  front_there like.RenumberedStatements.no_statement v c c' x x' g = g
  front_there (like.RenumberedStatements.statement_and {ss = ss} {ss' = ss'} h hs) v c c' x x' g =
      statement_there r loops H Special fits view T T' s holes h v.0 (nested T (append ss c) x) (nested T' (append ss' c') x') (front_there hs v.1 c c' x x' g)

module _ (r : Renumbering) (loops : ℕ → ℕ) (apart : StayApart r.items) (T T' : Assigned) (a : Corresponding r T T') where
  its : SeenTypes r none_seen T T'
  its = seen_where_they_correspond r apart T T' a

  nothing : HolesThere r loops no_holes NoSpecial (no_fits r loops) none_seen T T' its
  nothing = without_holes r loops T T' its

  run_there : (run call : Statements) → AllCovered T'.items (choices_in_statements T' call) → {b b' : Body} → RunBlock r loops no_holes run call b b' → Goes T.items T'.items (choices_in_body T b) (choices_in_body T' b')
  run_there run call k (a_run {n = n} {s = s} {a = f} {a' = f'} {c = c} {c' = c'} {o = o} {o' = o'} front behind last) =
      front_there r loops no_holes NoSpecial (no_fits r loops) none_seen T T' its nothing front (statements_unseen f) (append run c) (append call c') (tail T n o) (tail T' (node_at r n s) o')
      (λ h. joined_covered T' T'.items call c' (tail T' (node_at r n s) o') k
      (statements_there r loops no_holes NoSpecial (no_fits r loops) none_seen T T' its nothing behind (statements_unseen c) (tail T n o) (tail T' (node_at r n s) o')
      (tail_there r loops no_holes NoSpecial (no_fits r loops) none_seen T T' its nothing n (node_at r n s) last (else_unseen o)) (behind_covered T T.items run c (tail T n o) h)))

  pub round_a_run : (run call : Statements) → Is (some_diverges run) (some_diverges call) → (f g : Function) → RenumberedFunction r loops (with_run r loops no_holes run call) f g
      → AllCovered T.items (choices_of (elaborated T f).body) → AllCovered T'.items (choices_in_statements T' call) → AllCovered T'.items (choices_of (elaborated T' g).body)
  round_a_run run call same f g h c k =
      function_there r loops (with_run r loops no_holes run call) NoSpecial (run_fits r loops no_holes NoSpecial (no_fits r loops) run call same) none_seen T T' its
      (record { expressions = λ h v. absurd h; blocks = λ h v. run_there run call k h }) h.body (body_unseen f.body) c

  end_there : (n : Node) (s : Span) (d : Bool) (run : Statements) (o : Else) (call : Statements) (p : Else) → AllCovered T'.items (choices_at_end T' (node_at r n s) call p)
      → {b b' : Body} → TailBlock r loops no_holes n s d run o call p b b' → Goes T.items T'.items (choices_in_body T b) (choices_in_body T' b')
  end_there n s d run o call p k (a_tail {a = f} {a' = f'} e front) =
      front_there r loops no_holes NoSpecial (no_fits r loops) none_seen T T' its nothing front (statements_unseen f) run call (tail T n o) (tail T' (node_at r n s) p) (λ h. k)

  pub round_a_tail : (n : Node) (s : Span) (d : Bool) (run : Statements) (o : Else) (call : Statements) (p : Else) → Is (some_diverges run || else_diverges o) (some_diverges call || else_diverges p)
      → Is (tail_never (d || some_diverges run) o) (tail_never (d || some_diverges call) p) → (f g : Function) → RenumberedFunction r loops (with_tail r loops no_holes n s d run o call p) f g
      → AllCovered T.items (choices_of (elaborated T f).body) → AllCovered T'.items (choices_at_end T' (node_at r n s) call p) → AllCovered T'.items (choices_of (elaborated T' g).body)
  round_a_tail n s d run o call p same same_never f g h c k =
      function_there r loops (with_tail r loops no_holes n s d run o call p) NoSpecial (tail_fits r loops no_holes NoSpecial (no_fits r loops) n s d run o call p same same_never) none_seen T T' its
      (record { expressions = λ h v. absurd h; blocks = λ h v. end_there n s d run o call p k h }) h.body (body_unseen f.body) c
