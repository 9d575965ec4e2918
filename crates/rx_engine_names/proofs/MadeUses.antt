-- Variables that are made where they are used, and assignments of them, in the second program alone.
use Rattle.std.proofs.Common.{◌≡◌, ℕ, zero, suc, Bool, true, false, List, [], ◌∷◌, length, map, Option, Some, None, Ok, refl, ap, ◌∙◌}
use Rattle.rx_core.specs.declared.types.Span.{Span}
use Rattle.rx_tree.specs.Plain as plain
use Rattle.rx_tree.specs.Plain.{Expression, Expressions, OptionalExpression, Statement, Statements}
use Rattle.rx_resolve_names.specs.Scopes.{Variables, variable_named}
use Rattle.rx_resolve_names.specs.declared.resolved.ItemNames.{ItemNames}
use Rattle.rx_resolve_names.specs.declared.resolved.NodeNames.{NodeNames}
use Rattle.rx_resolve_names.specs.Meant.{number, Around}
use Rattle.rx_resolve_names.specs.Steps.{Outcome, and_then, Inside, known, one, child, next}
use Rattle.rx_resolve_names.specs.Names.{in_expression, in_expressions, in_optional, in_statement, in_statements, Scoped}
use Rattle.rx_typed.specs.declared.nodes.Node.{Node}
use Rattle.rx_typed.specs.declared.nodes.Site.{Site}
use Rattle.rx_typed.specs.declared.nodes.Stage.{Stage}
use Rattle.rx_typed.specs.declared.nodes.Use.{Use}
use Rattle.rx_typed.specs.Named as named
use Rattle.rx_typed.specs.Named.{Exp, Exps, Else, node_of, root}
use Rattle.rx_typed.specs.Naming as numbering
use Rattle.rx_typed.specs.Naming.{Cursor, Numbering, an_entry, first, use_of, declaration, waiting, of_expression, of_optional, of_statement, of_statements}
use Rattle.rx_hoist_extraction.specs.Names.{Names}
use Rattle.rx_hoist_extraction.specs.Made.{as_expressions, joined, done}
use Rattle.rx_engine_names.specs.Renaming.{Renaming, Made}
use Rattle.rx_engine_names.specs.Calls.{Calls, Passed, passed_on}
use Rattle.rx_engine_names.specs.HandedOut.{IsMade, is_made, AreMade, none_made, more_made, AreJoined, nothing_joined, one_joined, more_joined, IsDone, is_done, IsAssigned, is_assigned, is_given}
use Rattle.rx_engine_names.proofs.SideBySide.{then_ok, and_ok, Keeps}
use Rattle.rx_engine_names.proofs.Standing.{keeps_a_use, keeps_gives_here, keeps_waits_for}
use Rattle.rx_engine_names.proofs.Alone.{Alone, alone_give, alone_then, alone_map, alone_node, alone_keeps, KindAlone, Makes, makes_nothing, makes_then, makes_map, makes_entry}
use Rattle.rx_engine_names.proofs.MadeCalls.{ExpAlone, ExpsAlone, Meant, made_variable}
use Rattle.rx_engine_names.proofs.MadeBindings.{MeantFrom}

-- ---- numberings alone

-- what follows takes no entry
pub alone_last : {A B : Type 0} {S : A → Type 0} {T : B → Type 0} {u u1 : ItemNames} {es : List NodeNames} {m : Numbering A} {k : A → Numbering B}
    → Alone S u u1 es m → ((a : A) → S a → Alone T u1 u1 [] (k a)) → Alone T u u1 es (numbering.and_then m k)
alone_last {m = m} N K = record { holds = λ c rest q e. let x = N.holds c rest q e in (K (m c).0 x.like).holds (m c).1 rest x.stands x.left }

-- a step that touches no names, of which something is known
pub alone_told : {A B : Type 0} {T : B → Type 0} {u u1 : ItemNames} {es : List NodeNames} {m : Numbering A} {k : A → Numbering B} (W : A → Type 0)
    → Keeps m → ((c : Cursor) → W (m c).0) → ((a : A) → W a → Alone T u u1 es (k a)) → Alone T u u1 es (numbering.and_then m k)
alone_told {m = m} W h w K = record { holds = λ c rest q e. (K (m c).0 (w c)).holds (m c).1 rest (h.declared c ∙ q.0, h.loops c ∙ q.1) (h.names c ∙ e) }

abbrev pub ElseAlone : (Renaming → Else → Type 0) → ItemNames → OptionalExpression → KindAlone
ElseAlone P u o R u' es = (k : Site) → Alone (P R) u u' es (of_optional k o)

abbrev pub StatementAlone : (Renaming → named.Statement → Type 0) → ItemNames → Statement → KindAlone
StatementAlone P u a R u' es = Alone (P R) u u' es (of_statement a)

abbrev pub StatementsAlone : (Renaming → named.Statements → Type 0) → ItemNames → Statements → KindAlone
StatementsAlone P u ss R u' es = Alone (P R) u u' es (of_statements ss)

-- where the scope becomes another
abbrev pub goes_to : Variables → ItemNames → Scoped
goes_to sc t = record { scope = sc; tables = t }

-- ---- uses

use_alone : (s : Span) (d : ℕ) (n : Node) → n.span ≡ s → (u u' : ItemNames) (es : List NodeNames) → Alone (λ a. a ≡ (number d ∷ [], false)) u u' es an_entry
    → Alone (IsMade s d) u u' es (numbering.and_then an_entry (λ ns c. (named.var n (use_of (first ns.0) (declaration c (first ns.0))), c)))
use_alone s d n g u u' es N = record {
  holds = λ c rest q e. let y = N.holds c rest q e in record { like = is_made g (ap (λ (a : List ℕ × Bool). first a.0) y.like); stands = y.stands; left = y.left };
}

module _ (items : ℕ → ℕ) (M : Made) (I' : Inside) (s : Span) (sc : Variables) (ls : List Around) where
  pub made_use : (at' : List ℕ) (x : List ℕ) (d : ℕ) → variable_named sc x ≡ Some (number d) → (u : ItemNames) → Makes items M u (λ v. in_expression I' sc ls at' (plain.var s x) u ≡ Ok v) (ExpAlone (λ R b. IsMade s d b) u (plain.var s x))
  made_use at' x d e u =
      let A = makes_entry {items = items} {M = M} I' at' u (number d) [] (one (known (variable_named sc x) s)) (ap (λ (o : Option ℕ). one (known o s)) e) in
      makes_map A (λ a. a) (λ R sv N m k. alone_node s k (λ n g. use_alone s d n g u A.table A.added N))

  pub made_uses : (at' : List ℕ) (i' : ℕ) (d : ℕ) (xs : Names) → MeantFrom sc d xs → (u : ItemNames)
      → Makes items M u (λ v. in_expressions I' sc ls at' i' (as_expressions (map (plain.var s) xs)) u ≡ Ok v) (ExpsAlone (λ R b. AreMade s d (length xs) b) u (as_expressions (map (plain.var s) xs)))
  made_uses at' i' d [] h u = makes_nothing u (λ v. Ok u ≡ Ok v) (ExpsAlone (λ R b. AreMade s d zero b) u plain.no_expression) refl (λ R k. alone_give named.no_exp none_made)
  made_uses at' i' d (x ∷ xs) h u =
      let A = made_use (child at' i') x d h.0 u in
      let B = made_uses at' (next i') (suc d) xs h.1 A.table in
      makes_then A B (λ y z. then_ok (in_expression I' sc ls (child at' i') (plain.var s x)) (in_expressions I' sc ls at' (next i') (as_expressions (map (plain.var s) xs))) u A.table B.table y z)
      (λ R sv N O k. alone_then (N false k) (λ e p. alone_map (named.exp_and e) (O k) (λ es q. more_made p q)))

  pub made_joined : (at' : List ℕ) (d : ℕ) (xs : Names) → MeantFrom sc d xs → (u : ItemNames)
      → Makes items M u (λ v. in_optional I' sc ls at' (joined s (map (plain.var s) xs)) u ≡ Ok v) (ElseAlone (λ R o. AreJoined s d (length xs) o) u (joined s (map (plain.var s) xs)))
  made_joined at' d [] h u = makes_nothing u (λ v. Ok u ≡ Ok v) (ElseAlone (λ R o. AreJoined s d zero o) u plain.absent) refl (λ R k. alone_give named.absent nothing_joined)
  made_joined at' d (x ∷ []) h u = makes_map (made_use at' x d h.0 u) (λ a. a) (λ R sv N k. alone_map named.present (N false k) (λ e p. one_joined p))
  made_joined at' d (x ∷ y ∷ xs) h u =
      makes_map (made_uses at' 0 d (x ∷ y ∷ xs) h u) (λ a. a)
      (λ R sv N k. alone_map {S = λ e. AreJoined s d (suc (suc (length xs))) (named.present e)} named.present (alone_node s k (λ n g. alone_map (named.tuple n) (N Site.Value) (λ es p. more_joined g p))) (λ e p. p))

  -- `e;`
  pub made_done : (at' : List ℕ) (e : Expression) (P : Renaming → Exp → Type 0) (u : ItemNames) → Makes items M u (λ v. in_expression I' sc ls (child at' 0) e u ≡ Ok v) (ExpAlone P u e)
      → Makes items M u (λ v. in_statement I' sc ls at' (done s e) u ≡ Ok (goes_to sc v)) (StatementAlone (λ R a. IsDone s (P R) a) u (done s e))
  made_done at' e P u A =
      makes_map A (λ y. ap (λ (o : Outcome ItemNames). and_then o (λ t. Ok (goes_to sc t))) y) (λ R sv N. alone_node s Site.Value (λ n g. alone_map (λ e. named.evaluates n e true) (N false Site.Value) (λ e p. is_done g p)))

  pub made_more : (at' : List ℕ) (i : ℕ) (a : Statement) (ss : Statements) (sc1 sc2 : Variables) (S : Renaming → named.Statement → Type 0) (Q T : Renaming → named.Statements → Type 0) (u : ItemNames)
      (A : Makes items M u (λ v. in_statement I' sc ls (child at' i) a u ≡ Ok (goes_to sc1 v)) (StatementAlone S u a))
      → Makes items M A.table (λ v. in_statements I' sc1 ls at' (next i) ss A.table ≡ Ok (goes_to sc2 v)) (StatementsAlone Q A.table ss)
      → ((R : Renaming) (a : named.Statement) (ss : named.Statements) → S R a → Q R ss → T R (named.statement_and a ss))
      → Makes items M u (λ v. in_statements I' sc ls at' i (plain.statement_and a ss) u ≡ Ok (goes_to sc2 v)) (StatementsAlone T u (plain.statement_and a ss))
  made_more at' i a ss sc1 sc2 S Q T u A B f =
      makes_then A B (λ y z. and_ok (in_statement I' sc ls (child at' i) a u) (goes_to sc1 A.table) (λ r. in_statements I' r.scope ls at' (next i) ss r.tables) (Ok (goes_to sc2 B.table)) y z)
      (λ R sv N O. alone_then N (λ b p. alone_map (named.statement_and b) O (λ bs q. f R b bs p q)))

-- ---- assignments

-- what is known of a variable that waits for its type
abbrev WaitsAs : ℕ → Option (ℕ × ℕ) → Type 0
WaitsAs x None = Unit {0}
WaitsAs x (Some w) = w.0 ≡ x

waiting_is : (x : ℕ) (t : Stage) → WaitsAs x (waiting x t)
waiting_is x Stage.Known = tt
waiting_is x Stage.Given = tt
waiting_is x (Stage.Waits p s) = refl

given_by : (C : Calls) (R : Renaming) (x : List ℕ) (P : Exp → Type 0) (n : Node) (q : Exp) → n.span ≡ C.place → Passed C R x q → (k : ℕ) → k ≡ (root q).number → (y : Use) → y.number ≡ k → (d : Option ℕ) (e : Exp) → P e
    → IsAssigned C R x P (named.gives n (node_of q) y d e)
given_by C R x P n _ g (passed_on {u = z} {j = j} h s v) k a y b d e p = is_given g h s (ap (R.variable j) (b ∙ a) ∙ v) p

assigned_alone : (C : Calls) (R : Renaming) (x : List ℕ) (P : Exp → Type 0) (n : Node) (q : Exp) (w : Option (ℕ × ℕ)) (f : Site → Numbering Exp) → n.span ≡ C.place → Passed C R x q → WaitsAs (root q).number w
    → {u u' : ItemNames} {es : List NodeNames} → ((k : Site) → Alone P u u' es (f k)) → Alone (IsAssigned C R x P) u u' es (numbering.assigned n q w f)
assigned_alone C R x P n q None f g d a N = alone_map (named.assign n q) (N Site.Expects) (λ e p. is_assigned g d p)
assigned_alone C R x P n q (Some w) f g d a N =
    alone_last (N Site.Reborrows) (λ e p. alone_told (λ (y : Use). y.number ≡ w.0) (keeps_a_use w.0) (λ c. refl) (λ y b. alone_keeps (keeps_gives_here w.0) (λ k.
    alone_give (named.gives n (node_of q) y k e) (given_by C R x P n q g d w.0 a y b k e p))))

-- `x = e`
pub made_assigned : (items : ℕ → ℕ) (C : Calls) (I' : Inside) (sc : Variables) (ls : List Around) (M : Made) (at' : List ℕ) (x : List ℕ) (e : Expression) (P : Renaming → Exp → Type 0) → Meant items C I' sc ls M x
    → ((u : ItemNames) → Makes items M u (λ v. in_expression I' sc ls (child at' 1) e u ≡ Ok v) (ExpAlone P u e)) → (u : ItemNames)
    → Makes items M u (λ v. in_expression I' sc ls at' (plain.assign C.place (plain.var C.place x) e) u ≡ Ok v) (ExpAlone (λ R b. IsAssigned C R x (P R) b) u (plain.assign C.place (plain.var C.place x) e))
made_assigned items C I' sc ls M at' x e P h E u =
    let A = made_variable items C I' sc ls M (child at' 0) x h u in
    let B = E A.table in
    makes_then A B (λ y z. then_ok (in_expression I' sc ls (child at' 0) (plain.var C.place x)) (in_expression I' sc ls (child at' 1) e) u A.table B.table y z)
    (λ R sv N O m k. alone_node C.place k (λ n g. alone_then (N false Site.Place) (λ q d. alone_told (WaitsAs (root q).number) (keeps_waits_for (plain.var C.place x) q)
    (λ c. waiting_is (root q).number (declaration c (root q).number).stage) (λ w a. assigned_alone C R x (P R) n q w (λ t. of_expression false t e) g d a (λ t. O false t)))))
