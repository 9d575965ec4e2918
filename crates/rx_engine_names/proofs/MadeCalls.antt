-- The call of the new function resolves in the scope where the run stood, by induction on its params.
use Rattle.std.proofs.Common.{◌≡◌, ℕ, Bool, true, false, List, [], ◌∷◌, Option, Some, Ok, refl, sym, ap, ◌∙◌, subst}
use Rattle.rx_tree.specs.declared.tree.Ident.{Ident}
use Rattle.rx_tree.specs.Plain as plain
use Rattle.rx_tree.specs.Plain.{Expression, Expressions}
use Rattle.rx_resolve_names.specs.Scopes.{Variables, variable_named}
use Rattle.rx_resolve_names.specs.declared.resolved.ItemNames.{ItemNames}
use Rattle.rx_resolve_names.specs.declared.resolved.NodeNames.{NodeNames}
use Rattle.rx_resolve_names.specs.Meant.{function_name, item_named, as_function, Around}
use Rattle.rx_resolve_names.specs.Steps.{Inside, known, one, child, next}
use Rattle.rx_resolve_names.specs.Names.{callee, in_expression, in_expressions}
use Rattle.rx_typed.specs.declared.nodes.Node.{Node}
use Rattle.rx_typed.specs.declared.nodes.Site.{Site}
use Rattle.rx_typed.specs.Named as named
use Rattle.rx_typed.specs.Named.{Exp, Exps}
use Rattle.rx_typed.specs.Naming as numbering
use Rattle.rx_typed.specs.Naming.{an_entry, first, use_of, declaration, of_expression, of_expressions}
use Rattle.rx_hoist_extraction.specs.Plan.{Mode, by_value, by_reborrow, by_view, by_shared, by_mut, Param}
use Rattle.rx_hoist_extraction.specs.Made.{ident, as_expressions}
use Rattle.rx_hoist_extraction.specs.Call.{argument, arguments, bare_call}
use Rattle.rx_engine_names.specs.Renaming.{Renaming, Has, Made}
use Rattle.rx_engine_names.specs.Calls.{Calls, Passed, passed_on, IsArgument, argument_by_value, argument_by_reborrow, argument_by_view, argument_by_shared, argument_by_mut, AreArguments, no_argument, more_arguments, IsCall, is_call, ParamsMeant, FunctionMeant, ExpressionMade}
use Rattle.rx_engine_names.proofs.SideBySide.{then_ok}
use Rattle.rx_engine_names.proofs.Alone.{Alone, weaker, alone_give, alone_then, alone_map, alone_node, KindAlone, Makes, makes_nothing, makes_then, makes_map, makes_entry}

-- ---- kinds of what is made

abbrev pub ExpAlone : (Renaming → Exp → Type 0) → ItemNames → Expression → KindAlone
ExpAlone P u e R u' es = (m : Bool) (k : Site) → Alone (P R) u u' es (of_expression m k e)

abbrev pub ExpsAlone : (Renaming → Exps → Type 0) → ItemNames → Expressions → KindAlone
ExpsAlone P u e R u' es = (k : Site) → Alone (P R) u u' es (of_expressions k e)

module _ (items : ℕ → ℕ) (C : Calls) (I' : Inside) (sc' : Variables) (ls' : List Around) (M : Made) where
  abbrev pub Meant : List ℕ → Type 0
  Meant x = (n : ℕ) × (m : ℕ) × (variable_named C.scope x ≡ Some n) × (variable_named sc' x ≡ Some m) × Has M.variables n m

  variable_alone : (R : Renaming) (x : List ℕ) (j m : ℕ) (n : Node) → n.span ≡ C.place → variable_named C.scope x ≡ Some j → R.variable j m ≡ true → (u u' : ItemNames) (es : List NodeNames) → Alone (λ a. a ≡ (m ∷ [], false)) u u' es an_entry
      → Alone (Passed C R x) u u' es (numbering.and_then an_entry (λ ns c. (named.var n (use_of (first ns.0) (declaration c (first ns.0))), c)))
  variable_alone R x j m n g s v u u' es N = record {
    holds = λ c rest q e. let y = N.holds c rest q e in record { like = passed_on g s (ap (λ (a : List ℕ × Bool). R.variable j (first a.0)) y.like ∙ v); stands = y.stands; left = y.left };
  }

  pub made_variable : (at' : List ℕ) (x : List ℕ) → Meant x → (u : ItemNames) → Makes items M u (λ v. in_expression I' sc' ls' at' (plain.var C.place x) u ≡ Ok v) (ExpAlone (λ R b. Passed C R x b) u (plain.var C.place x))
  made_variable at' x h u =
      let A = makes_entry {items = items} {M = M} I' at' u h.1 [] (one (known (variable_named sc' x) C.place)) (ap (λ (o : Option ℕ). one (known o C.place)) h.3) in
      makes_map A (λ a. a) (λ R sv N m k. alone_node C.place k (λ n g. variable_alone R x h.0 h.1 n g h.2 (sv.variables h.0 h.1 h.4) u A.table A.added N))

  made_argument : (at' : List ℕ) (x : List ℕ) (mode : Mode) → Meant x → (u : ItemNames)
      → Makes items M u (λ v. in_expression I' sc' ls' at' (argument C.place mode x) u ≡ Ok v) (ExpAlone (λ R b. IsArgument C R x mode b) u (argument C.place mode x))
  made_argument at' x by_value h u = makes_map (made_variable at' x h u) (λ a. a) (λ R sv N m k. weaker (N m k) (λ b p. argument_by_value p))
  made_argument at' x by_reborrow h u = makes_map (made_variable at' x h u) (λ a. a) (λ R sv N m k. weaker (N m k) (λ b p. argument_by_reborrow p))
  made_argument at' x by_view h u = makes_map (made_variable at' x h u) (λ a. a) (λ R sv N m k. weaker (N m k) (λ b p. argument_by_view p))
  made_argument at' x by_shared h u = makes_map (made_variable (child at' 0) x h u) (λ a. a) (λ R sv N m k. alone_node C.place k (λ n g. alone_map (named.borrow n false) (N false Site.Place) (λ b p. argument_by_shared g p)))
  made_argument at' x by_mut h u = makes_map (made_variable (child at' 0) x h u) (λ a. a) (λ R sv N m k. alone_node C.place k (λ n g. alone_map (named.borrow n true) (N false Site.Place) (λ b p. argument_by_mut g p)))

  made_arguments : (at' : List ℕ) (i' : ℕ) (xs : List Param) → ParamsMeant C M sc' xs → (u : ItemNames)
      → Makes items M u (λ v. in_expressions I' sc' ls' at' i' (as_expressions (arguments C.place xs)) u ≡ Ok v) (ExpsAlone (λ R b. AreArguments C R xs b) u (as_expressions (arguments C.place xs)))
  made_arguments at' i' [] h u = makes_nothing u (λ v. Ok u ≡ Ok v) (ExpsAlone (λ R b. AreArguments C R [] b) u plain.no_expression) refl (λ R k. alone_give named.no_exp no_argument)
  made_arguments at' i' (x ∷ xs) h u =
      let A = made_argument (child at' i') x.variable.name x.mode h.0 u in
      let B = made_arguments at' (next i') xs h.1 A.table in
      makes_then A B (λ y z. then_ok (in_expression I' sc' ls' (child at' i') (argument C.place x.mode x.variable.name)) (in_expressions I' sc' ls' at' (next i') (as_expressions (arguments C.place xs))) u A.table B.table y z)
      (λ R sv N O k. alone_then (N false k) (λ e d. alone_map (named.exp_and e) (O k) (λ es f. more_arguments d f)))

  abbrev call_name : Ident
  call_name = ident C.place C.plan.name

  abbrev call_operands : Expressions
  call_operands = as_expressions (arguments C.place C.plan.params)

  called_alone : (R : Renaming) (n : Node) (a : List ℕ × Bool) → n.span ≡ C.place → a ≡ (C.number ∷ [], false) → (u u' : ItemNames) (es : List NodeNames) → ((k : Site) → Alone (AreArguments C R C.plan.params) u u' es (of_expressions k call_operands))
      → Alone (IsCall C R) u u' es (numbering.called n a (λ t. of_expressions t call_operands))
  called_alone R n a g r u u' es N = subst (λ (z : List ℕ × Bool). Alone (IsCall C R) u u' es (numbering.called n z (λ t. of_expressions t call_operands))) (sym r) (alone_map (named.call n C.number) (N Site.Expects) (λ es d. is_call g d))

  pub made_call : (at' : List ℕ) → FunctionMeant C I' sc' → ParamsMeant C M sc' C.plan.params → (u : ItemNames)
      → Makes items M u (λ v. in_expression I' sc' ls' at' (bare_call C.plan C.place) u ≡ Ok v) (ExpAlone (λ R b. IsCall C R b) u (bare_call C.plan C.place))
  made_call at' f h u =
      let r = one (known (as_function (item_named function_name 0 I'.program C.plan.name)) C.place) in
      let A = makes_entry {items = items} {M = M} I' at' u C.number [] r (ap (λ (o : Option ℕ). one (known o C.place)) f.0) in
      let B = made_arguments at' 0 C.plan.params h A.table in
      makes_then A B (λ y z. then_ok (callee I' at' call_name (variable_named sc' C.plan.name)) (in_expressions I' sc' ls' at' 0 call_operands) u A.table B.table (ap (λ (o : Option ℕ). callee I' at' call_name o u) f.1 ∙ y) z)
      (λ R sv N O m k. alone_node C.place k (λ n g. alone_then N (λ a d. called_alone R n a g d A.table B.table B.added O)))

  pub call_made : (at' : List ℕ) → FunctionMeant C I' sc' → ParamsMeant C M sc' C.plan.params → (u : ItemNames) → ExpressionMade items I' sc' ls' M at' (bare_call C.plan C.place) u (IsCall C)
  call_made at' f h u = let A = made_call at' f h u in
      record { tables = A.table; resolves = A.answer; added' = A.added; grown' = A.grown; like = λ R sv m k c rest q e. ((A.numbers R sv m k).holds c rest q e).like }
