-- Expressions, statements and blocks whose names have a meaning: in their trees with numbers struct literals name structs, variants are those
-- of their enums, and a `break` leads to a loop that is round it, out of no test.
use Rattle.std.proofs.Common.{◌≡◌, ℕ, suc, ◌≤◌, ◌<◌, Bool, true, false, ◌&&◌, List, [], ◌∷◌, length, Option, Some, None, Ok, refl, sym, ap, ◌∙◌, subst, append-nil, arith, codes, inl, inr}
use Rattle.rx_core.specs.declared.types.Span.{Span}
use Rattle.rx_tree.specs.declared.tree.Ident.{Ident}
use Rattle.rx_tree.specs.Lists.{listed}
use Rattle.rx_tree.specs.Plain as plain
use Rattle.rx_tree.specs.Plain.{PatternTree, PatternTrees, Expression, Expressions, OptionalExpression, OptionalExpressions, FieldExpressions, Arms, Body, Statement, Statements}
use Rattle.rx_resolve_names.specs.Scopes as scopes
use Rattle.rx_resolve_names.specs.Scopes.{DeclaredNames, Variables, variable_named}
use Rattle.rx_resolve_names.specs.declared.resolved.ItemNames.{ItemNames}
use Rattle.rx_resolve_names.specs.declared.resolved.NodeNames.{NodeNames}
use Rattle.rx_resolve_names.specs.Meant.{number, type_name, function_name, item_named, as_function, as_rt, Around, a_loop, a_test, Target, to_loop, out_of_test, nowhere, through_test, target}
use Rattle.rx_resolve_names.specs.Steps.{and_then, Naming, ◌>>◌, Inside, numbered, known, one, led, child, next, with_loop, with_names, position, names}
use Rattle.rx_resolve_names.specs.Names.{variant_in, struct_in, Bound, in_pattern, in_patterns, in_field_patterns, pattern_then, callee, rt_span, in_optional_type, initialiser_at, Scoped, in_expression, in_expressions, in_optional, in_arguments, in_fields, in_arms, in_block, in_statements, in_statement}
use Rattle.rx_typed.specs.Types.{Declarations}
use Rattle.rx_typed.specs.declared.nodes.Node.{Node}
use Rattle.rx_typed.specs.declared.nodes.Site.{Site}
use Rattle.rx_typed.specs.Named as named
use Rattle.rx_typed.specs.Named.{Exp, Exps, node_of}
use Rattle.rx_typed.specs.Naming as numbering
use Rattle.rx_typed.specs.Naming.{Cursor, Numbering, an_entry, first, second, of_expression}
use Rattle.rx_typeck_solver.specs.Valid.{IsIn}
use Rattle.rx_engine_typing.proofs.Steps.{named_ok, the_same, one_more, Takes, takes_then, takes_last, takes_give, takes_map, takes_weaker, takes_node, takes_made, takes_entry, takes_loop, Quiet, takes_quiet, IsEntry, at_entry, Few, few_before, grows_not, Part, in_turn, in_turn3, in_turn4, restated, few_restated, unchanged, in_new_loop, entry_part}
use Rattle.rx_engine_typing.proofs.ScopedPatterns.{Any, one_part, any_entry, order_ok, optional_type_taken, pattern_taken, patterns_taken, field_patterns_taken}
use Rattle.rx_engine_typing.proofs.InScope.{Stands, later, stands_in_loop, new_loop_is}
use Rattle.rx_engine_typing.proofs.ScopedExpressions.{quiet_counted, quiet_between, quiet_annotates, quiet_leads, quiet_is_left, quiet_gives_here, quiet_waits, led_is}
use Rattle.rx_meaning_accepted.specs.Fitting.{IsStruct, IsVariant, BreaksNot, EachBreaksNot, ElseBreaksNot, FieldsBreakNot, ArmsBreakNot, BodyBreaksNot, StatementBreaksNot, StatementsBreakNot}
use Rattle.rx_meaning_accepted.proofs.Parted.{PatternMeans, PatternsMean, FieldPatternsMean, Means, EachMeans, ElseMeans, FieldsMean, ArmsMean, BodyMeans, StatementMeans, StatementsMean}

-- ---- what is said of a part

-- what it names means something, and of the loops that had begun before it, which are fewer than this, it breaks those alone
pub record Sound (M : Type 0) (B : ℕ → Type 0) (js : List ℕ) (m : ℕ) : Type 0 where
  pub means : M
  pub out : (l : ℕ) → l < m → (IsIn l js → ⊥) → B l

sound_none : {js : List ℕ} {m : ℕ} → Sound (Unit {0}) (λ l. Unit {0}) js m
sound_none = record { means = tt; out = λ l k i. tt }

sound_two : {M N : Type 0} {B C : ℕ → Type 0} {js : List ℕ} {m k : ℕ} → Sound M B js m → Sound N C js k → m ≤ k → Sound (M × N) (λ l. B l × C l) js m
sound_two x y g = record { means = (x.means, y.means); out = λ l k i. (x.out l k i, y.out l (omega (arith, k, g)) i) }

sound_three : {M N O : Type 0} {B C D : ℕ → Type 0} {js : List ℕ} {m k j : ℕ} → Sound M B js m → Sound N C js k → Sound O D js j → m ≤ k → m ≤ j → Sound (M × N × O) (λ l. B l × C l × D l) js m
sound_three x y z g h = record { means = (x.means, y.means, z.means); out = λ l k i. (x.out l k i, y.out l (omega (arith, k, g)) i, z.out l (omega (arith, k, h)) i) }

sound_more : {M N : Type 0} {B : ℕ → Type 0} {js : List ℕ} {m : ℕ} → N → Sound M B js m → Sound (N × M) B js m
sound_more n x = record { means = (n, x.means); out = x.out }

sound_fewer : {M : Type 0} {B : ℕ → Type 0} {js : List ℕ} {m k : ℕ} → m ≤ k → Sound M B js k → Sound M B js m
sound_fewer g x = record { means = x.means; out = λ l k i. x.out l (omega (arith, k, g)) i }

-- not in the loop that is new
not_new : (l j : ℕ) (js : List ℕ) → l < j → (IsIn l js → ⊥) → IsIn l (j ∷ js) → ⊥
not_new l j js k f (inl e) = omega (arith, k, e)
not_new l j js k f (inr i) = f i

-- a loop: its body stands in it
sound_loop : {M : Type 0} {B : ℕ → Type 0} {js : List ℕ} {j k : ℕ} → j ≤ k → Sound M B (j ∷ js) k → Sound M B js j
sound_loop {js = js} {j = j} g x = record { means = x.means; out = λ l k i. x.out l (omega (arith, k, g)) (not_new l j js k i) }

-- one with a test, out of which no `break` leads
sound_test : {M N : Type 0} {B C : ℕ → Type 0} {js : List ℕ} {j k i : ℕ} → j < k → j ≤ i → Sound M B [] k → Sound N C (j ∷ js) i → Sound (B j × M × N) (λ l. B l × C l) js j
sound_test {js = js} {j = j} g h x y = record {
  means = (x.out j g (λ i. i), x.means, y.means);
  out = λ l k i. (x.out l (omega (arith, k, g)) (λ z. z), y.out l (omega (arith, k, h)) (not_new l j js k i));
}

through_not : (x : Target) (n : ℕ) → through_test x ≡ to_loop n → ⊥
through_not (to_loop m) n e = cc
through_not out_of_test n e = cc
through_not nowhere n e = cc

-- where a test stands, no loop is round it
in_test : {ls : List Around} {js : List ℕ} {t : ItemNames} → Stands [] ls [] js t → Stands [] (a_test ∷ ls) [] [] t
in_test {ls = ls} w = record { here = λ f. let h = w.here f in record { variables = h.variables; loops = λ l n e. absurd (through_not (target l ls) n e) }; variables = w.variables; loops = λ n i. absurd i }

-- a step of numbering that touches no names
quiet_waits_for : (p : Expression) (q : Exp) → Quiet Any (numbering.waits_for p q)
quiet_waits_for p q = record { fits = λ c. tt; names = λ c. refl; still = λ c. (refl, refl) }

quiet_use : (x : ℕ) → Quiet Any (numbering.a_use x)
quiet_use x = record { fits = λ c. tt; names = λ c. refl; still = λ c. (refl, refl) }

-- what the names of structs and variants mean
pub record Sees (D : Declarations) (I : Inside) : Type 0 where
  pub structs : (x : Ident) (n : ℕ) → struct_in I x ≡ Ok n → IsStruct D n
  pub variants : (a v : Ident) (ns : List ℕ) → variant_in I a v ≡ Ok ns → (n : ℕ) × (j : ℕ) × (ns ≡ n ∷ j ∷ []) × IsVariant D n j

-- a step of numbering whose outcome says enough by itself
taken_so : {A : Type 0} {P Q : A → Type 0} {t t' : ItemNames} {es : List NodeNames} {m : Numbering A} → Takes P t t' es m → ((c : Cursor) → Q (m c).0) → Takes Q t t' es m
taken_so k f = record { holds = λ c rest d e. let z = k.holds c rest d e in record { fits = f c; counts = z.counts; left = z.left } }

module _ (D : Declarations) (I : Inside) (S : Sees D I) where
  -- ---- patterns

  abbrev PatternTaken : PatternTree → Bound → Bound → Type 0
  PatternTaken p b b1 = Part b.tables b1.tables (λ es. Takes (PatternMeans D) b.tables b1.tables es (numbering.of_pattern p))

  abbrev PatternsTaken : PatternTrees → Bound → Bound → Type 0
  PatternsTaken ps b b1 = Part b.tables b1.tables (λ es. Takes (PatternsMean D) b.tables b1.tables es (numbering.of_patterns ps))

  abbrev FieldPatternsTaken : plain.FieldPatterns → Bound → Bound → Type 0
  FieldPatternsTaken fs b b1 = Part b.tables b1.tables (λ es. Takes (FieldPatternsMean D) b.tables b1.tables es (numbering.of_field_patterns fs))

  mutual
    pattern_means : (at : List ℕ) (p : PatternTree) (b b1 : Bound) → in_pattern I at p b ≡ Ok b1 → PatternTaken p b b1
    pattern_means at (plain.wild s) b b1 e = restated (pattern_taken I at (plain.wild s) b b1 e).part (λ es k. taken_so k (λ c. tt))
    pattern_means at (plain.bind s x m) b b1 e = restated (pattern_taken I at (plain.bind s x m) b b1 e).part (λ es k. taken_so k (λ c. tt))
    pattern_means at (plain.int_pattern s g v k) b b1 e = restated (pattern_taken I at (plain.int_pattern s g v k) b b1 e).part (λ es k. taken_so k (λ c. tt))
    pattern_means at (plain.bool_pattern s w) b b1 e = restated (pattern_taken I at (plain.bool_pattern s w) b b1 e).part (λ es k. taken_so k (λ c. tt))
    pattern_means at (plain.tuple_pattern s ps) b b1 e = restated (patterns_mean at 0 ps b b1 e) (λ es k. takes_node s Site.Value (λ n q. takes_map (named.tuple_pattern n) k (λ a h. h)))
    pattern_means at (plain.variant_pattern s c v ps) b b1 e =
        let x = order_ok (names I at (variant_in I c v)) (in_patterns I at 0 ps) b b1 e in
        let y = named_ok (variant_in I c v) (λ ns. numbered I at ns b.tables) x.0 x.1 in
        let f = S.variants c v y.0 y.1 in
        let A = entry_part I at b.tables x.0 f.0 (f.1 ∷ []) (variant_in I c v) (y.1 ∙ ap (λ (l : List ℕ). Ok l) f.2) x.1 in
        let B = patterns_mean at 0 ps (record { bindings = b.bindings; tables = x.0 }) b1 x.2 in
        in_turn A B (λ _ _ k l. takes_node s Site.Value (λ n q. takes_then k (λ y r. takes_map (named.variant_pattern n (first y.0) (second y.0)) l
        (λ ps h. (at_entry (λ z. IsVariant D (first z.0) (second z.0)) (f.0 ∷ f.1 ∷ []) false y r f.3, h)))))
    pattern_means at (plain.make_pattern s x fs) b b1 e =
        let y = order_ok (names I at (one (struct_in I x))) (in_field_patterns I at 0 fs) b b1 e in
        let B = field_patterns_mean at 0 fs (record { bindings = b.bindings; tables = y.0 }) b1 y.2 in
        in_turn (any_entry (one_part I at b.tables y.0 (struct_in I x) y.1).part) B
        (λ _ _ k l. takes_node s Site.Value (λ n q. takes_then k (λ a _. takes_map (named.struct_pattern n (first a.0)) l (λ fs h. h))))

    patterns_mean : (at : List ℕ) (i : ℕ) (ps : PatternTrees) (b b1 : Bound) → in_patterns I at i ps b ≡ Ok b1 → PatternsTaken ps b b1
    patterns_mean at i plain.no_pattern b b1 e = restated (patterns_taken I at i plain.no_pattern b b1 e).part (λ es k. taken_so k (λ c. tt))
    patterns_mean at i (plain.pattern_and p ps) b b1 e =
        let x = named_ok (in_pattern I (child at i) p b) (in_patterns I at (next i) ps) b1 e in
        in_turn (pattern_means (child at i) p b x.0 x.1) (patterns_mean at (next i) ps x.0 b1 x.2) (λ _ _ k l. takes_then k (λ c g. takes_map (named.pattern_and c) l (λ d h. (g, h))))

    field_patterns_mean : (at : List ℕ) (i : ℕ) (fs : plain.FieldPatterns) (b b1 : Bound) → in_field_patterns I at i fs b ≡ Ok b1 → FieldPatternsTaken fs b b1
    field_patterns_mean at i plain.no_field_pattern b b1 e = restated (field_patterns_taken I at i plain.no_field_pattern b b1 e).part (λ es k. taken_so k (λ c. tt))
    field_patterns_mean at i (plain.field_pattern_and y p fs) b b1 e =
        let x = named_ok (in_pattern I (child at i) p b) (in_field_patterns I at (next i) fs) b1 e in
        in_turn (pattern_means (child at i) p b x.0 x.1) (field_patterns_mean at (next i) fs x.0 b1 x.2)
        (λ _ _ k l. takes_then k (λ c g. takes_map (named.field_pattern_and y.name c) l (λ d h. (g, h))))

  -- ---- of each kind of part

  abbrev SoundExp : List ℕ → ℕ → Exp → Type 0
  SoundExp js m e = Sound (Means D e) (λ l. BreaksNot l e) js m

  abbrev SoundEach : List ℕ → ℕ → Exps → Type 0
  SoundEach js m es = Sound (EachMeans D es) (λ l. EachBreaksNot l es) js m

  abbrev SoundElse : List ℕ → ℕ → named.Else → Type 0
  SoundElse js m o = Sound (ElseMeans D o) (λ l. ElseBreaksNot l o) js m

  abbrev SoundFields : List ℕ → ℕ → named.Fields → Type 0
  SoundFields js m fs = Sound (FieldsMean D fs) (λ l. FieldsBreakNot l fs) js m

  abbrev SoundArms : List ℕ → ℕ → named.Arms → Type 0
  SoundArms js m r = Sound (ArmsMean D r) (λ l. ArmsBreakNot l r) js m

  abbrev pub SoundBody : List ℕ → ℕ → named.Body → Type 0
  SoundBody js m b = Sound (BodyMeans D b) (λ l. BodyBreaksNot l b) js m

  abbrev SoundStatement : List ℕ → ℕ → named.Statement → Type 0
  SoundStatement js m a = Sound (StatementMeans D a) (λ l. StatementBreaksNot l a) js m

  abbrev SoundStatements : List ℕ → ℕ → named.Statements → Type 0
  SoundStatements js m ss = Sound (StatementsMean D ss) (λ l. StatementsBreakNot l ss) js m

  abbrev Loops : ItemNames → ℕ
  Loops t = length t.loops

  abbrev ExpTaken : List ℕ → Expression → ItemNames → ItemNames → Type 0
  ExpTaken js e t t' = Part t t' (λ es. (m : Bool) (i : Site) → Takes (SoundExp js (Loops t)) t t' es (of_expression m i e))

  abbrev EachTaken : List ℕ → Expressions → ItemNames → ItemNames → Type 0
  EachTaken js es t t' = Part t t' (λ fs. (i : Site) → Takes (SoundEach js (Loops t)) t t' fs (numbering.of_expressions i es))

  abbrev OptionalTaken : List ℕ → OptionalExpression → ItemNames → ItemNames → Type 0
  OptionalTaken js o t t' = Part t t' (λ fs. (i : Site) → Takes (SoundElse js (Loops t)) t t' fs (numbering.of_optional i o))

  abbrev ArgumentsTaken : List ℕ → OptionalExpressions → ItemNames → ItemNames → Type 0
  ArgumentsTaken js o t t' = Part t t' (λ fs. Takes (SoundEach js (Loops t)) t t' fs (numbering.of_arguments o))

  abbrev FieldsTaken : List ℕ → FieldExpressions → ItemNames → ItemNames → Type 0
  FieldsTaken js fs t t' = Part t t' (λ gs. Takes (SoundFields js (Loops t)) t t' gs (numbering.of_fields fs))

  abbrev ArmsTaken : List ℕ → Arms → ItemNames → ItemNames → Type 0
  ArmsTaken js r t t' = Part t t' (λ fs. (i : Site) → Takes (SoundArms js (Loops t)) t t' fs (numbering.of_arms i r))

  abbrev pub BodyTaken : List ℕ → Body → ItemNames → ItemNames → Type 0
  BodyTaken js b t t' = Part t t' (λ fs. (i : Site) → Takes (SoundBody js (Loops t)) t t' fs (numbering.of_body i b))

  abbrev StatementTaken : List ℕ → Statement → ItemNames → Scoped → Type 0
  StatementTaken js a t r = Part t r.tables (λ fs. Takes (SoundStatement js (Loops t)) t r.tables fs (numbering.of_statement a))

  abbrev StatementsTaken : List ℕ → Statements → ItemNames → Scoped → Type 0
  StatementsTaken js ss t r = Part t r.tables (λ fs. Takes (SoundStatements js (Loops t)) t r.tables fs (numbering.of_statements ss))

  called_taken : {t t' : ItemNames} {es : List NodeNames} (js : List ℕ) (m : ℕ) (n : Node) (a : List ℕ × Bool) (zs : Expressions)
      → ((k : Site) → Takes (SoundEach js m) t t' es (numbering.of_expressions k zs)) → Takes (SoundExp js m) t t' es (numbering.called n a (λ k. numbering.of_expressions k zs))
  called_taken js m n (ns, true) zs k = takes_map (named.hidden_call n) (k Site.Value) (λ b h. h)
  called_taken js m n (ns, false) zs k = takes_map (named.call n (first ns)) (k Site.Expects) (λ b h. h)

  assigned_taken : {t t' : ItemNames} {es : List NodeNames} (js : List ℕ) (m k : ℕ) → m ≤ k → (n : Node) (e : Expression) (x : Exp) (w : Option (ℕ × ℕ)) → SoundExp js m x
      → ((i : Site) → Takes (SoundExp js k) t t' es (of_expression false i e)) → Takes (SoundExp js m) t t' es (numbering.assigned n x w (λ i. of_expression false i e))
  assigned_taken js m k g n e x None h f = takes_map (named.assign n x) (f Site.Expects) (λ a z. sound_two h z g)
  assigned_taken js m k g n e x (Some w) h f =
      takes_last (f Site.Reborrows) (λ a z. takes_quiet (quiet_use w.0) (λ u _. takes_quiet (quiet_gives_here w.0) (λ d _. takes_give (named.gives n (node_of x) u d a) (sound_fewer g z))))

  callee_taken : (at : List ℕ) (x : Ident) (o : Option ℕ) (t t' : ItemNames) → callee I at x o t ≡ Ok t' → Part t t' (λ es. Takes (λ (a : List ℕ × Bool). Unit {0}) t t' es an_entry)
  callee_taken at x None t t' e = any_entry (one_part I at t t' (known (as_function (item_named function_name 0 I.program x.name)) x.span) e).part
  callee_taken at x (Some n) t t' e =
      let X : NodeNames = record { node = position I at; numbers = n ∷ []; hidden = true } in
      subst (λ (v : ItemNames). Part t v (λ es. Takes (λ (a : List ℕ × Bool). Unit {0}) t v es an_entry)) (the_same (with_names X t) t' e)
      (record { added = X ∷ []; grown = refl; grows = record { vars = omega arith; loops = omega arith }; numbers = λ _. takes_map (λ a. a) (takes_entry X) (λ a h. tt) })

  -- a jump: the loop that it leads to is round it
  break_sound : (js : List ℕ) (m k : ℕ) (n : Node) → IsIn k js → SoundExp js m (named.break n k)
  break_sound js m k n h = record { means = tt; out = λ l z i e. i (subst (λ (j : ℕ). IsIn j js) e h) }

  new_loop_size : (t : ItemNames) (p : _) → length (with_loop p t).loops ≡ suc (Loops t)
  new_loop_size t p = one_more t.loops p

  -- a variable names nothing but a variable
  used_taken : (js : List ℕ) (m : ℕ) (s : Span) (x : List ℕ) (n : Node) {t t' : ItemNames} {es : List NodeNames} → Takes (λ (a : List ℕ × Bool). Unit {0}) t t' es an_entry
      → Takes (SoundExp js m) t t' es (numbering.and_then an_entry (λ ns c. (named.var n (numbering.use_of (first ns.0) (numbering.declaration c (first ns.0))), c)))
  used_taken js m s x n k = record { holds = λ c rest d e. let z = k.holds c rest d e in record { fits = sound_none; counts = z.counts; left = z.left } }

  mutual
    pub expression_taken : (sc : Variables) (ls : List Around) (at : List ℕ) (e : Expression) (t t' : ItemNames) (js : List ℕ) → Stands [] ls [] js t → in_expression I sc ls at e t ≡ Ok t' → ExpTaken js e t t'
    expression_taken sc ls at (plain.int s v k) t t' js w e =
        unchanged t t' (λ u es. (m : Bool) (i : Site) → Takes (SoundExp js (Loops t)) t u es (of_expression m i (plain.int s v k))) e (λ m i. takes_made s i (λ n. named.int n m v k) (λ n q. sound_none))
    expression_taken sc ls at (plain.bool s b) t t' js w e =
        unchanged t t' (λ u es. (m : Bool) (i : Site) → Takes (SoundExp js (Loops t)) t u es (of_expression m i (plain.bool s b))) e (λ m i. takes_made s i (λ n. named.bool n b) (λ n q. sound_none))
    expression_taken sc ls at (plain.tuple s es) t t' js w e = restated (each_taken sc ls at 0 es t t' js w e) (λ fs k m i. takes_node s i (λ n q. takes_map (named.tuple n) (k Site.Value) (λ c h. h)))
    expression_taken sc ls at (plain.var s x) t t' js w e =
        restated (any_entry (one_part I at t t' (known (variable_named sc x) s) e).part) (λ es k m i. takes_node s i (λ n q. used_taken js (Loops t) s x n k))
    expression_taken sc ls at (plain.field s x g) t t' js w e = restated (expression_taken sc ls (child at 0) x t t' js w e) (λ es k m i. takes_node s i (λ n q. takes_map (λ c. named.field n c g.name) (k false Site.Place) (λ c h. h)))
    expression_taken sc ls at (plain.part s x j) t t' js w e = restated (expression_taken sc ls (child at 0) x t t' js w e) (λ es k m i. takes_node s i (λ n q. takes_map (λ c. named.part n c j) (k false Site.Place) (λ c h. h)))
    expression_taken sc ls at (plain.deref s x) t t' js w e = restated (expression_taken sc ls (child at 0) x t t' js w e) (λ es k m i. takes_node s i (λ n q. takes_map (named.deref n) (k false Site.Place) (λ c h. h)))
    expression_taken sc ls at (plain.negate s x) t t' js w e = restated (expression_taken sc ls (child at 0) x t t' js w e) (λ es k m i. takes_node s i (λ n q. takes_map (named.negate n) (k true Site.Value) (λ c h. h)))
    expression_taken sc ls at (plain.invert s x) t t' js w e = restated (expression_taken sc ls (child at 0) x t t' js w e) (λ es k m i. takes_node s i (λ n q. takes_map (named.invert n) (k false Site.Value) (λ c h. h)))
    expression_taken sc ls at (plain.borrow s r x) t t' js w e = restated (expression_taken sc ls (child at 0) x t t' js w e) (λ es k m i. takes_node s i (λ n q. takes_map (named.borrow n r) (k false Site.Place) (λ c h. h)))
    expression_taken sc ls at (plain.binary s o x y) t t' js w e =
        let X = named_ok (in_expression I sc ls (child at 0) x t) (in_expression I sc ls (child at 1) y) t' e in
        let A = expression_taken sc ls (child at 0) x t X.0 js w X.1 in
        let B = expression_taken sc ls (child at 1) y X.0 t' js (later A.grows w) X.2 in
        in_turn A B (λ es fs k l m i. takes_node s i (λ n q. takes_then (k false Site.Value) (λ c g. takes_map (named.binary n o c) (l false Site.Value) (λ d h. sound_two g h A.grows.loops))))
    expression_taken sc ls at (plain.assign s x y) t t' js w e =
        let X = named_ok (in_expression I sc ls (child at 0) x t) (in_expression I sc ls (child at 1) y) t' e in
        let A = expression_taken sc ls (child at 0) x t X.0 js w X.1 in
        let B = expression_taken sc ls (child at 1) y X.0 t' js (later A.grows w) X.2 in
        in_turn A B (λ es fs k l m i. takes_node s i (λ n q. takes_then (k false Site.Place) (λ c g. takes_quiet (quiet_waits_for x c) (λ z _. assigned_taken js (Loops t) (Loops X.0) A.grows.loops n y c z g (λ k. l false k)))))
    expression_taken sc ls at (plain.update s o x y) t t' js w e =
        let X = named_ok (in_expression I sc ls (child at 0) x t) (in_expression I sc ls (child at 1) y) t' e in
        let A = expression_taken sc ls (child at 0) x t X.0 js w X.1 in
        let B = expression_taken sc ls (child at 1) y X.0 t' js (later A.grows w) X.2 in
        in_turn A B (λ es fs k l m i. takes_node s i (λ n q. takes_then (k false Site.Place) (λ c g. takes_map (named.update n o c) (l false Site.Value) (λ d h. sound_two g h A.grows.loops))))
    expression_taken sc ls at (plain.call s f es) t t' js w e =
        let X = named_ok (callee I at f (variable_named sc f.name) t) (in_expressions I sc ls at 0 es) t' e in
        let A = callee_taken at f (variable_named sc f.name) t X.0 X.1 in
        let B = each_taken sc ls at 0 es X.0 t' js (later A.grows w) X.2 in
        in_turn A B (λ _ _ k l m i. takes_node s i (λ n q. takes_then k (λ c h. called_taken js (Loops t) n c es (λ j. takes_weaker (l j) (λ z y. sound_fewer A.grows.loops y)))))
    expression_taken sc ls at (plain.next_input s) t t' js w e =
        restated (one_part I at t t' (known (as_rt (item_named type_name 0 I.program (codes "rt"))) (rt_span s)) e).part (λ es k m i. takes_node s i (λ n q. takes_map (λ z. named.next_input n) k (λ c h. sound_none)))
    expression_taken sc ls at (plain.variant s c v es) t t' js w e =
        let X = named_ok (names I at (variant_in I c v) t) (in_arguments I sc ls at es) t' e in
        let y = named_ok (variant_in I c v) (λ ns. numbered I at ns t) X.0 X.1 in
        let f = S.variants c v y.0 y.1 in
        let A = entry_part I at t X.0 f.0 (f.1 ∷ []) (variant_in I c v) (y.1 ∙ ap (λ (l : List ℕ). Ok l) f.2) X.1 in
        let B = arguments_taken sc ls at es X.0 t' js (later A.grows w) X.2 in
        in_turn A B (λ _ _ k l m i. takes_node s i (λ n q. takes_then k (λ y r. takes_map (named.variant n (first y.0) (second y.0)) l
        (λ es h. sound_more (at_entry (λ z. IsVariant D (first z.0) (second z.0)) (f.0 ∷ f.1 ∷ []) false y r f.3) (sound_fewer A.grows.loops h)))))
    expression_taken sc ls at (plain.make s x fs) t t' js w e =
        let X = named_ok (names I at (one (struct_in I x)) t) (in_fields I sc ls at 0 fs) t' e in
        let A = one_part I at t X.0 (struct_in I x) X.1 in
        let B = fields_taken sc ls at 0 fs X.0 t' js (later A.part.grows w) X.2 in
        in_turn A.part B (λ _ _ k l m i. takes_node s i (λ n q. takes_then k (λ y r. takes_map (named.make n (first y.0)) l
        (λ fs h. sound_more (at_entry (λ z. IsStruct D (first z.0)) (A.first ∷ []) false y r (S.structs x A.first A.found)) (sound_fewer A.part.grows.loops h)))))
    expression_taken sc ls at (plain.print s x) t t' js w e = restated (expression_taken sc ls (child at 0) x t t' js w e) (λ es k m i. takes_node s i (λ n q. takes_map (named.print n) (k false Site.Value) (λ c h. h)))
    expression_taken sc ls at (plain.block s b) t t' js w e = restated (body_taken sc ls (child at 0) b t t' js w e) (λ es k m i. takes_node s i (λ n q. takes_map (named.block n) (k (numbering.passed_on i)) (λ c h. h)))
    expression_taken sc ls at (plain.if s x b o) t t' js w e =
        let X = named_ok (in_expression I sc ls (child at 0) x t) (in_block I sc ls (child at 1) b >> in_optional I sc ls (child at 2) o) t' e in
        let Y = named_ok (in_block I sc ls (child at 1) b X.0) (in_optional I sc ls (child at 2) o) t' X.2 in
        let A = expression_taken sc ls (child at 0) x t X.0 js w X.1 in
        let w1 = later A.grows w in
        let B = body_taken sc ls (child at 1) b X.0 Y.0 js w1 Y.1 in
        let E = optional_taken sc ls (child at 2) o Y.0 t' js (later B.grows w1) Y.2 in
        let p = A.grows.loops in let q = B.grows.loops in
        in_turn3 A B E (λ _ _ _ k l r m i. takes_node s i (λ n z. takes_then (k false Site.Value) (λ c g. takes_then (l (numbering.branch_site i o)) (λ b h. takes_map (named.if n c b) (r (numbering.passed_on i)) (λ y j.
        sound_three g h j p (omega (arith, p, q)))))))
    expression_taken sc ls at (plain.if_let s p y x o) t t' js w e =
        let b0 : Bound = record { bindings = []; tables = t } in
        let g : Bound → Naming = λ b. in_expression I sc ls (child at 1) y >> in_block I (scopes.entered sc b.bindings) ls (child at 2) x >> in_optional I sc ls (child at 3) o in
        let Z = named_ok (in_pattern I (child at 0) p b0) (λ b. g b b.tables) t' e in
        let X = named_ok (in_expression I sc ls (child at 1) y Z.0.tables) (in_block I (scopes.entered sc Z.0.bindings) ls (child at 2) x >> in_optional I sc ls (child at 3) o) t' Z.2 in
        let Y = named_ok (in_block I (scopes.entered sc Z.0.bindings) ls (child at 2) x X.0) (in_optional I sc ls (child at 3) o) t' X.2 in
        let P = pattern_taken I (child at 0) p b0 Z.0 Z.1 in
        let w1 = later P.part.grows w in
        let A = expression_taken sc ls (child at 1) y Z.0.tables X.0 js w1 X.1 in
        let w2 = later A.grows w1 in
        let B = body_taken (scopes.entered sc Z.0.bindings) ls (child at 2) x X.0 Y.0 js w2 Y.1 in
        let E = optional_taken sc ls (child at 3) o Y.0 t' js (later B.grows w2) Y.2 in
        let u1 = P.part.grows.loops in let u2 = A.grows.loops in let u3 = B.grows.loops in
        in_turn4 (pattern_means (child at 0) p b0 Z.0 Z.1) A B E (λ _ _ _ _ k l r z m i. takes_node s i (λ n q. takes_quiet quiet_counted (λ u _. takes_then k (λ c g. takes_quiet quiet_counted (λ v _. takes_then (l false Site.Scrutinee) (λ d h.
        takes_quiet (quiet_between u v) (λ _ _. takes_then (r (numbering.branch_site i o)) (λ b j. takes_map (named.if_let n c d b) (z (numbering.passed_on i)) (λ f y.
        sound_more g (sound_fewer u1 (sound_three h j y u2 (omega (arith, u2, u3)))))))))))))
    expression_taken sc ls at (plain.match s x l) t t' js w e =
        let X = named_ok (in_expression I sc ls (child at 0) x t) (in_arms I sc ls at 1 l) t' e in
        let A = expression_taken sc ls (child at 0) x t X.0 js w X.1 in
        let B = arms_taken sc ls at 1 l X.0 t' js (later A.grows w) X.2 in
        in_turn A B (λ _ _ k l m i. takes_node s i (λ n q. takes_then (k false Site.Scrutinee) (λ c g. takes_map (named.match n c) (l (numbering.passed_on i)) (λ d h. sound_two g h A.grows.loops))))
    expression_taken sc ls at (plain.loop s l b) t t' js w e =
        let p = position I at in let j = Loops t in let z = new_loop_size t p in
        in_new_loop p (body_taken sc (a_loop l (number j) ∷ ls) (child at 0) b (with_loop p t) t' (j ∷ js) (stands_in_loop p l w) e)
        (λ es k m i. takes_node s i (λ n q. takes_then (takes_loop t p) (λ v r. takes_last (k Site.Value) (λ c h. takes_quiet (quiet_is_left v) (λ y _. takes_give (named.loop n v y c) (sound_loop (omega (arith, z)) h))))))
    expression_taken sc ls at (plain.while s l x b) t t' js w e =
        let p = position I at in let u = with_loop p t in let j = Loops t in let n = number j in let z = new_loop_size t p in
        let X = named_ok (in_expression I sc (a_test ∷ a_loop l n ∷ ls) (child at 0) x u) (in_block I sc (a_loop l n ∷ ls) (child at 1) b) t' e in
        let w1 = stands_in_loop p l w in
        let A = expression_taken sc (a_test ∷ a_loop l n ∷ ls) (child at 0) x u X.0 [] (in_test w1) X.1 in
        let B = body_taken sc (a_loop l n ∷ ls) (child at 1) b X.0 t' (j ∷ js) (later A.grows w1) X.2 in
        let y = A.grows.loops in
        in_new_loop p (in_turn {L = λ es. (m : Bool) (i : Site) → Takes (SoundExp js (Loops t)) t t' es (of_expression m i (plain.while s l x b))} A B (λ es fs k r m i. takes_node s i (λ n q. takes_then (takes_loop t p) (λ v f.
        takes_then (k false Site.Value) (λ c g. takes_map (named.while n v c) (r Site.Value) (λ d h.
        subst (λ (o : ℕ). SoundExp js j (named.while n o c d)) (sym f) (sound_test (omega (arith, z)) (omega (arith, z, y)) g h))))))) (λ es k. k)
    expression_taken sc ls at (plain.while_let s l p y x) t t' js w e =
        let o = position I at in let u = with_loop o t in let j = Loops t in let n = number j in let z = new_loop_size t o in
        let b0 : Bound = record { bindings = []; tables = u } in
        let g : Bound → Naming = λ b. in_expression I sc (a_test ∷ a_loop l n ∷ ls) (child at 1) y >> in_block I (scopes.entered sc b.bindings) (a_loop l n ∷ ls) (child at 2) x in
        let Z = named_ok (in_pattern I (child at 0) p b0) (λ b. g b b.tables) t' e in
        let X = named_ok (in_expression I sc (a_test ∷ a_loop l n ∷ ls) (child at 1) y Z.0.tables) (in_block I (scopes.entered sc Z.0.bindings) (a_loop l n ∷ ls) (child at 2) x) t' Z.2 in
        let P = pattern_taken I (child at 0) p b0 Z.0 Z.1 in
        let w1 = stands_in_loop o l w in
        let w2 = later P.part.grows w1 in
        let A = expression_taken sc (a_test ∷ a_loop l n ∷ ls) (child at 1) y Z.0.tables X.0 [] (in_test w2) X.1 in
        let B = body_taken (scopes.entered sc Z.0.bindings) (a_loop l n ∷ ls) (child at 2) x X.0 t' (j ∷ js) (later A.grows w2) X.2 in
        let u1 = P.part.grows.loops in let u2 = A.grows.loops in
        in_new_loop o (in_turn3 {P = λ es. (m : Bool) (i : Site) → Takes (SoundExp js (Loops t)) t t' es (of_expression m i (plain.while_let s l p y x))} (pattern_means (child at 0) p b0 Z.0 Z.1) A B (λ _ _ _ k r y m i. takes_node s i (λ n q. takes_then (takes_loop t o) (λ v f.
        takes_quiet quiet_counted (λ u _. takes_then k (λ c g. takes_quiet quiet_counted (λ u' _. takes_then (r false Site.Scrutinee) (λ d h. takes_quiet (quiet_between u u') (λ _ _. takes_map (named.while_let n v c d) (y Site.Value) (λ b i.
        subst (λ (a : ℕ). SoundExp js j (named.while_let n a c d b)) (sym f) (sound_more g (sound_test (omega (arith, z, u1)) (omega (arith, z, u1, u2)) h i)))))))))))) (λ es k. k)
    expression_taken sc ls at (plain.break s l) t t' js w e =
        let A = one_part I at t t' (led s l (target l ls)) e in
        let v = led_is s l (target l ls) A.first A.found in
        few_restated A.part (λ f es k m i. takes_node s i (λ n q. takes_last k (λ ns h. takes_quiet (quiet_leads (first ns.0)) (λ _ _. takes_give (named.break n (first ns.0))
        (break_sound js (Loops t) (first ns.0) n (at_entry (λ a. IsIn (first a.0) js) (A.first ∷ []) false ns h ((w.here (few_before A.part.grows f)).loops l A.first v)))))))
    expression_taken sc ls at (plain.continue s l) t t' js w e =
        restated (any_entry (one_part I at t t' (led s l (target l ls)) e).part) (λ es k m i. takes_node s i (λ n q. takes_map (λ ns. named.continue n (first ns.0)) k (λ ns h. sound_none)))
    expression_taken sc ls at (plain.return s o) t t' js w e =
        restated (optional_taken sc ls (child at 0) o t t' js w e) (λ es k m i. takes_node s i (λ n q. takes_map (named.return n) (k Site.Expects) (λ c h. h)))

    each_taken : (sc : Variables) (ls : List Around) (at : List ℕ) (j : ℕ) (es : Expressions) (t t' : ItemNames) (js : List ℕ) → Stands [] ls [] js t → in_expressions I sc ls at j es t ≡ Ok t' → EachTaken js es t t'
    each_taken sc ls at j plain.no_expression t t' js w e = unchanged t t' (λ u fs. (i : Site) → Takes (SoundEach js (Loops t)) t u fs (numbering.of_expressions i plain.no_expression)) e (λ i. takes_give named.no_exp sound_none)
    each_taken sc ls at j (plain.expression_and x es) t t' js w e =
        let X = named_ok (in_expression I sc ls (child at j) x t) (in_expressions I sc ls at (next j) es) t' e in
        let A = expression_taken sc ls (child at j) x t X.0 js w X.1 in
        let B = each_taken sc ls at (next j) es X.0 t' js (later A.grows w) X.2 in
        in_turn A B (λ _ _ k l i. takes_then (k false i) (λ c g. takes_map (named.exp_and c) (l i) (λ d h. sound_two g h A.grows.loops)))

    optional_taken : (sc : Variables) (ls : List Around) (at : List ℕ) (o : OptionalExpression) (t t' : ItemNames) (js : List ℕ) → Stands [] ls [] js t → in_optional I sc ls at o t ≡ Ok t' → OptionalTaken js o t t'
    optional_taken sc ls at plain.absent t t' js w e = unchanged t t' (λ u fs. (i : Site) → Takes (SoundElse js (Loops t)) t u fs (numbering.of_optional i plain.absent)) e (λ i. takes_give named.absent sound_none)
    optional_taken sc ls at (plain.present x) t t' js w e = restated (expression_taken sc ls at x t t' js w e) (λ es k i. takes_map (λ z. named.present z) (k false i) (λ c h. h))

    arguments_taken : (sc : Variables) (ls : List Around) (at : List ℕ) (o : OptionalExpressions) (t t' : ItemNames) (js : List ℕ) → Stands [] ls [] js t → in_arguments I sc ls at o t ≡ Ok t' → ArgumentsTaken js o t t'
    arguments_taken sc ls at plain.no_list t t' js w e = unchanged t t' (λ u fs. Takes (SoundEach js (Loops t)) t u fs (numbering.of_arguments plain.no_list)) e (takes_give named.no_exp sound_none)
    arguments_taken sc ls at (plain.a_list es) t t' js w e = restated (each_taken sc ls at 0 es t t' js w e) (λ fs k. k Site.Expects)

    fields_taken : (sc : Variables) (ls : List Around) (at : List ℕ) (j : ℕ) (fs : FieldExpressions) (t t' : ItemNames) (js : List ℕ) → Stands [] ls [] js t → in_fields I sc ls at j fs t ≡ Ok t' → FieldsTaken js fs t t'
    fields_taken sc ls at j plain.no_field t t' js w e = unchanged t t' (λ u fs. Takes (SoundFields js (Loops t)) t u fs (numbering.of_fields plain.no_field)) e (takes_give named.no_field sound_none)
    fields_taken sc ls at j (plain.field_and y x fs) t t' js w e =
        let X = named_ok (in_expression I sc ls (child at j) x t) (in_fields I sc ls at (next j) fs) t' e in
        let A = expression_taken sc ls (child at j) x t X.0 js w X.1 in
        let B = fields_taken sc ls at (next j) fs X.0 t' js (later A.grows w) X.2 in
        in_turn A B (λ _ _ k l. takes_then (k false Site.Expects) (λ c g. takes_map (named.field_and y.name c) l (λ d h. sound_two g h A.grows.loops)))

    arms_taken : (sc : Variables) (ls : List Around) (at : List ℕ) (j : ℕ) (l : Arms) (t t' : ItemNames) (js : List ℕ) → Stands [] ls [] js t → in_arms I sc ls at j l t ≡ Ok t' → ArmsTaken js l t t'
    arms_taken sc ls at j plain.no_arm t t' js w e = unchanged t t' (λ u fs. (i : Site) → Takes (SoundArms js (Loops t)) t u fs (numbering.of_arms i plain.no_arm)) e (λ i. takes_give named.no_arm sound_none)
    arms_taken sc ls at j (plain.arm_and p x l) t t' js w e =
        let b0 : Bound = record { bindings = []; tables = t } in
        let V = named_ok (pattern_then I (child at j) p (λ ds. in_expression I (scopes.entered sc ds) ls (child at (next j)) x) t) (in_arms I sc ls at (next (next j)) l) t' e in
        let Z = named_ok (in_pattern I (child at j) p b0) (λ b. in_expression I (scopes.entered sc b.bindings) ls (child at (next j)) x b.tables) V.0 V.1 in
        let P = pattern_taken I (child at j) p b0 Z.0 Z.1 in
        let w1 = later P.part.grows w in
        let A = expression_taken (scopes.entered sc Z.0.bindings) ls (child at (next j)) x Z.0.tables V.0 js w1 Z.2 in
        let B = arms_taken sc ls at (next (next j)) l V.0 t' js (later A.grows w1) V.2 in
        in_turn3 (pattern_means (child at j) p b0 Z.0 Z.1) A B (λ _ _ _ k l r i. takes_quiet quiet_counted (λ u _. takes_then k (λ c g. takes_quiet quiet_counted (λ v _. takes_quiet (quiet_between u v) (λ _ _.
        takes_then (l false i) (λ d h. takes_map (named.arm_and c d) (r i) (λ f y. sound_fewer P.part.grows.loops (sound_more g (sound_two h y A.grows.loops)))))))))

    pub body_taken : (sc : Variables) (ls : List Around) (at : List ℕ) (b : Body) (t t' : ItemNames) (js : List ℕ) → Stands [] ls [] js t → in_block I sc ls at b t ≡ Ok t' → BodyTaken js b t t'
    body_taken sc ls at (plain.body s ss o) t t' js w e =
        let X = named_ok (in_statements I sc ls at 0 ss t) (λ r. in_optional I r.scope ls (child at (number (length (listed ss)))) o r.tables) t' e in
        let A = statements_taken sc ls at 0 ss t X.0 js w X.1 in
        let B = optional_taken X.0.scope ls (child at (number (length (listed ss)))) o X.0.tables t' js (later A.grows w) X.2 in
        in_turn A B (λ _ _ k l i. takes_node s i (λ n q. takes_then k (λ c g. takes_map (named.body n c) (l i) (λ d h. sound_two g h A.grows.loops))))

    statements_taken : (sc : Variables) (ls : List Around) (at : List ℕ) (j : ℕ) (ss : Statements) (t : ItemNames) (r : Scoped) (js : List ℕ) → Stands [] ls [] js t → in_statements I sc ls at j ss t ≡ Ok r → StatementsTaken js ss t r
    statements_taken sc ls at j plain.no_statement t r js w e =
        subst (λ (z : Scoped). StatementsTaken js plain.no_statement t z) (the_same (record { scope = sc; tables = t }) r e)
        (record { added = []; grown = sym (append-nil t.names); grows = grows_not t; numbers = λ _. takes_give named.no_statement sound_none })
    statements_taken sc ls at j (plain.statement_and a ss) t r js w e =
        let X = named_ok (in_statement I sc ls (child at j) a t) (λ r. in_statements I r.scope ls at (next j) ss r.tables) r e in
        let A = statement_taken sc ls (child at j) a t X.0 js w X.1 in
        let B = statements_taken X.0.scope ls at (next j) ss X.0.tables r js (later A.grows w) X.2 in
        in_turn A B (λ _ _ k l. takes_then k (λ c g. takes_map (named.statement_and c) l (λ d h. sound_two g h A.grows.loops)))

    statement_taken : (sc : Variables) (ls : List Around) (at : List ℕ) (a : Statement) (t : ItemNames) (r : Scoped) (js : List ℕ) → Stands [] ls [] js t → in_statement I sc ls at a t ≡ Ok r → StatementTaken js a t r
    statement_taken sc ls at (plain.let_statement s p y plain.absent) t r js w e =
        let b0 : Bound = record { bindings = []; tables = t } in
        let to : DeclaredNames → ItemNames → Scoped = λ ds t. record { scope = scopes.entered sc ds; tables = t } in
        let g = in_optional_type I (child at 1) y in let k = in_optional I sc ls (child at (initialiser_at y)) plain.absent in
        let Z = named_ok (in_pattern I (child at 0) p b0) (λ b. and_then ((g >> k) b.tables) (λ t. Ok (to b.bindings t))) r e in
        let Y = named_ok ((g >> k) Z.0.tables) (λ t. Ok (to Z.0.bindings t)) r Z.2 in
        let X = named_ok (g Z.0.tables) k Y.0 Y.1 in
        let P = pattern_taken I (child at 0) p b0 Z.0 Z.1 in
        let G = optional_type_taken I (child at 1) y Z.0.tables X.0 X.1 in
        let E : Part X.0 Y.0 (λ gs. (i : Site) → Takes (λ (a : named.Else). Unit {0}) X.0 Y.0 gs (numbering.of_optional i plain.absent)) =
        unchanged X.0 Y.0 (λ u gs. (i : Site) → Takes (λ (a : named.Else). Unit {0}) X.0 u gs (numbering.of_optional i plain.absent)) X.2 (λ i. takes_give named.absent tt) in
        subst (λ (z : Scoped). StatementTaken js (plain.let_statement s p y plain.absent) t z) (the_same (to Z.0.bindings Y.0) r Y.2)
        (in_turn3 P.part G E (λ _ _ _ k l m. takes_node s Site.Value (λ n q. takes_quiet (quiet_annotates p y) (λ _ _. takes_quiet quiet_counted (λ i _. takes_then k (λ c v. takes_quiet quiet_counted (λ j _. takes_then l (λ z h.
        takes_last (m Site.Value) (λ _ _. takes_quiet (quiet_between i j) (λ _ _. takes_quiet (quiet_waits (numbering.has_no_type z) c) (λ _ _. takes_give (named.declares n c z) sound_none)))))))))))
    statement_taken sc ls at (plain.let_statement s p y (plain.present x)) t r js w e =
        let b0 : Bound = record { bindings = []; tables = t } in
        let to : DeclaredNames → ItemNames → Scoped = λ ds t. record { scope = scopes.entered sc ds; tables = t } in
        let g = in_optional_type I (child at 1) y in let k = in_optional I sc ls (child at (initialiser_at y)) (plain.present x) in
        let Z = named_ok (in_pattern I (child at 0) p b0) (λ b. and_then ((g >> k) b.tables) (λ t. Ok (to b.bindings t))) r e in
        let Y = named_ok ((g >> k) Z.0.tables) (λ t. Ok (to Z.0.bindings t)) r Z.2 in
        let X = named_ok (g Z.0.tables) k Y.0 Y.1 in
        let P = pattern_taken I (child at 0) p b0 Z.0 Z.1 in
        let G = optional_type_taken I (child at 1) y Z.0.tables X.0 X.1 in
        let E = expression_taken sc ls (child at (initialiser_at y)) x X.0 Y.0 js (later G.grows (later P.part.grows w)) X.2 in
        let u1 = P.part.grows.loops in let u2 = G.grows.loops in
        subst (λ (z : Scoped). StatementTaken js (plain.let_statement s p y (plain.present x)) t z) (the_same (to Z.0.bindings Y.0) r Y.2)
        (in_turn3 (pattern_means (child at 0) p b0 Z.0 Z.1) G E (λ _ _ _ k l m. takes_node s Site.Value (λ n q. takes_quiet (quiet_annotates p y) (λ _ _. takes_quiet quiet_counted (λ i _. takes_then k (λ c v. takes_quiet quiet_counted (λ j _. takes_then l (λ z h.
        takes_last (m false (numbering.initialiser_site z)) (λ a d. takes_quiet (quiet_between i j) (λ _ _. takes_quiet (quiet_waits (numbering.has_no_type z && named.never a) c) (λ _ _. takes_give (named.lets n c z a)
        (sound_more v (sound_fewer (omega (arith, u1, u2)) d)))))))))))))
    statement_taken sc ls at (plain.expression_statement s x b) t r js w e =
        let X = named_ok (in_expression I sc ls (child at 0) x t) (λ t. Ok (record { scope = sc; tables = t })) r e in
        let A = expression_taken sc ls (child at 0) x t X.0 js w X.1 in
        subst (λ (z : Scoped). StatementTaken js (plain.expression_statement s x b) t z) (the_same (record { scope = sc; tables = X.0 }) r X.2)
        (restated A (λ es k. takes_node s Site.Value (λ n q. takes_map (λ a. named.evaluates n a b) (k false Site.Value) (λ c h. h))))
