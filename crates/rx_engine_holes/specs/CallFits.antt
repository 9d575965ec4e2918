-- Statements with a call whose arguments are variables and borrows of variables, also where it is matched and an arm assigns and jumps, and the types
-- of what is made there (Rust Reference, "Call expressions", "Match expressions", "Coercion types", "let statements", "Assignment expressions").
use Rattle.std.specs.Prelude.{◌≡◌, ℕ, suc, Bool, true, false, ◌||◌, IsTrue, List, [], ◌∷◌, ◌++◌, length, Some, None, slice_get}
use Rattle.rx_typed.specs.declared.nodes.Node.{Node}
use Rattle.rx_typed.specs.declared.nodes.Site.{Site}
use Rattle.rx_typed.specs.declared.nodes.Use.{Use}
use Rattle.rx_typed.specs.Types.{boolean, integer, keeps_limits, lifetimes_declared, named as item, outline, parameters_declared, reference, result_declared, shapes_listed, shapes_of, tuple_of, unit_shape, variant_parts, no_shape, shape_and, Shapes, Typ}
use Rattle.rx_core.specs.declared.types.Kind.{Kind}
use Rattle.rx_typed.specs.Named as named
use Rattle.rx_typed.specs.Naming.{passed_on}
use Rattle.rx_typed.specs.Named.{Arms, Else, Exp, Exps, Patterns, Statement, Statements, Written, WrittenTypes, is_place, never, node_of, some_diverges}
use Rattle.rx_typeck_solver.specs.declared.facts.Subject.TheVariants as subject
use Rattle.rx_typeck_solver.specs.Facts.{coerced, KnownItems}
use Rattle.rx_typeck_typed.specs.Asking.{expected, type_of}
use Rattle.rx_typeck_typed.specs.Demands.{argument_count, count}
use Rattle.rx_engine_blocks.specs.Signature.{typ_written, typs_written}
use Rattle.rx_engine_holes.specs.Entries.{Entries, Context, with_entries}

-- the types of what is written, the outermost first
abbrev mutual
  pub written_entries : Written → Entries
  written_entries (named.a_kind n k) = (type_of n, integer k) ∷ []
  written_entries (named.a_bool n) = (type_of n, boolean) ∷ []
  written_entries (named.a_tuple n ts) = (type_of n, tuple_of (shapes_of (typs_written ts))) ∷ all_written_entries ts
  written_entries (named.a_reference n m t) = (type_of n, reference m (typ_written t)) ∷ written_entries t
  written_entries (named.an_item n i ls) = (type_of n, item i) ∷ []

  pub all_written_entries : WrittenTypes → Entries
  all_written_entries named.no_written = []
  all_written_entries (named.written_and t ts) = written_entries t ++ all_written_entries ts

-- a match of type `t` where `u` is expected: at a coercion site it has the expected type
abbrev pub MatchFits : Site → Typ → Typ → Type 0
MatchFits Site.Expects u t = t ≡ u
MatchFits _ u t = Unit {0}

-- the value of an arm, of type `v`, at its own site: it fits the expected type, or has that of the match
abbrev pub ArmFits : Site → Typ → Typ → Typ → Type 0
ArmFits Site.Expects u t v = coerced v u ≡ v
ArmFits Site.Reborrows u t v = (v ≡ t) × (v ≡ u)
ArmFits _ u t v = v ≡ t

-- a typing context tells what is known in front
module _ (E : KnownItems) where
  -- where lifetimes are listed, there are as many as are declared
  abbrev mutual
    pub LifetimesFit : Written → Type 0
    LifetimesFit (named.a_kind n k) = Unit {0}
    LifetimesFit (named.a_bool n) = Unit {0}
    LifetimesFit (named.a_tuple n ts) = AllLifetimesFit ts
    LifetimesFit (named.a_reference n m t) = LifetimesFit t
    LifetimesFit (named.an_item n i None) = Unit {0}
    LifetimesFit (named.an_item n i (Some k)) = lifetimes_declared (slice_get E.items i) ≡ k

    pub AllLifetimesFit : WrittenTypes → Type 0
    AllLifetimesFit named.no_written = Unit {0}
    AllLifetimesFit (named.written_and t ts) = LifetimesFit t × AllLifetimesFit ts

  -- a variable, or a borrow of one, where a type is expected that it fits
  pub data GivenFits (B : Context) : Exp → Typ → Entries → Type 0 where
    by_itself : {n : Node} {x : Use} {t u : Typ} → B (subject.Variable x.number) ≡ Some t → x.known ≡ true → n.site ≡ Site.Expects → coerced t u ≡ t
        → GivenFits B (named.var n x) u ((type_of n, t) ∷ (expected n, u) ∷ [])
    borrowed : {n k : Node} {m : Bool} {x : Use} {t u : Typ} → B (subject.Variable x.number) ≡ Some t → x.known ≡ true → n.site ≡ Site.Expects → k.site ≡ Site.Place
        → (m ≡ true → x.mutable ≡ true) → IsTrue (keeps_limits E.sizes (outline (reference m t))) → coerced (reference m t) u ≡ reference m t
        → GivenFits B (named.borrow n m (named.var k x)) u ((type_of k, t) ∷ (type_of n, reference m t) ∷ (expected n, u) ∷ [])

  -- arguments of a function, from a number on
  pub data ArgumentsFit (B : Context) (g : ℕ) : ℕ → Exps → Entries → Type 0 where
    no_arguments : {k : ℕ} → ArgumentsFit B g k named.no_exp []
    more_arguments : {k : ℕ} {e : Exp} {es : Exps} {u : Typ} {a b : Entries} → slice_get (parameters_declared (slice_get E.items g)) k ≡ Some u → GivenFits B e u a → ArgumentsFit B g (suc k) es b
        → ArgumentsFit B g k (named.exp_and e es) (a ++ b)

  -- variables that parts of these types are bound to, from a number on
  pub data PartsBind (ts : List Typ) : ℕ → Patterns → Entries → Type 0 where
    no_parts : {k : ℕ} → PartsBind ts k named.no_pattern []
    more_parts : {k d : ℕ} {n : Node} {m : Bool} {ps : Patterns} {t : Typ} {a : Entries} → slice_get ts k ≡ Some t → IsTrue (keeps_limits E.sizes (outline t))
        → PartsBind ts (suc k) ps a → PartsBind ts k (named.pattern_and (named.bind n d m) ps) ((type_of n, t) ∷ (subject.Variable d, t) ∷ a)

  -- variables that are members of a tuple, and their types
  pub data MembersFit (B : Context) : Exps → Shapes Kind → Entries → Type 0 where
    no_members : MembersFit B named.no_exp no_shape []
    more_members : {n : Node} {x : Use} {t : Typ} {es : Exps} {ts : Shapes Kind} {a : Entries} → B (subject.Variable x.number) ≡ Some t → x.known ≡ true → n.site ≡ Site.Value → MembersFit B es ts a
        → MembersFit B (named.exp_and (named.var n x) es) (shape_and t ts) ((type_of n, t) ∷ a)

  -- in the function with this number
  module _ (f : ℕ) where
    mutual
      -- a value where `u` is expected, and its type: a call; a variable where it is no argument; a tuple of variables, the unit; a match on one
      pub data ValueFits : Context → Exp → Typ → Typ → Entries → Type 0 where
        a_call : {n : Node} {g : ℕ} {es : Exps} {u t : Typ} {a : Entries} {B : Context} → length (parameters_declared (slice_get E.items g)) ≡ argument_count es → ArgumentsFit B g 0 es a
            → result_declared (slice_get E.items g) ≡ Some t → ValueFits B (named.call n g es) u t ((type_of n, t) ∷ a)
        a_variable : {n : Node} {x : Use} {u t : Typ} {B : Context} → B (subject.Variable x.number) ≡ Some t → x.known ≡ true → ValueFits B (named.var n x) u t ((type_of n, t) ∷ [])
        a_tuple : {n : Node} {es : Exps} {u : Typ} {ts : Shapes Kind} {a : Entries} {B : Context} → MembersFit B es ts a → IsTrue (keeps_limits E.sizes (outline (tuple_of ts)))
            → ValueFits B (named.tuple n es) u (tuple_of ts) ((type_of n, tuple_of ts) ∷ a)
        the_unit : {n m : Node} {B : Context} → m.site ≡ passed_on n.site
            → ValueFits B (named.block n (named.body m named.no_statement named.absent)) unit_shape unit_shape ((type_of n, unit_shape) ∷ (type_of m, unit_shape) ∷ (expected m, unit_shape) ∷ [])
        a_match : {n : Node} {e : Exp} {l : Arms} {i : ℕ} {u v t : Typ} {a b : Entries} {B : Context} → ValueFits B e v (item i) a → (node_of e).site ≡ Site.Scrutinee → is_place e ≡ false → never e ≡ false
            → ArmsFit B n.site i u t l b → MatchFits n.site u t → ValueFits B (named.match n e l) u t ((type_of n, t) ∷ (a ++ b))

      -- the arms of a match at a site, over an enum
      pub data ArmsFit : Context → Site → ℕ → Typ → Typ → Arms → Entries → Type 0 where
        no_arms : {s : Site} {i : ℕ} {u t : Typ} {B : Context} → ArmsFit B s i u t named.no_arm []
        gives_value : {m : Node} {w : ℕ} {ps : Patterns} {e : Exp} {l : Arms} {v : Typ} {a b c : Entries} {s : Site} {i : ℕ} {u t : Typ} {B : Context} → length (variant_parts E.items i w) ≡ count ps → PartsBind (variant_parts E.items i w) 0 ps a
            → ValueFits (with_entries a B) e u v b → never e ≡ false → (node_of e).site ≡ passed_on s → ArmFits (passed_on s) u t v → ArmsFit B s i u t l c
            → ArmsFit B s i u t (named.arm_and (named.variant_pattern m i w ps) e l) ((type_of m, item i) ∷ (a ++ ((expected (node_of e), u) ∷ (b ++ c))))
        leaves : {m : Node} {w : ℕ} {ps : Patterns} {e : Exp} {l : Arms} {a b c : Entries} {s : Site} {i : ℕ} {u t : Typ} {B : Context} → length (variant_parts E.items i w) ≡ count ps → PartsBind (variant_parts E.items i w) 0 ps a
            → JumpFits (with_entries a B) e u b → never e ≡ true → (node_of e).site ≡ passed_on s → ArmsFit B s i u t l c
            → ArmsFit B s i u t (named.arm_and (named.variant_pattern m i w ps) e l) ((type_of m, item i) ∷ (a ++ ((expected (node_of e), u) ∷ (b ++ c))))

      -- a jump where `u` is expected: alone, behind statements, or with a value of the function's result
      pub data JumpFits : Context → Exp → Typ → Entries → Type 0 where
        a_break : {n : Node} {l : ℕ} {u : Typ} {B : Context} → JumpFits B (named.break n l) u []
        a_continue : {n : Node} {l : ℕ} {u : Typ} {B : Context} → JumpFits B (named.continue n l) u []
        a_return : {n : Node} {u : Typ} {B : Context} → result_declared (slice_get E.items f) ≡ Some unit_shape → JumpFits B (named.return n named.absent) u []
        a_return_with : {n : Node} {e : Exp} {u r t : Typ} {a : Entries} {B : Context} → result_declared (slice_get E.items f) ≡ Some r → ValueFits B e r t a → (node_of e).site ≡ Site.Expects → coerced t r ≡ t
            → JumpFits B (named.return n (named.present e)) u ((expected (node_of e), r) ∷ a)
        a_jump_behind : {n m : Node} {ss : Statements} {u : Typ} {a : Entries} {B : Context} → m.site ≡ passed_on n.site → StatementsFit B ss a → some_diverges ss ≡ true
            → JumpFits B (named.block n (named.body m ss named.absent)) u ((expected m, u) ∷ a)

      -- a statement that does something with such a value, and the types of what it makes
      pub data StatementFits : Context → Statement → Entries → Type 0 where
        done : {n : Node} {e : Exp} {u t : Typ} {a : Entries} {B : Context} → ValueFits B e u t a → (node_of e).site ≡ Site.Value → StatementFits B (named.evaluates n e true) a
        jumps : {n : Node} {e : Exp} {u : Typ} {a : Entries} {B : Context} → JumpFits B e u a → (node_of e).site ≡ Site.Value → StatementFits B (named.evaluates n e true) a
        bound : {n p : Node} {d : ℕ} {m : Bool} {e : Exp} {u t : Typ} {a : Entries} {B : Context} → ValueFits B e u t a → (node_of e).site ≡ Site.Scrutinee → is_place e ≡ false → never e ≡ false
            → IsTrue (keeps_limits E.sizes (outline t)) → StatementFits B (named.lets n (named.bind p d m) None e) ((type_of p, t) ∷ (subject.Variable d, t) ∷ a)
        several_bound : {n p : Node} {ps : Patterns} {e : Exp} {u : Typ} {ts : Shapes Kind} {a b : Entries} {B : Context} → ValueFits B e u (tuple_of ts) a → (node_of e).site ≡ Site.Scrutinee → is_place e ≡ false
            → never e ≡ false → length (shapes_listed ts) ≡ count ps → PartsBind (shapes_listed ts) 0 ps b
            → StatementFits B (named.lets n (named.tuple_pattern p ps) None e) ((type_of p, tuple_of ts) ∷ (b ++ a))
        assigned : {n k p : Node} {x : Use} {e : Exp} {t u : Typ} {a : Entries} {B : Context} → B (subject.Variable x.number) ≡ Some u → x.known ≡ true → k.site ≡ Site.Value → p.site ≡ Site.Place
            → ValueFits B e u t a → (node_of e).site ≡ Site.Expects → coerced t u ≡ t
            → StatementFits B (named.evaluates n (named.assign k (named.var p x) e) true) ((type_of p, u) ∷ (expected (node_of e), u) ∷ (type_of k, unit_shape) ∷ a)
        -- the variable waited for its type
        given : {n k p : Node} {x : Use} {d : ℕ} {e : Exp} {t : Typ} {a : Entries} {B : Context} → B (subject.Variable x.number) ≡ Some t → B (subject.Node d) ≡ Some t → k.site ≡ Site.Value
            → ValueFits B e t t a → (node_of e).site ≡ Site.Reborrows → never e ≡ false
            → StatementFits B (named.evaluates n (named.gives k p x (Some d) e) true) ((type_of p, t) ∷ (expected (node_of e), t) ∷ (type_of k, unit_shape) ∷ a)
        -- a part of the value gave it its type
        given_within : {n k p : Node} {x : Use} {e : Exp} {t : Typ} {a : Entries} {B : Context} → B (subject.Variable x.number) ≡ Some t → x.known ≡ true → k.site ≡ Site.Value → ValueFits B e t t a → (node_of e).site ≡ Site.Reborrows
            → StatementFits B (named.evaluates n (named.gives k p x None e) true) ((type_of p, t) ∷ (expected (node_of e), t) ∷ (type_of k, unit_shape) ∷ a)
        -- `let x: T;`
        declared : {n p : Node} {d : ℕ} {m : Bool} {w : Written} {B : Context} → LifetimesFit w → IsTrue (keeps_limits E.sizes (outline (typ_written w)))
            → StatementFits B (named.declares n (named.bind p d m) (Some w)) ((type_of p, typ_written w) ∷ (subject.Variable d, typ_written w) ∷ written_entries w)

      -- one behind another: what one makes is known in the next
      pub data StatementsFit : Context → Statements → Entries → Type 0 where
        no_more : {B : Context} → StatementsFit B named.no_statement []
        a_statement : {B : Context} {s : Statement} {ss : Statements} {a b : Entries} → StatementFits B s a → StatementsFit (with_entries a B) ss b
            → StatementsFit B (named.statement_and s ss) (a ++ b)

  -- what the end of a block at the node `n` makes of a value of this type, where that type is expected
  pub data Ends (B : Context) (n : Node) : Site → Typ → Typ → Type 0 where
    at_value : {t u : Typ} → B (type_of n) ≡ Some t → Ends B n Site.Value t u
    at_coercion : {t u : Typ} → B (expected n) ≡ Some u → coerced t u ≡ t → Ends B n Site.Expects t u
    at_reborrow : {t : Typ} → B (type_of n) ≡ Some t → Ends B n Site.Reborrows t t

  -- statements and a tail at the end of a block, in which what stands in front diverges or not
  pub data EndFits (f : ℕ) (B : Context) (n : Node) (d : Bool) : Statements → Else → Entries → Type 0 where
    no_tail : {ss : Statements} {a : Entries} → StatementsFit f B ss a → ((d || some_diverges ss) ≡ false → B (type_of n) ≡ Some unit_shape) → EndFits f B n d ss named.absent a
    a_tail : {ss : Statements} {e : Exp} {t u : Typ} {a b : Entries} → StatementsFit f B ss a → ValueFits f (with_entries a B) e u t b → never e ≡ false → (node_of e).site ≡ n.site → Ends B n n.site t u
        → EndFits f B n d ss (named.present e) (a ++ ((expected (node_of e), u) ∷ b))
