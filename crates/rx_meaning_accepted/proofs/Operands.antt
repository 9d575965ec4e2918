-- What the rules of types say of operands that have a type, and of what is made of them.
use Rattle.std.proofs.Common.{◌≡◌, ℕ, Bool, true, false, ◌&&◌, not, List, [], ◌∷◌, ◌++◌, length, Option, Some, None, slice_get, refl, sym, ap, ◌∙◌, subst, eqb-true}
use Rattle.rx_core.specs.declared.types.Kind.{Kind}
use Rattle.rx_tree.specs.declared.tree.BinaryOp.{BinaryOp}
use Rattle.rx_typed.specs.declared.nodes.Node.{Node}
use Rattle.rx_typed.specs.declared.nodes.Site.{Site}
use Rattle.rx_typed.specs.declared.nodes.Use.{Use}
use Rattle.rx_typed.specs.Types as types
use Rattle.rx_typed.specs.Types.{Typ, integer, boolean, tuple_of, reference, unit_shape, no_shape, shape_and, outline, result_declared, parameters_declared, fields_declared, variant_parts, field_typ}
use Rattle.rx_typed.specs.Named as named
use Rattle.rx_typed.specs.Named.{Exp, Exps, Else, Fields, node_of, never}
use Rattle.rx_typeck_solver.specs.declared.facts.Subject.{Subject}
use Rattle.rx_typeck_solver.specs.declared.facts.Subject.TheVariants as subject
use Rattle.rx_typeck_solver.specs.declared.facts.Op.TheVariants as op
use Rattle.rx_typeck_solver.specs.declared.facts.Test.TheVariants as test
use Rattle.rx_typeck_solver.specs.declared.facts.Rule.{Rule}
use Rattle.rx_typeck_solver.specs.declared.facts.Fact.{Fact}
use Rattle.rx_typeck_solver.specs.declared.facts.Fact.TheVariants as fact
use Rattle.rx_typeck_solver.specs.declared.facts.Kinds.{Kinds}
use Rattle.rx_typeck_solver.specs.Facts.{MeetsAll, Assignment, KnownItems, AnInteger, is_plain, is_unit, names_of, exactly, all_among}
use Rattle.rx_typeck_typed.specs.Asking.{Asking, ask, passes, all, signed}
use Rattle.rx_typeck_typed.specs.Demands as rules
use Rattle.rx_meaning_typed.specs.TypedActs.{Operates, adds, subtracts, multiplies, divides, leaves, equal_numbers, equal_truths, unequal_numbers, unequal_truths, less, at_most, greater, at_least, IsShown}
use Rattle.rx_repair.specs.TemporaryTypes.{at_site}
use Rattle.rx_repair.proofs.Asking.{Asks, NoPlace, asks_map, none, both, then_first, then_second, then_u, one_asked, quiet, refused, not_never_u, never_asks}
use Rattle.rx_repair.proofs.Places.{some_same, fixed_same}
use Rattle.rx_repair.proofs.Settling.{Settles}
use Rattle.rx_repair.proofs.Pieces as pieces
use Rattle.rx_repair.proofs.Pieces.{own, wished, Stands, Has, value_given, when_given}

-- ---- plain types

-- an integer or a truth value
pub data PlainTyp : Typ → Type 0 where
  a_number : (k : Kind) → PlainTyp (integer k)
  a_truth : PlainTyp boolean

plain_typ : (t : Typ) → is_plain (outline t) ≡ true → PlainTyp t
plain_typ (integer k) e = a_number k
plain_typ boolean e = a_truth
plain_typ (tuple_of ts) e = absurd (cc)
plain_typ (reference m t) e = absurd (cc)
plain_typ (types.named i) e = absurd (cc)

pub plain_shown : (t : Typ) → PlainTyp t → IsShown t
plain_shown _ (a_number k) = tt
plain_shown _ a_truth = tt

is_unit_result : (o : Option Typ) → is_unit o ≡ true → o ≡ Some unit_shape
is_unit_result None e = absurd (cc)
is_unit_result (Some (integer k)) e = absurd (cc)
is_unit_result (Some boolean) e = absurd (cc)
is_unit_result (Some (tuple_of no_shape)) e = refl
is_unit_result (Some (tuple_of (shape_and t ts))) e = absurd (cc)
is_unit_result (Some (reference m t)) e = absurd (cc)
is_unit_result (Some (types.named i)) e = absurd (cc)

and_front : (a b : Bool) → (a && b) ≡ true → a ≡ true
and_front true b e = refl
and_front false b e = absurd (cc)

-- as many fields are given as are declared
fields_count : (ds xs : List (List ℕ)) → exactly ds xs ≡ true → length ds ≡ length xs
fields_count ds xs e = eqb-true (length ds) (length xs) (and_front _ (all_among ds xs) e)

module _ (K : KnownItems) (A : Assignment) where
  abbrev Wants : Type 0 → Asking → Type 0
  Wants R a = Asks K A R a

  abbrev Own : Node → Typ
  Own n = own K A n

  -- ---- where values stand

  -- what a place gets is of the node's own type
  abbrev pub Same : Node → Type 0
  Same n = at_site n.site (Own n) (wished K A n) ≡ Own n

  joins_same : (n : Node) (t : Site) → Wants (at_site t (Own n) (wished K A n) ≡ Own n) (rules.joins n t)
  joins_same n Site.Value = asks_map (λ h. refl) none
  joins_same n Site.Place = asks_map (λ h. absurd h) (refused n _)
  joins_same n Site.Scrutinee = asks_map (λ h. refl) none
  joins_same n Site.Reborrows = asks_map (λ h. refl) (quiet n _ _ _)
  joins_same n Site.Expects = asks_map (λ h. some_same _ _ h.0) (one_asked n _ _ _)
  joins_same n Site.Initialises = asks_map (λ h. some_same _ _ h.0) (one_asked n _ _ _)

  -- what joins values is of its own type, where it isn't Never
  pub join_same : (n : Node) (v : Bool) → Wants (v ≡ false → Same n) (rules.join n v)
  join_same n true = asks_map (λ h e. absurd (cc)) (never_asks n n.site)
  join_same n false = asks_map (λ h e. h) (joins_same n n.site)

  -- ---- operands

  pub record Number (n : Node) : Type 0 where
    pub kind : Kind
    pub has : Has K A n (integer kind)

  number_has : (n : Node) (s : Kinds) → AnInteger s (Own n) → NoPlace n.site × Stands K A n → Number n
  number_has n s h k = record { kind = h.0; has = record { same = h.1; outside = k.0; stands = k.1 } }

  pub integer_given : (n : Node) (m : Bool) (v : ℕ) (k : Option Kind) → Wants (Number n) (rules.integer_at n m v k)
  integer_given n m v k = asks_map (λ h. number_has n _ h.0.0 h.1) (both (one_asked n _ _ _) (then_first (value_given K A n n.site) (quiet n _ _ _)))

  -- of two operands that have a type
  abbrev pub Both : Bool → Bool → Type 0 → Type 0
  Both x y R = x ≡ false → y ≡ false → R

  both_typed : {R : Type 0} (fs : Bool → Bool → List Fact) (x y : Bool) → MeetsAll K A (fs x y) → (MeetsAll K A (fs false false) → R) → Both x y R
  both_typed fs x y h f p q = f (subst (λ (b : Bool). MeetsAll K A (fs b false)) p (subst (λ (b : Bool). MeetsAll K A (fs x b)) q h))

  one_typed : {R : Type 0} (fs : Bool → List Fact) (x : Bool) → MeetsAll K A (fs x) → (MeetsAll K A (fs false) → R) → x ≡ false → R
  one_typed fs x h f p = f (subst (λ (b : Bool). MeetsAll K A (fs b)) p h)

  meets_behind : (fs gs : List Fact) → MeetsAll K A (fs ++ gs) → MeetsAll K A gs
  meets_behind [] gs h = h
  meets_behind (f ∷ fs) gs h = meets_behind fs gs h.1

  -- what an operator of two operands that have a type makes
  pub record Operated (o : BinaryOp) (n a : Node) (x : Bool) (b : Node) (y : Bool) : Type 0 where
    pub outside : NoPlace n.site
    pub made : Typ
    pub has : Has K A n made
    pub plain : PlainTyp made
    pub operates : Both x y (Operates o (Own a) (Own b) made)

  as_operates : (o : BinaryOp) (t u r t' u' : Typ) → t ≡ t' → u ≡ u' → Operates o t' u' r → Operates o t u r
  as_operates o t u r t' u' e g h = subst (λ z. Operates o z u r) (sym e) (subst (λ z. Operates o t' z r) (sym g) h)

  arithmetic_given : (o : BinaryOp) → ((k : Kind) → Operates o (integer k) (integer k) (integer k)) → (n a : Node) (x : Bool) (b : Node) (y : Bool) → Wants (Operated o n a x b y) (rules.arithmetic n a x b y)
  arithmetic_given o f n a x b y =
      asks_map (λ h.
      let z = meets_behind (rules.own_operand n a x ++ rules.own_operand n b y) (fact.Integer n.number all ∷ []) h.0 in let k = z.0.0 in record {
        outside = h.1.0;
        made = integer k;
        has = record { same = z.0.1; outside = h.1.0; stands = h.1.1 };
        plain = a_number k;
        operates = both_typed (λ x y. (rules.own_operand n a x ++ rules.own_operand n b y) ++ fact.Integer n.number all ∷ []) x y h.0
            (λ g. as_operates o (Own a) (Own b) (integer k) (integer k) (integer k) (some_same _ _ g.0 ∙ z.0.1) (some_same _ _ g.1.0 ∙ z.0.1) (f k));
      }) (both (one_asked n _ _ _) (value_given K A n n.site))

  truth_operated : (o : BinaryOp) (n a : Node) (x : Bool) (b : Node) (y : Bool) → Both x y (Operates o (Own a) (Own b) boolean) → Has K A n boolean → Operated o n a x b y
  truth_operated o n a x b y f h = record { outside = h.outside; made = boolean; has = h; plain = a_truth; operates = f }

  equality_given : (o : BinaryOp) → ((k : Kind) → Operates o (integer k) (integer k) boolean) → Operates o boolean boolean boolean → (n a : Node) (x : Bool) (b : Node) (y : Bool) → Wants (Operated o n a x b y) (rules.equality n a x b y)
  equality_given o f t n a x b y =
      asks_map (λ h. truth_operated o n a x b y
      (both_typed (λ x y. (rules.plain_operand a x ++ rules.plain_operand b y) ++ rules.same_operands a x b y) x y h.0 (λ g. by (Own a) (Own b) (plain_typ (Own a) g.0) (some_same _ _ g.1.1.0))) h.1)
      (both (one_asked n _ _ _) (pieces.truth_given K A n))
    where
      by : (u v : Typ) → PlainTyp u → v ≡ u → Operates o u v boolean
      by _ v (a_number k) e = subst (λ z. Operates o (integer k) z boolean) (sym e) (f k)
      by _ v a_truth e = subst (λ z. Operates o boolean z boolean) (sym e) t

  order_given : (o : BinaryOp) → ((k : Kind) → Operates o (integer k) (integer k) boolean) → (n a : Node) (x : Bool) (b : Node) (y : Bool) → Wants (Operated o n a x b y) (rules.order n a x b y)
  order_given o f n a x b y =
      asks_map (λ h. truth_operated o n a x b y
      (both_typed (λ x y. (rules.integer_operand a x ++ rules.integer_operand b y) ++ rules.same_operands a x b y) x y h.0
      (λ g. as_operates o (Own a) (Own b) boolean (integer g.0.0) (integer g.0.0) g.0.1 (some_same _ _ g.1.1.0 ∙ g.0.1) (f g.0.0))) h.1)
      (both (one_asked n _ _ _) (pieces.truth_given K A n))

  -- of `&&` and `||`
  pub record Joined (n a : Node) (x : Bool) (b : Node) (y : Bool) : Type 0 where
    pub has : Has K A n boolean
    pub left : x ≡ false → Own a ≡ boolean
    pub right : y ≡ false → Own b ≡ boolean

  pub lazy_given : (n a : Node) (x : Bool) (b : Node) (y : Bool) → Wants (Joined n a x b y) (rules.lazy n a x b y)
  lazy_given n a x b y =
      asks_map (λ h. record {
        has = h.1;
        left = λ p. of_left (subst (λ (v : Bool). MeetsAll K A (rules.truth_operand a v ++ rules.truth_operand b y)) p h.0);
        right = λ q. of_right x (subst (λ (v : Bool). MeetsAll K A (rules.truth_operand a x ++ rules.truth_operand b v)) q h.0);
      }) (both (one_asked n _ _ _) (pieces.truth_given K A n))
    where
      of_left : MeetsAll K A (rules.truth_operand a false ++ rules.truth_operand b y) → Own a ≡ boolean
      of_left g = sym (some_same _ _ g.0)

      of_right : (x : Bool) → MeetsAll K A (rules.truth_operand a x ++ rules.truth_operand b false) → Own b ≡ boolean
      of_right true g = sym (some_same _ _ g.0)
      of_right false g = sym (some_same _ _ g.1.0)

  -- what an operator makes: `&&` and `||` are lazy
  abbrev pub OfOperator : BinaryOp → Node → Node → Bool → Node → Bool → Type 0
  OfOperator BinaryOp.And n a x b y = Joined n a x b y
  OfOperator BinaryOp.Or n a x b y = Joined n a x b y
  OfOperator BinaryOp.Add n a x b y = Operated BinaryOp.Add n a x b y
  OfOperator BinaryOp.Sub n a x b y = Operated BinaryOp.Sub n a x b y
  OfOperator BinaryOp.Mul n a x b y = Operated BinaryOp.Mul n a x b y
  OfOperator BinaryOp.Div n a x b y = Operated BinaryOp.Div n a x b y
  OfOperator BinaryOp.Rem n a x b y = Operated BinaryOp.Rem n a x b y
  OfOperator BinaryOp.Eq n a x b y = Operated BinaryOp.Eq n a x b y
  OfOperator BinaryOp.Ne n a x b y = Operated BinaryOp.Ne n a x b y
  OfOperator BinaryOp.Lt n a x b y = Operated BinaryOp.Lt n a x b y
  OfOperator BinaryOp.Le n a x b y = Operated BinaryOp.Le n a x b y
  OfOperator BinaryOp.Gt n a x b y = Operated BinaryOp.Gt n a x b y
  OfOperator BinaryOp.Ge n a x b y = Operated BinaryOp.Ge n a x b y

  pub operation_given : (o : BinaryOp) (n a : Node) (x : Bool) (b : Node) (y : Bool) → Wants (OfOperator o n a x b y) (rules.operation o n a x b y)
  operation_given BinaryOp.Or n a x b y = lazy_given n a x b y
  operation_given BinaryOp.And n a x b y = lazy_given n a x b y
  operation_given BinaryOp.Eq n a x b y = equality_given BinaryOp.Eq (λ k. equal_numbers) equal_truths n a x b y
  operation_given BinaryOp.Ne n a x b y = equality_given BinaryOp.Ne (λ k. unequal_numbers) unequal_truths n a x b y
  operation_given BinaryOp.Lt n a x b y = order_given BinaryOp.Lt (λ k. less) n a x b y
  operation_given BinaryOp.Le n a x b y = order_given BinaryOp.Le (λ k. at_most) n a x b y
  operation_given BinaryOp.Gt n a x b y = order_given BinaryOp.Gt (λ k. greater) n a x b y
  operation_given BinaryOp.Ge n a x b y = order_given BinaryOp.Ge (λ k. at_least) n a x b y
  operation_given BinaryOp.Add n a x b y = arithmetic_given BinaryOp.Add (λ k. adds) n a x b y
  operation_given BinaryOp.Sub n a x b y = arithmetic_given BinaryOp.Sub (λ k. subtracts) n a x b y
  operation_given BinaryOp.Mul n a x b y = arithmetic_given BinaryOp.Mul (λ k. multiplies) n a x b y
  operation_given BinaryOp.Div n a x b y = arithmetic_given BinaryOp.Div (λ k. divides) n a x b y
  operation_given BinaryOp.Rem n a x b y = arithmetic_given BinaryOp.Rem (λ k. leaves) n a x b y

  -- `-`: of a number, one of its kind
  pub record Negated (n a : Node) (x : Bool) : Type 0 where
    pub kind : Kind
    pub has : Has K A n (integer kind)
    pub operand : x ≡ false → Own a ≡ integer kind

  pub negated_given : (n a : Node) (x : Bool) → Wants (Negated n a x) (rules.negated n a x)
  negated_given n a x =
      asks_map (λ h.
      let z = meets_behind (rules.own_operand n a x) (fact.Integer n.number signed ∷ []) h.0 in record {
        kind = z.0.0;
        has = record { same = z.0.1; outside = h.1.0; stands = h.1.1 };
        operand = one_typed (λ x. rules.own_operand n a x ++ fact.Integer n.number signed ∷ []) x h.0 (λ g. some_same _ _ g.0 ∙ z.0.1);
      }) (both (one_asked n _ _ _) (value_given K A n n.site))

  -- `!`
  pub record Inverted (n a : Node) (x : Bool) : Type 0 where
    pub has : Has K A n boolean
    pub operand : x ≡ false → Own a ≡ boolean

  pub inverted_given : (n a : Node) (x : Bool) → Wants (Inverted n a x) (rules.inverted n a x)
  inverted_given n a x =
      asks_map (λ h. record { has = h.1; operand = one_typed (λ x. rules.truth_operand a x) x h.0 (λ g. sym (some_same _ _ g.0)) })
      (both (one_asked n _ _ _) (pieces.truth_given K A n))

  -- `op=`: what is changed is an integer, and so is the other operand
  pub record Updated (a : Node) (x : Bool) (b : Node) (y : Bool) : Type 0 where
    pub numbers : Both x y ((k : Kind) × (Own a ≡ integer k) × (Own b ≡ integer k))

  pub updated_given : (n a : Node) (x : Bool) (b : Node) (y : Bool) → Wants (Updated a x b y) (rules.updated n a x b y)
  updated_given n a x b y =
      asks_map (λ h. record {
        numbers = both_typed (λ x y. (rules.integer_operand a x ++ rules.integer_operand b y) ++ rules.same_operands a x b y) x y h
            (λ g. (g.0.0, g.0.1, some_same _ _ g.1.1.0 ∙ g.0.1));
      }) (one_asked n _ _ _)

  pub tested_given : (n : Node) (v : Bool) → Wants (v ≡ false → Own n ≡ boolean) (rules.tested n v)
  tested_given n v = when_given K A v _ (asks_map (λ h. sym (some_same _ _ h.0)) (one_asked n _ _ _))

  pub printed_given : (n : Node) (v : Bool) → Wants (v ≡ false → PlainTyp (Own n)) (rules.printed n v)
  printed_given n v = when_given K A v _ (asks_map (λ h. plain_typ (Own n) h.0) (one_asked n _ _ _))

  -- ---- what is assigned

  pub wished_same : (e p : Node) → Wants (wished K A e ≡ Own p) (rules.expects e op.Same (subject.Node p.number ∷ []))
  wished_same e p = asks_map (λ h. sym (some_same _ _ h.0)) (one_asked e _ _ _)

  named_given : (n : Node) (x : Use) (k : Bool) → Wants (Unit {0}) (rules.named_at n x k)
  named_given n x true = quiet n _ _ _
  named_given n x false = asks_map (λ h. absurd h) (refused n _)

  -- what gives a variable its type, where it isn't Never
  pub assigned_given : (n p : Node) (x : Use) (d : Option ℕ) (e : Node) (v : Bool) → Wants (v ≡ false → A (subject.Variable x.number) ≡ Own e) (rules.given n p x d e v)
  assigned_given n p x (Some d) e v = then_second (not_never_u e v) (then_first (asks_map (λ h q. sym (some_same _ _ h.0)) (one_asked n _ _ _)) (quiet p _ _ _))
  assigned_given n p x None e v = then_second (named_given p x x.known) (when_given K A v _ (asks_map (λ h. sym (some_same _ _ h.0)) (one_asked e _ _ _)))

  -- ---- what is given back

  abbrev pub Returned : ℕ → Else → Type 0
  Returned f named.absent = result_declared (slice_get K.items f) ≡ Some unit_shape
  Returned f (named.present e) = result_declared (slice_get K.items f) ≡ Some (wished K A (node_of e))

  pub returned_given : (f : ℕ) (n : Node) (o : Else) → Wants (Returned f o) (rules.returns_unit f n o)
  returned_given f n named.absent = asks_map (λ h. is_unit_result (result_declared (slice_get K.items f)) h.0) (one_asked n _ _ _)
  returned_given f n (named.present e) = asks_map (λ h. fixed_same (result_declared (slice_get K.items f)) (wished K A (node_of e)) h.0) (one_asked (node_of e) _ _ _)

  pub result_wished : (f : ℕ) (n : Node) → Wants (result_declared (slice_get K.items f) ≡ Some (wished K A n)) (rules.expects n (op.Result f) [])
  result_wished f n = asks_map (λ h. fixed_same (result_declared (slice_get K.items f)) (wished K A n) h.0) (one_asked n _ _ _)

  -- ---- arguments and parts

  -- the types that the places of a list of values expect
  abbrev pub parts_of : rules.Listed → List Typ
  parts_of (rules.parameters g) = parameters_declared (slice_get K.items g)
  parts_of (rules.parts_of i v) = variant_parts K.items i v
  parts_of _ = []

  abbrev pub Wishes : rules.Listed → ℕ → Node → Type 0
  Wishes rules.members k n = Unit {0}
  Wishes rules.values k n = Unit {0}
  Wishes (rules.parameters g) k n = slice_get (parameters_declared (slice_get K.items g)) k ≡ Some (wished K A n)
  Wishes (rules.parts_of i v) k n = slice_get (variant_parts K.items i v) k ≡ Some (wished K A n)

  pub each_before_given : (w : rules.Listed) (k : ℕ) (n : Node) → Wants (Wishes w k n) (rules.each_before w k n)
  each_before_given rules.members k n = none
  each_before_given rules.values k n = none
  each_before_given (rules.parameters g) k n = asks_map (λ h. fixed_same (slice_get (parameters_declared (slice_get K.items g)) k) (wished K A n) h.0) (one_asked n _ _ _)
  each_before_given (rules.parts_of i v) k n = asks_map (λ h. fixed_same (slice_get (variant_parts K.items i v) k) (wished K A n) h.0) (one_asked n _ _ _)

  pub field_given : (i : ℕ) (x : List ℕ) (n : Node) → Wants (field_typ (fields_declared (slice_get K.items i)) x ≡ Some (wished K A n)) (rules.expects n (op.FieldOf i x) [])
  field_given i x n = asks_map (λ h. fixed_same (field_typ (fields_declared (slice_get K.items i)) x) (wished K A n) h.0) (one_asked n _ _ _)

  pub taken_given : (n : Node) (g m : ℕ) → Wants (length (parameters_declared (slice_get K.items g)) ≡ m) (ask n Rule.Count (passes (test.Takes g m) [] ∷ []))
  taken_given n g m = asks_map (λ h. eqb-true _ m h.0) (one_asked n _ _ _)

  pub held_given : (n : Node) (i v m : ℕ) → Wants (length (variant_parts K.items i v) ≡ m) (ask n Rule.Count (passes (test.Holds i v m) [] ∷ []))
  held_given n i v m = asks_map (λ h. eqb-true _ m h.0) (one_asked n _ _ _)

  pub fields_given : (n : Node) (i : ℕ) (xs : List (List ℕ)) → Wants (length (names_of (fields_declared (slice_get K.items i))) ≡ length xs) (ask n Rule.Fields (passes (test.HasFields i xs) [] ∷ []))
  fields_given n i xs = asks_map (λ h. fields_count (names_of (fields_declared (slice_get K.items i))) xs h.0) (one_asked n _ _ _)
