-- What is matched in a typed tree, by its form: the matches of a value, and the type that its mark says, but for whether a reference is shared.
use Rattle.std.proofs.Common.{◌≡◌, ℕ, Bool, true, false, List, [], ◌∷◌, ◌++◌, Option, Some, None, option_map, refl, sym, ap, ◌∙◌, subst, ◌≤◌, inl, inr}
use Rattle.rx_typed.specs.declared.nodes.Node.{Node}
use Rattle.rx_typed.specs.Types as types
use Rattle.rx_typed.specs.Types.{Declarations, Typ, integer, boolean, tuple_of, reference}
use Rattle.rx_typed.specs.Named as named
use Rattle.rx_typed.specs.Named.{is_place, node_of}
use Rattle.rx_typed.specs.Tree as tree
use Rattle.rx_typed.specs.Tree.{mark_of, Exp, Mark, Operands, Pattern, Place, Scrutinee}
use Rattle.rx_typed.specs.Elaborated as elaborated
use Rattle.rx_typed.specs.Elaborated.{as_shared, coercion_at, function_body, matched, matched_as, nested, passed_as, read_as, tail, value, Assigned, Coercion, plain, reborrow, share}
use Rattle.rx_cover.specs.Causes.{AllCovered, Covered, CoversTyp}
use Rattle.rx_cover.specs.Choices.{Choice, choice_of, choices, choices_among, choices_before, choices_of, choices_within, scrutinee_typ}
use Rattle.rx_cover.specs.Width.{limit, width}
use Rattle.rx_engine_blocks.specs.Renumbering.{Renumbering, shape_at}
use Rattle.rx_engine_covered.specs.LikeChoices as alike
use Rattle.rx_engine_covered.specs.LikeChoices.{LikeScrutinee}
use Rattle.rx_engine_covered.specs.Within.{choices_in_body}

-- ---- matches one behind another

pub covered_parts : (D : Declarations) (a b : List Choice) → AllCovered D (a ++ b) → AllCovered D a × AllCovered D b
covered_parts D [] b h = (tt, h)
covered_parts D (c ∷ a) b h = let p = covered_parts D a b h.1 in ((h.0, p.0), p.1)

pub covered_both : (D : Declarations) (a b : List Choice) → AllCovered D a → AllCovered D b → AllCovered D (a ++ b)
covered_both D [] b h k = k
covered_both D (c ∷ a) b h k = (h.0, covered_both D a b h.1 k)

abbrev pub Goes : Declarations → Declarations → List Choice → List Choice → Type 0
Goes D E a b = AllCovered D a → AllCovered E b

pub goes_both : (D E : Declarations) (a a' b b' : List Choice) → Goes D E a a' → Goes D E b b' → Goes D E (a ++ b) (a' ++ b')
goes_both D E a a' b b' f g h = let p = covered_parts D a b h in covered_both E a' b' (f p.0) (g p.1)

-- none there
pub goes_none : (D E : Declarations) (a b : List Choice) → b ≡ [] → Goes D E a b
goes_none D E a b e h = subst (λ (l : List Choice). AllCovered E l) (sym e) tt

-- ---- with a last arm that takes everything, a match is covered where its product is small

any_covers : (D : Declarations) (o : Option Typ) (p : Pattern) → CoversTyp D o (p ∷ tree.any ∷ [])
any_covers D None p = tt
any_covers D (Some t) p = λ v h. inr (inl tt)

pub with_any : (D : Declarations) (n : ℕ) (c : Scrutinee) (p : Pattern) → width (p ∷ tree.any ∷ []) ≤ limit → Covered D (choice_of n c (p ∷ tree.any ∷ []))
with_any D n c p w = record { narrow = w; covers = any_covers D (scrutinee_typ c) p }

-- ---- values by their forms

pub read_none : (T : Assigned) (n : Node) (c : Coercion) (p : Place) (k : ℕ) → choices k (read_as T n c p) ≡ []
read_none T n plain p k = refl
read_none T n reborrow p k = refl
read_none T n share p k = refl

pub borrow_none : (T : Assigned) (n : Node) (c : Coercion) (m : Mark) (b : Bool) (p : Place) (k : ℕ) → choices k (passed_as T n c (tree.borrow m b p)) ≡ []
borrow_none T n plain m b p k = refl
borrow_none T n reborrow m b p k = refl
borrow_none T n share m b p k = refl

pub call_choices : (T : Assigned) (n : Node) (c : Coercion) (m : Mark) (f : ℕ) (es : Operands) (k : ℕ) → choices k (passed_as T n c (tree.call m f es)) ≡ choices_among es
call_choices T n plain m f es k = refl
call_choices T n reborrow m f es k = refl
call_choices T n share m f es k = refl

pub tuple_choices : (T : Assigned) (n : Node) (es : Operands) (k : ℕ) → choices k (elaborated.tuple_of T n es) ≡ choices_among es
tuple_choices T n tree.no_operand k = refl
tuple_choices T n (tree.operand_and i e es) k = refl

-- the type, where a reference counts as shared
abbrev pub outer : Option Typ → Option Typ
outer o = option_map as_shared o

shared_twice : (t : Typ) → as_shared (as_shared t) ≡ as_shared t
shared_twice (integer k) = refl
shared_twice boolean = refl
shared_twice (tuple_of ts) = refl
shared_twice (reference m t) = refl
shared_twice (types.named i) = refl

pub read_typ : (T : Assigned) (n : Node) (c : Coercion) (p : Place) → outer (mark_of (read_as T n c p)).typ ≡ Some (as_shared (T.typ n.number))
read_typ T n plain p = refl
read_typ T n reborrow p = refl
read_typ T n share p = ap Some (shared_twice (T.typ n.number))

pub passed_typ : (T : Assigned) (n : Node) (c : Coercion) (e : Exp) → (mark_of e).typ ≡ Some (T.typ n.number) → outer (mark_of (passed_as T n c e)).typ ≡ Some (as_shared (T.typ n.number))
passed_typ T n plain e h = ap outer h
passed_typ T n reborrow e h = ap outer h
passed_typ T n share e h = ap Some (shared_twice (T.typ n.number))

pub tuple_typ : (T : Assigned) (n : Node) (es : Operands) → outer (mark_of (elaborated.tuple_of T n es)).typ ≡ Some (as_shared (T.typ n.number))
tuple_typ T n tree.no_operand = refl
tuple_typ T n (tree.operand_and i e es) = refl

-- ---- scrutinees

module _ (r : Renumbering) where
  shape_shared : (t : Typ) → as_shared (shape_at r t) ≡ shape_at r (as_shared t)
  shape_shared (integer k) = refl
  shape_shared boolean = refl
  shape_shared (tuple_of ts) = refl
  shape_shared (reference m t) = refl
  shape_shared (types.named i) = refl

  some_is : (t u : Typ) → ◌≡◌ {A = Option Typ} (Some t) (Some u) → t ≡ u
  some_is t u e = cc

  none_some : (t : Typ) → ◌≡◌ {A = Option Typ} None (Some t) → ⊥
  none_some t e = cc

  pub like_by : (o o' : Option Typ) (t t' : Typ) → outer o ≡ Some (as_shared t) → outer o' ≡ Some (as_shared t') → as_shared t' ≡ as_shared (shape_at r t) → LikeScrutinee r o o'
  like_by None o' t t' e g h = absurd (none_some (as_shared t) e)
  like_by (Some u) None t t' e g h = alike.LikeScrutinee.is_never
  like_by (Some u) (Some u') t t' e g h =
      alike.LikeScrutinee.has_type (some_is (as_shared u') (as_shared t') g ∙ (h ∙ (shape_shared t ∙ (ap (shape_at r) (sym (some_is (as_shared u) (as_shared t) e)) ∙ sym (shape_shared u)))))

  pub like_through : (o o' q q' : Option Typ) → LikeScrutinee r o o' → outer q ≡ outer o → outer q' ≡ outer o' → LikeScrutinee r q q'
  like_through o _ q None l e g = alike.LikeScrutinee.is_never
  like_through o None q (Some u) l e g = absurd (none_some (as_shared u) (sym g))
  like_through _ _ None (Some u') (alike.LikeScrutinee.has_type {t = t} h) e g = absurd (none_some (as_shared t) e)
  like_through _ _ (Some u) (Some u') (alike.LikeScrutinee.has_type {t = t} {t' = t'} h) e g = like_by (Some u) (Some u') t t' e g h

-- a place that is matched has no matches in it, and the type of its node
place_before : (T : Assigned) (e : named.Exp) (D : Declarations) (c : Coercion) (p : Place) → AllCovered D (choices_before (matched_as T true c e (read_as T (node_of e) c p)))
    → AllCovered D (choices (mark_of (read_as T (node_of e) c p)).node (read_as T (node_of e) c p))
place_before T e D plain p h = tt
place_before T e D reborrow p h = tt
place_before T e D share p h = tt

place_typ : (T : Assigned) (e : named.Exp) (c : Coercion) (p : Place) → outer (scrutinee_typ (matched_as T true c e (read_as T (node_of e) c p))) ≡ outer (mark_of (read_as T (node_of e) c p)).typ
place_typ T e plain p = refl
place_typ T e reborrow p = refl
place_typ T e share p = refl

pub before_value : (T : Assigned) (D : Declarations) (e : named.Exp) → AllCovered D (choices_before (matched T e (value T e))) → AllCovered D (choices (mark_of (value T e)).node (value T e))
before_value T D (named.var n x) h = place_before T (named.var n x) D (coercion_at T n) _ h
before_value T D (named.field n e x) h = place_before T (named.field n e x) D (coercion_at T n) _ h
before_value T D (named.part n e i) h = place_before T (named.part n e i) D (coercion_at T n) _ h
before_value T D (named.deref n e) h = place_before T (named.deref n e) D (coercion_at T n) _ h
before_value T D _ h = h

pub matched_typ : (T : Assigned) (e : named.Exp) → outer (scrutinee_typ (matched T e (value T e))) ≡ outer (mark_of (value T e)).typ
matched_typ T (named.var n x) = place_typ T (named.var n x) (coercion_at T n) _
matched_typ T (named.field n e x) = place_typ T (named.field n e x) (coercion_at T n) _
matched_typ T (named.part n e i) = place_typ T (named.part n e i) (coercion_at T n) _
matched_typ T (named.deref n e) = place_typ T (named.deref n e) (coercion_at T n) _
matched_typ T _ = refl

pub value_before : (T : Assigned) (D : Declarations) (e : named.Exp) (v : Exp) → AllCovered D (choices (mark_of v).node v) → AllCovered D (choices_before (matched T e v))
value_before T D e v h = by (is_place e) (coercion_at T (node_of e))
  where
    by : (b : Bool) (c : Coercion) → AllCovered D (choices_before (matched_as T b c e v))
    by true plain = tt
    by true reborrow = h
    by true share = h
    by false c = h

-- ---- a function's body gives its tail

giving : (A : Assigned) (ss : named.Statements) (m : Mark) (x : Exp) → choices_within (nested A ss (tree.give m x)) ≡ choices_within (nested A ss x)
giving A named.no_statement m x = refl
giving A (named.statement_and (named.declares n p t) ss) m x = giving A ss m x
giving A (named.statement_and (named.lets n p t e) ss) m x =
    ap (λ (l : List Choice). choice_of n.number (matched A e (value A e)) (elaborated.pattern A None p ∷ []) ∷ (choices_before (matched A e (value A e)) ++ l)) (giving A ss m x)
giving A (named.statement_and (named.evaluates n e c) ss) m x = ap (λ (l : List Choice). choices (mark_of (value A e)).node (value A e) ++ l) (giving A ss m x)

pub whole_body : (A : Assigned) (b : named.Body) → choices_of (function_body A b) ≡ choices_in_body A b
whole_body A (named.body n ss o) = giving A ss (elaborated.no_mark n) (tail A n o)
