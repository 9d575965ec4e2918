-- A typed program without references acts by types that have none, and what its functions match is of the types that their marks say.
use Rattle.std.proofs.Common.{◌≡◌, ℕ, zero, suc, Bool, false, List, [], ◌∷◌, ◌++◌, length, map, Option, Some, None, slice_get, refl, sym, ap, ◌∙◌, subst}
use Rattle.rx_core.specs.declared.types.Span.{Span}
use Rattle.rx_tree.specs.Plain as plain
use Rattle.rx_tree.specs.Plain.{ProgramTree}
use Rattle.rx_resolve_names.specs.declared.resolved.ItemNames.{ItemNames}
use Rattle.rx_resolve_names.specs.declared.resolved.NodeNames.{NodeNames}
use Rattle.rx_typed.specs.declared.declarations.Decl.{Decl}
use Rattle.rx_typed.specs.declared.nodes.Site.{Site}
use Rattle.rx_typed.specs.Types.{Typ, Declarations, unit_shape, parameters_declared, fields_declared}
use Rattle.rx_typed.specs.Named as named
use Rattle.rx_typed.specs.Elaborated.{elaborated}
use Rattle.rx_typed.specs.PlainTypes.{declarations}
use Rattle.rx_typed.specs.Naming.{function_named, function_spans}
use Rattle.rx_typed.specs.TypedNumbers.{AreFrom, nodes}
use Rattle.rx_typed.specs.Tree.{Function, Temporary}
use Rattle.rx_typed.specs.PlainTree.{plain-TypedTree}
use Rattle.rx_typed_declarations.proofs.Polarities.{same_declared}
use Rattle.rx_lower_walks.specs.Orders.{argument}
use Rattle.rx_typeck_solver.specs.declared.facts.Subject.TheVariants as subject
use Rattle.rx_typeck_solver.specs.Facts.{KnownItems, Assignment, MeetsEach}
use Rattle.rx_typeck_typed.specs.Demands as rules
use Rattle.rx_typeck_typed.specs.declared.typed.Typed.{Typed}
use Rattle.rx_typeck_typed.specs.declared.typed.TypedFn.{TypedFn}
use Rattle.rx_typeck_typed.specs.Typing.{Given, known_in, assigned, entries, IsTyped}
use Rattle.rx_machine.specs.Functions.{typed_functions}
use Rattle.rx_meaning.specs.Values.{element}
use Rattle.rx_meaning.specs.Expressions.{Functions}
use Rattle.rx_meaning_keeping.specs.Keeping.{IsFunction}
use Rattle.rx_meaning_typed.specs.TypedActs.{Typing, ActsTyped, IsSigned}
use Rattle.rx_meaning_typed.specs.TypedFunctions.{UnitsTyped, RightsTyped, MakesWholes, FunctionTyped, ProgramTyped}
use Rattle.rx_repair.proofs.Sites.{BodySited, function_sited}
use Rattle.rx_meaning_accepted.specs.Fitting.{FunctionFits}
use Rattle.rx_lower_walks.specs.Walks.{Among, here, there}
use Rattle.rx_meaning_accepted.specs.Typings.{typing_of}
use Rattle.rx_meaning_accepted.proofs.Functions as functions
use Rattle.rx_meaning_accepted.proofs.Items.{StandsAt, stands_at}
use Rattle.rx_meaning_accepted.proofs.Programs.{TextFits}
use Rattle.rx_meaning_accepted.proofs.Facts.{NamedApart}
use Rattle.rx_meaning_accepted.proofs.Parted.{BodyMeans}
use Rattle.rx_cover.specs.Finite.{Finite}
use Rattle.rx_core.specs.declared.types.Ty.{Ty}
use Rattle.rx_typeck_elaborate_parts.specs.Assigning.{joined, shape_of}
use Rattle.rx_typeck_solver.specs.declared.facts.Subject.{Subject}
use Rattle.rx_typeck_typed.specs.Typing.{FunctionTyped as Checked, TypeIs, type_at}
use Rattle.rx_hoist_naming.proofs.Programs.{same_typ}
use Rattle.rx_meaning_typed.specs.NoReferences.{HasNoReference, NoReferences}
use Rattle.rx_meaning_covered.specs.Standing.{Standing}
use Rattle.rx_meaning_sound.specs.Plain.{IsPlain, TablePlain, FunctionPlain, FunctionsPlain, ItemsPlain}
use Rattle.rx_meaning_sound.specs.Matched.{ChoiceTyped, LetTyped}
use Rattle.rx_meaning_sound.proofs.Freeing.{plain_not_lent, plain_free, plain_inhabited}
use Rattle.rx_meaning_sound.proofs.Temporaries.{temporaries_all}
use Rattle.rx_lower_walks.specs.Actions.{subject}
use Rattle.rx_meaning_covered.specs.Ranged.{RangesFit}
use Rattle.rx_meaning_covered.specs.Covered.{IsNotOf}
use Rattle.rx_meaning_sound.proofs.Minus.{function_signed}
use Rattle.rx_meaning_sound.proofs.Flagged.{is_literal, flags_found}
use Rattle.rx_meaning_sound.proofs.Ranging.{function_ranges}
use Rattle.rx_meaning_sound.proofs.Matches as matches

-- in each function of a text names mean what they should
abbrev pub TextMeans : ProgramTree → List ItemNames → Declarations → Type 0
TextMeans p ns D = (i : ℕ) (s : Span) (f : plain.Function) → slice_get p i ≡ Some (plain.function_item s f) → BodyMeans D (function_named i s f (entries (slice_get ns i))).body

-- what is matched is not of these temporaries, and integers are in range but for them
abbrev pub Ranged : (Temporary → Bool) → Function → Type 0
Ranged N F = RangesFit N F × Standing (λ c l. IsNotOf N (subject c)) (λ c p. IsNotOf N (subject c)) F.body

-- ---- the types of a function's tables

table_at : (D : Declarations) (ts : List (Option Ty)) (x : ℕ) → TablePlain D ts → IsPlain D (shape_of (joined (slice_get ts x)))
table_at D [] x h = tt
table_at D (None ∷ ts) zero h = tt
table_at D (Some t ∷ ts) zero h = h.0
table_at D (None ∷ ts) (suc x) h = table_at D ts x h
table_at D (Some t ∷ ts) (suc x) h = table_at D ts x h.1

type_plain : (D : Declarations) (g : TypedFn) (x : Subject) → FunctionPlain D g → IsPlain D (shape_of (type_at g x))
type_plain D g (subject.Variable x) h = table_at D g.variables x h.0
type_plain D g (subject.Node n) h = table_at D g.types.nodes n h.1
type_plain D g (subject.Expected n) h = table_at D g.types.expected n h.2

function_plain : (D : Declarations) (ts : List TypedFn) → FunctionsPlain D ts → (g : TypedFn) → Among g ts → FunctionPlain D g
function_plain D [] h g a = elim a [ ]
function_plain D (t ∷ ts) h _ here = h.0
function_plain D (t ∷ ts) h g (there a) = function_plain D ts h.1 g a

module _ (p : ProgramTree) (ns : List ItemNames) (t : Typed) (typed : IsTyped p ns t) (fit : TextFits p ns (declarations typed.declared))
    (numbers_stand : (i : ℕ) (s : Span) (g : plain.Function) (es : List NodeNames) → AreFrom 0 (nodes (function_named i s g es)) (length (function_spans s g es)))
    (wholes : (g : TypedFn) → Among g t.functions → MakesWholes (plain-TypedTree g.tree)) (means : TextMeans p ns (declarations typed.declared)) (apart : (i : ℕ) → NamedApart (fields_declared (slice_get (declarations typed.declared) i)))
    (items : ItemsPlain (declarations typed.declared) (declarations typed.declared)) (functions_plain : FunctionsPlain (declarations typed.declared) t.functions) (finite : Finite (declarations typed.declared)) where
  abbrev G : Given
  G = record { program = p; declared = typed.declared; sizes = typed.sizes }

  abbrev K : KnownItems
  K = known_in G

  abbrev P : Functions
  P = typed_functions (declarations t.decls.items) t.functions

  same : declarations t.decls.items ≡ declarations typed.declared
  same = same_declared t.decls.items typed.declared typed.same

  at : (f : ℕ) (F : Function) → IsFunction P f F → StandsAt G ns p typed.declared t.functions f F
  at f F q = stands_at G p ns typed.declared t.functions typed.declares.items typed.functions f F (subst (λ (D : Declarations). IsFunction (typed_functions D t.functions) f F) same q)

  -- ---- the types of each function

  abbrev unknown : Typing
  unknown = record { declared = K.items; variables = λ x. unit_shape; temporaries = λ x. unit_shape; result = unit_shape }

  module _ (f : ℕ) (F : Function) (x : StandsAt G ns p typed.declared t.functions f F) where
    abbrev Named : named.Function
    Named = function_named f x.span x.text (entries (slice_get ns f))

    abbrev A : Assignment
    A = x.checked.types

    abbrev typing_here : Typing
    typing_here = typing_of (assigned K A) (λ y. A (subject.Variable y)) Named

    abbrev count : ℕ
    count = length (function_spans x.span x.text (entries (slice_get ns f)))

    numbers : AreFrom 0 (nodes Named) count
    numbers = numbers_stand f x.span x.text (entries (slice_get ns f))

    sited : BodySited Site.Expects Named.body
    sited = function_sited f x.span x.text (entries (slice_get ns f))

    fits : FunctionFits K.items Named
    fits = fit f x.span x.text x.item

    met : MeetsEach K A (rules.demands Named)
    met = x.checked.valid.prefers.typed

    elaborated_is : elaborated (assigned K A) Named ≡ F
    elaborated_is = sym x.checked.tree ∙ x.tree

    signed : IsSigned typing_here f F
    signed = record {
      takes = subst (λ (z : Function). map (λ q. typing_here.temporaries (argument q)) z.params ≡ parameters_declared (slice_get K.items f)) elaborated_is (functions.takes K A Named count numbers sited fits met x.agrees);
      gives = functions.gives K A Named count numbers sited fits met;
    }

    function_typed : FunctionTyped typing_here f F
    function_typed = record {
      signed = signed;
      acts = subst (λ (z : Function). ActsTyped typing_here z) elaborated_is (functions.acts K A Named count numbers sited fits met);
      units = subst (λ (z : Function). UnitsTyped typing_here z) elaborated_is (functions.units K A Named count numbers sited fits met);
      rights = subst (λ (z : Function). RightsTyped typing_here z) elaborated_is (functions.rights K A Named count numbers sited fits met);
      wholes = subst (λ (z : Function). MakesWholes z) x.tree (wholes x.typed x.among);
    }

    -- ---- without references

    shape_same : (y : Subject) (o : Option Ty) → TypeIs K Named A y o → A y ≡ shape_of o
    shape_same y None h = x.checked.untold y h
    shape_same y (Some u) h = same_typ K.items u (A y) h.1

    types_plain : (y : Subject) → IsPlain K.items (A y)
    types_plain y = subst (λ (z : Typ). IsPlain K.items z) (sym (shape_same y (type_at x.typed y) (x.checked.found y))) (type_plain K.items x.typed y (function_plain K.items t.functions functions_plain x.typed x.among))

    variables_free : (y : ℕ) → HasNoReference K.items (typing_here.variables y)
    variables_free y = plain_free K.items items (A (subject.Variable y)) (types_plain (subject.Variable y))

    temporaries_free : (u : Temporary) → HasNoReference K.items (typing_here.temporaries u)
    temporaries_free u = plain_free K.items items (typing_here.temporaries u)
        (temporaries_all (λ z. IsPlain K.items z) (assigned K A) (λ y. A (subject.Variable y)) tt tt tt (λ n. types_plain (subject.Node n)) (λ n. types_plain (subject.Expected n)) (λ y. types_plain (subject.Variable y)) Named u)

    matches_typed : Standing (ChoiceTyped typing_here) (LetTyped typing_here) F.body
    matches_typed = subst (λ (z : Function). Standing (ChoiceTyped typing_here) (LetTyped typing_here) z.body) elaborated_is
        (matches.function_matches K A Named count numbers sited fits (means f x.span x.text x.item) met
        (λ n. plain_not_lent K.items (A (subject.Node n)) (types_plain (subject.Node n))) (λ n. plain_inhabited K.items items finite (A (subject.Node n)) (types_plain (subject.Node n))) apart)

    ranged_here : Ranged (is_literal Named) F
    ranged_here = subst (λ (z : Function). Ranged (is_literal Named) z) elaborated_is
        (function_ranges (assigned K A) (is_literal Named) Named (function_signed f x.span x.text (entries (slice_get ns f)))
        (matches.function_literals K A Named count numbers sited fits (means f x.span x.text x.item) met
        (λ n. plain_not_lent K.items (A (subject.Node n)) (types_plain (subject.Node n))) (λ n. plain_inhabited K.items items finite (A (subject.Node n)) (types_plain (subject.Node n))) apart)
        (flags_found Named count numbers))

  -- of what stands at a number
  abbrev typing_at : (f : ℕ) (o : Option (Option Function)) → element P f ≡ o → Typing
  typing_at f None e = unknown
  typing_at f (Some None) e = unknown
  typing_at f (Some (Some F)) e = typing_here f F (at f F e)

  declared_at : (f : ℕ) (o : Option (Option Function)) (e : element P f ≡ o) → (typing_at f o e).declared ≡ declarations t.decls.items
  declared_at f None e = sym same
  declared_at f (Some None) e = sym same
  declared_at f (Some (Some F)) e = sym same

  some_same : (F H : Function) → ◌≡◌ {A = Option (Option Function)} (Some (Some F)) (Some (Some H)) → F ≡ H
  some_same F H e = cc

  typed_at : (f : ℕ) (F : Function) (o : Option (Option Function)) (e : element P f ≡ o) → o ≡ Some (Some F) → FunctionTyped (typing_at f o e) f F
  typed_at f F None e q = absurd (cc)
  typed_at f F (Some None) e q = absurd (cc)
  typed_at f F (Some (Some H)) e q = subst (λ (z : Function). FunctionTyped (typing_here f H (at f H e)) f z) (some_same H F q) (function_typed f H (at f H e))

  matches_at : (f : ℕ) (F : Function) (o : Option (Option Function)) (e : element P f ≡ o) → o ≡ Some (Some F) → Standing (ChoiceTyped (typing_at f o e)) (LetTyped (typing_at f o e)) F.body
  matches_at f F None e q = absurd (cc)
  matches_at f F (Some None) e q = absurd (cc)
  matches_at f F (Some (Some H)) e q = subst (λ (z : Function). Standing (ChoiceTyped (typing_here f H (at f H e))) (LetTyped (typing_here f H (at f H e))) z.body) (some_same H F q) (matches_typed f H (at f H e))

  unit_free : HasNoReference K.items unit_shape
  unit_free = plain_free K.items items unit_shape tt

  variables_at : (f : ℕ) (o : Option (Option Function)) (e : element P f ≡ o) (y : ℕ) → HasNoReference (typing_at f o e).declared ((typing_at f o e).variables y)
  variables_at f None e y = unit_free
  variables_at f (Some None) e y = unit_free
  variables_at f (Some (Some F)) e y = variables_free f F (at f F e) y

  temporaries_at : (f : ℕ) (o : Option (Option Function)) (e : element P f ≡ o) (u : Temporary) → HasNoReference (typing_at f o e).declared ((typing_at f o e).temporaries u)
  temporaries_at f None e u = unit_free
  temporaries_at f (Some None) e u = unit_free
  temporaries_at f (Some (Some F)) e u = temporaries_free f F (at f F e) u

  abbrev literal_at : (f : ℕ) (o : Option (Option Function)) → element P f ≡ o → Temporary → Bool
  literal_at f None e u = false
  literal_at f (Some None) e u = false
  literal_at f (Some (Some F)) e u = is_literal (Named f F (at f F e)) u

  ranged_at : (f : ℕ) (F : Function) (o : Option (Option Function)) (e : element P f ≡ o) → o ≡ Some (Some F) → Ranged (literal_at f o e) F
  ranged_at f F None e q = absurd (cc)
  ranged_at f F (Some None) e q = absurd (cc)
  ranged_at f F (Some (Some H)) e q = subst (λ (z : Function). Ranged (is_literal (Named f H (at f H e))) z) (some_same H F q) (ranged_here f H (at f H e))

  -- the temporaries of literals under a minus
  pub literals : ℕ → Temporary → Bool
  literals f u = literal_at f (element P f) refl u

  pub program_ranged : (f : ℕ) (F : Function) → IsFunction P f F → Ranged (literals f) F
  unfolding literals
  program_ranged f F q = ranged_at f F (element P f) refl q

  pub typings : ℕ → Typing
  typings f = typing_at f (element P f) refl

  pub program_typed : ProgramTyped (declarations t.decls.items) typings P
  unfolding typings
  program_typed = record {
    declared = λ f. declared_at f (element P f) refl;
    functions = λ f F q. typed_at f F (element P f) refl q;
  }

  pub program_matches : (f : ℕ) (F : Function) → IsFunction P f F → Standing (ChoiceTyped (typings f)) (LetTyped (typings f)) F.body
  unfolding typings
  program_matches f F q = matches_at f F (element P f) refl q

  pub program_free : NoReferences typings
  unfolding typings
  program_free = record {
    variables = λ f y. variables_at f (element P f) refl y;
    temporaries = λ f u. temporaries_at f (element P f) refl u;
  }

  pub program_declares : (f : ℕ) → (typings f).declared ≡ declarations t.decls.items
  unfolding typings
  program_declares f = declared_at f (element P f) refl
