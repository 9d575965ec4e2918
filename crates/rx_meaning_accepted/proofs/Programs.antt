-- The functions of a typed program act by their types, and those of an accepted one do.
use Rattle.std.proofs.Common.{◌≡◌, ℕ, List, [], ◌∷◌, ◌++◌, length, map, Option, Some, None, slice_get, refl, sym, ap, ◌∙◌, subst}
use Rattle.rx_core.specs.declared.types.Span.{Span}
use Rattle.rx_tree.specs.Plain as plain
use Rattle.rx_tree.specs.Plain.{ProgramTree}
use Rattle.rx_resolve_names.specs.declared.resolved.ItemNames.{ItemNames}
use Rattle.rx_resolve_names.specs.declared.resolved.NodeNames.{NodeNames}
use Rattle.rx_typed.specs.declared.declarations.Decl.{Decl}
use Rattle.rx_typed.specs.declared.nodes.Site.{Site}
use Rattle.rx_typed.specs.Types.{Declarations, unit_shape, parameters_declared}
use Rattle.rx_typed.specs.Named as named
use Rattle.rx_typed.specs.Elaborated.{elaborated}
use Rattle.rx_typed.specs.PlainTypes.{declarations}
use Rattle.rx_typed.specs.Naming.{function_named, function_spans}
use Rattle.rx_typed.specs.TypedNumbers.{AreFrom, nodes}
use Rattle.rx_typed.specs.Tree.{Function}
use Rattle.rx_typed.specs.PlainTree.{plain-TypedTree}
use Rattle.rx_typed_declarations.proofs.Polarities.{same_declared}
use Rattle.rx_lower_walks.specs.Orders.{argument}
use Rattle.rx_lower_walks.specs.Walks.{Among}
use Rattle.rx_typeck_solver.specs.declared.facts.Subject.TheVariants as subject
use Rattle.rx_typeck_solver.specs.Facts.{KnownItems, Assignment, MeetsEach}
use Rattle.rx_typeck_typed.specs.Demands as rules
use Rattle.rx_typeck_typed.specs.declared.typed.Typed.{Typed}
use Rattle.rx_typeck_typed.specs.declared.typed.TypedFn.{TypedFn}
use Rattle.rx_typeck_typed.specs.Typing.{Given, known_in, assigned, entries, IsTyped}
use Rattle.rx_machine.specs.Functions.{typed_functions}
use Rattle.rx_meaning.specs.Values.{element}
use Rattle.rx_meaning.specs.Expressions.{Functions}
use Rattle.rx_meaning_keeping.specs.Keeping.{IsFunction}
use Rattle.rx_meaning_typed.specs.TypedActs.{Typing, ActsTyped, IsSigned}
use Rattle.rx_meaning_typed.specs.TypedFunctions.{UnitsTyped, RightsTyped, MakesWholes, FunctionTyped, ProgramTyped}
use Rattle.rx_repair.proofs.Sites.{BodySited, function_sited}
use Rattle.rx_meaning_accepted.specs.Fitting.{FunctionFits}
use Rattle.rx_meaning_accepted.specs.Typings.{typing_of}
use Rattle.rx_meaning_accepted.proofs.Functions as functions
use Rattle.rx_meaning_accepted.proofs.Items.{StandsAt, stands_at}

-- each function of a text fits
abbrev pub TextFits : ProgramTree → List ItemNames → Declarations → Type 0
TextFits p ns D = (i : ℕ) (s : Span) (f : plain.Function) → slice_get p i ≡ Some (plain.function_item s f) → FunctionFits D (function_named i s f (entries (slice_get ns i)))

module _ (p : ProgramTree) (ns : List ItemNames) (t : Typed) (typed : IsTyped p ns t) (fit : TextFits p ns (declarations typed.declared))
    (numbers_stand : (i : ℕ) (s : Span) (g : plain.Function) (es : List NodeNames) → AreFrom 0 (nodes (function_named i s g es)) (length (function_spans s g es)))
    (wholes : (g : TypedFn) → Among g t.functions → MakesWholes (plain-TypedTree g.tree)) where
  abbrev G : Given
  G = record { program = p; declared = typed.declared; sizes = typed.sizes }

  abbrev K : KnownItems
  K = known_in G

  abbrev P : Functions
  P = typed_functions (declarations t.decls.items) t.functions

  same : declarations t.decls.items ≡ declarations typed.declared
  same = same_declared t.decls.items typed.declared typed.same

  at : (f : ℕ) (F : Function) → IsFunction P f F → StandsAt G ns p typed.declared t.functions f F
  at f F q = stands_at G p ns typed.declared t.functions typed.declares.items typed.functions f F (subst (λ (D : Declarations). IsFunction (typed_functions D t.functions) f F) same q)

  -- ---- the types of each function

  abbrev unknown : Typing
  unknown = record { declared = K.items; variables = λ x. unit_shape; temporaries = λ x. unit_shape; result = unit_shape }

  module _ (f : ℕ) (F : Function) (x : StandsAt G ns p typed.declared t.functions f F) where
    abbrev Named : named.Function
    Named = function_named f x.span x.text (entries (slice_get ns f))

    abbrev A : Assignment
    A = x.checked.types

    abbrev typing_here : Typing
    typing_here = typing_of (assigned K A) (λ y. A (subject.Variable y)) Named

    abbrev count : ℕ
    count = length (function_spans x.span x.text (entries (slice_get ns f)))

    numbers : AreFrom 0 (nodes Named) count
    numbers = numbers_stand f x.span x.text (entries (slice_get ns f))

    sited : BodySited Site.Expects Named.body
    sited = function_sited f x.span x.text (entries (slice_get ns f))

    fits : FunctionFits K.items Named
    fits = fit f x.span x.text x.item

    met : MeetsEach K A (rules.demands Named)
    met = x.checked.valid.prefers.typed

    elaborated_is : elaborated (assigned K A) Named ≡ F
    elaborated_is = sym x.checked.tree ∙ x.tree

    signed : IsSigned typing_here f F
    signed = record {
      takes = subst (λ (z : Function). map (λ q. typing_here.temporaries (argument q)) z.params ≡ parameters_declared (slice_get K.items f)) elaborated_is (functions.takes K A Named count numbers sited fits met x.agrees);
      gives = functions.gives K A Named count numbers sited fits met;
    }

    function_typed : FunctionTyped typing_here f F
    function_typed = record {
      signed = signed;
      acts = subst (λ (z : Function). ActsTyped typing_here z) elaborated_is (functions.acts K A Named count numbers sited fits met);
      units = subst (λ (z : Function). UnitsTyped typing_here z) elaborated_is (functions.units K A Named count numbers sited fits met);
      rights = subst (λ (z : Function). RightsTyped typing_here z) elaborated_is (functions.rights K A Named count numbers sited fits met);
      wholes = subst (λ (z : Function). MakesWholes z) x.tree (wholes x.typed x.among);
    }

  -- of what stands at a number
  abbrev typing_at : (f : ℕ) (o : Option (Option Function)) → element P f ≡ o → Typing
  typing_at f None e = unknown
  typing_at f (Some None) e = unknown
  typing_at f (Some (Some F)) e = typing_here f F (at f F e)

  declared_at : (f : ℕ) (o : Option (Option Function)) (e : element P f ≡ o) → (typing_at f o e).declared ≡ declarations t.decls.items
  declared_at f None e = sym same
  declared_at f (Some None) e = sym same
  declared_at f (Some (Some F)) e = sym same

  some_same : (F H : Function) → ◌≡◌ {A = Option (Option Function)} (Some (Some F)) (Some (Some H)) → F ≡ H
  some_same F H e = cc

  typed_at : (f : ℕ) (F : Function) (o : Option (Option Function)) (e : element P f ≡ o) → o ≡ Some (Some F) → FunctionTyped (typing_at f o e) f F
  typed_at f F None e q = absurd (cc)
  typed_at f F (Some None) e q = absurd (cc)
  typed_at f F (Some (Some H)) e q = subst (λ (z : Function). FunctionTyped (typing_here f H (at f H e)) f z) (some_same H F q) (function_typed f H (at f H e))

  pub typings : ℕ → Typing
  typings f = typing_at f (element P f) refl

  pub program_typed : ProgramTyped (declarations t.decls.items) typings P
  unfolding typings
  program_typed = record {
    declared = λ f. declared_at f (element P f) refl;
    functions = λ f F q. typed_at f F (element P f) refl q;
  }
