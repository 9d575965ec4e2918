-- The functions of a typed program that are declared to give the unit do so by their form, where they read none from a place.
use Rattle.std.proofs.Common.{◌≡◌, inl, inr, ℕ, zero, suc, ◌+◌, Bool, true, false, List, [], ◌∷◌, Some, slice_get, if◌then◌else◌, refl, sym, ap, ◌∙◌, subst, true≢false, arith}
use Rattle.rx_tree.specs.Plain.{ProgramTree}
use Rattle.rx_resolve_names.specs.declared.resolved.ItemNames.{ItemNames}
use Rattle.rx_typed.specs.Types.{Typ, integer, boolean, tuple_of, reference, named, no_shape, shape_and, unit_shape, Declared, rt_declared, struct_declared, enum_declared, function_declared, Declarations, result_declared}
use Rattle.rx_typed.specs.Naming.{function_named}
use Rattle.rx_typed.specs.Elaborated.{elaborated}
use Rattle.rx_typed.specs.Named as numbered
use Rattle.rx_typed.specs.PlainTypes.{declarations}
use Rattle.rx_typed.specs.Tree.{Function}
use Rattle.rx_typed_declarations.proofs.Polarities.{same_declared}
use Rattle.rx_typeck_solver.specs.Facts.{KnownItems}
use Rattle.rx_typeck_typed.specs.declared.typed.Typed.{Typed}
use Rattle.rx_typeck_typed.specs.Typing.{Given, known_in, assigned, entries, IsTyped}
use Rattle.rx_machine.specs.Functions.{typed_functions, program_of}
use Rattle.rx_meaning.specs.Values.{element}
use Rattle.rx_meaning.specs.Expressions.{Functions}
use Rattle.rx_repair.proofs.Sites.{function_sited}
use Rattle.rx_meaning_accepted.proofs.Items.{StandsAt, stands_at}
use Rattle.rx_engine_simulation.specs.Sights.{In}
use Rattle.rx_engine_simulation.specs.Units.{ReturnsUnit, UnitFunctions}
use Rattle.rx_engine_validated.specs.UnitReads.{is_unit, gives_unit, unit_items_from, unit_items, ReadsNoUnit}
use Rattle.rx_engine_validated.proofs.Units.{function_returns}

-- ---- items that are declared so

is_the_unit : (t : Typ) → is_unit t ≡ true → t ≡ unit_shape
is_the_unit (tuple_of no_shape) e = refl
is_the_unit (integer k) e = absurd (true≢false (sym e))
is_the_unit boolean e = absurd (true≢false (sym e))
is_the_unit (tuple_of (shape_and t ts)) e = absurd (true≢false (sym e))
is_the_unit (reference m t) e = absurd (true≢false (sym e))
is_the_unit (named i) e = absurd (true≢false (sym e))

declares_unit : (d : Declared) → gives_unit d ≡ true → result_declared (Some d) ≡ Some unit_shape
declares_unit (function_declared ps t) e = ap (λ (u : Typ). Some u) (is_the_unit t e)
declares_unit rt_declared e = absurd (true≢false (sym e))
declares_unit (struct_declared c l fs) e = absurd (true≢false (sym e))
declares_unit (enum_declared c l vs) e = absurd (true≢false (sym e))

unit_declared : (d : Declared) → result_declared (Some d) ≡ Some unit_shape → gives_unit d ≡ true
unit_declared (function_declared ps t) e = let same : t ≡ unit_shape = cc in ap is_unit same
unit_declared rt_declared e = absurd (cc)
unit_declared (struct_declared c l fs) e = absurd (cc)
unit_declared (enum_declared c l vs) e = absurd (cc)

-- such an item is listed
pub all_listed : (n : ℕ) (D : Declarations) (g : ℕ) → result_declared (slice_get D g) ≡ Some unit_shape → In (n + g) (unit_items_from n D)
all_listed n [] zero e = absurd (cc)
all_listed n [] (suc g) e = absurd (cc)
all_listed n (d ∷ D) zero e =
    let here : n + zero ≡ n = omega arith in subst (λ (b : Bool). In (n + zero) (if b then n ∷ unit_items_from (suc n) D else unit_items_from (suc n) D)) (sym (unit_declared d e)) (inl here)
all_listed n (d ∷ D) (suc g) e =
    let same : suc n + g ≡ n + suc g = omega arith in by (gives_unit d) (subst (λ (k : ℕ). In k (unit_items_from (suc n) D)) same (all_listed (suc n) D g e))
  where
    by : (b : Bool) → In (n + suc g) (unit_items_from (suc n) D) → In (n + suc g) (if b then n ∷ unit_items_from (suc n) D else unit_items_from (suc n) D)
    by true i = inr i
    by false i = i

abbrev UnitAt : ℕ → Declarations → ℕ → Type 0
UnitAt n D k = (g : ℕ) × (k ≡ n + g) × (result_declared (slice_get D g) ≡ Some unit_shape)

-- and no other
each_listed : (n : ℕ) (D : Declarations) (k : ℕ) → In k (unit_items_from n D) → UnitAt n D k
each_listed n [] k i = absurd i
each_listed n (d ∷ D) k i = by (gives_unit d) refl i (λ j. later (each_listed (suc n) D k j))
  where
    later : UnitAt (suc n) D k → UnitAt n (d ∷ D) k
    later x = (suc x.0, (let e = x.1 in omega (arith, e)), x.2)

    by : (b : Bool) → gives_unit d ≡ b → In k (if b then n ∷ unit_items_from (suc n) D else unit_items_from (suc n) D) → (In k (unit_items_from (suc n) D) → UnitAt n (d ∷ D) k) → UnitAt n (d ∷ D) k
    by true e (inl same) f = (0, (omega (arith, same)), declares_unit d e)
    by true e (inr j) f = f j
    by false e j f = f j

listed_gives : (D : Declarations) (k : ℕ) → In k (unit_items D) → result_declared (slice_get D k) ≡ Some unit_shape
listed_gives D k i = let x = each_listed 0 D k i in let e = x.1 in let same : x.0 ≡ k = omega (arith, e) in subst (λ (j : ℕ). result_declared (slice_get D j) ≡ Some unit_shape) same x.2

is_listed : (D : Declarations) (g : ℕ) → result_declared (slice_get D g) ≡ Some unit_shape → In g (unit_items D)
is_listed D g e = let same : 0 + g ≡ g = omega arith in subst (λ (k : ℕ). In k (unit_items D)) same (all_listed 0 D g e)

-- ---- functions of a program

module _ (p : ProgramTree) (ns : List ItemNames) (t : Typed) (typed : IsTyped p ns t) where
  abbrev G : Given
  G = record { program = p; declared = typed.declared; sizes = typed.sizes }

  abbrev K : KnownItems
  K = known_in G

  returns_at : (f : ℕ) (F : Function) → In f (unit_items K.items) → StandsAt G ns p typed.declared t.functions f F → ReadsNoUnit F.body → ReturnsUnit (unit_items K.items) F.body
  returns_at f F i x reads =
      let N : numbered.Function = function_named f x.span x.text (entries (slice_get ns f)) in
      let same : elaborated (assigned K x.checked.types) N ≡ F = sym x.checked.tree ∙ x.tree in
      subst (λ (z : Function). ReturnsUnit (unit_items K.items) z.body) same
      (function_returns K x.checked.types (unit_items K.items) (is_listed K.items) N (listed_gives K.items f i) (function_sited f x.span x.text (entries (slice_get ns f))) x.checked.valid.prefers.typed
      (subst (λ (z : Function). ReadsNoUnit z.body) (sym same) reads))

  abbrev Reads : Declarations → Functions → Type 0
  Reads D P = (f : ℕ) → In f (unit_items D) → (g : Function) → element P f ≡ Some (Some g) → ReadsNoUnit g.body

  functions_return : Reads K.items (typed_functions K.items t.functions) → UnitFunctions (typed_functions K.items t.functions) (unit_items K.items)
  functions_return reads f i g e = returns_at f g i (stands_at G p ns typed.declared t.functions typed.declares.items typed.functions f g e) (reads f i g e)

  pub program_returns : (m : ℕ) → Reads (declarations t.decls.items) (program_of t m).functions → UnitFunctions (program_of t m).functions (unit_items (declarations t.decls.items))
  program_returns m = subst (λ (D : Declarations). Reads D (typed_functions D t.functions) → UnitFunctions (typed_functions D t.functions) (unit_items D)) (sym (same_declared t.decls.items typed.declared typed.same)) functions_return
