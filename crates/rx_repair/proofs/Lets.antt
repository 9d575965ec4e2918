-- The variables that `let`s with a type bind have the types that these write, without lifetimes: where the demands of a function are met, as
-- numbering notes them, and as they are read.
use Rattle.std.proofs.Common.{◌≡◌, ℕ, Bool, true, false, List, [], ◌∷◌, ◌++◌, Option, Some, None, Ok, Err, refl, sym, ap, ◌∙◌, subst}
use Rattle.rx_core.specs.declared.types.Span.{Span}
use Rattle.rx_core.specs.declared.types.Ty.{Ty}
use Rattle.rx_tree.specs.Lists.{Every}
use Rattle.rx_tree.specs.Plain as plain
use Rattle.rx_tree.specs.Plain.{TypeTree, TypeTrees, PatternTree, ProgramTree}
use Rattle.rx_resolve_names.specs.declared.resolved.NodeNames.{NodeNames}
use Rattle.rx_typed.specs.declared.declarations.Decl.{Decl}
use Rattle.rx_typed.specs.declared.nodes.Site.{Site}
use Rattle.rx_typed.specs.Types as types
use Rattle.rx_typed.specs.Types.{Typ, Shapes, tuple_of, reference, shape_and, Declarations}
use Rattle.rx_typed.specs.PlainTypes.{declarations}
use Rattle.rx_typed.specs.Regions.{RegionTyp, erased, region-Ty}
use Rattle.rx_typed.specs.Named.{Written, Pattern, Exp, pattern_node, written_node, node_of, never, whole_binding}
use Rattle.rx_typed.specs.Naming as naming
use Rattle.rx_typed.specs.Naming.{Cursor, Annotation, a_node, an_entry, of_type, of_types, of_pattern, function_named, function_annotations}
use Rattle.rx_typed_declarations.proofs.RegionLemmas.{is_erased}
use Rattle.rx_typeck_elaborate_parts.specs.Entries.{in_front}
use Rattle.rx_typeck_typed.specs.Steps.{Outcome, Reading}
use Rattle.rx_typeck_typed.specs.Written.{type_of}
use Rattle.rx_typeck_typed.specs.Items.{begins}
use Rattle.rx_typeck_typed.specs.Lets.{read, let_type}
use Rattle.rx_typeck_typed.specs.Bindings.{behind, of_let, of_lets}
use Rattle.rx_typeck_solver.specs.declared.facts.Subject.TheVariants as subject
use Rattle.rx_typeck_solver.specs.Facts.{Assignment, KnownItems, MeetsEach}
use Rattle.rx_typeck_typed.specs.Asking.{Asking}
use Rattle.rx_typeck_typed.specs.Demands as rules
use Rattle.rx_repair.proofs.Asking.{Asks, asks_map, none, both, then_first, quiet, one_variable_u}
use Rattle.rx_repair.proofs.Pieces.{own}
use Rattle.rx_repair.proofs.Writing.{written_typ, written_typs, whole_given, Role, Lenient, Well, IsRead, type_read}
use Rattle.rx_repair.proofs.Letting.{Lets}
use Rattle.rx_repair.proofs.LetsMet.{function_fits}
use Rattle.rx_repair.proofs.Noting.{Level, Numberless, NotesFit, notes_fit, pattern_level, node_level, entry_level, entry_numbers_same, type_level}
use Rattle.rx_repair.proofs.Bound.{BindsAs, binds_same, whole_binds, Told, bindings_told}

-- whatever the numbers of nodes
mutual
  written_same : (t : TypeTree) (c d : Cursor) → Level c d → written_typ (of_type t c).0 ≡ written_typ (of_type t d).0
  written_same (plain.kind_type s k) c d e = refl
  written_same (plain.bool_type s) c d e = refl
  written_same (plain.tuple_type s ts) c d e = ap tuple_of (writtens_same ts (a_node s Site.Value c).1 (a_node s Site.Value d).1 (node_level s c d e))
  written_same (plain.ref_type s None m t) c d e = ap (reference m) (written_same t (a_node s Site.Value c).1 (a_node s Site.Value d).1 (node_level s c d e))
  written_same (plain.ref_type s (Some l) m t) c d e =
      let c1 = (a_node s Site.Value c).1 in let d1 = (a_node s Site.Value d).1 in
      ap (reference m) (written_same t (an_entry c1).1 (an_entry d1).1 (entry_level c1 d1 (node_level s c d e)))
  written_same (plain.named_type s x ls) c d e =
      ap (λ (ns : List ℕ). types.named (naming.first ns)) (entry_numbers_same (a_node s Site.Value c).1 (a_node s Site.Value d).1 (node_level s c d e))

  writtens_same : (ts : TypeTrees) (c d : Cursor) → Level c d → written_typs (of_types ts c).0 ≡ written_typs (of_types ts d).0
  writtens_same plain.no_type c d e = refl
  writtens_same (plain.type_and t ts) c d e =
      ap (λ (u : Typ). shape_and u (written_typs (of_types ts (of_type t c).1).0)) (written_same t c d e)
      ∙ ap (shape_and (written_typ (of_type t d).0)) (writtens_same ts (of_type t c).1 (of_type t d).1 (type_level t c d e))

module _ (K : KnownItems) (A : Assignment) where
  abbrev V : ℕ → Typ
  V x = A (subject.Variable x)

  abbrev Wants : Type 0 → Asking → Type 0
  Wants R a = Asks K A R a

  -- what it binds has the type that it writes
  abbrev pub LetAs : Lets
  LetAs p None = Unit {0}
  LetAs p (Some t) = BindsAs K.items V None p (written_typ t)

  abbrev pub IsWritten : Option Written → Type 0
  IsWritten None = Unit {0}
  IsWritten (Some t) = own K A (written_node t) ≡ written_typ t

  pub let_numberless : Numberless LetAs
  let_numberless p t c d e h =
      subst (λ (u : Typ). BindsAs K.items V None (of_pattern p d).0 u) (written_same t (of_pattern p c).1 (of_pattern p d).1 (pattern_level p c d e))
      (binds_same K.items V p c d e None (written_typ (of_type t (of_pattern p c).1).0) h)

  pub declared_as : (p : Pattern) (t : Option Written) → Wants (LetAs p t) (rules.declared p t)
  declared_as p None = one_variable_u (pattern_node p) (whole_binding p)
  declared_as p (Some t) = asks_map (λ h. subst (λ (u : Typ). BindsAs K.items V None p u) h.0 h.1) (both (whole_given K A t) (whole_binds K A rules.a_value _ p))

  pub typed_as : (t : Option Written) (e : Exp) → Wants (IsWritten t) (rules.typed_before t e)
  typed_as None e = none
  typed_as (Some t) e = then_first (whole_given K A t) (quiet (node_of e) _ _ _)

  by_u : (v : Bool) (p : Pattern) (e : Exp) → Wants (Unit {0}) (rules.initialised_by v p (rules.matched e) (node_of e))
  by_u true p e = one_variable_u (pattern_node p) (whole_binding p)
  by_u false p e = asks_map (λ h. tt) (whole_binds K A (rules.matched e) _ p)

  pub let_as : (p : Pattern) (t : Option Written) (e : Exp) → Wants (IsWritten t → LetAs p t) (rules.initialised p t e)
  let_as p None e = asks_map (λ h x. tt) (by_u (never e) p e)
  let_as p (Some t) e = asks_map (λ h x. subst (λ (u : Typ). BindsAs K.items V None p u) x h) (whole_binds K A (rules.matched e) _ p)

  pub notes_are : (i : ℕ) (s : Span) (f : plain.Function) (ns : List NodeNames) → MeetsEach K A (rules.demands (function_named i s f ns)) → NotesFit LetAs let_numberless (function_annotations s f ns)
  notes_are i s f ns met = notes_fit LetAs let_numberless i s f ns (function_fits K A LetAs declared_as IsWritten typed_as let_as (function_named i s f ns) met)

-- the place of a `let`'s type
abbrev in_let : (F : ℕ → Role) × ((p : ProgramTree) (free : ℕ) (y : TypeTree) (ns : List NodeNames) → let_type p free y ns ≡ read (type_of p (F free) y (begins ns free)))
in_let = (λ l. _, λ p free y ns. refl)

let_lenient : (free : ℕ) → Lenient (in_let.0 free)
let_lenient free = record { elides = λ s r. refl; counts = λ s ds ls. refl }

module _ (K : KnownItems) (A : Assignment) (D : List Decl) (same : declarations D ≡ K.items) (p : ProgramTree) (free : ℕ) where
  abbrev W : ℕ → Typ
  W x = A (subject.Variable x)

  read_is : (y : Written × Cursor) (o : Outcome (Ty × Reading)) → Well (IsRead p (in_let.0 free) (let_lenient free) y) o → erased (region-Ty (read o)) ≡ written_typ y.0
  read_is y (Ok x) h = is_erased x.0 ∙ h.0
  read_is y (Err x) h = absurd h

  every_both : (a b : List (ℕ × RegionTyp)) → Every (Told D W free) a → Every (Told D W free) b → Every (Told D W free) (a ++ b)
  every_both [] b g h = h
  every_both (x ∷ a) b g h = (g.0, every_both a b g.1 h)

  pub lets_told : (notes : List Annotation) → NotesFit (LetAs K A) (let_numberless K A) notes → Every (Told D W free) (of_lets p D free notes)
  lets_told [] h = tt
  lets_told (a ∷ more) h =
      every_both (of_let p D free a) (of_lets p D free more)
      (bindings_told D W free None (of_pattern a.pattern (in_front a)).0 (region-Ty (let_type p free a.typ (behind a).names)) (written_typ (of_type a.typ (behind a)).0)
      (read_is (of_type a.typ (behind a)) (type_of p (in_let.0 free) a.typ (begins (behind a).names free)) (type_read p (in_let.0 free) (let_lenient free) a.typ (begins (behind a).names free) (behind a) refl))
      (subst (λ (E : Declarations). BindsAs E W None (of_pattern a.pattern (in_front a)).0 (written_typ (of_type a.typ (behind a)).0)) (sym same) h.0)) (lets_told more h.1)
