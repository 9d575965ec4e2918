-- A program that is equal apart from spans to an accepted one is accepted.
use Rattle.std.proofs.Common.{◌≡◌, ℕ, List, [], ◌∷◌, refl, sym, ap, subst, ◌∙◌}
use Rattle.rx_core.specs.declared.types.Bound.{Bound}
use Rattle.rx_core.specs.declared.types.Span.{Span}
use Rattle.rx_tree.specs.Plain.{ProgramTree}
use Rattle.rx_tree.specs.Erase.{SameProgram}
use Rattle.rx_typed.specs.declared.declarations.Decl.{Decl}
use Rattle.rx_typed.specs.declared.declarations.Decls.{Decls}
use Rattle.rx_typed.specs.Types.{Declarations}
use Rattle.rx_typed_declarations.specs.Sizes.{Sized}
use Rattle.rx_typed.specs.PlainTypes.{declarations}
use Rattle.rx_typeck_typed.specs.declared.typed.Typed.{Typed}
use Rattle.rx_typeck_typed.specs.declared.typed.TypedFn.{TypedFn}
use Rattle.rx_cover.specs.Causes.{AllCovered}
use Rattle.rx_facts.specs.Functions.{IsInitialised, IsSmall}
use Rattle.rx_facts.specs.Passing.{AllAre}
use Rattle.rx_check.specs.Answers.{AllBorrow}
use Rattle.rx_check.specs.Contexts.{AreAsked}
use Rattle.rx_check.specs.Functions.{Borrows}
use Rattle.rx_check.specs.Passes.{matches_of, Accepted, Fronted, FunctionsCovered, IsAccepted, IsFront}
use Rattle.rx_check_laws.specs.SameTyped.{SameFunction, SameFunctions, SameTyped}
use Rattle.rx_check_laws.proofs.Typed.{typed_there, TypedThere}

abbrev at_places : TypedFn → List Span → List Span → TypedFn
at_places t xs ss = record t { names = xs; spans = ss }

-- what holds of each function whatever its places
all_there : (P : TypedFn → Type 0) → ((f : TypedFn) (xs ss : List Span) → P f → P (at_places f xs ss)) → (fs gs : List TypedFn) → SameFunctions fs gs → AllAre P fs → AllAre P gs
all_there P k [] [] h a = tt
all_there P k [] (g ∷ gs) h a = elim h [ ]
all_there P k (f ∷ fs) [] h a = elim h [ ]
all_there P k (f ∷ fs) (g ∷ gs) h a = (subst P (sym h.0) (k f g.names g.spans a.0), all_there P k fs gs h.1 a.1)

covered_there : (D : Declarations) (fs gs : List TypedFn) → SameFunctions fs gs → FunctionsCovered D fs → FunctionsCovered D gs
covered_there D [] [] h a = tt
covered_there D [] (g ∷ gs) h a = elim h [ ]
covered_there D (f ∷ fs) [] h a = elim h [ ]
covered_there D (f ∷ fs) (g ∷ gs) h a = (subst (λ (k : TypedFn). AllCovered D (matches_of k)) (sym h.0) a.0, covered_there D fs gs h.1 a.1)

small_there : (items : List Decl) (f : TypedFn) (xs ss : List Span) → IsSmall items f → IsSmall items (at_places f xs ss)
small_there items f xs ss h = record { sites = h.sites; positions_are = h.positions_are }

initialised_there : (D : Declarations) (P : ℕ → ℕ) (f : TypedFn) (xs ss : List Span) → IsInitialised D P f → IsInitialised D P (at_places f xs ss)
initialised_there D P f xs ss h = h

borrows_there : (items : List Decl) (implied : ℕ → List Bound) (f : TypedFn) (xs ss : List Span) → Borrows items implied f → Borrows items implied (at_places f xs ss)
borrows_there items implied f xs ss h = h

front_there : (p q : ProgramTree) (t : Typed) (f : IsFront p t) (u : TypedThere q t) → IsFront q u.typed
front_there p q t f u = record {
  names = u.names;
  meant = u.meant;
  typed = u.is;
  covered = subst (λ (items : List Decl). FunctionsCovered (declarations items) u.typed.functions) (sym (items_same u.same)) (covered_there (declarations t.decls.items) t.functions u.typed.functions u.same.functions f.covered);
  small = subst (λ (items : List Decl). AllAre (IsSmall items) u.typed.functions) (sym (items_same u.same)) (all_there (IsSmall t.decls.items) (small_there t.decls.items) t.functions u.typed.functions u.same.functions f.small);
  parts = f.parts;
  sized = subst (λ (items : List Decl). Sized (declarations items) f.parts) (sym (items_same u.same)) f.sized;
  initialised = subst (λ (items : List Decl). AllAre (IsInitialised (declarations items) f.parts) u.typed.functions) (sym (items_same u.same))
      (all_there (IsInitialised (declarations t.decls.items) f.parts) (initialised_there (declarations t.decls.items) f.parts) t.functions u.typed.functions u.same.functions f.initialised);
}
  where
    items_same : {v : Typed} → SameTyped t v → v.decls.items ≡ t.decls.items
    items_same s = ap (λ (d : Decls). d.items) s.declared

borrow_there : (t u : Typed) → SameTyped t u → AllBorrow t → AllBorrow u
borrow_there t u s b = record {
  implied = b.implied;
  asked = subst (λ (items : List Decl). AreAsked items b.implied) (sym items_same) b.asked;
  each = subst (λ (items : List Decl). AllAre (Borrows items b.implied) u.functions) (sym items_same) (all_there (Borrows t.decls.items b.implied) (borrows_there t.decls.items b.implied) t.functions u.functions s.functions b.each);
}
  where
    items_same : u.decls.items ≡ t.decls.items
    items_same = ap (λ (d : Decls). d.items) s.declared

pub accepted_there : (p q : ProgramTree) → SameProgram p q → (t : Typed) → IsAccepted p t → (u : Typed) × IsAccepted q u × SameTyped t u
accepted_there p q e t a = let u = typed_there p q e a.front.names a.front.meant t a.front.typed in
    (u.typed, record { front = front_there p q t a.front u; borrows = borrow_there t u.typed u.same a.borrows }, u.same)

pub front_accepted_there : (p q : ProgramTree) → SameProgram p q → (t : Typed) → IsFront p t → (u : Typed) × IsFront q u × SameTyped t u
front_accepted_there p q e t f = let u = typed_there p q e f.names f.meant t f.typed in (u.typed, front_there p q t f u, u.same)
