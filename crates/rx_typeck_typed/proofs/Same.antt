-- The sizes of a typed program's declarations: what is recorded of lifetimes counts for nothing.
use Rattle.std.proofs.Common.{ℕ, List, sym, subst}
use Rattle.rx_tree.specs.Plain.{ProgramTree}
use Rattle.rx_resolve_names.specs.declared.resolved.ItemNames.{ItemNames}
use Rattle.rx_typed.specs.declared.declarations.Decl.{Decl}
use Rattle.rx_typed.specs.Types.{Declarations}
use Rattle.rx_typed.specs.PlainTypes.{declarations}
use Rattle.rx_typed_declarations.specs.Sizes.{Sized, IsSizes, told}
use Rattle.rx_typed_declarations.proofs.Polarities.{same_declared}
use Rattle.rx_typeck_typed.specs.Programs.{Declares}
use Rattle.rx_typeck_typed.specs.declared.typed.Typed.{Typed}
use Rattle.rx_typeck_typed.specs.Typing.{IsTyped}

pub typed_sized : ((p : ProgramTree) (names : List ItemNames) (items : List Decl) (sizes : List ℕ) → Declares p names items
    → IsSizes (declarations items) sizes → Sized (declarations items) (told sizes))
    → (p : ProgramTree) (names : List ItemNames) (t : Typed) (sizes : List ℕ) → IsTyped p names t
    → IsSizes (declarations t.decls.items) sizes → Sized (declarations t.decls.items) (told sizes)
typed_sized sized p names t sizes typed is =
    let same = same_declared t.decls.items typed.declared typed.same in
    subst (λ (D : Declarations). Sized D (told sizes)) (sym same)
    (sized p names typed.declared sizes typed.declares (subst (λ (D : Declarations). IsSizes D sizes) same is))
