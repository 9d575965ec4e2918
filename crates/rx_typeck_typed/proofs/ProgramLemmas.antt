-- What is wrong with the declarations of a program is wrong with the program.
use Rattle.std.proofs.Common.{◌≡◌, ◌≢◌, List, map, Result, Ok, Err, IfErr, subst}
use Rattle.rx_tree.specs.declared.tree.Item.{Item}
use Rattle.rx_tree.specs.PlainOf.{plain-Item}
use Rattle.rx_tree.specs.Plain.{ProgramTree}
use Rattle.rx_resolve_names.specs.declared.resolved.ItemNames.{ItemNames}
use Rattle.rx_typed.specs.declared.declarations.Decl.{Decl}
use Rattle.rx_typed.specs.PlainTypes.{declarations}
use Rattle.rx_typeck_typed.specs.declared.fault.DeclareFault.{DeclareFault}
use Rattle.rx_typeck_typed.specs.declared.fault.DeclareFault.TheVariants as fault
use Rattle.rx_typeck_typed.specs.Items.{declared_items}
use Rattle.rx_typeck_typed.specs.Programs.{Unfit, Wrong, unfit}

wrong : {A : Type 0} (p : ProgramTree) (ns : List ItemNames) (ds : List Decl) (r : Result A DeclareFault)
    → declared_items p ns 0 p ≡ Ok ds
    → IfErr r (λ e. e ≢ fault.OutOfMemory → Unfit p (declarations ds) e)
    → IfErr r (λ e. e ≢ fault.OutOfMemory → Wrong p ns e)
wrong p ns ds (Ok a) is h = h
wrong p ns ds (Err e) is h = λ other. unfit ds is (h other)

pub wrong_at : {A : Type 0} (is js : List Item) (ns : List ItemNames) (ds : List Decl) (r : Result A DeclareFault)
    → is ≡ js
    → declared_items (map plain-Item is) ns 0 (map plain-Item is) ≡ Ok ds
    → IfErr r (λ e. e ≢ fault.OutOfMemory → Unfit (map plain-Item is) (declarations ds) e)
    → IfErr r (λ e. e ≢ fault.OutOfMemory → Wrong (map plain-Item js) ns e)
wrong_at is js ns ds r same told h =
    subst (λ (l : List Item). IfErr r (λ e. e ≢ fault.OutOfMemory → Wrong (map plain-Item l) ns e)) same
    (wrong (map plain-Item is) ns ds r told h)
