-- So the program is accepted where it was, and back where the passes up to initialisation accepted it.
use Rattle.std.proofs.Common.{◌≡◌, ℕ, List, Some, slice_get, sym, subst}
use Rattle.rx_core.specs.declared.types.Bound.{Bound}
use Rattle.rx_core.specs.declared.types.Ty.{Ty}
use Rattle.rx_tree.specs.Plain.{ProgramTree}
use Rattle.rx_tree.specs.Size.{IsNumbered}
use Rattle.rx_typed.specs.declared.declarations.Decl.TheVariants as decl
use Rattle.rx_typed_declarations.specs.Sizes.{Sized}
use Rattle.rx_typeck_typed.specs.HaveTypes.{EachTyped}
use Rattle.rx_typeck_typed.specs.Typing.{IsTyped}
use Rattle.rx_typeck_typed.specs.declared.typed.Typed.{Typed}
use Rattle.rx_compact.specs.Compacted.{IsCompacted}
use Rattle.rx_compact_types.specs.ShortTyped.{ShortProgram}
use Rattle.rx_compact_passes.specs.PassAlike.{PassAlike}
use Rattle.rx_compact_accepted.specs.Alike.{AcceptedAlike}
use Rattle.rx_compact_accepted.proofs.Typed.{Laws}
use Rattle.rx_compact_accepted.proofs.Staying.{lets_stay}
use Rattle.rx_compact_accepted.proofs.Program.{accepts_alike}

pub accepted_alike : Laws → (p : ProgramTree) (i : ℕ) (q : ProgramTree) (c : IsCompacted p i q) → IsNumbered p → IsNumbered q → (s : ShortProgram p i q c.names c.declared)
    → (n : ℕ) (ps : List Ty) (answer : Ty) (bs : List Bound) (at : slice_get c.declared i ≡ Some (decl.Func n ps answer bs)) (t u : Typed) → IsTyped p c.names t → IsTyped q s.news u → EachTyped c.names 0 p t.functions
    → PassAlike t u → AcceptedAlike p q t u
accepted_alike laws p i q c small new_small s n ps answer bs at t u a b every pass =
    let alike = accepts_alike laws p i q c small new_small s n ps answer bs at t u a b every (lets_stay laws p i q c small new_small s n ps answer bs at t u a b) in
    record {
      borrows = alike.0;
      there = λ x. record {
        front = record {
          names = s.news;
          meant = s.meant;
          typed = b;
          covered = pass.covered.0 x.front.covered;
          small = alike.1 x.borrows.implied x.borrows.asked x.front.small;
          parts = x.front.parts;
          sized = subst (λ D. Sized D x.front.parts) (sym pass.declared) x.front.sized;
          initialised = (pass.initialised x.front.parts).0 x.front.initialised;
        };
        borrows = alike.0.0 x.borrows;
      };
      back = λ front x. record { front = front; borrows = alike.0.1 x.borrows };
    }
