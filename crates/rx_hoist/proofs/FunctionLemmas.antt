-- What the new function is made of.
use Rattle.std.proofs.Common.{◌≡◌, List, [], Option, Some, None, refl, ap, ◌∙◌}
use Rattle.std.specs.Prelude.{option_map}
use Rattle.std.specs.Borrow.{Bor}
use Rattle.std.specs.Option.{option_copied}
use Rattle.rx_core.specs.declared.types.Span.{Span}
use Rattle.rx_tree.specs.declared.tree.Expr.{Expr}
use Rattle.rx_tree.specs.declared.tree.Ident.{Ident}
use Rattle.rx_tree.specs.Plain.{Body, Function, ProgramTree}
use Rattle.rx_tree.specs.PlainOf.{plain-Expr, optional_of}
use Rattle.rx_resolve_names.specs.Meant.{Around}
use Rattle.rx_hoist_extraction.specs.Run.{Parts, block_of, numbered}
use Rattle.rx_hoist_extraction.specs.Plan.{Plan}
use Rattle.rx_hoist_extraction.specs.Moved.{moving}
use Rattle.rx_hoist_extraction.specs.NewBody.{moved_parts, new_body, new_parts}
use Rattle.rx_hoist_extraction.specs.NewFunction.{copied_lifetimes, new_function}
use Rattle.rx_hoist_items.specs.Signatures.{function_of}

pub tail_now : (o : Option (Bor Expr)) → optional_of (option_map (λ e. plain-Expr e.now) o) ≡ optional_of (option_map plain-Expr (option_copied o))
tail_now None = refl
tail_now (Some e) = refl

pub body_made : (P : ProgramTree) (pl : Plan) (s : Span) (ls : List Around) (run given moved : Parts) (b : Body) → given ≡ run → moved ≡ moved_parts (moving pl s) ls given
    → b ≡ block_of s (new_parts P pl s moved) → b ≡ new_body P pl s ls run
body_made P pl s ls run given moved b same is made = made ∙ ap (λ m. block_of s (new_parts P pl s m)) (is ∙ ap (moved_parts (moving pl s) ls) same)

pub function_made : (P : ProgramTree) (pl : Plan) (s : Span) (labels : List (Option Ident)) (run : Parts) (copied : List Ident) (b : Body) (made : Function)
    → copied ≡ copied_lifetimes run → b ≡ new_body P pl s (numbered 1 labels) run → made ≡ function_of P pl s copied b → made ≡ new_function P pl [] s (numbered 1 labels) run
function_made P pl s labels run copied b made named body is =
    is ∙ ap (function_of P pl s copied) body ∙ ap (λ (ls : List Ident). function_of P pl s ls (new_body P pl s (numbered 1 labels) run)) named
