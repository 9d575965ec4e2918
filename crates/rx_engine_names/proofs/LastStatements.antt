-- What becomes of the last statement of a run that nothing follows, and of the list with it: by cases on the last statement.
use Rattle.std.proofs.Common.{◌≡◌, Bool, true, false, List, [], ◌∷◌, ◌++◌, refl, ap}
use Rattle.rx_core.specs.declared.types.Span.{Span}
use Rattle.rx_tree.specs.Plain as plain
use Rattle.rx_tree.specs.Plain.{Expression, Statement}
use Rattle.rx_resolve_names.specs.Meant.{Around}
use Rattle.rx_hoist_extraction.specs.Names.{Names, bound_by}
use Rattle.rx_hoist_extraction.specs.NewBody.{behind_a, last_of}
use Rattle.rx_hoist_extraction.specs.Changed.{Changes, changed_statement}
use Rattle.rx_engine_names.proofs.MovedRows.{changed_list}

-- no expression without `;` is last, so nothing becomes of what the statements become
pub data LastView (xs : List Statement) : Type 0 where
  none_last : ((C : Changes) (own : Names) (ls : List Around) (stays : Bool) → last_of stays (changed_list C own ls xs) ≡ record { statements = changed_list C own ls xs; tail = plain.absent }) → LastView xs
  one_last : (front : List Statement) (s : Span) (e : Expression) → xs ≡ front ++ (plain.expression_statement s e false ∷ []) → LastView xs

more_last : (a b : Statement) (ss : List Statement) → LastView (b ∷ ss) → LastView (a ∷ b ∷ ss)
more_last a b ss (none_last h) = none_last (λ C own ls stays. ap (behind_a (changed_statement C own ls a)) (h C (bound_by a ++ own) ls stays))
more_last a b ss (one_last front s e h) = one_last (a ∷ front) s e (ap (λ (z : List Statement). a ∷ z) h)

pub last_view : (xs : List Statement) → LastView xs
last_view [] = none_last (λ C own ls stays. refl)
last_view (plain.let_statement s p t o ∷ []) = none_last (λ C own ls stays. refl)
last_view (plain.expression_statement s e true ∷ []) = none_last (λ C own ls stays. refl)
last_view (plain.expression_statement s e false ∷ []) = one_last [] s e refl
last_view (a ∷ b ∷ ss) = more_last a b ss (last_view (b ∷ ss))

-- an expression without `;` becomes the tail, or a statement
pub last_becomes : (ys : List Statement) (s : Span) (e : Expression) → last_of false (ys ++ (plain.expression_statement s e false ∷ [])) ≡ record { statements = ys; tail = plain.present e }
last_becomes [] s e = refl
last_becomes (a ∷ []) s e = refl
last_becomes (a ∷ b ∷ ys) s e = ap (behind_a a) (last_becomes (b ∷ ys) s e)

pub last_is_kept : (ys : List Statement) (s : Span) (e : Expression) → last_of true (ys ++ (plain.expression_statement s e false ∷ [])) ≡ record { statements = ys ++ (plain.expression_statement s e true ∷ []); tail = plain.absent }
last_is_kept [] s e = refl
last_is_kept (a ∷ []) s e = refl
last_is_kept (a ∷ b ∷ ys) s e = ap (behind_a a) (last_is_kept (b ∷ ys) s e)
