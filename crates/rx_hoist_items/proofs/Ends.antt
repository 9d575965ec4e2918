-- The end of a new function's body: what stands in front of it stays in front.
use Rattle.std.proofs.Common.{◌≡◌, Bool, true, false, List, [], ◌∷◌, ◌++◌, length, map, refl, sym, ap, ◌∙◌, append-nil}
use Rattle.std.specs.Prelude.{◌==◌}
use Rattle.std.proofs.lemmas.Bool.{false≢true}
use Rattle.rx_core.specs.declared.types.Span.{Span}
use Rattle.rx_tree.specs.Plain as plain
use Rattle.rx_tree.specs.Plain.{Expression, OptionalExpression, Statement, ProgramTree}
use Rattle.rx_typed.specs.Types.{Typ}
use Rattle.rx_hoist_extraction.specs.Run.{Parts}
use Rattle.rx_hoist_plan.specs.declared.plan.Variable.{Variable}
use Rattle.rx_hoist_plan.specs.PlainPlan.{plain-Variable}
use Rattle.rx_hoist_extraction.specs.Plan.{Plan, has_enum, names_of}
use Rattle.rx_hoist_extraction.specs.Fresh.{fresh_variable}
use Rattle.rx_hoist_extraction.specs.Made.{joined, let_typed}
use Rattle.rx_hoist_extraction.specs.WrittenTypes.{elided}
use Rattle.rx_hoist_extraction.specs.NewBody.{behind_a, behind_locals, last_of, last_part, with_value, in_tuple}

pub last_of_more : (stays : Bool) (ss : List Statement) (a : Statement) → last_of stays (ss ++ a ∷ []) ≡ behind_locals ss (last_part stays a)
last_of_more stays [] a = refl
last_of_more stays (b ∷ []) a = refl
last_of_more stays (b ∷ c ∷ ss) a = ap (behind_a b) (last_of_more stays (c ∷ ss) a)

behind_nothing : (o : OptionalExpression) (ss : List Statement) → ◌≡◌ {A = Parts} (record { statements = ss; tail = o }) (record { statements = ss ++ []; tail = o })
behind_nothing o ss = ap (λ (l : List Statement). record { statements = l; tail = o }) (sym (append-nil ss))

pub valued_behind : (P : ProgramTree) (pl : Plan) (s : Span) (t : Typ) (ss : List Statement) (e : Expression) (outs : List Expression)
    → with_value P pl s t ss e outs ≡ behind_locals ss (with_value P pl s t [] e outs)
valued_behind P pl s t ss e outs = at (has_enum pl.exits) refl outs
  where
    at : (b : Bool) → has_enum pl.exits ≡ b → (outs : List Expression) → with_value P pl s t ss e outs ≡ behind_locals ss (with_value P pl s t [] e outs)
    at true h outs = rw h (behind_nothing _ ss)
    at false h [] = rw h (behind_nothing _ ss)
    at false h (o ∷ os) = rw h refl

-- the value in a tuple with others
pub tupled : (P : ProgramTree) (pl : Plan) (s : Span) (t : Typ) (e : Expression) (vs : List Variable) (b : Bool) → b ≡ (length vs == 0) → b ≡ false
    → in_tuple P pl s t [] e (map (plain.var s) (names_of (map plain-Variable vs))) ≡ record {
      statements = let_typed s (fresh_variable pl.identifiers 0) (elided P s t) e ∷ [];
      tail = joined s (plain.var s (fresh_variable pl.identifiers 0) ∷ map (plain.var s) (names_of (map plain-Variable vs)));
    }
tupled P pl s t e [] b h f = absurd (false≢true (sym f ∙ h))
tupled P pl s t e (v ∷ vs) b h f = refl
