-- An accepted program is covered, where what it matches is told by types.
use Rattle.std.proofs.Common.{◌≡◌, ℕ, Bool, sym, subst}
use Rattle.rx_typed.specs.Types.{Declarations}
use Rattle.rx_typed.specs.PlainTypes.{declarations}
use Rattle.rx_typed.specs.Tree.{Temporary, Function}
use Rattle.rx_typed.specs.PlainTree.{plain-TypedTree}
use Rattle.rx_lower_walks.specs.Walks.{Among}
use Rattle.rx_typeck_typed.specs.declared.typed.Typed.{Typed}
use Rattle.rx_typeck_typed.specs.declared.typed.TypedFn.{TypedFn}
use Rattle.rx_cover.specs.Choices.{choices_of}
use Rattle.rx_cover.specs.Causes.{AllCovered}
use Rattle.rx_check.specs.Passes.{FunctionsCovered}
use Rattle.rx_machine.specs.Functions.{typed_functions}
use Rattle.rx_meaning_keeping.specs.Keeping.{IsFunction}
use Rattle.rx_meaning_typed.specs.TypedActs.{Typing}
use Rattle.rx_meaning_covered.specs.Standing.{Standing}
use Rattle.rx_meaning_covered.specs.Begun.{UsesBegun}
use Rattle.rx_meaning_covered.specs.Covered.{CallsFunctions, Answers, ProgramCovered}
use Rattle.rx_meaning_sound.specs.Fresh.{IsFreshChoice, IsFreshLet, StandsFresh}
use Rattle.rx_meaning_sound.specs.Matched.{ChoiceTyped, LetTyped}
use Rattle.rx_meaning_sound.proofs.Programs.{Ranged}
use Rattle.rx_meaning_sound.proofs.Accepted.{function_stands, function_at, function_covered}

module _ (t : Typed) (N : ℕ → Temporary → Bool) (Ts : ℕ → Typing) (declared : (f : ℕ) → (Ts f).declared ≡ declarations t.decls.items)
    (matches : (f : ℕ) (F : Function) → IsFunction (typed_functions (declarations t.decls.items) t.functions) f F → Standing (ChoiceTyped (Ts f)) (LetTyped (Ts f)) F.body) (covered : FunctionsCovered (declarations t.decls.items) t.functions)
    (stands : (g : TypedFn) → Among g t.functions → StandsFresh (plain-TypedTree g.tree)) (begun : (g : TypedFn) → Among g t.functions → UsesBegun (plain-TypedTree g.tree)) (answers : (g : TypedFn) → Among g t.functions → Answers (plain-TypedTree g.tree))
    (calls : (f : ℕ) (F : Function) → IsFunction (typed_functions (declarations t.decls.items) t.functions) f F → CallsFunctions (typed_functions (declarations t.decls.items) t.functions) F)
    (ranged : (f : ℕ) (F : Function) → IsFunction (typed_functions (declarations t.decls.items) t.functions) f F → Ranged (N f) F) where
  pub program_covered : ProgramCovered N Ts (typed_functions (declarations t.decls.items) t.functions)
  program_covered = record {
    functions = λ f F e.
        let D = declarations t.decls.items in
        let x = function_at D t.functions f F e in
        record {
          standing = function_stands (N f) (Ts f) F (subst (λ (z : Declarations). AllCovered z (choices_of F.body)) (sym (declared f)) (subst (λ (z : Function). AllCovered D (choices_of z.body)) x.2 (function_covered t covered x.0 x.1)))
              (subst (λ (z : Function). Standing IsFreshChoice IsFreshLet z.body) x.2 (stands x.0 x.1).fresh) (ranged f F e).1 (matches f F e);
          begun = subst (λ (z : Function). UsesBegun z) x.2 (begun x.0 x.1);
          ranges = (ranged f F e).0;
          calls = calls f F e;
          answers = subst (λ (z : Function). Answers z) x.2 (answers x.0 x.1);
        };
  }
