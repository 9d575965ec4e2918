-- What is not told may have any type.
use Rattle.std.proofs.Common.{◌≡◌, ℕ, nat_eq, Bool, true, false, ◌||◌, IsTrue, List, [], ◌∷◌, refl, sym, ap, ◌∙◌, subst, inl, inr, eqb-true}
use Rattle.rx_typed.specs.Types.{peeled}
use Rattle.rx_typeck_solver.specs.declared.facts.Subject.{Subject}
use Rattle.rx_typeck_solver.specs.declared.facts.Subject.TheVariants as subject
use Rattle.rx_typeck_solver.specs.declared.facts.Fact.{Fact}
use Rattle.rx_typeck_solver.specs.declared.facts.Fact.TheVariants as fact
use Rattle.rx_typeck_solver.specs.declared.facts.Demand.{Demand}
use Rattle.rx_typeck_solver.specs.Facts.{Assignment, KnownItems}
use Rattle.rx_typeck_solver.specs.Valid.{Told, Valid}
use Rattle.rx_typeck_solver.specs.Ordered.{asks_integer, AsksInteger, Orderly}
use Rattle.rx_engine_blocks.specs.Blocks.{task_of}
use Rattle.rx_engine_blocks.specs.Parts.{AllAbout, EachAbout}
use Rattle.rx_engine_blocks.proofs.Same.{each_same}
use Rattle.rx_engine_blocks.proofs.Told.{about_told}

module _ (P : Subject → Type 0) where
  -- a literal is asked for its kind, so it is told
  this_or : (m n : ℕ) (b : Bool) → nat_eq m n ≡ b → P (subject.Node m) → (c : Bool) → IsTrue (b || c) → (IsTrue c → P (subject.Node n)) → P (subject.Node n)
  this_or m n true e p c h r = subst (λ k. P (subject.Node k)) (eqb-true m n e) p
  this_or m n false e p c h r = r h

  asked_all : (n : ℕ) (fs : List Fact) → IsTrue (asks_integer n fs) → AllAbout P fs → P (subject.Node n)
  asked_all n [] h a = cc
  asked_all n (fact.Integer m s ∷ fs) h a = this_or m n (nat_eq m n) refl a.0 (asks_integer n fs) h (λ k. asked_all n fs k a.1)
  asked_all n (fact.IntegerBehind m s ∷ fs) h a = this_or m n (nat_eq m n) refl a.0 (asks_integer n fs) h (λ k. asked_all n fs k a.1)
  asked_all n (fact.Equals x o xs ps ∷ fs) h a = asked_all n fs h a.1
  asked_all n (fact.Passes t xs ps qs ∷ fs) h a = asked_all n fs h a.1
  asked_all n (fact.Never ∷ fs) h a = asked_all n fs h a.1

  asked_each : (n : ℕ) (ds : List Demand) → AsksInteger ds n → EachAbout P ds → P (subject.Node n)
  asked_each n [] h a = absurd h
  asked_each n (d ∷ ds) (inl h) a = asked_all n d.facts h.1 a.0
  asked_each n (d ∷ ds) (inr h) a = asked_each n ds h a.1

pub free_elsewhere : (D : KnownItems) (ds : List Demand) → Orderly (task_of ds) → (A B : Assignment) → Valid D (task_of ds) A → ((x : Subject) → Told ds x → A x ≡ B x) → Valid D (task_of ds) B
free_elsewhere D ds o A B v same =
    let about = about_told D A ds o.ordered v.prefers.typed in
    record {
      prefers = record {
        typed = each_same D A B (Told ds) same ds about v.prefers.typed;
        prefers = λ n w. ap peeled (sym (same (subject.Node n) (asked_each (Told ds) n ds (o.literals n w.literal) about))) ∙ v.prefers.prefers n w;
      };
      only_one = λ C p x t. sym (same x t) ∙ v.only_one C p x t;
    }
