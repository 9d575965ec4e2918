-- A part of a variable's own storage is written where the variable is declared `mut` (Rust Reference, "Mutability"): what the rules of types
-- ask of an assignment is told of the place that it writes.
use Rattle.std.proofs.Common.{◌≡◌, ℕ, Bool, true, false, not, ◌&&◌, ◌||◌, List, [], ◌∷◌, ◌++◌, refl, sym, ap, ◌∙◌, subst, IsTrue}
use Rattle.std.proofs.lemmas.Bool.{true≢false}
use Rattle.rx_core.specs.declared.types.Step.{Step}
use Rattle.rx_core.specs.declared.types.Step.TheVariants as step
use Rattle.rx_typed.specs.declared.nodes.Node.{Node}
use Rattle.rx_typed.specs.declared.nodes.Use.{Use}
use Rattle.rx_typed.specs.Types as types
use Rattle.rx_typed.specs.Types.{Typ, integer, boolean, tuple_of, reference, references, outermost}
use Rattle.rx_typed.specs.Named as named
use Rattle.rx_typed.specs.Named.{Exp, node_of, is_variable, root}
use Rattle.rx_typed.specs.Elaborated as elaborated
use Rattle.rx_typed.specs.Elaborated.{Assigned, dereferences, dereference}
use Rattle.rx_typed.specs.Tree.{Place, variable}
use Rattle.rx_facts_tables.specs.Setting.{is_behind}
use Rattle.rx_facts_tables.specs.Wholes.{is_all}
use Rattle.rx_typeck_solver.specs.declared.facts.Subject.TheVariants as subject
use Rattle.rx_typeck_solver.specs.declared.facts.Passing.{Passing}
use Rattle.rx_typeck_solver.specs.Facts.{Assignment, KnownItems, passed, is_none, all_mutable}
use Rattle.rx_typeck_typed.specs.Demands as rules
use Rattle.rx_typeck_typed.specs.Demands.{through}
use Rattle.rx_hoist_naming.proofs.Claims.{Claims}
use Rattle.rx_meaning_accepted.proofs.Uses.{UsedExp, root_fits}
use Rattle.rx_meaning_accepted.proofs.Asking.{Asks, asks_map, none, one_asked}

-- what is written is no part of a variable's own storage, or the variable is such
abbrev pub PartFits : (ℕ → Type 0) → Place → Type 0
PartFits M p = (x : ℕ) → p.root ≡ variable x → is_behind p.steps ≡ false → is_all p.steps ≡ false → M x

pub whole_fits : (M : ℕ → Type 0) (p : Place) → p.steps ≡ [] → PartFits M p
whole_fits M p e x r b a = absurd (true≢false (sym (ap is_all e) ∙ a))

-- ---- dereferences

front_direct : (a b : List Step) → is_behind (a ++ b) ≡ false → is_behind a ≡ false
front_direct [] b h = refl
front_direct (step.Field i ∷ a) b h = front_direct a b h
front_direct (step.Variant v ∷ a) b h = front_direct a b h
front_direct (step.Deref m ∷ a) b h = h

rest_direct : (a b : List Step) → is_behind (a ++ b) ≡ false → is_behind b ≡ false
rest_direct [] b h = h
rest_direct (step.Field i ∷ a) b h = rest_direct a b h
rest_direct (step.Variant v ∷ a) b h = rest_direct a b h
rest_direct (step.Deref m ∷ a) b h = absurd (true≢false h)

all_none : (t : Typ) (ss : List Step) (q : List Bool) → is_behind (dereferences t ++ ss) ≡ false → is_none q ≡ true → is_none (references t ++ q) ≡ true
all_none (integer k) ss q h n = n
all_none boolean ss q h n = n
all_none (tuple_of ts) ss q h n = n
all_none (reference m t) ss q h n = absurd (true≢false h)
all_none (types.named i) ss q h n = n

one_none : (t : Typ) (q : List Bool) → is_behind (dereference t) ≡ false → is_none q ≡ true → is_none (outermost t ++ q) ≡ true
one_none (integer k) q h n = n
one_none boolean q h n = n
one_none (tuple_of ts) q h n = n
one_none (reference m t) q h n = absurd (true≢false h)
one_none (types.named i) q h n = n

module _ (K : KnownItems) (A : Assignment) where
  abbrev T : Assigned
  T = record { items = K.items; typ = λ n. A (subject.Node n); expected = λ n. A (subject.Expected n) }

  at_root : (e : Exp) → (elaborated.place T e).root ≡ variable (root e).number
  at_root (named.var n u) = refl
  at_root (named.field n e x) = at_root e
  at_root (named.part n e i) = at_root e
  at_root (named.deref n e) = at_root e
  at_root _ = refl

  -- a place that is behind no dereference goes through no reference
  direct : (e : Exp) → is_behind (elaborated.place T e).steps ≡ false → is_none (passed A (through e)) ≡ true
  direct (named.field n e x) h =
      let t = A (subject.Node (node_of e).number) in let ss = step.Field (elaborated.field_in K.items (types.peeled t) x) ∷ [] in
      all_none t ss (passed A (through e)) (rest_direct (elaborated.place T e).steps (dereferences t ++ ss) h) (direct e (front_direct (elaborated.place T e).steps (dereferences t ++ ss) h))
  direct (named.part n e i) h =
      let t = A (subject.Node (node_of e).number) in let ss = step.Field i ∷ [] in
      all_none t ss (passed A (through e)) (rest_direct (elaborated.place T e).steps (dereferences t ++ ss) h) (direct e (front_direct (elaborated.place T e).steps (dereferences t ++ ss) h))
  direct (named.deref n e) h =
      let t = A (subject.Node (node_of e).number) in
      one_none t (passed A (through e)) (rest_direct (elaborated.place T e).steps (dereference t) h) (direct e (front_direct (elaborated.place T e).steps (dereference t) h))
  direct _ h = refl

  -- ---- what is asked

  second_holds : (a b : Bool) → IsTrue (a && b) → b ≡ true
  second_holds true b h = h
  second_holds false b h = absurd (true≢false (sym h))

  pub assignable_asks : (n : Node) (w : Bool) (u : Use) (ps : List Passing) → Asks K A (w ≡ false → (u.mutable || not (is_none (passed A ps))) ≡ true) (rules.assignable_at n w u ps)
  assignable_asks n true u ps = asks_map (λ h e. absurd (true≢false e)) none
  assignable_asks n false u ps = asks_map (λ h e. second_holds (all_mutable (passed A ps)) (u.mutable || not (is_none (passed A ps))) h.0) (one_asked n _ _ _)

  own_holds : (a b : Bool) → (a || not b) ≡ true → b ≡ true → a ≡ true
  own_holds true b h e = refl
  own_holds false b h e = absurd (true≢false (sym h ∙ ap not e))

  not_whole : (e : Exp) → is_all (elaborated.place T e).steps ≡ false → (is_variable e ≡ false → (root e).mutable ≡ true) → (root e).mutable ≡ true
  not_whole (named.var n u) a h = absurd (true≢false a)
  not_whole (named.field n e x) a h = h refl
  not_whole (named.part n e x) a h = h refl
  not_whole (named.deref n e) a h = h refl
  not_whole _ a h = absurd (true≢false a)

  pub written_fits : (C : Claims) (M : ℕ → Type 0) (e : Exp) → UsedExp C M e → (is_variable e ≡ false → ((root e).mutable || not (is_none (passed A (through e)))) ≡ true) → PartFits M (elaborated.place T e)
  written_fits C M e u h x r b a =
      let m = not_whole e a (λ w. own_holds (root e).mutable (is_none (passed A (through e))) (h w) (direct e b)) in
      let same : (root e).number ≡ x = (let q : variable (root e).number ≡ variable x = sym (at_root e) ∙ r in cc) in
      subst M same (root_fits C M e u m)
