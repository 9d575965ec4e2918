-- A value of a type that has a value in each part has the shape of the type.
use Rattle.std.proofs.Common.{◌≡◌, ℕ, Bool, true, List, [], ◌∷◌, Some, ◌⊎◌, inl, inr, refl, sym, true≢false}
use Rattle.rx_typed.specs.Types.{Typ, Declarations}
use Rattle.rx_typed.specs.Tree.{Temporary}
use Rattle.rx_lower_walks.specs.Walks.{Among, here, there}
use Rattle.rx_meaning.specs.Values.{Value, value_and, is_set, element, slot_of, State}
use Rattle.rx_meaning_keeping.specs.Pending.{Pending}
use Rattle.rx_meaning_typed.specs.TypedActs.{Typing}
use Rattle.rx_meaning_typed.specs.ValueTypes.{Store, HasType, of_number, of_truth, of_tuple, of_struct, of_enum, of_reference, of_lack, none_typed, each_typed}
use Rattle.rx_meaning_typed.specs.TypedStates.{PendingTyped, StateTyped}
use Rattle.rx_meaning_typed.specs.Shapes.{HasShape}
use Rattle.rx_meaning_typed.proofs.Stores.{all_element}

pub shape_of : (L : Bool) (D : Declarations) (S : Store) {v : Value} {t : Typ} → HasType L D S v t → is_set v ≡ true → HasShape t v
shape_of L D S (of_number {z = z}) s = (z, refl)
shape_of L D S (of_truth {b = b}) s = (b, refl)
shape_of L D S (of_tuple none_typed) s = refl
shape_of L D S (of_tuple (each_typed {v = x} {vs = xs} h hs)) s = (value_and x xs, refl)
shape_of L D S (of_struct {vs = vs} d h) s = (vs, inl refl)
shape_of L D S (of_enum {v = j} {vs = vs} d f h) s = (vs, inr (j, refl))
shape_of L D S (of_reference {i = i} {ps = ps} {m = m} a b c) s = (i, ps, m, refl)
shape_of L D S of_lack s = absurd (true≢false (sym s))

-- what is held
pub pending_shape : (L : Bool) (T : Typing) (S : Store) (t : Temporary) (v : Value) (K : Pending) → PendingTyped L T S K → Among (Some t, v) K → HasShape (T.temporaries t) v
pending_shape L T S t v _ h here = shape_of L T.declared S h.0.0 h.0.1
pending_shape L T S t v _ h (there a) = pending_shape L T S t v _ h.1 a

-- what stands in the slot of a variable
pub variable_shape : (L : Bool) (T : Typing) (S : Store) (s : State) (K : Pending) → StateTyped L T S s K → (x i : ℕ) (v : Value) → slot_of s.frame.slots x ≡ Some i → element s.memory i ≡ Some v → is_set v ≡ true → HasShape (T.variables x) v
variable_shape L T S s K h x i v e g s1 = shape_of L T.declared S (all_element h.memory i v (T.variables x) g (h.variables x i e)) s1
