-- What fills a temporary of the type of a struct or enum is of this type: so each that is made goes to a temporary that has it.
use Rattle.std.proofs.Common.{◌≡◌, ℕ, Bool, true, false, ◌==◌, if◌then◌else◌, List, [], ◌∷◌, ◌++◌, map, Option, Some, None, slice_get, refl, sym, ap, ◌∙◌, subst}
use Rattle.std.specs.Prelude.{get_or}
use Rattle.std.proofs.lemmas.Bool.{true≢false, and_parts}
use Rattle.std.proofs.lemmas.Bool.Decides.{Decides-eqb}
use Rattle.rx_tree.specs.Lists.{Every}
use Rattle.rx_typed.specs.Types as types
use Rattle.rx_typed.specs.Types.{Typ}
use Rattle.rx_typed.specs.PlainTypes.{declarations}
use Rattle.rx_typed.specs.Regions.{RegionTyp, erased}
use Rattle.rx_typed.specs.Tree as tree
use Rattle.rx_typed.specs.Tree.{Temporary, Place, Root, variable, temporary, Making}
use Rattle.rx_lower_walks.specs.Actions.{Act, Declare, Dead, Read, Write, Borrow, Test, Call, Build, Input, Print, Give, Action, does, filled}
use Rattle.rx_lower_walks.specs.Orders as order
use Rattle.rx_lower_walks.specs.Orders.{Order, exit_node, order_function}
use Rattle.rx_lower_walks.specs.Walks.{Among, here, there}
use Rattle.rx_lower_walks.specs.Pieces.{Scope, Variable, Looped, left, graph}
use Rattle.rx_lower_walks.specs.Text.{ending_all, in_text, text, actions_of, Sublist}
use Rattle.rx_lower_walks.specs.Text as texts
use Rattle.rx_lower_lifetimes.specs.Values.{KnownTypes, Held, same, is_held, held_type, open_unit, type_in, made_type, value_type, hold, held_by}
use Rattle.rx_typeck_solver.specs.Facts as facts
use Rattle.rx_typeck_solver.specs.Facts.{Assignment}
use Rattle.rx_typeck_solver.specs.declared.facts.Subject.TheVariants as subject
use Rattle.rx_repair.proofs.Places.{along}
use Rattle.rx_repair.proofs.Settling.{NoItem}
use Rattle.rx_repair.proofs.Erasing.{place_erased, call_erased}
use Rattle.rx_repair.proofs.Patterns as acting

-- ---- of an order, of its text, and of its sites

module _ (Q : Act → Type 0) (ends : (x : ℕ) → Q (Dead x)) where
  abbrev Of : Action → Type 0
  Of a = Q a.act

  both : (us vs : List Action) → Every Of us → Every Of vs → Every Of (us ++ vs)
  both [] vs h k = k
  both (a ∷ us) vs h k = (h.0, both us vs h.1 k)

  all_end : (n : ℕ) (xs : List ℕ) → Every Of (ending_all n xs)
  all_end n [] = tt
  all_end n (x ∷ xs) = (ends x, all_end n xs)

  in_text_holds : (scope : Scope) (s : Order) → acting.Holds Q s → Every Of (in_text scope s)
  in_text_holds scope order.nothing h = tt
  in_text_holds scope order.nowhere h = tt
  in_text_holds scope (order.act a) h = (h, tt)
  in_text_holds scope (order.then s t) h = both (in_text scope s) (in_text scope t) (in_text_holds scope s h.0) (in_text_holds scope t h.1)
  in_text_holds scope (order.or s t) h = both (in_text scope s) (in_text scope t) (in_text_holds scope s h.0) (in_text_holds scope t h.1)
  in_text_holds scope (order.leave x) h = all_end (exit_node x) (left x scope)
  in_text_holds scope order.fail h = tt
  in_text_holds scope (order.otherwise s t) h = both (in_text scope s) (in_text scope t) (in_text_holds scope s h.0) (in_text_holds scope t h.1)
  in_text_holds scope (order.ending n x s) h = both (in_text (Variable x ∷ scope) s) (does n (Dead x) ∷ []) (in_text_holds (Variable x ∷ scope) s h) (ends x, tt)
  in_text_holds scope (order.passes l s) h = in_text_holds (Looped l ∷ scope) s h

  some_hold : (us vs : List Action) → Sublist us vs → Every Of vs → Every Of us
  some_hold _ _ texts.none h = tt
  some_hold _ _ (texts.kept {l = l} {m = m} w) h = (h.0, some_hold l m w h.1)
  some_hold us _ (texts.dropped {m = m} w) h = some_hold us m w h.1

  pub sites_hold : (F : tree.Function) → Sublist (actions_of (graph F)) (text F) → acting.Holds Q (order_function F) → Every Of (actions_of (graph F))
  sites_hold F w h = some_hold (actions_of (graph F)) (text F) w (in_text_holds [] (order_function F) h)

pub one_of : (P : Action → Type 0) (us : List Action) → Every P us → (a : Action) → Among a us → P a
one_of P [] h a i = elim i [ ]
one_of P (b ∷ us) h _ here = h.0
one_of P (b ∷ us) h a (there i) = one_of P us h.1 a i

-- ---- what is held

-- where the type is that of a struct or enum, this is of it
abbrev pub IsOf : Typ → RegionTyp → Type 0
IsOf t r = (i : ℕ) → t ≡ types.named i → erased r ≡ types.named i

module _ (K : KnownTypes) (U : Temporary → Typ) where
  abbrev HeldAs : List Held → Type 0
  HeldAs [] = Unit {0}
  HeldAs (h ∷ hs) = IsOf (U h.temporary) h.typ × HeldAs hs

  -- what an action makes, whatever is held before
  abbrev pub Right : Act → Type 0
  Right a = (d : Temporary) → filled a ≡ Some d → (H : List Held) → IsOf (U d) (value_type K H a)

  one_more : (H : List Held) (x : Held) → HeldAs H → IsOf (U x.temporary) x.typ → HeldAs (H ++ x ∷ [])
  one_more [] x h k = (k, tt)
  one_more (y ∷ H) x h k = (h.0, one_more H x h.1 k)

  hold_as : (H : List Held) (o : Option Temporary) (t : RegionTyp) → HeldAs H → ((d : Temporary) → o ≡ Some d → IsOf (U d) t) → HeldAs (hold H o t)
  hold_as H None t h k = h
  hold_as H (Some d) t h k = by (is_held H d)
    where
      by : (b : Bool) → HeldAs (if b then H else H ++ record { temporary = d; typ = t } ∷ [])
      by true = h
      by false = one_more H (record { temporary = d; typ = t }) h (k d refl)

  held_as : (us : List Action) (H : List Held) → Every (λ (a : Action). Right a.act) us → HeldAs H → HeldAs (held_by K H us)
  held_as [] H r h = h
  held_as (a ∷ us) H r h = held_as us (hold H (filled a.act) (value_type K H a.act)) r.1 (hold_as H (filled a.act) (value_type K H a.act) h (λ d e. r.0 d e H))

  same_is : (s t : Temporary) → same s t ≡ true → s ≡ t
  same_is s t e =
      let x = and_parts (s.node == t.node) (s.which == t.which) e in
      let a = (Decides-eqb s.node t.node).0 x.0 in
      let b = (Decides-eqb s.which t.which).0 x.1 in
      λ j. record { node = a j; which = b j }

  found_as : (H : List Held) (d : Temporary) → HeldAs H → is_held H d ≡ true → IsOf (U d) (held_type H d)
  found_as [] d h e = absurd (true≢false (sym e))
  found_as (x ∷ H) d h e = by (same x.temporary d) refl (found_as H d h.1) e
    where
      by : (b : Bool) → same x.temporary d ≡ b → (is_held H d ≡ true → IsOf (U d) (held_type H d)) → (if b then true else is_held H d) ≡ true → IsOf (U d) (if b then x.typ else held_type H d)
      by true s k e = subst (λ (z : Temporary). IsOf (U z) x.typ) (same_is x.temporary d s) h.0
      by false s k e = k e

  pub all_found : (us : List Action) → Every (λ (a : Action). Right a.act) us → (d : Temporary) → is_held (held_by K [] us) d ≡ true → IsOf (U d) (held_type (held_by K [] us) d)
  all_found us r d e = found_as (held_by K [] us) d (held_as us [] r tt) e

-- ---- what an action makes

module _ (S : facts.KnownItems) (A : Assignment) (U : Temporary → Typ) (K : KnownTypes) (declared : declarations K.items ≡ S.items) (variables : (x : ℕ) → erased (get_or K.variables x open_unit).typ ≡ A (subject.Variable x)) where
  no_item_is : (t : Typ) (r : RegionTyp) → NoItem t → IsOf t r
  no_item_is t r h i e = absurd (subst NoItem e h)

  read_right : (p : Place) (t : Typ) → acting.Reads S A U p t → (H : List Held) → IsOf t (type_in K H p)
  read_right p t h H i e =
      let x = h.0 in
      let r = (get_or K.variables x open_unit).typ in
      ap (λ (z : Root). erased (places_type z)) h.1 ∙ (place_erased K.items r p.steps
      ∙ (ap (λ (D : types.Declarations). along D (erased r) p.steps) declared ∙ (ap (λ (u : Typ). along S.items u p.steps) (variables x) ∙ (h.2 ∙ e))))
    where
      places_type : Root → RegionTyp
      places_type z = type_in K H (record { root = z; steps = p.steps })

  made_right : (w : Making) (t : Typ) (ts : List RegionTyp) → acting.Gets S A U w t → IsOf t (made_type K.items w ts)
  made_right (tree.struct j) t ts h i e = sym h ∙ e
  made_right (tree.variant_of j v) t ts h i e = sym h ∙ e
  made_right (tree.constant c) t ts h i e = no_item_is t (made_type K.items (tree.constant c) ts) h i e
  made_right tree.negation t ts h i e = no_item_is t (made_type K.items tree.negation ts) h i e
  made_right tree.inversion t ts h i e = no_item_is t (made_type K.items tree.inversion ts) h i e
  made_right (tree.operation o) t ts h i e = no_item_is t (made_type K.items (tree.operation o) ts) h i e
  made_right tree.lazy t ts h i e = no_item_is t (made_type K.items tree.lazy ts) h i e
  made_right tree.tuple t ts h i e = no_item_is t (made_type K.items tree.tuple ts) h i e

  some_is : (d e : Temporary) → ◌≡◌ {A = Option Temporary} (Some d) (Some e) → d ≡ e
  some_is d e q = cc

  pub right_if : (a : Act) → acting.Fills S A U a → Right K U a
  right_if (Read m p d) h z q H = subst (λ (t : Temporary). IsOf (U t) (type_in K H p)) (some_is d z q) (read_right p (U d) h H)
  right_if (Borrow k p d) h z q H = subst (λ (t : Temporary). IsOf (U t) (value_type K H (Borrow k p d))) (some_is d z q) (no_item_is (U d) (value_type K H (Borrow k p d)) h)
  right_if (Call g ts d) h z q H = subst (λ (t : Temporary). IsOf (U t) (value_type K H (Call g ts d))) (some_is d z q) (λ i e. call_erased K.items g (types.named i) (ap (λ (D : types.Declarations). types.result_declared (slice_get D g)) declared ∙ (h ∙ ap (λ (t : Typ). Some t) e)))
  right_if (Build w is ts d) h z q H = subst (λ (t : Temporary). IsOf (U t) (value_type K H (Build w is ts d))) (some_is d z q) (made_right w (U d) (map (held_type H) ts) h)
  right_if (Input d) h z q H = subst (λ (t : Temporary). IsOf (U t) (value_type K H (Input d))) (some_is d z q) (no_item_is (U d) (value_type K H (Input d)) h)
  right_if (Declare x) h z q H = absurd (cc)
  right_if (Dead x) h z q H = absurd (cc)
  right_if (Write p t ss) h z q H = absurd (cc)
  right_if (Test p c) h z q H = absurd (cc)
  right_if (Print t) h z q H = absurd (cc)
  right_if (Give t) h z q H = absurd (cc)
