-- The function of a name: one item after another, and where it stands.
use Rattle.std.proofs.Common.{◌≡◌, ℕ, zero, suc, ◌+◌, ◌<◌, ◌≤◌, Bool, true, false, List, [], ◌∷◌, map, drop, length, get_or, Option, Some, None, slice_get, refl, sym, ap, subst, ◌∙◌, arith}
use Rattle.std.specs.Prelude.{if◌then◌else◌}
use Rattle.std.proofs.Math.ListN.{drop_of_length-le}
use Rattle.rx_core.specs.declared.types.Span.{Span}
use Rattle.rx_core.specs.Bytes.{same_bytes}
use Rattle.rx_tree.specs.declared.tree.Item.{Item}
use Rattle.rx_tree.specs.Plain as plain
use Rattle.rx_tree.specs.Plain.{Function, ItemTree, ProgramTree}
use Rattle.rx_tree.specs.PlainOf.{plain-Item}
use Rattle.rx_hoist_made.proofs.Dropped.{drop_is}
use Rattle.rx_compact_call.specs.Named.{named, or_later, function_named}

-- ---- one step of the loop

pub here : (x : List ℕ) (is : List Item) (i : ℕ) (y : Item) → i < length is → y ≡ get_or is i y
    → function_named x i (map plain-Item (drop i is)) ≡ or_later i (named x (plain-Item y)) (function_named x (i + 1) (map plain-Item (drop (i + 1) is)))
here x is i y h e = ap (λ l. function_named x i (map plain-Item l)) (drop_is is i y h e)
    ∙ ap (λ m. or_later i (named x (plain-Item y)) (function_named x m (map plain-Item (drop (i + 1) is)))) (let n : suc i ≡ i + 1 = omega arith in n)

pub found : (x : List ℕ) (is : List Item) (i : ℕ) (y : Item) (f : Function) (w : Option (ℕ × Function)) → i < length is → y ≡ get_or is i y → Some f ≡ named x (plain-Item y)
    → function_named x i (map plain-Item (drop i is)) ≡ w → Some (i, f) ≡ w
found x is i y f w h e s inv = ap (λ o. or_later i o (function_named x (i + 1) (map plain-Item (drop (i + 1) is)))) s ∙ sym (here x is i y h e) ∙ inv

pub passed : (x : List ℕ) (is : List Item) (i : ℕ) (y : Item) (w : Option (ℕ × Function)) → i < length is → y ≡ get_or is i y → None ≡ named x (plain-Item y)
    → function_named x i (map plain-Item (drop i is)) ≡ w → function_named x (i + 1) (map plain-Item (drop (i + 1) is)) ≡ w
passed x is i y w h e s inv = ap (λ o. or_later i o (function_named x (i + 1) (map plain-Item (drop (i + 1) is)))) s ∙ sym (here x is i y h e) ∙ inv

pub all_passed : (x : List ℕ) (is : List Item) (i : ℕ) (w : Option (ℕ × Function)) → length is ≤ i → function_named x i (map plain-Item (drop i is)) ≡ w → None ≡ w
all_passed x is i w h inv = sym (ap (λ l. function_named x i (map plain-Item l)) (drop_of_length-le is h)) ∙ inv

-- ---- it is the function of its item

pub record Stands (p : ProgramTree) (i : ℕ) (f : Function) : Type 0 where
  pub span : Span
  pub is : slice_get p i ≡ Some (plain.function_item span f)

of_named : (x : List ℕ) (y : ItemTree) (f : Function) → named x y ≡ Some f → (s : Span) × (y ≡ plain.function_item s f)
of_named x (plain.function_item s g) f e = by (same_bytes g.name.name x) e where
  by : (b : Bool) → (if b then Some g else None) ≡ Some f → (r : Span) × (plain.function_item s g ≡ plain.function_item r f)
  by true e = let same : g ≡ f = cc in (s, ap (λ (h : Function). plain.function_item s h) same)
  by false e = absurd (cc)
of_named x (plain.rt_item s r) f e = absurd (cc)
of_named x (plain.struct_item s d) f e = absurd (cc)
of_named x (plain.enum_item s d) f e = absurd (cc)

-- at the first item, or where it stands behind that
at_first : (x : List ℕ) (n : ℕ) (y : ItemTree) (p : ProgramTree) (i : ℕ) (f : Function) (o : Option Function) → named x y ≡ o → or_later n o (function_named x (suc n) p) ≡ Some (i, f)
    → (function_named x (suc n) p ≡ Some (i, f) → (k : ℕ) × (i ≡ suc n + k) × Stands p k f) → (k : ℕ) × (i ≡ n + k) × Stands (y ∷ p) k f
at_first x n y p i f (Some g) is e behind =
    let both : (n, g) ≡ (i, f) = cc in
    let q = of_named x y f (is ∙ ap (λ (z : ℕ × Function). Some z.1) both) in
    (0, (let m : n ≡ i = ap (λ (z : ℕ × Function). z.0) both in omega (arith, m)), record { span = q.0; is = ap (λ (z : ItemTree). Some z) q.1 })
at_first x n y p i f None is e behind = let r = behind e in let m : i ≡ suc n + r.0 = r.1 in (suc r.0, omega (arith, m), record { span = r.2.span; is = r.2.is })

stands_from : (x : List ℕ) (n : ℕ) (p : ProgramTree) (i : ℕ) (f : Function) → function_named x n p ≡ Some (i, f) → (k : ℕ) × (i ≡ n + k) × Stands p k f
stands_from x n [] i f e = absurd (cc)
stands_from x n (y ∷ p) i f e = at_first x n y p i f (named x y) refl e (λ h. stands_from x (suc n) p i f h)

pub stands : (x : List ℕ) (p : ProgramTree) (i : ℕ) (f : Function) → function_named x 0 p ≡ Some (i, f) → Stands p i f
stands x p i f e =
    let r = stands_from x 0 p i f e in
    let same : r.0 ≡ i = (let m : i ≡ 0 + r.0 = r.1 in omega (arith, m)) in subst (λ k. Stands p k f) same r.2
