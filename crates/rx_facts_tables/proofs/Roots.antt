-- Roots that are the same.
use Rattle.std.proofs.Common.{◌≡◌, Bool, true, false, ◌&&◌, ◌==◌, refl, ap, sym, ◌∙◌, true≢false}
use Rattle.std.proofs.lemmas.Bool.Decides.{Decides-eqb}
use Rattle.rx_lower_walks.specs.declared.actions.Root.{Root}
use Rattle.rx_lower_walks.specs.PlainFlow.{plain-Root}
use Rattle.rx_typed.specs.TypedPlaces.{same_root}

pub both_true : (a b : Bool) → (a && b) ≡ true → (a ≡ true) × (b ≡ true)
both_true true b h = (refl, h)
both_true false b h = absurd (true≢false (sym h))

pub not_true : (b : Bool) → (b ≡ true → ⊥) → b ≡ false
not_true true h = absurd (h refl)
not_true false h = refl

pub same_is : (r s : Root) → same_root (plain-Root r) (plain-Root s) ≡ true → r ≡ s
same_is (Root.Variable x) (Root.Variable y) h = ap (λ n. Root.Variable n) ((Decides-eqb x y).0 h)
same_is (Root.Variable x) (Root.Temporary t) h = absurd (true≢false (sym h))
same_is (Root.Temporary s) (Root.Variable y) h = absurd (true≢false (sym h))
same_is (Root.Temporary s) (Root.Temporary t) h =
    let b = both_true (s.node == t.node) (s.which == t.which) h in
    ap (λ n. Root.Temporary (record { node = n; which = s.which })) ((Decides-eqb s.node t.node).0 b.0)
    ∙ ap (λ n. Root.Temporary (record { node = t.node; which = n })) ((Decides-eqb s.which t.which).0 b.1)

pub itself : (r : Root) → same_root (plain-Root r) (plain-Root r) ≡ true
itself (Root.Variable x) = (Decides-eqb x x).1 refl
itself (Root.Temporary t) = ap (λ b. b && (t.which == t.which)) ((Decides-eqb t.node t.node).1 refl) ∙ (Decides-eqb t.which t.which).1 refl

pub other : (r s : Root) → (r ≡ s → ⊥) → same_root (plain-Root r) (plain-Root s) ≡ false
other r s h = not_true (same_root (plain-Root r) (plain-Root s)) (λ e. h (same_is r s e))
