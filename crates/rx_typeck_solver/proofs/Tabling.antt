-- Tables that are written.
use Rattle.std.proofs.Common.{◌≡◌, ℕ, zero, suc, List, [], ◌∷◌, ◌++◌, get_or, Option, Some, None, refl, sym, ap, ◌∙◌}
use Rattle.rx_typeck_solver.specs.declared.facts.Subject.{Subject}
use Rattle.rx_typeck_solver.specs.declared.facts.Subject.TheVariants as subject
use Rattle.rx_typeck_solver.specs.declared.tables.Tables.{Tables}
use Rattle.rx_typeck_solver.specs.Tabled.{index_of}
use Rattle.std.proofs.Common.{Vec, Global}

-- nothing stands past the end
pub pushed_none : {A : Type 0} (xs : List (Option A)) (z : ℕ) → get_or (xs ++ None ∷ []) z None ≡ get_or xs z None
pushed_none [] zero = refl
pushed_none [] (suc z) = refl
pushed_none (x ∷ xs) zero = refl
pushed_none (x ∷ xs) (suc z) = pushed_none xs z

-- ---- one subject's entry is written

pub put_variables : (t : Tables) (table : Vec (Option ℕ) Global) (n e : ℕ) (x : Subject) → x ≡ subject.Variable n → get_or table.items n None ≡ Some e → index_of (record t { variables = table }) x ≡ Some e
unfolding index_of
put_variables t table n e x q h = ap (λ y. index_of (record t { variables = table }) y) q ∙ h

pub put_variables_other : (t : Tables) (table : Vec (Option ℕ) Global) (n : ℕ) (x : Subject) → x ≡ subject.Variable n → ((z : ℕ) → (z ≡ n → ⊥) → get_or table.items z None ≡ get_or t.variables.items z None) → (z : Subject) → (z ≡ x → ⊥) → index_of (record t { variables = table }) z ≡ index_of t z
unfolding index_of
put_variables_other t table n x q h (subject.Variable m) k = h m (λ e. k (ap subject.Variable e ∙ sym q))
put_variables_other t table n x q h (subject.Node m) k = refl
put_variables_other t table n x q h (subject.Expected m) k = refl

pub put_nodes : (t : Tables) (table : Vec (Option ℕ) Global) (n e : ℕ) (x : Subject) → x ≡ subject.Node n → get_or table.items n None ≡ Some e → index_of (record t { nodes = table }) x ≡ Some e
unfolding index_of
put_nodes t table n e x q h = ap (λ y. index_of (record t { nodes = table }) y) q ∙ h

pub put_nodes_other : (t : Tables) (table : Vec (Option ℕ) Global) (n : ℕ) (x : Subject) → x ≡ subject.Node n → ((z : ℕ) → (z ≡ n → ⊥) → get_or table.items z None ≡ get_or t.nodes.items z None) → (z : Subject) → (z ≡ x → ⊥) → index_of (record t { nodes = table }) z ≡ index_of t z
unfolding index_of
put_nodes_other t table n x q h (subject.Variable m) k = refl
put_nodes_other t table n x q h (subject.Node m) k = h m (λ e. k (ap subject.Node e ∙ sym q))
put_nodes_other t table n x q h (subject.Expected m) k = refl

pub put_expected : (t : Tables) (table : Vec (Option ℕ) Global) (n e : ℕ) (x : Subject) → x ≡ subject.Expected n → get_or table.items n None ≡ Some e → index_of (record t { expected = table }) x ≡ Some e
unfolding index_of
put_expected t table n e x q h = ap (λ y. index_of (record t { expected = table }) y) q ∙ h

pub put_expected_other : (t : Tables) (table : Vec (Option ℕ) Global) (n : ℕ) (x : Subject) → x ≡ subject.Expected n → ((z : ℕ) → (z ≡ n → ⊥) → get_or table.items z None ≡ get_or t.expected.items z None) → (z : Subject) → (z ≡ x → ⊥) → index_of (record t { expected = table }) z ≡ index_of t z
unfolding index_of
put_expected_other t table n x q h (subject.Variable m) k = refl
put_expected_other t table n x q h (subject.Node m) k = refl
put_expected_other t table n x q h (subject.Expected m) k = h m (λ e. k (ap subject.Expected e ∙ sym q))
