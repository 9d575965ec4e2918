-- A variable that is declared `mut` stays so in the rest of the text: what numbering makes of the variables that were declared so far.
use Rattle.std.proofs.Common.{◌≡◌, ℕ, zero, suc, Bool, true, false, List, [], ◌∷◌, ◌++◌, get_or, map, take, drop, slice_set, Some, slice_get, sym, ap}
use Rattle.std.proofs.lemmas.Bool.{true≢false}
use Rattle.rx_typed.specs.declared.nodes.Stage.{Stage}
use Rattle.rx_typed.specs.declared.nodes.Declaration.{Declaration}
use Rattle.rx_typed.specs.Naming.{not_declared, as_known, known_among}
use Rattle.rx_typeck_typed.specs.Typing.{is_mutable}

abbrev pub IsMutable : List Declaration → ℕ → Type 0
IsMutable ds x = (get_or ds x not_declared).mutable ≡ true

abbrev pub Grows : List Declaration → List Declaration → Type 0
Grows ds es = (x : ℕ) → IsMutable ds x → IsMutable es x

none_mutable : {A : Type 0} → false ≡ true → A
none_mutable e = absurd (true≢false (sym e))

pub same_grows : (ds : List Declaration) → Grows ds ds
same_grows ds x h = h

pub one_grows : (ds : List Declaration) (d : Declaration) → Grows ds (ds ++ d ∷ [])
one_grows [] d zero h = none_mutable h
one_grows [] d (suc x) h = none_mutable h
one_grows (c ∷ ds) d zero h = h
one_grows (c ∷ ds) d (suc x) h = one_grows ds d x h

pub set_grows : (ds : List Declaration) (y : ℕ) (s : Stage) → Grows ds (slice_set ds y (record (get_or ds y not_declared) { stage = s }))
set_grows [] y s zero h = none_mutable h
set_grows [] y s (suc x) h = none_mutable h
set_grows (c ∷ ds) zero s zero h = h
set_grows (c ∷ ds) zero s (suc x) h = h
set_grows (c ∷ ds) (suc y) s zero h = h
set_grows (c ∷ ds) (suc y) s (suc x) h = set_grows ds y s x h

known_first : (k : ℕ) (ds : List Declaration) → Grows ds (map as_known (take k ds) ++ drop k ds)
known_first zero ds x h = h
known_first (suc k) [] x h = h
known_first (suc k) (c ∷ ds) zero h = h
known_first (suc k) (c ∷ ds) (suc x) h = known_first k ds x h

pub known_grows : (i k : ℕ) (ds : List Declaration) → Grows ds (known_among i k ds)
known_grows zero k ds x h = known_first k ds x h
known_grows (suc i) zero [] x h = h
known_grows (suc i) (suc k) [] x h = h
known_grows (suc i) k (c ∷ ds) zero h = h
known_grows (suc i) k (c ∷ ds) (suc x) h = known_grows i k ds x h

pub listed_mutable : (ds : List Declaration) (x : ℕ) → IsMutable ds x → slice_get (map is_mutable ds) x ≡ Some true
listed_mutable [] zero h = none_mutable h
listed_mutable [] (suc x) h = none_mutable h
listed_mutable (c ∷ ds) zero h = ap (λ (b : Bool). Some b) h
listed_mutable (c ∷ ds) (suc x) h = listed_mutable ds x h
