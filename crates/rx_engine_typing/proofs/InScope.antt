-- What is in scope where a part stands, and the loops round it: variables and loops by their numbers, as they are counted.
use Rattle.std.proofs.Common.{◌≡◌, ℕ, zero, suc, ◌+◌, ◌≤◌, ◌<◌, Bool, true, false, List, [], ◌∷◌, length, Option, Some, inl, inr, sym, ◌∙◌, subst, arith, if◌then◌else◌}
use Rattle.std.specs.Str.{bytes_eq}
use Rattle.rx_core.specs.declared.types.Position.{Position}
use Rattle.rx_tree.specs.declared.tree.Ident.{Ident}
use Rattle.rx_resolve_names.specs.Scopes as scopes
use Rattle.rx_resolve_names.specs.Scopes.{DeclaredNames, Variables, Variable, variable_named}
use Rattle.rx_resolve_names.specs.declared.resolved.ItemNames.{ItemNames}
use Rattle.rx_resolve_names.specs.Meant.{number, Around, a_loop, a_test, Target, to_loop, out_of_test, nowhere, through_test, is_meant, target}
use Rattle.rx_resolve_names.specs.Steps.{with_loop}
use Rattle.rx_resolve_names.specs.Names.{Bound}
use Rattle.rx_typed.specs.Naming.{Numbering}
use Rattle.rx_typeck_solver.specs.Valid.{IsIn}
use Rattle.rx_engine_typing.specs.Scoped as spec
use Rattle.rx_engine_typing.specs.Scoped.{entered, AllNew, behind, behind_all, IsPlaced, ScopedExp, ScopedExps, ScopedElse, ScopedFields, ScopedArms, ScopedBody, ScopedStatement, ScopedStatements}
use Rattle.rx_engine_typing.proofs.Steps.{one_more, Few, few_before, Grows}
use Rattle.rx_engine_typing.proofs.ScopedPatterns.{from_number, Numbered, Binds}

-- ---- what is in scope

abbrev pub Below : spec.Around → ℕ → Type 0
Below xs k = (n : ℕ) → IsIn n xs → n < k

-- the scope's variables, and the loops round it
pub record Here (sc : Variables) (ls : List Around) (xs js : spec.Around) : Type 0 where
  pub variables : (x : List ℕ) (n : ℕ) → variable_named sc x ≡ Some n → IsIn n xs
  pub loops : (l : Option Ident) (n : ℕ) → target l ls ≡ to_loop n → IsIn n js

-- where variables and loops are few; each is one that was counted
pub record Stands (sc : Variables) (ls : List Around) (xs js : spec.Around) (t : ItemNames) : Type 0 where
  pub here : Few t → Here sc ls xs js
  pub variables : Below xs (length t.vars)
  pub loops : Below js (length t.loops)

pub later : {sc : Variables} {ls : List Around} {xs js : spec.Around} {t t1 : ItemNames} → Grows t t1 → Stands sc ls xs js t → Stands sc ls xs js t1
later g w = let a = g.vars in let b = g.loops in record {
  here = λ f. w.here (few_before g f);
  variables = λ n i. let l = w.variables n i in omega (arith, l, a);
  loops = λ n i. let l = w.loops n i in omega (arith, l, b);
}

as_kept : (n : ℕ) → n < 4294967296 → number n ≡ n
as_kept n h = omega (arith, h)

-- ---- new variables

pub all_new : (xs : spec.Around) (n k : ℕ) → Below xs n → AllNew xs (from_number n k)
all_new xs n zero b = tt
all_new xs n (suc k) b = ((λ i. let l = b n i in absurd (omega (arith, l))), all_new (n ∷ xs) (suc n) k (below_next xs n b))
  where
    below_next : (xs : spec.Around) (n : ℕ) → Below xs n → Below (n ∷ xs) (suc n)
    below_next xs n b m (inl e) = omega (arith, e)
    below_next xs n b m (inr i) = let l = b m i in omega (arith, l)

below_entered : (xs : spec.Around) (n k : ℕ) → Below xs n → Below (entered xs (from_number n k)) (n + k)
below_entered xs n zero b m i = let l = b m i in omega (arith, l)
below_entered xs n (suc k) b m i = let l = below_entered (n ∷ xs) (suc n) k (below_next xs n b) m i in omega (arith, l)
  where
    below_next : (xs : spec.Around) (n : ℕ) → Below xs n → Below (n ∷ xs) (suc n)
    below_next xs n b m (inl e) = omega (arith, e)
    below_next xs n b m (inr i) = let l = b m i in omega (arith, l)

one_entered : (xs : spec.Around) (v : Variable) (sc : Variables) → IsIn v.number xs → ((x : List ℕ) (n : ℕ) → variable_named sc x ≡ Some n → IsIn n xs) → (x : List ℕ) (n : ℕ) → variable_named (v ∷ sc) x ≡ Some n → IsIn n xs
one_entered xs v sc i h x n = by (bytes_eq x v.name) (h x n)
  where
    by : (b : Bool) → (variable_named sc x ≡ Some n → IsIn n xs) → (if b then Some v.number else variable_named sc x) ≡ Some n → IsIn n xs
    by true r e = let s : v.number ≡ n = cc in subst (λ (z : ℕ). IsIn z xs) s i
    by false r e = r e

all_entered : (ds : DeclaredNames) (sc : Variables) (xs : spec.Around) (n k : ℕ) → Numbered ds (from_number n k) → n + k ≤ 4294967296 → ((x : List ℕ) (m : ℕ) → variable_named sc x ≡ Some m → IsIn m xs)
    → (x : List ℕ) (m : ℕ) → variable_named (scopes.entered sc ds) x ≡ Some m → IsIn m (entered xs (from_number n k))
all_entered [] sc xs n zero d l h = h
all_entered [] sc xs n (suc k) d l h = absurd d
all_entered (v ∷ ds) sc xs n zero d l h = absurd d
all_entered (v ∷ ds) sc xs n (suc k) d l h =
    all_entered ds (record { name = v.0; number = v.1.number } ∷ sc) (n ∷ xs) (suc n) k d.1 (omega (arith, l))
    (one_entered (n ∷ xs) (record { name = v.0; number = v.1.number }) sc (inl (d.0 ∙ as_kept n (omega (arith, l)))) (λ x m e. inr (h x m e)))

-- behind a pattern whose names enter the scope
pub stands_entered : {sc : Variables} {ls : List Around} {xs js : spec.Around} {t : ItemNames} {A : Type 0} {of : A → List ℕ} {m : Numbering A} (b1 : Bound) (x : Binds (record { bindings = []; tables = t }) b1 of m) → Stands sc ls xs js t
    → Stands (scopes.entered sc b1.bindings) ls (entered xs (from_number (length t.vars) x.count)) js b1.tables
stands_entered {sc} {ls} {xs} {js} {t} b1 x w = let v = x.vars in let l = x.loops in record {
  here = λ f. let h = w.here (few_before x.part.grows f) in let g = f.0 in record {
    variables = subst (λ (ds : DeclaredNames). (y : List ℕ) (m : ℕ) → variable_named (scopes.entered sc ds) y ≡ Some m → IsIn m (entered xs (from_number (length t.vars) x.count))) (sym x.names)
        (all_entered x.further sc xs (length t.vars) x.count x.numbers (omega (arith, v, g)) h.variables);
    loops = h.loops;
  };
  variables = subst (λ (k : ℕ). Below (entered xs (from_number (length t.vars) x.count)) k) (sym v) (below_entered xs (length t.vars) x.count w.variables);
  loops = λ n i. let k = w.loops n i in omega (arith, k, l);
}

-- ---- new loops

through_not : (x : Target) (n : ℕ) → through_test x ≡ to_loop n → ⊥
through_not (to_loop m) n e = cc
through_not out_of_test n e = cc
through_not nowhere n e = cc

loops_in : (k : Option Ident) (ls : List Around) (js : spec.Around) (m : ℕ) → m < 4294967296 → ((l : Option Ident) (n : ℕ) → target l ls ≡ to_loop n → IsIn n js) → (l : Option Ident) (n : ℕ) → target l (a_loop k (number m) ∷ ls) ≡ to_loop n → IsIn n (m ∷ js)
loops_in k ls js m few h l n = by (is_meant l k) (h l n)
  where
    by : (b : Bool) → (target l ls ≡ to_loop n → IsIn n js) → (if b then to_loop (number m) else target l ls) ≡ to_loop n → IsIn n (m ∷ js)
    by true r e = let s : number m ≡ n = cc in inl (sym s ∙ as_kept m few)
    by false r e = inr (r e)

-- in a loop that is new
pub stands_in_loop : {sc : Variables} {ls : List Around} {xs js : spec.Around} {t : ItemNames} (p : Position) (k : Option Ident) → Stands sc ls xs js t → Stands sc (a_loop k (number (length t.loops)) ∷ ls) xs (length t.loops ∷ js) (with_loop p t)
stands_in_loop {sc} {ls} {xs} {js} {t} p k w = let m = one_more t.loops p in record {
  here = λ f. let g = f.1 in let h = w.here (f.0, omega (arith, g, m)) in record { variables = h.variables; loops = loops_in k ls js (length t.loops) (omega (arith, g, m)) h.loops };
  variables = w.variables;
  loops = λ n i. in_it n i;
}
  where
    in_it : (n : ℕ) → IsIn n (length t.loops ∷ js) → n < length (with_loop p t).loops
    in_it n (inl e) = let m = one_more t.loops p in omega (arith, e, m)
    in_it n (inr i) = let m = one_more t.loops p in let l = w.loops n i in omega (arith, l, m)

-- where a jump leaves a test
pub stands_in_test : {sc : Variables} {ls : List Around} {xs js : spec.Around} {t : ItemNames} → Stands sc ls xs js t → Stands sc (a_test ∷ ls) xs js t
stands_in_test {ls = ls} w = record { here = λ f. let h = w.here f in record { variables = h.variables; loops = λ l n e. absurd (through_not (target l ls) n e) }; variables = w.variables; loops = w.loops }

pub new_loop_is : {sc : Variables} {ls : List Around} {xs js : spec.Around} {t : ItemNames} → Stands sc ls xs js t → IsIn (length t.loops) js → ⊥
new_loop_is {t = t} w i = let l = w.loops (length t.loops) i in absurd (omega (arith, l))
