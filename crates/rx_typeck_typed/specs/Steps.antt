-- Steps of reading the types of an item: each takes the entries of names that it needs, in the order of the text, or
-- says what is wrong; the first fault counts.
use Rattle.std.specs.Prelude.{◌≡◌, ◌≢◌, ℕ, suc, List, [], ◌∷◌, ◌++◌, get_or, drop, Result, Ok, Err}
use Rattle.rx_resolve_names.specs.declared.resolved.NodeNames.{NodeNames}
use Rattle.rx_typeck_typed.specs.declared.fault.DeclareFault.{DeclareFault}
use Rattle.rx_typeck_typed.specs.declared.fault.DeclareFault.TheVariants as fault

abbrev pub Outcome : Type 0 → Type 0
Outcome A = Result A DeclareFault

abbrev pub on_ok : {A B : Type 0} → Outcome A → (A → Outcome B) → Outcome B
on_ok (Ok a) f = f a
on_ok (Err e) f = Err e

-- how far the types of an item are read
pub record Reading : Type 0 where
  -- the entries of names that are left
  pub names : List NodeNames
  -- the lifetimes of the types so far, each as often as it occurs
  pub lifetimes : List ℕ
  -- the number of the next lifetime that is elided
  pub next : ℕ

abbrev pub Step : Type 0 → Type 0
Step A = Reading → Outcome (A × Reading)

abbrev pub gives : {A : Type 0} → A → Step A
gives a r = Ok (a, r)

abbrev pub and_then : {A B : Type 0} → Step A → (A → Step B) → Step B
and_then f g r = on_ok (f r) (λ p. g p.0 p.1)

-- the first of a list, and the others
abbrev pub in_front : {A : Type 0} → Step A → Step (List A) → Step (List A)
in_front f g = and_then f (λ a. and_then g (λ more. gives (a ∷ more)))

-- ---- entries of names

abbrev pub taken : List NodeNames → Reading → List ℕ × Reading
taken [] r = ([], r)
taken (x ∷ xs) r = (x.numbers, record r { names = xs })

-- the numbers of the next entry; none where no entry is left
abbrev pub an_entry : Step (List ℕ)
an_entry r = Ok (taken r.names r)

-- a number that is missing is 0
abbrev pub first : List ℕ → ℕ
first ns = get_or ns 0 0

abbrev pub others : List ℕ → List ℕ
others ns = drop 1 ns

-- ---- lifetimes

-- a lifetime of a type
abbrev pub occurs : ℕ → Step ℕ
occurs l r = Ok (l, record r { lifetimes = r.lifetimes ++ l ∷ [] })

-- a lifetime of its own for a type that leaves it out
abbrev pub another : Step ℕ
another r = occurs r.next (record r { next = suc r.next })

-- what a function that reads ensures: what the definition gives, unless memory fails
abbrev pub Reads : {A : Type 0} → Outcome (A × Reading) → Result A DeclareFault → Reading → Type 0
Reads outcome (Ok a) new = outcome ≡ Ok (a, new)
Reads outcome (Err e) new = e ≢ fault.OutOfMemory → outcome ≡ Err e

-- the same of one that changes a value
abbrev pub Becomes : {A : Type 0} → Outcome A → Result (Unit {0}) DeclareFault → A → Type 0
Becomes outcome (Ok a) new = outcome ≡ Ok new
Becomes outcome (Err e) new = e ≢ fault.OutOfMemory → outcome ≡ Err e

-- the same of one that only gives a value
abbrev pub Gives : {A : Type 0} → Outcome A → Result A DeclareFault → Type 0
Gives outcome (Ok a) = outcome ≡ Ok a
Gives outcome (Err e) = e ≢ fault.OutOfMemory → outcome ≡ Err e
