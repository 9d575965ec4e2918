-- Steps of reading in two programs side by side: where the first goes on, the second does, with the same lifetimes.
use Rattle.std.proofs.Common.{◌≡◌, ℕ, suc, List, [], ◌∷◌, ◌++◌, Option, Some, None, Ok, refl, sym, ap, ◌∙◌, subst}
use Rattle.rx_core.specs.declared.types.Span.{Span}
use Rattle.rx_tree.specs.declared.tree.Ident.{Ident}
use Rattle.rx_resolve_names.specs.declared.resolved.NodeNames.{NodeNames}
use Rattle.rx_typeck_typed.specs.Steps.{Outcome, Step, Reading, on_ok, gives, and_then, in_front, an_entry, first, occurs, another}
use Rattle.rx_typeck_typed.specs.Written.{elided, all_elided, one_listed, left_by, listed, as_many, lifetimes_at}
use Rattle.rx_engine_declared.proofs.Reading.{read_ok, read_same, reading, from_left, Role}

-- what the second answers
abbrev pub answers : {A B : Type 0} → B → List NodeNames → A × Reading → Outcome (B × Reading)
answers b l x = Ok (b, reading l x.1.lifetimes x.1.next)

-- from entries l and l' on, both leave the entries m and m'
pub record Goes {A B : Type 0} (R : A → B → Type 0) (f : Step A) (g : Step B) (l l' m m' : List NodeNames) : Type 0 where
  pub go : (ls : List ℕ) (k : ℕ) (q : A × Reading) → f (reading l ls k) ≡ Ok q → (q.1.names ≡ m) × (w : B) × R q.0 w × (g (reading l' ls k) ≡ answers w m' q)

-- whatever both give
abbrev pub Any : {A B : Type 0} → A → B → Type 0
Any a b = Unit {0}

pub goes_gives : {A B : Type 0} {R : A → B → Type 0} (a : A) (b : B) → R a b → (l l' : List NodeNames) → Goes R (gives a) (gives b) l l' l l'
goes_gives {A} {B} {R} a b h l l' = record {
  go = λ ls k q e. let s = read_same (a, reading l ls k) q e in (ap (λ (x : A × Reading). x.1.names) (sym s), b, subst (λ (x : A × Reading). R x.0 b) s h, ap (λ (x : A × Reading). answers b l' x) s);
}

pub goes_then : {A B C D : Type 0} {R : A → B → Type 0} {S : C → D → Type 0} (f : Step A) (g : Step B) (h : A → Step C) (h' : B → Step D) {l l' m m' n n' : List NodeNames}
    → Goes R f g l l' m m' → ((a : A) (b : B) → R a b → Goes S (h a) (h' b) m m' n n') → Goes S (and_then f h) (and_then g h') l l' n n'
goes_then {A} {B} {C} {D} f g h h' {l} {l'} {m} {m'} x y = record {
  go = λ ls k q e.
      let a = read_ok (f (reading l ls k)) (λ p. h p.0 p.1) q e in
      let b = x.go ls k a.0 a.1 in
      let c = (y a.0.0 b.1 b.2).go a.0.1.lifetimes a.0.1.next q (from_left (h a.0.0) m a.0.1 q b.0 a.2) in
      (c.0, c.1, c.2, ap (λ (o : Outcome (B × Reading)). on_ok o (λ p. h' p.0 p.1)) b.3 ∙ c.3);
}

pub goes_map : {A B C D : Type 0} {R : A → B → Type 0} (f : Step A) (g : Step B) (h : A → C) (h' : B → D) {l l' m m' : List NodeNames}
    → Goes R f g l l' m m' → Goes Any (and_then f (λ a. gives (h a))) (and_then g (λ b. gives (h' b))) l l' m m'
goes_map f g h h' {l} {l'} {m} {m'} x = goes_then f g (λ a. gives (h a)) (λ b. gives (h' b)) x (λ a b r. goes_gives (h a) (h' b) tt m m')

pub goes_front : {A B : Type 0} {R : A → B → Type 0} {S : List A → List B → Type 0} (f : Step A) (g : Step B) (fs : Step (List A)) (gs : Step (List B)) {l l' m m' n n' : List NodeNames}
    → Goes R f g l l' m m' → Goes S fs gs m m' n n' → Goes Any (in_front f fs) (in_front g gs) l l' n n'
goes_front f g fs gs x y =
    goes_then f g (λ a. and_then fs (λ more. gives (a ∷ more))) (λ b. and_then gs (λ more. gives (b ∷ more))) x
    (λ a b r. goes_map fs gs (λ more. a ∷ more) (λ more. b ∷ more) y)

-- ---- entries of names

pub goes_entry : (x x' : NodeNames) (l l' : List NodeNames) → Goes (λ a b. (a ≡ x.numbers) × (b ≡ x'.numbers)) an_entry an_entry (x ∷ l) (x' ∷ l') l l'
goes_entry x x' l l' = record {
  go = λ ls k q e. let s = read_same (x.numbers, reading l ls k) q e in
      (ap (λ (y : List ℕ × Reading). y.1.names) (sym s), x'.numbers, (ap (λ (y : List ℕ × Reading). y.0) (sym s), refl), ap (λ (y : List ℕ × Reading). answers x'.numbers l' y) s);
}

-- ---- lifetimes take no entries, and are the same in both

abbrev pub GoesAlike : {A : Type 0} → Step A → Type 0
GoesAlike f = (l l' : List NodeNames) → Goes Any f f l l' l l'

pub occurs_goes : (n : ℕ) → GoesAlike (occurs n)
occurs_goes n l l' = record {
  go = λ ls k q e. let s = read_same (n, reading l (ls ++ n ∷ []) k) q e in
      (ap (λ (y : ℕ × Reading). y.1.names) (sym s), n, tt, ap (λ (y : ℕ × Reading). answers n l' y) s);
}

pub another_goes : GoesAlike another
another_goes l l' = record {
  go = λ ls k q e. let s = read_same (k, reading l (ls ++ k ∷ []) (suc k)) q e in
      (ap (λ (y : ℕ × Reading). y.1.names) (sym s), k, tt, ap (λ (y : ℕ × Reading). answers k l' y) s);
}

-- a lifetime that is left out there
abbrev pub LeavesOut : Role → Type 0
LeavesOut e = (s : Span) → GoesAlike (elided e s)

all_elided_go : (e : Role) → LeavesOut e → (s : Span) (ds : List Ident) → GoesAlike (all_elided e s ds)
all_elided_go e n s [] l l' = goes_gives [] [] tt l l'
all_elided_go e n s (d ∷ ds) l l' = goes_front (elided e s) (elided e s) (all_elided e s ds) (all_elided e s ds) (n s l l') (all_elided_go e n s ds l l')

one_goes : (e : Role) → LeavesOut e → (s : Span) (x : Option Ident) (ns : List ℕ) → GoesAlike (one_listed e s x ns)
one_goes e n s None ns = n s
one_goes e n s (Some x) ns = occurs_goes (first ns)

listed_goes : (e : Role) → LeavesOut e → (s : Span) (xs : List (Option Ident)) (ns : List ℕ) → GoesAlike (listed e s xs ns)
listed_goes e n s [] ns l l' = goes_gives [] [] tt l l'
listed_goes e n s (x ∷ xs) ns l l' =
    goes_front (one_listed e s x ns) (one_listed e s x ns) (listed e s xs (left_by x ns)) (listed e s xs (left_by x ns)) (one_goes e n s x ns l l') (listed_goes e n s xs (left_by x ns) l l')

pub lifetimes_go : (e : Role) → LeavesOut e → (s : Span) (ds : List Ident) (xs : Option (List (Option Ident))) (ns : List ℕ) → GoesAlike (lifetimes_at e s ds xs ns)
lifetimes_go e n s ds None ns l l' = record { go = λ us k q h. (all_elided_go e n s ds l l').go us k q h }
lifetimes_go e n s ds (Some xs) ns l l' = record {
  go = λ us k q h.
      let a = read_ok (as_many e s ds xs) (λ _. listed e s xs ns (reading l us k)) q h in
      let b = (listed_goes e n s xs ns l l').go us k q a.2 in
      (b.0, b.1, b.2, ap (λ (o : Outcome (Unit {0})). on_ok o (λ _. listed e s xs ns (reading l' us k))) a.1 ∙ b.3);
}
