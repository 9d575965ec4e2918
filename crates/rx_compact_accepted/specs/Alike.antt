-- Functions of two programs that are accepted alike, as their lifetimes and loans are judged (RFC 2094, "Named lifetimes"; "Access legality").
use Rattle.std.specs.Prelude.{◌≡◌, ◌≢◌, ◌↔◌, ℕ, ◌<◌, List, map, slice_get}
use Rattle.rx_core.specs.declared.types.Bound.{Bound}
use Rattle.rx_tree.specs.Plain.{ProgramTree}
use Rattle.rx_typed.specs.declared.declarations.Decl.{Decl}
use Rattle.rx_lower_lifetimes.specs.Values.{lifetimes_of}
use Rattle.rx_lower.specs.Functions.{written}
use Rattle.rx_typeck_typed.specs.declared.typed.TypedFn.{TypedFn}
use Rattle.rx_typeck_typed.specs.declared.typed.Typed.{Typed}
use Rattle.rx_check.specs.Answers.{AllBorrow}
use Rattle.rx_check.specs.Functions.{Borrows}
use Rattle.rx_check.specs.Passes.{IsFront, IsAccepted}
use Rattle.rx_typeck_typed.specs.Bindings.{lifetimes}
use Rattle.rx_compact.specs.Outliving.{Outlives}
use Rattle.rx_compact_types.specs.ShortLets.{extended}
use Rattle.rx_compact_accepted.specs.LetsUnder.{LetsUnder}

-- by what is declared in both, and the pairs that the fields of each item ask
abbrev pub BorrowAlike : List Decl → List Decl → (ℕ → List Bound) → TypedFn → TypedFn → Type 0
BorrowAlike D E P f g = Borrows D P f ↔ Borrows E P g

-- where it isn't the function of item i
abbrev pub OthersAlike : List Decl → List Decl → (ℕ → List Bound) → ℕ → TypedFn → TypedFn → Type 0
OthersAlike D E P i f g = f.item ≢ i → BorrowAlike D E P f g

-- the `let`s of the one write what those of the other do, where the signature goes by these numbers
abbrev pub LetsStay : List Decl → List Decl → (ℕ → ℕ) → TypedFn → TypedFn → Type 0
LetsStay D E m f g = LetsUnder (extended m (lifetimes_of (slice_get D f.item)) (lifetimes_of (slice_get E f.item))) (map written f.annotations) (map written g.annotations)

-- of the function of item i
abbrev pub LetsStayAt : List Decl → List Decl → ℕ → (ℕ → ℕ) → TypedFn → TypedFn → Type 0
LetsStayAt D E i m f g = f.item ≡ i → LetsStay D E m f g

-- two typed programs: lifetimes and loans are accepted in the one exactly where they are in the other; the second is accepted where the
-- first is, and the first where the second is and the passes up to initialisation accept it
pub record AcceptedAlike (p q : ProgramTree) (t u : Typed) : Type 0 where
  pub borrows : AllBorrow t ↔ AllBorrow u
  pub there : IsAccepted p t → IsAccepted q u
  pub back : IsFront p t → IsAccepted q u → IsAccepted p t

-- as much is known of the lifetimes of the function of item i, where those of the second go by these numbers
abbrev pub KnowTheSame : List Decl → List Decl → ℕ → (ℕ → ℕ) → Type 0
KnowTheSame D E i m = (l k : ℕ) → l < lifetimes (slice_get D i) → k < lifetimes (slice_get D i) → Outlives E (slice_get E i) (m l) (m k) ↔ Outlives D (slice_get D i) l k
