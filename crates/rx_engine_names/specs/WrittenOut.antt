-- What stands for a literal without a suffix and for the missing type of a `let` where kinds and types are written out (Rust Reference,
-- "Integer literal expressions", "let statements"): the kinds and types of their places.
use Rattle.std.specs.Prelude.{◌≡◌, ℕ, Bool, Option, Some, None}
use Rattle.rx_core.specs.declared.types.Span.{Span}
use Rattle.rx_core.specs.declared.types.Kind.{Kind}
use Rattle.rx_tree.specs.Lists.{Every}
use Rattle.rx_tree.specs.Plain.{ProgramTree}
use Rattle.rx_typed.specs.declared.nodes.Node.{Node}
use Rattle.rx_typed.specs.Types as types
use Rattle.rx_typed.specs.Types.{Typ, Shape, Shapes, integer, boolean, tuple_of, reference, no_shape, shape_and}
use Rattle.rx_typed.specs.Named as named
use Rattle.rx_typed.specs.Named.{Written, WrittenTypes, Exp}
use Rattle.rx_hoist_extraction.specs.Plan.{Pins}
use Rattle.rx_hoist_extraction.specs.Pinned.{at_place, suffix_of}
use Rattle.rx_hoist_naming.specs.Words.{NamesTypes}
use Rattle.rx_engine_names.specs.Renaming.{Renaming}
use Rattle.rx_engine_names.specs.LikeNamed.{Holes, no_holes, SameSpan}

-- a type that is written, without lifetimes, is this type
mutual
  pub data Says (R : Renaming) : Shape Kind → Written → Type 0 where
    says_kind : {n : Node} {k : Kind} → Says R (integer k) (named.a_kind n k)
    says_bool : {n : Node} → Says R boolean (named.a_bool n)
    says_tuple : {n : Node} {ts : Shapes Kind} {ws : WrittenTypes} → SayAll R ts ws → Says R (tuple_of ts) (named.a_tuple n ws)
    says_reference : {n : Node} {m : Bool} {t : Shape Kind} {w : Written} → Says R t w → Says R (reference m t) (named.a_reference n m w)
    says_item : {n : Node} {i j : ℕ} → R.item i ≡ j → Says R (types.named i) (named.an_item n j None)

  pub data SayAll (R : Renaming) : Shapes Kind → WrittenTypes → Type 0 where
    says_no_type : SayAll R no_shape named.no_written
    says_more_types : {t : Shape Kind} {ts : Shapes Kind} {w : Written} {ws : WrittenTypes} → Says R t w → SayAll R ts ws → SayAll R (shape_and t ts) (named.written_and w ws)

-- a literal, now with the kind of its place
pub data WithKind (pins : Pins) : Exp → Exp → Type 0 where
  with_kind : {n n' : Node} {m m' : Bool} {v : ℕ} {k : Kind} → SameSpan n n' → suffix_of (at_place pins.kinds n.span) ≡ Some k → WithKind pins (named.int n m v None) (named.int n' m' v (Some k))

-- the type of a `let` that had none, now that of the place of its pattern
pub data WithType (pins : Pins) (R : Renaming) (s : Span) : Option Written → Option Written → Type 0 where
  with_type : {t : Typ} {w : Written} → at_place pins.types s ≡ Some t → Says R t w → WithType pins R s None (Some w)

abbrev pub written_out : Option Pins → Holes
written_out None = no_holes
written_out (Some pins) = record { expression = λ R e e'. WithKind pins e e'; returned = λ R n o e'. ⊥; annotation = WithType pins; block = λ R b b'. ⊥; copied = λ s. Unit {0} }

-- the types that are written out name structs and enums of the program alone
abbrev pub PinsName : ProgramTree → Option Pins → Type 0
PinsName P None = Unit {0}
PinsName P (Some pins) = Every (λ (x : Span × Typ). NamesTypes P x.1) pins.types
