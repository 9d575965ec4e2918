-- What coverage looks at of a match, in two programs that are one by other numbers of items (Rust Reference, "Patterns", "Match expressions"):
-- neither nodes, nor variables, nor how these bind. Where the second has a shared reference for a mutable one, its patterns look behind that.
use Rattle.std.specs.Prelude.{◌≡◌, ℕ, Bool, true, false, List, [], ◌∷◌, Option, Some, None}
use Rattle.rx_typed.specs.Types.{Typ}
use Rattle.rx_typed.specs.Elaborated.{as_shared}
use Rattle.rx_typed.specs.Tree.{Pattern, any, bind, exactly, parts, variant, behind, Subpatterns, no_part, part_and, Mode, Constant}
use Rattle.rx_cover.specs.Choices.{Choice}
use Rattle.rx_engine_blocks.specs.Renumbering.{Renumbering, shape_at}

module _ (r : Renumbering) where
  mutual
    pub data LikePattern : Pattern → Pattern → Type 0 where
      takes_any : LikePattern any any
      binds : {n n' x x' : ℕ} {m m' : Mode} → LikePattern (bind n x m) (bind n' x' m')
      is_exactly : {n n' : ℕ} {c : Constant} → LikePattern (exactly n c) (exactly n' c)
      has_parts : {ps ps' : Subpatterns} → LikeSubpatterns ps ps' → LikePattern (parts ps) (parts ps')
      is_variant : {n n' i k : ℕ} {b : Bool} {ps ps' : Subpatterns} → LikeSubpatterns ps ps' → LikePattern (variant n i b k ps) (variant n' (r.items i) b k ps')
      is_behind : {m : Bool} {p p' : Pattern} → LikePattern p p' → LikePattern (behind m p) (behind m p')

    pub data LikeSubpatterns : Subpatterns → Subpatterns → Type 0 where
      no_parts : LikeSubpatterns no_part no_part
      more_parts : {i : ℕ} {p p' : Pattern} {ps ps' : Subpatterns} → LikePattern p p' → LikeSubpatterns ps ps' → LikeSubpatterns (part_and i p ps) (part_and i p' ps')

  -- a pattern as it is, or one behind a shared reference that is mutable in the first
  pub data LikeSeen : Bool → Pattern → Pattern → Type 0 where
    as_it_is : {p p' : Pattern} → LikePattern p p' → LikeSeen false p p'
    seen_any : LikeSeen true any any
    seen_binds : {n n' x x' : ℕ} {m m' : Mode} → LikeSeen true (bind n x m) (bind n' x' m')
    behind_shared : {p p' : Pattern} → LikePattern p p' → LikeSeen true (behind true p) (behind false p')

  -- those of one match, all of them seen so
  pub data AllSeen (w : Bool) : List Pattern → List Pattern → Type 0 where
    none_seen : AllSeen w [] []
    more_seen : {p p' : Pattern} {ps ps' : List Pattern} → LikeSeen w p p' → AllSeen w ps ps' → AllSeen w (p ∷ ps) (p' ∷ ps')

  -- the scrutinee's type, but for whether a reference is shared; the second may be Never
  pub data LikeScrutinee : Option Typ → Option Typ → Type 0 where
    is_never : {o : Option Typ} → LikeScrutinee o None
    has_type : {t t' : Typ} → as_shared t' ≡ as_shared (shape_at r t) → LikeScrutinee (Some t) (Some t')

  pub record LikeChoice (w : Bool) (c c' : Choice) : Type 0 where
    pub typ : LikeScrutinee c.typ c'.typ
    pub arms : AllSeen w c.arms c'.arms
