-- A match that is a covered one by other numbers of items is covered.
use Rattle.std.proofs.Common.{◌≡◌, ℕ, ◌≤◌, Bool, List, Option, option_map, slice_get, sym, subst}
use Rattle.rx_typed.specs.Types.{Typ, Declarations}
use Rattle.rx_typed.specs.Tree.{Pattern}
use Rattle.rx_cover.specs.Choices.{Choice}
use Rattle.rx_cover.specs.Causes.{Covered, CoversTyp}
use Rattle.rx_cover.specs.Width.{width, limit}
use Rattle.rx_engine_blocks.specs.Renumbering.{Renumbering, declared_at}
use Rattle.rx_engine_typing.specs.Corresponding.{StayApart}
use Rattle.rx_engine_covered.specs.LikeChoices as like
use Rattle.rx_engine_covered.specs.LikeChoices.{LikeChoice, LikeScrutinee, AllSeen}
use Rattle.rx_engine_covered.proofs.Values.{covers_there}
use Rattle.rx_engine_covered.proofs.Widths.{same_width}

module _ (r : Renumbering) (apart : StayApart r.items) (D E : Declarations) (items : (i : ℕ) → slice_get E (r.items i) ≡ option_map (declared_at r) (slice_get D i)) where
  covers_typ : {w : Bool} {o o' : Option Typ} {ps ps' : List Pattern} → LikeScrutinee r o o' → AllSeen r w ps ps' → CoversTyp D o ps → CoversTyp E o' ps'
  covers_typ like.LikeScrutinee.is_never l c = tt
  covers_typ {w} {ps = ps} {ps' = ps'} (like.LikeScrutinee.has_type {t = t} {t' = t'} e) l c = covers_there r D E items w t t' e ps ps' l c

  pub narrow_there : {w : Bool} {ps ps' : List Pattern} → AllSeen r w ps ps' → width ps ≤ limit → width ps' ≤ limit
  narrow_there l n = subst (λ (k : ℕ). k ≤ limit) (sym (same_width r apart l)) n

  pub choice_there : (w : Bool) (c d : Choice) → LikeChoice r w c d → Covered D c → Covered E d
  choice_there w c d l k = record { narrow = narrow_there l.arms k.narrow; covers = covers_typ l.typ l.arms k.covers }
