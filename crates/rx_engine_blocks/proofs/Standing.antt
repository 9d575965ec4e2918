-- What stands for demands of the text in a part: a variable behind a reference, a literal with its suffix, demands that are added.
use Rattle.std.proofs.Common.{List, [], ◌∷◌, ◌++◌, map, inl, inr, ◌≡◌, false}
use Rattle.rx_typeck_solver.specs.declared.facts.Subject.{Subject}
use Rattle.rx_typeck_solver.specs.declared.facts.Passing.{Passing}
use Rattle.rx_typeck_solver.specs.declared.facts.Demand.{Demand}
use Rattle.rx_typeck_solver.specs.Facts.{Assignment, KnownItems, MeetsEach}
use Rattle.rx_typeck_solver.specs.Valid.{Told}
use Rattle.rx_engine_blocks.specs.Renumbering.{Renumbering, passing_at}
use Rattle.rx_engine_blocks.specs.Knows.{Knows}
use Rattle.rx_engine_blocks.specs.Along.{PartialInverse, Viewed, composed}
use Rattle.rx_engine_blocks.specs.Blocks.{Behind, AllReferences, ToldIn}
use Rattle.rx_engine_blocks.specs.Parts.{EachPassing, AllAbout, EachAbout, SameAs, Added, StandsFor}
use Rattle.rx_engine_blocks.specs.Seen.{SeenDemands}
use Rattle.rx_engine_blocks.specs.Seen.SeenDemands.{seen_variable, longer, assigned}
use Rattle.rx_engine_blocks.specs.Pinned.{PinnedDemands}
use Rattle.rx_engine_blocks.specs.Pinned.PinnedDemands.{suffixed, in_range}
use Rattle.rx_engine_blocks.proofs.Special.{added, seen_block}
use Rattle.rx_engine_blocks.proofs.Pinning.{pinned_block}
use Rattle.rx_engine_blocks.proofs.Same.{each_same}
use Rattle.rx_engine_blocks.proofs.MadeCode.{no_literals}
use Rattle.rx_engine_blocks.proofs.Told.{each_copied, passings_copied}

module _ (r : Renumbering) (u : PartialInverse r) (view : Viewed) (behind : Behind) (IsFixed : Subject → Type 0) (D D' : KnownItems) (known : Knows r D D') (A V : Assignment) (whole : List Demand) where
  abbrev There : Subject → Type 0
  There = ToldIn r behind whole

  front_passings : (ps qs : List Passing) → EachPassing (Told whole) (ps ++ qs) → EachPassing (Told whole) ps
  front_passings [] qs h = tt
  front_passings (p ∷ ps) qs h = (h.0, front_passings ps qs h.1)

  seen_about : (gs gs' : List Demand) → SeenDemands r u view behind gs gs' → EachAbout (Told whole) gs' → EachAbout There gs
  seen_about gs gs' (seen_variable {y = y} h i v) k = (((inl k.1.0.0.0, (inr (y, h), tt), tt), tt), tt)
  seen_about gs gs' (longer xs anc ps j) k = (
    (
      (
        each_copied r (Told whole) There (λ x t. inl t) xs k.0.0.0,
        passings_copied r (Told whole) There (λ x t. inl t) anc k.0.0.1,
        passings_copied r (Told whole) There (λ x t. inl t) ps (front_passings (map (passing_at r) ps) _ k.0.0.2),
      ),
      tt,
    ),
    tt,
  )
  seen_about gs gs' (assigned n) k = tt

  pub seen_stands : AllReferences r u view behind D' A whole → MeetsEach D' V whole → (gs gs' : List Demand) → SeenDemands r u view behind gs gs' → StandsFor r u view behind IsFixed D D' A V whole gs gs'
  seen_stands references met gs gs' z = record { block = seen_block r u view behind IsFixed D D' known A V whole references met gs gs' z; elsewhere = λ k B o s h. each_same D A B There s gs (seen_about gs gs' z k) h }

  pinned_about : (gs gs' : List Demand) → PinnedDemands r A gs gs' → EachAbout (Told whole) gs' → EachAbout There gs
  pinned_about gs gs' (suffixed n e) k = ((inl k.0.0, tt), tt)
  pinned_about gs gs' (in_range n) k = ((inl k.0.0, tt), tt)

  pub pinned_stands : (gs gs' : List Demand) → PinnedDemands r A gs gs' → StandsFor r u view behind IsFixed D D' A V whole gs gs'
  pinned_stands gs gs' z = record { block = pinned_block r u view behind IsFixed D D' known A V gs gs' z; elsewhere = λ k B o s h. each_same D A B There s gs (pinned_about gs gs' z k) h }

  pub added_stands : (gs' : List Demand) → Added (composed r u view A V) V gs' → StandsFor r u view behind IsFixed D D' A V whole [] gs'
  added_stands gs' h = record { block = added r u view behind IsFixed D D' known A V gs' h; elsewhere = λ k B o s h. tt }

  -- one demand about what has its type there, in any place
  pub one_stands : (d : Demand) → AllAbout (SameAs (composed r u view A V) V) d.facts → d.unsuffixed ≡ false → StandsFor r u view behind IsFixed D D' A V whole [] (d ∷ [])
  one_stands d a e = added_stands (d ∷ []) (record { about = (a, tt); literals = λ n i. no_literals (SameAs (composed r u view A V) V) (d ∷ []) ((a, e), tt) n i })
