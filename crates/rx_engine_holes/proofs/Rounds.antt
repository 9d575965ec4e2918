-- What is asked round a run, where what else stands for something are literals with suffixes.
use Rattle.std.proofs.Common.{◌≡◌, ℕ, Bool, false, ◌||◌, List, [], ◌∷◌, ◌++◌}
use Rattle.rx_core.specs.declared.types.Span.{Span}
use Rattle.rx_typed.specs.declared.nodes.Node.{Node}
use Rattle.rx_typed.specs.Named.{else_diverges, some_diverges, tail_never, Else, Function, Statements}
use Rattle.rx_typeck_solver.specs.declared.facts.Subject.{Subject}
use Rattle.rx_typeck_solver.specs.declared.facts.Demand.{Demand}
use Rattle.rx_typeck_solver.specs.Facts.{Assignment, KnownItems, MeetsEach}
use Rattle.rx_typeck_typed.specs.Demands as rules
use Rattle.rx_engine_blocks.specs.Renumbering.{Renumbering, node_at}
use Rattle.rx_engine_blocks.specs.DemandsLike.{Is, DemandsLike}
use Rattle.rx_engine_blocks.specs.Knows.{Knows}
use Rattle.rx_engine_blocks.specs.Along.{PartialInverse, none_viewed, composed}
use Rattle.rx_engine_blocks.specs.Blocks.{none_behind, AllReferences}
use Rattle.rx_engine_blocks.specs.Parts.{AllAbout, SameAs, StandsFor}
use Rattle.rx_engine_blocks.specs.Around.{Round}
use Rattle.rx_engine_blocks.specs.Around.Round.{instead, ordinary}
use Rattle.rx_engine_blocks.specs.Seen.{SeenDemands}
use Rattle.rx_engine_blocks.specs.Pinned.{PinnedDemands}
use Rattle.rx_engine_blocks.specs.Sites.{ChangedSite}
use Rattle.rx_engine_blocks.proofs.Sites.{changed_stands}
use Rattle.rx_engine_blocks.proofs.Standing.{seen_stands, pinned_stands, one_stands}
use Rattle.rx_engine_typing.specs.Renumbered.{Holes, RenumberedFunction}
use Rattle.rx_engine_typing.proofs.Looks.{Fits}
use Rattle.rx_engine_typing.proofs.Forms.{Asks, its, function_alike}
use Rattle.rx_engine_holes.specs.Run.{with_run}
use Rattle.rx_engine_holes.specs.Special.{special_holes}
use Rattle.rx_engine_holes.proofs.Asking.{special_fits, special_asks}
use Rattle.rx_engine_holes.specs.Tail.{with_tail, of_end}
use Rattle.rx_engine_holes.proofs.Around.{run_fits, run_asks}
use Rattle.rx_engine_holes.proofs.Tails.{tail_fits, tail_asks}

module _ (q : Renumbering) (w : PartialInverse q) (IsFixed : Subject → Type 0) (fs : List Demand) (D E : KnownItems) (known : Knows q D E) (A W : Assignment) (references : AllReferences q w none_viewed none_behind E A fs)
    (met : MeetsEach E W fs) (loops : ℕ → ℕ) (asked given : List Demand) where
  abbrev O : List Demand → List Demand → Type 0
  O = StandsFor q w none_viewed none_behind IsFixed D E A W fs

  abbrev S : List Demand → List Demand → Type 0
  S = Round O asked given

  abbrev H : Holes
  H = special_holes q w none_viewed none_behind A W

  seen : (gs hs : List Demand) → SeenDemands q w none_viewed none_behind gs hs → S gs hs
  seen gs hs z = ordinary (seen_stands q w none_viewed none_behind IsFixed D E known A W fs references met gs hs z)

  pinned : (gs hs : List Demand) → PinnedDemands q A gs hs → S gs hs
  pinned gs hs z = ordinary (pinned_stands q w none_viewed none_behind IsFixed D E known A W fs gs hs z)

  one : (d : Demand) → AllAbout (SameAs (composed q w none_viewed A W) W) d.facts → d.unsuffixed ≡ false → S [] (d ∷ [])
  one d a e = ordinary (one_stands q w none_viewed none_behind IsFixed D E known A W fs d a e)

  changed : (gs hs : List Demand) → ChangedSite q none_viewed D E A gs hs → S gs hs
  changed gs hs z = ordinary (changed_stands q w none_viewed none_behind IsFixed D E known A W fs gs hs z)

  fits : Fits q loops H S
  fits = special_fits (Unit {0}) q w none_viewed none_behind D E A W loops S seen pinned one changed

  asks : Asks q loops H S
  asks = special_asks (Unit {0}) q w none_viewed none_behind D E A W loops S seen pinned one changed

  pub round_alike : (run call : Statements) → Is (some_diverges run) (some_diverges call) → (f g : Function)
      → ((ds : List Demand) → rules.of_statements f.item run ds ≡ ds ++ asked) → ((ds : List Demand) → rules.of_statements (q.items f.item) call ds ≡ ds ++ given)
      → RenumberedFunction q loops (with_run q loops H run call) f g → DemandsLike q S (rules.demands f) (rules.demands g)
  round_alike run call same f g runs calls h = function_alike q loops (with_run q loops H run call) S (run_fits q loops H S fits run call same) f.item
      (run_asks q loops H S fits run call same f.item (its q loops H S fits asks f.item) asked given instead runs calls) h

  pub tail_alike : (n : Node) (s : Span) (d : Bool) (run : Statements) (o : Else) (call : Statements) (o' : Else) → Is (some_diverges run || else_diverges o) (some_diverges call || else_diverges o')
      → Is (tail_never (d || some_diverges run) o) (tail_never (d || some_diverges call) o') → (f g : Function)
      → ((ds : List Demand) → of_end f.item n d run o ds ≡ ds ++ asked) → ((ds : List Demand) → of_end (q.items f.item) (node_at q n s) d call o' ds ≡ ds ++ given)
      → RenumberedFunction q loops (with_tail q loops H n s d run o call o') f g → DemandsLike q S (rules.demands f) (rules.demands g)
  tail_alike n s d run o call o' same same_never f g runs calls h = function_alike q loops (with_tail q loops H n s d run o call o') S (tail_fits q loops H S fits n s d run o call o' same same_never) f.item
      (tail_asks q loops H S fits n s d run o call o' same same_never f.item (its q loops H S fits asks f.item) asked given instead runs calls) h
