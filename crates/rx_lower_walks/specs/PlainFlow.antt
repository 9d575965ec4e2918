-- The plain flow of a flow of the code: a fold with one step a type, and an equation for each form.
use Rattle.std.specs.Prelude.{◌≡◌, ℕ, List, map}
use Rattle.std.proofs.Common.{ap, sym, ◌∙◌}
use Rattle.rx_typed.specs.Tree as tree
use Rattle.rx_typed.specs.PlainTree.{plain-Constant, plain-Making}
use Rattle.rx_lower_walks.specs.Matching as matching
use Rattle.rx_lower_walks.specs.Actions as actions
use Rattle.rx_lower_walks.specs.Orders as orders
use Rattle.rx_lower_walks.specs.Flows as flow
use Rattle.rx_lower_walks.specs.declared.actions.Temporary.{Temporary}
use Rattle.rx_lower_walks.specs.declared.actions.Root.{Root}
use Rattle.rx_lower_walks.specs.declared.actions.Place.{Place}
use Rattle.rx_lower_walks.specs.declared.actions.Check.{Check}
use Rattle.rx_lower_walks.specs.declared.actions.Made.{Made}
use Rattle.rx_lower_walks.specs.declared.actions.Act.{Act}
use Rattle.rx_lower_walks.specs.declared.actions.Action.{Action}
use Rattle.rx_lower_walks.specs.declared.flow.Exit.{Exit}
use Rattle.rx_lower_walks.specs.declared.flow.Flow.{Flow, Flow-F, fold-Flow, fold-roll-Flow}
use Rattle.rx_lower_walks.specs.declared.flow.Flow.TheOpen as open_flow
use Rattle.rx_lower_walks.specs.declared.flow.Flow.TheVariants as flow_form
use Rattle.rx_lower_walks.specs.declared.flow.Item.{Item, Item-F, fold-Item, fold-roll-Item}
use Rattle.rx_lower_walks.specs.declared.flow.Item.TheVariants as item_form

-- ---- what has no flow in it

abbrev pub plain-Temporary : Temporary → tree.Temporary
plain-Temporary t = record { node = t.node; which = t.which }

abbrev pub plain-Root : Root → tree.Root
plain-Root (Root.Variable x) = tree.variable x
plain-Root (Root.Temporary t) = tree.temporary (plain-Temporary t)

abbrev pub plain-Place : Place → tree.Place
plain-Place p = record { root = plain-Root p.root; steps = p.steps }

abbrev pub plain-Check : Check → matching.Check
plain-Check (Check.HasTag v) = matching.has_tag v
plain-Check (Check.Equals c) = matching.equals (plain-Constant c)

abbrev pub plain-Made : Made → tree.Making
plain-Made (Made.Of w) = plain-Making w
plain-Made Made.Lazy = tree.lazy

abbrev pub plain-Act : Act → actions.Act
plain-Act (Act.Declare x) = actions.Declare x
plain-Act (Act.Dead x) = actions.Dead x
plain-Act (Act.Read v p d) = actions.Read v (plain-Place p) (plain-Temporary d)
plain-Act (Act.Write p t ss) = actions.Write (plain-Place p) (plain-Temporary t) ss
plain-Act (Act.Borrow k p d) = actions.Borrow k (plain-Place p) (plain-Temporary d)
plain-Act (Act.Test p c) = actions.Test (plain-Place p) (plain-Check c)
plain-Act (Act.Call f ts d) = actions.Call f (map plain-Temporary ts) (plain-Temporary d)
plain-Act (Act.Build w is ts d) = actions.Build (plain-Made w) is (map plain-Temporary ts) (plain-Temporary d)
plain-Act (Act.Input d) = actions.Input (plain-Temporary d)
plain-Act (Act.Print t) = actions.Print (plain-Temporary t)
plain-Act (Act.Give t) = actions.Give (plain-Temporary t)

abbrev pub plain-Action : Action → actions.Action
plain-Action a = record { node = a.node; act = plain-Act a.act }

abbrev pub plain-Exit : Exit → orders.Exit
plain-Exit (Exit.Breaks n l) = orders.breaks n l
plain-Exit (Exit.Continues n l) = orders.continues n l
plain-Exit (Exit.Returns n) = orders.returns n

-- ---- flows

abbrev pub flow_step : Flow-F flow.Flow flow.Item → flow.Flow
flow_step open_flow.Nothing = flow.nothing
flow_step open_flow.Nowhere = flow.nowhere
flow_step (open_flow.Act a) = flow.act (plain-Action a)
flow_step (open_flow.Items is f) = flow.items (flow.items_of is (flow.last f))
flow_step (open_flow.Or f g) = flow.or f g
flow_step (open_flow.Leave x) = flow.leave (plain-Exit x)
flow_step (open_flow.Passes l f) = flow.passes l f

abbrev pub item_step : Item-F flow.Flow flow.Item → flow.Item
item_step (open_flow.Do f) = flow.doing f
item_step (open_flow.Ends n x) = flow.ending n x
item_step open_flow.May = flow.may
item_step (open_flow.Else f) = flow.trying f

unfoldable pub plain-Flow : Flow → flow.Flow
plain-Flow = fold-Flow flow.Flow flow.Item flow_step item_step

unfoldable pub plain-Item : Item → flow.Item
plain-Item = fold-Item flow.Flow flow.Item flow_step item_step

pub flow_nothing : plain-Flow flow_form.Nothing ≡ flow.nothing
unfolding plain-Flow plain-Item
flow_nothing =
    ap (λ (x : Flow). fold-Flow flow.Flow flow.Item flow_step item_step x) (sym flow_form.rolls-Nothing)
    ∙ fold-roll-Flow flow.Flow flow.Item flow_step item_step open_flow.Nothing

pub flow_nowhere : plain-Flow flow_form.Nowhere ≡ flow.nowhere
unfolding plain-Flow plain-Item
flow_nowhere =
    ap (λ (x : Flow). fold-Flow flow.Flow flow.Item flow_step item_step x) (sym flow_form.rolls-Nowhere)
    ∙ fold-roll-Flow flow.Flow flow.Item flow_step item_step open_flow.Nowhere

pub flow_act : (a : Action) → plain-Flow (flow_form.Act a) ≡ flow.act (plain-Action a)
unfolding plain-Flow plain-Item
flow_act a =
    ap (λ (x : Flow). fold-Flow flow.Flow flow.Item flow_step item_step x) (sym (flow_form.rolls-Act a))
    ∙ fold-roll-Flow flow.Flow flow.Item flow_step item_step (open_flow.Act a)

pub flow_items : (is : List Item) (f : Flow) → plain-Flow (flow_form.Items is f) ≡ flow.items (flow.items_of (map plain-Item is) (flow.last (plain-Flow f)))
unfolding plain-Flow plain-Item
flow_items is f =
    ap (λ (x : Flow). fold-Flow flow.Flow flow.Item flow_step item_step x) (sym (flow_form.rolls-Items is f))
    ∙ fold-roll-Flow flow.Flow flow.Item flow_step item_step (open_flow.Items is f)

pub flow_or : (f : Flow) (g : Flow) → plain-Flow (flow_form.Or f g) ≡ flow.or (plain-Flow f) (plain-Flow g)
unfolding plain-Flow plain-Item
flow_or f g =
    ap (λ (x : Flow). fold-Flow flow.Flow flow.Item flow_step item_step x) (sym (flow_form.rolls-Or f g))
    ∙ fold-roll-Flow flow.Flow flow.Item flow_step item_step (open_flow.Or f g)

pub flow_leave : (x : Exit) → plain-Flow (flow_form.Leave x) ≡ flow.leave (plain-Exit x)
unfolding plain-Flow plain-Item
flow_leave x =
    ap (λ (x : Flow). fold-Flow flow.Flow flow.Item flow_step item_step x) (sym (flow_form.rolls-Leave x))
    ∙ fold-roll-Flow flow.Flow flow.Item flow_step item_step (open_flow.Leave x)

pub flow_passes : (l : ℕ) (f : Flow) → plain-Flow (flow_form.Passes l f) ≡ flow.passes l (plain-Flow f)
unfolding plain-Flow plain-Item
flow_passes l f =
    ap (λ (x : Flow). fold-Flow flow.Flow flow.Item flow_step item_step x) (sym (flow_form.rolls-Passes l f))
    ∙ fold-roll-Flow flow.Flow flow.Item flow_step item_step (open_flow.Passes l f)

pub item_do : (f : Flow) → plain-Item (item_form.Do f) ≡ flow.doing (plain-Flow f)
unfolding plain-Flow plain-Item
item_do f =
    ap (λ (x : Item). fold-Item flow.Flow flow.Item flow_step item_step x) (sym (item_form.rolls-Do f))
    ∙ fold-roll-Item flow.Flow flow.Item flow_step item_step (open_flow.Do f)

pub item_ends : (n : ℕ) (x : ℕ) → plain-Item (item_form.Ends n x) ≡ flow.ending n x
unfolding plain-Flow plain-Item
item_ends n x =
    ap (λ (x : Item). fold-Item flow.Flow flow.Item flow_step item_step x) (sym (item_form.rolls-Ends n x))
    ∙ fold-roll-Item flow.Flow flow.Item flow_step item_step (open_flow.Ends n x)

pub item_may : plain-Item item_form.May ≡ flow.may
unfolding plain-Flow plain-Item
item_may =
    ap (λ (x : Item). fold-Item flow.Flow flow.Item flow_step item_step x) (sym item_form.rolls-May)
    ∙ fold-roll-Item flow.Flow flow.Item flow_step item_step open_flow.May

pub item_else : (f : Flow) → plain-Item (item_form.Else f) ≡ flow.trying (plain-Flow f)
unfolding plain-Flow plain-Item
item_else f =
    ap (λ (x : Item). fold-Item flow.Flow flow.Item flow_step item_step x) (sym (item_form.rolls-Else f))
    ∙ fold-roll-Item flow.Flow flow.Item flow_step item_step (open_flow.Else f)
