-- The parts of a flow are less deep than it.
use Rattle.std.proofs.Common.{◌≡◌, ◌<◌, ◌+◌, max, List, ap, arith, ℕ}
use denote.Param.Weighed.{most}
use Rattle.rx_lower_walks.specs.declared.flow.Flow.{Flow}
use Rattle.rx_lower_walks.specs.declared.flow.Item.{Item}
use Rattle.rx_lower_walks.specs.declared.flow.Flow.TheViews.{sized-Items, sized-Or, sized-Passes, sized-Do, sized-Else}
use Rattle.rx_lower_walks.specs.declared.flow.Flow.TheVariants as flow_form
use Rattle.rx_lower_walks.specs.declared.flow.Item.TheVariants as item_form
use Rattle.rx_lower_walks.proofs.flow.Flow.TheLaws as flow
use Rattle.rx_lower_walks.proofs.flow.Item.TheLaws as item

pub items_deeper : (f : Flow) (is : List Item) (l : Flow) → f ≡ flow_form.Items is l → max (most item.the_size is) (flow.the_size l) < flow.the_size f
items_deeper f is l e =
    let whole : flow.the_size f ≡ flow.the_size (flow_form.Items is l) = ap flow.the_size e in
    let parts : flow.the_size (flow_form.Items is l) ≡ max (most item.the_size is) (max (flow.the_size l) 0) + 1 = sized-Items is l in
    omega (arith, whole, parts)

pub or_deeper : (f g h : Flow) → f ≡ flow_form.Or g h → max (flow.the_size g) (flow.the_size h) < flow.the_size f
or_deeper f g h e =
    let whole : flow.the_size f ≡ flow.the_size (flow_form.Or g h) = ap flow.the_size e in
    let parts : flow.the_size (flow_form.Or g h) ≡ max (flow.the_size g) (max (flow.the_size h) 0) + 1 = sized-Or g h in
    omega (arith, whole, parts)

pub passes_deeper : (f : Flow) (l : ℕ) (g : Flow) → f ≡ flow_form.Passes l g → flow.the_size g < flow.the_size f
passes_deeper f l g e =
    let whole : flow.the_size f ≡ flow.the_size (flow_form.Passes l g) = ap flow.the_size e in
    let parts : flow.the_size (flow_form.Passes l g) ≡ max 0 (max (flow.the_size g) 0) + 1 = sized-Passes l g in
    omega (arith, whole, parts)

pub do_deeper : (i : Item) (f : Flow) → i ≡ item_form.Do f → flow.the_size f < item.the_size i
do_deeper i f e =
    let whole : item.the_size i ≡ item.the_size (item_form.Do f) = ap item.the_size e in
    let parts : item.the_size (item_form.Do f) ≡ max (flow.the_size f) 0 + 1 = sized-Do f in
    omega (arith, whole, parts)

pub else_deeper : (i : Item) (f : Flow) → i ≡ item_form.Else f → flow.the_size f < item.the_size i
else_deeper i f e =
    let whole : item.the_size i ≡ item.the_size (item_form.Else f) = ap item.the_size e in
    let parts : item.the_size (item_form.Else f) ≡ max (flow.the_size f) 0 + 1 = sized-Else f in
    omega (arith, whole, parts)
