use Rattle.std.proofs.Common.{◌∙◌, refl, true≢false, sym}
use Rattle.rx_graph_cycles.proofs.Marking.{fewer_left}
use Rattle.rx_graph_cycles.proofs.Searching.{begins_at, goes_on_at, finds_at, ends_at}
use Rattle.rx_graph_cycles.proofs.search.reaches_itself.Goals as goal

pub loop-next-init : goal.loop-next-init
loop-next-init c =
    let none = c.as_mut_slice-seen.ensures.value ∙ c.in_ok-marks.ensures in
    begins_at c.args.edges.now c.args.node c.requires _ _ _ _ _ none c.new-work.ensures.items c.targets.ensures
    c.in_ok-find_all.ensures.seen c.in_ok-find_all.ensures.work

pub returns-then-next-node : goal.returns-then-next-node
returns-then-next-node c =
    let taken = c.in-Some.ensures.items in
    (λ _. finds_at c.args.edges.now c.args.node _ _ _ _ c.loop-next.invariant taken c.if-next-node.true, λ _. refl)

pub loop-next-smaller : goal.loop-next-smaller
loop-next-smaller c =
    fewer_left c.loop-next.seen _ _ _ c.targets-in-Some.result.now _ _ c.in-Some.ensures.items
    c.in_ok-find_all-2.ensures.seen c.in_ok-find_all-2.ensures.work

pub loop-next-preserved : goal.loop-next-preserved
loop-next-preserved c =
    goes_on_at c.args.edges.now c.args.node _ _ _ _ _ _ _ c.loop-next.invariant c.in-Some.ensures.items
    c.if-next-node.false c.targets-in-Some.ensures
    c.in_ok-find_all-2.ensures.seen c.in_ok-find_all-2.ensures.work

pub returns : goal.returns
returns c =
    let was = c.in_default.ensures in
    let end = ends_at c.args.edges.now c.args.node _ _ _ _ c.loop-next.invariant was.items was.rest was.cases.0 in
    (λ h. absurd (true≢false (sym h)), λ way. absurd (end way))
