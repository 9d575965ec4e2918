use Rattle.std.proofs.Common.{rules, of_calls, arith}
use Rattle.std.specs.Prelude.{nat_lt}
use Rattle.std.proofs.lemmas.Fn.{always_returns_same}
use Rattle.rx_splice_edits.proofs.TokenPlaces.{starts_rise, below, front_split, rest_split}
use Rattle.rx_splice_edits.proofs.tokens.count_in_front.Goals as goal

pub returns-clause-front : goal.returns-clause-front
returns-clause-front c =
    let ts = c.args.tokens.now in
    let at = c.args.at in
    let point = c.partition_point.ensures.partitioned (λ t. nat_lt t.span.start at) (always_returns_same _ _ _ (λ a r f k. search (rules, of_calls)))
    (λ i j d l m up. below _ _ at (starts_rise 0 ts c.requires i j d l m) up) in
    front_split at ts c.partition_point.result c.partition_point.ensures.bound (λ k d m. point.0 k d (omega arith) m) (λ k d l m. point.1 k d l m)

pub returns-clause-rest : goal.returns-clause-rest
returns-clause-rest c =
    let ts = c.args.tokens.now in
    let at = c.args.at in
    let point = c.partition_point.ensures.partitioned (λ t. nat_lt t.span.start at) (always_returns_same _ _ _ (λ a r f k. search (rules, of_calls)))
    (λ i j d l m up. below _ _ at (starts_rise 0 ts c.requires i j d l m) up) in
    rest_split at ts c.partition_point.result c.partition_point.ensures.bound (λ k d m. point.0 k d (omega arith) m) (λ k d l m. point.1 k d l m)
