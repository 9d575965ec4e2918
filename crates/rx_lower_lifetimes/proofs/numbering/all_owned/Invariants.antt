use Rattle.std.proofs.Common.{◌≡◌, ◌+◌, ◌++◌, map, drop}
use Rattle.rx_lower_walks.specs.Text.{actions_of}
use Rattle.rx_lower_walks.specs.PlainSite.{plain-Site}
use Rattle.rx_lower_lifetimes.specs.Positions.{all_own}
use Rattle.rx_lower_lifetimes.specs.Numbered.{all_owned}
use Rattle.rx_lower_lifetimes.specs.PlainOwn.{plain-Own}
use Rattle.rx_lower_lifetimes.proofs.numbering.all_owned.Given as goal

abbrev pub invariant-loop-site : goal.invariant-loop-site
invariant-loop-site l = record {
  owned : map plain-Own l.all ++ all_owned l.decls.items l.next (actions_of (map plain-Site (drop l.site-index l.sites))) ≡ all_owned l.fn.decls.items l.fn.next (actions_of (map plain-Site l.fn.sites));
  next : l.next + all_own l.decls.items (actions_of (map plain-Site (drop l.site-index l.sites))) ≡ l.fn.next + all_own l.fn.decls.items (actions_of (map plain-Site l.fn.sites));
}
