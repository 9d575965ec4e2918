use Rattle.rx_splice_edits.proofs.moving.Moving.is_enclosed.Goals as goal

pub before_dot-requires : goal.before_dot-requires
before_dot-requires c = c.args.self.now.decided.ordered

pub after_slash-requires : goal.after_slash-requires
after_slash-requires c = c.args.self.now.decided.ordered
