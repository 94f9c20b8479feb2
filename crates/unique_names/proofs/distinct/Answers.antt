use Rattle.unique_names.proofs.Accepting.{none-repeats}
use Rattle.unique_names.proofs.distinct.Goals as goal

pub settled-requires : goal.settled-requires
settled-requires c = (c.requires.0, none-repeats c.args.table c.args.s.now c.args.from c.args.n c.if-again.true c.requires.2, c.requires.1)
