use Rattle.repeat_search.proofs.Hashes.{lanes-joined}
use Rattle.repeat_search.proofs.hash_bytes.Goals as goal

pub returns : goal.returns
returns c = lanes-joined c.requires c.if-len-lt8.false c.if-len-gt16.false c.join.ensures
