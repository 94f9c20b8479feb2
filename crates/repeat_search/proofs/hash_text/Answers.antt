use Rattle.repeat_search.proofs.Hashes.{text-hash}
use Rattle.repeat_search.proofs.hash_text.Goals as goal

pub returns : goal.returns
returns c = text-hash c.requires c.word_at-n.ensures c.mix.ensures c.hash_bytes.ensures
