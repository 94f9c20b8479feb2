use Rattle.in_place.proofs.Places.{item-name}
use Rattle.in_place.specs.Tables.{item_of}
use Rattle.repeat_search.proofs.Hashes.{hash-plain, hash-identity, hash-alike}
use Rattle.repeat_search.proofs.hash_key.Goals as goal

pub hash_name-requires : goal.hash_name-requires
hash_name-requires c = item-name (item_of c.args.table) c.requires

pub hash_folded-requires : goal.hash_folded-requires
hash_folded-requires c = item-name (item_of c.args.table) c.requires

pub hash_name-requires-in_default : goal.hash_name-requires-in_default
hash_name-requires-in_default c = item-name (item_of c.args.table) c.requires

pub returns-in-Identities : goal.returns-in-Identities
returns-in-Identities c = hash-identity c.requires c.in-Identities.is c.hash_package.ensures c.hash_name.ensures

pub returns-in-Alike : goal.returns-in-Alike
returns-in-Alike c = hash-alike c.requires c.in-Alike.is c.hash_folded.ensures

pub returns-in_default : goal.returns-in_default
returns-in_default c = hash-plain _ c.requires c.in_default.not-Identities c.in_default.not-Alike c.hash_name-in_default.ensures
