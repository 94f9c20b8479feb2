use Rattle.std.proofs.Common.{rules}
use Rattle.alike_names.proofs.Skipping.{basic, named, pointer, array, slice, mapping, channel, port, plain-past, none-past, func-words, func-more, func-past, tuple-words, tuple-past, struct-word, struct-items, struct-past}
use Rattle.alike_names.proofs.skips.past_variant.Goals as goal

pub past_words-results-requires : goal.past_words-results-requires
past_words-results-requires c = func-words c.requires c.in-7.is

pub past_words-requires : goal.past_words-requires
past_words-requires c = func-more c.requires c.in-7.is c.past_words-results.ensures

pub word_at-n-requires : goal.word_at-n-requires
word_at-n-requires c = struct-word c.requires c.in-8.is

pub past_items-requires : goal.past_items-requires
past_items-requires c = struct-items c.requires c.in-8.is c.word_at-n.ensures

pub past_words-requires-in-10 : goal.past_words-requires-in-10
past_words-requires-in-10 c = tuple-words c.requires c.in-10.is

pub returns-in-0 : goal.returns-in-0
returns-in-0 c = plain-past c.requires basic c.in-0.is

pub returns-in-1 : goal.returns-in-1
returns-in-1 c = plain-past c.requires named c.in-1.is

pub returns-in-2 : goal.returns-in-2
returns-in-2 c = plain-past c.requires pointer c.in-2.is

pub returns-in-3 : goal.returns-in-3
returns-in-3 c = plain-past c.requires array c.in-3.is

pub returns-in-4 : goal.returns-in-4
returns-in-4 c = plain-past c.requires slice c.in-4.is

pub returns-in-5 : goal.returns-in-5
returns-in-5 c = plain-past c.requires mapping c.in-5.is

pub returns-in-6 : goal.returns-in-6
returns-in-6 c = plain-past c.requires channel c.in-6.is

pub returns-in-7 : goal.returns-in-7
returns-in-7 c = func-past c.requires c.in-7.is c.past_words-results.ensures c.past_words.ensures

pub returns-in-8 : goal.returns-in-8
returns-in-8 c = struct-past c.requires c.in-8.is c.word_at-n.ensures c.past_items.ensures

pub returns-in-10 : goal.returns-in-10
returns-in-10 c = tuple-past c.requires c.in-10.is c.past_words-in-10.ensures

pub returns-in-11 : goal.returns-in-11
returns-in-11 c = plain-past c.requires port c.in-11.is

pub returns-in_default : goal.returns-in_default
returns-in_default c = none-past c.requires (search rules)
