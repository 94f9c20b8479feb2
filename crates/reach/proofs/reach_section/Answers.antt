use Rattle.vob24.specs.Settings.{settings_of}
use Rattle.vob24.specs.Grammar.{section}
use Rattle.reach.proofs.Laws.{reached-not, reached-whole}
use Rattle.reach.proofs.reach_section.Goals as goal

pub returns-in-Err : goal.returns-in-Err
returns-in-Err c = reached-not (settings_of c.args.set.now) c.args.to c.field_magic-r1.ensures c.field_version-r2.ensures c.with_number-start.ensures c.section_number-i.ensures c.number_sections-at.ensures c.number_sections-last.ensures c.in-Err.is c.place_of-section.ensures

pub returns-in-Ok : goal.returns-in-Ok
unfolding section
returns-in-Ok c = reached-whole (settings_of c.args.set.now) c.args.to c.field_magic-r1.ensures c.field_version-r2.ensures c.with_number-start.ensures c.section_number-i.ensures c.number_sections-at.ensures c.number_sections-last.ensures c.in-Ok.is c.place_of-section.ensures c.inline_sources-end.ensures
